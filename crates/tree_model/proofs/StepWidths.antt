-- Widths and sizes after each command.
use Rattle.std.proofs.Common.{◌≡◌, ℕ, ◌+◌, ◌-◌, ◌≤◌, List, [], ◌∷◌, ◌++◌, true, false, not, refl, sym, ap, subst, ◌∙◌, Some, None, cond, inl, inr, arith, length, length-append, length-drop}
use Rattle.std.specs.Prelude.{Result, Ok, Err, Option, Bool, ◌⊎◌, is_some, max, nat_lt}
use Rattle.std.proofs.lemmas.Bool.{false≢true}
use Rattle.std.proofs.lemmas.Bool.Decides.{nat_tests}
use Rattle.tree_model.specs.declared.command.Command.{Command}
use Rattle.tree_model.specs.declared.command.Command.TheVariants.{Mkdir, Create, Write, Truncate, Remove, Rename, Read, List as ListOf, Stat, Layout, Space, Checkpoint, End}
use Rattle.tree_model.specs.declared.node.Node.{Node}
use Rattle.tree_model.specs.declared.node.Content.{Content}
use Rattle.tree_model.specs.declared.node.Content.TheVariants.{File, Directory}
use Rattle.tree_model.specs.declared.refusal.Refusal.{Refusal}
use Rattle.tree_model.specs.declared.refusal.Refusal.TheVariants.{Exists, NoNumbers, TooBig}
use Rattle.tree_model.specs.declared.reply.Reply.{Reply}
use Rattle.tree_model.specs.Path.{Path, parent_of}
use Rattle.tree_model.specs.Tree.{Tree, new_tree, node_at, with_node, without, is_directory, with_width, with_content_width, widened, moved, entries_of, is_used, least_unused, resized, written}
use Rattle.tree_model.specs.Step.{step, attempt, settled, refuse_if, or_refuse, walk, bytes_of, written_tree}
use Rattle.tree_model.specs.Order.{IsOrdered}
use Rattle.tree_model.specs.Shape.{IsTree, shape_of}
use Rattle.tree_model.specs.Laws.{WidthsAreGreatest, NewDirectoriesAreEmpty}
use Rattle.tree_model.proofs.Accepted.{with_ok, passed, there, walked, is_file, nothing}
use Rattle.tree_model.proofs.AttemptLaws.{Accepts, after_all, put_at, ordered_put, ordered_moved}
use Rattle.tree_model.proofs.ByteLaws.{length_resized}
use Rattle.tree_model.proofs.EntryCounts.{total, total_is, one_itself, one_apart, put_most, put_least, put_same, without_most, below_most, other_most, none_total, few_entries}
use Rattle.tree_model.proofs.Fronts.{tie, tie_is, tie_itself, test_fails}
use Rattle.tree_model.proofs.Lookups.{without_at, moved_at, widened_other}
use Rattle.tree_model.proofs.Numbers.{gives_least}
use Rattle.tree_model.proofs.Renames.{Came, origin}
use Rattle.tree_model.proofs.StepFollows.{widths_never_fall}
use Rattle.tree_model.proofs.StepShapes.{used_at, is_clear, keeps_form}

-- ---- entries within the width, bytes within the size

abbrev Fits : ℕ → Content → Type 0
Fits entries (File bytes) = length bytes ≤ 4294967296
Fits entries (Directory width) = entries ≤ width

abbrev AllFit : Tree → Type 0
AllFit tree = (q : Path) (n : Node) → node_at tree q ≡ Some n → Fits (total q tree) n.content

-- but one directory may have more entries than its width
abbrev FitBut : Path → Tree → Type 0
FitBut p tree = (q : Path) (n : Node) → node_at tree q ≡ Some n → Fits (cond (tie q p) 0 (total q tree)) n.content

fewer : (c : Content) (a b : ℕ) → a ≤ b → Fits b c → Fits a c
fewer (File bytes) a b le h = h
fewer (Directory width) a b le h = omega arith

zero_or : (b : Bool) (m n : ℕ) → (b ≡ false → m ≤ n) → cond b 0 m ≤ n
zero_or true m n f = omega arith
zero_or false m n f = f refl

-- a new node beside the others
fit_made : (tree : Tree) (path : Path) (node : Node) → AllFit tree → Fits 0 node.content → total path tree ≡ 0 → FitBut (parent_of path) (with_node tree path node)
fit_made tree path node h small none q n e =
    elim (tie q path) as (λ b. tie q path ≡ b → cond b (Some node) (node_at tree q) ≡ Some n → Fits (cond (tie q (parent_of path)) 0 (total q (with_node tree path node))) n.content) [
      | true ↦ λ t some.
          let is : node ≡ n = cc in
          let itself : total q (with_node tree path node) ≡ total path (with_node tree path node) = ap (λ p. total p (with_node tree path node)) (tie_is q path t) in
          let none_here : total q (with_node tree path node) ≤ 0 = omega (arith, put_most path path node tree, one_itself path) in
          let few : cond (tie q (parent_of path)) 0 (total q (with_node tree path node)) ≤ 0 = zero_or (tie q (parent_of path)) (total q (with_node tree path node)) 0 (λ _. none_here) in
          subst (λ (x : Node). Fits (cond (tie q (parent_of path)) 0 (total q (with_node tree path node))) x.content) is (fewer node.content _ 0 few small)
      | false ↦ λ t some.
          let few : cond (tie q (parent_of path)) 0 (total q (with_node tree path node)) ≤ total q tree =
          zero_or (tie q (parent_of path)) (total q (with_node tree path node)) (total q tree) (λ apart. omega (arith, put_most q path node tree, one_apart q path apart)) in
          fewer n.content _ (total q tree) few (h q n some)
    ] refl (sym (put_at tree path node q) ∙ e)

-- a file in the place of a node
fit_replaced : (tree : Tree) (p : Path) (number : ℕ) (new : List ℕ) (old : Node) → IsOrdered tree → AllFit tree → node_at tree p ≡ Some old → length new ≤ 4294967296 → AllFit (with_node tree p (record { number = number; content = File new }))
fit_replaced tree p number new old ordered h stood small q n e =
    let node : Node = record { number = number; content = File new } in
    elim (tie q p) as (λ b. cond b (Some node) (node_at tree q) ≡ Some n → Fits (total q (with_node tree p node)) n.content) [
      | true ↦ λ some. let is : node ≡ n = cc in subst (λ (x : Node). Fits (total q (with_node tree p node)) x.content) is small
      | false ↦ λ some. subst (λ k. Fits k n.content) (sym (put_same q p node old tree ordered stood)) (h q n some)
    ] (sym (put_at tree p node q) ∙ e)

fit_without : (tree : Tree) (p : Path) → AllFit tree → AllFit (without tree p)
fit_without tree p h q n e =
    elim (tie p q) as (λ b. cond (not b) (node_at tree q) None ≡ Some n → Fits (total q (without tree p)) n.content) [
      | true ↦ λ some. cc
      | false ↦ λ some. fewer n.content _ (total q tree) (without_most q p tree) (h q n some)
    ] (sym (without_at tree p q) ∙ e)

fit_moved : (tree : Tree) (from to : Path) → IsTree tree → AllFit tree → node_at tree to ≡ None → FitBut (parent_of to) (moved from to tree)
fit_moved tree from to sound h free q n e =
    let clear = is_clear tree to sound free in
    let o = origin (node_at tree) from to q n (sym (moved_at from to tree clear q) ∙ e) in
    fewer n.content _ (total o.0 tree) (zero_or _ _ _ (came o.0 o.1)) (h o.0 n o.2)
  where
    came : (old : Path) → Came from to q old → tie q (parent_of to) ≡ false → total q (moved from to tree) ≤ total old tree
    came old (Came.below rest is) apart = subst (λ p. total p (moved from to tree) ≤ total (from ++ rest) tree) (sym is) (below_most from to rest tree (is_clear tree to sound free))
    came old (Came.stayed none kept) apart = other_most from to q tree (is_clear tree to sound free) none apart

-- ---- a directory widened

module _ (tree : Tree) (p : Path) (ordered : IsOrdered tree) where
  total_content : (q : Path) (entries : ℕ) (number : ℕ) (c : Content) (old : Node) → node_at tree p ≡ Some old → total q (with_content_width entries tree p number c) ≡ total q tree
  total_content q entries number (File bytes) old stood = refl
  total_content q entries number (Directory width) old stood = put_same q p (record { number = number; content = Directory (max width entries) }) old tree ordered stood

  total_width : (q : Path) (entries : ℕ) (o : Option Node) → node_at tree p ≡ o → total q (with_width entries tree p o) ≡ total q tree
  total_width q entries None stood = refl
  total_width q entries (Some node) stood = total_content q entries node.number node.content node stood

  total_widened : (q : Path) → total q (widened tree p) ≡ total q tree
  total_widened q = total_width q (length (entries_of tree p)) (node_at tree p) refl

  content_fits : (entries : ℕ) (before : Node) → node_at tree p ≡ Some before → (c : Content) → before.content ≡ c → Fits 0 c → (n : Node) → node_at (with_content_width entries tree p before.number c) p ≡ Some n → Fits entries n.content
  content_fits entries before stood (File bytes) is small n e =
      let same : before ≡ n = cc in
      subst (λ (x : Node). Fits entries x.content) same (subst (λ (x : Content). Fits entries x) (sym is) small)
  content_fits entries before stood (Directory width) is small n e =
      let wide : Node = record { number = before.number; content = Directory (max width entries) } in
      let some : Some wide ≡ Some n = sym (put_at tree p wide p ∙ ap (λ b. cond b (Some wide) (node_at tree p)) (tie_itself p)) ∙ e in
      let same : wide ≡ n = cc in
      let enough : entries ≤ max width entries = omega arith in
      subst (λ (x : Node). Fits entries x.content) same enough

  width_fits : (entries : ℕ) (o : Option Node) → node_at tree p ≡ o → ((before : Node) → node_at tree p ≡ Some before → Fits 0 before.content) → (n : Node) → node_at (with_width entries tree p o) p ≡ Some n → Fits entries n.content
  width_fits entries None stood small n e = cc
  width_fits entries (Some before) stood small n e = content_fits entries before stood before.content refl (small before stood) n e

  fit_widened : FitBut p tree → AllFit (widened tree p)
  fit_widened h q n e =
      elim (tie q p) as (λ b. tie q p ≡ b → Fits (total q (widened tree p)) n.content) [
        | true ↦ λ t.
            let here : node_at (widened tree p) p ≡ Some n = ap (λ x. node_at (widened tree p) x) (sym (tie_is q p t)) ∙ e in
            let fits = width_fits (length (entries_of tree p)) (node_at tree p) refl (λ before stood. fewer before.content 0 _ (omega arith) (h p before stood)) n here in
            let as_many : total q (widened tree p) ≡ length (entries_of tree p) = ap (λ x. total x (widened tree p)) (tie_is q p t) ∙ total_widened p ∙ sym (total_is tree p) in
            subst (λ k. Fits k n.content) (sym as_many) fits
        | false ↦ λ t.
            let fits : Fits (total q tree) n.content = subst (λ (b : Bool). Fits (cond b 0 (total q tree)) n.content) t (h q n (sym (widened_other tree p q t) ∙ e)) in
            subst (λ k. Fits k n.content) (sym (total_widened q)) fits
      ] refl

-- ---- widths bounded by what they were and the entries

module _ (old : Tree) where
  -- at most the greater of what it was and the entries
  record Was (number width entries : ℕ) : Type 0 where
    path : Path
    before : ℕ
    stood : node_at old path ≡ Some (record { number = number; content = Directory before })
    most : width ≤ max before entries

  record IsNew (number width : ℕ) : Type 0 where
    unused : is_used old number ≡ false
    none : width ≡ 0

  abbrev Bound : ℕ → ℕ → Content → Type 0
  Bound entries number (File bytes) = Unit {0}
  Bound entries number (Directory width) = Was number width entries ⊎ IsNew number width

  abbrev AllBound : Tree → Type 0
  AllBound tree = (q : Path) (n : Node) → node_at tree q ≡ Some n → Bound (total q tree) n.number n.content

  wider_was : (number width a b v : ℕ) → a ≤ b → v ≤ max width b → Was number width a → Was number v b
  wider_was number width a b v le most w = record { path = w.path; before = w.before; stood = w.stood; most = omega (arith, w.most) }

  more : (c : Content) (number a b : ℕ) → a ≤ b → Bound a number c → Bound b number c
  more (File bytes) number a b le h = tt
  more (Directory width) number a b le (inl w) = inl (wider_was number width a b width le (omega arith) w)
  more (Directory width) number a b le (inr new) = inr new

  bound_itself : (q : Path) (number : ℕ) (c : Content) (entries : ℕ) → node_at old q ≡ Some (record { number = number; content = c }) → Bound entries number c
  bound_itself q number (File bytes) entries stood = tt
  bound_itself q number (Directory width) entries stood = inl (record { path = q; before = width; stood = stood; most = omega arith })

  all_itself : AllBound old
  all_itself q n e = bound_itself q n.number n.content (total q old) e

  bound_put : (tree : Tree) (p : Path) (node : Node) → Bound (total p tree) node.number node.content → AllBound tree → AllBound (with_node tree p node)
  bound_put tree p node new h q n e =
      elim (tie q p) as (λ b. tie q p ≡ b → cond b (Some node) (node_at tree q) ≡ Some n → Bound (total q (with_node tree p node)) n.number n.content) [
        | true ↦ λ t some.
            let is : node ≡ n = cc in
            let here : Bound (total q tree) node.number node.content = subst (λ x. Bound (total x tree) node.number node.content) (sym (tie_is q p t)) new in
            subst (λ (x : Node). Bound (total q (with_node tree p node)) x.number x.content) is (more node.content node.number _ _ (put_least q p node tree) here)
        | false ↦ λ t some. more n.content n.number _ _ (put_least q p node tree) (h q n some)
      ] refl (sym (put_at tree p node q) ∙ e)

  wide_bound : (number width entries : ℕ) → Bound entries number (Directory width) → Was number (max width entries) entries ⊎ (is_used old number ≡ false)
  wide_bound number width entries (inl w) = inl (record { path = w.path; before = w.before; stood = w.stood; most = omega (arith, w.most) })
  wide_bound number width entries (inr new) = inr new.unused

-- no width is more than the bound where the directory's own number was used
module _ (old tree : Tree) (p : Path) where
  abbrev IsOld : Type 0
  IsOld = (number width : ℕ) → node_at tree p ≡ Some (record { number = number; content = Directory width }) → is_used old number ≡ true

  bound_content : IsOld → AllBound old tree → (number : ℕ) (c : Content) → node_at tree p ≡ Some (record { number = number; content = c }) → AllBound old (with_content_width (length (entries_of tree p)) tree p number c)
  bound_content used h number (File bytes) stood = h
  bound_content used h number (Directory width) stood =
      let entries = total p tree in
      let wide : Was old number (max width entries) entries =
      elim (wide_bound old number width entries (h p (record { number = number; content = Directory width }) stood)) [ inl w ↦ w | inr unused ↦ let u = used number width stood in cc ] in
      let same : max width entries ≡ max width (length (entries_of tree p)) = ap (λ n. max width n) (sym (total_is tree p)) in
      bound_put old tree p (record { number = number; content = Directory (max width (length (entries_of tree p))) }) (inl (subst (λ w. Was old number w entries) same wide)) h

  bound_width : IsOld → AllBound old tree → (o : Option Node) → node_at tree p ≡ o → AllBound old (with_width (length (entries_of tree p)) tree p o)
  bound_width used h None stood = h
  bound_width used h (Some node) stood = bound_content used h node.number node.content stood

  bound_widened : IsOld → AllBound old tree → AllBound old (widened tree p)
  bound_widened used h = bound_width used h (node_at tree p) refl

bound_without : (tree : Tree) (p : Path) → AllBound tree (without tree p)
bound_without tree p q n e =
    elim (tie p q) as (λ b. cond (not b) (node_at tree q) None ≡ Some n → Bound tree (total q (without tree p)) n.number n.content) [
      | true ↦ λ some. cc
      | false ↦ λ some. bound_itself tree q n.number n.content _ some
    ] (sym (without_at tree p q) ∙ e)

bound_moved : (tree : Tree) (from to : Path) → IsTree tree → node_at tree to ≡ None → AllBound tree (moved from to tree)
bound_moved tree from to h free q n e =
    let o = origin (node_at tree) from to q n (sym (moved_at from to tree (is_clear tree to h free) q) ∙ e) in
    bound_itself tree o.0 n.number n.content _ o.2

-- ---- what a command leaves

record Leaves (old new : Tree) : Type 0 where
  fit : AllFit new
  bound : AllBound old new

content_fit : (tree : Tree) → IsTree tree → (q : Path) (number : ℕ) (c : Content) → node_at tree q ≡ Some (record { number = number; content = c }) → Fits (total q tree) c
content_fit tree h q number (File bytes) e = h.sizes q number bytes e
content_fit tree h q number (Directory width) e = omega (arith, (h.widths q number width e).0, total_is tree q)

all_fit : (tree : Tree) → IsTree tree → AllFit tree
all_fit tree h q n e = content_fit tree h q n.number n.content e

left : (tree : Tree) → IsTree tree → Leaves tree tree
left tree h = record { fit = all_fit tree h; bound = all_itself tree }

-- a number stands in the tree that a node has
used : (tree : Tree) (q : Path) (n : Node) → node_at tree q ≡ Some n → is_used tree n.number ≡ true
used tree q n e = used_at tree q n.number (is_directory n) (ap shape_of e)

made_old : (tree : Tree) (path : Path) (node parent : Node) → node_at tree (parent_of path) ≡ Some parent → node_at tree path ≡ None → IsOld tree (with_node tree path node) (parent_of path)
made_old tree path node parent above free number width stood =
    let apart : tie (parent_of path) path ≡ false = test_fails _ (λ t. let some : node_at tree path ≡ Some parent = ap (λ p. node_at tree p) (sym (tie_is _ _ t)) ∙ above in cc) in
    let is : node_at tree (parent_of path) ≡ Some (record { number = number; content = Directory width }) =
    ap (λ b. cond b (Some node) (node_at tree (parent_of path))) (sym apart) ∙ sym (put_at tree path node (parent_of path)) ∙ stood in
    used tree (parent_of path) (record { number = number; content = Directory width }) is

no_entries : (tree : Tree) (path : Path) → IsTree tree → node_at tree path ≡ None → total path tree ≡ 0
no_entries tree path h free = none_total tree path (λ name. is_clear tree path h free (name ∷ []))

make_end : (tree : Tree) (path : Path) (content : Content) → IsTree tree → Fits 0 content → ((number : ℕ) → is_used tree number ≡ false → Bound tree 0 number content)
    → (parent : Node) → walk tree (parent_of path) ≡ Ok parent → (w : ℕ) → refuse_if (is_some (node_at tree path)) Exists ≡ Ok w → (number : ℕ) → or_refuse (least_unused tree) NoNumbers ≡ Ok number
    → Leaves tree (widened (with_node tree path (record { number = number; content = content })) (parent_of path))
make_end tree path content h small new parent walk_ok w free number given =
    let node : Node = record { number = number; content = content } in
    let none = nothing _ Exists w free in
    let empty = no_entries tree path h none in
    let unused = (gives_least.some tree number (there _ NoNumbers number given)).unused in
    let made = bound_put tree tree path node (more tree content number 0 (total path tree) (omega arith) (new number unused)) (all_itself tree) in
    record {
      fit = fit_widened (with_node tree path node) (parent_of path) (ordered_put tree path node h.ordered) (fit_made tree path node (all_fit tree h) small empty);
      bound = bound_widened tree (with_node tree path node) (parent_of path) (made_old tree path node parent (walked tree (parent_of path) parent walk_ok) none) made;
    }

mkdir_end : (tree : Tree) (path : Path) → IsTree tree → (parent : Node) → walk tree (parent_of path) ≡ Ok parent → (w : ℕ) → refuse_if (is_some (node_at tree path)) Exists ≡ Ok w → (number : ℕ) → or_refuse (least_unused tree) NoNumbers ≡ Ok number
    → Leaves tree (widened (with_node tree path (record { number = number; content = Directory 0 })) (parent_of path))
mkdir_end tree path h = make_end tree path (Directory 0) h (omega arith) (λ number unused. inr (record { unused = unused; none = refl }))

create_end : (tree : Tree) (path : Path) → IsTree tree → (parent : Node) → walk tree (parent_of path) ≡ Ok parent → (w : ℕ) → refuse_if (is_some (node_at tree path)) Exists ≡ Ok w → (number : ℕ) → or_refuse (least_unused tree) NoNumbers ≡ Ok number
    → Leaves tree (widened (with_node tree path (record { number = number; content = File [] })) (parent_of path))
create_end tree path h = make_end tree path (File []) h (omega arith) (λ number unused. tt)

file_end : (tree : Tree) (path : Path) (new : List ℕ) → IsTree tree → (node : Node) → walk tree path ≡ Ok node → length new ≤ 4294967296 → Leaves tree (with_node tree path (record { number = node.number; content = File new }))
file_end tree path new h node walk_ok small = record {
  fit = fit_replaced tree path node.number new node h.ordered (all_fit tree h) (walked tree path node walk_ok) small;
  bound = bound_put tree tree path (record { number = node.number; content = File new }) tt (all_itself tree);
}

old_size : (tree : Tree) (path : Path) → IsTree tree → (node : Node) → walk tree path ≡ Ok node → (bytes : List ℕ) → bytes_of node.content ≡ Ok bytes → length bytes ≤ 4294967296
old_size tree path h node walk_ok bytes file =
    let stood : node_at tree path ≡ Some (record { number = node.number; content = File bytes }) = walked tree path node walk_ok ∙ ap (λ (c : Content). Some (record { number = node.number; content = c })) (is_file node.content bytes file) in
    h.sizes path node.number bytes stood

written_length : (bytes : List ℕ) (offset : ℕ) (given : List ℕ) (limit : ℕ) → length bytes ≤ limit → offset + length given ≤ limit → length (written bytes offset given) ≤ limit
written_length bytes offset given limit was new =
    let is : length (written bytes offset given) ≡ (length (resized bytes offset) + length given) + (length bytes - (offset + length given)) = simp (length-append, length-drop) in
    omega (arith, length_resized bytes offset)

fits_in : (limit size : ℕ) → nat_lt limit size ≡ false → size ≤ limit
fits_in limit size e = grind (arith, nat_tests)

write_end : (tree : Tree) (path : Path) (offset : ℕ) (given : List ℕ) → IsTree tree → (node : Node) → walk tree path ≡ Ok node → (bytes : List ℕ) → bytes_of node.content ≡ Ok bytes
    → (v : ℕ) → refuse_if (nat_lt 4294967296 (offset + length given)) TooBig ≡ Ok v → Leaves tree (written_tree tree path node.number bytes offset given)
write_end tree path offset [] h node walk_ok bytes file v small = left tree h
write_end tree path offset (b ∷ given) h node walk_ok bytes file v small =
    file_end tree path (written bytes offset (b ∷ given)) h node walk_ok (written_length bytes offset (b ∷ given) 4294967296 (old_size tree path h node walk_ok bytes file) (fits_in 4294967296 (offset + length (b ∷ given)) (passed _ TooBig v small)))

truncate_end : (tree : Tree) (path : Path) (size : ℕ) → IsTree tree → (node : Node) → walk tree path ≡ Ok node → (bytes : List ℕ) → bytes_of node.content ≡ Ok bytes
    → (v : ℕ) → refuse_if (nat_lt 4294967296 size) TooBig ≡ Ok v → Leaves tree (with_node tree path (record { number = node.number; content = File (resized bytes size) }))
truncate_end tree path size h node walk_ok bytes file v small =
    let short : length (resized bytes size) ≤ 4294967296 = omega (arith, length_resized bytes size, fits_in 4294967296 size (passed _ TooBig v small)) in
    file_end tree path (resized bytes size) h node walk_ok short

remove_end : (tree : Tree) (path : Path) → IsTree tree → Leaves tree (without tree path)
remove_end tree path h = record { fit = fit_without tree path (all_fit tree h); bound = bound_without tree path }

moved_old : (tree : Tree) (from to : Path) → IsTree tree → node_at tree to ≡ None → IsOld tree (moved from to tree) (parent_of to)
moved_old tree from to h free number width stood =
    let o = origin (node_at tree) from to (parent_of to) (record { number = number; content = Directory width }) (sym (moved_at from to tree (is_clear tree to h free) (parent_of to)) ∙ stood) in
    used tree o.0 (record { number = number; content = Directory width }) o.2

rename_end : (tree : Tree) (from to : Path) → IsTree tree → (w : ℕ) → refuse_if (is_some (node_at tree to)) Exists ≡ Ok w → Leaves tree (widened (moved from to tree) (parent_of to))
rename_end tree from to h w free =
    let none = nothing _ Exists w free in
    record {
      fit = fit_widened (moved from to tree) (parent_of to) (ordered_moved from to tree) (fit_moved tree from to h (all_fit tree h) none);
      bound = bound_widened tree (moved from to tree) (parent_of to) (moved_old tree from to h none) (bound_moved tree from to h none);
    }

-- ---- every command

abbrev LeavesWidths : Tree → Reply → Tree → Type 0
LeavesWidths old reply new = Leaves old new

attempt_leaves : (tree : Tree) (command : Command) → IsTree tree → Accepts (LeavesWidths tree) (attempt tree command)
attempt_leaves tree (Mkdir path) h = search (with_ok, mkdir_end) depth 16
attempt_leaves tree (Create path) h = search (with_ok, create_end) depth 16
attempt_leaves tree (Write path offset bytes) h = search (with_ok, write_end) depth 14
attempt_leaves tree (Truncate path size) h = search (with_ok, truncate_end) depth 14
attempt_leaves tree (Remove path) h = search (after_all, remove_end) depth 12
attempt_leaves tree (Rename from to) h = search (with_ok, rename_end) depth 18
attempt_leaves tree (Read path offset len) h = search (after_all, left) depth 9
attempt_leaves tree (ListOf path) h = search (after_all, left) depth 9
attempt_leaves tree (Stat path) h = search (after_all, left) depth 9
attempt_leaves tree (Layout path) h = search (after_all, left) depth 9
attempt_leaves tree Space h = left tree h
attempt_leaves tree Checkpoint h = left tree h
attempt_leaves tree End h = left tree h

settled_leaves : (tree : Tree) (r : Result (Reply × Tree) Refusal) → IsTree tree → Accepts (LeavesWidths tree) r → Leaves tree (settled tree r).1
settled_leaves tree (Ok done) h g = g
settled_leaves tree (Err refusal) h g = left tree h

leaves : (tree : Tree) (command : Command) → IsTree tree → Leaves tree (step tree command).1
unfolding step
leaves tree command h = settled_leaves tree (attempt tree command) h (attempt_leaves tree command h)

-- ---- the laws

abbrev width_in : Content → ℕ
width_in (File bytes) = 0
width_in (Directory width) = width

abbrev width_of : Option Node → ℕ
width_of None = 0
width_of (Some node) = width_in node.content

abbrev directory : ℕ → ℕ → Option Node
directory number width = Some (record { number = number; content = Directory width })

width_is : (a b old new : ℕ) → directory a old ≡ directory b new → old ≡ new
width_is a b old new e = ap width_of e

enough : (tree new : Tree) → Leaves tree new → (q : Path) (number width : ℕ) → node_at new q ≡ Some (record { number = number; content = Directory width }) → length (entries_of new q) ≤ width
enough tree new h q number width e = omega (arith, h.fit q (record { number = number; content = Directory width }) e, total_is new q)

within : (tree new : Tree) → IsTree tree → (q : Path) (number width : ℕ) → total q new ≤ 65534 → Bound tree (total q new) number (Directory width) → width ≤ 65534
within tree new h q number width few (inl w) = omega (arith, w.most, (h.widths w.path number w.before w.stood).1)
within tree new h q number width few (inr none) = omega (arith, none.none)

pub keeps_tree : (tree : Tree) (command : Command) → IsTree tree → IsTree (step tree command).1
keeps_tree tree command h =
    let form = keeps_form tree command h in
    let l = leaves tree command h in
    record {
      ordered = form.ordered;
      shape = form.shape;
      widths = λ q number width e. (
        enough tree (step tree command).1 l q number width e,
        within tree (step tree command).1 h q number width (few_entries (step tree command).1 form.ordered form.shape q) (l.bound q (record { number = number; content = Directory width }) e),
      );
      sizes = λ q number bytes e. l.fit q (record { number = number; content = File bytes }) e;
    }

bounded : (tree new : Tree) → IsTree tree → (p : Path) (q : Path) (number before width : ℕ) → node_at tree p ≡ Some (record { number = number; content = Directory before })
    → Bound tree (total q new) number (Directory width) → width ≤ max before (length (entries_of new q))
bounded tree new h p q number before width stood (inl w) =
    let one : w.path ≡ p = h.shape.one_path w.path p number true true (ap shape_of w.stood) (ap shape_of stood) in
    let same : directory number w.before ≡ directory number before = sym w.stood ∙ ap (λ x. node_at tree x) one ∙ stood in
    let is : w.before ≡ before = width_is number number w.before before same in
    omega (arith, w.most, total_is new q)
bounded tree new h p q number before width stood (inr new_one) = let u = used tree p (record { number = number; content = Directory before }) stood in let unused = new_one.unused in cc

pub widths_are_greatest : WidthsAreGreatest
widths_are_greatest tree command h p q number old new e f =
    let l = leaves tree command h in
    omega (
      arith,
      widths_never_fall tree command h p q number old new e f,
      enough tree (step tree command).1 l q number new f,
      bounded tree (step tree command).1 h p q number old new e (l.bound q (record { number = number; content = Directory new }) f),
    )

fresh_none : (tree : Tree) (entries number width : ℕ) → is_used tree number ≡ false → Bound tree entries number (Directory width) → width ≡ 0
fresh_none tree entries number width unused (inl w) = let u = used tree w.path (record { number = number; content = Directory w.before }) w.stood in cc
fresh_none tree entries number width unused (inr new) = new.none

pub new_directories_are_empty : NewDirectoriesAreEmpty
new_directories_are_empty tree command h path number width unused e =
    let l = leaves tree command h in
    let none = fresh_none tree (total path (step tree command).1) number width unused (l.bound path (record { number = number; content = Directory width }) e) in
    let few = enough tree (step tree command).1 l path number width e in
    (omega arith, none)

-- ---- the new tree

pub new_widths : (path : Path) (number width : ℕ) → node_at new_tree path ≡ Some (record { number = number; content = Directory width }) → (length (entries_of new_tree path) ≤ width) × (width ≤ 65534)
new_widths [] number width e = let is : 0 ≡ width = width_is 1 number 0 width e in (omega arith, omega arith)
new_widths (name ∷ path) number width e = cc

abbrev is_wide : Option Node → Bool
is_wide None = false
is_wide (Some node) = is_directory node

pub new_sizes : (path : Path) (number : ℕ) (bytes : List ℕ) → node_at new_tree path ≡ Some (record { number = number; content = File bytes }) → length bytes ≤ 4294967296
new_sizes [] number bytes e = let kinds : true ≡ false = ap is_wide e in absurd (false≢true (sym kinds))
new_sizes (name ∷ path) number bytes e = cc
