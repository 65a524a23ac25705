-- What each accepted change does to the places of files.
use Rattle.std.proofs.Common.{◌≡◌, ℕ, Bool, true, false, cond, List, [], ◌∷◌, ◌++◌, length, Some, None, inl, inr, refl, sym, ap, subst, ◌∙◌, arith}
use Rattle.std.specs.Prelude.{◌⊎◌, Option, Result, Ok, Err, is_some, max}
use Rattle.std.specs.Result.{result_err}
use Rattle.place_words.specs.Different.{up}
use Rattle.tree_model.specs.declared.command.Command.{Command}
use Rattle.tree_model.specs.declared.command.Command.TheVariants.{Mkdir, Create, Write, Truncate, Remove, Rename, Read, List as ListOf, Stat, Layout, Space, Checkpoint, End}
use Rattle.tree_model.specs.declared.node.Content.{Content}
use Rattle.tree_model.specs.declared.node.Content.TheVariants.{File, Directory}
use Rattle.tree_model.specs.declared.node.Node.{Node}
use Rattle.tree_model.specs.declared.refusal.Refusal.{Refusal}
use Rattle.tree_model.specs.declared.refusal.Refusal.TheVariants.{Exists, NoNumbers}
use Rattle.tree_model.specs.declared.reply.Reply.{Reply}
use Rattle.tree_model.specs.Path.{Path, parent_of, strip}
use Rattle.tree_model.specs.Shape.{IsTree}
use Rattle.tree_model.specs.Step.{step, attempt, settled, refuse_if, or_refuse, walk, bytes_of, written_tree, is_change}
use Rattle.tree_model.specs.Touched.{touched_by, where_accepted, written_places, truncated_places}
use Rattle.tree_model.specs.Tree.{Tree, node_at, with_node, without, with_width, with_content_width, widened, moved, entries_of, least_unused, resized, written}
use Rattle.tree_model.proofs.Accepted.{with_ok, walked, is_file, nothing}
use Rattle.tree_model.proofs.AttemptLaws.{Accepts, put_at}
use Rattle.tree_model.proofs.Fronts.{tie, tie_is, strip_is}
use Rattle.tree_model.proofs.Lookups.{IsClear, moved_at}
use Rattle.tree_model.proofs.Renames.{origin, at_below, at_other}
use Rattle.tree_model.proofs.StepShapes.{is_clear}
use Rattle.tree_model.proofs.StepWidths.{keeps_tree}
use Rattle.volume_model.specs.Done.{cut_by, cut_to, is_cut}
use Rattle.volume_model.specs.Places.{has_spot}
use Rattle.state_laws.specs.Files.{PlacesFollow}
use Rattle.state_laws.specs.Laws.{ChangesFollow}
use Rattle.state_laws.proofs.FilesFollow.{files_stay, file_follows, node_leaves}
use Rattle.state_laws.proofs.FilesNumbered.{HasFile, directory_in}
use Rattle.state_laws.proofs.WrittenBytes.{write_follows, truncate_follows}

-- what a change that touches this does, where its tree is one
record Leads (old : Tree) (command : Command) (new : Tree) : Type 0 where
  leads : IsTree new → PlacesFollow old new (is_cut (cut_by old command)) (has_spot (touched_by old command))

abbrev LeadsTo : Tree → Command → Reply → Tree → Type 0
LeadsTo old command reply new = Leads old command new

-- ---- a directory widened has no file's bytes

module _ (tree : Tree) (p : Path) where
  content_up : (entries number : ℕ) (c : Content) → node_at tree p ≡ Some (record { number = number; content = c }) → (n : ℕ) (bytes : List ℕ) → HasFile tree n bytes → HasFile (with_content_width entries tree p number c) n bytes
  content_up entries number (File old) is n bytes file = file
  content_up entries number (Directory width) is n bytes file =
      record { path = file.path; stands = put_at tree p (record { number = number; content = Directory (max width entries) }) file.path ∙ by (tie file.path p) refl }
    where
      by : (t : Bool) → tie file.path p ≡ t → cond t (Some (record { number = number; content = Directory (max width entries) })) (node_at tree file.path) ≡ Some (record { number = n; content = File bytes })
      by true same =
          let one : ◌≡◌ {A = Option Node} (Some (record { number = number; content = Directory width })) (Some (record { number = n; content = File bytes })) = sym is ∙ ap (λ (q : Path). node_at tree q) (sym (tie_is file.path p same)) ∙ file.stands in
          let kinds : true ≡ false = ap directory_in one in
          cc
      by false same = file.stands

  content_down : (entries number : ℕ) (c : Content) (n : ℕ) (bytes : List ℕ) → HasFile (with_content_width entries tree p number c) n bytes → HasFile tree n bytes
  content_down entries number (File old) n bytes file = file
  content_down entries number (Directory width) n bytes file =
      record { path = file.path; stands = by (tie file.path p) (sym (put_at tree p (record { number = number; content = Directory (max width entries) }) file.path) ∙ file.stands) }
    where
      by : (t : Bool) → cond t (Some (record { number = number; content = Directory (max width entries) })) (node_at tree file.path) ≡ Some (record { number = n; content = File bytes }) → node_at tree file.path ≡ Some (record { number = n; content = File bytes })
      by true is = let kinds : true ≡ false = ap directory_in is in cc
      by false is = is

  width_up : (entries : ℕ) (o : Option Node) → node_at tree p ≡ o → (n : ℕ) (bytes : List ℕ) → HasFile tree n bytes → HasFile (with_width entries tree p o) n bytes
  width_up entries None is n bytes file = file
  width_up entries (Some node) is n bytes file = content_up entries node.number node.content is n bytes file

  width_down : (entries : ℕ) (o : Option Node) (n : ℕ) (bytes : List ℕ) → HasFile (with_width entries tree p o) n bytes → HasFile tree n bytes
  width_down entries None n bytes file = file
  width_down entries (Some node) n bytes file = content_down entries node.number node.content n bytes file

  widened_up : (n : ℕ) (bytes : List ℕ) → HasFile tree n bytes → HasFile (widened tree p) n bytes
  widened_up n bytes file = width_up (length (entries_of tree p)) (node_at tree p) refl n bytes file

  widened_down : (n : ℕ) (bytes : List ℕ) → HasFile (widened tree p) n bytes → HasFile tree n bytes
  widened_down n bytes file = width_down (length (entries_of tree p)) (node_at tree p) n bytes file

-- ---- a new node

abbrev content_in : Option Node → Content
content_in None = Directory 0
content_in (Some node) = node.content

module _ (tree : Tree) (path : Path) (content : Content) (empty : (bytes : List ℕ) → content ≡ File bytes → bytes ≡ []) where
  made_up : (number : ℕ) → node_at tree path ≡ None → (n : ℕ) (bytes : List ℕ) → HasFile tree n bytes → HasFile (with_node tree path (record { number = number; content = content })) n bytes
  made_up number none n bytes file = record { path = file.path; stands = put_at tree path (record { number = number; content = content }) file.path ∙ by (tie file.path path) refl }
    where
      by : (t : Bool) → tie file.path path ≡ t → cond t (Some (record { number = number; content = content })) (node_at tree file.path) ≡ Some (record { number = n; content = File bytes })
      by true same = let some : ◌≡◌ {A = Option Node} (Some (record { number = n; content = File bytes })) None = sym file.stands ∙ ap (λ (q : Path). node_at tree q) (tie_is file.path path same) ∙ none in cc
      by false same = file.stands

  made_down : (number n : ℕ) (bytes : List ℕ) → HasFile (with_node tree path (record { number = number; content = content })) n bytes → HasFile tree n bytes ⊎ (bytes ≡ [])
  made_down number n bytes file = by (tie file.path path) (sym (put_at tree path (record { number = number; content = content }) file.path) ∙ file.stands)
    where
      by : (t : Bool) → cond t (Some (record { number = number; content = content })) (node_at tree file.path) ≡ Some (record { number = n; content = File bytes }) → HasFile tree n bytes ⊎ (bytes ≡ [])
      by true is = inr (empty bytes (ap content_in is))
      by false is = inl (record { path = file.path; stands = is })

  make_follows : IsTree tree → (w : ℕ) → refuse_if (is_some (node_at tree path)) Exists ≡ Ok w → (number : ℕ) → IsTree (widened (with_node tree path (record { number = number; content = content })) (parent_of path))
      → PlacesFollow tree (widened (with_node tree path (record { number = number; content = content })) (parent_of path)) (λ spot. false) (λ spot. false)
  make_follows is w free number new_is =
      let made : Tree = with_node tree path (record { number = number; content = content }) in
      files_stay tree (widened made (parent_of path)) is new_is
      (λ n bytes file. widened_up made (parent_of path) n bytes (made_up number (nothing _ Exists w free) n bytes file))
      (λ n bytes file. made_down number n bytes (widened_down made (parent_of path) n bytes file))

no_file : (bytes : List ℕ) → Directory 0 ≡ File bytes → bytes ≡ []
no_file bytes e = cc

no_bytes : (bytes : List ℕ) → File [] ≡ File bytes → bytes ≡ []
no_bytes bytes e = cc

mkdir_end : (tree : Tree) (path : Path) → IsTree tree → (w : ℕ) → refuse_if (is_some (node_at tree path)) Exists ≡ Ok w → (number : ℕ) → or_refuse (least_unused tree) NoNumbers ≡ Ok number
    → Leads tree (Mkdir path) (widened (with_node tree path (record { number = number; content = Directory 0 })) (parent_of path))
mkdir_end tree path is w free number found = record { leads = make_follows tree path (Directory 0) no_file is w free number }

create_end : (tree : Tree) (path : Path) → IsTree tree → (w : ℕ) → refuse_if (is_some (node_at tree path)) Exists ≡ Ok w → (number : ℕ) → or_refuse (least_unused tree) NoNumbers ≡ Ok number
    → Leads tree (Create path) (widened (with_node tree path (record { number = number; content = File [] })) (parent_of path))
create_end tree path is w free number found = record { leads = make_follows tree path (File []) no_bytes is w free number }

-- ---- a rename

module _ (tree : Tree) (from to : Path) (clear : IsClear to tree) where
  moved_up : (n : ℕ) (bytes : List ℕ) → HasFile tree n bytes → HasFile (moved from to tree) n bytes
  moved_up n bytes file = by (strip from file.path) refl
    where
      node : Node
      node = record { number = n; content = File bytes }

      below : (rest : Path) → file.path ≡ from ++ rest → HasFile (moved from to tree) n bytes
      below rest is = record {
        path = to ++ rest;
        stands = moved_at from to tree clear (to ++ rest) ∙ at_below (node_at tree) from to rest ∙ ap (λ (q : Path). node_at tree q) (sym is) ∙ file.stands;
      }

      other : (o : Option Path) → strip to file.path ≡ o → strip from file.path ≡ None → HasFile (moved from to tree) n bytes
      other (Some rest) there none = let some : ◌≡◌ {A = Option Node} (Some (record { number = n; content = File bytes })) None = sym file.stands ∙ ap (λ (q : Path). node_at tree q) (strip_is to file.path rest there) ∙ clear rest in cc
      other None there none = record { path = file.path; stands = moved_at from to tree clear file.path ∙ at_other (node_at tree) from to file.path there none ∙ file.stands }

      by : (o : Option Path) → strip from file.path ≡ o → HasFile (moved from to tree) n bytes
      by (Some rest) is = below rest (strip_is from file.path rest is)
      by None none = other (strip to file.path) refl none

  moved_down : (n : ℕ) (bytes : List ℕ) → HasFile (moved from to tree) n bytes → HasFile tree n bytes
  moved_down n bytes file =
      let o = origin (node_at tree) from to file.path (record { number = n; content = File bytes }) (sym (moved_at from to tree clear file.path) ∙ file.stands) in
      record { path = o.0; stands = o.2 }

rename_end : (tree : Tree) (from to : Path) → IsTree tree → (w : ℕ) → refuse_if (is_some (node_at tree to)) Exists ≡ Ok w → Leads tree (Rename from to) (widened (moved from to tree) (parent_of to))
rename_end tree from to is w free =
    let clear = is_clear tree to is (nothing _ Exists w free) in
    record {
      leads = λ new_is.
          files_stay tree (widened (moved from to tree) (parent_of to)) is new_is
          (λ n bytes file. widened_up (moved from to tree) (parent_of to) n bytes (moved_up tree from to clear n bytes file))
          (λ n bytes file. inl (moved_down tree from to clear n bytes (widened_down (moved from to tree) (parent_of to) n bytes file)));
    }

-- ---- a file's bytes

file_at : (tree : Tree) (path : Path) (node : Node) (bytes : List ℕ) → walk tree path ≡ Ok node → bytes_of node.content ≡ Ok bytes → node_at tree path ≡ Some (record { number = node.number; content = File bytes })
file_at tree path node bytes walk_ok file = walked tree path node walk_ok ∙ (λ i. Some (record { number = node.number; content = is_file node.content bytes file i }))

write_end : (tree : Tree) (path : Path) (offset byte : ℕ) (rest : List ℕ) → IsTree tree → (node : Node) → walk tree path ≡ Ok node → (bytes : List ℕ) → bytes_of node.content ≡ Ok bytes
    → Leads tree (Write path offset (byte ∷ rest)) (written_tree tree path node.number bytes offset (byte ∷ rest))
write_end tree path offset byte rest is node walk_ok bytes file =
    let stood = file_at tree path node bytes walk_ok file in
    record {
      leads = λ new_is.
          subst (λ (o : Option Node). PlacesFollow tree (with_node tree path (record { number = node.number; content = File (written bytes offset (byte ∷ rest)) })) (λ spot. false) (has_spot (written_places o offset (length (byte ∷ rest))))) (sym stood)
          (file_follows tree path node.number bytes (written bytes offset (byte ∷ rest)) stood is new_is (λ spot. false) _ (write_follows node.number offset bytes (byte ∷ rest) (omega arith)));
    }

truncate_end : (tree : Tree) (path : Path) (size : ℕ) → IsTree tree → (node : Node) → walk tree path ≡ Ok node → (bytes : List ℕ) → bytes_of node.content ≡ Ok bytes
    → Leads tree (Truncate path size) (with_node tree path (record { number = node.number; content = File (resized bytes size) }))
truncate_end tree path size is node walk_ok bytes file =
    let stood = file_at tree path node bytes walk_ok file in
    record {
      leads = λ new_is.
          subst (λ (o : Option Node). PlacesFollow tree (with_node tree path (record { number = node.number; content = File (resized bytes size) })) (is_cut (cut_to (up size 4096) o)) (has_spot (truncated_places o size))) (sym stood)
          (file_follows tree path node.number bytes (resized bytes size) stood is new_is _ _ (truncate_follows node.number size bytes));
    }

remove_end : (tree : Tree) (path : Path) → IsTree tree → (node : Node) → walk tree path ≡ Ok node → Leads tree (Remove path) (without tree path)
remove_end tree path is node walk_ok =
    let stood = walked tree path node walk_ok in
    record {
      leads = λ new_is. subst (λ (o : Option Node). PlacesFollow tree (without tree path) (is_cut (cut_to 0 o)) (λ spot. false)) (sym stood) (node_leaves tree path node stood is new_is);
    }

-- ---- every change

attempt_leads : (tree : Tree) (command : Command) → IsTree tree → is_change command ≡ true → Accepts (LeadsTo tree command) (attempt tree command)
attempt_leads tree (Mkdir path) is e = search (with_ok, mkdir_end) depth 16
attempt_leads tree (Create path) is e = search (with_ok, create_end) depth 16
attempt_leads tree (Write path offset []) is e = cc
attempt_leads tree (Write path offset (byte ∷ rest)) is e = search (with_ok, write_end) depth 12
attempt_leads tree (Truncate path size) is e = search (with_ok, truncate_end) depth 12
attempt_leads tree (Remove path) is e = search (with_ok, remove_end) depth 12
attempt_leads tree (Rename from to) is e = search (with_ok, rename_end) depth 18
attempt_leads tree (Read path offset len) is e = cc
attempt_leads tree (ListOf path) is e = cc
attempt_leads tree (Stat path) is e = cc
attempt_leads tree (Layout path) is e = cc
attempt_leads tree Space is e = cc
attempt_leads tree Checkpoint is e = cc
attempt_leads tree End is e = cc

settled_leads : (tree : Tree) (command : Command) (r : Result (Reply × Tree) Refusal) → Accepts (LeadsTo tree command) r → result_err r ≡ None → IsTree (settled tree r).1
    → PlacesFollow tree (settled tree r).1 (is_cut (cut_by tree command)) (has_spot (where_accepted r (touched_by tree command)))
settled_leads tree command (Ok done) leads e is = leads.leads is
settled_leads tree command (Err refusal) leads e is = cc

pub changes_follow : ChangesFollow
unfolding step
changes_follow tree command is change = settled_leads tree command (attempt tree command) (attempt_leads tree command is change.change) change.accepted (keeps_tree tree command is)
