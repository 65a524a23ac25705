-- A table refuses what its tree refuses.
use Rattle.std.proofs.Common.{◌≡◌, ℕ, ◌+◌, Bool, true, false, not, List, [], ◌∷◌, ◌++◌, length, take, drop, Some, None, refl, sym, ap, ◌∙◌}
use Rattle.std.specs.Prelude.{Option, Result, Ok, Err, is_some, nat_eq, nat_lt, ◌&&◌, MatchOption}
use Rattle.std.specs.Option.{option_map}
use Rattle.std.specs.Result.{result_err}
use Rattle.block_format.specs.declared.slot.Slot.{Slot}
use Rattle.dir_slots.specs.Slots.{number_in}
use Rattle.tree_model.specs.Path.{Path, is_root, parent_of, strip}
use Rattle.tree_model.specs.Shape.{IsTree}
use Rattle.tree_model.specs.Step.{◌>>=◌, or_refuse, refuse_if, walk, bytes_of, has_entries, make, remove, rename, write, written_tree, truncate, read, layout, list, stat, size_of}
use Rattle.tree_model.specs.Tree.{Tree, node_at, holds_entries, least_unused, entries_of}
use Rattle.tree_model.specs.Tree as trees
use Rattle.tree_model.specs.declared.node.Node.{Node}
use Rattle.tree_model.specs.declared.node.Content.{Content}
use Rattle.tree_model.specs.declared.node.Content.TheVariants as contents
use Rattle.tree_model.specs.declared.refusal.Refusal.{Refusal}
use Rattle.tree_model.specs.declared.refusal.Refusal.TheVariants.{NotADirectory, IsADirectory, Exists, RootFixed, Inside, NotEmpty, TooBig, NoNumbers}
use Rattle.tree_model.specs.declared.reply.Reply.{Reply}
use Rattle.tree_model.specs.declared.reply.Reply.TheVariants.{Done, Data, Entries, Stat as StatOf}
use Rattle.tree_model.proofs.Accepted.{walked}
use Rattle.node_table.proofs.NumberLaws.{next_is}
use Rattle.node_table.specs.Numbers.{IsNext, AllUsed}
use Rattle.node_table.specs.Checks.{new_place, may_make, file_at, may_size, is_full, may_remove, may_rename, may_list}
use Rattle.node_table.specs.Counts.{count}
use Rattle.node_table.specs.Found.{found, found_of}
use Rattle.node_table.specs.Held.{Nodes, HoldsNodes, AreDirectories, held, info, info_of, slots_of, is_directory}
use Rattle.node_table.specs.Walks.{look}
use Rattle.node_table.specs.declared.checks.RenamePlan.{RenamePlan}
use Rattle.node_table.specs.declared.held.FoundNode.{FoundNode}
use Rattle.node_table.specs.declared.held.HeldNode.{HeldNode}
use Rattle.node_table.specs.declared.held.HeldNode.TheVariants.{File, Directory}
use Rattle.node_table.proofs.CountLaws.{count_is}
use Rattle.node_table.proofs.WalkLaws.{look_is, there_is, entry_of}

-- what a tree does at the place of a new path
abbrev pub place : {Y : Type 0} → Tree → Path → Result Y Refusal → Result Y Refusal
place tree path next = walk tree (parent_of path) >>= (λ parent. refuse_if (not (trees.is_directory parent)) NotADirectory >>= (λ _. refuse_if (is_some (node_at tree path)) Exists >>= (λ _. next)))

some_number : (o : Option Node) → is_some (option_map (λ (n : Node). n.number) o) ≡ is_some o
some_number None = refl
some_number (Some node) = refl

abbrev done : Tree → Reply × Tree
done tree = (Done, tree)

-- ---- what is tested of a node alike

list_kind : {Y : Type 0} (c : Content) (number : ℕ) (y : Y) → result_err (refuse_if (not (is_directory (info_of c))) NotADirectory >>= (λ _. Ok number)) ≡ result_err (refuse_if (not (holds_entries c)) NotADirectory >>= (λ _. Ok y))
list_kind (contents.File bytes) number y = refl
list_kind (contents.Directory width) number y = refl

file_kind : {Y : Type 0} (c : Content) (number : ℕ) (next : List ℕ → Y) → result_err (refuse_if (is_directory (info_of c)) IsADirectory >>= (λ _. Ok number)) ≡ result_err (bytes_of c >>= (λ bytes. Ok (next bytes)))
file_kind (contents.File bytes) number next = refl
file_kind (contents.Directory width) number next = refl

refused_same : {X Y : Type 0} (b : Bool) (refusal : Refusal) (x : X) (y : Y) → result_err (refuse_if b refusal >>= (λ _. Ok x)) ≡ result_err (refuse_if b refusal >>= (λ _. Ok y))
refused_same true refusal x y = refl
refused_same false refusal x y = refl

size_kind : {Y : Type 0} (c : Content) (number size : ℕ) (next : List ℕ → Y)
    → result_err ((refuse_if (is_directory (info_of c)) IsADirectory >>= (λ _. Ok number)) >>= (λ n. refuse_if (nat_lt 4294967296 size) TooBig >>= (λ _. Ok n)))
    ≡ result_err (bytes_of c >>= (λ bytes. refuse_if (nat_lt 4294967296 size) TooBig >>= (λ _. Ok (next bytes))))
size_kind (contents.File bytes) number size next = refused_same (nat_lt 4294967296 size) TooBig number (next bytes)
size_kind (contents.Directory width) number size next = refl

full_kind : {X Y : Type 0} (a b : Bool) → a ≡ b → (x : X) (y : Y) (root : Bool)
    → result_err (refuse_if root RootFixed >>= (λ _. refuse_if a NotEmpty >>= (λ _. Ok x))) ≡ result_err (refuse_if root RootFixed >>= (λ _. refuse_if b NotEmpty >>= (λ _. Ok y)))
full_kind a b e x y true = refl
full_kind a b e x y false = refused_same a NotEmpty x y ∙ ap (λ t. result_err (refuse_if t NotEmpty >>= (λ _. Ok y))) e

place_kind : {X Y : Type 0} (c : Content) (number : ℕ) (there : Bool) (f : ℕ → Result X Refusal) (next : Result Y Refusal) → result_err (f number) ≡ result_err next
    → result_err ((refuse_if (not (is_directory (info_of c))) NotADirectory >>= (λ _. refuse_if there Exists >>= (λ _. Ok number))) >>= f)
    ≡ result_err (refuse_if (not (holds_entries c)) NotADirectory >>= (λ _. refuse_if there Exists >>= (λ _. next)))
place_kind (contents.File bytes) number there f next e = refl
place_kind (contents.Directory width) number true f next e = refl
place_kind (contents.Directory width) number false f next e = e

file_not_full : (entry : HeldNode) (number : ℕ) (c : Content) → holds_entries c ≡ false → (is_directory (info_of c) && not (nat_eq (count (slots_of (Some entry))) 0)) ≡ false
file_not_full entry number (contents.File bytes) e = refl
file_not_full entry number (contents.Directory width) e = cc

module _ (nodes : Nodes) (tree : Tree) (h : IsTree tree) (holds : HoldsNodes nodes tree) where
  pub list_same : {Y : Type 0} (path : Path) (next : Node → Y) → result_err (may_list nodes path) ≡ result_err (walk tree path >>= (λ node. refuse_if (not (trees.is_directory node)) NotADirectory >>= (λ _. Ok (next node))))
  list_same path next =
      ap (λ r. result_err (r >>= (λ f. refuse_if (not (is_directory f.info)) NotADirectory >>= (λ _. Ok f.number)))) (look_is nodes tree h holds path)
      ∙ by (walk tree path)
    where
      by : (r : Result Node Refusal) → result_err (found r >>= (λ f. refuse_if (not (is_directory f.info)) NotADirectory >>= (λ _. Ok f.number))) ≡ result_err (r >>= (λ node. refuse_if (not (trees.is_directory node)) NotADirectory >>= (λ _. Ok (next node))))
      by (Err refusal) = refl
      by (Ok node) = list_kind node.content node.number (next node)

  pub stat_same : {Y : Type 0} (path : Path) (next : Node → Y) → result_err (look nodes path) ≡ result_err (walk tree path >>= (λ node. Ok (next node)))
  stat_same path next = ap (λ r. result_err r) (look_is nodes tree h holds path) ∙ by (walk tree path)
    where
      by : (r : Result Node Refusal) → result_err (found r) ≡ result_err (r >>= (λ node. Ok (next node)))
      by (Err refusal) = refl
      by (Ok node) = refl

  pub file_same : {Y : Type 0} (path : Path) (next : List ℕ → Y) → result_err (file_at nodes path) ≡ result_err (walk tree path >>= (λ node. bytes_of node.content >>= (λ bytes. Ok (next bytes))))
  file_same path next =
      ap (λ r. result_err (r >>= (λ f. refuse_if (is_directory f.info) IsADirectory >>= (λ _. Ok f.number)))) (look_is nodes tree h holds path)
      ∙ by (walk tree path)
    where
      by : (r : Result Node Refusal) → result_err (found r >>= (λ f. refuse_if (is_directory f.info) IsADirectory >>= (λ _. Ok f.number))) ≡ result_err (r >>= (λ node. bytes_of node.content >>= (λ bytes. Ok (next bytes))))
      by (Err refusal) = refl
      by (Ok node) = file_kind node.content node.number next

  pub size_same : {Y : Type 0} (path : Path) (size : ℕ) (next : Node → List ℕ → Y)
      → result_err (may_size nodes path size) ≡ result_err (walk tree path >>= (λ node. bytes_of node.content >>= (λ bytes. refuse_if (nat_lt 4294967296 size) TooBig >>= (λ _. Ok (next node bytes)))))
  size_same path size next =
      ap (λ r. result_err ((r >>= (λ f. refuse_if (is_directory f.info) IsADirectory >>= (λ _. Ok f.number))) >>= (λ n. refuse_if (nat_lt 4294967296 size) TooBig >>= (λ _. Ok n)))) (look_is nodes tree h holds path)
      ∙ by (walk tree path)
    where
      by : (r : Result Node Refusal)
          → result_err ((found r >>= (λ f. refuse_if (is_directory f.info) IsADirectory >>= (λ _. Ok f.number))) >>= (λ n. refuse_if (nat_lt 4294967296 size) TooBig >>= (λ _. Ok n)))
          ≡ result_err (r >>= (λ node. bytes_of node.content >>= (λ bytes. refuse_if (nat_lt 4294967296 size) TooBig >>= (λ _. Ok (next node bytes)))))
      by (Err refusal) = refl
      by (Ok node) = size_kind node.content node.number size (next node)

  -- ---- the place of a new path

  pub place_same : {X Y : Type 0} (path : Path) (f : ℕ → Result X Refusal) (next : Result Y Refusal) → ((number : ℕ) → result_err (f number) ≡ result_err next)
      → result_err (new_place nodes path >>= f) ≡ result_err (place tree path next)
  place_same path f next e =
      (λ i. result_err ((look_is nodes tree h holds (parent_of path) i >>= (λ p. refuse_if (not (is_directory p.info)) NotADirectory >>= (λ _. refuse_if (there_is nodes tree h holds path i) Exists >>= (λ _. Ok p.number)))) >>= f))
      ∙ by (walk tree (parent_of path))
    where
      by : (r : Result Node Refusal)
          → result_err ((found r >>= (λ p. refuse_if (not (is_directory p.info)) NotADirectory >>= (λ _. refuse_if (is_some (node_at tree path)) Exists >>= (λ _. Ok p.number)))) >>= f)
          ≡ result_err (r >>= (λ parent. refuse_if (not (trees.is_directory parent)) NotADirectory >>= (λ _. refuse_if (is_some (node_at tree path)) Exists >>= (λ _. next))))
      by (Err refusal) = refl
      by (Ok node) = place_kind node.content node.number (is_some (node_at tree path)) f next (e node.number)

  -- ---- entries

  pub count_same : AreDirectories nodes → (path : Path) (node : Node) → node_at tree path ≡ Some node → (slots : List Slot) → held nodes node.number ≡ Some (Directory slots) → count slots ≡ length (entries_of tree path)
  count_same directories path node is slots there =
      count_is slots tree path (directories node.number slots there).names h.ordered
      (λ name. ap is_some (ap (λ o. number_in (slots_of o) name) (sym there) ∙ holds.slots path node name is) ∙ some_number (node_at tree (path ++ name ∷ [])))

  pub full_is : AreDirectories nodes → (path : Path) (node : Node) → node_at tree path ≡ Some node → is_full nodes (found_of node) ≡ (trees.is_directory node && has_entries tree path)
  full_is directories path node is = by e.0 e.1 node.content refl e.2
    where
      e : (entry : HeldNode) × (held nodes node.number ≡ Some entry) × (info entry ≡ info_of node.content)
      e = entry_of (held nodes node.number) node.content (holds.each path node is)

      by : (entry : HeldNode) → held nodes node.number ≡ Some entry → (c : Content) → node.content ≡ c → info entry ≡ info_of node.content
          → (is_directory (info_of node.content) && not (nat_eq (count (slots_of (held nodes node.number))) 0)) ≡ (holds_entries node.content && has_entries tree path)
      by entry there (contents.File bytes) kind same = (λ i. is_directory (info_of (kind i)) && not (nat_eq (count (slots_of (held nodes node.number))) 0)) ∙ sym (ap (λ c. holds_entries c && has_entries tree path) kind)
      by (File size) there (contents.Directory width) kind same = let clash : info (File size) ≡ info_of (contents.Directory width) = same ∙ ap info_of kind in cc
      by (Directory slots) there (contents.Directory width) kind same =
          (λ i. is_directory (info_of (kind i)) && not (nat_eq (count (slots_of (there i))) 0))
          ∙ ap (λ n. not (nat_eq n 0)) (count_same directories path node is slots there)
          ∙ sym (ap (λ c. holds_entries c && has_entries tree path) kind)

  pub remove_same : AreDirectories nodes → (path : Path) → result_err (may_remove nodes path) ≡ result_err (remove tree path)
  remove_same directories path =
      ap (λ r. result_err (r >>= (λ f. refuse_if (is_root path) RootFixed >>= (λ _. refuse_if (is_full nodes f) NotEmpty >>= (λ _. Ok f.number))))) (look_is nodes tree h holds path)
      ∙ by (walk tree path) refl
    where
      by : (r : Result Node Refusal) → walk tree path ≡ r
          → result_err (found r >>= (λ f. refuse_if (is_root path) RootFixed >>= (λ _. refuse_if (is_full nodes f) NotEmpty >>= (λ _. Ok f.number))))
          ≡ result_err (r >>= (λ node. refuse_if (is_root path) RootFixed >>= (λ _. refuse_if (trees.is_directory node && has_entries tree path) NotEmpty >>= (λ _. Ok (done (trees.without tree path))))))
      by (Err refusal) is = refl
      by (Ok node) is = full_kind _ _ (full_is directories path node (walked tree path node is)) node.number (done (trees.without tree path)) (is_root path)

  -- ---- make and rename

  next_refused : (content : Content) (o : Option ℕ) → o ≡ least_unused tree → (path : Path) → result_err (or_refuse o NoNumbers)
      ≡ result_err (or_refuse (least_unused tree) NoNumbers >>= (λ number. Ok (done (trees.widened (trees.with_node tree path (record { number = number; content = content })) (parent_of path)))))
  next_refused content o e path = ap (λ x. result_err (or_refuse x NoNumbers)) e ∙ by (least_unused tree)
    where
      by : (x : Option ℕ) → result_err (or_refuse x NoNumbers) ≡ result_err (or_refuse x NoNumbers >>= (λ number. Ok (done (trees.widened (trees.with_node tree path (record { number = number; content = content })) (parent_of path)))))
      by None = refl
      by (Some number) = refl

  pub make_same : (o : Option ℕ) → o ≡ least_unused tree → (path : Path) (content : Content) → result_err (may_make nodes path >>= (λ _. or_refuse o NoNumbers)) ≡ result_err (make tree path content)
  make_same o e path content = by (is_root path)
    where
      by : (root : Bool) → result_err ((refuse_if root Exists >>= (λ _. new_place nodes path)) >>= (λ _. or_refuse o NoNumbers))
          ≡ result_err (refuse_if root Exists >>= (λ _. place tree path (or_refuse (least_unused tree) NoNumbers >>= (λ number. Ok (done (trees.widened (trees.with_node tree path (record { number = number; content = content })) (parent_of path)))))))
      by true = refl
      by false = place_same path (λ _. or_refuse o NoNumbers) _ (λ number. next_refused content o e path)

  abbrev moved : Path → Path → Result (Reply × Tree) Refusal
  moved from to = refuse_if (is_root from) RootFixed >>= (λ _. refuse_if (is_some (strip from to)) Inside >>= (λ _. Ok (done (trees.widened (trees.moved from to tree) (parent_of to)))))

  pub rename_same : (from to : Path) → result_err (may_rename nodes from to) ≡ result_err (rename tree from to)
  rename_same from to =
      ap (λ r. result_err (r >>= (λ f. next (is_root to) f))) (look_is nodes tree h holds from) ∙ by (walk tree from)
    where
      next : Bool → FoundNode → Result RenamePlan Refusal
      next root f = refuse_if root Exists >>= (λ _. new_place nodes to >>= (λ into. refuse_if (is_root from) RootFixed >>= (λ _. refuse_if (is_some (strip from to)) Inside >>= (λ _. Ok (record { number = f.number; to = into })))))

      both : (a b : Bool) (plan : RenamePlan) → result_err (refuse_if a RootFixed >>= (λ _. refuse_if b Inside >>= (λ _. Ok plan)))
          ≡ result_err (refuse_if a RootFixed >>= (λ _. refuse_if b Inside >>= (λ _. Ok (done (trees.widened (trees.moved from to tree) (parent_of to))))))
      both true b plan = refl
      both false b plan = refused_same b Inside plan (done (trees.widened (trees.moved from to tree) (parent_of to)))

      at : (root : Bool) (f : FoundNode) → result_err (next root f) ≡ result_err (refuse_if root Exists >>= (λ _. place tree to (moved from to)))
      at true f = refl
      at false f = place_same to _ (moved from to) (λ into. both (is_root from) (is_some (strip from to)) (record { number = f.number; to = into }))

      by : (r : Result Node Refusal) → result_err (found r >>= (λ f. next (is_root to) f)) ≡ result_err (r >>= (λ node. refuse_if (is_root to) Exists >>= (λ _. place tree to (moved from to))))
      by (Err refusal) = refl
      by (Ok node) = at (is_root to) (found_of node)

  -- ---- each command that finds a file or a node

  pub write_same : (path : Path) (offset : ℕ) (given : List ℕ) → result_err (may_size nodes path (offset + length given)) ≡ result_err (write tree path offset given)
  write_same path offset given = size_same path (offset + length given) (λ node bytes. done (written_tree tree path node.number bytes offset given))

  pub truncate_same : (path : Path) (size : ℕ) → result_err (may_size nodes path size) ≡ result_err (truncate tree path size)
  truncate_same path size = size_same path size (λ node bytes. done (trees.with_node tree path (record { number = node.number; content = contents.File (trees.resized bytes size) })))

  pub read_same : (path : Path) (offset len : ℕ) → result_err (file_at nodes path) ≡ result_err (read tree path offset len)
  read_same path offset len = file_same path (λ bytes. let reply : Reply × Tree = (Data (take len (drop offset bytes)), tree) in reply)

  pub layout_same : (path : Path) → result_err (file_at nodes path) ≡ result_err (layout tree path)
  layout_same path = file_same path (λ bytes. done tree)

  pub listed_same : (path : Path) → result_err (may_list nodes path) ≡ result_err (list tree path)
  listed_same path = list_same path (λ node. let reply : Reply × Tree = (Entries (entries_of tree path), tree) in reply)

  pub stats_same : (path : Path) → result_err (look nodes path) ≡ result_err (stat tree path)
  stats_same path = stat_same path (λ node. let reply : Reply × Tree = (StatOf (trees.kind_of node.content) node.number (size_of tree path node.content), tree) in reply)

  -- ---- a make, by what was found

  pub make_refused : (path : Path) (content : Content) (refusal : Refusal) → may_make nodes path ≡ Err refusal → Some refusal ≡ result_err (make tree path content)
  make_refused path content refusal is = sym (ap (λ r. result_err (r >>= (λ _. or_refuse (least_unused tree) NoNumbers))) is) ∙ make_same (least_unused tree) refl path content

  pub make_numbered : (path : Path) (content : Content) (parent : ℕ) → may_make nodes path ≡ Ok parent
      → (r : Option ℕ) → MatchOption r (AllUsed nodes) (λ number. IsNext nodes number) → (o : Option ℕ) → r ≡ o → result_err (or_refuse o NoNumbers) ≡ result_err (make tree path content)
  make_numbered path content parent is r next o same =
      sym (ap (λ r. result_err (r >>= (λ _. or_refuse o NoNumbers))) is) ∙ make_same o (sym same ∙ next_is nodes tree h holds r next) path content
