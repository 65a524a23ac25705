-- Effects of changes that touch no place.
use Rattle.std.proofs.Common.{◌≡◌, ℕ, Bool, true, false, List, [], ◌∷◌, ◌++◌, length, map, Some, None, refl, sym, ap, ◌∙◌}
use Rattle.std.specs.Prelude.{◌&&◌, Option, Result, Ok, Err, is_some, nat_eq, nat_le, option_map}
use Rattle.std.proofs.lemmas.Bool.{eqb-true}
use Rattle.dir_slots.specs.Slots.{number_in}
use Rattle.dirty_store.specs.declared.effect.Effect.{Effect}
use Rattle.dirty_store.specs.Entries.{cut_at}
use Rattle.dirty_store.specs.Laws.{touched_with}
use Rattle.dirty_store.specs.Overlay.{cut_of}
use Rattle.node_table.specs.Changes.{LeadsTo}
use Rattle.node_table.specs.Found.{found, found_of}
use Rattle.node_table.specs.Held.{Nodes, HoldsNodes, held, info, info_of, slots_of}
use Rattle.node_table.specs.declared.change.Change.{Change}
use Rattle.node_table.specs.declared.change.Change.TheVariants.{Made, Sized, Removed, Renamed}
use Rattle.node_table.specs.declared.held.FoundNode.{FoundNode}
use Rattle.node_table.specs.declared.held.HeldNode.{HeldNode}
use Rattle.node_table.specs.declared.held.HeldNode.TheVariants.{File}
use Rattle.node_table.specs.declared.held.NodeInfo.{NodeInfo}
use Rattle.node_table.specs.declared.held.NodeInfo.TheVariants as infos
use Rattle.node_table.proofs.WalkLaws.{look_is}
use Rattle.point_model.specs.NodeChanges.{IsBuiltOf}
use Rattle.point_model.specs.Staging.{IsEffectOn}
use Rattle.state_laws.specs.Files.{HasPlace}
use Rattle.state_laws.specs.States.{IsInFiles, is_held}
use Rattle.tree_model.proofs.Accepted.{walked}
use Rattle.tree_model.specs.Path.{Path, parent_of}
use Rattle.tree_model.specs.Shape.{IsTree}
use Rattle.tree_model.specs.Step.{attempt, walk}
use Rattle.tree_model.specs.Touched.{touched_by, where_accepted}
use Rattle.tree_model.specs.Tree.{Tree, node_at}
use Rattle.tree_model.specs.declared.command.Command.{Command}
use Rattle.tree_model.specs.declared.command.Command.TheVariants.{Mkdir, Create, Write, Truncate, Remove, Rename, Read, List as ListOf, Stat, Layout, Space, Checkpoint, End}
use Rattle.tree_model.specs.declared.node.Content.{Content}
use Rattle.tree_model.specs.declared.node.Content.TheVariants as contents
use Rattle.tree_model.specs.declared.node.Node.{Node}
use Rattle.tree_model.specs.declared.refusal.Refusal.{Refusal}
use Rattle.tree_model.specs.declared.reply.Reply.{Reply}
use Rattle.volume_model.specs.Done.{is_cut, cut_by, cut_to}
use Rattle.volume_model.specs.Machine.{Machine}
use Rattle.volume_model.specs.Places.{Spot}
use Rattle.command_effect.specs.Effects.{CanDo, IsOfNodes}

-- ---- where a table leads, its tree does

module _ (nodes : Nodes) (tree : Tree) (h : IsTree tree) (holds : HoldsNodes nodes tree) where
  pub leads_back : (path : Path) (number : ℕ) → LeadsTo nodes path number → (node : Node) × (node_at tree path ≡ Some node) × (node.number ≡ number)
  leads_back path number leads = by (walk tree path) refl (sym leads.1 ∙ look_is nodes tree h holds path)
    where
      by : (r : Result Node Refusal) → walk tree path ≡ r → Ok leads.0 ≡ found r → (node : Node) × (node_at tree path ≡ Some node) × (node.number ≡ number)
      by (Ok node) is e = let same : leads.0 ≡ found_of node = cc in (node, walked tree path node is, sym (ap (λ (f : FoundNode). f.number) same) ∙ leads.2)
      by (Err refusal) is e = cc

  -- a file that is held is one of the tree, with so many bytes
  pub file_back : (path : Path) (number size : ℕ) → LeadsTo nodes path number → held nodes number ≡ Some (File size)
      → (bytes : List ℕ) × (node_at tree path ≡ Some (record { number = number; content = contents.File bytes })) × (length bytes ≡ size)
  file_back path number size leads is =
      let at = leads_back path number leads in
      by at.0 at.1 at.2 at.0.content refl (sym (ap (option_map info) (ap (held nodes) at.2 ∙ is)) ∙ holds.each path at.0 at.1)
    where
      told : NodeInfo → ℕ
      told (infos.File n) = n
      told (infos.Directory n) = n

      by : (node : Node) → node_at tree path ≡ Some node → node.number ≡ number → (c : Content) → node.content ≡ c → Some (infos.File size) ≡ Some (info_of node.content)
          → (bytes : List ℕ) × (node_at tree path ≡ Some (record { number = number; content = contents.File bytes })) × (length bytes ≡ size)
      by node stands number_is (contents.File bytes) same e =
          let both : Some (infos.File size) ≡ Some (infos.File (length bytes)) = e ∙ ap (λ (x : Content). Some (info_of x)) same in
          let inner : infos.File size ≡ infos.File (length bytes) = cc in
          (bytes, stands ∙ (λ i. Some (record { number = number_is i; content = same i })), sym (ap told inner))
      by node stands number_is (contents.Directory width) same e =
          let both : Some (infos.File size) ≡ Some (infos.Directory width) = e ∙ ap (λ (x : Content). Some (info_of x)) same in
          let inner : infos.File size ≡ infos.Directory width = cc in cc

  -- a node of the tree is held
  pub there : (path : Path) (node : Node) → node_at tree path ≡ Some node → is_some (held nodes node.number) ≡ true
  there path node is = by (held nodes node.number) (holds.each path node is)
    where
      by : (o : Option HeldNode) → option_map info o ≡ Some (info_of node.content) → is_some o ≡ true
      by None e = cc
      by (Some x) e = refl

-- ---- nothing is touched

nowhere : (r : Result (Reply × Tree) Refusal) → where_accepted r [] ≡ []
nowhere (Ok done) = refl
nowhere (Err refusal) = refl

pub touches_none : (m : Machine) (command : Command) (e : Effect) → e.touched ≡ [] → touched_by m.tree command ≡ []
    → ((spot : Spot) → is_held m spot ≡ true → is_cut (cut_of e) spot ≡ is_cut (cut_by m.tree command) spot) → IsEffectOn m command e
touches_none m command e none nothing cuts = record {
  touches = ap (map (λ t. (e.number, t.place))) none ∙ sym (ap (where_accepted (attempt m.tree command)) nothing ∙ nowhere (attempt m.tree command));
  bytes = λ place block is. (let never : touched_with [] place ≡ Some block = sym (ap (λ ts. touched_with ts place) none) ∙ is in cc);
  cuts = cuts;
}

-- ---- a new node and one that is gone

and_none : (t u : Bool) → t ≡ false → (t && u) ≡ false
and_none false u e = refl
and_none true u e = cc

module _ (m : Machine) (nodes : Nodes) (h : IsTree m.tree) (files : IsInFiles m) (holds : HoldsNodes nodes m.tree) where
  -- a number that isn't used has no place that is kept or dirty
  not_its : (number : ℕ) → is_some (held nodes number) ≡ false → (spot : Spot) → is_held m spot ≡ true → nat_eq spot.0 number ≡ false
  not_its number free spot is = by (nat_eq spot.0 number) refl
    where
      by : (t : Bool) → nat_eq spot.0 number ≡ t → t ≡ false
      by false e = refl
      by true e =
          let has : HasPlace m.tree spot = files spot is in
          let some = there nodes m.tree h holds has.path (record { number = spot.0; content = contents.File has.bytes }) has.stands in
          let clash : true ≡ false = sym some ∙ ap (λ (n : ℕ). is_some (held nodes n)) (eqb-true spot.0 number e) ∙ free in cc

  made_cuts : (number : ℕ) (e : Effect) → is_some (held nodes number) ≡ false → e.number ≡ number → e.cut_to ≡ Some 0 → (spot : Spot) → is_held m spot ≡ true → is_cut (cut_of e) spot ≡ false
  made_cuts number e free number_is cut spot is =
      (λ i. is_cut (cut_at (number_is i) (cut i)) spot) ∙ and_none (nat_eq spot.0 number) (nat_le 0 spot.1) (not_its number free spot is)

  made_on : (command : Command) (parent slot number : ℕ) (e : Effect) → CanDo command (Made parent slot number) nodes → IsBuiltOf command (Made parent slot number) nodes e → e.touched ≡ []
      → IsEffectOn m command e
  made_on (Mkdir path) parent slot number e can built none = touches_none m (Mkdir path) e none refl (made_cuts number e can.1.least.free built.number built.cut)
  made_on (Create path) parent slot number e can built none = touches_none m (Create path) e none refl (made_cuts number e can.1.least.free built.number built.cut)
  made_on (Write path offset bytes) parent slot number e can built none = absurd can.1
  made_on (Truncate path size) parent slot number e can built none = absurd can.1
  made_on (Remove path) parent slot number e can built none = absurd can.1
  made_on (Rename from to) parent slot number e can built none = absurd can.1
  made_on (Read path offset len) parent slot number e can built none = absurd can.1
  made_on (ListOf path) parent slot number e can built none = absurd can.1
  made_on (Stat path) parent slot number e can built none = absurd can.1
  made_on (Layout path) parent slot number e can built none = absurd can.1
  made_on Space parent slot number e can built none = absurd can.1
  made_on Checkpoint parent slot number e can built none = absurd can.1
  made_on End parent slot number e can built none = absurd can.1

  cut_node : (o : Option Node) (number : ℕ) (spot : Spot) → option_map (λ (n : Node). n.number) o ≡ Some number → is_cut (cut_at number (Some 0)) spot ≡ is_cut (cut_to 0 o) spot
  cut_node None number spot e = cc
  cut_node (Some node) number spot e = let same : node.number ≡ number = cc in ap (λ (n : ℕ). is_cut (cut_at n (Some 0)) spot) (sym same)

  removed_on : (command : Command) (parent slot number : ℕ) (e : Effect) → CanDo command (Removed parent slot number) nodes → e.number ≡ number → e.cut_to ≡ Some 0 → e.touched ≡ []
      → IsEffectOn m command e
  removed_on (Remove path) parent slot number e can number_is cut none =
      let gone = can.1 in
      let above = leads_back nodes m.tree h holds (parent_of path) parent gone.parent_is in
      let at : option_map (λ (n : Node). n.number) (node_at m.tree (parent_of path ++ gone.name ∷ [])) ≡ Some number =
      sym (holds.slots (parent_of path) above.0 gone.name above.1) ∙ ap (λ (n : ℕ). number_in (slots_of (held nodes n)) gone.name) above.2 ∙ gone.entry.number_is in
      let here : option_map (λ (n : Node). n.number) (node_at m.tree path) ≡ Some number = ap (λ (p : Path). option_map (λ (n : Node). n.number) (node_at m.tree p)) gone.path_is ∙ at in
      touches_none m (Remove path) e none refl (λ spot is. (λ i. is_cut (cut_at (number_is i) (cut i)) spot) ∙ cut_node (node_at m.tree path) number spot here)
  removed_on (Mkdir path) parent slot number e can number_is cut none = absurd can.1
  removed_on (Create path) parent slot number e can number_is cut none = absurd can.1
  removed_on (Write path offset bytes) parent slot number e can number_is cut none = absurd can.1
  removed_on (Truncate path size) parent slot number e can number_is cut none = absurd can.1
  removed_on (Rename from to) parent slot number e can number_is cut none = absurd can.1
  removed_on (Read path offset len) parent slot number e can number_is cut none = absurd can.1
  removed_on (ListOf path) parent slot number e can number_is cut none = absurd can.1
  removed_on (Stat path) parent slot number e can number_is cut none = absurd can.1
  removed_on (Layout path) parent slot number e can number_is cut none = absurd can.1
  removed_on Space parent slot number e can number_is cut none = absurd can.1
  removed_on Checkpoint parent slot number e can number_is cut none = absurd can.1
  removed_on End parent slot number e can number_is cut none = absurd can.1

  renamed_on : (command : Command) (number from from_slot to to_slot : ℕ) (e : Effect) → CanDo command (Renamed number from from_slot to to_slot) nodes
      → IsBuiltOf command (Renamed number from from_slot to to_slot) nodes e → e.touched ≡ [] → IsEffectOn m command e
  renamed_on (Rename old new) number from from_slot to to_slot e can built none = touches_none m (Rename old new) e none refl (λ spot is. ap (λ (o : Option ℕ). is_cut (cut_at e.number o) spot) built.cut)
  renamed_on (Mkdir path) number from from_slot to to_slot e can built none = absurd can.1
  renamed_on (Create path) number from from_slot to to_slot e can built none = absurd can.1
  renamed_on (Write path offset bytes) number from from_slot to to_slot e can built none = absurd can.1
  renamed_on (Truncate path size) number from from_slot to to_slot e can built none = absurd can.1
  renamed_on (Remove path) number from from_slot to to_slot e can built none = absurd can.1
  renamed_on (Read path offset len) number from from_slot to to_slot e can built none = absurd can.1
  renamed_on (ListOf path) number from from_slot to to_slot e can built none = absurd can.1
  renamed_on (Stat path) number from from_slot to to_slot e can built none = absurd can.1
  renamed_on (Layout path) number from from_slot to to_slot e can built none = absurd can.1
  renamed_on Space number from from_slot to to_slot e can built none = absurd can.1
  renamed_on Checkpoint number from from_slot to to_slot e can built none = absurd can.1
  renamed_on End number from from_slot to to_slot e can built none = absurd can.1

  pub node_on : (command : Command) (change : Change) (e : Effect) → IsOfNodes change → CanDo command change nodes → IsBuiltOf command change nodes e → e.touched ≡ [] → IsEffectOn m command e
  node_on command (Made parent slot number) e kind can built none = made_on command parent slot number e can built none
  node_on command (Sized number size) e kind can built none = absurd kind
  node_on command (Removed parent slot number) e kind can built none = removed_on command parent slot number e can built.number built.cut none
  node_on command (Renamed number from from_slot to to_slot) e kind can built none = renamed_on command number from from_slot to to_slot e can built none
