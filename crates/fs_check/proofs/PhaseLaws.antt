-- Phases one after the other.
use Rattle.std.proofs.Common.{◌≡◌, ◌*◌, List, [], Some, None, refl, sym, ap, subst, ◌∙◌}
use Rattle.std.specs.Prelude.{Option, Result, Ok, Err}
use Rattle.std.specs.Result.{IsErrAnd}
use Rattle.vol_numbers.specs.Layout.{Layout, count_blocks}
use Rattle.count_check.specs.Comparing.{IsCountFinding}
use Rattle.count_check.specs.declared.fault.CountCheckFault.{CountCheckFault}
use Rattle.count_check.specs.declared.fault.CountCheckFault.TheVariants as counts
use Rattle.image_model.specs.Findings.{◌then◌, body_finding, walk_finding, mixed_finding, count_finding}
use Rattle.image_model.specs.Met.{Met}
use Rattle.image_model.specs.Nodes.{tail_finding, directory_finding, tree_finding}
use Rattle.image_model.specs.Seen.{Seen, seen, seen_from, counts_from}
use Rattle.image_model.specs.declared.finding.Finding.{Finding}
use Rattle.image_walk.specs.Walked.{IsFinding}
use Rattle.image_walk.specs.declared.fault.WalkFault.{WalkFault}
use Rattle.image_walk.specs.declared.fault.WalkFault.TheVariants as walks
use Rattle.name_check.specs.Seeing.{FindsInNodes}
use Rattle.name_check.specs.Tree.{FindsInTree}
use Rattle.name_check.specs.declared.fault.NameFault.{NameFault}
use Rattle.name_check.specs.declared.fault.NameFault.TheVariants as names
use Rattle.vol_numbers.specs.declared.block.Block.{Block}
use Rattle.block_format.specs.Root.{Root, root_of}
use Rattle.block_format.specs.declared.root.RootBody.{RootBody}
use Rattle.block_tree.specs.Tree.{blocks_in}
use Rattle.root_switch.specs.Current.{root_of_image, HasRoot, FitsImage}
use Rattle.root_switch.specs.declared.reading.RootFault.{RootFault}
use Rattle.root_switch.specs.declared.reading.RootFault.TheVariants as roots
use Rattle.image_model.specs.Roots.{root_finding}
use Rattle.image_model.specs.Walk.{nodes_at, walk}
use Rattle.image_model.proofs.RootExact.{roots_are_found}
use Rattle.image_walk.specs.Blocks.{blocks_held}
use Rattle.image_walk.specs.Left.{HasOwners, OfSeen, SeesEnds}
use Rattle.image_walk.specs.Marks.{Says}
use Rattle.image_walk.specs.declared.walked.Walked.{Walked}
use Rattle.fs_check.specs.Left.{IsSeen}
use Rattle.fs_check.specs.Faults.{of_root, of_walk, of_names, of_counts}
use Rattle.fs_check.specs.Phases.{FindsBy, IsPhase, names_finding, counts_finding, rest_finding}
use Rattle.fs_check.specs.declared.fault.CheckFault.{CheckFault}
use Rattle.fs_check.specs.declared.fault.CheckFault.TheVariants.{Found, Device, OutOfMemory}

-- a fault that is passed on
pub phase_err : {T : Type 0} (o : Option Finding) (r : Result T CheckFault) (fault : CheckFault) → IsErrAnd r (λ f. f ≡ fault) → FindsBy o fault → IsPhase o r
phase_err o (Ok value) fault same by = absurd same
phase_err o (Err f) fault same by = subst (FindsBy o) (sym same) by

pub first_by : (a b : Option Finding) (fault : CheckFault) → FindsBy a fault → FindsBy (a then b) fault
first_by a b (Found f) by = ap (λ (o : Option Finding). o then b) by
first_by a b Device by = tt
first_by a b OutOfMemory by = tt

pub later_by : (a b : Option Finding) (fault : CheckFault) → a ≡ None → FindsBy b fault → FindsBy (a then b) fault
later_by a b fault none by = subst (λ (o : Option Finding). FindsBy (o then b) fault) (sym none) by

pub none_two : (a b : Option Finding) → a ≡ None → b ≡ None → (a then b) ≡ None
none_two a b none later = ap (λ (o : Option Finding). o then b) none ∙ later

then_assoc : (a b c : Option Finding) → ((a then b) then c) ≡ (a then (b then c))
then_assoc None b c = refl
then_assoc (Some e) b c = refl

-- all phases but those of the root and the log
pub body_is : (g : Layout) (s : Seen) → (walk_finding g [] s.met then (names_finding g s then counts_finding g s)) ≡ body_finding g s
unfolding body_finding
body_is g s =
    let mixed = mixed_finding s.met 0 g.blocks in
    let tail = tail_finding s in
    let directory = directory_finding s in
    let tree = tree_finding s in
    let counts = counts_finding g s in
    ap (λ (o : Option Finding). walk_finding g [] s.met then o)
    (then_assoc mixed (tail then (directory then tree)) counts
    ∙ ap (λ (o : Option Finding). mixed then o) (then_assoc tail (directory then tree) counts ∙ ap (λ (o : Option Finding). tail then o) (then_assoc directory tree counts)))

-- ---- what a crate below finds

pub walk_by : (T : Type 0) (g : Layout) (met : List Met) (fault : WalkFault) → IsFinding {T = T} g met (Err fault) → FindsBy (walk_finding g [] met) (of_walk fault)
walk_by T g met (walks.Found f) by = by
walk_by T g met walks.Device by = tt
walk_by T g met walks.OutOfMemory by = tt

pub directory_by : (s : Seen) (fault : NameFault) → FindsInNodes s fault → FindsBy (directory_finding s) (of_names fault)
directory_by s (names.Found f) by = by
directory_by s names.Device by = tt
directory_by s names.OutOfMemory by = tt

pub tree_by : (s : Seen) (fault : NameFault) → FindsInTree s fault → FindsBy (tree_finding s) (of_names fault)
tree_by s (names.Found f) by = by
tree_by s names.Device by = tt
tree_by s names.OutOfMemory by = tt

pub counts_by : (T : Type 0) (g : Layout) (s : Seen) (fault : CountCheckFault) → IsCountFinding {T = T} g s (Err fault) → FindsBy (count_finding s.met s.kept 0 (1024 * count_blocks g)) (of_counts fault)
counts_by T g s (counts.Found f) by = by
counts_by T g s counts.Device by = tt
counts_by T g s counts.OutOfMemory by = tt

-- ---- the root

pub root_by : (image : List Block) (fault : RootFault) → (fault ≡ roots.NoRoot → HasRoot image → ⊥) → (fault ≡ roots.BadGeometry → HasRoot image × (FitsImage image → ⊥)) → FindsBy (root_finding image) (of_root fault)
root_by image roots.NoRoot no_root bad = (roots_are_found.no_root image).1 (no_root refl)
root_by image roots.BadGeometry no_root bad = (roots_are_found.bad_geometry image).1 (bad refl)
root_by image roots.Device no_root bad = tt

pub root_none : (image : List Block) → HasRoot image → FitsImage image → root_finding image ≡ None
root_none image root fits = (roots_are_found.none image).1 (root, fits)

-- ---- what is seen behind a root

module _ (image : List Block) (body : RootBody) (same : root_of_image image ≡ root_of body) where
  pub seen_is : seen image ≡ seen_from (blocks_in image) body.inode_index body.homes.bytes (count_blocks (root_of body).layout)
  unfolding seen
  seen_is = ap (λ (r : Root). seen_from (blocks_in image) r.inode_index r.homes (count_blocks r.layout)) same

  pub met_is : (seen image).met ≡ walk (blocks_in image) body.inode_index
  met_is = ap (λ (s : Seen). s.met) seen_is

  pub kept_is : (seen image).kept ≡ counts_from (blocks_in image) body.homes.bytes 0 (count_blocks (root_of body).layout)
  kept_is = ap (λ (s : Seen). s.kept) seen_is

  pub is_seen : (w : Walked) → w.nodes ≡ nodes_at (blocks_in image) body.inode_index → Says w.marks (walk (blocks_in image) body.inode_index)
      → OfSeen (blocks_in image) body.inode_index (λ s. s.pages ≡ blocks_held (blocks_in image) w.pages) → OfSeen (blocks_in image) body.inode_index HasOwners
      → OfSeen (blocks_in image) body.inode_index (SeesEnds (blocks_in image) w.lasts) → IsSeen (blocks_in image) w (seen image)
  is_seen w nodes marks pages owners ends =
      let homes = body.homes.bytes in
      let many = count_blocks (root_of body).layout in
      subst (IsSeen (blocks_in image) w) (sym seen_is)
      (record { nodes = sym nodes; marks = marks; pages = pages homes many; ends = ends homes many; owners = owners homes many })

-- ---- the phases between the root and the log

module _ (g : Layout) (s : Seen) where
  abbrev walking : Option Finding
  walking = walk_finding g [] s.met

  pub in_walk : (fault : CheckFault) → FindsBy walking fault → FindsBy (body_finding g s) fault
  in_walk fault by = subst (λ (o : Option Finding). FindsBy o fault) (body_is g s) (first_by walking _ fault by)

  pub in_rest : (fault : CheckFault) → walking ≡ None → FindsBy (rest_finding g s) fault → FindsBy (body_finding g s) fault
  in_rest fault walk by = subst (λ (o : Option Finding). FindsBy o fault) (body_is g s) (later_by walking (rest_finding g s) fault walk by)

  pub in_none : walking ≡ None → rest_finding g s ≡ None → body_finding g s ≡ None
  in_none walk rest = sym (body_is g s) ∙ none_two walking (rest_finding g s) walk rest
