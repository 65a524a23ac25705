-- From the phases before the log to what the image stands for.
use Rattle.std.proofs.Common.{◌≡◌, ◌≤◌, ◌+◌, ℕ, suc, List, [], ◌∷◌, map, length, None, refl, sym, ap, subst, ◌∙◌, inl, inr, arith}
use Rattle.std.specs.Prelude.{Option, Result, Ok, Err, is_some, Contains}
use Rattle.std.specs.Option.{option_map}
use Rattle.std.specs.Result.{IsErrAnd}
use Rattle.vol_numbers.specs.Layout.{Layout, count_blocks}
use Rattle.vol_numbers.specs.declared.block.Block.{Block}
use Rattle.block_format.specs.declared.inode.Inode.{Inode}
use Rattle.dir_slots.specs.Slots.{number_in}
use Rattle.held_list.specs.declared.held.Held.{Held as Directories}
use Rattle.place_words.specs.Rising.{Rising}
use Rattle.tree_model.specs.Tree.{Tree}
use Rattle.tree_model.specs.declared.command.Command.{Command}
use Rattle.volume_model.specs.Machine.{Stored}
use Rattle.volume_model.specs.Space.{free_blocks, metadata_blocks}
use Rattle.image_model.specs.Exact.{IsShownEarly}
use Rattle.image_model.specs.Finds.{Finds, IsBadLog, early_finding}
use Rattle.image_model.specs.Met.{metas}
use Rattle.image_model.specs.Seen.{seen}
use Rattle.image_model.specs.Sound.{AllGood}
use Rattle.image_model.specs.Stands.{Stands, Logs, layout_in}
use Rattle.image_model.specs.declared.finding.Finding.{Finding}
use Rattle.image_model.specs.declared.finding.Finding.TheVariants.{BadLog}
use Rattle.image_model.proofs.ExactLaws.{standing_has_none}
use Rattle.image_model.proofs.ShownEarly.{none_found_shows}
use Rattle.image_model.proofs.SpaceLaws.{metadata_seen}
use Rattle.node_table.specs.Held.{Nodes, HoldsNodes, held, info, slots_of}
use Rattle.node_table.specs.declared.held.HeldNode.{HeldNode}
use Rattle.log_check.specs.Cause.{IfFound}
use Rattle.log_check.specs.Accepting.{IsShown, TakesEach, with_records}
use Rattle.log_check.specs.Holding.{AreNodes, HoldsEachTree, IsTableOf}
use Rattle.log_check.specs.declared.fault.LogCheckFault.{LogCheckFault}
use Rattle.log_check.specs.declared.fault.LogCheckFault.TheVariants as logs
use Rattle.fs_check.specs.Checked.{IsEarly, IsFaultOf, IsVerdict, StandsWith, AreAccepted}
use Rattle.block_format.specs.Root.{Root, root_of}
use Rattle.block_tree.specs.Tree.{blocks_in}
use Rattle.block_format.specs.declared.root.RootBody.{RootBody}
use Rattle.root_switch.specs.Current.{root_of_image}
use Rattle.image_model.specs.Findings.{body_finding, free_in}
use Rattle.image_model.specs.Roots.{root_finding}
use Rattle.fs_check.specs.Looked.{IsLookedAt, IsWellFormed}
use Rattle.fs_check.specs.declared.looking.Looked.{Looked}
use Rattle.fs_check.proofs.PhaseLaws.{later_by, none_two}
use Rattle.fs_check.specs.Faults.{of_log}
use Rattle.fs_check.specs.Phases.{FindsBy}
use Rattle.fs_check.specs.declared.fault.CheckFault.{CheckFault}
use Rattle.fs_check.specs.declared.fault.CheckFault.TheVariants.{Found, Device, OutOfMemory}

-- what has a finding stands for nothing
found_nothing : (image : List Block) (f : Finding) → Finds image f → Finds image f × ((s : Stored) → ¬ Stands image s)
found_nothing image f finds = (finds, λ s stands. standing_has_none image s stands f finds)

pub early_fault : (image : List Block) (fault : CheckFault) → FindsBy (early_finding image) fault → IsFaultOf image fault
early_fault image (Found f) by = found_nothing image f (inl by)
early_fault image Device by = tt
early_fault image OutOfMemory by = tt

pub verdict_err : {T : Type 0} (image : List Block) (P : T → Type 0) (r : Result T CheckFault) (fault : CheckFault) → IsErrAnd r (λ f. f ≡ fault) → IsFaultOf image fault → IsVerdict image P r
verdict_err image P (Ok value) fault same is = absurd same
verdict_err image P (Err f) fault same is = subst (IsFaultOf image) (sym same) is

module _ (image : List Block) (nodes : List (ℕ × Inode)) (directories : List Directories) (free : ℕ) (early : IsEarly image nodes directories free) where
  shown : (s : Stored) × IsShownEarly image s
  shown = none_found_shows image early.none

  holds_it : (table : Nodes) → HoldsEachTree nodes directories table → HoldsNodes table shown.0.tree
  holds_it table holds = holds (seen image) shown.0.tree early.nodes_are early.directories_are shown.1.held

  is_shown : (table : Nodes) → HoldsEachTree nodes directories table → IsShown image table free shown.0
  is_shown table holds = record { shows = shown.1.shows; is_tree = shown.1.is_tree; holds = holds_it table holds; free_is = early.free_is ∙ shown.1.free }

  pub stands_with : (table : Nodes) (records : List Command) → HoldsEachTree nodes directories table → ((s : Stored) → IsShown image table free s → Logs image (with_records s records))
      → StandsWith image nodes directories free records
  stands_with table records holds logged =
      let stands = shown.1.stands records (logged shown.0 (is_shown table holds)) in
      record {
        stored = with_records shown.0 records;
        stands = stands;
        holds = holds_it;
        records_are = refl;
        free_is = early.free_is ∙ (shown.1.free ∙ ap (λ (g : Layout). free_blocks g shown.0.tree shown.0.places) (sym stands.layout));
      }

  pub log_fault : (table : Nodes) (fault : LogCheckFault) → HoldsEachTree nodes directories table → ((i : ℕ) → fault ≡ logs.Found i → (s : Stored) → IsShown image table free s → IsBadLog image i)
      → IsFaultOf image (of_log fault)
  log_fault table (logs.Found i) holds bad = found_nothing image (BadLog i) (inr (early.none, bad i refl shown.0 (is_shown table holds)))
  log_fault table logs.Device holds bad = tt
  log_fault table logs.OutOfMemory holds bad = tt

-- ---- tables that hold the same

same_nodes : (a b : Nodes) (tree : Tree) → ((n : ℕ) → held a n ≡ held b n) → HoldsNodes a tree → HoldsNodes b tree
same_nodes a b tree same holds = record {
  each = λ path node there. ap (option_map info) (sym (same node.number)) ∙ holds.each path node there;
  slots = λ path node name there. ap (λ (h : Option HeldNode). number_in (slots_of h) name) (sym (same node.number)) ∙ holds.slots path node name there;
  others = λ n some. holds.others n (ap is_some (same n) ∙ some);
}

pub are_accepted : (nodes : List (ℕ × Inode)) (directories : List Directories) (free : ℕ) (records : List Command) (old new : Nodes) → IsTableOf nodes directories old → TakesEach free old records new
    → AreAccepted nodes directories free records
are_accepted nodes directories free records old new are takes table is s is_tree holds =
    (takes s is_tree (same_nodes table old s.tree (λ n. is n ∙ sym (are n)) holds)).accepted

-- ---- before the log

pub in_body : (image : List Block) (g : Layout) (fault : CheckFault) → root_finding image ≡ None → layout_in image ≡ g → FindsBy (body_finding g (seen image)) fault → IsFaultOf image fault
in_body image g fault root same by =
    early_fault image fault (later_by (root_finding image) (body_finding (layout_in image) (seen image)) fault root (subst (λ (lay : Layout). FindsBy (body_finding lay (seen image)) fault) (sym same) by))

pub early_none : (image : List Block) (g : Layout) → root_finding image ≡ None → layout_in image ≡ g → body_finding g (seen image) ≡ None → early_finding image ≡ None
early_none image g root same none = none_two (root_finding image) _ root (ap (λ (lay : Layout). body_finding lay (seen image)) same ∙ none)

-- what was looked at is what is seen, where nothing is found before the log
pub is_early : (image : List Block) (body : RootBody) (l : Looked) → early_finding image ≡ None → root_of_image image ≡ root_of body → IsLookedAt image body l → IsWellFormed (root_of body).layout l
    → IsEarly image l.nodes l.directories l.free
is_early image body l none root looked formed = record {
  none = none;
  nodes_are = looked.nodes;
  directories_are = looked.directories;
  free_is = formed.free ∙ (ap (free_in (root_of body).layout) looked.counts ∙ ap (λ (r : Root). free_in r.layout (seen image).kept) (sym root));
}

metadata_met : (image : List Block) (s : Stored) → Stands image s → metadata_blocks s.tree s.places ≡ length (metas (seen image).met)
unfolding seen
metadata_met image s stands =
    metadata_seen (blocks_in image) (root_of_image image).inode_index (root_of_image image).homes (count_blocks (layout_in image)) (layout_in image) s stands.sound.pointers stands.sound.directories stands.sound.named stands.shows

-- the blocks of metadata that were counted are those of the formula
pub metadata_is : (image : List Block) (body : RootBody) (l : Looked) (s : Stored) → root_of_image image ≡ root_of body → IsLookedAt image body l → Stands image s → l.metadata ≡ metadata_blocks s.tree s.places
metadata_is image body l s root looked stands =
    looked.metadata (subst (λ (r : Root). AllGood r.layout (seen image).met (seen image).met) root stands.sound.pointers) ∙ sym (metadata_met image s stands)

pub found_at : (T : Type 0) (fault : LogCheckFault) (P : ℕ → Type 0) → IfFound {T = T} (Err fault) P → (i : ℕ) → fault ≡ logs.Found i → P i
found_at T fault P has i same = subst (λ (f : LogCheckFault). IfFound {T = T} (Err f) P) same has

-- ---- how many nodes there are

short_from : (low : ℕ) (nodes : List (ℕ × Inode)) → Rising low (map (λ (node : ℕ × Inode). node.0) nodes) → ((n : ℕ) (x : Inode) → Contains nodes (n, x) → n ≤ 65535) → low ≤ 65536 → length nodes + low ≤ 65536
short_from low [] rise each le = omega (arith, le)
short_from low (node ∷ nodes) rise each le =
    let here : node.0 ≤ 65535 = each node.0 node.1 (0, omega arith, refl) in
    let above : low ≤ node.0 = rise.0 in
    let rest = short_from (node.0 + 1) nodes rise.1 (λ n x has. each n x (suc has.0, omega (arith, has.1), has.2)) (omega (arith, here)) in
    omega (arith, above, rest)

pub few_nodes : (nodes : List (ℕ × Inode)) (directories : List Directories) → AreNodes nodes directories → length nodes ≤ 65535
few_nodes nodes directories are = let short = short_from 1 nodes are.rising (λ n x has. (are.each n x has).0) (omega arith) in omega (arith, short)
