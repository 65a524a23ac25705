-- The inodes, index blocks and metadata of an image in which a point is planned.
use Rattle.std.proofs.Common.{◌≡◌, ℕ, ◌+◌, ◌<◌, ◌≤◌, Bool, true, false, List, refl, sym, ◌∙◌, arith}
use Rattle.std.specs.Prelude.{nat_lt}
use Rattle.std.proofs.lemmas.Bool.Decides.{nat_tests}
use Rattle.vol_numbers.specs.declared.block.Block.{Block}
use Rattle.root_switch.specs.Current.{root_of_image}
use Rattle.block_format.specs.declared.inode.Inode.{Inode}
use Rattle.block_format.specs.declared.inode.Inode.TheVariants.{Unused, File, Directory}
use Rattle.block_tree.specs.Tree.{blocks_in}
use Rattle.dirty_store.specs.Overlay.{Overlay}
use Rattle.image_model.specs.Met.{metas, NoFaults}
use Rattle.image_model.specs.Plan.{IsPlanned, taken_in}
use Rattle.image_model.specs.Planned.{IsSpelled}
use Rattle.image_model.specs.Seen.{seen}
use Rattle.image_model.specs.Slots.{inode_of}
use Rattle.image_model.specs.Walk.{is_used, nodes_at}
use Rattle.image_model.proofs.InodesSeen.{inodes_are_seen}
use Rattle.image_model.proofs.NodePlaces.{numbers, nodes_used, used_among}
use Rattle.image_model.proofs.NodeWalk.{walk_good}
use Rattle.image_model.proofs.PlanLaws.{nodes_limits, plan_leads}
use Rattle.place_words.specs.Different.{is_among, times}
use Rattle.point_model.specs.Holding.{node_now}
use Rattle.point_model.specs.Laws.{MayTake, IsPlannedFor}
use Rattle.point_model.proofs.Numbers.{root_directory, unused_above}
use Rattle.tree_model.specs.declared.report.Report.{Report}
use Rattle.volume_model.specs.Machine.{Machine, Rules}

pub unused_is : (x : Inode) → is_used x ≡ false → x ≡ Unused
unused_is Unused e = refl
unused_is (File size height ptr) e = cc
unused_is (Directory width height ptr) e = cc

pub lt_true : (n k : ℕ) → nat_lt n k ≡ true → n < k
lt_true n k is = grind (arith, nat_tests)

pub lt_false : (n k : ℕ) → nat_lt n k ≡ false → k ≤ n
lt_false n k is = grind (arith, nat_tests)

-- an image that meets no fault has no inode of a number from 65,536 on
pub none_above : (image : List Block) → NoFaults (seen image).met → (n : ℕ) → 65536 ≤ n → inode_of (seen image).nodes n ≡ Unused
unfolding seen
none_above image none n le = by (is_among (numbers nodes) n) refl
  where
    nodes : List (ℕ × Inode)
    nodes = nodes_at (blocks_in image) (root_of_image image).inode_index

    by : (t : Bool) → is_among (numbers nodes) n ≡ t → inode_of nodes n ≡ Unused
    by true is = absurd (omega (arith, le, (nodes_limits (blocks_in image) (root_of_image image).inode_index (walk_good (blocks_in image) (root_of_image image).inode_index none).shapes n is).1))
    by false is = unused_is (inode_of nodes n) (used_among nodes (nodes_used _) n ∙ is)

module _ (r : Rules) (old new : List Block) (o : Overlay) (m : Machine) (report : Report) (may : MayTake r old o m report) (plan : IsPlannedFor r old new o m report) where
  pub spelled : IsSpelled (blocks_in new) (root_of_image new).inode_index plan.inode
  spelled = record {
    spellings = plan.inodes.spellings;
    count = plan.inodes.count;
    inodes = plan.inodes.blocks;
    root = root_directory (node_now old o) m.tree may.coherent.tree may.holds.nodes plan.inode plan.inodes.kinds;
    full = λ n. (plan.nodes n).tree.full;
    below = λ n. (plan.nodes n).tree.below;
  }

  pub planned : IsPlanned old new plan.inode
  planned = record {
    spelled = spelled;
    for_inodes = plan.inodes_added;
    for_node = plan.taken;
    inodes = λ b. omega (arith, plan.inodes.balance b);
    nodes = λ b n. (plan.nodes n).pointers.metas b;
  }

  pub no_faults : NoFaults (seen new).met
  no_faults = (inodes_are_seen new plan.inode spelled).0

  pub leads : (b : ℕ) → times b (metas (seen new).met) ≤ times b (metas (seen old).met) + times b (taken_in plan.inodes_added plan.taken)
  unfolding planned
  leads = (plan_leads old new _ plan.inode may.stands planned).1

  -- the inodes that are seen are those planned
  pub inodes_new : (n : ℕ) → inode_of (seen new).nodes n ≡ plan.inode n
  inodes_new n = by (nat_lt n 65536) refl
    where
      by : (t : Bool) → nat_lt n 65536 ≡ t → inode_of (seen new).nodes n ≡ plan.inode n
      by true is = (inodes_are_seen new plan.inode spelled).1 n (lt_true n 65536 is)
      by false is =
          let le : 65536 ≤ n = lt_false n 65536 is in
          none_above new no_faults n le ∙ sym (unused_is (plan.inode n) (unused_above (node_now old o) m.tree may.coherent.tree may.holds.nodes plan.inode plan.inodes.kinds n le))
