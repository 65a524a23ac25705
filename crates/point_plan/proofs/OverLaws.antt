-- What is put together is a plan over the image that memory is of.
use Rattle.std.proofs.Common.{◌≡◌, ℕ, zero, suc, ◌+◌, ◌*◌, ◌++◌, false, List, length, refl, sym, ap, subst, ◌∙◌}
use Rattle.vol_numbers.specs.Geometry.{layout_of}
use Rattle.vol_numbers.specs.Layout.{Layout, count_blocks}
use Rattle.vol_numbers.specs.declared.block.Block.{Block}
use Rattle.vol_numbers.specs.declared.runs.Page.{Page}
use Rattle.block_format.specs.Root.{Root}
use Rattle.block_tree.specs.Notes.{Stand}
use Rattle.block_tree.specs.Tree.{blocks_in}
use Rattle.count_pairs.proofs.CountLaws.{counts_are}
use Rattle.block_format.specs.Words.{words}
use Rattle.count_pairs.specs.Homes.{counts_from as counts_named}
use Rattle.count_pairs.specs.Table.{AllStand}
use Rattle.image_model.specs.Seen.{counts_from as counts_seen, home_in, seen}
use Rattle.inode_file.specs.Inodes.{InodeTable, Stands as InodesStand, inode_of}
use Rattle.image_model.specs.Stands.{layout_in}
use Rattle.point_model.specs.Holding.{inode_before}
use Rattle.point_model.specs.Laws.{PlannedIsSeen}
use Rattle.held_list.specs.Held.{slots_at}
use Rattle.held_list.specs.declared.held.Held.{Held}
use Rattle.point_plan.specs.Carries.{Carries}
use Rattle.point_plan.specs.Gathered.{ArePlannedOver, IsGathered}
use Rattle.point_plan.specs.Planning.{IsNextRoot, IsPlan, IsSettled, SharesNothing}
use Rattle.point_plan.specs.PutFrom.{IsPutFrom}
use Rattle.point_plan.specs.PutTogether.{IsPlanSoFar, IsPutTogether, PutTogetherIsPlan}
use Rattle.point_plan.specs.Rested.{PointRests, RestsOver}
use Rattle.point_plan.specs.Room.{GatheredIsCounted}
use Rattle.point_plan.specs.State.{HoldsPoint, IsOfSize, slots_before}
use Rattle.point_plan.specs.declared.gathering.Gathered.{Gathered}
use Rattle.point_plan.specs.declared.planned.Plan.{Plan}
use Rattle.point_plan.specs.declared.state.PointState.{PointState}
use Rattle.point_plan.proofs.LongLaws.{metadata_is, room_is_long}
use Rattle.point_plan.proofs.SeenLaws.{nodes_seen, slots_are_seen}
use Rattle.point_plan.proofs.Stays.{table_stands}
use Rattle.point_plan.proofs.Together.{seen_planned}
use Rattle.root_switch.specs.Current.{root_of_image}
use Rattle.volume_model.specs.Machine.{Machine, Rules, stored}
use Rattle.volume_model.specs.Point.{after_point, fresh_in}
use Rattle.volume_model.specs.Short.{is_short}

-- In this image the numbers have the inodes and the slots that memory has.
pub record AreSeen (image : List Block) (s : PointState) : Type 0 where
  pub nodes : (n : ℕ) → inode_of s.inodes.inodes n ≡ inode_before image n
  pub slots : (n : ℕ) → slots_at s.directories n ≡ slots_before image n

-- the kept counts are those that stand in the homes that the root names
kept_counts : (image : List Block) (counts : List ℕ) → length counts ≡ 1024 * count_blocks (root_of_image image).layout
    → AllStand (blocks_in image) (root_of_image image).homes (count_blocks (root_of_image image).layout) counts → (seen image).kept ≡ counts
unfolding seen
kept_counts image counts long stand = same 0 (count_blocks (root_of_image image).layout) ∙ counts_are (blocks_in image) (root_of_image image).homes counts (count_blocks (root_of_image image).layout) long stand
  where
    same : (i n : ℕ) → counts_seen (blocks_in image) (root_of_image image).homes i n ≡ counts_named (blocks_in image) (root_of_image image).homes i n
    same i zero = refl
    same i (suc n) = ap (λ (cs : List ℕ). words (blocks_in image (home_in (root_of_image image).homes i)) ++ cs) (same (i + 1) n)

module _ (r : Rules) (m : Machine) (old : List Block) (blocks : ℕ) (s after : PointState) (g : Gathered) (plan : Plan) (shares : SharesNothing r) (holds : HoldsPoint r m old s) (sized : IsOfSize blocks s)
    (gathered : IsGathered s g) (over : ArePlannedOver r m old s g) (put : IsPutFrom s after g plan) (counted : GatheredIsCounted) (law : PutTogetherIsPlan) (rest : PointRests)
    (seen_law : PlannedIsSeen) where
  together : IsPutTogether r m old blocks s after g put.rewritten plan.root 0
  together = record {
    shares = shares;
    holds = holds;
    sized = sized;
    gathered = gathered;
    over = over;
    inodes = put.inodes;
    counts = put.counts;
    next = subst (λ (p : Plan). IsNextRoot s after p) put.is put.next;
  }

  long : is_short m ≡ false
  long = room_is_long r m old blocks s g counted shares holds sized gathered over after plan put

  so_far : IsPlanSoFar r m old s after plan
  so_far = subst (λ (p : Plan). IsPlanSoFar r m old s after p) (sym put.is) (law r m old blocks s after g put.rewritten plan.root 0 together long)

  -- ---- memory after the point

  seen_after : (new : List Block) → Carries old new s.dirty.overlay plan after.counts.counts → AreSeen new after
  seen_after new carries =
      let seen = seen_planned r m old blocks s after g put.rewritten plan.root 0 together seen_law long new (subst (λ (p : Plan). Carries old new s.dirty.overlay p after.counts.counts) put.is carries) in
      record {
        nodes = nodes_seen r m old new s after g.nodes holds gathered.nodes put.inodes.inodes put.directories seen;
        slots = slots_are_seen r m old new s after g.nodes holds gathered.nodes put.inodes.inodes put.directories seen;
      }

  module _ (new : List Block) (settled : PointState) (carries : Carries old new s.dirty.overlay plan after.counts.counts) (is : IsSettled new after settled) where
    rests : RestsOver r (after_point r m (fresh_in plan.report)) new settled.dirty.overlay settled.metadata
    rests = rest r m new settled.dirty.overlay (fresh_in plan.report) settled.metadata shares.threshold holds.coherent so_far.report.point.may (so_far.stands new carries) is.clean
        (is.metadata ∙ metadata_is r m old blocks s g counted shares holds sized gathered over after plan put)

    layout_old : layout_of s.geometry ≡ layout_in old
    layout_old = ap (λ x. layout_of x) (sym sized.root) ∙ ap (λ (x : Root). x.layout) holds.root

    layout_new : (root_of_image new).layout ≡ layout_of s.geometry
    layout_new = ap (λ (x : Root). x.layout) carries.root ∙ ap (λ x. layout_of x) put.next.geometry

    counts_kept : (seen new).kept ≡ after.counts.counts
    counts_kept = kept_counts new after.counts.counts
        (put.counts.long ∙ sized.counts ∙ ap (λ (l : Layout). 1024 * count_blocks l) (sym layout_new))
        (subst (λ (l : Layout). AllStand (blocks_in new) (root_of_image new).homes (count_blocks l) after.counts.counts) (ap (λ x. layout_of x) put.next.geometry ∙ sym layout_new) carries.counts_stand)

    stays : InodesStand (blocks_in new) s.inodes
    stays = table_stands old new (stored m) s.inodes holds.stands carries.live sized.table holds.inodes (sym (ap (λ (x : Root). x.inode_index) holds.root) ∙ sym sized.index)

    pages_are : plan.inode_pages ≡ put.rewritten.pages
    pages_are = ap (λ (p : Plan). p.inode_pages) put.is

    inodes_stand : InodesStand (blocks_in new) after.inodes
    inodes_stand = put.inodes.stored (blocks_in new) (subst (λ (ps : List Page). Stand ps (blocks_in new)) pages_are carries.inode_pages) stays

    held_after : HoldsPoint r (after_point r m (fresh_in plan.report)) new settled
    held_after = record {
      stands = rests.stands;
      coherent = rests.coherent;
      staged = rests.staged;
      slot = is.slot;
      root = is.root;
      counts = is.counts ∙ sym counts_kept;
      inodes = subst (λ (t : InodeTable). InodesStand (blocks_in new) t) (sym is.inodes) inodes_stand;
      nodes = λ n. ap (λ (t : InodeTable). inode_of t.inodes n) is.inodes ∙ (seen_after new carries).nodes n;
      directories = λ n. ap (λ (ds : List Held). slots_at ds n) is.directories ∙ (seen_after new carries).slots n;
      metadata = rests.metadata;
    }

  pub planned : IsPlan r m old s after plan
  planned = record {
    long = long;
    report = so_far.report;
    free = so_far.free;
    once = so_far.once;
    stands = so_far.stands;
    holds = held_after;
  }
