-- The memory after a plan is within the rules of a volume, and so is what is written.
use Rattle.std.proofs.Common.{◌≡◌, ℕ, ◌*◌, ◌≤◌, Bool, true, false, List, length, sym, ap, subst, ◌∙◌}
use Rattle.std.specs.Prelude.{All}
use Rattle.std.proofs.lemmas.List.{length-replicate}
use Rattle.std.proofs.lemmas.List.Elements.{All-nil}
use Rattle.vol_numbers.specs.Geometry.{layout_of}
use Rattle.vol_numbers.specs.Layout.{count_blocks}
use Rattle.dirty_store.specs.Overlay.{Overlay, clean}
use Rattle.dirty_store.specs.Undo.{Store}
use Rattle.dirty_store.specs.Numbers.{staged_numbers}
use Rattle.dirty_store.specs.Laws.{dirty_spots}
use Rattle.inode_file.specs.Loading.{IsWithin}
use Rattle.volume_model.specs.Places.{has_spot}
use Rattle.point_plan.specs.Gathered.{IsGathered}
use Rattle.point_plan.specs.Planning.{IsPlannedWithin}
use Rattle.point_plan.specs.PutFrom.{IsPutFrom}
use Rattle.point_plan.specs.State.{IsOfSize, IsStagedWithin}
use Rattle.point_plan.specs.declared.gathering.Gathered.{Gathered}
use Rattle.point_plan.specs.declared.planned.Plan.{Plan}
use Rattle.point_plan.specs.declared.state.PointState.{PointState}
use Rattle.point_plan.proofs.NowLaws.{directories_now, sizes_now}

module _ (blocks : ℕ) (s after : PointState) (g : Gathered) (plan : Plan) (sized : IsOfSize blocks s) (gathered : IsGathered s g) (put : IsPutFrom s after g plan) where
  geometry_is : after.geometry ≡ s.geometry
  geometry_is = ap (λ (x : PointState). x.geometry) put.rest

  pub staged_within : (dirty : Store) → dirty.overlay ≡ clean → IsStagedWithin (record after { dirty = dirty })
  staged_within dirty is = record {
    numbers = subst (λ (o : Overlay). All (λ n. (1 ≤ n) × (n ≤ 65535)) (staged_numbers o)) (sym is) (All-nil (λ n. (1 ≤ n) × (n ≤ 65535)));
    directories = λ n. directories_now s after g.nodes gathered.nodes put.inodes.inodes put.directories sized.staged.directories dirty is n;
    places = λ spot has. let never : has_spot (dirty_spots clean) spot ≡ true = subst (λ (o : Overlay). has_spot (dirty_spots o) spot ≡ true) is has in cc;
    sizes = λ n. sizes_now s after g.nodes gathered.nodes put.inodes.inodes put.directories sized.staged.sizes dirty is n;
  }

  pub settled_within : IsPlannedWithin after
  settled_within = record {
    table = put.inodes.whole;
    within = subst (λ x. IsWithin (layout_of x) after.inodes) (sym geometry_is) put.inodes.within;
    settled = put.inodes.settled;
    counts = put.counts.long ∙ sized.counts ∙ ap (λ x. 1024 * count_blocks (layout_of x)) (sym geometry_is);
    touched = put.touched ∙ ap (λ (t : List Bool). length t) sized.untouched ∙ length-replicate (count_blocks (layout_of s.geometry)) false ∙ ap (λ x. count_blocks (layout_of x)) (sym geometry_is);
    staged = staged_within;
  }
