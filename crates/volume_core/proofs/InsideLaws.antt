-- What the fields of a volume have, where disk and memory hold a machine.
use Rattle.std.proofs.Common.{◌≡◌, ◌∙◌, ℕ, sym, ap, subst}
use Rattle.vol_numbers.specs.Geometry.{layout_of}
use Rattle.vol_numbers.specs.declared.geometry.Geometry.{Geometry}
use Rattle.consistency_point.specs.Taking.{IsHeld}
use Rattle.disk_model.specs.Disk.{State}
use Rattle.node_table.specs.Held.{HoldsNodes}
use Rattle.place_read.specs.Holding.{HoldsFiles}
use Rattle.point_model.specs.Staging.{TableHoldsTree}
use Rattle.volume_model.specs.Machine.{Machine, Rules}
use Rattle.volume_core.specs.Memory.{Memory, IsFitting, IsIn}
use Rattle.volume_core.proofs.Between.{holds_files, holds_tree, layout_is}

module _ (r : Rules) (m : Machine) (s : State) (inside v : Memory) (same : inside ≡ v) (is : IsIn r m s v) where
  pub is_inside : IsIn r m s inside
  is_inside = subst (IsIn r m s) (sym same) is

  pub held_inside : IsHeld r m s inside.state
  held_inside = is_inside.holds

  -- the table holds the machine's tree
  pub nodes_inside : TableHoldsTree → (size : ℕ) → IsFitting size v → HoldsNodes inside.nodes m.tree
  nodes_inside law size fits = subst (λ (x : Memory). HoldsNodes x.nodes m.tree) (sym same) (holds_tree r m s v is size fits law)

  -- disk and memory hold the bytes of files
  pub files_inside : HoldsFiles r m s.contents inside.state.inodes inside.state.dirty.overlay
  files_inside = subst (λ (x : Memory). HoldsFiles r m s.contents x.state.inodes x.state.dirty.overlay) (sym same) (holds_files r m s v is)

  -- the layout is the machine's
  pub layout_inside : (size : ℕ) → IsFitting size v → m.layout ≡ layout_of inside.state.geometry
  layout_inside size fits =
      subst (λ (x : Memory). m.layout ≡ layout_of x.state.geometry) (sym same)
      (sym (layout_is r m s.contents v.state is.holds.holds) ∙ ap (λ (g : Geometry). layout_of g) fits.size.root)
