-- A volume just after a point.
use Rattle.std.proofs.Common.{◌≡◌, ℕ, ◌<◌, ◌≤◌, ◌+◌, ◌-◌, ◌/◌, Bool, true, false, cond, length, Some, None, inl, inr, refl, arith}
use Rattle.std.specs.Prelude.{nat_le, Option}
use Rattle.std.specs.FinMap.{find}
use Rattle.std.proofs.lemmas.Bool.Decides.{nat_tests}
use Rattle.image_states.proofs.Mountable.{standing_is_mountable}
use Rattle.point_model.specs.Staging.{AtRest}
use Rattle.point_model.proofs.AtRest.{nodes_at_rest}
use Rattle.state_laws.specs.States.{IsMountable}
use Rattle.state_laws.proofs.HeldBytes.{found_spot}
use Rattle.volume_model.specs.Machine.{Stored}
use Rattle.volume_model.specs.Places.{Spot, spot_cmp}

module _ (s : Stored) (mountable : IsMountable s) where
  le_true : (a b : ℕ) → nat_le a b ≡ true → a ≤ b
  le_true a b e = grind (arith, nat_tests)

  near : (spot : Spot) (block : ℕ) → find spot_cmp spot s.places ≡ Some block → spot.1 < 1048576
  near spot block found =
      let has = mountable.in_files spot (found_spot s.places spot block found) in
      let size = mountable.tree.sizes has.path spot.0 has.bytes has.stands in
      small (length has.bytes) spot.1 has.within size
    where
      small : (size place : ℕ) → place < (size + (4096 - 1)) / 4096 → size ≤ 4294967296 → place < 1048576
      small size place within le = omega (arith, within, le)

  kept : (spot : Spot) → find spot_cmp spot s.places ≡ cond (nat_le 1048576 spot.1) None (find spot_cmp spot s.places)
  kept spot = by (nat_le 1048576 spot.1) refl (find spot_cmp spot s.places) refl
    where
      by : (t : Bool) → nat_le 1048576 spot.1 ≡ t → (found : Option ℕ) → find spot_cmp spot s.places ≡ found → find spot_cmp spot s.places ≡ cond t None (find spot_cmp spot s.places)
      by false far found is = refl
      by true far None is = is
      by true far (Some block) is = absurd (omega (arith, near spot block is, le_true 1048576 spot.1 far))

pub at_rest : AtRest
at_rest old s cache stands = record {
  in_order = record { blocks = record { in_order = refl; within = tt }; nodes = refl; slots = record { in_order = refl; within = tt } };
  dirty = refl;
  bytes = λ spot block found. cc;
  kept = kept s (standing_is_mountable old s stands);
  nodes = nodes_at_rest old s stands;
  renewed = λ n. inl refl;
  cuts = λ n directory. inr refl;
}
