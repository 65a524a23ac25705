-- The phases of the root find nothing exactly where the root is as it should be.
use Rattle.std.proofs.Common.{◌≡◌, ℕ, zero, suc, ◌+◌, ◌-◌, ◌<◌, ◌≤◌, Bool, true, false, not, List, Some, None, length, refl, sym, subst, arith}
use Rattle.std.specs.Prelude.{◌==◌, ◌&&◌, nat_le}
use Rattle.std.proofs.lemmas.Bool.{eqb-true, eq-eqb}
use Rattle.std.proofs.lemmas.Bool.Decides.{nat_tests}
use Rattle.std.proofs.lemmas.Slice.Eq.{bytes_eq-Decides}
use Rattle.vol_numbers.specs.Layout.{Layout, IsValid, count_blocks, area_start}
use Rattle.vol_numbers.specs.declared.block.Block.{Block}
use Rattle.block_format.specs.Homes.{home_bit}
use Rattle.block_format.specs.Root.{Root, root_in, root_bytes, HasGeometry}
use Rattle.root_switch.specs.Current.{root_bytes_in, root_of_image, HasRoot, FitsImage}
use Rattle.image_model.specs.declared.finding.Finding.TheVariants.{NoRoot, BadGeometry}
use Rattle.image_model.specs.Exact.{RootsAreFound}
use Rattle.image_model.specs.Findings.{◌then◌, bad_if}
use Rattle.image_model.specs.Roots.{is_valid, are_clear, is_geometry, has_root, fits_image, root_finding}

two : (a b : Bool) → (a && b) ≡ true → (a ≡ true) × (b ≡ true)
two true b e = (refl, e)
two false b e = cc

join : (a b : Bool) → a ≡ true → b ≡ true → (a && b) ≡ true
join true b e f = f
join false b e f = cc

valid : (g : Layout) → is_valid g ≡ true → IsValid g
valid g is =
    let c = two (nat_le g.blocks 65536 && nat_le 64 g.log_blocks && nat_le g.log_blocks 4096) (nat_le (area_start g + 64) g.blocks) is in
    let b = two (nat_le g.blocks 65536 && nat_le 64 g.log_blocks) (nat_le g.log_blocks 4096) c.0 in
    let a = two (nat_le g.blocks 65536) (nat_le 64 g.log_blocks) b.0 in
    record {
      blocks_at_most = let e = a.0 in grind (arith, nat_tests);
      log_at_least = let e = a.1 in grind (arith, nat_tests);
      log_at_most = let e = b.1 in grind (arith, nat_tests);
      area_at_least = let e = c.1 in grind (arith, nat_tests);
    }

le_test : (a b : ℕ) → a ≤ b → nat_le a b ≡ true
le_test a b le = grind (arith, nat_tests)

le_read : (a b : ℕ) → nat_le a b ≡ true → a ≤ b
le_read a b is = grind (arith, nat_tests)

valid_test : (g : Layout) → IsValid g → is_valid g ≡ true
valid_test g v = join _ _ (join _ _ (join _ _ (le_test g.blocks 65536 v.blocks_at_most) (le_test 64 g.log_blocks v.log_at_least)) (le_test g.log_blocks 4096 v.log_at_most)) (le_test (area_start g + 64) g.blocks v.area_at_least)

clear : (homes : List ℕ) (i k : ℕ) → are_clear homes i k ≡ true → (j : ℕ) → i ≤ j → j < i + k → home_bit homes j ≡ 0
clear homes i zero is j le lt = absurd (omega (arith, le, lt))
clear homes i (suc k) is j le lt = by (i == j) refl (λ more. clear homes (i + 1) k parts.1 j more (omega (arith, lt)))
  where
    parts : (home_bit homes i == 0 ≡ true) × (are_clear homes (i + 1) k ≡ true)
    parts = two _ _ is

    by : (t : Bool) → (i == j) ≡ t → (i + 1 ≤ j → home_bit homes j ≡ 0) → home_bit homes j ≡ 0
    by true same rest = subst (λ (n : ℕ). home_bit homes n ≡ 0) (eqb-true i j same) (eqb-true (home_bit homes i) 0 parts.0)
    by false apart rest = let more : i + 1 ≤ j = grind (arith, nat_tests) in rest more

clear_test : (homes : List ℕ) (i k : ℕ) → ((j : ℕ) → i ≤ j → j < i + k → home_bit homes j ≡ 0) → are_clear homes i k ≡ true
clear_test homes i zero all = refl
clear_test homes i (suc k) all = join _ _ (eq-eqb (home_bit homes i) 0 (all i (omega arith) (omega arith))) (clear_test homes (i + 1) k (λ j le lt. all j (omega (arith, le)) (omega (arith, lt))))

geometry : (r : Root) → is_geometry r ≡ true → HasGeometry r
geometry r is =
    let c = two (is_valid r.layout && nat_le r.records r.log_used && nat_le r.log_used r.layout.log_blocks) (are_clear r.homes (count_blocks r.layout) (1024 - count_blocks r.layout)) is in
    let b = two (is_valid r.layout && nat_le r.records r.log_used) (nat_le r.log_used r.layout.log_blocks) c.0 in
    let a = two (is_valid r.layout) (nat_le r.records r.log_used) b.0 in
    record {
      valid = valid r.layout a.0;
      records_fit = le_read _ _ a.1;
      log_fits = le_read _ _ b.1;
      homes_fit = λ i lt le. clear r.homes (count_blocks r.layout) (1024 - count_blocks r.layout) c.1 i le (omega (arith, lt, le));
    }

geometry_test : (r : Root) → HasGeometry r → is_geometry r ≡ true
geometry_test r has =
    join _ _ (join _ _ (join _ _ (valid_test r.layout has.valid) (le_test _ _ has.records_fit)) (le_test _ _ has.log_fits))
    (clear_test r.homes (count_blocks r.layout) (1024 - count_blocks r.layout) (λ j le lt. has.homes_fit j (omega (arith, le, lt)) le))

module _ (image : List Block) where
  root_read : has_root image ≡ true → HasRoot image
  root_read is =
      let parts = two (nat_le 3 (length image)) _ is in
      record { slots = le_read 3 (length image) parts.0; shape = sym ((bytes_eq-Decides (root_bytes (root_in (root_bytes_in image))) (root_bytes_in image)).0 parts.1) }

  root_test : HasRoot image → has_root image ≡ true
  root_test has = join _ _ (le_test 3 (length image) has.slots) ((bytes_eq-Decides (root_bytes (root_in (root_bytes_in image))) (root_bytes_in image)).1 (sym has.shape))

  fits_read : fits_image image ≡ true → FitsImage image
  fits_read is = let parts = two (is_geometry (root_of_image image)) _ is in record { geometry = geometry (root_of_image image) parts.0; size = eqb-true _ _ parts.1 }

  fits_test : FitsImage image → fits_image image ≡ true
  fits_test fits = join _ _ (geometry_test (root_of_image image) fits.geometry) (eq-eqb _ _ fits.size)

  pub root_none : HasRoot image → FitsImage image → root_finding image ≡ None
  unfolding root_finding
  root_none has fits = by (has_root image) (root_test has) (fits_image image) (fits_test fits)
    where
      by : (t : Bool) → t ≡ true → (u : Bool) → u ≡ true → (bad_if (not t) NoRoot then bad_if (not u) BadGeometry) ≡ None
      by true e true f = refl
      by true e false f = cc
      by false e u f = cc

  found_none : root_finding image ≡ None → HasRoot image × FitsImage image
  unfolding root_finding
  found_none is = by (has_root image) refl (fits_image image) refl is
    where
      by : (t : Bool) → has_root image ≡ t → (u : Bool) → fits_image image ≡ u → (bad_if (not t) NoRoot then bad_if (not u) BadGeometry) ≡ None → HasRoot image × FitsImage image
      by true e true f is = (root_read e, fits_read f)
      by true e false f is = cc
      by false e u f is = cc

  no_root : root_finding image ≡ Some NoRoot → HasRoot image → ⊥
  unfolding root_finding
  no_root is has = by (has_root image) (root_test has) (fits_image image) is
    where
      by : (t : Bool) → t ≡ true → (u : Bool) → (bad_if (not t) NoRoot then bad_if (not u) BadGeometry) ≡ Some NoRoot → ⊥
      by true e true is = cc
      by true e false is = cc
      by false e u is = cc

  has_none : (HasRoot image → ⊥) → root_finding image ≡ Some NoRoot
  unfolding root_finding
  has_none never = by (has_root image) refl (fits_image image)
    where
      by : (t : Bool) → has_root image ≡ t → (u : Bool) → (bad_if (not t) NoRoot then bad_if (not u) BadGeometry) ≡ Some NoRoot
      by true e u = absurd (never (root_read e))
      by false e u = refl

  bad : root_finding image ≡ Some BadGeometry → HasRoot image × (FitsImage image → ⊥)
  unfolding root_finding
  bad is = by (has_root image) refl (fits_image image) refl is
    where
      by : (t : Bool) → has_root image ≡ t → (u : Bool) → fits_image image ≡ u → (bad_if (not t) NoRoot then bad_if (not u) BadGeometry) ≡ Some BadGeometry → HasRoot image × (FitsImage image → ⊥)
      by true e true f is = cc
      by true e false f is = (root_read e, λ fits. let fine = fits_test fits in cc)
      by false e u f is = cc

  is_bad : HasRoot image → (FitsImage image → ⊥) → root_finding image ≡ Some BadGeometry
  unfolding root_finding
  is_bad has never = by (has_root image) (root_test has) (fits_image image) refl
    where
      by : (t : Bool) → t ≡ true → (u : Bool) → fits_image image ≡ u → (bad_if (not t) NoRoot then bad_if (not u) BadGeometry) ≡ Some BadGeometry
      by true e true f = absurd (never (fits_read f))
      by true e false f = refl
      by false e u f = cc

pub roots_are_found : RootsAreFound
roots_are_found = record {
  none = λ image. (found_none image, λ both. root_none image both.0 both.1);
  no_root = λ image. (no_root image, has_none image);
  bad_geometry = λ image. (bad image, λ both. is_bad image both.0 both.1);
}
