-- What a point writes isn't live.
use Rattle.std.proofs.Common.{◌≡◌, ℕ, ◌+◌, ◌-◌, ◌*◌, ◌<◌, ◌≤◌, true, List, get_or, refl, sym, ap, subst, arith}
use Rattle.std.proofs.lemmas.Bool.Decides.{nat_tests}
use Rattle.vol_numbers.specs.Layout.{Layout, count_blocks, log_start, area_start}
use Rattle.vol_numbers.specs.declared.block.Block.{Block}
use Rattle.root_switch.specs.Current.{root_of_image, FitsImage}
use Rattle.block_format.specs.Homes.{home_bit}
use Rattle.image_model.specs.Findings.{is_in_area}
use Rattle.image_model.specs.Meanings.{NotLive, OldRootStands}
use Rattle.image_model.proofs.ImageLaws.{kept_stands}
use Rattle.image_model.specs.Live.{IsLive, home, logged, counted}
use Rattle.image_model.specs.Seen.{seen}
use Rattle.image_model.specs.Stands.{layout_in, used_in}

one_bit : (homes : List ℕ) (i : ℕ) → home_bit homes i < 2
one_bit homes i = omega arith

in_area : (g : Layout) (b : ℕ) → is_in_area g b ≡ true → area_start g ≤ b
in_area g b is = grind (arith, nat_tests)

module _ (image : List Block) (fits : FitsImage image) where
  abbrev g : Layout
  g = layout_in image

  abbrev homes : List ℕ
  homes = (root_of_image image).homes

  free_apart : (b : ℕ) → is_in_area g b ≡ true → get_or (seen image).kept b 0 ≡ 0 → (c : ℕ) → IsLive image c → c ≡ b → ⊥
  free_apart b inside none _ (home i lt) e = omega (arith, in_area g b inside, lt, one_bit homes i, e)
  free_apart b inside none _ (logged i lt) e = omega (arith, in_area g b inside, lt, fits.geometry.log_fits, e)
  free_apart b inside none c (counted _ is some) e = let zero_count : get_or (seen image).kept c 0 ≡ 0 = subst (λ (k : ℕ). get_or (seen image).kept k 0 ≡ 0) (sym e) none in omega (arith, some, zero_count)

  home_apart : (i : ℕ) → i < count_blocks g → (c : ℕ) → IsLive image c → c ≡ 3 + 2 * i + (1 - home_bit homes i) → ⊥
  home_apart i lt _ (home j l) e =
      let same : j ≡ i = omega (arith, one_bit homes i, one_bit homes j, e) in
      let bit : home_bit homes j ≡ home_bit homes i = ap (home_bit homes) same in
      omega (arith, one_bit homes i, bit, same, e)
  home_apart i lt _ (logged j l) e = omega (arith, lt, e, one_bit homes i)
  home_apart i lt c (counted _ is some) e = omega (arith, in_area g c is, lt, e, one_bit homes i)

  log_apart : (k : ℕ) → used_in image ≤ k → k < g.log_blocks + 32 → (c : ℕ) → IsLive image c → c ≡ log_start g + k → ⊥
  log_apart k le lt _ (home j l) e = omega (arith, l, e, one_bit homes j)
  log_apart k le lt _ (logged j l) e = omega (arith, l, le, e)
  log_apart k le lt c (counted _ is some) e = omega (arith, in_area g c is, lt, e)

  slot_apart : (b : ℕ) → b < 3 → (c : ℕ) → IsLive image c → c ≡ b → ⊥
  slot_apart b lt _ (home i l) e = omega (arith, lt, e)
  slot_apart b lt _ (logged i l) e = omega (arith, lt, e)
  slot_apart b lt c (counted _ is some) e = omega (arith, in_area g c is, lt, e)

pub not_live : NotLive
not_live image fits = record {
  slots = λ b lt live. slot_apart image fits b lt b live refl;
  free = λ b inside none live. free_apart image fits b inside none b live refl;
  home = λ i lt live. home_apart image fits i lt _ live refl;
  log = λ k le lt live. log_apart image fits k le lt _ live refl;
}

pub old_root_stands : OldRootStands
old_root_stands state slot image s stands synced old = kept_stands state.contents image s (record {
  as_long = old.as_long;
  root = old.root;
  live = λ b live. old.others b
      (λ e. (not_live state.contents stands.fits).slots b (omega (arith, e)) live)
      (λ e. (not_live state.contents stands.fits).slots b (omega (arith, e)) live)
      (synced b live);
}) stands
