-- An image with pages in it.
use Rattle.std.proofs.Common.{◌≡◌, ℕ, zero, suc, ◌<◌, Bool, true, false, List, [], ◌∷◌, length, get_or, set, refl, ap, ◌∙◌, arith}
use Rattle.std.specs.Prelude.{◌||◌, ◌≢◌, nat_eq, slice_get, All}
use Rattle.std.proofs.lemmas.Bool.Decides.{nat_tests}
use Rattle.std.proofs.lemmas.List.{get_or-set_same, get_or-set_other}
use Rattle.std.proofs.lemmas.List.Elements.{All-nil, All-cons, All-head, All-tail}
use Rattle.std.proofs.Math.ListN.{length-set}
use Rattle.vol_numbers.specs.Block.{zero_block}
use Rattle.vol_numbers.specs.declared.block.Block.{Block}
use Rattle.vol_numbers.specs.declared.runs.Page.{Page}
use Rattle.block_tree.specs.Notes.{page_blocks}
use Rattle.image_model.specs.Live.{IsLive}
use Rattle.place_words.specs.Different.{is_among, Distinct}
use Rattle.point_space.specs.Needs.{PagesMayStand}

with_pages : List Page → List Block → List Block
with_pages [] image = image
with_pages (p ∷ ps) image = set (with_pages ps image) p.at p.block

pages_length : (ps : List Page) (image : List Block) → length (with_pages ps image) ≡ length image
unfolding with_pages
pages_length [] image = refl
pages_length (p ∷ ps) image = length-set (with_pages ps image) p.at p.block ∙ pages_length ps image

-- a block that is set leaves the others
set_other : (xs : List Block) (i j : ℕ) (x : Block) → i ≢ j → slice_get (set xs i x) j ≡ slice_get xs j
set_other [] i j x apart = refl
set_other (y ∷ ys) zero zero x apart = absurd (apart refl)
set_other (y ∷ ys) zero (suc j) x apart = refl
set_other (y ∷ ys) (suc i) zero x apart = refl
set_other (y ∷ ys) (suc i) (suc j) x apart = set_other ys i j x (λ e. apart (ap suc e))

differ : (a b : ℕ) → nat_eq a b ≡ false → a ≢ b
differ a b apart = grind (arith, nat_tests)

or_parts : (a b : Bool) → (a || b) ≡ false → (a ≡ false) × (b ≡ false)
or_parts true b e = cc
or_parts false b e = (refl, e)

others_stay : (ps : List Page) (image : List Block) (b : ℕ) → is_among (page_blocks ps) b ≡ false → slice_get (with_pages ps image) b ≡ slice_get image b
unfolding with_pages
others_stay [] image b out = refl
others_stay (p ∷ ps) image b out =
    let parts = or_parts (nat_eq p.at b) (is_among (page_blocks ps) b) out in
    set_other (with_pages ps image) p.at b p.block (differ p.at b parts.0) ∙ others_stay ps image b parts.1

abbrev AreAt : List Block → List Page → Type 0
AreAt image ps = All (λ (p : Page). (get_or image p.at zero_block).bytes ≡ p.block.bytes) ps

abbrev IsAt : List Block → Page → Type 0
IsAt image p = (get_or image p.at zero_block).bytes ≡ p.block.bytes

still_at : (image : List Block) (b : ℕ) (x : Block) (ps : List Page) → is_among (page_blocks ps) b ≡ false → AreAt image ps → AreAt (set image b x) ps
still_at image b x [] out all = All-nil (IsAt (set image b x))
still_at image b x (p ∷ ps) out all =
    let parts = or_parts (nat_eq p.at b) (is_among (page_blocks ps) b) out in
    All-cons (IsAt (set image b x)) p ps
    (ap (λ (y : Block). y.bytes) (get_or-set_other image b p.at x zero_block (differ p.at b parts.0)) ∙ All-head (IsAt image) p ps all)
    (still_at image b x ps parts.1 (All-tail (IsAt image) p ps all))

pages_there : (ps : List Page) (image : List Block) → Distinct (page_blocks ps) → All (λ b. b < length image) (page_blocks ps) → AreAt (with_pages ps image) ps
unfolding with_pages
pages_there [] image distinct below = All-nil (IsAt image)
pages_there (p ∷ ps) image distinct below =
    let rest = pages_there ps image distinct.1 (All-tail (λ b. b < length image) p.at (page_blocks ps) below) in
    let lt : p.at < length (with_pages ps image) = omega (arith, pages_length ps image, All-head (λ b. b < length image) p.at (page_blocks ps) below) in
    All-cons (IsAt (set (with_pages ps image) p.at p.block)) p ps
    (ap (λ (y : Block). y.bytes) (get_or-set_same (with_pages ps image) p.at p.block zero_block lt))
    (still_at (with_pages ps image) p.at p.block ps distinct.0 rest)

pub pages_may_stand : PagesMayStand
pages_may_stand old pages distinct below dead = record {
  new = with_pages pages old;
  live = λ b live. others_stay pages old b (not_among (is_among (page_blocks pages) b) refl live);
  stand = record { each = pages_there pages old distinct below };
}
  where
    not_among : {b : ℕ} (t : Bool) → is_among (page_blocks pages) b ≡ t → IsLive old b → is_among (page_blocks pages) b ≡ false
    not_among {b} true is live = absurd (dead b is live)
    not_among false is live = is
