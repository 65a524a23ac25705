-- Pages of different blocks.
use Rattle.std.proofs.Common.{◌≡◌, ◌≢◌, ◌<◌, ℕ, zero, suc, Bool, true, false, List, [], ◌∷◌, length, get_or, refl, sym, ap, ◌∙◌, arith}
use Rattle.std.specs.Prelude.{◌||◌, nat_eq}
use Rattle.std.proofs.lemmas.Bool.Decides.{nat_tests}
use Rattle.vol_numbers.specs.declared.runs.Page.{Page}
use Rattle.block_tree.specs.Notes.{page_blocks}
use Rattle.place_words.specs.Different.{Distinct, is_among}

-- whatever stands in for what isn't there
pub same_page : (pages : List Page) (k : ℕ) (d e : Page) → k < length pages → get_or pages k d ≡ get_or pages k e
same_page [] k d e lt = absurd (omega (arith, lt))
same_page (p ∷ ps) zero d e lt = refl
same_page (p ∷ ps) (suc k) d e lt = same_page ps k d e (omega (arith, lt))

-- the block of a page is one of theirs
pub among_at : (pages : List Page) (i : ℕ) (e : Page) → i < length pages → is_among (page_blocks pages) (get_or pages i e).at ≡ true
among_at [] i e lt = absurd (omega (arith, lt))
among_at (p ∷ ps) zero e lt = let same : nat_eq p.at p.at ≡ true = grind (arith, nat_tests) in ap (λ (t : Bool). t || is_among (page_blocks ps) p.at) same
among_at (p ∷ ps) (suc i) e lt = later (nat_eq p.at (get_or ps i e).at) _ (among_at ps i e (omega (arith, lt)))
  where
    later : (a c : Bool) → c ≡ true → (a || c) ≡ true
    later true c is = refl
    later false c is = is

-- two pages have two blocks
pub blocks_apart : (pages : List Page) (k i : ℕ) (d e : Page) → Distinct (page_blocks pages) → k < i → i < length pages → (get_or pages k d).at ≢ (get_or pages i e).at
blocks_apart [] k i d e distinct lt long same = absurd (omega (arith, long))
blocks_apart (p ∷ ps) k zero d e distinct lt long same = absurd (omega (arith, lt))
blocks_apart (p ∷ ps) zero (suc i) d e distinct lt long same =
    let there : is_among (page_blocks ps) p.at ≡ true = ap (is_among (page_blocks ps)) same ∙ among_at ps i e (omega (arith, long)) in
    let never : true ≡ false = sym there ∙ distinct.0 in
    cc
blocks_apart (p ∷ ps) (suc k) (suc i) d e distinct lt long same = blocks_apart ps k i d e distinct.1 (omega (arith, lt)) (omega (arith, long)) same
