-- Blocks that are metadata, one after the other.
use Rattle.std.proofs.Common.{◌≡◌, ◌<◌, ◌≤◌, ℕ, suc, ◌+◌, ◌-◌, Bool, true, false, ◌||◌, cond, List, [], ◌∷◌, length, refl, ap, ◌∙◌, arith}
use Rattle.std.specs.List.{list_any}
use Rattle.vol_numbers.specs.Layout.{Layout, area_start}
use Rattle.place_words.specs.Different.{is_among, passing, span}
use Rattle.image_model.specs.Met.{Met, index, page, content, past, empty, not_inode, stray, is_metadata_at, metas}
use Rattle.image_model.specs.Sound.{AllGood}
use Rattle.image_model.proofs.Area.{metas_counted}
use Rattle.image_walk.specs.declared.marks.Mark.{Mark}
use Rattle.image_walk.specs.Marks.{Says, mark_of}

abbrev is_marked : List Mark → ℕ → Bool
is_marked marks b = (mark_of marks b).is_metadata

-- how many of these blocks are marked, from one on
abbrev pub marked_from : List Mark → ℕ → ℕ → ℕ
marked_from marks b n = passing (is_marked marks) (span b n)

module _ (marks : List Mark) (b n : ℕ) (lt : b < n) where
  marked_next : marked_from marks b (n - b) ≡ cond (is_marked marks b) 1 0 + marked_from marks (b + 1) (n - (b + 1))
  marked_next = let one : n - b ≡ suc (n - (b + 1)) = omega arith in ap (marked_from marks b) one

  pub marked_here : is_marked marks b ≡ true → marked_from marks b (n - b) ≡ 1 + marked_from marks (b + 1) (n - (b + 1))
  marked_here is = omega (arith, marked_next, ap {B = ℕ} (λ (t : Bool). cond t 1 0) is)

  pub unmarked_here : is_marked marks b ≡ false → marked_from marks b (n - b) ≡ marked_from marks (b + 1) (n - (b + 1))
  unmarked_here is = omega (arith, marked_next, ap {B = ℕ} (λ (t : Bool). cond t 1 0) is)

pub marked_end : (marks : List Mark) (b n : ℕ) → n ≤ b → marked_from marks b (n - b) ≡ 0
marked_end marks b n le = let none : n - b ≡ 0 = omega (arith, le) in ap (marked_from marks b) none

-- what is met as metadata is among what is met of it
any_is : (b : ℕ) (ms : List Met) → list_any (is_metadata_at b) ms ≡ is_among (metas ms) b
any_is b [] = refl
any_is b (index p ∷ ms) = ap (λ (t : Bool). is_metadata_at b (index p) || t) (any_is b ms)
any_is b (page n place p ∷ ms) = ap (λ (t : Bool). is_metadata_at b (page n place p) || t) (any_is b ms)
any_is b (content n place p ∷ ms) = any_is b ms
any_is b (past p ∷ ms) = any_is b ms
any_is b (empty p ∷ ms) = any_is b ms
any_is b (not_inode n ∷ ms) = any_is b ms
any_is b (stray n p ∷ ms) = any_is b ms

passing_same : (p q : ℕ → Bool) → ((b : ℕ) → p b ≡ q b) → (bs : List ℕ) → passing p bs ≡ passing q bs
passing_same p q same [] = refl
passing_same p q same (b ∷ bs) = omega (arith, ap {B = ℕ} (λ (t : Bool). cond t 1 0) (same b), passing_same p q same bs)

-- the blocks that are marked are those that are met
pub marked_all : (g : Layout) (marks : List Mark) (ms : List Met) → Says marks ms → AllGood g ms ms → area_start g ≤ g.blocks → marked_from marks (area_start g) (g.blocks - area_start g) ≡ length (metas ms)
marked_all g marks ms says good le =
    passing_same (is_marked marks) (is_among (metas ms)) (λ b. says.metadata b ∙ any_is b ms) (span (area_start g) (g.blocks - area_start g))
    ∙ metas_counted g ms good le
