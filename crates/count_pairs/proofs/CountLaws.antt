-- Counts block by block.
use Rattle.std.proofs.Common.{◌≡◌, ◌≢◌, ◌<◌, ◌≤◌, ℕ, zero, suc, ◌+◌, ◌*◌, ◌/◌, ◌-◌, Bool, true, false, List, [], ◌∷◌, ◌++◌, length, take, drop, ap, sym, ◌∙◌, subst, arith, inl, inr, ◌⊎◌, ⊎_elim}
use Rattle.std.specs.Prelude.{slice_set}
use Rattle.std.proofs.lemmas.Bool.{cases_Bool, cases_eq, false≢true}
use Rattle.std.proofs.lemmas.List.{drop_at, drop_all, drop-append-le, take-append-le, take_all, length-drop, take-append-drop, drop-set-lt, drop-set-add, take-set-le, get_or-set_same, get_or-set_other, length-set}
use Rattle.disk_model.specs.Disk.{Given}
use Rattle.count_pairs.specs.Homes.{Blocks, home_of, other_of, counts_from}
use Rattle.count_pairs.specs.Loading.{GivesLast}
use Rattle.count_pairs.specs.Table.{Table, count_block, is_touched, AllStand, IsKept}
use Rattle.block_format.specs.Words.{words}
use Rattle.count_pairs.specs.Writing.{NamesWritten}

-- the last count block is what was read last
last_block : (counts block : List ℕ) (i : ℕ) → length counts ≡ 1024 * i → length block ≡ 1024 → count_block (counts ++ block) i ≡ block
last_block counts block i long full = ap (λ (xs : List ℕ). take 1024 xs) (drop_at counts block (1024 * i) long) ∙ take_all 1024 block (omega (arith, full))

-- one count block more was read
pub stand_more : (read : Blocks) (homes counts block : List ℕ) (i : ℕ) → length counts ≡ 1024 * i → length block ≡ 1024 → words (read (home_of homes i)) ≡ block → AllStand read homes i counts
    → AllStand read homes (i + 1) (counts ++ block)
stand_more read homes counts block i long full is stand = record {
  each = λ j lt. ⊎_elim
      (λ here. subst (λ (k : ℕ). words (read (home_of homes k)) ≡ count_block (counts ++ block) k) (sym here) (is ∙ sym (last_block counts block i long full)))
      (λ other. stand.each j (omega (arith, other, lt)) ∙ sym (before j (omega (arith, other, lt))))
      (cases_eq j i);
}
  where
    before : (j : ℕ) → j < i → count_block (counts ++ block) j ≡ count_block counts j
    before j lt =
        ap (λ (xs : List ℕ). take 1024 xs) (drop-append-le (1024 * j) counts block (omega (arith, long, lt)))
        ∙ take-append-le 1024 (drop (1024 * j) counts) block (omega (arith, length-drop (1024 * j) counts, long, lt))

-- and spells the last counts
pub given_more : (given : Given) (homes counts block : List ℕ) (i : ℕ) → length counts ≡ 1024 * i → length block ≡ 1024 → given.at ≡ home_of homes i → words given.block.bytes ≡ block
    → GivesLast given homes (i + 1) (counts ++ block)
given_more given homes counts block i long full at is =
    let last : i + 1 - 1 ≡ i = omega arith in
    record {
      at = at ∙ ap (λ (k : ℕ). home_of homes k) (sym last);
      spelled = is ∙ (sym (last_block counts block i long full) ∙ ap (λ (k : ℕ). count_block (counts ++ block) k) (sym last));
    }

drop-more : {X : Type 0} (a b n : ℕ) (xs : List X) → a + b ≡ n → drop b (drop a xs) ≡ drop n xs
drop-more zero b n xs e =
    let same : b ≡ n = omega (arith, e) in
    ap (λ (k : ℕ). drop k xs) same
drop-more (suc a) b n [] e = drop_all b [] (omega arith) ∙ sym (drop_all n [] (omega arith))
drop-more (suc a) b zero (x ∷ xs) e = absurd (omega (arith, e))
drop-more (suc a) b (suc n) (x ∷ xs) e = drop-more a b n xs (omega (arith, e))

-- the counts from a count block on are that block's and the rest
block_and_rest : (counts : List ℕ) (i : ℕ) → count_block counts i ++ drop (1024 * (i + 1)) counts ≡ drop (1024 * i) counts
block_and_rest counts i =
    ap (λ (rest : List ℕ). count_block counts i ++ rest) (sym (drop-more (1024 * i) 1024 (1024 * (i + 1)) counts (omega arith)))
    ∙ take-append-drop 1024 (drop (1024 * i) counts)

from_block : (read : Blocks) (homes counts : List ℕ) (i n : ℕ) → length counts ≡ 1024 * (i + n) → ((j : ℕ) → i ≤ j → j < i + n → words (read (home_of homes j)) ≡ count_block counts j)
    → counts_from read homes i n ≡ drop (1024 * i) counts
from_block read homes counts i zero long each = sym (drop_all (1024 * i) counts (omega (arith, long)))
from_block read homes counts i (suc n) long each =
    let rest = from_block read homes counts (i + 1) n (omega (arith, long)) (λ j le lt. each j (omega (arith, le)) (omega (arith, lt))) in
    (λ k. each i (omega arith) (omega arith) k ++ rest k) ∙ block_and_rest counts i

-- where each count block stands, the homes spell the list
pub counts_are : (read : Blocks) (homes counts : List ℕ) (n : ℕ) → length counts ≡ 1024 * n → AllStand read homes n counts → counts_from read homes 0 n ≡ counts
counts_are read homes counts n long stand = from_block read homes counts 0 n (omega (arith, long)) (λ j le lt. stand.each j (omega (arith, lt)))

pub touched_within : (touched : List Bool) (i : ℕ) → is_touched touched i ≡ true → i < length touched
touched_within [] i is = absurd (false≢true is)
touched_within (t ∷ ts) zero is = omega arith
touched_within (t ∷ ts) (suc i) is = let lt = touched_within ts i is in omega (arith, lt)

lt_or_le : (a c : ℕ) → (a < c) ⊎ (c ≤ a)
lt_or_le a zero = inr (omega arith)
lt_or_le zero (suc c) = inl (omega arith)
lt_or_le (suc a) (suc c) = ⊎_elim (λ lt. inl (omega (arith, lt))) (λ le. inr (omega (arith, le))) (lt_or_le a c)

-- a count of another count block leaves it
block_untouched : (counts : List ℕ) (b x i : ℕ) → i ≢ b / 1024 → count_block (slice_set counts b x) i ≡ count_block counts i
block_untouched counts b x i ne = ⊎_elim below behind (lt_or_le b (1024 * i))
  where
    below : b < 1024 * i → count_block (slice_set counts b x) i ≡ count_block counts i
    below lt = ap (λ (xs : List ℕ). take 1024 xs) (drop-set-lt (1024 * i) counts b x lt)

    behind : 1024 * i ≤ b → count_block (slice_set counts b x) i ≡ count_block counts i
    behind le =
        let from : 1024 * i + (b - 1024 * i) ≡ b = omega (arith, le) in
        let far : 1024 ≤ b - 1024 * i = omega (arith, le, ne) in
        ap (λ (k : ℕ). count_block (slice_set counts k x) i) (sym from)
        ∙ (ap (λ (xs : List ℕ). take 1024 xs) (drop-set-add (1024 * i) counts (b - 1024 * i) x) ∙ take-set-le 1024 (drop (1024 * i) counts) (b - 1024 * i) x far)

-- a count that is set keeps each count block that isn't touched
pub set_keeps : (read : Blocks) (homes : List ℕ) (old new : Table) (b x : ℕ) → length old.counts ≡ 1024 * length old.touched → b < length old.counts
    → new.counts ≡ slice_set old.counts b x → new.touched ≡ slice_set old.touched (b / 1024) true → IsKept read homes old → IsKept read homes new
set_keeps read homes old new b x long within counts touched kept = record {
  each = λ i lt untouched.
      let as_many : length new.touched ≡ length old.touched = ap (λ (xs : List Bool). length xs) touched ∙ length-set old.touched (b / 1024) true in
      let set_untouched : is_touched (slice_set old.touched (b / 1024) true) i ≡ false = sym (ap (λ (xs : List Bool). is_touched xs i) touched) ∙ untouched in
      let ne : i ≢ b / 1024 = λ e. false≢true (sym set_untouched ∙ (ap (λ (k : ℕ). is_touched (slice_set old.touched (b / 1024) true) k) e ∙ set_same)) in
      kept.each i (omega (arith, lt, as_many)) (sym (get_or-set_other old.touched (b / 1024) i true false ne) ∙ set_untouched)
      ∙ sym (ap (λ (xs : List ℕ). count_block xs i) counts ∙ block_untouched old.counts b x i ne);
}
  where
    set_same : is_touched (slice_set old.touched (b / 1024) true) (b / 1024) ≡ true
    set_same = get_or-set_same old.touched (b / 1024) true false (omega (arith, long, within))

-- after the touched count blocks were written and named, each stands
pub all_stand : (before after : Blocks) (old_homes new_homes : List ℕ) (t : Table) (counts : List ℕ) (touched : List Bool) → counts ≡ t.counts → touched ≡ t.touched
    → NamesWritten old_homes new_homes touched → ((i : ℕ) → is_touched touched i ≡ true → words (after (other_of old_homes i)) ≡ count_block counts i)
    → ((i : ℕ) → after (home_of old_homes i) ≡ before (home_of old_homes i)) → IsKept before old_homes t → AllStand after new_homes (length t.touched) t.counts
all_stand before after old_homes new_homes t counts touched same_counts same_touched names written same kept = record {
  each = λ i lt. ⊎_elim
      (λ is. ap (λ (bit : ℕ). words (after (3 + 2 * i + bit))) (names.written i is) ∙ (written i is ∙ ap (λ (xs : List ℕ). count_block xs i) same_counts))
      (λ not. ap (λ (bit : ℕ). words (after (3 + 2 * i + bit))) (names.others i not)
      ∙ (ap words (same i) ∙ kept.each i lt (sym (ap (λ (xs : List Bool). is_touched xs i) same_touched) ∙ not)))
      (cases_Bool (is_touched touched i));
}

-- what stands is kept, whatever was touched
pub stand_kept : (read : Blocks) (homes counts : List ℕ) (touched : List Bool) → AllStand read homes (length touched) counts → IsKept read homes (record { counts = counts; touched = touched })
stand_kept read homes counts touched stand = record { each = λ i lt not. stand.each i lt }

-- what is kept stays so while the named homes keep their bytes
pub still_kept : (before after : Blocks) (homes : List ℕ) (t : Table) → ((i : ℕ) → after (home_of homes i) ≡ before (home_of homes i)) → IsKept before homes t → IsKept after homes t
still_kept before after homes t same kept = record { each = λ i lt not. ap words (same i) ∙ kept.each i lt not }
