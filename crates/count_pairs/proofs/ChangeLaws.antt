-- What a write changes, what several do, and what they leave of the named homes.
use Rattle.std.proofs.Common.{◌≡◌, ◌≢◌, ℕ, zero, suc, Bool, true, false, List, [], ◌∷◌, refl, ap, sym, ◌∙◌, subst, arith, ⊎_elim}
use Rattle.std.specs.Prelude.{slice_get, Option, unwrap_or}
use Rattle.std.proofs.lemmas.Bool.{cases_Bool, cases_eq, false≢true}
use Rattle.std.proofs.lemmas.Bool.Decides.{nat_tests}
use Rattle.std.proofs.lemmas.List.{length-set}
use Rattle.vol_numbers.specs.Block.{zero_block}
use Rattle.vol_numbers.specs.declared.block.Block.{Block}
use Rattle.disk_model.specs.Disk.{State, included, is_among, written, EachImage}
use Rattle.disk_model.proofs.Moments.{slice_get-set_other, is_among-included}
use Rattle.count_pairs.specs.Homes.{blocks_in, home_of, other_of}
use Rattle.count_pairs.specs.Writing.{ChangesOnly, HasNamedHomes, IsWritten}
use Rattle.count_pairs.proofs.BitLaws.{bit_small}

pub is_among-included_same : (at : ℕ) (ns : List ℕ) → is_among (included at ns) at ≡ true
is_among-included_same at [] = grind (arith, nat_tests)
is_among-included_same at (n ∷ ns) = let rest = is_among-included_same at ns in grind (arith, nat_tests, rest)

-- a number that was among them stays
is_among-stays : (at k : ℕ) (ns : List ℕ) → is_among ns k ≡ true → is_among (included at ns) k ≡ true
is_among-stays at k ns is =
    ⊎_elim (λ same. ap (λ (n : ℕ). is_among (included at ns) n) same ∙ is_among-included_same at ns) (λ ne. is_among-included at k ns ne ∙ is) (cases_eq k at)

-- a write changes its block alone
pub one_written : (at : ℕ) (block : Block) (s : State) → ChangesOnly (λ b. b ≡ at) s (written at block s)
one_written at block s = record {
  as_long = length-set s.contents at block;
  others = λ b ne. slice_get-set_other s.contents at b block ne;
  others_unsynced = λ b ne. is_among-included at b s.unsynced ne;
  stay_unsynced = λ b is. is_among-stays at b s.unsynced is;
  changed_unsynced = λ b synced.
      let ne : b ≢ at = λ e. false≢true (sym synced ∙ ap (λ (n : ℕ). is_among (included at s.unsynced) n) e ∙ is_among-included_same at s.unsynced) in
      slice_get-set_other s.contents at b block ne;
}

pub none_changed : (P : ℕ → Type 0) (s : State) → ChangesOnly P s s
none_changed P s = record { as_long = refl; others = λ b ne. refl; others_unsynced = λ b ne. refl; stay_unsynced = λ b is. is; changed_unsynced = λ b synced. refl }

-- one change more, of blocks with P
pub changes_then : {P Q : ℕ → Type 0} {before mid after : State} → ChangesOnly P before mid → ChangesOnly Q mid after → ((b : ℕ) → Q b → P b) → ChangesOnly P before after
changes_then {mid = mid} first second within = record {
  as_long = second.as_long ∙ first.as_long;
  others = λ b none. second.others b (λ q. none (within b q)) ∙ first.others b none;
  others_unsynced = λ b none. second.others_unsynced b (λ q. none (within b q)) ∙ first.others_unsynced b none;
  stay_unsynced = λ b is. second.stay_unsynced b (first.stay_unsynced b is);
  changed_unsynced = λ b synced.
      let was : is_among mid.unsynced b ≡ false = ⊎_elim (λ is. absurd (false≢true (sym synced ∙ second.stay_unsynced b is))) (λ not. not) (cases_Bool (is_among mid.unsynced b)) in
      second.changed_unsynced b synced ∙ first.changed_unsynced b was;
}

-- blocks that are the same have the same bytes
same_bytes : (xs ys : List Block) (b : ℕ) → slice_get xs b ≡ slice_get ys b → blocks_in xs b ≡ blocks_in ys b
same_bytes xs ys b e = from_get xs b ∙ (ap (λ (o : Option Block). (unwrap_or o zero_block).bytes) e ∙ sym (from_get ys b))
  where
    from_get : (zs : List Block) (k : ℕ) → blocks_in zs k ≡ (unwrap_or (slice_get zs k) zero_block).bytes
    from_get [] k = refl
    from_get (z ∷ zs) zero = refl
    from_get (z ∷ zs) (suc k) = from_get zs k

-- no home that is named is one that isn't
named_apart : (homes : List ℕ) (i k : ℕ) → home_of homes i ≢ other_of homes k
named_apart homes i k e = ⊎_elim
    (λ same. omega (arith, bit_small homes i, subst (λ (j : ℕ). home_of homes i ≡ other_of homes j) (sym same) e))
    (λ other. omega (arith, bit_small homes i, bit_small homes k, other, e))
    (cases_eq i k)

named_unwritten : (homes : List ℕ) (touched : List Bool) (i : ℕ) → ¬ IsWritten homes touched (home_of homes i)
named_unwritten homes touched i is = named_apart homes i is.0 is.2

-- the named homes keep their bytes
pub named_kept : (homes : List ℕ) (touched : List Bool) {before after : State} (i : ℕ) → ChangesOnly (IsWritten homes touched) before after
    → blocks_in after.contents (home_of homes i) ≡ blocks_in before.contents (home_of homes i)
named_kept homes touched {before = before} {after = after} i changes =
    same_bytes after.contents before.contents (home_of homes i) (changes.others (home_of homes i) (named_unwritten homes touched i))

-- each image has the named homes
pub named_in_images : (homes : List ℕ) (touched : List Bool) (n : ℕ) (before s : State) → ChangesOnly (IsWritten homes touched) before s → EachImage (HasNamedHomes homes n before) s
named_in_images homes touched n before s changes image is = record {
  as_long = is.as_long ∙ changes.as_long;
  each = λ i lt synced.
      let none = named_unwritten homes touched i in
      is.agrees (home_of homes i) (changes.others_unsynced (home_of homes i) none ∙ synced) ∙ changes.others (home_of homes i) none;
}

-- the other homes of two count blocks are apart
pub others_apart : (homes : List ℕ) (i k : ℕ) → i ≢ k → other_of homes i ≢ other_of homes k
others_apart homes i k ne e = omega (arith, bit_small homes i, bit_small homes k, ne, e)

-- a block that isn't changed keeps its bytes
pub bytes_kept : {P : ℕ → Type 0} {before after : State} (b : ℕ) → ChangesOnly P before after → ¬ P b → blocks_in after.contents b ≡ blocks_in before.contents b
bytes_kept {before = before} {after = after} b changes none = same_bytes after.contents before.contents b (changes.others b none)
