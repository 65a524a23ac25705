-- One more step joins the record of a disk in memory.
use Rattle.std.proofs.Common.{◌≡◌, ◌≢◌, ◌⊎◌, inl, inr, ⊎_elim, ℕ, zero, suc, ◌+◌, ◌<◌, ◌≤◌, Bool, true, false, List, [], ◌∷◌, ◌++◌, length, get_or, drop, IsTrue, refl, sym, ◌∙◌, ap, subst, arith, length-append, add-zero, zero-add}
use Rattle.std.specs.Prelude.{slice_set, replicate}
use Rattle.std.specs.List.{AllByRecursion}
use Rattle.std.proofs.lemmas.List.{get_or_past, drop-append-le, drop_all, length-set, set-set, set-get_or}
use Rattle.std.proofs.lemmas.Bool.{cases_lt, false≢true}
use Rattle.std.proofs.lemmas.Bool.Decides.{nat_tests}
use Rattle.vol_numbers.specs.Block.{zero_block}
use Rattle.vol_numbers.specs.declared.block.Block.{Block}
use Rattle.disk_model.specs.Disk.{State, blank, included, written, synced, is_among, picked, IsImage}
use Rattle.disk_model.specs.Past.{Adds, Keeps}
use Rattle.disk_model.proofs.Moments.{slice_get-set_other}
use Rattle.disk_model.specs.declared.pick.Pick.{Pick}
use Rattle.mem_disk.specs.Memory.{Cells, numbers_from, told, undone, all_undone, StoodSince, past_of, IsSyncOf}
use Rattle.mem_disk.specs.declared.record.Step.{Step}
use Rattle.mem_disk.specs.declared.record.Step.TheVariants.{Wrote, Synced}

-- what follows after a step, undone from the state after it
undone_push : (steps : List Step) (step : Step) (old new : Cells) → undone step new ≡ old → all_undone (steps ++ step ∷ []) new ≡ all_undone steps old
undone_push [] step old new e = e
undone_push (first ∷ steps) step old new e = ap (undone first) (undone_push steps step old new e)

undone_from : (steps : List Step) (step : Step) (old new : Cells) (k : ℕ) → undone step new ≡ old → k ≤ length steps → told (all_undone (drop k (steps ++ step ∷ [])) new) ≡ told (all_undone (drop k steps) old)
undone_from steps step old new k e le =
    ap (λ (l : List Step). told (all_undone l new)) (drop-append-le k steps (step ∷ []) le) ∙ ap told (undone_push (drop k steps) step old new e)

module _ (steps : List Step) (step : Step) (old new : Cells) (e : undone step new ≡ old) where
  abbrev longer : List Step
  longer = steps ++ step ∷ []

  stood_before : (t : ℕ) (s : State) → t ≤ length steps → StoodSince longer new t s → StoodSince steps old t s ⊎ (s ≡ told new)
  stood_before t s le stood = ⊎_elim
      (λ before. let within : stood.0 ≤ length steps = omega (arith, before) in
      inl (stood.0, stood.1, within, stood.3 ∙ undone_from steps step old new stood.0 e within))
      (λ after. let none : drop stood.0 longer ≡ [] = drop_all stood.0 longer (omega (arith, after, length-append steps (step ∷ []))) in
      inr (stood.3 ∙ ap (λ (l : List Step). told (all_undone l new)) none))
      (cases_lt stood.0 (length steps + 1))

  stands_after : (t : ℕ) (s : State) → StoodSince steps old t s → StoodSince longer new t s
  stands_after t s stood =
      (stood.0, stood.1, omega (arith, stood.2, length-append steps (step ∷ [])), stood.3 ∙ sym (undone_from steps step old new stood.0 e stood.2))

-- the record goes on by a step that leads back, or it ends
pub record Notes (old_flag new_flag : Bool) (steps later : List Step) (old new : Cells) : Type 0 where
  pub kept : IsTrue new_flag → IsTrue old_flag × ((step : Step) × (undone step new ≡ old) × (later ≡ steps ++ step ∷ []))

pub adds_noted : (old_flag new_flag : Bool) (steps later : List Step) (old new : Cells) (Q : State → Type 0) → Notes old_flag new_flag steps later old new → Q (told new)
    → Adds (past_of old_flag steps old) (past_of new_flag later new) Q
adds_noted old_flag true steps later old new Q notes q =
    let kept = notes.kept refl in
    let long : length steps ≤ length later = omega (arith, ap length kept.1.2, length-append steps (kept.1.0 ∷ [])) in
    record {
      later = λ is. long;
      told = λ is. kept.0;
      each = λ is t s le stood.
          let there = subst (λ (l : List Step). StoodSince l new t s) kept.1.2 stood in
          ⊎_elim (λ was. inl was) (λ here. inr (subst Q (sym here) q)) (stood_before steps kept.1.0 old new kept.1.1 t s le there);
    }
adds_noted old_flag false steps later old new Q notes q = record {
  later = λ is. cc;
  told = λ is. cc;
  each = λ is t s le stood. cc;
}

pub keeps_noted : (old_flag new_flag : Bool) (steps later : List Step) (old new : Cells) → Notes old_flag new_flag steps later old new
    → Keeps (past_of old_flag steps old) (past_of new_flag later new)
keeps_noted old_flag true steps later old new notes is t s le stood =
    let kept = notes.kept refl in
    subst (λ (l : List Step). StoodSince l new t s) (sym kept.1.2) (stands_after steps kept.1.0 old new kept.1.1 t s stood)
keeps_noted old_flag false steps later old new notes is t s le stood = cc

-- the numbers of the open ones, in order
numbers_above : (n m : ℕ) (bs : List Bool) → n < m → included n (numbers_from m bs) ≡ n ∷ numbers_from m bs
numbers_above n m [] lt = refl
numbers_above n m (true ∷ bs) lt = grind (arith, nat_tests)
numbers_above n m (false ∷ bs) lt = numbers_above n (m + 1) bs (omega arith)

further : (n i : ℕ) (bs : List Bool) → numbers_from (n + 1) (slice_set bs i true) ≡ included (n + 1 + i) (numbers_from (n + 1) bs) → numbers_from (n + 1) (slice_set bs i true) ≡ included (n + suc i) (numbers_from (n + 1) bs)
further n i bs e = let same : n + 1 + i ≡ n + suc i = omega arith in subst (λ (k : ℕ). numbers_from (n + 1) (slice_set bs i true) ≡ included k (numbers_from (n + 1) bs)) same e

pub numbers_set : (n i : ℕ) (bs : List Bool) → i < length bs → numbers_from n (slice_set bs i true) ≡ included (n + i) (numbers_from n bs)
numbers_set n i [] lt = absurd (omega arith)
numbers_set n zero (true ∷ bs) lt = grind (arith, nat_tests)
numbers_set n zero (false ∷ bs) lt = rw add-zero (sym (numbers_above n (n + 1) bs (omega arith)))
numbers_set n (suc i) (true ∷ bs) lt =
    let rest : numbers_from (n + 1) (slice_set bs i true) ≡ included (n + suc i) (numbers_from (n + 1) bs) = further n i bs (numbers_set (n + 1) i bs (omega arith)) in
    grind (arith, nat_tests, rest)
numbers_set n (suc i) (false ∷ bs) lt = further n i bs (numbers_set (n + 1) i bs (omega arith))

pub none_open : (n : ℕ) (bs : List Bool) → AllByRecursion (λ is. is ≡ false) bs → numbers_from n bs ≡ []
none_open n [] all = refl
none_open n (b ∷ bs) all = rw all.0 (none_open (n + 1) bs all.1)

-- the step of a write leads back
pub undone_write : (blocks : List Block) (flags : List Bool) (i : ℕ) (from was : Block) (was_unsynced : Bool) → was ≡ get_or blocks i was → was_unsynced ≡ get_or flags i was_unsynced
    → ◌≡◌ {A = Cells} (slice_set (slice_set blocks i from) i was, slice_set (slice_set flags i true) i was_unsynced) (blocks, flags)
undone_write blocks flags i from was was_unsynced is is_flag =
    let block : slice_set (slice_set blocks i from) i was ≡ blocks = set-set blocks i from was ∙ ap (λ (b : Block). slice_set blocks i b) is ∙ set-get_or blocks i was in
    let flag : slice_set (slice_set flags i true) i was_unsynced ≡ flags = set-set flags i true was_unsynced ∙ ap (λ (b : Bool). slice_set flags i b) is_flag ∙ set-get_or flags i was_unsynced in
    ap (λ (b : List Block). (b, slice_set (slice_set flags i true) i was_unsynced)) block ∙ ap (λ (f : List Bool). (blocks, f)) flag

pub told_write : (c : Cells) (i : ℕ) (from : Block) → i < length c.1 → told (slice_set c.0 i from, slice_set c.1 i true) ≡ written i from (told c)
told_write c i from lt =
    let numbers : numbers_from 0 (slice_set c.1 i true) ≡ included i (numbers_from 0 c.1) = subst (λ (k : ℕ). numbers_from 0 (slice_set c.1 i true) ≡ included k (numbers_from 0 c.1)) (zero-add i) (numbers_set 0 i c.1 lt) in
    let as_state = λ (u : List ℕ). let s : State = record { contents = slice_set c.0 i from; unsynced = u } in s in
    ap as_state numbers

pub told_sync : (c : Cells) (flags : List Bool) → AllByRecursion (λ is. is ≡ false) flags → told (c.0, flags) ≡ synced (told c)
told_sync c flags all =
    let as_state = λ (u : List ℕ). let s : State = record { contents = c.0; unsynced = u } in s in
    ap as_state (none_open 0 flags all)

pub undone_sync : (step : Step) (flags flags' : List Bool) (blocks : List Block) → IsSyncOf step flags → ◌≡◌ {A = Cells} (undone step (blocks, flags')) (blocks, flags)
undone_sync (Wrote before) flags flags' blocks closes = absurd closes
undone_sync (Synced flags_before) flags flags' blocks closes = ap (λ (f : List Bool). (blocks, f)) closes

numbers_none : (n m : ℕ) → numbers_from m (replicate n false) ≡ []
numbers_none zero m = refl
numbers_none (suc n) m = numbers_none n (m + 1)

pub told_blank : (n : ℕ) (blocks : List Block) (flags : List Bool) (zero_is : Block) → zero_is ≡ zero_block → blocks ≡ replicate n zero_is → flags ≡ replicate n false → told (blocks, flags) ≡ blank n
told_blank n blocks flags zero_is e all none =
    let as_state = λ (b : List Block) (u : List ℕ). let s : State = record { contents = b; unsynced = u } in s in
    ap (λ (b : List Block). as_state b (numbers_from 0 flags)) (all ∙ ap (λ (z : Block). replicate n z) e)
    ∙ ap (λ (f : List Bool). as_state (replicate n zero_block) (numbers_from 0 f)) none
    ∙ ap (λ (u : List ℕ). as_state (replicate n zero_block) u) (numbers_none n 0)

is_among-below : (n k : ℕ) (bs : List Bool) → k < n → is_among (numbers_from n bs) k ≡ false
is_among-below n k [] lt = refl
is_among-below n k (true ∷ bs) lt = let rest = is_among-below (n + 1) k bs (omega arith) in grind (arith, nat_tests, rest)
is_among-below n k (false ∷ bs) lt = is_among-below (n + 1) k bs (omega arith)

is_among-at : (n i : ℕ) (bs : List Bool) → is_among (numbers_from n bs) (n + i) ≡ get_or bs i false
is_among-at n i [] = refl
is_among-at n zero (true ∷ bs) = grind (arith, nat_tests)
is_among-at n zero (false ∷ bs) = is_among-below (n + 1) (n + 0) bs (omega arith)
is_among-at n (suc i) (true ∷ bs) = let rest = is_among-next n i bs (is_among-at (n + 1) i bs) in grind (arith, nat_tests, rest)
  where
    is_among-next : (n i : ℕ) (bs : List Bool) → is_among (numbers_from (n + 1) bs) (n + 1 + i) ≡ get_or bs i false → is_among (numbers_from (n + 1) bs) (n + suc i) ≡ get_or bs i false
    is_among-next n i bs e = let same : n + 1 + i ≡ n + suc i = omega arith in subst (λ (k : ℕ). is_among (numbers_from (n + 1) bs) k ≡ get_or bs i false) same e
is_among-at n (suc i) (false ∷ bs) = let same : n + 1 + i ≡ n + suc i = omega arith in subst (λ (k : ℕ). is_among (numbers_from (n + 1) bs) k ≡ get_or bs i false) same (is_among-at (n + 1) i bs)

-- a block is open where its flag says so
pub is_among-numbers : (bs : List Bool) (i : ℕ) → is_among (numbers_from 0 bs) i ≡ get_or bs i false
is_among-numbers bs i = subst (λ (k : ℕ). is_among (numbers_from 0 bs) k ≡ get_or bs i false) (zero-add i) (is_among-at 0 i bs)

-- picks of open blocks make an image
pub picked_image : (s : State) (picks : List Pick) (blocks : List Block) → AllByRecursion (λ pick. is_among s.unsynced pick.at ≡ true) picks → IsImage s blocks → IsImage s (picked picks blocks)
picked_image s [] blocks all is = is
picked_image s (pick ∷ picks) blocks all is = picked_image s picks (slice_set blocks pick.at pick.block) all.1 (record {
  as_long = length-set blocks pick.at pick.block ∙ is.as_long;
  agrees = λ at closed.
      let ne : at ≢ pick.at = λ e. false≢true (sym closed ∙ ap (λ (k : ℕ). is_among s.unsynced k) e ∙ all.0) in
      slice_get-set_other blocks pick.at at pick.block ne ∙ is.agrees at closed;
})

pub open_within : (bs : List Bool) (i : ℕ) → is_among (numbers_from 0 bs) i ≡ true → i < length bs
open_within bs i is = ⊎_elim (λ lt. lt) (λ past. absurd (false≢true (sym (get_or_past bs i false past) ∙ sym (is_among-numbers bs i) ∙ is))) (cases_lt i (length bs))
