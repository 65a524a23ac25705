-- One block more is written.
use Rattle.std.proofs.Common.{◌≡◌, ◌≢◌, ◌∙◌, ⊎_elim, ◌+◌, ◌<◌, ◌≤◌, ℕ, true, List, [], ◌∷◌, length, sym, ap, arith, below_more}
use Rattle.std.specs.Prelude.{slice_get, Some}
use Rattle.std.proofs.lemmas.Bool.{false≢true, cases_eq}
use Rattle.std.proofs.lemmas.Bool.Decides.{nat_tests}
use Rattle.std.proofs.lemmas.List.{length-set}
use Rattle.vol_numbers.specs.declared.block.Block.{Block}
use Rattle.disk_model.specs.Disk.{State, included, is_among, written}
use Rattle.disk_model.proofs.Moments.{slice_get-set_other, slice_get-set_same, is_among-included}
use Rattle.op_log.specs.Record.{text_block}
use Rattle.op_log.specs.Append.{IsOutside, ChangesWithin}

pub is_among-included_same : (at : ℕ) (ns : List ℕ) → is_among (included at ns) at ≡ true
is_among-included_same at [] = grind (arith, nat_tests)
is_among-included_same at (n ∷ ns) = let rest = is_among-included_same at ns in grind (arith, nat_tests, rest)

-- a number that was among them stays
pub is_among-stays : (at k : ℕ) (ns : List ℕ) → is_among ns k ≡ true → is_among (included at ns) k ≡ true
is_among-stays at k ns is =
    ⊎_elim (λ same. ap (λ (n : ℕ). is_among (included at ns) n) same ∙ is_among-included_same at ns) (λ ne. is_among-included at k ns ne ∙ is) (cases_eq k at)

inside : (first count at k : ℕ) → first ≤ at → at < first + count → IsOutside first count k → k ≢ at
inside first count at k from below out e = ⊎_elim (λ lt. omega (arith, e, lt, from)) (λ ge. omega (arith, e, ge, below)) out

pub changes_write : (first count : ℕ) (s m : State) (at : ℕ) (block : Block) → ChangesWithin first count s m → first ≤ at → at < first + count → ChangesWithin first count s (written at block m)
changes_write first count s m at block so_far from below = record {
  as_long = length-set m.contents at block ∙ so_far.as_long;
  others = λ k out. slice_get-set_other m.contents at k block (inside first count at k from below out) ∙ so_far.others k out;
  others_unsynced = λ k out. is_among-included at k m.unsynced (inside first count at k from below out) ∙ so_far.others_unsynced k out;
  stay_unsynced = λ k is. is_among-stays at k m.unsynced (so_far.stay_unsynced k is);
  changed_unsynced = λ k closed.
      let ne : k ≢ at = λ e. false≢true (sym closed ∙ ap (λ (n : ℕ). is_among (included at m.unsynced) n) e ∙ is_among-included_same at m.unsynced) in
      slice_get-set_other m.contents at k block ne ∙ so_far.changed_unsynced k (sym (is_among-included at k m.unsynced ne) ∙ closed);
}

-- one block more stands
pub stand_more : (m after : State) (first i : ℕ) (block : Block) (text : List ℕ) → first + i < length m.contents → after ≡ written (first + i) block m → block.bytes ≡ (text_block text i).bytes
    → ((k : ℕ) → k < i → slice_get m.contents (first + k) ≡ Some (text_block text k)) → (k : ℕ) → k < i + 1 → slice_get after.contents (first + k) ≡ Some (text_block text k)
stand_more m after first i block text room is block_is so_far = below_more (λ k. slice_get after.contents (first + k) ≡ Some (text_block text k)) i
    (λ k lt. let ne : first + k ≢ first + i = omega arith in
    ap (λ (s : State). slice_get s.contents (first + k)) is ∙ slice_get-set_other m.contents (first + i) (first + k) block ne ∙ so_far k lt)
    (ap (λ (s : State). slice_get s.contents (first + i)) is ∙ slice_get-set_same m.contents (first + i) block room
    ∙ ap (λ (bytes : List ℕ). let b : Block = record { bytes = bytes } in Some b) block_is)

-- one block more is unsynced
pub joined_more : (m after : State) (first i : ℕ) (block : Block) → after ≡ written (first + i) block m → ((k : ℕ) → k < i → is_among m.unsynced (first + k) ≡ true)
    → (k : ℕ) → k < i + 1 → is_among after.unsynced (first + k) ≡ true
joined_more m after first i block is so_far = below_more (λ k. is_among after.unsynced (first + k) ≡ true) i
    (λ k lt. ap (λ (s : State). is_among s.unsynced (first + k)) is ∙ is_among-stays (first + i) (first + k) m.unsynced (so_far k lt))
    (ap (λ (s : State). is_among s.unsynced (first + i)) is ∙ is_among-included_same (first + i) m.unsynced)
