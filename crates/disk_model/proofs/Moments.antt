-- How the images and the moments of several calls follow from those of each.
use Rattle.std.specs.Prelude.{◌≡◌, ◌≢◌, ◌≤◌, ◌<◌, ◌==◌, ◌||◌, nat_lt, if◌then◌else◌, ℕ, zero, suc, Bool, true, false, List, [], ◌∷◌, length, slice_get, slice_set, Some, refl}
use Rattle.std.proofs.Common.{sym, ◌∙◌, ap, subst, inl, inr, ⊎_elim, arith}
use Rattle.std.proofs.lemmas.Bool.Decides.{eqb_tells}
use Rattle.vol_numbers.specs.declared.block.Block.{Block}
use Rattle.disk_model.specs.Disk.{State, included, is_among, written, synced, IsImage, DuringWrite, DuringWriteThrough}
use Rattle.disk_model.specs.Past.{Past, Adds}

-- before the first call
pub adds_none : (old : Past) (Q : State → Type 0) → Adds old old Q
adds_none old Q = record { told = λ is. is; later = λ is. omega arith; each = λ is t s le stood. inl stood }

-- one call more, each moment of which has Q
pub adds_then : {old mid new : Past} {Q R : State → Type 0} → Adds old mid Q → Adds mid new R → ((s : State) → R s → Q s) → Adds old new Q
adds_then first second here = record {
  told = λ is. first.told (second.told is);
  later = λ is. omega (arith, first.later (second.told is), second.later is);
  each = λ is t s le stood.
      let on : t ≤ _ = omega (arith, le, first.later (second.told is)) in
      ⊎_elim (λ was. first.each (second.told is) t s le was) (λ r. inr (here s r)) (second.each is t s on stood);
}

pub adds_weaker : {old new : Past} {Q R : State → Type 0} → Adds old new R → ((s : State) → R s → Q s) → Adds old new Q
adds_weaker adds here = record { told = adds.told; later = adds.later; each = λ is t s le stood. ⊎_elim (λ was. inl was) (λ r. inr (here s r)) (adds.each is t s le stood) }

pub slice_get-set_other : {X : Type 0} (xs : List X) (i k : ℕ) (x : X) → k ≢ i → slice_get (slice_set xs i x) k ≡ slice_get xs k
slice_get-set_other [] i k x ne = refl
slice_get-set_other (y ∷ xs) zero zero x ne = absurd (ne refl)
slice_get-set_other (y ∷ xs) zero (suc k) x ne = refl
slice_get-set_other (y ∷ xs) (suc i) zero x ne = refl
slice_get-set_other (y ∷ xs) (suc i) (suc k) x ne = slice_get-set_other xs i k x (λ e. ne (ap suc e))

pub slice_get-set_same : {X : Type 0} (xs : List X) (i : ℕ) (x : X) → i < length xs → slice_get (slice_set xs i x) i ≡ Some x
slice_get-set_same [] i x lt = absurd (omega arith)
slice_get-set_same (y ∷ xs) zero x lt = refl
slice_get-set_same (y ∷ xs) (suc i) x lt = slice_get-set_same xs i x (omega arith)

apart : (a b : ℕ) → a ≢ b → (a == b) ≡ false
apart a b ne = ⊎_elim (λ same. absurd (ne same.1)) (λ other. other.0) (eqb_tells a b)

among_either : (at k n : ℕ) (ns : List ℕ) → k ≢ at → is_among (included at ns) k ≡ is_among ns k → (b c : Bool)
    → is_among (if b then n ∷ ns else if c then at ∷ n ∷ ns else n ∷ included at ns) k ≡ is_among (n ∷ ns) k
among_either at k n ns ne rest true c = refl
among_either at k n ns ne rest false true = ap (λ (b : Bool). b || is_among (n ∷ ns) k) (apart k at ne)
among_either at k n ns ne rest false false = ap (λ (b : Bool). k == n || b) rest

pub is_among-included : (at k : ℕ) (ns : List ℕ) → k ≢ at → is_among (included at ns) k ≡ is_among ns k
is_among-included at k [] ne = ap (λ (b : Bool). b || false) (apart k at ne)
is_among-included at k (n ∷ ns) ne = among_either at k n ns ne (is_among-included at k ns ne) (at == n) (nat_lt at n)

-- a block that is not written and was synced is in each image of what a write makes
pub kept_in_image : (s : State) (at : ℕ) (block : Block) (image : List Block) (k : ℕ) → IsImage (written at block s) image → k ≢ at → is_among s.unsynced k ≡ false
    → slice_get image k ≡ slice_get s.contents k
kept_in_image s at block image k is ne was_synced =
    is.agrees k (is_among-included at k s.unsynced ne ∙ was_synced) ∙ slice_get-set_other s.contents at k block ne

-- an image of what is synced is one of what was there before the sync
pub image_unsynced : (s : State) (image : List Block) → IsImage (synced s) image → IsImage s image
image_unsynced s image is = record { as_long = is.as_long; agrees = λ at was_synced. is.agrees at refl }

-- one read more, where nothing has changed the state that is s
pub adds_read : {old mid new : Past} {before s : State} → Adds old mid (λ m. m ≡ s) → before ≡ s → Adds mid new (λ m. m ≡ before) → Adds old new (λ m. m ≡ s)
adds_read so_far is call = adds_then so_far call (λ m e. e ∙ is)

-- one write and sync more
pub adds_write_through : {old mid new : Past} {before : State} {at : ℕ} (block : Block) (Q : State → Type 0) (s : State) → Adds old mid Q → before ≡ s → Adds mid new (DuringWriteThrough at block before)
    → ((torn : Block) → Q (written at torn s)) → Q (synced (written at block s)) → Adds old new Q
adds_write_through {at = at} block Q s so_far is call here after = adds_then so_far call (λ r during. ⊎_elim
    (λ w. subst Q (sym (w.is ∙ ap (λ (m : State). written at w.block m) is)) (here w.block))
    (λ e. subst Q (sym (e ∙ ap (λ (m : State). synced (written at block m)) is)) after) during)

-- what was written is unsynced
pub included-some : (at : ℕ) (ns : List ℕ) → included at ns ≢ []
included-some at [] = λ e. cc
included-some at (n ∷ ns) = some_either (at == n) (nat_lt at n)
  where
    some_either : (b c : Bool) → (if b then n ∷ ns else if c then at ∷ n ∷ ns else n ∷ included at ns) ≢ []
    some_either true c = λ e. cc
    some_either false true = λ e. cc
    some_either false false = λ e. cc

-- a write that failed leaves something unsynced
pub torn_unsynced : {at : ℕ} {before s : State} → DuringWrite at before s → s.unsynced ≢ []
torn_unsynced {at = at} {before = before} during = λ e. included-some at before.unsynced (sym (ap (λ (m : State). m.unsynced) during.is) ∙ e)
