-- A cache list after a block was written and used.
use Rattle.std.proofs.Common.{◌≡◌, ℕ, zero, suc, ◌<◌, List, [], ◌∷◌, Some, sym, ap, subst, ◌∙◌}
use Rattle.std.specs.Prelude.{slice_get, slice_set}
use Rattle.std.specs.List.{AllByRecursion}
use Rattle.std.proofs.lemmas.List.Elements.{recursion_from_All, All-from_recursion}
use Rattle.vol_numbers.specs.declared.block.Block.{Block}
use Rattle.sha2.specs.Sha256.{sha256}
use Rattle.disk_model.proofs.Moments.{slice_get-set_other}
use Rattle.volume_model.specs.Cache.{CacheList, use_block}
use Rattle.content_model.proofs.Kept.{used_each, forgotten_each}
use Rattle.sequence_rule.specs.Matches.{LieBelow, HaveFingerprints}

weaker : (P Q : List ℕ × ℕ → Type 0) → ((p : List ℕ × ℕ) → P p → Q p) → (ps : CacheList) → AllByRecursion P ps → AllByRecursion Q ps
weaker P Q less [] all = tt
weaker P Q less (p ∷ ps) all = (less p all.0, weaker P Q less ps all.1)

pub used_below : (limit capacity : ℕ) (ps new : CacheList) (fingerprint : List ℕ) (at : ℕ) → at < limit → LieBelow limit ps → new ≡ use_block capacity ps fingerprint at → LieBelow limit new
used_below limit capacity ps new fingerprint at own lie used =
    let P : List ℕ × ℕ → Type 0 = λ p. p.1 < limit in
    let others = weaker P (λ p. (p.1 ≡ at → ⊥) → P p) (λ p h other. h) ps (recursion_from_All P ps lie) in
    let all = used_each P capacity ps fingerprint at (forgotten_each P at ps others) own in
    All-from_recursion P new (subst (λ (qs : CacheList). AllByRecursion P qs) (sym used) all)

set_held : (blocks : List Block) (at : ℕ) (block held : Block) → slice_get (slice_set blocks at block) at ≡ Some held → block ≡ held
set_held [] at block held e = cc
set_held (b ∷ bs) zero block held e = cc
set_held (b ∷ bs) (suc at) block held e = set_held bs at block held e

pub used_fingerprints : (contents after : List Block) (capacity : ℕ) (ps new : CacheList) (fingerprint : List ℕ) (at : ℕ) (block : Block) → HaveFingerprints contents ps
    → after ≡ slice_set contents at block → fingerprint ≡ sha256 block.bytes → new ≡ use_block capacity ps fingerprint at → HaveFingerprints after new
used_fingerprints contents after capacity ps new fingerprint at block have written hashed used =
    let P : List ℕ × ℕ → Type 0 = λ p. (held : Block) → slice_get (slice_set contents at block) p.1 ≡ Some held → p.0 ≡ sha256 held.bytes in
    let Q : List ℕ × ℕ → Type 0 = λ p. (held : Block) → slice_get contents p.1 ≡ Some held → p.0 ≡ sha256 held.bytes in
    let others = weaker Q (λ p. (p.1 ≡ at → ⊥) → P p) (λ p h other held read. h held (sym (slice_get-set_other contents at p.1 block other) ∙ read)) ps (recursion_from_All Q ps have) in
    let own = λ (held : Block) (read : slice_get (slice_set contents at block) at ≡ Some held). hashed ∙ ap (λ (b : Block). sha256 b.bytes) (set_held contents at block held read) in
    let all = used_each P capacity ps fingerprint at (forgotten_each P at ps others) own in
    let listed = All-from_recursion P new (subst (λ (qs : CacheList). AllByRecursion P qs) (sym used) all) in
    subst (λ (blocks : List Block). HaveFingerprints blocks new) (sym written) listed
