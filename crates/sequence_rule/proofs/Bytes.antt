-- What a disk block holds, and which blocks match.
use Rattle.std.proofs.Common.{◌≡◌, ℕ, ◌<◌, Bool, true, false, cond, List, [], ◌∷◌, Some, None, refl, sym, ap, subst, ◌∙◌, arith}
use Rattle.std.specs.Prelude.{◌&&◌, ◌||◌, nat_eq, slice_get, option_map, unwrap_or, Option}
use Rattle.std.specs.List.{AllByRecursion}
use Rattle.std.specs.Cmp.Lexicographic.{pointwise}
use Rattle.std.proofs.lemmas.Bool.Decides.{nat_tests}
use Rattle.std.proofs.lemmas.List.Elements.{recursion_from_All}
use Rattle.vol_numbers.specs.declared.block.Block.{Block}
use Rattle.sha2.specs.Sha256.{sha256}
use Rattle.place_words.specs.Different.{is_among}
use Rattle.volume_model.specs.Cache.{CacheList, cached_blocks, is_cached, has_fingerprint, kin}
use Rattle.volume_model.specs.Sharing.{and_then, same_bytes}
use Rattle.content_model.proofs.Using.{same_all, all_same}
use Rattle.sequence_rule.specs.Matches.{holds, block_matches, HaveFingerprints, LieBelow}

pub pointwise_same : (xs ys : List ℕ) → pointwise nat_eq xs ys ≡ same_bytes xs ys
pointwise_same [] [] = refl
pointwise_same [] (y ∷ ys) = refl
pointwise_same (x ∷ xs) [] = refl
pointwise_same (x ∷ xs) (y ∷ ys) = by (nat_eq x y) (pointwise_same xs ys)
  where
    by : (t : Bool) → pointwise nat_eq xs ys ≡ same_bytes xs ys → (t && pointwise nat_eq xs ys) ≡ and_then t (λ _. same_bytes xs ys)
    by true more = more
    by false more = refl

-- a block that was read tells what is held
pub read_holds : (contents : List Block) (at : ℕ) (block held : Block) → slice_get contents at ≡ Some held → same_bytes block.bytes held.bytes ≡ holds contents at block
read_holds contents at block held read = ap (λ (o : Option Block). unwrap_or (option_map (λ (b : Block). same_bytes block.bytes b.bytes) o) false) (sym read)

-- ---- a block that holds the same bytes has the same fingerprint

held_bytes : (block : Block) (o : Option Block) → unwrap_or (option_map (λ (b : Block). same_bytes block.bytes b.bytes) o) false ≡ true → (held : Block) × ((o ≡ Some held) × (block.bytes ≡ held.bytes))
held_bytes block None e = cc
held_bytes block (Some held) e = (held, (refl, all_same block.bytes held.bytes (pointwise_same block.bytes held.bytes ∙ e)))

kin_of : List ℕ → CacheList → ℕ → Bool
kin_of fingerprint cache at = is_among (cached_blocks (kin cache fingerprint)) at

pub kin_cached : (fingerprint : List ℕ) (cache : CacheList) (at : ℕ) → is_among (cached_blocks (kin cache fingerprint)) at ≡ true → is_cached cache at ≡ true
kin_cached fingerprint [] at e = e
kin_cached fingerprint (p ∷ ps) at e = by (has_fingerprint fingerprint p) (nat_eq p.1 at) refl e (kin_cached fingerprint ps at)
  where
    by : (t u : Bool) → nat_eq p.1 at ≡ u → is_among (cached_blocks (cond t (p ∷ kin ps fingerprint) (kin ps fingerprint))) at ≡ true
        → (is_among (cached_blocks (kin ps fingerprint)) at ≡ true → is_cached ps at ≡ true) → (u || is_cached ps at) ≡ true
    by t true is e more = refl
    by true false is e more = more (rw is at e)
    by false false is e more = more e

abbrev Fits : List Block → List ℕ × ℕ → Type 0
Fits contents p = (held : Block) → slice_get contents p.1 ≡ Some held → p.0 ≡ sha256 held.bytes

cached_kin : (contents : List Block) (block held : Block) (cache : CacheList) (at : ℕ) → AllByRecursion (Fits contents) cache → slice_get contents at ≡ Some held → block.bytes ≡ held.bytes
    → is_cached cache at ≡ true → is_among (cached_blocks (kin cache (sha256 block.bytes))) at ≡ true
cached_kin contents block held [] at fit read same e = e
cached_kin contents block held (p ∷ ps) at fit read same e = by (has_fingerprint (sha256 block.bytes) p) refl (nat_eq p.1 at) refl e (cached_kin contents block held ps at fit.1 read same)
  where
    own : p.1 ≡ at → has_fingerprint (sha256 block.bytes) p ≡ true
    own is =
        let read_here = subst (λ (b : ℕ). slice_get contents b ≡ Some held) (sym is) read in
        let fingerprint : p.0 ≡ sha256 block.bytes = fit.0 held read_here ∙ ap sha256 (sym same) in
        rw fingerprint (same_all (sha256 block.bytes))

    by : (t : Bool) → has_fingerprint (sha256 block.bytes) p ≡ t → (u : Bool) → nat_eq p.1 at ≡ u → (u || is_cached ps at) ≡ true
        → (is_cached ps at ≡ true → is_among (cached_blocks (kin ps (sha256 block.bytes))) at ≡ true)
        → is_among (cached_blocks (cond t (p ∷ kin ps (sha256 block.bytes)) (kin ps (sha256 block.bytes)))) at ≡ true
    by true has true is e more = rw is refl
    by true has false is e more = rw is (more e)
    by false has true is e more =
        let here : p.1 ≡ at = grind (arith, nat_tests) in
        let has_too = own here in
        cc
    by false has false is e more = more e

-- The blocks of the fingerprint that hold the bytes are those that match.
pub kin_matches : (contents : List Block) (cache : CacheList) (block : Block) (at : ℕ) → HaveFingerprints contents cache
    → (is_among (cached_blocks (kin cache (sha256 block.bytes))) at && holds contents at block) ≡ block_matches cache contents block at
kin_matches contents cache block at fit = by (is_cached cache at) refl (is_among (cached_blocks (kin cache (sha256 block.bytes))) at) refl (holds contents at block) refl
  where
    found : is_cached cache at ≡ true → holds contents at block ≡ true → is_among (cached_blocks (kin cache (sha256 block.bytes))) at ≡ true
    found cached same =
        let held = held_bytes block (slice_get contents at) same in
        cached_kin contents block held.0 cache at (recursion_from_All (Fits contents) cache fit) held.1.0 held.1.1 cached

    by : (t : Bool) → is_cached cache at ≡ t → (u : Bool) → is_among (cached_blocks (kin cache (sha256 block.bytes))) at ≡ u → (v : Bool) → holds contents at block ≡ v → (u && v) ≡ and_then t (λ _. v)
    by true cached true among v same = refl
    by true cached false among true same = let there = found cached same in cc
    by true cached false among false same = refl
    by false cached true among v same = let there = kin_cached (sha256 block.bytes) cache at among in cc
    by false cached false among v same = refl

-- what is found among the blocks of a list is what is found among those that are the same
pub joined : (found a b held matched : Bool) → found ≡ (a && held) → a ≡ b → (b && held) ≡ matched → found ≡ matched
joined found a b held matched e same is = e ∙ ap (λ (t : Bool). t && held) same ∙ is

-- ---- blocks of the cache list lie on the disk

pub lies_below : (limit : ℕ) (cache : CacheList) → LieBelow limit cache → (at : ℕ) → is_cached cache at ≡ true → at < limit
lies_below limit cache lie at e = along cache (recursion_from_All (λ (p : List ℕ × ℕ). p.1 < limit) cache lie) e
  where
    along : (ps : CacheList) → AllByRecursion (λ (p : List ℕ × ℕ). p.1 < limit) ps → is_cached ps at ≡ true → at < limit
    along [] lie e = cc
    along (p ∷ ps) lie e = by (nat_eq p.1 at) refl e (along ps lie.1)
      where
        by : (t : Bool) → nat_eq p.1 at ≡ t → (t || is_cached ps at) ≡ true → (is_cached ps at ≡ true → at < limit) → at < limit
        by true is e more = let here : p.1 ≡ at = grind (arith, nat_tests) in subst (λ (b : ℕ). b < limit) here lie.0
        by false is e more = more e
