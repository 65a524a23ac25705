-- Texts that go through a buffer, one after the other.
use Rattle.std.proofs.Common.{◌≡◌, ◌∙◌, ◌<◌, ◌+◌, ◌++◌, ℕ, List, [], ◌∷◌, length, take, drop, get_or, sym, ap, subst, append_assoc, take-append-drop}
use Rattle.std.specs.Prelude.{Result, Ok, Err, OnOk, OnErr}
use Rattle.std.specs.List.{flat_map}
use Rattle.std.proofs.lemmas.Grind.{flat_map-append}
use Rattle.std.proofs.lemmas.List.{append-nil, take_more, drop_more}
use Rattle.wire_ends.specs.Buffer.{Passes, PutsThrough}
use Rattle.wire_ends.specs.Ends.{Output, Puts, PutsPart}
use Rattle.wire_ends.proofs.BufferLemmas.{passes_both, passes_part, part_in_first, passes_whole, passes_whole_part, through_both}
use Rattle.reply_text.specs.Putting.{PutsText}

-- a text went through, and no call failed
pub record PutSoFar (old new : Output) (held rest text : List ℕ) : Type 0 where
  pub passes : Passes old new held rest text
  pub same : new.faults ≡ old.faults

-- one item more
pub text_more : {A : Type 0} (f : A → List ℕ) (xs : List A) (i : ℕ) (d : A) → i < length xs → flat_map f (take (i + 1) xs) ≡ flat_map f (take i xs) ++ f (get_or xs i d)
text_more {A} f xs i d within = ap (flat_map f) (take_more xs i d within) ∙ flat_map-append f (take i xs) (get_or xs i d ∷ []) ∙ ap (λ (l : List ℕ). flat_map f (take i xs) ++ l) (append-nil (f (get_or xs i d)))

-- the items before, one item, and those behind
pub text_around : {A : Type 0} (f : A → List ℕ) (xs : List A) (i : ℕ) (d : A) → i < length xs → flat_map f xs ≡ flat_map f (take i xs) ++ f (get_or xs i d) ++ flat_map f (drop (i + 1) xs)
text_around {A} f xs i d within =
    ap (flat_map f) (sym (take-append-drop i xs)) ∙ flat_map-append f (take i xs) (drop i xs) ∙ ap (λ (l : List A). flat_map f (take i xs) ++ flat_map f l) (drop_more xs i d within)
    ∙ sym (append_assoc (flat_map f (take i xs)) (f (get_or xs i d)) (flat_map f (drop (i + 1) xs)))

-- the text of one item more went through
pub put_more : {A : Type 0} (f : A → List ℕ) (xs : List A) (i : ℕ) (d : A) {old mid new : Output} {held kept rest text : List ℕ} → i < length xs → text ≡ f (get_or xs i d) → PutSoFar old mid held kept (flat_map f (take i xs))
    → Passes mid new kept rest text → new.faults ≡ mid.faults → PutSoFar old new held rest (flat_map f (take (i + 1) xs))
put_more f xs i d {old} {new = new} {held = held} {rest = rest} within is so_far passed same = record {
  passes = subst (Passes old new held rest) (ap (λ (l : List ℕ). flat_map f (take i xs) ++ l) is ∙ sym (text_more f xs i d within)) (passes_both so_far.passes passed);
  same = same ∙ so_far.same;
}

-- a fault at one item
pub part_around : {A : Type 0} (f : A → List ℕ) (xs : List A) (i : ℕ) (d : A) {old mid : Output} (new : Output) (held kept : List ℕ) {text : List ℕ} → i < length xs → text ≡ f (get_or xs i d)
    → PutSoFar old mid held kept (flat_map f (take i xs)) → PutsPart mid new (kept ++ text) → PutsPart old new (held ++ flat_map f xs)
part_around f xs i d {old} {mid} new held kept within is so_far part =
    let here : PutsPart mid new (kept ++ f (get_or xs i d)) = subst (λ (l : List ℕ). PutsPart mid new (kept ++ l)) is part in
    subst (λ (l : List ℕ). PutsPart old new (held ++ l)) (sym (text_around f xs i d within))
    (part_in_first held (flat_map f (take i xs) ++ f (get_or xs i d)) (flat_map f (drop (i + 1) xs)) (passes_part (f (get_or xs i d)) so_far.passes here))

-- one text behind another
pub put_both : {T E : Type 0} {old mid : Output} (new : Output) {held kept one two : List ℕ} (rest first second : List ℕ) (r : Result T E) → one ≡ first → two ≡ second → Passes old mid held kept one
    → PutsThrough mid new kept rest two r → PutsThrough old new held rest (first ++ second) r
put_both {old = old} {mid = mid} new {held = held} {kept = kept} rest first second r first_is second_is passed through =
    through_both new rest second r (subst (Passes old mid held kept) first_is passed) (subst (λ (l : List ℕ). PutsThrough mid new kept rest l r) second_is through)

-- a fault in a text behind which another was to follow
pub part_first : {old new : Output} (held : List ℕ) {one : List ℕ} (first second : List ℕ) → one ≡ first → PutsPart old new (held ++ one) → PutsPart old new (held ++ (first ++ second))
part_first {old} {new} held first second is part = part_in_first held first second (subst (λ (l : List ℕ). PutsPart old new (held ++ l)) is part)

-- a text that went through a buffer which was empty, by what became of the last put
pub let_out : {T E : Type 0} {old mid : Output} (new : Output) {held rest text : List ℕ} (r : Result T E) → held ≡ [] → Passes old mid held rest text → OnOk r (Puts mid new rest) → OnErr r (PutsPart mid new rest)
    → PutsText old new text r
let_out {old = old} {mid = mid} new {rest = rest} {text = text} (Ok done) none passed whole part = passes_whole (subst (λ (l : List ℕ). Passes old mid l rest text) none passed) whole
let_out {old = old} {mid = mid} new {rest = rest} {text = text} (Err fault) none passed whole part = passes_whole_part (subst (λ (l : List ℕ). Passes old mid l rest text) none passed) part
