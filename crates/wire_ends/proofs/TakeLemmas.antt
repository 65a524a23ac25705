-- What is taken in several calls.
use Rattle.std.proofs.Common.{◌∙◌, ◌≡◌, ◌+◌, ◌++◌, ℕ, List, [], take, drop, sym, ap, append_assoc, IsTrue}
use Rattle.std.proofs.lemmas.List.{append-nil, take-append-drop, drop-drop}
use Rattle.wire_ends.specs.Ends.{Input, Takes}

-- two pieces in a row are one
pub takes_both : {old mid new : Input} {first second : List ℕ} → Takes old mid first → Takes mid new second → Takes old new (first ++ second)
takes_both {new = new} {first = first} {second = second} one two = record {
  told = λ told. two.told (one.told told);
  next = λ told. one.next told ∙ ap (λ (l : List ℕ). first ++ l) (two.next (one.told told)) ∙ sym (append_assoc first second new.left);
}

-- all that a source had was taken, if nothing is left
pub takes_whole : {old new : Input} {bytes : List ℕ} → Takes old new bytes → IsTrue old.is_told → new.left ≡ [] → old.left ≡ bytes
takes_whole {bytes = bytes} taken told over = taken.next told ∙ ap (λ (l : List ℕ). bytes ++ l) over ∙ append-nil bytes

-- bytes from a place on go on behind those that were taken
pub left_behind : (count at : ℕ) (bytes left taken : List ℕ) → left ≡ drop at bytes → taken ≡ take count (drop at bytes) → left ≡ taken ++ drop (at + count) bytes
left_behind count at bytes left taken is copied = is ∙ sym (take-append-drop count (drop at bytes)) ∙ ap (λ (l : List ℕ). l ++ drop count (drop at bytes)) (sym copied) ∙ ap (λ (l : List ℕ). taken ++ l) (drop-drop count at bytes)
