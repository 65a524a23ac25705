-- Pieces that were taken one behind the other.
use Rattle.std.proofs.Common.{◌≡◌, ◌∙◌, ◌++◌, ◌≤◌, ◌⊎◌, ℕ, List, [], ◌∷◌, length, refl, sym, ap, subst, inl, inr, ⊎_elim, append_assoc}
use Rattle.std.specs.List.{concat}
use Rattle.std.proofs.lemmas.List.{append-nil}
use Rattle.std.proofs.lemmas.List.Folds.{concat-append}
use Rattle.command_text.specs.Reading.{EachNeeded, TakesNeeded}

-- the last piece that was taken
pub record LastPiece (Holds : List ℕ → Type 0) (held taken : List ℕ) : Type 0 where
  pub before : List ℕ
  pub piece : List ℕ
  pub parts : taken ≡ before ++ piece
  pub at_most : length piece ≤ 4096
  pub needed : Holds (held ++ before)

each_both : (Holds : List ℕ → Type 0) (held : List ℕ) (first second : List (List ℕ)) → EachNeeded Holds held first → EachNeeded Holds (held ++ concat first) second → EachNeeded Holds held (first ++ second)
each_both Holds held [] second one two = subst (λ (l : List ℕ). EachNeeded Holds l second) (append-nil held) two
each_both Holds held (piece ∷ first) second one two =
    (one.0, one.1, each_both Holds (held ++ piece) first second one.2 (subst (λ (l : List ℕ). EachNeeded Holds l second) (sym (append_assoc held piece (concat first))) two))

each_weaker : (One Two : List ℕ → Type 0) (held taken : List ℕ) (pieces : List (List ℕ)) → ((more : List ℕ) → One (held ++ more) → Two (held ++ more)) → EachNeeded One (held ++ taken) pieces → EachNeeded Two (held ++ taken) pieces
each_weaker One Two held taken [] follows each = tt
each_weaker One Two held taken (piece ∷ pieces) follows each =
    let same : (held ++ taken) ++ piece ≡ held ++ (taken ++ piece) = append_assoc held taken piece in (
      each.0,
      follows taken each.1,
      subst (λ (l : List ℕ). EachNeeded Two l pieces) (sym same) (each_weaker One Two held (taken ++ piece) pieces follows (subst (λ (l : List ℕ). EachNeeded One l pieces) same each.2)),
    )

each_last : (Holds : List ℕ → Type 0) (held : List ℕ) (pieces : List (List ℕ)) → EachNeeded Holds held pieces → (concat pieces ≡ []) ⊎ LastPiece Holds held (concat pieces)
each_last Holds held [] each = inl refl
each_last Holds held (piece ∷ pieces) each =
    ⊎_elim
    (λ (none : concat pieces ≡ []). inr (record {
      before = [];
      piece = piece;
      parts = ap (λ (l : List ℕ). piece ++ l) none ∙ append-nil piece;
      at_most = each.0;
      needed = subst Holds (sym (append-nil held)) each.1;
    }))
    (λ (last : LastPiece Holds (held ++ piece) (concat pieces)). inr (record {
      before = piece ++ last.before;
      piece = last.piece;
      parts = ap (λ (l : List ℕ). piece ++ l) last.parts ∙ sym (append_assoc piece last.before last.piece);
      at_most = last.at_most;
      needed = subst Holds (append_assoc held piece last.before) last.needed;
    }))
    (each_last Holds (held ++ piece) pieces each.2)

module _ (Holds : List ℕ → Type 0) (held : List ℕ) where
  pub needs_none : TakesNeeded Holds held []
  needs_none = record { pieces = []; parts = refl; each = tt }

  -- one piece, of few bytes, that was needed
  pub needs_piece : (piece : List ℕ) → length piece ≤ 4096 → Holds held → TakesNeeded Holds held piece
  needs_piece piece few needed = record { pieces = piece ∷ []; parts = sym (append-nil piece); each = (few, needed, tt) }

  pub needs_both : (first second : List ℕ) → TakesNeeded Holds held first → TakesNeeded Holds (held ++ first) second → TakesNeeded Holds held (first ++ second)
  needs_both first second one two = record {
    pieces = one.pieces ++ two.pieces;
    parts = ap (λ (l : List ℕ). l ++ second) one.parts ∙ ap (λ (l : List ℕ). concat one.pieces ++ l) two.parts ∙ sym (concat-append one.pieces two.pieces);
    each = each_both Holds held one.pieces two.pieces one.each (subst (λ (l : List ℕ). EachNeeded Holds (held ++ l) two.pieces) one.parts two.each);
  }

  -- nothing was taken, or there is a last piece
  pub last_piece : (taken : List ℕ) → TakesNeeded Holds held taken → (taken ≡ []) ⊎ LastPiece Holds held taken
  last_piece taken needs = subst (λ (l : List ℕ). (l ≡ []) ⊎ LastPiece Holds held l) (sym needs.parts) (each_last Holds held needs.pieces needs.each)

-- pieces that were needed by one test were needed by another
pub needs_weaker : (One Two : List ℕ → Type 0) (held taken : List ℕ) → ((more : List ℕ) → One (held ++ more) → Two (held ++ more)) → TakesNeeded One held taken → TakesNeeded Two held taken
needs_weaker One Two held taken follows needs = record {
  pieces = needs.pieces;
  parts = needs.parts;
  each = subst (λ (l : List ℕ). EachNeeded Two l needs.pieces) (append-nil held)
      (each_weaker One Two held [] needs.pieces follows (subst (λ (l : List ℕ). EachNeeded One l needs.pieces) (sym (append-nil held)) needs.each));
}
