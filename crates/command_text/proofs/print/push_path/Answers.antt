use Rattle.std.proofs.Common.{◌≡◌, ◌∙◌, ◌++◌, ◌+◌, ◌<◌, List, [], ◌∷◌, ℕ, length, get_or, take, subst, ap, sym, append_assoc, append-nil}
use Rattle.std.specs.Prelude.{All}
use Rattle.std.specs.List.{flat_map}
use Rattle.std.specs.String.{string_bytes}
use Rattle.std.proofs.lemmas.List.{take_more}
use Rattle.std.proofs.lemmas.List.Concat.{flat_map-append}
use Rattle.std.proofs.lemmas.List.Elements.{All-more}
use Rattle.vol_numbers.specs.Name.{IsName}
use Rattle.command_text.specs.Spelling.{name_spelling}
use Rattle.reply_text.specs.Telling.{IsByte}
use Rattle.command_text.proofs.print.push_path.Goals as goal

-- the names up to one more
spelled_more : (names : List (List ℕ)) (i : ℕ) (d : List ℕ) → i < length names → flat_map name_spelling (take (i + 1) names) ≡ flat_map name_spelling (take i names) ++ name_spelling (get_or names i d)
spelled_more names i d within =
    ap (flat_map name_spelling) (take_more names i d within) ∙ flat_map-append name_spelling (take i names) (get_or names i d ∷ [])
    ∙ ap (λ (l : List ℕ). flat_map name_spelling (take i names) ++ l) (append-nil (name_spelling (get_or names i d)))

pub loop-name-preserved : goal.loop-name-preserved
loop-name-preserved c =
    let items : List (List ℕ) = c.names-names.result.now in
    let i : ℕ = c.loop-name.name-index in
    let name : List ℕ = c.name-item.result in
    let before : List ℕ = string_bytes c.args.text.now in
    record {
      text = c.in_ok-push_name.ensures.text ∙ ap (λ (l : List ℕ). l ++ name_spelling name) c.loop-name.invariant.text
          ∙ append_assoc before (flat_map name_spelling (take i items)) (name_spelling name)
          ∙ ap (λ (n : List ℕ). before ++ (flat_map name_spelling (take i items) ++ name_spelling n)) c.name-item.is
          ∙ ap (λ (l : List ℕ). before ++ l) (sym (spelled_more items i name c.loop-name-test.true));
      names = All-more IsName items i name c.loop-name-test.true c.loop-name.invariant.names (subst IsName c.name-item.is c.in_ok-push_name.ensures.name);
      bytes = All-more (λ (n : List ℕ). All IsByte n) items i name c.loop-name-test.true c.loop-name.invariant.bytes (subst (λ (n : List ℕ). All IsByte n) c.name-item.is c.in_ok-push_name.ensures.bytes);
    }
