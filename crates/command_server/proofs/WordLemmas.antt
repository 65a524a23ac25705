-- The options of a list of words, an option at a time.
use Rattle.std.proofs.Common.{◌≡◌, ◌∙◌, ◌≤◌, ◌-◌, ℕ, List, [], ◌∷◌, length, get_or, take, drop, Some, ap, arith}
use Rattle.std.specs.Prelude.{Option, option_and_then}
use Rattle.std.specs.Borrow.{Bor}
use Rattle.std.proofs.lemmas.List.{take_all}
use Rattle.command_server.specs.declared.words.FormatOptions.{FormatOptions}
use Rattle.command_server.specs.Words.{bytes_of_words, with_option, with_options}

pub with_options-two : (words : List (Bor (List ℕ))) (o next : FormatOptions) (d : Bor (List ℕ)) → 2 ≤ length words
    → Some next ≡ with_option o (get_or words 0 d).now (get_or words 1 d).now
    → with_options next (bytes_of_words (take (length words - 2) (drop 2 words))) ≡ with_options o (bytes_of_words words)
with_options-two [] o next d two e = absurd (omega arith)
with_options-two (a ∷ []) o next d two e = absurd (omega arith)
with_options-two (a ∷ b ∷ rest) o next d two e =
    let whole : take (length (a ∷ b ∷ rest) - 2) rest ≡ rest = take_all (length (a ∷ b ∷ rest) - 2) rest (omega arith) in
    ap (λ (l : List (Bor (List ℕ))). with_options next (bytes_of_words l)) whole ∙ ap (λ (r : Option FormatOptions). option_and_then (λ n. with_options n (bytes_of_words rest)) r) e
