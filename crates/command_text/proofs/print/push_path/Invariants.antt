use Rattle.std.proofs.Common.{◌≡◌, ◌++◌, List, ℕ, take}
use Rattle.std.specs.Prelude.{All}
use Rattle.std.specs.List.{flat_map}
use Rattle.std.specs.String.{string_bytes}
use Rattle.vol_numbers.specs.Name.{IsName}
use Rattle.command_text.specs.Spelling.{name_spelling}
use Rattle.reply_text.specs.Telling.{IsByte}
use Rattle.command_text.proofs.print.push_path.Given as goal

abbrev pub invariant-loop-name : goal.invariant-loop-name
invariant-loop-name l = record {
  text : string_bytes l.text ≡ string_bytes l.initial.text ++ flat_map name_spelling (take l.name-index l.names);
  names : All IsName (take l.name-index l.names);
  bytes : All (λ (name : List ℕ). All IsByte name) (take l.name-index l.names);
}
