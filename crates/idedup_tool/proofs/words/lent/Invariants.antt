use Rattle.std.proofs.Common.{◌≡◌, take, map, string_bytes}
use Rattle.idedup_tool.proofs.words.lent.Given as goal

-- the words up to here are lent
abbrev pub invariant-loop-word : goal.invariant-loop-word
invariant-loop-word l = map (λ word. word.now) l.words.items ≡ map string_bytes (take l.word-index l.owned)
