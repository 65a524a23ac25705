-- What several writes append to the bytes that a writer holds, where those are known.
use Rattle.std.proofs.Common.{ℕ, ◌+◌, ◌-◌, List, length, take, drop, Option, sym, subst}
use Rattle.std.proofs.lemmas.List.{take_rest}
use Rattle.std.proofs.Math.Seq.{take-add}
use Rattle.std.proofs.KnownBytes.{Appends-trans}
use Rattle.std.specs.Io.KnownBytes.{Appends}

-- the first n bytes of a list, and then m of the rest
pub appended_next : (a b c : Option (List ℕ)) (n m : ℕ) (all : List ℕ) → Appends a b (take n all) → Appends b c (take m (take (length all - n) (drop n all)))
    → Appends a c (take (n + m) all)
appended_next a b c n m all first second =
    let next : Appends b c (take m (drop n all)) = subst (λ l. Appends b c (take m l)) (take_rest all n) second in
    subst (Appends a c) (sym (take-add n m all)) (Appends-trans a b c _ _ first next)
