use Rattle.std.proofs.Common.{◌≡◌, ◌≢◌, ◌∙◌, ◌++◌, ◌-◌, ℕ, List, length, take, drop, get_or, refl, sym, ap, subst, arith}
use Rattle.std.specs.Prelude.{IfOk}
use Rattle.std.proofs.lemmas.List.{take_at, take_rest}
use Rattle.vol_numbers.specs.Name.{IsName}
use Rattle.op_log.specs.Record.{path_bytes}
use Rattle.op_log.proofs.NameLemmas.{name_ends, ok_value}
use Rattle.op_log.proofs.names.first_name.Goals as goal

pub returns-clause-is : goal.returns-clause-is
returns-clause-is c = λ name path named e.
    let bytes : List ℕ = c.args.bytes.now in
    let behind : List ℕ = take (length bytes - 1) (drop 1 bytes) in
    let len : ℕ = c.name_len.result in
    let behind_is : behind ≡ name ++ path_bytes path = take_rest bytes 1 ∙ sym (ap (drop 1) e) in
    let len_is : len ≡ length name = name_ends name path len named (omega (arith, c.name_len.ensures.within, ap length behind_is))
    (λ k lt. subst (λ (l : List ℕ). get_or l k 0 ≢ 47) behind_is (c.name_len.ensures.before k lt))
    (λ lt. subst (λ (l : List ℕ). get_or l len 0 ≡ 47) behind_is (c.name_len.ensures.found (omega (arith, lt, ap length behind_is)))) in
    let part_is : take len behind ≡ name = ap (λ (n : ℕ). take n behind) len_is ∙ ap (take (length name)) behind_is ∙ take_at name (path_bytes path) (length name) refl in
    c.ok.ensures.value ∙ ok_value c.new.result name (c.new.ensures.valid.1 (subst IsName (sym part_is) named)) (subst (λ (l : List ℕ). IfOk c.new.result (λ x. x ≡ l)) part_is c.new.ensures.value)
