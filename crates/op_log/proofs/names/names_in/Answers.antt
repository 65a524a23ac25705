use Rattle.std.proofs.Common.{◌≡◌, ◌∙◌, ◌+◌, ◌-◌, ◌<◌, ℕ, List, length, take, drop, sym, ap, subst, arith, Some}
use Rattle.std.proofs.lemmas.List.{take_rest, nil_from_length}
use Rattle.tree_model.specs.Path.{Path}
use Rattle.op_log.proofs.NameLemmas.{Left, left_more, left_none, left_end}
use Rattle.op_log.proofs.names.names_in.Goals as goal

pub returns-in_default : goal.returns-in_default
returns-in_default c = λ path named e.
    let test = c.loop-rest-test.ensures in
    let some : 0 < length c.loop-rest.rest.now = grind arith in
    absurd (left_none c.loop-rest.names.items path c.loop-rest.rest.now (c.loop-rest.invariant path named e) some c.in_default.ensures.is)

pub loop-rest-preserved : goal.loop-rest-preserved
loop-rest-preserved c = λ path named e.
    let rest : List ℕ = c.loop-rest.rest.now in
    let name : List ℕ = c.in-Some.name in
    let k : ℕ = 1 + length c.as_bytes.result.now in
    let test = c.loop-rest-test.ensures in
    let some : 0 < length rest = grind arith in
    let behind : take (length rest - k) (drop k rest) ≡ drop (1 + length name) rest = take_rest rest k ∙ ap (λ (l : List ℕ). drop (1 + length l) rest) c.as_bytes.ensures.is in
    let more = left_more c.loop-rest.names.items path rest name (c.loop-rest.invariant path named e) some c.in-Some.ensures.is in
    subst (λ (l : List ℕ). Left c.push.new.self.items path l) (sym behind) (subst (λ (p : Path). Left p path (drop (1 + length name) rest)) (sym c.in_ok-push.ensures.items) more)

pub returns : goal.returns
returns c = λ path named e.
    let rest : List ℕ = c.loop-rest.rest.now in
    let test = c.loop-rest-test.ensures in
    let none : length rest ≡ 0 = grind arith in
    ap Some (c.from_vec.ensures ∙ left_end c.loop-rest.names.items path rest (c.loop-rest.invariant path named e) (nil_from_length rest none))
