use Rattle.std.proofs.Common.{◌≡◌, ◌∙◌, ◌++◌, List, [], ◌∷◌, ℕ, length, take, ap, subst, arith}
use Rattle.std.specs.Prelude.{All}
use Rattle.std.proofs.lemmas.List.{take_all, length-append}
use Rattle.std.proofs.lemmas.List.Elements.{All-more}
use Rattle.vol_numbers.specs.Name.{IsName}
use Rattle.tree_model.specs.Path.{Path, path_length}
use Rattle.op_log.specs.Record.{path_bytes}
use Rattle.op_log.proofs.PathLemmas.{length-path_bytes, room_for_name, written_more}
use Rattle.op_log.proofs.spelling.put_path.Goals as goal

pub loop-name-preserved : goal.loop-name-preserved
loop-name-preserved c =
    let items : Path = c.names-name-items.result.now in
    let i : ℕ = c.loop-name.name-index in
    let name : List ℕ = c.name-item.result in
    record {
      written = written_more c.args.head.now.items c.loop-name.head.items c.put.new.head.items c.put-in-loop-name.new.head.items items i name c.loop-name.invariant.written c.loop-name-test.true c.name-item.is
          c.put.ensures (c.put-in-loop-name.ensures ∙ ap (λ (l : List ℕ). c.put.new.head.items ++ l) c.as_bytes.ensures.is);
      names = All-more IsName items i name c.loop-name-test.true c.loop-name.invariant.names (subst IsName c.name-item.is c.as_bytes.ensures.name);
    }

pub put-requires : goal.put-requires
put-requires c =
    let items : Path = c.names-name-items.result.now in
    let room = room_for_name c.args.head.now.items c.loop-name.head.items items c.loop-name.name-index c.name-item.result c.loop-name.invariant.written c.loop-name-test.true in
    omega (arith, room, c.requires, ap path_length c.names-name-items.ensures.is, c.names-name-items.ensures.path.length_at_most)

pub put-requires-in-loop-name : goal.put-requires-in-loop-name
put-requires-in-loop-name c =
    let items : Path = c.names-name-items.result.now in
    let room = room_for_name c.args.head.now.items c.loop-name.head.items items c.loop-name.name-index c.name-item.result c.loop-name.invariant.written c.loop-name-test.true in
    omega (arith, room, c.requires, ap path_length c.names-name-items.ensures.is, c.names-name-items.ensures.path.length_at_most, ap length c.put.ensures, length-append c.loop-name.head.items (47 ∷ []), ap length c.as_bytes.ensures.is, ap length c.name-item.is)

pub returns : goal.returns
returns c =
    let items : Path = c.names-name-items.result.now in
    let i : ℕ = c.loop-name.name-index in
    let path : Path = c.args.path.now in
    let all : take i items ≡ path = take_all i items c.loop-name-test.false ∙ c.names-name-items.ensures.is in
    record {
      is = c.loop-name.invariant.written ∙ ap (λ (p : Path). c.args.head.now.items ++ path_bytes p) all;
      short = omega (arith, length-path_bytes path, c.names-name-items.ensures.path.length_at_most);
      path = λ some. record { some = some; limits = c.names-name-items.ensures.path; names = subst (All IsName) all c.loop-name.invariant.names };
    }
