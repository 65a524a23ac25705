use Rattle.std.proofs.Common.{◌≡◌, ◌∙◌, ◌++◌, ℕ, List, length, sym, ap}
use Rattle.op_log.specs.Record.{path_bytes, header}
use Rattle.op_log.proofs.PathLemmas.{length-path_bytes}
use Rattle.op_log.proofs.spelling.head.Goals as goal

pub returns-clause-is : goal.returns-clause-is
returns-clause-is c =
    let path : List (List ℕ) = c.args.path.now in
    let long : c.length.result ≡ length (path_bytes path) = c.length.ensures.is ∙ sym (length-path_bytes path) in
    c.put_path.ensures.is ∙ ap (λ (l : List ℕ). l ++ path_bytes path) (c.header-head.ensures.is ∙ ap (λ (n : ℕ). header c.args.kind n c.args.number c.args.rest_len) long)
