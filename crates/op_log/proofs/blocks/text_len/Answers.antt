use Rattle.std.proofs.Common.{◌≡◌, ◌+◌, ℕ, length, ap, arith, inl, inr}
use Rattle.std.specs.Prelude.{◌⊎◌}
use Rattle.tree_model.specs.Path.{Path, path_length}
use Rattle.tree_model.specs.declared.command.Command.{Command}
use Rattle.tree_model.specs.declared.command.Command.TheVariants.{Mkdir, Create, Truncate, Remove}
use Rattle.op_log.specs.Record.{fields_of}
use Rattle.op_log.proofs.PathLemmas.{length-path_bytes}
use Rattle.op_log.proofs.blocks.text_len.Goals as goal

-- the commands that have a path and nothing behind it
one_path : (c : Command) (path : Path) (n : ℕ) → n ≡ path_length path
    → (c ≡ Mkdir path) ⊎ (c ≡ Create path) ⊎ ((size : ℕ) × (c ≡ Truncate path size)) ⊎ (c ≡ Remove path)
    → 24 + n ≡ 24 + length (fields_of c).path + length (fields_of c).rest
one_path c path n e (inl is) = rw is (omega (arith, length-path_bytes path, e))
one_path c path n e (inr (inl is)) = rw is (omega (arith, length-path_bytes path, e))
one_path c path n e (inr (inr (inl is))) = rw is.1 (omega (arith, length-path_bytes path, e))
one_path c path n e (inr (inr (inr is))) = rw is (omega (arith, length-path_bytes path, e))

pub returns-in-Mkdir-clause-is : goal.returns-in-Mkdir-clause-is
returns-in-Mkdir-clause-is c = one_path c.args.command.now c.in-Mkdir.path c.length-in-Mkdir.result c.length-in-Mkdir.ensures.is c.in-Mkdir.is

pub returns-in-Write-clause-is : goal.returns-in-Write-clause-is
returns-in-Write-clause-is c = rw c.in-Write.is (omega (arith, length-path_bytes c.in-Write.path, c.length.ensures.is, ap length c.as_slice.ensures.is))

pub returns-in-Rename-clause-is : goal.returns-in-Rename-clause-is
returns-in-Rename-clause-is c =
    rw c.in-Rename.is (omega (arith, length-path_bytes c.in-Rename.from, length-path_bytes c.in-Rename.to, c.length-in-Rename.ensures.is, c.length-in-Rename-2.ensures.is))
