-- The bytes of a block that is there, or not.
use Rattle.std.proofs.Common.{◌≡◌, ℕ, Bool, true, false, cond, refl, ap, arith}
use Rattle.std.specs.Prelude.{◌==◌}
use Rattle.std.proofs.lemmas.Bool.Decides.{nat_tests}
use Rattle.vol_numbers.specs.Block.{zero_block as zeros_of_block}
use Rattle.block_tree.specs.Tree.{Blocks}
use Rattle.place_read.specs.Stored.{bytes_at}
use Rattle.state_laws.specs.Files.{zero_block}

pub zero_bytes : zero_block ≡ zeros_of_block.bytes
unfolding zero_block
zero_bytes = refl

pub none_at : (read : Blocks) (at : ℕ) → at ≡ 0 → bytes_at read at ≡ zero_block
none_at read at is = ap (bytes_at read) is

pub some_at : (read : Blocks) (at : ℕ) → (at ≡ 0 → ⊥) → bytes_at read at ≡ read at
some_at read at some = by (at == 0) refl
  where
    by : (t : Bool) → (at == 0) ≡ t → cond t zero_block (read at) ≡ read at
    by true is = let none : at ≡ 0 = grind (arith, nat_tests) in absurd (some none)
    by false is = refl
