use Rattle.std.proofs.Common.{◌≡◌, ◌-◌, ◌*◌, ℕ, Bool, not, List, take, drop, IfOk, IsTrue, sym, ap, ◌∙◌, arith}
use Rattle.std.specs.Prelude.{◌==◌, Result, Ok, Err}
use Rattle.std.specs.List.{list_all}
use Rattle.block_format.specs.Inode.{blocks_of}
use Rattle.block_tree.specs.Tree.{blocks_in}
use Rattle.image_model.specs.Slots.{held_at}
use Rattle.image_walk.specs.Blocks.{blocks_held}
use Rattle.name_check.proofs.tail_check.has_tail.Goals as goal

-- a block's bytes from one on are the file's, where both are the same
in_place : {F : Type 0} (r : Result Bool F) (tells : Bool) (bytes other : List ℕ) (from start : ℕ) → bytes ≡ other → from ≡ start
    → IfOk r (λ has. IsTrue tells → has ≡ not (list_all (λ b. b == 0) (drop from (take 4096 bytes)))) → IfOk r (λ has. IsTrue tells → has ≡ not (list_all (λ b. b == 0) (drop start (take 4096 other))))
in_place (Ok has) tells bytes other from start same at is = λ t. is t ∙ (λ i. not (list_all (λ b. b == 0) (drop (at i) (take 4096 (same i)))))
in_place (Err fault) tells bytes other from start same at is = tt

pub returns-in-Some-clause-has : goal.returns-in-Some-clause-has
returns-in-Some-clause-has g c =
    let read = blocks_in (g.D.Disk.state c.args.disk.now).contents in
    let hs = blocks_held read c.args.last_blocks.now in
    let last : c.saturating_sub-place.result ≡ blocks_of c.args.size - 1 = omega (arith, c.saturating_sub-place.ensures, c.div_ceil.ensures) in
    in_place c.has_bytes.result g.D.Disk.tells (read c.in-Some.block) (held_at hs c.args.number (blocks_of c.args.size - 1)) (c.args.size - 4096 * c.saturating_sub-place.result) (c.args.size - 4096 * (blocks_of c.args.size - 1))
    (sym (c.in-Some.ensures.some read) ∙ ap (held_at hs c.args.number) last) (ap (λ (p : ℕ). c.args.size - 4096 * p) last) c.has_bytes.ensures.has
