use Rattle.std.proofs.Common.{◌∙◌, ◌+◌, ◌-◌, ◌*◌, ◌++◌, [], ◌∷◌, ℕ, List, cond, sym, ap, subst, arith, drop}
use Rattle.std.specs.List.{flat_map}
use Rattle.vol_numbers.specs.Geometry.{layout_of}
use Rattle.block_format.specs.Inode.{inode_part}
use Rattle.block_format.specs.declared.inode.Inode.{Inode}
use Rattle.image_model.specs.Met.{Met}
use Rattle.image_model.specs.Walk.{bad_met, inodes_from, is_used}
use Rattle.image_walk.specs.Going.{EndsBy}
use Rattle.image_walk.proofs.GoingLaws.{walks_err, ends_then, ends_front}
use Rattle.image_walk.proofs.InodeLaws.{taken_none, taken_next, taken_goes, taken_nodes, taken_rest}
use Rattle.image_walk.proofs.inodes.meet_inodes.Goals as goal

pub loop-k-init : goal.loop-k-init
loop-k-init c = record { taken = taken_none (layout_of c.args.g.now) c.args.block.now.bytes c.args.first c.args.nodes.now.items }

pub returns-in_err-inode-clause-walked : goal.returns-in_err-inode-clause-walked
returns-in_err-inode-clause-walked c marks =
    let g = layout_of c.args.g.now in
    let bytes : List ℕ = c.args.block.now.bytes in
    let first : ℕ = c.args.first in
    let k : ℕ = c.loop-k.k in
    let taken = c.loop-k.invariant.taken in
    let rest : List Met = flat_map bad_met (inodes_from (64 - (k + 1)) (first + (k + 1)) (drop (64 * (k + 1)) bytes)) in
    walks_err g marks marks (flat_map bad_met (inodes_from 64 first bytes)) c.from_residual.result c.in_err-inode.field-0.0 c.from_residual.ensures.1
    (subst (λ (ms : List Met). EndsBy g marks ms c.in_err-inode.field-0.0) (sym (taken_rest g bytes first k c.args.nodes.now.items c.loop-k.nodes.items (omega arith) taken))
    (ends_then g marks marks (flat_map bad_met taken.front) (bad_met (first + k, inode_part k bytes) ++ rest) c.in_err-inode.field-0.0 (taken.goes marks)
    (ends_front g marks (bad_met (first + k, inode_part k bytes)) rest c.in_err-inode.field-0.0 (c.in_err-inode.ensures.walked marks))))

pub loop-k-preserved : goal.loop-k-preserved
loop-k-preserved c =
    let g = layout_of c.args.g.now in
    let bytes : List ℕ = c.args.block.now.bytes in
    let first : ℕ = c.args.first in
    let k : ℕ = c.loop-k.k in
    record {
      taken = taken_next g bytes first k c.args.nodes.now.items c.loop-k.nodes.items c.keep_node.new.nodes.items (omega arith) c.loop-k.invariant.taken c.in_ok-inode.ensures.walked
          (c.in_ok-keep_node.ensures ∙ ap (λ (x : Inode). c.loop-k.nodes.items ++ cond (is_used x) ((first + k, x) ∷ []) []) c.in_ok-inode.ensures.inode);
    }

pub returns-clause-walked : goal.returns-clause-walked
returns-clause-walked c marks = taken_goes (layout_of c.args.g.now) c.args.block.now.bytes c.args.first c.loop-k.k c.args.nodes.now.items c.loop-k.nodes.items (omega arith) c.loop-k.invariant.taken marks

pub returns-clause-nodes : goal.returns-clause-nodes
returns-clause-nodes c = taken_nodes (layout_of c.args.g.now) c.args.block.now.bytes c.args.first c.loop-k.k c.args.nodes.now.items c.loop-k.nodes.items (omega arith) c.loop-k.invariant.taken
