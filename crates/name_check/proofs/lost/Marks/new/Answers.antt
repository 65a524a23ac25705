use Rattle.std.proofs.Common.{◌≡◌, ◌∙◌, ◌≤◌, ℕ, List, map, ap, sym, subst}
use Rattle.std.specs.FinSet as set
use Rattle.block_format.specs.declared.inode.Inode.{Inode}
use Rattle.place_words.specs.Rising.{Rising}
use Rattle.image_model.specs.Slots.{inode_of}
use Rattle.image_model.specs.Walk.{is_used}
use Rattle.name_check.proofs.TreeLaws.{marks_tell}
use Rattle.name_check.proofs.lost.Marks.new.Goals as goal

pub returns : goal.returns
returns c s same holds =
    let rise : Rising 0 (map (λ node. node.0) s.nodes) = subst (λ (nodes : List (ℕ × Inode)). Rising 0 (map (λ node. node.0) nodes)) (sym same) c.requires in
    let used : (n : ℕ) → n ≤ 65535 → set.contains c.in_ok-used.used n ≡ is_used (inode_of s.nodes n) =
    λ n at_most. c.in_ok-used.ensures n at_most ∙ ap (λ (nodes : List (ℕ × Inode)). is_used (inode_of nodes n)) (sym same) in
    marks_tell s c.args.directories.now _ holds rise used c.in_ok-naming.ensures c.in_ok-reached.ensures
