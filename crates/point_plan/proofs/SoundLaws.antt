-- Over contents that hold a machine no index block of a number's tree is damaged.
use Rattle.std.proofs.Common.{◌≡◌, ℕ, Bool, true, IsTrue, List, take, sym, ap, subst, ◌∙◌}
use Rattle.std.specs.Prelude.{All, Err, IsErrOf}
use Rattle.vol_numbers.specs.Geometry.{layout_of}
use Rattle.vol_numbers.specs.Layout.{Layout}
use Rattle.vol_numbers.specs.declared.block.Block.{Block}
use Rattle.disk_model.specs.Disk.{Given, State}
use Rattle.block_format.specs.Index.{IsPointer}
use Rattle.block_format.specs.Root.{Root}
use Rattle.block_format.specs.Words.{words}
use Rattle.block_format.specs.declared.inode.Inode.{Inode}
use Rattle.block_tree.specs.Causes.{IsDamage}
use Rattle.block_tree.specs.Root.{tree_indexes}
use Rattle.block_tree.specs.Tree.{Blocks, blocks_in}
use Rattle.image_model.specs.Stands.{layout_in}
use Rattle.inode_file.specs.Inodes.{inode_of}
use Rattle.node_plan.specs.Faults.{IsNodeDamage}
use Rattle.tree_plan.specs.Trees.{root_of}
use Rattle.node_plan.specs.declared.fault.NodeFault.{NodeFault}
use Rattle.node_plan.specs.declared.fault.NodeFault.TheVariants as nodes
use Rattle.place_words.specs.Different.{is_among}
use Rattle.point_model.proofs.IndexStands.{tree_stands}
use Rattle.point_plan.specs.PlacedFresh.{as_plan_fault}
use Rattle.point_plan.specs.State.{HoldsPoint, IsOfSize}
use Rattle.point_plan.specs.declared.fault.PlanFault.{PlanFault}
use Rattle.point_plan.specs.declared.fault.PlanFault.TheVariants.{Damaged}
use Rattle.point_plan.specs.declared.state.PointState.{PointState}
use Rattle.volume_model.specs.Machine.{Machine, Rules, stored}

-- the pointers in each index block of a number's tree lead nowhere or into the area
fits : (r : Rules) (m : Machine) (image : List Block) (blocks : ℕ) (s : PointState) → HoldsPoint r m image s → IsOfSize blocks s → (n b : ℕ) (x : Inode) → x ≡ inode_of s.inodes.inodes n
    → is_among (tree_indexes (blocks_in image) (root_of x)) b ≡ true → All (IsPointer (layout_of s.geometry)) (take 1024 (words (blocks_in image b)))
fits r m image blocks s holds size n b x is among =
    let layout : layout_of s.geometry ≡ layout_in image = ap (λ g. layout_of g) (sym size.root) ∙ ap (λ (root : Root). root.layout) holds.root in
    subst (λ (h : Layout). All (IsPointer h) (take 1024 (words (blocks_in image b)))) (sym layout)
    (tree_stands image (stored m) holds.stands n b (subst (λ (y : Inode). is_among (tree_indexes (blocks_in image) (root_of y)) b ≡ true) (is ∙ holds.nodes n) among))

-- so none of them is damaged
pub not_damaged : (r : Rules) (m : Machine) (before now : State) (blocks : ℕ) (s : PointState) → HoldsPoint r m before.contents s → IsOfSize blocks s → now ≡ before → (n b : ℕ) (x : Inode) → x ≡ inode_of s.inodes.inodes n
    → is_among (tree_indexes (blocks_in before.contents) (root_of x)) b ≡ true → (tells : Bool) → IsTrue tells → (old new : Given) → IsDamage (layout_of s.geometry) tells (blocks_in now.contents) old new b → ⊥
not_damaged r m before now blocks s holds size same n b x is among tells told old new damage =
    damage.pointer (subst (λ (bytes : List ℕ). All (IsPointer (layout_of s.geometry)) (take 1024 (words bytes)))
    (ap (λ (u : State). blocks_in u.contents b) (sym same) ∙ damage.stands told)
    (fits r m before.contents blocks s holds size n b x is among))

-- ---- faults that are passed on

-- the damage of a fault that names a block
pub damage_of : {T : Type 0} (g : Layout) (tells : Bool) (contents : Blocks) (old new : Given) (fault : NodeFault) (b : ℕ) → IsErrOf {T = T} (Err fault) (nodes.Damaged b) → IsNodeDamage {T = T} g tells contents old new (Err fault)
    → IsDamage g tells contents old new b
damage_of {T = T} g tells contents old new fault b is damage =
    let named : fault ≡ nodes.Damaged b = cc in
    subst (λ (f : NodeFault). IsNodeDamage {T = T} g tells contents old new (Err f)) named damage

-- a point names a block where a number does
pub was_damaged : {T : Type 0} (fault : NodeFault) (given : PlanFault) (free b : ℕ) → given ≡ as_plan_fault fault free → IsErrOf {T = T} (Err given) (Damaged b) → fault ≡ nodes.Damaged b
was_damaged nodes.ReadFault given free b is e = cc
was_damaged (nodes.Damaged k) given free b is e = cc
was_damaged nodes.OutOfMemory given free b is e = cc
was_damaged nodes.Short given free b is e = cc
