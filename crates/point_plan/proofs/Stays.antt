-- The inode blocks of the last point are live, so they stay in each image that carries a plan.
use Rattle.std.proofs.Common.{◌≡◌, ℕ, ◌+◌, ◌≤◌, Bool, true, false, List, [], ◌∷◌, refl, sym, ap, subst, arith}
use Rattle.std.specs.Prelude.{◌||◌, nat_eq}
use Rattle.std.specs.List.{AllByRecursion}
use Rattle.std.proofs.lemmas.Bool.Decides.{nat_tests}
use Rattle.vol_numbers.specs.declared.block.Block.{Block}
use Rattle.block_tree.specs.Tree.{blocks_in}
use Rattle.image_model.specs.Live.{IsLive}
use Rattle.image_model.specs.Plan.{inode_pointers}
use Rattle.image_model.specs.Stands.{Stands}
use Rattle.image_model.proofs.Kept.{bytes_same}
use Rattle.inode_file.specs.Inodes.{InodeTable, IsTable, Stands as InodesStand}
use Rattle.inode_file.specs.Rewriting.{table_pointers}
use Rattle.inode_file.proofs.SpellLaws.{table_stays}
use Rattle.place_words.specs.Different.{is_among}
use Rattle.place_words.proofs.Counting.{among_times}
use Rattle.point_model.specs.PointPlan.{LiveStays}
use Rattle.point_model.proofs.Counted.{old_counted}
use Rattle.point_model.proofs.KeptPages.{pointed_live}
use Rattle.point_plan.proofs.InodesPlanned.{pointers_are}
use Rattle.root_switch.specs.Current.{root_of_image}
use Rattle.volume_model.specs.Machine.{Stored}

at_least : (all top sum : ℕ) → all ≡ top + sum → 1 ≤ top → 1 ≤ all
at_least all top sum e le = omega (arith, e, le)

-- the inode index and the inode blocks are live
pub inode_live : (old : List Block) (s : Stored) → Stands old s → (b : ℕ) → is_among (inode_pointers old) b ≡ true → IsLive old b
inode_live old s stands b among =
    pointed_live old stands.sound b (at_least _ _ _ (old_counted old s stands b) (among_times b (inode_pointers old) among))

-- what holds of all that are among some
all_among : (P : ℕ → Type 0) (xs : List ℕ) → ((b : ℕ) → is_among xs b ≡ true → P b) → AllByRecursion P xs
all_among P [] each = tt
all_among P (x ∷ xs) each = (each x (first x), all_among P xs (λ b among. each b (later (nat_eq x b) (is_among xs b) among)))
  where
    later : (a c : Bool) → c ≡ true → (a || c) ≡ true
    later true c e = refl
    later false c e = e

    first : (y : ℕ) → (nat_eq y y || is_among xs y) ≡ true
    first y = let same : nat_eq y y ≡ true = grind (arith, nat_tests) in ap (λ (t : Bool). t || is_among xs y) same

pub table_stands : (old new : List Block) (s : Stored) (was : InodeTable) → Stands old s → LiveStays old new → IsTable was → InodesStand (blocks_in old) was → (root_of_image old).inode_index ≡ was.index → InodesStand (blocks_in new) was
table_stands old new s was stands live whole stood index =
    let same : inode_pointers old ≡ table_pointers was = pointers_are old was whole stood index in
    table_stays (blocks_in old) (blocks_in new) was stood
    (all_among (λ b. blocks_in new b ≡ blocks_in old b) (table_pointers was)
    (λ b among. bytes_same old new b (live b (inode_live old s stands b (subst (λ (ps : List ℕ). is_among ps b ≡ true) (sym same) among)))))
