-- How often blocks are read: those of a directory once for its number, and no number comes twice.
use Rattle.std.proofs.Common.{◌≡◌, ℕ, ◌+◌, ◌<◌, ◌≤◌, Bool, true, false, cond, List, [], ◌∷◌, length, map, drop, get_or, refl, ap, arith}
use Rattle.std.specs.Prelude.{nat_eq, Result, Ok, Err, OnOk}
use Rattle.std.proofs.lemmas.Bool.Decides.{nat_tests}
use Rattle.std.proofs.lemmas.List.{drop_more, length-map}
use Rattle.block_format.specs.declared.inode.Inode.{Inode}
use Rattle.place_words.specs.Different.{times, total}
use Rattle.place_words.specs.Rising.{Rising}
use Rattle.image_walk.specs.declared.node_block.NodeBlock.{NodeBlock}
use Rattle.name_check.proofs.RunLaws.{own}

-- the numbers of blocks, and of nodes
abbrev pub page_numbers : List NodeBlock → List ℕ
page_numbers blocks = map (λ b. b.number) blocks

abbrev pub node_numbers : List (ℕ × Inode) → List ℕ
node_numbers nodes = map (λ node. node.0) nodes

-- how many of the blocks are a node's
abbrev pub own_count : List NodeBlock → ℕ → ℕ
own_count blocks n = times n (page_numbers blocks)

-- the blocks of a node are as many as have its number
pub own_times : (n : ℕ) (blocks : List NodeBlock) → length (own n blocks) ≡ times n (page_numbers blocks)
own_times n [] = refl
own_times n (b ∷ bs) = by (nat_eq b.number n) (own_times n bs)
  where
    by : (t : Bool) → length (own n bs) ≡ times n (page_numbers bs) → length (cond t (b ∷ own n bs) (own n bs)) ≡ cond t 1 0 + times n (page_numbers bs)
    by true more = omega (arith, more)
    by false more = omega (arith, more)

-- what holds of each answer
pub on_ok : {T E : Type 0} (r : Result T E) (X : Type 0) → X → OnOk r X
on_ok (Ok value) X x = x
on_ok (Err fault) X x = tt

-- ---- each number once

-- how often a number is there, of numbers that rise
once_low : (p low : ℕ) (ns : List ℕ) → p < low → Rising low ns → total (λ n. cond (nat_eq p n) 1 0) ns ≡ 0
once_low p low [] lt rise = refl
once_low p low (n ∷ ns) lt rise =
    let apart : nat_eq p n ≡ false = (let le = rise.0 in grind (arith, nat_tests)) in
    omega (arith, (let weight : Bool → ℕ = λ t. cond t 1 0 in ap weight apart), once_low p (n + 1) ns (let le = rise.0 in omega arith) rise.1)

once : (p low : ℕ) (ns : List ℕ) → Rising low ns → total (λ n. cond (nat_eq p n) 1 0) ns ≤ 1
once p low [] rise = omega arith
once p low (n ∷ ns) rise = by (nat_eq p n) refl (once p (n + 1) ns rise.1)
  where
    by : (t : Bool) → nat_eq p n ≡ t → total (λ n. cond (nat_eq p n) 1 0) ns ≤ 1 → cond t 1 0 + total (λ n. cond (nat_eq p n) 1 0) ns ≤ 1
    by true is more = (let same : p ≡ n = grind (arith, nat_tests) in omega (arith, once_low p (n + 1) ns (omega (arith, same)) rise.1))
    by false is more = omega (arith, more)

total_none : (ns : List ℕ) → total (λ n. 0) ns ≡ 0
total_none [] = refl
total_none (n ∷ ns) = omega (arith, total_none ns)

total_both : (f h : ℕ → ℕ) (ns : List ℕ) → total (λ n. f n + h n) ns ≡ total f ns + total h ns
total_both f h [] = refl
total_both f h (n ∷ ns) = omega (arith, total_both f h ns)

-- what has a number among these, all together, is no more than there is
pub all_once : (ps : List ℕ) (low : ℕ) (ns : List ℕ) → Rising low ns → total (λ n. times n ps) ns ≤ length ps
all_once [] low ns rise = omega (arith, total_none ns)
all_once (p ∷ ps) low ns rise = omega (arith, total_both (λ n. cond (nat_eq p n) 1 0) (λ n. times n ps) ns, once p low ns rise, all_once ps low ns rise)

-- so many reads of the nodes' own blocks are no more than there are blocks
pub directories_once : (count start left : ℕ) (pages : List NodeBlock) (nodes : List (ℕ × Inode)) → Rising 0 (node_numbers nodes)
    → count + left ≤ start + total (own_count pages) (node_numbers nodes) → count ≤ start + length pages
directories_once count start left pages nodes rise le = omega (arith, le, all_once (page_numbers pages) 0 (node_numbers nodes) rise, length-map pages (λ (b : NodeBlock). b.number))

-- ---- one node more

pub numbers_next : (worth : ℕ → ℕ) (nodes : List (ℕ × Inode)) (k : ℕ) (d : ℕ × Inode) → k < length nodes → total worth (node_numbers (drop k nodes)) ≡ worth (get_or nodes k d).0 + total worth (node_numbers (drop (k + 1) nodes))
numbers_next worth nodes k d lt = ap (λ (xs : List (ℕ × Inode)). total worth (node_numbers xs)) (drop_more nodes k d lt)
