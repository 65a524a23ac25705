-- What is seen of an image in which nothing is wrong rests on blocks that are counted.
use Rattle.std.proofs.Common.{◌≡◌, ℕ, ◌+◌, ◌*◌, ◌<◌, ◌≤◌, ◌%◌, Bool, true, cond, List, [], ◌∷◌, get_or, refl, sym, ap, ◌∙◌, arith, slice_get}
use Rattle.std.specs.Prelude.{Option, unwrap_or, option_map, slice_index}
use Rattle.std.proofs.lemmas.List.Sums.{sum_by-cons}
use Rattle.std.proofs.lemmas.Option.{unwrap_or-slice_get}
use Rattle.std.proofs.lemmas.Bool.{eq-eqb}
use Rattle.std.proofs.lemmas.Bool.Decides.{nat_tests}
use Rattle.vol_numbers.specs.Layout.{Layout, count_blocks}
use Rattle.vol_numbers.specs.Block.{zero_block}
use Rattle.vol_numbers.specs.declared.block.Block.{Block}
use Rattle.disk_model.specs.Disk.{State, IsImage}
use Rattle.root_switch.specs.Current.{root_of_image, current_slot}
use Rattle.image_model.specs.Met.{Met, index, page, content, past, empty, not_inode, points_at, pointers_to, stray}
use Rattle.block_tree.specs.Tree.{Blocks, blocks_in}
use Rattle.image_model.specs.Walk.{walk}
use Rattle.image_model.specs.Seen.{seen, seen_from, page_held, content_held, all_held}
use Rattle.image_model.specs.Findings.{is_in_area}
use Rattle.image_model.specs.Sound.{IsGood, AllGood, IsSound}
use Rattle.image_model.specs.Live.{IsLive, home, counted, KeepsLive, OpensNoLive}
use Rattle.image_model.specs.Stands.{layout_in}
use Rattle.image_model.proofs.Same.{AllAgree, Agrees, walk-same, nodes_at-same, pages-same, contents-same, counts_from-same}

-- the first of these points at it
points_first : (b : ℕ) (m : Met) (ms : List Met) → points_at b m ≡ true → 0 < pointers_to b (m ∷ ms)
points_first b m ms is =
    let weight : Bool → ℕ = λ t. cond t 1 0 in
    let one : weight (points_at b m) ≡ weight true = ap weight is in
    omega (arith, one, sum_by-cons (λ x. cond (points_at b x) 1 0) m ms)

points_rest : (b : ℕ) (m : Met) (ms : List Met) → pointers_to b ms ≤ pointers_to b (m ∷ ms)
points_rest b m ms = omega (arith, sum_by-cons (λ x. cond (points_at b x) 1 0) m ms)

-- the blocks that the pointers of a whole walk lead to are the same
record IsKept (g : Layout) (whole : List Met) (read new : Blocks) : Type 0 where
  same : (b : ℕ) → is_in_area g b ≡ true → 0 < pointers_to b whole → new b ≡ read b

pointer_same : (g : Layout) (whole : List Met) (read new : Blocks) → IsKept g whole read new → (b : ℕ) (m : Met) (ms : List Met)
    → points_at b m ≡ true → is_in_area g b ≡ true → ((p : ℕ) → pointers_to p (m ∷ ms) ≤ pointers_to p whole) → new b ≡ read b
pointer_same g whole read new is b m ms points inside below = is.same b inside (omega (arith, points_first b m ms points, below b))

here_same : (g : Layout) (whole : List Met) (read new : Blocks) → IsKept g whole read new → (m : Met) (ms : List Met) → IsGood g whole m → ((p : ℕ) → pointers_to p (m ∷ ms) ≤ pointers_to p whole) → Agrees read new m
here_same g whole read new is (index b) ms good le = pointer_same g whole read new is b (index b) ms (eq-eqb b b refl) good.0 le
here_same g whole read new is (page n place b) ms good le = pointer_same g whole read new is b (page n place b) ms (eq-eqb b b refl) good.0 le
here_same g whole read new is (content n place b) ms good le = pointer_same g whole read new is b (content n place b) ms (eq-eqb b b refl) good le
here_same g whole read new is (past b) ms good le = absurd good
here_same g whole read new is (empty b) ms good le = tt
here_same g whole read new is (not_inode n) ms good le = tt
here_same g whole read new is (stray n p) ms good le = tt

all_same : (g : Layout) (whole : List Met) (read new : Blocks) → IsKept g whole read new → (ms : List Met) → AllGood g whole ms → ((p : ℕ) → pointers_to p ms ≤ pointers_to p whole) → AllAgree read new ms
all_same g whole read new is [] good below = tt
all_same g whole read new is (m ∷ ms) good below =
    (here_same g whole read new is m ms good.0 below, all_same g whole read new is ms good.1 (λ p. omega (arith, below p, points_rest p m ms)))

area_counted : (g : Layout) (b : ℕ) → is_in_area g b ≡ true → b < 1024 * count_blocks g
area_counted g b is = let lt : b < g.blocks = grind (arith, nat_tests) in omega arith

-- a block that is the same in both images has the same bytes
got : (xs ys : List Block) (i : ℕ) (d : Block) → slice_get xs i ≡ slice_get ys i → get_or xs i d ≡ get_or ys i d
got xs ys i d same = sym (unwrap_or-slice_get xs i d) ∙ ap (λ o. unwrap_or o d) same ∙ unwrap_or-slice_get ys i d

pub bytes_same : (old new : List Block) (b : ℕ) → slice_get new b ≡ slice_get old b → blocks_in new b ≡ blocks_in old b
bytes_same old new b same = ap (λ (x : Block). x.bytes) (got new old b zero_block same)

-- With the root's pointers and the live blocks the same is seen.
pub seen-same : (old new : List Block) → IsSound (layout_in old) (seen old)
    → (root_of_image new).inode_index ≡ (root_of_image old).inode_index → (root_of_image new).homes ≡ (root_of_image old).homes → layout_in new ≡ layout_in old
    → ((b : ℕ) → IsLive old b → slice_get new b ≡ slice_get old b) → seen new ≡ seen old
unfolding seen
seen-same old new sound at homes layout live =
    let read = blocks_in old in
    let fresh = blocks_in new in
    let r = root_of_image old in
    let whole = walk read r.inode_index in
    let kept : IsKept r.layout whole read fresh = record { same = λ b inside some. bytes_same old new b (live b (counted b inside (omega (arith, sound.counts b (area_counted r.layout b inside), some)))) } in
    let agree = all_same r.layout whole read fresh kept whole sound.pointers (λ p. omega arith) in
    let met = walk-same read fresh r.inode_index agree in
    (λ i. seen_from fresh (at i) (homes i) (count_blocks (layout i)))
    ∙ (λ i. record {
      met = met i;
      nodes = nodes_at-same read fresh r.inode_index agree i;
      pages = (ap (all_held (page_held fresh)) met ∙ pages-same read fresh whole agree) i;
      contents = (ap (all_held (content_held fresh)) met ∙ contents-same read fresh whole agree) i;
      kept = counts_from-same read fresh r.homes 0 (count_blocks r.layout) (λ k lt. bytes_same old new _ (live _ (home k (omega arith)))) i;
    })

-- an image of a state whose selector, root and live blocks are not open keeps them
pub image_keeps : (s : State) (image : List Block) → OpensNoLive s → IsImage s image → KeepsLive s.contents image
image_keeps s image closed is = record {
  as_long = is.as_long;
  root =
      let slot : current_slot image ≡ current_slot s.contents = ap (λ (b : Option Block). unwrap_or (option_map (λ (b : Block). slice_index b.bytes 0) b) 0 % 2) (is.agrees 0 closed.selector) in
      ap (λ (k : ℕ). slice_get image (1 + k)) slot ∙ is.agrees (1 + current_slot s.contents) closed.root;
  live = λ k is_live. is.agrees k (closed.live k is_live);
}
