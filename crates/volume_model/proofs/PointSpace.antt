-- The blocks that a point takes, by the formula.
use Rattle.std.proofs.Common.{◌≡◌, ℕ, ◌+◌, ◌/◌, ◌≤◌, ◌<◌, Bool, true, false, not, cond, List, [], ◌∷◌, ◌++◌, length, map, filter, refl, sym, ap, subst, ◌∙◌, arith}
use Rattle.std.specs.Prelude.{◌||◌, ◌&&◌, nat_eq, nat_le, nat_lt, sum_by}
use Rattle.std.specs.declared.cmp.Ordering.{Ordering}
use Rattle.std.specs.declared.cmp.Ordering.TheVariants.{Less, Equal, Greater}
use Rattle.std.specs.FinMap.{put}
use Rattle.std.specs.FinMap.Entries.{by_order}
use Rattle.std.proofs.lemmas.Bool.Decides.{nat_tests}
use Rattle.place_words.specs.Different.{different, is_among, up}
use Rattle.place_words.specs.Index.{index_blocks, leaves_over}
use Rattle.place_words.proofs.Totals.{different_part, different_same, images_same}
use Rattle.tree_model.specs.Path.{Path}
use Rattle.tree_model.specs.Tree.{Tree}
use Rattle.tree_model.specs.declared.node.Node.{Node}
use Rattle.tree_model.specs.declared.node.Content.{Content}
use Rattle.tree_model.specs.declared.node.Content.TheVariants.{File, Directory}
use Rattle.volume_model.specs.Cache.{is_cached}
use Rattle.volume_model.specs.Laws.{PointFits}
use Rattle.volume_model.specs.Lines.{lines_places}
use Rattle.volume_model.specs.Machine.{Machine, Rules, free_of}
use Rattle.volume_model.specs.Places.{Spot, Places, spot_cmp, has_spot, spots_of, blocks_of, is_block, places_of, unplaced, all_put}
use Rattle.volume_model.specs.Point.{placed_at, placed_after, fresh_spots, may_be_fresh, share_lines}
use Rattle.volume_model.specs.Short.{kept_and_dirty}
use Rattle.volume_model.specs.Space.{metadata_blocks, inode_blocks, content_blocks}
use Rattle.volume_model.specs.Whole.{IsWhole}
use Rattle.volume_model.proofs.Cached.{or_same}
use Rattle.volume_model.proofs.Order.{first_of, spot_tie}
use Rattle.volume_model.proofs.SharedPlaces.{AreShared, share_shared}
use Rattle.volume_model.proofs.WholeLaws.{same_spot}

-- ---- which places there are after the point

abbrev pub here : Spot → ℕ → ℕ → Bool
here s n k = nat_eq s.0 n && nat_eq s.1 k

abbrev pub has : Places → ℕ → ℕ → Bool
has placed n k = has_spot (spots_of placed) (n, k)

same_here : (a b : Spot) → spot_cmp a b ≡ Equal → (n k : ℕ) → here a n k ≡ here b n k
same_here a b e n k = ap (λ (s : Spot). here s n k) (spot_tie a b e)

swap : (x y z w : Bool) → z ≡ (y || w) → (x || z) ≡ (y || (x || w))
swap true true z w e = refl
swap true false z w e = refl
swap false y z w e = e

twice : (x y w : Bool) → x ≡ y → (x || w) ≡ (y || (x || w))
twice true true w e = refl
twice false false w e = refl
twice true false w e = cc
twice false true w e = cc

put_has : (spot : Spot) (block : ℕ) (placed : Places) (n k : ℕ) → has (put spot_cmp spot block placed) n k ≡ (here spot n k || has placed n k)
put_has spot block [] n k = refl
put_has spot block (e ∷ es) n k = by (spot_cmp spot e.0) refl (put_has spot block es n k)
  where
    by : (o : Ordering) → spot_cmp spot e.0 ≡ o → has (put spot_cmp spot block es) n k ≡ (here spot n k || has es n k)
        → has (by_order o ((spot, block) ∷ e ∷ es) ((e.0, block) ∷ es) (e ∷ put spot_cmp spot block es)) n k ≡ (here spot n k || has (e ∷ es) n k)
    by Less is more = refl
    by Equal is more = twice (here e.0 n k) (here spot n k) (has es n k) (sym (same_here spot e.0 is n k))
    by Greater is more = swap (here e.0 n k) (here spot n k) _ _ more

pub all_put_has : (es placed : Places) (n k : ℕ) → has (all_put es placed) n k ≡ (has es n k || has placed n k)
all_put_has [] placed n k = refl
all_put_has (e ∷ es) placed n k =
    all_put_has es (put spot_cmp e.0 e.1 placed) n k ∙ ap (λ (t : Bool). has es n k || t) (put_has e.0 e.1 placed n k) ∙ mixed (here e.0 n k) (has es n k) (has placed n k)
  where
    mixed : (x y z : Bool) → (y || (x || z)) ≡ ((x || y) || z)
    mixed true true z = refl
    mixed true false z = refl
    mixed false y z = refl

pub left_has : (test : Spot → Bool) (spots : List Spot) (n k : ℕ) → has_spot (filter test spots) (n, k) ≡ (has_spot spots (n, k) && test (n, k))
left_has test [] n k = refl
left_has test (s ∷ ss) n k = by (here s n k) refl (left_has test ss n k)
  where
    apart : (t : Bool) → has_spot (filter test ss) (n, k) ≡ (has_spot ss (n, k) && test (n, k)) → here s n k ≡ false → has_spot (cond t (s ∷ filter test ss) (filter test ss)) (n, k) ≡ (has_spot ss (n, k) && test (n, k))
    apart true more is = ap (λ (u : Bool). u || has_spot (filter test ss) (n, k)) is ∙ more
    apart false more is = more

    found : (t : Bool) → test (n, k) ≡ t → has_spot (filter test ss) (n, k) ≡ (has_spot ss (n, k) && test (n, k)) → here s n k ≡ true → has_spot (cond t (s ∷ filter test ss) (filter test ss)) (n, k) ≡ test (n, k)
    found true e more is = ap (λ (u : Bool). u || has_spot (filter test ss) (n, k)) is ∙ sym e
    found false e more is = more ∙ ap (λ (t : Bool). has_spot ss (n, k) && t) e ∙ none (has_spot ss (n, k)) ∙ sym e
      where
        none : (t : Bool) → (t && false) ≡ false
        none true = refl
        none false = refl

    by : (u : Bool) → here s n k ≡ u → has_spot (filter test ss) (n, k) ≡ (has_spot ss (n, k) && test (n, k)) → has_spot (filter test (s ∷ ss)) (n, k) ≡ ((u || has_spot ss (n, k)) && test (n, k))
    by true is more = let own = same_spot s (n, k) is in ap (λ (t : Bool). has_spot (cond t (s ∷ filter test ss) (filter test ss)) (n, k)) (ap test own) ∙ found (test (n, k)) refl more is
    by false is more = apart (test s) more is

pub shared_has : (m : Machine) (ps : Places) (n k : ℕ) → AreShared m ps → has ps n k ≡ true → has_spot m.dirty (n, k) ≡ true
shared_has m [] n k all e = cc
shared_has m (p ∷ ps) n k all e = by (here p.0 n k) refl e (shared_has m ps n k all.2)
  where
    by : (t : Bool) → here p.0 n k ≡ t → (t || has ps n k) ≡ true → (has ps n k ≡ true → has_spot m.dirty (n, k) ≡ true) → has_spot m.dirty (n, k) ≡ true
    by true is e more = subst (λ (s : Spot). has_spot m.dirty s ≡ true) (same_spot p.0 (n, k) is) all.0
    by false is e more = more e

joined : (d s k : Bool) → (s ≡ true → d ≡ true) → ((d && not s) || (s || k)) ≡ (d || k)
joined true true k f = refl
joined true false k f = refl
joined false true k f = let e : false ≡ true = f refl in cc
joined false false k f = refl

pub placed_spots : (spots : List Spot) (blocks : List ℕ) → length blocks ≡ length spots → spots_of (placed_at spots blocks) ≡ spots
placed_spots [] blocks e = refl
placed_spots (s ∷ ss) [] e = absurd (omega (arith, e))
placed_spots (s ∷ ss) (b ∷ bs) e = ap (λ (spots : List Spot). s ∷ spots) (placed_spots ss bs (omega (arith, e)))

pub zero_spots : (spots : List Spot) → spots_of (unplaced spots) ≡ spots
zero_spots [] = refl
zero_spots (s ∷ ss) = ap (λ (spots : List Spot). s ∷ spots) (zero_spots ss)

-- where there are as many blocks as places for them, the places are those that were kept or dirty
pub after_has : (r : Rules) (m : Machine) (fresh : List ℕ) → 0 < r.threshold → IsWhole m → length fresh ≡ length (fresh_spots m (lines_places (share_lines r m))) → (n k : ℕ)
    → has (placed_after r m fresh) n k ≡ has (kept_and_dirty m) n k
after_has r m fresh positive whole long n k =
    let shares = lines_places (share_lines r m) in
    let spots = fresh_spots m shares in
    all_put_has (placed_at spots fresh) (all_put shares m.kept) n k
    ∙ ap (λ (t : Bool). t || has (all_put shares m.kept) n k) (ap (λ (ss : List Spot). has_spot ss (n, k)) (placed_spots spots fresh long) ∙ left_has (λ (spot : Spot). not (has_spot (spots_of shares) spot)) m.dirty n k)
    ∙ ap (λ (t : Bool). (has_spot m.dirty (n, k) && not (has shares n k)) || t) (all_put_has shares m.kept n k)
    ∙ joined (has_spot m.dirty (n, k)) (has shares n k) (has m.kept n k) (shared_has m shares n k (share_shared r m positive whole))
    ∙ ap (λ (ss : List Spot). has_spot ss (n, k) || has m.kept n k) (sym (zero_spots m.dirty))
    ∙ sym (all_put_has (unplaced m.dirty) m.kept n k)

-- ---- metadata depends on which places there are

pub has_place : (placed : Places) (n k : ℕ) → is_among (places_of placed n) k ≡ has placed n k
has_place [] n k = refl
has_place (e ∷ es) n k = by (nat_eq e.0.0 n) (has_place es n k)
  where
    by : (t : Bool) → is_among (places_of es n) k ≡ has es n k
        → is_among (map (λ (e : Spot × ℕ). e.0.1) (cond t (e ∷ filter (λ (e : Spot × ℕ). nat_eq e.0.0 n) es) (filter (λ (e : Spot × ℕ). nat_eq e.0.0 n) es))) k ≡ ((t && nat_eq e.0.1 k) || has es n k)
    by true more = ap (λ (t : Bool). nat_eq e.0.1 k || t) more
    by false more = more

index_member : (b : ℕ) (ps qs : List ℕ) → ((k : ℕ) → is_among ps k ≡ is_among qs k) → index_blocks b ps ≡ index_blocks b qs
index_member b [] [] same = refl
index_member b [] (q ∷ qs) same = let one : (nat_eq q q || is_among qs q) ≡ true = found q qs in let e : false ≡ true = same q ∙ one in cc
  where
    found : (q : ℕ) (qs : List ℕ) → (nat_eq q q || is_among qs q) ≡ true
    found q qs = let own : nat_eq q q ≡ true = grind (arith, nat_tests) in ap (λ (t : Bool). t || is_among qs q) own
index_member b (p ∷ ps) [] same = let one : (nat_eq p p || is_among ps p) ≡ true = found p ps in let e : true ≡ false = sym one ∙ same p in cc
  where
    found : (q : ℕ) (qs : List ℕ) → (nat_eq q q || is_among qs q) ≡ true
    found q qs = let own : nat_eq q q ≡ true = grind (arith, nat_tests) in ap (λ (t : Bool). t || is_among qs q) own
index_member b (p ∷ ps) (q ∷ qs) same =
    let leaves : leaves_over (p ∷ ps) ≡ leaves_over (q ∷ qs) = different_same (map (λ (k : ℕ). k / 1024) (p ∷ ps)) (map (λ (k : ℕ). k / 1024) (q ∷ qs)) (images_same (λ (k : ℕ). k / 1024) (p ∷ ps) (q ∷ qs) same) in
    ap (λ (n : ℕ). cond (nat_le b 1) 0 (n + cond (nat_lt 1024 b) 1 0)) leaves

content_member : (p q : Places) → ((n k : ℕ) → has p n k ≡ has q n k) → (n : ℕ) (content : Content) → content_blocks p n content ≡ content_blocks q n content
content_member p q same n (File bytes) = index_member (up (length bytes) 4096) (places_of p n) (places_of q n) (λ k. has_place p n k ∙ same n k ∙ sym (has_place q n k))
content_member p q same n (Directory width) = refl

metadata_member : (tree : Tree) (p q : Places) → ((n k : ℕ) → has p n k ≡ has q n k) → metadata_blocks tree p ≡ metadata_blocks tree q
metadata_member tree p q same = λ i. 1 + inode_blocks tree + sum_by (λ (e : Path × Node). content_member p q same e.1.number e.1.content i) tree

-- ---- the blocks after the point

put_blocks : (spot : Spot) (block : ℕ) (placed : Places) (b : ℕ) → is_among (blocks_of (put spot_cmp spot block placed)) b ≡ true → (nat_eq block b || is_among (blocks_of placed) b) ≡ true
put_blocks spot block [] b among = among
put_blocks spot block (e ∷ es) b among = by (spot_cmp spot e.0) among (put_blocks spot block es b)
  where
    turn : (x y z : Bool) → (z ≡ true → (y || x) ≡ true) → (x || z) ≡ true → (y || x) ≡ true
    turn true true z f e = refl
    turn true false z f e = refl
    turn false y z f e = f e

    swap : (x y z w : Bool) → (z ≡ true → (y || w) ≡ true) → (x || z) ≡ true → (y || (x || w)) ≡ true
    swap true true z w f e = refl
    swap true false z w f e = refl
    swap false y z w f e = f e

    skip : (x y w : Bool) → (y || w) ≡ true → (y || (x || w)) ≡ true
    skip true true w e = refl
    skip true false w e = refl
    skip false y w e = e

    by : (o : Ordering) → is_among (blocks_of (by_order o ((spot, block) ∷ e ∷ es) ((e.0, block) ∷ es) (e ∷ put spot_cmp spot block es))) b ≡ true
        → (is_among (blocks_of (put spot_cmp spot block es)) b ≡ true → (nat_eq block b || is_among (blocks_of es) b) ≡ true) → (nat_eq block b || (nat_eq e.1 b || is_among (blocks_of es) b)) ≡ true
    by Less among more = among
    by Equal among more = skip (nat_eq e.1 b) (nat_eq block b) _ among
    by Greater among more = swap (nat_eq e.1 b) (nat_eq block b) _ _ more among

all_put_blocks : (es placed : Places) (b : ℕ) → is_among (blocks_of (all_put es placed)) b ≡ true → is_among (blocks_of es ++ blocks_of placed) b ≡ true
all_put_blocks [] placed b among = among
all_put_blocks (e ∷ es) placed b among = moved (nat_eq e.1 b) (blocks_of es) (blocks_of placed) (blocks_of (put spot_cmp e.0 e.1 placed)) b (put_blocks e.0 e.1 placed b) (all_put_blocks es (put spot_cmp e.0 e.1 placed) b among)
  where
    moved : (t : Bool) (xs ys zs : List ℕ) (b : ℕ) → (is_among zs b ≡ true → (t || is_among ys b) ≡ true) → is_among (xs ++ zs) b ≡ true → (t || is_among (xs ++ ys) b) ≡ true
    moved t [] ys zs b f among = f among
    moved t (x ∷ xs) ys zs b f among = step t (nat_eq x b) _ _ (moved t xs ys zs b f) among
      where
        step : (t u v w : Bool) → (v ≡ true → (t || w) ≡ true) → (u || v) ≡ true → (t || (u || w)) ≡ true
        step true u v w f e = refl
        step false true v w f e = refl
        step false false v w f e = f e

more_different : (t : Bool) (d : ℕ) → cond t d (d + 1) ≤ d + 1
more_different true d = omega arith
more_different false d = omega arith

different_append : (xs ys : List ℕ) → different (xs ++ ys) ≤ length xs + different ys
different_append [] ys = omega arith
different_append (x ∷ xs) ys = omega (arith, more_different (is_among (xs ++ ys) x) (different (xs ++ ys)), different_append xs ys)

blocks_length : (spots : List Spot) (blocks : List ℕ) → length (blocks_of (placed_at spots blocks)) ≤ length spots
blocks_length [] blocks = omega arith
blocks_length (s ∷ ss) [] = omega arith
blocks_length (s ∷ ss) (b ∷ bs) = omega (arith, blocks_length ss bs)

either : (xs ys : List ℕ) (b : ℕ) → is_among (xs ++ ys) b ≡ true → (is_among xs b || is_among ys b) ≡ true
either [] ys b e = e
either (x ∷ xs) ys b e = by (nat_eq x b) e (either xs ys b)
  where
    by : (t : Bool) → (t || is_among (xs ++ ys) b) ≡ true → (is_among (xs ++ ys) b ≡ true → (is_among xs b || is_among ys b) ≡ true) → ((t || is_among xs b) || is_among ys b) ≡ true
    by true e more = refl
    by false e more = more e

one_of : (xs ys : List ℕ) (b : ℕ) → (is_among xs b || is_among ys b) ≡ true → is_among (xs ++ ys) b ≡ true
one_of [] ys b e = e
one_of (x ∷ xs) ys b e = by (nat_eq x b) e (one_of xs ys b)
  where
    by : (t : Bool) → ((t || is_among xs b) || is_among ys b) ≡ true → ((is_among xs b || is_among ys b) ≡ true → is_among (xs ++ ys) b ≡ true) → (t || is_among (xs ++ ys) b) ≡ true
    by true e more = refl
    by false e more = more e

of_two : (a b c : Bool) → (a ≡ true → c ≡ true) → (b ≡ true → c ≡ true) → (a || b) ≡ true → c ≡ true
of_two true b c f g e = f refl
of_two false b c f g e = g e

shared_old : (m : Machine) (ps : Places) (b : ℕ) → AreShared m ps → ((b : ℕ) → is_cached m.cache b ≡ true → is_block m.stored_places b ≡ true) → is_block ps b ≡ true → is_block m.stored_places b ≡ true
shared_old m [] b all cached e = cc
shared_old m (p ∷ ps) b all cached e = by (nat_eq p.1 b) refl e (shared_old m ps b all.2 cached)
  where
    by : (t : Bool) → nat_eq p.1 b ≡ t → (t || is_block ps b) ≡ true → (is_block ps b ≡ true → is_block m.stored_places b ≡ true) → is_block m.stored_places b ≡ true
    by true is e more = let own : p.1 ≡ b = grind (arith, nat_tests) in cached b (subst (λ (n : ℕ). is_cached m.cache n ≡ true) own all.1)
    by false is e more = more e

after_blocks : (r : Rules) (m : Machine) (fresh : List ℕ) → 0 < r.threshold → IsWhole m → (b : ℕ) → is_block (placed_after r m fresh) b ≡ true
    → is_among (blocks_of (placed_at (fresh_spots m (lines_places (share_lines r m))) fresh) ++ blocks_of m.stored_places) b ≡ true
after_blocks r m fresh positive whole b e =
    let shares = lines_places (share_lines r m) in
    let new = blocks_of (placed_at (fresh_spots m shares) fresh) in
    let two = either new (blocks_of (all_put shares m.kept)) b (all_put_blocks (placed_at (fresh_spots m shares) fresh) (all_put shares m.kept) b e) in
    one_of new (blocks_of m.stored_places) b (or_same (is_among new b) _ _ (λ old. of_two _ _ _
    (shared_old m shares b (share_shared r m positive whole) whole.cached)
    (whole.kept_blocks b)
    (either (blocks_of shares) (blocks_of m.kept) b (all_put_blocks shares m.kept b old))) two)

fewer_spots : (test : Spot → Bool) (spots : List Spot) → length (filter test spots) ≤ length spots
fewer_spots test [] = omega arith
fewer_spots test (s ∷ ss) = by (test s) (fewer_spots test ss)
  where
    by : (t : Bool) → length (filter test ss) ≤ length ss → length (cond t (s ∷ filter test ss) (filter test ss)) ≤ length (s ∷ ss)
    by true more = omega (arith, more)
    by false more = omega (arith, more)

-- as many fresh blocks as places for them
pub long_as : (r : Rules) (m : Machine) (fresh : List ℕ) → may_be_fresh r m fresh ≡ true → length fresh ≡ length (fresh_spots m (lines_places (share_lines r m)))
long_as r m fresh may = same (length fresh) _ (first_of _ _ (first_of _ _ may))
  where
    same : (a b : ℕ) → nat_eq a b ≡ true → a ≡ b
    same a b e = grind (arith, nat_tests)

pub point_fits : PointFits
point_fits r m fresh positive whole may enough =
    let shares = lines_places (share_lines r m) in
    let spots = fresh_spots m shares in
    let long = long_as r m fresh may in
    let placed = placed_after r m fresh in
    let meta = metadata_member m.tree placed (kept_and_dirty m) (after_has r m fresh positive whole long) in
    let part = different_part (blocks_of placed) (blocks_of (placed_at spots fresh) ++ blocks_of m.stored_places) (after_blocks r m fresh positive whole) in
    let room : length m.dirty + metadata_blocks m.tree (kept_and_dirty m) + 16 ≤ free_of m = grind (arith, nat_tests) in
    omega (
      arith,
      meta,
      part,
      room,
      different_append (blocks_of (placed_at spots fresh)) (blocks_of m.stored_places),
      blocks_length spots fresh,
      fewer_spots (λ (spot : Spot). not (has_spot (spots_of shares) spot)) m.dirty,
    )
