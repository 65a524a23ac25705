-- The tree and the pages that are planned of a directory.
use Rattle.std.proofs.Common.{◌≡◌, ℕ, zero, suc, ◌+◌, ◌<◌, ◌≤◌, Bool, true, false, not, cond, List, [], ◌∷◌, length, map, filter, Some, inl, inr, refl, sym, ap, subst, ◌∙◌, arith}
use Rattle.std.specs.Prelude.{◌==◌, ◌&&◌, ◌||◌, ◌⊎◌, nat_eq, nat_lt, All}
use Rattle.std.proofs.lemmas.Bool.{eqb-true}
use Rattle.std.proofs.lemmas.Bool.Decides.{nat_tests}
use Rattle.std.proofs.lemmas.List.Elements.{All-cons, All-nil}
use Rattle.vol_numbers.specs.declared.block.Block.{Block}
use Rattle.vol_numbers.specs.declared.runs.Change.{Change}
use Rattle.vol_numbers.specs.declared.runs.Page.{Page}
use Rattle.block_format.specs.Inode.{pointer_of}
use Rattle.block_format.specs.declared.inode.Inode.{Inode}
use Rattle.block_format.specs.declared.inode.Inode.TheVariants.{Unused, File, Directory}
use Rattle.block_format.specs.declared.slot.Slot.{Slot}
use Rattle.block_tree.specs.Edit.{changed_at, cut_at, leaves_of}
use Rattle.block_tree.specs.Notes.{Stand, change_blocks}
use Rattle.block_tree.specs.Tree.{blocks_in, block_in, pairs_below, indexes_below, pointers_below}
use Rattle.block_tree.proofs.Pairs.{pairs_are}
use Rattle.block_tree.proofs.Rise.{places_in, pairs_rise}
use Rattle.dir_slots.specs.Pages.{pages_for}
use Rattle.dirty_store.specs.Overlay.{Overlay, node_of, least_cut}
use Rattle.image_model.specs.Planned.{height_in}
use Rattle.place_words.specs.Different.{times, different, is_among, span}
use Rattle.place_words.specs.Rising.{Rising, AllUnder}
use Rattle.place_words.proofs.Totals.{different_part}
use Rattle.point_model.specs.Holding.{slots_left, slots_now, kind_of}
use Rattle.point_model.specs.NodePlan.{block_of_place, node_pointers, node_metas, is_kept_page, is_changed_page, PointersArePlanned, PagesArePlanned}
use Rattle.tree_plan.specs.Directories.{HoldsDirectory}
use Rattle.tree_plan.specs.Pages.{is_written, written_pages, width_with, SpellsPage, AreSpelled}
use Rattle.tree_plan.proofs.MetaLaws.{metas_directory, metas_file, times_append}
use Rattle.tree_plan.proofs.RisingLaws.{filter_among, filter_rises, span_among, span_rises}
use Rattle.tree_plan.proofs.SlotLaws.{page_is, width_is}
use Rattle.tree_plan.proofs.SpelledLaws.{pairs_of, blocks_of_pairs, changed_in, none_among, some_among, spelled_places, spelled_some, spelled_at}
use Rattle.tree_plan.proofs.TreeLaws.{AllSome, none_below, itself, pairs_some, pairs_under}

lt_true : (a b : ℕ) → nat_lt a b ≡ true → a < b
lt_true a b is = grind (arith, nat_tests)

true_lt : (a b : ℕ) → a < b → nat_lt a b ≡ true
true_lt a b lt = grind (arith, nat_tests)

-- ---- pairs with the same look-ups are the same

differ : (a b : ℕ) → a < b → (a == b) ≡ false
differ a b lt = grind (arith, nat_tests)

own : (e : ℕ × ℕ) (es : List (ℕ × ℕ)) → block_in (e ∷ es) e.0 ≡ e.1
own e es = ap (λ (t : Bool). cond t e.1 (block_in es e.0)) (itself e.0)

not_none : (e : ℕ × ℕ) (b : ℕ) → (e.1 == 0) ≡ false → e.1 ≡ b → b ≡ 0 → ⊥
not_none e b some is none = let never : true ≡ false = sym (ap (λ (k : ℕ). k == 0) (is ∙ none)) ∙ some in cc

pub pairs_same : (m : ℕ) (xs ys : List (ℕ × ℕ)) → Rising m (places_in xs) → Rising m (places_in ys) → AllUnder 1048576 (places_in xs) → AllUnder 1048576 (places_in ys) → AllSome xs → AllSome ys
    → ((p : ℕ) → p < 1048576 → block_in xs p ≡ block_in ys p) → xs ≡ ys
pairs_same m [] [] rise more under also some others same = refl
pairs_same m [] (y ∷ ys) rise more under also some others same = absurd (not_none y _ others.0 (sym (own y ys)) (sym (same y.0 also.0)))
pairs_same m (x ∷ xs) [] rise more under also some others same = absurd (not_none x _ some.0 (sym (own x xs)) (same x.0 under.0))
pairs_same m (x ∷ xs) (y ∷ ys) rise more under also some others same = by first (λ rest up. pairs_same (x.0 + 1) xs ys rise.1 up under.1 also.1 some.1 others.1 rest)
  where
    first : x.0 ≡ y.0
    first = by_order (nat_lt x.0 y.0) refl (nat_lt y.0 x.0) refl
      where
        by_order : (t : Bool) → nat_lt x.0 y.0 ≡ t → (u : Bool) → nat_lt y.0 x.0 ≡ u → x.0 ≡ y.0
        by_order true is u last =
            let up : Rising y.0 (places_in (y ∷ ys)) = ((let le : y.0 ≤ y.0 = omega arith in le), more.1) in
            absurd (not_none x _ some.0 (sym (own x xs)) (same x.0 under.0 ∙ none_below y.0 x.0 (lt_true x.0 y.0 is) (y ∷ ys) up))
        by_order false is true last =
            let up : Rising x.0 (places_in (x ∷ xs)) = ((let le : x.0 ≤ x.0 = omega arith in le), rise.1) in
            absurd (not_none y _ others.0 (sym (own y ys)) (sym (same y.0 also.0) ∙ none_below x.0 y.0 (lt_true y.0 x.0 last) (x ∷ xs) up))
        by_order false is false last = grind (arith, nat_tests)

    by : x.0 ≡ y.0 → (((p : ℕ) → p < 1048576 → block_in xs p ≡ block_in ys p) → Rising (x.0 + 1) (places_in ys) → xs ≡ ys) → x ∷ xs ≡ y ∷ ys
    by e rest =
        let block : x.1 ≡ y.1 = sym (own x xs) ∙ same x.0 under.0 ∙ ap (block_in (y ∷ ys)) e ∙ own y ys in
        let tails = rest (λ p lt. go p lt (nat_lt x.0 p) refl) (subst (λ (k : ℕ). Rising (k + 1) (places_in ys)) (sym e) more.1) in
        λ i. (e i, block i) ∷ tails i
      where
        go : (p : ℕ) → p < 1048576 → (t : Bool) → nat_lt x.0 p ≡ t → block_in xs p ≡ block_in ys p
        go p lt true is =
            let up : x.0 < p = lt_true x.0 p is in
            sym (ap (λ (t : Bool). cond t x.1 (block_in xs p)) (differ x.0 p up)) ∙ same p lt ∙ ap (λ (t : Bool). cond t y.1 (block_in ys p)) (differ y.0 p (omega (arith, up, e)))
        go p lt false is =
            let low : p < x.0 + 1 = grind (arith, nat_tests) in
            none_below (x.0 + 1) p low xs rise.1 ∙ sym (none_below (y.0 + 1) p (omega (arith, low, e)) ys more.1)

-- ---- pointers

cut_to_none : (cut p : ℕ) (old : ℕ → ℕ) → cut ≡ 0 → cut_at cut old p ≡ 0
cut_to_none cut p old none = by (nat_lt p cut) refl
  where
    by : (t : Bool) → nat_lt p cut ≡ t → cond t (old p) 0 ≡ 0
    by true is = absurd (omega (arith, lt_true p cut is, none))
    by false is = refl

some_or : (b : ℕ) (other : ℕ) → other ≡ 0 → cond (b == 0) other b ≡ b
some_or b other none = by (b == 0) refl
  where
    by : (t : Bool) → (b == 0) ≡ t → cond t other b ≡ b
    by true is = none ∙ sym (eqb-true b 0 is)
    by false is = refl

module _ (old new : List Block) (n width height ptr : ℕ) (was : Inode) (cut : ℕ) (changes : List Change) (added dropped indexes taken : List ℕ)
    (balance : (b : ℕ) → times b (node_pointers old was) + times b added ≡ times b (node_pointers new (Directory width height ptr)) + times b dropped)
    (fresh : (b : ℕ) → times b (indexes_below (blocks_in new) height ptr) ≤ times b (indexes_below (blocks_in old) (height_in was) (pointer_of was)) + times b indexes)
    (used : (b : ℕ) → times b added ≤ times b indexes + times b (change_blocks changes))
    (all : (b : ℕ) → times b taken ≡ times b (change_blocks changes) + times b indexes)
    (places : (p : ℕ) → p < 1048576 → block_of_place new (Directory width height ptr) p ≡ changed_at changes (cut_at cut (block_of_place old was)) p)
    (rising : Rising 0 (places_in (pairs_of changes))) (under : AllUnder 1048576 (places_in (pairs_of changes))) (some : AllSome (pairs_of changes)) where
  -- a number that was a file keeps nothing but index blocks
  of_file : cut ≡ 0 → (b : ℕ) → times b (pointers_below (blocks_in new) height ptr) ≤ times b (indexes_below (blocks_in old) (height_in was) (pointer_of was)) + times b taken
  of_file none b =
      omega (
        arith,
        fresh b,
        all b,
        times_append b (indexes_below (blocks_in new) height ptr) (map (λ (e : ℕ × ℕ). e.1) (pairs_below (blocks_in new) height ptr)),
        ap (λ (es : List (ℕ × ℕ)). times b (map (λ (e : ℕ × ℕ). e.1) es)) same,
        ap (times b) (blocks_of_pairs changes),
      )
    where
      same : pairs_below (blocks_in new) height ptr ≡ pairs_of changes
      same = pairs_same 0 _ _ (pairs_rise (blocks_in new) height ptr) rising (pairs_under (blocks_in new) height ptr) under (pairs_some (blocks_in new) height ptr) some
          (λ p lt. pairs_are (blocks_in new) height ptr p ∙ places p lt ∙ changed_in 0 changes (cut_at cut (block_of_place old was)) p rising some
          ∙ some_or (block_in (pairs_of changes) p) _ (cut_to_none cut p (block_of_place old was) none))

  metas_by : (x : Inode) → was ≡ x → ((kind_of x ≡ Some true) ⊎ (cut ≡ 0)) → (b : ℕ) → times b (node_metas new n (Directory width height ptr)) ≤ times b (node_metas old n x) + times b taken
  metas_by Unused is kind b =
      let none : times b (node_pointers old was) ≡ 0 = ap (λ (x : Inode). times b (node_pointers old x)) is in
      omega (arith, ap (times b) (metas_directory new n width height ptr), balance b, used b, all b, none)
  metas_by (File size h p) is (inl kind) b = absurd (never kind)
    where
      never : Some false ≡ Some true → ⊥
      never e = cc
  metas_by (File size h p) is (inr none) b =
      omega (arith, ap (times b) (metas_directory new n width height ptr), of_file none b, metas_file old n b size h p, ap (λ (x : Inode). times b (indexes_below (blocks_in old) (height_in x) (pointer_of x))) is)
  metas_by (Directory w h p) is kind b =
      let same : times b (node_pointers old was) ≡ times b (pointers_below (blocks_in old) h p) = ap (λ (x : Inode). times b (node_pointers old x)) is in
      omega (arith, ap (times b) (metas_directory new n width height ptr), ap (times b) (metas_directory old n w h p), balance b, used b, all b, same)

  pub directory_pointers : ((kind_of was ≡ Some true) ⊎ (cut ≡ 0)) → PointersArePlanned old new n was (Directory width height ptr) added dropped taken
  directory_pointers kind = record { balance = balance; metas = metas_by was refl kind }

-- an empty directory's
pub empty_directory_pointers : (old new : List Block) (n width : ℕ) (was : Inode) (dropped : List ℕ) → dropped ≡ node_pointers old was → PointersArePlanned old new n was (Directory width 0 0) [] dropped []
empty_directory_pointers old new n width was dropped is = record {
  balance = λ b. omega (arith, ap (times b) is);
  metas = λ b. omega arith;
}

-- ---- pages

-- which places are written
pub written_among : (left : List Slot) (o : Overlay) (n p : ℕ) → is_among (written_pages left o n) p ≡ (nat_lt p (pages_for (width_with left o n)) && is_written left o n p)
written_among left o n p =
    filter_among (is_written left o n) (span 0 (pages_for (width_with left o n))) p ∙ ap (λ (t : Bool). t && is_written left o n p) (span_among 0 (pages_for (width_with left o n)) p ∙ below p (pages_for (width_with left o n)))
  where
    below : (k m : ℕ) → (not (nat_lt k 0) && nat_lt k (0 + m)) ≡ nat_lt k m
    below k m = by (nat_lt k 0) refl (nat_lt k (0 + m)) refl (nat_lt k m) refl
      where
        by : (t : Bool) → nat_lt k 0 ≡ t → (u : Bool) → nat_lt k (0 + m) ≡ u → (v : Bool) → nat_lt k m ≡ v → (not t && u) ≡ v
        by true is u also v third = absurd (grind (arith, nat_tests))
        by false is true also true third = refl
        by false is false also false third = refl
        by false is true also false third = absurd (grind (arith, nat_tests))
        by false is false also true third = absurd (grind (arith, nat_tests))

pub written_rises : (left : List Slot) (o : Overlay) (n : ℕ) → Rising 0 (written_pages left o n)
written_rises left o n = filter_rises (is_written left o n) 0 (span 0 (pages_for (width_with left o n))) (span_rises 0 (pages_for (width_with left o n)))

module _ (old new : List Block) (o : Overlay) (n : ℕ) (was is : Inode) (left : List Slot) (holds : HoldsDirectory old o n was left) (few : pages_for (width_with left o n) ≤ 4096)
    (changes : List Change) (pages : List Page) (spelled : AreSpelled (SpellsPage left o n) (written_pages left o n) pages changes) (stand : Stand pages (blocks_in new))
    (places : (p : ℕ) → p < 1048576 → block_of_place new is p ≡ changed_at changes (cut_at (least_cut (node_of o n)) (block_of_place old was)) p) where
  abbrev Now : ℕ → Type 0
  Now p = p < pages_for (length (slots_now old o n))

  now_below : (p : ℕ) → Now p → p < pages_for (width_with left o n)
  now_below p lt = subst (λ (w : ℕ). p < pages_for w) (width_is old o n left holds.slots) lt

  the_places : places_in (pairs_of changes) ≡ written_pages left o n
  the_places = spelled_places (SpellsPage left o n) (written_pages left o n) pages changes spelled

  rising : Rising 0 (places_in (pairs_of changes))
  rising = subst (Rising 0) (sym the_places) (written_rises left o n)

  some : AllSome (pairs_of changes)
  some = spelled_some (SpellsPage left o n) (written_pages left o n) pages changes spelled

  block_is : (p : ℕ) → Now p → block_of_place new is p ≡ cond (block_in (pairs_of changes) p == 0) (cut_at (least_cut (node_of o n)) (block_of_place old was) p) (block_in (pairs_of changes) p)
  block_is p lt = places p (omega (arith, now_below p lt, few)) ∙ changed_in 0 changes (cut_at (least_cut (node_of o n)) (block_of_place old was)) p rising some

  -- whether it is written, by the words of the model
  written_is : (p : ℕ) → Now p → is_among (places_in (pairs_of changes)) p ≡ not (is_kept_page old o n p)
  written_is p lt =
      ap (λ (ps : List ℕ). is_among ps p) the_places ∙ written_among left o n p ∙ ap (λ (t : Bool). t && is_written left o n p) (true_lt p (pages_for (width_with left o n)) (now_below p lt))
      ∙ ap (λ (ss : List Slot). not (nat_lt p (pages_for (length ss)) && not (is_changed_page ss o n p))) holds.slots

  kept_is : (p : ℕ) → Now p → is_kept_page old o n p ≡ true → (block_of_place new is p ≡ block_of_place old was p) × (p < pages_for (length left))
  kept_is p lt kept = (block_is p lt ∙ (λ i. cond (none i == 0) (cut_at (least_cut (node_of o n)) (block_of_place old was) p) (none i)) ∙ ap (λ (t : Bool). cond t (block_of_place old was p) 0) (true_lt p (least_cut (node_of o n)) (omega (arith, before, holds.uncut))), before)
    where
      none : block_in (pairs_of changes) p ≡ 0
      none = none_among (pairs_of changes) p (written_is p lt ∙ ap not kept)

      first_of : (a b : Bool) → (a && b) ≡ true → a ≡ true
      first_of true b e = refl
      first_of false b e = cc

      before : p < pages_for (length left)
      before = subst (λ (ss : List Slot). p < pages_for (length ss)) (sym holds.slots) (lt_true p (pages_for (length (slots_left old o n))) (first_of _ _ kept))

  fresh_is : (p : ℕ) → Now p → is_kept_page old o n p ≡ false → (block_of_place new is p ≡ block_in (pairs_of changes) p) × ((block_in (pairs_of changes) p == 0) ≡ false) × (is_among (written_pages left o n) p ≡ true)
  fresh_is p lt kept = (block_is p lt ∙ ap (λ (t : Bool). cond t (cut_at (least_cut (node_of o n)) (block_of_place old was) p) (block_in (pairs_of changes) p)) there, there, ap (λ (ps : List ℕ). is_among ps p) (sym the_places) ∙ among)
    where
      among : is_among (places_in (pairs_of changes)) p ≡ true
      among = written_is p lt ∙ ap not kept

      there : (block_in (pairs_of changes) p == 0) ≡ false
      there = some_among (pairs_of changes) p some among

  pub pages_planned : PagesArePlanned old new o n was is
  pages_planned = record {
    there = λ p lt. by p lt (is_kept_page old o n p) refl;
    kept = λ p lt kept. (kept_is p lt kept).0;
    fresh = λ p lt kept. page_is old o n p left (blocks_in new (block_of_place new is p)) holds.slots
        (subst (λ (b : ℕ). SpellsPage left o n p (blocks_in new b)) (sym (fresh_is p lt kept).0)
        (spelled_at (SpellsPage left o n) (blocks_in new) 0 (written_pages left o n) pages changes p spelled stand.each (fresh_is p lt kept).2));
  }
    where
      by : (p : ℕ) → Now p → (t : Bool) → is_kept_page old o n p ≡ t → (block_of_place new is p == 0) ≡ false
      by p lt true kept = let at = kept_is p lt kept in ap (λ (b : ℕ). b == 0) at.0 ∙ holds.there p at.1
      by p lt false kept = let at = fresh_is p lt kept in ap (λ (b : ℕ). b == 0) at.0 ∙ at.1

-- ---- a directory of no slots

pub no_pages : (old new : List Block) (o : Overlay) (n : ℕ) (was is : Inode) (left : List Slot) → left ≡ slots_left old o n → width_with left o n ≡ 0 → PagesArePlanned old new o n was is
no_pages old new o n was is left slots none = record {
  there = λ p lt. absurd (never p lt);
  kept = λ p lt kept. absurd (never p lt);
  fresh = λ p lt kept. absurd (never p lt);
}
  where
    never : (p : ℕ) → p < pages_for (length (slots_now old o n)) → ⊥
    never p lt = omega (arith, lt, width_is old o n left slots, none)

-- ---- how many leaves the changes have

among_four : (ks : List ℕ) (k : ℕ) → AllUnder 4 ks → is_among ks k ≡ true → is_among (0 ∷ 1 ∷ 2 ∷ 3 ∷ []) k ≡ true
among_four [] k under among = cc
among_four (x ∷ xs) k under among = by (nat_eq x k) refl among (among_four xs k under.1)
  where
    low : (j : ℕ) → j < 4 → is_among (0 ∷ 1 ∷ 2 ∷ 3 ∷ []) j ≡ true
    low zero lt = refl
    low (suc zero) lt = refl
    low (suc (suc zero)) lt = refl
    low (suc (suc (suc zero))) lt = refl
    low (suc (suc (suc (suc j)))) lt = absurd (omega (arith, lt))

    by : (t : Bool) → nat_eq x k ≡ t → (t || is_among xs k) ≡ true → (is_among xs k ≡ true → is_among (0 ∷ 1 ∷ 2 ∷ 3 ∷ []) k ≡ true) → is_among (0 ∷ 1 ∷ 2 ∷ 3 ∷ []) k ≡ true
    by true is among more = let e : x ≡ k = grind (arith, nat_tests) in low k (omega (arith, under.0, e))
    by false is among more = more among

pub few_leaves : (changes : List Change) → AllUnder 4096 (places_in (pairs_of changes)) → different (leaves_of changes) ≤ 4
few_leaves changes under = different_part (leaves_of changes) (0 ∷ 1 ∷ 2 ∷ 3 ∷ []) (λ k among. among_four (leaves_of changes) k (leaves changes under) among)
  where
    leaves : (cs : List Change) → AllUnder 4096 (places_in (pairs_of cs)) → AllUnder 4 (leaves_of cs)
    leaves [] up = tt
    leaves (c ∷ cs) up = (omega (arith, up.0), leaves cs up.1)

-- ---- the places that are written

pub written_under : (left : List Slot) (o : Overlay) (n limit : ℕ) → pages_for (width_with left o n) ≤ limit → AllUnder limit (written_pages left o n)
written_under left o n limit le = filtered (is_written left o n) (span 0 (pages_for (width_with left o n))) (spanned 0 (pages_for (width_with left o n)) (omega (arith, le)))
  where
    spanned : (m k : ℕ) → m + k ≤ limit → AllUnder limit (span m k)
    spanned m zero le = tt
    spanned m (suc k) le = (omega (arith, le), spanned (m + 1) k (omega (arith, le)))

    filtered : (test : ℕ → Bool) (xs : List ℕ) → AllUnder limit xs → AllUnder limit (filter test xs)
    filtered test [] up = tt
    filtered test (x ∷ xs) up = by (test x) (filtered test xs up.1)
      where
        by : (t : Bool) → AllUnder limit (filter test xs) → AllUnder limit (cond t (x ∷ filter test xs) (filter test xs))
        by true more = (up.0, more)
        by false more = more

pub all_under : (limit : ℕ) (xs : List ℕ) → AllUnder limit xs → All (λ p. p < limit) xs
all_under limit [] up = All-nil (λ (p : ℕ). p < limit)
all_under limit (x ∷ xs) up = All-cons (λ (p : ℕ). p < limit) x xs up.0 (all_under limit xs up.1)

pub changes_under : (limit : ℕ) (changes : List Change) → AllUnder limit (places_in (pairs_of changes)) → All (λ (c : Change). c.place < limit) changes
changes_under limit [] up = All-nil (λ (c : Change). c.place < limit)
changes_under limit (c ∷ cs) up = All-cons (λ (c : Change). c.place < limit) c cs up.0 (changes_under limit cs up.1)
