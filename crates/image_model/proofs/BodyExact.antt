-- Where what is seen is sound, no phase before the log finds anything.
use Rattle.std.proofs.Common.{◌≡◌, ℕ, zero, suc, ◌+◌, ◌*◌, ◌<◌, ◌≤◌, Bool, true, false, not, cond, List, [], ◌∷◌, get_or, Some, None, refl, sym, ap, subst, ◌∙◌, arith, add-zero}
use Rattle.std.specs.Prelude.{◌==◌, ◌&&◌, ◌||◌, nat_eq, Option, Contains}
use Rattle.std.specs.List.{list_any}
use Rattle.std.proofs.lemmas.Bool.{eq-eqb}
use Rattle.std.proofs.lemmas.Bool.Decides.{nat_tests}
use Rattle.vol_numbers.specs.Layout.{Layout, count_blocks}
use Rattle.root_switch.specs.Current.{root_of_image}
use Rattle.block_format.specs.declared.inode.Inode.{Inode}
use Rattle.block_tree.specs.Tree.{blocks_in}
use Rattle.place_words.specs.Different.{is_among, times}
use Rattle.image_model.specs.declared.finding.Finding.{Finding}
use Rattle.image_model.specs.Exact.{NoneFoundEarly}
use Rattle.image_model.specs.Findings.{◌then◌, bad_if, is_in_area, walk_finding, mixed_finding, count_finding, body_finding}
use Rattle.image_model.specs.Met.{Met, index, page, content, past, empty, not_inode, stray, metas, files, pointers_to, is_metadata_at, is_content_at}
use Rattle.image_model.specs.Nodes.{first_node, has_tail, is_bad_directory, tree_finding}
use Rattle.image_model.specs.Seen.{Seen, seen}
use Rattle.image_model.specs.Sound.{AllGood, IsSound}
use Rattle.image_model.specs.Stands.{layout_in}
use Rattle.image_model.proofs.Area.{points-cons, split, alone, among_times}
use Rattle.image_model.proofs.NameExact.{none_lost}

then_none : (a b : Option Finding) → a ≡ None → b ≡ None → (a then b) ≡ None
then_none None b e f = f
then_none (Some x) b e f = cc

if_none : (c : Bool) (e : Finding) → c ≡ false → bad_if c e ≡ None
if_none true e is = cc
if_none false e is = refl

or_none : (a b : Bool) → a ≡ false → b ≡ false → (a || b) ≡ false
or_none true b e f = cc
or_none false b e f = f

-- ---- pointers

none_reached : (p : ℕ) (reached : List ℕ) → times p reached ≡ 0 → list_any (λ r. r == p) reached ≡ false
none_reached p [] none = refl
none_reached p (r ∷ rs) none = by (r == p) none (none_reached p rs)
  where
    by : (t : Bool) → cond t 1 0 + times p rs ≡ 0 → (times p rs ≡ 0 → list_any (λ r. r == p) rs ≡ false) → (t || list_any (λ r. r == p) rs) ≡ false
    by true none more = absurd (omega (arith, none))
    by false none more = more (omega (arith, none))

module _ (g : Layout) (whole : List Met) where
  -- what was reached and what is still met are no more than the whole
  abbrev HasRoom : List ℕ → List Met → Type 0
  HasRoom reached ms = (b : ℕ) → times b reached + pointers_to b ms ≤ pointers_to b whole

  same_pointer : (p : ℕ) → (p == p) ≡ true
  same_pointer p = eq-eqb p p refl

  meta_none : (reached : List ℕ) (p : ℕ) (m : Met) (ms : List Met) → HasRoom reached (m ∷ ms) → pointers_to p (m ∷ ms) ≡ cond (p == p) 1 0 + pointers_to p ms → is_in_area g p ≡ true → pointers_to p whole ≡ 1
      → (not (is_in_area g p) || list_any (λ r. r == p) reached) ≡ false
  meta_none reached p m ms room cons inside one =
      let weight : Bool → ℕ = λ t. cond t 1 0 in
      or_none _ _ (ap not inside) (none_reached p reached (omega (arith, room p, cons, ap weight (same_pointer p), one)))

  pub walk_none : (reached : List ℕ) (ms : List Met) → AllGood g whole ms → HasRoom reached ms → walk_finding g reached ms ≡ None
  walk_none reached [] good room = refl
  walk_none reached (index p ∷ ms) good room =
      then_none _ (walk_finding g (p ∷ reached) ms) (if_none _ _ (meta_none reached p (index p) ms room (points-cons p (index p) ms) good.0.0 good.0.1))
      (walk_none (p ∷ reached) ms good.1 (λ b. omega (arith, room b, points-cons b (index p) ms)))
  walk_none reached (page n place p ∷ ms) good room =
      then_none _ (walk_finding g (p ∷ reached) ms) (if_none _ _ (meta_none reached p (page n place p) ms room (points-cons p (page n place p) ms) good.0.0 good.0.1))
      (walk_none (p ∷ reached) ms good.1 (λ b. omega (arith, room b, points-cons b (page n place p) ms)))
  walk_none reached (content n place p ∷ ms) good room =
      then_none _ (walk_finding g reached ms) (if_none _ _ (ap not good.0)) (walk_none reached ms good.1 (λ b. omega (arith, room b, points-cons b (content n place p) ms)))
  walk_none reached (past p ∷ ms) good room = absurd good.0
  walk_none reached (empty p ∷ ms) good room = absurd good.0
  walk_none reached (not_inode n ∷ ms) good room = absurd good.0
  walk_none reached (stray n p ∷ ms) good room = absurd good.0

-- ---- blocks that are metadata and a file's

or_same : (a b c d : Bool) → (a ≡ true → c ≡ true) → (b ≡ true → d ≡ true) → (a || b) ≡ true → (c || d) ≡ true
or_same true b true d f g e = refl
or_same true b false d f g e = let bad : false ≡ true = f refl in cc
or_same false b true d f g e = refl
or_same false b false d f g e = g e

same_test : (p b : ℕ) → (p == b) ≡ true → nat_eq p b ≡ true
same_test p b is = is

any_metas : (b : ℕ) (ms : List Met) → list_any (is_metadata_at b) ms ≡ true → is_among (metas ms) b ≡ true
any_metas b [] any = cc
any_metas b (index p ∷ ms) any = or_same (p == b) _ (nat_eq p b) _ (same_test p b) (any_metas b ms) any
any_metas b (page n place p ∷ ms) any = or_same (p == b) _ (nat_eq p b) _ (same_test p b) (any_metas b ms) any
any_metas b (content n place p ∷ ms) any = any_metas b ms any
any_metas b (past p ∷ ms) any = any_metas b ms any
any_metas b (empty p ∷ ms) any = any_metas b ms any
any_metas b (not_inode n ∷ ms) any = any_metas b ms any
any_metas b (stray n p ∷ ms) any = any_metas b ms any

any_files : (b : ℕ) (ms : List Met) → list_any (is_content_at b) ms ≡ true → is_among (files ms) b ≡ true
any_files b [] any = cc
any_files b (index p ∷ ms) any = any_files b ms any
any_files b (page n place p ∷ ms) any = any_files b ms any
any_files b (content n place p ∷ ms) any = or_same (p == b) _ (nat_eq p b) _ (same_test p b) (any_files b ms) any
any_files b (past p ∷ ms) any = any_files b ms any
any_files b (empty p ∷ ms) any = any_files b ms any
any_files b (not_inode n ∷ ms) any = any_files b ms any
any_files b (stray n p ∷ ms) any = any_files b ms any

apart : (g : Layout) (met : List Met) → AllGood g met met → (b : ℕ) → (list_any (is_metadata_at b) met && list_any (is_content_at b) met) ≡ false
apart g met good b = by (list_any (is_metadata_at b) met) refl (list_any (is_content_at b) met) refl
  where
    by : (t : Bool) → list_any (is_metadata_at b) met ≡ t → (u : Bool) → list_any (is_content_at b) met ≡ u → (t && u) ≡ false
    by true is true has =
        let meta = any_metas b met is in
        absurd (omega (arith, alone g met met b good meta, split g met met b good, among_times b (metas met) meta, among_times b (files met) (any_files b met has)))
    by true is false has = refl
    by false is u has = refl

mixed_none : (met : List Met) → ((b : ℕ) → (list_any (is_metadata_at b) met && list_any (is_content_at b) met) ≡ false) → (from n : ℕ) → mixed_finding met from n ≡ None
mixed_none met all from zero = refl
mixed_none met all from (suc n) = then_none _ _ (if_none _ _ (all from)) (mixed_none met all (from + 1) n)

-- ---- nodes, counts and the reserve

nodes_none : (is_bad : ℕ × Inode → Bool) (finding : ℕ → Finding) (nodes : List (ℕ × Inode)) → ((node : ℕ × Inode) → Contains nodes node → is_bad node ≡ false) → first_node is_bad finding nodes ≡ None
nodes_none is_bad finding [] all = refl
nodes_none is_bad finding (node ∷ nodes) all =
    ap (λ (t : Bool). cond t (Some (finding node.0)) (first_node is_bad finding nodes)) (all node (0, omega arith, refl))
    ∙ nodes_none is_bad finding nodes (λ x there. all x (suc there.0, omega (arith, there.1), there.2))

counts_none : (met : List Met) (kept : List ℕ) (b n : ℕ) → ((k : ℕ) → k < n → get_or kept (b + k) 0 ≡ pointers_to (b + k) met) → count_finding met kept b n ≡ None
counts_none met kept b zero all = refl
counts_none met kept b (suc n) all =
    let here : get_or kept b 0 ≡ pointers_to b met = subst (λ (k : ℕ). get_or kept k 0 ≡ pointers_to k met) (add-zero b) (all 0 (omega arith)) in
    then_none _ _ (if_none _ _ (ap not (eq-eqb _ _ here)))
    (counts_none met kept (b + 1) n (λ k lt. let e : b + suc k ≡ (b + 1) + k = omega arith in subst (λ (j : ℕ). get_or kept j 0 ≡ pointers_to j met) e (all (suc k) (omega (arith, lt)))))

pub body_none : (g : Layout) (s : Seen) → IsSound g s → tree_finding s ≡ None → body_finding g s ≡ None
unfolding body_finding
body_none g s sound none =
    then_none _ _ (walk_none g s.met [] s.met sound.pointers (λ b. omega arith))
    (then_none _ _ (mixed_none s.met (apart g s.met sound.pointers) 0 g.blocks)
    (then_none _ _ (nodes_none (has_tail s) _ s.nodes sound.tails)
    (then_none _ _ (nodes_none (is_bad_directory s) _ s.nodes sound.directories)
    (then_none _ _ none
    (then_none _ _ (counts_none s.met s.kept 0 (1024 * count_blocks g) (λ k lt. let e : 0 + k ≡ k = omega arith in subst (λ (j : ℕ). get_or s.kept j 0 ≡ pointers_to j s.met) (sym e) (sound.counts k lt)))
    (if_none _ _ (let room = sound.reserve in grind (arith, nat_tests))))))))

pub none_found_early : NoneFoundEarly
unfolding seen
none_found_early image sound =
    body_none (layout_in image) (seen image) sound
    (none_lost (blocks_in image) (root_of_image image).inode_index (root_of_image image).homes (count_blocks (layout_in image)) (layout_in image) sound)
