-- Staging the effect of an accepted command.
use Rattle.std.proofs.Common.{◌≡◌, ℕ, ◌≤◌, Bool, true, false, not, cond, List, [], ◌∷◌, map, filter, Some, None, inl, inr, refl, sym, ap, subst, ◌∙◌, arith}
use Rattle.std.specs.Prelude.{◌&&◌, ◌||◌, ◌⊎◌, nat_eq, nat_le, min, Option, option_map, is_some}
use Rattle.std.specs.FinMap.{find}
use Rattle.std.proofs.lemmas.Bool.{eqb-true}
use Rattle.std.proofs.lemmas.Bool.Decides.{nat_tests}
use Rattle.vol_numbers.specs.declared.block.Block.{Block}
use Rattle.dir_slots.specs.Slots.{number_in}
use Rattle.dirty_store.specs.Entries.{Entries, cut_at}
use Rattle.dirty_store.specs.Laws.{touched_with, first_of_two, dirty_spots}
use Rattle.dirty_store.specs.Overlay.{Overlay, IsEffect, cut_of, staged, node_of, least_cut, lower_cut}
use Rattle.dirty_store.specs.declared.effect.Effect.{Effect}
use Rattle.dirty_store.specs.declared.effect.Touched.{Touched}
use Rattle.dirty_store.specs.declared.node_change.NodeChange.{NodeChange}
use Rattle.dirty_store.proofs.MachineLaws.{dirty_after_all}
use Rattle.dirty_store.proofs.OrderLaws.{staged_in_order}
use Rattle.dirty_store.proofs.SlotLaws.{own_node, other_node}
use Rattle.dirty_store.proofs.StagedLaws.{touched_is, cut_is, other_is}
use Rattle.node_table.specs.Held.{Nodes, held, info, slots_of}
use Rattle.node_table.specs.declared.held.HeldNode.{HeldNode}
use Rattle.point_model.specs.Holding.{HoldsMachine, HoldsNumbers, inode_before, inode_now, node_now, staged_or, is_changed, kind_of}
use Rattle.point_model.specs.NodeChanges.{IsTableOf}
use Rattle.point_model.specs.Staging.{IsEffectOn, StagesChange, StagingHolds, TableHoldsTree}
use Rattle.point_model.proofs.ChangeFollows.{ChangeFollows, change_follows}
use Rattle.point_model.proofs.StagedNodes.{table_after, kind_after, directory_cut}
use Rattle.state_laws.specs.Accepted.{IsAccepted}
use Rattle.state_laws.specs.Files.{PlacesFollow}
use Rattle.state_laws.specs.States.{IsCoherent, is_held}
use Rattle.state_laws.proofs.Changes.{changes_follow}
use Rattle.state_laws.proofs.HeldBytes.{found_spot}
use Rattle.tree_model.specs.declared.command.Command.{Command}
use Rattle.tree_model.specs.Step.{step}
use Rattle.tree_model.specs.Tree.{Tree}
use Rattle.tree_model.specs.Touched.{touched}
use Rattle.volume_model.specs.Done.{is_cut, cut_by, done}
use Rattle.volume_model.specs.Machine.{Machine, Rules, block_at}
use Rattle.volume_model.specs.Places.{Spot, Places, spot_cmp, spot_eq, has_spot, spots_of}
use Rattle.volume_model.proofs.PlacesTold.{tie_is, same_by_cmp}
use Rattle.std.specs.Ordering.{eq_by_cmp}

-- ---- look-ups

has_is : {T : Type 0} → (es : Entries T) (spot : Spot) → has_spot (map (λ e. e.0) es) spot ≡ is_some (find spot_cmp spot es)
has_is [] spot = refl
has_is (e ∷ es) spot = by (spot_eq e.0 spot) (has_is es spot) ∙ sym (ap (λ (t : Bool). is_some (cond t (Some e.1) (find spot_cmp spot es))) (tie_is spot e.0))
  where
    by : (t : Bool) → has_spot (map (λ e. e.0) es) spot ≡ is_some (find spot_cmp spot es) → (t || has_spot (map (λ e. e.0) es) spot) ≡ is_some (cond t (Some e.1) (find spot_cmp spot es))
    by true more = refl
    by false more = more

find_left : (test : Spot → Bool) (es : Places) (spot : Spot) → find spot_cmp spot (filter (λ (e : Spot × ℕ). test e.0) es) ≡ cond (test spot) (find spot_cmp spot es) None
find_left test [] spot = neither (test spot) None
  where
    neither : (t : Bool) (d : Option ℕ) → d ≡ cond t d d
    neither true d = refl
    neither false d = refl
find_left test (e ∷ es) spot = by (test e.0) refl (eq_by_cmp spot_cmp spot e.0) refl (find_left test es spot)
  where
    by : (t : Bool) → test e.0 ≡ t → (u : Bool) → eq_by_cmp spot_cmp spot e.0 ≡ u → find spot_cmp spot (filter (λ (e : Spot × ℕ). test e.0) es) ≡ cond (test spot) (find spot_cmp spot es) None
        → find spot_cmp spot (cond t (e ∷ filter (λ (e : Spot × ℕ). test e.0) es) (filter (λ (e : Spot × ℕ). test e.0) es)) ≡ cond (test spot) (cond u (Some e.1) (find spot_cmp spot es)) None
    by true is true here more =
        let own : test spot ≡ true = ap test (same_by_cmp spot e.0 here) ∙ is in
        ap (λ (t : Bool). cond t (Some e.1) (find spot_cmp spot (filter (λ (e : Spot × ℕ). test e.0) es))) here ∙ sym (ap (λ (t : Bool). cond t (Some e.1) None) own)
    by true is false here more = ap (λ (t : Bool). cond t (Some e.1) (find spot_cmp spot (filter (λ (e : Spot × ℕ). test e.0) es))) here ∙ more
    by false is true here more =
        let own : test spot ≡ false = ap test (same_by_cmp spot e.0 here) ∙ is in
        more ∙ ap (λ (t : Bool). cond t (find spot_cmp spot es) None) own ∙ sym (ap (λ (t : Bool). cond t (Some e.1) None) own)
    by false is false here more = more

-- a place that isn't touched is none of the touched spots
untouched : (ts : List Touched) (number : ℕ) (spot : Spot) → (spot.0 ≡ number → touched_with ts spot.1 ≡ None) → has_spot (map (λ t. (number, t.place)) ts) spot ≡ false
untouched [] number spot none = refl
untouched (t ∷ ts) number spot none = by (nat_eq number spot.0) refl (nat_eq t.place spot.1) refl (untouched ts number spot (λ same. first_none _ _ (none same)))
  where
    first_none : (a b : Option Block) → first_of_two a b ≡ None → a ≡ None
    first_none None b e = refl
    first_none (Some x) b e = cc

    second_none : (a b : Option Block) → first_of_two a b ≡ None → b ≡ None
    second_none None b e = e
    second_none (Some x) b e = cc

    by : (a : Bool) → nat_eq number spot.0 ≡ a → (b : Bool) → nat_eq t.place spot.1 ≡ b → has_spot (map (λ t. (number, t.place)) ts) spot ≡ false → ((a && b) || has_spot (map (λ t. (number, t.place)) ts) spot) ≡ false
    by true is true here more =
        let e : number ≡ spot.0 = eqb-true number spot.0 is in
        let never = second_none (touched_with ts spot.1) (cond (nat_eq t.place spot.1) (Some t.block) None) (none (sym e)) in
        let other : Some t.block ≡ None = sym (ap (λ (u : Bool). cond u (Some t.block) None) here) ∙ never in cc
    by true is false here more = more
    by false is b here more = more

-- a spot that is cut off is of the node, from the cut on
cut_parts : (number : ℕ) (to : Option ℕ) (spot : Spot) → is_cut (cut_at number to) spot ≡ true → (spot.0 ≡ number) × (blocks : ℕ) × (to ≡ Some blocks) × (blocks ≤ spot.1)
cut_parts number None spot is = cc
cut_parts number (Some blocks) spot is = (eqb-true spot.0 number (first_true _ _ is), blocks, refl, le_true blocks spot.1 (second_true (nat_eq spot.0 number) _ is))
  where
    first_true : (a b : Bool) → (a && b) ≡ true → a ≡ true
    first_true true b e = refl
    first_true false b e = cc

    second_true : (a b : Bool) → (a && b) ≡ true → b ≡ true
    second_true true b e = e
    second_true false b e = cc

    le_true : (a b : ℕ) → nat_le a b ≡ true → a ≤ b
    le_true a b e = grind (arith, nat_tests)

-- ---- the least cut

lower_is : (was : Option NodeChange) (to : Option ℕ) (number p : ℕ) → nat_le (lower_cut was to) p ≡ (is_cut (cut_at number to) (number, p) || nat_le (least_cut was) p)
lower_is was None number p = refl
lower_is was (Some blocks) number p = least (least_cut was) blocks p ∙ ap (λ (t : Bool). (t && nat_le blocks p) || nat_le (least_cut was) p) (sym (itself number))
  where
    itself : (k : ℕ) → nat_eq k k ≡ true
    itself k = grind (arith, nat_tests)

    least : (a b p : ℕ) → nat_le (min a b) p ≡ (nat_le b p || nat_le a p)
    least a b p = by (nat_le b p) refl (nat_le a p) refl (nat_le (min a b) p) refl
      where
        by : (t : Bool) → nat_le b p ≡ t → (u : Bool) → nat_le a p ≡ u → (v : Bool) → nat_le (min a b) p ≡ v → nat_le (min a b) p ≡ (t || u)
        by true first u second v third = grind (arith, nat_tests)
        by false first true second v third = grind (arith, nat_tests)
        by false first false second v third = grind (arith, nat_tests)

cut_now : (o : Overlay) (e : Effect) (spot : Spot) → nat_le (least_cut (node_of (staged o e) spot.0)) spot.1 ≡ (is_cut (cut_of e) spot || nat_le (least_cut (node_of o spot.0)) spot.1)
cut_now o e spot = by (nat_eq spot.0 e.number) refl
  where
    elsewhere : (to : Option ℕ) → nat_eq spot.0 e.number ≡ false → is_cut (cut_at e.number to) spot ≡ false
    elsewhere None is = refl
    elsewhere (Some blocks) is = ap (λ (t : Bool). t && nat_le blocks spot.1) is

    by : (t : Bool) → nat_eq spot.0 e.number ≡ t → nat_le (least_cut (node_of (staged o e) spot.0)) spot.1 ≡ (is_cut (cut_of e) spot || nat_le (least_cut (node_of o spot.0)) spot.1)
    by true is =
        let same : spot.0 ≡ e.number = eqb-true spot.0 e.number is in
        (λ i. nat_le (least_cut (node_of (staged o e) (same i))) spot.1) ∙ ap (λ c. nat_le (least_cut c) spot.1) (own_node o e) ∙ lower_is (node_of o e.number) e.cut_to e.number spot.1
        ∙ (λ i. is_cut (cut_of e) (sym same i, spot.1) || nat_le (least_cut (node_of o (sym same i))) spot.1)
    by false is = ap (λ c. nat_le (least_cut c) spot.1) (other_node o e spot.0 is) ∙ sym (ap (λ (t : Bool). t || nat_le (least_cut (node_of o spot.0)) spot.1) (elsewhere e.cut_to is))

-- what becomes of a place
data Becomes (o : Overlay) (e : Effect) (spot : Spot) : Type 0 where
  is_touched : (block : Block) → spot.0 ≡ e.number → touched_with e.touched spot.1 ≡ Some block → find spot_cmp spot (staged o e).blocks ≡ Some block → Becomes o e spot
  is_gone : is_cut (cut_of e) spot ≡ true → find spot_cmp spot (staged o e).blocks ≡ None → Becomes o e spot
  is_same : is_cut (cut_of e) spot ≡ false → has_spot (map (λ t. (e.number, t.place)) e.touched) spot ≡ false → find spot_cmp spot (staged o e).blocks ≡ find spot_cmp spot o.blocks → Becomes o e spot

becomes : (o : Overlay) (e : Effect) (spot : Spot) → Becomes o e spot
becomes o e spot = by (nat_eq spot.0 e.number) refl (touched_with e.touched spot.1) refl
  where
    rest : (spot.0 ≡ e.number → touched_with e.touched spot.1 ≡ None) → (t : Bool) → is_cut (cut_of e) spot ≡ t → Becomes o e spot
    rest none false is = is_same is (untouched e.touched e.number spot none) (other_is o e spot is none)
    rest none true is =
        let parts = cut_parts e.number e.cut_to spot is in
        let gone = cut_is o e spot.1 parts.1 parts.2 parts.3 (none parts.0) in
        is_gone is ((λ i. find spot_cmp (parts.0 i, spot.1) (staged o e).blocks) ∙ gone)

    by : (t : Bool) → nat_eq spot.0 e.number ≡ t → (b : Option Block) → touched_with e.touched spot.1 ≡ b → Becomes o e spot
    by true is (Some block) with_block =
        let same : spot.0 ≡ e.number = eqb-true spot.0 e.number is in
        is_touched block same with_block ((λ i. find spot_cmp (same i, spot.1) (staged o e).blocks) ∙ touched_is o e spot.1 block with_block)
    by true is None without = rest (λ same. without) (is_cut (cut_of e) spot) refl
    by false is b with_block = rest (λ same. absurd (apart spot.0 e.number same is)) (is_cut (cut_of e) spot) refl
      where
        apart : (a b : ℕ) → a ≡ b → nat_eq a b ≡ false → ⊥
        apart a b e is = grind (arith, nat_tests)

-- nodes that are the same number by number hold the same tree
table_holds : (before after : ℕ → Option HeldNode) (tree : Tree) → ((n : ℕ) → before n ≡ after n) → HoldsNumbers before tree → HoldsNumbers after tree
table_holds before after tree same holds = record {
  each = λ path at there. sym (ap (option_map info) (same at.number)) ∙ holds.each path at there;
  slots = λ path at name there. sym (ap (λ h. number_in (slots_of h) name) (same at.number)) ∙ holds.slots path at name there;
  others = λ n is. holds.others n (ap is_some (same n) ∙ is);
  directories = λ n slots is. holds.directories n slots (same n ∙ is);
}

pub table_holds_tree : TableHoldsTree
table_holds_tree old o m nodes holds table =
    let h = table_holds (node_now old o) (held nodes) m.tree (λ n. sym (table n)) holds.nodes in
    (record { each = h.each; slots = h.slots; others = h.others }, h.directories)

module _ (r : Rules) (old : List Block) (o : Overlay) (m : Machine) (command : Command) (before after : Nodes) (e : Effect) (coherent : IsCoherent r m) (accepted : IsAccepted m.tree command) (fits : IsEffect e)
    (holds : HoldsMachine old o m) (does : IsEffectOn m command e) (stages : StagesChange old o m.tree command before after e) where
  follows : ChangeFollows stages.change before after
  follows = change_follows before after command stages.change stages.does

  follow : PlacesFollow m.tree (step m.tree command).1 (is_cut (cut_by m.tree command)) (has_spot (touched m.tree command))
  follow = changes_follow m.tree command coherent.tree accepted

  later : (a b : Bool) → b ≡ true → (a || b) ≡ true
  later true b e = refl
  later false b e = e

  dirty_held : (spot : Spot) → has_spot m.dirty spot ≡ true → is_held m spot ≡ true
  dirty_held spot is = later (has_spot (spots_of m.kept) spot) _ is

  dirty_after : dirty_spots (staged o e) ≡ (done m command).dirty
  dirty_after = dirty_after_all m (command ∷ []) (e ∷ []) o holds.dirty (record { touches = does.touches; cuts = λ spot is. does.cuts spot (dirty_held spot is) }, refl)

  is_dirty : (spot : Spot) → has_spot m.dirty spot ≡ is_some (find spot_cmp spot o.blocks)
  is_dirty spot = ap (λ (ss : List Spot). has_spot ss spot) (sym holds.dirty) ∙ has_is o.blocks spot

  is_dirty_after : (spot : Spot) → has_spot (done m command).dirty spot ≡ is_some (find spot_cmp spot (staged o e).blocks)
  is_dirty_after spot = ap (λ (ss : List Spot). has_spot ss spot) (sym dirty_after) ∙ has_is (staged o e).blocks spot

  bytes_after : (spot : Spot) (block : Block) → find spot_cmp spot (staged o e).blocks ≡ Some block → block.bytes ≡ block_at (step m.tree command).1 spot
  bytes_after spot block found = by (becomes o e spot)
    where
      same_block : (x y : Block) → Some x ≡ Some y → x ≡ y
      same_block x y e = cc

      by : Becomes o e spot → block.bytes ≡ block_at (step m.tree command).1 spot
      by (is_touched b same with_block now) =
          let one : block ≡ b = same_block block b (sym found ∙ now) in
          ap (λ (x : Block). x.bytes) one ∙ does.bytes spot.1 b with_block ∙ (λ i. block_at (step m.tree command).1 (sym same i, spot.1))
      by (is_gone is none) = let never : Some block ≡ None = sym found ∙ none in cc
      by (is_same is out same) =
          let was = sym same ∙ found in
          let held = dirty_held spot (is_dirty spot ∙ ap is_some was) in
          holds.bytes spot block was ∙ sym (follow.same spot (sym (does.cuts spot held) ∙ is) (ap (λ (ss : List Spot). has_spot ss spot) (sym does.touches) ∙ out))

  abbrev stays : Spot → Bool
  stays spot = not (is_cut (cut_by m.tree command) spot) && not (has_spot (touched m.tree command) spot)

  kept_after : (spot : Spot) → find spot_cmp spot (done m command).kept ≡ cond (is_changed (staged o e) (done m command).dirty spot) None (find spot_cmp spot m.stored_places)
  kept_after spot = find_left stays m.kept spot ∙ by (becomes o e spot)
    where
      S : Option ℕ
      S = find spot_cmp spot m.stored_places

      now : cond (is_some (find spot_cmp spot (staged o e).blocks) || (is_cut (cut_of e) spot || nat_le (least_cut (node_of o spot.0)) spot.1)) None S ≡ cond (is_changed (staged o e) (done m command).dirty spot) None S
      now = λ i. cond (sym (is_dirty_after spot) i || sym (cut_now o e spot) i) None S

      gone : (t : Bool) (k : Option ℕ) → (k ≡ None) ⊎ (t ≡ false) → cond t k None ≡ None
      gone true k (inl is) = is
      gone true k (inr never) = cc
      gone false k either = refl

      kept_held : (b : ℕ) → find spot_cmp spot m.kept ≡ Some b → is_held m spot ≡ true
      kept_held b found = ap (λ (t : Bool). t || has_spot m.dirty spot) (found_spot m.kept spot b found)

      by : Becomes o e spot → cond (stays spot) (find spot_cmp spot m.kept) None ≡ cond (is_changed (staged o e) (done m command).dirty spot) None S
      by (is_touched b same with_block found) = touched_case (find spot_cmp spot (staged o e).blocks) found (has_spot (touched m.tree command) spot) refl
        where
          touched_case : (f : Option Block) → find spot_cmp spot (staged o e).blocks ≡ Some b → (t : Bool) → has_spot (touched m.tree command) spot ≡ t → cond (stays spot) (find spot_cmp spot m.kept) None ≡ cond (is_changed (staged o e) (done m command).dirty spot) None S
          touched_case f found true is = ap (λ (t : Bool). cond (not (is_cut (cut_by m.tree command) spot) && not t) (find spot_cmp spot m.kept) None) is ∙ none_left (is_cut (cut_by m.tree command) spot) ∙ (λ i. cond (is_some (sym found i) || (is_cut (cut_of e) spot || nat_le (least_cut (node_of o spot.0)) spot.1)) None S) ∙ now
            where
              none_left : (c : Bool) → cond (not c && false) (find spot_cmp spot m.kept) None ≡ None
              none_left true = refl
              none_left false = refl
          touched_case f found false is = absurd (not_both e.touched e.number same with_block (ap (λ (ss : List Spot). has_spot ss spot) does.touches ∙ is))
            where
              not_both : (ts : List Touched) (number : ℕ) → spot.0 ≡ number → touched_with ts spot.1 ≡ Some b → has_spot (map (λ t. (number, t.place)) ts) spot ≡ false → ⊥
              not_both [] number same is out = cc
              not_both (t ∷ ts) number same is out = step (nat_eq t.place spot.1) refl (touched_with ts spot.1) refl is (own (nat_eq number spot.0) _ _ (equal number spot.0 (sym same)) out) (λ is. not_both ts number same is (last_false _ _ out))
                where
                  equal : (a b : ℕ) → a ≡ b → nat_eq a b ≡ true
                  equal a b e = grind (arith, nat_tests)

                  last_false : (a b : Bool) → (a || b) ≡ false → b ≡ false
                  last_false true b e = cc
                  last_false false b e = e

                  own : (a b c : Bool) → a ≡ true → ((a && b) || c) ≡ false → b ≡ false
                  own true true c e f = cc
                  own true false c e f = refl
                  own false b c e f = cc

                  step : (u : Bool) → nat_eq t.place spot.1 ≡ u → (w : Option Block) → touched_with ts spot.1 ≡ w → first_of_two (touched_with ts spot.1) (cond (nat_eq t.place spot.1) (Some t.block) None) ≡ Some b → nat_eq t.place spot.1 ≡ false → (touched_with ts spot.1 ≡ Some b → ⊥) → ⊥
                  step u place (Some x) rest is out more = more (rest ∙ sym (ap (λ w. first_of_two w (cond (nat_eq t.place spot.1) (Some t.block) None)) rest) ∙ is)
                  step u place None rest is out more =
                      let never : None ≡ Some b = sym (ap (λ (v : Bool). cond v (Some t.block) None) out) ∙ sym (ap (λ w. first_of_two w (cond (nat_eq t.place spot.1) (Some t.block) None)) rest) ∙ is in cc
      by (is_gone is none) = gone (stays spot) (find spot_cmp spot m.kept) (either (find spot_cmp spot m.kept) refl) ∙ (λ i. cond (is_some (sym none i) || (sym is i || nat_le (least_cut (node_of o spot.0)) spot.1)) None S) ∙ now
        where
          either : (k : Option ℕ) → find spot_cmp spot m.kept ≡ k → (find spot_cmp spot m.kept ≡ None) ⊎ (stays spot ≡ false)
          either None found = inl found
          either (Some b) found = inr (ap (λ (t : Bool). not t && not (has_spot (touched m.tree command) spot)) (sym (does.cuts spot (kept_held b found)) ∙ is))
      by (is_same is out same) = left (find spot_cmp spot m.kept) refl ∙ holds.kept spot ∙ (λ i. cond ((is_dirty spot ∙ ap is_some (sym same)) i || (sym is i || nat_le (least_cut (node_of o spot.0)) spot.1)) None S) ∙ now
        where
          left : (k : Option ℕ) → find spot_cmp spot m.kept ≡ k → cond (stays spot) (find spot_cmp spot m.kept) None ≡ find spot_cmp spot m.kept
          left None found = gone (stays spot) (find spot_cmp spot m.kept) (inl found) ∙ sym found
          left (Some b) found = λ i. cond (not ((sym (does.cuts spot (kept_held b found)) ∙ is) i) && not ((ap (λ (ss : List Spot). has_spot ss spot) (sym does.touches) ∙ out) i)) (find spot_cmp spot m.kept) None

  renewed_after : (n : ℕ) → (kind_of (inode_now old (staged o e) n) ≡ kind_of (inode_before old n)) ⊎ (least_cut (node_of (staged o e) n) ≡ 0)
  renewed_after n = by (nat_eq n e.number) refl (holds.renewed n)
    where
      zero_lower : (was : Option NodeChange) (to : Option ℕ) → least_cut was ≡ 0 → lower_cut was to ≡ 0
      zero_lower was None is = is
      zero_lower was (Some blocks) is = least (least_cut was) blocks is
        where
          least : (a b : ℕ) → a ≡ 0 → min a b ≡ 0
          least a b e = omega (arith, e)

      cut_zero : (was : Option NodeChange) → lower_cut was (Some 0) ≡ 0
      cut_zero was = least (least_cut was)
        where
          least : (a : ℕ) → min a 0 ≡ 0
          least a = omega arith

      own : n ≡ e.number → (kind_of (inode_now old o n) ≡ kind_of (inode_before old n)) ⊎ (least_cut (node_of o n) ≡ 0) → (kind_of e.inode ≡ kind_of (inode_now old o e.number)) ⊎ (e.cut_to ≡ Some 0)
          → (kind_of e.inode ≡ kind_of (inode_before old n)) ⊎ (lower_cut (node_of o e.number) e.cut_to ≡ 0)
      own same (inl was) (inl now) = inl (now ∙ (λ i. kind_of (inode_now old o (sym same i))) ∙ was)
      own same (inr was) (inl now) = inr (zero_lower (node_of o e.number) e.cut_to ((λ i. least_cut (node_of o (sym same i))) ∙ was))
      own same before (inr cut) = inr (ap (lower_cut (node_of o e.number)) cut ∙ cut_zero (node_of o e.number))

      by : (t : Bool) → nat_eq n e.number ≡ t → (kind_of (inode_now old o n) ≡ kind_of (inode_before old n)) ⊎ (least_cut (node_of o n) ≡ 0) → (kind_of (inode_now old (staged o e) n) ≡ kind_of (inode_before old n)) ⊎ (least_cut (node_of (staged o e) n) ≡ 0)
      by false is was = subst (λ c. (kind_of (staged_or c (inode_before old n)) ≡ kind_of (inode_before old n)) ⊎ (least_cut c ≡ 0)) (sym (other_node o e n is)) was
      by true is was =
          let same : n ≡ e.number = eqb-true n e.number is in
          let here : node_of (staged o e) n ≡ Some (record { inode = e.inode; cut_to = lower_cut (node_of o e.number) e.cut_to }) = (λ i. node_of (staged o e) (same i)) ∙ own_node o e in
          subst (λ c. (kind_of (staged_or c (inode_before old n)) ≡ kind_of (inode_before old n)) ⊎ (least_cut c ≡ 0)) (sym here) (own same was (kind_after old o before after stages.change e stages.table follows stages.effect))

  cuts_after : (n : ℕ) → kind_of (inode_now old (staged o e) n) ≡ Some true → (least_cut (node_of (staged o e) n) ≡ 0) ⊎ (least_cut (node_of (staged o e) n) ≡ 1048576)
  cuts_after n = by (nat_eq n e.number) refl (holds.cuts n)
    where
      cut_zero : (a : ℕ) → min a 0 ≡ 0
      cut_zero a = omega arith

      own : n ≡ e.number → (kind_of (inode_now old o n) ≡ Some true → (least_cut (node_of o n) ≡ 0) ⊎ (least_cut (node_of o n) ≡ 1048576)) → (e.cut_to ≡ Some 0) ⊎ ((e.cut_to ≡ None) × (kind_of (inode_now old o e.number) ≡ Some true))
          → (lower_cut (node_of o e.number) e.cut_to ≡ 0) ⊎ (lower_cut (node_of o e.number) e.cut_to ≡ 1048576)
      own same was (inl cut) = inl (ap (lower_cut (node_of o e.number)) cut ∙ cut_zero (least_cut (node_of o e.number)))
      own same was (inr kept) =
          subst (λ c. (lower_cut (node_of o e.number) c ≡ 0) ⊎ (lower_cut (node_of o e.number) c ≡ 1048576)) (sym kept.0)
          (subst (λ (k : ℕ). (least_cut (node_of o k) ≡ 0) ⊎ (least_cut (node_of o k) ≡ 1048576)) same (was ((λ i. kind_of (inode_now old o (same i))) ∙ kept.1)))

      by : (t : Bool) → nat_eq n e.number ≡ t → (kind_of (inode_now old o n) ≡ Some true → (least_cut (node_of o n) ≡ 0) ⊎ (least_cut (node_of o n) ≡ 1048576))
          → kind_of (inode_now old (staged o e) n) ≡ Some true → (least_cut (node_of (staged o e) n) ≡ 0) ⊎ (least_cut (node_of (staged o e) n) ≡ 1048576)
      by false is was = subst (λ c. kind_of (staged_or c (inode_before old n)) ≡ Some true → (least_cut c ≡ 0) ⊎ (least_cut c ≡ 1048576)) (sym (other_node o e n is)) was
      by true is was =
          let same : n ≡ e.number = eqb-true n e.number is in
          let here : node_of (staged o e) n ≡ Some (record { inode = e.inode; cut_to = lower_cut (node_of o e.number) e.cut_to }) = (λ i. node_of (staged o e) (same i)) ∙ own_node o e in
          subst (λ c. kind_of (staged_or c (inode_before old n)) ≡ Some true → (least_cut c ≡ 0) ⊎ (least_cut c ≡ 1048576)) (sym here)
          (λ directory. own same was (directory_cut old o before after stages.change e stages.table follows stages.effect directory))

  table : IsTableOf old (staged o e) after
  table = table_after old o before after stages.change e stages.table follows stages.effect

  nodes_after : HoldsNumbers (node_now old (staged o e)) (step m.tree command).1
  nodes_after = table_holds (held after) (node_now old (staged o e)) (step m.tree command).1 table (record {
    each = stages.holds.each;
    slots = stages.holds.slots;
    others = stages.holds.others;
    directories = stages.directories;
  })

  holds_after : HoldsMachine old (staged o e) (done m command)
  holds_after = record {
    in_order = staged_in_order o e holds.in_order fits;
    dirty = dirty_after;
    bytes = bytes_after;
    kept = kept_after;
    nodes = nodes_after;
    renewed = renewed_after;
    cuts = cuts_after;
  }

pub staging_holds : StagingHolds
staging_holds r old o m command before after e coherent accepted fits holds does stages =
    (holds_after r old o m command before after e coherent accepted fits holds does stages, table r old o m command before after e coherent accepted fits holds does stages)
