-- What the images stand for while a plan is written and its root is switched to.
use Rattle.std.proofs.Common.{◌≡◌, ◌∙◌, ◌⊎◌, ⊎_elim, inl, inr, ◌+◌, ◌-◌, ◌*◌, ◌<◌, ◌≤◌, ℕ, zero, suc, Bool, true, false, List, length, get_or, Option, refl, sym, ap, subst, arith}
use Rattle.std.specs.Prelude.{◌%◌, slice_get, slice_index, option_map, unwrap_or, replicate, All}
use Rattle.std.proofs.lemmas.Bool.Decides.{nat_tests}
use Rattle.std.proofs.lemmas.List.{length-replicate}
use Rattle.vol_numbers.specs.Block.{zero_block}
use Rattle.vol_numbers.specs.Geometry.{layout_of}
use Rattle.vol_numbers.specs.Layout.{Layout, area_start, count_blocks}
use Rattle.vol_numbers.specs.declared.block.Block.{Block}
use Rattle.disk_model.specs.Disk.{State, IsImage, EachImage, is_among}
use Rattle.block_format.specs.Homes.{home_bit}
use Rattle.block_format.specs.Root.{Root, root_of, root_in, root_bytes, HasGeometry}
use Rattle.block_format.specs.Words.{words}
use Rattle.block_format.specs.declared.homes.HomeBits.{HomeBits}
use Rattle.block_format.specs.declared.root.RootBody.{RootBody}
use Rattle.block_tree.specs.Notes.{page_blocks}
use Rattle.block_tree.specs.Tree.{Blocks, blocks_in}
use Rattle.count_pairs.specs.Homes.{home_of}
use Rattle.count_pairs.specs.Table.{Table, AllStand, IsKept, count_block, is_touched}
use Rattle.count_pairs.specs.Writing.{ChangesOnly, IsWritten}
use Rattle.count_pairs.proofs.BitLaws.{bit_small}
use Rattle.count_pairs.proofs.ChangeLaws.{bytes_kept, changes_then}
use Rattle.count_pairs.proofs.CountLaws.{touched_within}
use Rattle.image_model.specs.Findings.{is_in_area}
use Rattle.image_model.specs.Live.{IsLive, KeepsLive}
use Rattle.image_model.specs.Stands.{layout_in}
use Rattle.image_model.proofs.ImageLaws.{kept_stands}
use Rattle.image_model.proofs.Kept.{bytes_same}
use Rattle.image_model.proofs.LiveLaws.{not_live}
use Rattle.point_plan.specs.Carries.{Carries, LineStands}
use Rattle.point_plan.specs.Planning.{blocks_written}
use Rattle.point_plan.specs.declared.planned.Plan.{Plan}
use Rattle.point_plan.specs.declared.planned_node.PlannedNode.{PlannedNode}
use Rattle.point_plan.specs.declared.state.PointState.{PointState}
use Rattle.root_switch.specs.Current.{root_of_image}
use Rattle.root_switch.specs.Switch.{IsCurrent, HasOldRoot, HasNewRoot, OldOrNew, IsSwitched}
use Rattle.root_switch.proofs.SwitchLemmas.{same_root}
use Rattle.tree_model.specs.declared.report.Line.{Line}
use Rattle.volume_model.specs.Lines.{fresh_only, line_places}
use Rattle.volume_model.specs.Machine.{Machine, Rules, stored}
use Rattle.volume_model.specs.Places.{blocks_of}
use Rattle.consistency_point.specs.Taking.{StandsBetween}
use Rattle.consistency_point.specs.Writing.{HasSwitched, IsOfPoint, IsOneOf, IsToBeWritten, PlanStands}
use Rattle.consistency_point.proofs.ListLaws.{among_part}
use Rattle.consistency_point.proofs.PageLaws.{among_at}
use Rattle.consistency_point.proofs.StandLaws.{line_among, of_inodes, of_line, of_node, weaker}

in_area : (g : Layout) (b : ℕ) → is_in_area g b ≡ true → area_start g ≤ b
in_area g b is = grind (arith, nat_tests)

not_touched : (n i : ℕ) → is_touched (replicate n false) i ≡ false
not_touched zero i = refl
not_touched (suc n) zero = refl
not_touched (suc n) (suc i) = not_touched n i

lt_or_le : (a c : ℕ) → (a < c) ⊎ (c ≤ a)
lt_or_le a c = grind arith

-- the root of a plan with the bits of the written counts is within the rules of a root
pub grammar_with : (b : RootBody) (h : HomeBits) (homes : List ℕ) (n : ℕ) → HasGeometry (root_of b) → b.homes.bytes ≡ homes → n ≡ count_blocks (layout_of b.geometry)
    → ((i : ℕ) → n ≤ i → home_bit homes i ≡ 0 → home_bit h.bytes i ≡ 0) → HasGeometry (root_of (record b { homes = h }))
grammar_with b h homes n grammar same many clear = record {
  valid = grammar.valid;
  records_fit = grammar.records_fit;
  log_fits = grammar.log_fits;
  homes_fit = λ i lt le. clear i (omega (arith, le, many)) (ap (λ (hs : List ℕ). home_bit hs i) (sym same) ∙ grammar.homes_fit i lt le);
}

module _ (r : Rules) (m : Machine) (s : State) (state : PointState) (plan : Plan) (w : IsToBeWritten r m s state plan) where
  abbrev old : List Block
  old = s.contents

  abbrev homes : List ℕ
  homes = state.current.body.homes.bytes

  abbrev touched : List Bool
  touched = state.counts.touched

  abbrev slot : ℕ
  slot = state.current.slot

  homes_are : homes ≡ (root_of_image old).homes
  homes_are = ap (λ (x : Root). x.homes) w.root

  was_synced : (k : ℕ) → is_among s.unsynced k ≡ false
  was_synced k = ap (λ (u : List ℕ). is_among u k) w.synced

  -- ---- what is written isn't live, and lies behind the root slots

  planned_area : (b : ℕ) → IsOneOf (blocks_written plan) b → area_start (layout_in old) ≤ b
  planned_area b is = in_area (layout_in old) b (w.planned.free b is).area

  written_below : (b : ℕ) → IsWritten homes touched b → (3 ≤ b) × (b < 3 + 2 * count_blocks (layout_in old))
  written_below b is =
      let lt = touched_within touched is.0 is.1 in
      let small = bit_small homes is.0 in
      (omega (arith, is.2), omega (arith, is.2, lt, small, w.many))

  behind : (b : ℕ) → IsOfPoint plan homes touched b → 3 ≤ b
  behind b of = ⊎_elim (λ is. omega (arith, planned_area b is)) (λ is. (written_below b is).0) of

  none_live : (b : ℕ) → IsOfPoint plan homes touched b → IsLive old b → ⊥
  none_live b of = ⊎_elim
      (λ is. (w.planned.free b is).not_live)
      (λ is live.
      let lt = touched_within touched is.0 is.1 in
      let there : b ≡ 3 + 2 * is.0 + (1 - home_bit (root_of_image old).homes is.0) = is.2 ∙ ap (λ (hs : List ℕ). 3 + 2 * is.0 + (1 - home_bit hs is.0)) homes_are in
      (not_live old w.stands.fits).home is.0 (omega (arith, lt, w.many)) (subst (IsLive old) there live))
      of

  live_behind : (b : ℕ) → IsLive old b → 3 ≤ b
  live_behind b live = ⊎_elim (λ lt. absurd ((not_live old w.stands.fits).slots b lt live)) (λ le. le) (lt_or_le b 3)

  front : (b : ℕ) → b < 3 → ¬ IsOfPoint plan homes touched b
  front b lt of = omega (arith, behind b of, lt)

  -- ---- before the switch

  stays : {t : State} → ChangesOnly (IsOfPoint plan homes touched) s t → (image : List Block) → IsImage t image → (k : ℕ) → ¬ IsOfPoint plan homes touched k → slice_get image k ≡ slice_get old k
  stays changes image is k none = is.agrees k (changes.others_unsynced k none ∙ was_synced k) ∙ changes.others k none

  kept_in : (is_slot : slot < 2) {t : State} → ChangesOnly (IsOfPoint plan homes touched) s t → EachImage (KeepsLive old) t
  kept_in is_slot changes image is = record {
    as_long = is.as_long ∙ changes.as_long;
    root = same_root image old slot (sym w.slot) (stays changes image is 0 (front 0 (omega arith))) (stays changes image is (1 + slot) (front (1 + slot) (omega (arith, is_slot))));
    live = λ k live. stays changes image is k (λ of. none_live k of live);
  }

  -- each image stands for what was stored
  pub still_stands : (is_slot : slot < 2) (t : State) → ChangesOnly (IsOfPoint plan homes touched) s t → EachImage (StandsBetween r m plan.report) t
  still_stands is_slot t changes image is = inl (kept_stands old image (stored m) (kept_in is_slot changes image is) w.stands)

  pub is_current : (is_slot : slot < 2) (t : State) → ChangesOnly (IsOfPoint plan homes touched) s t → IsCurrent slot t
  is_current is_slot t changes = record {
    slot_is = ap (λ (b : Option Block). unwrap_or (option_map (λ (x : Block). slice_index x.bytes 0) b) 0 % 2) (changes.others 0 (front 0 (omega arith))) ∙ sym w.slot;
    selector_synced = changes.others_unsynced 0 (front 0 (omega arith)) ∙ was_synced 0;
    slot_synced = changes.others_unsynced (1 + slot) (front (1 + slot) (omega (arith, is_slot))) ∙ was_synced (1 + slot);
  }

  -- ---- the blocks are written, and then the counts

  module _ (mid t : State) (first : ChangesOnly (IsOneOf (blocks_written plan)) s mid) (second : ChangesOnly (IsWritten homes touched) mid t) where
    pub both : ChangesOnly (IsOfPoint plan homes touched) s t
    both = changes_then (weaker (λ b is. inl is) first) second (λ b is. inr is)

    -- the counts that weren't touched stand in their named homes
    pub kept_mid : IsKept (blocks_in mid.contents) homes state.counts
    kept_mid = record {
      each = λ i lt untouched. ap words (bytes_kept (home_of homes i) first (λ is. omega (arith, planned_area (home_of homes i) is, bit_small homes i, lt, w.many))) ∙ w.kept.each i lt untouched;
    }

    not_written : (b : ℕ) → IsOneOf (blocks_written plan) b → ¬ IsWritten homes touched b
    not_written b is written = omega (arith, planned_area b is, (written_below b written).1)

    module _ (fresh : fresh_only plan.report.lines ≡ plan.report.lines) (stand : PlanStands state.dirty.overlay plan (blocks_in mid.contents)) where
      nodes_at : (read : Blocks) → ((b : ℕ) → IsOneOf (blocks_written plan) b → read b ≡ blocks_in mid.contents b) → PlanStands state.dirty.overlay plan read
      nodes_at read same = record {
        nodes = λ k d lt. record {
          each = λ j e l.
              let pages = (get_or plan.nodes k d).pages in
              let at = (get_or pages j e).at in
              same at (of_node plan fresh at (among_part (λ (p : PlannedNode). page_blocks p.pages) plan.nodes k d at lt (among_at pages j e l))) ∙ (stand.nodes k d lt).each j e l;
        };
        inode_pages = record {
          each = λ j e l. same (get_or plan.inode_pages j e).at (of_inodes plan fresh (get_or plan.inode_pages j e).at (among_at plan.inode_pages j e l)) ∙ stand.inode_pages.each j e l;
        };
        lines = λ k d lt j staged l found.
            let line = get_or plan.report.lines k d in
            same (line.block + j) (of_line plan fresh (line.block + j) (among_part (λ (x : Line). blocks_of (line_places x)) plan.report.lines k d (line.block + j) lt (line_among line j l)))
            ∙ stand.lines k d lt j staged l found;
      }

      -- the new bits name homes in which all counts stand
      module _ (h : HomeBits) (body : RootBody) (body_is : body ≡ record plan.root { homes = h }) (after : Table) (after_is : after ≡ record { counts = state.counts.counts; touched = replicate (length touched) false }) (kept : IsKept (blocks_in t.contents) h.bytes after)
          (grammar : HasGeometry (root_of (record plan.root { homes = h }))) (reads_back : root_in (root_bytes (root_of body)) ≡ root_of body) (is_slot : slot < 2) where
        counts_at : (i : ℕ) → i < length touched → words (blocks_in t.contents (home_of h.bytes i)) ≡ count_block state.counts.counts i
        counts_at i lt =
            let whole : IsKept (blocks_in t.contents) h.bytes (record { counts = state.counts.counts; touched = replicate (length touched) false }) = subst (IsKept (blocks_in t.contents) h.bytes) after_is kept in
            whole.each i (omega (arith, lt, length-replicate (length touched) false)) (not_touched (length touched) i)

        old_keeps : (image : List Block) → HasOldRoot t slot image → KeepsLive old image
        old_keeps image has = record {
          as_long = has.as_long ∙ both.as_long;
          root = has.root ∙ same_root t.contents old slot (sym w.slot) (both.others 0 (front 0 (omega arith))) (both.others (1 + slot) (front (1 + slot) (omega (arith, is_slot))));
          live = λ k live.
              let far = live_behind k live in
              let none : ¬ IsOfPoint plan homes touched k = λ of. none_live k of live in
              has.others k (omega (arith, far)) (omega (arith, far)) (both.others_unsynced k none ∙ was_synced k) ∙ both.others k none;
        }

        module _ (image : List Block) (has : HasNewRoot t slot body image) where
          far : (k : ℕ) → 3 ≤ k → slice_get image k ≡ slice_get t.contents k
          far k le = has.others k (omega (arith, le)) (omega (arith, le))

          bytes : (k : ℕ) → 3 ≤ k → blocks_in image k ≡ blocks_in t.contents k
          bytes k le = bytes_same t.contents image k (far k le)

          long : length image ≡ length old
          long = has.as_long ∙ both.as_long

          says : root_of_image image ≡ root_of body
          says = ap root_in (ap (λ (o : Option Block). (unwrap_or o zero_block).bytes) has.root) ∙ reads_back

          says_plan : root_of_image image ≡ root_of (record plan.root { homes = h })
          says_plan = says ∙ ap root_of body_is

          written_same : (b : ℕ) → IsOneOf (blocks_written plan) b → blocks_in image b ≡ blocks_in mid.contents b
          written_same b is = bytes b (omega (arith, planned_area b is)) ∙ bytes_kept b second (not_written b is)

          counts_stand : AllStand (blocks_in image) (root_of_image image).homes (count_blocks (layout_of plan.root.geometry)) state.counts.counts
          counts_stand = subst (λ (hs : List ℕ). AllStand (blocks_in image) hs (count_blocks (layout_of plan.root.geometry)) state.counts.counts) (sym (ap (λ (x : Root). x.homes) says_plan)) (record {
            each = λ i lt. ap words (bytes (home_of h.bytes i) (omega arith)) ∙ counts_at i (omega (arith, lt, w.many, ap count_blocks w.layout));
          })

          pub carries : Carries old image state.dirty.overlay plan state.counts.counts
          carries =
              let stands = nodes_at (blocks_in image) written_same in
              record {
                live = λ k live. far k (live_behind k live) ∙ both.others k (λ of. none_live k of live);
                nodes = stands.nodes;
                inode_pages = stands.inode_pages;
                lines = subst (All (LineStands state.dirty.overlay (blocks_in image))) (sym fresh) stands.lines;
                there = record { slots = omega (arith, long, w.stands.root.slots); shape = ap (λ (o : Option Block). (unwrap_or o zero_block).bytes) has.root ∙ ap root_bytes (sym says) };
                fits = record {
                  geometry = subst HasGeometry (sym says_plan) grammar;
                  size = ap (λ (x : Root). x.layout.blocks) says_plan ∙ ap (λ (x : Layout). x.blocks) w.layout ∙ w.stands.fits.size ∙ sym long;
                };
                root = says_plan ∙ ap (λ (hs : List ℕ). record (root_of plan.root) { homes = hs }) (sym (ap (λ (x : Root). x.homes) says_plan));
                counts_stand = counts_stand;
              }

        -- each image has the old root, and stands for what was stored, or the new one, and stands for what is stored after the point
        pub either_stands : (image : List Block) → OldOrNew t slot body image → StandsBetween r m plan.report image
        either_stands image = ⊎_elim
            (λ has. inl (kept_stands old image (stored m) (old_keeps image has) w.stands))
            (λ has. inr (w.planned.stands image (carries image has)))

        pub has_switched : (u : State) (other : ℕ) → IsSwitched t slot body u → other ≡ 1 - slot → HasSwitched s state.dirty.overlay plan state.counts.counts (record { slot = other; body = body }) u
        has_switched u other is e =
            let has : HasNewRoot t slot body u.contents = record { as_long = is.as_long; root = is.root; others = is.others } in
            record { carries = carries u.contents has; synced = is.all_synced; slot = e ∙ sym is.slot_is; root = sym (says u.contents has) }
