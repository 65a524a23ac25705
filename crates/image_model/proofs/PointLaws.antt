-- After a point an image stands for what the point made.
use Rattle.std.proofs.Common.{◌≡◌, ℕ, ◌+◌, ◌<◌, ◌≤◌, Bool, true, false, List, [], ◌∷◌, ◌++◌, length, get_or, refl, sym, ap, subst, ◌∙◌, arith, ⊎_elim}
use Rattle.std.specs.Prelude.{◌||◌, nat_eq}
use Rattle.std.proofs.lemmas.Bool.Decides.{nat_tests}
use Rattle.vol_numbers.specs.Layout.{Layout, area_start, count_blocks, log_start}
use Rattle.vol_numbers.specs.declared.block.Block.{Block}
use Rattle.root_switch.specs.Current.{root_of_image}
use Rattle.place_words.specs.Different.{is_among, times}
use Rattle.tree_model.specs.declared.command.Command.{Command}
use Rattle.op_log.specs.Log.{HoldsRecords, blocks_of}
use Rattle.volume_model.specs.Accepted.{Accepts}
use Rattle.volume_model.specs.Machine.{Stored}
use Rattle.volume_model.specs.Space.{free_blocks}
use Rattle.image_model.specs.Findings.{is_in_area, free_in}
use Rattle.image_model.specs.Planning.{AssembledStands}
use Rattle.image_model.specs.Met.{Met, index, page, content, past, empty, not_inode, metas, files, pointers_to, NoFaults, stray}
use Rattle.image_model.specs.Point.{HasPoint, IsAssembled}
use Rattle.image_model.specs.Seen.{seen}
use Rattle.block_tree.specs.Tree.{blocks_in}
use Rattle.image_model.specs.Sound.{AllGood, IsNamed}
use Rattle.image_model.specs.Stands.{Stands, Shows, layout_in, used_in}
use Rattle.image_model.proofs.Area.{split_none, split, among_times, not_among_times, alone}
use Rattle.image_model.proofs.LocalTree.{tree_is, named}
use Rattle.image_model.proofs.SpaceLaws.{free_seen}

times_append : (b : ℕ) (xs ys : List ℕ) → times b (xs ++ ys) ≡ times b xs + times b ys
times_append b [] ys = omega arith
times_append b (x ∷ xs) ys = omega (arith, times_append b xs ys)

among_append : (b : ℕ) (xs ys : List ℕ) → is_among (xs ++ ys) b ≡ (is_among xs b || is_among ys b)
among_append b [] ys = refl
among_append b (x ∷ xs) ys = by (nat_eq x b) (among_append b xs ys)
  where
    by : (t : Bool) → is_among (xs ++ ys) b ≡ (is_among xs b || is_among ys b) → (t || is_among (xs ++ ys) b) ≡ ((t || is_among xs b) || is_among ys b)
    by true more = refl
    by false more = more

or_first : (a b : Bool) → a ≡ true → (a || b) ≡ true
or_first true b e = refl
or_first false b e = cc

or_second : (a b : Bool) → b ≡ true → (a || b) ≡ true
or_second true b e = refl
or_second false b e = e

-- what is there at least once is among them
some_among : (b : ℕ) (xs : List ℕ) → 1 ≤ times b xs → is_among xs b ≡ true
some_among b xs some = by (is_among xs b) refl
  where
    by : (t : Bool) → is_among xs b ≡ t → is_among xs b ≡ true
    by true is = is
    by false is = absurd (omega (arith, some, not_among_times b xs is))

within_area : (g : Layout) (b : ℕ) → area_start g ≤ b → b < g.blocks → is_in_area g b ≡ true
within_area g b le lt = grind (arith, nat_tests)

-- a number that is this one, or another of which it holds
here_or : (P : ℕ → Type 0) (t rest : Bool) (p b : ℕ) → nat_eq p b ≡ t → P p → (rest ≡ true → P b) → (t || rest) ≡ true → P b
here_or P true rest p b is here more among = let e : p ≡ b = grind (arith, nat_tests) in subst P e here
here_or P false rest p b is here more among = more among

metas_in_area : (g : Layout) (whole ms : List Met) → AllGood g whole ms → (b : ℕ) → is_among (metas ms) b ≡ true → is_in_area g b ≡ true
metas_in_area g whole [] good b among = cc
metas_in_area g whole (index p ∷ ms) good b among = here_or (λ k. is_in_area g k ≡ true) (nat_eq p b) (is_among (metas ms) b) p b refl good.0.0 (metas_in_area g whole ms good.1 b) among
metas_in_area g whole (page n place p ∷ ms) good b among = here_or (λ k. is_in_area g k ≡ true) (nat_eq p b) (is_among (metas ms) b) p b refl good.0.0 (metas_in_area g whole ms good.1 b) among
metas_in_area g whole (content n place p ∷ ms) good b among = metas_in_area g whole ms good.1 b among
metas_in_area g whole (past p ∷ ms) good b among = absurd good.0
metas_in_area g whole (empty p ∷ ms) good b among = absurd good.0
metas_in_area g whole (not_inode n ∷ ms) good b among = absurd good.0
metas_in_area g whole (stray n p ∷ ms) good b among = absurd good.0

files_in_area : (g : Layout) (whole ms : List Met) → AllGood g whole ms → (b : ℕ) → is_among (files ms) b ≡ true → is_in_area g b ≡ true
files_in_area g whole [] good b among = cc
files_in_area g whole (index p ∷ ms) good b among = files_in_area g whole ms good.1 b among
files_in_area g whole (page n place p ∷ ms) good b among = files_in_area g whole ms good.1 b among
files_in_area g whole (content n place p ∷ ms) good b among = here_or (λ k. is_in_area g k ≡ true) (nat_eq p b) (is_among (files ms) b) p b refl good.0 (files_in_area g whole ms good.1 b) among
files_in_area g whole (past p ∷ ms) good b among = absurd good.0
files_in_area g whole (empty p ∷ ms) good b among = absurd good.0
files_in_area g whole (not_inode n ∷ ms) good b among = absurd good.0
files_in_area g whole (stray n p ∷ ms) good b among = absurd good.0

-- what makes each pointer good
pub all_good : (g : Layout) (whole ms : List Met) → NoFaults ms
    → ((b : ℕ) → is_among (metas ms) b ≡ true → (is_in_area g b ≡ true) × (pointers_to b whole ≡ 1)) → ((b : ℕ) → is_among (files ms) b ≡ true → is_in_area g b ≡ true) → AllGood g whole ms
all_good g whole [] none of_metas of_files = tt
all_good g whole (index p ∷ ms) none of_metas of_files =
    let same : nat_eq p p ≡ true = grind (arith, nat_tests) in
    (of_metas p (or_first _ _ same), all_good g whole ms none.1 (λ b among. of_metas b (or_second (nat_eq p b) _ among)) of_files)
all_good g whole (page n place p ∷ ms) none of_metas of_files =
    let same : nat_eq p p ≡ true = grind (arith, nat_tests) in
    (of_metas p (or_first _ _ same), all_good g whole ms none.1 (λ b among. of_metas b (or_second (nat_eq p b) _ among)) of_files)
all_good g whole (content n place p ∷ ms) none of_metas of_files =
    let same : nat_eq p p ≡ true = grind (arith, nat_tests) in
    (of_files p (or_first _ _ same), all_good g whole ms none.1 of_metas (λ b among. of_files b (or_second (nat_eq p b) _ among)))
all_good g whole (past p ∷ ms) none of_metas of_files = absurd none.0
all_good g whole (empty p ∷ ms) none of_metas of_files = absurd none.0
all_good g whole (not_inode n ∷ ms) none of_metas of_files = absurd none.0
all_good g whole (stray n p ∷ ms) none of_metas of_files = absurd none.0

module _ (image : List Block) (s : Stored) (has : IsAssembled image s) where
  pointers_good : AllGood (layout_in image) (seen image).met (seen image).met
  pointers_good = all_good (layout_in image) (seen image).met (seen image).met has.whole has.metas has.files

  shows : Shows (seen image) s
  shows = record {
    ordered = has.laid.is_tree.ordered;
    tree = tree_is (seen image) s.tree has.laid.is_tree has.laid.holds;
    places = has.laid.places;
  }

  names : IsNamed (seen image)
  names = named (seen image) s.tree has.laid.is_tree has.laid.holds

  free_is : free_in (layout_in image) (seen image).kept ≡ free_blocks (layout_in image) s.tree s.places
  unfolding seen
  free_is = free_seen (blocks_in image) (root_of_image image).inode_index (root_of_image image).homes (count_blocks (layout_in image)) (layout_in image) s
      pointers_good has.laid.directories names has.laid.counts shows (omega (arith, has.laid.fits.geometry.valid.area_at_least))

  assembled : Stands image s
  assembled = record {
    root = has.laid.root;
    fits = has.laid.fits;
    layout = has.laid.layout;
    sound = record {
      pointers = pointers_good;
      tails = has.laid.tails;
      directories = has.laid.directories;
      named = names;
      counts = has.laid.counts;
      reserve = omega (arith, has.laid.reserve, free_is);
    };
    shows = shows;
    logs = record {
      count = ap (λ (cs : List Command). length cs) has.laid.log_empty.0 ∙ sym has.laid.log_empty.1;
      logged = subst (λ (cs : List Command). HoldsRecords image (log_start (layout_in image)) (used_in image) cs) (sym has.laid.log_empty.0) (record { stand = tt; within = omega arith });
      filled = ap blocks_of has.laid.log_empty.0 ∙ sym has.laid.log_empty.2;
      accepted = subst (λ (cs : List Command). Accepts (free_blocks (layout_in image) s.tree s.places) s.tree 0 cs) (sym has.laid.log_empty.0) tt;
    };
    point = has.laid.point;
  }

pub assembled_stands : AssembledStands
assembled_stands = assembled

module _ (old new : List Block) (before s : Stored) (stands : Stands old before) (has : HasPoint old new s) where
  abbrev g : Layout
  g = layout_in old

  abbrev was : List Met
  was = (seen old).met

  abbrev now : List Met
  now = (seen new).met

  good : AllGood g was was
  good = stands.sound.pointers

  counted : (b : ℕ) → is_in_area g b ≡ true → get_or (seen old).kept b 0 ≡ times b (metas was) + times b (files was)
  counted b inside = let lt : b < g.blocks = grind (arith, nat_tests) in stands.sound.counts b (omega (arith, lt)) ∙ split g was was b good

  -- a fresh block had no pointer
  no_pointer : (b : ℕ) → is_among (has.for_metadata ++ has.for_files) b ≡ true → times b (metas was) + times b (files was) ≡ 0
  no_pointer b among = sym (counted b (has.fresh.free b among).0) ∙ (has.fresh.free b among).1

  fresh_meta : (b : ℕ) → is_among has.for_metadata b ≡ true → is_among (has.for_metadata ++ has.for_files) b ≡ true
  fresh_meta b among = among_append b has.for_metadata has.for_files ∙ or_first _ _ among

  fresh_file : (b : ℕ) → is_among has.for_files b ≡ true → is_among (has.for_metadata ++ has.for_files) b ≡ true
  fresh_file b among = among_append b has.for_metadata has.for_files ∙ or_second (is_among has.for_metadata b) _ among

  -- a block of metadata that is fresh
  fresh_alone : (b : ℕ) → is_among has.for_metadata b ≡ true → is_among (files now) b ≡ true → ⊥
  fresh_alone b among file =
      let none = no_pointer b (fresh_meta b among) in
      ⊎_elim (λ old_file. absurd (omega (arith, none, among_times b (files was) old_file)))
      (λ fresh. absurd (omega (arith, has.fresh.once b, times_append b has.for_metadata has.for_files, among_times b has.for_metadata among, among_times b has.for_files fresh)))
      (has.leads.files b file)

  -- one that was metadata before
  kept_alone : (b : ℕ) → is_among (metas was) b ≡ true → is_among (files now) b ≡ true → ⊥
  kept_alone b among file =
      let one = sym (split g was was b good) ∙ alone g was was b good among in
      ⊎_elim (λ old_file. absurd (omega (arith, one, among_times b (metas was) among, among_times b (files was) old_file)))
      (λ fresh. absurd (omega (arith, no_pointer b (fresh_file b fresh), among_times b (metas was) among)))
      (has.leads.files b file)

  no_file : (b : ℕ) → (is_among (files now) b ≡ true → ⊥) → times b (files now) ≡ 0
  no_file b never = by (is_among (files now) b) refl
    where
      by : (t : Bool) → is_among (files now) b ≡ t → times b (files now) ≡ 0
      by true is = absurd (never is)
      by false is = not_among_times b (files now) is

  of_meta : (b : ℕ) → is_among (metas now) b ≡ true → (is_in_area g b ≡ true) × (pointers_to b now ≡ 1)
  of_meta b among = by (is_among has.for_metadata b) refl
    where
      some : 1 ≤ times b (metas now)
      some = among_times b (metas now) among

      by : (t : Bool) → is_among has.for_metadata b ≡ t → (is_in_area g b ≡ true) × (pointers_to b now ≡ 1)
      by true is = (
        (has.fresh.free b (fresh_meta b is)).0,
        omega (arith, split_none now b has.leads.whole, no_file b (fresh_alone b is), has.leads.metas b, no_pointer b (fresh_meta b is), has.fresh.once b, times_append b has.for_metadata has.for_files, some),
      )
      by false is =
          let not_fresh = not_among_times b has.for_metadata is in
          let kept : is_among (metas was) b ≡ true = some_among b (metas was) (omega (arith, has.leads.metas b, not_fresh, some)) in
          let one = sym (split g was was b good) ∙ alone g was was b good kept in (
            metas_in_area g was was good b kept,
            omega (arith, split_none now b has.leads.whole, no_file b (kept_alone b kept), has.leads.metas b, not_fresh, one, some),
          )

  of_file : (b : ℕ) → is_among (files now) b ≡ true → is_in_area g b ≡ true
  of_file b among = ⊎_elim (files_in_area g was was good b) (λ fresh. (has.fresh.free b (fresh_file b fresh)).0) (has.leads.files b among)

  pub point_stands : Stands new s
  point_stands = assembled_stands new s (record {
    laid = has.laid;
    whole = has.leads.whole;
    metas = λ b among. let good = of_meta b among in (subst (λ (l : Layout). is_in_area l b ≡ true) (sym has.layout) good.0, good.1);
    files = λ b among. subst (λ (l : Layout). is_in_area l b ≡ true) (sym has.layout) (of_file b among);
  })
