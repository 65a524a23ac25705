-- The rows of images that stand for something.
use Rattle.std.proofs.Common.{◌≡◌, ℕ, zero, suc, ◌+◌, ◌*◌, ◌<◌, ◌≤◌, Bool, true, false, cond, List, [], ◌∷◌, ◌++◌, length, map, replicate, Some, None, refl, sym, ap, subst, ◌∙◌, arith, inl, inr}
use Rattle.std.specs.Prelude.{◌≢◌, ◌==◌, ◌||◌, ◌⊎◌, nat_eq, get_or, slice_get}
use Rattle.std.proofs.lemmas.Bool.Decides.{nat_tests}
use Rattle.std.proofs.lemmas.List.Elements.{All-cons, All-nil}
use Rattle.vol_numbers.specs.Layout.{log_start, area_start, count_blocks}
use Rattle.vol_numbers.specs.Name.{IsName}
use Rattle.vol_numbers.specs.declared.block.Block.{Block}
use Rattle.block_format.specs.Inode.{inode_in}
use Rattle.block_format.specs.Root.{root_in, root_bytes}
use Rattle.block_format.specs.Slot.{slot_in}
use Rattle.block_format.specs.Words.{words}
use Rattle.root_switch.specs.Current.{root_of_image, HasRoot, FitsImage}
use Rattle.place_words.specs.Different.{is_among, times}
use Rattle.tree_model.specs.Path.{Path}
use Rattle.tree_model.specs.Step.{step}
use Rattle.tree_model.specs.Tree.{Tree, node_at, is_directory}
use Rattle.tree_model.specs.declared.command.Command.{Command}
use Rattle.tree_model.specs.declared.command.Command.TheVariants.{Remove}
use Rattle.tree_model.specs.declared.node.Node.{Node}
use Rattle.tree_model.specs.declared.node.Content.TheVariants as content
use Rattle.tree_model.specs.declared.reply.Reply.TheVariants.{Done}
use Rattle.op_log.specs.Log.{RecordStands}
use Rattle.op_log.specs.Record.{header, HasRecord}
use Rattle.space_account.specs.Charge.{need}
use Rattle.volume_model.specs.Machine.{Stored}
use Rattle.volume_model.specs.Space.{free_blocks}
use Rattle.image_model.specs.Exact.{seen_stored}
use Rattle.image_model.specs.Findings.{body_finding, free_in, is_in_area}
use Rattle.image_model.specs.Finds.{early_finding}
use Rattle.image_model.specs.Live.{IsLive, home, logged, counted}
use Rattle.image_model.specs.Met.{metas, files}
use Rattle.image_model.specs.Next.{HasNext, and_command}
use Rattle.image_model.specs.Nodes.{tree_finding}
use Rattle.image_model.specs.Point.{HasPoint, TakesFree, LeadsTo}
use Rattle.image_model.specs.Roots.{root_finding}
use Rattle.image_model.specs.Seen.{seen, home_in}
use Rattle.image_model.specs.Slots.{slots_from}
use Rattle.image_model.specs.Stands.{Stands, layout_in, records_in, used_in, node_along}
use Rattle.image_model.specs.Walk.{walk, inodes_from}
use Rattle.image_model.proofs.Area.{no_faults}
use Rattle.image_model.proofs.ExactLaws.{none_found_stands}
use Rattle.image_model.proofs.FindingLaws.{then_first}
use Rattle.image_model.proofs.HeldLaws.{tree_is_held}
use Rattle.image_model.proofs.ImageLaws.{next_stands}
use Rattle.image_model.proofs.RootExact.{roots_are_found}
use Rattle.image_model.proofs.StandingTree.{standing_tree}
use Rattle.image_rows.specs.Images.{small, small_blocks, standing, image_from, root, filled}
use Rattle.image_rows.specs.Points.{removal, one_record, rewritten, RecordIsMet, PointIsMet}
use Rattle.image_rows.proofs.Late.{at_small}
use Rattle.image_rows.proofs.LogRows.{free_is, nothing_logged}

-- ---- an image in which nothing is found, and that has no record

module _ (image : List Block) (none : early_finding image ≡ None) (no_record : records_in image ≡ 0) (no_block : used_in image ≡ 0) where
  abbrev pub stood : Stored
  stood = seen_stored image (none_found_stands image none).0 []

  pub stands_empty : Stands image stood
  stands_empty = (none_found_stands image none).3 [] (record { count = sym no_record; logged = record { stand = tt; within = omega arith }; filled = sym no_block; accepted = tt })

no_records : records_in small ≡ 0
unfolding root_in
no_records = refl

none_used : used_in small ≡ 0
unfolding root_in
none_used = refl

abbrev before : Stored
before = stood small at_small no_records none_used

small_stands : Stands small before
small_stands = stands_empty small at_small no_records none_used

-- ---- a record behind the log

root_found : root_finding one_record ≡ None
unfolding root_finding root_in
root_found = refl

-- images that are the same but for some blocks
same_from : (f g : ℕ → List ℕ) (k n b : ℕ) → f (k + b) ≡ g (k + b) → slice_get (image_from f k n) b ≡ slice_get (image_from g k n) b
same_from f g k zero b same = refl
same_from f g k (suc n) zero same = let e : k + zero ≡ k = omega arith in ap (λ (bytes : List ℕ). Some (record { bytes = bytes })) (ap f (sym e) ∙ same ∙ ap g e)
same_from f g k (suc n) (suc b) same = let e : k + suc b ≡ (k + 1) + b = omega arith in same_from f g (k + 1) n b (ap f (sym e) ∙ same ∙ ap g e)

-- but for the first slot and the first block of the log the image is as it was
changed : (x y : List ℕ) (b : ℕ) → b ≢ 1 → b ≢ 5 → standing ((1, x) ∷ (5, y) ∷ small_blocks) b ≡ standing small_blocks b
changed x y b not_one not_five =
    let one : (1 == b) ≡ false = grind (arith, nat_tests) in
    let five : (5 == b) ≡ false = grind (arith, nat_tests) in
    λ i. cond (one i) x (cond (five i) y (standing small_blocks b))

one_count : count_blocks (layout_in small) ≡ 1
unfolding root_in
one_count = refl

starts : area_start (layout_in small) ≡ 101
unfolding root_in
starts = refl

home_kept : slice_get one_record (home_in (root_of_image small).homes 0) ≡ slice_get small (home_in (root_of_image small).homes 0)
unfolding root_in
home_kept = refl

-- the blocks that the record changes
abbrev new_root : List ℕ
new_root = root_bytes (record root { records = 1; log_used = 1 })

abbrev new_record : List ℕ
new_record = filled (5 ∷ 0 ∷ 0 ∷ 0 ∷ 2 ∷ replicate 19 0 ++ (47 ∷ 98 ∷ []))

kept : (b : ℕ) → IsLive small b → slice_get one_record b ≡ slice_get small b
kept b (home zero lt) = home_kept
kept b (home (suc i) lt) = absurd (omega (arith, lt, one_count))
kept b (logged i lt) = absurd (omega (arith, lt, none_used))
kept b (counted c inside some) =
    let le : area_start (layout_in small) ≤ b = grind (arith, nat_tests) in
    let e : 0 + b ≡ b = omega arith in
    same_from (standing ((1, new_root) ∷ (5, new_record) ∷ small_blocks)) (standing small_blocks) 0 165 b
    (ap (standing ((1, new_root) ∷ (5, new_record) ∷ small_blocks)) e ∙ changed new_root new_record b (λ e. omega (arith, e, le, starts)) (λ e. omega (arith, e, le, starts)) ∙ ap (standing small_blocks) (sym e))

plain_name : IsName (98 ∷ [])
plain_name = record {
  some = omega arith;
  at_most = omega arith;
  plain = All-cons (λ b. (b ≢ 0) × (b ≢ 47)) 98 [] (λ e. omega (arith, e), λ e. omega (arith, e)) (All-nil (λ b. (b ≢ 0) × (b ≢ 47)));
  not_dot = λ e. cc;
  not_dots = λ e. cc;
}

removal_has : HasRecord removal
removal_has = record { some = λ e. cc; limits = record { names_at_most = omega arith; length_at_most = omega arith }; names = All-cons IsName (98 ∷ []) [] plain_name (All-nil IsName) }

stands_removal : RecordStands one_record (log_start (layout_in small) + used_in small) removal
unfolding header root_in
stands_removal zero lt = refl
stands_removal (suc i) lt = absurd (omega arith)

root_right : HasRoot one_record × FitsImage one_record
root_right = (roots_are_found.none one_record).0 root_found

next : HasNext small one_record removal
unfolding root_in
next = record {
  as_long = refl;
  root = root_right.0;
  fits = root_right.1;
  layout = refl;
  point = refl;
  inode_index = refl;
  homes = refl;
  records = refl;
  used = refl;
  live = kept;
  has_record = removal_has;
  logged = stands_removal;
}

-- a file that is there is removed
removed : (t : Tree) (root file : Node) → node_at t [] ≡ Some root → is_directory root ≡ true → node_at t ((98 ∷ []) ∷ []) ≡ Some file → is_directory file ≡ false → (step t removal).0 ≡ Done
unfolding step
removed t root file top directory there not_directory = rw (top, directory, there, not_directory) refl

abbrev file : Node
file = record { number = 3; content = content.File (replicate 4096 65) }

has_file : node_along (seen small) ((98 ∷ []) ∷ []) ≡ Some file
unfolding words inode_in root_in slot_in seen slots_from walk inodes_from
has_file = refl

has_directory : node_along (seen small) [] ≡ Some (record { number = 1; content = content.Directory 2 })
unfolding words inode_in root_in slot_in seen slots_from walk inodes_from
has_directory = refl

free_small : free_in (layout_in small) (seen small).kept ≡ 58
unfolding words inode_in root_in seen walk inodes_from
free_small = refl

pub record_is_met : RecordIsMet
unfolding nothing_logged
record_is_met =
    let t = (none_found_stands small at_small).0 in
    let same = (none_found_stands small at_small).2 in
    let done : (step t removal).0 ≡ Done = removed t (record { number = 1; content = content.Directory 2 }) file (same [] ∙ has_directory) refl (same ((98 ∷ []) ∷ []) ∙ has_file) refl in
    let needs : need removal ≤ 58 = omega arith in
    (before, small_stands, next, next_stands small one_record removal before next small_stands (done, omega (arith, needs, free_small, free_is small at_small), tt))

-- ---- a point

none_after : early_finding rewritten ≡ None
unfolding words inode_in root_in slot_in body_finding tree_finding root_finding seen slots_from walk inodes_from
none_after = refl

no_records_after : records_in rewritten ≡ 0
unfolding root_in
no_records_after = refl

none_used_after : used_in rewritten ≡ 0
unfolding root_in
none_used_after = refl

abbrev after : Stored
after = stood rewritten none_after no_records_after none_used_after

after_stands : Stands rewritten after
after_stands = stands_empty rewritten none_after no_records_after none_used_after

-- what the walk over both meets
metas_before : metas (seen small).met ≡ 102 ∷ 101 ∷ 103 ∷ 104 ∷ []
unfolding words inode_in root_in seen walk inodes_from
metas_before = refl

metas_after : metas (seen rewritten).met ≡ 109 ∷ 108 ∷ 103 ∷ 104 ∷ []
unfolding words inode_in root_in seen walk inodes_from
metas_after = refl

files_before : files (seen small).met ≡ 105 ∷ 106 ∷ 105 ∷ []
unfolding words inode_in root_in seen walk inodes_from
files_before = refl

files_after : files (seen rewritten).met ≡ 105 ∷ 106 ∷ 107 ∷ []
unfolding words inode_in root_in seen walk inodes_from
files_after = refl

-- a block that is free in the small volume
abbrev IsFree : ℕ → Type 0
IsFree b = (is_in_area (layout_in small) b ≡ true) × (get_or (seen small).kept b 0 ≡ 0)

free_108 : IsFree 108
unfolding words inode_in root_in seen walk inodes_from
free_108 = (refl, refl)

free_109 : IsFree 109
unfolding words inode_in root_in seen walk inodes_from
free_109 = (refl, refl)

free_107 : IsFree 107
unfolding words inode_in root_in seen walk inodes_from
free_107 = (refl, refl)

-- a number among others is the first, or one of the rest
among_cons : (P : ℕ → Type 0) (n b : ℕ) (rest : List ℕ) → P n → (is_among rest b ≡ true → P b) → is_among (n ∷ rest) b ≡ true → P b
among_cons P n b rest here more among = by (nat_eq n b) refl among
  where
    by : (t : Bool) → nat_eq n b ≡ t → (t || is_among rest b) ≡ true → P b
    by true is among = let e : n ≡ b = grind (arith, nat_tests) in subst P e here
    by false is among = more among

takes : TakesFree small (108 ∷ 109 ∷ []) (107 ∷ [])
takes = record {
  free = λ b among. among_cons IsFree 108 b (109 ∷ 107 ∷ []) free_108 (among_cons IsFree 109 b (107 ∷ []) free_109 (among_cons IsFree 107 b [] free_107 (λ e. cc))) among;
  once = once;
}
  where
    once : (b : ℕ) → times b (108 ∷ 109 ∷ 107 ∷ []) ≤ 1
    once b = by (nat_eq 108 b) refl (nat_eq 109 b) refl (nat_eq 107 b) refl
      where
        by : (t : Bool) → nat_eq 108 b ≡ t → (u : Bool) → nat_eq 109 b ≡ u → (v : Bool) → nat_eq 107 b ≡ v → cond t 1 0 + (cond u 1 0 + (cond v 1 0 + 0)) ≤ 1
        by true t true u v w = absurd (let e : 108 ≡ b = grind (arith, nat_tests) in let f : 109 ≡ b = grind (arith, nat_tests) in omega (arith, e, f))
        by true t false u true w = absurd (let e : 108 ≡ b = grind (arith, nat_tests) in let f : 107 ≡ b = grind (arith, nat_tests) in omega (arith, e, f))
        by true t false u false w = omega arith
        by false t true u true w = absurd (let e : 109 ≡ b = grind (arith, nat_tests) in let f : 107 ≡ b = grind (arith, nat_tests) in omega (arith, e, f))
        by false t true u false w = omega arith
        by false t false u true w = omega arith
        by false t false u false w = omega arith

-- a block of a file that is led to was one before or is taken
abbrev IsFiles : ℕ → Type 0
IsFiles b = (is_among (files (seen small).met) b ≡ true) ⊎ (is_among (107 ∷ []) b ≡ true)

was : (b : ℕ) → is_among (105 ∷ 106 ∷ 105 ∷ []) b ≡ true → IsFiles b
was b among = inl (ap (λ (bs : List ℕ). is_among bs b) files_before ∙ among)

leads : LeadsTo small rewritten (108 ∷ 109 ∷ []) (107 ∷ [])
leads = record {
  whole = no_faults (layout_in rewritten) (seen rewritten).met (seen rewritten).met after_stands.sound.pointers;
  metas = λ b. omega (arith, ap (times b) metas_before, ap (times b) metas_after);
  files = λ b among. among_cons IsFiles 105 b (106 ∷ 107 ∷ []) (was 105 refl) (among_cons IsFiles 106 b (107 ∷ []) (was 106 refl) (among_cons IsFiles 107 b [] (inr refl) (λ e. cc)))
      (sym (ap (λ (bs : List ℕ). is_among bs b) files_after) ∙ among);
}

root_after : HasRoot rewritten × FitsImage rewritten
root_after = (roots_are_found.none rewritten).0 (then_first (root_finding rewritten) _ none_after)

same_layout : layout_in rewritten ≡ layout_in small
unfolding root_in
same_layout = refl

free_after : free_in (layout_in rewritten) (seen rewritten).kept ≡ free_blocks (layout_in rewritten) after.tree after.places
unfolding nothing_logged
free_after = free_is rewritten none_after

point_left : HasPoint small rewritten after
point_left = record {
  laid = record {
    root = root_after.0;
    fits = root_after.1;
    layout = refl;
    point = refl;
    log_empty = (refl, no_records_after, none_used_after);
    counts = after_stands.sound.counts;
    tails = after_stands.sound.tails;
    directories = after_stands.sound.directories;
    is_tree = standing_tree rewritten after after_stands;
    holds = tree_is_held rewritten after after_stands;
    places = refl;
    reserve = subst (λ (n : ℕ). 16 ≤ n) free_after after_stands.sound.reserve;
  };
  layout = same_layout;
  for_metadata = 108 ∷ 109 ∷ [];
  for_files = 107 ∷ [];
  fresh = takes;
  leads = leads;
}

pub point_is_met : PointIsMet
point_is_met = (before, after, small_stands, point_left, after_stands)
