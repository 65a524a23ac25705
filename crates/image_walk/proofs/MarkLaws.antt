-- Marks say what was met, pointer by pointer.
use Rattle.std.proofs.Common.{◌≡◌, ◌<◌, ⊎_elim, ℕ, zero, suc, ◌+◌, ◌-◌, ◌*◌, ◌^◌, min, Bool, true, false, not, cond, List, [], ◌∷◌, ◌++◌, length, replicate, get_or, refl, sym, ap, ◌∙◌, arith}
use Rattle.std.specs.Prelude.{◌==◌, ◌||◌, slice_set, Some, None}
use Rattle.std.specs.List.{list_any}
use Rattle.std.proofs.lemmas.Bool.{cases_eq, eq-eqb}
use Rattle.std.proofs.lemmas.Bool.Decides.{nat_tests}
use Rattle.std.proofs.lemmas.List.{get_or-set_same, get_or-set_other, length-set}
use Rattle.std.proofs.lemmas.List.Sums.{sum_by-cons}
use Rattle.vol_numbers.specs.Layout.{Layout, count_blocks}
use Rattle.image_model.specs.Met.{Met, index, page, content, past, empty, not_inode, stray, is_metadata_at, is_content_at, points_at, pointers_to}
use Rattle.image_model.specs.Findings.{◌then◌, is_in_area, bad_if}
use Rattle.image_model.specs.declared.finding.Finding.TheVariants.{BadPointer, BadInode}
use Rattle.image_walk.specs.declared.fault.WalkFault.TheVariants.{Found}
use Rattle.image_walk.specs.declared.marks.Mark.{Mark}
use Rattle.image_walk.specs.Marks.{no_mark, mark_of, one_more, as_metadata, as_content, SaysUpTo}
use Rattle.image_walk.specs.Going.{reached_after, Goes, EndsBy}

-- ---- at the start

pub none_marked : (n b : ℕ) → mark_of (replicate n no_mark) b ≡ no_mark
none_marked zero b = refl
none_marked (suc n) zero = refl
none_marked (suc n) (suc b) = none_marked n b

pub says_nothing : (n : ℕ) → SaysUpTo (replicate n no_mark) []
says_nothing n = record {
  metadata = λ b. ap (λ (m : Mark). m.is_metadata) (none_marked n b);
  content = λ b. ap (λ (m : Mark). m.is_content) (none_marked n b);
  pointers = λ b. ap (λ (m : Mark). m.pointers) (none_marked n b);
}

-- the mark that is read at an index
pub mark_read : (marks : List Mark) (p : ℕ) (m : Mark) → p < length marks → m ≡ get_or marks p m → mark_of marks p ≡ m
mark_read [] p m lt e = absurd (omega (arith, lt))
mark_read (x ∷ xs) zero m lt e = sym e
mark_read (x ∷ xs) (suc p) m lt e = mark_read xs p m (omega (arith, lt)) e

-- ---- lists with one more

any_append : (p : Met → Bool) (xs : List Met) (m : Met) → list_any p (xs ++ (m ∷ [])) ≡ (list_any p xs || p m)
any_append p [] m = or_none (p m)
  where
    or_none : (t : Bool) → (t || false) ≡ t
    or_none true = refl
    or_none false = refl
any_append p (x ∷ xs) m = by (p x) (any_append p xs m)
  where
    by : (t : Bool) → list_any p (xs ++ (m ∷ [])) ≡ (list_any p xs || p m) → (t || list_any p (xs ++ (m ∷ []))) ≡ ((t || list_any p xs) || p m)
    by true more = refl
    by false more = more

points_append : (b : ℕ) (xs : List Met) (m : Met) → pointers_to b (xs ++ (m ∷ [])) ≡ pointers_to b xs + cond (points_at b m) 1 0
points_append b [] m = omega (arith, sum_by-cons (λ (x : Met). cond (points_at b x) 1 0) m [])
points_append b (x ∷ xs) m = omega (arith, sum_by-cons (λ (y : Met). cond (points_at b y) 1 0) x (xs ++ (m ∷ [])), sum_by-cons (λ (y : Met). cond (points_at b y) 1 0) x xs, points_append b xs m)

-- a block is reached exactly where it is met as metadata
or_last : (a b c : Bool) → ((a || b) || c) ≡ (b || (a || c))
or_last true true c = refl
or_last true false c = refl
or_last false b c = refl

pub reached_any : (b : ℕ) (reached : List ℕ) (ms : List Met) → list_any (λ r. r == b) (reached_after reached ms) ≡ (list_any (λ r. r == b) reached || list_any (is_metadata_at b) ms)
reached_any b reached [] = by (list_any (λ r. r == b) reached)
  where
    by : (t : Bool) → t ≡ (t || false)
    by true = refl
    by false = refl
reached_any b reached (index p ∷ ms) = reached_any b (p ∷ reached) ms ∙ or_last (p == b) (list_any (λ r. r == b) reached) (list_any (is_metadata_at b) ms)
reached_any b reached (page n place p ∷ ms) = reached_any b (p ∷ reached) ms ∙ or_last (p == b) (list_any (λ r. r == b) reached) (list_any (is_metadata_at b) ms)
reached_any b reached (content n place p ∷ ms) = reached_any b reached ms
reached_any b reached (past p ∷ ms) = reached_any b reached ms
reached_any b reached (empty p ∷ ms) = reached_any b reached ms
reached_any b reached (not_inode n ∷ ms) = reached_any b reached ms
reached_any b reached (stray n p ∷ ms) = reached_any b reached ms

pub reached_is_marked : (marks : List Mark) (before : List Met) (b : ℕ) → SaysUpTo marks before → list_any (λ r. r == b) (reached_after [] before) ≡ (mark_of marks b).is_metadata
reached_is_marked marks before b s = reached_any b [] before ∙ sym (s.metadata b)

-- ---- one pointer more

min_more : (n : ℕ) → one_more (min n (2 ^ 32 - 1)) ≡ min (n + 1) (2 ^ 32 - 1)
min_more n = omega arith

min_same : (n : ℕ) → min n (2 ^ 32 - 1) ≡ min (n + 0) (2 ^ 32 - 1)
min_same n = omega arith

or_true : (t : Bool) → true ≡ (t || true)
or_true true = refl
or_true false = refl

or_false : (t : Bool) → t ≡ (t || false)
or_false true = refl
or_false false = refl

-- the marks of a block after one more is met, which leads to p: to p its mark is changed, and to others nothing is
module _ (marks : List Mark) (before : List Met) (p : ℕ) (m : Met) (new : Mark) (lt : p < length marks) (s : SaysUpTo marks before) where
  at_p : mark_of (slice_set marks p new) p ≡ new
  at_p = get_or-set_same marks p new no_mark lt

  at_other : (b : ℕ) → (b ≡ p → ⊥) → mark_of (slice_set marks p new) b ≡ mark_of marks b
  at_other b ne = get_or-set_other marks p b new no_mark ne

  field_more : {X : Type 0} (field : Mark → X) (b : ℕ) (after : X) → (b ≡ p → field new ≡ after) → ((b ≡ p → ⊥) → field (mark_of marks b) ≡ after) → field (mark_of (slice_set marks p new) b) ≡ after
  field_more field b after here there =
      ⊎_elim (λ (e : b ≡ p). ap (λ (k : ℕ). field (mark_of (slice_set marks p new) k)) e ∙ (ap field at_p ∙ here e)) (λ (ne : b ≡ p → ⊥). ap field (at_other b ne) ∙ there ne) (cases_eq b p)

  says_more : ((b : ℕ) → b ≡ p → new.is_metadata ≡ ((mark_of marks p).is_metadata || is_metadata_at b m))
      → ((b : ℕ) → (b ≡ p → ⊥) → is_metadata_at b m ≡ false)
      → ((b : ℕ) → b ≡ p → new.is_content ≡ ((mark_of marks p).is_content || is_content_at b m))
      → ((b : ℕ) → (b ≡ p → ⊥) → is_content_at b m ≡ false)
      → ((b : ℕ) → b ≡ p → points_at b m ≡ true) → ((b : ℕ) → (b ≡ p → ⊥) → points_at b m ≡ false)
      → new.pointers ≡ one_more (mark_of marks p).pointers
      → SaysUpTo (slice_set marks p new) (before ++ (m ∷ []))
  says_more meta_here meta_there file_here file_there points_here points_there count = record {
    metadata = λ b. field_more (λ (x : Mark). x.is_metadata) b (list_any (is_metadata_at b) (before ++ (m ∷ [])))
        (λ e. meta_here b e ∙ (ap (λ (t : Bool). t || is_metadata_at b m) (s.metadata p ∙ ap (λ (k : ℕ). list_any (is_metadata_at k) before) (sym e)) ∙ sym (any_append (is_metadata_at b) before m)))
        (λ ne. s.metadata b ∙ (or_false (list_any (is_metadata_at b) before) ∙ (ap (λ (t : Bool). list_any (is_metadata_at b) before || t) (sym (meta_there b ne)) ∙ sym (any_append (is_metadata_at b) before m))));
    content = λ b. field_more (λ (x : Mark). x.is_content) b (list_any (is_content_at b) (before ++ (m ∷ [])))
        (λ e. file_here b e ∙ (ap (λ (t : Bool). t || is_content_at b m) (s.content p ∙ ap (λ (k : ℕ). list_any (is_content_at k) before) (sym e)) ∙ sym (any_append (is_content_at b) before m)))
        (λ ne. s.content b ∙ (or_false (list_any (is_content_at b) before) ∙ (ap (λ (t : Bool). list_any (is_content_at b) before || t) (sym (file_there b ne)) ∙ sym (any_append (is_content_at b) before m))));
    pointers = λ b. field_more (λ (x : Mark). x.pointers) b (min (pointers_to b (before ++ (m ∷ []))) (2 ^ 32 - 1))
        (λ e. count ∙ (ap one_more (s.pointers p ∙ ap (λ (k : ℕ). min (pointers_to k before) (2 ^ 32 - 1)) (sym e))
        ∙ (min_more (pointers_to b before) ∙ ap (λ (n : ℕ). min n (2 ^ 32 - 1)) (sym (points_append b before m ∙ ap (λ (t : Bool). pointers_to b before + cond t 1 0) (points_here b e))))))
        (λ ne. s.pointers b ∙ (min_same (pointers_to b before) ∙ ap (λ (n : ℕ). min n (2 ^ 32 - 1)) (sym (points_append b before m ∙ ap (λ (t : Bool). pointers_to b before + cond t 1 0) (points_there b ne)))));
  }

-- what is no pointer changes no mark
pub says_silent : (marks : List Mark) (before : List Met) (m : Met) → ((b : ℕ) → is_metadata_at b m ≡ false) → ((b : ℕ) → is_content_at b m ≡ false) → ((b : ℕ) → points_at b m ≡ false)
    → SaysUpTo marks before → SaysUpTo marks (before ++ (m ∷ []))
says_silent marks before m meta file points s = record {
  metadata = λ b. s.metadata b ∙ (or_false (list_any (is_metadata_at b) before) ∙ (ap (λ (t : Bool). list_any (is_metadata_at b) before || t) (sym (meta b)) ∙ sym (any_append (is_metadata_at b) before m)));
  content = λ b. s.content b ∙ (or_false (list_any (is_content_at b) before) ∙ (ap (λ (t : Bool). list_any (is_content_at b) before || t) (sym (file b)) ∙ sym (any_append (is_content_at b) before m)));
  pointers = λ b. s.pointers b ∙ (min_same (pointers_to b before) ∙ ap (λ (n : ℕ). min n (2 ^ 32 - 1)) (sym (points_append b before m ∙ ap (λ (t : Bool). pointers_to b before + cond t 1 0) (points b))));
}

-- a stray pointer that leads nowhere
pub goes_stray : (g : Layout) (marks : List Mark) (n p : ℕ) → is_in_area g p ≡ false → Goes g marks marks (stray n p ∷ [])
goes_stray g marks n p outside = record {
  long = refl;
  says = λ before s. says_silent marks before (stray n p) (λ b. refl) (λ b. refl) (λ b. refl) s;
  fine = λ before s. ap (λ (t : Bool). bad_if t (BadInode n) then None) outside;
}

pub ends_stray : (g : Layout) (marks : List Mark) (n p : ℕ) → is_in_area g p ≡ true → EndsBy g marks (stray n p ∷ []) (Found (BadInode n))
ends_stray g marks n p inside = λ before s. ap (λ (t : Bool). bad_if t (BadInode n) then None) inside

pub ends_inode : (g : Layout) (marks : List Mark) (n : ℕ) → EndsBy g marks (not_inode n ∷ []) (Found (BadInode n))
ends_inode g marks n = λ before s. refl

test_same : (p b : ℕ) → b ≡ p → (p == b) ≡ true
test_same p b e = eq-eqb p b (sym e)

test_other : (p b : ℕ) → (b ≡ p → ⊥) → (p == b) ≡ false
test_other p b ne = grind (arith, nat_tests)

meta_more : (t u : Bool) → u ≡ true → true ≡ (t || u)
meta_more t true e = or_true t
meta_more t false e = cc

module _ (g : Layout) (marks : List Mark) (p : ℕ) where
  abbrev as_meta : List Mark
  as_meta = slice_set marks p (as_metadata (mark_of marks p))

  abbrev as_file : List Mark
  as_file = slice_set marks p (as_content (mark_of marks p))

  says_index : (before : List Met) → p < length marks → SaysUpTo marks before → SaysUpTo as_meta (before ++ (index p ∷ []))
  says_index before lt s = says_more marks before p (index p) (as_metadata (mark_of marks p)) lt s
      (λ b e. meta_more (mark_of marks p).is_metadata (p == b) (test_same p b e)) (test_other p)
      (λ b e. or_false (mark_of marks p).is_content) (λ b ne. refl) (test_same p) (test_other p) refl

  says_page : (n place : ℕ) (before : List Met) → p < length marks → SaysUpTo marks before → SaysUpTo as_meta (before ++ (page n place p ∷ []))
  says_page n place before lt s = says_more marks before p (page n place p) (as_metadata (mark_of marks p)) lt s
      (λ b e. meta_more (mark_of marks p).is_metadata (p == b) (test_same p b e)) (test_other p)
      (λ b e. or_false (mark_of marks p).is_content) (λ b ne. refl) (test_same p) (test_other p) refl

  says_content : (n place : ℕ) (before : List Met) → p < length marks → SaysUpTo marks before → SaysUpTo as_file (before ++ (content n place p ∷ []))
  says_content n place before lt s = says_more marks before p (content n place p) (as_content (mark_of marks p)) lt s
      (λ b e. or_false (mark_of marks p).is_metadata) (λ b ne. refl)
      (λ b e. meta_more (mark_of marks p).is_content (p == b) (test_same p b e)) (test_other p) (test_same p) (test_other p) refl

  pub low_blocks : is_in_area g p ≡ true → p < g.blocks
  low_blocks inside = grind (arith, nat_tests)

  fits : length marks ≡ 1024 * count_blocks g → p < g.blocks → p < length marks
  fits long high = omega arith

  bad_none : (in_area reached : Bool) → in_area ≡ true → reached ≡ false → (bad_if (not in_area || reached) (BadPointer p) then None) ≡ None
  bad_none true false a b = refl
  bad_none true true a b = cc
  bad_none false reached a b = cc

  bad_reached : (in_area reached : Bool) → reached ≡ true → (bad_if (not in_area || reached) (BadPointer p) then None) ≡ Some (BadPointer p)
  bad_reached true true b = refl
  bad_reached true false b = cc
  bad_reached false reached b = refl

  bad_outside : (in_area reached : Bool) → in_area ≡ false → (bad_if (not in_area || reached) (BadPointer p) then None) ≡ Some (BadPointer p)
  bad_outside true reached a = cc
  bad_outside false reached a = refl

  -- a block of the area that wasn't reached as metadata
  pub goes_index : length marks ≡ 1024 * count_blocks g → is_in_area g p ≡ true → (mark_of marks p).is_metadata ≡ false → Goes g marks as_meta (index p ∷ [])
  goes_index long inside free = record {
    long = length-set marks p (as_metadata (mark_of marks p));
    says = λ before s. says_index before (fits long (low_blocks inside)) s;
    fine = λ before s. bad_none (is_in_area g p) (list_any (λ r. r == p) (reached_after [] before)) inside (reached_is_marked marks before p s ∙ free);
  }

  pub goes_page : (n place : ℕ) → length marks ≡ 1024 * count_blocks g → is_in_area g p ≡ true → (mark_of marks p).is_metadata ≡ false → Goes g marks as_meta (page n place p ∷ [])
  goes_page n place long inside free = record {
    long = length-set marks p (as_metadata (mark_of marks p));
    says = λ before s. says_page n place before (fits long (low_blocks inside)) s;
    fine = λ before s. bad_none (is_in_area g p) (list_any (λ r. r == p) (reached_after [] before)) inside (reached_is_marked marks before p s ∙ free);
  }

  pub goes_content : (n place : ℕ) → length marks ≡ 1024 * count_blocks g → is_in_area g p ≡ true → Goes g marks as_file (content n place p ∷ [])
  goes_content n place long inside = record {
    long = length-set marks p (as_content (mark_of marks p));
    says = λ before s. says_content n place before (fits long (low_blocks inside)) s;
    fine = λ before s. ap (λ (t : Bool). bad_if (not t) (BadPointer p) then None) inside;
  }

  -- a block outside the area
  pub found_outside : is_in_area g p ≡ false → (before : List Met) → (bad_if (not (is_in_area g p) || list_any (λ r. r == p) (reached_after [] before)) (BadPointer p) then None) ≡ Some (BadPointer p)
  found_outside outside before = bad_outside (is_in_area g p) (list_any (λ r. r == p) (reached_after [] before)) outside

  -- one that was reached
  pub found_again : (mark_of marks p).is_metadata ≡ true → (before : List Met) → SaysUpTo marks before
      → (bad_if (not (is_in_area g p) || list_any (λ r. r == p) (reached_after [] before)) (BadPointer p) then None) ≡ Some (BadPointer p)
  found_again is before s = bad_reached (is_in_area g p) (list_any (λ r. r == p) (reached_after [] before)) (reached_is_marked marks before p s ∙ is)
