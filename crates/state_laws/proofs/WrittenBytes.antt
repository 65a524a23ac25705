-- Which places of a file change in a write and in a truncation.
use Rattle.std.proofs.Common.{◌≡◌, ℕ, zero, suc, ◌+◌, ◌-◌, ◌*◌, ◌/◌, ◌%◌, ◌<◌, ◌≤◌, Bool, true, false, not, cond, List, [], ◌∷◌, ◌++◌, length, drop, Some, refl, sym, ap, subst, ◌∙◌, arith, slice_index_or, length-append, length-drop}
use Rattle.std.specs.Prelude.{◌&&◌, ◌||◌, nat_eq, nat_le, nat_lt, Contains}
use Rattle.std.proofs.lemmas.Bool.Decides.{nat_tests}
use Rattle.std.proofs.lemmas.List.{get_or_past}
use Rattle.place_words.specs.Different.{up}
use Rattle.tree_model.specs.declared.node.Content.TheVariants.{File}
use Rattle.tree_model.specs.Tree.{resized, written}
use Rattle.tree_model.specs.Touched.{places, cut_place}
use Rattle.tree_model.proofs.ByteLaws.{length_resized, write_keeps, truncate_keeps}
use Rattle.volume_model.specs.Done.{is_cut}
use Rattle.volume_model.specs.Places.{Spot, spot_eq, has_spot}
use Rattle.state_laws.proofs.Bytes.{block_of, same_block, is_less, is_not_less}
use Rattle.state_laws.proofs.FilesFollow.{FileFollows}

-- ---- spots

spot_itself : (s : Spot) → spot_eq s s ≡ true
spot_itself s = grind (arith, nat_tests)

pub contains_has : (spots : List Spot) (s : Spot) → Contains spots s → has_spot spots s ≡ true
contains_has [] s (k, less, is) = absurd (omega (arith, less))
contains_has (t ∷ ts) s (zero, less, is) = let own : spot_eq t s ≡ true = subst (λ (x : Spot). spot_eq x s ≡ true) (sym is) (spot_itself s) in ap (λ (u : Bool). u || has_spot ts s) own
contains_has (t ∷ ts) s (suc k, less, is) = later (spot_eq t s) (contains_has ts s (k, omega (arith, less), is))
  where
    later : (a : Bool) → has_spot ts s ≡ true → (a || has_spot ts s) ≡ true
    later true e = refl
    later false e = e

none_contained : (spots : List Spot) (s : Spot) → has_spot spots s ≡ false → Contains spots s → ⊥
none_contained spots s none contained = let has = contains_has spots s contained in let no_one : true ≡ false = sym has ∙ none in cc

at_is : (n place k : ℕ) → k < 4096 → (4096 * place + k) / 4096 ≡ place
at_is n place k less = omega (arith, less)

-- ---- a write

written_length : (bytes : List ℕ) (offset : ℕ) (more : List ℕ) → length (written bytes offset more) ≡ offset + length more + (length bytes - (offset + length more))
written_length bytes offset more =
    length-append (resized bytes offset ++ more) (drop (offset + length more) bytes)
    ∙ (λ i. (length-append (resized bytes offset) more ∙ ap (λ (n : ℕ). n + length more) (length_resized bytes offset)) i + length-drop (offset + length more) bytes i)

-- in a span of places
record Within (n first count : ℕ) (spot : Spot) : Type 0 where
  number : spot.0 ≡ n
  from : first ≤ spot.1
  below : spot.1 < first + count

places_within : (n first count : ℕ) (spot : Spot) → has_spot (places n first count) spot ≡ true → Within n first count spot
unfolding places
places_within n first zero spot e = cc
places_within n first (suc count) spot e = by (nat_eq n spot.0) (nat_eq first spot.1) refl refl e (places_within n (first + 1) count spot)
  where
    same : (a b : ℕ) → nat_eq a b ≡ true → b ≡ a
    same a b e = grind (arith, nat_tests)

    wider : Within n (first + 1) count spot → Within n first (suc count) spot
    wider w = record { number = w.number; from = omega (arith, w.from); below = omega (arith, w.below) }

    by : (t u : Bool) → nat_eq n spot.0 ≡ t → nat_eq first spot.1 ≡ u → ((t && u) || has_spot (places n (first + 1) count) spot) ≡ true
        → (has_spot (places n (first + 1) count) spot ≡ true → Within n (first + 1) count spot) → Within n first (suc count) spot
    by true true a b e more = let here = same first spot.1 b in record { number = same n spot.0 a; from = omega (arith, here); below = omega (arith, here) }
    by true false a b e more = wider (more e)
    by false u a b e more = wider (more e)

module _ (k offset : ℕ) (bytes more : List ℕ) (some : 0 < length more) where
  abbrev spots : List Spot
  spots = places k (offset / 4096) ((offset + length more - 1) / 4096 + 1 - offset / 4096)

  long : length (written bytes offset more) ≡ offset + length more + (length bytes - (offset + length more))
  long = written_length bytes offset more

  last_within : (first last size place len : ℕ) → first ≡ offset / 4096 → last ≡ (offset + len - 1) / 4096 → 0 < len → offset + len ≤ size → place < first + (last + 1 - first) → place < up size 4096
  last_within first last size place len a b c d e = omega (arith, a, b, c, d, e)

  untouched : (place : ℕ) → has_spot spots (k, place) ≡ false → block_of (written bytes offset more) place ≡ block_of bytes place
  untouched place none = same_block bytes (written bytes offset more) place (λ j less. by (nat_lt (4096 * place) (length (written bytes offset more))) refl j less)
    where
      by : (t : Bool) → nat_lt (4096 * place) (length (written bytes offset more)) ≡ t → (j : ℕ) → j < 4096 → slice_index_or (written bytes offset more) (4096 * place + j) 0 ≡ slice_index_or bytes (4096 * place + j) 0
      by true is j less =
          let here = at_is k place j less in
          let inside = is_less (4096 * place) (length (written bytes offset more)) is in
          write_keeps k offset bytes more some (4096 * place + j) (omega (arith, here, inside)) (λ contained. none_contained spots (k, place) none (subst (λ (p : ℕ). Contains spots (k, p)) here contained))
      by false is j less =
          let past = is_not_less (4096 * place) (length (written bytes offset more)) is in
          get_or_past (written bytes offset more) (4096 * place + j) 0 (omega (arith, past)) ∙ sym (get_or_past bytes (4096 * place + j) 0 (omega (arith, past, long)))

  pub write_follows : FileFollows k bytes (written bytes offset more) (λ spot. false) (has_spot spots)
  write_follows = record {
    cut_own = λ spot e. cc;
    touched_own = λ spot e.
        (let w = places_within k (offset / 4096) ((offset + length more - 1) / 4096 + 1 - offset / 4096) spot e in
        (w.number, last_within (offset / 4096) ((offset + length more - 1) / 4096) (length (written bytes offset more)) spot.1 (length more) refl refl some (omega (arith, long)) w.below));
    same = λ place e f. untouched place f;
    stays = λ place e within. omega (arith, long, within);
  }

-- ---- a truncation

abbrev cut_at : ℕ → ℕ → Spot → Bool
cut_at k size = is_cut (Some (record { number = k; blocks = up size 4096 }))

not_cut : (k size place : ℕ) → cut_at k size (k, place) ≡ false → place < up size 4096
not_cut k size place e = by (nat_eq k k) refl (nat_le (up size 4096) place) refl e
  where
    itself : (k : ℕ) → nat_eq k k ≡ true
    itself k = grind (arith, nat_tests)

    lower : (a b : ℕ) → nat_le a b ≡ false → b < a
    lower a b e = grind (arith, nat_tests)

    by : (t : Bool) → nat_eq k k ≡ t → (u : Bool) → nat_le (up size 4096) place ≡ u → (t && u) ≡ false → place < up size 4096
    by true a true b e = cc
    by true a false b e = lower (up size 4096) place b
    by false a u b e = let no_one : true ≡ false = sym (itself k) ∙ a in cc

was_cut : (k size : ℕ) (spot : Spot) → cut_at k size spot ≡ true → (spot.0 ≡ k) × (up size 4096 ≤ spot.1)
was_cut k size spot e = by (nat_eq spot.0 k) (nat_le (up size 4096) spot.1) refl refl e
  where
    same : (a b : ℕ) → nat_eq a b ≡ true → a ≡ b
    same a b e = grind (arith, nat_tests)

    least : (a b : ℕ) → nat_le a b ≡ true → a ≤ b
    least a b e = grind (arith, nat_tests)

    by : (t u : Bool) → nat_eq spot.0 k ≡ t → nat_le (up size 4096) spot.1 ≡ u → (t && u) ≡ true → (spot.0 ≡ k) × (up size 4096 ≤ spot.1)
    by true true a b e = (same spot.0 k a, least (up size 4096) spot.1 b)
    by true false a b e = cc
    by false u a b e = cc

module _ (k size : ℕ) (bytes : List ℕ) where
  size_is : length (resized bytes size) ≡ size
  size_is = length_resized bytes size

  below_end : (place : ℕ) → place < up size 4096 → 4096 * place < size
  below_end place less = omega (arith, less)

  not_touched : (place : ℕ) → cut_at k size (k, place) ≡ false → has_spot (cut_place k (File bytes) size) (k, place) ≡ false → block_of (resized bytes size) place ≡ block_of bytes place
  not_touched place e none = same_block bytes (resized bytes size) place (λ j less.
      let here = at_is k place j less in
      let inside = below_end place (not_cut k size place e) in
      truncate_keeps k size bytes (4096 * place + j) (omega (arith, here, inside, size_is)) (λ contained. none_contained (cut_place k (File bytes) size) (k, place) none (subst (λ (p : ℕ). Contains (cut_place k (File bytes) size) (k, p)) here contained)))

  one_touched : (t u : Bool) (spot : Spot) → nat_eq (size % 4096) 0 ≡ u → has_spot (cond (t && not u) ((k, size / 4096) ∷ []) []) spot ≡ true → (spot.0 ≡ k) × (spot.1 < up (length (resized bytes size)) 4096)
  one_touched false u spot is e = cc
  one_touched true true spot is e = cc
  one_touched true false spot is e = by (nat_eq k spot.0) (nat_eq (size / 4096) spot.1) refl refl e
    where
      same : (a b : ℕ) → nat_eq a b ≡ true → b ≡ a
      same a b e = grind (arith, nat_tests)

      apart : (a b : ℕ) → nat_eq a b ≡ false → a ≡ b → ⊥
      apart a b e same = absurd (grind (arith, nat_tests))

      under : (s : ℕ) → (s % 4096 ≡ 0 → ⊥) → s / 4096 < up s 4096
      under s odd = elim_cases (nat_lt 0 (s % 4096)) refl
        where
          elim_cases : (t : Bool) → nat_lt 0 (s % 4096) ≡ t → s / 4096 < up s 4096
          elim_cases true e = let more = is_less 0 (s % 4096) e in omega (arith, more)
          elim_cases false e = let none = is_not_less 0 (s % 4096) e in absurd (odd (omega (arith, none)))

      by : (v w : Bool) → nat_eq k spot.0 ≡ v → nat_eq (size / 4096) spot.1 ≡ w → ((v && w) || false) ≡ true → (spot.0 ≡ k) × (spot.1 < up (length (resized bytes size)) 4096)
      by true true a b e =
          let place : spot.1 ≡ size / 4096 = same (size / 4096) spot.1 b in
          let less = under size (apart (size % 4096) 0 is) in
          (same k spot.0 a, subst (λ (n : ℕ). spot.1 < up n 4096) (sym size_is) (subst (λ (p : ℕ). p < up size 4096) (sym place) less))
      by true false a b e = cc
      by false w a b e = cc

  pub truncate_follows : FileFollows k bytes (resized bytes size) (is_cut (Some (record { number = k; blocks = up size 4096 }))) (has_spot (cut_place k (File bytes) size))
  truncate_follows = record {
    cut_own = λ spot e. (let here = was_cut k size spot e in (here.0, omega (arith, here.1, size_is)));
    touched_own = λ spot e. one_touched (nat_lt size (length bytes)) (nat_eq (size % 4096) 0) spot refl e;
    same = not_touched;
    stays = λ place e within. subst (λ (n : ℕ). place < up n 4096) (sym size_is) (not_cut k size place e);
  }
