-- What becomes of the places of files, by what becomes of the files.
use Rattle.std.proofs.Common.{◌≡◌, ℕ, ◌*◌, ◌<◌, ◌≤◌, Bool, true, false, not, cond, List, [], length, Some, None, inl, inr, refl, sym, ap, subst, ◌∙◌, arith}
use Rattle.std.specs.Prelude.{◌&&◌, ◌⊎◌, Option, nat_eq, nat_le}
use Rattle.std.proofs.lemmas.Bool.Decides.{nat_tests}
use Rattle.place_words.specs.Different.{up}
use Rattle.tree_model.specs.declared.node.Content.TheVariants.{File}
use Rattle.tree_model.specs.declared.node.Node.{Node}
use Rattle.tree_model.specs.Path.{Path}
use Rattle.tree_model.specs.Shape.{IsTree}
use Rattle.tree_model.specs.Tree.{Tree, node_at, with_node, without}
use Rattle.tree_model.proofs.AttemptLaws.{put_at}
use Rattle.tree_model.proofs.Fronts.{tie, tie_is, tie_itself, tie_same}
use Rattle.tree_model.proofs.Lookups.{without_at}
use Rattle.volume_model.specs.Done.{is_cut}
use Rattle.volume_model.specs.Machine.{block_at}
use Rattle.volume_model.specs.Places.{Spot}
use Rattle.state_laws.specs.Files.{HasPlace, PlacesFollow, zero_block}
use Rattle.state_laws.proofs.Bytes.{block_of, past_end}
use Rattle.state_laws.proofs.FilesNumbered.{one_path, HasFile, SomeFile, NoFile, file_or_none, file_block, no_file_block, place_file, file_place, one_file}

abbrev number_in : Option Node → ℕ
number_in None = 0
number_in (Some node) = node.number

equal : (a b : ℕ) → nat_eq a b ≡ true → a ≡ b
equal a b e = grind (arith, nat_tests)

unequal : (a b : ℕ) → nat_eq a b ≡ false → a ≡ b → ⊥
unequal a b e same = absurd (grind (arith, nat_tests))

-- ---- a number whose file stays

pub same_of_number : (old new : Tree) → IsTree old → IsTree new → (spot : Spot) → ((bytes : List ℕ) → HasFile old spot.0 bytes → HasFile new spot.0 bytes)
    → ((bytes : List ℕ) → HasFile new spot.0 bytes → HasFile old spot.0 bytes ⊎ (bytes ≡ [])) → block_at new spot ≡ block_at old spot
same_of_number old new old_is new_is spot up down = by (file_or_none old spot.0 old_is) (file_or_none new spot.0 new_is)
  where
    from : NoFile old spot.0 → (bytes : List ℕ) → HasFile new spot.0 bytes → HasFile old spot.0 bytes ⊎ (bytes ≡ []) → block_at new spot ≡ zero_block
    from none bytes file (inl was) = absurd (none.none bytes was)
    from none bytes file (inr empty) = file_block new spot bytes new_is file ∙ past_end bytes spot.1 (subst (λ (bs : List ℕ). length bs ≤ 4096 * spot.1) (sym empty) (omega arith))

    by : SomeFile old spot.0 ⊎ NoFile old spot.0 → SomeFile new spot.0 ⊎ NoFile new spot.0 → block_at new spot ≡ block_at old spot
    by (inl some) any = file_block new spot some.bytes new_is (up some.bytes some.file) ∙ sym (file_block old spot some.bytes old_is some.file)
    by (inr none) (inl some) = from none some.bytes some.file (down some.bytes some.file) ∙ sym (no_file_block old spot none)
    by (inr none) (inr gone) = no_file_block new spot gone ∙ sym (no_file_block old spot none)

pub stays_of_number : (old new : Tree) (spot : Spot) → ((bytes : List ℕ) → HasFile old spot.0 bytes → HasFile new spot.0 bytes) → HasPlace old spot → HasPlace new spot
stays_of_number old new spot up has = file_place new spot has.bytes (up has.bytes (place_file old spot has)) has.within

-- ---- every file stays, and a new one is empty

pub files_stay : (old new : Tree) → IsTree old → IsTree new → ((n : ℕ) (bytes : List ℕ) → HasFile old n bytes → HasFile new n bytes)
    → ((n : ℕ) (bytes : List ℕ) → HasFile new n bytes → HasFile old n bytes ⊎ (bytes ≡ [])) → PlacesFollow old new (λ spot. false) (λ spot. false)
files_stay old new old_is new_is up down = record {
  cut = λ spot e. cc;
  touched = λ spot e. absurd (apart e);
  same = λ spot e f. same_of_number old new old_is new_is spot (up spot.0) (down spot.0);
  stays = λ spot e has. stays_of_number old new spot (up spot.0) has;
}
  where
    apart : false ≡ true → ⊥
    apart e = cc

-- ---- one file gets other bytes

-- what is known of the file of this number, which had the bytes before and has those after
pub record FileFollows (k : ℕ) (before after : List ℕ) (cut touched : Spot → Bool) : Type 0 where
  pub cut_own : (spot : Spot) → cut spot ≡ true → (spot.0 ≡ k) × (length after ≤ 4096 * spot.1)
  pub touched_own : (spot : Spot) → touched spot ≡ true → (spot.0 ≡ k) × (spot.1 < up (length after) 4096)
  pub same : (place : ℕ) → cut (k, place) ≡ false → touched (k, place) ≡ false → block_of after place ≡ block_of before place
  pub stays : (place : ℕ) → cut (k, place) ≡ false → place < up (length before) 4096 → place < up (length after) 4096

module _ (old : Tree) (path : Path) (k : ℕ) (before after : List ℕ) (stood : node_at old path ≡ Some (record { number = k; content = File before })) where
  abbrev put : Tree
  put = with_node old path (record { number = k; content = File after })

  own : HasFile put k after
  own = record {
    path = path;
    stands = put_at old path (record { number = k; content = File after }) path ∙ ap (λ (t : Bool). cond t (Some (record { number = k; content = File after })) (node_at old path)) (tie_itself path);
  }

  other_up : (n : ℕ) (bytes : List ℕ) → nat_eq n k ≡ false → HasFile old n bytes → HasFile put n bytes
  other_up n bytes apart file = record { path = file.path; stands = put_at old path (record { number = k; content = File after }) file.path ∙ by (tie file.path path) refl }
    where
      by : (t : Bool) → tie file.path path ≡ t → cond t (Some (record { number = k; content = File after })) (node_at old file.path) ≡ Some (record { number = n; content = File bytes })
      by true same =
          let one : Some (record { number = n; content = File bytes }) ≡ Some (record { number = k; content = File before }) = sym file.stands ∙ ap (λ (p : Path). node_at old p) (tie_is file.path path same) ∙ stood in
          absurd (unequal n k apart (ap number_in one))
      by false same = file.stands

  other_down : (n : ℕ) (bytes : List ℕ) → nat_eq n k ≡ false → HasFile put n bytes → HasFile old n bytes
  other_down n bytes apart file = record { path = file.path; stands = by (tie file.path path) (sym (put_at old path (record { number = k; content = File after }) file.path) ∙ file.stands) }
    where
      by : (t : Bool) → cond t (Some (record { number = k; content = File after })) (node_at old file.path) ≡ Some (record { number = n; content = File bytes }) → node_at old file.path ≡ Some (record { number = n; content = File bytes })
      by true is = absurd (unequal n k apart (sym (ap number_in is)))
      by false is = is

  pub file_follows : IsTree old → IsTree put → (cut touched : Spot → Bool) → FileFollows k before after cut touched → PlacesFollow old put cut touched
  file_follows old_is new_is cut touched known = record {
    cut = λ spot e.
        (let here = known.cut_own spot e in
        file_block put spot after new_is (own_at spot here.0) ∙ past_end after spot.1 here.1);
    touched = λ spot e. (let here = known.touched_own spot e in file_place put spot after (own_at spot here.0) here.1);
    same = λ spot e f. same_by (nat_eq spot.0 k) spot refl e f;
    stays = λ spot e has. stays_by (nat_eq spot.0 k) spot refl e has;
  }
    where
      own_at : (spot : Spot) → spot.0 ≡ k → HasFile put spot.0 after
      own_at spot is = subst (λ (n : ℕ). HasFile put n after) (sym is) own

      was_at : (spot : Spot) → spot.0 ≡ k → HasFile old spot.0 before
      was_at spot is = subst (λ (n : ℕ). HasFile old n before) (sym is) (record { path = path; stands = stood })

      at : (f : Spot → Bool) (spot : Spot) → spot.0 ≡ k → f spot ≡ false → f (k, spot.1) ≡ false
      at f spot is e = subst (λ (n : ℕ). f (n, spot.1) ≡ false) is e

      same_by : (t : Bool) (spot : Spot) → nat_eq spot.0 k ≡ t → cut spot ≡ false → touched spot ≡ false → block_at put spot ≡ block_at old spot
      same_by true spot is e f =
          let here = equal spot.0 k is in
          file_block put spot after new_is (own_at spot here) ∙ known.same spot.1 (at cut spot here e) (at touched spot here f) ∙ sym (file_block old spot before old_is (was_at spot here))
      same_by false spot is e f = same_of_number old put old_is new_is spot (λ bytes file. other_up spot.0 bytes is file) (λ bytes file. inl (other_down spot.0 bytes is file))

      stays_by : (t : Bool) (spot : Spot) → nat_eq spot.0 k ≡ t → cut spot ≡ false → HasPlace old spot → HasPlace put spot
      stays_by true spot is e has =
          let here = equal spot.0 k is in
          let same : has.bytes ≡ before = one_file old spot.0 has.bytes before old_is (place_file old spot has) (was_at spot here) in
          file_place put spot after (own_at spot here) (known.stays spot.1 (at cut spot here e) (subst (λ (bs : List ℕ). spot.1 < up (length bs) 4096) same has.within))
      stays_by false spot is e has = stays_of_number old put spot (λ bytes file. other_up spot.0 bytes is file) has

-- ---- a node leaves

module _ (old : Tree) (path : Path) (node : Node) (stood : node_at old path ≡ Some node) (old_is : IsTree old) (new_is : IsTree (without old path)) where
  left_stands : (q : Path) (x : Node) → node_at (without old path) q ≡ Some x → (tie path q ≡ false) × (node_at old q ≡ Some x)
  left_stands q x e = by (tie path q) refl (sym (without_at old path q) ∙ e)
    where
      by : (t : Bool) → tie path q ≡ t → cond (not t) (node_at old q) None ≡ Some x → (t ≡ false) × (node_at old q ≡ Some x)
      by true same is = cc
      by false same is = (refl, is)

  left_down : (n : ℕ) (bytes : List ℕ) → HasFile (without old path) n bytes → HasFile old n bytes
  left_down n bytes file = record { path = file.path; stands = (left_stands file.path (record { number = n; content = File bytes }) file.stands).1 }

  left_up : (n : ℕ) (bytes : List ℕ) → nat_eq n node.number ≡ false → HasFile old n bytes → HasFile (without old path) n bytes
  left_up n bytes apart file = record { path = file.path; stands = without_at old path file.path ∙ by (tie path file.path) refl }
    where
      by : (t : Bool) → tie path file.path ≡ t → cond (not t) (node_at old file.path) None ≡ Some (record { number = n; content = File bytes })
      by true same =
          let one : Some (record { number = n; content = File bytes }) ≡ Some node = sym file.stands ∙ ap (λ (p : Path). node_at old p) (sym (tie_is path file.path same)) ∙ stood in
          absurd (unequal n node.number apart (ap number_in one))
      by false same = file.stands

  gone : (n : ℕ) → n ≡ node.number → NoFile (without old path) n
  gone n same = by (file_or_none (without old path) n new_is)
    where
      by : SomeFile (without old path) n ⊎ NoFile (without old path) n → NoFile (without old path) n
      by (inr none) = none
      by (inl some) =
          let left = left_stands some.file.path (record { number = n; content = File some.bytes }) some.file.stands in
          let path_is = one_path old old_is path some.file.path node (record { number = n; content = File some.bytes }) stood left.1 (sym same) in
          let again : true ≡ false = sym (tie_same path some.file.path path_is) ∙ left.0 in
          cc

  pub node_leaves : PlacesFollow old (without old path) (is_cut (Some (record { number = node.number; blocks = 0 }))) (λ spot. false)
  node_leaves = record {
    cut = λ spot e. no_file_block (without old path) spot (gone spot.0 (equal spot.0 node.number (first (nat_eq spot.0 node.number) _ e)));
    touched = λ spot e. absurd (apart e);
    same = λ spot e f.
        (let other = other_number spot e in
        same_of_number old (without old path) old_is new_is spot (λ bytes file. left_up spot.0 bytes other file) (λ bytes file. inl (left_down spot.0 bytes file)));
    stays = λ spot e has. (let other = other_number spot e in stays_of_number old (without old path) spot (λ bytes file. left_up spot.0 bytes other file) has);
  }
    where
      apart : false ≡ true → ⊥
      apart e = cc

      first : (a b : Bool) → (a && b) ≡ true → a ≡ true
      first true b e = refl
      first false b e = cc

      other : (t : Bool) (place : ℕ) → (t && nat_le 0 place) ≡ false → t ≡ false
      other true place e = grind (arith, nat_tests)
      other false place e = refl

      other_number : (spot : Spot) → is_cut (Some (record { number = node.number; blocks = 0 })) spot ≡ false → nat_eq spot.0 node.number ≡ false
      other_number spot e = other (nat_eq spot.0 node.number) spot.1 e
