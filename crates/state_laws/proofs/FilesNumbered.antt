-- The files of a tree by their numbers.
use Rattle.std.proofs.Common.{◌≡◌, ℕ, ◌<◌, Bool, true, false, cond, List, [], ◌∷◌, Some, None, inl, inr, refl, sym, ap, ◌∙◌, arith, length}
use Rattle.std.specs.Prelude.{◌&&◌, ◌||◌, ◌⊎◌, nat_eq, Option}
use Rattle.std.specs.List.{AllByRecursion}
use Rattle.std.specs.Ordering.{ordering_reverse, is_lt, is_eq}
use Rattle.std.specs.declared.cmp.Ordering.{Ordering}
use Rattle.std.specs.declared.cmp.Ordering.TheVariants.{Less, Equal, Greater}
use Rattle.std.specs.Cmp.{tied_itself}
use Rattle.std.specs.FinMap.Entries.{is_sorted, below_all}
use Rattle.std.proofs.lemmas.Bool.Decides.{nat_tests}
use Rattle.place_words.specs.Different.{up}
use Rattle.tree_model.specs.declared.node.Content.{Content}
use Rattle.tree_model.specs.declared.node.Content.TheVariants.{File, Directory}
use Rattle.tree_model.specs.declared.node.Node.{Node}
use Rattle.tree_model.specs.Path.{Path, path_cmp}
use Rattle.tree_model.specs.Shape.{IsTree, shape_of}
use Rattle.tree_model.specs.Tree.{Tree, node_at, is_used, is_directory}
use Rattle.tree_model.proofs.AttemptLaws.{path_total}
use Rattle.tree_model.proofs.StepShapes.{used_at}
use Rattle.volume_model.specs.Machine.{bytes_in, bytes_numbered, block_at}
use Rattle.volume_model.specs.Places.{Spot}
use Rattle.state_laws.specs.Files.{HasPlace, zero_block}
use Rattle.state_laws.proofs.Bytes.{block_of, past_end}

-- ---- the entries of a tree in order are found in it

and_first : (a b : Bool) → (a && b) ≡ true → a ≡ true
and_first true b e = refl
and_first false b e = cc

and_second : (a b : Bool) → (a && b) ≡ true → b ≡ true
and_second true b e = e
and_second false b e = cc

is_less : (o : Ordering) → is_lt o ≡ true → o ≡ Less
is_less Less e = refl
is_less Equal e = cc
is_less Greater e = cc

abbrev Found : Tree → Tree → Type 0
Found whole es = AllByRecursion (λ (e : Path × Node). node_at whole e.0 ≡ Some e.1) es

found_behind : (e : Path × Node) (es fs : Tree) → below_all path_cmp e.0 fs ≡ true → Found es fs → Found (e ∷ es) fs
found_behind e es [] below found = tt
found_behind e es (f ∷ fs) below found =
    let less : path_cmp e.0 f.0 ≡ Less = is_less _ (and_first _ _ below) in
    let apart : path_cmp f.0 e.0 ≡ Greater = path_total.antisymm f.0 e.0 ∙ ap ordering_reverse less in
    (ap (λ (o : Ordering). cond (is_eq o) (Some e.1) (node_at es f.0)) apart ∙ found.0, found_behind e es fs (and_second _ _ below) found.1)

entries_found : (es : Tree) → is_sorted path_cmp es ≡ true → Found es es
entries_found [] sorted = tt
entries_found (e ∷ es) sorted = (
  ap (λ (o : Ordering). cond (is_eq o) (Some e.1) (node_at es e.0)) (tied_itself path_total e.0),
  found_behind e es es (and_first _ _ sorted) (entries_found es (and_second _ _ sorted)),
)

-- two paths of one number are one
pub one_path : (t : Tree) → IsTree t → (p q : Path) (m n : Node) → node_at t p ≡ Some m → node_at t q ≡ Some n → m.number ≡ n.number → p ≡ q
one_path t is p q m n a b e =
    is.shape.one_path p q n.number (is_directory m) (is_directory n) (ap shape_of a ∙ ap (λ (k : ℕ). Some (k, is_directory m)) e) (ap shape_of b)

-- ---- the node of a number, if there is one

-- a node of this number, which tells the bytes of the number
record Numbered (tree es : Tree) (n : ℕ) : Type 0 where
  path : Path
  node : Node
  stands : node_at tree path ≡ Some node
  number : node.number ≡ n
  tells : bytes_numbered n es ≡ bytes_in node.content

-- no node of this number, which has no bytes
record Unnumbered (es : Tree) (n : ℕ) : Type 0 where
  unused : is_used es n ≡ false
  tells : bytes_numbered n es ≡ []

scan : (tree es : Tree) (n : ℕ) → Found tree es → Numbered tree es n ⊎ Unnumbered es n
scan tree [] n found = inr (record { unused = refl; tells = refl })
scan tree (e ∷ es) n found = by (nat_eq e.1.number n) refl (scan tree es n found.1)
  where
    same : (a b : ℕ) → nat_eq a b ≡ true → a ≡ b
    same a b e = grind (arith, nat_tests)

    by : (t : Bool) → nat_eq e.1.number n ≡ t → Numbered tree es n ⊎ Unnumbered es n → Numbered tree (e ∷ es) n ⊎ Unnumbered (e ∷ es) n
    by true is more = inl (record { path = e.0; node = e.1; stands = found.0; number = same e.1.number n is; tells = ap (λ (t : Bool). cond t (bytes_in e.1.content) (bytes_numbered n es)) is })
    by false is (inl some) = inl (record {
      path = some.path;
      node = some.node;
      stands = some.stands;
      number = some.number;
      tells = ap (λ (t : Bool). cond t (bytes_in e.1.content) (bytes_numbered n es)) is ∙ some.tells;
    })
    by false is (inr none) = inr (record {
      unused = ap (λ (t : Bool). t || is_used es n) is ∙ none.unused;
      tells = ap (λ (t : Bool). cond t (bytes_in e.1.content) (bytes_numbered n es)) is ∙ none.tells;
    })

-- ---- files

-- a file of this number with these bytes
pub record HasFile (tree : Tree) (n : ℕ) (bytes : List ℕ) : Type 0 where
  pub path : Path
  pub stands : node_at tree path ≡ Some (record { number = n; content = File bytes })

abbrev pub directory_in : Option Node → Bool
directory_in None = false
directory_in (Some node) = is_directory node

file_in : (path : Path) (tree : Tree) (n : ℕ) (node : Node) (c : Content) → node_at tree path ≡ Some node → node.number ≡ n → node.content ≡ c → node_at tree path ≡ Some (record { number = n; content = c })
file_in path tree n node c stands number content = stands ∙ (λ i. Some (record { number = number i; content = content i }))

-- the bytes of a number are those of its file
pub file_bytes : (tree : Tree) (n : ℕ) (bytes : List ℕ) → IsTree tree → HasFile tree n bytes → bytes_numbered n tree ≡ bytes
file_bytes tree n bytes is file = by (scan tree tree n (entries_found tree is.ordered))
  where
    by : Numbered tree tree n ⊎ Unnumbered tree n → bytes_numbered n tree ≡ bytes
    by (inl some) =
        let path = one_path tree is some.path file.path some.node (record { number = n; content = File bytes }) some.stands file.stands some.number in
        let one : Some some.node ≡ Some (record { number = n; content = File bytes }) = sym some.stands ∙ ap (λ (p : Path). node_at tree p) path ∙ file.stands in
        let same : some.node ≡ record { number = n; content = File bytes } = cc in
        some.tells ∙ ap (λ (m : Node). bytes_in m.content) same
    by (inr none) = let used : is_used tree n ≡ true = used_at tree file.path n false (ap shape_of file.stands) in let no_one : true ≡ false = sym used ∙ none.unused in cc

-- a number is of a file, or of none and has no bytes
pub record SomeFile (tree : Tree) (n : ℕ) : Type 0 where
  pub bytes : List ℕ
  pub file : HasFile tree n bytes

pub record NoFile (tree : Tree) (n : ℕ) : Type 0 where
  pub none : (bytes : List ℕ) → HasFile tree n bytes → ⊥
  pub tells : bytes_numbered n tree ≡ []

pub file_or_none : (tree : Tree) (n : ℕ) → IsTree tree → SomeFile tree n ⊎ NoFile tree n
file_or_none tree n is = by (scan tree tree n (entries_found tree is.ordered))
  where
    no_bytes : (bytes : List ℕ) → bytes_numbered n tree ≡ [] → HasFile tree n bytes → bytes ≡ []
    no_bytes bytes e file = sym (file_bytes tree n bytes is file) ∙ e

    of_content : (some : Numbered tree tree n) (c : Content) → some.node.content ≡ c → SomeFile tree n ⊎ NoFile tree n
    of_content some (File bytes) e = inl (record { bytes = bytes; file = record { path = some.path; stands = file_in some.path tree n some.node (File bytes) some.stands some.number e } })
    of_content some (Directory width) e = inr (record {
      none = λ bytes file.
          (let path = one_path tree is some.path file.path some.node (record { number = n; content = File bytes }) some.stands file.stands some.number in
          let one : Some (record { number = n; content = Directory width }) ≡ Some (record { number = n; content = File bytes }) = sym (file_in some.path tree n some.node (Directory width) some.stands some.number e) ∙ ap (λ (p : Path). node_at tree p) path ∙ file.stands in
          let kinds : true ≡ false = ap directory_in one in
          cc);
      tells = some.tells ∙ ap bytes_in e;
    })

    by : Numbered tree tree n ⊎ Unnumbered tree n → SomeFile tree n ⊎ NoFile tree n
    by (inl some) = of_content some some.node.content refl
    by (inr none) = inr (record {
      none = λ bytes file. (let used : is_used tree n ≡ true = used_at tree file.path n false (ap shape_of file.stands) in let no_one : true ≡ false = sym used ∙ none.unused in cc);
      tells = none.tells;
    })

-- ---- blocks of files

pub file_block : (tree : Tree) (spot : Spot) (bytes : List ℕ) → IsTree tree → HasFile tree spot.0 bytes → block_at tree spot ≡ block_of bytes spot.1
file_block tree spot bytes is file = ap (λ (bs : List ℕ). block_of bs spot.1) (file_bytes tree spot.0 bytes is file)

pub no_file_block : (tree : Tree) (spot : Spot) → NoFile tree spot.0 → block_at tree spot ≡ zero_block
no_file_block tree spot none = ap (λ (bs : List ℕ). block_of bs spot.1) none.tells ∙ past_end [] spot.1 (omega arith)

pub place_file : (tree : Tree) (spot : Spot) (has : HasPlace tree spot) → HasFile tree spot.0 has.bytes
place_file tree spot has = record { path = has.path; stands = has.stands }

pub file_place : (tree : Tree) (spot : Spot) (bytes : List ℕ) → HasFile tree spot.0 bytes → spot.1 < up (length bytes) 4096 → HasPlace tree spot
file_place tree spot bytes file within = record { path = file.path; bytes = bytes; stands = file.stands; within = within }

-- a number has one file
pub one_file : (tree : Tree) (n : ℕ) (a b : List ℕ) → IsTree tree → HasFile tree n a → HasFile tree n b → a ≡ b
one_file tree n a b is f g = sym (file_bytes tree n a is f) ∙ file_bytes tree n b is g
