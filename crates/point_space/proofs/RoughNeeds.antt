-- What planning a number takes at most.
use Rattle.std.proofs.Common.{◌≡◌, ℕ, ◌+◌, ◌/◌, ◌<◌, ◌≤◌, Bool, true, false, cond, List, [], ◌∷◌, length, map, filter, Some, refl, sym, ap, subst, ◌∙◌, arith}
use Rattle.std.specs.Prelude.{◌||◌, nat_eq, nat_le, nat_lt, All, option_map}
use Rattle.std.proofs.lemmas.Bool.Decides.{nat_tests}
use Rattle.std.proofs.lemmas.List.Elements.{All-head, All-tail, All-weaker}
use Rattle.vol_numbers.specs.declared.block.Block.{Block}
use Rattle.vol_numbers.specs.declared.runs.Change.{Change}
use Rattle.block_format.specs.declared.inode.Inode.{Inode}
use Rattle.block_format.specs.declared.inode.Inode.TheVariants.{Unused, File, Directory}
use Rattle.block_tree.specs.Edit.{leaves_of}
use Rattle.dir_slots.specs.Pages.{pages_for}
use Rattle.dirty_store.specs.Overlay.{Overlay}
use Rattle.tree_plan.specs.Pages.{is_written, written_pages, width_with}
use Rattle.tree_plan.proofs.SlotLaws.{width_is}
use Rattle.node_table.specs.Held.{info}
use Rattle.node_table.specs.declared.held.NodeInfo.TheVariants as infos
use Rattle.place_words.specs.Different.{different, is_among, span, up}
use Rattle.place_words.specs.Index.{index_blocks}
use Rattle.place_words.proofs.Totals.{different_part, image_to}
use Rattle.point_model.specs.Holding.{HoldsMachine, inode_now, node_now, as_node, slots_now, slots_left, kind_of}
use Rattle.point_space.specs.Metadata.{node_metadata}
use Rattle.point_space.specs.Needs.{RoughNeeds, ShortWhere}
use Rattle.point_space.proofs.NewMetadata.{left_has, file_metadata, directory_metadata}
use Rattle.point_space.proofs.NodeMetas.{span_length}
use Rattle.point_space.proofs.TreeSums.{some_numbers}
use Rattle.state_laws.specs.States.{IsCoherent}
use Rattle.tree_model.specs.declared.node.Content.TheVariants as content
use Rattle.volume_model.specs.Machine.{Machine, Rules, free_of}
use Rattle.volume_model.specs.Places.{has_spot, spots_of, places_of}
use Rattle.volume_model.specs.Short.{kept_and_dirty}
use Rattle.volume_model.specs.Space.{metadata_blocks}

-- ---- leaves

leaves_in : (ps : List ℕ) (cs : List Change) → All (λ (c : Change). is_among ps c.place ≡ true) cs → (j : ℕ) → is_among (leaves_of cs) j ≡ true → is_among (map (λ (k : ℕ). k / 1024) ps) j ≡ true
leaves_in ps [] all j among = cc
leaves_in ps (c ∷ cs) all j among = by (nat_eq (c.place / 1024) j) refl among (leaves_in ps cs (All-tail (λ (c : Change). is_among ps c.place ≡ true) c cs all) j)
  where
    by : (t : Bool) → nat_eq (c.place / 1024) j ≡ t → (t || is_among (leaves_of cs) j) ≡ true → (is_among (leaves_of cs) j ≡ true → is_among (map (λ (k : ℕ). k / 1024) ps) j ≡ true) → is_among (map (λ (k : ℕ). k / 1024) ps) j ≡ true
    by true is among more =
        let same : c.place / 1024 ≡ j = grind (arith, nat_tests) in
        subst (λ (l : ℕ). is_among (map (λ (k : ℕ). k / 1024) ps) l ≡ true) same (image_to (λ (k : ℕ). k / 1024) c.place ps (All-head (λ (c : Change). is_among ps c.place ≡ true) c cs all))
    by false is among more = more among

-- changes at some places touch at most the leaves of these
leaves_most : (ps : List ℕ) (cs : List Change) → All (λ (c : Change). is_among ps c.place ≡ true) cs → different (leaves_of cs) ≤ different (map (λ (k : ℕ). k / 1024) ps)
leaves_most ps cs all = different_part (leaves_of cs) (map (λ (k : ℕ). k / 1024) ps) (leaves_in ps cs all)

-- where a node needs an index, it has each of the leaves
leaves_needed : (blocks : ℕ) (ps : List ℕ) → nat_le blocks 1 ≡ false → different (map (λ (k : ℕ). k / 1024) ps) ≤ index_blocks blocks ps
leaves_needed blocks [] more = omega arith
leaves_needed blocks (p ∷ ps) more =
    let whole : index_blocks blocks (p ∷ ps) ≡ different (map (λ (k : ℕ). k / 1024) (p ∷ ps)) + cond (nat_lt 1024 blocks) 1 0 =
    ap (λ (t : Bool). cond t 0 (different (map (λ (k : ℕ). k / 1024) (p ∷ ps)) + cond (nat_lt 1024 blocks) 1 0)) more in
    omega (arith, whole)

-- changes below the end of a node, at places that it has
changes_need : (blocks : ℕ) (ps : List ℕ) (cs : List Change) → All (λ (c : Change). is_among ps c.place ≡ true) cs → All (λ (c : Change). c.place < blocks) cs → different (leaves_of cs) ≤ index_blocks blocks ps + 1
changes_need blocks ps cs there below = by (nat_le blocks 1) refl
  where
    first : nat_le blocks 1 ≡ true → All (λ (c : Change). is_among (0 ∷ []) c.place ≡ true) cs
    first few = All-weaker (λ (c : Change). c.place < blocks) (λ (c : Change). is_among (0 ∷ []) c.place ≡ true) (λ c lt. here c.place lt) cs below
      where
        le : blocks ≤ 1
        le = grind (arith, nat_tests)

        here : (place : ℕ) → place < blocks → is_among (0 ∷ []) place ≡ true
        here place lt = let zero_place : place ≡ 0 = omega (arith, lt, le) in ap (is_among (0 ∷ [])) zero_place

    by : (t : Bool) → nat_le blocks 1 ≡ t → different (leaves_of cs) ≤ index_blocks blocks ps + 1
    by true few = let one : different (leaves_of cs) ≤ 1 = leaves_most (0 ∷ []) cs (first few) in omega (arith, one)
    by false more = omega (arith, leaves_most ps cs there, leaves_needed blocks ps more)

fewer : (f : ℕ → Bool) (ns : List ℕ) → length (filter f ns) ≤ length ns
fewer f [] = omega arith
fewer f (n ∷ ns) = by (f n) (fewer f ns)
  where
    by : (t : Bool) → length (filter f ns) ≤ length ns → length (cond t (n ∷ filter f ns) (filter f ns)) ≤ length (n ∷ ns)
    by true more = omega (arith, more)
    by false more = omega (arith, more)

-- ---- a file and a directory

or_later : (a b : Bool) → b ≡ true → (a || b) ≡ true
or_later true b e = refl
or_later false b e = e

module _ (r : Rules) (old : List Block) (o : Overlay) (m : Machine) (n : ℕ) (changes : List Change) (coherent : IsCoherent r m) (holds : HoldsMachine old o m)
    (dirty : All (λ (c : Change). has_spot m.dirty (n, c.place) ≡ true) changes) where
  -- the places that the point leaves have those of the changes
  there : All (λ (c : Change). is_among (places_of (kept_and_dirty m) n) c.place ≡ true) changes
  there = All-weaker (λ (c : Change). has_spot m.dirty (n, c.place) ≡ true) (λ (c : Change). is_among (places_of (kept_and_dirty m) n) c.place ≡ true)
      (λ c is. left_has m n c.place ∙ ap (λ (t : Bool). t || has_spot (spots_of m.kept) (n, c.place)) is) changes dirty

  -- and these are below the size
  below : (size : ℕ) → option_map info (node_now old o n) ≡ Some (infos.File size) → All (λ (c : Change). c.place < up size 4096) changes
  below size tells = All-weaker (λ (c : Change). has_spot m.dirty (n, c.place) ≡ true) (λ (c : Change). c.place < up size 4096) (λ c is. under c.place is) changes dirty
    where
      same_size : (a b : ℕ) → Some (infos.File a) ≡ Some (infos.File b) → a ≡ b
      same_size a b e = cc

      under : (place : ℕ) → has_spot m.dirty (n, place) ≡ true → place < up size 4096
      under place is =
          let has = coherent.in_files (n, place) (or_later _ _ is) in
          let same = same_size _ _ (sym tells ∙ holds.nodes.each has.path (record { number = n; content = content.File has.bytes }) has.stands) in
          subst (λ (k : ℕ). place < up k 4096) (sym same) has.within

  file : kind_of (inode_now old o n) ≡ Some false → different (leaves_of changes) + 3 ≤ node_metadata m.tree (kept_and_dirty m) n + 8
  file kind = by (inode_now old o n) refl kind
    where
      by : (x : Inode) → inode_now old o n ≡ x → kind_of x ≡ Some false → different (leaves_of changes) + 3 ≤ node_metadata m.tree (kept_and_dirty m) n + 8
      by Unused is e = cc
      by (Directory width height ptr) is e = cc
      by (File size height ptr) is e =
          let tells : option_map info (node_now old o n) ≡ Some (infos.File size) = ap (λ (x : Inode). option_map info (as_node x (slots_now old o n))) is in
          omega (
            arith,
            file_metadata (node_now old o) m.tree (kept_and_dirty m) coherent.tree holds.nodes n size tells,
            changes_need (up size 4096) (places_of (kept_and_dirty m) n) changes there (below size tells),
          )

  directory : kind_of (inode_now old o n) ≡ Some true → length (written_pages (slots_left old o n) o n) + 7 ≤ node_metadata m.tree (kept_and_dirty m) n + 8
  directory kind = by (inode_now old o n) refl kind
    where
      by : (x : Inode) → inode_now old o n ≡ x → kind_of x ≡ Some true → length (written_pages (slots_left old o n) o n) + 7 ≤ node_metadata m.tree (kept_and_dirty m) n + 8
      by Unused is e = cc
      by (File size height ptr) is e = cc
      by (Directory width height ptr) is e =
          let tells : option_map info (node_now old o n) ≡ Some (infos.Directory (length (slots_now old o n))) = ap (λ (x : Inode). option_map info (as_node x (slots_now old o n))) is in
          let pages = pages_for (width_with (slots_left old o n) o n) in
          omega (
            arith,
            directory_metadata (node_now old o) m.tree (kept_and_dirty m) coherent.tree holds.nodes n (length (slots_now old o n)) tells,
            width_is old o n (slots_left old o n) refl,
            fewer (is_written (slots_left old o n) o n) (span 0 pages),
            span_length 0 pages,
          )

pub rough_needs : RoughNeeds
rough_needs r old o m n changes coherent holds dirty = record {
  file = file r old o m n changes coherent holds dirty;
  directory = directory r old o m n changes coherent holds dirty;
}

-- ---- short points

pub short_where : ShortWhere
short_where m ns is_tree rising less =
    let most = some_numbers m.tree (kept_and_dirty m) ns is_tree rising in
    over (free_of m) (length m.dirty + metadata_blocks m.tree (kept_and_dirty m) + 16) (omega (arith, most, less))
  where
    over : (a b : ℕ) → a < b → nat_lt a b ≡ true
    over a b lt = grind (arith, nat_tests)
