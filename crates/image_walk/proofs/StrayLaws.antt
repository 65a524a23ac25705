-- Inodes of no bytes that have a pointer.
use Rattle.std.proofs.Common.{◌≡◌, ℕ, ◌*◌, ◌/◌, Bool, true, false, not, cond, List, ◌-◌, length, take, drop, replicate, refl, sym, ap, ◌∙◌, arith, lit<}
use Rattle.std.specs.Prelude.{◌==◌, ◌&&◌, bytes_eq, slice_index, Some, None}
use Rattle.std.proofs.lemmas.Bool.{eqb-true, eq-eqb}
use Rattle.std.proofs.lemmas.Bool.Decides.{nat_tests}
use Rattle.std.proofs.lemmas.List.{take_all, length-drop}
use Rattle.std.proofs.lemmas.Slice.Eq.{bytes_eq-Decides}
use Rattle.byteorder.specs.Endian.{little_number}
use Rattle.byteorder.specs.Numbers.{little_number-reads_back}
use Rattle.block_format.specs.Inode.{inode_in, inode_bytes, node_bytes}
use Rattle.block_format.specs.declared.inode.Inode.{Inode}
use Rattle.block_format.specs.declared.inode.Inode.TheVariants.{Unused, File, Directory}
use Rattle.image_model.specs.Walk.{is_stray}
use Rattle.image_walk.specs.Inodes.{stray_at, stray_of}

two : (a b : Bool) → (a && b) ≡ true → (a ≡ true) × (b ≡ true)
two true b e = (refl, e)
two false b e = cc

not_true : (a : Bool) → not a ≡ true → a ≡ false
not_true true e = cc
not_true false e = refl

module _ (b : List ℕ) where
  abbrev size_in : ℕ
  size_in = little_number 8 (drop 8 b)

  abbrev height_in : ℕ
  height_in = slice_index b 1

  abbrev pub ptr_in : ℕ
  ptr_in = little_number 4 (drop 4 b)

  pub ptr_read : little_number 4 (take (length b - 4) (drop 4 b)) ≡ ptr_in
  ptr_read = ap (little_number 4) (take_all (length b - 4) (drop 4 b) (omega (arith, length-drop 4 b)))

  -- a file's, a directory's, or no node's
  by_kind : (t u : Bool) → (slice_index b 0 == 1) ≡ t → (slice_index b 0 == 2) ≡ u → inode_in b ≡ cond t (File size_in height_in ptr_in) (cond u (Directory (size_in / 256) height_in ptr_in) Unused)
  unfolding inode_in
  by_kind t u e f = λ i. cond (e i) (File size_in height_in ptr_in) (cond (f i) (Directory (size_in / 256) height_in ptr_in) Unused)

  parts : (x : Inode) → (is_stray x && bytes_eq (inode_bytes x) b) ≡ true → (is_stray x ≡ true) × (inode_bytes x ≡ b)
  parts x e = let p = two (is_stray x) (bytes_eq (inode_bytes x) b) e in (p.0, (bytes_eq-Decides (inode_bytes x) b).0 p.1)

  file_is : (s h p : ℕ) → (is_stray (File s h p) && bytes_eq (inode_bytes (File s h p)) b) ≡ true → (b ≡ node_bytes 1 0 p 0) × ((p == 0) ≡ false)
  file_is s h p e =
      let both = parts (File s h p) e in
      let outer = two (s == 0 && h == 0) (not (p == 0)) both.0 in
      let inner = two (s == 0) (h == 0) outer.0 in
      let size : s ≡ 0 = eqb-true s 0 inner.0 in
      let height : h ≡ 0 = eqb-true h 0 inner.1 in
      (sym both.1 ∙ (λ i. node_bytes 1 (height i) p (size i)), not_true (p == 0) outer.1)

  directory_is : (w h p : ℕ) → (is_stray (Directory w h p) && bytes_eq (inode_bytes (Directory w h p)) b) ≡ true → (b ≡ node_bytes 2 0 p 0) × ((p == 0) ≡ false)
  directory_is w h p e =
      let both = parts (Directory w h p) e in
      let outer = two (w == 0 && h == 0) (not (p == 0)) both.0 in
      let inner = two (w == 0) (h == 0) outer.0 in
      let width : w ≡ 0 = eqb-true w 0 inner.0 in
      let height : h ≡ 0 = eqb-true h 0 inner.1 in
      (sym both.1 ∙ (λ i. node_bytes 2 (height i) p (256 * width i)), not_true (p == 0) outer.1)

  spelled_by : (t u : Bool) → (slice_index b 0 == 1) ≡ t → (slice_index b 0 == 2) ≡ u → (is_stray (inode_in b) && bytes_eq (inode_bytes (inode_in b)) b) ≡ true
      → (b ≡ node_bytes (slice_index b 0) 0 ptr_in 0) × ((ptr_in == 0) ≡ false)
  spelled_by true u e f is =
      let r = file_is size_in height_in ptr_in (ap (λ (x : Inode). is_stray x && bytes_eq (inode_bytes x) b) (sym (by_kind true u e f)) ∙ is) in
      (r.0 ∙ ap (λ (k : ℕ). node_bytes k 0 ptr_in 0) (sym (eqb-true (slice_index b 0) 1 e)), r.1)
  spelled_by false true e f is =
      let r = directory_is (size_in / 256) height_in ptr_in (ap (λ (x : Inode). is_stray x && bytes_eq (inode_bytes x) b) (sym (by_kind false true e f)) ∙ is) in
      (r.0 ∙ ap (λ (k : ℕ). node_bytes k 0 ptr_in 0) (sym (eqb-true (slice_index b 0) 2 f)), r.1)
  spelled_by false false e f is =
      let bad : false ≡ true = ap (λ (x : Inode). is_stray x && bytes_eq (inode_bytes x) b) (sym (by_kind false false e f)) ∙ is in cc

  unless : (t : Bool) (x : Inode) → (t ≡ true → ⊥) → cond t (Some x) None ≡ None
  unless true x never = absurd (never refl)
  unless false x never = refl

  pub none_without_pointer : ptr_in ≡ 0 → stray_at b ≡ None
  none_without_pointer none = unless (is_stray (inode_in b) && bytes_eq (inode_bytes (inode_in b)) b) (inode_in b)
      (λ is. let other = (spelled_by (slice_index b 0 == 1) (slice_index b 0 == 2) refl refl is).1 in let same : (ptr_in == 0) ≡ true = eq-eqb ptr_in 0 none in cc)

  pub none_otherwise : (b ≡ node_bytes (slice_index b 0) 0 ptr_in 0 → ⊥) → stray_at b ≡ None
  none_otherwise never = unless (is_stray (inode_in b) && bytes_eq (inode_bytes (inode_in b)) b) (inode_in b) (λ is. never (spelled_by (slice_index b 0 == 1) (slice_index b 0 == 2) refl refl is).0)

  -- the inode is the one that the bytes spell
  found : (x : Inode) → inode_in b ≡ x → is_stray x ≡ true → inode_bytes x ≡ b → stray_at b ≡ Some x
  found x is stray spelled =
      ap (λ (y : Inode). cond (is_stray y && bytes_eq (inode_bytes y) b) (Some y) None) is
      ∙ (ap (λ (t : Bool). cond (t && bytes_eq (inode_bytes x) b) (Some x) None) stray ∙ ap (λ (t : Bool). cond t (Some x) None) ((bytes_eq-Decides (inode_bytes x) b).1 spelled))

  no_size : (k : ℕ) → b ≡ node_bytes k 0 ptr_in 0 → size_in ≡ 0
  no_size k is = ap (λ (bytes : List ℕ). little_number 8 (drop 8 bytes)) is ∙ little_number-reads_back 8 0 (replicate 48 0) (lit< tt)

  no_height : (k : ℕ) → b ≡ node_bytes k 0 ptr_in 0 → height_in ≡ 0
  no_height k is = ap (λ (bytes : List ℕ). slice_index bytes 1) is

  some_by : (t u : Bool) → (slice_index b 0 == 1) ≡ t → (slice_index b 0 == 2) ≡ u → b ≡ node_bytes (slice_index b 0) 0 ptr_in 0 → (ptr_in == 0) ≡ false
      → stray_at b ≡ cond t (Some (File 0 0 ptr_in)) (cond u (Some (Directory 0 0 ptr_in)) None)
  some_by true u e f is some =
      let one : b ≡ node_bytes 1 0 ptr_in 0 = is ∙ ap (λ (k : ℕ). node_bytes k 0 ptr_in 0) (eqb-true (slice_index b 0) 1 e) in
      let size = no_size 1 one in
      let height = no_height 1 one in
      found (File 0 0 ptr_in) (by_kind true u e f ∙ (λ i. File (size i) (height i) ptr_in)) (ap not some) (sym one)
  some_by false true e f is some =
      let one : b ≡ node_bytes 2 0 ptr_in 0 = is ∙ ap (λ (k : ℕ). node_bytes k 0 ptr_in 0) (eqb-true (slice_index b 0) 2 f) in
      let size = no_size 2 one in
      let height = no_height 2 one in
      found (Directory 0 0 ptr_in) (by_kind false true e f ∙ (λ i. Directory (size i / 256) (height i) ptr_in)) (ap not some) (sym one)
  some_by false false e f is some = ap (λ (y : Inode). cond (is_stray y && bytes_eq (inode_bytes y) b) (Some y) None) (by_kind false false e f)

  pub some_spelled : b ≡ node_bytes (slice_index b 0) 0 ptr_in 0 → (ptr_in ≡ 0 → ⊥) → stray_at b ≡ stray_of (slice_index b 0) ptr_in
  some_spelled is some = let other : (ptr_in == 0) ≡ false = grind (arith, nat_tests) in some_by (slice_index b 0 == 1) (slice_index b 0 == 2) refl refl is other
