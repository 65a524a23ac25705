-- Inodes by rising number, put one after the other where their numbers are.
use Rattle.std.proofs.Common.{◌≡◌, ℕ, zero, suc, ◌+◌, ◌≤◌, ◌<◌, Bool, true, false, cond, List, [], ◌∷◌, length, take, set, inl, refl, sym, ap, subst, ◌∙◌, arith}
use Rattle.std.specs.Prelude.{◌||◌, nat_eq, Contains, slice_index_or}
use Rattle.std.proofs.lemmas.Bool.Decides.{nat_tests}
use Rattle.std.proofs.lemmas.List.{take_all, get_or-set_same, get_or-set_other}
use Rattle.vol_numbers.specs.Layout.{Layout}
use Rattle.block_format.specs.declared.inode.Inode.{Inode}
use Rattle.block_format.specs.declared.inode.Inode.TheVariants.{Unused}
use Rattle.image_model.specs.Slots.{inode_of as inode_among}
use Rattle.image_model.proofs.NodePlaces.{numbers}
use Rattle.image_walk.specs.Left.{AreWithin}
use Rattle.inode_file.specs.Inodes.{inode_of}
use Rattle.inode_file.specs.Loading.{IsWhole}
use Rattle.log_check.proofs.AcceptLemmas.{take_next}
use Rattle.log_check.proofs.TableLaws.{inode_behind}
use Rattle.place_words.specs.Different.{is_among}
use Rattle.place_words.specs.Rising.{Rising}
use Rattle.volume_load.specs.Known.{AreWhole, HasInodes, IsOutside}

-- the node at a place
abbrev pub node_in : List (ℕ × Inode) → ℕ → ℕ × Inode
node_in nodes i = slice_index_or nodes i (0, Unused)

pub one_default : (nodes : List (ℕ × Inode)) (i : ℕ) (d e : ℕ × Inode) → i < length nodes → slice_index_or nodes i d ≡ slice_index_or nodes i e
one_default [] i d e lt = absurd (omega (arith, lt))
one_default (node ∷ nodes) zero d e lt = refl
one_default (node ∷ nodes) (suc i) d e lt = one_default nodes i d e (omega (arith, lt))

there : (nodes : List (ℕ × Inode)) (i : ℕ) → i < length nodes → Contains nodes (node_in nodes i)
there nodes i lt = (i, lt, one_default nodes i (node_in nodes i) (0, Unused) lt)

-- ---- numbers

pub small : (nodes : List (ℕ × Inode)) → AreWithin nodes → (i : ℕ) → i < length nodes → (node_in nodes i).0 ≤ 65535
small nodes within i lt = (within (node_in nodes i).0 (node_in nodes i).1 (there nodes i lt)).0

rising_at : (m : ℕ) (nodes : List (ℕ × Inode)) → Rising m (numbers nodes) → (i : ℕ) → i < length nodes → m ≤ (node_in nodes i).0
rising_at m [] rising i lt = absurd (omega (arith, lt))
rising_at m (node ∷ nodes) rising zero lt = rising.0
rising_at m (node ∷ nodes) rising (suc i) lt = let le = rising.0 in omega (arith, le, rising_at (node.0 + 1) nodes rising.1 i (omega (arith, lt)))

not_before : (m : ℕ) (nodes : List (ℕ × Inode)) → Rising m (numbers nodes) → (i : ℕ) → i < length nodes → is_among (numbers (take i nodes)) (node_in nodes i).0 ≡ false
not_before m [] rising i lt = absurd (omega (arith, lt))
not_before m (node ∷ nodes) rising zero lt = refl
not_before m (node ∷ nodes) rising (suc i) lt =
    let above = rising_at (node.0 + 1) nodes rising.1 i (omega (arith, lt)) in
    let apart : nat_eq node.0 (node_in nodes i).0 ≡ false = grind (arith, nat_tests) in
    ap (λ (t : Bool). t || is_among (numbers (take i nodes)) (node_in nodes i).0) apart ∙ not_before (node.0 + 1) nodes rising.1 i (omega (arith, lt))

module _ (nodes : List (ℕ × Inode)) (i : ℕ) (lt : i < length nodes) where
  -- the nodes up to this one have it, and else what was there
  more : Rising 1 (numbers nodes) → (n : ℕ) → inode_among (take (i + 1) nodes) n ≡ cond (nat_eq n (node_in nodes i).0) (node_in nodes i).1 (inode_among (take i nodes) n)
  more rising n =
      ap (λ (ns : List (ℕ × Inode)). inode_among ns n) (take_next i nodes (node_in nodes i) lt (one_default nodes i (0, Unused) (node_in nodes i) lt))
      ∙ inode_behind (take i nodes) (node_in nodes i) n (not_before 1 nodes rising i lt)

  pub next_number : Rising 1 (numbers nodes) → AreWithin nodes → (old : List Inode) → length old ≡ 65536 → HasInodes (take i nodes) old → HasInodes (take (i + 1) nodes) (set old (node_in nodes i).0 (node_in nodes i).1)
  next_number rising within old long has n = by (nat_eq n (node_in nodes i).0) refl ∙ sym (more rising n)
    where
      x : ℕ
      x = (node_in nodes i).0

      at_most : x ≤ 65535
      at_most = small nodes within i lt

      by : (t : Bool) → nat_eq n x ≡ t → inode_of (set old x (node_in nodes i).1) n ≡ cond t (node_in nodes i).1 (inode_among (take i nodes) n)
      by true same =
          let e : n ≡ x = grind (arith, nat_tests) in
          ap (λ (k : ℕ). inode_of (set old x (node_in nodes i).1) k) e ∙ get_or-set_same old x (node_in nodes i).1 Unused (omega (arith, at_most, long))
      by false apart = get_or-set_other old x n (node_in nodes i).1 Unused (λ e. never e) ∙ has n
        where
          never : n ≡ x → ⊥
          never e = let same : nat_eq n x ≡ true = grind (arith, nat_tests) in cc

pub all_numbers : (nodes : List (ℕ × Inode)) (i : ℕ) (inodes : List Inode) → length nodes ≤ i → HasInodes (take i nodes) inodes → HasInodes nodes inodes
all_numbers nodes i inodes le has n = has n ∙ ap (λ (ns : List (ℕ × Inode)). inode_among ns n) (take_all i nodes le)

-- ---- whole inodes

module _ (g : Layout) where
  -- each up to here was found whole
  pub all_whole : (nodes : List (ℕ × Inode)) (i : ℕ) → length nodes ≤ i → ((k : ℕ) → k < i → IsWhole g (node_in nodes k).1) → AreWhole g nodes
  all_whole nodes i le each k d lt = subst_node (one_default nodes k (0, Unused) d lt) (each k (omega (arith, lt, le)))
    where
      subst_node : {a b : ℕ × Inode} → a ≡ b → IsWhole g a.1 → IsWhole g b.1
      subst_node e is = subst (λ (x : ℕ × Inode). IsWhole g x.1) e is

  pub is_outside : (nodes : List (ℕ × Inode)) (i : ℕ) → i < length nodes → ¬ IsWhole g (node_in nodes i).1 → IsOutside g nodes (node_in nodes i).0
  is_outside nodes i lt never = record { inode = (node_in nodes i).1; among = there nodes i lt; outside = never }

  pub not_whole : (nodes : List (ℕ × Inode)) (n : ℕ) → IsOutside g nodes n → ¬ AreWhole g nodes
  not_whole nodes n out whole = out.outside (subst (λ (x : ℕ × Inode). IsWhole g x.1) out.among.2 (whole out.among.0 (n, out.inode) out.among.1))

  -- whole inodes are so by number, and an unused one is
  pub whole_among : (nodes : List (ℕ × Inode)) → AreWhole g nodes → (n : ℕ) → IsWhole g (inode_among nodes n)
  whole_among nodes whole n = from nodes (λ k lt. whole k (0, Unused) lt)
    where
      from : (nodes : List (ℕ × Inode)) → ((k : ℕ) → k < length nodes → IsWhole g (node_in nodes k).1) → IsWhole g (inode_among nodes n)
      from [] each = record { shape = refl; pointer = inl refl }
      from (node ∷ nodes) each = by (nat_eq node.0 n) (each 0 (omega arith)) (from nodes (λ k lt. each (suc k) (omega (arith, lt))))
        where
          by : (t : Bool) → IsWhole g node.1 → IsWhole g (inode_among nodes n) → IsWhole g (cond t node.1 (inode_among nodes n))
          by true here rest = here
          by false here rest = rest
