-- Renewed inodes lead into the area.
use Rattle.std.proofs.Common.{◌≡◌, ℕ, zero, suc, ◌+◌, ◌<◌, Bool, true, false, cond, List, [], ◌∷◌, ◌++◌, length, get_or, Some, inl, refl, sym, ap, subst, ◌∙◌, arith}
use Rattle.std.specs.Prelude.{◌==◌, ◌&&◌, ◌||◌, not, All, nat_eq, slice_index}
use Rattle.std.proofs.lemmas.Bool.{eqb-true}
use Rattle.std.proofs.lemmas.Bool.Decides.{nat_tests}
use Rattle.vol_numbers.specs.Layout.{Layout}
use Rattle.block_format.specs.Index.{IsPointer}
use Rattle.block_format.specs.declared.inode.Inode.{Inode}
use Rattle.inode_file.specs.Inodes.{InodeTable, inode_of}
use Rattle.inode_file.specs.Loading.{IsWhole, IsWithin}
use Rattle.inode_file.specs.Rewriting.{has_nodes, is_unchanged, is_written, only_if, passing_from, written_in_order}
use Rattle.place_words.specs.Different.{is_among}
use Rattle.place_words.proofs.Counting.{among_times, times_among}
use Rattle.point_plan.specs.Nodes.{inode_or, planned_of}
use Rattle.point_plan.specs.declared.planned_node.PlannedNode.{PlannedNode}
use Rattle.point_plan.proofs.Times.{times_append}

pub all_among : (P : ℕ → Type 0) (xs : List ℕ) (b : ℕ) → All P xs → is_among xs b ≡ true → P b
all_among P [] b all among = cc
all_among P (x ∷ xs) b all among = by (nat_eq x b) refl among (all_among P xs b (λ k d lt. all (suc k) d (omega (arith, lt))))
  where
    by : (t : Bool) → nat_eq x b ≡ t → (t || is_among xs b) ≡ true → (is_among xs b ≡ true → P b) → P b
    by true is e rest = subst P (eqb-true x b is) (all 0 x (omega arith))
    by false is e rest = rest e

among_front : (xs ys : List ℕ) (b : ℕ) → is_among xs b ≡ true → is_among (xs ++ ys) b ≡ true
among_front xs ys b among = times_among b (xs ++ ys) (omega (arith, times_append b xs ys, among_times b xs among))

among_behind : (xs ys : List ℕ) (b : ℕ) → is_among ys b ≡ true → is_among (xs ++ ys) b ≡ true
among_behind xs ys b among = times_among b (xs ++ ys) (omega (arith, times_append b xs ys, among_times b ys among))

in_passing : (test : ℕ → Bool) (from : ℕ) (ps : List ℕ) (i : ℕ) → i < length ps → test (from + i) ≡ true → is_among (passing_from test from ps) (slice_index ps i) ≡ true
in_passing test from [] i lt is = absurd (omega (arith, lt))
in_passing test from (p ∷ ps) zero lt is =
    let at : from + 0 ≡ from = omega arith in
    let first : test from ≡ true = ap test (sym at) ∙ is in
    let own : nat_eq p p ≡ true = grind (arith, nat_tests) in
    ap (λ (t : Bool). is_among (only_if t p ++ passing_from test (from + 1) ps) p) first ∙ ap (λ (t : Bool). t || is_among (passing_from test (from + 1) ps) p) own
in_passing test from (p ∷ ps) (suc i) lt is =
    let at : from + suc i ≡ from + 1 + i = omega arith in
    among_behind (only_if (test from) p) (passing_from test (from + 1) ps) (slice_index ps i) (in_passing test (from + 1) ps i (omega (arith, lt)) (ap test (sym at) ∙ is))

-- an inode that is planned, or the one of before
pub either_whole : (P : Inode → Type 0) (nodes : List PlannedNode) (n : ℕ) (x : Inode) → All (λ (p : PlannedNode). P p.is) nodes → P x → P (inode_or (planned_of nodes n) x)
either_whole P [] n x all was = was
either_whole P (p ∷ ps) n x all was = by (p.number == n) (either_whole P ps n x (λ k d lt. all (suc k) d (omega (arith, lt))) was)
  where
    by : (t : Bool) → P (inode_or (planned_of ps n) x) → P (inode_or (cond t (Some p) (planned_of ps n)) x)
    by true rest = all 0 p (omega arith)
    by false rest = rest

-- A table that was renewed leads into the area, where it did before, and the blocks that are taken and the new inodes do.
pub renewed_within : (g : Layout) (was t new : InodeTable) (nodes : List PlannedNode) (taken free rest : List ℕ) → IsWithin g was → t ≡ record was { inodes = t.inodes } → length new.pointers ≡ 1024
    → ((n : ℕ) → inode_of new.inodes n ≡ inode_or (planned_of nodes n) (inode_of was.inodes n)) → All (λ (p : PlannedNode). IsWhole g p.is) nodes → All (IsPointer g) free → taken ++ rest ≡ free → taken ≡ written_in_order t new
    → ((k : ℕ) → k < 1024 → has_nodes t k ≡ false → slice_index new.pointers k ≡ 0) → ((k : ℕ) → k < 1024 → has_nodes t k ≡ true → is_unchanged t k ≡ true → slice_index new.pointers k ≡ slice_index t.pointers k) → IsWithin g new
renewed_within g was t new nodes taken free rest within same long inodes whole all is_taken pages dropped kept = record {
  pointers = λ k d lt. subst (IsPointer g) (other_default new.pointers k 0 d lt) (pointer k (omega (arith, lt, long)));
  inodes = λ n. subst (IsWhole g) (sym (inodes n)) (either_whole (IsWhole g) nodes n (inode_of was.inodes n) whole (within.inodes n));
}
  where
    other_default : (xs : List ℕ) (k d e : ℕ) → k < length xs → get_or xs k d ≡ get_or xs k e
    other_default [] k d e lt = absurd (omega (arith, lt))
    other_default (x ∷ xs) zero d e lt = refl
    other_default (x ∷ xs) (suc k) d e lt = other_default xs k d e (omega (arith, lt))

    old_pointer : (k : ℕ) → IsPointer g (slice_index was.pointers k)
    old_pointer k = from was.pointers within.pointers k
      where
        from : (xs : List ℕ) → All (IsPointer g) xs → (k : ℕ) → IsPointer g (slice_index xs k)
        from [] each k = inl refl
        from (x ∷ xs) each zero = each 0 x (omega arith)
        from (x ∷ xs) each (suc k) = from xs (λ i d lt. each (suc i) d (omega (arith, lt))) k

    pointer : (k : ℕ) → k < 1024 → IsPointer g (slice_index new.pointers k)
    pointer k lt = by (has_nodes t k) (is_unchanged t k) refl refl
      where
        by : (a b : Bool) → has_nodes t k ≡ a → is_unchanged t k ≡ b → IsPointer g (slice_index new.pointers k)
        by false b is_a is_b = inl (dropped k lt is_a)
        by true true is_a is_b = subst (IsPointer g) (sym (kept k lt is_a is_b ∙ ap (λ (x : InodeTable). slice_index x.pointers k) same)) (old_pointer k)
        by true false is_a is_b =
            let written : is_written t k ≡ true = λ i. is_a i && not (is_b i) in
            let passing = in_passing (is_written t) 0 new.pointers k (omega (arith, lt, long)) (ap (is_written t) (let e : 0 + k ≡ k = omega arith in e) ∙ written) in
            let page : is_among taken (slice_index new.pointers k) ≡ true = ap (λ (bs : List ℕ). is_among bs (slice_index new.pointers k)) pages ∙ among_front (passing_from (is_written t) 0 new.pointers) _ (slice_index new.pointers k) passing in
            all_among (IsPointer g) free (slice_index new.pointers k) all (ap (λ (bs : List ℕ). is_among bs (slice_index new.pointers k)) (sym is_taken) ∙ among_front taken rest (slice_index new.pointers k) page)
