-- Tables of inodes.
use Rattle.std.proofs.Common.{◌≡◌, ◌≤◌, ◌⊎◌, ◌+◌, ◌-◌, ◌*◌, ◌/◌, ◌==◌, true, false, drop, refl, ap₂, ◌<◌, ℕ, IsTrue, Bool, List, [], ◌∷◌, ◌++◌, length, take, append_assoc, ap, sym, ◌∙◌, subst, arith, ⊎_elim}
use Rattle.std.specs.Prelude.{slice_index, slice_set, ◌&&◌, not, bytes_eq}
use Rattle.std.proofs.lemmas.Bool.{cases_eq}
use Rattle.std.proofs.lemmas.Bool.Decides.{nat_tests}
use Rattle.inode_file.proofs.BlockLaws.{are_same-Decides}
use Rattle.inode_file.proofs.PassingLaws.{passing_none, passing_but_one}
use Rattle.std.proofs.lemmas.List.{take_all, drop-set-lt, drop-set-add, take-set-le, length-set, get_or-set_same, get_or-set_other}
use Rattle.block_format.specs.Inode.{inode_shape}
use Rattle.block_format.specs.declared.inode.Inode.{Inode}
use Rattle.block_format.specs.declared.inode.Inode.TheVariants.{Unused}
use Rattle.block_tree.specs.Tree.{Blocks, index_at}
use Rattle.inode_file.specs.Inodes.{InodeTable, inode_of, block_of, IsTable, LeadsTo, Stands}
use Rattle.block_tree.specs.Notes.{page_blocks}
use Rattle.inode_file.specs.Noted.{Noted}
use Rattle.block_tree.proofs.NoteLaws.{refs-append}
use Rattle.inode_file.specs.Rewriting.{has_used, is_current, is_fresh, is_written, only_if, passing_from, written_blocks}
use Rattle.inode_file.specs.Renewal.{AreRenewed, IsIndexRenewed, IsPlanned, all_written}
use Rattle.inode_file.proofs.CountingLaws.{blocks_counted}

-- Blocks that lead from one table to the next.
pub stands_after : (t : InodeTable) (pointers : List ℕ) (index : ℕ) (after : Blocks) → length t.inodes ≡ 65536 → (index_at after t.index ≡ t.pointers → index_at after index ≡ pointers)
    → (((j : ℕ) → j < 1024 → LeadsTo after (slice_index t.pointers j) (block_of t.stored j)) → (j : ℕ) → j < 1024 → LeadsTo after (slice_index pointers j) (block_of t.inodes j))
    → Stands after t → Stands after (record { inodes = t.inodes; stored = t.inodes; pointers = pointers; index = index })
stands_after t pointers index after many entries leads stand = record {
  index = entries stand.index;
  inodes = record {
    many = many;
    each = λ k lt.
        subst (λ (ps : List ℕ). LeadsTo after (slice_index ps k) (block_of t.inodes k)) (sym (entries stand.index))
        (leads (λ j below. subst (λ (ps : List ℕ). LeadsTo after (slice_index ps j) (block_of t.stored j)) stand.index (stand.inodes.each j below)) k lt);
  };
}

-- what holds of the inode of each number, after one was set
pub each_set : (P : ℕ → Inode → Type 0) (inodes : List Inode) (n : ℕ) (inode : Inode) → n < length inodes → P n inode → (m : ℕ) → ((m ≡ n → ⊥) → P m (inode_of inodes m)) → P m (inode_of (slice_set inodes n inode) m)
each_set P inodes n inode lt here m other = ⊎_elim
    (λ (e : m ≡ n). subst (λ (i : ℕ). P i (inode_of (slice_set inodes n inode) i)) (sym e) (subst (λ (x : Inode). P n x) (sym (get_or-set_same inodes n inode Unused lt)) here))
    (λ (ne : m ≡ n → ⊥). subst (λ (x : Inode). P m x) (sym (get_or-set_other inodes n m inode Unused ne)) (other ne))
    (cases_eq m n)

pub table_set : (t : InodeTable) (n : ℕ) (inode : Inode) → n < length t.inodes → IsTrue (inode_shape inode) → IsTable t
    → IsTable (record { inodes = slice_set t.inodes n inode; stored = t.stored; pointers = t.pointers; index = t.index })
table_set t n inode lt shape is = record {
  inodes = length-set t.inodes n inode ∙ is.inodes;
  stored = is.stored;
  pointers = is.pointers;
  index = is.index;
  shape = λ m. each_set (λ i x. IsTrue (inode_shape x)) t.inodes n inode lt shape m (λ ne. is.shape m);
}

-- a number of another block leaves a block as it is
block_untouched : (inodes : List Inode) (n k : ℕ) (inode : Inode) → (k ≡ n / 64 → ⊥) → block_of (slice_set inodes n inode) k ≡ block_of inodes k
block_untouched inodes n k inode ne = ⊎_elim below behind (lt_or_le n (64 * k))
  where
    lt_or_le : (a c : ℕ) → (a < c) ⊎ (c ≤ a)
    lt_or_le a c = grind arith

    below : n < 64 * k → block_of (slice_set inodes n inode) k ≡ block_of inodes k
    below lt = ap (λ (xs : List Inode). take 64 xs) (drop-set-lt (64 * k) inodes n inode lt)

    behind : 64 * k ≤ n → block_of (slice_set inodes n inode) k ≡ block_of inodes k
    behind le =
        let from : 64 * k + (n - 64 * k) ≡ n = omega (arith, le) in
        let far : 64 ≤ n - 64 * k = omega (arith, le, ne) in
        ap (λ (i : ℕ). block_of (slice_set inodes i inode) k) (sym from)
        ∙ (ap (λ (xs : List Inode). take 64 xs) (drop-set-add (64 * k) inodes (n - 64 * k) inode) ∙ take-set-le 64 (drop (64 * k) inodes) (n - 64 * k) inode far)

-- at most one inode block more is to be written
pub written_set : (t : InodeTable) (n : ℕ) (inode : Inode) → written_blocks (record { inodes = slice_set t.inodes n inode; stored = t.stored; pointers = t.pointers; index = t.index }) ≤ written_blocks t + 1
written_set t n inode = passing_but_one _ (is_written t) (n / 64) 0 t.pointers
    (λ k ne. ap (λ (block : List Inode). is_fresh (slice_index t.pointers k) (block_of t.stored k) block) (block_untouched t.inodes n k inode ne))

-- nothing is to be written where all inodes are as they stand
not_fresh : (ptr : ℕ) (block : List Inode) → (ptr ≡ 0 → has_used block ≡ false) → is_fresh ptr block block ≡ false
not_fresh ptr block hole = ⊎_elim
    (λ (none : ptr ≡ 0). ap (λ (t : Bool). t && not (is_current ptr block block)) (hole none))
    (λ (some : ptr ≡ 0 → ⊥). ap (λ (t : Bool). has_used block && not t) (ap₂ (λ (a b : Bool). a && b) (is_some ptr some) ((are_same-Decides block block).1 refl)) ∙ no_second (has_used block))
    (cases_eq ptr 0)
  where
    is_some : (q : ℕ) → (q ≡ 0 → ⊥) → not (q == 0) ≡ true
    is_some q ne = grind (arith, nat_tests)

    no_second : (b : Bool) → (b && false) ≡ false
    no_second true = refl
    no_second false = refl

pub written_none : (inodes : List Inode) (pointers : List ℕ) (index : ℕ) → length pointers ≡ 1024 → ((k : ℕ) → k < 1024 → slice_index pointers k ≡ 0 → has_used (block_of inodes k) ≡ false)
    → written_blocks (record { inodes = inodes; stored = inodes; pointers = pointers; index = index }) ≡ 0
written_none inodes pointers index many holes =
    ap length (passing_none (is_written (record { inodes = inodes; stored = inodes; pointers = pointers; index = index })) 0 pointers
    (λ i lt. not_fresh (slice_index pointers (0 + i)) (block_of inodes (0 + i)) (holes (0 + i) (omega (arith, lt, many)))))

-- All blocks are renewed.
pub planned : (t : InodeTable) (pointers : List ℕ) (index : ℕ) (free middle left : List ℕ) (m n o : Noted) → IsTable t
    → AreRenewed (record { inodes = t.inodes; stored = t.stored; pointers = t.pointers; index = 0 }) 1024 pointers free middle m n
    → IsIndexRenewed (not (bytes_eq t.pointers pointers)) t.index t.pointers pointers index middle left n o → IsPlanned t (all_written t pointers index) free left m o
planned t pointers index free middle left m n o is blocks last =
    let done : List ℕ = passing_from (is_written t) 0 pointers in
    let one : List ℕ = only_if (not (bytes_eq t.pointers pointers)) index in
    let all : passing_from (is_written t) 0 (take 1024 pointers) ≡ done = ap (λ (ps : List ℕ). passing_from (is_written t) 0 ps) (take_all 1024 pointers (omega (arith, blocks.many))) in
    record {
      table = record { inodes = is.inodes; stored = is.inodes; pointers = blocks.many; index = last.some; shape = is.shape };
      stands = λ after stand. stands_after t pointers index after is.inodes (last.entries after stand) (blocks.leads after (last.takes.grows after stand));
      takes = record {
        taken = blocks.takes.taken ∙ (ap (λ (xs : List ℕ). xs ++ middle) all ∙ (ap (λ (xs : List ℕ). done ++ xs) last.takes.taken ∙ sym (append_assoc done one left)));
        pages = last.takes.pages ∙ (ap (λ (xs : List ℕ). xs ++ one) (blocks.takes.pages ∙ ap (λ (xs : List ℕ). page_blocks m.pages ++ xs) all) ∙ append_assoc (page_blocks m.pages) done one);
        added = last.takes.added ∙ (ap (λ (xs : List ℕ). xs ++ one) (blocks.takes.added ∙ ap (λ (xs : List ℕ). m.added ++ xs) all) ∙ append_assoc m.added done one);
        settles = record { each = λ b. omega (arith, blocks.takes.settles.each b, last.takes.settles.each b, refs-append b (t.index ∷ []) t.pointers, refs-append b (index ∷ []) pointers) };
        grows = λ read stand. blocks.takes.grows read (last.takes.grows read stand);
      };
      settled = written_none t.inodes pointers index blocks.many
          (λ k lt none. used_or_not (has_used (block_of t.inodes k)) (λ used. let some = blocks.some k lt used in omega (arith, some, none)));
      count = blocks_counted t.inodes pointers is.inodes blocks.many blocks.dropped blocks.some;
      dropped = blocks.dropped;
      kept = blocks.kept;
      kept_index = last.kept;
    }
  where
    used_or_not : (b : Bool) → (b ≡ true → ⊥) → b ≡ false
    used_or_not true unused = absurd (unused refl)
    used_or_not false unused = refl
