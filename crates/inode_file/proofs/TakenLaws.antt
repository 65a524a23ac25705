-- Numbers that are put into a set or taken out of it.
use Rattle.std.proofs.Common.{◌≡◌, ◌≢◌, ◌<◌, ℕ, Bool, true, false, List, length, ap, sym, subst, ◌∙◌, arith}
use Rattle.std.specs.Prelude.{◌||◌, ◌&&◌, not, nat_eq, nat_lt, slice_set, if◌then◌else◌}
use Rattle.std.specs.Cmp.{nat_cmp_total, unsigned_tied}
use Rattle.std.specs.Ordering.{nat_cmp}
use Rattle.std.specs.FinSet as set
use Rattle.std.proofs.lemmas.Bool.Decides.{nat_tests}
use Rattle.block_format.specs.declared.inode.Inode.{Inode}
use Rattle.inode_file.specs.Inodes.{is_used}
use Rattle.inode_file.specs.Taken.{HasTaken}
use Rattle.inode_file.proofs.TableLaws.{each_set}

-- how a set comes of another by one number
pub record SetsNumber (old : set.FinSet nat_cmp) (n : ℕ) (present : Bool) (new : set.FinSet nat_cmp) : Type 0 where
  pub here : set.contains new n ≡ present
  pub others : (m : ℕ) → m ≢ n → set.contains new m ≡ set.contains old m

itself : (n : ℕ) → nat_eq n n ≡ true
itself n = grind (arith, nat_tests)

another : (m n : ℕ) → m ≢ n → nat_eq m n ≡ false
another m n ne = grind (arith, nat_tests)

pub number_written : (old : set.FinSet nat_cmp) (n : ℕ) (present : Bool) → SetsNumber old n present (if present then set.insert old n else set.remove old n)
number_written old n true = record {
  here = set.contains-insert nat_cmp_total old n n ∙ ap (λ (b : Bool). b || set.contains old n) (unsigned_tied n n ∙ itself n);
  others = λ m ne. set.contains-insert nat_cmp_total old n m ∙ ap (λ (b : Bool). b || set.contains old m) (unsigned_tied m n ∙ another m n ne);
}
number_written old n false = record {
  here = set.contains-remove nat_cmp_total old n n ∙ ap (λ (b : Bool). not b && set.contains old n) (unsigned_tied n n ∙ itself n);
  others = λ m ne. set.contains-remove nat_cmp_total old n m ∙ ap (λ (b : Bool). not b && set.contains old m) (unsigned_tied m n ∙ another m n ne);
}

-- the inode of one number is set
pub taken_set : (numbers new : set.FinSet nat_cmp) (inodes : List Inode) (n : ℕ) (inode : Inode) (present : Bool) → n < length inodes → present ≡ (nat_lt n 2 || is_used inode) → HasTaken numbers inodes
    → new ≡ (if present then set.insert numbers n else set.remove numbers n) → HasTaken new (slice_set inodes n inode)
taken_set numbers new inodes n inode present lt is before written = record {
  each = λ m below. each_set (λ i x. set.contains new i ≡ (nat_lt i 2 || is_used x)) inodes n inode lt (sets.here ∙ is) m (λ ne. sets.others m ne ∙ before.each m below);
}
  where
    sets : SetsNumber numbers n present new
    sets = subst (λ (s : set.FinSet nat_cmp). SetsNumber numbers n present s) (sym written) (number_written numbers n present)
