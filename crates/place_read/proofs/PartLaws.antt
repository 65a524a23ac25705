-- The bytes of a part of a file, place by place.
use Rattle.std.proofs.Common.{◌≡◌, ℕ, ◌+◌, ◌-◌, ◌*◌, ◌<◌, ◌≤◌, Bool, true, false, List, ◌++◌, length, take, drop, refl, sym, ap, subst, ◌∙◌, arith, slice_index_or}
use Rattle.std.specs.Prelude.{min, nat_lt, slice_range, Result, Ok, Err, IsErrAnd}
use Rattle.std.proofs.lemmas.Grind.{same_number_lists}
use Rattle.std.proofs.lemmas.List.{get_or-append_right, get_or_append_left, get_or-take, get_or-drop, length-take, length-drop}
use Rattle.vol_numbers.specs.Layout.{Layout}
use Rattle.disk_model.specs.Disk.{Given}
use Rattle.block_tree.specs.Causes.{as_tree_fault, IsLookDamage, IsTreeDamage}
use Rattle.block_tree.specs.Tree.{Blocks}
use Rattle.block_tree.specs.declared.fault.LookFault.{LookFault}
use Rattle.block_tree.specs.declared.fault.LookFault.TheVariants.{Device, Damaged}
use Rattle.block_tree.specs.declared.fault.TreeFault.{TreeFault}
use Rattle.state_laws.proofs.Bytes.{block_of, block_byte, is_less, is_not_less}

-- what a fault tells of the block that was read last holds from an earlier moment on too
pub damage_passed : {T : Type 0} (g : Layout) (tells : Bool) (contents : Blocks) (old middle new : Given) (r : Result T TreeFault) (fault : LookFault)
    → IsErrAnd r (λ f. f ≡ as_tree_fault fault) → old.count ≤ middle.count → IsLookDamage {T = Unit {0}} g tells contents middle new (Err fault) → IsTreeDamage g tells contents old new r
damage_passed g tells contents old middle new (Ok value) fault same le is = absurd same
damage_passed {T} g tells contents old middle new (Err f) fault same le is =
    subst (λ (e : TreeFault). IsTreeDamage {T = T} g tells contents old new (Err e)) (sym same) (by fault is)
  where
    by : (fault : LookFault) → IsLookDamage {T = Unit {0}} g tells contents middle new (Err fault) → IsTreeDamage {T = T} g tells contents old new (Err (as_tree_fault fault))
    by Device is = tt
    by (Damaged b) is = record { number = is.number; rose = omega (arith, is.rose, le); outside = is.outside; pointer = is.pointer; stands = is.stands }

-- each of these is the byte of the file from the offset on
abbrev pub AreFrom : List ℕ → ℕ → List ℕ → Type 0
AreFrom content offset items = (i : ℕ) → i < length items → slice_index_or items i 0 ≡ slice_index_or content (offset + i) 0

pub piece_is : (out items block : List ℕ) (s t start stop : ℕ) → out ≡ items ++ slice_range block s t → s ≡ start → t ≡ stop → out ≡ items ++ slice_range block start stop
piece_is out items block s t start stop is first last = is ∙ (λ i. items ++ slice_range block (first i) (last i))

module _ (items block : List ℕ) (offset end k : ℕ) (many : length items ≡ min end (4096 * k) - offset) (below : 4096 * k < end) (reached : offset < 4096 * (k + 1))
    (more : length (items ++ slice_range block (offset - 4096 * k) (min (end - 4096 * k) 4096)) ≡ length items + (min (end - 4096 * k) 4096 - (offset - 4096 * k))) where
  abbrev start : ℕ
  start = offset - 4096 * k

  abbrev stop : ℕ
  stop = min (end - 4096 * k) 4096

  pub piece_many : offset < end → length (items ++ slice_range block (offset - 4096 * k) (min (end - 4096 * k) 4096)) ≡ min end (4096 * (k + 1)) - offset
  piece_many some = omega (arith, many, below, reached, more, some)

  -- with the bytes of one place more
  pub piece_from : (content : List ℕ) → block ≡ block_of content k → AreFrom content offset items → AreFrom content offset (items ++ slice_range block (offset - 4096 * k) (min (end - 4096 * k) 4096))
  piece_from content is each i lt = by (nat_lt i (length items)) refl
    where
      by : (t : Bool) → nat_lt i (length items) ≡ t → slice_index_or (items ++ slice_range block start stop) i 0 ≡ slice_index_or content (offset + i) 0
      by true less = let near = is_less i (length items) less in get_or_append_left items (slice_range block start stop) 0 i near ∙ each i near
      by false past =
          let far = is_not_less i (length items) past in
          let j = i - length items in
          let within : j < stop - start = omega (arith, lt, far, more) in
          let inside : start + j < 4096 = omega (arith, within) in
          let at : 4096 * k + (start + j) ≡ offset + i = omega (arith, far, many, below, reached) in
          get_or-append_right items (slice_range block start stop) (length items) i 0 refl far
          ∙ get_or-take (stop - start) (drop start block) j 0 within
          ∙ get_or-drop start block j 0
          ∙ ap (λ (xs : List ℕ). slice_index_or xs (start + j) 0) is
          ∙ block_byte content k (start + j) inside
          ∙ ap (λ (n : ℕ). slice_index_or content n 0) at

-- Bytes of the file from the offset on, up to the end of the part, are what is asked for.
pub part_is : (content items : List ℕ) (offset len : ℕ) → length items ≡ min (length content) (offset + len) - offset → AreFrom content offset items → items ≡ take len (drop offset content)
part_is content items offset len many each =
    let long : length (take len (drop offset content)) ≡ min len (length content - offset) = length-take len (drop offset content) ∙ ap (min len) (length-drop offset content) in
    same_number_lists items (take len (drop offset content)) (omega (arith, many, long)) (λ i lt.
    let below : i < len = omega (arith, lt, many) in
    each i lt ∙ sym (get_or-take len (drop offset content) i 0 below ∙ get_or-drop offset content i 0))
