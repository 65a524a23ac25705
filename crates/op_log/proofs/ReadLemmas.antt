-- What the blocks that were read say of the records that may stand there.
use Rattle.std.proofs.Common.{◌≡◌, ◌∙◌, ◌+◌, ◌-◌, ◌*◌, ◌<◌, ◌≤◌, ℕ, List, ◌++◌, length, take, drop, sym, ap, arith, below_more, Option, Some, None}
use Rattle.std.specs.Prelude.{slice_get, IfNone}
use Rattle.std.proofs.lemmas.Option.{same_Some}
use Rattle.std.proofs.lemmas.List.{drop-append-le, drop-take, get_or_append_left, length-drop, take-append-drop, take-take, take_all}
use Rattle.byteorder.specs.Endian.{little_number}
use Rattle.byteorder.specs.Numbers.{little_from-append}
use Rattle.vol_numbers.specs.declared.block.Block.{Block}
use Rattle.tree_model.specs.declared.command.Command.{Command}
use Rattle.op_log.specs.Log.{RecordStands}
use Rattle.op_log.specs.Record.{HasRecord, record_block, record_blocks}
use Rattle.op_log.specs.Reading.{AreBlocks, IsWhole, Spells, blocks_in, bytes_block, head_in}
use Rattle.op_log.proofs.RecordLemmas.{first_head}

pub if_none_weaker : {X P Q : Type 0} (o : Option X) → (P → Q) → IfNone o P → IfNone o Q
if_none_weaker None f p = f p
if_none_weaker (Some x) f p = tt

block_stays : (k i : ℕ) (old new : List ℕ) → k < i → length old ≡ 4096 * i → take (length old) new ≡ old → bytes_block old k ≡ bytes_block new k
block_stays k i old new lt long front =
    let m : ℕ = length old - 4096 * k in
    let split : length old ≡ 4096 * k + m = omega (arith, long, lt) in
    let cut : drop (4096 * k) old ≡ take m (drop (4096 * k) new) =
    ap (drop (4096 * k)) (sym front ∙ ap (λ (n : ℕ). take n new) split) ∙ drop-take (4096 * k) m new in
    let bytes : take 4096 (drop (4096 * k) old) ≡ take 4096 (drop (4096 * k) new) = ap (take 4096) cut ∙ take-take 4096 m (drop (4096 * k) new) (omega (arith, long, lt)) in
    λ j. record { bytes = bytes j }

-- one block more was read
pub blocks_more : (image : List Block) (at i : ℕ) (old new : List ℕ) → length old ≡ 4096 * i → length new ≡ length old + 4096 → take (length old) new ≡ old → AreBlocks image at i old
    → slice_get image (at + i) ≡ Some (record { bytes = drop (length old) new }) → AreBlocks image at (i + 1) new
blocks_more image at i old new long longer front blocks here = below_more (λ k. slice_get image (at + k) ≡ Some (bytes_block new k)) i
    (λ k lt. blocks k lt ∙ ap Some (block_stays k i old new lt long front))
    (let last : drop (length old) new ≡ take 4096 (drop (4096 * i) new) =
    sym (take_all 4096 (drop (length old) new) (omega (arith, length-drop (length old) new, longer))) ∙ ap (λ (n : ℕ). take 4096 (drop n new)) long in
    here ∙ (λ j. Some (record { bytes = last j })))

-- the first bytes stay
pub front_stays : (done i : ℕ) (old new begun : List ℕ) → done ≤ i → length old ≡ 4096 * i → take (length old) new ≡ old → take (4096 * done) old ≡ begun → take (4096 * done) new ≡ begun
front_stays done i old new begun le long front so_far =
    sym (take-take (4096 * done) (length old) new (omega (arith, long, le))) ∙ ap (take (4096 * done)) front ∙ so_far

head_in-append : (xs z : List ℕ) → 24 ≤ length xs → head_in (xs ++ z) ≡ head_in xs
unfolding head_in
head_in-append xs z long = λ i. record {
  kind = get_or_append_left xs z 0 0 (omega (arith, long)) i;
  path_len = (ap (little_number 4) (drop-append-le 4 xs z (omega (arith, long))) ∙ little_from-append 4 (drop 4 xs) z (omega (arith, long, length-drop 4 xs))) i;
  number = (ap (little_number 8) (drop-append-le 8 xs z (omega (arith, long))) ∙ little_from-append 8 (drop 8 xs) z (omega (arith, long, length-drop 8 xs))) i;
  rest_len = (ap (little_number 4) (drop-append-le 16 xs z (omega (arith, long))) ∙ little_from-append 4 (drop 16 xs) z (omega (arith, long, length-drop 16 xs))) i;
}

-- more bytes say the same of the record
pub head_stays : (xs ys : List ℕ) → length xs ≡ 4096 → take 4096 ys ≡ xs → head_in ys ≡ head_in xs
head_stays xs ys long front =
    let split : ys ≡ xs ++ drop 4096 ys = sym (take-append-drop 4096 ys) ∙ ap (λ (l : List ℕ). l ++ drop 4096 ys) front in
    ap head_in split ∙ head_in-append xs (drop 4096 ys) (omega (arith, long))

-- the first block is that of the record that stands there
pub first_same : (image : List Block) (at n : ℕ) (bytes : List ℕ) (c : Command) → 0 < n → AreBlocks image at n bytes → RecordStands image at c → take 4096 bytes ≡ (record_block c 0).bytes
first_same image at n bytes c some blocks stands =
    ap (λ (b : Block). b.bytes) (same_Some (bytes_block bytes 0) (record_block c 0) (sym (blocks 0 some) ∙ stands 0 (omega arith)))

-- as many blocks as the first one says
pub blocks_same : (c : Command) (bytes : List ℕ) → HasRecord c → take 4096 bytes ≡ (record_block c 0).bytes → blocks_in (head_in bytes) ≡ record_blocks c
blocks_same c bytes has first = ap blocks_in (first_head c bytes has first)

-- the bytes that were read spell the record that stands there
pub stands_spells : (image : List Block) (at left : ℕ) (bytes : List ℕ) (c : Command) → IsWhole bytes left → AreBlocks image at (blocks_in (head_in bytes)) bytes → HasRecord c → RecordStands image at c
    → Spells c bytes
stands_spells image at left bytes c whole blocks has stands =
    let some : 0 < blocks_in (head_in bytes) = omega arith in
    let count : blocks_in (head_in bytes) ≡ record_blocks c = blocks_same c bytes has (first_same image at (blocks_in (head_in bytes)) bytes c some blocks stands) in
    record {
      long = whole.long ∙ ap (λ (n : ℕ). 4096 * n) count;
      blocks = λ i lt. same_Some (bytes_block bytes i) (record_block c i) (sym (blocks i (omega (arith, count, lt))) ∙ stands i lt);
    }
