-- One record more in a log.
use Rattle.std.proofs.Common.{◌≡◌, ◌∙◌, ◌+◌, ◌-◌, ◌<◌, ◌≤◌, ⊎_elim, ℕ, zero, suc, List, [], ◌∷◌, ◌++◌, length, take, get_or, refl, sym, ap, subst, arith, add-zero}
use Rattle.std.specs.Prelude.{slice_get}
use Rattle.std.proofs.lemmas.Bool.{cases_lt}
use Rattle.vol_numbers.specs.declared.block.Block.{Block}
use Rattle.tree_model.specs.declared.command.Command.{Command}
use Rattle.op_log.specs.Log.{HoldsRecords, IsFirstBad, RecordStands, RecordsStand, blocks_of}
use Rattle.op_log.specs.Record.{HasRecord, record_blocks}
use Rattle.op_log.specs.Laws.{OneSpelling, OneLog, NoneBehindBad, UsedBlocksTell, OneRecordMore}
use Rattle.op_log.specs.Reading.{NoRecordStands}
use Rattle.op_log.proofs.SpellingLaws.{one_command}

pub blocks_of-push : (cs : List Command) (c : Command) → blocks_of (cs ++ c ∷ []) ≡ blocks_of cs + record_blocks c
blocks_of-push [] c = omega arith
blocks_of-push (d ∷ ds) c = omega (arith, blocks_of-push ds c)

pub records_stand-push : (image : List Block) (at : ℕ) (cs : List Command) (c : Command) → RecordsStand image at cs → HasRecord c → RecordStands image (at + blocks_of cs) c
    → RecordsStand image at (cs ++ c ∷ [])
records_stand-push image at [] c stand has stands = (has, subst (λ (n : ℕ). RecordStands image n c) (add-zero at) stands, tt)
records_stand-push image at (d ∷ ds) c stand has stands =
    let there : at + (record_blocks d + blocks_of ds) ≡ at + record_blocks d + blocks_of ds = omega arith in
    (stand.0, stand.1, records_stand-push image (at + record_blocks d) ds c stand.2 has (subst (λ (n : ℕ). RecordStands image n c) there stands))

pub records_stand-last : (image : List Block) (at : ℕ) (cs : List Command) (c : Command) → RecordsStand image at (cs ++ c ∷ []) → HasRecord c × RecordStands image (at + blocks_of cs) c
records_stand-last image at [] c stand = (stand.0, subst (λ (n : ℕ). RecordStands image n c) (sym (add-zero at)) stand.1)
records_stand-last image at (d ∷ ds) c stand =
    let there : at + record_blocks d + blocks_of ds ≡ at + (record_blocks d + blocks_of ds) = omega arith in
    let last = records_stand-last image (at + record_blocks d) ds c stand.2 in
    (last.0, subst (λ (n : ℕ). RecordStands image n c) there last.1)

pub holds-push : (image : List Block) (first used : ℕ) (cs : List Command) (c : Command) → HoldsRecords image first used cs → HasRecord c → RecordStands image (first + blocks_of cs) c
    → blocks_of cs + record_blocks c ≤ used → HoldsRecords image first used (cs ++ c ∷ [])
holds-push image first used cs c holds has stands within = record {
  stand = records_stand-push image first cs c holds.stand has stands;
  within = omega (arith, blocks_of-push cs c, within);
}

-- where no record stands behind these, the next one is the first bad one
pub first_bad : (image : List Block) (first used number : ℕ) (cs : List Command) → length cs ≡ number → HoldsRecords image first used cs
    → NoRecordStands image (first + blocks_of cs) (used - blocks_of cs) → IsFirstBad image first used number
first_bad image first used number cs count holds none = record {
  before = cs;
  count = count;
  good = holds;
  none = λ c more.
      let last = records_stand-last image first cs c more.stand in
      none c last.0 (omega (arith, more.within, blocks_of-push cs c)) last.1;
}

pub one_spelling : OneSpelling
one_spelling image other at place c stands other_stands i lt = stands i lt ∙ sym (other_stands i lt)

same_stand : (image : List Block) (at : ℕ) (cs ds : List Command) → RecordsStand image at cs → RecordsStand image at ds → length cs ≡ length ds → cs ≡ ds
same_stand image at [] [] stand other long = refl
same_stand image at [] (d ∷ ds) stand other long = absurd (omega arith)
same_stand image at (c ∷ cs) [] stand other long = absurd (omega arith)
same_stand image at (c ∷ cs) (d ∷ ds) stand other long =
    let first : c ≡ d = one_command image at c d stand.0 other.0 stand.1 other.1 in
    let rest : cs ≡ ds =
    same_stand image (at + record_blocks c) cs ds stand.2 (subst (λ (n : ℕ). RecordsStand image n ds) (sym (ap (λ (b : Command). at + record_blocks b) first)) other.2) (omega arith) in
    λ i. first i ∷ rest i

pub one_log : OneLog
one_log image first used cs ds holds other long = same_stand image first cs ds holds.stand other.stand long

-- where more records stand, one stands behind these
next_stands : (image : List Block) (at : ℕ) (bs cs : List Command) → RecordsStand image at bs → RecordsStand image at cs → length bs < length cs
    → (c : Command) × RecordsStand image at (bs ++ c ∷ []) × (blocks_of (bs ++ c ∷ []) ≤ blocks_of cs)
next_stands image at bs [] stand other lt = absurd (omega arith)
next_stands image at [] (c ∷ cs) stand other lt = (c, (other.0, other.1, tt), omega arith)
next_stands image at (b ∷ bs) (c ∷ cs) stand other lt =
    let first : b ≡ c = one_command image at b c stand.0 other.0 stand.1 other.1 in
    let next = next_stands image (at + record_blocks b) bs cs stand.2 (subst (λ (n : ℕ). RecordsStand image n cs) (sym (ap (λ (d : Command). at + record_blocks d) first)) other.2) (omega arith) in
    (next.0, (stand.0, stand.1, next.1), omega (arith, next.2, ap record_blocks first))

pub none_behind_bad : NoneBehindBad
none_behind_bad image first used number cs bad holds = ⊎_elim
    (λ lt.
    let next = next_stands image first bad.before cs bad.good.stand holds.stand (omega (arith, bad.count, lt)) in
    absurd (bad.none next.0 (record { stand = next.1; within = omega (arith, next.2, holds.within) })))
    (λ le. le) (cases_lt number (length cs))

tell : (image other : List Block) (at : ℕ) (cs : List Command) → RecordsStand image at cs → ((k : ℕ) → at ≤ k → k < at + blocks_of cs → slice_get other k ≡ slice_get image k) → RecordsStand other at cs
tell image other at [] stand same = tt
tell image other at (c ∷ cs) stand same = (
  stand.0,
  λ i lt. same (at + i) (omega arith) (omega (arith, lt)) ∙ stand.1 i lt,
  tell image other (at + record_blocks c) cs stand.2 (λ k le lt. same k (omega (arith, le)) (omega (arith, lt))),
)

pub used_blocks_tell : UsedBlocksTell
used_blocks_tell image other first used cs holds same = record {
  stand = tell image other first cs holds.stand (λ k le lt. same k le (omega (arith, lt, holds.within)));
  within = holds.within;
}

pub one_record_more : OneRecordMore
one_record_more image first used cs c holds fill has stands =
    let there : first + used ≡ first + blocks_of cs = omega (arith, fill) in (
      record {
        stand = records_stand-push image first cs c holds.stand has (subst (λ (n : ℕ). RecordStands image n c) there stands);
        within = omega (arith, blocks_of-push cs c, fill);
      },
      omega (arith, blocks_of-push cs c, fill),
    )

-- the first records take some of the blocks of all
pub blocks_of-more : (cs : List Command) (i : ℕ) (d : Command) → i < length cs
    → (blocks_of (take (i + 1) cs) ≡ blocks_of (take i cs) + record_blocks (get_or cs i d)) × (blocks_of (take (i + 1) cs) ≤ blocks_of cs)
blocks_of-more [] i d lt = absurd (omega arith)
blocks_of-more (c ∷ cs) zero d lt = (omega arith, omega arith)
blocks_of-more (c ∷ cs) (suc i) d lt =
    let rest = blocks_of-more cs i d (omega arith) in
    let same : suc i + 1 ≡ suc (i + 1) = omega arith in
    let longer : blocks_of (take (suc i + 1) (c ∷ cs)) ≡ record_blocks c + blocks_of (take (i + 1) cs) = ap (λ (n : ℕ). blocks_of (take n (c ∷ cs))) same in
    (omega (arith, rest.0, longer), omega (arith, rest.1, longer))
