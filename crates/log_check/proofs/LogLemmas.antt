-- What is found in a log.
use Rattle.std.proofs.Common.{◌≡◌, ◌∙◌, ◌<◌, ◌≤◌, ◌+◌, inl, inr, ℕ, zero, suc, Bool, List, [], ◌∷◌, ◌++◌, length, take, Option, Some, None, refl, sym, ap, subst, arith, length-append}
use Rattle.std.specs.Prelude.{IsTrue, IfSome, IfNone}
use Rattle.vol_numbers.specs.Layout.{log_start}
use Rattle.vol_numbers.specs.declared.block.Block.{Block}
use Rattle.block_format.specs.declared.root.RootBody.{RootBody}
use Rattle.block_format.specs.Root.{Root, root_of}
use Rattle.root_switch.specs.Current.{root_of_image}
use Rattle.tree_model.specs.declared.command.Command.{Command}
use Rattle.op_log.specs.Log.{HoldsRecords, RecordsStand, IsFirstBad, blocks_of}
use Rattle.op_log.specs.Record.{record_blocks}
use Rattle.op_log.proofs.LogLemmas.{one_log}
use Rattle.volume_model.specs.Machine.{Stored}
use Rattle.image_model.specs.Finds.{HasAccepted, IsBadLog}
use Rattle.image_model.specs.Stands.{Logs, layout_in, records_in, used_in}
use Rattle.volume_model.specs.Accepted.{Accepts}
use Rattle.node_table.specs.Held.{Nodes}
use Rattle.log_check.specs.Accepting.{IsShown, TakesEach, IsRefusedAt, with_records}
use Rattle.log_check.specs.Reading.{ReadsFront, IsWhole, IsPart}
use Rattle.log_check.specs.declared.reading.Front.{Front}

if_some : {X : Type 0} (P : X → Type 0) (o : Option X) (x : X) → o ≡ Some x → IfSome o P → P x
if_some P (Some y) x e holds = let same : y ≡ x = cc in subst P same holds
if_some P None x e holds = cc

if_none : {X : Type 0} (P : Type 0) (o : Option X) → o ≡ None → IfNone o P → P
if_none P None e holds = holds
if_none P (Some x) e holds = cc

length_front : {X : Type 0} (n : ℕ) (xs : List X) → n ≤ length xs → length (take n xs) ≡ n
length_front zero xs le = refl
length_front (suc n) [] le = absurd (omega arith)
length_front (suc n) (x ∷ xs) le = ap (λ (k : ℕ). suc k) (length_front n xs (omega arith))

records_take : (image : List Block) (at i : ℕ) (cs : List Command) → RecordsStand image at cs → RecordsStand image at (take i cs)
records_take image at zero cs stand = tt
records_take image at (suc i) [] stand = tt
records_take image at (suc i) (c ∷ cs) stand = (stand.0, stand.1, records_take image (at + record_blocks c) i cs stand.2)

blocks_take : (i : ℕ) (cs : List Command) → blocks_of (take i cs) ≤ blocks_of cs
blocks_take zero cs = omega arith
blocks_take (suc i) [] = omega arith
blocks_take (suc i) (c ∷ cs) = omega (arith, blocks_take i cs)

log_take : (image : List Block) (first used i : ℕ) (cs : List Command) → HoldsRecords image first used cs → HoldsRecords image first used (take i cs)
log_take image first used i cs holds = record { stand = records_take image first i cs holds.stand; within = omega (arith, blocks_take i cs, holds.within) }

-- no more records are read than the root says
not_more : (o : Option ℕ) (long records : ℕ) → IfNone o (long ≡ records) → IfSome o (λ i. (long ≡ i) × (i < records)) → long ≤ records
not_more None long records whole part = omega (arith, whole)
not_more (Some i) long records whole part = omega (arith, part.0, part.1)

module _ (tells : Bool) (image : List Block) (body : RootBody) (front : Front) (tell : IsTrue tells) (reads : ReadsFront tells image body front) (root : root_of_image image ≡ root_of body)
    (free : ℕ) (old : Nodes) (s : Stored) (shown : IsShown image old free s) where
  abbrev commands : List Command
  commands = front.commands

  holds : HoldsRecords image (log_start (layout_in image)) (used_in image) commands
  holds = subst (λ (r : Root). HoldsRecords image (log_start r.layout) r.log_used commands) (sym root) (reads.logged tell)

  records_is : records_in image ≡ body.records
  records_is = ap (λ (r : Root). r.records) root

  used_is : used_in image ≡ body.log_used
  used_is = ap (λ (r : Root). r.log_used) root

  -- the image shows the same with other records, which its log holds and which are accepted
  accepted_with : (records : List Command) → HoldsRecords image (log_start (layout_in image)) (used_in image) records → Accepts free s.tree 0 records → HasAccepted image (with_records s records)
  accepted_with records logged all = record {
    shows = record { ordered = shown.shows.ordered; tree = shown.shows.tree; places = shown.shows.places };
    logged = logged;
    accepted = subst (λ (n : ℕ). Accepts n s.tree 0 records) shown.free_is all;
  }

  -- all records are read and accepted, and they fill the used blocks
  pub all_logs : (new : Nodes) → TakesEach free old commands new → IsWhole body front → Logs image (with_records s commands)
  all_logs new takes whole = record {
    count = if_none (length commands ≡ body.records) front.bad whole.none_bad reads.whole ∙ sym records_is;
    logged = holds;
    filled = omega (arith, reads.within, whole.full, used_is);
    accepted = subst (λ (n : ℕ). Accepts n s.tree 0 commands) shown.free_is (takes s shown.is_tree shown.holds).accepted;
  }

  -- one of them is refused
  pub refused_bad : (i : ℕ) → IsRefusedAt free old commands i → IsBadLog image i
  refused_bad i refused =
      let front_holds = log_take image (log_start (layout_in image)) (used_in image) i commands holds in
      let next_holds = log_take image (log_start (layout_in image)) (used_in image) (i + 1) commands holds in
      let long : length (take i commands) ≡ i = length_front i commands (omega (arith, refused.within)) in
      let longer : length (take (i + 1) commands) ≡ i + 1 = length_front (i + 1) commands (omega (arith, refused.within)) in
      record {
        before = with_records s (take i commands);
        count = long;
        good = accepted_with (take i commands) front_holds (refused.before s shown.is_tree shown.holds);
        bad = inl (
          omega (arith, refused.within, records_is, not_more front.bad (length commands) body.records reads.whole reads.part),
          λ command more.
              let same : take i commands ++ command ∷ [] ≡ take (i + 1) commands =
              one_log image (log_start (layout_in image)) (used_in image) (take i commands ++ command ∷ []) (take (i + 1) commands) more.logged next_holds (length-append (take i commands) (command ∷ []) ∙ ap (λ (n : ℕ). n + 1) long ∙ sym longer) in
              refused.refused s shown.is_tree shown.holds (subst (Accepts free s.tree 0) same (subst (λ (n : ℕ). Accepts n s.tree 0 (take i commands ++ command ∷ [])) (sym shown.free_is) more.accepted)),
        );
      }

  -- they are accepted, and the record behind them is bad
  behind_bad : (i : ℕ) → front.bad ≡ Some i → Accepts free s.tree 0 commands → IsBadLog image i
  behind_bad i there all =
      let part = if_some (λ (i : ℕ). (length commands ≡ i) × (i < body.records)) front.bad i there reads.part in
      let bad : IsFirstBad image (log_start (root_of body).layout) body.log_used i = if_some (IsFirstBad image (log_start (root_of body).layout) body.log_used) front.bad i there (reads.bad tell) in
      let same : bad.before ≡ commands = one_log image (log_start (root_of body).layout) body.log_used bad.before commands bad.good (reads.logged tell) (bad.count ∙ sym part.0) in
      record {
        before = with_records s commands;
        count = part.0;
        good = accepted_with commands holds all;
        bad = inl (
          omega (arith, part.1, records_is),
          λ command more. bad.none command (subst (λ (l : List Command). HoldsRecords image (log_start (root_of body).layout) body.log_used (l ++ command ∷ [])) (sym same)
              (subst (λ (r : Root). HoldsRecords image (log_start r.layout) r.log_used (commands ++ command ∷ [])) root more.logged)),
        );
      }

  -- they are all, and take fewer blocks than the root says
  short_bad : (i : ℕ) → front.bad ≡ None → i ≡ body.records → blocks_of commands < body.log_used → Accepts free s.tree 0 commands → IsBadLog image i
  short_bad i none is short all = record {
    before = with_records s commands;
    count = if_none (length commands ≡ body.records) front.bad none reads.whole ∙ sym is;
    good = accepted_with commands holds all;
    bad = inr (is ∙ sym records_is, omega (arith, short, used_is));
  }

  -- they are accepted, and something is wrong with what is behind them
  pub part_bad : (new : Nodes) (i : ℕ) → TakesEach free old commands new → IsPart body front i → IsBadLog image i
  part_bad new i takes (inl there) = behind_bad i there (takes s shown.is_tree shown.holds).accepted
  part_bad new i takes (inr short) = short_bad i short.0 short.1 short.2 (takes s shown.is_tree shown.holds).accepted
