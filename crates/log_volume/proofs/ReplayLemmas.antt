-- Commands that are done in turn, and what they make of a log.
use Rattle.std.proofs.Common.{◌≡◌, ◌∙◌, ◌<◌, ◌≤◌, ◌+◌, inl, ℕ, zero, suc, Bool, List, [], ◌∷◌, ◌++◌, length, get_or, take, Option, Some, None, refl, sym, ap, subst, arith, add-one, length-append}
use Rattle.std.specs.Prelude.{slice_get, Result, Ok, Err, IsTrue, IfSome, IfNone}
use Rattle.vol_numbers.specs.Layout.{log_start}
use Rattle.vol_numbers.specs.declared.block.Block.{Block}
use Rattle.block_format.specs.declared.root.RootBody.{RootBody}
use Rattle.block_format.specs.Root.{Root, root_of}
use Rattle.root_switch.specs.Current.{root_of_image}
use Rattle.tree_model.specs.Tree.{Tree}
use Rattle.tree_model.specs.declared.command.Command.{Command}
use Rattle.tree_model.specs.declared.reply.Reply.{Reply}
use Rattle.tree_model.specs.declared.reply.Reply.TheVariants.{Done}
use Rattle.tree_model.specs.Step.{step}
use Rattle.op_log.specs.Log.{HoldsRecords, RecordsStand, IsFirstBad, blocks_of}
use Rattle.op_log.specs.Record.{record_blocks}
use Rattle.op_log.proofs.LogLemmas.{one_log}
use Rattle.log_volume.specs.Finding.{HasBadLog}
use Rattle.log_volume.specs.Image.{LogHolds, Logs, layout_in, records_in, used_in}
use Rattle.log_volume.specs.Replay.{Kept, nothing_kept, after, IsDone, DoesEach}
use Rattle.log_volume.specs.Mounting.{OnFound, FindsLog}
use Rattle.log_volume.specs.Replaying.{ReadsFront, IsRefusal, IsRefusedAt}
use Rattle.log_volume.specs.declared.finding.Finding.TheVariants.{NoRoot, BadGeometry, Unbuilt, BadLog}
use Rattle.log_volume.specs.declared.mounting.MountFault.{MountFault}
use Rattle.log_volume.specs.declared.mounting.MountFault.TheVariants.{Found, Device, OutOfMemory}
use Rattle.log_volume.specs.declared.replaying.Front.{Front}
use Rattle.log_volume.proofs.ImageLaws.{used_after, does-push, after-push}

pub take_next : {X : Type 0} (n : ℕ) (xs : List X) (x : X) → slice_get xs n ≡ Some x → take (suc n) xs ≡ take n xs ++ x ∷ []
take_next n [] x there = cc
take_next zero (y ∷ ys) x there = let same : y ≡ x = cc in ap (λ (z : _). z ∷ []) same
take_next (suc n) (y ∷ ys) x there = ap (λ (l : List _). y ∷ l) (take_next n ys x there)

length_front : {X : Type 0} (n : ℕ) (xs : List X) → n < length xs → length (take n xs) ≡ n
length_front zero xs lt = refl
length_front (suc n) [] lt = absurd (omega arith)
length_front (suc n) (x ∷ xs) lt = ap (λ (k : ℕ). suc k) (length_front n xs (omega arith))

item_at : {X : Type 0} (xs : List X) (i : ℕ) → i < length xs → (x : X) × (slice_get xs i ≡ Some x)
item_at [] i lt = absurd (omega arith)
item_at (x ∷ xs) zero lt = (x, refl)
item_at (x ∷ xs) (suc i) lt = item_at xs i (omega arith)

-- what stands at an index
pub there_is : {X : Type 0} (xs : List X) (i : ℕ) (x : X) → i < length xs → x ≡ get_or xs i x → slice_get xs i ≡ Some x
there_is [] i x lt is = absurd (omega arith)
there_is (y ∷ xs) zero x lt is = ap (λ (z : _). Some z) (sym is)
there_is (y ∷ xs) (suc i) x lt is = there_is xs i x (omega arith) is

same_last : {X : Type 0} (xs : List X) (a b : X) → xs ++ a ∷ [] ≡ xs ++ b ∷ [] → a ≡ b
same_last [] a b e = cc
same_last (x ∷ xs) a b e = same_last xs a b cc

records_take : (image : List Block) (at i : ℕ) (cs : List Command) → RecordsStand image at cs → RecordsStand image at (take i cs)
records_take image at zero cs stand = tt
records_take image at (suc i) [] stand = tt
records_take image at (suc i) (c ∷ cs) stand = (stand.0, stand.1, records_take image (at + record_blocks c) i cs stand.2)

blocks_take : (i : ℕ) (cs : List Command) → blocks_of (take i cs) ≤ blocks_of cs
blocks_take zero cs = omega arith
blocks_take (suc i) [] = omega arith
blocks_take (suc i) (c ∷ cs) = omega (arith, blocks_take i cs)

log_take : (image : List Block) (i : ℕ) (cs : List Command) → LogHolds image cs → LogHolds image (take i cs)
log_take image i cs holds = record { stand = records_take image (log_start (layout_in image)) i cs holds.stand; within = omega (arith, blocks_take i cs, holds.within) }

if_some : {X : Type 0} (P : X → Type 0) (o : Option X) (x : X) → o ≡ Some x → IfSome o P → P x
if_some P (Some y) x e holds = let same : y ≡ x = cc in subst P same holds
if_some P None x e holds = cc

-- one log has one command behind these
next_is : (image : List Block) (xs : List Command) (a b : Command) → LogHolds image (xs ++ a ∷ []) → LogHolds image (xs ++ b ∷ []) → a ≡ b
next_is image xs a b one two =
    same_last xs a b (one_log image (log_start (layout_in image)) (used_in image) (xs ++ a ∷ []) (xs ++ b ∷ []) one two (length-append xs (a ∷ []) ∙ sym (length-append xs (b ∷ []))))

module _ (tells : Bool) (image : List Block) (body : RootBody) (front : Front) (is : IsTrue tells) (reads : ReadsFront tells image body front) (root : root_of_image image ≡ root_of body) where
  abbrev commands : List Command
  commands = front.commands

  pub holds : LogHolds image commands
  holds = subst (λ (r : Root). HoldsRecords image (log_start r.layout) r.log_used commands) (sym root) (reads.logged is)

  records_is : records_in image ≡ body.records
  records_is = ap (λ (r : Root). r.records) root

  not_more : (o : Option ℕ) → IfNone o (length commands ≡ body.records) → IfSome o (λ i. (length commands ≡ i) × (i < body.records)) → length commands ≤ body.records
  not_more None whole part = omega (arith, whole)
  not_more (Some i) whole part = omega (arith, part.0, part.1)

  -- the tree refuses one of them
  pub refused_bad : (i : ℕ) → IsRefusedAt commands i → HasBadLog image i
  refused_bad i refused =
      let item = item_at commands i refused.within in
      let next : take (suc i) commands ≡ take i commands ++ item.0 ∷ [] = take_next i commands item.0 item.1 in
      let its : LogHolds image (take i commands ++ item.0 ∷ []) = subst (LogHolds image) next (log_take image (suc i) commands holds) in
      record {
        commands = take i commands;
        count = length_front i commands refused.within;
        logged = log_take image i commands holds;
        done = refused.done;
        bad = inl (
          omega (arith, refused.within, records_is, not_more front.bad reads.whole reads.part),
          λ command more done. if_some (λ (c : Command). IsDone (after (take i commands) nothing_kept) c → ⊥) (slice_get commands i) item.0 item.1 refused.refused (subst (λ (c : Command). IsDone (after (take i commands) nothing_kept) c) (next_is image (take i commands) command item.0 more its) done),
        );
      }

  -- the record behind them is bad
  pub first_bad_bad : (i : ℕ) → front.bad ≡ Some i → DoesEach nothing_kept commands → HasBadLog image i
  first_bad_bad i there done =
      let part = if_some (λ (i : ℕ). (length commands ≡ i) × (i < body.records)) front.bad i there reads.part in
      let bad : IsFirstBad image (log_start (root_of body).layout) body.log_used i = if_some (IsFirstBad image (log_start (root_of body).layout) body.log_used) front.bad i there (reads.bad is) in
      let same : bad.before ≡ commands = one_log image (log_start (root_of body).layout) body.log_used bad.before commands bad.good (reads.logged is) (bad.count ∙ sym part.0) in
      record {
        commands = commands;
        count = part.0;
        logged = holds;
        done = done;
        bad = inl (
          omega (arith, part.1, records_is),
          λ command more ignored. bad.none command (subst (λ (l : List Command). HoldsRecords image (log_start (root_of body).layout) body.log_used (l ++ command ∷ [])) (sym same)
              (subst (λ (r : Root). HoldsRecords image (log_start r.layout) r.log_used (commands ++ command ∷ [])) root more)),
        );
      }

  -- they are all, fill the log and are done
  pub all_logs : (tree : Tree) → front.bad ≡ None → DoesEach nothing_kept commands → tree ≡ (after commands nothing_kept).tree → body.log_used ≤ blocks_of commands
      → Logs image (record { tree = tree; used = body.log_used })
  all_logs tree none done made full =
      let filled : blocks_of commands ≡ body.log_used = omega (arith, reads.within, full) in
      let used : body.log_used ≡ (after commands nothing_kept).used = omega (arith, filled, used_after commands nothing_kept) in
      record {
        commands = commands;
        count = subst (λ (o : Option ℕ). IfNone o (length commands ≡ body.records)) none reads.whole ∙ sym records_is;
        logged = holds;
        filled = filled ∙ sym (ap (λ (r : Root). r.log_used) root);
        done = done;
        is = λ i. record { tree = made i; used = used i };
      }

-- what is found in doing them is found in the log
pub refused_found : {T : Type 0} (tells : Bool) (image : List Block) (body : RootBody) (front : Front) (r : Result T MountFault) → ReadsFront tells image body front → (IsTrue tells → root_of_image image ≡ root_of body)
    → OnFound r (IsRefusal front.commands) → OnFound r (λ finding. IsTrue tells → FindsLog image finding)
refused_found tells image body front (Ok tree) reads root refused = tt
refused_found tells image body front (Err (Found NoRoot)) reads root refused = absurd refused
refused_found tells image body front (Err (Found BadGeometry)) reads root refused = absurd refused
refused_found tells image body front (Err (Found Unbuilt)) reads root refused = absurd refused
refused_found tells image body front (Err (Found (BadLog i))) reads root refused = λ is. refused_bad tells image body front is reads (root is) i refused
refused_found tells image body front (Err Device) reads root refused = tt
refused_found tells image body front (Err OutOfMemory) reads root refused = tt

-- the next command is done too
pub does_next : (cs : List Command) (i : ℕ) (c : Command) (tree new : Tree) → slice_get cs i ≡ Some c → DoesEach nothing_kept (take i cs) → tree ≡ (after (take i cs) nothing_kept).tree
    → step tree c ≡ (Done, new) → DoesEach nothing_kept (take (i + 1) cs) × (new ≡ (after (take (i + 1) cs) nothing_kept).tree)
does_next cs i c tree new there does made stepped =
    let longer : take (i + 1) cs ≡ take i cs ++ c ∷ [] = ap (λ (n : ℕ). take n cs) (add-one i) ∙ take_next i cs c there in
    let here : step (after (take i cs) nothing_kept).tree c ≡ (Done, new) = ap (λ (t : Tree). step t c) (sym made) ∙ stepped in (
      subst (DoesEach nothing_kept) (sym longer) (does-push (take i cs) c nothing_kept does (ap (λ (r : Reply × Tree). r.0) here)),
      sym (ap (λ (r : Reply × Tree). r.1) here) ∙ sym (ap (λ (k : Kept). k.tree) (ap (λ (l : List Command). after l nothing_kept) longer ∙ after-push (take i cs) c nothing_kept)),
    )

-- the next command is not done
pub refused_next : (cs : List Command) (i : ℕ) (c : Command) (tree new : Tree) (reply : Reply) → i < length cs → slice_get cs i ≡ Some c → DoesEach nothing_kept (take i cs)
    → tree ≡ (after (take i cs) nothing_kept).tree → step tree c ≡ (reply, new) → (reply ≡ Done → ⊥) → IsRefusedAt cs i
refused_next cs i c tree new reply lt there does made stepped not = record {
  within = lt;
  done = does;
  refused = subst (λ (o : Option Command). IfSome o (λ command. IsDone (after (take i cs) nothing_kept) command → ⊥)) (sym there)
      (λ done. not (sym (ap (λ (r : Reply × Tree). r.0) stepped) ∙ ap (λ (t : Tree). (step t c).0) made ∙ done));
}
