-- Each legal answer leaves a state coherent, and so every state that is reached is.
use Rattle.std.proofs.Common.{◌≡◌, ◌<◌, Bool, true, false, cond, Some, None, inl, inr, refl, sym, ap, subst, ◌∙◌, arith}
use Rattle.std.specs.Prelude.{◌&&◌, ◌||◌, Option}
use Rattle.std.proofs.lemmas.List.Elements.{All-nil}
use Rattle.tree_model.specs.declared.command.Command.{Command}
use Rattle.tree_model.specs.declared.refusal.Refusal.TheVariants.{NoSpace}
use Rattle.tree_model.specs.declared.reply.Reply.{Reply}
use Rattle.tree_model.specs.declared.reply.Reply.TheVariants as reply
use Rattle.tree_model.specs.declared.report.Answer.{Answer}
use Rattle.tree_model.specs.declared.report.Report.{Report}
use Rattle.tree_model.specs.Shape.{IsTree}
use Rattle.tree_model.specs.Step.{step, is_change, refusal_of}
use Rattle.tree_model.specs.Tree.{Tree}
use Rattle.tree_model.proofs.RefusalLaws.{changes_are_done}
use Rattle.space_account.specs.Charge.{need}
use Rattle.volume_model.specs.Done.{done}
use Rattle.volume_model.specs.Legal.{IsLegal, Replies, MayReport, changes, is_full, is_due, is_done, is_excuse, is_outside, when_answered, next}
use Rattle.volume_model.specs.Machine.{Machine, Rules, block_at, free_of}
use Rattle.volume_model.specs.Places.{Spot, has_spot, spots_of}
use Rattle.volume_model.specs.Point.{IsPoint, after_point, placed_after, fresh_in}
use Rattle.volume_model.specs.ReportLaws.{IsReport}
use Rattle.volume_model.specs.Short.{AnswerForNow, answered, point_short, IsLegalForNow, next_for_now, is_short}
use Rattle.volume_model.specs.Whole.{IsWhole}
use Rattle.volume_model.proofs.CacheLists.{stays_a_cache_list, eight_at_most}
use Rattle.volume_model.proofs.RoomLaws.{reply_is, excuse_is, not_refused, kept_reply, done_has_room}
use Rattle.volume_model.proofs.WholeLaws.{point_whole}
use Rattle.state_laws.specs.Accepted.{IsAccepted}
use Rattle.state_laws.specs.Files.{HasPlace, zero_block}
use Rattle.state_laws.specs.Laws.{AcceptedIsDone, AlwaysCoherent, StoredIsMountable, PlacesAreInFiles, KeptStays, HolesRead, BlocksHaveBytes, CacheListsAre, FingerprintsAreTrue, StoresItself, DirectoriesAreWide}
use Rattle.state_laws.specs.States.{IsCoherent, IsWide, IsReached, mount, answer, answer_for_now}
use Rattle.state_laws.proofs.Commands.{done_coherent, mounted_coherent}
use Rattle.state_laws.proofs.PointBytes.{after_held, same_after}
use Rattle.state_laws.proofs.TrueFingerprints.{fingerprints_after}

-- ---- a point

first_held : (k : Bool) → (k || false) ≡ true → k ≡ true
first_held true e = refl
first_held false e = e

none_held : (k : Bool) → (k || false) ≡ false → k ≡ false
none_held true e = cc
none_held false e = refl

point_coherent : (r : Rules) (m : Machine) (report : Report) → 0 < r.threshold → IsCoherent r m → IsPoint r m report → IsCoherent r (after_point r m (fresh_in report))
point_coherent r m report positive coherent point = record {
  whole = whole;
  mountable = record {
    tree = coherent.tree;
    in_order = whole.stored_in_order;
    in_files = in_files;
    holes = holes;
    same = same_after r m report is coherent.mountable.same coherent.unchanged;
    changes = All-nil (λ (c : Command). is_change c ≡ true);
    accepted = tt;
    fits = λ valid recorded. omega arith;
  };
  tree = coherent.tree;
  in_files = λ spot e. in_files spot (first_held (has_spot (spots_of (placed_after r m (fresh_in report))) spot) e);
  unchanged = λ spot e. refl;
  holes = λ spot e. holes spot (none_held (has_spot (spots_of (placed_after r m (fresh_in report))) spot) e);
  cache = stays_a_cache_list.after_point r m (placed_after r m (fresh_in report)) coherent.cache;
  few_kin = eight_at_most.after_point r m (placed_after r m (fresh_in report)) coherent.few_kin;
  fingerprints = fingerprints_after r m report is coherent.mountable.same coherent.unchanged coherent.fingerprints;
  what_it_stores = refl;
}
  where
    is : IsReport r m report
    is = record { positive = positive; whole = coherent.whole; point = point }

    whole : IsWhole (after_point r m (fresh_in report))
    whole = point_whole r m (fresh_in report) coherent.whole

    in_files : (spot : Spot) → has_spot (spots_of (placed_after r m (fresh_in report))) spot ≡ true → HasPlace m.tree spot
    in_files spot e = coherent.in_files spot (sym (after_held r m report (record { positive = positive; whole = coherent.whole; point = point }) spot) ∙ e)

    holes : (spot : Spot) → has_spot (spots_of (placed_after r m (fresh_in report))) spot ≡ false → block_at m.tree spot ≡ zero_block
    holes spot e = coherent.holes spot (sym (after_held r m report (record { positive = positive; whole = coherent.whole; point = point }) spot) ∙ e)

-- ---- a change that is answered as done was accepted

done_is : (given : Reply) → is_done given ≡ true → given ≡ reply.Done
done_is reply.Done e = refl
done_is given e = cc

pub accepted_is_done : AcceptedIsDone
accepted_is_done = record {
  done = λ tree command is. changes_are_done tree command is.change is.accepted;
  accepted = λ tree command change ok. record { change = change; accepted = not_refused tree command (refusal_of tree command) ok refl };
}

accepted : (r : Rules) (m : Machine) (c : Command) (given : Answer) → is_change c ≡ true → is_done given.reply ≡ true → Replies r m c given → IsAccepted (when_answered r m given.report).tree c
accepted r m c given change ok replies = by replies
  where
    now : Machine
    now = when_answered r m given.report

    by : Replies r m c given → IsAccepted (when_answered r m given.report).tree c
    by (inl two) =
        let told : cond (changes now c && is_full now c) (reply.Refused (NoSpace (free_of now) (need c))) (step now.tree c).0 ≡ reply.Done = sym (reply_is now c change) ∙ sym two.1 ∙ done_is given.reply ok in
        record { change = change; accepted = not_refused now.tree c (refusal_of now.tree c) (kept_reply (changes now c && is_full now c) (NoSpace (free_of now) (need c)) (step now.tree c).0 told).1 refl }
    by (inr excuse) = let never : false ≡ true = sym (ap is_outside (done_is given.reply ok)) ∙ excuse_is c given change excuse in cc

-- ---- an answer

answered_coherent : (r : Rules) (m : Machine) (c : Command) (o : Option Report) → 0 < r.threshold → IsCoherent r m → MayReport r m c o → IsCoherent r (when_answered r m o)
answered_coherent r m c None positive is may = is
answered_coherent r m c (Some report) positive is may = point_coherent r m report positive is may.1

both : (a b : Bool) → (a && b) ≡ true → (a ≡ true) × (b ≡ true)
both true b e = (refl, e)
both false b e = cc

next_coherent : (r : Rules) (m : Machine) (c : Command) (given : Answer) → 0 < r.threshold → IsCoherent r m → IsLegal r m c given → IsCoherent r (next r m c given)
next_coherent r m c given positive is legal = by (is_change c && is_done given.reply) refl
  where
    now : IsCoherent r (when_answered r m given.report)
    now = answered_coherent r m c given.report positive is legal.report

    by : (t : Bool) → (is_change c && is_done given.reply) ≡ t → IsCoherent r (cond t (done (when_answered r m given.report) c) (when_answered r m given.report))
    by true e = let two = both (is_change c) (is_done given.reply) e in done_coherent r (when_answered r m given.report) c now (accepted r m c given two.0 two.1 legal.reply) (done_has_room.legal r m c given two.0 legal (done_is given.reply two.1))
    by false e = now

-- an excuse without a report leaves the state
excused : (r : Rules) (m : Machine) (c : Command) (given : Answer) → given.report ≡ None → is_excuse c given ≡ true → next r m c given ≡ m
excused r m c given none excuse =
    ap (λ (o : Option Report). cond (is_change c && is_done given.reply) (done (when_answered r m o) c) (when_answered r m o)) none ∙ by (is_change c) (is_done given.reply) refl refl
  where
    by : (t u : Bool) → is_change c ≡ t → is_done given.reply ≡ u → cond (t && u) (done m c) m ≡ m
    by true true change ok = let never : false ≡ true = sym (ap is_outside (done_is given.reply ok)) ∙ excuse_is c given change excuse in cc
    by true false change ok = refl
    by false u change ok = refl

for_now_coherent : (r : Rules) (m : Machine) (c : Command) (given : AnswerForNow) → 0 < r.threshold → IsCoherent r m → IsLegalForNow r m c given → IsCoherent r (next_for_now r m c given)
for_now_coherent r m c point_short positive is legal = is
for_now_coherent r m c (answered given) positive is legal = by (is_due m c && is_short m) refl
  where
    by : (t : Bool) → (is_due m c && is_short m) ≡ t → IsCoherent r (next r m c given)
    by true e = let now = rw e at legal in subst (IsCoherent r) (sym (excused r m c given now.0 now.1)) is
    by false e = next_coherent r m c given positive is (rw e at legal)

pub always_coherent : AlwaysCoherent
always_coherent = record { at_first = mounted_coherent; later = next_coherent; for_now = for_now_coherent }

-- ---- every state that is reached

reached_coherent : (r : Rules) (m : Machine) → 0 < r.threshold → IsReached r m → IsCoherent r m
reached_coherent r m positive (mount s is) = mounted_coherent r s is
reached_coherent r m positive (answer before c given reached legal) = next_coherent r before c given positive (reached_coherent r before positive reached) legal
reached_coherent r m positive (answer_for_now before c given reached legal) = for_now_coherent r before c given positive (reached_coherent r before positive reached) legal

pub stored_is_mountable : StoredIsMountable
stored_is_mountable r m positive reached = (reached_coherent r m positive reached).mountable

pub places_are_in_files : PlacesAreInFiles
places_are_in_files r m positive reached = (reached_coherent r m positive reached).in_files

pub kept_stays : KeptStays
kept_stays r m positive reached = (reached_coherent r m positive reached).unchanged

pub holes_read : HolesRead
holes_read r m positive reached = (reached_coherent r m positive reached).holes

pub blocks_have_bytes : BlocksHaveBytes
blocks_have_bytes r m positive reached = (reached_coherent r m positive reached).mountable.same

pub cache_lists_are : CacheListsAre
cache_lists_are = record {
  lists = λ r m positive reached. (reached_coherent r m positive reached).cache;
  few_kin = λ r m positive reached. (reached_coherent r m positive reached).few_kin;
}

pub fingerprints_are_true : FingerprintsAreTrue
fingerprints_are_true r m positive reached = (reached_coherent r m positive reached).fingerprints

pub stores_itself : StoresItself
stores_itself r m positive reached = (reached_coherent r m positive reached).what_it_stores

wide : (tree : Tree) → IsTree tree → IsWide tree
wide tree is path node width stands content = (is.widths path node.number width (stands ∙ (λ i. Some (record { number = node.number; content = content i })))).0

pub directories_are_wide : DirectoriesAreWide
directories_are_wide = record {
  now = λ r m positive reached. wide m.tree (reached_coherent r m positive reached).tree;
  stored = λ r m positive reached. wide m.stored_tree (reached_coherent r m positive reached).mountable.tree;
}
