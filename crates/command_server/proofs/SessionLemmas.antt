-- Two sessions, one after the other, are one.
use Rattle.std.proofs.Common.{◌≡◌, inl, inr, ⊎_elim, ℕ, ◌+◌, ◌≤◌, Bool, List, [], ◌∷◌, ◌++◌, length, take, map, Option, Some, None, Ok, IsTrue, refl, sym, ◌∙◌, ap, subst, arith, append_assoc, length-append}
use Rattle.std.proofs.lemmas.List.{append-nil, map-append, take-append-le}
use Rattle.std.proofs.lemmas.List.Concat.{flat_map-append}
use Rattle.std.proofs.Math.Seq.{take-append-add}
use Rattle.vol_numbers.specs.declared.block.Block.{Block}
use Rattle.disk_model.specs.Disk.{State, EachImage}
use Rattle.disk_model.specs.Past.{Adds}
use Rattle.disk_model.proofs.Moments.{adds_then, adds_weaker}
use Rattle.wire_ends.specs.Ends.{Puts}
use Rattle.wire_ends.proofs.PutLemmas.{puts_both}
use Rattle.tree_model.specs.declared.command.Command.{Command}
use Rattle.log_volume.specs.Image.{Stands}
use Rattle.log_volume.specs.Replay.{Kept, and_command, after}
use Rattle.log_volume.specs.declared.answer.Answer.{Answer}
use Rattle.command_text.specs.Text.{Text, Reads}
use Rattle.command_text.specs.declared.item.Item.{Item}
use Rattle.command_server.specs.Items.{Outcome, added_by}
use Rattle.command_server.specs.Texts.{answered_text, answered_texts}
use Rattle.command_server.specs.Session.{AllLegal, all_added, Last, last_outcome, part_of, StandsForPrefix, MayBeLeft, Point, EndsBy, Leaves, Session}
use Rattle.command_server.specs.Session.Last.{Nothing, Cut, Stop}
use Rattle.command_server.specs.declared.status.Status.{Status}
use Rattle.command_server.specs.declared.status.Status.TheVariants.{Done, Usage, BadVolume, Device, SourceFailed, SinkFailed, NoMemory, BadStream, Budget}

pub after_then : (a b : List Command) (kept : Kept) → after (a ++ b) kept ≡ after b (after a kept)
after_then [] b kept = refl
after_then (x ∷ a) b kept = after_then a b (and_command kept x)

reads_then : (text mid rest : Text) (cs ds : List Item) → Reads text cs mid → Reads mid ds rest → Reads text (cs ++ ds) rest
reads_then text mid rest [] ds one two = subst (λ (t : Text). Reads t ds rest) (sym one) two
reads_then text mid rest (c ∷ cs) ds one two = (one.0, one.1, reads_then one.0 mid rest cs ds one.2 two)

legal_then : (room : ℕ) (names : Kept) (cs : List Item) (os : List Outcome) (ds : List Item) (ps : List Outcome) → AllLegal room names cs os → AllLegal room (after (all_added room names cs os) names) ds ps
    → AllLegal room names (cs ++ ds) (os ++ ps)
legal_then room names [] [] ds ps one two = two
legal_then room names (c ∷ cs) (o ∷ os) ds ps one two =
    let mid = after (added_by room names c o) names in
    (one.0, legal_then room mid cs os ds ps one.1 (subst (λ (n : Kept). AllLegal room n ds ps) (after_then (added_by room names c o) (all_added room mid cs os) names) two))
legal_then room names [] (o ∷ os) ds ps one two = absurd one
legal_then room names (c ∷ cs) [] ds ps one two = absurd one

added_then : (room : ℕ) (names : Kept) (cs : List Item) (os : List Outcome) (ds : List Item) (ps : List Outcome) → AllLegal room names cs os
    → all_added room names (cs ++ ds) (os ++ ps) ≡ all_added room names cs os ++ all_added room (after (all_added room names cs os) names) ds ps
added_then room names [] [] ds ps one = refl
added_then room names (c ∷ cs) (o ∷ os) ds ps one =
    let mid = after (added_by room names c o) names in
    ap (λ (l : List Command). added_by room names c o ++ l) (added_then room mid cs os ds ps one.1)
    ∙ ap (λ (n : Kept). added_by room names c o ++ (all_added room mid cs os ++ all_added room n ds ps)) (sym (after_then (added_by room names c o) (all_added room mid cs os) names))
    ∙ sym (append_assoc (added_by room names c o) (all_added room mid cs os) _)
added_then room names [] (o ∷ os) ds ps one = absurd one
added_then room names (c ∷ cs) [] ds ps one = absurd one

outcomes_then : (one two : List Answer) (l : List Outcome) → map Ok (one ++ two) ++ l ≡ map Ok one ++ (map Ok two ++ l)
outcomes_then one two l = ap (λ (os : List Outcome). os ++ l) (map-append Ok one two) ∙ append_assoc (map Ok one) (map Ok two) l

-- what stands for some of the first files
earlier : (start : Kept) (a b : List Command) (image : List Block) → StandsForPrefix start 0 a image → StandsForPrefix start 0 (a ++ b) image
earlier start a b image some = record {
  count = some.count;
  at_least = omega arith;
  at_most = omega (arith, some.at_most, length-append a b);
  stands = subst (λ (l : List Command). Stands image (after l start)) (sym (take-append-le some.count a b some.at_most)) some.stands;
}

-- what stands for all of them and some of the later ones
later : (start : Kept) (a b : List Command) (least : ℕ) (image : List Block) → StandsForPrefix (after a start) least b image → StandsForPrefix start (length a + least) (a ++ b) image
later start a b least image some = record {
  count = length a + some.count;
  at_least = omega (arith, some.at_least);
  at_most = omega (arith, some.at_most, length-append a b);
  stands = subst (λ (k : Kept). Stands image k) (sym (after_then a (take some.count b) start) ∙ ap (λ (l : List Command). after l start) (sym (take-append-add a b some.count))) some.stands;
}

pub lower : {start : Kept} {a : List Command} {least more : ℕ} {image : List Block} → StandsForPrefix start more a image → least ≤ more → StandsForPrefix start least a image
lower some le = record { count = some.count; at_least = omega (arith, some.at_least); at_most = some.at_most; stands = some.stands }

leaves_later : (last : Last) (start : Kept) (a acknowledged b : List Command) (s : State) → Leaves last (after a start) (length acknowledged) b s → Leaves last start (length (a ++ acknowledged)) (a ++ b) s
leaves_later Nothing start a acknowledged b s left = (left.0, λ image is. lower (later start a b (length b) image (left.1 image is)) (omega (arith, length-append a b)))
leaves_later (Cut answer count) start a acknowledged b s left = (left.0, λ image is. lower (later start a b (length b) image (left.1 image is)) (omega (arith, length-append a b)))
leaves_later (Stop stopped) start a acknowledged b s left = (left.0, λ image is. lower (later start a b (length acknowledged) image (left.1 image is)) (omega (arith, length-append a acknowledged)))

-- how it ends is told as far as at the start
ends_told : (ended : Option Status) (one two : Type 0) (new : Point) (rest : Text) (last : Last) → (one → two) → EndsBy ended two new rest last → EndsBy ended one new rest last
ends_told None one two new rest last told ends = (ends.0, λ t. ends.1 (told t))
ends_told (Some Done) one two new rest last told ends = (ends.0, λ t. ends.1 (told t))
ends_told (Some BadStream) one two new rest last told ends = (ends.0, λ t. ends.1 (told t))
ends_told (Some Budget) one two new rest last told ends = (ends.0, λ t. ends.1 (told t))
ends_told (Some SourceFailed) one two new rest last told ends = (ends.0, λ t. ends.1 (told t))
ends_told (Some NoMemory) one two new rest last told ends = ends
ends_told (Some SinkFailed) one two new rest last told ends = ends
ends_told (Some Device) one two new rest last told ends = ends
ends_told (Some Usage) one two new rest last told ends = absurd ends
ends_told (Some BadVolume) one two new rest last told ends = absurd ends

module _ {room : ℕ} {tells : Bool} {old mid new : Point} {ended : Option Status} (one : Session room tells old mid None) (two : Session room tells mid new ended) where
  -- all of the first session's answers were put whole
  abbrev whole : List Outcome
  whole = map Ok one.answers

  abbrev outcomes_two : List Outcome
  outcomes_two = map Ok two.answers ++ last_outcome two.last

  abbrev added_one : List Command
  added_one = all_added room old.kept one.items whole

  abbrev added_two : List Command
  added_two = all_added room (after added_one old.kept) two.items outcomes_two

  outcomes_one : whole ++ last_outcome one.last ≡ whole
  outcomes_one = ap (λ (l : Last). whole ++ last_outcome l) one.ends.0 ∙ append-nil whole

  legal_one : AllLegal room old.kept one.items whole
  legal_one = subst (λ (os : List Outcome). AllLegal room old.kept one.items os) outcomes_one one.legal

  kept_mid : mid.kept ≡ after added_one old.kept
  kept_mid = one.kept refl

  outcomes : map Ok (one.answers ++ two.answers) ++ last_outcome two.last ≡ whole ++ outcomes_two
  outcomes = outcomes_then one.answers two.answers (last_outcome two.last)

  acknowledged : all_added room old.kept (one.items ++ two.items) (map Ok (one.answers ++ two.answers)) ≡ added_one ++ all_added room (after added_one old.kept) two.items (map Ok two.answers)
  acknowledged = ap (all_added room old.kept (one.items ++ two.items)) (map-append Ok one.answers two.answers) ∙ added_then room old.kept one.items whole two.items (map Ok two.answers) legal_one

  accepted : all_added room old.kept (one.items ++ two.items) (map Ok (one.answers ++ two.answers) ++ last_outcome two.last) ≡ added_one ++ added_two
  accepted = ap (all_added room old.kept (one.items ++ two.items)) outcomes ∙ added_then room old.kept one.items whole two.items outcomes_two legal_one

  moments_one : IsTrue tells → Adds old.past mid.past (EachImage (MayBeLeft old.kept added_one old.state))
  moments_one is = subst (λ (os : List Outcome). Adds old.past mid.past (EachImage (MayBeLeft old.kept (all_added room old.kept one.items os) old.state))) outcomes_one (one.moments is)

  -- what the first session leaves
  between : IsTrue tells → EachImage (StandsForPrefix old.kept 0 added_one) mid.state
  between is image im =
      let left = subst (λ (l : Last). Leaves l old.kept (length added_one) (all_added room old.kept one.items (whole ++ last_outcome l)) mid.state) one.ends.0 (one.leaves is) in
      lower (subst (λ (os : List Outcome). StandsForPrefix old.kept (length (all_added room old.kept one.items os)) (all_added room old.kept one.items os) image) (append-nil whole) (left.1 image im)) (omega arith)

  put_one : Puts old.sink mid.sink (answered_texts one.answers)
  put_one = subst (λ (l : List ℕ). Puts old.sink mid.sink l) (ap (λ (l : Last). answered_texts one.answers ++ part_of l) one.ends.0 ∙ append-nil (answered_texts one.answers)) one.put

  texts_are : answered_texts (one.answers ++ two.answers) ++ part_of two.last ≡ answered_texts one.answers ++ (answered_texts two.answers ++ part_of two.last)
  texts_are = ap (λ (l : List ℕ). l ++ part_of two.last) (flat_map-append answered_text one.answers two.answers) ∙ append_assoc (answered_texts one.answers) (answered_texts two.answers) (part_of two.last)

  pub session_then : Session room tells old new ended
  session_then = record {
    items = one.items ++ two.items;
    answers = one.answers ++ two.answers;
    last = two.last;
    rest = two.rest;
    told = λ t. two.told (one.told t);
    read = λ t. reads_then old.text mid.text two.rest one.items two.items (subst (λ (x : Text). Reads old.text one.items x) (one.ends.1 t) (one.read t)) (two.read (one.told t));
    legal = subst (λ (os : List Outcome). AllLegal room old.kept (one.items ++ two.items) os) (sym outcomes)
        (legal_then room old.kept one.items whole two.items outcomes_two legal_one (subst (λ (n : Kept). AllLegal room n two.items outcomes_two) kept_mid two.legal));
    put = subst (λ (l : List ℕ). Puts old.sink new.sink l) (sym texts_are) (puts_both put_one two.put);
    ends = ends_told ended (IsTrue old.source.is_told) (IsTrue mid.source.is_told) new two.rest two.last one.told two.ends;
    kept = λ none. two.kept none ∙ ap (λ (n : Kept). after (all_added room n two.items (map Ok two.answers)) n) kept_mid ∙ sym (after_then added_one _ old.kept)
        ∙ ap (λ (l : List Command). after l old.kept) (sym acknowledged);
    moments = λ is. subst (λ (l : List Command). Adds old.past new.past (EachImage (MayBeLeft old.kept l old.state))) (sym accepted)
        (adds_then (adds_weaker (moments_one is) (λ s each image im. ⊎_elim (λ some. inl (earlier old.kept added_one added_two image some)) (λ first. inr first) (each image im)))
        (two.moments is) (λ s each image im. ⊎_elim
        (λ some. inl (lower (later old.kept added_one added_two 0 image (subst (λ (n : Kept). StandsForPrefix n 0 (all_added room n two.items outcomes_two) image) kept_mid some)) (omega arith)))
        (λ mid_image. inl (earlier old.kept added_one added_two image (between is image mid_image))) (each image im)));
    leaves = λ is. subst (λ (l : List Command). Leaves two.last old.kept (length l) (all_added room old.kept (one.items ++ two.items) (map Ok (one.answers ++ two.answers) ++ last_outcome two.last)) new.state) (sym acknowledged)
        (subst (λ (l : List Command). Leaves two.last old.kept (length (added_one ++ all_added room (after added_one old.kept) two.items (map Ok two.answers))) l new.state) (sym accepted)
        (leaves_later two.last old.kept added_one (all_added room (after added_one old.kept) two.items (map Ok two.answers)) added_two new.state
        (subst (λ (n : Kept). Leaves two.last n (length (all_added room n two.items (map Ok two.answers))) (all_added room n two.items outcomes_two) new.state) kept_mid (two.leaves is))));
  }
