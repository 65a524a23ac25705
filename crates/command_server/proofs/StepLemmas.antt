-- What one item makes of a session.
use Rattle.std.proofs.Common.{◌≡◌, ◌≢◌, ◌∙◌, inl, inr, ℕ, Bool, false, List, [], ◌∷◌, ◌++◌, length, take, Option, Some, None, Result, Ok, Err, IsTrue, refl, sym, ap, subst, arith}
use Rattle.std.proofs.lemmas.List.{append-nil, take_all}
use Rattle.disk_model.specs.Disk.{State, EachImage, is_among}
use Rattle.disk_model.specs.Past.{Past, Adds}
use Rattle.disk_model.proofs.Moments.{adds_none, adds_weaker}
use Rattle.wire_ends.specs.Ends.{Input, Output, Puts}
use Rattle.wire_ends.proofs.PutLemmas.{puts_none}
use Rattle.tree_model.specs.declared.command.Command.{Command}
use Rattle.log_volume.specs.Fits.{Volume, Fits, StandsForSome, kept_by}
use Rattle.log_volume.specs.Image.{Stands}
use Rattle.log_volume.specs.Replay.{Kept, after}
use Rattle.log_volume.specs.declared.answer.Answer.{Answer}
use Rattle.log_volume.specs.declared.answer.Stopped.{Stopped}
use Rattle.log_volume.specs.declared.answer.Stopped.TheVariants.{Now, Before}
use Rattle.log_volume.proofs.ImageLaws.{kept_stands, image_keeps}
use Rattle.std.specs.Prelude.{OnErr}
use Rattle.command_text.specs.Reading.{ReadsNext}
use Rattle.command_text.specs.declared.fault.TextFault.{TextFault}
use Rattle.command_text.specs.declared.fault.TextFault.TheVariants.{Source, BadStream, Budget, OutOfMemory}
use Rattle.command_text.specs.Text.{Text, Next, next}
use Rattle.command_text.specs.Text.Next.{Given}
use Rattle.command_text.specs.declared.item.Item.{Item}
use Rattle.command_text.specs.declared.item.Item.TheVariants as item
use Rattle.command_server.specs.Answering.{status_of, Says}
use Rattle.command_server.specs.Items.{IsLegal, added_by}
use Rattle.command_server.specs.Serving.{ended_by, left_by, no_text}
use Rattle.command_server.specs.Texts.{answered_text}
use Rattle.command_server.specs.Session.{StandsForPrefix, MayBeLeft, HoldsNoItem, EndsBy, Session, point}
use Rattle.command_server.specs.Session.Last.{Nothing, Cut, Stop}
use Rattle.command_server.specs.declared.serving.Served.{Served}
use Rattle.command_server.specs.declared.serving.Served.TheVariants.{GoesOn, Ends}
use Rattle.command_server.specs.declared.status.Status.{Status}
use Rattle.command_server.specs.declared.status.Status.TheVariants as status

pub fits_image : {volume : Volume} {s : State} → Fits volume s → EachImage (λ image. Stands image (kept_by volume)) s
fits_image {volume = volume} {s = s} fits image is = kept_stands s.contents image (kept_by volume) (image_keeps s image (record { selector = closed 0; root = closed _; live = λ k live. closed k }) is) fits.stands
  where
    closed : (k : ℕ) → is_among s.unsynced k ≡ false
    closed k = ap (λ (u : List ℕ). is_among u k) fits.all_synced

-- each image stands for what the volume keeps
pub all_stand : {volume : Volume} {start : Kept} {made : List Command} {s : State} → Fits volume s → kept_by volume ≡ after made start → EachImage (StandsForPrefix start (length made) made) s
all_stand {start = start} {made = made} {s = s} fits is image im = record {
  count = length made;
  at_least = omega arith;
  at_most = omega arith;
  stands = subst (λ (k : Kept). Stands image k) (is ∙ ap (λ (l : List Command). after l start) (sym (take_all (length made) made (omega arith)))) (fits_image fits image im);
}

-- what is read next, if it isn't the end
pub given_of : (next : Next) (behind : Text) (given : Item) → (given ≡ item.Ended → ⊥) → ReadsNext next behind (Ok given) → next ≡ Given given behind
given_of next behind (item.Command command) not reads = reads
given_of next behind (item.Refused refusal) not reads = reads
given_of next behind item.Ended not reads = absurd (not refl)

-- no item was read
pub nothing_read : {room : ℕ} {tells : Bool} {text behind : Text} {source source' : Input} {sink : Output} {state : State} {past : Past} {volume : Volume} {ended : Option Status}
    → (IsTrue source.is_told → IsTrue source'.is_told) → (IsTrue tells → Fits volume state)
    → EndsBy ended (IsTrue source.is_told) (point behind source' sink (kept_by volume) state past) text Nothing
    → Session room tells (point text source sink (kept_by volume) state past) (point behind source' sink (kept_by volume) state past) ended
nothing_read {text = text} {sink = sink} {past = past} told fits ends = record {
  items = [];
  answers = [];
  last = Nothing;
  rest = text;
  told = told;
  read = λ is. refl;
  legal = tt;
  put = puts_none sink;
  ends = ends;
  kept = λ none. refl;
  moments = λ is. adds_none past _;
  leaves = λ is. ((fits is).all_synced, all_stand (fits is) refl);
}

moments_of : {past past' : Past} {start : Kept} {entry : State} (more : List Command) → Adds past past' (EachImage (StandsForSome start more)) → Adds past past' (EachImage (MayBeLeft start (more ++ []) entry))
moments_of {past = past} {past' = past'} {start = start} {entry = entry} more adds = subst (λ (l : List Command). Adds past past' (EachImage (MayBeLeft start l entry))) (sym (append-nil more))
    (adds_weaker adds (λ s each image im. let some = each image im in inl (record { count = some.count; at_least = omega arith; at_most = some.within; stands = some.stands })))

kept_after : (start kept : Kept) (more : List Command) → kept ≡ after more start → kept ≡ after (more ++ []) start
kept_after start kept more is = is ∙ ap (λ (l : List Command). after l start) (sym (append-nil more))

module _ {room : ℕ} {tells : Bool} {text behind : Text} {source source' : Input} {given : Item} (told : IsTrue source.is_told → IsTrue source'.is_told) (read : IsTrue source.is_told → next text ≡ Given given behind)
    {start : Kept} {state state' : State} {past past' : Past} where
  -- the volume stopped
  pub stopped_at : {sink : Output} {kept' : Kept} {last : Text} (stopped : Stopped) → IsLegal room start given (Err stopped)
      → (IsTrue tells → Adds past past' (EachImage (StandsForSome start (added_by room start given (Err stopped)))))
      → (IsTrue tells → EachImage (StandsForSome start (added_by room start given (Err stopped))) state') → (IsTrue tells → state'.unsynced ≢ [])
      → Session room tells (point text source sink start state past) (point last source' sink kept' state' past') (Some status.Device)
  stopped_at {sink = sink} stopped legal during left_there unsynced = record {
    items = given ∷ [];
    answers = [];
    last = Stop stopped;
    rest = behind;
    told = told;
    read = λ is. (behind, read is, refl);
    legal = (legal, tt);
    put = puts_none sink;
    ends = (stopped, refl);
    kept = λ none. cc;
    moments = λ is. moments_of (added_by room start given (Err stopped)) (during is);
    leaves = λ is. (
      unsynced is,
      subst (λ (l : List Command). EachImage (StandsForPrefix start 0 l) state') (sym (append-nil (added_by room start given (Err stopped))))
          (λ image im. let some = left_there is image im in record { count = some.count; at_least = omega arith; at_most = some.within; stands = some.stands }),
    );
  }

  module _ (answer : Answer) (volume' : Volume) (legal : IsLegal room start given (Ok answer)) (kept_is : kept_by volume' ≡ after (added_by room start given (Ok answer)) start)
      (fits : IsTrue tells → Fits volume' state') (during : IsTrue tells → Adds past past' (EachImage (StandsForSome start (added_by room start given (Ok answer))))) {sink sink' : Output} where
    -- its text was put
    pub answered : Puts sink sink' (answered_text answer) → Session room tells (point text source sink start state past) (point behind source' sink' (kept_by volume') state' past') None
    answered put = record {
      items = given ∷ [];
      answers = answer ∷ [];
      last = Nothing;
      rest = behind;
      told = told;
      read = λ is. (behind, read is, refl);
      legal = (legal, tt);
      put = subst (λ (l : List ℕ). Puts sink sink' l) (sym (append-nil (answered_text answer ++ []) ∙ append-nil (answered_text answer))) put;
      ends = (refl, λ is. refl);
      kept = λ none. kept_after start (kept_by volume') (added_by room start given (Ok answer)) kept_is;
      moments = λ is. moments_of (added_by room start given (Ok answer)) (during is);
      leaves = λ is. ((fits is).all_synced, all_stand (fits is) (kept_after start (kept_by volume') (added_by room start given (Ok answer)) kept_is));
    }

    -- so many bytes of it were put
    pub cut_off : {status : Status} {last : Text} (count : ℕ) → Puts sink sink' (take count (answered_text answer))
        → EndsBy (Some status) (IsTrue source.is_told) (point last source' sink' (kept_by volume') state' past') behind (Cut answer count)
        → Session room tells (point text source sink start state past) (point last source' sink' (kept_by volume') state' past') (Some status)
    cut_off count put ends = record {
      items = given ∷ [];
      answers = [];
      last = Cut answer count;
      rest = behind;
      told = told;
      read = λ is. (behind, read is, refl);
      legal = (legal, tt);
      put = put;
      ends = ends;
      kept = λ none. cc;
      moments = λ is. moments_of (added_by room start given (Ok answer)) (during is);
      leaves = λ is. ((fits is).all_synced, all_stand (fits is) (kept_after start (kept_by volume') (added_by room start given (Ok answer)) kept_is));
    }

    -- by what was put of it
    pub said : (served : Served) → Says (answered_text answer) served sink sink' → Session room tells (point text source sink start state past) (point (left_by served behind) source' sink' (kept_by volume') state' past') (ended_by served)
    said GoesOn says = answered says
    said (Ends status.SinkFailed) says = cut_off says.count says.puts (answer, says.count, refl)
    said (Ends status.NoMemory) says = cut_off 0 (subst (λ (o : Output). Puts sink o []) (sym says) (puts_none sink)) (inr (answer, refl))
    said (Ends status.Done) says = absurd says
    said (Ends status.Usage) says = absurd says
    said (Ends status.BadVolume) says = absurd says
    said (Ends status.Device) says = absurd says
    said (Ends status.SourceFailed) says = absurd says
    said (Ends status.BadStream) says = absurd says
    said (Ends status.Budget) says = absurd says

-- how a session ends whose next item can't be read
pub unread_ends : (told : Type 0) (fault : TextFault) (text behind : Text) (source' : Input) (sink : Output) (kept : Kept) (state : State) (past : Past) → (told → ReadsNext (next text) behind (Err fault)) → (told → fault ≡ Source → HoldsNoItem text source')
    → EndsBy (Some (status_of fault)) told (point no_text source' sink kept state past) text Nothing
unread_ends told Source text behind source' sink kept state past reads undecided = (refl, λ t. undecided t refl)
unread_ends told BadStream text behind source' sink kept state past reads undecided = (refl, reads)
unread_ends told Budget text behind source' sink kept state past reads undecided = (refl, reads)
unread_ends told OutOfMemory text behind source' sink kept state past reads undecided = inl refl

-- a sound volume stops only now
pub stops_now : (P : Result Answer Stopped → Type 0) (r : Result Answer Stopped) → (r ≡ Err Now → P r) → (r ≡ Err Before → ⊥) → OnErr r (P r)
stops_now P (Ok answer) now before = tt
stops_now P (Err Now) now before = now refl
stops_now P (Err Before) now before = absurd (before refl)
