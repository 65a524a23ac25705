-- What opening and mounting an image makes of the media, and of the session that follows.
use Rattle.std.proofs.Common.{◌≡◌, inl, inr, ⊎_elim, ℕ, Bool, true, false, List, [], Option, Some, None, IsTrue, refl, sym, ◌∙◌, ap, subst}
use Rattle.std.specs.Prelude.{if◌then◌else◌, IfSome, IsSomeAnd}
use Rattle.vol_numbers.specs.declared.block.Block.{Block}
use Rattle.disk_model.specs.Disk.{State, IsImage, DuringSync, synced}
use Rattle.disk_model.specs.Media.{image_named}
use Rattle.disk_model.specs.Past.{Past, Adds}
use Rattle.disk_model.proofs.Moments.{adds_then, adds_weaker, image_unsynced}
use Rattle.root_switch.specs.Current.{root_of_image}
use Rattle.block_format.specs.Root.{Root}
use Rattle.wire_ends.specs.Ends.{Output}
use Rattle.wire_ends.specs.Ends.{Input}
use Rattle.log_volume.specs.Fits.{Volume, Fits, kept_by}
use Rattle.log_volume.specs.Image.{Stands}
use Rattle.log_volume.specs.Replay.{Kept}
use Rattle.command_text.specs.Text.{Text}
use Rattle.command_server.specs.Serving.{text_of_source, no_text, session_budget}
use Rattle.command_server.specs.Serves.{Ends, image_at, HasNoMore, Unchanged, IsFound, IsUnmounted, Served, TellsFinding}
use Rattle.command_server.specs.Session.{Session, point}
use Rattle.command_server.specs.Session.Last.{Nothing}
use Rattle.log_volume.specs.declared.finding.Finding.{Finding}
use Rattle.command_server.specs.declared.status.Status.{Status}
use Rattle.command_server.specs.declared.status.Status.TheVariants.{Done, Usage, BadVolume, Device, SourceFailed, SinkFailed, NoMemory, BadStream, Budget}
use Rattle.command_server.proofs.SessionLemmas.{session_then}
use Rattle.command_server.proofs.StepLemmas.{all_stand}
use Rattle.wire_ends.proofs.PutLemmas.{puts_none}

no_more_during : (s r : State) → DuringSync s r → HasNoMore s r
no_more_during s r during image im = ⊎_elim (λ e. subst (λ (m : State). IsImage m image) e im) (λ e. image_unsynced s image (subst (λ (m : State). IsImage m image) e im)) during

keeps_by : (is : Bool) (other : Option State) (s r : State) → HasNoMore s r → IfSome (if is then Some r else other) (λ after. IsSomeAnd (if is then Some s else other) (λ before. HasNoMore before after))
keeps_by true other s r more = more
keeps_by false None s r more = tt
keeps_by false (Some there) s r more = λ image im. im

-- an image was opened, and synced or not
pub unchanged_mounted : {tells : Bool} {name : List ℕ} {old new : Ends} {image : State} {opened : Past}
    → (IsTrue tells → image_at old name ≡ Some image) → (IsTrue tells → (other : List ℕ) → image_named new.fixed image other ≡ image_at old other)
    → Adds old.past opened (λ s. s ≡ image) → (IsTrue tells → DuringSync image new.state) → (IsTrue tells → Adds opened new.past (DuringSync image))
    → Unchanged tells name old new
unchanged_mounted {name = name} {old = old} {new = new} {image = image} found all opens same syncs = record {
  images = λ is other. subst (λ (o : Option State). IfSome (image_at new other) (λ after. IsSomeAnd o (λ before. HasNoMore before after))) (all is other)
      (keeps_by _ (new.fixed.others other) image new.state (no_more_during image new.state (same is)));
  moments = λ is. adds_then
      (adds_weaker opens (λ s e. inl (subst (λ (o : Option State). IsSomeAnd o (λ before. HasNoMore before s)) (sym (found is)) (λ b im. subst (λ (m : State). IsImage m b) e im))))
      (syncs is)
      (λ s during. inl (subst (λ (o : Option State). IsSomeAnd o (λ before. HasNoMore before s)) (sym (found is)) (no_more_during image s during)));
}

-- a mount is a session of no item
mounted : {room : ℕ} {tells : Bool} {text : Text} {source : Input} {sink : Output} {image state : State} {past opened mounted_past : Past} {volume : Volume}
    → Adds past opened (λ s. s ≡ image) → (IsTrue tells → Adds opened mounted_past (DuringSync image)) → (IsTrue tells → Fits volume state)
    → Session room tells (point text source sink (kept_by volume) image past) (point text source sink (kept_by volume) state mounted_past) None
mounted {text = text} {sink = sink} {image = image} opens syncs fits = record {
  items = [];
  answers = [];
  last = Nothing;
  rest = text;
  told = λ told. told;
  read = λ told. refl;
  legal = tt;
  put = puts_none sink;
  ends = (refl, λ told. refl);
  kept = λ none. refl;
  moments = λ is. adds_then (adds_weaker opens (λ s e b im. inr (subst (λ (m : State). IsImage m b) e im))) (syncs is) (λ s during b im. inr (no_more_during image s during b im));
  leaves = λ is. ((fits is).all_synced, all_stand (fits is) refl);
}

-- why no volume was mounted is told, or the sink fails
pub found_cause : (tells : Bool) (there : Option State) (old new : Ends) (status : Status) (finding : Finding) → IsFound tells there finding → TellsFinding finding status old.sink new.sink → IsUnmounted status tells there old new
found_cause tells there old new BadVolume finding found told = (finding, found, told)
found_cause tells there old new SinkFailed finding found told = (finding, found, told)
found_cause tells there old new Done finding found told = absurd told
found_cause tells there old new Usage finding found told = absurd told
found_cause tells there old new Device finding found told = absurd told
found_cause tells there old new SourceFailed finding found told = absurd told
found_cause tells there old new NoMemory finding found told = absurd told
found_cause tells there old new BadStream finding found told = absurd told
found_cause tells there old new Budget finding found told = absurd told

-- a session over a volume that was mounted from an image
pub served : {tells : Bool} {name : List ℕ} {old new : Ends} {image state : State} {opened past : Past} {volume : Volume} {status : Status}
    → (IsTrue tells → image_at old name ≡ Some image) → Adds old.past opened (λ s. s ≡ image) → (IsTrue tells → Adds opened past (DuringSync image))
    → (IsTrue tells → Fits volume state) → (IsTrue tells → state ≡ synced image)
    → (left : Kept) × Session volume.root.layout.log_blocks tells (point (text_of_source session_budget old.source) old.source old.sink (kept_by volume) state past) (point no_text new.source new.sink left new.state new.past) (Some status)
    → Served tells name old new status
served {image = image} {volume = volume} found opens syncs fits is_synced session = record {
  image = image;
  kept = kept_by volume;
  room = volume.root.layout.log_blocks;
  named = found;
  stands = λ is. subst (λ (l : List Block). Stands l (kept_by volume)) (ap (λ (s : State). s.contents) (is_synced is)) (fits is).stands;
  has_room = λ is. ap (λ (r : Root). r.layout.log_blocks) (sym (fits is).root_is) ∙ ap (λ (s : State). (root_of_image s.contents).layout.log_blocks) (is_synced is);
  left = session.0;
  session = session_then (mounted opens syncs fits) session.1;
}
