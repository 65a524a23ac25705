-- Whatever an image stands for, a volume over it is in the tree of a state that the course passes.
use Rattle.std.proofs.Common.{◌≡◌, ◌∙◌, ⊎_elim, inl, inr, ◌≤◌, ℕ, false, List, [], ◌∷◌, ◌++◌, length, refl, sym, ap, arith}
use Rattle.std.specs.Prelude.{Option, None, Some}
use Rattle.vol_numbers.specs.declared.block.Block.{Block}
use Rattle.disk_model.specs.Disk.{State, EachImage, is_among}
use Rattle.tree_model.specs.declared.command.Command.{Command}
use Rattle.tree_model.specs.declared.report.Report.{Report}
use Rattle.tree_model.specs.Tree.{Tree, new_tree}
use Rattle.volume_model.specs.Done.{done, all_done, mounted}
use Rattle.volume_model.specs.Legal.{when_answered}
use Rattle.volume_model.specs.Machine.{Machine, Rules, Stored, stored, at_point}
use Rattle.state_laws.specs.States.{IsWhatItStores}
use Rattle.image_model.specs.Fresh.{fresh_stored}
use Rattle.image_model.specs.Stands.{Stands}
use Rattle.image_model.proofs.ExactLaws.{standing_has_none}
use Rattle.image_model.proofs.FreshLaws.{fresh_stands}
use Rattle.image_model.proofs.ImageLaws.{one_meaning, kept_stands}
use Rattle.image_model.proofs.Kept.{image_keeps}
use Rattle.session_model.specs.Given.{report_in}
use Rattle.session_model.specs.Course.{Course, Exchange, Last, acknowledged, accepted, accepted_by, accepted_last, report_last, after, before_last, next_by, state_after}
use Rattle.session_model.specs.Course.Last.{Nothing, Untold, Stop}
use Rattle.session_model.specs.Stages.{IsOneOf, StandsForOne, StandsForPrefix, last_stages, stages, passed, passed_from}
use Rattle.session_model.specs.Follows.{Leaves}
use Rattle.session_model.specs.CourseLaws.{ExitStands}
use Rattle.session_model.specs.Runs.{KeepsAcknowledged, MustKeep, TwoRuns, AnyMoment}
use Rattle.session_model.specs.Runs.HasRun.{formatted, served}
use Rattle.session_model.proofs.Passing.{one_either, of_three, last_prefix}

done_last : (m : Machine) (cs : List Command) (c : Command) → all_done m (cs ++ c ∷ []) ≡ done (all_done m cs) c
done_last m [] c = refl
done_last m (x ∷ cs) c = done_last (done m x) cs c

stores_done : (m : Machine) (c : Command) → IsWhatItStores m → IsWhatItStores (done m c)
stores_done m c is =
    ap (λ (x : Machine). record x { cache = m.cache }) (done_last (at_point m.layout m.stored_tree m.stored_places m.point []) m.records c)
    ∙ ap (λ (x : Machine). done x c) is

stores_all_done : (m : Machine) (cs : List Command) → IsWhatItStores m → IsWhatItStores (all_done m cs)
stores_all_done m [] own = own
stores_all_done m (c ∷ cs) own = stores_all_done (done m c) cs (stores_done m c own)

stores_when : (r : Rules) (m : Machine) (report : Option Report) → IsWhatItStores m → IsWhatItStores (when_answered r m report)
stores_when r m None own = own
stores_when r m (Some report) own = refl

stores_after : (r : Rules) (m : Machine) (report : Option Report) (cs : List Command) → IsWhatItStores m → IsWhatItStores (after r m report cs)
stores_after r m report cs own = stores_all_done (when_answered r m report) cs (stores_when r m report own)

stores_state : (r : Rules) (m : Machine) (es : List Exchange) → IsWhatItStores m → IsWhatItStores (state_after r m es)
stores_state r m [] own = own
stores_state r m (e ∷ es) own = stores_state r (next_by r m e) es (stores_after r m (report_in e.answer) (accepted_by e) own)

stores_stage : (r : Rules) (m : Machine) (report : Option Report) (cs : List Command) (s : Machine) → IsWhatItStores m → IsOneOf (stages r m report cs) s → IsWhatItStores s
stores_stage r m report cs s own is =
    of_three m (when_answered r m report) (after r m report cs) s IsWhatItStores own (stores_when r m report own) (stores_after r m report cs own) is

stores_passed : (r : Rules) (m : Machine) (es : List Exchange) (last : Last) (s : Machine) → IsWhatItStores m → IsOneOf (passed_from r m es last) s → IsWhatItStores s
stores_passed r m [] last s own is = stores_stage r m (report_last last) (accepted_last r m last) s own is
stores_passed r m (e ∷ es) last s own is =
    ⊎_elim (λ here. stores_stage r m (report_in e.answer) (accepted_by e) s own here)
    (λ later. stores_passed r (next_by r m e) es last s (stores_after r m (report_in e.answer) (accepted_by e) own) later)
    (one_either (stages r m (report_in e.answer) (accepted_by e)) (passed_from r (next_by r m e) es last) s is)

-- a disk at which nothing is unsynced has one image, as far as it stands for something
pub synced_stands : (s : State) (t : Stored) → s.unsynced ≡ [] → Stands s.contents t → EachImage (λ image. Stands image t) s
synced_stands s t synced stands image is = kept_stands s.contents image t (image_keeps s image (record { selector = closed 0; root = closed _; live = λ k live. closed k }) is) stands
  where
    closed : (k : ℕ) → is_among s.unsynced k ≡ false
    closed k = ap (λ (u : List ℕ). is_among u k) synced

exit_one : (r : Rules) (m : Machine) (es : List Exchange) (last : Last) (s : State) → Leaves r (record { start = m; told = es; last = last }) last s
    → EachImage (StandsForOne (last_stages r (state_after r m es) last)) s
exit_one r m es Nothing s left image is = record { state = state_after r m es; is_one = inl refl; stands = synced_stands s (stored (state_after r m es)) left.synced left.stands image is }
exit_one r m es (Untold e) s left image is = record { state = next_by r (state_after r m es) e; is_one = inr (inr (inl refl)); stands = synced_stands s (stored (next_by r (state_after r m es) e)) left.synced left.stands image is }
exit_one r m es (Stop command report) s left image is = let one = left.images image is in record { state = one.state; is_one = one.is_one; stands = one.stands }

pub exit_stands : ExitStands
exit_stands r c s left image is = last_prefix r c image (exit_one r c.start c.told c.last s left image is)

-- ---- two runs

must_keep : (image : List Block) (s : Machine) (start : Tree) (acknowledged accepted : List Command) → IsWhatItStores s → Stands image (stored s) → KeepsAcknowledged start acknowledged accepted s.tree
    → MustKeep start acknowledged accepted image
must_keep image s start acknowledged accepted own stands keeps = record {
  nothing_found = standing_has_none image (stored s) stands;
  can = (s, record { stands = stands; stores = own });
  keeps = λ m volume.
      let same : stored m ≡ stored s = one_meaning image (stored m) (stored s) volume.stands stands in
      record {
        count = keeps.count;
        at_least = keeps.at_least;
        at_most = keeps.at_most;
        is = sym (ap (λ (x : Machine). x.tree) volume.stores) ∙ ap (λ (x : Stored). (mounted x).tree) same ∙ ap (λ (x : Machine). x.tree) own ∙ keeps.is;
      };
}

prefix_keeps : (r : Rules) (c : Course) (states : List Machine) (least : ℕ) (image : List Block) (some : List Command) → length some ≤ least → (p : StandsForPrefix r c states least image) → IsWhatItStores p.state
    → MustKeep c.start.tree some (accepted r c) image
prefix_keeps r c states least image some le p own =
    must_keep image p.state c.start.tree some (accepted r c) own p.stands (record { count = p.count; at_least = omega (arith, le, p.at_least); at_most = p.at_most; is = p.tree })

pub two_runs : TwoRuns
two_runs s start known taken (formatted g state synced fresh) image is =
    must_keep image (mounted (fresh_stored g)) new_tree [] [] refl (synced_stands state (fresh_stored g) synced (fresh_stands g state.contents fresh) image is) (record { count = 0; at_least = omega arith; at_most = omega arith; is = refl })
two_runs s start known taken (served r c first state volume left) image is =
    let p = exit_stands r c state left image is in
    prefix_keeps r c (last_stages r (before_last r c) c.last) (length (acknowledged c)) image (acknowledged c) (omega arith) p
    (stores_stage r (before_last r c) (report_last c.last) (accepted_last r (before_last r c) c.last) p.state (stores_state r c.start c.told volume.stores) p.is_one)

pub any_moment : AnyMoment
any_moment r c first s volume each image is =
    let p = each image is in
    prefix_keeps r c (passed r c) 0 image [] (omega arith) p (stores_passed r c.start c.told c.last p.state volume.stores p.is_one)
