-- A command that is done leaves a state coherent, and so a mounted volume is.
use Rattle.std.proofs.Common.{◌≡◌, ℕ, ◌+◌, ◌≤◌, Bool, true, false, not, cond, List, [], ◌∷◌, ◌++◌, filter, Some, refl, sym, ap, subst, ◌∙◌, arith}
use Rattle.std.specs.Prelude.{◌&&◌, ◌||◌, All, option_map}
use Rattle.std.specs.declared.cmp.Ordering.{Ordering}
use Rattle.std.specs.declared.cmp.Ordering.TheVariants.{Less, Equal, Greater}
use Rattle.std.proofs.lemmas.List.Elements.{All-nil, All-head, All-tail, All-push}
use Rattle.tree_model.specs.declared.command.Command.{Command}
use Rattle.tree_model.specs.declared.reply.Reply.TheVariants as reply
use Rattle.tree_model.specs.Shape.{IsTree}
use Rattle.tree_model.specs.Step.{step, is_change, refusal_of}
use Rattle.tree_model.specs.Touched.{touched}
use Rattle.tree_model.specs.Tree.{Tree}
use Rattle.tree_model.proofs.RefusalLaws.{changes_are_done}
use Rattle.tree_model.proofs.StepWidths.{keeps_tree}
use Rattle.op_log.specs.Record.{HasRecord, record_blocks}
use Rattle.space_account.specs.Charge.{charge, need, pending}
use Rattle.volume_model.specs.Accepted.{Accepts, HasRoom}
use Rattle.volume_model.specs.CacheLaws.{IsCacheList, HasFewKin}
use Rattle.volume_model.specs.Done.{is_cut, cut_by, done, all_done, mounted}
use Rattle.volume_model.specs.LogUse.{log_use}
use Rattle.volume_model.specs.Machine.{Machine, Rules, Stored, stored, at_point, block_at, held, free_of}
use Rattle.volume_model.specs.Places.{Spot, Places, spot_cmp, spot_eq, has_spot, spots_of, by_order, with_spot, with_spots}
use Rattle.volume_model.specs.Space.{free_blocks}
use Rattle.volume_model.specs.Whole.{IsWhole}
use Rattle.volume_model.proofs.CacheLists.{stays_a_cache_list, eight_at_most}
use Rattle.volume_model.proofs.Order.{spot_tie}
use Rattle.volume_model.proofs.PointSpace.{left_has}
use Rattle.volume_model.proofs.RoomLaws.{not_refused}
use Rattle.volume_model.proofs.WholeLaws.{always_whole, done_whole, mounted_stores}
use Rattle.state_laws.specs.Accepted.{IsAccepted}
use Rattle.state_laws.specs.Files.{HasPlace, PlacesFollow, zero_block}
use Rattle.state_laws.specs.States.{IsMountable, is_held, IsInFiles, KeptIsUnchanged, HolesAreZeros, HasTrueFingerprints, IsWhatItStores, IsCoherent}
use Rattle.state_laws.proofs.Changes.{changes_follow}

-- ---- which places are kept and dirty

spots_left : (test : Spot → Bool) (placed : Places) → spots_of (filter (λ (e : Spot × ℕ). test e.0) placed) ≡ filter test (spots_of placed)
spots_left test [] = refl
spots_left test (e ∷ es) = by (test e.0) (spots_left test es)
  where
    by : (t : Bool) → spots_of (filter (λ (e : Spot × ℕ). test e.0) es) ≡ filter test (spots_of es)
        → spots_of (cond t (e ∷ filter (λ (e : Spot × ℕ). test e.0) es) (filter (λ (e : Spot × ℕ). test e.0) es)) ≡ cond t (e.0 ∷ filter test (spots_of es)) (filter test (spots_of es))
    by true more = ap (λ (ss : List Spot). e.0 ∷ ss) more
    by false more = more

kept_left : (test : Spot → Bool) (placed : Places) (spot : Spot) → has_spot (spots_of (filter (λ (e : Spot × ℕ). test e.0) placed)) spot ≡ (has_spot (spots_of placed) spot && test spot)
kept_left test placed spot = ap (λ (ss : List Spot). has_spot ss spot) (spots_left test placed) ∙ left_has test (spots_of placed) spot.0 spot.1

with_spot_has : (s : Spot) (spots : List Spot) (spot : Spot) → has_spot (with_spot s spots) spot ≡ (spot_eq s spot || has_spot spots spot)
with_spot_has s [] spot = refl
with_spot_has s (t ∷ ts) spot = by (spot_cmp s t) refl (with_spot_has s ts spot)
  where
    twice : (a b : Bool) → (a || b) ≡ (a || (a || b))
    twice true b = refl
    twice false b = refl

    swap : (a b c : Bool) → (b || (a || c)) ≡ (a || (b || c))
    swap true true c = refl
    swap true false c = refl
    swap false b c = refl

    by : (o : Ordering) → spot_cmp s t ≡ o → has_spot (with_spot s ts) spot ≡ (spot_eq s spot || has_spot ts spot) → has_spot (by_order o s t ts (with_spot s ts)) spot ≡ (spot_eq s spot || (spot_eq t spot || has_spot ts spot))
    by Less is more = refl
    by Equal is more = subst (λ (x : Spot). (spot_eq x spot || has_spot ts spot) ≡ (spot_eq s spot || (spot_eq x spot || has_spot ts spot))) (spot_tie s t is) (twice (spot_eq s spot) (has_spot ts spot))
    by Greater is more = ap (λ (u : Bool). spot_eq t spot || u) more ∙ swap (spot_eq s spot) (spot_eq t spot) (has_spot ts spot)

with_spots_has : (new spots : List Spot) (spot : Spot) → has_spot (with_spots new spots) spot ≡ (has_spot new spot || has_spot spots spot)
with_spots_has [] spots spot = refl
with_spots_has (s ∷ ss) spots spot = with_spots_has ss (with_spot s spots) spot ∙ ap (λ (u : Bool). has_spot ss spot || u) (with_spot_has s spots spot) ∙ turn (spot_eq s spot) (has_spot ss spot) (has_spot spots spot)
  where
    turn : (a b c : Bool) → (b || (a || c)) ≡ ((a || b) || c)
    turn true true c = refl
    turn true false c = refl
    turn false b c = refl

-- ---- one command

module _ (m : Machine) (command : Command) where
  abbrev cut : Spot → Bool
  cut = is_cut (cut_by m.tree command)

  abbrev new : Spot → Bool
  new = has_spot (touched m.tree command)

  abbrev was_kept : Spot → Bool
  was_kept = has_spot (spots_of m.kept)

  kept_now : (spot : Spot) → has_spot (spots_of (done m command).kept) spot ≡ (was_kept spot && (not (cut spot) && not (new spot)))
  kept_now spot = kept_left (λ (s : Spot). not (cut s) && not (new s)) m.kept spot

  dirty_now : (spot : Spot) → has_spot (done m command).dirty spot ≡ (new spot || (has_spot m.dirty spot && not (cut spot)))
  dirty_now spot = with_spots_has (touched m.tree command) (filter (λ (s : Spot). not (cut s)) m.dirty) spot ∙ ap (λ (u : Bool). new spot || u) (left_has (λ (s : Spot). not (cut s)) m.dirty spot.0 spot.1)

  held_now : (spot : Spot) → is_held (done m command) spot ≡ ((was_kept spot && (not (cut spot) && not (new spot))) || (new spot || (has_spot m.dirty spot && not (cut spot))))
  held_now spot = λ i. kept_now spot i || dirty_now spot i

  module _ (follow : PlacesFollow m.tree (done m command).tree (is_cut (cut_by m.tree command)) (has_spot (touched m.tree command))) where
    files_now : IsInFiles m → IsInFiles (done m command)
    files_now files spot e = by (was_kept spot) (has_spot m.dirty spot) (cut spot) (new spot) refl refl refl refl (sym (held_now spot) ∙ e)
      where
        by : (k d c t : Bool) → was_kept spot ≡ k → has_spot m.dirty spot ≡ d → cut spot ≡ c → new spot ≡ t → ((k && (not c && not t)) || (t || (d && not c))) ≡ true → HasPlace (done m command).tree spot
        by k d c true is_k is_d is_c is_t e = follow.touched spot is_t
        by true d false false is_k is_d is_c is_t e = follow.stays spot is_c (files spot (ap (λ (u : Bool). u || has_spot m.dirty spot) is_k))
        by false true false false is_k is_d is_c is_t e = follow.stays spot is_c (files spot (λ i. is_k i || is_d i))
        by false false false false is_k is_d is_c is_t e = cc
        by true true true false is_k is_d is_c is_t e = cc
        by true false true false is_k is_d is_c is_t e = cc
        by false true true false is_k is_d is_c is_t e = cc
        by false false true false is_k is_d is_c is_t e = cc

    unchanged_now : KeptIsUnchanged m → KeptIsUnchanged (done m command)
    unchanged_now unchanged spot e = by (was_kept spot) (cut spot) (new spot) refl refl refl (sym (kept_now spot) ∙ e)
      where
        by : (k c t : Bool) → was_kept spot ≡ k → cut spot ≡ c → new spot ≡ t → (k && (not c && not t)) ≡ true → block_at (done m command).tree spot ≡ block_at m.stored_tree spot
        by true false false is_k is_c is_t e = follow.same spot is_c is_t ∙ unchanged spot is_k
        by true false true is_k is_c is_t e = cc
        by true true t is_k is_c is_t e = cc
        by false c t is_k is_c is_t e = cc

    holes_now : HolesAreZeros m → HolesAreZeros (done m command)
    holes_now holes spot e = by (was_kept spot) (has_spot m.dirty spot) (cut spot) (new spot) refl refl refl refl (sym (held_now spot) ∙ e)
      where
        last_true : (a : Bool) → (a || true) ≡ true
        last_true true = refl
        last_true false = refl

        by : (k d c t : Bool) → was_kept spot ≡ k → has_spot m.dirty spot ≡ d → cut spot ≡ c → new spot ≡ t → ((k && (not c && not t)) || (t || (d && not c))) ≡ false → block_at (done m command).tree spot ≡ zero_block
        by k d true t is_k is_d is_c is_t e = follow.cut spot is_c
        by k d false true is_k is_d is_c is_t e = let no_one : true ≡ false = sym (last_true (k && false)) ∙ e in cc
        by false false false false is_k is_d is_c is_t e = follow.same spot is_c is_t ∙ holes spot (λ i. is_k i || is_d i)
        by true d false false is_k is_d is_c is_t e = cc
        by false true false false is_k is_d is_c is_t e = cc

-- ---- what is stored

abbrev tree_after : Tree → List Command → Tree
tree_after tree [] = tree
tree_after tree (command ∷ commands) = tree_after (step tree command).1 commands

done_tree : (commands : List Command) (m : Machine) → (all_done m commands).tree ≡ tree_after m.tree commands
done_tree [] m = refl
done_tree (command ∷ commands) m = done_tree commands (done m command)

accepts_more : (free : ℕ) (tree : Tree) (charged : ℕ) (commands : List Command) (command : Command) → Accepts free tree charged commands → (step (tree_after tree commands) command).0 ≡ reply.Done
    → charged + pending commands + need command ≤ free → Accepts free tree charged (commands ++ command ∷ [])
accepts_more free tree charged [] command all ok le = (ok, omega (arith, le), tt)
accepts_more free tree charged (first ∷ commands) command all ok le =
    (all.0, all.1, accepts_more free (step tree first).1 (charged + charge first) commands command all.2 ok (omega (arith, le)))

log_more : (commands : List Command) (command : Command) → log_use (commands ++ command ∷ []) ≡ log_use commands + record_blocks command
log_more [] command = omega arith
log_more (first ∷ commands) command = omega (arith, log_more commands command)

done_last : (commands : List Command) (m : Machine) (command : Command) → all_done m (commands ++ command ∷ []) ≡ done (all_done m commands) command
done_last [] m command = refl
done_last (first ∷ commands) m command = done_last commands (done m first) command

tree_of : (m : Machine) → IsWhatItStores m → tree_after m.stored_tree m.records ≡ m.tree
tree_of m is = sym (done_tree m.records (at_point m.layout m.stored_tree m.stored_places m.point [])) ∙ ap (λ (x : Machine). x.tree) is

last_has : (commands : List Command) (command : Command) → All HasRecord (commands ++ command ∷ []) → HasRecord command
last_has [] command all = All-head HasRecord command [] all
last_has (first ∷ commands) command all = last_has commands command (All-tail HasRecord first (commands ++ command ∷ []) all)

mountable_now : (m : Machine) (command : Command) → IsMountable (stored m) → IsWhatItStores m → IsAccepted m.tree command → HasRoom m command → IsMountable (stored (done m command))
mountable_now m command mountable is one room = record {
  tree = mountable.tree;
  in_order = mountable.in_order;
  in_files = mountable.in_files;
  holes = mountable.holes;
  same = mountable.same;
  changes = All-push (λ (c : Command). is_change c ≡ true) m.records command mountable.changes one.change;
  accepted =
      accepts_more (free_of m) m.stored_tree 0 m.records command mountable.accepted
      (ap (λ (t : Tree). (step t command).0) (tree_of m is) ∙ changes_are_done m.tree command one.change one.accepted) (omega (arith, room.space));
  fits = λ valid recorded.
      omega (arith, log_more m.records command, room.log valid (last_has m.records command recorded));
}

stores_now : (m : Machine) (command : Command) → IsWhatItStores m → IsWhatItStores (done m command)
stores_now m command is =
    ap (λ (x : Machine). record x { cache = m.cache }) (done_last m.records (at_point m.layout m.stored_tree m.stored_places m.point []) command) ∙ ap (λ (x : Machine). done x command) is

-- All that is coherent in a state but what it stores.
pub record IsRight (r : Rules) (m : Machine) : Type 0 where
  pub whole : IsWhole m
  pub tree : IsTree m.tree
  pub in_files : IsInFiles m
  pub unchanged : KeptIsUnchanged m
  pub holes : HolesAreZeros m
  pub cache : IsCacheList r.capacity m.cache
  pub few_kin : HasFewKin m.cache
  pub fingerprints : HasTrueFingerprints r m
  pub what_it_stores : IsWhatItStores m

right_of : (r : Rules) (m : Machine) → IsCoherent r m → IsRight r m
right_of r m is = record {
  whole = is.whole;
  tree = is.tree;
  in_files = is.in_files;
  unchanged = is.unchanged;
  holes = is.holes;
  cache = is.cache;
  few_kin = is.few_kin;
  fingerprints = is.fingerprints;
  what_it_stores = is.what_it_stores;
}

coherent_of : (r : Rules) (m : Machine) → IsMountable (stored m) → IsRight r m → IsCoherent r m
coherent_of r m mountable is = record {
  whole = is.whole;
  mountable = mountable;
  tree = is.tree;
  in_files = is.in_files;
  unchanged = is.unchanged;
  holes = is.holes;
  cache = is.cache;
  few_kin = is.few_kin;
  fingerprints = is.fingerprints;
  what_it_stores = is.what_it_stores;
}

done_right : (r : Rules) (m : Machine) (command : Command) → IsRight r m → IsAccepted m.tree command → IsRight r (done m command)
done_right r m command is one =
    let follow = changes_follow m.tree command is.tree one in
    record {
      whole = done_whole m command is.whole;
      tree = keeps_tree m.tree command is.tree;
      in_files = files_now m command follow is.in_files;
      unchanged = unchanged_now m command follow is.unchanged;
      holes = holes_now m command follow is.holes;
      cache = is.cache;
      few_kin = is.few_kin;
      fingerprints = is.fingerprints;
      what_it_stores = stores_now m command is.what_it_stores;
    }

pub done_coherent : (r : Rules) (m : Machine) (command : Command) → IsCoherent r m → IsAccepted m.tree command → HasRoom m command → IsCoherent r (done m command)
done_coherent r m command is one room =
    coherent_of r (done m command) (mountable_now m command is.mountable is.what_it_stores one room) (done_right r m command (right_of r m is) one)

-- ---- a mounted volume

one_accepted : (tree : Tree) (command : Command) → is_change command ≡ true → (step tree command).0 ≡ reply.Done → IsAccepted tree command
one_accepted tree command change ok = record { change = change; accepted = not_refused tree command (refusal_of tree command) ok refl }

all_right : (r : Rules) (free charged : ℕ) (commands : List Command) (m : Machine) → IsRight r m → All (λ (c : Command). is_change c ≡ true) commands → Accepts free m.tree charged commands
    → IsRight r (all_done m commands)
all_right r free charged [] m is changes all = is
all_right r free charged (command ∷ commands) m is changes all =
    all_right r free (charged + charge command) commands (done m command) (done_right r m command is (one_accepted m.tree command (All-head (λ (c : Command). is_change c ≡ true) command commands changes) all.0))
    (All-tail (λ (c : Command). is_change c ≡ true) command commands changes) all.2

first_right : (r : Rules) (s : Stored) → IsMountable s → IsRight r (at_point s.layout s.tree s.places s.point [])
first_right r s is = record {
  whole = always_whole.at_first (record s { records = [] }) is.in_order;
  tree = is.tree;
  in_files = λ spot e. is.in_files spot (kept_alone (has_spot (spots_of s.places) spot) e);
  unchanged = λ spot e. refl;
  holes = λ spot e. is.holes spot (none_kept (has_spot (spots_of s.places) spot) e);
  cache = stays_a_cache_list.at_first r.capacity;
  few_kin = eight_at_most.at_first;
  fingerprints = All-nil (λ (pair : List ℕ × ℕ). option_map r.fingerprint (held (at_point s.layout s.tree s.places s.point []) pair.1) ≡ Some pair.0);
  what_it_stores = refl;
}
  where
    kept_alone : (k : Bool) → (k || false) ≡ true → k ≡ true
    kept_alone true e = refl
    kept_alone false e = e

    none_kept : (k : Bool) → (k || false) ≡ false → k ≡ false
    none_kept true e = cc
    none_kept false e = refl

pub mounted_coherent : (r : Rules) (s : Stored) → IsMountable s → IsCoherent r (mounted s)
mounted_coherent r s is =
    coherent_of r (mounted s) (subst IsMountable (sym (mounted_stores s)) is)
    (all_right r (free_blocks s.layout s.tree s.places) 0 s.records (at_point s.layout s.tree s.places s.point []) (first_right r s is) is.changes is.accepted)
