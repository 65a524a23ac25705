-- The state of a volume that was mounted is reached.
use Rattle.std.proofs.Common.{◌≡◌, ◌∙◌, Bool, List, [], ◌∷◌, refl, sym, ap, subst}
use Rattle.vol_numbers.specs.declared.block.Block.{Block}
use Rattle.tree_model.specs.declared.command.Command.{Command}
use Rattle.volume_model.specs.Cache.{CacheList}
use Rattle.volume_model.specs.Done.{done, all_done, mounted}
use Rattle.volume_model.specs.Machine.{Machine, stored, at_point}
use Rattle.image_states.proofs.Mountable.{mounting_is_reached}
use Rattle.state_laws.specs.States.{IsReached}
use Rattle.session_model.specs.Follows.{Seen}
use Rattle.session_model.specs.Runs.{IsVolume}
use Rattle.session_model.specs.SessionMaking.{ServedIsReached}

same_cache : (m : Machine) (cs : List Command) → (all_done m cs).cache ≡ m.cache
same_cache m [] = refl
same_cache m (c ∷ cs) = same_cache (done m c) cs

abbrev with_cache : Machine → CacheList → Machine
with_cache m cache = record m { cache = cache }

is_mounted : (m : Machine) (image : List Block) → IsVolume m image → m.cache ≡ [] → mounted (stored m) ≡ m
is_mounted m image volume none =
    ap (with_cache (mounted (stored m))) (same_cache (at_point m.layout m.stored_tree m.stored_places m.point []) m.records ∙ sym none) ∙ volume.stores

pub served_is_reached : (tells : Bool) (d d' : Seen) → ServedIsReached tells d d'
served_is_reached tells d d' r t t' n n' i i' o o' status is s =
    let volume = s.is_volume is in
    subst (IsReached r) (is_mounted s.start d.state.contents volume.0 volume.1) (mounting_is_reached.reached r d.state.contents (stored s.start) volume.0.stands)
