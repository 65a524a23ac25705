-- What is shared of a file is the selection among its dirty places.
use Rattle.std.proofs.Common.{◌≡◌, ℕ, Bool, true, false, refl}
use Rattle.std.specs.Prelude.{unwrap_or, option_map}
use Rattle.volume_model.specs.Cache.{cached_blocks, is_cached}
use Rattle.volume_model.specs.Laws.{OneSelection, SelectedIs}
use Rattle.volume_model.specs.Machine.{Machine, block_at, held}
use Rattle.volume_model.specs.Sharing.{and_then, same_bytes, matches, dirty_places}
use Rattle.volume_model.proofs.Order.{places_rise}
use Rattle.volume_model.proofs.Selecting as selecting

cached_first : (cached : Bool) (test : Unit {0} → Bool) → and_then cached test ≡ true → cached ≡ true
cached_first true test e = refl
cached_first false test e = cc

pub matches_cached : (m : Machine) (number place block : ℕ) → matches m number place block ≡ true → is_cached m.cache block ≡ true
matches_cached m number place block e =
    cached_first (is_cached m.cache block) (λ _. unwrap_or (option_map (same_bytes (block_at m.tree (number, place))) (held m block)) false) e

pub selected_is : SelectedIs
selected_is r m number positive ordered =
    selecting.select_is (matches m number) r.threshold positive (cached_blocks m.cache) (matches_cached m number) (dirty_places m number) 0 (places_rise number m.dirty ordered)

pub one_selection : OneSelection
one_selection matches threshold places ps qs a b = selecting.one_selection matches threshold places ps qs a b
