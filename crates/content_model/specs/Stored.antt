-- What a plain cache keeps.
use Rattle.std.specs.Prelude.{ℕ, false, if◌then◌else◌, List, [], ◌∷◌, length, nat_lt}
use Rattle.std.specs.Coded.{×_prop, Unit-prop, Coded-set, coded_bool}
use Rattle.place_words.specs.Different.{is_among, Distinct}
use Rattle.volume_model.specs.Cache.{CacheList, kin, without_last_kin}

-- that no number stands there twice has one proof
pub Distinct-prop : (ns : List ℕ) → IsProp (Distinct ns)
Distinct-prop [] = Unit-prop
Distinct-prop (n ∷ ns) = ×_prop (Coded-set coded_bool (is_among ns n) false) (Distinct-prop ns)

-- ---- for private functions

-- with room for one pair more of the fingerprint
abbrev pub with_room_for_kin : List ℕ → CacheList → CacheList
with_room_for_kin fingerprint pairs = if nat_lt 7 (length (kin pairs fingerprint)) then without_last_kin fingerprint pairs else pairs
