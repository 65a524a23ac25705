-- How many places a write lies in.
use Rattle.std.proofs.Common.{◌≡◌, ℕ, zero, suc, ◌+◌, ◌-◌, ◌/◌, length, refl, ap, sym}
use Rattle.tree_model.specs.Touched.{places}
use Rattle.space_account.specs.Laws.{ChargesEachPlace}

pub length-places : (number first count : ℕ) → length (places number first count) ≡ count
unfolding places
length-places number first zero = refl
length-places number first (suc count) = ap suc (length-places number (first + 1) count)

pub charges_places : ChargesEachPlace
charges_places tree path node offset byte bytes stands = rw stands (ap (λ n. n + 8) (sym (length-places node.number (offset / 4096) ((offset + suc (length bytes) - 1) / 4096 + 1 - offset / 4096))))
