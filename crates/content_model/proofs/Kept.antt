-- What holds of each pair holds of each after a use, where it holds of the one that is used.
use Rattle.std.proofs.Common.{◌≡◌, ℕ, zero, suc, Bool, true, false, cond, not, List, [], ◌∷◌, length, take, refl, arith}
use Rattle.std.specs.Prelude.{◌&&◌, nat_eq, nat_lt}
use Rattle.std.specs.List.{list_any, AllByRecursion}
use Rattle.std.proofs.lemmas.Bool.Decides.{nat_tests}
use Rattle.volume_model.specs.Cache.{CacheList, has_fingerprint, forget, kin, without_last_kin, with_few_kin, use_block}

module _ (P : List ℕ × ℕ → Type 0) where
  abbrev Each : CacheList → Type 0
  Each ps = AllByRecursion P ps

  take_each : (n : ℕ) (ps : CacheList) → Each ps → Each (take n ps)
  take_each zero ps all = tt
  take_each (suc n) [] all = tt
  take_each (suc n) (p ∷ ps) all = (all.0, take_each n ps all.1)

  fewer_each : (fingerprint : List ℕ) (ps : CacheList) → Each ps → Each (without_last_kin fingerprint ps)
  fewer_each fingerprint [] all = tt
  fewer_each fingerprint (p ∷ ps) all = by (has_fingerprint fingerprint p && not (list_any (has_fingerprint fingerprint) ps)) (fewer_each fingerprint ps all.1)
    where
      by : (t : Bool) → Each (without_last_kin fingerprint ps) → Each (cond t ps (p ∷ without_last_kin fingerprint ps))
      by true more = all.1
      by false more = (all.0, more)

  pub used_each : (capacity : ℕ) (ps : CacheList) (fingerprint : List ℕ) (block : ℕ) → Each (forget ps block) → P (fingerprint, block) → Each (use_block capacity ps fingerprint block)
  used_each capacity ps fingerprint block all own = take_each capacity (with_few_kin fingerprint ((fingerprint, block) ∷ forget ps block)) (by (nat_lt 8 (length (kin ((fingerprint, block) ∷ forget ps block) fingerprint))))
    where
      by : (t : Bool) → Each (cond t (without_last_kin fingerprint ((fingerprint, block) ∷ forget ps block)) ((fingerprint, block) ∷ forget ps block))
      by true = fewer_each fingerprint ((fingerprint, block) ∷ forget ps block) (own, all)
      by false = (own, all)

  -- where it has to hold of the others alone
  pub forgotten_each : (block : ℕ) (ps : CacheList) → AllByRecursion (λ (p : List ℕ × ℕ). (p.1 ≡ block → ⊥) → P p) ps → Each (forget ps block)
  forgotten_each block [] all = tt
  forgotten_each block (p ∷ ps) all = by (nat_eq p.1 block) refl (forgotten_each block ps all.1)
    where
      by : (t : Bool) → nat_eq p.1 block ≡ t → Each (forget ps block) → Each (cond (not t) (p ∷ forget ps block) (forget ps block))
      by true is more = more
      by false is more = (all.0 (λ same. (let is_too : nat_eq p.1 block ≡ true = grind (arith, nat_tests) in cc)), more)
