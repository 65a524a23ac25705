-- The blocks of a fingerprint are collected pair by pair.
use Rattle.std.proofs.Common.{◌≡◌, ℕ, suc, ◌+◌, ◌≤◌, Bool, true, false, cond, List, [], ◌∷◌, length, refl, ◌∙◌, arith}
use Rattle.std.specs.Prelude.{◌||◌, nat_eq, nat_le}
use Rattle.place_words.specs.Different.{is_among}
use Rattle.place_words.specs.Rising.{Rising}
use Rattle.volume_model.specs.Cache.{CacheList, cached_blocks, has_fingerprint, kin}
use Rattle.content_model.specs.Kin.{AreAscending, included, in_order}
use Rattle.content_model.proofs.Kin.{included_rises, included_among}

-- Those so far are in order, and with those of the pairs that are still to come they are all.
pub record Collected (fingerprint : List ℕ) (pairs rest : CacheList) (out : List ℕ) : Type 0 where
  pub rising : Rising 0 out
  pub all : (n : ℕ) → (is_among out n || is_among (cached_blocks (kin rest fingerprint)) n) ≡ is_among (cached_blocks (kin pairs fingerprint)) n
  pub room : length out + length (kin rest fingerprint) ≤ length (kin pairs fingerprint)

in_order_longer : (n : ℕ) (ms : List ℕ) → length (in_order n ms) ≤ length ms + 1
in_order_longer n [] = omega arith
in_order_longer n (m ∷ ms) = by (nat_le n m) (in_order_longer n ms)
  where
    by : (t : Bool) → length (in_order n ms) ≤ length ms + 1 → length (cond t (n ∷ m ∷ ms) (m ∷ in_order n ms)) ≤ length (m ∷ ms) + 1
    by true more = omega arith
    by false more = omega (arith, more)

pub included_longer : (n : ℕ) (ms : List ℕ) → length (included n ms) ≤ length ms + 1
included_longer n ms = by (is_among ms n)
  where
    by : (t : Bool) → length (cond t ms (in_order n ms)) ≤ length ms + 1
    by true = omega arith
    by false = in_order_longer n ms

turned : (a b c d : Bool) → d ≡ (b || a) → (d || c) ≡ (a || (b || c))
turned true true c d e = rw e refl
turned true false c d e = rw e refl
turned false true c d e = rw e refl
turned false false c d e = rw e refl

module _ (fingerprint : List ℕ) (pairs rest : CacheList) (x : List ℕ × ℕ) (out : List ℕ) (so_far : Collected fingerprint pairs (x ∷ rest) out) where
  pub one_more : has_fingerprint fingerprint x ≡ true → Collected fingerprint pairs rest (included x.1 out)
  one_more own = record {
    rising = included_rises x.1 out so_far.rising;
    all = λ n. turned (is_among out n) (nat_eq x.1 n) (is_among (cached_blocks (kin rest fingerprint)) n) (is_among (included x.1 out) n) (included_among x.1 out n) ∙ rw own at (so_far.all n);
    room = let before : length out + suc (length (kin rest fingerprint)) ≤ length (kin pairs fingerprint) = rw own at so_far.room in omega (arith, before, included_longer x.1 out);
  }

  pub not_one : has_fingerprint fingerprint x ≡ false → Collected fingerprint pairs rest out
  not_one other = record {
    rising = so_far.rising;
    all = λ n. rw other at (so_far.all n);
    room = rw other at so_far.room;
  }

  pub room_for : has_fingerprint fingerprint x ≡ true → length (kin pairs fingerprint) ≤ 8 → length out + 1 ≤ 8
  room_for own few = let before : length out + suc (length (kin rest fingerprint)) ≤ length (kin pairs fingerprint) = rw own at so_far.room in omega (arith, before)

pub collected_all : (fingerprint : List ℕ) (pairs : CacheList) (out : List ℕ) → Collected fingerprint pairs [] out → AreAscending (cached_blocks (kin pairs fingerprint)) out
collected_all fingerprint pairs out c = record { rising = c.rising; same = λ n. or_false (is_among out n) ∙ c.all n }
  where
    or_false : (b : Bool) → b ≡ (b || false)
    or_false true = refl
    or_false false = refl
