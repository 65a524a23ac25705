-- The search over directories.
use Rattle.std.proofs.Common.{◌≡◌, ℕ, zero, suc, ◌+◌, ◌<◌, ◌≤◌, Bool, true, false, cond, List, [], ◌∷◌, ◌++◌, length, take, get_or, Option, Some, None, refl, sym, ap, subst, ◌∙◌, inl, inr, arith}
use Rattle.std.specs.Prelude.{nat_eq, not, ◌||◌, ◌⊎◌, flat_map, is_some}
use Rattle.std.specs.Ordering.{nat_cmp}
use Rattle.std.specs.FinSet as set
use Rattle.std.proofs.lemmas.Bool.{or_left, or_right, or_cases, eqb-true, eqb-false, eq-eqb}
use Rattle.std.proofs.lemmas.List.{take_more, take_all, take-append-le, append-nil, append_assoc, length-append}
use Rattle.std.proofs.lemmas.List.Sums.{sum_by-cons, sum_by-le-sum_by, count_by-le-length}
use Rattle.block_format.specs.declared.slot.Slot.{Slot}
use Rattle.held_list.specs.declared.held.Held.{Held}
use Rattle.held_list.specs.Held.{slots_at}
use Rattle.name_check.specs.Reaching.{IsSearch, Reaches, is_among, numbers_of, named_at, reached_from, count_unreached}
use Rattle.name_check.specs.declared.reaching.Search.{Search}
use Rattle.name_check.proofs.AmongLaws.{same_tests, never, or_assoc, or_none, or_swap, among_append, among_one, among_itself, among_place, among_joined, joined_from}
use Rattle.name_check.proofs.NamingLaws.{inserted}

abbrev Numbers : Type 0
Numbers = set.FinSet nat_cmp

-- ---- how many directories aren't reached

module _ (reached : Numbers) (number : ℕ) (fresh : set.contains reached number ≡ false) where
  abbrev after : Numbers
  after = set.insert reached number

  fewer : (h : Held) → cond (not (set.contains after h.number)) 1 0 ≤ cond (not (set.contains reached h.number)) 1 0
  fewer h = subst (λ (b : Bool). cond (not b) 1 0 ≤ cond (not (set.contains reached h.number)) 1 0) (sym (inserted reached number h.number)) (by (nat_eq number h.number))
    where
      by : (t : Bool) → cond (not (t || set.contains reached h.number)) 1 0 ≤ cond (not (set.contains reached h.number)) 1 0
      by true = omega arith
      by false = omega arith

  pub unreached_less : (held : List Held) → count_unreached held after + cond (is_some (slots_at held number)) 1 0 ≤ count_unreached held reached
  unreached_less [] = omega arith
  unreached_less (h ∷ hs) = by (nat_eq h.number number) refl (unreached_less hs)
    where
      now : count_unreached (h ∷ hs) after ≡ cond (not (set.contains after h.number)) 1 0 + count_unreached hs after
      now = sum_by-cons (λ (x : Held). cond (not (set.contains after x.number)) 1 0) h hs

      before : count_unreached (h ∷ hs) reached ≡ cond (not (set.contains reached h.number)) 1 0 + count_unreached hs reached
      before = sum_by-cons (λ (x : Held). cond (not (set.contains reached x.number)) 1 0) h hs

      by : (t : Bool) → nat_eq h.number number ≡ t → count_unreached hs after + cond (is_some (slots_at hs number)) 1 0 ≤ count_unreached hs reached
          → count_unreached (h ∷ hs) after + cond (is_some (cond t (Some h.slots) (slots_at hs number))) 1 0 ≤ count_unreached (h ∷ hs) reached
      by true is rest =
          let same : h.number ≡ number = eqb-true h.number number is in
          let there : set.contains after h.number ≡ true = inserted reached number h.number ∙ or_left _ _ (eq-eqb number h.number (sym same)) in
          let a : count_unreached (h ∷ hs) after ≡ 0 + count_unreached hs after = now ∙ ap (λ (b : Bool). cond (not b) 1 0 + count_unreached hs after) there in
          let b : count_unreached (h ∷ hs) reached ≡ 1 + count_unreached hs reached = before ∙ ap (λ (b : Bool). cond (not b) 1 0 + count_unreached hs reached) (ap (set.contains reached) same ∙ fresh) in
          let less : count_unreached hs after ≤ count_unreached hs reached = sum_by-le-sum_by _ _ hs fewer in
          omega (arith, a, b, less)
      by false is rest =
          let one = fewer h in
          omega (arith, now, before, rest, one)

-- ---- one number more

module _ (held : List Held) (old new : Search) (number : ℕ) (before : IsSearch held old) (fresh : set.contains old.reached number ≡ false)
    (reached_is : new.reached ≡ set.insert old.reached number) (queue_is : new.queue.items ≡ old.queue.items ++ cond (is_some (slots_at held number)) (number ∷ []) []) where
  reached_now : (n : ℕ) → set.contains new.reached n ≡ (nat_eq number n || set.contains old.reached n)
  reached_now n = ap (λ (s : Numbers). set.contains s n) reached_is ∙ inserted old.reached number n

  among_now : (n : ℕ) → is_among new.queue.items n ≡ (is_among old.queue.items n || is_among (cond (is_some (slots_at held number)) (number ∷ []) []) n)
  among_now n = ap (λ (ns : List ℕ). is_among ns n) queue_is ∙ among_append old.queue.items _ n

  queued_now : (n : ℕ) (slots : List Slot) → set.contains new.reached n ≡ true → slots_at held n ≡ Some slots → is_among new.queue.items n ≡ true
  queued_now n slots has is = among_now n ∙ by (or_cases _ _ (sym (reached_now n) ∙ has))
    where
      by : ((nat_eq number n ≡ true) ⊎ (set.contains old.reached n ≡ true)) → (is_among old.queue.items n || is_among (cond (is_some (slots_at held number)) (number ∷ []) []) n) ≡ true
      by (inl here) =
          let same : number ≡ n = eqb-true number n here in
          let some : is_some (slots_at held number) ≡ true = ap (λ (m : ℕ). is_some (slots_at held m)) same ∙ ap is_some is in
          or_right _ _ (ap (λ (t : Bool). is_among (cond t (number ∷ []) []) n) some ∙ or_left _ _ here)
      by (inr there) = or_left _ _ (before.queued n slots there is)

  reached_then : (n : ℕ) → is_among new.queue.items n ≡ true → set.contains new.reached n ≡ true
  reached_then n has = reached_now n ∙ by (or_cases _ _ (sym (among_now n) ∙ has))
    where
      one : (t : Bool) → is_among (cond t (number ∷ []) []) n ≡ true → nat_eq number n ≡ true
      one true is = or_none (nat_eq number n) ∙ is
      one false is = never is

      by : ((is_among old.queue.items n ≡ true) ⊎ (is_among (cond (is_some (slots_at held number)) (number ∷ []) []) n ≡ true)) → (nat_eq number n || set.contains old.reached n) ≡ true
      by (inl there) = or_right _ _ (before.reached n there)
      by (inr here) = or_left _ _ (one (is_some (slots_at held number)) here)

  room_now : length new.queue.items + count_unreached held new.reached ≤ length held
  room_now =
      let a : length new.queue.items ≡ length old.queue.items + cond (is_some (slots_at held number)) 1 0 = ap length queue_is ∙ length-append old.queue.items _ ∙ ap (λ (k : ℕ). length old.queue.items + k) (long (is_some (slots_at held number))) in
      let b : count_unreached held new.reached ≡ count_unreached held (set.insert old.reached number) = ap (count_unreached held) reached_is in
      let less = unreached_less old.reached number fresh held in
      let was = before.room in
      omega (arith, a, b, less, was)
    where
      long : (t : Bool) → length (cond t (number ∷ []) []) ≡ cond t 1 0
      long true = refl
      long false = refl

  pub search_more : IsSearch held new
  search_more = record { queued = queued_now; reached = reached_then; room = room_now }

  pub reaches_one : Reaches (number ∷ []) old new
  reaches_one = record {
    reached = λ n. reached_now n ∙ or_swap (nat_eq number n) (set.contains old.reached n);
    queue = (cond (is_some (slots_at held number)) (number ∷ []) [], queue_is);
  }

-- ---- several numbers

pub reaches_none : (search : Search) → Reaches [] search search
reaches_none search = record { reached = λ n. or_none _; queue = ([], sym (append-nil _)) }

pub reaches_again : (search : Search) (number : ℕ) → set.contains search.reached number ≡ true → Reaches (number ∷ []) search search
reaches_again search number has = record { reached = λ n. by n (nat_eq number n) refl; queue = ([], sym (append-nil _)) }
  where
    by : (n : ℕ) (t : Bool) → nat_eq number n ≡ t → set.contains search.reached n ≡ (set.contains search.reached n || (t || false))
    by n true is = let has_n : set.contains search.reached n ≡ true = ap (set.contains search.reached) (sym (eqb-true number n is)) ∙ has in has_n ∙ sym (or_left _ _ has_n)
    by n false is = or_none _

pub reaches_both : (xs ys : List ℕ) (a b c : Search) → Reaches xs a b → Reaches ys b c → Reaches (xs ++ ys) a c
reaches_both xs ys a b c first second = record {
  reached = λ n. second.reached n ∙ ap (λ (t : Bool). t || is_among ys n) (first.reached n) ∙ or_assoc (set.contains a.reached n) (is_among xs n) (is_among ys n) ∙ ap (λ (t : Bool). set.contains a.reached n || t) (sym (among_append xs ys n));
  queue = (first.queue.0 ++ second.queue.0, second.queue.1 ∙ ap (λ (ns : List ℕ). ns ++ second.queue.0) first.queue.1 ∙ append_assoc a.queue.items first.queue.0 second.queue.0);
}

pub reaches_more : (xs : List ℕ) (k d : ℕ) (a b c : Search) → k < length xs → Reaches (take k xs) a b → Reaches (get_or xs k d ∷ []) b c → Reaches (take (k + 1) xs) a c
reaches_more xs k d a b c lt first second = subst (λ (ns : List ℕ). Reaches ns a c) (sym (take_more xs k d lt)) (reaches_both (take k xs) (get_or xs k d ∷ []) a b c first second)

-- ---- the whole search

-- What has been gone through of the queue is in place: it is reached in as many steps, and what it names is reached.
pub record IsThrough (held : List Held) (search : Search) (i : ℕ) : Type 0 where
  pub searched : IsSearch held search
  pub root : set.contains search.reached 1 ≡ true
  pub sound : (n : ℕ) → set.contains search.reached n ≡ true → is_among (reached_from held i) n ≡ true
  pub passed : (n m : ℕ) → is_among (take i search.queue.items) n ≡ true → is_among (named_at held n) m ≡ true → set.contains search.reached m ≡ true
  pub long : i ≤ length search.queue.items

pub through_root : (held : List Held) (none search : Search) → ((n : ℕ) → set.contains none.reached n ≡ false) → IsSearch held search → Reaches (1 ∷ []) none search → IsThrough held search 0
through_root held none search nothing is reaches = record {
  searched = is;
  root = reaches.reached 1 ∙ or_right _ _ (among_itself 1);
  sound = λ n has. ap (λ (t : Bool). t || is_among (1 ∷ []) n) (sym (nothing n)) ∙ sym (reaches.reached n) ∙ has;
  passed = λ n m none_there names. never none_there;
  long = omega arith;
}

module _ (held : List Held) (old new : Search) (i d : ℕ) (through : IsThrough held old i) (lt : i < length old.queue.items) (is : get_or old.queue.items i d ≡ d)
    (after : IsSearch held new) (reaches : Reaches (named_at held d) old new) where
  kept : (n : ℕ) → set.contains old.reached n ≡ true → set.contains new.reached n ≡ true
  kept n has = reaches.reached n ∙ or_left _ _ has

  reached_d : set.contains old.reached d ≡ true
  reached_d = through.searched.reached d (ap (is_among old.queue.items) (sym is) ∙ among_place old.queue.items i d lt)

  sound_now : (n : ℕ) → set.contains new.reached n ≡ true → is_among (reached_from held (suc i)) n ≡ true
  sound_now n has = among_append (reached_from held i) (flat_map (named_at held) (reached_from held i)) n ∙ by (or_cases _ _ (sym (reaches.reached n) ∙ has))
    where
      by : ((set.contains old.reached n ≡ true) ⊎ (is_among (named_at held d) n ≡ true)) → (is_among (reached_from held i) n || is_among (flat_map (named_at held) (reached_from held i)) n) ≡ true
      by (inl there) = or_left _ _ (through.sound n there)
      by (inr here) = or_right _ _ (among_joined (named_at held) n (reached_from held i) d (through.sound d reached_d) here)

  taken : take (i + 1) new.queue.items ≡ take i old.queue.items ++ d ∷ []
  taken =
      ap (take (i + 1)) reaches.queue.1 ∙ take-append-le (i + 1) old.queue.items reaches.queue.0 (omega (arith, lt))
      ∙ take_more old.queue.items i d lt ∙ ap (λ (x : ℕ). take i old.queue.items ++ x ∷ []) is

  passed_now : (n m : ℕ) → is_among (take (i + 1) new.queue.items) n ≡ true → is_among (named_at held n) m ≡ true → set.contains new.reached m ≡ true
  passed_now n m has names = by (or_cases _ _ (sym (ap (λ (ns : List ℕ). is_among ns n) taken ∙ among_append (take i old.queue.items) (d ∷ []) n) ∙ has))
    where
      by : ((is_among (take i old.queue.items) n ≡ true) ⊎ (is_among (d ∷ []) n ≡ true)) → set.contains new.reached m ≡ true
      by (inl there) = kept m (through.passed n m there names)
      by (inr here) = reaches.reached m ∙ or_right _ _ (ap (λ (x : ℕ). is_among (named_at held x) m) (among_one d n here) ∙ names)

  pub through_more : IsThrough held new (i + 1)
  through_more = record {
    searched = after;
    root = kept 1 through.root;
    sound = λ n has. ap (λ (k : ℕ). is_among (reached_from held k) n) (let e : i + 1 ≡ suc i = omega arith in e) ∙ sound_now n has;
    passed = passed_now;
    long = let more = ap length reaches.queue.1 ∙ length-append old.queue.items reaches.queue.0 in omega (arith, more, lt);
  }

-- what is reached in some steps is reached in more
reached_later : (held : List Held) (k i n : ℕ) → i ≤ k → is_among (reached_from held i) n ≡ true → is_among (reached_from held k) n ≡ true
reached_later held zero i n le has = ap (λ (j : ℕ). is_among (reached_from held j) n) (let e : 0 ≡ i = omega (arith, le) in e) ∙ has
reached_later held (suc k) i n le has = by (nat_eq i (suc k)) refl (λ less. reached_later held k i n less has)
  where
    by : (t : Bool) → nat_eq i (suc k) ≡ t → (i ≤ k → is_among (reached_from held k) n ≡ true) → is_among (reached_from held (suc k)) n ≡ true
    by true is more = ap (λ (j : ℕ). is_among (reached_from held j) n) (sym (eqb-true i (suc k) is)) ∙ has
    by false is more =
        let ne = eqb-false i (suc k) is in
        among_append (reached_from held k) (flat_map (named_at held) (reached_from held k)) n
        ∙ or_left _ _ (more (omega (arith, le, ne)))

module _ (held : List Held) (search : Search) (i : ℕ) (through : IsThrough held search i) (all : length search.queue.items ≤ i) where
  closed : (n m : ℕ) → set.contains search.reached n ≡ true → is_among (named_at held n) m ≡ true → set.contains search.reached m ≡ true
  closed n m has names = by (slots_at held n) refl
    where
      by : (o : Option (List Slot)) → slots_at held n ≡ o → set.contains search.reached m ≡ true
      by None is = never (ap (λ (o : Option (List Slot)). is_among (numbers_of o) m) (sym is) ∙ names)
      by (Some slots) is = through.passed n m (ap (λ (ns : List ℕ). is_among ns n) (take_all i search.queue.items all) ∙ through.searched.queued n slots has is) names

  all_reached : (k n : ℕ) → is_among (reached_from held k) n ≡ true → set.contains search.reached n ≡ true
  all_reached zero n has = ap (set.contains search.reached) (sym (among_one 1 n has)) ∙ through.root
  all_reached (suc k) n has = by (or_cases _ _ (sym (among_append (reached_from held k) (flat_map (named_at held) (reached_from held k)) n) ∙ has)) (all_reached k)
    where
      by : ((is_among (reached_from held k) n ≡ true) ⊎ (is_among (flat_map (named_at held) (reached_from held k)) n ≡ true)) → ((m : ℕ) → is_among (reached_from held k) m ≡ true → set.contains search.reached m ≡ true) → set.contains search.reached n ≡ true
      by (inl there) more = more n there
      by (inr here) more = let from = joined_from (named_at held) n (reached_from held k) here in closed from.0 n (more from.0 from.1) from.2

  pub through_all : (k n : ℕ) → length held ≤ k → set.contains search.reached n ≡ is_among (reached_from held k) n
  through_all k n le =
      let long = through.long in let room = through.searched.room in
      same_tests _ _ (λ has. reached_later held k i n (omega (arith, long, room, le)) (through.sound n has)) (all_reached k n)

-- ---- at first

pub nothing_reached : (reached : Numbers) → reached ≡ set.empty → (n : ℕ) → set.contains reached n ≡ false
nothing_reached reached is n = ap (λ (s : Numbers). set.contains s n) is ∙ set.contains-empty nat_cmp n

pub search_none : (held : List Held) (search : Search) → search.reached ≡ set.empty → search.queue.items ≡ [] → IsSearch held search
search_none held search none empty = record {
  queued = λ n slots has is. never (sym (nothing_reached search.reached none n) ∙ has);
  reached = λ n has. never (ap (λ (ns : List ℕ). is_among ns n) (sym empty) ∙ has);
  room =
      let a : length search.queue.items ≡ 0 = ap length empty in
      let b = count_by-le-length (λ (h : Held). not (set.contains search.reached h.number)) held in
      omega (arith, a, b);
}
