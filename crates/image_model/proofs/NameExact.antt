-- Where what is seen is sound, no number is lost.
use Rattle.std.proofs.Common.{◌≡◌, ℕ, zero, suc, ◌+◌, ◌≤◌, Bool, true, false, not, cond, List, [], ◌∷◌, ◌++◌, length, Some, None, refl, sym, ap, subst, ◌∙◌, arith}
use Rattle.std.specs.Prelude.{◌==◌, ◌&&◌, ◌||◌, nat_eq, nat_lt, Option, option_and_then, unwrap_or, count_by, reverse, bytes_eq}
use Rattle.std.specs.List.{list_any, flat_map, filter_map, AllByRecursion}
use Rattle.std.proofs.lemmas.Bool.{eqb-true}
use Rattle.std.proofs.lemmas.Bool.Decides.{nat_tests}
use Rattle.std.proofs.lemmas.List.{reverse-reverse}
use Rattle.std.proofs.lemmas.List.Concat.{flat_map-cons}
use Rattle.std.proofs.lemmas.List.Sums.{sum_by-cons, sum_by-append}
use Rattle.vol_numbers.specs.Layout.{Layout}
use Rattle.block_format.specs.declared.inode.Inode.{Inode}
use Rattle.block_format.specs.declared.inode.Inode.TheVariants.{Unused, File, Directory}
use Rattle.block_format.specs.declared.slot.Slot.{Slot}
use Rattle.block_format.specs.declared.slot.Slot.TheVariants as slots
use Rattle.block_tree.specs.Tree.{Blocks, index_at}
use Rattle.place_words.specs.Different.{is_among, different, Distinct}
use Rattle.place_words.proofs.Counting.{distinct_count}
use Rattle.place_words.proofs.Totals.{different_part}
use Rattle.dir_slots.specs.Slots.{number_in}
use Rattle.tree_model.specs.Path.{Path, name_eq}
use Rattle.image_model.specs.declared.finding.Finding.TheVariants.{NotATree}
use Rattle.image_model.proofs.Entries.{Entry, is_of, entry_at, leads, times_named, entries_in, entries_of}
use Rattle.image_model.specs.Nodes.{has_twin, is_entry_name, number_named, numbers_named, reached_in, is_lost, or_behind, lost_finding, tree_finding}
use Rattle.image_model.specs.Seen.{Seen, seen_from}
use Rattle.image_model.specs.Slots.{slots_of, inode_of, number_along}
use Rattle.image_model.specs.Sound.{IsSound}
use Rattle.image_model.specs.Walk.{is_used, nodes_at, blocks_inodes}
use Rattle.image_model.proofs.Naming.{names_are, times_mapped, leads_right, found_name, right, no_slots, directory_fine}
use Rattle.image_model.proofs.NodePlaces.{numbers, numbers_distinct, nodes_used, used_among, directory_pairs}
use Rattle.image_model.proofs.Paths.{found_times, same_name, same_bytes, bytes_itself, name_itself}

or_parts : (a b : Bool) → (a || b) ≡ false → (a ≡ false) × (b ≡ false)
or_parts true b e = cc
or_parts false b e = (refl, e)

or_first : (a b : Bool) → a ≡ true → (a || b) ≡ true
or_first true b e = refl
or_first false b e = cc

or_second : (a b : Bool) → b ≡ true → (a || b) ≡ true
or_second true b e = refl
or_second false b e = e

-- ---- entries of one directory

-- of this directory, and what its slots have under their names
abbrev AllFound : ℕ → List Slot → List Entry → Type 0
AllFound d ss es = AllByRecursion (λ (e : Entry). (e.directory ≡ d) × (number_in ss e.name ≡ Some e.number)) es

behind_unused : (d : ℕ) (ss : List Slot) (es : List Entry) → AllFound d ss es → AllFound d (slots.Unused ∷ ss) es
behind_unused d ss [] all = tt
behind_unused d ss (e ∷ es) all = (all.0, behind_unused d ss es all.1)

behind_entry : (d number : ℕ) (name : List ℕ) (ss : List Slot) → list_any (is_entry_name name) ss ≡ false → (es : List Entry) → AllFound d ss es → AllFound d (slots.Entry number name ∷ ss) es
behind_entry d number name ss none [] all = tt
behind_entry d number name ss none (e ∷ es) all = ((all.0.0, by (bytes_eq name e.name) refl), behind_entry d number name ss none es all.1)
  where
    by : (t : Bool) → bytes_eq name e.name ≡ t → cond t (Some number) (number_in ss e.name) ≡ Some e.number
    by true is =
        let same = same_bytes name e.name is in
        let twin : list_any (is_entry_name name) ss ≡ true = found_name ss name e.number (ap (number_in ss) same ∙ all.0.1) in
        cc
    by false is = all.0.1

all_found : (d : ℕ) (ss : List Slot) → has_twin ss ≡ false → AllFound d ss (entries_in d ss)
all_found d [] none = tt
all_found d (slots.Unused ∷ ss) none = behind_unused d ss (entries_in d ss) (all_found d ss none)
all_found d (slots.Entry number name ∷ ss) none =
    let parts = or_parts (list_any (is_entry_name name) ss) (has_twin ss) none in
    ((refl, ap (λ (t : Bool). cond t (Some number) (number_in ss name)) (bytes_itself name)), behind_entry d number name ss parts.0 (entries_in d ss) (all_found d ss parts.1))

-- ---- a name stands once

of-cons : (d : ℕ) (x : List ℕ) (e : Entry) (es : List Entry) → count_by (is_of d x) (e ∷ es) ≡ cond (is_of d x e) 1 0 + count_by (is_of d x) es
of-cons d x e es = sum_by-cons (λ (e : Entry). cond (is_of d x e) 1 0) e es

of-append : (d : ℕ) (x : List ℕ) (es fs : List Entry) → count_by (is_of d x) (es ++ fs) ≡ count_by (is_of d x) es + count_by (is_of d x) fs
of-append d x es fs = sum_by-append (λ (e : Entry). cond (is_of d x e) 1 0) es fs

other_name : (x y : List ℕ) → name_eq x y ≡ false → name_eq y x ≡ false
other_name x y apart = by (name_eq y x) refl
  where
    by : (t : Bool) → name_eq y x ≡ t → name_eq y x ≡ false
    by true is = let same : name_eq x y ≡ true = ap (name_eq x) (same_name y x is) ∙ name_itself x in cc
    by false is = is

none_of_name : (d : ℕ) (x : List ℕ) (ss : List Slot) → list_any (is_entry_name x) ss ≡ false → count_by (is_of d x) (entries_in d ss) ≡ 0
none_of_name d x [] none = refl
none_of_name d x (slots.Unused ∷ ss) none = none_of_name d x ss none
none_of_name d x (slots.Entry number name ∷ ss) none =
    let parts = or_parts (name_eq x name) (list_any (is_entry_name x) ss) none in
    let apart : (d == d && name_eq name x) ≡ false = by (d == d) (name_eq name x) (other_name x name parts.0) in
    let weight : Bool → ℕ = λ t. cond t 1 0 in
    omega (arith, of-cons d x (record { directory = d; name = name; number = number }) (entries_in d ss), ap weight apart, none_of_name d x ss parts.1)
  where
    by : (t u : Bool) → u ≡ false → (t && u) ≡ false
    by true u e = e
    by false u e = refl

one_of_name : (d : ℕ) (x : List ℕ) (ss : List Slot) → has_twin ss ≡ false → count_by (is_of d x) (entries_in d ss) ≤ 1
one_of_name d x [] none = omega arith
one_of_name d x (slots.Unused ∷ ss) none = one_of_name d x ss none
one_of_name d x (slots.Entry number name ∷ ss) none = by (name_eq name x) refl (one_of_name d x ss parts.1)
  where
    parts : (list_any (is_entry_name name) ss ≡ false) × (has_twin ss ≡ false)
    parts = or_parts (list_any (is_entry_name name) ss) (has_twin ss) none

    cons : count_by (is_of d x) (record { directory = d; name = name; number = number } ∷ entries_in d ss) ≡ cond (d == d && name_eq name x) 1 0 + count_by (is_of d x) (entries_in d ss)
    cons = of-cons d x (record { directory = d; name = name; number = number }) (entries_in d ss)

    at_most : (t : Bool) → cond t 1 0 ≤ 1
    at_most true = omega arith
    at_most false = omega arith

    and_false : (t u : Bool) → u ≡ false → (t && u) ≡ false
    and_false true u e = e
    and_false false u e = refl

    by : (t : Bool) → name_eq name x ≡ t → count_by (is_of d x) (entries_in d ss) ≤ 1 → count_by (is_of d x) (record { directory = d; name = name; number = number } ∷ entries_in d ss) ≤ 1
    by true is more =
        let none_left : count_by (is_of d x) (entries_in d ss) ≡ 0 = none_of_name d x ss (subst (λ (y : List ℕ). list_any (is_entry_name y) ss ≡ false) (same_name name x is) parts.0) in
        omega (arith, cons, none_left, at_most (d == d && name_eq name x))
    by false is more = let weight : Bool → ℕ = λ t. cond t 1 0 in omega (arith, cons, ap weight (and_false (d == d) (name_eq name x) is), more)

none_of_other : (c d : ℕ) (x : List ℕ) → (c == d) ≡ false → (ss : List Slot) → count_by (is_of d x) (entries_in c ss) ≡ 0
none_of_other c d x apart [] = refl
none_of_other c d x apart (slots.Unused ∷ ss) = none_of_other c d x apart ss
none_of_other c d x apart (slots.Entry number name ∷ ss) =
    let weight : Bool → ℕ = λ t. cond t 1 0 in
    let no : (c == d && name_eq name x) ≡ false = ap (λ (t : Bool). t && name_eq name x) apart in
    omega (arith, of-cons d x (record { directory = c; name = name; number = number }) (entries_in c ss), ap weight no, none_of_other c d x apart ss)

module _ (s : Seen) (no_twins : (d : ℕ) → has_twin (slots_of s d) ≡ false) (d : ℕ) (x : List ℕ) where
  abbrev whole : ℕ × Inode → List (ℕ × Inode) → List Entry
  whole node nodes = entries_in node.0 (slots_of s node.0) ++ entries_of s nodes

  split : (node : ℕ × Inode) (nodes : List (ℕ × Inode)) → count_by (is_of d x) (entries_of s (node ∷ nodes)) ≡ count_by (is_of d x) (entries_in node.0 (slots_of s node.0)) + count_by (is_of d x) (entries_of s nodes)
  split node nodes =
      ap (λ (es : List Entry). count_by (is_of d x) es) (flat_map-cons (λ (node : ℕ × Inode). entries_in node.0 (slots_of s node.0)) node nodes)
      ∙ of-append d x (entries_in node.0 (slots_of s node.0)) (entries_of s nodes)

  none_out : (nodes : List (ℕ × Inode)) → is_among (numbers nodes) d ≡ false → count_by (is_of d x) (entries_of s nodes) ≡ 0
  none_out [] out = refl
  none_out (node ∷ nodes) out =
      let parts = or_parts (nat_eq node.0 d) (is_among (numbers nodes) d) out in
      omega (arith, split node nodes, none_of_other node.0 d x parts.0 (slots_of s node.0), none_out nodes parts.1)

  once : (nodes : List (ℕ × Inode)) → Distinct (numbers nodes) → count_by (is_of d x) (entries_of s nodes) ≤ 1
  once [] distinct = omega arith
  once (node ∷ nodes) distinct = by (nat_eq node.0 d) refl (once nodes distinct.1)
    where
      by : (t : Bool) → nat_eq node.0 d ≡ t → count_by (is_of d x) (entries_of s nodes) ≤ 1 → count_by (is_of d x) (entries_of s (node ∷ nodes)) ≤ 1
      by true is more =
          let e : node.0 ≡ d = grind (arith, nat_tests) in
          let out : is_among (numbers nodes) d ≡ false = subst (λ (k : ℕ). is_among (numbers nodes) k ≡ false) e distinct.0 in
          let here : count_by (is_of d x) (entries_in node.0 (slots_of s node.0)) ≤ 1 = subst (λ (k : ℕ). count_by (is_of d x) (entries_in k (slots_of s k)) ≤ 1) (sym e) (one_of_name d x (slots_of s d) (no_twins d)) in
          omega (arith, split node nodes, none_out nodes out, here)
      by false is more = omega (arith, split node nodes, none_of_other node.0 d x is (slots_of s node.0), more)

-- entries that all have this directory and name are no more than those of this name
named_at_most : (es : List Entry) (d : ℕ) (x : List ℕ) (n : ℕ) → AllByRecursion (λ (e : Entry). e.number ≡ n → is_of d x e ≡ true) es → times_named es n ≤ count_by (is_of d x) es
named_at_most [] d x n all = omega arith
named_at_most (e ∷ es) d x n all = by (e.number == n) refl (named_at_most es d x n all.1)
  where
    cons : times_named (e ∷ es) n ≡ cond (e.number == n) 1 0 + times_named es n
    cons = sum_by-cons (λ (e : Entry). cond (e.number == n) 1 0) e es

    by : (t : Bool) → (e.number == n) ≡ t → times_named es n ≤ count_by (is_of d x) es → times_named (e ∷ es) n ≤ count_by (is_of d x) (e ∷ es)
    by true is more = let weight : Bool → ℕ = λ t. cond t 1 0 in omega (arith, cons, of-cons d x e es, ap weight is, ap weight (all.0 (eqb-true e.number n is)), more)
    by false is more = let weight : Bool → ℕ = λ t. cond t 1 0 in omega (arith, cons, of-cons d x e es, ap weight is, more)

some_named : (P : Entry → Type 0) (es : List Entry) → AllByRecursion P es → (n : ℕ) → 1 ≤ times_named es n → (e : Entry) × P e × (e.number ≡ n)
some_named P [] all n some = absurd (omega arith)
some_named P (e ∷ es) all n some = by (e.number == n) refl (some_named P es all.1 n)
  where
    by : (t : Bool) → (e.number == n) ≡ t → (1 ≤ times_named es n → (e : Entry) × P e × (e.number ≡ n)) → (e : Entry) × P e × (e.number ≡ n)
    by true is more = (e, all.0, eqb-true e.number n is)
    by false is more = let weight : Bool → ℕ = λ t. cond t 1 0 in more (omega (arith, some, ap weight is, sum_by-cons (λ (e : Entry). cond (e.number == n) 1 0) e es))

-- ---- what is reached in so many steps

among_any : (ns : List ℕ) (n : ℕ) → is_among ns n ≡ true → list_any (λ m. m == n) ns ≡ true
among_any [] n among = cc
among_any (m ∷ ns) n among = by (nat_eq m n) among (among_any ns n)
  where
    by : (t : Bool) → (t || is_among ns n) ≡ true → (is_among ns n ≡ true → list_any (λ m. m == n) ns ≡ true) → (t || list_any (λ m. m == n) ns) ≡ true
    by true among more = refl
    by false among more = more among

among_first : (xs ys : List ℕ) (n : ℕ) → is_among xs n ≡ true → is_among (xs ++ ys) n ≡ true
among_first [] ys n among = cc
among_first (x ∷ xs) ys n among = by (nat_eq x n) among (among_first xs ys n)
  where
    by : (t : Bool) → (t || is_among xs n) ≡ true → (is_among xs n ≡ true → is_among (xs ++ ys) n ≡ true) → (t || is_among (xs ++ ys) n) ≡ true
    by true among more = refl
    by false among more = more among

among_second : (xs ys : List ℕ) (n : ℕ) → is_among ys n ≡ true → is_among (xs ++ ys) n ≡ true
among_second [] ys n among = among
among_second (x ∷ xs) ys n among = or_second (nat_eq x n) _ (among_second xs ys n among)

among_each : (f : ℕ → List ℕ) (ds : List ℕ) (d n : ℕ) → is_among ds d ≡ true → is_among (f d) n ≡ true → is_among (flat_map f ds) n ≡ true
among_each f [] d n there among = cc
among_each f (c ∷ ds) d n there among = subst (λ (ns : List ℕ). is_among ns n ≡ true) (sym (flat_map-cons f c ds)) (by (nat_eq c d) refl there (λ more. among_each f ds d n more among))
  where
    by : (t : Bool) → nat_eq c d ≡ t → (t || is_among ds d) ≡ true → (is_among ds d ≡ true → is_among (flat_map f ds) n ≡ true) → is_among (f c ++ flat_map f ds) n ≡ true
    by true is there more = let e : c ≡ d = grind (arith, nat_tests) in among_first (f c) (flat_map f ds) n (subst (λ (k : ℕ). is_among (f k) n ≡ true) (sym e) among)
    by false is there more = among_second (f c) (flat_map f ds) n (more there)

pub number_among : (ss : List Slot) (name : List ℕ) (n : ℕ) → number_in ss name ≡ Some n → is_among (filter_map number_named ss) n ≡ true
number_among [] name n found = cc
number_among (slots.Unused ∷ ss) name n found = number_among ss name n found
number_among (slots.Entry number other ∷ ss) name n found = by (bytes_eq other name) found (number_among ss name n)
  where
    by : (t : Bool) → cond t (Some number) (number_in ss name) ≡ Some n → (number_in ss name ≡ Some n → is_among (filter_map number_named ss) n ≡ true) → (nat_eq number n || is_among (filter_map number_named ss) n) ≡ true
    by true found more = let e : number ≡ n = cc in or_first (nat_eq number n) _ (grind (arith, nat_tests))
    by false found more = or_second (nat_eq number n) _ (more found)

step_before : (es : List Entry) (name : List ℕ) (o : Option ℕ) (n : ℕ) → option_and_then (λ d. entry_at es d name) o ≡ Some n → (d : ℕ) × (o ≡ Some d) × (entry_at es d name ≡ Some n)
step_before es name None n e = cc
step_before es name (Some d) n e = (d, refl, e)

module _ (s : Seen) (es : List Entry) (right : (d : ℕ) (name : List ℕ) → entry_at es d name ≡ number_in (slots_of s d) name) where
  -- the numbers that a path leads to on its way, from its end to the root
  trail : Path → List ℕ
  trail [] = 1 ∷ []
  trail (name ∷ up) = unwrap_or (leads es (name ∷ up)) 0 ∷ trail up

  trail_long : (up : Path) → length (trail up) ≡ length up + 1
  unfolding trail
  trail_long [] = refl
  trail_long (name ∷ up) = omega (arith, trail_long up)

  trail_from : (up : Path) (m : ℕ) → leads es up ≡ Some m → (k : ℕ) → is_among (trail up) k ≡ true → (v : Path) × (length v ≤ length up) × (leads es v ≡ Some k)
  unfolding trail
  trail_from [] m led k among = by (nat_eq 1 k) refl among
    where
      by : (t : Bool) → nat_eq 1 k ≡ t → (t || false) ≡ true → (v : Path) × (length v ≤ 0) × (leads es v ≡ Some k)
      by true is among = let e : 1 ≡ k = grind (arith, nat_tests) in ([], omega arith, ap (λ (n : ℕ). Some n) e)
      by false is among = cc
  trail_from (name ∷ up) m led k among = by (nat_eq (unwrap_or (leads es (name ∷ up)) 0) k) refl among (λ rest. let up_step = step_before es name (leads es up) m led in trail_from up up_step.0 up_step.1 k rest)
    where
      here : unwrap_or (leads es (name ∷ up)) 0 ≡ m
      here = ap (λ (o : Option ℕ). unwrap_or o 0) led

      by : (t : Bool) → nat_eq (unwrap_or (leads es (name ∷ up)) 0) k ≡ t → (t || is_among (trail up) k) ≡ true
          → (is_among (trail up) k ≡ true → (v : Path) × (length v ≤ length up) × (leads es v ≡ Some k)) → (v : Path) × (length v ≤ length (name ∷ up)) × (leads es v ≡ Some k)
      by true is among more = let e : unwrap_or (leads es (name ∷ up)) 0 ≡ k = grind (arith, nat_tests) in (name ∷ up, omega arith, led ∙ ap (λ (n : ℕ). Some n) (sym here ∙ e))
      by false is among more = let at = more among in (at.0, omega (arith, at.1), at.2)

  module _ (one_up : (p q : Path) (n : ℕ) → leads es p ≡ Some n → leads es q ≡ Some n → p ≡ q) where
    trail_distinct : (up : Path) (m : ℕ) → leads es up ≡ Some m → Distinct (trail up)
    unfolding trail
    trail_distinct [] m led = (refl, tt)
    trail_distinct (name ∷ up) m led =
        let below = step_before es name (leads es up) m led in
        let here : unwrap_or (leads es (name ∷ up)) 0 ≡ m = ap (λ (o : Option ℕ). unwrap_or o 0) led in
        (subst (λ (k : ℕ). is_among (trail up) k ≡ false) (sym here) (by (is_among (trail up) m) refl (trail_from up below.0 below.1 m)), trail_distinct up below.0 below.1)
      where
        by : (t : Bool) → is_among (trail up) m ≡ t → (is_among (trail up) m ≡ true → (v : Path) × (length v ≤ length up) × (leads es v ≡ Some m)) → is_among (trail up) m ≡ false
        by true is from =
            let at = from is in
            let same : at.0 ≡ name ∷ up = one_up at.0 (name ∷ up) m at.2 led in
            absurd (omega (arith, at.1, ap (λ (p : Path). length p) same))
        by false is from = is

  reached_up : (k : ℕ) (up : Path) (n : ℕ) → length up ≤ k → leads es up ≡ Some n → is_among (reached_in s k) n ≡ true
  reached_up zero [] n le led = let e : 1 ≡ n = cc in or_first (nat_eq 1 n) false (grind (arith, nat_tests))
  reached_up zero (name ∷ up) n le led = absurd (omega (arith, le))
  reached_up (suc k) [] n le led = among_first (reached_in s k) _ n (reached_up k [] n (omega arith) led)
  reached_up (suc k) (name ∷ up) n le led =
      let below = step_before es name (leads es up) n led in
      among_second (reached_in s k) _ n (among_each (λ n. filter_map number_named (slots_of s n)) (reached_in s k) below.0 n (reached_up k up below.0 (omega (arith, le)) below.1) (number_among (slots_of s below.0) name n (sym (right below.0 name) ∙ below.2)))

pub different_most : (xs : List ℕ) → different xs ≤ length xs
different_most [] = omega arith
different_most (x ∷ xs) = by (is_among xs x) (different_most xs)
  where
    by : (t : Bool) → different xs ≤ length xs → cond t (different xs) (different xs + 1) ≤ length (x ∷ xs)
    by true le = omega (arith, le)
    by false le = omega (arith, le)

-- ---- an image that is sound

module _ (read : Blocks) (at : ℕ) (homes : List ℕ) (count : ℕ) (g : Layout) (sound : IsSound g (seen_from read at homes count)) where
  abbrev s : Seen
  s = seen_from read at homes count

  abbrev nodes : List (ℕ × Inode)
  nodes = nodes_at read at

  abbrev es : List Entry
  es = entries_of s nodes

  right_here : (d : ℕ) (name : List ℕ) → entry_at es d name ≡ number_in (slots_of s d) name
  right_here = right read at homes count g sound.pointers sound.directories

  up_is : (up : Path) → leads es up ≡ number_along s 1 (reverse up)
  up_is up = leads_right s es right_here up

  one_up : (p q : Path) (n : ℕ) → leads es p ≡ Some n → leads es q ≡ Some n → p ≡ q
  one_up p q n a b = sym (reverse-reverse p) ∙ ap reverse (sound.named.one_path (reverse p) (reverse q) n (sym (up_is p) ∙ a) (sym (up_is q) ∙ b)) ∙ reverse-reverse q

  used_up : (up : Path) (n : ℕ) → leads es up ≡ Some n → is_used (inode_of nodes n) ≡ true
  used_up up n led = sound.named.used (reverse up) n (sym (up_is up) ∙ led)

  way_to : (n : ℕ) → is_used (inode_of nodes n) ≡ true → (up : Path) × (leads es up ≡ Some n)
  way_to n used = let way = sound.named.reached n used in (reverse way.0, up_is (reverse way.0) ∙ ap (number_along s 1) (reverse-reverse way.0) ∙ way.1)

  record Led (e : Entry) : Type 0 where
    up : Path
    to : leads es up ≡ Some e.directory
    found : number_in (slots_of s e.directory) e.name ≡ Some e.number

  leads_on : (e : Entry) (led : Led e) → leads es (e.name ∷ led.up) ≡ Some e.number
  leads_on e led = ap (option_and_then (λ d. entry_at es d e.name)) led.to ∙ right_here e.directory e.name ∙ led.found

  led_found : (d : ℕ) (up : Path) → leads es up ≡ Some d → (xs : List Entry) → AllFound d (slots_of s d) xs → AllByRecursion Led xs
  led_found d up to [] all = tt
  led_found d up to (e ∷ xs) all =
      (record { up = up; to = to ∙ ap (λ (n : ℕ). Some n) (sym all.0.0); found = ap (λ (n : ℕ). number_in (slots_of s n) e.name) all.0.0 ∙ all.0.1 }, led_found d up to xs all.1)

  no_pairs : (x : Inode) → is_used x ≡ false → length (directory_pairs read x) ≡ 0
  no_pairs Unused e = refl
  no_pairs (File size height ptr) e = cc
  no_pairs (Directory width height ptr) e = cc

  no_twins : (d : ℕ) → has_twin (slots_of s d) ≡ false
  no_twins d = (directory_fine read at homes count g sound.pointers sound.directories d (inode_of nodes d) refl).1

  led_in : (d : ℕ) → AllByRecursion Led (entries_in d (slots_of s d))
  led_in d = by (is_used (inode_of nodes d)) refl
    where
      by : (t : Bool) → is_used (inode_of nodes d) ≡ t → AllByRecursion Led (entries_in d (slots_of s d))
      by true used = let way = way_to d used in led_found d way.0 way.1 (entries_in d (slots_of s d)) (all_found d (slots_of s d) (no_twins d))
      by false unused = subst (λ (ss : List Slot). AllByRecursion Led (entries_in d ss)) (sym (no_slots read at homes count g sound.pointers sound.directories d (no_pairs (inode_of nodes d) unused))) tt

  led_append : (xs ys : List Entry) → AllByRecursion Led xs → AllByRecursion Led ys → AllByRecursion Led (xs ++ ys)
  led_append [] ys a b = b
  led_append (x ∷ xs) ys a b = (a.0, led_append xs ys a.1 b)

  all_led : (ns : List (ℕ × Inode)) → AllByRecursion Led (entries_of s ns)
  all_led [] = tt
  all_led (node ∷ ns) = subst (AllByRecursion Led) (sym (flat_map-cons (λ (node : ℕ × Inode). entries_in node.0 (slots_of s node.0)) node ns)) (led_append _ _ (led_in node.0) (all_led ns))

  -- a number that is named has a way that ends in a name
  named_way : (n : ℕ) → 1 ≤ times_named es n → (name : List ℕ) × (up : Path) × (leads es (name ∷ up) ≡ Some n)
  named_way n some =
      let e = some_named Led es (all_led nodes) n some in
      (e.0.name, e.1.up, leads_on e.0 e.1 ∙ ap (λ (k : ℕ). Some k) e.2)

  root_unnamed : times_named es 1 ≡ 0
  root_unnamed = by (times_named es 1) refl
    where
      by : (k : ℕ) → times_named es 1 ≡ k → times_named es 1 ≡ 0
      by zero is = is
      by (suc k) is =
          let way = named_way 1 (omega (arith, is)) in
          absurd (not_nil way.0 way.1 (one_up (way.0 ∷ way.1) [] 1 way.2 refl))
        where
          not_nil : (x : List ℕ) (p : Path) → x ∷ p ≡ [] → ⊥
          not_nil x p e = cc

  named_used : (n : ℕ) → 1 ≤ times_named es n → is_used (inode_of nodes n) ≡ true
  named_used n some = let way = named_way n some in used_up (way.0 ∷ way.1) n way.2

  at_least_once : (n : ℕ) → 2 ≤ n → is_used (inode_of nodes n) ≡ true → 1 ≤ times_named es n
  at_least_once n high used = by (way_to n used).0 (way_to n used).1
    where
      by : (up : Path) → leads es up ≡ Some n → 1 ≤ times_named es n
      by [] led = let e : 1 ≡ n = cc in absurd (omega (arith, e, high))
      by (name ∷ up) led = let below = step_before es name (leads es up) n led in found_times es below.0 name n below.2

  at_most_once : (n : ℕ) → 1 ≤ times_named es n → times_named es n ≤ 1
  at_most_once n some =
      let first = some_named Led es (all_led nodes) n some in
      let e = first.0 in
      omega (arith, named_at_most es e.directory e.name n (all_same es (all_led nodes) e first.1 first.2), once s no_twins e.directory e.name nodes (numbers_distinct read at))
    where
      tail_same : (x y : List ℕ) (p q : Path) → x ∷ p ≡ y ∷ q → (x ≡ y) × (p ≡ q)
      tail_same x y p q e = (cc, cc)

      some_same : (x y : ℕ) → Some x ≡ Some y → x ≡ y
      some_same x y e = cc

      and_both : (a b : Bool) → a ≡ true → b ≡ true → (a && b) ≡ true
      and_both true b e f = f
      and_both false b e f = cc

      one_same : (f : Entry) → Led f → (e : Entry) → Led e → e.number ≡ n → f.number ≡ n → is_of e.directory e.name f ≡ true
      one_same f led_f e led_e e_is f_is =
          let same = tail_same f.name e.name led_f.up led_e.up (one_up (f.name ∷ led_f.up) (e.name ∷ led_e.up) n (leads_on f led_f ∙ ap (λ (k : ℕ). Some k) f_is) (leads_on e led_e ∙ ap (λ (k : ℕ). Some k) e_is)) in
          let directory : f.directory ≡ e.directory = some_same f.directory e.directory (sym led_f.to ∙ ap (leads es) same.1 ∙ led_e.to) in
          and_both (f.directory == e.directory) (name_eq f.name e.name) (grind (arith, nat_tests)) (ap (λ (x : List ℕ). name_eq x e.name) same.0 ∙ name_itself e.name)

      all_same : (xs : List Entry) → AllByRecursion Led xs → (e : Entry) → Led e → e.number ≡ n → AllByRecursion (λ (f : Entry). f.number ≡ n → is_of e.directory e.name f ≡ true) xs
      all_same [] all e led is = tt
      all_same (f ∷ xs) all e led is = (one_same f all.0 e led is, all_same xs all.1 e led is)

  trail_used : (up : Path) (m : ℕ) → leads es up ≡ Some m → (k : ℕ) → is_among (trail s es right_here up) k ≡ true → is_among (numbers nodes) k ≡ true
  trail_used up m led k among =
      let from = trail_from s es right_here up m led k among in
      sym (used_among nodes (nodes_used (blocks_inodes read 0 (index_at read at))) k) ∙ used_up from.0 k from.2

  numbers_long : (ns : List (ℕ × Inode)) → length (numbers ns) ≡ length ns
  numbers_long [] = refl
  numbers_long (node ∷ ns) = ap suc (numbers_long ns)

  -- no way is longer than there are nodes
  short : (up : Path) (m : ℕ) → leads es up ≡ Some m → length up ≤ length nodes
  short up m led =
      let t = trail s es right_here up in
      let whole : different t ≡ length t = distinct_count t (trail_distinct s es right_here one_up up m led) in
      omega (arith, whole, trail_long s es right_here up, different_part t (numbers nodes) (trail_used up m led), different_most (numbers nodes), numbers_long nodes)

  used_reached : (n : ℕ) → is_used (inode_of nodes n) ≡ true → list_any (λ m. m == n) (reached_in s (length nodes)) ≡ true
  used_reached n used = let way = way_to n used in among_any (reached_in s (length nodes)) n (reached_up s es right_here (length nodes) way.0 n (short way.0 n way.1) way.1)

  -- ---- no number is lost

  none_of : (a b c d : Bool) → a ≡ false → b ≡ false → c ≡ false → d ≡ false → (((a || b) || c) || d) ≡ false
  none_of true b c d e f h i = cc
  none_of false true c d e f h i = cc
  none_of false false true d e f h i = cc
  none_of false false false d e f h i = i

  module _ (n times : ℕ) (is : times ≡ times_named es n) where
    not_root : (t : Bool) → (n == 1) ≡ t → (t && nat_lt 0 times) ≡ false
    not_root true e = let one : n ≡ 1 = eqb-true n 1 e in let none : times ≡ 0 = is ∙ ap (times_named es) one ∙ root_unnamed in grind (arith, nat_tests)
    not_root false e = refl

    not_unused : (used some : Bool) → is_used (inode_of nodes n) ≡ used → nat_lt 0 times ≡ some → (not used && some) ≡ false
    not_unused true some e f = refl
    not_unused false true e f = let low : 1 ≤ times = grind (arith, nat_tests) in let used = named_used n (omega (arith, is, low)) in cc
    not_unused false false e f = refl

    not_twice : (used high : Bool) → is_used (inode_of nodes n) ≡ used → nat_lt 1 n ≡ high → ((used && high) && not (times == 1)) ≡ false
    not_twice true true e f =
        let two : 2 ≤ n = grind (arith, nat_tests) in
        let least = at_least_once n two e in
        let one : times ≡ 1 = omega (arith, is, least, at_most_once n least) in
        let same : (times == 1) ≡ true = grind (arith, nat_tests) in
        ap not same
    not_twice true false e f = refl
    not_twice false high e f = refl

    not_apart : (used : Bool) → is_used (inode_of nodes n) ≡ used → (used && not (list_any (λ m. m == n) (reached_in s (length nodes)))) ≡ false
    not_apart true e = ap not (used_reached n e)
    not_apart false e = refl

    not_lost : (((n == 1 && nat_lt 0 times) || (not (is_used (inode_of nodes n)) && nat_lt 0 times)) || ((is_used (inode_of nodes n) && nat_lt 1 n) && not (times == 1))
        || (is_used (inode_of nodes n) && not (list_any (λ m. m == n) (reached_in s (length nodes))))) ≡ false
    not_lost = none_of _ _ _ _ (not_root (n == 1) refl) (not_unused (is_used (inode_of nodes n)) (nat_lt 0 times) refl refl) (not_twice (is_used (inode_of nodes n)) (nat_lt 1 n) refl refl) (not_apart (is_used (inode_of nodes n)) refl)

  here_not_lost : (n : ℕ) → is_lost s (numbers_named s nodes) (reached_in s (length nodes)) n ≡ false
  here_not_lost n = not_lost n (count_by (λ m. m == n) (numbers_named s nodes)) (ap (count_by (λ m. m == n)) (names_are s nodes) ∙ times_mapped es n)

  none_from : (n k : ℕ) → lost_finding s (numbers_named s nodes) (reached_in s (length nodes)) n k ≡ None
  none_from n zero = refl
  none_from n (suc k) = ap (λ (t : Bool). or_behind t (NotATree n) (λ _. lost_finding s (numbers_named s nodes) (reached_in s (length nodes)) (n + 1) k)) (here_not_lost n) ∙ none_from (n + 1) k

  pub none_lost : tree_finding s ≡ None
  unfolding tree_finding
  none_lost = none_from 1 65535
