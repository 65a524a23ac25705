-- Where no number is lost, each used number has one path, wherever the nodes and their slots are seen.
use Rattle.std.proofs.Common.{◌≡◌, ℕ, zero, suc, ◌+◌, ◌-◌, ◌<◌, ◌≤◌, Bool, true, false, not, List, [], ◌∷◌, ◌++◌, length, Some, None, refl, sym, ap, subst, ◌∙◌, arith, add-zero}
use Rattle.std.specs.Prelude.{◌==◌, ◌&&◌, ◌||◌, nat_lt, Option, option_and_then, count_by, reverse}
use Rattle.std.specs.List.{list_any, flat_map, filter_map, AllByRecursion}
use Rattle.std.proofs.lemmas.Bool.{eqb-true}
use Rattle.std.proofs.lemmas.Bool.Decides.{nat_tests}
use Rattle.std.proofs.lemmas.List.Concat.{flat_map-cons}
use Rattle.block_format.specs.declared.inode.Inode.{Inode}
use Rattle.block_format.specs.declared.inode.Inode.TheVariants.{Unused, File, Directory}
use Rattle.place_words.specs.Different.{is_among, Distinct}
use Rattle.block_format.specs.declared.slot.Slot.{Slot}
use Rattle.dir_slots.specs.Slots.{number_in}
use Rattle.tree_model.specs.Path.{Path}
use Rattle.image_model.specs.declared.finding.Finding.TheVariants.{NotATree}
use Rattle.image_model.specs.Nodes.{has_twin, number_named, numbers_named, reached_in, is_lost, or_behind, lost_finding, tree_finding}
use Rattle.image_model.specs.Seen.{Seen}
use Rattle.image_model.specs.Slots.{slots_of, inode_of, number_along}
use Rattle.image_model.specs.Sound.{IsNamed}
use Rattle.image_model.specs.Walk.{is_used, is_directory}
use Rattle.image_model.proofs.Entries.{Entry, entry_at, leads, times_named, NamesOnce, entries_in, entries_of}
use Rattle.image_model.proofs.Naming.{names_are, times_mapped, last_step, along_leads, paths_once, all_named, out_times, entries_right, AllIn, in_append, AllNamed}
use Rattle.image_model.proofs.NodePlaces.{numbers, AllUsed, used_among}
use Rattle.image_model.proofs.Paths.{found_times}

-- Nodes and their slots: the numbers differ, each node is used and has a number from 1 to 65,535, number 1 is a directory, only directories have slots, and
-- no directory has an entry of a number out of that range or two of one name.
pub record NodesKnown (s : Seen) : Type 0 where
  pub distinct : Distinct (numbers s.nodes)
  pub used : AllUsed s.nodes
  pub limits : (n : ℕ) → is_used (inode_of s.nodes n) ≡ true → (1 ≤ n) × (n ≤ 65535)
  pub root : is_directory (inode_of s.nodes 1) ≡ true
  pub others : (n : ℕ) → is_directory (inode_of s.nodes n) ≡ false → slots_of s n ≡ []
  pub entries : (d : ℕ) → AllIn (entries_in d (slots_of s d))
  pub no_twins : (d : ℕ) → has_twin (slots_of s d) ≡ false

module _ (s : Seen) (f : NodesKnown s) where
  no_directory : (x : Inode) → is_used x ≡ false → is_directory x ≡ false
  no_directory Unused e = refl
  no_directory (File size height ptr) e = cc
  no_directory (Directory width height ptr) e = cc

  directory_used : (x : Inode) → is_directory x ≡ true → is_used x ≡ true
  directory_used Unused e = cc
  directory_used (File size height ptr) e = refl
  directory_used (Directory width height ptr) e = refl

  pub right : (d : ℕ) (name : List ℕ) → entry_at (entries_of s s.nodes) d name ≡ number_in (slots_of s d) name
  right d name = entries_right s s.nodes f.distinct d name (λ out. ap (λ (ss : List Slot). number_in ss name) (f.others d (no_directory (inode_of s.nodes d) (used_among s.nodes f.used d ∙ out))))

  all_in : (ns : List (ℕ × Inode)) → AllIn (entries_of s ns)
  all_in [] = tt
  all_in (node ∷ ns) = subst AllIn (sym (flat_map-cons (λ (node : ℕ × Inode). entries_in node.0 (slots_of s node.0)) node ns)) (in_append _ _ (f.entries node.0) (all_in ns))

  root_used : is_used (inode_of s.nodes 1) ≡ true
  root_used = directory_used (inode_of s.nodes 1) f.root

-- ---- numbers that are lost

lost_none : (s : Seen) (named reached : List ℕ) (from k : ℕ) → lost_finding s named reached from k ≡ None → (j : ℕ) → j < k → is_lost s named reached (from + j) ≡ false
lost_none s named reached from zero none j lt = absurd (omega arith)
lost_none s named reached from (suc k) none j lt = by (is_lost s named reached from) refl none j lt (lost_none s named reached (from + 1) k)
  where
    by : (t : Bool) → is_lost s named reached from ≡ t → or_behind t (NotATree from) (λ _. lost_finding s named reached (from + 1) k) ≡ None → (j : ℕ) → j < suc k
        → (lost_finding s named reached (from + 1) k ≡ None → (j : ℕ) → j < k → is_lost s named reached ((from + 1) + j) ≡ false) → is_lost s named reached (from + j) ≡ false
    by true is none j lt more = cc
    by false is none zero lt more = subst (λ (n : ℕ). is_lost s named reached n ≡ false) (sym (add-zero from)) is
    by false is none (suc j) lt more = let e : (from + 1) + j ≡ from + suc j = omega arith in subst (λ (n : ℕ). is_lost s named reached n ≡ false) e (more none j (omega (arith, lt)))

-- what it says of a number that it isn't lost
record NotLost (used : Bool) (n times : ℕ) (reached : List ℕ) : Type 0 where
  root : n ≡ 1 → times ≡ 0
  unused : 1 ≤ times → used ≡ true
  once : used ≡ true → 2 ≤ n → times ≡ 1
  there : used ≡ true → list_any (λ m. m == n) reached ≡ true

or_parts : (a b : Bool) → (a || b) ≡ false → (a ≡ false) × (b ≡ false)
or_parts true b e = cc
or_parts false b e = (refl, e)

not_lost : (used : Bool) (n times : ℕ) (reached : List ℕ)
    → (((n == 1 && nat_lt 0 times) || (not used && nat_lt 0 times)) || ((used && nat_lt 1 n) && not (times == 1)) || (used && not (list_any (λ m. m == n) reached))) ≡ false → NotLost used n times reached
not_lost used n times reached none =
    let d = or_parts _ (used && not (list_any (λ m. m == n) reached)) none in
    let c = or_parts _ ((used && nat_lt 1 n) && not (times == 1)) d.0 in
    let b = or_parts (n == 1 && nat_lt 0 times) (not used && nat_lt 0 times) c.0 in
    record {
      root = λ is. by_root (n == 1) b.0 (let e = is in grind (arith, nat_tests));
      unused = λ some. by_unused used (nat_lt 0 times) b.1 (grind (arith, nat_tests));
      once = λ is high. by_once used (nat_lt 1 n) (times == 1) refl c.1 is (grind (arith, nat_tests));
      there = λ is. by_there used _ d.1 is;
    }
  where
    by_root : (t : Bool) → (t && nat_lt 0 times) ≡ false → t ≡ true → times ≡ 0
    by_root true none is = grind (arith, nat_tests)
    by_root false none is = cc

    by_unused : (u t : Bool) → (not u && t) ≡ false → t ≡ true → u ≡ true
    by_unused true t none is = refl
    by_unused false t none is = cc

    by_once : (u t v : Bool) → (times == 1) ≡ v → ((u && t) && not v) ≡ false → u ≡ true → t ≡ true → times ≡ 1
    by_once true true true e none is high = eqb-true times 1 e
    by_once true true false e none is high = cc
    by_once true false v e none is high = cc
    by_once false t v e none is high = cc

    by_there : (u t : Bool) → (u && not t) ≡ false → u ≡ true → t ≡ true
    by_there true true none is = refl
    by_there true false none is = cc
    by_there false t none is = cc

-- ---- where none is

module _ (s : Seen) (f : NodesKnown s) (tree_none : tree_finding s ≡ None) where
  abbrev nodes : List (ℕ × Inode)
  nodes = s.nodes

  abbrev reached : List ℕ
  reached = reached_in s (length nodes)

  told : (n : ℕ) → 1 ≤ n → n ≤ 65535 → NotLost (is_used (inode_of nodes n)) n (times_named (entries_of s nodes) n) reached
  unfolding tree_finding
  told n low high =
      let is = lost_none s (numbers_named s nodes) reached 1 65535 tree_none (n - 1) (omega (arith, low, high)) in
      let e : 1 + (n - 1) ≡ n = omega (arith, low) in
      let here : is_lost s (numbers_named s nodes) reached n ≡ false = subst (λ (k : ℕ). is_lost s (numbers_named s nodes) reached k ≡ false) e is in
      let times : count_by (λ m. m == n) (numbers_named s nodes) ≡ times_named (entries_of s nodes) n = ap (count_by (λ m. m == n)) (names_are s nodes) ∙ times_mapped (entries_of s nodes) n in
      subst (λ (k : ℕ). NotLost (is_used (inode_of nodes n)) n k reached) times (not_lost (is_used (inode_of nodes n)) n (count_by (λ m. m == n) (numbers_named s nodes)) reached here)

  names_once : NamesOnce (entries_of s nodes)
  names_once = record {
    root = (told 1 (omega arith) (omega arith)).root refl;
    once = λ n. by n (times_named (entries_of s nodes) n) refl;
  }
    where
      one : (n k : ℕ) → times_named (entries_of s nodes) n ≡ suc k → times_named (entries_of s nodes) n ≤ 1
      one n k is =
          let limits = out_times (entries_of s nodes) (all_in s f nodes) n (omega (arith, is)) in
          let fact = told n limits.0 limits.1 in
          let used = fact.unused (omega (arith, is)) in
          let not_root : 2 ≤ n = high n fact is limits.0 in
          omega (arith, fact.once used not_root)
        where
          high : (n : ℕ) → NotLost (is_used (inode_of nodes n)) n (times_named (entries_of s nodes) n) reached → times_named (entries_of s nodes) n ≡ suc k → 1 ≤ n → 2 ≤ n
          high zero fact is low = absurd (omega (arith, low))
          high (suc zero) fact is low = absurd (omega (arith, is, fact.root refl))
          high (suc (suc n)) fact is low = omega arith

      by : (n k : ℕ) → times_named (entries_of s nodes) n ≡ k → times_named (entries_of s nodes) n ≤ 1
      by n zero is = omega (arith, is)
      by n (suc k) is = one n k is

  -- what a path leads to is used
  led_used : (up : Path) (n : ℕ) → leads (entries_of s nodes) up ≡ Some n → is_used (inode_of nodes n) ≡ true
  led_used [] n led = let e : 1 ≡ n = cc in subst (λ (k : ℕ). is_used (inode_of nodes k) ≡ true) e (root_used s f)
  led_used (name ∷ up) n led = by (leads (entries_of s nodes) up) led
    where
      by : (o : Option ℕ) → option_and_then (λ d. entry_at (entries_of s nodes) d name) o ≡ Some n → is_used (inode_of nodes n) ≡ true
      by None is = cc
      by (Some d) is =
          let some_times = found_times (entries_of s nodes) d name n is in
          let limits = out_times (entries_of s nodes) (all_in s f nodes) n some_times in
          (told n limits.0 limits.1).unused some_times

  -- ---- what is reached has a path

  abbrev AllPaths : List ℕ → Type 0
  AllPaths ns = AllByRecursion (λ (n : ℕ). (path : Path) × (number_along s 1 path ≡ Some n)) ns

  paths_append : (xs ys : List ℕ) → AllPaths xs → AllPaths ys → AllPaths (xs ++ ys)
  paths_append [] ys a b = b
  paths_append (x ∷ xs) ys a b = (a.0, paths_append xs ys a.1 b)

  one_further : (d : ℕ) (path : Path) → number_along s 1 path ≡ Some d → (ns : List ℕ) → AllNamed (slots_of s d) ns → AllPaths ns
  one_further d path along [] all = tt
  one_further d path along (n ∷ ns) all =
      ((path ++ all.0.0 ∷ [], last_step s path 1 all.0.0 ∙ ap (option_and_then (λ d. number_in (slots_of s d) all.0.0)) along ∙ all.0.1), one_further d path along ns all.1)

  all_further : (ds : List ℕ) → AllPaths ds → AllPaths (flat_map (λ n. filter_map number_named (slots_of s n)) ds)
  all_further [] all = tt
  all_further (d ∷ ds) all =
      subst AllPaths (sym (flat_map-cons (λ n. filter_map number_named (slots_of s n)) d ds))
      (paths_append _ _ (one_further d all.0.0 all.0.1 (filter_map number_named (slots_of s d)) (all_named (slots_of s d) (f.no_twins d))) (all_further ds all.1))

  all_reached : (k : ℕ) → AllPaths (reached_in s k)
  all_reached zero = (([], refl), tt)
  all_reached (suc k) = paths_append (reached_in s k) _ (all_reached k) (all_further (reached_in s k) (all_reached k))

  path_of : (ns : List ℕ) → AllPaths ns → (n : ℕ) → list_any (λ m. m == n) ns ≡ true → (path : Path) × (number_along s 1 path ≡ Some n)
  path_of [] all n any = cc
  path_of (m ∷ ns) all n any = by (m == n) refl any (path_of ns all.1 n)
    where
      by : (t : Bool) → (m == n) ≡ t → (t || list_any (λ m. m == n) ns) ≡ true → (list_any (λ m. m == n) ns ≡ true → (path : Path) × (number_along s 1 path ≡ Some n)) → (path : Path) × (number_along s 1 path ≡ Some n)
      by true is any more = (all.0.0, all.0.1 ∙ ap (λ (k : ℕ). Some k) (eqb-true m n is))
      by false is any more = more any

  pub named_where_none : IsNamed s
  named_where_none = record {
    used = λ path n along. led_used (reverse path) n (sym (along_leads s (entries_of s nodes) (right s f) path) ∙ along);
    reached = λ n used. let limits = f.limits n used in path_of reached (all_reached (length nodes)) n ((told n limits.0 limits.1).there used);
    one_path = paths_once s (entries_of s nodes) (right s f) names_once;
  }
