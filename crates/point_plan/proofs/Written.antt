-- The fresh blocks of a report's lines hold what is staged.
use Rattle.std.proofs.Common.{◌≡◌, ℕ, suc, ◌+◌, ◌-◌, ◌<◌, ◌≤◌, Bool, true, false, not, cond, List, [], ◌∷◌, Some, refl, sym, ap, subst, ◌∙◌, arith, inl, inr, ◌⊎◌, ⊎_elim}
use Rattle.std.specs.Prelude.{◌&&◌, nat_eq, nat_le, nat_lt, All}
use Rattle.std.specs.FinMap.{find}
use Rattle.std.proofs.lemmas.Bool.Decides.{nat_tests}
use Rattle.vol_numbers.specs.declared.block.Block.{Block}
use Rattle.block_tree.specs.Tree.{Blocks}
use Rattle.dirty_store.specs.Overlay.{Overlay}
use Rattle.place_words.specs.Different.{is_among}
use Rattle.point_model.proofs.Placed.{Comes, old, new, comes}
use Rattle.point_plan.specs.Carries.{LineStands}
use Rattle.state_laws.specs.States.{IsCoherent}
use Rattle.tree_model.specs.declared.report.Line.{Line}
use Rattle.tree_model.specs.declared.report.Report.{Report}
use Rattle.volume_model.specs.Lines.{fresh_only, is_fresh, share_only}
use Rattle.volume_model.specs.Machine.{Machine, Rules}
use Rattle.volume_model.specs.Places.{Places, Spot, is_block, spot_cmp}
use Rattle.volume_model.specs.Point.{fresh_in, placed_after}
use Rattle.volume_model.specs.ReportLaws.{HasEqualBytes, HasItsBlocks, IsReport, has_place, lines_with}
use Rattle.volume_model.proofs.LineCounts.{each_place_once}
use Rattle.volume_model.proofs.LineLaws.{fresh_are_unused}
use Rattle.volume_model.proofs.PlacesTold.{places_are_told}
use Rattle.volume_model.proofs.SharedBytes.{shared_bytes_are_equal}

head_of : {X : Type 0} (P : X → Type 0) (x : X) (xs : List X) → All P (x ∷ xs) → P x
head_of P x xs all = all 0 x (omega arith)

tail_of : {X : Type 0} (P : X → Type 0) (x : X) (xs : List X) → All P (x ∷ xs) → All P xs
tail_of P x xs all = λ k d lt. all (suc k) d (omega (arith, lt))

-- a line that has a place, with what is known of it
pub record Found (spot : Spot) (P Q R : Line → Type 0) : Type 0 where
  pub line : Line
  pub has : has_place line spot ≡ true
  pub of_all : Q line
  pub of_kind : P line ⊎ R line

-- One of some lines has a place: then it is known what is of all, and what is of its kind.
pub found : (spot : Spot) (P Q R : Line → Type 0) (lines : List Line) → All P (fresh_only lines) → All Q lines → All R (share_only lines) → 1 ≤ lines_with lines spot → Found spot P Q R
found spot P Q R [] ps qs rs some = absurd (omega (arith, some))
found spot P Q R (l ∷ ls) ps qs rs some = by (is_fresh l) refl (has_place l spot) refl (found spot P Q R ls)
  where
    kind : (t : Bool) → is_fresh l ≡ t → (P l ⊎ R l) × All P (fresh_only ls) × All R (share_only ls)
    kind true is =
        let all : All P (l ∷ fresh_only ls) = subst (λ (t : Bool). All P (cond t (l ∷ fresh_only ls) (fresh_only ls))) is ps in
        let others : All R (share_only ls) = subst (λ (t : Bool). All R (cond (not t) (l ∷ share_only ls) (share_only ls))) is rs in
        (inl (head_of P l (fresh_only ls) all), tail_of P l (fresh_only ls) all, others)
    kind false is =
        let all : All R (l ∷ share_only ls) = subst (λ (t : Bool). All R (cond (not t) (l ∷ share_only ls) (share_only ls))) is rs in
        let others : All P (fresh_only ls) = subst (λ (t : Bool). All P (cond t (l ∷ fresh_only ls) (fresh_only ls))) is ps in
        (inr (head_of R l (share_only ls) all), others, tail_of R l (share_only ls) all)

    by : (t : Bool) → is_fresh l ≡ t → (u : Bool) → has_place l spot ≡ u → (All P (fresh_only ls) → All Q ls → All R (share_only ls) → 1 ≤ lines_with ls spot → Found spot P Q R) → Found spot P Q R
    by t is true has more = record { line = l; has = has; of_all = head_of Q l ls qs; of_kind = (kind t is).0 }
    by t is false has more =
        let all = kind t is in
        let rest : 1 ≤ 0 + lines_with ls spot = subst (λ (u : Bool). 1 ≤ cond u 1 0 + lines_with ls spot) has some in
        more all.1 (tail_of Q l ls qs) all.2 (omega (arith, rest))

-- ---- the line of a place

-- a place of a line: its number is the line's, and it lies so far behind the line's first one
pub record IsInLine (l : Line) (spot : Spot) : Type 0 where
  pub number : l.number ≡ spot.0
  pub from : l.place ≤ spot.1
  pub below : spot.1 - l.place < l.length

in_line : (l : Line) (spot : Spot) → has_place l spot ≡ true → IsInLine l spot
in_line l spot has = by (nat_eq l.number spot.0) (nat_le l.place spot.1) (nat_lt spot.1 (l.place + l.length)) refl refl refl has
  where
    by : (a b c : Bool) → nat_eq l.number spot.0 ≡ a → nat_le l.place spot.1 ≡ b → nat_lt spot.1 (l.place + l.length) ≡ c → (a && b && c) ≡ true → IsInLine l spot
    by true true true is_a is_b is_c e =
        let number : l.number ≡ spot.0 = grind (arith, nat_tests) in
        let from : l.place ≤ spot.1 = grind (arith, nat_tests) in
        let lt : spot.1 < l.place + l.length = grind (arith, nat_tests) in
        record { number = number; from = from; below = omega (arith, from, lt) }
    by true true false is_a is_b is_c e = cc
    by true false c is_a is_b is_c e = cc
    by false b c is_a is_b is_c e = cc

module _ (r : Rules) (m : Machine) (report : Report) (coherent : IsCoherent r m) (is : IsReport r m report) (o : Overlay) (read : Blocks) (stand : All (LineStands o read) (fresh_only report.lines)) where
  abbrev placed : Places
  placed = placed_after r m (fresh_in report)

  -- it is the place of the line
  at_line : (l : Line) (spot : Spot) → IsInLine l spot → (l.number, l.place + (spot.1 - l.place)) ≡ spot
  at_line l spot within = let e : l.place + (spot.1 - l.place) ≡ spot.1 = omega (arith, within.from) in λ i. (within.number i, e i)

  same_block : (x y : ℕ) → Some x ≡ Some y → x ≡ y
  same_block x y e = cc

  -- the block of a fresh place of a report holds what is staged
  pub lines_written : (spot : Spot) (block : ℕ) (staged : Block) → find spot_cmp spot placed ≡ Some block → is_among (fresh_in report) block ≡ true → find spot_cmp spot o.blocks ≡ Some staged → read block ≡ staged.bytes
  lines_written spot block staged at among there = by (comes r m report coherent is spot block at)
    where
      unused : is_block m.stored_places block ≡ false
      unused = fresh_are_unused.unused r m report block is.point among

      of_line : Found spot (LineStands o read) (HasItsBlocks placed) (HasEqualBytes m) → read block ≡ staged.bytes
      of_line f =
          let l = f.line in
          let within = in_line l spot f.has in
          let k : ℕ = spot.1 - l.place in
          let place = at_line l spot within in
          let here : l.block + k ≡ block = same_block _ _ (sym (f.of_all k within.below) ∙ ap (λ (s : Spot). find spot_cmp s placed) place ∙ at) in
          ⊎_elim
          (λ fresh. ap read (sym here) ∙ fresh k staged within.below (ap (λ (s : Spot). find spot_cmp s o.blocks) place ∙ there))
          (λ equal. let stored : is_block m.stored_places block ≡ true = ap (λ (b : ℕ). is_block m.stored_places b) (sym here) ∙ is.whole.cached (l.block + k) (equal k within.below).0 in let never : true ≡ false = sym stored ∙ unused in cc)
          f.of_kind

      by : Comes m report spot block → read block ≡ staged.bytes
      by (old bytes stored) = let never : true ≡ false = sym stored ∙ unused in cc
      by (new dirty fresh) =
          let once : lines_with report.lines spot ≡ 1 = each_place_once r m report is spot ∙ ap (λ (t : Bool). cond t 1 0) dirty in
          of_line (found spot (LineStands o read) (HasItsBlocks placed) (HasEqualBytes m) report.lines stand (places_are_told.lines r m report is) (shared_bytes_are_equal r m report is) (omega (arith, once)))
