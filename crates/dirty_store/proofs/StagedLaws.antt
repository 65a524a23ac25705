-- What stands at a place after a staging.
use Rattle.std.proofs.Common.{◌≡◌, ◌≤◌, ℕ, Bool, true, false, cond, List, [], ◌∷◌, refl, sym, ap, subst, ◌∙◌, arith}
use Rattle.std.specs.Prelude.{not, nat_eq, Option, Some, None}
use Rattle.std.specs.FinMap.{find, put}
use Rattle.std.specs.FinMap.Entries.{find-put}
use Rattle.std.proofs.lemmas.Bool.{eqb-true}
use Rattle.std.proofs.lemmas.Bool.Decides.{nat_tests}
use Rattle.vol_numbers.specs.declared.block.Block.{Block}
use Rattle.volume_model.specs.Places.{Spot, spot_cmp, spot_eq}
use Rattle.volume_model.specs.Done.{is_cut}
use Rattle.volume_model.proofs.Order.{spot_total}
use Rattle.dirty_store.specs.declared.effect.Effect.{Effect}
use Rattle.dirty_store.specs.declared.effect.Touched.{Touched}
use Rattle.dirty_store.specs.Entries.{Entries, all_put, cut_at, uncut}
use Rattle.dirty_store.specs.Overlay.{Overlay, touched_entries, cut_of, staged}
use Rattle.dirty_store.specs.Laws.{first_of_two, touched_with}
use Rattle.dirty_store.proofs.Places.{spot_eq_is}
use Rattle.dirty_store.proofs.BackLaws.{same, find_uncut}

own_place : (n a b : ℕ) → spot_eq (n, a) (n, b) ≡ nat_eq a b
own_place n a b = grind (arith, nat_tests)

same_place : (n place other : ℕ) → same (n, place) (n, other) ≡ nat_eq other place
same_place n place other = sym (spot_eq_is (n, other) (n, place)) ∙ own_place n other place

pub find_touched : (n : ℕ) (ts : List Touched) (place : ℕ) (es : Entries Block)
    → find spot_cmp (n, place) (all_put (touched_entries n ts) es) ≡ first_of_two (touched_with ts place) (find spot_cmp (n, place) es)
find_touched n [] place es = refl
find_touched n (t ∷ ts) place es =
    find_touched n ts place (put spot_cmp (n, t.place) t.block es)
    ∙ ap (first_of_two (touched_with ts place)) (find-put spot_cmp spot_total (n, place) (n, t.place) t.block es ∙ ap (λ b. cond b (Some t.block) (find spot_cmp (n, place) es)) (same_place n place t.place))
    ∙ by (touched_with ts place) (nat_eq t.place place)
  where
    by : (later : Option Block) (here : Bool)
        → first_of_two later (cond here (Some t.block) (find spot_cmp (n, place) es)) ≡ first_of_two (first_of_two later (cond here (Some t.block) None)) (find spot_cmp (n, place) es)
    by (Some block) here = refl
    by None true = refl
    by None false = refl

other_node : (n a : ℕ) (spot : Spot) → nat_eq spot.0 n ≡ false → spot_eq (n, a) spot ≡ false
other_node n a spot is = grind (arith, nat_tests)

pub find_elsewhere : (n : ℕ) (ts : List Touched) (spot : Spot) (es : Entries Block) → nat_eq spot.0 n ≡ false → find spot_cmp spot (all_put (touched_entries n ts) es) ≡ find spot_cmp spot es
find_elsewhere n [] spot es is = refl
find_elsewhere n (t ∷ ts) spot es is =
    find_elsewhere n ts spot (put spot_cmp (n, t.place) t.block es) is
    ∙ find-put spot_cmp spot_total spot (n, t.place) t.block es
    ∙ ap (λ b. cond b (Some t.block) (find spot_cmp spot es)) (sym (spot_eq_is (n, t.place) spot) ∙ other_node n t.place spot is)

-- ---- the three cases

pub touched_is : (o : Overlay) (e : Effect) (place : ℕ) (block : Block)
    → touched_with e.touched place ≡ Some block → find spot_cmp (e.number, place) (staged o e).blocks ≡ Some block
touched_is o e place block is =
    find_touched e.number e.touched place (uncut (cut_of e) o.blocks) ∙ ap (λ t. first_of_two t (find spot_cmp (e.number, place) (uncut (cut_of e) o.blocks))) is

is_cut_off : (n blocks place : ℕ) → blocks ≤ place → is_cut (cut_at n (Some blocks)) (n, place) ≡ true
is_cut_off n blocks place le = grind (arith, nat_tests)

pub cut_is : (o : Overlay) (e : Effect) (place blocks : ℕ)
    → e.cut_to ≡ Some blocks → blocks ≤ place → touched_with e.touched place ≡ None → find spot_cmp (e.number, place) (staged o e).blocks ≡ None
cut_is o e place blocks cut le is =
    find_touched e.number e.touched place (uncut (cut_of e) o.blocks)
    ∙ ap (λ t. first_of_two t (find spot_cmp (e.number, place) (uncut (cut_of e) o.blocks))) is
    ∙ find_uncut (e.number, place) (cut_of e) o.blocks
    ∙ ap (λ b. cond (not b) (find spot_cmp (e.number, place) o.blocks) None) (ap (λ c. is_cut (cut_at e.number c) (e.number, place)) cut ∙ is_cut_off e.number blocks place le)

pub other_is : (o : Overlay) (e : Effect) (spot : Spot)
    → is_cut (cut_of e) spot ≡ false → (spot.0 ≡ e.number → touched_with e.touched spot.1 ≡ None) → find spot_cmp spot (staged o e).blocks ≡ find spot_cmp spot o.blocks
other_is o e spot uncut_is untouched = by (nat_eq spot.0 e.number) refl ∙ find_uncut spot (cut_of e) o.blocks ∙ ap (λ b. cond (not b) (find spot_cmp spot o.blocks) None) uncut_is
  where
    own : spot.0 ≡ e.number → find spot_cmp spot (staged o e).blocks ≡ find spot_cmp spot (uncut (cut_of e) o.blocks)
    own here =
        let spot_is : spot ≡ (e.number, spot.1) = λ i. (here i, spot.1) in
        let at = λ (s : Spot). find spot_cmp s (staged o e).blocks ≡ find spot_cmp s (uncut (cut_of e) o.blocks) in
        subst at (sym spot_is)
        (find_touched e.number e.touched spot.1 (uncut (cut_of e) o.blocks) ∙ ap (λ t. first_of_two t (find spot_cmp (e.number, spot.1) (uncut (cut_of e) o.blocks))) (untouched here))

    by : (b : Bool) → nat_eq spot.0 e.number ≡ b → find spot_cmp spot (staged o e).blocks ≡ find spot_cmp spot (uncut (cut_of e) o.blocks)
    by true is = own (eqb-true _ _ is)
    by false is = find_elsewhere e.number e.touched spot (uncut (cut_of e) o.blocks) is
