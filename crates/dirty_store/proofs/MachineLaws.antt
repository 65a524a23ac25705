-- The dirty places of an overlay, and those of the volume's model.
use Rattle.std.proofs.Common.{◌≡◌, ℕ, Bool, true, false, cond, List, [], ◌∷◌, map, filter, refl, ap, ◌∙◌, arith}
use Rattle.std.specs.Prelude.{◌||◌, not, Option}
use Rattle.std.specs.declared.cmp.Ordering.{Ordering}
use Rattle.std.specs.declared.cmp.Ordering.TheVariants.{Less, Equal, Greater}
use Rattle.std.specs.FinMap.{put}
use Rattle.std.specs.FinMap.Entries as entries
use Rattle.std.proofs.lemmas.Bool.Decides.{nat_tests}
use Rattle.vol_numbers.specs.declared.block.Block.{Block}
use Rattle.tree_model.specs.declared.command.Command.{Command}
use Rattle.volume_model.specs.Places.{Spot, spot_cmp, spot_eq, has_spot, with_spot, with_spots, by_order}
use Rattle.volume_model.specs.Machine.{Machine}
use Rattle.volume_model.specs.Done.{Cut, is_cut, cut_by, done, all_done}
use Rattle.dirty_store.specs.declared.effect.Effect.{Effect}
use Rattle.dirty_store.specs.declared.effect.Touched.{Touched}
use Rattle.dirty_store.specs.Entries.{Entries, all_put, uncut}
use Rattle.dirty_store.specs.Overlay.{Overlay, touched_entries, cut_of, staged}
use Rattle.dirty_store.specs.Laws.{dirty_spots, IsEffectOf, AreEffectsOf, all_staged}

abbrev spots : Entries Block → List Spot
spots es = map (λ e. e.0) es

spots-put : (s : Spot) (block : Block) (es : Entries Block) → spots (put spot_cmp s block es) ≡ with_spot s (spots es)
spots-put s block [] = refl
spots-put s block (e ∷ es) = by (spot_cmp s e.0) (spots-put s block es)
  where
    by : (o : Ordering) → spots (put spot_cmp s block es) ≡ with_spot s (spots es)
        → spots (entries.by_order o ((s, block) ∷ e ∷ es) ((e.0, block) ∷ es) (e ∷ put spot_cmp s block es)) ≡ by_order o s e.0 (spots es) (with_spot s (spots es))
    by Less more = refl
    by Equal more = refl
    by Greater more = ap (λ (l : List Spot). e.0 ∷ l) more

spots-all_put : (n : ℕ) (ts : List Touched) (es : Entries Block) → spots (all_put (touched_entries n ts) es) ≡ with_spots (map (λ t. (n, t.place)) ts) (spots es)
spots-all_put n [] es = refl
spots-all_put n (t ∷ ts) es = spots-all_put n ts (put spot_cmp (n, t.place) t.block es) ∙ ap (with_spots (map (λ t. (n, t.place)) ts)) (spots-put (n, t.place) t.block es)

spots-uncut : (cut : Option Cut) (es : Entries Block) → spots (uncut cut es) ≡ filter (λ s. not (is_cut cut s)) (spots es)
spots-uncut cut [] = refl
spots-uncut cut (e ∷ es) = by (is_cut cut e.0) (spots-uncut cut es)
  where
    by : (b : Bool) → spots (uncut cut es) ≡ filter (λ s. not (is_cut cut s)) (spots es)
        → spots (cond (not b) (e ∷ uncut cut es) (uncut cut es)) ≡ cond (not b) (e.0 ∷ filter (λ s. not (is_cut cut s)) (spots es)) (filter (λ s. not (is_cut cut s)) (spots es))
    by true more = more
    by false more = ap (λ (l : List Spot). e.0 ∷ l) more

same_spot : (s : Spot) → spot_eq s s ≡ true
same_spot s = grind (arith, nat_tests)

or_true : (b : Bool) → (b || true) ≡ true
or_true true = refl
or_true false = refl

-- tests that agree on each of these keep the same of them
kept_alike : (p q : Spot → Bool) (ss : List Spot) → ((s : Spot) → has_spot ss s ≡ true → p s ≡ q s) → filter (λ s. not (p s)) ss ≡ filter (λ s. not (q s)) ss
kept_alike p q [] agree = refl
kept_alike p q (s ∷ ss) agree =
    let here = agree s (ap (λ b. b || has_spot ss s) (same_spot s)) in
    let rest = kept_alike p q ss (λ x among. agree x (ap (λ b. spot_eq s x || b) among ∙ or_true (spot_eq s x))) in
    λ i. cond (not (here i)) (s ∷ rest i) (rest i)

dirty_after : (m : Machine) (command : Command) (e : Effect) (o : Overlay) → dirty_spots o ≡ m.dirty → IsEffectOf m command e → dirty_spots (staged o e) ≡ (done m command).dirty
dirty_after m command e o is effect =
    spots-all_put e.number e.touched (uncut (cut_of e) o.blocks)
    ∙ ap (with_spots (map (λ t. (e.number, t.place)) e.touched)) (spots-uncut (cut_of e) o.blocks ∙ ap (filter (λ s. not (is_cut (cut_of e) s))) is ∙ kept_alike (is_cut (cut_of e)) (is_cut (cut_by m.tree command)) m.dirty effect.cuts)
    ∙ ap (λ new. with_spots new (filter (λ s. not (is_cut (cut_by m.tree command) s)) m.dirty)) effect.touches

pub dirty_after_all : (m : Machine) (commands : List Command) (effects : List Effect) (o : Overlay)
    → dirty_spots o ≡ m.dirty → AreEffectsOf m commands effects → dirty_spots (all_staged o effects) ≡ (all_done m commands).dirty
dirty_after_all m [] effects o is are = ap (λ es. dirty_spots (all_staged o es)) are ∙ is
dirty_after_all m (command ∷ commands) [] o is are = absurd are
dirty_after_all m (command ∷ commands) (e ∷ es) o is are = dirty_after_all (done m command) commands es (staged o e) (dirty_after m command e o is are.0) are.1
