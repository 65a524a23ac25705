-- An image stands for something, or has one finding.
use Rattle.std.proofs.Common.{◌≡◌, ℕ, zero, suc, ◌+◌, ◌<◌, ◌≤◌, Bool, true, false, List, [], ◌∷◌, ◌++◌, length, Some, None, refl, sym, ap, ◌∙◌, arith, length-append, ⊎_elim, inl, inr}
use Rattle.std.specs.Prelude.{nat_lt, Option}
use Rattle.std.proofs.lemmas.Bool.Decides.{nat_tests}
use Rattle.vol_numbers.specs.declared.block.Block.{Block}
use Rattle.tree_model.specs.Tree.{Tree}
use Rattle.tree_model.specs.declared.command.Command.{Command}
use Rattle.op_log.specs.Log.{blocks_of}
use Rattle.volume_model.specs.Machine.{Stored}
use Rattle.image_model.specs.declared.finding.Finding.{Finding}
use Rattle.image_model.specs.declared.finding.Finding.TheVariants.{BadLog}
use Rattle.image_model.specs.Exact.{seen_stored, NoneFoundStands, StandingHasNone, OneFinding, StandsOrFinds}
use Rattle.image_model.specs.Findings.{◌then◌, body_finding}
use Rattle.image_model.specs.Finds.{early_finding, HasAccepted, IsBadLog, Finds, FindsInLog}
use Rattle.image_model.specs.Next.{and_command}
use Rattle.image_model.specs.Roots.{root_finding}
use Rattle.image_model.specs.Seen.{seen}
use Rattle.image_model.specs.Stands.{Stands, layout_in, records_in, used_in}
use Rattle.image_model.proofs.BodyExact.{none_found_early}
use Rattle.image_model.proofs.FindingLaws.{then_first, then_second}
use Rattle.image_model.proofs.LogExact.{next_of, records_same}
use Rattle.image_model.proofs.NameLaws.{none_found_sound}
use Rattle.image_model.proofs.RootExact.{root_none, roots_are_found}
use Rattle.image_model.proofs.TreeBuilt.{tree_exists}

pub none_found_stands : NoneFoundStands
none_found_stands image none =
    let root = (roots_are_found.none image).0 (then_first (root_finding image) _ none) in
    let sound = none_found_sound image (then_second (root_finding image) _ none) in
    let tree = tree_exists (seen image) sound.named in (
      tree.0,
      tree.1,
      tree.2,
      λ records logs. record { root = root.0; fits = root.1; layout = refl; sound = sound; shows = record { ordered = tree.1; tree = tree.2; places = refl }; logs = logs; point = refl },
    )

module _ (image : List Block) where
  -- where records are accepted, those before a bad one are no fewer
  none_behind : (i : ℕ) → IsBadLog image i → (s : Stored) → HasAccepted image s → length s.records ≤ records_in image → length s.records ≤ i
  none_behind i bad s good le = ⊎_elim
      (λ (open_end : (i < records_in image) × ((command : Command) → HasAccepted image (and_command bad.before command) → ⊥)). by (nat_lt i (length s.records)) refl open_end.1)
      (λ (full : (i ≡ records_in image) × (blocks_of bad.before.records < used_in image)). omega (arith, full.0, le))
      bad.bad
    where
      by : (t : Bool) → nat_lt i (length s.records) ≡ t → ((command : Command) → HasAccepted image (and_command bad.before command) → ⊥) → length s.records ≤ i
      by true is never =
          let lt : i < length s.records = grind (arith, nat_tests) in
          let next = next_of image bad.before s bad.good good (omega (arith, bad.count, lt)) in
          absurd (never next.0 next.1)
      by false is never = grind (arith, nat_tests)

  at_most : (i : ℕ) → IsBadLog image i → i ≤ records_in image
  at_most i bad = ⊎_elim
      (λ (open_end : (i < records_in image) × ((command : Command) → HasAccepted image (and_command bad.before command) → ⊥)). let lt = open_end.0 in omega (arith, lt))
      (λ (full : (i ≡ records_in image) × (blocks_of bad.before.records < used_in image)). omega (arith, full.0)) bad.bad

  same_index : (i j : ℕ) → IsBadLog image i → IsBadLog image j → i ≡ j
  same_index i j a b =
      omega (arith, none_behind i a b.before b.good (omega (arith, b.count, at_most j b)), none_behind j b a.before a.good (omega (arith, a.count, at_most i a)), a.count, b.count)

  in_log : (f : Finding) → FindsInLog image f → (i : ℕ) × (f ≡ BadLog i) × IsBadLog image i
  in_log (BadLog i) is = (i, refl, is)
  in_log other is = absurd is

  one_finding_of : (f g : Finding) → Finds image f → Finds image g → f ≡ g
  one_finding_of f g a b = ⊎_elim
      (λ (x : early_finding image ≡ Some f). ⊎_elim (λ (y : early_finding image ≡ Some g). some_same f g (sym x ∙ y)) (λ (y : (early_finding image ≡ None) × FindsInLog image g). none_some f (sym y.0 ∙ x)) b)
      (λ (x : (early_finding image ≡ None) × FindsInLog image f). ⊎_elim (λ (y : early_finding image ≡ Some g). none_some f (sym x.0 ∙ y)) (λ (y : (early_finding image ≡ None) × FindsInLog image g). by (in_log f x.1) (in_log g y.1)) b)
      a
    where
      some_same : (x y : Finding) → Some x ≡ Some y → x ≡ y
      some_same x y e = cc

      none_some : {x : Finding} (y : Finding) → None ≡ Some x → f ≡ g
      none_some y e = cc

      by : (i : ℕ) × (f ≡ BadLog i) × IsBadLog image i → (j : ℕ) × (g ≡ BadLog j) × IsBadLog image j → f ≡ g
      by x y = x.1 ∙ ap BadLog (same_index x.0 y.0 x.2 y.2) ∙ sym y.1

  -- ---- an image that stands

  module _ (s : Stored) (stands : Stands image s) where
    none_early : early_finding image ≡ None
    none_early = both (root_finding image) (body_finding (layout_in image) (seen image)) (root_none image stands.root stands.fits) (none_found_early image stands.sound)
      where
        both : (a b : Option Finding) → a ≡ None → b ≡ None → (a then b) ≡ None
        both None b e f = f
        both (Some x) b e f = cc

    good : HasAccepted image s
    good = record { shows = stands.shows; logged = stands.logs.logged; accepted = stands.logs.accepted }

    no_bad : (i : ℕ) → IsBadLog image i → ⊥
    no_bad i bad =
        let le = none_behind i bad s good (omega (arith, stands.logs.count)) in
        ⊎_elim
        (λ (open_end : (i < records_in image) × ((command : Command) → HasAccepted image (and_command bad.before command) → ⊥)). let lt = open_end.0 in omega (arith, lt, le, stands.logs.count))
        (λ (full : (i ≡ records_in image) × (blocks_of bad.before.records < used_in image)).
        let same = records_same image bad.before s bad.good good (bad.count ∙ full.0 ∙ sym stands.logs.count) in
        let lt = full.1 in
        omega (arith, lt, ap blocks_of same, stands.logs.filled))
        bad.bad

    none : (f : Finding) → Finds image f → ⊥
    none f finds = ⊎_elim (λ (x : early_finding image ≡ Some f). let e = none_early in cc) (λ (x : (early_finding image ≡ None) × FindsInLog image f). let at = in_log f x.1 in no_bad at.0 at.2) finds

  -- ---- an image for which neither holds

  module _ (none : (f : Finding) → Finds image f → ⊥) (nothing : (s : Stored) → Stands image s → ⊥) where
    early_none : early_finding image ≡ None
    early_none = by (early_finding image) refl
      where
        by : (o : Option Finding) → early_finding image ≡ o → early_finding image ≡ None
        by None is = is
        by (Some f) is = absurd (none f (inl is))

    abbrev tree : Tree
    tree = (none_found_stands image early_none).0

    abbrev with_records : List Command → Stored
    with_records records = seen_stored image tree records

    not_bad : (i : ℕ) → IsBadLog image i → ⊥
    not_bad i bad = none (BadLog i) (inr (early_none, bad))

    never : (left : ℕ) (records : List Command) → length records + left ≡ records_in image → HasAccepted image (with_records records) → ⊥
    never zero records count good =
        let all : length records ≡ records_in image = omega (arith, count) in
        by (nat_lt (blocks_of records) (used_in image)) refl
      where
        by : (t : Bool) → nat_lt (blocks_of records) (used_in image) ≡ t → ⊥
        by true is =
            let lt : blocks_of records < used_in image = grind (arith, nat_tests) in
            not_bad (length records) (record { before = with_records records; count = refl; good = good; bad = inr (omega (arith, count), lt) })
        by false is =
            let le : used_in image ≤ blocks_of records = grind (arith, nat_tests) in
            nothing (with_records records) ((none_found_stands image early_none).3 records (record { count = omega (arith, count); logged = good.logged; filled = omega (arith, le, good.logged.within); accepted = good.accepted }))
    never (suc left) records count good =
        not_bad (length records) (record {
          before = with_records records;
          count = refl;
          good = good;
          bad = inl (omega (arith, count), λ command next. never left (records ++ command ∷ []) (omega (arith, count, length-append records (command ∷ []))) next);
        })

    neither : ⊥
    neither = never (records_in image) [] (omega arith) (record {
      shows = record { ordered = (none_found_stands image early_none).1; tree = (none_found_stands image early_none).2; places = refl };
      logged = record { stand = tt; within = omega arith };
      accepted = tt;
    })

pub standing_has_none : StandingHasNone
standing_has_none = none

pub one_finding : OneFinding
one_finding = one_finding_of

pub stands_or_finds : StandsOrFinds
stands_or_finds = neither
