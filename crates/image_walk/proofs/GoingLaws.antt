-- One part of a walk after the other.
use Rattle.std.proofs.Common.{◌≡◌, ℕ, List, [], ◌∷◌, ◌++◌, refl, sym, ap, subst, ◌∙◌}
use Rattle.std.specs.Prelude.{Option, Some, None, Result, Ok, Err}
use Rattle.std.specs.Result.{IsErrAnd}
use Rattle.std.proofs.lemmas.List.{append_assoc, append-nil}
use Rattle.vol_numbers.specs.Layout.{Layout}
use Rattle.image_model.specs.Met.{Met}
use Rattle.image_model.specs.Findings.{◌then◌, met_finding, walk_finding, reached_with}
use Rattle.image_model.specs.declared.finding.Finding.{Finding}
use Rattle.image_walk.specs.declared.fault.WalkFault.{WalkFault}
use Rattle.image_walk.specs.declared.fault.WalkFault.TheVariants.{Found, Device, OutOfMemory}
use Rattle.image_walk.specs.declared.marks.Mark.{Mark}
use Rattle.image_walk.specs.Marks.{SaysUpTo}
use Rattle.image_walk.specs.Cause.{HasWalkCause, IsOwn}
use Rattle.image_walk.specs.Going.{reached_after, Goes, EndsBy, Walks, Part}

then_assoc : (a b c : Option Finding) → (a then (b then c)) ≡ ((a then b) then c)
then_assoc None b c = refl
then_assoc (Some e) b c = refl

-- what is wrong with two parts
pub finding_append : (g : Layout) (reached : List ℕ) (xs ys : List Met) → walk_finding g reached (xs ++ ys) ≡ (walk_finding g reached xs then walk_finding g (reached_after reached xs) ys)
finding_append g reached [] ys = refl
finding_append g reached (x ∷ xs) ys =
    ap (λ (f : Option Finding). met_finding g reached x then f) (finding_append g (reached_with reached x) xs ys)
    ∙ then_assoc (met_finding g reached x) (walk_finding g (reached_with reached x) xs) (walk_finding g (reached_after (reached_with reached x) xs) ys)

pub reached_append : (reached : List ℕ) (xs ys : List Met) → reached_after reached (xs ++ ys) ≡ reached_after (reached_after reached xs) ys
reached_append reached [] ys = refl
reached_append reached (x ∷ xs) ys = reached_append (reached_with reached x) xs ys

-- what is wrong with a second part, where nothing is with the first
second_part : (g : Layout) (before xs ys : List Met) → walk_finding g (reached_after [] before) xs ≡ None
    → walk_finding g (reached_after [] before) (xs ++ ys) ≡ walk_finding g (reached_after [] (before ++ xs)) ys
second_part g before xs ys none =
    finding_append g (reached_after [] before) xs ys
    ∙ (ap (λ (f : Option Finding). f then walk_finding g (reached_after (reached_after [] before) xs) ys) none
    ∙ ap (λ (r : List ℕ). walk_finding g r ys) (sym (reached_append [] before xs)))

pub goes_none : (g : Layout) (a : List Mark) → Goes g a a []
goes_none g a = record { long = refl; says = λ before s. subst (SaysUpTo a) (sym (append-nil before)) s; fine = λ before s. refl }

pub goes_then : (g : Layout) (a b c : List Mark) (xs ys : List Met) → Goes g a b xs → Goes g b c ys → Goes g a c (xs ++ ys)
goes_then g a b c xs ys first second = record {
  long = second.long ∙ first.long;
  says = λ before s. subst (SaysUpTo c) (append_assoc before xs ys) (second.says (before ++ xs) (first.says before s));
  fine = λ before s. second_part g before xs ys (first.fine before s) ∙ second.fine (before ++ xs) (first.says before s);
}

pub ends_then : (g : Layout) (a b : List Mark) (xs ys : List Met) (fault : WalkFault) → Goes g a b xs → EndsBy g b ys fault → EndsBy g a (xs ++ ys) fault
ends_then g a b xs ys (Found f) first ends = λ before s. second_part g before xs ys (first.fine before s) ∙ ends (before ++ xs) (first.says before s)
ends_then g a b xs ys Device first ends = tt
ends_then g a b xs ys OutOfMemory first ends = tt

pub ends_front : (g : Layout) (a : List Mark) (xs ys : List Met) (fault : WalkFault) → EndsBy g a xs fault → EndsBy g a (xs ++ ys) fault
ends_front g a xs ys (Found f) ends = λ before s.
    finding_append g (reached_after [] before) xs ys ∙ ap (λ (r : Option Finding). r then walk_finding g (reached_after (reached_after [] before) xs) ys) (ends before s)
ends_front g a xs ys Device ends = tt
ends_front g a xs ys OutOfMemory ends = tt

-- a fault that is passed on
pub walks_err : {T : Type 0} (g : Layout) (a b : List Mark) (ms : List Met) (r : Result T WalkFault) (fault : WalkFault) → IsErrAnd r (λ f. f ≡ fault) → EndsBy g a ms fault → Walks g a b ms r
walks_err g a b ms (Ok value) fault same ends = absurd same
walks_err g a b ms (Err f) fault same ends = subst (EndsBy g a ms) (sym same) ends

-- a fault of the device ends a walk over anything
pub walks_device : {T : Type 0} (g : Layout) (a b : List Mark) (ms : List Met) (r : Result T WalkFault) → IsErrAnd r (λ f. f ≡ Device) → Walks g a b ms r
walks_device g a b ms r same = walks_err g a b ms r Device same tt

-- a fault of memory or of the image that is passed on
pub cause_passed : {T : Type 0} (old now : ℕ) (r : Result T WalkFault) (fault : WalkFault) → now ≡ old → IsErrAnd r (λ f. f ≡ fault) → IsOwn fault → HasWalkCause old now r
cause_passed old now (Ok value) fault e same own = absurd same
cause_passed old now (Err (Found f)) fault e same own = e
cause_passed old now (Err Device) fault e same own = absurd (subst IsOwn (sym same) own)
cause_passed old now (Err OutOfMemory) fault e same own = e

-- ---- loops

pub part_start : (g : Layout) (a : List Mark) (whole : List Met) → Part g a a whole whole
part_start g a whole = record { front = []; split = refl; goes = goes_none g a }

pub part_next : (g : Layout) (a b c : List Mark) (whole rest one more : List Met) → Part g a b whole rest → rest ≡ one ++ more → Goes g b c one → Part g a c whole more
part_next g a b c whole rest one more part e step = record {
  front = part.front ++ one;
  split = append_assoc part.front one more ∙ (ap (λ (ms : List Met). part.front ++ ms) (sym e) ∙ part.split);
  goes = goes_then g a b c part.front one part.goes step;
}

pub part_end : (g : Layout) (a b : List Mark) (whole rest : List Met) → Part g a b whole rest → rest ≡ [] → Goes g a b whole
part_end g a b whole rest part e =
    subst (Goes g a b) (sym (append-nil part.front) ∙ (ap (λ (ms : List Met). part.front ++ ms) (sym e) ∙ part.split)) part.goes

pub part_ends : (g : Layout) (a b : List Mark) (whole rest one more : List Met) (fault : WalkFault) → Part g a b whole rest → rest ≡ one ++ more → EndsBy g b one fault → EndsBy g a whole fault
part_ends g a b whole rest one more fault part e ends =
    subst (λ (ms : List Met). EndsBy g a ms fault) (ap (λ (ms : List Met). part.front ++ ms) (sym e) ∙ part.split)
    (ends_then g a b part.front (one ++ more) fault part.goes (ends_front g b one more fault ends))
