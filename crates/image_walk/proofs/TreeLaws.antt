-- One part of a walk over the blocks of nodes after the other.
use Rattle.std.proofs.Common.{◌≡◌, ℕ, List, [], ◌∷◌, ◌++◌, refl, sym, ap, subst, ◌∙◌}
use Rattle.std.specs.Prelude.{Result, Ok, Err}
use Rattle.std.specs.Result.{IsErrAnd}
use Rattle.std.proofs.lemmas.List.{append_assoc, append-nil}
use Rattle.vol_numbers.specs.Layout.{Layout}
use Rattle.image_model.specs.Met.{Met}
use Rattle.image_walk.specs.declared.fault.WalkFault.{WalkFault}
use Rattle.image_walk.specs.declared.fault.WalkFault.TheVariants.{Device}
use Rattle.image_walk.specs.declared.node_block.NodeBlock.{NodeBlock}
use Rattle.image_walk.specs.declared.reached.Reached.{Reached}
use Rattle.image_walk.specs.Going.{Goes, EndsBy}
use Rattle.image_walk.specs.Kept.{page_of, pages_of, last_of, lasts_of}
use Rattle.image_walk.specs.Trees.{Passes, PassesOver, Stretch}
use Rattle.image_walk.proofs.GoingLaws.{goes_none, goes_then, ends_then, ends_front}

pub pages_append : (xs ys : List Met) → pages_of (xs ++ ys) ≡ pages_of xs ++ pages_of ys
pages_append [] ys = refl
pages_append (x ∷ xs) ys = ap (λ (ps : List NodeBlock). page_of x ++ ps) (pages_append xs ys) ∙ sym (append_assoc (page_of x) (pages_of xs) (pages_of ys))

pub lasts_append : (blocks : ℕ) (xs ys : List Met) → lasts_of blocks (xs ++ ys) ≡ lasts_of blocks xs ++ lasts_of blocks ys
lasts_append blocks [] ys = refl
lasts_append blocks (x ∷ xs) ys = ap (λ (ls : List NodeBlock). last_of blocks x ++ ls) (lasts_append blocks xs ys) ∙ sym (append_assoc (last_of blocks x) (lasts_of blocks xs) (lasts_of blocks ys))

-- two lists that are added one after the other
added : {X : Type 0} (a b c xs ys : List X) → b ≡ a ++ xs → c ≡ b ++ ys → c ≡ a ++ (xs ++ ys)
added a b c xs ys first second = second ∙ (ap (λ (zs : List _). zs ++ ys) first ∙ append_assoc a xs ys)

pub passes_none : (g : Layout) (a : Reached) → Passes g a a [] []
passes_none g a = record { marks = goes_none g a.marks; pages = sym (append-nil a.pages.items); kept = sym (append-nil a.lasts.items) }

pub passes_then : (g : Layout) (a b c : Reached) (xs ys : List Met) (ks ls : List NodeBlock) → Passes g a b xs ks → Passes g b c ys ls → Passes g a c (xs ++ ys) (ks ++ ls)
passes_then g a b c xs ys ks ls first second = record {
  marks = goes_then g a.marks b.marks c.marks xs ys first.marks second.marks;
  pages = added a.pages.items b.pages.items c.pages.items (pages_of xs) (pages_of ys) first.pages second.pages ∙ ap (λ (ps : List NodeBlock). a.pages.items ++ ps) (sym (pages_append xs ys));
  kept = added a.lasts.items b.lasts.items c.lasts.items ks ls first.kept second.kept;
}

-- an owner's
pub owner_then : (g : Layout) (a b c : Reached) (blocks : ℕ) (xs ys : List Met) → Passes g a b xs (lasts_of blocks xs) → Passes g b c ys (lasts_of blocks ys) → Passes g a c (xs ++ ys) (lasts_of blocks (xs ++ ys))
owner_then g a b c blocks xs ys first second =
    subst (Passes g a c (xs ++ ys)) (sym (lasts_append blocks xs ys)) (passes_then g a b c xs ys (lasts_of blocks xs) (lasts_of blocks ys) first second)

-- of index blocks alone, of which nothing but the marks is kept
pub passes_marks : (g : Layout) (a b : Reached) (blocks : ℕ) (xs : List Met) → Goes g a.marks b.marks xs → b.pages ≡ a.pages → b.lasts ≡ a.lasts → pages_of xs ≡ [] → lasts_of blocks xs ≡ [] → Passes g a b xs (lasts_of blocks xs)
passes_marks g a b blocks xs goes pages lasts no_pages no_lasts = record {
  marks = goes;
  pages = ap (λ p. p.items) pages ∙ (sym (append-nil a.pages.items) ∙ ap (λ (ps : List NodeBlock). a.pages.items ++ ps) (sym no_pages));
  kept = ap (λ p. p.items) lasts ∙ (sym (append-nil a.lasts.items) ∙ ap (λ (ls : List NodeBlock). a.lasts.items ++ ls) (sym no_lasts));
}

pub passes_err : {T : Type 0} (g : Layout) (a b : Reached) (ms : List Met) (ls : List NodeBlock) (r : Result T WalkFault) (fault : WalkFault) → IsErrAnd r (λ f. f ≡ fault) → EndsBy g a.marks ms fault → PassesOver g a b ms ls r
passes_err g a b ms ls (Ok value) fault same ends = absurd same
passes_err g a b ms ls (Err f) fault same ends = subst (EndsBy g a.marks ms) (sym same) ends

pub passes_device : {T : Type 0} (g : Layout) (a b : Reached) (ms : List Met) (ls : List NodeBlock) (r : Result T WalkFault) → IsErrAnd r (λ f. f ≡ Device) → PassesOver g a b ms ls r
passes_device g a b ms ls r same = passes_err g a b ms ls r Device same tt

-- behind what went well
pub over_then : {T : Type 0} (g : Layout) (a b c : Reached) (blocks : ℕ) (xs ys : List Met) (r : Result T WalkFault) → Passes g a b xs (lasts_of blocks xs)
    → PassesOver g b c ys (lasts_of blocks ys) r → PassesOver g a c (xs ++ ys) (lasts_of blocks (xs ++ ys)) r
over_then g a b c blocks xs ys (Ok value) first second = owner_then g a b c blocks xs ys first second
over_then g a b c blocks xs ys (Err fault) first second = ends_then g a.marks b.marks xs ys fault first.marks second

-- ---- loops

pub stretch_start : (g : Layout) (a : Reached) (whole : List Met) (all : List NodeBlock) → Stretch g a a whole whole all all
stretch_start g a whole all = record { front = []; lasts = []; split = refl; parted = refl; passes = passes_none g a }

pub stretch_next : (g : Layout) (a b c : Reached) (whole rest one more : List Met) (all left ls later : List NodeBlock) → Stretch g a b whole rest all left
    → rest ≡ one ++ more → left ≡ ls ++ later → Passes g b c one ls → Stretch g a c whole more all later
stretch_next g a b c whole rest one more all left ls later part e k step = record {
  front = part.front ++ one;
  lasts = part.lasts ++ ls;
  split = append_assoc part.front one more ∙ (ap (λ (ms : List Met). part.front ++ ms) (sym e) ∙ part.split);
  parted = append_assoc part.lasts ls later ∙ (ap (λ (ms : List NodeBlock). part.lasts ++ ms) (sym k) ∙ part.parted);
  passes = passes_then g a b c part.front one part.lasts ls part.passes step;
}

pub stretch_end : (g : Layout) (a b : Reached) (whole rest : List Met) (all left : List NodeBlock) → Stretch g a b whole rest all left → rest ≡ [] → left ≡ [] → Passes g a b whole all
stretch_end g a b whole rest all left part e k =
    subst (λ (ms : List Met). Passes g a b ms all) (sym (append-nil part.front) ∙ (ap (λ (ms : List Met). part.front ++ ms) (sym e) ∙ part.split))
    (subst (Passes g a b part.front) (sym (append-nil part.lasts) ∙ (ap (λ (ls : List NodeBlock). part.lasts ++ ls) (sym k) ∙ part.parted)) part.passes)

pub stretch_ends : (g : Layout) (a b : Reached) (whole rest one more : List Met) (all left : List NodeBlock) (fault : WalkFault) → Stretch g a b whole rest all left
    → rest ≡ one ++ more → EndsBy g b.marks one fault → EndsBy g a.marks whole fault
stretch_ends g a b whole rest one more all left fault part e ends =
    subst (λ (ms : List Met). EndsBy g a.marks ms fault) (ap (λ (ms : List Met). part.front ++ ms) (sym e) ∙ part.split)
    (ends_then g a.marks b.marks part.front (one ++ more) fault part.passes.marks (ends_front g b.marks one more fault ends))

-- an owner's
pub owner_next : (g : Layout) (a b c : Reached) (blocks : ℕ) (whole rest one more : List Met) → Stretch g a b whole rest (lasts_of blocks whole) (lasts_of blocks rest)
    → rest ≡ one ++ more → Passes g b c one (lasts_of blocks one) → Stretch g a c whole more (lasts_of blocks whole) (lasts_of blocks more)
owner_next g a b c blocks whole rest one more part e step =
    stretch_next g a b c whole rest one more (lasts_of blocks whole) (lasts_of blocks rest) (lasts_of blocks one) (lasts_of blocks more) part e (ap (lasts_of blocks) e ∙ lasts_append blocks one more) step

pub owner_end : (g : Layout) (a b : Reached) (blocks : ℕ) (whole rest : List Met) → Stretch g a b whole rest (lasts_of blocks whole) (lasts_of blocks rest) → rest ≡ [] → Passes g a b whole (lasts_of blocks whole)
owner_end g a b blocks whole rest part e = stretch_end g a b whole rest (lasts_of blocks whole) (lasts_of blocks rest) part e (ap (lasts_of blocks) e)
