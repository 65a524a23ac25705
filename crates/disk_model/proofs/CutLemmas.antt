-- Each image of a state comes by picks.
use Rattle.std.proofs.Common.{◌≡◌, ◌≢◌, ℕ, zero, suc, ◌<◌, Bool, true, false, List, [], ◌∷◌, length, refl, sym, ◌∙◌, ap, arith, Option, Some, None}
use Rattle.std.specs.Prelude.{slice_set, slice_get, if◌then◌else◌, ◌==◌, ◌||◌}
use Rattle.std.specs.List.{AllByRecursion}
use Rattle.std.proofs.lemmas.List.{length-set}
use Rattle.std.proofs.lemmas.List.Elements.{All-from_recursion}
use Rattle.std.proofs.lemmas.Option.{slice_get_within}
use Rattle.std.proofs.lemmas.Bool.{false≢true, eqb-true, eq-eqb}
use Rattle.std.proofs.Math.Bool.{or-true}
use Rattle.vol_numbers.specs.declared.block.Block.{Block}
use Rattle.disk_model.specs.Disk.{State, IsImage, is_among, picked}
use Rattle.disk_model.specs.Cuts.{EachImageIsPicked}
use Rattle.disk_model.specs.declared.pick.Pick.{Pick}
use Rattle.disk_model.proofs.Moments.{slice_get-set_other, slice_get-set_same}

-- lists that give the same at each number are one
same_gets : (xs ys : List Block) → ((k : ℕ) → slice_get xs k ≡ slice_get ys k) → xs ≡ ys
same_gets [] [] same = refl
same_gets [] (y ∷ ys) same = let e = same 0 in cc
same_gets (x ∷ xs) [] same = let e = same 0 in cc
same_gets (x ∷ xs) (y ∷ ys) same = let first = same 0 in let rest = same_gets xs ys (λ k. same (suc k)) in cc

abbrev pick_if : ℕ → Option Block → List Pick → List Pick
pick_if n None picks = picks
pick_if n (Some block) picks = record { at = n; block = block } ∷ picks

-- of each number the block in the image, where there is one
abbrev picks_of : List ℕ → List Block → List Pick
picks_of [] image = []
picks_of (n ∷ ns) image = pick_if n (slice_get image n) (picks_of ns image)

-- what the picks leave at k
abbrev left_at : List ℕ → List Block → List Block → ℕ → Option Block
left_at ns image blocks k = if is_among ns k then slice_get image k else slice_get blocks k

-- one number more
left_next : (among is : Bool) (there was now : Option Block) → (is ≡ true → now ≡ there) → (is ≡ false → now ≡ was)
    → (if among then there else now) ≡ (if is || among then there else was)
left_next true true there was now here other = refl
left_next true false there was now here other = refl
left_next false true there was now here other = here refl
left_next false false there was now here other = other refl

both_past : (xs ys : List Block) (n : ℕ) → length xs ≡ length ys → slice_get xs n ≡ None → slice_get ys n ≡ None
both_past xs [] n long none = refl
both_past [] (y ∷ ys) n long none = absurd (omega arith)
both_past (x ∷ xs) (y ∷ ys) zero long none = cc
both_past (x ∷ xs) (y ∷ ys) (suc n) long none = both_past xs ys n (omega arith) none

gets_next : (n : ℕ) (ns : List ℕ) (image blocks : List Block) (k : ℕ) (o : Option Block) → length image ≡ length blocks → slice_get image n ≡ o
    → ((bs : List Block) → length image ≡ length bs → slice_get (picked (picks_of ns image) bs) k ≡ left_at ns image bs k)
    → slice_get (picked (pick_if n o (picks_of ns image)) blocks) k ≡ left_at (n ∷ ns) image blocks k
gets_next n ns image blocks k None long e rest =
    rest blocks long ∙ left_next (is_among ns k) (k == n) (slice_get image k) (slice_get blocks k) (slice_get blocks k)
    (λ at. let same : k ≡ n = eqb-true k n at in
    let none : slice_get image k ≡ None = ap (λ (i : ℕ). slice_get image i) same ∙ e in
    both_past image blocks k long none ∙ sym none)
    (λ other. refl)
gets_next n ns image blocks k (Some block) long e rest =
    let within : n < length blocks = omega (arith, slice_get_within image n block e) in
    rest (slice_set blocks n block) (long ∙ sym (length-set blocks n block))
    ∙ left_next (is_among ns k) (k == n) (slice_get image k) (slice_get blocks k) (slice_get (slice_set blocks n block) k)
    (λ at. let same : k ≡ n = eqb-true k n at in
    ap (λ (i : ℕ). slice_get (slice_set blocks n block) i) same ∙ slice_get-set_same blocks n block within ∙ sym (ap (λ (i : ℕ). slice_get image i) same ∙ e))
    (λ other. let ne : k ≢ n = λ e. false≢true (sym other ∙ eq-eqb k n e) in slice_get-set_other blocks n k block ne)

gets_picked : (ns : List ℕ) (image blocks : List Block) (k : ℕ) → length image ≡ length blocks → slice_get (picked (picks_of ns image) blocks) k ≡ left_at ns image blocks k
gets_picked [] image blocks k long = refl
gets_picked (n ∷ ns) image blocks k long = gets_next n ns image blocks k (slice_get image n) long refl (λ bs same. gets_picked ns image bs k same)

open_next : (whole : List ℕ) (n : ℕ) (o : Option Block) (picks : List Pick) → is_among whole n ≡ true → AllByRecursion (λ (pick : Pick). is_among whole pick.at ≡ true) picks
    → AllByRecursion (λ (pick : Pick). is_among whole pick.at ≡ true) (pick_if n o picks)
open_next whole n None picks is rest = rest
open_next whole n (Some block) picks is rest = (is, rest)

picks_open : (whole ns : List ℕ) (image : List Block) → ((k : ℕ) → is_among ns k ≡ true → is_among whole k ≡ true) → AllByRecursion (λ (pick : Pick). is_among whole pick.at ≡ true) (picks_of ns image)
picks_open whole [] image among = tt
picks_open whole (n ∷ ns) image among =
    let here : is_among (n ∷ ns) n ≡ true = ap (λ (b : Bool). b || is_among ns n) (eq-eqb n n refl) in
    open_next whole n (slice_get image n) (picks_of ns image) (among n here)
    (picks_open whole ns image (λ k is. among k (ap (λ (b : Bool). k == n || b) is ∙ or-true (k == n))))

gets_image : (s : State) (image : List Block) → IsImage s image → (b : Bool) (k : ℕ) → is_among s.unsynced k ≡ b → (if b then slice_get image k else slice_get s.contents k) ≡ slice_get image k
gets_image s image is true k e = refl
gets_image s image is false k e = sym (is.agrees k e)

pub each_image_picked : EachImageIsPicked
each_image_picked s image is = (
  picks_of s.unsynced image,
  All-from_recursion (λ (pick : Pick). is_among s.unsynced pick.at ≡ true) _ (picks_open s.unsynced s.unsynced image (λ k e. e)),
  same_gets _ _ (λ k. gets_picked s.unsynced image s.contents k is.as_long ∙ gets_image s image is _ k refl),
)
