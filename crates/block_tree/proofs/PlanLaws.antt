-- A plan from what was noted.
use Rattle.std.proofs.Common.{◌≡◌, ℕ, Bool, true, false, List, [], ◌∷◌, ◌++◌, refl, ap, sym, subst}
use Rattle.std.specs.Prelude.{All, ◌||◌, nat_eq}
use Rattle.std.proofs.lemmas.List.Elements.{All-nil}
use Rattle.vol_numbers.specs.Layout.{Layout}
use Rattle.vol_numbers.specs.declared.runs.Change.{Change}
use Rattle.block_format.specs.Index.{IsPointer}
use Rattle.place_words.specs.Different.{is_among}
use Rattle.block_tree.specs.Tree.{Blocks}
use Rattle.block_tree.specs.Notes.{Noted, Takes, Uses, AreSound, no_notes, notes_in, page_blocks}
use Rattle.block_tree.specs.Order.{IsSublist, InTurn}
use Rattle.block_tree.specs.Pages.{IsIndexPage}
use Rattle.block_tree.specs.Opened.{IsTreeRewritten}
use Rattle.block_tree.specs.declared.plan.Rewritten.{Rewritten}
use Rattle.block_tree.specs.declared.root.TreeRoot.{TreeRoot}

abbrev plan_of : TreeRoot → Noted → Rewritten
plan_of root n = record { root = root; pages = n.pages; added = n.added; dropped = n.dropped }

module _ {new : TreeRoot} {m n : Noted} (free left : List ℕ) (begun : m ≡ no_notes free) (w : Rewritten) (is : w ≡ plan_of new n) (ends : left ≡ n.free) where
  ended : notes_in w left ≡ n
  ended = λ t. notes_in (is t) (ends t)

  pub tree_planned : {read : Blocks} {root : TreeRoot} {changes : List Change} {cut : ℕ} → IsTreeRewritten read root changes cut new m n → IsTreeRewritten read root changes cut w.root (no_notes free) (notes_in w left)
  tree_planned {read = read} {root = root} {changes = changes} {cut = cut} tree =
      subst (λ (t : TreeRoot × Noted). IsTreeRewritten read root changes cut t.0 (no_notes free) t.1) (λ i. (sym (ap (λ (x : Rewritten). x.root) is) i, sym ended i))
      (subst (λ (y : Noted). IsTreeRewritten read root changes cut new y n) begun tree)

  pub order_planned : Takes m n → page_blocks w.pages ++ left ≡ free
  order_planned takes =
      subst (λ (y : Noted). page_blocks y.pages ++ y.free ≡ free) (sym ended) (subst (λ (y : Noted). page_blocks n.pages ++ n.free ≡ page_blocks y.pages ++ y.free) begun takes.in_order)

  pub uses_planned : {changes : List Change} → Uses changes m n → Uses changes (no_notes free) (notes_in w left)
  uses_planned {changes = changes} uses = subst (λ (y : Noted). Uses changes (no_notes free) y) (sym ended) (subst (λ (y : Noted). Uses changes y n) begun uses)

  pub sound_planned : (g : Layout) → AreSound g n × IsPointer g new.ptr → All (IsIndexPage g) w.pages × IsPointer g w.root.ptr
  sound_planned g sound = subst (λ (x : Rewritten). All (IsIndexPage g) x.pages × IsPointer g x.root.ptr) (sym is) (sound.0.pages, sound.1)

pub sound_begun : (m : Noted) (free : List ℕ) → m ≡ no_notes free → (g : Layout) → All (IsPointer g) free → AreSound g m
sound_begun m free begun g all = subst (λ (y : Noted). AreSound g y) (sym begun) (record { pages = All-nil (IsIndexPage g); free = all })

-- where nothing was noted before, the pages are those in turn
pub turn_begun : (turn free : List ℕ) (w : Rewritten) (left : List ℕ) → InTurn turn (no_notes free) (notes_in w left) → IsSublist (page_blocks w.pages) turn
turn_begun turn free w left is = subst (λ (v : List ℕ). IsSublist v turn) (sym is.noted) is.order

-- none of a list is among a part of it
pub apart_front : (xs ys : List ℕ) (b : ℕ) → is_among (xs ++ ys) b ≡ false → is_among xs b ≡ false
apart_front [] ys b none = refl
apart_front (x ∷ xs) ys b none = by_test (nat_eq x b) none (apart_front xs ys b)
  where
    by_test : (t : Bool) → (t || is_among (xs ++ ys) b) ≡ false → (is_among (xs ++ ys) b ≡ false → is_among xs b ≡ false) → (t || is_among xs b) ≡ false
    by_test true none rest = none
    by_test false none rest = rest none
