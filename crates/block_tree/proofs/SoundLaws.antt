-- What is planned is in the grammar.
use Rattle.std.proofs.Common.{◌≡◌, ◌<◌, ◌⊎◌, ℕ, zero, suc, ◌/◌, ◌==◌, ◌%◌, List, [], ◌∷◌, ◌++◌, length, set, get_or, inl, refl, sym, subst, arith, ⊎_elim}
use Rattle.std.specs.Prelude.{All, slice_index}
use Rattle.std.proofs.lemmas.List.Elements.{All-push, All-head, All-tail, All-set, All-same, All-filter, All-from_get_or}
use Rattle.vol_numbers.specs.Layout.{Layout}
use Rattle.vol_numbers.specs.declared.runs.Change.{Change}
use Rattle.vol_numbers.specs.declared.runs.Page.{Page}
use Rattle.block_format.specs.Index.{IsPointer, index_bytes}
use Rattle.block_tree.specs.Edit.{portion, with_changes}
use Rattle.block_tree.specs.Notes.{Noted, AreSound}
use Rattle.block_tree.specs.Pages.{IsIndexPage, LeadInto}

pub sound_same : (g : Layout) (m n : Noted) → n.pages ≡ m.pages → n.free ≡ m.free → AreSound g m → AreSound g n
sound_same g m n pages free sound = record {
  pages = All-same (IsIndexPage g) n.pages m.pages pages sound.pages;
  free = All-same (IsPointer g) n.free m.free free sound.free;
}

-- a page more, in the lowest free block
pub sound_page : (g : Layout) (m : Noted) (page : Page) (ptrs left added dropped : List ℕ) → m.free ≡ page.at ∷ left → length ptrs ≡ 1024 → page.block.bytes ≡ index_bytes ptrs → All (IsPointer g) ptrs
    → AreSound g m → AreSound g (record { free = left; pages = m.pages ++ page ∷ []; added = added; dropped = dropped }) × IsPointer g page.at
sound_page g m page ptrs left added dropped lowest long spelled all sound =
    let free : All (IsPointer g) (page.at ∷ left) = All-same (IsPointer g) (page.at ∷ left) m.free (sym lowest) sound.free in
    let is : IsIndexPage g page = record { ptrs = ptrs; spells = record { count = long; each = all; spelled = spelled } } in (
      record { pages = All-push (IsIndexPage g) m.pages page sound.pages is; free = All-tail (IsPointer g) page.at left free },
      All-head (IsPointer g) page.at left free,
    )

-- pointers that a cut leaves, and changes put
pub pointers_cut : (g : Layout) (was ptrs : List ℕ) → length ptrs ≡ length was → ((i : ℕ) → i < length was → (slice_index ptrs i ≡ slice_index was i) ⊎ (slice_index ptrs i ≡ 0)) → All (IsPointer g) was → All (IsPointer g) ptrs
pointers_cut g was ptrs long each all = All-from_get_or (IsPointer g) ptrs 0 (λ i lt. ⊎_elim
    (λ kept. subst (λ (x : ℕ). IsPointer g x) (sym kept) (all i 0 (omega (arith, lt, long))))
    (λ gone. subst (λ (x : ℕ). IsPointer g x) (sym gone) (inl refl))
    (each i (omega (arith, lt, long))))

pub pointers_changed : (g : Layout) (cs : List Change) (ptrs : List ℕ) → LeadInto g cs → All (IsPointer g) ptrs → All (IsPointer g) (with_changes cs ptrs)
pointers_changed g [] ptrs lead all = all
pointers_changed g (c ∷ cs) ptrs lead all =
    pointers_changed g cs (set ptrs (c.place % 1024) c.block) (All-tail (λ (x : Change). IsPointer g x.block) c cs lead) (All-set (IsPointer g) ptrs (c.place % 1024) c.block (All-head (λ (x : Change). IsPointer g x.block) c cs lead) all)

-- the changes of a leaf
pub lead_portion : (g : Layout) (k : ℕ) (changes part : List Change) → part ≡ portion k changes → LeadInto g changes → LeadInto g part
lead_portion g k changes part is lead = All-same (λ (c : Change). IsPointer g c.block) part (portion k changes) is (All-filter (λ (c : Change). c.place / 1024 == k) (λ (c : Change). IsPointer g c.block) changes lead)

-- a list with another first element
pub all_first : (g : Layout) (xs : List ℕ) → length xs ≡ 1024 → IsPointer g (slice_index xs 0) → ((j : ℕ) → 0 < j → j < 1024 → IsPointer g (slice_index xs j)) → All (IsPointer g) xs
all_first g xs long first rest = All-from_get_or (IsPointer g) xs 0 each
  where
    each : (i : ℕ) → i < length xs → IsPointer g (get_or xs i 0)
    each zero lt = first
    each (suc i) lt = rest (suc i) (omega arith) (omega (arith, lt, long))
