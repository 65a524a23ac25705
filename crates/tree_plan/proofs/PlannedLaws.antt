-- What is planned of a directory, put together.
use Rattle.std.proofs.Common.{◌≡◌, ℕ, suc, ◌+◌, ◌*◌, ◌<◌, ◌≤◌, Bool, false, List, [], ◌∷◌, ◌++◌, length, map, refl, sym, ap, subst, ◌∙◌, arith, length-append}
use Rattle.std.specs.Prelude.{◌==◌, All, IsTrue, IfOk, Result, Ok, Err}
use Rattle.std.proofs.lemmas.Bool.Decides.{nat_tests}
use Rattle.std.proofs.lemmas.List.Elements.{All-nil, All-cons, All-head, All-tail}
use Rattle.vol_numbers.specs.Layout.{Layout}
use Rattle.vol_numbers.specs.declared.block.Block.{Block}
use Rattle.vol_numbers.specs.declared.runs.Change.{Change}
use Rattle.vol_numbers.specs.declared.runs.Page.{Page}
use Rattle.block_format.specs.Index.{IsPointer}
use Rattle.block_format.specs.Inode.{pointer_of, blocks_of}
use Rattle.block_format.specs.declared.inode.Inode.{Inode}
use Rattle.block_format.specs.declared.inode.Inode.TheVariants.{Directory}
use Rattle.block_format.specs.declared.slot.Slot.{Slot}
use Rattle.block_tree.specs.Notes.{Stand, page_blocks, change_blocks}
use Rattle.block_tree.specs.Pages.{LeadInto}
use Rattle.block_tree.specs.Tree.{Blocks, blocks_in}
use Rattle.block_tree.specs.declared.fault.TreeFault.{TreeFault}
use Rattle.block_tree.proofs.Rise.{places_in}
use Rattle.dir_slots.specs.Pages.{pages_for}
use Rattle.dirty_store.specs.Overlay.{Overlay, node_of, least_cut}
use Rattle.image_model.specs.Planned.{height_in}
use Rattle.place_words.specs.Rising.{Rising, AllUnder}
use Rattle.point_model.specs.Holding.{inode_before}
use Rattle.point_model.specs.NodePlan.{node_pointers, TreeIsPlanned, PointersArePlanned, PagesArePlanned}
use Rattle.point_model.specs.PointPlan.{NodeIsPlanned}
use Rattle.volume_model.specs.Machine.{Machine}
use Rattle.volume_model.specs.Places.{Places}
use Rattle.tree_plan.specs.Directories.{HoldsDirectory}
use Rattle.tree_plan.specs.Pages.{written_pages, width_with, SpellsPage, AreSpelled, AreApart}
use Rattle.tree_plan.specs.Trees.{Carries, EndsAt}
use Rattle.tree_plan.specs.declared.plan.TreePlan.{TreePlan}
use Rattle.tree_plan.proofs.DirectoryLaws.{empty_directory_pointers, no_pages, pages_planned}
use Rattle.tree_plan.proofs.SpelledLaws.{pairs_of, spelled_places, spelled_blocks, spelled_some}
use Rattle.tree_plan.proofs.TreeLaws.{AllSome, empty_planned}

-- ---- pages that stand

pub stand_rest : (xs ys : List Page) (read : Blocks) → Stand (xs ++ ys) read → Stand ys read
stand_rest [] ys read stand = stand
stand_rest (x ∷ xs) ys read stand = stand_rest xs ys read (record { each = All-tail (λ (p : Page). read p.at ≡ p.block.bytes) x (xs ++ ys) stand.each })

pub stand_front : (xs ys : List Page) (read : Blocks) → Stand (xs ++ ys) read → Stand xs read
stand_front xs ys read stand = record { each = go xs stand.each }
  where
    go : (xs : List Page) → All (λ (p : Page). read p.at ≡ p.block.bytes) (xs ++ ys) → All (λ (p : Page). read p.at ≡ p.block.bytes) xs
    go [] all = All-nil (λ (p : Page). read p.at ≡ p.block.bytes)
    go (x ∷ xs) all = All-cons (λ (p : Page). read p.at ≡ p.block.bytes) x xs (All-head (λ (p : Page). read p.at ≡ p.block.bytes) x (xs ++ ys) all) (go xs (All-tail (λ (p : Page). read p.at ≡ p.block.bytes) x (xs ++ ys) all))

-- ---- blocks that lead into the area

pub all_front : (P : ℕ → Type 0) (xs ys : List ℕ) → All P (xs ++ ys) → All P xs
all_front P [] ys all = All-nil P
all_front P (x ∷ xs) ys all = All-cons P x xs (All-head P x (xs ++ ys) all) (all_front P xs ys (All-tail P x (xs ++ ys) all))

pub all_behind : (P : ℕ → Type 0) (xs ys : List ℕ) → All P (xs ++ ys) → All P ys
all_behind P [] ys all = all
all_behind P (x ∷ xs) ys all = all_behind P xs ys (All-tail P x (xs ++ ys) all)

pub lead_into : (g : Layout) (cs : List Change) → All (IsPointer g) (change_blocks cs) → LeadInto g cs
lead_into g [] all = All-nil (λ (c : Change). IsPointer g c.block)
lead_into g (c ∷ cs) all = All-cons (λ (c : Change). IsPointer g c.block) c cs (All-head (IsPointer g) c.block (change_blocks cs) all) (lead_into g cs (All-tail (IsPointer g) c.block (change_blocks cs) all))

-- ---- changes that are apart

places_of : (cs : List Change) → places_in (pairs_of cs) ≡ map (λ (c : Change). c.place) cs
places_of [] = refl
places_of (c ∷ cs) = ap (λ (l : List ℕ). c.place ∷ l) (places_of cs)

pub apart_rising : (limit : ℕ) (cs : List Change) → AreApart limit cs → Rising 0 (places_in (pairs_of cs))
apart_rising limit cs apart = subst (Rising 0) (sym (places_of cs)) apart.rising

pub apart_under : (limit : ℕ) (cs : List Change) → AreApart limit cs → AllUnder limit (places_in (pairs_of cs))
apart_under limit cs apart = subst (AllUnder limit) (sym (places_of cs)) apart.under

pub apart_some : (limit : ℕ) (cs : List Change) → AreApart limit cs → AllSome (pairs_of cs)
apart_some limit cs apart = go cs apart.some
  where
    positive : (a : ℕ) → 0 < a → (a == 0) ≡ false
    positive a lt = grind (arith, nat_tests)

    go : (cs : List Change) → All (λ (c : Change). 0 < c.block) cs → AllSome (pairs_of cs)
    go [] all = tt
    go (c ∷ cs) all = (positive c.block (All-head (λ (c : Change). 0 < c.block) c cs all), go cs (All-tail (λ (c : Change). 0 < c.block) c cs all))

pub under_more : (limit more : ℕ) (xs : List ℕ) → limit ≤ more → AllUnder limit xs → AllUnder more xs
under_more limit more [] le up = tt
under_more limit more (x ∷ xs) le up = (omega (arith, up.0, le), under_more limit more xs le up.1)

module _ (Spells : ℕ → List ℕ → Type 0) (ps : List ℕ) (qs : List Page) (cs : List Change) (spelled : AreSpelled Spells ps qs cs) where
  pub spelled_apart : (limit : ℕ) → Rising 0 ps → AllUnder limit ps → AreApart limit cs
  spelled_apart limit rising under = record {
    rising = subst (Rising 0) places rising;
    under = subst (AllUnder limit) places under;
    some = go cs (spelled_some Spells ps qs cs spelled);
  }
    where
      places : ps ≡ map (λ (c : Change). c.place) cs
      places = sym (spelled_places Spells ps qs cs spelled) ∙ places_of cs

      positive : (a : ℕ) → (a == 0) ≡ false → 0 < a
      positive a is = grind (arith, nat_tests)

      go : (cs : List Change) → AllSome (pairs_of cs) → All (λ (c : Change). 0 < c.block) cs
      go [] some = All-nil (λ (c : Change). 0 < c.block)
      go (c ∷ cs) some = All-cons (λ (c : Change). 0 < c.block) c cs (positive c.block some.0) (go cs some.1)

  pub spelled_left : (free left : List ℕ) → page_blocks qs ++ left ≡ free → length free ≡ length ps + length left
  spelled_left free left is =
      omega (arith, ap (λ (l : List ℕ). length l) is, length-append (page_blocks qs) left, ap (λ (l : List ℕ). length l) (spelled_blocks Spells ps qs cs spelled), ap (λ (l : List ℕ). length l) (spelled_places Spells ps qs cs spelled), many cs)
    where
      many : (cs : List Change) → length (places_in (pairs_of cs)) ≡ length (change_blocks cs)
      many [] = refl
      many (c ∷ cs) = ap suc (many cs)

-- ---- all of it

node_planned : (old new : List Block) (o : Overlay) (m : Machine) (placed : Places) (n width height ptr : ℕ) (was : Inode) (changes : List Change) (added dropped taken : List ℕ) → was ≡ inode_before old n
    → TreeIsPlanned old new was (Directory width height ptr) (least_cut (node_of o n)) changes → PointersArePlanned old new n was (Directory width height ptr) added dropped taken
    → PagesArePlanned old new o n was (Directory width height ptr) → NodeIsPlanned old new o m placed n (Directory width height ptr) added dropped taken
node_planned old new o m placed n width height ptr was changes added dropped taken before tree pointers pages = record {
  changes = changes;
  tree = subst (λ (x : Inode). TreeIsPlanned old new x (Directory width height ptr) (least_cut (node_of o n)) changes) before tree;
  pointers = subst (λ (x : Inode). PointersArePlanned old new n x (Directory width height ptr) added dropped taken) before pointers;
  content = subst (λ (x : Inode). PagesArePlanned old new o n x (Directory width height ptr)) before pages;
}

pub directory_planned : (old new : List Block) (o : Overlay) (m : Machine) (placed : Places) (n width cut : ℕ) (was is : Inode) (left : List Slot) (changes : List Change) (pages : List Page) (added dropped taken : List ℕ)
    → HoldsDirectory old o n was left → pages_for (width_with left o n) ≤ 4096 → cut ≡ least_cut (node_of o n) → is ≡ Directory width (height_in is) (pointer_of is)
    → AreSpelled (SpellsPage left o n) (written_pages left o n) pages changes → Stand pages (blocks_in new)
    → TreeIsPlanned old new was is cut changes → PointersArePlanned old new n was is added dropped taken → NodeIsPlanned old new o m placed n is added dropped taken
directory_planned old new o m placed n width cut was is left changes pages added dropped taken holds few same inode spelled stand tree pointers =
    subst (λ (x : Inode). NodeIsPlanned old new o m placed n x added dropped taken) (sym inode)
    (node_planned old new o m placed n width (height_in is) (pointer_of is) was changes added dropped taken holds.before
    (subst (λ (x : Inode). TreeIsPlanned old new was x (least_cut (node_of o n)) changes) inode planned)
    (subst (λ (x : Inode). PointersArePlanned old new n was x added dropped taken) inode pointers)
    (subst (λ (x : Inode). PagesArePlanned old new o n was x) inode (pages_planned old new o n was is left holds few changes pages spelled stand planned.map)))
  where
    planned : TreeIsPlanned old new was is (least_cut (node_of o n)) changes
    planned = subst (λ (k : ℕ). TreeIsPlanned old new was is k changes) same tree

pub empty_directory : (tells : Bool) (old : List Block) (o : Overlay) (n width : ℕ) (was : Inode) (left : List Slot) → width ≡ 0 → width ≡ width_with left o n
    → (r : Result TreePlan TreeFault) → IfOk r (λ p. p.inode ≡ Directory width 0 0) → IfOk r (λ p. (p.pages ≡ []) × (p.added ≡ [])) → IfOk r (λ p. IsTrue tells → p.dropped ≡ node_pointers old was)
    → IfOk r (λ p. IsTrue tells → HoldsDirectory old o n was left → (new : List Block) → Carries old new was p.pages → (m : Machine) (placed : Places) → NodeIsPlanned old new o m placed n p.inode p.added p.dropped (page_blocks p.pages))
empty_directory tells old o n width was left none same (Ok p) inode nothing gone = λ told holds new carries m placed.
    by holds new m placed (gone told)
  where
    by : HoldsDirectory old o n was left → (new : List Block) (m : Machine) (placed : Places) → p.dropped ≡ node_pointers old was → NodeIsPlanned old new o m placed n p.inode p.added p.dropped (page_blocks p.pages)
    by held new m placed dropped =
        subst (λ (qs : List Page). NodeIsPlanned old new o m placed n p.inode p.added p.dropped (page_blocks qs)) (sym nothing.0)
        (subst (λ (added : List ℕ). NodeIsPlanned old new o m placed n p.inode added p.dropped []) (sym nothing.1)
        (subst (λ (x : Inode). NodeIsPlanned old new o m placed n x [] p.dropped []) (sym inode)
        (node_planned old new o m placed n width 0 0 was [] [] p.dropped [] held.before tree
        (empty_directory_pointers old new n width was p.dropped dropped)
        (no_pages old new o n was (Directory width 0 0) left held.slots (sym same ∙ none)))))
      where
        tree : TreeIsPlanned old new was (Directory width 0 0) (least_cut (node_of o n)) []
        tree = empty_planned old new was (Directory width 0 0) (least_cut (node_of o n)) [] refl refl (omega (arith, none)) (All-nil (λ (c : Change). c.place < blocks_of (256 * width)))
            (subst (λ (w : ℕ). EndsAt old was (least_cut (node_of o n)) (blocks_of (256 * w))) (sym same) held.ends)
empty_directory tells old o n width was left none same (Err e) inode nothing gone = tt
