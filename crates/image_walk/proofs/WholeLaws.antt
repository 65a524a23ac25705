-- The walk as a whole.
use Rattle.std.proofs.Common.{◌≡◌, ℕ, ◌+◌, ◌^◌, ◌<◌, Bool, true, false, cond, List, [], ◌∷◌, ◌++◌, refl, sym, ap, subst, ◌∙◌, arith}
use Rattle.std.specs.Prelude.{◌==◌, ◌&&◌, Result, Ok, Err}
use Rattle.std.specs.Result.{IsErrAnd}
use Rattle.std.specs.List.{flat_map, list_any}
use Rattle.std.proofs.lemmas.List.{append-nil}
use Rattle.std.proofs.lemmas.List.Concat.{flat_map-cons}
use Rattle.vol_numbers.specs.Layout.{Layout}
use Rattle.block_format.specs.Inode.{inode_in, pointer_of}
use Rattle.block_format.specs.declared.inode.Inode.{Inode}
use Rattle.block_tree.specs.Tree.{Blocks, index_at}
use Rattle.image_model.specs.Met.{Met, index, not_inode, stray, pointers_to}
use Rattle.image_model.specs.Walk.{met_at, entries_met, is_used, is_directory, is_good, is_pointer_wrong, bad_met, block_met, blocks_met, inodes_from, root_met, node_met, nodes_at, walk}
use Rattle.image_walk.specs.declared.fault.WalkFault.{WalkFault}
use Rattle.image_walk.specs.declared.fault.WalkFault.TheVariants.{Found, Device, OutOfMemory}
use Rattle.image_walk.specs.declared.marks.Mark.{Mark}
use Rattle.image_walk.specs.declared.reached.Reached.{Reached}
use Rattle.image_walk.specs.Marks.{Says, SaysUpTo}
use Rattle.image_walk.specs.Going.{Goes, EndsBy}
use Rattle.image_walk.specs.Kept.{pages_of, all_lasts}
use Rattle.image_walk.specs.Trees.{Passes, PassesOver}
use Rattle.image_walk.specs.Walked.{IsFinding}
use Rattle.image_walk.proofs.GoingLaws.{goes_none, ends_then, ends_front}
use Rattle.image_walk.proofs.TreeLaws.{pages_append, passes_then}
use Rattle.image_walk.proofs.NodeLaws.{no_pages_at}

none_two : {X : Type 0} (xs ys : List X) → xs ≡ [] → ys ≡ [] → xs ++ ys ≡ []
none_two xs ys a b = λ i. a i ++ b i

-- ---- no pages but those of nodes

no_pages_entries : (es : List ℕ) → pages_of (entries_met es) ≡ []
no_pages_entries [] = refl
no_pages_entries (e ∷ es) = pages_append (met_at index true e) (entries_met es) ∙ none_two _ _ (no_pages_at (e == 0) true e) (no_pages_entries es)

no_pages_bad : (t u : Bool) (n p : ℕ) → pages_of (cond t [] (cond u (stray n p ∷ []) (not_inode n ∷ []))) ≡ []
no_pages_bad true u n p = refl
no_pages_bad false true n p = refl
no_pages_bad false false n p = refl

no_pages_inodes : (inodes : List (ℕ × List ℕ)) → pages_of (flat_map bad_met inodes) ≡ []
no_pages_inodes [] = refl
no_pages_inodes ((n, bytes) ∷ inodes) =
    ap pages_of (flat_map-cons bad_met (n, bytes) inodes)
    ∙ (pages_append (bad_met (n, bytes)) (flat_map bad_met inodes) ∙ none_two _ _ (no_pages_bad (is_good (n, bytes)) (is_pointer_wrong (n, bytes)) n (pointer_of (inode_in bytes))) (no_pages_inodes inodes))

no_pages_if : (t : Bool) (n : ℕ) → pages_of (cond t [] (not_inode n ∷ [])) ≡ []
no_pages_if true n = refl
no_pages_if false n = refl

no_pages_block : (n : ℕ) (inodes : List (ℕ × List ℕ)) → pages_of (block_met n inodes) ≡ []
no_pages_block n inodes =
    pages_append (flat_map bad_met inodes) (cond (list_any (λ (x : ℕ × List ℕ). is_used (inode_in x.1)) inodes) [] (not_inode n ∷ []))
    ∙ none_two _ _ (no_pages_inodes inodes) (no_pages_if (list_any (λ (x : ℕ × List ℕ). is_used (inode_in x.1)) inodes) n)

no_pages_blocks : (read : Blocks) (n : ℕ) (es : List ℕ) → pages_of (blocks_met read n es) ≡ []
no_pages_blocks read n [] = refl
no_pages_blocks read n (e ∷ es) =
    pages_append (cond (e == 0) [] (block_met n (inodes_from 64 n (read e)))) (blocks_met read (n + 64) es) ∙ none_two _ _ (by (e == 0)) (no_pages_blocks read (n + 64) es)
  where
    by : (t : Bool) → pages_of (cond t [] (block_met n (inodes_from 64 n (read e)))) ≡ []
    by true = refl
    by false = no_pages_block n (inodes_from 64 n (read e))

-- ---- the root directory

pub goes_root : (g : Layout) (marks : List Mark) (nodes : List (ℕ × Inode)) → list_any (λ node. node.0 == 1 && is_directory node.1) nodes ≡ true → Goes g marks marks (root_met nodes)
goes_root g marks nodes is = subst (λ (t : Bool). Goes g marks marks (cond t [] (not_inode 1 ∷ []))) (sym is) (goes_none g marks)

-- ---- all parts

module _ (g : Layout) (read : Blocks) (at : ℕ) (es : List ℕ) (entries : index_at read at ≡ es) where
  abbrev front : List Met
  front = index at ∷ entries_met es

  -- the whole from its parts
  whole : (nodes : List (ℕ × Inode)) → nodes ≡ nodes_at read at → walk read at ≡ front ++ (blocks_met read 0 es ++ (root_met nodes ++ flat_map (node_met read) nodes))
  unfolding walk
  whole nodes are =
      ap (λ (xs : List ℕ). index at ∷ (entries_met xs ++ (blocks_met read 0 xs ++ (root_met (nodes_at read at) ++ flat_map (node_met read) (nodes_at read at))))) entries
      ∙ ap (λ (xs : List (ℕ × Inode)). index at ∷ (entries_met es ++ (blocks_met read 0 es ++ (root_met xs ++ flat_map (node_met read) xs)))) (sym are)

  pub index_ends : (marks : List Mark) (fault : WalkFault) → EndsBy g marks front fault → EndsBy g marks (walk read at) fault
  index_ends marks fault ends = subst (λ (ms : List Met). EndsBy g marks ms fault) (sym (whole (nodes_at read at) refl)) (ends_front g marks front _ fault ends)

  pub inodes_end : (marks now : List Mark) (fault : WalkFault) → Goes g marks now front → EndsBy g now (blocks_met read 0 es) fault → EndsBy g marks (walk read at) fault
  inodes_end marks now fault goes ends =
      subst (λ (ms : List Met). EndsBy g marks ms fault) (sym (whole (nodes_at read at) refl)) (ends_then g marks now front _ fault goes (ends_front g now (blocks_met read 0 es) _ fault ends))

  pub root_ends : (marks now : List Mark) (nodes : List (ℕ × Inode)) (fault : WalkFault) → nodes ≡ nodes_at read at → Goes g marks now front → Goes g now now (blocks_met read 0 es) → EndsBy g now (root_met nodes) fault → EndsBy g marks (walk read at) fault
  root_ends marks now nodes fault are goes inodes ends =
      subst (λ (ms : List Met). EndsBy g marks ms fault) (sym (whole nodes are))
      (ends_then g marks now front _ fault goes (ends_then g now now (blocks_met read 0 es) _ fault inodes (ends_front g now (root_met nodes) _ fault ends)))

  -- of index blocks and inode blocks no page is kept
  bare : (a m : Reached) (ms : List Met) → Goes g a.marks m.marks ms → m.pages ≡ a.pages → m.lasts ≡ a.lasts → pages_of ms ≡ [] → Passes g a m ms []
  bare a m ms goes pages lasts none = record {
    marks = goes;
    pages = ap (λ p. p.items) pages ∙ (sym (append-nil a.pages.items) ∙ ap (λ ps. a.pages.items ++ ps) (sym none));
    kept = ap (λ p. p.items) lasts ∙ sym (append-nil a.lasts.items);
  }

  pub parts_over : {T : Type 0} (a m c : Reached) (nodes : List (ℕ × Inode)) (r : Result T WalkFault) → nodes ≡ nodes_at read at → Goes g a.marks m.marks front → m.pages ≡ a.pages → m.lasts ≡ a.lasts
      → Goes g m.marks m.marks (blocks_met read 0 es) → Goes g m.marks m.marks (root_met nodes) → PassesOver g m c (flat_map (node_met read) nodes) (all_lasts read nodes) r
      → PassesOver g a c (walk read at) (all_lasts read (nodes_at read at)) r
  parts_over a m c nodes (Ok value) are goes pages lasts inodes root trees =
      subst (λ (ms : List Met). Passes g a c ms (all_lasts read (nodes_at read at))) (sym (whole nodes are))
      (subst (λ (xs : List (ℕ × Inode)). Passes g a c (front ++ (blocks_met read 0 es ++ (root_met nodes ++ flat_map (node_met read) nodes))) (all_lasts read xs)) are
      (passes_then g a m c front _ [] (all_lasts read nodes) (bare a m front goes pages lasts (no_pages_entries es))
      (passes_then g m m c (blocks_met read 0 es) _ [] (all_lasts read nodes) (bare m m (blocks_met read 0 es) inodes refl refl (no_pages_blocks read 0 es))
      (passes_then g m m c (root_met nodes) _ [] (all_lasts read nodes) (bare m m (root_met nodes) root refl refl (no_pages_if (list_any (λ (node : ℕ × Inode). node.0 == 1 && is_directory node.1) nodes) 1)) trees))))
  parts_over a m c nodes (Err fault) are goes pages lasts inodes root trees =
      subst (λ (ms : List Met). EndsBy g a.marks ms fault) (sym (whole nodes are))
      (ends_then g a.marks m.marks front _ fault goes (ends_then g m.marks m.marks (blocks_met read 0 es) _ fault inodes (ends_then g m.marks m.marks (root_met nodes) (flat_map (node_met read) nodes) fault root trees)))

-- ---- from nothing on

pub found_first : {T : Type 0} (g : Layout) (marks : List Mark) (ms : List Met) (r : Result T WalkFault) (fault : WalkFault) → IsErrAnd r (λ f. f ≡ fault) → SaysUpTo marks [] → EndsBy g marks ms fault → IsFinding g ms r
found_first g marks ms (Ok value) fault same s ends = absurd same
found_first g marks ms (Err (Found f)) fault same s ends = let mine : EndsBy g marks ms (Found f) = subst (EndsBy g marks ms) (sym same) ends in mine [] s
found_first g marks ms (Err Device) fault same s ends = tt
found_first g marks ms (Err OutOfMemory) fault same s ends = tt

-- where no count has come to its end, each is exact
pub says_exact : (marks : List Mark) (ms : List Met) → ((b : ℕ) → pointers_to b ms < 2 ^ 32) → SaysUpTo marks ms → Says marks ms
says_exact marks ms few s = record { metadata = s.metadata; content = s.content; pointers = λ b. s.pointers b ∙ (let lt = few b in omega (arith, lt)) }
