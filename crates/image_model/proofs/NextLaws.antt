-- One record more, and the places after a point.
use Rattle.std.proofs.Common.{◌≡◌, ℕ, ◌+◌, ◌≤◌, List, [], ◌∷◌, ◌++◌, refl, sym, subst, arith}
use Rattle.std.specs.FinMap.{put}
use Rattle.std.specs.FinMap.Entries.{is_sorted-put}
use Rattle.space_account.specs.Charge.{charge, need, pending}
use Rattle.tree_model.specs.Step.{step}
use Rattle.tree_model.specs.Tree.{Tree}
use Rattle.tree_model.specs.declared.command.Command.{Command}
use Rattle.tree_model.specs.declared.reply.Reply.TheVariants as reply
use Rattle.volume_model.specs.Accepted.{Accepts}
use Rattle.volume_model.specs.Done.{all_done, done, mounted}
use Rattle.volume_model.specs.Machine.{Machine, Stored, at_point}
use Rattle.volume_model.specs.Places.{Places, spot_cmp, InOrder, all_put}
use Rattle.volume_model.specs.Lines.{lines_places}
use Rattle.volume_model.specs.Point.{after_point, placed_at, fresh_spots, share_lines}
use Rattle.image_model.specs.Meanings.{AcceptedMore}
use Rattle.image_model.specs.Planning.{PointPlaces}
use Rattle.image_model.proofs.PlaceOrder.{places_in_order, same_places, spot_total, true_T, T_true}

-- the tree after these commands
tree_after : Tree → List Command → Tree
tree_after tree [] = tree
tree_after tree (command ∷ commands) = tree_after (step tree command).1 commands

all_done_tree : (m : Machine) (cs : List Command) → (all_done m cs).tree ≡ tree_after m.tree cs
unfolding tree_after
all_done_tree m [] = refl
all_done_tree m (c ∷ cs) = all_done_tree (done m c) cs

mounted_tree : (s : Stored) → (mounted s).tree ≡ tree_after s.tree s.records
mounted_tree s = all_done_tree (at_point s.layout s.tree s.places s.point []) s.records

accepts_more : (free : ℕ) (tree : Tree) (charged : ℕ) (cs : List Command) (c : Command) → Accepts free tree charged cs → (step (tree_after tree cs) c).0 ≡ reply.Done → charged + pending cs + need c ≤ free
    → Accepts free tree charged (cs ++ c ∷ [])
unfolding tree_after
accepts_more free tree charged [] c all done le = (done, omega (arith, le), tt)
accepts_more free tree charged (d ∷ cs) c all done le = (all.0, all.1, accepts_more free (step tree d).1 (charged + charge d) cs c all.2 done (omega (arith, le)))

accepts_last : (free : ℕ) (tree : Tree) (charged : ℕ) (cs : List Command) (c : Command) → Accepts free tree charged (cs ++ c ∷ []) → ((step (tree_after tree cs) c).0 ≡ reply.Done) × (charged + pending cs + need c ≤ free)
unfolding tree_after
accepts_last free tree charged [] c all = let le = all.1 in (all.0, omega (arith, le))
accepts_last free tree charged (d ∷ cs) c all = let last = accepts_last free (step tree d).1 (charged + charge d) cs c all.2 in (last.0, omega (arith, last.1))

accepts_front : (free : ℕ) (tree : Tree) (charged : ℕ) (cs ds : List Command) → Accepts free tree charged (cs ++ ds) → Accepts free tree charged cs
accepts_front free tree charged [] ds all = tt
accepts_front free tree charged (c ∷ cs) ds all = (all.0, all.1, accepts_front free (step tree c).1 (charged + charge c) cs ds all.2)

pub accepted_more : AcceptedMore
accepted_more = record {
  more = λ free s command all done le. accepts_more free s.tree 0 s.records command all (subst (λ (t : Tree). (step t command).0 ≡ reply.Done) (mounted_tree s) done) (omega (arith, le));
  last = λ free s command all.
      let last = accepts_last free s.tree 0 s.records command all in
      (subst (λ (t : Tree). (step t command).0 ≡ reply.Done) (sym (mounted_tree s)) last.0, omega (arith, last.1));
  front = λ free s command all. accepts_front free s.tree 0 s.records (command ∷ []) all;
}

-- ---- places

puts_in_order : (es placed : Places) → InOrder placed → InOrder (all_put es placed)
puts_in_order [] placed sorted = sorted
puts_in_order (e ∷ es) placed sorted = puts_in_order es (put spot_cmp e.0 e.1 placed) (T_true _ (is_sorted-put spot_cmp spot_total e.0 e.1 placed (true_T _ sorted)))

pub point_places : PointPlaces
point_places = record {
  in_order = sorted;
  seen = λ image r m fresh none kept same. same_places _ _ (places_in_order image none) (sorted r m fresh kept) same;
}
  where
    sorted : (r : _) (m : Machine) (fresh : List ℕ) → InOrder m.kept → InOrder (after_point r m fresh).stored_places
    sorted r m fresh kept =
        let shares = lines_places (share_lines r m) in
        puts_in_order (placed_at (fresh_spots m shares) fresh) (all_put shares m.kept) (puts_in_order shares m.kept kept)
