-- The finding of the first phase that has one is that of the image.
use Rattle.std.proofs.Common.{◌≡◌, ◌*◌, ℕ, List, [], Some, None, ap, ◌∙◌}
use Rattle.std.specs.Prelude.{Option}
use Rattle.vol_numbers.specs.Layout.{Layout, count_blocks}
use Rattle.vol_numbers.specs.declared.block.Block.{Block}
use Rattle.image_model.specs.declared.finding.Finding.{Finding}
use Rattle.image_model.specs.Findings.{◌then◌, walk_finding, mixed_finding, body_finding}
use Rattle.image_model.specs.Finds.{early_finding}
use Rattle.image_model.specs.Nodes.{tail_finding, directory_finding, tree_finding}
use Rattle.image_model.specs.Roots.{root_finding}
use Rattle.image_model.specs.Seen.{Seen, seen}
use Rattle.image_model.specs.Stands.{layout_in}

here : (a b : Option Finding) (f : Finding) → a ≡ Some f → (a then b) ≡ Some f
here a b f is = ap (λ (o : Option Finding). o then b) is

later : (a b c : Option Finding) → a ≡ None → b ≡ c → (a then b) ≡ c
later a b c none is = ap (λ (o : Option Finding). o then b) none ∙ is

module _ (image : List Block) where
  abbrev g : Layout
  g = layout_in image

  abbrev s : Seen
  s = seen image

  abbrev counted : ℕ
  counted = 1024 * count_blocks g

  module _ (f : Finding) where
    pub in_root : root_finding image ≡ Some f → early_finding image ≡ Some f
    in_root is = here (root_finding image) _ f is

    pub in_walk : root_finding image ≡ None → walk_finding g [] s.met ≡ Some f → early_finding image ≡ Some f
    unfolding body_finding
    in_walk root is = later _ _ _ root (here _ _ f is)

    pub in_mixed : root_finding image ≡ None → walk_finding g [] s.met ≡ None → mixed_finding s.met 0 g.blocks ≡ Some f → early_finding image ≡ Some f
    unfolding body_finding
    in_mixed root walk is = later _ _ _ root (later _ _ _ walk (here _ _ f is))

    pub in_tails : root_finding image ≡ None → walk_finding g [] s.met ≡ None → mixed_finding s.met 0 g.blocks ≡ None → tail_finding s ≡ Some f → early_finding image ≡ Some f
    unfolding body_finding
    in_tails root walk mixed is = later _ _ _ root (later _ _ _ walk (later _ _ _ mixed (here _ _ f is)))

    pub in_directories : root_finding image ≡ None → walk_finding g [] s.met ≡ None → mixed_finding s.met 0 g.blocks ≡ None → tail_finding s ≡ None → directory_finding s ≡ Some f → early_finding image ≡ Some f
    unfolding body_finding
    in_directories root walk mixed tails is = later _ _ _ root (later _ _ _ walk (later _ _ _ mixed (later _ _ _ tails (here _ _ f is))))

    pub in_tree : root_finding image ≡ None → walk_finding g [] s.met ≡ None → mixed_finding s.met 0 g.blocks ≡ None → tail_finding s ≡ None → directory_finding s ≡ None → tree_finding s ≡ Some f
        → early_finding image ≡ Some f
    unfolding body_finding
    in_tree root walk mixed tails directories is = later _ _ _ root (later _ _ _ walk (later _ _ _ mixed (later _ _ _ tails (later _ _ _ directories (here _ _ f is)))))
