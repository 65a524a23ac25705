-- What a format leaves can be mounted.
use Rattle.std.proofs.Common.{◌≡◌, ℕ, Bool, true, false, cond, List, [], refl, ap, ◌∙◌, arith}
use Rattle.std.specs.Prelude.{nat_eq}
use Rattle.std.proofs.lemmas.List.Elements.{All-nil}
use Rattle.tree_model.specs.declared.command.Command.{Command}
use Rattle.tree_model.specs.Step.{is_change}
use Rattle.tree_model.specs.Tree.{new_tree}
use Rattle.tree_model.proofs.RenameLaws.{keeps_trees}
use Rattle.volume_model.specs.Machine.{bytes_numbered, block_at}
use Rattle.volume_model.specs.Places.{Spot}
use Rattle.state_laws.specs.Files.{zero_block}
use Rattle.state_laws.specs.Laws.{FreshIsMountable}
use Rattle.state_laws.proofs.Bytes.{block_of, past_end}

no_bytes : (n : ℕ) → bytes_numbered n new_tree ≡ []
no_bytes n = by (nat_eq 1 n)
  where
    by : (t : Bool) → ◌≡◌ {A = List ℕ} (cond t [] []) []
    by true = refl
    by false = refl

no_block : (spot : Spot) → block_at new_tree spot ≡ zero_block
no_block spot = ap (λ (bs : List ℕ). block_of bs spot.1) (no_bytes spot.0) ∙ past_end [] spot.1 (omega arith)

pub fresh_is_mountable : FreshIsMountable
fresh_is_mountable layout point = record {
  tree = keeps_trees.at_first;
  in_order = refl;
  in_files = λ spot e. cc;
  holes = λ spot e. no_block spot;
  same = λ a b block e f. cc;
  changes = All-nil (λ (c : Command). is_change c ≡ true);
  accepted = tt;
  fits = λ valid recorded. omega arith;
}
