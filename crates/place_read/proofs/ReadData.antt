-- The command `read` of a file.
use Rattle.std.proofs.Common.{◌≡◌, ℕ, List, length, take, drop, Some, sym, ap, ◌∙◌}
use Rattle.std.specs.Prelude.{Result, Ok}
use Rattle.place_read.specs.Laws.{ReadIsData}
use Rattle.state_laws.proofs.FilesNumbered.{file_bytes}
use Rattle.tree_model.specs.declared.node.Content.{Content}
use Rattle.tree_model.specs.declared.node.Content.TheVariants.{File}
use Rattle.tree_model.specs.declared.node.Node.{Node}
use Rattle.tree_model.specs.declared.refusal.Refusal.{Refusal}
use Rattle.tree_model.specs.declared.reply.Reply.TheVariants.{Data}
use Rattle.tree_model.specs.Step.{◌>>=◌, step, settled, bytes_of}
use Rattle.tree_model.specs.Tree.{node_at}
use Rattle.tree_model.proofs.Accepted.{walked}
use Rattle.volume_model.specs.Machine.{bytes_numbered}

pub read_is_data : ReadIsData
unfolding step
read_is_data tree path node bytes offset len is to file =
    let at : node_at tree path ≡ Some (record { number = node.number; content = File bytes }) = walked tree path node to ∙ ap (λ (c : Content). Some (record { number = node.number; content = c })) file in
    let told : bytes_numbered node.number tree ≡ bytes = file_bytes tree node.number bytes is (record { path = path; stands = at }) in (
      ap (λ (w : Result Node Refusal). (settled tree (w >>= (λ (n : Node). bytes_of n.content >>= (λ (bs : List ℕ). Ok (Data (take len (drop offset bs)), tree))))).0) to
          ∙ ap (λ (c : Content). (settled tree (bytes_of c >>= (λ (bs : List ℕ). Ok (Data (take len (drop offset bs)), tree)))).0) file
          ∙ ap (λ (bs : List ℕ). Data (take len (drop offset bs))) (sym told),
      ap length told,
    )
