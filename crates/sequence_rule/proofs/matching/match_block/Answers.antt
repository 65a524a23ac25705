use Rattle.std.proofs.Common.{◌≡◌, ◌∙◌, ℕ, List, refl, sym, ap}
use Rattle.sha2.specs.Sha256.{sha256}
use Rattle.place_words.specs.Different.{is_among}
use Rattle.volume_model.specs.Cache.{cached_blocks, kin}
use Rattle.sequence_rule.specs.Matches.{holds, block_matches}
use Rattle.sequence_rule.proofs.Bytes.{kin_cached, kin_matches, joined, lies_below}
use Rattle.sequence_rule.proofs.matching.match_block.Goals as goal

pub holding-requires-clause-within : goal.holding-requires-clause-within
holding-requires-clause-within g c at e =
    let list = g.K.ContentCache.list c.args.cache.now in
    let print = sha256 c.args.block.now.bytes in
    let same : is_among c.as_slice.result.now at ≡ is_among (cached_blocks (kin list print)) at =
    ap (λ (ns : List ℕ). is_among ns at) c.as_slice.ensures.is ∙ c.candidates-kin.ensures at in
    lies_below _ list c.requires.blocks at (kin_cached print list at (sym same ∙ e))

pub returns-clause-row : goal.returns-clause-row
returns-clause-row g c =
    let list = g.K.ContentCache.list c.args.cache.now in
    let print = sha256 c.args.block.now.bytes in
    let contents = (g.D.Disk.state c.args.disk.now).contents in
    let same : (at : ℕ) → is_among c.as_slice.result.now at ≡ is_among (cached_blocks (kin list print)) at =
    λ at. ap (λ (ns : List ℕ). is_among ns at) c.as_slice.ensures.is ∙ c.candidates-kin.ensures at in
    record {
      place = refl;
      cached = λ at e. kin_cached print list at (sym (same at) ∙ c.in_ok-blocks.ensures.kin at e);
      matches = λ tells at. joined (is_among c.in_ok-blocks.blocks at) (is_among c.as_slice.result.now at) (is_among (cached_blocks (kin list print)) at) (holds contents at c.args.block.now)
          (block_matches list contents c.args.block.now at) (c.in_ok-blocks.ensures.holding tells at) (same at) (kin_matches contents list c.args.block.now at (c.requires.fingerprints tells));
    }
