use Rattle.std.proofs.Common.{◌∙◌, length, sym, ap, arith}
use Rattle.fs_check.proofs.LogLaws.{verdict_err, is_early, metadata_is, few_nodes}
use Rattle.fs_check.proofs.examining.with_log.Goals as goal

pub returns-in_err-records-clause-verdict : goal.returns-in_err-records-clause-verdict
returns-in_err-records-clause-verdict g c tells none slot looked =
    let image = (g.D.Disk.state c.args.disk.now).contents in
    let early = is_early image c.args.current.now.body c.args.looked none (c.requires.root tells) looked c.requires.formed in
    verdict_err image _ _ c.in_err-records.field-0.0 c.from_residual.ensures.1 (c.in_err-records.ensures.verdict tells early)

pub overflow_cast-used : goal.overflow_cast-used
overflow_cast-used g c = let few = few_nodes c.args.looked.nodes c.args.looked.directories c.requires.formed.are in omega (arith, few, c.len-used.ensures)

pub returns-clause-verdict : goal.returns-clause-verdict
returns-clause-verdict g c tells none slot looked =
    let image = (g.D.Disk.state c.args.disk.now).contents in
    let l = c.args.looked in
    let early = is_early image c.args.current.now.body l none (c.requires.root tells) looked c.requires.formed in
    let stands = c.in_ok-records.ensures.verdict tells early in
    record {
      stored = stands.stored;
      stands = stands.stands;
      slot = slot;
      root = sym (c.requires.root tells);
      counts = looked.counts;
      kept = looked.kept;
      directories = looked.directories;
      nodes = stands.holds _ c.in_ok-records.ensures.trees;
      inodes = looked.nodes;
      used = c.len-used.ensures ∙ ap length (sym looked.nodes);
      records = stands.records_are;
      free = stands.free_is;
      metadata = metadata_is image c.args.current.now.body l stands.stored (c.requires.root tells) looked stands.stands;
    }
