-- What fits on every disk fits after a change, whatever came of it.
use Rattle.std.proofs.Common.{◌≡◌, ◌∙◌, ◌<◌, ℕ, Bool, None, sym, ap, subst}
use Rattle.block_format.specs.Root.{Root, root_of, HasGeometry}
use Rattle.command_effect.specs.Laws.{IsStagingOf, StagingFits}
use Rattle.command_log.specs.Logging.{next_root}
use Rattle.dirty_store.specs.Overlay.{Overlay, staged}
use Rattle.dirty_store.specs.Undo.{Store}
use Rattle.dirty_store.specs.declared.effect.Effect.{Effect}
use Rattle.disk_model.specs.Disk.{State}
use Rattle.node_table.specs.Held.{Nodes, AreDirectories, HoldsNodes, held}
use Rattle.node_table.specs.declared.change.Change.{Change}
use Rattle.point_model.specs.Holding.{HoldsMachine}
use Rattle.point_plan.specs.State.{IsStagedWithin, node_in}
use Rattle.point_plan.specs.declared.state.PointState.{PointState}
use Rattle.root_switch.specs.declared.reading.Current.{Current}
use Rattle.tree_model.proofs.RenameLaws.{keeps_trees}
use Rattle.tree_model.specs.Shape.{IsTree}
use Rattle.tree_model.specs.Step.{refusal_of, step}
use Rattle.tree_model.specs.Tree.{Tree}
use Rattle.tree_model.specs.declared.command.Command.{Command}
use Rattle.volume_model.specs.Machine.{Machine, Rules}
use Rattle.volume_core.specs.Memory.{Memory, HoldsSomeTree, IsFitting, IsIn}

-- ---- another store, and another table

-- what is staged counts alone, and not the room for it
within_same : (s : PointState) (d : Store) → d.overlay ≡ s.dirty.overlay → IsStagedWithin s → IsStagedWithin (record s { dirty = d })
within_same s d same is =
    subst (λ (o : Overlay). IsStagedWithin (record s { dirty = record d { overlay = o } })) (sym same) (record { numbers = is.numbers; directories = is.directories; places = is.places; sizes = is.sizes })

-- memory with this store and this table
abbrev pub with_staged : Memory → Store → Nodes → Memory
with_staged v d nodes = record v { state = record v.state { dirty = d }; nodes = nodes }

module _ (size : ℕ) (v : Memory) (fits : IsFitting size v) (d : Store) (nodes : Nodes) where
  -- what is staged is within the rules, and a table that holds some tree has the nodes
  pub fits_with : IsStagedWithin (record v.state { dirty = d }) → ((n : ℕ) → held nodes n ≡ node_in (record v.state { dirty = d }) n) → AreDirectories nodes → HoldsSomeTree nodes → IsFitting size (with_staged v d nodes)
  fits_with staged table directories tree = record {
    size = record {
      size = fits.size.size;
      root = fits.size.root;
      slot = fits.size.slot;
      grammar = fits.size.grammar;
      table = fits.size.table;
      index = fits.size.index;
      within = fits.size.within;
      settled = fits.size.settled;
      counts = fits.size.counts;
      untouched = fits.size.untouched;
      staged = staged;
    };
    table = table;
    directories = directories;
    tree = tree;
  }

  -- nothing was staged
  pub fits_same : d.overlay ≡ v.state.dirty.overlay → nodes ≡ v.nodes → IsFitting size (with_staged v d nodes)
  fits_same same nodes_same = fits_with
      (within_same v.state d same fits.size.staged)
      (λ n. ap (λ (x : Nodes). held x n) nodes_same ∙ fits.table n ∙ ap (λ (o : Overlay). node_in (record v.state { dirty = record d { overlay = o } }) n) (sym same))
      (subst AreDirectories (sym nodes_same) fits.directories)
      (subst HoldsSomeTree (sym nodes_same) fits.tree)

  -- the table did a command that its tree doesn't refuse
  pub tree_after : (command : Command) → ((tree : Tree) → IsTree tree → HoldsNodes v.nodes tree → refusal_of tree command ≡ None)
      → ((tree : Tree) → IsTree tree → HoldsNodes v.nodes tree → refusal_of tree command ≡ None → HoldsNodes nodes (step tree command).1) → HoldsSomeTree nodes
  tree_after command accepted holds =
      let is_tree = fits.tree.is_tree in
      record {
        tree = (step fits.tree.tree command).1;
        is_tree = keeps_trees.after_step fits.tree.tree command is_tree;
        holds = holds fits.tree.tree is_tree fits.tree.holds (accepted fits.tree.tree is_tree fits.tree.holds);
      }

-- where nothing was staged, disk and memory hold what they held
pub in_same : (r : Rules) (m : Machine) (s : State) (v : Memory) (d : Store) (nodes : Nodes) → IsIn r m s v → d.overlay ≡ v.state.dirty.overlay → IsIn r m s (with_staged v d nodes)
in_same r m s v d nodes is same =
    let before = is.holds.holds in
    record {
      alive = is.alive;
      holds = record {
        shares = is.holds.shares;
        synced = is.holds.synced;
        holds = record {
          stands = before.stands;
          coherent = before.coherent;
          staged = subst (λ (o : Overlay). HoldsMachine s.contents o m) (sym same) before.staged;
          slot = before.slot;
          root = before.root;
          counts = before.counts;
          inodes = before.inodes;
          nodes = before.nodes;
          directories = before.directories;
          metadata = before.metadata;
        };
        counted = is.holds.counted;
      };
      pending = is.pending;
      free = is.free;
    }

-- ---- another root

-- a root of the same volume, with one record more
pub fits_logged : (size : ℕ) (v : Memory) (command : Command) (current : Current) (pending : ℕ) → IsFitting size v → current.slot < 2 → HasGeometry (root_of current.body)
    → current.body.geometry ≡ v.state.current.body.geometry → root_of current.body ≡ next_root (root_of v.state.current.body) command
    → IsFitting size (record v { state = record v.state { current = current }; pending = pending })
fits_logged size v command current pending fits slot grammar geometry root =
    let staged = fits.size.staged in
    record {
      size = record {
        size = fits.size.size;
        root = geometry ∙ fits.size.root;
        slot = slot;
        grammar = grammar;
        table = fits.size.table;
        index = fits.size.index ∙ sym (ap (λ (x : Root). x.inode_index) root);
        within = fits.size.within;
        settled = fits.size.settled;
        counts = fits.size.counts;
        untouched = fits.size.untouched;
        staged = record { numbers = staged.numbers; directories = staged.directories; places = staged.places; sizes = staged.sizes };
      };
      table = fits.table;
      directories = fits.directories;
      tree = fits.tree;
    }

-- a volume that has failed has the memory that it had
pub fits_failed : (size : ℕ) (v : Memory) (failed : Bool) → IsFitting size v → IsFitting size (record v { is_failed = failed })
fits_failed size v failed fits = record { size = fits.size; table = fits.table; directories = fits.directories; tree = fits.tree }

-- ---- what was staged

-- The effect of a change that the table did was staged.
pub fits_staged : StagingFits → (size : ℕ) (v : Memory) (fits : IsFitting size v) (d : Store) (nodes : Nodes) (command : Command) (change : Change) (e : Effect)
    → IsStagingOf v.state command change v.nodes nodes e → d.overlay ≡ staged v.state.dirty.overlay e → HoldsSomeTree nodes → IsFitting size (with_staged v d nodes)
fits_staged law size v fits d nodes command change e of is tree =
    let both = law v.state command change v.nodes nodes e d of is in
    fits_with size v fits d nodes both.0 both.1 of.directories tree
