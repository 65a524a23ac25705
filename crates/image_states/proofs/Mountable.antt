-- What an image stands for can be mounted.
use Rattle.std.proofs.Common.{◌≡◌, ℕ, ◌+◌, ◌≤◌, true, List, [], ◌∷◌, refl, sym, ap, subst, ◌∙◌, arith}
use Rattle.std.specs.Prelude.{All}
use Rattle.std.proofs.lemmas.List.Elements.{All-nil, All-cons, All-weaker}
use Rattle.vol_numbers.specs.Layout.{Layout, IsValid}
use Rattle.vol_numbers.specs.declared.block.Block.{Block}
use Rattle.tree_model.specs.declared.command.Command.{Command}
use Rattle.tree_model.specs.declared.command.Command.TheVariants.{Mkdir, Create, Write, Truncate, Remove, Rename, Read, List as ListOf, Stat, Layout as LayoutOf, Space, Checkpoint, End}
use Rattle.tree_model.specs.Step.{is_change}
use Rattle.op_log.specs.Log.{RecordsStand}
use Rattle.op_log.specs.Record.{HasRecord, record_blocks}
use Rattle.volume_model.specs.Accepted.{Accepts}
use Rattle.volume_model.specs.LogUse.{log_use}
use Rattle.volume_model.specs.Machine.{Stored}
use Rattle.volume_model.specs.Places.{InOrder}
use Rattle.volume_model.specs.Space.{free_blocks}
use Rattle.volume_model.proofs.WholeLaws.{mounted_stores}
use Rattle.image_model.specs.Stands.{Stands, layout_in}
use Rattle.image_model.proofs.PlaceOrder.{places_in_order}
use Rattle.image_model.proofs.StandingTree.{standing_tree}
use Rattle.state_laws.specs.States.{mount}
use Rattle.image_states.specs.Laws.{StandingIsMountable, StandingFits, MountingIsReached}
use Rattle.image_states.proofs.SeenPlaces.{none, in_files, holes, reads_block}

-- a command that has a record may change the tree
recorded_changes : (c : Command) → HasRecord c → is_change c ≡ true
recorded_changes (Mkdir path) has = refl
recorded_changes (Create path) has = refl
recorded_changes (Write path offset []) has = absurd (omega (arith, has.2))
recorded_changes (Write path offset (byte ∷ bytes)) has = refl
recorded_changes (Truncate path size) has = refl
recorded_changes (Remove path) has = refl
recorded_changes (Rename from to) has = refl
recorded_changes (Read path offset len) has = absurd has
recorded_changes (ListOf path) has = absurd has
recorded_changes (Stat path) has = absurd has
recorded_changes (LayoutOf path) has = absurd has
recorded_changes Space has = absurd has
recorded_changes Checkpoint has = absurd has
recorded_changes End has = absurd has

all_recorded : (image : List Block) (at : ℕ) (commands : List Command) → RecordsStand image at commands → All HasRecord commands
all_recorded image at [] stand = All-nil HasRecord
all_recorded image at (c ∷ cs) stand = All-cons HasRecord c cs stand.0 (all_recorded image (at + record_blocks c) cs stand.2)

log_fits : (image : List Block) (s : Stored) → Stands image s → log_use s.records ≤ s.layout.log_blocks
log_fits image s stands =
    let log : s.layout.log_blocks ≡ (layout_in image).log_blocks = ap (λ (g : Layout). g.log_blocks) stands.layout in
    omega (arith, stands.logs.filled, stands.fits.geometry.log_fits, log)

pub standing_fits : StandingFits
standing_fits = record {
  valid = λ image s stands. subst IsValid (sym stands.layout) stands.fits.geometry.valid;
  recorded = λ image s stands. all_recorded image _ s.records stands.logs.logged.stand;
  fits = log_fits;
}

pub standing_is_mountable : StandingIsMountable
standing_is_mountable image s stands = record {
  tree = standing_tree image s stands;
  in_order = subst InOrder (sym stands.shows.places) (places_in_order image (none image s stands));
  in_files = in_files image s stands;
  holes = holes image s stands;
  same = λ a b block at_a at_b. reads_block image s stands a block at_a ∙ sym (reads_block image s stands b block at_b);
  changes = All-weaker HasRecord (λ (c : Command). is_change c ≡ true) recorded_changes s.records (all_recorded image _ s.records stands.logs.logged.stand);
  accepted = subst (λ (g : Layout). Accepts (free_blocks g s.tree s.places) s.tree 0 s.records) (sym stands.layout) stands.logs.accepted;
  fits = λ valid recorded. log_fits image s stands;
}

pub mounting_is_reached : MountingIsReached
mounting_is_reached = record {
  reached = λ r image s stands. mount s (standing_is_mountable image s stands);
  stands = λ image s stands. subst (Stands image) (sym (mounted_stores s)) stands;
}
