-- The rows of the log.
use Rattle.std.proofs.Common.{true, ◌≡◌, ℕ, ◌+◌, ◌<◌, ◌≤◌, List, [], length, Some, None, refl, sym, ap, ◌∙◌, arith, inl, inr, ◌∷◌, suc, zero, subst}
use Rattle.std.specs.Prelude.{Option, unwrap_or, slice_get, slice_index}
use Rattle.vol_numbers.specs.Block.{zero_block}
use Rattle.vol_numbers.specs.Layout.{log_start}
use Rattle.vol_numbers.specs.declared.block.Block.{Block}
use Rattle.block_format.specs.Inode.{inode_in}
use Rattle.block_format.specs.Root.{root_in}
use Rattle.block_format.specs.Slot.{slot_in}
use Rattle.block_format.specs.Words.{words}
use Rattle.tree_model.specs.declared.command.Command.{Command}
use Rattle.tree_model.specs.declared.command.Command.TheVariants.{Mkdir, Create, Write, Truncate, Remove, Rename}
use Rattle.op_log.specs.Record.{Fields, fields_of, header, text_of, text_block, record_blocks, record_block}
use Rattle.volume_model.specs.Machine.{Stored}
use Rattle.image_model.specs.declared.finding.Finding.TheVariants.{BadLog}
use Rattle.image_model.specs.Exact.{seen_stored}
use Rattle.image_model.specs.Findings.{body_finding}
use Rattle.image_model.specs.Finds.{early_finding, Finds, HasAccepted}
use Rattle.image_model.specs.Next.{and_command}
use Rattle.image_model.specs.Nodes.{tree_finding}
use Rattle.image_model.specs.Roots.{root_finding}
use Rattle.image_model.specs.Seen.{seen}
use Rattle.image_model.specs.Slots.{slots_from}
use Rattle.image_model.specs.Stands.{layout_in, records_in, used_in}
use Rattle.image_model.specs.Walk.{walk, inodes_from}
use Rattle.image_model.proofs.ExactLaws.{none_found_stands}
use Rattle.image_rows.specs.Logs.{seventh_kind, spare_block, wanting_file, long_write, long_record, full_area}
use Rattle.vol_numbers.specs.Layout.{count_blocks}
use Rattle.root_switch.specs.Current.{root_of_image}
use Rattle.block_tree.specs.Tree.{blocks_in}
use Rattle.space_account.specs.Charge.{need}
use Rattle.volume_model.specs.Space.{free_blocks}
use Rattle.image_model.specs.Findings.{free_in}
use Rattle.image_model.proofs.FindingLaws.{then_first, then_second}
use Rattle.image_model.proofs.NameLaws.{none_found_sound}
use Rattle.image_model.proofs.RootExact.{roots_are_found}
use Rattle.image_model.proofs.SpaceLaws.{free_seen}
use Rattle.std.specs.Prelude.{◌≢◌}
use Rattle.std.proofs.lemmas.List.Elements.{All-cons, All-nil}
use Rattle.vol_numbers.specs.Name.{IsName}
use Rattle.tree_model.specs.Path.{Path}
use Rattle.tree_model.specs.Step.{step}
use Rattle.tree_model.specs.Tree.{Tree, node_at, is_directory}
use Rattle.tree_model.specs.declared.node.Node.{Node}
use Rattle.tree_model.specs.declared.node.Content.TheVariants as content
use Rattle.tree_model.specs.declared.refusal.Refusal.TheVariants.{NotFound}
use Rattle.tree_model.specs.declared.reply.Reply.TheVariants.{Done, Refused}
use Rattle.op_log.specs.Log.{RecordStands}
use Rattle.op_log.specs.Record.{HasRecord}
use Rattle.op_log.proofs.SpellingLaws.{one_command}
use Rattle.image_model.specs.Stands.{node_along}

-- what an image stands for without a record, where nothing is found before the log
module _ (image : List Block) (none : early_finding image ≡ None) where
  unfoldable pub nothing_logged : Stored
  nothing_logged = seen_stored image (none_found_stands image none).0 []

  pub no_records : length nothing_logged.records ≡ 0
  unfolding nothing_logged
  no_records = refl

  pub accepted : HasAccepted image nothing_logged
  unfolding nothing_logged
  accepted = record {
    shows = record { ordered = (none_found_stands image none).1; tree = (none_found_stands image none).2; places = refl };
    logged = record { stand = tt; within = omega arith };
    accepted = tt;
  }

  pub first_stands : (command : Command) → HasAccepted image (and_command nothing_logged command) → slice_get image (log_start (layout_in image)) ≡ Some (record_block command 0)
  unfolding nothing_logged
  first_stands command good =
      let some : 0 < record_blocks command = omega arith in
      let start : log_start (layout_in image) + 0 ≡ log_start (layout_in image) = omega arith in
      ap (slice_get image) (sym start) ∙ good.logged.stand.1 0 some

-- what is said of a record that is accepted behind none
record OneLogged (image : List Block) (none : early_finding image ≡ None) (command : Command) : Type 0 where
  has : HasRecord command
  stands : RecordStands image (log_start (layout_in image)) command
  fits : need command ≤ free_blocks (layout_in image) (nothing_logged image none).tree (nothing_logged image none).places

logged_one : (image : List Block) (none : early_finding image ≡ None) (command : Command) → HasAccepted image (and_command (nothing_logged image none) command) → OneLogged image none command
unfolding nothing_logged
logged_one image none command good = record { has = good.logged.stand.0; stands = good.logged.stand.1; fits = let fits = good.accepted.1 in omega (arith, fits) }

-- the first byte of a record is its kind, of which there are six
first_byte : (f : Fields) → slice_index (text_block (text_of f) 0).bytes 0 ≡ f.kind
unfolding header
first_byte f = refl

kind_at_most : (c : Command) → (fields_of c).kind ≤ 6
kind_at_most (Mkdir path) = omega arith
kind_at_most (Create path) = omega arith
kind_at_most (Write path offset bytes) = omega arith
kind_at_most (Truncate path size) = omega arith
kind_at_most (Remove path) = omega arith
kind_at_most (Rename from to) = omega arith
kind_at_most other = omega arith

-- ---- a record of kind 7

none_early : early_finding seventh_kind ≡ None
unfolding words inode_in root_in slot_in body_finding tree_finding root_finding seen slots_from walk inodes_from
none_early = refl

start_is : log_start (layout_in seventh_kind) ≡ 5
unfolding root_in
start_is = refl

one_record : records_in seventh_kind ≡ 1
unfolding root_in
one_record = refl

byte_of : Option Block → ℕ
byte_of o = slice_index (unwrap_or o zero_block).bytes 0

is_seven : byte_of (slice_get seventh_kind 5) ≡ 7
unfolding byte_of
is_seven = refl

byte_is : (b : Block) → byte_of (Some b) ≡ slice_index b.bytes 0
unfolding byte_of
byte_is b = refl

no_next : (command : Command) → HasAccepted seventh_kind (and_command (nothing_logged seventh_kind none_early) command) → ⊥
no_next command good =
    let kind : 7 ≡ (fields_of command).kind =
    sym is_seven ∙ ap (λ (k : ℕ). byte_of (slice_get seventh_kind k)) (sym start_is) ∙ ap byte_of (first_stands seventh_kind none_early command good) ∙ byte_is (record_block command 0) ∙ first_byte (fields_of command) in
    omega (arith, kind, kind_at_most command)

pub at_seventh_kind : Finds seventh_kind (BadLog 0)
at_seventh_kind = inr (
  none_early,
  record {
    before = nothing_logged seventh_kind none_early;
    count = no_records seventh_kind none_early;
    good = accepted seventh_kind none_early;
    bad = inl (omega (arith, one_record), no_next);
  },
)

-- ---- a block that no record takes

none_before : early_finding spare_block ≡ None
unfolding words inode_in root_in slot_in body_finding tree_finding root_finding seen slots_from walk inodes_from
none_before = refl

no_record : records_in spare_block ≡ 0
unfolding root_in
no_record = refl

one_block : used_in spare_block ≡ 1
unfolding root_in
one_block = refl

pub at_spare_block : Finds spare_block (BadLog 0)
unfolding nothing_logged
at_spare_block = inr (
  none_before,
  record {
    before = nothing_logged spare_block none_before;
    count = no_records spare_block none_before;
    good = accepted spare_block none_before;
    bad = inr (sym no_record, omega (arith, one_block));
  },
)

-- ---- a record that the tree refuses

abbrev third : Path
third = (99 ∷ []) ∷ []

none_wanting : early_finding wanting_file ≡ None
unfolding words inode_in root_in slot_in body_finding tree_finding root_finding seen slots_from walk inodes_from
none_wanting = refl

no_third : node_along (seen wanting_file) third ≡ None
unfolding words inode_in root_in slot_in seen slots_from walk inodes_from
no_third = refl

has_directory : node_along (seen wanting_file) [] ≡ Some (record { number = 1; content = content.Directory 2 })
unfolding words inode_in root_in slot_in seen slots_from walk inodes_from
has_directory = refl

start_wanting : log_start (layout_in wanting_file) ≡ 5
unfolding root_in
start_wanting = refl

one_wanting : records_in wanting_file ≡ 1
unfolding root_in
one_wanting = refl

-- the record stands there
stands_third : RecordStands wanting_file 5 (Remove third)
unfolding header
stands_third zero lt = refl
stands_third (suc i) lt = absurd (omega arith)

plain_name : IsName (99 ∷ [])
plain_name = record {
  some = omega arith;
  at_most = omega arith;
  plain = All-cons (λ b. (b ≢ 0) × (b ≢ 47)) 99 [] (λ e. omega (arith, e), λ e. omega (arith, e)) (All-nil (λ b. (b ≢ 0) × (b ≢ 47)));
  not_dot = λ e. cc;
  not_dots = λ e. cc;
}

third_has : HasRecord (Remove third)
third_has = record { some = λ e. cc; limits = record { names_at_most = omega arith; length_at_most = omega arith }; names = All-cons IsName (99 ∷ []) [] plain_name (All-nil IsName) }

-- a file that isn't there is not removed
refused : (t : Tree) (node : Node) → node_at t [] ≡ Some node → is_directory node ≡ true → node_at t third ≡ None → (step t (Remove third)).0 ≡ Refused NotFound
unfolding step
refused t node root directory none = rw (root, directory, none) refl

no_remove : (command : Command) → HasAccepted wanting_file (and_command (nothing_logged wanting_file none_wanting) command) → ⊥
unfolding nothing_logged
no_remove command good =
    let t = (none_found_stands wanting_file none_wanting).0 in
    let shows = (none_found_stands wanting_file none_wanting).2 in
    let stands : RecordStands wanting_file 5 command = subst (λ (at : ℕ). RecordStands wanting_file at command) start_wanting good.logged.stand.1 in
    let same : command ≡ Remove third = one_command wanting_file 5 command (Remove third) good.logged.stand.0 third_has stands stands_third in
    let done : (step t (Remove third)).0 ≡ Done = subst (λ (c : Command). (step t c).0 ≡ Done) same good.accepted.0 in
    let not : (step t (Remove third)).0 ≡ Refused NotFound = refused t (record { number = 1; content = content.Directory 2 }) (shows [] ∙ has_directory) refl (shows third ∙ no_third) in
    cc

pub at_wanting_file : Finds wanting_file (BadLog 0)
at_wanting_file = inr (
  none_wanting,
  record {
    before = nothing_logged wanting_file none_wanting;
    count = no_records wanting_file none_wanting;
    good = accepted wanting_file none_wanting;
    bad = inl (omega (arith, one_wanting), no_remove);
  },
)

-- ---- a record that passes the used blocks

none_long : early_finding long_record ≡ None
unfolding words inode_in root_in slot_in body_finding tree_finding root_finding seen slots_from walk inodes_from
none_long = refl

start_long : log_start (layout_in long_record) ≡ 5
unfolding root_in
start_long = refl

one_long : records_in long_record ≡ 1
unfolding root_in
one_long = refl

used_long : used_in long_record ≡ 1
unfolding root_in
used_long = refl

stands_long : RecordStands long_record 5 long_write
unfolding header
stands_long zero lt = refl
stands_long (suc zero) lt = refl
stands_long (suc (suc i)) lt = absurd (omega arith)

long_has : HasRecord long_write
long_has = (record { some = λ e. cc; limits = record { names_at_most = omega arith; length_at_most = omega arith }; names = All-cons IsName (99 ∷ []) [] plain_name (All-nil IsName) }, omega arith, omega arith, omega arith)

no_long : (command : Command) → HasAccepted long_record (and_command (nothing_logged long_record none_long) command) → ⊥
unfolding nothing_logged
no_long command good =
    let stands : RecordStands long_record 5 command = subst (λ (at : ℕ). RecordStands long_record at command) start_long good.logged.stand.1 in
    let same : command ≡ long_write = one_command long_record 5 command long_write good.logged.stand.0 long_has stands stands_long in
    let two : record_blocks long_write ≡ 2 = refl in
    omega (arith, ap record_blocks same, two, good.logged.within, used_long)

pub at_long_record : Finds long_record (BadLog 0)
at_long_record = inr (
  none_long,
  record {
    before = nothing_logged long_record none_long;
    count = no_records long_record none_long;
    good = accepted long_record none_long;
    bad = inl (omega (arith, one_long), no_long);
  },
)

-- ---- a record that needs more than is free

none_full : early_finding full_area ≡ None
unfolding words inode_in root_in slot_in body_finding tree_finding root_finding seen slots_from walk inodes_from
none_full = refl

start_full : log_start (layout_in full_area) ≡ 5
unfolding root_in
start_full = refl

one_full : records_in full_area ≡ 1
unfolding root_in
one_full = refl

sixteen_free : free_in (layout_in full_area) (seen full_area).kept ≡ 16
unfolding words inode_in root_in seen walk inodes_from
sixteen_free = refl

stands_create : RecordStands full_area 5 (Create third)
unfolding header
stands_create zero lt = refl
stands_create (suc i) lt = absurd (omega arith)

-- the blocks with count 0 are those that are free by the formula
pub free_is : (image : List Block) (none : early_finding image ≡ None) → free_in (layout_in image) (seen image).kept ≡ free_blocks (layout_in image) (nothing_logged image none).tree (nothing_logged image none).places
unfolding seen nothing_logged
free_is image none =
    let sound = none_found_sound image (then_second (root_finding image) _ none) in
    let fits = ((roots_are_found.none image).0 (then_first (root_finding image) _ none)).1 in
    free_seen (blocks_in image) (root_of_image image).inode_index (root_of_image image).homes (count_blocks (layout_in image)) (layout_in image) (nothing_logged image none)
    sound.pointers sound.directories sound.named sound.counts (record { ordered = (none_found_stands image none).1; tree = (none_found_stands image none).2; places = refl }) (omega (arith, fits.geometry.valid.area_at_least))

no_create : (command : Command) → HasAccepted full_area (and_command (nothing_logged full_area none_full) command) → ⊥
no_create command good =
    let parts = logged_one full_area none_full command good in
    let same : command ≡ Create third = one_command full_area 5 command (Create third) parts.has third_has (subst (λ (at : ℕ). RecordStands full_area at command) start_full parts.stands) stands_create in
    let needs : need (Create third) ≡ 28 = refl in
    omega (arith, parts.fits, ap need same, needs, sixteen_free, free_is full_area none_full)

pub at_full_area : Finds full_area (BadLog 0)
at_full_area = inr (
  none_full,
  record {
    before = nothing_logged full_area none_full;
    count = no_records full_area none_full;
    good = accepted full_area none_full;
    bad = inl (omega (arith, one_full), no_create);
  },
)
