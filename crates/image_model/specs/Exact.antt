-- Laws of what is found: nothing in an image that stands for something, and something in every other.
use Rattle.std.specs.Prelude.{◌≡◌, ◌↔◌, List, map, Some, None}
use Rattle.vol_numbers.specs.declared.block.Block.{Block}
use Rattle.root_switch.specs.Current.{root_of_image, HasRoot, FitsImage}
use Rattle.tree_model.specs.Order.{IsOrdered}
use Rattle.tree_model.specs.Path.{Path}
use Rattle.tree_model.specs.Shape.{IsTree}
use Rattle.tree_model.specs.Tree.{Tree, node_at}
use Rattle.tree_model.specs.declared.command.Command.{Command}
use Rattle.volume_model.specs.Machine.{Stored}
use Rattle.volume_model.specs.Space.{free_blocks}
use Rattle.image_model.specs.Findings.{body_finding, free_in}
use Rattle.image_model.specs.Finds.{Finds, early_finding}
use Rattle.image_model.specs.Holds.{HoldsTree}
use Rattle.image_model.specs.Roots.{root_finding}
use Rattle.image_model.specs.Seen.{seen}
use Rattle.image_model.specs.Sound.{IsSound}
use Rattle.image_model.specs.Stands.{Stands, Shows, Logs, layout_in, node_along, spot_of}
use Rattle.image_model.specs.declared.finding.Finding.{Finding}
use Rattle.image_model.specs.declared.finding.Finding.TheVariants.{NoRoot, BadGeometry}

-- what an image would stand for that shows this tree and holds these records
abbrev pub seen_stored : List Block → Tree → List Command → Stored
seen_stored image tree records = record { layout = layout_in image; tree = tree; places = map spot_of (seen image).contents; records = records; point = (root_of_image image).point }

-- The phases of the root find nothing exactly where there is a root that fits the image. Else they find which of both is wanting.
pub record RootsAreFound : Type 0 where
  pub none : (image : List Block) → (root_finding image ≡ None) ↔ (HasRoot image × FitsImage image)
  pub no_root : (image : List Block) → (root_finding image ≡ Some NoRoot) ↔ (¬ HasRoot image)
  pub bad_geometry : (image : List Block) → (root_finding image ≡ Some BadGeometry) ↔ (HasRoot image × (¬ FitsImage image))

-- Where what is seen of an image is sound, nothing is found before the log.
abbrev pub NoneFoundEarly : Type 0
NoneFoundEarly = (image : List Block) → IsSound (layout_in image) (seen image) → body_finding (layout_in image) (seen image) ≡ None

-- What is seen of an image in which nothing is found is sound.
abbrev pub NoneFound : Type 0
NoneFound = (image : List Block) → body_finding (layout_in image) (seen image) ≡ None → IsSound (layout_in image) (seen image)

-- An image in which nothing is found before the log shows a tree. It stands for that, with its places and the records that its log holds,
-- where these are accepted.
abbrev pub NoneFoundStands : Type 0
NoneFoundStands = (image : List Block) → early_finding image ≡ None → (tree : Tree) × IsOrdered tree × ((path : Path) → node_at tree path ≡ node_along (seen image) path)
    × ((records : List Command) → Logs image (seen_stored image tree records) → Stands image (seen_stored image tree records))

-- What an image shows, whatever its log has: a tree, which is held node by node, and as many free blocks as are counted. It stands for that with
-- the records of its log, where these are accepted.
pub record IsShownEarly (image : List Block) (s : Stored) : Type 0 where
  pub shows : Shows (seen image) s
  pub is_tree : IsTree s.tree
  pub held : HoldsTree (seen image) s.tree
  pub free : free_in (layout_in image) (seen image).kept ≡ free_blocks (layout_in image) s.tree s.places
  pub stands : (records : List Command) → Logs image (record s { records = records }) → Stands image (record s { records = records })

-- An image in which nothing is found before the log shows such a thing.
abbrev pub NoneFoundShows : Type 0
NoneFoundShows = (image : List Block) → early_finding image ≡ None → (s : Stored) × IsShownEarly image s

-- An image that stands for something has no finding.
abbrev pub StandingHasNone : Type 0
StandingHasNone = (image : List Block) (s : Stored) → Stands image s → (finding : Finding) → ¬ Finds image finding

-- An image has at most one finding: the first of the first phase.
abbrev pub OneFinding : Type 0
OneFinding = (image : List Block) (f g : Finding) → Finds image f → Finds image g → f ≡ g

-- There is no image that has no finding and stands for nothing. That doesn't say what an image without a finding stands for: whoever looks for
-- a finding has to find that too.
abbrev pub StandsOrFinds : Type 0
StandsOrFinds = (image : List Block) → ((finding : Finding) → ¬ Finds image finding) → ((s : Stored) → ¬ Stands image s) → ⊥
