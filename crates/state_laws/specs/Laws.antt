-- What holds of every state that is reached.
use Rattle.std.specs.Prelude.{◌≡◌, ◌<◌, ℕ, true, []}
use Rattle.vol_numbers.specs.Layout.{Layout}
use Rattle.tree_model.specs.declared.report.Answer.{Answer}
use Rattle.tree_model.specs.declared.command.Command.{Command}
use Rattle.tree_model.specs.Shape.{IsTree}
use Rattle.tree_model.specs.declared.reply.Reply.TheVariants as reply
use Rattle.tree_model.specs.Step.{step, is_change}
use Rattle.tree_model.specs.Touched.{touched}
use Rattle.tree_model.specs.Tree.{Tree, new_tree}
use Rattle.volume_model.specs.CacheLaws.{IsCacheList, HasFewKin}
use Rattle.volume_model.specs.Done.{mounted, cut_by, is_cut}
use Rattle.volume_model.specs.Legal.{IsLegal, next}
use Rattle.volume_model.specs.Machine.{Machine, Rules, Stored, stored}
use Rattle.volume_model.specs.Places.{has_spot}
use Rattle.volume_model.specs.Short.{AnswerForNow, IsLegalForNow, next_for_now}
use Rattle.state_laws.specs.Accepted.{IsAccepted}
use Rattle.state_laws.specs.Files.{HasSameBytes, PlacesFollow}
use Rattle.state_laws.specs.States.{IsMountable, IsInFiles, KeptIsUnchanged, HolesAreZeros, HasTrueFingerprints, IsWhatItStores, IsWide, IsCoherent, IsReached}

-- A change is accepted exactly where it is answered as done.
pub record AcceptedIsDone : Type 0 where
  pub done : (tree : Tree) (command : Command) → IsAccepted tree command → (step tree command).0 ≡ reply.Done
  pub accepted : (tree : Tree) (command : Command) → is_change command ≡ true → (step tree command).0 ≡ reply.Done → IsAccepted tree command

-- A change that is accepted leaves zeros where it cuts, touches places of files, and changes no other place.
abbrev pub ChangesFollow : Type 0
ChangesFollow = (tree : Tree) (command : Command) → IsTree tree → IsAccepted tree command
    → PlacesFollow tree (step tree command).1 (is_cut (cut_by tree command)) (has_spot (touched tree command))

-- A mounted volume is coherent, and each legal answer leaves it so.
pub record AlwaysCoherent : Type 0 where
  pub at_first : (r : Rules) (s : Stored) → IsMountable s → IsCoherent r (mounted s)
  pub later : (r : Rules) (m : Machine) (command : Command) (answer : Answer) → 0 < r.threshold → IsCoherent r m → IsLegal r m command answer → IsCoherent r (next r m command answer)
  pub for_now : (r : Rules) (m : Machine) (command : Command) (given : AnswerForNow) → 0 < r.threshold → IsCoherent r m → IsLegalForNow r m command given → IsCoherent r (next_for_now r m command given)

-- What a format leaves can be mounted: the root alone, no place and no record.
abbrev pub FreshIsMountable : Type 0
FreshIsMountable = (layout : Layout) (point : ℕ) → IsMountable (record { layout = layout; tree = new_tree; places = []; records = []; point = point })

-- it holds of every state that is reached
abbrev pub Always : (Rules → Machine → Type 0) → Type 0
Always P = (r : Rules) (m : Machine) → 0 < r.threshold → IsReached r m → P r m

-- What a reached state stores can be mounted.
abbrev pub StoredIsMountable : Type 0
StoredIsMountable = Always (λ r m. IsMountable (stored m))

-- Each kept or dirty place is a place of a file.
abbrev pub PlacesAreInFiles : Type 0
PlacesAreInFiles = Always (λ r m. IsInFiles m)

-- A kept place has the bytes of the last point.
abbrev pub KeptStays : Type 0
KeptStays = Always (λ r m. KeptIsUnchanged m)

-- What is neither kept nor dirty reads as zeros.
abbrev pub HolesRead : Type 0
HolesRead = Always (λ r m. HolesAreZeros m)

-- Places with the same block have the same bytes at the last point.
abbrev pub BlocksHaveBytes : Type 0
BlocksHaveBytes = Always (λ r m. HasSameBytes m.stored_tree m.stored_places)

-- The cache list is one, with at most eight pairs of a fingerprint.
pub record CacheListsAre : Type 0 where
  pub lists : Always (λ r m. IsCacheList r.capacity m.cache)
  pub few_kin : Always (λ r m. HasFewKin m.cache)

-- Each cached pair has the fingerprint of its block's bytes.
abbrev pub FingerprintsAreTrue : Type 0
FingerprintsAreTrue = Always HasTrueFingerprints

-- A state is that of mounting what it stores, but for its cache list.
abbrev pub StoresItself : Type 0
StoresItself = Always (λ r m. IsWhatItStores m)

-- In both trees a directory is at least as wide as it has entries.
pub record DirectoriesAreWide : Type 0 where
  pub now : Always (λ r m. IsWide m.tree)
  pub stored : Always (λ r m. IsWide m.stored_tree)
