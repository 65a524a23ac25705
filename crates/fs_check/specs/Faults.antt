-- What the faults of a check are, by those of its phases.
use Rattle.image_model.specs.declared.finding.Finding.TheVariants.{NoRoot, BadGeometry, BadLog}
use Rattle.root_switch.specs.declared.reading.RootFault.{RootFault}
use Rattle.root_switch.specs.declared.reading.RootFault.TheVariants as roots
use Rattle.image_walk.specs.declared.fault.WalkFault.{WalkFault}
use Rattle.image_walk.specs.declared.fault.WalkFault.TheVariants as walks
use Rattle.name_check.specs.declared.fault.NameFault.{NameFault}
use Rattle.name_check.specs.declared.fault.NameFault.TheVariants as names
use Rattle.count_check.specs.declared.fault.CountCheckFault.{CountCheckFault}
use Rattle.count_check.specs.declared.fault.CountCheckFault.TheVariants as counts
use Rattle.log_check.specs.declared.fault.LogCheckFault.{LogCheckFault}
use Rattle.log_check.specs.declared.fault.LogCheckFault.TheVariants as logs
use Rattle.fs_check.specs.declared.fault.CheckFault.{CheckFault}
use Rattle.fs_check.specs.declared.fault.CheckFault.TheVariants.{Found, Device, OutOfMemory}

abbrev pub of_root : RootFault → CheckFault
of_root roots.NoRoot = Found NoRoot
of_root roots.BadGeometry = Found BadGeometry
of_root roots.Device = Device

abbrev pub of_walk : WalkFault → CheckFault
of_walk (walks.Found f) = Found f
of_walk walks.Device = Device
of_walk walks.OutOfMemory = OutOfMemory

abbrev pub of_names : NameFault → CheckFault
of_names (names.Found f) = Found f
of_names names.Device = Device
of_names names.OutOfMemory = OutOfMemory

abbrev pub of_counts : CountCheckFault → CheckFault
of_counts (counts.Found f) = Found f
of_counts counts.Device = Device
of_counts counts.OutOfMemory = OutOfMemory

abbrev pub of_log : LogCheckFault → CheckFault
of_log (logs.Found i) = Found (BadLog i)
of_log logs.Device = Device
of_log logs.OutOfMemory = OutOfMemory
