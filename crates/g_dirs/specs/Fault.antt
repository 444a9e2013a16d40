-- The fault of a directory that a fault of the slots becomes.
use Rattle.g_dirs.specs.declared.fault.DirsFault.{DirsFault}
use Rattle.g_dirs.specs.declared.fault.DirsFault.TheVariants.{ReadFault, Stopped}
use Rattle.g_slots.specs.declared.fault.SlotFault.{SlotFault}
use Rattle.g_slots.specs.declared.fault.SlotFault.TheVariants as slot

abbrev pub dirs_fault_of : SlotFault → DirsFault
dirs_fault_of slot.ReadFault = ReadFault
dirs_fault_of slot.Stopped = Stopped
