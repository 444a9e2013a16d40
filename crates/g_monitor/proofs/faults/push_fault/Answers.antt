-- If the words are long, the appended text is that of the fault's variant.
use Rattle.std.proofs.Common.{sym}
use Rattle.g_monitor.proofs.faults.push_fault.Goals as goal

pub returns-in-OverSpace : goal.returns-in-OverSpace
returns-in-OverSpace c = rw (c.in-OverSpace.is, sym c.from.ensures, sym c.from-in-OverSpace.ensures) c.push_numbers.ensures

pub returns-in-DirectoryFull : goal.returns-in-DirectoryFull
returns-in-DirectoryFull c = rw c.in-DirectoryFull.is c.extend-in-DirectoryFull.ensures.ok

pub returns-in-UsersFull : goal.returns-in-UsersFull
returns-in-UsersFull c = rw c.in-UsersFull.is c.extend-in-UsersFull.ensures.ok

pub returns-in-TrapsFull : goal.returns-in-TrapsFull
returns-in-TrapsFull c = rw c.in-TrapsFull.is c.extend-in-TrapsFull.ensures.ok

pub returns-in-DiscFull : goal.returns-in-DiscFull
returns-in-DiscFull c = rw (c.in-DiscFull.is, sym c.from-in-DiscFull.ensures, sym c.from-in-DiscFull-2.ensures) c.push_numbers-in-DiscFull.ensures

pub returns-in-DiscReadFault : goal.returns-in-DiscReadFault
returns-in-DiscReadFault c = rw c.in-DiscReadFault.is c.extend-in-DiscReadFault.ensures.ok

pub returns-in-NotOwner : goal.returns-in-NotOwner
returns-in-NotOwner c = rw c.in-NotOwner.is c.extend-in-NotOwner.ensures.ok

pub returns-in-CountersSpent : goal.returns-in-CountersSpent
returns-in-CountersSpent c = rw c.in-CountersSpent.is c.extend-in-CountersSpent.ensures.ok

pub returns-in-NotStarted : goal.returns-in-NotStarted
returns-in-NotStarted c = rw c.in-NotStarted.is c.extend-in-NotStarted.ensures.ok

pub returns-in-TapeFull : goal.returns-in-TapeFull
returns-in-TapeFull c = rw (c.in-TapeFull.is, sym c.from-in-TapeFull.ensures, sym c.from-in-TapeFull-2.ensures) c.push_numbers-in-TapeFull.ensures

pub returns-in-DumpOpen : goal.returns-in-DumpOpen
returns-in-DumpOpen c = rw c.in-DumpOpen.is c.push_number-in-DumpOpen.ensures

pub returns-in-NoFilestore : goal.returns-in-NoFilestore
returns-in-NoFilestore c = rw c.in-NoFilestore.is c.extend-in-NoFilestore.ensures.ok

pub returns-in-RackNotMounted : goal.returns-in-RackNotMounted
returns-in-RackNotMounted c = rw (c.in-RackNotMounted.is, sym c.from-in-RackNotMounted.ensures) c.push_number-in-RackNotMounted.ensures

pub returns-in-MountFirst : goal.returns-in-MountFirst
returns-in-MountFirst c = rw (c.in-MountFirst.is, sym c.from-in-MountFirst.ensures) c.push_number-in-MountFirst.ensures

pub returns-in-TapeBusy : goal.returns-in-TapeBusy
returns-in-TapeBusy c = rw c.in-TapeBusy.is c.extend-in-TapeBusy.ensures.ok

pub returns-in-LostCopy : goal.returns-in-LostCopy
returns-in-LostCopy c = rw (c.in-LostCopy.is, sym c.from-in-LostCopy.ensures) c.push_copy-in-LostCopy.ensures

pub returns-in-NotDumped : goal.returns-in-NotDumped
returns-in-NotDumped c = rw c.in-NotDumped.is c.extend-in-NotDumped.ensures.ok

pub returns-in-RackNotEmpty : goal.returns-in-RackNotEmpty
returns-in-RackNotEmpty c = rw (c.in-RackNotEmpty.is, sym c.from-in-RackNotEmpty.ensures) c.push_number-in-RackNotEmpty.ensures

pub returns-in-LostDirectory : goal.returns-in-LostDirectory
returns-in-LostDirectory c = rw (c.in-LostDirectory.is, sym c.as_slice.ensures.characters) c.push_words-in-LostDirectory.ensures

pub returns-in-ReelNotFree : goal.returns-in-ReelNotFree
returns-in-ReelNotFree c = rw (c.in-ReelNotFree.is, sym c.from-in-ReelNotFree.ensures) c.push_number-in-ReelNotFree.ensures
