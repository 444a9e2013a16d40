-- The numbers of the faults.
use Rattle.std.specs.Prelude.{ℕ}
use Rattle.g_plain.specs.declared.faults.StoreFault.{StoreFault}
use Rattle.g_plain.specs.declared.faults.StoreFault.TheVariants as fault

-- The number of a fault, as texts and the manual show it.
abbrev pub fault_number : StoreFault → ℕ
fault_number fault.NoUser = 1
fault_number fault.NoFile = 2
fault_number fault.Exists = 3
fault_number (fault.Trapped mode) = 4
fault_number fault.NoGeneration = 5
fault_number (fault.OverSpace need left) = 6
fault_number (fault.TooLong len) = 7
fault_number fault.DirectoryFull = 8
fault_number fault.UsersFull = 9
fault_number fault.TrapsFull = 10
fault_number (fault.WaitTape serial) = 11
fault_number (fault.NoCopy full serial) = 12
fault_number (fault.DiscFull need room) = 13
fault_number fault.DiscReadFault = 14
fault_number fault.TapeReadFault = 15
fault_number fault.Stopped = 16
fault_number fault.NoMemory = 17
fault_number fault.NotOwner = 18
fault_number fault.CountersSpent = 19
fault_number fault.NotStarted = 20
fault_number fault.NotMounted = 21
fault_number (fault.TapeFull need room) = 22
fault_number (fault.DumpOpen number) = 23
fault_number fault.NoTape = 24
fault_number fault.NoFilestore = 25
fault_number fault.NoDump = 26
fault_number (fault.RackNotMounted serial) = 27
fault_number (fault.MountFirst serial) = 28
fault_number fault.TapeBusy = 29
fault_number (fault.LostCopy full serial) = 30
fault_number fault.NotDumped = 31
fault_number fault.Offline = 32
fault_number fault.Running = 33
fault_number (fault.RackNotEmpty serial) = 34
fault_number (fault.LostDirectory user) = 35
fault_number (fault.ReelNotFree serial) = 36
