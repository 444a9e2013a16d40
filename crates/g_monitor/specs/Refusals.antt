-- THE NUMBERS AND TEXTS OF REFUSALS, except those of the run itself. No text here has a byte 10.
use Rattle.std.specs.Prelude.{ℕ, List, [], ◌++◌, codes}
use Rattle.g_plain.specs.declared.faults.StoreFault.{StoreFault}
use Rattle.g_plain.specs.declared.faults.StoreFault.TheVariants as fault
use Rattle.g_monitor.specs.declared.errors.CommandError.{CommandError}
use Rattle.g_monitor.specs.declared.errors.CommandError.TheVariants as error
use Rattle.g_monitor.specs.Parts.{mode_word, with_number, with_numbers, with_copy}

-- The fault is printed. Three are not: a wait for a tape is reported to the operator, a stop has a line of its own, and out of memory ends the run.
abbrev pub IsPrinted : StoreFault → Type 0
IsPrinted (fault.WaitTape serial) = ⊥
IsPrinted fault.Stopped = ⊥
IsPrinted fault.NoMemory = ⊥
IsPrinted other = Unit {0}

-- The text of a fault of a store.
abbrev pub fault_line : StoreFault → List ℕ
fault_line fault.NoUser = codes "1 NO USER"
fault_line fault.NoFile = codes "2 NO FILE"
fault_line fault.Exists = codes "3 EXISTS"
fault_line (fault.Trapped mode) = codes "4 TRAPPED " ++ mode_word mode
fault_line fault.NoGeneration = codes "5 NO GENERATION"
fault_line (fault.OverSpace need left) = with_numbers (codes "6 OVER SPACE ") need left
fault_line (fault.TooLong len) = with_number (codes "7 TOO LONG ") len
fault_line fault.DirectoryFull = codes "8 DIRECTORY FULL"
fault_line fault.UsersFull = codes "9 USERS FULL"
fault_line fault.TrapsFull = codes "10 TRAPS FULL"
fault_line (fault.WaitTape serial) = []
fault_line (fault.NoCopy full serial) = with_copy (codes "12 NO COPY ") full serial
fault_line (fault.DiscFull need room) = with_numbers (codes "13 DISC FULL ") need room
fault_line fault.DiscReadFault = codes "14 DISC READ"
fault_line fault.TapeReadFault = codes "15 TAPE READ"
fault_line fault.Stopped = []
fault_line fault.NoMemory = []
fault_line fault.NotOwner = codes "18 NOT OWNER"
fault_line fault.CountersSpent = codes "19 COUNTERS SPENT"
fault_line fault.NotStarted = codes "20 NOT STARTED"
fault_line fault.NotMounted = codes "21 NOT MOUNTED"
fault_line (fault.TapeFull need room) = with_numbers (codes "22 TAPE FULL ") need room
fault_line (fault.DumpOpen number) = with_number (codes "23 DUMP OPEN ") number
fault_line fault.NoTape = codes "24 NO TAPE"
fault_line fault.NoFilestore = codes "25 NO FILESTORE"
fault_line fault.NoDump = codes "26 NO DUMP"
fault_line (fault.RackNotMounted serial) = with_number (codes "27 RACK NOT MOUNTED ") serial
fault_line (fault.MountFirst serial) = with_number (codes "28 MOUNT FIRST ") serial
fault_line fault.TapeBusy = codes "29 TAPE BUSY"
fault_line (fault.LostCopy full serial) = with_copy (codes "30 LOST COPY ") full serial
fault_line fault.NotDumped = codes "31 NOT DUMPED"
fault_line fault.Offline = codes "32 OFFLINE"
fault_line fault.Running = codes "33 RUNNING"
fault_line (fault.RackNotEmpty serial) = with_number (codes "34 RACK NOT EMPTY ") serial
fault_line (fault.LostDirectory user) = codes "35 LOST DIRECTORY :" ++ user
fault_line (fault.ReelNotFree serial) = with_number (codes "36 REEL NOT FREE ") serial

-- The text of a command's error that isn't a store's fault.
abbrev pub error_line : CommandError → List ℕ
error_line (error.BadLine place) = with_number (codes "50 BAD LINE ") place
error_line error.UnknownVerb = codes "51 UNKNOWN VERB"
error_line error.TooDeep = codes "52 TOO DEEP"
error_line error.NoLabel = codes "53 NO LABEL"
error_line error.NoProgram = codes "54 NO PROGRAM"
error_line error.NotHalted = codes "55 NOT HALTED"
error_line (error.BadProgram line) = with_number (codes "56 BAD PROGRAM ") line
error_line error.NotAssigned = codes "57 NOT ASSIGNED"
error_line error.InUse = codes "58 IN USE"
error_line (error.BadParameter index) = with_number (codes "59 BAD PARAMETER ") index
error_line error.WheneversFull = codes "60 WHENEVERS FULL"
error_line (error.BadPlan line) = with_number (codes "61 BAD PLAN ") line

-- The number of an error.
abbrev pub error_number : CommandError → ℕ
error_number (error.BadLine place) = 50
error_number error.UnknownVerb = 51
error_number error.TooDeep = 52
error_number error.NoLabel = 53
error_number error.NoProgram = 54
error_number error.NotHalted = 55
error_number (error.BadProgram line) = 56
error_number error.NotAssigned = 57
error_number error.InUse = 58
error_number (error.BadParameter index) = 59
error_number error.WheneversFull = 60
error_number (error.BadPlan line) = 61
