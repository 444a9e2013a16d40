-- The text that a look prints, the status with which it ends, and the cause of each.
use Rattle.std.specs.Prelude.{◌≡◌, ◌≢◌, ◌⊎◌, ℕ, List, [], ◌∷◌, ◌++◌, Option, Some, None, Bool, true, false, Result, Ok, Err, codes}
use Rattle.std.specs.Fmt.{decimal}
use Rattle.std.specs.Option.{ForSome}
use Rattle.g_base.specs.Counts.{Rose}
use Rattle.g_dirs.specs.Directory.{Directory}
use Rattle.g_dirs.specs.Image.{StandsFor}
use Rattle.g_disc.specs.Disc.{DiscState}
use Rattle.g_incr.specs.Layout.{Dump}
use Rattle.g_io.specs.Streams.{HasPutPart, with_more}
use Rattle.g_lines.specs.Lines.{text_of}
use Rattle.g_name.specs.declared.path.Path.{Path}
use Rattle.g_tape.specs.Rack.{Rack}
use Rattle.g_tape.specs.Reads.{OnlyReads}
use Rattle.g_tape.specs.Reel.{Reel}
use Rattle.g_look.specs.declared.broken.Broken.{Broken}
use Rattle.g_look.specs.declared.checking.Checked.{Checked}
use Rattle.g_look.specs.declared.fault.LookFault.{LookFault}
use Rattle.g_look.specs.declared.fault.LookFault.TheVariants as fault
use Rattle.g_look.specs.declared.restoring.Given.{Given}
use Rattle.g_look.specs.Lists.{IsListed, IsNobody, IsRestorable}
use Rattle.g_look.specs.ShownBytes.{IsLost, IsNoFile, IsShown}
use Rattle.g_look.specs.Text.{IsChecked, rack_lines}
use Rattle.g_seal.specs.declared.entries.SealedDump.{SealedDump}
use Rattle.g_seal.specs.declared.entries.SealedFile.{SealedFile}
use Rattle.g_seal.specs.declared.parse.SealFault.{SealFault}
use Rattle.g_seal.specs.declared.parse.SealFault.TheVariants as refusal
use Rattle.g_seal.specs.declared.sealing.Sealed.{Sealed}
use Rattle.g_seal.specs.declared.twins.Twins.{Twins}
use Rattle.g_seal.specs.Rotten.{IsReport}
use Rattle.g_seal.specs.Sealing.{HasLost, IsSealed}
use Rattle.g_look_program.specs.declared.status.Status.{Status}
use Rattle.g_look_program.specs.declared.status.Status.TheVariants as status

-- What was written to a sink before and after a look, and the counts of its faults.
pub record Written : Type 0 where
  pub before : Option (List ℕ)
  pub after : Option (List ℕ)
  pub faults_before : ℕ
  pub faults_after : ℕ

-- Nothing was written.
pub record IsQuiet (w : Written) : Type 0 where
  pub same : w.after ≡ w.before
  pub kept : w.faults_after ≡ w.faults_before

-- The whole text was written.
pub record IsWhole (text : List ℕ) (w : Written) : Type 0 where
  pub all : w.after ≡ with_more w.before text
  pub kept : w.faults_after ≡ w.faults_before

-- The sink failed after a prefix of the text.
pub record IsCut (text : List ℕ) (w : Written) : Type 0 where
  pub part : HasPutPart w.before text w.after
  pub rose : Rose w.faults_before w.faults_after

-- The sink failed after a prefix of one of these texts.
abbrev pub IsCutOf : (List ℕ → Type 0) → Written → Type 0
IsCutOf IsSo w = (text : List ℕ) × IsSo text × IsCut text w

-- The line that is printed instead of a text.
abbrev pub IsFaultLine : List ℕ → Type 0
IsFaultLine text = (text ≡ codes "DISC READ\n") ⊎ ((text ≡ codes "TAPE READ\n") ⊎ ((text ≡ codes "NO FILESTORE\n") ⊎ ((text ≡ codes "NO USER\n") ⊎ (text ≡ codes "NO COPY\n"))))

-- The line of a check that couldn't read a device.
abbrev pub IsReadLine : List ℕ → Type 0
IsReadLine text = (text ≡ codes "DISC READ\n") ⊎ (text ≡ codes "TAPE READ\n")

-- A TEXT IS PRINTED; the status is `due`, unless the sink fails.
abbrev pub Puts : Status → List ℕ → Status → Written → Type 0
Puts due text ended w = ((ended ≡ due) × IsWhole text w) ⊎ ((ended ≡ status.OutputFault) × IsCut text w)

-- The look ends with this status, and nothing is printed.
abbrev pub EndsQuietly : Status → Status → Written → Type 0
EndsQuietly due ended w = (ended ≡ due) × IsQuiet w

-- THE TEXT AND THE STATUS OF A FAULT.
abbrev pub TellsFault : LookFault → Status → Written → Type 0
TellsFault fault.DiscUnread ended w = Puts status.Unread (codes "DISC READ\n") ended w
TellsFault fault.TapeUnread ended w = Puts status.Unread (codes "TAPE READ\n") ended w
TellsFault fault.NoFilestore ended w = Puts status.No (codes "NO FILESTORE\n") ended w
TellsFault fault.NoUser ended w = Puts status.No (codes "NO USER\n") ended w
TellsFault fault.NoFile ended w = EndsQuietly status.No ended w
TellsFault fault.NoCopy ended w = Puts status.No (codes "NO COPY\n") ended w
TellsFault fault.NoMemory ended w = EndsQuietly status.NoMemory ended w

-- The status of a fault for which nothing is printed.
abbrev pub status_of : LookFault → Status
status_of fault.DiscUnread = status.Unread
status_of fault.TapeUnread = status.Unread
status_of fault.NoFilestore = status.No
status_of fault.NoUser = status.No
status_of fault.NoFile = status.No
status_of fault.NoCopy = status.No
status_of fault.NoMemory = status.NoMemory

-- The text, or the fault for which there is none.
abbrev pub Tells : Result (List ℕ) LookFault → Status → Written → Type 0
Tells (Ok text) ended w = Puts status.Done text ended w
Tells (Err why) ended w = TellsFault why ended w

-- The bytes of a file, or nothing.
abbrev pub TellsBytes : Result (List ℕ) LookFault → Status → Written → Type 0
TellsBytes (Ok bytes) ended w = Puts status.Done bytes ended w
TellsBytes (Err why) ended w = EndsQuietly (status_of why) ended w

-- The status of a check: the broken rule, the missing dump, and whether the disc holds a filestore.
abbrev pub verdict : Option Broken → Option ℕ → Bool → Status
verdict (Some broken) missing filestore = status.No
verdict None (Some number) filestore = status.No
verdict None None true = status.Done
verdict None None false = status.Nothing

-- The text of a check is printed, with the status of its verdict; or the fault for which there is none.
abbrev pub TellsCheck : Result Checked LookFault → Status → Written → Type 0
TellsCheck (Ok c) ended w = Puts (verdict c.verdict.broken c.verdict.missing c.filestore) c.text ended w
TellsCheck (Err why) ended w = TellsFault why ended w

-- The status of a seal: whether the disc holds a filestore.
abbrev pub seal_status : Bool → Status
seal_status true = status.Done
seal_status false = status.Nothing

-- What is printed of a seal.
abbrev pub TellsSeal : Result Sealed LookFault → Status → Written → Type 0
TellsSeal (Ok s) ended w = Puts (seal_status s.filestore) s.text ended w
TellsSeal (Err why) ended w = TellsFault why ended w

-- The status of what a restore would give, with the dump that is missing, or of its refusal.
abbrev pub outcome : Bool → Option ℕ → Status
outcome true None = status.Done
outcome true (Some number) = status.No
outcome false missing = status.No

-- The text of what a restore would give is printed, with its status; or the fault for which there is none.
abbrev pub TellsGiven : Result Given LookFault → Status → Written → Type 0
TellsGiven (Ok r) ended w = Puts (outcome r.given r.missing) r.text ended w
TellsGiven (Err why) ended w = TellsFault why ended w

-- The disc represents a filestore.
abbrev pub HoldsOne : Option (List (List ℕ)) → Type 0
HoldsOne held = (blocks : List (List ℕ)) × (held ≡ Some blocks) × (d : Directory) × StandsFor blocks d

-- The text of a check with this verdict on the rules 1 to 12 and on rule 13.
abbrev pub IsTextOf : ℕ → Option (List (List ℕ)) → List Reel → Option Broken → Option ℕ → Written → Type 0
IsTextOf size held reels broken missing w = (text : List ℕ) × IsChecked size held reels broken missing text × IsWhole text w

-- THE END OF A CHECK of devices that expose their blocks: its text is printed, and the status says whether they belong together and no dump is
-- missing, and whether the disc holds a filestore. Or a device, the sink or memory failed; if the sink failed, a prefix of the due text was printed.
abbrev pub EndsCheck : Status → ℕ → Option (List (List ℕ)) → List Reel → Written → Type 0
EndsCheck status.Done size held reels w = IsTextOf size held reels None None w × HoldsOne held
EndsCheck status.Nothing size held reels w = IsTextOf size held reels None None w × (HoldsOne held → ⊥)
EndsCheck status.No size held reels w =
    ((b : Broken) × (missing : Option ℕ) × IsTextOf size held reels (Some b) missing w) ⊎ ((n : ℕ) × IsTextOf size held reels None (Some n) w)
EndsCheck status.Unread size held reels w = IsWhole (codes "DISC READ\n") w ⊎ IsWhole (codes "TAPE READ\n") w
EndsCheck status.OutputFault size held reels w = IsCutOf (λ text. ((broken : Option Broken) × (missing : Option ℕ) × IsChecked size held reels broken missing text) ⊎ IsReadLine text) w
EndsCheck status.NoMemory size held reels w = IsQuiet w
EndsCheck status.Words size held reels w = ⊥
EndsCheck status.NoSeal size held reels w = ⊥

-- THE END OF A CHECK of two racks that expose their blocks, after a check of the first that ended with the status `so_far`. If no reel differs,
-- nothing is printed; otherwise the lines of those that do. Or a reel couldn't be read, or memory ran out.
abbrev pub EndsTwins : Status → List ℕ → Status → Written → Type 0
EndsTwins so_far text ended w =
    ((text ≡ []) × EndsQuietly so_far ended w)
    ⊎ (((text ≢ []) × Puts status.No text ended w) ⊎ (Puts status.Unread (codes "TAPE READ\n") ended w ⊎ EndsQuietly status.NoMemory ended w))

-- The status is that of a check that ended.
abbrev pub IsToldOf : Status → Type 0
IsToldOf status.Done = Unit {0}
IsToldOf status.No = Unit {0}
IsToldOf status.Nothing = Unit {0}
IsToldOf ended = ⊥

-- The text is printed, and the status is No; or memory for it ran out. If it is empty, nothing is printed, and no memory is needed.
abbrev pub EndsLines : Status → List ℕ → Status → Written → Type 0
EndsLines so_far text ended w =
    ((text ≡ []) × EndsQuietly so_far ended w) ⊎ ((text ≢ []) × (Puts status.No text ended w ⊎ EndsQuietly status.NoMemory ended w))

-- THE END OF A CHECK AGAINST A SEAL in a second rack, after one of the first that ended with the status `so_far`. After a failure nothing is printed.
abbrev pub EndsRottenTwins : Status → List ℕ → Status → Written → Type 0
EndsRottenTwins so_far text ended w = (IsToldOf so_far × EndsLines so_far text ended w) ⊎ ((IsToldOf so_far → ⊥) × EndsQuietly so_far ended w)

-- THE END OF A LOOK AT THE DUMPS, if the reels expose their blocks.
abbrev pub EndsDumps : Status → (ℕ → List Dump) → List Reel → Written → Type 0
EndsDumps status.Done shelf reels w = IsWhole (text_of (rack_lines shelf reels)) w
EndsDumps status.Unread shelf reels w = IsWhole (codes "TAPE READ\n") w
EndsDumps status.OutputFault shelf reels w = IsCutOf (λ text. (text ≡ text_of (rack_lines shelf reels)) ⊎ IsFaultLine text) w
EndsDumps status.NoMemory shelf reels w = IsQuiet w
EndsDumps other shelf reels w = ⊥

-- THE END OF A LIST of what a disc represents that exposes its blocks.
abbrev pub EndsList : Status → List (List ℕ) → Option (List ℕ) → Written → Type 0
EndsList status.Done blocks only w = (text : List ℕ) × IsListed blocks only text × IsWhole text w
EndsList status.No blocks only w =
    (((d : Directory) → StandsFor blocks d → ⊥) × IsWhole (codes "NO FILESTORE\n") w) ⊎ (IsNobody blocks only × IsWhole (codes "NO USER\n") w)
EndsList status.Unread blocks only w = IsWhole (codes "DISC READ\n") w
EndsList status.OutputFault blocks only w = IsCutOf (λ text. IsListed blocks only text ⊎ IsFaultLine text) w
EndsList status.NoMemory blocks only w = IsQuiet w
EndsList other blocks only w = ⊥

-- The reason why no bytes are shown: no filestore, no file, or its copy is nowhere.
abbrev pub HasNoBytes : List (List ℕ) → List Dump → Path → Type 0
HasNoBytes blocks dumps path = ((d : Directory) → StandsFor blocks d → ⊥) ⊎ (IsNoFile blocks path ⊎ IsLost blocks dumps path)

-- THE END OF A LOOK AT A FILE, if disc and reels expose their blocks: its bytes are printed, and in no case anything else.
abbrev pub EndsShow : Status → List (List ℕ) → List Dump → Path → Written → Type 0
EndsShow status.Done blocks dumps path w = (text : List ℕ) × IsShown blocks dumps path text × IsWhole text w
EndsShow status.No blocks dumps path w = HasNoBytes blocks dumps path × IsQuiet w
EndsShow status.Unread blocks dumps path w = IsQuiet w
EndsShow status.OutputFault blocks dumps path w = IsCutOf (IsShown blocks dumps path) w
EndsShow status.NoMemory blocks dumps path w = IsQuiet w
EndsShow other blocks dumps path w = ⊥

-- THE END OF A LOOK AT WHAT CAN BE RESTORED from reels that expose their blocks.
abbrev pub EndsGiven : Status → List Dump → Written → Type 0
EndsGiven status.Done dumps w = (text : List ℕ) × IsRestorable dumps true None text × IsWhole text w
EndsGiven status.No dumps w =
    (text : List ℕ) × (((n : ℕ) × IsRestorable dumps true (Some n) text) ⊎ IsRestorable dumps false None text) × IsWhole text w
EndsGiven status.Unread dumps w = IsWhole (codes "TAPE READ\n") w
EndsGiven status.OutputFault dumps w = IsCutOf (λ text. ((given : Bool) × (missing : Option ℕ) × IsRestorable dumps given missing text) ⊎ IsFaultLine text) w
EndsGiven status.NoMemory dumps w = IsQuiet w
EndsGiven other dumps w = ⊥

-- The text of a seal was printed.
abbrev pub IsSealOf : Option (List (List ℕ)) → List Reel → Written → Type 0
IsSealOf held reels w = (text : List ℕ) × IsSealed held reels text × IsWhole text w

-- THE END OF A SEAL of devices that expose their contents: its text, and whether the disc holds a filestore; or a file has its bytes nowhere.
abbrev pub EndsSeal : Status → Option (List (List ℕ)) → List Reel → Written → Type 0
EndsSeal status.Done held reels w = IsSealOf held reels w × HoldsOne held
EndsSeal status.Nothing held reels w = IsSealOf held reels w × (HoldsOne held → ⊥)
EndsSeal status.No held reels w = ForSome held (λ blocks. HasLost blocks reels) × IsWhole (codes "NO COPY\n") w
EndsSeal status.Unread held reels w = IsWhole (codes "DISC READ\n") w ⊎ IsWhole (codes "TAPE READ\n") w
EndsSeal status.OutputFault held reels w = IsCutOf (λ text. IsSealed held reels text ⊎ IsFaultLine text) w
EndsSeal status.NoMemory held reels w = IsQuiet w
EndsSeal status.Words held reels w = ⊥
EndsSeal status.NoSeal held reels w = ⊥

-- The line of a seal that is unknown is printed, or memory ran out.
abbrev pub TellsLine : ℕ → Status → Written → Type 0
TellsLine k ended w = Puts status.NoSeal (codes "SEAL LINE " ++ decimal k ++ 10 ∷ []) ended w ⊎ EndsQuietly status.NoMemory ended w

-- THE TEXT AND THE STATUS OF A TEXT THAT ISN'T A SEAL.
abbrev pub TellsRefusal : SealFault → Status → Written → Type 0
TellsRefusal refusal.NotEnded ended w = Puts status.NoSeal (codes "SEAL NOT ENDED\n") ended w
TellsRefusal refusal.WithoutSum ended w = Puts status.NoSeal (codes "SEAL WITHOUT SUM\n") ended w
TellsRefusal refusal.OtherSum ended w = Puts status.NoSeal (codes "SEAL WITH OTHER SUM\n") ended w
TellsRefusal (refusal.Line k) ended w = TellsLine k ended w
TellsRefusal refusal.NoMemory ended w = EndsQuietly status.NoMemory ended w

-- What is printed of a check against a seal with this report: the text of the check, and the report after it. The status is that of the check if
-- the report is empty.
abbrev pub TellsReport : Checked → List ℕ → Status → Written → Type 0
TellsReport c [] ended w = TellsCheck (Ok c) ended w
TellsReport c (byte ∷ report) ended w = Puts status.No (c.text ++ byte ∷ report) ended w ⊎ EndsQuietly status.NoMemory ended w

-- A check against a seal with these dumps and files: what a check finds, the text of a check, and the report after it, which isn't empty.
pub record IsCompared (size : ℕ) (held : Option (List (List ℕ))) (reels : List Reel) (twins : Twins) (dumps : List SealedDump) (files : List SealedFile) (text : List ℕ) : Type 0 where
  pub broken : Option Broken
  pub missing : Option ℕ
  pub front : List ℕ
  pub checked : IsChecked size held reels broken missing front
  pub report : List ℕ
  pub reported : IsReport held reels twins dumps files report
  pub some : report ≢ []
  pub text_is : text ≡ front ++ report

-- A device, the sink or memory failed.
abbrev pub IsFailed : Status → Type 0
IsFailed status.Unread = Unit {0}
IsFailed status.OutputFault = Unit {0}
IsFailed status.NoMemory = Unit {0}
IsFailed ended = ⊥

-- THE END OF A CHECK AGAINST A SEAL of devices that expose their blocks, whose seal has these dumps and files, and a second rack these twins of them. If the report is empty, it is the end of
-- a check. Otherwise the text of the check and the report are printed, and the status is No.
abbrev pub EndsReport : Status → ℕ → Option (List (List ℕ)) → List Reel → Twins → List SealedDump → List SealedFile → Written → Type 0
EndsReport ended size held reels twins dumps files w =
    (EndsCheck ended size held reels w × (IsFailed ended ⊎ IsReport held reels twins dumps files []))
    ⊎ ((text : List ℕ) × IsCompared size held reels twins dumps files text × Puts status.No text ended w)

-- A LOOK LEAVES THE DISC unchanged, except for the count of failed reads.
pub record LeavesDisc (before after : DiscState) : Type 0 where
  pub held : after.held ≡ before.held
  pub size : after.size ≡ before.size
  pub write_faults : after.write_faults ≡ before.write_faults
  pub writes : after.writes ≡ before.writes
  pub fuse : after.fuse ≡ before.fuse
  pub arms : after.arms ≡ before.arms

-- THE EFFECT OF A LOOK with this status on disc and rack: it reads them. If the status says so, a block couldn't be read.
pub record Looked (ended : Status) (disc disc_after : DiscState) (rack rack_after : Rack) : Type 0 where
  pub disc_left : LeavesDisc disc disc_after
  pub rack_left : OnlyReads rack rack_after
  pub cause : ended ≡ status.Unread → Rose disc.read_faults disc_after.read_faults ⊎ Rose rack.read_faults rack_after.read_faults
  pub quiet : (ended ≡ status.Unread → ⊥) → (ended ≡ status.OutputFault → ⊥)
      → (disc_after.read_faults ≡ disc.read_faults) × (rack_after.read_faults ≡ rack.read_faults)

-- The status is OutputFault if and only if the sink failed.
pub record SinkCause (ended : Status) (w : Written) : Type 0 where
  pub rose : ended ≡ status.OutputFault → Rose w.faults_before w.faults_after
  pub kept : (ended ≡ status.OutputFault → ⊥) → w.faults_after ≡ w.faults_before
