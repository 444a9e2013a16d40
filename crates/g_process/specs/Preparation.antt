-- What is prepared before anything is written, the reasons why nothing is written, and what is done afterwards.
use Rattle.std.specs.Prelude.{◌≡◌, ◌≢◌, ◌⊎◌, ℕ, ◌+◌, ◌-◌, ◌^◌, ◌<◌, true, false, List, [], map, All, Some, None, is_some, Result, Ok, Err}
use Rattle.std.specs.Option.{ForSome}
use Rattle.g_base.specs.Counts.{Rose, RoseBy}
use Rattle.g_disc.specs.Disc.{Causes}
use Rattle.g_entry.specs.declared.file_rec.TapeCopy.{TapeCopy}
use Rattle.g_entry.specs.declared.head.Intent.{Intent}
use Rattle.g_tape.specs.Rack.{AreReels, Rack, reel}
use Rattle.g_tape.specs.Reads.{OnlyReads}
use Rattle.g_plain.specs.declared.faults.StoreFault.{StoreFault}
use Rattle.g_plain.specs.declared.faults.StoreFault.TheVariants.{NoCopy, NoMemory, ReelNotFree, Stopped, TapeFull, TapeReadFault}
use Rattle.g_tree.specs.Records.{full_of}
use Rattle.g_disc_contents.specs.Commits.{Commits}
use Rattle.g_disc_contents.specs.Contents.{File, Holds, with_intent}
use Rattle.g_disc_contents.specs.Durable.{IsDurable, StopsSafely}
use Rattle.g_disc_contents.specs.Facts.{IsTied, OnlineFacts}
use Rattle.g_online.specs.declared.fault.OnlineFault.TheVariants as online
use Rattle.g_online.specs.ReadyCopies.{IsAdopting, IsReadyFor}
use Rattle.g_incr.specs.Plan.{IsPlan, Plan, first_content, needs}
use Rattle.g_shelf.specs.declared.rack.Listed.{Listed}
use Rattle.g_known.specs.ReelNotes.{AreListed}
use Rattle.g_dumper.specs.Beginning.{intent_of}
use Rattle.g_dumper.specs.Invariant.{up_with}
use Rattle.g_process.specs.declared.job.Job.{Job}
use Rattle.g_process.specs.Lists.{notes_at}
use Rattle.g_process.specs.ProcessPlan.{IsFirstLost, IsFree, IsTaken, copies_from, process_plan, versions}
use Rattle.g_process.specs.Processing.{process_refuses}
use Rattle.g_process.specs.Releases.{AreReleased, AreReleasedDurably, IsCutAt, taken}
use Rattle.g_process.specs.Progress.{HasWritten, FailedAt, FailsReading, MayWrite}

-- No refusal that needs no read applies.
pub record IsGranted (serial : ℕ) (o : OnlineFacts) (rack : Rack) : Type 0 where
  pub there : is_some (reel serial rack.reels) ≡ true
  pub mounted : All (λ r. r.mounted ≡ true) rack.reels
  pub unspent : o.contents.head.last_dump ≢ 2 ^ 62 - 1

-- The copies of all versions in the dump of this job, by stamp.
abbrev pub copies_of : Job → OnlineFacts → List (ℕ × TapeCopy)
copies_of job o = copies_from job.serial (first_content job.writer) (versions o.contents)

-- What is required before the first write: the copies are prepared, each version can be read, and every reel can be
-- written.
pub record MayCarry (o : OnlineFacts) (rack : Rack) (job : Job) : Type 0 where
  pub number_is : job.number ≡ o.contents.head.last_dump + 1
  pub intent_is : intent_of job.writer ≡ record { serial = job.serial; place = 0; number = job.number }
  pub rules : IsPlan job.writer
  pub ready : IsReadyFor job.number (copies_of job o) job.ready o
  pub writable : MayWrite job.serial job.writer job.versions.items o rack
  pub mounted : All (λ r. r.mounted ≡ true) rack.reels
  pub serials : map (λ l. l.serial) job.lists.items ≡ map (λ r. r.serial) rack.reels

-- The prepared job.
pub record IsPrepared (serial : ℕ) (o : OnlineFacts) (old new : Rack) (job : Job) : Type 0 where
  pub serial_is : job.serial ≡ serial
  pub plan : job.writer ≡ process_plan serial o
  pub versions_are : job.versions.items ≡ versions o.contents
  pub listed : AreListed old job.lists.items
  pub free : notes_at serial job.lists.items ≡ []
  pub kept : new.read_faults ≡ old.read_faults
  pub may : MayCarry o new job

-- What is known of all reels, if no refusal that needs no read applies.
pub record IsCatalogued (serial : ℕ) (o : OnlineFacts) (old new : Rack) (lists : List Listed) : Type 0 where
  pub granted : IsGranted serial o old
  pub reels : AreReels old.reels
  pub only : OnlyReads old new
  pub kept : new.read_faults ≡ old.read_faults
  pub listed : AreListed old lists

-- The part of the job that is only in memory.
pub record IsJob (serial : ℕ) (o : OnlineFacts) (writer : Plan) (lists : List Listed) (job : Job) : Type 0 where
  pub serial_is : job.serial ≡ serial
  pub number_is : job.number ≡ o.contents.head.last_dump + 1
  pub writer_is : job.writer ≡ writer
  pub versions_are : job.versions.items ≡ versions o.contents
  pub lists_are : job.lists.items ≡ lists
  pub ready : IsReadyFor job.number (copies_from serial (first_content (process_plan serial o)) (versions o.contents)) job.ready o

-- Why nothing is written, once the catalogues of the reels have been read.
abbrev pub RefusesLate : ℕ → OnlineFacts → Rack → Rack → StoreFault → Type 0
RefusesLate serial o old new TapeReadFault = Rose old.read_faults new.read_faults
RefusesLate serial o old new (ReelNotFree n) = (n ≡ serial) × IsTaken serial old × (new.read_faults ≡ old.read_faults)
RefusesLate serial o old new (NoCopy full n) =
    ((f : File) × (copy : TapeCopy) × (full ≡ full_of o.contents.users f.rec) × (n ≡ copy.serial) × IsFirstLost o old f copy)
    × IsFree serial old × (new.read_faults ≡ old.read_faults)
RefusesLate serial o old new (TapeFull need room) =
    (need ≡ needs (process_plan serial o)) × (room < need) × ForSome (reel serial old.reels) (λ r. room ≡ r.capacity)
    × IsFree serial old × (new.read_faults ≡ old.read_faults)
RefusesLate serial o old new NoMemory = new.read_faults ≡ old.read_faults
RefusesLate serial o old new fault = ⊥

-- What is planned from the catalogues.
abbrev pub PlansJob : ℕ → OnlineFacts → Rack → Rack → Result Job StoreFault → Type 0
PlansJob serial o old new (Ok job) = IsPrepared serial o old new job
PlansJob serial o old new (Err TapeReadFault) = ⊥
PlansJob serial o old new (Err fault) = RefusesLate serial o old new fault

-- The job, or a refusal: one that needs no read, or one of the others.
abbrev pub Preparing : ℕ → OnlineFacts → Rack → Result Job StoreFault → Rack → Type 0
Preparing serial o old (Ok job) new = IsGranted serial o old × IsPrepared serial o old new job
Preparing serial o old (Err fault) new =
    ((process_refuses serial (up_with o old None) ≡ Some fault) × (new ≡ old))
    ⊎ (IsGranted serial o old × RefusesLate serial o old new fault)

-- One commit wrote the intent, and nothing else has changed.
pub record HasIntended (i : Intent) (o new : OnlineFacts) : Type 0 where
  pub live : new.live ≡ true
  pub contents : new.contents ≡ with_intent (Some i) o.contents
  pub pins : new.pins ≡ None
  pub changed : new.changed ≡ o.changed
  pub touched : new.touched ≡ []
  pub told : is_some new.disc.held ≡ is_some o.disc.held
  pub blocks : ℕ
  pub commits : Commits 1 o.layout new.layout blocks
  pub writes : RoseBy blocks o.disc.writes new.disc.writes
  pub causes : Causes ⊥ ⊥ o.disc new.disc
  pub tied : IsTied new
  pub durable : IsDurable o → IsDurable new

-- The commit of the intent was stopped.
pub record StoppedIntending (i : Intent) (o new : OnlineFacts) : Type 0 where
  pub live : new.live ≡ false
  pub told : is_some new.disc.held ≡ is_some o.disc.held
  pub holds : ForSome new.disc.held (λ blocks. Holds blocks o.contents ⊎ Holds blocks (with_intent (Some i) o.contents))
  pub survives : StopsSafely (λ left. Holds left o.contents ⊎ Holds left (with_intent (Some i) o.contents)) o new
  pub causes : Causes ⊥ (Unit {0}) o.disc new.disc
  pub tied : IsTied new

-- The dump is completed on its reel, and the disc names it.
pub record HasMoved (job : Job) (o : OnlineFacts) (old : Rack) (o' : OnlineFacts) (new : Rack) : Type 0 where
  pub begun : OnlineFacts
  pub intended : HasIntended (intent_of job.writer) o begun
  pub written : HasWritten job.serial job.writer job.versions.items begun (needs job.writer) old new
  pub adopted : IsAdopting job.number (copies_of job o) begun o' (Ok tt)

-- A stop at each kind of write: of the intent, of a block of the dump, of the new copies, of a release.
pub data StopsAt (job : Job) (o : OnlineFacts) (old : Rack) (o' : OnlineFacts) (new : Rack) : Type 0 where
  AtIntent : StoppedIntending (intent_of job.writer) o o' → new ≡ old → StopsAt job o old o' new
  AtBlock : HasIntended (intent_of job.writer) o o' → (k : ℕ) → k < needs job.writer → (mid : Rack) → HasWritten job.serial job.writer job.versions.items o' k old mid
      → FailedAt job.serial job.writer job.versions.items o' k mid new → StopsAt job o old o' new
  AtCopies : (begun : OnlineFacts) → HasIntended (intent_of job.writer) o begun → HasWritten job.serial job.writer job.versions.items begun (needs job.writer) old new
      → IsAdopting job.number (copies_of job o) begun o' (Err online.Stopped) → StopsAt job o old o' new
  AtRelease : (mid : Rack) → HasMoved job o old o' mid → IsCutAt job.serial job.lists.items mid new → StopsAt job o old o' new

-- A read failed after the intent was written.
pub record FailsCarrying (job : Job) (o : OnlineFacts) (old : Rack) (fault : StoreFault) (o' : OnlineFacts) (new : Rack) : Type 0 where
  pub begun : OnlineFacts
  pub intended : HasIntended (intent_of job.writer) o begun
  pub at : ℕ
  pub less : at < needs job.writer
  pub mid : Rack
  pub written : HasWritten job.serial job.writer job.versions.items begun at old mid
  pub fails : FailsReading fault begun o' mid new

-- What is done with a job.
abbrev pub CarriesOut : Job → OnlineFacts → Rack → Result ℕ StoreFault → OnlineFacts → Rack → Type 0
CarriesOut job o old (Ok number) o' new = (number ≡ job.number) × (mid : Rack) × HasMoved job o old o' mid × AreReleased (taken job.serial job.lists.items) mid new × AreReleasedDurably (taken job.serial job.lists.items) mid new
CarriesOut job o old (Err Stopped) o' new = StopsAt job o old o' new
CarriesOut job o old (Err fault) o' new = FailsCarrying job o old fault o' new
