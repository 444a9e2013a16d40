-- The dump of the intent is adopted, or isn't.
-- serves: find_named (only), take_named, take_over (takes)
use Rattle.std.proofs.Common.{◌≡◌, ℕ, true, false, List, Option, Some, None, Ok, Err, refl, subst, ◌∙◌, ap, inl, inr}
use Rattle.std.specs.Prelude.{◌⊎◌, Bool, IfSome, Result, if◌then◌else◌}
use Rattle.std.specs.Option.{ForSome}
use Rattle.g_disc.proofs.CallLemmas.{Causes-for}
use Rattle.g_entry.specs.declared.file_rec.FileRec.{FileRec}
use Rattle.g_entry.specs.declared.head.Intent.{Intent}
use Rattle.g_entry.specs.HeadFields as head
use Rattle.g_tape.specs.Rack.{Rack, is_mounted, reel, refuses_unmount}
use Rattle.g_tape.specs.Reads.{OnlyReads, blocks_in}
use Rattle.g_tape.specs.Reel.{Reel}
use Rattle.g_tape.specs.declared.fault.TapeFault.TheVariants as tape
use Rattle.g_plain.specs.declared.faults.StoreFault.{StoreFault}
use Rattle.g_plain.specs.declared.faults.StoreFault.TheVariants.{CountersSpent, DirectoryFull, DiscFull, DiscReadFault, DumpOpen, Exists, LostCopy, LostDirectory, MountFirst, NoCopy, NoDump, NoFile, NoFilestore, NoGeneration, NoMemory, NoTape, NoUser, NotDumped, NotMounted, NotOwner, NotStarted, Offline, OverSpace, RackNotEmpty, RackNotMounted, ReelNotFree, Running, Stopped, TapeBusy, TapeFull, TapeReadFault, TooLong, Trapped, TrapsFull, UsersFull, WaitTape}
use Rattle.g_disc_contents.specs.Facts.{IsTied, OnlineFacts}
use Rattle.g_incr.specs.declared.fault.ShelfFault.{ShelfFault}
use Rattle.g_incr.specs.declared.fault.ShelfFault.TheVariants as shelf
use Rattle.g_incr.specs.Faults.{store_fault}
use Rattle.g_incr.specs.Reading.{ReadsReel}
use Rattle.g_incr.specs.Layout.{Dump}
use Rattle.g_online.specs.declared.change.Change.{Change}
use Rattle.g_online.specs.Outcomes.{HasChanged, HasStopped}
use Rattle.g_shelf.specs.CompletedDumps.{AreCompleted}
use Rattle.g_store.specs.Starting.{Adopts, HasNamed, IsIntent, IsNamed, NamesNone, Takes, TakesNamed, TakesOver}
use Rattle.g_base.specs.Counts.{Rose}
use Rattle.g_tape.proofs.ReadLemmas.{more_reads}
use Rattle.g_shelf.proofs.LastLemmas.{only_these}
use Rattle.g_shelf.proofs.ReadLemmas.{refuses_after_reads}

module _ (o : OnlineFacts) (rack : Rack) (tied : IsTied o) where
  module _ (i : Intent) (is : o.contents.head.intent ≡ Some i) where
    module _ (mounted : is_mounted (reel i.serial rack.reels) ≡ true) (after : Rack) (only : OnlyReads rack after) where
      -- it is adopted
      module _ (kept : after.read_faults ≡ rack.read_faults) (files : List FileRec) (named : HasNamed i rack files) (new : OnlineFacts) where
        pub taken : Adopts i.number files o (Ok tt) new → TakesOver o rack (Ok (Some i.number)) new after
        taken done = record {
          takes = (record { intent = i; is = record { is = is; mounted_is = mounted }; files = files; found = named; leaves = done.ok }, refl);
          causes = Causes-for (λ p. p) (λ p. p) (λ e. absurd (let no : ⊥ = cc in no)) (λ e. let no : ⊥ = cc in absurd no) done.causes;
          tied = done.tied;
          told = done.told;
          reads = only;
          kept = λ no. kept;
          rose = λ e. let no : ⊥ = cc in absurd no;
        }

-- THE RACK WAS MADE DURABLE before: its reels are the same
module _ (o new : OnlineFacts) (rack mid after : Rack) (secured : mid ≡ record rack { risks = mid.risks }) (only : OnlyReads rack mid) where
  same_reels : mid.reels ≡ rack.reels
  same_reels = ap (λ (r : Rack). r.reels) secured

  same_faults : mid.read_faults ≡ rack.read_faults
  same_faults = ap (λ (r : Rack). r.read_faults) secured

  intent_as : (mounted : Bool) (i : Intent) → IsIntent o mid mounted i → IsIntent o rack mounted i
  intent_as mounted i named = record { is = named.is; mounted_is = subst (λ (rs : List Reel). is_mounted (reel i.serial rs) ≡ mounted) same_reels named.mounted_is }

  named_as : (i : Intent) (files : List FileRec) → HasNamed i mid files → HasNamed i rack files
  named_as i files named = record {
    dump = named.dump;
    rules = named.rules;
    files_are = named.files_are;
    named = subst (λ (rs : List Reel). ForSome (blocks_in (reel i.serial rs)) (λ blocks. (dumps : List Dump) → AreCompleted i.serial blocks dumps → IsNamed i dumps named.dump)) same_reels named.named;
  }

  takes_named : (Leaves : Change → Type 0) → TakesNamed o mid Leaves → TakesNamed o rack Leaves
  takes_named Leaves t = record { intent = t.intent; is = intent_as true t.intent t.is; files = t.files; found = named_as t.intent t.files t.found; leaves = t.leaves }

  takes_as : (result : Result (Option ℕ) StoreFault) → Takes o mid result new → Takes o rack result new
  takes_as (Ok None) t = record {
    same = t.same;
    none = subst (λ (rs : List Reel). IfSome o.contents.head.intent (λ i. (is_mounted (reel i.serial rs) ≡ true) × NamesNone i (record rack { reels = rs }))) same_reels t.none;
  }
  takes_as (Ok (Some n)) (t, is) =
      (record { intent = t.intent; is = intent_as true t.intent t.is; files = t.files; found = named_as t.intent t.files t.found; leaves = t.leaves }, is)
  takes_as (Err (MountFirst n)) (same, i, named, at) = (same, i, intent_as false i named, at)
  takes_as (Err TapeReadFault) (same, up) =
      (same, subst (λ (rs : List Reel). IfSome o.contents.head.intent (λ i. is_mounted (reel i.serial rs) ≡ true)) same_reels up)
  takes_as (Err Stopped) t = takes_named (λ change. HasStopped change o new) t
  takes_as (Err NoMemory) t = t
  takes_as (Err NoUser) never = absurd never
  takes_as (Err NoFile) never = absurd never
  takes_as (Err Exists) never = absurd never
  takes_as (Err (Trapped m)) never = absurd never
  takes_as (Err NoGeneration) never = absurd never
  takes_as (Err (TooLong n)) never = absurd never
  takes_as (Err DirectoryFull) never = absurd never
  takes_as (Err UsersFull) never = absurd never
  takes_as (Err TrapsFull) never = absurd never
  takes_as (Err (WaitTape n)) never = absurd never
  takes_as (Err (NoCopy full n)) never = absurd never
  takes_as (Err DiscReadFault) never = absurd never
  takes_as (Err NotOwner) never = absurd never
  takes_as (Err CountersSpent) never = absurd never
  takes_as (Err NotStarted) never = absurd never
  takes_as (Err NotMounted) never = absurd never
  takes_as (Err (DumpOpen n)) never = absurd never
  takes_as (Err NoTape) never = absurd never
  takes_as (Err NoFilestore) never = absurd never
  takes_as (Err NoDump) never = absurd never
  takes_as (Err (RackNotMounted n)) never = absurd never
  takes_as (Err TapeBusy) never = absurd never
  takes_as (Err (LostCopy full n)) never = absurd never
  takes_as (Err NotDumped) never = absurd never
  takes_as (Err Offline) never = absurd never
  takes_as (Err Running) never = absurd never
  takes_as (Err (RackNotEmpty n)) never = absurd never
  takes_as (Err (LostDirectory user)) never = absurd never
  takes_as (Err (ReelNotFree n)) never = absurd never
  takes_as (Err (OverSpace a b)) never = absurd never
  takes_as (Err (DiscFull a b)) never = absurd never
  takes_as (Err (TapeFull a b)) never = absurd never

  pub takes_secured : (result : Result (Option ℕ) StoreFault) → TakesOver o mid result new after → TakesOver o rack result new after
  takes_secured result t = record {
    takes = takes_as result t.takes;
    causes = t.causes;
    tied = t.tied;
    told = t.told;
    reads = more_reads rack mid after only t.reads;
    kept = λ other. t.kept other ∙ same_faults;
    rose = λ is. subst (λ (n : ℕ). Rose n after.read_faults) same_faults (t.rose is);
  }

-- READING THE REEL, which is mounted
up_by : (o : Option Reel) → is_mounted o ≡ true → refuses_unmount o ≡ None
up_by None up = let no : ⊥ = cc in absurd no
up_by (Some r) up = ap (λ (b : Bool). if b then None else Some tape.NotMounted) up

-- also if it was read before
pub fault_then : {A : Type 0} (serial : ℕ) (fault : ShelfFault) (old mid new : Rack) → is_mounted (reel serial old.reels) ≡ true → OnlyReads old mid → ReadsReel {A = A} serial (Err fault) mid new
    → (store_fault fault ≡ TapeReadFault) ⊎ (store_fault fault ≡ NoMemory)
fault_then serial fault old mid new mounted only reads =
    by_fault (only_these serial fault mid new (refuses_after_reads serial old mid only ∙ up_by (reel serial old.reels) mounted) reads)
  where
    by_fault : (fault ≡ shelf.ReadFault) ⊎ (fault ≡ shelf.NoMemory) → (store_fault fault ≡ TapeReadFault) ⊎ (store_fault fault ≡ NoMemory)
    by_fault (inl is) = inl (ap store_fault is)
    by_fault (inr is) = inr (ap store_fault is)
