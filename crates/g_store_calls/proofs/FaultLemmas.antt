-- Faults of a read of the disc, as a store reports them.
-- serves: disc_bytes, AppendCodeLemmas
use Rattle.std.proofs.Common.{◌≡◌, ℕ, ◌<◌, List, Result, Err, inl, inr, refl}
use Rattle.std.specs.Prelude.{◌⊎◌}
use Rattle.g_disc.specs.Disc.{ReadsByCause}
use Rattle.g_disc.proofs.CallLemmas.{ReadsByCause-for}
use Rattle.g_plain.specs.declared.faults.StoreFault.{StoreFault}
use Rattle.g_disc_contents.specs.Contents.{File}
use Rattle.g_disc_contents.specs.Facts.{IsTied, OnlineFacts}
use Rattle.g_online.specs.declared.fault.OnlineFault.{OnlineFault}
use Rattle.g_online.specs.declared.fault.OnlineFault.TheVariants.{DiscFull, ReadFault, Stopped, NoFilestore, NoMemory}
use Rattle.g_online.specs.Faults.{store_fault_of}
use Rattle.g_store_calls.specs.FetchedBytes.{HasReadDisc}

-- what a read may answer
abbrev pub IsReadFault : OnlineFault → Type 0
IsReadFault e = (e ≡ ReadFault) ⊎ (e ≡ NoMemory)

abbrev pub Unread : OnlineFault → Type 0
Unread e = let r : Result (List ℕ) OnlineFault = Err e in r ≡ Err ReadFault

pub other_read : (e : OnlineFault) → (e ≡ ReadFault → ⊥) → (e ≡ NoMemory → ⊥) → IsReadFault e → ⊥
other_read e not_read not_memory (inl is) = not_read is
other_read e not_read not_memory (inr is) = not_memory is

pub full_no_read : (need room : ℕ) → IsReadFault (DiscFull need room) → ⊥
full_no_read need room only = other_read (DiscFull need room) (λ is. let no : ⊥ = cc in no) (λ is. let no : ⊥ = cc in no) only

pub stop_no_read : IsReadFault Stopped → ⊥
stop_no_read only = other_read Stopped (λ is. let no : ⊥ = cc in no) (λ is. let no : ⊥ = cc in no) only

pub none_no_read : IsReadFault NoFilestore → ⊥
none_no_read only = other_read NoFilestore (λ is. let no : ⊥ = cc in no) (λ is. let no : ⊥ = cc in no) only

-- the bytes of a file that is on the disc aren't to be had
pub disc_unread : (f : File) (o new : OnlineFacts) (e : OnlineFault) → IsReadFault e → new ≡ record o { disc = new.disc } → ReadsByCause (Unread e) o.disc new.disc → (Unread e → 0 < f.rec.len) → IsTied new
    → (let r : Result (List ℕ) StoreFault = Err (store_fault_of e) in HasReadDisc f o new r)
disc_unread f o new ReadFault only same reads filled tied =
    record { text = tt; same = same; reads = ReadsByCause-for (λ is. refl) (λ is. refl) reads; filled = λ is. filled refl; tied = tied; only = inl refl }
disc_unread f o new NoMemory only same reads filled tied = record {
  text = tt;
  same = same;
  reads = ReadsByCause-for (λ is. let no : ⊥ = cc in absurd no) (λ is. let no : ⊥ = cc in absurd no) reads;
  filled = λ is. let no : ⊥ = cc in absurd no;
  tied = tied;
  only = inr refl;
}
disc_unread f o new (DiscFull need room) only same reads filled tied = absurd (full_no_read need room only)
disc_unread f o new Stopped only same reads filled tied = absurd (stop_no_read only)
disc_unread f o new NoFilestore only same reads filled tied = absurd (none_no_read only)
