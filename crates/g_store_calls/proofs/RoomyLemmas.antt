-- There is enough room: what a change needs is free, so it can only be stopped or run out of memory.
-- serves: append_from_tape, append_here, applied, drop_record, make_version, put_behind, put_record, put_version
use Rattle.std.proofs.Common.{◌≡◌, ℕ, ◌+◌, ◌-◌, ◌<◌, ◌≤◌, List, ◌++◌, length, length-append, Result, Err, refl, sym, ◌∙◌, ap, arith, inl, inr, subst}
use Rattle.std.specs.Prelude.{◌⊎◌, ◌↔◌, IsErrOf}
use Rattle.g_base.specs.Block.{blocks_for}
use Rattle.g_disc.proofs.CallLemmas.{Causes-for}
use Rattle.g_entry.specs.declared.file_rec.FileRec.{FileRec}
use Rattle.g_plain.specs.declared.faults.StoreFault.{StoreFault}
use Rattle.g_plain.specs.declared.faults.StoreFault.TheVariants as store
use Rattle.g_disc_contents.specs.Contents.{taken_off}
use Rattle.g_disc_contents.specs.Facts.{OnlineFacts, online_blocks, pinned_blocks, room_with}
use Rattle.g_online.specs.declared.change.Change.{Change}
use Rattle.g_online.specs.declared.change.Change.TheVariants.{PutFile}
use Rattle.g_online.specs.declared.fault.OnlineFault.{OnlineFault}
use Rattle.g_online.specs.declared.fault.OnlineFault.TheVariants.{DiscFull, NoMemory, Stopped}
use Rattle.g_online.specs.Change.{need_of}
use Rattle.g_online.specs.Outcomes.{IsApplied, room_for}
use Rattle.g_online.specs.Faults.{store_fault_of}
use Rattle.g_migrate.specs.UnjamPlan.{IsRoomWithout}
use Rattle.g_laws_store.specs.UnjamPlan.{IsUnjamPlan}
use Rattle.g_store_calls.specs.AppliedChange.{HasApplied}
use Rattle.g_store_calls.specs.Versions.{HasMade, IsNext}
use Rattle.g_store_calls.proofs.MakeLemmas.{made_starved, made_stopped}

-- the refusals of a change, and of one that has room
abbrev Refuses : ℕ → ℕ → OnlineFault → Type 0
Refuses need room e = (e ≡ Stopped) ⊎ ((e ≡ NoMemory) ⊎ (e ≡ DiscFull need room))

abbrev IsFullBy : ℕ → ℕ → OnlineFault → Type 0
IsFullBy need room e = let r : Result (Unit {0}) OnlineFault = Err e in IsErrOf r (DiscFull need room) ↔ (room < need)

abbrev StopsOrStarves : OnlineFault → Type 0
StopsOrStarves e = (e ≡ Stopped) ⊎ (e ≡ NoMemory)

has_room : (need room : ℕ) (e : OnlineFault) → need ≤ room → IsFullBy need room e → Refuses need room e → StopsOrStarves e
has_room need room e fits full (inl is) = inl is
has_room need room e fits full (inr (inl is)) = inr is
has_room need room e fits full (inr (inr is)) = let less = full.0 (ap (λ (f : OnlineFault). let r : Result (Unit {0}) OnlineFault = Err f in r) is) in let no : ⊥ = omega (arith, less, fits) in absurd no

-- A CHANGE THAT HAS ROOM, refused
module _ (change : Change) (o new : OnlineFacts) where
  abbrev Was : OnlineFault → Type 0
  Was e = let r : Result (Unit {0}) OnlineFault = Err e in IsApplied change o new r

  abbrev Is : StoreFault → Type 0
  Is e = let r : Result (Unit {0}) StoreFault = Err e in HasApplied change o new r

  by_stop : Was Stopped → Is store.Stopped
  by_stop was = record {
    ok = tt;
    stopped = λ is. was.stopped refl;
    same = λ other. absurd (other refl);
    causes = Causes-for (λ no. no) (λ no. no) (λ is. refl) (λ is. refl) was.causes;
    tied = was.tied;
    told = was.told;
    only = inl refl;
  }

  by_memory : Was NoMemory → Is store.NoMemory
  by_memory was = record {
    ok = tt;
    stopped = λ is. let no : ⊥ = cc in absurd no;
    same = λ other. was.same (λ is. let no : ⊥ = cc in no);
    causes = Causes-for (λ no. no) (λ no. no) (λ is. let no : ⊥ = cc in absurd no) (λ is. let no : ⊥ = cc in absurd no) was.causes;
    tied = was.tied;
    told = was.told;
    only = inr refl;
  }

  by_fault : (e : OnlineFault) → StopsOrStarves e → Was e → Is (store_fault_of e)
  by_fault e (inl is) was = subst (λ (f : OnlineFault). Is (store_fault_of f)) (sym is) (by_stop (subst Was is was))
  by_fault e (inr is) was = subst (λ (f : OnlineFault). Is (store_fault_of f)) (sym is) (by_memory (subst Was is was))

  pub applied_refused : (e : OnlineFault) → need_of change ≤ room_for change o → Was e → Is (store_fault_of e)
  applied_refused e fits was = by_fault e (has_room (need_of change) (room_for change o) e fits was.full was.only) was

-- A NEW VERSION THAT HAS ROOM, refused
module _ (o new : OnlineFacts) (bytes : List ℕ) (r : FileRec) (need : ℕ) (take : List ℕ) (room : ℕ) (need_is : need ≡ blocks_for r.len) (next : IsNext o bytes r) (plan : IsUnjamPlan need o take room) (fits : need ≤ room) where
  abbrev WasPut : OnlineFault → Type 0
  WasPut e = let answer : Result (Unit {0}) OnlineFault = Err e in IsApplied (PutFile r bytes take) o new answer

  abbrev IsMade : StoreFault → Type 0
  IsMade e = let answer : Result (Unit {0}) StoreFault = Err e in HasMade r bytes o new answer

  made_by : (e : OnlineFault) → StopsOrStarves e → WasPut e → IsMade (store_fault_of e)
  made_by e (inl is) was = subst (λ (f : OnlineFault). IsMade (store_fault_of f)) (sym is) (made_stopped o new bytes r need take room need_is next plan fits (subst WasPut is was))
  made_by e (inr is) was =
      subst (λ (f : OnlineFault). IsMade (store_fault_of f)) (sym is)
      (let it = subst WasPut is was in made_starved o new bytes r (it.same (λ same. let no : ⊥ = cc in no)) it.tied)

  needs : blocks_for (length bytes) ≡ need
  needs = sym (need_is ∙ ap blocks_for next.len)

  pub made_refused : (e : OnlineFault) → IsRoomWithout o take room → WasPut e → IsMade (store_fault_of e)
  made_refused e without was =
      let enough : blocks_for (length bytes) ≤ room_with (taken_off take o.contents.files) o =
      subst (λ (n : ℕ). n ≤ room_with (taken_off take o.contents.files) o) (sym needs) (subst (λ (n : ℕ). need ≤ n) without fits) in
      made_by e (has_room (blocks_for (length bytes)) (room_with (taken_off take o.contents.files) o) e enough was.full was.only) was

-- THE ROOM OF A PLAN, when a file has been read since
pub roomy : (o mid : OnlineFacts) (take : List ℕ) (need room len : ℕ) (bytes slice : List ℕ) → need ≡ blocks_for (len + length slice) → slice ≡ bytes → IsRoomWithout o take room → need ≤ room
    → mid ≡ record o { disc = mid.disc } → mid.disc.size ≡ o.disc.size → blocks_for (len + length bytes) ≤ room_with (taken_off take mid.contents.files) mid
roomy o mid take need room len bytes slice need_is slice_is without enough same size =
    let off = taken_off take o.contents.files in
    let wanted : blocks_for (len + length bytes) ≡ need = sym (need_is ∙ ap (λ (b : List ℕ). blocks_for (len + length b)) slice_is) in
    let here : blocks_for (len + length bytes) ≤ o.disc.size - 2177 - online_blocks off - pinned_blocks o.pins off =
    subst (λ (n : ℕ). n ≤ room_with off o) (sym wanted) (subst (λ (n : ℕ). need ≤ n) without enough) in
    subst (λ (x : OnlineFacts). blocks_for (len + length bytes) ≤ room_with (taken_off take x.contents.files) x) (sym same)
    (subst (λ (s : ℕ). blocks_for (len + length bytes) ≤ s - 2177 - online_blocks off - pinned_blocks o.pins off) (sym size) here)

-- and for the appended bytes
pub roomy_behind : (o : OnlineFacts) (made : FileRec) (take : List ℕ) (len : ℕ) (old bytes text : List ℕ) → blocks_for (len + length bytes) ≤ room_with (taken_off take o.contents.files) o → length old ≡ len → text ≡ old ++ bytes
    → need_of (PutFile made text take) ≤ room_for (PutFile made text take) o
roomy_behind o made take len old bytes text enough long is =
    subst (λ (n : ℕ). blocks_for n ≤ room_with (taken_off take o.contents.files) o) (sym (ap length is ∙ length-append old bytes ∙ ap (λ (n : ℕ). n + length bytes) long)) enough
