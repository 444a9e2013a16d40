-- A file is taken off the disc, or there is a reason why it isn't.
use Rattle.std.specs.Prelude.{◌≡◌, ◌≢◌, ℕ, Bool, true, false, [], ◌∷◌, Option, Some, None, is_some, Result, Ok, Err, OnOk, IfErr}
use Rattle.g_disc.specs.Disc.{Causes}
use Rattle.g_entry.specs.declared.file_rec.TapeCopy.{TapeCopy}
use Rattle.g_plain.specs.declared.faults.StoreFault.{StoreFault}
use Rattle.g_plain.specs.declared.faults.StoreFault.TheVariants.{NoMemory, NotDumped, Offline, Stopped}
use Rattle.g_disc_contents.specs.Contents.{File}
use Rattle.g_disc_contents.specs.Facts.{IsTied, OnlineFacts}
use Rattle.g_online.specs.declared.change.Change.TheVariants.{Unload}
use Rattle.g_online.specs.declared.fault.OnlineFault.{OnlineFault}
use Rattle.g_online.specs.declared.fault.OnlineFault.TheVariants as variants
use Rattle.g_online.specs.Outcomes.{HasChanged, HasStopped}

-- The file isn't on the disc, or no tape has a copy.
abbrev pub refusal_by : Bool → Option TapeCopy → Option StoreFault
refusal_by false copy = Some Offline
refusal_by true None = Some NotDumped
refusal_by true (Some copy) = None

-- The refusal of a migration of this file, if there is one.
abbrev pub refusal_of : File → Option StoreFault
refusal_of f = refusal_by f.online f.rec.tape

-- The store's answer for an answer of the filestore.
abbrev pub as_stored : Result (Unit {0}) OnlineFault → Result (Unit {0}) StoreFault
as_stored (Ok u) = Ok u
as_stored (Err variants.Stopped) = Err Stopped
as_stored (Err fault) = Err NoMemory

-- One commit took the file off the disc, or was stopped at one of its writes; or the call was refused, and everything is
-- unchanged.
pub record HasMigrated (number : ℕ) (old new : OnlineFacts) (result : Result (Unit {0}) StoreFault) : Type 0 where
  pub ok : OnOk result (HasChanged (Unload (number ∷ [])) old new)
  pub stopped : result ≡ Err Stopped → HasStopped (Unload (number ∷ [])) old new
  pub same : IfErr result (λ e. e ≢ Stopped → new ≡ old)
  pub causes : Causes ⊥ (result ≡ Err Stopped) old.disc new.disc
  pub tied : IsTied new
  pub told : is_some new.disc.held ≡ is_some old.disc.held
