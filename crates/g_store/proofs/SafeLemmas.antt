-- A store is made from a rack whose dumps survive a power loss.
-- serves: restore (durable_stopped), start (durable_stopped)
use Rattle.std.proofs.Common.{◌≡◌, ◌≢◌, ℕ, Result, Ok, Err, subst, sym, inl, inr}
use Rattle.std.specs.Prelude.{◌⊎◌}
use Rattle.g_tape.specs.Rack.{Rack}
use Rattle.g_plain.specs.declared.faults.StoreFault.{StoreFault}
use Rattle.g_plain.specs.declared.faults.StoreFault.TheVariants.{Stopped}
use Rattle.g_online.specs.Faults.{store_fault_of}
use Rattle.g_online.specs.declared.fault.OnlineFault.{OnlineFault}
use Rattle.g_online.specs.declared.fault.OnlineFault.TheVariants as online
use Rattle.g_store_meaning.specs.Surviving.{DumpsMadeSafe, DumpsMadeSafeBy}

-- loading isn't stopped
pub load_is_not_stopped : (fault : OnlineFault) → (fault ≡ online.ReadFault) ⊎ ((fault ≡ online.NoFilestore) ⊎ (fault ≡ online.NoMemory)) → store_fault_of fault ≢ Stopped
load_is_not_stopped fault (inl is) = subst (λ (f : OnlineFault). store_fault_of f ≢ Stopped) (sym is) (λ e. let no : ⊥ = cc in no)
load_is_not_stopped fault (inr (inl is)) = subst (λ (f : OnlineFault). store_fault_of f ≢ Stopped) (sym is) (λ e. let no : ⊥ = cc in no)
load_is_not_stopped fault (inr (inr is)) = subst (λ (f : OnlineFault). store_fault_of f ≢ Stopped) (sym is) (λ e. let no : ⊥ = cc in no)

-- after a failed write
pub made_at_stop : (A : Type 0) (fault : StoreFault) (old new : Rack) → (let r : Result A StoreFault = Err fault in DumpsMadeSafeBy r old new) → fault ≡ Stopped → DumpsMadeSafe old new
made_at_stop A fault old new made is = subst (λ (f : StoreFault). let r : Result A StoreFault = Err f in DumpsMadeSafeBy r old new) is made
