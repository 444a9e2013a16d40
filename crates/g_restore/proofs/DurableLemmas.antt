-- A restore reads a rack whose dumps survive a power loss.
-- serves: dumped_directory (durable), read_durable_rack (durable), rebuild (durable)
use Rattle.std.proofs.Common.{ℕ, Result, Ok, Err}
use Rattle.std.specs.Prelude.{IfOk}
use Rattle.g_tape.specs.Rack.{Rack}
use Rattle.g_plain.specs.declared.faults.StoreFault.{StoreFault}
use Rattle.g_plain.specs.declared.faults.StoreFault.TheVariants.{Stopped}
use Rattle.g_store_meaning.specs.Surviving.{DumpsMadeSafe, DumpsMadeSafeBy}
use Rattle.g_restore.specs.Restoration.{IsOfReels}

-- what holds for any answer holds for `Ok`
pub if_ok : {A E P : Type 0} (r : Result A E) → P → IfOk r (λ _. P)
if_ok (Ok x) p = p
if_ok (Err e) p = tt

module _ (old new : Rack) where
  pub made_by : {A : Type 0} (r : Result A StoreFault) → DumpsMadeSafe old new → DumpsMadeSafeBy r old new
  made_by (Ok x) made = made
  made_by (Err Stopped) made = made
  made_by (Err fault) made = tt

  -- a refusal that concerns the reels promises nothing
  pub none_by : (A : Type 0) (fault : StoreFault) → IsOfReels fault → (let r : Result A StoreFault = Err fault in DumpsMadeSafeBy r old new)
  none_by A Stopped never = absurd never
  none_by A fault is = tt
