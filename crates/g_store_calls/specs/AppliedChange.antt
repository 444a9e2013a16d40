-- A change of records, as a store answers it: it is made by one commit, or that commit was stopped at one of its writes; or
-- memory ran out, and everything is unchanged.
use Rattle.std.specs.Prelude.{◌≡◌, ◌≢◌, ◌⊎◌, is_some, Result, Ok, Err, IfErr, OnOk}
use Rattle.g_disc.specs.Disc.{Causes}
use Rattle.g_plain.specs.declared.calls.StoreReply.{StoreReply}
use Rattle.g_plain.specs.declared.faults.StoreFault.{StoreFault}
use Rattle.g_plain.specs.declared.faults.StoreFault.TheVariants.{NoMemory, Stopped}
use Rattle.g_disc_contents.specs.Facts.{IsTied, OnlineFacts}
use Rattle.g_online.specs.declared.change.Change.{Change}
use Rattle.g_online.specs.Outcomes.{HasChanged, HasStopped}

-- How a store makes a change of records: completely by one commit, or stopped at one of its writes, or not at all because
-- memory ran out.
pub record HasApplied (change : Change) (old new : OnlineFacts) (result : Result (Unit {0}) StoreFault) : Type 0 where
  pub ok : OnOk result (HasChanged change old new)
  pub stopped : result ≡ Err Stopped → HasStopped change old new
  pub same : IfErr result (λ e. e ≢ Stopped → new ≡ old)
  pub causes : Causes ⊥ (result ≡ Err Stopped) old.disc new.disc
  pub tied : IsTied new
  pub told : is_some new.disc.held ≡ is_some old.disc.held
  pub only : IfErr result (λ e. (e ≡ Stopped) ⊎ (e ≡ NoMemory))

-- This reply, if the change was made; otherwise its fault.
abbrev pub answer_with : StoreReply → Result (Unit {0}) StoreFault → Result StoreReply StoreFault
answer_with reply (Ok u) = Ok reply
answer_with reply (Err fault) = Err fault

-- A call is answered by a change of records: with this reply, if the change was made.
pub record HasAnswered (change : Change) (reply : StoreReply) (old new : OnlineFacts) (answer : Result StoreReply StoreFault) : Type 0 where
  pub made : Result (Unit {0}) StoreFault
  pub applied : HasApplied change old new made
  pub is : answer ≡ answer_with reply made
