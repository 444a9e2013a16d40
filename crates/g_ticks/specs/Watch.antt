-- A store that remembers whether it was used since its users were last checked, when each of them had an account.
use Rattle.std.specs.Prelude.{◌≡◌, ℕ, Bool, true, false, List, Result}
use Rattle.g_plain.specs.declared.calls.StoreCall.{StoreCall}
use Rattle.g_plain.specs.declared.calls.StoreReply.{StoreReply}
use Rattle.g_plain.specs.declared.faults.StoreFault.{StoreFault}
use Rattle.g_store_meaning.specs.Answers.{Answers}
use Rattle.g_store_meaning.specs.StoreInvariant.{StoreFacts}
use Rattle.g_job_table.specs.Accounts.{HaveAccounts}
use Rattle.g_job_table.specs.Crew.{CrewState}

-- A store that is up, and whether it was used.
pub record WatchedFacts : Type 0 where
  pub running : StoreFacts
  pub asked : Bool

-- It answers as the store does, and counts as used afterwards.
abbrev pub AnswersWatched : WatchedFacts → List ℕ → StoreCall → Result StoreReply StoreFault → WatchedFacts → Type 0
AnswersWatched old who call answer new = Answers old.running who call answer new.running × (new.asked ≡ true)

-- If it wasn't used since, each user has an account.
abbrev pub HaveAll : WatchedFacts → CrewState → Type 0
HaveAll w c = w.asked ≡ false → HaveAccounts w.running.online.contents.users c.accounts
