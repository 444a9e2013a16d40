-- For any store that the filestore belongs to, a call of a job that needs no tape is answered as the store's call is.
use Rattle.std.specs.Prelude.{◌≡◌, ℕ, false, List, Option, IfSome, Result, not}
use Rattle.g_tape.specs.Rack.{Rack}
use Rattle.g_plain.specs.declared.calls.StoreCall.{StoreCall}
use Rattle.g_plain.specs.declared.calls.StoreReply.{StoreReply}
use Rattle.g_plain.specs.declared.faults.StoreFault.{StoreFault}
use Rattle.g_disc_contents.specs.Facts.{OnlineFacts}
use Rattle.g_incr.specs.Plan.{IsPlan}
use Rattle.g_store_meaning.specs.Answers.{Answers, IsStore}
use Rattle.g_store_meaning.specs.StoreInvariant.{DumpFacts, StoreFacts}
use Rattle.g_migrate.specs.Invariant.{with_online}

-- Every store with this filestore that isn't spent answers the call so, with the new filestore in place of its own.
abbrev pub AnswersIn : List ℕ → StoreCall → OnlineFacts → Result StoreReply StoreFault → OnlineFacts → Type 0
AnswersIn who call old answer new = (s : StoreFacts) → s.online ≡ old → s.spent ≡ false → IsStore s → Answers s who call answer (with_online new s)

-- The plan of the open dump, if there is one, satisfies the rules of a plan.
abbrev pub KeepsPlan : Option DumpFacts → Type 0
KeepsPlan dump = IfSome dump (λ d. IsPlan d.plan)

-- The store with this filestore and this rack in place of its own. It is spent once a write has failed.
abbrev pub with_devices : OnlineFacts → Rack → StoreFacts → StoreFacts
with_devices o rack s = record s { online = o; rack = rack; spent = not o.live }

-- The same for a call that adds bytes or brings them back, and for any store that both filestore and rack belong to.
abbrev pub AnswersOver : List ℕ → StoreCall → OnlineFacts → Rack → Result StoreReply StoreFault → OnlineFacts → Rack → Type 0
AnswersOver who call old rack answer new after =
    (s : StoreFacts) → s.online ≡ old → s.rack ≡ rack → s.spent ≡ false → IsStore s → KeepsPlan s.dump → Answers s who call answer (with_devices new after s)
