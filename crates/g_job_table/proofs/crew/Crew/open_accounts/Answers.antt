-- The accounts that open are those of every world.
use Rattle.std.proofs.Common.{subst, sym}
use Rattle.g_job_table.specs.Accounts.{AreKept}
use Rattle.g_job_table.specs.Crew.{CrewState}
use Rattle.g_job_table.proofs.OpeningLemmas.{AreKept-opened, Opens-all}
use Rattle.g_job_table.proofs.crew.Crew.open_accounts.Goals as goal

pub returns-in-Ok-clause-opened : goal.returns-in-Ok-clause-opened
returns-in-Ok-clause-opened c = λ s accounts rows are.
    AreKept-opened s accounts c.self.inside.accounts.items c.open_each.new.accounts.items c.args.users.now rows
    (subst (λ (v : CrewState). AreKept accounts v.accounts) (sym c.self.view_is) are) c.in-Ok.ensures.ok

pub returns-in-Ok-clause-all : goal.returns-in-Ok-clause-all
returns-in-Ok-clause-all c = Opens-all c.self.inside.accounts.items c.open_each.new.accounts.items c.args.users.now c.in-Ok.ensures.ok
