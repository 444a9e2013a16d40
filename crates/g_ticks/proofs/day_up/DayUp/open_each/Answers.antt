use Rattle.std.proofs.Common.{◌≡◌, ◌∙◌, List, ap, subst, sym}
use Rattle.g_entry.specs.declared.user_rec.UserRec.{UserRec}
use Rattle.g_job_table.specs.Accounts.{HaveAccounts}
use Rattle.g_store_meaning.specs.StoreInvariant.{StoreFacts}
use Rattle.g_ticks.specs.Watch.{WatchedFacts}
use Rattle.g_ticks.proofs.EndedLemmas.{opens_read}
use Rattle.g_ticks.proofs.day_up.DayUp.open_each.Goals as goal

pub users-requires : goal.users-requires
users-requires g c = record { running = ap (λ (s : StoreFacts). s.spent) c.running.ensures ∙ c.requires.running }

pub returns-in-Ok-clause-opens : goal.returns-in-Ok-clause-opens
returns-in-Ok-clause-opens g c =
    let up = c.args.self.now in
    let read : c.users.result.now ≡ up.store.running.online.contents.users = c.users.ensures ∙ ap (λ (s : StoreFacts). s.online.contents.users) c.running.ensures in
    opens_read up.store.running.online.contents.users c.users.result.now up.crew c.open_accounts.new.self read c.in-Ok.ensures.opened c.in-Ok.ensures.others

pub returns-in-Ok-clause-accounts : goal.returns-in-Ok-clause-accounts
returns-in-Ok-clause-accounts g c = λ quiet.
    let read : c.users.result.now ≡ c.args.self.now.store.running.online.contents.users = c.users.ensures ∙ ap (λ (s : StoreFacts). s.online.contents.users) c.running.ensures in
    let same : c.looked.new.self.running.online.contents.users ≡ c.args.self.now.store.running.online.contents.users = ap (λ (w : WatchedFacts). w.running.online.contents.users) c.looked.ensures in
    subst (λ (us : List UserRec). HaveAccounts us c.open_accounts.new.self.accounts) (read ∙ sym same) c.in-Ok.ensures.all
