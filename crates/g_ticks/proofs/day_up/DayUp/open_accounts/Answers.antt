-- If the store wasn't used each user has an account.
use Rattle.std.proofs.Common.{◌∙◌, sym}
use Rattle.g_ticks.proofs.WatchedLemmas.{opens_none}
use Rattle.g_ticks.proofs.day_up.DayUp.open_accounts.Goals as goal

pub returns-else-asked-clause-opens : goal.returns-else-asked-clause-opens
returns-else-asked-clause-opens g c =
    let up = c.args.self.now in
    opens_none up.store.running.online.contents.users up.crew (c.requires.accounts (sym c.asked.ensures ∙ c.if-asked.false))
