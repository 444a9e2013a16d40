use Rattle.std.proofs.Common.{None, Some, refl, subst}
use Rattle.g_day.specs.Jobs.{KnowsIn}
use Rattle.g_day.specs.Parts.{Seen}
use Rattle.g_operator.proofs.DayLemmas.{same_line}
use Rattle.g_operator.proofs.TerminalLemmas.{login_on, no_login_on}
use Rattle.g_operator.proofs.terminals.login_line.Goals as goal

pub returns-in-Some : goal.returns-in-Some
returns-in-Some g c =
    same_line refl c.seat_job.ensures.same
    (login_on c.args.login c.args.day.system c.in-Some.known (subst (λ (s : Seen). KnowsIn c.args.login.user s.system (Some c.in-Some.known)) c.day.view_is c.in-Some.ensures) c.args.day.crew c.requires.ready
    c.args.day.count c.seat_job.result.failure c.seat_job.result.day.crew _ _ _ _ c.seat_job.ensures.seated)

pub returns-in-None : goal.returns-in-None
returns-in-None g c =
    same_line refl c.refuse_or_go_down.ensures.day
    (no_login_on c.args.login c.args.day.system (subst (λ (s : Seen). KnowsIn c.args.login.user s.system None) c.day.view_is c.in-None.ensures) c.args.day.crew c.requires.ready
    c.args.day.count c.refuse_or_go_down.result.failure c.refuse_or_go_down.result.day.crew _ _ _ _ c.refuse_or_go_down.ensures.told)
