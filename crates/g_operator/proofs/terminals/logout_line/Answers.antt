use Rattle.std.proofs.Common.{◌≡◌, ap, false, refl, sym, true, ◌∙◌}
use Rattle.g_day.specs.Parts.{Seen}
use Rattle.g_day.specs.Terminals.{is_up_in}
use Rattle.g_operator.proofs.DayLemmas.{same_line}
use Rattle.g_operator.proofs.TerminalLemmas.{logout_down, logout_up}
use Rattle.g_operator.proofs.terminals.logout_line.Goals as goal

pub returns-then-is_up : goal.returns-then-is_up
returns-then-is_up g c =
    let up : is_up_in c.args.day.system ≡ true = ap (λ (s : Seen). is_up_in s.system) (sym c.day.view_is) ∙ sym c.is_up.ensures ∙ c.if-is_up.true in
    same_line refl c.log_out_at.ensures.same
    (logout_up c.args.terminal c.args.day.system up c.args.day.crew c.requires.ready c.args.day.count c.log_out_at.result.failure c.log_out_at.result.day.crew _ _ _ _ c.log_out_at.ensures.left)

pub returns-else-is_up : goal.returns-else-is_up
returns-else-is_up g c =
    let down : is_up_in c.args.day.system ≡ false = ap (λ (s : Seen). is_up_in s.system) (sym c.day.view_is) ∙ sym c.is_up.ensures ∙ c.if-is_up.false in
    same_line refl c.refuse_or_go_down.ensures.day
    (logout_down c.args.terminal c.args.day.system down c.args.day.crew c.requires.ready c.args.day.count c.refuse_or_go_down.result.failure c.refuse_or_go_down.result.day.crew _ _ _ _ c.refuse_or_go_down.ensures.told)
