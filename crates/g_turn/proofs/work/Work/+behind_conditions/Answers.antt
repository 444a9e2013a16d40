use Rattle.std.proofs.Common.{◌∙◌, IfSome, sym, ap, subst}
use Rattle.g_turn.specs.LineMeaning.{IsSpoken, Met}
use Rattle.g_lang.specs.Meaning.{command_said}
use Rattle.g_macro.specs.Levels.{holds}
use Rattle.g_turn.proofs.SpokenLemmas.{met_holds}
use Rattle.g_turn.proofs.work.Work.+behind_conditions.Goals as goal

pub returns-then-holds-clause-met : goal.returns-then-holds-clause-met
returns-then-holds-clause-met t c =
    met_holds c.args.command c.in-If.inner.value c.in-If.cond c.args.self.now c.behind_conditions.result (ap command_said c.in-If.is)
    (subst (λ said. IfSome said IsSpoken) (ap command_said c.in-If.is) c.requires.spoken)
    (ap (λ w. holds w.desk.levels c.in-If.cond w.desk.outcome) (sym c.self.view_is) ∙ sym c.holds.ensures ∙ c.if-holds.true)
    (subst (λ inner. Met inner c.args.self.now c.behind_conditions.result) c.into_inner.ensures c.behind_conditions.ensures.met)
