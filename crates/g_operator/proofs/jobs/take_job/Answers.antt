use Rattle.std.proofs.Common.{◌≡◌, ◌+◌, ◌<◌, ◌++◌, ℕ, List, refl, sym, subst}
use Rattle.std.specs.Prelude.{IfOk, codes}
use Rattle.g_run_model.specs.Texts.{job_text, operator_line}
use Rattle.g_day.specs.Jobs.{TakesJob}
use Rattle.g_day.specs.Parts.{Seen, seen}
use Rattle.g_day.specs.System.{facts_of}
use Rattle.g_day.proofs.JobLemmas.{comes_in_is, turned_away_is}
use Rattle.g_operator.proofs.jobs.take_job.Goals as goal

pub take_in-requires-clause-numbers : goal.take_in-requires-clause-numbers
take_in-requires-clause-numbers g c = subst (λ (s : Seen). s.crew.next_job + 1 < 18446744073709551616) (sym c.day.view_is) c.requires.numbers

pub returns-in-Ok-clause-same : goal.returns-in-Ok-clause-same
returns-in-Ok-clause-same g c =
    subst (λ (s : Seen). seen (facts_of g.D.Disc.state g.T.Tapes.rack c.day.inside.system) c.take_in.new.self c.day.inside.count ≡ record s { crew = c.take_in.new.self }) c.day.view_is refl

pub returns-in-Ok-clause-taken : goal.returns-in-Ok-clause-taken
returns-in-Ok-clause-taken g c =
    subst (λ (s : Seen). TakesJob c.args.known c.args.job s.count s.crew c.put_made-failure.result c.take_in.new.self
    (g.K.Sink.written c.args.out.now) (g.K.Sink.written c.put_made-failure.new.out) (g.K.Sink.faults c.args.out.now) (g.K.Sink.faults c.put_made-failure.new.out)) c.day.view_is
    (comes_in_is c.args.known c.args.job c.day.inside.count c.day.inside.crew c.in-Ok.number c.put_made-failure.result c.take_in.new.self _ _ _ _ c.in-Ok.ensures.refusal c.in-Ok.ensures.ok.0 c.in-Ok.ensures.ok.1
    (c.put_made-failure.ensures (operator_line c.day.inside.count (job_text c.in-Ok.number (c.args.job.name ++ codes " IN")))
    (subst (λ (n : List ℕ). IfOk c.came_in-made.result (λ text. text ≡ operator_line c.day.inside.count (job_text c.in-Ok.number (n ++ codes " IN")))) c.copy-name.ensures c.came_in-made.ensures)))

pub returns-in-Err-clause-same : goal.returns-in-Err-clause-same
returns-in-Err-clause-same g c =
    subst (λ (s : Seen). seen (facts_of g.D.Disc.state g.T.Tapes.rack c.day.inside.system) c.take_in.new.self c.day.inside.count ≡ record s { crew = c.take_in.new.self }) c.day.view_is refl

pub returns-in-Err-clause-taken : goal.returns-in-Err-clause-taken
returns-in-Err-clause-taken g c =
    subst (λ (s : Seen). TakesJob c.args.known c.args.job s.count s.crew c.turned_away-failure.result c.take_in.new.self
    (g.K.Sink.written c.args.out.now) (g.K.Sink.written c.turned_away-failure.new.out) (g.K.Sink.faults c.args.out.now) (g.K.Sink.faults c.turned_away-failure.new.out)) c.day.view_is
    (turned_away_is c.args.known c.args.job c.day.inside.count c.day.inside.crew c.in-Err.why c.turned_away-failure.result c.take_in.new.self _ _ _ _ c.in-Err.ensures.refusal c.in-Err.ensures.err c.turned_away-failure.ensures)
