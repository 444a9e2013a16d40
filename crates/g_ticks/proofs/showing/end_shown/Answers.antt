use Rattle.std.proofs.Common.{List, [], append-nil, ap, subst, sym, ◌++◌, ◌∙◌, ℕ}
use Rattle.std.specs.Prelude.{codes}
use Rattle.std.specs.Fmt.{decimal}
use Rattle.g_job_table.specs.Seating.{pushed_of}
use Rattle.g_rules.specs.declared.turn.Turn.TheVariants as turns
use Rattle.g_ticks.specs.Turning.{GoesOn, left_of}
use Rattle.g_ticks.proofs.EndedLemmas.{ends_by, no_file, shown_is}
use Rattle.g_ticks.proofs.TurningLemmas.{unbroken}
use Rattle.g_ticks.proofs.showing.end_shown.Goals as goal
use Rattle.g_run_model.specs.Texts.{job_text, operator_line}

pub shown-made-requires : goal.shown-made-requires
shown-made-requires g c = let (job, t, there, at) = c.requires.there in (job, there)

pub returns-in-Broken-clause-ends : goal.returns-in-Broken-clause-ends
returns-in-Broken-clause-ends g c = λ job found.
    ends_by c.args.up.now.count c.args.seated.number c.args.up.now.store.running c.args.up.now.crew (pushed_of job c.args.seated.before) turns.Broken c.args.turn c.stops.result (left_of c.stops.new.up.store.running) c.stops.new.up.crew
    (g.K.Sink.written c.args.out.now) (g.K.Sink.written c.stops.new.out) (g.K.Sink.faults c.args.out.now) (g.K.Sink.faults c.stops.new.out)
    c.in-Broken.is (c.stops.ensures.ends (pushed_of job c.args.seated.before) (shown_is c.shown-made.result c.args.seated.number c.args.seated.before c.args.up.now.crew.jobs job c.shown-made.ensures found))

pub returns-in-Wants-clause-ends : goal.returns-in-Wants-clause-ends
returns-in-Wants-clause-ends g c = λ job found.
    ends_by c.args.up.now.count c.args.seated.number c.args.up.now.store.running c.args.up.now.crew (pushed_of job c.args.seated.before) (turns.Wants c.in-Wants.serial) c.args.turn
    c.goes_on.result (left_of c.goes_on.new.up.store.running) c.goes_on.new.up.crew
    (g.K.Sink.written c.args.out.now) (g.K.Sink.written c.goes_on.new.out) (g.K.Sink.faults c.args.out.now) (g.K.Sink.faults c.goes_on.new.out)
    c.in-Wants.is
    (c.goes_on.ensures.goes (pushed_of job c.args.seated.before ++ operator_line c.args.up.now.count (job_text c.args.seated.number (codes "WANTS TAPE " ++ decimal c.in-Wants.serial)))
    (c.wants_behind-told.ensures (pushed_of job c.args.seated.before) (shown_is c.shown-made.result c.args.seated.number c.args.seated.before c.args.up.now.crew.jobs job c.shown-made.ensures found)))

pub stops-requires : goal.stops-requires
stops-requires g c = record { stopped = c.requires.stopped.1 c.in-Broken.is }

pub ends-requires-clause-running : goal.ends-requires-clause-running
ends-requires-clause-running g c = unbroken c.args.turn c.args.up.now.store.running c.requires.stopped (λ e. let is = c.in-Ended.is in let no : ⊥ = cc in no)

pub ends-requires-clause-there : goal.ends-requires-clause-there
ends-requires-clause-there g c = let (job, t, there, at) = c.requires.there in (job, there)

pub returns-in-Ended-clause-ends : goal.returns-in-Ended-clause-ends
returns-in-Ended-clause-ends g c = λ job found.
    let (one, t, there, at) = c.requires.there in
    let (gone, mid, out, on) = c.ends.ensures.ends (pushed_of job c.args.seated.before) (shown_is c.shown-made.result c.args.seated.number c.args.seated.before c.args.up.now.crew.jobs job c.shown-made.ensures found) in
    ends_by c.args.up.now.count c.args.seated.number c.args.up.now.store.running c.args.up.now.crew (pushed_of job c.args.seated.before) _ c.args.turn c.ends.result (left_of c.ends.new.up.store.running) c.ends.new.up.crew
    (g.K.Sink.written c.args.out.now) (g.K.Sink.written c.ends.new.out) (g.K.Sink.faults c.args.out.now) (g.K.Sink.faults c.ends.new.out)
    c.in-Ended.is (
      gone,
      mid,
      out,
      subst (λ (l : List ℕ). GoesOn c.args.up.now.store.running l mid c.ends.result (left_of c.ends.new.up.store.running) c.ends.new.up.crew
          (g.K.Sink.written c.args.out.now) (g.K.Sink.written c.ends.new.out) (g.K.Sink.faults c.args.out.now) (g.K.Sink.faults c.ends.new.out))
          (sym (ap (λ (l : List ℕ). pushed_of job c.args.seated.before ++ l) (no_file c.args.seated.number t c.args.up.now.crew mid gone one out there at) ∙ append-nil (pushed_of job c.args.seated.before))) on,
    )
