use Rattle.std.proofs.Common.{ap, subst, sym, ◌∙◌}
use Rattle.g_base.specs.declared.memory.NoMemory.{NoMemory}
use Rattle.g_job.specs.Turns.{turn_work}
use Rattle.g_job_table.specs.Crew.{CrewState}
use Rattle.g_ticks.specs.Turning.{EndsTurn, ShowsAs, added_of, left_of}
use Rattle.g_ticks.proofs.EndedLemmas.{added_is, shows_as, there_behind, took_part, took_whole}
use Rattle.g_ticks.proofs.LeftLemmas.{left_so}
use Rattle.g_ticks.proofs.WatchedLemmas.{part_on, still_all, takes_on, takes_quiet}
use Rattle.g_ticks.proofs.turning.turn_of.Goals as goal
use Rattle.std.specs.Prelude.{List, Option, ℕ}

pub returns-in-Ok-clause-turn : goal.returns-in-Ok-clause-turn
returns-in-Ok-clause-turn g c =
    let (job, after, there, took, crew, shown) = c.in-Ok.ensures.ok in
    let takes = takes_on g.F.Fn c.args.tariff.now job c.args.up.now.store c.in-Ok.taken.turn after c.turn.new.store took in
    let here = there_behind c.args.number c.args.up.now.crew.jobs job after there takes.spends.0 _ (ap (λ (k : CrewState). k.jobs) crew) in
    let is = ap (λ (o : Option ℕ). added_of o after) shown ∙ added_is job after takes.seat.0 in
    took_whole g.F.Fn c.args.tariff.now c.args.up.now.store.running c.turn.new.store.running c.args.up.now.crew c.turn.new.self c.args.up.now.count c.args.number c.in-Ok.taken.turn c.end_turn.result
    (left_of c.end_turn.new.up.store.running) c.end_turn.new.up.crew
    (g.K.Sink.written c.args.out.now) (g.K.Sink.written c.end_turn.new.out) (g.K.Sink.faults c.args.out.now) (g.K.Sink.faults c.end_turn.new.out) job after there takes crew c.in-Ok.ensures.stopped
    c.in-Ok.ensures.waits
    (subst (λ (l : List ℕ). EndsTurn c.args.up.now.count c.args.number c.turn.new.store.running c.turn.new.self l c.in-Ok.taken.turn c.end_turn.result (left_of c.end_turn.new.up.store.running) c.end_turn.new.up.crew
    (g.K.Sink.written c.args.out.now) (g.K.Sink.written c.end_turn.new.out) (g.K.Sink.faults c.args.out.now) (g.K.Sink.faults c.end_turn.new.out)) is (c.end_turn.ensures.ends after here))

pub returns-in-Err-clause-turn : goal.returns-in-Err-clause-turn
returns-in-Err-clause-turn g c =
    let (job, there, ran) = c.in-Err.ensures.err in
    took_part g.F.Fn c.args.tariff.now c.args.up.now.store.running c.turn.new.store.running c.args.up.now.crew c.args.up.now.count c.args.number (left_of c.turn.new.store.running) c.turn.new.self (g.K.Sink.written c.args.out.now) (g.K.Sink.faults c.args.out.now) job there (part_on job.user c.args.up.now.store c.turn.new.store (turn_work job) ran) (left_so c.turn.new.store.running)

pub end_turn-requires-clause-there : goal.end_turn-requires-clause-there
end_turn-requires-clause-there g c =
    let (job, after, there, takes, crew, shown) = c.in-Ok.ensures.ok in (
      after,
      there_behind c.args.number c.args.up.now.crew.jobs job after there takes.spends.0 _ (ap (λ (k : CrewState). k.jobs) crew),
      subst (λ (o : Option ℕ). ShowsAs o after.terminal) (sym shown) (shows_as job after takes.seat.0),
    )

pub end_turn-requires-clause-accounts : goal.end_turn-requires-clause-accounts
end_turn-requires-clause-accounts g c =
    let (job, after, there, took, crew, shown) = c.in-Ok.ensures.ok in
    still_all c.args.up.now.store c.turn.new.store c.args.up.now.crew c.turn.new.self (ap (λ (k : CrewState). k.accounts) crew)
    (takes_quiet g.F.Fn c.args.tariff.now job c.args.up.now.store c.in-Ok.taken.turn after c.turn.new.store took) c.requires.accounts
