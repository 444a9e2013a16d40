-- Nothing is pending, so the turn begins with a run of the program or with a line.
use Rattle.std.proofs.Common.{None, Option, ap, length, option_map, sym, ◌-◌, ◌∙◌, ◌≡◌}
use Rattle.g_job.specs.JobValue.{job_of}
use Rattle.g_job.specs.State.{JobState}
use Rattle.g_job.specs.Terminal.{is_ready}
use Rattle.g_turn.specs.State.{Pending}
use Rattle.g_turn.specs.Values.{pending_of}
use Rattle.g_turn.proofs.ReadyLemmas.{nothing}
use Rattle.g_job.proofs.TurnLemmas.{begun, begun_part, makes}
use Rattle.g_job.proofs.parts.Parts.make.Goals as goal

pub returns-in-Ok-clause-ok : goal.returns-in-Ok-clause-ok
returns-in-Ok-clause-ok g c =
    let none : option_map pending_of c.args.self.now.again ≡ None = ap (option_map pending_of) (nothing c.args.self.now.again (sym c.is_some.ensures ∙ c.if-is_some.false)) in
    makes g.S.Filestore.answers g.S.Filestore.is_spent g.S.Filestore.can_wait (job_of c.args.self.now) c.args.store.now c.run_or_take.new.self c.run_or_take.new.store c.requires.rules c.requires.open
    c.begin.ensures.few
    (begun g.S.Filestore.answers g.S.Filestore.is_spent g.S.Filestore.can_wait (job_of c.args.self.now) (1048576 - length c.as_slice.result.now)
    None c.begin.new.self c.run_or_take.new.self c.args.store.now c.run_or_take.new.store
    (ap (λ monitor. 1048576 - length monitor) c.as_slice.ensures) (sym none) c.begin.ensures.ok c.in-Ok.ensures.ok)
    c.in-Ok.ensures.ready

pub returns-in-Ok-clause-job : goal.returns-in-Ok-clause-job
returns-in-Ok-clause-job g c =
    ap (λ (p : Option Pending). let j : JobState = record (job_of c.args.self.now) { desk = c.run_or_take.new.self.desk; pending = p; wants = None } in j)
    (ap (option_map pending_of) (nothing c.args.self.now.again (sym c.is_some.ensures ∙ c.if-is_some.false)))

pub returns-in-Err-clause-job : goal.returns-in-Err-clause-job
returns-in-Err-clause-job g c =
    ap (λ (p : Option Pending). let j : JobState = record (job_of c.args.self.now) { desk = c.run_or_take.new.self.desk; pending = p; wants = None } in j)
    (ap (option_map pending_of) (nothing c.args.self.now.again (sym c.is_some.ensures ∙ c.if-is_some.false)))

pub returns-in-Err-clause-err : goal.returns-in-Err-clause-err
returns-in-Err-clause-err g c =
    begun_part g.S.Filestore.answers g.S.Filestore.is_spent g.S.Filestore.can_wait (job_of c.args.self.now) (1048576 - length c.as_slice.result.now) None c.begin.new.self c.args.store.now c.run_or_take.new.store
    (ap (λ monitor. 1048576 - length monitor) c.as_slice.ensures) (sym (ap (option_map pending_of) (nothing c.args.self.now.again (sym c.is_some.ensures ∙ c.if-is_some.false)))) c.begin.ensures.ok
    c.in-Err.ensures.err

pub returns-in-Ok-clause-ready : goal.returns-in-Ok-clause-ready
returns-in-Ok-clause-ready g c =
    c.ready-self.ensures
    ∙ sym (ap (λ (p : Option Pending). is_ready (record (job_of c.args.self.now) { desk = c.run_or_take.new.self.desk; pending = p; wants = None }))
    (ap (option_map pending_of) (nothing c.args.self.now.again (sym c.is_some.ensures ∙ c.if-is_some.false))))

pub returns-in-Err-clause-ready : goal.returns-in-Err-clause-ready
returns-in-Err-clause-ready g c =
    c.ready-self-in-Err.ensures
    ∙ sym (ap (λ (p : Option Pending). is_ready (record (job_of c.args.self.now) { desk = c.run_or_take.new.self.desk; pending = p; wants = None }))
    (ap (option_map pending_of) (nothing c.args.self.now.again (sym c.is_some.ensures ∙ c.if-is_some.false))))
