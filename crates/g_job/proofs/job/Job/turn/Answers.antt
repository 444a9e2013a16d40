use Rattle.std.proofs.Common.{IfOk, None, OnErr, ap, subst, ◌∙◌, ◌≡◌}
use Rattle.std.proofs.lemmas.Result.{IfOk-weaker}
use Rattle.g_job.specs.JobValue.{job_of}
use Rattle.g_job.specs.Making.{Makes}
use Rattle.g_job.specs.Rules.{IsJob}
use Rattle.g_job.specs.State.{JobState}
use Rattle.g_job.specs.TurnEnd.{IsTurn}
use Rattle.g_job.specs.Turns.{turn_work}
use Rattle.g_job.specs.declared.parts.Parts.{Parts}
use Rattle.g_job.proofs.TerminalLemmas.{keeps_seat, turn_leaves}
use Rattle.g_job.proofs.TurnLemmas.{rules_after, spends_of, stopped_of, told, told_before, turn_before, waits_of}
use Rattle.g_job.proofs.WellLemmas.{turn_spent, turn_waits}
use Rattle.g_turn.proofs.ReadyLemmas.{on_err}
use Rattle.g_turn.proofs.WellThen.{part_whole}
use Rattle.g_job.proofs.job.Job.turn.Goals as goal

-- the rules at the end of the work
pub invariant_of-self : goal.invariant_of-self
invariant_of-self g c =
    let made : Makes g.S.Filestore.answers g.S.Filestore.is_spent g.S.Filestore.can_wait c.args.self.now c.args.store.now c.make.new.self.work c.make.new.store =
    subst (λ (j : JobState). Makes g.S.Filestore.answers g.S.Filestore.is_spent g.S.Filestore.can_wait j c.args.store.now c.make.new.self.work c.make.new.store) (ap job_of c.deref_mut.ensures.value ∙ c.self.view_is) c.in-Ok.ensures.ok in
    let rules : IsJob c.args.self.now = subst IsJob c.self.view_is c.self.invariant.0 in (
      rules_after g.F.Fn c.args.tariff.now c.requires.tariff c.args.self.now (job_of c.make.new.self) c.make.new.self.work (job_of c.end.new.self) c.end.result rules c.requires.open made.within made.gone
          (c.make.ensures.job ∙ ap (λ (j : JobState). record j { desk = c.make.new.self.work.desk; pending = None; wants = None }) (ap job_of c.deref_mut.ensures.value ∙ c.self.view_is)) (subst (λ (p : Parts). IfOk c.end.result (λ turn. IsTurn g.F.Fn c.args.tariff.now (job_of p) p.work turn (job_of c.end.new.self))) c.deref_mut-in-Ok.ensures.value c.end.ensures.ok) (subst (λ (p : Parts). OnErr c.end.result (job_of c.end.new.self ≡ job_of p)) c.deref_mut-in-Ok.ensures.value c.end.ensures.err),
      c.end.ensures.ready,
    )

pub returns-in-Ok-clause-ok : goal.returns-in-Ok-clause-ok
returns-in-Ok-clause-ok g c =
    let made : Makes g.S.Filestore.answers g.S.Filestore.is_spent g.S.Filestore.can_wait c.args.self.now c.args.store.now c.make.new.self.work c.make.new.store =
    subst (λ (j : JobState). Makes g.S.Filestore.answers g.S.Filestore.is_spent g.S.Filestore.can_wait j c.args.store.now c.make.new.self.work c.make.new.store) (ap job_of c.deref_mut.ensures.value ∙ c.self.view_is) c.in-Ok.ensures.ok in
    let turned : IfOk c.end.result (λ turn. IsTurn g.F.Fn c.args.tariff.now c.args.self.now c.make.new.self.work turn (job_of c.end.new.self)) =
    IfOk-weaker c.end.result _ _ (λ turn is. turn_before g.F.Fn c.args.tariff.now c.args.self.now (job_of c.make.new.self) c.make.new.self.work turn (job_of c.end.new.self)
    (c.make.ensures.job ∙ ap (λ (j : JobState). record j { desk = c.make.new.self.work.desk; pending = None; wants = None }) (ap job_of c.deref_mut.ensures.value ∙ c.self.view_is)) is)
    (subst (λ (p : Parts). IfOk c.end.result (λ turn. IsTurn g.F.Fn c.args.tariff.now (job_of p) p.work turn (job_of c.end.new.self))) c.deref_mut-in-Ok.ensures.value c.end.ensures.ok) in
    let answers = told g.S.Filestore.answers g.S.Filestore.is_spent g.S.Filestore.can_wait c.args.self.now c.args.store.now c.make.new.self.work c.make.new.store made.ran in
    IfOk-weaker c.end.result _ _ (λ turn is. (answers.0, c.make.new.self.work, answers.1, answers.2, made.within, is)) turned

pub returns-in-Ok-clause-waits : goal.returns-in-Ok-clause-waits
returns-in-Ok-clause-waits g c =
    let made : Makes g.S.Filestore.answers g.S.Filestore.is_spent g.S.Filestore.can_wait c.args.self.now c.args.store.now c.make.new.self.work c.make.new.store =
    subst (λ (j : JobState). Makes g.S.Filestore.answers g.S.Filestore.is_spent g.S.Filestore.can_wait j c.args.store.now c.make.new.self.work c.make.new.store) (ap job_of c.deref_mut.ensures.value ∙ c.self.view_is) c.in-Ok.ensures.ok in
    let turned : IfOk c.end.result (λ turn. IsTurn g.F.Fn c.args.tariff.now c.args.self.now c.make.new.self.work turn (job_of c.end.new.self)) =
    IfOk-weaker c.end.result _ _ (λ turn is. turn_before g.F.Fn c.args.tariff.now c.args.self.now (job_of c.make.new.self) c.make.new.self.work turn (job_of c.end.new.self)
    (c.make.ensures.job ∙ ap (λ (j : JobState). record j { desk = c.make.new.self.work.desk; pending = None; wants = None }) (ap job_of c.deref_mut.ensures.value ∙ c.self.view_is)) is)
    (subst (λ (p : Parts). IfOk c.end.result (λ turn. IsTurn g.F.Fn c.args.tariff.now (job_of p) p.work turn (job_of c.end.new.self))) c.deref_mut-in-Ok.ensures.value c.end.ensures.ok) in
    λ serial is.
    turn_waits g.S.Filestore.answers g.S.Filestore.is_spent g.S.Filestore.can_wait c.args.self.now c.args.store.now c.make.new.self.work c.make.new.store serial made.ran
    (waits_of g.F.Fn c.args.tariff.now c.args.self.now c.make.new.self.work serial (job_of c.end.new.self)
    (subst (λ r. IfOk r (λ turn. IsTurn g.F.Fn c.args.tariff.now c.args.self.now c.make.new.self.work turn (job_of c.end.new.self))) is turned))

pub returns-in-Ok-clause-stopped : goal.returns-in-Ok-clause-stopped
returns-in-Ok-clause-stopped g c =
    let made : Makes g.S.Filestore.answers g.S.Filestore.is_spent g.S.Filestore.can_wait c.args.self.now c.args.store.now c.make.new.self.work c.make.new.store =
    subst (λ (j : JobState). Makes g.S.Filestore.answers g.S.Filestore.is_spent g.S.Filestore.can_wait j c.args.store.now c.make.new.self.work c.make.new.store) (ap job_of c.deref_mut.ensures.value ∙ c.self.view_is) c.in-Ok.ensures.ok in
    let turned : IfOk c.end.result (λ turn. IsTurn g.F.Fn c.args.tariff.now c.args.self.now c.make.new.self.work turn (job_of c.end.new.self)) =
    IfOk-weaker c.end.result _ _ (λ turn is. turn_before g.F.Fn c.args.tariff.now c.args.self.now (job_of c.make.new.self) c.make.new.self.work turn (job_of c.end.new.self)
    (c.make.ensures.job ∙ ap (λ (j : JobState). record j { desk = c.make.new.self.work.desk; pending = None; wants = None }) (ap job_of c.deref_mut.ensures.value ∙ c.self.view_is)) is)
    (subst (λ (p : Parts). IfOk c.end.result (λ turn. IsTurn g.F.Fn c.args.tariff.now (job_of p) p.work turn (job_of c.end.new.self))) c.deref_mut-in-Ok.ensures.value c.end.ensures.ok) in
    let spent = turn_spent g.S.Filestore.answers g.S.Filestore.is_spent g.S.Filestore.can_wait c.args.self.now c.args.store.now c.make.new.self.work c.make.new.store c.requires.spent made.ran in
    IfOk-weaker c.end.result _ _
    (λ turn is.
    let stopped = stopped_of g.F.Fn c.args.tariff.now c.args.self.now c.make.new.self.work turn (job_of c.end.new.self) is in
    ((λ was. stopped.0 (spent.0 was)), (λ was. spent.1 (stopped.1 was)))) turned

pub returns-in-Ok-clause-spends : goal.returns-in-Ok-clause-spends
returns-in-Ok-clause-spends g c =
    let made : Makes g.S.Filestore.answers g.S.Filestore.is_spent g.S.Filestore.can_wait c.args.self.now c.args.store.now c.make.new.self.work c.make.new.store =
    subst (λ (j : JobState). Makes g.S.Filestore.answers g.S.Filestore.is_spent g.S.Filestore.can_wait j c.args.store.now c.make.new.self.work c.make.new.store) (ap job_of c.deref_mut.ensures.value ∙ c.self.view_is) c.in-Ok.ensures.ok in
    let turned : IfOk c.end.result (λ turn. IsTurn g.F.Fn c.args.tariff.now c.args.self.now c.make.new.self.work turn (job_of c.end.new.self)) =
    IfOk-weaker c.end.result _ _ (λ turn is. turn_before g.F.Fn c.args.tariff.now c.args.self.now (job_of c.make.new.self) c.make.new.self.work turn (job_of c.end.new.self)
    (c.make.ensures.job ∙ ap (λ (j : JobState). record j { desk = c.make.new.self.work.desk; pending = None; wants = None }) (ap job_of c.deref_mut.ensures.value ∙ c.self.view_is)) is)
    (subst (λ (p : Parts). IfOk c.end.result (λ turn. IsTurn g.F.Fn c.args.tariff.now (job_of p) p.work turn (job_of c.end.new.self))) c.deref_mut-in-Ok.ensures.value c.end.ensures.ok) in
    let rules : IsJob c.args.self.now = subst IsJob c.self.view_is c.self.invariant.0 in
    IfOk-weaker c.end.result _ _ (λ turn is. spends_of g.F.Fn c.args.tariff.now c.requires.tariff c.args.self.now c.make.new.self.work turn (job_of c.end.new.self) rules c.requires.open made.within is) turned

pub returns-in-Ok-clause-waited : goal.returns-in-Ok-clause-waited
returns-in-Ok-clause-waited g c =
    let turned : IfOk c.end.result (λ turn. IsTurn g.F.Fn c.args.tariff.now c.args.self.now c.make.new.self.work turn (job_of c.end.new.self)) =
    IfOk-weaker c.end.result _ _ (λ turn is. turn_before g.F.Fn c.args.tariff.now c.args.self.now (job_of c.make.new.self) c.make.new.self.work turn (job_of c.end.new.self)
    (c.make.ensures.job ∙ ap (λ (j : JobState). record j { desk = c.make.new.self.work.desk; pending = None; wants = None }) (ap job_of c.deref_mut.ensures.value ∙ c.self.view_is)) is)
    (subst (λ (p : Parts). IfOk c.end.result (λ turn. IsTurn g.F.Fn c.args.tariff.now (job_of p) p.work turn (job_of c.end.new.self))) c.deref_mut-in-Ok.ensures.value c.end.ensures.ok) in
    λ serial is.
    told_before g.F.Fn c.args.tariff.now c.args.self.now c.make.new.self.work serial (job_of c.end.new.self)
    (subst (λ r. IfOk r (λ turn. IsTurn g.F.Fn c.args.tariff.now c.args.self.now c.make.new.self.work turn (job_of c.end.new.self))) is turned)

pub returns-in-Ok-clause-err : goal.returns-in-Ok-clause-err
returns-in-Ok-clause-err g c =
    let made : Makes g.S.Filestore.answers g.S.Filestore.is_spent g.S.Filestore.can_wait c.args.self.now c.args.store.now c.make.new.self.work c.make.new.store =
    subst (λ (j : JobState). Makes g.S.Filestore.answers g.S.Filestore.is_spent g.S.Filestore.can_wait j c.args.store.now c.make.new.self.work c.make.new.store) (ap job_of c.deref_mut.ensures.value ∙ c.self.view_is) c.in-Ok.ensures.ok in
    on_err c.end.result (part_whole g.S.Filestore.answers g.S.Filestore.is_spent g.S.Filestore.can_wait c.args.self.now.user (turn_work c.args.self.now) c.args.store.now c.make.new.self.work c.make.new.store made.ran)

pub returns-in-Ok-clause-seat : goal.returns-in-Ok-clause-seat
returns-in-Ok-clause-seat g c =
    let made : Makes g.S.Filestore.answers g.S.Filestore.is_spent g.S.Filestore.can_wait c.args.self.now c.args.store.now c.make.new.self.work c.make.new.store =
    subst (λ (j : JobState). Makes g.S.Filestore.answers g.S.Filestore.is_spent g.S.Filestore.can_wait j c.args.store.now c.make.new.self.work c.make.new.store) (ap job_of c.deref_mut.ensures.value ∙ c.self.view_is) c.in-Ok.ensures.ok in
    let turned : IfOk c.end.result (λ turn. IsTurn g.F.Fn c.args.tariff.now c.args.self.now c.make.new.self.work turn (job_of c.end.new.self)) =
    IfOk-weaker c.end.result _ _ (λ turn is. turn_before g.F.Fn c.args.tariff.now c.args.self.now (job_of c.make.new.self) c.make.new.self.work turn (job_of c.end.new.self)
    (c.make.ensures.job ∙ ap (λ (j : JobState). record j { desk = c.make.new.self.work.desk; pending = None; wants = None }) (ap job_of c.deref_mut.ensures.value ∙ c.self.view_is)) is)
    (subst (λ (p : Parts). IfOk c.end.result (λ turn. IsTurn g.F.Fn c.args.tariff.now (job_of p) p.work turn (job_of c.end.new.self))) c.deref_mut-in-Ok.ensures.value c.end.ensures.ok) in
    let rules : IsJob c.args.self.now = subst IsJob c.self.view_is c.self.invariant.0 in
    IfOk-weaker c.end.result _ _ (λ turn is. keeps_seat g.F.Fn c.args.tariff.now c.args.self.now c.make.new.self.work turn (job_of c.end.new.self) (turn_leaves g.S.Filestore.answers g.S.Filestore.is_spent g.S.Filestore.can_wait c.args.self.now c.args.store.now c.make.new.self.work c.make.new.store rules made.ran) is) turned
