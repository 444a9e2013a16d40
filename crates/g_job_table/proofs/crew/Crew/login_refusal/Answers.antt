-- In every world of the crew the reasons are checked in this order.
use Rattle.std.proofs.Common.{List, None, Option, ap, refl, subst, sym, ◌∙◌, ◌≡◌}
use Rattle.std.specs.Prelude.{is_some}
use Rattle.g_job.specs.State.{JobState}
use Rattle.g_job_table.specs.Crew.{CrewState, IsCrewOf}
use Rattle.g_job_table.proofs.SeatLemmas.{busy-told}
use Rattle.g_job_table.proofs.TakingLemmas.{crew_is, login-busy, login-free}
use Rattle.g_job_table.proofs.crew.Crew.login_refusal.Goals as goal
use Rattle.g_run_model.specs.Lines.{job_at}

pub returns-then-is_busy-clause-refusal : goal.returns-then-is_busy-clause-refusal
returns-then-is_busy-clause-refusal c = λ w crew knows.
    let jobs = ap (λ (v : CrewState). v.jobs) c.self.view_is in
    let told = busy-told c.args.login.now.terminal c.self.inside.jobs.items _ c.is_busy.result c.self.invariant.1 c.is_busy.ensures in
    login-busy w c.args.self.now c.args.known c.args.login.now.terminal c.args.login.now.user c.args.login.now.time crew knows c.if-not-known.false
    (subst (λ (js : List JobState). is_some (job_at c.args.login.now.terminal js) ≡ c.is_busy.result) jobs told ∙ c.if-is_busy.true)

pub returns-in-Ok-clause-refusal : goal.returns-in-Ok-clause-refusal
returns-in-Ok-clause-refusal c = λ w crew knows.
    let jobs = ap (λ (v : CrewState). v.jobs) c.self.view_is in
    let told = busy-told c.args.login.now.terminal c.self.inside.jobs.items _ c.is_busy.result c.self.invariant.1 c.is_busy.ensures in
    let same = crew_is c.args.self.now c.deref-2.result.now c.deref.result.now c.args.self.now.next_job (c.deref-2.ensures.value ∙ jobs) (c.deref.ensures.value ∙ ap (λ (v : CrewState). v.accounts) c.self.view_is) refl in
    login-free w c.args.self.now c.args.known c.args.login.now.terminal c.args.login.now.user c.args.login.now.time crew knows c.if-not-known.false
    (subst (λ (js : List JobState). is_some (job_at c.args.login.now.terminal js) ≡ c.is_busy.result) jobs told ∙ c.if-is_busy.false)
    ∙ c.in-Ok.ensures.refusal c.args.self.now.next_job w (subst (λ (v : CrewState). IsCrewOf w v) (sym same) crew)

pub returns-in-Err-clause-refusal : goal.returns-in-Err-clause-refusal
returns-in-Err-clause-refusal c = λ w crew knows.
    let jobs = ap (λ (v : CrewState). v.jobs) c.self.view_is in
    let told = busy-told c.args.login.now.terminal c.self.inside.jobs.items _ c.is_busy.result c.self.invariant.1 c.is_busy.ensures in
    let same = crew_is c.args.self.now c.deref-2.result.now c.deref.result.now c.args.self.now.next_job (c.deref-2.ensures.value ∙ jobs) (c.deref.ensures.value ∙ ap (λ (v : CrewState). v.accounts) c.self.view_is) refl in
    login-free w c.args.self.now c.args.known c.args.login.now.terminal c.args.login.now.user c.args.login.now.time crew knows c.if-not-known.false
    (subst (λ (js : List JobState). is_some (job_at c.args.login.now.terminal js) ≡ c.is_busy.result) jobs told ∙ c.if-is_busy.false)
    ∙ c.in-Err.ensures.refusal c.args.self.now.next_job w (subst (λ (v : CrewState). IsCrewOf w v) (sym same) crew)
