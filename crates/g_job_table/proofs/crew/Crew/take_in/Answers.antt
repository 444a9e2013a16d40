-- In every world of the crew it is refused as the reasons say.
use Rattle.std.proofs.Common.{None, ap, refl, subst, sym, ◌∙◌, ◌≡◌}
use Rattle.g_job_table.specs.Crew.{CrewState, IsCrewOf}
use Rattle.g_job_table.proofs.TakingLemmas.{crew_is}
use Rattle.g_job_table.proofs.crew.Crew.take_in.Goals as goal
use Rattle.g_run_model.specs.Lines.{job_refusal}

pub returns-in-Ok-clause-refusal : goal.returns-in-Ok-clause-refusal
returns-in-Ok-clause-refusal c = λ w crew knows.
    let same =
    crew_is c.args.self.now c.deref-2.result.now c.deref.result.now c.args.self.now.next_job (c.deref-2.ensures.value ∙ ap (λ (v : CrewState). v.jobs) c.self.view_is)
    (c.deref.ensures.value ∙ ap (λ (v : CrewState). v.accounts) c.self.view_is) refl in
    let none : job_refusal w c.args.job.user c.args.job.time c.args.job.money ≡ None =
    c.in-Ok.ensures.refusal c.args.self.now.next_job w (subst (λ (v : CrewState). IsCrewOf w v) (sym same) crew) knows in
    none ∙ sym c.begin.ensures.untold

pub returns-in-Err-clause-refusal : goal.returns-in-Err-clause-refusal
returns-in-Err-clause-refusal c = λ w crew knows.
    let same =
    crew_is c.args.self.now c.deref-2.result.now c.deref.result.now c.args.self.now.next_job (c.deref-2.ensures.value ∙ ap (λ (v : CrewState). v.jobs) c.self.view_is)
    (c.deref.ensures.value ∙ ap (λ (v : CrewState). v.accounts) c.self.view_is) refl in
    c.in-Err.ensures.refusal c.args.self.now.next_job w (subst (λ (v : CrewState). IsCrewOf w v) (sym same) crew) knows
