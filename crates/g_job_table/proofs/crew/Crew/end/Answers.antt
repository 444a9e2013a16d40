-- The job at the place is the one of its number.
use Rattle.std.proofs.Common.{List, Option, Some, ap, arith, drop, is_some, length, slice_get, subst, sym, take, true, ◌++◌, ◌∙◌, ◌≡◌}
use Rattle.std.proofs.lemmas.Option.{get_or_from_slice_get, slice_get_within}
use Rattle.g_job.specs.State.{JobState}
use Rattle.g_job_table.specs.Accounts.{AreKept, charged, kept_for}
use Rattle.g_job_table.specs.Crew.{CrewState}
use Rattle.g_job_table.specs.Numbers.{job_in}
use Rattle.g_job_table.specs.declared.account.Account.{Account}
use Rattle.g_job_table.proofs.AccountLemmas.{AreKept-settled, charged-keeps, charged-whole}
use Rattle.g_job_table.proofs.NumberLemmas.{AreJobs-remove, IsOnly-at, same-at, without-none}
use Rattle.g_job_table.specs.Seating.{seats_in}
use Rattle.g_job_table.proofs.SeatLemmas.{seats-without}
use Rattle.g_job_table.proofs.crew.Crew.end.Goals as goal
use Rattle.g_mop.specs.Seats.{without_seat}
use Rattle.g_run_model.specs.World.{without_job}

pub returns-in_default-clause-jobs : goal.returns-in_default-clause-jobs
returns-in_default-clause-jobs c =
    let jobs : c.deref.result.now ≡ c.args.self.now.jobs = c.deref.ensures.value ∙ ap (λ (v : CrewState). v.jobs) c.self.view_is in
    sym (without-none c.args.number c.args.self.now.jobs (ap (job_in c.args.number) (sym jobs) ∙ c.in_default.ensures))

pub take_job-requires : goal.take_job-requires
take_job-requires c =
    let p = c.in-Some.ensures in
    omega (arith, slice_get_within c.deref.result.now c.in-Some.place p.job p.there, ap length c.deref.ensures.value, c.self.inside.jobs.ok.0)

pub invariant_of-self : goal.invariant_of-self
invariant_of-self c =
    let p = c.in-Some.ensures in
    let items = c.self.inside.jobs.items in
    let there : slice_get items c.in-Some.place ≡ Some p.job = ap (λ (js : List JobState). slice_get js c.in-Some.place) (sym c.deref.ensures.value) ∙ p.there in
    let only = IsOnly-at 1 items c.self.inside.next_job c.in-Some.place p.job c.self.invariant.0.rise there in
    rw c.take_job.ensures.items (
      AreJobs-remove items c.self.inside.next_job c.in-Some.place p.job c.self.invariant.0 there,
      c.get_up.ensures ∙ ap (without_seat c.args.number) c.self.invariant.1 ∙ sym (seats-without c.args.number items) ∙ ap seats_in (ap (λ n. without_job n items) (sym p.named) ∙ only.gone),
    )

pub returns-clause-job : goal.returns-clause-job
returns-clause-job c =
    let p = c.in-Some.ensures in
    let items = c.self.inside.jobs.items in
    let there : slice_get items c.in-Some.place ≡ Some p.job = ap (λ (js : List JobState). slice_get js c.in-Some.place) (sym c.deref.ensures.value) ∙ p.there in
    let only = IsOnly-at 1 items c.self.inside.next_job c.in-Some.place p.job c.self.invariant.0.rise there in
    let same : c.take_job.result ≡ p.job = c.take_job.ensures.value ∙ get_or_from_slice_get items c.in-Some.place p.job c.take_job.result there in
    ap (λ (j : JobState). let o : Option JobState = Some j in o) same ∙ sym only.found ∙ ap (λ n. job_in n items) p.named ∙ ap (λ (v : CrewState). job_in c.args.number v.jobs) c.self.view_is

pub returns-clause-jobs : goal.returns-clause-jobs
returns-clause-jobs c =
    let p = c.in-Some.ensures in
    let items = c.self.inside.jobs.items in
    let there : slice_get items c.in-Some.place ≡ Some p.job = ap (λ (js : List JobState). slice_get js c.in-Some.place) (sym c.deref.ensures.value) ∙ p.there in
    let only = IsOnly-at 1 items c.self.inside.next_job c.in-Some.place p.job c.self.invariant.0.rise there in
    c.take_job.ensures.items ∙ sym only.gone ∙ ap (λ n. without_job n items) p.named ∙ ap (λ (v : CrewState). without_job c.args.number v.jobs) c.self.view_is

pub returns-clause-settled : goal.returns-clause-settled
returns-clause-settled c = λ accounts are user.
    let items = c.self.inside.accounts.items in
    let kept : AreKept accounts items = subst (λ (v : CrewState). AreKept accounts v.accounts) (sym c.self.view_is) are in
    let p = c.in-Some.ensures in
    let there : slice_get c.self.inside.jobs.items c.in-Some.place ≡ Some p.job = ap (λ (js : List JobState). slice_get js c.in-Some.place) (sym c.deref.ensures.value) ∙ p.there in
    let same = same-at c.self.inside.jobs.items c.in-Some.place p.job c.index.result.now c.take_job.result there c.index.ensures c.take_job.ensures.value in
    let new = c.charge.ensures ∙ ap (λ (xs : List Account). charged c.index.result.now xs) c.deref_mut.ensures.value ∙ ap (λ (j : JobState). charged j items) same in
    ap (λ (xs : List Account). kept_for (take c.self.inside.accounts.len (xs ++ drop (length xs) items)) user) new
    ∙ ap (λ (xs : List Account). kept_for xs user) (charged-whole c.take_job.result items c.self.inside.accounts.len c.self.inside.accounts.ok.0)
    ∙ AreKept-settled c.take_job.result accounts items kept user

pub returns-clause-kept : goal.returns-clause-kept
returns-clause-kept c = λ user some.
    let items = c.self.inside.accounts.items in
    let had : is_some (kept_for items user) ≡ true = ap (λ (v : CrewState). is_some (kept_for v.accounts user)) c.self.view_is ∙ some in
    let p = c.in-Some.ensures in
    let there : slice_get c.self.inside.jobs.items c.in-Some.place ≡ Some p.job = ap (λ (js : List JobState). slice_get js c.in-Some.place) (sym c.deref.ensures.value) ∙ p.there in
    let same = same-at c.self.inside.jobs.items c.in-Some.place p.job c.index.result.now c.take_job.result there c.index.ensures c.take_job.ensures.value in
    let new = c.charge.ensures ∙ ap (λ (xs : List Account). charged c.index.result.now xs) c.deref_mut.ensures.value ∙ ap (λ (j : JobState). charged j items) same in
    ap (λ (xs : List Account). is_some (kept_for (take c.self.inside.accounts.len (xs ++ drop (length xs) items)) user)) new
    ∙ ap (λ (xs : List Account). is_some (kept_for xs user)) (charged-whole c.take_job.result items c.self.inside.accounts.len c.self.inside.accounts.ok.0)
    ∙ charged-keeps c.take_job.result items user had
