-- The job at the place is the one of its number.
use Rattle.std.proofs.Common.{List, Some, ap, slice_get, sym, ◌++◌, ◌∙◌, ◌≡◌, ℕ}
use Rattle.std.proofs.lemmas.Option.{get_or_from_slice_get, same_Some}
use Rattle.g_job.specs.State.{JobState}
use Rattle.g_job_table.specs.Numbers.{job_in}
use Rattle.g_job_table.specs.Seating.{pushed_of}
use Rattle.g_job_table.proofs.NumberLemmas.{IsOnly-at}
use Rattle.g_job_table.proofs.SeatLemmas.{ok-then}
use Rattle.g_job_table.proofs.crew.Crew.push_shown.Goals as goal

pub returns : goal.returns
returns c =
    let p = c.in-Some.ensures in
    let jobs = c.args.self.now.jobs in
    let there : slice_get jobs c.in-Some.place ≡ Some p.job = ap (λ (js : List JobState). slice_get js c.in-Some.place) (sym c.jobs.ensures.jobs) ∙ p.there in
    let there' : slice_get c.jobs-2.result.now c.in-Some.place ≡ Some p.job = ap (λ (js : List JobState). slice_get js c.in-Some.place) c.jobs-2.ensures.jobs ∙ there in
    let only = IsOnly-at 1 jobs c.args.self.now.next_job c.in-Some.place p.job c.jobs.ensures.numbers.rise there in
    ok-then c.push_added.result
    (λ is job found.
    let same : p.job ≡ job = same_Some p.job job (sym only.found ∙ ap (λ (n : ℕ). job_in n jobs) p.named ∙ found) in
    is ∙ ap (λ (j : JobState). c.args.text.now ++ pushed_of j c.args.before) (c.index-jobs-place.is ∙ get_or_from_slice_get c.jobs-2.result.now c.in-Some.place p.job c.index-jobs-place.result there' ∙ same))
    c.push_added.ensures
