-- The job is appended to the others, and its seat to theirs.
use Rattle.std.proofs.Common.{List, [], ap, arith, length, sym, ◌++◌, ◌∙◌, ◌∷◌, ◌≡◌, ℕ}
use Rattle.g_job_table.specs.Crew.{CrewState}
use Rattle.g_job_table.specs.Numbers.{job_in}
use Rattle.g_job_table.specs.Seating.{seats_in}
use Rattle.g_job_table.proofs.NumberLemmas.{AreJobs-push, found-pushed}
use Rattle.g_job_table.proofs.SeatLemmas.{seats-seated}
use Rattle.g_job_table.proofs.crew.Crew.push_at.Goals as goal
use Rattle.g_job_table.proofs.crew.Crew.push_at.Goals.{in-Err, in-Ok}
use Rattle.g_mop.specs.Seats.{seat_taken}
use Rattle.g_mop.specs.declared.seat.Seat.{Seat}

pub invariant_of-self-in-Ok : goal.invariant_of-self-in-Ok
invariant_of-self-in-Ok c =
    let items = c.self.inside.jobs.items in
    let next : c.args.job.number ≡ c.self.inside.next_job = c.requires.next ∙ sym (ap (λ (v : CrewState). v.next_job) c.self.view_is) in
    rw c.in-Ok.ensures.items (
      AreJobs-push items c.self.inside.next_job c.args.job c.self.invariant.0 (omega (arith, c.requires.few, ap (λ (v : CrewState). length v.jobs) c.self.view_is)) next c.requires.allowed,
      c.sit.ensures ∙ ap (λ (s : List Seat). s ++ seat_taken c.args.terminal c.self.inside.next_job ∷ []) (c.make_seats.ensures.same ∙ c.self.invariant.1)
          ∙ ap (λ (n : ℕ). seats_in items ++ seat_taken c.args.terminal n ∷ []) (sym next)
          ∙ sym (seats-seated items c.args.job c.args.terminal c.requires.seated.0 c.requires.seated.1),
    )

pub returns-clause-there : goal.returns-clause-there
returns-clause-there c =
    let items = c.self.inside.jobs.items in
    let next : c.args.job.number ≡ c.self.inside.next_job = c.requires.next ∙ sym (ap (λ (v : CrewState). v.next_job) c.self.view_is) in
    elim c.match-push.branch [
      | in-Ok w ↦
          rw (w.result-is, w.self-is)
          (ap (job_in c.self.inside.next_job) w.in-Ok.ensures.items ∙ ap (λ (n : ℕ). job_in n (items ++ c.args.job ∷ [])) (sym next)
          ∙ found-pushed 1 items c.self.inside.next_job c.args.job c.self.invariant.0.rise next)
      | in-Err w ↦ rw w.result-is tt
    ]
