-- The job at the place is the one of its number, also afterwards.
use Rattle.std.proofs.Common.{List, Ok, Result, Some, ap, arith, length, length-set, slice_get, subst, sym, ◌∙◌, ◌≡◌}
use Rattle.std.proofs.lemmas.Option.{get_or_from_slice_get, slice_get_within}
use Rattle.g_base.specs.declared.memory.NoMemory.{NoMemory}
use Rattle.g_job.specs.State.{JobState}
use Rattle.g_job.specs.Turns.{turn_work}
use Rattle.g_rules.specs.declared.turn.Turn.{Turn}
use Rattle.g_plain.specs.Programs.{RanInPart}
use Rattle.g_job_table.specs.Crew.{CrewState}
use Rattle.g_job_table.specs.Numbers.{job_in}
use Rattle.g_job_table.specs.Seating.{seats_in}
use Rattle.g_job_table.specs.Turn.{TakesTurn, shown_from}
use Rattle.g_job_table.proofs.NumberLemmas.{AreJobs-remove, AreJobs-set, IsOnly-at, remove-set}
use Rattle.g_job_table.proofs.SeatLemmas.{seats-set, seats-without}
use Rattle.g_job_table.proofs.TakingLemmas.{crew_is}
use Rattle.g_mop.specs.Seats.{without_seat}
use Rattle.g_job_table.proofs.crew.Crew.turn.Goals as goal
use Rattle.g_run_model.specs.World.{with_job, without_job}

pub invariant_of-self : goal.invariant_of-self
invariant_of-self g c =
    let p = c.in-Some.ensures in
    let items = c.self.inside.jobs.items in
    let there : slice_get items c.in-Some.place ≡ Some p.job = ap (λ (js : List JobState). slice_get js c.in-Some.place) (sym c.deref.ensures.value) ∙ p.there in
    let same : c.index_mut.result.now ≡ p.job = c.index_mut.ensures.value ∙ get_or_from_slice_get items c.in-Some.place p.job c.index_mut.result.now there in
    let number = c.in-Ok.ensures.spends.0 ∙ ap (λ (j : JobState). j.number) same in
    let seat = c.in-Ok.ensures.seat in (
      AreJobs-set items c.self.inside.next_job c.in-Some.place p.job c.turn.new.self c.self.invariant.0 there number
          (c.in-Ok.ensures.spends.1 ∙ ap (λ (j : JobState). j.allowance) same),
      c.self.invariant.1 ∙ sym (seats-set items c.in-Some.place p.job c.turn.new.self there (seat.0 ∙ ap (λ (j : JobState). j.terminal) same) number (seat.1 ∙ ap (λ (j : JobState). j.desk.levels.held) same)),
    )

pub remove_job-requires : goal.remove_job-requires
remove_job-requires g c =
    let p = c.in-Some.ensures in
    let items = c.self.inside.jobs.items in
    omega (arith, slice_get_within c.deref.result.now c.in-Some.place p.job p.there, ap length c.deref.ensures.value, length-set items c.in-Some.place c.turn.new.self)

pub invariant_of-self-in-Err : goal.invariant_of-self-in-Err
invariant_of-self-in-Err g c =
    let p = c.in-Some.ensures in
    let items = c.self.inside.jobs.items in
    let there : slice_get items c.in-Some.place ≡ Some p.job = ap (λ (js : List JobState). slice_get js c.in-Some.place) (sym c.deref.ensures.value) ∙ p.there in
    let only = IsOnly-at 1 items c.self.inside.next_job c.in-Some.place p.job c.self.invariant.0.rise there in
    rw (c.remove_job.ensures ∙ remove-set items c.in-Some.place c.turn.new.self) (
      AreJobs-remove items c.self.inside.next_job c.in-Some.place p.job c.self.invariant.0 there,
      c.get_up.ensures ∙ ap (without_seat c.args.number) c.self.invariant.1 ∙ sym (seats-without c.args.number items) ∙ ap seats_in (ap (λ n. without_job n items) (sym p.named) ∙ only.gone),
    )

pub returns-in-Ok-clause-ok : goal.returns-in-Ok-clause-ok
returns-in-Ok-clause-ok g c =
    let p = c.in-Some.ensures in
    let items = c.self.inside.jobs.items in
    let there : slice_get items c.in-Some.place ≡ Some p.job = ap (λ (js : List JobState). slice_get js c.in-Some.place) (sym c.deref.ensures.value) ∙ p.there in
    let same : c.index_mut.result.now ≡ p.job = c.index_mut.ensures.value ∙ get_or_from_slice_get items c.in-Some.place p.job c.index_mut.result.now there in
    let only = IsOnly-at 1 items c.self.inside.next_job c.in-Some.place p.job c.self.invariant.0.rise there in
    let after = c.turn.new.self in
    let o = c.in-Ok.ensures.ok in
    let taken : TakesTurn g.S.Filestore.answers g.F.Fn c.args.tariff.now c.index_mut.result.now c.args.store.now c.in-Ok.turn after c.turn.new.store =
    record {
      told = o.0;
      work = o.1;
      ran = o.2;
      cause = o.3;
      within = o.4;
      ends = o.5;
      spends = c.in-Ok.ensures.spends;
      waited = λ serial e. c.in-Ok.ensures.waited serial (ap (λ (t : Turn). let r : Result Turn NoMemory = Ok t in r) e);
      seat = c.in-Ok.ensures.seat;
    } in
    let number = c.in-Ok.ensures.spends.0 ∙ ap (λ (j : JobState). j.number) same in
    let target : CrewState = record { jobs = with_job after c.args.self.now.jobs; accounts = c.args.self.now.accounts; next_job = c.args.self.now.next_job } in (
      p.job,
      after,
      ap (λ (v : CrewState). job_in c.args.number v.jobs) (sym c.self.view_is) ∙ ap (λ n. job_in n items) (sym p.named) ∙ only.found,
      subst (λ (j : JobState). TakesTurn g.S.Filestore.answers g.F.Fn c.args.tariff.now j c.args.store.now c.in-Ok.turn after c.turn.new.store) same taken,
      crew_is target _ _ _ (sym (only.changed after number) ∙ ap (λ (v : CrewState). with_job after v.jobs) c.self.view_is) (ap (λ (v : CrewState). v.accounts) c.self.view_is)
          (ap (λ (v : CrewState). v.next_job) c.self.view_is),
      c.file_before-shown.ensures ∙ ap shown_from (c.index.ensures ∙ get_or_from_slice_get items c.in-Some.place p.job c.index.result.now there),
    )

pub returns-in-Err-clause-err : goal.returns-in-Err-clause-err
returns-in-Err-clause-err g c =
    let p = c.in-Some.ensures in
    let items = c.self.inside.jobs.items in
    let there : slice_get items c.in-Some.place ≡ Some p.job = ap (λ (js : List JobState). slice_get js c.in-Some.place) (sym c.deref.ensures.value) ∙ p.there in
    let same : c.index_mut.result.now ≡ p.job = c.index_mut.ensures.value ∙ get_or_from_slice_get items c.in-Some.place p.job c.index_mut.result.now there in
    let only = IsOnly-at 1 items c.self.inside.next_job c.in-Some.place p.job c.self.invariant.0.rise there in (
      p.job,
      ap (λ (v : CrewState). job_in c.args.number v.jobs) (sym c.self.view_is) ∙ ap (λ n. job_in n items) (sym p.named) ∙ only.found,
      subst (λ (j : JobState). RanInPart g.S.Filestore.answers j.user c.args.store.now (turn_work j) c.turn.new.store) same c.in-Err.ensures.err,
    )

pub returns-in-Err-clause-gone : goal.returns-in-Err-clause-gone
returns-in-Err-clause-gone g c =
    let p = c.in-Some.ensures in
    let items = c.self.inside.jobs.items in
    let there : slice_get items c.in-Some.place ≡ Some p.job = ap (λ (js : List JobState). slice_get js c.in-Some.place) (sym c.deref.ensures.value) ∙ p.there in
    let only = IsOnly-at 1 items c.self.inside.next_job c.in-Some.place p.job c.self.invariant.0.rise there in
    let target : CrewState = record { jobs = without_job c.args.number c.args.self.now.jobs; accounts = c.args.self.now.accounts; next_job = c.args.self.now.next_job } in
    crew_is target _ _ _
    (c.remove_job.ensures ∙ remove-set items c.in-Some.place c.turn.new.self ∙ sym only.gone ∙ ap (λ n. without_job n items) p.named ∙ ap (λ (v : CrewState). without_job c.args.number v.jobs) c.self.view_is)
    (ap (λ (v : CrewState). v.accounts) c.self.view_is) (ap (λ (v : CrewState). v.next_job) c.self.view_is)
