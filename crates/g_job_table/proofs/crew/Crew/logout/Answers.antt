-- The job at the terminal is the one of the stored number.
use Rattle.std.proofs.Common.{List, None, Option, Some, ap, arith, refl, set, slice_get, subst, sym, ◌∙◌, ◌≡◌}
use Rattle.std.specs.Prelude.{Err, Ok, Result}
use Rattle.std.proofs.lemmas.Option.{get_or_from_slice_get, slice_get_within}
use Rattle.g_job.specs.State.{JobState}
use Rattle.g_job.specs.Terminal.{logged_out}
use Rattle.g_job_table.specs.Crew.{CrewState}
use Rattle.g_job_table.specs.Numbers.{job_in}
use Rattle.g_job_table.specs.Seating.{LogsOutAt, seats_of}
use Rattle.g_job_table.proofs.NumberLemmas.{IsOnly-at}
use Rattle.g_job_table.proofs.SeatLemmas.{kept-is, left-set, nobody-there, open-at, somebody-there}
use Rattle.g_job_table.proofs.TakingLemmas.{crew_is}
use Rattle.g_job_table.proofs.crew.Crew.logout.Goals as goal
use Rattle.g_run_model.specs.Lines.{open_at}
use Rattle.g_run_model.specs.World.{with_job}

pub returns-in_default : goal.returns-in_default
returns-in_default c =
    let none = nobody-there c.args.terminal c.self.inside.jobs.items (seats_of c.self.inside.terminals) c.self.invariant.1 c.log_out.ensures.apart c.log_out.result c.in_default.is c.log_out.ensures.number in
    subst (λ (o : Option JobState). LogsOutAt o c.args.self.now (record { jobs = c.self.inside.jobs.items; accounts = c.self.inside.accounts.items; next_job = c.self.inside.next_job }) (Err (record {})))
    (sym (ap (λ (v : CrewState). open_at c.args.terminal v.jobs) (sym c.self.view_is) ∙ none)) c.self.view_is

pub unreachable-requires : goal.unreachable-requires
unreachable-requires c =
    somebody-there c.args.terminal c.self.inside.jobs.items (seats_of c.self.inside.terminals) c.self.invariant.1 c.in-Some.number c.self.inside.next_job c.self.invariant.0 c.in-Some.ensures.number
    (ap (job_in c.in-Some.number) (sym c.deref.ensures.value) ∙ c.in_default-place_of.ensures)

pub index_mut-requires : goal.index_mut-requires
index_mut-requires c =
    let p = c.in-Some-place_of.ensures in
    omega (arith, slice_get_within c.deref.result.now c.in-Some-place_of.place p.job p.there, c.deref.ensures.len)

pub invariant_of-self-2 : goal.invariant_of-self-2
invariant_of-self-2 c =
    let p = c.in-Some-place_of.ensures in
    let items = c.self.inside.jobs.items in
    let place = c.in-Some-place_of.place in
    let there : slice_get items place ≡ Some p.job = ap (λ (js : List JobState). slice_get js place) (sym c.deref.ensures.value) ∙ p.there in
    let same : c.index_mut.result.now ≡ p.job = c.index_mut.ensures.value ∙ get_or_from_slice_get items place p.job c.index_mut.result.now there in
    let here = open-at c.args.terminal c.in-Some.number items c.self.inside.next_job place p.job c.self.invariant.0
    (kept-is c.args.terminal items (seats_of c.self.inside.terminals) c.self.invariant.1 (Some c.in-Some.number) c.in-Some.ensures.number) there p.named in
    left-set c.args.terminal items c.self.inside.next_job place p.job c.finish.new.self (seats_of c.self.inside.terminals) (seats_of c.log_out.new.terminals) c.self.invariant c.log_out.ensures.apart c.in-Some.ensures.some
    there here.1 (c.finish.ensures ∙ ap logged_out same)

pub returns : goal.returns
returns c =
    let p = c.in-Some-place_of.ensures in
    let items = c.self.inside.jobs.items in
    let place = c.in-Some-place_of.place in
    let there : slice_get items place ≡ Some p.job = ap (λ (js : List JobState). slice_get js place) (sym c.deref.ensures.value) ∙ p.there in
    let same : c.index_mut.result.now ≡ p.job = c.index_mut.ensures.value ∙ get_or_from_slice_get items place p.job c.index_mut.result.now there in
    let here = open-at c.args.terminal c.in-Some.number items c.self.inside.next_job place p.job c.self.invariant.0
    (kept-is c.args.terminal items (seats_of c.self.inside.terminals) c.self.invariant.1 (Some c.in-Some.number) c.in-Some.ensures.number) there p.named in
    let found : open_at c.args.terminal c.args.self.now.jobs ≡ Some p.job = ap (λ (v : CrewState). open_at c.args.terminal v.jobs) (sym c.self.view_is) ∙ here.0 in
    let only = IsOnly-at 1 items c.self.inside.next_job place p.job c.self.invariant.0.rise there in
    let new : CrewState = record { jobs = set items place c.finish.new.self; accounts = c.self.inside.accounts.items; next_job = c.self.inside.next_job } in
    let left = logged_out p.job in
    let target : CrewState = record { jobs = with_job left c.args.self.now.jobs; accounts = c.args.self.now.accounts; next_job = c.args.self.now.next_job } in
    subst (λ (o : Option JobState). LogsOutAt o c.args.self.now new (Ok tt)) (sym found)
    (crew_is target _ _ _
    (ap (λ (k : JobState). set items place k) (c.finish.ensures ∙ ap logged_out same) ∙ sym (only.changed left refl) ∙ ap (λ (v : CrewState). with_job left v.jobs) c.self.view_is)
    (ap (λ (v : CrewState). v.accounts) c.self.view_is) (ap (λ (v : CrewState). v.next_job) c.self.view_is))
