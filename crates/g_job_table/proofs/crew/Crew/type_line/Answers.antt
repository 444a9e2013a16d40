-- The job at the terminal is the one of the stored number.
use Rattle.std.proofs.Common.{List, None, Option, Some, ap, arith, refl, set, slice_get, subst, sym, ◌∙◌, ◌≡◌}
use Rattle.std.specs.Prelude.{Err, Ok, Result}
use Rattle.std.proofs.lemmas.Option.{get_or_from_slice_get, slice_get_within}
use Rattle.g_job.specs.State.{JobState}
use Rattle.g_job.specs.Terminal.{typed_to}
use Rattle.g_job_table.specs.Crew.{CrewState}
use Rattle.g_job_table.specs.Numbers.{job_in}
use Rattle.g_job_table.specs.Seating.{TypesAt, seats_of}
use Rattle.g_job_table.specs.declared.seating.NotTyped.{NotTyped}
use Rattle.g_job_table.specs.declared.seating.NotTyped.TheVariants as fault
use Rattle.g_job_table.proofs.NumberLemmas.{IsOnly-at}
use Rattle.g_job_table.proofs.SeatLemmas.{kept-is, kept-set, like-itself, like-typed, nobody-there, open-at, set-itself, somebody-there}
use Rattle.g_job_table.proofs.TakingLemmas.{crew_is}
use Rattle.g_job_table.proofs.crew.Crew.type_line.Goals as goal
use Rattle.g_job_table.proofs.crew.Crew.type_line.Goals.{in-Ok, in-Err}
use Rattle.g_run_model.specs.Lines.{open_at}
use Rattle.g_run_model.specs.World.{with_job}

pub returns-in_default : goal.returns-in_default
returns-in_default c =
    let none = nobody-there c.args.terminal c.self.inside.jobs.items (seats_of c.self.inside.terminals) c.self.invariant.1 c.open_number.ensures.apart c.open_number.result c.in_default.is c.open_number.ensures.number in
    subst (λ (o : Option JobState). TypesAt o c.args.line c.args.self.now c.args.self.now (Err fault.NoTerminal))
    (sym (ap (λ (v : CrewState). open_at c.args.terminal v.jobs) (sym c.self.view_is) ∙ none)) refl

pub unreachable-requires : goal.unreachable-requires
unreachable-requires c =
    somebody-there c.args.terminal c.self.inside.jobs.items (seats_of c.self.inside.terminals) c.self.invariant.1 c.in-Some.number c.self.inside.next_job c.self.invariant.0 c.in-Some.ensures.number
    (ap (job_in c.in-Some.number) (sym c.deref.ensures.value) ∙ c.in_default-place_of.ensures)

pub index_mut-requires : goal.index_mut-requires
index_mut-requires c =
    let p = c.in-Some-place_of.ensures in
    omega (arith, slice_get_within c.deref.result.now c.in-Some-place_of.place p.job p.there, c.deref.ensures.len)

pub invariant_of-self : goal.invariant_of-self
invariant_of-self c =
    let p = c.in-Some-place_of.ensures in
    let items = c.self.inside.jobs.items in
    let place = c.in-Some-place_of.place in
    let there : slice_get items place ≡ Some p.job = ap (λ (js : List JobState). slice_get js place) (sym c.deref.ensures.value) ∙ p.there in
    let same : c.index_mut.result.now ≡ p.job = c.index_mut.ensures.value ∙ get_or_from_slice_get items place p.job c.index_mut.result.now there in
    elim c.match-add_line.branch [
      | in-Ok w ↦
          kept-set items c.self.inside.next_job place p.job c.add_line.new.self (seats_of c.self.inside.terminals) c.self.invariant there
          (like-typed c.args.line p.job c.add_line.new.self (w.in-Ok.ensures.ok ∙ ap (typed_to c.args.line) same))
      | in-Err w ↦
          kept-set items c.self.inside.next_job place p.job c.add_line.new.self (seats_of c.self.inside.terminals) c.self.invariant there
          (like-itself p.job c.add_line.new.self (w.in-Err.ensures.err ∙ same))
    ]

pub returns : goal.returns
returns c =
    let p = c.in-Some-place_of.ensures in
    let items = c.self.inside.jobs.items in
    let place = c.in-Some-place_of.place in
    let there : slice_get items place ≡ Some p.job = ap (λ (js : List JobState). slice_get js place) (sym c.deref.ensures.value) ∙ p.there in
    let same : c.index_mut.result.now ≡ p.job = c.index_mut.ensures.value ∙ get_or_from_slice_get items place p.job c.index_mut.result.now there in
    let here = open-at c.args.terminal c.in-Some.number items c.self.inside.next_job place p.job c.self.invariant.0
    (kept-is c.args.terminal items (seats_of c.self.inside.terminals) c.self.invariant.1 (Some c.in-Some.number) c.in-Some.ensures.number) there p.named in
    let found : open_at c.args.terminal c.args.self.now.jobs ≡ Some p.job = ap (λ (v : CrewState). open_at c.args.terminal v.jobs) (sym c.self.view_is) ∙ here.0 in
    let only = IsOnly-at 1 items c.self.inside.next_job place p.job c.self.invariant.0.rise there in
    let new : CrewState = record { jobs = set items place c.add_line.new.self; accounts = c.self.inside.accounts.items; next_job = c.self.inside.next_job } in
    let accounts = ap (λ (v : CrewState). v.accounts) c.self.view_is in
    let next = ap (λ (v : CrewState). v.next_job) c.self.view_is in
    elim c.match-add_line.branch [
      | in-Ok w ↦
          let typed = typed_to c.args.line p.job in
          let target : CrewState = record { jobs = with_job typed c.args.self.now.jobs; accounts = c.args.self.now.accounts; next_job = c.args.self.now.next_job } in
          subst (λ (r : Result (Unit {0}) NotTyped). TypesAt (open_at c.args.terminal c.args.self.now.jobs) c.args.line c.args.self.now new r) (sym w.result-is)
          (subst (λ (o : Option JobState). TypesAt o c.args.line c.args.self.now new (Ok tt)) (sym found)
          (crew_is target _ _ _
          (ap (λ (k : JobState). set items place k) (w.in-Ok.ensures.ok ∙ ap (typed_to c.args.line) same) ∙ sym (only.changed typed refl) ∙ ap (λ (v : CrewState). with_job typed v.jobs) c.self.view_is)
          accounts next))
      | in-Err w ↦
          subst (λ (r : Result (Unit {0}) NotTyped). TypesAt (open_at c.args.terminal c.args.self.now.jobs) c.args.line c.args.self.now new r) (sym w.result-is)
          (subst (λ (o : Option JobState). TypesAt o c.args.line c.args.self.now new (Err fault.NoMemory)) (sym found)
          (crew_is c.args.self.now _ _ _
          (ap (λ (k : JobState). set items place k) (w.in-Err.ensures.err ∙ same) ∙ set-itself items place p.job there ∙ ap (λ (v : CrewState). v.jobs) c.self.view_is)
          accounts next))
    ]
