-- Whether a tick may begin, by what is at hand and by the world.
-- serves: something_steps (no, yes), tick_until_due, TickedLemmas, UntilLemmas
use Rattle.std.proofs.Common.{◌≡◌, ℕ, Bool, true, false, not, List, [], ◌∷◌, Option, Some, None, filter, is_some, refl, sym, ◌∙◌, ap}
use Rattle.std.specs.Prelude.{◌&&◌, ◌||◌, option_map}
use Rattle.g_job.specs.State.{JobState}
use Rattle.g_script.specs.declared.operator.Timed.{Timed}
use Rattle.g_store_meaning.specs.Reading.{open_of}
use Rattle.g_store_meaning.specs.StoreInvariant.{DumpFacts, StoreFacts}
use Rattle.g_store_model.specs.State.{State}
use Rattle.g_store_calls.proofs.SeenLemmas.{seen as seen_of}
use Rattle.g_run_model.specs.Devices.{Devices}
use Rattle.g_run_model.specs.World.{World, able, can_step, has_none, is_due, is_dumping, nothing_steps}
use Rattle.g_job_table.specs.Crew.{CrewState}
use Rattle.g_day.specs.Parts.{IsReady, Matches, seen}
use Rattle.g_day.specs.System.{Down, SystemFacts, Up}
use Rattle.g_ticks.specs.Tick.{has_dump, may_step, some_job_steps}
use Rattle.g_ticks.proofs.FallLemmas.{able_same}
use Rattle.g_ticks.proofs.RanLemmas.{mounted_in}
use Rattle.g_ticks.specs.Parts.{is_past, steps_in, turn_of}

-- the next line is due if the count has reached its turn
due_by : (w : World) (lines : List Timed) → (let v : World = record w { lines = lines } in is_due v ≡ is_past (turn_of lines) w.count)
due_by w [] = refl
due_by w (next ∷ lines) = refl

pub due_is : (w : World) → is_due w ≡ is_past (turn_of w.lines) w.count
due_is w = due_by w w.lines

-- neither one nor the other
neither : (a b : Bool) → (not a && b) ≡ not (a || not b)
neither true b = refl
neither false true = refl
neither false false = refl

pub dump_there : {B : Type 0} (f : DumpFacts → B) (d : Option DumpFacts) → is_some (option_map f d) ≡ (elim d [ None ↦ false | Some x ↦ true ])
dump_there f None = refl
dump_there f (Some x) = refl

nothing_by : (w : World) (f : SystemFacts) (c : CrewState) (count : ℕ) → is_dumping w ≡ has_dump f → not (has_none (able w)) ≡ some_job_steps (seen f c count) → nothing_steps w ≡ not (steps_in (seen f c count))
nothing_by w f c count dumping stepping =
    neither (is_dumping w) (has_none (able w)) ∙ ap (λ (b : Bool). not (b || not (has_none (able w)))) dumping ∙ ap (λ (b : Bool). not (has_dump f || b)) stepping

nothing_up : (w : World) (s : StoreFacts) (c : CrewState) (count : ℕ) → Matches w (seen (Up s) c count) → s.spent ≡ false → nothing_steps w ≡ not (steps_in (seen (Up s) c count))
nothing_up w s c count m unspent =
    let here = seen_of s w.store unspent m.stands.stands in
    let dumping : is_dumping w ≡ has_dump (Up s) = ap (λ (t : State). is_some t.open_dump) here.state_is ∙ dump_there (open_of here.view s.online) s.dump in
    let same : able w ≡ filter (may_step s.rack) c.jobs =
    able_same w.store s.rack (mounted_in s unspent w.store m.stands.stands) w.jobs ∙ ap (λ (js : List JobState). filter (may_step s.rack) js) m.crew.jobs in
    nothing_by w (Up s) c count dumping (ap (λ (js : List JobState). not (has_none js)) same)

nothing_down : (w : World) (d : Devices) (c : CrewState) (count : ℕ) → Matches w (seen (Down d) c count) → c.jobs ≡ [] → nothing_steps w ≡ not (steps_in (seen (Down d) c count))
nothing_down w d c count m empty =
    let dumping : is_dumping w ≡ false = ap (λ (t : State). is_some t.open_dump) m.stands.1.reads.state_is in
    let here : able w ≡ [] = ap (λ (js : List JobState). filter (can_step w.store) js) (m.crew.jobs ∙ empty) in
    let there : [] ≡ filter (may_step d.rack) c.jobs = sym (ap (λ (js : List JobState). filter (may_step d.rack) js) empty) in
    nothing_by w (Down d) c count dumping (ap (λ (js : List JobState). not (has_none js)) (here ∙ there))

-- nothing steps in a world if nothing at hand steps
pub nothing_is : (w : World) (f : SystemFacts) (c : CrewState) (count : ℕ) → Matches w (seen f c count) → IsReady f c → nothing_steps w ≡ not (steps_in (seen f c count))
nothing_is w (Up s) c count m ready = nothing_up w s c count m ready.0
nothing_is w (Down d) c count m ready = nothing_down w d c count m ready.2

-- nothing of a system that is down steps
pub down_rests : (d : Devices) (c : CrewState) (count : ℕ) → IsReady (Down d) c → steps_in (seen (Down d) c count) ≡ false
down_rests d c count ready = ap (λ (js : List JobState). not (has_none (filter (may_step d.rack) js))) ready.2

-- by what a store answers
pub dump_steps : {B : Type 0} (f : DumpFacts → B) (s : StoreFacts) (c : CrewState) (count : ℕ) → is_some (option_map f s.dump) ≡ true → true ≡ steps_in (seen (Up s) c count)
dump_steps f s c count there = ap (λ (b : Bool). b || some_job_steps (seen (Up s) c count)) (sym there ∙ dump_there f s.dump)

pub jobs_step : {B : Type 0} (f : DumpFacts → B) (s : StoreFacts) (c : CrewState) (count : ℕ) → is_some (option_map f s.dump) ≡ false → some_job_steps (seen (Up s) c count) ≡ steps_in (seen (Up s) c count)
jobs_step f s c count none = ap (λ (b : Bool). b || some_job_steps (seen (Up s) c count)) (sym none ∙ dump_there f s.dump)
