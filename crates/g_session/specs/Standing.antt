-- WHERE THINGS STAND, by what is at hand. Internal: public contracts cite `Session` only.
use Rattle.std.specs.Prelude.{◌≡◌, ℕ, true, false, List, [], ◌++◌, None, map, option_map}
use Rattle.std.specs.List.{flat_map}
use Rattle.g_tape.specs.Rack.{Rack, is_mounted, reel}
use Rattle.g_tape.specs.Reel.{Reel}
use Rattle.g_job.specs.State.{JobState}
use Rattle.g_day.specs.Parts.{Seen}
use Rattle.g_day.specs.System.{Down, SystemFacts, Up, devices_in}
use Rattle.g_ticks.specs.Tick.{may_step}
use Rattle.g_laws_sessions.specs.Asked.{dump_line, job_line, reel_line, system_line, tick_line}

-- the serials of the reels
abbrev pub rack_serials : Rack → List ℕ
rack_serials rack = map (λ (r : Reel). r.serial) rack.reels

abbrev pub serials_in : SystemFacts → List ℕ
serials_in system = rack_serials (devices_in system).rack

-- reels, by these serials
abbrev pub reels_text : Rack → List ℕ → List ℕ
reels_text rack serials = flat_map (λ serial. reel_line serial (is_mounted (reel serial rack.reels))) serials

-- jobs
abbrev pub jobs_text : Rack → List JobState → List ℕ
jobs_text rack jobs = flat_map (λ (j : JobState). job_line (may_step rack j) j) jobs

-- the system, its reels by these serials, and its open dump
abbrev pub system_text : SystemFacts → List ℕ → List ℕ
system_text (Up s) serials = (system_line true ++ reels_text s.rack serials) ++ dump_line (option_map (λ d. d.plan.number) s.dump)
system_text (Down d) serials = (system_line false ++ reels_text d.rack serials) ++ dump_line None

-- jobs on this system; while it is down there are none
abbrev pub jobs_on : SystemFacts → List JobState → List ℕ
jobs_on (Up s) jobs = jobs_text s.rack jobs
jobs_on (Down d) jobs = []

abbrev pub seen_text : Seen → List ℕ → List ℕ
seen_text seen serials = (system_text seen.system serials ++ jobs_on seen.system seen.crew.jobs) ++ tick_line seen.count
