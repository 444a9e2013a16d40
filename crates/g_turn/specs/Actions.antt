-- THE EFFECT OF EACH VERB: the calls that it makes, and how it uses the answers.
use Rattle.std.specs.Prelude.{Bool, List, [], false, true, unwrap_or, ℕ}
use Rattle.g_turn.specs.Asking.{one_call, put}
use Rattle.g_turn.specs.Macros.{look_up}
use Rattle.g_turn.specs.Releases.{delete, end_job, release}
use Rattle.g_turn.specs.Runs.{entered, resumed}
use Rattle.g_turn.specs.Outcomes.{done, say, with_levels}
use Rattle.g_turn.specs.State.{Work}
use Rattle.g_turn.specs.Uses.{ToAppend, ToAssemble, ToList, ToLoad, ToPut, assign, fetch}
use Rattle.g_macro.specs.Levels.{document_of, document_passed, with_param}
use Rattle.g_monitor.specs.JobLines.{marked}
use Rattle.g_monitor.specs.declared.job_lines.Mark.TheVariants as mark
use Rattle.g_name.specs.declared.path.Path.{Path}
use Rattle.g_plain.specs.Programs.{Asks, Gives}
use Rattle.g_plain.specs.declared.calls.StoreCall.TheVariants as call
use Rattle.g_trap.specs.declared.mode_set.Mode.TheVariants as mode
use Rattle.g_verbs.specs.declared.action.Action.{Action}
use Rattle.g_verbs.specs.declared.action.Action.TheVariants as action

-- INPUT: the lines up to `////` are passed, and written to the file.
abbrev pub input : ℕ → Path → Work → Asks Work
input room file w = put room true file (document_of w.desk.levels) (with_levels (document_passed w.desk.levels) w)

-- The verb makes one call, which has no bytes, and prints its reply.
abbrev pub is_one_call : Action → Bool
is_one_call (action.Erase file) = true
is_one_call (action.Rename file to) = true
is_one_call (action.ListDir user) = true
is_one_call (action.TrapGo file user modes) = true
is_one_call (action.TrapStop file user modes) = true
is_one_call (action.TrapCheck file user) = true
is_one_call (action.NewUser user space time money) = true
is_one_call (action.Budget user kind amount) = true
is_one_call (action.Retrieve file) = true
is_one_call other = false

-- The verb names files and makes more than one call.
abbrev pub is_of_files : Action → Bool
is_of_files (action.Input file) = true
is_of_files (action.Copy from to) = true
is_of_files (action.Append from to) = true
is_of_files (action.ListFile file) = true
is_of_files (action.Load file) = true
is_of_files (action.Plan from to) = true
is_of_files (action.Assign unit file) = true
is_of_files other = false

-- The effect of an action, for the job's user `who`; `by` says whether a WHENEVER executes it.
abbrev pub act : ℕ → List ℕ → Bool → Action → Work → Asks Work
act room who by (action.Input file) w = input room file w
act room who by (action.Copy from to) w = fetch room from mode.Read (ToPut to) w
act room who by (action.Append from to) w = fetch room from mode.Read (ToAppend to) w
act room who by (action.Erase file) w = one_call room (call.Erase file) w
act room who by (action.Rename file to) w = one_call room (call.Rename file to) w
act room who by (action.ListFile file) w = fetch room file mode.Read ToList w
act room who by (action.ListDir user) w = one_call room (call.List (unwrap_or user who)) w
act room who by (action.TrapGo file user modes) w = one_call room (call.TrapGo file user modes) w
act room who by (action.TrapStop file user modes) w = one_call room (call.TrapStop file user modes) w
act room who by (action.TrapCheck file user) w = one_call room (call.TrapCheck file (unwrap_or user who)) w
act room who by (action.NewUser user space time money) w = one_call room (call.NewUser user space time (unwrap_or money 1000000)) w
act room who by (action.Budget user kind amount) w = one_call room (call.Budget user kind amount) w
act room who by (action.Retrieve file) w = one_call room (call.Retrieve file) w
act room who by (action.Load file) w = fetch room file mode.Execute ToLoad w
act room who by (action.Plan from to) w = fetch room from mode.Read (ToAssemble to) w
act room who by (action.Enter n) w = Gives (entered room by n w.desk.program w)
act room who by action.Resume w = Gives (resumed room by w.desk.program w)
act room who by (action.Assign u file) w = assign room u file w
act room who by (action.Release u) w = release room u w
act room who by action.Delete w = delete room w.desk.program w
act room who by (action.SetParam letter text) w = Gives (with_levels (with_param letter (unwrap_or text []) w.desk.levels) w)
act room who by (action.Display text) w = Gives (say room (marked mark.Displayed text) (done w))
act room who by action.EndJob w = end_job room w
act room who by (action.Macro name params) w = look_up room name params w
