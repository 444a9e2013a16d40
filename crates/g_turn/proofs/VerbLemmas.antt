-- The programs of verbs are honest.
-- serves: CommandLemmas
use Rattle.std.proofs.Common.{ℕ, ◌+◌, Bool, true, false, List, [], ◌∷◌, length, Option, Some, None, Result, Ok, Err, unwrap_or, if◌then◌else◌, refl}
use Rattle.g_turn.specs.Actions.{act}
use Rattle.g_turn.specs.Asking.{append, append_told, by_answer, one_call, put, put_told}
use Rattle.g_turn.specs.Causes.{GoesOn, IsHonest, IsOther}
use Rattle.g_turn.specs.Macros.{first_looked, look_up, macro_called, second_looked}
use Rattle.g_turn.specs.Releases.{delete, deleted, dropped, end_job, finished, given_back, release, release_all, release_each, release_one, without_readers}
use Rattle.g_turn.specs.Outcomes.{done, in_error, with_bytes, with_levels, with_units}
use Rattle.g_turn.specs.State.{Work}
use Rattle.g_turn.specs.Uses.{ToAppend, ToAssemble, ToAssign, ToList, ToLoad, ToPut, Use, assign, fetch, fetched, loaded_by, output_kept, put_or_bad, use_bytes, with_program}
use Rattle.g_turn.proofs.HonestLemmas.{error_goes, honest_then, if_goes, if_honest, not_over_goes, refused_goes, say_all_goes, say_goes}
use Rattle.g_turn.proofs.RunLemmas.{entered_goes, resumed_goes}
use Rattle.g_lines.specs.Lines.{lines_of}
use Rattle.g_macro.specs.Levels.{called, document_of, document_passed, is_deepest}
use Rattle.g_mill.specs.Lines.{lines}
use Rattle.g_mill.specs.Loading.{bad_line, program_of}
use Rattle.g_mill.specs.Machine.{Machine, size}
use Rattle.g_monitor.specs.JobLines.{job_line, marked}
use Rattle.g_monitor.specs.Replies.{last_line, reply_lines}
use Rattle.g_monitor.specs.declared.errors.CommandError.TheVariants as errors
use Rattle.g_monitor.specs.declared.job_lines.JobLine.TheVariants as line
use Rattle.g_monitor.specs.declared.job_lines.Mark.TheVariants as mark
use Rattle.g_name.specs.declared.full.Full.{Full}
use Rattle.g_name.specs.declared.path.Path.{Path}
use Rattle.g_peri.specs.JobUnits.{is_assigned, is_reader, output_of, place_of, released, with_reader, with_writer}
use Rattle.g_peri.specs.declared.unit.Unit as unit
use Rattle.g_plain.specs.Programs.{Answer, Gives}
use Rattle.g_plain.specs.declared.calls.StoreCall.{StoreCall}
use Rattle.g_plain.specs.declared.calls.StoreCall.TheVariants as call
use Rattle.g_plain.specs.declared.calls.StoreReply.TheVariants.{Appended, Bytes, Made}
use Rattle.g_plain.specs.declared.faults.StoreFault.TheVariants as fault
use Rattle.g_plan.specs.Assembly.{assembled}
use Rattle.g_trap.specs.declared.mode_set.Mode.{Mode}
use Rattle.g_trap.specs.declared.mode_set.Mode.TheVariants as mode
use Rattle.g_verbs.specs.declared.action.Action.{Action}
use Rattle.g_verbs.specs.declared.action.Action.TheVariants as action

one_call_honest : (room : ℕ) (asked : StoreCall) (w : Work) → GoesOn w.stop → IsHonest (one_call room asked w)
one_call_honest room asked w goes = ((λ serial. refl), refl, answered)
  where
    answered : (answer : Answer) → IsOther answer → IsHonest (by_answer room asked w answer)
    answered (Ok reply) other = say_all_goes room (reply_lines asked reply) (done w) goes
    answered (Err refusal) other = refused_goes room refusal w other goes

put_honest : (room : ℕ) (well : Bool) (path : Path) (bytes : List ℕ) (w : Work) → GoesOn w.stop → IsHonest (put room well path bytes w)
put_honest room well path bytes w goes = ((λ serial. refl), refl, answered)
  where
    answered : (answer : Answer) → IsOther answer → IsHonest (put_told room well path bytes w answer)
    answered (Ok (Made full)) other =
        say_goes room (last_line (call.Put path bytes) (Made full)) (with_bytes (length bytes) (if well then done w else w))
        (if_goes well (done w) w goes goes)
    answered (Ok reply) other = goes
    answered (Err refusal) other = refused_goes room refusal w other goes

append_honest : (room : ℕ) (path : Path) (bytes : List ℕ) (w : Work) → GoesOn w.stop → IsHonest (append room path bytes w)
append_honest room path bytes w goes = ((λ serial. refl), refl, answered)
  where
    answered : (answer : Answer) → IsOther answer → IsHonest (append_told room path bytes w answer)
    answered (Ok (Appended full)) other =
        say_goes room (last_line (call.Append path bytes) (Appended full)) (with_bytes (length bytes) (done w)) goes
    answered (Ok reply) other = goes
    answered (Err refusal) other = refused_goes room refusal w other goes

loaded_goes : (room : ℕ) (bad : Option ℕ) (p : Machine) (w : Work) → GoesOn w.stop → GoesOn (loaded_by room bad p w).stop
loaded_goes room (Some bad) p w goes = error_goes room (errors.BadProgram bad) w goes
loaded_goes room None p w goes = say_goes room (job_line (line.Loaded (size p))) (done (with_program p w)) goes

planned_honest : (room : ℕ) (to : Path) (made : Result (List ℕ) ℕ) (w : Work) → GoesOn w.stop → IsHonest (put_or_bad room to made w)
planned_honest room to (Ok file) w goes = put_honest room true to file w goes
planned_honest room to (Err bad) w goes = error_goes room (errors.BadPlan bad) w goes

use_honest : (room : ℕ) (path : Path) (m : Mode) (use_for : Use) (full : Full) (bytes : List ℕ) (w : Work) → GoesOn w.stop → IsHonest (use_bytes room path m use_for full bytes w)
use_honest room path m (ToPut to) full bytes w goes = put_honest room true to bytes w goes
use_honest room path m (ToAppend to) full bytes w goes = append_honest room to bytes w goes
use_honest room path m (ToAssemble to) full bytes w goes = planned_honest room to (assembled bytes) w goes
use_honest room path m ToList full bytes w goes = say_all_goes room (reply_lines (call.Fetch path m) (Bytes full bytes)) (done w) goes
use_honest room path m ToLoad full bytes w goes = loaded_goes room (bad_line (lines bytes)) (program_of (lines bytes)) w goes
use_honest room path m (ToAssign u) full bytes w goes =
    say_goes room (job_line line.Assigned) (done (with_units (with_reader w.desk.units u.number (Some (lines bytes))) w)) goes

fetch_honest : (room : ℕ) (path : Path) (m : Mode) (use_for : Use) (w : Work) → GoesOn w.stop → IsHonest (fetch room path m use_for w)
fetch_honest room path m use_for w goes = ((λ serial. refl), refl, answered)
  where
    answered : (answer : Answer) → IsOther answer → IsHonest (fetched room path m use_for w answer)
    answered (Ok (Bytes full bytes)) other = use_honest room path m use_for full bytes (with_bytes (length bytes) w) goes
    answered (Ok reply) other = goes
    answered (Err refusal) other = refused_goes room refusal w other goes

assign_honest : (room : ℕ) (u : unit.Unit) (path : Path) (w : Work) → GoesOn w.stop → IsHonest (assign room u path w)
assign_honest room u path w goes =
    if_honest (is_assigned w.desk.units u) (Gives (in_error room errors.InUse w)) (if is_reader u.kind then fetch room path mode.Read (ToAssign u) w else Gives (output_kept room u path w))
    (error_goes room errors.InUse w goes)
    (if_honest (is_reader u.kind) (fetch room path mode.Read (ToAssign u) w) (Gives (output_kept room u path w)) (fetch_honest room path mode.Read (ToAssign u) w goes)
    (say_goes room (job_line line.Assigned) (done (with_units (with_writer w.desk.units (place_of u.kind u.number) (Some (path, []))) w)) goes))

called_goes : (room : ℕ) (params : List (List ℕ)) (bytes : List ℕ) (w : Work) → GoesOn w.stop → GoesOn (macro_called room params bytes w).stop
called_goes room params bytes w goes =
    if_goes (is_deepest w.desk.levels) (in_error room errors.TooDeep w) (done (with_levels (called (lines_of bytes) params w.desk.levels) w))
    (error_goes room errors.TooDeep w goes) goes

second_honest : (room : ℕ) (params : List (List ℕ)) (w : Work) → GoesOn w.stop → (answer : Answer) → IsOther answer → IsHonest (second_looked room params w answer)
second_honest room params w goes (Ok (Bytes full bytes)) other = called_goes room params bytes (with_bytes (length bytes) w) goes
second_honest room params w goes (Ok reply) other = goes
second_honest room params w goes (Err fault.NoFile) other = error_goes room errors.UnknownVerb w goes
second_honest room params w goes (Err refusal) other = refused_goes room refusal w other goes

first_honest : (room : ℕ) (name : List ℕ) (params : List (List ℕ)) (w : Work) → GoesOn w.stop → (answer : Answer) → IsOther answer → IsHonest (first_looked room name params w answer)
first_honest room name params w goes (Ok (Bytes full bytes)) other = called_goes room params bytes (with_bytes (length bytes) w) goes
first_honest room name params w goes (Ok reply) other = goes
first_honest room name params w goes (Err fault.NoFile) other = ((λ serial. refl), refl, second_honest room params w goes)
first_honest room name params w goes (Err refusal) other = refused_goes room refusal w other goes

look_up_honest : (room : ℕ) (name : List ℕ) (params : List (List ℕ)) (w : Work) → GoesOn w.stop → IsHonest (look_up room name params w)
look_up_honest room name params w goes = ((λ serial. refl), refl, first_honest room name params w goes)

given_back_honest : (room : ℕ) (output : Option (Path × List ℕ)) (w : Work) → GoesOn w.stop → IsHonest (given_back room output w)
given_back_honest room None w goes = say_goes room (job_line line.Released) (done w) goes
given_back_honest room (Some output) w goes = put_honest room true output.0 output.1 w goes

release_honest : (room : ℕ) (u : unit.Unit) (w : Work) → GoesOn w.stop → IsHonest (release room u w)
release_honest room u w goes =
    if_honest (is_assigned w.desk.units u) (given_back room (output_of w.desk.units u) (with_units (released w.desk.units u) w)) (Gives (in_error room errors.NotAssigned w))
    (given_back_honest room (output_of w.desk.units u) (with_units (released w.desk.units u) w) goes) (error_goes room errors.NotAssigned w goes)

one_honest : (room place : ℕ) (output : Option (Path × List ℕ)) (w : Work) → GoesOn w.stop → IsHonest (release_one room place output w)
one_honest room place None w goes = goes
one_honest room place (Some output) w goes =
    put_honest room false output.0 output.1 (with_units (with_writer w.desk.units place None) w) goes

each_honest : (room place : ℕ) (outputs : List (Option (Path × List ℕ))) (w : Work) → GoesOn w.stop → IsHonest (release_each room place outputs w)
each_honest room place [] w goes = goes
each_honest room place (output ∷ outputs) w goes =
    honest_then (release_one room place output w) (release_each room (place + 1) outputs) (one_honest room place output w goes)
    (λ v on. each_honest room (place + 1) outputs v (not_over_goes v on))

all_honest : (room : ℕ) (w : Work) → GoesOn w.stop → IsHonest (release_all room w)
all_honest room w goes = each_honest room 0 w.desk.units.writers (without_readers w) goes

pub end_honest : (room : ℕ) (w : Work) → GoesOn w.stop → IsHonest (end_job room w)
end_honest room w goes = honest_then (release_all room (done w)) finished (all_honest room (done w) goes) (λ v on. tt)

delete_honest : (room : ℕ) (p : Option Machine) (w : Work) → GoesOn w.stop → IsHonest (delete room p w)
delete_honest room None w goes = error_goes room errors.NoProgram w goes
delete_honest room (Some p) w goes =
    honest_then (release_all room (done (dropped w))) (deleted room) (all_honest room (done (dropped w)) goes)
    (λ v on. say_goes room (job_line line.Deleted) v (not_over_goes v on))

-- ANY VERB: its program is honest
pub act_honest : (room : ℕ) (who : List ℕ) (by : Bool) (asked : Action) (w : Work) → GoesOn w.stop → IsHonest (act room who by asked w)
act_honest room who by (action.Input file) w goes = put_honest room true file (document_of w.desk.levels) (with_levels (document_passed w.desk.levels) w) goes
act_honest room who by (action.Copy from to) w goes = fetch_honest room from mode.Read (ToPut to) w goes
act_honest room who by (action.Append from to) w goes = fetch_honest room from mode.Read (ToAppend to) w goes
act_honest room who by (action.Erase file) w goes = one_call_honest room (call.Erase file) w goes
act_honest room who by (action.Rename file to) w goes = one_call_honest room (call.Rename file to) w goes
act_honest room who by (action.ListFile file) w goes = fetch_honest room file mode.Read ToList w goes
act_honest room who by (action.ListDir user) w goes = one_call_honest room (call.List (unwrap_or user who)) w goes
act_honest room who by (action.TrapGo file user modes) w goes = one_call_honest room (call.TrapGo file user modes) w goes
act_honest room who by (action.TrapStop file user modes) w goes = one_call_honest room (call.TrapStop file user modes) w goes
act_honest room who by (action.TrapCheck file user) w goes = one_call_honest room (call.TrapCheck file (unwrap_or user who)) w goes
act_honest room who by (action.NewUser user space time money) w goes = one_call_honest room (call.NewUser user space time (unwrap_or money 1000000)) w goes
act_honest room who by (action.Budget user kind amount) w goes = one_call_honest room (call.Budget user kind amount) w goes
act_honest room who by (action.Retrieve file) w goes = one_call_honest room (call.Retrieve file) w goes
act_honest room who by (action.Load file) w goes = fetch_honest room file mode.Execute ToLoad w goes
act_honest room who by (action.Plan from to) w goes = fetch_honest room from mode.Read (ToAssemble to) w goes
act_honest room who by (action.Enter n) w goes = entered_goes room by n w.desk.program w goes
act_honest room who by action.Resume w goes = resumed_goes room by w.desk.program w goes
act_honest room who by (action.Assign u file) w goes = assign_honest room u file w goes
act_honest room who by (action.Release u) w goes = release_honest room u w goes
act_honest room who by action.Delete w goes = delete_honest room w.desk.program w goes
act_honest room who by (action.SetParam letter text) w goes = goes
act_honest room who by (action.Display text) w goes = say_goes room (marked mark.Displayed text) (done w) goes
act_honest room who by action.EndJob w goes = end_honest room w goes
act_honest room who by (action.Macro name params) w goes = look_up_honest room name params w goes
