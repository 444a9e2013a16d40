-- Every command of a turn prints only lines that a run may print, if the levels, the names of outputs and what waits have no byte 10; it preserves
-- that, and so have the names in its calls.
-- serves: TurnLemmas, WorldLemmas
use Rattle.std.proofs.Common.{◌≡◌, ℕ, suc, zero, ◌+◌, ◌-◌, Bool, true, false, List, [], ◌∷◌, ◌++◌, length, nat_lt, Option, Some, None, IfSome, Result, Ok, Err, unwrap_or, codes, if◌then◌else◌, refl}
use Rattle.std.specs.List.{list_all}
use Rattle.std.proofs.lemmas.Bool.{and_parts}
use Rattle.g_turn.specs.Actions.{act}
use Rattle.g_turn.specs.Asking.{append, append_told, by_answer, one_call, put, put_told}
use Rattle.g_turn.specs.Commands.{acted, command, done_if, gone, kept, passes_document}
use Rattle.g_turn.specs.Macros.{first_looked, look_up, macro_called, macro_path, second_looked}
use Rattle.g_turn.specs.Releases.{delete, deleted, dropped, end_job, finished, given_back, release, release_all, release_each, release_one, without_readers}
use Rattle.g_turn.specs.Runs.{Ends, Goes, Order, behind_event, behind_order, by_event, entered, goes_on, one_order, order_of, resumed, run_ended, run_orders, running_by, without_program}
use Rattle.g_turn.specs.Outcomes.{set_outcome, done, in_error, is_over, refused, say, say_all, stopped, with_bytes, with_levels, with_units}
use Rattle.g_turn.specs.State.{AgainCommand, AgainLine, Full, Pending, Work}
use Rattle.g_turn.specs.Uses.{ToAppend, ToAssemble, ToAssign, ToList, ToLoad, ToPut, Use, assign, fetch, fetched, loaded_by, output_kept, put_or_bad, use_bytes, with_program}
use Rattle.g_turn.proofs.RunLemmas.{work_of}
use Rattle.g_lang.specs.Lines.{Said, SaidGoto, SaidIf, SaidVerb, SaidWhenever}
use Rattle.g_lang.specs.declared.line.Cond.{Cond}
use Rattle.g_lines.specs.Lines.{ended, lines_of}
use Rattle.g_macro.specs.Levels.{Level, at_line, called, current, document_of, document_passed, entry_kept, holds, is_deepest, is_full_for, line_of_label, param_set, past_document, with_current, with_whenever}
use Rattle.g_macro.specs.declared.outcome.EventNote.TheVariants as note
use Rattle.g_mill.specs.Lines.{lines}
use Rattle.g_mill.specs.Loading.{bad_line, program_of}
use Rattle.g_mill.specs.Machine.{Machine, size}
use Rattle.g_monitor.specs.JobLines.{job_line, marked}
use Rattle.g_monitor.specs.Refusals.{error_line, fault_line}
use Rattle.g_monitor.specs.Replies.{last_line, reply_lines}
use Rattle.g_monitor.specs.declared.errors.CommandError.{CommandError}
use Rattle.g_monitor.specs.declared.errors.CommandError.TheVariants as errors
use Rattle.g_monitor.specs.declared.job_lines.JobLine.TheVariants as line
use Rattle.g_monitor.specs.declared.job_lines.Mark.TheVariants as mark
use Rattle.g_name.specs.Order.{same_text}
use Rattle.g_name.specs.declared.full.Full as name
use Rattle.g_name.specs.declared.path.Path.{Path}
use Rattle.g_peri.specs.JobUnits.{at_place, is_assigned, is_reader, output_of, place_of, released, with_reader, with_writer}
use Rattle.g_peri.specs.OneOrder.{order_with}
use Rattle.g_peri.specs.declared.ordered.OrderEvent.{OrderEvent}
use Rattle.g_peri.specs.declared.ordered.OrderEvent.TheVariants as came
use Rattle.g_peri.specs.declared.unit.Unit as unit
use Rattle.g_plain.specs.Programs.{Answer, Asks, Call, Gives, and_then}
use Rattle.g_plain.specs.declared.calls.StoreCall.{StoreCall}
use Rattle.g_plain.specs.declared.calls.StoreCall.TheVariants as call
use Rattle.g_plain.specs.declared.calls.StoreReply.TheVariants.{Appended, Bytes, Made}
use Rattle.g_plain.specs.declared.faults.StoreFault.{StoreFault}
use Rattle.g_plain.specs.declared.faults.StoreFault.TheVariants as fault
use Rattle.g_plan.specs.Assembly.{assembled}
use Rattle.g_trap.specs.declared.mode_set.Mode.{Mode}
use Rattle.g_trap.specs.declared.mode_set.Mode.TheVariants as mode
use Rattle.g_verbs.specs.VerbReader.{action_read}
use Rattle.g_verbs.specs.declared.action.Action.{Action}
use Rattle.g_verbs.specs.declared.action.Action.TheVariants as action
use Rattle.g_laws_lines.proofs.LevelLemmas.{AreFineLevels, IsFineLevel, called_fine, current_fine, kept_fine, param_fine}
use Rattle.g_laws_lines.proofs.PrintLemmas.{IsFineCall, IsFinePath, error_is_line, job_may, marked_may}
use Rattle.g_laws_lines.proofs.SaidLemmas.{IsFineAction, IsFineAsked, IsFineSaid, action_fine}
use Rattle.g_laws_lines.proofs.TextLemmas.{IsMade, are_lines, is_line, lines_lines, made_more, may_print}
use Rattle.g_laws_lines.proofs.UnitLemmas.{AreFineOutputs, IsFineEvent, IsFineOutput, order_text, order_units, output_at, output_set}

-- what a turn resumes with
abbrev pub IsFinePending : Pending → Type 0
IsFinePending (AgainLine text) = is_line text ≡ true
IsFinePending (AgainCommand text orders blocks command) = IsMade text × (is_line command ≡ true)

-- THE WORK: its levels, the names of its outputs, what it resumes with, and its text
abbrev pub IsFine : Work → Type 0
IsFine w = AreFineLevels w.desk.levels.levels × AreFineOutputs w.desk.units.writers × IfSome w.again IsFinePending × IsMade w.text

-- an answer whose lines may be printed
abbrev pub IsFineAnswer : StoreCall → Answer → Type 0
IsFineAnswer asked (Ok reply) = list_all may_print (reply_lines asked reply) ≡ true
IsFineAnswer asked (Err fault) = is_line (fault_line fault) ≡ true

-- A PROGRAM that makes only calls with such names, and returns such work for any such answers
abbrev pub AlwaysFine : Asks Work → Type 0
AlwaysFine (Gives w) = IsFine w
AlwaysFine (Call asked more) = IsFineCall asked × ((answer : Answer) → IsFineAnswer asked answer → AlwaysFine (more answer))

pub if_fine : (b : Bool) (x y : Work) → IsFine x → IsFine y → IsFine (if b then x else y)
if_fine true x y hx hy = hx
if_fine false x y hx hy = hy

pub either_fine : (b : Bool) (p q : Asks Work) → AlwaysFine p → AlwaysFine q → AlwaysFine (if b then p else q)
either_fine true p q hp hq = hp
either_fine false p q hp hq = hq

pub then_fine : (p : Asks Work) (next : Work → Asks Work) → AlwaysFine p → ((w : Work) → IsFine w → AlwaysFine (next w)) → AlwaysFine (and_then is_over p next)
then_fine (Gives w) next fine on = either_fine (is_over w) (Gives w) (next w) fine (on w fine)
then_fine (Call asked more) next fine on = (fine.0, λ answer may. then_fine (more answer) next (fine.1 answer may) on)

-- LINES
pub say_fine : (room : ℕ) (text : List ℕ) (w : Work) → may_print text ≡ true → IsFine w → IsFine (say room text w)
say_fine room text w may h =
    if_fine (nat_lt room (length w.text + length (ended text))) (stopped Full w) (record w { text = w.text ++ ended text }) h (h.0, h.1, h.2, made_more w.text text h.3 may)

all_fine : (room : ℕ) (texts : List (List ℕ)) (w : Work) → list_all may_print texts ≡ true → IsFine w → IsFine (say_all room texts w)
all_fine room [] w may h = h
all_fine room (text ∷ texts) w may h =
    let parts = and_parts _ _ may in
    if_fine (is_over (say room text w)) (say room text w) (say_all room texts (say room text w)) (say_fine room text w parts.0 h)
    (all_fine room texts (say room text w) parts.1 (say_fine room text w parts.0 h))

pub error_fine : (room : ℕ) (error : CommandError) (w : Work) → IsFine w → IsFine (in_error room error w)
error_fine room error w h = say_fine room (marked mark.Error (error_line error)) (set_outcome true note.None w) (marked_may mark.Error (error_line error) (error_is_line error)) h

refused_fine : (room : ℕ) (refusal : StoreFault) (w : Work) → is_line (fault_line refusal) ≡ true → IsFine w → IsFine (refused room refusal w)
refused_fine room (fault.WaitTape serial) w may h = h
refused_fine room fault.Stopped w may h = h
refused_fine room refusal w may h = say_fine room (marked mark.Error (fault_line refusal)) (set_outcome true note.None w) (marked_may mark.Error (fault_line refusal) may) h

-- RUNS of the program
event_fine : (room : ℕ) (event : OrderEvent) (w : Work) → IsFineEvent event → IsFine w → IsFine (work_of (by_event room event w))
event_fine room came.Ran w may h = h
event_fine room (came.Displayed text) w may h = say_fine room (marked mark.Displayed text) w (marked_may mark.Displayed text may) h
event_fine room (came.Halted text) w may h = say_fine room (marked mark.Halted text) (run_ended (note.Halted text) true w) (marked_may mark.Halted text may) h
event_fine room (came.Deleted text) w may h =
    say_fine room (marked mark.Deleted text) (run_ended (note.Deleted text) false (without_program w)) (marked_may mark.Deleted text may) h
event_fine room (came.Illegal word at) w may h = say_fine room (job_line (line.Illegal word at)) (run_ended note.Failed false w) (job_may (line.Illegal word at)) h

behind_fine : (more : Work → Work) → ((w : Work) → IsFine w → IsFine (more w)) → (o : Order) → IsFine (work_of o) → IsFine (behind_event more o)
behind_fine more on (Ends w) h = h
behind_fine more on (Goes w) h = if_fine (is_over w) w (more w) h (on w h)

order_fine : (room : ℕ) (more : Work → Work) → ((w : Work) → IsFine w → IsFine (more w)) → (p : Option Machine) (w : Work) → IsFine w → IsFine (order_of room more p w)
order_fine room more on None w h = h
order_fine room more on (Some p) w h =
    behind_fine more on (one_order room p w)
    (event_fine room (order_with w.desk.units p).event (behind_order (order_with w.desk.units p) w) (order_text w.desk.units p) (h.0, order_units w.desk.units p h.1, h.2, h.3))

run_fine : (room left : ℕ) (w : Work) → IsFine w → IsFine (run_orders room left w)
unfolding run_orders
run_fine room zero w h = h
run_fine room (suc left) w h = order_fine room (run_orders room left) (run_fine room left) w.desk.program w h

pub goes_on_fine : (room : ℕ) (w : Work) → IsFine w → IsFine (goes_on room w)
goes_on_fine room w h = run_fine room (64 - w.orders) w h

entered_fine : (room : ℕ) (by : Bool) (entry : ℕ) (p : Option Machine) (w : Work) → IsFine w → IsFine (entered room by entry p w)
entered_fine room by entry None w h = error_fine room errors.NoProgram w h
entered_fine room by entry (Some p) w h = goes_on_fine room (running_by by (record p { next = 20 + entry; overflow = false }) w) h

resumed_fine : (room : ℕ) (by : Bool) (p : Option Machine) (w : Work) → IsFine w → IsFine (resumed room by p w)
resumed_fine room by None w h = error_fine room errors.NoProgram w h
resumed_fine room by (Some p) w h =
    if_fine w.desk.halted (goes_on room (running_by by p w)) (in_error room errors.NotHalted w) (goes_on_fine room (running_by by p w) h) (error_fine room errors.NotHalted w h)

-- what a file is fetched for
abbrev pub IsFineUse : Use → Type 0
IsFineUse (ToPut to) = IsFinePath to
IsFineUse (ToAppend to) = IsFinePath to
IsFineUse (ToAssemble to) = IsFinePath to
IsFineUse other = Unit {0}

-- CALLS
module _ (room : ℕ) where
  one_call_fine : (asked : StoreCall) (w : Work) → IsFineCall asked → IsFine w → AlwaysFine (one_call room asked w)
  one_call_fine asked w names h = (names, answered)
    where
      answered : (answer : Answer) → IsFineAnswer asked answer → AlwaysFine (by_answer room asked w answer)
      answered (Ok reply) may = all_fine room (reply_lines asked reply) (done w) may h
      answered (Err refusal) may = refused_fine room refusal w may h

  put_fine : (well : Bool) (path : Path) (bytes : List ℕ) (w : Work) → IsFinePath path → IsFine w → AlwaysFine (put room well path bytes w)
  put_fine well path bytes w names h = (names, answered)
    where
      answered : (answer : Answer) → IsFineAnswer (call.Put path bytes) answer → AlwaysFine (put_told room well path bytes w answer)
      answered (Ok (Made full)) may =
          say_fine room (last_line (call.Put path bytes) (Made full)) (with_bytes (length bytes) (if well then done w else w)) (and_parts _ _ may).0 (if_fine well (done w) w h h)
      answered (Ok reply) may = h
      answered (Err refusal) may = refused_fine room refusal w may h

  append_fine : (path : Path) (bytes : List ℕ) (w : Work) → IsFinePath path → IsFine w → AlwaysFine (append room path bytes w)
  append_fine path bytes w names h = (names, answered)
    where
      answered : (answer : Answer) → IsFineAnswer (call.Append path bytes) answer → AlwaysFine (append_told room path bytes w answer)
      answered (Ok (Appended full)) may = say_fine room (last_line (call.Append path bytes) (Appended full)) (with_bytes (length bytes) (done w)) (and_parts _ _ may).0 h
      answered (Ok reply) may = h
      answered (Err refusal) may = refused_fine room refusal w may h

  loaded_fine : (bad : Option ℕ) (p : Machine) (w : Work) → IsFine w → IsFine (loaded_by room bad p w)
  loaded_fine (Some bad) p w h = error_fine room (errors.BadProgram bad) w h
  loaded_fine None p w h = say_fine room (job_line (line.Loaded (size p))) (done (with_program p w)) (job_may (line.Loaded (size p))) h

  planned_fine : (to : Path) (made : Result (List ℕ) ℕ) (w : Work) → IsFinePath to → IsFine w → AlwaysFine (put_or_bad room to made w)
  planned_fine to (Ok file) w names h = put_fine true to file w names h
  planned_fine to (Err bad) w names h = error_fine room (errors.BadPlan bad) w h

  use_fine : (path : Path) (m : Mode) (use_for : Use) (full : name.Full) (bytes : List ℕ) (w : Work) → IsFineUse use_for → list_all may_print (reply_lines (call.Fetch path m) (Bytes full bytes)) ≡ true
      → IsFine w → AlwaysFine (use_bytes room path m use_for full bytes w)
  use_fine path m (ToPut to) full bytes w names may h = put_fine true to bytes w names h
  use_fine path m (ToAppend to) full bytes w names may h = append_fine to bytes w names h
  use_fine path m (ToAssemble to) full bytes w names may h = planned_fine to (assembled bytes) w names h
  use_fine path m ToList full bytes w names may h = all_fine room (reply_lines (call.Fetch path m) (Bytes full bytes)) (done w) may h
  use_fine path m ToLoad full bytes w names may h = loaded_fine (bad_line (lines bytes)) (program_of (lines bytes)) w h
  use_fine path m (ToAssign u) full bytes w names may h =
      say_fine room (job_line line.Assigned) (done (with_units (with_reader w.desk.units u.number (Some (lines bytes))) w)) (job_may line.Assigned) h

  fetch_fine : (path : Path) (m : Mode) (use_for : Use) (w : Work) → IsFinePath path → IsFineUse use_for → IsFine w → AlwaysFine (fetch room path m use_for w)
  fetch_fine path m use_for w names uses h = (names, answered)
    where
      answered : (answer : Answer) → IsFineAnswer (call.Fetch path m) answer → AlwaysFine (fetched room path m use_for w answer)
      answered (Ok (Bytes full bytes)) may = use_fine path m use_for full bytes (with_bytes (length bytes) w) uses may h
      answered (Ok reply) may = h
      answered (Err refusal) may = refused_fine room refusal w may h

  output_fine : (place : ℕ) (output : Option (Path × List ℕ)) (w : Work) → IsFineOutput output → IsFine w → IsFine (with_units (with_writer w.desk.units place output) w)
  output_fine place output w names h = (h.0, output_set w.desk.units.writers place output names h.1, h.2, h.3)

  assign_fine : (u : unit.Unit) (path : Path) (w : Work) → IsFinePath path → IsFine w → AlwaysFine (assign room u path w)
  assign_fine u path w names h =
      either_fine (is_assigned w.desk.units u) (Gives (in_error room errors.InUse w))
      (if is_reader u.kind then fetch room path mode.Read (ToAssign u) w else Gives (output_kept room u path w))
      (error_fine room errors.InUse w h)
      (either_fine (is_reader u.kind) (fetch room path mode.Read (ToAssign u) w) (Gives (output_kept room u path w))
      (fetch_fine path mode.Read (ToAssign u) w names tt h)
      (say_fine room (job_line line.Assigned) (done (with_units (with_writer w.desk.units (place_of u.kind u.number) (Some (path, []))) w)) (job_may line.Assigned)
      (output_fine (place_of u.kind u.number) (Some (path, [])) w names h)))

  -- UNITS that are released
  given_back_fine : (output : Option (Path × List ℕ)) (w : Work) → IsFineOutput output → IsFine w → AlwaysFine (given_back room output w)
  given_back_fine None w names h = say_fine room (job_line line.Released) (done w) (job_may line.Released) h
  given_back_fine (Some output) w names h = put_fine true output.0 output.1 w names h

  output_of_fine : (b : Bool) (u : unit.Unit) (w : Work) → IsFine w
      → IsFineOutput (if b then None else at_place w.desk.units.writers (place_of u.kind u.number))
  output_of_fine true u w h = tt
  output_of_fine false u w h = output_at w.desk.units.writers (place_of u.kind u.number) h.1

  released_fine : (b : Bool) (u : unit.Unit) (w : Work) → IsFine w
      → IsFine (with_units (if b then with_reader w.desk.units u.number None else with_writer w.desk.units (place_of u.kind u.number) None) w)
  released_fine true u w h = h
  released_fine false u w h = output_fine (place_of u.kind u.number) None w tt h

  release_fine : (u : unit.Unit) (w : Work) → IsFine w → AlwaysFine (release room u w)
  release_fine u w h =
      either_fine (is_assigned w.desk.units u) (given_back room (output_of w.desk.units u) (with_units (released w.desk.units u) w)) (Gives (in_error room errors.NotAssigned w))
      (given_back_fine (output_of w.desk.units u) (with_units (released w.desk.units u) w) (output_of_fine (is_reader u.kind) u w h) (released_fine (is_reader u.kind) u w h))
      (error_fine room errors.NotAssigned w h)

  one_fine : (place : ℕ) (output : Option (Path × List ℕ)) (w : Work) → IsFineOutput output → IsFine w → AlwaysFine (release_one room place output w)
  one_fine place None w names h = h
  one_fine place (Some output) w names h = put_fine false output.0 output.1 (with_units (with_writer w.desk.units place None) w) names (output_fine place None w tt h)

  each_fine : (place : ℕ) (outputs : List (Option (Path × List ℕ))) (w : Work) → AreFineOutputs outputs → IsFine w → AlwaysFine (release_each room place outputs w)
  each_fine place [] w names h = h
  each_fine place (output ∷ outputs) w names h =
      then_fine (release_one room place output w) (release_each room (place + 1) outputs) (one_fine place output w names.0 h) (λ v hv. each_fine (place + 1) outputs v names.1 hv)

  all_released_fine : (w : Work) → IsFine w → AlwaysFine (release_all room w)
  all_released_fine w h = each_fine 0 w.desk.units.writers (without_readers w) h.1 h

  pub end_fine : (w : Work) → IsFine w → AlwaysFine (end_job room w)
  end_fine w h = then_fine (release_all room (done w)) finished (all_released_fine (done w) h) (λ v hv. hv)

  delete_fine : (p : Option Machine) (w : Work) → IsFine w → AlwaysFine (delete room p w)
  delete_fine None w h = error_fine room errors.NoProgram w h
  delete_fine (Some p) w h =
      then_fine (release_all room (done (dropped w))) (deleted room) (all_released_fine (done (dropped w)) h) (λ v hv. say_fine room (job_line line.Deleted) v (job_may line.Deleted) hv)

  -- MACROS
  called_macro_fine : (params : List (List ℕ)) (bytes : List ℕ) (w : Work) → are_lines params ≡ true → IsFine w → IsFine (macro_called room params bytes w)
  called_macro_fine params bytes w are h =
      if_fine (is_deepest w.desk.levels) (in_error room errors.TooDeep w) (done (with_levels (called (lines_of bytes) params w.desk.levels) w))
      (error_fine room errors.TooDeep w h) (called_fine (lines_of bytes) params w.desk.levels.levels (lines_lines bytes) are h.0, h.1, h.2, h.3)

  second_fine : (path : Path) (m : Mode) (params : List (List ℕ)) (w : Work) → are_lines params ≡ true → IsFine w → (answer : Answer) → IsFineAnswer (call.Fetch path m) answer
      → AlwaysFine (second_looked room params w answer)
  second_fine path m params w are h (Ok (Bytes full bytes)) may = called_macro_fine params bytes (with_bytes (length bytes) w) are h
  second_fine path m params w are h (Ok reply) may = h
  second_fine path m params w are h (Err fault.NoFile) may = error_fine room errors.UnknownVerb w h
  second_fine path m params w are h (Err refusal) may = refused_fine room refusal w may h

  first_fine : (path : Path) (m : Mode) (macro : List ℕ) (params : List (List ℕ)) (w : Work) → is_line macro ≡ true → are_lines params ≡ true → IsFine w → (answer : Answer)
      → IsFineAnswer (call.Fetch path m) answer → AlwaysFine (first_looked room macro params w answer)
  first_fine path m macro params w is are h (Ok (Bytes full bytes)) may = called_macro_fine params bytes (with_bytes (length bytes) w) are h
  first_fine path m macro params w is are h (Ok reply) may = h
  first_fine path m macro params w is are h (Err fault.NoFile) may =
      ((refl, is, refl), λ answer may'. second_fine (macro_path (Some (codes "MACROS")) macro) mode.Execute params w are h answer may')
  first_fine path m macro params w is are h (Err refusal) may = refused_fine room refusal w may h

  look_up_fine : (macro : List ℕ) (params : List (List ℕ)) (w : Work) → is_line macro ≡ true → are_lines params ≡ true → IsFine w → AlwaysFine (look_up room macro params w)
  look_up_fine macro params w is are h = ((refl, is, refl), λ answer may. first_fine (macro_path None macro) mode.Execute macro params w is are h answer may)

  -- a change of the current level
  level_fine : (change : Level → Level) → ((level : Level) → IsFineLevel level → IsFineLevel (change level)) → (w : Work) → IsFine w
      → IsFine (with_levels (with_current change w.desk.levels) w)
  level_fine change each w h = (current_fine change each w.desk.levels.levels h.0, h.1, h.2, h.3)

  passed_fine : (w : Work) → IsFine w → IsFine (with_levels (document_passed w.desk.levels) w)
  passed_fine w h = level_fine past_document (λ level fine. fine) w h

  user_or : (user : Option (List ℕ)) (who : List ℕ) → IfSome user (λ u. is_line u ≡ true) → is_line who ≡ true → is_line (unwrap_or user who) ≡ true
  user_or None who is whose = whose
  user_or (Some user) who is whose = is

  -- EACH VERB
  module _ (who : List ℕ) (whose : is_line who ≡ true) where
    act_fine : (by : Bool) (asked : Action) (w : Work) → IsFineAction asked → IsFine w → AlwaysFine (act room who by asked w)
    act_fine by (action.Input file) w a h = put_fine true file (document_of w.desk.levels) (with_levels (document_passed w.desk.levels) w) a (passed_fine w h)
    act_fine by (action.Copy from to) w a h = fetch_fine from mode.Read (ToPut to) w a.0 a.1 h
    act_fine by (action.Append from to) w a h = fetch_fine from mode.Read (ToAppend to) w a.0 a.1 h
    act_fine by (action.Erase file) w a h = one_call_fine (call.Erase file) w a h
    act_fine by (action.Rename file to) w a h = one_call_fine (call.Rename file to) w a h
    act_fine by (action.ListFile file) w a h = fetch_fine file mode.Read ToList w a tt h
    act_fine by (action.ListDir user) w a h = one_call_fine (call.List (unwrap_or user who)) w (user_or user who a whose) h
    act_fine by (action.TrapGo file user modes) w a h = one_call_fine (call.TrapGo file user modes) w a h
    act_fine by (action.TrapStop file user modes) w a h = one_call_fine (call.TrapStop file user modes) w a h
    act_fine by (action.TrapCheck file user) w a h = one_call_fine (call.TrapCheck file (unwrap_or user who)) w a h
    act_fine by (action.NewUser user space time money) w a h = one_call_fine (call.NewUser user space time (unwrap_or money 1000000)) w a h
    act_fine by (action.Budget user kind amount) w a h = one_call_fine (call.Budget user kind amount) w a h
    act_fine by (action.Retrieve file) w a h = one_call_fine (call.Retrieve file) w a h
    act_fine by (action.Load file) w a h = fetch_fine file mode.Execute ToLoad w a tt h
    act_fine by (action.Plan from to) w a h = fetch_fine from mode.Read (ToAssemble to) w a.0 a.1 h
    act_fine by (action.Enter entry) w a h = entered_fine room by entry w.desk.program w h
    act_fine by action.Resume w a h = resumed_fine room by w.desk.program w h
    act_fine by (action.Assign u file) w a h = assign_fine u file w a h
    act_fine by (action.Release u) w a h = release_fine u w h
    act_fine by action.Delete w a h = delete_fine w.desk.program w h
    act_fine by (action.SetParam letter text) w a h = level_fine (param_set letter (unwrap_or text [])) (param_fine letter (unwrap_or text []) a) w h
    act_fine by (action.Display text) w a h = say_fine room (marked mark.Displayed text) (done w) (marked_may mark.Displayed text a) h
    act_fine by action.EndJob w a h = end_fine w h
    act_fine by (action.Macro macro params) w a h = look_up_fine macro params w a.0 a.1 h

    gone_fine : (place : Option ℕ) (w : Work) → IsFine w → IsFine (gone room place w)
    gone_fine None w h = error_fine room errors.NoLabel w h
    gone_fine (Some place) w h = level_fine (at_line place) (λ level fine. fine) w h

    whenever_fine : (cond : Cond) (text : List ℕ) (w : Work) → is_line text ≡ true → IsFine w → IsFine (kept room cond text w)
    whenever_fine cond text w is h =
        if_fine (is_full_for cond w.desk.levels) (in_error room errors.WheneversFull w) (with_levels (with_whenever cond text w.desk.levels) w)
        (error_fine room errors.WheneversFull w h) (level_fine (entry_kept cond text) (kept_fine cond text is) w h)

    acted_fine : (by : Bool) (verb : List ℕ) (asked : Result Action ℕ) (w : Work) → IsFineAsked asked → IsFine w → AlwaysFine (acted room who by verb asked w)
    acted_fine by verb (Ok asked) w a h = act_fine by asked w a h
    acted_fine by verb (Err index) w a h =
        error_fine room (errors.BadParameter index) (passes_document verb w)
        (if_fine (same_text verb (codes "INPUT")) (with_levels (document_passed w.desk.levels) w) w (passed_fine w h) h)

    command_fine : (by : Bool) (said : Said) (w : Work) → IsFineSaid said → IsFine w → AlwaysFine (command room who by said w)
    command_fine by (SaidGoto label) w s h = gone_fine (line_of_label label (current w.desk.levels).lines) w h
    command_fine by (SaidIf cond inner) w s h = either_fine (holds w.desk.levels cond w.desk.outcome) (command room who by inner w) (Gives w) (command_fine by inner w s h) h
    command_fine by (SaidWhenever cond text) w s h = whenever_fine cond text w s h
    command_fine by (SaidVerb verb params rest) w s h = acted_fine by verb (action_read verb params rest) w (action_fine verb params rest s.0 s.1 s.2) h

    -- ANY COMMAND
    pub said_fine : (by : Bool) (said : Option Said) (w : Work) → IfSome said IsFineSaid → IsFine w → AlwaysFine (done_if room who by said w)
    said_fine by None w s h = h
    said_fine by (Some said) w s h = command_fine by said w s h
