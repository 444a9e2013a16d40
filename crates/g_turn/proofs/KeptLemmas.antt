-- No verb and no command changes what a turn resumes with. Each preserves any property of the levels that is preserved by replacing the current level
-- by one with the same lines and by pushing a macro's level.
-- serves: DocumentLemmas, ReadyLemmas
use Rattle.std.proofs.Common.{◌≡◌, ℕ, suc, zero, ◌+◌, ◌-◌, Bool, true, false, List, [], ◌∷◌, ◌++◌, length, nat_lt, Option, Some, None, Result, Ok, Err, unwrap_or, codes, if◌then◌else◌, refl}
use Rattle.g_turn.specs.Actions.{act}
use Rattle.g_turn.specs.Asking.{append, append_told, by_answer, one_call, put, put_told}
use Rattle.g_turn.specs.Bounds.{AlwaysGives, MayAnswer}
use Rattle.g_turn.specs.Commands.{acted, command, done_if, gone, kept, passes_document}
use Rattle.g_turn.specs.Macros.{first_looked, look_up, macro_called, macro_path, second_looked}
use Rattle.g_turn.specs.Releases.{delete, deleted, dropped, end_job, finished, given_back, release, release_all, release_each, release_one, without_readers}
use Rattle.g_turn.specs.Runs.{Ends, Goes, Order, behind_event, behind_order, by_event, entered, goes_on, one_order, order_of, resumed, run_ended, run_orders, running_by, without_program}
use Rattle.g_turn.specs.Outcomes.{set_outcome, done, in_error, is_over, refused, say, say_all, stopped, with_bytes, with_levels, with_units}
use Rattle.g_turn.specs.State.{Full, Pending, Work}
use Rattle.g_turn.specs.Uses.{ToAppend, ToAssemble, ToAssign, ToList, ToLoad, ToPut, Use, assign, fetch, fetched, loaded_by, output_kept, put_or_bad, use_bytes, with_program}
use Rattle.g_turn.proofs.BoundLemmas.{if_gives, then_gives}
use Rattle.g_turn.proofs.RunLemmas.{work_of}
use Rattle.g_lang.specs.Lines.{Said, SaidGoto, SaidIf, SaidVerb, SaidWhenever}
use Rattle.g_lang.specs.declared.line.Cond.{Cond}
use Rattle.g_lines.specs.Lines.{ended, lines_of}
use Rattle.g_macro.specs.Levels.{Level, Stack, at_line, called, current, document_of, document_passed, entry_kept, holds, is_deepest, is_full_for, line_of_label, param_set, past_document, with_current, with_whenever}
use Rattle.g_macro.specs.declared.outcome.EventNote.TheVariants as note
use Rattle.g_mill.specs.Lines.{lines}
use Rattle.g_mill.specs.Loading.{bad_line, program_of}
use Rattle.g_mill.specs.Machine.{Machine, size}
use Rattle.g_monitor.specs.JobLines.{job_line, marked}
use Rattle.g_monitor.specs.Refusals.{error_line, fault_line}
use Rattle.g_monitor.specs.Replies.{last_line, reply_lines}
use Rattle.g_monitor.specs.declared.errors.CommandError.{CommandError}
use Rattle.g_monitor.specs.declared.errors.CommandError.TheVariants as errors
use Rattle.g_monitor.specs.declared.job_lines.JobLine.TheVariants as line
use Rattle.g_monitor.specs.declared.job_lines.Mark.TheVariants as mark
use Rattle.g_name.specs.Order.{same_text}
use Rattle.g_name.specs.declared.full.Full as name
use Rattle.g_name.specs.declared.path.Path.{Path}
use Rattle.g_peri.specs.JobUnits.{is_assigned, is_reader, output_of, place_of, released, with_reader, with_writer}
use Rattle.g_peri.specs.OneOrder.{order_with}
use Rattle.g_peri.specs.declared.ordered.OrderEvent.{OrderEvent}
use Rattle.g_peri.specs.declared.ordered.OrderEvent.TheVariants as came
use Rattle.g_peri.specs.declared.unit.Unit as unit
use Rattle.g_plain.specs.Programs.{Answer, Gives}
use Rattle.g_plain.specs.declared.calls.StoreCall.{StoreCall}
use Rattle.g_plain.specs.declared.calls.StoreCall.TheVariants as call
use Rattle.g_plain.specs.declared.calls.StoreReply.TheVariants.{Appended, Bytes, Made}
use Rattle.g_plain.specs.declared.faults.StoreFault.{StoreFault}
use Rattle.g_plain.specs.declared.faults.StoreFault.TheVariants as fault
use Rattle.g_plan.specs.Assembly.{assembled}
use Rattle.g_trap.specs.declared.mode_set.Mode.{Mode}
use Rattle.g_trap.specs.declared.mode_set.Mode.TheVariants as mode
use Rattle.g_verbs.specs.VerbReader.{action_read}
use Rattle.g_verbs.specs.declared.action.Action.{Action}
use Rattle.g_verbs.specs.declared.action.Action.TheVariants as action

-- a level with the same lines
abbrev pub KeepsLines : (Level → Level) → Type 0
KeepsLines change = (level : Level) → (change level).lines ≡ level.lines

module _ (again : Option Pending) (G : Stack → Type 0) where
  -- the turn resumes with this, and the levels have the property
  abbrev pub Keeps : Work → Type 0
  Keeps w = (w.again ≡ again) × G w.desk.levels

  if_keeps : (b : Bool) (x y : Work) → Keeps x → Keeps y → Keeps (if b then x else y)
  if_keeps true x y hx hy = hx
  if_keeps false x y hx hy = hy

  pub say_keeps : (room : ℕ) (text : List ℕ) (w : Work) → Keeps w → Keeps (say room text w)
  say_keeps room text w h = if_keeps (nat_lt room (length w.text + length (ended text))) (stopped Full w) (record w { text = w.text ++ ended text }) h h

  all_keeps : (room : ℕ) (texts : List (List ℕ)) (w : Work) → Keeps w → Keeps (say_all room texts w)
  all_keeps room [] w h = h
  all_keeps room (text ∷ texts) w h =
      if_keeps (is_over (say room text w)) (say room text w) (say_all room texts (say room text w)) (say_keeps room text w h)
      (all_keeps room texts (say room text w) (say_keeps room text w h))

  pub error_keeps : (room : ℕ) (error : CommandError) (w : Work) → Keeps w → Keeps (in_error room error w)
  error_keeps room error w h = say_keeps room (marked mark.Error (error_line error)) (set_outcome true note.None w) h

  refused_keeps : (room : ℕ) (refusal : StoreFault) (w : Work) → Keeps w → Keeps (refused room refusal w)
  refused_keeps room (fault.WaitTape serial) w h = h
  refused_keeps room fault.Stopped w h = h
  refused_keeps room refusal w h = say_keeps room (marked mark.Error (fault_line refusal)) (set_outcome true note.None w) h

  -- runs of the program
  event_keeps : (room : ℕ) (event : OrderEvent) (w : Work) → Keeps w → Keeps (work_of (by_event room event w))
  event_keeps room came.Ran w h = h
  event_keeps room (came.Displayed text) w h = say_keeps room (marked mark.Displayed text) w h
  event_keeps room (came.Halted text) w h = say_keeps room (marked mark.Halted text) (run_ended (note.Halted text) true w) h
  event_keeps room (came.Deleted text) w h = say_keeps room (marked mark.Deleted text) (run_ended (note.Deleted text) false (without_program w)) h
  event_keeps room (came.Illegal word at) w h = say_keeps room (job_line (line.Illegal word at)) (run_ended note.Failed false w) h

  behind_keeps : (more : Work → Work) → ((w : Work) → Keeps w → Keeps (more w)) → (o : Order) → Keeps (work_of o) → Keeps (behind_event more o)
  behind_keeps more on (Ends w) h = h
  behind_keeps more on (Goes w) h = if_keeps (is_over w) w (more w) h (on w h)

  order_keeps : (room : ℕ) (more : Work → Work) → ((w : Work) → Keeps w → Keeps (more w)) → (p : Option Machine) (w : Work) → Keeps w → Keeps (order_of room more p w)
  order_keeps room more on None w h = h
  order_keeps room more on (Some p) w h =
      behind_keeps more on (one_order room p w) (event_keeps room (order_with w.desk.units p).event (behind_order (order_with w.desk.units p) w) h)

  run_keeps : (room left : ℕ) (w : Work) → Keeps w → Keeps (run_orders room left w)
  unfolding run_orders
  run_keeps room zero w h = h
  run_keeps room (suc left) w h = order_keeps room (run_orders room left) (run_keeps room left) w.desk.program w h

  pub goes_on_keeps : (room : ℕ) (w : Work) → Keeps w → Keeps (goes_on room w)
  goes_on_keeps room w h = run_keeps room (64 - w.orders) w h

  entered_keeps : (room : ℕ) (by : Bool) (entry : ℕ) (p : Option Machine) (w : Work) → Keeps w → Keeps (entered room by entry p w)
  entered_keeps room by entry None w h = error_keeps room errors.NoProgram w h
  entered_keeps room by entry (Some p) w h = goes_on_keeps room (running_by by (record p { next = 20 + entry; overflow = false }) w) h

  resumed_keeps : (room : ℕ) (by : Bool) (p : Option Machine) (w : Work) → Keeps w → Keeps (resumed room by p w)
  resumed_keeps room by None w h = error_keeps room errors.NoProgram w h
  resumed_keeps room by (Some p) w h =
      if_keeps w.desk.halted (goes_on room (running_by by p w)) (in_error room errors.NotHalted w) (goes_on_keeps room (running_by by p w) h)
      (error_keeps room errors.NotHalted w h)

  module _ (room : ℕ) where
    one_call_keeps : (asked : StoreCall) (w : Work) → Keeps w → AlwaysGives Keeps (one_call room asked w)
    one_call_keeps asked w h = answered
      where
        answered : (answer : Answer) → MayAnswer asked answer → AlwaysGives Keeps (by_answer room asked w answer)
        answered (Ok reply) may = all_keeps room (reply_lines asked reply) (done w) h
        answered (Err refusal) may = refused_keeps room refusal w h

    put_keeps : (well : Bool) (path : Path) (bytes : List ℕ) (w : Work) → Keeps w → AlwaysGives Keeps (put room well path bytes w)
    put_keeps well path bytes w h = answered
      where
        answered : (answer : Answer) → MayAnswer (call.Put path bytes) answer → AlwaysGives Keeps (put_told room well path bytes w answer)
        answered (Ok (Made full)) may =
            say_keeps room (last_line (call.Put path bytes) (Made full)) (with_bytes (length bytes) (if well then done w else w)) (if_keeps well (done w) w h h)
        answered (Ok reply) may = h
        answered (Err refusal) may = refused_keeps room refusal w h

    append_keeps : (path : Path) (bytes : List ℕ) (w : Work) → Keeps w → AlwaysGives Keeps (append room path bytes w)
    append_keeps path bytes w h = answered
      where
        answered : (answer : Answer) → MayAnswer (call.Append path bytes) answer → AlwaysGives Keeps (append_told room path bytes w answer)
        answered (Ok (Appended full)) may = say_keeps room (last_line (call.Append path bytes) (Appended full)) (with_bytes (length bytes) (done w)) h
        answered (Ok reply) may = h
        answered (Err refusal) may = refused_keeps room refusal w h

    loaded_keeps : (bad : Option ℕ) (p : Machine) (w : Work) → Keeps w → Keeps (loaded_by room bad p w)
    loaded_keeps (Some bad) p w h = error_keeps room (errors.BadProgram bad) w h
    loaded_keeps None p w h = say_keeps room (job_line (line.Loaded (size p))) (done (with_program p w)) h

    planned_keeps : (to : Path) (made : Result (List ℕ) ℕ) (w : Work) → Keeps w → AlwaysGives Keeps (put_or_bad room to made w)
    planned_keeps to (Ok file) w h = put_keeps true to file w h
    planned_keeps to (Err bad) w h = error_keeps room (errors.BadPlan bad) w h

    use_keeps : (path : Path) (m : Mode) (use_for : Use) (full : name.Full) (bytes : List ℕ) (w : Work) → Keeps w → AlwaysGives Keeps (use_bytes room path m use_for full bytes w)
    use_keeps path m (ToPut to) full bytes w h = put_keeps true to bytes w h
    use_keeps path m (ToAppend to) full bytes w h = append_keeps to bytes w h
    use_keeps path m (ToAssemble to) full bytes w h = planned_keeps to (assembled bytes) w h
    use_keeps path m ToList full bytes w h = all_keeps room (reply_lines (call.Fetch path m) (Bytes full bytes)) (done w) h
    use_keeps path m ToLoad full bytes w h = loaded_keeps (bad_line (lines bytes)) (program_of (lines bytes)) w h
    use_keeps path m (ToAssign u) full bytes w h =
        say_keeps room (job_line line.Assigned) (done (with_units (with_reader w.desk.units u.number (Some (lines bytes))) w)) h

    fetch_keeps : (path : Path) (m : Mode) (use_for : Use) (w : Work) → Keeps w → AlwaysGives Keeps (fetch room path m use_for w)
    fetch_keeps path m use_for w h = answered
      where
        answered : (answer : Answer) → MayAnswer (call.Fetch path m) answer → AlwaysGives Keeps (fetched room path m use_for w answer)
        answered (Ok (Bytes full bytes)) may = use_keeps path m use_for full bytes (with_bytes (length bytes) w) h
        answered (Ok reply) may = h
        answered (Err refusal) may = refused_keeps room refusal w h

    assign_keeps : (u : unit.Unit) (path : Path) (w : Work) → Keeps w → AlwaysGives Keeps (assign room u path w)
    assign_keeps u path w h =
        if_gives Keeps (is_assigned w.desk.units u) (Gives (in_error room errors.InUse w))
        (if is_reader u.kind then fetch room path mode.Read (ToAssign u) w else Gives (output_kept room u path w))
        (error_keeps room errors.InUse w h)
        (if_gives Keeps (is_reader u.kind) (fetch room path mode.Read (ToAssign u) w) (Gives (output_kept room u path w))
        (fetch_keeps path mode.Read (ToAssign u) w h)
        (say_keeps room (job_line line.Assigned) (done (with_units (with_writer w.desk.units (place_of u.kind u.number) (Some (path, []))) w)) h))

    given_back_keeps : (output : Option (Path × List ℕ)) (w : Work) → Keeps w → AlwaysGives Keeps (given_back room output w)
    given_back_keeps None w h = say_keeps room (job_line line.Released) (done w) h
    given_back_keeps (Some output) w h = put_keeps true output.0 output.1 w h

    release_keeps : (u : unit.Unit) (w : Work) → Keeps w → AlwaysGives Keeps (release room u w)
    release_keeps u w h =
        if_gives Keeps (is_assigned w.desk.units u) (given_back room (output_of w.desk.units u) (with_units (released w.desk.units u) w)) (Gives (in_error room errors.NotAssigned w))
        (given_back_keeps (output_of w.desk.units u) (with_units (released w.desk.units u) w) h) (error_keeps room errors.NotAssigned w h)

    one_keeps : (place : ℕ) (output : Option (Path × List ℕ)) (w : Work) → Keeps w → AlwaysGives Keeps (release_one room place output w)
    one_keeps place None w h = h
    one_keeps place (Some output) w h = put_keeps false output.0 output.1 (with_units (with_writer w.desk.units place None) w) h

    each_keeps : (place : ℕ) (outputs : List (Option (Path × List ℕ))) (w : Work) → Keeps w → AlwaysGives Keeps (release_each room place outputs w)
    each_keeps place [] w h = h
    each_keeps place (output ∷ outputs) w h =
        then_gives Keeps Keeps (release_one room place output w) (release_each room (place + 1) outputs) (one_keeps place output w h) (λ v hv over. hv)
        (λ v hv on. each_keeps (place + 1) outputs v hv)

    all_released_keeps : (w : Work) → Keeps w → AlwaysGives Keeps (release_all room w)
    all_released_keeps w h = each_keeps 0 w.desk.units.writers (without_readers w) h

    pub end_keeps : (w : Work) → Keeps w → AlwaysGives Keeps (end_job room w)
    end_keeps w h = then_gives Keeps Keeps (release_all room (done w)) finished (all_released_keeps (done w) h) (λ v hv over. hv) (λ v hv on. hv)

    delete_keeps : (p : Option Machine) (w : Work) → Keeps w → AlwaysGives Keeps (delete room p w)
    delete_keeps None w h = error_keeps room errors.NoProgram w h
    delete_keeps (Some p) w h =
        then_gives Keeps Keeps (release_all room (done (dropped w))) (deleted room) (all_released_keeps (done (dropped w)) h) (λ v hv over. hv)
        (λ v hv on. say_keeps room (job_line line.Deleted) v hv)

    -- commands that change the levels
    module _ (on_change : (change : Level → Level) → KeepsLines change → (s : Stack) → G s → G (with_current change s))
        (on_call : (lines params : List (List ℕ)) (s : Stack) → G s → G (called lines params s)) where
      called_keeps : (params : List (List ℕ)) (bytes : List ℕ) (w : Work) → Keeps w → Keeps (macro_called room params bytes w)
      called_keeps params bytes w h =
          if_keeps (is_deepest w.desk.levels) (in_error room errors.TooDeep w) (done (with_levels (called (lines_of bytes) params w.desk.levels) w))
          (error_keeps room errors.TooDeep w h) (h.0, on_call (lines_of bytes) params w.desk.levels h.1)

      second_keeps : (path : Path) (m : Mode) (params : List (List ℕ)) (w : Work) → Keeps w → (answer : Answer) → MayAnswer (call.Fetch path m) answer
          → AlwaysGives Keeps (second_looked room params w answer)
      second_keeps path m params w h (Ok (Bytes full bytes)) may = called_keeps params bytes (with_bytes (length bytes) w) h
      second_keeps path m params w h (Ok reply) may = h
      second_keeps path m params w h (Err fault.NoFile) may = error_keeps room errors.UnknownVerb w h
      second_keeps path m params w h (Err refusal) may = refused_keeps room refusal w h

      first_keeps : (path : Path) (m : Mode) (macro : List ℕ) (params : List (List ℕ)) (w : Work) → Keeps w → (answer : Answer) → MayAnswer (call.Fetch path m) answer
          → AlwaysGives Keeps (first_looked room macro params w answer)
      first_keeps path m macro params w h (Ok (Bytes full bytes)) may = called_keeps params bytes (with_bytes (length bytes) w) h
      first_keeps path m macro params w h (Ok reply) may = h
      first_keeps path m macro params w h (Err fault.NoFile) may = λ answer may'. second_keeps (macro_path (Some (codes "MACROS")) macro) mode.Execute params w h answer may'
      first_keeps path m macro params w h (Err refusal) may = refused_keeps room refusal w h

      look_up_keeps : (macro : List ℕ) (params : List (List ℕ)) (w : Work) → Keeps w → AlwaysGives Keeps (look_up room macro params w)
      look_up_keeps macro params w h = λ answer may. first_keeps (macro_path None macro) mode.Execute macro params w h answer may

      act_keeps : (who : List ℕ) (by : Bool) (asked : Action) (w : Work) → Keeps w → AlwaysGives Keeps (act room who by asked w)
      act_keeps who by (action.Input file) w h =
          put_keeps true file (document_of w.desk.levels) (with_levels (document_passed w.desk.levels) w) (h.0, on_change past_document (λ level. refl) w.desk.levels h.1)
      act_keeps who by (action.Copy from to) w h = fetch_keeps from mode.Read (ToPut to) w h
      act_keeps who by (action.Append from to) w h = fetch_keeps from mode.Read (ToAppend to) w h
      act_keeps who by (action.Erase file) w h = one_call_keeps (call.Erase file) w h
      act_keeps who by (action.Rename file to) w h = one_call_keeps (call.Rename file to) w h
      act_keeps who by (action.ListFile file) w h = fetch_keeps file mode.Read ToList w h
      act_keeps who by (action.ListDir user) w h = one_call_keeps (call.List (unwrap_or user who)) w h
      act_keeps who by (action.TrapGo file user modes) w h = one_call_keeps (call.TrapGo file user modes) w h
      act_keeps who by (action.TrapStop file user modes) w h = one_call_keeps (call.TrapStop file user modes) w h
      act_keeps who by (action.TrapCheck file user) w h = one_call_keeps (call.TrapCheck file (unwrap_or user who)) w h
      act_keeps who by (action.NewUser user space time money) w h = one_call_keeps (call.NewUser user space time (unwrap_or money 1000000)) w h
      act_keeps who by (action.Budget user kind amount) w h = one_call_keeps (call.Budget user kind amount) w h
      act_keeps who by (action.Retrieve file) w h = one_call_keeps (call.Retrieve file) w h
      act_keeps who by (action.Load file) w h = fetch_keeps file mode.Execute ToLoad w h
      act_keeps who by (action.Plan from to) w h = fetch_keeps from mode.Read (ToAssemble to) w h
      act_keeps who by (action.Enter entry) w h = entered_keeps room by entry w.desk.program w h
      act_keeps who by action.Resume w h = resumed_keeps room by w.desk.program w h
      act_keeps who by (action.Assign u file) w h = assign_keeps u file w h
      act_keeps who by (action.Release u) w h = release_keeps u w h
      act_keeps who by action.Delete w h = delete_keeps w.desk.program w h
      act_keeps who by (action.SetParam letter text) w h = (h.0, on_change (param_set letter (unwrap_or text [])) (λ level. refl) w.desk.levels h.1)
      act_keeps who by (action.Display text) w h = say_keeps room (marked mark.Displayed text) (done w) h
      act_keeps who by action.EndJob w h = end_keeps w h
      act_keeps who by (action.Macro macro params) w h = look_up_keeps macro params w h

      gone_keeps : (place : Option ℕ) (w : Work) → Keeps w → Keeps (gone room place w)
      gone_keeps None w h = error_keeps room errors.NoLabel w h
      gone_keeps (Some place) w h = (h.0, on_change (at_line place) (λ level. refl) w.desk.levels h.1)

      kept_keeps : (cond : Cond) (text : List ℕ) (w : Work) → Keeps w → Keeps (kept room cond text w)
      kept_keeps cond text w h =
          if_keeps (is_full_for cond w.desk.levels) (in_error room errors.WheneversFull w) (with_levels (with_whenever cond text w.desk.levels) w)
          (error_keeps room errors.WheneversFull w h) (h.0, on_change (entry_kept cond text) (λ level. refl) w.desk.levels h.1)

      acted_keeps : (who : List ℕ) (by : Bool) (verb : List ℕ) (asked : Result Action ℕ) (w : Work) → Keeps w → AlwaysGives Keeps (acted room who by verb asked w)
      acted_keeps who by verb (Ok asked) w h = act_keeps who by asked w h
      acted_keeps who by verb (Err index) w h =
          error_keeps room (errors.BadParameter index) (passes_document verb w)
          (if_keeps (same_text verb (codes "INPUT")) (with_levels (document_passed w.desk.levels) w) w (h.0, on_change past_document (λ level. refl) w.desk.levels h.1) h)

      command_keeps : (who : List ℕ) (by : Bool) (said : Said) (w : Work) → Keeps w → AlwaysGives Keeps (command room who by said w)
      command_keeps who by (SaidGoto label) w h = gone_keeps (line_of_label label (current w.desk.levels).lines) w h
      command_keeps who by (SaidIf cond inner) w h =
          if_gives Keeps (holds w.desk.levels cond w.desk.outcome) (command room who by inner w) (Gives w) (command_keeps who by inner w h) h
      command_keeps who by (SaidWhenever cond text) w h = kept_keeps cond text w h
      command_keeps who by (SaidVerb verb params rest) w h = acted_keeps who by verb (action_read verb params rest) w h

      -- ANY COMMAND
      pub said_keeps : (who : List ℕ) (by : Bool) (said : Option Said) (w : Work) → Keeps w → AlwaysGives Keeps (done_if room who by said w)
      said_keeps who by None w h = h
      said_keeps who by (Some said) w h = command_keeps who by said w h
