-- The programs of verbs stay within the limits: at most 2,048 blocks, those of 16 outputs.
-- serves: CommandBounds, crates above
use Rattle.std.proofs.Common.{ℕ, ◌+◌, ◌*◌, ◌≤◌, Bool, true, false, List, [], ◌∷◌, length, Option, Some, None, Result, Ok, Err, unwrap_or, codes, if◌then◌else◌, length-set, suc, le_refl, sym, subst, arith}
use Rattle.std.proofs.lemmas.Bool.{false≢true}
use Rattle.g_turn.specs.Actions.{act}
use Rattle.g_turn.specs.Asking.{append, append_told, by_answer, one_call, put, put_told}
use Rattle.g_turn.specs.Bounds.{AlwaysGives, MayAnswer}
use Rattle.g_turn.specs.Macros.{first_looked, look_up, macro_called, macro_path, second_looked}
use Rattle.g_turn.specs.Releases.{delete, deleted, dropped, end_job, finished, given_back, release, release_all, release_each, release_one, without_readers}
use Rattle.g_turn.specs.Outcomes.{done, in_error, with_bytes, with_levels, with_units}
use Rattle.g_turn.specs.State.{Work}
use Rattle.g_turn.specs.Uses.{ToAppend, ToAssemble, ToAssign, ToList, ToLoad, ToPut, Use, assign, fetch, fetched, loaded_by, output_kept, put_or_bad, use_bytes, with_program}
use Rattle.g_turn.proofs.BoundLemmas.{Good, There, bytes_good, error_good, gives_more, good_more, if_gives, if_good, refused_good, say_all_good, say_good, then_gives}
use Rattle.g_turn.proofs.RunBounds.{entered_good, resumed_good}
use Rattle.g_lines.specs.Lines.{lines_of}
use Rattle.g_macro.specs.Levels.{called, document_of, document_passed, is_deepest}
use Rattle.g_mill.specs.Lines.{lines}
use Rattle.g_mill.specs.Loading.{bad_line, program_of}
use Rattle.g_mill.specs.Machine.{Machine, size}
use Rattle.g_monitor.specs.JobLines.{job_line, marked}
use Rattle.g_monitor.specs.Replies.{last_line, reply_lines}
use Rattle.g_monitor.specs.declared.errors.CommandError.TheVariants as errors
use Rattle.g_monitor.specs.declared.job_lines.JobLine.TheVariants as line
use Rattle.g_monitor.specs.declared.job_lines.Mark.TheVariants as mark
use Rattle.g_name.specs.declared.full.Full.{Full}
use Rattle.g_name.specs.declared.path.Path.{Path}
use Rattle.g_peri.specs.JobUnits.{is_assigned, is_reader, output_of, place_of, released, with_reader, with_writer}
use Rattle.g_peri.specs.declared.unit.Unit as unit
use Rattle.g_plain.specs.Programs.{Answer, Asks, Gives}
use Rattle.g_plain.specs.declared.calls.StoreCall.{StoreCall}
use Rattle.g_plain.specs.declared.calls.StoreCall.TheVariants as call
use Rattle.g_plain.specs.declared.calls.StoreReply.TheVariants.{Appended, Bytes, Made}
use Rattle.g_plain.specs.declared.faults.StoreFault.TheVariants as fault
use Rattle.g_plan.specs.Assembly.{assembled}
use Rattle.g_trap.specs.declared.mode_set.Mode.{Mode}
use Rattle.g_trap.specs.declared.mode_set.Mode.TheVariants as mode
use Rattle.g_verbs.specs.declared.action.Action.{Action}
use Rattle.g_verbs.specs.declared.action.Action.TheVariants as action

module _ (room : ℕ) where
  -- with the same number of orders, or with up to 64 of a run
  abbrev pub In : ℕ → Work → Type 0
  In most w = Good room 64 most w

  in_more : (most most' : ℕ) (w : Work) → most ≤ most' → In most w → In most' w
  in_more most most' w less g = good_more room 64 64 most most' w (le_refl 64) less g

  more_gives : (most most' : ℕ) (p : Asks Work) → most ≤ most' → AlwaysGives (In most) p → AlwaysGives (In most') p
  more_gives most most' p less g = gives_more (In most) (In most') (λ w h. in_more most most' w less h) p g

  one_call_gives : (most : ℕ) (asked : StoreCall) (w : Work) → There w → In most w → AlwaysGives (In most) (one_call room asked w)
  one_call_gives most asked w there g = answered
    where
      answered : (answer : Answer) → MayAnswer asked answer → AlwaysGives (In most) (by_answer room asked w answer)
      answered (Ok reply) may = say_all_good room 64 most (reply_lines asked reply) (done w) g
      answered (Err refusal) may = refused_good room 64 most asked refusal w may (λ _. there) g

  -- a Put never waits
  put_gives : (most : ℕ) (well : Bool) (path : Path) (bytes : List ℕ) (w : Work) → In most w → AlwaysGives (In (most + 128)) (put room well path bytes w)
  put_gives most well path bytes w g = answered
    where
      answered : (answer : Answer) → MayAnswer (call.Put path bytes) answer → AlwaysGives (In (most + 128)) (put_told room well path bytes w answer)
      answered (Ok (Made full)) may =
          say_good room 64 (most + 128) (last_line (call.Put path bytes) (Made full)) (with_bytes (length bytes) (if well then done w else w))
          (bytes_good room 64 most bytes (if well then done w else w) may (if_good room 64 most well (done w) w g g))
      answered (Ok reply) may = in_more most (most + 128) w (omega arith) g
      answered (Err refusal) may =
          refused_good room 64 (most + 128) (call.Put path bytes) refusal w may (λ waits. absurd (false≢true waits)) (in_more most (most + 128) w (omega arith) g)

  append_gives : (most : ℕ) (path : Path) (bytes : List ℕ) (w : Work) → There w → In most w → AlwaysGives (In (most + 128)) (append room path bytes w)
  append_gives most path bytes w there g = answered
    where
      answered : (answer : Answer) → MayAnswer (call.Append path bytes) answer → AlwaysGives (In (most + 128)) (append_told room path bytes w answer)
      answered (Ok (Appended full)) may =
          say_good room 64 (most + 128) (last_line (call.Append path bytes) (Appended full)) (with_bytes (length bytes) (done w))
          (bytes_good room 64 most bytes (done w) may g)
      answered (Ok reply) may = in_more most (most + 128) w (omega arith) g
      answered (Err refusal) may =
          refused_good room 64 (most + 128) (call.Append path bytes) refusal w may (λ waits. there) (in_more most (most + 128) w (omega arith) g)

  loaded_good : (most : ℕ) (bad : Option ℕ) (p : Machine) (w : Work) → In most w → In most (loaded_by room bad p w)
  loaded_good most (Some bad) p w g = error_good room 64 most (errors.BadProgram bad) w g
  loaded_good most None p w g = say_good room 64 most (job_line (line.Loaded (size p))) (done (with_program p w)) g

  planned_gives : (most : ℕ) (to : Path) (made : Result (List ℕ) ℕ) (w : Work) → In most w → AlwaysGives (In (most + 128)) (put_or_bad room to made w)
  planned_gives most to (Ok file) w g = put_gives most true to file w g
  planned_gives most to (Err bad) w g = error_good room 64 (most + 128) (errors.BadPlan bad) w (in_more most (most + 128) w (omega arith) g)

  use_gives : (most : ℕ) (path : Path) (m : Mode) (use_for : Use) (full : Full) (bytes : List ℕ) (w : Work) → There w → In most w
      → AlwaysGives (In (most + 128)) (use_bytes room path m use_for full bytes w)
  use_gives most path m (ToPut to) full bytes w there g = put_gives most true to bytes w g
  use_gives most path m (ToAppend to) full bytes w there g = append_gives most to bytes w there g
  use_gives most path m (ToAssemble to) full bytes w there g = planned_gives most to (assembled bytes) w g
  use_gives most path m ToList full bytes w there g =
      say_all_good room 64 (most + 128) (reply_lines (call.Fetch path m) (Bytes full bytes)) (done w) (in_more most (most + 128) w (omega arith) g)
  use_gives most path m ToLoad full bytes w there g =
      loaded_good (most + 128) (bad_line (lines bytes)) (program_of (lines bytes)) w (in_more most (most + 128) w (omega arith) g)
  use_gives most path m (ToAssign u) full bytes w there g =
      say_good room 64 (most + 128) (job_line line.Assigned) (done (with_units (with_reader w.desk.units u.number (Some (lines bytes))) w))
      (in_more most (most + 128) w (omega arith) g)

  fetch_gives : (most : ℕ) (path : Path) (m : Mode) (use_for : Use) (w : Work) → There w → In most w → AlwaysGives (In (most + 128 + 128)) (fetch room path m use_for w)
  fetch_gives most path m use_for w there g = answered
    where
      answered : (answer : Answer) → MayAnswer (call.Fetch path m) answer → AlwaysGives (In (most + 128 + 128)) (fetched room path m use_for w answer)
      answered (Ok (Bytes full bytes)) may =
          use_gives (most + 128) path m use_for full bytes (with_bytes (length bytes) w) there (bytes_good room 64 most bytes w may g)
      answered (Ok reply) may = in_more most (most + 128 + 128) w (omega arith) g
      answered (Err refusal) may =
          refused_good room 64 (most + 128 + 128) (call.Fetch path m) refusal w may (λ waits. there) (in_more most (most + 128 + 128) w (omega arith) g)

  -- another output on a printer or a punch preserves the number of places
  output_good : (most : ℕ) (place : ℕ) (output : Option (Path × List ℕ)) (w : Work) → In most w → In most (with_units (with_writer w.desk.units place output) w)
  output_good most place output w g =
      (g.0, g.1, g.2, subst (λ (n : ℕ). n ≤ 16) (sym (length-set w.desk.units.writers place output)) g.3, g.4, g.5)

  assign_gives : (most : ℕ) (u : unit.Unit) (path : Path) (w : Work) → There w → In most w → AlwaysGives (In (most + 128 + 128)) (assign room u path w)
  assign_gives most u path w there g =
      if_gives (In (most + 128 + 128)) (is_assigned w.desk.units u) (Gives (in_error room errors.InUse w))
      (if is_reader u.kind then fetch room path mode.Read (ToAssign u) w else Gives (output_kept room u path w))
      (error_good room 64 (most + 128 + 128) errors.InUse w (in_more most (most + 128 + 128) w (omega arith) g))
      (if_gives (In (most + 128 + 128)) (is_reader u.kind) (fetch room path mode.Read (ToAssign u) w) (Gives (output_kept room u path w))
      (fetch_gives most path mode.Read (ToAssign u) w there g)
      (say_good room 64 (most + 128 + 128) (job_line line.Assigned) (done (with_units (with_writer w.desk.units (place_of u.kind u.number) (Some (path, []))) w))
      (in_more most (most + 128 + 128) (with_units (with_writer w.desk.units (place_of u.kind u.number) (Some (path, []))) w) (omega arith)
      (output_good most (place_of u.kind u.number) (Some (path, [])) w g))))

  called_good : (most : ℕ) (params : List (List ℕ)) (bytes : List ℕ) (w : Work) → In most w → In most (macro_called room params bytes w)
  called_good most params bytes w g =
      if_good room 64 most (is_deepest w.desk.levels) (in_error room errors.TooDeep w) (done (with_levels (called (lines_of bytes) params w.desk.levels) w))
      (error_good room 64 most errors.TooDeep w g) g

  second_gives : (most : ℕ) (path : Path) (m : Mode) (params : List (List ℕ)) (w : Work) → There w → In most w → (answer : Answer) → MayAnswer (call.Fetch path m) answer
      → AlwaysGives (In (most + 128)) (second_looked room params w answer)
  second_gives most path m params w there g (Ok (Bytes full bytes)) may =
      called_good (most + 128) params bytes (with_bytes (length bytes) w) (bytes_good room 64 most bytes w may g)
  second_gives most path m params w there g (Ok reply) may = in_more most (most + 128) w (omega arith) g
  second_gives most path m params w there g (Err fault.NoFile) may = error_good room 64 (most + 128) errors.UnknownVerb w (in_more most (most + 128) w (omega arith) g)
  second_gives most path m params w there g (Err refusal) may =
      refused_good room 64 (most + 128) (call.Fetch path m) refusal w may (λ waits. there) (in_more most (most + 128) w (omega arith) g)

  first_gives : (most : ℕ) (path : Path) (m : Mode) (name : List ℕ) (params : List (List ℕ)) (w : Work) → There w → In most w → (answer : Answer)
      → MayAnswer (call.Fetch path m) answer → AlwaysGives (In (most + 128)) (first_looked room name params w answer)
  first_gives most path m name params w there g (Ok (Bytes full bytes)) may =
      called_good (most + 128) params bytes (with_bytes (length bytes) w) (bytes_good room 64 most bytes w may g)
  first_gives most path m name params w there g (Ok reply) may = in_more most (most + 128) w (omega arith) g
  first_gives most path m name params w there g (Err fault.NoFile) may =
      second_gives most (macro_path (Some (codes "MACROS")) name) mode.Execute params w there g
  first_gives most path m name params w there g (Err refusal) may =
      refused_good room 64 (most + 128) (call.Fetch path m) refusal w may (λ waits. there) (in_more most (most + 128) w (omega arith) g)

  look_up_gives : (most : ℕ) (name : List ℕ) (params : List (List ℕ)) (w : Work) → There w → In most w → AlwaysGives (In (most + 128)) (look_up room name params w)
  look_up_gives most name params w there g = first_gives most (macro_path None name) mode.Execute name params w there g

  given_back_gives : (most : ℕ) (output : Option (Path × List ℕ)) (w : Work) → In most w → AlwaysGives (In (most + 128)) (given_back room output w)
  given_back_gives most None w g = say_good room 64 (most + 128) (job_line line.Released) (done w) (in_more most (most + 128) w (omega arith) g)
  given_back_gives most (Some output) w g = put_gives most true output.0 output.1 w g

  -- dropping what a unit holds preserves the number of places
  reader_good : (most : ℕ) (is : Bool) (u : unit.Unit) (w : Work) → In most w
      → In most (with_units (if is then with_reader w.desk.units u.number None else with_writer w.desk.units (place_of u.kind u.number) None) w)
  reader_good most true u w g = g
  reader_good most false u w g = output_good most (place_of u.kind u.number) None w g

  release_gives : (most : ℕ) (u : unit.Unit) (w : Work) → In most w → AlwaysGives (In (most + 128)) (release room u w)
  release_gives most u w g =
      if_gives (In (most + 128)) (is_assigned w.desk.units u) (given_back room (output_of w.desk.units u) (with_units (released w.desk.units u) w)) (Gives (in_error room errors.NotAssigned w))
      (given_back_gives most (output_of w.desk.units u) (with_units (released w.desk.units u) w) (reader_good most (is_reader u.kind) u w g))
      (error_good room 64 (most + 128) errors.NotAssigned w (in_more most (most + 128) w (omega arith) g))

  one_gives : (place : ℕ) (output : Option (Path × List ℕ)) (most : ℕ) (w : Work) → In most w → AlwaysGives (In (most + 128)) (release_one room place output w)
  one_gives place None most w g = in_more most (most + 128) w (omega arith) g
  one_gives place (Some output) most w g =
      put_gives most false output.0 output.1 (with_units (with_writer w.desk.units place None) w) (output_good most place None w g)

  each_gives : (place : ℕ) (outputs : List (Option (Path × List ℕ))) (most : ℕ) (w : Work) → In most w
      → AlwaysGives (In (most + 128 * length outputs)) (release_each room place outputs w)
  each_gives place [] most w g = in_more most (most + 128 * 0) w (omega arith) g
  each_gives place (output ∷ outputs) most w g =
      then_gives (In (most + 128)) (In (most + 128 * suc (length outputs)))
      (release_one room place output w) (release_each room (place + 1) outputs)
      (one_gives place output most w g)
      (λ v h over. in_more (most + 128) (most + 128 * suc (length outputs)) v (omega arith) h)
      (λ v h on. more_gives (most + 128 + 128 * length outputs) (most + 128 * suc (length outputs)) (release_each room (place + 1) outputs v) (omega arith)
      (each_gives (place + 1) outputs (most + 128) v h))

  all_gives : (most : ℕ) (w : Work) → In most w → AlwaysGives (In (most + 2048)) (release_all room w)
  all_gives most w g =
      let few : length w.desk.units.writers ≤ 16 = g.3 in
      more_gives (most + 128 * length w.desk.units.writers) (most + 2048) (release_each room 0 w.desk.units.writers (without_readers w)) (omega (arith, few))
      (each_gives 0 w.desk.units.writers most (without_readers w) g)

  pub end_gives : (most : ℕ) (w : Work) → In most w → AlwaysGives (In (most + 2048)) (end_job room w)
  end_gives most w g =
      then_gives (In (most + 2048)) (In (most + 2048)) (release_all room (done w)) finished (all_gives most (done w) g) (λ v h over. h)
      (λ v h on. (h.0, h.1, h.2, h.3, h.4, tt))

  delete_gives : (most : ℕ) (p : Option Machine) (w : Work) → In most w → AlwaysGives (In (most + 2048)) (delete room p w)
  delete_gives most None w g = error_good room 64 (most + 2048) errors.NoProgram w (in_more most (most + 2048) w (omega arith) g)
  delete_gives most (Some p) w g =
      then_gives (In (most + 2048)) (In (most + 2048)) (release_all room (done (dropped w))) (deleted room) (all_gives most (done (dropped w)) g) (λ v h over. h)
      (λ v h on. say_good room 64 (most + 2048) (job_line line.Deleted) v h)

  -- ANY VERB
  pub act_gives : (who : List ℕ) (by : Bool) (most : ℕ) (asked : Action) (w : Work) → There w → In most w → AlwaysGives (In (most + 2048)) (act room who by asked w)
  act_gives who by most (action.Input file) w there g =
      more_gives (most + 128) (most + 2048) (put room true file (document_of w.desk.levels) (with_levels (document_passed w.desk.levels) w)) (omega arith)
      (put_gives most true file (document_of w.desk.levels) (with_levels (document_passed w.desk.levels) w) g)
  act_gives who by most (action.Copy from to) w there g =
      more_gives (most + 128 + 128) (most + 2048) (fetch room from mode.Read (ToPut to) w) (omega arith) (fetch_gives most from mode.Read (ToPut to) w there g)
  act_gives who by most (action.Append from to) w there g =
      more_gives (most + 128 + 128) (most + 2048) (fetch room from mode.Read (ToAppend to) w) (omega arith) (fetch_gives most from mode.Read (ToAppend to) w there g)
  act_gives who by most (action.Erase file) w there g = one_call_gives (most + 2048) (call.Erase file) w there (in_more most (most + 2048) w (omega arith) g)
  act_gives who by most (action.Rename file to) w there g = one_call_gives (most + 2048) (call.Rename file to) w there (in_more most (most + 2048) w (omega arith) g)
  act_gives who by most (action.ListFile file) w there g =
      more_gives (most + 128 + 128) (most + 2048) (fetch room file mode.Read ToList w) (omega arith) (fetch_gives most file mode.Read ToList w there g)
  act_gives who by most (action.ListDir user) w there g = one_call_gives (most + 2048) (call.List (unwrap_or user who)) w there (in_more most (most + 2048) w (omega arith) g)
  act_gives who by most (action.TrapGo file user modes) w there g = one_call_gives (most + 2048) (call.TrapGo file user modes) w there (in_more most (most + 2048) w (omega arith) g)
  act_gives who by most (action.TrapStop file user modes) w there g = one_call_gives (most + 2048) (call.TrapStop file user modes) w there (in_more most (most + 2048) w (omega arith) g)
  act_gives who by most (action.TrapCheck file user) w there g = one_call_gives (most + 2048) (call.TrapCheck file (unwrap_or user who)) w there (in_more most (most + 2048) w (omega arith) g)
  act_gives who by most (action.NewUser user space time money) w there g =
      one_call_gives (most + 2048) (call.NewUser user space time (unwrap_or money 1000000)) w there (in_more most (most + 2048) w (omega arith) g)
  act_gives who by most (action.Budget user kind amount) w there g = one_call_gives (most + 2048) (call.Budget user kind amount) w there (in_more most (most + 2048) w (omega arith) g)
  act_gives who by most (action.Retrieve file) w there g = one_call_gives (most + 2048) (call.Retrieve file) w there (in_more most (most + 2048) w (omega arith) g)
  act_gives who by most (action.Load file) w there g =
      more_gives (most + 128 + 128) (most + 2048) (fetch room file mode.Execute ToLoad w) (omega arith) (fetch_gives most file mode.Execute ToLoad w there g)
  act_gives who by most (action.Plan from to) w there g =
      more_gives (most + 128 + 128) (most + 2048) (fetch room from mode.Read (ToAssemble to) w) (omega arith)
      (fetch_gives most from mode.Read (ToAssemble to) w there g)
  act_gives who by most (action.Enter n) w there g = entered_good room (most + 2048) by n w.desk.program w (in_more most (most + 2048) w (omega arith) g)
  act_gives who by most action.Resume w there g = resumed_good room (most + 2048) by w.desk.program w (in_more most (most + 2048) w (omega arith) g)
  act_gives who by most (action.Assign u file) w there g = more_gives (most + 128 + 128) (most + 2048) (assign room u file w) (omega arith) (assign_gives most u file w there g)
  act_gives who by most (action.Release u) w there g = more_gives (most + 128) (most + 2048) (release room u w) (omega arith) (release_gives most u w g)
  act_gives who by most action.Delete w there g = delete_gives most w.desk.program w g
  act_gives who by most (action.SetParam letter text) w there g = in_more most (most + 2048) w (omega arith) g
  act_gives who by most (action.Display text) w there g = say_good room 64 (most + 2048) (marked mark.Displayed text) (done w) (in_more most (most + 2048) w (omega arith) g)
  act_gives who by most action.EndJob w there g = end_gives most w g
  act_gives who by most (action.Macro name params) w there g = more_gives (most + 128) (most + 2048) (look_up room name params w) (omega arith) (look_up_gives most name params w there g)
