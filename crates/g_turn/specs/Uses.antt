-- The uses of a file's bytes: COPY, APPEND, PLAN, LISTFILE, LOAD, and ASSIGN of a card reader.
use Rattle.std.specs.Prelude.{Err, List, None, Ok, Option, Result, Some, [], false, if◌then◌else◌, length, true, ℕ, ◌≡◌}
use Rattle.g_turn.specs.Asking.{append, put}
use Rattle.g_turn.specs.Outcomes.{done, in_error, refused, say, say_all, with_bytes, with_units}
use Rattle.g_turn.specs.State.{Work}
use Rattle.g_mill.specs.Lines.{lines}
use Rattle.g_mill.specs.Loading.{bad_line, program_of}
use Rattle.g_mill.specs.Machine.{Machine, size}
use Rattle.g_monitor.specs.JobLines.{job_line}
use Rattle.g_monitor.specs.Replies.{reply_lines}
use Rattle.g_monitor.specs.declared.errors.CommandError.TheVariants as errors
use Rattle.g_monitor.specs.declared.job_lines.JobLine.TheVariants as line
use Rattle.g_name.specs.declared.full.Full.{Full}
use Rattle.g_name.specs.declared.path.Path.{Path}
use Rattle.g_peri.specs.JobUnits.{Held, is_assigned, is_reader, place_of, with_reader, with_writer}
use Rattle.g_peri.specs.declared.unit.Unit as unit
use Rattle.g_plain.specs.Programs.{Answer, Asks, Call, Gives}
use Rattle.g_plain.specs.declared.calls.StoreCall.TheVariants as call
use Rattle.g_plain.specs.declared.calls.StoreReply.TheVariants.{Bytes}
use Rattle.g_plan.specs.Assembly.{assembled}
use Rattle.g_trap.specs.declared.mode_set.Mode.{Mode}
use Rattle.g_trap.specs.declared.mode_set.Mode.TheVariants as mode

-- What a file's bytes are fetched for.
pub data Use : Type 0 where
  ToPut : Path → Use
  ToAppend : Path → Use
  ToAssemble : Path → Use
  ToList : Use
  ToLoad : Use
  ToAssign : unit.Unit → Use

-- A file is loaded into a unit only if that is a card reader and isn't assigned.
abbrev pub IsFree : Use → Held → Type 0
IsFree (ToAssign u) held = (is_reader u.kind ≡ true) × (is_assigned held u ≡ false)
IsFree use_for held = Unit {0}

-- A program replaces the one before.
abbrev pub with_program : Machine → Work → Work
with_program p w = record w { desk = record w.desk { program = Some p; halted = false } }

module _ (room : ℕ) where
  -- LISTFILE: the lines of the file, and the last line of the listing
  abbrev pub listed : Path → Mode → Full → List ℕ → Work → Work
  listed path m full bytes w = say_all room (reply_lines (call.Fetch path m) (Bytes full bytes)) (done w)

  -- LOAD: the program of a good program file; a bad file leaves the program unchanged.
  abbrev pub loaded_by : Option ℕ → Machine → Work → Work
  loaded_by (Some bad) p w = in_error room (errors.BadProgram bad) w
  loaded_by None p w = say room (job_line (line.Loaded (size p))) (done (with_program p w))

  -- The work after LOAD of these bytes.
  abbrev pub loaded : List ℕ → Work → Work
  loaded bytes w = loaded_by (bad_line (lines bytes)) (program_of (lines bytes)) w

  -- ASSIGN of a card reader: the lines of the file are in it
  abbrev pub assigned : unit.Unit → List ℕ → Work → Work
  assigned u bytes w = say room (job_line line.Assigned) (done (with_units (with_reader w.desk.units u.number (Some (lines bytes))) w))

  -- PLAN: the program file of a good source is written; for a bad source nothing is.
  abbrev pub put_or_bad : Path → Result (List ℕ) ℕ → Work → Asks Work
  put_or_bad to (Ok file) w = put room true to file w
  put_or_bad to (Err bad) w = Gives (in_error room (errors.BadPlan bad) w)

  -- A file's bytes, and their use.
  abbrev pub use_bytes : Path → Mode → Use → Full → List ℕ → Work → Asks Work
  use_bytes path m (ToPut to) full bytes w = put room true to bytes w
  use_bytes path m (ToAppend to) full bytes w = append room to bytes w
  use_bytes path m (ToAssemble to) full bytes w = put_or_bad to (assembled bytes) w
  use_bytes path m ToList full bytes w = Gives (listed path m full bytes w)
  use_bytes path m ToLoad full bytes w = Gives (loaded bytes w)
  use_bytes path m (ToAssign u) full bytes w = Gives (assigned u bytes w)

  -- The use of the answer to a Fetch.
  abbrev pub fetched : Path → Mode → Use → Work → Answer → Asks Work
  fetched path m use_for w (Ok (Bytes full bytes)) = use_bytes path m use_for full bytes (with_bytes (length bytes) w)
  fetched path m use_for w (Ok reply) = Gives w
  fetched path m use_for w (Err fault) = Gives (refused room fault w)

  -- A file is fetched and used.
  abbrev pub fetch : Path → Mode → Use → Work → Asks Work
  fetch path m use_for w = Call (call.Fetch path m) (fetched path m use_for w)

  -- ASSIGN of a printer or a punch: the path is stored for its output.
  abbrev pub output_kept : unit.Unit → Path → Work → Work
  output_kept u path w =
      say room (job_line line.Assigned) (done (with_units (with_writer w.desk.units (place_of u.kind u.number) (Some (path, []))) w))

  -- ASSIGN of a unit and a file; it is an error if the unit is assigned.
  abbrev pub assign : unit.Unit → Path → Work → Asks Work
  assign u path w =
      if is_assigned w.desk.units u then Gives (in_error room errors.InUse w)
      else if is_reader u.kind then fetch path mode.Read (ToAssign u) w
      else Gives (output_kept u path w)
