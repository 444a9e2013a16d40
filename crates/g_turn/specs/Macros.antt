-- A macro: the file of that name in the job's own directory, otherwise in that of MACROS.
use Rattle.std.specs.Prelude.{Err, List, None, Ok, Option, Some, codes, if◌then◌else◌, length, ℕ}
use Rattle.g_turn.specs.Outcomes.{done, in_error, refused, with_bytes, with_levels}
use Rattle.g_turn.specs.State.{Work}
use Rattle.g_lines.specs.Lines.{lines_of}
use Rattle.g_macro.specs.Levels.{called, is_deepest}
use Rattle.g_monitor.specs.declared.errors.CommandError.TheVariants as errors
use Rattle.g_name.specs.declared.path.Path.{Path}
use Rattle.g_plain.specs.Programs.{Answer, Asks, Call, Gives}
use Rattle.g_plain.specs.declared.calls.StoreCall.TheVariants as call
use Rattle.g_plain.specs.declared.calls.StoreReply.TheVariants.{Bytes}
use Rattle.g_plain.specs.declared.faults.StoreFault.TheVariants as fault
use Rattle.g_trap.specs.declared.mode_set.Mode.TheVariants as mode

-- The path of a macro: its newest generation, in the language of four spaces.
abbrev pub macro_path : Option (List ℕ) → List ℕ → Path
macro_path user name = record { user = user; local = name; generation = None; lang = None; in_range = tt }

module _ (room : ℕ) where
  -- The macro's lines become a level, with its parameters. That there are 8 levels already is reported only after the file was found.
  abbrev pub macro_called : List (List ℕ) → List ℕ → Work → Work
  macro_called params bytes w =
      if is_deepest w.desk.levels then in_error room errors.TooDeep w
      else done (with_levels (called (lines_of bytes) params w.desk.levels) w)

  -- The use of the second search's answer. Any refusal except NoFile is the result; if neither directory has the file, the verb is unknown.
  abbrev pub second_looked : List (List ℕ) → Work → Answer → Asks Work
  second_looked params w (Ok (Bytes full bytes)) = Gives (macro_called params bytes (with_bytes (length bytes) w))
  second_looked params w (Ok reply) = Gives w
  second_looked params w (Err fault.NoFile) = Gives (in_error room errors.UnknownVerb w)
  second_looked params w (Err other) = Gives (refused room other w)

  -- Searches a macro in the directory of MACROS, and calls it.
  abbrev pub look_up_shared : List ℕ → List (List ℕ) → Work → Asks Work
  look_up_shared name params w = Call (call.Fetch (macro_path (Some (codes "MACROS")) name) mode.Execute) (second_looked params w)

  -- The use of the first search's answer: with NoFile the search continues in the directory of MACROS.
  abbrev pub first_looked : List ℕ → List (List ℕ) → Work → Answer → Asks Work
  first_looked name params w (Ok (Bytes full bytes)) = Gives (macro_called params bytes (with_bytes (length bytes) w))
  first_looked name params w (Ok reply) = Gives w
  first_looked name params w (Err fault.NoFile) = look_up_shared name params w
  first_looked name params w (Err other) = Gives (refused room other w)

  -- Searches a macro in the job's own directory, then in that of MACROS, and calls it.
  abbrev pub look_up : List ℕ → List (List ℕ) → Work → Asks Work
  look_up name params w = Call (call.Fetch (macro_path None name) mode.Execute) (first_looked name params w)
