-- The release of units by RELEASE, by DELETE and at the job's end.
use Rattle.std.specs.Prelude.{List, None, Option, Some, [], false, if◌then◌else◌, replicate, true, ℕ, ◌+◌, ◌∷◌}
use Rattle.g_turn.specs.Asking.{put}
use Rattle.g_turn.specs.Outcomes.{done, in_error, is_over, say, stopped, with_units}
use Rattle.g_turn.specs.State.{Done, Work}
use Rattle.g_mill.specs.Machine.{Machine}
use Rattle.g_monitor.specs.JobLines.{job_line}
use Rattle.g_monitor.specs.declared.errors.CommandError.TheVariants as errors
use Rattle.g_monitor.specs.declared.job_lines.JobLine.TheVariants as line
use Rattle.g_name.specs.declared.path.Path.{Path}
use Rattle.g_peri.specs.JobUnits.{is_assigned, output_of, released, with_writer}
use Rattle.g_peri.specs.declared.unit.Unit as unit
use Rattle.g_plain.specs.Programs.{Asks, Gives, and_then}

-- The work with no card reader assigned; nothing is printed for them.
abbrev pub without_readers : Work → Work
without_readers w = with_units (record w.desk.units { readers = replicate 8 None }) w

-- The job is done.
abbrev pub finished : Work → Asks Work
finished w = Gives (stopped Done w)

-- The work without a program.
abbrev pub dropped : Work → Work
dropped w = record w { desk = record w.desk { program = None; halted = false } }

module _ (room : ℕ) where
  -- RELEASE: the output that the unit returns is written to its file.
  abbrev pub given_back : Option (Path × List ℕ) → Work → Asks Work
  given_back None w = Gives (say room (job_line line.Released) (done w))
  given_back (Some output) w = put room true output.0 output.1 w

  -- RELEASE of a unit; it is an error if the unit isn't assigned.
  abbrev pub release : unit.Unit → Work → Asks Work
  release u w =
      if is_assigned w.desk.units u then given_back (output_of w.desk.units u) (with_units (released w.desk.units u) w)
      else Gives (in_error room errors.NotAssigned w)

  -- One place: if a printer or a punch is assigned there, it is released and its output is written.
  abbrev pub release_one : ℕ → Option (Path × List ℕ) → Work → Asks Work
  release_one place None w = Gives w
  release_one place (Some output) w = put room false output.0 output.1 (with_units (with_writer w.desk.units place None) w)

  -- The outputs from a place on are written in order, each after the release of its unit; if one is refused, its error is printed and the later ones
  -- follow.
  abbrev pub release_each : ℕ → List (Option (Path × List ℕ)) → Work → Asks Work
  release_each place [] w = Gives w
  release_each place (output ∷ outputs) w = and_then is_over (release_one place output w) (release_each (place + 1) outputs)

  -- ALL UNITS: readers, printers and punches, each in order of number.
  abbrev pub release_all : Work → Asks Work
  release_all w = release_each 0 w.desk.units.writers (without_readers w)

  -- The job ends after the release of its units.
  abbrev pub end_job : Work → Asks Work
  end_job w = and_then is_over (release_all (done w)) finished

  -- DELETED is printed.
  abbrev pub deleted : Work → Asks Work
  deleted w = Gives (say room (job_line line.Deleted) w)

  -- DELETE: the program is dropped, the units are released, and then DELETED is printed.
  abbrev pub drop_program : Work → Asks Work
  drop_program w = and_then is_over (release_all (done (dropped w))) deleted

  -- DELETE; without a program it is an error, and no unit is released.
  abbrev pub delete : Option Machine → Work → Asks Work
  delete None w = Gives (in_error room errors.NoProgram w)
  delete (Some p) w = drop_program w
