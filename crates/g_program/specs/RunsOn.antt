-- FROM FILES TO FILES: a run by the rules of this program on open files.
use Rattle.std.specs.Prelude.{◌≡◌, ◌≤◌, ◌<◌, ℕ, Bool, List, [], Option, Some, drop, length}
use Rattle.g_base.specs.Counts.{Rose}
use Rattle.g_closing.specs.Files.{Closes, ClosesPair}
use Rattle.g_day.specs.System.{BelongTogether, DumpsGrow, SameDevices}
use Rattle.g_duplex.specs.Pair.{Pair, lost_of, shown}
use Rattle.g_duplex.specs.declared.twin.Twin.{Twin}
use Rattle.g_files.specs.FileDisc.{disc_state}
use Rattle.g_files.specs.FileTapes.{rack_of}
use Rattle.g_files.specs.declared.file_disc.FileDisc.{FileDisc}
use Rattle.g_files.specs.declared.file_tapes.FileTapes.{FileTapes}
use Rattle.g_files.specs.declared.raw.RawFile.{Ghosts}
use Rattle.g_laws_runs.specs.Filestores.{HasFilestore}
use Rattle.g_laws_store.specs.Moving.{DumpsMove}
use Rattle.g_lines.specs.Lines.{lines_of}
use Rattle.g_program.specs.Rules.{answering, price, share_used}
use Rattle.g_run.specs.ScriptEnd.{both}
use Rattle.g_run.specs.Top as top
use Rattle.g_run.specs.declared.status.Status.{Status}
use Rattle.g_run_model.specs.Devices.{Devices}
use Rattle.g_run_model.specs.Top.{AreArmings, AreFused, Survives}
use Rattle.g_script.specs.Script.{IsParsed}
use Rattle.g_script.specs.declared.operator.Timed.{Timed}
use Rattle.g_store_meaning.specs.Safety.{AreSafe}
use Rattle.g_ticks.specs.Parts.{HaveNoProcess}

-- What a source or a sink exposes: the bytes that it has left or that were written to it, if they are observable, and its count of faults.
pub record Stream : Type 0 where
  pub bytes : Option (List ℕ)
  pub faults : ℕ

-- What a run changes: the source of its script, the sink of its text, and the devices.
pub record Surroundings : Type 0 where
  pub script : Stream
  pub out : Stream
  pub devices : Devices

-- A RUN OF A SCRIPT by the rules of this program, which ended with this status: the clauses of `run_by_rules` for the word `run`.
pub record RunsByRules (status : Status) (old new : Surroundings) : Type 0 where
  -- the statuses that are possible, and when a script is too long
  pub known : top.IsOfRun status
  pub long : (left : List ℕ) → old.script.bytes ≡ Some left → 16777216 < length left → top.IsNotDone status
  pub complete : (left : List ℕ) → old.script.bytes ≡ Some left → length left ≤ 16777216
      → (Rose old.script.faults new.script.faults → ⊥) → (Rose old.out.faults new.out.faults → ⊥) → top.IsComplete status
  -- what was read of the source
  pub taken : (left : List ℕ) → old.script.bytes ≡ Some left → (n : ℕ) × (n ≤ 16777217) × (new.script.bytes ≡ Some (drop n left))
  pub whole : top.IsThrough status → (left : List ℕ) → old.script.bytes ≡ Some left → new.script.bytes ≡ Some []
  -- each fault has its cause
  pub source : top.SourceCause status old.script.faults new.script.faults
  pub sink : top.SinkCause status old.out.faults new.out.faults
  -- what was written, and what the devices are afterwards
  pub quiet : top.IsQuiet status old.devices new.devices old.out.bytes new.out.bytes
  pub ends : (left : List ℕ) → old.script.bytes ≡ Some left
      → top.EndsAs (answering price) tt (answering share_used) tt status left old.devices new.devices old.out.bytes new.out.bytes
  pub anew : (left : List ℕ) → old.script.bytes ≡ Some left → top.BeginsAnew left old.devices
      → top.EndsAnew (answering price) tt (answering share_used) tt status left old.devices new.devices old.out.bytes new.out.bytes
  -- with every status, for all devices
  pub arms : (left : List ℕ) → old.script.bytes ≡ Some left → (lines : List Timed) (bad : Option ℕ) → IsParsed (lines_of left) lines bad
      → AreArmings lines (top.IsThrough status) old.devices new.devices
  pub fuses : AreFused new.devices
  pub same : SameDevices old.devices new.devices
  -- with every status, if the devices expose their contents and belong together
  pub belongs : BelongTogether old.devices → BelongTogether new.devices
  pub dumps : BelongTogether old.devices → DumpsMove old.devices.rack new.devices.rack
  pub stay : BelongTogether old.devices → (left : List ℕ) → old.script.bytes ≡ Some left → (lines : List Timed) (bad : Option ℕ) → IsParsed (lines_of left) lines bad
      → HaveNoProcess lines → DumpsGrow old.devices.rack new.devices.rack
  pub stands : BelongTogether old.devices → HasFilestore old.devices → HasFilestore new.devices
  -- with every status, if the devices are safe from a power loss: they stay safe, and which state a power loss leaves
  pub safe : AreSafe old.devices.disc old.devices.rack → AreSafe new.devices.disc new.devices.rack
  pub survives : AreSafe old.devices.disc old.devices.rack → (left : List ℕ) → old.script.bytes ≡ Some left
      → Survives (answering price) tt (answering share_used) tt left old.devices new.devices old.out.bytes new.out.bytes

-- A RUN ON FILES, from the devices on them when it begins to the devices on them when they were closed. The run is one by the rules. Closing the
-- files changes nothing that a read or a count exposes; if it succeeded, the files hold the devices that the run left, and if it failed, a call on
-- one of them failed. With every status, and whether or not the files could be closed, safe devices are safe afterwards.
pub record RunsOn {F L : Type 0} {g : Ghosts F} (status : Status) (closed : Bool) (disc : FileDisc F g) (tapes : FileTapes F L g) (old new : Surroundings) : Type 0 where
  -- disc and rack as the run left them, before their files were closed
  pub left_disc : FileDisc F g
  pub left_tapes : FileTapes F L g
  pub runs : RunsByRules status old (record new { devices = both (disc_state left_disc) (rack_of left_tapes) })
  pub closes : Closes closed left_disc disc left_tapes tapes
  pub safe : AreSafe old.devices.disc old.devices.rack → AreSafe new.devices.disc new.devices.rack

-- A RUN ON FILES with two racks, which are one rack for the run: the reels that the pair shows. `lost` are the twins that are lost at its end.
pub record RunsOnPair {F L : Type 0} {g : Ghosts F} (status : Status) (closed : Bool) (disc : FileDisc F g) (first second : FileTapes F L g)
    (lost : List (ℕ × Twin)) (old : Surroundings) (script out : Stream) : Type 0 where
  -- disc and pair as the run left them, before their files were closed
  pub left_disc : FileDisc F g
  pub left_first : FileTapes F L g
  pub left_second : FileTapes F L g
  pub pair : Pair
  pub is_first : pair.first ≡ rack_of left_first
  pub is_second : pair.second ≡ rack_of left_second
  pub lost_are : lost ≡ lost_of pair.first.reels pair.standings
  pub runs : RunsByRules status old (record { script = script; out = out; devices = both (disc_state left_disc) (shown pair) })
  pub closes : ClosesPair closed left_disc disc left_first first left_second second
  pub safe : AreSafe old.devices.disc old.devices.rack
      → AreSafe (disc_state disc) (shown (record pair { first = rack_of first; second = rack_of second }))
