-- FROM FILES TO FILES: a session by the rules of this program on open files.
use Rattle.std.specs.Prelude.{◌≡◌, ℕ, Bool, List, Option, Some}
use Rattle.g_closing.specs.Files.{Closes, ClosesPair}
use Rattle.g_console.specs.Transcript.{Transcript, blank}
use Rattle.g_day.specs.System.{BelongTogether, SameDevices}
use Rattle.g_duplex.specs.Pair.{Pair, lost_of, shown}
use Rattle.g_duplex.specs.declared.twin.Twin.{Twin}
use Rattle.g_files.specs.FileDisc.{disc_state}
use Rattle.g_files.specs.FileTapes.{rack_of}
use Rattle.g_files.specs.declared.file_disc.FileDisc.{FileDisc}
use Rattle.g_files.specs.declared.file_tapes.FileTapes.{FileTapes}
use Rattle.g_files.specs.declared.raw.RawFile.{Ghosts}
use Rattle.g_laws_runs.specs.BeginningAnew.{AreBlank, with_new_disc}
use Rattle.g_laws_runs.specs.Filestores.{HasFilestore}
use Rattle.g_laws_sessions.specs.Session.{AlwaysAnswers}
use Rattle.g_laws_store.specs.Moving.{DumpsMove}
use Rattle.g_program.specs.Rules.{answering, price, share_used}
use Rattle.g_program.specs.RunsOn.{Stream}
use Rattle.g_run.specs.ScriptEnd.{both}
use Rattle.g_run.specs.declared.status.Status.{Status}
use Rattle.g_run_model.specs.Devices.{Devices, StandFor}
use Rattle.g_run_model.specs.Top.{AreFused}
use Rattle.g_session.specs.Session.{EndsAnew, EndsSession, IsOfSession, SessionCause, SessionSurvives}
use Rattle.g_store_meaning.specs.Safety.{AreSafe}
use Rattle.g_store_model.specs.State.{State}

-- What a session changes: the console, with its transcript, if that is observable, and its count of faults; the log; and the devices.
pub record Sitting : Type 0 where
  pub transcript : Option Transcript
  pub faults : ℕ
  pub log : Stream
  pub devices : Devices

-- A SESSION by the rules of this program, which ended with this status: the clauses of `session_by_rules`.
pub record IsSession (status : Status) (old new : Sitting) : Type 0 where
  pub of : IsOfSession status
  -- each time a line was requested, all lines before it were answered, and nothing else was printed
  pub answers : old.transcript ≡ Some blank → (t : Transcript) → new.transcript ≡ Some t → (s : State) → StandFor old.devices s
      → AlwaysAnswers (answering price) tt (answering share_used) tt s t
  -- all that was printed, what the devices are afterwards, and what the log has
  pub ends : old.transcript ≡ Some blank → (t : Transcript) → new.transcript ≡ Some t → (s : State) → StandFor old.devices s
      → EndsSession (answering price) tt (answering share_used) tt status s old.devices new.devices t old.log.bytes new.log.bytes
  pub anew : old.transcript ≡ Some blank → (t : Transcript) → new.transcript ≡ Some t → AreBlank old.devices
      → (s : State) → StandFor (with_new_disc old.devices) s
      → EndsAnew (answering price) tt (answering share_used) tt status s old.devices new.devices t old.log.bytes new.log.bytes
  -- each fault has its cause
  pub causes : SessionCause status old.faults new.faults old.log.faults new.log.faults
  -- with every status, for all devices
  pub fuses : AreFused new.devices
  pub same : SameDevices old.devices new.devices
  -- with every status, if the devices expose their contents and belong together
  pub belongs : BelongTogether old.devices → BelongTogether new.devices
  pub dumps : BelongTogether old.devices → DumpsMove old.devices.rack new.devices.rack
  pub stands : BelongTogether old.devices → HasFilestore old.devices → HasFilestore new.devices
  -- with every status, if the devices are safe from a power loss: they stay safe, and which state a power loss leaves
  pub safe : AreSafe old.devices.disc old.devices.rack → AreSafe new.devices.disc new.devices.rack
  pub survives : AreSafe old.devices.disc old.devices.rack → old.transcript ≡ Some blank → (t : Transcript) → new.transcript ≡ Some t
      → (s : State) → StandFor old.devices s
      → SessionSurvives (answering price) tt (answering share_used) tt s old.devices new.devices t old.log.bytes new.log.bytes

-- A SESSION ON FILES, from the devices on them when it begins to the devices on them when they were closed (as `RunsOn`).
pub record SessionOn {F L : Type 0} {g : Ghosts F} (status : Status) (closed : Bool) (disc : FileDisc F g) (tapes : FileTapes F L g) (old new : Sitting) : Type 0 where
  -- disc and rack as the session left them, before their files were closed
  pub left_disc : FileDisc F g
  pub left_tapes : FileTapes F L g
  pub session : IsSession status old (record new { devices = both (disc_state left_disc) (rack_of left_tapes) })
  pub closes : Closes closed left_disc disc left_tapes tapes
  pub safe : AreSafe old.devices.disc old.devices.rack → AreSafe new.devices.disc new.devices.rack

-- A SESSION ON FILES with two racks (as `RunsOnPair`)
pub record SessionOnPair {F L : Type 0} {g : Ghosts F} (status : Status) (closed : Bool) (disc : FileDisc F g) (first second : FileTapes F L g)
    (lost : List (ℕ × Twin)) (old : Sitting) (transcript : Option Transcript) (faults : ℕ) (log : Stream) : Type 0 where
  -- disc and pair as the session left them, before their files were closed
  pub left_disc : FileDisc F g
  pub left_first : FileTapes F L g
  pub left_second : FileTapes F L g
  pub pair : Pair
  pub is_first : pair.first ≡ rack_of left_first
  pub is_second : pair.second ≡ rack_of left_second
  pub lost_are : lost ≡ lost_of pair.first.reels pair.standings
  pub session : IsSession status old (record { transcript = transcript; faults = faults; log = log; devices = both (disc_state left_disc) (shown pair) })
  pub closes : ClosesPair closed left_disc disc left_first first left_second second
  pub safe : AreSafe old.devices.disc old.devices.rack
      → AreSafe (disc_state disc) (shown (record pair { first = rack_of first; second = rack_of second }))
