-- Sessions: their text without the lines that begin with `?` is the text of their run.
use Rattle.std.specs.Prelude.{◌≡◌, ℕ, not, List, filter, Option}
use Rattle.std.specs.Fn.{Shared}
use denote.Ref.{Bor}
use Rattle.g_lines.specs.Lines.{lines_of}
use Rattle.g_rules.specs.declared.tariff.Usage.{Usage}
use Rattle.g_rules.specs.declared.tariff.Charge.{Charge}
use Rattle.g_rules.specs.declared.rule.Standing.{Standing}
use Rattle.g_store_model.specs.State.{State}
use Rattle.g_run_model.specs.Devices.{Devices, StandFor}
use Rattle.g_console.specs.Transcript.{Transcript}
use Rattle.g_laws_sessions.specs.Session.{Comes, Exchanges, IsOver, Moment}
use Rattle.g_laws_lines.specs.Lines.{begins_with}

module _ {F U : Type 0} (tariffs : Shared F (Bor Usage × Unit {0}) Charge) (tariff : F) (rules : Shared U (Bor Standing × Unit {0}) ℕ) (rule : U) where
  -- The lines of a session's text that don't begin with `?` (63) are exactly the lines of its run, in order, on any devices that represent a state.
  abbrev pub SessionsAreFiltered : Type 0
  SessionsAreFiltered = (d : Devices) (s : State) (said : Exchanges) (now : Moment) → StandFor d s → Comes tariffs tariff rules rule s said now
      → filter (λ line. not (begins_with 63 line)) (lines_of now.text) ≡ lines_of now.world.text

  -- The same of a session that is over, and of all that it printed.
  abbrev pub EndedSessionsAreFiltered : Type 0
  EndedSessionsAreFiltered = (s : State) (old new : Devices) (t : Transcript) (before after : Option (List ℕ)) (bad : Option ℕ) → StandFor old s
      → (over : IsOver tariffs tariff rules rule s old new t before after bad) → filter (λ line. not (begins_with 63 line)) (lines_of t.text) ≡ lines_of over.last.text
