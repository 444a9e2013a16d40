-- PARTS OF A SESSION: what is known between two lines, and after a failure, and what a power loss leaves then. Internal: public contracts cite `Session` only.
use Rattle.std.specs.Prelude.{◌≡◌, ◌≢◌, ◌⊎◌, ◌+◌, ◌≤◌, ℕ, Bool, true, false, List, [], ◌++◌, length, map, take, All, Option, Some, None, codes}
use Rattle.std.specs.List.{flat_map}
use Rattle.std.specs.Fn.{Shared}
use denote.Ref.{Bor}
use Rattle.g_rules.specs.declared.tariff.Charge.{Charge}
use Rattle.g_rules.specs.declared.tariff.Usage.{Usage}
use Rattle.g_console.specs.Transcript.{Request, Transcript, blank, lines_typed}
use Rattle.g_io.specs.Streams.{with_more}
use Rattle.g_lines.specs.Documents.{IsOneLine}
use Rattle.g_lines.specs.Lines.{text_of}
use Rattle.g_rules.specs.declared.rule.Standing.{Standing}
use Rattle.g_script.specs.Script.{WrittenItem, item_lines, timed_said}
use Rattle.g_script.specs.declared.operator.Timed.{Timed}
use Rattle.g_store_model.specs.State.{State}
use Rattle.g_run_model.specs.Devices.{Devices}
use Rattle.g_run_model.specs.Moves.{Move, MovesCounted, Run}
use Rattle.g_run_model.specs.World.{World, start}
use Rattle.g_day.specs.Parts.{Matches, Seen}
use Rattle.g_day.specs.Losses.{LeftAfter, Never}
use Rattle.g_day.specs.System.{Down, StandsAs, SystemFacts, SystemSafe, devices_in}
use Rattle.g_ticks.specs.Tick.{IsBetween}
use Rattle.g_typing.specs.Reader.{Holds, is_skipped}
use Rattle.g_typing.specs.declared.item.ItemReader.{ItemReader}
use Rattle.g_typing.specs.declared.item.Place.TheVariants as place
use Rattle.g_laws_sessions.specs.Session.{AlwaysAnswers, Comes, Exchanges, IsOwed, Moment, first_refused, is_over, is_skipping, items_of, script_of, taken}

-- The systems for which it is stated what a power loss leaves: the safe ones; none if the disc is only imagined, as when starting over.
abbrev pub Claimed : Bool → SystemFacts → Type 0
Claimed true = SystemSafe
Claimed false = Never

module _ {F U : Type 0} (tariffs : Shared F (Bor Usage × Unit {0}) Charge) (tariff : F) (rules : Shared U (Bor Standing × Unit {0}) ℕ) (rule : U) where
  -- THE EXCHANGES SO FAR, from a state for which the devices stood when the session began
  pub record SoFar (s : State) (real : Bool) (old : Devices) (done : List Timed) (bad : Option ℕ) (seen : Seen) (log0 log : Option (List ℕ)) : Type 0 where
    pub said : Exchanges
    pub now : Moment
    pub comes : Comes tariffs tariff rules rule s said now
    pub matches : Matches now.world seen
    pub between : IsBetween now.world
    pub none_bad : now.world.bad ≡ None
    pub counted : MovesCounted now.moves now.world.disc_stops now.world.tape_stops old (devices_in seen.system)
    pub taken_is : taken said ≡ done
    pub first : bad ≡ first_refused said
    pub log_is : log ≡ with_more log0 (script_of said)
    pub one_lines : All IsOneLine (flat_map item_lines (items_of said))
    pub safe : Claimed real (Down old) → Claimed real seen.system
    pub left : Claimed real (Down old) → LeftAfter tariffs tariff rules rule (start (taken said) None s) now.moves now.world (Down old) seen.system

  -- BETWEEN TWO LINES: these lines came and were not replied to. The transcript matters if the console exposed a blank one when the session began.
  pub record Stands (s : State) (real : Bool) (old : Devices) (done : List Timed) (bad : Option ℕ) (seen : Seen) (reader : ItemReader) (number : ℕ) (unreplied : List (List ℕ))
      (from transcript : Option Transcript) (log0 log : Option (List ℕ)) : Type 0 where
    pub so_far : SoFar s real old done bad seen log0 log
    pub going : is_over so_far.said ≡ false
    pub pending : List (List ℕ)
    pub holds : Holds seen.count pending reader
    pub skipping : is_skipping so_far.said ≡ is_skipped reader.place
    pub job : (k : ℕ) → reader.place ≡ place.Document k → k ≡ length so_far.now.lines + 1
    pub number_is : number ≡ length so_far.now.lines + length pending + 1
    pub lines : from ≡ Some blank → (t : Transcript) → transcript ≡ Some t → lines_typed t.requests ≡ so_far.now.lines ++ (pending ++ unreplied)
    pub text : from ≡ Some blank → (t : Transcript) → transcript ≡ Some t → t.text ≡ so_far.now.text
    pub answers : from ≡ Some blank → (t : Transcript) → transcript ≡ Some t → AlwaysAnswers tariffs tariff rules rule s t
    pub printed : from ≡ Some blank → (t : Transcript) → transcript ≡ Some t → All (λ (r : Request). r.printed ≤ length t.text) t.requests

  -- NO MORE LINES ARE REQUESTED: of the lines that were typed, only a document that is skipped has no exchange
  pub record Last (s : State) (real : Bool) (old : Devices) (done : List Timed) (bad : Option ℕ) (seen : Seen) (from transcript : Option Transcript) (log0 log : Option (List ℕ)) : Type 0 where
    pub so_far : SoFar s real old done bad seen log0 log
    pub skipped : List (List ℕ)
    pub rest_is : (is_skipping so_far.said ≡ false → skipped ≡ []) × All (λ line. line ≢ codes "****") skipped
    pub lines : from ≡ Some blank → (t : Transcript) → transcript ≡ Some t → lines_typed t.requests ≡ so_far.now.lines ++ skipped
    pub text : from ≡ Some blank → (t : Transcript) → transcript ≡ Some t → t.text ≡ so_far.now.text
    pub answers : from ≡ Some blank → (t : Transcript) → transcript ≡ Some t → AlwaysAnswers tariffs tariff rules rule s t
    pub printed : from ≡ Some blank → (t : Transcript) → transcript ≡ Some t → All (λ (r : Request). r.printed ≤ length t.text) t.requests

  -- CUT SHORT, before the system is taken down
  pub record Broken (s : State) (real : Bool) (old : Devices) (system : SystemFacts) (from transcript : Option Transcript) (log0 log : Option (List ℕ)) : Type 0 where
    pub said : Exchanges
    pub now : Moment
    pub comes : Comes tariffs tariff rules rule s said now
    pub more : List WrittenItem
    pub one : length more ≤ 1
    pub moves : List Move
    pub last : World
    pub run : Run tariffs tariff rules rule (start (taken said ++ map timed_said more) None s) moves last
    pub counted : MovesCounted moves last.disc_stops last.tape_stops old (devices_in system)
    pub stands : StandsAs system last.store
    pub rest : List ℕ
    pub told : last.text ≡ now.world.text ++ rest
    pub owed : List ℕ
    pub own : IsOwed now.world owed rest
    pub lines : from ≡ Some blank → (t : Transcript) → transcript ≡ Some t → (later : List (List ℕ)) × (lines_typed t.requests ≡ now.lines ++ later)
    pub put : from ≡ Some blank → (t : Transcript) → transcript ≡ Some t → (k : ℕ) × (k ≤ length owed) × (t.text ≡ now.text ++ take k owed)
    pub answers : from ≡ Some blank → (t : Transcript) → transcript ≡ Some t → AlwaysAnswers tariffs tariff rules rule s t
    pub log_is : (log ≡ with_more log0 (script_of said ++ text_of (flat_map item_lines more)))
        ⊎ ((more ≡ []) × ((next : WrittenItem) × (k : ℕ) × (log ≡ with_more log0 (script_of said ++ take k (text_of (item_lines next))))))
    pub safe : Claimed real (Down old) → Claimed real system
    pub left : Claimed real (Down old) → LeftAfter tariffs tariff rules rule (start (taken said ++ map timed_said more) None s) moves last (Down old) system
