-- A SESSION: what was typed at a console, exchange by exchange, and what was printed for each before the next line was requested.
use Rattle.std.specs.Prelude.{◌≡◌, ◌≢◌, ◌⊎◌, ◌+◌, ◌≤◌, ℕ, Bool, true, false, List, [], ◌∷◌, ◌++◌, length, map, take, All, Option, Some, None, codes}
use Rattle.std.specs.List.{flat_map}
use Rattle.std.specs.Fn.{Shared}
use denote.Ref.{Bor}
use Rattle.g_rules.specs.declared.tariff.Charge.{Charge}
use Rattle.g_rules.specs.declared.tariff.Usage.{Usage}
use Rattle.g_console.specs.Transcript.{Requested, Transcript, lines_typed}
use Rattle.g_io.specs.Streams.{with_more}
use Rattle.g_lines.specs.Lines.{lines_of, text_of}
use Rattle.g_rules.specs.declared.rule.Standing.{Standing}
use Rattle.g_script.specs.Script.{IsParsed, WrittenItem, item_lines, timed_said}
use Rattle.g_script.specs.declared.operator.Timed.{Timed}
use Rattle.g_store_model.specs.CallStep.{Outcome}
use Rattle.g_store_model.specs.State.{State}
use Rattle.g_run_model.specs.Devices.{Devices, StandFor}
use Rattle.g_run_model.specs.Moves.{Move, Run, TakeLine}
use Rattle.g_run_model.specs.Top.{RunOf}
use Rattle.g_run_model.specs.World.{Between, World, nothing_steps, start}
use Rattle.g_typing.specs.Typed.{AtOnce, AtTime, BeginsDocument, CanFollow, IsQuery, IsTyped, IsUnasked, IsUnfinished, When, first_of}
use Rattle.g_typing.specs.declared.query.Query.{Query}
pub use Rattle.g_laws_sessions.specs.Asked.{IsAnswer, refusal_line, tick_line}

-- what became of typed lines: an item was taken; an empty line let the system run until nothing could step; a question was answered; a line was refused,
-- and whether a document follows it; that document was skipped; a document was open when no more lines came, and its JOB line was refused
pub data Exchange : Type 0 where
  Took : WrittenItem → When → Exchange
  Rested : Exchange
  Asked : Query → Exchange
  Refused : ℕ → Bool → Exchange
  Skipped : Exchange
  Unclosed : ℕ → Exchange

-- in order, the last one outside
pub data Exchanges : Type 0 where
  Nothing : Exchanges
  Then : Exchanges → Exchange → Exchanges

-- THE SCRIPT of a session: the items that were taken
abbrev pub item_in : Exchange → List WrittenItem
item_in (Took item when) = item ∷ []
item_in exchange = []

abbrev pub items_of : Exchanges → List WrittenItem
items_of Nothing = []
items_of (Then said exchange) = items_of said ++ item_in exchange

abbrev pub taken : Exchanges → List Timed
taken said = map timed_said (items_of said)

abbrev pub script_of : Exchanges → List ℕ
script_of said = text_of (flat_map item_lines (items_of said))

-- the first line that was refused
abbrev pub refusal_in : Exchange → Option ℕ
refusal_in (Refused k skips) = Some k
refusal_in (Unclosed k) = Some k
refusal_in exchange = None

abbrev pub or_else : Option ℕ → Option ℕ → Option ℕ
or_else None later = later
or_else (Some k) later = Some k

abbrev pub first_refused : Exchanges → Option ℕ
first_refused Nothing = None
first_refused (Then said exchange) = or_else (first_refused said) (refusal_in exchange)

-- the document of a refused line is still to be skipped
abbrev pub is_skipping : Exchanges → Bool
is_skipping Nothing = false
is_skipping (Then said exchange) = by exchange
  where
    by : Exchange → Bool
    by (Refused k skips) = skips
    by exchange = false

-- no more lines came while a document was open
abbrev pub is_over : Exchanges → Bool
is_over Nothing = false
is_over (Then said exchange) = by exchange
  where
    by : Exchange → Bool
    by (Unclosed k) = true
    by exchange = false

-- an exchange may follow others: a document is skipped exactly after the refused line that it follows, and nothing follows an open one
abbrev pub MayFollow : Exchanges → Exchange → Type 0
MayFollow said Skipped = is_skipping said ≡ true
MayFollow said exchange = (is_skipping said ≡ false) × (is_over said ≡ false)

-- A MOMENT of a session: the world, the moves that led to it, the lines whose exchange is over, and the text that was printed
pub record Moment : Type 0 where
  pub world : World
  pub moves : List Move
  pub lines : List (List ℕ)
  pub text : List ℕ

abbrev pub beginning : State → Moment
beginning s = record { world = start [] None s; moves = []; lines = []; text = [] }

-- a question is answered, and nothing else happens
pub record Asks (q : Query) (before after : Moment) : Type 0 where
  pub line : List ℕ
  pub asks : IsQuery line q
  pub answer : List ℕ
  pub answers : IsAnswer q before.world answer
  pub after_is : after ≡ record before { lines = before.lines ++ line ∷ []; text = before.text ++ answer }

-- a line is refused, the k-th that was typed; the lines before it begin an item, and none continues with it
pub record RefusesLine (k : ℕ) (skips : Bool) (before after : Moment) : Type 0 where
  pub front : List (List ℕ)
  pub line : List ℕ
  pub begun : IsUnfinished before.world.count front
  pub some : front ≡ [] → line ≢ []
  pub unasked : front ≡ [] → IsUnasked line
  pub bad : CanFollow before.world.count front line → ⊥
  pub document : (BeginsDocument (first_of front line) × (skips ≡ true)) ⊎ ((BeginsDocument (first_of front line) → ⊥) × (skips ≡ false))
  pub place : k ≡ length before.lines + length front + 1
  pub after_is : after ≡ record before { lines = before.lines ++ (front ++ line ∷ []); text = before.text ++ refusal_line k }

-- the document of a refused line is skipped, up to the line that ends it
pub record SkipsDocument (before after : Moment) : Type 0 where
  pub document : List (List ℕ)
  pub open_ones : All (λ line. line ≢ codes "****") document
  pub after_is : after ≡ record before { lines = before.lines ++ (document ++ codes "****" ∷ []) }

-- no more lines come, and a document is open: its JOB line is refused, the k-th that was typed
pub record LeavesUnclosed (k : ℕ) (before after : Moment) : Type 0 where
  pub front : List (List ℕ)
  pub some : front ≢ []
  pub begun : IsUnfinished before.world.count front
  pub place : k ≡ length before.lines + 1
  pub after_is : after ≡ record before { lines = before.lines ++ front; text = before.text ++ refusal_line k }

-- nothing happens after a line was taken
abbrev pub EndsWithLine : List Move → Type 0
EndsWithLine moves = (front : List Move) × (tape : Bool) × (outcome : Outcome) × (moves ≡ front ++ TakeLine tape outcome ∷ [])

-- what is owed after an exchange: what the run prints; the same and a line of the console's own; or the answer to a question
abbrev pub IsOwed : World → List ℕ → List ℕ → Type 0
IsOwed w owed rest = (owed ≡ rest) ⊎ (((n : ℕ) × ((owed ≡ rest ++ tick_line n) ⊎ (owed ≡ refusal_line n ++ rest))) ⊎ ((rest ≡ []) × ((q : Query) × IsAnswer q w owed)))

-- lines whose exchange isn't over: of an item that isn't complete, or of a document that is skipped
abbrev pub ArePending : Bool → ℕ → List (List ℕ) → Type 0
ArePending true count pending = All (λ line. line ≢ codes "****") pending
ArePending false count pending = IsUnfinished count pending

module _ {F U : Type 0} (tariffs : Shared F (Bor Usage × Unit {0}) Charge) (tariff : F) (rules : Shared U (Bor Standing × Unit {0}) ℕ) (rule : U) where
  -- a part of the run in which these lines are taken and this is printed; it ends between two ticks
  pub record Goes (lines : List Timed) (w : World) (moves : List Move) (next : World) (told : List ℕ) : Type 0 where
    pub run : (let v : World = record w { lines = lines } in Run tariffs tariff rules rule v moves next)
    pub none : next.lines ≡ []
    pub phase : next.phase ≡ Between
    pub turn : next.turn ≡ None
    pub going : next.over ≡ false
    pub text : next.text ≡ w.text ++ told

  -- an item is taken, when the count has come to its time or nothing can step; without a time everything runs after it until nothing can step,
  -- and with one nothing does
  pub record Takes (item : WrittenItem) (when : When) (before after : Moment) : Type 0 where
    pub typed : List (List ℕ)
    pub moves : List Move
    pub told : List ℕ
    pub is_typed : IsTyped before.world.count item when typed
    pub goes : Goes (timed_said item ∷ []) before.world moves after.world told
    pub rests : when ≡ AtOnce → nothing_steps after.world ≡ true
    pub holds : when ≡ AtTime → EndsWithLine moves
    pub moves_are : after.moves ≡ before.moves ++ moves
    pub lines : after.lines ≡ before.lines ++ typed
    pub text : after.text ≡ before.text ++ told

  -- an empty line
  pub record Rests (before after : Moment) : Type 0 where
    pub moves : List Move
    pub told : List ℕ
    pub goes : Goes [] before.world moves after.world told
    pub rests : nothing_steps after.world ≡ true
    pub moves_are : after.moves ≡ before.moves ++ moves
    pub lines : after.lines ≡ before.lines ++ [] ∷ []
    pub text : after.text ≡ (before.text ++ told) ++ tick_line after.world.count

  abbrev pub Exchanged : Exchange → Moment → Moment → Type 0
  Exchanged (Took item when) before after = Takes item when before after
  Exchanged Rested before after = Rests before after
  Exchanged (Asked q) before after = Asks q before after
  Exchanged (Refused k skips) before after = RefusesLine k skips before after
  Exchanged Skipped before after = SkipsDocument before after
  Exchanged (Unclosed k) before after = LeavesUnclosed k before after

  -- A SESSION COMES TO A MOMENT by these exchanges
  abbrev pub Comes : State → Exchanges → Moment → Type 0
  Comes s Nothing now = now ≡ beginning s
  Comes s (Then said exchange) now = (before : Moment) × Comes s said before × MayFollow said exchange × Exchanged exchange before now

  -- ALL LINES ARE ANSWERED, and nothing else is printed, except for lines of an item that isn't complete
  pub record IsAnswered (s : State) (lines : List (List ℕ)) (text : List ℕ) : Type 0 where
    pub said : Exchanges
    pub now : Moment
    pub comes : Comes s said now
    pub going : is_over said ≡ false
    pub pending : List (List ℕ)
    pub lines_are : lines ≡ now.lines ++ pending
    pub unfinished : ArePending (is_skipping said) now.world.count pending
    pub text_is : text ≡ now.text

  -- EACH TIME a line was requested, all lines before it were answered
  abbrev pub AlwaysAnswers : State → Transcript → Type 0
  AlwaysAnswers s t = (lines : List (List ℕ)) (text : List ℕ) → Requested t lines text → IsAnswered s lines text

  -- THE SESSION IS OVER, and it was the run of its script: what was printed, except for the console's own lines, is the text of that run, and the
  -- log is that script
  pub record IsOver (s : State) (old new : Devices) (t : Transcript) (before after : Option (List ℕ)) (bad : Option ℕ) : Type 0 where
    pub said : Exchanges
    pub now : Moment
    pub comes : Comes s said now
    pub skipped : List (List ℕ)
    pub lines : lines_typed t.requests ≡ now.lines ++ skipped
    pub rest_is : (is_skipping said ≡ false → skipped ≡ []) × All (λ line. line ≢ codes "****") skipped
    pub first : bad ≡ first_refused said
    pub moves : List Move
    pub last : World
    pub run_of : RunOf tariffs tariff rules rule (taken said) None s old new moves last
    pub over : last.over ≡ true
    pub rest : List ℕ
    pub told : last.text ≡ now.world.text ++ rest
    pub put : t.text ≡ now.text ++ rest
    pub log : after ≡ with_more before (script_of said)
    pub parsed : IsParsed (lines_of (script_of said)) (taken said) None

  -- CUT SHORT, by a failure of the console or the log, or because memory ran out: the items that were taken, and maybe the next one, are a script whose
  -- run was done as far as these moves, and of what it owed then a front was printed. The log has all of these items; or none of the next one was done, and the
  -- log has a front of it.
  pub record IsCutShort (s : State) (old new : Devices) (t : Transcript) (before after : Option (List ℕ)) : Type 0 where
    pub said : Exchanges
    pub now : Moment
    pub comes : Comes s said now
    pub later : List (List ℕ)
    pub lines : lines_typed t.requests ≡ now.lines ++ later
    pub more : List WrittenItem
    pub one : length more ≤ 1
    pub moves : List Move
    pub last : World
    pub run_of : RunOf tariffs tariff rules rule (taken said ++ map timed_said more) None s old new moves last
    pub rest : List ℕ
    pub told : last.text ≡ now.world.text ++ rest
    pub owed : List ℕ
    pub own : IsOwed now.world owed rest
    pub put : (k : ℕ) × (k ≤ length owed) × (t.text ≡ now.text ++ take k owed)
    pub log : (after ≡ with_more before (script_of said ++ text_of (flat_map item_lines more)))
        ⊎ ((more ≡ []) × ((next : WrittenItem) × (k : ℕ) × (after ≡ with_more before (script_of said ++ take k (text_of (item_lines next))))))

-- the pieces of a session's text: what the run printed, and the console's own lines
pub data Piece : Type 0 where
  Told : List ℕ → Piece
  Own : List ℕ → Piece

abbrev pub text_in : List Piece → List ℕ
text_in [] = []
text_in (Told text ∷ pieces) = text ++ text_in pieces
text_in (Own text ∷ pieces) = text ++ text_in pieces

abbrev pub told_in : List Piece → List ℕ
told_in [] = []
told_in (Told text ∷ pieces) = text ++ told_in pieces
told_in (Own text ∷ pieces) = told_in pieces

abbrev pub IsOwn : Piece → Type 0
IsOwn (Told text) = Unit {0}
IsOwn (Own text) = ((n : ℕ) × ((text ≡ tick_line n) ⊎ (text ≡ refusal_line n))) ⊎ ((q : Query) × ((w : World) × IsAnswer q w text))
