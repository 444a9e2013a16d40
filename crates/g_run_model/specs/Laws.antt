-- The laws of a run, about the same moves.
use Rattle.std.specs.Prelude.{◌≡◌, ◌⊎◌, ℕ, ◌+◌, ◌-◌, ◌≤◌, ◌<◌, ◌==◌, Bool, true, false, List, [], ◌∷◌, ◌++◌, length, take, sum_by, All, filter, Option, Some, None, IfSome, if◌then◌else◌}
use Rattle.std.specs.Fn.{Shared}
use denote.Ref.{Bor}
use Rattle.g_rules.specs.declared.tariff.Usage.{Usage}
use Rattle.g_rules.specs.declared.tariff.Charge.{Charge}
use Rattle.g_rules.specs.declared.rule.Standing.{Standing}
use Rattle.g_rules.specs.Tariff.{IsTariff}
use Rattle.g_rules.specs.Rule.{IsWeighRule}
use Rattle.std.specs.FinMap.{get}
use Rattle.g_name.specs.declared.full.Full.{Full}
use Rattle.g_plain.specs.PlainTree.{FileRow, Tree, formatted}
use Rattle.g_plain.specs.PlainStep.{plain_tree}
use Rattle.g_plain.specs.declared.calls.StoreCall.{StoreCall}
use Rattle.g_plain.specs.Programs.{Answer, Asks, Gives, Call}
use Rattle.g_turn.specs.State.{Work}
use Rattle.g_job.specs.State.{JobState}
use Rattle.g_store_model.specs.State.{State, OpenDump, Dumped}
use Rattle.std.specs.List.{list_all}
use Rattle.g_store_model.specs.Rising.{has_none}
use Rattle.g_store_model.specs.CallStep.{Outcome, Plain}
use Rattle.g_script.specs.declared.operator.Operator.{Operator}
use Rattle.g_script.specs.declared.operator.Operator.TheVariants as line
use Rattle.g_script.specs.declared.operator.Timed.{Timed}
use Rattle.g_run_model.specs.Accounts.{tree_of}
use Rattle.g_run_model.specs.Lines.{is_up}
use Rattle.g_run_model.specs.World.{World, start, job_of}
use Rattle.g_run_model.specs.Moves.{Move, TakeLine, Dumped as DumpMove, Answered, TurnOver, Step, Run, outcome_of}
use Rattle.g_plain.specs.PlainAnswers.{PlainOrDevice}

-- The tree that a line installs instead of the current one.
abbrev pub tree_of_dump : Option Dumped → Option Tree → Option Tree
tree_of_dump None tree = tree
tree_of_dump (Some d) tree = Some d.tree

-- The tree after a line that brings the system up, if it succeeds; otherwise the current tree.
abbrev pub tree_by_line : Operator → State → Option Tree
tree_by_line line.Format s = Some formatted
tree_by_line line.Restore s = tree_of_dump s.dumped (tree_of s)
tree_by_line what s = tree_of s

-- The tree after the next line, which can replace it only while the system is down.
abbrev pub tree_by_lines : List Timed → State → Option Tree
tree_by_lines [] s = tree_of s
tree_by_lines (next ∷ lines) s = if s.up then tree_of s else tree_by_line next.what s

-- The tree after a call of the job, if it is granted.
abbrev pub tree_by_call : Option Tree → Option JobState → StoreCall → Option Tree
tree_by_call (Some tree) (Some job) call = Some (plain_tree tree job.user call)
tree_by_call tree job call = tree

-- The tree after the next call of a turn's program, if there is one.
abbrev pub tree_by_turn : World → Option (ℕ × Asks Work) → Option Tree
tree_by_turn w None = tree_of w.store
tree_by_turn w (Some (number, Gives work)) = tree_of w.store
tree_by_turn w (Some (number, Call call more)) = tree_by_call (tree_of w.store) (job_of w number) call

-- The tree after a move that isn't stopped: that of a granted call, the initial one, the dumped one, otherwise the same.
abbrev pub tree_behind : World → Move → Option Tree
tree_behind w (TakeLine tape o) = tree_by_lines w.lines w.store
tree_behind w (Answered o) = tree_by_turn w w.turn
tree_behind w move = tree_of w.store

-- The move installs no other tree, for any outcome.
abbrev pub LeavesTree : World → Move → Type 0
LeavesTree w move = tree_behind w move ≡ tree_of w.store

-- Whether the line is a MOUNT.
abbrev pub is_mount : Timed → Bool
is_mount next = by next.what
  where
    by : Operator → Bool
    by (line.Mount serial) = true
    by what = false

-- Whether the move takes a PROCESS line.
abbrev pub takes_process : Move → Bool
takes_process (TakeLine tape o) = tape
takes_process move = false

-- The lines that were done, among the original ones.
abbrev pub lines_done : List Timed → World → List Timed
lines_done lines w = take (length lines - length w.lines) lines

-- A job that is accepted has a TIME within its limits.
abbrev pub IsTimed : Timed → Type 0
IsTimed next = by next.what
  where
    by : Operator → Type 0
    by (line.Job name user time money lines) = (1 ≤ time) × (time ≤ 1000000)
    by (line.Login t user time) = (1 ≤ time) × (time ≤ 1000000)
    by what = Unit {0}

-- Every job of these lines has a TIME within its limits.
abbrev pub AreTimed : List Timed → Type 0
AreTimed lines = All IsTimed lines

-- Whether a move ends a turn of this job, without a charge or with one.
abbrev pub free_in : ℕ → Move → ℕ
free_in number (TurnOver n None) = if n == number then 1 else 0
free_in number move = 0

-- Whether a move ends a turn of this job with a charge, as 1 or 0.
abbrev pub charged_in : ℕ → Move → ℕ
charged_in number (TurnOver n (Some charge)) = if n == number then 1 else 0
charged_in number move = 0

-- No device failed in the move.
abbrev pub IsPlain : Move → Type 0
IsPlain move = outcome_of move ≡ Plain

-- If a reel has a dump, a tree is dumped. This is so if the devices belong together; otherwise the definition leaves open
-- what RESTORE names as lost.
abbrev pub HasDumped : State → Type 0
HasDumped s = s.dumped ≡ None → list_all has_none s.reels ≡ true

-- Every file has at most 65,536 bytes, which is so in each tree that a disc or a dump holds: in the current tree, in the
-- dumped one, and in that of the open dump.
abbrev pub IsShort : Tree → Type 0
IsShort tree = (full : Full) (row : FileRow) → get tree.files full ≡ Some row → length row.bytes ≤ 65536

-- Every file of the trees of the state has at most 65,536 bytes.
pub record AreShort (s : State) : Type 0 where
  pub held : IfSome s.holding (λ k. IsShort k.tree)
  pub dumped : IfSome s.dumped (λ d. IsShort d.tree)
  pub opened : IfSome s.open_dump (λ d. IsShort d.tree)

-- The charges of a run's turns, in order.
abbrev pub charges_of : List Move → List (Option Charge)
charges_of [] = []
charges_of (TurnOver number charge ∷ moves) = charge ∷ charges_of moves
charges_of (move ∷ moves) = charges_of moves

module _ {F U : Type 0} (tariffs : Shared F (Bor Usage × Unit {0}) Charge) (tariff : F) (rules : Shared U (Bor Standing × Unit {0}) ℕ) (rule : U) where
  -- Each call is answered as on a plain file tree, or by a wait or a device: the job's answer, and the trees before and
  -- after it.
  abbrev pub AnswersArePlain : Type 0
  AnswersArePlain = (w new : World) (o : Outcome) (tree : Tree) → Step tariffs tariff rules rule w (Answered o) new → tree_of w.store ≡ Some tree
      → (number : ℕ) × (call : StoreCall) × (more : Answer → Asks Work) × (job : JobState) × (answer : Answer) × (after : Tree)
      × (w.turn ≡ Some (number, Call call more)) × (job_of w number ≡ Some job) × PlainOrDevice tree job.user call answer after
      × (tree_of new.store ≡ Some after) × (new.turn ≡ Some (number, more answer))

  -- Each move either leaves the tree unchanged, or changes it completely, as `tree_behind` says. This also holds for an
  -- interrupted move.
  abbrev pub AllOrNothing : Type 0
  AllOrNothing = (w new : World) (move : Move) → Step tariffs tariff rules rule w move new
      → (tree_of new.store ≡ tree_of w.store) ⊎ (tree_of new.store ≡ tree_behind w move)

  -- A line that brings the system up leaves exactly the right tree: START the current one, RESTORE the dumped one, FORMAT
  -- the initial one.
  abbrev pub RisesOn : Type 0
  RisesOn = (w new : World) (tape : Bool) (o : Outcome) → Step tariffs tariff rules rule w (TakeLine tape o) new → is_up w ≡ false → is_up new ≡ true
      → tree_of new.store ≡ tree_behind w (TakeLine tape o)

  -- A run of moves none of which installs another tree.
  abbrev pub RunLeaving : World → List Move → World → Type 0
  RunLeaving w [] new = new ≡ w
  RunLeaving w (move ∷ moves) new = (mid : World) × LeavesTree w move × Step tariffs tariff rules rule w move mid × RunLeaving mid moves new

  -- After a move that stopped the system, and lines with a START but no FORMAT or RESTORE, the tree is that before the move
  -- or after it: it has every answered call, and the interrupted one completely or not at all.
  abbrev pub StartHasTheTree : Type 0
  StartHasTheTree = (before cut up : World) (move : Move) (moves : List Move) → is_up before ≡ true → Step tariffs tariff rules rule before move cut
      → is_up cut ≡ false → RunLeaving cut moves up → (tree_of up.store ≡ tree_of before.store) ⊎ (tree_of up.store ≡ tree_behind before move)

  -- A DUMP among these moves opened the dump on this tree.
  pub record OpenedIn (begin : World) (moves : List Move) (dumped : Dumped) : Type 0 where
    pub front : List Move
    pub back : List Move
    pub tape : Bool
    pub outcome : Outcome
    pub before : World
    pub opened : World
    pub dump : OpenDump
    pub moves_are : moves ≡ front ++ (TakeLine tape outcome ∷ back)
    pub run : Run tariffs tariff rules rule begin front before
    pub step : Step tariffs tariff rules rule before (TakeLine tape outcome) opened
    pub none : before.store.open_dump ≡ None
    pub dump_is : opened.store.open_dump ≡ Some dump
    pub number : dumped.number ≡ dump.number
    pub tree : tree_of before.store ≡ Some dumped.tree

  -- A PROCESS among these moves wrote the dump, of this tree.
  pub record ProcessedIn (begin : World) (moves : List Move) (dumped : Dumped) : Type 0 where
    pub front : List Move
    pub back : List Move
    pub outcome : Outcome
    pub before : World
    pub behind : World
    pub moves_are : moves ≡ front ++ (TakeLine true outcome ∷ back)
    pub run : Run tariffs tariff rules rule begin front before
    pub step : Step tariffs tariff rules rule before (TakeLine true outcome) behind
    pub dumped_is : behind.store.dumped ≡ Some dumped
    pub tree : tree_of before.store ≡ Some dumped.tree

  -- The dumped tree, which RESTORE brings back, is the one that was dumped when the run began, or the one on which a DUMP
  -- of the run opened, or the one that a PROCESS of the run met.
  abbrev pub DumpedIsOpened : Type 0
  DumpedIsOpened = (lines : List Timed) (bad : Option ℕ) (s : State) (moves : List Move) (last : World) → s.open_dump ≡ None → Run tariffs tariff rules rule (start lines bad s) moves last
      → (last.store.dumped ≡ s.dumped)
      ⊎ ((dumped : Dumped) × (last.store.dumped ≡ Some dumped) × (OpenedIn (start lines bad s) moves dumped ⊎ ProcessedIn (start lines bad s) moves dumped))

  -- A run that is over has no further move.
  abbrev pub NothingBehindOver : Type 0
  NothingBehindOver = (lines : List Timed) (bad : Option ℕ) (s : State) (moves : List Move) (last new : World) (move : Move)
      → Run tariffs tariff rules rule (start lines bad s) moves last → last.over ≡ true → Step tariffs tariff rules rule last move new → ⊥

  -- A job has at most its allowance of charged turns, and at most one more free turn than there were MOUNT lines.
  abbrev pub RunsEnd : Type 0
  RunsEnd = (lines : List Timed) (bad : Option ℕ) (s : State) (moves : List Move) (last : World) → IsTariff tariffs tariff → AreTimed lines → AreShort s
      → Run tariffs tariff rules rule (start lines bad s) moves last → (number : ℕ)
      → (sum_by (free_in number) moves ≤ 1 + length (filter is_mount (lines_done lines last)))
      × ((front back : List Move) (w : World) (job : JobState) → moves ≡ front ++ back → Run tariffs tariff rules rule (start lines bad s) front w → Run tariffs tariff rules rule w back last
      → job_of w number ≡ Some job → sum_by (charged_in number) moves ≤ job.allowance)

  -- An open dump has a step left, and each step is one of those that it needs.
  abbrev pub DumpsEnd : Type 0
  DumpsEnd = (w new : World) (o : Outcome) (dump : OpenDump) → w.store.open_dump ≡ Some dump → Step tariffs tariff rules rule w (DumpMove o) new
      → (new.store.open_dump ≡ None) ⊎ ((dump.done + 1 < dump.needs) × (new.store.open_dump ≡ Some (record dump { done = dump.done + 1 })))

  -- If no fault counter rose, the text is determined by the script, the initial state of the devices, the charges and the
  -- weigh rule.
  abbrev pub OneText : Type 0
  OneText = (lines : List Timed) (bad : Option ℕ) (s : State) (moves others : List Move) (last other : World) → IsWeighRule rules rule → AreTimed lines → HasDumped s
      → Run tariffs tariff rules rule (start lines bad s) moves last → Run tariffs tariff rules rule (start lines bad s) others other
      → last.over ≡ true → other.over ≡ true → All IsPlain moves → All IsPlain others → charges_of moves ≡ charges_of others → last.text ≡ other.text
