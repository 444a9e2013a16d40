-- A CONSOLE IN MEMORY: its transcript, while it exposes one, and its count of faults.
use Rattle.std.specs.Prelude.{◌≡◌, ℕ, Bool, true, false, List, [], ◌∷◌, ◌++◌, Option, Some, None, if◌then◌else◌, map}
use Rattle.g_console.specs.Transcript.{End, Failed, Line, Request, Transcript, Typed, blank, lines_typed}
use Rattle.g_lines.specs.Lines.{lines_of}
use Rattle.g_memory_console.specs.declared.memory.Noted.{Noted}

-- The transcript, or None if memory for it ran out; the number of failed calls; the input, and the bytes of it that are still to be typed.
pub record ConsoleView : Type 0 where
  pub transcript : Option Transcript
  pub faults : ℕ
  pub input : List ℕ
  pub left : List ℕ

-- a new console, at which these bytes will be typed
abbrev pub new_console : List ℕ → ConsoleView
new_console input = record { transcript = Some blank; faults = 0; input = input; left = input }

-- a line, or none
abbrev pub typed_of : Option (List ℕ) → Typed
typed_of None = End
typed_of (Some line) = Line line

abbrev pub request_of : Noted → Request
request_of n = record { printed = n.printed; typed = typed_of n.line }

-- the transcript, while it is exposed
abbrev pub shown : Bool → List Noted → List ℕ → Option Transcript
shown true requests text = Some (record { requests = map request_of requests; text = text })
shown false requests text = None

-- a request for which this came, before and after which these bytes of the input were left
abbrev pub Leaves : Typed → List ℕ → List ℕ → Type 0
Leaves (Line line) before after = lines_of before ≡ line ∷ lines_of after
Leaves End before after = (before ≡ []) × (after ≡ [])
Leaves Failed before after = after ≡ before

-- whether a request found that no more lines come
abbrev pub is_end : Typed → Bool
is_end End = true
is_end other = false

abbrev pub found_end : List Request → Bool
found_end [] = false
found_end (r ∷ requests) = if is_end r.typed then true else found_end requests

-- THE LINES THAT CAME are the first lines of the input, in order; if a request found that no more come, they are all its lines
pub record AreFirst (input left : List ℕ) (requests : List Request) : Type 0 where
  pub lines : lines_of input ≡ lines_typed requests ++ lines_of left
  pub all : found_end requests ≡ true → left ≡ []

-- as long as the transcript is exposed
abbrev pub AreFirstWhile : Bool → List ℕ → List ℕ → List Noted → Type 0
AreFirstWhile true input left requests = AreFirst input left (map request_of requests)
AreFirstWhile false input left requests = Unit {0}
