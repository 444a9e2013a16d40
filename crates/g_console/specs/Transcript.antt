-- THE TRANSCRIPT of a console: each request for a line with its outcome, and the text that was printed before, between and after them.
use Rattle.std.specs.Prelude.{◌≡◌, ◌≢◌, ◌⊎◌, ℕ, List, [], ◌∷◌, ◌++◌, All, Option, Some, None, length, take}
use Rattle.std.specs.List.{flat_map}

-- the outcome of a request for a line: a line was typed; no more lines come; the request failed
pub data Typed : Type 0 where
  Line : List ℕ → Typed
  End : Typed
  Failed : Typed

-- a request, and how many bytes had been printed before it
pub record Request : Type 0 where
  pub printed : ℕ
  pub typed : Typed

pub record Transcript : Type 0 where
  pub requests : List Request
  pub text : List ℕ

-- the transcript of a new console
abbrev pub blank : Transcript
blank = record { requests = []; text = [] }

abbrev pub printing : List ℕ → Transcript → Transcript
printing more t = record t { text = t.text ++ more }

abbrev pub requesting : Typed → Transcript → Transcript
requesting typed t = record t { requests = t.requests ++ record { printed = length t.text; typed = typed } ∷ [] }

abbrev pub line_in : Typed → List (List ℕ)
line_in (Line line) = line ∷ []
line_in End = []
line_in Failed = []

-- the lines that were typed
abbrev pub lines_typed : List Request → List (List ℕ)
lines_typed requests = flat_map (λ (r : Request). line_in r.typed) requests

-- THE TRANSCRIPT AS ONE LIST, the requests first: if a sink's contract says that this list became longer at its end, only text was printed
abbrev pub typed_codes : Typed → List ℕ
typed_codes (Line line) = 0 ∷ length line ∷ line
typed_codes End = 1 ∷ []
typed_codes Failed = 2 ∷ []

abbrev pub request_codes : Request → List ℕ
request_codes r = r.printed ∷ typed_codes r.typed

abbrev pub written_of : Transcript → List ℕ
written_of t = length t.requests ∷ (flat_map request_codes t.requests ++ t.text)

-- A LINE WAS REQUESTED when these lines had been typed and this text had been printed
pub record Requested (t : Transcript) (lines : List (List ℕ)) (text : List ℕ) : Type 0 where
  pub before : List Request
  pub request : Request
  pub later : List Request
  pub requests : t.requests ≡ before ++ request ∷ later
  pub lines_are : lines ≡ lines_typed before
  pub text_is : text ≡ take request.printed t.text

-- a console that exposes its transcript has one more request in it, or stops exposing it
abbrev pub Continues : Option Transcript → Typed → Option Transcript → Type 0
Continues None typed after = after ≡ None
Continues (Some t) typed after = (after ≡ None) ⊎ (after ≡ Some (requesting typed t))

-- a line was taken, or as much of it as fits a buffer
pub record IsLineTaken (before : Option Transcript) (n : ℕ) (into : List ℕ) (after : Option Transcript) : Type 0 where
  pub line : List ℕ
  pub one_line : All (λ byte. byte ≢ 10) line
  pub bytes : take n into ≡ take (length into) line
  pub continues : Continues before (Line line) after

-- a line was taken, or no more come
abbrev pub IsTaken : Option Transcript → Option ℕ → List ℕ → Option Transcript → Type 0
IsTaken before (Some n) into after = IsLineTaken before n into after
IsTaken before None into after = Continues before End after

-- A SINK'S CONTRACT about a console's transcript: if its list is longer by some bytes, these were printed, and no line was requested
abbrev pub OnlyPrinted : Type 0
OnlyPrinted = (old new : Transcript) (more : List ℕ) → written_of new ≡ written_of old ++ more → new ≡ printing more old
