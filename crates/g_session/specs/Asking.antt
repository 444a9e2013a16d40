-- A REQUEST for a line of a console, what came of it, and the reply to the line. Internal: public contracts cite `Session` only.
use Rattle.std.specs.Prelude.{◌≡◌, ◌⊎◌, ◌≤◌, ℕ, List, Option, Ok, length}
use Rattle.g_base.specs.Counts.{Rose}
use Rattle.g_console.specs.Transcript.{Continues, End, Failed, IsLineTaken, Line, Transcript}
use Rattle.g_typing.specs.Reader.{Holds, Replies}
use Rattle.g_typing.specs.declared.item.ItemReader.{ItemReader}
use Rattle.g_session.specs.declared.asking.Heard.{Heard}
use Rattle.g_session.specs.declared.asking.Heard.TheVariants as heard
use Rattle.g_session.specs.declared.asking.Requested.{Requested}
use Rattle.g_session.specs.declared.asking.Requested.TheVariants as requested

abbrev pub IsRequested : Option Transcript → Requested → List ℕ → Option Transcript → Type 0
IsRequested before (requested.Line n) into after = (n ≤ length into) × IsLineTaken before n into after
IsRequested before requested.End into after = Continues before End after
IsRequested before requested.Failed into after = Continues before Failed after

abbrev pub RequestCause : Requested → ℕ → ℕ → Type 0
RequestCause requested.Failed old new = Rose old new
RequestCause answer old new = new ≡ old

-- a line came, or none, and the reader replied to it
abbrev pub Hears : Option Transcript → ItemReader → ℕ → ℕ → Heard → Option Transcript → ItemReader → Type 0
Hears before old number count (heard.Reply reply) after new =
    (line : List ℕ) × Continues before (Line line) after × ((lines : List (List ℕ)) → Holds count lines old → Replies old.place number count lines line (Ok reply) new)
Hears before old number count heard.End after new = Continues before End after × (new ≡ old)
Hears before old number count heard.Failed after new = Continues before Failed after × (new ≡ old)
Hears before old number count heard.NoMemory after new = (after ≡ before) ⊎ ((line : List ℕ) × Continues before (Line line) after)

abbrev pub HearingCause : Heard → ℕ → ℕ → Type 0
HearingCause heard.Failed old new = Rose old new
HearingCause answer old new = new ≡ old
