-- The place of the code's reader as a state of the reader of lines.
use Rattle.std.specs.Prelude.{◌≡◌, ◌≤◌, ℕ, List, Option, Some, None, drop, length}
use Rattle.g_lang.specs.LineReader as how
use Rattle.g_lang.specs.LineReader.{State, Next}
use Rattle.g_lang.specs.declared.reader.Behind.{Behind}
use Rattle.g_lang.specs.declared.reader.Behind.TheVariants as behind
use Rattle.g_lang.specs.declared.reader.Place.{Place}
use Rattle.g_lang.specs.declared.reader.Place.TheVariants as place

-- What follows a fixed text, as a value of the reader of lines.
abbrev pub next_of : Behind → Next
next_of behind.Test = how.ATest
next_of behind.Comma = how.AComma
next_of behind.Text = how.AText
next_of (behind.Letter equals) = how.ALetter equals

-- The place of the text where the reader's word begins; 0 if the reader is in no word.
abbrev pub word_start : Place → ℕ
word_start (place.Word start inner) = start
word_start here = 0

-- The reader's state after a text, by its place.
abbrev pub state_of : List ℕ → Place → State
state_of text place.Front = how.Front
state_of text (place.Label count) = how.InLabel count
state_of text place.Gap = how.Gap
state_of text (place.Word start inner) = how.Word (drop start text) inner
state_of text (place.Condition negated) = how.ATestFrom negated
state_of text (place.Fixed byte rest next) = how.Fixed byte rest.now (next_of next)
state_of text (place.Letter equals) = how.Letter equals
state_of text place.Text = how.InText
state_of text place.BeforeComma = how.BeforeComma
state_of text place.BeforeLabel = how.ALabel
state_of text (place.Goto count) = how.InGoto count
state_of text place.Back = how.Back
state_of text place.VerbGap = how.VerbGap
state_of text (place.Params depth) = how.Params depth

-- The number of open brackets in a state.
abbrev pub depth_of : State → ℕ
depth_of (how.Params depth) = depth
depth_of s = 0

-- After this text the reader continues as expected.
abbrev pub Steps : Option State → List ℕ → Option Place → Type 0
Steps expected text None = expected ≡ None
Steps expected text (Some here) = (expected ≡ Some (state_of text here)) × (word_start here ≤ length text)

-- After any text the reader continues as expected.
abbrev pub Goes : Option State → Option Place → Type 0
Goes expected result = (text : List ℕ) → Steps expected text result
