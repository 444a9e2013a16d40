-- What the reader of items holds, and what it answers to a line. Nobody has to believe this: a session's contract cites `Typed` only.
use Rattle.std.specs.Prelude.{◌≡◌, ◌≢◌, ◌⊎◌, ◌+◌, ◌≤◌, ℕ, max, Bool, true, false, List, [], ◌∷◌, ◌++◌, length, All, Option, Some, None, Result, Ok, Err, codes}
use Rattle.std.specs.Fmt.{decimal}
use Rattle.g_base.specs.declared.memory.NoMemory.{NoMemory}
use Rattle.g_lines.specs.Documents.{IsOneLine}
use Rattle.g_lines.specs.Lines.{lines_of, text_of}
use Rattle.g_script.specs.Script.{IsItem, IsOneItem, Job, WrittenItem, head_line, item_lines, timed_said, written_text}
use Rattle.g_script.specs.declared.operator.Timed.{Timed}
use Rattle.g_typing.specs.Typed.{AtOnce, AtTime, BeginsDocument, CanFollow, IsQuery, IsShort, IsTyped, IsUnasked, IsUnfinished, When, first_of, type_text}
use Rattle.g_typing.specs.declared.item.ItemReader.{ItemReader}
use Rattle.g_typing.specs.declared.item.Place.{Place}
use Rattle.g_typing.specs.declared.item.Place.TheVariants as place
use Rattle.g_typing.specs.declared.item.Reply.{Reply}
use Rattle.g_typing.specs.declared.item.Reply.TheVariants as reply

abbrev pub when_of : Bool → When
when_of true = AtTime
when_of false = AtOnce

-- no time is written before what a line asks for
abbrev pub HasNoTime : List ℕ → Type 0
HasNoTime line = (t : ℕ) (rest : List ℕ) → t ≤ 1000000000 → line ≡ decimal t ++ (32 ∷ rest) → ⊥

abbrev pub IsTime : ℕ → List ℕ → List ℕ → Type 0
IsTime t rest line = (t ≤ 1000000000) × (line ≡ decimal t ++ (32 ∷ rest))

-- a line doesn't ask what a refusal means
abbrev pub IsNoRefusal : List ℕ → Type 0
IsNoRefusal line = (n : ℕ) → n ≤ 99 → line ≡ codes "HELP " ++ decimal n → ⊥

-- the text of a JOB line, good or bad
abbrev pub JobText : List ℕ → Type 0
JobText asked = (rest : List ℕ) × (asked ≡ codes "JOB " ++ rest)

-- what a line without a time asks for: the operator line that it is, or the one that it is short for
abbrev pub AsksOnly : List ℕ → List ℕ → Type 0
AsksOnly line asked = (((digit : ℕ) (text : List ℕ) → IsShort digit text line → ⊥) × (asked ≡ line))
    ⊎ ((digit : ℕ) × (text : List ℕ) × IsShort digit text line × (asked ≡ type_text digit text))

-- the operator line with this text, which follows TYPE and a terminal if the line is short
abbrev pub asked_by : Option ℕ → List ℕ → List ℕ
asked_by None text = text
asked_by (Some digit) text = type_text digit text

-- WHEN A FIRST LINE IS DUE, and what it asks for
abbrev pub IsHead : ℕ → List ℕ → Bool → ℕ → List ℕ → Type 0
IsHead count line true turn asked = (t : ℕ) × IsTime t asked line × (turn ≡ max t count)
IsHead count line false turn asked = HasNoTime line × AsksOnly line asked × (turn ≡ count)

-- a JOB whose document is being typed: the lines so far, and their text as a script has it
pub record IsInDocument (count : ℕ) (lines : List (List ℕ)) (timed : Bool) (text : List ℕ) : Type 0 where
  pub name : List ℕ
  pub user : List ℕ
  pub time : ℕ
  pub money : Option ℕ
  pub document : List (List ℕ)
  pub turn : ℕ
  pub is_item : IsItem (record { turn = turn; what = Job name user time money document })
  pub first : List ℕ
  pub head : IsHead count first timed turn (written_text (Job name user time money document))
  pub short : length first ≤ 160
  pub lines_are : lines ≡ first ∷ document
  pub one : IsOneLine (head_line (record { turn = turn; what = Job name user time money document }))
  pub text_is : text ≡ text_of (head_line (record { turn = turn; what = Job name user time money document }) ∷ document)
  pub room : length text + 5 ≤ 16777216

-- WHAT THE READER HOLDS after these lines: nothing; a JOB and lines of its document; or a document that is skipped
abbrev pub HoldsAt : Place → ℕ → List (List ℕ) → ItemReader → Type 0
HoldsAt place.Start count lines r = lines ≡ []
HoldsAt (place.Document number) count lines r = IsInDocument count lines r.timed r.text
HoldsAt place.Skipped count lines r = All (λ line. line ≢ codes "****") lines

abbrev pub Holds : ℕ → List (List ℕ) → ItemReader → Type 0
Holds count lines r = HoldsAt r.place count lines r

abbrev pub is_skipped : Place → Bool
is_skipped place.Skipped = true
is_skipped place = false

-- a line was refused; the rest of its document is skipped, if it has one
pub record IsRefused (count : ℕ) (lines : List (List ℕ)) (line : List ℕ) (now : Place) : Type 0 where
  pub begun : IsUnfinished count lines
  pub some : lines ≡ [] → line ≢ []
  pub unasked : lines ≡ [] → IsUnasked line
  pub bad : CanFollow count lines line → ⊥
  pub skips : (BeginsDocument (first_of lines line) × (now ≡ place.Skipped)) ⊎ ((BeginsDocument (first_of lines line) → ⊥) × (now ≡ place.Start))

-- an item is complete
pub record IsComplete (count : ℕ) (lines : List (List ℕ)) (next : Timed) (timed : Bool) (r : ItemReader) : Type 0 where
  pub item : WrittenItem
  pub typed : IsTyped count item (when_of timed) lines
  pub said : next ≡ timed_said item
  pub text : r.text ≡ text_of (item_lines item)
  pub lines_are : lines_of r.text ≡ item_lines item
  pub place : r.place ≡ place.Start

-- more lines of a document follow: of the same one, or of the JOB that begins with this line
abbrev pub StaysIn : Place → ℕ → List (List ℕ) → Place → Type 0
StaysIn was number lines now = (now ≡ was) ⊎ ((was ≡ place.Start) × (now ≡ place.Document number))

-- a JOB line was read with no document after it
abbrev pub IsOneOrNot : List (List ℕ) → Bool → Type 0
IsOneOrNot lines true = (next : Timed) × IsOneItem lines (Some next)
IsOneOrNot lines false = IsOneItem lines None

abbrev pub IsBegun : ℕ → ItemReader → Reply → ItemReader → Type 0
IsBegun number old reply.More new = (new ≡ record old { place = place.Document number }) × IsOneOrNot (lines_of (old.text ++ codes "****\n")) true
IsBegun number old reply.Refused new = (new.place ≡ place.Skipped) × IsOneOrNot (lines_of (old.text ++ codes "****\n")) false
IsBegun number old reply new = ⊥

-- a document was closed
abbrev pub IsClosed : ℕ → List (List ℕ) → Reply → ItemReader → Type 0
IsClosed count lines (reply.Item next timed) r = IsComplete count (lines ++ codes "****" ∷ []) next timed r
IsClosed count lines reply r = ⊥

-- THE REPLY to one more line, which has this number
abbrev pub Replies : Place → ℕ → ℕ → List (List ℕ) → List ℕ → Result Reply NoMemory → ItemReader → Type 0
Replies was number count lines line (Ok (reply.Item next timed)) r = (is_skipped was ≡ false) × IsComplete count (lines ++ line ∷ []) next timed r
Replies was number count lines line (Ok reply.Rest) r = (is_skipped was ≡ false) × (lines ≡ []) × (line ≡ []) × (r.place ≡ place.Start)
Replies was number count lines line (Ok (reply.Asked q)) r = (is_skipped was ≡ false) × (lines ≡ []) × IsQuery line q × (r.place ≡ place.Start)
Replies was number count lines line (Ok reply.Refused) r = (is_skipped was ≡ false) × IsRefused count lines line r.place
Replies was number count lines line (Ok reply.More) r = Holds count (lines ++ line ∷ []) r × StaysIn was number lines r.place
Replies was number count lines line (Ok reply.SkippedAll) r =
    (is_skipped was ≡ true) × All (λ line. line ≢ codes "****") lines × (line ≡ codes "****") × (r.place ≡ place.Start)
Replies was number count lines line (Err fault) r = Unit {0}
