-- The transfer of a program with a unit. A control area of four words has the unit, the reply, the number of characters, and the address of the
-- buffer.
use Rattle.std.specs.Prelude.{◌≡◌, ℕ, ◌+◌, ◌-◌, ◌&&◌, Bool, true, false, List, [], ◌∷◌, ◌++◌, length, Option, Some, None, Result, Ok, Err, unwrap_or, nat_lt, nat_le, if◌then◌else◌}
use Rattle.std.specs.Option.{option_map}
use Rattle.g_name.specs.declared.path.Path.{Path}
use Rattle.g_mill.specs.Machine.{Machine, size, word_at, with_word, going_to, preceding, characters, words_for}
use Rattle.g_peri.specs.declared.units.PeriFault.{PeriFault}
use Rattle.g_peri.specs.declared.units.PeriFault.TheVariants.{Illegal, NoMemory}
use Rattle.g_peri.specs.JobUnits.{Held, at_place, with_reader, with_writer}
use Rattle.g_peri.specs.Layout.{line_words, with_words, trimmed}

-- Area and buffer are in the program, and unit and count are in range: units 0 to 23, 1 to 160 characters.
abbrev pub is_legal : Machine → ℕ → Bool
is_legal s area =
    nat_le (area + 4) (size s) && nat_lt (word_at s area) 24 && nat_le 1 (word_at s (area + 2)) && nat_le (word_at s (area + 2)) 160 && nat_le (word_at s (area + 3) + words_for (word_at s (area + 2))) (size s)

-- The contents of a control area: the number of the unit, the number of characters, and the address of the buffer.
pub record Area : Type 0 where
  pub unit : ℕ
  pub count : ℕ
  pub from : ℕ

-- The contents of a control area, if it is legal.
abbrev pub control_of : Machine → ℕ → Option Area
control_of s area =
    if is_legal s area then Some (record { unit = word_at s area; count = word_at s (area + 2); from = word_at s (area + 3) }) else None

-- What a transfer makes of the units and of the program, and its reply.
abbrev pub Reply : Type 0
Reply = Held × Machine × ℕ

-- A card reader replies 0 if it reads the next line, 3 if it reads only the first characters of a longer one, 1 if no line is left, and 2 if it isn't
-- assigned.
abbrev pub read_by : Option (List (List ℕ)) → Held → Machine → Area → Reply
read_by None h s c = (h, s, 2)
read_by (Some []) h s c = (h, s, 1)
read_by (Some (line ∷ lines)) h s c =
    (with_reader h c.unit (Some lines), record s { words = with_words s.words c.from (line_words line c.count) }, if nat_lt c.count (length line) then 3 else 0)

-- The bytes that characters add to an output: for a printer a line without trailing spaces, for a punch exactly the characters.
abbrev pub added : ℕ → List ℕ → List ℕ
added place bytes = if nat_lt place 8 then trimmed bytes ++ 10 ∷ [] else bytes

-- A printer or a punch replies 0 if it takes the bytes, 4 if it would hold more than 65,536 of them, and 2 if it isn't assigned.
abbrev pub written_by : Option (Path × List ℕ) → ℕ → List ℕ → Held → Machine → Reply
written_by None place bytes h s = (h, s, 2)
written_by (Some output) place bytes h s =
    if nat_le (length output.1 + length bytes) 65536 then (with_writer h place (Some (output.0, output.1 ++ bytes)), s, 0) else (h, s, 4)

-- The bytes that the program writes to a printer or a punch.
abbrev pub given : Machine → Area → List ℕ
given s c = added (c.unit - 8) (characters s.words c.from c.count)

-- The reply of the unit that a control area names.
abbrev pub answered : Held → Machine → Area → Reply
answered h s c =
    if nat_lt c.unit 8 then read_by (at_place h.readers c.unit) h s c else (let place = c.unit - 8 in written_by (at_place h.writers place) place (given s c) h s)

-- There is an output with room for these bytes.
abbrev pub has_room : Option (Path × List ℕ) → List ℕ → Bool
has_room None bytes = false
has_room (Some output) bytes = nat_le (length output.1 + length bytes) 65536

-- Bytes are appended to an output; nothing else allocates memory.
abbrev pub puts : Held → Machine → Area → Bool
puts h s c = nat_le 8 c.unit && has_room (at_place h.writers (c.unit - 8)) (given s c)

-- The transfer of an area is legal and appends bytes to an output.
abbrev pub puts_by : Held → Machine → ℕ → Bool
puts_by h s area = unwrap_or (option_map (puts h s) (control_of s area)) false

-- The reply is written last, into the second word of the area.
abbrev pub replied : ℕ → Reply → Held × Machine
replied area r = (r.0, with_word r.1 (area + 1) r.2)

-- The units and the program after a transfer, or none if it is illegal.
abbrev pub transfer : Held → Machine → ℕ → Option (Held × Machine)
transfer h s area = option_map (λ c. replied area (answered h s c)) (control_of s area)

-- The result of a transfer. An illegal one means that its order wasn't executed, so the next address is that of the order again. Memory is allocated
-- only if bytes are appended to an output.
abbrev pub Transfers : Result (Unit {0}) PeriFault → Held → Machine → Held → Machine → ℕ → Type 0
Transfers (Ok _) h s h' s' area = transfer h s area ≡ Some (h', s')
Transfers (Err Illegal) h s h' s' area = (transfer h s area ≡ None) × (h' ≡ h) × (s' ≡ going_to s (preceding s.next))
Transfers (Err NoMemory) h s h' s' area = (puts_by h s area ≡ true) × (h' ≡ h) × (s' ≡ s)
