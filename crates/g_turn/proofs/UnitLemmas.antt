-- One order of a program preserves the number of outputs.
-- serves: RunBounds
use Rattle.std.proofs.Common.{◌≡◌, ℕ, ◌+◌, ◌-◌, Bool, true, false, List, [], ◌∷◌, ◌++◌, length, length-set, nat_le, nat_lt, Option, Some, None, option_map, if◌then◌else◌, refl}
use Rattle.g_mill.specs.Effect.{order}
use Rattle.g_mill.specs.Machine.{Machine}
use Rattle.g_mill.specs.declared.event.Event.{Event}
use Rattle.g_mill.specs.declared.event.Event.TheVariants as event
use Rattle.g_name.specs.declared.path.Path.{Path}
use Rattle.g_peri.specs.JobUnits.{Held, at_place, with_writer}
use Rattle.g_peri.specs.OneOrder.{order_with, ordered_by, transferred}
use Rattle.g_peri.specs.Transfer.{Area, Reply, answered, control_of, given, read_by, replied, written_by}

-- the number of outputs
abbrev pub outputs : Held → ℕ
outputs h = length h.writers

either_many : (b : Bool) (r s : Reply) (n : ℕ) → outputs r.0 ≡ n → outputs s.0 ≡ n → outputs (if b then r else s).0 ≡ n
either_many true r s n first second = first
either_many false r s n first second = second

read_many : (lines : Option (List (List ℕ))) (h : Held) (s : Machine) (c : Area) → outputs (read_by lines h s c).0 ≡ outputs h
read_many None h s c = refl
read_many (Some []) h s c = refl
read_many (Some (line ∷ lines)) h s c = refl

written_many : (output : Option (Path × List ℕ)) (place : ℕ) (bytes : List ℕ) (h : Held) (s : Machine) → outputs (written_by output place bytes h s).0 ≡ outputs h
written_many None place bytes h s = refl
written_many (Some output) place bytes h s =
    either_many (nat_le (length output.1 + length bytes) 65536) (with_writer h place (Some (output.0, output.1 ++ bytes)), s, 0) (h, s, 4) (outputs h)
    (length-set h.writers place (Some (output.0, output.1 ++ bytes))) refl

answered_many : (h : Held) (s : Machine) (c : Area) → outputs (answered h s c).0 ≡ outputs h
answered_many h s c =
    either_many (nat_lt c.unit 8) (read_by (at_place h.readers c.unit) h s c) (written_by (at_place h.writers (c.unit - 8)) (c.unit - 8) (given s c) h s) (outputs h)
    (read_many (at_place h.readers c.unit) h s c) (written_many (at_place h.writers (c.unit - 8)) (c.unit - 8) (given s c) h s)

by_control : (h : Held) (p : Machine) (area : ℕ) (control : Option Area) → outputs (transferred h p (option_map (λ c. replied area (answered h p c)) control)).units ≡ outputs h
by_control h p area None = refl
by_control h p area (Some c) = answered_many h p c

by_event : (h : Held) (p : Machine) (came : Event) → outputs (ordered_by h p came).units ≡ outputs h
by_event h p event.Ran = refl
by_event h p (event.Peri area) = by_control h p area (control_of p area)
by_event h p (event.Halted text) = refl
by_event h p (event.Displayed text) = refl
by_event h p (event.Deleted text) = refl
by_event h p (event.Illegal word at) = refl

pub order_many : (h : Held) (p : Machine) → outputs (order_with h p).units ≡ outputs h
order_many h p = by_event h (order p).0 (order p).1
