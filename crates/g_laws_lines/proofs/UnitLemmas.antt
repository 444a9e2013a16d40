-- The units of a job have names of files without a byte 10, and the texts that its program prints have none.
-- serves: WorkLemmas, WorldLemmas
use Rattle.std.proofs.Common.{◌≡◌, ◌+◌, ◌-◌, ◌==◌, ◌%◌, ◌/◌, ◌^◌, ◌&&◌, ◌||◌, ◌++◌, ℕ, zero, suc, Bool, true, false, nat_le, nat_lt, if◌then◌else◌, List, [], ◌∷◌, length, Option, Some, None, IfSome}
use Rattle.std.specs.Prelude.{option_and_then, slice_get, slice_index, slice_set, unwrap_or}
use Rattle.std.specs.Option.{option_map}
use Rattle.std.specs.List.{AllByRecursion, range_with_len}
use Rattle.g_mill.specs.Effect.{Outcome, effect, moved, obeyed, order, performed, shifted}
use Rattle.g_mill.specs.Machine.{Machine, address, characters, operand, size, text_at, text_of, word_at, words_for}
use Rattle.g_mill.specs.declared.event.Event.{Event}
use Rattle.g_mill.specs.declared.event.Event.TheVariants as event
use Rattle.g_name.specs.declared.path.Path.{Path}
use Rattle.g_order.specs.Order.{Fields, decoded}
use Rattle.g_order.specs.Table.{function_of}
use Rattle.g_order.specs.declared.functions.Function.{Function}
use Rattle.g_order.specs.declared.functions.Function.TheVariants.{Branch, Call, Delete, DepositCharacter, Display, Exit, Halt, Load, LoadCharacter, LoadNumber, Move, Multiply, Null, ShiftLeft, ShiftRight, Store, StoreZero, Transfer}
use Rattle.g_peri.specs.JobUnits.{Held, at_place, with_writer}
use Rattle.g_peri.specs.OneOrder.{order_with, ordered_by, transferred}
use Rattle.g_peri.specs.Transfer.{Area, Reply, answered, control_of, given, read_by, replied, transfer, written_by}
use Rattle.g_peri.specs.declared.ordered.OrderEvent.{OrderEvent}
use Rattle.g_peri.specs.declared.ordered.OrderEvent.TheVariants as came
use Rattle.g_word.specs.Characters.{byte_of, character}
use Rattle.g_laws_lines.proofs.PrintLemmas.{IsFinePath}
use Rattle.g_laws_lines.proofs.TextLemmas.{byte_other, is_line, map_line}

-- THE TEXT of a program's order
abbrev pub IsFineMill : Event → Type 0
IsFineMill (event.Halted text) = is_line text ≡ true
IsFineMill (event.Displayed text) = is_line text ≡ true
IsFineMill (event.Deleted text) = is_line text ≡ true
IsFineMill other = Unit {0}

abbrev pub IsFineResult : Outcome → Type 0
IsFineResult None = Unit {0}
IsFineResult (Some r) = IsFineMill r.1

pub record IsFineOutcome (outcome : Outcome) : Type 0 where
  pub fine : IsFineResult outcome

ran : (p : Machine) → IsFineOutcome (Some (p, event.Ran))
ran p = record { fine = tt }

nothing : IsFineOutcome None
nothing = record { fine = tt }

through : {X : Type 0} (g : X → Outcome) (v : Option X) → ((x : X) → IsFineOutcome (g x)) → IsFineOutcome (option_and_then g v)
through g None h = nothing
through g (Some x) h = h x

chosen : (b : Bool) (x y : Outcome) → IsFineOutcome x → IsFineOutcome y → IsFineOutcome (if b then x else y)
chosen true x y hx hy = hx
chosen false x y hx hy = hy

texts : (g : List ℕ → Machine × Event) (v : Option (List ℕ)) → IfSome v (λ t. is_line t ≡ true) → ((t : List ℕ) → is_line t ≡ true → IsFineMill (g t).1) → IsFineOutcome (option_map g v)
texts g None is h = nothing
texts g (Some t) is h = record { fine = h t is }

of_fine : (s : Machine) (count from : ℕ) → IfSome (text_of s count from) (λ t. is_line t ≡ true)
of_fine s count from = by (nat_le count 40 && (count == 0 || nat_le (from + words_for count) (size s)))
  where
    by : (b : Bool) → IfSome (if b then Some (characters s.words from count) else None) (λ t. is_line t ≡ true)
    by true = map_line (λ i. byte_of (character (slice_index s.words (from + i / 4)) (i % 4))) (λ i. byte_other (character (slice_index s.words (from + i / 4)) (i % 4))) (range_with_len 0 count)
    by false = tt

at_fine : (s : Machine) (area : ℕ) → IfSome (text_at s area) (λ t. is_line t ≡ true)
at_fine s area = by_count (slice_get s.words area)
  where
    by_from : (count : ℕ) (from : Option ℕ) → IfSome (option_and_then (text_of s count) from) (λ t. is_line t ≡ true)
    by_from count None = tt
    by_from count (Some from) = of_fine s count from

    by_count : (count : Option ℕ) → IfSome (option_and_then (λ c. option_and_then (text_of s c) (slice_get s.words (area + 1))) count) (λ t. is_line t ≡ true)
    by_count None = tt
    by_count (Some count) = by_from count (slice_get s.words (area + 1))

shifted_fine : (left : Bool) (s : Machine) (o : Fields) → IsFineOutcome (shifted left s o)
shifted_fine left s o = (let kind = address s o % 2 ^ 12 / 2 ^ 10 in
    chosen (kind == 0) _ _ (ran _) (chosen (kind == 1) _ _ (ran _) nothing))

moved_fine : (s : Machine) (o : Fields) → IsFineOutcome (moved s o)
moved_fine s o = chosen _ _ _ (ran _) nothing

effect_fine : (f : Function) (s : Machine) (o : Fields) → IsFineOutcome (effect f s o)
effect_fine (Load operation) s o = through _ (operand s o) (λ n. ran _)
effect_fine (Store operation) s o = through _ (operand s o) (λ n. ran _)
effect_fine (LoadNumber operation) s o = ran _
effect_fine LoadCharacter s o = through _ (operand s o) (λ n. ran _)
effect_fine StoreZero s o = through _ (operand s o) (λ n. ran _)
effect_fine DepositCharacter s o = through _ (operand s o) (λ n. ran _)
effect_fine Multiply s o = through _ (operand s o) (λ n. ran _)
effect_fine (Branch condition) s o = ran _
effect_fine Call s o = ran _
effect_fine Exit s o = ran _
effect_fine ShiftLeft s o = shifted_fine true s o
effect_fine ShiftRight s o = shifted_fine false s o
effect_fine Null s o = ran _
effect_fine Move s o = moved_fine s o
effect_fine Transfer s o = record { fine = tt }
effect_fine Halt s o = texts _ (text_at s (address s o)) (at_fine s (address s o)) (λ t is. is)
effect_fine Display s o = texts _ (text_at s (address s o)) (at_fine s (address s o)) (λ t is. is)
effect_fine Delete s o = texts _ (text_at s (address s o)) (at_fine s (address s o)) (λ t is. is)

obeyed_fine : (s : Machine) (word : ℕ) (v : Outcome) → IsFineOutcome v → IsFineMill (unwrap_or v (s, event.Illegal word s.next)).1
obeyed_fine s word None h = tt
obeyed_fine s word (Some r) h = h.fine

mill_fine : (s : Machine) → IsFineMill (order s).1
mill_fine s = by (nat_lt s.next (size s))
  where
    word : ℕ
    word = word_at s s.next

    obeys : IsFineOutcome (option_and_then (performed s) (decoded word))
    obeys = through _ (decoded word) (λ o. through _ (function_of o.f o.x) (λ f. effect_fine f s o))

    by : (b : Bool) → IsFineMill (if b then obeyed s word else (s, event.Illegal 0 s.next)).1
    by true = obeyed_fine s word (option_and_then (performed s) (decoded word)) obeys
    by false = tt

-- THE UNITS: the path of each output
abbrev pub IsFineOutput : Option (Path × List ℕ) → Type 0
IsFineOutput output = IfSome output (λ x. IsFinePath x.0)

abbrev pub AreFineOutputs : List (Option (Path × List ℕ)) → Type 0
AreFineOutputs outputs = AllByRecursion IsFineOutput outputs

pub output_at : (outputs : List (Option (Path × List ℕ))) (place : ℕ) → AreFineOutputs outputs → IsFineOutput (at_place outputs place)
output_at [] place fine = tt
output_at (output ∷ outputs) zero fine = fine.0
output_at (output ∷ outputs) (suc place) fine = output_at outputs place fine.1

pub output_set : (outputs : List (Option (Path × List ℕ))) (place : ℕ) (output : Option (Path × List ℕ)) → IsFineOutput output → AreFineOutputs outputs → AreFineOutputs (slice_set outputs place output)
output_set [] place output new fine = tt
output_set (old ∷ outputs) zero output new fine = (new, fine.1)
output_set (old ∷ outputs) (suc place) output new fine = (fine.0, output_set outputs place output new fine.1)

-- ONE ORDER with its transfer
abbrev pub IsFineEvent : OrderEvent → Type 0
IsFineEvent (came.Displayed text) = is_line text ≡ true
IsFineEvent (came.Halted text) = is_line text ≡ true
IsFineEvent (came.Deleted text) = is_line text ≡ true
IsFineEvent other = Unit {0}

read_fine : (lines : Option (List (List ℕ))) (h : Held) (s : Machine) (c : Area) → AreFineOutputs h.writers → AreFineOutputs (read_by lines h s c).0.writers
read_fine None h s c fine = fine
read_fine (Some []) h s c fine = fine
read_fine (Some (line ∷ lines)) h s c fine = fine

write_fine : (output : Option (Path × List ℕ)) (place : ℕ) (bytes : List ℕ) (h : Held) (s : Machine) → IsFineOutput output → AreFineOutputs h.writers → AreFineOutputs (written_by output place bytes h s).0.writers
write_fine None place bytes h s old fine = fine
write_fine (Some output) place bytes h s old fine = by (nat_le (length output.1 + length bytes) 65536)
  where
    by : (b : Bool) → (let r : Reply = if b then (with_writer h place (Some (output.0, output.1 ++ bytes)), s, 0) else (h, s, 4) in AreFineOutputs r.0.writers)
    by true = output_set h.writers place (Some (output.0, output.1 ++ bytes)) old fine
    by false = fine

answered_fine : (h : Held) (s : Machine) (c : Area) → AreFineOutputs h.writers → AreFineOutputs (answered h s c).0.writers
answered_fine h s c fine = by (nat_lt c.unit 8)
  where
    by : (b : Bool) → AreFineOutputs (if b then read_by (at_place h.readers c.unit) h s c else written_by (at_place h.writers (c.unit - 8)) (c.unit - 8) (given s c) h s).0.writers
    by true = read_fine (at_place h.readers c.unit) h s c fine
    by false = write_fine (at_place h.writers (c.unit - 8)) (c.unit - 8) (given s c) h s (output_at h.writers (c.unit - 8) fine) fine

transfer_fine : (h : Held) (s : Machine) (area : ℕ) → AreFineOutputs h.writers → AreFineOutputs (transferred h s (transfer h s area)).units.writers
transfer_fine h s area fine = by (control_of s area)
  where
    by : (c : Option Area) → AreFineOutputs (transferred h s (option_map (λ x. replied area (answered h s x)) c)).units.writers
    by None = fine
    by (Some c) = answered_fine h s c fine

transfer_event : (h : Held) (s : Machine) (both : Option (Held × Machine)) → IsFineEvent (transferred h s both).event
transfer_event h s None = tt
transfer_event h s (Some both) = tt

by_units : (h : Held) (s : Machine) (e : Event) → AreFineOutputs h.writers → AreFineOutputs (ordered_by h s e).units.writers
by_units h s event.Ran fine = fine
by_units h s (event.Peri area) fine = transfer_fine h s area fine
by_units h s (event.Halted text) fine = fine
by_units h s (event.Displayed text) fine = fine
by_units h s (event.Deleted text) fine = fine
by_units h s (event.Illegal word at) fine = fine

by_text : (h : Held) (s : Machine) (e : Event) → IsFineMill e → IsFineEvent (ordered_by h s e).event
by_text h s event.Ran fine = tt
by_text h s (event.Peri area) fine = transfer_event h s (transfer h s area)
by_text h s (event.Halted text) fine = fine
by_text h s (event.Displayed text) fine = fine
by_text h s (event.Deleted text) fine = fine
by_text h s (event.Illegal word at) fine = tt

pub order_units : (h : Held) (p : Machine) → AreFineOutputs h.writers → AreFineOutputs (order_with h p).units.writers
order_units h p fine = by_units h (order p).0 (order p).1 fine

pub order_text : (h : Held) (p : Machine) → IsFineEvent (order_with h p).event
order_text h p = by_text h (order p).0 (order p).1 (mill_fine p)
