-- The program after a step, by the step's event.
-- serves: crates above
use Rattle.std.proofs.Common.{◌≡◌, ℕ, ◌/◌, ◌%◌, ◌^◌, ◌<◌, Bool, true, false, List, Option, Some, None, refl}
use Rattle.std.specs.Prelude.{◌==◌, nat_lt, option_and_then, unwrap_or, if◌then◌else◌, ⊤}
use Rattle.std.specs.Option.{option_map}
use Rattle.std.proofs.lemmas.Bool.{ltb-true}
use Rattle.g_order.specs.Order.{Fields, decoded}
use Rattle.g_order.specs.Table.{function_of}
use Rattle.g_order.specs.declared.functions.Function.{Function}
use Rattle.g_order.specs.declared.functions.Function.TheVariants.{Load, Store, LoadNumber, LoadCharacter, StoreZero, DepositCharacter, Multiply, Branch, Call, Exit, ShiftLeft, ShiftRight, Null, Move, Transfer, Halt, Display, Delete}
use Rattle.g_mill.specs.declared.event.Event.{Event}
use Rattle.g_mill.specs.declared.event.Event.TheVariants as event
use Rattle.g_mill.specs.Machine.{Machine, size, word_at, operand, address, text_at, onward}
use Rattle.g_mill.specs.Effect.{Outcome, effect, shifted, moved, performed, order}

-- after a transfer's request the program is past the order; the event of an order's effect is never illegal
abbrev pub Tells : Machine → Event → Machine → Type 0
Tells s event.Ran p = ⊤
Tells s (event.Peri area) p = p ≡ onward s
Tells s (event.Halted text) p = ⊤
Tells s (event.Displayed text) p = ⊤
Tells s (event.Deleted text) p = ⊤
Tells s (event.Illegal word at) p = ⊥

abbrev pub TellsOf : Machine → Outcome → Type 0
TellsOf s None = ⊤
TellsOf s (Some r) = Tells s r.1 r.0

pub record Comes (s : Machine) (outcome : Outcome) : Type 0 where
  pub told : TellsOf s outcome

ran : (s p : Machine) → Comes s (Some (p, event.Ran))
ran s p = record { told = tt }

through : {X : Type 0} (s : Machine) (g : X → Outcome) (v : Option X) → ((x : X) → Comes s (g x)) → Comes s (option_and_then g v)
through s g None h = record { told = tt }
through s g (Some x) h = h x

texts : (s : Machine) (g : List ℕ → Machine × Event) (v : Option (List ℕ)) → ((t : List ℕ) → Tells s (g t).1 (g t).0) → Comes s (option_map g v)
texts s g None h = record { told = tt }
texts s g (Some t) h = record { told = h t }

chosen : (s : Machine) (b : Bool) (x y : Outcome) → Comes s x → Comes s y → Comes s (if b then x else y)
chosen s true x y hx hy = hx
chosen s false x y hx hy = hy

nothing : (s : Machine) → Comes s None
nothing s = record { told = tt }

comes_shifted : (left : Bool) (s : Machine) (o : Fields) → Comes s (shifted left s o)
comes_shifted left s o = (let kind = address s o % 2 ^ 12 / 2 ^ 10 in
    chosen s (kind == 0) _ _ (ran s _) (chosen s (kind == 1) _ _ (ran s _) (nothing s)))

comes_moved : (s : Machine) (o : Fields) → Comes s (moved s o)
comes_moved s o = chosen s _ _ _ (ran s _) (nothing s)

comes : (f : Function) (s : Machine) (o : Fields) → Comes s (effect f s o)
comes (Load operation) s o = through s _ (operand s o) (λ n. ran s _)
comes (Store operation) s o = through s _ (operand s o) (λ n. ran s _)
comes (LoadNumber operation) s o = ran s _
comes LoadCharacter s o = through s _ (operand s o) (λ n. ran s _)
comes StoreZero s o = through s _ (operand s o) (λ n. ran s _)
comes DepositCharacter s o = through s _ (operand s o) (λ n. ran s _)
comes Multiply s o = through s _ (operand s o) (λ n. ran s _)
comes (Branch condition) s o = ran s _
comes Call s o = ran s _
comes Exit s o = ran s _
comes ShiftLeft s o = comes_shifted true s o
comes ShiftRight s o = comes_shifted false s o
comes Null s o = ran s _
comes Move s o = comes_moved s o
comes Transfer s o = record { told = refl }
comes Halt s o = texts s _ (text_at s (address s o)) (λ t. tt)
comes Display s o = texts s _ (text_at s (address s o)) (λ t. tt)
comes Delete s o = texts s _ (text_at s (address s o)) (λ t. tt)

-- the program after a step: a transfer is requested by an order of the program, and an illegal order changes nothing
abbrev pub Leaves : Machine → Event → Machine → Type 0
Leaves s event.Ran p = ⊤
Leaves s (event.Peri area) p = (p ≡ onward s) × (s.next < size s)
Leaves s (event.Halted text) p = ⊤
Leaves s (event.Displayed text) p = ⊤
Leaves s (event.Deleted text) p = ⊤
Leaves s (event.Illegal word at) p = (p ≡ s) × (at ≡ s.next)

leaves : (s : Machine) (e : Event) (p : Machine) → s.next < size s → Tells s e p → Leaves s e p
leaves s event.Ran p below h = tt
leaves s (event.Peri area) p below h = (h, below)
leaves s (event.Halted text) p below h = tt
leaves s (event.Displayed text) p below h = tt
leaves s (event.Deleted text) p below h = tt
leaves s (event.Illegal word at) p below h = absurd h

leaves_obeyed : (s : Machine) (word : ℕ) (v : Outcome) → s.next < size s → Comes s v → Leaves s (unwrap_or v (s, event.Illegal word s.next)).1 (unwrap_or v (s, event.Illegal word s.next)).0
leaves_obeyed s word None below h = (refl, refl)
leaves_obeyed s word (Some r) below h = leaves s r.1 r.0 below h.told

leaves_either : (s : Machine) (b : Bool) (x y : Machine × Event) → (b ≡ true → Leaves s x.1 x.0) → Leaves s y.1 y.0 → Leaves s (if b then x else y).1 (if b then x else y).0
leaves_either s true x y hx hy = hx refl
leaves_either s false x y hx hy = hy

comes_word : (s : Machine) (word : ℕ) → Comes s (option_and_then (performed s) (decoded word))
comes_word s word = through s _ (decoded word) (λ o. through s _ (function_of o.f o.x) (λ f. comes f s o))

pub order_leaves : (s : Machine) → Leaves s (order s).1 (order s).0
order_leaves s =
    leaves_either s (nat_lt s.next (size s)) _ _ (λ below. leaves_obeyed s (word_at s s.next) _ (ltb-true _ _ below) (comes_word s (word_at s s.next))) (refl, refl)
