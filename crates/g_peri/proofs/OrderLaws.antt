-- The state after one order; stepping forward and back is the identity.
-- serves: one_order (illegal)
use Rattle.std.proofs.Common.{◌≡◌, ℕ, ◌<◌, ◌^◌, Option, Some, None, Result, Ok, Err, refl, ap, subst, arith}
use Rattle.std.specs.Prelude.{IfOk}
use Rattle.g_base.specs.declared.memory.NoMemory.{NoMemory}
use Rattle.g_mill.specs.declared.event.Event.{Event}
use Rattle.g_mill.specs.declared.event.Event.TheVariants as event
use Rattle.g_mill.specs.Machine.{Machine, size, following, preceding, going_to, onward}
use Rattle.g_mill.specs.Effect.{order}
use Rattle.g_mill.proofs.StepLaws.{Leaves, order_leaves}
use Rattle.g_peri.specs.declared.ordered.OrderEvent.{OrderEvent}
use Rattle.g_peri.specs.JobUnits.{Held}
use Rattle.g_peri.specs.Transfer.{transfer}
use Rattle.g_peri.specs.OneOrder.{Ordered, transferred, Transferred, Stays}

-- STEPPING FORWARD AND BACK IS THE IDENTITY
pub back : (a : ℕ) → a < 2 ^ 15 → preceding (following a) ≡ a
back a small = omega arith

pub back_again : (s : Machine) → s.next < 2 ^ 15 → going_to (onward s) (preceding (onward s).next) ≡ s
back_again s small = ap (λ n. going_to s n) (back s.next small)

-- the state after a step, by its event
pub left_by : (s p : Machine) (e : Event) → p ≡ (order s).0 → e ≡ (order s).1 → Leaves s e p
left_by s p e machine told = rw (machine, told) (order_leaves s)

pub asked_leaves : (s p : Machine) (e : Event) (area : ℕ) → e ≡ event.Peri area → Leaves s e p → (p ≡ onward s) × (s.next < size s)
asked_leaves s p e area is left = rw is at left

pub illegal_leaves : (s p : Machine) (e : Event) (word at : ℕ) → e ≡ event.Illegal word at → Leaves s e p → (p ≡ s) × (at ≡ s.next)
illegal_leaves s p e word at is left = rw is at left

-- a transfer that is refused after its order leaves everything unchanged
transferred_stays : (h : Held) (s : Machine) (v : Option (Held × Machine)) → s.next < 2 ^ 15 → Stays (transferred h (onward s) v).event h s (transferred h (onward s) v).units (transferred h (onward s) v).machine
transferred_stays h s (Some both) small = tt
transferred_stays h s None small = (back s.next small, refl, back_again s small)

pub refused_stays : (h h' : Held) (s p p' : Machine) (area : ℕ) (result : Result OrderEvent NoMemory) → p ≡ onward s → s.next < 2 ^ 15 → Transferred result h p h' p' area → IfOk result (λ e. Stays e h s h' p')
refused_stays h h' s p p' area (Ok e) is small answer =
    let behind = rw is at answer in
    subst (λ (o : Ordered). Stays o.event h s o.units o.machine) behind (transferred_stays h s (transfer h (onward s) area) small)
refused_stays h h' s p p' area (Err _) is small answer = tt
