-- The contract of a store for one call.
-- serves: ask_any (granted, refused)
use Rattle.std.proofs.Common.{◌≡◌, ◌↔◌, ℕ, Bool, true, false, List, Ok, Err, IfErr, IfOk, true≢false, refl}
use Rattle.g_turn.specs.Bounds.{MayAnswer}
use Rattle.g_turn.specs.Steps.{IsStep}
use Rattle.g_plain.specs.Programs.{Answer, IsAnswer, is_memory}
use Rattle.g_plain.specs.PlainAnswers.{may_wait}
use Rattle.g_plain.specs.Replies.{IsReplyTo}
use Rattle.g_plain.specs.declared.calls.StoreCall.{StoreCall}
use Rattle.g_plain.specs.declared.faults.StoreFault.TheVariants as fault

may_of : (asked : StoreCall) (answer : Answer) → IsAnswer answer → IfOk answer (λ reply. IsReplyTo asked reply)
    → ((serial : ℕ) → answer ≡ Err (fault.WaitTape serial) → may_wait asked ≡ true) → MayAnswer asked answer
may_of asked (Ok reply) real kind waits = kind
may_of asked (Err (fault.WaitTape serial)) real kind waits = waits serial refl
may_of asked (Err fault.NoMemory) real kind waits = absurd (true≢false real)
may_of asked (Err refusal) real kind waits = tt

module _ {S : Type 0} (answers : S → List ℕ → StoreCall → Answer → S → Type 0) (is_spent : S → Bool) (can_wait : S → ℕ → Bool) (who : List ℕ) (old : S) (asked : StoreCall) (answer : Answer) (new : S) where
  -- everything that a store guarantees for one call
  pub record IsCall : Type 0 where
    pub is : answers old who asked answer new
    pub waits : (serial : ℕ) → answer ≡ Err (fault.WaitTape serial) → can_wait new serial ≡ true
    pub may : (serial : ℕ) → answer ≡ Err (fault.WaitTape serial) → may_wait asked ≡ true
    pub same : (serial : ℕ) → can_wait new serial ≡ can_wait old serial
    pub kind : IfOk answer (λ reply. IsReplyTo asked reply)
    pub spent : (is_spent new ≡ true) ↔ (answer ≡ Err fault.Stopped)

  step_of : IsCall → IsAnswer answer → IsStep answers is_spent can_wait who old asked answer new
  step_of c real = record { is = c.is; may = may_of asked answer real c.kind c.may; waits = c.waits; same = c.same; spent = c.spent }

module _ {S : Type 0} (answers : S → List ℕ → StoreCall → Answer → S → Type 0) (is_spent : S → Bool) (can_wait : S → ℕ → Bool) (who : List ℕ) (old : S) (asked : StoreCall) (new : S) where
  pub granted_step : (answer : Answer) → IsCall answers is_spent can_wait who old asked answer new → IfOk answer (λ reply. IsStep answers is_spent can_wait who old asked (Ok reply) new)
  granted_step (Ok reply) c = step_of answers is_spent can_wait who old asked (Ok reply) new c tt
  granted_step (Err refusal) c = tt

  pub refused_step : (answer : Answer) → IsCall answers is_spent can_wait who old asked answer new
      → IfErr answer (λ refusal. is_memory refusal ≡ false → IsStep answers is_spent can_wait who old asked (Err refusal) new)
  refused_step (Ok reply) c = tt
  refused_step (Err refusal) c = step_of answers is_spent can_wait who old asked (Err refusal) new c
