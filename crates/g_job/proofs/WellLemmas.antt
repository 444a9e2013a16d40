-- Programs that were run on any store: consequences of how they ended.
-- serves: turn (stopped, waits), turns_leave_their_store, TurnLemmas
use Rattle.std.proofs.Common.{◌≡◌, ◌↔◌, ◌≤◌, length, ℕ, Bool, true, false, List, Option, Some, Ok, Err, refl, sym, ap, ◌∙◌, subst}
use Rattle.std.proofs.lemmas.Bool.{false≢true}
use Rattle.g_turn.specs.Bounds.{AlwaysGives, IsWithin, MayAnswer}
use Rattle.g_job.specs.Beginning.{room_of}
use Rattle.g_turn.specs.Causes.{GoesOn, IsHonest, IsOther, StopsAt}
use Rattle.g_job.specs.Rules.{IsJob}
use Rattle.g_turn.specs.State.{Broken, Stop, Waits, Work}
use Rattle.g_job.specs.State.{JobState}
use Rattle.g_turn.specs.Steps.{IsStep, RanWell}
use Rattle.g_job.specs.Turns.{turn_work}
use Rattle.g_job.proofs.TurnBounds.{turn_within, turn_honest}
use Rattle.g_plain.specs.Programs.{Answer, Asks, Call, Gives, IsAnswer, Ran}
use Rattle.g_plain.specs.declared.calls.StoreCall.{StoreCall}
use Rattle.g_plain.specs.declared.faults.StoreFault.TheVariants as fault

-- a program continues after any answer that a store may give
may_answer : (asked : StoreCall) (answer : Answer) → MayAnswer asked answer → IsAnswer answer
may_answer asked (Ok reply) may = tt
may_answer asked (Err fault.NoMemory) may = absurd may
may_answer asked (Err refusal) may = refl

not_true : (b : Bool) → (b ≡ true → ⊥) → b ≡ false
not_true true no_way = absurd (no_way refl)
not_true false no_way = refl

-- answers and ends that exclude each other
abbrev pub IsWait : Answer → Type 0
IsWait (Err (fault.WaitTape serial)) = Unit {0}
IsWait answer = ⊥

wait_stop : (serial : ℕ) → (let answer : Answer = Err (fault.WaitTape serial) in answer ≡ Err fault.Stopped) → ⊥
wait_stop serial is = subst (λ (a : Answer). IsWait a) is tt

other_stop : (answer : Answer) → IsOther answer → answer ≡ Err fault.Stopped → ⊥
other_stop answer other is = subst (λ (a : Answer). IsOther a) is other

abbrev pub serial_of : Option Stop → ℕ
serial_of (Some (Waits serial)) = serial
serial_of stop = 0

abbrev pub IsBroken : Option Stop → Type 0
IsBroken (Some Broken) = Unit {0}
IsBroken stop = ⊥

waits_broken : (serial : ℕ) (stop : Option Stop) → stop ≡ Some (Waits serial) → stop ≡ Some Broken → ⊥
waits_broken serial stop waits broken = subst (λ (s : Option Stop). IsBroken s) (sym broken ∙ waits) tt

goes_broken : (stop : Option Stop) → GoesOn stop → stop ≡ Some Broken → ⊥
goes_broken stop goes is = subst (λ (s : Option Stop). GoesOn s) is goes

goes_waits : (serial : ℕ) (stop : Option Stop) → GoesOn stop → stop ≡ Some (Waits serial) → ⊥
goes_waits serial stop goes is = subst (λ (s : Option Stop). GoesOn s) is goes

module _ {S : Type 0} (answers : S → List ℕ → StoreCall → Answer → S → Type 0) (is_spent : S → Bool) (can_wait : S → ℕ → Bool) (who : List ℕ) where
  abbrev pub Well : S → Asks Work → Work → S → Type 0
  Well old p given new = RanWell answers is_spent can_wait who old p given new

  abbrev pub Step : S → StoreCall → Answer → S → Type 0
  Step old asked answer new = IsStep answers is_spent can_wait who old asked answer new

  -- it was run
  pub well_ran : (p : Asks Work) (old : S) (given : Work) (new : S) → Well old p given new → Ran answers who old p given new
  well_ran (Gives x) old given new r = r
  well_ran (Call asked more) old given new r = (r.0, r.1, r.2.is, may_answer asked r.0 r.2.may, well_ran (more r.0) r.1 given new r.3)

  -- no reel was mounted
  well_same : (p : Asks Work) (old : S) (given : Work) (new : S) → Well old p given new → (serial : ℕ) → can_wait new serial ≡ can_wait old serial
  well_same (Gives x) old given new r serial = ap (λ (s : S). can_wait s serial) r.1
  well_same (Call asked more) old given new r serial = well_same (more r.0) r.1 given new r.3 serial ∙ r.2.same serial

  -- if a program stops at once
  stops_well : (stop : Stop) (p : Asks Work) (old : S) (w : Work) (new : S) → StopsAt stop p → Well old p w new → (w.stop ≡ Some stop) × (new ≡ old)
  stops_well stop (Gives x) old w new s r = (ap (λ (y : Work). y.stop) r.0 ∙ s, r.1)
  stops_well stop (Call asked more) old w new s r = absurd s

  -- the store is spent if and only if there was a stop
  spent_by : (asked : StoreCall) (more : Answer → Asks Work) (old : S) (answer : Answer) (mid : S) (w : Work) (new : S) → IsHonest (Call asked more) → Step old asked answer mid
      → Well mid (more answer) w new → (is_spent mid ≡ false → IsHonest (more answer) → (is_spent new ≡ true) ↔ (w.stop ≡ Some Broken)) → (is_spent new ≡ true) ↔ (w.stop ≡ Some Broken)
  spent_by asked more old (Err (fault.WaitTape serial)) mid w new h step r again =
      let over = stops_well (Waits serial) (more (Err (fault.WaitTape serial))) mid w new (h.0 serial) r in
      ((λ spent. absurd (wait_stop serial (step.spent.0 (ap is_spent (sym over.1) ∙ spent)))), (λ broken. absurd (waits_broken serial w.stop over.0 broken)))
  spent_by asked more old (Err fault.Stopped) mid w new h step r again =
      let over = stops_well Broken (more (Err fault.Stopped)) mid w new h.1 r in
      ((λ spent. over.0), (λ broken. ap is_spent over.1 ∙ step.spent.1 refl))
  spent_by asked more old answer mid w new h step r again =
      again (not_true (is_spent mid) (λ spent. other_stop answer tt (step.spent.0 spent))) (h.2 answer tt)

  well_spent : (p : Asks Work) (old : S) (w : Work) (new : S) → IsHonest p → is_spent old ≡ false → Well old p w new → (is_spent new ≡ true) ↔ (w.stop ≡ Some Broken)
  well_spent (Gives x) old w new h unspent r = (
    (λ spent. absurd (false≢true (sym (ap is_spent r.1 ∙ unspent) ∙ spent))),
    (λ broken. absurd (goes_broken w.stop (subst (λ (y : Work). GoesOn y.stop) (sym r.0) h) broken)),
  )
  well_spent (Call asked more) old w new h unspent r =
      spent_by asked more old r.0 r.1 w new h r.2 r.3 (λ fresh honest. well_spent (more r.0) r.1 w new honest fresh r.3)

  -- a wait is for a reel that isn't mounted
  waits_by : (asked : StoreCall) (more : Answer → Asks Work) (old : S) (answer : Answer) (mid : S) (w : Work) (new : S) → IsHonest (Call asked more) → Step old asked answer mid
      → Well mid (more answer) w new → (serial : ℕ) → w.stop ≡ Some (Waits serial) → (IsHonest (more answer) → can_wait new serial ≡ true) → can_wait new serial ≡ true
  waits_by asked more old (Err (fault.WaitTape other)) mid w new h step r serial waits again =
      let over = stops_well (Waits other) (more (Err (fault.WaitTape other))) mid w new (h.0 other) r in
      let same : other ≡ serial = ap serial_of (sym over.0 ∙ waits) in
      ap (λ (s : S). can_wait s serial) over.1 ∙ ap (λ (n : ℕ). can_wait mid n) (sym same) ∙ step.waits other refl
  waits_by asked more old (Err fault.Stopped) mid w new h step r serial waits again =
      let over = stops_well Broken (more (Err fault.Stopped)) mid w new h.1 r in absurd (waits_broken serial w.stop waits over.0)
  waits_by asked more old answer mid w new h step r serial waits again = again (h.2 answer tt)

  well_waits : (p : Asks Work) (old : S) (w : Work) (new : S) → IsHonest p → Well old p w new → (serial : ℕ) → w.stop ≡ Some (Waits serial) → can_wait new serial ≡ true
  well_waits (Gives x) old w new h r serial waits = absurd (goes_waits serial w.stop (subst (λ (y : Work). GoesOn y.stop) (sym r.0) h) waits)
  well_waits (Call asked more) old w new h r serial waits =
      waits_by asked more old r.0 r.1 w new h r.2 r.3 serial waits (λ honest. well_waits (more r.0) r.1 w new honest r.3 serial waits)

  -- a property of everything that a program can return holds for what it returned
  well_gives : (P : Work → Type 0) (p : Asks Work) (old : S) (given : Work) (new : S) → AlwaysGives P p → Well old p given new → P given
  well_gives P (Gives x) old given new g r = subst P (sym r.0) g
  well_gives P (Call asked more) old given new g r = well_gives P (more r.0) r.1 given new (g r.0 r.2.may) r.3

module _ {S : Type 0} (answers : S → List ℕ → StoreCall → Answer → S → Type 0) (is_spent : S → Bool) (can_wait : S → ℕ → Bool) where
  pub turn_ran : (j : JobState) (old : S) (w : Work) (new : S) → RanWell answers is_spent can_wait j.user old (turn_work j) w new → Ran answers j.user old (turn_work j) w new
  turn_ran j old w new r = well_ran answers is_spent can_wait j.user (turn_work j) old w new r

  pub turn_spent : (j : JobState) (old : S) (w : Work) (new : S) → is_spent old ≡ false → RanWell answers is_spent can_wait j.user old (turn_work j) w new → (is_spent new ≡ true) ↔ (w.stop ≡ Some Broken)
  turn_spent j old w new unspent r = well_spent answers is_spent can_wait j.user (turn_work j) old w new (turn_honest j) unspent r

  pub turn_waits : (j : JobState) (old : S) (w : Work) (new : S) (serial : ℕ) → RanWell answers is_spent can_wait j.user old (turn_work j) w new → w.stop ≡ Some (Waits serial) → can_wait new serial ≡ true
  turn_waits j old w new serial r waits = well_waits answers is_spent can_wait j.user (turn_work j) old w new (turn_honest j) r serial waits

  pub turn_same : (j : JobState) (old : S) (w : Work) (new : S) (serial : ℕ) → RanWell answers is_spent can_wait j.user old (turn_work j) w new → can_wait new serial ≡ can_wait old serial
  turn_same j old w new serial r = well_same answers is_spent can_wait j.user (turn_work j) old w new r serial

  pub turn_keeps : (j : JobState) (old : S) (w : Work) (new : S) → IsJob j → length j.desk.units.writers ≤ 16 → RanWell answers is_spent can_wait j.user old (turn_work j) w new → IsWithin (room_of j) w
  turn_keeps j old w new rules few r = well_gives answers is_spent can_wait j.user (IsWithin (room_of j)) (turn_work j) old w new (turn_within j rules few) r
