-- A turn of the code is the turn that is defined.
-- serves: make (err, ok), make_again (err, ok), turn (ok, seat, spends, stopped, waited, waits)
use Rattle.std.proofs.Common.{◌≡◌, ◌↔◌, ℕ, ◌+◌, ◌≤◌, Bool, false, List, length, Option, Some, None, Result, Ok, Err, IfOk, IfSome, OnErr, OnOk, is_some, refl, sym, ap, ◌∙◌, subst, arith}
use Rattle.std.proofs.lemmas.Bool.{false≢true}
use Rattle.std.specs.Fn.{Shared}
use denote.Ref.{Bor}
use Rattle.g_base.specs.declared.memory.NoMemory.{NoMemory}
use Rattle.g_rules.specs.Tariff.{IsCharge, IsTariff, IsUsage}
use Rattle.g_rules.specs.declared.tariff.Charge.{Charge}
use Rattle.g_rules.specs.declared.tariff.Usage.{Usage}
use Rattle.g_job.specs.Beginning.{begin, room_of}
use Rattle.g_turn.specs.Bounds.{IsKeptWithin, IsWithin}
use Rattle.g_turn.specs.Causes.{CauseOf, last_answer}
use Rattle.g_job.specs.TurnEnd.{IsPriced, IsTurn, end_by, turn_end}
use Rattle.g_turn.specs.LineWork.{IsAgain, IsReady}
use Rattle.g_job.specs.Making.{Makes}
use Rattle.g_job.specs.Rules.{IsGoneOnWith, IsJob, IsPending}
use Rattle.g_job.specs.Spending.{ComesTo, Spends, ToldAsBefore}
use Rattle.g_turn.specs.State.{AgainCommand, AgainLine, Broken, Desk, Done, Full, Pending, Stop, Waits, Work}
use Rattle.g_job.specs.State.{JobState}
use Rattle.g_turn.specs.Steps.{RanWell}
use Rattle.g_turn.specs.Turns.{begins}
use Rattle.g_job.specs.Turns.{turn_work}
use Rattle.g_rules.specs.declared.turn.Turn.{Turn}
use Rattle.g_rules.specs.declared.turn.Turn.TheVariants as turn
use Rattle.g_job.proofs.CauseLemmas.{turn_cause}
use Rattle.g_job.proofs.EndLemmas.{end_comes, end_spends}
use Rattle.g_job.proofs.EndingLemmas.{clear_rules}
use Rattle.g_job.proofs.KeepLemmas.{file_of, rules_kept}
use Rattle.g_job.proofs.WellLemmas.{turn_keeps, turn_ran}
use Rattle.g_plain.proofs.RanByLemmas.{ran_by}
use Rattle.g_plain.specs.Programs.{Answer, RanInPart}
use Rattle.g_plain.specs.Runs.{RanBy}
use Rattle.g_plain.specs.declared.calls.StoreCall.{StoreCall}

-- two facts that hold on success
pub both_ok : {T E A B C : Type 0} (r : Result T E) → (A → B → C) → OnOk r A → OnOk r B → OnOk r C
both_ok (Ok x) follows a b = follows a b
both_ok (Err e) follows a b = tt

-- what a turn resumes with is well-formed
pending_of : (monitor : List ℕ) (room : ℕ) (most : ℕ) (p : Option Pending) → length monitor + room ≤ 1048576 → IfSome p (IsKeptWithin room) → IfSome p IsAgain → IfSome p (IsPending monitor)
pending_of monitor room most None fits kept is = tt
pending_of monitor room most (Some (AgainLine text)) fits kept is = tt
pending_of monitor room most (Some (AgainCommand text orders blocks command)) fits kept is =
    let short : length text ≤ room = kept.0 in
    record { room = omega (arith, fits, short); orders_few = kept.1; blocks_few = kept.2; command_text = is }

gone_of : (j : JobState) (w : Work) → IsJob j → j.over ≡ false → IsWithin (room_of j) w → IsReady w → IsGoneOnWith j.monitor w
gone_of j w rules going within ready =
    let file : length j.monitor ≤ 1048576 = file_of j rules going in
    record { pending = pending_of j.monitor (room_of j) 0 w.again (omega (arith, file)) within.kept ready.command; level = ready.level }

module _ {S : Type 0} (answers : S → List ℕ → StoreCall → Answer → S → Type 0) (is_spent : S → Bool) (can_wait : S → ℕ → Bool) where
  -- the work of a turn was done
  pub makes : (j : JobState) (old : S) (w : Work) (new : S) → IsJob j → j.over ≡ false → length j.desk.units.writers ≤ 16
      → RanWell answers is_spent can_wait j.user old (turn_work j) w new → IsReady w → Makes answers is_spent can_wait j old w new
  makes j old w new rules going few r ready =
      let within : IsWithin (room_of j) w = turn_keeps answers is_spent can_wait j old w new rules few r in
      record { ran = r; within = within; gone = gone_of j w rules going within ready }

  -- the program of a turn, as the code begins it
  pub begun : (j : JobState) (room : ℕ) (pending : Option Pending) (start w : Work) (old new : S) → room ≡ room_of j → pending ≡ j.pending → start ≡ begin j
      → RanWell answers is_spent can_wait j.user old (begins room j.user pending start) w new → RanWell answers is_spent can_wait j.user old (turn_work j) w new
  begun j room pending start w old new er ep es r =
      subst (λ (n : ℕ). RanWell answers is_spent can_wait j.user old (begins n j.user j.pending (begin j)) w new) er
      (subst (λ (p : Option Pending). RanWell answers is_spent can_wait j.user old (begins room j.user p (begin j)) w new) ep
      (subst (λ (x : Work). RanWell answers is_spent can_wait j.user old (begins room j.user pending x) w new) es r))

  -- the same, if memory ran out on its way
  pub begun_part : (j : JobState) (room : ℕ) (pending : Option Pending) (start : Work) (old new : S) → room ≡ room_of j → pending ≡ j.pending → start ≡ begin j
      → RanInPart answers j.user old (begins room j.user pending start) new → RanInPart answers j.user old (turn_work j) new
  begun_part j room pending start old new er ep es r =
      subst (λ (n : ℕ). RanInPart answers j.user old (begins n j.user j.pending (begin j)) new) er
      (subst (λ (p : Option Pending). RanInPart answers j.user old (begins room j.user p (begin j)) new) ep
      (subst (λ (x : Work). RanInPart answers j.user old (begins room j.user pending x) new) es r))

  -- the answers on its way, and why it is over
  pub told : (j : JobState) (old : S) (w : Work) (new : S) → RanWell answers is_spent can_wait j.user old (turn_work j) w new
      → (told : List Answer) × RanBy answers j.user old (turn_work j) told w new × CauseOf (last_answer told) w.stop
  told j old w new r =
      let by = ran_by answers j.user (turn_work j) old w new (turn_ran answers is_spent can_wait j old w new r) in
      (by.0, by.1, turn_cause answers j old by.0 w new by.1)

-- the end of a turn doesn't depend on the desk or the wait of the job before
same_end : (j : JobState) (desk : Desk) (w : Work) (stop : Option Stop) (charge : Option Charge) → end_by stop (record j { desk = desk; pending = None; wants = None }) w charge ≡ end_by stop j w charge
same_end j desk w None None = refl
same_end j desk w None (Some charge) = refl
same_end j desk w (Some Full) None = refl
same_end j desk w (Some Full) (Some charge) = refl
same_end j desk w (Some Done) None = refl
same_end j desk w (Some Done) (Some charge) = refl
same_end j desk w (Some Broken) None = refl
same_end j desk w (Some Broken) (Some charge) = refl
same_end j desk w (Some (Waits serial)) None = refl
same_end j desk w (Some (Waits serial)) (Some charge) = refl

comes_to : (j : JobState) (w : Work) (charge : Option Charge) (t : Turn) (new : JobState) → (let end : Option (Turn × JobState) = Some (t, new) in turn_end j w charge ≡ end) → ComesTo j w charge t new
comes_to j w charge t new is = subst (λ (end : Option (Turn × JobState)). IfSome end (λ e. ComesTo j w charge e.0 e.1)) is (end_comes j w charge)

-- a turn that was stopped returns this
abbrev pub turn_in : Turn → Option (Turn × JobState) → Turn
turn_in other None = other
turn_in other (Some end) = end.0

broken_by : (j : JobState) (w : Work) (charge : Option Charge) (t : Turn) (new : JobState) → w.stop ≡ Some Broken
    → (let end : Option (Turn × JobState) = Some (t, new) in turn_end j w charge ≡ end) → t ≡ turn.Broken
broken_by j w None t new stop is =
    sym (ap (turn_in turn.Broken) (sym (ap (λ (s : Option Stop). end_by s j w None) stop) ∙ is))
broken_by j w (Some charge) t new stop is =
    absurd (false≢true (ap (λ (e : Option (Turn × JobState)). is_some e) (sym (ap (λ (s : Option Stop). end_by s j w (Some charge)) stop) ∙ is)))

module _ {F : Type 0} (calls : Shared F (Bor Usage × Unit {0}) Charge) (rule : F) where
  -- the end of the work's job is that of the job before
  pub turn_before : (j mid : JobState) (w : Work) (t : Turn) (new : JobState) → mid ≡ record j { desk = mid.desk; pending = None; wants = None } → IsTurn calls rule mid w t new
      → IsTurn calls rule j w t new
  turn_before j mid w t new is (charge, priced, end) =
      (charge, priced, sym (same_end j mid.desk w w.stop charge) ∙ ap (λ (x : JobState). turn_end x w charge) (sym is) ∙ end)

  pub waits_of : (j : JobState) (w : Work) (serial : ℕ) (new : JobState) → IsTurn calls rule j w (turn.Wants serial) new → w.stop ≡ Some (Waits serial)
  waits_of j w serial new (charge, priced, end) = (comes_to j w charge (turn.Wants serial) new end).0

  pub told_before : (j : JobState) (w : Work) (serial : ℕ) (new : JobState) → IsTurn calls rule j w (turn.Wants serial) new → ToldAsBefore j new
  told_before j w serial new (charge, priced, end) = (comes_to j w charge (turn.Wants serial) new end).2

  pub stopped_of : (j : JobState) (w : Work) (t : Turn) (new : JobState) → IsTurn calls rule j w t new → (w.stop ≡ Some Broken) ↔ (t ≡ turn.Broken)
  stopped_of j w t new (charge, priced, end) = (
    (λ stop. broken_by j w charge t new stop end),
    (λ is. comes_to j w charge turn.Broken new (subst (λ (x : Turn). let e : Option (Turn × JobState) = Some (x, new) in turn_end j w charge ≡ e) is end)),
  )

  charge_of : IsTariff calls rule → (room : ℕ) (w : Work) (charge : Option Charge) → IsWithin room w → IsPriced calls rule w charge → IfSome charge IsCharge
  charge_of tariff room w None within priced = tt
  charge_of tariff room w (Some charge) within priced =
      tariff.charges priced.shown charge (subst IsUsage (sym priced.shows) (record { orders = within.orders; blocks = within.blocks })) priced.says.met

  pub spends_of : IsTariff calls rule → (j : JobState) (w : Work) (t : Turn) (new : JobState) → IsJob j → j.over ≡ false → IsWithin (room_of j) w → IsTurn calls rule j w t new
      → Spends j t new
  spends_of tariff j w t new rules going within (charge, priced, end) =
      subst (λ (e : Option (Turn × JobState)). IfSome e (λ x. Spends j x.0 x.1)) end
      (end_spends j w charge rules going (charge_of tariff (room_of j) w charge within priced))

  -- the job's rules hold afterwards
  pub kept_of : IsTariff calls rule → (j : JobState) (w : Work) (t : Turn) (new : JobState) → IsJob j → j.over ≡ false → IsWithin (room_of j) w → IsGoneOnWith j.monitor w
      → IsTurn calls rule j w t new → IsJob new
  kept_of tariff j w t new rules going within gone (charge, priced, end) =
      subst (λ (e : Option (Turn × JobState)). IfSome e (λ x. IsJob x.1)) end
      (rules_kept j w charge rules going (charge_of tariff (room_of j) w charge within priced) within gone)

  -- the turn has ended, or memory ran out and the job is as its work left it
  pub rules_after : IsTariff calls rule → (j mid : JobState) (w : Work) (new : JobState) (r : Result Turn NoMemory) → IsJob j → j.over ≡ false → IsWithin (room_of j) w → IsGoneOnWith j.monitor w
      → mid ≡ record j { desk = mid.desk; pending = None; wants = None } → IfOk r (λ t. IsTurn calls rule mid w t new) → OnErr r (new ≡ mid) → IsJob new
  rules_after tariff j mid w new (Ok t) rules going within gone is ended kept = kept_of tariff j w t new rules going within gone (turn_before j mid w t new is ended)
  rules_after tariff j mid w new (Err e) rules going within gone is ended kept = subst IsJob (sym (kept ∙ is)) (clear_rules j mid.desk rules)
