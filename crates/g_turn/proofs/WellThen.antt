-- Programs built from others, run on any store.
-- serves: behind_echo (err, ok), goes (err, ok), GotoLemmas, ReadyLemmas, ReleaseLemmas, UnitsLemmas, crates above
use Rattle.std.proofs.Common.{◌≡◌, ℕ, Bool, true, false, List, Ok, Err, refl, sym, ap, ◌∙◌, subst, inr, if◌then◌else◌}
use Rattle.g_turn.specs.Bounds.{AlwaysGives, MayAnswer}
use Rattle.g_turn.specs.Outcomes.{is_over}
use Rattle.g_turn.specs.State.{Work}
use Rattle.g_turn.specs.Steps.{RanWell}
use Rattle.g_plain.proofs.AskLemmas.{RanInPart-first, RanInPart-then}
use Rattle.g_plain.specs.Programs.{Answer, Asks, Call, Gives, IsAnswer, Ran, RanInPart, and_then}
use Rattle.g_plain.specs.declared.calls.StoreCall.{StoreCall}
use Rattle.g_plain.specs.declared.faults.StoreFault.TheVariants as fault

may_answer : (asked : StoreCall) (answer : Answer) → MayAnswer asked answer → IsAnswer answer
may_answer asked (Ok reply) may = tt
may_answer asked (Err fault.NoMemory) may = absurd may
may_answer asked (Err refusal) may = refl

module _ {S : Type 0} (answers : S → List ℕ → StoreCall → Answer → S → Type 0) (is_spent : S → Bool) (can_wait : S → ℕ → Bool) (who : List ℕ) where
  abbrev pub Well : S → Asks Work → Work → S → Type 0
  Well old p given new = RanWell answers is_spent can_wait who old p given new

  abbrev pub Part : S → Asks Work → S → Type 0
  Part old p new = RanInPart answers who old p new

  ran : (p : Asks Work) (old : S) (given : Work) (new : S) → Well old p given new → Ran answers who old p given new
  ran (Gives x) old given new r = r
  ran (Call asked more) old given new r = (r.0, r.1, r.2.is, may_answer asked r.0 r.2.may, ran (more r.0) r.1 given new r.3)

  -- a program that has run, isn't over, and is continued by another
  pub well_then : (p : Asks Work) (next : Work → Asks Work) (old mid new : S) (w given : Work) → Well old p w mid → is_over w ≡ false → Well mid (next w) given new
      → Well old (and_then is_over p next) given new
  well_then (Gives x) next old mid new w given r go later =
      let e : is_over x ≡ false = ap is_over (sym r.0) ∙ go in
      subst (λ (b : Bool). Well old (if b then Gives x else next x) given new) (sym e)
      (subst (λ (s : S). Well s (next x) given new) r.1 (subst (λ (y : Work). Well mid (next y) given new) r.0 later))
  well_then (Call asked more) next old mid new w given r go later = (r.0, r.1, r.2, well_then (more r.0) next r.1 mid new w given r.3 go later)

  -- a program that has run and is over
  pub well_over : (p : Asks Work) (next : Work → Asks Work) (old new : S) (w : Work) → Well old p w new → is_over w ≡ true → Well old (and_then is_over p next) w new
  well_over (Gives x) next old new w r over =
      let e : is_over x ≡ true = ap is_over (sym r.0) ∙ over in
      subst (λ (b : Bool). Well old (if b then Gives x else next x) w new) (sym e) r
  well_over (Call asked more) next old new w r over = (r.0, r.1, r.2, well_over (more r.0) next r.1 new w r.3 over)

  -- a program that ran out of memory, and one that ran before another that did
  pub part_first : (p : Asks Work) (next : Work → Asks Work) (old new : S) → Part old p new → Part old (and_then is_over p next) new
  part_first p next old new r = RanInPart-first answers who is_over p next old new r

  pub part_then : (p : Asks Work) (next : Work → Asks Work) (old mid new : S) (w : Work) → Well old p w mid → is_over w ≡ false → Part mid (next w) new
      → Part old (and_then is_over p next) new
  part_then p next old mid new w r go later = RanInPart-then answers who is_over p next old mid new w (ran p old w mid r) go later

  -- a program that ran completely
  pub part_whole : (p : Asks Work) (old : S) (given : Work) (new : S) → Well old p given new → Part old p new
  part_whole (Gives x) old given new r = r.1
  part_whole (Call asked more) old given new r = inr (inr (r.0, r.1, r.2.is, may_answer asked r.0 r.2.may, part_whole (more r.0) r.1 given new r.3))

  -- a property of everything that a program can return holds for what it returned
  pub well_gives : (P : Work → Type 0) (p : Asks Work) (old : S) (given : Work) (new : S) → AlwaysGives P p → Well old p given new → P given
  well_gives P (Gives x) old given new g r = subst P (sym r.0) g
  well_gives P (Call asked more) old given new g r = well_gives P (more r.0) r.1 given new (g r.0 r.2.may) r.3
