-- Each step of a dump is one of its needs.
-- serves: dumps_come_to_an_end
use Rattle.std.proofs.Common.{◌≡◌, ℕ, ◌+◌, ◌<◌, Option, Some, None, sym, ◌∙◌, ap, subst, inl, inr}
use Rattle.std.specs.Prelude.{◌⊎◌, Result, Ok, Err}
use Rattle.std.specs.Fn.{Shared}
use denote.Ref.{Bor}
use Rattle.g_rules.specs.declared.tariff.Usage.{Usage}
use Rattle.g_rules.specs.declared.tariff.Charge.{Charge}
use Rattle.g_rules.specs.declared.rule.Standing.{Standing}
use Rattle.g_plain.specs.declared.faults.StoreFault.{StoreFault}
use Rattle.g_plain.specs.declared.faults.StoreFault.TheVariants.{Stopped, DiscReadFault}
use Rattle.g_store_model.specs.State.{State, Holding, OpenDump}
use Rattle.g_store_model.specs.CallStep.{Outcome}
use Rattle.g_store_model.specs.DumpSteps.{DumpStep, Stepped as DumpStepped, Going, Completed}
use Rattle.g_run_model.specs.World.{World}
use Rattle.g_run_model.specs.Laws.{DumpsEnd}
use Rattle.g_run_model.proofs.TreeLemmas.{dump_store}

step_ends : (s : State) (k : Holding) (d : OpenDump) (o : Outcome) (r : Result DumpStepped StoreFault) (new : State) → DumpStep s k d o r new
    → (new.open_dump ≡ None) ⊎ ((d.done + 1 < d.needs) × (new.open_dump ≡ Some (record d { done = d.done + 1 })))
step_ends s k d o (Ok Going) new (more, cut, read, is) = inr (more, ap (λ (x : State). x.open_dump) is)
step_ends s k d o (Ok (Completed n)) new (last, cut, number, is) = inl (ap (λ (x : State). x.open_dump) is)
step_ends s k d o (Err DiscReadFault) new (read, content, is) = inl (ap (λ (x : State). x.open_dump) is)
step_ends s k d o (Err Stopped) new (cut, inl (inl is)) = inl (ap (λ (x : State). x.open_dump) is)
step_ends s k d o (Err Stopped) new (cut, inl (inr (at0, inl is))) = inl (ap (λ (x : State). x.open_dump) is)
step_ends s k d o (Err Stopped) new (cut, inl (inr (at0, inr is))) = inl (ap (λ (x : State). x.open_dump) is)
step_ends s k d o (Err Stopped) new (cut, inr (last, inl is)) = inl (ap (λ (x : State). x.open_dump) is)
step_ends s k d o (Err Stopped) new (cut, inr (last, inr is)) = inl (ap (λ (x : State). x.open_dump) is)
step_ends s k d o (Err fault) new step = absurd step

one_dump : (a b : OpenDump) → (let one : Option OpenDump = Some a in one ≡ Some b) → a ≡ b
one_dump a b e = cc

module _ {F U : Type 0} (tariffs : Shared F (Bor Usage × Unit {0}) Charge) (tariff : F) (rules : Shared U (Bor Standing × Unit {0}) ℕ) (rule : U) where
  pub dumps_end : DumpsEnd tariffs tariff rules rule
  dumps_end w new o dump opened (between, idle, undue, dumping, (r, s, (k, d, holds, there, step, tells), is)) =
      let same : d ≡ dump = one_dump d dump (sym there ∙ opened) in
      let at_s : new.store.open_dump ≡ s.open_dump = ap (λ (x : World). x.store.open_dump) is ∙ ap (λ (x : State). x.open_dump) (dump_store _ r s w) in
      by s at_s (subst (λ (x : OpenDump). (s.open_dump ≡ None) ⊎ ((x.done + 1 < x.needs) × (s.open_dump ≡ Some (record x { done = x.done + 1 })))) same (step_ends w.store k d o r s step))
    where
      by : (s : State) → new.store.open_dump ≡ s.open_dump → (s.open_dump ≡ None) ⊎ ((dump.done + 1 < dump.needs) × (s.open_dump ≡ Some (record dump { done = dump.done + 1 })))
          → (new.store.open_dump ≡ None) ⊎ ((dump.done + 1 < dump.needs) × (new.store.open_dump ≡ Some (record dump { done = dump.done + 1 })))
      by s at_s (inl none) = inl (at_s ∙ none)
      by s at_s (inr (more, some)) = inr (more, at_s ∙ some)
