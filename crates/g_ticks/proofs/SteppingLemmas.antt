-- What the devices count in a step of the open dump, by its outcome.
-- serves: DumpLemmas
use Rattle.std.proofs.Common.{◌≡◌, ℕ, List, Option, Result, Ok, Err, refl, sym, ap, subst, inl, inr}
use Rattle.g_disc_contents.specs.Facts.{OnlineFacts}
use Rattle.g_dumper.specs.Steps.{Abandoned, FailedWrite, Stepping, WroteBlock}
use Rattle.g_online.specs.Pins.{IsClosing}
use Rattle.g_online.specs.declared.fault.OnlineFault.{OnlineFault}
use Rattle.g_online.specs.declared.fault.OnlineFault.TheVariants as online
use Rattle.g_plain.specs.declared.faults.StoreFault.{StoreFault}
use Rattle.g_plain.specs.declared.faults.StoreFault.TheVariants.{DiscReadFault, Stopped}
use Rattle.g_store_meaning.specs.StoreInvariant.{DumpFacts}
use Rattle.g_disc_contents.specs.Facts.{Pin}
use Rattle.g_store_model.specs.CallStep.{Cut, DiscRead, Outcome, Plain, TapeRead}
use Rattle.g_store_model.specs.DumpSteps.{Completed, Going, Stepped}
use Rattle.g_tape.specs.Rack.{Rack}
use Rattle.g_run_model.specs.Devices.{Devices}
use Rattle.g_run_model.specs.Moves.{DumpCounted}
use Rattle.g_run_model.proofs.CountLemmas.{a_failure, dump_failed, happened_same, no_failure, none_failed, rack_failed}
use Rattle.g_run_model.proofs.EventToldLemmas.{OutcomeTold}

abbrev both : OnlineFacts → Rack → Devices
both o r = record { disc = o.disc; rack = r }

-- a block that was written moves no count
module _ (d : DumpFacts) (pins : Option (List Pin)) (r s : Rack) (wrote : WroteBlock d pins r s) where
  block_reads : s.read_faults ≡ r.read_faults
  block_reads = ap (λ (x : Rack). x.read_faults) wrote.rack

  block_writes : s.write_faults ≡ r.write_faults
  block_writes = ap (λ (x : Rack). x.write_faults) wrote.rack

  block_arms : s.arms ≡ r.arms
  block_arms = ap (λ (x : Rack). x.arms) wrote.rack

-- an answer that is Ok has no outcome but the plain one
plain_ok : {A : Type 0} (x : A) (outcome : Outcome) → (let answer : Result A StoreFault = Ok x in OutcomeTold outcome answer) → outcome ≡ Plain
plain_ok x Plain told = refl
plain_ok x DiscRead told = absurd (let is = told.told in let no : ⊥ = cc in no)
plain_ok x TapeRead told = absurd (let is = told.told in let no : ⊥ = cc in no)
plain_ok x Cut told = absurd (let is = told.told in let no : ⊥ = cc in no)

not_stopped : (let ok : Result (Unit {0}) OnlineFault = Ok tt in ok ≡ Err online.Stopped) → ⊥
not_stopped e = cc

module _ (d d2 : DumpFacts) (o o2 : OnlineFacts) (r r2 : Rack) where
  going : WroteBlock d o.pins r r2 → o2 ≡ o → DumpCounted Plain (both o r) (both o2 r2)
  going wrote is = happened_same (both o r) (both o2 r2) (ap (λ (x : OnlineFacts). x.disc.read_faults) is) (ap (λ (x : OnlineFacts). x.disc.write_faults) is) (ap (λ (x : OnlineFacts). x.disc.arms) is)
      (block_reads d o.pins r r2 wrote) (block_writes d o.pins r r2 wrote) (block_arms d o.pins r r2 wrote)

  done : (n : ℕ) → WroteBlock d o.pins r r2 → IsClosing n o o2 (Ok tt) → DumpCounted Plain (both o r) (both o2 r2)
  done n wrote closing = happened_same (both o r) (both o2 r2) (closing.causes.reads_kept (λ x. x)) (closing.causes.writes_kept not_stopped) closing.causes.arms
      (block_reads d o.pins r r2 wrote) (block_writes d o.pins r r2 wrote) (block_arms d o.pins r r2 wrote)

  unread : Abandoned d o o2 → r2 ≡ r → DumpCounted DiscRead (both o r) (both o2 r2)
  unread gone is =
      let writes = ap (λ (x : OnlineFacts). x.disc.write_faults) gone.facts in
      record {
        disc_read = a_failure o.disc.read_faults o2.disc.read_faults gone.rose;
        tape_read = no_failure r.read_faults r2.read_faults (ap (λ (x : Rack). x.read_faults) is);
        cuts = none_failed (both o r) (both o2 r2) writes (ap (λ (x : Rack). x.write_faults) is);
        disc_armed = ap (λ (x : OnlineFacts). x.disc.arms) gone.facts;
        tape_armed = ap (λ (x : Rack). x.arms) is;
      }

  tape_cut : FailedWrite d o.pins r r2 → o2 ≡ o → DumpCounted Cut (both o r) (both o2 r2)
  tape_cut failed is =
      let reads = ap (λ (x : Rack). x.read_faults) failed.rack in
      record {
        disc_read = no_failure o.disc.read_faults o2.disc.read_faults (ap (λ (x : OnlineFacts). x.disc.read_faults) is);
        tape_read = no_failure r.read_faults r2.read_faults reads;
        cuts = rack_failed (both o r) (both o2 r2) (ap (λ (x : OnlineFacts). x.disc.write_faults) is) failed.rose;
        disc_armed = ap (λ (x : OnlineFacts). x.disc.arms) is;
        tape_armed = ap (λ (x : Rack). x.arms) failed.rack;
      }

  disc_cut : (n : ℕ) → WroteBlock d o.pins r r2 → IsClosing n o o2 (Err online.Stopped) → DumpCounted Cut (both o r) (both o2 r2)
  disc_cut n wrote closing = record {
    disc_read = no_failure o.disc.read_faults o2.disc.read_faults (closing.causes.reads_kept (λ x. x));
    tape_read = no_failure r.read_faults r2.read_faults (block_reads d o.pins r r2 wrote);
    cuts = dump_failed (both o r) (both o2 r2) (closing.causes.writes_rose refl) (block_writes d o.pins r r2 wrote);
    disc_armed = closing.causes.arms;
    tape_armed = block_arms d o.pins r r2 wrote;
  }

  at_outcome : (outcome other : Outcome) → outcome ≡ other → DumpCounted other (both o r) (both o2 r2) → DumpCounted outcome (both o r) (both o2 r2)
  at_outcome outcome other is counted = subst (λ (x : Outcome). DumpCounted x (both o r) (both o2 r2)) (sym is) counted

  -- A STEP
  pub stepping_counted : (answer : Result Stepped StoreFault) (outcome : Outcome) → Stepping d o r answer d2 o2 r2 → OutcomeTold outcome answer → DumpCounted outcome (both o r) (both o2 r2)
  stepping_counted (Ok Going) outcome (more, dump, is, wrote) told = at_outcome outcome Plain (plain_ok Going outcome told) (going wrote is)
  stepping_counted (Ok (Completed n)) outcome (last, number, plan, wrote, closing) told = at_outcome outcome Plain (plain_ok (Completed n) outcome told) (done n wrote closing)
  stepping_counted (Err DiscReadFault) outcome (dump, is, gone) told = at_outcome outcome DiscRead (told.disc_read refl) (unread gone is)
  stepping_counted (Err Stopped) outcome (plan, inl (failed, is)) told = at_outcome outcome Cut (told.cut refl) (tape_cut failed is)
  stepping_counted (Err Stopped) outcome (plan, inr (last, wrote, closing)) told = at_outcome outcome Cut (told.cut refl) (disc_cut d.plan.number wrote closing)
  stepping_counted (Err fault) outcome step told = absurd step
