use Rattle.std.proofs.Common.{◌+◌, ◌<◌, arith, refl, subst, sym}
use Rattle.g_disc_contents.specs.Facts.{OnlineFacts}
use Rattle.g_incr.specs.Plan.{needs}
use Rattle.g_online.specs.AllowedChanges.{KeepsRules}
use Rattle.g_online.specs.Change.{closed}
use Rattle.g_store_meaning.specs.StoreInvariant.{DumpFacts, IsOpen}
use Rattle.g_dumper.proofs.OpenLemmas.{goes_on, going_step, is_last, last_step, more_fits, place_fits, stopped_step, wrote_by}
use Rattle.g_dumper.proofs.RulesLemmas.{closing_rules}
use Rattle.g_dumper.proofs.dump.Dump.write_next.Goals as goal
use Rattle.g_dumper.proofs.dump.Dump.write_next.Goals.{in-Ok-close_dump, in-Err-close_dump}

pub overflow_add-at : goal.overflow_add-at
overflow_add-at g c =
    let d : DumpFacts = record { plan = c.self.inside.writer; done = c.self.inside.done } in
    let is = subst (λ (e : DumpFacts). IsOpen e c.args.online.now (g.T.Tapes.rack c.args.tapes.now)) (sym c.self.view_is) c.requires.open in
    let at = c.self.invariant.place_is in
    let fits = place_fits d _ _ (g.met.T.Tapes.well_formed _) is in
    omega (arith, at, fits)

pub overflow_add-self : goal.overflow_add-self
overflow_add-self g c =
    let d : DumpFacts = record { plan = c.self.inside.writer; done = c.self.inside.done } in
    let is = subst (λ (e : DumpFacts). IsOpen e c.args.online.now (g.T.Tapes.rack c.args.tapes.now)) (sym c.self.view_is) c.requires.open in
    let fits = more_fits d _ _ (g.met.T.Tapes.well_formed _) is in
    omega (arith, fits)

pub returns-then-self-needs-clause-open : goal.returns-then-self-needs-clause-open
returns-then-self-needs-clause-open g c = λ _.
    let d : DumpFacts = record { plan = c.self.inside.writer; done = c.self.inside.done } in
    let is = subst (λ (e : DumpFacts). IsOpen e c.args.online.now (g.T.Tapes.rack c.args.tapes.now)) (sym c.self.view_is) c.requires.open in
    goes_on d _ _ _ _ _ _ _ (g.met.T.Tapes.well_formed _) is c.in-Ok.ensures.same c.self.invariant.serial_is c.self.invariant.place_is c.in-Ok.ensures.block c.in-Ok-write.ensures.written c.in-Ok-write.ensures.durable
    (subst (λ n. c.self.inside.done + 1 < n) c.needs.ensures c.if-self-needs.true)

pub close_dump-requires-clause-rules : goal.close_dump-requires-clause-rules
close_dump-requires-clause-rules g c =
    let d : DumpFacts = record { plan = c.self.inside.writer; done = c.self.inside.done } in
    let is = subst (λ (e : DumpFacts). IsOpen e c.args.online.now (g.T.Tapes.rack c.args.tapes.now)) (sym c.self.view_is) c.requires.open in
    subst (λ n. KeepsRules (closed n c.next_block.new.online)) (sym c.self.invariant.number_is)
    (subst (λ (o : OnlineFacts). KeepsRules (closed d.plan.number o)) (sym c.in-Ok.ensures.same)
    (closing_rules d _ _ (g.met.T.Tapes.well_formed _) c.requires.live c.requires.tied c.self.invariant.rules is))

pub returns-then-self-needs-clause-step : goal.returns-then-self-needs-clause-step
returns-then-self-needs-clause-step g c =
    let d : DumpFacts = record { plan = c.self.inside.writer; done = c.self.inside.done } in
    let wrote = wrote_by d _ _ _ _ _ _ c.self.invariant.serial_is c.self.invariant.place_is c.in-Ok.ensures.block c.in-Ok-write.ensures.written c.in-Ok-write.ensures.durable in
    going_step d _ _ _ _ _ _ c.self.view_is refl c.in-Ok.ensures.same (subst (λ n. c.self.inside.done + 1 < n) c.needs.ensures c.if-self-needs.true) wrote

pub returns-clause-step : goal.returns-clause-step
returns-clause-step g c =
    let d : DumpFacts = record { plan = c.self.inside.writer; done = c.self.inside.done } in
    let wrote = wrote_by d _ _ _ _ _ _ c.self.invariant.serial_is c.self.invariant.place_is c.in-Ok.ensures.block c.in-Ok-write.ensures.written c.in-Ok-write.ensures.durable in
    let within = subst (λ (e : DumpFacts). e.done < needs e.plan) (sym c.self.view_is) c.requires.open.within in
    let last = is_last d _ c.needs.ensures within (λ more. let no : ⊥ = omega (arith, more, c.if-self-needs.false) in no) in
    let after : DumpFacts = record { plan = c.self.inside.writer; done = c.self.inside.done + 1 } in
    elim c.match-close_dump.branch [
      | in-Ok-close_dump w ↦
          rw w.result-is
          (last_step d _ after _ _ _ _ _ _ c.self.view_is refl c.in-Ok.ensures.same c.self.invariant.number_is last wrote w.in-Ok-close_dump.ensures)
      | in-Err-close_dump w ↦
          rw w.result-is
          (stopped_step d _ after _ _ _ _ _ _ _ c.self.view_is refl c.in-Ok.ensures.same c.self.invariant.number_is last wrote w.in-Err-close_dump.ensures)
    ]
