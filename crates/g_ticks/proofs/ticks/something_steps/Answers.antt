use Rattle.std.proofs.Common.{rules, ◌≡◌, true, false, is_some, option_map, sym, ◌∙◌, ap, subst}
use Rattle.g_store_meaning.specs.StoreInvariant.{DumpFacts}
use Rattle.g_day.specs.Parts.{IsReady, Seen, seen}
use Rattle.g_day.specs.System.{SystemFacts}
use Rattle.g_ticks.specs.Parts.{steps_in}
use Rattle.g_ticks.proofs.LeftLemmas.{left_down, seen_up}
use Rattle.g_ticks.proofs.RestLemmas.{down_rests, dump_steps, jobs_step}
use Rattle.g_ticks.proofs.ticks.something_steps.Goals as goal

pub returns-then-spent-clause-no : goal.returns-then-spent-clause-no
returns-then-spent-clause-no g c = λ e.
    let up = c.args.up.now in
    let down = left_down up.store.running (sym c.spent.ensures ∙ c.if-spent.true) in
    ap (λ (f : SystemFacts). steps_in (seen f up.crew up.count)) down
    ∙ down_rests (record { disc = up.store.running.online.disc; rack = up.store.running.rack }) up.crew up.count (subst (λ (f : SystemFacts). IsReady f up.crew) down c.requires.ready)

pub returns-then-is_some-clause-yes : goal.returns-then-is_some-clause-yes
returns-then-is_some-clause-yes g c = λ e.
    let up = c.args.up.now in
    let there : is_some (option_map (λ (d : DumpFacts). d.plan.number) up.store.running.dump) ≡ true = search rules in
    (sym c.spent.ensures ∙ c.if-spent.false, sym (dump_steps (λ (d : DumpFacts). d.plan.number) up.store.running up.crew up.count there))

pub returns-else-is_some-clause-yes : goal.returns-else-is_some-clause-yes
returns-else-is_some-clause-yes g c = λ yes.
    let up = c.args.up.now in
    let none : is_some (option_map (λ (d : DumpFacts). d.plan.number) up.store.running.dump) ≡ false = search rules in
    (sym c.spent.ensures ∙ c.if-spent.false, sym (c.job_steps.ensures up.count ∙ jobs_step (λ (d : DumpFacts). d.plan.number) up.store.running up.crew up.count none) ∙ yes)

pub returns-else-is_some-clause-no : goal.returns-else-is_some-clause-no
returns-else-is_some-clause-no g c = λ isnt.
    let up = c.args.up.now in
    let none : is_some (option_map (λ (d : DumpFacts). d.plan.number) up.store.running.dump) ≡ false = search rules in
    ap steps_in (seen_up up.store.running up.crew up.count (sym c.spent.ensures ∙ c.if-spent.false))
    ∙ sym (c.job_steps.ensures up.count ∙ jobs_step (λ (d : DumpFacts). d.plan.number) up.store.running up.crew up.count none) ∙ isnt
