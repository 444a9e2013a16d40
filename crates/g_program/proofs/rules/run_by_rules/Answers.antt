-- What the rules of this program answer is what their formulas say, so a run by them is one by the formulas.
use Rattle.std.proofs.Common.{rules, ◌≡◌, ℕ, ◌+◌, ◌*◌, ◌/◌}
use Rattle.std.specs.Fn.{FnReturnsAt}
use Rattle.g_rules.specs.declared.tariff.Charge.{Charge}
use Rattle.g_rules.specs.declared.tariff.Usage.{Usage}
use Rattle.g_rules.specs.declared.rule.Standing.{Standing}
use Rattle.g_program.specs.Rules.{answering, price, share_used}
use Rattle.g_program.proofs.RuleLemmas.{anew_as, demo_as, ends_as, survives_as}
use Rattle.g_program.proofs.rules.run_by_rules.Goals as goal

pub returns-clause-ends : goal.returns-clause-ends
returns-clause-ends g c = λ is left told.
    ends_as (answering price) tt (answering share_used) tt _ _ _ _ _ _ (c.george.ensures.ends is left told)
    (λ usage charge says.
    let met = says.says.met in
    let answered : charge ≡ price says.shown.now = search rules in
    record { shown = says.shown; shows = says.shows; says = record { met = answered } })
    (λ standing weight says.
    let met = says.says.met in
    let answered : weight ≡ share_used says.shown.now = search rules in
    record { shown = says.shown; shows = says.shows; says = record { met = answered } })

pub returns-clause-anew : goal.returns-clause-anew
returns-clause-anew g c = λ is left told begins.
    anew_as (answering price) tt (answering share_used) tt _ _ _ _ _ _ (c.george.ensures.anew is left told begins)
    (λ usage charge says.
    let met = says.says.met in
    let answered : charge ≡ price says.shown.now = search rules in
    record { shown = says.shown; shows = says.shows; says = record { met = answered } })
    (λ standing weight says.
    let met = says.says.met in
    let answered : weight ≡ share_used says.shown.now = search rules in
    record { shown = says.shown; shows = says.shows; says = record { met = answered } })

pub returns-clause-survives : goal.returns-clause-survives
returns-clause-survives g c = λ is safe left told.
    survives_as (answering price) tt (answering share_used) tt left _ _ _ _ (c.george.ensures.survives is safe left told)
    (λ usage charge says.
    let met = says.says.met in
    let answered : charge ≡ price says.shown.now = search rules in
    record { shown = says.shown; shows = says.shows; says = record { met = answered } })
    (λ standing weight says.
    let met = says.says.met in
    let answered : weight ≡ share_used says.shown.now = search rules in
    record { shown = says.shown; shows = says.shows; says = record { met = answered } })

pub returns-clause-demo : goal.returns-clause-demo
returns-clause-demo g c = λ demo is asked.
    let (same, ends) = c.george.ensures.demo demo is asked in (
      same,
      demo_as (answering price) tt (answering share_used) tt _ _ _ _ ends
          (λ usage charge says.
          let met = says.says.met in
          let answered : charge ≡ price says.shown.now = search rules in
          record { shown = says.shown; shows = says.shows; says = record { met = answered } })
          (λ standing weight says.
          let met = says.says.met in
          let answered : weight ≡ share_used says.shown.now = search rules in
          record { shown = says.shown; shows = says.shows; says = record { met = answered } }),
    )
