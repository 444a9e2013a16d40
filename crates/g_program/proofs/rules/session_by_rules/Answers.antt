-- What the rules of this program answer is what their formulas say, so a session by them is one by the formulas.
use Rattle.std.proofs.Common.{rules, ◌≡◌, ℕ, ◌+◌, ◌*◌, ◌/◌}
use Rattle.g_rules.specs.declared.tariff.Charge.{Charge}
use Rattle.g_rules.specs.declared.tariff.Usage.{Usage}
use Rattle.g_rules.specs.declared.rule.Standing.{Standing}
use Rattle.g_program.specs.Rules.{answering, price, share_used}
use Rattle.g_program.proofs.SessionRuleLemmas.{anew_as, answers_as, session_as, survives_as}
use Rattle.g_program.proofs.rules.session_by_rules.Goals as goal

pub returns-clause-answers : goal.returns-clause-answers
returns-clause-answers g c = λ fresh t is s stand.
    answers_as (answering price) tt (answering share_used) tt s t (c.session.ensures.answers fresh t is s stand)
    (λ usage charge says.
    let met = says.says.met in
    let answered : charge ≡ price says.shown.now = search rules in
    record { shown = says.shown; shows = says.shows; says = record { met = answered } })
    (λ standing weight says.
    let met = says.says.met in
    let answered : weight ≡ share_used says.shown.now = search rules in
    record { shown = says.shown; shows = says.shows; says = record { met = answered } })

pub returns-clause-ends : goal.returns-clause-ends
returns-clause-ends g c = λ fresh t is s stand.
    session_as (answering price) tt (answering share_used) tt _ s _ _ t _ _ (c.session.ensures.ends fresh t is s stand)
    (λ usage charge says.
    let met = says.says.met in
    let answered : charge ≡ price says.shown.now = search rules in
    record { shown = says.shown; shows = says.shows; says = record { met = answered } })
    (λ standing weight says.
    let met = says.says.met in
    let answered : weight ≡ share_used says.shown.now = search rules in
    record { shown = says.shown; shows = says.shows; says = record { met = answered } })

pub returns-clause-survives : goal.returns-clause-survives
returns-clause-survives g c = λ safe fresh t is s stand.
    survives_as (answering price) tt (answering share_used) tt s _ _ t _ _ (c.session.ensures.survives safe fresh t is s stand)
    (λ usage charge says.
    let met = says.says.met in
    let answered : charge ≡ price says.shown.now = search rules in
    record { shown = says.shown; shows = says.shows; says = record { met = answered } })
    (λ standing weight says.
    let met = says.says.met in
    let answered : weight ≡ share_used says.shown.now = search rules in
    record { shown = says.shown; shows = says.shows; says = record { met = answered } })

pub returns-clause-anew : goal.returns-clause-anew
returns-clause-anew g c = λ fresh t is blank s stand.
    anew_as (answering price) tt (answering share_used) tt _ s _ _ t _ _ (c.session.ensures.anew fresh t is blank s stand)
    (λ usage charge says.
    let met = says.says.met in
    let answered : charge ≡ price says.shown.now = search rules in
    record { shown = says.shown; shows = says.shows; says = record { met = answered } })
    (λ standing weight says.
    let met = says.says.met in
    let answered : weight ≡ share_used says.shown.now = search rules in
    record { shown = says.shown; shows = says.shows; says = record { met = answered } })
