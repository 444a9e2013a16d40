use Rattle.std.proofs.Common.{◌≡◌, ◌∙◌, ◌++◌, ◌∷◌, [], ap, sym, subst, append_assoc, get_or, List, ℕ}
use Rattle.g_macro.specs.Fronts.{Holds}
use Rattle.g_macro.specs.Expansion.{first_filled}
use Rattle.g_macro.proofs.FrontLemmas.{single-last, single-other, single-plain, asked-stays, put-in}
use Rattle.g_macro.proofs.expansion.fill.Goals as goal
use Rattle.g_macro.proofs.expansion.fill.Goals.{then-first-ne37-via-then-first-ne37, then-first-ne37-via-else-first-ne37+then-rest-lt2}

pub returns-then-first-ne37-clause-filled : goal.returns-then-first-ne37-clause-filled
returns-then-first-ne37-clause-filled c text holds =
    let same = elim c.then-first-ne37.branch as (λ _. first_filled c.args.params.now c.args.done.now c.args.rest.now ≡ get_or c.args.rest.now 0 0 ∷ []) [
      | then-first-ne37-via-then-first-ne37 w ↦ single-other c.args.params.now c.args.done.now c.args.rest.now c.requires.some w.if-first-ne37.true
      | then-first-ne37-via-else-first-ne37+then-rest-lt2 w ↦ single-last c.args.params.now c.args.done.now c.args.rest.now c.requires.some w.if-rest-lt2.true
    ] in
    subst (λ (ts : List ℕ). Holds (text ++ ts) c.push.new.self) (sym same) (c.push.ensures text holds)

pub returns-then-not-is_param_letter-clause-filled : goal.returns-then-not-is_param_letter-clause-filled
returns-then-not-is_param_letter-clause-filled c text holds =
    let same = single-plain c.args.params.now c.args.done.now c.args.rest.now c.if-rest-lt2.false c.if-second-eq37.false (sym c.if-not-is_param_letter.ensures) in
    subst (λ (ts : List ℕ). Holds (text ++ ts) c.push-then-not-is_param_letter.new.self) (sym same) (c.push-then-not-is_param_letter.ensures text holds)

pub returns-then-is_asked-clause-filled : goal.returns-then-is_asked-clause-filled
returns-then-is_asked-clause-filled c text holds =
    let first = get_or c.args.rest.now 0 0 in
    let second = get_or c.args.rest.now 1 0 in
    let same = asked-stays c.args.params.now c.args.done.now c.args.rest.now c.if-rest-lt2.false c.if-first-ne37.false c.if-second-eq37.false (sym c.if-not-is_param_letter.ensures) (sym c.if-is_asked.ensures) in
    subst (λ (ts : List ℕ). Holds ts c.push-then-is_asked-2.new.self)
    (append_assoc text (first ∷ []) (second ∷ []) ∙ ap (λ (ts : List ℕ). text ++ ts) (sym same))
    (c.push-then-is_asked-2.ensures (text ++ first ∷ []) (c.push-then-is_asked.ensures text holds))

pub returns-else-is_asked-clause-filled : goal.returns-else-is_asked-clause-filled
returns-else-is_asked-clause-filled c text holds =
    let same = put-in c.args.params.now c.args.done.now c.args.rest.now c.if-rest-lt2.false c.if-first-ne37.false c.if-second-eq37.false (sym c.if-not-is_param_letter.ensures) (sym c.if-is_asked.ensures) in
    subst (λ (ts : List ℕ). Holds (text ++ ts) c.extend.new.self) (c.get.ensures ∙ sym same) (c.extend.ensures text holds)
