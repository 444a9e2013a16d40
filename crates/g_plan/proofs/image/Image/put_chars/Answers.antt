use Rattle.std.proofs.Common.{◌≡◌, ◌≤◌, ◌-◌, ◌+◌, ◌∙◌, Bool, Some, false, true, [], ◌∷◌, ap, arith, drop, length, length-drop, min, subst, sym, take, ℕ}
use Rattle.std.proofs.lemmas.Bool.{eqb-false, eqb-true}
use Rattle.std.proofs.lemmas.List.{take_all}
use Rattle.g_plan.specs.SecondPass.{IsPut}
use Rattle.g_plan.proofs.PutLemmas.{PutSoFar, chars-done, chars-next, chars-refused, put_none}
use Rattle.g_plan.proofs.WordLemmas.{no_length, some_length}
use Rattle.g_plan.proofs.image.Image.put_chars.Goals as goal

pub loop-rest-init : goal.loop-rest-init
loop-rest-init c = put_none c.args.start c.args.text.now c.args.self.now

pub loop-rest-preserved : goal.loop-rest-preserved
loop-rest-preserved c =
    let rest = c.loop-rest.rest.now in
    let m = c.min.result in
    let few : length (drop m rest) ≤ length rest - m = omega (arith, length-drop m rest) in
    let same : drop (min (length rest) 4) rest ≡ take (length rest - m) (drop m rest) =
    ap (λ (k : ℕ). drop k rest) (sym c.min.ensures) ∙ sym (take_all (length rest - m) (drop m rest) few) in
    let taken : IsPut (Some ((c.loop-rest.place, c.first_four.result) ∷ [])) c.loop-rest.self c.put.new.self true =
    subst (λ (b : Bool). IsPut (Some ((c.loop-rest.place, c.first_four.result) ∷ [])) c.loop-rest.self c.put.new.self b) c.if-not-put.false c.put.ensures in
    subst (PutSoFar c.args.start c.args.text.now c.args.self.now c.put.new.self (c.loop-rest.place + 1)) same
    (chars-next c.args.start c.args.text.now c.args.self.now c.loop-rest.self c.loop-rest.place rest c.loop-rest.invariant c.put.new.self c.first_four.result
    (some_length rest (eqb-false (length rest) 0 (sym c.is_empty.ensures ∙ c.loop-rest-test.true))) c.first_four.ensures taken)

pub returns-then-not-put : goal.returns-then-not-put
returns-then-not-put c =
    let rest = c.loop-rest.rest.now in
    let refused : IsPut (Some ((c.loop-rest.place, c.first_four.result) ∷ [])) c.loop-rest.self c.put.new.self false =
    subst (λ (b : Bool). IsPut (Some ((c.loop-rest.place, c.first_four.result) ∷ [])) c.loop-rest.self c.put.new.self b) c.if-not-put.true c.put.ensures in
    chars-refused c.args.start c.args.text.now c.args.self.now c.loop-rest.self c.loop-rest.place rest c.loop-rest.invariant c.put.new.self c.first_four.result
    (some_length rest (eqb-false (length rest) 0 (sym c.is_empty.ensures ∙ c.loop-rest-test.true))) c.first_four.ensures refused

pub returns : goal.returns
returns c =
    let rest = c.loop-rest.rest.now in
    chars-done c.args.start c.args.text.now c.args.self.now c.loop-rest.self c.loop-rest.place rest c.loop-rest.invariant
    (no_length rest (eqb-true (length rest) 0 (sym c.is_empty.ensures ∙ c.loop-rest-test.false)))
