use Rattle.std.proofs.Common.{◌≡◌, ℕ, ◌≤◌, length, inl, inr, refl, sym, arith, take, ap, ◌∙◌}
use Rattle.std.proofs.Math.Nat.{le_refl}
use Rattle.g_name.specs.Words.{may_be_word}
use Rattle.g_name.proofs.WordLemmas.{word_wrong}
use Rattle.g_name.proofs.grammar.word_end.Goals as goal

pub returns-then-not-extends : goal.returns-then-not-extends
returns-then-not-extends c =
    let within : c.loop-place.place ≤ length c.args.text.now = omega arith in
    word_wrong c.args.text.now c.loop-place.place within c.loop-place.invariant (inr (sym c.extends.ensures ∙ c.if-not-extends.true))

pub returns : goal.returns
returns c =
    let all : length c.args.text.now ≡ c.loop-place.place = omega arith in
    word_wrong c.args.text.now (length c.args.text.now) (le_refl _) (ap (λ (k : ℕ). may_be_word (take k c.args.text.now)) all ∙ c.loop-place.invariant) (inl refl)
