use Rattle.std.proofs.Common.{inl, inr}
use Rattle.g_demo.proofs.WordLemmas.{no_demo-outside}
use Rattle.g_demo.proofs.words.demo_by.Goals as goal

pub returns-then-rounds-eq0 : goal.returns-then-rounds-eq0
returns-then-rounds-eq0 c =
    no_demo-outside c.args.word.now c.args.number.now c.args.rounds.now c.in_ok-rounds.rounds c.in_ok-rounds.ensures.0 c.in_ok-rounds.ensures.1
    (elim c.then-rounds-eq0.either [ inl none ↦ inl none | inr many ↦ inr many.1 ])
