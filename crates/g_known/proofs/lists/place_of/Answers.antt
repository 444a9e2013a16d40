-- The list that was found is the first with its serial; if the loop ends, no list has the serial.
use Rattle.std.proofs.Common.{sym, ap, ◌∙◌, arith}
use Rattle.std.proofs.lemmas.List.{get_or_default}
use Rattle.g_known.specs.declared.lists.NotedReel.{NotedReel}
use Rattle.g_known.proofs.KnownLemmas.{place_first}
use Rattle.g_known.proofs.lists.place_of.Goals as goal

pub returns-then-list-serial : goal.returns-then-list-serial
returns-then-list-serial c =
    place_first _ _ _ c.loop-i-test.true
    (λ d. ap (λ (l : NotedReel). l.serial) (get_or_default _ _ d _ c.loop-i-test.true ∙ sym c.index-lists-i.is) ∙ c.if-list-serial.true)
    c.loop-i.invariant

pub returns : goal.returns
returns c = λ k d h. c.loop-i.invariant k d (omega (arith, h, c.loop-i-test.false))
