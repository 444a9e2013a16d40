use Rattle.std.proofs.Common.{◌≡◌, ◌+◌, suc, subst, arith}
use Rattle.std.proofs.lemmas.Bool.{false≢true}
use Rattle.g_name.specs.BadPlace.{IsBadPlace}
use Rattle.g_name.specs.Names.{IsUserText}
use Rattle.g_name.proofs.WordLemmas.{nothing_there, other_first, other_word}
use Rattle.g_name.proofs.user.User.parse.Goals as goal

pub returns-in_default-clause-err : goal.returns-in_default-clause-err
returns-in_default-clause-err c = nothing_there c.args.text.now c.in_default.ensures.cases

pub returns-then-first-ne58-clause-err : goal.returns-then-first-ne58-clause-err
returns-then-first-ne58-clause-err c = other_first c.args.text.now c.in-Some.first.now c.in-Some.word.now c.in-Some.ensures.cases.0 c.if-first-ne58.true

pub returns-in-None-clause-err : goal.returns-in-None-clause-err
returns-in-None-clause-err c =
    let one_more : suc c.word_end.result ≡ 1 + c.word_end.result = omega arith in
    let bad = other_word c.args.text.now c.in-Some.first.now c.in-Some.word.now c.word_end.result c.in-Some.ensures.cases.0 c.if-first-ne58.false
    (λ word. false≢true (c.in-None.ensures.word.1 word)) c.word_end.ensures in
    (bad.0, subst (IsBadPlace IsUserText c.args.text.now) one_more bad.1)
