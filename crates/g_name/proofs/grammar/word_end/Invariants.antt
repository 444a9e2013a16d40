use Rattle.std.proofs.Common.{◌≡◌, take, true}
use Rattle.g_name.specs.Words.{may_be_word}
use Rattle.g_name.proofs.grammar.word_end.Given as goal

abbrev pub invariant-loop-place : goal.invariant-loop-place
invariant-loop-place l = may_be_word (take l.place l.text) ≡ true
