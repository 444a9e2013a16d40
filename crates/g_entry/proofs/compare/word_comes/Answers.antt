use Rattle.std.proofs.Common.{ℕ, ◌-◌, [], ◌∷◌, ◌++◌, length, arith}
use Rattle.std.specs.Prelude.{replicate}
use Rattle.g_base.specs.Fields.{padded}
use Rattle.g_base.proofs.FieldLemmas.{length-padded}
use Rattle.g_entry.proofs.ComingLemmas.{comes_two}
use Rattle.g_entry.proofs.compare.word_comes.Goals as goal

pub returns-clause-comes : goal.returns-clause-comes
unfolding padded
returns-clause-comes c =
    let word = c.args.word.now in
    let zeros = replicate {A = ℕ} (12 - length word) 0 in
    let behind = comes_two word zeros c.next_bytes_equal-counted.new.reader c.next_bytes_equal-same.new.reader c.zeros_come-zeros.new.reader c.next_bytes_equal-same.result c.zeros_come-zeros.result c.both.result c.next_bytes_equal-same.ensures c.zeros_come-zeros.ensures c.both.ensures in
    comes_two (length word ∷ []) (word ++ zeros) c.args.reader.now c.next_bytes_equal-counted.new.reader c.zeros_come-zeros.new.reader c.next_bytes_equal-counted.result c.both.result c.both-2.result c.next_bytes_equal-counted.ensures behind c.both-2.ensures

pub returns-clause-left : goal.returns-clause-left
returns-clause-left c =
    let whole = returns-clause-comes c in
    let long = whole.long in
    let field = length-padded 12 c.args.word.now c.requires.fits in omega arith
