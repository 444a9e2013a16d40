use Rattle.std.proofs.Common.{ℕ, List, [], ◌∷◌, ◌++◌, Option, Some, None, ap, sym, arith}
use Rattle.g_base.specs.Fields.{number}
use Rattle.g_entry.specs.FileFields.{copy_fields}
use Rattle.g_entry.proofs.ComingLemmas.{comes_as, comes_two, length-copy}
use Rattle.g_entry.proofs.compare.copy_comes.Goals as goal

pub returns-in-None-clause-comes : goal.returns-in-None-clause-comes
returns-in-None-clause-comes c = comes_as (copy_fields None) (copy_fields c.args.copy) c.args.reader.now c.zeros_come.new.reader c.zeros_come.result (ap copy_fields (sym c.in-None.is)) c.zeros_come.ensures

pub returns-in-Some-clause-comes : goal.returns-in-Some-clause-comes
unfolding number
returns-in-Some-clause-comes c =
    let first = comes_as c.to_be_bytes-in-Some.result (number 4 c.in-Some.copy.first) c.next_bytes_equal-serial.new.reader c.next_bytes_equal-first.new.reader c.next_bytes_equal-first.result c.to_be_bytes-in-Some.ensures c.next_bytes_equal-first.ensures in
    let serial = comes_as c.to_be_bytes.result (number 4 c.in-Some.copy.serial) c.next_bytes_equal-there.new.reader c.next_bytes_equal-serial.new.reader c.next_bytes_equal-serial.result c.to_be_bytes.ensures c.next_bytes_equal-serial.ensures in
    let two = comes_two (number 4 c.in-Some.copy.serial) (number 4 c.in-Some.copy.first) c.next_bytes_equal-there.new.reader c.next_bytes_equal-serial.new.reader c.next_bytes_equal-first.new.reader c.next_bytes_equal-serial.result c.next_bytes_equal-first.result c.both.result serial first c.both.ensures in
    let whole = comes_two (1 ∷ []) (number 4 c.in-Some.copy.serial ++ number 4 c.in-Some.copy.first) c.args.reader.now c.next_bytes_equal-there.new.reader c.next_bytes_equal-first.new.reader c.next_bytes_equal-there.result c.both.result c.both-in-Some.result c.next_bytes_equal-there.ensures two c.both-in-Some.ensures in
    comes_as (copy_fields (Some c.in-Some.copy)) (copy_fields c.args.copy) c.args.reader.now c.next_bytes_equal-first.new.reader c.both-in-Some.result (ap copy_fields (sym c.in-Some.is)) whole

pub returns-in-None-clause-left : goal.returns-in-None-clause-left
returns-in-None-clause-left c =
    let whole = returns-in-None-clause-comes c in
    let long = whole.long in
    let field = length-copy c.args.copy in omega arith

pub returns-in-Some-clause-left : goal.returns-in-Some-clause-left
returns-in-Some-clause-left c =
    let whole = returns-in-Some-clause-comes c in
    let long = whole.long in
    let field = length-copy c.args.copy in omega arith
