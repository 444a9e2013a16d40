use Rattle.std.proofs.Common.{ℕ, ◌+◌, ◌*◌, ◌≤◌, List, length, arith}
use Rattle.g_files.proofs.FrontLemmas.{changes_to, set_keeps}
use Rattle.g_files.proofs.SectorLemmas.{grows_set, grows_then}
use Rattle.g_files.proofs.block_calls.extend.Goals as goal

pub returns-in_err-set_len-clause-front : goal.returns-in_err-set_len-clause-front
returns-in_err-set_len-clause-front g c =
    let content = g.F.RawFile.content in
    let n = 512 * c.args.k in
    changes_to (λ (b : List ℕ). n ≤ length b) (content c.args.file.now) (content c.set_len.new.self) c.requires.long
    (λ b a long is. set_keeps n n c.set_len.result b a (omega arith) long is) (rw c.start_of.ensures at c.set_len.ensures.cut)

pub returns-in_err-set_len-clause-grows : goal.returns-in_err-set_len-clause-grows
returns-in_err-set_len-clause-grows g c =
    let content = g.F.RawFile.content in
    let durability = g.F.RawFile.durability in
    let n = 512 * c.args.k in
    grows_set c.args.k n (content c.args.file.now) (content c.set_len.new.self) (durability c.args.file.now) (durability c.set_len.new.self)
    c.set_len.result (omega arith) (omega arith) (rw c.start_of.ensures at c.set_len.ensures.durability)

pub returns-clause-grows : goal.returns-clause-grows
returns-clause-grows g c =
    let content = g.F.RawFile.content in
    let durability = g.F.RawFile.durability in
    let n = 512 * c.args.k in
    grows_then c.args.k (durability c.args.file.now).remnants (durability c.set_len.new.self).remnants (durability c.set_len-2.new.self).remnants
    (grows_set c.args.k n (content c.args.file.now) (content c.set_len.new.self) (durability c.args.file.now) (durability c.set_len.new.self)
    c.set_len.result (omega arith) (omega arith) (rw c.start_of.ensures at c.set_len.ensures.durability))
    (grows_set c.args.k (512 * (c.args.k + 1)) (content c.set_len.new.self) (content c.set_len-2.new.self) (durability c.set_len.new.self) (durability c.set_len-2.new.self)
    c.set_len-2.result (omega arith) (omega arith) (rw c.start_of-2.ensures at c.set_len-2.ensures.durability))
