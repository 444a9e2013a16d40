-- The generation of a first is 1.
use Rattle.std.proofs.Common.{max, sym, subst}
use Rattle.g_tree.specs.Records.{full_of}
use Rattle.g_tree.specs.State.{HasNewest, HasTop, newest_in, risen, top_in}
use Rattle.g_tree.proofs.counts.Counts.put.Goals as goal

pub returns-then-file-eq1-clause-newest : goal.returns-then-file-eq1-clause-newest
returns-then-file-eq1-clause-newest c =
    let old = c.args.self.now.names.entries in
    let full = full_of c.args.users.now c.args.file.now in
    subst (λ n. HasNewest old c.put_first.new.self.names.entries full (max (newest_in old full) n)) (sym c.if-file-eq1.true) c.put_first.ensures.newest

pub returns-then-file-eq1-clause-top : goal.returns-then-file-eq1-clause-top
returns-then-file-eq1-clause-top c =
    let old = c.args.self.now.names.entries in
    let file = c.args.file.now in
    let full = full_of c.args.users.now file in
    subst (λ n. HasTop old c.put_first.new.self.names.entries full (risen (newest_in old full) (top_in old full) n file.number)) (sym c.if-file-eq1.true) c.put_first.ensures.top
