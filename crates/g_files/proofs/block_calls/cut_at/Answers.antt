use Rattle.std.proofs.Common.{ℕ, ◌*◌, ◌≤◌, List, length}
use Rattle.g_files.proofs.FaultLemmas.{counted}
use Rattle.g_files.proofs.FrontLemmas.{changes_to, set_cuts, set_long}
use Rattle.g_files.proofs.block_calls.cut_at.Goals as goal

pub returns-clause-cut : goal.returns-clause-cut
returns-clause-cut g c =
    let content = g.F.RawFile.content in
    let n = 512 * c.args.k in
    changes_to (λ (b : List ℕ). n ≤ length b) (content c.args.file.now) (content c.set_len.new.self) c.requires.long
    (λ b a long is. set_cuts n c.set_len.result b a long is) (rw c.start_of.ensures at c.set_len.ensures.cut)

pub returns-clause-done : goal.returns-clause-done
returns-clause-done g c =
    let content = g.F.RawFile.content in
    set_long (512 * c.args.k) c.set_len.result (content c.args.file.now) (content c.set_len.new.self) (rw c.start_of.ensures at c.set_len.ensures.cut)

pub returns-clause-cause : goal.returns-clause-cause
returns-clause-cause g c = counted c.set_len.result _ _ c.set_len.ensures.cause
