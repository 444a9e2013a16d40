use Rattle.std.proofs.Common.{sym, ◌∙◌}
use Rattle.g_files.proofs.CallLemmas.{on_ok_at}
use Rattle.g_files.proofs.RiskLemmas.{left_none, written_by}
use Rattle.g_files.proofs.block_file.BlockFile.renew.Goals as goal

pub returns-clause-no_more : goal.returns-clause-no_more
returns-clause-no_more g c = λ left there.
    let f = c.args.self.now in
    let m = c.cut_tail.new.self in
    let d = g.F.RawFile.durability m.file in
    let d' = g.F.RawFile.durability c.rewrite.new.file in
    c.cut_tail.ensures.no_more left (left_none m.len d.remnants d'.remnants c.rewrite.ensures.durability.no_other left there)

pub returns-clause-written : goal.returns-clause-written
returns-clause-written g c = written_by c.rewrite.result c.rewrite.ensures.durability (on_ok_at c.cut_tail.result (sym c.is_err.ensures.value ∙ c.if-is_err.false) c.cut_tail.ensures.sized)
