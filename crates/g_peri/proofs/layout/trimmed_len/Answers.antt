use Rattle.std.proofs.Common.{◌∙◌, arith}
use Rattle.g_peri.proofs.LayoutLaws.{trimmed_less, trimmed_whole}
use Rattle.g_peri.proofs.layout.trimmed_len.Goals as goal

pub loop-end-preserved : goal.loop-end-preserved
loop-end-preserved c =
    let within = c.loop-end.invariant.0 in
    (omega arith, trimmed_less c.args.bytes.now c.loop-end.end c.loop-end-test.true within c.if-bytes-end-eq32.true ∙ c.loop-end.invariant.1)

pub returns-else-bytes-end-eq32-clause-trimmed : goal.returns-else-bytes-end-eq32-clause-trimmed
returns-else-bytes-end-eq32-clause-trimmed c =
    trimmed_whole c.args.bytes.now c.loop-end.end c.loop-end-test.true c.loop-end.invariant.0 c.if-bytes-end-eq32.false ∙ c.loop-end.invariant.1
