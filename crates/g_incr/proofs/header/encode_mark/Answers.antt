use Rattle.std.proofs.Common.{◌∙◌}
use Rattle.g_incr.proofs.HeaderLemmas.{mark_written}
use Rattle.g_incr.proofs.header.encode_mark.Goals as goal

pub returns : goal.returns
returns c = λ d of.
    c.finish.ensures ∙ mark_written c.args.n.now c.new-writer.result c.put_bytes.new.self c.put_u64.new.self c.put_u32.new.self c.put_u32-2.new.self c.put_zeros.new.self c.put_u32-3.new.self
    c.new-writer.ensures c.put_bytes.ensures c.put_u64.ensures c.put_u32.ensures c.put_u32-2.ensures c.put_zeros.ensures c.put_u32-3.ensures d of
