use Rattle.std.proofs.Common.{ap}
use Rattle.g_entry.specs.declared.head.Head.{Head}
use Rattle.g_store_calls.proofs.NextLemmas.{next_made}
use Rattle.g_store_calls.proofs.putting.next_of.Goals as goal

pub returns-clause-version : goal.returns-clause-version
returns-clause-version g c =
    next_made c.args.online.now c.requires.live c.requires.tied c.requires.early c.args.len c.requires.short c.tree.result.now.files c.args.number c.in-Some.file.now c.copy.result c.head.result.next_stamp
    c.tree.ensures.files c.in-Some.ensures.value c.copy.ensures (ap (λ (h : Head). h.next_stamp) c.head.ensures)
