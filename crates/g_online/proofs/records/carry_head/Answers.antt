-- A head that stays has no block to mark, and one that changes marks its own.
use Rattle.g_online.proofs.MarkLemmas.{but_head}
use Rattle.g_online.proofs.records.carry_head.Goals as goal

pub returns-clause-covers : goal.returns-clause-covers
returns-clause-covers c = λ side d e covered before after users files. c.changed.ensures.covers side d e covered (but_head d e users files)
