use Rattle.std.proofs.Common.{arith, sym, subst, ◌∙◌, ◌+◌, List, ℕ}
use Rattle.g_tape.proofs.ReadLemmas.{read_then}
use Rattle.g_incr.proofs.ListLemmas.{at_none, at_some}
use Rattle.g_incr.proofs.TapeLemmas.{HaveRead, ends_at, from_err, from_ok, one_more_read, read_up_to, reads_then, starved, to_err}
use Rattle.g_incr.proofs.tape.read_blocks.Goals as goal

pub returns-in-Ok-None-clause-found : goal.returns-in-Ok-None-clause-found
returns-in-Ok-None-clause-found g c =
    read_up_to c.args.serial c.args.from c.loop-k.k c.loop-k.blocks.items _ _ c.loop-k.invariant c.args.count (omega arith)
    (λ bs told. c.in-Ok-None.ensures.found bs told ∙ c.in-Ok-None.field-0-is)

pub returns-in-Ok-None-clause-read : goal.returns-in-Ok-None-clause-read
returns-in-Ok-None-clause-read g c = λ k least below.
    let at = c.loop-k.invariant.at in
    read_then c.args.serial k _ _ _ (c.loop-k.invariant.read k least (omega arith)) c.in-Ok-None.ensures.reads.only

pub returns-in-Ok-None-clause-fewer : goal.returns-in-Ok-None-clause-fewer
returns-in-Ok-None-clause-fewer g c = λ less.
    ends_at c.args.serial c.args.from c.loop-k.k c.loop-k.blocks.items _ _ c.loop-k.invariant (at_none _ _ c.in-Ok-None.field-0-is c.in-Ok-None.ensures.past)

pub returns-in-Err-read_block-clause-reads : goal.returns-in-Err-read_block-clause-reads
returns-in-Err-read_block-clause-reads g c =
    to_err c.args.serial _ _ _ (reads_then c.args.serial _ _ _ _ c.loop-k.invariant.reads (from_err c.args.serial _ _ _ c.in-Err-read_block.ensures.reads))

pub returns-in-Err-push-clause-reads : goal.returns-in-Err-push-clause-reads
returns-in-Err-push-clause-reads g c = starved c.args.serial _ _ _ c.loop-k.invariant.reads (from_ok c.args.serial _ _ _ c.in-Ok-Some.ensures.reads)

pub loop-k-preserved : goal.loop-k-preserved
loop-k-preserved g c =
    let old = g.T.Tapes.rack c.args.tapes.now in
    let mid = g.T.Tapes.rack c.loop-k.tapes in
    let new = g.T.Tapes.rack c.read_block.new.tapes in
    subst (λ (items : List (List ℕ)). HaveRead c.args.serial c.args.from (c.loop-k.k + 1) items old new) (sym c.in-Ok-push.ensures.items)
    (one_more_read c.args.serial c.args.from c.loop-k.k c.loop-k.blocks.items old mid c.loop-k.invariant new c.in-Ok-Some.block (from_ok c.args.serial mid new _ c.in-Ok-Some.ensures.reads)
    (λ bs told. c.in-Ok-Some.ensures.found bs told ∙ c.in-Ok-Some.field-0-is) (at_some _ _ _ c.in-Ok-Some.field-0-is c.in-Ok-Some.ensures.read))

pub returns-clause-read : goal.returns-clause-read
returns-clause-read g c = λ k least below. let at = c.loop-k.invariant.at in c.loop-k.invariant.read k least (omega arith)
