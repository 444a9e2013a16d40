use Rattle.std.proofs.Common.{◌≡◌, ℕ, Result, arith, subst}
use Rattle.g_duplex.specs.declared.fault.DuplexFault.{DuplexFault}
use Rattle.g_duplex.specs.Copying.{BlockCopied}
use Rattle.g_duplex.proofs.CopyLemmas.{CopiedSoFar, copied_all, copied_badly, copied_more, copied_none, may_copy, may_copy_read, may_write}
use Rattle.g_duplex.proofs.PlaceLemmas.{suc_plus}
use Rattle.g_duplex.proofs.copying.copy_reel.Goals as goal

pub loop-k-init : goal.loop-k-init
loop-k-init g c = copied_none c.args.serial (g.T.Tapes.rack c.args.from.now) (g.T.Tapes.rack c.args.to.now)

pub copy_block-requires-clause-readable : goal.copy_block-requires-clause-readable
copy_block-requires-clause-readable g c =
    may_copy_read c.args.serial c.loop-k.k c.length_of-len.result (g.T.Tapes.rack c.args.from.now) (g.T.Tapes.rack c.args.to.now) (g.T.Tapes.rack c.loop-k.from) (g.T.Tapes.rack c.loop-k.to)
    (may_copy _ _ c.requires.free) c.length_of-len.ensures c.loop-k.invariant c.loop-k-test.true

pub copy_block-requires-clause-writable : goal.copy_block-requires-clause-writable
copy_block-requires-clause-writable g c =
    may_write c.args.serial c.loop-k.k c.length_of-len.result (g.T.Tapes.rack c.args.from.now) (g.T.Tapes.rack c.args.to.now) (g.T.Tapes.rack c.loop-k.from) (g.T.Tapes.rack c.loop-k.to)
    (g.met.T.Tapes.well_formed c.args.from.now) (may_copy _ _ c.requires.free) c.requires.room c.length_of-len.ensures c.loop-k.invariant c.loop-k-test.true

pub loop-k-preserved : goal.loop-k-preserved
loop-k-preserved g c =
    let copied = subst (λ (x : Result (Unit {0}) DuplexFault). BlockCopied c.args.serial c.loop-k.k (g.T.Tapes.rack c.loop-k.from) (g.T.Tapes.rack c.loop-k.to) x (g.T.Tapes.rack c.copy_block.new.from)
    (g.T.Tapes.rack c.copy_block.new.to)) c.in-Ok.is c.copy_block.ensures in
    subst (λ (j : ℕ). CopiedSoFar c.args.serial j (g.T.Tapes.rack c.args.from.now) (g.T.Tapes.rack c.args.to.now) (g.T.Tapes.rack c.copy_block.new.from) (g.T.Tapes.rack c.copy_block.new.to)) (suc_plus c.loop-k.k)
    (copied_more c.args.serial c.loop-k.k (g.T.Tapes.rack c.args.from.now) (g.T.Tapes.rack c.args.to.now) (g.T.Tapes.rack c.loop-k.from) (g.T.Tapes.rack c.loop-k.to) (g.T.Tapes.rack c.copy_block.new.from)
    (g.T.Tapes.rack c.copy_block.new.to) c.in-Ok.field-0 (g.met.T.Tapes.well_formed c.loop-k.to) c.loop-k.invariant copied)

pub returns-in-Err : goal.returns-in-Err
returns-in-Err g c =
    let copied = subst (λ (x : Result (Unit {0}) DuplexFault). BlockCopied c.args.serial c.loop-k.k (g.T.Tapes.rack c.loop-k.from) (g.T.Tapes.rack c.loop-k.to) x (g.T.Tapes.rack c.copy_block.new.from)
    (g.T.Tapes.rack c.copy_block.new.to)) c.in-Err.is c.copy_block.ensures in
    copied_badly c.args.serial c.loop-k.k (g.T.Tapes.rack c.args.from.now) (g.T.Tapes.rack c.args.to.now) (g.T.Tapes.rack c.loop-k.from) (g.T.Tapes.rack c.loop-k.to) (g.T.Tapes.rack c.copy_block.new.from)
    (g.T.Tapes.rack c.copy_block.new.to) c.in-Err.fault c.loop-k.invariant copied

pub returns : goal.returns
returns g c =
    let e : c.loop-k.k ≡ c.length_of-len.result = omega (arith, c.loop-k-test.false, c.loop-k.auto.k-end) in
    let so_far = subst (λ (j : ℕ). CopiedSoFar c.args.serial j (g.T.Tapes.rack c.args.from.now) (g.T.Tapes.rack c.args.to.now) (g.T.Tapes.rack c.loop-k.from) (g.T.Tapes.rack c.loop-k.to)) e c.loop-k.invariant in
    copied_all c.args.serial c.length_of-len.result (g.T.Tapes.rack c.args.from.now) (g.T.Tapes.rack c.args.to.now) (g.T.Tapes.rack c.loop-k.from) (g.T.Tapes.rack c.loop-k.to)
    (g.met.T.Tapes.well_formed c.args.from.now) (g.met.T.Tapes.well_formed c.loop-k.to) (may_copy _ _ c.requires.free) c.length_of-len.ensures so_far
