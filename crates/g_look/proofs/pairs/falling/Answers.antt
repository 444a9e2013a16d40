use Rattle.std.proofs.Common.{◌-◌, arith}
use Rattle.g_look.specs.declared.broken.DumpAt.{DumpAt}
use Rattle.g_look.proofs.PairLemmas.{all_rise, in_place, lower_at, rise_more}
use Rattle.g_look.proofs.pairs.falling.Goals as goal

abbrev no_dump : DumpAt
no_dump = record { number = 0; serial = 0; place = 0; next_stamp = 0 }

pub returns-then-next-one-clause-some : goal.returns-then-next-one-clause-some
returns-then-next-one-clause-some c =
    let less = c.if-next-one.true in (
      in_place c.args.dumps.now c.requires (c.loop-i.i - 1) no_dump (omega arith),
      in_place c.args.dumps.now c.requires c.loop-i.i no_dump (omega arith),
      lower_at c.args.dumps.now c.requires c.loop-i.i no_dump (omega arith) (omega arith) (omega (arith, less)),
    )

pub loop-i-preserved : goal.loop-i-preserved
loop-i-preserved c =
    let up = c.if-next-one.false in
    rise_more c.args.dumps.now c.requires c.loop-i.i no_dump (omega arith) (omega arith) (omega (arith, up)) c.loop-i.invariant

pub returns-clause-none : goal.returns-clause-none
returns-clause-none c = all_rise _ c.requires _ (omega arith) c.loop-i.invariant
