use Rattle.std.proofs.Common.{◌∙◌, arith}
use Rattle.g_files.proofs.BlankLemmas.{blank_all, blank_more}
use Rattle.g_files.proofs.blank.is_blank.Goals as goal

pub returns-then-at-bytes-clause-blank : goal.returns-then-at-bytes-clause-blank
returns-then-at-bytes-clause-blank g c = λ yes x is.
    let long = c.in_ok-bytes.ensures.size x is in
    blank_all c.loop-read.at c.args.most x (c.loop-read.invariant.zeros x is) (omega (arith, long)) (omega (arith, long))

pub loop-read-preserved : goal.loop-read-preserved
loop-read-preserved g c =
    let inv = c.loop-read.invariant in record {
      same = c.read_at.ensures.same ∙ inv.same;
      zeros = λ x is.
          blank_more c.loop-read.at c.in_ok-count.count c.read_at.new.into x c.in_ok-count.ensures.count (inv.zeros x is)
          ((c.in_ok-count.ensures.given x (inv.same ∙ is)).given) (c.are_zeros.ensures c.if-not-are_zeros.false);
    }
