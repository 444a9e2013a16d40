use Rattle.std.proofs.Common.{ap, subst}
use Rattle.g_files.specs.BlockFile.{Blocks}
use Rattle.g_files.specs.Growth.{IsOrderly}
use Rattle.g_files.specs.declared.reach.Reach.{Reach}
use Rattle.g_files.proofs.CallLemmas.{changes_before}
use Rattle.g_files.proofs.BlockRiskLemmas.{secures_then}
use Rattle.g_files.proofs.block_file.BlockFile.renew_and_sync.Goals as goal

pub returns-then-is_err-clause-durable : goal.returns-then-is_err-clause-durable
returns-then-is_err-clause-durable g c = record {
  no_more = c.renew.ensures.no_more;
  stored = λ kept. tt;
  all = tt;
  same = c.renew.ensures.durable;
  orderly = tt;
  disorderly = λ is. c.requires.disorderly (subst (λ (r : Reach). IsOrderly r) c.renew.ensures.reach is);
}

pub returns-clause-front : goal.returns-clause-front
returns-clause-front g c = changes_before c.sync.ensures.content c.renew.ensures.front

pub returns-clause-durable : goal.returns-clause-durable
returns-clause-durable g c =
    secures_then c.args.self.now c.renew.new.self c.sync.new.self c.sync.result (ap (λ (b : Blocks). b.len) c.renew.ensures.same) c.renew.ensures.front
    c.renew.ensures.no_more c.renew.ensures.durable c.sync.ensures.len c.sync.ensures.durable
