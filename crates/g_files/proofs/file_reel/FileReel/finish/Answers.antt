use Rattle.std.proofs.Common.{ℕ, ap, subst, sym, arith}
use Rattle.g_files.specs.BlockFile.{Blocks}
use Rattle.g_files.specs.Risks.{Keeps}
use Rattle.g_files.proofs.BlockRiskLemmas.{kept_more}
use Rattle.g_files.proofs.ReelRiskLemmas.{kept_if_syncs, leaves_reel, syncs_if_kept}
use Rattle.g_files.proofs.file_reel.FileReel.finish.Goals as goal

pub returns-clause-no_more : goal.returns-clause-no_more
returns-clause-no_more g c =
    let f = c.args.self.now.blocks in
    let f' = c.finish.new.self in
    let whole = g.met.F.RawFile.remnants f.file in
    let whole' = g.met.F.RawFile.remnants f'.file in
    let counted = f.counted in record {
      leaves = leaves_reel f f' whole' (ap (λ (b : Blocks). b.held) c.finish.ensures.same) c.finish.ensures.no_more;
      syncable = λ can. syncs_if_kept f' whole'
          (subst (λ (n : ℕ). Keeps n f') (sym c.finish.ensures.durable)
          (kept_more f f' f.durable f.len counted counted (ap (λ (b : Blocks). b.len) c.finish.ensures.same) c.finish.ensures.front c.finish.ensures.no_more
          (kept_if_syncs f whole can)));
    }
