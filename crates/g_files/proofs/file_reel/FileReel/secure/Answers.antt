use Rattle.std.proofs.Common.{ap}
use Rattle.g_files.specs.BlockFile.{Blocks}
use Rattle.g_files.proofs.BlockRiskLemmas.{secured_by}
use Rattle.g_files.proofs.ReelRiskLemmas.{kept_if_syncs, leaves_reel, secured_reel, syncs_if_kept}
use Rattle.g_files.proofs.file_reel.FileReel.secure.Goals as goal

pub returns-clause-durable : goal.returns-clause-durable
returns-clause-durable g c =
    let f = c.args.self.now.blocks in
    let f' = c.secure.new.self in
    let s = c.secure.ensures.durable in
    let whole = g.met.F.RawFile.remnants f.file in
    let whole' = g.met.F.RawFile.remnants f'.file in record {
      no_more = record {
        leaves = leaves_reel f f' whole' (ap (λ (b : Blocks). b.held) c.secure.ensures.same) s.no_more;
        syncable = λ can. syncs_if_kept f' whole'
            (secured_by f f' c.secure.result (ap (λ (b : Blocks). b.len) c.secure.ensures.same) c.secure.ensures.front s (kept_if_syncs f whole can));
      };
      durable = secured_reel f f' whole whole' c.secure.result s.stored;
    }
