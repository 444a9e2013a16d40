use Rattle.std.proofs.Common.{inl, inr, arith}
use Rattle.std.proofs.lemmas.Result.{on_err_weaker, on_ok_weaker}
use Rattle.g_files.specs.BlockFile.{blocks_seen}
use Rattle.g_files.proofs.ReelRiskLemmas.{failed_reel, kept_from_reel, kept_to, least_by, reel_kept, reel_stored, short_reel, syncs_if_kept}
use Rattle.g_files.specs.FileReel.{reel_of}
use Rattle.g_tape.proofs.ReelLemmas.{allowed-write}
use Rattle.g_files.proofs.file_reel.FileReel.end_with.Goals as goal

pub returns-clause-durable : goal.returns-clause-durable
returns-clause-durable g c =
    let k = c.args.k in
    let f = c.args.self.now.blocks in
    let f' = c.end_with-written.new.self in
    let r = c.end_with-written.result in
    let e = c.end_with-written.ensures in
    let whole = g.met.F.RawFile.remnants f.file in
    let whole' = g.met.F.RawFile.remnants f'.file in
    let least = least_by k c.args.block.now (blocks_seen f) (blocks_seen f') r (allowed-write k (reel_of c.args.self.now) c.requires.free).0 e.done e.left in record {
      front = λ n few kept. reel_kept f' whole' n (omega (arith, few, least)) (e.kept n few (kept_from_reel f whole n kept));
      syncable = λ can. syncs_if_kept f' whole' (e.secured (kept_to f whole k (inl can)));
      fresh = λ kept. syncs_if_kept f' whole' (e.secured (kept_to f whole k (inr kept)));
      short = short_reel f' whole' k c.args.block.now (blocks_seen f) r e.done e.orderly;
      synced = λ needed able. on_ok_weaker r (reel_stored f' whole') (e.stored needed (kept_to f whole k able));
      failed = on_err_weaker r (λ each seen at left there. elim (each seen at left there) [
        | inl same ↦ inl same
        | inr is ↦ inr (record { short = is.0; front = is.1 })
      ]) (failed_reel f f' k c.args.block.now r whole whole' e.front e.begun);
    }
