use Rattle.std.proofs.Common.{◌≢◌, ◌↔◌, AllPairs, arith}
use Rattle.std.specs.Prelude.{IsTrue}
use Rattle.std.proofs.lemmas.Result.{IfOk-weaker}
use Rattle.g_entry.specs.declared.file_rec.FileRec.{FileRec}
use Rattle.g_entry.specs.Rules.{AreFiles, SameName}
use Rattle.g_entry.proofs.RuleLemmas.{files_from}
use Rattle.g_entry.proofs.rules.files_keep.Goals as goal

pub returns : goal.returns
returns c =
    IfOk-weaker c.files_differ.result
    (λ keep. IsTrue keep ↔ (AllPairs (λ (r : FileRec) s. SameName r s → ⊥) c.args.files.now × AllPairs (λ (r : FileRec) s. r.stamp ≢ s.stamp) c.args.files.now))
    (λ keep. IsTrue keep ↔ AreFiles c.args.users c.args.files.now)
    (λ keep both. (
      λ tells. let differ = both.0 tells in files_from c.args.users c.args.files.now (omega arith) (c.all_keep.ensures.0 c.if-not-all_keep.false) differ.0 differ.1,
      λ are. both.1 (are.names, are.stamps),
    ))
    c.files_differ.ensures
