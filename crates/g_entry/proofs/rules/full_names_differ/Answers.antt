use Rattle.std.proofs.Common.{◌≡◌, ◌≢◌, ◌↔◌, AllPairs, rules, tests}
use Rattle.std.specs.Prelude.{IsTrue}
use Rattle.std.proofs.lemmas.Result.{IfOk-weaker}
use Rattle.g_entry.specs.declared.file_rec.FileRec.{FileRec}
use Rattle.g_entry.specs.FileNames.{name_of}
use Rattle.g_entry.specs.Rules.{SameName}
use Rattle.g_entry.proofs.NameLemmas.{SameName-from, SameName-to, same_file_name}
use Rattle.g_entry.proofs.rules.full_names_differ.Goals as goal

pub returns : goal.returns
returns c =
    IfOk-weaker c.are_distinct.result (λ differ. IsTrue differ ↔ AllPairs (λ (r : FileRec) s. name_of r ≢ name_of s) c.args.files.now)
    (λ differ. IsTrue differ ↔ AllPairs (λ (r : FileRec) s. SameName r s → ⊥) c.args.files.now)
    (λ differ both. (
      λ tells i j d before inside same. both.0 tells i j d before inside (SameName-to _ _ same),
      λ all. both.1 (λ i j d before inside same. all i j d before inside (SameName-from _ _ same)),
    ))
    (c.are_distinct.ensures name_of (λ x r post. search (rules, tests)) same_file_name)
