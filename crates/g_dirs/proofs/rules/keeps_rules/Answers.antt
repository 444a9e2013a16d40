use Rattle.std.proofs.Common.{rules, ◌↔◌}
use Rattle.std.specs.Prelude.{IsTrue}
use Rattle.std.proofs.lemmas.Result.{IfOk-weaker}
use Rattle.g_dirs.specs.Directory.{IsDirectory, directory_of}
use Rattle.g_dirs.specs.Rules.{KeepAll}
use Rattle.g_dirs.proofs.RuleLemmas.{rules_from, rules_to}
use Rattle.g_dirs.proofs.rules.keeps_rules.Goals as goal

pub returns : goal.returns
returns c =
    let dirs = c.args.dirs.now in
    IfOk-weaker c.keep_all.result (λ keep. IsTrue keep ↔ KeepAll c.args.size dirs.head.next_stamp dirs.users.items dirs.files.items dirs.online.items)
    (λ keep. IsTrue keep ↔ IsDirectory c.args.size (directory_of dirs.head dirs.users.items dirs.files.items dirs.online.items))
    (λ keep both. (λ tells. rules_from c.args.size dirs c.requires (both.0 tells), λ is. both.1 (rules_to c.args.size dirs c.requires is)))
    (search rules)
