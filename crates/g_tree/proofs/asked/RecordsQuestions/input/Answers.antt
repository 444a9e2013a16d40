-- Without a generation it is the newest.
use Rattle.std.proofs.Common.{is_some, sym, ap, unwrap_or, ◌∙◌}
use Rattle.g_plain.specs.PlainTree.{input_name, named, newest}
use Rattle.g_plain.specs.Grants.{file_named}
use Rattle.g_tree.specs.AskedRecords.{zeros}
use Rattle.g_tree.specs.Records.{number_of, tree_of}
use Rattle.g_tree.proofs.AnswerLemmas.{input_newest, named_is, with_generation}
use Rattle.g_tree.proofs.RecordLemmas.{file_there}
use Rattle.g_tree.proofs.asked.RecordsQuestions.input.Goals as goal

pub returns-in-Some-clause-named : goal.returns-in-Some-clause-named
returns-in-Some-clause-named c =
    let s = c.args.self.now in
    let who = c.args.who.now in
    let path = c.args.path.now in
    let t = tree_of s.tree.now.users s.tree.now.files zeros s.next in
    c.find.ensures.named ∙ ap (file_named (number_of s.tree.now.users s.tree.now.files)) (c.named.ensures ∙ ap (λ o. named who path (unwrap_or o (newest t who path))) (sym c.in-Some.is))

pub newest_file-newest-requires : goal.newest_file-newest-requires
newest_file-newest-requires c = ap (λ f. f.generation) c.named-full.ensures

pub returns-in-None-clause-named : goal.returns-in-None-clause-named
returns-in-None-clause-named c =
    let s = c.args.self.now in
    let numbers = number_of s.tree.now.users s.tree.now.files in
    let newest = c.newest_file-newest in
    named_is numbers (with_generation c.named-full.result newest.result.generation) (input_name (tree_of s.tree.now.users s.tree.now.files zeros s.next) c.args.who.now c.args.path.now) newest.result.number newest.ensures.number
    (input_newest s.tree.now.users s.tree.now.files zeros s.next c.args.who.now c.args.path.now c.named-full.result newest.result.generation newest.ensures.records c.named-full.ensures c.in-None.is newest.ensures.newest)

pub returns-in-None-clause-there : goal.returns-in-None-clause-there
returns-in-None-clause-there c =
    let s = c.args.self.now in
    let newest = c.newest_file-newest in
    ap is_some newest.ensures.number ∙ file_there s.tree.now.users s.tree.now.files zeros s.next (with_generation c.named-full.result newest.result.generation)
