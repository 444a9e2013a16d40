-- Without a generation it is one more than the newest, and doesn't exist.
use Rattle.std.proofs.Common.{sym, ap, unwrap_or, ◌+◌, ◌∙◌}
use Rattle.g_plain.specs.PlainTree.{named, newest}
use Rattle.g_plain.specs.Grants.{file_named}
use Rattle.g_tree.specs.AskedRecords.{zeros}
use Rattle.g_tree.specs.Records.{number_of, tree_of}
use Rattle.g_tree.proofs.AnswerLemmas.{output_absent, output_unnumbered}
use Rattle.g_tree.proofs.asked.RecordsQuestions.output.Goals as goal

pub returns-in-Some-clause-named : goal.returns-in-Some-clause-named
returns-in-Some-clause-named c =
    let s = c.args.self.now in
    let who = c.args.who.now in
    let path = c.args.path.now in
    let t = tree_of s.tree.now.users s.tree.now.files zeros s.next in
    c.find.ensures.named ∙ ap (file_named (number_of s.tree.now.users s.tree.now.files)) (c.named.ensures ∙ ap (λ o. named who path (unwrap_or o (newest t who path + 1))) (sym c.in-Some.is))

pub newest_by-newest-requires : goal.newest_by-newest-requires
newest_by-newest-requires c = ap (λ f. f.generation) c.named-full.ensures

pub returns-in-None-clause-named : goal.returns-in-None-clause-named
returns-in-None-clause-named c =
    let s = c.args.self.now in
    output_unnumbered s.tree.now.users s.tree.now.files zeros s.next c.args.who.now c.args.path.now c.named-full.result c.newest_by-newest.result c.newest_by-newest.ensures.records c.named-full.ensures c.in-None.is
    c.newest_by-newest.ensures.newest

pub returns-in-None-clause-there : goal.returns-in-None-clause-there
returns-in-None-clause-there c =
    let s = c.args.self.now in
    output_absent s.tree.now.users s.tree.now.files zeros s.next c.args.who.now c.args.path.now c.named-full.result c.newest_by-newest.result c.newest_by-newest.ensures.records c.newest_by-newest.ensures.newest
