-- A file is looked up by its full name; if there is no user of the number, there is no file.
use Rattle.std.proofs.Common.{sym, ap, is_some, ◌∙◌}
use Rattle.g_plain.specs.PlainTree.{has_file, input_name}
use Rattle.g_tree.specs.Records.{name_of, number_of, tree_of}
use Rattle.g_tree.proofs.AnswerLemmas.{nobodys_number}
use Rattle.g_tree.proofs.RecordLemmas.{file_there}
use Rattle.g_tree.proofs.tree.Tree.find.Goals as goal

pub returns-in-Some-clause-number : goal.returns-in-Some-clause-number
returns-in-Some-clause-number c = λ bytes next. c.number_of.ensures.number ∙ ap (number_of c.args.self.now.users c.args.self.now.files) (c.in-Some.ensures.some bytes next)

pub returns-in-Some-clause-there : goal.returns-in-Some-clause-there
returns-in-Some-clause-there c = λ bytes next.
    c.number_of.ensures.there bytes next ∙ ap (has_file (tree_of c.args.self.now.users c.args.self.now.files bytes next)) (c.in-Some.ensures.some bytes next)

pub returns-in-None-clause-number : goal.returns-in-None-clause-number
returns-in-None-clause-number c = λ bytes next.
    let users = c.args.self.now.users in
    let files = c.args.self.now.files in
    let full = input_name (tree_of users files bytes next) (name_of users c.args.owner) c.args.path.now in
    sym (nobodys_number users files bytes next (name_of users c.args.owner) c.args.path.now full c.in-None.ensures.records c.in-None.ensures.none)

pub returns-in-None-clause-there : goal.returns-in-None-clause-there
returns-in-None-clause-there c = λ bytes next.
    let users = c.args.self.now.users in
    let files = c.args.self.now.files in
    ap is_some (returns-in-None-clause-number c bytes next)
    ∙ file_there users files bytes next (input_name (tree_of users files bytes next) (name_of users c.args.owner) c.args.path.now)
