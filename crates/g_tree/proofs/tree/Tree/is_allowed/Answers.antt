-- A mode is among those that the user has.
use Rattle.std.proofs.Common.{ap, ◌∙◌}
use Rattle.g_trap.specs.ModeSet.{allows}
use Rattle.g_tree.specs.Records.{name_of_file}
use Rattle.g_tree.proofs.ResultLemmas.{some_then}
use Rattle.g_tree.proofs.tree.Tree.is_allowed.Goals as goal

pub returns : goal.returns
returns c = λ bytes next.
    some_then (name_of_file c.args.self.now.users c.args.self.now.files c.args.file) (λ full same. c.contains.ensures ∙ ap (λ modes. allows modes c.args.mode) same) (c.modes_of.ensures bytes next)
