-- The tree of a new filestore keeps the rules.
use Rattle.std.proofs.Common.{subst, sym}
use Rattle.g_plain.specs.Rules.{IsTree}
use Rattle.g_plain.proofs.StepKept.{formatted_kept}
use Rattle.g_plain_store.proofs.plain_store.PlainStore.new.Goals as goal

pub invariant_of-result : goal.invariant_of-result
invariant_of-result c = subst IsTree (sym c.in_ok-tree.ensures) formatted_kept
