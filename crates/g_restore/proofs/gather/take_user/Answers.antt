use Rattle.g_restore.proofs.GatherLemmas.{bad_if}
use Rattle.g_restore.proofs.gather.take_user.Goals as goal

pub returns-then-branch-clause-bad : goal.returns-then-branch-clause-bad
returns-then-branch-clause-bad c = bad_if _ _ _ _ _ _ _ (rw c.as_slice.ensures.value at c.keep_file_rules.ensures) (c.in_ok-add_directory.ensures.some c.if-branch.true)
