use Rattle.std.proofs.Common.{◌≡◌, ◌∙◌}
use Rattle.std.proofs.lemmas.Result.{err_from_is_err_and}
use Rattle.g_dirs.proofs.ReadLemmas.{directory_read, no_files, no_head, no_users, records_read, rules_broken}
use Rattle.g_dirs.specs.declared.fault.DirsFault.TheVariants.{NoFilestore}
use Rattle.g_dirs.proofs.read.read_dirs.Goals as goal

pub returns-in_err-head-clause-none : goal.returns-in_err-head-clause-none
returns-in_err-head-clause-none g c = λ stopped blocks told.
    let gave = err_from_is_err_and c.from_residual.result c.from_residual.ensures.1 in
    let why : c.in_err-head.field-0.0 ≡ NoFilestore = cc in
    no_head blocks (c.in_err-head.ensures.none (cc) blocks told)

pub returns-in_err-users-clause-none : goal.returns-in_err-users-clause-none
returns-in_err-users-clause-none g c = λ stopped blocks told.
    let gave = err_from_is_err_and c.from_residual-in_err-users.result c.from_residual-in_err-users.ensures.1 in
    let why : c.in_err-users.field-0.0 ≡ NoFilestore = cc in
    let held = c.in_ok-head.ensures.counts.held in
    no_users c.in_ok-head.format c.in_ok-head.head blocks (c.in_ok-head.ensures.ok blocks told) (c.in_err-users.ensures.none (cc) blocks (held ∙ told))

pub returns-in_err-files-clause-none : goal.returns-in_err-files-clause-none
returns-in_err-files-clause-none g c = λ stopped blocks told.
    let gave = err_from_is_err_and c.from_residual-in_err-files.result c.from_residual-in_err-files.ensures.1 in
    let why : c.in_err-files.field-0.0 ≡ NoFilestore = cc in
    let held = c.in_ok-users.ensures.counts.held ∙ c.in_ok-head.ensures.counts.held in
    no_files c.in_ok-head.format c.in_ok-head.head blocks (c.in_ok-head.ensures.ok blocks told) (c.in_err-files.ensures.none (cc) blocks (held ∙ told))

pub returns-then-branch-clause-ok : goal.returns-then-branch-clause-ok
returns-then-branch-clause-ok g c = λ blocks told.
    let one = c.in_ok-head.ensures.counts.held in
    let two = c.in_ok-users.ensures.counts.held ∙ one in
    let three = c.in_ok-files.ensures.counts.held ∙ two in
    directory_read c.in_ok-head.format _ c.size.result blocks (c.in_ok-head.ensures.ok blocks told) (c.in_ok-users.ensures.ok blocks (one ∙ told)) (c.in_ok-files.ensures.ok blocks (two ∙ told))
    (c.size.ensures.blocks blocks (three ∙ told)).0 (c.in_ok-keeps_rules.ensures.0 c.if-branch.true)

pub returns-else-branch-clause-none : goal.returns-else-branch-clause-none
returns-else-branch-clause-none g c = λ stopped blocks told.
    let one = c.in_ok-head.ensures.counts.held in
    let two = c.in_ok-users.ensures.counts.held ∙ one in
    let three = c.in_ok-files.ensures.counts.held ∙ two in
    rules_broken c.in_ok-head.format _ c.size.result blocks (c.in_ok-head.ensures.ok blocks told) (c.in_ok-users.ensures.ok blocks (one ∙ told)) (c.in_ok-files.ensures.ok blocks (two ∙ told))
    (c.size.ensures.blocks blocks (three ∙ told)).0 (rw c.if-branch.false at c.in_ok-keeps_rules.ensures.1)

pub returns-then-branch-clause-records : goal.returns-then-branch-clause-records
returns-then-branch-clause-records g c = records_read c.in_ok-head.format _ c.in_ok-head.ensures.limits c.in_ok-users.ensures.in_order c.in_ok-files.ensures.entries
