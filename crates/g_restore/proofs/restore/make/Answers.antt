use Rattle.std.proofs.Common.{List, ap, is_some, subst, sym, ◌∙◌}
use Rattle.g_disc.specs.Durable.{PowerLossLeaves}
use Rattle.g_entry.specs.declared.file_rec.FileRec.{FileRec}
use Rattle.g_entry.specs.declared.user_rec.UserRec.{UserRec}
use Rattle.g_online.specs.Beginning.{AsBeforeOr, first_contents}
use Rattle.g_online.specs.Faults.{store_fault_of}
use Rattle.g_restore.specs.Steps.{head_of}
use Rattle.g_restore.proofs.RebuildLemmas.{can_begin, was_stopped}
use Rattle.g_restore.proofs.restore.make.Goals as goal

pub fresh-requires-clause-rules : goal.fresh-requires-clause-rules
fresh-requires-clause-rules g c = can_begin _ c.args.dumped _ _ c.in-Ok.ensures.users c.in-Ok.ensures.files c.requires.directory

pub returns-in-Err-fresh-clause-survives : goal.returns-in-Err-fresh-clause-survives
returns-in-Err-fresh-clause-survives g c = λ is is_safe.
    let old = g.D.Disc.state c.args.disc in
    let new = g.D.Disc.state c.in-Err-fresh.disc in
    let head = head_of c.args.dumped in
    subst (λ (files : List FileRec). PowerLossLeaves (AsBeforeOr (first_contents (is_some old.held) head c.args.dumped.users.items files)) old new) c.in-Ok.ensures.files
    (subst (λ (users : List UserRec). PowerLossLeaves (AsBeforeOr (first_contents (is_some old.held) head users c.in-Ok.tree.files)) old new) c.in-Ok.ensures.users
    (c.in-Err-fresh.ensures.survives (was_stopped c.in-Err-fresh.fault (sym c.into.ensures ∙ is)) is_safe))

pub returns-in-Err-clause-disc_durable : goal.returns-in-Err-clause-disc_durable
returns-in-Err-clause-disc_durable g c = λ isnt k is. is

pub returns-in-Err-fresh-clause-disc_durable : goal.returns-in-Err-fresh-clause-disc_durable
returns-in-Err-fresh-clause-disc_durable g c = λ isnt. c.in-Err-fresh.ensures.durable (λ is. isnt (c.into.ensures ∙ ap store_fault_of is))
