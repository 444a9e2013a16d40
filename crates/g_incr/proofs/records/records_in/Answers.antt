use Rattle.std.proofs.Common.{ℕ, take, drop, ap, sym, ◌∙◌}
use Rattle.std.proofs.lemmas.Bool.{false≢true}
use Rattle.g_incr.proofs.ListLemmas.{at_some}
use Rattle.g_incr.proofs.RecordsLemmas.{no_records}
use Rattle.g_incr.proofs.records.records_in.Goals as goal

pub returns-else-branch-clause-none : goal.returns-else-branch-clause-none
returns-else-branch-clause-none c = λ users held files has.
    no_records c.args.serial c.args.h.now c.in-Some.found.0.items users c.in-Some.found.1.items held c.in-Some-2.files.items files c.args.blocks.now c.split_at.result.0.now c.split_at.result.1.now
    (at_some _ _ _ c.in-Some.is c.in_ok-found.ensures.found) (at_some _ _ _ c.in-Some-2.is c.in_ok-files.ensures.found) (c.split_at.ensures.front ∙ ap (λ (n : ℕ). take n c.args.blocks.now) c.from-users.ensures)
    (c.split_at.ensures.back ∙ ap (λ (n : ℕ). drop n c.args.blocks.now) c.from-users.ensures)
    (λ keeps. false≢true (sym c.if-branch.false ∙ c.in_ok-keeps_rules.ensures.1 keeps)) has
