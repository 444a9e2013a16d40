use Rattle.g_plain.specs.declared.faults.StoreFault.TheVariants.{TapeReadFault}
use Rattle.g_tape.proofs.ReadLemmas.{nothing_read}
use Rattle.g_restore.specs.declared.directory.Dumped.{Dumped}
use Rattle.g_restore.proofs.DirectoryLemmas.{down_of, few_read, given_of, is_one, named_of, none_of, of_dumps, of_reels, shelf_kept, shelf_named, shelf_of_reels, shelf_rose, shelf_some, shelf_up, up_of}
use Rattle.g_restore.proofs.DurableLemmas.{if_ok}
use Rattle.g_restore.proofs.restore.dumped_directory.Goals as goal

pub fold-requires : goal.fold-requires
fold-requires g c = record { few = rw c.as_slice.ensures.value (few_read _ _ c.in-Ok.ensures.found) }

pub returns-in-Some-clause-unmounted : goal.returns-in-Some-clause-unmounted
returns-in-Some-clause-unmounted g c = down_of _ _ c.in-Some.ensures.first

pub returns-in-Some-clause-reads : goal.returns-in-Some-clause-reads
returns-in-Some-clause-reads g c = nothing_read _

pub returns-in-Ok-clause-ok : goal.returns-in-Ok-clause-ok
returns-in-Ok-clause-ok g c = given_of _ _ c.in-Ok.ensures.found _ (rw c.as_slice.ensures.value at c.fold.ensures.ok)

pub returns-in-Ok-clause-unmounted : goal.returns-in-Ok-clause-unmounted
returns-in-Ok-clause-unmounted g c = up_of _ _ c.in-None.ensures.first c.fold.ensures.only

pub returns-in-Ok-clause-none : goal.returns-in-Ok-clause-none
returns-in-Ok-clause-none g c = λ is. none_of _ _ c.in-Ok.ensures.found (rw c.as_slice.ensures.value at (c.fold.ensures.none is))

pub returns-in-Ok-clause-lost : goal.returns-in-Ok-clause-lost
returns-in-Ok-clause-lost g c = named_of _ _ c.in-Ok.ensures.found _ (rw c.as_slice.ensures.value at c.fold.ensures.lost)

pub returns-in-Ok-clause-reads : goal.returns-in-Ok-clause-reads
returns-in-Ok-clause-reads g c = c.in-Ok.ensures.only

pub returns-in-Ok-clause-kept : goal.returns-in-Ok-clause-kept
returns-in-Ok-clause-kept g c = λ other. c.in-Ok.ensures.kept (λ wrong. let no : ⊥ = cc in no)

pub returns-in-Ok-clause-rose : goal.returns-in-Ok-clause-rose
returns-in-Ok-clause-rose g c = λ is. absurd (of_dumps _ TapeReadFault c.fold.ensures.only is)

pub returns-in-Ok-clause-only : goal.returns-in-Ok-clause-only
returns-in-Ok-clause-only g c = of_reels _ c.fold.ensures.only

pub returns-in-Err-clause-unmounted : goal.returns-in-Err-clause-unmounted
returns-in-Err-clause-unmounted g c = rw c.into.ensures (shelf_up _ _ c.in-None.ensures.first (is_one _ c.in-Err.ensures.faults))

pub returns-in-Err-clause-none : goal.returns-in-Err-clause-none
returns-in-Err-clause-none g c = rw c.into.ensures (λ is. absurd (shelf_some _ (is_one _ c.in-Err.ensures.faults) is))

pub returns-in-Err-clause-lost : goal.returns-in-Err-clause-lost
returns-in-Err-clause-lost g c = rw c.into.ensures (shelf_named Dumped _ _)

pub returns-in-Err-clause-kept : goal.returns-in-Err-clause-kept
returns-in-Err-clause-kept g c = rw c.into.ensures (shelf_kept _ _ _ c.in-Err.ensures.kept)

pub returns-in-Err-clause-rose : goal.returns-in-Err-clause-rose
returns-in-Err-clause-rose g c = rw c.into.ensures (shelf_rose _ _ _ c.in-Err.ensures.rose)

pub returns-in-Err-clause-only : goal.returns-in-Err-clause-only
returns-in-Err-clause-only g c = rw c.into.ensures (shelf_of_reels _ (is_one _ c.in-Err.ensures.faults))

pub returns-in-Ok-clause-durable : goal.returns-in-Ok-clause-durable
returns-in-Ok-clause-durable g c = if_ok c.fold.result c.in-Ok.ensures.durable
