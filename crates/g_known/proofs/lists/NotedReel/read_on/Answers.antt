use Rattle.std.proofs.Common.{◌≡◌, ◌∙◌, ap, arith, refl, sym}
use Rattle.g_tape.proofs.ReadLemmas.{nothing_read}
use Rattle.g_shelf.proofs.ReadLemmas.{starved, went_on, went_wrong}
use Rattle.g_known.specs.ReelNotes.{end_in, number_in}
use Rattle.g_known.proofs.KnownLemmas.{all_noted, first_low, first_number, known_so_far, one_read_on, still_noted}
use Rattle.g_known.proofs.lists.NotedReel.read_on.Goals as goal

pub overflow_cast-at : goal.overflow_cast-at
overflow_cast-at g c =
    let low = first_low _ _ _ c.requires.known.first in
    let end : c.end-at.result ≡ end_in 0 c.args.self.now.notes.items = c.end-at.ensures ∙ ap (end_in 0) c.as_slice.ensures.value in
    omega arith

pub least_behind-least-requires : goal.least_behind-least-requires
least_behind-least-requires g c =
    let low = first_number _ _ _ c.requires.known.first in
    let number : number_in 0 c.as_slice-2.result.now ≡ number_in 0 c.args.self.now.notes.items = ap (number_in 0) c.as_slice-2.ensures.value in
    omega arith

pub returns-in-Err-push-clause-reads : goal.returns-in-Err-push-clause-reads
returns-in-Err-push-clause-reads g c = starved _ _ _ _ _ c.loop-dir.invariant.1.only c.loop-dir.invariant.1.kept c.in-Ok-Some.ensures.reads

pub loop-dir-preserved : goal.loop-dir-preserved
loop-dir-preserved g c = (
  c.loop-dir.invariant.0,
  one_read_on _ _ _ _ _ _ _ _ _ _ _ c.loop-dir.invariant.1 c.in-Ok-Some.ensures.reads (rw c.in-Ok-Some.field-0-is at c.in-Ok-Some.ensures.some) (rw c.in-Ok-Some.field-0-is at c.in-Ok-Some.ensures.low)
      c.in-Ok.ensures.items,
)

pub returns-in-Err-push-clause-known : goal.returns-in-Err-push-clause-known
returns-in-Err-push-clause-known g c =
    still_noted _ _ _ _ c.in-Err-push.ensures.items (known_so_far _ _ _ _ _ _ _ _ c.loop-dir.invariant.1 c.in-Ok-Some.ensures.reads.only c.requires.known)

pub returns-in-Ok-None-clause-reads : goal.returns-in-Ok-None-clause-reads
returns-in-Ok-None-clause-reads g c = went_on _ _ _ _ _ _ c.loop-dir.invariant.1.only c.loop-dir.invariant.1.kept c.in-Ok-None.ensures.reads

pub returns-in-Ok-None-clause-noted : goal.returns-in-Ok-None-clause-noted
returns-in-Ok-None-clause-noted g c = all_noted _ _ _ _ _ _ _ _ _ c.loop-dir.invariant.1 c.in-Ok-None.ensures.reads (rw c.in-Ok-None.field-0-is at c.in-Ok-None.ensures.none)

pub returns-in-Ok-None-clause-known : goal.returns-in-Ok-None-clause-known
returns-in-Ok-None-clause-known g c = known_so_far _ _ _ _ _ _ _ _ c.loop-dir.invariant.1 c.in-Ok-None.ensures.reads.only c.requires.known

pub returns-in-Err-clause-reads : goal.returns-in-Err-clause-reads
returns-in-Err-clause-reads g c = went_wrong _ _ _ _ _ c.loop-dir.invariant.1.only c.loop-dir.invariant.1.kept c.in-Err.ensures.reads

pub returns-in-Err-clause-known : goal.returns-in-Err-clause-known
returns-in-Err-clause-known g c = known_so_far _ _ _ _ _ _ _ _ c.loop-dir.invariant.1 c.in-Err.ensures.reads.only c.requires.known
