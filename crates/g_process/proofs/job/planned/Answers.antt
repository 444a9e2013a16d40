use Rattle.std.proofs.Common.{◌≡◌, ◌∙◌, All, List, ap, subst, sym, true}
use Rattle.g_incr.specs.Plan.{needs}
use Rattle.g_shelf.specs.declared.rack.Listed.{Listed}
use Rattle.g_process.specs.Lists.{IsLostIn, IsOfFile, IsThere, notes_at}
use Rattle.g_process.proofs.JobLemmas.{living_are_files}
use Rattle.g_process.proofs.PrepareLemmas.{lost_copy, not_free, planned_job, rules, too_long}
use Rattle.g_process.proofs.job.planned.Goals as goal

pub returns-then-not-is_free : goal.returns-then-not-is_free
returns-then-not-is_free g c = λ before was.
    not_free c.args.serial c.args.online.now before (g.T.Tapes.rack c.args.tapes.now) c.args.lists.items was c.requires.live c.requires.tied
    (λ none.
    let yes_is : c.is_free.result ≡ true = c.is_free.ensures.1 (ap (notes_at c.args.serial) c.as_slice.ensures.value ∙ none) in
    let no_is = c.if-not-is_free.true in
    (let no : ⊥ = cc in no))

pub first_lost-requires-clause-there : goal.first_lost-requires-clause-there
first_lost-requires-clause-there g c = subst (All (IsOfFile c.args.online.now)) (sym (c.as_slice-3.ensures.value ∙ c.in-Ok.ensures)) (living_are_files c.args.online.now)

pub returns-in-Some : goal.returns-in-Some
returns-in-Some g c = λ before was.
    let none = sym (ap (notes_at c.args.serial) c.as_slice.ensures.value) ∙ c.is_free.ensures.0 c.if-not-is_free.false in
    lost_copy c.args.serial c.args.online.now before (g.T.Tapes.rack c.args.tapes.now) c.args.lists.items was c.requires.live c.requires.tied none c.in-Some.fault c.as_slice-3.result.now (c.as_slice-3.ensures.value ∙ c.in-Ok.ensures)
    (subst (λ (ls : List Listed). IsLostIn c.args.online.now ls c.as_slice-3.result.now c.in-Some.fault) c.as_slice-2.ensures.value c.in-Some.ensures.some)

pub writer_of-requires-clause-rules : goal.writer_of-requires-clause-rules
writer_of-requires-clause-rules g c =
    let (before, was) = c.requires.catalogue in
    rules c.args.serial c.args.online.now before (g.T.Tapes.rack c.args.tapes.now) c.args.lists.items was c.requires.live c.requires.tied

pub returns-then-need-room : goal.returns-then-need-room
returns-then-need-room g c = λ before was.
    let none = sym (ap (notes_at c.args.serial) c.as_slice.ensures.value) ∙ c.is_free.ensures.0 c.if-not-is_free.false in
    too_long c.args.serial c.args.online.now before (g.T.Tapes.rack c.args.tapes.now) c.args.lists.items was c.requires.live c.requires.tied none c.needs-need.result c.room_on-room.result (c.needs-need.ensures ∙ ap needs c.in-Ok-writer_of.ensures) c.if-need-room.true c.room_on-room.ensures

pub returns-in-Ok-made_ready : goal.returns-in-Ok-made_ready
returns-in-Ok-made_ready g c = λ before was.
    let none = sym (ap (notes_at c.args.serial) c.as_slice.ensures.value) ∙ c.is_free.ensures.0 c.if-not-is_free.false in
    planned_job c.args.serial c.args.online.now before (g.T.Tapes.rack c.args.tapes.now) c.args.lists.items was c.requires.live c.requires.tied none c.in-Ok-made_ready.job c.in-Ok-writer_of.writer c.as_slice-3.result.now c.needs-need.result c.room_on-room.result
    (c.as_slice-3.ensures.value ∙ c.in-Ok.ensures) c.in-Ok-writer_of.ensures
    (subst (λ (ls : List Listed). All (IsThere c.args.online.now ls) c.as_slice-3.result.now) c.as_slice-2.ensures.value c.in_default.ensures.none)
    c.needs-need.ensures c.if-need-room.false c.room_on-room.ensures c.in-Ok-made_ready.ensures
