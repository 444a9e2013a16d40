use Rattle.std.proofs.Common.{ℕ, ◌≤◌, List, sym, subst}
use Rattle.std.specs.Prelude.{IfOk}
use Rattle.std.specs.List.Sorted.{IsNonDecreasingBy, IsPermutation}
use Rattle.std.proofs.lemmas.Result.{IfOk-weaker}
use Rattle.g_migrate.specs.declared.candidates.Candidate.{Candidate}
use Rattle.g_online.specs.declared.unjam.Unjam.{Unjam}
use Rattle.g_disc_contents.specs.Facts.{room_of}
use Rattle.g_migrate.specs.Candidates.{TakesFirst, candidates_in}
use Rattle.g_migrate.proofs.CandidateLemmas.{few_files, few_sorted, small_room, small_sorted}
use Rattle.g_migrate.proofs.MigrationLemmas.{rules_here}
use Rattle.g_migrate.proofs.PlanLemmas.{none_taken, oldest_first, plan_is, room_behind}
use Rattle.g_migrate.proofs.unjamming.plan_by_age.Goals as goal
use Rattle.g_migrate.proofs.unjamming.plan_by_age.Goals.{After-drop-candidates}

pub take_first-requires-clause-few : goal.take_first-requires-clause-few
take_first-requires-clause-few g c =
    let o = c.args.online.now in
    let records = (rules_here o c.requires.live c.requires.tied).records in
    few_sorted o.contents.files c.deref.result.now (few_files o records)
    (subst (λ (l : List Candidate). IsPermutation l c.deref.result.now) c.in_ok-candidates.ensures (subst (IsPermutation c.in_ok-candidates.candidates.items) (sym c.deref.ensures.value) c.sort_by_age.ensures.moved))

pub take_first-requires-clause-small : goal.take_first-requires-clause-small
take_first-requires-clause-small g c =
    let o = c.args.online.now in
    let records = (rules_here o c.requires.live c.requires.tied).records in
    small_sorted o.contents.files c.deref.result.now records.each_file
    (subst (λ (l : List Candidate). IsPermutation l c.deref.result.now) c.in_ok-candidates.ensures (subst (IsPermutation c.in_ok-candidates.candidates.items) (sym c.deref.ensures.value) c.sort_by_age.ensures.moved))

pub take_first-requires-clause-room : goal.take_first-requires-clause-room
take_first-requires-clause-room g c = subst (λ (n : ℕ). n ≤ 1_048_576) (sym c.room.ensures.room) (small_room c.args.online.now c.requires.tied)

-- the candidates are sorted by their age
sorted_there : (g : _) (c : After-drop-candidates g)
    → IsPermutation (candidates_in c.args.online.now.contents.files) c.deref.result.now × IsNonDecreasingBy (λ (x : Candidate). x.stamp) c.deref.result.now
sorted_there g c = (
  subst (λ (l : List Candidate). IsPermutation l c.deref.result.now) c.in_ok-candidates.ensures (subst (IsPermutation c.in_ok-candidates.candidates.items) (sym c.deref.ensures.value) c.sort_by_age.ensures.moved),
  subst (IsNonDecreasingBy (λ (x : Candidate). x.stamp)) (sym c.deref.ensures.value) c.sort_by_age.ensures.order,
)

-- what holds of a plan that takes the first of them
by_first : (g : _) (c : After-drop-candidates g) (P : Unjam → Type 0)
    → ((u : Unjam) → TakesFirst c.deref.result.now (room_of c.args.online.now) c.args.need u.take u.room → P u) → IfOk c.take_first.result P
by_first g c P each =
    IfOk-weaker c.take_first.result _ P each
    (subst (λ (n : ℕ). IfOk c.take_first.result (λ (u : Unjam). TakesFirst c.deref.result.now n c.args.need u.take u.room)) c.room.ensures.room c.take_first.ensures)

pub returns-clause-plan : goal.returns-clause-plan
returns-clause-plan g c =
    let o = c.args.online.now in
    let (moved, order) = sorted_there g c in
    by_first g c _ (λ u first. plan_is o c.args.need c.deref.result.now u.take u.room (rules_here o c.requires.live c.requires.tied).records moved order first)

pub returns-clause-order : goal.returns-clause-order
returns-clause-order g c =
    let (moved, order) = sorted_there g c in
    by_first g c _ (λ u first. oldest_first c.args.online.now c.args.need c.deref.result.now u.take u.room (rules_here c.args.online.now c.requires.live c.requires.tied).records moved order first)

pub returns-clause-room : goal.returns-clause-room
returns-clause-room g c =
    let o = c.args.online.now in
    let (moved, order) = sorted_there g c in
    by_first g c _ (λ u first. room_behind o c.args.need c.deref.result.now u.take u.room (rules_here o c.requires.live c.requires.tied).records moved order first c.room.ensures.fits)

pub returns-clause-none : goal.returns-clause-none
returns-clause-none g c = by_first g c _ (λ u first. none_taken c.deref.result.now _ c.args.need u.take u.room first)
