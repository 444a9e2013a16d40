use Rattle.std.proofs.Common.{ℕ, inr, subst}
use Rattle.g_laws_store.specs.UnjamPlan.{IsUnjamPlan}
use Rattle.g_store_calls.proofs.FetchLemmas.{need_of_file}
use Rattle.g_store_calls.proofs.fetching.brought_bytes.Goals as goal

pub bring_back-requires-clause-plan : goal.bring_back-requires-clause-plan
bring_back-requires-clause-plan g c = λ f there at.
    subst (λ (n : ℕ). IsUnjamPlan n c.args.online.now c.in-Ok.unjam.take c.in-Ok.unjam.room)
    (need_of_file c.args.online.now c.tree.result.now.files c.args.number c.needed_blocks-need.result c.tree.ensures.files c.needed_blocks-need.ensures f there at) c.in-Ok.ensures.plan

pub returns-clause-back : goal.returns-clause-back
returns-clause-back g c = λ f k away. inr (record {
  plan = c.in-Ok.unjam;
  planned = subst (λ (n : ℕ). IsUnjamPlan n c.args.online.now c.in-Ok.unjam.take c.in-Ok.unjam.room)
      (need_of_file c.args.online.now c.tree.result.now.files c.args.number c.needed_blocks-need.result c.tree.ensures.files c.needed_blocks-need.ensures f away.there away.number_is) c.in-Ok.ensures.plan;
  waits = c.bring_back.ensures.waits f k away;
  lost = c.bring_back.ensures.lost f k away;
  full = c.bring_back.ensures.full f k away;
  brought = c.bring_back.ensures.brought f k away;
  only = c.bring_back.ensures.only f k away;
})
