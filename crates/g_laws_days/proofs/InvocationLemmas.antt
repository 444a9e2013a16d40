-- Invocations lead from state to state.
-- serves: invocations_lead
use Rattle.std.proofs.Common.{◌≡◌, ◌⊎◌, ◌<◌, ℕ, Bool, true, false, List, [], ◌∷◌, Option, None, refl, sym, subst, inl, inr}
use Rattle.std.specs.Fn.{Shared}
use denote.Ref.{Bor}
use Rattle.g_rules.specs.declared.tariff.Charge.{Charge}
use Rattle.g_rules.specs.declared.tariff.Usage.{Usage}
use Rattle.g_rules.specs.declared.rule.Standing.{Standing}
use Rattle.g_store_model.specs.CallStep.{down}
use Rattle.g_store_model.specs.State.{State}
use Rattle.g_run_model.specs.Devices.{Devices, StandFor}
use Rattle.g_laws_runs.specs.NewDevices.{NewDevicesStand}
use Rattle.g_laws_days.specs.Invocations.{AreInOrder, EndsBy, Invocation, InvocationsLead, Lead, LeadsTo, Prints, RunsFrom}

module _ {F U : Type 0} (tariffs : Shared F (Bor Usage × Unit {0}) Charge) (tariff : F) (rules : Shared U (Bor Standing × Unit {0}) ℕ) (rule : U) where
  -- the state that an invocation leaves, with the devices that represent it
  abbrev Leaves : State → Invocation → Type 0
  Leaves s c = (after : State) × LeadsTo tariffs tariff rules rule s c after × StandFor c.new after

  one : (s : State) (c : Invocation) (whole : Bool) → c.whole ≡ whole → StandFor c.old s → EndsBy tariffs tariff rules rule whole c → Leaves s c
  one s c true is stands (lines, bad, parsed, ends) =
      let e = ends s stands in
      let prints : Prints tariffs tariff rules rule c.whole e.last c.before c.after = subst (λ (b : Bool). Prints tariffs tariff rules rule b e.last c.before c.after) (sym is) (e.over, e.text) in
      (down e.last.store, inl (record { lines = lines; bad = bad; parsed = parsed; moves = e.moves; last = e.last; run = e.run_of.run; counted = e.run_of.counted; prints = prints; leaves = refl }), e.run_of.stands)
  one s c false is stands (inl (same, put)) = (s, inr (refl, is, same, put), subst (λ (d : Devices). StandFor d s) (sym same) stands)
  one s c false is stands (inr (lines, bad, parsed, ends)) =
      let e = ends s stands in
      let prints : Prints tariffs tariff rules rule c.whole e.last c.before c.after = subst (λ (b : Bool). Prints tariffs tariff rules rule b e.last c.before c.after) (sym is) e.text in
      (down e.last.store, inl (record { lines = lines; bad = bad; parsed = parsed; moves = e.moves; last = e.last; run = e.run_of.run; counted = e.run_of.counted; prints = prints; leaves = refl }), e.run_of.stands)

  lead : (all : List Invocation) (d : Devices) (s : State) → StandFor d s → AreInOrder tariffs tariff rules rule d all → Lead tariffs tariff rules rule s all
  lead [] d s stands ordered = tt
  lead (c ∷ later) d s stands (at, ends, rest) =
      let done = one s c c.whole refl (subst (λ (x : Devices). StandFor x s) (sym at) stands) ends in
      (done.0, done.1, lead later c.new done.0 done.2 rest)

  pub invocations_lead : NewDevicesStand → InvocationsLead tariffs tariff rules rule
  invocations_lead new n labels d all large are ordered =
      let first = new n labels d large are in
      (first.state, first.holding, lead all d first.state first.stands ordered)
