-- What a power loss leaves of a system that is down: no more than before, after a line that changes no block; and after an event that a failed
-- write stopped, a state that the event may lead to then.
-- serves: JobLemmas, LineLemmas, UpLemmas, crates above
use Rattle.std.proofs.Common.{◌≡◌, ℕ, false, List, Option, Some, None, refl, sym, ap, subst, inr}
use Rattle.std.specs.Prelude.{option_map}
use Rattle.g_script.specs.declared.operator.Operator.{Operator}
use Rattle.g_store_meaning.specs.Safety.{StandLike}
use Rattle.g_store_model.specs.CallStep.{Cut, Outcome, down, no_longer_kept}
use Rattle.g_store_model.specs.State.{Holding, State}
use Rattle.g_tape.specs.Rack.{Rack}
use Rattle.g_run_model.specs.Lines.{LineGives}
use Rattle.g_run_model.specs.World.{World, system_stopped}
use Rattle.g_day.specs.Losses.{LeavesLess, LineLeft, LineMayLeave, OtherEnd, SystemLeaves}
use Rattle.g_day.specs.System.{Down, StandsAs, SystemFacts, Up}

-- a power loss leaves no more of a system than of itself
pub less_same : (f : SystemFacts) → LeavesLess f f
less_same (Up s) = tt
less_same (Down d) = λ blocks rack left. left

-- a line that leads to such a system, and an event that does nothing
pub less_line : (what : Operator) (o : Outcome) (w next : World) (old new : SystemFacts) → StandsAs old w.store → StandsAs new next.store → LeavesLess old new → LineLeft what o w next old new
less_line what o w next old (Up s) before after less = tt
less_line what o w next (Up s) (Down d) before after less = absurd less
less_line what o w next (Down d) (Down e) before after less = λ blocks rack left. inr ((before.0, after.0), less blocks rack left)

pub less_nothing : (w : World) (old new : SystemFacts) → StandsAs old w.store → LeavesLess old new → SystemLeaves (λ u. ⊥) (w.store.up ≡ false) old new
less_nothing w old (Up s) before less = tt
less_nothing w (Up s) (Down d) before less = absurd less
less_nothing w (Down d) (Down e) before less = λ blocks rack left. inr (before.0, less blocks rack left)

-- what is down stays unchanged by going down
pub down_again : (s : State) → down (down s) ≡ down s
down_again s = ap (λ (h : Option Holding). record s { up = false; open_dump = None; holding = h }) (by s.holding)
  where
    by : (h : Option Holding) → option_map no_longer_kept (option_map no_longer_kept h) ≡ option_map no_longer_kept h
    by None = refl
    by (Some k) = refl

-- a state that a stopped event may lead to
pub stopped_left : (what : Operator) (o : Outcome) (w next : World) (after : State) (size : ℕ) (blocks : List (List ℕ)) (rack : Rack) → o ≡ Cut → LineGives Cut what w (system_stopped after w)
    → down after ≡ after → StandLike size blocks rack after → (u : State) × LineMayLeave what o w next u × StandLike size blocks rack u
stopped_left what o w next after size blocks rack cut gives again stand =
    (after, OtherEnd cut (system_stopped after w) (subst (λ (p : Outcome). LineGives p what w (system_stopped after w)) (sym cut) gives) (sym again), stand)
