-- What is claimed of the systems of a session, and what a power loss leaves of one whose script has more lines.
-- serves: end_session, AnewLemmas, BrokenLemmas, EndLemmas, ReplyLemmas, SoFarLemmas
use Rattle.std.proofs.Common.{◌≡◌, ◌⊎◌, ◌+◌, ◌≤◌, ◌++◌, ℕ, Bool, true, false, List, [], ◌∷◌, Option, Some, None, sym, ap, subst, inl, inr, arith}
use Rattle.std.specs.Fn.{Shared}
use denote.Ref.{Bor}
use Rattle.g_rules.specs.declared.tariff.Charge.{Charge}
use Rattle.g_rules.specs.declared.tariff.Usage.{Usage}
use Rattle.g_rules.specs.declared.rule.Standing.{Standing}
use Rattle.g_script.specs.declared.operator.Timed.{Timed}
use Rattle.g_store_model.specs.State.{State}
use Rattle.g_run_model.specs.Losses.{MayBeLeft, StaysDown}
use Rattle.g_run_model.specs.Moves.{Move}
use Rattle.g_run_model.specs.World.{World, start}
use Rattle.g_day.specs.declared.progress.Failure.{Failure}
use Rattle.g_day.specs.Losses.{LeftAfter}
use Rattle.g_day.specs.Parts.{Seen}
use Rattle.g_day.specs.System.{Down, IsRunning, SystemFacts, SystemSafe, Up}
use Rattle.g_ticks.specs.Parts.{IsAtRest, PartGoes, PartGoesFrom}
use Rattle.g_ticks.proofs.PartLemmas.{part_unclaimed}
use Rattle.g_ticks.proofs.SurvivingLemmas.{safe_runs}
use Rattle.g_laws_sessions.specs.Early.{NotBefore, with_lines}
use Rattle.g_laws_sessions.specs.Session.{Exchanges, Moment, taken}
use Rattle.g_laws_sessions.proofs.EarlyLemmas.{owed}
use Rattle.g_laws_sessions.proofs.LossLemmas.{down_lifts, left_lifts}
use Rattle.g_laws_sessions.proofs.SessionLemmas.{Reaches}
use Rattle.g_run.proofs.NextLemmas.{held_unclaimed}
use Rattle.g_session.specs.Parts.{Claimed}
use Rattle.g_session.specs.Taking.{RestsAndTells, TakesItem}

pub claimed_safe : (real : Bool) (f : SystemFacts) → Claimed real f → SystemSafe f
claimed_safe true f is = is
claimed_safe false f never = absurd never

pub claimed_runs : (real : Bool) (f : SystemFacts) → Claimed real f → IsRunning f
claimed_runs real f is = safe_runs f (claimed_safe real f is)

module _ {F U : Type 0} (tariffs : Shared F (Bor Usage × Unit {0}) Charge) (tariff : F) (rules : Shared U (Bor Standing × Unit {0}) ℕ) (rule : U) where
  -- what is claimed of safe systems is claimed of these
  pub part_claimed : (real : Bool) (lines : List Timed) (old : Seen) (failure : Option Failure) (new : Seen) (before after : Option (List ℕ))
      → PartGoes tariffs tariff rules rule IsAtRest lines [] old failure new before after → PartGoesFrom tariffs tariff rules rule (Claimed real) IsAtRest lines [] old failure new before after
  part_claimed true lines old failure new before after goes = goes
  part_claimed false lines old failure new before after goes = part_unclaimed tariffs tariff rules rule SystemSafe IsAtRest lines [] old failure new before after goes

  pub takes_claimed : (real timed : Bool) (next : Timed) (old : Seen) (failure : Option Failure) (new : Seen) (before after : Option (List ℕ))
      → TakesItem tariffs tariff rules rule SystemSafe timed next old failure new before after → TakesItem tariffs tariff rules rule (Claimed real) timed next old failure new before after
  takes_claimed true timed next old failure new before after goes = goes
  takes_claimed false true next old failure new before after goes = held_unclaimed tariffs tariff rules rule SystemSafe next old failure new before after goes
  takes_claimed false false next old failure new before after goes = part_claimed false (next ∷ []) old failure new before after goes

  pub tells_claimed : (real : Bool) (old : Seen) (failure : Option Failure) (new : Seen) (before after : Option (List ℕ))
      → RestsAndTells tariffs tariff rules rule SystemSafe old failure new before after → RestsAndTells tariffs tariff rules rule (Claimed real) old failure new before after
  tells_claimed real old None new before after (middle, goes, told) = (middle, part_claimed real [] old None new before middle goes, told)
  tells_claimed real old (Some failure) new before after (inl goes) = inl (part_claimed real [] old (Some failure) new before after goes)
  tells_claimed real old (Some failure) new before after (inr (middle, goes, part)) = inr (middle, part_claimed real [] old None new before middle goes, part)

  -- WITH MORE LINES, which aren't due yet
  pub left_with : (s : State) (said : Exchanges) (now : Moment) → Reaches tariffs tariff rules rule s said now → (old f : SystemFacts) (lines : List Timed) → NotBefore now.world.count lines
      → LeftAfter tariffs tariff rules rule (start (taken said) None s) now.moves now.world old f
      → LeftAfter tariffs tariff rules rule (start (taken said ++ lines) None s) now.moves (with_lines lines now.world) old f
  left_with s said now r old (Up t) lines early left = tt
  left_with s said now r old (Down d) lines early left = λ blocks rack lost. elim (left blocks rack lost) [
    | inl here ↦ inl (here.0, may here.0 here.1, here.2)
    | inr (down, was) ↦ inr (stays down, was)
  ]
    where
      behind : now.world.lines ++ lines ≡ lines
      behind = ap (λ (ls : List Timed). ls ++ lines) r.none

      soon : now.world.count + owed now.world.phase ≤ now.world.count
      soon = let free : owed now.world.phase ≡ 0 = ap owed r.phase in omega (arith, free)

      may : (u : State) → MayBeLeft tariffs tariff rules rule (start (taken said) None s) now.moves now.world u
          → MayBeLeft tariffs tariff rules rule (start (taken said ++ lines) None s) now.moves (with_lines lines now.world) u
      may u was =
          subst (λ (ls : List Timed). MayBeLeft tariffs tariff rules rule (start (taken said ++ lines) None s) now.moves (with_lines ls now.world) u) behind
          (left_lifts tariffs tariff rules rule lines now.world.count early (start (taken said) None s) now.moves now.world r.going soon u was)

      stays : StaysDown tariffs tariff rules rule (start (taken said) None s) now.moves now.world
          → StaysDown tariffs tariff rules rule (start (taken said ++ lines) None s) now.moves (with_lines lines now.world)
      stays down =
          subst (λ (ls : List Timed). StaysDown tariffs tariff rules rule (start (taken said ++ lines) None s) now.moves (with_lines ls now.world)) behind
          (down_lifts tariffs tariff rules rule lines now.world.count early (start (taken said) None s) now.moves now.world r.going soon down)

  -- of the same script
  pub left_for : (s : State) (old f : SystemFacts) (script lines : List Timed) (moves : List Move) (last : World) → script ≡ lines
      → LeftAfter tariffs tariff rules rule (start lines None s) moves last old f → LeftAfter tariffs tariff rules rule (start script None s) moves last old f
  left_for s old f script lines moves last same left = subst (λ (ls : List Timed). LeftAfter tariffs tariff rules rule (start ls None s) moves last old f) (sym same) left
