-- What a power loss may leave after a part of a run, with other lines after it.
-- serves: crates above
use Rattle.std.proofs.Common.{◌≡◌, ◌⊎◌, ◌+◌, ◌≤◌, ◌++◌, ℕ, true, false, List, [], ◌∷◌, refl, sym, ◌∙◌, ap, inl, inr, arith}
use Rattle.std.specs.Fn.{Shared}
use denote.Ref.{Bor}
use Rattle.g_rules.specs.declared.tariff.Charge.{Charge}
use Rattle.g_rules.specs.declared.tariff.Usage.{Usage}
use Rattle.g_rules.specs.declared.rule.Standing.{Standing}
use Rattle.g_script.specs.declared.operator.Timed.{Timed}
use Rattle.g_store_model.specs.CallStep.{Cut, Outcome, Plain}
use Rattle.g_store_model.specs.State.{State}
use Rattle.g_run_model.specs.Losses.{AsRead, DownSince, MayBeLeft, OtherEnd, StaysDown}
use Rattle.g_run_model.specs.Moves.{Move, Run, Step, outcome_of}
use Rattle.g_run_model.specs.World.{World}
use Rattle.g_laws_sessions.specs.Early.{NotBefore, with_lines}
use Rattle.g_laws_sessions.proofs.AfterLemmas.{Comes, Ends, Goes, run_comes, step_goes}
use Rattle.g_laws_sessions.proofs.EarlyLemmas.{false_true, owed}

plain_cut : Plain ≡ Cut → ⊥
plain_cut e = cc

module _ {F U : Type 0} (tariffs : Shared F (Bor Usage × Unit {0}) Charge) (tariff : F) (rules : Shared U (Bor Standing × Unit {0}) ℕ) (rule : U) where
  -- a run that isn't over at its end wasn't over before
  goes_before : (w : World) (moves : List Move) (last : World) → last.over ≡ false → Run tariffs tariff rules rule w moves last → w.over ≡ false
  goes_before w [] last going is = ap (λ (x : World). x.over) (sym is) ∙ going
  goes_before w (move ∷ moves) last going (mid, step, rest) = by (goes_before mid moves last going rest) (step_goes tariffs tariff rules rule w move mid step)
    where
      by : mid.over ≡ false → Ends tariffs tariff rules rule w move mid ⊎ Goes tariffs tariff rules rule w move mid → w.over ≡ false
      by is (inl ends) = ends.going
      by is (inr g) = sym g.over ∙ is

  comes : (w : World) (moves : List Move) (last : World) → last.over ≡ false → Run tariffs tariff rules rule w moves last → Comes tariffs tariff rules rule w moves last
  comes w moves last going run = run_comes tariffs tariff rules rule w moves last (going ∙ sym (goes_before w moves last going run)) run

  -- while it is down
  down_runs : (w : World) (moves : List Move) (last : World) → StaysDown tariffs tariff rules rule w moves last → Run tariffs tariff rules rule w moves last
  down_runs w [] last is = is
  down_runs w (move ∷ moves) last (mid, step, was, is, rest) = (mid, step, down_runs mid moves last rest)

  module _ (lines : List Timed) (later : ℕ) (early : NotBefore later lines) where
    abbrev more : World → World
    more w = with_lines (w.lines ++ lines) w

    -- A STEP
    step_lifts : (w : World) (move : Move) (new : World) → new.over ≡ false → new.count + owed new.phase ≤ later → Step tariffs tariff rules rule w move new
        → Step tariffs tariff rules rule (more w) move (more new)
    step_lifts w move new going soon step = by (step_goes tariffs tariff rules rule w move new step)
      where
        by : Ends tariffs tariff rules rule w move new ⊎ Goes tariffs tariff rules rule w move new → Step tariffs tariff rules rule (more w) move (more new)
        by (inl ends) = absurd (false_true (sym going ∙ ends.over))
        by (inr g) = g.lifts lines later soon early

    -- an event that a failed write stopped, with another end
    other_lifts : (w : World) (stop : Move) (new other : World) → outcome_of stop ≡ Cut → new.count + owed new.phase ≤ later
        → Step tariffs tariff rules rule w stop new → Step tariffs tariff rules rule w stop other → Step tariffs tariff rules rule (more w) stop (more other)
    other_lifts w stop new other cut soon step another = by (step_goes tariffs tariff rules rule w stop new step) (step_goes tariffs tariff rules rule w stop other another)
      where
        no_end : (v : World) → Ends tariffs tariff rules rule w stop v → ⊥
        no_end v ends = plain_cut (sym (ap outcome_of ends.is) ∙ cut)

        by : Ends tariffs tariff rules rule w stop new ⊎ Goes tariffs tariff rules rule w stop new → Ends tariffs tariff rules rule w stop other ⊎ Goes tariffs tariff rules rule w stop other
            → Step tariffs tariff rules rule (more w) stop (more other)
        by (inl ends) is = absurd (no_end new ends)
        by (inr g) (inl ends) = absurd (no_end other ends)
        by (inr g) (inr h) =
            let same : other.count + owed other.phase ≡ new.count + owed new.phase = h.exact ∙ sym g.exact in h.lifts lines later (omega (arith, same, soon)) early

    -- A PART while the system is down
    pub down_lifts : (w : World) (moves : List Move) (last : World) → last.over ≡ false → last.count + owed last.phase ≤ later → StaysDown tariffs tariff rules rule w moves last
        → StaysDown tariffs tariff rules rule (more w) moves (more last)
    down_lifts w [] last going soon is = ap more is
    down_lifts w (move ∷ moves) last going soon (mid, step, was, is, rest) =
        let run = down_runs mid moves last rest in
        let counts = (comes mid moves last going run).counts in
        (more mid, step_lifts w move mid (goes_before mid moves last going run) (omega (arith, counts, soon)) step, was, is, down_lifts mid moves last going soon rest)

    -- a moment since which it has been down
    module _ (first : World) (moves : List Move) (last : World) (going : last.over ≡ false) (soon : last.count + owed last.phase ≤ later) where
      mid_goes : (before after : List Move) (mid : World) → DownSince tariffs tariff rules rule first moves last before after mid → mid.over ≡ false
      mid_goes before after mid l = goes_before mid after last going (down_runs mid after last l.rest)

      mid_soon : (before after : List Move) (mid : World) → DownSince tariffs tariff rules rule first moves last before after mid → mid.count + owed mid.phase ≤ later
      mid_soon before after mid l =
          let counts = (comes mid after last going (down_runs mid after last l.rest)).counts in omega (arith, counts, soon)

      since_lifts : (before after : List Move) (mid : World) → DownSince tariffs tariff rules rule first moves last before after mid
          → DownSince tariffs tariff rules rule (more first) moves (more last) before after (more mid)
      since_lifts before after mid l = record {
        split = l.split;
        led = (comes first before mid (mid_goes before after mid l) l.led).lifts lines later (mid_soon before after mid l) early;
        rest = down_lifts mid after last going soon l.rest;
      }

      -- A STATE that may be left
      pub left_lifts : (u : State) → MayBeLeft tariffs tariff rules rule first moves last u → MayBeLeft tariffs tariff rules rule (more first) moves (more last) u
      left_lifts u (AsRead before after mid l same) = AsRead before after (more mid) (since_lifts before after mid l) same
      left_lifts u (OtherEnd before after stop was mid other ran l cut step another same) =
          let to_mid = mid_goes (before ++ stop ∷ []) after mid l in
          let by_mid = mid_soon (before ++ stop ∷ []) after mid l in
          let one : Run tariffs tariff rules rule was (stop ∷ []) mid = (mid, step, refl) in
          let counts = (comes was (stop ∷ []) mid to_mid one).counts in
          OtherEnd before after stop (more was) (more mid) (more other)
          ((comes first before was (goes_before was (stop ∷ []) mid to_mid one) ran).lifts lines later (omega (arith, counts, by_mid)) early)
          (since_lifts (before ++ stop ∷ []) after mid l) cut (step_lifts was stop mid to_mid by_mid step) (other_lifts was stop mid other cut by_mid step another) same
