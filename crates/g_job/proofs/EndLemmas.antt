-- The result of every turn at its end.
-- serves: turns_come_to_one_end, TurnLemmas
use Rattle.std.proofs.Common.{◌≡◌, ◌+◌, ◌-◌, ◌<◌, ◌≤◌, min, Bool, true, false, not, Option, Some, None, IfSome, is_some, inl, inr, refl, sym, subst, arith}
use Rattle.std.proofs.Math.Nat.{le-min}
use Rattle.std.proofs.lemmas.Bool.{leb-false, leb-true, ltb-false, ltb-true}
use Rattle.g_rules.specs.Tariff.{IsCharge}
use Rattle.g_rules.specs.declared.tariff.Charge.{Charge}
use Rattle.g_job.specs.TurnEnd.{behind_turn, charged, end_by, is_free, is_money_up, is_time_up, money_left, money_of, turn_end, turn_of, units_left, units_of, up_line}
use Rattle.g_job.specs.Rules.{IsJob}
use Rattle.g_job.specs.Spending.{ComesTo, EndsFor, Spends}
use Rattle.g_turn.specs.State.{Broken, Done, Full, Stop, Waits, Work}
use Rattle.g_job.specs.State.{JobState}

-- a turn ends in one way, charged or not
free_by : (stop : Option Stop) (j : JobState) (w : Work) → is_some (end_by stop j w None) ≡ is_free stop
free_by None j w = refl
free_by (Some Full) j w = refl
free_by (Some (Waits serial)) j w = refl
free_by (Some Broken) j w = refl
free_by (Some Done) j w = refl

charged_by : (stop : Option Stop) (j : JobState) (w : Work) (charge : Charge) → is_some (end_by stop j w (Some charge)) ≡ not (is_free stop)
charged_by None j w charge = refl
charged_by (Some Full) j w charge = refl
charged_by (Some (Waits serial)) j w charge = refl
charged_by (Some Broken) j w charge = refl
charged_by (Some Done) j w charge = refl

pub end_free : (j : JobState) (w : Work) → is_some (turn_end j w None) ≡ is_free w.stop
end_free j w = free_by w.stop j w

pub end_charged : (j : JobState) (w : Work) (charge : Charge) → is_some (turn_end j w (Some charge)) ≡ not (is_free w.stop)
end_charged j w charge = charged_by w.stop j w charge

module _ (j : JobState) (w : Work) (charge : Charge) where
  -- for work that isn't over, TIME and MONEY decide whether the job continues
  up_comes : (time_up money_up : Bool) → w.stop ≡ None → is_time_up j charge ≡ time_up → is_money_up j charge ≡ money_up
      → ComesTo j w (Some charge) (turn_of (units_of j charge) (money_of j charge) (up_line time_up money_up (charged j w charge))) (behind_turn (charged j w charge) (up_line time_up money_up (charged j w charge)))
  up_comes true money_up is time money =
      subst (λ (s : Option Stop). EndsFor j (Some charge) s) (sym is) (inl (leb-true (units_left j) charge.units time))
  up_comes false true is time money =
      subst (λ (s : Option Stop). EndsFor j (Some charge) s) (sym is) (inr (ltb-true (money_left j) charge.money money))
  up_comes false false is time money =
      (is, (leb-false (units_left j) charge.units time, ltb-false (money_left j) charge.money money))

  up_spends : (time_up money_up : Bool) → IsJob j → j.over ≡ false → IsCharge charge → is_time_up j charge ≡ time_up
      → Spends j (turn_of (units_of j charge) (money_of j charge) (up_line time_up money_up (charged j w charge))) (behind_turn (charged j w charge) (up_line time_up money_up (charged j w charge)))
  up_spends true money_up rules going within time = (refl, refl, refl)
  up_spends false true rules going within time = (refl, refl, refl)
  up_spends false false rules going within time =
      let left : charge.units < j.allowance - j.used = leb-false (units_left j) charge.units time in
      let room : 1 ≤ j.allowance - j.used = omega (arith, left) in
      let least : 1 ≤ min charge.units (j.allowance - j.used) = le-min within.something room in
      let below : j.used + min charge.units (j.allowance - j.used) < j.allowance = omega (arith, left) in
      (refl, refl, (least, refl, below, refl, going))

comes_by : (j : JobState) (w : Work) (stop : Option Stop) → w.stop ≡ stop → (charge : Option Charge) → IfSome (end_by stop j w charge) (λ end. ComesTo j w charge end.0 end.1)
comes_by j w (Some (Waits serial)) is None = (is, refl, record { standing = refl; monitor = refl; money = refl; over = refl })
comes_by j w (Some (Waits serial)) is (Some charge) = tt
comes_by j w (Some Broken) is None = is
comes_by j w (Some Broken) is (Some charge) = tt
comes_by j w (Some Full) is None = tt
comes_by j w (Some Full) is (Some charge) = subst (λ (s : Option Stop). EndsFor j (Some charge) s) (sym is) tt
comes_by j w (Some Done) is None = tt
comes_by j w (Some Done) is (Some charge) = subst (λ (s : Option Stop). EndsFor j (Some charge) s) (sym is) tt
comes_by j w None is None = tt
comes_by j w None is (Some charge) = up_comes j w charge (is_time_up j charge) (is_money_up j charge) is refl refl

pub end_comes : (j : JobState) (w : Work) (charge : Option Charge) → IfSome (turn_end j w charge) (λ end. ComesTo j w charge end.0 end.1)
end_comes j w charge = comes_by j w w.stop refl charge

spends_by : (j : JobState) (w : Work) (stop : Option Stop) (charge : Option Charge) → IsJob j → j.over ≡ false → IfSome charge IsCharge → IfSome (end_by stop j w charge) (λ end. Spends j end.0 end.1)
spends_by j w (Some (Waits serial)) None rules going within = (refl, refl, (refl, refl, going))
spends_by j w (Some (Waits serial)) (Some charge) rules going within = tt
spends_by j w (Some Broken) None rules going within = (refl, refl, refl)
spends_by j w (Some Broken) (Some charge) rules going within = tt
spends_by j w (Some Full) None rules going within = tt
spends_by j w (Some Full) (Some charge) rules going within = (refl, refl, refl)
spends_by j w (Some Done) None rules going within = tt
spends_by j w (Some Done) (Some charge) rules going within = (refl, refl, refl)
spends_by j w None None rules going within = tt
spends_by j w None (Some charge) rules going within = up_spends j w charge (is_time_up j charge) (is_money_up j charge) rules going within refl

pub end_spends : (j : JobState) (w : Work) (charge : Option Charge) → IsJob j → j.over ≡ false → IfSome charge IsCharge → IfSome (turn_end j w charge) (λ end. Spends j end.0 end.1)
end_spends j w charge rules going within = spends_by j w w.stop charge rules going within
