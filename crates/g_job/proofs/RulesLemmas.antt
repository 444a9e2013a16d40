-- The rules of a job, part by part: its number, name and allowances are unchanged, and what is charged, left and written satisfies them.
-- serves: EndingLemmas, KeepLemmas, TerminalLemmas
use Rattle.std.proofs.Common.{◌≡◌, ◌<◌, ◌≤◌, ℕ, Bool, false, true, IfSome, List, Option, None, is_some, length, refl}
use Rattle.std.proofs.lemmas.Bool.{false≢true}
use Rattle.g_job.specs.Rules.{IsJob, IsPending, most_bytes}
use Rattle.g_job.specs.State.{JobState}
use Rattle.g_turn.specs.State.{Desk, Pending}

module _ (j : JobState) (rules : IsJob j) where
  rules_by : (used used_money turns : ℕ) (desk : Desk) (pending : Option Pending) (wants : Option ℕ) (monitor : List ℕ) (over : Bool) (terminal : Option ℕ)
      → used ≤ j.allowance → used_money ≤ j.money → turns ≤ used → (over ≡ false → used < j.allowance) → length monitor ≤ most_bytes over
      → is_some wants ≡ is_some pending → IfSome pending (IsPending monitor) → (is_some pending ≡ true → 0 < length desk.levels.levels)
      → IsJob (record j { used = used; used_money = used_money; turns = turns; desk = desk; pending = pending; wants = wants; monitor = monitor; over = over; terminal = terminal })
  rules_by used used_money turns desk pending wants monitor over terminal covered paid turned has_time file waits goes_on level =
      record { least = rules.least; most = rules.most; covered = covered; turned = turned; rich = rules.rich; paid = paid; has_time = has_time; file = file; waits = waits; goes_on = goes_on; level = level }

  -- if nothing is charged or printed: the desk, what is pending, and the terminal
  pub rules_of_rest : (desk : Desk) (pending : Option Pending) (wants terminal : Option ℕ)
      → is_some wants ≡ is_some pending → IfSome pending (IsPending j.monitor) → (is_some pending ≡ true → 0 < length desk.levels.levels)
      → IsJob (record j { desk = desk; pending = pending; wants = wants; terminal = terminal })
  rules_of_rest desk pending wants terminal waits goes_on level =
      rules_by j.used j.used_money j.turns desk pending wants j.monitor j.over terminal rules.covered rules.paid rules.turned rules.has_time rules.file waits goes_on level

  -- if nothing is pending any more
  pub rules_of_clear : (used used_money turns : ℕ) (desk : Desk) (monitor : List ℕ) (over : Bool)
      → used ≤ j.allowance → used_money ≤ j.money → turns ≤ used → (over ≡ false → used < j.allowance) → length monitor ≤ most_bytes over
      → IsJob (record j { used = used; used_money = used_money; turns = turns; desk = desk; pending = None; wants = None; monitor = monitor; over = over })
  rules_of_clear used used_money turns desk monitor over covered paid turned has_time file =
      rules_by used used_money turns desk None None monitor over j.terminal covered paid turned has_time file refl tt (λ is. absurd (false≢true is))
