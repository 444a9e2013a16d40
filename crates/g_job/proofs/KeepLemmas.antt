-- Every turn preserves the rules of a job.
-- serves: turns_keep_the_rules, TurnLemmas
use Rattle.std.proofs.Common.{◌≡◌, ℕ, ◌+◌, ◌-◌, ◌<◌, ◌≤◌, Bool, true, false, List, [], ◌∷◌, ◌++◌, length, length-append, decimal, codes, Option, Some, None, IfSome, is_some, refl, sym, subst, lit<, lit≤, lt_of_le_of_lt, arith}
use Rattle.std.proofs.Math.Nat.{le-min, min-le_right}
use Rattle.std.proofs.lemmas.Bool.{leb-false, true≢false}
use Rattle.std.proofs.lemmas.Fmt.{length-decimal-le}
use Rattle.g_rules.specs.Tariff.{IsCharge}
use Rattle.g_rules.specs.declared.tariff.Charge.{Charge}
use Rattle.g_job.specs.Beginning.{room_of}
use Rattle.g_turn.specs.Bounds.{HasMore, IsWithin}
use Rattle.g_job.specs.TurnEnd.{behind_turn, broken, charged, end_by, is_money_up, is_time_up, money_left, money_of, turn_end, units_left, units_of, up_line, waited}
use Rattle.g_job.specs.Rules.{IsGoneOnWith, IsJob, most_bytes}
use Rattle.g_turn.specs.State.{Broken, Done, Full, Stop, Waits, Work}
use Rattle.g_job.specs.State.{JobState}
use Rattle.g_lines.specs.Lines.{ended}
use Rattle.g_job.proofs.RulesLemmas.{rules_of_clear, rules_of_rest}
use Rattle.g_monitor.specs.JobLines.{job_line}
use Rattle.g_monitor.specs.declared.job_lines.JobLine.TheVariants as line

-- a number up to a million has at most seven digits
million_short : (n : ℕ) → n ≤ 1000000 → length (decimal n) ≤ 7
million_short n most = length-decimal-le 7 n (lit< tt) (lt_of_le_of_lt most (lit< tt)) (lt_of_le_of_lt most (lit< tt))

-- words before and after a number, and a byte 10
between_short : (before number behind : List ℕ) (n : ℕ) → length before + length number + length behind ≤ n → length (ended ((before ++ number) ++ behind)) ≤ n + 1
between_short before number behind n few =
    omega (arith, few, length-append before number, length-append (before ++ number) behind, length-append ((before ++ number) ++ behind) (10 ∷ []))

-- the last lines
end_short : (n : ℕ) → n ≤ 1000000 → length (ended (job_line (line.End n))) ≤ 23
end_short n most = let seven : length (decimal n) ≤ 7 = million_short n most in between_short (codes "END ") (decimal n) (codes " UNITS") 22 (omega (arith, seven))

time_short : (n : ℕ) → n ≤ 1000000 → length (ended (job_line (line.TimeUp n))) ≤ 23
time_short n most = let seven : length (decimal n) ≤ 7 = million_short n most in between_short (codes "TIME UP ") (decimal n) (codes " UNITS") 22 (omega (arith, seven))

money_short : (n : ℕ) → n ≤ 1000000 → length (ended (job_line (line.MoneyUp n))) ≤ 23
money_short n most = let seven : length (decimal n) ≤ 7 = million_short n most in between_short (codes "MONEY UP ") (decimal n) (codes " MONEY") 22 (omega (arith, seven))

full_short : length (ended (job_line line.Full)) ≤ 23
full_short = lit≤ tt

-- what a turn adds fits into the file
added_fits : (j : JobState) (w : Work) → length j.monitor ≤ 1048576 → length w.text ≤ room_of j → length (j.monitor ++ w.text) ≤ 1048576
added_fits j w file text =
    let both : length (j.monitor ++ w.text) ≡ length j.monitor + length w.text = length-append j.monitor w.text in omega (arith, both, file, text)

last_fits : (monitor last : List ℕ) → length monitor ≤ 1048576 → length last ≤ 23 → length (monitor ++ last) ≤ 1048599
last_fits monitor last file short =
    let both : length (monitor ++ last) ≡ length monitor + length last = length-append monitor last in omega (arith, both, file, short)

-- the file of a job that takes turns
pub file_of : (j : JobState) → IsJob j → j.over ≡ false → length j.monitor ≤ 1048576
file_of j rules going = subst (λ (over : Bool). length j.monitor ≤ most_bytes over) going rules.file

module _ (j : JobState) (w : Work) (charge : Charge) (rules : IsJob j) (going : j.over ≡ false) (within : IsCharge charge) (fits : length w.text ≤ room_of j) where
  units_kept : j.used + units_of j charge ≤ j.allowance
  units_kept = let cut = min-le_right charge.units (units_left j) in let covered = rules.covered in omega (arith, cut, covered)

  money_kept : j.used_money + money_of j charge ≤ j.money
  money_kept = let cut = min-le_right charge.money (money_left j) in let paid = rules.paid in omega (arith, cut, paid)

  turns_kept : j.turns + 1 ≤ j.used + units_of j charge
  turns_kept =
      let time : j.used < j.allowance = rules.has_time going in
      let room : 1 ≤ units_left j = omega (arith, time) in
      let least : 1 ≤ units_of j charge = le-min within.something room in
      let turned : j.turns ≤ j.used = rules.turned in
      omega (arith, least, turned)

  text_kept : length (j.monitor ++ w.text) ≤ 1048576
  text_kept = added_fits j w (file_of j rules going) fits

  -- a job that is charged, with its file
  charged_keeps : (monitor : List ℕ) (over : Bool) → (over ≡ false → j.used + units_of j charge < j.allowance) → length monitor ≤ most_bytes over
      → IsJob (record j { used = j.used + units_of j charge; used_money = j.used_money + money_of j charge; turns = j.turns + 1; desk = w.desk; pending = None; wants = None; monitor = monitor; over = over })
  charged_keeps monitor over time file =
      rules_of_clear j rules (j.used + units_of j charge) (j.used_money + money_of j charge) (j.turns + 1) w.desk monitor over units_kept money_kept turns_kept time file

  -- a job that ends, with its last line
  ended_keeps : (last : List ℕ) → length (ended last) ≤ 23 → IsJob (behind_turn (charged j w charge) (Some last))
  ended_keeps last short = charged_keeps ((j.monitor ++ w.text) ++ ended last) true (λ is. absurd (true≢false is)) (last_fits (j.monitor ++ w.text) (ended last) text_kept short)

  -- a job that continues
  goes_keeps : is_time_up j charge ≡ false → IsJob (charged j w charge)
  goes_keeps time =
      charged_keeps (j.monitor ++ w.text) j.over (λ is. below) (subst (λ (over : Bool). length (j.monitor ++ w.text) ≤ most_bytes over) (sym going) text_kept)
    where
      below : j.used + units_of j charge < j.allowance
      below = let left : charge.units < j.allowance - j.used = leb-false (units_left j) charge.units time in omega (arith, left)

  used_few : j.used + units_of j charge ≤ 1000000
  used_few = let most = rules.most in omega (arith, units_kept, most)

  money_few : j.used_money + money_of j charge ≤ 1000000
  money_few = let rich = rules.rich in omega (arith, money_kept, rich)

  up_keeps : (time_up money_up : Bool) → is_time_up j charge ≡ time_up → IsJob (behind_turn (charged j w charge) (up_line time_up money_up (charged j w charge)))
  up_keeps true money_up time = ended_keeps (job_line (line.TimeUp (j.used + units_of j charge))) (time_short (j.used + units_of j charge) used_few)
  up_keeps false true time = ended_keeps (job_line (line.MoneyUp (j.used_money + money_of j charge))) (money_short (j.used_money + money_of j charge) money_few)
  up_keeps false false time = goes_keeps time

module _ (j : JobState) (w : Work) (rules : IsJob j) (going : j.over ≡ false) (fits : IsWithin (room_of j) w) (on : IsGoneOnWith j.monitor w) where
  waited_keeps : (serial : ℕ) → is_some w.again ≡ true → IsJob (waited j w serial)
  waited_keeps serial there = rules_of_rest j rules w.desk w.again (Some serial) j.terminal (sym there) on.pending on.level

  broken_keeps : IsJob (broken j w)
  broken_keeps =
      let text = added_fits j w (file_of j rules going) fits.text in
      let file : length (j.monitor ++ w.text) ≤ 1048599 = omega (arith, text) in
      rules_of_clear j rules j.used j.used_money j.turns w.desk (j.monitor ++ w.text) true rules.covered rules.paid rules.turned (λ is. absurd (true≢false is)) file

  keeps_by : (stop : Option Stop) → w.stop ≡ stop → (charge : Option Charge) → IfSome charge IsCharge → IfSome (end_by stop j w charge) (λ end. IsJob end.1)
  keeps_by (Some (Waits serial)) is None within = waited_keeps serial (subst (λ (s : Option Stop). HasMore s w.again) is fits.waits)
  keeps_by (Some (Waits serial)) is (Some charge) within = tt
  keeps_by (Some Broken) is None within = broken_keeps
  keeps_by (Some Broken) is (Some charge) within = tt
  keeps_by (Some Full) is None within = tt
  keeps_by (Some Full) is (Some charge) within = ended_keeps j w charge rules going within fits.text (job_line line.Full) full_short
  keeps_by (Some Done) is None within = tt
  keeps_by (Some Done) is (Some charge) within =
      ended_keeps j w charge rules going within fits.text (job_line (line.End (j.used + units_of j charge)))
      (end_short (j.used + units_of j charge) (used_few j w charge rules going within fits.text))
  keeps_by None is None within = tt
  keeps_by None is (Some charge) within = up_keeps j w charge rules going within fits.text (is_time_up j charge) (is_money_up j charge) refl

pub rules_kept : (j : JobState) (w : Work) (charge : Option Charge) → IsJob j → j.over ≡ false → IfSome charge IsCharge → IsWithin (room_of j) w → IsGoneOnWith j.monitor w
    → IfSome (turn_end j w charge) (λ end. IsJob end.1)
rules_kept j w charge rules going within fits on = keeps_by j w rules going fits on w.stop refl charge within
