-- What holds of all devices, and of both counts of faults, in an exchange, in all of them, and at the end.
-- serves: answer_lines (keeps), end_session, exchange (anew, keeps), LinesLemmas
use Rattle.std.proofs.Common.{◌≡◌, ◌⊎◌, ◌+◌, ◌≤◌, ◌++◌, ℕ, List, [], ◌∷◌, Option, Some, None, length, refl, sym, ◌∙◌, ap, subst, inl, inr, arith}
use Rattle.std.specs.Fn.{Shared}
use denote.Ref.{Bor}
use Rattle.g_base.specs.Counts.{Rose}
use Rattle.g_rules.specs.declared.tariff.Charge.{Charge}
use Rattle.g_rules.specs.declared.tariff.Usage.{Usage}
use Rattle.g_rules.specs.declared.rule.Standing.{Standing}
use Rattle.g_script.specs.declared.operator.Timed.{Timed}
use Rattle.g_run_model.specs.Top.{AreArmings}
use Rattle.g_job_table.specs.Numbers.{AreOpen}
use Rattle.g_day.specs.declared.progress.Failure.{Failure}
use Rattle.g_day.specs.declared.progress.Failure.TheVariants as failures
use Rattle.g_day.specs.Parts.{IsReady, Seen}
use Rattle.g_day.specs.Puts.{FaultCause, Puts}
use Rattle.g_day.specs.System.{devices_in}
use Rattle.g_day.proofs.LabelLemmas.{same_itself}
use Rattle.g_ticks.specs.Parts.{Keeps}
use Rattle.g_ticks.proofs.KeepLemmas.{kept_itself}
use Rattle.g_ticks.proofs.PartLemmas.{keeps_then, none_arm}
use Rattle.g_session.specs.Ending.{KeepsMany, course_at_end}
use Rattle.g_typing.specs.declared.item.Reply.{Reply}
use Rattle.g_typing.specs.declared.item.Reply.TheVariants as reply
use Rattle.g_session.specs.Exchanging.{DidReply, KeepsOne, course_after, failure_of}
use Rattle.g_session.specs.declared.exchange.Course.{Course}
use Rattle.g_session.specs.declared.exchange.Course.TheVariants as course
use Rattle.g_session.proofs.TakeLemmas.{keeps_put, keeps_short}

pub failure_same : (failure : Option Failure) → failure_of (course_after failure) ≡ failure
failure_same None = refl
failure_same (Some failure) = refl

pub at_end_same : (c : Course) (failure : Option Failure) → failure_of c ≡ None → failure_of (course_at_end c failure) ≡ failure
at_end_same c None none = none
at_end_same c (Some failure) none = refl

-- nothing was done
pub keeps_still : (s : Seen) (faults : ℕ) → IsReady s.system s.crew → AreOpen s.crew.jobs → Keeps [] s None s faults faults
keeps_still s faults ready open_ones = record {
  ready = λ none. (ready, open_ones);
  numbers = λ none. (let same : s.crew.next_job ≤ s.crew.next_job + 0 = omega arith in same);
  arms = none_arm (let f : Option Failure = None in f ≡ None) (devices_in s.system) (devices_in s.system) refl refl;
  same = same_itself (devices_in s.system);
  belongs = λ was. was;
  safe = λ was. was;
  dumps = λ was. kept_itself [] (devices_in s.system).rack;
  cause = refl;
}

-- no fault, from any count
keeps_from : (done : List Timed) (old new : Seen) (from to count : ℕ) → Keeps done old None new from to → Keeps done old None new count count
keeps_from done old new from to count keeps = record {
  ready = keeps.ready;
  numbers = keeps.numbers;
  arms = keeps.arms;
  same = keeps.same;
  belongs = keeps.belongs;
  safe = keeps.safe;
  dumps = keeps.dumps;
  cause = refl;
}

-- ONE EXCHANGE
pub one_did : (done : List Timed) → length done ≤ 1 → (old : Seen) (c : Course) (failure : Option Failure) (new : Seen) (from to : ℕ) → c ≡ course_after failure → Keeps done old failure new from to → KeepsOne old c new
one_did done few old c failure new from to is keeps = record {
  done = done;
  few = few;
  from = from;
  to = to;
  keeps = subst (λ (f : Option Failure). Keeps done old f new from to) (sym (ap failure_of is ∙ failure_same failure)) keeps;
}

one_rose : Rose 0 1
one_rose = record { more = omega arith }

fails_by : (failure : Failure) → (to : ℕ) × FaultCause (Some failure) 0 to
fails_by failures.Output = (1, one_rose)
fails_by failures.Memory = (0, refl)

-- nothing was done, and something failed
pub one_short : (failure : Failure) (s : Seen) → KeepsOne s (course.Breaks failure) s
one_short failure s =
    let (to, cause) = fails_by failure in record { done = []; few = omega arith; from = 0; to = to; keeps = keeps_short failure s 0 to cause }

-- nothing was done, and no line came
pub one_still : (c : Course) (s : Seen) → failure_of c ≡ None → IsReady s.system s.crew → AreOpen s.crew.jobs → KeepsOne s c s
one_still c s none ready open_ones = record {
  done = [];
  few = omega arith;
  from = 0;
  to = 0;
  keeps = subst (λ (f : Option Failure). Keeps [] s f s 0 0) (sym none) (keeps_still s 0 ready open_ones);
}

-- MANY
pub many_none : (c : Course) (s : Seen) → failure_of c ≡ None → IsReady s.system s.crew → AreOpen s.crew.jobs → KeepsMany s c s
many_none c s none ready open_ones = record {
  done = [];
  from = 0;
  to = 0;
  keeps = subst (λ (f : Option Failure). Keeps [] s f s 0 0) (sym none) (keeps_still s 0 ready open_ones);
}

pub many_more : (start mid : Seen) (c d : Course) (new : Seen) → failure_of c ≡ None → KeepsMany start c mid → KeepsOne mid d new → KeepsMany start d new
many_more start mid c d new none many one = record {
  done = many.done ++ one.done;
  from = one.from;
  to = one.to;
  keeps = keeps_then many.done one.done start mid (failure_of d) new one.from one.from one.to
      (keeps_from many.done start mid many.from many.to one.from (subst (λ (f : Option Failure). Keeps many.done start f mid many.from many.to) none many.keeps)) one.keeps;
}

-- memory ran out after them
pub many_short : (start mid : Seen) (c : Course) → failure_of c ≡ None → KeepsMany start c mid → KeepsMany start (course.Breaks failures.Memory) mid
many_short start mid c none many = many_more start mid c (course.Breaks failures.Memory) mid none many (one_short failures.Memory mid)

-- a text was printed after them
pub many_put : (start mid : Seen) (c : Course) (failure : Option Failure) (text : List ℕ) (before after : Option (List ℕ)) (faults faults' : ℕ) → failure_of c ≡ None → KeepsMany start c mid
    → Puts failure text before after faults faults' → KeepsMany start (course_at_end c failure) mid
many_put start mid c failure text before after faults faults' none many puts = record {
  done = many.done;
  from = faults;
  to = faults';
  keeps = subst (λ (f : Option Failure). Keeps many.done start f mid faults faults') (sym (at_end_same c failure none))
      (keeps_put many.done start failure mid faults faults faults' (keeps_from many.done start mid many.from many.to faults (subst (λ (f : Option Failure). Keeps many.done start f mid many.from many.to) none many.keeps)) puts.cause);
}

-- the system ran after them
pub many_rest : (start mid : Seen) (c : Course) (failure : Option Failure) (new : Seen) (faults faults' : ℕ) → failure_of c ≡ None → KeepsMany start c mid → Keeps [] mid failure new faults faults'
    → KeepsMany start (course_at_end c failure) new
many_rest start mid c failure new faults faults' none many rested = record {
  done = many.done ++ [];
  from = faults;
  to = faults';
  keeps = subst (λ (f : Option Failure). Keeps (many.done ++ []) start f new faults faults') (sym (at_end_same c failure none))
      (keeps_then many.done [] start mid failure new faults faults faults'
      (keeps_from many.done start mid many.from many.to faults (subst (λ (f : Option Failure). Keeps many.done start f mid many.from many.to) none many.keeps)) rested);
}

-- what is done for a reply
module _ {F U : Type 0} (tariffs : Shared F (Bor Usage × Unit {0}) Charge) (tariff : F) (rules : Shared U (Bor Standing × Unit {0}) ℕ) (rule : U) where
  pub one_by : (answer : Reply) (number : ℕ) (old : Seen) (c : Course) (failure : Option Failure) (new : Seen) (before after : Option (List ℕ)) (faults faults' : ℕ) → IsReady old.system old.crew → AreOpen old.crew.jobs
      → c ≡ course_after failure → DidReply tariffs tariff rules rule answer number old failure new before after faults faults' → KeepsOne old c new
  one_by (reply.Item next timed) number old c failure new before after faults faults' ready open_ones is did = one_did (next ∷ []) (omega arith) old c failure new faults faults' is did.keeps
  one_by reply.Rest number old c failure new before after faults faults' ready open_ones is did = one_did [] (omega arith) old c failure new faults faults' is did.keeps
  one_by (reply.Asked q) number old c failure new before after faults faults' ready open_ones is (same, (text, answers, puts)) =
      subst (λ (s : Seen). KeepsOne old c s) (sym same)
      (one_did [] (omega arith) old c failure old faults faults' is (keeps_put [] old failure old faults faults faults' (keeps_still old faults ready open_ones) puts.cause))
  one_by reply.Refused number old c failure new before after faults faults' ready open_ones is (same, puts) =
      subst (λ (s : Seen). KeepsOne old c s) (sym same)
      (one_did [] (omega arith) old c failure old faults faults' is (keeps_put [] old failure old faults faults faults' (keeps_still old faults ready open_ones) puts.cause))
  one_by reply.More number old c failure new before after faults faults' ready open_ones is (none, same, quiet, still) =
      subst (λ (s : Seen). KeepsOne old c s) (sym same) (one_did [] (omega arith) old c None old faults faults (is ∙ ap course_after none) (keeps_still old faults ready open_ones))
  one_by reply.SkippedAll number old c failure new before after faults faults' ready open_ones is (none, same, quiet, still) =
      subst (λ (s : Seen). KeepsOne old c s) (sym same) (one_did [] (omega arith) old c None old faults faults (is ∙ ap course_after none) (keeps_still old faults ready open_ones))
