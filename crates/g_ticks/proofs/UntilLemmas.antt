-- Ticks, one after another, until a line is due or nothing steps.
-- serves: tick_on, tick_until_due, until_up, crates above
use Rattle.std.proofs.Common.{◌≡◌, ◌⊎◌, ◌+◌, ◌<◌, ◌≤◌, ℕ, Bool, true, false, not, List, [], Option, Some, None, refl, sym, ◌∙◌, ap, subst, inl, inr, arith}
use Rattle.std.specs.Fn.{Shared}
use Rattle.std.proofs.lemmas.Bool.{leb-false}
use denote.Ref.{Bor}
use Rattle.g_rules.specs.declared.tariff.Charge.{Charge}
use Rattle.g_rules.specs.declared.tariff.Usage.{Usage}
use Rattle.g_rules.specs.declared.rule.Standing.{Standing}
use Rattle.g_script.specs.declared.operator.Timed.{Timed}
use Rattle.g_run_model.specs.World.{World}
use Rattle.g_job_table.specs.Crew.{CrewState}
use Rattle.g_job_table.specs.Numbers.{AreOpen}
use Rattle.g_day.specs.declared.progress.Failure.{Failure}
use Rattle.g_day.specs.BeginningAnew.{beside, beside_new}
use Rattle.g_day.specs.Losses.{Never}
use Rattle.g_day.specs.Parts.{IsReady, Matches, Seen, seen}
use Rattle.g_day.specs.System.{Down, SystemFacts, SystemSafe, Up, devices_in}
use Rattle.g_ticks.specs.Tick.{left}
use Rattle.g_ticks.specs.Parts.{Anything, DidTicks, HasRoom, IsAtRest, Keeps, PartGoesFrom, is_past, steps_in, turn_of}
use Rattle.g_ticks.proofs.PartLemmas.{arrives_here, goes_then, keeps_then, none_arm}
use Rattle.g_ticks.proofs.RestLemmas.{due_is, nothing_is}
use Rattle.g_ticks.proofs.SameLemmas.{DidOne}
use Rattle.g_ticks.proofs.SurvivingLemmas.{never_runs, safe_runs}
use Rattle.g_ticks.proofs.KeepLemmas.{kept_itself}
use Rattle.g_day.proofs.BesideLemmas.{ready_beside}
use Rattle.g_day.proofs.LabelLemmas.{same_itself}
use Rattle.g_day.proofs.PutLemmas.{grown_then, same_grown}

-- THE COUNT HAS ROOM for a tick if there is one to do
pub room_one : (limit : Option ℕ) (s : Seen) → HasRoom limit s → is_past limit s.count ≡ false → s.count < 18446744073709551615
room_one None s room undue = omega (arith, room)
room_one (Some turn) s room undue = let below = leb-false turn s.count undue in omega (arith, room, below)

room_by : (was now n m : ℕ) → was + n < 18446744073709551615 → now ≡ was + 1 → m + 1 ≤ n → now + m < 18446744073709551615
room_by was now n m room counts falls = omega (arith, room, counts, falls)

-- and after it
pub room_then : (limit : Option ℕ) (old new : Seen) → HasRoom limit old → new.count ≡ old.count + 1 → left new + 1 ≤ left old → HasRoom limit new
room_then None old new room counts falls = room_by old.count new.count (left old) (left new) room counts falls
room_then (Some turn) old new room counts falls = room

-- the count of two successive parts stays, or reaches at most the turn
late_then : (turn old mid new : ℕ) → (mid ≤ turn) ⊎ (mid ≡ old) → (new ≤ turn) ⊎ (new ≡ mid) → (new ≤ turn) ⊎ (new ≡ old)
late_then turn old mid new first (inl most) = inl most
late_then turn old mid new (inl most) (inr same) = inl (omega (arith, most, same))
late_then turn old mid new (inr is) (inr same) = inr (same ∙ is)

pub keeps_here : (s : Seen) (faults : ℕ) → IsReady s.system s.crew → AreOpen s.crew.jobs → Keeps [] s None s faults faults
keeps_here s faults ready still = record {
  ready = λ none. (ready, still);
  numbers = λ none. omega arith;
  arms = none_arm (let f : Option Failure = None in f ≡ None) (devices_in s.system) (devices_in s.system) refl refl;
  same = same_itself (devices_in s.system);
  belongs = λ was. was;
  safe = λ was. was;
  dumps = λ was. kept_itself [] (devices_in s.system).rack;
  cause = refl;
}

-- with a new disc nothing steps that doesn't otherwise
ends_beside : (f : SystemFacts) (c : CrewState) (count : ℕ) (limit : Option ℕ) → (is_past limit count ≡ true) ⊎ (steps_in (seen f c count) ≡ false) → (is_past limit count ≡ true) ⊎ (steps_in (seen (beside_new f) c count) ≡ false)
ends_beside (Up s) c count limit ends = ends
ends_beside (Down d) c count limit ends = ends

module _ {F U : Type 0} (tariffs : Shared F (Bor Usage × Unit {0}) Charge) (tariff : F) (rules : Shared U (Bor Standing × Unit {0}) ℕ) (rule : U) (limit : Option ℕ) where
  -- none yet
  pub ticks_start : (s : Seen) (before : Option (List ℕ)) (faults : ℕ) → IsReady s.system s.crew → AreOpen s.crew.jobs → DidTicks tariffs tariff rules rule Anything limit s None s before before faults faults
  ticks_start s before faults ready still = record {
    goes = λ lines at w m between is. arrives_here tariffs tariff rules rule SystemSafe safe_runs w lines s before m between is;
    keeps = keeps_here s faults ready still;
    late = λ none turn is. inr refl;
    grows = same_grown before before refl;
    aside = λ blank. (blank, λ lines at w m between is. arrives_here tariffs tariff rules rule Never never_runs w lines (beside s) before m between is);
  }

  -- one more
  pub ticks_more : (s mid : Seen) (failure : Option Failure) (new : Seen) (before middle after : Option (List ℕ)) (faults faults1 faults2 : ℕ)
      → DidTicks tariffs tariff rules rule Anything limit s None mid before middle faults faults1 → DidOne tariffs tariff rules rule limit mid failure new middle after faults1 faults2
      → DidTicks tariffs tariff rules rule Anything limit s failure new before after faults faults2
  ticks_more s mid failure new before middle after faults faults1 faults2 first one = record {
    goes = λ lines at w m between is.
        let a = first.goes lines at w m between is in
        goes_then tariffs tariff rules rule SystemSafe safe_runs Anything Anything w lines lines s mid before middle a failure new after (one.did.goes lines at a.next a.matches a.between a.lines);
    keeps = keeps_then [] [] s mid failure new faults faults1 faults2 first.keeps one.did.keeps;
    late = λ none turn is. late_then turn s.count mid.count new.count (first.late refl turn is) (one.did.late none turn is);
    grows = grown_then before middle after first.grows one.did.grows;
    aside = λ blank.
        let (blank_mid, went) = first.aside blank in
        let (blank_new, goes) = one.did.aside blank_mid in (
          blank_new,
          λ lines at w m between is.
              let a = went lines at w m between is in
              goes_then tariffs tariff rules rule Never never_runs Anything Anything w lines lines (beside s) (beside mid) before middle a failure (beside new) after (goes lines at a.next a.matches a.between a.lines),
        );
  }

  -- THE END of them
  rests : (w : World) (f : SystemFacts) (c : CrewState) (count : ℕ) → Matches w (seen f c count) → IsReady f c → turn_of w.lines ≡ limit → (is_past limit count ≡ true) ⊎ (steps_in (seen f c count) ≡ false) → IsAtRest w
  rests w f c count m ready at (inl past) = inl (due_is w ∙ ap (λ (l : Option ℕ). is_past l w.count) at ∙ ap (λ (n : ℕ). is_past limit n) m.count ∙ past)
  rests w f c count m ready at (inr still) = inr (nothing_is w f c count m ready ∙ ap (λ (b : Bool). not b) still)

  rested : (Safe : SystemFacts → Type 0) (s : Seen) (f : SystemFacts) (c : CrewState) (count : ℕ) (before after : Option (List ℕ)) → IsReady f c → (is_past limit count ≡ true) ⊎ (steps_in (seen f c count) ≡ false)
      → ((lines : List Timed) → turn_of lines ≡ limit → PartGoesFrom tariffs tariff rules rule Safe Anything lines lines s None (seen f c count) before after)
      → (lines : List Timed) → turn_of lines ≡ limit → PartGoesFrom tariffs tariff rules rule Safe IsAtRest lines lines s None (seen f c count) before after
  rested Safe s f c count before after ready ends goes lines at w m between is =
      let a = goes lines at w m between is in record {
        moves = a.moves;
        next = a.next;
        added = a.added;
        leads = a.leads;
        matches = a.matches;
        between = a.between;
        lines = a.lines;
        rests = rests a.next f c count a.matches ready (ap turn_of a.lines ∙ at) ends;
        put = a.put;
      }

  pub ticks_end : (s : Seen) (failure : Option Failure) (f : SystemFacts) (c : CrewState) (count : ℕ) (before after : Option (List ℕ)) (faults faults' : ℕ)
      → DidTicks tariffs tariff rules rule Anything limit s failure (seen f c count) before after faults faults'
      → (failure ≡ None → (is_past limit count ≡ true) ⊎ (steps_in (seen f c count) ≡ false)) → DidTicks tariffs tariff rules rule IsAtRest limit s failure (seen f c count) before after faults faults'
  ticks_end s None f c count before after faults faults' did ends = record {
    goes = rested SystemSafe s f c count before after (did.keeps.ready refl).0 (ends refl) did.goes;
    keeps = did.keeps;
    late = did.late;
    grows = did.grows;
    aside = λ blank.
        let (blank_new, goes) = did.aside blank in
        (blank_new, rested Never (beside s) (beside_new f) c count before after (ready_beside f c (did.keeps.ready refl).0) (ends_beside f c count limit (ends refl)) goes);
  }
  ticks_end s (Some failure) f c count before after faults faults' did ends = record { goes = did.goes; keeps = did.keeps; late = did.late; grows = did.grows; aside = did.aside }

-- what a loop of ticks has left to do
abbrev pub ticks_left : Option Failure → ℕ → ℕ
ticks_left None n = n + 1
ticks_left (Some failure) n = 0

pub ticks_fall : (was now : Option Failure) (n m : ℕ) → was ≡ None → (now ≡ None → m + 1 ≤ n) → ticks_left now m < ticks_left was n
ticks_fall was now n m is falls = subst (λ (f : Option Failure). ticks_left now m < ticks_left f n) (sym is) (by now falls)
  where
    by : (f : Option Failure) → (f ≡ None → m + 1 ≤ n) → ticks_left f m < n + 1
    by None less = let it : m + 1 ≤ n = less refl in omega (arith, it)
    by (Some failure) less = omega arith
