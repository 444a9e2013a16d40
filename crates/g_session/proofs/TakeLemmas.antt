-- What a session does for an item or an empty line: a line that nothing follows, and the system run until nothing can step.
-- serves: rest, rest_and_tell, take, taking, KeepLemmas
use Rattle.std.proofs.Common.{◌≡◌, ◌⊎◌, ◌+◌, ◌<◌, ◌≤◌, ◌++◌, ℕ, Bool, true, false, List, [], ◌∷◌, Option, Some, None, append_assoc, append-nil, refl, sym, ◌∙◌, ap, subst, inl, inr, arith}
use Rattle.std.specs.Fn.{Shared}
use denote.Ref.{Bor}
use Rattle.g_rules.specs.declared.tariff.Charge.{Charge}
use Rattle.g_rules.specs.declared.tariff.Usage.{Usage}
use Rattle.g_rules.specs.declared.rule.Standing.{Standing}
use Rattle.g_io.specs.Streams.{HasPutPart, with_more}
use Rattle.g_script.specs.declared.operator.Timed.{Timed}
use Rattle.g_run_model.specs.Top.{AreArmings}
use Rattle.g_job_table.specs.Numbers.{AreOpen}
use Rattle.g_day.specs.declared.progress.Failure.{Failure}
use Rattle.g_day.specs.BeginningAnew.{beside, beside_new}
use Rattle.g_day.specs.Losses.{Never}
use Rattle.g_day.specs.Parts.{IsReady, Matches, Seen}
use Rattle.g_day.specs.Puts.{FaultCause, Puts}
use Rattle.g_day.specs.System.{SystemSafe, devices_in}
use Rattle.g_day.proofs.LabelLemmas.{same_itself}
use Rattle.g_day.proofs.PutLemmas.{grown_then, puts_grown, same_grown, with_more-append, with_more-nil}
use Rattle.g_ticks.specs.Tick.{IsBetween, left}
use Rattle.g_ticks.specs.Parts.{Anything, BeginsBy, DidTicks, HasRoom, IsAtRest, Keeps, LinesGo, PartGoesFrom, turn_of}
use Rattle.g_ticks.proofs.KeepLemmas.{kept_itself}
use Rattle.g_ticks.proofs.PartLemmas.{arms_more, goes_then, keeps_then, leads_itself, none_arm, part_unclaimed}
use Rattle.g_ticks.proofs.SurvivingLemmas.{never_runs, safe_runs}
use Rattle.g_laws_sessions.specs.Session.{tick_line}
use Rattle.g_run.specs.NextLine.{DidNext}
use Rattle.g_run.proofs.AnewLemmas.{first_one, first_well}
use Rattle.g_session.specs.Taking.{DidRest, DidRestAndTell, DidTake}

-- THE COUNT HAS ROOM for what is left to do
pub room_for_rest : (s : Seen) → s.count ≤ 1000000000000000000 → left s ≤ 4358967360 → HasRoom None s
room_for_rest s few most = omega (arith, few, most)

none_of_some : (failure : Failure) → (let some : Option Failure = Some failure in some ≡ None) → ⊥
none_of_some failure e = cc

-- nothing was done, because memory ran out
pub keeps_short : (failure : Failure) (s : Seen) (faults faults' : ℕ) → FaultCause (Some failure) faults faults' → Keeps [] s (Some failure) s faults faults'
keeps_short failure s faults faults' cause = record {
  ready = λ none. absurd (none_of_some failure none);
  numbers = λ none. absurd (none_of_some failure none);
  arms = none_arm (let f : Option Failure = Some failure in f ≡ None) (devices_in s.system) (devices_in s.system) refl refl;
  same = same_itself (devices_in s.system);
  belongs = λ was. was;
  safe = λ was. was;
  dumps = λ was. kept_itself [] (devices_in s.system).rack;
  cause = cause;
}

-- and then a text was printed
pub keeps_put : (done : List Timed) (old : Seen) (failure : Option Failure) (new : Seen) (faults faults1 faults2 : ℕ) → Keeps done old None new faults faults1 → FaultCause failure faults1 faults2
    → Keeps done old failure new faults faults2
keeps_put done old None new faults faults1 faults2 keeps cause =
    subst (λ (n : ℕ). Keeps done old None new faults n) (sym cause) keeps
keeps_put done old (Some failure) new faults faults1 faults2 keeps cause = record {
  ready = λ none. absurd (none_of_some failure none);
  numbers = λ none. absurd (none_of_some failure none);
  arms =
      let more : AreArmings (done ++ []) (let f : Option Failure = Some failure in f ≡ None) (devices_in old.system) (devices_in new.system) =
      arms_more done [] (devices_in old.system) (devices_in new.system) (none_of_some failure) keeps.arms in
      subst (λ (ls : List Timed). AreArmings ls (let f : Option Failure = Some failure in f ≡ None) (devices_in old.system) (devices_in new.system)) (append-nil done) more;
  same = keeps.same;
  belongs = keeps.belongs;
  safe = keeps.safe;
  dumps = keeps.dumps;
  cause = subst (λ (n : ℕ). FaultCause (Some failure) n faults2) keeps.cause cause;
}

module _ {F U : Type 0} (tariffs : Shared F (Bor Usage × Unit {0}) Charge) (tariff : F) (rules : Shared U (Bor Standing × Unit {0}) ℕ) (rule : U) where
  -- THE SYSTEM RUN until nothing can step
  pub rest_not : (failure : Failure) (s : Seen) (before : Option (List ℕ)) (faults faults' : ℕ) → FaultCause (Some failure) faults faults'
      → DidRest tariffs tariff rules rule s (Some failure) s before before faults faults'
  rest_not failure s before faults faults' cause = record {
    goes = λ w m between is. record {
      moves = [];
      next = w;
      added = [];
      leads = leads_itself tariffs tariff rules rule SystemSafe safe_runs w s.system m.stands;
      put = (0, omega arith, sym (with_more-nil before));
    };
    keeps = keeps_short failure s faults faults' cause;
    grows = same_grown before before refl;
    aside = λ blank. (
      blank,
      λ w m between is. record {
        moves = [];
        next = w;
        added = [];
        leads = leads_itself tariffs tariff rules rule Never never_runs w (beside_new s.system) m.stands;
        put = (0, omega arith, sym (with_more-nil before));
      },
    );
  }

  pub rest_done : (s : Seen) (failure : Option Failure) (new : Seen) (before after : Option (List ℕ)) (faults faults' : ℕ)
      → DidTicks tariffs tariff rules rule IsAtRest None s failure new before after faults faults' → DidRest tariffs tariff rules rule s failure new before after faults faults'
  rest_done s failure new before after faults faults' ticked = record {
    goes = ticked.goes [] refl;
    keeps = ticked.keeps;
    grows = ticked.grows;
    aside = λ blank. let (blank_new, went) = ticked.aside blank in (blank_new, went [] refl);
  }

  -- and the count is printed
  pub rest_told : (s : Seen) (failure : Option Failure) (new : Seen) (before middle after : Option (List ℕ)) (faults faults1 faults2 : ℕ)
      → DidRest tariffs tariff rules rule s None new before middle faults faults1 → Puts failure (tick_line new.count) middle after faults1 faults2
      → DidRestAndTell tariffs tariff rules rule s failure new before after faults faults2
  rest_told s None new before middle after faults faults1 faults2 rested puts = record {
    goes = (middle, rested.goes, puts.put);
    keeps = keeps_put [] s None new faults faults1 faults2 rested.keeps puts.cause;
    grows = grown_then before middle after rested.grows (puts_grown puts);
    aside = λ blank. let (blank_new, went) = rested.aside blank in (blank_new, (middle, went, puts.put));
  }
  rest_told s (Some failure) new before middle after faults faults1 faults2 rested puts = record {
    goes = inr (middle, rested.goes, puts.put);
    keeps = keeps_put [] s (Some failure) new faults faults1 faults2 rested.keeps puts.cause;
    grows = grown_then before middle after rested.grows (puts_grown puts);
    aside = λ blank. let (blank_new, went) = rested.aside blank in (blank_new, inr (middle, went, puts.put));
  }

  pub rest_untold : (s : Seen) (failure : Failure) (new : Seen) (before after : Option (List ℕ)) (faults faults' : ℕ)
      → DidRest tariffs tariff rules rule s (Some failure) new before after faults faults' → DidRestAndTell tariffs tariff rules rule s (Some failure) new before after faults faults'
  rest_untold s failure new before after faults faults' rested = record {
    goes = inl rested.goes;
    keeps = rested.keeps;
    grows = rested.grows;
    aside = λ blank. let (blank_new, went) = rested.aside blank in (blank_new, inl went);
  }

  -- AN ITEM with a time
  pub take_held : (next : Timed) (s : Seen) (failure : Option Failure) (new : Seen) (before after : Option (List ℕ)) (faults faults' : ℕ)
      → DidNext tariffs tariff rules rule next s failure new before after faults faults' → DidTake tariffs tariff rules rule true next s failure new before after faults faults'
  take_held next s failure new before after faults faults' one = record {
    goes = one.holds;
    keeps = one.did.keeps;
    grows = one.did.grows;
    first = one.first;
  }

  -- on blank devices, with no tick after it
  first_short : (next : Timed) (s : Seen) (failure : Option Failure) (new : Seen) (before after : Option (List ℕ))
      → BeginsBy (λ x. LinesGo tariffs tariff rules rule (next ∷ []) s failure x before after) (next ∷ []) s failure new
      → BeginsBy (λ x. PartGoesFrom tariffs tariff rules rule Never Anything (next ∷ []) [] (beside s) failure x before after) (next ∷ []) s failure new
  first_short next s failure new before after (inl u) = inl (record { goes = λ w m between is. u.goes [] w m between is; blank = u.blank; unwell = u.unwell })
  first_short next s failure new before after (inr took) = inr (λ w m between is. took [] w m between is)

  -- and with the ticks after it
  first_rested : (next : Timed) (s mid : Seen) (failure : Option Failure) (new : Seen) (before middle after : Option (List ℕ)) (faults1 faults2 : ℕ)
      → DidRest tariffs tariff rules rule mid failure new middle after faults1 faults2
      → BeginsBy (λ x. LinesGo tariffs tariff rules rule (next ∷ []) s None x before middle) (next ∷ []) s None mid
      → BeginsBy (λ x. PartGoesFrom tariffs tariff rules rule Never IsAtRest (next ∷ []) [] (beside s) failure x before after) (next ∷ []) s failure new
  first_rested next s mid failure new before middle after faults1 faults2 rested (inl u) =
      let (blank_new, went) = rested.aside u.blank in inl (record {
        goes = λ w m between is.
            let a = u.goes [] w m between is in
            goes_then tariffs tariff rules rule Never never_runs Anything IsAtRest w [] [] (beside s) (beside mid) before middle a failure (beside new) after (went a.next a.matches a.between a.lines);
        blank = blank_new;
        unwell = λ none begin well. u.unwell refl begin (first_well (devices_in s.system) (devices_in mid.system) (devices_in new.system) rested.keeps.same well);
      })
  first_rested next s mid failure new before middle after faults1 faults2 rested (inr took) = inr (λ w m between is.
      let a = took [] w m between is in
      goes_then tariffs tariff rules rule Never never_runs Anything IsAtRest w [] [] (beside s) mid before middle a failure new after
      (part_unclaimed tariffs tariff rules rule SystemSafe IsAtRest [] [] mid failure new middle after rested.goes a.next a.matches a.between a.lines))

  -- one that failed
  pub take_short : (timed : Bool) (next : Timed) (s : Seen) (failure : Failure) (new : Seen) (before after : Option (List ℕ)) (faults faults' : ℕ)
      → DidNext tariffs tariff rules rule next s (Some failure) new before after faults faults' → DidTake tariffs tariff rules rule timed next s (Some failure) new before after faults faults'
  take_short true next s failure new before after faults faults' one = record {
    goes = one.holds;
    keeps = one.did.keeps;
    grows = one.did.grows;
    first = one.first;
  }
  take_short false next s failure new before after faults faults' one = record {
    goes = λ w m between is. one.did.goes [] w m between is;
    keeps = one.did.keeps;
    grows = one.did.grows;
    first = λ is blank. cut_rest (first_short next s (Some failure) new before after (one.did.first (first_one next is) blank));
  }
    where
      -- a part that was cut short doesn't rest
      cut_rest : BeginsBy (λ x. PartGoesFrom tariffs tariff rules rule Never Anything (next ∷ []) [] (beside s) (Some failure) x before after) (next ∷ []) s (Some failure) new
          → BeginsBy (λ x. PartGoesFrom tariffs tariff rules rule Never IsAtRest (next ∷ []) [] (beside s) (Some failure) x before after) (next ∷ []) s (Some failure) new
      cut_rest (inl u) = inl (record { goes = λ w m between is. u.goes w m between is; blank = u.blank; unwell = u.unwell })
      cut_rest (inr took) = inr (λ w m between is. took w m between is)

  -- one without
  pub take_rested : (next : Timed) (s mid : Seen) (failure : Option Failure) (new : Seen) (before middle after : Option (List ℕ)) (faults faults1 faults2 : ℕ)
      → DidNext tariffs tariff rules rule next s None mid before middle faults faults1 → DidRest tariffs tariff rules rule mid failure new middle after faults1 faults2
      → DidTake tariffs tariff rules rule false next s failure new before after faults faults2
  take_rested next s mid failure new before middle after faults faults1 faults2 one rested = record {
    goes = λ w m between is.
        let a = one.did.goes [] w m between is in
        goes_then tariffs tariff rules rule SystemSafe safe_runs Anything IsAtRest w [] [] s mid before middle a failure new after (rested.goes a.next a.matches a.between a.lines);
    keeps = keeps_then (next ∷ []) [] s mid failure new faults faults1 faults2 one.did.keeps rested.keeps;
    grows = grown_then before middle after one.did.grows rested.grows;
    first = λ is blank. first_rested next s mid failure new before middle after faults1 faults2 rested (one.did.first (first_one next is) blank);
  }
