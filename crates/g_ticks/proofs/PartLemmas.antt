-- Parts of a run, one after another.
-- serves: TickedLemmas, UntilLemmas, crates above
use Rattle.std.proofs.Common.{◌≡◌, ◌+◌, ◌≤◌, ◌++◌, ℕ, List, [], ◌∷◌, Option, Some, None, length, append_assoc, append-nil, refl, sym, ◌∙◌, ap, subst, arith}
use Rattle.std.proofs.lemmas.List.{length-append}
use Rattle.std.specs.Fn.{Shared}
use denote.Ref.{Bor}
use Rattle.g_base.specs.Fuse.{Arms, IsArmedBy, IsArmedWithin}
use Rattle.g_base.proofs.FuseLemmas.{armed_then, within_more, within_none, within_then}
use Rattle.g_rules.specs.declared.tariff.Charge.{Charge}
use Rattle.g_rules.specs.declared.tariff.Usage.{Usage}
use Rattle.g_rules.specs.declared.rule.Standing.{Standing}
use Rattle.g_io.specs.Streams.{with_more}
use Rattle.g_script.specs.declared.operator.Operator.{Operator}
use Rattle.g_script.specs.declared.operator.Timed.{Timed}
use Rattle.g_run_model.specs.Devices.{Devices}
use Rattle.g_run_model.specs.Moves.{Move}
use Rattle.g_run_model.specs.Lines.{disc_arms, tape_arms}
use Rattle.g_run_model.specs.Top.{AreArmings, numbers_of}
use Rattle.g_run_model.specs.World.{World}
use Rattle.g_run_model.proofs.ArmLemmas.{in_none, in_then}
use Rattle.g_run_model.proofs.CountLemmas.{event_none, moves_then}
use Rattle.g_run_model.proofs.TurnLemmas.{run_append}
use Rattle.g_day.specs.declared.progress.Failure.{Failure}
use Rattle.g_day.specs.Parts.{Matches, Seen}
use Rattle.g_day.specs.Puts.{FaultCause}
use Rattle.g_day.specs.Losses.{Never}
use Rattle.g_day.specs.System.{IsRunning, SameDevices, StandsAs, SystemFacts, devices_in}
use Rattle.g_ticks.specs.Tick.{IsBetween}
use Rattle.g_day.proofs.PutLemmas.{with_more-append, with_more-nil}
use Rattle.g_ticks.proofs.TickLemmas.{put_on}
use Rattle.g_ticks.specs.Parts.{Anything, ArrivesFrom, GoesFrom, Keeps, LeadsFrom, PartGoesFrom}
use Rattle.g_ticks.proofs.KeepLemmas.{kept_more, kept_then}
use Rattle.g_ticks.proofs.SurvivingLemmas.{left_itself, left_then}
use Rattle.g_day.proofs.LabelLemmas.{same_then}

-- armings, one part after another
pub none_arm : (through : Type 0) (old new : Devices) → new.disc.arms ≡ old.disc.arms → new.rack.arms ≡ old.rack.arms → AreArmings [] through old new
none_arm through old new disc tape = record {
  disc = within_none [] old.disc.arms new.disc.arms disc;
  tape = within_none [] old.rack.arms new.rack.arms tape;
  all_disc = λ went. disc;
  all_tape = λ went. tape;
  disc_since = in_none old.disc.writes new.disc.writes old.disc.arms new.disc.arms disc;
  tape_since = in_none old.rack.write_faults new.rack.write_faults old.rack.arms new.rack.arms tape;
}

-- the numbers of two lists of lines
both_numbers : (arms : Operator → List ℕ) (a b : List Timed) → numbers_of arms (a ++ b) ≡ numbers_of arms a ++ numbers_of arms b
both_numbers arms [] b = refl
both_numbers arms (next ∷ a) b =
    ap (λ (ks : List ℕ). arms next.what ++ ks) (both_numbers arms a b) ∙ sym (append_assoc (arms next.what) (numbers_of arms a) (numbers_of arms b))

two_parts : (arms : Operator → List ℕ) (a b : List Timed) (old now new : Arms) → IsArmedBy (numbers_of arms a) old now → IsArmedBy (numbers_of arms b) now new → IsArmedBy (numbers_of arms (a ++ b)) old new
two_parts arms a b old now new first later =
    subst (λ (ks : List ℕ). IsArmedBy ks old new) (sym (both_numbers arms a b)) (armed_then (numbers_of arms a) (numbers_of arms b) old now new first later)

then_some : (arms : Operator → List ℕ) (a b : List Timed) (old now new : Arms) → IsArmedBy (numbers_of arms a) old now → IsArmedWithin (numbers_of arms b) now new → IsArmedWithin (numbers_of arms (a ++ b)) old new
then_some arms a b old now new first later =
    subst (λ (ks : List ℕ). IsArmedWithin ks old new) (sym (both_numbers arms a b)) (within_then (numbers_of arms a) (numbers_of arms b) old now new first later)

and_more : (arms : Operator → List ℕ) (a b : List Timed) (old new : Arms) → IsArmedWithin (numbers_of arms a) old new → IsArmedWithin (numbers_of arms (a ++ b)) old new
and_more arms a b old new first = subst (λ (ks : List ℕ). IsArmedWithin ks old new) (sym (both_numbers arms a b)) (within_more (numbers_of arms a) (numbers_of arms b) old new first)

pub arms_then : {One Two : Type 0} (a b : List Timed) (old now new : Devices) → SameDevices old now → SameDevices now new → One → AreArmings a One old now → AreArmings b Two now new → AreArmings (a ++ b) Two old new
arms_then a b old now new early late went first later = record {
  disc = then_some disc_arms a b old.disc.arms now.disc.arms new.disc.arms (first.all_disc went) later.disc;
  tape = then_some tape_arms a b old.rack.arms now.rack.arms new.rack.arms (first.all_tape went) later.tape;
  all_disc = λ all. two_parts disc_arms a b old.disc.arms now.disc.arms new.disc.arms (first.all_disc went) (later.all_disc all);
  all_tape = λ all. two_parts tape_arms a b old.rack.arms now.rack.arms new.rack.arms (first.all_tape went) (later.all_tape all);
  disc_since = in_then old.disc.writes now.disc.writes new.disc.writes old.disc.arms now.disc.arms new.disc.arms early.writes late.writes first.disc_since later.disc_since;
  tape_since = in_then old.rack.write_faults now.rack.write_faults new.rack.write_faults old.rack.arms now.rack.arms new.rack.arms early.tape_write_faults late.tape_write_faults first.tape_since later.tape_since;
}

-- lines that weren't reached
pub arms_more : {One Two : Type 0} (a b : List Timed) (old new : Devices) → (Two → ⊥) → AreArmings a One old new → AreArmings (a ++ b) Two old new
arms_more a b old new cut first = record {
  disc = and_more disc_arms a b old.disc.arms new.disc.arms first.disc;
  tape = and_more tape_arms a b old.rack.arms new.rack.arms first.tape;
  all_disc = λ all. absurd (cut all);
  all_tape = λ all. absurd (cut all);
  disc_since = first.disc_since;
  tape_since = first.tape_since;
}

-- what holds of all devices after two parts
pub keeps_then : (a b : List Timed) (old mid : Seen) (failure : Option Failure) (new : Seen) (faults faults1 faults2 : ℕ)
    → Keeps a old None mid faults faults1 → Keeps b mid failure new faults1 faults2 → Keeps (a ++ b) old failure new faults faults2
keeps_then a b old mid failure new faults faults1 faults2 first later = record {
  ready = later.ready;
  numbers = λ none.
      let one : mid.crew.next_job ≤ old.crew.next_job + length a = first.numbers refl in
      let two : new.crew.next_job ≤ mid.crew.next_job + length b = later.numbers none in
      let sum : length (a ++ b) ≡ length a + length b = length-append a b in
      omega (arith, one, two, sum);
  arms = arms_then a b (devices_in old.system) (devices_in mid.system) (devices_in new.system) first.same later.same refl first.arms later.arms;
  same = same_then (devices_in old.system) (devices_in mid.system) (devices_in new.system) first.same later.same;
  belongs = λ was. later.belongs (first.belongs was);
  safe = λ was. later.safe (first.safe was);
  dumps = λ was. kept_then a b (devices_in old.system).rack (devices_in mid.system).rack (devices_in new.system).rack later.same.reels (first.dumps was) (later.dumps (first.belongs was));
  cause = subst (λ (n : ℕ). FaultCause failure n faults2) first.cause later.cause;
}

some_none : (failure : Failure) → (let some : Option Failure = Some failure in some ≡ None) → ⊥
some_none failure e = cc

pub keeps_more : (a b : List Timed) (old : Seen) (failure : Failure) (new : Seen) (faults faults' : ℕ) → Keeps a old (Some failure) new faults faults' → Keeps (a ++ b) old (Some failure) new faults faults'
keeps_more a b old failure new faults faults' first = record {
  ready = λ none. absurd (some_none failure none);
  numbers = λ none. absurd (some_none failure none);
  arms = arms_more a b (devices_in old.system) (devices_in new.system) (some_none failure) first.arms;
  same = first.same;
  belongs = first.belongs;
  safe = first.safe;
  dumps = λ was. kept_more a b (devices_in old.system).rack (devices_in new.system).rack (first.dumps was);
  cause = first.cause;
}

module _ {F U : Type 0} (tariffs : Shared F (Bor Usage × Unit {0}) Charge) (tariff : F) (rules : Shared U (Bor Standing × Unit {0}) ℕ) (rule : U) where
  -- nothing is claimed of these moves
  pub leads_unclaimed : (Safe : SystemFacts → Type 0) (w : World) (old new : SystemFacts) (moves : List Move) (next : World) (added : List ℕ)
      → LeadsFrom tariffs tariff rules rule Safe w old new moves next added → LeadsFrom tariffs tariff rules rule Never w old new moves next added
  leads_unclaimed Safe w old new moves next added leads = record {
    disc_arms = leads.disc_arms;
    tape_arms = leads.tape_arms;
    run = leads.run;
    counted = leads.counted;
    stands = leads.stands;
    safe = λ no. no;
    left = λ no. absurd no;
    bad = leads.bad;
    over = leads.over;
    disc_stops = leads.disc_stops;
    tape_stops = leads.tape_stops;
    text = leads.text;
  }

  pub goes_unclaimed : (Safe : SystemFacts → Type 0) (Rests : World → Type 0) (w : World) (rest : List Timed) (old : Seen) (failure : Option Failure) (new : Seen) (before after : Option (List ℕ))
      → GoesFrom tariffs tariff rules rule Safe Rests w rest old failure new before after → GoesFrom tariffs tariff rules rule Never Rests w rest old failure new before after
  goes_unclaimed Safe Rests w rest old None new before after a = record {
    moves = a.moves;
    next = a.next;
    added = a.added;
    leads = leads_unclaimed Safe w old.system new.system a.moves a.next a.added a.leads;
    matches = a.matches;
    between = a.between;
    lines = a.lines;
    rests = a.rests;
    put = a.put;
  }
  goes_unclaimed Safe Rests w rest old (Some failure) new before after b =
      record { moves = b.moves; next = b.next; added = b.added; leads = leads_unclaimed Safe w old.system new.system b.moves b.next b.added b.leads; put = b.put }

  pub part_unclaimed : (Safe : SystemFacts → Type 0) (Rests : World → Type 0) (lines rest : List Timed) (old : Seen) (failure : Option Failure) (new : Seen) (before after : Option (List ℕ))
      → PartGoesFrom tariffs tariff rules rule Safe Rests lines rest old failure new before after → PartGoesFrom tariffs tariff rules rule Never Rests lines rest old failure new before after
  part_unclaimed Safe Rests lines rest old failure new before after goes w m between is = goes_unclaimed Safe Rests w rest old failure new before after (goes w m between is)

  -- what is claimed of systems that are running
  module _ (Safe : SystemFacts → Type 0) (running : (f : SystemFacts) → Safe f → IsRunning f) where
    pub leads_itself : (w : World) (f : SystemFacts) → StandsAs f w.store → LeadsFrom tariffs tariff rules rule Safe w f f [] w []
    leads_itself w f stands = record {
      disc_arms = [];
      tape_arms = [];
      run = refl;
      counted = event_none (devices_in f);
      stands = stands;
      safe = λ was. was;
      left = λ was. left_itself tariffs tariff rules rule w f;
      bad = refl;
      over = refl;
      disc_stops = sym (append-nil w.disc_stops);
      tape_stops = sym (append-nil w.tape_stops);
      text = sym (append-nil w.text);
    }

    pub leads_then : (w mid new : World) (old now last : SystemFacts) (ms ns : List Move) (a b : List ℕ) → LeadsFrom tariffs tariff rules rule Safe w old now ms mid a
        → LeadsFrom tariffs tariff rules rule Safe mid now last ns new b → LeadsFrom tariffs tariff rules rule Safe w old last (ms ++ ns) new (a ++ b)
    leads_then w mid new old now last ms ns a b first later = record {
      disc_arms = first.disc_arms ++ later.disc_arms;
      tape_arms = first.tape_arms ++ later.tape_arms;
      run = run_append tariffs tariff rules rule w ms ns mid new first.run later.run;
      counted = moves_then ms ns first.disc_arms first.tape_arms later.disc_arms later.tape_arms (devices_in old) (devices_in now) (devices_in last) first.counted later.counted;
      stands = later.stands;
      safe = λ was. later.safe (first.safe was);
      left = λ was. left_then tariffs tariff rules rule w mid new ms ns old now last first.run (running now (first.safe was)) first.stands later.stands (first.left was) (later.left (first.safe was));
      bad = later.bad ∙ first.bad;
      over = later.over ∙ first.over;
      disc_stops = later.disc_stops ∙ ap (λ (ks : List ℕ). ks ++ later.disc_arms) first.disc_stops ∙ append_assoc w.disc_stops first.disc_arms later.disc_arms;
      tape_stops = later.tape_stops ∙ ap (λ (ks : List ℕ). ks ++ later.tape_arms) first.tape_stops ∙ append_assoc w.tape_stops first.tape_arms later.tape_arms;
      text = later.text ∙ ap (λ (t : List ℕ). t ++ b) first.text ∙ append_assoc w.text a b;
    }

    -- after a part that arrived
    pub goes_then : (First Rests : World → Type 0) (w : World) (lines rest : List Timed) (old mid : Seen) (before middle : Option (List ℕ))
        (first : ArrivesFrom tariffs tariff rules rule Safe First w lines old mid before middle) (failure : Option Failure) (new : Seen) (after : Option (List ℕ))
        → GoesFrom tariffs tariff rules rule Safe Rests first.next rest mid failure new middle after → GoesFrom tariffs tariff rules rule Safe Rests w rest old failure new before after
    goes_then First Rests w lines rest old mid before middle first None new after later = record {
      moves = first.moves ++ later.moves;
      next = later.next;
      added = first.added ++ later.added;
      leads = leads_then w first.next later.next old.system mid.system new.system first.moves later.moves first.added later.added first.leads later.leads;
      matches = later.matches;
      between = later.between;
      lines = later.lines;
      rests = later.rests;
      put = later.put ∙ ap (λ (t : Option (List ℕ)). with_more t later.added) first.put ∙ with_more-append before first.added later.added;
    }
    goes_then First Rests w lines rest old mid before middle first (Some failure) new after later = record {
      moves = first.moves ++ later.moves;
      next = later.next;
      added = first.added ++ later.added;
      leads = leads_then w first.next later.next old.system mid.system new.system first.moves later.moves first.added later.added first.leads later.leads;
      put = put_on before middle after first.added later.added first.put later.put;
    }

    -- nothing was done
    pub arrives_here : (w : World) (lines : List Timed) (s : Seen) (before : Option (List ℕ)) → Matches w s → IsBetween w → w.lines ≡ lines
        → ArrivesFrom tariffs tariff rules rule Safe Anything w lines s s before before
    arrives_here w lines s before m between is = record {
      moves = [];
      next = w;
      added = [];
      leads = leads_itself w s.system m.stands;
      matches = m;
      between = between;
      lines = is;
      rests = tt;
      put = sym (with_more-nil before);
    }
