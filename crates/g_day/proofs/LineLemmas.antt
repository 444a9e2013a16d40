-- How a line ends: it was done and reported, or memory ran out and it wasn't; and what a refusal and a stop make of the
-- world.
-- serves: JobLemmas, UpLemmas, crates above
use Rattle.std.proofs.Common.{◌≡◌, ℕ, ◌++◌, true, false, List, [], ◌∷◌, Option, Some, None, refl, sym, ◌∙◌, ap, subst, arith, inl, inr}
use Rattle.std.specs.Prelude.{◌≢◌, ◌⊎◌, Result, Err, codes}
use Rattle.std.proofs.lemmas.List.{append_assoc}
use Rattle.g_base.proofs.FuseLemmas.{armed_none, within_none}
use Rattle.g_io.specs.Streams.{with_more, HasPutPart}
use Rattle.g_plain.specs.declared.faults.StoreFault.{StoreFault}
use Rattle.g_plain.specs.declared.faults.StoreFault.TheVariants.{NoMemory, Stopped}
use Rattle.g_monitor.specs.Refusals.{fault_line}
use Rattle.g_store_model.specs.State.{State}
use Rattle.g_store_model.specs.CallStep.{Outcome, Plain}
use Rattle.g_script.specs.declared.operator.Operator.{Operator}
use Rattle.g_run_model.specs.Devices.{Devices}
use Rattle.g_run_model.specs.Lines.{LineGives, is_process, line_refused, tells, refusal}
use Rattle.g_run_model.specs.Moves.{EventCounted}
use Rattle.g_run_model.specs.Texts.{broken_files, operator_line}
use Rattle.g_run_model.specs.World.{World, system_stopped}
use Rattle.g_run_model.proofs.ArmLemmas.{in_none}
use Rattle.g_run_model.proofs.CountLemmas.{event_none}
use Rattle.g_job_table.specs.Crew.{CrewState, IsCrewOf}
use Rattle.g_day.specs.declared.progress.Failure.{Failure}
use Rattle.g_day.specs.declared.progress.Failure.TheVariants.{Memory, Output}
use Rattle.g_day.specs.Losses.{LineLeft, Never, SystemLeaves}
use Rattle.g_day.specs.Parts.{ArmsBy, CountedBy, DidLine, DidLineFrom, DoesLine, DoesLineFrom, DoesNothingFrom, IsReady, LeavesCrew, LineGoesFrom, Matches, Seen, disc_arms, seen, tape_arms}
use Rattle.g_day.specs.Puts.{FaultCause, Puts, PutsBy}
use Rattle.g_day.specs.System.{StandsAs, SystemFacts, SystemSafe, devices_in}
use Rattle.g_day.specs.Telling.{TellsFault, down_text, refusal_text, without_jobs}
use Rattle.g_day.proofs.ByLemmas.{grown_by, plain_counted}
use Rattle.g_day.proofs.GrowLemmas.{grow_itself}
use Rattle.g_day.proofs.LeavesLemmas.{leaves_same}
use Rattle.g_day.proofs.LabelLemmas.{no_fuse, same_itself}
use Rattle.g_day.proofs.LossLemmas.{less_line, less_nothing, less_same}
use Rattle.g_day.proofs.PutLemmas.{puts_grown, same_grown}
use Rattle.g_day.specs.Terminals.{DidNothing}

-- done, and its text written completely or in part
pub was_done : (Safe : SystemFacts → Type 0) (what : Operator) (old new : Seen) (failure : Option Failure) (added : List ℕ) (before after : Option (List ℕ))
    → (does : (w : World) → Matches w old → DoesLineFrom Safe what w old.system new.system added)
    → ((w : World) (m : Matches w old) → failure ≡ None → Matches (does w m).next new) → PutsBy failure added before after → LineGoesFrom Safe what old failure new before after
was_done Safe what old new None added before after does matches put = λ w m. (added, does w m, matches w m refl, put)
was_done Safe what old new (Some failure) added before after does matches put = λ w m. inr (added, does w m, put)

-- not done
pub wasnt_done : (Safe : SystemFacts → Type 0) (what : Operator) (old new : Seen) (before after : Option (List ℕ)) → ((w : World) → Matches w old → DoesNothingFrom Safe w old.system new.system before after)
    → LineGoesFrom Safe what old (Some Memory) new before after
wasnt_done Safe what old new before after nothing = λ w m. inl (nothing w m)

-- the same line, without what a power loss leaves
module _ (Safe : SystemFacts → Type 0) (what : Operator) where
  unclaimed_does : (w : World) (old new : SystemFacts) (added : List ℕ) → DoesLineFrom Safe what w old new added → DoesLineFrom Never what w old new added
  unclaimed_does w old new added does =
      record { outcome = does.outcome; next = does.next; gives = does.gives; counted = does.counted; stands = does.stands; left = λ no. absurd no; text = does.text }

  unclaimed_failed : (w : World) (old new : SystemFacts) (before after : Option (List ℕ))
      → DoesNothingFrom Safe w old new before after ⊎ ((added : List ℕ) × DoesLineFrom Safe what w old new added × HasPutPart before added after)
      → DoesNothingFrom Never w old new before after ⊎ ((added : List ℕ) × DoesLineFrom Never what w old new added × HasPutPart before added after)
  unclaimed_failed w old new before after (inl nothing) = inl (record { counted = nothing.counted; stands = nothing.stands; left = λ no. absurd no; text = nothing.text })
  unclaimed_failed w old new before after (inr (added, does, put)) = inr (added, unclaimed_does w old new added does, put)

  unclaimed_goes : (old : Seen) (failure : Option Failure) (new : Seen) (before after : Option (List ℕ)) → LineGoesFrom Safe what old failure new before after
      → LineGoesFrom Never what old failure new before after
  unfolding unclaimed_does
  unclaimed_goes old None new before after goes = λ w m. let (added, does, matches, text) = goes w m in (added, unclaimed_does w old.system new.system added does, matches, text)
  unclaimed_goes old (Some failure) new before after goes = λ w m. unclaimed_failed w old.system new.system before after (goes w m)

  pub never_claimed : (old new : Seen) (failure : Option Failure) (before after : Option (List ℕ)) (faults faults' : ℕ) → DidLineFrom Safe what old failure new before after faults faults'
      → DidLineFrom Never what old failure new before after faults faults'
  never_claimed old new failure before after faults faults' did = record {
    goes = unclaimed_goes old failure new before after did.goes;
    ready = did.ready;
    crew = did.crew;
    arms = did.arms;
    count = did.count;
    fuses = did.fuses;
    same = did.same;
    belongs = did.belongs;
    safe = λ no. no;
    dumps = did.dumps;
    cause = did.cause;
    grows = did.grows;
  }

-- WHAT IS ARMED by a line that arms nothing
pub none_armed : (what : Operator) (failure : Option Failure) (old new : Devices) → disc_arms what ≡ [] → tape_arms what ≡ [] → new.disc.arms ≡ old.disc.arms → new.rack.arms ≡ old.rack.arms
    → ArmsBy what failure old new
none_armed what failure old new no_disc no_tape disc tape = record {
  disc = within_none (disc_arms what) old.disc.arms new.disc.arms disc;
  tape = within_none (tape_arms what) old.rack.arms new.rack.arms tape;
  all = λ through. (
    armed_none (disc_arms what) old.disc.arms new.disc.arms no_disc disc,
    armed_none (tape_arms what) old.rack.arms new.rack.arms no_tape tape,
  );
  disc_since = in_none old.disc.writes new.disc.writes old.disc.arms new.disc.arms disc;
  tape_since = in_none old.rack.write_faults new.rack.write_faults old.rack.arms new.rack.arms tape;
}

-- a line that leaves the system unchanged, and prints something
pub quiet_line : (what : Operator) → disc_arms what ≡ [] → tape_arms what ≡ [] → (f : SystemFacts) (c c' : CrewState) (count : ℕ) (failure : Option Failure) (added : List ℕ)
    (before after : Option (List ℕ)) (faults faults' : ℕ) → IsReady f c' → (does : (w : World) → Matches w (seen f c count) → DoesLine what w f f added)
    → ((w : World) (m : Matches w (seen f c count)) → failure ≡ None → Matches (does w m).next (seen f c' count)) → (failure ≡ None → LeavesCrew c c')
    → Puts failure added before after faults faults' → DidLine what (seen f c count) failure (seen f c' count) before after faults faults'
quiet_line what no_disc no_tape f c c' count failure added before after faults faults' ready does matches leaves puts = record {
  goes = was_done SystemSafe what (seen f c count) (seen f c' count) failure added before after does matches puts.put;
  ready = ready;
  crew = leaves;
  arms = none_armed what failure (devices_in f) (devices_in f) no_disc no_tape refl refl;
  count = refl;
  fuses = no_fuse what no_disc no_tape (devices_in f);
  same = same_itself (devices_in f);
  belongs = λ is. is;
  safe = λ is. is;
  dumps = λ is. grown_by (is_process what) (devices_in f).rack (devices_in f).rack (grow_itself (devices_in f).rack);
  cause = puts.cause;
  grows = puts_grown puts;
}

-- a refusal, for any text: nothing changes but the text
module _ (what : Operator) (no_disc : disc_arms what ≡ []) (no_tape : tape_arms what ≡ []) (text : List ℕ) (f : SystemFacts) (c : CrewState) (count : ℕ)
    (gives : (w : World) → Matches w (seen f c count) → LineGives Plain what w (refusal text w)) where
  refused_does : (w : World) → Matches w (seen f c count) → DoesLine what w f f (operator_line count (codes "REFUSED " ++ text))
  refused_does w m = record {
    outcome = Plain;
    next = refusal text w;
    gives = gives w m;
    counted = plain_counted what no_disc no_tape (devices_in f) (devices_in f) (event_none (devices_in f));
    stands = m.stands;
    left = λ safe. less_line what Plain w (refusal text w) f f m.stands m.stands (less_same f);
    text = ap (λ (n : ℕ). w.text ++ operator_line n (codes "REFUSED " ++ text)) m.count;
  }

  refused_matches : (w : World) (m : Matches w (seen f c count)) → Matches (refused_does w m).next (seen f c count)
  unfolding refused_does
  refused_matches w m = record { stands = m.stands; crew = record { jobs = m.crew.jobs; accounts = m.crew.accounts; next_job = m.crew.next_job }; count = m.count }

  pub says_refused : (failure : Option Failure) (before after : Option (List ℕ)) (faults faults' : ℕ) → IsReady f c → Puts failure (operator_line count (codes "REFUSED " ++ text)) before after faults faults'
      → DidLine what (seen f c count) failure (seen f c count) before after faults faults'
  says_refused failure before after faults faults' ready puts =
      quiet_line what no_disc no_tape f c c count failure (operator_line count (codes "REFUSED " ++ text)) before after faults faults' ready refused_does (λ w m e. refused_matches w m) (λ none. leaves_same c) puts

-- and by a fault, before anything is called
pub refused_line : (what : Operator) → disc_arms what ≡ [] → tape_arms what ≡ [] → (fault : StoreFault) (f : SystemFacts) (c : CrewState) (count : ℕ)
    → ((w : World) → Matches w (seen f c count) → LineGives Plain what w (line_refused fault w)) → (failure : Option Failure) (before after : Option (List ℕ)) (faults faults' : ℕ) → IsReady f c
    → Puts failure (refusal_text count fault) before after faults faults' → DidLine what (seen f c count) failure (seen f c count) before after faults faults'
refused_line what no_disc no_tape fault = says_refused what no_disc no_tape (fault_line fault)

-- nothing was tried, because memory ran out
pub untried_line : (what : Operator) → disc_arms what ≡ [] → tape_arms what ≡ [] → (old new : SystemFacts) (c : CrewState) (count : ℕ) → new ≡ old → IsReady old c → (failure : Option Failure) → failure ≡ Some Memory
    → (text : Option (List ℕ)) (faults : ℕ) → DidLine what (seen old c count) failure (seen new c count) text text faults faults
untried_line what no_disc no_tape old new c count same ready failure is text faults =
    subst (λ (f : SystemFacts). DidLine what (seen old c count) failure (seen f c count) text text faults faults) (sym same)
    (subst (λ (f : Option Failure). DidLine what (seen old c count) f (seen old c count) text text faults faults) (sym is) untried)
  where
    untried : DidLine what (seen old c count) (Some Memory) (seen old c count) text text faults faults
    untried = record {
      goes = wasnt_done SystemSafe what (seen old c count) (seen old c count) text text
          (λ w m. record { counted = event_none (devices_in old); stands = m.stands; left = λ safe. less_nothing w old old m.stands (less_same old); text = refl });
      ready = ready;
      crew = λ none. leaves_same c;
      arms = none_armed what (Some Memory) (devices_in old) (devices_in old) no_disc no_tape refl refl;
      count = refl;
      fuses = no_fuse what no_disc no_tape (devices_in old);
      same = same_itself (devices_in old);
      belongs = λ is. is;
      safe = λ is. is;
      dumps = λ is. grown_by (is_process what) (devices_in old).rack (devices_in old).rack (grow_itself (devices_in old).rack);
      cause = refl;
      grows = same_grown text text refl;
    }

-- nothing was done, because memory ran out
pub nothing_done : (what : Operator) → disc_arms what ≡ [] → tape_arms what ≡ [] → (f : SystemFacts) (c : CrewState) (count : ℕ) → IsReady f c → (failure : Option Failure) (c' : CrewState) (before after : Option (List ℕ)) (faults faults' : ℕ)
    → DidNothing c failure c' before after faults faults' → DidLine what (seen f c count) failure (seen f c' count) before after faults faults'
nothing_done what no_disc no_tape f c count ready failure c' before after faults faults' (failed, same, text, still) =
    subst (λ (k : CrewState). DidLine what (seen f c count) failure (seen f k count) before after faults faults') (sym same)
    (subst (λ (t : Option (List ℕ)). DidLine what (seen f c count) failure (seen f c count) before t faults faults') (sym text)
    (subst (λ (n : ℕ). DidLine what (seen f c count) failure (seen f c count) before before faults n) (sym still)
    (untried_line what no_disc no_tape f f c count refl ready failure failed before faults)))

-- WHAT A FAULT DOES TO THE WORLD: a stop takes it down, and any other fault is a refusal
abbrev pub told_of : StoreFault → State → World → World
told_of Stopped u w = system_stopped u w
told_of fault u w = line_refused fault (record w { store = u })

pub told_same : {R : Type 0} (done : R → State → World → World) (fault : StoreFault) (u : State) (w : World) → tells done (Err fault) u w ≡ told_of fault u w
told_same done Stopped u w = refl
told_same done fault u w = refl

pub told_store : (fault : StoreFault) (u : State) (w : World) → (told_of fault u w).store ≡ u
told_store Stopped u w = refl
told_store fault u w = refl

pub record FaultDone (Safe : SystemFacts → Type 0) (what : Operator) (w : World) (old new : SystemFacts) (fault : StoreFault) : Type 0 where
  pub state : State
  pub outcome : Outcome
  pub gives : LineGives outcome what w (told_of fault state w)
  pub counted : CountedBy what outcome (devices_in old) (devices_in new)
  pub stands : StandsAs new state
  pub left : Safe old → LineLeft what outcome w (told_of fault state w) old new

pub record Faulted (Safe : SystemFacts → Type 0) (what : Operator) (old : Seen) (system : SystemFacts) (fault : StoreFault) : Type 0 where
  pub does : fault ≢ NoMemory → (w : World) → Matches w old → FaultDone Safe what w old.system system fault
  pub nothing : fault ≡ NoMemory → (w : World) → Matches w old
      → EventCounted Plain [] [] (devices_in old.system) (devices_in system) × StandsAs system w.store × (Safe old.system → SystemLeaves (λ u. ⊥) (w.store.up ≡ false) old.system system)

module _ (Safe : SystemFacts → Type 0) (what : Operator) where
  -- a stop
  module _ (old : Seen) (system : SystemFacts) (faulted : Faulted Safe what old system Stopped) where
    stop_does : (w : World) → Matches w old → DoesLineFrom Safe what w old.system system (down_text old.count (codes "SYSTEM STOPPED") old.crew)
    stop_does w m =
        let done = faulted.does (λ e. let no : ⊥ = cc in no) w m in record {
          outcome = done.outcome;
          next = system_stopped done.state w;
          gives = done.gives;
          counted = done.counted;
          stands = done.stands;
          left = done.left;
          text = append_assoc w.text (operator_line w.count (codes "SYSTEM STOPPED")) (broken_files w.jobs)
              ∙ ap (λ (n : ℕ). w.text ++ (operator_line n (codes "SYSTEM STOPPED") ++ broken_files w.jobs)) m.count
              ∙ ap (λ jobs. w.text ++ (operator_line old.count (codes "SYSTEM STOPPED") ++ broken_files jobs)) m.crew.jobs;
        }

    stop_matches : (w : World) (m : Matches w old) → Matches (stop_does w m).next (seen system (without_jobs old.crew) old.count)
    unfolding stop_does
    stop_matches w m = record {
      stands = (stop_does w m).stands;
      crew = record { jobs = refl; accounts = λ user. refl; next_job = m.crew.next_job };
      count = m.count;
    }

  -- a refusal
  module _ (old : Seen) (system : SystemFacts) (fault : StoreFault) (other : fault ≢ NoMemory) (faulted : Faulted Safe what old system fault)
      (refuses : (u : State) (w : World) → told_of fault u w ≡ line_refused fault (record w { store = u })) where
    fault_does : (w : World) → Matches w old → DoesLineFrom Safe what w old.system system (refusal_text old.count fault)
    fault_does w m =
        let done = faulted.does other w m in record {
          outcome = done.outcome;
          next = line_refused fault (record w { store = done.state });
          gives = subst (LineGives done.outcome what w) (refuses done.state w) done.gives;
          counted = done.counted;
          stands = done.stands;
          left = λ safe. subst (λ (v : World). LineLeft what done.outcome w v old.system system) (refuses done.state w) (done.left safe);
          text = ap (λ (n : ℕ). w.text ++ operator_line n (codes "REFUSED " ++ fault_line fault)) m.count;
        }

    fault_matches : (w : World) (m : Matches w old) → Matches (fault_does w m).next (seen system old.crew old.count)
    unfolding fault_does
    fault_matches w m = record {
      stands = (fault_does w m).stands;
      crew = record { jobs = m.crew.jobs; accounts = m.crew.accounts; next_job = m.crew.next_job };
      count = m.count;
    }

  -- a fault is reported
  pub tells_fault : (old : Seen) (system : SystemFacts) (fault : StoreFault) → Faulted Safe what old system fault → (failure : Option Failure) (c' : CrewState) (before after : Option (List ℕ)) (faults faults' : ℕ)
      → TellsFault fault old.count old.crew failure c' before after faults faults' → LineGoesFrom Safe what old failure (seen system c' old.count) before after × FaultCause failure faults faults'
  tells_fault old system NoMemory faulted failure c' before after faults faults' tells =
      let (is, same, text, still) = tells in (
        subst (λ (f : Option Failure). LineGoesFrom Safe what old f (seen system c' old.count) before after) (sym is)
            (wasnt_done Safe what old (seen system c' old.count) before after (λ w m. let it = faulted.nothing refl w m in record { counted = it.0; stands = it.1; left = it.2; text = text })),
        subst (λ (f : Option Failure). FaultCause f faults faults') (sym is) still,
      )
  tells_fault old system Stopped faulted failure c' before after faults faults' tells =
      let (gone, puts) = tells in (
        subst (λ (k : CrewState). LineGoesFrom Safe what old failure (seen system k old.count) before after) (sym gone)
            (was_done Safe what old (seen system (without_jobs old.crew) old.count) failure (down_text old.count (codes "SYSTEM STOPPED") old.crew) before after
            (stop_does old system faulted) (λ w m e. stop_matches old system faulted w m) puts.put),
        puts.cause,
      )
  tells_fault old system fault faulted failure c' before after faults faults' tells =
      let (same, puts) = tells in (
        subst (λ (k : CrewState). LineGoesFrom Safe what old failure (seen system k old.count) before after) (sym same)
            (was_done Safe what old (seen system old.crew old.count) failure (refusal_text old.count fault) before after
            (fault_does old system fault (λ e. let no : ⊥ = cc in no) faulted (λ u w. refl)) (λ w m e. fault_matches old system fault (λ e'. let no : ⊥ = cc in no) faulted (λ u v. refl) w m) puts.put),
        puts.cause,
      )
