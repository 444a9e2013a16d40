-- An event of a store that is up, on behalf of a line: it is granted, refused or stopped, by the step of its state.
-- serves: JobLemmas, crates above
use Rattle.std.proofs.Common.{◌≡◌, ℕ, ◌+◌, ◌++◌, Bool, true, false, List, [], Option, Some, None, refl, sym, ◌∙◌, ap, subst, inl, inr}
use Rattle.std.specs.Prelude.{◌≢◌, ◌↔◌, MatchBool, Result, Ok, Err, codes}
use Rattle.g_plain.specs.declared.faults.StoreFault.{StoreFault}
use Rattle.g_plain.specs.declared.faults.StoreFault.TheVariants.{NoMemory, NotStarted, Stopped}
use Rattle.g_name.specs.declared.full.Full.{Full}
use Rattle.g_name.specs.declared.path.Path.{Path}
use Rattle.g_tape.specs.Rack.{Rack}
use Rattle.g_monitor.specs.Parts.{full_text}
use Rattle.g_plain.specs.PlainTree.{input_name}
use Rattle.g_store_model.specs.State.{Holding, State, with_online}
use Rattle.g_store_model.specs.CallStep.{Cut, Outcome, Plain, commits, down, stamp_of}
use Rattle.g_store_model.specs.DumpSteps.{Event, MigrateStep, OpenStep, migrate_refuses, open_refuses, opening}
use Rattle.g_store_meaning.specs.Answers.{Belongs, HasCause, IsStore, Told}
use Rattle.g_store_meaning.specs.Reading.{StandsForState}
use Rattle.g_store_meaning.specs.Safety.{AreSafe, IsLeft, IsSafe}
use Rattle.g_store_meaning.specs.StoreInvariant.{StoreFacts}
use Rattle.g_store.specs.Dumping.{OpensDump}
use Rattle.g_store.specs.Events.{AnswersEvent, LeadsBy, Migrates, Opens, StepsBy}
use Rattle.g_store.proofs.ArmLemmas.{spent_stands}
use Rattle.g_store_calls.proofs.SeenLemmas.{seen as seen_of}
use Rattle.g_laws_power.proofs.DeviceLemmas.{stops_leave_safe}
use Rattle.g_laws_power.specs.Events.{StopsLikeBy}
use Rattle.g_laws_power.proofs.EventLemmas.{events_keep_safe, stopped_events_survive}
use Rattle.g_script.specs.declared.operator.Operator.{Operator}
use Rattle.g_script.specs.declared.operator.Operator.TheVariants as line
use Rattle.g_run_model.specs.Devices.{Devices}
use Rattle.g_run_model.specs.Events.{IsTold}
use Rattle.g_run_model.specs.Moves.{EventCounted}
use Rattle.g_run_model.specs.Lines.{LineGives, Asks, is_process, line_refused, now_stands, tells}
use Rattle.g_run_model.specs.Texts.{dump_text, operator_line}
use Rattle.g_run_model.specs.World.{World, system_stopped}
use Rattle.g_run_model.proofs.EventToldLemmas.{ToldBy, migrate_told, open_told, OutcomeTold}
use Rattle.g_job_table.specs.Crew.{CrewState}
use Rattle.g_day.specs.declared.progress.Failure.{Failure}
use Rattle.g_day.specs.Parts.{ArmsBy, DidLine, DoesLine, DumpsBy, IsReady, CountedBy, Matches, Seen, disc_arms, seen, tape_arms}
use Rattle.g_day.specs.Losses.{LineLeft, SystemLeaves}
use Rattle.g_day.specs.Puts.{Puts}
use Rattle.g_day.specs.System.{Down, StandsAs, SystemBelongs, SystemFacts, SystemSafe, Up, devices_in, SameDevices}
use Rattle.g_day.specs.Telling.{TellsFault, refusal_text, system_after}
use Rattle.g_day.proofs.ByLemmas.{grown_by}
use Rattle.g_day.proofs.CauseLemmas.{OfDisc, counted_by, same_caused}
use Rattle.g_day.proofs.GrowLemmas.{grow_held}
use Rattle.g_day.proofs.LeavesLemmas.{leaves_same, leaves_told}
use Rattle.g_day.proofs.LineLemmas.{FaultDone, none_armed, refused_line, tells_fault, told_of, told_same, was_done}
use Rattle.g_day.proofs.LabelLemmas.{no_fuse}
use Rattle.g_day.proofs.LossLemmas.{down_again, stopped_left}
use Rattle.g_day.proofs.PutLemmas.{puts_grown, told_grown}

-- running out of memory is an outcome of no device
pub starved_told : {A : Type 0} (fault : StoreFault) → fault ≡ NoMemory → OutcomeTold {A = A} Plain (Err fault)
starved_told fault is = record { told = tt; disc_read = λ e. let no : ⊥ = cc in absurd no; tape_read = λ e. let no : ⊥ = cc in absurd no; cut = λ e. let no : ⊥ = cc in absurd no }

-- the state of a store that is up is up
pub up_is : (s : StoreFacts) (u : State) → s.spent ≡ false → StandsForState s u → u.up ≡ true
up_is s u unspent here = ap (λ (t : State). t.up) (seen_of s u unspent here).state_is

pub not_spent : {A : Type 0} (b : Bool) (answer : Result A StoreFault) → (b ≡ true) ↔ (answer ≡ Err Stopped) → (answer ≡ Err Stopped → ⊥) → b ≡ false
not_spent false answer is isnt = refl
not_spent true answer is isnt = absurd (isnt (is.0 refl))

-- a refusal is the step's, unless memory ran out
pub leads_by : {A : Type 0} (by : State → Holding → Outcome → Result A StoreFault → State → Type 0) (s : State) (old new : StoreFacts) (fault : StoreFault) → fault ≢ NoMemory
    → StepsBy by s old (Err fault) new → LeadsBy by s old new (Err fault)
leads_by by s old new NoMemory other steps = absurd (other refl)
leads_by by s old new fault other steps = steps

-- a state to which going down has led, and one that going down leaves unchanged
pub went_down : (s u : State) → u ≡ down s → down u ≡ u
went_down s u is = ap down is ∙ down_again s ∙ sym is

pub is_down : (u : State) → down u ≡ u → u.up ≡ false
is_down u is = sym (ap (λ (t : State). t.up) is)

-- how an event goes that a line calls: by its step, if the devices expose their contents and belong together; and what is
-- preserved; and if a failed write stopped it, whatever a power loss leaves is a state that it may lead to then
pub record Went {A : Type 0} (by : State → Holding → Outcome → Result A StoreFault → State → Type 0) (old : StoreFacts) (answer : Result A StoreFault) (new : StoreFacts) : Type 0 where
  pub step : Told old → Belongs old → (s : State) → StandsForState old s → StepsBy by s old answer new
  pub keeps : IsStore new
  pub told : Told old → Told new
  pub belongs : Told old → Belongs old → Belongs new
  pub safe : IsSafe old → (answer ≡ Err Stopped → ⊥) → IsSafe new
  pub stopped : IsSafe old → answer ≡ Err Stopped → AreSafe new.online.disc new.rack
  pub survives : IsSafe old → answer ≡ Err Stopped → (blocks : List (List ℕ)) (rack : Rack) → IsLeft new.online.disc new.rack blocks rack → (s : State) → StandsForState old s
      → StopsLikeBy by s new.online.disc.size blocks rack
  pub spent : (new.spent ≡ true) ↔ (answer ≡ Err Stopped)

went : {A : Type 0} (by : State → Holding → Outcome → Result A StoreFault → State → Type 0) (count_of : A → ℕ) (old new : StoreFacts) (answer : Result A StoreFault) → AnswersEvent by count_of old answer new
    → (IsSafe old → (answer ≡ Err Stopped → ⊥) → IsSafe new) → (IsSafe old → answer ≡ Err Stopped → AreSafe new.online.disc new.rack)
    → (IsSafe old → answer ≡ Err Stopped → (blocks : List (List ℕ)) (rack : Rack) → IsLeft new.online.disc new.rack blocks rack → (s : State) → StandsForState old s
    → StopsLikeBy by s new.online.disc.size blocks rack)
    → Went by old answer new
went by count_of old new answer event safe stopped survives =
    record { step = event.step; keeps = event.keeps; told = event.told; belongs = event.belongs; safe = safe; stopped = stopped; survives = survives; spent = event.spent }

-- what it makes of the devices: what they counted, that none was armed, that they are the same, and what happened to
-- completed dumps
pub record Caused {A : Type 0} (what : Operator) (old : StoreFacts) (answer : Result A StoreFault) (new : StoreFacts) : Type 0 where
  pub counted : (o : Outcome) → OutcomeTold o answer → CountedBy what o (devices_in (Up old)) (devices_in (Up new))
  pub still : OutcomeTold Plain answer → EventCounted Plain [] [] (devices_in (Up old)) (devices_in (Up new))
  pub disc_armed : new.online.disc.arms ≡ old.online.disc.arms
  pub rack_armed : new.rack.arms ≡ old.rack.arms
  pub same : SameDevices (devices_in (Up old)) (devices_in (Up new))
  pub dumps : SystemBelongs (Up old) → DumpsBy (is_process what) old.rack new.rack

pub of_cause : {A : Type 0} (old new : StoreFacts) (answer : Result A StoreFault) → HasCause old new answer → OfDisc answer (devices_in (Up old)) (devices_in (Up new))
of_cause old new answer cause = record {
  disc = cause.disc;
  tape_arms = cause.tapes.arms;
  tape_writes = cause.tapes.write_faults;
  tape_read = cause.tape_read;
  tape_read_only = cause.tape_read_only;
}

-- of an event that writes no tape
caused : {A : Type 0} (what : Operator) → ((o : Outcome) (d e : Devices) → EventCounted o [] [] d e → CountedBy what o d e) → (old new : StoreFacts) (answer : Result A StoreFault) → HasCause old new answer → Caused what old answer new
caused what counts old new answer cause = record {
  counted = λ o told. counts o (devices_in (Up old)) (devices_in (Up new)) (counted_by answer (devices_in (Up old)) (devices_in (Up new)) (of_cause old new answer cause) o told);
  still = λ told. counted_by answer (devices_in (Up old)) (devices_in (Up new)) (of_cause old new answer cause) Plain told;
  disc_armed = cause.disc.arms;
  rack_armed = cause.tapes.arms;
  same = same_caused answer (devices_in (Up old)) (devices_in (Up new)) cause.disc cause.tapes;
  dumps = λ is. grown_by (is_process what) old.rack new.rack (grow_held old.rack new.rack cause.tapes.reels);
}

-- a store that was stopped, taken down, has the devices that it had
pub same_devices : (fault : StoreFault) (s : StoreFacts) → devices_in (system_after fault s) ≡ devices_in (Up s)
same_devices Stopped s = refl
same_devices fault s = refl

module _ {A : Type 0} (what : Operator) (by : State → Holding → Outcome → Result A StoreFault → State → Type 0) (said : A → List ℕ)
    (lifts : (o : Outcome) (w next : World) → Asks o w.store.up NotStarted (λ r s. (k : Holding) × (w.store.holding ≡ Some k) × by w.store k o r s × IsTold o r) (λ x. now_stands (said x)) w next → LineGives o what w next)
    (no_disc : disc_arms what ≡ []) (no_tape : tape_arms what ≡ [])
    (told_too : (s : State) (k : Holding) (o : Outcome) (r : Result A StoreFault) (u : State) → by s k o r u → ToldBy (by s k) o r u)
    (old new : StoreFacts) (unspent : old.spent ≡ false) (c : CrewState) (count : ℕ) where
  abbrev before : Seen
  before = seen (Up old) c count

  gives_up : (o : Outcome) (w next : World) → Matches w before → (k : Holding) (r : Result A StoreFault) (s : State) → w.store.holding ≡ Some k → by w.store k o r s → OutcomeTold o r
      → next ≡ tells (λ x t v. now_stands (said x) t v) r s w → LineGives o what w next
  gives_up o w next m k r s holds step told is =
      lifts o w next
      (subst (λ b. MatchBool b ((r' : Result A StoreFault) × (s' : State) × ((k' : Holding) × (w.store.holding ≡ Some k') × by w.store k' o r' s' × IsTold o r') × (next ≡ tells (λ x t v. now_stands (said x) t v) r' s' w))
      ((o ≡ Plain) × (next ≡ line_refused NotStarted w))) (sym (up_is old w.store unspent m.stands.stands))
      (r, s, (k, holds, step, told.told), is))

  -- granted
  module _ (reply : A) (event : Went by old (Ok reply) new) (cause : (let answer : Result A StoreFault = Ok reply in Caused what old answer new)) where
    running : new.spent ≡ false
    running = not_spent new.spent (Ok reply) event.spent (λ e. let no : ⊥ = cc in no)

    granted_does : (w : World) → Matches w before → DoesLine what w (Up old) (Up new) (operator_line count (said reply))
    granted_does w m =
        let here = m.stands in
        let leads = event.step here.told here.belongs w.store here.stands in
        let (o, step, told, which) = told_too w.store leads.held leads.outcome (Ok reply) leads.after leads.step in record {
          outcome = o;
          next = now_stands (said reply) leads.after w;
          gives = gives_up o w (now_stands (said reply) leads.after w) m leads.held (Ok reply) leads.after leads.holds step told refl;
          counted = cause.counted o told;
          stands = record { told = event.told here.told; belongs = event.belongs here.told here.belongs; stands = leads.left };
          left = λ safe. tt;
          text = ap (λ (n : ℕ). w.text ++ operator_line n (said reply)) m.count;
        }

    pub granted_line : (failure : Option Failure) (before_text after : Option (List ℕ)) (faults faults' : ℕ) → Puts failure (operator_line count (said reply)) before_text after faults faults'
        → DidLine what before failure (seen (Up new) c count) before_text after faults faults'
    unfolding granted_does
    granted_line failure before_text after faults faults' puts = record {
      goes = was_done SystemSafe what before (seen (Up new) c count) failure (operator_line count (said reply)) before_text after granted_does
          (λ w m e. record {
            stands = (granted_does w m).stands;
            crew = record { jobs = m.crew.jobs; accounts = m.crew.accounts; next_job = m.crew.next_job };
            count = m.count;
          }) puts.put;
      ready = (running, event.keeps.tied.size, event.keeps.tied.most);
      crew = λ none. leaves_same c;
      arms = none_armed what failure (devices_in (Up old)) (devices_in (Up new)) no_disc no_tape cause.disc_armed cause.rack_armed;
      count = refl;
      fuses = no_fuse what no_disc no_tape (devices_in (Up new));
      same = cause.same;
      belongs = λ is. (event.told is.0, event.belongs is.0 is.1);
      safe = λ is. event.safe is (λ e. let no : ⊥ = cc in no);
      dumps = cause.dumps;
      cause = puts.cause;
      grows = puts_grown puts;
    }

  -- refused, or stopped
  module _ (fault : StoreFault) (event : Went by old (Err fault) new) (cause : Caused {A = A} what old (Err fault) new)
      (stays : (s : State) (k : Holding) (o : Outcome) (u : State) → by s k o (Err Stopped) u → down u ≡ u) where
    abbrev system : SystemFacts
    system = system_after fault new

    stands_by : (f : StoreFault) → f ≡ fault → (w : World) → Matches w before → (u : State) → (f ≡ Stopped → u.up ≡ false) → StandsForState new u → StandsAs (system_after f new) u
    stands_by Stopped is w m u down stands =
        let spent = event.spent.1 (ap Err (sym is)) in (
          down refl,
          record {
            told = event.told m.stands.told;
            belong = (event.belongs m.stands.told m.stands.belongs).devices;
            reads = spent_stands new spent u stands;
          },
        )
    stands_by f is w m u down stands = record { told = event.told m.stands.told; belongs = event.belongs m.stands.told m.stands.belongs; stands = stands }

    counted_here : (o : Outcome) → OutcomeTold {A = A} o (Err fault) → CountedBy what o (devices_in (Up old)) (devices_in system)
    counted_here o told = subst (λ (d : Devices). CountedBy what o (devices_in (Up old)) d) (sym (same_devices fault new)) (cause.counted o told)

    -- after a stop, whatever a power loss leaves is a state that the stopped event may lead to
    left_by : (f : StoreFault) → f ≡ fault → (w : World) → Matches w before → (o : Outcome) → OutcomeTold {A = A} o (Err f) → (next : World) → SystemSafe (Up old)
        → LineLeft what o w next (Up old) (system_after f new)
    left_by Stopped is w m o told next safe = λ blocks rack left.
        let likes = event.survives safe (ap Err (sym is)) blocks rack left w.store m.stands.stands in
        let (p, step, other, which) = told_too w.store likes.held likes.outcome (Err Stopped) likes.after likes.step in
        inl (stopped_left what o w next likes.after new.online.disc.size blocks rack (told.cut refl)
        (subst (λ (q : Outcome). LineGives q what w (system_stopped likes.after w)) (other.cut refl)
        (gives_up p w (system_stopped likes.after w) m likes.held (Err Stopped) likes.after likes.holds step other refl))
        (stays w.store likes.held likes.outcome likes.after likes.step) likes.stand)
    left_by f is w m o told next safe = tt

    nothing_by : (f : StoreFault) → f ≡ NoMemory → (w : World) → SystemLeaves (λ u. ⊥) (w.store.up ≡ false) (Up old) (system_after f new)
    nothing_by Stopped is w = absurd (let no : ⊥ = cc in no)
    nothing_by f is w = tt

    fault_done : fault ≢ NoMemory → (w : World) → Matches w before → FaultDone SystemSafe what w (Up old) system fault
    fault_done other w m =
        let here = m.stands in
        let leads = leads_by by w.store old new fault other (event.step here.told here.belongs w.store here.stands) in
        let (o, step, told, which) = told_too w.store leads.held leads.outcome (Err fault) leads.after leads.step in record {
          state = leads.after;
          outcome = o;
          gives = gives_up o w (told_of fault leads.after w) m leads.held (Err fault) leads.after leads.holds step told (sym (told_same (λ x t v. now_stands (said x) t v) fault leads.after w));
          counted = counted_here o told;
          stands = stands_by fault refl w m leads.after
              (λ e. is_down leads.after (stays w.store leads.held o leads.after (subst (λ (f : StoreFault). by w.store leads.held o (Err f) leads.after) e step))) leads.left;
          left = left_by fault refl w m o told (told_of fault leads.after w);
        }

    nothing_done : fault ≡ NoMemory → (w : World) → Matches w before → EventCounted Plain [] [] (devices_in (Up old)) (devices_in system) × StandsAs system w.store
        × (SystemSafe (Up old) → SystemLeaves (λ u. ⊥) (w.store.up ≡ false) (Up old) system)
    nothing_done is w m =
        let here = m.stands in
        let told : OutcomeTold {A = A} Plain (Err fault) = starved_told fault is in (
          subst (λ (d : Devices). EventCounted Plain [] [] (devices_in (Up old)) d) (sym (same_devices fault new)) (cause.still told),
          stands_by fault refl w m w.store (λ e. let no : ⊥ = cc in absurd no)
              (subst (λ (f : StoreFault). StepsBy by w.store old (Err f) new) is (event.step here.told here.belongs w.store here.stands)),
          λ safe. nothing_by fault is w,
        )

    ready_by : (f : StoreFault) → f ≡ fault → (c' : CrewState) → (f ≡ Stopped → (c'.jobs ≡ []) × (c'.accounts ≡ [])) → IsReady (system_after f new) c'
    ready_by Stopped is c' empty = let (jobs, accounts) = empty refl in (event.keeps.tied.size, event.keeps.tied.most, jobs, accounts)
    ready_by f is c' empty = (not_spent new.spent (Err fault) event.spent (λ e. let no : ⊥ = cc in no), event.keeps.tied.size, event.keeps.tied.most)

    empty_by : (f : StoreFault) (failure : Option Failure) (c' : CrewState) (before_text after : Option (List ℕ)) (faults faults' : ℕ) → TellsFault f count c failure c' before_text after faults faults'
        → f ≡ Stopped → (c'.jobs ≡ []) × (c'.accounts ≡ [])
    empty_by Stopped failure c' before_text after faults faults' tells is =
        let (gone, puts) = tells in (ap (λ (k : CrewState). k.jobs) gone, ap (λ (k : CrewState). k.accounts) gone)
    empty_by f failure c' before_text after faults faults' tells is = let no : ⊥ = cc in absurd no

    belongs_by : (f : StoreFault) → f ≡ fault → SystemBelongs (Up old) → SystemBelongs (system_after f new)
    belongs_by Stopped is was = record { told = event.told was.0; belong = (event.belongs was.0 was.1).devices }
    belongs_by f is was = (event.told was.0, event.belongs was.0 was.1)

    safe_by : (f : StoreFault) → f ≡ fault → SystemSafe (Up old) → SystemSafe (system_after f new)
    safe_by Stopped is was = event.stopped was (ap Err (sym is))
    safe_by f is was = event.safe was (λ e. let no : ⊥ = cc in no)

    pub fault_line : (failure : Option Failure) (c' : CrewState) (before_text after : Option (List ℕ)) (faults faults' : ℕ) → TellsFault fault count c failure c' before_text after faults faults'
        → DidLine what before failure (seen system c' count) before_text after faults faults'
    fault_line failure c' before_text after faults faults' tells =
        let both = tells_fault SystemSafe what before system fault (record { does = fault_done; nothing = nothing_done }) failure c' before_text after faults faults' tells in record {
          goes = both.0;
          ready = ready_by fault refl c' (empty_by fault failure c' before_text after faults faults' tells);
          crew = λ none. leaves_told fault count c failure c' before_text after faults faults' tells;
          arms =
              subst (λ (d : Devices). ArmsBy what failure (devices_in (Up old)) d) (sym (same_devices fault new))
              (none_armed what failure (devices_in (Up old)) (devices_in (Up new)) no_disc no_tape cause.disc_armed cause.rack_armed);
          count = refl;
          fuses = no_fuse what no_disc no_tape (devices_in system);
          same = subst (λ (d : Devices). SameDevices (devices_in (Up old)) d) (sym (same_devices fault new)) cause.same;
          belongs = belongs_by fault refl;
          safe = safe_by fault refl;
          dumps = λ is. subst (λ (d : Devices). DumpsBy (is_process what) old.rack d.rack) (sym (same_devices fault new)) (cause.dumps is);
          cause = both.1;
          grows = told_grown fault count c failure c' before_text after faults faults' tells;
        }

-- a stop takes an event's state down
pub stop_down : {A : Type 0} (f : Option StoreFault) (reply : A) (s after u : State) → Event f reply s after (Err Stopped) u → down u ≡ u
stop_down None reply s after u (isnt, is) = let never : ⊥ = cc in absurd never
stop_down (Some Stopped) reply s after u (same, inl is) = went_down s u is
stop_down (Some Stopped) reply s after u (same, inr is) = went_down after u is
stop_down (Some f) reply s after u (same, is) = let never : ⊥ = cc in absurd never

-- a system that is down calls no event
pub down_line : {A : Type 0} (what : Operator) (by : State → Holding → Outcome → Result A StoreFault → State → Type 0) (said : A → List ℕ)
    → ((o : Outcome) (w next : World) → Asks o w.store.up NotStarted (λ r s. (k : Holding) × (w.store.holding ≡ Some k) × by w.store k o r s × IsTold o r) (λ x. now_stands (said x)) w next → LineGives o what w next)
    → disc_arms what ≡ [] → tape_arms what ≡ [] → (d : Devices) (c : CrewState) (count : ℕ) → IsReady (Down d) c → (failure : Option Failure) (before_text after : Option (List ℕ)) (faults faults' : ℕ)
    → Puts failure (refusal_text count NotStarted) before_text after faults faults' → DidLine what (seen (Down d) c count) failure (seen (Down d) c count) before_text after faults faults'
down_line {A = A} what by said lifts no_disc no_tape d c count ready failure before_text after faults faults' puts =
    refused_line what no_disc no_tape NotStarted (Down d) c count
    (λ w m. lifts Plain w (line_refused NotStarted w)
    (subst (λ (b : Bool). MatchBool b ((r : Result A StoreFault) × (s : State) × ((k : Holding) × (w.store.holding ≡ Some k) × by w.store k Plain r s × IsTold Plain r)
    × (line_refused NotStarted w ≡ tells (λ x t v. now_stands (said x) t v) r s w)) ((Plain ≡ Plain) × (line_refused NotStarted w ≡ line_refused NotStarted w))) (sym m.stands.0) (refl, refl)))
    failure before_text after faults faults' ready puts

-- DUMP AND MIGRATE on a store that is up
module _ (serial : ℕ) (old new : StoreFacts) (c : CrewState) (ready : IsReady (Up old) c) (count : ℕ) where
  went_open : (answer : Result ℕ StoreFault) → Opens serial old answer new → OpensDump serial old answer new → Went (λ s k o a n. OpenStep s k serial o a n) old answer new
  went_open answer is begins =
      went (λ s k o a n. OpenStep s k serial o a n) (λ n. 1) old new answer is.event (λ safe other. events_keep_safe.opening serial old new answer safe is begins other)
      (λ safe e. stops_leave_safe.opening serial old new safe (subst (λ (a : Result ℕ StoreFault). Opens serial old a new) e is))
      (λ safe e blocks rack left. (stopped_events_survive.opening serial old new blocks rack safe (subst (λ (a : Result ℕ StoreFault). Opens serial old a new) e is) left).1)

  pub opened_line : (number : ℕ) → Opens serial old (Ok number) new → OpensDump serial old (Ok number) new → (failure : Option Failure) (before_text after : Option (List ℕ)) (faults faults' : ℕ)
      → Puts failure (operator_line count (dump_text number (codes "OPENED"))) before_text after faults faults' → DidLine (line.Dump serial) (seen (Up old) c count) failure (seen (Up new) c count) before_text after faults faults'
  opened_line number is begins failure before_text after faults faults' puts =
      granted_line (line.Dump serial) (λ s k o a n. OpenStep s k serial o a n) (λ n. dump_text n (codes "OPENED")) (λ o w next it. it) refl refl (λ s k o r u step. open_told s k serial o r u step) old new ready.0 c count
      number (went_open (Ok number) is begins) (caused (line.Dump serial) (λ o d e it. it) old new (Ok number) is.cause) failure before_text after faults faults' puts

  pub unopened_line : (fault : StoreFault) → Opens serial old (Err fault) new → (failure : Option Failure) (c' : CrewState) (before_text after : Option (List ℕ)) (faults faults' : ℕ)
      → TellsFault fault count c failure c' before_text after faults faults' → DidLine (line.Dump serial) (seen (Up old) c count) failure (seen (system_after fault new) c' count) before_text after faults faults'
  unopened_line fault is failure c' before_text after faults faults' tells =
      fault_line (line.Dump serial) (λ s k o a n. OpenStep s k serial o a n) (λ n. dump_text n (codes "OPENED")) (λ o w next it. it) refl refl (λ s k o r u step. open_told s k serial o r u step) old new ready.0 c count
      fault (went_open (Err fault) is tt) (caused (line.Dump serial) (λ o d e it. it) old new (Err fault) is.cause) (λ s k o u step. stop_down (open_refuses s k serial o) (k.last + 1) s (opening s k serial step.0) u step.2) failure c' before_text after faults faults' tells

module _ (path : Path) (old new : StoreFacts) (c : CrewState) (ready : IsReady (Up old) c) (count : ℕ) where
  went_migrate : (answer : Result Full StoreFault) → Migrates path old answer new → Went (λ s k o a n. MigrateStep s k path.user (input_name k.tree [] path) o a n) old answer new
  went_migrate answer is =
      went (λ s k o a n. MigrateStep s k path.user (input_name k.tree [] path) o a n) (λ f. 1) old new answer is.event (λ safe other. events_keep_safe.migrating path old new answer safe is other)
      (λ safe e. stops_leave_safe.migrating path old new safe (subst (λ (a : Result Full StoreFault). Migrates path old a new) e is))
      (λ safe e blocks rack left. (stopped_events_survive.migrating path old new blocks rack safe (subst (λ (a : Result Full StoreFault). Migrates path old a new) e is) left).1)

  pub migrated_line : (full : Full) → Migrates path old (Ok full) new → (failure : Option Failure) (before_text after : Option (List ℕ)) (faults faults' : ℕ)
      → Puts failure (operator_line count (codes "MIGRATED " ++ full_text full)) before_text after faults faults' → DidLine (line.Migrate path) (seen (Up old) c count) failure (seen (Up new) c count) before_text after faults faults'
  migrated_line full is failure before_text after faults faults' puts =
      granted_line (line.Migrate path) (λ s k o a n. MigrateStep s k path.user (input_name k.tree [] path) o a n) (λ f. codes "MIGRATED " ++ full_text f) (λ o w next it. it) refl refl
      (λ s k o r u step. migrate_told s k path.user (input_name k.tree [] path) o r u step) old new ready.0 c count full (went_migrate (Ok full) is)
      (caused (line.Migrate path) (λ o d e it. it) old new (Ok full) is.cause) failure before_text after faults faults' puts

  pub unmigrated_line : (fault : StoreFault) → Migrates path old (Err fault) new → (failure : Option Failure) (c' : CrewState) (before_text after : Option (List ℕ)) (faults faults' : ℕ)
      → TellsFault fault count c failure c' before_text after faults faults' → DidLine (line.Migrate path) (seen (Up old) c count) failure (seen (system_after fault new) c' count) before_text after faults faults'
  unmigrated_line fault is failure c' before_text after faults faults' tells =
      fault_line (line.Migrate path) (λ s k o a n. MigrateStep s k path.user (input_name k.tree [] path) o a n) (λ f. codes "MIGRATED " ++ full_text f) (λ o w next it. it) refl refl
      (λ s k o r u step. migrate_told s k path.user (input_name k.tree [] path) o r u step) old new ready.0 c count fault (went_migrate (Err fault) is)
      (caused (line.Migrate path) (λ o d e it. it) old new (Err fault) is.cause)
      (λ s k o u step. stop_down (migrate_refuses k path.user (input_name k.tree [] path) o) (input_name k.tree [] path) s
      (commits s (record k { places = with_online false (stamp_of k.tree (input_name k.tree [] path)) k.places })) u step) failure c' before_text after faults faults' tells
