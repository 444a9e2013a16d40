-- FORMAT, START and RESTORE on a system that is down: it is brought up, or not made, by the step of its state.
-- serves: AnewLemmas, WayLemmas
use Rattle.std.proofs.Common.{◌≡◌, ℕ, ◌<◌, ◌≤◌, ◌++◌, false, List, [], ◌∷◌, Option, Some, None, refl, sym, ◌∙◌, ap, subst, inl, inr}
use Rattle.g_base.specs.Counts.{Rose}
use Rattle.std.specs.Prelude.{not, ◌≢◌, Bool, MatchBool, MatchOption, option_map, Result, Ok, Err, codes}
use Rattle.g_disc.specs.Disc.{Causes, DiscState}
use Rattle.g_tape.specs.Rack.{Rack}
use Rattle.g_tape.specs.Reads.{OnlyReads}
use Rattle.g_plain.specs.declared.faults.StoreFault.{StoreFault}
use Rattle.g_plain.specs.declared.faults.StoreFault.TheVariants.{DiscReadFault, NoMemory, RackNotEmpty, Running, Stopped, TapeReadFault}
use Rattle.std.specs.Fmt.{decimal}
use Rattle.std.specs.FinMap.{empty}
use Rattle.g_plain.specs.PlainTree.{formatted}
use Rattle.g_plain.specs.PlainStep.{first_fault}
use Rattle.g_store_model.specs.State.{Dumped, Holding, State, first_reel}
use Rattle.g_store_model.specs.CallStep.{Cut, DiscRead, Outcome, Plain, is_cut, is_disc_read}
use Rattle.g_store_model.specs.DumpSteps.{Event}
use Rattle.g_store_model.specs.Rising.{FormatStep, RestoreStep, Restores, StartStep, Starts, adopted, coming_up, dump_adopted, fault_from, restore_early, restore_late, restored, start_refuses}
use Rattle.g_store_meaning.specs.Belonging.{Belong}
use Rattle.g_store_meaning.specs.Meaning.{told_reels}
use Rattle.g_store_meaning.specs.Answers.{Belongs, IsStore, Told}
use Rattle.g_store_meaning.specs.Reading.{AllTold, DevicesStandFor, StandsForState}
use Rattle.g_store_meaning.specs.StoreInvariant.{StoreFacts}
use Rattle.g_store_meaning.specs.Safety.{IsLeft, StandLike}
use Rattle.g_store_meaning.specs.Surviving.{DumpsMadeSafe}
use Rattle.g_store.specs.Making.{Begun, Formats, LeadsDown, Makes, Refuses, RefusesFormat, RefusesRestore, RefusesStart, Restored, StepsDown, commits_of_start}
use Rattle.g_laws_power.specs.Refusals.{RefusalLeaves, StopsDownLike}
use Rattle.g_laws_power.proofs.DeviceLemmas.{format_is_safe, refusals_keep_safe}
use Rattle.g_laws_power.proofs.DownLemmas.{like_down}
use Rattle.g_laws_power.proofs.RefusalLemmas.{refusals_survive}
use Rattle.g_laws_power.proofs.SurvivalLemmas.{making_is_safe}
use Rattle.g_script.specs.declared.operator.Operator.{Operator}
use Rattle.g_script.specs.declared.operator.Operator.TheVariants as line
use Rattle.g_run_model.specs.Devices.{Devices}
use Rattle.g_run_model.specs.Events.{IsTold}
use Rattle.g_run_model.specs.Lines.{LineGives, Asks, is_process, line_refused, tells, up_with}
use Rattle.g_run_model.specs.Moves.{EventCounted}
use Rattle.g_run_model.specs.Texts.{operator_line, started_text}
use Rattle.g_run_model.specs.World.{World, system_stopped}
use Rattle.g_job_table.specs.Accounts.{AreKept, kept_for}
use Rattle.g_job_table.specs.Crew.{CrewState}
use Rattle.g_run_model.proofs.EventToldLemmas.{ToldBy, format_told, restore_told, start_told, OutcomeTold}
use Rattle.g_day.specs.declared.progress.Failure.{Failure}
use Rattle.g_day.specs.Opening.{Opens}
use Rattle.g_day.specs.Losses.{LineLeft, LineMayLeave, SystemLeaves}
use Rattle.g_day.specs.Parts.{DidLine, DidLineFrom, DoesLineFrom, IsReady, CountedBy, Matches, Seen, disc_arms, seen, tape_arms}
use Rattle.g_day.specs.Puts.{Puts}
use Rattle.g_day.specs.System.{BelongTogether, Down, StandsAs, SystemFacts, SystemSafe, Up, devices_in}
use Rattle.g_day.specs.Telling.{TellsFault, refusal_text}
use Rattle.g_day.proofs.ByLemmas.{grown_by}
use Rattle.g_day.proofs.CauseLemmas.{OfDisc, counted_by, same_caused}
use Rattle.g_day.proofs.GrowLemmas.{grow_held}
use Rattle.g_day.proofs.LeavesLemmas.{leaves_opened, leaves_told}
use Rattle.g_day.proofs.LineLemmas.{FaultDone, Faulted, none_armed, refused_line, tells_fault, told_of, told_same, told_store, was_done}
use Rattle.g_day.proofs.LossLemmas.{stopped_left}
use Rattle.g_day.proofs.UpLemmas.{starved_told, up_is}
use Rattle.g_day.proofs.UserLemmas.{have_rows}
use Rattle.g_day.proofs.LabelLemmas.{labels_read, no_fuse, same_still, stands_still}
use Rattle.g_day.proofs.PutLemmas.{puts_grown, told_grown}

-- a plain outcome of an answer that isn't refused
pub plain_ok : {A : Type 0} (reply : A) → (let answer : Result A StoreFault = Ok reply in OutcomeTold Plain answer)
plain_ok reply = record { told = tt; disc_read = λ e. let no : ⊥ = cc in absurd no; tape_read = λ e. let no : ⊥ = cc in absurd no; cut = λ e. let no : ⊥ = cc in absurd no }

-- a refusal is the step's, unless memory ran out
leads_down : {A : Type 0} (by : State → Outcome → Result A StoreFault → State → Type 0) (s : State) (disc : DiscState) (rack : Rack) (fault : StoreFault) (disc' : DiscState) (rack' : Rack) → fault ≢ NoMemory
    → StepsDown by s disc rack fault disc' rack' → LeadsDown by s disc rack fault disc' rack'
leads_down by s disc rack NoMemory disc' rack' other steps = absurd (other refl)
leads_down by s disc rack fault disc' rack' other steps = steps

-- if there were neither jobs nor accounts, there are none after a fault
gone : (fault : StoreFault) (count : ℕ) (c : CrewState) (failure : Option Failure) (c' : CrewState) (before after : Option (List ℕ)) (faults faults' : ℕ) → c.jobs ≡ [] → c.accounts ≡ []
    → TellsFault fault count c failure c' before after faults faults' → (c'.jobs ≡ []) × (c'.accounts ≡ [])
gone NoMemory count c failure c' before after faults faults' jobs accounts tells =
    let (is, same, text, still) = tells in (ap (λ (k : CrewState). k.jobs) same ∙ jobs, ap (λ (k : CrewState). k.accounts) same ∙ accounts)
gone Stopped count c failure c' before after faults faults' jobs accounts tells =
    let (same, puts) = tells in (ap (λ (k : CrewState). k.jobs) same, ap (λ (k : CrewState). k.accounts) same)
gone fault count c failure c' before after faults faults' jobs accounts tells =
    let (same, puts) = tells in (ap (λ (k : CrewState). k.jobs) same ∙ jobs, ap (λ (k : CrewState). k.accounts) same ∙ accounts)

-- a store that was brought up on devices with this premise
pub record CameUp {A : Type 0} (given : Type 0) (by : State → Outcome → Result A StoreFault → State → Type 0) (disc : DiscState) (rack : Rack) (reply : A) (new : StoreFacts) : Type 0 where
  pub running : new.spent ≡ false
  pub keeps : IsStore new
  pub causes : Causes ⊥ ⊥ disc new.online.disc
  pub tapes : OnlyReads rack new.rack
  pub tape_read : new.rack.read_faults ≡ rack.read_faults
  pub told : AllTold disc.held (told_reels rack) → Told new
  pub step : AllTold disc.held (told_reels rack) → given → (s : State) → DevicesStandFor disc.size disc.held (told_reels rack) s → (u : State) × StandsForState new u × by s Plain (Ok reply) u
  pub belongs : AllTold disc.held (told_reels rack) → given → Belongs new

pub came_up : {A : Type 0} (given : Type 0) (by : State → Outcome → Result A StoreFault → State → Type 0) (count_of : A → ℕ) (disc : DiscState) (rack : Rack) (reply : A) (new : StoreFacts) → Makes given by count_of disc rack reply new
    → CameUp given by disc rack reply new
came_up given by count_of disc rack reply new m =
    record { running = m.running; keeps = m.keeps; causes = m.causes; tapes = m.tapes; tape_read = m.tape_read; told = m.told; step = m.step; belongs = m.belongs }

-- no store was made on devices with this premise
pub record NotMade {A : Type 0} (given : Type 0) (by : State → Outcome → Result A StoreFault → State → Type 0) (disc : DiscState) (rack : Rack) (fault : StoreFault) (disc' : DiscState) (rack' : Rack) : Type 0 where
  pub causes : Causes (fault ≡ DiscReadFault) (fault ≡ Stopped) disc disc'
  pub tapes : OnlyReads rack rack'
  pub tape_read : fault ≡ TapeReadFault → Rose rack.read_faults rack'.read_faults
  pub tape_read_only : (fault ≡ TapeReadFault → ⊥) → rack'.read_faults ≡ rack.read_faults
  pub told : AllTold disc.held (told_reels rack) → AllTold disc'.held (told_reels rack')
  pub step : AllTold disc.held (told_reels rack) → given → (s : State) → DevicesStandFor disc.size disc.held (told_reels rack) s → StepsDown by s disc rack fault disc' rack'
  pub belongs : AllTold disc.held (told_reels rack) → Belong disc.held rack → Belong disc'.held rack'

none_made : {A : Type 0} (given : Type 0) (by : State → Outcome → Result A StoreFault → State → Type 0) (disc : DiscState) (rack : Rack) (fault : StoreFault) (disc' : DiscState) (rack' : Rack)
    → Refuses given by disc rack fault disc' rack' → NotMade given by disc rack fault disc' rack'
none_made given by disc rack fault disc' rack' r =
    record { causes = r.causes; tapes = r.tapes; tape_read = r.tape_read; tape_read_only = r.tape_read_only; told = r.told; step = r.step; belongs = r.belongs }

-- the event of the line that brings the system up
module _ {A : Type 0} (what : Operator) (given : Type 0) (by : State → Outcome → Result A StoreFault → State → Type 0) (said : A → List ℕ)
    (lifts : (o : Outcome) (w next : World) → Asks o (not w.store.up) Running (λ r s. by w.store o r s × IsTold o r) (λ x. up_with (said x)) w next → LineGives o what w next) (counts : (o : Outcome) (d e : Devices) → EventCounted o [] [] d e → CountedBy what o d e)
    (no_disc : disc_arms what ≡ []) (no_tape : tape_arms what ≡ []) (disc : DiscState) (rack : Rack) (c : CrewState) (count : ℕ) (gives : (let d : Devices = record { disc = disc; rack = rack } in BelongTogether d) → given) where
  abbrev old_devices : Devices
  old_devices = record { disc = disc; rack = rack }

  abbrev before : Seen
  before = seen (Down old_devices) c count

  rises : (o : Outcome) (w next : World) → Matches w before → (r : Result A StoreFault) (s : State) → by w.store o r s → OutcomeTold o r → next ≡ tells (λ x t v. up_with (said x) t v) r s w
      → LineGives o what w next
  rises o w next m r s step told is =
      lifts o w next
      (subst (λ b. MatchBool (not b) ((r' : Result A StoreFault) × (s' : State) × (by w.store o r' s' × IsTold o r') × (next ≡ tells (λ x t v. up_with (said x) t v) r' s' w)) ((o ≡ Plain) × (next ≡ line_refused Running w))) (sym m.stands.0)
      (r, s, (step, told.told), is))

  -- the system is brought up
  module _ (reply : A) (new : StoreFacts) (makes : CameUp given by disc rack reply new) (empty : c.accounts ≡ []) (c' : CrewState) where
    abbrev added : List ℕ
    added = operator_line count (said reply)

    together : (w : World) → Matches w before → BelongTogether old_devices
    together w m = record { told = m.stands.1.told; belong = m.stands.1.belong }

    comes : (w : World) → Matches w before → (u : State) × StandsForState new u × by w.store Plain (Ok reply) u
    comes w m = makes.step m.stands.1.told (gives (together w m)) w.store m.stands.1.reads

    of_disc : (let answer : Result A StoreFault = Ok reply in OfDisc answer old_devices (devices_in (Up new)))
    of_disc = record {
      disc = record {
        size = makes.causes.size;
        arms = makes.causes.arms;
        later = makes.causes.later;
        reads_kept = λ n. makes.causes.reads_kept (λ x. x);
        reads_rose = λ e. let no : ⊥ = cc in absurd no;
        writes_kept = λ n. makes.causes.writes_kept (λ x. x);
        writes_rose = λ e. let no : ⊥ = cc in absurd no;
      };
      tape_arms = makes.tapes.arms;
      tape_writes = makes.tapes.write_faults;
      tape_read = λ e. let no : ⊥ = cc in absurd no;
      tape_read_only = λ n. makes.tape_read;
    }

    up_does : (Safe : SystemFacts → Type 0) (w : World) → Matches w before → DoesLineFrom Safe what w (Down old_devices) (Up new) added
    up_does Safe w m =
        let (u, stands, step) = comes w m in
        let told = plain_ok reply in record {
          outcome = Plain;
          next = up_with (said reply) u w;
          gives = rises Plain w (up_with (said reply) u w) m (Ok reply) u step told refl;
          counted = counts Plain old_devices (devices_in (Up new)) (counted_by (Ok reply) old_devices (devices_in (Up new)) of_disc Plain told);
          stands = record { told = makes.told m.stands.1.told; belongs = makes.belongs m.stands.1.told (gives (together w m)); stands = stands };
          left = λ safe. tt;
          text = ap (λ (n : ℕ). w.text ++ operator_line n (said reply)) m.count;
        }

    none_kept : AreKept [] c.accounts
    none_kept user = ap (λ accounts. kept_for accounts user) empty

    up_matches : (Safe : SystemFacts → Type 0) → Opens new.online.contents.users c c' → (w : World) (m : Matches w before) → Matches (up_does Safe w m).next (seen (Up new) c' count)
    unfolding up_does comes
    up_matches Safe opens w m =
        let (u, stands, step) = comes w m in record {
          stands = (up_does Safe w m).stands;
          crew = record {
            jobs = m.crew.jobs ∙ sym (ap (λ (k : CrewState). k.jobs) opens.others);
            accounts = opens.accounts u [] (have_rows new makes.running u stands) none_kept;
            next_job = m.crew.next_job ∙ sym (ap (λ (k : CrewState). k.next_job) opens.others);
          };
          count = m.count;
        }

    pub comes_up : (Safe : SystemFacts → Type 0) → (Safe (Down old_devices) → Safe (Up new)) → (failure : Option Failure) (before_text after : Option (List ℕ)) (faults faults' : ℕ) → (failure ≡ None → Opens new.online.contents.users c c')
        → Puts failure added before_text after faults faults' → DidLineFrom Safe what before failure (seen (Up new) c' count) before_text after faults faults'
    comes_up Safe keeps failure before_text after faults faults' opens puts = record {
      goes = was_done Safe what before (seen (Up new) c' count) failure added before_text after (up_does Safe) (λ w m e. up_matches Safe (opens e) w m) puts.put;
      ready = (makes.running, makes.keeps.tied.size, makes.keeps.tied.most);
      crew = λ none. leaves_opened new.online.contents.users c c' (opens none);
      arms = none_armed what failure old_devices (devices_in (Up new)) no_disc no_tape makes.causes.arms makes.tapes.arms;
      count = refl;
      fuses = no_fuse what no_disc no_tape (devices_in (Up new));
      same = same_still old_devices (devices_in (Up new)) makes.causes.size (makes.causes.reads_kept (λ e. e)) (makes.causes.writes_kept (λ e. e)) makes.causes.later makes.tapes.read_faults
          (stands_still rack.write_faults new.rack.write_faults makes.tapes.write_faults) (labels_read rack.reels new.rack.reels makes.tapes.reels);
      belongs = λ is. (makes.told is.told, makes.belongs is.told (gives is));
      safe = keeps;
      dumps = λ is. grown_by (is_process what) rack new.rack (grow_held rack new.rack makes.tapes.reels);
      cause = puts.cause;
      grows = puts_grown puts;
    }

  -- IT ISN'T MADE
  module _ (fault : StoreFault) (disc' : DiscState) (rack' : Rack) (refuses : NotMade given by disc rack fault disc' rack')
      (told_too : (s : State) (o : Outcome) (u : State) → by s o (Err fault) u → ToldBy (by s) o (Err fault) u)
      (stays : (s : State) (o : Outcome) (u : State) → s.up ≡ false → by s o (Err fault) u → u.up ≡ false) (Safe : SystemFacts → Type 0)
      (leaves : (let d : Devices = record { disc = disc; rack = rack } in Safe (Down d)) → (blocks : List (List ℕ)) (after : Rack) → IsLeft disc' rack' blocks after → (s : State) → DevicesStandFor disc.size disc.held (told_reels rack) s
      → RefusalLeaves by s disc rack fault disc' blocks after) where
    abbrev new_devices : Devices
    new_devices = record { disc = disc'; rack = rack' }

    of_fault : OfDisc {A = A} (Err fault) old_devices new_devices
    of_fault = record {
      disc = record {
        size = refuses.causes.size;
        arms = refuses.causes.arms;
        later = refuses.causes.later;
        reads_kept = λ n. refuses.causes.reads_kept (λ e. n (ap Err e));
        reads_rose = λ e. refuses.causes.reads_rose (let same : fault ≡ DiscReadFault = cc in same);
        writes_kept = λ n. refuses.causes.writes_kept (λ e. n (ap Err e));
        writes_rose = λ e. refuses.causes.writes_rose (let same : fault ≡ Stopped = cc in same);
      };
      tape_arms = refuses.tapes.arms;
      tape_writes = refuses.tapes.write_faults;
      tape_read = λ e. refuses.tape_read (let same : fault ≡ TapeReadFault = cc in same);
      tape_read_only = λ n. refuses.tape_read_only (λ e. n (ap Err e));
    }

    stands_down : (w : World) → Matches w before → (u : State) → u.up ≡ false → DevicesStandFor disc'.size disc'.held (told_reels rack') u → StandsAs (Down new_devices) u
    stands_down w m u down reads = (down, record { told = refuses.told m.stands.1.told; belong = refuses.belongs m.stands.1.told m.stands.1.belong; reads = reads })

    -- what a power loss leaves, by the refusal
    abbrev RefusedBy : StoreFault → Type 0
    RefusedBy f = Safe (Down old_devices) → (blocks : List (List ℕ)) (after : Rack) → IsLeft disc' rack' blocks after → (s : State) → DevicesStandFor disc.size disc.held (told_reels rack) s
        → RefusalLeaves by s disc rack f disc' blocks after

    abbrev ToldToo : StoreFault → Type 0
    ToldToo f = (s : State) (o : Outcome) (u : State) → by s o (Err f) u → ToldBy (by s) o (Err f) u

    other_end : ToldToo Stopped → (w : World) → Matches w before → (o : Outcome) (next : World) → o ≡ Cut → (blocks : List (List ℕ)) (after : Rack) → StopsDownLike by w.store disc'.size blocks after
        → (u : State) × LineMayLeave what o w next u × StandLike disc'.size blocks after u
    other_end told w m o next cut blocks after like =
        let (p, step, p_told, which) = told w.store like.outcome like.after like.step in
        let gives = rises p w (system_stopped like.after w) m (Err Stopped) like.after step p_told refl in
        stopped_left what o w next like.after disc'.size blocks after cut (subst (λ (q : Outcome). LineGives q what w (system_stopped like.after w)) (p_told.cut refl) gives) (sym (like_down like.after like.stand)) like.stand

    fault_left : (f : StoreFault) → RefusedBy f → ToldToo f → (w : World) → Matches w before → (o : Outcome) → (f ≡ Stopped → o ≡ Cut) → (next : World) → next.store.up ≡ false → Safe (Down old_devices)
        → LineLeft what o w next (Down old_devices) (Down new_devices)
    fault_left Stopped refused told w m o cut next down safe = λ blocks after left. inl (other_end told w m o next (cut refl) blocks after (refused safe blocks after left w.store m.stands.1.reads))
    fault_left f refused told w m o cut next down safe = λ blocks after left. inr ((m.stands.0, down), refused safe blocks after left w.store m.stands.1.reads)

    fault_done : fault ≢ NoMemory → (w : World) → Matches w before → FaultDone Safe what w (Down old_devices) (Down new_devices) fault
    fault_done other w m =
        let here = m.stands.1 in
        let leads = leads_down by w.store disc rack fault disc' rack' other (refuses.step here.told (gives (record { told = here.told; belong = here.belong })) w.store here.reads) in
        let (o, step, told, which) = told_too w.store leads.outcome leads.after leads.step in record {
          state = leads.after;
          outcome = o;
          gives = rises o w (told_of fault leads.after w) m (Err fault) leads.after step told (sym (told_same (λ x t v. up_with (said x) t v) fault leads.after w));
          counted = counts o old_devices new_devices (counted_by (Err fault) old_devices new_devices of_fault o told);
          stands = stands_down w m leads.after (stays w.store o leads.after m.stands.0 step) leads.left;
          left = fault_left fault leaves told_too w m o (λ is. told.cut (ap Err is)) (told_of fault leads.after w) (ap (λ (t : State). t.up) (told_store fault leads.after w) ∙ stays w.store o leads.after m.stands.0 step);
        }

    nothing_left : fault ≡ NoMemory → (w : World) → Matches w before → Safe (Down old_devices) → SystemLeaves (λ u. ⊥) (w.store.up ≡ false) (Down old_devices) (Down new_devices)
    nothing_left is w m safe = λ blocks after left.
        inr (m.stands.0, subst (λ (f : StoreFault). RefusalLeaves by w.store disc rack f disc' blocks after) is (leaves safe blocks after left w.store m.stands.1.reads))

    nothing_done : fault ≡ NoMemory → (w : World) → Matches w before
        → EventCounted Plain [] [] old_devices new_devices × StandsAs (Down new_devices) w.store × (Safe (Down old_devices) → SystemLeaves (λ u. ⊥) (w.store.up ≡ false) (Down old_devices) (Down new_devices))
    nothing_done is w m =
        let here = m.stands.1 in
        let told : OutcomeTold {A = A} Plain (Err fault) = starved_told fault is in (
          counted_by (Err fault) old_devices new_devices of_fault Plain told,
          stands_down w m w.store m.stands.0
              (subst (λ (f : StoreFault). StepsDown by w.store disc rack f disc' rack') is (refuses.step here.told (gives (record { told = here.told; belong = here.belong })) w.store here.reads)),
          nothing_left is w m,
        )

    pub faulted : Faulted Safe what before (Down new_devices) fault
    faulted = record { does = fault_done; nothing = nothing_done }

  pub not_made : (fault : StoreFault) (disc' : DiscState) (rack' : Rack) → NotMade given by disc rack fault disc' rack'
      → ((s : State) (o : Outcome) (u : State) → by s o (Err fault) u → ToldBy (by s) o (Err fault) u)
      → ((s : State) (o : Outcome) (u : State) → s.up ≡ false → by s o (Err fault) u → u.up ≡ false)
      → (Safe : SystemFacts → Type 0) → (let d : Devices = record { disc = disc'; rack = rack' } in Safe (Down old_devices) → Safe (Down d))
      → (Safe (Down old_devices) → (blocks : List (List ℕ)) (after : Rack) → IsLeft disc' rack' blocks after → (s : State) → DevicesStandFor disc.size disc.held (told_reels rack) s → RefusalLeaves by s disc rack fault disc' blocks after)
      → (failure : Option Failure) (c' : CrewState) (before_text after : Option (List ℕ)) (faults faults' : ℕ) → IsReady (Down old_devices) c → TellsFault fault count c failure c' before_text after faults faults'
      → (let d : Devices = record { disc = disc'; rack = rack' } in DidLineFrom Safe what before failure (seen (Down d) c' count) before_text after faults faults')
  not_made fault disc' rack' refuses told_too stays Safe keeps leaves failure c' before_text after faults faults' ready tells =
      let d : Devices = record { disc = disc'; rack = rack' } in
      let both = tells_fault Safe what before (Down d) fault (faulted fault disc' rack' refuses told_too stays Safe leaves) failure c' before_text after faults faults' tells in record {
        goes = both.0;
        ready =
            let (low, high, no_jobs, no_accounts) = ready in
            let (same_jobs, same_accounts) = gone fault count c failure c' before_text after faults faults' no_jobs no_accounts tells in
            (subst (λ (n : ℕ). 2177 < n) (sym refuses.causes.size) low, subst (λ (n : ℕ). n ≤ 1048576) (sym refuses.causes.size) high, same_jobs, same_accounts);
        crew = λ none. leaves_told fault count c failure c' before_text after faults faults' tells;
        arms = none_armed what failure old_devices d no_disc no_tape refuses.causes.arms refuses.tapes.arms;
        count = refl;
        fuses = no_fuse what no_disc no_tape d;
        same = same_caused {A = A} (Err fault) old_devices d (of_fault fault disc' rack' refuses told_too stays Safe leaves).disc refuses.tapes;
        belongs = λ is. record { told = refuses.told is.told; belong = refuses.belongs is.told is.belong };
        safe = keeps;
        dumps = λ is. grown_by (is_process what) rack rack' (grow_held rack rack' refuses.tapes.reels);
        cause = both.1;
        grows = told_grown fault count c failure c' before_text after faults faults' tells;
      }

-- what is down stays down if the system isn't brought up
event_down : {A : Type 0} (f : Option StoreFault) (reply : A) (s after : State) (fault : StoreFault) (u : State) → s.up ≡ false → Event f reply s after (Err fault) u → u.up ≡ false
event_down None reply s after fault u was (isnt, is) = let never : ⊥ = cc in absurd never
event_down (Some Stopped) reply s after fault u was (same, inl is) = ap (λ (t : State). t.up) is
event_down (Some Stopped) reply s after fault u was (same, inr is) = ap (λ (t : State). t.up) is
event_down (Some f) reply s after fault u was (same, is) = ap (λ (t : State). t.up) is ∙ was

pub format_down : (fault : StoreFault) (s : State) (o : Outcome) (u : State) → s.up ≡ false → FormatStep s o (Err fault) u → u.up ≡ false
format_down fault s o u was step =
    event_down (first_fault (fault_from RackNotEmpty (first_reel (λ r. r.used) s.reels) ∷ (is_disc_read o, DiscReadFault) ∷ (is_cut o, Stopped) ∷ [])) tt s
    (coming_up s (record { tree = formatted; places = empty; last = 0; intent = None; kept = empty })) fault u was step

pub restore_down : (fault : StoreFault) (s : State) (o : Outcome) (u : State) → s.up ≡ false → RestoreStep s o (Err fault) u → u.up ≡ false
restore_down fault s o u was step = by_early (restore_early s o) step
  where
    late_down : (d : Option Dumped) → Restores s d o (Err fault) u → u.up ≡ false
    late_down None (lost, is) = ap (λ (t : State). t.up) is ∙ was
    late_down (Some d) event = event_down (restore_late o) d.number s (coming_up s (restored d)) fault u was event

    by_early : (f : Option StoreFault) → MatchOption f (Restores s s.dumped o (Err fault) u) (λ g. (let answer : Result ℕ StoreFault = Err fault in answer ≡ Err g) × (u ≡ s)) → u.up ≡ false
    by_early None late = late_down s.dumped late
    by_early (Some g) (same, is) = ap (λ (t : State). t.up) is ∙ was

pub start_down : (fault : StoreFault) (s : State) (o : Outcome) (u : State) → s.up ≡ false → StartStep s o (Err fault) u → u.up ≡ false
start_down fault s o u was step = by_case o s.holding step
  where
    by_case : (p : Outcome) (k : Option Holding) → Starts s k p (Err fault) u → u.up ≡ false
    by_case DiscRead k (same, is) = ap (λ (t : State). t.up) is ∙ was
    by_case p None (same, is) = ap (λ (t : State). t.up) is ∙ was
    by_case p (Some k) event = event_down (start_refuses s k p) (option_map (λ d. d.number) (dump_adopted s k)) s (coming_up s (adopted (dump_adopted s k) k)) fault u was event

-- FORMAT
module _ (disc : DiscState) (rack : Rack) (c : CrewState) (count : ℕ) (ready : (let d : Devices = record { disc = disc; rack = rack } in IsReady (Down d) c))
    (failure : Option Failure) (c' : CrewState) (before_text after : Option (List ℕ)) (faults faults' : ℕ) where
  pub formatted_line : (new : StoreFacts) → Formats disc rack new → (failure ≡ None → Opens new.online.contents.users c c')
      → Puts failure (operator_line count (codes "FORMATTED")) before_text after faults faults'
      → (let d : Devices = record { disc = disc; rack = rack } in DidLine line.Format (seen (Down d) c count) failure (seen (Up new) c' count) before_text after faults faults')
  formatted_line new is opens puts =
      comes_up line.Format (Unit {0}) FormatStep (λ r. codes "FORMATTED") (λ o w next it. it) (λ o d e it. it) refl refl disc rack c count (λ it. tt) tt new (came_up (Unit {0}) FormatStep (λ reply. 1) disc rack tt new is.makes) ready.3 c'
      SystemSafe (λ safe. format_is_safe disc rack new safe is) failure before_text after faults faults' opens puts

  pub unformatted_line : (fault : StoreFault) (disc' : DiscState) (rack' : Rack) → RefusesFormat disc rack fault disc' rack' → TellsFault fault count c failure c' before_text after faults faults'
      → (let d : Devices = record { disc = disc; rack = rack } in let e : Devices = record { disc = disc'; rack = rack' } in
      DidLine line.Format (seen (Down d) c count) failure (seen (Down e) c' count) before_text after faults faults')
  unformatted_line fault disc' rack' is tells =
      not_made line.Format (Unit {0}) FormatStep (λ r. codes "FORMATTED") (λ o w next it. it) (λ o d e it. it) refl refl disc rack c count (λ it. tt) fault disc' rack' (none_made (Unit {0}) FormatStep disc rack fault disc' rack' is.refuses)
      (λ s o u step. format_told s o (Err fault) u step) (format_down fault)
      SystemSafe (λ safe. refusals_keep_safe.format disc disc' rack rack' fault safe is)
      (λ safe blocks left may s stands. refusals_survive.format disc disc' rack rack' fault blocks left safe is may s stands) failure c' before_text after faults faults' ready tells

  -- START
  pub started_line : (number : Option ℕ) (new : StoreFacts) → Begun disc rack number new → DumpsMadeSafe rack new.rack → (failure ≡ None → Opens new.online.contents.users c c')
      → Puts failure (operator_line count (started_text number)) before_text after faults faults'
      → (let d : Devices = record { disc = disc; rack = rack } in DidLine line.Start (seen (Down d) c count) failure (seen (Up new) c' count) before_text after faults faults')
  started_line number new is durable opens puts =
      comes_up line.Start (Belong disc.held rack) StartStep started_text (λ o w next it. it) (λ o d e it. it) refl refl disc rack c count (λ it. it.belong) number new (came_up (Belong disc.held rack) StartStep commits_of_start disc rack number new is.makes) ready.3 c'
      SystemSafe (λ safe. making_is_safe.start disc rack number new safe.now is durable) failure before_text after faults faults' opens puts

  pub unstarted_line : (fault : StoreFault) (disc' : DiscState) (rack' : Rack) → RefusesStart disc rack fault disc' rack' → (fault ≡ Stopped → DumpsMadeSafe rack rack') → TellsFault fault count c failure c' before_text after faults faults'
      → (let d : Devices = record { disc = disc; rack = rack } in let e : Devices = record { disc = disc'; rack = rack' } in
      DidLine line.Start (seen (Down d) c count) failure (seen (Down e) c' count) before_text after faults faults')
  unstarted_line fault disc' rack' is durable tells =
      not_made line.Start (Belong disc.held rack) StartStep started_text (λ o w next it. it) (λ o d e it. it) refl refl disc rack c count (λ it. it.belong) fault disc' rack'
      (none_made (Belong disc.held rack) StartStep disc rack fault disc' rack' is.refuses)
      (λ s o u step. start_told s o (Err fault) u step) (start_down fault)
      SystemSafe (λ safe. refusals_keep_safe.start disc disc' rack rack' fault safe is durable)
      (λ safe blocks left may s stands. refusals_survive.start disc disc' rack rack' fault blocks left safe is durable may s stands) failure c' before_text after faults faults' ready tells

  -- RESTORE
  pub restored_line : (number : ℕ) (new : StoreFacts) → Restored disc rack number new → DumpsMadeSafe rack new.rack → (failure ≡ None → Opens new.online.contents.users c c')
      → Puts failure (operator_line count (codes "RESTORED FROM DUMP " ++ decimal number)) before_text after faults faults'
      → (let d : Devices = record { disc = disc; rack = rack } in DidLine line.Restore (seen (Down d) c count) failure (seen (Up new) c' count) before_text after faults faults')
  restored_line number new is durable opens puts =
      comes_up line.Restore (Belong disc.held rack) RestoreStep (λ n. codes "RESTORED FROM DUMP " ++ decimal n) (λ o w next it. it) (λ o d e it. it) refl refl disc rack c count (λ it. it.belong) number new (came_up (Belong disc.held rack) RestoreStep (λ n. 1) disc rack number new is.makes) ready.3 c'
      SystemSafe (λ safe. making_is_safe.restore disc rack number new safe.now is durable) failure before_text after faults faults' opens puts

  pub unrestored_line : (fault : StoreFault) (disc' : DiscState) (rack' : Rack) → RefusesRestore disc rack fault disc' rack' → (fault ≡ Stopped → DumpsMadeSafe rack rack') → TellsFault fault count c failure c' before_text after faults faults'
      → (let d : Devices = record { disc = disc; rack = rack } in let e : Devices = record { disc = disc'; rack = rack' } in
      DidLine line.Restore (seen (Down d) c count) failure (seen (Down e) c' count) before_text after faults faults')
  unrestored_line fault disc' rack' is durable tells =
      not_made line.Restore (Belong disc.held rack) RestoreStep (λ n. codes "RESTORED FROM DUMP " ++ decimal n) (λ o w next it. it) (λ o d e it. it) refl refl disc rack c count (λ it. it.belong) fault disc' rack'
      (none_made (Belong disc.held rack) RestoreStep disc rack fault disc' rack' is.refuses)
      (λ s o u step. restore_told s o (Err fault) u step) (restore_down fault)
      SystemSafe (λ safe. refusals_keep_safe.restore disc disc' rack rack' fault safe is durable)
      (λ safe blocks left may s stands. refusals_survive.restore disc disc' rack rack' fault blocks left safe is durable may s stands) failure c' before_text after faults faults' ready tells

-- a system that is up isn't brought up again
pub running_line : {A : Type 0} (what : Operator) (by : State → Outcome → Result A StoreFault → State → Type 0) (said : A → List ℕ)
    → ((o : Outcome) (w next : World) → Asks o (not w.store.up) Running (λ r s. by w.store o r s × IsTold o r) (λ x. up_with (said x)) w next → LineGives o what w next) → disc_arms what ≡ [] → tape_arms what ≡ []
    → (s : StoreFacts) (c : CrewState) → IsReady (Up s) c → (count : ℕ) (failure : Option Failure) (before_text after : Option (List ℕ)) (faults faults' : ℕ)
    → Puts failure (refusal_text count Running) before_text after faults faults' → DidLine what (seen (Up s) c count) failure (seen (Up s) c count) before_text after faults faults'
running_line {A = A} what by said lifts no_disc no_tape s c ready count failure before_text after faults faults' puts =
    refused_line what no_disc no_tape Running (Up s) c count
    (λ w m. lifts Plain w (line_refused Running w)
    (subst (λ (b : Bool). MatchBool (not b) ((r' : Result A StoreFault) × (s' : State) × (by w.store Plain r' s' × IsTold Plain r') × (line_refused Running w ≡ tells (λ x t v. up_with (said x) t v) r' s' w)) ((Plain ≡ Plain) × (line_refused Running w ≡ line_refused Running w))) (sym (up_is s w.store ready.0 m.stands.stands)) (refl, refl)))
    failure before_text after faults faults' ready puts
