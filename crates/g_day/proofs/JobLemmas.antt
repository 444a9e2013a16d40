-- A JOB'S LINE, AND SHUT.
-- serves: crates above
use Rattle.std.proofs.Common.{◌≡◌, ℕ, ◌+◌, ◌++◌, Bool, true, false, List, [], ◌∷◌, Option, Some, None, refl, sym, ◌∙◌, ap, subst, inl, inr}
use Rattle.std.specs.Prelude.{◌⊎◌, Err, Result, codes, is_some, option_map, if◌then◌else◌}
use Rattle.std.specs.FinMap as finmap
use Rattle.std.proofs.lemmas.List.{append_assoc}
use Rattle.std.proofs.lemmas.Option.{none-some, same_Some}
use Rattle.g_plain.specs.declared.faults.StoreFault.TheVariants.{DumpOpen, NotStarted}
use Rattle.g_entry.specs.declared.user_rec.UserRec.{UserRec}
use Rattle.g_tree.specs.Records.{users_by_name}
use Rattle.g_job.specs.Beginning.{job_begun}
use Rattle.g_job.specs.State.{JobState}
use Rattle.g_store_model.specs.State.{OpenDump, State}
use Rattle.g_store_model.specs.CallStep.{Outcome, Plain, down}
use Rattle.g_store_meaning.specs.Reading.{DevicesStandFor, StandsForState, open_of}
use Rattle.g_store_meaning.specs.Meaning.{told_reels}
use Rattle.g_store_meaning.specs.StoreInvariant.{DumpFacts, StoreFacts}
use Rattle.g_store_calls.proofs.SeenLemmas.{seen as seen_of}
use Rattle.g_laws_power.proofs.DeviceLemmas.{stops_leave_safe}
use Rattle.g_laws_power.proofs.SurvivalLemmas.{store_survives}
use Rattle.g_script.specs.declared.operator.Operator.{Operator}
use Rattle.g_script.specs.declared.operator.Operator.TheVariants as line
use Rattle.g_run_model.specs.Devices.{Devices}
use Rattle.g_run_model.specs.Accounts.{knows_user}
use Rattle.g_run_model.specs.Lines.{LineGives, shut_with, job_line, job_refusal, line_refused, refusal, taken_in}
use Rattle.g_run_model.specs.Texts.{broken_files, job_text, operator_line}
use Rattle.g_run_model.specs.World.{World, goes_down}
use Rattle.g_run_model.proofs.CountLemmas.{event_none}
use Rattle.g_job_table.specs.Crew.{CrewState, IsCrewOf}
use Rattle.g_job_table.specs.Taking.{RefusesAsIn, printed, refusal_line}
use Rattle.g_job.specs.declared.new_job.NewJob.{NewJob}
use Rattle.g_job_table.specs.declared.taking.NotTaken.{NotTaken}
use Rattle.g_job_table.specs.declared.taking.NotTaken.TheVariants as why
use Rattle.g_day.specs.declared.progress.Failure.{Failure}
use Rattle.g_day.specs.Jobs.{ComesIn, IsRefused, KnowsIn, TakesJob, TellsWhy, joined}
use Rattle.g_day.specs.Losses.{AsRead}
use Rattle.g_day.specs.Parts.{DidLine, DoesLine, IsReady, Matches, Seen, seen}
use Rattle.g_day.specs.Puts.{FaultCause, Puts}
use Rattle.g_day.specs.System.{Down, SystemFacts, SystemSafe, Up, devices_in}
use Rattle.g_day.specs.Telling.{TellsFault, down_text, refusal_text, system_behind, without_jobs}
use Rattle.g_day.proofs.GrowLemmas.{grow_itself}
use Rattle.g_day.proofs.LeavesLemmas.{leaves_joined, leaves_none, leaves_same}
use Rattle.g_day.proofs.LossLemmas.{down_again}
use Rattle.g_day.proofs.LineLemmas.{none_armed, nothing_done, quiet_line, refused_line, says_refused, was_done}
use Rattle.g_day.proofs.UpLemmas.{up_is}
use Rattle.g_day.proofs.UserLemmas.{user_known}
use Rattle.g_day.proofs.LabelLemmas.{same_itself}
use Rattle.g_day.proofs.PutLemmas.{puts_grown}

-- the job isn't accepted, and the reason is printed
pub turned_away_is : (known : Bool) (job : NewJob) (count : ℕ) (c : CrewState) (w : NotTaken) (failure : Option Failure) (c' : CrewState) (before after : Option (List ℕ)) (old new : ℕ)
    → RefusesAsIn c known job.user job.time job.money (let answer : Result ℕ NotTaken = Err w in printed answer) → c' ≡ c → TellsWhy w count failure before after old new
    → TakesJob known job count c failure c' before after old new
turned_away_is known job count c why.NoMemory failure c' before after old new refuses same tells = inr (inr (tells.0, same, tells.1, tells.2))
turned_away_is known job count c w failure c' before after old new refuses same tells = inr (inl (record { text = refusal_line w; refuses = refuses; crew = same; put = tells }))

-- it is taken in
pub comes_in_is : (known : Bool) (job : NewJob) (count : ℕ) (c : CrewState) (number : ℕ) (failure : Option Failure) (c' : CrewState) (before after : Option (List ℕ)) (old new : ℕ)
    → RefusesAsIn c known job.user job.time job.money None → number ≡ c.next_job → c' ≡ joined job c → Puts failure (operator_line count (job_text number (job.name ++ codes " IN"))) before after old new
    → TakesJob known job count c failure c' before after old new
comes_in_is known job count c number failure c' before after old new granted number_is crew puts = inl (record {
  granted = granted;
  crew = crew;
  put = subst (λ (n : ℕ). Puts failure (operator_line count (job_text n (job.name ++ codes " IN"))) before after old new) number_is puts;
})

abbrev job_of_line : NewJob → Operator
job_of_line job = line.Job job.name job.user job.time job.money job.lines

-- the effect of the line while the system is up
gives_up : (job : NewJob) (w next : World) → w.store.up ≡ true → next ≡ job_line (job_refusal w job.user job.time job.money) (taken_in job.name job.user job.time job.money job.lines w) w
    → LineGives Plain (job_of_line job) w next
gives_up job w next up is =
    (refl, is ∙ sym (ap (λ (b : Bool). if b then job_line (job_refusal w job.user job.time job.money) (taken_in job.name job.user job.time job.money job.lines w) w else line_refused NotStarted w) up))

-- a job with the next number is added after the others
pub jobs_more : (born : ℕ → JobState) (w : World) (c : CrewState) → IsCrewOf w c → w.jobs ++ born w.next_job ∷ [] ≡ c.jobs ++ born c.next_job ∷ []
jobs_more born w c crew = ap (λ (js : List JobState). js ++ born w.next_job ∷ []) crew.jobs ∙ ap (λ (n : ℕ). c.jobs ++ born n ∷ []) crew.next_job

-- a system that knows whether it knows the user is up
pub known_up : (P : SystemFacts → Type 0) (user : List ℕ) (f : SystemFacts) (known : Bool) → KnowsIn user f (Some known)
    → ((s : StoreFacts) → ((u : State) → StandsForState s u → knows_user u user ≡ known) → P (Up s)) → P f
known_up P user (Up s) known knows where_up = let (it, is, known_is) = knows in where_up s (λ u here. known_is u here ∙ sym (same_Some known it is))
known_up P user (Down d) known is where_up = let never : ⊥ = cc in absurd never

module _ (job : NewJob) (s : StoreFacts) (known : Bool) (known_is : (u : State) → StandsForState s u → knows_user u job.user ≡ known) (c : CrewState) (ready : IsReady (Up s) c) (count : ℕ) where
  abbrev before : Seen
  before = seen (Up s) c count

  -- the job is accepted
  module _ (granted : (w : World) → IsCrewOf w c → knows_user w.store job.user ≡ known → job_refusal w job.user job.time job.money ≡ None) where
    in_does : (w : World) → Matches w before → DoesLine (job_of_line job) w (Up s) (Up s) (operator_line count (job_text c.next_job (job.name ++ codes " IN")))
    in_does w m = record {
      outcome = Plain;
      next = taken_in job.name job.user job.time job.money job.lines w;
      gives = gives_up job w (taken_in job.name job.user job.time job.money job.lines w) (up_is s w.store ready.0 m.stands.stands)
          (sym (ap (λ (o : Option (List ℕ)). job_line o (taken_in job.name job.user job.time job.money job.lines w) w) (granted w m.crew (known_is w.store m.stands.stands))));
      counted = event_none (devices_in (Up s));
      stands = m.stands;
      left = λ safe. tt;
      text = ap (λ (n : ℕ). w.text ++ operator_line n (job_text w.next_job (job.name ++ codes " IN"))) m.count
          ∙ ap (λ (n : ℕ). w.text ++ operator_line count (job_text n (job.name ++ codes " IN"))) m.crew.next_job;
    }

    in_matches : (w : World) (m : Matches w before) → Matches (in_does w m).next (seen (Up s) (joined job c) count)
    unfolding in_does
    in_matches w m = record {
      stands = m.stands;
      crew = record { jobs = jobs_more (λ n. job_begun n job.name job.user job.time job.money job.lines) w c m.crew; accounts = m.crew.accounts; next_job = ap (λ (n : ℕ). n + 1) m.crew.next_job };
      count = m.count;
    }

  -- it is refused
  out_gives : (text : List ℕ) → ((w : World) → IsCrewOf w c → knows_user w.store job.user ≡ known → job_refusal w job.user job.time job.money ≡ Some text) → (w : World) → Matches w before
      → LineGives Plain (job_of_line job) w (refusal text w)
  out_gives text refuses w m =
      gives_up job w (refusal text w) (up_is s w.store ready.0 m.stands.stands)
      (sym (ap (λ (o : Option (List ℕ)). job_line o (taken_in job.name job.user job.time job.money job.lines w) w) (refuses w m.crew (known_is w.store m.stands.stands))))

  abbrev Did : Option Failure → CrewState → Option (List ℕ) → Option (List ℕ) → ℕ → ℕ → Type 0
  Did failure c' before_text after faults faults' = DidLine (job_of_line job) before failure (seen (Up s) c' count) before_text after faults faults'

  -- by its outcome
  pub taken_line : (failure : Option Failure) (c' : CrewState) (before_text after : Option (List ℕ)) (faults faults' : ℕ) → TakesJob known job count c failure c' before_text after faults faults'
      → Did failure c' before_text after faults faults'
  taken_line failure c' before_text after faults faults' (inl comes) =
      subst (λ (k : CrewState). Did failure k before_text after faults faults') (sym comes.crew)
      (quiet_line (job_of_line job) refl refl (Up s) c (joined job c) count failure (operator_line count (job_text c.next_job (job.name ++ codes " IN"))) before_text after faults faults' ready
      (in_does comes.granted) (λ w m e. in_matches comes.granted w m) (λ none. leaves_joined job c) comes.put)
  taken_line failure c' before_text after faults faults' (inr (inl refused)) =
      subst (λ (k : CrewState). Did failure k before_text after faults faults') (sym refused.crew)
      (says_refused (job_of_line job) refl refl refused.text (Up s) c count (out_gives refused.text refused.refuses) failure before_text after faults faults' ready refused.put)
  taken_line failure c' before_text after faults faults' (inr (inr nothing)) = nothing_done (job_of_line job) refl refl (Up s) c count ready failure c' before_text after faults faults' nothing

-- a system that is down takes no job
pub down_takes_none : (job : NewJob) (d : Devices) (c : CrewState) (count : ℕ) (failure : Option Failure) (before after : Option (List ℕ)) (faults faults' : ℕ) → IsReady (Down d) c
    → Puts failure (refusal_text count NotStarted) before after faults faults' → DidLine (job_of_line job) (seen (Down d) c count) failure (seen (Down d) c count) before after faults faults'
down_takes_none job d c count failure before after faults faults' ready puts =
    refused_line (job_of_line job) refl refl NotStarted (Down d) c count
    (λ w m. (refl, sym (ap (λ (b : Bool). if b then job_line (job_refusal w job.user job.time job.money) (taken_in job.name job.user job.time job.money job.lines w) w else line_refused NotStarted w) m.stands.0)))
    failure before after faults faults' ready puts

-- A JOB'S LINE, if the system knows its user or doesn't, or is down
pub job_on : (job : NewJob) (f : SystemFacts) (known : Bool) → KnowsIn job.user f (Some known) → (c : CrewState) → IsReady f c → (count : ℕ) (failure : Option Failure) (c' : CrewState) (before after : Option (List ℕ)) (faults faults' : ℕ)
    → TakesJob known job count c failure c' before after faults faults' → DidLine (job_of_line job) (seen f c count) failure (seen f c' count) before after faults faults'
job_on job f known knows c ready count failure c' before after faults faults' takes =
    known_up (λ g. IsReady g c → DidLine (job_of_line job) (seen g c count) failure (seen g c' count) before after faults faults') job.user f known knows
    (λ s known_is there. taken_line job s known known_is c there count failure c' before after faults faults' takes) ready

pub no_job_on : (job : NewJob) (f : SystemFacts) → KnowsIn job.user f None → (c : CrewState) → IsReady f c → (count : ℕ) (failure : Option Failure) (c' : CrewState) (before after : Option (List ℕ)) (faults faults' : ℕ)
    → TellsFault NotStarted count c failure c' before after faults faults' → DidLine (job_of_line job) (seen f c count) failure (seen (system_behind NotStarted f) c' count) before after faults faults'
no_job_on job (Up s) knows c ready count failure c' before after faults faults' tells = let (it, is, known_is) = knows in let never : ⊥ = cc in absurd never
no_job_on job (Down d) is c ready count failure c' before after faults faults' tells =
    let (crew, puts) = tells in
    subst (λ (k : CrewState). DidLine (job_of_line job) (seen (Down d) c count) failure (seen (Down d) k count) before after faults faults') (sym crew)
    (down_takes_none job d c count failure before after faults faults' ready puts)

-- the user has a budget if and only if the user is known
pub known_by : (s : StoreFacts) → s.spent ≡ false → (user : List ℕ) (time : Option ℕ) (known : Bool) → time ≡ option_map (λ (u : UserRec). u.time) (finmap.get (users_by_name s.online.contents.users) user)
    → known ≡ is_some time → (u : State) → StandsForState s u → knows_user u user ≡ known
known_by s unspent user time known time_is known_is u here =
    user_known s unspent u here user ∙ sym (is_some-map (finmap.get (users_by_name s.online.contents.users) user)) ∙ ap is_some (sym time_is) ∙ sym known_is
  where
    is_some-map : (o : Option UserRec) → is_some (option_map (λ (r : UserRec). r.time) o) ≡ is_some o
    is_some-map None = refl
    is_some-map (Some r) = refl

-- the number of the open dump shows whether there is one
pub some_dump : (o : Option DumpFacts) (n : ℕ) → option_map (λ (d : DumpFacts). d.plan.number) o ≡ Some n → (d : DumpFacts) × (o ≡ Some d) × (d.plan.number ≡ n)
some_dump None n is = absurd (none-some n is)
some_dump (Some d) n is = (d, refl, same_Some d.plan.number n is)

pub none_dump : (o : Option DumpFacts) → option_map (λ (d : DumpFacts). d.plan.number) o ≡ None → o ≡ None
none_dump None is = refl
none_dump (Some d) is = absurd (none-some d.plan.number (sym is))

-- SHUT
pub down_shuts_not : (d : Devices) (c : CrewState) (count : ℕ) (failure : Option Failure) (before after : Option (List ℕ)) (faults faults' : ℕ) → IsReady (Down d) c
    → Puts failure (refusal_text count NotStarted) before after faults faults' → DidLine line.Shut (seen (Down d) c count) failure (seen (Down d) c count) before after faults faults'
down_shuts_not d c count failure before after faults faults' ready puts =
    refused_line line.Shut refl refl NotStarted (Down d) c count
    (λ w m. (refl, subst (λ (b : Bool). line_refused NotStarted w ≡ (if b then shut_with w.store.open_dump w else line_refused NotStarted w)) (sym m.stands.0) refl))
    failure before after faults faults' ready puts

module _ (s : StoreFacts) (c : CrewState) (ready : IsReady (Up s) c) (count : ℕ) where
  abbrev shut_before : Seen
  shut_before = seen (Up s) c count

  shuts : (w next : World) → Matches w shut_before → next ≡ shut_with w.store.open_dump w → LineGives Plain line.Shut w next
  shuts w next m is = (refl, subst (λ (b : Bool). next ≡ (if b then shut_with w.store.open_dump w else line_refused NotStarted w)) (sym (up_is s w.store ready.0 m.stands.stands)) is)

  -- a dump is open
  shut_open : (dump : Option DumpFacts) (d : DumpFacts) → dump ≡ Some d → (w : World) → Matches w shut_before → s.dump ≡ dump → line_refused (DumpOpen d.plan.number) w ≡ shut_with w.store.open_dump w
  shut_open dump d is w m at =
      let sn = seen_of s w.store ready.0 m.stands.stands in
      subst (λ (o : Option OpenDump). line_refused (DumpOpen d.plan.number) w ≡ shut_with o w)
      (sym (ap (λ (t : State). t.open_dump) sn.state_is ∙ ap (option_map (open_of sn.view s.online)) (at ∙ is))) refl

  pub open_shuts_not : (number : ℕ) (d : DumpFacts) → s.dump ≡ Some d → d.plan.number ≡ number → (failure : Option Failure) (before after : Option (List ℕ)) (faults faults' : ℕ)
      → Puts failure (refusal_text count (DumpOpen number)) before after faults faults' → DidLine line.Shut shut_before failure shut_before before after faults faults'
  open_shuts_not number d at same failure before after faults faults' puts =
      refused_line line.Shut refl refl (DumpOpen number) (Up s) c count
      (λ w m. shuts w (line_refused (DumpOpen number) w) m
      (subst (λ (n : ℕ). line_refused (DumpOpen n) w ≡ shut_with w.store.open_dump w) same (shut_open s.dump d at w m refl)))
      failure before after faults faults' ready puts

  -- none is
  abbrev taken_down : Devices
  taken_down = record { disc = s.online.disc; rack = s.rack }

  shut_does : (is_some s.online.disc.held ≡ true → (u : State) → StandsForState s u → DevicesStandFor s.online.disc.size s.online.disc.held (told_reels s.rack) (down u)) → s.dump ≡ None → (w : World) → Matches w shut_before → DoesLine line.Shut w (Up s) (Down taken_down) (down_text count (codes "SHUT") c)
  shut_does reads none w m =
      let sn = seen_of s w.store ready.0 m.stands.stands in record {
        outcome = Plain;
        next = goes_down (codes "SHUT") (down w.store) w;
        gives = shuts w (goes_down (codes "SHUT") (down w.store) w) m
            (subst (λ (o : Option OpenDump). goes_down (codes "SHUT") (down w.store) w ≡ shut_with o w)
            (sym (ap (λ (t : State). t.open_dump) sn.state_is ∙ ap (option_map (open_of sn.view s.online)) none)) refl);
        counted = event_none (devices_in (Up s));
        stands = (
          refl,
          record {
            told = m.stands.told;
            belong = m.stands.belongs.devices;
            reads = reads m.stands.told.disc w.store m.stands.stands;
          },
        );
        left = λ safe blocks rack left. inl (down w.store, AsRead (sym (down_again w.store)), (store_survives s blocks rack safe left).1 w.store m.stands.stands);
        text = append_assoc w.text (operator_line w.count (codes "SHUT")) (broken_files w.jobs)
            ∙ ap (λ (n : ℕ). w.text ++ (operator_line n (codes "SHUT") ++ broken_files w.jobs)) m.count
            ∙ ap (λ (js : List JobState). w.text ++ (operator_line count (codes "SHUT") ++ broken_files js)) m.crew.jobs;
      }

  pub shut_down : (is_some s.online.disc.held ≡ true → (u : State) → StandsForState s u → DevicesStandFor s.online.disc.size s.online.disc.held (told_reels s.rack) (down u)) → s.dump ≡ None → (failure : Option Failure) (before after : Option (List ℕ)) (faults faults' : ℕ) → Puts failure (down_text count (codes "SHUT") c) before after faults faults'
      → DidLine line.Shut shut_before failure (seen (Down taken_down) (without_jobs c) count) before after faults faults'
  unfolding shut_does
  shut_down reads none failure before after faults faults' puts = record {
    goes = was_done SystemSafe line.Shut shut_before (seen (Down taken_down) (without_jobs c) count) failure (down_text count (codes "SHUT") c) before after (shut_does reads none)
        (λ w m e. record {
          stands = (shut_does reads none w m).stands;
          crew = record { jobs = refl; accounts = λ user. refl; next_job = m.crew.next_job };
          count = m.count;
        }) puts.put;
    ready = (ready.1, ready.2, refl, refl);
    crew = λ none. leaves_none c;
    arms = none_armed line.Shut failure (devices_in (Up s)) taken_down refl refl refl refl;
    count = refl;
    fuses = tt;
    same = same_itself (devices_in (Up s));
    belongs = λ is. record { told = is.0; belong = is.1.devices };
    safe = stops_leave_safe.down s;
    dumps = λ is. grow_itself s.rack;
    cause = puts.cause;
    grows = puts_grown puts;
  }
