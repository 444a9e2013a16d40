-- How a store answers a step of its open dump, for any answer of the dumper.
-- serves: dump_step (dumps, event, safe)
use Rattle.std.proofs.Common.{◌≡◌, ℕ, ◌+◌, Bool, true, false, List, Option, Some, None, Result, Ok, Err, refl, sym, ◌∙◌, ap, arith, subst, inl, inr}
use Rattle.std.specs.List.{AllZip}
use Rattle.std.specs.Prelude.{◌⊎◌, ◌↔◌, All, IfSome, is_some}
use Rattle.std.proofs.lemmas.Bool.{false≢true}
use Rattle.g_tape.specs.Rack.{AreReels, Rack, with_reel}
use Rattle.g_tape.specs.Reel.{Reel, Remains, Torn, left_by}
use Rattle.g_plain.specs.declared.faults.StoreFault.{StoreFault}
use Rattle.g_plain.specs.declared.faults.StoreFault.TheVariants.{DiscReadFault, Stopped}
use Rattle.g_disc_contents.specs.Contents.{Holds}
use Rattle.g_disc_contents.specs.Durable.{IsDurable}
use Rattle.g_disc_contents.specs.Facts.{IsPinOf, IsTied, OnlineFacts, Pin}
use Rattle.g_online.specs.Change.{closed}
use Rattle.g_online.specs.declared.fault.OnlineFault.TheVariants as online
use Rattle.g_online.specs.Outcomes.{HasClosed}
use Rattle.g_online.specs.Pins.{IsClosing}
use Rattle.g_incr.specs.Plan.{needs}
use Rattle.g_store_model.specs.State as state
use Rattle.g_store_model.specs.DumpSteps.{Completed, Going, Stepped}
use Rattle.g_store_meaning.specs.Answers.{Belongs, IsStore, Told, WroteCommits}
use Rattle.g_store_meaning.specs.Reading.{StandsForState}
use Rattle.g_store_meaning.specs.StoreInvariant.{DumpFacts, IsOpen, StoreFacts, content_in}
use Rattle.g_store_meaning.specs.Surviving.{SurvivesOnDisc}
use Rattle.g_store_calls.proofs.SurvivalLemmas.{stays_durable}
use Rattle.g_dumper.specs.Invariant.{KeepsStore, LeavesDumps, behind_step, spent_with, up_with}
use Rattle.g_dumper.specs.Steps.{Stepping, WroteBlock}
use Rattle.g_dumper.proofs.KeepLemmas.{content_told, keeps_step}
use Rattle.g_process.proofs.BecomeLemmas.{label_left, labels, labels_changed, zip_labels}
use Rattle.g_store.specs.Dumping.{KeepsDumps, KeepsDumpsSafe, LeavesOpen, is_stop_at}
use Rattle.g_store.specs.Events.{IsAnsweredBy, IsStepOfDump, LeadsBy, StepsBy, StepsDump, WroteBy, commits_of_step}
use Rattle.g_store.proofs.LossLemmas.{IsStoppedWith, belongs_left, commit_survives, leads_left, rack_survives}
use Rattle.g_store.proofs.ShelvesLemmas.{adds}
use Rattle.g_store.proofs.SteppedLemmas.{abandons, completes, goes, stops, stops_closing}

-- the content of its pins, if the disc exposes it
the_content : (d : DumpFacts) (o : OnlineFacts) (old : Rack) → IsStore (up_with o old (Some d)) → Told (up_with o old (Some d)) → (is : IsOpen d o old)
    → (content : List (List ℕ)) × (content_in is.pins ≡ Some content)
the_content d o old keeps told is =
    let pins_are = subst (λ (p : Option (List Pin)). IfSome p (All (IsPinOf (is_some o.disc.held) o.contents.head.next_stamp o.contents.files))) is.pinned (keeps.tied.pinned (keeps.live refl)) in
    content_told o.contents.head.next_stamp o.contents.files is.pins
    (subst (λ (b : Bool). All (IsPinOf b o.contents.head.next_stamp o.contents.files) is.pins) told.disc pins_are)

-- nothing was written
none_wrote : (d : Option DumpFacts) (old new : Rack) (o o' : OnlineFacts) (dump : Option DumpFacts) → o'.layout ≡ o.layout → o'.disc.writes ≡ o.disc.writes
    → WroteCommits 0 (up_with o old d) (up_with o' new dump)
none_wrote d old new o o' dump layout writes = record {
  blocks = 0;
  commits = (layout, refl);
  writes = record { exactly = λ less. writes ∙ (let n : o.disc.writes ≡ o.disc.writes + 0 = omega arith in n) };
}

module _ (d : DumpFacts) (o : OnlineFacts) (old : Rack) (reels : AreReels old.reels) (keeps : IsStore (up_with o old (Some d))) where
  abbrev before : StoreFacts
  before = up_with o old (Some d)

  is : IsOpen d o old
  is = keeps.open_dump refl

  by_state : (d' : DumpFacts) (o' : OnlineFacts) (new : Rack) (answer : Result Stepped StoreFault) → Stepping d o old answer d' o' new → Told before → Belongs before
      → (u : state.State) → StandsForState before u → StepsBy IsStepOfDump u before answer (behind_step answer d' o' new)
  by_state d' o' new (Ok Going) (less, dump_is, same, wrote) told was u here =
      let (text, shelf, shelved, up) = was.up refl in
      let (content, has) = the_content d o old keeps told is in
      let both : up_with o new (Some (record { plan = d.plan; done = d.done + 1 })) ≡ up_with o' new (Some d') =
      ap (λ (e : DumpFacts). up_with o new (Some e)) (sym dump_is) ∙ ap (λ (x : OnlineFacts). up_with x new (Some d')) (sym same) in
      subst (λ (x : StoreFacts). LeadsBy IsStepOfDump u before x (Ok Going)) both (goes d o old reels keeps told was text shelf shelved up is content has new less wrote u here)
  by_state d' o' new (Ok (Completed n)) (last, number, plan_is, wrote, closing) told was u here =
      let (text, shelf, shelved, up) = was.up refl in
      let (content, has) = the_content d o old keeps told is in
      completes d o old reels keeps told was text shelf shelved up is content has new o' n last number wrote closing.causes.size (subst (λ (m : ℕ). HasClosed m o o') number closing.ok) u here
  by_state d' o' new (Err Stopped) (plan_is, inl (failed, same)) told was u here =
      let (text, shelf, shelved, up) = was.up refl in
      let (content, has) = the_content d o old keeps told is in
      subst (λ (x : OnlineFacts). LeadsBy IsStepOfDump u before (spent_with x new) (Err Stopped)) (sym same) (stops d o old reels keeps told was text shelf shelved up is content has new failed u here)
  by_state d' o' new (Err Stopped) (plan_is, inr (last, wrote, closing)) told was u here =
      let (text, shelf, shelved, up) = was.up refl in
      let (content, has) = the_content d o old keeps told is in
      stops_closing d o old reels keeps told was text shelf shelved up is content has new o' last wrote closing.causes.size closing.told (closing.causes.writes_rose refl) closing.stopped u here
  by_state d' o' new (Err DiscReadFault) (dump_is, same, left) told was u here =
      let (text, shelf, shelved, up) = was.up refl in
      let (content, has) = the_content d o old keeps told is in
      subst (λ (r : Rack). LeadsBy IsStepOfDump u before (up_with o' r None) (Err DiscReadFault)) (sym same) (abandons d o old reels keeps told was text shelf shelved up is content has o' left u here)
  by_state d' o' new (Err fault) never told was u here = absurd never

  by_writes : (d' : DumpFacts) (o' : OnlineFacts) (new : Rack) (answer : Result Stepped StoreFault) → Stepping d o old answer d' o' new → WroteBy commits_of_step before answer (behind_step answer d' o' new)
  by_writes d' o' new (Ok Going) (less, dump_is, same, wrote) =
      none_wrote (Some d) old new o o' (Some d') (ap (λ (x : OnlineFacts). x.layout) same) (ap (λ (x : OnlineFacts). x.disc.writes) same)
  by_writes d' o' new (Ok (Completed n)) (last, number, plan_is, wrote, closing) = record { blocks = closing.ok.blocks; commits = closing.ok.commits; writes = closing.ok.writes }
  by_writes d' o' new (Err Stopped) step = tt
  by_writes d' o' new (Err DiscReadFault) (dump_is, same, left) =
      none_wrote (Some d) old new o o' None (ap (λ (x : OnlineFacts). x.layout) left.facts) (ap (λ (x : OnlineFacts). x.disc.writes) left.facts)
  by_writes d' o' new (Err fault) never = absurd never

  by_spent : (d' : DumpFacts) (o' : OnlineFacts) (new : Rack) (answer : Result Stepped StoreFault) → Stepping d o old answer d' o' new
      → (let after = behind_step answer d' o' new in (after.spent ≡ true) ↔ (answer ≡ Err Stopped))
  by_spent d' o' new (Ok Going) step = (λ no. absurd (false≢true no), λ no. absurd (let it : ⊥ = cc in it))
  by_spent d' o' new (Ok (Completed n)) step = (λ no. absurd (false≢true no), λ no. absurd (let it : ⊥ = cc in it))
  by_spent d' o' new (Err Stopped) step = (λ yes. refl, λ yes. refl)
  by_spent d' o' new (Err DiscReadFault) step = (λ no. absurd (false≢true no), λ no. absurd (let it : ⊥ = cc in it))
  by_spent d' o' new (Err fault) never = absurd never

  -- WHAT SURVIVES, if the commit after the mark was stopped
  module _ (d' : DumpFacts) (o' : OnlineFacts) (new : Rack) (plan_is : d'.plan ≡ d.plan) (last : d.done + 1 ≡ needs d.plan) (wrote : WroteBlock d o.pins old new)
      (closing : IsClosing d.plan.number o o' (Err online.Stopped)) where
    abbrev Left : List (List ℕ) → Type 0
    Left blocks = Holds blocks o.contents ⊎ Holds blocks (closed d.plan.number o)

    closing_at : (x : OnlineFacts) → IsStoppedWith Left o x → IsClosing d.plan.number o x (Err online.Stopped)
    closing_at x a = record {
      ok = tt;
      stopped = record { live = a.live; holds = a.holds; survives = a.survives };
      causes = record {
        size = a.size;
        arms = a.arms;
        later = a.later;
        reads_kept = λ _. a.reads_kept;
        reads_rose = λ no. absurd no;
        writes_kept = λ no. absurd (no refl);
        writes_rose = λ _. a.rose;
      };
      tied = a.tied;
      told = a.tells;
      only = refl;
    }

    closing_is : (x : OnlineFacts) → IsStoppedWith Left o x → IsAnsweredBy IsStepOfDump before (Err Stopped) (spent_with x new)
    closing_is x a =
        let step : Stepping d o old (Err Stopped) d' x new = (plan_is, inr (last, wrote, closing_at x a)) in
        let kept = keeps_step d d' o x old new (Err Stopped) reels (keeps.live refl) keeps.tied is step (λ no. absurd (let it : ⊥ = cc in it)) a.tied in record {
          step = λ told was u here. by_state d' x new (Err Stopped) step told was u here;
          belongs = λ told was. kept.belongs told keeps was;
        }

    closing_survives : SurvivesOnDisc (IsAnsweredBy IsStepOfDump before (Err Stopped)) before (spent_with o' new)
    closing_survives =
        commit_survives (IsAnsweredBy IsStepOfDump before (Err Stopped)) Left before (spent_with o' new) refl
        (record {
          tied = closing.tied;
          live = closing.stopped.live;
          size = closing.causes.size;
          tells = closing.told;
          arms = closing.causes.arms;
          later = closing.causes.later;
          reads_kept = closing.causes.reads_kept (λ no. no);
          rose = closing.causes.writes_rose refl;
          holds = closing.stopped.holds;
          survives = closing.stopped.survives;
        }) closing_is

  by_survives : (d' : DumpFacts) (o' : OnlineFacts) (new : Rack) (answer : Result Stepped StoreFault) → Stepping d o old answer d' o' new → KeepsStore before (behind_step answer d' o' new)
      → SurvivesOnDisc (IsAnsweredBy IsStepOfDump before answer) before (behind_step answer d' o' new)
  by_survives d' o' new (Ok Going) (less, dump_is, same, wrote) kept =
      stays_durable (IsAnsweredBy IsStepOfDump before (Ok Going)) before (up_with o' new (Some d')) refl (λ durable. subst IsDurable (sym same) durable)
  by_survives d' o' new (Ok (Completed n)) (last, number, plan_is, wrote, closing) kept =
      stays_durable (IsAnsweredBy IsStepOfDump before (Ok (Completed n))) before (up_with o' new None) refl closing.ok.durable
  by_survives d' o' new (Err Stopped) (plan_is, inr (last, wrote, closing)) kept = closing_survives d' o' new plan_is last wrote closing
  by_survives d' o' new (Err Stopped) (plan_is, inl (failed, same)) kept =
      rack_survives (IsAnsweredBy IsStepOfDump before (Err Stopped)) before o' new (sym same) (subst IsTied (sym same) keeps.tied) (ap (λ (x : OnlineFacts). x.live) same ∙ keeps.live refl)
      (λ had left durable told may. record {
        step = λ all was u here.
            leads_left o' (subst IsTied (sym same) keeps.tied) (ap (λ (x : OnlineFacts). x.live) same ∙ keeps.live refl) durable had left told may new IsStepOfDump u before (Err Stopped)
            (by_state d' o' new (Err Stopped) (plan_is, inl (failed, same)) all was u here);
        belongs = λ all was.
            belongs_left o' (subst IsTied (sym same) keeps.tied) (ap (λ (x : OnlineFacts). x.live) same ∙ keeps.live refl) durable had left told may new (kept.belongs all keeps was);
      })
  by_survives d' o' new (Err DiscReadFault) (dump_is, same, left) kept =
      stays_durable (IsAnsweredBy IsStepOfDump before (Err DiscReadFault)) before (up_with o' new None) refl (λ durable. subst IsDurable (sym left.facts) durable)
  by_survives d' o' new (Err fault) never kept = absurd never

  -- THE ANSWER
  answers : (d' : DumpFacts) (o' : OnlineFacts) (new : Rack) (answer : Result Stepped StoreFault) → Stepping d o old answer d' o' new → KeepsStore before (behind_step answer d' o' new)
      → StepsDump before answer (behind_step answer d' o' new)
  answers d' o' new answer step kept = record {
    step = λ told was u here. by_state d' o' new answer step told was u here;
    wrote = by_writes d' o' new answer step;
    keeps = kept.store keeps;
    told = kept.told;
    belongs = λ told was. kept.belongs told keeps was;
    spent = by_spent d' o' new answer step;
    survives = by_survives d' o' new answer step kept;
  }

-- the reels are the same ones
abbrev pub AreSameReels : Rack → Rack → Type 0
AreSameReels old new = AllZip (λ (o n : Reel). (n.serial ≡ o.serial) × (n.capacity ≡ o.capacity) × (n.mounted ≡ o.mounted)) old.reels new.reels

same_left : (serial k : ℕ) (how : Remains) (old new : Rack) → new.reels ≡ with_reel serial (left_by how k) old.reels → AreSameReels old new
same_left serial k how old new is = zip_labels old.reels new.reels (labels_changed serial (left_by how k) (label_left how k) old new is)

same_after : (d d' : DumpFacts) (o o' : OnlineFacts) (old new : Rack) (answer : Result Stepped StoreFault) → Stepping d o old answer d' o' new → AreSameReels old new
same_after d d' o o' old new (Ok Going) (less, dump_is, same, wrote) =
    same_left d.plan.serial (d.plan.place + d.done) (Torn wrote.block) old new (ap (λ (r : Rack). r.reels) wrote.rack)
same_after d d' o o' old new (Ok (Completed n)) (last, number, plan_is, wrote, closing) =
    same_left d.plan.serial (d.plan.place + d.done) (Torn wrote.block) old new (ap (λ (r : Rack). r.reels) wrote.rack)
same_after d d' o o' old new (Err Stopped) (plan_is, inl (failed, same)) =
    same_left d.plan.serial (d.plan.place + d.done) failed.how old new (ap (λ (r : Rack). r.reels) failed.rack)
same_after d d' o o' old new (Err Stopped) (plan_is, inr (last, wrote, closing)) =
    same_left d.plan.serial (d.plan.place + d.done) (Torn wrote.block) old new (ap (λ (r : Rack). r.reels) wrote.rack)
same_after d d' o o' old new (Err DiscReadFault) (dump_is, same, left) = zip_labels old.reels new.reels (ap (λ (r : Rack). labels r.reels) same)
same_after d d' o o' old new (Err fault) never = absurd never

-- the store after a step
abbrev pub spends : Result Stepped StoreFault → Bool
spends (Ok step) = false
spends (Err fault) = is_stop_at fault

behind_same : (answer : Result Stepped StoreFault) (d' : DumpFacts) (o' : OnlineFacts) (new : Rack) (dump : Option DumpFacts) (spent : Bool) → LeavesOpen answer d' dump → spent ≡ spends answer
    → behind_step answer d' o' new ≡ record { online = o'; rack = new; dump = dump; spent = spent }
behind_same (Ok Going) d' o' new dump spent left over = λ i. let s : StoreFacts = record { online = o'; rack = new; dump = sym left i; spent = sym over i } in s
behind_same (Ok (Completed n)) d' o' new dump spent left over = λ i. let s : StoreFacts = record { online = o'; rack = new; dump = sym left i; spent = sym over i } in s
behind_same (Err Stopped) d' o' new dump spent left over = λ i. let s : StoreFacts = record { online = o'; rack = new; dump = sym left i; spent = sym over i } in s
behind_same (Err fault) d' o' new dump spent left over = λ i. let s : StoreFacts = record { online = o'; rack = new; dump = sym left i; spent = sym over i } in s

rack_behind : (answer : Result Stepped StoreFault) (d' : DumpFacts) (o' : OnlineFacts) (new : Rack) → (let s = behind_step answer d' o' new in s.rack) ≡ new
rack_behind (Ok Going) d' o' new = refl
rack_behind (Ok (Completed n)) d' o' new = refl
rack_behind (Err Stopped) d' o' new = refl
rack_behind (Err fault) d' o' new = refl

-- A STORE THAT TOOK A STEP, by what the dumper said
module _ (old t : StoreFacts) (same : t ≡ old) (unspent : old.spent ≡ false) (d : DumpFacts) (dump_is : t.dump ≡ Some d) (d' : DumpFacts) (o' : OnlineFacts) (new : Rack)
    (answer : Result Stepped StoreFault) (step : Stepping d t.online t.rack answer d' o' new) (dump : Option DumpFacts) (spent : Bool) (left : LeavesOpen answer d' dump) where
  abbrev after : StoreFacts
  after = record { online = o'; rack = new; dump = dump; spent = spent }

  whole : up_with t.online t.rack (Some d) ≡ old
  whole = (λ i. let s : StoreFacts = record { online = t.online; rack = t.rack; dump = sym dump_is i; spent = sym (ap (λ (x : StoreFacts). x.spent) same ∙ unspent) i } in s) ∙ same

  pub event_by : IsStore t → AreReels t.rack.reels → KeepsStore (up_with t.online t.rack (Some d)) (behind_step answer d' o' new) → spent ≡ spends answer → StepsDump old answer after
  event_by keeps reels kept over =
      subst (λ (x : StoreFacts). StepsDump x answer after) whole
      (subst (λ (x : StoreFacts). StepsDump (up_with t.online t.rack (Some d)) answer x) (behind_same answer d' o' new dump spent left over)
      (answers d t.online t.rack reels (subst IsStore (same ∙ sym whole) keeps) d' o' new answer step kept))

  dumps_by : (keeps : IsStore (up_with t.online t.rack (Some d))) → AreReels t.rack.reels → KeepsDumps (up_with t.online t.rack (Some d)) answer after
  dumps_by keeps reels told was shelf shelved =
      let (text, base, on_base, up) = was.up refl in
      let is = keeps.open_dump refl in
      let (content, has) = the_content d t.online t.rack keeps told is in record {
        dump = d;
        dump_is = refl;
        pins = is.pins;
        pinned = is.pinned;
        content = content;
        content_is = has;
        adds = adds d t.online t.rack reels told text base on_base up is content has shelf shelved d' o' new answer step;
      }

  pub shelves_by : IsStore t → AreReels t.rack.reels → KeepsDumps old answer after
  shelves_by keeps reels = subst (λ (x : StoreFacts). KeepsDumps x answer after) whole (dumps_by (subst IsStore (same ∙ sym whole) keeps) reels)

  -- THE DUMPS STAY SAFE
  leaves_by : (keeps : IsStore (up_with t.online t.rack (Some d))) → KeepsStore (up_with t.online t.rack (Some d)) (behind_step answer d' o' new)
      → LeavesDumps d (up_with t.online t.rack (Some d)) answer (behind_step answer d' o' new) → AreReels t.rack.reels → KeepsDumpsSafe (up_with t.online t.rack (Some d)) answer (behind_step answer d' o' new)
  leaves_by keeps kept leaves reels = record {
    dumps = λ told was safe. kept.dumps told keeps was safe;
    are = reels;
    reels = subst (AreSameReels t.rack) (sym (rack_behind answer d' o' new)) (same_after d d' t.online o' t.rack new answer step);
    left = λ told text shelf shelved up safe.
        let is = keeps.open_dump refl in
        let (content, has) = the_content d t.online t.rack keeps told is in record {
          dump = d;
          dump_is = refl;
          pins = is.pins;
          pinned = is.pinned;
          content = content;
          content_is = has;
          leaves = leaves.left told is text shelf shelved up content has safe;
        };
  }

  pub safe_by : IsStore t → KeepsStore (up_with t.online t.rack (Some d)) (behind_step answer d' o' new)
      → LeavesDumps d (up_with t.online t.rack (Some d)) answer (behind_step answer d' o' new) → AreReels t.rack.reels → spent ≡ spends answer → KeepsDumpsSafe old answer after
  safe_by keeps kept leaves reels over =
      subst (λ (x : StoreFacts). KeepsDumpsSafe x answer after) whole
      (subst (λ (x : StoreFacts). KeepsDumpsSafe (up_with t.online t.rack (Some d)) answer x) (behind_same answer d' o' new dump spent left over)
      (leaves_by (subst IsStore (same ∙ sym whole) keeps) kept leaves reels))
