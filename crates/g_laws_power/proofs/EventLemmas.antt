-- What a power loss leaves after an opening of a dump, a MIGRATE, a mount and an unmount.
-- serves: event_losses (can, process, safe, stopped), DeviceLemmas
use Rattle.std.proofs.Common.{◌≡◌, ℕ, ◌<◌, Bool, true, false, List, [], Option, Some, None, Ok, Err, refl, sym, ◌∙◌, ap, arith, subst, inl, inr, option_map}
use Rattle.std.specs.Prelude.{◌⊎◌, IfSome, Result}
use Rattle.std.proofs.lemmas.Bool.{cases_eq}
use Rattle.g_tape.specs.Rack.{Rack, changed, reel}
use Rattle.g_tape.specs.Reads.{LeavesNoMore, OnlyReads, blocks_in, blocks_of}
use Rattle.g_tape.specs.Reel.{Reel, with_mounted}
use Rattle.g_tape.proofs.ReadLemmas.{reel-with_reel, reel-with_reel_other}
use Rattle.g_plain.specs.declared.faults.StoreFault.{StoreFault}
use Rattle.g_plain.specs.declared.faults.StoreFault.TheVariants.{Stopped}
use Rattle.g_plain.specs.PlainTree.{input_name}
use Rattle.g_plain.proofs.Found.{some_of}
use Rattle.g_shelf.specs.Surviving.{DumpsSurvive, IsBegunDurably}
use Rattle.g_shelf.proofs.SurvivingLemmas.{begun_reads, survive_reads}
use Rattle.g_store_model.specs.State.{Holding, State}
use Rattle.g_store_model.specs.CallStep.{Outcome}
use Rattle.g_store_model.specs.DumpSteps.{MigrateStep, MountStep, OpenStep, UnmountStep}
use Rattle.g_store_meaning.specs.Belonging.{BelongWith}
use Rattle.g_store_meaning.specs.Meaning.{told_reels}
use Rattle.g_store_meaning.specs.Reading.{StandsForState}
use Rattle.g_store_meaning.specs.StoreInvariant.{DumpFacts, StoreFacts}
use Rattle.g_store_meaning.specs.Surviving.{disc_left, with_disc_left}
use Rattle.g_process.specs.Processing.{Processes}
use Rattle.g_store.specs.Dumping.{OpensDump}
use Rattle.g_store.specs.Events.{AnswersEvent, IsAnsweredBy, Opens}
use Rattle.g_store.specs.Refusing.{DoneOr, mount_refuses, unmount_refuses}
use Rattle.g_laws_power.specs.Events.{EventsKeepSafe, ProcessKeepsSafe, StoppedCanBeSafe, StoppedEventsSurvive, StopsLikeBy}
use Rattle.g_store_meaning.specs.Safety.{CanBeSafe, IsLeft, IsSafe}
use Rattle.g_laws_power.proofs.LeftLemmas.{belong_left, stand_left}
use Rattle.g_laws_power.proofs.ProcessLossLemmas.{process_stopped}
use Rattle.g_laws_power.proofs.SurvivalLemmas.{can_again, spent_view, still_begun, survive_call}

abbrev By : Type 0 → Type 1
By A = State → Holding → Outcome → Result A StoreFault → State → Type 0

-- A STORE THAT STAYS UP
module _ {A : Type 0} (by : By A) (count : A → ℕ) (old new : StoreFacts) (answer : Result A StoreFault) (safe : IsSafe old) (answers : AnswersEvent by count old answer new) (isnt : answer ≡ Err Stopped → ⊥)
    (survive : (n : ℕ) → DumpsSurvive n new.rack) (open_dump : IfSome new.dump (λ d. 0 < d.done → IsBegunDurably d.plan.serial d.plan.place d.done new.rack)) where
  unspent : (b : Bool) → new.spent ≡ b → new.spent ≡ false
  unspent true is = absurd (isnt (answers.spent.0 is))
  unspent false is = is

  pub stays_safe : IsSafe new
  stays_safe = let up = unspent new.spent refl in record {
    told = answers.told safe.told;
    store = answers.keeps;
    up = up;
    belongs = answers.belongs safe.told safe.belongs;
    disc = answers.survives.up up safe.disc;
    dumps = record { up = λ _. survive; can = λ n. inl (survive n); open_dump = λ _. open_dump };
  }

-- A STORE THAT WAS STOPPED, and whose reels were only read
module _ {A : Type 0} (by : By A) (count : A → ℕ) (old new : StoreFacts) (safe : IsSafe old) (answers : AnswersEvent by count old (Err Stopped) new) (only : OnlyReads old.rack new.rack)
    (blocks : List (List ℕ)) (rack : Rack) (left : IsLeft new.online.disc new.rack blocks rack) where
  abbrev cut : StoreFacts
  cut = with_disc_left blocks new

  spent : new.spent ≡ true
  spent = answers.spent.1 refl

  answered : IsAnsweredBy by old (Err Stopped) cut
  answered = let (had, at) = some_of old.online.disc.held safe.told.disc in answers.survives.left spent safe.disc had at blocks left.on_disc

  pub event_survives : BelongWith (Some blocks) (told_reels rack) × ((s : State) → StandsForState old s → StopsLikeBy by s new.online.disc.size blocks rack)
  event_survives = (
    belong_left new.rack rack left.reels (answers.told safe.told).each (survive_call old new safe only) (Some blocks) (answered.belongs safe.told safe.belongs).devices,
    λ s here. let leads = answered.step safe.told safe.belongs s here in record {
      held = leads.held;
      holds = leads.holds;
      outcome = leads.outcome;
      after = leads.after;
      step = leads.step;
      stand = stand_left new.rack rack left.reels (answers.told safe.told).each (survive_call old new safe only) new.online.disc.size blocks leads.after (spent_view cut leads.after spent leads.left);
    },
  )

-- A REEL THAT IS MOUNTED OR UNMOUNTED keeps its blocks
module _ (s : ℕ) (is : Bool) (old : Rack) where
  pub same_blocks : (n : ℕ) → blocks_of n (changed s (with_mounted is) old) ≡ blocks_of n old
  same_blocks n = by (cases_eq n s)
    where
      mounted_blocks : (o : Option Reel) → blocks_in (option_map (with_mounted is) o) ≡ blocks_in o
      mounted_blocks None = refl
      mounted_blocks (Some r) = refl

      by : (n ≡ s) ⊎ (n ≡ s → ⊥) → blocks_of n (changed s (with_mounted is) old) ≡ blocks_of n old
      by (inl same) = subst (λ (m : ℕ). blocks_of m (changed s (with_mounted is) old) ≡ blocks_of m old) (sym same)
          (ap blocks_in (reel-with_reel s (with_mounted is) (λ r. refl) old.reels) ∙ mounted_blocks (reel s old.reels))
      by (inr apart) = ap blocks_in (reel-with_reel_other s n (with_mounted is) (λ r. refl) (λ e. apart (sym e)) old.reels)

  pub no_more : LeavesNoMore old (changed s (with_mounted is) old)
  no_more = record { leaves = λ n left may blocks at. may blocks (same_blocks n ∙ at); syncable = λ n able. able }

  mounted_safe : {A : Type 0} (by : By A) (count : A → ℕ) (store : StoreFacts) (answer : Result A StoreFault) → store.rack ≡ old → IsSafe store
      → AnswersEvent by count store answer (record store { rack = changed s (with_mounted is) old }) → (answer ≡ Err Stopped → ⊥) → IsSafe (record store { rack = changed s (with_mounted is) old })
  mounted_safe by count store answer at safe answers isnt =
      stays_safe by count store (record store { rack = changed s (with_mounted is) old }) answer safe answers isnt
      (λ n. survive_reads n old (changed s (with_mounted is) old) no_more (same_blocks n) (subst (DumpsSurvive n) at (safe.dumps.up safe.up n)))
      (by_dump store.dump (subst (λ (r : Rack). IfSome store.dump (λ d. 0 < d.done → IsBegunDurably d.plan.serial d.plan.place d.done r)) at (safe.dumps.open_dump safe.up)))
    where
      by_dump : (dump : Option DumpFacts) → IfSome dump (λ d. 0 < d.done → IsBegunDurably d.plan.serial d.plan.place d.done old)
          → IfSome dump (λ d. 0 < d.done → IsBegunDurably d.plan.serial d.plan.place d.done (changed s (with_mounted is) old))
      by_dump None begun = tt
      by_dump (Some d) begun = λ some. begun_reads d.plan.serial d.plan.place d.done old (changed s (with_mounted is) old) no_more (same_blocks d.plan.serial) (begun some)

  -- done, or refused with nothing changed
  mounting_safe : (by : By (Unit {0})) (count : Unit {0} → ℕ) (store new : StoreFacts) (answer : Result (Unit {0}) StoreFault) (refusal : Option StoreFault) → store.rack ≡ old → IsSafe store
      → AnswersEvent by count store answer new → DoneOr refusal (record store { rack = changed s (with_mounted is) old }) store answer new → IsSafe new
  mounting_safe by count store new (Ok u) refusal at safe answers (free, same) =
      subst IsSafe (sym same)
      (mounted_safe by count store (Ok u) at safe (subst (AnswersEvent by count store (Ok u)) same answers) (λ e. let no : ⊥ = cc in no))
  mounting_safe by count store new (Err fault) refusal at safe answers (refused, same) = subst IsSafe (sym same) safe

-- AN OPENING begins a dump of which no block is written
opened_begun : (serial : ℕ) (old new : StoreFacts) (answer : Result ℕ StoreFault) → IsSafe old → Opens serial old answer new → OpensDump serial old answer new → (answer ≡ Err Stopped → ⊥)
    → IfSome new.dump (λ d. 0 < d.done → IsBegunDurably d.plan.serial d.plan.place d.done new.rack)
opened_begun serial old new (Ok n) safe opens opened isnt =
    subst (λ (x : Option DumpFacts). IfSome x (λ d. 0 < d.done → IsBegunDurably d.plan.serial d.plan.place d.done new.rack)) (sym opened.dump_is)
    (λ some. absurd (let none : opened.dump.done ≡ 0 = ap (λ (d : DumpFacts). d.done) opened.begins.dump in let no : ⊥ = omega (arith, some, none) in no))
opened_begun serial old new (Err fault) safe opens opened isnt =
    subst (λ (x : Option DumpFacts). IfSome x (λ d. 0 < d.done → IsBegunDurably d.plan.serial d.plan.place d.done new.rack))
    (sym (opens.dump fault refl (λ is. isnt (ap (λ (f : StoreFault). let r : Result ℕ StoreFault = Err f in r) is))))
    (still_begun old.rack new.rack opens.cause.tapes old.dump (safe.dumps.open_dump safe.up))

pub events_keep_safe : EventsKeepSafe
events_keep_safe = record {
  opening = λ serial old new answer safe opens opened isnt.
      stays_safe (λ s k o a n. OpenStep s k serial o a n) (λ number. 1) old new answer safe opens.event isnt (survive_call old new safe opens.cause.tapes) (opened_begun serial old new answer safe opens opened isnt);
  migrating = λ path old new answer safe migrates isnt.
      stays_safe (λ s k o a n. MigrateStep s k path.user (input_name k.tree [] path) o a n) (λ full. 1) old new answer safe migrates.event isnt (survive_call old new safe migrates.cause.tapes)
      (subst (λ (x : Option DumpFacts). IfSome x (λ d. 0 < d.done → IsBegunDurably d.plan.serial d.plan.place d.done new.rack)) (sym (migrates.dump isnt))
      (still_begun old.rack new.rack migrates.cause.tapes old.dump (safe.dumps.open_dump safe.up)));
  mounting = λ serial old new answer safe mounts.
      mounting_safe serial true old.rack (λ s k o a n. MountStep s serial a n) (λ reply. 0) old new answer (mount_refuses serial old) refl safe mounts.event mounts.exact;
  unmounting = λ serial old new answer safe unmounts.
      mounting_safe serial false old.rack (λ s k o a n. UnmountStep s serial a n) (λ reply. 0) old new answer (unmount_refuses serial old) refl safe unmounts.event unmounts.exact;
}

pub stopped_events_survive : StoppedEventsSurvive
stopped_events_survive = record {
  opening = λ serial old new blocks rack safe opens left. event_survives (λ s k o a n. OpenStep s k serial o a n) (λ number. 1) old new safe opens.event opens.cause.tapes blocks rack left;
  migrating = λ path old new blocks rack safe migrates left.
      event_survives (λ s k o a n. MigrateStep s k path.user (input_name k.tree [] path) o a n) (λ full. 1) old new safe migrates.event migrates.cause.tapes blocks rack left;
}

-- WHAT A STOPPED EVENT LEFT can be safe again
module _ {A : Type 0} (by : By A) (count : A → ℕ) (old new : StoreFacts) (safe : IsSafe old) (answers : AnswersEvent by count old (Err Stopped) new) (only : OnlyReads old.rack new.rack) where
  pub stopped_can : CanBeSafe new.online.disc new.rack
  stopped_can = record {
    told = answers.told safe.told;
    belong = (answers.belongs safe.told safe.belongs).devices;
    disc_safe = answers.survives.safe (answers.spent.1 refl) safe.disc;
    dumps = λ serial. inl (survive_call old new safe only serial);
    blank = λ _. survive_call old new safe only;
  }

  pub left_can : (blocks : List (List ℕ)) (rack : Rack) → IsLeft new.online.disc new.rack blocks rack → CanBeSafe (disc_left blocks new.online.disc) rack
  left_can blocks rack left = can_again new blocks rack (answers.told safe.told) (survive_call old new safe only) left (event_survives by count old new safe answers only blocks rack left).0

pub stopped_can_be_safe : StoppedCanBeSafe
stopped_can_be_safe = record {
  opening = λ serial old new blocks rack safe opens left. left_can (λ s k o a n. OpenStep s k serial o a n) (λ number. 1) old new safe opens.event opens.cause.tapes blocks rack left;
  migrating = λ path old new blocks rack safe migrates left.
      left_can (λ s k o a n. MigrateStep s k path.user (input_name k.tree [] path) o a n) (λ full. 1) old new safe migrates.event migrates.cause.tapes blocks rack left;
  opening_alone = λ serial old new safe opens. stopped_can (λ s k o a n. OpenStep s k serial o a n) (λ number. 1) old new safe opens.event opens.cause.tapes;
  migrating_alone = λ path old new safe migrates. stopped_can (λ s k o a n. MigrateStep s k path.user (input_name k.tree [] path) o a n) (λ full. 1) old new safe migrates.event migrates.cause.tapes;
}

-- PROCESS
pub process_keeps_safe : ProcessKeepsSafe
process_keeps_safe = record {
  safe = λ serial old new answer safe it isnt.
      let up = unspent_after old new answer it isnt new.spent refl in record {
        told = it.told safe.told;
        store = it.keeps;
        up = up;
        belongs = it.belongs safe.told safe.belongs;
        disc = it.durable up safe.disc;
        dumps = it.dumps safe.told safe.belongs safe.dumps;
      };
  stop = λ serial old new safe it. (process_stopped serial old new safe it).now;
}
  where
    unspent_after : {serial : ℕ} (old new : StoreFacts) (answer : Result ℕ StoreFault) → Processes serial old answer new → (answer ≡ Err Stopped → ⊥) → (b : Bool) → new.spent ≡ b → new.spent ≡ false
    unspent_after old new answer it isnt true is = absurd (isnt (it.spent.0 is))
    unspent_after old new answer it isnt false is = is
