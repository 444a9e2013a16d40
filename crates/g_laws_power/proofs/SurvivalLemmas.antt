-- What a power loss leaves of a store between two calls, and after a call that was stopped.
-- serves: power_losses (between, can, left, making, safe, stopped), DeviceLemmas, EventLemmas, ProcessLossLemmas, StepLemmas, StepStateLemmas
use Rattle.std.proofs.Common.{◌≡◌, ℕ, ◌<◌, Bool, true, false, List, Option, Some, None, Err, is_some, refl, sym, ap, subst, inl, true≢false}
use Rattle.std.specs.Prelude.{IfSome}
use Rattle.std.proofs.lemmas.List.Elements.{All-weaker}
use Rattle.std.proofs.lemmas.Option.{same_Some}
use Rattle.g_disc.specs.Durable.{MayLeave}
use Rattle.g_tape.specs.Rack.{Rack}
use Rattle.g_tape.specs.Reads.{OnlyReads}
use Rattle.g_tape.specs.Reel.{Reel}
use Rattle.g_tape.proofs.ReadLemmas.{blocks_after_reads}
use Rattle.g_plain.specs.declared.calls.StoreCall.{StoreCall}
use Rattle.g_plain.specs.declared.faults.StoreFault.TheVariants.{Stopped}
use Rattle.g_plain.proofs.Found.{some_of}
use Rattle.g_disc_contents.specs.Contents.{Contents, File, Holds}
use Rattle.g_disc_contents.proofs.HoldLemmas.{holds_one}
use Rattle.g_shelf.specs.Surviving.{CanSurvive, DumpsSurvive, IsBegunDurably}
use Rattle.g_shelf.proofs.SurvivingLemmas.{begun_reads, durable_dumps, survive_reads}
use Rattle.g_store_model.specs.State.{State}
use Rattle.g_store_model.specs.CallStep.{CallStep, down}
use Rattle.g_store_meaning.specs.Answers.{Answers, IsAnswered, Told}
use Rattle.g_store_meaning.specs.Belonging.{BelongWith, DiscBelongs}
use Rattle.g_store_meaning.specs.Meaning.{told_reels}
use Rattle.g_store_meaning.specs.Reading.{AllTold, DevicesStandFor, HasText, IsView, StandsForState, View, state_up}
use Rattle.g_store_meaning.specs.StoreInvariant.{DumpFacts, StoreFacts}
use Rattle.g_store_meaning.specs.Surviving.{AreDumpsSafe, DumpsMadeSafe, disc_left, with_disc_left}
use Rattle.g_store_meaning.proofs.SafeLemmas.{safe_then_read}
use Rattle.g_store_meaning.proofs.ViewLemmas.{Stands, to}
use Rattle.g_laws_store.proofs.TiedLemmas.{holds_after_loss}
use Rattle.g_store_meaning.specs.Safety.{CanBeSafe, IsLeft, IsSafe}
use Rattle.g_laws_power.specs.Losses.{CallsKeepSafe, LeftCanBeSafe, LeftIsDurable, MakingIsSafe, StoppedCallsSurvive, StopsLike, StoreSurvives}
use Rattle.g_laws_power.proofs.LeftLemmas.{belong_left, stand_left, told_left}

-- THE STATE of a store that is up, and that of one that was stopped
up_view : (s : StoreFacts) (u : State) → s.spent ≡ false → StandsForState s u
    → (v : View) × IsView s.online.disc.held (told_reels s.rack) s.online.contents v × (u ≡ state_up v (told_reels s.rack) s.online s.dump)
unfolding Stands
up_view s u unspent here =
    let is : Stands false s.online s.dump u (told_reels s.rack) =
    subst (λ (b : Bool). Stands b s.online s.dump u (told_reels s.rack)) unspent (to s.spent s.online s.dump u s.rack here) in
    let (v, view, opened, same) = is in (v, view, same)

pub spent_view : (s : StoreFacts) (u : State) → s.spent ≡ true → StandsForState s u → DevicesStandFor s.online.disc.size s.online.disc.held (told_reels s.rack) u
unfolding Stands
spent_view s u spent here =
    let is : Stands true s.online s.dump u (told_reels s.rack) =
    subst (λ (b : Bool). Stands b s.online s.dump u (told_reels s.rack)) spent (to s.spent s.online s.dump u s.rack here) in is

-- a view depends on the disc only by whether its blocks are exposed
view_on : (held now : Option (List (List ℕ))) (reels : List Reel) (c : Contents) (v : View) → is_some held ≡ true → is_some now ≡ true → IsView held reels c v → IsView now reels c v
view_on held now reels c v exposed exposed_now is = record {
  rack = record {
    shelved = is.rack.shelved;
    all = is.rack.all;
    dumped = λ told. is.rack.dumped (record { disc = exposed; each = told.each });
    none = λ told empty. is.rack.none (record { disc = exposed; each = told.each }) empty;
  };
  files = All-weaker (λ (f : File). HasText (AllTold held reels) (v.text f.rec.stamp) v.dumps f) (λ (f : File). HasText (AllTold now reels) (v.text f.rec.stamp) v.dumps f)
      (λ f has. record { len = has.len; bytes = has.bytes; tape = λ told. has.tape (record { disc = exposed; each = told.each }) }) c.files is.files;
}

-- BETWEEN TWO CALLS
module _ (s : StoreFacts) (blocks : List (List ℕ)) (safe : IsSafe s) (may : MayLeave s.online.disc blocks) where
  -- what the disc holds then
  pub holds_left : Holds blocks s.online.contents
  holds_left =
      let (had, at) = some_of s.online.disc.held safe.told.disc in
      holds_after_loss s.online safe.store.tied (safe.store.live safe.up) safe.disc had at blocks may

  belongs_before : BelongWith (Some blocks) (told_reels s.rack)
  belongs_before =
      let (text, shelf, shelved, up) = safe.belongs.up safe.up in record {
        text = text;
        shelf = shelf;
        shelved = shelved;
        rack = up.rack;
        disc = λ bs c is has.
            subst (DiscBelongs text shelf (told_reels s.rack)) (holds_one bs s.online.contents c (subst (λ (x : List (List ℕ)). Holds x s.online.contents) (same_Some blocks bs is) holds_left) has) up.disc;
      }

  down_before : (u : State) → StandsForState s u → DevicesStandFor s.online.disc.size (Some blocks) (told_reels s.rack) (down u)
  down_before u here =
      let (v, view, same) = up_view s u safe.up here in
      let now = view_on s.online.disc.held (Some blocks) (told_reels s.rack) s.online.contents v safe.told.disc refl view in record {
        view = v;
        contents = Some s.online.contents;
        is = (blocks, refl, holds_left, now);
        none = λ no. absurd (true≢false no);
        rack = now.rack;
        state_is = ap down same;
      }

pub store_survives : StoreSurvives
store_survives s blocks rack safe left = (
  belong_left s.rack rack left.reels safe.told.each (safe.dumps.up safe.up) (Some blocks) (belongs_before s blocks safe left.on_disc),
  λ u here. stand_left s.rack rack left.reels safe.told.each (safe.dumps.up safe.up) s.online.disc.size blocks (down u) (down_before s blocks safe left.on_disc u here),
)

-- AFTER A CALL: the reels were only read
pub survive_call : (old new : StoreFacts) → IsSafe old → OnlyReads old.rack new.rack → (n : ℕ) → DumpsSurvive n new.rack
survive_call old new safe only n = survive_reads n old.rack new.rack only.durable (blocks_after_reads n old.rack new.rack only) (safe.dumps.up safe.up n)

-- that was stopped
module _ (old new : StoreFacts) (who : List ℕ) (call : StoreCall) (blocks : List (List ℕ)) (rack : Rack) (safe : IsSafe old) (answers : Answers old who call (Err Stopped) new) (left : IsLeft new.online.disc new.rack blocks rack) where
  abbrev cut : StoreFacts
  cut = with_disc_left blocks new

  spent : new.spent ≡ true
  spent = answers.spent.1 refl

  answered : IsAnswered old who call (Err Stopped) cut
  answered = let (had, at) = some_of old.online.disc.held safe.told.disc in answers.survives.left spent safe.disc had at blocks left.on_disc

  stops : (s : State) → StandsForState old s → StopsLike s who call new.online.disc.size blocks rack
  stops s here =
      let from = answered.step (λ _. safe.belongs) s here in
      let leads = from.steps safe.told in
      let same = from.told safe.told in record {
        held = leads.held;
        holds = subst (λ (t : State). t.holding ≡ Some leads.held) same leads.holds;
        outcome = leads.outcome;
        after = leads.after;
        step = subst (λ (t : State). CallStep t leads.held who call leads.outcome (Err Stopped) leads.after) same leads.step;
        stand = stand_left new.rack rack left.reels (answers.told safe.told).each (survive_call old new safe answers.cause.tapes) new.online.disc.size blocks leads.after
            (spent_view cut leads.after spent leads.left);
      }

  pub call_survives : BelongWith (Some blocks) (told_reels rack) × ((s : State) → StandsForState old s → StopsLike s who call new.online.disc.size blocks rack)
  call_survives = (
    belong_left new.rack rack left.reels (answers.told safe.told).each (survive_call old new safe answers.cause.tapes) (Some blocks) (answered.belongs safe.told safe.belongs).devices,
    stops,
  )

pub stopped_calls_survive : StoppedCallsSurvive
stopped_calls_survive old new who call blocks rack safe answers left = call_survives old new who call blocks rack safe answers left

-- that wasn't
pub still_begun : (old new : Rack) → OnlyReads old new → (dump : Option DumpFacts) → IfSome dump (λ d. 0 < d.done → IsBegunDurably d.plan.serial d.plan.place d.done old)
    → IfSome dump (λ d. 0 < d.done → IsBegunDurably d.plan.serial d.plan.place d.done new)
still_begun old new only None is = tt
still_begun old new only (Some d) is = λ some. begun_reads d.plan.serial d.plan.place d.done old new only.durable (blocks_after_reads d.plan.serial old new only) (is some)

pub calls_keep_safe : CallsKeepSafe
calls_keep_safe old new who call answer safe answers isnt =
    let up = unspent new.spent refl in record {
      told = answers.told safe.told;
      store = answers.keeps;
      up = up;
      belongs = answers.belongs safe.told safe.belongs;
      disc = answers.survives.up up safe.disc;
      dumps = record {
        up = λ _. survive_call old new safe answers.cause.tapes;
        can = λ n. inl (survive_call old new safe answers.cause.tapes n);
        open_dump = λ _.
            subst (λ (x : Option DumpFacts). IfSome x (λ d. 0 < d.done → IsBegunDurably d.plan.serial d.plan.place d.done new.rack)) (sym (answers.dump isnt))
            (still_begun old.rack new.rack answers.cause.tapes old.dump (safe.dumps.open_dump safe.up));
      };
    }
  where
    unspent : (b : Bool) → new.spent ≡ b → new.spent ≡ false
    unspent true is = absurd (isnt (answers.spent.0 is))
    unspent false is = is

-- WHAT IS LEFT is durable
pub left_is_durable : LeftIsDurable
left_is_durable s blocks rack left = (
  λ held at side names. record { slot = λ k within. refl; files = λ e stands k within. refl },
  λ serial. durable_dumps serial rack (left.reels.durable serial),
)

-- what is left can be safe again
pub can_again : (s : StoreFacts) (blocks : List (List ℕ)) (rack : Rack) → Told s → ((n : ℕ) → DumpsSurvive n s.rack) → IsLeft s.online.disc s.rack blocks rack → BelongWith (Some blocks) (told_reels rack)
    → CanBeSafe (disc_left blocks s.online.disc) rack
can_again s blocks rack told survive left belong = record {
  told = record { disc = refl; each = told_left s.rack rack left.reels told.each survive };
  belong = belong;
  disc_safe = (left_is_durable s blocks rack left).0;
  dumps = λ serial. inl ((left_is_durable s blocks rack left).1 serial);
  blank = λ _. (left_is_durable s blocks rack left).1;
}

pub left_can_be_safe : LeftCanBeSafe
left_can_be_safe = record {
  between = λ s blocks rack safe left. can_again s blocks rack safe.told (safe.dumps.up safe.up) left (store_survives s blocks rack safe left).0;
  stopped = λ old new who call blocks rack safe answers left.
      can_again new blocks rack (answers.told safe.told) (survive_call old new safe answers.cause.tapes) left (call_survives old new who call blocks rack safe answers left).0;
  stop = λ old new who call safe answers. record {
    told = answers.told safe.told;
    belong = (answers.belongs safe.told safe.belongs).devices;
    disc_safe = answers.survives.safe (answers.spent.1 refl) safe.disc;
    dumps = λ serial. inl (survive_call old new safe answers.cause.tapes serial);
    blank = λ _. survive_call old new safe answers.cause.tapes;
  };
}

-- A STORE THAT IS MADE of it is safe
made_dumps : (rack : Rack) (new : StoreFacts) → new.dump ≡ None → ((serial : ℕ) → CanSurvive serial rack) → DumpsMadeSafe rack new.rack → AreDumpsSafe new
made_dumps rack new none can made = record {
  up = λ _ serial. made serial (can serial);
  can = λ serial. inl (made serial (can serial));
  open_dump = λ _. subst (λ (x : Option DumpFacts). IfSome x (λ d. 0 < d.done → IsBegunDurably d.plan.serial d.plan.place d.done new.rack)) (sym none) tt;
}

pub making_is_safe : MakingIsSafe
making_is_safe = record {
  start = λ disc rack adopted new can begun made.
      let makes = begun.makes in
      let (had, at) = some_of disc.held can.told.disc in record {
        told = makes.told can.told;
        store = makes.keeps;
        up = makes.running;
        belongs = makes.belongs can.told can.belong;
        disc = begun.durable had at can.disc_safe;
        dumps = made_dumps rack new makes.no_dump can.dumps made;
      };
  restore = λ disc rack number new can restored made.
      let makes = restored.makes in record {
        told = makes.told can.told;
        store = makes.keeps;
        up = makes.running;
        belongs = makes.belongs can.told can.belong;
        disc = restored.durable;
        dumps = made_dumps rack new makes.no_dump can.dumps made;
      };
  format = λ disc rack new told disc_safe survive formats.
      let makes = formats.makes in record {
        told = makes.told told;
        store = makes.keeps;
        up = makes.running;
        belongs = makes.belongs told tt;
        disc = formats.durable;
        dumps = made_dumps rack new makes.no_dump (λ serial. inl (survive serial)) (safe_then_read rack rack new.rack (λ serial _. survive serial) makes.tapes);
      };
}
