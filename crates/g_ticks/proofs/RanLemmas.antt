-- What a turn's calls leave unchanged, whether or not the devices expose their contents; that they leave safe devices; and
-- which reels a state has mounted.
-- serves: job_steps, take_turn, FallLemmas, KeptLemmas, RestLemmas, StoppedCallLemmas, TakenLemmas, TurningLemmas
use Rattle.std.proofs.Common.{◌≡◌, ◌⊎◌, ℕ, true, false, List, [], ◌∷◌, None, Err, refl, sym, ◌∙◌, ap, subst, inl, inr}
use Rattle.std.proofs.lemmas.Bool.{false≢true}
use Rattle.g_turn.specs.Causes.{IsHonest, IsOther, StopsAt}
use Rattle.g_turn.specs.State.{Broken, Stop, Waits, Work}
use Rattle.g_plain.specs.Programs.{Answer, Asks, Call, Gives, RanInPart}
use Rattle.g_plain.specs.Runs.{RanBy}
use Rattle.g_plain.specs.declared.calls.StoreCall.{StoreCall}
use Rattle.g_plain.specs.declared.faults.StoreFault.TheVariants.{NoMemory, Stopped, WaitTape}
use Rattle.g_store_meaning.specs.Answers.{Answers, Belongs, Told}
use Rattle.g_store_meaning.specs.Meaning.{told_reels}
use Rattle.g_store_meaning.specs.Reading.{StandsForState, View, state_up}
use Rattle.g_store_meaning.specs.Safety.{AreSafe, IsSafe}
use Rattle.g_store_meaning.specs.StoreInvariant.{StoreFacts}
use Rattle.g_store_model.specs.State as state
use Rattle.g_store_model.specs.State.{State}
use Rattle.g_store.proofs.MountLemmas.{mounted_by}
use Rattle.g_store_calls.proofs.CallLemmas.{same_mounts}
use Rattle.g_store_calls.proofs.SeenLemmas.{seen}
use Rattle.g_laws_power.proofs.DeviceLemmas.{stops_leave_safe}
use Rattle.g_laws_power.proofs.SurvivalLemmas.{calls_keep_safe}
use Rattle.g_tape.specs.Rack.{is_mounted, reel}
use Rattle.g_day.specs.System.{SameDevices, Up, devices_in}
use Rattle.g_day.proofs.CauseLemmas.{same_caused}
use Rattle.g_day.proofs.LabelLemmas.{same_itself, same_then}
use Rattle.g_day.proofs.UpLemmas.{not_spent}

-- the store stays on devices of the same sizes, which weren't armed, and the disc's fault counters didn't fall; the same
-- reels are mounted, and they hold the same; and disc and rack still belong together
pub record StaysOver (old new : StoreFacts) : Type 0 where
  pub same : SameDevices (devices_in (Up old)) (devices_in (Up new))
  pub disc_arms : new.online.disc.arms ≡ old.online.disc.arms
  pub tape_arms : new.rack.arms ≡ old.rack.arms
  pub mounted : (serial : ℕ) → is_mounted (reel serial new.rack.reels) ≡ is_mounted (reel serial old.rack.reels)
  pub held : told_reels new.rack ≡ told_reels old.rack
  pub told : Told old → Told new
  pub belongs : Told old → Belongs old → Belongs new

pub stays_itself : (s t : StoreFacts) → t ≡ s → StaysOver s t
stays_itself s t is = subst (λ (x : StoreFacts). StaysOver s x) (sym is)
    (record { same = same_itself (devices_in (Up s)); disc_arms = refl; tape_arms = refl; mounted = λ serial. refl; held = refl; told = λ told. told; belongs = λ told belongs. belongs })

stays_then : (s t u : StoreFacts) → StaysOver s t → StaysOver t u → StaysOver s u
stays_then s t u one more = record {
  same = same_then (devices_in (Up s)) (devices_in (Up t)) (devices_in (Up u)) one.same more.same;
  disc_arms = more.disc_arms ∙ one.disc_arms;
  tape_arms = more.tape_arms ∙ one.tape_arms;
  mounted = λ serial. more.mounted serial ∙ one.mounted serial;
  held = more.held ∙ one.held;
  told = λ told. more.told (one.told told);
  belongs = λ told belongs. more.belongs (one.told told) (one.belongs told belongs);
}

call_stays : (old new : StoreFacts) (who : List ℕ) (call : StoreCall) (answer : Answer) → Answers old who call answer new → StaysOver old new
call_stays old new who call answer is = record {
  same = same_caused answer (devices_in (Up old)) (devices_in (Up new)) is.cause.disc is.cause.tapes;
  disc_arms = is.cause.disc.arms;
  tape_arms = is.cause.tapes.arms;
  mounted = λ serial. same_mounts old.rack new.rack is.cause.tapes serial;
  held = is.cause.tapes.reels;
  told = is.told;
  belongs = is.belongs;
}

-- if it wasn't stopped, the open dump is unchanged
stopped_at : (who : List ℕ) (stop : Stop) (p : Asks Work) → StopsAt stop p → (told : List Answer) (old : StoreFacts) (given : Work) (new : StoreFacts) → RanBy Answers who old p told given new → new ≡ old
stopped_at who stop (Gives x) s [] old given new r = r.1
stopped_at who stop (Gives x) s (a ∷ told) old given new r = absurd r
stopped_at who stop (Call call more) s told old given new r = absurd s

-- a wait, a stop, or another answer
abbrev pub KindOf : Answer → Type 0
KindOf a = ((serial : ℕ) × (a ≡ Err (WaitTape serial))) ⊎ ((a ≡ Err Stopped) ⊎ (IsOther a × (a ≡ Err Stopped → ⊥)))

pub kind_of : (a : Answer) → KindOf a
kind_of (Err (WaitTape serial)) = inl (serial, refl)
kind_of (Err Stopped) = inr (inl refl)
kind_of a = inr (inr (tt, λ e. let no : ⊥ = cc in no))

pub no_stop : (a : Answer) (serial : ℕ) → a ≡ Err (WaitTape serial) → a ≡ Err Stopped → ⊥
no_stop a serial waits stops = let no : ⊥ = cc in no

call_dump : (who : List ℕ) (call : StoreCall) (more : Answer → Asks Work) → IsHonest (Call call more) → (a : Answer) (told : List Answer) (old mid : StoreFacts) (given : Work) (new : StoreFacts)
    → Answers old who call a mid → RanBy Answers who mid (more a) told given new → new.spent ≡ false → (IsOther a → new.dump ≡ mid.dump) → KindOf a → new.dump ≡ old.dump
call_dump who call more h a told old mid given new is rest unspent again (inl (serial, waits)) =
    let stop : StopsAt (Waits serial) (more a) = subst (λ (x : Answer). StopsAt (Waits serial) (more x)) (sym waits) (h.0 serial) in
    ap (λ (s : StoreFacts). s.dump) (stopped_at who (Waits serial) (more a) stop told mid given new rest) ∙ is.dump (no_stop a serial waits)
call_dump who call more h a told old mid given new is rest unspent again (inr (inl stops)) =
    let stop : StopsAt Broken (more a) = subst (λ (x : Answer). StopsAt Broken (more x)) (sym stops) h.1 in
    let same : new ≡ mid = stopped_at who Broken (more a) stop told mid given new rest in
    absurd (false≢true (sym unspent ∙ ap (λ (s : StoreFacts). s.spent) same ∙ is.spent.1 stops))
call_dump who call more h a told old mid given new is rest unspent again (inr (inr other)) = again other.0 ∙ is.dump other.1

pub dump_stays : (who : List ℕ) (p : Asks Work) → IsHonest p → (told : List Answer) (old : StoreFacts) (given : Work) (new : StoreFacts) → RanBy Answers who old p told given new → new.spent ≡ false → new.dump ≡ old.dump
dump_stays who (Gives x) h [] old given new r unspent = ap (λ (s : StoreFacts). s.dump) r.1
dump_stays who (Gives x) h (a ∷ told) old given new r unspent = absurd r
dump_stays who (Call call more) h [] old given new r unspent = absurd r
dump_stays who (Call call more) h (a ∷ told) old given new r unspent =
    call_dump who call more h a told old r.0 given new r.1 r.3 unspent (λ other. dump_stays who (more a) (h.2 a other) told r.0 given new r.3 unspent) (kind_of a)

-- SAFE DEVICES: the store is safe afterwards if it wasn't stopped; if it was, its devices are
pub record StaysSafe (old new : StoreFacts) : Type 0 where
  pub up : IsSafe old → new.spent ≡ false → IsSafe new
  pub down : IsSafe old → new.spent ≡ true → AreSafe new.online.disc new.rack

safe_itself : (s t : StoreFacts) → t ≡ s → StaysSafe s t
safe_itself s t is = record {
  up = λ safe unspent. subst IsSafe (sym is) safe;
  down = λ safe spent. absurd (false≢true (sym safe.up ∙ sym (ap (λ (x : StoreFacts). x.spent) is) ∙ spent));
}

-- a call
call_safe : (old new : StoreFacts) (who : List ℕ) (call : StoreCall) (a : Answer) → Answers old who call a new → StaysSafe old new
call_safe old new who call a is = record {
  up = λ safe unspent. calls_keep_safe old new who call a safe is (λ stops. false≢true (sym unspent ∙ is.spent.1 stops));
  down = λ safe spent. stops_leave_safe.call old new who call safe (subst (λ (x : Answer). Answers old who call x new) (is.spent.0 spent) is);
}

-- and those after it: there are none if it was stopped or has to wait
call_safe_then : (who : List ℕ) (call : StoreCall) (more : Answer → Asks Work) → IsHonest (Call call more) → (a : Answer) (old mid new : StoreFacts) → Answers old who call a mid
    → ((stop : Stop) → StopsAt stop (more a) → new ≡ mid) → (IsOther a → StaysSafe mid new) → KindOf a → StaysSafe old new
call_safe_then who call more h a old mid new is ends later (inl (serial, waits)) =
    let stop : StopsAt (Waits serial) (more a) = subst (λ (x : Answer). StopsAt (Waits serial) (more x)) (sym waits) (h.0 serial) in
    subst (λ (x : StoreFacts). StaysSafe old x) (sym (ends (Waits serial) stop)) (call_safe old mid who call a is)
call_safe_then who call more h a old mid new is ends later (inr (inl stops)) =
    let stop : StopsAt Broken (more a) = subst (λ (x : Answer). StopsAt Broken (more x)) (sym stops) h.1 in
    subst (λ (x : StoreFacts). StaysSafe old x) (sym (ends Broken stop)) (call_safe old mid who call a is)
call_safe_then who call more h a old mid new is ends later (inr (inr other)) =
    let unspent = not_spent mid.spent a is.spent other.1 in record {
      up = λ safe. (later other.0).up ((call_safe old mid who call a is).up safe unspent);
      down = λ safe. (later other.0).down ((call_safe old mid who call a is).up safe unspent);
    }

stopped_part : (who : List ℕ) (stop : Stop) (p : Asks Work) → StopsAt stop p → (old new : StoreFacts) → RanInPart Answers who old p new → new ≡ old
stopped_part who stop (Gives x) s old new r = r
stopped_part who stop (Call call more) s old new r = absurd s

-- a whole program, and a prefix of one
pub ran_safe : (who : List ℕ) (p : Asks Work) → IsHonest p → (told : List Answer) (old : StoreFacts) (given : Work) (new : StoreFacts) → RanBy Answers who old p told given new → StaysSafe old new
ran_safe who (Gives x) h [] old given new r = safe_itself old new r.1
ran_safe who (Gives x) h (a ∷ told) old given new r = absurd r
ran_safe who (Call call more) h [] old given new r = absurd r
ran_safe who (Call call more) h (a ∷ told) old given new r =
    call_safe_then who call more h a old r.0 new r.1 (λ stop at. stopped_at who stop (more a) at told r.0 given new r.3) (λ other. ran_safe who (more a) (h.2 a other) told r.0 given new r.3) (kind_of a)

pub part_safe : (who : List ℕ) (p : Asks Work) → IsHonest p → (old new : StoreFacts) → RanInPart Answers who old p new → StaysSafe old new
part_safe who (Gives x) h old new r = safe_itself old new r
part_safe who (Call call more) h old new (inl r) = safe_itself old new r
part_safe who (Call call more) h old new (inr (inl r)) = call_safe old new who call (Err NoMemory) r
part_safe who (Call call more) h old new (inr (inr r)) =
    call_safe_then who call more h r.0 old r.1 new r.2 (λ stop at. stopped_part who stop (more r.0) at r.1 new r.4) (λ other. part_safe who (more r.0) (h.2 r.0 other) r.1 new r.4) (kind_of r.0)

module _ (who : List ℕ) where
  -- a whole program
  pub ran_stays : (p : Asks Work) (told : List Answer) (old : StoreFacts) (given : Work) (new : StoreFacts) → RanBy Answers who old p told given new → StaysOver old new
  ran_stays (Gives x) [] old given new r = stays_itself old new r.1
  ran_stays (Gives x) (a ∷ told) old given new r = absurd r
  ran_stays (Call call more) [] old given new r = absurd r
  ran_stays (Call call more) (a ∷ told) old given new (mid, is, real, rest) = stays_then old mid new (call_stays old mid who call a is) (ran_stays (more a) told mid given new rest)

  -- a prefix of one
  pub part_stays : (p : Asks Work) (old new : StoreFacts) → RanInPart Answers who old p new → StaysOver old new
  part_stays (Gives x) old new r = stays_itself old new r
  part_stays (Call call more) old new (inl r) = stays_itself old new r
  part_stays (Call call more) old new (inr (inl r)) = call_stays old new who call (Err NoMemory) r
  part_stays (Call call more) old new (inr (inr r)) = stays_then old r.1 new (call_stays old r.1 who call r.0 r.2) (part_stays (more r.0) r.1 new r.4)

-- WHICH REELS ARE MOUNTED, in any state that has the store's rack
up_mounted : (v : View) (s : StoreFacts) (u : State) → u ≡ state_up v (told_reels s.rack) s.online s.dump → (serial : ℕ) → state.is_mounted u serial ≡ is_mounted (reel serial s.rack.reels)
up_mounted v s u is serial = ap (λ (t : State). state.is_mounted t serial) is ∙ mounted_by v.shelf serial s.rack.reels

pub mounted_in : (s : StoreFacts) → s.spent ≡ false → (u : State) → StandsForState s u → (serial : ℕ) → state.is_mounted u serial ≡ is_mounted (reel serial s.rack.reels)
mounted_in s unspent u here serial = let is = seen s u unspent here in up_mounted is.view s u is.state_is serial

-- such a state exists, for any devices
abbrev pub no_view : View
no_view = record { text = λ stamp. []; shelf = λ serial. []; dumps = []; dumped = None; opened = None }

abbrev pub some_state : StoreFacts → State
some_state s = state_up no_view (told_reels s.rack) s.online s.dump

pub mounted_some : (s : StoreFacts) (serial : ℕ) → state.is_mounted (some_state s) serial ≡ is_mounted (reel serial s.rack.reels)
mounted_some s serial = up_mounted no_view s (some_state s) refl serial
