-- An event whose answer doesn't show its outcome is the event in which no device failed; and an answer that only a device
-- causes occurs only with its outcome.
-- serves: AlikeLemmas, OpenAlikeLemmas, StoreLemmas, StoreTurnLemmas, crates above
use Rattle.std.proofs.Common.{◌≡◌, ◌⊎◌, ◌&&◌, ◌||◌, ◌==◌, ◌+◌, ◌-◌, ◌^◌, ℕ, Bool, true, false, cond, not, List, [], ◌∷◌, ◌++◌, Option, Some, None, Result, Ok, Err, MatchOption, option_map, is_some, is_none, nat_lt, unwrap_or, refl, sym, ◌∙◌, ap, subst, inl, inr}
use Rattle.std.proofs.lemmas.Bool.{false≢true}
use Rattle.std.specs.List.{list_all}
use Rattle.g_name.specs.declared.full.Full.{Full}
use Rattle.g_plain.proofs.StepAnswers.{own_fault}
use Rattle.g_plain.specs.declared.calls.StoreCall.{StoreCall}
use Rattle.g_plain.specs.declared.calls.StoreReply.{StoreReply}
use Rattle.g_plain.specs.declared.faults.StoreFault.{StoreFault}
use Rattle.g_plain.specs.declared.faults.StoreFault.TheVariants.{CountersSpent, DiscFull, DiscReadFault, DumpOpen, LostCopy, LostDirectory, MountFirst, NoDump, NoFile, NoFilestore, NoTape, NoUser, NotDumped, NotMounted, Offline, RackNotEmpty, RackNotMounted, Stopped, TapeFull, TapeReadFault, WaitTape, ReelNotFree}
use Rattle.g_plain.specs.PlainStep.{Checks, fault_of, first_fault, reply_to}
use Rattle.g_plain.specs.PlainTree.{Tree, formatted, has_file, has_user}
use Rattle.std.specs.FinMap.{empty}
use Rattle.g_store_model.specs.CallStep.{CallStep, Cut, DiscRead, LeftByRefusal, Outcome, Plain, Planned, TapeRead, brings_now, commits, early, is_cut, is_disc_read, is_offline, is_tape_read, late, len_of, need, reel_of, room_until, stamp_of, version_read, wants_bytes, writes}
use Rattle.g_store_model.specs.DumpSteps.{Completed, DumpStep, Event, Going, MigrateStep, OpenStep, opening, Stepped as DumpStepped, dump_needs, migrate_refuses, open_number, open_refuses, tape_room}
use Rattle.g_store_model.specs.Rising.{FormatStep, IsLost, RestoreStep, Restores, StartStep, Starts, adopted, coming_up, dump_adopted, fault_from, has_none, is_completed, restore_early, restore_late, restored, start_refuses, unmounted_reel}
use Rattle.g_store_model.specs.State.{Dumped as DumpedTree, Holding, OpenDump, State, first_reel, is_mounted, lacks, place_at, with_online, capacity_in, end_of, reel_at}
use Rattle.g_run_model.proofs.StepLemmas.{not_err, refused}
use Rattle.g_run_model.proofs.ToldLemmas.{plain_too}
use Rattle.g_store_model.specs.Process.{ProcessStep, Processes, process_needs, process_refuses, process_refuses_late}
use Rattle.g_plain.specs.declared.faults.StoreFault.TheVariants as fault
use Rattle.g_run_model.specs.Events.{IsTold}

-- An outcome and an answer that determine each other: the answer shows the outcome, and an answer that only a device causes
-- occurs only with its outcome.
pub record OutcomeTold {A : Type 0} (outcome : Outcome) (answer : Result A StoreFault) : Type 0 where
  pub told : IsTold outcome answer
  pub disc_read : answer ≡ Err fault.DiscReadFault → outcome ≡ DiscRead
  pub tape_read : answer ≡ Err fault.TapeReadFault → outcome ≡ TapeRead
  pub cut : answer ≡ Err fault.Stopped → outcome ≡ Cut

-- a refusal that no device causes
abbrev pub IsOwn : StoreFault → Type 0
IsOwn DiscReadFault = ⊥
IsOwn TapeReadFault = ⊥
IsOwn Stopped = ⊥
IsOwn fault = Unit {0}

-- an answer that no device causes shows the outcome without failure
same_fault : {A : Type 0} (f g : StoreFault) → (let one : Result A StoreFault = Err f in one ≡ Err g) → f ≡ g
same_fault f g e = cc

some_fault : (f g : StoreFault) → (let one : Option StoreFault = Some f in one ≡ Some g) → f ≡ g
some_fault f g e = cc

own_apart : (f g : StoreFault) → IsOwn f → (IsOwn g → ⊥) → f ≡ g → ⊥
own_apart f g own not_own same = not_own (subst (λ (x : StoreFault). IsOwn x) same own)

told_ok : {A : Type 0} (reply : A) (answer : Result A StoreFault) → answer ≡ Ok reply → OutcomeTold Plain answer
told_ok reply answer is = record {
  told = tt;
  disc_read = λ e. absurd (let no : ⊥ = cc in no);
  tape_read = λ e. absurd (let no : ⊥ = cc in no);
  cut = λ e. absurd (let no : ⊥ = cc in no);
}

pub told_own : {A : Type 0} (f : StoreFault) (answer : Result A StoreFault) → IsOwn f → answer ≡ Err f → OutcomeTold Plain answer
told_own f answer own is = record {
  told = tt;
  disc_read = λ e. absurd (own_apart f DiscReadFault own (λ x. x) (same_fault f DiscReadFault (sym is ∙ e)));
  tape_read = λ e. absurd (own_apart f TapeReadFault own (λ x. x) (same_fault f TapeReadFault (sym is ∙ e)));
  cut = λ e. absurd (own_apart f Stopped own (λ x. x) (same_fault f Stopped (sym is ∙ e)));
}

told_disc : {A : Type 0} (o : Outcome) (answer : Result A StoreFault) → o ≡ DiscRead → answer ≡ Err DiscReadFault → OutcomeTold o answer
told_disc o answer so is = subst (λ (x : Outcome). OutcomeTold x answer) (sym so) (record {
  told = is;
  disc_read = λ e. refl;
  tape_read = λ e. absurd (let no : ⊥ = cc in no);
  cut = λ e. absurd (let no : ⊥ = cc in no);
})

told_tape : {A : Type 0} (o : Outcome) (answer : Result A StoreFault) → o ≡ TapeRead → answer ≡ Err TapeReadFault → OutcomeTold o answer
told_tape o answer so is = subst (λ (x : Outcome). OutcomeTold x answer) (sym so) (record {
  told = is;
  disc_read = λ e. absurd (let no : ⊥ = cc in no);
  tape_read = λ e. refl;
  cut = λ e. absurd (let no : ⊥ = cc in no);
})

told_cut : {A : Type 0} (o : Outcome) (answer : Result A StoreFault) → o ≡ Cut → answer ≡ Err Stopped → OutcomeTold o answer
told_cut o answer so is = subst (λ (x : Outcome). OutcomeTold x answer) (sym so) (record {
  told = is;
  disc_read = λ e. absurd (let no : ⊥ = cc in no);
  tape_read = λ e. absurd (let no : ⊥ = cc in no);
  cut = λ e. refl;
})

-- the same for any event: with the outcome that it had, or without failure
abbrev pub ToldBy : {A : Type 0} → (Outcome → Result A StoreFault → State → Type 0) → Outcome → Result A StoreFault → State → Type 0
ToldBy By o answer new = (told : Outcome) × By told answer new × OutcomeTold told answer × ((told ≡ o) ⊎ (told ≡ Plain))

-- how refusals depend on outcomes: one that a device causes occurs only with its outcome, any other also without a failure
abbrev pub IsOwnOf : Option StoreFault → Type 0
IsOwnOf None = Unit {0}
IsOwnOf (Some f) = IsOwn f

abbrev pub GoesWith : (Outcome → Option StoreFault) → Outcome → Type 0
GoesWith f o = ((f Plain ≡ f o) × IsOwnOf (f o))
    ⊎ (((o ≡ DiscRead) × (f o ≡ Some DiscReadFault))
    ⊎ (((o ≡ TapeRead) × (f o ≡ Some TapeReadFault))
    ⊎ ((o ≡ Cut) × (f o ≡ Some Stopped))))

module _ {A : Type 0} (reply : A) (s after : State) (answer : Result A StoreFault) (new : State) where
  event_own : (f : Option StoreFault) → IsOwnOf f → Event f reply s after answer new → OutcomeTold Plain answer
  event_own None own (ok, is) = told_ok reply answer ok
  event_own (Some Stopped) own (err, left) = absurd own
  event_own (Some f) own (err, is) = told_own f answer own err

  event_told : (f : Outcome → Option StoreFault) (o : Outcome) → GoesWith f o → Event (f o) reply s after answer new
      → (told : Outcome) × (f told ≡ f o) × OutcomeTold told answer × ((told ≡ o) ⊎ (told ≡ Plain))
  event_told f o (inl (same, own)) event = (Plain, same, event_own (f o) own event, inr refl)
  event_told f o (inr (inl (so, is))) event =
      let at : Event (Some DiscReadFault) reply s after answer new = subst (λ (x : Option StoreFault). Event x reply s after answer new) is event in
      (o, refl, told_disc o answer so at.0, inl refl)
  event_told f o (inr (inr (inl (so, is)))) event =
      let at : Event (Some TapeReadFault) reply s after answer new = subst (λ (x : Option StoreFault). Event x reply s after answer new) is event in
      (o, refl, told_tape o answer so at.0, inl refl)
  event_told f o (inr (inr (inr (so, is)))) event =
      let at : Event (Some Stopped) reply s after answer new = subst (λ (x : Option StoreFault). Event x reply s after answer new) is event in
      (o, refl, told_cut o answer so at.0, inl refl)

-- checks that no device causes, or that don't hold
abbrev AreOwn : Checks → Type 0
AreOwn [] = Unit {0}
AreOwn (check ∷ checks) = ((check.0 ≡ false) ⊎ IsOwn check.1) × AreOwn checks

-- if one of the first checks holds, the first of them is the refusal, independently of the later ones; otherwise the later
-- ones decide
abbrev FrontDecides : Checks → Type 0
FrontDecides front = ((g : StoreFault) × IsOwn g × ((more : Checks) → first_fault (front ++ more) ≡ Some g)) ⊎ ((more : Checks) → first_fault (front ++ more) ≡ first_fault more)

front_decides : (front : Checks) → AreOwn front → FrontDecides front
front_decides [] own = inr (λ more. refl)
front_decides (check ∷ front) own = by check.0 refl own.0 (front_decides front own.1)
  where
    by : (b : Bool) → check.0 ≡ b → (check.0 ≡ false) ⊎ IsOwn check.1 → FrontDecides front → FrontDecides (check ∷ front)
    by true e (inl apart) rest = absurd (false≢true (sym apart ∙ e))
    by true e (inr own) rest = inl (check.1, own, λ more. ap (λ (b : Bool). cond b (Some check.1) (first_fault (front ++ more))) e)
    by false e own (inl (g, is, all)) = inl (g, is, λ more. ap (λ (b : Bool). cond b (Some check.1) (first_fault (front ++ more))) e ∙ all more)
    by false e own (inr all) = inr (λ more. ap (λ (b : Bool). cond b (Some check.1) (first_fault (front ++ more))) e ∙ all more)

own_first : (checks : Checks) → AreOwn checks → IsOwnOf (first_fault checks)
own_first [] own = tt
own_first (check ∷ checks) own = by check.0 refl own.0 (own_first checks own.1)
  where
    by : (b : Bool) → check.0 ≡ b → (check.0 ≡ false) ⊎ IsOwn check.1 → IsOwnOf (first_fault checks) → IsOwnOf (cond b (Some check.1) (first_fault checks))
    by true e (inl apart) rest = absurd (false≢true (sym apart ∙ e))
    by true e (inr own) rest = own
    by false e own_or rest = rest

-- a device's check that holds, after others
module _ (f : Outcome → Option StoreFault) (front : Checks) (own : AreOwn front) (plain : (more : Checks) × (f Plain ≡ first_fault (front ++ more))) where
  held_by : (o : Outcome) (fault : StoreFault) → (f o ≡ Some fault → GoesWith f o) → (rest : Checks) → f o ≡ first_fault (front ++ (true, fault) ∷ rest) → GoesWith f o
  held_by o fault goes rest is = by (front_decides front own)
    where
      by : FrontDecides front → GoesWith f o
      by (inl (g, own_g, all)) =
          let here : f o ≡ Some g = is ∙ all ((true, fault) ∷ rest) in
          inl (plain.1 ∙ all plain.0 ∙ sym here, subst (λ (x : Option StoreFault). IsOwnOf x) (sym here) own_g)
      by (inr all) = goes (is ∙ all ((true, fault) ∷ rest))

  held_disc : (rest : Checks) → f DiscRead ≡ first_fault (front ++ (true, DiscReadFault) ∷ rest) → GoesWith f DiscRead
  held_disc rest is = held_by DiscRead DiscReadFault (λ here. inr (inl (refl, here))) rest is

  held_tape : (rest : Checks) → f TapeRead ≡ first_fault (front ++ (true, TapeReadFault) ∷ rest) → GoesWith f TapeRead
  held_tape rest is = held_by TapeRead TapeReadFault (λ here. inr (inr (inl (refl, here)))) rest is

  held_cut : (rest : Checks) → f Cut ≡ first_fault (front ++ (true, Stopped) ∷ rest) → GoesWith f Cut
  held_cut rest is = held_by Cut Stopped (λ here. inr (inr (inr (refl, here)))) rest is

-- none holds that is the devices' own
quiet : (f : Outcome → Option StoreFault) (o : Outcome) (checks : Checks) → AreOwn checks → f o ≡ first_fault checks → f Plain ≡ first_fault checks → GoesWith f o
quiet f o checks own is plain = inl (plain ∙ sym is, subst (λ (x : Option StoreFault). IsOwnOf x) (sym is) (own_first checks own))

-- OPENING A DUMP
module _ (s : State) (k : Holding) (serial : ℕ) where
  open_front : Checks
  open_front = (lacks s serial, NoTape) ∷ (not (is_mounted s serial), NotMounted) ∷ (is_some s.open_dump, DumpOpen (open_number s.open_dump)) ∷ (k.last == 2 ^ 62 - 1, CountersSpent) ∷ []

  pub open_goes : (o : Outcome) → GoesWith (open_refuses s k serial) o
  unfolding open_front
  open_goes Plain = quiet (open_refuses s k serial) Plain (open_front ++ (false, TapeReadFault) ∷ (nat_lt (tape_room s serial) (dump_needs k), TapeFull (dump_needs k) (tape_room s serial)) ∷ (false, Stopped) ∷ [])
      (inr tt, (inr tt, (inr tt, (inr tt, (inl refl, (inr tt, (inl refl, tt))))))) refl refl
  open_goes DiscRead = quiet (open_refuses s k serial) DiscRead (open_front ++ (false, TapeReadFault) ∷ (nat_lt (tape_room s serial) (dump_needs k), TapeFull (dump_needs k) (tape_room s serial)) ∷ (false, Stopped) ∷ [])
      (inr tt, (inr tt, (inr tt, (inr tt, (inl refl, (inr tt, (inl refl, tt))))))) refl refl
  open_goes TapeRead = held_tape (open_refuses s k serial) open_front (inr tt, (inr tt, (inr tt, (inr tt, tt))))
      ((false, TapeReadFault) ∷ (nat_lt (tape_room s serial) (dump_needs k), TapeFull (dump_needs k) (tape_room s serial)) ∷ (false, Stopped) ∷ [], refl)
      ((nat_lt (tape_room s serial) (dump_needs k), TapeFull (dump_needs k) (tape_room s serial)) ∷ (false, Stopped) ∷ []) refl
  open_goes Cut = held_cut (open_refuses s k serial) (open_front ++ (false, TapeReadFault) ∷ (nat_lt (tape_room s serial) (dump_needs k), TapeFull (dump_needs k) (tape_room s serial)) ∷ [])
      (inr tt, (inr tt, (inr tt, (inr tt, (inl refl, (inr tt, tt)))))) ((false, Stopped) ∷ [], refl) [] refl

  pub open_told : (o : Outcome) (answer : Result ℕ StoreFault) (new : State) → OpenStep s k serial o answer new → ToldBy (OpenStep s k serial) o answer new
  open_told o answer new (places, noted, event) =
      let by = event_told (k.last + 1) s (opening s k serial places) answer new (open_refuses s k serial) o (open_goes o) event in
      (by.0, (places, (λ none. noted (sym by.1 ∙ none)), subst (λ (x : Option StoreFault). Event x (k.last + 1) s (opening s k serial places) answer new) (sym by.1) event), by.2, by.3)

-- MIGRATING A FILE
module _ (s : State) (k : Holding) (user : Option (List ℕ)) (full : Full) where
  migrate_front : Checks
  migrate_front =
      (is_none user || not (has_user k.tree full.user), NoUser)
      ∷ (not (has_file k.tree full), NoFile)
      ∷ (not (place_at k.places (stamp_of k.tree full)).online, Offline)
      ∷ (is_none (place_at k.places (stamp_of k.tree full)).copy, NotDumped)
      ∷ []

  migrate_own : AreOwn migrate_front
  unfolding migrate_front
  migrate_own = (inr tt, (inr tt, (inr tt, (inr tt, tt))))

  pub migrate_goes : (o : Outcome) → GoesWith (migrate_refuses k user full) o
  unfolding migrate_front
  migrate_goes Cut = held_cut (migrate_refuses k user full) migrate_front migrate_own ((false, Stopped) ∷ [], refl) [] refl
  migrate_goes Plain = quiet (migrate_refuses k user full) Plain (migrate_front ++ (false, Stopped) ∷ []) (inr tt, (inr tt, (inr tt, (inr tt, (inl refl, tt))))) refl refl
  migrate_goes DiscRead = quiet (migrate_refuses k user full) DiscRead (migrate_front ++ (false, Stopped) ∷ []) (inr tt, (inr tt, (inr tt, (inr tt, (inl refl, tt))))) refl refl
  migrate_goes TapeRead = quiet (migrate_refuses k user full) TapeRead (migrate_front ++ (false, Stopped) ∷ []) (inr tt, (inr tt, (inr tt, (inr tt, (inl refl, tt))))) refl refl

  pub migrate_told : (o : Outcome) (answer : Result Full StoreFault) (new : State) → MigrateStep s k user full o answer new → ToldBy (MigrateStep s k user full) o answer new
  migrate_told o answer new event =
      let after : State = commits s (record k { places = with_online false (stamp_of k.tree full) k.places }) in
      let by = event_told full s after answer new (migrate_refuses k user full) o (migrate_goes o) event in
      (by.0, subst (λ (x : Option StoreFault). Event x full s after answer new) (sym by.1) event, by.2, by.3)

-- BRINGING THE SYSTEM UP
abbrev pub format_refuses : State → Outcome → Option StoreFault
format_refuses s o = first_fault (fault_from RackNotEmpty (first_reel (λ r. r.used) s.reels) ∷ (is_disc_read o, DiscReadFault) ∷ (is_cut o, Stopped) ∷ [])

from_own : (fault : ℕ → StoreFault) → ((serial : ℕ) → IsOwn (fault serial)) → (reel : Option ℕ) → (let check = fault_from fault reel in (check.0 ≡ false) ⊎ IsOwn check.1)
from_own fault own None = inl refl
from_own fault own (Some serial) = inr (own serial)

module _ (s : State) where
  pub format_goes : (o : Outcome) → GoesWith (format_refuses s) o
  format_goes Plain = quiet (format_refuses s) Plain (fault_from RackNotEmpty (first_reel (λ r. r.used) s.reels) ∷ (false, DiscReadFault) ∷ (false, Stopped) ∷ [])
      (from_own RackNotEmpty (λ serial. tt) (first_reel (λ r. r.used) s.reels), (inl refl, (inl refl, tt))) refl refl
  format_goes TapeRead = quiet (format_refuses s) TapeRead (fault_from RackNotEmpty (first_reel (λ r. r.used) s.reels) ∷ (false, DiscReadFault) ∷ (false, Stopped) ∷ [])
      (from_own RackNotEmpty (λ serial. tt) (first_reel (λ r. r.used) s.reels), (inl refl, (inl refl, tt))) refl refl
  format_goes DiscRead = held_disc (format_refuses s) (fault_from RackNotEmpty (first_reel (λ r. r.used) s.reels) ∷ []) (from_own RackNotEmpty (λ serial. tt) (first_reel (λ r. r.used) s.reels), tt)
      ((false, DiscReadFault) ∷ (false, Stopped) ∷ [], refl) ((false, Stopped) ∷ []) refl
  format_goes Cut = held_cut (format_refuses s) (fault_from RackNotEmpty (first_reel (λ r. r.used) s.reels) ∷ (false, DiscReadFault) ∷ [])
      (from_own RackNotEmpty (λ serial. tt) (first_reel (λ r. r.used) s.reels), (inl refl, tt)) ((false, Stopped) ∷ [], refl) [] refl

  pub format_told : (o : Outcome) (answer : Result (Unit {0}) StoreFault) (new : State) → FormatStep s o answer new → ToldBy (FormatStep s) o answer new
  format_told o answer new event =
      let after : State = coming_up s (record { tree = formatted; places = empty; last = 0; intent = None; kept = empty }) in
      let by = event_told tt s after answer new (format_refuses s) o (format_goes o) event in
      (by.0, subst (λ (x : Option StoreFault). Event x tt s after answer new) (sym by.1) event, by.2, by.3)

  -- a start
  pub start_goes : (k : Holding) (o : Outcome) → GoesWith (start_refuses s k) o
  start_goes k Plain = quiet (start_refuses s k) Plain (fault_from MountFirst (unmounted_reel s k.intent) ∷ (false, TapeReadFault) ∷ (false, Stopped) ∷ [])
      (from_own MountFirst (λ serial. tt) (unmounted_reel s k.intent), (inl refl, (inl refl, tt))) refl refl
  start_goes k DiscRead = quiet (start_refuses s k) DiscRead (fault_from MountFirst (unmounted_reel s k.intent) ∷ (false, TapeReadFault) ∷ (false, Stopped) ∷ [])
      (from_own MountFirst (λ serial. tt) (unmounted_reel s k.intent), (inl refl, (inl refl, tt))) refl refl
  start_goes k TapeRead = held_tape (start_refuses s k) (fault_from MountFirst (unmounted_reel s k.intent) ∷ [])
      (from_own MountFirst (λ serial. tt) (unmounted_reel s k.intent), tt) ((false, TapeReadFault) ∷ (false, Stopped) ∷ [], refl) ((false, Stopped) ∷ []) refl
  start_goes k Cut = by (is_completed s k.intent) refl
    where
      by : (b : Bool) → is_completed s k.intent ≡ b → GoesWith (start_refuses s k) Cut
      by true e = held_cut (start_refuses s k) (fault_from MountFirst (unmounted_reel s k.intent) ∷ (false, TapeReadFault) ∷ []) (from_own MountFirst (λ serial. tt) (unmounted_reel s k.intent), (inl refl, tt))
          ((false, Stopped) ∷ [], refl) []
          (ap (λ (b : Bool). first_fault (fault_from MountFirst (unmounted_reel s k.intent) ∷ (false, TapeReadFault) ∷ (b, Stopped) ∷ [])) e)
      by false e = quiet (start_refuses s k) Cut (fault_from MountFirst (unmounted_reel s k.intent) ∷ (false, TapeReadFault) ∷ (false, Stopped) ∷ [])
          (from_own MountFirst (λ serial. tt) (unmounted_reel s k.intent), (inl refl, (inl refl, tt)))
          (ap (λ (b : Bool). first_fault (fault_from MountFirst (unmounted_reel s k.intent) ∷ (false, TapeReadFault) ∷ (b, Stopped) ∷ [])) e) refl

  -- if it isn't a failed read of the disc, a start is an event
  abbrev StartsPlainly : Holding → Outcome → Result (Option ℕ) StoreFault → State → Type 0
  StartsPlainly k o answer new =
      Event (start_refuses s k o) (option_map (λ d. d.number) (dump_adopted s k)) s (coming_up s (adopted (dump_adopted s k) k)) answer new

  not_disc : Outcome → Bool
  not_disc DiscRead = false
  not_disc o = true

  starts_from : (k : Holding) (o : Outcome) (answer : Result (Option ℕ) StoreFault) (new : State) → not_disc o ≡ true → StartsPlainly k o answer new → Starts s (Some k) o answer new
  unfolding not_disc
  starts_from k Plain answer new apart step = step
  starts_from k TapeRead answer new apart step = step
  starts_from k Cut answer new apart step = step
  starts_from k DiscRead answer new apart step = absurd (false≢true apart)

  starts_by : (k : Holding) (o : Outcome) (answer : Result (Option ℕ) StoreFault) (new : State) → not_disc o ≡ true → StartsPlainly k o answer new → ToldBy (Starts s (Some k)) o answer new
  unfolding not_disc
  starts_by k o answer new apart event = by (by_event.3)
    where
      by_event : (told : Outcome) × (start_refuses s k told ≡ start_refuses s k o) × OutcomeTold told answer × ((told ≡ o) ⊎ (told ≡ Plain))
      by_event = event_told (option_map (λ (d : DumpedTree). d.number) (dump_adopted s k)) s (coming_up s (adopted (dump_adopted s k) k)) answer new (start_refuses s k) o (start_goes k o) event

      moved : StartsPlainly k by_event.0 answer new
      moved = subst (λ (x : Option StoreFault). Event x (option_map (λ (d : DumpedTree). d.number) (dump_adopted s k)) s (coming_up s (adopted (dump_adopted s k) k)) answer new) (sym by_event.1) event

      by : (by_event.0 ≡ o) ⊎ (by_event.0 ≡ Plain) → ToldBy (Starts s (Some k)) o answer new
      by (inl same) = (by_event.0, starts_from k by_event.0 answer new (ap not_disc same ∙ apart) moved, by_event.2, inl same)
      by (inr plain) = (by_event.0, starts_from k by_event.0 answer new (ap not_disc plain) moved, by_event.2, inr plain)

  starts_told : (h : Option Holding) (o : Outcome) (answer : Result (Option ℕ) StoreFault) (new : State) → Starts s h o answer new → ToldBy (Starts s h) o answer new
  unfolding not_disc
  starts_told h DiscRead answer new (err, is) = (DiscRead, (err, is), told_disc DiscRead answer refl err, inl refl)
  starts_told None Plain answer new (err, is) = (Plain, (err, is), told_own NoFilestore answer tt err, inr refl)
  starts_told None TapeRead answer new (err, is) = (Plain, (err, is), told_own NoFilestore answer tt err, inr refl)
  starts_told None Cut answer new (err, is) = (Plain, (err, is), told_own NoFilestore answer tt err, inr refl)
  starts_told (Some k) Plain answer new event = starts_by k Plain answer new refl event
  starts_told (Some k) TapeRead answer new event = starts_by k TapeRead answer new refl event
  starts_told (Some k) Cut answer new event = starts_by k Cut answer new refl event

  pub start_told : (o : Outcome) (answer : Result (Option ℕ) StoreFault) (new : State) → StartStep s o answer new → ToldBy (StartStep s) o answer new
  start_told o answer new step = starts_told s.holding o answer new step

  -- a restore
  pub late_goes : (o : Outcome) → GoesWith restore_late o
  late_goes Plain = quiet restore_late Plain ((false, DiscReadFault) ∷ (false, Stopped) ∷ []) (inl refl, (inl refl, tt)) refl refl
  late_goes TapeRead = quiet restore_late TapeRead ((false, DiscReadFault) ∷ (false, Stopped) ∷ []) (inl refl, (inl refl, tt)) refl refl
  late_goes DiscRead = held_disc restore_late [] tt ((false, DiscReadFault) ∷ (false, Stopped) ∷ [], refl) ((false, Stopped) ∷ []) refl
  late_goes Cut = held_cut restore_late ((false, DiscReadFault) ∷ []) (inl refl, tt) ((false, Stopped) ∷ [], refl) [] refl

  pub early_goes : (o : Outcome) → GoesWith (restore_early s) o
  early_goes TapeRead = held_tape (restore_early s) (fault_from RackNotMounted (first_reel (λ r. not r.mounted) s.reels) ∷ []) (from_own RackNotMounted (λ serial. tt) (first_reel (λ r. not r.mounted) s.reels), tt)
      ((false, TapeReadFault) ∷ (list_all has_none s.reels, NoDump) ∷ [], refl) ((list_all has_none s.reels, NoDump) ∷ []) refl
  early_goes Plain = quiet (restore_early s) Plain (fault_from RackNotMounted (first_reel (λ r. not r.mounted) s.reels) ∷ (false, TapeReadFault) ∷ (list_all has_none s.reels, NoDump) ∷ [])
      (from_own RackNotMounted (λ serial. tt) (first_reel (λ r. not r.mounted) s.reels), (inl refl, (inr tt, tt))) refl refl
  early_goes DiscRead = quiet (restore_early s) DiscRead (fault_from RackNotMounted (first_reel (λ r. not r.mounted) s.reels) ∷ (false, TapeReadFault) ∷ (list_all has_none s.reels, NoDump) ∷ [])
      (from_own RackNotMounted (λ serial. tt) (first_reel (λ r. not r.mounted) s.reels), (inl refl, (inr tt, tt))) refl refl
  early_goes Cut = quiet (restore_early s) Cut (fault_from RackNotMounted (first_reel (λ r. not r.mounted) s.reels) ∷ (false, TapeReadFault) ∷ (list_all has_none s.reels, NoDump) ∷ [])
      (from_own RackNotMounted (λ serial. tt) (first_reel (λ r. not r.mounted) s.reels), (inl refl, (inr tt, tt))) refl refl

  -- an outcome matches both of its refusals
  none_apart : {P : Type 0} (f : Option StoreFault) (g : StoreFault) → f ≡ None → f ≡ Some g → P
  none_apart f g none some = absurd (let no : ⊥ = cc in no)

  plain_none : (o : Outcome) → GoesWith (restore_early s) o → restore_early s o ≡ None → restore_early s Plain ≡ None
  plain_none o (inl (same, own)) none = same ∙ none
  plain_none o (inr (inl (so, is))) none = none_apart (restore_early s o) DiscReadFault none is
  plain_none o (inr (inr (inl (so, is)))) none = none_apart (restore_early s o) TapeReadFault none is
  plain_none o (inr (inr (inr (so, is)))) none = none_apart (restore_early s o) Stopped none is

  restore_from : (o : Outcome) (answer : Result ℕ StoreFault) (new : State) → restore_early s o ≡ None → Restores s s.dumped o answer new → RestoreStep s o answer new
  restore_from o answer new none step =
      subst (λ (x : Option StoreFault). MatchOption x (Restores s s.dumped o answer new) (λ fault. (answer ≡ Err fault) × (new ≡ s))) (sym none) step

  refused_from : (o : Outcome) (fault : StoreFault) (answer : Result ℕ StoreFault) (new : State) → restore_early s o ≡ Some fault → (answer ≡ Err fault) × (new ≡ s) → RestoreStep s o answer new
  refused_from o fault answer new some step =
      subst (λ (x : Option StoreFault). MatchOption x (Restores s s.dumped o answer new) (λ fault. (answer ≡ Err fault) × (new ≡ s))) (sym some) step

  lost_told : (answer : Result ℕ StoreFault) → IsLost answer → OutcomeTold Plain answer
  lost_told (Err (LostDirectory user)) lost = told_own (LostDirectory user) (Err (LostDirectory user)) tt refl
  lost_told (Err (LostCopy full serial)) lost = told_own (LostCopy full serial) (Err (LostCopy full serial)) tt refl
  lost_told answer lost = absurd lost

  restores_told : (d : Option DumpedTree) (o : Outcome) (answer : Result ℕ StoreFault) (new : State) → Restores s d o answer new → ToldBy (Restores s d) o answer new
  restores_told None o answer new (lost, is) = (Plain, (lost, is), lost_told answer lost, inr refl)
  restores_told (Some d) o answer new event =
      let by = event_told d.number s (coming_up s (restored d)) answer new restore_late o (late_goes o) event in
      (by.0, subst (λ (x : Option StoreFault). Event x d.number s (coming_up s (restored d)) answer new) (sym by.1) event, by.2, by.3)

  granted_told : (o : Outcome) (answer : Result ℕ StoreFault) (new : State) → restore_early s o ≡ None → Restores s s.dumped o answer new → ToldBy (RestoreStep s) o answer new
  granted_told o answer new none step = by (by_step.3)
    where
      by_step : ToldBy (Restores s s.dumped) o answer new
      by_step = restores_told s.dumped o answer new step

      by : (by_step.0 ≡ o) ⊎ (by_step.0 ≡ Plain) → ToldBy (RestoreStep s) o answer new
      by (inl same) = (by_step.0, restore_from by_step.0 answer new (ap (restore_early s) same ∙ none) by_step.1, by_step.2, inl same)
      by (inr plain) = (by_step.0, restore_from by_step.0 answer new (ap (restore_early s) plain ∙ plain_none o (early_goes o) none) by_step.1, by_step.2, inr plain)

  refused_told : (o : Outcome) (fault : StoreFault) (answer : Result ℕ StoreFault) (new : State) → restore_early s o ≡ Some fault → (answer ≡ Err fault) × (new ≡ s) → ToldBy (RestoreStep s) o answer new
  refused_told o fault answer new some (err, is) = by (early_goes o)
    where
      one : (g : StoreFault) → restore_early s o ≡ Some g → (let r : Result ℕ StoreFault = Err g in answer ≡ r)
      one g is = err ∙ ap (λ (x : StoreFault). let r : Result ℕ StoreFault = Err x in r) (some_fault fault g (sym some ∙ is))

      by : GoesWith (restore_early s) o → ToldBy (RestoreStep s) o answer new
      by (inl (same, own)) =
          (Plain, refused_from Plain fault answer new (same ∙ some) (err, is), told_own fault answer (subst (λ (x : Option StoreFault). IsOwnOf x) some own) err, inr refl)
      by (inr (inl (so, at))) = (o, refused_from o fault answer new some (err, is), told_disc o answer so (one DiscReadFault at), inl refl)
      by (inr (inr (inl (so, at)))) = (o, refused_from o fault answer new some (err, is), told_tape o answer so (one TapeReadFault at), inl refl)
      by (inr (inr (inr (so, at)))) = (o, refused_from o fault answer new some (err, is), told_cut o answer so (one Stopped at), inl refl)

  restored_told : (f : Option StoreFault) (o : Outcome) (answer : Result ℕ StoreFault) (new : State) → restore_early s o ≡ f
      → MatchOption f (Restores s s.dumped o answer new) (λ fault. (answer ≡ Err fault) × (new ≡ s)) → ToldBy (RestoreStep s) o answer new
  restored_told None o answer new e step = granted_told o answer new e step
  restored_told (Some fault) o answer new e step = refused_told o fault answer new e step

  pub restore_told : (o : Outcome) (answer : Result ℕ StoreFault) (new : State) → RestoreStep s o answer new → ToldBy (RestoreStep s) o answer new
  restore_told o answer new step = restored_told (restore_early s o) o answer new refl step

-- A STEP OF THE OPEN DUMP
plain_cut : Plain ≡ Cut → ⊥
plain_cut e = cc

plain_read : {P : Type 0} → Plain ≡ DiscRead → P
plain_read e = absurd (let no : ⊥ = cc in no)

pub dump_told : (s : State) (k : Holding) (d : OpenDump) (o : Outcome) (answer : Result DumpStepped StoreFault) (new : State) → DumpStep s k d o answer new → ToldBy (DumpStep s k d) o answer new
dump_told s k d o (Ok Going) new (more, cut, read, is) = (Plain, (more, plain_cut, (λ e. plain_read e), is), told_ok Going (Ok Going) refl, inr refl)
dump_told s k d o (Ok (Completed n)) new (last, cut, number, is) = (Plain, (last, plain_cut, number, is), told_ok (Completed n) (Ok (Completed n)) refl, inr refl)
dump_told s k d o (Err DiscReadFault) new (read, content, is) = (o, (read, content, is), told_disc o (Err DiscReadFault) read refl, inl refl)
dump_told s k d o (Err Stopped) new (cut, left) = (o, (cut, left), told_cut o (Err Stopped) cut refl, inl refl)
dump_told s k d o (Err fault) new step = absurd step

-- A JOB'S CALL
early_which : (f : Option StoreFault) (a b : Bool) (reel : ℕ) (g : StoreFault) → first_fault ((is_some f, unwrap_or f Stopped) ∷ (a, WaitTape reel) ∷ (b, TapeReadFault) ∷ []) ≡ Some g
    → (f ≡ Some g) ⊎ ((WaitTape reel ≡ g) ⊎ ((b ≡ true) × (TapeReadFault ≡ g)))
early_which (Some f) a b reel g e = inl e
early_which None true b reel g e = inr (inl (some_fault (WaitTape reel) g e))
early_which None false true reel g e = inr (inr (refl, some_fault TapeReadFault g e))
early_which None false false reel g e = absurd (let no : ⊥ = cc in no)

late_which : (a b c : Bool) (n r : ℕ) (g : StoreFault) → first_fault ((a, DiscFull n r) ∷ (b, DiscReadFault) ∷ (c, Stopped) ∷ []) ≡ Some g
    → (DiscFull n r ≡ g) ⊎ (((b ≡ true) × (DiscReadFault ≡ g)) ⊎ ((c ≡ true) × (Stopped ≡ g)))
late_which true b c n r g e = inl (some_fault (DiscFull n r) g e)
late_which false true c n r g e = inr (inl (refl, some_fault DiscReadFault g e))
late_which false false true n r g e = inr (inr (refl, some_fault Stopped g e))
late_which false false false n r g e = absurd (let no : ⊥ = cc in no)

disc_of : (o : Outcome) → is_disc_read o ≡ true → o ≡ DiscRead
disc_of DiscRead e = refl
disc_of o e = absurd (false≢true e)

tape_of : (o : Outcome) → is_tape_read o ≡ true → o ≡ TapeRead
tape_of TapeRead e = refl
tape_of o e = absurd (false≢true e)

cut_of : (o : Outcome) → is_cut o ≡ true → o ≡ Cut
cut_of Cut e = refl
cut_of o e = absurd (false≢true e)

and_first : (a b : Bool) → (a && b) ≡ true → a ≡ true
and_first true b e = refl
and_first false b e = absurd (false≢true e)

-- a refusal that is the devices' own has its outcome
abbrev OutcomeOf : StoreFault → Outcome → Type 0
OutcomeOf DiscReadFault o = o ≡ DiscRead
OutcomeOf TapeReadFault o = o ≡ TapeRead
OutcomeOf Stopped o = o ≡ Cut
OutcomeOf fault o = Unit {0}

no_plain : (t : Tree) (who : List ℕ) (call : StoreCall) (g : StoreFault) (o : Outcome) → fault_of t who call ≡ Some g → OutcomeOf g o
no_plain t who call DiscReadFault o e = absurd (false≢true (own_fault t who call DiscReadFault DiscReadFault (sym e) refl))
no_plain t who call TapeReadFault o e = absurd (false≢true (own_fault t who call TapeReadFault TapeReadFault (sym e) refl))
no_plain t who call Stopped o e = absurd (false≢true (own_fault t who call Stopped Stopped (sym e) refl))
no_plain t who call g o e = tt

call_outcome : (s : State) (k : Holding) (who : List ℕ) (call : StoreCall) (o : Outcome) (g : StoreFault) (new : State) → CallStep s k who call o (Err g) new → OutcomeOf g o
call_outcome s k who call o g new step = by_early (refused (λ x. new ≡ s) (early s k who call o) g step)
  where
    of_late : (plan : Planned s k who call o (Err g) new) → late s k who call o plan.until ≡ Some g → OutcomeOf g o
    of_late plan some = by (late_which _ _ _ _ _ g some)
      where
        by : (DiscFull (need s k who call) (room_until s k who call plan.until) ≡ g)
            ⊎ ((((is_disc_read o && wants_bytes call && not (is_offline s k who call) && nat_lt 0 (len_of s k who call (version_read k.tree who call))) ≡ true) × (DiscReadFault ≡ g))
            ⊎ (((is_cut o && (writes call || brings_now s k who call)) ≡ true) × (Stopped ≡ g))) → OutcomeOf g o
        by (inl same) = subst (λ (x : StoreFault). OutcomeOf x o) same tt
        by (inr (inl both)) = subst (λ (x : StoreFault). OutcomeOf x o) both.1 (disc_of o (and_first (is_disc_read o) (wants_bytes call) (and_first (is_disc_read o && wants_bytes call) (not (is_offline s k who call)) (and_first (is_disc_read o && wants_bytes call && not (is_offline s k who call)) (nat_lt 0 (len_of s k who call (version_read k.tree who call))) both.0))))
        by (inr (inr both)) = subst (λ (x : StoreFault). OutcomeOf x o) both.1 (cut_of o (and_first (is_cut o) (writes call || brings_now s k who call) both.0))

    by_late : (plan : Planned s k who call o (Err g) new) → OutcomeOf g o
    by_late plan = elim (refused (λ x. LeftByRefusal s k who call o plan.until x new) (late s k who call o plan.until) g plan.step) [
      | inl none ↦ not_err (reply_to k.tree who call) g none.1.0
      | inr some ↦ of_late plan some.0
    ]

    of_early : (fault_of k.tree who call ≡ Some g) ⊎ ((WaitTape (reel_of s k who call) ≡ g) ⊎ (((is_tape_read o && is_offline s k who call) ≡ true) × (TapeReadFault ≡ g))) → OutcomeOf g o
    of_early (inl plain) = no_plain k.tree who call g o plain
    of_early (inr (inl same)) = subst (λ (x : StoreFault). OutcomeOf x o) same tt
    of_early (inr (inr both)) = subst (λ (x : StoreFault). OutcomeOf x o) both.1 (tape_of o (and_first (is_tape_read o) (is_offline s k who call) both.0))

    by_early : ((early s k who call o ≡ None) × Planned s k who call o (Err g) new) ⊎ ((early s k who call o ≡ Some g) × (new ≡ s)) → OutcomeOf g o
    by_early (inl (none, plan)) = by_late plan
    by_early (inr (some, is)) =
        of_early (early_which (fault_of k.tree who call) (is_offline s k who call && not (is_mounted s (reel_of s k who call))) (is_tape_read o && is_offline s k who call) (reel_of s k who call) g some)

-- an answer that no device causes has a step in which no device failed
own_too : (s : State) (k : Holding) (who : List ℕ) (call : StoreCall) (o : Outcome) (fault : StoreFault) (new : State) → IsOwn fault → CallStep s k who call o (Err fault) new
    → ToldBy (CallStep s k who call) o (Err fault) new
own_too s k who call o fault new own step =
    let answer : Result StoreReply StoreFault = Err fault in (
      Plain,
      plain_too s k who call o answer new (λ e. own_apart fault DiscReadFault own (λ x. x) (same_fault fault DiscReadFault e)) (λ e. own_apart fault TapeReadFault own (λ x. x) (same_fault fault TapeReadFault e))
          (λ e. own_apart fault Stopped own (λ x. x) (same_fault fault Stopped e)) step,
      told_own fault answer own refl,
      inr refl,
    )

pub call_told : (s : State) (k : Holding) (who : List ℕ) (call : StoreCall) (o : Outcome) (answer : Result StoreReply StoreFault) (new : State) → CallStep s k who call o answer new
    → ToldBy (CallStep s k who call) o answer new
call_told s k who call o (Ok reply) new step =
    (Plain, plain_too s k who call o (Ok reply) new (λ e. absurd (let no : ⊥ = cc in no)) (λ e. absurd (let no : ⊥ = cc in no)) (λ e. absurd (let no : ⊥ = cc in no)) step, told_ok reply (Ok reply) refl, inr refl)
call_told s k who call o (Err DiscReadFault) new step = (o, step, told_disc o (Err DiscReadFault) (call_outcome s k who call o DiscReadFault new step) refl, inl refl)
call_told s k who call o (Err TapeReadFault) new step = (o, step, told_tape o (Err TapeReadFault) (call_outcome s k who call o TapeReadFault new step) refl, inl refl)
call_told s k who call o (Err Stopped) new step = (o, step, told_cut o (Err Stopped) (call_outcome s k who call o Stopped new step) refl, inl refl)
call_told s k who call o (Err fault) new step = own_too s k who call o fault new tt step

-- PROCESS
module _ (s : State) (k : Holding) (serial : ℕ) where
  process_own : IsOwnOf (process_refuses s k serial)
  process_own = own_first ((lacks s serial, NoTape) ∷ fault_from RackNotMounted (first_reel (λ r. not r.mounted) s.reels) ∷ (is_some s.open_dump, DumpOpen (open_number s.open_dump)) ∷ (k.last == 2 ^ 62 - 1, CountersSpent) ∷ [])
      (inr tt, (from_own RackNotMounted (λ n. tt) (first_reel (λ r. not r.mounted) s.reels), (inr tt, (inr tt, tt))))

  process_late_own : IsOwnOf (process_refuses_late s k serial)
  process_late_own = own_first ((nat_lt 0 (end_of s serial), ReelNotFree serial)
      ∷ (nat_lt (capacity_in (reel_at serial s.reels)) (process_needs k), TapeFull (process_needs k) (capacity_in (reel_at serial s.reels))) ∷ [])
      (inr tt, (inr tt, tt))

  module _ (answer : Result ℕ StoreFault) (new : State) where
    abbrev Late : Outcome → StoreFault → Type 0
    Late o fault = ((answer ≡ Err fault) ⊎ ((o ≡ TapeRead) × (answer ≡ Err TapeReadFault))) × (new ≡ s)

    abbrev ByLate : Option StoreFault → Outcome → Type 0
    ByLate g o = MatchOption g (Processes s k serial o answer new) (Late o)

    abbrev Early : StoreFault → Type 0
    Early fault = (answer ≡ Err fault) × (new ≡ s)

    told_outcome : (o : Outcome) → Processes s k serial o answer new → (told : Outcome) × Processes s k serial told answer new × OutcomeTold told answer × ((told ≡ o) ⊎ (told ≡ Plain))
    told_outcome Plain (ok, done) = (Plain, (ok, done), told_ok (k.last + 1) answer ok, inl refl)
    told_outcome DiscRead (err, left) = (DiscRead, (err, left), told_disc DiscRead answer refl err, inl refl)
    told_outcome TapeRead (err, left) = (TapeRead, (err, left), told_tape TapeRead answer refl err, inl refl)
    told_outcome Cut (err, left) = (Cut, (err, left), told_cut Cut answer refl err, inl refl)

    told_late : (g : Option StoreFault) → IsOwnOf g → (o : Outcome) → ByLate g o → (told : Outcome) × ByLate g told × OutcomeTold told answer × ((told ≡ o) ⊎ (told ≡ Plain))
    told_late None own o step = told_outcome o step
    told_late (Some fault) own o (inl err, is) = (Plain, (inl err, is), told_own fault answer own err, inr refl)
    told_late (Some fault) own o (inr (tape, err), is) = (o, (inr (tape, err), is), told_tape o answer tape err, inl refl)

    told_early : (f : Option StoreFault) → IsOwnOf f → (o : Outcome) → MatchOption f (ByLate (process_refuses_late s k serial) o) Early
        → (told : Outcome) × MatchOption f (ByLate (process_refuses_late s k serial) told) Early × OutcomeTold told answer × ((told ≡ o) ⊎ (told ≡ Plain))
    told_early None own o step = told_late (process_refuses_late s k serial) process_late_own o step
    told_early (Some fault) own o (err, is) = (Plain, (err, is), told_own fault answer own err, inr refl)

  pub process_told : (o : Outcome) (answer : Result ℕ StoreFault) (new : State) → ProcessStep s k serial o answer new → ToldBy (ProcessStep s k serial) o answer new
  process_told o answer new step = told_early answer new (process_refuses s k serial) process_own o step
