-- When a start adopts a dump, and what it holds then.
-- serves: lib
use Rattle.std.proofs.Common.{◌≡◌, ℕ, List, [], ◌∷◌, ◌++◌, Option, Some, None, refl, ◌∙◌, ap, subst}
use Rattle.std.specs.Prelude.{◌==◌, ◌&&◌, Bool, true, false, find, is_some, map, Result, Ok, option_map, unwrap_or, if◌then◌else◌}
use Rattle.std.specs.Ordering.{nat_cmp}
use Rattle.std.specs.FinMap.{FinMap, empty, entries, entries_sorted, from_sorted, get, get-entries}
use Rattle.std.proofs.lemmas.Bool.{eq-eqb}
use Rattle.g_entry.specs.declared.head.Intent.{Intent}
use Rattle.g_plain.specs.declared.faults.StoreFault.{StoreFault}
use Rattle.g_plain.specs.declared.faults.StoreFault.TheVariants.{MountFirst, Stopped, TapeReadFault}
use Rattle.g_plain.specs.PlainStep.{first_fault}
use Rattle.g_store_model.specs.State.{State, Dumped, Holding, OpenDump, Place, ReelRow, Shelved, is_mounted, mounted_in, reel_at, with_reel}
use Rattle.g_store_model.specs.CallStep.{Outcome, DiscRead, Plain, down, no_longer_kept}
use Rattle.g_store_model.specs.DumpSteps.{Event, marked, noted_copy, shelved, with_noted, with_shelved}
use Rattle.g_store_model.specs.Rising.{Starts, adopted, coming_up, dump_adopted, is_completed, is_intended, other_copy, stands_on, start_refuses, unmounted_reel, fault_from}
use Rattle.g_store_model.specs.StartLaws.{HasItsDump, OwnsNoted, StartsAdopt, intent_of}
use Rattle.g_store_model.proofs.OneLemmas.{AllOwn, own_all}
use Rattle.g_store_model.proofs.ProcessLemmas.{found_with}

-- A reply with a number implies a complete dump.
done_reply : {A : Type 0} (refusal : Option StoreFault) (reply : A) (s after : State) (answer : A) (new : State) → Event refusal reply s after (Ok answer) new → (let one : Result A StoreFault = Ok answer in one ≡ Ok reply)
done_reply None reply s after answer new step = step.0
done_reply (Some Stopped) reply s after answer new step = absurd (let e = step.0 in (let no : ⊥ = cc in no))
done_reply (Some fault) reply s after answer new step = absurd (let e = step.0 in (let no : ⊥ = cc in no))

not_none : {A : Type 0} (n : ℕ) (o : Option Dumped) → (let one : Result (Option ℕ) StoreFault = Ok (Some n) in one ≡ Ok (option_map (λ (d : Dumped). d.number) o)) → o ≡ None → A
not_none n None e is = absurd (let no : ⊥ = cc in no)
not_none n (Some d) e is = absurd (let no : ⊥ = cc in no)

its_dump : (s : State) (k : Holding) (intent : Option Intent) → k.intent ≡ intent → is_completed s intent ≡ true → HasItsDump s k
its_dump s k None is done = absurd (let no : ⊥ = cc in no)
its_dump s k (Some i) is done = record { intent = i; named = is; stands = done }

by_completed : (s : State) (k : Holding) (n : ℕ) (b : Bool) → is_completed s k.intent ≡ b
    → (let one : Result (Option ℕ) StoreFault = Ok (Some n) in one ≡ Ok (option_map (λ (d : Dumped). d.number) (if b then s.dumped else None))) → HasItsDump s k
by_completed s k n true is e = its_dump s k k.intent refl is
by_completed s k n false is e = not_none n None e refl

started_only : (s : State) (k : Holding) (o : Outcome) (n : ℕ) (new : State) → Starts s (Some k) o (Ok (Some n)) new → HasItsDump s k
started_only s k DiscRead n new step = absurd (let e = step.0 in (let no : ⊥ = cc in no))
started_only s k o n new step =
    by_completed s k n (is_completed s k.intent) refl
    (done_reply (start_refuses s k o) (option_map (λ (d : Dumped). d.number) (dump_adopted s k)) s (coming_up s (adopted (dump_adopted s k) k)) (Some n) new step)

-- THE COPIES are those that the closing would note
abbrev adopts : OpenDump → ℕ × Place → ℕ × Place
adopts d e = (e.0, other_copy (get d.own e.0) e.1)

abbrev notes : OpenDump → ℕ × Place → ℕ × Place
notes d e = (e.0, noted_copy d e.0 e.1)

with_place : ℕ → Place → ℕ × Place
with_place n p = (n, p)

same_copies : (d : OpenDump) (k : Holding) → OwnsNoted d k → (es : List (ℕ × Place)) → AllOwn (entries k.places) es → map (adopts d) es ≡ map (notes d) es
unfolding with_place
same_copies d k owns [] own = refl
same_copies d k owns (e ∷ es) own =
    ap (λ (p : Place). with_place e.0 p ∷ map (adopts d) es) (owns.each e.0 e.1 (get-entries k.places e.0 ∙ own.0))
    ∙ ap (λ (fs : List (ℕ × Place)). notes d e ∷ fs) (same_copies d k owns es own.1)

same_places : (d : OpenDump) (k : Holding) → OwnsNoted d k → from_sorted {R = nat_cmp} (map (adopts d) (entries k.places)) ≡ with_noted d k.places
same_places d k owns = ap (λ (es : List (ℕ × Place)). from_sorted {R = nat_cmp} es) (same_copies d k owns (entries k.places) (own_all (entries k.places) (entries_sorted k.places)))

-- The dump is on its reel after the mark was written.
found_last : (test : Shelved → Bool) (ds : List Shelved) (d : Shelved) → test d ≡ true → is_some (find test (ds ++ d ∷ [])) ≡ true
found_last test [] d is = ap (λ (b : Bool). is_some (if b then Some d else None)) is
found_last test (x ∷ xs) d is = at (test x) (found_last test xs d is)
  where
    at : (b : Bool) → is_some (find test (xs ++ d ∷ [])) ≡ true → is_some (if b then Some x else find test (xs ++ d ∷ [])) ≡ true
    at true rest = refl
    at false rest = rest

is_its : (d : OpenDump) → is_intended (intent_of d) (shelved d) ≡ true
is_its d = ap (λ (b : Bool). b && (d.number == d.number)) (eq-eqb d.place d.place refl) ∙ ap (λ (b : Bool). true && b) (eq-eqb d.number d.number refl)

module _ (s : State) (d : OpenDump) (r : ReelRow) (there : reel_at d.serial s.reels ≡ Some r) where
  reel_is : reel_at d.serial (with_reel d.serial (with_shelved (shelved d)) s.reels) ≡ Some (with_shelved (shelved d) r)
  reel_is = found_with d.serial (with_shelved (shelved d)) (λ q. refl) s.reels ∙ ap (option_map (with_shelved (shelved d))) there

  completed_is : is_completed (down (marked d s)) (Some (intent_of d)) ≡ true
  completed_is = ap (stands_on (intent_of d)) reel_is ∙ found_last (is_intended (intent_of d)) r.dumps (shelved d) (is_its d)

  mounted_is : r.mounted ≡ true → is_mounted (down (marked d s)) d.serial ≡ true
  mounted_is is = ap mounted_in reel_is ∙ is

-- If nothing refuses it, the event is done.
event_is : {A : Type 0} (refusal : Option StoreFault) (reply : A) (s after : State) (answer : Result A StoreFault) (new : State) → refusal ≡ None → Event refusal reply s after answer new
    → (answer ≡ Ok reply) × (new ≡ after)
event_is None reply s after answer new none step = step
event_is (Some fault) reply s after answer new none step = absurd (let no : ⊥ = cc in no)

no_refusal : (s : State) (intent : Option Intent) (i : Intent) → intent ≡ Some i → is_mounted s i.serial ≡ true
    → first_fault (fault_from MountFirst (unmounted_reel s intent) ∷ (false && is_some intent, TapeReadFault) ∷ (false && is_completed s intent, Stopped) ∷ []) ≡ None
no_refusal s None i is mounted = absurd (let no : ⊥ = cc in no)
no_refusal s (Some j) i is mounted =
    let same : is_mounted s j.serial ≡ true = ap (λ (o : Option Intent). is_mounted s (unwrap_or o j).serial) is ∙ mounted in
    ap (λ (b : Bool). first_fault (fault_from MountFirst (if b then None else Some j.serial) ∷ (false, TapeReadFault) ∷ (false, Stopped) ∷ [])) same

started_completes : (s : State) (k : Holding) (d : OpenDump) (r : ReelRow) (answer : Result (Option ℕ) StoreFault) (new : State) → k.intent ≡ Some (intent_of d)
    → reel_at d.serial s.reels ≡ Some r → r.mounted ≡ true → OwnsNoted d k → Starts (down (marked d s)) (Some (no_longer_kept k)) Plain answer new
    → (answer ≡ Ok (Some d.number)) × (new.holding ≡ Some (record k { places = with_noted d k.places; last = d.number; intent = None; kept = empty }))
started_completes s k d r answer new intent there mounted owns step =
    let t = down (marked d s) in
    let none : start_refuses t (no_longer_kept k) Plain ≡ None = no_refusal t k.intent (intent_of d) intent (mounted_is s d r there mounted) in
    let done = event_is (start_refuses t (no_longer_kept k) Plain) _ t _ answer new none step in
    let completed : is_completed t k.intent ≡ true = ap (is_completed t) intent ∙ completed_is s d r there in
    let it : Dumped = record { number = d.number; tree = d.tree; places = d.places; own = d.own } in
    let adopts : dump_adopted t (no_longer_kept k) ≡ Some it = ap (λ (b : Bool). let o : Option Dumped = if b then Some it else None in o) completed in (
      done.0 ∙ ap (λ (o : Option Dumped). let a : Result (Option ℕ) StoreFault = Ok (option_map (λ (x : Dumped). x.number) o) in a) adopts,
      ap (λ (u : State). u.holding) done.1
          ∙ ap (λ (o : Option Dumped). let h : Option Holding = Some (record (adopted o (no_longer_kept k)) { kept = empty }) in h) adopts
          ∙ ap (λ (ps : FinMap nat_cmp Place). let h : Option Holding = Some (record k { places = ps; last = d.number; intent = None; kept = empty }) in h) (same_places d k owns),
    )

pub starts_adopt : StartsAdopt
starts_adopt = record {
  only = λ s k o number new held step. started_only s k o number new (subst (λ (h : Option Holding). Starts s h o (Ok (Some number)) new) held step);
  completes = λ s k d r answer new held intent there mounted owns step.
      started_completes s k d r answer new intent there mounted owns
      (subst (λ (h : Option Holding). Starts (down (marked d s)) (option_map no_longer_kept h) Plain answer new) held step);
}
