-- Events of two states that differ only in first blocks of copies, in which no device failed: they have the same answer,
-- and leave two such states.
-- serves: OneTextLemmas, OpenAlikeLemmas, ProcessAlikeLemmas, WorldAlikeLemmas
use Rattle.std.proofs.Common.{◌≡◌, ◌||◌, ℕ, Bool, true, false, not, List, [], ◌∷◌, Option, Some, None, option_map, is_some, is_none, Result, Ok, Err, MatchOption, if◌then◌else◌, refl, sym, ◌∙◌, ap, subst, inl, inr, arith}
use Rattle.std.proofs.lemmas.Bool.{false≢true}
use Rattle.std.specs.List.{list_all}
use Rattle.std.specs.Ordering.{nat_cmp}
use Rattle.std.specs.FinMap.{FinMap, empty, get}
use Rattle.g_entry.specs.declared.file_rec.TapeCopy.{TapeCopy}
use Rattle.g_entry.specs.declared.head.Intent.{Intent}
use Rattle.g_name.specs.declared.full.Full.{Full}
use Rattle.g_name.specs.declared.path.Path.{Path}
use Rattle.g_plain.specs.Programs.{Answer}
use Rattle.g_plain.specs.PlainStep.{first_fault}
use Rattle.g_plain.specs.PlainTree.{formatted, has_file, has_user, input_name}
use Rattle.g_plain.specs.declared.calls.StoreCall.{StoreCall}
use Rattle.g_plain.specs.declared.faults.StoreFault.{StoreFault}
use Rattle.g_plain.specs.declared.faults.StoreFault.TheVariants.{DiscReadFault, MountFirst, NoDump, NoFile, NoTape, NoUser, NotDumped, NotMounted, Offline, RackNotMounted, Stopped, TapeBusy, TapeReadFault}
use Rattle.g_store_model.specs.Laws.{StepIsOne}
use Rattle.g_store_model.specs.CallStep.{CallStep, Outcome, Plain, commits, stamp_of}
use Rattle.g_store_model.specs.DumpSteps.{Completed, DumpStep, Event, Going, MountStep, Stepped as DumpStepped, UnmountStep, completed, is_busy, kept_now, migrate_refuses, noted_copy, uses, with_mounted}
use Rattle.g_store_model.specs.Rising.{FormatStep, RestoreStep, Restores, StartStep, Starts, adopted, coming_up, dump_adopted, fault_from, has_none, is_completed, other_copy, restore_early, restore_late, restored, start_refuses, unmounted_reel}
use Rattle.g_store_model.specs.State.{Dumped as DumpedTree, Holding, OpenDump, Place, State, first_reel, is_mounted, lacks, place_at, with_online, with_reel}
use Rattle.g_run_model.specs.Events.{IsCall, IsDumpStep, IsMigration}
use Rattle.g_run_model.specs.Laws.{HasDumped}
use Rattle.g_run_model.proofs.BareLemmas.{bare_copies, bare_copy, bare_dumped, bare_holding, bare_open, bare_place, bare_state, call_bare, commits_bare, none_bare, place_at_bare, with_online_bare}
use Rattle.g_run_model.proofs.EventToldLemmas.{GoesWith, IsOwnOf, format_goes, format_refuses, late_goes, migrate_goes, start_goes}
use Rattle.g_run_model.proofs.MappedLemmas.{get-mapped, mapped-mapped}

-- one answer, and states that are alike
abbrev pub AreSame : {A : Type 0} → A → A → State → State → Type 0
AreSame a b new other = (a ≡ b) × (bare_state new ≡ bare_state other)

pub plain_own : (f : Outcome → Option StoreFault) → GoesWith f Plain → IsOwnOf (f Plain)
plain_own f (inl (same, own)) = own
plain_own f (inr (inl (so, is))) = absurd (let no : ⊥ = cc in no)
plain_own f (inr (inr (inl (so, is)))) = absurd (let no : ⊥ = cc in no)
plain_own f (inr (inr (inr (so, is)))) = absurd (let no : ⊥ = cc in no)

module _ {A : Type 0} (reply : A) (s t after behind : State) (a b : Result A StoreFault) (new other : State) (same : bare_state s ≡ bare_state t) (same_after : bare_state after ≡ bare_state behind) where
  event_by : (f : Option StoreFault) → IsOwnOf f → Event f reply s after a new → Event f reply t behind b other → AreSame a b new other
  event_by None own (ok, is) (ok2, is2) = (ok ∙ sym ok2, ap bare_state is ∙ same_after ∙ sym (ap bare_state is2))
  event_by (Some Stopped) own one two = absurd own
  event_by (Some f) own (err, is) (err2, is2) = (err ∙ sym err2, ap bare_state is ∙ same ∙ sym (ap bare_state is2))

  pub event_alike : (f g : Option StoreFault) (said : A) → f ≡ g → reply ≡ said → IsOwnOf f → Event f reply s after a new → Event g said t behind b other → AreSame a b new other
  event_alike f g said ef er own one two =
      event_by f own one (subst (λ (x : Option StoreFault). Event x reply t behind b other) (sym ef) (subst (λ (x : A). Event g x t behind b other) (sym er) two))

some_fault : (f g : StoreFault) → (let one : Option StoreFault = Some f in one ≡ Some g) → f ≡ g
some_fault f g e = cc

one_dumped : (d e : DumpedTree) → (let one : Option DumpedTree = Some d in one ≡ Some e) → d ≡ e
one_dumped d e is = cc

pub one_holding : (k h : Holding) → (let one : Option Holding = Some k in one ≡ Some h) → k ≡ h
one_holding k h e = cc

-- the holdings of two states that are alike
pub held_alike : (s t : State) (k h : Holding) → bare_state s ≡ bare_state t → s.holding ≡ Some k → t.holding ≡ Some h → bare_holding k ≡ bare_holding h
held_alike s t k h same holds has =
    one_holding (bare_holding k) (bare_holding h) (sym (ap (option_map bare_holding) holds) ∙ ap (λ (x : State). x.holding) same ∙ ap (option_map bare_holding) has)

-- A CALL
pub calls_alike : StepIsOne → (s t : State) (who : List ℕ) (call : StoreCall) (a b : Answer) (new other : State) → bare_state s ≡ bare_state t → IsCall s who call Plain a new → IsCall t who call Plain b other → AreSame a b new other
calls_alike step_is_one s t who call a b new other same (k, holds, step, so) (h, has, step2, so2) =
    let held : bare_holding k ≡ bare_holding h = held_alike s t k h same holds has in
    let one : CallStep (bare_state s) (bare_holding k) who call Plain a (bare_state new) = call_bare s k who call a new step in
    let two : CallStep (bare_state t) (bare_holding h) who call Plain b (bare_state other) = call_bare t h who call b other step2 in
    let here : CallStep (bare_state s) (bare_holding k) who call Plain b (bare_state other) =
    subst (λ (x : State). CallStep x (bare_holding k) who call Plain b (bare_state other)) (sym same) (subst (λ (x : Holding). CallStep (bare_state t) x who call Plain b (bare_state other)) (sym held) two) in
    step_is_one (bare_state s) (bare_holding k) who call a b (bare_state new) (bare_state other) one here

-- FORMAT
abbrev first_holding : Holding
first_holding = record { tree = formatted; places = empty; last = 0; intent = None; kept = empty }

pub formats_alike : (s t : State) (a b : Result (Unit {0}) StoreFault) (new other : State) → bare_state s ≡ bare_state t → FormatStep s Plain a new → FormatStep t Plain b other → AreSame a b new other
formats_alike s t a b new other same one two =
    event_alike tt s t _ _ a b new other same (ap (λ (x : State). coming_up x (bare_holding first_holding)) same) (format_refuses s Plain) (format_refuses t Plain) tt (ap (λ (x : State). format_refuses x Plain) same) refl
    (plain_own (format_refuses s) (format_goes s Plain)) one two

-- START
unmounted_bare : (s : State) (i : Option Intent) → unmounted_reel (bare_state s) i ≡ unmounted_reel s i
unmounted_bare s None = refl
unmounted_bare s (Some i) = refl

completed_bare : (s : State) (i : Option Intent) → is_completed (bare_state s) i ≡ is_completed s i
completed_bare s None = refl
completed_bare s (Some i) = refl

adopted_by : (b : Bool) (d : Option DumpedTree) → option_map bare_dumped (if b then d else None) ≡ (if b then option_map bare_dumped d else None)
adopted_by true d = refl
adopted_by false d = refl

dump_adopted_bare : (s : State) (k : Holding) → option_map bare_dumped (dump_adopted s k) ≡ dump_adopted (bare_state s) (bare_holding k)
dump_adopted_bare s k = adopted_by (is_completed s k.intent) s.dumped ∙ ap (λ (b : Bool). if b then option_map bare_dumped s.dumped else None) (sym (completed_bare s k.intent))

number_bare : (d : Option DumpedTree) → option_map (λ (x : DumpedTree). x.number) (option_map bare_dumped d) ≡ option_map (λ (x : DumpedTree). x.number) d
number_bare None = refl
number_bare (Some d) = refl

other_bare : (c : Option TapeCopy) (p : Place) → bare_place (other_copy c p) ≡ other_copy (option_map bare_copy c) (bare_place p)
other_bare None p = refl
other_bare (Some c) p = refl

adopted_bare : (d : Option DumpedTree) (k : Holding) → bare_holding (adopted d k) ≡ adopted (option_map bare_dumped d) (bare_holding k)
adopted_bare None k = refl
adopted_bare (Some d) k =
    ap (λ (m : FinMap nat_cmp Place). let h : Holding = record k { places = m; last = d.number; intent = None } in h)
    (mapped-mapped bare_place (λ stamp p. other_copy (get d.own stamp) p) (λ stamp p. other_copy (get (bare_copies d.own) stamp) p)
    (λ stamp p. other_bare (get d.own stamp) p ∙ ap (λ (c : Option TapeCopy). other_copy c (bare_place p)) (sym (get-mapped (λ n c. bare_copy c) d.own stamp))) k.places)

starts_alike : (s t : State) (h i : Option Holding) (a b : Result (Option ℕ) StoreFault) (new other : State) → bare_state s ≡ bare_state t → option_map bare_holding h ≡ option_map bare_holding i
    → Starts s h Plain a new → Starts t i Plain b other → AreSame a b new other
starts_alike s t None None a b new other same held (err, is) (err2, is2) = (err ∙ sym err2, ap bare_state is ∙ same ∙ sym (ap bare_state is2))
starts_alike s t None (Some i) a b new other same held one two = absurd (let no : ⊥ = cc in no)
starts_alike s t (Some h) None a b new other same held one two = absurd (let no : ⊥ = cc in no)
starts_alike s t (Some h) (Some i) a b new other same held one two =
    event_alike (option_map (λ (x : DumpedTree). x.number) (dump_adopted s h)) s t _ _ a b new other same after (start_refuses s h Plain) (start_refuses t i Plain)
    (option_map (λ (x : DumpedTree). x.number) (dump_adopted t i)) refusals replies (plain_own (start_refuses s h) (start_goes s h Plain)) one two
  where
    here : bare_holding h ≡ bare_holding i
    here = one_holding (bare_holding h) (bare_holding i) held

    intents : h.intent ≡ i.intent
    intents = ap (λ (x : Holding). x.intent) here

    dumps : dump_adopted (bare_state s) (bare_holding h) ≡ dump_adopted (bare_state t) (bare_holding i)
    dumps = ap (λ (x : State). dump_adopted x (bare_holding h)) same ∙ ap (λ (x : Holding). dump_adopted (bare_state t) x) here

    after : bare_state (coming_up s (adopted (dump_adopted s h) h)) ≡ bare_state (coming_up t (adopted (dump_adopted t i) i))
    after =
        ap (λ (x : Holding). coming_up (bare_state s) x) (adopted_bare (dump_adopted s h) h ∙ ap (λ (d : Option DumpedTree). adopted d (bare_holding h)) (dump_adopted_bare s h ∙ dumps))
        ∙ ap (λ (x : State). coming_up x (adopted (dump_adopted (bare_state t) (bare_holding i)) (bare_holding h))) same
        ∙ ap (λ (x : Holding). coming_up (bare_state t) x)
        (ap (λ (x : Holding). adopted (dump_adopted (bare_state t) (bare_holding i)) x) here ∙ ap (λ (d : Option DumpedTree). adopted d (bare_holding i)) (sym (dump_adopted_bare t i)) ∙ sym (adopted_bare (dump_adopted t i) i))

    replies : option_map (λ (x : DumpedTree). x.number) (dump_adopted s h) ≡ option_map (λ (x : DumpedTree). x.number) (dump_adopted t i)
    replies = sym (number_bare (dump_adopted s h)) ∙ ap (option_map (λ (x : DumpedTree). x.number)) (dump_adopted_bare s h ∙ dumps ∙ sym (dump_adopted_bare t i)) ∙ number_bare (dump_adopted t i)

    refusals : start_refuses s h Plain ≡ start_refuses t i Plain
    refusals = ap (λ (reel : Option ℕ). first_fault (fault_from MountFirst reel ∷ (false, TapeReadFault) ∷ (false, Stopped) ∷ [])) (sym (unmounted_bare s h.intent) ∙ ap (λ (x : State). unmounted_reel x h.intent) same ∙ ap (λ (x : Option Intent). unmounted_reel (bare_state t) x) intents ∙ unmounted_bare t i.intent)

pub startings_alike : (s t : State) (a b : Result (Option ℕ) StoreFault) (new other : State) → bare_state s ≡ bare_state t → StartStep s Plain a new → StartStep t Plain b other → AreSame a b new other
startings_alike s t a b new other same one two = starts_alike s t s.holding t.holding a b new other same (ap (λ (x : State). x.holding) same) one two

-- RESTORE
restores_alike : (s t : State) (d e : Option DumpedTree) (a b : Result ℕ StoreFault) (new other : State) → bare_state s ≡ bare_state t → option_map bare_dumped d ≡ option_map bare_dumped e → (d ≡ None → ⊥)
    → Restores s d Plain a new → Restores t e Plain b other → AreSame a b new other
restores_alike s t None e a b new other same dumps there one two = absurd (there refl)
restores_alike s t (Some d) None a b new other same dumps there one two = absurd (let no : ⊥ = cc in no)
restores_alike s t (Some d) (Some e) a b new other same dumps there one two =
    event_alike d.number s t _ _ a b new other same after (restore_late Plain) (restore_late Plain) e.number refl (ap (λ (x : DumpedTree). x.number) here) (plain_own restore_late (late_goes s Plain)) one two
  where
    here : bare_dumped d ≡ bare_dumped e
    here = one_dumped (bare_dumped d) (bare_dumped e) dumps

    after : bare_state (coming_up s (restored d)) ≡ bare_state (coming_up t (restored e))
    after = ap (λ (x : State). coming_up x (restored (bare_dumped d))) same ∙ ap (λ (x : DumpedTree). coming_up (bare_state t) (restored x)) here

early_none : (reel : Bool × StoreFault) (b : Bool) → first_fault (reel ∷ (false, TapeReadFault) ∷ (b, NoDump) ∷ []) ≡ None → b ≡ false
early_none (true, f) b e = absurd (let no : ⊥ = cc in no)
early_none (false, f) true e = absurd (let no : ⊥ = cc in no)
early_none (false, f) false e = refl

restorings_by : (s t : State) (f g : Option StoreFault) (a b : Result ℕ StoreFault) (new other : State) → f ≡ g → bare_state s ≡ bare_state t → (f ≡ None → s.dumped ≡ None → ⊥)
    → MatchOption f (Restores s s.dumped Plain a new) (λ fault. (a ≡ Err fault) × (new ≡ s)) → MatchOption g (Restores t t.dumped Plain b other) (λ fault. (b ≡ Err fault) × (other ≡ t)) → AreSame a b new other
restorings_by s t None None a b new other ef same there one two = restores_alike s t s.dumped t.dumped a b new other same (ap (λ (x : State). x.dumped) same) (there refl) one two
restorings_by s t (Some f) (Some g) a b new other ef same there (err, is) (err2, is2) =
    (err ∙ ap (λ (x : StoreFault). let r : Result ℕ StoreFault = Err x in r) (some_fault f g ef) ∙ sym err2, ap bare_state is ∙ same ∙ sym (ap bare_state is2))
restorings_by s t None (Some g) a b new other ef same there one two = absurd (let no : ⊥ = cc in no)
restorings_by s t (Some f) None a b new other ef same there one two = absurd (let no : ⊥ = cc in no)

pub restorings_alike : (s t : State) (a b : Result ℕ StoreFault) (new other : State) → bare_state s ≡ bare_state t → HasDumped s → RestoreStep s Plain a new → RestoreStep t Plain b other → AreSame a b new other
restorings_alike s t a b new other same has one two =
    restorings_by s t (restore_early s Plain) (restore_early t Plain) a b new other (ap (λ (x : State). restore_early x Plain) same) same
    (λ none lacks_it. false≢true (sym (early_none (fault_from RackNotMounted (first_reel (λ r. not r.mounted) s.reels)) (list_all has_none s.reels) none) ∙ has lacks_it)) one two

-- MOUNT AND UNMOUNT
lack_own : (b : Bool) → IsOwnOf (first_fault ((b, NoTape) ∷ []))
lack_own true = tt
lack_own false = tt

pub mountings_alike : (s t : State) (serial : ℕ) (a b : Result (Unit {0}) StoreFault) (new other : State) → bare_state s ≡ bare_state t → MountStep s serial a new → MountStep t serial b other → AreSame a b new other
mountings_alike s t serial a b new other same one two =
    event_alike tt s t _ _ a b new other same (ap (λ (x : State). let y : State = record x { reels = with_reel serial (with_mounted true) x.reels } in y) same) _ _ tt (ap (λ (x : State). first_fault ((lacks x serial, NoTape) ∷ [])) same) refl
    (lack_own (lacks s serial)) one two

busy_bare : (serial : ℕ) (d : Option OpenDump) → is_busy serial (option_map bare_open d) ≡ is_busy serial d
busy_bare serial None = refl
busy_bare serial (Some d) = refl

abbrev unmount_refuses : State → ℕ → Option OpenDump → Option StoreFault
unmount_refuses s serial d = first_fault ((lacks s serial, NoTape) ∷ (not (is_mounted s serial), NotMounted) ∷ (is_busy serial d, TapeBusy) ∷ [])

unmount_own : (a b c : Bool) → IsOwnOf (first_fault ((a, NoTape) ∷ (b, NotMounted) ∷ (c, TapeBusy) ∷ []))
unmount_own true b c = tt
unmount_own false true c = tt
unmount_own false false true = tt
unmount_own false false false = tt

unmount_bare : (s : State) (serial : ℕ) → unmount_refuses (bare_state s) serial (bare_state s).open_dump ≡ unmount_refuses s serial s.open_dump
unmount_bare s serial = ap (λ (b : Bool). first_fault ((lacks s serial, NoTape) ∷ (not (is_mounted s serial), NotMounted) ∷ (b, TapeBusy) ∷ [])) (busy_bare serial s.open_dump)

pub unmountings_alike : (s t : State) (serial : ℕ) (a b : Result (Unit {0}) StoreFault) (new other : State) → bare_state s ≡ bare_state t → UnmountStep s serial a new → UnmountStep t serial b other → AreSame a b new other
unmountings_alike s t serial a b new other same one two =
    event_alike tt s t _ _ a b new other same (ap (λ (x : State). let y : State = record x { reels = with_reel serial (with_mounted false) x.reels } in y) same) _ _ tt
    (sym (unmount_bare s serial) ∙ ap (λ (x : State). unmount_refuses x serial x.open_dump) same ∙ unmount_bare t serial) refl
    (unmount_own (lacks s serial) (not (is_mounted s serial)) (is_busy serial s.open_dump)) one two

-- MIGRATE
migrate_bare : (k : Holding) (user : Option (List ℕ)) (full : Full) → migrate_refuses (bare_holding k) user full Plain ≡ migrate_refuses k user full Plain
migrate_bare k user full =
    ap (λ (p : Place). first_fault ((is_none user || not (has_user k.tree full.user), NoUser) ∷ (not (has_file k.tree full), NoFile) ∷ (not p.online, Offline) ∷ (is_none p.copy, NotDumped) ∷ (false, Stopped) ∷ [])) (place_at_bare k.places (stamp_of k.tree full))
    ∙ ap (λ (b : Bool). first_fault ((is_none user || not (has_user k.tree full.user), NoUser) ∷ (not (has_file k.tree full), NoFile) ∷ (not (place_at k.places (stamp_of k.tree full)).online, Offline) ∷ (b, NotDumped) ∷ (false, Stopped) ∷ []))
    (none_bare bare_copy (place_at k.places (stamp_of k.tree full)).copy)

migrated : State → Holding → Full → State
migrated s k full = commits s (record k { places = with_online false (stamp_of k.tree full) k.places })

migrated_bare : (s : State) (k : Holding) (full : Full) → bare_state (migrated s k full) ≡ migrated (bare_state s) (bare_holding k) full
unfolding migrated
migrated_bare s k full = commits_bare s (record k { places = with_online false (stamp_of k.tree full) k.places })
    ∙ ap (λ (m : FinMap nat_cmp Place). commits (bare_state s) (record k { places = m })) (with_online_bare false (stamp_of k.tree full) k.places)

pub migratings_alike : (s t : State) (path : Path) (a b : Result Full StoreFault) (new other : State) → bare_state s ≡ bare_state t → IsMigration s path Plain a new → IsMigration t path Plain b other → AreSame a b new other
unfolding migrated
migratings_alike s t path a b new other same (k, holds, one, so) (h, has, two, so2) =
    event_alike (input_name k.tree [] path) s t (migrated s k (input_name k.tree [] path)) (migrated t h (input_name h.tree [] path)) a b new other same after _ _ (input_name h.tree [] path) refusals names
    (plain_own (migrate_refuses k path.user (input_name k.tree [] path)) (migrate_goes s k path.user (input_name k.tree [] path) Plain)) one two
  where
    here : bare_holding k ≡ bare_holding h
    here = held_alike s t k h same holds has

    names : input_name k.tree [] path ≡ input_name h.tree [] path
    names = ap (λ (x : Holding). input_name x.tree [] path) here

    refusals : migrate_refuses k path.user (input_name k.tree [] path) Plain ≡ migrate_refuses h path.user (input_name h.tree [] path) Plain
    refusals = sym (migrate_bare k path.user (input_name k.tree [] path)) ∙ ap (λ (x : Holding). migrate_refuses x path.user (input_name x.tree [] path) Plain) here ∙ migrate_bare h path.user (input_name h.tree [] path)

    after : bare_state (migrated s k (input_name k.tree [] path)) ≡ bare_state (migrated t h (input_name h.tree [] path))
    after = migrated_bare s k (input_name k.tree [] path) ∙ ap (λ (x : State). migrated x (bare_holding k) (input_name k.tree [] path)) same
        ∙ ap (λ (x : Holding). migrated (bare_state t) x (input_name x.tree [] path)) here ∙ sym (migrated_bare t h (input_name h.tree [] path))

-- A STEP OF THE OPEN DUMP
noted_by : (b : Bool) (p q : Place) → bare_place (if b then record p { copy = q.copy } else p) ≡ (if b then record (bare_place p) { copy = (bare_place q).copy } else bare_place p)
noted_by true p q = refl
noted_by false p q = refl

noted_bare : (d : OpenDump) (stamp : ℕ) (p : Place) → bare_place (noted_copy d stamp p) ≡ noted_copy (bare_open d) stamp (bare_place p)
noted_bare d stamp p = noted_by (is_some (get d.waiting stamp)) p (place_at d.places stamp)
    ∙ ap (λ (q : Place). if is_some (get d.waiting stamp) then record (bare_place p) { copy = q.copy } else bare_place p) (sym (place_at_bare d.places stamp))

completed_state_bare : (d : OpenDump) (k : Holding) (s : State) → bare_state (uses true d (completed d k s)) ≡ uses true (bare_open d) (completed (bare_open d) (bare_holding k) (bare_state s))
completed_state_bare d k s =
    ap (λ (m : FinMap nat_cmp Place). let t : State = record (uses true (bare_open d) (completed (bare_open d) (bare_holding k) (bare_state s))) { holding = Some (record k { places = m; last = d.number; intent = None; kept = kept_now d k.tree }) } in t)
    (mapped-mapped bare_place (λ stamp p. noted_copy d stamp p) (λ stamp p. noted_copy (bare_open d) stamp p) (λ stamp p. noted_bare d stamp p) k.places)

dump_bare : (s : State) (k : Holding) (d : OpenDump) (r : Result DumpStepped StoreFault) (new : State) → DumpStep s k d Plain r new → DumpStep (bare_state s) (bare_holding k) (bare_open d) Plain r (bare_state new)
dump_bare s k d (Ok Going) new (more, cut, read, is) = (more, cut, read, ap bare_state is)
dump_bare s k d (Ok (Completed n)) new (last, cut, number, is) = (last, cut, number, ap bare_state is ∙ completed_state_bare d k s)
dump_bare s k d (Err DiscReadFault) new (read, content, is) = absurd (let no : ⊥ = cc in no)
dump_bare s k d (Err Stopped) new (cut, left) = absurd (let no : ⊥ = cc in no)
dump_bare s k d (Err fault) new step = absurd step

dump_is_one : (s : State) (k : Holding) (d : OpenDump) (a b : Result DumpStepped StoreFault) (new other : State) → DumpStep s k d Plain a new → DumpStep s k d Plain b other → (a ≡ b) × (new ≡ other)
dump_is_one s k d (Ok Going) (Ok Going) new other (more, cut, read, is) (more2, cut2, read2, is2) = (refl, is ∙ sym is2)
dump_is_one s k d (Ok (Completed n)) (Ok (Completed m)) new other (last, cut, number, is) (last2, cut2, number2, is2) =
    (ap (λ (x : ℕ). let r : Result DumpStepped StoreFault = Ok (Completed x) in r) (number ∙ sym number2), is ∙ sym is2)
dump_is_one s k d (Ok Going) (Ok (Completed m)) new other (more, cut, read, is) (last2, cut2, number2, is2) = absurd (let no : ⊥ = omega (arith, more, last2) in no)
dump_is_one s k d (Ok (Completed n)) (Ok Going) new other (last, cut, number, is) (more2, cut2, read2, is2) = absurd (let no : ⊥ = omega (arith, last, more2) in no)
dump_is_one s k d (Err DiscReadFault) b new other (read, content, is) two = absurd (let no : ⊥ = cc in no)
dump_is_one s k d (Err Stopped) b new other (cut, left) two = absurd (let no : ⊥ = cc in no)
dump_is_one s k d (Ok a) (Err DiscReadFault) new other one (read, content, is) = absurd (let no : ⊥ = cc in no)
dump_is_one s k d (Ok a) (Err Stopped) new other one (cut, left) = absurd (let no : ⊥ = cc in no)
dump_is_one s k d (Ok a) (Err fault) new other one two = absurd two
dump_is_one s k d (Err fault) b new other one two = absurd one

one_open : (d e : OpenDump) → (let one : Option OpenDump = Some d in one ≡ Some e) → d ≡ e
one_open d e is = cc

pub dumps_alike : (s t : State) (a b : Result DumpStepped StoreFault) (new other : State) → bare_state s ≡ bare_state t → IsDumpStep s Plain a new → IsDumpStep t Plain b other → AreSame a b new other
dumps_alike s t a b new other same (k, d, holds, opened, step, so) (h, e, has, opened2, step2, so2) =
    let held : bare_holding k ≡ bare_holding h = held_alike s t k h same holds has in
    let dump : bare_open d ≡ bare_open e = one_open (bare_open d) (bare_open e) (sym (ap (option_map bare_open) opened) ∙ ap (λ (x : State). x.open_dump) same ∙ ap (option_map bare_open) opened2) in
    let two = dump_bare t h e b other step2 in
    dump_is_one (bare_state s) (bare_holding k) (bare_open d) a b (bare_state new) (bare_state other) (dump_bare s k d a new step)
    (subst (λ (x : State). DumpStep x (bare_holding k) (bare_open d) Plain b (bare_state other)) (sym same)
    (subst (λ (x : Holding). DumpStep (bare_state t) x (bare_open d) Plain b (bare_state other)) (sym held)
    (subst (λ (x : OpenDump). DumpStep (bare_state t) (bare_holding h) x Plain b (bare_state other)) (sym dump) two)))
