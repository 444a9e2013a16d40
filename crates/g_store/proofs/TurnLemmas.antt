-- Mounting and unmounting are the step's, and a store preserves its invariant.
-- serves: mount, unmount, crates above
use Rattle.std.proofs.Common.{◌≡◌, ℕ, Bool, true, false, List, [], ◌∷◌, Option, Some, None, Result, Ok, Err, refl, sym, ◌∙◌, ap, arith, subst, inl, inr, true≢false}
use Rattle.std.specs.Prelude.{◌⊎◌, ◌&&◌, IfSome, is_none, not, if◌then◌else◌}
use Rattle.std.specs.Option.{option_map}
use Rattle.std.proofs.lemmas.Bool.{cases_eq, eqb-false, false≢true}
use Rattle.std.proofs.lemmas.List.Elements.{All-weaker}
use Rattle.std.proofs.lemmas.Option.{none-some, same_Some}
use Rattle.g_tape.specs.Reel.{Reel, with_mounted}
use Rattle.g_tape.specs.Rack.{Mounting, Rack, changed, is_mounted, reel, refuses_mount, refuses_unmount}
use Rattle.g_tape.specs.declared.fault.TapeFault.{TapeFault}
use Rattle.g_tape.specs.declared.fault.TapeFault.TheVariants as tape
use Rattle.g_plain.specs.declared.faults.StoreFault.{StoreFault}
use Rattle.g_plain.specs.declared.faults.StoreFault.TheVariants.{NoTape, NotMounted, TapeBusy}
use Rattle.g_plain.specs.PlainStep.{first_fault}
use Rattle.g_disc_contents.specs.Contents.{Contents, File}
use Rattle.g_disc_contents.specs.Facts.{OnlineFacts}
use Rattle.g_incr.specs.Plan.{Plan, dump_of}
use Rattle.g_shelf.specs.CompletedDumps.{AreShelved}
use Rattle.g_store_model.specs.State as state
use Rattle.g_store_model.specs.CallStep.{Outcome, Plain}
use Rattle.g_store_model.specs.DumpSteps as dumps
use Rattle.g_store_meaning.specs.Answers.{Belongs, IsStore, Told, WroteCommits}
use Rattle.g_store_meaning.specs.Meaning.{told_reels}
use Rattle.g_store_meaning.specs.Reading.{AllTold, HasText, IsOpenView, IsRackView, IsView, OpensTo, Opened, StandsForState, View, open_of, state_up}
use Rattle.g_store_meaning.specs.StoreInvariant.{DumpFacts, IsOpen, IsUp, StoreFacts, with_dump}
use Rattle.g_store_meaning.proofs.StayLemmas.{stays_open}
use Rattle.g_laws_store.proofs.DumpingLemmas.{events_stay_up}
use Rattle.g_laws_store.proofs.TiedLemmas.{devices_belong}
use Rattle.g_laws_store.specs.Rooms.{held_in}
use Rattle.g_store.specs.Refusing.{DoneOr, is_on, mount_refuses, rack_answer, unmount_refuses}
use Rattle.g_store.specs.Events.{AnswersEvent, IsAnsweredBy, LeadsBy, Mounts, Unmounts}
use Rattle.g_store.proofs.EventLemmas.{held_by, leads_same, none_written, refused}
use Rattle.g_store.proofs.MountLemmas.{dumps_stay, lacks_by, mounted_by, other_reel, rows_turned, same_reel, serials_stay, shelved_turned, told_after, told_before, told_turned, turned}
use Rattle.g_store_calls.proofs.SeenLemmas.{Seen, seen, stands}
use Rattle.g_store_calls.proofs.SurvivalLemmas.{stays_durable}

-- THE VIEW stays right
module _ (s : ℕ) (is : Bool) (held : Option (List (List ℕ))) (reels : List Reel) where
  pub rack_view : (v : View) → IsRackView held reels v → IsRackView held (turned s is reels) v
  rack_view v right = record {
    shelved = shelved_turned s is v.shelf reels right.shelved;
    all = right.all ∙ sym (dumps_stay s is v.shelf reels);
    dumped = λ told. right.dumped (told_before s is held reels told);
    none = λ told. right.none (told_before s is held reels told);
  }

  pub files_view : (c : Contents) (v : View) → IsView held reels c v → IsView held (turned s is reels) c v
  files_view c v right = record {
    rack = rack_view v right.rack;
    files = All-weaker (λ (f : File). HasText (AllTold held reels) (v.text f.rec.stamp) v.dumps f) (λ (f : File). HasText (AllTold held (turned s is reels)) (v.text f.rec.stamp) v.dumps f)
        (λ f has. record { len = has.len; bytes = has.bytes; tape = λ told. has.tape (told_before s is held reels told) }) c.files right.files;
  }

opens_turned : (s : ℕ) (is : Bool) (reels : List Reel) (v : View) (plan : Plan) (content : List (List ℕ)) (o : Opened) → OpensTo reels v plan content o → OpensTo (turned s is reels) v plan content o
opens_turned s is reels v plan content o right = record {
  is = right.is;
  dump = right.dump;
  all = right.all ∙ sym (dumps_stay s is (with_dump (dump_of plan content) v.shelf) reels);
  records = right.records;
}

open_view : (s : ℕ) (is : Bool) (reels : List Reel) (v : View) (o : OnlineFacts) (dump : Option DumpFacts) → IsOpenView reels v o dump → IsOpenView (turned s is reels) v o dump
open_view s is reels v o None right = record { is = λ told pins pinned. tt }
open_view s is reels v o (Some d) right = record {
  is = λ told pins pinned.
      let (content, content_is, opened, opens) = right.is (told_before s is o.disc.held reels told) pins pinned in
      (content, content_is, opened, opens_turned s is reels v d.plan content opened opens);
}

-- THE STORE
module _ (s : ℕ) (is : Bool) (old : StoreFacts) where
  abbrev reels : List Reel
  reels = told_reels old.rack

  abbrev pub after : StoreFacts
  after = record old { rack = changed s (with_mounted is) old.rack }

  -- the state afterwards
  abbrev behind : View → state.State
  behind v = record (state_up v reels old.online old.dump) { reels = state.with_reel s (dumps.with_mounted is) (state_up v reels old.online old.dump).reels }

  told_then : told_reels after.rack ≡ turned s is reels
  told_then = told_turned s is old.rack.reels

  told_still : Told old → Told after
  told_still told = subst (AllTold old.online.disc.held) (sym told_then) (told_after s is old.online.disc.held reels told)

  written : WroteCommits 0 old after
  written = record { blocks = 0; commits = (refl, refl); writes = record { exactly = λ less. omega arith } }

module _ (s : ℕ) (is : Bool) (old : StoreFacts) (unspent : old.spent ≡ false) where
  belongs_still : IsStore old → Belongs old → Belongs (after s is old)
  belongs_still keeps was =
      let (text, shelf, shelved, up) = was.up unspent in
      let up_then : IsUp text shelf (after s is old) = events_stay_up.reels text shelf old (after s is old).rack (serials_stay s is old.rack.reels) up in
      let shelved_then : AreShelved shelf (told_reels (after s is old).rack) = subst (AreShelved shelf) (sym (told_then s is old)) (shelved_turned s is shelf (told_reels old.rack) shelved) in
      record {
        devices = devices_belong text shelf (told_reels (after s is old).rack) old.online keeps.tied (keeps.live unspent) shelved_then up_then.rack up_then.disc;
        up = λ _. (text, shelf, shelved_then, up_then);
      }

  left_by : (u : state.State) (here : Seen old u) → StandsForState (after s is old) (behind s is old here.view)
  left_by u here =
      let v = here.view in
      let right : Seen (after s is old) (behind s is old v) = record {
        view = v;
        is = subst (λ (rs : List Reel). IsView old.online.disc.held rs old.online.contents v) (sym (told_then s is old)) (files_view s is old.online.disc.held (told_reels old.rack) old.online.contents v here.is);
        opens = subst (λ (rs : List Reel). IsOpenView rs v old.online old.dump) (sym (told_then s is old)) (open_view s is (told_reels old.rack) v old.online old.dump here.opens);
        state_is = ap (λ (rows : List state.ReelRow). record (state_up v (told_reels old.rack) old.online old.dump) { reels = rows }) (sym (rows_turned s is v.shelf (told_reels old.rack)))
            ∙ ap (λ (rs : List Reel). state_up v rs old.online old.dump) (sym (told_then s is old));
      } in
      stands (after s is old) (behind s is old v) unspent right

  keeps_still : IsStore old → IfSome old.dump (λ d. reel d.plan.serial (after s is old).rack.reels ≡ reel d.plan.serial old.rack.reels) → IsStore (after s is old)
  keeps_still keeps same = record {
    tied = keeps.tied;
    live = keeps.live;
    open_dump = λ up. still_open old.dump (keeps.open_dump up) same;
    pins = keeps.pins;
  }
    where
      still_open : (dump : Option DumpFacts) → IfSome dump (λ d. IsOpen d old.online old.rack) → IfSome dump (λ d. reel d.plan.serial (after s is old).rack.reels ≡ reel d.plan.serial old.rack.reels)
          → IfSome dump (λ d. IsOpen d old.online (after s is old).rack)
      still_open None is same = tt
      still_open (Some d) opened same = stays_open d old.online old.online old.rack (after s is old).rack refl refl refl same opened

  -- the event is done
  pub done : (by : state.State → state.Holding → Outcome → Result (Unit {0}) StoreFault → state.State → Type 0)
      → ((v : View) → by (state_up v (told_reels old.rack) old.online old.dump) (held_in v old.online) Plain (Ok tt) (behind s is old v))
      → IfSome old.dump (λ d. reel d.plan.serial (after s is old).rack.reels ≡ reel d.plan.serial old.rack.reels)
      → IsStore old → AnswersEvent by (λ reply. 0) old (Ok tt) (after s is old)
  done by step same keeps = record {
    step = λ told belongs u here. leads u here;
    wrote = written s is old;
    keeps = keeps_still keeps same;
    told = told_still s is old;
    belongs = λ told was. belongs_still keeps was;
    spent = (λ is. absurd (false≢true (sym unspent ∙ is)), λ is. absurd (let no : ⊥ = cc in no));
    survives = stays_durable (IsAnsweredBy by old (Ok tt)) old (after s is old) unspent (λ durable. durable);
  }
    where
      leads : (u : state.State) → StandsForState old u → LeadsBy by u old (after s is old) (Ok tt)
      leads u here =
          let sn = seen old u unspent here in
          let v = sn.view in record {
            after = behind s is old v;
            left = left_by u sn;
            held = held_in v old.online;
            holds = held_by old u sn;
            outcome = Plain;
            raised = tt;
            step = subst (λ (t : state.State). by t (held_in v old.online) Plain (Ok tt) (behind s is old v)) (sym sn.state_is) (step v);
          }

-- A REEL THAT IS MOUNTED, and holds the dump or not
still_mounted : (on : Reel) → on.mounted ≡ true → with_mounted true on ≡ on
still_mounted on mounted = ap (λ (b : Bool). with_mounted b on) (sym mounted)

mounted_same : (s t : ℕ) (reels : List Reel) (on : Reel) → reel t reels ≡ Some on → on.mounted ≡ true → reel t (turned s true reels) ≡ reel t reels
mounted_same s t reels on there mounted = by_case (cases_eq t s)
  where
    by_case : (t ≡ s) ⊎ (t ≡ s → ⊥) → reel t (turned s true reels) ≡ reel t reels
    by_case (inl same) =
        ap (λ (n : ℕ). reel t (turned n true reels)) (sym same) ∙ same_reel t true reels ∙ ap (option_map (with_mounted true)) there
        ∙ ap (λ (r : Reel). Some r) (still_mounted on mounted) ∙ sym there
    by_case (inr isnt) = other_reel s true t reels isnt

mount_keeps : (s : ℕ) (o : OnlineFacts) (rack : Rack) (dump : Option DumpFacts) → IfSome dump (λ d. IsOpen d o rack)
    → IfSome dump (λ d. reel d.plan.serial (turned s true rack.reels) ≡ reel d.plan.serial rack.reels)
mount_keeps s o rack None is = tt
mount_keeps s o rack (Some d) is = mounted_same s d.plan.serial rack.reels is.on is.reel_is is.mounted

unmount_keeps : (s : ℕ) (rack : Rack) (dump : Option DumpFacts) → is_on s dump ≡ false
    → IfSome dump (λ d. reel d.plan.serial (turned s false rack.reels) ≡ reel d.plan.serial rack.reels)
unmount_keeps s rack None off = tt
unmount_keeps s rack (Some d) off = other_reel s false d.plan.serial rack.reels (eqb-false d.plan.serial s off)

-- THE REFUSALS
module _ (s : ℕ) (old : StoreFacts) where
  abbrev here : Option Reel
  here = reel s old.rack.reels

  abbrev up_by : View → state.State
  up_by v = state_up v (told_reels old.rack) old.online old.dump

  mount_same : (v : View) → first_fault ((state.lacks (up_by v) s, NoTape) ∷ []) ≡ mount_refuses s old
  mount_same v = ap (λ (b : Bool). first_fault ((b, NoTape) ∷ [])) (lacks_by v.shelf s old.rack.reels)

  busy_same : (v : View) (dump : Option DumpFacts) → dumps.is_busy s (option_map (open_of v old.online) dump) ≡ is_on s dump
  busy_same v None = refl
  busy_same v (Some d) = refl

  unmount_same : (v : View)
      → first_fault ((state.lacks (up_by v) s, NoTape) ∷ (not (state.is_mounted (up_by v) s), NotMounted) ∷ (dumps.is_busy s (up_by v).open_dump, TapeBusy) ∷ []) ≡ unmount_refuses s old
  unmount_same v =
      ap (λ (b : Bool). first_fault ((b, NoTape) ∷ (not (state.is_mounted (up_by v) s), NotMounted) ∷ (dumps.is_busy s (up_by v).open_dump, TapeBusy) ∷ [])) (lacks_by v.shelf s old.rack.reels)
      ∙ ap (λ (b : Bool). first_fault ((is_none here, NoTape) ∷ (not b, NotMounted) ∷ (dumps.is_busy s (up_by v).open_dump, TapeBusy) ∷ [])) (mounted_by v.shelf s old.rack.reels)
      ∙ ap (λ (b : Bool). first_fault ((is_none here, NoTape) ∷ (not (is_mounted here), NotMounted) ∷ (b, TapeBusy) ∷ [])) (busy_same v old.dump)

one_fault : (b : Bool) (fault : StoreFault) → first_fault ((b, NoTape) ∷ []) ≡ Some fault → NoTape ≡ fault
one_fault true fault is = same_Some NoTape fault is
one_fault false fault is = absurd (none-some fault is)

three_faults : (a b c : Bool) (fault : StoreFault) → first_fault ((a, NoTape) ∷ (b, NotMounted) ∷ (c, TapeBusy) ∷ []) ≡ Some fault
    → (NoTape ≡ fault) ⊎ ((NotMounted ≡ fault) ⊎ (TapeBusy ≡ fault))
three_faults true b c fault is = inl (same_Some NoTape fault is)
three_faults false true c fault is = inr (inl (same_Some NotMounted fault is))
three_faults false false true fault is = inr (inr (same_Some TapeBusy fault is))
three_faults false false false fault is = absurd (none-some fault is)

off_by : (a b c : Bool) → first_fault ((a, NoTape) ∷ (b, NotMounted) ∷ (c, TapeBusy) ∷ []) ≡ None → c ≡ false
off_by true b c is = absurd (none-some NoTape (sym is))
off_by false true c is = absurd (none-some NotMounted (sym is))
off_by false false true is = absurd (none-some TapeBusy (sym is))
off_by false false false is = refl

abbrev MountsBy : ℕ → state.State → state.Holding → Outcome → Result (Unit {0}) StoreFault → state.State → Type 0
MountsBy s u k o a n = dumps.MountStep u s a n

abbrev UnmountsBy : ℕ → state.State → state.Holding → Outcome → Result (Unit {0}) StoreFault → state.State → Type 0
UnmountsBy s u k o a n = dumps.UnmountStep u s a n

-- MOUNTING
module _ (s : ℕ) (old : StoreFacts) (unspent : old.spent ≡ false) (keeps : IsStore old) where
  mount_done : mount_refuses s old ≡ None → AnswersEvent (MountsBy s) (λ reply. 0) old (Ok tt) (after s true old)
  mount_done free =
      done s true old unspent (MountsBy s)
      (λ v. subst (λ (r : Option StoreFault). dumps.Event r tt (up_by s old v) (behind s true old v) (Ok tt) (behind s true old v)) (sym (mount_same s old v ∙ free)) (refl, refl))
      (mount_keeps s old.online old.rack old.dump (keeps.open_dump unspent)) keeps

  mount_refused : mount_refuses s old ≡ Some NoTape → AnswersEvent (MountsBy s) (λ reply. 0) old (Err NoTape) old
  mount_refused is =
      refused (MountsBy s) (λ reply. 0) old unspent NoTape (λ e. let no : ⊥ = cc in no) keeps
      (λ u here. leads_same (MountsBy s) (λ reply. 0) old unspent NoTape u here
      (λ v. subst (λ (r : Option StoreFault). dumps.Event r tt (up_by s old v) (behind s true old v) (Err NoTape) (up_by s old v)) (sym (mount_same s old v ∙ is)) (refl, refl)))
      (none_written old)

  unmount_done : unmount_refuses s old ≡ None → AnswersEvent (UnmountsBy s) (λ reply. 0) old (Ok tt) (after s false old)
  unmount_done free =
      done s false old unspent (UnmountsBy s)
      (λ v. subst (λ (r : Option StoreFault). dumps.Event r tt (up_by s old v) (behind s false old v) (Ok tt) (behind s false old v)) (sym (unmount_same s old v ∙ free)) (refl, refl))
      (unmount_keeps s old.rack old.dump (off_by (is_none (reel s old.rack.reels)) (not (is_mounted (reel s old.rack.reels))) (is_on s old.dump) free)) keeps

  unmount_step : (fault : StoreFault) → unmount_refuses s old ≡ Some fault → (v : View)
      → dumps.Event {A = Unit {0}} (Some fault) tt (up_by s old v) (behind s false old v) (Err fault) (up_by s old v) → UnmountsBy s (up_by s old v) (held_in v old.online) Plain (Err fault) (up_by s old v)
  unmount_step fault is v event =
      subst (λ (r : Option StoreFault). dumps.Event r tt (up_by s old v) (behind s false old v) (Err fault) (up_by s old v)) (sym (unmount_same s old v ∙ is)) event

  no_tape : unmount_refuses s old ≡ Some NoTape → AnswersEvent (UnmountsBy s) (λ reply. 0) old (Err NoTape) old
  no_tape is =
      refused (UnmountsBy s) (λ reply. 0) old unspent NoTape (λ e. let no : ⊥ = cc in no) keeps
      (λ u here. leads_same (UnmountsBy s) (λ reply. 0) old unspent NoTape u here (λ v. unmount_step NoTape is v (refl, refl))) (none_written old)

  not_mounted : unmount_refuses s old ≡ Some NotMounted → AnswersEvent (UnmountsBy s) (λ reply. 0) old (Err NotMounted) old
  not_mounted is =
      refused (UnmountsBy s) (λ reply. 0) old unspent NotMounted (λ e. let no : ⊥ = cc in no) keeps
      (λ u here. leads_same (UnmountsBy s) (λ reply. 0) old unspent NotMounted u here (λ v. unmount_step NotMounted is v (refl, refl))) (none_written old)

  busy : unmount_refuses s old ≡ Some TapeBusy → AnswersEvent (UnmountsBy s) (λ reply. 0) old (Err TapeBusy) old
  busy is =
      refused (UnmountsBy s) (λ reply. 0) old unspent TapeBusy (λ e. let no : ⊥ = cc in no) keeps
      (λ u here. leads_same (UnmountsBy s) (λ reply. 0) old unspent TapeBusy u here (λ v. unmount_step TapeBusy is v (refl, refl))) (none_written old)

pub mounts : (s : ℕ) (old new : StoreFacts) (answer : Result (Unit {0}) StoreFault) → old.spent ≡ false → IsStore old → DoneOr (mount_refuses s old) (after s true old) old answer new
    → Mounts s old answer new
mounts s old new (Ok u) unspent keeps (free, same) =
    subst (Mounts s old (Ok u)) (sym same) (record { event = mount_done s old unspent keeps free; exact = (free, refl) })
mounts s old new (Err fault) unspent keeps (is, same) =
    subst (Mounts s old (Err fault)) (sym same)
    (subst (λ (f : StoreFault). mount_refuses s old ≡ Some f → Mounts s old (Err f) old) (one_fault (is_none (reel s old.rack.reels)) fault is)
    (λ e. record { event = mount_refused s old unspent keeps e; exact = (e, refl) }) is)

abbrev AtFault : ℕ → StoreFacts → StoreFault → Type 0
AtFault s old f = unmount_refuses s old ≡ Some f → Unmounts s old (Err f) old

pub unmounts : (s : ℕ) (old new : StoreFacts) (answer : Result (Unit {0}) StoreFault) → old.spent ≡ false → IsStore old
    → DoneOr (unmount_refuses s old) (after s false old) old answer new → Unmounts s old answer new
unmounts s old new (Ok u) unspent keeps (free, same) =
    subst (Unmounts s old (Ok u)) (sym same) (record { event = unmount_done s old unspent keeps free; exact = (free, refl) })
unmounts s old new (Err fault) unspent keeps (is, same) =
    subst (Unmounts s old (Err fault)) (sym same)
    (by_fault (three_faults (is_none (reel s old.rack.reels)) (not (is_mounted (reel s old.rack.reels))) (is_on s old.dump) fault is))
  where
    by_fault : (NoTape ≡ fault) ⊎ ((NotMounted ≡ fault) ⊎ (TapeBusy ≡ fault)) → Unmounts s old (Err fault) old
    by_fault (inl it) = subst (AtFault s old) it (λ e. record { event = no_tape s old unspent keeps e; exact = (e, refl) }) is
    by_fault (inr (inl it)) = subst (AtFault s old) it (λ e. record { event = not_mounted s old unspent keeps e; exact = (e, refl) }) is
    by_fault (inr (inr it)) = subst (AtFault s old) it (λ e. record { event = busy s old unspent keeps e; exact = (e, refl) }) is

-- BY WHAT THE RACK ANSWERED
free_mount : (r : Option Reel) → refuses_mount r ≡ None → first_fault ((is_none r, NoTape) ∷ []) ≡ None
free_mount None is = absurd (none-some tape.NoTape (sym is))
free_mount (Some r) is = refl

refused_mount : (r : Option Reel) (fault : TapeFault) → refuses_mount r ≡ Some fault → first_fault ((is_none r, NoTape) ∷ []) ≡ Some NoTape
refused_mount None fault is = refl
refused_mount (Some r) fault is = absurd (none-some fault is)

answers_no_tape : (r : Option Reel) (fault : TapeFault) → refuses_mount r ≡ Some fault → rack_answer (Err fault) ≡ Err NoTape
answers_no_tape None fault is = subst (λ (f : TapeFault). rack_answer (Err f) ≡ Err NoTape) (same_Some tape.NoTape fault is) refl
answers_no_tape (Some r) fault is = absurd (none-some fault is)

mount_by : (s : ℕ) (t : StoreFacts) (rack : Rack) (r : Result (Unit {0}) TapeFault) → Mounting refuses_mount true s t.rack r rack
    → DoneOr (mount_refuses s t) (after s true t) t (rack_answer r) (record t { rack = rack })
mount_by s t rack (Ok u) (free, is) = (free_mount (reel s t.rack.reels) free, ap (λ (k : Rack). record t { rack = k }) is)
mount_by s t rack (Err fault) (refusal, is) =
    subst (λ (a : Result (Unit {0}) StoreFault). DoneOr (mount_refuses s t) (after s true t) t a (record t { rack = rack })) (sym (answers_no_tape (reel s t.rack.reels) fault refusal))
    (refused_mount (reel s t.rack.reels) fault refusal, ap (λ (k : Rack). record t { rack = k }) is)

pub rack_mounts : (s : ℕ) (old t : StoreFacts) (rack : Rack) (r : Result (Unit {0}) TapeFault) (answer : Result (Unit {0}) StoreFault) → answer ≡ rack_answer r → t ≡ old → old.spent ≡ false → IsStore t
    → Mounting refuses_mount true s t.rack r rack → Mounts s old answer (record t { rack = rack })
rack_mounts s old t rack r answer so at unspent keeps is =
    subst (λ (x : StoreFacts). Mounts s x answer (record t { rack = rack })) at
    (subst (λ (a : Result (Unit {0}) StoreFault). Mounts s t a (record t { rack = rack })) (sym so) (mounts s t (record t { rack = rack }) (rack_answer r) (ap (λ (x : StoreFacts). x.spent) at ∙ unspent) keeps (mount_by s t rack r is)))

abbrev busy_on : ℕ → StoreFacts → Bool
busy_on s t = is_on s t.dump && is_mounted (reel s t.rack.reels)

busy_by : (r : Option Reel) (on : Bool) → (on && is_mounted r) ≡ true → first_fault ((is_none r, NoTape) ∷ (not (is_mounted r), NotMounted) ∷ (on, TapeBusy) ∷ []) ≡ Some TapeBusy
busy_by None true is = absurd (false≢true is)
busy_by None false is = absurd (false≢true is)
busy_by (Some r) on is = by_parts on r.mounted is
  where
    by_parts : (on is : Bool) → (on && is) ≡ true → first_fault ((false, NoTape) ∷ (not is, NotMounted) ∷ (on, TapeBusy) ∷ []) ≡ Some TapeBusy
    by_parts true true both = refl
    by_parts true false both = absurd (false≢true both)
    by_parts false is both = absurd (false≢true both)

free_unmount : (r : Option Reel) (on : Bool) → (on && is_mounted r) ≡ false → refuses_unmount r ≡ None
    → first_fault ((is_none r, NoTape) ∷ (not (is_mounted r), NotMounted) ∷ (on, TapeBusy) ∷ []) ≡ None
free_unmount None on off is = absurd (none-some tape.NoTape (sym is))
free_unmount (Some r) on off is = by_parts on r.mounted off is
  where
    by_parts : (on is : Bool) → (on && is) ≡ false → (if is then None else Some tape.NotMounted) ≡ None
        → first_fault ((false, NoTape) ∷ (not is, NotMounted) ∷ (on, TapeBusy) ∷ []) ≡ None
    by_parts on false off free = absurd (none-some tape.NotMounted (sym free))
    by_parts true true off free = absurd (true≢false off)
    by_parts false true off free = refl

refused_unmount : (r : Option Reel) (on : Bool) (fault : TapeFault) → refuses_unmount r ≡ Some fault
    → (x : StoreFault) × (first_fault ((is_none r, NoTape) ∷ (not (is_mounted r), NotMounted) ∷ (on, TapeBusy) ∷ []) ≡ Some x) × (rack_answer (Err fault) ≡ Err x)
refused_unmount None on fault is = (NoTape, refl, subst (λ (f : TapeFault). rack_answer (Err f) ≡ Err NoTape) (same_Some tape.NoTape fault is) refl)
refused_unmount (Some r) on fault is = by_parts r.mounted is
  where
    by_parts : (is : Bool) → (if is then None else Some tape.NotMounted) ≡ Some fault
        → (x : StoreFault) × (first_fault ((false, NoTape) ∷ (not is, NotMounted) ∷ (on, TapeBusy) ∷ []) ≡ Some x) × (rack_answer (Err fault) ≡ Err x)
    by_parts true is = absurd (none-some fault is)
    by_parts false is = (NotMounted, refl, subst (λ (f : TapeFault). rack_answer (Err f) ≡ Err NotMounted) (same_Some tape.NotMounted fault is) refl)

unmount_by : (s : ℕ) (t : StoreFacts) (rack : Rack) (r : Result (Unit {0}) TapeFault) → (is_on s t.dump && is_mounted (reel s t.rack.reels)) ≡ false
    → Mounting refuses_unmount false s t.rack r rack → DoneOr (unmount_refuses s t) (after s false t) t (rack_answer r) (record t { rack = rack })
unmount_by s t rack (Ok u) off (free, is) = (free_unmount (reel s t.rack.reels) (is_on s t.dump) off free, ap (λ (k : Rack). record t { rack = k }) is)
unmount_by s t rack (Err fault) off (refusal, is) =
    let (x, first, same) = refused_unmount (reel s t.rack.reels) (is_on s t.dump) fault refusal in
    subst (λ (a : Result (Unit {0}) StoreFault). DoneOr (unmount_refuses s t) (after s false t) t a (record t { rack = rack })) (sym same)
    (first, ap (λ (k : Rack). record t { rack = k }) is)

pub rack_unmounts : (s : ℕ) (old t : StoreFacts) (rack : Rack) (r : Result (Unit {0}) TapeFault) (answer : Result (Unit {0}) StoreFault) → answer ≡ rack_answer r → t ≡ old → old.spent ≡ false → IsStore t
    → busy_on s old ≡ false → Mounting refuses_unmount false s t.rack r rack → Unmounts s old answer (record t { rack = rack })
rack_unmounts s old t rack r answer so at unspent keeps off is =
    subst (λ (x : StoreFacts). Unmounts s x answer (record t { rack = rack })) at
    (subst (λ (a : Result (Unit {0}) StoreFault). Unmounts s t a (record t { rack = rack })) (sym so) (unmounts s t (record t { rack = rack }) (rack_answer r) (ap (λ (x : StoreFacts). x.spent) at ∙ unspent) keeps (unmount_by s t rack r (ap (busy_on s) at ∙ off) is)))

pub reel_busy : (s : ℕ) (old t : StoreFacts) → t ≡ old → old.spent ≡ false → IsStore t → busy_on s old ≡ true → Unmounts s old (Err TapeBusy) t
reel_busy s old t at unspent keeps on =
    subst (λ (x : StoreFacts). Unmounts s x (Err TapeBusy) t) at
    (unmounts s t t (Err TapeBusy) (ap (λ (x : StoreFacts). x.spent) at ∙ unspent) keeps (busy_by (reel s t.rack.reels) (is_on s t.dump) (ap (busy_on s) at ∙ on), refl))
