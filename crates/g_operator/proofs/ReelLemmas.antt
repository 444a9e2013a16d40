-- REELS under a store that is up, and under no store.
-- serves: mount (aside, steps), unmount (aside, steps)
use Rattle.std.proofs.Common.{◌≡◌, ℕ, ◌<◌, ◌≤◌, Bool, true, false, List, [], ◌∷◌, Option, Some, None, refl, sym, ◌∙◌, ap, subst}
use Rattle.std.specs.Prelude.{◌⊎◌, ◌≢◌, All, Contains, IfSome, Result, Ok, Err, if◌then◌else◌, is_none, not}
use Rattle.std.proofs.lemmas.Option.{none-some, same_Some}
use Rattle.g_entry.specs.declared.head.Intent.{Intent}
use Rattle.g_tape.specs.Reel.{Reel, with_mounted}
use Rattle.g_tape.specs.Rack.{Mounting, Rack, changed, is_mounted, reel, refuses_mount, refuses_unmount, with_reel}
use Rattle.g_tape.specs.declared.fault.TapeFault.{TapeFault}
use Rattle.g_tape.specs.declared.fault.TapeFault.TheVariants as tape
use Rattle.g_plain.specs.declared.faults.StoreFault.{StoreFault}
use Rattle.g_plain.specs.declared.faults.StoreFault.TheVariants.{NoMemory, NoTape, NotMounted, Stopped, TapeBusy}
use Rattle.g_plain.specs.PlainStep.{first_fault}
use Rattle.g_incr.specs.Layout.{Dump}
use Rattle.g_disc_contents.specs.Contents.{Contents, Holds}
use Rattle.g_store_model.specs.State as state
use Rattle.g_store_model.specs.DumpSteps as dumps
use Rattle.g_store_meaning.specs.Belonging.{BelongWith, DiscBelongs, IsIntended, IsPlaced, KeepsFile, RackBelongs}
use Rattle.g_store_meaning.specs.Meaning.{told_reels}
use Rattle.g_store_meaning.specs.Reading.{AllTold, DevicesStandFor, IsView, View, state_down}
use Rattle.g_store_meaning.specs.Safety.{AreSafe, IsSafe}
use Rattle.g_store_meaning.specs.StoreInvariant.{StoreFacts}
use Rattle.g_store.specs.Events.{AnswersEvent, Mounts, Unmounts}
use Rattle.g_store.specs.Refusing.{DoneOr, is_on, mount_refuses, rack_answer, unmount_refuses}
use Rattle.g_store.proofs.MountLemmas.{dumps_stay, lacks_by, mounted_by, rows_turned, serials_stay, shelved_turned, told_after, told_turned, turned}
use Rattle.g_store.proofs.TurnLemmas.{files_view, rack_view}
use Rattle.g_laws_power.proofs.EventLemmas.{events_keep_safe, no_more, same_blocks}
use Rattle.g_run_model.specs.Devices.{AreReadAs, Devices}
use Rattle.g_operator.specs.Reels.{MountsOn, StepsReels, UnmountsOn}
use Rattle.g_day.specs.Losses.{LeavesLess}
use Rattle.g_day.specs.System.{BelongTogether, Down, DumpsGrow, StandsAs, Up, labels, SystemFacts}
use Rattle.g_day.proofs.GrowLemmas.{grow_itself, grow_turned}
use Rattle.g_day.proofs.UpLemmas.{leads_by}
use Rattle.g_day.proofs.LabelLemmas.{labels_with, parts_with}
use Rattle.g_operator.proofs.SafeLemmas.{devices_left, all_by, safe_rack}

-- what holds of a system and an answer holds of equal ones
pub as_known : (On : SystemFacts → Result (Unit {0}) StoreFault → SystemFacts → Type 0) (f d e : SystemFacts) (told answer : Result (Unit {0}) StoreFault) → f ≡ d → told ≡ answer → On d answer e → On f told e
as_known On f d e told answer is same on =
    subst (λ (x : SystemFacts). On x told e) (sym is) (subst (λ (a : Result (Unit {0}) StoreFault). On d a e) (sym same) on)

-- A REEL IS TURNED under no store
module _ (s : ℕ) (is : Bool) (reels : List Reel) (text : ℕ → List ℕ) (shelf : ℕ → List Dump) where
  placed : (last : ℕ) (i : Option Intent) → IfSome i (IsPlaced shelf reels last) → IfSome i (IsPlaced shelf (turned s is reels) last)
  placed last None p = tt
  placed last (Some i) p = record { reel = subst (λ (l : List ℕ). Contains l i.serial) (sym (serials_stay s is reels)) p.reel; number = p.number; place = p.place }

  disc_turned : (c : Contents) → DiscBelongs text shelf reels c → DiscBelongs text shelf (turned s is reels) c
  disc_turned c d =
      let stay = sym (dumps_stay s is shelf reels) in record {
        files = subst (λ (ds : List Dump). All (λ f. KeepsFile (text f.rec.stamp) ds f) c.files) stay d.files;
        numbers = subst (λ (ds : List Dump). (e : Dump) → Contains ds e → (e.number ≤ c.head.last_dump) ⊎ IsIntended c.head.last_dump c.head.intent ds e) stay d.numbers;
        has_last = subst (λ (ds : List Dump). 0 < c.head.last_dump → (e : Dump) × Contains ds e × (e.number ≡ c.head.last_dump)) stay d.has_last;
        stamps = subst (λ (ds : List Dump). (e : Dump) → Contains ds e → e.next ≤ c.head.next_stamp) stay d.stamps;
        intent = placed c.head.last_dump c.head.intent d.intent;
      }

belong_turned : (s : ℕ) (is : Bool) (held : Option (List (List ℕ))) (reels : List Reel) → BelongWith held reels → BelongWith held (turned s is reels)
belong_turned s is held reels b = record {
  text = b.text;
  shelf = b.shelf;
  shelved = shelved_turned s is b.shelf reels b.shelved;
  rack = subst (RackBelongs b.text) (sym (dumps_stay s is b.shelf reels)) b.rack;
  disc = λ blocks c at holds. disc_turned s is reels b.text b.shelf c (b.disc blocks c at holds);
}

-- the devices with that reel mounted or unmounted, and the state afterwards
abbrev turned_devices : ℕ → Bool → Devices → Devices
turned_devices s is d = record d { rack = changed s (with_mounted is) d.rack }

abbrev turned_state : ℕ → Bool → state.State → state.State
turned_state s is u = record u { reels = state.with_reel s (dumps.with_mounted is) u.reels }

module _ (s : ℕ) (is : Bool) (d : Devices) where
  abbrev reels : List Reel
  reels = told_reels d.rack

  told_then : told_reels (turned_devices s is d).rack ≡ turned s is reels
  told_then = told_turned s is d.rack.reels

  stand_turned : (u : state.State) → AreReadAs d u → AreReadAs (turned_devices s is d) (turned_state s is u)
  stand_turned u stand = record {
    told = subst (AllTold d.disc.held) (sym told_then) (told_after s is d.disc.held reels stand.told);
    belong = subst (BelongWith d.disc.held) (sym told_then) (belong_turned s is d.disc.held reels stand.belong);
    reads = subst (λ (rs : List Reel). DevicesStandFor d.disc.size d.disc.held rs (turned_state s is u)) (sym told_then) (reads stand.reads);
  }
    where
      seen_turned : (c : Option Contents) (v : View) → IfSome c (λ k. (blocks : List (List ℕ)) × (d.disc.held ≡ Some blocks) × Holds blocks k × IsView d.disc.held reels k v)
          → IfSome c (λ k. (blocks : List (List ℕ)) × (d.disc.held ≡ Some blocks) × Holds blocks k × IsView d.disc.held (turned s is reels) k v)
      seen_turned None v it = tt
      seen_turned (Some k) v (blocks, at, holds, view) = (blocks, at, holds, files_view s is d.disc.held reels k v view)

      reads : DevicesStandFor d.disc.size d.disc.held reels u → DevicesStandFor d.disc.size d.disc.held (turned s is reels) (turned_state s is u)
      reads it = record {
        view = it.view;
        contents = it.contents;
        is = seen_turned it.contents it.view it.is;
        none = it.none;
        rack = rack_view s is d.disc.held reels it.view it.rack;
        state_is = ap (turned_state s is) it.state_is
            ∙ ap (λ (rows : List state.ReelRow). record (state_down it.view reels d.disc.size it.contents) { reels = rows }) (sym (rows_turned s is it.view.shelf reels));
      }

-- REFUSALS under no store
lacks_is : (s : ℕ) (d : Devices) (u : state.State) → AreReadAs d u → state.lacks u s ≡ is_none (reel s d.rack.reels)
lacks_is s d u stand = ap (λ (t : state.State). state.lacks t s) stand.reads.state_is ∙ lacks_by stand.reads.view.shelf s d.rack.reels

mounted_is : (s : ℕ) (d : Devices) (u : state.State) → AreReadAs d u → state.is_mounted u s ≡ is_mounted (reel s d.rack.reels)
mounted_is s d u stand = ap (λ (t : state.State). state.is_mounted t s) stand.reads.state_is ∙ mounted_by stand.reads.view.shelf s d.rack.reels

none_open : (d : Devices) (u : state.State) → AreReadAs d u → u.open_dump ≡ None
none_open d u stand = ap (λ (t : state.State). t.open_dump) stand.reads.state_is

same_belongs : (s : ℕ) (is : Bool) (d : Devices) → BelongTogether d → BelongTogether (turned_devices s is d)
same_belongs s is d was = record {
  told = subst (AllTold d.disc.held) (sym (told_then s is d)) (told_after s is d.disc.held (told_reels d.rack) was.told);
  belong = subst (BelongWith d.disc.held) (sym (told_then s is d)) (belong_turned s is d.disc.held (told_reels d.rack) was.belong);
}

-- a power loss leaves no more of it
safe_turned : (s : ℕ) (is : Bool) (d : Devices) → AreSafe d.disc d.rack → AreSafe d.disc (changed s (with_mounted is) d.rack)
safe_turned s is d =
    safe_rack d.rack (changed s (with_mounted is) d.rack) (no_more s is d.rack) d.disc (labels_with s (with_mounted is) (λ r. refl) (λ r. refl) d.rack.reels) (same_blocks s is d.rack) lens (same_belongs s is d)
  where
    lens : All (λ (r : Reel). r.len ≡ 0) (changed s (with_mounted is) d.rack).reels → All (λ (r : Reel). r.len ≡ 0) d.rack.reels
    lens all = all_by (λ (n : ℕ). n ≡ 0) (λ (r : Reel). r.len) (changed s (with_mounted is) d.rack).reels d.rack.reels (sym (parts_with (λ (r : Reel). r.len) s (with_mounted is) (λ r. refl) d.rack.reels)) all

less_turned : (s : ℕ) (is : Bool) (d : Devices) → LeavesLess (Down d) (Down (turned_devices s is d))
less_turned s is d = devices_left d.rack (changed s (with_mounted is) d.rack) (no_more s is d.rack) d.disc (labels_with s (with_mounted is) (λ r. refl) (λ r. refl) d.rack.reels)

module _ (s : ℕ) (d : Devices) where
  abbrev here : Option Reel
  here = reel s d.rack.reels

  -- of the rack other reels are made, with the same labels
  steps_reels : (answer : Result (Unit {0}) StoreFault) (reels : List Reel) (by : state.State → Result (Unit {0}) StoreFault → state.State → Type 0) → ((fault : StoreFault) → answer ≡ Err fault → fault ≢ Stopped)
      → labels reels ≡ labels d.rack.reels → (let e : Devices = record d { rack = record d.rack { reels = reels } } in BelongTogether d → BelongTogether e)
      → (let k : Rack = record d.rack { reels = reels } in DumpsGrow d.rack k)
      → (let k : Rack = record d.rack { reels = reels } in AreSafe d.disc d.rack → AreSafe d.disc k)
      → (let e : Devices = record d { rack = record d.rack { reels = reels } } in LeavesLess (Down d) (Down e))
      → (let e : Devices = record d { rack = record d.rack { reels = reels } } in (u : state.State) → StandsAs (Down d) u → (v : state.State) × StandsAs (Down e) v × by u answer v)
      → (let e : Devices = record d { rack = record d.rack { reels = reels } } in StepsReels by (Down d) answer (Down e))
  steps_reels answer reels by only same belongs dumps safe left step =
      record { stays = refl; only = only; disc = refl; read_faults = refl; write_faults = refl; arms = refl; reels = same; belongs = belongs; safe = safe; left = left; dumps = dumps; step = step }

  -- a reel is turned
  steps_turned : (is : Bool) (by : state.State → Result (Unit {0}) StoreFault → state.State → Type 0) → ((u : state.State) → AreReadAs d u → by u (Ok tt) (turned_state s is u))
      → StepsReels by (Down d) (Ok tt) (Down (turned_devices s is d))
  steps_turned is by step =
      steps_reels (Ok tt) (with_reel s (with_mounted is) d.rack.reels) by (λ fault e. let no : ⊥ = cc in absurd no) (labels_with s (with_mounted is) (λ r. refl) (λ r. refl) d.rack.reels)
      (same_belongs s is d) (grow_turned s is d.rack) (safe_turned s is d) (less_turned s is d) (λ u stands. (turned_state s is u, (stands.0, stand_turned s is d u stands.1), step u stands.1))

  -- or it isn't
  steps_none : (fault : StoreFault) → fault ≢ Stopped → (by : state.State → Result (Unit {0}) StoreFault → state.State → Type 0) → ((u : state.State) → AreReadAs d u → by u (Err fault) u) → StepsReels by (Down d) (Err fault) (Down d)
  steps_none fault other by step =
      steps_reels (Err fault) d.rack.reels by (λ f e is. other (let same : fault ≡ f = cc in same ∙ is)) refl (λ was. was) (grow_itself d.rack) (λ was. was) (λ blocks rack left. left) (λ u stands. (u, stands, step u stands.1))

  -- a reel is turned that isn't refused
  turned_down : (is : Bool) (by : state.State → Result (Unit {0}) StoreFault → state.State → Type 0) (rack : Rack) → rack ≡ changed s (with_mounted is) d.rack
      → ((u : state.State) → AreReadAs d u → by u (Ok tt) (turned_state s is u)) → (let e : Devices = record d { rack = rack } in StepsReels by (Down d) (Ok tt) (Down e))
  turned_down is by rack made step = subst (λ (k : Rack). let e : Devices = record d { rack = k } in StepsReels by (Down d) (Ok tt) (Down e)) (sym made) (steps_turned is by step)

  mount_first : (u : state.State) → AreReadAs d u → first_fault ((state.lacks u s, NoTape) ∷ []) ≡ first_fault ((is_none here, NoTape) ∷ [])
  mount_first u stand = ap (λ (b : Bool). first_fault ((b, NoTape) ∷ [])) (lacks_is s d u stand)

  unmount_first : (u : state.State) → AreReadAs d u
      → first_fault ((state.lacks u s, NoTape) ∷ (not (state.is_mounted u s), NotMounted) ∷ (dumps.is_busy s u.open_dump, TapeBusy) ∷ [])
      ≡ first_fault ((is_none here, NoTape) ∷ (not (is_mounted here), NotMounted) ∷ [])
  unmount_first u stand =
      ap (λ (b : Bool). first_fault ((b, NoTape) ∷ (not (state.is_mounted u s), NotMounted) ∷ (dumps.is_busy s u.open_dump, TapeBusy) ∷ [])) (lacks_is s d u stand)
      ∙ ap (λ (b : Bool). first_fault ((is_none here, NoTape) ∷ (not b, NotMounted) ∷ (dumps.is_busy s u.open_dump, TapeBusy) ∷ [])) (mounted_is s d u stand)
      ∙ ap (λ (o : Option state.OpenDump). first_fault ((is_none here, NoTape) ∷ (not (is_mounted here), NotMounted) ∷ (dumps.is_busy s o, TapeBusy) ∷ [])) (none_open d u stand)
      ∙ never_busy (is_none here) (not (is_mounted here))
    where
      never_busy : (a b : Bool) → first_fault ((a, NoTape) ∷ (b, NotMounted) ∷ (false, TapeBusy) ∷ []) ≡ first_fault ((a, NoTape) ∷ (b, NotMounted) ∷ [])
      never_busy true b = refl
      never_busy false true = refl
      never_busy false false = refl

  -- MOUNTS
  pub mounts_down : (answer : Result (Unit {0}) TapeFault) (rack : Rack) → Mounting refuses_mount true s d.rack answer rack → (let e : Devices = record d { rack = rack } in MountsOn s (Down d) (rack_answer answer) (Down e))
  mounts_down (Ok u) rack (free, is) =
      turned_down true (λ v a n. dumps.MountStep v s a n) rack is
      (λ v stand. subst (λ (o : Option StoreFault). dumps.Event o tt v (turned_state s true v) (Ok tt) (turned_state s true v)) (sym (mount_first v stand ∙ free_by here free)) (refl, refl))
    where
      free_by : (r : Option Reel) → refuses_mount r ≡ None → first_fault ((is_none r, NoTape) ∷ []) ≡ None
      free_by None isnt = absurd (none-some tape.NoTape (sym isnt))
      free_by (Some r) isnt = refl
  mounts_down (Err fault) rack (refusal, is) =
      subst (λ (k : Rack). let e : Devices = record d { rack = k } in MountsOn s (Down d) (rack_answer (Err fault)) (Down e)) (sym is)
      (subst (λ (a : Result (Unit {0}) StoreFault). MountsOn s (Down d) a (Down d)) (sym (no_tape here fault refusal))
      (steps_none NoTape (λ e. let no : ⊥ = cc in no) (λ v a n. dumps.MountStep v s a n)
      (λ v stand. subst (λ (o : Option StoreFault). dumps.Event o tt v (turned_state s true v) (Err NoTape) v) (sym (mount_first v stand ∙ refused_by here fault refusal)) (refl, refl))))
    where
      no_tape : (r : Option Reel) (f : TapeFault) → refuses_mount r ≡ Some f → rack_answer (Err f) ≡ Err NoTape
      no_tape None f so = subst (λ (g : TapeFault). rack_answer (Err g) ≡ Err NoTape) (same_Some tape.NoTape f so) refl
      no_tape (Some r) f so = absurd (none-some f so)

      refused_by : (r : Option Reel) (f : TapeFault) → refuses_mount r ≡ Some f → first_fault ((is_none r, NoTape) ∷ []) ≡ Some NoTape
      refused_by None f so = refl
      refused_by (Some r) f so = absurd (none-some f so)

  -- and unmounts
  pub unmounts_down : (answer : Result (Unit {0}) TapeFault) (rack : Rack) → Mounting refuses_unmount false s d.rack answer rack → (let e : Devices = record d { rack = rack } in UnmountsOn s (Down d) (rack_answer answer) (Down e))
  unmounts_down (Ok u) rack (free, is) =
      turned_down false (λ v a n. dumps.UnmountStep v s a n) rack is
      (λ v stand. subst (λ (o : Option StoreFault). dumps.Event o tt v (turned_state s false v) (Ok tt) (turned_state s false v)) (sym (unmount_first v stand ∙ free_by here free)) (refl, refl))
    where
      free_by : (r : Option Reel) → refuses_unmount r ≡ None → first_fault ((is_none r, NoTape) ∷ (not (is_mounted r), NotMounted) ∷ []) ≡ None
      free_by None isnt = absurd (none-some tape.NoTape (sym isnt))
      free_by (Some r) isnt = by_mount r.mounted isnt
        where
          by_mount : (b : Bool) → (if b then None else Some tape.NotMounted) ≡ None → first_fault ((false, NoTape) ∷ (not b, NotMounted) ∷ []) ≡ None
          by_mount true e = refl
          by_mount false e = absurd (none-some tape.NotMounted (sym e))
  unmounts_down (Err fault) rack (refusal, is) =
      subst (λ (k : Rack). let e : Devices = record d { rack = k } in UnmountsOn s (Down d) (rack_answer (Err fault)) (Down e)) (sym is)
      (by_reel here refl refusal)
    where
      by_reel : (r : Option Reel) → here ≡ r → refuses_unmount r ≡ Some fault → UnmountsOn s (Down d) (rack_answer (Err fault)) (Down d)
      by_reel None at so =
          subst (λ (f : TapeFault). UnmountsOn s (Down d) (rack_answer (Err f)) (Down d)) (same_Some tape.NoTape fault so)
          (steps_none NoTape (λ e. let no : ⊥ = cc in no) (λ v a n. dumps.UnmountStep v s a n)
          (λ v stand. subst (λ (o : Option StoreFault). dumps.Event o tt v (turned_state s false v) (Err NoTape) v)
          (sym (unmount_first v stand ∙ ap (λ (r : Option Reel). first_fault ((is_none r, NoTape) ∷ (not (is_mounted r), NotMounted) ∷ [])) at)) (refl, refl)))
      by_reel (Some r) at so = by_mount r.mounted refl so
        where
          by_mount : (b : Bool) → r.mounted ≡ b → (if b then None else Some tape.NotMounted) ≡ Some fault → UnmountsOn s (Down d) (rack_answer (Err fault)) (Down d)
          by_mount true on e = absurd (none-some fault e)
          by_mount false off e =
              subst (λ (f : TapeFault). UnmountsOn s (Down d) (rack_answer (Err f)) (Down d)) (same_Some tape.NotMounted fault e)
              (steps_none NotMounted (λ e. let no : ⊥ = cc in no) (λ v a n. dumps.UnmountStep v s a n)
              (λ v stand. subst (λ (o : Option StoreFault). dumps.Event o tt v (turned_state s false v) (Err NotMounted) v)
              (sym (unmount_first v stand ∙ ap (λ (q : Option Reel). first_fault ((is_none q, NoTape) ∷ (not (is_mounted q), NotMounted) ∷ [])) at
              ∙ ap (λ (b : Bool). first_fault ((false, NoTape) ∷ (not b, NotMounted) ∷ [])) off)) (refl, refl)))

-- UNDER A STORE
module _ (s : ℕ) (old new : StoreFacts) (unspent : old.spent ≡ false) where
  steps_up : (by : state.State → Result (Unit {0}) StoreFault → state.State → Type 0) (answer : Result (Unit {0}) StoreFault)
      → AnswersEvent (λ u k o a n. by u a n) (λ reply. 0) old answer new → (refusal : Option StoreFault) (is : Bool) → DoneOr refusal (record old { rack = changed s (with_mounted is) old.rack }) old answer new
      → ((fault : StoreFault) → refusal ≡ Some fault → (fault ≢ NoMemory) × (fault ≢ Stopped)) → (IsSafe old → IsSafe new) → StepsReels by (Up old) answer (Up new)
  steps_up by (Ok u) event refusal is (free, same) known safe = record {
    stays = (ap (λ (t : StoreFacts). t.spent) same, ap (λ (t : StoreFacts). t.online.disc) same);
    only = λ fault e. let no : ⊥ = cc in absurd no;
    disc = ap (λ (t : StoreFacts). t.online.disc) same;
    read_faults = ap (λ (t : StoreFacts). t.rack.read_faults) same;
    write_faults = ap (λ (t : StoreFacts). t.rack.write_faults) same;
    arms = ap (λ (t : StoreFacts). t.rack.arms) same;
    reels = ap (λ (t : StoreFacts). labels t.rack.reels) same ∙ labels_with s (with_mounted is) (λ r. refl) (λ r. refl) old.rack.reels;
    belongs = λ was. (event.told was.0, event.belongs was.0 was.1);
    safe = safe;
    left = tt;
    dumps = subst (λ (t : StoreFacts). DumpsGrow old.rack t.rack) (sym same) (grow_turned s is old.rack);
    step = λ v stands.
        let leads = event.step stands.told stands.belongs v stands.stands in
        (leads.after, record { told = event.told stands.told; belongs = event.belongs stands.told stands.belongs; stands = leads.left }, leads.step);
  }
  steps_up by (Err fault) event refusal is (why, same) known safe = record {
    stays = (ap (λ (t : StoreFacts). t.spent) same, ap (λ (t : StoreFacts). t.online.disc) same);
    only = λ f e is. (known fault why).1 (let eq : fault ≡ f = cc in eq ∙ is);
    disc = ap (λ (t : StoreFacts). t.online.disc) same;
    read_faults = ap (λ (t : StoreFacts). t.rack.read_faults) same;
    write_faults = ap (λ (t : StoreFacts). t.rack.write_faults) same;
    arms = ap (λ (t : StoreFacts). t.rack.arms) same;
    reels = ap (λ (t : StoreFacts). labels t.rack.reels) same;
    belongs = λ was. (event.told was.0, event.belongs was.0 was.1);
    safe = safe;
    left = tt;
    dumps = subst (λ (t : StoreFacts). DumpsGrow old.rack t.rack) (sym same) (grow_itself old.rack);
    step = λ v stands.
        let leads = leads_by (λ u k o a n. by u a n) v old new fault (known fault why).0 (event.step stands.told stands.belongs v stands.stands) in
        (leads.after, record { told = event.told stands.told; belongs = event.belongs stands.told stands.belongs; stands = leads.left }, leads.step);
  }

  one_known : (b : Bool) (fault : StoreFault) → first_fault ((b, NoTape) ∷ []) ≡ Some fault → (fault ≢ NoMemory) × (fault ≢ Stopped)
  one_known true fault is = (λ e. let no : ⊥ = cc in no, λ e. let no : ⊥ = cc in no)
  one_known false fault is = absurd (none-some fault is)

  three_known : (a b c : Bool) (fault : StoreFault) → first_fault ((a, NoTape) ∷ (b, NotMounted) ∷ (c, TapeBusy) ∷ []) ≡ Some fault → (fault ≢ NoMemory) × (fault ≢ Stopped)
  three_known true b c fault is = (λ e. let no : ⊥ = cc in no, λ e. let no : ⊥ = cc in no)
  three_known false true c fault is = (λ e. let no : ⊥ = cc in no, λ e. let no : ⊥ = cc in no)
  three_known false false true fault is = (λ e. let no : ⊥ = cc in no, λ e. let no : ⊥ = cc in no)
  three_known false false false fault is = absurd (none-some fault is)

  pub mounts_up : (answer : Result (Unit {0}) StoreFault) → Mounts s old answer new → MountsOn s (Up old) answer (Up new)
  mounts_up answer is = steps_up (λ v a n. dumps.MountStep v s a n) answer is.event (mount_refuses s old) true is.exact (one_known (is_none (reel s old.rack.reels)))
      (λ safe. events_keep_safe.mounting s old new answer safe is)

  pub unmounts_up : (answer : Result (Unit {0}) StoreFault) → Unmounts s old answer new → UnmountsOn s (Up old) answer (Up new)
  unmounts_up answer is = steps_up (λ v a n. dumps.UnmountStep v s a n) answer is.event (unmount_refuses s old) false is.exact
      (three_known (is_none (reel s old.rack.reels)) (not (is_mounted (reel s old.rack.reels))) (is_on s old.dump))
      (λ safe. events_keep_safe.unmounting s old new answer safe is)
