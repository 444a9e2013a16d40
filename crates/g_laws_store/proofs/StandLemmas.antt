-- What a start would adopt stays while the dump is open.
-- serves: starts_adopt_what_is_noted
use Rattle.std.proofs.Common.{◌≡◌, ◌≢◌, ℕ, ◌+◌, ◌-◌, ◌≤◌, Bool, true, false, List, [], ◌∷◌, Option, Some, None, is_some, unwrap_or, refl, sym, ◌∙◌, ap, arith, subst, inl, inr}
use Rattle.std.specs.Prelude.{◌⊎◌, ◌&&◌, ◌||◌, MatchOption, Result, Ok, Err, is_none, nat_lt, not, if◌then◌else◌}
use Rattle.std.specs.Option.{option_map}
use Rattle.std.specs.Ordering.{nat_cmp}
use Rattle.std.specs.FinMap.{FinMap, get, insert, remove, nat_cmp-IsAntisymmetric}
use Rattle.std.proofs.lemmas.Bool.{both_ways, not-true}
use Rattle.std.proofs.lemmas.Cmp.{nat_cmp_total}
use Rattle.g_name.specs.declared.full.Full.{Full}
use Rattle.g_entry.specs.declared.file_rec.TapeCopy.{TapeCopy}
use Rattle.g_plain.specs.declared.calls.StoreCall.{StoreCall}
use Rattle.g_plain.specs.declared.calls.StoreCall.TheVariants.{Put, Append, Fetch, Erase, Retrieve}
use Rattle.g_plain.specs.declared.calls.StoreReply.{StoreReply}
use Rattle.g_plain.specs.declared.faults.StoreFault.{StoreFault}
use Rattle.g_plain.specs.declared.faults.StoreFault.TheVariants.{NoFile, NotDumped, NoUser, Offline, Stopped}
use Rattle.g_plain.specs.PlainStep.{fault_of, plain_tree, tree_after}
use Rattle.g_plain.specs.PlainTree.{Tree, has_file, has_user, input_name, output_name}
use Rattle.g_plain.proofs.Found.{inserted, removed}
use Rattle.g_plain.proofs.StepKept.{all_passed}
use Rattle.g_tree.proofs.RuleLemmas.{made_of}
use Rattle.g_store_model.specs.State.{Holding, OpenDump, Place, State, end_of, fresh, is_candidate, place_at, taken_offline, with_online, without_all}
use Rattle.g_store_model.specs.CallStep.{LeftByRefusal, Outcome, after_call, brings_now, changes, commits, early, is_cut, kept_intent, late, places_after, stamp_of, touched_by, with_version, writes}
use Rattle.g_store_model.specs.DumpSteps.{AreNoted, Event, OpenStep, dump_begun, dump_needs, migrate_refuses, noted_copy, open_refuses, opening, waiting, waiting_blocks}
use Rattle.g_store_model.specs.Rising.{other_copy}
use Rattle.g_laws_store.proofs.PlaceLemmas.{get_by}
use Rattle.g_laws_store.specs.Adoption.{IsDumpable, OwnsStand, OwnsStay, StandIn}
use Rattle.g_laws_store.proofs.AdoptLemmas.{dumpable, stands}

not_ok : {A : Type 0} (reply : StoreReply) (fault : StoreFault) → (let one : Result StoreReply StoreFault = Ok reply in one ≡ Err fault) → A
not_ok reply fault e = absurd (let no : ⊥ = cc in no)

-- an answer that is Ok has passed all refusals
not_refused : {P : Type 0} (Q : StoreFault → Type 0) (f : Option StoreFault) (reply : StoreReply) → MatchOption f P (λ fault. (let one : Result StoreReply StoreFault = Ok reply in one ≡ Err fault) × Q fault) → (f ≡ None) × P
not_refused Q None reply step = (refl, step)
not_refused Q (Some fault) reply step = not_ok reply fault step.0

-- an event that is Ok was done
record IsDone (refusal : Option StoreFault) (after new : State) : Type 0 where
  free : refusal ≡ None
  is : new ≡ after

event_done : {A : Type 0} (refusal : Option StoreFault) (reply : A) (s after : State) (answer : A) (new : State) → Event refusal reply s after (Ok answer) new → IsDone refusal after new
event_done None reply s after answer new step = record { free = refl; is = step.1 }
event_done (Some Stopped) reply s after answer new step = absurd (let e = step.0 in (let no : ⊥ = cc in no))
event_done (Some fault) reply s after answer new step = absurd (let e = step.0 in (let no : ⊥ = cc in no))

-- A VERSION'S PLACE, and its copy by the dump
module _ (d : OpenDump) where
  abbrev Agrees : ℕ → Place → Type 0
  Agrees stamp p = other_copy (get d.own stamp) p ≡ noted_copy d stamp p

  place_on : Bool → Place → Place
  place_on b p = record p { online = b }

  other_online : (o : Option TapeCopy) (b : Bool) (p : Place) → other_copy o (record p { online = b }) ≡ place_on b (other_copy o p)
  unfolding place_on
  other_online None b p = refl
  other_online (Some copy) b p = refl

  noted_online : (waits : Bool) (copy : Option TapeCopy) (b : Bool) (p : Place)
      → (if waits then record (record p { online = b }) { copy = copy } else record p { online = b }) ≡ place_on b (if waits then record p { copy = copy } else p)
  unfolding place_on
  noted_online true copy b p = refl
  noted_online false copy b p = refl

  agrees_online : (stamp : ℕ) (b : Bool) (p : Place) → Agrees stamp p → Agrees stamp (record p { online = b })
  agrees_online stamp b p agrees =
      other_online (get d.own stamp) b p ∙ ap (place_on b) agrees ∙ sym (noted_online (is_some (get d.waiting stamp)) (place_at d.places stamp).copy b p)

  abbrev AllAgree : FinMap nat_cmp Place → Type 0
  AllAgree m = (stamp : ℕ) (p : Place) → get m stamp ≡ Some p → Agrees stamp p

  abbrev taken_by : ℕ → ℕ → Place → Place
  taken_by until q p = if nat_lt q until && is_candidate p then record p { online = false } else p

  agrees_taken : (until stamp : ℕ) (p : Place) → (b : Bool) → Agrees stamp p → Agrees stamp (if b then record p { online = false } else p)
  agrees_taken until stamp p true agrees = agrees_online stamp false p agrees
  agrees_taken until stamp p false agrees = agrees

  taken_agree : (k : Holding) (until : ℕ) → AllAgree k.places → AllAgree (taken_offline until k).places
  taken_agree k until all stamp p has =
      let (q, is, same) = made_of (taken_by until stamp) (get k.places stamp) p (sym (get_by (taken_by until) k.places stamp) ∙ has) in
      subst (λ (x : Place). Agrees stamp x) same (agrees_taken until stamp q (nat_lt stamp until && is_candidate q) (all stamp q is))

  removed_agree : (m : FinMap nat_cmp Place) (old : ℕ) → AllAgree m → AllAgree (remove m old)
  removed_agree m old all stamp p has = all stamp p (removed nat_cmp_total nat_cmp-IsAntisymmetric m old stamp p has).1

  inserted_agree : (m : FinMap nat_cmp Place) (key : ℕ) (value : Place) → AllAgree m → Agrees key value → AllAgree (insert m key value)
  inserted_agree m key value all here stamp p has = by_case (inserted nat_cmp_total nat_cmp-IsAntisymmetric m key value stamp p has)
    where
      by_case : ((stamp ≡ key) × (p ≡ value)) ⊎ ((stamp ≢ key) × (get m stamp ≡ Some p)) → Agrees stamp p
      by_case (inl (same, is)) = subst (λ (x : Place). Agrees stamp x) (sym is) (subst (λ (n : ℕ). Agrees n value) (sym same) here)
      by_case (inr (other, old)) = all stamp p old

  online_agree : (m : FinMap nat_cmp Place) (stamp : ℕ) (p : Place) (b : Bool) → AllAgree m → get m stamp ≡ Some p → AllAgree (with_online b stamp m)
  online_agree m stamp p b all has =
      let at : place_at m stamp ≡ p = ap (λ (o : Option Place). unwrap_or o (record { online = true; copy = None })) has in
      inserted_agree m stamp (record (place_at m stamp) { online = b }) all
      (subst (λ (x : Place). Agrees stamp (record x { online = b })) (sym at) (agrees_online stamp b p (all stamp p has)))

  -- a version that is made now is in no dump
  fresh_agrees : (next : ℕ) → (get d.own next ≡ None) × (get d.waiting next ≡ None) → Agrees next fresh
  fresh_agrees next none =
      ap (λ (o : Option TapeCopy). other_copy o fresh) none.0
      ∙ sym (ap (λ (o : Option ℕ). if is_some o then record fresh { copy = (place_at d.places next).copy } else fresh) none.1)

-- a version that is offline has a place
offline_there : (o : Option Place) → (unwrap_or o (record { online = true; copy = None })).online ≡ false → (p : Place) × (o ≡ Some p)
offline_there None off = absurd (let no : ⊥ = cc in no)
offline_there (Some p) off = (p, refl)

taken_there : (k : Holding) (until stamp : ℕ) (p : Place) → get k.places stamp ≡ Some p → (q : Place) × (get (taken_offline until k).places stamp ≡ Some q)
taken_there k until stamp p has =
    let by : ℕ → Place → Place = λ n x. if nat_lt n until && is_candidate x then record x { online = false } else x in
    (by stamp p, get_by by k.places stamp ∙ ap (option_map (by stamp)) has)

module _ (s : State) (k : Holding) (d : OpenDump) (who : List ℕ) (stand : OwnsStand d k) where
  all_before : AllAgree d k.places
  all_before stamp p has = stand.noted.each stamp p has

  version_agree : (full : Full) (until : ℕ) → AllAgree d (with_version k.tree full (taken_offline until k).places)
  version_agree full until =
      inserted_agree d (remove (taken_offline until k).places (stamp_of k.tree full)) k.tree.next fresh
      (removed_agree d (taken_offline until k).places (stamp_of k.tree full) (taken_agree d k until all_before))
      (fresh_agrees d k.tree.next (stand.older k.tree.next (let le : k.tree.next ≤ k.tree.next = omega arith in le)))

  back_agree : (full : Full) (until : ℕ) → (place_at k.places (stamp_of k.tree full)).online ≡ false
      → AllAgree d (with_online true (stamp_of k.tree full) (taken_offline until k).places)
  back_agree full until off =
      let (p, has) = offline_there (get k.places (stamp_of k.tree full)) off in
      let (q, there) = taken_there k until (stamp_of k.tree full) p has in
      online_agree d (taken_offline until k).places (stamp_of k.tree full) q true (taken_agree d k until all_before) there

  call_agree : (call : StoreCall) (until : ℕ) → (writes call || brings_now s k who call) ≡ true → AllAgree d (places_after k.tree who call (taken_offline until k).places)
  call_agree (Put path bytes) until does = version_agree (output_name k.tree who path) until
  call_agree (Append path bytes) until does = version_agree (input_name k.tree who path) until
  call_agree (Erase path) until does = removed_agree d (taken_offline until k).places (stamp_of k.tree (input_name k.tree who path)) (taken_agree d k until all_before)
  call_agree (Fetch path mode) until does = back_agree (input_name k.tree who path) until (not-true (place_at k.places (stamp_of k.tree (input_name k.tree who path))).online does)
  call_agree (Retrieve path) until does = back_agree (input_name k.tree who path) until (not-true (place_at k.places (stamp_of k.tree (input_name k.tree who path))).online does)
  call_agree call until does = taken_agree d k until all_before

  after_next : (call : StoreCall) → k.tree.next ≤ (tree_after k.tree who call).next
  after_next (Put path bytes) = let le : k.tree.next ≤ k.tree.next + 1 = omega arith in le
  after_next (Append path bytes) = let le : k.tree.next ≤ k.tree.next + 1 = omega arith in le
  after_next call = let le : k.tree.next ≤ k.tree.next = omega arith in le

  plain_next : (call : StoreCall) (f : Option StoreFault) → k.tree.next ≤ (let t : Tree = elim f [ Some fault ↦ k.tree | None ↦ tree_after k.tree who call ] in t).next
  plain_next call None = after_next call
  plain_next call (Some fault) = let le : k.tree.next ≤ k.tree.next = omega arith in le

  call_later : (call : StoreCall) (stamp : ℕ) → (plain_tree k.tree who call).next ≤ stamp → (get d.own stamp ≡ None) × (get d.waiting stamp ≡ None)
  call_later call stamp le =
      let grown : k.tree.next ≤ (plain_tree k.tree who call).next = plain_next call (fault_of k.tree who call) in
      stand.older stamp (omega (arith, grown, le))

  -- after the call, if the outcome of the test holds
  stands_behind : (call : StoreCall) (until : ℕ) (b : Bool) → (writes call || brings_now s k who call) ≡ b
      → StandIn (if b then record (commits s (record (taken_offline until k) {
        tree = plain_tree k.tree who call;
        places = places_after k.tree who call (taken_offline until k).places;
        kept = without_all (changes k.tree who call) k.kept;
      })) { open_dump = option_map (touched_by s k who call) s.open_dump } else s) → StandIn (after_call s k who call until)
  stands_behind call until b does stands =
      subst (λ (u : State). StandIn u)
      (sym (ap (λ (b : Bool). if b then record (commits s (record (taken_offline until k) {
        tree = plain_tree k.tree who call;
        places = places_after k.tree who call (taken_offline until k).places;
        kept = without_all (changes k.tree who call) k.kept;
      })) { open_dump = option_map (touched_by s k who call) s.open_dump } else s) does))
      stands

  call_stands : (call : StoreCall) (until : ℕ) (b : Bool) → (writes call || brings_now s k who call) ≡ b → s.holding ≡ Some k → s.open_dump ≡ Some d
      → StandIn (after_call s k who call until)
  call_stands call until true does holds is =
      stands_behind call until true does (record {
        held = record (taken_offline until k) {
          tree = plain_tree k.tree who call;
          places = places_after k.tree who call (taken_offline until k).places;
          kept = without_all (changes k.tree who call) k.kept;
          intent = kept_intent s.open_dump k.intent;
        };
        holds = refl;
        dump = touched_by s k who call d;
        is = ap (option_map (touched_by s k who call)) is;
        stand = record {
          noted = record { each = call_agree call until does };
          older = call_later call;
        };
      })
  call_stands call until false does holds is = stands_behind call until false does (record { held = k; holds = holds; dump = d; is = is; stand = stand })

-- a file that may be migrated has a copy
migrates_there : (k : Holding) (user : Option (List ℕ)) (full : Full) (o : Outcome) → migrate_refuses k user full o ≡ None → (p : Place) × (get k.places (stamp_of k.tree full) ≡ Some p)
migrates_there k user full o free = by_place (get k.places (stamp_of k.tree full)) refl
  where
    has_copy : is_none (place_at k.places (stamp_of k.tree full)).copy ≡ false
    has_copy = (all_passed (
        (is_none user || not (has_user k.tree full.user), NoUser)
        ∷ (not (has_file k.tree full), NoFile)
        ∷ (not (place_at k.places (stamp_of k.tree full)).online, Offline)
        ∷ (is_none (place_at k.places (stamp_of k.tree full)).copy, NotDumped)
        ∷ (is_cut o, Stopped)
        ∷ []) free).1.1.1.0

    by_place : (x : Option Place) → get k.places (stamp_of k.tree full) ≡ x → (p : Place) × (get k.places (stamp_of k.tree full) ≡ Some p)
    by_place (Some p) e = (p, e)
    by_place None e =
        absurd (both_ways (is_none (place_at k.places (stamp_of k.tree full)).copy) has_copy
        (ap (λ (x : Option Place). is_none (unwrap_or x (record { online = true; copy = None })).copy) e))

opened_stands : (s : State) (k : Holding) (serial : ℕ) (o : Outcome) (number : ℕ) (new : State) → IsDumpable k → OpenStep s k serial o (Ok number) new → StandIn new
opened_stands s k serial o number new able step =
    let places : FinMap nat_cmp Place = step.0 in
    let done = event_done (open_refuses s k serial o) (k.last + 1) s (opening s k serial places) number new step.2 in
    let ends = end_of s serial + dump_needs k - 1 in
    let noted : AreNoted serial (ends - waiting_blocks (waiting k)) ends k places = step.1 done.free in
    let held : Holding = record k { intent = Some (record { serial = serial; place = end_of s serial; number = k.last + 1 }) } in
    let dump : OpenDump = dump_begun s k serial places in
    subst (λ (u : State). StandIn u) (sym done.is) (record {
      held = held;
      holds = refl;
      dump = dump;
      is = refl;
      stand = stands k serial (ends - waiting_blocks (waiting k)) ends places noted able dump refl refl refl held refl refl;
    })

pub owns_stay : OwnsStay
owns_stay = record {
  dumpable = dumpable;
  opened = opened_stands;
  called = λ s k d who call o reply new holds is stand step.
      let plan = (not_refused (λ fault. new ≡ s) (early s k who call o) reply step).1 in
      let done = (not_refused (λ fault. LeftByRefusal s k who call o plan.until fault new) (late s k who call o plan.until) reply plan.step).1 in
      subst (λ (u : State). StandIn u) (sym done.1) (call_stands s k d who stand call plan.until (writes call || brings_now s k who call) refl holds is);
  migrated = λ s k d user full o answer new holds is stand step.
      let done = event_done (migrate_refuses k user full o) full s (commits s (record k { places = with_online false (stamp_of k.tree full) k.places })) answer new step in
      let (p, has) = migrates_there k user full o done.free in
      subst (λ (u : State). StandIn u) (sym done.is) (record {
        held = record k { places = with_online false (stamp_of k.tree full) k.places; intent = kept_intent s.open_dump k.intent };
        holds = refl;
        dump = d;
        is = is;
        stand = record { noted = record { each = online_agree d k.places (stamp_of k.tree full) p false (all_before s k d [] stand) has }; older = stand.older };
      });
  going = λ s k d o new holds stand step.
      subst (λ (u : State). StandIn u) (sym step.3)
      (record { held = k; holds = holds; dump = record d { done = d.done + 1 }; is = refl; stand = record { noted = record { each = stand.noted.each }; older = stand.older } });
}
