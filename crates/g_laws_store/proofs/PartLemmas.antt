-- IF the parts of a state go by a call, the state does.
-- serves: AddLemmas, CallLemmas, PutLemmas, SetLemmas
use Rattle.std.proofs.Common.{◌≡◌, ℕ, ◌<◌, ◌≤◌, Bool, true, false, List, [], get_or, length, Option, Some, None, is_some, refl, sym, ◌∙◌, ap, arith}
use Rattle.std.specs.Prelude.{◌||◌, Contains, IfSome, map, if◌then◌else◌}
use Rattle.std.specs.Option.{option_map}
use Rattle.std.specs.Ordering.{nat_cmp}
use Rattle.std.specs.FinMap.{FinMap, insert, remove}
use Rattle.std.proofs.lemmas.Bool.{both_ways}
use Rattle.std.proofs.lemmas.List.Elements.{Contains-get_or}
use Rattle.std.proofs.lemmas.Option.{slice_get-get_or}
use Rattle.g_entry.specs.declared.file_rec.FileRec.{FileRec}
use Rattle.g_entry.specs.declared.head.Intent.{Intent}
use Rattle.g_entry.specs.declared.user_rec.UserRec.{UserRec}
use Rattle.g_tape.specs.Reel.{Reel}
use Rattle.g_plain.specs.declared.calls.StoreCall.{StoreCall}
use Rattle.g_plain.specs.declared.faults.StoreFault.{StoreFault}
use Rattle.g_plain.specs.PlainStep.{fault_of, plain_tree, tree_after}
use Rattle.g_plain.specs.PlainTree.{Tree}
use Rattle.g_tree.specs.Records.{IsRecords, name_of}
use Rattle.g_tree.proofs.LawLemmas.{same_bytes}
use Rattle.g_tree.proofs.RecordLemmas.{name_at, nobody}
use Rattle.g_disc_contents.specs.Contents.{Contents, committed, recs_in, with_number}
use Rattle.g_disc_contents.specs.Facts.{OnlineFacts}
use Rattle.g_incr.specs.Layout.{Dump}
use Rattle.g_store_model.specs.State as state
use Rattle.g_store_model.specs.CallStep.{after_call, brings_now, changes, commits, kept_intent, places_after, touched_by, writes}
use Rattle.g_store_meaning.specs.Laws.{with_text}
use Rattle.g_store_meaning.specs.Meaning.{DumpedDirectory}
use Rattle.g_store_meaning.specs.Reading.{Opened, View, dumped_of, names_of, open_of, open_tree, own_opened, places_of, row_of, state_up, tree_by, users_in, users_not_in}
use Rattle.g_store_meaning.specs.StoreInvariant.{DumpFacts}
use Rattle.g_laws_store.specs.Rooms.{held_in}
use Rattle.g_laws_store.proofs.NeedsLemmas.{users_named}
use Rattle.g_laws_store.proofs.UserLemmas.{dumped_texts_stay, users_go_by_change}
use Rattle.g_laws_store.proofs.UpOneLemmas.{open_with}
use Rattle.g_laws_store.specs.Calls.{IsBehind, marked}

-- a call that the plain step grants
pub granted_tree : (tree : Tree) (who : List ℕ) (call : StoreCall) → fault_of tree who call ≡ None → plain_tree tree who call ≡ tree_after tree who call
granted_tree tree who call none = ap (λ (f : Option StoreFault). let t : Tree = elim f [ Some fault ↦ tree | None ↦ tree_after tree who call ] in t) none

-- the intent of a commit: it stays while a dump is open
intent_by : (b : Bool) (e : Contents) (dump : Option state.OpenDump) → b ≡ is_some dump → (committed b e).head.intent ≡ kept_intent dump e.head.intent
intent_by true e (Some d) same = refl
intent_by false e None same = refl
intent_by true e None same = absurd (both_ways true same refl)
intent_by false e (Some d) same = absurd (both_ways false refl same)

some_mapped : {A B : Type 0} (f : A → B) (o : Option A) → is_some (option_map f o) ≡ is_some o
some_mapped f None = refl
some_mapped f (Some x) = refl

-- a text of a version that no dump has changes nothing of an open one
open_places : (x y : ℕ → List ℕ) (opened : Option Opened) → (open_tree x opened).1 ≡ (open_tree y opened).1
open_places x y None = refl
open_places x y (Some p) = refl

module _ (v : View) (reels : List Reel) (o new : OnlineFacts) (dump : Option DumpFacts) (who : List ℕ) (call : StoreCall) (until : ℕ) (text : ℕ → List ℕ) (e : Contents) (owners : List ℕ) where
  abbrev s : state.State
  s = state_up v reels o dump

  abbrev k : state.Holding
  k = held_in v o

  abbrev w : View
  w = record v { text = text }

  -- each part after the call
  pub record GoesBy : Type 0 where
    pub does : (writes call || brings_now s k who call) ≡ true
    pub tree : tree_by text e.users (recs_in e) e.head.next_stamp ≡ plain_tree k.tree who call
    pub places : places_of e.files ≡ places_after k.tree who call (state.taken_offline until k).places
    pub last : e.head.last_dump ≡ o.contents.head.last_dump
    pub intent : e.head.intent ≡ o.contents.head.intent
    pub kept : names_of (users_not_in (marked owners o.changed) e.users) ≡ state.without_all (changes k.tree who call) k.kept
    pub touched : names_of (users_in (marked owners o.touched) e.users) ≡ state.with_all (changes k.tree who call) (names_of (users_in o.touched o.contents.users))
    pub dumped : option_map (dumped_of text) v.dumped ≡ option_map (dumped_of v.text) v.dumped
    pub opened : (open_tree text v.opened).0 ≡ (open_tree v.text v.opened).0

  state_by : ℕ → Tree → FinMap nat_cmp state.Place → ℕ → Option Intent → state.Users → Option state.Dumped → Option state.OpenDump → state.State
  state_by size tree places last intent kept dumped open_dump = record {
    up = true;
    size = size;
    holding = Some (record { tree = tree; places = places; last = last; intent = intent; kept = kept });
    reels = map (row_of v.shelf) reels;
    dumped = dumped;
    open_dump = open_dump;
  }

  module _ (opened : is_some o.pins ≡ is_some dump) (behind : IsBehind o e owners new) (goes : GoesBy) where
    abbrev pinned : Bool
    pinned = is_some o.pins

    -- contents with or without an intent
    same_tree : (b : Bool) → tree_by text (committed b e).users (recs_in (committed b e)) (committed b e).head.next_stamp ≡ tree_by text e.users (recs_in e) e.head.next_stamp
    same_tree true = refl
    same_tree false = refl

    same_files : (b : Bool) → (committed b e).files ≡ e.files
    same_files true = refl
    same_files false = refl

    same_last : (b : Bool) → (committed b e).head.last_dump ≡ e.head.last_dump
    same_last true = refl
    same_last false = refl

    same_users : (b : Bool) → (committed b e).users ≡ e.users
    same_users true = refl
    same_users false = refl

    tree_is : tree_by text new.contents.users (recs_in new.contents) new.contents.head.next_stamp ≡ plain_tree k.tree who call
    tree_is = ap (λ (c : Contents). tree_by text c.users (recs_in c) c.head.next_stamp) behind.contents ∙ same_tree pinned ∙ goes.tree

    places_is : places_of new.contents.files ≡ places_after k.tree who call (state.taken_offline until k).places
    places_is = ap (λ (c : Contents). places_of c.files) behind.contents ∙ ap places_of (same_files pinned) ∙ goes.places

    last_is : new.contents.head.last_dump ≡ o.contents.head.last_dump
    last_is = ap (λ (c : Contents). c.head.last_dump) behind.contents ∙ same_last pinned ∙ goes.last

    intent_is : new.contents.head.intent ≡ kept_intent s.open_dump o.contents.head.intent
    intent_is =
        ap (λ (c : Contents). c.head.intent) behind.contents
        ∙ intent_by pinned e s.open_dump (opened ∙ sym (some_mapped (open_of v o) dump))
        ∙ ap (λ (i : Option Intent). kept_intent s.open_dump i) goes.intent

    kept_is : names_of (users_not_in new.changed new.contents.users) ≡ state.without_all (changes k.tree who call) k.kept
    kept_is =
        ap (λ (ns : List ℕ). names_of (users_not_in ns new.contents.users)) behind.changed
        ∙ ap (λ (c : Contents). names_of (users_not_in (marked owners o.changed) c.users)) behind.contents
        ∙ ap (λ (us : List UserRec). names_of (users_not_in (marked owners o.changed) us)) (same_users pinned)
        ∙ goes.kept

    touched_is : pinned ≡ true → names_of (users_in new.touched new.contents.users) ≡ state.with_all (changes k.tree who call) (names_of (users_in o.touched o.contents.users))
    touched_is is =
        ap (λ (ns : List ℕ). names_of (users_in ns new.contents.users)) (behind.touched is)
        ∙ ap (λ (c : Contents). names_of (users_in (marked owners o.touched) c.users)) behind.contents
        ∙ ap (λ (us : List UserRec). names_of (users_in (marked owners o.touched) us)) (same_users pinned)
        ∙ goes.touched

    open_is : (x : Option DumpFacts) → is_some x ≡ pinned → option_map (open_of w new) x ≡ option_map (touched_by s k who call) (option_map (open_of v o) x)
    open_is None same = refl
    open_is (Some d) same =
        λ i.
        Some (open_with d (behind.pins i) (goes.opened i) (open_places text v.text v.opened i) (own_opened v.opened) (touched_is (sym same) i))

    pub state_is : state_up w reels new dump ≡ after_call s k who call until
    unfolding state_by
    state_is =
        (λ i. state_by (behind.size i) (tree_is i) (places_is i) (last_is i) (intent_is i) (kept_is i) (goes.dumped i) (open_is dump (sym opened) i))
        ∙ sym (ap (λ (b : Bool). if b then record (commits s (record (state.taken_offline until k) {
          tree = plain_tree k.tree who call;
          places = places_after k.tree who call (state.taken_offline until k).places;
          kept = state.without_all (changes k.tree who call) k.kept;
        })) { open_dump = option_map (touched_by s k who call) s.open_dump } else s) goes.does)

-- THE OWNER of a file, by name
pub record IsOwner (users : List UserRec) (owner : ℕ) : Type 0 where
  pub user : UserRec
  pub there : Contains users user
  pub number : user.number ≡ owner
  pub name : name_of users owner ≡ user.user

pub owner_of : (users : List UserRec) (files : List FileRec) (owner : ℕ) → IsRecords users files → owner < length users → IsOwner users owner
owner_of users files owner rules within = record {
  user = get_or users owner nobody;
  there = Contains-get_or users owner nobody within;
  number = rules.among_users.numbered owner (get_or users owner nobody) (slice_get-get_or users owner nobody within);
  name = name_at users owner nobody within;
}

-- a changed user is no longer kept, and is touched
pub kept_without : (users : List UserRec) (files : List FileRec) (numbers : List ℕ) (owner : ℕ) → IsRecords users files → owner < length users
    → names_of (users_not_in (with_number owner numbers) users) ≡ remove (names_of (users_not_in numbers users)) (name_of users owner)
kept_without users files numbers owner rules within =
    let u = owner_of users files owner rules within in
    ap (λ (n : ℕ). names_of (users_not_in (with_number n numbers) users)) (sym u.number)
    ∙ users_go_by_change.kept users numbers u.user (users_named users files rules u.user u.there)
    ∙ ap (λ (name : List ℕ). remove (names_of (users_not_in numbers users)) name) (sym u.name)

pub touched_with : (users : List UserRec) (files : List FileRec) (numbers : List ℕ) (owner : ℕ) → IsRecords users files → owner < length users
    → names_of (users_in (with_number owner numbers) users) ≡ insert (names_of (users_in numbers users)) (name_of users owner) tt
touched_with users files numbers owner rules within =
    let u = owner_of users files owner rules within in
    ap (λ (n : ℕ). names_of (users_in (with_number n numbers) users)) (sym u.number)
    ∙ users_go_by_change.touched users numbers u.user u.there (users_named users files rules u.user u.there)
    ∙ ap (λ (name : List ℕ). insert (names_of (users_in numbers users)) name tt) (sym u.name)

-- TEXTS of dumps, which a new version doesn't change
pub dumped_same : (dumps : List Dump) (x : Option (DumpedDirectory dumps)) (text : ℕ → List ℕ) (next : ℕ) (bytes : List ℕ) → IfSome x (λ t. t.last.next ≤ next)
    → option_map (dumped_of (with_text next bytes text)) x ≡ option_map (dumped_of text) x
dumped_same dumps None text next bytes le = refl
dumped_same dumps (Some t) text next bytes le = ap (λ (d : state.Dumped). let y : Option state.Dumped = Some d in y) (dumped_texts_stay dumps t text next bytes le)

pub opened_same : (x : Option Opened) (text : ℕ → List ℕ) (next : ℕ) (bytes : List ℕ) → IfSome x (λ p. p.directory.last.next ≤ next)
    → (open_tree (with_text next bytes text) x).0 ≡ (open_tree text x).0
opened_same None text next bytes le = same_bytes [] [] (λ r. text r.stamp) (λ r. with_text next bytes text r.stamp) 0 (λ r there. let (i, within, is) = there in let no : ⊥ = omega (arith, within) in absurd no)
opened_same (Some p) text next bytes le = ap (λ (d : state.Dumped). d.tree) (dumped_texts_stay p.dumps p.directory text next bytes le)
