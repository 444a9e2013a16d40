-- For the state that a store represents, a view in which no dump is newer than the disc. If the devices expose their
-- contents it is the only view; otherwise one without a dumped tree has the same names and lengths.
-- serves: AppendedLemmas, AskedLemmas, PutLemmas, VersionLemmas
use Rattle.std.proofs.Common.{◌≡◌, ◌≢◌, ℕ, ◌≤◌, true, false, List, [], ◌∷◌, ◌++◌, Option, Some, None, is_some, refl, sym, ◌∙◌, ap, inl, inr, subst, All}
use Rattle.std.specs.Prelude.{◌⊎◌, ◌==◌, AllPairs, Contains, IfSome, if◌then◌else◌}
use Rattle.std.specs.Option.{ForSome}
use Rattle.std.proofs.lemmas.Bool.{cases_Bool, both_ways}
use Rattle.std.proofs.lemmas.List.Elements.{All-cons, All-head, All-nil, All-tail, All-weaker}
use Rattle.std.proofs.lemmas.List.Kept.{AllPairs-filter}
use Rattle.g_entry.specs.declared.file_rec.FileRec.{FileRec}
use Rattle.g_tape.specs.Reel.{Reel}
use Rattle.g_disc_contents.specs.Contents.{File}
use Rattle.g_disc_contents.specs.Facts.{Pin}
use Rattle.g_incr.specs.Layout.{Dump}
use Rattle.g_incr.specs.Plan.{dump_of, first_content, waiting, waits}
use Rattle.g_shelf.specs.CompletedDumps.{AreShelved, all_dumps}
use Rattle.g_store_model.specs.State.{State}
use Rattle.g_store_meaning.specs.Answers.{Belongs, IsStore, Told}
use Rattle.g_store_meaning.specs.Meaning.{DumpedDirectory, told_reels}
use Rattle.g_store_meaning.specs.Reading.{AllTold, HasText, IsOpenView, IsView, Opened, OpensTo, ReelsTold, StandsForState, View, state_up}
use Rattle.g_store_meaning.specs.StoreInvariant.{DumpFacts, IsOpen, IsReady, IsUp, StoreFacts, content_in, with_dump}
use Rattle.g_store_meaning.proofs.OneLemmas.{Agree, same_dumps, shelves_agree}
use Rattle.g_laws_store.specs.Calls.{IsAsked}
use Rattle.g_laws_store.specs.Rooms.{ArePins, HasLength}
use Rattle.g_laws_store.specs.UnjamPlan.{ArePlanned}
use Rattle.g_laws_store.proofs.NeedsLemmas.{pins_differ}
use Rattle.g_online.specs.AllowedChanges.{KeepsRules}
use Rattle.g_migrate.proofs.MigrationLemmas.{rules_here}
use Rattle.g_store_calls.specs.Answering.{KeepsPlan}
use Rattle.g_store_calls.proofs.SeenLemmas.{Seen, seen, stands}

-- the state, by a view in which no dump's next stamp is above the disc's
pub record Ahead (s : StoreFacts) (u : State) : Type 0 where
  pub view : View
  pub is : IsView s.online.disc.held (told_reels s.rack) s.online.contents view
  pub opens : IsOpenView (told_reels s.rack) view s.online s.dump
  pub state_is : u ≡ state_up view (told_reels s.rack) s.online s.dump
  pub dumped : IfSome view.dumped (λ t. t.last.next ≤ s.online.contents.head.next_stamp)
  pub opened : IfSome view.opened (λ p. p.directory.last.next ≤ s.online.contents.head.next_stamp)

pub ahead_stands : (s : StoreFacts) (u : State) → s.spent ≡ false → Ahead s u → StandsForState s u
ahead_stands s u unspent a = stands s u unspent (record { view = a.view; is = a.is; opens = a.opens; state_is = a.state_is })

-- the state that a call meets: the only one, if the devices expose their contents
pub record Before (s : StoreFacts) (u : State) : Type 0 where
  pub before : State
  pub ahead : Ahead s before
  pub told : Told s → before ≡ u

-- whether the devices expose their contents
reels_told : (reels : List Reel) → ReelsTold reels ⊎ (ReelsTold reels → ⊥)
reels_told [] = inl (record { each = All-nil (λ (r : Reel). is_some r.blocks ≡ true) })
reels_told (r ∷ rs) = by_first (cases_Bool (is_some r.blocks)) (reels_told rs)
  where
    by_first : (is_some r.blocks ≡ true) ⊎ (is_some r.blocks ≡ false) → ReelsTold rs ⊎ (ReelsTold rs → ⊥) → ReelsTold (r ∷ rs) ⊎ (ReelsTold (r ∷ rs) → ⊥)
    by_first (inl is) (inl are) = inl (record { each = All-cons (λ (x : Reel). is_some x.blocks ≡ true) r rs is are.each })
    by_first (inr isnt) rest = inr (λ told. both_ways (is_some r.blocks) isnt (All-head (λ (x : Reel). is_some x.blocks ≡ true) r rs told.each))
    by_first (inl is) (inr not) = inr (λ told. not (record { each = All-tail (λ (x : Reel). is_some x.blocks ≡ true) r rs told.each }))

pub told_or_not : (held : Option (List (List ℕ))) (reels : List Reel) → AllTold held reels ⊎ (AllTold held reels → ⊥)
told_or_not held reels = by_disc (cases_Bool (is_some held)) (reels_told reels)
  where
    by_disc : (is_some held ≡ true) ⊎ (is_some held ≡ false) → ReelsTold reels ⊎ (ReelsTold reels → ⊥) → AllTold held reels ⊎ (AllTold held reels → ⊥)
    by_disc (inl is) (inl are) = inl (record { disc = is; each = are })
    by_disc (inr isnt) rest = inr (λ told. both_ways (is_some held) isnt told.disc)
    by_disc (inl is) (inr not) = inr (λ told. not told.each)

-- IF THEY DON'T: the same without a dumped tree
module _ (s : StoreFacts) (u : State) (sn : Seen s u) (not : Told s → ⊥) where
  abbrev bare : View
  bare = record sn.view { dumped = None; opened = None }

  pub ahead_untold : Ahead s (state_up (record sn.view { dumped = None; opened = None }) (told_reels s.rack) s.online s.dump)
  ahead_untold = record {
    view = bare;
    is = record {
      rack = record { shelved = sn.is.rack.shelved; all = sn.is.rack.all; dumped = λ told. absurd (not told); none = λ told. absurd (not told) };
      files = sn.is.files;
    };
    opens = record { is = λ told. absurd (not told) };
    state_is = refl;
    dumped = tt;
    opened = tt;
  }

-- IF THEY DO
pub agree_with : (d : Dump) (a b : ℕ → List Dump) (reels : List Reel) → Agree a b reels → Agree (with_dump d a) (with_dump d b) reels
unfolding Agree
agree_with d a b reels agree r there = ap (λ (ds : List Dump). let es : List Dump = if r.serial == d.serial then ds ++ d ∷ [] else ds in es) (agree r there)

module _ (s : StoreFacts) (u : State) (sn : Seen s u) (told : Told s) (text : ℕ → List ℕ) (shelf : ℕ → List Dump) (shelved : AreShelved shelf (told_reels s.rack)) (up : IsUp text shelf s) where
  abbrev reels : List Reel
  reels = told_reels s.rack

  abbrev v : View
  v = sn.view

  abbrev next : ℕ
  next = s.online.contents.head.next_stamp

  agree : Agree shelf v.shelf reels
  agree = shelves_agree shelf v.shelf reels told.each shelved sn.is.rack.shelved

  dumped_by : (x : Option (DumpedDirectory v.dumps)) → IfSome x (λ t. t.last.next ≤ next)
  dumped_by None = tt
  dumped_by (Some t) =
      up.disc.stamps t.last (subst (λ (ds : List Dump). Contains ds t.last) (sn.is.rack.all ∙ sym (same_dumps shelf v.shelf reels agree)) t.greatest.there)

  opened_le : (d : DumpFacts) (content : List (List ℕ)) (p : Opened) → IsReady text shelf reels s.online (dump_of d.plan content) → OpensTo reels v d.plan content p
      → p.directory.last.next ≤ next
  opened_le d content p ready opens =
      let e : Dump = dump_of d.plan content in
      let same : p.dumps ≡ all_dumps (with_dump e shelf) reels =
      opens.all ∙ sym (same_dumps (with_dump e shelf) (with_dump e v.shelf) reels (agree_with e shelf v.shelf reels agree)) in
      ready.disc.stamps p.directory.last (subst (λ (ds : List Dump). Contains ds p.directory.last) same p.directory.greatest.there)

  abbrev OpensBy : Option DumpFacts → Type 0
  OpensBy dump = (pins : List Pin) → s.online.pins ≡ Some pins
      → IfSome dump (λ d. (content : List (List ℕ)) × (content_in pins ≡ Some content) × (opened : Opened) × OpensTo reels v d.plan content opened)

  abbrev ReadyBy : Option DumpFacts → Type 0
  ReadyBy dump = IfSome dump (λ d. (pins : List Pin) → s.online.pins ≡ Some pins → ForSome (content_in pins) (λ content. IsReady text shelf reels s.online (dump_of d.plan content)))

  by_dump : (dump : Option DumpFacts) → s.dump ≡ dump → IfSome dump (λ d. IsOpen d s.online s.rack) → OpensBy dump → ReadyBy dump → Ahead s u
  by_dump None none open_is opens ready = record {
    view = record v { opened = None };
    is = record { rack = record { shelved = sn.is.rack.shelved; all = sn.is.rack.all; dumped = sn.is.rack.dumped; none = sn.is.rack.none }; files = sn.is.files };
    opens = record {
      is = λ all pins pinned.
          subst (λ (x : Option DumpFacts). IfSome x (λ d. (content : List (List ℕ)) × (content_in pins ≡ Some content) × (opened : Opened) × OpensTo reels (record v { opened = None }) d.plan content opened))
          (sym none) tt;
    };
    state_is = sn.state_is ∙ subst (λ (x : Option DumpFacts). state_up v reels s.online x ≡ state_up (record v { opened = None }) reels s.online x) (sym none) refl;
    dumped = dumped_by v.dumped;
    opened = tt;
  }
  by_dump (Some d) some open_is opens ready =
      let (content, is_content, p, to) = opens open_is.pins open_is.pinned in
      record {
        view = v;
        is = sn.is;
        opens = sn.opens;
        state_is = sn.state_is;
        dumped = dumped_by v.dumped;
        opened = subst (λ (x : Option Opened). IfSome x (λ q. q.directory.last.next ≤ next)) (sym to.is)
            (opened_le d content p (ready open_is.pins open_is.pinned content is_content) to);
      }

  pub ahead_told : s.spent ≡ false → IsStore s → Ahead s u
  ahead_told unspent store = by_dump s.dump refl (store.open_dump unspent) (λ pins pinned. sn.opens.is told pins pinned) up.open_dump

-- THE STATE THAT A CALL MEETS
pub before_of : (s : StoreFacts) (u : State) → s.spent ≡ false → IsStore s → (Told s → Belongs s) → StandsForState s u → Before s u
before_of s u unspent store belongs here = by_told (told_or_not s.online.disc.held (told_reels s.rack))
  where
    by_told : Told s ⊎ (Told s → ⊥) → Before s u
    by_told (inl told) =
        let (text, shelf, shelved, up) = (belongs told).up unspent in
        record { before = u; ahead = ahead_told s u (seen s u unspent here) told text shelf shelved up unspent store; told = λ all. refl }
    by_told (inr not) =
        let sn = seen s u unspent here in
        record { before = state_up (record sn.view { dumped = None; opened = None }) (told_reels s.rack) s.online s.dump; ahead = ahead_untold s u sn not; told = λ all. absurd (not all) }

-- WHAT IS KNOWN where a call takes bytes
pub rules_of : (s : StoreFacts) → s.spent ≡ false → IsStore s → KeepsRules s.online.contents
rules_of s unspent store = rules_here s.online (store.live unspent) store.tied

pub are_pins : (s : StoreFacts) → s.spent ≡ false → IsStore s → KeepsPlan s.dump → ArePins s.dump s.online.pins
are_pins s unspent store keeps = record { none = store.pins unspent; apart = by_dump s.dump refl (store.open_dump unspent) keeps }
  where
    by_dump : (dump : Option DumpFacts) → s.dump ≡ dump → IfSome dump (λ d. IsOpen d s.online s.rack) → KeepsPlan dump → IfSome s.online.pins (AllPairs (λ p q. p.stamp ≢ q.stamp))
    by_dump None none open_is keeps = subst (λ (x : Option (List Pin)). IfSome x (AllPairs (λ (p q : Pin). p.stamp ≢ q.stamp))) (sym (store.pins unspent none)) tt
    by_dump (Some d) some open_is keeps =
        subst (λ (x : Option (List Pin)). IfSome x (AllPairs (λ (p q : Pin). p.stamp ≢ q.stamp))) (sym open_is.pinned)
        (pins_differ d.plan.serial (first_content d.plan) (waiting d.plan.files) open_is.pins open_is.are
        (AllPairs-filter (λ (r q : FileRec). r.stamp ≢ q.stamp) waits d.plan.files keeps.files.stamps))

pub are_pinned : (s : StoreFacts) → s.spent ≡ false → IsStore s → is_some s.online.pins ≡ is_some s.dump
are_pinned s unspent store = by_dump s.dump refl (store.open_dump unspent)
  where
    by_dump : (dump : Option DumpFacts) → s.dump ≡ dump → IfSome dump (λ d. IsOpen d s.online s.rack) → is_some s.online.pins ≡ is_some dump
    by_dump None none open_is = ap is_some (store.pins unspent none)
    by_dump (Some d) some open_is = ap is_some open_is.pinned

pub long_of : (s : StoreFacts) (v : View) → IsView s.online.disc.held (told_reels s.rack) s.online.contents v → All (HasLength v.text) s.online.contents.files
long_of s v is =
    All-weaker (λ (f : File). HasText (AllTold s.online.disc.held (told_reels s.rack)) (v.text f.rec.stamp) v.dumps f) (HasLength v.text) (λ f has. has.len) s.online.contents.files is.files

pub are_planned : (s : StoreFacts) (v : View) → s.spent ≡ false → IsStore s → KeepsPlan s.dump → IsView s.online.disc.held (told_reels s.rack) s.online.contents v → ArePlanned v s.online s.dump
are_planned s v unspent store keeps is = record { records = (rules_of s unspent store).records; long = long_of s v is; pins = are_pins s unspent store keeps }

pub asked_of : (s : StoreFacts) (u : State) → s.spent ≡ false → IsStore s → KeepsPlan s.dump → (a : Ahead s u) → IsAsked a.view s.online s.dump
asked_of s u unspent store keeps a = record {
  records = (rules_of s unspent store).records;
  dated = (rules_of s unspent store).dated;
  long = long_of s a.view a.is;
  pins = are_pins s unspent store keeps;
  pinned = are_pinned s unspent store;
  dumped = a.dumped;
  opened = a.opened;
}
