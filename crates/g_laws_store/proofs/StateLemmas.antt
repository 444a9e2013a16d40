-- What belongs together has a state.
-- serves: lib, ClosingLemmas, OpenedLemmas, OpeningLemmas, crates above
use Rattle.std.proofs.Common.{◌≡◌, ℕ, true, false, List, [], ◌∷◌, ◌++◌, Option, Some, None, refl, sym, ◌∙◌, arith, subst}
use Rattle.std.specs.Prelude.{Bool, ◌==◌, All, Contains, IfSome, is_some}
use Rattle.std.specs.Option.{ForSome}
use Rattle.std.proofs.lemmas.Bool.{cond-true, eq-eqb, false≢true}
use Rattle.std.proofs.lemmas.List.Elements.{All-head, All-tail, All-weaker, Contains-push}
use Rattle.std.proofs.lemmas.Option.{none-some, same_Some}
use Rattle.g_entry.specs.declared.head.Intent.{Intent}
use Rattle.g_tape.specs.Reel.{Reel}
use Rattle.g_tape.specs.Rack.{Rack}
use Rattle.g_disc_contents.specs.Contents.{Contents, File, Holds}
use Rattle.g_disc_contents.specs.Facts.{IsPinOf, OnlineFacts, Pin}
use Rattle.g_incr.specs.Layout.{Dump}
use Rattle.g_incr.specs.Plan.{dump_of}
use Rattle.g_shelf.specs.CompletedDumps.{AreShelved, all_dumps}
use Rattle.g_store_model.specs.State.{State}
use Rattle.g_store_meaning.specs.Answers.{Belongs, IsStore}
use Rattle.g_store_meaning.specs.Belonging.{BelongWith, DiscBelongs, IsPlaced, KeepsFile, KeepsRecord, RackBelongs}
use Rattle.g_store_meaning.specs.Meaning.{DumpedDirectory, files_in, told_reels}
use Rattle.g_laws_store.specs.States.{AreContents, HaveStates}
use Rattle.g_store_meaning.specs.Reading.{AllTold, DevicesStandFor, HasText, IsRackView, IsView, OpensTo, Opened, StandsForState, View, state_down, state_up}
use Rattle.g_store_meaning.specs.StoreInvariant.{DumpFacts, IsOpen, IsReady, StoreFacts, content_in, with_dump}
use Rattle.g_laws_store.proofs.PinLemmas.{both_told}
use Rattle.g_laws_store.proofs.UpOneLemmas.{on_all, reel_named}
use Rattle.g_store_meaning.proofs.ViewLemmas.{Stands, back}

-- THE DUMPED DIRECTORY, if there is a dump
abbrev pub dumped_in : (dumps : List Dump) → ((d : Dump) → Contains dumps d → DumpedDirectory dumps) → Option (DumpedDirectory dumps)
dumped_in [] tree = None
dumped_in (d ∷ ds) tree = Some (tree d (0, omega arith, refl))

keeps_dumped : (dumps : List Dump) (tree : (d : Dump) → Contains dumps d → DumpedDirectory dumps) (P : DumpedDirectory dumps → Type 0) → ((t : DumpedDirectory dumps) → P t)
    → IfSome (dumped_in dumps tree) P
keeps_dumped [] tree P all = tt
keeps_dumped (d ∷ ds) tree P all = all (tree d (0, omega arith, refl))

none_dumped : (dumps : List Dump) (tree : (d : Dump) → Contains dumps d → DumpedDirectory dumps) → dumped_in dumps tree ≡ None → DumpedDirectory dumps → ⊥
none_dumped [] tree isnt t = let (i, within, is) = t.greatest.there in (let no : ⊥ = omega (arith, within) in no)
none_dumped (d ∷ ds) tree isnt t = none-some (tree d (0, omega arith, refl)) (sym isnt)

abbrev pub view_by : (text : ℕ → List ℕ) (shelf : ℕ → List Dump) (reels : List Reel) → RackBelongs text (all_dumps shelf reels) → Option Opened → View
view_by text shelf reels rack opened = record { text = text; shelf = shelf; dumps = all_dumps shelf reels; dumped = dumped_in (all_dumps shelf reels) rack.tree; opened = opened }

module _ (held : Option (List (List ℕ))) (reels : List Reel) (text : ℕ → List ℕ) (shelf : ℕ → List Dump) (shelved : AreShelved shelf reels)
    (rack : RackBelongs text (all_dumps shelf reels)) (opened : Option Opened) where
  pub rack_view : IsRackView held reels (view_by text shelf reels rack opened)
  rack_view = record {
    shelved = shelved;
    all = refl;
    dumped = λ told. keeps_dumped (all_dumps shelf reels) rack.tree (λ t. All (λ r. KeepsRecord (text r.stamp) (all_dumps shelf reels) r) (files_in t)) rack.records;
    none = λ told isnt t other keeps. none_dumped (all_dumps shelf reels) rack.tree isnt t;
  }

  pub is_view : (c : Contents) → DiscBelongs text shelf reels c → IsView held reels c (view_by text shelf reels rack opened)
  is_view c disc = record {
    rack = rack_view;
    files = All-weaker (λ (f : File). KeepsFile (text f.rec.stamp) (all_dumps shelf reels) f) (λ (f : File). HasText (AllTold held reels) (text f.rec.stamp) (all_dumps shelf reels) f)
        (λ f keeps. record { len = keeps.rec.len; bytes = keeps.bytes; tape = λ told offline. keeps.rec.copy }) c.files disc.files;
  }

-- DEVICES under no store
devices_have : (size : ℕ) (held : Option (List (List ℕ))) (reels : List Reel) (contents : Option Contents) → AreContents held contents → BelongWith held reels
    → (u : State) × DevicesStandFor size held reels u
devices_have size held reels contents are belongs =
    let v = view_by belongs.text belongs.shelf reels belongs.rack None in (
      state_down v reels size contents,
      record {
        view = v;
        contents = contents;
        is = seen contents are.are;
        none = are.none;
        rack = rack_view held reels belongs.text belongs.shelf belongs.shelved belongs.rack None;
        state_is = refl;
      },
    )
  where
    seen : (contents : Option Contents) → IfSome contents (λ c. (blocks : List (List ℕ)) × (held ≡ Some blocks) × Holds blocks c)
        → IfSome contents (λ c. (blocks : List (List ℕ)) × (held ≡ Some blocks) × Holds blocks c × IsView held reels c (view_by belongs.text belongs.shelf reels belongs.rack None))
    seen None is = tt
    seen (Some c) (blocks, is, holds) =
        (blocks, is, holds, is_view held reels belongs.text belongs.shelf belongs.shelved belongs.rack None c (belongs.disc blocks c is holds))

-- pins that are exposed give the content of the dump
are_told : (a b : Option (List (List ℕ))) → is_some a ≡ true → is_some b ≡ true → is_some (both_told a b) ≡ true
are_told (Some a) (Some b) is_a is_b = refl
are_told (Some a) None is_a is_b = is_b
are_told None b is_a is_b = is_a

content_told : (told : Bool) (next : ℕ) (files : List File) (pins : List Pin) → told ≡ true → All (IsPinOf told next files) pins → is_some (content_in pins) ≡ true
content_told told next files [] is all = refl
content_told told next files (p ∷ ps) is all =
    are_told p.blocks (content_in ps) ((All-head (IsPinOf told next files) p ps all).tells ∙ is)
    (content_told told next files ps is (All-tail (IsPinOf told next files) p ps all))

-- THE OPEN DUMP, and what the dumps give with it
pub with_there : (d : Dump) (shelf : ℕ → List Dump) (reels : List Reel) (r : Reel) → Contains reels r → r.serial ≡ d.serial → Contains (all_dumps (with_dump d shelf) reels) d
with_there d shelf reels r there same =
    on_all (with_dump d shelf) reels r d there
    (subst (λ (ds : List Dump). Contains ds d) (sym (cond-true (r.serial == d.serial) (shelf r.serial ++ d ∷ []) (shelf r.serial) (eq-eqb r.serial d.serial same))) (Contains-push (shelf r.serial) d))

abbrev IsReadyAt : (ℕ → List ℕ) → (ℕ → List Dump) → List Reel → OnlineFacts → DumpFacts → List (List ℕ) → Type 0
IsReadyAt text shelf reels o d content = IsReady text shelf reels o (dump_of d.plan content)

module _ (text : ℕ → List ℕ) (shelf : ℕ → List Dump) (reels : List Reel) (rack : RackBelongs text (all_dumps shelf reels)) (o : OnlineFacts) (tapes : Rack)
    (on_rack : (i : Intent) → o.contents.head.intent ≡ Some i → (r : Reel) × Contains reels r × (r.serial ≡ i.serial)) where
  abbrev opened_of : (d : DumpFacts) → IsOpen d o tapes → (content : List (List ℕ)) → IsReadyAt text shelf reels o d content → Opened
  opened_of d is content ready =
      let made = dump_of d.plan content in
      let (r, there, same) = on_rack (record { serial = d.plan.serial; place = d.plan.place; number = d.plan.number }) is.intent in
      record { dump = made; dumps = all_dumps (with_dump made shelf) reels; directory = ready.rack.tree made (with_there made shelf reels r there same) }

  abbrev opened_by : (d : DumpFacts) → IsOpen d o tapes → (content : Option (List (List ℕ))) → ForSome content (IsReadyAt text shelf reels o d) → Option Opened
  opened_by d is None ready = None
  opened_by d is (Some content) ready = Some (opened_of d is content (ready content refl))

  abbrev opened_at : (dump : Option DumpFacts) → IfSome dump (λ d. IsOpen d o tapes)
      → IfSome dump (λ d. (pins : List Pin) → o.pins ≡ Some pins → ForSome (content_in pins) (IsReadyAt text shelf reels o d)) → Option Opened
  opened_at None is ready = None
  opened_at (Some d) is ready = opened_by d is (content_in is.pins) (ready is.pins is.pinned)

  -- what a view says that has it
  abbrev Opens : DumpFacts → Option (List (List ℕ)) → Option Opened → Type 0
  Opens d content opened =
      (c : List (List ℕ)) × (content ≡ Some c) × (o : Opened) × OpensTo reels (view_by text shelf reels rack opened) d.plan c o

  opens_by : (d : DumpFacts) (is : IsOpen d o tapes) (content : Option (List (List ℕ))) → is_some content ≡ true → (ready : ForSome content (IsReadyAt text shelf reels o d))
      → Opens d content (opened_by d is content ready)
  opens_by d is None told ready = absurd (false≢true told)
  opens_by d is (Some content) told ready =
      let r = ready content refl in (
        content,
        refl,
        opened_of d is content r,
        record { is = refl; dump = refl; all = refl; records = r.rack.records (opened_of d is content r).directory },
      )

  opens_at : (dump : Option DumpFacts) (is : IfSome dump (λ d. IsOpen d o tapes))
      (ready : IfSome dump (λ d. (pins : List Pin) → o.pins ≡ Some pins → ForSome (content_in pins) (IsReadyAt text shelf reels o d)))
      → ((pins : List Pin) → o.pins ≡ Some pins → is_some (content_in pins) ≡ true)
      → (pins : List Pin) → o.pins ≡ Some pins → IfSome dump (λ d. Opens d (content_in pins) (opened_at dump is ready))
  opens_at None is ready told pins pinned = tt
  opens_at (Some d) is ready told pins pinned =
      let same : is.pins ≡ pins = same_Some is.pins pins (sym is.pinned ∙ pinned) in
      subst (λ (ps : List Pin). Opens d (content_in ps) (opened_at (Some d) is ready)) same
      (opens_by d is (content_in is.pins) (told is.pins is.pinned) (ready is.pins is.pinned))

-- STORES
up_has : (s : StoreFacts) → s.spent ≡ false → Belongs s → IsStore s → (u : State) × StandsForState s u
unfolding Stands
up_has s unspent belongs keeps =
    let reels = told_reels s.rack in
    let o = s.online in
    let (text, shelf, shelved, up) = belongs.up unspent in
    let on_rack : (i : Intent) → o.contents.head.intent ≡ Some i → (r : Reel) × Contains reels r × (r.serial ≡ i.serial) =
    λ i is. reel_named i.serial reels (subst (λ (x : Option Intent). IfSome x (IsPlaced shelf reels o.contents.head.last_dump)) is up.disc.intent).reel in
    let opened = opened_at text shelf reels up.rack o s.rack on_rack s.dump (keeps.open_dump unspent) up.open_dump in
    let v = view_by text shelf reels up.rack opened in
    let told : AllTold o.disc.held reels → (pins : List Pin) → o.pins ≡ Some pins → is_some (content_in pins) ≡ true =
    λ all pins pinned.
    content_told (is_some o.disc.held) o.contents.head.next_stamp o.contents.files pins all.disc
    (subst (λ (x : Option (List Pin)). IfSome x (All (IsPinOf (is_some o.disc.held) o.contents.head.next_stamp o.contents.files))) pinned (keeps.tied.pinned (keeps.live unspent))) in (
      state_up v reels o s.dump,
      back s.spent o s.dump (state_up v reels o s.dump) s.rack
          (subst (λ (b : Bool). Stands b o s.dump (state_up v reels o s.dump) reels) (sym unspent) (
            v,
            is_view o.disc.held reels text shelf shelved up.rack opened o.contents up.disc,
            record { is = λ all. opens_at text shelf reels up.rack o s.rack on_rack s.dump (keeps.open_dump unspent) up.open_dump (told all) },
            refl,
          )),
    )

spent_has : (s : StoreFacts) (contents : Option Contents) → s.spent ≡ true → AreContents s.online.disc.held contents → Belongs s → (u : State) × StandsForState s u
unfolding Stands
spent_has s contents spent are belongs =
    let (u, stands) = devices_have s.online.disc.size s.online.disc.held (told_reels s.rack) contents are belongs.devices in
    (u, back s.spent s.online s.dump u s.rack (subst (λ (b : Bool). Stands b s.online s.dump u (told_reels s.rack)) (sym spent) stands))

pub have_states : HaveStates
have_states = record { devices = devices_have; up = up_has; spent = spent_has }
