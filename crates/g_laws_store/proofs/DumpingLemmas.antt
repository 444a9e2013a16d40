-- Events that aren't a job's preserve the invariant of a store that is up.
-- serves: lib, crates above
use Rattle.std.proofs.Common.{◌≡◌, ℕ, ◌≤◌, List, [], ◌∷◌, ◌++◌, Option, Some, None, refl, sym, ◌∙◌, ap, subst}
use Rattle.std.specs.Prelude.{◌⊎◌, All, Contains, IfSome, map}
use Rattle.std.specs.Option.{ForSome}
use Rattle.g_entry.specs.declared.head.Intent.{Intent}
use Rattle.g_entry.specs.declared.user_rec.UserRec.{UserRec}
use Rattle.g_tape.specs.Reel.{Reel}
use Rattle.g_tape.specs.Rack.{Rack}
use Rattle.g_tape.specs.Reads.{unread}
use Rattle.g_disc_contents.specs.Contents.{Contents}
use Rattle.g_disc_contents.specs.Facts.{OnlineFacts, Pin}
use Rattle.g_incr.specs.Layout.{Dump}
use Rattle.g_incr.specs.Plan.{dump_of}
use Rattle.g_shelf.specs.CompletedDumps.{all_dumps}
use Rattle.g_store_meaning.specs.Belonging.{DiscBelongs, IsIntended, IsPlaced, KeepsFile, RackBelongs}
use Rattle.g_laws_store.specs.Dumping.{EventsStayUp, SameReels, WereThere, given_up, without_intent}
use Rattle.g_store_meaning.specs.Meaning.{told_reels}
use Rattle.g_store_meaning.specs.Staying.{OnlyGrow, behind}
use Rattle.g_store_meaning.specs.StoreInvariant.{DumpFacts, IsReady, IsUp, KeepsDirectories, KeepsOpening, StoreFacts, content_in, with_dump}
use Rattle.g_store_meaning.proofs.ChangeLemmas.{files_belong, intents_belong}
use Rattle.g_store_meaning.proofs.DirectoryLemmas.{changes_keep_others}
use Rattle.g_store_meaning.proofs.StayLemmas.{Carries, both_open, up_after}

-- only the serials of the reels matter
abbrev serials : List Reel → List ℕ
serials reels = map (λ r. r.serial) reels

told_serials : (reels : List Reel) → serials (map unread reels) ≡ serials reels
told_serials [] = refl
told_serials (r ∷ rs) = ap (λ (ns : List ℕ). r.serial ∷ ns) (told_serials rs)

abbrev by_serials : (shelf : ℕ → List Dump) → List ℕ → List Dump
by_serials shelf [] = []
by_serials shelf (n ∷ ns) = shelf n ++ by_serials shelf ns

dumps_by : (shelf : ℕ → List Dump) (reels : List Reel) → all_dumps shelf reels ≡ by_serials shelf (serials reels)
dumps_by shelf [] = refl
dumps_by shelf (r ∷ rs) = ap (λ (ds : List Dump). shelf r.serial ++ ds) (dumps_by shelf rs)

module _ (old new : List Reel) (same : serials new ≡ serials old) where
  pub moved_dumps : (shelf : ℕ → List Dump) → all_dumps shelf old ≡ all_dumps shelf new
  moved_dumps shelf = dumps_by shelf old ∙ ap (by_serials shelf) (sym same) ∙ sym (dumps_by shelf new)

  pub moved_rack : (text : ℕ → List ℕ) (shelf : ℕ → List Dump) → RackBelongs text (all_dumps shelf old) → RackBelongs text (all_dumps shelf new)
  moved_rack text shelf is = subst (RackBelongs text) (moved_dumps shelf) is

  moved_place : (shelf : ℕ → List Dump) (last : ℕ) (intent : Option Intent) → IfSome intent (IsPlaced shelf old last) → IfSome intent (IsPlaced shelf new last)
  moved_place shelf last None is = tt
  moved_place shelf last (Some i) is = record { reel = subst (λ (ns : List ℕ). Contains ns i.serial) (sym same) is.reel; number = is.number; place = is.place }

  pub moved_disc : (text : ℕ → List ℕ) (shelf : ℕ → List Dump) (c : Contents) → DiscBelongs text shelf old c → DiscBelongs text shelf new c
  moved_disc text shelf c is =
      let dumps = moved_dumps shelf in record {
        files = subst (λ (ds : List Dump). All (λ f. KeepsFile (text f.rec.stamp) ds f) c.files) dumps is.files;
        numbers = subst (λ (ds : List Dump). (d : Dump) → Contains ds d → (d.number ≤ c.head.last_dump) ⊎ IsIntended c.head.last_dump c.head.intent ds d) dumps is.numbers;
        has_last = λ more. subst (λ (ds : List Dump). (d : Dump) × Contains ds d × (d.number ≡ c.head.last_dump)) dumps (is.has_last more);
        stamps = subst (λ (ds : List Dump). (d : Dump) → Contains ds d → d.next ≤ c.head.next_stamp) dumps is.stamps;
        intent = moved_place shelf c.head.last_dump c.head.intent is.intent;
      }

  moved_ready : (text : ℕ → List ℕ) (shelf : ℕ → List Dump) (o : OnlineFacts) (d : Dump) → IsReady text shelf old o d → IsReady text shelf new o d
  moved_ready text shelf o d is = record {
    rules = is.rules;
    rack = moved_rack text (with_dump d shelf) is.rack;
    disc = moved_disc text (with_dump d shelf) o.contents is.disc;
    opening = subst (KeepsOpening o) (moved_dumps (with_dump d shelf)) is.opening;
  }

  abbrev ReadyOn : (ℕ → List ℕ) → (ℕ → List Dump) → List Reel → OnlineFacts → Option DumpFacts → Type 0
  ReadyOn text shelf reels o dump =
      IfSome dump (λ d. (pins : List Pin) → o.pins ≡ Some pins → ForSome (content_in pins) (λ content. IsReady text shelf reels o (dump_of d.plan content)))

  moved_open : (text : ℕ → List ℕ) (shelf : ℕ → List Dump) (o : OnlineFacts) (dump : Option DumpFacts) → ReadyOn text shelf old o dump → ReadyOn text shelf new o dump
  moved_open text shelf o None is = tt
  moved_open text shelf o (Some d) is = λ pins pinned content told. moved_ready text shelf o (dump_of d.plan content) (is pins pinned content told)

reels_stay : (text : ℕ → List ℕ) (shelf : ℕ → List Dump) (s : StoreFacts) (new : Rack) → SameReels s.rack new → IsUp text shelf s → IsUp text shelf (record s { rack = new })
reels_stay text shelf s new same was =
    let old_reels = told_reels s.rack in
    let new_reels = told_reels new in
    let is : serials new_reels ≡ serials old_reels = told_serials new.reels ∙ same ∙ sym (told_serials s.rack.reels) in
    let dumps = moved_dumps old_reels new_reels is shelf in record {
      rack = moved_rack old_reels new_reels is text shelf was.rack;
      disc = moved_disc old_reels new_reels is text shelf s.online.contents was.disc;
      quiet = subst (λ (ds : List Dump). (d : Dump) → Contains ds d → d.number ≤ s.online.contents.head.last_dump) dumps was.quiet;
      directories = subst (KeepsDirectories s.online.changed s.online.contents) dumps was.directories;
      open_dump = moved_open old_reels new_reels is text shelf s.online s.dump was.open_dump;
    }

-- USERS that are added, or changed
users_stay : (text : ℕ → List ℕ) (shelf : ℕ → List Dump) (s : StoreFacts) (users : List UserRec) (changed touched : List ℕ) → OnlyGrow s changed touched
    → WereThere changed users s.online.contents → IfSome s.dump (λ d. WereThere touched users s.online.contents) → IsUp text shelf s
    → IsUp text shelf (behind s (record s.online.contents { users = users }) changed touched)
unfolding Carries
users_stay text shelf s users changed touched grow there there_open was =
    let c = s.online.contents in
    up_after text text shelf s (record c { users = users }) changed touched
    (λ sh rack disc. (rack, files_belong.users text sh (told_reels s.rack) c users disc))
    grow.grows (changes_keep_others.users changed c users there)
    (both_open s.dump (λ d grows were. (grows, changes_keep_others.users touched c users were)) grow.grows_open there_open) was

-- NO DUMP is open
none_open : (P : DumpFacts → Type 0) (dump : Option DumpFacts) → dump ≡ None → IfSome dump P
none_open P dump isnt = subst (λ (o : Option DumpFacts). IfSome o P) (sym isnt) tt

-- THE INTENT is dropped
dropped_stays : (text : ℕ → List ℕ) (shelf : ℕ → List Dump) (s : StoreFacts) → s.dump ≡ None → IsUp text shelf s → IsUp text shelf (without_intent s)
dropped_stays text shelf s isnt was =
    let c = s.online.contents in record {
      rack = was.rack;
      disc = intents_belong.dropped text shelf (told_reels s.rack) c was.quiet was.disc;
      quiet = was.quiet;
      directories = record { each = was.directories.each; none = was.directories.none };
      open_dump = none_open _ s.dump isnt;
    }

-- the dump continues, or is given up
going_stays : (text : ℕ → List ℕ) (shelf : ℕ → List Dump) (s : StoreFacts) (d : DumpFacts) (done : ℕ) → s.dump ≡ Some d → IsUp text shelf s
    → IsUp text shelf (record s { dump = Some (record d { done = done }) })
going_stays text shelf s d done is was = record {
  rack = was.rack;
  disc = was.disc;
  quiet = was.quiet;
  directories = was.directories;
  open_dump = subst
      (λ (o : Option DumpFacts).
      IfSome o (λ e. (pins : List Pin) → s.online.pins ≡ Some pins → ForSome (content_in pins) (λ content. IsReady text shelf (told_reels s.rack) s.online (dump_of e.plan content)))) is was.open_dump;
}

abandoned_stays : (text : ℕ → List ℕ) (shelf : ℕ → List Dump) (s : StoreFacts) → IsUp text shelf s → IsUp text shelf (given_up s)
abandoned_stays text shelf s was = record { rack = was.rack; disc = was.disc; quiet = was.quiet; directories = was.directories; open_dump = tt }

pub events_stay_up : EventsStayUp
events_stay_up = record { users = users_stay; dropped = dropped_stays; reels = reels_stay; going = going_stays; abandoned = abandoned_stays }
