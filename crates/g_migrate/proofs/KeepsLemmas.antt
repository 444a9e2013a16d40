-- A store preserves its invariant when files of its filestore are taken off the disc.
-- serves: MigrationLemmas
use Rattle.std.proofs.Common.{◌≡◌, ℕ, ◌<◌, Bool, true, false, List, [], Option, Some, None, refl, sym, ◌∙◌, ap, subst, arith, inl, inr, if◌then◌else◌}
use Rattle.std.specs.Prelude.{◌⊎◌, ◌||◌, IfSome, is_some, not}
use Rattle.g_tape.specs.Rack.{Rack}
use Rattle.g_tape.specs.Reel.{Reel}
use Rattle.g_disc_contents.specs.Contents.{Contents, Holds, committed, taken_off, with_intent}
use Rattle.g_disc_contents.specs.Facts.{IsTied, OnlineFacts}
use Rattle.g_disc_contents.proofs.HoldLemmas.{holds_one}
use Rattle.g_online.specs.declared.change.Change.TheVariants.{Unload}
use Rattle.g_online.specs.Change.{changed, with_files}
use Rattle.g_online.specs.Outcomes.{AfterStop, HasChanged, HasStopped}
use Rattle.g_incr.specs.Layout.{Dump, holds}
use Rattle.g_store_meaning.specs.Answers.{Belongs, IsStore}
use Rattle.g_store_meaning.specs.Belonging.{DiscBelongs}
use Rattle.g_store_meaning.specs.Laws.{IsQuiet}
use Rattle.g_store_meaning.specs.Meaning.{told_reels}
use Rattle.g_store_meaning.specs.Staying.{behind}
use Rattle.g_store_meaning.specs.StoreInvariant.{DumpFacts, IsOpen, IsUp, StoreFacts}
use Rattle.g_store_meaning.proofs.ChangeLemmas.{files_belong}
use Rattle.g_store_meaning.proofs.StayLemmas.{stays_open, stays_up}
use Rattle.g_laws_store.proofs.DumpingLemmas.{events_stay_up}
use Rattle.g_laws_store.proofs.TiedLemmas.{committed_belongs, devices_belong, moved, spent_store, spent_then}
use Rattle.g_migrate.specs.Invariant.{KeepsStore, with_online}

-- NOTHING HAS CHANGED
same_store : (s : StoreFacts) (o : OnlineFacts) → s.online ≡ o → s.spent ≡ false → o.live ≡ true → s ≡ with_online o s
same_store s o at unspent live = λ i. let t : StoreFacts = record s { online = at i; spent = (unspent ∙ sym (ap not live)) i } in t

pub keeps_same : (o : OnlineFacts) → o.live ≡ true → KeepsStore o o
keeps_same o live = record {
  store = λ s at unspent was. subst IsStore (same_store s o at unspent live) was;
  belongs = λ s at unspent store was. subst Belongs (same_store s o at unspent live) was;
}

-- files are taken off: what holds then
pinned_then : (numbers : List ℕ) (o : OnlineFacts) → is_some o.pins ≡ true
    → changed (is_some o.disc.held) (is_some o.pins) (Unload numbers) o.contents ≡ with_files (taken_off numbers o.contents.files) o.contents
unfolding changed
pinned_then numbers o is = ap (λ (b : Bool). committed (b || false) (with_files (taken_off numbers o.contents.files) o.contents)) is

unpinned_then : (numbers : List ℕ) (o : OnlineFacts) → is_some o.pins ≡ false
    → changed (is_some o.disc.held) (is_some o.pins) (Unload numbers) o.contents ≡ with_intent None (with_files (taken_off numbers o.contents.files) o.contents)
unfolding changed
unpinned_then numbers o is = ap (λ (b : Bool). committed (b || false) (with_files (taken_off numbers o.contents.files) o.contents)) is

off_belongs : (text : ℕ → List ℕ) (shelf : ℕ → List Dump) (reels : List Reel) (told pinned : Bool) (numbers : List ℕ) (c : Contents) → IsQuiet shelf reels c
    → DiscBelongs text shelf reels c → DiscBelongs text shelf reels (changed told pinned (Unload numbers) c)
unfolding changed
off_belongs text shelf reels told pinned numbers c quiet belongs =
    committed_belongs text shelf reels (pinned || false) (with_files (taken_off numbers c.files) c) quiet (files_belong.offline text shelf reels c numbers belongs)

-- THE OPEN DUMP stays open
open_kept : (d : DumpFacts) (o new : OnlineFacts) (rack : Rack) (numbers : List ℕ) → new.pins ≡ o.pins → new.contents ≡ changed (is_some o.disc.held) (is_some o.pins) (Unload numbers) o.contents
    → IsOpen d o rack → IsOpen d new rack
open_kept d o new rack numbers pins contents is =
    let same : new.contents ≡ with_files (taken_off numbers o.contents.files) o.contents = contents ∙ pinned_then numbers o (ap is_some is.pinned) in
    stays_open d o new rack rack (ap (λ (c : Contents). c.head.intent) same) (ap (λ (c : Contents). c.head.last_dump) same) pins refl is

dump_kept : (dump : Option DumpFacts) (o new : OnlineFacts) (rack : Rack) (numbers : List ℕ) → new.pins ≡ o.pins
    → new.contents ≡ changed (is_some o.disc.held) (is_some o.pins) (Unload numbers) o.contents → IfSome dump (λ d. IsOpen d o rack) → IfSome dump (λ d. IsOpen d new rack)
dump_kept None o new rack numbers pins contents is = tt
dump_kept (Some d) o new rack numbers pins contents is = open_kept d o new rack numbers pins contents is

-- no mark is removed
grows_to : (old new : List ℕ) → new ≡ old → (n : ℕ) → holds old n ≡ true → holds new n ≡ true
grows_to old new same n is = ap (λ (l : List ℕ). holds l n) same ∙ is

-- IF IT IS DONE
module _ (s : StoreFacts) (new : OnlineFacts) (numbers : List ℕ) (done : HasChanged (Unload numbers) s.online new) (tied : IsTied new) (unspent : s.spent ≡ false) (store : IsStore s) where
  pub store_after : IsStore (with_online new s)
  store_after = record {
    tied = tied;
    live = λ up. done.live;
    open_dump = λ up. dump_kept s.dump s.online new s.rack numbers done.pins done.contents (store.open_dump unspent);
    pins = λ up none. done.pins ∙ store.pins unspent none;
  }

  offline_then : (text : ℕ → List ℕ) (shelf : ℕ → List Dump) → IfSome s.dump (λ d. (n : ℕ) → holds s.online.touched n ≡ true → holds new.touched n ≡ true) → IsUp text shelf s
      → IsUp text shelf (behind s (with_files (taken_off numbers s.online.contents.files) s.online.contents) new.changed new.touched)
  offline_then text shelf touched was =
      stays_up.offline text shelf s numbers new.changed new.touched (record { grows = grows_to s.online.changed new.changed done.changed; grows_open = touched }) was

  up_without : (text : ℕ → List ℕ) (shelf : ℕ → List Dump) → s.dump ≡ None → IsUp text shelf s → IsUp text shelf (with_online new s)
  up_without text shelf none was =
      let e = with_files (taken_off numbers s.online.contents.files) s.online.contents in
      let same = done.contents ∙ unpinned_then numbers s.online (ap is_some (store.pins unspent none)) in
      let nobody : IfSome s.dump (λ d. (n : ℕ) → holds s.online.touched n ≡ true → holds new.touched n ≡ true) =
      subst (λ (o : Option DumpFacts). IfSome o (λ d. (n : ℕ) → holds s.online.touched n ≡ true → holds new.touched n ≡ true)) (sym none) tt in
      moved text shelf s new (with_intent None e) same done.pins (events_stay_up.dropped text shelf (behind s e new.changed new.touched) none (offline_then text shelf nobody was))

  up_with : (text : ℕ → List ℕ) (shelf : ℕ → List Dump) (d : DumpFacts) → s.dump ≡ Some d → IsOpen d s.online s.rack → IsUp text shelf s → IsUp text shelf (with_online new s)
  up_with text shelf d some is was =
      let pinned : is_some s.online.pins ≡ true = ap is_some is.pinned in
      let same = done.contents ∙ pinned_then numbers s.online pinned in
      let touched : new.touched ≡ s.online.touched = done.touched ∙ ap (λ (b : Bool). if b then s.online.touched else []) pinned in
      let grow : IfSome s.dump (λ d. (n : ℕ) → holds s.online.touched n ≡ true → holds new.touched n ≡ true) =
      subst (λ (o : Option DumpFacts). IfSome o (λ d. (n : ℕ) → holds s.online.touched n ≡ true → holds new.touched n ≡ true)) (sym some) (grows_to s.online.touched new.touched touched) in
      moved text shelf s new (with_files (taken_off numbers s.online.contents.files) s.online.contents) same done.pins (offline_then text shelf grow was)

  up_by : (dump : Option DumpFacts) → s.dump ≡ dump → IfSome dump (λ d. IsOpen d s.online s.rack) → (text : ℕ → List ℕ) (shelf : ℕ → List Dump) → IsUp text shelf s → IsUp text shelf (with_online new s)
  up_by None none is text shelf was = up_without text shelf none was
  up_by (Some d) some is text shelf was = up_with text shelf d some is was

  pub belongs_after : Belongs s → Belongs (with_online new s)
  belongs_after was =
      let (text, shelf, shelved, up) = was.up unspent in
      let after = up_by s.dump refl (store.open_dump unspent) text shelf up in
      record {
        devices = devices_belong text shelf (told_reels s.rack) new tied done.live shelved after.rack after.disc;
        up = λ unspent. (text, shelf, shelved, after);
      }

pub keeps_done : (numbers : List ℕ) (old new : OnlineFacts) → HasChanged (Unload numbers) old new → IsTied new → KeepsStore old new
keeps_done numbers old new done tied = record {
  store = λ s at unspent store. store_after s new numbers (subst (λ (o : OnlineFacts). HasChanged (Unload numbers) o new) (sym at) done) tied unspent store;
  belongs = λ s at unspent store was. belongs_after s new numbers (subst (λ (o : OnlineFacts). HasChanged (Unload numbers) o new) (sym at) done) tied unspent store was;
}

-- IF IT WAS STOPPED the store is spent
module _ (s : StoreFacts) (new : OnlineFacts) (numbers : List ℕ) (stopped : HasStopped (Unload numbers) s.online new) (tied : IsTied new) (unspent : s.spent ≡ false) where
  pub store_stopped : IsStore (with_online new s)
  store_stopped = spent_store s new stopped.live tied

  -- whichever contents the disc holds, the old or the new, it belongs to the rack
  one_belongs : (text : ℕ → List ℕ) (shelf : ℕ → List Dump) (blocks : List (List ℕ)) (c : Contents) → IsUp text shelf s → AfterStop (Unload numbers) s.online blocks → Holds blocks c
      → DiscBelongs text shelf (told_reels s.rack) c
  one_belongs text shelf blocks c up after holds_c = by_case after.one
    where
      by_case : Holds blocks s.online.contents
          ⊎ (((0 < 0) × Holds blocks (committed (is_some s.online.pins) (with_files (taken_off [] s.online.contents.files) s.online.contents)))
          ⊎ Holds blocks (changed true (is_some s.online.pins) (Unload numbers) s.online.contents)) → DiscBelongs text shelf (told_reels s.rack) c
      by_case (inl old) = subst (DiscBelongs text shelf (told_reels s.rack)) (holds_one blocks s.online.contents c old holds_c) up.disc
      by_case (inr (inl (less, mid))) = absurd (omega (arith, less))
      by_case (inr (inr made)) =
          subst (DiscBelongs text shelf (told_reels s.rack)) (holds_one blocks (changed true (is_some s.online.pins) (Unload numbers) s.online.contents) c made holds_c)
          (off_belongs text shelf (told_reels s.rack) true (is_some s.online.pins) numbers s.online.contents up.quiet up.disc)

  pub belongs_stopped : Belongs s → Belongs (with_online new s)
  belongs_stopped was =
      let (text, shelf, shelved, up) = was.up unspent in
      record {
        devices = record {
          text = text;
          shelf = shelf;
          shelved = shelved;
          rack = up.rack;
          disc = λ blocks c held holds_c. one_belongs text shelf blocks c up (stopped.holds blocks held) holds_c;
        };
        up = λ up. absurd (spent_then new stopped.live up);
      }

pub keeps_stopped : (numbers : List ℕ) (old new : OnlineFacts) → HasStopped (Unload numbers) old new → IsTied new → KeepsStore old new
keeps_stopped numbers old new stopped tied = record {
  store = λ s at unspent store. store_stopped s new numbers (subst (λ (o : OnlineFacts). HasStopped (Unload numbers) o new) (sym at) stopped) tied unspent;
  belongs = λ s at unspent store was. belongs_stopped s new numbers (subst (λ (o : OnlineFacts). HasStopped (Unload numbers) o new) (sym at) stopped) tied unspent was;
}
