-- A store whose filestore is tied to its disc: its devices belong together, and its invariant depends on parts of the
-- filestore.
-- serves: crates above
use Rattle.std.proofs.Common.{◌≡◌, ℕ, Bool, true, false, List, Option, Some, None, sym, ◌∙◌, ap, subst, true≢false}
use Rattle.std.specs.Prelude.{IfSome, not}
use Rattle.std.specs.Option.{ForSome}
use Rattle.g_tape.specs.Reel.{Reel}
use Rattle.g_disc.specs.Durable.{MayLeave}
use Rattle.g_dirs.specs.Durable.{IsDiscSafe}
use Rattle.g_dirs.proofs.Surviving.{live_is_safe}
use Rattle.g_disc_contents.specs.Contents.{Contents, Holds, committed, contents_of}
use Rattle.g_disc_contents.specs.Durable.{IsDurable}
use Rattle.g_disc_contents.specs.Facts.{IsTied, OnlineFacts, Pin}
use Rattle.g_disc_contents.proofs.HoldLemmas.{holds_one}
use Rattle.g_disc_contents.proofs.SurvivalLemmas.{contents_survive}
use Rattle.g_incr.specs.Layout.{Dump}
use Rattle.g_incr.specs.Plan.{dump_of}
use Rattle.g_shelf.specs.CompletedDumps.{AreShelved, all_dumps}
use Rattle.g_store_meaning.specs.Belonging.{BelongWith, DiscBelongs, RackBelongs}
use Rattle.g_store_meaning.specs.Laws.{IsQuiet}
use Rattle.g_store_meaning.specs.Meaning.{told_reels}
use Rattle.g_store_meaning.specs.Staying.{behind}
use Rattle.g_store_meaning.specs.StoreInvariant.{DumpFacts, IsReady, IsUp, StoreFacts, content_in}
use Rattle.g_store_meaning.proofs.ChangeLemmas.{intents_belong}
use Rattle.g_store_meaning.specs.Answers.{IsStore}

-- WHAT THE DISC HOLDS is what memory says
pub holds_now : (o : OnlineFacts) → IsTied o → o.live ≡ true → (blocks : List (List ℕ)) → o.disc.held ≡ Some blocks → Holds blocks o.contents
holds_now o tied live blocks held = record {
  directory = o.layout.directory;
  stands = tied.stands live blocks held;
  are = tied.contents live ∙ ap (λ (h : Option (List (List ℕ))). contents_of h o.layout.directory) held;
}

-- also after a power loss, if its live blocks are durable; and the disc is safe then
pub holds_after_loss : (o : OnlineFacts) → IsTied o → o.live ≡ true → IsDurable o → (had : List (List ℕ)) → o.disc.held ≡ Some had → (left : List (List ℕ)) → MayLeave o.disc left → Holds left o.contents
holds_after_loss o tied live durable had at left may =
    subst (Holds left) (sym (tied.contents live ∙ ap (λ (h : Option (List (List ℕ))). contents_of h o.layout.directory) at))
    (contents_survive o.layout.side o.layout.directory o.disc had left (tied.whole had at).0 at (tied.gate live had at) durable (tied.stands live had at) may)

pub durable_is_safe : (o : OnlineFacts) → IsTied o → o.live ≡ true → IsDurable o → IsDiscSafe o.disc
durable_is_safe o tied live durable had at =
    (live_is_safe o.layout.side o.layout.directory o.disc had at (tied.whole had at).0 tied.size (tied.gate live had at) (tied.stands live had at)).0 durable had at

-- so disc and rack belong together where memory and rack do
pub devices_belong : (text : ℕ → List ℕ) (shelf : ℕ → List Dump) (reels : List Reel) (o : OnlineFacts) → IsTied o → o.live ≡ true → AreShelved shelf reels
    → RackBelongs text (all_dumps shelf reels) → DiscBelongs text shelf reels o.contents → BelongWith o.disc.held reels
devices_belong text shelf reels o tied live shelved rack belongs = record {
  text = text;
  shelf = shelf;
  shelved = shelved;
  rack = rack;
  disc = λ blocks c held holds. subst (DiscBelongs text shelf reels) (holds_one blocks o.contents c (holds_now o tied live blocks held) holds) belongs;
}

-- the invariant of a store that is up depends only on contents, pins and the marked users
ready_again : (text : ℕ → List ℕ) (shelf : ℕ → List Dump) (reels : List Reel) (o new : OnlineFacts) (d : Dump)
    → (let p : OnlineFacts = record o { contents = new.contents; pins = new.pins; changed = new.changed; touched = new.touched } in IsReady text shelf reels p d) → IsReady text shelf reels new d
ready_again text shelf reels o new d is = record { rules = is.rules; rack = is.rack; disc = is.disc; opening = record { each = is.opening.each } }

abbrev ReadyOn : (ℕ → List ℕ) → (ℕ → List Dump) → List Reel → OnlineFacts → Option DumpFacts → Type 0
ReadyOn text shelf reels o dump =
    IfSome dump (λ d. (pins : List Pin) → o.pins ≡ Some pins → ForSome (content_in pins) (λ content. IsReady text shelf reels o (dump_of d.plan content)))

open_again : (text : ℕ → List ℕ) (shelf : ℕ → List Dump) (reels : List Reel) (o new : OnlineFacts) (dump : Option DumpFacts)
    → (let p : OnlineFacts = record o { contents = new.contents; pins = new.pins; changed = new.changed; touched = new.touched } in ReadyOn text shelf reels p dump) → ReadyOn text shelf reels new dump
open_again text shelf reels o new None is = tt
open_again text shelf reels o new (Some d) is = λ pins pinned content told. ready_again text shelf reels o new (dump_of d.plan content) (is pins pinned content told)

-- the store with these parts of its filestore
abbrev parts : StoreFacts → OnlineFacts → Contents → Option (List Pin) → StoreFacts
parts s new c pins = record s { online = record s.online { contents = c; pins = pins; changed = new.changed; touched = new.touched } }

pub moved : (text : ℕ → List ℕ) (shelf : ℕ → List Dump) (s : StoreFacts) (new : OnlineFacts) (e : Contents) → new.contents ≡ e → new.pins ≡ s.online.pins
    → IsUp text shelf (behind s e new.changed new.touched) → IsUp text shelf (record s { online = new; spent = not new.live })
moved text shelf s new e contents pins was =
    let one : IsUp text shelf (parts s new new.contents s.online.pins) = subst (λ (c : Contents). IsUp text shelf (parts s new c s.online.pins)) (sym contents) was in
    let two : IsUp text shelf (parts s new new.contents new.pins) = subst (λ (p : Option (List Pin)). IsUp text shelf (parts s new new.contents p)) (sym pins) one in
    record {
      rack = two.rack;
      disc = two.disc;
      quiet = two.quiet;
      directories = record { each = two.directories.each; none = two.directories.none };
      open_dump = open_again text shelf (told_reels s.rack) s.online new s.dump two.open_dump;
    }

-- A COMMIT that drops the intent, or preserves it
pub committed_belongs : (text : ℕ → List ℕ) (shelf : ℕ → List Dump) (reels : List Reel) (b : Bool) (c : Contents) → IsQuiet shelf reels c → DiscBelongs text shelf reels c
    → DiscBelongs text shelf reels (committed b c)
committed_belongs text shelf reels true c quiet belongs = belongs
committed_belongs text shelf reels false c quiet belongs = intents_belong.dropped text shelf reels c quiet belongs

-- A COMMIT THAT WAS STOPPED leaves a store that is spent
pub spent_then : (o : OnlineFacts) → o.live ≡ false → not o.live ≡ false → ⊥
spent_then o dead up = true≢false (sym (ap not dead) ∙ up)

pub spent_store : (s : StoreFacts) (new : OnlineFacts) → new.live ≡ false → IsTied new → IsStore (record s { online = new; spent = not new.live })
spent_store s new dead tied = record {
  tied = tied;
  live = λ up. absurd (spent_then new dead up);
  open_dump = λ up. absurd (spent_then new dead up);
  pins = λ up none. absurd (spent_then new dead up);
}
