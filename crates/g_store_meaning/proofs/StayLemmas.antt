-- A change of a file keeps what a store that is up keeps.
-- serves: changes_stay_up, crates above
use Rattle.std.proofs.Common.{◌≡◌, ℕ, ◌+◌, ◌≤◌, List, Option, Some, None, sym, ◌∙◌, ap, subst}
use Rattle.std.specs.Prelude.{IfSome}
use Rattle.std.specs.Option.{ForSome}
use Rattle.g_tape.specs.Rack.{Rack, reel}
use Rattle.g_tape.specs.Reel.{Reel}
use Rattle.g_disc_contents.specs.Contents.{Contents, brought, set_rec, taken_off, without_file}
use Rattle.g_disc_contents.specs.Facts.{OnlineFacts, Pin}
use Rattle.g_incr.specs.Layout.{Dump}
use Rattle.g_incr.specs.Plan.{dump_of}
use Rattle.g_shelf.specs.CompletedDumps.{all_dumps}
use Rattle.g_store_meaning.specs.Belonging.{DiscBelongs, RackBelongs}
use Rattle.g_store_meaning.specs.Directories.{Grows, KeepsOthers}
use Rattle.g_store_meaning.specs.Laws.{with_text, with_version}
use Rattle.g_store_meaning.specs.Meaning.{told_reels}
use Rattle.g_store_meaning.specs.Staying.{StaysUp, behind}
use Rattle.g_store_meaning.specs.StoreInvariant.{DumpFacts, IsOpen, IsReady, IsUp, StoreFacts, content_in, with_dump}
use Rattle.g_store_meaning.proofs.BelongLemmas.{new_version_belongs}
use Rattle.g_store_meaning.proofs.ChangeLemmas.{files_belong}
use Rattle.g_store_meaning.proofs.DirectoryLemmas.{changes_keep_others, others_stay}

-- The change preserves belonging, for any dumps.
unfoldable pub Carries : (ℕ → List ℕ) → (ℕ → List ℕ) → List Reel → Contents → Contents → Type 0
Carries text new reels c e = (shelf : ℕ → List Dump) → RackBelongs text (all_dumps shelf reels) → DiscBelongs text shelf reels c → RackBelongs new (all_dumps shelf reels) × DiscBelongs new shelf reels e

-- While a dump is open, the change preserves the directories of all users who aren't touched.
abbrev KeepsTouched : Option DumpFacts → List ℕ → List ℕ → Contents → Contents → Type 0
KeepsTouched dump old touched c e = IfSome dump (λ d. Grows old touched × KeepsOthers touched c e)

module _ (text new : ℕ → List ℕ) (shelf : ℕ → List Dump) (s : StoreFacts) (e : Contents) (changed touched : List ℕ)
    (carries : Carries text new (told_reels s.rack) s.online.contents e) where
  ready : Grows s.online.touched touched → KeepsOthers touched s.online.contents e → (d : Dump) → IsReady text shelf (told_reels s.rack) s.online d
      → IsReady new shelf (told_reels s.rack) (behind s e changed touched).online d
  unfolding Carries
  ready grows keeps d was =
      let both = carries (with_dump d shelf) was.rack was.disc in record {
        rules = was.rules;
        rack = both.0;
        disc = both.1;
        opening = record { each = (others_stay.opening s.online e touched (all_dumps (with_dump d shelf) (told_reels s.rack)) grows keeps was.opening).each };
      }

  abbrev OpenDump : (ℕ → List ℕ) → StoreFacts → Option DumpFacts → Type 0
  OpenDump t x dump = IfSome dump (λ d. (pins : List Pin) → x.online.pins ≡ Some pins
      → ForSome (content_in pins) (λ content. IsReady t shelf (told_reels s.rack) x.online (dump_of d.plan content)))

  open_stays : (dump : Option DumpFacts) → KeepsTouched dump s.online.touched touched s.online.contents e → OpenDump text s dump → OpenDump new (behind s e changed touched) dump
  open_stays None keeps was = tt
  open_stays (Some d) keeps was = λ pins pinned content told. ready keeps.0 keeps.1 (dump_of d.plan content) (was pins pinned content told)

  pub up_after : Grows s.online.changed changed → KeepsOthers changed s.online.contents e → KeepsTouched s.dump s.online.touched touched s.online.contents e
      → IsUp text shelf s → IsUp new shelf (behind s e changed touched)
  unfolding Carries
  up_after grows keeps open_keeps was =
      let both = carries shelf was.rack was.disc in record {
        rack = both.0;
        disc = both.1;
        quiet = λ d there. subst (λ (n : ℕ). d.number ≤ n) (sym keeps.last) (was.quiet d there);
        directories = others_stay.directories s.online.changed changed s.online.contents e (all_dumps shelf (told_reels s.rack)) grows keeps was.directories;
        open_dump = open_stays s.dump open_keeps was.open_dump;
      }

-- What is known while a dump is open.
pub both_open : {P Q R : DumpFacts → Type 0} (dump : Option DumpFacts) → ((d : DumpFacts) → P d → Q d → R d) → IfSome dump P → IfSome dump Q → IfSome dump R
both_open None make p q = tt
both_open (Some d) make p q = make d p q

one_open : {P R : DumpFacts → Type 0} (dump : Option DumpFacts) → ((d : DumpFacts) → P d → R d) → IfSome dump P → IfSome dump R
one_open None make p = tt
one_open (Some d) make p = make d p

pub stays_up : StaysUp
unfolding Carries
stays_up = record {
  version = λ text shelf s f bytes numbers changed touched numbered below is owned marked was.
      let c = s.online.contents in
      let e = with_version f numbers c in
      up_after text (with_text c.head.next_stamp bytes text) shelf s e changed touched
      (λ sh rack disc. new_version_belongs text sh (told_reels s.rack) c f bytes numbers rack disc below is)
      marked.grow.grows (changes_keep_others.version changed c f numbers numbered marked.has owned)
      (both_open s.dump (λ d grows there. (grows, changes_keep_others.version touched c f numbers numbered there owned)) marked.grow.grows_open marked.has_open) was;
  erased = λ text shelf s number changed touched grow owned owned_open was.
      let c = s.online.contents in
      up_after text text shelf s (record c { files = without_file number c.files }) changed touched
      (λ sh rack disc. (rack, files_belong.erased text sh (told_reels s.rack) c number disc))
      grow.grows (changes_keep_others.erased changed c number owned)
      (both_open s.dump (λ d grows there. (grows, changes_keep_others.erased touched c number there)) grow.grows_open owned_open) was;
  recorded = λ text shelf s r changed touched anew owned marked was.
      let c = s.online.contents in
      up_after text text shelf s (record c { files = set_rec r c.files }) changed touched
      (λ sh rack disc. (rack, files_belong.recorded text sh (told_reels s.rack) c r anew disc))
      marked.grow.grows (changes_keep_others.recorded changed c r marked.has owned)
      (both_open s.dump (λ d grows there. (grows, changes_keep_others.recorded touched c r there owned)) marked.grow.grows_open marked.has_open) was;
  offline = λ text shelf s numbers changed touched grow was.
      let c = s.online.contents in
      up_after text text shelf s (record c { files = taken_off numbers c.files }) changed touched
      (λ sh rack disc. (rack, files_belong.offline text sh (told_reels s.rack) c numbers disc))
      grow.grows (changes_keep_others.offline changed c numbers)
      (one_open s.dump (λ d grows. (grows, changes_keep_others.offline touched c numbers)) grow.grows_open) was;
  back = λ text shelf s number bytes changed touched brings grow was.
      let c = s.online.contents in
      up_after text text shelf s (record c { files = brought number bytes c.files }) changed touched
      (λ sh rack disc. (rack, files_belong.back text sh (told_reels s.rack) c number bytes brings disc))
      grow.grows (changes_keep_others.back changed c number bytes)
      (one_open s.dump (λ d grows. (grows, changes_keep_others.back touched c number bytes)) grow.grows_open) was;
}

-- An open dump remains open if its intent, the last number, the pins and its reel are unchanged.
pub stays_open : (d : DumpFacts) (o new : OnlineFacts) (rack after : Rack) → new.contents.head.intent ≡ o.contents.head.intent → new.contents.head.last_dump ≡ o.contents.head.last_dump
    → new.pins ≡ o.pins → reel d.plan.serial after.reels ≡ reel d.plan.serial rack.reels → IsOpen d o rack → IsOpen d new after
stays_open d o new rack after intent last pins same is = record {
  intent = intent ∙ is.intent;
  number = is.number ∙ sym (ap (λ (n : ℕ). n + 1) last);
  pins = is.pins;
  pinned = pins ∙ is.pinned;
  are = is.are;
  on = is.on;
  reel_is = same ∙ is.reel_is;
  mounted = is.mounted;
  from = is.from;
  length_is = is.length_is;
  room = is.room;
  within = is.within;
  written = is.written;
}

pub dump_stays_open : (dump : Option DumpFacts) (o new : OnlineFacts) (rack after : Rack) → new.contents.head.intent ≡ o.contents.head.intent → new.contents.head.last_dump ≡ o.contents.head.last_dump
    → new.pins ≡ o.pins → after.reels ≡ rack.reels → IfSome dump (λ d. IsOpen d o rack) → IfSome dump (λ d. IsOpen d new after)
dump_stays_open None o new rack after intent last pins same is = tt
dump_stays_open (Some d) o new rack after intent last pins same is = stays_open d o new rack after intent last pins (ap (reel d.plan.serial) same) is
