-- How an opening is answered, from what was read of the reel and what became of the filestore.
-- serves: begin_dump (ok, refused, stopped), OpeningLemmas, SafeLemmas, ShelfLemmas, crates above
use Rattle.std.proofs.Common.{◌≡◌, ◌≢◌, ℕ, ◌+◌, ◌-◌, ◌^◌, ◌<◌, ◌≤◌, Bool, true, false, List, [], Option, Some, None, Ok, Err, refl, sym, ◌∙◌, ap, arith, subst}
use Rattle.std.specs.Prelude.{IfOk, Result, if◌then◌else◌, is_some, option_map}
use Rattle.std.specs.Option.{ForSome}
use Rattle.std.proofs.lemmas.Option.{none-some, same_Some}
use Rattle.g_entry.specs.HeadFields.{IsSerial}
use Rattle.g_tape.specs.declared.fault.TapeFault.TheVariants as tape
use Rattle.g_tape.specs.Rack.{AreReels, Rack, reel, refuses_unmount}
use Rattle.g_tape.specs.Reads.{unread}
use Rattle.g_tape.specs.Reel.{Reel}
use Rattle.g_tape.proofs.ReadLemmas.{is_reel, reel_after_reads}
use Rattle.g_tape.proofs.PlaceLemmas.{reel-found}
use Rattle.g_plain.specs.declared.faults.StoreFault.{StoreFault}
use Rattle.g_plain.specs.declared.faults.StoreFault.TheVariants.{NotMounted, TapeFull}
use Rattle.g_disc_contents.specs.Contents.{Contents}
use Rattle.g_disc_contents.specs.Facts.{IsTied, OnlineFacts}
use Rattle.g_incr.specs.declared.fault.ShelfFault.{ShelfFault}
use Rattle.g_incr.specs.declared.fault.ShelfFault.TheVariants as shelf
use Rattle.g_incr.specs.Layout.{Dump}
use Rattle.g_incr.specs.Plan.{IsPlan, first_content, needs}
use Rattle.g_incr.specs.Reading.{ReadsReel}
use Rattle.g_shelf.specs.CompletedDumps.{end_of}
use Rattle.g_known.specs.ReelNotes.{AreFound}
use Rattle.g_shelf.proofs.OneLemmas.{completed_are_one}
use Rattle.g_shelf.proofs.ReadLemmas.{there}
use Rattle.g_store_meaning.specs.StoreInvariant.{DumpFacts, IsOpen}
use Rattle.g_dumper.specs.Beginning.{Begins, HasOpened, IsEnd, IsTooLong, RefusesOpening, StoppedAtIntent, StoppedOpening, plan_of}
use Rattle.g_dumper.proofs.PlanLemmas.{plan_keeps, plan_pinned}

-- the reel of a serial has it
pub reel_named : (s : ℕ) (rs : List Reel) (r : Reel) → reel s rs ≡ Some r → r.serial ≡ s
reel_named s rs r is = (reel-found s rs r is).1

-- a reel after reads is the same except for its record of reads
pub after_reads : (o p : Option Reel) (r : Reel) → p ≡ Some r → option_map unread o ≡ option_map unread p → (q : Reel) × (o ≡ Some q) × (unread q ≡ unread r)
after_reads None p r is same = absurd (none-some (unread r) (same ∙ ap (option_map unread) is))
after_reads (Some q) p r is same = (q, refl, same_Some (unread q) (unread r) (same ∙ ap (option_map unread) is))

-- WHAT IS KNOWN where the reel was read to the end of its completed dumps
module _ (serial place : ℕ) (o : OnlineFacts) (rack after : Rack) (reels : AreReels rack.reels) (reads : (let r : Result ℕ ShelfFault = Ok place in ReadsReel serial r rack after))
    (end : (dumps : List Dump) × AreFound serial dumps rack × (place ≡ end_of dumps)) where
  pub place_low : place ≤ 65536
  place_low =
      let (r, here) = there serial place rack after reads in
      let right = is_reel serial rack.reels r reels.each here in
      let within = right.within in
      let most = right.sized_most in
      let fits = end.1.fits r here in
      let is = end.2 in
      omega arith

  the_reel : (r : Reel) × (reel serial rack.reels ≡ Some r)
  the_reel = there serial place rack after reads

  named : IsSerial serial
  named =
      let (r, is) = the_reel in
      let right = is_reel serial rack.reels r reels.each is in
      subst IsSerial (reel_named serial rack.reels r is) (right.numbered, right.numbered_most)

  pub end_is : IsEnd serial rack place
  end_is = record {
    is = λ blocks told dumps completed. end.2 ∙ ap end_of (completed_are_one serial blocks end.0 dumps (end.1.completed blocks told) completed);
  }

  pub rules_planned : o.live ≡ true → IsTied o → o.contents.head.last_dump ≢ 2 ^ 62 - 1 → IsPlan (plan_of serial place o)
  rules_planned live tied unspent = plan_keeps serial place o live tied named place_low unspent

  -- TOO LONG
  module _ (unspent : o.contents.head.last_dump ≢ 2 ^ 62 - 1) (need room : ℕ) (need_is : need ≡ needs (plan_of serial place o)) (room_is : ForSome (reel serial after.reels) (λ r. room ≡ r.capacity - place)) where
    room_before : ForSome (reel serial rack.reels) (λ r. room ≡ r.capacity - place)
    room_before = λ r is.
        let (q, at, same) = after_reads (reel serial after.reels) (reel serial rack.reels) r is (reel_after_reads serial rack after reads.only) in
        room_is q at ∙ ap (λ (x : Reel). x.capacity - place) same

    pub too_long : room < need → IsTooLong serial need room o rack
    too_long less = record { place = place; end_is = end_is; need_is = need_is; room_is = room_before; less = less }

    pub fits_then : need ≤ room → ForSome (reel serial rack.reels) (λ r. place ≤ r.len) → ForSome (reel serial rack.reels) (λ r. place + needs (plan_of serial place o) ≤ r.capacity)
    fits_then enough from = λ r is.
        let right = is_reel serial rack.reels r reels.each is in
        let len = right.within in
        let low = from r is in
        let left = room_before r is in
        omega (arith, enough, len, low, left, need_is)

    -- it is refused, and nothing else refuses it
    pub refused_too_long : {A : Type 0} → room < need → (let r : Result A StoreFault = Err (TapeFull need room) in RefusesOpening serial o rack after r)
    refused_too_long {A} less = record {
      spent = (λ is. absurd (let no : ⊥ = cc in no), λ is. absurd (unspent is));
      no_tape = (λ is. absurd (let no : ⊥ = cc in no), λ both. absurd (let refused = reads.no_tape.1 both.1 in (let no : ⊥ = cc in no)));
      not_mounted = (λ is. absurd (let no : ⊥ = cc in no), λ both. absurd (let refused = reads.not_mounted.1 both.1 in (let no : ⊥ = cc in no)));
      rose = λ is. absurd (let no : ⊥ = cc in no);
      kept = λ _. reads.kept (λ is. let no : ⊥ = cc in no);
      full = λ n r is.
          let one : need ≡ n = cc in
          let two : room ≡ r = cc in
          subst (λ (m : ℕ). IsTooLong serial n m o rack) two (subst (λ (m : ℕ). IsTooLong serial m room o rack) one (too_long less));
      only = tt;
    }

  -- OPENED
  mounted_reel : (r : Reel) → refuses_unmount (Some r) ≡ None → r.mounted ≡ true
  mounted_reel r is = by_case r.mounted is
    where
      by_case : (b : Bool) → (if b then None else Some tape.NotMounted) ≡ None → b ≡ true
      by_case true is = refl
      by_case false is = let no : ⊥ = cc in absurd no

  free : refuses_unmount (reel serial rack.reels) ≡ None
  free = by_reel (reel serial rack.reels) refl
    where
      by_mount : (b : Bool) → (if b then None else Some tape.NotMounted) ≡ refuses_unmount (reel serial rack.reels) → (if b then None else Some tape.NotMounted) ≡ None
      by_mount true is = refl
      by_mount false is = absurd (let refused = reads.not_mounted.1 (sym is) in (let no : ⊥ = cc in no))

      by_reel : (x : Option Reel) → refuses_unmount x ≡ refuses_unmount (reel serial rack.reels) → refuses_unmount (reel serial rack.reels) ≡ None
      by_reel None is = absurd (let refused = reads.no_tape.1 (sym is) in (let no : ⊥ = cc in no))
      by_reel (Some r) is = sym is ∙ by_mount r.mounted is

  module _ (new : OnlineFacts) (live : o.live ≡ true) (tied : IsTied o) (tied_new : IsTied new) (opened : HasOpened (plan_of serial place o) o new)
      (from : ForSome (reel serial rack.reels) (λ r. place ≤ r.len)) (fits : ForSome (reel serial rack.reels) (λ r. place + needs (plan_of serial place o) ≤ r.capacity)) where
    pub opened_dump : IsOpen (record { plan = plan_of serial place o; done = 0 }) new after
    opened_dump =
        let (r, is) = the_reel in
        let (q, at, same) = after_reads (reel serial after.reels) (reel serial rack.reels) r is (reel_after_reads serial rack after reads.only) in
        let low = from r is in
        let room = fits r is in
        let pins_is : new.pins ≡ Some opened.pinned.pins = ap (λ (x : OnlineFacts). x.pins) opened.pinned.rest in
        record {
          intent = ap (λ (c : Contents). c.head.intent) opened.contents;
          number = ap (λ (c : Contents). c.head.last_dump + 1) (sym opened.contents);
          pins = opened.pinned.pins;
          pinned = pins_is;
          are = plan_pinned o (record o { pins = new.pins; touched = [] }) serial (first_content (plan_of serial place o)) opened.pinned live tied new.pins (sym pins_is)
              new.contents.head.next_stamp new.contents.files (is_some new.disc.held) (tied_new.pinned opened.live);
          on = q;
          reel_is = at;
          mounted = ap (λ (x : Reel). x.mounted) same ∙ mounted_reel r (subst (λ (x : Option Reel). refuses_unmount x ≡ None) is free);
          from = subst (λ (n : ℕ). place ≤ n) (sym (ap (λ (x : Reel). x.len) same)) low;
          length_is = λ some. absurd (let no : ⊥ = omega (arith, some) in no);
          room = subst (λ (n : ℕ). place + needs (plan_of serial place o) ≤ n) (sym (ap (λ (x : Reel). x.capacity) same)) room;
          within = omega arith;
          written = λ some. absurd (let no : ⊥ = omega (arith, some) in no);
        }

    pub begun : IsPlan (plan_of serial place o) → (d : DumpFacts) → d ≡ record { plan = plan_of serial place o; done = 0 } → Begins serial o rack d new after
    begun rules d is = subst (λ (x : DumpFacts). Begins serial o rack x new after) (sym is) (record {
      place = place;
      end_is = end_is;
      dump = refl;
      rules = rules;
      opened = opened;
      open_dump = opened_dump;
    })

  pub stopped_then : (new : OnlineFacts) → ForSome (reel serial rack.reels) (λ r. place + needs (plan_of serial place o) ≤ r.capacity) → StoppedAtIntent (plan_of serial place o) o new
      → StoppedOpening serial o new rack
  stopped_then new fits left = record { place = place; end_is = end_is; fits = fits; left = left }

-- an answer that is Ok has more
pub if_ok : {T E : Type 0} (P Q : T → Type 0) (r : Result T E) → ((x : T) → P x → Q x) → IfOk r P → IfOk r Q
if_ok P Q (Ok x) make is = make x is
if_ok P Q (Err e) make is = tt
