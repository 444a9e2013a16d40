-- Safe devices: those of a store that goes down or was stopped, and those of which no store was made.
-- serves: device_losses (durable, format, left, refusals, stops), RefusalLemmas
use Rattle.std.proofs.Common.{◌≡◌, ◌≢◌, ℕ, Bool, true, false, List, [], ◌∷◌, length, map, Option, Some, None, refl, sym, ◌∙◌, ap, arith, subst, inl, inr, option_map, if◌then◌else◌}
use Rattle.std.specs.Prelude.{◌⊎◌, ◌↔◌, All, Result, find, nat_eq, nat_lt, not}
use Rattle.std.specs.List.{AllZip, list_any}
use Rattle.std.proofs.lemmas.Bool.{ltb-false}
use Rattle.std.proofs.lemmas.List.Elements.{All-cons, All-head, All-nil, All-tail}
use Rattle.std.proofs.lemmas.Option.{none-some, same_Some}
use Rattle.g_dirs.specs.Durable.{IsDiscSafe}
use Rattle.g_disc.specs.Disc.{DiscState, StayDurable, is_durable}
use Rattle.g_disc.specs.Durable.{MayLeave as MayLeaveDisc}
use Rattle.g_disc.proofs.DurableLemmas.{all_durable_is_unchanged}
use Rattle.g_tape.specs.Rack.{Rack}
use Rattle.g_tape.specs.Reads.{MayLeave, OnlyReads, blocks_of, unread}
use Rattle.g_tape.specs.Reel.{Reel}
use Rattle.g_tape.proofs.ReadLemmas.{blocks_after_reads}
use Rattle.g_plain.specs.declared.faults.StoreFault.{StoreFault}
use Rattle.g_plain.specs.declared.faults.StoreFault.TheVariants.{RackNotEmpty, Stopped}
use Rattle.g_plain.proofs.Found.{some_of}
use Rattle.g_shelf.specs.Surviving.{DumpsSurvive}
use Rattle.g_shelf.proofs.SurvivingLemmas.{can_reads, durable_dumps, survive_reads}
use Rattle.g_store_model.specs.State.{State}
use Rattle.g_store_model.specs.CallStep.{Outcome}
use Rattle.g_store_meaning.specs.Belonging.{Belong, BelongWith}
use Rattle.g_store_meaning.specs.Meaning.{told_reels}
use Rattle.g_store_meaning.specs.Reading.{AllTold}
use Rattle.g_store_meaning.specs.Safety.{AreSafe, IsLeft, IsRackLeft, IsReelLeft}
use Rattle.g_store_meaning.specs.Surviving.{disc_left}
use Rattle.g_laws_store.proofs.TiedLemmas.{durable_is_safe}
use Rattle.g_store.specs.Making.{Refuses, RefusesFormat}
use Rattle.g_store.specs.Refusing.{first_used}
use Rattle.g_laws_power.specs.Devices.{DurableAreSafe, FormatIsSafe, LeftIsSafe, RefusalsKeepSafe, StopsLeaveSafe}
use Rattle.g_laws_power.proofs.EventLemmas.{stopped_can_be_safe}
use Rattle.g_laws_power.proofs.LeftLemmas.{belong_left, told_left}
use Rattle.g_laws_power.proofs.ProcessLossLemmas.{process_stopped}
use Rattle.g_laws_power.proofs.SurvivalLemmas.{left_can_be_safe, making_is_safe}

-- A STORE THAT GOES DOWN, or was stopped
pub stops_leave_safe : StopsLeaveSafe
stops_leave_safe = record {
  down = λ s safe. record {
    now = record {
      told = safe.told;
      belong = safe.belongs.devices;
      disc_safe = durable_is_safe s.online safe.store.tied (safe.store.live safe.up) safe.disc;
      dumps = λ serial. inl (safe.dumps.up safe.up serial);
      blank = λ _. safe.dumps.up safe.up;
    };
    left = λ blocks after left. left_can_be_safe.between s blocks after safe left;
  };
  call = λ old new who call safe answers. record {
    now = left_can_be_safe.stop old new who call safe answers;
    left = λ blocks after left. left_can_be_safe.stopped old new who call blocks after safe answers left;
  };
  opening = λ serial old new safe opens. record {
    now = stopped_can_be_safe.opening_alone serial old new safe opens;
    left = λ blocks after left. stopped_can_be_safe.opening serial old new blocks after safe opens left;
  };
  migrating = λ path old new safe migrates. record {
    now = stopped_can_be_safe.migrating_alone path old new safe migrates;
    left = λ blocks after left. stopped_can_be_safe.migrating path old new blocks after safe migrates left;
  };
  process = process_stopped;
}

-- DEVICES THAT WERE ONLY READ: a power loss leaves nothing of them that it couldn't have left before
may_before : (old new : DiscState) (left : List (List ℕ)) → new.held ≡ old.held → new.size ≡ old.size → StayDurable old new → MayLeaveDisc new left → MayLeaveDisc old left
may_before old new left held size durable may = record {
  size = may.size ∙ size;
  whole = may.whole;
  durable = λ k is blocks at. may.durable k (durable k is) blocks (held ∙ at);
}

module _ (old new : Rack) (only : OnlyReads old new) where
  reel_before : (was is now : Reel) → unread is ≡ unread was → IsReelLeft new is now → IsReelLeft old was now
  reel_before was is now same left =
      let serial : is.serial ≡ was.serial = ap (λ (r : Reel). r.serial) same in record {
        serial = left.serial ∙ serial;
        capacity = left.capacity ∙ ap (λ (r : Reel). r.capacity) same;
        mounted = left.mounted;
        told = left.told;
        blocks = λ blocks at. subst (λ (n : ℕ). MayLeave n old blocks) serial (only.durable.leaves is.serial blocks (left.blocks blocks at));
      }

  reels_before : (xs ys zs : List Reel) → map unread ys ≡ map unread xs → AllZip (IsReelLeft new) ys zs → AllZip (IsReelLeft old) xs zs
  reels_before [] [] [] same zip = tt
  reels_before [] [] (z ∷ zs) same zip = absurd zip
  reels_before [] (y ∷ ys) zs same zip = absurd (let no : ⊥ = cc in no)
  reels_before (x ∷ xs) [] zs same zip = absurd (let no : ⊥ = cc in no)
  reels_before (x ∷ xs) (y ∷ ys) [] same zip = absurd zip
  reels_before (x ∷ xs) (y ∷ ys) (z ∷ zs) same (one, zip) =
      let first : unread y ≡ unread x = cc in
      let rest : map unread ys ≡ map unread xs = cc in (reel_before x y z first one, reels_before xs ys zs rest zip)

  rack_before : (after : Rack) → IsRackLeft new after → IsRackLeft old after
  rack_before after left = record { reels = reels_before old.reels new.reels after.reels only.reels left.reels; durable = left.durable }

-- devices of which no store was made, without a failed write
pub unwritten : {A : Type 0} {given : Type 0} {by : State → Outcome → Result A StoreFault → State → Type 0} (disc disc' : DiscState) (rack rack' : Rack) (fault : StoreFault) → Refuses given by disc rack fault disc' rack' → fault ≢ Stopped
    → (blocks : List (List ℕ)) (after : Rack) → IsLeft disc' rack' blocks after → IsLeft disc rack blocks after
unwritten disc disc' rack rack' fault refuses isnt blocks after left = record {
  on_disc = may_before disc disc' blocks (refuses.held isnt) refuses.causes.size (refuses.durable isnt) left.on_disc;
  reels = rack_before rack rack' refuses.tapes after left.reels;
}

-- reels without blocks had none before
blank_before : (xs ys : List Reel) → map unread ys ≡ map unread xs → All (λ r. r.len ≡ 0) ys → All (λ r. r.len ≡ 0) xs
blank_before [] ys same blank = All-nil (λ (r : Reel). r.len ≡ 0)
blank_before (x ∷ xs) [] same blank = absurd (let no : ⊥ = cc in no)
blank_before (x ∷ xs) (y ∷ ys) same blank =
    let first : unread y ≡ unread x = cc in
    let rest : map unread ys ≡ map unread xs = cc in
    All-cons (λ (r : Reel). r.len ≡ 0) x xs (sym (ap (λ (r : Reel). r.len) first) ∙ All-head (λ (r : Reel). r.len ≡ 0) y ys blank)
    (blank_before xs ys rest (All-tail (λ (r : Reel). r.len ≡ 0) y ys blank))

-- DEVICES WHOSE DUMPS SURVIVE, whatever of the disc a power loss leaves
left_disc_safe : (blocks : List (List ℕ)) (d : DiscState) → IsDiscSafe (disc_left blocks d)
left_disc_safe blocks d held at side names = record { slot = λ k within. refl; files = λ e stands k within. refl }

all_survive : (disc : DiscState) (rack : Rack) → AllTold disc.held (told_reels rack) → Belong disc.held rack → IsDiscSafe disc → ((serial : ℕ) → DumpsSurvive serial rack)
    → ((blocks : List (List ℕ)) → MayLeaveDisc disc blocks → BelongWith (Some blocks) (told_reels rack)) → AreSafe disc rack
all_survive disc rack told belong disc_safe survive belongs = record {
  now = record { told = told; belong = belong; disc_safe = disc_safe; dumps = λ serial. inl (survive serial); blank = λ _. survive };
  left = λ blocks after left.
      let lasting : (serial : ℕ) → DumpsSurvive serial after = λ serial. durable_dumps serial after (left.reels.durable serial) in record {
        told = record { disc = refl; each = told_left rack after left.reels told.each survive };
        belong = belong_left rack after left.reels told.each survive (Some blocks) (belongs blocks left.on_disc);
        disc_safe = left_disc_safe blocks disc;
        dumps = λ serial. inl (lasting serial);
        blank = λ _. lasting;
      };
}

-- A STORE THAT WASN'T MADE
module _ {A : Type 0} {given : Type 0} {by : State → Outcome → Result A StoreFault → State → Type 0} (disc disc' : DiscState) (rack rack' : Rack) (fault : StoreFault) (safe : AreSafe disc rack)
    (refuses : Refuses given by disc rack fault disc' rack') (keeps : IsDiscSafe disc → IsDiscSafe disc') where
  same_blocks : (serial : ℕ) → blocks_of serial rack' ≡ blocks_of serial rack
  same_blocks serial = blocks_after_reads serial rack rack' refuses.tapes

  -- without a failed write
  nothing_written : fault ≢ Stopped → AreSafe disc' rack'
  nothing_written isnt = record {
    now = record {
      told = refuses.told safe.now.told;
      belong = refuses.belongs safe.now.told safe.now.belong;
      disc_safe = keeps safe.now.disc_safe;
      dumps = λ serial. can_reads serial rack rack' refuses.tapes.durable (same_blocks serial) (safe.now.dumps serial);
      blank = λ empty serial.
          survive_reads serial rack rack' refuses.tapes.durable (same_blocks serial) (safe.now.blank (blank_before rack.reels rack'.reels refuses.tapes.reels empty) serial);
    };
    left = λ blocks after left.
        let can = safe.left blocks after (unwritten disc disc' rack rack' fault refuses isnt blocks after left) in
        record { told = can.told; belong = can.belong; disc_safe = left_disc_safe blocks disc'; dumps = can.dumps; blank = can.blank };
  }

  -- after a failed write the dumps survive
  written : fault ≡ Stopped → ((serial : ℕ) → DumpsSurvive serial rack') → AreSafe disc' rack'
  written is survive =
      let (had, at) = some_of disc.held safe.now.told.disc in
      all_survive disc' rack' (refuses.told safe.now.told) (refuses.belongs safe.now.told safe.now.belong) (keeps safe.now.disc_safe) survive
      (λ blocks may. (refuses.survives is safe.now.disc_safe had at blocks may).belongs safe.now.told safe.now.belong)

  pub keeps_devices : (fault ≡ Stopped → (serial : ℕ) → DumpsSurvive serial rack') → AreSafe disc' rack'
  keeps_devices survive = by_fault (is_stopped fault)
    where
      is_stopped : (f : StoreFault) → (f ≡ Stopped) ⊎ (f ≢ Stopped)
      is_stopped Stopped = inl refl
      is_stopped f = inr (λ is. let no : ⊥ = cc in no)

      by_fault : (fault ≡ Stopped) ⊎ (fault ≢ Stopped) → AreSafe disc' rack'
      by_fault (inl is) = written is (survive is)
      by_fault (inr isnt) = nothing_written isnt

-- a rack without a block, on which FORMAT makes a store
all_blank : (reels : List Reel) → first_used reels ≡ None → All (λ r. r.len ≡ 0) reels
all_blank [] none = All-nil (λ (r : Reel). r.len ≡ 0)
all_blank (r ∷ rs) none = by_first (nat_lt 0 r.len) refl none (all_blank rs)
  where
    by_first : (b : Bool) → nat_lt 0 r.len ≡ b → option_map (λ (q : Reel). q.serial) (if b then Some r else find (λ (q : Reel). nat_lt 0 q.len) rs) ≡ None
        → (first_used rs ≡ None → All (λ (q : Reel). q.len ≡ 0) rs) → All (λ (q : Reel). q.len ≡ 0) (r ∷ rs)
    by_first true has none rest = absurd (none-some r.serial (sym none))
    by_first false has none rest = let most = ltb-false 0 r.len has in All-cons (λ (q : Reel). q.len ≡ 0) r rs (omega (arith, most)) (rest none)

not_full : (first : Option ℕ) → ((serial : ℕ) → (Stopped ≡ RackNotEmpty serial) ↔ (first ≡ Some serial)) → first ≡ None
not_full None full = refl
not_full (Some n) full = absurd (let is = (full n).1 refl in let no : ⊥ = cc in no)

-- on which dumps survive, if a failed write stopped it
pub format_survives : (disc disc' : DiscState) (rack rack' : Rack) (fault : StoreFault) → AreSafe disc rack → RefusesFormat disc rack fault disc' rack' → fault ≡ Stopped → (serial : ℕ) → DumpsSurvive serial rack'
format_survives disc disc' rack rack' fault safe refuses is serial =
    let none = not_full (first_used rack.reels) (subst (λ (f : StoreFault). (n : ℕ) → (f ≡ RackNotEmpty n) ↔ (first_used rack.reels ≡ Some n)) is refuses.full) in
    survive_reads serial rack rack' refuses.refuses.tapes.durable (blocks_after_reads serial rack rack' refuses.refuses.tapes) (safe.now.blank (all_blank rack.reels none) serial)

pub refusals_keep_safe : RefusalsKeepSafe
refusals_keep_safe = record {
  start = λ disc disc' rack rack' fault safe refuses made.
      keeps_devices disc disc' rack rack' fault safe refuses.refuses refuses.safe (λ is serial. made is serial (safe.now.dumps serial));
  restore = λ disc disc' rack rack' fault safe refuses made.
      keeps_devices disc disc' rack rack' fault safe refuses.refuses refuses.safe (λ is serial. made is serial (safe.now.dumps serial));
  format = λ disc disc' rack rack' fault safe refuses. keeps_devices disc disc' rack rack' fault safe refuses.refuses refuses.safe (format_survives disc disc' rack rack' fault safe refuses);
}

-- FORMAT
pub format_is_safe : FormatIsSafe
format_is_safe disc rack new safe formats =
    making_is_safe.format disc rack new safe.now.told safe.now.disc_safe (λ serial. safe.now.blank (all_blank rack.reels formats.empty) serial) formats

-- DURABLE DEVICES
pub durable_are_safe : DurableAreSafe
durable_are_safe disc rack told belong long none durable =
    all_survive disc rack told belong (λ held at side names. record { slot = λ k within. all k; files = λ e stands k within. all k }) (λ serial. durable_dumps serial rack (durable serial))
    (λ blocks may. let (had, at) = some_of disc.held told.disc in
    subst (λ (held : Option (List (List ℕ))). BelongWith held (told_reels rack)) (at ∙ ap (λ (x : List (List ℕ)). Some x) (sym (all_durable_is_unchanged disc had blocks (long had at) at none may))) belong)
  where
    all : (k : ℕ) → is_durable disc k ≡ true
    all k = ap (λ (ks : List ℕ). not (list_any (nat_eq k) ks)) none

-- WHAT A POWER LOSS LEFT
pub left_is_safe : LeftIsSafe
left_is_safe disc rack blocks after safe left =
    let can = safe.left blocks after left in
    durable_are_safe (disc_left blocks disc) after can.told can.belong (λ bs at. ap (λ (x : List (List ℕ)). length x) (sym (same_Some blocks bs at)) ∙ left.on_disc.size) refl left.reels.durable
