-- What a power loss leaves of a directory: between commits, and after each step of one.
-- serves: fill (dirties), power_losses (quiet, safe, stays, survives), write_changed (remembered, survives), write_page (dirties), crates above
use Rattle.std.proofs.Common.{◌≡◌, ◌≢◌, ℕ, ◌+◌, ◌-◌, ◌<◌, ◌≤◌, List, [], length, get_or, drop, Option, Some, Ok, Err, sym, ◌∙◌, ap, subst, arith, slice_get, inl, inr, refl, length-set}
use Rattle.std.specs.Prelude.{◌⊎◌, All, Contains, Result, OnOk, OnErr, true}
use Rattle.std.specs.Option.{ForSome}
use Rattle.std.proofs.Math.ListN.{set}
use Rattle.std.proofs.lemmas.Bool.{cases_eq, cases_lt}
use Rattle.std.proofs.lemmas.List.{get_or-drop}
use Rattle.std.proofs.lemmas.List.Elements.{All-contains}
use Rattle.std.proofs.lemmas.Option.{same_Some, slice_get-get_or, slice_get_past}
use Rattle.g_base.specs.ToldContent.{Changes}
use Rattle.g_base.proofs.ToldLemmas.{told_after}
use Rattle.g_blocks.specs.Pool.{IsInArea}
use Rattle.g_disc.specs.Disc.{DiscState, GateFailed, HasSynced, StaySyncable, is_durable, is_syncable}
use Rattle.g_disc.specs.Durable.{AreDurable, AreSyncable, DirtiesOnly, MayLeave, PowerLossLeaves}
use Rattle.g_entry.specs.declared.format.Format.TheVariants.{Two}
use Rattle.g_slots.specs.declared.side.Side.{Side}
use Rattle.g_slots.specs.Commit.{Flips, KeepsCurrent}
use Rattle.g_slots.specs.Layout.{GateNames, IsInSlot, copy_area, current, gate_block, gate_side, other, slot, start_of}
use Rattle.g_slots.proofs.OneWrite.{flips, gate_side-gate_block, slot-set-gate}
use Rattle.g_slots.proofs.Surviving.{after_gate, before_copies, current_at, gate_left, one_or_other, slot_left, slots_apart}
use Rattle.g_dirs.specs.Directory.{AreRecords, Directory, IsDirectory, all_places}
use Rattle.g_dirs.specs.Durable.{AreRememberedSyncable, CommitsDurably, DirectorySurvives, IsDiscSafe, IsLive, IsOfFile, IsSlotSafe, KeepsFiles, LeavesOldOrNew, LiveIsSafe, QuietWritesStayDurable, SafeStays}
use Rattle.g_dirs.specs.Image.{StandsFor}
use Rattle.g_dirs.specs.Pages.{LosesMarks, Remembered, RemembersPage, nothing, pages_of}
use Rattle.g_dirs.specs.Writing.{DirtiesSlot, HoldsFirst, RemembersFirst, WroteFirst}
use Rattle.g_dirs.proofs.PageLemmas.{none_remembered, same_pages_of}
use Rattle.g_dirs.proofs.Parts.{stands_for_one}
use Rattle.g_dirs.proofs.QuietLemmas.{stands_same}
use Rattle.g_dirs.proofs.WriteLemmas.{each_side, stands_for}

-- THE BLOCKS OF FILES

in_area : (size : ℕ) (d : Directory) (k : ℕ) → All (IsInArea size) (all_places d.files) → IsOfFile d k → 2177 ≤ k
in_area size d k area of = (All-contains (IsInArea size) (all_places d.files) k area of).low

not_in_slot : (side : Side) (k : ℕ) → 2177 ≤ k → IsInSlot side k → ⊥
not_in_slot side k high within = let low = before_copies side k within in let none : ⊥ = omega (arith, high, low) in none

not_gate : (k : ℕ) → 2177 ≤ k → k ≢ 0
not_gate k high same = let none : ⊥ = omega (arith, high, same) in none

-- a block of the copy area is read from it
area_get : (a b : List (List ℕ)) (k : ℕ) → copy_area b ≡ copy_area a → length b ≡ length a → 2177 ≤ k → slice_get b k ≡ slice_get a k
unfolding copy_area
area_get a b k same size high = by (cases_lt k (length a))
  where
    at : 2177 + (k - 2177) ≡ k
    at = omega (arith, high)

    here : get_or b k [] ≡ get_or a k []
    here =
        ap (λ (i : ℕ). get_or b i []) (sym at) ∙ sym (get_or-drop 2177 b (k - 2177) []) ∙ ap (λ (bs : List (List ℕ)). get_or bs (k - 2177) []) same
        ∙ get_or-drop 2177 a (k - 2177) [] ∙ ap (λ (i : ℕ). get_or a i []) at

    by : (k < length a) ⊎ (length a ≤ k) → slice_get b k ≡ slice_get a k
    by (inl within) = slice_get-get_or b k [] (omega (arith, within, size)) ∙ ap Some here ∙ sym (slice_get-get_or a k [] within)
    by (inr past) = slice_get_past b k (omega (arith, past, size)) ∙ sym (slice_get_past a k past)

-- A DISC WHOSE GATE WOULD NAME THIS SLOT

current_named : (side : Side) (b : List (List ℕ)) → 0 < length b → current (set b 0 (gate_block side)) ≡ slot side b
current_named side b there = ap (λ (s : Side). slot s (set b 0 (gate_block side))) (gate_side-gate_block side b there) ∙ slot-set-gate side b (gate_block side)

-- it depends only on the slot and the size
named_same : (side : Side) (a b : List (List ℕ)) (e : Directory) → 0 < length a → length b ≡ length a → slot side b ≡ slot side a → StandsFor (set b 0 (gate_block side)) e → StandsFor (set a 0 (gate_block side)) e
named_same side a b e there size same stands =
    let long : 0 < length b = omega (arith, there, size) in
    stands_same (set b 0 (gate_block side)) (set a 0 (gate_block side)) e (current_named side a there ∙ sym same ∙ sym (current_named side b long))
    (length-set a 0 (gate_block side) ∙ sym size ∙ sym (length-set b 0 (gate_block side))) stands

-- the gate names it already
named_now : (side : Side) (b : List (List ℕ)) (e : Directory) → 0 < length b → gate_side b ≡ side → StandsFor b e → StandsFor (set b 0 (gate_block side)) e
named_now side b e there names stands =
    stands_same b (set b 0 (gate_block side)) e (current_named side b there ∙ sym (current_at side b names)) (length-set b 0 (gate_block side)) stands

-- BETWEEN COMMITS

pub directory_survives : DirectorySurvives
directory_survives side d x blocks left long held names live stands may =
    let gate : gate_side left ≡ side = gate_left x blocks left held may (live 0 (inl refl)) ∙ names in
    let slots : slot side left ≡ slot side blocks = slot_left x blocks left held may side long (λ j within. live j (inr (inl within))) in (
      stands_same blocks left d (current_at side left gate ∙ slots ∙ sym (current_at side blocks names)) (may.size ∙ sym long) stands,
      λ k of. may.durable k (live k (inr (inr of))) blocks held,
    )

pub quiet_writes_stay_durable : QuietWritesStayDurable
quiet_writes_stay_durable side d k from x y result quiet live write = λ j is. write.durable j (λ same. quiet (subst (IsLive side d) same is)) (live j is)

pub live_is_safe : LiveIsSafe
live_is_safe side d x blocks held long large names stands = (safe, live)
  where
    there : 0 < length blocks
    there = omega (arith, long, large)

    here : AreDurable (IsLive side d) x → IsSlotSafe side blocks x
    here durable = record {
      slot = λ j within. durable j (inr (inl within));
      files = λ e other_stands j of.
          let same = stands_for_one (set blocks 0 (gate_block side)) e d other_stands (named_now side blocks d there names stands) in
          durable j (inr (inr (subst (λ (f : Directory). IsOfFile f j) same of)));
    }

    safe : AreDurable (IsLive side d) x → IsDiscSafe x
    safe durable = λ b told s gate.
        let is : blocks ≡ b = same_Some blocks b (sym held ∙ told) in
        let named : side ≡ s = sym names ∙ ap gate_side is ∙ gate (durable 0 (inl refl)) in
        subst (λ (c : List (List ℕ)). IsSlotSafe s c x) is (subst (λ (t : Side). IsSlotSafe t blocks x) named (here durable))

    live : IsDiscSafe x → is_durable x 0 ≡ true → AreDurable (IsLive side d) x
    live is gate j which = by which
      where
        current_safe : IsSlotSafe side blocks x
        current_safe = is blocks held side (λ _. names)

        by : IsLive side d j → is_durable x j ≡ true
        by (inl same) = subst (λ (i : ℕ). is_durable x i ≡ true) (sym same) gate
        by (inr (inl within)) = current_safe.slot j within
        by (inr (inr of)) = current_safe.files d (named_now side blocks d there names stands) j of

pub safe_stays : SafeStays
safe_stays x y held stay is = λ blocks told side gate.
    let was = is blocks (sym held ∙ told) side (λ durable. gate (stay 0 durable)) in
    record { slot = λ j within. stay j (was.slot j within); files = λ e stands j of. stay j (was.files e stands j of) }

-- REMEMBERED BLOCKS

-- nothing is remembered
pub remembered_nothing : (pages : Remembered) (disc : DiscState) → pages ≡ nothing → AreRememberedSyncable pages disc
remembered_nothing pages disc is = subst (λ (p : Remembered). AreRememberedSyncable p disc) (sym is) (λ side k page there. absurd (none_remembered side k page there))

-- one more is remembered
remembered_page : (side : Side) (k : ℕ) (page : List ℕ) (old new : Remembered) (y z : DiscState) → RemembersPage side k page old new → StaySyncable y z → is_syncable z (start_of side + k) ≡ true
    → AreRememberedSyncable old y → AreRememberedSyncable new z
remembered_page side k page old new y z remembers stay here was =
    each_side (λ s. (j : ℕ) (p : List ℕ) → slice_get (pages_of s new) j ≡ Some (Some p) → is_syncable z (start_of s + j) ≡ true) side
    (λ j p there.
    elim (cases_eq j k) [
      | inl same ↦ subst (λ (i : ℕ). is_syncable z (start_of side + i) ≡ true) (sym same) here
      | inr differs ↦ stay (start_of side + j) (was side j p (sym (remembers.rest j differs) ∙ there))
    ])
    (λ j p there. stay (start_of (other side) + j) (was (other side) j p (ap (λ (ps : List (Option (List ℕ))). slice_get ps j) (sym remembers.opposite) ∙ there)))

-- a block of the slot was written and remembered
pub dirties_page : {T E F : Type 0} (side : Side) (k : ℕ) (page : List ℕ) (old new : Remembered) (y z : DiscState) (t u : T) → k < 1088 → RemembersPage (other side) k page old new
    → DirtiesOnly {T = T} {E = E} (λ j. j ≡ start_of (other side) + k) y z (Ok t) → DirtiesSlot {T = T} {E = F} side y z old new (Ok u)
dirties_page side k page old new y z t u below remembers dirties = record {
  durable = λ j outside was. dirties.durable j (λ same. outside (in_slot side k j below same)) was;
  syncable = dirties.syncable;
  remembered = λ was. remembered_page (other side) k page old new y z remembers dirties.syncable (dirties.here (start_of (other side) + k) refl) was;
}
  where
    in_slot : (s : Side) (i j : ℕ) → i < 1088 → j ≡ start_of (other s) + i → IsInSlot (other s) j
    in_slot s i j under same = (omega (arith, same), omega (arith, same, under))

-- it couldn't be written
pub torn_page : {T E F : Type 0} (side : Side) (k : ℕ) (old new : Remembered) (y z : DiscState) (e : E) (f : F) → k < 1088
    → DirtiesOnly {T = T} {E = E} (λ j. j ≡ start_of (other side) + k) y z (Err e) → DirtiesSlot {T = T} {E = F} side y z old new (Err f)
torn_page side k old new y z e f below dirties = record {
  durable = λ j outside was. dirties.durable j (λ same. outside (omega (arith, same), omega (arith, same, below))) was;
  syncable = tt;
  remembered = λ was. tt;
}

-- nothing was written
pub dirties_none : {T E : Type 0} (side : Side) (y : DiscState) (old : Remembered) (u : T) → DirtiesSlot {T = T} {E = E} side y y old old (Ok u)
dirties_none side y old u = record { durable = λ j outside was. was; syncable = λ j was. was; remembered = λ was. was }

pub dirties_then : {T E F : Type 0} (side : Side) (x y z : DiscState) (old mid new : Remembered) (u v w : T) → DirtiesSlot {T = T} {E = E} side x y old mid (Ok u) → DirtiesSlot {T = T} {E = F} side y z mid new (Ok v)
    → DirtiesSlot {T = T} {E = F} side x z old new (Ok w)
dirties_then side x y z old mid new u v w first second = record {
  durable = λ j outside was. second.durable j outside (first.durable j outside was);
  syncable = λ j was. second.syncable j (first.syncable j was);
  remembered = λ was. second.remembered (first.remembered was);
}

pub dirties_until : {T E F : Type 0} (side : Side) (x y z : DiscState) (old mid new : Remembered) (u : T) (f : F) → DirtiesSlot {T = T} {E = E} side x y old mid (Ok u) → DirtiesSlot {T = T} {E = F} side y z mid new (Err f)
    → DirtiesSlot {T = T} {E = F} side x z old new (Err f)
dirties_until side x y z old mid new u f first second = record {
  durable = λ j outside was. second.durable j outside (first.durable j outside was);
  syncable = tt;
  remembered = λ was. tt;
}

-- taking off marks changes nothing of what is remembered, and the gate is no remembered block
pub remembered_flipped : (next : Side) (y z : DiscState) (mid new : Remembered) → StaySyncable y z → LosesMarks next mid new → AreRememberedSyncable mid y → AreRememberedSyncable new z
remembered_flipped next y z mid new syncable loses was s k page there =
    syncable (start_of s + k) (was s k page (ap (λ (ps : List (Option (List ℕ))). slice_get ps k) (sym (same_pages_of s mid new loses.pages)) ∙ there))

-- all blocks of a slot are remembered, so they are syncable
slot_syncable : (side : Side) (d : Directory) (old new : Remembered) (y : DiscState) → RemembersFirst side d 1088 old new → AreRememberedSyncable new y → AreSyncable (IsInSlot (other side)) y
slot_syncable side d old new y first was j (low, high) =
    let at : start_of (other side) + (j - start_of (other side)) ≡ j = omega (arith, low) in
    subst (λ (i : ℕ). is_syncable y i ≡ true) at (was (other side) (j - start_of (other side)) _ (first.here (j - start_of (other side)) (omega (arith, low, high))))

flips_then : {a b c : List (List ℕ)} → Flips a b → Flips b c → Flips a c
flips_then first second = record { size = second.size ∙ first.size; slots = λ side. second.slots side ∙ first.slots side; copies = second.copies ∙ first.copies }

-- A COMMIT fills the other slot, and then writes the gate. x is the disc before it, w the disc at some moment of it.

module _ (side : Side) (x w : DiscState) (a b : List (List ℕ)) (held_before : x.held ≡ Some a) (held : w.held ≡ Some b) (whole : length a ≡ x.size) (large : 2177 < x.size)
    (same_size : w.size ≡ x.size) (names : gate_side a ≡ side) (safe : IsDiscSafe x)
    (size : length b ≡ length a) (kept : slot side b ≡ slot side a) (copies : copy_area b ≡ copy_area a)
    (stay : (j : ℕ) → (IsInSlot (other side) j → ⊥) → j ≢ 0 → is_durable x j ≡ true → is_durable w j ≡ true) where
  there : 0 < length a
  there = omega (arith, whole, large)

  long : length b ≡ w.size
  long = size ∙ whole ∙ sym same_size

  old_before : IsSlotSafe side a x
  old_before = safe a held_before side (λ _. names)

  old_slot : AreDurable (IsInSlot side) w
  old_slot j within = stay j (slots_apart side j within) (after_gate side j within) (old_before.slot j within)

  -- the files of the directory that was current stay durable
  old_files : (e : Directory) → StandsFor (set a 0 (gate_block side)) e → AreDurable (IsOfFile e) w
  old_files e stands j of =
      let high = in_area _ e j stands.rules.area of in
      stay j (not_in_slot (other side) j high) (not_gate j high) (old_before.files e stands j of)

  pub old_safe : IsSlotSafe side b w
  old_safe = record {
    slot = old_slot;
    files = λ e stands. old_files e (named_same side a b e there size kept stands);
  }

  pub old_left : (left : List (List ℕ)) → MayLeave w left → gate_side left ≡ side → (current left ≡ current a) × ((e : Directory) → StandsFor a e → KeepsFiles e a left)
  old_left left may gate = (
    current_at side left gate ∙ slot_left w b left held may side long old_slot ∙ kept ∙ sym (current_at side a names),
    λ e stands k of.
        let high = in_area _ e k stands.rules.area of in
        may.durable k (old_files e (named_now side a e there names stands) k of) b held ∙ area_get a b k copies size high,
  )

  -- only the other slot has changed, and the gate is durable
  module _ (gate_kept : gate_side b ≡ gate_side a) (gate : is_durable w 0 ≡ true) where
    pub safe_before_gate : IsDiscSafe w
    safe_before_gate c told s named =
        let is : b ≡ c = same_Some b c (sym held ∙ told) in
        let same : side ≡ s = sym names ∙ sym gate_kept ∙ ap gate_side is ∙ named gate in
        subst (λ (bs : List (List ℕ)). IsSlotSafe s bs w) is (subst (λ (t : Side). IsSlotSafe t b w) same old_safe)

    pub leaves_before_gate : (d : Directory) (left : List (List ℕ)) → MayLeave w left → LeavesOldOrNew d a left
    leaves_before_gate d left may = record {
      size = may.size ∙ sym long ∙ size;
      whole = inl (old_left left may (gate_left w b left held may gate ∙ gate_kept ∙ names));
    }

  -- the other slot holds directory d, whole, and is durable with its files
  module _ (d : Directory) (stands : StandsFor (set b 0 (gate_block (other side))) d) (new_slot : AreDurable (IsInSlot (other side)) w) (new_files : AreDurable (IsOfFile d) w) where
    new_safe : IsSlotSafe (other side) b w
    new_safe = record {
      slot = new_slot;
      files = λ e e_stands j of. new_files j (subst (λ (f : Directory). IsOfFile f j) (stands_for_one (set b 0 (gate_block (other side))) e d e_stands stands) of);
    }

    new_left : (left : List (List ℕ)) → MayLeave w left → gate_side left ≡ other side → StandsFor left d × KeepsFiles d a left
    new_left left may gate =
        let within : 0 < length b = omega (arith, there, size) in (
          stands_same (set b 0 (gate_block (other side))) left d
              (current_at (other side) left gate ∙ slot_left w b left held may (other side) long new_slot ∙ sym (current_named (other side) b within))
              (may.size ∙ sym long ∙ sym (length-set b 0 (gate_block (other side)))) stands,
          λ k of.
              let high = in_area _ d k stands.rules.area of in
              may.durable k (new_files k of) b held ∙ area_get a b k copies size high,
        )

    pub safe_at_gate : IsDiscSafe w
    safe_at_gate c told s named = by (one_or_other s side)
      where
        is : b ≡ c
        is = same_Some b c (sym held ∙ told)

        by : (s ≡ side) ⊎ (s ≡ other side) → IsSlotSafe s c w
        by (inl same) = subst (λ (bs : List (List ℕ)). IsSlotSafe s bs w) is (subst (λ (t : Side). IsSlotSafe t b w) (sym same) old_safe)
        by (inr same) = subst (λ (bs : List (List ℕ)). IsSlotSafe s bs w) is (subst (λ (t : Side). IsSlotSafe t b w) (sym same) new_safe)

    pub leaves_at_gate : (left : List (List ℕ)) → MayLeave w left → LeavesOldOrNew d a left
    leaves_at_gate left may = record { size = may.size ∙ sym long ∙ size; whole = by (one_or_other (gate_side left) side) }
      where
        by : (gate_side left ≡ side) ⊎ (gate_side left ≡ other side)
            → ((current left ≡ current a) × ((e : Directory) → StandsFor a e → KeepsFiles e a left)) ⊎ (StandsFor left d × KeepsFiles d a left)
        by (inl old) = inl (old_left left may old)
        by (inr new) = inr (new_left left may new)

-- ITS CLAUSES, from those of its steps
module _ (side : Side) (d : Directory) (x y : DiscState) (old mid : Remembered) (whole : (a : List (List ℕ)) → x.held ≡ Some a → length a ≡ x.size) (large : 2177 < x.size)
    (names : GateNames side x.held) where
  -- the other slot couldn't be filled
  module _ {T E : Type 0} (f : E) (kept : Changes (KeepsCurrent side) x.held y.held) (same_size : y.size ≡ x.size) (dirties : DirtiesSlot {T = T} {E = E} side x y old mid (Err f)) where
    stay_filling : (j : ℕ) → (IsInSlot (other side) j → ⊥) → j ≢ 0 → is_durable x j ≡ true → is_durable y j ≡ true
    stay_filling j outside apart was = dirties.durable j outside was

    gate_filling : is_durable x 0 ≡ true → is_durable y 0 ≡ true
    gate_filling was = dirties.durable 0 (λ within. after_gate (other side) 0 within refl) was

    pub commits_not : (now : Side) → CommitsDurably {T = T} {E = E} d now x y (Err f)
    commits_not now = record {
      durable = tt;
      safe = λ gate is b told.
          told_after {P = λ c. y.held ≡ Some c → IsDiscSafe y} kept
          (λ a c was keeps told_c.
          safe_before_gate side x y a c was told_c (whole a was) large same_size (names a was) is keeps.size keeps.kept keeps.copies stay_filling keeps.gate (gate_filling gate))
          b told told b told;
      survives = λ gate is a was left may.
          let end = kept.told a was in
          leaves_before_gate side x y a end.0 was end.1 (whole a was) large same_size (names a was) is end.2.size end.2.kept end.2.copies stay_filling end.2.gate (gate_filling gate) d left may;
    }

  -- it was filled
  module _ {T E : Type 0} (u : T) (z : DiscState) (records : AreRecords Two d) (rules : IsDirectory x.size d) (wrote : WroteFirst side d 1088 x y old mid)
      (dirties : DirtiesSlot {T = T} {E = E} side x y old mid (Ok u)) (ready : AreRememberedSyncable old x) (copies : AreSyncable (IsOfFile d) x)
      (last_size : z.size ≡ y.size) (flip : Changes Flips y.held z.held) (stay : (j : ℕ) → j ≢ 0 → is_durable y j ≡ true → is_durable z j ≡ true) where
    stay_flipping : (j : ℕ) → (IsInSlot (other side) j → ⊥) → j ≢ 0 → is_durable x j ≡ true → is_durable z j ≡ true
    stay_flipping j outside apart was = stay j apart (dirties.durable j outside was)

    new_slot : HasSynced y z → AreDurable (IsInSlot (other side)) z
    new_slot synced j within = synced j (after_gate (other side) j within) (slot_syncable side d old mid y wrote.pages (dirties.remembered ready) j within)

    new_files : HasSynced y z → AreDurable (IsOfFile d) z
    new_files synced j of = synced j (not_gate j (in_area x.size d j rules.area of)) (dirties.syncable j (copies j of))

    -- the gate was written
    pub commits : {F : Type 0} (t : T) (now : Side) → now ≡ other side → HasSynced y z → is_durable z 0 ≡ true → CommitsDurably {T = T} {E = F} d now x z (Ok t)
    commits t now is synced gate = record {
      durable = λ j which. by j which;
      safe = λ was safe. tt;
      survives = λ was safe. tt;
    }
      where
        by : (j : ℕ) → IsLive now d j → is_durable z j ≡ true
        by j (inl same) = subst (λ (i : ℕ). is_durable z i ≡ true) (sym same) gate
        by j (inr (inl within)) = new_slot synced j (subst (λ (s : Side). IsInSlot s j) is within)
        by j (inr (inr of)) = new_files synced j of

    -- the blocks at the end, if they are observable
    module _ (a b c : List (List ℕ)) (was : x.held ≡ Some a) (holds : HoldsFirst side d 1088 a b) (flips_to : Flips b c) where
      end_size : length c ≡ length a
      end_size = flips_to.size ∙ holds.kept.size

      end_kept : slot side c ≡ slot side a
      end_kept = flips_to.slots side ∙ holds.kept.kept

      end_copies : copy_area c ≡ copy_area a
      end_copies = flips_to.copies ∙ holds.kept.copies

      end_stands : StandsFor (set c 0 (gate_block (other side))) d
      end_stands =
          let flipped : Flips b (set c 0 (gate_block (other side))) = flips_then flips_to (flips c (gate_block (other side))) in
          let within : 0 < length c = omega (arith, end_size, whole a was, large) in
          stands_for side d x.size a b (set c 0 (gate_block (other side))) records rules (whole a was) holds flipped (gate_side-gate_block (other side) c within)

    -- it couldn't be written
    module _ (failed : GateFailed y z) (gate : is_durable x 0 ≡ true) (is : IsDiscSafe x) where
      end_gate : (z.held ≡ y.held) × (is_durable y 0 ≡ true → is_durable z 0 ≡ true) → is_durable z 0 ≡ true
      end_gate same = same.1 (dirties.durable 0 (λ within. after_gate (other side) 0 within refl) gate)

      -- the same blocks as before the write
      unflipped : (b c : List (List ℕ)) → z.held ≡ y.held → y.held ≡ Some b → z.held ≡ Some c → b ≡ c
      unflipped b c same told_b told_c = same_Some b c (sym told_b ∙ sym same ∙ told_c)

      safe_by : (a b c : List (List ℕ)) → x.held ≡ Some a → y.held ≡ Some b → HoldsFirst side d 1088 a b → Flips b c → z.held ≡ Some c → GateFailed y z → IsDiscSafe z
      safe_by a b c was mid_is holds flips_to told (inl same) =
          safe_before_gate side x z a c was told (whole a was) large (last_size ∙ wrote.size) (names a was) is (end_size a b c was holds flips_to) (end_kept a b c was holds flips_to)
          (end_copies a b c was holds flips_to) stay_flipping (ap gate_side (sym (unflipped b c same.0 mid_is told)) ∙ holds.kept.gate) (end_gate same)
      safe_by a b c was mid_is holds flips_to told (inr synced) =
          safe_at_gate side x z a c was told (whole a was) large (last_size ∙ wrote.size) (names a was) is (end_size a b c was holds flips_to) (end_kept a b c was holds flips_to)
          (end_copies a b c was holds flips_to) stay_flipping d (end_stands a b c was holds flips_to) (new_slot synced) (new_files synced)

      leaves_by : (a b c : List (List ℕ)) → x.held ≡ Some a → y.held ≡ Some b → HoldsFirst side d 1088 a b → Flips b c → z.held ≡ Some c → GateFailed y z
          → (left : List (List ℕ)) → MayLeave z left → LeavesOldOrNew d a left
      leaves_by a b c was mid_is holds flips_to told (inl same) =
          leaves_before_gate side x z a c was told (whole a was) large (last_size ∙ wrote.size) (names a was) is (end_size a b c was holds flips_to) (end_kept a b c was holds flips_to)
          (end_copies a b c was holds flips_to) stay_flipping (ap gate_side (sym (unflipped b c same.0 mid_is told)) ∙ holds.kept.gate) (end_gate same) d
      leaves_by a b c was mid_is holds flips_to told (inr synced) =
          leaves_at_gate side x z a c was told (whole a was) large (last_size ∙ wrote.size) (names a was) is (end_size a b c was holds flips_to) (end_kept a b c was holds flips_to)
          (end_copies a b c was holds flips_to) stay_flipping d (end_stands a b c was holds flips_to) (new_slot synced) (new_files synced)

    pub commits_or_not : {F : Type 0} (f : F) (now : Side) → GateFailed y z → CommitsDurably {T = T} {E = F} d now x z (Err f)
    commits_or_not f now failed = record {
      durable = tt;
      safe = λ gate is c told. safe_after gate is c told told c told;
      survives = λ gate is a was left may.
          let mid = wrote.content.told a was in
          let end = flip.told mid.0 mid.1 in
          leaves_by failed gate is a mid.0 end.0 was mid.1 mid.2 end.2 end.1 failed left may;
    }
      where
        safe_after : is_durable x 0 ≡ true → IsDiscSafe x → (c : List (List ℕ)) → z.held ≡ Some c → z.held ≡ Some c → IsDiscSafe z
        safe_after gate is = told_after {P = λ c. z.held ≡ Some c → IsDiscSafe z} flip (λ b c mid_is flips_to told_c.
            told_after {P = λ e. y.held ≡ Some e → Flips e c → IsDiscSafe z} wrote.content
            (λ a e was holds told_e flips_e. safe_by failed gate is a e c was told_e holds flips_e told_c failed) b mid_is mid_is flips_to)
