-- What is known of a reel remains known, and the dumps after it are found.
-- serves: catalogue (lists), end, end_of (end, fits), fill, fill_anew, find_copy (fits), forget, known, least_behind, mount (known), notes_of, and 7 more
use Rattle.std.proofs.Common.{◌≡◌, ◌⊎◌, ℕ, zero, suc, ◌+◌, ◌-◌, ◌^◌, ◌<◌, ◌≤◌, ◌==◌, Bool, true, false, List, [], ◌∷◌, ◌++◌, length, Option, Some, None, Result, Ok, Err, refl, sym, ◌∙◌, ap, arith, slice_get, subst, inl, inr, map, All, take, get_or, append_assoc, append-nil, eq-eqb}
use Rattle.std.specs.Prelude.{OnErr, OnOk, option_map, if◌then◌else◌}
use Rattle.std.specs.Option.{ForSome}
use Rattle.std.proofs.Math.ListN.{set}
use Rattle.std.proofs.lemmas.Bool.{cases_Bool, cases_lt, cond-true, cond-false, ne_eqb}
use Rattle.std.proofs.lemmas.Bool.Decides.{eqb_tells}
use Rattle.std.proofs.lemmas.List.{length-take, map_push, take_all, take-append-le, take-take}
use Rattle.std.proofs.lemmas.List.Elements.{All-cons, All-head, All-nil, All-push, All-tail}
use Rattle.std.proofs.lemmas.Option.{same_Some}
use Rattle.g_entry.specs.declared.file_rec.TapeCopy.{TapeCopy}
use Rattle.g_tape.specs.declared.fault.TapeFault.{TapeFault}
use Rattle.g_tape.specs.declared.fault.TapeFault.TheVariants as tape
use Rattle.g_tape.specs.Rack.{AreReels, Rack, is_mounted, reel, refuses_mount, refuses_unmount, with_reel, Mounting, Writing}
use Rattle.g_tape.specs.Reads.{OnlyReads, blocks_in, blocks_of, unread}
use Rattle.g_tape.specs.Reel.{IsReel, Reel, Remains, Unchanged, Shortened, Torn, cut_at, ending, left_by, with_mounted}
use Rattle.g_tape.proofs.ReadLemmas.{blocks_after_reads, is_reel, more_reads, nothing_read, reel-with_reel, reel-with_reel_other, reel_after_reads}
use Rattle.g_incr.specs.declared.fault.ShelfFault.{ShelfFault}
use Rattle.g_incr.specs.declared.fault.ShelfFault.TheVariants.{NoMemory}
use Rattle.g_incr.specs.declared.note.DumpDir.{DumpDir}
use Rattle.g_incr.specs.declared.note.DumpNote.{DumpNote}
use Rattle.g_incr.specs.Layout.{Dump, StandsOn, count_of, ends}
use Rattle.g_incr.specs.Reading.{ReadsReel}
use Rattle.g_shelf.specs.declared.rack.Listed.{Listed}
use Rattle.g_known.specs.declared.lists.NotedReel.{NotedReel}
use Rattle.g_shelf.specs.CompletedDumps.{AreNext, IsNext, end_behind, end_of, number_behind}
use Rattle.g_shelf.specs.FoundDumps.{AreInRow, note_of}
use Rattle.g_shelf.specs.Walk.{IsNextDump}
use Rattle.g_shelf.specs.HeldBlocks.{AreHeld}
use Rattle.g_shelf.proofs.HeldLemmas.{held_in_row}
use Rattle.g_shelf.proofs.QuietLemmas.{carried, within}
use Rattle.g_shelf.proofs.RackLemmas.{reel_at}
use Rattle.g_shelf.proofs.ReadLemmas.{len-unread, starved, there, reel_low}
use Rattle.g_shelf.proofs.RowLemmas.{end_then, in_row, row_end, row_then}
use Rattle.g_shelf.proofs.WalkLemmas.{same_note}
use Rattle.g_known.specs.ReelNotes.{AreFirst, AreFound, AreKnown, AreListed, Fills, GoesOn, HasForgotten, HasNone, HasReadOn, HasWritten, IsKnown, IsListed, IsNoted, IsPlaceIn, OthersStay, end_in, noted, number_in}

-- The end of the notes' dumps.
pub end_noted : (at : ℕ) (ds : List Dump) → end_in at (map note_of ds) ≡ end_behind at ds
end_noted at [] = refl
end_noted at (d ∷ ds) = end_noted (ends d) ds

pub number_noted : (from : ℕ) (ds : List Dump) → number_in from (map note_of ds) ≡ number_behind from ds
number_noted from [] = refl
number_noted from (d ∷ ds) = number_noted (d.number + 1) ds

pub end_last : (at : ℕ) (ns : List DumpNote) (n : DumpNote) → Some n ≡ slice_get ns (length ns - 1) → end_in at ns ≡ n.place + (n.count + 2)
end_last at [] n is = let no : ⊥ = cc in absurd no
end_last at (m ∷ []) n is =
    let here : Some n ≡ Some m = is in
    let same : n ≡ m = same_Some n m here in
    ap (λ (x : DumpNote). x.place + (x.count + 2)) (sym same)
end_last at (m ∷ k ∷ ks) n is =
    let next : length (m ∷ k ∷ ks) - 1 ≡ suc (length (k ∷ ks) - 1) = omega arith in
    end_last (m.place + (m.count + 2)) (k ∷ ks) n (is ∙ ap (λ (i : ℕ). slice_get (m ∷ k ∷ ks) i) next)

pub number_last : (from : ℕ) (ns : List DumpNote) (n : DumpNote) → Some n ≡ slice_get ns (length ns - 1) → number_in from ns ≡ n.number + 1
number_last from [] n is = let no : ⊥ = cc in absurd no
number_last from (m ∷ []) n is =
    let here : Some n ≡ Some m = is in
    let same : n ≡ m = same_Some n m here in
    ap (λ (x : DumpNote). x.number + 1) (sym same)
number_last from (m ∷ k ∷ ks) n is =
    let next : length (m ∷ k ∷ ks) - 1 ≡ suc (length (k ∷ ks) - 1) = omega arith in
    number_last (m.number + 1) (k ∷ ks) n (is ∙ ap (λ (i : ℕ). slice_get (m ∷ k ∷ ks) i) next)

-- The least number after the dumps is within its limit.
pub number_low : (serial at from : ℕ) (ds : List Dump) → from ≤ 2 ^ 62 → AreInRow serial at from ds → number_behind from ds ≤ 2 ^ 62
number_low serial at from [] low row = low
number_low serial at from (d ∷ ds) low row =
    let number = row.0.rules.number in
    number_low serial (ends d) (d.number + 1) ds (omega arith) row.1

-- NOTHING is known of a reel
pub nothing_first : (o : Option Reel) (serial : ℕ) (notes : List DumpNote) → notes ≡ [] → AreFirst o serial notes
nothing_first o serial notes none = record {
  dumps = [];
  notes_are = none;
  row = tt;
  stand = λ blocks told. All-nil (StandsOn blocks);
  fits = λ r is. omega arith;
  low = omega arith;
}

-- What is known remains known if the reel has the same blocks up to the end of the dumps.
record IsLike (e : ℕ) (o p : Option Reel) : Type 0 where
  blocks : ForSome (blocks_in p) (λ new. (old : List (List ℕ)) × (blocks_in o ≡ Some old) × (take e new ≡ take e old))
  fits : ForSome p (λ q. (r : Reel) × (o ≡ Some r) × (e ≤ r.len → e ≤ q.len))

stand_on : (old new : List (List ℕ)) (e serial at from : ℕ) (ds : List Dump) → take e new ≡ take e old → end_behind at ds ≤ e → AreInRow serial at from ds
    → All (StandsOn old) ds → All (StandsOn new) ds
stand_on old new e serial at from [] same fits row all = All-nil (StandsOn new)
stand_on old new e serial at from (d ∷ ds) same fits row all =
    let rest = row_end serial (ends d) (d.number + 1) ds row.1 in
    All-cons (StandsOn new) d ds (carried old new e d same (omega arith) (All-head (StandsOn old) d ds all))
    (stand_on old new e serial (ends d) (d.number + 1) ds same fits row.1 (All-tail (StandsOn old) d ds all))

first_still : (o p : Option Reel) (serial : ℕ) (notes : List DumpNote) → IsLike (end_in 0 notes) o p → AreFirst o serial notes → AreFirst p serial notes
first_still o p serial notes like first =
    let end : end_in 0 notes ≡ end_of first.dumps = ap (end_in 0) first.notes_are ∙ end_noted 0 first.dumps in
    record {
      dumps = first.dumps;
      notes_are = first.notes_are;
      row = first.row;
      stand = λ new told.
          let (old, was, same) = like.blocks new told in
          stand_on old new (end_in 0 notes) serial 0 0 first.dumps same (omega arith) first.row (first.stand old was);
      fits = λ q is.
          let (r, was, longer) = like.fits q is in
          let fits = first.fits r was in
          let still = longer (omega arith) in
          omega arith;
      low = first.low;
    }

known_still : (old new : Rack) (s : ℕ) (notes : List DumpNote) → IsLike (end_in 0 notes) (reel s old.reels) (reel s new.reels)
    → (is_mounted (reel s old.reels) ≡ true → is_mounted (reel s new.reels) ≡ true) → IsKnown old s notes → IsKnown new s notes
known_still old new s notes like up is = record {
  first = first_still (reel s old.reels) (reel s new.reels) s notes like is.first;
  mounted = elim is.mounted [ inl none ↦ inl none | inr was ↦ inr (up was) ];
}

same_like : (e : ℕ) (o : Option Reel) → IsLike e o o
same_like e o = record { blocks = λ new told. (new, told, refl); fits = λ q is. (q, is, λ le. le) }

-- the reel is found the same
same_known : (old new : Rack) (s : ℕ) (notes : List DumpNote) → reel s new.reels ≡ reel s old.reels → IsKnown old s notes → IsKnown new s notes
same_known old new s notes same is =
    known_still old new s notes (subst (IsLike (end_in 0 notes) (reel s old.reels)) (sym same) (same_like (end_in 0 notes) (reel s old.reels)))
    (λ up. ap is_mounted same ∙ up) is

-- nothing is known of it
pub nothing_known : (rack : Rack) (s : ℕ) (notes : List DumpNote) → notes ≡ [] → IsKnown rack s notes
nothing_known rack s notes none = record { first = nothing_first (reel s rack.reels) s notes none; mounted = inl none }

pub none_known : (rack : Rack) (lists : List NotedReel) → lists ≡ [] → AreKnown rack lists
none_known rack lists none = λ s. nothing_known rack s (noted s lists) (ap (noted s) none)

-- of one reel, and of all others
by_reel : (P : ℕ → Type 0) (s : ℕ) → P s → ((t : ℕ) → (t ≡ s → ⊥) → P t) → (t : ℕ) → P t
by_reel P s here others t = elim (eqb_tells t s) [
  | inl h ↦ subst P (sym h.1) here
  | inr h ↦ others t h.1
]

pub still_noted : (rack : Rack) (s : ℕ) (notes now_notes : List DumpNote) → now_notes ≡ notes → IsKnown rack s notes → IsKnown rack s now_notes
still_noted rack s notes now_notes same is = subst (IsKnown rack s) (sym same) is

-- through reads
mounted-unread : (o : Option Reel) → is_mounted (option_map unread o) ≡ is_mounted o
mounted-unread None = refl
mounted-unread (Some r) = refl

unread_like : (e : ℕ) (o p : Option Reel) → option_map unread p ≡ option_map unread o → IsLike e o p
unread_like e None None same = same_like e None
unread_like e None (Some q) same = absurd (let no : ⊥ = cc in no)
unread_like e (Some r) None same = absurd (let no : ⊥ = cc in no)
unread_like e (Some r) (Some q) same =
    let one : unread q ≡ unread r = same_Some (unread q) (unread r) same in
    let blocks : q.blocks ≡ r.blocks = ap (λ (x : Reel). x.blocks) one in
    let lens : q.len ≡ r.len = ap (λ (x : Reel). x.len) one in
    record {
      blocks = λ new told. (new, sym blocks ∙ told, refl);
      fits = λ x is. let here : q ≡ x = same_Some q x is in let len : q.len ≡ x.len = ap (λ (y : Reel). y.len) here in (r, refl, λ le. omega arith);
    }

pub known_after_reads : (old new : Rack) → OnlyReads old new → (s : ℕ) (notes : List DumpNote) → IsKnown old s notes → IsKnown new s notes
known_after_reads old new only s notes is =
    let same = reel_after_reads s old new only in
    known_still old new s notes (unread_like (end_in 0 notes) (reel s old.reels) (reel s new.reels) same)
    (λ up. sym (mounted-unread (reel s new.reels)) ∙ ap is_mounted same ∙ mounted-unread (reel s old.reels) ∙ up) is

pub all_after_reads : (old new : Rack) (lists : List NotedReel) → OnlyReads old new → AreKnown old lists → AreKnown new lists
all_after_reads old new lists only all = λ s. known_after_reads old new only s (noted s lists) (all s)

-- through a change of one reel
changed_known : (s : ℕ) (f : Reel → Reel) → ((r : Reel) → (f r).serial ≡ r.serial) → (old new : Rack) (t : ℕ) (notes : List DumpNote) → AreReels old.reels → new.reels ≡ with_reel s f old.reels
    → (s ≡ t → (r : Reel) → IsReel r → end_in 0 notes ≤ r.len → IsLike (end_in 0 notes) (Some r) (Some (f r)) × (((f r).mounted ≡ r.mounted) ⊎ ((f r).mounted ≡ true)))
    → IsKnown old t notes → IsKnown new t notes
changed_known s f keeps old new t notes reels are leaves is =
    elim (eqb_tells s t) [
      | inl h ↦ by_found h.1 (reel t old.reels) refl
      | inr h ↦ same_known old new t notes (ap (reel t) are ∙ reel-with_reel_other s t f keeps h.1 old.reels) is
    ]
  where
    up_then : (r : Reel) → ((f r).mounted ≡ r.mounted) ⊎ ((f r).mounted ≡ true) → r.mounted ≡ true → (f r).mounted ≡ true
    up_then r (inl same) up = same ∙ up
    up_then r (inr so) up = so

    found : s ≡ t → reel t new.reels ≡ option_map f (reel t old.reels)
    found at = ap (reel t) are ∙ subst (λ (n : ℕ). reel n (with_reel s f old.reels) ≡ option_map f (reel n old.reels)) at (reel-with_reel s f keeps old.reels)

    by_found : s ≡ t → (o : Option Reel) → reel t old.reels ≡ o → IsKnown new t notes
    by_found at None at_r = same_known old new t notes (found at ∙ ap (option_map f) at_r ∙ sym at_r) is
    by_found at (Some r) at_r =
        let then_is : reel t new.reels ≡ Some (f r) = found at ∙ ap (option_map f) at_r in
        let fits = is.first.fits r at_r in
        let end : end_in 0 notes ≡ end_of is.first.dumps = ap (end_in 0) is.first.notes_are ∙ end_noted 0 is.first.dumps in
        let (like, up) = leaves at r (is_reel t old.reels r reels.each at_r) (omega arith) in
        known_still old new t notes
        (subst (λ (p : Option Reel). IsLike (end_in 0 notes) (reel t old.reels) p) (sym then_is)
        (subst (λ (o : Option Reel). IsLike (end_in 0 notes) o (Some (f r))) (sym at_r) like))
        (λ was. ap is_mounted then_is ∙ up_then r up (sym (ap is_mounted at_r) ∙ was)) is

mounted_like : (e : ℕ) (is : Bool) (r : Reel) → IsLike e (Some r) (Some (with_mounted is r))
mounted_like e is r = record {
  blocks = λ new told. (new, told, refl);
  fits = λ q at. let same : with_mounted is r ≡ q = same_Some (with_mounted is r) q at in let len : r.len ≡ q.len = ap (λ (x : Reel). x.len) same in (r, refl, λ le. omega arith);
}

-- A MOUNT
pub known_mounted : (s : ℕ) (old new : Rack) (result : Result (Unit {0}) TapeFault) (lists : List NotedReel) → AreReels old.reels → Mounting refuses_mount true s old result new
    → AreKnown old lists → AreKnown new lists
known_mounted s old new (Ok u) lists reels (free, is) all = λ t.
    changed_known s (with_mounted true) (λ r. refl) old new t (noted t lists) reels (ap (λ (r : Rack). r.reels) is) (λ at r is_r fits. (mounted_like (end_in 0 (noted t lists)) true r, inr refl)) (all t)
known_mounted s old new (Err fault) lists reels (refused, is) all = λ t. same_known old new t (noted t lists) (ap (λ (r : Rack). reel t r.reels) is) (all t)

-- AN UNMOUNT, before which the reel is forgotten
others_unmounted : (s : ℕ) (old new : Rack) (result : Result (Unit {0}) TapeFault) (t : ℕ) (notes : List DumpNote) → AreReels old.reels → Mounting refuses_unmount false s old result new
    → (t ≡ s → ⊥) → IsKnown old t notes → IsKnown new t notes
others_unmounted s old new (Ok u) t notes reels (free, is) other known =
    changed_known s (with_mounted false) (λ r. refl) old new t notes reels (ap (λ (r : Rack). r.reels) is) (λ at. absurd (other (sym at))) known
others_unmounted s old new (Err fault) t notes reels (refused, is) other known = same_known old new t notes (ap (λ (r : Rack). reel t r.reels) is) known

pub known_unmounted : (s : ℕ) (old new : Rack) (result : Result (Unit {0}) TapeFault) (lists left : List NotedReel) → AreReels old.reels → Mounting refuses_unmount false s old result new
    → HasForgotten s lists left → AreKnown old lists → AreKnown new left
known_unmounted s old new result lists left reels unmounts forgotten all =
    by_reel (λ (t : ℕ). IsKnown new t (noted t left)) s (nothing_known new s (noted s left) forgotten.none)
    (λ t other. still_noted new t (noted t lists) (noted t left) (forgotten.others t other) (others_unmounted s old new result t (noted t lists) reels unmounts other (all t)))

-- A write after the end of the known dumps.
told_before : (g : List (List ℕ) → List (List ℕ)) (o : Option (List (List ℕ))) (new : List (List ℕ)) → option_map g o ≡ Some new → (old : List (List ℕ)) × (o ≡ Some old) × (g old ≡ new)
told_before g None new is = absurd (let no : ⊥ = cc in no)
told_before g (Some old) new is = (old, refl, same_Some (g old) new is)

taken_behind : (e k : ℕ) (bs left : List (List ℕ)) → e ≤ k → e ≤ length bs → take e (take k bs ++ left) ≡ take e bs
taken_behind e k bs left le long =
    let cut = length-take k bs in
    take-append-le e (take k bs) left (omega arith) ∙ take-take e k bs le

ending_like : (e k : ℕ) (block : List ℕ) (r : Reel) → IsReel r → e ≤ r.len → e ≤ k → IsLike e (Some r) (Some (ending k block r))
ending_like e k block r is fits le = record {
  blocks = λ new told.
      let (old, was, then_is) = told_before (λ (bs : List (List ℕ)). take k bs ++ block ∷ []) r.blocks new told in
      let long = is.told old was in
      (old, was, ap (take e) (sym then_is) ∙ taken_behind e k old (block ∷ []) le (omega arith));
  fits = λ q at.
      let same : ending k block r ≡ q = same_Some (ending k block r) q at in
      let len : k + 1 ≡ q.len = ap (λ (x : Reel). x.len) same in
      (r, refl, λ still. omega arith);
}

cut_like : (e k : ℕ) (r : Reel) → IsReel r → e ≤ r.len → e ≤ k → IsLike e (Some r) (Some (cut_at k r))
cut_like e k r is fits le = record {
  blocks = λ new told.
      let (old, was, then_is) = told_before (take k) r.blocks new told in
      (old, was, ap (take e) (sym then_is) ∙ take-take e k old le);
  fits = λ q at.
      let same : cut_at k r ≡ q = same_Some (cut_at k r) q at in
      let len : k ≡ q.len = ap (λ (x : Reel). x.len) same in
      (r, refl, λ still. omega arith);
}

left_serial : (how : Remains) (k : ℕ) (r : Reel) → (left_by how k r).serial ≡ r.serial
left_serial Unchanged k r = refl
left_serial Shortened k r = refl
left_serial (Torn block) k r = refl

left_like : (how : Remains) (e k : ℕ) (r : Reel) → IsReel r → e ≤ r.len → e ≤ k → IsLike e (Some r) (Some (left_by how k r)) × (((left_by how k r).mounted ≡ r.mounted) ⊎ ((left_by how k r).mounted ≡ true))
left_like Unchanged e k r is fits le = (same_like e (Some r), inl refl)
left_like Shortened e k r is fits le = (cut_like e k r is fits le, inl refl)
left_like (Torn block) e k r is fits le = (ending_like e k block r is fits le, inl refl)

module _ (s k : ℕ) (block : List ℕ) (old new : Rack) (t : ℕ) (notes : List DumpNote) (reels : AreReels old.reels) (behind : s ≡ t → end_in 0 notes ≤ k) (known : IsKnown old t notes) where
  by_change : (f : Reel → Reel) → ((r : Reel) → (f r).serial ≡ r.serial) → new.reels ≡ with_reel s f old.reels
      → ((e : ℕ) (r : Reel) → IsReel r → e ≤ r.len → e ≤ k → IsLike e (Some r) (Some (f r)) × (((f r).mounted ≡ r.mounted) ⊎ ((f r).mounted ≡ true)))
      → IsKnown new t notes
  by_change f keeps are leaves = changed_known s f keeps old new t notes reels are (λ at r is_r fits. leaves (end_in 0 notes) r is_r fits (behind at)) known

  by_nothing : new ≡ old → IsKnown new t notes
  by_nothing is = same_known old new t notes (ap (λ (r : Rack). reel t r.reels) is) known

  pub known_behind : (result : Result (Unit {0}) TapeFault) → Writing s k block old result new → IsKnown new t notes
  known_behind (Ok u) (free, fuse, is) =
      by_change (ending k block) (λ r. refl) (ap (λ (r : Rack). r.reels) is) (λ e r is_r fits le. (ending_like e k block r is_r fits le, inl refl))
  known_behind (Err tape.WriteFailed) (free, rose, left) =
      by_change (left_by left.0 k) (left_serial left.0 k) (ap (λ (r : Rack). r.reels) left.1) (λ e r is_r fits le. left_like left.0 e k r is_r fits le)
  known_behind (Err tape.ReadFailed) wrong = absurd wrong
  known_behind (Err tape.NoTape) (refused, is) = by_nothing is
  known_behind (Err tape.NotMounted) (refused, is) = by_nothing is
  known_behind (Err tape.End) (refused, is) = by_nothing is

pub known_written : (s k : ℕ) (block : List ℕ) (old new : Rack) (result : Result (Unit {0}) TapeFault) (lists left : List NotedReel) → AreReels old.reels → Writing s k block old result new
    → HasWritten s k lists left → AreKnown old lists → AreKnown new left
known_written s k block old new result lists left reels writes written all =
    by_reel (λ (t : ℕ). IsKnown new t (noted t left)) s (here (cases_lt k (end_in 0 (noted s lists))))
    (λ t other. still_noted new t (noted t lists) (noted t left) (written.others t other) (known_behind s k block old new t (noted t lists) reels (λ at. absurd (other (sym at))) (all t) result writes))
  where
    here : (k < end_in 0 (noted s lists)) ⊎ (end_in 0 (noted s lists) ≤ k) → IsKnown new s (noted s left)
    here (inl less) = nothing_known new s (noted s left) (written.forgets less)
    here (inr le) = still_noted new s (noted s lists) (noted s left) (written.stays le) (known_behind s k block old new s (noted s lists) reels (λ at. le) (all s) result writes)

-- THE PLACE of a reel's list
pub noted_nowhere : (s : ℕ) (lists : List NotedReel) → HasNone s lists → noted s lists ≡ []
noted_nowhere s [] other = refl
noted_nowhere s (l ∷ ls) other =
    let differs : (s == l.serial) ≡ false = ne_eqb s l.serial (λ e. other 0 l (omega arith) (sym e)) in
    cond-false (s == l.serial) l.notes.items (noted s ls) differs ∙ noted_nowhere s ls (λ k d h. other (suc k) d (omega (arith, h)))

pub place_first : (s : ℕ) (lists : List NotedReel) (i : ℕ) → i < length lists → ((d : NotedReel) → (get_or lists i d).serial ≡ s)
    → ((k : ℕ) (d : NotedReel) → k < i → (get_or lists k d).serial ≡ s → ⊥) → IsPlaceIn s lists i
place_first s [] i within here before = elim within [ ]
place_first s (l ∷ ls) zero within here before =
    let same : (s == l.serial) ≡ true = eq-eqb s l.serial (sym (here l)) in
    record {
      within = within;
      named = here;
      there = λ d. cond-true (s == l.serial) l.notes.items (noted s ls) same;
      change = λ new named. cond-true (s == new.serial) new.notes.items (noted s ls) (eq-eqb s new.serial (sym named));
      others = λ new named t other.
          cond-false (t == new.serial) new.notes.items (noted t ls) (ne_eqb t new.serial (λ e. other (e ∙ named)))
          ∙ sym (cond-false (t == l.serial) l.notes.items (noted t ls) (ne_eqb t l.serial (λ e. other (e ∙ here l))));
    }
place_first s (l ∷ ls) (suc i) within here before =
    let differs : (s == l.serial) ≡ false = ne_eqb s l.serial (λ e. before 0 l (omega arith) (sym e)) in
    let rest = place_first s ls i (omega (arith, within)) here (λ k d h. before (suc k) d (omega (arith, h))) in
    record {
      within = within;
      named = here;
      there = λ d. cond-false (s == l.serial) l.notes.items (noted s ls) differs ∙ rest.there d;
      change = λ new named. cond-false (s == l.serial) l.notes.items (noted s (set ls i new)) differs ∙ rest.change new named;
      others = λ new named t other. ap (λ (ns : List DumpNote). if t == l.serial then l.notes.items else ns) (rest.others new named t other);
    }

-- A list appended to the others.
pub noted_behind : (s : ℕ) (lists : List NotedReel) (new : NotedReel) → HasNone s lists → new.serial ≡ s → noted s (lists ++ new ∷ []) ≡ new.notes.items
noted_behind s [] new other named = cond-true (s == new.serial) new.notes.items [] (eq-eqb s new.serial (sym named))
noted_behind s (l ∷ ls) new other named =
    let differs : (s == l.serial) ≡ false = ne_eqb s l.serial (λ e. other 0 l (omega arith) (sym e)) in
    cond-false (s == l.serial) l.notes.items (noted s (ls ++ new ∷ [])) differs ∙ noted_behind s ls new (λ k d h. other (suc k) d (omega (arith, h))) named

pub others_before : (s : ℕ) (lists : List NotedReel) (new : NotedReel) → new.serial ≡ s → OthersStay s lists (lists ++ new ∷ [])
others_before s [] new named t other = cond-false (t == new.serial) new.notes.items [] (ne_eqb t new.serial (λ e. other (e ∙ named)))
others_before s (l ∷ ls) new named t other = ap (λ (ns : List DumpNote). if t == l.serial then l.notes.items else ns) (others_before s ls new named t other)

-- What a query leaves remembered, if the reel had a list;
pub forgotten_at : (s i : ℕ) (lists : List NotedReel) (new : NotedReel) → IsPlaceIn s lists i → new.serial ≡ s → new.notes.items ≡ [] → HasForgotten s lists (set lists i new)
forgotten_at s i lists new place named none = record { none = place.change new named ∙ none; others = place.others new named }

pub forgotten_nowhere : (s : ℕ) (lists : List NotedReel) → HasNone s lists → HasForgotten s lists lists
forgotten_nowhere s lists other = record { none = noted_nowhere s lists other; others = λ t differs. refl }

pub read_on_at : (s i : ℕ) (lists : List NotedReel) (was new : NotedReel) → IsPlaceIn s lists i → was ≡ get_or lists i was → new.serial ≡ s → GoesOn was.notes.items new.notes.items
    → HasReadOn s lists (set lists i new)
read_on_at s i lists was new place is named goes = record {
  more = (goes.0, place.change new named ∙ goes.1 ∙ ap (λ (ns : List DumpNote). ns ++ goes.0) (sym (place.there was ∙ ap (λ (l : NotedReel). l.notes.items) (sym is))));
  others = place.others new named;
}

-- and if it had none.
pub read_on_behind : (s : ℕ) (lists : List NotedReel) (new : NotedReel) → HasNone s lists → new.serial ≡ s → HasReadOn s lists (lists ++ new ∷ [])
read_on_behind s lists new other named = record {
  more = (new.notes.items, noted_behind s lists new other named ∙ ap (λ (ns : List DumpNote). ns ++ new.notes.items) (sym (noted_nowhere s lists other)));
  others = others_before s lists new named;
}

pub nothing_more : (s : ℕ) (lists : List NotedReel) → HasReadOn s lists lists
nothing_more s lists = record { more = ([], sym (append-nil (noted s lists))); others = λ t other. refl }

-- All lists remain valid if only reads happened and more dumps of this reel are known.
pub known_read_on : (s : ℕ) (lists new_lists : List NotedReel) (notes : List DumpNote) (old new : Rack) → HasReadOn s lists new_lists → noted s new_lists ≡ notes → OnlyReads old new
    → IsKnown new s notes → AreKnown old lists → AreKnown new new_lists
known_read_on s lists new_lists notes old new so are only known all =
    by_reel (λ (t : ℕ). IsKnown new t (noted t new_lists)) s (still_noted new s notes (noted s new_lists) are known)
    (λ t other. still_noted new t (noted t lists) (noted t new_lists) (so.others t other) (known_after_reads old new only t (noted t lists) (all t)))

-- what is known of the list at its place
pub known_at : (rack : Rack) (s i : ℕ) (lists : List NotedReel) (was : NotedReel) → IsPlaceIn s lists i → was ≡ get_or lists i was → AreKnown rack lists → IsKnown rack was.serial was.notes.items
known_at rack s i lists was place is all =
    let named : was.serial ≡ s = ap (λ (l : NotedReel). l.serial) is ∙ place.named was in
    let there : was.notes.items ≡ noted s lists = sym (place.there was ∙ ap (λ (l : NotedReel). l.notes.items) (sym is)) in
    subst (λ (n : ℕ). IsKnown rack n was.notes.items) (sym named) (still_noted rack s (noted s lists) was.notes.items there (all s))

pub fills_at : (s i : ℕ) (lists : List NotedReel) (was new_list : NotedReel) (result : Result (Unit {0}) ShelfFault) (old new : Rack) → IsPlaceIn s lists i → was ≡ get_or lists i was → AreKnown old lists
    → ReadsReel was.serial result old new → new_list.serial ≡ was.serial → GoesOn was.notes.items new_list.notes.items → IsKnown new was.serial new_list.notes.items
    → OnOk result (IsNoted was.serial old new_list.notes.items) → Fills s result old lists new (set lists i new_list)
fills_at s i lists was new_list result old new place is all reads serial goes known all_noted =
    let named : was.serial ≡ s = ap (λ (l : NotedReel). l.serial) is ∙ place.named was in
    let now_named : new_list.serial ≡ s = serial ∙ named in
    let so : HasReadOn s lists (set lists i new_list) = read_on_at s i lists was new_list place is now_named goes in
    let there = place.change new_list now_named in
    record {
      reads = subst (λ (n : ℕ). ReadsReel n result old new) named reads;
      noted = subst (λ (ns : List DumpNote). OnOk result (IsNoted s old ns)) (sym there)
          (subst (λ (n : ℕ). OnOk result (IsNoted n old new_list.notes.items)) named all_noted);
      known = known_read_on s lists (set lists i new_list) new_list.notes.items old new so there reads.only (subst (λ (n : ℕ). IsKnown new n new_list.notes.items) named known) all;
      more = so;
    }

pub fills_behind : (s : ℕ) (lists new_lists : List NotedReel) (new_list : NotedReel) (result : Result (Unit {0}) ShelfFault) (old new : Rack) → HasNone s lists → AreKnown old lists
    → ReadsReel s result old new → new_list.serial ≡ s → IsKnown new s new_list.notes.items → OnOk result (IsNoted s old new_list.notes.items) → new_lists ≡ lists ++ new_list ∷ []
    → Fills s result old lists new new_lists
fills_behind s lists new_lists new_list result old new other all reads named known all_noted is =
    let so : HasReadOn s lists (lists ++ new_list ∷ []) = read_on_behind s lists new_list other named in
    let there = noted_behind s lists new_list other named in
    subst (λ (ls : List NotedReel). Fills s result old lists new ls) (sym is) (record {
      reads = reads;
      noted = subst (λ (ns : List DumpNote). OnOk result (IsNoted s old ns)) (sym there) all_noted;
      known = known_read_on s lists (lists ++ new_list ∷ []) new_list.notes.items old new so there reads.only known all;
      more = so;
    })

pub fills_unkept : (s : ℕ) (lists new_lists : List NotedReel) (read result : Result (Unit {0}) ShelfFault) (old new : Rack) → AreKnown old lists → ReadsReel s read old new
    → OnOk read (result ≡ Err NoMemory) → OnErr read (result ≡ read) → new_lists ≡ lists → Fills s result old lists new new_lists
fills_unkept s lists new_lists (Ok u) result old new all reads ok err is =
    subst (λ (ls : List NotedReel). Fills s result old lists new ls) (sym is) (record {
      reads = subst (λ (r : Result (Unit {0}) ShelfFault). ReadsReel s r old new) (sym ok) (starved s u old old new (nothing_read old) refl reads);
      noted = subst (λ (r : Result (Unit {0}) ShelfFault). OnOk r (IsNoted s old (noted s lists))) (sym ok) tt;
      known = all_after_reads old new lists reads.only all;
      more = nothing_more s lists;
    })
fills_unkept s lists new_lists (Err fault) result old new all reads ok err is =
    subst (λ (ls : List NotedReel). Fills s result old lists new ls) (sym is) (record {
      reads = subst (λ (r : Result (Unit {0}) ShelfFault). ReadsReel s r old new) (sym err) reads;
      noted = subst (λ (r : Result (Unit {0}) ShelfFault). OnOk r (IsNoted s old (noted s lists))) (sym err) tt;
      known = all_after_reads old new lists reads.only all;
      more = nothing_more s lists;
    })

-- Reading on from the end of the known dumps.
pub record ReadOn (serial at least : ℕ) (start notes : List DumpNote) (old new : Rack) : Type 0 where
  pub first : AreFirst (reel serial old.reels) serial notes
  pub end_is : at ≡ end_in 0 notes
  pub least_is : least ≡ number_in 0 notes
  pub more : GoesOn start notes
  pub up : (notes ≡ start) ⊎ (is_mounted (reel serial old.reels) ≡ true)
  pub only : OnlyReads old new
  pub kept : new.read_faults ≡ old.read_faults

pub first_low : (o : Option Reel) (serial : ℕ) (notes : List DumpNote) → AreFirst o serial notes → end_in 0 notes ≤ 65536
first_low o serial notes first =
    let end : end_in 0 notes ≡ end_of first.dumps = ap (end_in 0) first.notes_are ∙ end_noted 0 first.dumps in
    let low = first.low in omega arith

pub first_number : (o : Option Reel) (serial : ℕ) (notes : List DumpNote) → AreFirst o serial notes → number_in 0 notes ≤ 2 ^ 62
first_number o serial notes first =
    let number : number_in 0 notes ≡ number_behind 0 first.dumps = ap (number_in 0) first.notes_are ∙ number_noted 0 first.dumps in
    let low = number_low serial 0 0 first.dumps (omega arith) first.row in omega arith

end_and : (at : ℕ) (ns : List DumpNote) (n : DumpNote) → end_in at (ns ++ n ∷ []) ≡ n.place + (n.count + 2)
end_and at [] n = refl
end_and at (m ∷ ms) n = end_and (m.place + (m.count + 2)) ms n

number_and : (from : ℕ) (ns : List DumpNote) (n : DumpNote) → number_in from (ns ++ n ∷ []) ≡ n.number + 1
number_and from [] n = refl
number_and from (m ∷ ms) n = number_and (m.number + 1) ms n

up_if_read : (o : Option Reel) → (refuses_unmount o ≡ Some tape.NoTape → ⊥) → (refuses_unmount o ≡ Some tape.NotMounted → ⊥) → is_mounted o ≡ true
up_if_read None no_tape not_mounted = absurd (no_tape refl)
up_if_read (Some r) no_tape not_mounted = by_mounted (cases_Bool r.mounted)
  where
    by_mounted : (r.mounted ≡ true) ⊎ (r.mounted ≡ false) → r.mounted ≡ true
    by_mounted (inl up) = up
    by_mounted (inr down) = absurd (not_mounted (cond-false r.mounted None (Some tape.NotMounted) down))

read_is_up : {A : Type 0} (serial : ℕ) (x : A) (old mid new : Rack) → OnlyReads old mid → ReadsReel serial (Ok x) mid new → is_mounted (reel serial old.reels) ≡ true
read_is_up serial x old mid new only reads =
    let up : is_mounted (reel serial mid.reels) ≡ true = up_if_read (reel serial mid.reels)
    (λ is. let wrong = reads.no_tape.1 is in let no : ⊥ = cc in no)
    (λ is. let wrong = reads.not_mounted.1 is in let no : ⊥ = cc in no) in
    sym (mounted-unread (reel serial old.reels)) ∙ sym (ap is_mounted (reel_after_reads serial old mid only)) ∙ mounted-unread (reel serial mid.reels) ∙ up

pub one_read_on : {A : Type 0} (serial at least : ℕ) (start notes then_notes : List DumpNote) (dir : DumpDir) (old mid new : Rack) (x : A)
    → ReadOn serial at least start notes old mid → ReadsReel serial (Ok x) mid new → IsNextDump serial at least mid new dir
    → dir.note.place + dir.note.count + 2 ≤ 65536 → then_notes ≡ notes ++ dir.note ∷ [] → ReadOn serial (dir.note.place + dir.note.count + 2) (dir.note.number + 1) start then_notes old new
one_read_on serial at least start notes then_notes dir old mid new x so reads next low then_is =
    let found = next.found in
    let d : Dump = found.dump in
    let end : end_in 0 notes ≡ end_of so.first.dumps = ap (end_in 0) so.first.notes_are ∙ end_noted 0 so.first.dumps in
    let number : number_in 0 notes ≡ number_behind 0 so.first.dumps = ap (number_in 0) so.first.notes_are ∙ number_noted 0 so.first.dumps in
    let end_is = so.end_is in
    let least_is = so.least_is in
    let from = next.number in
    let place_is : dir.note.place ≡ d.place = found.dir_is.note.place in
    let count_is : dir.note.count ≡ count_of d = found.dir_is.note.count in
    let number_is : dir.note.number ≡ d.number = found.dir_is.note.number in
    let note_is : dir.note ≡ note_of d = same_note d dir.note found.dir_is.note in
    let ends_is : end_of (so.first.dumps ++ d ∷ []) ≡ ends d = end_then 0 so.first.dumps d in
    record {
      first = record {
        dumps = so.first.dumps ++ d ∷ [];
        notes_are = then_is ∙ ap (λ (ns : List DumpNote). ns ++ dir.note ∷ []) so.first.notes_are ∙ ap (λ (n : DumpNote). map note_of so.first.dumps ++ n ∷ []) note_is ∙ sym (map_push note_of so.first.dumps d);
        row = row_then serial 0 0 so.first.dumps d so.first.row (record { on = found.on; place = found.at ∙ end_is ∙ end; number = omega arith; rules = found.rules });
        stand = λ blocks told.
            All-push (StandsOn blocks) so.first.dumps d (so.first.stand blocks told) (found.stands blocks (blocks_after_reads serial old mid so.only ∙ told));
        fits = λ r at_r.
            let fits = len-unread (reel serial mid.reels) (reel serial old.reels) (ends d) (reel_after_reads serial old mid so.only) found.fits r at_r in
            omega arith;
        low = omega arith;
      };
      end_is = (let e : dir.note.place + dir.note.count + 2 ≡ dir.note.place + (dir.note.count + 2) = omega arith in e) ∙ sym (end_and 0 notes dir.note) ∙ ap (end_in 0) (sym then_is);
      least_is = sym (number_and 0 notes dir.note) ∙ ap (number_in 0) (sym then_is);
      more = (
        so.more.0 ++ dir.note ∷ [],
        then_is ∙ ap (λ (ns : List DumpNote). ns ++ dir.note ∷ []) so.more.1 ∙ append_assoc start so.more.0 (dir.note ∷ []),
      );
      up = inr (read_is_up serial x old mid new so.only reads);
      only = more_reads old mid new so.only reads.only;
      kept = reads.kept (λ wrong. let no : ⊥ = cc in no) ∙ so.kept;
    }

-- If no dump follows them, they are all the dumps.
all_next : (serial : ℕ) (blocks : List (List ℕ)) (at from : ℕ) (ds : List Dump) → AreInRow serial at from ds → All (StandsOn blocks) ds
    → ((d : Dump) → IsNext serial blocks (end_behind at ds) (number_behind from ds) d → ⊥) → AreNext serial blocks at from ds
all_next serial blocks at from [] row all none = none
all_next serial blocks at from (d ∷ ds) row all none = (
  record { on = row.0.on; place = row.0.place; number = row.0.number; stands = All-head (StandsOn blocks) d ds all },
  all_next serial blocks (ends d) (d.number + 1) ds row.1 (All-tail (StandsOn blocks) d ds all) none,
)

module _ {A : Type 0} (serial at least : ℕ) (start notes : List DumpNote) (old mid new : Rack) (x : A) (so : ReadOn serial at least start notes old mid) (reads : ReadsReel serial (Ok x) mid new) where
  pub all_noted : ForSome (blocks_of serial mid) (λ blocks. (d : Dump) → IsNext serial blocks at least d → ⊥) → IsNoted serial old notes
  all_noted none =
      let end : at ≡ end_of so.first.dumps = so.end_is ∙ ap (end_in 0) so.first.notes_are ∙ end_noted 0 so.first.dumps in
      let number : least ≡ number_behind 0 so.first.dumps = so.least_is ∙ ap (number_in 0) so.first.notes_are ∙ number_noted 0 so.first.dumps in
      record {
        dumps = so.first.dumps;
        notes_are = so.first.notes_are;
        found = record {
          row = so.first.row;
          completed = λ blocks told. record {
            are = all_next serial blocks 0 0 so.first.dumps so.first.row (so.first.stand blocks told)
                (λ d next. none blocks (blocks_after_reads serial old mid so.only ∙ told) d
                (subst (λ (n : ℕ). IsNext serial blocks at n d) (sym number) (subst (λ (n : ℕ). IsNext serial blocks n (number_behind 0 so.first.dumps) d) (sym end) next)));
          };
          fits = so.first.fits;
        };
      }

-- however it ends, what was read so far is known
pub known_so_far : (serial at least : ℕ) (start notes : List DumpNote) (old mid new : Rack) → ReadOn serial at least start notes old mid → OnlyReads mid new → IsKnown old serial start → IsKnown new serial notes
known_so_far serial at least start notes old mid new so only known =
    let before : IsKnown old serial notes = record {
      first = so.first;
      mounted = elim so.up [
        | inl same ↦ elim known.mounted [ inl none ↦ inl (same ∙ none) | inr was ↦ inr was ]
        | inr up ↦ inr up
      ];
    } in
    known_after_reads old new (more_reads old mid new so.only only) serial notes before

-- WHAT IS HELD by the dumps that were found lies on the reel
pub held_fits : (copy : TapeCopy) (blocks : ℕ) (dumps : List Dump) (rack : Rack) → AreFound copy.serial dumps rack → 0 < blocks → AreHeld dumps copy blocks
    → ForSome (reel copy.serial rack.reels) (λ r. copy.first + blocks ≤ r.len)
held_fits copy blocks dumps rack found some held r here =
    let lies = held_in_row copy.serial dumps copy blocks found.row some held in
    let to = lies.to in
    let most = (in_row copy.serial 0 0 dumps found.row lies.dump lies.there).most in
    let fits = found.fits r here in
    omega arith

-- and the dumps end on it
pub noted_end : (serial : ℕ) (rack : Rack) (notes : List DumpNote) (noted : IsNoted serial rack notes) → end_in 0 notes ≡ end_of noted.dumps
noted_end serial rack notes noted = ap (end_in 0) noted.notes_are ∙ end_noted 0 noted.dumps

pub found_low : {A : Type 0} (serial : ℕ) (x : A) (dumps : List Dump) (old new : Rack) → AreReels old.reels → ReadsReel serial (Ok x) old new → AreFound serial dumps old → end_of dumps ≤ 65536
found_low serial x dumps old new reels reads found = reel_low serial (end_of dumps) x old new reels reads found.fits

-- THE REELS LISTED SO FAR
noted_before : (serial : ℕ) (old mid : Rack) (notes : List DumpNote) → OnlyReads old mid → IsNoted serial mid notes → IsNoted serial old notes
noted_before serial old mid notes only noted = record {
  dumps = noted.dumps;
  notes_are = noted.notes_are;
  found = record {
    row = noted.found.row;
    completed = λ blocks told. noted.found.completed blocks (blocks_after_reads serial old mid only ∙ told);
    fits = len-unread (reel serial mid.reels) (reel serial old.reels) (end_of noted.dumps) (reel_after_reads serial old mid only) noted.found.fits;
  };
}

pub record ListedSoFar (i : ℕ) (lists : List Listed) (old new : Rack) : Type 0 where
  pub serials : map (λ l. l.serial) lists ≡ map (λ r. r.serial) (take i old.reels)
  pub each : All (IsListed old) lists
  pub only : OnlyReads old new
  pub kept : new.read_faults ≡ old.read_faults

pub none_listed : (rack : Rack) → ListedSoFar 0 [] rack rack
none_listed rack = record { serials = refl; each = All-nil (IsListed rack); only = nothing_read rack; kept = refl }

pub one_listed : (i : ℕ) (lists now : List Listed) (list : Listed) (old mid new : Rack) → AreReels old.reels → ListedSoFar i lists old mid → i < length old.reels
    → slice_get (map (λ (r : Reel). r.serial) mid.reels) i ≡ Some list.serial → IsNoted list.serial mid list.notes → OnlyReads mid new → new.read_faults ≡ mid.read_faults
    → now ≡ lists ++ list ∷ [] → ListedSoFar (i + 1) now old new
one_listed i lists now list old mid new are so inside named noted only kept now_is =
    let (r, at_i) = reel_at old mid i list.serial are so.only inside named in
    record {
      serials =
          ap (map (λ (l : Listed). l.serial)) now_is ∙ map_push (λ (l : Listed). l.serial) lists list
          ∙ ap (λ (ns : List ℕ). ns ++ list.serial ∷ []) so.serials
          ∙ ap (λ (n : ℕ). map (λ (q : Reel). q.serial) (take i old.reels) ++ n ∷ []) (sym at_i.named)
          ∙ sym (map_push (λ (q : Reel). q.serial) (take i old.reels) r)
          ∙ ap (map (λ (q : Reel). q.serial)) (sym at_i.next);
      each = subst (All (IsListed old)) (sym now_is) (All-push (IsListed old) lists list so.each (noted_before list.serial old mid list.notes so.only noted));
      only = more_reads old mid new so.only only;
      kept = kept ∙ so.kept;
    }

pub all_listed : (i : ℕ) (lists : List Listed) (old new : Rack) → length old.reels ≤ i → ListedSoFar i lists old new → AreListed old lists
all_listed i lists old new le so = record { serials = so.serials ∙ ap (map (λ (r : Reel). r.serial)) (take_all i old.reels le); each = so.each }
