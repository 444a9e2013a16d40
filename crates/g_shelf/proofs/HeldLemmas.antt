-- Held blocks lie in the content of one dump, whose note says so.
-- serves: find_copy (fits), is_held, lib, crates above
use Rattle.std.proofs.Common.{◌≡◌, ◌⊎◌, ◌↔◌, ℕ, zero, suc, ◌+◌, ◌-◌, ◌<◌, ◌≤◌, Bool, List, [], ◌∷◌, length, refl, sym, ap, arith, inl, inr, map, subst}
use Rattle.std.specs.Prelude.{Contains, IsTrue}
use Rattle.std.specs.Option.{ForSome}
use Rattle.std.proofs.lemmas.Bool.{cases_lt}
use Rattle.g_entry.specs.declared.file_rec.TapeCopy.{TapeCopy}
use Rattle.g_tape.specs.Rack.{Rack, reel}
use Rattle.g_incr.specs.declared.note.DumpNote.{DumpNote}
use Rattle.g_incr.specs.Layout.{Dump, content_at, count_of, ends}
use Rattle.g_shelf.specs.FoundDumps.{AreInRow, AreRead, note_of}
use Rattle.g_shelf.specs.HeldBlocks.{AreHeld, AreInOne, HeldInOne, IsContentBlock}
use Rattle.g_shelf.specs.ReaderSteps.{AnyHolds}
use Rattle.g_shelf.proofs.RowLemmas.{apart_in_row, in_row, row_of}

-- The block after a dump's content is its mark, and so isn't content of any dump.
no_mark_held : (serial : ℕ) (ds : List Dump) → AreInRow serial 0 0 ds → (d : Dump) → Contains ds d → (s k : ℕ) → k ≡ content_at d + length d.content → IsContentBlock ds s k → ⊥
no_mark_held serial ds row d there s k is held = by_place (apart_in_row serial 0 0 ds row d held.dump there held.there)
  where
    by_place : (d ≡ held.dump) ⊎ ((ends d ≤ held.dump.place) ⊎ (ends held.dump ≤ d.place)) → ⊥
    by_place (inl same) =
        let to = held.to in
        let mark : content_at d + length d.content ≡ content_at held.dump + length held.dump.content = ap (λ (e : Dump). content_at e + length e.content) same in
        let no : ⊥ = omega arith in no
    by_place (inr (inl behind)) = let from = held.from in let no : ⊥ = omega (arith, behind) in no
    by_place (inr (inr before)) = let to = held.to in let no : ⊥ = omega (arith, before) in no

pub held_in_row : (serial : ℕ) (ds : List Dump) (copy : TapeCopy) (blocks : ℕ) → AreInRow serial 0 0 ds → 0 < blocks → AreHeld ds copy blocks → AreInOne ds copy blocks
held_in_row serial ds copy blocks row some held =
    by_end (cases_lt (content_at first.dump + length first.dump.content) (copy.first + blocks))
  where
    first : IsContentBlock ds copy.serial (copy.first + 0)
    first = held 0 some

    by_end : (content_at first.dump + length first.dump.content < copy.first + blocks) ⊎ (copy.first + blocks ≤ content_at first.dump + length first.dump.content) → AreInOne ds copy blocks
    by_end (inl past) =
        let k : ℕ = (content_at first.dump + length first.dump.content) - copy.first in
        let to = first.to in
        let mark : copy.first + k ≡ content_at first.dump + length first.dump.content = omega arith in
        let no : ⊥ = no_mark_held serial ds row first.dump first.there copy.serial (copy.first + k) mark (held k (omega (arith, past))) in
        absurd no
    by_end (inr fits) = let from = first.from in record { dump = first.dump; there = first.there; on = first.on; from = omega arith; to = fits }

pub held_in_one : HeldInOne
held_in_one serial reel dumps copy blocks are some held = held_in_row serial dumps copy blocks (row_of serial reel 0 0 dumps are.are) some held

-- a note is that of a dump
noted : (ds : List Dump) (n : DumpNote) → Contains (map note_of ds) n → (d : Dump) × Contains ds d × (n ≡ note_of d)
noted [] n (i, within, is) = let no : ⊥ = omega (arith, within) in absurd no
noted (d ∷ ds) n (zero, within, is) = (d, (0, omega arith, refl), sym is)
noted (d ∷ ds) n (suc i, within, is) =
    let (e, (j, inside, at_j), n_is) = noted ds n (i, omega (arith, within), is) in
    (e, (suc j, omega (arith, inside), at_j), n_is)

has_note : (ds : List Dump) (d : Dump) → Contains ds d → Contains (map note_of ds) (note_of d)
has_note [] d (i, within, is) = let no : ⊥ = omega (arith, within) in absurd no
has_note (e ∷ es) d (zero, within, is) = (0, omega arith, ap note_of is)
has_note (e ∷ es) d (suc i, within, is) =
    let (j, inside, at_j) = has_note es d (i, omega (arith, within), is) in
    (suc j, omega (arith, inside), at_j)

-- the test of the notes is that of the dumps
pub copy_found : (ds : List Dump) (notes : List DumpNote) (copy : TapeCopy) (blocks : ℕ) (is : Bool) → (blocks ≡ 0 → ⊥) → (IsTrue is ↔ AnyHolds notes copy.first blocks)
    → notes ≡ map note_of ds → AreInRow copy.serial 0 0 ds → IsTrue is ↔ AreHeld ds copy blocks
copy_found ds notes copy blocks is some tests notes_are row = (λ yes_is. each (tests.0 yes_is), λ held. tests.1 (one held))
  where
    each : AnyHolds notes copy.first blocks → AreHeld ds copy blocks
    each any k below =
        let (d, there, same) = noted ds any.note (subst (λ (ns : List DumpNote). Contains ns any.note) notes_are any.there) in
        let place : any.note.place ≡ d.place = ap (λ (n : DumpNote). n.place) same in
        let count : any.note.count ≡ count_of d = ap (λ (n : DumpNote). n.count) same in
        let users : any.note.users ≡ length d.users = ap (λ (n : DumpNote). n.users) same in
        let files : any.note.files ≡ length d.files = ap (λ (n : DumpNote). n.files) same in
        let from = any.holds.from in
        let to = any.holds.to in
        record { dump = d; there = there; on = (in_row copy.serial 0 0 ds row d there).on; from = omega arith; to = omega (arith, below) }

    one : AreHeld ds copy blocks → AnyHolds notes copy.first blocks
    one held =
        let lies = held_in_row copy.serial ds copy blocks row (omega (arith, some)) held in
        let from = lies.from in
        let to = lies.to in
        record {
          note = note_of lies.dump;
          there = subst (λ (ns : List DumpNote). Contains ns (note_of lies.dump)) (sym notes_are) (has_note ds lies.dump lies.there);
          holds = record { from = omega arith; to = omega arith };
        }

-- and what is held lies on the reel
pub held_fits : (copy : TapeCopy) (blocks : ℕ) (dumps : List Dump) (old new : Rack) → AreRead copy.serial dumps old new → 0 < blocks → AreHeld dumps copy blocks
    → ForSome (reel copy.serial old.reels) (λ r. copy.first + blocks ≤ r.len)
held_fits copy blocks dumps old new read some held r here =
    let lies = held_in_row copy.serial dumps copy blocks read.row some held in
    let to = lies.to in
    let most = (in_row copy.serial 0 0 dumps read.row lies.dump lies.there).most in
    let fits = read.fits r here in
    omega arith
