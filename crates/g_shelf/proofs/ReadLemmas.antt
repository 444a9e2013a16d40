-- What the readers of a reel return, and where the dumps that were read end.
-- serves: end_of (end, fits), next_dump (low, none), read_reel (reads), LastLemmas, RackLemmas, WalkLemmas, crates above
use Rattle.std.proofs.Common.{◌≡◌, ◌↔◌, ℕ, ◌+◌, ◌-◌, ◌<◌, ◌≤◌, List, length, Option, Some, None, Result, Ok, Err, refl, sym, ◌∙◌, ap, arith, slice_get, subst, map}
use Rattle.std.specs.Prelude.{option_map}
use Rattle.std.specs.Option.{ForSome}
use Rattle.std.proofs.lemmas.List.{length-map}
use Rattle.std.proofs.lemmas.Option.{same_Some, slice_get-map}
use Rattle.g_base.specs.Counts.{Rose}
use Rattle.g_tape.specs.declared.fault.TapeFault.TheVariants as tape
use Rattle.g_tape.specs.Rack.{AreReels, Rack, reel, refuses_unmount}
use Rattle.g_tape.specs.Reads.{OnlyReads, blocks_of, unread}
use Rattle.g_tape.specs.Reel.{Reel}
use Rattle.g_tape.proofs.ReadLemmas.{is_reel, more_reads, read_then, reel_after_reads, then_read}
use Rattle.g_incr.specs.declared.fault.ShelfFault.{ShelfFault}
use Rattle.g_incr.specs.declared.fault.ShelfFault.TheVariants.{NoTape, NotMounted, ReadFault, NoMemory}
use Rattle.g_incr.specs.declared.note.DumpDir.{DumpDir}
use Rattle.g_incr.specs.declared.note.DumpNote.{DumpNote}
use Rattle.g_incr.specs.Layout.{Dump, count_of}
use Rattle.g_incr.specs.Reading.{HasReadDump, IsFound, ReadsReel}
use Rattle.g_shelf.specs.CompletedDumps.{IsNext, end_of}
use Rattle.g_shelf.specs.FoundDumps.{AreInRow, AreRead, note_of}
use Rattle.g_shelf.proofs.OneLemmas.{same_next}
use Rattle.g_shelf.proofs.RowLemmas.{top}

-- A reel for which neither refusal applies exists.
stands_there : (o : Option Reel) → (refuses_unmount o ≡ Some tape.NoTape → ⊥) → (refuses_unmount o ≡ Some tape.NotMounted → ⊥) → (r : Reel) × (o ≡ Some r)
stands_there None no_tape not_mounted = absurd (no_tape refl)
stands_there (Some r) no_tape not_mounted = (r, refl)

pub there : {A : Type 0} (serial : ℕ) (x : A) (old new : Rack) → ReadsReel serial (Ok x) old new → (r : Reel) × (reel serial old.reels ≡ Some r)
there serial x old new reads =
    stands_there (reel serial old.reels)
    (λ is. let wrong = reads.no_tape.1 is in let no : ⊥ = cc in no)
    (λ is. let wrong = reads.not_mounted.1 is in let no : ⊥ = cc in no)

-- Reads preserve refusals.
refuses-unread : (o : Option Reel) → refuses_unmount (option_map unread o) ≡ refuses_unmount o
refuses-unread None = refl
refuses-unread (Some r) = refl

pub refuses_after_reads : (s : ℕ) (old new : Rack) → OnlyReads old new → refuses_unmount (reel s new.reels) ≡ refuses_unmount (reel s old.reels)
refuses_after_reads s old new only = sym (refuses-unread (reel s new.reels)) ∙ ap refuses_unmount (reel_after_reads s old new only) ∙ refuses-unread (reel s old.reels)

-- Reads without a fault, followed by a call of a reader that may fail.
and_reads : {A B : Type 0} (serial : ℕ) (a : Result A ShelfFault) (b : Result B ShelfFault) (old mid new : Rack) → OnlyReads old mid → mid.read_faults ≡ old.read_faults
    → ((b ≡ Err NoTape) ↔ (a ≡ Err NoTape)) → ((b ≡ Err NotMounted) ↔ (a ≡ Err NotMounted)) → ((b ≡ Err ReadFault) ↔ (a ≡ Err ReadFault))
    → ReadsReel serial a mid new → ReadsReel serial b old new
and_reads serial a b old mid new only kept no_tape not_mounted fault reads =
    let same = refuses_after_reads serial old mid only in
    record {
      only = more_reads old mid new only reads.only;
      no_tape = (λ is. sym same ∙ reads.no_tape.0 (no_tape.0 is), λ is. no_tape.1 (reads.no_tape.1 (same ∙ is)));
      not_mounted = (λ is. sym same ∙ reads.not_mounted.0 (not_mounted.0 is), λ is. not_mounted.1 (reads.not_mounted.1 (same ∙ is)));
      kept = λ other. reads.kept (λ is. other (fault.1 is)) ∙ kept;
      rose = λ is. subst (λ (n : ℕ). Rose n new.read_faults) kept (reads.rose (fault.0 is));
    }

both_ok : {A B : Type 0} (x : A) (y : B) (f : ShelfFault) → (Ok y ≡ Err f) ↔ (Ok x ≡ Err f)
both_ok x y f = (λ is. absurd (let no : ⊥ = cc in no), λ is. absurd (let no : ⊥ = cc in no))

pub went_on : {A B : Type 0} (serial : ℕ) (x : A) (y : B) (old mid new : Rack) → OnlyReads old mid → mid.read_faults ≡ old.read_faults → ReadsReel serial (Ok x) mid new → ReadsReel serial (Ok y) old new
went_on serial x y old mid new only kept reads = and_reads serial (Ok x) (Ok y) old mid new only kept (both_ok x y NoTape) (both_ok x y NotMounted) (both_ok x y ReadFault) reads

both_err : {A B : Type 0} (a : Result A ShelfFault) (b : Result B ShelfFault) (fault f : ShelfFault) → a ≡ Err fault → b ≡ Err fault → (b ≡ Err f) ↔ (a ≡ Err f)
both_err a b fault f is_a is_b = (λ is. let same : fault ≡ f = cc in is_a ∙ ap Err same, λ is. let same : fault ≡ f = cc in is_b ∙ ap Err same)

pub went_wrong : {A B : Type 0} (serial : ℕ) (fault : ShelfFault) (old mid new : Rack) → OnlyReads old mid → mid.read_faults ≡ old.read_faults
    → ReadsReel {A = A} serial (Err fault) mid new → ReadsReel {A = B} serial (Err fault) old new
went_wrong serial fault old mid new only kept reads =
    and_reads serial (Err fault) (Err fault) old mid new only kept
    (both_err (Err fault) (Err fault) fault NoTape refl refl) (both_err (Err fault) (Err fault) fault NotMounted refl refl) (both_err (Err fault) (Err fault) fault ReadFault refl refl) reads

pub starved : {A B : Type 0} (serial : ℕ) (x : A) (old mid new : Rack) → OnlyReads old mid → mid.read_faults ≡ old.read_faults → ReadsReel serial (Ok x) mid new → ReadsReel {A = B} serial (Err NoMemory) old new
starved serial x old mid new only kept reads =
    and_reads serial (Ok x) (Err NoMemory) old mid new only kept
    (λ is. absurd (let no : ⊥ = cc in no), λ is. absurd (let no : ⊥ = cc in no))
    (λ is. absurd (let no : ⊥ = cc in no), λ is. absurd (let no : ⊥ = cc in no))
    (λ is. absurd (let no : ⊥ = cc in no), λ is. absurd (let no : ⊥ = cc in no)) reads

-- Reads preserve lengths.
pub len-unread : (o p : Option Reel) (n : ℕ) → option_map unread o ≡ option_map unread p → ForSome o (λ r. n ≤ r.len) → ForSome p (λ r. n ≤ r.len)
len-unread o None n same fits r is = absurd (let no : ⊥ = cc in no)
len-unread None (Some p) n same fits r is = absurd (let no : ⊥ = cc in no)
len-unread (Some q) (Some p) n same fits r is =
    let here = fits q refl in
    let lens : q.len ≡ p.len = ap (λ (x : Reel). x.len) (same_Some (unread q) (unread p) same) in
    let len : p.len ≡ r.len = ap (λ (x : Reel). x.len) (same_Some p r is) in
    omega arith

-- WHAT WAS READ stays read
pub read_dump_then : (serial : ℕ) (note : DumpNote) (first middle last : Rack) → HasReadDump serial note first middle → OnlyReads middle last → HasReadDump serial note first last
read_dump_then serial note first middle last has only = record {
  front = λ k least most. read_then serial k first middle last (has.front k least most) only;
  mark = read_then serial (note.place + 1 + note.count) first middle last has.mark only;
}

pub then_read_dump : (serial : ℕ) (note : DumpNote) (first middle last : Rack) → OnlyReads first middle → HasReadDump serial note middle last → HasReadDump serial note first last
then_read_dump serial note first middle last only has = record {
  front = λ k least most. then_read serial k first middle last only (has.front k least most);
  mark = then_read serial (note.place + 1 + note.count) first middle last only has.mark;
}

-- A DUMP OF TOO LOW A NUMBER isn't the next
pub too_low : (serial at least : ℕ) (rack : Rack) (dir : DumpDir) → IsFound serial at rack dir → dir.note.number < least
    → (blocks : List (List ℕ)) → blocks_of serial rack ≡ Some blocks → (d : Dump) → IsNext serial blocks at least d → ⊥
too_low serial at least rack dir found low blocks told d next =
    let one : IsNext serial blocks at 0 found.dump = record { on = found.on; place = found.at; number = omega arith; stands = found.stands blocks told } in
    let other : IsNext serial blocks at 0 d = record { on = next.on; place = next.place; number = omega arith; stands = next.stands } in
    let same : found.dump ≡ d = same_next serial blocks at 0 found.dump d one other in
    let number : found.dump.number ≡ d.number = ap (λ (e : Dump). e.number) same in
    let noted = found.dir_is.note.number in
    let least_is = next.number in
    omega arith

-- a reel has at most 65,536 blocks
pub ends_low : {A : Type 0} (serial at : ℕ) (x : A) (old new : Rack) (dir : DumpDir) → AreReels old.reels → ReadsReel serial (Ok x) old new → IsFound serial at old dir
    → dir.note.place + dir.note.count + 2 ≤ 65536
ends_low serial at x old new dir are reads found =
    let (r, here) = there serial x old new reads in
    let is = is_reel serial old.reels r are.each here in
    let within = is.within in
    let most = is.sized_most in
    let fits = found.fits r here in
    let place = found.dir_is.note.place in
    let count = found.dir_is.note.count in
    omega arith

-- THE LAST OF THEM
pub last-map : (ds : List Dump) → slice_get (map note_of ds) (length (map note_of ds) - 1) ≡ option_map note_of (slice_get ds (length ds - 1))
last-map ds = ap (λ (n : ℕ). slice_get (map note_of ds) (n - 1)) (length-map ds note_of) ∙ slice_get-map note_of ds (length ds - 1)

end_at : (serial : ℕ) (ds : List Dump) (o : Option Dump) (note : DumpNote) → AreInRow serial 0 0 ds → slice_get ds (length ds - 1) ≡ o → Some note ≡ option_map note_of o
    → note.place + note.count + 2 ≡ end_of ds
end_at serial ds None note row last is = let no : ⊥ = cc in absurd no
end_at serial ds (Some d) note row last is =
    let same : note ≡ note_of d = same_Some note (note_of d) is in
    let place : note.place ≡ d.place = ap (λ (n : DumpNote). n.place) same in
    let count : note.count ≡ count_of d = ap (λ (n : DumpNote). n.count) same in
    let end = (top serial 0 0 ds row d last).end in
    omega arith

pub noted_end : (serial : ℕ) (ds : List Dump) (notes items : List DumpNote) (note : DumpNote) → AreInRow serial 0 0 ds → notes ≡ map note_of ds → items ≡ notes
    → Some note ≡ slice_get items (length items - 1) → note.place + note.count + 2 ≡ end_of ds
noted_end serial ds notes items note row notes_are items_are is =
    end_at serial ds (slice_get ds (length ds - 1)) note row refl
    (is ∙ ap (λ (ns : List DumpNote). slice_get ns (length ns - 1)) (items_are ∙ notes_are) ∙ last-map ds)

-- what a reel that was read holds has at most 65,536 blocks
pub reel_low : {A : Type 0} (serial n : ℕ) (x : A) (old new : Rack) → AreReels old.reels → ReadsReel serial (Ok x) old new → ForSome (reel serial old.reels) (λ r. n ≤ r.len) → n ≤ 65536
reel_low serial n x old new are reads fits =
    let (r, here) = there serial x old new reads in
    let is = is_reel serial old.reels r are.each here in
    let within = is.within in
    let most = is.sized_most in
    let long = fits r here in
    omega arith

pub end_low : {A : Type 0} (serial : ℕ) (x : A) (dumps : List Dump) (old new : Rack) → AreReels old.reels → ReadsReel serial (Ok x) old new → AreRead serial dumps old new → end_of dumps ≤ 65536
end_low serial x dumps old new are reads read = reel_low serial (end_of dumps) x old new are reads read.fits
