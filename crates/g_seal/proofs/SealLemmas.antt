-- The seal of devices, from the lines of what is in memory.
-- serves: push_held (no_copy, text), seal (disc, no_copy, text)
use Rattle.std.proofs.Common.{◌≡◌, ℕ, List, [], ◌++◌, map, Option, Some, None, Result, Ok, Err, sym, ◌∙◌, ap, subst}
use Rattle.std.specs.Prelude.{Contains, OnOk}
use Rattle.std.specs.Option.{ForSome}
use Rattle.g_copy.specs.declared.copy.DiscCopy.{DiscCopy}
use Rattle.g_entry.specs.declared.file_rec.FileRec.{FileRec}
use Rattle.g_entry.specs.declared.format.Format.{Format}
use Rattle.g_entry.specs.declared.user_rec.UserRec.{UserRec}
use Rattle.g_dirs.specs.declared.dirs.Dirs.{Dirs}
use Rattle.g_dirs.specs.Directory.{Directory, copy_at, entries_of}
use Rattle.g_disc.specs.Disc.{DiscState, ReadsByCause}
use Rattle.g_disc.proofs.CallLemmas.{ReadsByCause-for, ReadsByCause-then}
use Rattle.g_tape.specs.Rack.{Rack}
use Rattle.g_tape.specs.Reel.{Reel}
use Rattle.g_tree.proofs.ListLemmas.{map_of_map}
use Rattle.g_incr.specs.Layout.{Dump}
use Rattle.g_shelf.specs.CompletedDumps.{all_dumps}
use Rattle.g_lines.specs.Lines.{ended, text_of}
use Rattle.g_store_meaning.specs.Meaning.{told_reels}
use Rattle.g_store_meaning.specs.Reading.{AllTold, ReelsTold}
use Rattle.g_restore.specs.declared.dumps.Found.{Found}
use Rattle.g_restore.specs.KnownDumps.{AreKnown, known, known_of}
use Rattle.g_look.specs.declared.disc.Standing.{Standing}
use Rattle.g_look.specs.declared.fault.LookFault.{LookFault}
use Rattle.g_look.specs.declared.fault.LookFault.TheVariants as fault
use Rattle.g_look.specs.SeenDumps.{AreSeen}
use Rattle.g_look.specs.Standing.{IsStanding, found_in}
use Rattle.g_look.specs.Text.{IsFoundOn}
use Rattle.g_look.proofs.DiscLemmas.{contains_map}
use Rattle.g_look.proofs.HeadLemmas.{told_blocks}
use Rattle.g_seal.specs.InMemory.{found_line, known_dump, rec_line}
use Rattle.g_seal.specs.SealText.{dump_line, file_line, front_text, seal_line}
use Rattle.g_seal.specs.declared.sealing.Sealed.{Sealed}
use Rattle.g_seal.specs.Sealing.{HasLost, HasNowhere, IsNowhere, IsSealed, sealed_dump, sealed_file, sealed_files}

pub dump_lines_are : (reels : List Reel) (found : List Found) (dumps : List Dump) → AreKnown found dumps → map (found_line reels) found ≡ map dump_line (map (sealed_dump reels) dumps)
dump_lines_are reels found dumps are =
    sym (map_of_map (λ k. dump_line (known_dump reels k)) known found) ∙ ap (map (λ k. dump_line (known_dump reels k))) are.same
    ∙ map_of_map (λ k. dump_line (known_dump reels k)) known_of dumps ∙ sym (map_of_map dump_line (sealed_dump reels) dumps)

pub file_lines_are : (blocks : List (List ℕ)) (reels : List Reel) (users : List UserRec) (files : List FileRec) (online : List (ℕ × DiscCopy))
    → map (rec_line blocks reels users online) files ≡ map file_line (map (sealed_file blocks reels users) (entries_of files online))
file_lines_are blocks reels users files online =
    sym (map_of_map file_line (sealed_file blocks reels users) (entries_of files online)
    ∙ map_of_map (λ e. file_line (sealed_file blocks reels users e)) (λ (r : FileRec). (r, copy_at online r.number)) files)

-- THE WHOLE TEXT
pub sealed_is : (held : Option (List (List ℕ))) (size : ℕ) (reels : List Reel) (found : List Found) (standing : Standing) (begun first second last : List ℕ) → AllTold held reels → AreSeen reels found
    → IsStanding size held standing → begun ≡ [] → first ≡ begun ++ text_of (map (found_line reels) found)
    → ForSome held (λ blocks. second ≡ first ++ text_of (map file_line (sealed_files blocks reels (found_in standing.dirs)))) → last ≡ second ++ ended (seal_line second) → IsSealed held reels last
sealed_is held size reels found standing begun first second last told seen stands none first_is second_is last_is =
    let (shelf, shelved) = seen.shelf told.each in
    let (blocks, is) = told_blocks held told.disc in
    let it = seen.seen told.each shelf shelved in
    let dumps : List Dump = all_dumps shelf reels in
    let on : Option (Format × Directory) = found_in standing.dirs in
    let front : second ≡ front_text (map (sealed_dump reels) dumps) (sealed_files blocks reels on) =
    second_is blocks is ∙ ap (λ (xs : List ℕ). xs ++ text_of (map file_line (sealed_files blocks reels on)))
    (first_is ∙ ap (λ (xs : List ℕ). xs ++ text_of (map (found_line reels) found)) none ∙ ap text_of (dump_lines_are reels found dumps it.known)) in
    record {
      shelf = shelf;
      shelved = shelved;
      blocks = blocks;
      is_told = is;
      found = on;
      found_is = stands.found blocks is;
      text_is = last_is ∙ ap (λ (xs : List ℕ). xs ++ ended (seal_line xs)) front;
    }

-- the same of what the calls ensure, one after another
pub sealed_at : (size : ℕ) (disc mid : DiscState) (rack one two : Rack) (found slice : List Found) (standing : Standing) (begun first second last : List ℕ) → AllTold disc.held (told_reels rack)
    → AreSeen (told_reels rack) found → told_reels one ≡ told_reels rack → mid.held ≡ disc.held → IsStanding size disc.held standing → slice ≡ found → begun ≡ []
    → (ReelsTold (told_reels one) → first ≡ begun ++ text_of (map (found_line (told_reels one)) slice)) → told_reels two ≡ told_reels one
    → (ReelsTold (told_reels two) → ForSome mid.held (λ blocks. second ≡ first ++ text_of (map file_line (sealed_files blocks (told_reels two) (found_in standing.dirs)))))
    → last ≡ second ++ ended (seal_line second) → IsSealed disc.held (told_reels rack) last
sealed_at size disc mid rack one two found slice standing begun first second last told seen is_one is_mid stands is_slice none dumps is_two files last_is =
    let reels : List Reel = told_reels rack in
    let first_is : first ≡ begun ++ text_of (map (found_line reels) slice) =
    subst (λ (rs : List Reel). ReelsTold rs → first ≡ begun ++ text_of (map (found_line rs) slice)) is_one dumps told.each in
    let second_is : ForSome mid.held (λ blocks. second ≡ first ++ text_of (map file_line (sealed_files blocks reels (found_in standing.dirs)))) =
    subst (λ (rs : List Reel). ReelsTold rs → ForSome mid.held (λ blocks. second ≡ first ++ text_of (map file_line (sealed_files blocks rs (found_in standing.dirs))))) (is_two ∙ is_one) files told.each in
    sealed_is disc.held size reels found standing begun first second last told seen stands none (first_is ∙ ap (λ (fs : List Found). begun ++ text_of (map (found_line reels) fs)) is_slice)
    (λ blocks is. second_is blocks (is_mid ∙ is)) last_is

-- THE FILES of what the disc holds
pub held_text : (blocks : List (List ℕ)) (reels : List Reel) (format : Format) (dirs : Dirs) (here : Option (Format × Dirs)) (result : Result (Unit {0}) LookFault) (old new : List ℕ) → here ≡ Some (format, dirs)
    → OnOk result (new ≡ old ++ text_of (map (rec_line blocks reels dirs.users.items dirs.online.items) dirs.files.items)) → OnOk result (new ≡ old ++ text_of (map file_line (sealed_files blocks reels (found_in here))))
held_text blocks reels format dirs here (Err e) old new some is = tt
held_text blocks reels format dirs here (Ok u) old new some is =
    is ∙ ap (λ (xs : List (List ℕ)). old ++ text_of xs)
    (file_lines_are blocks reels dirs.users.items dirs.files.items dirs.online.items ∙ ap (λ (h : Option (Format × Dirs)). map file_line (sealed_files blocks reels (found_in h))) (sym some))

pub held_nowhere : (reels : List Reel) (format : Format) (dirs : Dirs) (here : Option (Format × Dirs)) → here ≡ Some (format, dirs)
    → (r : FileRec) × Contains dirs.files.items r × IsNowhere reels r (copy_at dirs.online.items r.number) → HasNowhere reels (found_in here)
held_nowhere reels format dirs here some (r, there, gone) =
    subst (λ (h : Option (Format × Dirs)). HasNowhere reels (found_in h)) (sym some)
    ((r, copy_at dirs.online.items r.number), contains_map (λ (q : FileRec). (q, copy_at dirs.online.items q.number)) dirs.files.items r there, gone)

-- NO SEAL: the bytes of a file are nowhere
lost_by : (blocks : List (List ℕ)) (reels : List Reel) (on : Option (Format × Directory)) → IsFoundOn blocks on → HasNowhere reels on → HasLost blocks reels
lost_by blocks reels None none wrong = absurd wrong
lost_by blocks reels (Some (format, d)) stands (f, there, gone) = record { directory = d; stands = stands.0; file = f; there = there; nowhere = gone }

pub lost_at : (size : ℕ) (disc : DiscState) (rack one two : Rack) (standing : Standing) → IsStanding size disc.held standing → told_reels one ≡ told_reels rack → told_reels two ≡ told_reels one
    → HasNowhere (told_reels two) (found_in standing.dirs) → ForSome disc.held (λ blocks. HasLost blocks (told_reels rack))
lost_at size disc rack one two standing stands is_one is_two nowhere blocks is =
    lost_by blocks (told_reels rack) (found_in standing.dirs) (stands.found blocks is) (subst (λ (rs : List Reel). HasNowhere rs (found_in standing.dirs)) (is_two ∙ is_one) nowhere)

-- a fault of one answer is that of another
sealed_fault : (e f : LookFault) → (let x : Result Sealed LookFault = Err e in x ≡ Err f) → e ≡ f
sealed_fault e f is = cc

pushed_fault : (e f : LookFault) → (let x : Result (Unit {0}) LookFault = Err e in x ≡ Err f) → e ≡ f
pushed_fault e f is = cc

pub from_sealed : (e f : LookFault) → (let x : Result Sealed LookFault = Err e in x ≡ Err f) → (let y : Result (Unit {0}) LookFault = Err e in y ≡ Err f)
from_sealed e f is = ap (λ (o : LookFault). let y : Result (Unit {0}) LookFault = Err o in y) (sealed_fault e f is)

to_sealed : (e f : LookFault) → (let x : Result (Unit {0}) LookFault = Err e in x ≡ Err f) → (let y : Result Sealed LookFault = Err e in y ≡ Err f)
to_sealed e f is = ap (λ (o : LookFault). let y : Result Sealed LookFault = Err o in y) (pushed_fault e f is)

pub disc_then : {P : Type 0} (e : LookFault) (old mid new : DiscState) → (P → ⊥) → ReadsByCause P old mid → (let x : Result (Unit {0}) LookFault = Err e in ReadsByCause (x ≡ Err fault.DiscUnread) mid new)
    → (let y : Result Sealed LookFault = Err e in ReadsByCause (y ≡ Err fault.DiscUnread) old new)
disc_then e old mid new never one two = ReadsByCause-for (to_sealed e fault.DiscUnread) (from_sealed e fault.DiscUnread) (ReadsByCause-then never one two)
