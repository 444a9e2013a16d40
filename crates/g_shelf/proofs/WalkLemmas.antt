-- The dumps of a reel that a walk has passed, and what it collects from them.
-- serves: completed (found), read_reel (more), crates above
use Rattle.std.proofs.Common.{◌≡◌, ℕ, ◌+◌, ◌≤◌, List, [], ◌∷◌, ◌++◌, length, Ok, refl, sym, ◌∙◌, ap, arith, subst, map, All}
use Rattle.std.specs.Option.{ForSome}
use Rattle.std.proofs.lemmas.List.{append-nil, append_assoc}
use Rattle.std.proofs.lemmas.List.Elements.{All-nil, All-push, All-weaker}
use Rattle.g_tape.specs.Rack.{Rack, reel}
use Rattle.g_tape.specs.Reads.{OnlyReads, blocks_of}
use Rattle.g_tape.proofs.ReadLemmas.{blocks_after_reads, more_reads, nothing_read, reel_after_reads}
use Rattle.g_incr.specs.declared.note.DumpDir.{DumpDir}
use Rattle.g_incr.specs.declared.note.DumpNote.{DumpNote}
use Rattle.g_incr.specs.Layout.{Dump, count_of, ends}
use Rattle.g_incr.specs.Notes.{IsDirOf, IsNoteOf}
use Rattle.g_incr.specs.Reading.{HasReadDump, ReadsReel}
use Rattle.g_shelf.specs.CompletedDumps.{AreNext, IsNext, end_of, number_behind}
use Rattle.g_shelf.specs.FoundDumps.{AreInRow, AreRead, note_of}
use Rattle.g_shelf.specs.Walk.{AreOf, HasMore, IsNextDump}
use Rattle.g_shelf.proofs.ReadLemmas.{len-unread, read_dump_then, then_read_dump}
use Rattle.g_shelf.proofs.RowLemmas.{end_then, number_then, row_then}

-- A note that describes a dump is the dump's note.
abbrev noting : ℕ → ℕ → ℕ → ℕ → ℕ → ℕ → DumpNote
noting n p c u f s = record { number = n; place = p; count = c; users = u; files = f; next_stamp = s }

pub same_note : (d : Dump) (n : DumpNote) → IsNoteOf d n → n ≡ note_of d
same_note d n is =
    ap (λ (x : ℕ). noting x n.place n.count n.users n.files n.next_stamp) is.number
    ∙ ap (λ (x : ℕ). noting d.number x n.count n.users n.files n.next_stamp) is.place
    ∙ ap (λ (x : ℕ). noting d.number d.place x n.users n.files n.next_stamp) is.count
    ∙ ap (λ (x : ℕ). noting d.number d.place (count_of d) x n.files n.next_stamp) is.users
    ∙ ap (λ (x : ℕ). noting d.number d.place (count_of d) (length d.users) x n.next_stamp) is.files
    ∙ ap (λ (x : ℕ). noting d.number d.place (count_of d) (length d.users) (length d.files) x) is.next_stamp

-- one more of them
of_then : {K : Type 0} (is_of : K → Dump → Type 0) (ks : List K) (ds : List Dump) (k : K) (d : Dump) → AreOf is_of ks ds → is_of k d → AreOf is_of (ks ++ k ∷ []) (ds ++ d ∷ [])
of_then is_of [] [] k d are is = (is, tt)
of_then is_of [] (e ∷ es) k d are is = absurd are
of_then is_of (j ∷ js) [] k d are is = absurd are
of_then is_of (j ∷ js) (e ∷ es) k d are is = (are.0, of_then is_of js es k d are.1 is)

-- If the walk collects notes, these are the notes of the dumps.
pub notes_of : (notes : List DumpNote) (ds : List Dump) → AreOf (λ note d. note ≡ note_of d) notes ds → notes ≡ map note_of ds
notes_of [] [] are = refl
notes_of [] (d ∷ ds) are = absurd are
notes_of (n ∷ ns) [] are = absurd are
notes_of (n ∷ ns) (d ∷ ds) are = ap (λ (x : DumpNote). x ∷ ns) are.0 ∙ ap (λ (xs : List DumpNote). note_of d ∷ xs) (notes_of ns ds are.1)

-- THE WALK up to block `at`
pub record Walked {K : Type 0} (is_of : K → Dump → Type 0) (serial at least : ℕ) (before now : List K) (old new : Rack) : Type 0 where
  pub dumps : List Dump
  pub more : List K
  pub now_is : now ≡ before ++ more
  pub are_of : AreOf is_of more dumps
  pub row : AreInRow serial 0 0 dumps
  pub end_is : at ≡ end_of dumps
  pub least_is : least ≡ number_behind 0 dumps
  pub completed : ForSome (blocks_of serial old) (λ blocks. (es : List Dump) → AreNext serial blocks at least es → AreNext serial blocks 0 0 (dumps ++ es))
  pub fits : ForSome (reel serial old.reels) (λ r. end_of dumps ≤ r.len)
  pub read : All (λ d. HasReadDump serial (note_of d) old new) dumps
  pub only : OnlyReads old new
  pub kept : new.read_faults ≡ old.read_faults
  pub low : at ≤ 65536

pub nothing_walked : {K : Type 0} (is_of : K → Dump → Type 0) (serial : ℕ) (before : List K) (rack : Rack) → Walked is_of serial 0 0 before before rack rack
nothing_walked is_of serial before rack = record {
  dumps = [];
  more = [];
  now_is = sym (append-nil before);
  are_of = tt;
  row = tt;
  end_is = refl;
  least_is = refl;
  completed = λ blocks told es are. are;
  fits = λ r is. omega arith;
  read = All-nil (λ (d : Dump). HasReadDump serial (note_of d) rack rack);
  only = nothing_read rack;
  kept = refl;
  low = omega arith;
}

pub one_walked : {K A : Type 0} (is_of : K → Dump → Type 0) (serial at least : ℕ) (before now then_now : List K) (k : K) (dir : DumpDir) (old mid new : Rack) (x : A)
    → Walked is_of serial at least before now old mid → ReadsReel serial (Ok x) mid new → IsNextDump serial at least mid new dir → ((d : Dump) → d.serial ≡ serial → IsDirOf d dir → is_of k d)
    → dir.note.place + dir.note.count + 2 ≤ 65536 → then_now ≡ now ++ k ∷ [] → Walked is_of serial (dir.note.place + dir.note.count + 2) (dir.note.number + 1) before then_now old new
one_walked {K = K} is_of serial at least before now then_now k dir old mid new x so reads next keeps low then_is =
    let found = next.found in
    let d : Dump = found.dump in
    let end_is = so.end_is in
    let least_is = so.least_is in
    let number = next.number in
    let place_is : dir.note.place ≡ d.place = found.dir_is.note.place in
    let count_is : dir.note.count ≡ count_of d = found.dir_is.note.count in
    let number_is : dir.note.number ≡ d.number = found.dir_is.note.number in
    let ends_is : dir.note.place + dir.note.count + 2 ≡ ends d = omega arith in
    let next_is : dir.note.number + 1 ≡ d.number + 1 = omega arith in
    let least_d : least ≤ d.number = omega arith in
    let end : end_of (so.dumps ++ d ∷ []) ≡ ends d = end_then 0 so.dumps d in
    record {
      dumps = so.dumps ++ d ∷ [];
      more = so.more ++ k ∷ [];
      now_is = then_is ∙ ap (λ (ks : List K). ks ++ k ∷ []) so.now_is ∙ append_assoc before so.more (k ∷ []);
      are_of = of_then is_of so.more so.dumps k d so.are_of (keeps d found.on found.dir_is);
      row = row_then serial 0 0 so.dumps d so.row (record { on = found.on; place = found.at ∙ end_is; number = omega arith; rules = found.rules });
      end_is = ends_is ∙ sym end;
      least_is = next_is ∙ sym (number_then 0 so.dumps d);
      completed = λ blocks told es are.
          let told_mid = blocks_after_reads serial old mid so.only ∙ told in
          let here : IsNext serial blocks at least d = record { on = found.on; place = found.at; number = least_d; stands = found.stands blocks told_mid } in
          let rest : AreNext serial blocks (ends d) (d.number + 1) es =
          subst (λ (n : ℕ). AreNext serial blocks (ends d) n es) next_is (subst (λ (n : ℕ). AreNext serial blocks n (dir.note.number + 1) es) ends_is are) in
          subst (AreNext serial blocks 0 0) (sym (append_assoc so.dumps (d ∷ []) es)) (so.completed blocks told (d ∷ es) (here, rest));
      fits = λ r at_r.
          let fits = len-unread (reel serial mid.reels) (reel serial old.reels) (ends d) (reel_after_reads serial old mid so.only) found.fits r at_r in
          omega arith;
      read = All-push (λ (e : Dump). HasReadDump serial (note_of e) old new) so.dumps d
          (All-weaker (λ (e : Dump). HasReadDump serial (note_of e) old mid) (λ (e : Dump). HasReadDump serial (note_of e) old new)
          (λ e has. read_dump_then serial (note_of e) old mid new has reads.only) so.dumps so.read)
          (subst (λ (n : DumpNote). HasReadDump serial n old new) (same_note d dir.note found.dir_is.note) (then_read_dump serial dir.note old mid new so.only next.read));
      only = more_reads old mid new so.only reads.only;
      kept = reads.kept (λ wrong. let no : ⊥ = cc in no) ∙ so.kept;
      low = low;
    }

pub all_walked : {K A : Type 0} (is_of : K → Dump → Type 0) (serial at least : ℕ) (before now : List K) (old mid new : Rack) (x : A) → Walked is_of serial at least before now old mid
    → ReadsReel serial (Ok x) mid new → ForSome (blocks_of serial mid) (λ blocks. (d : Dump) → IsNext serial blocks at least d → ⊥) → HasMore is_of serial before now old new
all_walked is_of serial at least before now old mid new x so reads none = record {
  dumps = so.dumps;
  more = so.more;
  after_is = so.now_is;
  are_of = so.are_of;
  read = record {
    row = so.row;
    completed = λ blocks told. record {
      are = subst (AreNext serial blocks 0 0) (append-nil so.dumps) (so.completed blocks told [] (none blocks (blocks_after_reads serial old mid so.only ∙ told)));
    };
    fits = so.fits;
    read = All-weaker (λ (e : Dump). HasReadDump serial (note_of e) old mid) (λ (e : Dump). HasReadDump serial (note_of e) old new)
        (λ e has. read_dump_then serial (note_of e) old mid new has reads.only) so.dumps so.read;
  };
}

-- the notes of one reel, in an empty list before
pub notes_read : (serial : ℕ) (before after : List DumpNote) (old new : Rack) → before ≡ [] → HasMore (λ note d. note ≡ note_of d) serial before after old new
    → (dumps : List Dump) × AreRead serial dumps old new × (after ≡ map note_of dumps)
notes_read serial before after old new none has =
    (has.dumps, has.read, has.after_is ∙ ap (λ (ns : List DumpNote). ns ++ has.more) none ∙ notes_of has.more has.dumps has.are_of)
