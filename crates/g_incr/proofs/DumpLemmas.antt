-- A dump on a reel, composed of its header, its records and its mark, and decomposed into them.
-- serves: read_dump (none, read, some), read_mark (again, found), read_records (found)
use Rattle.std.proofs.Common.{◌≡◌, ℕ, zero, suc, ◌+◌, ◌-◌, ◌^◌, ◌<◌, ◌≤◌, Bool, false, List, [], ◌∷◌, ◌++◌, length, get_or, take, drop, replicate, Option, Some, None, refl, sym, ◌∙◌, ap, arith, slice_get, subst, inl, inr}
use Rattle.std.specs.Prelude.{◌⊎◌, All, IfNone, IfSome, IsTrue, map}
use Rattle.std.specs.Option.{ForSome}
use Rattle.std.proofs.Math.Seq.{take-add}
use Rattle.std.proofs.lemmas.Bool.{cases_lt, false≢true}
use Rattle.std.proofs.lemmas.List.{append_assoc, drop-drop, drop-take, drop_at, length-append, length-drop, length-map, length-replicate, length-take-le, take-append-drop, take-take, take_at}
use Rattle.std.proofs.lemmas.List.Elements.{All-drop, All-replicate, All-take}
use Rattle.std.proofs.lemmas.Option.{same_Some, slice_get_within}
use Rattle.g_base.specs.Block.{IsBlock}
use Rattle.g_entry.specs.declared.format.Format.{Format}
use Rattle.g_entry.specs.FileFields.{file_block}
use Rattle.g_entry.specs.Rules.{StampsBelow}
use Rattle.g_entry.specs.UserFields.{IsUser, held_byte, user_block}
use Rattle.g_tape.specs.Rack.{AreReels, Rack, reel, refuses_unmount}
use Rattle.g_tape.specs.Reads.{HasRead, OnlyReads, blocks_in, blocks_of}
use Rattle.g_tape.specs.Reel.{Reel}
use Rattle.g_tape.proofs.ReadLemmas.{blocks_after_reads, is_reel, more_reads, read_then, then_read}
use Rattle.g_incr.specs.declared.note.DumpDir.{DumpDir}
use Rattle.g_incr.specs.declared.note.DumpNote.{DumpNote}
use Rattle.g_incr.specs.declared.note.Header.{Header}
use Rattle.g_incr.specs.Finding.{FindsHeader, FindsMark, HasHeader, HasMark, HasNoRecords, HoldsRecords, mark_at, record_blocks}
use Rattle.g_incr.specs.Layout.{Dump, IsDump, StandsOn, content_at, count_of, dump_blocks, file_in, header_block, holds, mark_block, numbers_in, size_of, user_in}
use Rattle.g_incr.specs.Notes.{IsDirOf, IsHeaderOf, IsInLimits, IsNoteOf}
use Rattle.g_incr.specs.Reading.{HasNone, HasReadDump, IsFound}
use Rattle.g_incr.specs.Records.{HasRecords, content_from, content_to}
use Rattle.g_incr.proofs.ListLemmas.{get_drop, get_take, none_within, one_at}
use Rattle.g_incr.proofs.PieceLemmas.{at_header, at_mark}
use Rattle.g_incr.proofs.RuleLemmas.{moved}
use Rattle.g_incr.proofs.TapeLemmas.{ReadsTape, same_len}

-- Composing a dump.
abbrev pub dump_from : ℕ → Header → DumpDir → List (List ℕ) → Dump
dump_from serial h dir content = record {
  format = h.format;
  serial = serial;
  place = h.note.place;
  number = h.note.number;
  next = h.note.next_stamp;
  users = dir.users.items;
  held = dir.held.items;
  files = dir.files.items;
  content = content;
}

module _ (serial : ℕ) (h : Header) (dir : DumpDir) (blocks content : List (List ℕ)) (limits : IsInLimits h.note) (low : mark_at h.note < 2 ^ 32)
    (has : HasRecords serial h dir.users.items dir.held.items dir.files.items blocks) (many : length content + (h.note.users + h.note.files) ≡ h.note.count) where
  note_of : IsNoteOf (dump_from serial h dir content) h.note
  note_of =
      let users = has.users_long in
      let files = has.files_long in
      record { number = refl; place = refl; count = omega arith; users = sym users; files = sym files; next_stamp = refl }

  pub is_header : IsHeaderOf (dump_from serial h dir content) h
  is_header = record { format = refl; note = note_of }

  pub is_dir : dir.note ≡ h.note → IsDirOf (dump_from serial h dir content) dir
  is_dir same = record { note = subst (IsNoteOf (dump_from serial h dir content)) (sym same) note_of; users = refl; held = refl; files = refl }

  pub is_dump : All IsBlock content → IsDump (dump_from serial h dir content)
  is_dump whole =
      let users = has.users_long in
      let files = has.files_long in
      record {
        number = limits.number;
        first = limits.first;
        last = limits.last;
        place = omega arith;
        count = omega arith;
        users = has.rules.users_are;
        each_user = has.front.each;
        held = has.front.rising;
        held_users = has.front.held_users;
        numbered = has.back.numbered;
        each_file = has.back.each;
        owners = has.rules.owners;
        in_order = has.rules.in_order;
        files = has.rules.files_are;
        dated = has.rules.dated;
        copied = has.rules.copied;
        content = whole;
        follow = moved serial dir.files.items (content_from h.note) (content_at (dump_from serial h dir content)) (content_to h.note) (content_at (dump_from serial h dir content) + length content)
            (omega arith) (omega arith) has.rules.follow;
      }

  -- the blocks between header and content
  records_are : blocks ≡ map (user_in (dump_from serial h dir content)) dir.users.items ++ map (file_in (dump_from serial h dir content)) dir.files.items
  records_are =
      sym (take-append-drop h.note.users blocks) ∙ ap (λ (l : List (List ℕ)). l ++ drop h.note.users blocks) has.front.blocks_are
      ∙ ap (λ (l : List (List ℕ)). map (user_in (dump_from serial h dir content)) dir.users.items ++ l) has.back.blocks_are

  pub stands_from : (bs : List (List ℕ)) → blocks ≡ record_blocks h.note bs → content ≡ take (length content) (drop (content_from h.note) bs)
      → slice_get bs h.note.place ≡ Some (header_block (dump_from serial h dir content)) → slice_get bs (mark_at h.note) ≡ Some (mark_block (dump_from serial h dir content))
      → All IsBlock content → StandsOn bs (dump_from serial h dir content)
  unfolding dump_blocks
  stands_from bs told content_is first last whole =
      let p = h.note.place in
      let r = h.note.users + h.note.files in
      let c = length content in
      let e = dump_from serial h dir content in
      let users : List (List ℕ) = map (user_in e) dir.users.items in
      let files : List (List ℕ) = map (file_in e) dir.files.items in
      let users_long = has.users_long in
      let files_long = has.files_long in
      let cut_size : size_of e ≡ 1 + (r + (c + 1)) = omega arith in
      let after_header : drop 1 (drop p bs) ≡ drop (p + 1) bs = drop-drop 1 p bs in
      let after_records : drop r (drop (p + 1) bs) ≡ drop (content_from h.note) bs = drop-drop r (p + 1) bs ∙ ap (λ (n : ℕ). drop n bs) (omega arith) in
      let after_content : drop c (drop (content_from h.note) bs) ≡ drop (mark_at h.note) bs = drop-drop c (content_from h.note) bs ∙ ap (λ (n : ℕ). drop n bs) (omega arith) in
      let tail : take (c + 1) (drop (content_from h.note) bs) ≡ content ++ mark_block e ∷ [] =
      take-add c 1 (drop (content_from h.note) bs) ∙ ap (λ (l : List (List ℕ)). l ++ take 1 (drop c (drop (content_from h.note) bs))) (sym content_is)
      ∙ ap (λ (l : List (List ℕ)). content ++ take 1 l) after_content ∙ ap (λ (l : List (List ℕ)). content ++ l) (one_at (mark_at h.note) bs (mark_block e) last) in
      let middle : take (r + (c + 1)) (drop (p + 1) bs) ≡ (users ++ files) ++ (content ++ mark_block e ∷ []) =
      take-add r (c + 1) (drop (p + 1) bs) ∙ ap (λ (l : List (List ℕ)). l ++ take (c + 1) (drop r (drop (p + 1) bs))) (sym told ∙ records_are)
      ∙ ap (λ (l : List (List ℕ)). (users ++ files) ++ take (c + 1) l) after_records ∙ ap (λ (l : List (List ℕ)). (users ++ files) ++ l) tail in
      record {
        rules = is_dump whole;
        blocks =
            ap (λ (n : ℕ). take n (drop p bs)) cut_size ∙ take-add 1 (r + (c + 1)) (drop p bs)
            ∙ ap (λ (l : List (List ℕ)). l ++ take (r + (c + 1)) (drop 1 (drop p bs))) (one_at p bs (header_block e) first)
            ∙ ap (λ (l : List (List ℕ)). header_block e ∷ take (r + (c + 1)) l) after_header ∙ ap (λ (l : List (List ℕ)). header_block e ∷ l) (middle ∙ append_assoc users files (content ++ mark_block e ∷ []));
      }

-- TAKEN APART
module _ (bs : List (List ℕ)) (e : Dump) (stands : StandsOn bs e) where
  block_at : (k : ℕ) (b : List ℕ) → slice_get (dump_blocks e) k ≡ Some b → slice_get bs (e.place + k) ≡ Some b
  block_at k b is =
      sym (get_drop e.place bs k) ∙ get_take (size_of e) (drop e.place bs) k b (ap (λ (l : List (List ℕ)). slice_get l k) stands.blocks ∙ is)

  pub header_there : slice_get bs e.place ≡ Some (header_block e)
  header_there = ap (slice_get bs) (let sum : e.place ≡ e.place + 0 = omega arith in sum) ∙ block_at 0 (header_block e) (at_header e)

  pub mark_there : (n : DumpNote) → IsNoteOf e n → slice_get bs (mark_at n) ≡ Some (mark_block e)
  mark_there n of =
      let place = of.place in
      let count = of.count in
      ap (slice_get bs) (let sum : mark_at n ≡ e.place + (count_of e + 1) = omega arith in sum) ∙ block_at (count_of e + 1) (mark_block e) (at_mark e (count_of e + 1) refl)

  records_there : take (length e.users + length e.files) (drop (e.place + 1) bs) ≡ map (user_in e) e.users ++ map (file_in e) e.files
  unfolding dump_blocks
  records_there =
      let r = length e.users + length e.files in
      let c = length e.content in
      let users : List (List ℕ) = map (user_in e) e.users in
      let files : List (List ℕ) = map (file_in e) e.files in
      let rest : List (List ℕ) = e.content ++ mark_block e ∷ [] in
      let users_long = length-map e.users (user_in e) in
      let files_long = length-map e.files (file_in e) in
      let both = length-append users files in
      let behind : take (r + (c + 1)) (drop (e.place + 1) bs) ≡ users ++ (files ++ rest) =
      ap (take (r + (c + 1))) (sym (drop-drop 1 e.place bs)) ∙ sym (drop-take 1 (r + (c + 1)) (drop e.place bs))
      ∙ ap (λ (n : ℕ). drop 1 (take n (drop e.place bs))) (let sum : 1 + (r + (c + 1)) ≡ size_of e = omega arith in sum) ∙ ap (drop 1) stands.blocks in
      sym (take-take r (r + (c + 1)) (drop (e.place + 1) bs) (omega arith)) ∙ ap (take r) (behind ∙ sym (append_assoc users files rest)) ∙ take_at (users ++ files) rest r (omega arith)

  pub has_records : (h : Header) → IsHeaderOf e h → HasRecords e.serial h e.users e.held e.files (record_blocks h.note bs)
  has_records h of =
      let n = h.note in
      let is_users = of.note.users in
      let is_files = of.note.files in
      let is_place = of.note.place in
      let is_count = of.note.count in
      let users : List (List ℕ) = map (user_in e) e.users in
      let files : List (List ℕ) = map (file_in e) e.files in
      let users_long = length-map e.users (user_in e) in
      let files_long = length-map e.files (file_in e) in
      let both = length-append users files in
      let are : record_blocks n bs ≡ users ++ files =
      ap (λ (m : ℕ). take m (drop (n.place + 1) bs)) (let sum : n.users + n.files ≡ length e.users + length e.files = omega arith in sum)
      ∙ ap (λ (m : ℕ). take (length e.users + length e.files) (drop m bs)) (let sum : n.place + 1 ≡ e.place + 1 = omega arith in sum) ∙ records_there in
      record {
        users_long = sym is_users;
        files_long = sym is_files;
        long = ap length are ∙ (let sum : length (users ++ files) ≡ n.users + n.files = omega arith in sum);
        front = record {
          blocks_are = ap (take n.users) are ∙ take_at users files n.users (omega arith) ∙ ap (λ (f : Format). map (λ u. user_block f (held_byte (holds e.held u.number)) u) e.users) (sym of.format);
          numbered = stands.rules.users.numbered;
          each = subst (λ (f : Format). All (IsUser f) e.users) (sym of.format) stands.rules.each_user;
          rising = stands.rules.held;
          held_users = stands.rules.held_users;
        };
        back = record {
          blocks_are = ap (drop n.users) are ∙ drop_at users files n.users (omega arith) ∙ ap (λ (f : Format). map (λ r. file_block f r (numbers_in r)) e.files) (sym of.format);
          numbered = stands.rules.numbered;
          each = stands.rules.each_file;
        };
        rules = record {
          users_are = stands.rules.users;
          owners = stands.rules.owners;
          in_order = stands.rules.in_order;
          files_are = stands.rules.files;
          dated = subst (λ (m : ℕ). StampsBelow m e.files) (sym of.note.next_stamp) stands.rules.dated;
          copied = stands.rules.copied;
          follow = moved e.serial e.files (content_at e) (content_from n) (content_at e + length e.content) (content_to n) (omega arith) (omega arith) stands.rules.follow;
        };
      }

-- No dump is at this place.
pub none_by_header : (serial place : ℕ) (rack : Rack) → FindsHeader serial place rack None → HasNone serial place rack
none_by_header serial place rack finds = λ bs told d on at stands.
    let found = finds bs told d stands.rules at (ap (slice_get bs) (sym at) ∙ header_there bs d stands) in
    let is = found.1 in
    let no : ⊥ = cc in no

same_header_found : (serial place : ℕ) (rack : Rack) (h : Header) → FindsHeader serial place rack (Some h) → (bs : List (List ℕ)) → blocks_of serial rack ≡ Some bs → (d : Dump) → d.place ≡ place → StandsOn bs d → IsHeaderOf d h
same_header_found serial place rack h finds bs told d at stands =
    let found = finds bs told d stands.rules at (ap (slice_get bs) (sym at) ∙ header_there bs d stands) in
    let same : h ≡ found.0 = let is = found.1 in cc in
    subst (IsHeaderOf d) (sym same) found.2

pub none_by_mark : (serial place : ℕ) (rack mid : Rack) (h : Header) → OnlyReads rack mid → FindsHeader serial place rack (Some h) → FindsMark serial h.note mid false → HasNone serial place rack
none_by_mark serial place rack mid h only finds finds_mark = λ bs told d on at stands.
    let of = same_header_found serial place rack h finds bs told d at stands in
    false≢true (finds_mark bs (blocks_after_reads serial rack mid only ∙ told) d of.note (mark_there bs d stands h.note of.note))

pub none_by_records : (serial place : ℕ) (rack mid : Rack) (h : Header) → OnlyReads rack mid → FindsHeader serial place rack (Some h) → HasNoRecords serial h mid → HasNone serial place rack
none_by_records serial place rack mid h only finds none = λ bs told d on at stands.
    let of = same_header_found serial place rack h finds bs told d at stands in
    none bs (blocks_after_reads serial rack mid only ∙ told) d.users d.held d.files (subst (λ (s : ℕ). HasRecords s h d.users d.held d.files (record_blocks h.note bs)) on (has_records bs d stands h of))

-- THE DUMP THAT WAS FOUND
zeros : List ℕ
zeros = replicate 512 0

zeros_block : IsBlock zeros
unfolding zeros
zeros_block = record { size = length-replicate {A = ℕ} 512 0; bytes = λ i. zero_below 512 i }
  where
    zero_below : (n i : ℕ) → get_or (replicate n 0) i 0 < 256
    zero_below zero i = omega arith
    zero_below (suc n) zero = omega arith
    zero_below (suc n) (suc i) = zero_below n i

whole_blocks : (o : Option Reel) → ((r : Reel) → o ≡ Some r → ForSome r.blocks (λ bs. All IsBlock bs)) → ForSome (blocks_in o) (λ bs. All IsBlock bs)
whole_blocks None each = λ bs told. absurd (let no : ⊥ = cc in no)
whole_blocks (Some r) each = each r refl

module _ (serial place : ℕ) (old mid last after : Rack) (h : Header) (dir : DumpDir) (are : AreReels old.reels) (first : OnlyReads old mid) (second : OnlyReads old last)
    (header : HasHeader serial place old h) (mark : HasMark serial h.note mid last) (records : HoldsRecords serial h last after dir) where
  with_content : (content : List (List ℕ)) → length content + (h.note.users + h.note.files) ≡ h.note.count → All IsBlock content
      → ForSome (blocks_of serial old) (λ bs. content ≡ take (length content) (drop (content_from h.note) bs)) → IsFound serial place old dir
  with_content content many whole content_is =
      let e = dump_from serial h dir content in
      let of = is_header serial h dir records.blocks content header.limits mark.low records.records many in
      let users_long = records.records.users_long in
      let files_long = records.records.files_long in
      record {
        dump = e;
        rules = is_dump serial h dir records.blocks content header.limits mark.low records.records many whole;
        on = refl;
        at = header.at;
        dir_is = is_dir serial h dir records.blocks content header.limits mark.low records.records many records.note;
        stands = λ bs told.
            stands_from serial h dir records.blocks content header.limits mark.low records.records many bs (records.told bs (blocks_after_reads serial old last second ∙ told)) (content_is bs told)
            (ap (slice_get bs) header.at ∙ header.block bs told e of) (mark.block bs (blocks_after_reads serial old mid first ∙ told) e of.note) whole;
        fits = λ r there.
            let (q, is, len) = same_len serial old mid first r there in
            let inside = mark.fits q is in omega arith;
      }

  by_told : (o : Option (List (List ℕ))) → blocks_of serial old ≡ o → IsFound serial place old dir
  by_told None untold =
      let n : ℕ = h.note.count - (h.note.users + h.note.files) in
      let some = header.limits.count in
      let long = length-replicate n zeros in
      with_content (replicate n zeros) (omega arith) (All-replicate IsBlock n zeros zeros_block) (λ bs told. absurd (let no : (let a : Option (List (List ℕ)) = None in a ≡ Some bs) = sym untold ∙ told in let none : ⊥ = cc in none))
  by_told (Some bs) told =
      let n : ℕ = h.note.count - (h.note.users + h.note.files) in
      let some = header.limits.count in
      let whole = whole_blocks (reel serial old.reels) (λ r there. (is_reel serial old.reels r are.each there).whole) bs told in
      let probe : Dump = dump_from serial h dir (replicate n zeros) in
      let probe_long = length-replicate n zeros in
      let of = is_header serial h dir records.blocks (replicate n zeros) header.limits mark.low records.records (omega arith) in
      let inside = slice_get_within bs (mark_at h.note) (mark_block probe) (mark.block bs (blocks_after_reads serial old mid first ∙ told) probe of.note) in
      let behind = length-drop (content_from h.note) bs in
      let cut = length-take-le n (drop (content_from h.note) bs) (omega arith) in
      with_content (take n (drop (content_from h.note) bs)) (omega arith) (All-take IsBlock n (drop (content_from h.note) bs) (All-drop IsBlock (content_from h.note) bs whole))
      (λ cs told_too. let same : bs ≡ cs = let both = sym told ∙ told_too in cc in
      ap (λ (l : List (List ℕ)). take n (drop (content_from h.note) l)) same ∙ ap (λ (m : ℕ). take m (drop (content_from h.note) cs)) (sym cut))

  pub dump_found : IsFound serial place old dir
  dump_found = by_told (blocks_of serial old) refl

-- THE MARK, from the block that was read in its place
reel_there : (s : ℕ) (old new : Rack) → ReadsTape s old None new → (r : Reel) × (reel s old.reels ≡ Some r)
reel_there s old new reads = by_reel (reel s old.reels) refl
  where
    by_reel : (o : Option Reel) → reel s old.reels ≡ o → (r : Reel) × (reel s old.reels ≡ Some r)
    by_reel None none = let gave = reads.no_tape.1 (ap refuses_unmount none) in absurd (let no : ⊥ = cc in no)
    by_reel (Some r) some = (r, some)

module _ (s k : ℕ) (n : DumpNote) (old new : Rack) (block : List ℕ) (are : AreReels old.reels) (reads : ReadsTape s old None new) (inside : ForSome (reel s old.reels) (λ r. k < r.len))
    (exact : k < 65536 → k ≡ mark_at n) (found : ForSome (blocks_of s old) (λ bs. slice_get bs k ≡ Some block)) where
  at_place : (k < 65536) × (k ≡ mark_at n)
  at_place =
      let (r, there) = reel_there s old new reads in
      let under = inside r there in
      let whole = is_reel s old.reels r are.each there in
      let within = whole.within in
      let most = whole.sized_most in
      let low : k < 65536 = omega arith in (low, exact low)

  pub mark_found : HasRead s k old new → ((d : Dump) → IsNoteOf d n → block ≡ mark_block d) → HasMark s n old new
  mark_found has is =
      let low = at_place.0 in
      let at = at_place.1 in
      record {
        low = omega arith;
        fits = λ r there. let under = inside r there in omega arith;
        block = λ bs told d of. ap (slice_get bs) (sym at) ∙ found bs told ∙ ap (λ (b : List ℕ). Some b) (is d of);
        read = subst (λ (m : ℕ). HasRead s m old new) at has;
      }

  pub mark_again : (is : Bool) → ((d : Dump) → IsNoteOf d n → block ≡ mark_block d → IsTrue is) → FindsMark s n old is
  mark_again is again = λ bs told d of there. again d of (same_Some block (mark_block d) (sym (found bs told) ∙ ap (slice_get bs) at_place.1 ∙ there))

pub mark_past : (s k : ℕ) (n : DumpNote) (old : Rack) → k ≤ mark_at n → ForSome (blocks_of s old) (λ bs. slice_get bs k ≡ None) → FindsMark s n old false
mark_past s k n old most none = λ bs told d of there.
    let short = none_within bs k (none bs told) in
    let inside = slice_get_within bs (mark_at n) (mark_block d) there in
    absurd (let no : ⊥ = omega arith in no)

-- THE BLOCKS OF A DUMP that were read
pub dump_read : (serial place : ℕ) (old mid last new : Rack) (h : Header) (dir : DumpDir) → h.note.place ≡ place → OnlyReads old mid → OnlyReads mid last → OnlyReads last new
    → HasRead serial place old mid → HasMark serial h.note mid last → HoldsRecords serial h last new dir → HasReadDump serial dir.note old new
dump_read serial place old mid last new h dir at one two three header mark records =
    subst (λ (n : DumpNote). HasReadDump serial n old new) (sym records.note) (record {
      front = λ k least below. by_place k least below (cases_lt k (place + 1));
      mark = read_then serial (mark_at h.note) old last new (then_read serial (mark_at h.note) old mid last one mark.read) three;
    })
  where
    by_place : (k : ℕ) → h.note.place ≤ k → k < h.note.place + 1 + h.note.users + h.note.files → (k < place + 1) ⊎ (place + 1 ≤ k) → HasRead serial k old new
    by_place k least below (inl first) =
        subst (λ (n : ℕ). HasRead serial n old new) (let same : place ≡ k = omega arith in same) (read_then serial place old mid new header (more_reads mid last new two three))
    by_place k least below (inr behind) = then_read serial k old last new (more_reads old mid last one two) (records.read k (omega arith) below)

-- what is found of the records, found of the dump
pub some_found : (o : Option DumpDir) (P Q : DumpDir → Type 0) → ((dir : DumpDir) → P dir → Q dir) → IfSome o P → IfSome o Q
some_found None P Q step is = is
some_found (Some dir) P Q step is = step dir is

pub none_found : {A : Type 0} (o : Option A) (P Q : Type 0) → (P → Q) → IfNone o P → IfNone o Q
none_found None P Q step is = step is
none_found (Some x) P Q step is = is

-- THE RECORDS that were read from their blocks
pub holds_records : (serial : ℕ) (h : Header) (old new : Rack) (dir : DumpDir) (blocks read : List (List ℕ)) (count : ℕ) → dir.note ≡ h.note
    → HasRecords serial h dir.users.items dir.held.items dir.files.items blocks → blocks ≡ read → count ≡ h.note.users + h.note.files
    → ForSome (blocks_of serial old) (λ bs. read ≡ take count (drop (h.note.place + 1) bs)) → ((k : ℕ) → h.note.place + 1 ≤ k → k < h.note.place + 1 + length read → HasRead serial k old new)
    → HoldsRecords serial h old new dir
holds_records serial h old new dir blocks read count note has same many told reads =
    let long = sym (ap length same) ∙ has.long in
    record {
      note = note;
      blocks = blocks;
      records = has;
      told = λ bs at. same ∙ told bs at ∙ ap (λ (n : ℕ). take n (drop (h.note.place + 1) bs)) many;
      read = λ k least below. reads k least (omega arith);
    }
