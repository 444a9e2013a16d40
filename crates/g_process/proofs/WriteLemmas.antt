-- The dump, block by block: what holds after each write, and that the next one can be made.
-- serves: copies_from, fill, first_lost (some), release (cut), write_blocks, AnswerLemmas, ContentLemmas, DumpLemmas, ExitLemmas, JobLemmas, and 3 more
use Rattle.std.proofs.Common.{◌≡◌, ◌≢◌, ℕ, zero, suc, ◌+◌, ◌<◌, ◌≤◌, Bool, true, List, [], ◌∷◌, ◌++◌, get_or, length, Some, None, refl, sym, ◌∙◌, ap, arith, subst, inl, inr, map, option_map, if◌then◌else◌, slice_get}
use Rattle.std.specs.Prelude.{◌⊎◌, ◌||◌, Contains, nat_lt, not}
use Rattle.std.proofs.lemmas.Bool.{cond-true, le-ltb, lt-ltb}
use Rattle.std.proofs.lemmas.List.{length-append}
use Rattle.std.proofs.lemmas.List.Elements.{All-contains, All-weaker}
use Rattle.std.proofs.lemmas.Option.{same_Some}
use Rattle.g_base.specs.Block.{blocks_for}
use Rattle.g_entry.specs.declared.file_rec.FileRec.{FileRec}
use Rattle.g_entry.specs.declared.file_rec.TapeCopy.{TapeCopy}
use Rattle.g_tape.specs.declared.fault.TapeFault.TheVariants.{NotMounted, End}
use Rattle.g_tape.specs.Rack.{Rack, changed, reel, refuses_write}
use Rattle.g_tape.specs.Reads.{OnlyReads, time_of}
use Rattle.g_tape.specs.Reel.{Reel}
use Rattle.g_disc_contents.specs.Facts.{OnlineFacts}
use Rattle.g_incr.specs.Plan.{Plan, needs}
use Rattle.g_incr.proofs.ListLemmas.{get_push}
use Rattle.g_dumper.proofs.BeginLemmas.{after_reads}
use Rattle.g_process.specs.Progress.{AreReadable, HasWritten, IsBeside, IsBlockOf, IsReadable, IsSource, MayWrite, WroteAt, filled}
use Rattle.g_process.proofs.DurableLemmas.{durably_more, durably_one, none_durably}
use Rattle.g_process.proofs.ReelLemmas.{beside_ending, beside_more, beside_none, blocks_beside, filled_capacity, filled_mounted, other_beside, read_beside, read_later, this_beside, times_ending}

-- an element of a list is in it
pub element : {X : Type 0} (xs : List X) (i : ℕ) (x : X) → slice_get xs i ≡ Some x → Contains xs x
element [] i x is = absurd (let no : ⊥ = cc in no)
element (y ∷ ys) zero x is = (0, omega arith, same_Some y x is)
element (y ∷ ys) (suc i) x is =
    let (j, within, same) = element ys i x is in
    (suc j, omega (arith, within), same)

pub get_map : {X Y : Type 0} (f : X → Y) (xs : List X) (i : ℕ) (x : X) → slice_get xs i ≡ Some x → slice_get (map f xs) i ≡ Some (f x)
get_map {X = X} f [] i x is = absurd (let no : ⊥ = cc in no)
get_map {X = X} f (y ∷ ys) zero x is = ap (λ (z : X). Some (f z)) (same_Some y x is)
get_map {X = X} f (y ∷ ys) (suc i) x is = get_map f ys i x is

pub contained : {X : Type 0} (xs : List X) (x : X) → Contains xs x → (i : ℕ) × (slice_get xs i ≡ Some x)
contained [] x (i, within, is) = absurd (let no : ⊥ = omega (arith, within) in no)
contained (y ∷ ys) x (zero, within, is) = (0, ap Some is)
contained (y ∷ ys) x (suc i, within, is) =
    let (j, at) = contained ys x (i, omega (arith, within), is) in
    (suc j, at)

pub element_below : {X : Type 0} (xs : List X) (i : ℕ) (x : X) → slice_get xs i ≡ Some x → i < length xs
element_below [] i x is = absurd (let no : ⊥ = cc in no)
element_below (y ∷ ys) zero x is = omega arith
element_below (y ∷ ys) (suc i) x is = omega (arith, element_below ys i x is)

pub placed : {X : Type 0} (xs : List X) (i : ℕ) (x : X) → i < length xs → x ≡ get_or xs i x → slice_get xs i ≡ Some x
placed [] i x within is = absurd (let no : ⊥ = omega (arith, within) in no)
placed (y ∷ ys) zero x within is = ap Some (sym is)
placed (y ∷ ys) (suc i) x within is = placed ys i x (omega (arith, within)) is

-- EACH VERSION CAN STILL BE READ
readable_on : (serial : ℕ) (o : OnlineFacts) (old mid : Rack) (w : List (List ℕ)) (r : FileRec) → IsBeside (changed serial (filled w) old) mid → IsReadable serial o old r → IsReadable serial o mid r
readable_on serial o old mid w r so is = record {
  file = is.file;
  offline = λ f there named off.
      let (copy, tape, apart, q, at, mounted, fits) = is.offline f there named off in
      let (now, found, same) = after_reads (reel copy.serial mid.reels) (reel copy.serial old.reels) q at (other_beside serial copy.serial w old mid (λ e. apart (sym e)) so) in
      (copy, tape, apart, now, found, ap (λ (x : Reel). x.mounted) same ∙ mounted, subst (λ (n : ℕ). copy.first + blocks_for r.len ≤ n) (sym (ap (λ (x : Reel). x.len) same)) fits);
}

pub readable_then : (serial : ℕ) (p : Plan) (rs : List FileRec) (o : OnlineFacts) (old mid : Rack) (w : List (List ℕ)) → IsBeside (changed serial (filled w) old) mid → AreReadable serial p rs o old
    → AreReadable serial p rs o mid
readable_then serial p rs o old mid w so are = record {
  waiting_are = are.waiting_are;
  each = All-weaker (IsReadable serial o old) (IsReadable serial o mid) (λ r is. readable_on serial o old mid w r so is) rs are.each;
}

-- WHAT WAS READ stays read, and a block that is one by a later rack is one by the first
source_later : (o : OnlineFacts) (old mid new : Rack) (r : FileRec) (part : ℕ) (block : List ℕ) → ((s k : ℕ) → time_of s k mid ≤ time_of s k new) → IsSource o old mid r part block
    → IsSource o old new r part block
source_later o old mid new r part block more is = record {
  online = is.online;
  offline = λ f there named off copy tape.
      let (told, read) = is.offline f there named off copy tape in
      (told, read_later copy.serial (copy.first + part) old mid new read (more copy.serial (copy.first + part)));
}

block_later : (p : Plan) (rs : List FileRec) (o : OnlineFacts) (old mid new : Rack) (k : ℕ) (block : List ℕ) → ((s k : ℕ) → time_of s k mid ≤ time_of s k new) → IsBlockOf p rs o old mid k block
    → IsBlockOf p rs o old new k block
block_later p rs o old mid new k block more (inl ready) = inl ready
block_later p rs o old mid new k block more (inr (i, part, r, at, stands, is)) = inr (i, part, r, at, stands, source_later o old mid new r part block more is)

source_before : (serial : ℕ) (o : OnlineFacts) (old mid new : Rack) (w : List (List ℕ)) (r : FileRec) (part : ℕ) (block : List ℕ) → IsBeside (changed serial (filled w) old) mid → IsReadable serial o old r
    → IsSource o mid new r part block → IsSource o old new r part block
source_before serial o old mid new w r part block so readable is = record {
  online = is.online;
  offline = λ f there named off copy tape.
      let (other, other_tape, apart, q, at, mounted, fits) = readable.offline f there named off in
      let same : other ≡ copy = same_Some other copy (sym other_tape ∙ tape) in
      let away : serial ≢ copy.serial = λ e. apart (ap (λ (c : TapeCopy). c.serial) same ∙ sym e) in
      let (told, read) = is.offline f there named off copy tape in
      (λ blocks known. told blocks (blocks_beside serial copy.serial w old mid away so ∙ known), read_beside serial copy.serial (copy.first + part) w old mid new so read);
}

block_before : (serial : ℕ) (p : Plan) (rs : List FileRec) (o : OnlineFacts) (old mid new : Rack) (w : List (List ℕ)) (k : ℕ) (block : List ℕ) → IsBeside (changed serial (filled w) old) mid
    → AreReadable serial p rs o old → IsBlockOf p rs o mid new k block → IsBlockOf p rs o old new k block
block_before serial p rs o old mid new w k block so are (inl ready) = inl ready
block_before serial p rs o old mid new w k block so are (inr (i, part, r, at, stands, is)) =
    inr (i, part, r, at, stands, source_before serial o old mid new w r part block so (All-contains (IsReadable serial o old) rs r are.each (element rs i r at)) is)

-- NOTHING IS WRITTEN at the beginning
pub nothing_written : (serial : ℕ) (p : Plan) (rs : List FileRec) (o : OnlineFacts) (rack : Rack) → HasWritten serial p rs o 0 rack rack
nothing_written serial p rs o rack = record {
  written = [];
  long = refl;
  each = λ j block is. absurd (let no : ⊥ = cc in no);
  rack = beside_none serial rack;
  kept = refl;
  durably = none_durably serial rack;
}

-- reads after it
pub written_more : (serial : ℕ) (p : Plan) (rs : List FileRec) (o : OnlineFacts) (k : ℕ) (old mid new : Rack) → HasWritten serial p rs o k old mid → OnlyReads mid new → new.read_faults ≡ mid.read_faults
    → HasWritten serial p rs o k old new
written_more serial p rs o k old mid new so only kept = record {
  written = so.written;
  long = so.long;
  each = λ j block is. block_later p rs o old mid new j block (λ s n. only.times s n) (so.each j block is);
  rack = beside_more (changed serial (filled so.written) old) mid new so.rack only;
  kept = kept ∙ so.kept;
  durably = durably_more serial so.written old mid new so.durably only;
}

-- ONE MORE BLOCK
pub wrote_one : (serial : ℕ) (p : Plan) (rs : List FileRec) (o : OnlineFacts) (k : ℕ) (old mid new : Rack) → AreReadable serial p rs o old → HasWritten serial p rs o k old mid → WroteAt serial p rs o k mid new
    → HasWritten serial p rs o (k + 1) old new
unfolding written_more
wrote_one serial p rs o k old mid new are so wrote =
    let w : List (List ℕ) = so.written in
    let behind : HasWritten serial p rs o k old wrote.mid = written_more serial p rs o k old mid wrote.mid so wrote.reads wrote.kept in
    let rack : IsBeside (changed serial (filled (w ++ wrote.block ∷ [])) old) new =
    beside_ending serial k w wrote.block old wrote.mid new (sym so.long) behind.rack wrote.rack in
    let same_times : (s n : ℕ) → time_of s n wrote.mid ≤ time_of s n new = times_ending serial k wrote.block wrote.mid new wrote.rack in
    record {
      written = w ++ wrote.block ∷ [];
      long = let long = so.long in let sum = length-append w (wrote.block ∷ []) in omega (arith, long, sum);
      each = λ j block is. by_place j block same_times (get_push w wrote.block j block is);
      rack = rack;
      kept = ap (λ (x : Rack). x.read_faults) wrote.rack ∙ behind.kept;
      durably = durably_one serial k w wrote.block old wrote.mid new so.long behind.durably wrote.free (ap (λ (x : Rack). x.reels) wrote.rack) wrote.durably;
    }
  where
    by_place : (j : ℕ) (block : List ℕ) → ((s n : ℕ) → time_of s n wrote.mid ≤ time_of s n new) → (slice_get so.written j ≡ Some block) ⊎ ((j ≡ length so.written) × (block ≡ wrote.block))
        → IsBlockOf p rs o old new j block
    by_place j block more (inl before) =
        block_later p rs o old wrote.mid new j block more (block_later p rs o old mid wrote.mid j block (λ s n. wrote.reads.times s n) (so.each j block before))
    by_place j block more (inr (at, is)) =
        let here : IsBlockOf p rs o old wrote.mid k wrote.block = block_before serial p rs o old mid wrote.mid so.written k wrote.block so.rack are wrote.block_is in
        block_later p rs o old wrote.mid new j block more
        (subst (λ (n : ℕ). IsBlockOf p rs o old wrote.mid n block) (sym (at ∙ so.long)) (subst (λ (b : List ℕ). IsBlockOf p rs o old wrote.mid k b) (sym is) here))

-- THE NEXT BLOCK CAN BE WRITTEN
pub free_there : (k : ℕ) (q : Reel) → q.mounted ≡ true → k ≤ q.len → k < q.capacity → refuses_write k (Some q) ≡ None
free_there k q mounted long below =
    cond-true q.mounted (if nat_lt q.len k || not (nat_lt k q.capacity) then Some End else None) (Some NotMounted) mounted
    ∙ ap (λ (b : Bool). if b || not (nat_lt k q.capacity) then Some End else None) (le-ltb q.len k long)
    ∙ ap (λ (b : Bool). if not b then Some End else None) (lt-ltb k q.capacity below)

pub next_free : (serial : ℕ) (p : Plan) (rs : List FileRec) (o : OnlineFacts) (k : ℕ) (old mid : Rack) → MayWrite serial p rs o old → HasWritten serial p rs o k old mid → k < needs p
    → refuses_write k (reel serial mid.reels) ≡ None
next_free serial p rs o k old mid may so less =
    let (q, at, same) = after_reads (reel serial mid.reels) (option_map (filled so.written) (reel serial old.reels)) (filled so.written may.on) (ap (option_map (filled so.written)) may.reel_is)
    (this_beside serial so.written old mid so.rack) in
    let mounted : q.mounted ≡ true = ap (λ (x : Reel). x.mounted) same ∙ filled_mounted so.written may.on ∙ may.mounted in
    let capacity : q.capacity ≡ may.on.capacity = ap (λ (x : Reel). x.capacity) same ∙ filled_capacity so.written may.on in
    let len : q.len ≡ (filled so.written may.on).len = ap (λ (x : Reel). x.len) same in
    let room = may.room in
    let long = so.long in
    let high : k ≤ q.len = by_k len long in
    ap (refuses_write k) at ∙ free_there k q mounted high (omega (arith, less, room, capacity))
  where
    by_k : {n : ℕ} → n ≡ (filled so.written may.on).len → length so.written ≡ k → k ≤ n
    by_k is long = by_written so.written k long is
      where
        by_written : (w : List (List ℕ)) (j : ℕ) → length w ≡ j → {n : ℕ} → n ≡ (filled w may.on).len → j ≤ n
        by_written [] j e is = omega (arith, e)
        by_written (b ∷ bs) j e is = omega (arith, e, is)
