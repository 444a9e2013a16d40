-- A block of a version: where it is read, and what is known of it.
-- serves: fill (fills), read_source (read), release (cut), write_block (writes)
use Rattle.std.proofs.Common.{◌≡◌, ◌≢◌, ℕ, zero, suc, ◌+◌, ◌<◌, ◌≤◌, ◌^◌, Bool, true, false, List, [], ◌∷◌, get_or, map, option_map, Option, Some, None, Ok, Err, refl, sym, ◌∙◌, ap, arith, subst, inr, slice_get, if◌then◌else◌}
use Rattle.std.specs.Prelude.{Contains, Result, nat_lt}
use Rattle.std.specs.Option.{ForSome}
use Rattle.std.proofs.lemmas.Bool.{cond-true, lt-ltb}
use Rattle.std.proofs.lemmas.List.Elements.{All-contains}
use Rattle.std.proofs.lemmas.Option.{none-some, same_Some}
use Rattle.g_base.specs.Block.{blocks_for}
use Rattle.g_base.specs.Counts.{Rose}
use Rattle.g_base.specs.Fuse.{Arms}
use Rattle.g_disc.specs.Disc.{DiscState, ReadsByCause}
use Rattle.g_entry.specs.declared.file_rec.FileRec.{FileRec}
use Rattle.g_entry.specs.declared.file_rec.TapeCopy.{TapeCopy}
use Rattle.g_tape.specs.declared.fault.TapeFault.{TapeFault}
use Rattle.g_tape.specs.declared.fault.TapeFault.TheVariants as tapes
use Rattle.g_tape.specs.Durable.{WritesDurably}
use Rattle.g_tape.specs.Rack.{AreReels, Rack, Reading, Writing, changed, reel, refuses_read, refuses_write}
use Rattle.g_tape.specs.Reads.{HasRead, OnlyReads, blocks_in, blocks_of, unread}
use Rattle.g_tape.specs.Reel.{Reel, Remains, ending, left_by}
use Rattle.g_tape.proofs.ReadLemmas.{has_read, is_reel, nothing_read, reading_only, reel_after_reads}
use Rattle.g_plain.specs.declared.faults.StoreFault.{StoreFault}
use Rattle.g_disc_contents.specs.Contents.{File}
use Rattle.g_disc_contents.specs.Facts.{OnlineFacts}
use Rattle.g_disc_contents.specs.Parts.{IsPart}
use Rattle.g_incr.specs.Plan.{IsContentAt, Plan}
use Rattle.g_laws_store.specs.ForgottenCopies.{bare_rec}
use Rattle.g_process.specs.Progress.{AreReadable, FailedAt, Fills, IsBlockOf, IsReadable, ReadsSource, WroteAt}
use Rattle.g_process.proofs.WriteLemmas.{element, element_below, placed}

-- a disc after reads is unchanged, except for its count of failed reads
abbrev disc_of : Option (List (List ℕ)) → ℕ → ℕ → ℕ → Option ℕ → Arms → List ℕ → List ℕ → ℕ → DiscState
disc_of held size faults writes fuse arms volatile dropped reads =
    record { held = held; size = size; read_faults = reads; write_faults = faults; writes = writes; fuse = fuse; arms = arms; volatile = volatile; dropped = dropped }

pub disc_failed : (F : Type 0) (a b : DiscState) → ReadsByCause F a b → b ≡ record a { read_faults = b.read_faults }
disc_failed F a b r =
    ap (λ (x : Option (List (List ℕ))). disc_of x b.size b.write_faults b.writes b.fuse b.arms b.volatile b.dropped b.read_faults) r.held
    ∙ ap (λ (x : ℕ). disc_of a.held x b.write_faults b.writes b.fuse b.arms b.volatile b.dropped b.read_faults) r.size
    ∙ ap (λ (x : ℕ). disc_of a.held a.size x b.writes b.fuse b.arms b.volatile b.dropped b.read_faults) r.write_faults
    ∙ ap (λ (x : ℕ). disc_of a.held a.size a.write_faults x b.fuse b.arms b.volatile b.dropped b.read_faults) r.writes
    ∙ ap (λ (x : Option ℕ). disc_of a.held a.size a.write_faults a.writes x b.arms b.volatile b.dropped b.read_faults) r.fuse
    ∙ ap (λ (x : Arms). disc_of a.held a.size a.write_faults a.writes a.fuse x b.volatile b.dropped b.read_faults) r.arms
    ∙ ap (λ (x : List ℕ). disc_of a.held a.size a.write_faults a.writes a.fuse a.arms x b.dropped b.read_faults) r.volatile
    ∙ ap (λ (x : List ℕ). disc_of a.held a.size a.write_faults a.writes a.fuse a.arms a.volatile x b.read_faults) r.dropped

pub online_failed : (F : Type 0) (o o' : OnlineFacts) → o' ≡ record o { disc = o'.disc } → ReadsByCause F o.disc o'.disc → o' ≡ record o { disc = record o.disc { read_faults = o'.disc.read_faults } }
online_failed F o o' same r = same ∙ ap (λ (d : DiscState). let x : OnlineFacts = record o { disc = d } in x) (disc_failed F o.disc o'.disc r)

pub online_same : (F : Type 0) (o o' : OnlineFacts) → o' ≡ record o { disc = o'.disc } → ReadsByCause F o.disc o'.disc → (F → ⊥) → o' ≡ o
online_same F o o' same r ok =
    online_failed F o o' same r ∙ ap (λ (n : ℕ). let x : OnlineFacts = record o { disc = record o.disc { read_faults = n } } in x) (r.kept ok)

-- what is known after a failed read or write that isn't refused
pub read_fails : (s k : ℕ) (old new : Rack) (fault : TapeFault) (into : List ℕ) → refuses_read k (reel s old.reels) ≡ None → (let r : Result (Unit {0}) TapeFault = Err fault in Reading s k old r into new)
    → Rose old.read_faults new.read_faults × (new ≡ record old { read_faults = new.read_faults })
read_fails s k old new tapes.ReadFailed into free (refused, rose, is) = (rose, is)
read_fails s k old new tapes.WriteFailed into free reading = absurd reading
read_fails s k old new tapes.NoTape into free (refused, is) = absurd (let no : ⊥ = cc in no)
read_fails s k old new tapes.NotMounted into free (refused, is) = absurd (let no : ⊥ = cc in no)
read_fails s k old new tapes.End into free (refused, is) = absurd (let no : ⊥ = cc in no)

pub write_fails : (s k : ℕ) (block : List ℕ) (old new : Rack) (fault : TapeFault) → refuses_write k (reel s old.reels) ≡ None → (let r : Result (Unit {0}) TapeFault = Err fault in Writing s k block old r new)
    → Rose old.write_faults new.write_faults × ((how : Remains) × (new ≡ record (changed s (left_by how k) old) { write_faults = new.write_faults; fuse = new.fuse; risks = new.risks }))
write_fails s k block old new tapes.WriteFailed free (refused, rose, (how, is)) =
    (rose, (how, is ∙ ap (λ (f : Option ℕ). let x : Rack = record (changed s (left_by how k) old) { write_faults = new.write_faults; fuse = f; risks = new.risks } in x) (sym (ap (λ (x : Rack). x.fuse) is))))
write_fails s k block old new tapes.ReadFailed free writing = absurd writing
write_fails s k block old new tapes.NoTape free (refused, is) = absurd (let no : ⊥ = cc in no)
write_fails s k block old new tapes.NotMounted free (refused, is) = absurd (let no : ⊥ = cc in no)
write_fails s k block old new tapes.End free (refused, is) = absurd (let no : ⊥ = cc in no)

blocks_told : (s k : ℕ) (rack : Rack) (into : List ℕ) → ForSome (reel s rack.reels) (λ r. ForSome r.blocks (λ bs. slice_get bs k ≡ Some into)) → ForSome (blocks_of s rack) (λ bs. slice_get bs k ≡ Some into)
blocks_told s k rack into there = by_reel (reel s rack.reels) there
  where
    by_reel : (x : Option Reel) → ForSome x (λ r. ForSome r.blocks (λ bs. slice_get bs k ≡ Some into)) → ForSome (blocks_in x) (λ bs. slice_get bs k ≡ Some into)
    by_reel None it = λ bs is. absurd (none-some bs is)
    by_reel (Some r) it = λ bs is. it r refl bs is

-- A VERSION that can be read
module _ (o : OnlineFacts) (old : Rack) (r : FileRec) (part : ℕ) (serial : ℕ) (readable : IsReadable serial o old r) (within : part < blocks_for r.len) where
  pub the_file : (is : Bool) → ((f : File) → Contains o.contents.files f → f.rec.number ≡ r.number → is ≡ f.online) → is ≡ true
      → (f : File) × Contains o.contents.files f × (f.rec.number ≡ r.number) × (f.online ≡ true) × (part < blocks_for f.rec.len)
  the_file is tells on =
      let (f, there, same) = readable.file in
      let named : f.rec.number ≡ r.number = ap (λ (x : FileRec). x.number) same in
      (f, there, named, sym (tells f there named) ∙ on, subst (λ (x : FileRec). part < blocks_for x.len) (sym same) within)

  -- it is on the disc
  pub from_disc : (o' : OnlineFacts) (block : List ℕ) (is : Bool) (F : Type 0) → ((f : File) → Contains o.contents.files f → f.rec.number ≡ r.number → is ≡ f.online) → is ≡ true
      → ((f : File) → Contains o.contents.files f → f.rec.number ≡ r.number → ForSome f.bytes (λ text. IsPart text part block)) → o' ≡ record o { disc = o'.disc } → ReadsByCause F o.disc o'.disc → (F → ⊥)
      → ReadsSource r part o old (Ok tt) block o' old
  from_disc o' block is F tells on is_part same reads ok = (
    online_same F o o' same reads ok,
    record {
      online = λ f there named _. is_part f there named;
      offline = λ f there named off copy tape. absurd (let here = tells f there named in (let no : ⊥ = cc in no));
    },
    nothing_read old,
    refl,
  )

  -- or only on tape
  pub the_copy : (is : Bool) → ((f : File) → Contains o.contents.files f → f.rec.number ≡ r.number → is ≡ f.online) → is ≡ false
      → (c : TapeCopy) × (r.tape ≡ Some c) × (c.serial ≢ serial) × (q : Reel) × (reel c.serial old.reels ≡ Some q) × (q.mounted ≡ true) × (c.first + blocks_for r.len ≤ q.len)
  the_copy is tells off =
      let (f, there, same) = readable.file in
      let named : f.rec.number ≡ r.number = ap (λ (x : FileRec). x.number) same in
      readable.offline f there named (sym (tells f there named) ∙ off)

  pub never_none : (is : Bool) → ((f : File) → Contains o.contents.files f → f.rec.number ≡ r.number → is ≡ f.online) → is ≡ false → r.tape ≡ None → ⊥
  never_none is tells off none =
      let it = the_copy is tells off in
      none-some it.0 (sym none ∙ it.1)

  module _ (are : AreReels old.reels) (copy : TapeCopy) (tape : r.tape ≡ Some copy) (is : Bool) (tells : (f : File) → Contains o.contents.files f → f.rec.number ≡ r.number → is ≡ f.online)
      (off : is ≡ false) where
    lies : (q : Reel) × (reel copy.serial old.reels ≡ Some q) × (q.mounted ≡ true) × (copy.first + blocks_for r.len ≤ q.len)
    lies =
        let (c, at, apart, q, found, mounted, fits) = the_copy is tells off in
        let same : c ≡ copy = same_Some c copy (sym at ∙ tape) in
        (q, subst (λ (x : TapeCopy). reel x.serial old.reels ≡ Some q) same found, mounted, subst (λ (x : TapeCopy). x.first + blocks_for r.len ≤ q.len) same fits)

    pub low : copy.first + part < 2 ^ 32
    low =
        let (q, found, mounted, fits) = lies in
        let right = is_reel copy.serial old.reels q are.each found in
        let long = right.within in
        let most = right.sized_most in
        omega (arith, within, fits, long, most)

    pub free : refuses_read (copy.first + part) (reel copy.serial old.reels) ≡ None
    free =
        let (q, found, mounted, fits) = lies in
        ap (refuses_read (copy.first + part)) found
        ∙ cond-true q.mounted (if nat_lt (copy.first + part) q.len then None else Some tapes.End) (Some tapes.NotMounted) mounted
        ∙ cond-true (nat_lt (copy.first + part) q.len) None (Some tapes.End) (lt-ltb (copy.first + part) q.len (omega (arith, within, fits)))

    pub from_tape : (new : Rack) (block : List ℕ) (u : Unit {0}) → (let x : Result (Unit {0}) TapeFault = Ok u in Reading copy.serial (copy.first + part) old x block new)
        → ReadsSource r part o old (Ok tt) block o new
    from_tape new block u reading =
        let good : Reading copy.serial (copy.first + part) old (Ok tt) block new = reading in (
          refl,
          record {
            online = λ f there named on. absurd (let here = tells f there named in (let no : ⊥ = cc in no));
            offline = λ f there named _ other at.
                let same : copy ≡ other = same_Some copy other (sym tape ∙ at) in
                subst (λ (c : TapeCopy). ForSome (blocks_of c.serial old) (λ blocks. slice_get blocks (c.first + part) ≡ Some block) × HasRead c.serial (c.first + part) old new) same
                (blocks_told copy.serial (copy.first + part) old block good.1, has_read copy.serial (copy.first + part) old new block are good);
          },
          reading_only copy.serial (copy.first + part) old new (Ok tt) block good,
          ap (λ (x : Rack). x.read_faults) good.2,
        )

-- THE VERSION of a block of content
pub version_at : (serial : ℕ) (p : Plan) (rs : List FileRec) (o : OnlineFacts) (rack : Rack) (k i part : ℕ) → AreReadable serial p rs o rack → IsContentAt p k i part
    → (r : FileRec) × (slice_get rs i ≡ Some r) × (part < blocks_for r.len) × IsReadable serial o rack r
version_at serial p rs o rack k i part are stands =
    let (r, at, same) = unmapped rs i stands.version (subst (λ (ws : List FileRec). slice_get ws i ≡ Some stands.version) are.waiting_are stands.there) in
    let len : stands.version.len ≡ r.len = ap (λ (x : FileRec). x.len) same in
    (r, at, subst (λ (n : ℕ). part < blocks_for n) len stands.within, All-contains (IsReadable serial o rack) rs r are.each (element rs i r at))
  where
    unmapped : (qs : List FileRec) (n : ℕ) (v : FileRec) → slice_get (map bare_rec qs) n ≡ Some v → (r : FileRec) × (slice_get qs n ≡ Some r) × (v ≡ bare_rec r)
    unmapped [] n v is = absurd (let no : ⊥ = cc in no)
    unmapped (q ∷ qs) zero v is = (q, refl, sym (same_Some (bare_rec q) v is))
    unmapped (q ∷ qs) (suc n) v is = unmapped qs n v is

pub version_is : (serial : ℕ) (p : Plan) (rs : List FileRec) (o : OnlineFacts) (rack : Rack) (k i part : ℕ) (q : FileRec) → AreReadable serial p rs o rack → IsContentAt p k i part → q ≡ get_or rs i q
    → (slice_get rs i ≡ Some q) × (part < blocks_for q.len) × IsReadable serial o rack q
version_is serial p rs o rack k i part q are stands is =
    let (r, at, within, readable) = version_at serial p rs o rack k i part are stands in
    let here : slice_get rs i ≡ Some q = placed rs i q (element_below rs i r at) is in
    let same : r ≡ q = same_Some r q (sym at ∙ here) in
    (here, subst (λ (x : FileRec). part < blocks_for x.len) same within, subst (IsReadable serial o rack) same readable)

pub filled_in : (serial : ℕ) (p : Plan) (rs : List FileRec) (o : OnlineFacts) (rack : Rack) (k i part : ℕ) (q : FileRec) (answer : Result (Unit {0}) StoreFault) (block : List ℕ) (o' : OnlineFacts) (new : Rack)
    → AreReadable serial p rs o rack → IsContentAt p k i part → q ≡ get_or rs i q → ReadsSource q part o rack answer block o' new → Fills p rs k o rack answer block o' new
filled_in serial p rs o rack k i part q (Ok u) block o' new are stands is (same, source, only, kept) =
    let found = version_is serial p rs o rack k i part q are stands is in
    (same, inr (i, part, q, found.0, stands, source), only, kept)
filled_in serial p rs o rack k i part q (Err fault) block o' new are stands is fails = fails

-- a write that was made burnt the fuse, and did nothing else
pub wrote : (s k : ℕ) (block : List ℕ) (old new : Rack) (u : Unit {0}) → (let r : Result (Unit {0}) TapeFault = Ok u in Writing s k block old r new) → new ≡ record (changed s (ending k block) old) { fuse = new.fuse; risks = new.risks }
wrote s k block old new u (granted, unspent, is) =
    is ∙ ap (λ (f : Option ℕ). let x : Rack = record (changed s (ending k block) old) { fuse = f; risks = new.risks } in x) (sym (ap (λ (x : Rack). x.fuse) is))

-- a reel that could be written can be after reads
pub free_after : (s k : ℕ) (old new : Rack) → OnlyReads old new → refuses_write k (reel s old.reels) ≡ None → refuses_write k (reel s new.reels) ≡ None
free_after s k old new only is = by_reels (reel s new.reels) (reel s old.reels) (reel_after_reads s old new only) is
  where
    by_reels : (a b : Option Reel) → option_map unread a ≡ option_map unread b → refuses_write k b ≡ None → refuses_write k a ≡ None
    by_reels None None same granted = granted
    by_reels None (Some r) same granted = absurd (none-some (unread r) same)
    by_reels (Some q) None same granted = absurd (let no : ⊥ = cc in no)
    by_reels (Some q) (Some r) same granted = ap (λ (x : Reel). refuses_write k (Some x)) (same_Some (unread q) (unread r) same) ∙ granted

-- a write that isn't refused fails by the device only
pub it_failed : (s k : ℕ) (block : List ℕ) (old new : Rack) (fault : TapeFault) → refuses_write k (reel s old.reels) ≡ None → (let r : Result (Unit {0}) TapeFault = Err fault in Writing s k block old r new)
    → (let r : Result (Unit {0}) TapeFault = Err fault in WritesDurably s k block old r new) → WritesDurably s k block old (Err tapes.WriteFailed) new
it_failed s k block old new tapes.WriteFailed free writing durably = durably
it_failed s k block old new tapes.ReadFailed free writing durably = absurd writing
it_failed s k block old new tapes.NoTape free (refused, is) durably = absurd (let no : ⊥ = cc in no)
it_failed s k block old new tapes.NotMounted free (refused, is) durably = absurd (let no : ⊥ = cc in no)
it_failed s k block old new tapes.End free (refused, is) durably = absurd (let no : ⊥ = cc in no)

pub failed_at : (serial : ℕ) (p : Plan) (rs : List FileRec) (o : OnlineFacts) (k : ℕ) (block : List ℕ) (old mid new : Rack) (fault : TapeFault) → IsBlockOf p rs o old mid k block → refuses_write k (reel serial old.reels) ≡ None → OnlyReads old mid → mid.read_faults ≡ old.read_faults
    → (let r : Result (Unit {0}) TapeFault = Err fault in Writing serial k block mid r new) → (let r : Result (Unit {0}) TapeFault = Err fault in WritesDurably serial k block mid r new) → FailedAt serial p rs o k old new
failed_at serial p rs o k block old mid new fault is_block granted only kept writing durably =
    let free = free_after serial k old mid only granted in
    let (rose, (how, is)) = write_fails serial k block mid new fault free writing in
    record {
      mid = mid;
      reads = only;
      kept = kept;
      rose = rose;
      how = how;
      rack = is;
      free = free;
      block = block;
      block_is = is_block;
      durably = it_failed serial k block mid new fault free writing durably;
    }

-- block k was written after reads
pub wrote_at : (serial : ℕ) (p : Plan) (rs : List FileRec) (o : OnlineFacts) (k : ℕ) (block : List ℕ) (old mid new : Rack) → OnlyReads old mid → mid.read_faults ≡ old.read_faults → IsBlockOf p rs o old mid k block
    → Writing serial k block mid (Ok tt) new → WritesDurably serial k block mid (Ok tt) new → WroteAt serial p rs o k old new
wrote_at serial p rs o k block old mid new only kept is writing durably =
    record { mid = mid; reads = only; kept = kept; block = block; block_is = is; rack = wrote serial k block mid new tt writing; free = writing.0; durably = durably }
