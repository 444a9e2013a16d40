-- A rack whose call failed was called.
-- serves: who_fails_was_asked (fails)
use Rattle.std.proofs.Common.{◌≡◌, ℕ, List, Bool, true, false, Ok, Err, refl, sym, subst}
use Rattle.std.specs.Option.{ForSome}
use Rattle.g_base.specs.Counts.{Rose}
use Rattle.g_tape.specs.declared.fault.TapeFault.TheVariants.{NoTape, NotMounted, End, ReadFailed, WriteFailed}
use Rattle.g_tape.specs.Rack.{Rack, Reading, Writing}
use Rattle.g_duplex.specs.Twins.{may_help}
use Rattle.g_duplex.specs.Pair.{Pair, standing_in}
use Rattle.g_duplex.specs.Calls.{Answer, Helps, PairReads, PairWrites, ReadsOn, WritesOn, armed_when, behind, is_one, leading}
use Rattle.g_duplex.specs.Laws.{FailsWithAll}
use Rattle.g_duplex.specs.declared.twin.Standing.{Standing}

read_rose : (s k : ℕ) (p p' : Rack) (r : Answer) (i : List ℕ) → Reading s k p r i p' → r ≡ Err ReadFailed → Rose p.read_faults p'.read_faults
read_rose s k p p' (Ok u) i is failed = absurd (cc)
read_rose s k p p' (Err ReadFailed) i is failed = is.1
read_rose s k p p' (Err WriteFailed) i is failed = absurd is
read_rose s k p p' (Err NoTape) i is failed = absurd (cc)
read_rose s k p p' (Err NotMounted) i is failed = absurd (cc)
read_rose s k p p' (Err End) i is failed = absurd (cc)

-- The other rack failed too, if it may be read.
both_failed : (may : Bool) (s k : ℕ) (old new : Rack) (into : List ℕ) → Helps may s k old (Err ReadFailed) into new → may ≡ true → Rose old.read_faults new.read_faults
both_failed true s k old new into is may = is.1
both_failed false s k old new into is may = absurd (cc)

helped : (may : Bool) (s k : ℕ) (old new : Rack) (answer : Answer) (block into : List ℕ) → ReadsOn may s k answer block old (Err ReadFailed) into new
    → (answer ≡ Err ReadFailed) × (may ≡ true → Rose old.read_faults new.read_faults)
helped may s k old new (Err ReadFailed) block into is = (refl, both_failed may s k old new into is)
helped may s k old new (Ok u) block into is = absurd (cc)
helped may s k old new (Err WriteFailed) block into is = absurd (cc)
helped may s k old new (Err NoTape) block into is = absurd (cc)
helped may s k old new (Err NotMounted) block into is = absurd (cc)
helped may s k old new (Err End) block into is = absurd (cc)

fails_reading : (s k : ℕ) (old new : Pair) (into : List ℕ) → PairReads s k old (Err ReadFailed) into new → ForSome (standing_in s old) (λ t.
    Rose (leading t old).read_faults (leading t new).read_faults × (may_help k t ≡ true → Rose (behind t old).read_faults (behind t new).read_faults))
fails_reading s k old new into reads t at =
    let (answer, block, lead, on) = reads.asked reads.reading.0 t at in
    let parts = helped (may_help k t) s k (behind t old) (behind t new) answer block into on in
    (read_rose s k (leading t old) (leading t new) answer block lead parts.0, parts.1)

-- arming moves no count of faults
armed_same : (fires : Bool) (r : Rack) → (armed_when fires r).write_faults ≡ r.write_faults
armed_same true r = refl
armed_same false r = refl

write_rose : (s k : ℕ) (block : List ℕ) (p p' : Rack) (r : Answer) → Writing s k block p r p' → r ≡ Err WriteFailed → Rose p.write_faults p'.write_faults
write_rose s k block p p' (Ok u) is failed = absurd (cc)
write_rose s k block p p' (Err WriteFailed) is failed = is.1
write_rose s k block p p' (Err ReadFailed) is failed = absurd is
write_rose s k block p p' (Err NoTape) is failed = absurd (cc)
write_rose s k block p p' (Err NotMounted) is failed = absurd (cc)
write_rose s k block p p' (Err End) is failed = absurd (cc)

write_failed : (s k : ℕ) (block : List ℕ) (t after : Standing) (old new : Rack) (answer : Answer) → WritesOn s k block t answer old (Err WriteFailed) new after → answer ≡ Err WriteFailed
write_failed s k block t after old new (Err fault) on = sym on.0
write_failed s k block t after old new (Ok u) on = absurd (cc)

fails_writing : (s k : ℕ) (block : List ℕ) (old new : Pair) → PairWrites s k block old (Err WriteFailed) new → ForSome (standing_in s old) (λ t.
    Rose (leading t old).write_faults (leading t new).write_faults)
fails_writing s k block old new writes t at =
    let (after, written, stand) = writes.asked writes.writing.0 t at in
    let (answer, lead, on) = written in
    let rose = write_rose s k block (armed_when (is_one old.fuse) (leading t old)) (leading t new) answer lead (write_failed s k block t after (behind t old) (behind t new) answer on) in
    subst (λ (n : ℕ). Rose n (leading t new).write_faults) (armed_same (is_one old.fuse) (leading t old)) rose

pub fails_with_all : FailsWithAll
fails_with_all = record { reads = fails_reading; writes = fails_writing }
