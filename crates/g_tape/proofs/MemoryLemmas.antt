-- The calls of a rack in memory that succeeded, or whose write failed, by the change of the reel.
-- serves: read, secure, write, crates above
use Rattle.std.proofs.Common.{◌≡◌, ℕ, ◌<◌, ◌≤◌, List, [], true, false, Option, Some, None, is_some, Ok, Err, Contains, length, get_or, slice_get, subst, sym, ap, ◌∙◌, refl, arith, eqb}
use Rattle.std.specs.Option.{ForSome}
use Rattle.std.proofs.Math.ListN.{set}
use Rattle.std.proofs.lemmas.Bool.{eqb-false, eqb-true}
use Rattle.g_base.specs.Counts.{one_more, Rose}
use Rattle.g_base.specs.Fuse.{burnt}
use Rattle.g_tape.specs.declared.fault.TapeFault.{TapeFault}
use Rattle.g_tape.specs.declared.fault.TapeFault.TheVariants.{NoTape, NotMounted, End, ReadFailed, WriteFailed}
use Rattle.g_tape.specs.Reel.{Reel, empty_reel, read_at, ending, left_by}
use Rattle.g_tape.specs.Rack.{AreReels, Rack, Writing, reel, with_reel, refuses_read, refuses_write}
use Rattle.g_tape.specs.Place.{IsPlaceOf}
use Rattle.g_tape.specs.Leave.{remains_of}
use Rattle.g_tape.specs.Memory.{Memory, MemoryReads, MemorySecures, MemoryWrites}
use Rattle.g_tape.proofs.DurableLemmas.{secures_durably, writes_durably}
use Rattle.g_tape.proofs.RackLemmas.{with_reel-place}
use Rattle.g_tape.proofs.ReadLemmas.{no_more, same_risks}

-- The reel with the serial is the one at its place.
pub at-place : (s i : ℕ) (reels : List Reel) (was : Reel) → IsPlaceOf s reels i → was ≡ get_or reels i was → reel s reels ≡ Some was
at-place s i reels was place is = place.there was ∙ ap Some (sym is)

found : (s i : ℕ) (reels : List Reel) → IsPlaceOf s reels i → is_some (reel s reels) ≡ true
found s i reels place = ap is_some (place.there (empty_reel 0 0))

-- a number that isn't found in the list isn't in it
pub not-among : (all : List ℕ) (fail : List ℕ) (number : ℕ) → all ≡ fail → ((k : ℕ) (d : ℕ) → 0 ≤ k → k < length all → eqb (get_or all k d) number ≡ false) → Contains fail number → ⊥
not-among all fail number same none among =
    let (k, within, is) = subst (λ (xs : List ℕ). Contains xs number) (sym same) among in
    eqb-false (get_or all k number) number (none k number (omega arith) within) is

pub among : (all : List ℕ) (named : List ℕ) (number : ℕ) → all ≡ named → (k : ℕ) × (k < length all) × ((d : ℕ) → eqb (get_or all k d) number ≡ true) → Contains named number
among all named number same (k, within, is) =
    subst (λ (xs : List ℕ). Contains xs number) same (k, within, eqb-true (get_or all k number) number (is number))

pub reads-done : (s k i : ℕ) (old : Memory) (reads : ℕ) (was now : Reel) (into : List ℕ) → IsPlaceOf s old.rack.reels i → was ≡ get_or old.rack.reels i was → refuses_read k (Some was) ≡ None
    → ForSome was.blocks (λ bs. slice_get bs k ≡ Some into) → now ≡ read_at k was → reads ≡ one_more old.reads → (Contains old.fail reads → ⊥)
    → MemoryReads s k old (Ok tt) into (record { rack = record { reels = set old.rack.reels i now; read_faults = old.rack.read_faults; write_faults = old.rack.write_faults; fuse = old.rack.fuse; arms = old.rack.arms; risks = old.rack.risks }; leave = old.leave; fail = old.fail; reads = reads; insecure = old.insecure })
reads-done s k i old reads was now into place is allowed block value counted good =
    let here = at-place s i old.rack.reels was place is in
    record {
      reading = (
        ap (refuses_read k) here ∙ allowed,
        λ r at. let same : was ≡ r = cc in subst (λ (x : Reel). ForSome x.blocks (λ bs. slice_get bs k ≡ Some into)) same block,
        ap (λ (rs : List Reel). let rack : Rack = record old.rack { reels = rs } in rack) (with_reel-place s old.rack.reels i (read_at k) was now place is value),
      );
      fails = (λ e. absurd (cc), λ (free, named). absurd (good (subst (Contains old.fail) (sym counted) named)));
      others = ap (λ (n : ℕ).
          let rack : Rack = record old.rack { reels = set old.rack.reels i now } in
          let memory : Memory = record { rack = rack; leave = old.leave; fail = old.fail; reads = n; insecure = old.insecure } in memory) counted;
    }

pub writes-done : (s k i : ℕ) (block : List ℕ) (old : Memory) (fuse : Option ℕ) (was now : Reel) → IsPlaceOf s old.rack.reels i → was ≡ get_or old.rack.reels i was → refuses_write k (Some was) ≡ None
    → now ≡ ending k block was → fuse ≡ burnt old.rack.fuse → (old.rack.fuse ≡ Some 1 → ⊥) → old.rack.risks ≡ [] → AreReels old.rack.reels
    → MemoryWrites s k block old (Ok tt) (record { rack = record { reels = set old.rack.reels i now; read_faults = old.rack.read_faults; write_faults = old.rack.write_faults; fuse = fuse; arms = old.rack.arms; risks = old.rack.risks }; leave = old.leave; fail = old.fail; reads = old.reads; insecure = old.insecure })
writes-done s k i block old fuse was now place is allowed value burns good none are =
    let here = at-place s i old.rack.reels was place is in
    let after : Rack = record old.rack { reels = set old.rack.reels i now; fuse = fuse } in
    let writing : Writing s k block old.rack (Ok tt) after = (
      ap (refuses_write k) here ∙ allowed,
      good,
      ap (λ (rs : List Reel). let rack : Rack = record old.rack { reels = rs; fuse = fuse } in rack) (with_reel-place s old.rack.reels i (ending k block) was now place is value)
          ∙ ap (λ (f : Option ℕ). let rack : Rack = record old.rack { reels = with_reel s (ending k block) old.rack.reels; fuse = f } in rack) burns,
    ) in
    record {
      writing = writing;
      durable = writes_durably s k block old.rack after none none are (Ok tt) writing;
      fails = (λ e. absurd (cc), λ (free, one). absurd (good one));
      left = λ e. absurd (cc);
      others = refl;
    }

pub writes-torn : (s k i : ℕ) (block : List ℕ) (old : Memory) (fuse : Option ℕ) (faults : ℕ) (was now : Reel) → IsPlaceOf s old.rack.reels i → was ≡ get_or old.rack.reels i was → refuses_write k (Some was) ≡ None
    → now ≡ left_by (remains_of old.leave block) k was → fuse ≡ burnt old.rack.fuse → faults ≡ one_more old.rack.write_faults → old.rack.fuse ≡ Some 1 → old.rack.risks ≡ [] → AreReels old.rack.reels
    → MemoryWrites s k block old (Err WriteFailed) (record { rack = record { reels = set old.rack.reels i now; read_faults = old.rack.read_faults; write_faults = faults; fuse = fuse; arms = old.rack.arms; risks = old.rack.risks }; leave = old.leave; fail = old.fail; reads = old.reads; insecure = old.insecure })
writes-torn s k i block old fuse faults was now place is allowed value burns more fired none are =
    let here = at-place s i old.rack.reels was place is in
    let free = ap (refuses_write k) here ∙ allowed in
    let how = remains_of old.leave block in
    let torn = with_reel-place s old.rack.reels i (left_by how k) was now place is value in
    let after : Rack = record old.rack { reels = set old.rack.reels i now; write_faults = faults; fuse = fuse } in
    let writing : Writing s k block old.rack (Err WriteFailed) after = (
      free,
      record { more = omega arith },
      (
        how,
        ap (λ (rs : List Reel). let rack : Rack = record old.rack { reels = rs; write_faults = faults; fuse = fuse } in rack) torn
            ∙ ap (λ (f : Option ℕ). let rack : Rack = record old.rack { reels = with_reel s (left_by how k) old.rack.reels; write_faults = faults; fuse = f } in rack) burns,
      ),
    ) in
    record {
      writing = writing;
      durable = writes_durably s k block old.rack after none none are (Err WriteFailed) writing;
      fails = (λ e. (free, fired), λ both. refl);
      left = λ e. torn;
      others = refl;
    }

refuses_either : (s k : ℕ) (block : List ℕ) (old : Rack) (fault : TapeFault) → (fault ≡ WriteFailed → ⊥) → Writing s k block old (Err fault) old → refuses_write k (reel s old.reels) ≡ None → ⊥
refuses_either s k block old WriteFailed other writing free = other refl
refuses_either s k block old ReadFailed other writing free = writing
refuses_either s k block old NoTape other (refused, is) free = (let never : Some NoTape ≡ None = sym refused ∙ free in cc)
refuses_either s k block old NotMounted other (refused, is) free = (let never : Some NotMounted ≡ None = sym refused ∙ free in cc)
refuses_either s k block old End other (refused, is) free = (let never : Some End ≡ None = sym refused ∙ free in cc)

-- A write that was refused.
pub write_refused : (s k : ℕ) (block : List ℕ) (old : Memory) (fault : TapeFault) → (fault ≡ WriteFailed → ⊥) → old.rack.risks ≡ [] → AreReels old.rack.reels → Writing s k block old.rack (Err fault) old.rack
    → MemoryWrites s k block old (Err fault) old
write_refused s k block old fault other none are writing = record {
  writing = writing;
  durable = writes_durably s k block old.rack old.rack none none are (Err fault) writing;
  fails = (λ e. absurd (other (cc)), λ both. absurd (refuses_either s k block old.rack fault other writing both.0));
  left = λ e. absurd (other (cc));
  others = refl;
}

-- Securing an existing reel.
pub secures_done : (s i : ℕ) (old : Memory) → IsPlaceOf s old.rack.reels i → (Contains old.insecure s → ⊥) → old.rack.risks ≡ [] → MemorySecures s old (Ok tt) old
secures_done s i old place sound none = record {
  securing = (found s i old.rack.reels place, refl);
  durable = secures_durably s old.rack old.rack none none (no_more old.rack) (Ok tt);
  fails = (λ e. absurd (cc), λ (there, named). absurd (sound named));
  others = refl;
}

pub secures_badly : (s i : ℕ) (old : Memory) (faults : ℕ) → IsPlaceOf s old.rack.reels i → Contains old.insecure s → faults ≡ one_more old.rack.read_faults → old.rack.risks ≡ []
    → MemorySecures s old (Err ReadFailed) (record old { rack = record old.rack { read_faults = faults } })
secures_badly s i old faults place named counted none =
    let after : Rack = record old.rack { read_faults = faults } in
    record {
      securing = (found s i old.rack.reels place, subst (λ (n : ℕ). Rose old.rack.read_faults n) (sym counted) (record { more = omega arith }), refl);
      durable = secures_durably s old.rack after none none (same_risks old.rack after refl refl) (Err ReadFailed);
      fails = (λ e. (found s i old.rack.reels place, named), λ both. refl);
      others = refl;
    }

pub secure_refused : (s : ℕ) (old : Memory) → is_some (reel s old.rack.reels) ≡ false → old.rack.risks ≡ [] → MemorySecures s old (Err NoTape) old
secure_refused s old missing none = record {
  securing = (missing, refl);
  durable = secures_durably s old.rack old.rack none none (no_more old.rack) (Err NoTape);
  fails = (λ e. absurd (cc), λ (there, named). absurd (let never : true ≡ false = sym there ∙ missing in cc));
  others = refl;
}
