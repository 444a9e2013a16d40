-- The calls of a rack that loses power, by what was done to the reel of the serial.
-- serves: mount, read, secure, unmount, write
use Rattle.std.proofs.Common.{◌≡◌, ℕ, ◌<◌, List, [], Option, Some, None, is_some, Ok, Err, true, false, length, map, get_or, refl, ap, sym, ◌∙◌, arith}
use Rattle.std.specs.Prelude.{Bool, OnOk, Result, is_err}
use Rattle.std.proofs.Math.ListN.{set}
use Rattle.std.proofs.Math.Seq.{map-set_same}
use Rattle.std.proofs.lemmas.List.{get_or-map, length-map, map-set}
use Rattle.std.proofs.lemmas.Option.{none-some}
use Rattle.g_base.specs.Counts.{one_more}
use Rattle.g_base.specs.Fuse.{Arms, burnt}
use Rattle.g_tape.specs.declared.fault.TapeFault.{TapeFault}
use Rattle.g_tape.specs.declared.fault.TapeFault.TheVariants.{ReadFailed, WriteFailed}
use Rattle.g_tape.specs.Reel.{Reel, Remains, ending, left_by, read_at, with_mounted}
use Rattle.g_tape.specs.Rack.{Mounting, Rack, Reading, Securing, Writing, reel, refuses_read, refuses_write, with_reel}
use Rattle.g_tape.specs.Place.{IsPlaceOf}
use Rattle.g_tape.proofs.RackLemmas.{with_reel-place}
use Rattle.g_power.specs.CutReel.{reel_of}
use Rattle.g_power.specs.declared.cut_reel.CutReel.{CutReel}

-- a rack of these reels
abbrev pub rack : ℕ → ℕ → Option ℕ → Arms → List Reel → Rack
rack reads writes fuse arms reels = record { reels = reels; read_faults = reads; write_faults = writes; fuse = fuse; arms = arms; risks = [] }

module _ (s k i : ℕ) (items : List CutReel) (was now : CutReel) (place : IsPlaceOf s (map reel_of items) i) (is : was ≡ get_or items i was) where
  within : i < length items
  within = let long = place.within in omega (arith, long, length-map items reel_of)

  there : reel_of was ≡ get_or (map reel_of items) i (reel_of was)
  there = ap reel_of is ∙ sym (get_or-map reel_of items i was (reel_of was) within)

  -- the reel of the serial
  found : reel s (map reel_of items) ≡ Some (reel_of was)
  found = place.there (reel_of was) ∙ ap Some (sym there)

  changed_at : (h : Reel → Reel) → reel_of now ≡ h (reel_of was) → map reel_of (set items i now) ≡ with_reel s h (map reel_of items)
  changed_at h value = map-set reel_of items i now ∙ with_reel-place s (map reel_of items) i h (reel_of was) (reel_of now) place there value

  same_at : reel_of now ≡ reel_of was → map reel_of (set items i now) ≡ map reel_of items
  same_at value = map-set_same reel_of items i now was (value ∙ ap reel_of is)

  module _ (reads writes : ℕ) (fuse : Option ℕ) (arms : Arms) where
    pub mount_done : (mounted : Bool) (refuses : Option Reel → Option TapeFault) → refuses (Some (reel_of was)) ≡ None
        → reel_of now ≡ with_mounted mounted (reel_of was)
        → Mounting refuses mounted s (rack reads writes fuse arms (map reel_of items)) (Ok tt) (rack reads writes fuse arms (map reel_of (set items i now)))
    mount_done mounted refuses free value =
        (ap refuses found ∙ free, ap (rack reads writes fuse arms) (changed_at (with_mounted mounted) value))

    pub read_done : (into : List ℕ) → refuses_read k (Some (reel_of was)) ≡ None → reel_of now ≡ reel_of was
        → Reading s k (rack reads writes fuse arms (map reel_of items)) (Ok tt) into (rack reads writes fuse arms (map reel_of (set items i now)))
    read_done into allowed value = (
      ap (refuses_read k) found ∙ allowed,
      λ r at bs told. let one : Some (reel_of was) ≡ Some r = sym found ∙ at in let same : r ≡ reel_of was = cc in
          absurd (none-some bs (sym (ap (λ (x : Reel). x.blocks) same) ∙ told)),
      ap (rack reads writes fuse arms) (changed_at (read_at k) value),
    )

    pub read_failed : (into : List ℕ) (faults : ℕ) → refuses_read k (Some (reel_of was)) ≡ None → reel_of now ≡ reel_of was → faults ≡ one_more reads
        → Reading s k (rack reads writes fuse arms (map reel_of items)) (Err ReadFailed) into (rack faults writes fuse arms (map reel_of (set items i now)))
    read_failed into faults allowed value more = (
      ap (refuses_read k) found ∙ allowed,
      record { more = omega (arith, more) },
      ap (rack faults writes fuse arms) (same_at value),
    )

    pub write_done : (block : List ℕ) (left : Option ℕ) → refuses_write k (Some (reel_of was)) ≡ None → reel_of now ≡ ending k block (reel_of was)
        → left ≡ burnt fuse → (fuse ≡ Some 1 → ⊥)
        → Writing s k block (rack reads writes fuse arms (map reel_of items)) (Ok tt) (rack reads writes left arms (map reel_of (set items i now)))
    write_done block left allowed value burns good = (
      ap (refuses_write k) found ∙ allowed,
      good,
      ap (rack reads writes left arms) (changed_at (ending k block) value)
          ∙ ap (λ (z : Option ℕ). rack reads writes z arms (with_reel s (ending k block) (map reel_of items))) burns,
    )

    pub write_failed : (block : List ℕ) (left : Option ℕ) (faults : ℕ) → refuses_write k (Some (reel_of was)) ≡ None
        → ((how : Remains) × (reel_of now ≡ left_by how k (reel_of was))) → left ≡ burnt fuse → faults ≡ one_more writes
        → Writing s k block (rack reads writes fuse arms (map reel_of items)) (Err WriteFailed) (rack reads faults left arms (map reel_of (set items i now)))
    write_failed block left faults allowed (how, value) burns more = (
      ap (refuses_write k) found ∙ allowed,
      record { more = omega (arith, more) },
      (
        how,
        ap (rack reads faults left arms) (changed_at (left_by how k) value)
            ∙ ap (λ (z : Option ℕ). rack reads faults z arms (with_reel s (left_by how k) (map reel_of items))) burns,
      ),
    )

    pub secure_done : reel_of now ≡ reel_of was
        → Securing s (rack reads writes fuse arms (map reel_of items)) (Ok tt) (rack reads writes fuse arms (map reel_of (set items i now)))
    secure_done value = (ap is_some found, ap (rack reads writes fuse arms) (same_at value))

    pub secure_failed : (faults : ℕ) → reel_of now ≡ reel_of was → faults ≡ one_more reads
        → Securing s (rack reads writes fuse arms (map reel_of items)) (Err ReadFailed) (rack faults writes fuse arms (map reel_of (set items i now)))
    secure_failed faults value more = (
      ap is_some found,
      record { more = omega (arith, more) },
      ap (rack faults writes fuse arms) (same_at value),
    )

-- an answer that is no error
pub ok_holds : {T E P : Type 0} (r : Result T E) → is_err r ≡ false → OnOk r P → P
ok_holds (Ok x) ok p = p
ok_holds (Err e) ok p = absurd (cc)
