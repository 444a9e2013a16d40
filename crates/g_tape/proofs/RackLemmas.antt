-- What is done to one reel of a rack.
-- serves: mount (mounting), read, unmount (mounting), write, MemoryLemmas, crates above
use Rattle.std.proofs.Common.{◌≡◌, ℕ, ◌<◌, List, Bool, Option, Some, None, Ok, length, get_or, map, subst, sym, ap, ◌∙◌, arith, length-set}
use Rattle.std.specs.List.Sorted.{IsStrictlyIncreasing}
use Rattle.std.proofs.Math.ListN.{set}
use Rattle.std.proofs.Math.Seq.{map-set_same}
use Rattle.std.proofs.lemmas.List.{get_or_default}
use Rattle.std.proofs.lemmas.List.Elements.{All-set}
use Rattle.g_tape.specs.declared.fault.TapeFault.{TapeFault}
use Rattle.g_tape.specs.Reel.{Reel, IsReel, with_mounted}
use Rattle.g_tape.specs.Rack.{AreReels, Mounting, Rack, with_reel}
use Rattle.g_tape.specs.Place.{IsPlaceOf}
use Rattle.g_tape.proofs.ReelLemmas.{IsReel-mounted}

-- one reel is replaced by another of its serial
pub AreReels-set : (reels : List Reel) (i : ℕ) (old new : Reel) → AreReels reels → i < length reels → old ≡ get_or reels i old → (IsReel old → IsReel new) → new.serial ≡ old.serial → AreReels (set reels i new)
AreReels-set reels i old new are within was keeps same =
    let kept : IsReel new = keeps (subst IsReel (sym was) (are.each i old within)) in
    let serials : map (λ (r : Reel). r.serial) (set reels i new) ≡ map (λ (r : Reel). r.serial) reels =
    map-set_same (λ (r : Reel). r.serial) reels i new old (same ∙ ap (λ (r : Reel). r.serial) was) in
    record {
      few = omega (arith, length-set reels i new, are.few);
      rising = subst IsStrictlyIncreasing (sym serials) are.rising;
      each = All-set IsReel reels i new kept are.each;
    }

-- The reel with the serial is changed at its place.
pub with_reel-place : (s : ℕ) (reels : List Reel) (i : ℕ) (f : Reel → Reel) (old new : Reel) → IsPlaceOf s reels i → old ≡ get_or reels i old → new ≡ f old → set reels i new ≡ with_reel s f reels
with_reel-place s reels i f old new place was is =
    ap (set reels i) (is ∙ ap f was) ∙ sym (place.change f old)

-- Two reads of one place give the same item.
pub same-place : (reels : List Reel) (i : ℕ) (here was : Reel) → i < length reels → here ≡ get_or reels i here → was ≡ get_or reels i was → here ≡ was
same-place reels i here was within one two = one ∙ get_or_default reels i here was within ∙ sym two

-- A call that wasn't refused for the reel that was checked isn't refused for the reel that is changed.
pub still-free : (refuses : Option Reel → Option TapeFault) (reels : List Reel) (i : ℕ) (here was : Reel) (answer : Option TapeFault) → i < length reels
    → here ≡ get_or reels i here → was ≡ get_or reels i was → answer ≡ refuses (Some here) → answer ≡ None → refuses (Some was) ≡ None
still-free refuses reels i here was answer within one two asked free =
    ap (λ (r : Reel). refuses (Some r)) (sym (same-place reels i here was within one two)) ∙ sym asked ∙ free

-- The reel is mounted or unmounted at its place in the rack's list.
module _ (is : Bool) (s i : ℕ) (old : Rack) (all : List Reel) (was now : Reel) (same : all ≡ old.reels) (found : IsPlaceOf s all i)
    (stood : was ≡ get_or old.reels i was) (value : now ≡ with_mounted is was) where
  place : IsPlaceOf s old.reels i
  place = subst (λ (rs : List Reel). IsPlaceOf s rs i) same found

  pub well-mounted : AreReels old.reels → AreReels (set old.reels i now)
  well-mounted are = AreReels-set old.reels i was now are place.within stood (λ kept. subst IsReel (sym value) (IsReel-mounted is was kept)) (ap (λ (r : Reel). r.serial) value)

  pub mounted-there : (refuses : Option Reel → Option TapeFault) → refuses (Some was) ≡ None → Mounting refuses is s old (Ok tt) (record old { reels = set old.reels i now })
  mounted-there refuses free = (
    ap refuses (place.there was ∙ ap Some (sym stood)) ∙ free,
    ap (λ (rs : List Reel). let new : Rack = record old { reels = rs } in new) (with_reel-place s old.reels i (with_mounted is) was now place stood value),
  )
