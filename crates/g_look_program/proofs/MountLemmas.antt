-- A rack on which reels were mounted, and nothing else changed.
-- serves: mount_all
use Rattle.std.proofs.Common.{◌≡◌, ◌==◌, ℕ, true, List, Result, Ok, Err, map, refl, sym, ◌∙◌, ap, subst}
use Rattle.g_base.proofs.KeyLemmas.{map-change_same}
use Rattle.g_tape.specs.declared.fault.TapeFault.{TapeFault}
use Rattle.g_tape.specs.Reel.{Reel, with_mounted}
use Rattle.g_tape.specs.Rack.{Mounting, Rack, refuses_mount, with_reel}

abbrev pub OnlyMounts : Rack → Rack → Type 0
OnlyMounts old new = (map (with_mounted true) new.reels ≡ map (with_mounted true) old.reels) × (let t : Rack = record old { reels = new.reels } in new ≡ t)

mounted_one : (s : ℕ) (rs : List Reel) → map (with_mounted true) (with_reel s (with_mounted true) rs) ≡ map (with_mounted true) rs
mounted_one s rs = map-change_same (λ (r : Reel). s == r.serial) (with_mounted true) (with_mounted true) (λ r. refl) rs

-- one call
mounts_one : (s : ℕ) (old : Rack) (result : Result (Unit {0}) TapeFault) (new : Rack) → Mounting refuses_mount true s old result new → OnlyMounts old new
mounts_one s old (Ok done) new did = subst (λ (r : Rack). OnlyMounts old r) (sym did.1) (mounted_one s old.reels, refl)
mounts_one s old (Err fault) new did = subst (λ (r : Rack). OnlyMounts old r) (sym did.1) (refl, refl)

-- and another
pub mounts_more : (first old : Rack) (s : ℕ) (result : Result (Unit {0}) TapeFault) (new : Rack) → OnlyMounts first old → Mounting refuses_mount true s old result new → OnlyMounts first new
mounts_more first old s result new before did =
    let one = mounts_one s old result new did in
    (one.0 ∙ before.0, one.1 ∙ ap (λ (r : Rack). let t : Rack = record r { reels = new.reels } in t) before.1)
