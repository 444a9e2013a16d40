-- The notes of pinned versions determine their stamps.
-- serves: pin_list
use Rattle.std.proofs.Common.{◌≡◌, ℕ, List, [], ◌∷◌, refl, ap}
use Rattle.std.specs.Prelude.{◌==◌, ◌||◌, Bool}
use Rattle.std.specs.List.{list_any}
use Rattle.g_online.specs.declared.pinned.Pinned.{Pinned}
use Rattle.g_online.specs.DumpedVersions.{noted_in}
use Rattle.g_online.specs.Invariant.{has_stamp}

pub noted_stamps : (pins : List Pinned) (stamp : ℕ) → list_any (λ n. n.0 == stamp) (noted_in pins) ≡ has_stamp pins stamp
noted_stamps [] stamp = refl
noted_stamps (p ∷ pins) stamp = ap (λ (b : Bool). (p.stamp == stamp) || b) (noted_stamps pins stamp)
