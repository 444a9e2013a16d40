-- When a device was armed: never, once, and in two parts.
-- serves: crates above
use Rattle.std.proofs.Common.{◌≡◌, ◌≤◌, ℕ, ◌∙◌, ap, inl, inr, arith}
use Rattle.g_base.specs.Fuse.{Arms, armed_with}
use Rattle.g_run_model.specs.Top.{IsArmedIn}

pub in_none : (from until : ℕ) (old new : Arms) → new ≡ old → IsArmedIn from until old new
in_none from until old new same = inl same

pub in_once : (k count : ℕ) (old : Arms) → IsArmedIn count count old (armed_with k count old)
in_once k count old = inr (omega arith, omega arith)

pub in_then : (from mid until : ℕ) (old now new : Arms) → from ≤ mid → mid ≤ until → IsArmedIn from mid old now → IsArmedIn mid until now new → IsArmedIn from until old new
in_then from mid until old now new early late (inl was) (inl is) = inl (is ∙ was)
in_then from mid until old now new early late (inr (low, high)) (inl is) =
    let since : new.since ≡ now.since = ap (λ (a : Arms). a.since) is in
    inr (omega (arith, since, low), omega (arith, since, high, late))
in_then from mid until old now new early late was (inr (low, high)) = inr (omega (arith, early, low), high)
