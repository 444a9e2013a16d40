-- A twin that is lost isn't seen.
-- serves: a_lost_twin_is_not_seen (all, one), WriteLemmas
use Rattle.std.proofs.Common.{◌≡◌, ℕ, List, [], ◌∷◌, Bool, true, false, ◌&&◌, Option, Some, None, refl, sym, ap, ◌∙◌, is_some, inl, inr}
use Rattle.std.specs.Option.{ForSome}
use Rattle.g_tape.specs.Reel.{Reel}
use Rattle.g_duplex.specs.Twins.{AreTwins, pair_reel, told_with}
use Rattle.g_duplex.specs.Pair.{pair_reels}
use Rattle.g_duplex.specs.Laws.{IsInPlaceOf, LossIsNotSeen, LossesAreNotSeen, WithLoss}
use Rattle.g_duplex.specs.declared.twin.Twin.TheVariants.{First, Second}
use Rattle.g_duplex.specs.declared.twin.Standing.{Standing}
use Rattle.g_duplex.specs.declared.twin.Standing.TheVariants.{Level, Lost}

both-second : (x y : Bool) → x ≡ y → y ≡ (x && y)
both-second true y is = refl
both-second false true is = absurd (cc)
both-second false false is = refl

both-first : (x y : Bool) → x ≡ y → x ≡ (x && y)
both-first true true is = refl
both-first true false is = absurd (cc)
both-first false y is = refl

-- The blocks that the second twin exposes, with another reel in the first's place.
told-second : (x y x' : Option (List (List ℕ))) → is_some x' ≡ is_some x → ForSome x (λ p. ForSome y (λ q. p ≡ q)) → told_with y x' ≡ told_with x y
told-second None None x' told same = refl
told-second None (Some q) None told same = refl
told-second None (Some q) (Some r) told same = absurd (cc)
told-second (Some p) None x' told same = refl
told-second (Some p) (Some q) None told same = absurd (cc)
told-second (Some p) (Some q) (Some r) told same = ap (λ (bs : List (List ℕ)). Some bs) (sym (same p refl q refl))

-- The blocks that the first twin exposes, with another reel in the second's place.
pub told-first : (x y y' : Option (List (List ℕ))) → is_some y' ≡ is_some y → told_with x y' ≡ told_with x y
told-first None y y' told = refl
told-first (Some p) None None told = refl
told-first (Some p) None (Some r) told = absurd (cc)
told-first (Some p) (Some q) None told = absurd (cc)
told-first (Some p) (Some q) (Some r) told = refl

reel-same : (s s' c c' l l' : ℕ) (m m' : Bool) (b b' : Option (List (List ℕ))) → s ≡ s' → c ≡ c' → l ≡ l' → m ≡ m' → b ≡ b'
    → (let x : Reel = record { serial = s; capacity = c; len = l; mounted = m; blocks = b; times_read = None } in x)
    ≡ (let y : Reel = record { serial = s'; capacity = c'; len = l'; mounted = m'; blocks = b'; times_read = None } in y)
reel-same s s' c c' l l' m m' b b' e1 e2 e3 e4 e5 = cc

pub lost_first : (a b a' : Reel) → AreTwins Level a b → a.mounted ≡ b.mounted → IsInPlaceOf a a' → pair_reel (Lost First) a' b ≡ pair_reel Level a b
lost_first a b a' twins up place =
    reel-same a'.serial a.serial a'.capacity a.capacity b.len a.len b.mounted (a.mounted && b.mounted) (told_with b.blocks a'.blocks) (told_with a.blocks b.blocks)
    place.serial place.capacity (sym twins.agree.0) (both-second a.mounted b.mounted up) (told-second a.blocks b.blocks a'.blocks place.told twins.agree.1)

pub lost_second : (a b b' : Reel) → AreTwins Level a b → a.mounted ≡ b.mounted → IsInPlaceOf b b' → pair_reel (Lost Second) a b' ≡ pair_reel Level a b
lost_second a b b' twins up place =
    reel-same a.serial a.serial a.capacity a.capacity a.len a.len a.mounted (a.mounted && b.mounted) (told_with a.blocks b'.blocks) (told_with a.blocks b.blocks)
    refl refl refl (both-first a.mounted b.mounted up) (told-first a.blocks b.blocks b'.blocks place.told)

pub loss_is_not_seen : LossIsNotSeen
loss_is_not_seen = record { first = lost_first; second = lost_second }

loss-seen : (t u : Standing) (a b c d : Reel) → WithLoss t a b u c d → pair_reel u c d ≡ pair_reel t a b
loss-seen t u a b c d (inl (one, two, three)) = cc
loss-seen t u a b c d (inr (inl (level, lost, same, twins, up, place))) = rw (level, lost, same) (lost_first a b c twins up place)
loss-seen t u a b c d (inr (inr (level, lost, same, twins, up, place))) = rw (level, lost, same) (lost_second a b d twins up place)

pub losses_are_not_seen : LossesAreNotSeen
losses_are_not_seen [] [] xs ys cs ds is = refl
losses_are_not_seen [] (u ∷ us) xs ys cs ds is = absurd is
losses_are_not_seen (t ∷ ts) [] [] ys cs ds is = absurd is
losses_are_not_seen (t ∷ ts) [] (a ∷ xs) [] cs ds is = absurd is
losses_are_not_seen (t ∷ ts) [] (a ∷ xs) (b ∷ ys) cs ds is = absurd is
losses_are_not_seen (t ∷ ts) (u ∷ us) [] ys cs ds is = absurd is
losses_are_not_seen (t ∷ ts) (u ∷ us) (a ∷ xs) [] cs ds is = absurd is
losses_are_not_seen (t ∷ ts) (u ∷ us) (a ∷ xs) (b ∷ ys) [] ds is = absurd is
losses_are_not_seen (t ∷ ts) (u ∷ us) (a ∷ xs) (b ∷ ys) (c ∷ cs) [] is = absurd is
losses_are_not_seen (t ∷ ts) (u ∷ us) (a ∷ xs) (b ∷ ys) (c ∷ cs) (d ∷ ds) is =
    ap (λ (r : Reel). r ∷ pair_reels us cs ds) (loss-seen t u a b c d is.0)
    ∙ ap (λ (rs : List Reel). pair_reel t a b ∷ rs) (losses_are_not_seen ts us xs ys cs ds is.1)
