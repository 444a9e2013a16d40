-- A write of one reel, and the completed dumps of the rack after it.
-- serves: KeepLemmas, ShelfLemmas
use Rattle.std.proofs.Common.{◌≡◌, ℕ, ◌<◌, ◌==◌, true, List, map, Some, sym, ◌∙◌, subst, inl, inr}
use Rattle.std.specs.Prelude.{All, AllPairs, Contains, is_some}
use Rattle.std.specs.Option.{ForSome}
use Rattle.std.proofs.lemmas.List.Kept.{AllPairs-from_increasing}
use Rattle.g_base.proofs.KeyLemmas.{All-change, AreApart-rising, at_key-found, change_key-contains, map-change_same}
use Rattle.g_laws_store.proofs.WaitingLemmas.{from_mapped, mapped_there}
use Rattle.g_tape.specs.Rack.{AreReels, reel, with_reel}
use Rattle.g_tape.specs.Reads.{unread}
use Rattle.g_tape.specs.Reel.{Reel}
use Rattle.g_incr.specs.Layout.{Dump}
use Rattle.g_shelf.specs.CompletedDumps.{AreCompleted, AreShelved}

abbrev serials : List Reel → List ℕ
serials reels = map (λ (r : Reel). r.serial) reels

abbrev Below : ℕ → ℕ → Type 0
Below m n = m < n

-- what is so of the reel that was written
abbrev IsOnReel : ℕ → (Reel → Reel) → (ℕ → List Dump) → List Reel → Type 0
IsOnReel serial f next reels = (r : Reel) → reel serial reels ≡ Some r → ForSome (f r).blocks (λ blocks. AreCompleted serial blocks (next serial))

module _ (serial : ℕ) (f : Reel → Reel) (named : (r : Reel) → (f r).serial ≡ r.serial) (shelf next : ℕ → List Dump) (others : (n : ℕ) → (n ≡ serial → ⊥) → next n ≡ shelf n) where
  kept_reel : (r : Reel) → (r.serial ≡ serial → ⊥) → ForSome r.blocks (λ blocks. AreCompleted r.serial blocks (shelf r.serial))
      → ForSome r.blocks (λ blocks. AreCompleted r.serial blocks (next r.serial))
  kept_reel r other is = λ blocks at. subst (AreCompleted r.serial blocks) (sym (others r.serial other)) (is blocks at)

  -- the other reels have what they had, and the one that was written what is said of it
  changed_shelf : (reels : List Reel) → AllPairs Below (serials reels) → AreShelved shelf (map unread reels) → IsOnReel serial f next reels → AreShelved next (map unread (with_reel serial f reels))
  changed_shelf reels rising are there = record { each = λ r in_new. of_one r (from_mapped unread (with_reel serial f reels) r in_new) }
    where
      of_one : (r : Reel) → ((q : Reel) × Contains (with_reel serial f reels) q × (unread q ≡ r)) → ForSome r.blocks (λ blocks. AreCompleted r.serial blocks (next r.serial))
      of_one r (q, in_new, is) =
          subst (λ (x : Reel). ForSome x.blocks (λ blocks. AreCompleted x.serial blocks (next x.serial))) is
          (elim (change_key-contains (λ (x : Reel). x.serial) serial f reels q (AreApart-rising (λ (x : Reel). x.serial) reels rising) in_new) [
            | inl (x, at, made) ↦
                let here : serial ≡ (f x).serial = sym (at_key-found (λ (y : Reel). y.serial) serial reels x at).1 ∙ sym (named x) in
                subst (λ (y : Reel). ForSome y.blocks (λ blocks. AreCompleted y.serial blocks (next y.serial))) made
                (subst (λ (n : ℕ). ForSome (f x).blocks (λ blocks. AreCompleted n blocks (next n))) here (there x at))
            | inr (in_old, other) ↦ kept_reel q other (are.each (unread q) (mapped_there unread reels q in_old))
          ])

-- the reels are the same, and expose their contents if they did
pub same_serials : (serial : ℕ) (f : Reel → Reel) → ((r : Reel) → (f r).serial ≡ r.serial) → (reels : List Reel) → serials (with_reel serial f reels) ≡ serials reels
same_serials serial f named reels = map-change_same (λ (r : Reel). serial == r.serial) f (λ (r : Reel). r.serial) named reels

abbrev TellsReel : Reel → Type 0
TellsReel r = is_some r.blocks ≡ true

pub still_told : (serial : ℕ) (f : Reel → Reel) → ((r : Reel) → is_some (f r).blocks ≡ is_some r.blocks) → (reels : List Reel) → All TellsReel (map unread reels) → All TellsReel (map unread (with_reel serial f reels))
still_told serial f tells reels all = All-change (λ (r : Reel). serial == r.serial) f TellsReel unread (λ r told. tells r ∙ told) reels all

pub shelf_after : (serial : ℕ) (f : Reel → Reel) → ((r : Reel) → (f r).serial ≡ r.serial) → (shelf next : ℕ → List Dump) → ((n : ℕ) → (n ≡ serial → ⊥) → next n ≡ shelf n) → (reels : List Reel)
    → AreReels reels → AreShelved shelf (map unread reels) → ((r : Reel) → reel serial reels ≡ Some r → ForSome (f r).blocks (λ blocks. AreCompleted serial blocks (next serial)))
    → AreShelved next (map unread (with_reel serial f reels))
shelf_after serial f named shelf next others reels right are there =
    changed_shelf serial f named shelf next others reels (AllPairs-from_increasing (serials reels) right.rising) are there
