-- A rack on which reels were unmounted, and nothing else changed.
-- serves: unmount_all (unmounted)
use Rattle.std.proofs.Common.{◌≡◌, ◌⊎◌, inl, inr, ◌==◌, ℕ, suc, ◌+◌, ◌<◌, ◌≤◌, Bool, true, false, List, length, get_or, Option, Some, None, Result, Ok, Err, map, slice_get, refl, sym, ◌∙◌, ap, arith, subst, if◌then◌else◌}
use Rattle.std.specs.Prelude.{Contains}
use Rattle.std.specs.Option.{option_map}
use Rattle.std.proofs.lemmas.Bool.{cases_eq}
use Rattle.std.proofs.lemmas.List.{length-map}
use Rattle.std.proofs.lemmas.Option.{slice_get-get_or}
use Rattle.g_base.proofs.KeyLemmas.{map-change_same}
use Rattle.g_tape.specs.declared.fault.TapeFault.{TapeFault}
use Rattle.g_tape.specs.declared.fault.TapeFault.TheVariants.{NoTape, NotMounted}
use Rattle.g_tape.specs.Reel.{Reel, with_mounted}
use Rattle.g_tape.specs.Rack.{Mounting, Rack, is_mounted, reel, refuses_unmount, with_reel}
use Rattle.g_tape.proofs.PlaceLemmas.{reel-found}
use Rattle.g_tape.proofs.ReadLemmas.{reel-with_reel, reel-with_reel_other}
use Rattle.g_look.proofs.DiscLemmas.{contains_map}
use Rattle.g_outlook.specs.Looking.{IsUnmounted}

-- the serials of reels
abbrev pub serials : List Reel → List ℕ
serials reels = map (λ (r : Reel). r.serial) reels

-- THE FIRST i REELS are unmounted, and nothing else changed
pub record HasUnmounted (first now : Rack) (i : ℕ) : Type 0 where
  pub reels : map (with_mounted false) now.reels ≡ map (with_mounted false) first.reels
  pub rest : let t : Rack = record first { reels = now.reels } in now ≡ t
  pub serials_are : serials now.reels ≡ serials first.reels
  pub down : (j s : ℕ) → j < i → slice_get (serials now.reels) j ≡ Some s → is_mounted (reel s now.reels) ≡ false

pub none_yet : (first : Rack) → HasUnmounted first first 0
none_yet first = record { reels = refl; rest = refl; serials_are = refl; down = λ j s below at. absurd (let no : ⊥ = omega (arith, below) in no) }

-- the place of a reel is one of the rack
pub still_there : (first now : Rack) (i : ℕ) → HasUnmounted first now i → length now.reels ≡ length first.reels
still_there first now i so_far =
    sym (length-map now.reels (λ (r : Reel). r.serial)) ∙ ap (λ (ss : List ℕ). length ss) so_far.serials_are ∙ length-map first.reels (λ (r : Reel). r.serial)

-- a reel that was unmounted isn't mounted, and one that can't be isn't either
down_now : (o : Option Reel) → is_mounted (option_map (with_mounted false) o) ≡ false
down_now None = refl
down_now (Some r) = refl

not_up : (b : Bool) (fault : TapeFault) → (let refused : Option TapeFault = if b then None else Some NotMounted in refused) ≡ Some fault → b ≡ false
not_up true fault at = absurd (let no : ⊥ = cc in no)
not_up false fault at = refl

down_before : (o : Option Reel) (fault : TapeFault) → refuses_unmount o ≡ Some fault → is_mounted o ≡ false
down_before None fault at = refl
down_before (Some r) fault at = not_up r.mounted fault at

module _ (first old : Rack) (i s : ℕ) (so_far : HasUnmounted first old i) (here : slice_get (serials old.reels) i ≡ Some s) where
  -- one reel was unmounted
  done : (now : List Reel) → now ≡ with_reel s (with_mounted false) old.reels → (let t : Rack = record old { reels = now } in HasUnmounted first t (i + 1))
  done now is = record {
    reels = ap (map (with_mounted false)) is ∙ map-change_same (λ (r : Reel). s == r.serial) (with_mounted false) (with_mounted false) (λ r. refl) old.reels ∙ so_far.reels;
    rest = ap (λ (r : Rack). let t : Rack = record r { reels = now } in t) so_far.rest;
    serials_are = same_serials ∙ so_far.serials_are;
    down = λ j t below at. by_serial j t below at (cases_eq t s);
  }
    where
      same_serials : serials now ≡ serials old.reels
      same_serials = ap serials is ∙ map-change_same (λ (r : Reel). s == r.serial) (with_mounted false) (λ (r : Reel). r.serial) (λ r. refl) old.reels

      earlier : (j t : ℕ) → j < i + 1 → slice_get (serials old.reels) j ≡ Some t → (t ≡ s → ⊥) → j < i
      earlier j t below at other = by (cases_eq j i)
        where
          by : (j ≡ i) ⊎ (j ≡ i → ⊥) → j < i
          by (inl same) = absurd (other (let both : Some t ≡ Some s = sym at ∙ ap (slice_get (serials old.reels)) same ∙ here in cc))
          by (inr differ) = omega (arith, below, differ)

      by_serial : (j t : ℕ) → j < i + 1 → slice_get (serials now) j ≡ Some t → (t ≡ s) ⊎ (t ≡ s → ⊥) → is_mounted (reel t now) ≡ false
      by_serial j t below at (inl same) =
          ap is_mounted (ap (λ (n : ℕ). reel n now) same ∙ ap (reel s) is ∙ reel-with_reel s (with_mounted false) (λ r. refl) old.reels) ∙ down_now (reel s old.reels)
      by_serial j t below at (inr other) =
          let before : slice_get (serials old.reels) j ≡ Some t = ap (λ (ss : List ℕ). slice_get ss j) (sym same_serials) ∙ at in
          ap is_mounted (ap (reel t) is ∙ reel-with_reel_other s t (with_mounted false) (λ r. refl) (λ e. other (sym e)) old.reels)
          ∙ so_far.down j t (earlier j t below before other) before

  -- the reel wasn't mounted
  kept : is_mounted (reel s old.reels) ≡ false → HasUnmounted first old (i + 1)
  kept down = record { reels = so_far.reels; rest = so_far.rest; serials_are = so_far.serials_are; down = λ j t below at. by_place j t below at (cases_eq j i) }
    where
      by_place : (j t : ℕ) → j < i + 1 → slice_get (serials old.reels) j ≡ Some t → (j ≡ i) ⊎ (j ≡ i → ⊥) → is_mounted (reel t old.reels) ≡ false
      by_place j t below at (inl same) =
          let both : Some t ≡ Some s = sym at ∙ ap (slice_get (serials old.reels)) same ∙ here in
          let is : t ≡ s = cc in
          ap (λ (n : ℕ). is_mounted (reel n old.reels)) is ∙ down
      by_place j t below at (inr differ) = so_far.down j t (omega (arith, below, differ)) at

  pub one_more_down : (result : Result (Unit {0}) TapeFault) (new : Rack) → Mounting refuses_unmount false s old result new → HasUnmounted first new (i + 1)
  one_more_down (Ok _) new did = subst (λ (r : Rack). HasUnmounted first r (i + 1)) (sym did.1) (done (with_reel s (with_mounted false) old.reels) refl)
  one_more_down (Err fault) new did = subst (λ (r : Rack). HasUnmounted first r (i + 1)) (sym did.1) (kept (down_before (reel s old.reels) fault did.0))

-- ALL REELS are unmounted
pub all_down : (first now : Rack) (i : ℕ) → HasUnmounted first now i → length first.reels ≤ i → IsUnmounted now
all_down first now i so_far all s = by (reel s now.reels) refl
  where
    by : (o : Option Reel) → reel s now.reels ≡ o → is_mounted o ≡ false
    by None at = refl
    by (Some r) at =
        let (there, serial) = reel-found s now.reels r at in
        let (k, inside, is) = contains_map (λ (q : Reel). q.serial) now.reels r there in
        let long = still_there first now i so_far in
        let many = length-map now.reels (λ (q : Reel). q.serial) in
        ap is_mounted (sym at) ∙ so_far.down k s (omega (arith, inside, many, long, all)) (place k inside is serial)
      where
        place : (k : ℕ) → k < length (serials now.reels) → get_or (serials now.reels) k r.serial ≡ r.serial → r.serial ≡ s → slice_get (serials now.reels) k ≡ Some s
        place k inside is serial = slice_get-get_or (serials now.reels) k r.serial inside ∙ ap Some (is ∙ serial)
