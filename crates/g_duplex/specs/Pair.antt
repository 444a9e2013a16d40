-- Two racks as one.
use Rattle.std.proofs.Props.{props}
use Rattle.std.specs.Prelude.{ℕ, List, [], ◌∷◌, ◌++◌, Bool, true, false, Option, Some, None, filter, ◌==◌, if◌then◌else◌}
use Rattle.g_base.specs.Fuse.{Arms, armed_with}
use Rattle.g_tape.specs.Reel.{Reel}
use Rattle.g_tape.specs.Rack.{Rack, reel}
use Rattle.g_tape.specs.Reads.{blocks_in}
use Rattle.g_tape.specs.Risk.{Risk}
use Rattle.g_duplex.specs.Twins.{AreTwins, DoAgree, of_leader, of_twin, pair_reel}
use Rattle.g_duplex.specs.declared.twin.Twin.{Twin}
use Rattle.g_duplex.specs.declared.twin.Twin.TheVariants.{First, Second}
use Rattle.g_duplex.specs.declared.twin.Standing.{Standing}
use Rattle.g_duplex.specs.declared.twin.Standing.TheVariants.{Level, Apart, Lost}

-- A pair: the two racks, the standing of the twins of each reel, and the pair's own counts, fuse and armings.
pub record Pair : Type 0 where
  pub first : Rack
  pub second : Rack
  pub standings : List Standing
  pub read_faults : ℕ
  pub write_faults : ℕ
  pub fuse : Option ℕ
  pub arms : Arms

-- The reels that the pair shows.
abbrev pub pair_reels : List Standing → List Reel → List Reel → List Reel
pair_reels [] xs ys = []
pair_reels (t ∷ ts) [] ys = []
pair_reels (t ∷ ts) (a ∷ xs) [] = []
pair_reels (t ∷ ts) (a ∷ xs) (b ∷ ys) = pair_reel t a b ∷ pair_reels ts xs ys

-- The reels of the two racks are twins, one by one.
abbrev pub ArePaired : List Standing → List Reel → List Reel → Type 0
ArePaired [] [] [] = Unit {0}
ArePaired (t ∷ ts) (a ∷ xs) (b ∷ ys) = AreTwins t a b × ArePaired ts xs ys
ArePaired ts xs ys = ⊥

DoAgree-prop : (t : Standing) (a b : Reel) → IsProp (DoAgree t a b)
DoAgree-prop Level a b = hlevel props
DoAgree-prop (Apart k) a b = hlevel props
DoAgree-prop (Lost twin) a b = hlevel props

AreTwins-prop : (t : Standing) (a b : Reel) → IsProp (AreTwins t a b)
AreTwins-prop t a b = hlevel (props, DoAgree-prop)

-- Being paired is a proposition: any two proofs of it are equal.
pub ArePaired-prop : (ts : List Standing) (xs ys : List Reel) → IsProp (ArePaired ts xs ys)
ArePaired-prop [] [] [] = hlevel props
ArePaired-prop [] [] (b ∷ ys) = hlevel props
ArePaired-prop [] (a ∷ xs) ys = hlevel props
ArePaired-prop (t ∷ ts) [] ys = hlevel props
ArePaired-prop (t ∷ ts) (a ∷ xs) [] = hlevel props
ArePaired-prop (t ∷ ts) (a ∷ xs) (b ∷ ys) = let rest = ArePaired-prop ts xs ys in hlevel (props, AreTwins-prop, rest)

-- The standing of the twins of this serial, looked up among the serials of these reels.
abbrev pub standing : ℕ → List Reel → List Standing → Option Standing
standing s [] ts = None
standing s (a ∷ xs) [] = None
standing s (a ∷ xs) (t ∷ ts) = if s == a.serial then Some t else standing s xs ts

-- This twin leads, and the pair shows the blocks of the reel. (Other reels show no risk, so they count as syncable.)
abbrev pub leads : Twin → Option Standing → Option (List (List ℕ)) → Bool
leads twin None blocks = false
leads twin (Some t) None = false
leads twin (Some t) (Some blocks) = of_twin twin (of_leader t true false) (of_leader t false true)

-- Those of the risks of a rack whose reels this twin leads.
abbrev pub led_by : Twin → List Standing → List Reel → List Risk → List Risk
led_by twin ts reels risks = filter (λ r. leads twin (standing r.serial reels ts) (blocks_in (reel r.serial reels))) risks

-- What a power loss may leave of the reels that the pair shows: what it may leave of their leading twins. It assumes that the same twins lead
-- after the next start, which chooses them again.
abbrev pub pair_risks : List Standing → List Reel → List Risk → List Risk → List Risk
pair_risks ts reels first second = led_by First ts reels first ++ led_by Second ts reels second

-- The rack that the pair shows: the reels of the leading twins, with the pair's own counts and fuse.
abbrev pub shown : Pair → Rack
shown p = record {
  reels = pair_reels p.standings p.first.reels p.second.reels;
  read_faults = p.read_faults;
  write_faults = p.write_faults;
  fuse = p.fuse;
  arms = p.arms;
  risks = pair_risks p.standings (pair_reels p.standings p.first.reels p.second.reels) p.first.risks p.second.risks;
}

-- The standings, with f applied to that of the twins of this serial.
abbrev pub with_standing : ℕ → (Standing → Standing) → List Reel → List Standing → List Standing
with_standing s f [] ts = ts
with_standing s f (a ∷ xs) [] = []
with_standing s f (a ∷ xs) (t ∷ ts) = if s == a.serial then f t ∷ ts else t ∷ with_standing s f xs ts

-- The standing of the twins of this serial.
abbrev pub standing_in : ℕ → Pair → Option Standing
standing_in s p = standing s p.first.reels p.standings

-- The standings of the pair, with f applied to that of the twins of this serial.
abbrev pub stands : ℕ → (Standing → Standing) → Pair → List Standing
stands s f p = with_standing s f p.first.reels p.standings

-- The lost twins, in the order of the reels.
abbrev pub lost_of : List Reel → List Standing → List (ℕ × Twin)
lost_of [] ts = []
lost_of (a ∷ xs) [] = []
lost_of (a ∷ xs) (Level ∷ ts) = lost_of xs ts
lost_of (a ∷ xs) (Apart k ∷ ts) = lost_of xs ts
lost_of (a ∷ xs) (Lost twin ∷ ts) = (a.serial, twin) ∷ lost_of xs ts

-- The rack, armed for its next write.
abbrev pub armed : Rack → Rack
armed r = record r { fuse = Some 1; arms = armed_with 1 r.write_faults r.arms }
