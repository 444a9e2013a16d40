-- What a power loss may leave of the reels that a pair shows, by their serials.
-- serves: DurableLemmas, LoseLemmas, MountLemmas, RackRiskLemmas
use Rattle.std.proofs.Common.{◌≡◌, ℕ, List, [], ◌∷◌, ◌++◌, Bool, true, false, ◌==◌, Option, Some, None, if◌then◌else◌, filter, map, option_map, refl, sym, subst, ap, ◌∙◌, inl, inr}
use Rattle.std.proofs.lemmas.Bool.{cases_eq, ne_eqb}
use Rattle.std.proofs.lemmas.Bool.Decides.{eqb_tells}
use Rattle.g_tape.specs.Reel.{Reel, with_mounted}
use Rattle.g_tape.specs.Rack.{reel, with_reel}
use Rattle.g_tape.specs.Reads.{blocks_in, blocks_of}
use Rattle.g_tape.specs.Risk.{Risk, risk}
use Rattle.g_tape.proofs.ReadLemmas.{reel-with_reel, reel-with_reel_other}
use Rattle.g_duplex.specs.Twins.{of_leader}
use Rattle.g_duplex.specs.Pair.{ArePaired, Pair, leads, led_by, pair_risks, shown, standing, standing_in, with_standing}
use Rattle.g_duplex.specs.SeenReels.{labels_seen}
use Rattle.g_duplex.specs.declared.twin.Twin.{Twin}
use Rattle.g_duplex.specs.declared.twin.Twin.TheVariants.{First, Second}
use Rattle.g_duplex.specs.declared.twin.Standing.{Standing}
use Rattle.g_duplex.specs.declared.twin.Standing.TheVariants.{Apart, Level, Lost}
use Rattle.g_duplex.proofs.PairLemmas.{labels_kept}

abbrev Blocks : Type 0
Blocks = List (List ℕ)

-- THE RISK of one serial among those that are picked by their serials
module _ (f : ℕ → Bool) (s : ℕ) where
  abbrev picked_by : List Risk → List Risk
  picked_by rs = filter (λ r. f r.serial) rs

  passed : (r : Risk) (rs : List Risk) → (s == r.serial) ≡ false → (b : Bool) → risk s (if b then r ∷ picked_by rs else picked_by rs) ≡ risk s (picked_by rs)
  passed r rs apart true = ap (λ (c : Bool). if c then Some r else risk s (picked_by rs)) apart
  passed r rs apart false = refl

  pub risk_kept : f s ≡ true → (rs : List Risk) → risk s (picked_by rs) ≡ risk s rs
  risk_kept is [] = refl
  risk_kept is (r ∷ rs) =
      elim (eqb_tells s r.serial) [
        | inl here ↦
            ap (λ (b : Bool). risk s (if b then r ∷ picked_by rs else picked_by rs)) (ap f (sym here.1) ∙ is)
            ∙ ap (λ (c : Bool). if c then Some r else risk s (picked_by rs)) here.0 ∙ sym (ap (λ (c : Bool). if c then Some r else risk s rs) here.0)
        | inr apart ↦ passed r rs apart.0 (f r.serial) ∙ risk_kept is rs ∙ sym (ap (λ (c : Bool). if c then Some r else risk s rs) apart.0)
      ]

  pub risk_dropped : f s ≡ false → (rs : List Risk) → risk s (picked_by rs) ≡ None
  risk_dropped is [] = refl
  risk_dropped is (r ∷ rs) =
      elim (eqb_tells s r.serial) [
        | inl here ↦ ap (λ (b : Bool). risk s (if b then r ∷ picked_by rs else picked_by rs)) (ap f (sym here.1) ∙ is) ∙ risk_dropped is rs
        | inr apart ↦ passed r rs apart.0 (f r.serial) ∙ risk_dropped is rs
      ]

risk_left : (s : ℕ) (ps qs : List Risk) → risk s qs ≡ None → risk s (ps ++ qs) ≡ risk s ps
risk_left s [] qs none = none
risk_left s (p ∷ ps) qs none = ap (λ (o : Option Risk). if s == p.serial then Some p else o) (risk_left s ps qs none)

risk_right : (s : ℕ) (ps qs : List Risk) → risk s ps ≡ None → risk s (ps ++ qs) ≡ risk s qs
risk_right s [] qs none = refl
risk_right s (p ∷ ps) qs none =
    elim (eqb_tells s p.serial) [
      | inl here ↦ let never : Some p ≡ None = sym (ap (λ (c : Bool). if c then Some p else risk s ps) here.0) ∙ none in absurd (cc)
      | inr apart ↦
          ap (λ (c : Bool). if c then Some p else risk s (ps ++ qs)) apart.0
          ∙ risk_right s ps qs (sym (ap (λ (c : Bool). if c then Some p else risk s ps) apart.0) ∙ none)
    ]

-- Of the risks of both twins, that of the leading one, if the pair shows the blocks of its reel.
abbrev pub of_shown : Option Standing → Option Blocks → Option Risk → Option Risk → Option Risk
of_shown None blocks first second = None
of_shown (Some t) None first second = None
of_shown (Some t) (Some blocks) first second = of_leader t first second

module _ (s : ℕ) (ts : List Standing) (reels : List Reel) (ps qs : List Risk) where
  abbrev leads_at : Twin → ℕ → Bool
  leads_at twin u = leads twin (standing u reels ts) (blocks_in (reel u reels))

  neither : leads_at First s ≡ false → leads_at Second s ≡ false → risk s (pair_risks ts reels ps qs) ≡ None
  neither one two =
      risk_right s (led_by First ts reels ps) (led_by Second ts reels qs) (risk_dropped (leads_at First) s one ps) ∙ risk_dropped (leads_at Second) s two qs

  first_leads : leads_at First s ≡ true → leads_at Second s ≡ false → risk s (pair_risks ts reels ps qs) ≡ risk s ps
  first_leads one two =
      risk_left s (led_by First ts reels ps) (led_by Second ts reels qs) (risk_dropped (leads_at Second) s two qs) ∙ risk_kept (leads_at First) s one ps

  second_leads : leads_at First s ≡ false → leads_at Second s ≡ true → risk s (pair_risks ts reels ps qs) ≡ risk s qs
  second_leads one two =
      risk_right s (led_by First ts reels ps) (led_by Second ts reels qs) (risk_dropped (leads_at First) s one ps) ∙ risk_kept (leads_at Second) s two qs

  by_leader : (o : Option Standing) (b : Option Blocks) → ((twin : Twin) → leads_at twin s ≡ leads twin o b)
      → risk s (pair_risks ts reels ps qs) ≡ of_shown o b (risk s ps) (risk s qs)
  by_leader None b is = neither (is First) (is Second)
  by_leader (Some t) None is = neither (is First) (is Second)
  by_leader (Some Level) (Some bs) is = first_leads (is First) (is Second)
  by_leader (Some (Apart k)) (Some bs) is = first_leads (is First) (is Second)
  by_leader (Some (Lost First)) (Some bs) is = second_leads (is First) (is Second)
  by_leader (Some (Lost Second)) (Some bs) is = first_leads (is First) (is Second)

  pub risk_of_shown : risk s (pair_risks ts reels ps qs) ≡ of_shown (standing s reels ts) (blocks_in (reel s reels)) (risk s ps) (risk s qs)
  risk_of_shown = by_leader (standing s reels ts) (blocks_in (reel s reels)) (λ twin. refl)

-- Standings depend only on the labels.
pub standing_labels : (s : ℕ) (xs ys : List Reel) (ts : List Standing) → map (λ (r : Reel). r.serial) ys ≡ map (λ (r : Reel). r.serial) xs → standing s ys ts ≡ standing s xs ts
standing_labels s [] [] ts same = refl
standing_labels s [] (y ∷ ys) ts same = let wrong : (y.serial ∷ map (λ (r : Reel). r.serial) ys) ≡ [] = same in absurd (cc)
standing_labels s (x ∷ xs) [] ts same = let wrong : [] ≡ (x.serial ∷ map (λ (r : Reel). r.serial) xs) = same in absurd (cc)
standing_labels s (x ∷ xs) (y ∷ ys) [] same = refl
standing_labels s (x ∷ xs) (y ∷ ys) (t ∷ ts) same =
    let is : (y.serial ∷ map (λ (r : Reel). r.serial) ys) ≡ (x.serial ∷ map (λ (r : Reel). r.serial) xs) = same in
    let one : y.serial ≡ x.serial = cc in
    let rest : map (λ (r : Reel). r.serial) ys ≡ map (λ (r : Reel). r.serial) xs = cc in
    ap (λ (n : ℕ). if s == n then Some t else standing s ys ts) one ∙ ap (λ (o : Option Standing). if s == x.serial then Some t else o) (standing_labels s xs ys ts rest)

-- the standing of a serial after it is changed, and that of another serial
pub standing_set : (s : ℕ) (xs : List Reel) (ts : List Standing) (t u : Standing) → standing s xs ts ≡ Some t → standing s xs (with_standing s (λ (v : Standing). u) xs ts) ≡ Some u
standing_set s [] ts t u is = let wrong : None ≡ Some t = is in absurd (cc)
standing_set s (x ∷ xs) [] t u is = let wrong : None ≡ Some t = is in absurd (cc)
standing_set s (x ∷ xs) (v ∷ ts) t u is =
    elim (eqb_tells s x.serial) [
      | inl here ↦ rw (here.0, here.0) refl
      | inr apart ↦ rw (apart.0, apart.0) (standing_set s xs ts t u (rw apart.0 at is))
    ]

pub standing_other : (s u : ℕ) (c : Standing → Standing) → (u ≡ s → ⊥) → (xs : List Reel) (ts : List Standing) → standing u xs (with_standing s c xs ts) ≡ standing u xs ts
standing_other s u c apart [] ts = refl
standing_other s u c apart (x ∷ xs) [] = refl
standing_other s u c apart (x ∷ xs) (t ∷ ts) =
    elim (eqb_tells s x.serial) [
      | inl here ↦
          let differs : (u == x.serial) ≡ false = ne_eqb u x.serial (λ e. apart (e ∙ sym here.1)) in
          ap (λ (b : Bool). standing u (x ∷ xs) (if b then c t ∷ ts else t ∷ with_standing s c xs ts)) here.0
          ∙ ap (λ (b : Bool). if b then Some (c t) else standing u xs ts) differs
          ∙ sym (ap (λ (b : Bool). if b then Some t else standing u xs ts) differs)
      | inr past ↦
          ap (λ (b : Bool). standing u (x ∷ xs) (if b then c t ∷ ts else t ∷ with_standing s c xs ts)) past.0
          ∙ ap (λ (o : Option Standing). if u == x.serial then Some t else o) (standing_other s u c apart xs ts)
    ]

-- What a power loss may leave of one reel of a pair
pub shown_risk : (s : ℕ) (p : Pair) → ArePaired p.standings p.first.reels p.second.reels
    → risk s (shown p).risks ≡ of_shown (standing_in s p) (blocks_of s (shown p)) (risk s p.first.risks) (risk s p.second.risks)
shown_risk s p paired =
    risk_of_shown s p.standings (shown p).reels p.first.risks p.second.risks
    ∙ ap (λ (o : Option Standing). of_shown o (blocks_of s (shown p)) (risk s p.first.risks) (risk s p.second.risks))
    (standing_labels s p.first.reels (shown p).reels p.standings (labels_seen p.standings p.first.reels p.second.reels paired))

-- MOUNTS change nothing of it
filter_same : (f g : Risk → Bool) → ((r : Risk) → f r ≡ g r) → (rs : List Risk) → filter f rs ≡ filter g rs
filter_same f g same [] = refl
filter_same f g same (r ∷ rs) =
    ap (λ (b : Bool). if b then r ∷ filter f rs else filter f rs) (same r) ∙ ap (λ (xs : List Risk). if g r then r ∷ xs else xs) (filter_same f g same rs)

blocks_kept : (f : Reel → Reel) → ((r : Reel) → (f r).blocks ≡ r.blocks) → (o : Option Reel) → blocks_in (option_map f o) ≡ blocks_in o
blocks_kept f keeps None = refl
blocks_kept f keeps (Some r) = keeps r

blocks_with : (s u : ℕ) (f : Reel → Reel) → ((r : Reel) → (f r).serial ≡ r.serial) → ((r : Reel) → (f r).blocks ≡ r.blocks) → (rs : List Reel)
    → blocks_in (reel u (with_reel s f rs)) ≡ blocks_in (reel u rs)
blocks_with s u f serial blocks rs =
    elim (cases_eq s u) [
      | inl same ↦
          subst (λ (n : ℕ). blocks_in (reel n (with_reel s f rs)) ≡ blocks_in (reel n rs)) same
          (ap blocks_in (reel-with_reel s f serial rs) ∙ blocks_kept f blocks (reel s rs))
      | inr apart ↦ ap blocks_in (reel-with_reel_other s u f serial apart rs)
    ]

led_mounted : (twin : Twin) (is : Bool) (s : ℕ) (ts : List Standing) (rs : List Reel) (risks : List Risk)
    → led_by twin ts (with_reel s (with_mounted is) rs) risks ≡ led_by twin ts rs risks
led_mounted twin is s ts rs risks =
    filter_same (λ r. leads twin (standing r.serial (with_reel s (with_mounted is) rs) ts) (blocks_in (reel r.serial (with_reel s (with_mounted is) rs))))
    (λ r. leads twin (standing r.serial rs ts) (blocks_in (reel r.serial rs)))
    (λ r.
    ap (λ (o : Option Standing). leads twin o (blocks_in (reel r.serial (with_reel s (with_mounted is) rs))))
    (standing_labels r.serial rs (with_reel s (with_mounted is) rs) ts (labels_kept s (with_mounted is) (λ x. refl) rs))
    ∙ ap (leads twin (standing r.serial rs ts)) (blocks_with s r.serial (with_mounted is) (λ x. refl) (λ x. refl) rs)) risks

pub risks_mounted : (is : Bool) (s : ℕ) (ts : List Standing) (rs : List Reel) (ps qs : List Risk)
    → pair_risks ts (with_reel s (with_mounted is) rs) ps qs ≡ pair_risks ts rs ps qs
risks_mounted is s ts rs ps qs =
    ap (λ (xs : List Risk). xs ++ led_by Second ts (with_reel s (with_mounted is) rs) qs) (led_mounted First is s ts rs ps)
    ∙ ap (λ (xs : List Risk). led_by First ts rs ps ++ xs) (led_mounted Second is s ts rs qs)
