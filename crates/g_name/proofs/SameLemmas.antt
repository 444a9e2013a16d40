-- Paths of the same parts are one.
-- serves: copy
use Rattle.std.proofs.Common.{◌≡◌, ℕ, ◌≤◌, List, Option}
use Rattle.std.proofs.Props.{props}
use Rattle.std.specs.Prelude.{IfSome}
use Rattle.g_name.specs.declared.path.Path.{Path}

abbrev InRange : Option ℕ → Type 0
InRange generation = IfSome generation (λ g. (1 ≤ g) × (g ≤ 4095))

one_range : (generation : Option ℕ) → IsProp (InRange generation)
one_range generation = hlevel props

pub same_path : (p : Path) (user : Option (List ℕ)) (local : List ℕ) (lang : Option (List ℕ)) (in_range : InRange p.generation) → user ≡ p.user → local ≡ p.local → lang ≡ p.lang
    → ◌≡◌ {A = Path} (record { user = user; local = local; generation = p.generation; lang = lang; in_range = in_range }) p
same_path p user local lang in_range of_user of_local of_lang = λ i. record {
  user = of_user i;
  local = of_local i;
  generation = p.generation;
  lang = of_lang i;
  in_range = one_range p.generation in_range p.in_range i;
}
