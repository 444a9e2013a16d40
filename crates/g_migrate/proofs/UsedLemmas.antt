-- A file that was looked up by its number is there.
-- serves: crates above
use Rattle.std.proofs.Common.{◌≡◌, ℕ, zero, suc, List, [], ◌∷◌, map, Some, refl, sym, ◌∙◌, ap, arith}
use Rattle.std.specs.Prelude.{Contains}
use Rattle.std.specs.FinMap.{get}
use Rattle.g_entry.specs.declared.file_rec.FileRec.{FileRec}
use Rattle.g_entry.specs.declared.user_rec.UserRec.{UserRec}
use Rattle.g_tree.specs.Records.{IsRecords, by_number}
use Rattle.g_tree.proofs.RightLemmas.{numbered_there}
use Rattle.g_disc_contents.specs.Contents.{File}
use Rattle.g_online.specs.AllowedChanges.{HasNumber}

file_there : (files : List File) (r : FileRec) → Contains (map (λ (f : File). f.rec) files) r → (f : File) × Contains files f × (f.rec ≡ r)
file_there [] r (i, inside, at) = let no : ⊥ = omega (arith, inside) in absurd no
file_there (f ∷ fs) r (zero, inside, at) = (f, (zero, omega arith, refl), at)
file_there (f ∷ fs) r (suc i, inside, at) = behind (file_there fs r (i, omega (arith, inside), at))
  where
    behind : (g : File) × Contains fs g × (g.rec ≡ r) → (g : File) × Contains (f ∷ fs) g × (g.rec ≡ r)
    behind (g, (j, within, is), same) = (g, (suc j, omega (arith, within), is), same)

pub used_there : (users : List UserRec) (files : List File) (number : ℕ) (r : FileRec) → IsRecords users (map (λ (f : File). f.rec) files) → Some r ≡ get (by_number (map (λ (f : File). f.rec) files)) number
    → HasNumber files number
used_there users files number r is at =
    let (there, numbered) = numbered_there users (map (λ (f : File). f.rec) files) is number r (sym at) in
    let (f, inside, same) = file_there files r there in
    (f, inside, ap (λ (s : FileRec). s.number) same ∙ numbered)
