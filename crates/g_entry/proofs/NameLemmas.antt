-- Full names, by their parts.
-- serves: full_names_differ, names_differ
use Rattle.std.proofs.Common.{◌≡◌, ℕ, Bool, List, ap, nat_eq}
use Rattle.std.specs.Prelude.{◌&&◌}
use Rattle.std.specs.Bool.{Decides}
use Rattle.std.specs.Cmp.Lexicographic.{pointwise, bytes_decides}
use Rattle.std.proofs.lemmas.Bool.Decides.{Decides-and, Decides-eqb}
use Rattle.g_entry.specs.declared.file_rec.FileRec.{FileRec}
use Rattle.g_entry.specs.declared.rules.FileName.{FileName}
use Rattle.g_entry.specs.FileNames.{name_of, same_name}
use Rattle.g_entry.specs.Rules.{SameName}

pub same_text : (a b : List ℕ) → Decides (pointwise nat_eq a b) (a ≡ b)
same_text = bytes_decides

one_name : (a b : FileName) → a.owner ≡ b.owner → a.local ≡ b.local → a.generation ≡ b.generation → a.lang ≡ b.lang → a ≡ b
one_name a b owner local generation lang =
    let x : FileName = record { owner = a.owner; local = a.local; generation = a.generation; lang = a.lang } in
    let y : FileName = record { owner = b.owner; local = b.local; generation = b.generation; lang = b.lang } in
    let equal : x ≡ y = cc in equal

pub same_file_name : (a b : FileName) → Decides (same_name a b) (a ≡ b)
same_file_name a b =
    let local = Decides-and (pointwise nat_eq a.local b.local) (nat_eq a.generation b.generation && pointwise nat_eq a.lang b.lang) (same_text a.local b.local)
    (Decides-and (nat_eq a.generation b.generation) (pointwise nat_eq a.lang b.lang) (Decides-eqb a.generation b.generation) (same_text a.lang b.lang)) in
    let parts = Decides-and (nat_eq a.owner b.owner) (pointwise nat_eq a.local b.local && (nat_eq a.generation b.generation && pointwise nat_eq a.lang b.lang)) (Decides-eqb a.owner b.owner) local in
    (λ is. let all = parts.0 is in one_name a b all.0 all.1.0 all.1.1.0 all.1.1.1, λ is. parts.1 (ap (λ (n : FileName). n.owner) is, (ap (λ (n : FileName). n.local) is, (ap (λ (n : FileName). n.generation) is, ap (λ (n : FileName). n.lang) is))))

-- two files of one full name, and their names
pub SameName-from : (r s : FileRec) → name_of r ≡ name_of s → SameName r s
SameName-from r s is = record {
  owner = ap (λ (n : FileName). n.owner) is;
  local = ap (λ (n : FileName). n.local) is;
  generation = ap (λ (n : FileName). n.generation) is;
  lang = ap (λ (n : FileName). n.lang) is;
}

pub SameName-to : (r s : FileRec) → SameName r s → name_of r ≡ name_of s
SameName-to r s is = one_name (name_of r) (name_of s) is.owner is.local is.generation is.lang
