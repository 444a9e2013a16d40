-- The names of one user's files are in the order of their full names.
-- serves: listing, SortedLemmas
use Rattle.std.proofs.Common.{◌≡◌, ℕ, ◌==◌, ◌⊎◌, true, false, List, [], ◌∷◌, map, filter, length, refl, sym, ap, ◌∙◌, inl, inr}
use Rattle.std.specs.Ordering.{nat_cmp, ordering_then}
use Rattle.std.specs.declared.cmp.Ordering.{Ordering}
use Rattle.std.specs.declared.cmp.Ordering.TheVariants.{Less, Equal, Greater}
use Rattle.std.specs.Cmp.{IsTotalOrder}
use Rattle.std.specs.FinMap.{IsAntisymmetric, empty, entries, entries-insert, from_entries, len-empty, len-entries, put}
use Rattle.std.specs.FinMap.Entries.{by_order}
use Rattle.std.proofs.lemmas.Bool.{cases_Bool, cond-false, cond-true, eqb-true}
use Rattle.std.proofs.lemmas.Cmp.{nat_cmp_total, nat_list_cmp_total, on_total, then_total, tied_itself}
use Rattle.std.proofs.lemmas.Map.Lookups.{exact_unsigned, exact_bytes, exact_pairs}
use Rattle.g_name.specs.declared.full.Full.{Full}
use Rattle.g_name.specs.Order.{text_cmp, full_cmp}
use Rattle.g_name.proofs.Order.{full_total}
use Rattle.g_entry.specs.declared.user_rec.UserRec.{UserRec}
use Rattle.g_entry.specs.declared.file_rec.FileRec.{FileRec}
use Rattle.g_tree.specs.declared.sorted.LocalName.{LocalName}
use Rattle.g_tree.specs.Names.{name_cmp, name_in}
use Rattle.g_tree.specs.Records.{full_of, name_of}
use Rattle.g_tree.proofs.ListLemmas.{map_of_map}

-- the full name of a user's file
abbrev pub under : List ℕ → LocalName → Full
under user name = record { user = user; local = name.local; generation = name.generation; lang = name.lang }

pub name_total : IsTotalOrder name_cmp
name_total =
    then_total (on_total (λ (n : LocalName). n.local) nat_list_cmp_total)
    (then_total (on_total (λ (n : LocalName). n.generation) nat_cmp_total) (on_total (λ (n : LocalName). n.lang) nat_list_cmp_total))

abbrev Parts : Type 0
Parts = List ℕ × (ℕ × List ℕ)

abbrev parts : LocalName → Parts
parts n = (n.local, (n.generation, n.lang))

abbrev from_parts : Parts → LocalName
from_parts p = record { local = p.0; generation = p.1.0; lang = p.1.1 }

-- names that tie are one
pub name_exact : IsAntisymmetric name_cmp
name_exact a b tie =
    let same : parts a ≡ parts b =
    exact_pairs text_cmp (λ p q. ordering_then (nat_cmp p.0 q.0) (text_cmp p.1 q.1)) exact_bytes
    (exact_pairs nat_cmp text_cmp exact_unsigned exact_bytes) (parts a) (parts b) tie in
    ap from_parts same

no_length : {A : Type 0} (xs : List A) → length xs ≡ 0 → xs ≡ []
no_length [] none = refl
no_length (x ∷ xs) none = absurd (let e : ⊥ = cc in e)

no_entries : {K X : Type 0} (R : K → K → Ordering) → entries (empty {K = K} {X = X} {R = R}) ≡ []
no_entries {K} {X} R = no_length (entries (empty {K = K} {X = X} {R = R})) (sym (len-entries (empty {K = K} {X = X} {R = R})) ∙ len-empty R X)

module _ (user : List ℕ) where
  abbrev placed : LocalName × ℕ → Full × ℕ
  placed e = (under user e.0, e.1)

  same_order : (a b : LocalName) → full_cmp (under user a) (under user b) ≡ name_cmp a b
  same_order a b = ap (λ (r : Ordering). ordering_then r (name_cmp a b)) (tied_itself nat_list_cmp_total user)

  put_under : (k : LocalName) (v : ℕ) (es : List (LocalName × ℕ)) → put full_cmp (under user k) v (map placed es) ≡ map placed (put name_cmp k v es)
  put_under k v [] = refl
  put_under k v (e ∷ es) =
      ap (λ (r : Ordering). by_order r ((under user k, v) ∷ map placed (e ∷ es)) ((under user e.0, v) ∷ map placed es) (placed e ∷ put full_cmp (under user k) v (map placed es))) (same_order k e.0)
      ∙ by_cases (name_cmp k e.0) (put_under k v es)
    where
      by_cases : (r : Ordering) → put full_cmp (under user k) v (map placed es) ≡ map placed (put name_cmp k v es)
          → by_order r ((under user k, v) ∷ map placed (e ∷ es)) ((under user e.0, v) ∷ map placed es) (placed e ∷ put full_cmp (under user k) v (map placed es))
          ≡ map placed (by_order r ((k, v) ∷ e ∷ es) ((e.0, v) ∷ es) (e ∷ put name_cmp k v es))
      by_cases Less rest = refl
      by_cases Equal rest = refl
      by_cases Greater rest = ap (λ (l : List (Full × ℕ)). placed e ∷ l) rest

  entries_under : (es : List (LocalName × ℕ)) → entries (from_entries {R = full_cmp} (map placed es)) ≡ map placed (entries (from_entries {R = name_cmp} es))
  entries_under [] = no_entries full_cmp ∙ sym (ap (map placed) (no_entries name_cmp))
  entries_under (e ∷ es) =
      entries-insert full_total (from_entries {R = full_cmp} (map placed es)) (under user e.0) e.1
      ∙ ap (put full_cmp (under user e.0) e.1) (entries_under es)
      ∙ put_under e.0 e.1 (entries (from_entries {R = name_cmp} es))
      ∙ sym (ap (map placed) (entries-insert name_total (from_entries {R = name_cmp} es) e.0 e.1))

module _ (users : List UserRec) (owner : ℕ) where
  abbrev own : List FileRec → List FileRec
  own files = filter (λ r. r.owner == owner) files

  abbrev by_full : List FileRec → List (Full × ℕ)
  by_full files = map (λ r. (full_of users r, r.number)) files

  abbrev by_local : List FileRec → List (LocalName × ℕ)
  by_local files = map (λ r. (name_in r, r.number)) files

  abbrev full_under : FileRec → ℕ → Full
  full_under r number = under (name_of users number) (name_in r)

  named_again : (files : List FileRec) → by_full (own files) ≡ map (placed (name_of users owner)) (by_local (own files))
  named_again [] = refl
  named_again (r ∷ files) = by_owner (cases_Bool (r.owner == owner)) (named_again files)
    where
      by_owner : ((r.owner == owner) ≡ true) ⊎ ((r.owner == owner) ≡ false) → by_full (own files) ≡ map (placed (name_of users owner)) (by_local (own files))
          → by_full (own (r ∷ files)) ≡ map (placed (name_of users owner)) (by_local (own (r ∷ files)))
      by_owner (inl is) rest =
          let long : own (r ∷ files) ≡ r ∷ own files = cond-true (r.owner == owner) (r ∷ own files) (own files) is in
          let same : r.owner ≡ owner = eqb-true r.owner owner is in
          ap by_full long ∙ (λ i. (full_under r (same i), r.number) ∷ rest i) ∙ sym (ap (λ (rs : List FileRec). map (placed (name_of users owner)) (by_local rs)) long)
      by_owner (inr isnt) rest =
          let short : own (r ∷ files) ≡ own files = cond-false (r.owner == owner) (r ∷ own files) (own files) isnt in
          ap by_full short ∙ rest ∙ sym (ap (λ (rs : List FileRec). map (placed (name_of users owner)) (by_local rs)) short)

  -- THE NUMBERS in the order of names are those in the order of full names
  pub names_listed : (files : List FileRec) → map (λ e. e.1) (entries (from_entries {R = name_cmp} (by_local (own files)))) ≡ map (λ e. e.1) (entries (from_entries {R = full_cmp} (by_full (own files))))
  names_listed files =
      let user = name_of users owner in
      sym (ap (λ (es : List (Full × ℕ)). map (λ e. e.1) (entries (from_entries {R = full_cmp} es))) (named_again files)
      ∙ ap (map (λ (e : Full × ℕ). e.1)) (entries_under user (by_local (own files)))
      ∙ map_of_map (λ (e : Full × ℕ). e.1) (placed user) (entries (from_entries {R = name_cmp} (by_local (own files)))))
