-- The place of a number among files sorted by number, and what is found there.
-- serves: erase (records), file_at (value), free_file (least, unused), lower (newest), newest_but (generation), put (same_name), rename, renew, and 7 more
use Rattle.std.proofs.Common.{◌≡◌, ℕ, zero, suc, ◌<◌, ◌≤◌, ◌⊎◌, List, [], ◌∷◌, cond, length, get_or, Some, None, is_some, false, refl, sym, ap, subst, ◌∙◌, arith, inl, inr, true≢false}
use Rattle.std.specs.List.{AllWithin}
use Rattle.std.specs.Option.{option_map}
use Rattle.std.specs.Ordering.{nat_cmp}
use Rattle.std.specs.Cmp.{eq_by_cmp_equiv, unsigned_tied}
use Rattle.std.specs.FinMap.{get, find, get-from_entries, nat_cmp-IsAntisymmetric}
use Rattle.std.proofs.lemmas.Bool.{cases_lt}
use Rattle.std.proofs.lemmas.Cmp.{nat_cmp_total}
use Rattle.std.proofs.lemmas.List.Elements.{All-tail, Contains-get_or}
use Rattle.g_name.specs.declared.full.Full.{Full}
use Rattle.g_entry.specs.declared.user_rec.UserRec.{UserRec}
use Rattle.g_entry.specs.declared.file_rec.FileRec.{FileRec}
use Rattle.g_entry.specs.Rules.{AreNumbered}
use Rattle.g_table.specs.Files.{rec_at}
use Rattle.g_plain.proofs.Found.{same_some}
use Rattle.g_tree.specs.Records.{by_number, full_of, name_of_file}
use Rattle.g_tree.specs.Places.{StandsAt, FitsAt}
use Rattle.g_tree.proofs.ListLemmas.{pairs_rest}
use Rattle.g_tree.proofs.MapLemmas.{keyed, AreApart, found_itself, none_found}

pub no_file : FileRec
no_file = record { number = 0; owner = 0; local = []; generation = 0; lang = []; stamp = 0; len = 0; traps = record { owner = 0; others = [] }; tape = None }

-- The place of a number, or the place where it would fit.

below_more : (s : FileRec) (files : List FileRec) (number n : ℕ) → s.number < number → AllWithin (λ r. r.number < number) files 0 n
    → (k : ℕ) (d : FileRec) → 0 ≤ k → k < suc n → (get_or (s ∷ files) k d).number < number
below_more s files number n first rest zero d low high = first
below_more s files number n first rest (suc k) d low high = rest k d (omega arith) (omega arith)

above_more : (s : FileRec) (files : List FileRec) (number n : ℕ) → AllWithin (λ r. number < r.number) files n (length files)
    → (k : ℕ) (d : FileRec) → suc n ≤ k → k < length (s ∷ files) → number < (get_or (s ∷ files) k d).number
above_more s files number n rest zero d low high = absurd (omega arith)
above_more s files number n rest (suc k) d low high = rest k d (omega arith) (omega arith)

above_all : (s : FileRec) (files : List FileRec) (number : ℕ) → AreNumbered (s ∷ files) → number < s.number
    → (k : ℕ) (d : FileRec) → 0 ≤ k → k < length (s ∷ files) → number < (get_or (s ∷ files) k d).number
above_all s files number is lower zero d low high = lower
above_all s files number is lower (suc k) d low high = let rising = is.rising 0 (suc k) d (omega arith) high in omega (arith, rising)

pub place_for : (files : List FileRec) (number : ℕ) → AreNumbered files → (place : ℕ) × (StandsAt files number place ⊎ FitsAt files number place)
place_for [] number is = (0, inr (record { within = omega arith; below = λ k d low high. absurd (omega arith); above = λ k d low high. absurd (omega arith) }))
place_for (s ∷ files) number is =
    elim (cases_lt s.number number) as (λ _. (place : ℕ) × (StandsAt (s ∷ files) number place ⊎ FitsAt (s ∷ files) number place)) [
      | inl lower ↦
          let numbered : AreNumbered files = record { rising = pairs_rest (λ r t. r.number < t.number) s files is.rising; below = All-tail (λ r. r.number < 1024) s files is.below } in
          let (place, there) = place_for files number numbered in (
            suc place,
            elim there as (λ _. StandsAt (s ∷ files) number (suc place) ⊎ FitsAt (s ∷ files) number (suc place)) [
              | inl at ↦ inl (record { within = (let within = at.within in omega arith); has = at.has })
              | inr fits ↦ inr (record {
                within = (let within = fits.within in omega arith);
                below = below_more s files number place lower fits.below;
                above = above_more s files number place fits.above;
              })
            ],
          )
      | inr high ↦ (
        0,
        elim (cases_lt number s.number) as (λ _. StandsAt (s ∷ files) number 0 ⊎ FitsAt (s ∷ files) number 0) [
          | inl above ↦ inr (record { within = omega arith; below = λ k d low under. absurd (omega arith); above = above_all s files number is above })
          | inr same ↦ inl (record { within = omega arith; has = λ d. omega arith })
        ],
      )
    ]

module _ (files : List FileRec) (is : AreNumbered files) (number : ℕ) where
  pub numbered_apart : AreApart (λ r. r.number) files
  numbered_apart = λ i j d lower within e. let rising = is.rising i j d lower within in omega (arith, rising, e)

  pub stands_found : (place : ℕ) (d : FileRec) → StandsAt files number place → get (by_number files) number ≡ Some (get_or files place d)
  stands_found place d at =
      get-from_entries nat_cmp_total (keyed (λ r. r.number) files) number
      ∙ subst (λ n. find nat_cmp n (keyed (λ r. r.number) files) ≡ Some (get_or files place d)) (at.has d)
      (found_itself nat_cmp_total nat_cmp-IsAntisymmetric (λ r. r.number) files (get_or files place d) numbered_apart (Contains-get_or files place d at.within))

  pub fits_none : (place : ℕ) → FitsAt files number place → get (by_number files) number ≡ None
  fits_none place at =
      get-from_entries nat_cmp_total (keyed (λ r. r.number) files) number
      ∙ none_found nat_cmp_total nat_cmp-IsAntisymmetric (λ r. r.number) number files
      (λ k d within e. elim (cases_lt k place) as (λ _. ⊥) [
        | inl lower ↦ let below = at.below k d (omega arith) lower in omega (arith, below, e)
        | inr above ↦ let beyond = at.above k d above within in omega (arith, beyond, e)
      ])

-- the record of a number is that of the map
rec_by : (files : List FileRec) (number : ℕ) → find nat_cmp number (keyed (λ r. r.number) files) ≡ rec_at files number
rec_by [] number = refl
rec_by (r ∷ files) number =
    let tied = (eq_by_cmp_equiv nat_cmp_total).symm number r.number ∙ unsigned_tied r.number number in
    let rest = rec_by files number in
    λ i. cond (tied i) (Some r) (rest i)

pub rec_found : (files : List FileRec) (number : ℕ) → get (by_number files) number ≡ rec_at files number
rec_found files number = get-from_entries nat_cmp_total (keyed (λ r. r.number) files) number ∙ rec_by files number

-- The file with a number, at its place.
pub record IsThere (files : List FileRec) (number : ℕ) (r : FileRec) (place : ℕ) : Type 0 where
  pub at : StandsAt files number place
  pub here : r ≡ get_or files place r

module _ (files : List FileRec) (is : AreNumbered files) (number : ℕ) where
  pub stands_at : (r : FileRec) → rec_at files number ≡ Some r → (place : ℕ) × IsThere files number r place
  stands_at r found =
      let (place, there) = place_for files number is in
      let got = sym found ∙ sym (rec_found files number) in
      elim there as (λ _. (place : ℕ) × IsThere files number r place) [
        | inl at ↦ (place, record { at = at; here = same_some r (get_or files place r) (got ∙ stands_found files is number place r at) })
        | inr fits ↦ absurd (true≢false (ap is_some (got ∙ fits_none files is number place fits)))
      ]

  pub fits_at : is_some (rec_at files number) ≡ false → (place : ℕ) × FitsAt files number place
  fits_at none =
      let (place, there) = place_for files number is in
      elim there as (λ _. (place : ℕ) × FitsAt files number place) [
        | inl at ↦ absurd (true≢false (ap is_some (sym (stands_found files is number place no_file at) ∙ rec_found files number) ∙ none))
        | inr fits ↦ (place, fits)
      ]

pub number_below : (files : List FileRec) → AreNumbered files → (number : ℕ) (r : FileRec) → rec_at files number ≡ Some r → number < 1024
number_below files is number r found = let (place, it) = stands_at files is number r found in subst (λ n. n < 1024) (it.at.has r) (is.below place r it.at.within)

-- a file that has a number has its full name
pub record IsNamed (users : List UserRec) (files : List FileRec) (number : ℕ) (full : Full) (r : FileRec) : Type 0 where
  pub found : rec_at files number ≡ Some r
  pub named : full ≡ full_of users r

pub named_there : (users : List UserRec) (files : List FileRec) (number : ℕ) (full : Full) → name_of_file users files number ≡ Some full → (r : FileRec) × IsNamed users files number full r
named_there users files number full e =
    elim (get (by_number files) number) as (λ o. get (by_number files) number ≡ o → option_map (full_of users) o ≡ Some full → (r : FileRec) × IsNamed users files number full r) [
      | None ↦ λ there n. absurd (true≢false (sym (ap is_some n)))
      | Some r ↦ λ there n. (r, record { found = sym (rec_found files number) ∙ there; named = sym (same_some (full_of users r) full n) })
    ] refl e

pub named_here : (users : List UserRec) (files : List FileRec) (number : ℕ) (r : FileRec) → rec_at files number ≡ Some r → name_of_file users files number ≡ Some (full_of users r)
named_here users files number r found = ap (option_map (full_of users)) (rec_found files number ∙ found)
