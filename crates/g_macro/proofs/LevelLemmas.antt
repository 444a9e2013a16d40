-- The result of a call on one level.
-- serves: keep
use Rattle.std.proofs.Common.{IfSome, List, None, Option, Some, [], ap, arith, cond, false, get_or, le-leb, length, nat_le, not, option_map, refl, set, suc, sym, true, zero, ℕ, ◌++◌, ◌+◌, ◌<◌, ◌∙◌, ◌∷◌, ◌≡◌, ◌≤◌}
use Rattle.std.proofs.lemmas.Bool.{and_from, and_left, and_right, cond_both, lt-leb, not_from_false, not_from_true, or_from, or_left, or_right}
use Rattle.g_lang.specs.Conditions.{same_cond}
use Rattle.g_lang.specs.declared.line.Cond.{Cond}
use Rattle.g_macro.specs.LevelReplies.{is_full_in}
use Rattle.g_macro.specs.Levels.{Level, has_cond, place_of_cond, with_entry}
use Rattle.g_macro.specs.declared.entry.Entry.{Entry}

-- an entry with this condition, or none
pub place-within : (cond : Cond) (entries : List Entry) (o : Option ℕ) → place_of_cond cond entries ≡ o → IfSome o (λ n. n < length entries)
place-within cond entries None is = tt
place-within cond entries (Some n) is = found entries n is
  where
    later : (entries : List Entry) (o : Option ℕ) (n : ℕ) → ((m : ℕ) → o ≡ Some m → m < length entries) → option_map (λ k. 1 + k) o ≡ Some n → n < suc (length entries)
    later entries None n again is = absurd cc
    later entries (Some m) n again is = let below = again m refl in let e : 1 + m ≡ n = cc in omega (arith, below, e)

    found : (entries : List Entry) (n : ℕ) → place_of_cond cond entries ≡ Some n → n < length entries
    found [] n is = absurd cc
    found (entry ∷ entries) n at =
        cond_both (same_cond entry.cond cond) (Some 0) (option_map (λ k. 1 + k) (place_of_cond cond entries)) (λ (o : Option ℕ). o ≡ Some n → n < suc (length entries))
        (λ same is. let e : 0 ≡ n = cc in omega (arith, e)) (λ other is. later entries (place_of_cond cond entries) n (found entries) is) at

-- the entry at a place with another command
abbrev pub with_command : List Entry → ℕ → List ℕ → Entry → List Entry
with_command entries n command old = set entries n (record { cond = old.cond; command = command })

pub kept-none : (cond : Cond) (command : List ℕ) (entries : List Entry) → place_of_cond cond entries ≡ None
    → (has_cond cond entries ≡ false) × (with_entry cond command entries ≡ entries ++ (record { cond = cond; command = command }) ∷ [])
kept-none cond command [] is = (refl, refl)
kept-none cond command (entry ∷ entries) at =
    cond_both (same_cond entry.cond cond) (Some 0) (option_map (λ k. 1 + k) (place_of_cond cond entries))
    (λ (o : Option ℕ). o ≡ None → (has_cond cond (entry ∷ entries) ≡ false) × (with_entry cond command (entry ∷ entries) ≡ (entry ∷ entries) ++ (record { cond = cond; command = command }) ∷ []))
    (λ same is. absurd cc)
    (λ other is.
    let more = kept-none cond command entries (no_more (place_of_cond cond entries) is) in
    (or_from (same_cond entry.cond cond) (has_cond cond entries) other more.0, rw other (ap (λ (es : List Entry). entry ∷ es) more.1)))
    at
  where
    no_more : (o : Option ℕ) → option_map (λ k. 1 + k) o ≡ None → o ≡ None
    no_more None is = refl
    no_more (Some m) is = absurd cc

-- what is stored if the place is known
abbrev Kept : Cond → List ℕ → List Entry → ℕ → Entry → Type 0
Kept cond command entries n old = (has_cond cond entries ≡ true) × (with_entry cond command entries ≡ with_command entries n command old)

kept_first : (cond : Cond) (command : List ℕ) (entry : Entry) (entries : List Entry) (old : Entry) → same_cond entry.cond cond ≡ true → (n : ℕ)
    → ◌≡◌ {A = Option ℕ} (Some 0) (Some n) → old ≡ get_or (entry ∷ entries) n old → Kept cond command (entry ∷ entries) n old
kept_first cond command entry entries old same zero is at = (
  or_left (same_cond entry.cond cond) (has_cond cond entries) same,
  rw same (ap (λ (e : Entry). let first : Entry = record { cond = e.cond; command = command } in first ∷ entries) (sym at)),
)
kept_first cond command entry entries old same (suc n) is at = absurd cc

kept_later : (cond : Cond) (command : List ℕ) (entry : Entry) (entries : List Entry) (old : Entry) → same_cond entry.cond cond ≡ false → (o : Option ℕ) (n : ℕ)
    → option_map (λ k. 1 + k) o ≡ Some n → old ≡ get_or (entry ∷ entries) n old
    → ((m : ℕ) → o ≡ Some m → old ≡ get_or entries m old → Kept cond command entries m old) → Kept cond command (entry ∷ entries) n old
kept_later cond command entry entries old other None n is at again = absurd cc
kept_later cond command entry entries old other (Some m) n is at again =
    let f : 1 + m ≡ n = cc in
    let e : suc m ≡ n = omega (arith, f) in
    let at_more : old ≡ get_or entries m old = at ∙ ap (λ (k : ℕ). get_or (entry ∷ entries) k old) (sym e) in
    let more = again m refl at_more in (
      or_right (same_cond entry.cond cond) (has_cond cond entries) more.0,
      rw other (ap (λ (es : List Entry). entry ∷ es) more.1 ∙ ap (λ (k : ℕ). with_command (entry ∷ entries) k command old) e),
    )

pub kept-some : (cond : Cond) (command : List ℕ) (entries : List Entry) (n : ℕ) (old : Entry) → place_of_cond cond entries ≡ Some n → old ≡ get_or entries n old
    → (has_cond cond entries ≡ true) × (with_entry cond command entries ≡ with_command entries n command old)
kept-some cond command [] n old is at = absurd cc
kept-some cond command (entry ∷ entries) n old is at =
    cond_both (same_cond entry.cond cond) (Some 0) (option_map (λ k. 1 + k) (place_of_cond cond entries))
    (λ (o : Option ℕ). o ≡ Some n → Kept cond command (entry ∷ entries) n old)
    (λ same first. kept_first cond command entry entries old same n first at)
    (λ other later. kept_later cond command entry entries old other (place_of_cond cond entries) n later at
    (λ m found at_more. kept-some cond command entries m old found at_more))
    is

-- whether there is room
pub not-full : (cond : Cond) (level : Level) → has_cond cond level.entries ≡ true → is_full_in cond level ≡ false
not-full cond level has = and_left (not (has_cond cond level.entries)) (nat_le 16 (length level.entries)) (not_from_true (has_cond cond level.entries) has)

pub has-room : (cond : Cond) (level : Level) → length level.entries < 16 → is_full_in cond level ≡ false
has-room cond level room = and_right (not (has_cond cond level.entries)) (nat_le 16 (length level.entries)) (lt-leb 16 (length level.entries) room)

pub full-in : (cond : Cond) (level : Level) → has_cond cond level.entries ≡ false → 16 ≤ length level.entries → is_full_in cond level ≡ true
full-in cond level none most =
    and_from (not (has_cond cond level.entries)) (nat_le 16 (length level.entries)) (not_from_false (has_cond cond level.entries) none) (le-leb 16 (length level.entries) most)
