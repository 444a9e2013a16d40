-- What a search by number finds in a directory's lists, and how its records are encoded.
-- serves: put_file_block, put_slot_block
use Rattle.std.proofs.Common.{◌≡◌, ℕ, suc, zero, ◌+◌, Bool, true, List, [], ◌∷◌, length, map, Option, Some, None, refl, sym, ◌∙◌, ap, subst, inl, inr, arith, slice_get}
use Rattle.std.specs.Prelude.{◌==◌, All, IfSome, find, option_map, replicate}
use Rattle.std.specs.List.{flat_map, list_all}
use Rattle.std.proofs.lemmas.Bool.{cases_Bool, cond-false, cond-true, eqb-true}
use Rattle.std.proofs.lemmas.List.{get_or-append-add, get_or_append_left, length-append}
use Rattle.std.proofs.lemmas.List.Folds.{find_at}
use Rattle.std.proofs.lemmas.List.Recursion.{and_from_places}
use Rattle.std.proofs.lemmas.Option.{get_or_from_slice_get, same_Some, slice_get-map, slice_get_within}
use Rattle.std.specs.List.{position_or_len}
use Rattle.g_copy.specs.declared.copy.DiscCopy.{DiscCopy}
use Rattle.g_entry.specs.declared.file_rec.FileRec.{FileRec}
use Rattle.g_entry.specs.declared.format.Format.TheVariants.{Two}
use Rattle.g_entry.specs.declared.head.Head.{Head}
use Rattle.g_entry.specs.declared.user_rec.UserRec.{UserRec}
use Rattle.g_entry.specs.FileFields.{ArePlaces, IsFile, file_block}
use Rattle.g_entry.specs.Formats.{is_place}
use Rattle.g_entry.specs.Rules.{AreNumbered}
use Rattle.g_dirs.specs.Directory.{FileEntry, IsCopyOf, LiesSomewhere, copy_at, directory_of, entries_of, places_of}
use Rattle.g_dirs.specs.Image.{entry_at, file_or_empty}
use Rattle.g_dirs.specs.Writing.{AreEncodable, IsEncodable, number_of_file}
use Rattle.g_dirs.proofs.CopyLemmas.{recs-entries}

-- the first element found satisfies the test
find-passes : {X : Type 0} (p : X → Bool) (xs : List X) (x : X) → find p xs ≡ Some x → p x ≡ true
find-passes p [] x is = absurd (let none : ⊥ = cc in none)
find-passes p (y ∷ xs) x is =
    elim (cases_Bool (p y)) [
      | inl passes ↦ ap p (sym (same_Some y x (sym (cond-true (p y) (Some y) (find p xs) passes) ∙ is))) ∙ passes
      | inr fails ↦ find-passes p xs x (sym (cond-false (p y) (Some y) (find p xs) fails) ∙ is)
    ]

pub find-map : {X Y : Type 0} (f : X → Y) (p : Y → Bool) (xs : List X) → find p (map f xs) ≡ option_map f (find (λ x. p (f x)) xs)
find-map f p [] = refl
find-map f p (x ∷ xs) =
    elim (cases_Bool (p (f x))) [
      | inl passes ↦
          cond-true (p (f x)) (Some (f x)) (find p (map f xs)) passes ∙ sym (ap (option_map f) (cond-true (p (f x)) (Some x) (find (λ x. p (f x)) xs) passes))
      | inr fails ↦
          cond-false (p (f x)) (Some (f x)) (find p (map f xs)) fails ∙ find-map f p xs
          ∙ sym (ap (option_map f) (cond-false (p (f x)) (Some x) (find (λ x. p (f x)) xs) fails))
    ]

All-at : {X : Type 0} (P : X → Type 0) (xs : List X) (k : ℕ) (x : X) → All P xs → slice_get xs k ≡ Some x → P x
All-at P xs k x all there = subst P (get_or_from_slice_get xs k x x there) (all k x (slice_get_within xs k x there))

All-flat_map : {X Y : Type 0} (P : Y → Type 0) (f : X → List Y) (xs : List X) (k : ℕ) (x : X) → All P (flat_map f xs) → slice_get xs k ≡ Some x → All P (f x)
All-flat_map P f [] k x all there = absurd (let none : ⊥ = cc in none)
All-flat_map P f (y ∷ xs) zero x all there =
    let is = same_Some y x there in
    let front : All P (f y) =
    λ i d within.
    subst P (get_or_append_left (f y) (flat_map f xs) d i within) (all i d (let long = length-append (f y) (flat_map f xs) in omega arith)) in
    subst (λ z. All P (f z)) is front
All-flat_map P f (y ∷ xs) (suc k) x all there =
    let rest : All P (flat_map f xs) =
    λ i d within.
    subst P (get_or-append-add (f y) (flat_map f xs) i d) (all (length (f y) + i) d (let long = length-append (f y) (flat_map f xs) in omega arith)) in
    All-flat_map P f xs k x rest there

-- the block numbers of a file that is on disc
places_fit : (rec : FileRec) (o : Option DiscCopy) → IfSome o (IsCopyOf rec) → All (λ place. is_place Two place ≡ true) (places_of (rec, o)) → IfSome (option_map (λ c. c.blocks) o) (ArePlaces Two rec.len)
places_fit rec None copy small = tt
places_fit rec (Some o) copy small = record {
  count = copy.count;
  each = and_from_places (list_all (is_place Two)) (is_place Two) refl (λ _ _. refl) o.blocks 0 (λ i within. small i 0 within);
}

-- a file with its copy
abbrev entry_of : List (ℕ × DiscCopy) → FileRec → FileEntry
entry_of online rec = (rec, copy_at online rec.number)

pub are_encodable : (head : Head) (users : List UserRec) (files : List FileRec) (online : List (ℕ × DiscCopy)) → IsEncodable (directory_of head users files online) → AreEncodable files online
are_encodable head users files online is =
    let same = recs-entries files online in
    record {
      limits = subst (All IsFile) same is.records.files;
      numbered = subst AreNumbered same is.numbered;
      lies = is.lies;
      places = is.records.places;
    }

-- a file that is found by its number
module _ (files : List FileRec) (online : List (ℕ × DiscCopy)) (n : ℕ) (rec : FileRec) (found : find (λ r. number_of_file r == n) files ≡ Some rec) where
  abbrev place_of : ℕ
  place_of = position_or_len (λ r. number_of_file r == n) files

  stands : slice_get files place_of ≡ Some rec
  stands = sym (find_at (λ r. number_of_file r == n) files) ∙ found

  entry_stands : slice_get (entries_of files online) place_of ≡ Some (entry_of online rec)
  entry_stands = slice_get-map (entry_of online) files place_of ∙ ap (option_map (entry_of online)) stands

  number_is : rec.number ≡ n
  number_is = eqb-true rec.number n (find-passes (λ r. number_of_file r == n) files rec found)

  -- what holds for each file holds for it
  pub found-holds : (P : FileRec → Type 0) → All P files → P rec
  found-holds P all = All-at P files place_of rec all stands

  pub are_places : AreEncodable files online → IfSome (option_map (λ c. c.blocks) (copy_at online n)) (ArePlaces Two rec.len)
  are_places is =
      let lies : LiesSomewhere (entry_of online rec) = All-at LiesSomewhere (entries_of files online) place_of (entry_of online rec) is.lies entry_stands in
      let small : All (λ place. is_place Two place ≡ true) (places_of (entry_of online rec)) =
      All-flat_map (λ place. is_place Two place ≡ true) places_of (entries_of files online) place_of (entry_of online rec) is.places entry_stands in
      subst (λ (m : ℕ). IfSome (option_map (λ (c : DiscCopy). c.blocks) (copy_at online m)) (ArePlaces Two rec.len)) number_is
      (places_fit rec (copy_at online rec.number) lies.copy small)

  pub block_of_found : file_or_empty Two (entry_at (entries_of files online) n) ≡ file_block Two rec (option_map (λ c. c.blocks) (copy_at online n))
  unfolding file_or_empty
  block_of_found =
      ap (file_or_empty Two) (find-map (entry_of online) (λ f. f.0.number == n) files ∙ ap (option_map (entry_of online)) found)
      ∙ ap (λ (m : ℕ). file_block Two rec (option_map (λ (c : DiscCopy). c.blocks) (copy_at online m))) number_is

-- the block of an unused number
pub block_of_missing : (files : List FileRec) (online : List (ℕ × DiscCopy)) (n : ℕ) → find (λ r. number_of_file r == n) files ≡ None → file_or_empty Two (entry_at (entries_of files online) n) ≡ replicate 512 0
unfolding file_or_empty
block_of_missing files online n missing =
    ap (file_or_empty Two) (find-map (entry_of online) (λ f. f.0.number == n) files ∙ ap (option_map (entry_of online)) missing)
