-- Lists of files in order of number, and the file of a number.
-- serves: Parts, crates above
use Rattle.std.proofs.Common.{◌≡◌, ◌≢◌, ⊎_elim, ℕ, suc, ◌<◌, ◌≤◌, Bool, List, [], ◌∷◌, Option, Some, None, All, AllPairs, refl, sym, ◌∙◌, ap, arith, slice_get, if◌then◌else◌}
use Rattle.std.specs.Prelude.{⊤}
use Rattle.std.specs.List.{AllByRecursion}
use Rattle.std.proofs.lemmas.Bool.{ne_eqb, eq-eqb, cases_order, cases_eq}
use Rattle.std.proofs.lemmas.List.Elements.{recursion_from_All}
use Rattle.g_entry.specs.declared.file_rec.FileRec.{FileRec}
use Rattle.g_dirs.specs.Directory.{FileEntry, recs}
use Rattle.g_dirs.specs.Image.{entry_at}

pub some_same : {X : Type 0} (x y : X) → (let o : Option X = Some x in o ≡ Some y) → x ≡ y
some_same x y is = cc

-- lists with equal elements at each place
pub same_lists : {X : Type 0} (xs ys : List X) → ((k : ℕ) → slice_get xs k ≡ slice_get ys k) → xs ≡ ys
same_lists [] [] each = refl
same_lists [] (y ∷ ys) each = let first = each 0 in let no : ⊥ = cc in absurd no
same_lists (x ∷ xs) [] each = let first = each 0 in let no : ⊥ = cc in absurd no
same_lists {X = X} (x ∷ xs) (y ∷ ys) each =
    let tail : (k : ℕ) → slice_get xs k ≡ slice_get ys k = λ k. each (suc k) in
    ap (λ (z : X). z ∷ xs) (some_same x y (each 0)) ∙ ap (λ (l : List X). y ∷ l) (same_lists xs ys tail)

-- every file has a greater number
abbrev pub Above : ℕ → List FileEntry → Type 0
Above n files = AllByRecursion (λ r. n < r.number) (recs files)

-- each file's number is below those after it
abbrev pub Rising : List FileEntry → Type 0
Rising [] = ⊤
Rising (f ∷ files) = Above f.0.number files × Rising files

pub rising_from : (files : List FileEntry) → AllPairs (λ r s. r.number < s.number) (recs files) → Rising files
rising_from [] all = tt
rising_from (f ∷ files) all =
    let first : All (λ (r : FileRec). f.0.number < r.number) (recs files) = λ k d inside. all 0 (suc k) d (omega arith) (omega arith) in
    let rest : AllPairs (λ (r : FileRec) s. r.number < s.number) (recs files) = λ i j d before inside. all (suc i) (suc j) d (omega arith) (omega arith) in
    (recursion_from_All (λ (r : FileRec). f.0.number < r.number) (recs files) first, rising_from files rest)

pub above_less : (m n : ℕ) (files : List FileEntry) → m ≤ n → Above n files → Above m files
above_less m n [] less above = tt
above_less m n (f ∷ files) less above = let first = above.0 in (omega arith, above_less m n files less above.1)

-- a file of another number is skipped
pub entry_behind : (f : FileEntry) (files : List FileEntry) (n : ℕ) → f.0.number ≢ n → entry_at (f ∷ files) n ≡ entry_at files n
entry_behind f files n other = ap (λ (b : Bool). if b then Some f else entry_at files n) (ne_eqb f.0.number n other)

pub entry_here : (f : FileEntry) (files : List FileEntry) (n : ℕ) → f.0.number ≡ n → entry_at (f ∷ files) n ≡ Some f
entry_here f files n same = ap (λ (b : Bool). if b then Some f else entry_at files n) (eq-eqb f.0.number n same)

-- there is nothing below the first number
pub entry_none : (n : ℕ) (files : List FileEntry) → Above n files → entry_at files n ≡ None
entry_none n [] above = refl
entry_none n (f ∷ files) above =
    let first = above.0 in
    let other : f.0.number ≢ n = λ same. omega (arith, same) in
    entry_behind f files n other ∙ entry_none n files above.1

-- nor at or above an upper bound of all numbers
pub entry_past : (n : ℕ) (files : List FileEntry) → AllByRecursion (λ r. r.number < n) (recs files) → (k : ℕ) → n ≤ k → entry_at files k ≡ None
entry_past n [] below k past = refl
entry_past n (f ∷ files) below k past =
    let first = below.0 in
    let other : f.0.number ≢ k = λ same. omega (arith, same) in
    entry_behind f files k other ∙ entry_past n files below.1 k past

gone : (f : FileEntry) → (let none : Option FileEntry = None in none ≡ Some f) → ⊥
gone f is = cc

-- files in order of number that are the same at each number
pub same_files : (xs ys : List FileEntry) → Rising xs → Rising ys → ((k : ℕ) → entry_at xs k ≡ entry_at ys k) → xs ≡ ys
same_files [] [] up_x up_y each = refl
same_files [] (y ∷ ys) up_x up_y each = absurd (gone y (each y.0.number ∙ entry_here y ys y.0.number refl))
same_files (x ∷ xs) [] up_x up_y each = absurd (gone x (sym (each x.0.number) ∙ entry_here x xs x.0.number refl))
same_files (x ∷ xs) (y ∷ ys) up_x up_y each =
    let here_x = entry_here x xs x.0.number refl in
    let here_y = entry_here y ys y.0.number refl in
    let same : x.0.number ≡ y.0.number = ⊎_elim (λ equal. equal) (λ other. ⊎_elim
    (λ (less : x.0.number < y.0.number). absurd (gone x (sym (entry_none x.0.number (y ∷ ys) (less, above_less x.0.number y.0.number ys (omega arith) up_y.0)) ∙ sym (each x.0.number) ∙ here_x)))
    (λ (less : y.0.number < x.0.number). absurd (gone y (sym (entry_none y.0.number (x ∷ xs) (less, above_less y.0.number x.0.number xs (omega arith) up_x.0)) ∙ each y.0.number ∙ here_y)))
    other) (cases_order x.0.number y.0.number) in
    let first : x ≡ y = some_same x y (sym here_x ∙ each x.0.number ∙ entry_here y ys x.0.number (sym same)) in
    let tail : (k : ℕ) → entry_at xs k ≡ entry_at ys k = λ k. ⊎_elim
    (λ (here : x.0.number ≡ k). entry_none k xs (let up : Above x.0.number xs = up_x.0 in above_less k x.0.number xs (omega (arith, here)) up) ∙ sym (entry_none k ys (let up : Above y.0.number ys = up_y.0 in above_less k y.0.number ys (omega (arith, here, same)) up)))
    (λ (other : x.0.number ≢ k). sym (entry_behind x xs k other) ∙ each k ∙ entry_behind y ys k (λ is. other (same ∙ is)))
    (cases_eq x.0.number k) in
    ap (λ (z : FileEntry). z ∷ xs) first ∙ ap (λ (l : List FileEntry). y ∷ l) (same_files xs ys up_x.1 up_y.1 tail)
