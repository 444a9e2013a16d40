-- Records that are numbered consecutively.
-- serves: PlanLemmas, crates above
use Rattle.std.proofs.Common.{◌≡◌, ℕ, zero, suc, ◌+◌, ◌<◌, List, [], ◌∷◌, ◌++◌, length, get_or, All, refl, ◌∙◌, ap, arith}
use Rattle.std.proofs.lemmas.List.Elements.{All-cons, All-head, All-nil, All-tail}
use Rattle.g_entry.specs.declared.file_rec.FileRec.{FileRec}
use Rattle.g_entry.specs.FileFields.{IsFile}
use Rattle.g_entry.proofs.RuleLemmas.{file_anew}
use Rattle.g_incr.specs.Plan.{numbered_from, with_number}

pub numbered-append : (n : ℕ) (xs ys : List FileRec) → numbered_from n (xs ++ ys) ≡ numbered_from n xs ++ numbered_from (n + length xs) ys
numbered-append n [] ys = let same : n ≡ n + 0 = omega arith in ap (λ (k : ℕ). numbered_from k ys) same
numbered-append n (x ∷ xs) ys =
    let same : (n + 1) + length xs ≡ n + suc (length xs) = omega arith in
    ap (λ (rs : List FileRec). with_number n x ∷ rs) (numbered-append (n + 1) xs ys ∙ ap (λ (k : ℕ). numbered_from (n + 1) xs ++ numbered_from k ys) same)

pub length-numbered : (n : ℕ) (xs : List FileRec) → length (numbered_from n xs) ≡ length xs
length-numbered n [] = refl
length-numbered n (x ∷ xs) = ap suc (length-numbered (n + 1) xs)

-- Each record has its position as its number.
pub number_at : (n : ℕ) (rs : List FileRec) (i : ℕ) (d : FileRec) → i < length (numbered_from n rs) → (get_or (numbered_from n rs) i d).number ≡ n + i
number_at n [] i d within = let no : ⊥ = omega (arith, within) in absurd no
number_at n (r ∷ rs) zero d within = let sum : n ≡ n + 0 = omega arith in sum
number_at n (r ∷ rs) (suc i) d within = number_at (n + 1) rs i d (omega (arith, within)) ∙ (let sum : (n + 1) + i ≡ n + suc i = omega arith in sum)

-- what doesn't go by numbers
pub numbered_each : (P : FileRec → Type 0) → ((n : ℕ) (r : FileRec) → P r → P (with_number n r)) → (n : ℕ) (rs : List FileRec) → All P rs → All P (numbered_from n rs)
numbered_each P to n [] all = All-nil P
numbered_each P to n (r ∷ rs) all = All-cons P (with_number n r) (numbered_from (n + 1) rs) (to n r (All-head P r rs all)) (numbered_each P to (n + 1) rs (All-tail P r rs all))

pub file_numbered : (n : ℕ) (r : FileRec) → IsFile r → IsFile (with_number n r)
file_numbered n r is = file_anew n r.stamp r.len r.tape r is is.stamp is.len is.tape
