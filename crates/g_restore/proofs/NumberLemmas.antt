-- Files that are numbered consecutively, and those of one user.
-- serves: add_files, FoldLemmas, GatherLemmas
use Rattle.std.proofs.Common.{◌≡◌, ◌⊎◌, ℕ, zero, suc, ◌+◌, ◌<◌, ◌≤◌, true, false, List, [], ◌∷◌, ◌++◌, length, get_or, take, refl, sym, ◌∙◌, ap, arith, inl, inr}
use Rattle.std.specs.Prelude.{◌==◌, All}
use Rattle.std.proofs.lemmas.Bool.{cases_Bool, cond-false, cond-true}
use Rattle.std.proofs.lemmas.List.{append-nil, append_assoc, length-append, take_more}
use Rattle.std.proofs.lemmas.List.Elements.{All-cons, All-head, All-nil, All-tail, filter-append}
use Rattle.g_entry.specs.declared.file_rec.FileRec.{FileRec}
use Rattle.g_incr.specs.Plan.{numbered_from, with_number}
use Rattle.g_incr.proofs.NumberLemmas.{length-numbered, numbered-append}
use Rattle.g_store_meaning.specs.Meaning.{files_of}
use Rattle.g_restore.specs.Gathering.{added, behind}

-- One more file of a list is checked.
pub one_added : (old : List FileRec) (user : ℕ) (from : List FileRec) (i : ℕ) (x : FileRec) → i < length from → x ≡ get_or from i x
    → added (behind old user (take i from)) user x ≡ behind old user (take (i + 1) from)
one_added old user from i x within at = by_owner (cases_Bool (x.owner == user))
  where
    next : take (i + 1) from ≡ take i from ++ x ∷ []
    next = take_more from i x within ∙ ap (λ (r : FileRec). take i from ++ r ∷ []) (sym at)

    gathers : files_of user (take (i + 1) from) ≡ files_of user (take i from) ++ files_of user (x ∷ [])
    gathers = ap (files_of user) next ∙ filter-append (λ (r : FileRec). r.owner == user) (take i from) (x ∷ [])

    by_owner : ((x.owner == user) ≡ true) ⊎ ((x.owner == user) ≡ false) → added (behind old user (take i from)) user x ≡ behind old user (take (i + 1) from)
    by_owner (inl is) =
        let gets : files_of user (x ∷ []) ≡ x ∷ [] = cond-true (x.owner == user) (x ∷ []) [] is in
        let long : length (behind old user (take i from)) ≡ length old + length (files_of user (take i from)) =
        length-append old (numbered_from (length old) (files_of user (take i from)))
        ∙ ap (λ (n : ℕ). length old + n) (length-numbered (length old) (files_of user (take i from))) in
        cond-true (x.owner == user) (behind old user (take i from) ++ with_number (length (behind old user (take i from))) x ∷ []) (behind old user (take i from)) is
        ∙ ap (λ (n : ℕ). behind old user (take i from) ++ with_number n x ∷ []) long
        ∙ append_assoc old (numbered_from (length old) (files_of user (take i from))) (with_number (length old + length (files_of user (take i from))) x ∷ [])
        ∙ ap (λ (rs : List FileRec). old ++ rs) (sym (numbered-append (length old) (files_of user (take i from)) (x ∷ [])))
        ∙ ap (λ (rs : List FileRec). old ++ numbered_from (length old) (files_of user (take i from) ++ rs)) (sym gets)
        ∙ ap (λ (rs : List FileRec). old ++ numbered_from (length old) rs) (sym gathers)
    by_owner (inr isnt) =
        let lacks : files_of user (x ∷ []) ≡ [] = cond-false (x.owner == user) (x ∷ []) [] isnt in
        cond-false (x.owner == user) (behind old user (take i from) ++ with_number (length (behind old user (take i from))) x ∷ []) (behind old user (take i from)) isnt
        ∙ ap (λ (rs : List FileRec). old ++ numbered_from (length old) rs)
        (sym (append-nil (files_of user (take i from))) ∙ ap (λ (rs : List FileRec). files_of user (take i from) ++ rs) (sym lacks) ∙ sym gathers)

pub added_few : (old : List FileRec) (user : ℕ) (x : FileRec) → length (added old user x) ≤ length old + 1
added_few old user x = by_owner (cases_Bool (x.owner == user))
  where
    by_owner : ((x.owner == user) ≡ true) ⊎ ((x.owner == user) ≡ false) → length (added old user x) ≤ length old + 1
    by_owner (inl is) =
        let here = ap length (cond-true (x.owner == user) (old ++ with_number (length old) x ∷ []) old is) in
        let long = length-append old (with_number (length old) x ∷ []) in
        omega (arith, here, long)
    by_owner (inr isnt) =
        let here = ap length (cond-false (x.owner == user) (old ++ with_number (length old) x ∷ []) old isnt) in
        omega (arith, here)

-- The numbers continue from one directory to the next.
pub behind_is : (files gathered : List FileRec) (user : ℕ) (from : List FileRec) → files ≡ numbered_from 0 gathered → behind files user from ≡ numbered_from 0 (gathered ++ files_of user from)
behind_is files gathered user from is =
    ap (λ (rs : List FileRec). rs ++ numbered_from (length rs) (files_of user from)) is
    ∙ ap (λ (n : ℕ). numbered_from 0 gathered ++ numbered_from n (files_of user from)) (length-numbered 0 gathered ∙ (let sum : length gathered ≡ 0 + length gathered = omega arith in sum))
    ∙ sym (numbered-append 0 gathered (files_of user from))

-- A file among numbered ones, and those before it, for what doesn't go by numbers
pub record IsSplit (P : FileRec → Type 0) (files numbered : List FileRec) (i : ℕ) : Type 0 where
  pub before : List FileRec
  pub file : FileRec
  pub behind : List FileRec
  pub there : files ≡ before ++ file ∷ behind
  pub held : All P before
  pub number : ℕ
  pub at : (d : FileRec) → get_or numbered i d ≡ with_number number file

pub split_at : (P : FileRec → Type 0) → ((n : ℕ) (r : FileRec) → P (with_number n r) → P r) → (n : ℕ) (rs : List FileRec) (i : ℕ) → i < length (numbered_from n rs)
    → All P (take i (numbered_from n rs)) → IsSplit P rs (numbered_from n rs) i
split_at P back n [] i within all = let no : ⊥ = omega (arith, within) in absurd no
split_at P back n (r ∷ rs) zero within all = record { before = []; file = r; behind = rs; there = refl; held = All-nil P; number = n; at = λ d. refl }
split_at P back n (r ∷ rs) (suc i) within all =
    let rest = split_at P back (n + 1) rs i (omega (arith, within)) (All-tail P (with_number n r) (take i (numbered_from (n + 1) rs)) all) in
    record {
      before = r ∷ rest.before;
      file = rest.file;
      behind = rest.behind;
      there = ap (λ (qs : List FileRec). r ∷ qs) rest.there;
      held = All-cons P r rest.before (back n r (All-head P (with_number n r) (take i (numbered_from (n + 1) rs)) all)) rest.held;
      number = rest.number;
      at = rest.at;
    }
