-- The rules of a dump, file by file.
-- serves: follow_on, owners_rise, DumpLemmas
use Rattle.std.proofs.Common.{◌≡◌, ◌⊎◌, ◌↔◌, ℕ, suc, ◌+◌, ◌-◌, ◌*◌, ◌<◌, ◌≤◌, Bool, true, List, [], ◌∷◌, length, get_or, drop, sym, ◌∙◌, ap, arith, subst, inl, inr}
use Rattle.std.specs.Prelude.{All, AllPairs, filter}
use Rattle.std.proofs.Math.Seq.{drop-cons}
use Rattle.std.proofs.lemmas.Bool.{cases_lt, cond-true}
use Rattle.std.proofs.lemmas.List.{drop_all, get_or_default}
use Rattle.g_base.specs.Block.{blocks_for}
use Rattle.g_entry.specs.declared.file_rec.FileRec.{FileRec}
use Rattle.g_entry.specs.FileFields.{IsFile}
use Rattle.g_incr.specs.Layout.{FollowOn, is_at, is_between}

-- THE OWNERS of the first i files rise up to the last one
pub record HaveRisen (files : List FileRec) (i last : ℕ) : Type 0 where
  pub pairs : (a b : ℕ) (d : FileRec) → a < b → b < i → (get_or files a d).owner ≤ (get_or files b d).owner
  pub most : (a : ℕ) (d : FileRec) → a < i → (get_or files a d).owner ≤ last
  pub first : i ≡ 0 → last ≡ 0
  pub least : (d : FileRec) → 0 < i → (get_or files (i - 1) d).owner ≡ last

here_owner : (files : List FileRec) (i : ℕ) (r d : FileRec) → i < length files → r ≡ get_or files i r → (get_or files i d).owner ≡ r.owner
here_owner files i r d within is = ap (λ (s : FileRec). s.owner) (get_or_default files i d r within ∙ sym is)

pub not_risen : (files : List FileRec) (i last : ℕ) (r : FileRec) → i < length files → r ≡ get_or files i r → r.owner < last → HaveRisen files i last → AllPairs (λ r s. r.owner ≤ s.owner) files → ⊥
not_risen files i last r within is below so all = by_first (cases_lt 0 i)
  where
    by_first : (0 < i) ⊎ (i ≤ 0) → ⊥
    by_first (inl some) =
        let before = so.least r some in
        let same = here_owner files i r r within is in
        let less = all (i - 1) i r (omega arith) within in
        let no : ⊥ = omega arith in no
    by_first (inr none) = let zero_last = so.first (omega arith) in let no : ⊥ = omega arith in no

-- THE COPIES in a dump: those of the files from i on have to follow from `at`
abbrev pub own : ℕ → ℕ → ℕ → FileRec → Bool
own serial from to r = is_between serial from to r.tape

pub record HaveFollowed (serial from to : ℕ) (files : List FileRec) (i at : ℕ) : Type 0 where
  pub low : at ≤ from + 128 * i
  pub rest : FollowOn at to (filter (own serial from to) (drop i files)) ↔ FollowOn from to (filter (own serial from to) files)

module _ (serial from to : ℕ) (files : List FileRec) (i at : ℕ) (r : FileRec) (within : i < length files) (is : r ≡ get_or files i r) (so : HaveFollowed serial from to files i at) where
  here : drop i files ≡ r ∷ drop (i + 1) files
  here = drop-cons files i r within ∙ ap (λ (s : FileRec). s ∷ drop (suc i) files) (sym is) ∙ ap (λ (n : ℕ). r ∷ drop n files) (let sum : suc i ≡ i + 1 = omega arith in sum)

  own_front : own serial from to r ≡ true → filter (own serial from to) (drop i files) ≡ r ∷ filter (own serial from to) (drop (i + 1) files)
  own_front mine =
      let rest = filter (own serial from to) (drop (i + 1) files) in
      ap (filter (own serial from to)) here ∙ cond-true (own serial from to r) (r ∷ rest) rest mine

  pub follows : own serial from to r ≡ true → is_at at r.tape → blocks_for r.len ≤ 128 → HaveFollowed serial from to files (i + 1) (at + blocks_for r.len)
  follows mine placed few =
      let low = so.low in
      record {
        low = omega arith;
        rest = (λ on. so.rest.0 (subst (FollowOn at to) (sym (own_front mine)) (placed, on)), λ on. (subst (FollowOn at to) (own_front mine) (so.rest.1 on)).1);
      }

  pub breaks : own serial from to r ≡ true → (is_at at r.tape → ⊥) → FollowOn from to (filter (own serial from to) files) → ⊥
  breaks mine other on = other (subst (FollowOn at to) (own_front mine) (so.rest.1 on)).0

pub all_followed : (serial from to : ℕ) (files : List FileRec) (i at : ℕ) → length files ≤ i → HaveFollowed serial from to files i at → (at ≡ to) ↔ FollowOn from to (filter (own serial from to) files)
all_followed serial from to files i at all so =
    let none : filter (own serial from to) (drop i files) ≡ [] = ap (filter (own serial from to)) (drop_all i files all) in
    (λ ends. so.rest.0 (subst (FollowOn at to) (sym none) ends), λ on. subst (FollowOn at to) none (so.rest.1 on))

-- the files' bytes lie in the dump itself, by places
abbrev pub FollowFrom : ℕ → List FileRec → ℕ → ℕ → Type 0
FollowFrom serial files from to = FollowOn from to (filter (λ r. is_between serial from to r.tape) files)

pub moved : (serial : ℕ) (files : List FileRec) (a b c d : ℕ) → a ≡ b → c ≡ d → FollowFrom serial files a c → FollowFrom serial files b d
moved serial files a b c d from to is = subst (λ (m : ℕ). FollowFrom serial files m d) from (subst (FollowFrom serial files a) to is)

-- a file has 128 blocks at most
pub few_blocks : (files : List FileRec) (i : ℕ) (r : FileRec) → i < length files → r ≡ get_or files i r → All IsFile files → blocks_for r.len ≤ 128
few_blocks files i r within is all =
    let long = (all i r within).len in
    let same = ap (λ (s : FileRec). s.len) is in omega arith
