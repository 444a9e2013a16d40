-- The candidates among records, one file after another.
-- serves: candidates, is_candidate, plan_by_age
use Rattle.std.proofs.Common.{◌≡◌, ℕ, zero, suc, ◌+◌, ◌<◌, ◌≤◌, Bool, true, false, ◌&&◌, cond, List, [], ◌∷◌, ◌++◌, length, get_or, map, filter, take, drop, Option, Some, None, refl, sym, ◌∙◌, ap, arith, if◌then◌else◌}
use Rattle.std.specs.Prelude.{All, Contains, is_some, nat_lt}
use Rattle.std.specs.Option.{option_to_list}
use Rattle.std.specs.List.Sorted.{IsPermutation}
use Rattle.std.proofs.lemmas.Bool.{cond-false, cond-true}
use Rattle.std.proofs.lemmas.List.{length-map, map-append, take_all, take_more}
use Rattle.std.proofs.lemmas.List.Elements.{All-filter, All-map, filter-append}
use Rattle.std.proofs.lemmas.List.Sorted.{All-permutation, length_permutation}
use Rattle.std.proofs.lemmas.List.Sums.{count_by-le-length, length-filter}
use Rattle.g_base.specs.Block.{blocks_for}
use Rattle.g_entry.specs.declared.file_rec.FileRec.{FileRec}
use Rattle.g_entry.specs.FileFields.{IsFile}
use Rattle.g_tree.specs.Records.{IsRecords}
use Rattle.g_disc_contents.specs.Contents.{File, recs_in}
use Rattle.g_disc_contents.specs.Facts.{IsTied, OnlineFacts, room_of}
use Rattle.g_online.proofs.WalkLemmas.{IsNext, next_of, none_behind}
use Rattle.g_migrate.specs.declared.candidates.Candidate.{Candidate}
use Rattle.g_migrate.specs.Candidates.{candidate_in, candidate_of, candidates_in}
use Rattle.g_laws_store.specs.UnjamPlan.{is_candidate}

-- the file of a record at a place
pub record IsFileAt (files : List File) (i : ℕ) (r : FileRec) : Type 0 where
  pub file : File
  pub inside : i < length files
  pub at : get_or files i file ≡ file
  pub rec_is : file.rec ≡ r

file_in : (files : List File) (i : ℕ) (r : FileRec) → i < length (map (λ (f : File). f.rec) files) → r ≡ get_or (map (λ (f : File). f.rec) files) i r → IsFileAt files i r
file_in [] i r inside is = let no : ⊥ = omega (arith, inside) in absurd no
file_in (f ∷ fs) zero r inside is = record { file = f; inside = omega arith; at = refl; rec_is = sym is }
file_in (f ∷ fs) (suc i) r inside is =
    let rest = file_in fs i r (omega (arith, inside)) is in
    let within = rest.inside in
    record { file = rest.file; inside = omega (arith, within); at = rest.at; rec_is = rest.rec_is }

-- one file more
one_candidate : (f : File) → candidates_in (f ∷ []) ≡ option_to_list (candidate_in f)
one_candidate f = by_case (is_candidate f)
  where
    by_case : (b : Bool) → map candidate_of (cond b (f ∷ []) []) ≡ option_to_list (if b then Some (candidate_of f) else None)
    by_case true = refl
    by_case false = refl

pub candidates_more : (files : List File) (i : ℕ) (f : File) → i < length files → get_or files i f ≡ f → candidates_in (take (i + 1) files) ≡ candidates_in (take i files) ++ option_to_list (candidate_in f)
candidates_more files i f inside at =
    ap candidates_in (take_more files i f inside ∙ ap (λ (g : File). take i files ++ g ∷ []) at)
    ∙ ap (map candidate_of) (filter-append is_candidate (take i files) (f ∷ []))
    ∙ map-append candidate_of (filter is_candidate (take i files)) (filter is_candidate (f ∷ []))
    ∙ ap (λ (l : List Candidate). candidates_in (take i files) ++ l) (one_candidate f)

-- AMONG THE RECORDS THAT ARE LEFT
abbrev recs_of : List File → List FileRec
recs_of files = map (λ (f : File). f.rec) files

-- the candidates are those of the preceding files
pub record IsListed (files : List File) (left : List FileRec) (candidates : List Candidate) : Type 0 where
  pub place : ℕ
  pub left_is : left ≡ drop place (map (λ (f : File). f.rec) files)
  pub so_far : candidates ≡ candidates_in (take place files)

pub listed_none : (files : List File) (left : List FileRec) (candidates : List Candidate) → left ≡ map (λ (f : File). f.rec) files → candidates ≡ [] → IsListed files left candidates
listed_none files left candidates is none = record { place = 0; left_is = is; so_far = none }

-- what was found of the first of them
module _ (files : List File) (left rest : List FileRec) (r : FileRec) (found : Option Candidate) (is : left ≡ r ∷ rest)
    (tells : (f : File) → Contains files f → f.rec ≡ r → found ≡ candidate_in f) where
  found_is : (i : ℕ) → IsNext (recs_of files) i r rest → candidates_in (take (i + 1) files) ≡ candidates_in (take i files) ++ option_to_list found
  found_is i next =
      let here = file_in files i r next.inside next.at in
      candidates_more files i here.file here.inside here.at
      ∙ ap (λ (o : Option Candidate). candidates_in (take i files) ++ option_to_list o) (sym (tells here.file (i, here.inside, here.at) here.rec_is))

  pub listed_more : (candidates more : List Candidate) → IsListed files left candidates → more ≡ candidates ++ option_to_list found → IsListed files rest more
  listed_more candidates more was put =
      let next = next_of (recs_of files) was.place r rest (sym is ∙ was.left_is) in
      record {
        place = was.place + 1;
        left_is = next.behind;
        so_far = put ∙ ap (λ (l : List Candidate). l ++ option_to_list found) was.so_far ∙ sym (found_is was.place next);
      }

pub listed_all : (files : List File) (left : List FileRec) (candidates : List Candidate) → left ≡ [] → IsListed files left candidates → candidates ≡ candidates_in files
listed_all files left candidates is was =
    let past = none_behind (recs_of files) was.place (sym is ∙ was.left_is) in
    let as_many = length-map files (λ (f : File). f.rec) in
    was.so_far ∙ ap candidates_in (take_all was.place files (omega (arith, past, as_many)))

-- WHETHER A FILE IS ONE, by its record
three : (a b c : Bool) → (a && b && c) ≡ (if b && c then a else false)
three true b c = chosen_true (b && c)
  where
    chosen_true : (x : Bool) → x ≡ (if x then true else false)
    chosen_true true = refl
    chosen_true false = refl
three false b c = chosen_false (b && c)
  where
    chosen_false : (x : Bool) → false ≡ (if x then false else false)
    chosen_false true = refl
    chosen_false false = refl

by_tape : (f : File) (r : FileRec) (there dumped : Bool) → f.rec ≡ r → dumped ≡ (nat_lt 0 r.len && is_some r.tape) → there ≡ f.online → (if dumped then there else false) ≡ is_candidate f
by_tape f r there dumped same tells online =
    ap (λ (b : Bool). if b then there else false) tells ∙ ap (λ (b : Bool). if nat_lt 0 r.len && is_some r.tape then b else false) online
    ∙ ap (λ (s : FileRec). if nat_lt 0 s.len && is_some s.tape then f.online else false) (sym same) ∙ sym (three f.online (nat_lt 0 f.rec.len) (is_some f.rec.tape))

pub is_one : (f : File) (r : FileRec) (there dumped : Bool) → f.rec ≡ r → dumped ≡ (nat_lt 0 r.len && is_some r.tape) → dumped ≡ true → there ≡ f.online → there ≡ is_candidate f
is_one f r there dumped same tells yes_is online = sym (cond-true dumped there false yes_is) ∙ by_tape f r there dumped same tells online

pub is_none_of : (f : File) (r : FileRec) (dumped : Bool) → f.rec ≡ r → dumped ≡ (nat_lt 0 r.len && is_some r.tape) → dumped ≡ false → false ≡ is_candidate f
is_none_of f r dumped same tells isnt = sym (cond-false dumped f.online false isnt) ∙ by_tape f r f.online dumped same tells refl

-- THEY ARE FEW, and small
pub few_sorted : (files : List File) (sorted : List Candidate) → length files ≤ 1024 → IsPermutation (candidates_in files) sorted → length sorted ≤ 1024
few_sorted files sorted few moved =
    let same = length_permutation (candidates_in files) sorted moved in
    let made = length-map (filter is_candidate files) candidate_of in
    let kept = length-filter is_candidate files in
    let most = count_by-le-length is_candidate files in
    omega (arith, same, made, kept, most, few)

small_block : (f : File) → f.rec.len ≤ 65536 → blocks_for f.rec.len ≤ 128
small_block f short = omega (arith, short)

of_recs : (files : List File) → All IsFile (map (λ (f : File). f.rec) files) → All (λ (f : File). blocks_for f.rec.len ≤ 128) files
of_recs [] all k d inside = let no : ⊥ = omega (arith, inside) in absurd no
of_recs (f ∷ fs) all zero d inside = small_block f (all 0 f.rec (omega arith)).len
of_recs (f ∷ fs) all (suc k) d inside = of_recs fs (λ i r within. all (suc i) r (omega (arith, within))) k d (omega (arith, inside))

pub small_sorted : (files : List File) (sorted : List Candidate) → All IsFile (map (λ (f : File). f.rec) files) → IsPermutation (candidates_in files) sorted → All (λ (c : Candidate). c.blocks ≤ 128) sorted
small_sorted files sorted all moved =
    All-permutation (λ (c : Candidate). c.blocks ≤ 128) (candidates_in files) sorted moved
    (All-map (λ (c : Candidate). c.blocks ≤ 128) candidate_of (filter is_candidate files) (All-filter is_candidate (λ (f : File). blocks_for f.rec.len ≤ 128) files (of_recs files all)))

pub few_files : (o : OnlineFacts) → IsRecords o.contents.users (recs_in o.contents) → length o.contents.files ≤ 1024
few_files o records = let few = records.among_files.few in let same = length-map o.contents.files (λ (f : File). f.rec) in omega (arith, few, same)

pub small_room : (o : OnlineFacts) → IsTied o → room_of o ≤ 1_048_576
small_room o tied = let most = tied.most in omega (arith, most)
