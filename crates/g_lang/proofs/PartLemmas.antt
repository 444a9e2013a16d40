-- A text whose brackets match is parts with commas between them, and trailing spaces.
-- serves: ParamLemmas, ParseLemmas, RestLemmas
use Rattle.std.proofs.Common.{Bool, List, None, Option, Some, [], ap, arith, eqb-true, false, length, pred, refl, subst, suc, sym, true, ℕ, ◌&&◌, ◌++◌, ◌+◌, ◌==◌, ◌∙◌, ◌∷◌, ◌≡◌, ◌≤◌}
use Rattle.std.proofs.lemmas.Bool.{and_from, and_parts, cond_both, false≢true, not_from_false}
use Rattle.std.specs.Prelude.{if◌then◌else◌}
use Rattle.g_lang.proofs.PlaceLemmas.{takes}
use Rattle.g_lang.proofs.SpaceLemmas.{StartsWell}
use Rattle.g_lang.proofs.TakeLemmas.{params_spaces}
use Rattle.g_lang.proofs.ValueLemmas.{are_parts}
use Rattle.g_lang.specs.LineReader.{Params, State, depth_behind, in_params, parts_of}
use Rattle.g_lang.specs.Words.{before_rest, ends_well, is_part, is_printed, is_trimmed, joined, spaces, without_back}
use Rattle.g_lines.specs.Lines.{onto_first}

-- the part before the trailing spaces
split_more : (c : ℕ) (cs w : List ℕ) (n : ℕ) → cs ≡ w ++ spaces n → (m : ℕ) × (c ∷ cs ≡ before_rest c w ++ spaces m)
split_more c cs [] n same =
    cond_both (c == 32) [] (c ∷ []) (λ (front : List ℕ). (m : ℕ) × (c ∷ cs ≡ front ++ spaces m))
    (λ space. (suc n, rw (eqb-true c 32 space, same) refl)) (λ other. (n, rw same refl))
split_more c cs (d ∷ ds) n same = (n, rw same refl)

pub back-split : (t : List ℕ) → (n : ℕ) × (t ≡ without_back t ++ spaces n)
back-split [] = (0, refl)
back-split (c ∷ cs) = let more = back-split cs in split_more c cs (without_back cs) more.0 more.1

-- nothing, or a text whose last byte is no space
abbrev EndsOrNone : List ℕ → Type 0
EndsOrNone [] = Unit {0}
EndsOrNone (c ∷ cs) = ends_well c cs ≡ true

ends_more : (c : ℕ) (w : List ℕ) → EndsOrNone w → EndsOrNone (before_rest c w)
ends_more c [] ends = cond_both (c == 32) [] (c ∷ []) EndsOrNone (λ space. tt) (λ other. not_from_false _ other)
ends_more c (d ∷ ds) ends = ends

back_ends : (t : List ℕ) → EndsOrNone (without_back t)
back_ends [] = tt
back_ends (c ∷ cs) = ends_more c (without_back cs) (back_ends cs)

starts_more : (c : ℕ) (w : List ℕ) → (c == 32) ≡ false → StartsWell (before_rest c w)
starts_more c [] other = rw other other
starts_more c (d ∷ ds) other = other

back_starts : (t : List ℕ) → StartsWell t → StartsWell (without_back t)
back_starts [] starts = absurd starts
back_starts (c ∷ cs) starts = starts_more c (without_back cs) starts

both_well : (t : List ℕ) → StartsWell t → EndsOrNone t → is_trimmed t ≡ true
both_well [] starts ends = absurd starts
both_well (c ∷ cs) starts ends = and_from _ _ (not_from_false _ starts) ends

pub back-trimmed : (t : List ℕ) → StartsWell t → is_trimmed (without_back t) ≡ true
back-trimmed t starts = both_well (without_back t) (back_starts t starts) (back_ends t)

-- within parameters the reader stays in them
abbrev StaysIn : Option State → Type 0
StaysIn None = Unit {0}
StaysIn (Some t) = (d : ℕ) × (t ≡ Params d)

stays_in : (d c : ℕ) → StaysIn (in_params d c)
stays_in d c =
    cond_both (c == 40) (Some (Params (d + 1))) (if c == 41 then (if d == 0 then None else Some (Params (pred d))) else if is_printed c then Some (Params d) else None) StaysIn
    (λ _. (d + 1, refl))
    (λ _. cond_both (c == 41) (if d == 0 then None else Some (Params (pred d))) (if is_printed c then Some (Params d) else None) StaysIn
    (λ _. cond_both (d == 0) None (Some (Params (pred d))) StaysIn (λ _. tt) (λ _. (pred d, refl)))
    (λ _. cond_both (is_printed c) (Some (Params d)) None StaysIn (λ _. (d, refl)) (λ _. tt)))

by_state : (o : Option State) (xs ys : List ℕ) → StaysIn o → ((d : ℕ) → takes (Params d) xs ≡ takes (Params d) ys)
    → ◌≡◌ {A = Bool} (elim o [ None ↦ false | Some t ↦ takes t xs ]) (elim o [ None ↦ false | Some t ↦ takes t ys ])
by_state None xs ys stays same = refl
by_state (Some t) xs ys stays same = ap (λ (s : State). takes s xs) stays.1 ∙ same stays.0 ∙ ap (λ (s : State). takes s ys) (sym stays.1)

-- trailing spaces change nothing
pub without-spaces : (d : ℕ) (u : List ℕ) (n : ℕ) → takes (Params d) (u ++ spaces n) ≡ takes (Params d) u
without-spaces d [] n = params_spaces d n
without-spaces d (c ∷ u) n = by_state (in_params d c) (u ++ spaces n) u (stays_in d c) (λ e. without-spaces e u n)

-- one byte that is taken
record ByteTaken (d c : ℕ) (cs : List ℕ) : Type 0 where
  more : takes (Params (depth_behind c d)) cs ≡ true
  part : (p : List ℕ) → (c == 44 && d == 0) ≡ false → is_part (depth_behind c d) p ≡ true → is_part d (c ∷ p) ≡ true

byte_taken : (d c : ℕ) (cs : List ℕ) → takes (Params d) (c ∷ cs) ≡ true → ByteTaken d c cs
byte_taken d c cs =
    cond_both (c == 40) (Some (Params (d + 1))) (if c == 41 then (if d == 0 then None else Some (Params (pred d))) else if is_printed c then Some (Params d) else None)
    (λ (o : Option State). (elim o [ None ↦ false | Some t ↦ takes t cs ]) ≡ true → ByteTaken d c cs)
    (λ opens taken. record { more = rw opens taken; part = λ p comma is. rw (opens) (let P : ℕ → Type 0 = λ n. is_part n p ≡ true in let e : depth_behind c d ≡ d + 1 = rw opens refl in subst P e is) })
    (λ no_open.
    cond_both (c == 41) (if d == 0 then None else Some (Params (pred d))) (if is_printed c then Some (Params d) else None)
    (λ (o : Option State). (elim o [ None ↦ false | Some t ↦ takes t cs ]) ≡ true → ByteTaken d c cs)
    (λ closes.
    cond_both (d == 0) None (Some (Params (pred d)))
    (λ (o : Option State). (elim o [ None ↦ false | Some t ↦ takes t cs ]) ≡ true → ByteTaken d c cs)
    (λ flat taken. absurd (false≢true taken))
    (λ deep taken. record {
      more = rw (no_open, closes) taken;
      part = λ p comma is. let P : ℕ → Type 0 = λ n. is_part n p ≡ true in let e : depth_behind c d ≡ pred d = rw (no_open, closes) refl in rw (no_open, closes, deep) (subst P e is);
    }))
    (λ no_close.
    cond_both (is_printed c) (Some (Params d)) None
    (λ (o : Option State). (elim o [ None ↦ false | Some t ↦ takes t cs ]) ≡ true → ByteTaken d c cs)
    (λ printed taken. record {
      more = rw (no_open, no_close) taken;
      part = λ p comma is. let P : ℕ → Type 0 = λ n. is_part n p ≡ true in let e : depth_behind c d ≡ d = rw (no_open, no_close) refl in rw (no_open, no_close, printed, comma) (subst P e is);
    })
    (λ not_printed taken. absurd (false≢true taken))))

-- parts, the first of which begins at this depth
abbrev ArePartsFrom : ℕ → List (List ℕ) → Type 0
ArePartsFrom d [] = ⊥
ArePartsFrom d (p ∷ ps) = (is_part d p ≡ true) × (are_parts ps ≡ true)

are_all : (ps : List (List ℕ)) → ArePartsFrom 0 ps → are_parts ps ≡ true
are_all [] from = absurd from
are_all (p ∷ ps) from = and_from _ _ from.0 from.1

onto_parts : (d c : ℕ) (ps : List (List ℕ)) → ((p : List ℕ) → is_part (depth_behind c d) p ≡ true → is_part d (c ∷ p) ≡ true)
    → ArePartsFrom (depth_behind c d) ps → ArePartsFrom d (onto_first c ps)
onto_parts d c [] part from = absurd from
onto_parts d c (p ∷ ps) part from = (part p from.0, from.1)

comma_flat : (d c : ℕ) (cs : List ℕ) → (c == 44 && d == 0) ≡ true → takes (Params (depth_behind c d)) cs ≡ true → takes (Params 0) cs ≡ true
comma_flat d c cs comma more =
    let both = and_parts (c == 44) (d == 0) comma in
    let e : depth_behind c d ≡ 0 = ap (λ (n : ℕ). depth_behind n d) (eqb-true c 44 both.0) ∙ eqb-true d 0 both.1 in
    ap (λ (n : ℕ). takes (Params n) cs) (sym e) ∙ more

pub cut-parts : (d : ℕ) (u : List ℕ) → takes (Params d) u ≡ true → ArePartsFrom d (parts_of d u)
cut-parts d [] taken = (taken, refl)
cut-parts d (c ∷ cs) taken =
    let byte = byte_taken d c cs taken in
    cond_both (c == 44 && d == 0) ([] ∷ parts_of 0 cs) (onto_first c (parts_of (depth_behind c d) cs)) (ArePartsFrom d)
    (λ comma. ((and_parts (c == 44) (d == 0) comma).1, are_all (parts_of 0 cs) (cut-parts 0 cs (comma_flat d c cs comma byte.more))))
    (λ other. onto_parts d c (parts_of (depth_behind c d) cs) (λ p. byte.part p other) (cut-parts (depth_behind c d) cs byte.more))

abbrev AreSome : List (List ℕ) → Type 0
AreSome [] = ⊥
AreSome (p ∷ ps) = Unit {0}

onto_some : (c : ℕ) (ps : List (List ℕ)) → AreSome (onto_first c ps)
onto_some c [] = tt
onto_some c (p ∷ ps) = tt

some_parts : (d : ℕ) (u : List ℕ) → AreSome (parts_of d u)
some_parts d [] = tt
some_parts d (c ∷ cs) =
    cond_both (c == 44 && d == 0) ([] ∷ parts_of 0 cs) (onto_first c (parts_of (depth_behind c d) cs)) AreSome (λ _. tt) (λ _. onto_some c (parts_of (depth_behind c d) cs))

are_some : (ps : List (List ℕ)) → AreSome ps → 1 ≤ length ps
are_some [] some = absurd some
are_some (p ∷ ps) some = omega arith

pub some-parts : (d : ℕ) (u : List ℕ) → 1 ≤ length (parts_of d u)
some-parts d u = are_some (parts_of d u) (some_parts d u)

joined_onto : (c : ℕ) (ps : List (List ℕ)) → AreSome ps → joined (onto_first c ps) ≡ c ∷ joined ps
joined_onto c [] some = absurd some
joined_onto c (p ∷ []) some = refl
joined_onto c (p ∷ q ∷ ps) some = refl

joined_comma : (ps : List (List ℕ)) → AreSome ps → joined ([] ∷ ps) ≡ 44 ∷ joined ps
joined_comma [] some = absurd some
joined_comma (p ∷ ps) some = refl

pub joined-parts : (d : ℕ) (u : List ℕ) → joined (parts_of d u) ≡ u
joined-parts d [] = refl
joined-parts d (c ∷ cs) =
    cond_both (c == 44 && d == 0) ([] ∷ parts_of 0 cs) (onto_first c (parts_of (depth_behind c d) cs)) (λ (ps : List (List ℕ)). joined ps ≡ c ∷ cs)
    (λ comma. joined_comma (parts_of 0 cs) (some_parts 0 cs) ∙ rw (eqb-true c 44 (and_parts (c == 44) (d == 0) comma).0) (ap (λ (ts : List ℕ). 44 ∷ ts) (joined-parts 0 cs)))
    (λ other. joined_onto c (parts_of (depth_behind c d) cs) (some_parts (depth_behind c d) cs) ∙ ap (λ (ts : List ℕ). c ∷ ts) (joined-parts (depth_behind c d) cs))

-- no parameters, or some
abbrev pub AreParams : List (List ℕ) → Type 0
AreParams [] = Unit {0}
AreParams (part ∷ parts) = (are_parts (part ∷ parts) ≡ true) × (is_trimmed (joined (part ∷ parts)) ≡ true)

-- the rest of a verb's line
pub record ParamsRest (text : List ℕ) : Type 0 where
  pub gap : ℕ
  pub parts : List (List ℕ)
  pub back : ℕ
  pub are : AreParams parts
  pub same : text ≡ spaces gap ++ (joined parts ++ spaces back)

are_params : (ps : List (List ℕ)) → are_parts ps ≡ true → is_trimmed (joined ps) ≡ true → AreParams ps
are_params [] are trim = tt
are_params (p ∷ ps) are trim = (are, trim)

pub params-rest : (t : List ℕ) → StartsWell t → takes (Params 0) t ≡ true → ParamsRest t
params-rest t starts taken =
    let back = back-split t in
    let u = without_back t in
    let inside : takes (Params 0) u ≡ true = sym (without-spaces 0 u back.0) ∙ ap (takes (Params 0)) (sym back.1) ∙ taken in
    let whole : joined (parts_of 0 u) ≡ u = joined-parts 0 u in
    record {
      gap = 0;
      parts = parts_of 0 u;
      back = back.0;
      are = are_params (parts_of 0 u) (are_all (parts_of 0 u) (cut-parts 0 u inside)) (ap is_trimmed whole ∙ back-trimmed t starts);
      same = back.1 ∙ ap (λ (ts : List ℕ). ts ++ spaces back.0) (sym whole);
    }
