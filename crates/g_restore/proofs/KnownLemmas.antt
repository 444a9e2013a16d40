-- What is in memory and the dumps that it is known of.
-- serves: fold (none), DirectoryLemmas, FoldLemmas, GatherLemmas, PlaceLemmas, crates above
use Rattle.std.proofs.Common.{◌≡◌, ℕ, zero, suc, ◌<◌, ◌≤◌, Bool, true, List, [], ◌∷◌, length, get_or, Option, Some, None, refl, sym, ◌∙◌, ap, arith, map, All}
use Rattle.std.specs.Prelude.{Contains}
use Rattle.std.proofs.lemmas.List.{get_or-map, get_or_default, length-map}
use Rattle.std.proofs.lemmas.List.Elements.{All-contains}
use Rattle.g_incr.specs.Layout.{Dump, IsDump, holds}
use Rattle.g_store_meaning.specs.Meaning.{HasDirectory, IsGreatest}
use Rattle.g_restore.specs.declared.dumps.Found.{Found}
use Rattle.g_restore.specs.Gathering.{HasFew, IsBest, NonePasses, number_in, holds_directory}
use Rattle.g_restore.specs.KnownDumps.{Known, known, known_of}

pub at_place : {X : Type 0} (xs : List X) (i : ℕ) → i < length xs → (x : X) × (get_or xs i x ≡ x)
at_place [] i within = let no : ⊥ = omega (arith, within) in absurd no
at_place (x ∷ xs) zero within = (x, refl)
at_place (x ∷ xs) (suc i) within = let (y, is) = at_place xs i (omega (arith, within)) in (y, is)

get_or_same : {X : Type 0} (xs : List X) (k : ℕ) (e x : X) → k < length xs → get_or xs k x ≡ x → get_or xs k e ≡ x
get_or_same xs k e x within is = get_or_default xs k e x within ∙ is

-- the user's directory is in the dump; without a user each dump holds_directory
abbrev pub is_passed : Option ℕ → Dump → Bool
is_passed None d = true
is_passed (Some user) d = holds d.held user

pass_same : (user : Option ℕ) (f : Found) (d : Dump) → known f ≡ known_of d → holds_directory user f ≡ is_passed user d
pass_same None f d same = refl
pass_same (Some user) f d same = ap (λ (k : Known). holds k.held user) same

module _ (found : List Found) (dumps : List Dump) (same : map known found ≡ map known_of dumps) where
  pub same_length : length found ≡ length dumps
  same_length = sym (length-map found known) ∙ ap length same ∙ length-map dumps known_of

  -- the dump that is known at a place
  pub known_at : (k : ℕ) → k < length found → (d : Dump) × Contains dumps d × (get_or dumps k d ≡ d) × ((f : Found) → known (get_or found k f) ≡ known_of d)
  known_at k within =
      let long = same_length in
      let inside : k < length dumps = omega arith in
      let (d, here) = at_place dumps k inside in (
        d,
        (k, inside, here),
        here,
        λ f. sym (get_or-map known found k f (known f) within) ∙ ap (λ (ks : List Known). get_or ks k (known f)) same ∙ get_or-map known_of dumps k d (known f) inside ∙ ap known_of here,
      )

  -- the place of a dump, and what is in memory there
  pub place_of : (d : Dump) → Contains dumps d → (k : ℕ) × (k < length found) × (f : Found) × (get_or found k f ≡ f) × (known f ≡ known_of d)
  place_of d (k, inside, here) =
      let long = same_length in
      let within : k < length found = omega (arith, inside) in
      let (f, there) = at_place found k within in
      let (e, in_e, at_e, known_e) = known_at k within in
      let one : e ≡ d = sym at_e ∙ same_at e in
      (k, within, f, there, ap known (sym there) ∙ known_e f ∙ ap known_of one)
    where
      same_at : (e : Dump) → get_or dumps k e ≡ d
      same_at e = get_or_same dumps k e d inside here

  -- the best of them
  pub record IsTheBest (user : Option ℕ) (at : ℕ) : Type 0 where
    pub dump : Dump
    pub there : Contains dumps dump
    pub known_is : (f : Found) → known (get_or found at f) ≡ known_of dump
    pub passed : is_passed user dump ≡ true
    pub most : (e : Dump) → Contains dumps e → is_passed user e ≡ true → e.number ≤ dump.number

  pub the_best : (user : Option ℕ) (b : ℕ × ℕ) → IsBest user found (length found) b → IsTheBest user b.0
  the_best user b is =
      let (d, in_d, at_d, known_d) = known_at b.0 is.within in
      let (f, at_f) = at_place found b.0 is.within in
      record {
        dump = d;
        there = in_d;
        known_is = known_d;
        passed = sym (pass_same user (get_or found b.0 f) d (known_d f)) ∙ is.passes_is f;
        most = λ e in_e passed_e.
            let (k, within, g, at_g, known_g) = place_of e in_e in
            let pass : holds_directory user (get_or found k g) ≡ true = ap (holds_directory user) at_g ∙ pass_same user g e known_g ∙ passed_e in
            let low = is.most k g within pass in
            let number_g : number_in (get_or found k g) ≡ e.number = ap number_in at_g ∙ ap (λ (x : Known). x.note.number) known_g in
            let number_d : number_in (get_or found b.0 f) ≡ d.number = ap (λ (x : Known). x.note.number) (known_d f) in
            let number_b = is.number_is f in
            omega (arith, low, number_g, number_d, number_b);
      }

  pub none_passed : (user : Option ℕ) → NonePasses user found (length found) → (d : Dump) → Contains dumps d → is_passed user d ≡ true → ⊥
  none_passed user none d in_d passed =
      let (k, within, f, at_f, known_f) = place_of d in_d in
      none k f within (ap (holds_directory user) at_f ∙ pass_same user f d known_f ∙ passed)

  pub holder : (user : ℕ) (b : ℕ × ℕ) → IsBest (Some user) found (length found) b → (d : Dump) × HasDirectory dumps user d × ((f : Found) → known (get_or found b.0 f) ≡ known_of d)
  holder user b is = let best = the_best (Some user) b is in (best.dump, record { there = best.there; held = best.passed; newest = best.most }, best.known_is)

  pub greatest_of : (b : ℕ × ℕ) → IsBest None found (length found) b → (d : Dump) × IsGreatest dumps d × ((f : Found) → known (get_or found b.0 f) ≡ known_of d)
  greatest_of b is = let best = the_best None b is in (best.dump, record { there = best.there; greatest = λ e in_e. best.most e in_e refl }, best.known_is)

  -- no directory has more files than it may have
  pub have_few : All IsDump dumps → All HasFew found
  have_few rules k f within =
      let (d, in_d, at_d, known_d) = known_at k within in
      let is = All-contains IsDump dumps d rules in_d in
      let few = is.files.few in
      let long : length (get_or found k f).dir.files.items ≡ length d.files = ap (λ (x : Known). length x.files) (known_d f) in
      omega (arith, long, few)

-- If no dump passes the check, there is no such dump.
pub none_there : (found : List Found) → NonePasses None found (length found) → found ≡ []
none_there [] none = refl
none_there (f ∷ fs) none = absurd (none 0 f (omega arith) refl)

pub no_dumps : (found : List Found) (dumps : List Dump) → map known found ≡ map known_of dumps → found ≡ [] → dumps ≡ []
no_dumps found [] same is = refl
no_dumps found (d ∷ ds) same is =
    let long = same_length found (d ∷ ds) same in
    let none : length found ≡ 0 = ap length is in
    let no : ⊥ = omega (arith, long, none) in absurd no
