-- A plan of files that are taken off the disc is the step's.
-- serves: unjamming_goes_by_plan, AdoptLemmas, CallLemmas, OpenedLemmas, PutLemmas, SetLemmas, crates above
use Rattle.std.proofs.Common.{◌≡◌, ℕ, ◌+◌, ◌<◌, ◌≤◌, Bool, true, false, List, [], ◌∷◌, get_or, length, Option, Some, None, is_some, unwrap_or, refl, sym, ◌∙◌, ap, arith, subst, inl, inr}
use Rattle.std.specs.Prelude.{◌⊎◌, ◌==◌, ◌&&◌, ◌||◌, AllPairs, Contains, map, nat_lt, sum_by, if◌then◌else◌}
use Rattle.std.specs.List.{list_any}
use Rattle.std.specs.Option.{option_map}
use Rattle.std.specs.Ordering.{nat_cmp}
use Rattle.std.specs.FinMap.{find, nat_cmp-IsAntisymmetric}
use Rattle.std.proofs.lemmas.Bool.{and_from, and_parts, both_ways, cases_Bool, eq-eqb, eqb-true, false_from_ne_true, false≢true, ltb-false}
use Rattle.std.proofs.lemmas.Cmp.{nat_cmp_total}
use Rattle.std.proofs.lemmas.List.{get_or-map, length-map}
use Rattle.std.proofs.lemmas.List.Elements.{All-contains, Contains-append_right, Contains-get_or}
use Rattle.g_base.specs.Block.{blocks_for}
use Rattle.g_name.specs.declared.full.Full.{Full}
use Rattle.g_tape.specs.Reel.{Reel}
use Rattle.g_entry.specs.declared.file_rec.FileRec.{FileRec}
use Rattle.g_entry.specs.declared.user_rec.UserRec.{UserRec}
use Rattle.g_plain.specs.PlainTree.{FileRow}
use Rattle.g_plain.specs.declared.calls.StoreCall.{StoreCall}
use Rattle.g_tree.proofs.ListLemmas.{sum_same_on}
use Rattle.g_tree.proofs.MapLemmas.{AreApart, found_one, keyed}
use Rattle.g_tree.proofs.RuleLemmas.{one_of_key}
use Rattle.g_disc_contents.specs.Contents.{Contents, File, has, recs_in, taken_off}
use Rattle.g_disc_contents.specs.Facts.{OnlineFacts, room_of}
use Rattle.g_store_model.specs.State as state
use Rattle.g_store_model.specs.CallStep.{IsUnjam, need, room_until as room_by_step}
use Rattle.g_store_meaning.specs.Reading.{View, place_of, places_of, state_up, users_not_in}
use Rattle.g_store_meaning.specs.StoreInvariant.{DumpFacts}
use Rattle.g_laws_store.specs.Places.{AreDistinct}
use Rattle.g_laws_store.specs.Rooms.{held_in}
use Rattle.g_laws_store.specs.UnjamPlan.{ArePlanned, IsUnjamPlan, UnjamIs, is_candidate, is_taken, room_until}
use Rattle.g_laws_store.proofs.PlaceLemmas.{get_place, place_found, places_go_by_change}
use Rattle.g_laws_store.proofs.RoomLemmas.{files_apart, room_is, sum_is}
use Rattle.g_laws_store.proofs.UserLemmas.{any_there}
use Rattle.g_laws_store.proofs.WaitingLemmas.{mapped_there}

-- what passes a test somewhere
pub any_found : {A : Type 0} (t : A → Bool) (xs : List A) → list_any t xs ≡ true → (x : A) × Contains xs x × (t x ≡ true)
any_found t [] e = absurd (false≢true e)
any_found {A} t (x ∷ xs) e = by_first (cases_Bool (t x)) (any_found t xs)
  where
    by_first : (t x ≡ true) ⊎ (t x ≡ false) → (list_any t xs ≡ true → (y : A) × Contains xs y × (t y ≡ true)) → (y : A) × Contains (x ∷ xs) y × (t y ≡ true)
    by_first (inl is) rest = (x, (0, omega arith, refl), is)
    by_first (inr isnt) rest =
        let (y, there, is) = rest (sym (ap (λ (b : Bool). b || list_any t xs) isnt) ∙ e) in (y, Contains-append_right (x ∷ []) xs y there, is)

-- no two files have one number
pub numbers_apart : (files : List File) → AllPairs (λ (r s : FileRec). r.number < s.number) (map (λ (f : File). f.rec) files) → AreApart (λ (f : File). f.rec.number) files
numbers_apart files rise i j d less within same =
    let long = length-map files (λ (f : File). f.rec) in
    let one = ap (λ (r : FileRec). r.number) (get_or-map (λ (f : File). f.rec) files i d d.rec (omega (arith, less, within))) in
    let two = ap (λ (r : FileRec). r.number) (get_or-map (λ (f : File). f.rec) files j d d.rec within) in
    let lower = rise i j d.rec less (omega (arith, within, long)) in
    (let no : ⊥ = omega (arith, lower, one, two, same) in no)

with_length : (online long some : Bool) → (long ≡ false → some ≡ false) → (online && some) ≡ (online && long && some)
with_length true true some none = refl
with_length false true some none = refl
with_length true false some none = none refl
with_length false false some none = refl

only_is : (b : Bool) (m n : ℕ) → m ≡ n → state.only_if b m ≡ (if b then n else 0)
only_is true m n same = same
only_is false m n same = refl

enough_by : (need blocks room reached : ℕ) → need ≡ blocks → blocks ≤ room → room ≡ reached → need ≤ reached
enough_by need blocks room reached one le two = omega (arith, one, le, two)

less_by : (need reached by_plan : ℕ) → reached ≡ by_plan → by_plan < need → reached < need
less_by need reached by_plan same less = omega (arith, same, less)

module _ (v : View) (o : OnlineFacts) (dump : Option DumpFacts) (are : ArePlanned v o dump) where
  abbrev c : Contents
  c = o.contents

  abbrev kept : List UserRec
  kept = users_not_in o.changed c.users

  abbrev k : state.Holding
  k = held_in v o

  distinct : AreDistinct c.files
  distinct = files_apart c.files are.records.among_files.stamps

  candidate_of : (f : File) → Contains c.files f → state.is_candidate (place_of f) ≡ is_candidate f
  candidate_of f there =
      with_length f.online (nat_lt 0 f.rec.len) (is_some f.rec.tape)
      (λ short.
      let le = ltb-false 0 f.rec.len short in
      ap is_some (All-contains (λ (r : FileRec). r.len ≡ 0 → r.tape ≡ None) (recs_in c) f.rec are.records.among_files.empty (mapped_there (λ (g : File). g.rec) c.files f there) (omega (arith, le))))

  place_is : (f : File) → Contains c.files f → state.place_at k.places f.rec.stamp ≡ place_of f
  place_is f there = ap (λ (p : Option state.Place). unwrap_or p (record { online = true; copy = None })) (place_found c.files f distinct there)

  candidate_same : (f : File) → Contains c.files f → state.is_candidate (state.place_at k.places f.rec.stamp) ≡ is_candidate f
  candidate_same f there = ap state.is_candidate (place_is f there) ∙ candidate_of f there

  taken_same : (until : ℕ) (f : File) → Contains c.files f → state.is_taken k until f.rec.stamp ≡ is_taken until f
  taken_same until f there = ap (λ (b : Bool). nat_lt f.rec.stamp until && b) (candidate_same f there)

  -- a candidate is a file's
  record IsFile (stamp : ℕ) : Type 0 where
    file : File
    there : Contains c.files file
    is : file.rec.stamp ≡ stamp

  file_at : (stamp : ℕ) → state.is_candidate (state.place_at k.places stamp) ≡ true → IsFile stamp
  file_at stamp is = by_found (find nat_cmp stamp (keyed (λ (f : File). f.rec.stamp) c.files)) refl
    where
      by_found : (p : Option File) → find nat_cmp stamp (keyed (λ (f : File). f.rec.stamp) c.files) ≡ p → IsFile stamp
      by_found None e =
          let nowhere : state.place_at k.places stamp ≡ record { online = true; copy = None } =
          ap (λ (p : Option state.Place). unwrap_or p (record { online = true; copy = None })) (get_place c.files stamp ∙ ap (option_map place_of) e) in
          absurd (false≢true (sym (ap state.is_candidate nowhere) ∙ is))
      by_found (Some f) e =
          let one = found_one nat_cmp_total nat_cmp-IsAntisymmetric (λ (g : File). g.rec.stamp) stamp c.files f e in
          record { file = f; there = one.0; is = one.1 }

  candidate_at : (stamp : ℕ) → state.is_candidate (state.place_at k.places stamp) ≡ true → (it : IsFile stamp) → is_candidate it.file ≡ true
  candidate_at stamp is it =
      sym (candidate_same it.file it.there) ∙ subst (λ (n : ℕ). state.is_candidate (state.place_at k.places n) ≡ true) (sym it.is) is

  blocks_same : (until : ℕ) → state.taken_blocks k until ≡ sum_by (λ (f : File). if is_taken until f then blocks_for f.rec.len else 0) c.files
  blocks_same until =
      sum_is v.text c kept are.records (λ (e : Full × FileRow). state.only_if (state.is_taken k until e.1.stamp) (state.blocks_of e.1))
      ∙ sum_same_on (λ (g : File). state.only_if (state.is_taken k until g.rec.stamp) (blocks_for (length (v.text g.rec.stamp)))) (λ (f : File). if is_taken until f then blocks_for f.rec.len else 0) c.files
      (λ i d within.
      let g = get_or c.files i d in
      ap (λ (b : Bool). state.only_if b (blocks_for (length (v.text g.rec.stamp)))) (taken_same until g (Contains-get_or c.files i d within))
      ∙ only_is (is_taken until g) (blocks_for (length (v.text g.rec.stamp))) (blocks_for g.rec.len) (ap blocks_for (are.long i d within)))

  module _ (reels : List Reel) (who : List ℕ) (call : StoreCall) where
    abbrev s : state.State
    s = state_up v reels o dump

    room_same : (until : ℕ) → room_by_step s k who call until ≡ room_until o until
    room_same until =
        ap (λ (n : ℕ). n + state.taken_blocks k until) (room_is v reels o dump are.records are.long are.pins)
        ∙ ap (λ (n : ℕ). room_of o + n) (blocks_same until)

    planned : (take : List ℕ) (room : ℕ) → (is : IsUnjamPlan (need s k who call) o take room) → IsUnjam s k who call is.until
    planned take room is = record {
      enough = by_room is.enough;
      least = λ lower less. less_by (need s k who call) (room_by_step s k who call lower) (room_until o lower) (room_same lower) (is.least lower less);
    }
      where
        by_room : (need s k who call ≤ room) ⊎ ((f : File) → Contains c.files f → is_candidate f ≡ true → f.rec.stamp < is.until)
            → (need s k who call ≤ room_by_step s k who call is.until) ⊎ ((stamp : ℕ) → state.is_candidate (state.place_at k.places stamp) ≡ true → stamp < is.until)
        by_room (inl le) =
            inl (enough_by (need s k who call) (need s k who call) room (room_by_step s k who call is.until) refl le (is.room_is ∙ sym (room_same is.until)))
        by_room (inr all) =
            inr (λ stamp candidate.
            let it = file_at stamp candidate in
            subst (λ (n : ℕ). n < is.until) it.is (all it.file it.there (candidate_at stamp candidate it)))

  module _ (blocks : ℕ) (take : List ℕ) (room : ℕ) (is : IsUnjamPlan blocks o take room) where
    -- the numbers are those of the files that are taken
    has_taken : (f : File) → Contains c.files f → has take f.rec.number ≡ is_taken is.until f
    has_taken f there = by_test (cases_Bool (is_taken is.until f))
      where
        by_test : (is_taken is.until f ≡ true) ⊎ (is_taken is.until f ≡ false) → has take f.rec.number ≡ is_taken is.until f
        by_test (inl taken) = any_there (λ (m : ℕ). m == f.rec.number) take f.rec.number (is.all f there taken) (eq-eqb f.rec.number f.rec.number refl) ∙ sym taken
        by_test (inr isnt) =
            false_from_ne_true (has take f.rec.number)
            (λ there_too.
            let (n, in_take, same) = any_found (λ (m : ℕ). m == f.rec.number) take there_too in
            let (g, in_files, number, taken) = All-contains (λ (m : ℕ). (h : File) × Contains c.files h × (h.rec.number ≡ m) × (is_taken is.until h ≡ true)) take n is.from in_take in
            let one = one_of_key (λ (h : File). h.rec.number) c.files g f (numbers_apart c.files are.records.numbers.rising) in_files there (number ∙ eqb-true n f.rec.number same) in
            both_ways (is_taken is.until f) isnt (ap (is_taken is.until) (sym one) ∙ taken))
            ∙ sym isnt

    taken_places : places_of (taken_off take c.files) ≡ (state.taken_offline is.until k).places
    taken_places =
        places_go_by_change.taken k c.files take is.until refl distinct
        (λ i d within.
        let f = get_or c.files i d in
        let there = Contains-get_or c.files i d within in
        has_taken f there ∙ ap (λ (b : Bool). nat_lt f.rec.stamp is.until && b) (sym (candidate_of f there)))

    some_taken : 0 < length take → (stamp : ℕ) × (state.is_taken k is.until stamp ≡ true)
    some_taken some =
        let (g, in_files, number, taken) = is.from 0 0 some in
        (g.rec.stamp, taken_same is.until g in_files ∙ taken)

    none_taken : length take ≡ 0 → (stamp : ℕ) → state.is_taken k is.until stamp ≡ false
    none_taken none stamp =
        false_from_ne_true (state.is_taken k is.until stamp)
        (λ taken.
        let (low, candidate) = and_parts (nat_lt stamp is.until) (state.is_candidate (state.place_at k.places stamp)) taken in
        let it = file_at stamp candidate in
        let low_file : nat_lt it.file.rec.stamp is.until ≡ true = ap (λ (n : ℕ). nat_lt n is.until) it.is ∙ low in
        let (i, within, same) = is.all it.file it.there (and_from (nat_lt it.file.rec.stamp is.until) (is_candidate it.file) low_file (candidate_at stamp candidate it)) in
        (let no : ⊥ = omega (arith, within, none) in no))

pub unjam_is : UnjamIs
unjam_is = record {
  step_is = λ v reels o dump who call take room are is. planned v o dump are reels who call take room is;
  reached = λ v reels o dump who call blocks take room are is. is.room_is ∙ sym (room_same v o dump are reels who call is.until);
  places_are = λ v o dump blocks take room are is. taken_places v o dump are blocks take room is;
  takes = λ v o dump blocks take room are is some. some_taken v o dump are blocks take room is some;
  takes_none = λ v o dump blocks take room are is none stamp. none_taken v o dump are blocks take room is none stamp;
}
