-- Devices that expose their contents and belong together represent one state.
-- serves: one_state, crates above
use Rattle.std.proofs.Common.{◌≡◌, ◌≢◌, ◌⊎◌, ℕ, zero, suc, ◌+◌, ◌-◌, ◌≤◌, true, false, List, [], ◌∷◌, ◌++◌, length, get_or, take, drop, Option, Some, None, refl, sym, ◌∙◌, ap, arith, subst, inl, inr}
use Rattle.std.specs.Prelude.{◌==◌, All, Contains, IfSome, map, is_some}
use Rattle.std.specs.Option.{ForSome, option_map}
use Rattle.std.proofs.lemmas.Bool.{cases_eq, false≢true}
use Rattle.std.proofs.lemmas.List.Elements.{All-append, All-cons, All-contains, All-filter, All-head, All-map, All-tail, Contains-append_cases, Contains-append_right}
use Rattle.std.proofs.lemmas.Option.{same_Some}
use Rattle.g_entry.specs.declared.file_rec.FileRec.{FileRec}
use Rattle.g_entry.specs.declared.file_rec.TapeCopy.{TapeCopy}
use Rattle.g_entry.specs.declared.user_rec.UserRec.{UserRec}
use Rattle.g_dirs.specs.Directory.{FileEntry, LiesSomewhere}
use Rattle.g_tape.specs.Reel.{Reel}
use Rattle.g_plain.specs.PlainTree.{Tree}
use Rattle.g_tree.proofs.LawLemmas.{same_bytes}
use Rattle.g_disc_contents.specs.Contents.{Contents, File, Holds, file_of, recs_in}
use Rattle.g_disc_contents.proofs.HoldLemmas.{holds_one}
use Rattle.g_incr.specs.Layout.{Dump, IsDump, content_at, ends, holds}
use Rattle.g_incr.specs.Plan.{numbered_from, with_number}
use Rattle.g_shelf.specs.CompletedDumps.{AreCompleted, AreNext, AreShelved, all_dumps}
use Rattle.g_shelf.proofs.OneLemmas.{completed_are_one}
use Rattle.g_store_model.specs.State as state
use Rattle.g_store_meaning.specs.Belonging.{KeepsRecord}
use Rattle.g_store_meaning.specs.Meaning.{DumpedDirectory, Gathers, HasDirectory, IsContent, IsGreatest, files_in, files_of, joined}
use Rattle.g_store_meaning.specs.OneState.{DevicesAreOne}
use Rattle.g_store_meaning.specs.Reading.{AllTold, HasText, IsRackView, IsView, ReelsTold, View, dumped_of, dumped_places, holding_of, names_of, own_of, places_of, row_of, tree_by}

-- REELS: each has one list of completed dumps
pub one_shelf : (serial : ℕ) (blocks : Option (List (List ℕ))) (ds es : List Dump) → is_some blocks ≡ true
    → ForSome blocks (λ reel. AreCompleted serial reel ds) → ForSome blocks (λ reel. AreCompleted serial reel es) → ds ≡ es
one_shelf serial None ds es told are_d are_e = absurd (false≢true told)
one_shelf serial (Some reel) ds es told are_d are_e = completed_are_one serial reel ds es (are_d reel refl) (are_e reel refl)

unfoldable pub Agree : (ℕ → List Dump) → (ℕ → List Dump) → List Reel → Type 0
Agree a b reels = (r : Reel) → Contains reels r → a r.serial ≡ b r.serial

pub shelves_agree : (a b : ℕ → List Dump) (reels : List Reel) → ReelsTold reels → AreShelved a reels → AreShelved b reels → Agree a b reels
unfolding Agree
shelves_agree a b reels told are_a are_b r there =
    one_shelf r.serial r.blocks (a r.serial) (b r.serial) (All-contains (λ s. is_some s.blocks ≡ true) reels r told.each there) (are_a.each r there) (are_b.each r there)

rest_agree : (a b : ℕ → List Dump) (r : Reel) (rs : List Reel) → Agree a b (r ∷ rs) → Agree a b rs
unfolding Agree
rest_agree a b r rs agree s there = agree s (Contains-append_right (r ∷ []) rs s there)

first_agrees : (a b : ℕ → List Dump) (r : Reel) (rs : List Reel) → Agree a b (r ∷ rs) → a r.serial ≡ b r.serial
unfolding Agree
first_agrees a b r rs agree = agree r (0, omega arith, refl)

pub same_dumps : (a b : ℕ → List Dump) (reels : List Reel) → Agree a b reels → all_dumps a reels ≡ all_dumps b reels
same_dumps a b [] agree = refl
same_dumps a b (r ∷ rs) agree =
    ap (λ (ds : List Dump). ds ++ all_dumps a rs) (first_agrees a b r rs agree) ∙ ap (λ (ds : List Dump). b r.serial ++ ds) (same_dumps a b rs (rest_agree a b r rs agree))

row_with : Reel → List Dump → state.ReelRow
row_with r dumps = row_of (λ _. dumps) r

pub same_rows : (a b : ℕ → List Dump) (reels : List Reel) → Agree a b reels → map (row_of a) reels ≡ map (row_of b) reels
unfolding row_with
same_rows a b [] agree = refl
same_rows a b (r ∷ rs) agree =
    ap (λ (x : state.ReelRow). x ∷ map (row_of a) rs) (ap (row_with r) (first_agrees a b r rs agree)) ∙ ap (λ (xs : List state.ReelRow). row_of b r ∷ xs) (same_rows a b rs (rest_agree a b r rs agree))

-- PLACES: a place of tape lies in the content of one dump at most
pub record IsOn (shelf : ℕ → List Dump) (reels : List Reel) (d : Dump) : Type 0 where
  pub reel : Reel
  pub there : Contains reels reel
  pub on : Contains (shelf reel.serial) d

pub on_reel : (shelf : ℕ → List Dump) (reels : List Reel) (d : Dump) → Contains (all_dumps shelf reels) d → IsOn shelf reels d
on_reel shelf [] d (i, within, is) = let no : ⊥ = omega (arith, within) in absurd no
on_reel shelf (r ∷ rs) d there = by_place (Contains-append_cases (shelf r.serial) (all_dumps shelf rs) d there) (on_reel shelf rs d)
  where
    by_place : Contains (shelf r.serial) d ⊎ Contains (all_dumps shelf rs) d → (Contains (all_dumps shelf rs) d → IsOn shelf rs d) → IsOn shelf (r ∷ rs) d
    by_place (inl here) more = record { reel = r; there = (0, omega arith, refl); on = here }
    by_place (inr behind) more =
        let rest = more behind in
        record { reel = rest.reel; there = Contains-append_right (r ∷ []) rs rest.reel rest.there; on = rest.on }

-- a dump among those that follow each other
record IsAmong (serial : ℕ) (reel : List (List ℕ)) (at : ℕ) (d : Dump) : Type 0 where
  on : d.serial ≡ serial
  least : at ≤ d.place
  rules : IsDump d

among : (serial : ℕ) (reel : List (List ℕ)) (at from : ℕ) (ds : List Dump) → AreNext serial reel at from ds → (d : Dump) → Contains ds d → IsAmong serial reel at d
among serial reel at from [] are d (i, within, is) = let no : ⊥ = omega (arith, within) in absurd no
among serial reel at from (e ∷ es) are d (zero, within, is) =
    let place = are.0.place in
    subst (IsAmong serial reel at) is (record { on = are.0.on; least = omega arith; rules = are.0.stands.rules })
among serial reel at from (e ∷ es) are d (suc i, within, is) =
    let place = are.0.place in
    let rest = among serial reel (ends e) (e.number + 1) es are.1 d (i, omega (arith, within), is) in
    let least = rest.least in
    record { on = rest.on; least = omega arith; rules = rest.rules }

unfoldable pub Apart : Dump → Dump → Type 0
Apart d e = (d ≡ e) ⊎ ((ends d ≤ e.place) ⊎ (ends e ≤ d.place))

apart_on : (serial : ℕ) (reel : List (List ℕ)) (at from : ℕ) (ds : List Dump) → AreNext serial reel at from ds → (d e : Dump) → Contains ds d → Contains ds e → Apart d e
unfolding Apart
apart_on serial reel at from [] are d e (i, within, is) there = let no : ⊥ = omega (arith, within) in absurd no
apart_on serial reel at from (c ∷ cs) are d e (zero, in_d, is_d) (zero, in_e, is_e) = inl (sym is_d ∙ is_e)
apart_on serial reel at from (c ∷ cs) are d e (zero, in_d, is_d) (suc j, in_e, is_e) =
    let rest = among serial reel (ends c) (c.number + 1) cs are.1 e (j, omega (arith, in_e), is_e) in
    inr (inl (subst (λ (x : Dump). ends x ≤ e.place) is_d rest.least))
apart_on serial reel at from (c ∷ cs) are d e (suc i, in_d, is_d) (zero, in_e, is_e) =
    let rest = among serial reel (ends c) (c.number + 1) cs are.1 d (i, omega (arith, in_d), is_d) in
    inr (inr (subst (λ (x : Dump). ends x ≤ d.place) is_e rest.least))
apart_on serial reel at from (c ∷ cs) are d e (suc i, in_d, is_d) (suc j, in_e, is_e) =
    apart_on serial reel (ends c) (c.number + 1) cs are.1 d e (i, omega (arith, in_d), is_d) (j, omega (arith, in_e), is_e)

-- What holds for the dumps of a reel that exposes its blocks.
pub on_told : {A : Type 0} (serial : ℕ) (blocks : Option (List (List ℕ))) (ds : List Dump) → is_some blocks ≡ true → ForSome blocks (λ reel. AreCompleted serial reel ds)
    → ((reel : List (List ℕ)) → AreCompleted serial reel ds → A) → A
on_told serial None ds told are make = absurd (false≢true told)
on_told serial (Some reel) ds told are make = make reel (are reel refl)

module _ (shelf : ℕ → List Dump) (reels : List Reel) (told : ReelsTold reels) (shelved : AreShelved shelf reels) where
  pub reel_told : (r : Reel) → Contains reels r → is_some r.blocks ≡ true
  reel_told r there = All-contains (λ s. is_some s.blocks ≡ true) reels r told.each there

  pub is_shelved : (d : Dump) (r : Reel) → Contains reels r → Contains (shelf r.serial) d → (d.serial ≡ r.serial) × IsDump d
  is_shelved d r there on =
      on_told r.serial r.blocks (shelf r.serial) (reel_told r there) (shelved.each r there)
      (λ reel are. let is = among r.serial reel 0 0 (shelf r.serial) are.are d on in (is.on, is.rules))

  dump_rules : (d : Dump) → Contains (all_dumps shelf reels) d → IsDump d
  dump_rules d there = let on = on_reel shelf reels d there in (is_shelved d on.reel on.there on.on).1

  -- two dumps of one reel
  two_apart : (d e : Dump) → Contains (all_dumps shelf reels) d → Contains (all_dumps shelf reels) e → d.serial ≡ e.serial → Apart d e
  two_apart d e in_d in_e same =
      let on_d = on_reel shelf reels d in_d in
      let on_e = on_reel shelf reels e in_e in
      let serial_d = (is_shelved d on_d.reel on_d.there on_d.on).0 in
      let serial_e = (is_shelved e on_e.reel on_e.there on_e.on).0 in
      let r = on_d.reel in
      let here : Contains (shelf r.serial) e = subst (λ (n : ℕ). Contains (shelf n) e) (sym serial_e ∙ sym same ∙ serial_d) on_e.on in
      on_told r.serial r.blocks (shelf r.serial) (reel_told r on_d.there) (shelved.each r on_d.there)
      (λ reel are. apart_on r.serial reel 0 0 (shelf r.serial) are.are d e on_d.on here)

-- DUMPS that keep their rules, two on one reel apart
pub record AreRight (dumps : List Dump) : Type 0 where
  pub rules : (d : Dump) → Contains dumps d → IsDump d
  pub two : (d e : Dump) → Contains dumps d → Contains dumps e → d.serial ≡ e.serial → Apart d e

pub are_right : (shelf : ℕ → List Dump) (reels : List Reel) → ReelsTold reels → AreShelved shelf reels → AreRight (all_dumps shelf reels)
are_right shelf reels told shelved = record { rules = dump_rules shelf reels told shelved; two = two_apart shelf reels told shelved }

-- A file of the disc: online with exposed bytes, or offline with a copy.
pub record LiesTold (f : File) : Type 0 where
  pub lies : (is_some f.bytes ≡ true) ⊎ ((f.online ≡ false) × (is_some f.rec.tape ≡ true))

module _ (dumps : List Dump) (right : AreRight dumps) where
  no_text : (text : List ℕ) → length text ≡ 0 → text ≡ []
  no_text [] none = refl
  no_text (b ∷ bs) none = let no : ⊥ = omega (arith, none) in absurd no

  pub one_content : (c : TapeCopy) (x y : List ℕ) → length x ≡ length y → IsContent dumps c x → IsContent dumps c y → x ≡ y
  unfolding Apart
  one_content c x y long in_x in_y = by_length (cases_eq (length x) 0)
    where
      by_place : (length x ≡ 0 → ⊥) → Apart in_x.dump in_y.dump → x ≡ y
      by_place some (inl same) =
          sym in_x.text_is
          ∙ ap (λ (d : Dump). take (length x) (joined (drop (c.first - content_at d) d.content))) same
          ∙ ap (λ (n : ℕ). take n (joined (drop (c.first - content_at in_y.dump) in_y.dump.content))) long
          ∙ in_y.text_is
      by_place some (inr (inl before)) =
          let to = in_x.to in let from = in_y.from in
          let no : ⊥ = omega (arith, some) in absurd no
      by_place some (inr (inr before)) =
          let to = in_y.to in let from = in_x.from in
          let no : ⊥ = omega (arith, some, long) in absurd no

      by_length : (length x ≡ 0) ⊎ (length x ≡ 0 → ⊥) → x ≡ y
      by_length (inl none) = no_text x none ∙ sym (no_text y (sym long ∙ none))
      by_length (inr some) = by_place some (right.two in_x.dump in_y.dump in_x.there in_y.there (in_x.reel ∙ sym in_y.reel))

  -- TEXTS: a record that has a copy, or no bytes, has one text
  one_text : (len : ℕ) (tape : Option TapeCopy) (x y : List ℕ) → (len ≢ 0 → is_some tape ≡ true) → length x ≡ len → length y ≡ len
      → IfSome tape (λ c. IsContent dumps c x) → IfSome tape (λ c. IsContent dumps c y) → x ≡ y
  one_text len (Some c) x y copied long_x long_y in_x in_y = one_content c x y (long_x ∙ sym long_y) in_x in_y
  one_text len None x y copied long_x long_y in_x in_y = by_length (cases_eq len 0)
    where
      by_length : (len ≡ 0) ⊎ (len ≡ 0 → ⊥) → x ≡ y
      by_length (inl none) = no_text x (long_x ∙ none) ∙ sym (no_text y (long_y ∙ none))
      by_length (inr some) = absurd (false≢true (copied some))

  text_of : (all : Type 0) (f : File) (x y : List ℕ) → all → LiesTold f → HasText all x dumps f → HasText all y dumps f → x ≡ y
  text_of all f x y tell lies is_x is_y = by_place lies.lies
    where
      by_bytes : (bytes : Option (List ℕ)) → is_some bytes ≡ true → ForSome bytes (λ b. b ≡ x) → ForSome bytes (λ b. b ≡ y) → x ≡ y
      by_bytes (Some b) some to_x to_y = sym (to_x b refl) ∙ to_y b refl
      by_bytes None some to_x to_y = absurd (false≢true some)

      by_place : (is_some f.bytes ≡ true) ⊎ ((f.online ≡ false) × (is_some f.rec.tape ≡ true)) → x ≡ y
      by_place (inl some) = by_bytes f.bytes some is_x.bytes is_y.bytes
      by_place (inr (offline, copied)) = one_text f.rec.len f.rec.tape x y (λ some. copied) is_x.len is_y.len (is_x.tape tell offline) (is_y.tape tell offline)

-- Each file of a disc that exposes its blocks is online or has a copy.
lies_told : (blocks : List (List ℕ)) (f : FileEntry) → LiesSomewhere f → LiesTold (file_of (Some blocks) f)
lies_told blocks (rec, Some copy) is = record { lies = inl refl }
lies_told blocks (rec, None) is = record { lies = inr (refl, on_tape is.lies) }
  where
    on_tape : (false ≡ true) ⊎ (is_some rec.tape ≡ true) → is_some rec.tape ≡ true
    on_tape (inl isnt) = absurd (false≢true isnt)
    on_tape (inr is_there) = is_there

-- THE DUMPED DIRECTORY: dumps with distinct numbers give one
unfoldable pub IsApart : List Dump → Type 0
IsApart dumps = (d e : Dump) → Contains dumps d → Contains dumps e → d.number ≡ e.number → d ≡ e

same_last : (dumps : List Dump) → IsApart dumps → (d e : Dump) → IsGreatest dumps d → IsGreatest dumps e → d ≡ e
unfolding IsApart
same_last dumps apart d e is_d is_e =
    let one = is_d.greatest e is_e.there in
    let two = is_e.greatest d is_d.there in
    apart d e is_d.there is_e.there (omega arith)

same_holder : (dumps : List Dump) → IsApart dumps → (user : ℕ) (d e : Dump) → HasDirectory dumps user d → HasDirectory dumps user e → d ≡ e
unfolding IsApart
same_holder dumps apart user d e is_d is_e =
    let one = is_d.newest e is_e.there is_e.held in
    let two = is_e.newest d is_d.there is_d.held in
    apart d e is_d.there is_e.there (omega arith)

pub same_gathered : (dumps : List Dump) → IsApart dumps → (users : List UserRec) (a b : List FileRec) → Gathers dumps users a → Gathers dumps users b → a ≡ b
same_gathered dumps apart [] a b is_a is_b = is_a ∙ sym is_b
same_gathered dumps apart (u ∷ us) a b (d, has_d, rest_d, are_d, more_d) (e, has_e, rest_e, are_e, more_e) =
    let one = same_holder dumps apart u.number d e has_d has_e in
    let rest = same_gathered dumps apart us rest_d rest_e more_d more_e in
    are_d ∙ ap (λ (x : Dump). files_of u.number x.files ++ rest_d) one ∙ ap (λ (rs : List FileRec). files_of u.number e.files ++ rs) rest ∙ sym are_e

-- each record that is gathered has a copy, or no bytes
IsCopied : FileRec → Type 0
IsCopied r = r.len ≢ 0 → is_some r.tape ≡ true

all_copied : (dumps : List Dump) → ((d : Dump) → Contains dumps d → IsDump d) → (users : List UserRec) (a : List FileRec) → Gathers dumps users a → All IsCopied a
unfolding IsCopied
all_copied dumps rules [] a is = subst (All IsCopied) (sym is) (λ i d within. let no : ⊥ = omega (arith, within) in absurd no)
all_copied dumps rules (u ∷ us) a (d, has_d, rest, are, more) =
    subst (All IsCopied) (sym are) (All-append IsCopied (files_of u.number d.files) rest
    (All-filter (λ r. r.owner == u.number) IsCopied d.files (rules d has_d.there).copied) (all_copied dumps rules us rest more))

-- numbers change nothing of that
numbered_copied : (n : ℕ) (rs : List FileRec) → All IsCopied rs → All IsCopied (numbered_from n rs)
unfolding IsCopied
numbered_copied n [] all = λ i d within. let no : ⊥ = omega (arith, within) in absurd no
numbered_copied n (r ∷ rs) all =
    All-cons IsCopied (with_number n r) (numbered_from (n + 1) rs) (All-head IsCopied r rs all) (numbered_copied (n + 1) rs (All-tail IsCopied r rs all))

-- The parts of a dumped directory that determine its state.
unfoldable pub dumped_parts : (ℕ → List ℕ) → Dump → List FileRec → state.Dumped
dumped_parts text last gathered = record {
  number = last.number;
  tree = tree_by text last.users (numbered_from 0 gathered) last.next;
  places = dumped_places (numbered_from 0 gathered);
  own = own_of last;
}

-- the texts of all records are the same
pub AgreeOn : (ℕ → List ℕ) → (ℕ → List ℕ) → List FileRec → Type 0
AgreeOn x y files = (r : FileRec) → Contains files r → x r.stamp ≡ y r.stamp

pub same_tree : (x y : ℕ → List ℕ) (users : List UserRec) (files : List FileRec) (next : ℕ) → AgreeOn x y files → tree_by x users files next ≡ tree_by y users files next
unfolding AgreeOn
same_tree x y users files next agree = same_bytes users files (λ r. y r.stamp) (λ r. x r.stamp) next agree

abbrev pub KeepsIn : (dumps : List Dump) → (ℕ → List ℕ) → DumpedDirectory dumps → Type 0
KeepsIn dumps text t = All (λ r. KeepsRecord (text r.stamp) dumps r) (files_in t)

-- No tree is dumped if no directory has all its bytes.
abbrev pub NoneIn : (dumps : List Dump) → Option (DumpedDirectory dumps) → Type 0
NoneIn dumps t = t ≡ None → (u : DumpedDirectory dumps) (text : ℕ → List ℕ) → KeepsIn dumps text u → ⊥

module _ (dumps : List Dump) (right : AreRight dumps) (apart : IsApart dumps) where
  agree_on : (x y : ℕ → List ℕ) (t u : DumpedDirectory dumps) → files_in t ≡ files_in u → KeepsIn dumps x t → KeepsIn dumps y u
      → AgreeOn x y (files_in t)
  unfolding AgreeOn IsCopied
  agree_on x y t u same keeps_x keeps_y r there =
      let copied = All-contains IsCopied (files_in t) r (numbered_copied 0 t.gathered (all_copied dumps right.rules t.last.users t.gathered t.gathers)) there in
      let of_x = All-contains (λ s. KeepsRecord (x s.stamp) dumps s) (files_in t) r keeps_x there in
      let of_y = All-contains (λ s. KeepsRecord (y s.stamp) dumps s) (files_in u) r keeps_y (subst (λ (rs : List FileRec). Contains rs r) same there) in
      one_text dumps right r.len r.tape (x r.stamp) (y r.stamp) copied of_x.len of_y.len of_x.copy of_y.copy

  same_directory : (x y : ℕ → List ℕ) (t u : DumpedDirectory dumps) → KeepsIn dumps x t → KeepsIn dumps y u → dumped_of x t ≡ dumped_of y u
  unfolding dumped_parts
  same_directory x y t u keeps_x keeps_y =
      let last = same_last dumps apart t.last u.last t.greatest u.greatest in
      let gathered = same_gathered dumps apart u.last.users t.gathered u.gathered
      (subst (λ (d : Dump). Gathers dumps d.users t.gathered) last t.gathers) u.gathers in
      let texts = agree_on x y t u (ap (numbered_from 0) gathered) keeps_x keeps_y in
      let tree = same_tree x y t.last.users (files_in t) t.last.next texts in
      ap (λ (made : Tree). let d : state.Dumped = record { number = t.last.number; tree = made; places = dumped_places (files_in t); own = own_of t.last } in d) tree
      ∙ ap (λ (d : Dump). dumped_parts y d t.gathered) last
      ∙ ap (λ (rs : List FileRec). dumped_parts y u.last rs) gathered

  -- none, or one
  same_dumped : (x y : ℕ → List ℕ) (t u : Option (DumpedDirectory dumps))
      → IfSome t (KeepsIn dumps x) → IfSome u (KeepsIn dumps y) → NoneIn dumps t → NoneIn dumps u
      → option_map (dumped_of x) t ≡ option_map (dumped_of y) u
  same_dumped x y None None is_t is_u none_t none_u = refl
  same_dumped x y None (Some u) is_t is_u none_t none_u = let no : ⊥ = none_t refl u y is_u in absurd no
  same_dumped x y (Some t) None is_t is_u none_t none_u = let no : ⊥ = none_u refl t x is_t in absurd no
  same_dumped x y (Some t) (Some u) is_t is_u none_t none_u = ap (λ (d : state.Dumped). Some d) (same_directory x y t u is_t is_u)

  -- The same for equal lists of dumps.
  pub over_dumps : (x y : ℕ → List ℕ) (a b : List Dump) → dumps ≡ a → dumps ≡ b → (t : Option (DumpedDirectory a)) (u : Option (DumpedDirectory b))
      → IfSome t (KeepsIn a x) → IfSome u (KeepsIn b y) → NoneIn a t → NoneIn b u → option_map (dumped_of x) t ≡ option_map (dumped_of y) u
  over_dumps x y a b is_a is_b t u keeps_t keeps_u none_t none_u =
      subst (λ (ds : List Dump). (t : Option (DumpedDirectory ds)) → IfSome t (KeepsIn ds x) → NoneIn ds t → option_map (dumped_of x) t ≡ option_map (dumped_of y) u) is_a
      (λ t keeps_t none_t.
      subst (λ (ds : List Dump). (u : Option (DumpedDirectory ds)) → IfSome u (KeepsIn ds y) → NoneIn ds u → option_map (dumped_of x) t ≡ option_map (dumped_of y) u) is_b
      (λ u keeps_u none_u. same_dumped x y t u keeps_t keeps_u none_t none_u) u keeps_u none_u)
      t keeps_t none_t

  -- The texts of the files of a disc that exposes its blocks.
  pub texts_on : (all : Type 0) (x y : ℕ → List ℕ) (blocks : List (List ℕ)) (c : Contents) → all → Holds blocks c
      → All (λ f. HasText all (x f.rec.stamp) dumps f) c.files → All (λ f. HasText all (y f.rec.stamp) dumps f) c.files → AgreeOn x y (recs_in c)
  unfolding AgreeOn
  texts_on all x y blocks c tell is has_x has_y r there =
      let lie : All LiesTold c.files =
      subst (λ (k : Contents). All LiesTold k.files) (sym is.are)
      (All-map LiesTold (file_of (Some blocks)) is.directory.files
      (λ i d within. lies_told blocks (get_or is.directory.files i d) (is.stands.rules.lies i d within))) in
      let each : All (λ f. x f.rec.stamp ≡ y f.rec.stamp) c.files =
      λ i d within. let f = get_or c.files i d in text_of dumps right all f (x f.rec.stamp) (y f.rec.stamp) tell (lie i d within) (has_x i d within) (has_y i d within) in
      All-contains (λ s. x s.stamp ≡ y s.stamp) (recs_in c) r (All-map (λ s. x s.stamp ≡ y s.stamp) (λ f. f.rec) c.files each) there

-- WHAT A DISC HOLDS
record IsOf (held : Option (List (List ℕ))) (reels : List Reel) (v : View) (c : Contents) : Type 0 where
  blocks : List (List ℕ)
  is : held ≡ Some blocks
  holds : Holds blocks c
  view : IsView held reels c v

same_held : (held : Option (List (List ℕ))) (reels : List Reel) (v w : View) (c e : Contents) → IsOf held reels v c → IsOf held reels w e → c ≡ e
same_held held reels v w c e of_c of_e =
    let blocks = same_Some of_e.blocks of_c.blocks (sym of_e.is ∙ of_c.is) in
    holds_one of_c.blocks c e of_c.holds (subst (λ (bs : List (List ℕ)). Holds bs e) blocks of_e.holds)

holding_parts : Tree → Contents → state.Holding
holding_parts tree c = record { tree = tree; places = places_of c.files; last = c.head.last_dump; intent = c.head.intent; kept = names_of [] }

module _ (held : Option (List (List ℕ))) (reels : List Reel) (all : AllTold held reels) (v w : View)
    (of_v : IsRackView held reels v) (of_w : IsRackView held reels w) (apart : IsApart (all_dumps v.shelf reels)) where
  agree : Agree v.shelf w.shelf reels
  agree = shelves_agree v.shelf w.shelf reels all.each of_v.shelved of_w.shelved

  dumps_w : all_dumps v.shelf reels ≡ w.dumps
  dumps_w = same_dumps v.shelf w.shelf reels agree ∙ sym of_w.all

  same_holding : (c e : Contents) → IsOf held reels v c → IsOf held reels w e → holding_of v.text [] c ≡ holding_of w.text [] e
  unfolding holding_parts
  same_holding c e of_c of_e =
      let one = same_held held reels v w c e of_c of_e in
      let has_v = subst (λ (ds : List Dump). All (λ f. HasText (AllTold held reels) (v.text f.rec.stamp) ds f) c.files) of_v.all of_c.view.files in
      let has_w =
      subst (λ (ds : List Dump). All (λ f. HasText (AllTold held reels) (w.text f.rec.stamp) ds f) c.files) (sym dumps_w)
      (subst (λ (k : Contents). All (λ f. HasText (AllTold held reels) (w.text f.rec.stamp) w.dumps f) k.files) (sym one) of_e.view.files) in
      let texts = texts_on (all_dumps v.shelf reels) (are_right v.shelf reels all.each of_v.shelved) apart (AllTold held reels) v.text w.text of_c.blocks c all of_c.holds has_v has_w in
      ap (λ (tree : Tree). holding_parts tree c) (same_tree v.text w.text c.users (recs_in c) c.head.next_stamp texts)
      ∙ ap (holding_of w.text []) one

  Holding : View → Option Contents → Type 0
  Holding x c = IfSome c (IsOf held reels x) × (is_some c ≡ false → (blocks : List (List ℕ)) (k : Contents) → held ≡ Some blocks → Holds blocks k → ⊥)

  same_holdings : (c e : Option Contents) → Holding v c → Holding w e → option_map (holding_of v.text []) c ≡ option_map (holding_of w.text []) e
  unfolding Holding
  same_holdings None None of_c of_e = refl
  same_holdings None (Some e) of_c of_e = let no : ⊥ = of_c.1 refl of_e.0.blocks e of_e.0.is of_e.0.holds in absurd no
  same_holdings (Some c) None of_c of_e = let no : ⊥ = of_e.1 refl of_c.0.blocks c of_c.0.is of_c.0.holds in absurd no
  same_holdings (Some c) (Some e) of_c of_e = ap (λ (h : state.Holding). Some h) (same_holding c e of_c.0 of_e.0)

-- The parts of the state of devices, for a disc.
is_of : (held : Option (List (List ℕ))) (reels : List Reel) (v : View) (c : Option Contents)
    → IfSome c (λ k. (blocks : List (List ℕ)) × (held ≡ Some blocks) × Holds blocks k × IsView held reels k v) → IfSome c (IsOf held reels v)
is_of held reels v None is = tt
is_of held reels v (Some c) (blocks, is, holds, view) = record { blocks = blocks; is = is; holds = holds; view = view }

state_parts : ℕ → Option state.Holding → List state.ReelRow → Option state.Dumped → state.State
state_parts size holding rows dumped = record { up = false; size = size; holding = holding; reels = rows; dumped = dumped; open_dump = None }

pub devices_are_one : DevicesAreOne
unfolding state_parts Holding IsApart
devices_are_one size held reels s t all belongs at_s at_t =
    let v = at_s.view in
    let w = at_t.view in
    let shelf = shelves_agree belongs.shelf v.shelf reels all.each belongs.shelved at_s.rack.shelved in
    let apart = subst IsApart (same_dumps belongs.shelf v.shelf reels shelf) belongs.rack.apart in
    let rows = same_rows v.shelf w.shelf reels (agree held reels all v w at_s.rack at_t.rack apart) in
    let holding = same_holdings held reels all v w at_s.rack at_t.rack apart at_s.contents at_t.contents
    (is_of held reels v at_s.contents at_s.is, at_s.none) (is_of held reels w at_t.contents at_t.is, at_t.none) in
    let dumped = over_dumps (all_dumps v.shelf reels) (are_right v.shelf reels all.each at_s.rack.shelved) apart v.text w.text v.dumps w.dumps (sym at_s.rack.all) (dumps_w held reels all v w at_s.rack at_t.rack apart)
    v.dumped w.dumped (at_s.rack.dumped all) (at_t.rack.dumped all) (at_s.rack.none all) (at_t.rack.none all) in
    at_s.state_is
    ∙ ap (λ (h : Option state.Holding). state_parts size h (map (row_of v.shelf) reels) (option_map (dumped_of v.text) v.dumped)) holding
    ∙ ap (λ (rs : List state.ReelRow). state_parts size (option_map (holding_of w.text []) at_t.contents) rs (option_map (dumped_of v.text) v.dumped)) rows
    ∙ ap (λ (d : Option state.Dumped). state_parts size (option_map (holding_of w.text []) at_t.contents) (map (row_of w.shelf) reels) d) dumped
    ∙ sym at_t.state_is
