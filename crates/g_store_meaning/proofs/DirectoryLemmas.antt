-- Changes keep the directories of the users whom they don't concern.
-- serves: lib, StayLemmas, crates above
use Rattle.std.proofs.Common.{◌≡◌, ◌⊎◌, ℕ, suc, ◌<◌, ◌≤◌, Bool, true, false, List, [], ◌∷◌, ◌++◌, get_or, Option, None, refl, sym, ◌∙◌, ap, arith, subst, inl, inr}
use Rattle.std.specs.Prelude.{◌==◌, All, AllPairs, Contains, filter, map, nat_le, nat_lt, not, if◌then◌else◌}
use Rattle.std.proofs.lemmas.Bool.{both_ways, cases_Bool, cases_order, cond-false, cond-true, eq-eqb, eqb-false, eqb-true, false_from_ne_true, le-leb, le-ltb, lt-ltb, ne_eqb, true_from_ne_false}
use Rattle.std.proofs.lemmas.List.Elements.{All-cons, All-head, All-tail, Contains-get_or}
use Rattle.g_entry.specs.declared.file_rec.FileRec.{FileRec}
use Rattle.g_entry.specs.declared.file_rec.TapeCopy.{TapeCopy}
use Rattle.g_entry.specs.declared.user_rec.UserRec.{UserRec}
use Rattle.g_disc_contents.specs.Contents.{Contents, File, brought, copied_rec, has, offline_in, recs_in, set_rec, taken_off, with_copies, with_file, without_file}
use Rattle.g_disc_contents.specs.Facts.{noted}
use Rattle.g_incr.specs.Layout.{Dump, holds}
use Rattle.g_store_meaning.specs.Directories.{ChangesKeepOthers, ClosingKeepsDirectories, Grows, IsOwnedBy, IsOwnedIn, KeepsOthers, OthersStay}
use Rattle.g_store_meaning.specs.Meaning.{files_of}
use Rattle.g_store_meaning.specs.StoreInvariant.{IsKept, KeepsDirectories, up_to}

abbrev pub recs : List File → List FileRec
recs files = map (λ f. f.rec) files

-- one record more, of this user or of another
mine : (n : ℕ) (r : FileRec) (rs : List FileRec) → r.owner ≡ n → files_of n (r ∷ rs) ≡ r ∷ files_of n rs
mine n r rs is = cond-true (r.owner == n) (r ∷ files_of n rs) (files_of n rs) (eq-eqb r.owner n is)

another : (n : ℕ) (r : FileRec) (rs : List FileRec) → (r.owner ≡ n → ⊥) → files_of n (r ∷ rs) ≡ files_of n rs
another n r rs isnt = cond-false (r.owner == n) (r ∷ files_of n rs) (files_of n rs) (ne_eqb r.owner n isnt)

-- The same record at the front.
same_front : (n : ℕ) (r : FileRec) (rs ss : List FileRec) → files_of n rs ≡ files_of n ss → files_of n (r ∷ rs) ≡ files_of n (r ∷ ss)
same_front n r rs ss same = ap (λ (xs : List FileRec). let ys : List FileRec = if r.owner == n then r ∷ xs else xs in ys) same

-- who is among these numbers isn't one who isn't
differs : (changed : List ℕ) (m n : ℕ) → holds changed m ≡ true → holds changed n ≡ false → m ≡ n → ⊥
differs changed m n is isnt same = both_ways (holds changed n) isnt (ap (holds changed) (sym same) ∙ is)

-- WHAT IS TAKEN OFF or brought back keeps its record
offline_rec : (b : Bool) (f : File) → (if b then record f { online = false; bytes = None } else f).rec ≡ f.rec
offline_rec true f = refl
offline_rec false f = refl

offline_recs : (numbers : List ℕ) (files : List File) → recs (taken_off numbers files) ≡ recs files
offline_recs numbers [] = refl
offline_recs numbers (f ∷ fs) =
    ap (λ (r : FileRec). r ∷ recs (taken_off numbers fs)) (offline_rec (has numbers f.rec.number) f) ∙ ap (λ (rs : List FileRec). f.rec ∷ rs) (offline_recs numbers fs)

online_rec : (b : Bool) (bytes : Option (List ℕ)) (f : File) → (if b then record f { online = true; bytes = bytes } else f).rec ≡ f.rec
online_rec true bytes f = refl
online_rec false bytes f = refl

online_recs : (number : ℕ) (bytes : Option (List ℕ)) (files : List File) → recs (brought number bytes files) ≡ recs files
online_recs number bytes [] = refl
online_recs number bytes (f ∷ fs) =
    ap (λ (r : FileRec). r ∷ recs (brought number bytes fs)) (online_rec (f.rec.number == number) bytes f) ∙ ap (λ (rs : List FileRec). f.rec ∷ rs) (online_recs number bytes fs)

-- A RECORD CHANGED, and a file erased
recorded_files : (changed : List ℕ) (n : ℕ) (r : FileRec) (files : List File) → holds changed n ≡ false → holds changed r.owner ≡ true → All (IsOwnedBy r.number r.owner) files
    → files_of n (recs (set_rec r files)) ≡ files_of n (recs files)
recorded_files changed n r [] isnt is owned = refl
recorded_files changed n r (f ∷ fs) isnt is owned =
    by_number (cases_Bool (f.rec.number == r.number)) (recorded_files changed n r fs isnt is (All-tail (IsOwnedBy r.number r.owner) f fs owned))
  where
    by_number : (f.rec.number == r.number) ≡ true ⊎ (f.rec.number == r.number) ≡ false → files_of n (recs (set_rec r fs)) ≡ files_of n (recs fs)
        → files_of n (recs (set_rec r (f ∷ fs))) ≡ files_of n (recs (f ∷ fs))
    by_number (inl same) rest =
        let owner = All-head (IsOwnedBy r.number r.owner) f fs owned (eqb-true f.rec.number r.number same) in
        ap (λ (g : File). files_of n (g.rec ∷ recs (set_rec r fs))) (cond-true (f.rec.number == r.number) (record f { rec = r }) f same)
        ∙ another n r (recs (set_rec r fs)) (differs changed r.owner n is isnt) ∙ rest
        ∙ sym (another n f.rec (recs fs) (differs changed f.rec.owner n (ap (holds changed) owner ∙ is) isnt))
    by_number (inr apart) rest =
        ap (λ (g : File). files_of n (g.rec ∷ recs (set_rec r fs))) (cond-false (f.rec.number == r.number) (record f { rec = r }) f apart)
        ∙ same_front n f.rec (recs (set_rec r fs)) (recs fs) rest

erased_files : (changed : List ℕ) (n number : ℕ) (files : List File) → holds changed n ≡ false → All (IsOwnedIn number changed) files
    → files_of n (recs (without_file number files)) ≡ files_of n (recs files)
erased_files changed n number [] isnt owned = refl
erased_files changed n number (f ∷ fs) isnt owned =
    by_number (cases_Bool (f.rec.number == number)) (erased_files changed n number fs isnt (All-tail (IsOwnedIn number changed) f fs owned))
  where
    by_number : (f.rec.number == number) ≡ true ⊎ (f.rec.number == number) ≡ false → files_of n (recs (without_file number fs)) ≡ files_of n (recs fs)
        → files_of n (recs (without_file number (f ∷ fs))) ≡ files_of n (recs (f ∷ fs))
    by_number (inl same) rest =
        let owner = All-head (IsOwnedIn number changed) f fs owned (eqb-true f.rec.number number same) in
        ap (λ (gs : List File). files_of n (recs gs)) (cond-false (not (f.rec.number == number)) (f ∷ without_file number fs) (without_file number fs) (ap not same))
        ∙ rest ∙ sym (another n f.rec (recs fs) (differs changed f.rec.owner n owner isnt))
    by_number (inr apart) rest =
        ap (λ (gs : List File). files_of n (recs gs)) (cond-true (not (f.rec.number == number)) (f ∷ without_file number fs) (without_file number fs) (ap not apart))
        ∙ same_front n f.rec (recs (without_file number fs)) (recs fs) rest

-- A NEW VERSION among files in order of number
abbrev before : ℕ → List File → List File
before number files = filter (λ g. nat_lt g.rec.number number) files

abbrev behind : ℕ → List File → List File
behind number files = filter (λ g. nat_lt number g.rec.number) files

joined_files : (n : ℕ) (f : File) (bs hs : List File) → (f.rec.owner ≡ n → ⊥) → files_of n (recs (bs ++ f ∷ hs)) ≡ files_of n (recs (bs ++ hs))
joined_files n f [] hs isnt = another n f.rec (recs hs) isnt
joined_files n f (b ∷ bs) hs isnt = same_front n b.rec (recs (bs ++ f ∷ hs)) (recs (bs ++ hs)) (joined_files n f bs hs isnt)

abbrev IsAbove : ℕ → File → Type 0
IsAbove number g = number < g.rec.number

none_before : (number : ℕ) (files : List File) → All (IsAbove number) files → before number files ≡ []
none_before number [] all = refl
none_before number (g ∷ gs) all =
    let above = All-head (IsAbove number) g gs all in
    cond-false (nat_lt g.rec.number number) (g ∷ before number gs) (before number gs) (le-ltb g.rec.number number (omega (arith, above)))
    ∙ none_before number gs (All-tail (IsAbove number) g gs all)

all_behind : (number : ℕ) (files : List File) → All (IsAbove number) files → behind number files ≡ files
all_behind number [] all = refl
all_behind number (g ∷ gs) all =
    cond-true (nat_lt number g.rec.number) (g ∷ behind number gs) (behind number gs) (lt-ltb number g.rec.number (All-head (IsAbove number) g gs all))
    ∙ ap (λ (hs : List File). g ∷ hs) (all_behind number gs (All-tail (IsAbove number) g gs all))

-- in order of number
abbrev Rise : List File → Type 0
Rise files = AllPairs (λ (r s : FileRec). r.number < s.number) (recs files)

rest_rise : (g : File) (gs : List File) → Rise (g ∷ gs) → Rise gs
rest_rise g gs rise i j d less within = rise (suc i) (suc j) d (omega (arith, less)) (omega (arith, within))

above_first : (g : File) (gs : List File) (number : ℕ) → number ≤ g.rec.number → Rise (g ∷ gs) → All (IsAbove number) gs
above_first g [] number le rise = λ j d within. let no : ⊥ = omega (arith, within) in absurd no
above_first g (h ∷ hs) number le rise =
    let first : g.rec.number < h.rec.number = rise 0 1 g.rec (omega arith) (omega arith) in
    All-cons (IsAbove number) h hs (omega (arith, le, first)) (above_first h hs number (omega (arith, le, first)) (rest_rise g (h ∷ hs) rise))

parted_files : (n number : ℕ) (files : List File) → Rise files → All (λ g. g.rec.number ≡ number → g.rec.owner ≡ n → ⊥) files
    → files_of n (recs (before number files ++ behind number files)) ≡ files_of n (recs files)
parted_files n number [] rise others = refl
parted_files n number (g ∷ gs) rise others =
    by_order (cases_order g.rec.number number) (parted_files n number gs (rest_rise g gs rise) (All-tail (λ h. h.rec.number ≡ number → h.rec.owner ≡ n → ⊥) g gs others))
  where
    by_order : (g.rec.number ≡ number) ⊎ ((g.rec.number < number) ⊎ (number < g.rec.number))
        → files_of n (recs (before number gs ++ behind number gs)) ≡ files_of n (recs gs)
        → files_of n (recs (before number (g ∷ gs) ++ behind number (g ∷ gs))) ≡ files_of n (recs (g ∷ gs))
    by_order (inl same) rest =
        ap (λ (bs : List File). files_of n (recs (bs ++ behind number (g ∷ gs))))
        (cond-false (nat_lt g.rec.number number) (g ∷ before number gs) (before number gs) (le-ltb g.rec.number number (omega (arith, same))))
        ∙ ap (λ (hs : List File). files_of n (recs (before number gs ++ hs)))
        (cond-false (nat_lt number g.rec.number) (g ∷ behind number gs) (behind number gs) (le-ltb number g.rec.number (omega (arith, same))))
        ∙ rest ∙ sym (another n g.rec (recs gs) (All-head (λ h. h.rec.number ≡ number → h.rec.owner ≡ n → ⊥) g gs others same))
    by_order (inr (inl less)) rest =
        ap (λ (bs : List File). files_of n (recs (bs ++ behind number (g ∷ gs))))
        (cond-true (nat_lt g.rec.number number) (g ∷ before number gs) (before number gs) (lt-ltb g.rec.number number less))
        ∙ ap (λ (hs : List File). files_of n (recs (g ∷ before number gs ++ hs)))
        (cond-false (nat_lt number g.rec.number) (g ∷ behind number gs) (behind number gs) (le-ltb number g.rec.number (omega (arith, less))))
        ∙ same_front n g.rec (recs (before number gs ++ behind number gs)) (recs gs) rest
    by_order (inr (inr more)) rest =
        let le : number ≤ g.rec.number = omega (arith, more) in
        let above = above_first g gs number le rise in
        ap (λ (bs : List File). files_of n (recs (bs ++ behind number (g ∷ gs))))
        (cond-false (nat_lt g.rec.number number) (g ∷ before number gs) (before number gs) (le-ltb g.rec.number number le) ∙ none_before number gs above)
        ∙ ap (λ (hs : List File). files_of n (recs hs))
        (cond-true (nat_lt number g.rec.number) (g ∷ behind number gs) (behind number gs) (lt-ltb number g.rec.number more) ∙ ap (λ (hs : List File). g ∷ hs) (all_behind number gs above))

version_files : (changed : List ℕ) (n : ℕ) (f : File) (files : List File) → Rise files → holds changed n ≡ false → holds changed f.rec.owner ≡ true
    → All (IsOwnedBy f.rec.number f.rec.owner) files → files_of n (recs (with_file f files)) ≡ files_of n (recs files)
version_files changed n f files rise isnt is owned =
    joined_files n f (before f.rec.number files) (behind f.rec.number files) (differs changed f.rec.owner n is isnt)
    ∙ parted_files n f.rec.number files rise (λ i d within same mine. differs changed f.rec.owner n is isnt (sym (owned i d within same) ∙ mine))

owned_offline : (number owner : ℕ) (numbers : List ℕ) (files : List File) → All (IsOwnedBy number owner) files → All (IsOwnedBy number owner) (taken_off numbers files)
owned_offline number owner numbers [] owned = λ i d within. let no : ⊥ = omega (arith, within) in absurd no
owned_offline number owner numbers (f ∷ fs) owned =
    All-cons (IsOwnedBy number owner) (offline_in numbers f) (taken_off numbers fs)
    (subst (λ (r : FileRec). r.number ≡ number → r.owner ≡ owner) (sym (offline_rec (has numbers f.rec.number) f)) (All-head (IsOwnedBy number owner) f fs owned))
    (owned_offline number owner numbers fs (All-tail (IsOwnedBy number owner) f fs owned))

-- All users still exist.
abbrev Stays : List ℕ → List UserRec → List UserRec → Type 0
Stays changed old new = (u : UserRec) → Contains new u → holds changed u.number ≡ false → (v : UserRec) × Contains old v × (v.number ≡ u.number)

stay : (changed : List ℕ) (users : List UserRec) → Stays changed users users
stay changed users u there isnt = (u, there, refl)

pub changes_keep_others : ChangesKeepOthers
changes_keep_others = record {
  version = λ changed c f numbers numbered is owned. record {
    last = refl;
    users = stay changed c.users;
    files = λ n isnt.
        version_files changed n f (taken_off numbers c.files)
        (subst (λ (rs : List FileRec). AllPairs (λ (r s : FileRec). r.number < s.number) rs) (sym (offline_recs numbers c.files)) numbered.rising) isnt is
        (owned_offline f.rec.number f.rec.owner numbers c.files owned)
        ∙ ap (files_of n) (offline_recs numbers c.files);
  };
  erased = λ changed c number owned. record { last = refl; users = stay changed c.users; files = λ n isnt. erased_files changed n number c.files isnt owned };
  recorded = λ changed c r is owned. record { last = refl; users = stay changed c.users; files = λ n isnt. recorded_files changed n r c.files isnt is owned };
  offline = λ changed c numbers. record { last = refl; users = stay changed c.users; files = λ n isnt. ap (files_of n) (offline_recs numbers c.files) };
  back = λ changed c number bytes. record { last = refl; users = stay changed c.users; files = λ n isnt. ap (files_of n) (online_recs number bytes c.files) };
  intent = λ changed c i. record { last = refl; users = stay changed c.users; files = λ n isnt. refl };
  users = λ changed c users there. record { last = refl; users = there; files = λ n isnt. refl };
}

-- If the other users' directories are unchanged, they are still those of the dumps.
not_grown : (old new : List ℕ) (n m : ℕ) → Grows old new → n ≡ m → holds new m ≡ false → holds old n ≡ false
not_grown old new n m grows same isnt = false_from_ne_true (holds old n) (λ is. both_ways (holds new m) isnt (ap (holds new) (sym same) ∙ grows n is))

directories_stay : (old new : List ℕ) (c e : Contents) (dumps : List Dump) → Grows old new → KeepsOthers new c e → KeepsDirectories old c dumps → KeepsDirectories new e dumps
directories_stay old new c e dumps grows keeps was = record {
  each = λ some u there isnt.
      let (v, in_c, same) = keeps.users u there isnt in
      let kept = was.each (subst (λ (n : ℕ). 0 < n) keeps.last some) v in_c (not_grown old new v.number u.number grows same isnt) in
      subst (λ (rs : List FileRec). IsKept (up_to e.head.last_dump dumps) u.number rs) (sym (keeps.files u.number isnt))
      (subst (λ (n : ℕ). IsKept (up_to n dumps) u.number (files_of u.number (recs_in c))) (sym keeps.last)
      (subst (λ (n : ℕ). IsKept (up_to c.head.last_dump dumps) n (files_of n (recs_in c))) same kept));
  none = λ none u there. true_from_ne_false (holds new u.number) (λ isnt.
      let (v, in_c, same) = keeps.users u there isnt in
      both_ways (holds old v.number) (not_grown old new v.number u.number grows same isnt) (was.none (sym keeps.last ∙ none) v in_c));
}

-- New copies change no owner.
pub copied_recs : (copies : List (ℕ × TapeCopy)) (files : List File) → recs (with_copies copies files) ≡ map (copied_rec copies) (recs files)
copied_recs copies [] = refl
copied_recs copies (f ∷ fs) = ap (λ (rs : List FileRec). copied_rec copies f.rec ∷ rs) (copied_recs copies fs)

pub copied_files : (n : ℕ) (copies : List (ℕ × TapeCopy)) (rs : List FileRec) → files_of n (map (copied_rec copies) rs) ≡ map (copied_rec copies) (files_of n rs)
copied_files n copies [] = refl
copied_files n copies (r ∷ rs) = by_owner (cases_Bool (r.owner == n)) (copied_files n copies rs)
  where
    by_owner : (r.owner == n) ≡ true ⊎ (r.owner == n) ≡ false → files_of n (map (copied_rec copies) rs) ≡ map (copied_rec copies) (files_of n rs)
        → files_of n (map (copied_rec copies) (r ∷ rs)) ≡ map (copied_rec copies) (files_of n (r ∷ rs))
    by_owner (inl is) rest =
        mine n (copied_rec copies r) (map (copied_rec copies) rs) (eqb-true r.owner n is) ∙ ap (λ (ss : List FileRec). copied_rec copies r ∷ ss) rest
        ∙ ap (map (copied_rec copies)) (sym (mine n r rs (eqb-true r.owner n is)))
    by_owner (inr isnt) rest =
        another n (copied_rec copies r) (map (copied_rec copies) rs) (eqb-false r.owner n isnt) ∙ rest
        ∙ ap (map (copied_rec copies)) (sym (another n r rs (eqb-false r.owner n isnt)))

copied_stay : (n : ℕ) (copies : List (ℕ × TapeCopy)) (fs gs : List File) → files_of n (recs fs) ≡ files_of n (recs gs)
    → files_of n (recs (with_copies copies fs)) ≡ files_of n (recs (with_copies copies gs))
copied_stay n copies fs gs same =
    ap (files_of n) (copied_recs copies fs) ∙ copied_files n copies (recs fs) ∙ ap (map (copied_rec copies)) same
    ∙ sym (copied_files n copies (recs gs)) ∙ ap (files_of n) (sym (copied_recs copies gs))

pub others_stay : OthersStay
others_stay = record {
  directories = directories_stay;
  opening = λ o e touched dumps grows keeps was. record {
    each = λ u there isnt.
        let (v, in_c, same) = keeps.users u there isnt in
        let kept = was.each v in_c (not_grown o.touched touched v.number u.number grows same isnt) in
        subst (λ (rs : List FileRec). IsKept dumps u.number rs) (sym (copied_stay u.number (noted o.pins) e.files o.contents.files (keeps.files u.number isnt)))
        (subst (λ (n : ℕ). IsKept dumps n (files_of n (recs (with_copies (noted o.pins) o.contents.files)))) same kept);
  };
}

-- THE CLOSING: all dumps count
pub all_up_to : (n : ℕ) (dumps : List Dump) → All (λ d. d.number ≤ n) dumps → up_to n dumps ≡ dumps
all_up_to n [] all = refl
all_up_to n (d ∷ ds) all =
    cond-true (nat_le d.number n) (d ∷ up_to n ds) (up_to n ds) (le-leb d.number n (All-head (λ (e : Dump). e.number ≤ n) d ds all))
    ∙ ap (λ (es : List Dump). d ∷ es) (all_up_to n ds (All-tail (λ (e : Dump). e.number ≤ n) d ds all))

pub closing_keeps_directories : ClosingKeepsDirectories
closing_keeps_directories o number dumps some low was = record {
  each = λ positive u there isnt.
      subst (λ (ds : List Dump). IsKept ds u.number (files_of u.number (recs (with_copies (noted o.pins) o.contents.files))))
      (sym (all_up_to number dumps (λ i d within. low (get_or dumps i d) (Contains-get_or dumps i d within)))) (was.each u there isnt);
  none = λ none u there. let no : ⊥ = omega (arith, some, none) in absurd no;
}
