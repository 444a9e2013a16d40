-- Places under the copies that a dump's own records name.
-- serves: AdoptLemmas, StartLemmas
use Rattle.std.proofs.Common.{◌≡◌, ◌≢◌, ℕ, Bool, true, false, cond, List, [], ◌∷◌, get_or, Option, Some, None, refl, sym, ◌∙◌, ap, arith, inl, inr}
use Rattle.std.specs.Prelude.{◌⊎◌, ◌==◌, ◌&&◌, All, AllPairs, Contains, map, if◌then◌else◌}
use Rattle.std.specs.List.{flat_map, list_any}
use Rattle.std.specs.Ordering.{nat_cmp, eq_by_cmp}
use Rattle.std.specs.Cmp.{eq_by_cmp_equiv}
use Rattle.std.specs.FinMap.{entries, find, from_entries, from_sorted, get, get-from_entries, nat_cmp-IsAntisymmetric}
use Rattle.std.proofs.lemmas.Bool.{and_parts, both_ways, cases_Bool, cases_eq, cond-false, cond-true, eq-eqb, eqb-true, ne_eqb}
use Rattle.std.proofs.lemmas.Cmp.{nat_cmp_total}
use Rattle.std.proofs.lemmas.List.Elements.{All-append, All-cons, All-contains, All-nil, Contains-append_right, Contains-get_or}
use Rattle.g_entry.specs.declared.file_rec.FileRec.{FileRec}
use Rattle.g_entry.specs.declared.file_rec.TapeCopy.{TapeCopy}
use Rattle.g_plain.proofs.Found.{apart_is}
use Rattle.g_tree.proofs.MapLemmas.{or_else}
use Rattle.g_tree.proofs.RuleLemmas.{one_of_key}
use Rattle.g_disc_contents.specs.Contents.{File, copy_of, with_copies, with_copy}
use Rattle.g_store_model.specs.State.{Place, copy_entry}
use Rattle.g_store_model.specs.Rising.{other_copy}
use Rattle.g_store_meaning.specs.Reading.{place_of, places_of}
use Rattle.g_laws_store.proofs.CopyLemmas.{copies_by, find_copy, no_copy_of, same_flat}
use Rattle.g_laws_store.proofs.OwnLemmas.{chosen_copy}
use Rattle.g_laws_store.proofs.PlaceLemmas.{get_by, mapped_places}
use Rattle.g_laws_store.proofs.UnjamLemmas.{any_found}
use Rattle.g_laws_store.proofs.UserLemmas.{any_there}
use Rattle.g_store.specs.Starting.{copies_named, copy_named, has_empty}

-- what is so of each copy that is named
pub named_all : (P : ℕ × TapeCopy → Type 0) (files dumped : List FileRec) → ((r : FileRec) (c : TapeCopy) → Contains dumped r → has_empty files r.stamp ≡ false → r.tape ≡ Some c → P (r.stamp, c))
    → All P (copies_named files dumped)
named_all P files [] each = All-nil P
named_all P files (r ∷ rs) each =
    All-append P (copy_named files r) (copies_named files rs) (by_test (has_empty files r.stamp) refl r.tape refl)
    (named_all P files rs (λ s c there. each s c (Contains-append_right (r ∷ []) rs s there)))
  where
    by_test : (b : Bool) → has_empty files r.stamp ≡ b → (o : Option TapeCopy) → r.tape ≡ o → All P (if b then [] else copy_entry r.stamp o)
    by_test true is o tape = All-nil P
    by_test false is None tape = All-nil P
    by_test false is (Some c) tape = All-cons P (r.stamp, c) [] (each r c (0, omega arith, refl) is tape) (All-nil P)

-- an empty file of a stamp
pub record IsEmptyOf (files : List FileRec) (stamp : ℕ) : Type 0 where
  pub rec : FileRec
  pub there : Contains files rec
  pub stamp_is : rec.stamp ≡ stamp
  pub none : rec.len ≡ 0

pub empty_found : (files : List FileRec) (stamp : ℕ) → has_empty files stamp ≡ true → IsEmptyOf files stamp
empty_found files stamp is =
    let (r, there, test) = any_found (λ (s : FileRec). (s.stamp == stamp) && (s.len == 0)) files is in
    let (same, none) = and_parts (r.stamp == stamp) (r.len == 0) test in
    record { rec = r; there = there; stamp_is = eqb-true r.stamp stamp same; none = eqb-true r.len 0 none }

pub empty_there : (files : List FileRec) (r : FileRec) (stamp : ℕ) → Contains files r → r.stamp ≡ stamp → r.len ≡ 0 → has_empty files stamp ≡ true
empty_there files r stamp there same none =
    any_there (λ (s : FileRec). (s.stamp == stamp) && (s.len == 0)) files r there
    (λ i. (eq-eqb r.stamp stamp same i) && (eq-eqb r.len 0 none i))

-- THE COPY of a stamp in a list of copies is the first of that stamp
pub copy_chosen : (cs : List (ℕ × TapeCopy)) (q : ℕ) (old : Option TapeCopy) → copy_of cs q old ≡ or_else (find nat_cmp q cs) old
copy_chosen [] q old = refl
copy_chosen (c ∷ cs) q old = at (cases_eq c.0 q) (copy_chosen cs q old)
  where
    at : (c.0 ≡ q) ⊎ (c.0 ≡ q → ⊥) → copy_of cs q old ≡ or_else (find nat_cmp q cs) old → copy_of (c ∷ cs) q old ≡ or_else (find nat_cmp q (c ∷ cs)) old
    at (inl is) rest =
        cond-true (c.0 == q) (Some c.1) (copy_of cs q old) (eq-eqb c.0 q is)
        ∙ ap (λ (b : Bool). or_else (cond b (Some c.1) (find nat_cmp q cs)) old)
        (sym (ap (λ (n : ℕ). eq_by_cmp nat_cmp q n) is ∙ (eq_by_cmp_equiv nat_cmp_total).refl q))
    at (inr isnt) rest =
        cond-false (c.0 == q) (Some c.1) (copy_of cs q old) (ne_eqb c.0 q isnt) ∙ rest
        ∙ ap (λ (b : Bool). or_else (cond b (Some c.1) (find nat_cmp q cs)) old)
        (sym (apart_is nat_cmp_total nat_cmp-IsAntisymmetric q c.0 (λ e. isnt (sym e))))

-- a dump's records compared with the existing files: a record with a file's stamp has its length
pub record GoBeside (recs dumped : List FileRec) : Type 0 where
  pub apart : AllPairs (λ r s. r.stamp ≢ s.stamp) dumped
  pub empty : All (λ r. r.len ≡ 0 → r.tape ≡ None) dumped
  pub same : (r s : FileRec) → Contains dumped r → Contains recs s → r.stamp ≡ s.stamp → r.len ≡ s.len

abbrev has_stamp : List FileRec → ℕ → Bool
has_stamp rs q = list_any (λ r. r.stamp == q) rs

-- the copies that its records name, by stamp
abbrev pub own_copies_of : List FileRec → List (ℕ × TapeCopy)
own_copies_of dumped = flat_map (λ r. copy_entry r.stamp r.tape) dumped

module _ (recs dumped : List FileRec) (beside : GoBeside recs dumped) where
  abbrev tape_named : FileRec → Option TapeCopy
  tape_named r = if has_empty recs r.stamp then None else r.tape

  named_by : copies_named recs dumped ≡ copies_by (λ (r : FileRec). r.stamp) tape_named dumped
  named_by =
      same_flat (copy_named recs) (λ (r : FileRec). copy_entry r.stamp (tape_named r)) (λ r. chosen_copy (has_empty recs r.stamp) r.stamp r.tape) dumped

  -- of a stamp that an empty file has no record names a copy
  tape_kept : (r : FileRec) → Contains dumped r → tape_named r ≡ r.tape
  tape_kept r there = by_test (has_empty recs r.stamp) refl
    where
      by_test : (b : Bool) → has_empty recs r.stamp ≡ b → (if b then None else r.tape) ≡ r.tape
      by_test true is =
          let e = empty_found recs r.stamp is in
          sym (All-contains (λ (s : FileRec). s.len ≡ 0 → s.tape ≡ None) dumped r beside.empty there (beside.same r e.rec there e.there (sym e.stamp_is) ∙ e.none))
      by_test false is = refl

  one_rec : (r s : FileRec) → Contains dumped r → Contains dumped s → r.stamp ≡ s.stamp → r ≡ s
  one_rec r s in_r in_s same = one_of_key (λ (x : FileRec). x.stamp) dumped r s beside.apart in_r in_s same

  pub same_found : (q : ℕ) → find nat_cmp q (copies_named recs dumped) ≡ get (from_entries {R = nat_cmp} (own_copies_of dumped)) q
  same_found q =
      ap (find nat_cmp q) named_by ∙ by_case (cases_Bool (has_stamp dumped q)) ∙ sym (get-from_entries nat_cmp_total (own_copies_of dumped) q)
    where
      none : has_stamp dumped q ≡ false → All (λ (s : FileRec). s.stamp ≡ q → ⊥) dumped
      none isnt i d within e =
          let s = get_or dumped i d in both_ways (has_stamp dumped q) isnt (any_there (λ (r : FileRec). r.stamp == q) dumped s (Contains-get_or dumped i d within) (eq-eqb s.stamp q e))

      by_case : (has_stamp dumped q ≡ true) ⊎ (has_stamp dumped q ≡ false)
          → find nat_cmp q (copies_by (λ (r : FileRec). r.stamp) tape_named dumped) ≡ find nat_cmp q (copies_by (λ (r : FileRec). r.stamp) (λ (r : FileRec). r.tape) dumped)
      by_case (inl is) =
          let (r, there, test) = any_found (λ (s : FileRec). s.stamp == q) dumped is in
          let same : r.stamp ≡ q = eqb-true r.stamp q test in
          find_copy (λ (s : FileRec). s.stamp) tape_named dumped q r.tape r there same
          (λ i d within e.
          let s = get_or dumped i d in
          let in_s = Contains-get_or dumped i d within in
          tape_kept s in_s ∙ ap (λ (x : FileRec). x.tape) (one_rec s r in_s there (e ∙ sym same)))
          ∙ sym (find_copy (λ (s : FileRec). s.stamp) (λ (s : FileRec). s.tape) dumped q r.tape r there same
          (λ i d within e. ap (λ (x : FileRec). x.tape) (one_rec (get_or dumped i d) r (Contains-get_or dumped i d within) there (e ∙ sym same))))
      by_case (inr isnt) =
          no_copy_of (λ (s : FileRec). s.stamp) tape_named dumped q (none isnt)
          ∙ sym (no_copy_of (λ (s : FileRec). s.stamp) (λ (s : FileRec). s.tape) dumped q (none isnt))

-- THE PLACES are those of the files, with the copies that the records name
entry_by : Bool → Option TapeCopy → Place
entry_by online copy = record { online = online; copy = copy }

module _ (files : List File) (dumped : List FileRec) (beside : GoBeside (map (λ (f : File). f.rec) files) dumped) where
  abbrev recs : List FileRec
  recs = map (λ (f : File). f.rec) files

  abbrev by_own : ℕ → Place → Place
  by_own q p = other_copy (get (from_entries {R = nat_cmp} (own_copies_of dumped)) q) p

  own_at : (g : File) → place_of (with_copy (copies_named recs dumped) g) ≡ by_own g.rec.stamp (place_of g)
  unfolding entry_by
  own_at g =
      ap (entry_by g.online)
      (copy_chosen (copies_named recs dumped) g.rec.stamp g.rec.tape ∙ ap (λ (o : Option TapeCopy). or_else o g.rec.tape) (same_found recs dumped beside g.rec.stamp))
      ∙ by_copy (get (from_entries {R = nat_cmp} (own_copies_of dumped)) g.rec.stamp)
    where
      by_copy : (o : Option TapeCopy) → entry_by g.online (or_else o g.rec.tape) ≡ other_copy o (place_of g)
      by_copy None = refl
      by_copy (Some c) = refl

  pub own_places : places_of (with_copies (copies_named recs dumped) files)
      ≡ from_sorted {R = nat_cmp} (map (λ (e : ℕ × Place). (e.0, other_copy (get (from_entries {R = nat_cmp} (own_copies_of dumped)) e.0) e.1)) (entries (places_of files)))
  own_places =
      mapped_places (with_copy (copies_named recs dumped)) by_own files
      (from_sorted {R = nat_cmp} (map (λ (e : ℕ × Place). (e.0, other_copy (get (from_entries {R = nat_cmp} (own_copies_of dumped)) e.0) e.1)) (entries (places_of files))))
      (λ i d within. refl) (λ i d within. own_at (get_or files i d)) (λ q. get_by by_own (places_of files) q)
