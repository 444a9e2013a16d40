-- A file is taken off the disc: its place, and what is known of the others.
-- serves: MigrateLemmas
use Rattle.std.proofs.Common.{◌≡◌, ℕ, Bool, true, false, cond, List, [], ◌∷◌, get_or, Option, Some, None, is_some, unwrap_or, refl, sym, ◌∙◌, ap, subst, inl, inr}
use Rattle.std.specs.Prelude.{◌⊎◌, ◌==◌, ◌||◌, All, Contains, if◌then◌else◌}
use Rattle.std.specs.Option.{option_map}
use Rattle.std.specs.Ordering.{nat_cmp}
use Rattle.std.specs.FinMap.{FinMap, find, get, same_map, get-insert, nat_cmp-IsAntisymmetric}
use Rattle.std.proofs.lemmas.Bool.{cases_eq, cond-false, cond-true, eq-eqb, false≢true, ne_eqb}
use Rattle.std.proofs.lemmas.Cmp.{nat_cmp_total}
use Rattle.std.proofs.lemmas.List.Elements.{All-contains, All-map}
use Rattle.g_entry.specs.declared.file_rec.TapeCopy.{TapeCopy}
use Rattle.g_plain.proofs.Found.{apart_is, here}
use Rattle.g_tree.proofs.MapLemmas.{found_one, keyed}
use Rattle.g_dirs.specs.Directory.{Directory, FileEntry}
use Rattle.g_disc_contents.specs.Contents.{File, contents_of, file_of, offline_in, taken_off}
use Rattle.g_store_model.specs.State.{Place, place_at, with_online}
use Rattle.g_store_meaning.specs.Reading.{place_of, places_of}
use Rattle.g_laws_store.specs.Places.{AreDistinct, IsOfStamp}
use Rattle.g_laws_store.proofs.PlaceLemmas.{find_mapped, get_place, place_found, stamp_of}

entry_by : Bool → Option TapeCopy → Place
entry_by online copy = record { online = online; copy = copy }

-- one number in a list is that number
one_has : (n m : ℕ) → ((n == m) || false) ≡ (n == m)
one_has n m = by_test (n == m)
  where
    by_test : (b : Bool) → (b || false) ≡ b
    by_test true = refl
    by_test false = refl

off : Bool → File → File
off b g = if b then record g { online = false; bytes = None } else g

off_is : (n : ℕ) (g : File) → offline_in (n ∷ []) g ≡ off (n == g.rec.number) g
unfolding off
off_is n g = ap (λ (b : Bool). if b then record g { online = false; bytes = None } else g) (one_has n g.rec.number)

off_stamp : (b : Bool) (g : File) → (off b g).rec.stamp ≡ g.rec.stamp
unfolding off
off_stamp true g = refl
off_stamp false g = refl

off_place : (b : Bool) (g : File) → place_of (off b g) ≡ (if b then record (place_of g) { online = false } else place_of g)
unfolding off
off_place true g = refl
off_place false g = refl

module _ (files : List File) (f : File) (distinct : AreDistinct files) (there : Contains files f) (of : All (IsOfStamp f.rec.number f.rec.stamp) files) where
  abbrev off_by : ℕ → Place → Place
  off_by q p = if q == f.rec.stamp then record p { online = false } else p

  same_test : (g : File) → IsOfStamp f.rec.number f.rec.stamp g → (f.rec.number == g.rec.number) ≡ (g.rec.stamp == f.rec.stamp)
  same_test g is = by_number (cases_eq f.rec.number g.rec.number)
    where
      by_number : (f.rec.number ≡ g.rec.number) ⊎ (f.rec.number ≡ g.rec.number → ⊥) → (f.rec.number == g.rec.number) ≡ (g.rec.stamp == f.rec.stamp)
      by_number (inl same) = eq-eqb f.rec.number g.rec.number same ∙ sym (eq-eqb g.rec.stamp f.rec.stamp (is.0 (sym same)))
      by_number (inr isnt) = ne_eqb f.rec.number g.rec.number isnt ∙ sym (ne_eqb g.rec.stamp f.rec.stamp (λ e. isnt (sym (is.1 e))))

  off_at : (g : File) → IsOfStamp f.rec.number f.rec.stamp g → place_of (offline_in (f.rec.number ∷ []) g) ≡ off_by g.rec.stamp (place_of g)
  off_at g is =
      ap place_of (off_is f.rec.number g) ∙ off_place (f.rec.number == g.rec.number) g
      ∙ ap (λ (b : Bool). if b then record (place_of g) { online = false } else place_of g) (same_test g is)

  all_stamps : All (λ g. (offline_in (f.rec.number ∷ []) g).rec.stamp ≡ g.rec.stamp) files
  all_stamps = λ i d within. let g = get_or files i d in ap (λ (h : File). h.rec.stamp) (off_is f.rec.number g) ∙ off_stamp (f.rec.number == g.rec.number) g

  at_found : (q : ℕ) (o : Option File) → find nat_cmp q (keyed stamp_of files) ≡ o → option_map place_of (option_map (offline_in (f.rec.number ∷ [])) o) ≡ option_map (off_by q) (option_map place_of o)
  at_found q None found = refl
  at_found q (Some g) found =
      let one = found_one nat_cmp_total nat_cmp-IsAntisymmetric stamp_of q files g found in
      ap (λ (p : Place). let o : Option Place = Some p in o)
      (off_at g (All-contains (IsOfStamp f.rec.number f.rec.stamp) files g of one.0) ∙ ap (λ (n : ℕ). off_by n (place_of g)) one.1)

  kept_others : (q : ℕ) (o : Option Place) → (q ≡ f.rec.stamp → ⊥) → o ≡ option_map (off_by q) o
  kept_others q None isnt = refl
  kept_others q (Some p) isnt = ap (λ (y : Place). let o : Option Place = Some y in o) (sym (cond-false (q == f.rec.stamp) (record p { online = false }) p (ne_eqb q f.rec.stamp isnt)))

  abbrev map_off : FinMap nat_cmp Place
  map_off = with_online false f.rec.stamp (places_of files)

  pub place_is : place_at (places_of files) f.rec.stamp ≡ place_of f
  unfolding entry_by
  place_is = ap (λ (o : Option Place). unwrap_or o (entry_by true None)) (place_found files f distinct there)

  looked_up : (q : ℕ) → (q ≡ f.rec.stamp) ⊎ (q ≡ f.rec.stamp → ⊥) → get map_off q ≡ option_map (off_by q) (get (places_of files) q)
  looked_up q (inl is) =
      let old = place_found files f distinct there in
      subst (λ (n : ℕ). get map_off n ≡ option_map (off_by n) (get (places_of files) n)) (sym is)
      (here nat_cmp_total nat_cmp-IsAntisymmetric (places_of files) f.rec.stamp (record (place_at (places_of files) f.rec.stamp) { online = false })
      ∙ ap (λ (x : Place). let o : Option Place = Some (record x { online = false }) in o) place_is
      ∙ ap (λ (x : Place). let o : Option Place = Some x in o) (sym (cond-true (f.rec.stamp == f.rec.stamp) (record (place_of f) { online = false }) (place_of f) (eq-eqb f.rec.stamp f.rec.stamp refl)))
      ∙ ap (option_map (off_by f.rec.stamp)) (sym old))
  looked_up q (inr isnt) =
      get-insert nat_cmp_total (places_of files) f.rec.stamp (record (place_at (places_of files) f.rec.stamp) { online = false }) q
      ∙ ap (λ (t : Bool). cond t (Some (record (place_at (places_of files) f.rec.stamp) { online = false })) (get (places_of files) q)) (apart_is nat_cmp_total nat_cmp-IsAntisymmetric q f.rec.stamp isnt)
      ∙ kept_others q (get (places_of files) q) isnt

  pub off_places : places_of (taken_off (f.rec.number ∷ []) files) ≡ map_off
  off_places =
      same_map nat_cmp_total nat_cmp-IsAntisymmetric (places_of (taken_off (f.rec.number ∷ []) files)) map_off
      (λ q.
      get_place (taken_off (f.rec.number ∷ []) files) q
      ∙ ap (option_map place_of) (find_mapped (offline_in (f.rec.number ∷ [])) q files all_stamps)
      ∙ at_found q (find nat_cmp q (keyed stamp_of files)) refl
      ∙ ap (option_map (off_by q)) (sym (get_place files q))
      ∙ sym (looked_up q (cases_eq q f.rec.stamp)))

-- bytes on the disc are exposed if the disc exposes its contents
abbrev pub TellsOnline : File → Type 0
TellsOnline f = f.online ≡ true → is_some f.bytes ≡ true

tells_entry : (held : Option (List (List ℕ))) (e : FileEntry) → is_some held ≡ true → TellsOnline (file_of held e)
tells_entry held (rec, None) told on = absurd (false≢true on)
tells_entry None (rec, Some copy) told on = absurd (false≢true told)
tells_entry (Some blocks) (rec, Some copy) told on = refl

pub tells_online : (held : Option (List (List ℕ))) (d : Directory) → is_some held ≡ true → All TellsOnline (contents_of held d).files
tells_online held d told = All-map TellsOnline (file_of held) d.files (λ i e within. tells_entry held (get_or d.files i e) told)
