-- Files that are taken off, brought back, or inserted among others.
-- serves: CallLemmas, PutLemmas, crates above
use Rattle.std.proofs.Common.{◌≡◌, ℕ, Bool, true, false, List, [], ◌∷◌, ◌++◌, get_or, Option, None, refl, sym, ◌∙◌, ap}
use Rattle.std.specs.Prelude.{◌==◌, All, Contains, filter, map, nat_lt, if◌then◌else◌}
use Rattle.std.proofs.lemmas.List.{map-append}
use Rattle.std.proofs.lemmas.List.Elements.{Contains-get_or}
use Rattle.g_entry.specs.declared.file_rec.FileRec.{FileRec}
use Rattle.g_tree.specs.State as records
use Rattle.g_tree.proofs.ListLemmas.{filter_of_map}
use Rattle.g_tree.proofs.MapLemmas.{AreApart}
use Rattle.g_tree.proofs.RuleLemmas.{one_of_key}
use Rattle.g_disc_contents.specs.Contents.{File, brought, has, taken_off, with_file}
use Rattle.g_laws_store.specs.Places.{AreDistinct, IsOfStamp}

-- records of files that are taken off and brought back
pub offline_rec : (b : Bool) (f : File) → (if b then record f { online = false; bytes = None } else f).rec ≡ f.rec
offline_rec true f = refl
offline_rec false f = refl

pub offline_recs : (numbers : List ℕ) (files : List File) → map (λ (f : File). f.rec) (taken_off numbers files) ≡ map (λ (f : File). f.rec) files
offline_recs numbers [] = refl
offline_recs numbers (f ∷ fs) =
    ap (λ (r : FileRec). r ∷ map (λ (g : File). g.rec) (taken_off numbers fs)) (offline_rec (has numbers f.rec.number) f) ∙ ap (λ (rs : List FileRec). f.rec ∷ rs) (offline_recs numbers fs)

online_rec : (b : Bool) (bytes : Option (List ℕ)) (f : File) → (if b then record f { online = true; bytes = bytes } else f).rec ≡ f.rec
online_rec true bytes f = refl
online_rec false bytes f = refl

pub online_recs : (number : ℕ) (bytes : Option (List ℕ)) (files : List File) → map (λ (f : File). f.rec) (brought number bytes files) ≡ map (λ (f : File). f.rec) files
online_recs number bytes [] = refl
online_recs number bytes (f ∷ fs) =
    ap (λ (r : FileRec). r ∷ map (λ (g : File). g.rec) (brought number bytes fs)) (online_rec (f.rec.number == number) bytes f) ∙ ap (λ (rs : List FileRec). f.rec ∷ rs) (online_recs number bytes fs)

-- the file of a number has its stamp, and no other
pub of_stamp : (files : List File) (f : File) → AreDistinct files → AreApart (λ (g : File). g.rec.number) files → Contains files f → All (IsOfStamp f.rec.number f.rec.stamp) files
of_stamp files f distinct numbered there i d within =
    let g = get_or files i d in
    let in_files = Contains-get_or files i d within in (
      λ same. ap (λ (h : File). h.rec.stamp) (one_of_key (λ (h : File). h.rec.number) files g f numbered in_files there same),
      λ same. ap (λ (h : File). h.rec.number) (one_of_key (λ (h : File). h.rec.stamp) files g f distinct in_files there same),
    )

-- a file inserted among others, by their records
pub recs_with : (f : File) (files : List File) → map (λ (g : File). g.rec) (with_file f files) ≡ records.with_file f.rec (map (λ (g : File). g.rec) files)
recs_with f files =
    map-append (λ (g : File). g.rec) (filter (λ (g : File). nat_lt g.rec.number f.rec.number) files) (f ∷ filter (λ (g : File). nat_lt f.rec.number g.rec.number) files)
    ∙ (λ i.
    sym (filter_of_map (λ (r : FileRec). nat_lt r.number f.rec.number) (λ (g : File). g.rec) files) i
    ++ f.rec ∷ sym (filter_of_map (λ (r : FileRec). nat_lt f.rec.number r.number) (λ (g : File). g.rec) files) i)
