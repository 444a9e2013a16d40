-- What a disc holds after a power loss.
-- serves: contents_survive (commit, contents), crates above
use Rattle.std.proofs.Common.{◌≡◌, ◌⊎◌, ℕ, List, [], ◌∷◌, ◌++◌, length, take, true, Some, None, refl, sym, ◌∙◌, ap, arith, inl, inr, slice_get}
use Rattle.std.specs.Prelude.{Contains, map, slice_index_or}
use Rattle.std.specs.List.{flat_map}
use Rattle.std.proofs.lemmas.List.Elements.{Contains-append_left, Contains-append_right}
use Rattle.g_copy.specs.Copy.{blocks_at}
use Rattle.g_disc.proofs.DurableLemmas.{get_or-same}
use Rattle.g_slots.specs.Layout.{current}
use Rattle.g_dirs.specs.Directory.{Directory, FileEntry, all_places, places_of}
use Rattle.g_dirs.specs.Durable.{KeepsFiles, LeavesOldOrNew}
use Rattle.g_dirs.specs.Image.{StandsFor}
use Rattle.g_dirs.proofs.QuietLemmas.{stands_same}
use Rattle.g_dirs.proofs.Surviving.{directory_survives}
use Rattle.g_disc_contents.specs.Contents.{Contents, File, Holds, contents_of, file_of}
use Rattle.g_disc_contents.specs.Durable.{CommitSurvives, ContentsSurvive}

module _ (b c : List (List ℕ)) where
  abbrev Same : ℕ → Type 0
  Same k = slice_get c k ≡ slice_get b k

  blocks_same : (places : List ℕ) → ((k : ℕ) → Contains places k → Same k) → blocks_at places c ≡ blocks_at places b
  unfolding blocks_at
  blocks_same [] all = refl
  blocks_same (p ∷ places) all =
      let head : slice_index_or c p [] ≡ slice_index_or b p [] = get_or-same b c p [] (all p (Contains-append_left (p ∷ []) places p (0, omega arith, refl))) in
      let rest : blocks_at places c ≡ blocks_at places b = blocks_same places (λ k within. all k (Contains-append_right (p ∷ []) places k within)) in
      ap (λ (x : List ℕ). x ++ flat_map (λ (i : ℕ). slice_index_or c i []) places) head ∙ ap (λ (x : List ℕ). slice_index_or b p [] ++ x) rest

  file_same : (f : FileEntry) → ((k : ℕ) → Contains (places_of f) k → Same k) → file_of (Some b) f ≡ file_of (Some c) f
  file_same (rec, None) all = refl
  file_same (rec, Some copy) all =
      ap (λ (bs : List ℕ). let f : File = record { rec = rec; online = true; bytes = Some (take copy.len bs) } in f) (sym (blocks_same copy.blocks all))

  files_same : (files : List FileEntry) → ((k : ℕ) → Contains (all_places files) k → Same k) → map (file_of (Some b)) files ≡ map (file_of (Some c)) files
  files_same [] all = refl
  files_same (f ∷ fs) all =
      ap (λ (x : File). x ∷ map (file_of (Some b)) fs) (file_same f (λ k within. all k (Contains-append_left (places_of f) (all_places fs) k within)))
      ∙ ap (λ (xs : List File). file_of (Some c) f ∷ xs) (files_same fs (λ k within. all k (Contains-append_right (places_of f) (all_places fs) k within)))

  -- if the blocks of its files are the same, a directory has the same contents
  pub contents_same : (d : Directory) → KeepsFiles d b c → contents_of (Some b) d ≡ contents_of (Some c) d
  contents_same d keeps = ap (λ (files : List File). let k : Contents = record { head = d.head; users = d.users; files = files } in k) (files_same d.files keeps)

pub contents_survive : ContentsSurvive
contents_survive side d x blocks left long held names live stands may =
    let both = directory_survives side d x blocks left long held names live stands may in
    record { directory = d; stands = both.0; are = contents_same blocks left d both.1 }

pub commit_survives : CommitSurvives
commit_survives before left d leaves = by leaves.whole
  where
    by : ((current left ≡ current before) × ((e : Directory) → StandsFor before e → KeepsFiles e before left)) ⊎ (StandsFor left d × KeepsFiles d before left)
        → (((c : Contents) → Holds before c → Holds left c) × ((c : Contents) → Holds left c → Holds before c)) ⊎ Holds left (contents_of (Some before) d)
    by (inr (stands, keeps)) = inr (record { directory = d; stands = stands; are = contents_same before left d keeps })
    by (inl (same, keeps)) = inl (
      λ c was. record {
        directory = was.directory;
        stands = stands_same before left was.directory same leaves.size was.stands;
        are = was.are ∙ contents_same before left was.directory (keeps was.directory was.stands);
      },
      λ c now.
          let stands : StandsFor before now.directory = stands_same left before now.directory (sym same) (sym leaves.size) now.stands in
          record { directory = now.directory; stands = stands; are = now.are ∙ sym (contents_same before left now.directory (keeps now.directory stands)) },
    )
