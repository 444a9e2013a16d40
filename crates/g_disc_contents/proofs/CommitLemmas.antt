-- What a disc holds after a commit.
-- serves: writes_hold (commit), crates above
use Rattle.std.proofs.Common.{◌≡◌, ℕ, ◌+◌, ◌-◌, ◌≤◌, List, [], ◌∷◌, ◌++◌, Some, None, length, take, true, refl, sym, ◌∙◌, ap, subst, inl, inr, arith}
use Rattle.std.specs.Prelude.{◌⊎◌, Contains, All, map, slice_index_or}
use Rattle.std.specs.List.{flat_map}
use Rattle.std.proofs.lemmas.List.{get_or-drop}
use Rattle.std.proofs.lemmas.List.Elements.{All-contains, All-contains_itself, All-weaker, All-head, All-tail, Contains-append_left, Contains-append_right}
use Rattle.g_blocks.specs.Pool.{IsInArea}
use Rattle.g_copy.specs.Copy.{blocks_at}
use Rattle.g_slots.specs.Layout.{copy_area, current}
use Rattle.g_dirs.specs.Directory.{Directory, FileEntry, IsDirectory, all_places, places_of}
use Rattle.g_dirs.specs.Image.{StandsFor, IsImage}
use Rattle.g_disc_contents.specs.Contents.{Contents, File, Holds, contents_of, file_of}
use Rattle.g_disc_contents.specs.QuietWrites.{CommitHolds}

-- a block of the copy area is read from it
same_block : (before after : List (List ℕ)) (k : ℕ) → copy_area after ≡ copy_area before → 2177 ≤ k → slice_index_or after k [] ≡ slice_index_or before k []
unfolding copy_area
same_block before after k same le =
    let at : 2177 + (k - 2177) ≡ k = omega arith in
    ap (λ (i : ℕ). slice_index_or after i []) (sym at) ∙ sym (get_or-drop 2177 after (k - 2177) []) ∙ ap (λ (bs : List (List ℕ)). slice_index_or bs (k - 2177) []) same
    ∙ get_or-drop 2177 before (k - 2177) [] ∙ ap (λ (i : ℕ). slice_index_or before i []) at

same_blocks : (size : ℕ) (before after : List (List ℕ)) (places : List ℕ) → copy_area after ≡ copy_area before → All (IsInArea size) places → blocks_at places after ≡ blocks_at places before
unfolding blocks_at
same_blocks size before after [] same area = refl
same_blocks size before after (k ∷ ks) same area =
    let low = (All-head (IsInArea size) k ks area).low in
    ap (λ (b : List ℕ). b ++ flat_map (λ (i : ℕ). slice_index_or after i []) ks) (same_block before after k same low)
    ∙ ap (λ (bs : List ℕ). slice_index_or before k [] ++ bs) (same_blocks size before after ks same (All-tail (IsInArea size) k ks area))

left_part : (P : ℕ → Type 0) (xs ys : List ℕ) → All P (xs ++ ys) → All P xs
left_part P xs ys all = All-weaker (Contains xs) P (λ x c. All-contains P (xs ++ ys) x all (Contains-append_left xs ys x c)) xs (All-contains_itself xs)

right_part : (P : ℕ → Type 0) (xs ys : List ℕ) → All P (xs ++ ys) → All P ys
right_part P xs ys all = All-weaker (Contains ys) P (λ x c. All-contains P (xs ++ ys) x all (Contains-append_right xs ys x c)) ys (All-contains_itself ys)

same_file : (size : ℕ) (before after : List (List ℕ)) (f : FileEntry) → copy_area after ≡ copy_area before → All (IsInArea size) (places_of f) → file_of (Some before) f ≡ file_of (Some after) f
same_file size before after (rec, None) same area = refl
same_file size before after (rec, Some copy) same area =
    ap (λ (bs : List ℕ). let f : File = record { rec = rec; online = true; bytes = Some (take copy.len bs) } in f) (sym (same_blocks size before after copy.blocks same area))

same_files : (size : ℕ) (before after : List (List ℕ)) (files : List FileEntry) → copy_area after ≡ copy_area before → All (IsInArea size) (all_places files)
    → map (file_of (Some before)) files ≡ map (file_of (Some after)) files
same_files size before after [] same area = refl
same_files size before after (f ∷ fs) same area =
    ap (λ (x : File). x ∷ map (file_of (Some before)) fs) (same_file size before after f same (left_part (IsInArea size) (places_of f) (all_places fs) area))
    ∙ ap (λ (xs : List File). file_of (Some after) f ∷ xs) (same_files size before after fs same (right_part (IsInArea size) (places_of f) (all_places fs) area))

same_contents : (size : ℕ) (before after : List (List ℕ)) (d : Directory) → copy_area after ≡ copy_area before → All (IsInArea size) (all_places d.files)
    → contents_of (Some before) d ≡ contents_of (Some after) d
same_contents size before after d same area =
    ap (λ (files : List File). let c : Contents = record { head = d.head; users = d.users; files = files } in c) (same_files size before after d.files same area)

pub commit_holds : CommitHolds
commit_holds before after d c commit rules was = by_half commit.whole
  where
    by_half : ((current after ≡ current before) ⊎ StandsFor after d) → Holds after c ⊎ Holds after (contents_of (Some before) d)
    by_half (inl old) = inl (record {
      directory = was.directory;
      stands = record {
        format = was.stands.format;
        image = subst (IsImage was.stands.format was.directory) (sym old) was.stands.image;
        records = was.stands.records;
        rules = subst (λ (n : ℕ). IsDirectory n was.directory) (sym commit.size) was.stands.rules;
      };
      are = was.are ∙ same_contents (length before) before after was.directory commit.copies was.stands.rules.area;
    })
    by_half (inr new) = inr (record {
      directory = d;
      stands = new;
      are = same_contents (length before) before after d commit.copies rules.area;
    })
