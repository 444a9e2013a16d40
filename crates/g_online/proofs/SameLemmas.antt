-- What is read at places that weren't written.
-- serves: BegunLemmas, BesideLemmas, BringStepLemmas, BytesLemmas, PinLemmas, PutStepLemmas, ReadyLemmas, StepLemmas, UnjamLemmas
use Rattle.std.proofs.Common.{◌≡◌, ℕ, true, ◌+◌, ◌-◌, ◌≤◌, List, [], ◌∷◌, ◌++◌, map, take, Option, Some, None, refl, sym, ◌∙◌, ap, arith}
use Rattle.std.specs.Prelude.{All, Contains, slice_index_or}
use Rattle.std.specs.List.{flat_map}
use Rattle.std.proofs.lemmas.List.{get_or-drop}
use Rattle.std.proofs.lemmas.List.Elements.{All-head, All-tail, All-weaker, All-contains, All-contains_itself, Contains-append_left, Contains-append_right}
use Rattle.g_base.specs.ToldContent.{Changes}
use Rattle.g_blocks.specs.Pool.{IsInArea}
use Rattle.g_copy.specs.Copy.{blocks_at}
use Rattle.g_slots.specs.Layout.{copy_area}
use Rattle.g_dirs.specs.Commit.{NewDirectory}
use Rattle.g_dirs.specs.Directory.{Directory, FileEntry, all_places, places_of}
use Rattle.g_disc_contents.specs.Contents.{Contents, File, contents_of, file_of}
use Rattle.g_disc_contents.specs.Facts.{Pin}
use Rattle.g_online.specs.declared.pinned.Pinned.{Pinned}
use Rattle.g_online.specs.Invariant.{IsPinned, PinsAre, pin_of, pins_of}

-- the blocks of these numbers are unchanged
abbrev pub IsSame : List (List ℕ) → List (List ℕ) → ℕ → Type 0
IsSame before after k = slice_index_or after k [] ≡ slice_index_or before k []

abbrev pub AreSame : List ℕ → List (List ℕ) → List (List ℕ) → Type 0
AreSame places before after = All (IsSame before after) places

pub left_part : (P : ℕ → Type 0) (xs ys : List ℕ) → All P (xs ++ ys) → All P xs
left_part P xs ys all = All-weaker (Contains xs) P (λ x c. All-contains P (xs ++ ys) x all (Contains-append_left xs ys x c)) xs (All-contains_itself xs)

pub right_part : (P : ℕ → Type 0) (xs ys : List ℕ) → All P (xs ++ ys) → All P ys
right_part P xs ys all = All-weaker (Contains ys) P (λ x c. All-contains P (xs ++ ys) x all (Contains-append_right xs ys x c)) ys (All-contains_itself ys)

same_block : (before after : List (List ℕ)) (k : ℕ) → copy_area after ≡ copy_area before → 2177 ≤ k → IsSame before after k
unfolding copy_area
same_block before after k same high =
    let at : 2177 + (k - 2177) ≡ k = omega arith in
    ap (λ (i : ℕ). slice_index_or after i []) (sym at) ∙ sym (get_or-drop 2177 after (k - 2177) []) ∙ ap (λ (bs : List (List ℕ)). slice_index_or bs (k - 2177) []) same
    ∙ get_or-drop 2177 before (k - 2177) [] ∙ ap (λ (i : ℕ). slice_index_or before i []) at

-- if the copy area is unchanged
pub same_area : (size : ℕ) (before after : List (List ℕ)) (places : List ℕ) → copy_area after ≡ copy_area before → All (IsInArea size) places → AreSame places before after
same_area size before after places same area = All-weaker (IsInArea size) (IsSame before after) (λ k is. same_block before after k same is.low) places area

same_blocks : (before after : List (List ℕ)) (places : List ℕ) → AreSame places before after → blocks_at places after ≡ blocks_at places before
unfolding blocks_at
same_blocks before after [] same = refl
same_blocks before after (k ∷ ks) same =
    ap (λ (b : List ℕ). b ++ flat_map (λ (i : ℕ). slice_index_or after i []) ks) (All-head (IsSame before after) k ks same)
    ∙ ap (λ (bs : List ℕ). slice_index_or before k [] ++ bs) (same_blocks before after ks (All-tail (IsSame before after) k ks same))

same_file : (before after : List (List ℕ)) (f : FileEntry) → AreSame (places_of f) before after → file_of (Some after) f ≡ file_of (Some before) f
same_file before after (rec, None) same = refl
same_file before after (rec, Some copy) same =
    ap (λ (bs : List ℕ). let f : File = record { rec = rec; online = true; bytes = Some (take copy.len bs) } in f) (same_blocks before after copy.blocks same)

pub same_files : (before after : List (List ℕ)) (files : List FileEntry) → AreSame (all_places files) before after → map (file_of (Some after)) files ≡ map (file_of (Some before)) files
same_files before after [] same = refl
same_files before after (f ∷ fs) same =
    ap (λ (x : File). x ∷ map (file_of (Some after)) fs) (same_file before after f (left_part (IsSame before after) (places_of f) (all_places fs) same))
    ∙ ap (λ (xs : List File). file_of (Some before) f ∷ xs) (same_files before after fs (right_part (IsSame before after) (places_of f) (all_places fs) same))

abbrev with_files : Directory → List File → Contents
with_files d files = record { head = d.head; users = d.users; files = files }

pub same_contents_told : (before after : List (List ℕ)) (d : Directory) → AreSame (all_places d.files) before after → contents_of (Some after) d ≡ contents_of (Some before) d
same_contents_told before after d same = ap (with_files d) (same_files before after d.files same)

-- the contents of a directory are unchanged
pub same_contents : (before after : Option (List (List ℕ))) (d : Directory) → Changes (AreSame (all_places d.files)) before after → contents_of after d ≡ contents_of before d
same_contents None after d changes = ap (λ (held : Option (List (List ℕ))). contents_of held d) (changes.untold refl)
same_contents (Some b) after d changes =
    let end = changes.told b refl in
    ap (λ (held : Option (List (List ℕ))). contents_of held d) end.1 ∙ same_contents_told b end.0 d end.2

same_list : (before after : List (List ℕ)) (places : List ℕ) → AreSame places before after → map (λ k. slice_index_or after k []) places ≡ map (λ k. slice_index_or before k []) places
same_list before after [] same = refl
same_list before after (k ∷ ks) same =
    ap (λ (b : List ℕ). b ∷ map (λ (i : ℕ). slice_index_or after i []) ks) (All-head (IsSame before after) k ks same)
    ∙ ap (λ (bs : List (List ℕ)). slice_index_or before k [] ∷ bs) (same_list before after ks (All-tail (IsSame before after) k ks same))

same_pin : (before after : List (List ℕ)) (p : Pinned) → AreSame p.blocks before after → pin_of (Some after) p ≡ pin_of (Some before) p
same_pin before after p same =
    ap (λ (blocks : List (List ℕ)). let q : Pin = record { stamp = p.stamp; len = p.len; copy = p.copy; blocks = Some blocks } in q) (same_list before after p.blocks same)

pub same_pin_list : (before after : List (List ℕ)) (pins : List Pinned) → All (λ (p : Pinned). AreSame p.blocks before after) pins → map (pin_of (Some after)) pins ≡ map (pin_of (Some before)) pins
same_pin_list before after [] same = refl
same_pin_list before after (p ∷ ps) same =
    ap (λ (q : Pin). q ∷ map (pin_of (Some after)) ps) (same_pin before after p (All-head (λ (r : Pinned). AreSame r.blocks before after) p ps same))
    ∙ ap (λ (qs : List Pin). pin_of (Some before) p ∷ qs) (same_pin_list before after ps (All-tail (λ (r : Pinned). AreSame r.blocks before after) p ps same))

-- the pinned versions are unchanged if the copy area is
pub same_pins : (d : Directory) (before after : Option (List (List ℕ))) (size next : ℕ) (files : List FileEntry) (touched : List ℕ) (pins : Option (List Pinned)) → Changes (NewDirectory d) before after
    → PinsAre pins size next files touched → pins_of after pins ≡ pins_of before pins
same_pins d before after size next files touched None changes are = refl
same_pins d None after size next files touched (Some pins) changes are = ap (λ (held : Option (List (List ℕ))). pins_of held (Some pins)) (changes.untold refl)
same_pins d (Some b) after size next files touched (Some pins) changes are =
    let end = changes.told b refl in
    ap (λ (held : Option (List (List ℕ))). pins_of held (Some pins)) end.1
    ∙ ap (λ (ps : List Pin). Some ps)
    (same_pin_list b end.0 pins (All-weaker (IsPinned size next files) (λ (p : Pinned). AreSame p.blocks b end.0) (λ p is. same_area size b end.0 p.blocks end.2.copies is.area) pins are.each))
