-- What a disc holds stays under writes that no file sees.
-- serves: lib, one_contents, crates above
use Rattle.std.proofs.Common.{◌≡◌, ℕ, ◌+◌, ◌<◌, List, [], ◌∷◌, Some, None, refl, sym, ◌∙◌, ap, arith}
use Rattle.std.specs.Prelude.{Contains, map, slice_set, true}
use Rattle.std.proofs.lemmas.List.Elements.{All-contains, Contains-append_left, Contains-append_right}
use Rattle.g_blocks.specs.Pool.{IsInArea}
use Rattle.g_slots.specs.declared.side.Side.{Side}
use Rattle.g_slots.specs.declared.side.Side.TheVariants.{A, B}
use Rattle.g_slots.specs.Layout.{gate_side, other, start_of}
use Rattle.g_dirs.specs.Directory.{FileEntry, all_places, places_of}
use Rattle.g_dirs.specs.Image.{StandsFor}
use Rattle.g_dirs.proofs.Parts.{stands_for_one}
use Rattle.g_dirs.proofs.QuietLemmas.{quiet_bytes, quiet_copy, quiet_slot}
use Rattle.g_disc_contents.specs.Contents.{Contents, File, Holds, contents_of, file_of}
use Rattle.g_disc_contents.specs.QuietWrites.{HoldsOne, QuietHoldsCopy, QuietHoldsSlot}

same_file : (blocks : List (List ℕ)) (place : ℕ) (left : List ℕ) (f : FileEntry) → (Contains (places_of f) place → ⊥) → file_of (Some blocks) f ≡ file_of (Some (slice_set blocks place left)) f
same_file blocks place left (rec, None) away = refl
same_file blocks place left (rec, Some copy) away =
    ap (λ (bytes : List ℕ). let f : File = record { rec = rec; online = true; bytes = Some bytes } in f) (sym (quiet_bytes blocks place left copy.blocks copy.len away))

same_files : (blocks : List (List ℕ)) (place : ℕ) (left : List ℕ) (files : List FileEntry) → (Contains (all_places files) place → ⊥)
    → map (file_of (Some blocks)) files ≡ map (file_of (Some (slice_set blocks place left))) files
same_files blocks place left [] away = refl
same_files blocks place left (f ∷ fs) away =
    ap (λ (x : File). x ∷ map (file_of (Some blocks)) fs) (same_file blocks place left f (λ c. away (Contains-append_left (places_of f) (all_places fs) place c)))
    ∙ ap (λ (xs : List File). file_of (Some (slice_set blocks place left)) f ∷ xs) (same_files blocks place left fs (λ c. away (Contains-append_right (places_of f) (all_places fs) place c)))

still_holds : (blocks : List (List ℕ)) (place : ℕ) (left : List ℕ) (c : Contents) (is : Holds blocks c) → (Contains (all_places is.directory.files) place → ⊥)
    → StandsFor (slice_set blocks place left) is.directory → Holds (slice_set blocks place left) c
still_holds blocks place left c is away stands = record {
  directory = is.directory;
  stands = stands;
  are = is.are ∙ ap (λ (files : List File). let k : Contents = record { head = is.directory.head; users = is.directory.users; files = files } in k) (same_files blocks place left is.directory.files away);
}

pub quiet_copy_holds : QuietHoldsCopy
quiet_copy_holds blocks place left c le is away =
    still_holds blocks place left c is (away is.directory is.stands) (quiet_copy blocks place left is.directory le is.stands)

below_copies : (side : Side) (k : ℕ) → k < 1088 → start_of side + k < 2177
below_copies A k less = omega arith
below_copies B k less = omega arith

pub quiet_slot_holds : QuietHoldsSlot
quiet_slot_holds blocks k left c less is =
    still_holds blocks (start_of (other (gate_side blocks)) + k) left c is
    (λ there.
    let area = All-contains (IsInArea _) (all_places is.directory.files) (start_of (other (gate_side blocks)) + k) is.stands.rules.area there in
    let low = area.low in
    let below = below_copies (other (gate_side blocks)) k less in
    (let no : ⊥ = omega arith in no))
    (quiet_slot blocks k left is.directory less is.stands)

pub holds_one : HoldsOne
holds_one blocks c e one other =
    one.are ∙ ap (contents_of (Some blocks)) (stands_for_one blocks one.directory other.directory one.stands other.stands) ∙ sym other.are
