-- The result of a check, from what was read of disc and rack.
-- serves: check (filestore, right), dumps (text)
use Rattle.std.proofs.Common.{◌≡◌, ◌↔◌, ℕ, Bool, true, List, [], ◌∷◌, ◌++◌, Option, Some, None, refl, sym, ◌∙◌, ap, subst, All, IsTrue}
use Rattle.std.specs.Prelude.{is_some}
use Rattle.std.proofs.lemmas.List.Elements.{All-map}
use Rattle.g_entry.specs.declared.format.Format.{Format}
use Rattle.g_slots.specs.declared.side.Side.{Side}
use Rattle.g_slots.specs.Layout.{gate_side}
use Rattle.g_dirs.specs.declared.dirs.Dirs.{Dirs}
use Rattle.g_dirs.specs.Directory.{Directory}
use Rattle.g_dirs.specs.Image.{StandsFor}
use Rattle.g_tape.specs.Rack.{Rack}
use Rattle.g_tape.specs.Reads.{OnlyReads, unread}
use Rattle.g_tape.specs.Reel.{Reel}
use Rattle.g_incr.specs.Layout.{Dump}
use Rattle.g_lines.specs.Lines.{text_of}
use Rattle.g_shelf.specs.CompletedDumps.{AreShelved, all_dumps}
use Rattle.g_store_meaning.specs.Meaning.{told_reels}
use Rattle.g_store_meaning.specs.Reading.{AllTold, ReelsTold}
use Rattle.g_restore.specs.declared.dumps.Found.{Found}
use Rattle.g_restore.specs.KnownDumps.{AreKnown}
use Rattle.g_look.specs.declared.broken.Broken.{Broken}
use Rattle.g_look.specs.declared.disc.Standing.{Standing}
use Rattle.g_look.specs.Gaps.{NamesMissing}
use Rattle.g_look.specs.Rules.{IsVerdict}
use Rattle.g_look.specs.SeenDumps.{AreSeen, IsSeen}
use Rattle.g_look.specs.Standing.{IsStanding, directory_in, found_in}
use Rattle.g_look.specs.Text.{IsChecked, IsFoundOn, disc_lines, rack_lines, verdict_line}
use Rattle.g_look.proofs.HeadLemmas.{told_blocks}

found_same : (o : Option (Format × Dirs)) → is_some o ≡ is_some (found_in o)
found_same None = refl
found_same (Some f) = refl

pub checked_is : (size : ℕ) (held : Option (List (List ℕ))) (reels : List Reel) (found : List Found) (s : Standing) (verdict : Option Broken) (missing : Option ℕ) (text : List ℕ) → AreSeen reels found → IsStanding size held s
    → AllTold held reels → IsVerdict held reels verdict → ((dumps : List Dump) → AreKnown found dumps → NamesMissing dumps missing)
    → ((shelf : ℕ → List Dump) → IsSeen reels shelf found
    → text ≡ text_of (disc_lines size s.side (all_dumps shelf reels) (found_in s.dirs) ++ rack_lines shelf reels ++ verdict_line (is_some s.dirs) verdict missing ∷ []))
    → IsChecked size held reels verdict missing text
checked_is size held reels found s verdict missing text seen standing told right names is =
    let (shelf, shelved) = seen.shelf told.each in
    let (blocks, is_told) = told_blocks held told.disc in
    record {
      right = right;
      shelf = shelf;
      shelved = shelved;
      missing_is = names (all_dumps shelf reels) (seen.seen told.each shelf shelved).known;
      blocks = blocks;
      is_told = is_told;
      found = found_in s.dirs;
      found_is = standing.found blocks is_told;
      text_is =
          is shelf (seen.seen told.each shelf shelved)
          ∙ ap (λ (side : Side). text_of (disc_lines size side (all_dumps shelf reels) (found_in s.dirs) ++ rack_lines shelf reels ++ verdict_line (is_some s.dirs) verdict missing ∷ []))
          (sym (standing.side blocks is_told))
          ∙ ap (λ (b : Bool). text_of (disc_lines size (gate_side blocks) (all_dumps shelf reels) (found_in s.dirs) ++ rack_lines shelf reels ++ verdict_line b verdict missing ∷ [])) (found_same s.dirs);
    }

-- whether it holds a filestore
holds_so : (blocks : List (List ℕ)) (o : Option (Format × Dirs)) → IsFoundOn blocks (found_in o) → IsTrue (is_some o) ↔ ((d : Directory) × StandsFor blocks d)
holds_so blocks None none = (λ wrong. absurd (let no : ⊥ = cc in no), λ (d, is). absurd (none d is))
holds_so blocks (Some f) is = (λ yes. (directory_in f.1, is.0), λ other. refl)

pub holds_filestore : (size : ℕ) (held : Option (List (List ℕ))) (s : Standing) (blocks : List (List ℕ)) → IsStanding size held s → held ≡ Some blocks → IsTrue (is_some s.dirs) ↔ ((d : Directory) × StandsFor blocks d)
holds_filestore size held s blocks standing told = holds_so blocks s.dirs (standing.found blocks told)

-- reels that are mounted now were mounted when they were read
pub mounted_told : (old new : Rack) → OnlyReads old new → All (λ r. r.mounted ≡ true) old.reels → All (λ r. r.mounted ≡ true) (told_reels new)
mounted_told old new only all =
    subst (All (λ (r : Reel). r.mounted ≡ true)) (sym only.reels)
    (All-map (λ (r : Reel). r.mounted ≡ true) unread old.reels (λ k d within. all k d within))

-- the same, from what was read before
pub checked_at : (size size_1 : ℕ) (held held_1 : Option (List (List ℕ))) (reels reels_1 reels_2 : List Reel) (items slice slice_2 slice_3 : List Found) (s : Standing) (verdict : Option Broken) (missing : Option ℕ) (text : List ℕ)
    → size_1 ≡ size → held_1 ≡ held → reels_1 ≡ reels → reels_2 ≡ reels_1 → slice ≡ items → slice_2 ≡ items → slice_3 ≡ items → AreSeen reels items → IsStanding size held s
    → (AreSeen reels_1 slice → AllTold held_1 reels_1 → IsVerdict held_1 reels_1 verdict) → ((dumps : List Dump) → AreKnown slice_2 dumps → NamesMissing dumps missing)
    → ((shelf : ℕ → List Dump) → IsSeen reels_2 shelf slice_3
    → text ≡ text_of (disc_lines size_1 s.side (all_dumps shelf reels_2) (found_in s.dirs) ++ rack_lines shelf reels_2 ++ verdict_line (is_some s.dirs) verdict missing ∷ []))
    → AllTold held reels → IsChecked size held reels verdict missing text
checked_at size size_1 held held_1 reels reels_1 reels_2 items slice slice_2 slice_3 s verdict missing text same_size same_held same_reels same_reels_2 is_slice is_slice_2 is_slice_3 seen standing right names is told =
    checked_is size held reels items s verdict missing text seen standing told
    (subst (λ (h : Option (List (List ℕ))). IsVerdict h reels verdict) same_held
    (subst (λ (rs : List Reel). IsVerdict held_1 rs verdict) same_reels
    (right (subst (AreSeen reels_1) (sym is_slice) (subst (λ (rs : List Reel). AreSeen rs items) (sym same_reels) seen))
    (subst (λ (rs : List Reel). AllTold held_1 rs) (sym same_reels) (subst (λ (h : Option (List (List ℕ))). AllTold h reels) (sym same_held) told)))))
    (λ dumps known_here. names dumps (subst (λ (fs : List Found). AreKnown fs dumps) (sym is_slice_2) known_here))
    (λ shelf here.
    subst (λ (n : ℕ). text ≡ text_of (disc_lines n s.side (all_dumps shelf reels) (found_in s.dirs) ++ rack_lines shelf reels ++ verdict_line (is_some s.dirs) verdict missing ∷ [])) same_size
    (subst (λ (rs : List Reel). text ≡ text_of (disc_lines size_1 s.side (all_dumps shelf rs) (found_in s.dirs) ++ rack_lines shelf rs ++ verdict_line (is_some s.dirs) verdict missing ∷ [])) (same_reels_2 ∙ same_reels)
    (is shelf (subst (IsSeen reels_2 shelf) (sym is_slice_3) (subst (λ (rs : List Reel). IsSeen rs shelf items) (sym (same_reels_2 ∙ same_reels)) here)))))

-- the text of a rack without a disc
pub dumps_text : (reels reels_1 : List Reel) (items slice : List Found) (old text : List ℕ) → reels_1 ≡ reels → slice ≡ items → old ≡ [] → AreSeen reels items
    → ((shelf : ℕ → List Dump) → IsSeen reels_1 shelf slice → text ≡ old ++ text_of (rack_lines shelf reels_1)) → ReelsTold reels → (shelf : ℕ → List Dump) → AreShelved shelf reels
    → text ≡ text_of (rack_lines shelf reels)
dumps_text reels reels_1 items slice old text same is_slice is_old seen is told shelf shelved =
    let here : IsSeen reels shelf slice = subst (IsSeen reels shelf) (sym is_slice) (seen.seen told shelf shelved) in
    is shelf (subst (λ (rs : List Reel). IsSeen rs shelf slice) (sym same) here)
    ∙ ap (λ (xs : List ℕ). xs ++ text_of (rack_lines shelf reels_1)) is_old
    ∙ ap (λ (rs : List Reel). text_of (rack_lines shelf rs)) same
