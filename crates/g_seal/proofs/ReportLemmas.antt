-- The report of a check against a seal, from the lines that were appended.
-- serves: rotten (own, text, unchanged)
use Rattle.std.proofs.Common.{◌≡◌, ℕ, List, [], ◌++◌, map, Option, sym, ◌∙◌, ap, subst}
use Rattle.std.specs.Option.{ForSome}
use Rattle.std.proofs.lemmas.Grind.{flat_map-append}
use Rattle.g_disc.specs.Disc.{DiscState}
use Rattle.g_tape.specs.Rack.{Rack}
use Rattle.g_tape.specs.Reel.{Reel}
use Rattle.g_lines.specs.Lines.{ended, text_of}
use Rattle.g_store_meaning.specs.Meaning.{told_reels}
use Rattle.g_store_meaning.specs.Reading.{AllTold, ReelsTold}
use Rattle.g_look.specs.declared.disc.Standing.{Standing}
use Rattle.g_look.specs.Standing.{IsStanding, found_in}
use Rattle.g_look.proofs.HeadLemmas.{told_blocks}
use Rattle.g_seal.specs.declared.entries.SealedDump.{SealedDump}
use Rattle.g_seal.specs.declared.entries.SealedFile.{SealedFile}
use Rattle.g_seal.specs.declared.rotten_dumps.RottenDump.{RottenDump}
use Rattle.g_seal.specs.declared.twins.Twins.{Twins}
use Rattle.g_seal.specs.Rotten.{IsReport, rotten_dump_line, rotten_dumps, rotten_files}

report_is : (held : Option (List (List ℕ))) (size : ℕ) (reels : List Reel) (twins : Twins) (standing : Standing) (dumps : List SealedDump) (rotten : List RottenDump) (files : List SealedFile) (begun first second : List ℕ) → AllTold held reels
    → IsStanding size held standing → begun ≡ [] → rotten ≡ rotten_dumps reels dumps → first ≡ begun ++ text_of (map (rotten_dump_line []) rotten)
    → ForSome held (λ blocks. second ≡ first ++ text_of (rotten_files blocks reels (record { rotten = rotten; twins = twins }) (found_in standing.dirs) files)) → IsReport held reels twins dumps files second
report_is held size reels twins standing dumps rotten files begun first second told stands none rotten_is first_is second_is =
    let (blocks, is) = told_blocks held told.disc in
    record {
      blocks = blocks;
      is_told = is;
      found = found_in standing.dirs;
      found_is = stands.found blocks is;
      text_is =
          second_is blocks is
          ∙ ap (λ (xs : List ℕ). xs ++ text_of (rotten_files blocks reels (record { rotten = rotten; twins = twins }) (found_in standing.dirs) files)) (first_is ∙ ap (λ (xs : List ℕ). xs ++ text_of (map (rotten_dump_line []) rotten)) none)
          ∙ sym (flat_map-append ended (map (rotten_dump_line []) rotten) (rotten_files blocks reels (record { rotten = rotten; twins = twins }) (found_in standing.dirs) files))
          ∙ ap (λ (ds : List RottenDump). text_of (map (rotten_dump_line []) ds ++ rotten_files blocks reels (record { rotten = ds; twins = twins }) (found_in standing.dirs) files)) rotten_is;
    }

-- the same of what the calls ensure, one after another
pub report_at : (size : ℕ) (disc mid : DiscState) (rack one : Rack) (twins : Twins) (standing : Standing) (dumps : List SealedDump) (rotten : List RottenDump) (due : List SealedDump) (there again : List RottenDump) (files wanted : List SealedFile) (begun first second : List ℕ)
    → due ≡ dumps → there ≡ rotten → again ≡ rotten → wanted ≡ files → AllTold disc.held (told_reels rack)
    → told_reels one ≡ told_reels rack → mid.held ≡ disc.held → IsStanding size disc.held standing → begun ≡ [] → (ReelsTold (told_reels rack) → rotten ≡ rotten_dumps (told_reels rack) due)
    → first ≡ begun ++ text_of (map (rotten_dump_line []) there)
    → (ReelsTold (told_reels one) → ForSome mid.held (λ blocks. second ≡ first ++ text_of (rotten_files blocks (told_reels one) (record { rotten = again; twins = twins }) (found_in standing.dirs) wanted)))
    → IsReport disc.held (told_reels rack) twins dumps files second
report_at size disc mid rack one twins standing dumps rotten due there again files wanted begun first second due_is there_is again_is wanted_is told is_one is_mid stands none rotten_is first_is held =
    let held_is : ForSome mid.held (λ blocks. second ≡ first ++ text_of (rotten_files blocks (told_reels rack) (record { rotten = again; twins = twins }) (found_in standing.dirs) wanted)) =
    subst (λ (rs : List Reel). ReelsTold rs → ForSome mid.held (λ blocks. second ≡ first ++ text_of (rotten_files blocks rs (record { rotten = again; twins = twins }) (found_in standing.dirs) wanted))) is_one held told.each in
    report_is disc.held size (told_reels rack) twins standing dumps rotten files begun first second told stands none (rotten_is told.each ∙ ap (rotten_dumps (told_reels rack)) due_is)
    (first_is ∙ ap (λ (ds : List RottenDump). begun ++ text_of (map (rotten_dump_line []) ds)) there_is)
    (λ blocks is. held_is blocks (is_mid ∙ is) ∙ ap (λ (ds : List RottenDump). first ++ text_of (rotten_files blocks (told_reels rack) (record { rotten = ds; twins = twins }) (found_in standing.dirs) wanted)) again_is
    ∙ ap (λ (fs : List SealedFile). first ++ text_of (rotten_files blocks (told_reels rack) (record { rotten = rotten; twins = twins }) (found_in standing.dirs) fs)) wanted_is)
