-- The verdict, from the rules that were found broken and those that weren't.
-- serves: judge (right), judge_disc (judged)
use Rattle.std.proofs.Common.{Global, ◌≡◌, ◌⊎◌, inl, inr, ℕ, ◌≤◌, List, Option, Some, None, Result, Ok, Err, refl, sym, ◌∙◌, arith, subst}
use Rattle.std.specs.Prelude.{Contains, IfNone, IfOk, IfSome, Vec}
use Rattle.std.proofs.lemmas.Option.{same_Some}
use Rattle.g_entry.specs.declared.file_rec.FileRec.{FileRec}
use Rattle.g_entry.specs.declared.format.Format.{Format}
use Rattle.g_tape.specs.Reel.{Reel}
use Rattle.g_dirs.specs.declared.dirs.Dirs.{Dirs}
use Rattle.g_dirs.specs.Directory.{Directory}
use Rattle.g_dirs.specs.Image.{StandsFor}
use Rattle.g_disc_contents.specs.Contents.{Contents, Holds, contents_of}
use Rattle.g_incr.specs.Layout.{Dump}
use Rattle.g_shelf.specs.CompletedDumps.{AreShelved, all_dumps}
use Rattle.g_store_meaning.specs.Reading.{AllTold}
use Rattle.g_restore.specs.declared.dumps.Found.{Found}
use Rattle.g_restore.specs.Places.{IsHeld}
use Rattle.g_look.specs.declared.broken.Broken.{Broken}
use Rattle.g_look.specs.declared.broken.Broken.TheVariants.{Twice, Falls, LostDirectory, LostCopy}
use Rattle.g_look.specs.Heads.{HeadFits}
use Rattle.g_look.specs.Judging.{IsDiscJudged, IsFirstOfDisc}
use Rattle.g_look.specs.Recs.{HasSameLengths}
use Rattle.g_look.specs.Rules.{Breaks, BreaksDisc, BreaksOn, BreaksRack, DiscFits, IsVerdict, rule_of}
use Rattle.g_look.specs.SeenDumps.{AreSeen, IsFirstOfRack, IsJudged, IsRackPassed, IsSeen, WhereSeen}
use Rattle.g_look.specs.declared.disc.Standing.{Standing}
use Rattle.g_look.specs.declared.fault.LookFault.{LookFault}
use Rattle.g_look.specs.declared.rack.Judged.{Judged}
use Rattle.g_look.specs.declared.rack.Judged.TheVariants.{Breaks as BreaksOne, Fits}
use Rattle.g_look.specs.Standing.{IsStanding, directory_in, found_in}
use Rattle.g_look.specs.Text.{IsFoundOn}
use Rattle.g_look.specs.Texts.{AreBytesOther, FileAgrees}
use Rattle.g_look.proofs.BreakLemmas.{broken_is_not}
use Rattle.g_disc_contents.proofs.HoldLemmas.{holds_one}
use Rattle.g_look.proofs.FitLemmas.{fits_belong}
use Rattle.g_look.proofs.HeadLemmas.{told_blocks}
use Rattle.g_look.proofs.RecLemmas.{first12, fits_all}
use Rattle.g_look.proofs.VerdictLemmas.{rack_has_none}

-- rules of the rack precede those of the disc
rack_low : (dumps : List Dump) (b : Broken) → BreaksRack dumps b → rule_of b ≤ 4
rack_low dumps (Twice a b) is = omega arith
rack_low dumps (Falls a b) is = omega arith
rack_low dumps (LostDirectory user) is = omega arith
rack_low dumps (LostCopy full serial) is = omega arith
rack_low dumps other is = absurd is

disc_high : (shelf : ℕ → List Dump) (reels : List Reel) (c : Contents) (e : Broken) → BreaksDisc shelf reels c e → 5 ≤ rule_of e
disc_high shelf reels c (Twice a b) is = absurd is
disc_high shelf reels c (Falls a b) is = absurd is
disc_high shelf reels c (LostDirectory user) is = absurd is
disc_high shelf reels c (LostCopy full serial) is = absurd is
disc_high shelf reels c other is = omega arith

module _ (held : Option (List (List ℕ))) (reels : List Reel) (found : List Found) (seen : AreSeen reels found) (told : AllTold held reels) where
  broken_verdict : (b : Broken) → Breaks held reels b → ((e : Broken) → Breaks held reels e → rule_of b ≤ rule_of e) → IsVerdict held reels (Some b)
  broken_verdict b breaks first = record {
    belong = λ none. absurd (let no : ⊥ = cc in no);
    broken = broken_is_not held reels b told.each breaks;
    breaks = breaks;
    first = first;
  }

  pub verdict_rack : (b : Broken) → WhereSeen found (λ rs shelf. IsFirstOfRack (all_dumps shelf rs) b) → IsVerdict held reels (Some b)
  verdict_rack b where_seen =
      let (shelf, shelved) = seen.shelf told.each in
      let here = where_seen reels shelf (seen.seen told.each shelf shelved) in
      broken_verdict b (record { shelf = shelf; shelved = shelved; is = inl here.breaks }) (λ e breaks. by_part e breaks.shelf breaks.shelved breaks.is (rack_low (all_dumps shelf reels) b here.breaks))
    where
      by_part : (e : Broken) (shelf : ℕ → List Dump) → AreShelved shelf reels → BreaksRack (all_dumps shelf reels) e ⊎ BreaksOn shelf held reels e → rule_of b ≤ 4 → rule_of b ≤ rule_of e
      by_part e shelf shelved (inl rack) low = (where_seen reels shelf (seen.seen told.each shelf shelved)).first e rack
      by_part e shelf shelved (inr on) low = let high = disc_high shelf reels on.contents e on.breaks in omega (arith, low, high)

  -- A RACK without a broken rule
  module _ (dumped : List FileRec) (passed : WhereSeen found (λ rs shelf. IsRackPassed (all_dumps shelf rs) dumped)) where
    passed_here : (shelf : ℕ → List Dump) → AreShelved shelf reels → IsRackPassed (all_dumps shelf reels) dumped
    passed_here shelf shelved = passed reels shelf (seen.seen told.each shelf shelved)

    -- next to a disc without a filestore
    pub verdict_nothing : (blocks : List (List ℕ)) → held ≡ Some blocks → ((d : Directory) → StandsFor blocks d → ⊥) → IsVerdict held reels None
    verdict_nothing blocks is none =
        let (shelf, shelved) = seen.shelf told.each in
        record {
          belong = λ same. fits_belong held reels shelf None told (record {
            are = tt;
            none = λ no bs c at holds.
                none holds.directory (subst (λ (xs : List (List ℕ)). StandsFor xs holds.directory) (same_Some bs blocks (sym at ∙ is)) holds.stands);
          }) shelved (passed_here shelf shelved).fits tt;
          broken = tt;
          breaks = tt;
          first = tt;
        }

    -- next to a disc that holds a directory
    module _ (blocks : List (List ℕ)) (is : held ≡ Some blocks) (dirs : Dirs) (stands : StandsFor blocks (directory_in dirs)) where
      abbrev c : Contents
      c = contents_of (Some blocks) (directory_in dirs)

      holds : Holds blocks c
      holds = record { directory = directory_in dirs; stands = stands; are = refl }

      pub verdict_disc : (verdict : Option Broken) → IsDiscJudged held reels found dirs dumped verdict → IsVerdict held reels verdict
      verdict_disc None judged =
          let (shelf, shelved) = seen.shelf told.each in
          let fits : DiscFits shelf reels c = judged shelf blocks (seen.seen told.each shelf shelved) (passed_here shelf shelved) is in
          record {
            belong = λ same. fits_belong held reels shelf (Some c) told (record { are = (blocks, is, holds); none = λ no. absurd (let wrong : ⊥ = cc in wrong) }) shelved (passed_here shelf shelved).fits fits;
            broken = tt;
            breaks = tt;
            first = tt;
          }
      verdict_disc (Some b) judged =
          let (shelf, shelved) = seen.shelf told.each in
          let here : IsFirstOfDisc shelf reels c b = judged shelf blocks (seen.seen told.each shelf shelved) (passed_here shelf shelved) is in
          broken_verdict b (record { shelf = shelf; shelved = shelved; is = inr (record { blocks = blocks; told = is; contents = c; holds = holds; breaks = here.breaks }) })
          (λ e breaks. by_part e breaks.shelf breaks.shelved breaks.is)
        where
          by_part : (e : Broken) (shelf : ℕ → List Dump) → AreShelved shelf reels → BreaksRack (all_dumps shelf reels) e ⊎ BreaksOn shelf held reels e → rule_of b ≤ rule_of e
          by_part e shelf shelved (inl rack) = absurd (rack_has_none reels shelf e told.each shelved (passed_here shelf shelved).fits rack)
          by_part e shelf shelved (inr on) =
              let same_blocks : on.blocks ≡ blocks = same_Some on.blocks blocks (sym on.told ∙ is) in
              let same : on.contents ≡ c = sym (holds_one blocks c on.contents holds (subst (λ (xs : List (List ℕ)). Holds xs on.contents) same_blocks on.holds)) in
              let here : IsFirstOfDisc shelf reels c b = judged shelf blocks (seen.seen told.each shelf shelved) (passed_here shelf shelved) is in
              here.first e (subst (λ (k : Contents). BreaksDisc shelf reels k e) same on.breaks)

-- FROM WHAT WAS READ of the disc
module _ (held : Option (List (List ℕ))) (reels : List Reel) (found : List Found) (seen : AreSeen reels found) (told : AllTold held reels) (dumped : List FileRec)
    (passed : WhereSeen found (λ rs shelf. IsRackPassed (all_dumps shelf rs) dumped)) (size : ℕ) (s : Standing) (standing : IsStanding size held s) where
  pub right_nothing : s.dirs ≡ None → IsVerdict held reels None
  right_nothing none =
      let (blocks, is) = told_blocks held told.disc in
      verdict_nothing held reels found seen told dumped passed blocks is (subst (λ (o : Option (Format × Dirs)). IsFoundOn blocks (found_in o)) none (standing.found blocks is))

  pub right_disc : (f : Format × Dirs) → s.dirs ≡ Some f → (verdict : Option Broken) → IsDiscJudged held reels found f.1 dumped verdict → IsVerdict held reels verdict
  right_disc f some verdict judged =
      let (blocks, is) = told_blocks held told.disc in
      let stands = subst (λ (o : Option (Format × Dirs)). IsFoundOn blocks (found_in o)) some (standing.found blocks is) in
      verdict_disc held reels found seen told dumped passed blocks is f.1 stands.0 verdict judged

-- THE LAST RULE is broken, or none is
pub judged_bytes : (held : Option (List (List ℕ))) (reels : List Reel) (found : List Found) (dirs : Dirs) (dumped : List FileRec)
    → ((shelf : ℕ → List Dump) → IsSeen reels shelf found → HeadFits shelf reels dirs.head)
    → ((r : FileRec) → Contains dirs.files.items r → IsHeld found r) → ((r : FileRec) → Contains dirs.files.items r → HasSameLengths dumped r) → (verdict : Option Broken)
    → IfSome verdict (AreBytesOther held reels dirs.online.items dumped dirs.users.items dirs.files.items)
    → IfNone verdict ((r : FileRec) → Contains dirs.files.items r → FileAgrees held reels dirs.online.items dumped r)
    → IsDiscJudged held reels found dirs dumped verdict
judged_bytes held reels found dirs dumped head are_held are_long None some none shelf blocks seen passed told =
    fits_all reels shelf found seen dumped passed blocks dirs held told (head shelf seen) are_held are_long none
judged_bytes held reels found dirs dumped head are_held are_long (Some b) some none shelf blocks seen passed told =
    first12 reels shelf found seen dumped passed blocks dirs held told (head shelf seen) are_held are_long b some

pub judged_ok : (held : Option (List (List ℕ))) (reels : List Reel) (found : List Found) (dirs : Dirs) (dumped : List FileRec)
    → ((shelf : ℕ → List Dump) → IsSeen reels shelf found → HeadFits shelf reels dirs.head)
    → ((r : FileRec) → Contains dirs.files.items r → IsHeld found r) → ((r : FileRec) → Contains dirs.files.items r → HasSameLengths dumped r) → (result : Result (Option Broken) LookFault)
    → IfOk result (λ verdict. IfSome verdict (AreBytesOther held reels dirs.online.items dumped dirs.users.items dirs.files.items))
    → IfOk result (λ verdict. IfNone verdict ((r : FileRec) → Contains dirs.files.items r → FileAgrees held reels dirs.online.items dumped r))
    → IfOk result (IsDiscJudged held reels found dirs dumped)
judged_ok held reels found dirs dumped head are_held are_long (Ok verdict) some none = judged_bytes held reels found dirs dumped head are_held are_long verdict some none
judged_ok held reels found dirs dumped head are_held are_long (Err e) some none = tt

-- FROM WHAT WAS FOUND of the rack
module _ (held : Option (List (List ℕ))) (reels : List Reel) (found : List Found) (seen : AreSeen reels found) (told : AllTold held reels) (j : Judged)
    (judged : WhereSeen found (λ rs shelf. IsJudged (all_dumps shelf rs) j)) where
  pub right_breaks : (b : Broken) → j ≡ BreaksOne b → IsVerdict held reels (Some b)
  right_breaks b is = verdict_rack held reels found seen told b (subst (λ (x : Judged). WhereSeen found (λ rs shelf. IsJudged (all_dumps shelf rs) x)) is judged)

  module _ (dumped : Vec FileRec Global) (fits : j ≡ Fits dumped) (size : ℕ) (s : Standing) (standing : IsStanding size held s) where
    passed_all : WhereSeen found (λ rs shelf. IsRackPassed (all_dumps shelf rs) dumped.items)
    passed_all = subst (λ (x : Judged). WhereSeen found (λ rs shelf. IsJudged (all_dumps shelf rs) x)) fits judged

    pub right_none : s.dirs ≡ None → IsVerdict held reels None
    right_none none = right_nothing held reels found seen told dumped.items passed_all size s standing none

    pub right_some : (f : Format × Dirs) → s.dirs ≡ Some f → (slice : List FileRec) → slice ≡ dumped.items → (result : Result (Option Broken) LookFault)
        → IfOk result (IsDiscJudged held reels found f.1 slice) → IfOk result (IsVerdict held reels)
    right_some f some slice same (Ok verdict) on =
        right_disc held reels found seen told dumped.items passed_all size s standing f some verdict (subst (λ (fs : List FileRec). IsDiscJudged held reels found f.1 fs verdict) same on)
    right_some f some slice same (Err e) on = tt
