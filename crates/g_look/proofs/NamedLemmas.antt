-- A check that finds no rule broken has read each block that disc and dumps name.
-- serves: check (read), judge (read)
use Rattle.std.proofs.Common.{Global, ◌≡◌, ◌≢◌, ℕ, ◌+◌, ◌<◌, ◌≤◌, List, [], Option, Some, None, Result, Ok, Err, IfOk, refl, sym, ◌∙◌, ap, arith, subst, All}
use Rattle.std.specs.Prelude.{AllPairs, Contains, IfNone, IfSome, Vec, get_or}
use Rattle.std.proofs.lemmas.List.Elements.{All-contains, All-map, Contains-get_or}
use Rattle.g_base.specs.Block.{blocks_for}
use Rattle.g_entry.specs.declared.file_rec.FileRec.{FileRec}
use Rattle.g_entry.specs.declared.file_rec.TapeCopy.{TapeCopy}
use Rattle.g_entry.specs.declared.format.Format.{Format}
use Rattle.g_tape.specs.Rack.{AreReels, Rack}
use Rattle.g_tape.specs.Reads.{HasRead, OnlyReads}
use Rattle.g_tape.specs.Reel.{Reel}
use Rattle.g_tape.proofs.ReadLemmas.{then_read}
use Rattle.g_dirs.specs.declared.dirs.Dirs.{Dirs}
use Rattle.g_dirs.specs.Directory.{Directory, copy_at}
use Rattle.g_dirs.specs.Image.{StandsFor}
use Rattle.g_disc_contents.specs.Contents.{Contents, File, Holds, contents_of, recs_in}
use Rattle.g_disc_contents.proofs.HoldLemmas.{holds_one}
use Rattle.g_incr.specs.Layout.{Dump}
use Rattle.g_shelf.specs.CompletedDumps.{AreShelved, all_dumps}
use Rattle.g_store_meaning.specs.Meaning.{DumpedDirectory, files_in, told_reels}
use Rattle.g_store_meaning.specs.Reading.{AllTold}
use Rattle.g_restore.specs.declared.dumps.Found.{Found}
use Rattle.g_restore.specs.Losses.{HasPlace}
use Rattle.g_look.specs.declared.broken.Broken.{Broken}
use Rattle.g_look.specs.declared.disc.Standing.{Standing}
use Rattle.g_look.specs.declared.fault.LookFault.{LookFault}
use Rattle.g_look.specs.declared.rack.Judged.{Judged}
use Rattle.g_look.specs.declared.rack.Judged.TheVariants.{Fits}
use Rattle.g_look.specs.Judging.{IsDiscJudged}
use Rattle.g_look.specs.Reads.{AreNamedRead, AreRead, IsReadAt, WasRead}
use Rattle.g_look.specs.Rules.{DiscFits, FileFits}
use Rattle.g_look.specs.SeenDumps.{AreSeen, IsJudged, IsRackPassed, WhereSeen}
use Rattle.g_look.specs.Standing.{IsStanding, directory_in, found_in}
use Rattle.g_look.specs.Text.{IsFoundOn}
use Rattle.g_look.proofs.DiscLemmas.{file_by, file_there, rec_of_file, rec_there}
use Rattle.g_look.proofs.HeadLemmas.{told_blocks}
use Rattle.g_look.proofs.LoopLemmas.{if_none}
use Rattle.g_look.proofs.ReadLemmas.{dumped_read, own_read}

none_in : (r : FileRec) → (let none : List FileRec = [] in Contains none r) → ⊥
none_in r (k, inside, at) = let no : ⊥ = omega (arith, inside) in no

same_Some : {X : Type 0} (x y : X) → Some x ≡ Some y → x ≡ y
same_Some x y is = cc

module _ (held : Option (List (List ℕ))) (old new : Rack) (are : AreReels old.reels) (told : AllTold held (told_reels old)) (found : List Found) (seen : AreSeen (told_reels old) found) (dumped : List FileRec)
    (passed : WhereSeen found (λ rs shelf. IsRackPassed (all_dumps shelf rs) dumped)) where
  abbrev reels : List Reel
  reels = told_reels old

  passed_here : (shelf : ℕ → List Dump) → AreShelved shelf reels → IsRackPassed (all_dumps shelf reels) dumped
  passed_here shelf shelved = passed reels shelf (seen.seen told.each shelf shelved)

  -- the dumped records
  tree_read : (files : List FileRec) → AreRead old new files dumped
      → ((shelf : ℕ → List Dump) → AreShelved shelf reels → (t : DumpedDirectory (all_dumps shelf reels)) → (r of : FileRec) → Contains files r → Contains dumped of → of.stamp ≡ r.stamp → of.len ≡ r.len)
      → (shelf : ℕ → List Dump) → AreShelved shelf reels → (t : DumpedDirectory (all_dumps shelf reels)) → All (WasRead old new) (files_in t)
  tree_read files read lengths shelf shelved t =
      let is = passed_here shelf shelved in
      let same : files_in t ≡ dumped = is.files_are t in
      let apart : AllPairs (λ (x y : FileRec). x.stamp ≢ y.stamp) dumped = subst (AllPairs (λ (x y : FileRec). x.stamp ≢ y.stamp)) same t.rules.among_files.stamps in
      let places : All (HasPlace (all_dumps shelf reels)) dumped = subst (All (HasPlace (all_dumps shelf reels))) same (is.fits.places t) in
      subst (All (WasRead old new)) (sym same) (dumped_read old new are told.each shelf shelved files dumped read apart (lengths shelf shelved t) places)

  -- next to a disc without a filestore
  pub nothing_read : (blocks : List (List ℕ)) → held ≡ Some blocks → ((d : Directory) → StandsFor blocks d → ⊥) → AreRead old new [] dumped → AreNamedRead held old new
  nothing_read blocks is none read = record {
    dumped = tree_read [] read (λ shelf shelved t r of in_files. absurd (none_in r in_files));
    named = λ bs at c holds. absurd (none holds.directory (subst (λ (xs : List (List ℕ)). StandsFor xs holds.directory) (same_Some bs blocks (sym at ∙ is)) holds.stands));
  }

  -- next to a disc that holds a directory
  module _ (blocks : List (List ℕ)) (is : held ≡ Some blocks) (dirs : Dirs) (stands : StandsFor blocks (directory_in dirs)) (read : AreRead old new dirs.files.items dumped) (judged : IsDiscJudged held reels found dirs dumped None) where
    abbrev c : Contents
    c = contents_of (Some blocks) (directory_in dirs)

    holds : Holds blocks c
    holds = record { directory = directory_in dirs; stands = stands; are = refl }

    fits : (shelf : ℕ → List Dump) → AreShelved shelf reels → DiscFits shelf reels c
    fits shelf shelved = judged shelf blocks (seen.seen told.each shelf shelved) (passed_here shelf shelved) is

    file_fits : (shelf : ℕ → List Dump) → AreShelved shelf reels → (f : File) → Contains c.files f → FileFits (all_dumps shelf reels) f
    file_fits shelf shelved f there = All-contains (FileFits (all_dumps shelf reels)) c.files f (fits shelf shelved).files there

    lengths : (shelf : ℕ → List Dump) → AreShelved shelf reels → (t : DumpedDirectory (all_dumps shelf reels)) → (r of : FileRec) → Contains dirs.files.items r → Contains dumped of → of.stamp ≡ r.stamp → of.len ≡ r.len
    lengths shelf shelved t r of in_files in_dumped stamp =
        let f : File = file_by (Some blocks) dirs.online.items r in
        let rec_is : f.rec ≡ r = rec_of_file (Some blocks) r (copy_at dirs.online.items r.number) in
        let same : files_in t ≡ dumped = (passed_here shelf shelved).files_are t in
        (file_fits shelf shelved f (file_there (Some blocks) dirs r in_files)).lengths of
        (record { directory = t; there = subst (λ (fs : List FileRec). Contains fs of) (sym same) in_dumped; stamp_is = stamp ∙ sym (ap (λ (s : FileRec). s.stamp) rec_is) })
        ∙ ap (λ (s : FileRec). s.len) rec_is

    each_named : (shelf : ℕ → List Dump) → AreShelved shelf reels → (f : File) → Contains c.files f → WasRead old new f.rec
    each_named shelf shelved f there =
        let it = rec_there (Some blocks) dirs f there in
        let same : it.rec ≡ f.rec = sym (rec_of_file (Some blocks) it.rec (copy_at dirs.online.items it.rec.number)) ∙ ap (λ (g : File). g.rec) it.is in
        own_read old new are told.each shelf shelved f.rec (file_fits shelf shelved f there).copy (subst (λ (r : FileRec). IsReadAt old new r.tape r.len) same (read.own it.rec it.there).own)

    pub disc_read : AreNamedRead held old new
    disc_read = record {
      dumped = tree_read dirs.files.items read lengths;
      named = λ bs at k holds_k.
          let (shelf, shelved) = seen.shelf told.each in
          let same_blocks : bs ≡ blocks = same_Some bs blocks (sym at ∙ is) in
          let same : k ≡ c = sym (holds_one blocks c k holds (subst (λ (xs : List (List ℕ)). Holds xs k) same_blocks holds_k)) in
          subst (λ (x : Contents). All (WasRead old new) (recs_in x)) (sym same)
          (All-map (WasRead old new) (λ (f : File). f.rec) c.files (λ i d inside. each_named shelf shelved (get_or c.files i d) (Contains-get_or c.files i d inside)));
    }

-- FROM WHAT WAS READ of disc and rack
module _ (held : Option (List (List ℕ))) (old new : Rack) (are : AreReels old.reels) (told : AllTold held (told_reels old)) (found : List Found) (seen : AreSeen (told_reels old) found) (j : Judged)
    (judged : WhereSeen found (λ rs shelf. IsJudged (all_dumps shelf rs) j)) (files : Vec FileRec Global) (fits : j ≡ Fits files) (dumped : List FileRec) (same : dumped ≡ files.items)
    (size : ℕ) (s : Standing) (standing : IsStanding size held s) where
  passed : WhereSeen found (λ rs shelf. IsRackPassed (all_dumps shelf rs) dumped)
  passed =
      subst (λ (fs : List FileRec). WhereSeen found (λ rs shelf. IsRackPassed (all_dumps shelf rs) fs)) (sym same)
      (subst (λ (x : Judged). WhereSeen found (λ rs shelf. IsJudged (all_dumps shelf rs) x)) fits judged)

  pub read_nothing : s.dirs ≡ None → AreRead old new [] dumped → AreNamedRead held old new
  read_nothing none read =
      let (blocks, is) = told_blocks held told.disc in
      nothing_read held old new are told found seen dumped passed blocks is (subst (λ (o : Option (Format × Dirs)). IsFoundOn blocks (found_in o)) none (standing.found blocks is)) read

  pub read_disc : (f : Format × Dirs) → s.dirs ≡ Some f → (result : Result (Option Broken) LookFault) → IfOk result (IsDiscJudged held (told_reels old) found f.1 dumped)
      → IfOk result (λ broken. IfNone broken (AreRead old new f.1.files.items dumped)) → IfOk result (λ broken. IfNone broken (AreNamedRead held old new))
  read_disc f some (Err e) on read = tt
  read_disc f some (Ok (Some b)) on read = tt
  read_disc f some (Ok None) on read =
      let (blocks, is) = told_blocks held told.disc in
      let stands = subst (λ (o : Option (Format × Dirs)). IsFoundOn blocks (found_in o)) some (standing.found blocks is) in
      disc_read held old new are told found seen dumped passed blocks is f.1 stands.0 read on

-- WITH other reads before
was_before : (old mid new : Rack) → OnlyReads old mid → (r : FileRec) → WasRead mid new r → WasRead old new r
was_before old mid new only r is = by_tape r.tape is
  where
    by_tape : (o : Option TapeCopy) → IfSome o (λ c. (k : ℕ) → c.first ≤ k → k < c.first + blocks_for r.len → HasRead c.serial k mid new)
        → IfSome o (λ c. (k : ℕ) → c.first ≤ k → k < c.first + blocks_for r.len → HasRead c.serial k old new)
    by_tape None none = tt
    by_tape (Some c) each = λ k from to. then_read c.serial k old mid new only (each k from to)

all_before : (old mid new : Rack) → OnlyReads old mid → (rs : List FileRec) → All (WasRead mid new) rs → All (WasRead old new) rs
all_before old mid new only rs all = λ k d inside. was_before old mid new only (get_or rs k d) (all k d inside)

pub read_before : (held held_1 : Option (List (List ℕ))) (old mid new : Rack) → held_1 ≡ held → OnlyReads old mid → AreNamedRead held_1 mid new → AreNamedRead held old new
read_before held held_1 old mid new same only is = record {
  dumped =
      subst (λ (rs : List Reel). (shelf : ℕ → List Dump) → AreShelved shelf rs → (t : DumpedDirectory (all_dumps shelf rs)) → All (WasRead old new) (files_in t)) only.reels
      (λ shelf shelved t. all_before old mid new only (files_in t) (is.dumped shelf shelved t));
  named = λ blocks at c holds. all_before old mid new only (recs_in c) (is.named blocks (same ∙ at) c holds);
}

pub checked_read : (held held_1 : Option (List (List ℕ))) (old mid new : Rack) (items slice : List Found) (broken : Option Broken) → held_1 ≡ held → OnlyReads old mid → slice ≡ items → AreSeen (told_reels old) items
    → (AreSeen (told_reels mid) slice → AllTold held_1 (told_reels mid) → IfNone broken (AreNamedRead held_1 mid new)) → AllTold held (told_reels old) → IfNone broken (AreNamedRead held old new)
checked_read held held_1 old mid new items slice broken same only is_slice seen read told =
    if_none (AreNamedRead held_1 mid new) (AreNamedRead held old new) broken (read_before held held_1 old mid new same only)
    (read (subst (AreSeen (told_reels mid)) (sym is_slice) (subst (λ (rs : List Reel). AreSeen rs items) (sym only.reels) seen))
    (subst (λ (rs : List Reel). AllTold held_1 rs) (sym only.reels) (subst (λ (h : Option (List (List ℕ))). AllTold h (told_reels old)) (sym same) told)))
