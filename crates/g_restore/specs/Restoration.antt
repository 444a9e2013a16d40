-- What a restore builds from the dumps, and its answers.
use Rattle.std.specs.Prelude.{◌≡◌, ℕ, List, All, Option, Result, Ok, Err}
use Rattle.g_tape.specs.Rack.{Rack}
use Rattle.g_tape.specs.Reel.{Reel}
use Rattle.g_plain.specs.declared.faults.StoreFault.{StoreFault}
use Rattle.g_plain.specs.declared.faults.StoreFault.TheVariants as store
use Rattle.g_disc_contents.specs.Contents.{Contents}
use Rattle.g_incr.specs.Layout.{Dump}
use Rattle.g_store_meaning.specs.Belonging.{Belong}
use Rattle.g_store_meaning.specs.Laws.{restored}
use Rattle.g_store_meaning.specs.Meaning.{DumpedDirectory, files_in, told_reels}
use Rattle.g_store_meaning.specs.Reading.{ReelsTold}
use Rattle.g_restore.specs.Reels.{AreOnReels}
use Rattle.g_restore.specs.Losses.{HasPlace}

-- The restored contents: the dumped directory of the dumps on these reels, with each place held, on a disc that holds
-- nothing more.
pub record IsRestored (reels : List Reel) (held : Option (List (List ℕ))) (number : ℕ) (made : Contents) : Type 0 where
  pub dumps : List Dump
  pub are : AreOnReels reels dumps
  pub directory : DumpedDirectory dumps
  pub places : All (HasPlace dumps) (files_in directory)
  pub number_is : number ≡ directory.last.number
  pub made_is : made ≡ restored held directory

-- The answer, without the disc that is returned with it.
abbrev pub answer_of : {A B : Type 0} → Result A (StoreFault × B) → Result A StoreFault
answer_of (Ok reply) = Ok reply
answer_of (Err e) = Err e.0

-- The refusal concerns the reels, or memory ran out.
abbrev pub IsOfReels : StoreFault → Type 0
IsOfReels (store.RackNotMounted serial) = Unit {0}
IsOfReels store.TapeReadFault = Unit {0}
IsOfReels store.NoDump = Unit {0}
IsOfReels (store.LostDirectory user) = Unit {0}
IsOfReels (store.LostCopy full serial) = Unit {0}
IsOfReels store.NoMemory = Unit {0}
IsOfReels fault = ⊥

-- The refusal concerns the disc, or memory ran out.
abbrev pub IsOfDisc : StoreFault → Type 0
IsOfDisc store.DiscReadFault = Unit {0}
IsOfDisc store.Stopped = Unit {0}
IsOfDisc store.NoMemory = Unit {0}
IsOfDisc fault = ⊥

-- If the reels expose their blocks, disc and rack that belong together still do afterwards.
abbrev pub KeepsBelonging : Option (List (List ℕ)) → Rack → Option (List (List ℕ)) → Rack → Type 0
KeepsBelonging held old after new = ReelsTold (told_reels old) → Belong held old → Belong after new

-- The answer isn't a lost directory or a lost copy.
abbrev pub NothingIsLost : {A : Type 0} → Result A StoreFault → Type 0
NothingIsLost (Err (store.LostDirectory user)) = ⊥
NothingIsLost (Err (store.LostCopy full serial)) = ⊥
NothingIsLost answer = Unit {0}
