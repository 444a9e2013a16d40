-- Calls that returned Ok, and reels whose files hold them, one by one.
-- serves: close, close_pair
use Rattle.std.proofs.Common.{◌≡◌, Bool, true, false, ◌&&◌, List, [], ◌∷◌, map, Result, Ok, Err, is_ok, true≢false, refl, sym}
use Rattle.std.specs.List.{AllZip}
use Rattle.std.specs.Result.{OnErr, OnOk}
use Rattle.std.proofs.lemmas.List.Elements.{All-head, All-tail}
use Rattle.g_files.specs.FileReel.{IsSaved, reel_file, reel_of}
use Rattle.g_files.specs.Reels.{AreSaved}
use Rattle.g_files.specs.declared.file_reel.FileReel.{FileReel}
use Rattle.g_files.specs.declared.raw.RawFile.{Ghosts}

pub on_done : {A E P : Type 0} (r : Result A E) → is_ok r ≡ true → OnOk r P → P
on_done (Ok x) done is = is
on_done (Err e) done is = absurd (true≢false (sym done))

pub saved_each : {F : Type 0} {g : Ghosts F} (reels : List (FileReel F g)) → AreSaved reels → AllZip IsSaved (map reel_of reels) (map reel_file reels)
saved_each [] all = tt
saved_each {F} {g} (r ∷ rest) all =
    let is : FileReel F g → Type 0 = λ x. IsSaved (reel_of x) (reel_file x) in
    (All-head is r rest all, saved_each rest (All-tail is r rest all))

pub on_failed : {A E P : Type 0} (r : Result A E) → is_ok r ≡ false → OnErr r P → P
on_failed (Ok x) failed is = absurd (true≢false failed)
on_failed (Err e) failed is = is

-- if not both succeeded, one of them failed
pub one_failed : {P : Type 0} (a b : Bool) → a && b ≡ false → (a ≡ false → P) → (b ≡ false → P) → P
one_failed true b none first second = second none
one_failed false b none first second = first refl
