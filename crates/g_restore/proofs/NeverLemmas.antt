-- If disc and rack belong together, no directory and no copy is lost.
-- serves: rebuild (found), crates above
use Rattle.std.proofs.Common.{◌≡◌, ℕ, ◌+◌, ◌<◌, List, [], ◌∷◌, ◌++◌, length, take, drop, Option, Some, None, Result, Ok, Err, refl, sym, ◌∙◌, ap, arith, subst, All}
use Rattle.std.specs.Prelude.{IfSome}
use Rattle.std.proofs.lemmas.List.{take-append-drop}
use Rattle.std.proofs.lemmas.List.Elements.{All-cons, All-contains, All-head, All-nil, All-tail, All-weaker, Contains-append_right}
use Rattle.g_entry.specs.declared.file_rec.FileRec.{FileRec}
use Rattle.g_entry.specs.declared.file_rec.TapeCopy.{TapeCopy}
use Rattle.g_entry.specs.declared.user_rec.UserRec.{UserRec}
use Rattle.g_entry.specs.Rules.{AreFiles, StampsBelow}
use Rattle.g_name.specs.declared.full.Full.{Full}
use Rattle.g_tape.specs.Reel.{Reel}
use Rattle.g_plain.specs.declared.faults.StoreFault.{StoreFault}
use Rattle.g_plain.specs.declared.faults.StoreFault.TheVariants.{LostCopy, LostDirectory}
use Rattle.g_incr.specs.Layout.{Dump}
use Rattle.g_incr.specs.Plan.{numbered_from, with_number}
use Rattle.g_incr.proofs.NumberLemmas.{numbered-append}
use Rattle.g_shelf.specs.CompletedDumps.{all_dumps}
use Rattle.g_store_meaning.specs.Belonging.{BelongWith, KeepsRecord, RackBelongs}
use Rattle.g_store_meaning.specs.Meaning.{DumpedDirectory, Gathers, IsContent, files_in}
use Rattle.g_store_meaning.specs.Reading.{ReelsTold}
use Rattle.g_store_meaning.proofs.OneLemmas.{same_gathered}
use Rattle.g_store_meaning.proofs.GatheredLemmas.{all_front, files_front, gathers_front}
use Rattle.g_restore.specs.Losses.{AreApart, GoTogether, HasPlace, IsFirstLost, IsLostDirectory, LostIsNamed}
use Rattle.g_restore.specs.Restoration.{NothingIsLost}
use Rattle.g_restore.proofs.GatherLemmas.{apart_is}

-- If all directories satisfy the rules together, so do those of the first users.
go_front : (dumps : List Dump) (t : DumpedDirectory dumps) (k : ℕ) → GoTogether dumps t.last (take k t.last.users)
go_front dumps t k =
    let part = gathers_front dumps (take k t.last.users) (drop k t.last.users) t.gathered
    (subst (λ (us : List UserRec). Gathers dumps us t.gathered) (sym (take-append-drop k t.last.users)) t.gathers) in
    let numbered : numbered_from 0 t.gathered ≡ numbered_from 0 part.front ++ numbered_from (0 + length part.front) part.back =
    ap (numbered_from 0) part.are ∙ numbered-append 0 part.front part.back in
    record {
      files = part.front;
      gathers = part.gathers;
      rules = files_front (length t.last.users) (numbered_from 0 part.front) (numbered_from (0 + length part.front) part.back)
          (subst (AreFiles (length t.last.users)) numbered t.rules.among_files);
      dated = all_front (λ r. r.stamp < t.last.next) (numbered_from 0 part.front) (numbered_from (0 + length part.front) part.back)
          (subst (StampsBelow t.last.next) numbered t.dated);
    }

module _ (dumps : List Dump) (t : DumpedDirectory dumps) (apart : AreApart dumps) where
  no_directory : (name : List ℕ) → IsLostDirectory dumps name → ⊥
  no_directory name is =
      let one = t.greatest.greatest is.last is.greatest.there in
      let two = is.greatest.greatest t.last t.greatest.there in
      let last : t.last ≡ is.last = apart t.last is.last t.greatest.there is.greatest.there (omega (arith, one, two)) in
      is.bad (subst (λ (d : Dump). GoTogether dumps d (take (is.number + 1) d.users)) last (go_front dumps t (is.number + 1)))

  -- places that are held without the numbers
  numbers_back : (n : ℕ) (rs : List FileRec) → All (HasPlace dumps) (numbered_from n rs) → All (HasPlace dumps) rs
  numbers_back n [] all = All-nil (HasPlace dumps)
  numbers_back n (r ∷ rs) all =
      All-cons (HasPlace dumps) r rs (All-head (HasPlace dumps) (with_number n r) (numbered_from (n + 1) rs) all)
      (numbers_back (n + 1) rs (All-tail (HasPlace dumps) (with_number n r) (numbered_from (n + 1) rs) all))

  no_copy : (full : Full) (serial : ℕ) → All (HasPlace dumps) (files_in t) → IsFirstLost dumps full serial → ⊥
  no_copy full serial places is =
      let one = t.greatest.greatest is.last is.greatest.there in
      let two = is.greatest.greatest t.last t.greatest.there in
      let last : t.last ≡ is.last = apart t.last is.last t.greatest.there is.greatest.there (omega (arith, one, two)) in
      let same : t.gathered ≡ is.all.files =
      same_gathered dumps (apart_is dumps apart) is.last.users t.gathered is.all.files (subst (λ (d : Dump). Gathers dumps d.users t.gathered) last t.gathers) is.all.gathers in
      let held : All (HasPlace dumps) (is.before ++ is.file ∷ is.behind) = subst (All (HasPlace dumps)) (same ∙ is.there) (numbers_back 0 t.gathered places) in
      is.lost (All-contains (HasPlace dumps) (is.before ++ is.file ∷ is.behind) is.file held
      (Contains-append_right is.before (is.file ∷ is.behind) is.file (0, omega arith, refl)))

-- a record that keeps its text has its place
pub kept_place : (dumps : List Dump) (len : ℕ) (tape : Option TapeCopy) (text : List ℕ) → length text ≡ len → IfSome tape (λ c. IsContent dumps c text)
    → IfSome tape (λ c. (t : List ℕ) × (length t ≡ len) × IsContent dumps c t)
kept_place dumps len None text long is = tt
kept_place dumps len (Some c) text long is = (text, long, is)

abbrev Keeps : (ℕ → List ℕ) → List Dump → FileRec → Type 0
Keeps text dumps r = KeepsRecord (text r.stamp) dumps r

places_kept : (text : ℕ → List ℕ) (dumps : List Dump) (t : DumpedDirectory dumps) → RackBelongs text dumps → All (HasPlace dumps) (files_in t)
places_kept text dumps t rack =
    All-weaker (Keeps text dumps) (HasPlace dumps) (λ r kept. kept_place dumps r.len r.tape (text r.stamp) kept.len kept.copy) (files_in t) (rack.records t)

pub nothing_lost : {A : Type 0} (held : Option (List (List ℕ))) (reels : List Reel) (answer : Result A StoreFault) → LostIsNamed reels answer → ReelsTold reels → BelongWith held reels
    → NothingIsLost answer
nothing_lost held reels (Ok made) names told belong = tt
nothing_lost held reels (Err (LostDirectory user)) names told belong =
    let dumps : List Dump = all_dumps belong.shelf reels in
    let is : IsLostDirectory dumps user = names told belong.shelf belong.shelved belong.rack.apart in
    no_directory dumps (belong.rack.tree is.last is.greatest.there) belong.rack.apart user is
nothing_lost held reels (Err (LostCopy full serial)) names told belong =
    let dumps : List Dump = all_dumps belong.shelf reels in
    let is : IsFirstLost dumps full serial = names told belong.shelf belong.shelved belong.rack.apart in
    let t : DumpedDirectory dumps = belong.rack.tree is.last is.greatest.there in
    no_copy dumps t belong.rack.apart full serial (places_kept belong.text dumps t belong.rack) is
nothing_lost held reels (Err fault) names told belong = tt
