-- The dumps read from a rack are those of its reels.
-- serves: capacity_of, length_of, see_rack (few, known, seen), CompareLemmas, CopyLemmas, ReadLemmas
use Rattle.std.proofs.Common.{◌≡◌, ◌<◌, List, length, get_or, map, sym, ◌∙◌, ap, arith, subst, All}
use Rattle.std.specs.Prelude.{AllPairs}
use Rattle.std.specs.List.Sorted.{IsStrictlyIncreasing}
use Rattle.std.proofs.lemmas.List.{get_or-map, length-map}
use Rattle.std.proofs.lemmas.List.Kept.{AllPairs-from_increasing}
use Rattle.g_tape.specs.Rack.{AreReels, Rack}
use Rattle.g_tape.specs.Reads.{unread}
use Rattle.g_tape.specs.Reel.{IsReel, Reel}
use Rattle.g_incr.specs.Layout.{Dump}
use Rattle.g_shelf.specs.CompletedDumps.{all_dumps}
use Rattle.g_shelf.proofs.RackLemmas.{serials_kept}
use Rattle.g_store_meaning.specs.Meaning.{told_reels}
use Rattle.g_restore.specs.declared.dumps.Found.{Found}
use Rattle.g_restore.specs.KnownDumps.{AreKnown, known, known_of}
use Rattle.g_restore.specs.Reels.{AreOnReels}
use Rattle.g_restore.proofs.ReelLemmas.{all_of_reels, all_rules, on_unread}
use Rattle.g_restore.proofs.KnownLemmas.{have_few}
use Rattle.g_restore.specs.Gathering.{HasFew}
use Rattle.g_look.specs.SeenDumps.{AreSeen, IsShort, OtherSerial}
use Rattle.g_look.proofs.ShelfLemmas.{is_shelf}

-- serials of reels that rise are apart
apart_serials : (rs : List Reel) → IsStrictlyIncreasing (map (λ (r : Reel). r.serial) rs) → AllPairs OtherSerial rs
apart_serials rs rising i j d below within same =
    let long = length-map rs (λ (r : Reel). r.serial) in
    let at_i = get_or-map (λ (r : Reel). r.serial) rs i d 0 (omega (arith, below, within)) in
    let at_j = get_or-map (λ (r : Reel). r.serial) rs j d 0 within in
    let less = AllPairs-from_increasing (map (λ (r : Reel). r.serial) rs) rising i j 0 below (omega (arith, long, within)) in
    let no : ⊥ = omega (arith, same, at_i, at_j, less) in no

short_reel : (r : Reel) → IsReel r → IsShort (unread r)
short_reel r is blocks told =
    let long = is.told blocks told in
    let within = is.within in
    let most = is.sized_most in
    omega (arith, long, within, most)

short_reels : (rs : List Reel) → All IsReel rs → All IsShort (map unread rs)
short_reels rs all k d within =
    let long = length-map rs unread in
    let inside : k < length rs = omega (arith, long, within) in
    let at : get_or (map unread rs) k d ≡ unread (get_or rs k d) = get_or-map unread rs k d d inside in
    subst IsShort (sym at) (short_reel (get_or rs k d) (all k d inside))

pub told_apart : (rack : Rack) → AreReels rack.reels → AllPairs OtherSerial (told_reels rack)
told_apart rack are = apart_serials (map unread rack.reels) (subst IsStrictlyIncreasing (sym (serials_kept rack.reels)) are.rising)

-- WHAT WAS READ of a rack is seen
pub are_seen : (rack : Rack) (found : List Found) → AreReels rack.reels → (dumps : List Dump) × AreOnReels rack.reels dumps × (map known found ≡ map known_of dumps) → AreSeen (told_reels rack) found
are_seen rack found are (dumps, on, same) = record {
  shelf = λ told. let it = is_shelf (told_reels rack) dumps told_on apart in (it.shelf, it.shelved);
  seen = λ told shelf shelved.
      let all : dumps ≡ all_dumps shelf (told_reels rack) = all_of_reels (told_reels rack) dumps shelf told shelved told_on in
      record {
        told = told;
        apart = apart;
        short = short_reels rack.reels are.each;
        shelved = shelved;
        known = record {
          same = same ∙ ap (map known_of) all;
          rules = all_rules (told_reels rack) (all_dumps shelf (told_reels rack)) (subst (AreOnReels (told_reels rack)) all told_on);
        };
      };
}
  where
    told_on : AreOnReels (told_reels rack) dumps
    told_on = on_unread rack.reels dumps on

    apart : AllPairs OtherSerial (told_reels rack)
    apart = apart_serials (map unread rack.reels) (subst IsStrictlyIncreasing (sym (serials_kept rack.reels)) are.rising)

pub few_seen : (rack : Rack) (found : List Found) → (dumps : List Dump) × AreOnReels rack.reels dumps × (map known found ≡ map known_of dumps) → All HasFew found
few_seen rack found (dumps, on, same) = have_few found dumps same (all_rules rack.reels dumps on)

pub known_seen : (rack : Rack) (found : List Found) → (dumps : List Dump) × AreOnReels rack.reels dumps × (map known found ≡ map known_of dumps) → (dumps : List Dump) × AreKnown found dumps
known_seen rack found (dumps, on, same) = (dumps, record { same = same; rules = all_rules rack.reels dumps on })
