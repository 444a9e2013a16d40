-- The room that the pool counts is that of the files and the pinned versions.
-- serves: room, UnjamLemmas, WrittenLemmas
use Rattle.std.proofs.Common.{◌≡◌, ℕ, ◌+◌, ◌==◌, Bool, true, false, ◌||◌, List, [], ◌∷◌, length, map, filter, not, Option, Some, None, All, refl, sym, ◌∙◌, ap, arith, if◌then◌else◌, cond, length-append}
use Rattle.std.specs.List.{flat_map}
use Rattle.std.proofs.lemmas.List.Elements.{All-head, All-tail}
use Rattle.std.proofs.lemmas.List.Sums.{sum_by-cons}
use Rattle.g_base.specs.Block.{blocks_for}
use Rattle.g_blocks.specs.Pool.{free_count}
use Rattle.g_disc.specs.Disc.{DiscState}
use Rattle.g_entry.specs.declared.file_rec.FileRec.{FileRec}
use Rattle.g_dirs.specs.Directory.{FileEntry, LiesSomewhere, all_places, places_of}
use Rattle.g_disc_contents.specs.Contents.{File, file_of}
use Rattle.g_disc_contents.specs.Facts.{Pin, online_blocks, pinned_blocks, room_of, is_current as is_current_file}
use Rattle.g_online.specs.Room.{FitsDisc}
use Rattle.g_online.specs.declared.pinned.Pinned.{Pinned}
use Rattle.g_online.specs.Invariant.{IsKept, IsPinned, Memory, PinsAre, directory_in, facts_of, is_current, orphans, pin_of, pins_of}
use Rattle.g_online.proofs.ContentLemmas.{Told, rec_is}

-- the blocks of one file
blocks_one : (held : Told) (e : FileEntry) → LiesSomewhere e → (let f = file_of held e in if f.online then blocks_for f.rec.len else 0) ≡ length (places_of e)
blocks_one held (rec, None) lies = refl
blocks_one held (rec, Some copy) lies = sym lies.copy.count

abbrev file_blocks : File → ℕ
file_blocks f = if f.online then blocks_for f.rec.len else 0

pub blocks_are : (held : Told) (files : List FileEntry) → All LiesSomewhere files → online_blocks (map (file_of held) files) ≡ length (all_places files)
blocks_are held [] lie = refl
blocks_are held (e ∷ files) lie =
    omega (
      arith,
      sum_by-cons file_blocks (file_of held e) (map (file_of held) files),
      length-append (places_of e) (all_places files),
      blocks_one held e (All-head LiesSomewhere e files lie),
      blocks_are held files (All-tail LiesSomewhere e files lie),
    )

-- the versions that are files'
current_same : (held : Told) (files : List FileEntry) (s : ℕ) → is_current_file (map (file_of held) files) s ≡ is_current files s
current_same held [] s = refl
current_same held (e ∷ files) s =
    ap (λ (r : FileRec). r.stamp == s || is_current_file (map (file_of held) files) s) (rec_is held e)
    ∙ ap (λ (b : Bool). e.0.stamp == s || b) (current_same held files s)

lost_one : (size next : ℕ) (held : Told) (files : List FileEntry) (p : Pinned) (pins : List Pinned) → IsPinned size next files p
    → length (orphans (Some (p ∷ pins)) files) ≡ (if is_current_file (map (file_of held) files) p.stamp then 0 else blocks_for p.len) + length (orphans (Some pins) files)
lost_one size next held files p pins is = by_current (is_current files p.stamp) ∙ ap (λ (b : Bool). (if b then 0 else blocks_for p.len) + length (orphans (Some pins) files)) (sym (current_same held files p.stamp))
  where
    by_current : (b : Bool) → length (flat_map (λ (q : Pinned). q.blocks) (cond (not b) (p ∷ filter (λ q. not (is_current files q.stamp)) pins) (filter (λ q. not (is_current files q.stamp)) pins)))
        ≡ (if b then 0 else blocks_for p.len) + length (orphans (Some pins) files)
    by_current true = omega arith
    by_current false = let count = is.count in omega (arith, length-append p.blocks (orphans (Some pins) files), count)

lost_all : (size next : ℕ) (held : Told) (files : List FileEntry) (pins : List Pinned) → All (IsPinned size next files) pins
    → pinned_blocks (Some (map (pin_of held) pins)) (map (file_of held) files) ≡ length (orphans (Some pins) files)
lost_all size next held files [] are = refl
lost_all size next held files (p ∷ pins) are =
    let fs = map (file_of held) files in
    omega (
      arith,
      sum_by-cons (λ (q : Pin). if is_current_file fs q.stamp then 0 else blocks_for q.len) (pin_of held p) (map (pin_of held) pins),
      lost_one size next held files p pins (All-head (IsPinned size next files) p pins are),
      lost_all size next held files pins (All-tail (IsPinned size next files) p pins are),
    )

pub lost_are : (size next : ℕ) (held : Told) (files : List FileEntry) (touched : List ℕ) (pins : Option (List Pinned)) → PinsAre pins size next files touched
    → pinned_blocks (pins_of held pins) (map (file_of held) files) ≡ length (orphans pins files)
lost_are size next held files touched None are = refl
lost_are size next held files touched (Some pins) are = lost_all size next held files pins are.each

-- THE ROOM
room_counts : (disc : DiscState) (m : Memory) → IsKept disc m → m.live ≡ true → (free_count m.pool ≡ room_of (facts_of disc m)) × FitsDisc (facts_of disc m)
room_counts disc m kept live =
    let was = kept.agreed live in
    let files = (directory_in m).files in
    let count = was.pool.fresh.count in
    let both = length-append (all_places files) (orphans m.pins files) in
    let blocks = blocks_are disc.held files was.stored.rules.lies in
    let lost = lost_are disc.size m.head.next_stamp disc.held files m.touched m.pins was.pins in
    (omega (arith, count, both, blocks, lost), omega (arith, count, both, blocks, lost))

pub room_is : (disc : DiscState) (m : Memory) → IsKept disc m → m.live ≡ true → free_count m.pool ≡ room_of (facts_of disc m)
room_is disc m kept live = (room_counts disc m kept live).0

pub room_fits : (disc : DiscState) (m : Memory) → IsKept disc m → m.live ≡ true → FitsDisc (facts_of disc m)
room_fits disc m kept live = (room_counts disc m kept live).1
