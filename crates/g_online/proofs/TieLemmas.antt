-- What callers know of a filestore, from what ties its memory to the disc.
-- serves: arm (tied), bytes (tied), file_block (tied), is_online, pin (tied), pinned_block (tied), unpin (tied), AdoptedLemmas, BegunLemmas, and 12 more
use Rattle.std.proofs.Common.{◌≡◌, ℕ, ◌+◌, true, false, ap, List, [], length, map, Option, Some, None, refl, sym, ◌∙◌, subst, arith, option_map}
use Rattle.std.specs.Prelude.{All, IfSome, is_some, nat_eq, not, slice_index_or}
use Rattle.std.specs.List.{list_any}
use Rattle.std.specs.Option.{ForSome}
use Rattle.std.proofs.lemmas.Bool.{true≢false}
use Rattle.std.proofs.lemmas.List.{length-map}
use Rattle.std.proofs.lemmas.List.Elements.{All-map, All-weaker}
use Rattle.g_base.specs.Block.{IsBlock, blocks_for}
use Rattle.g_blocks.specs.Pool.{IsInArea}
use Rattle.g_disc.specs.Disc.{DiscState}
use Rattle.g_entry.specs.declared.file_rec.FileRec.{FileRec}
use Rattle.g_slots.specs.declared.side.Side.{Side}
use Rattle.g_slots.specs.Layout.{GateNames, start_of}
use Rattle.g_dirs.specs.Directory.{Directory, FileEntry, IsDirectory}
use Rattle.g_dirs.specs.Image.{StandsFor}
use Rattle.g_dirs.specs.Pages.{Remembered, Remembers}
use Rattle.g_disc_contents.specs.Contents.{File, file_of}
use Rattle.g_disc_contents.specs.Facts.{IsPinOf, IsTied}
use Rattle.g_online.specs.declared.pinned.Pinned.{Pinned}
use Rattle.g_online.specs.Invariant.{AreWhole, IsFileOf, IsKept, IsPinned, IsPooled, IsStored, Memory, PinsAre, WaitsFor, directory_in, facts_of, pin_of, pins_of}

not_told : (a : List (List ℕ)) → (let none : Option (List (List ℕ)) = None in none ≡ Some a) → ⊥
not_told a e = cc

inside : (a b : List (List ℕ)) → (let one : Option (List (List ℕ)) = Some a in one ≡ Some b) → a ≡ b
inside a b e = cc

-- if the blocks of one disc are observable, so are those of the other
pub same_told_is : (x y : Option (List (List ℕ))) (a : List (List ℕ)) → is_some x ≡ is_some y → x ≡ Some a → (b : List (List ℕ)) × (y ≡ Some b)
same_told_is x None a same told =
    let none : is_some x ≡ false = same in
    let some : is_some x ≡ true = ap (λ (h : Option (List (List ℕ))). is_some h) told in absurd (true≢false (sym some ∙ none))
same_told_is x (Some b) a same told = (b, refl)

-- mapping preserves whether something is there
pub some_made : {A B : Type 0} (f : A → B) (o : Option A) → is_some (option_map f o) ≡ is_some o
some_made f None = refl
some_made f (Some x) = refl

-- the record of a file
pub rec_of : (held : Option (List (List ℕ))) (f : FileEntry) → (file_of held f).rec ≡ f.0
rec_of held (rec, None) = refl
rec_of held (rec, Some copy) = refl

-- what holds of each record holds of each file's
pub all_files : (P : FileRec → Type 0) (held : Option (List (List ℕ))) (files : List FileEntry) → All (λ (f : FileEntry). P f.0) files → All (λ (f : File). P f.rec) (map (file_of held) files)
all_files P held files all =
    All-map (λ (f : File). P f.rec) (file_of held) files
    (All-weaker (λ (f : FileEntry). P f.0) (λ (f : FileEntry). P (file_of held f).rec) (λ f is. subst P (sym (rec_of held f)) is) files all)

-- a block of the area is one of the disc's
pub block_at : (size : ℕ) (blocks : List (List ℕ)) → AreWhole size blocks → (k : ℕ) → IsInArea size k → IsBlock (slice_index_or blocks k [])
block_at size blocks whole k area = let high = area.high in whole.1 k [] (omega (arith, whole.0))

pin_tied : (held : Option (List (List ℕ))) (size next : ℕ) (files : List FileEntry) (p : Pinned) → ForSome held (AreWhole size) → IsPinned size next files p
    → IsPinOf (is_some held) next (map (file_of held) files) (pin_of held p)
pin_tied None size next files p whole is = record {
  older = is.older;
  filled = is.filled;
  tells = refl;
  blocks = λ blocks told. absurd (not_told blocks told);
  current = all_files (λ (r : FileRec). r.stamp ≡ p.stamp → r.len ≡ p.len) None files
      (All-weaker (IsFileOf p) (λ (f : FileEntry). f.0.stamp ≡ p.stamp → f.0.len ≡ p.len) (λ f both. λ same. (both same).0) files is.current);
}
pin_tied (Some b) size next files p whole is = record {
  older = is.older;
  filled = is.filled;
  tells = refl;
  blocks = λ blocks told.
      subst (λ (bs : List (List ℕ)). (length bs ≡ blocks_for p.len) × All IsBlock bs) (inside (map (λ k. slice_index_or b k []) p.blocks) blocks told) (
        length-map p.blocks (λ (k : ℕ). slice_index_or b k []) ∙ is.count,
        All-map IsBlock (λ k. slice_index_or b k []) p.blocks (All-weaker (IsInArea size) (λ k. IsBlock (slice_index_or b k [])) (block_at size b (whole b refl)) p.blocks is.area),
      );
  current = all_files (λ (r : FileRec). r.stamp ≡ p.stamp → r.len ≡ p.len) (Some b) files
      (All-weaker (IsFileOf p) (λ (f : FileEntry). f.0.stamp ≡ p.stamp → f.0.len ≡ p.len) (λ f both. λ same. (both same).0) files is.current);
}

pins_tied : (held : Option (List (List ℕ))) (size next : ℕ) (files : List FileEntry) (touched : List ℕ) (pins : Option (List Pinned)) → ForSome held (AreWhole size) → PinsAre pins size next files touched
    → IfSome (pins_of held pins) (All (IsPinOf (is_some held) next (map (file_of held) files)))
pins_tied held size next files touched None whole is = tt
pins_tied held size next files touched (Some pins) whole is =
    All-map (IsPinOf (is_some held) next (map (file_of held) files)) (pin_of held) pins
    (All-weaker (IsPinned size next files) (λ (p : Pinned). IsPinOf (is_some held) next (map (file_of held) files) (pin_of held p)) (λ p. pin_tied held size next files p whole) pins is.each)

-- WHAT CALLERS KNOW
pub tied : (disc : DiscState) (m : Memory) → IsKept disc m → IsTied (facts_of disc m)
tied disc m kept = record {
  size = kept.size;
  most = kept.most;
  contents = λ live. refl;
  rules = λ live. (kept.agreed live).stored.rules;
  records = λ live. (kept.agreed live).stored.records;
  stands = λ live. (kept.agreed live).stored.stands;
  pages = λ live. (kept.agreed live).stored.remembers;
  changed_are = λ live. (kept.agreed live).noted.changed_are;
  touched_are = λ live. (kept.agreed live).noted.touched_are;
  touched_changed = λ live. (kept.agreed live).noted.touched_changed;
  waits = λ live. all_files (WaitsFor m.changed) disc.held (facts_of disc m).layout.directory.files (kept.agreed live).noted.waits;
  pinned = λ live. pins_tied disc.held disc.size m.head.next_stamp (facts_of disc m).layout.directory.files m.touched m.pins kept.whole (kept.agreed live).pins;
  gate = λ live. (kept.agreed live).stored.gate;
  whole = kept.whole;
}

-- IF THE DISC HOLDS WHAT IT HELD memory agrees with it as before
stored_still : (before after : DiscState) (side : Side) (pages : Remembered) (d : Directory) → after.held ≡ before.held → after.size ≡ before.size → IsStored before side pages d → IsStored after side pages d
stored_still before after side pages d held size was = record {
  gate = subst (GateNames side) (sym held) was.gate;
  remembers = subst (λ (h : Option (List (List ℕ))). ForSome h (Remembers pages)) (sym held) was.remembers;
  covers = was.covers;
  stands = subst (λ (h : Option (List (List ℕ))). ForSome h (λ blocks. StandsFor blocks d)) (sym held) was.stands;
  records = was.records;
  rules = subst (λ (n : ℕ). IsDirectory n d) (sym size) was.rules;
}

pub kept_still : (before after : DiscState) (m : Memory) → after.held ≡ before.held → after.size ≡ before.size → after.dropped ≡ before.dropped → IsKept before m → IsKept after m
kept_still before after m held size dropped kept =
    let low = kept.size in
    let high = kept.most in
    record {
      size = omega arith;
      most = omega arith;
      whole = subst (λ (h : Option (List (List ℕ))). ForSome h (AreWhole after.size)) (sym held) (subst (λ (n : ℕ). ForSome before.held (AreWhole n)) (sym size) kept.whole);
      agreed = λ live.
          let was = kept.agreed live in
          record {
            stored = stored_still before after m.side m.pages (directory_in m) held size was.stored;
            copies = was.copies;
            pool = subst (λ (n : ℕ). IsPooled n m.pins (directory_in m).files m.pool) (sym size) was.pool;
            noted = was.noted;
            pins = subst (λ (n : ℕ). PinsAre m.pins n m.head.next_stamp (directory_in m).files m.touched) (sym size) was.pins;
            remembered = λ side k page there. ap (λ (ks : List ℕ). not (list_any (nat_eq (start_of side + k)) ks)) dropped ∙ was.remembered side k page there;
          };
    }
