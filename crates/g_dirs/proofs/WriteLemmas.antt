-- A commit block by block, and the directory that the disc holds after it.
-- serves: fill (counts, ok), write_changed (all, marks, ok, other_marks, others, remembers, stopped), write_page (ok, pages), Surviving
use Rattle.std.proofs.Common.{◌≡◌, ◌≢◌, ℕ, ◌+◌, ◌<◌, ◌≤◌, ◌⊎◌, if◌then◌else◌, Bool, false, replicate, List, length, Option, Some, Result, Ok, Err, refl, sym, ◌∙◌, ap, subst, inl, inr, arith, slice_get, true}
use Rattle.std.specs.Option.{ForSome}
use Rattle.std.specs.Prelude.{OnErr}
use Rattle.std.proofs.lemmas.Bool.{cases_lt}
use Rattle.std.proofs.lemmas.Option.{same_Some}
use Rattle.g_base.specs.Counts.{RoseBy}
use Rattle.g_base.specs.ToldContent.{Changes}
use Rattle.g_base.proofs.CountLemmas.{RoseBy-none, RoseBy-then}
use Rattle.g_base.proofs.ToldLemmas.{Changes-none, Changes-then, Changes-weaken, told_after}
use Rattle.g_blocks.proofs.Marks.{slice_get-set_other}
use Rattle.g_disc.specs.Disc.{DiscState, WritesOnly}
use Rattle.g_disc.proofs.CallLemmas.{stands_later, then_later}
use Rattle.g_entry.specs.declared.format.Format.TheVariants.{Two}
use Rattle.g_slots.specs.declared.side.Side.{Side}
use Rattle.g_slots.specs.declared.side.Side.TheVariants.{A, B}
use Rattle.g_slots.specs.Commit.{Flips, KeepsCurrent, Prepares}
use Rattle.g_slots.specs.Layout.{gate_side, other, slot}
use Rattle.g_slots.proofs.OneWrite.{length-slot}
use Rattle.g_dirs.specs.declared.fault.DirsFault.{DirsFault}
use Rattle.g_dirs.specs.Commit.{NewDirectory, OldOrNew}
use Rattle.g_dirs.specs.Directory.{AreRecords, Directory, IsDirectory}
use Rattle.g_dirs.specs.Image.{StandsFor, block_of}
use Rattle.g_dirs.specs.Marks.{IsNext}
use Rattle.g_dirs.specs.Pages.{Covers, KeepsMarks, LosesMarks, Remembered, Remembers, RemembersAll, RemembersPage, is_page, is_remembered, marks_of, pages_of, unwritten}
use Rattle.g_dirs.specs.Writing.{HoldsFirst, RemembersFirst, WroteFirst}
use Rattle.g_dirs.proofs.PageLemmas.{is_remembered-true, remembers_same, same_marks, same_pages_of, set-same, slice_get-set_same, unwritten_more, unwritten_none, unwritten_past}

pub other-other : (side : Side) → other (other side) ≡ side
other-other A = refl
other-other B = refl

pub each_side : (P : Side → Type 0) (side : Side) → P side → P (other side) → (s : Side) → P s
each_side P A here there A = here
each_side P A here there B = there
each_side P B here there A = there
each_side P B here there B = here

pub stays : (side : Side) (blocks : List (List ℕ)) → KeepsCurrent side blocks blocks
stays side blocks = record { size = refl; gate = refl; kept = refl; copies = refl }

pub stays-then : {side : Side} {a b c : List (List ℕ)} → KeepsCurrent side a b → KeepsCurrent side b c → KeepsCurrent side a c
stays-then first second = record {
  size = second.size ∙ first.size;
  gate = second.gate ∙ first.gate;
  kept = second.kept ∙ first.kept;
  copies = second.copies ∙ first.copies;
}

-- a block that is remembered with that content needs no write
pub prepared_already : (side : Side) (k : ℕ) (block : List ℕ) (pages : Remembered) (held : Option (List (List ℕ))) → is_remembered (pages_of (other side) pages) k block ≡ true
    → ForSome held (Remembers pages) → Changes (Prepares side k block) held held
prepared_already side k block pages held is remembers =
    Changes-none (Prepares side k block) held held refl
    (λ b was. record {
      kept = stays side b;
      written = sym (set-same (slot (other side) b) k block ((remembers b was).block (other side) k block (is_remembered-true (pages_of (other side) pages) k block is)));
    })

pub remembered_already : (side : Side) (k : ℕ) (block : List ℕ) (pages : Remembered) → is_remembered (pages_of side pages) k block ≡ true → RemembersPage side k block pages pages
remembered_already side k block pages is = record {
  here = is_remembered-true (pages_of side pages) k block is;
  rest = λ j differs. refl;
  opposite = refl;
  marks = record { a = refl; b = refl };
}

-- what is remembered is on the disc
pub remembers_first : (side : Side) (d : Directory) (n : ℕ) (old new : Remembered) (a b : List (List ℕ)) → Remembers old a → HoldsFirst side d n a b → RemembersFirst side d n old new → Remembers new b
remembers_first side d n old new a b was holds pages = record {
  block = each_side (λ s. (k : ℕ) (page : List ℕ) → slice_get (pages_of s new) k ≡ Some (Some page) → slice_get (slot s b) k ≡ Some page) side
      (λ k page there.
      ap (λ (blocks : List (List ℕ)). slice_get blocks k) holds.kept.kept
      ∙ was.block side k page (ap (λ (ps : List (Option (List ℕ))). slice_get ps k) (sym pages.kept) ∙ there))
      (λ k page there.
      elim (cases_lt k n) [
        | inl below ↦
            let same : page ≡ block_of Two d k = same_Some page (block_of Two d k) (same_Some (Some page) (Some (block_of Two d k)) (sym there ∙ pages.here k below)) in
            holds.here k below ∙ ap Some (sym same)
        | inr above ↦ holds.rest k above ∙ was.block (other side) k page (sym (pages.rest k above) ∙ there)
      ]);
}

-- one block more
holds_more : (side : Side) (d : Directory) (k : ℕ) (a b c : List (List ℕ)) → k < 1088 → 2177 ≤ length a → HoldsFirst side d k a b → Prepares side k (block_of Two d k) b c → HoldsFirst side d (k + 1) a c
holds_more side d k a b c below long holds step =
    let old = slot (other side) b in
    let same = holds.kept.size in
    let there : k < length old = omega (arith, length-slot (other side) b (omega arith)) in
    let at : slice_get (slot (other side) c) k ≡ Some (block_of Two d k) =
    ap (λ (blocks : List (List ℕ)). slice_get blocks k) step.written ∙ slice_get-set_same old k (block_of Two d k) there in
    let others : (j : ℕ) → j ≢ k → slice_get (slot (other side) c) j ≡ slice_get old j =
    λ j differs. ap (λ (blocks : List (List ℕ)). slice_get blocks j) step.written ∙ slice_get-set_other old k j (block_of Two d k) differs in
    record {
      kept = stays-then holds.kept step.kept;
      here = λ j before.
          elim (cases_lt j k) [
            | inl less ↦ others j (omega arith) ∙ holds.here j less
            | inr reached ↦
                let is : k ≡ j = omega arith in subst (λ (i : ℕ). slice_get (slot (other side) c) i ≡ Some (block_of Two d i)) is at
          ];
      rest = λ j above. others j (omega arith) ∙ holds.rest j (omega arith);
    }

remembers_more : (side : Side) (d : Directory) (k : ℕ) (old mid new : Remembered) → RemembersFirst side d k old mid → RemembersPage (other side) k (block_of Two d k) mid new → RemembersFirst side d (k + 1) old new
remembers_more side d k old mid new so_far page = record {
  here = λ j before.
      elim (cases_lt j k) [
        | inl less ↦ page.rest j (omega arith) ∙ so_far.here j less
        | inr reached ↦
            let is : k ≡ j = omega arith in subst (λ (i : ℕ). slice_get (pages_of (other side) new) i ≡ Some (Some (block_of Two d i))) is page.here
      ];
  rest = λ j above. page.rest j (omega arith) ∙ so_far.rest j (omega arith);
  kept = subst (λ (s : Side). pages_of s new ≡ pages_of s mid) (other-other side) page.opposite ∙ so_far.kept;
}

pub wrote_none : (side : Side) (d : Directory) (disc : DiscState) (pages : Remembered) → WroteFirst side d 0 disc disc pages pages
wrote_none side d disc pages = record {
  content = Changes-none (HoldsFirst side d 0) disc.held disc.held refl (λ b was. record { kept = stays side b; here = λ k below. absurd (omega arith); rest = λ k above. refl });
  pages = record { here = λ k below. absurd (omega arith); rest = λ k above. refl; kept = refl };
  writes = subst (λ (n : ℕ). RoseBy n disc.writes disc.writes) (sym (unwritten_none d (pages_of (other side) pages))) (RoseBy-none refl);
  later = stands_later refl;
  size = refl;
  read_faults = refl;
  write_faults = refl;
  arms = refl;
}

pub wrote_more : (side : Side) (d : Directory) (k : ℕ) (x y z : DiscState) (old mid new : Remembered) (u : Unit {0}) → k < 1088 → 2177 < x.size
    → ((a : List (List ℕ)) → x.held ≡ Some a → length a ≡ x.size)
    → WroteFirst side d k x y old mid → Changes (Prepares side k (block_of Two d k)) y.held z.held
    → WritesOnly {T = Unit {0}} {E = DirsFault} (if is_remembered (pages_of (other side) mid) k (block_of Two d k) then 0 else 1) y z (Ok u)
    → RemembersPage (other side) k (block_of Two d k) mid new → WroteFirst side d (k + 1) x z old new
wrote_more side d k x y z old mid new u below large long so_far step counts page =
    let block = block_of Two d k in
    let before = pages_of (other side) old in
    let sum : unwritten d before k + (if is_page block (slice_get (pages_of (other side) mid) k) then 0 else 1) ≡ unwritten d before (k + 1) =
    ap (λ (p : Option (Option (List ℕ))). unwritten d before k + (if is_page block p then 0 else 1)) (so_far.pages.rest k (omega arith)) ∙ sym (unwritten_more d before k) in
    record {
      content = Changes-then so_far.content step (λ a b c told. holds_more side d k a b c below (let l = long a told in omega arith));
      pages = remembers_more side d k old mid new so_far.pages page;
      writes = subst (λ (n : ℕ). RoseBy n x.writes z.writes) sum (RoseBy-then so_far.writes counts.writes);
      later = then_later so_far.later counts.later;
      size = counts.size ∙ so_far.size;
      read_faults = counts.read_faults ∙ so_far.read_faults;
      write_faults = counts.kept ∙ so_far.write_faults;
      arms = counts.arms ∙ so_far.arms;
    }

-- blocks that are remembered as the directory's are skipped
holds_past : (side : Side) (d : Directory) (k n : ℕ) (old : Remembered) (a b : List (List ℕ)) → k ≤ n → Remembers old a
    → ((j : ℕ) → k ≤ j → j < n → slice_get (pages_of (other side) old) j ≡ Some (Some (block_of Two d j))) → HoldsFirst side d k a b → HoldsFirst side d n a b
holds_past side d k n old a b forth was there holds = record {
  kept = holds.kept;
  here = λ j below.
      elim (cases_lt j k) [
        | inl less ↦ holds.here j less
        | inr reached ↦ holds.rest j reached ∙ was.block (other side) j (block_of Two d j) (there j reached below)
      ];
  rest = λ j above. holds.rest j (omega arith);
}

remembers_past : (side : Side) (d : Directory) (k n : ℕ) (old new : Remembered) → k ≤ n
    → ((j : ℕ) → k ≤ j → j < n → slice_get (pages_of (other side) old) j ≡ Some (Some (block_of Two d j))) → RemembersFirst side d k old new → RemembersFirst side d n old new
remembers_past side d k n old new forth there so_far = record {
  here = λ j below.
      elim (cases_lt j k) [
        | inl less ↦ so_far.here j less
        | inr reached ↦ so_far.rest j reached ∙ there j reached below
      ];
  rest = λ j above. so_far.rest j (omega arith);
  kept = so_far.kept;
}

pub wrote_past : (side : Side) (d : Directory) (k n : ℕ) (x y : DiscState) (old new : Remembered) → k ≤ n → ForSome x.held (Remembers old)
    → ((j : ℕ) → k ≤ j → j < n → slice_get (pages_of (other side) old) j ≡ Some (Some (block_of Two d j))) → WroteFirst side d k x y old new → WroteFirst side d n x y old new
wrote_past side d k n x y old new forth was there so_far = record {
  content = Changes-weaken so_far.content (λ a b told holds. holds_past side d k n old a b forth (was a told) there holds);
  pages = remembers_past side d k n old new forth there so_far.pages;
  writes = subst (λ (m : ℕ). RoseBy m x.writes y.writes) (sym (unwritten_past d (pages_of (other side) old) k n forth there)) so_far.writes;
  later = so_far.later;
  size = so_far.size;
  read_faults = so_far.read_faults;
  write_faults = so_far.write_faults;
  arms = so_far.arms;
}

-- the blocks up to the next mark are remembered as the directory's
pub between : (side : Side) (d : Directory) (k n : ℕ) (old now : Remembered) → KeepsMarks old now → Covers d side old → IsNext (marks_of side now) k n
    → (j : ℕ) → k ≤ j → j < n → slice_get (pages_of side old) j ≡ Some (Some (block_of Two d j))
between side d k n old now marks covers next j reached below =
    let within = next.within in
    covers.block j (omega arith) (ap (λ (ms : List Bool). slice_get ms j) (sym (same_marks side old now marks)) ∙ next.passed j reached below)

-- no block before the first mark is written
pub wrote_to_first : (side : Side) (d : Directory) (n : ℕ) (disc : DiscState) (pages : Remembered) → ForSome disc.held (Remembers pages) → Covers d (other side) pages
    → IsNext (marks_of (other side) pages) 0 n → WroteFirst side d n disc disc pages pages
wrote_to_first side d n disc pages was covers next =
    wrote_past side d 0 n disc disc pages pages (omega arith) was
    (between (other side) d 0 n pages pages (record { a = refl; b = refl }) covers next)
    (wrote_none side d disc pages)

-- what is remembered so far is on the disc
pub remembers_now : (side : Side) (d : Directory) (n : ℕ) (x y : DiscState) (old new : Remembered) → WroteFirst side d n x y old new → ForSome x.held (Remembers old) → ForSome y.held (Remembers new)
remembers_now side d n x y old new so_far was =
    told_after so_far.content (λ b a told holds. remembers_first side d n old new b a (was b told) holds so_far.pages)

-- the directory after the gate was written
pub stands_for : (side : Side) (d : Directory) (size : ℕ) (a b c : List (List ℕ)) → AreRecords Two d → IsDirectory size d → length a ≡ size → HoldsFirst side d 1088 a b → Flips b c → gate_side c ≡ other side → StandsFor c d
stands_for side d size a b c records rules long holds flips gate = record {
  format = Two;
  image = record {
    block = λ k below.
        ap (λ (s : Side). slice_get (slot s c) k) gate ∙ ap (λ (blocks : List (List ℕ)). slice_get blocks k) (flips.slots (other side)) ∙ holds.here k below;
  };
  records = records;
  rules = subst (λ (n : ℕ). IsDirectory n d) (sym (flips.size ∙ holds.kept.size ∙ long)) rules;
}

pub new_directory : (side : Side) (d : Directory) (size : ℕ) (a b c : List (List ℕ)) → AreRecords Two d → IsDirectory size d → length a ≡ size → HoldsFirst side d 1088 a b → Flips b c → gate_side c ≡ other side → NewDirectory d a c
new_directory side d size a b c records rules long holds flips gate = record {
  stands = stands_for side d size a b c records rules long holds flips gate;
  copies = flips.copies ∙ holds.kept.copies;
  size = flips.size ∙ holds.kept.size;
}

-- if only the other slot was written, the current one is unchanged
pub old_stands : (side : Side) (d : Directory) (a b : List (List ℕ)) → gate_side a ≡ side → KeepsCurrent side a b → OldOrNew d a b
old_stands side d a b gate kept = record {
  whole = inl
      (ap (λ (s : Side). slot s b) (kept.gate ∙ gate) ∙ kept.kept ∙ ap (λ (s : Side). slot s a) (sym gate));
  copies = kept.copies;
  size = kept.size;
}

sides : (side s : Side) → (s ≡ side) ⊎ (s ≡ other side)
sides A A = inl refl
sides A B = inr refl
sides B A = inr refl
sides B B = inl refl

-- if the gate was written too, whatever it is now
pub old_or_new : (side : Side) (d : Directory) (size : ℕ) (a b c : List (List ℕ)) → AreRecords Two d → IsDirectory size d → length a ≡ size → gate_side a ≡ side → HoldsFirst side d 1088 a b → Flips b c → OldOrNew d a c
old_or_new side d size a b c records rules long gate holds flips = record {
  whole =
      elim (sides side (gate_side c)) [
        | inl old ↦
            inl
            (ap (λ (s : Side). slot s c) old ∙ flips.slots side ∙ holds.kept.kept ∙ ap (λ (s : Side). slot s a) (sym gate))
        | inr new ↦ inr (stands_for side d size a b c records rules long holds flips new)
      ];
  copies = flips.copies ∙ holds.kept.copies;
  size = flips.size ∙ holds.kept.size;
}

pub remembers-flipped : (pages : Remembered) (b c : List (List ℕ)) → Flips b c → Remembers pages b → Remembers pages c
remembers-flipped pages b c flips was = record {
  block = λ side k page there. ap (λ (blocks : List (List ℕ)). slice_get blocks k) (flips.slots side) ∙ was.block side k page there;
}

-- two changes, with facts about the content at both ends
then_told : {R S T : List (List ℕ) → List (List ℕ) → Type 0} {x y z : Option (List (List ℕ))} → Changes R x y → Changes S y z
    → ((a b c : List (List ℕ)) → x ≡ Some a → z ≡ Some c → R a b → S b c → T a c) → Changes T x z
then_told first second both = record {
  told = λ a was.
      let mid = first.told a was in
      let end = second.told mid.0 mid.1 in (end.0, end.1, both a mid.0 end.0 was end.1 mid.2 end.2);
  untold = λ none. second.untold (first.untold none);
}

-- a whole commit
module _ (side : Side) (d : Directory) (x y z : DiscState) (old new : Remembered) where
  pub committed : AreRecords Two d → IsDirectory x.size d → ((a : List (List ℕ)) → x.held ≡ Some a → length a ≡ x.size) → WroteFirst side d 1088 x y old new
      → Changes Flips y.held z.held → ForSome z.held (λ blocks. gate_side blocks ≡ other side) → Changes (NewDirectory d) x.held z.held
  committed records rules long wrote flips gate =
      then_told wrote.content flips (λ a b c was now holds flip. new_directory side d x.size a b c records rules (long a was) holds flip (gate c now))

  pub stopped_at_gate : AreRecords Two d → IsDirectory x.size d → ((a : List (List ℕ)) → x.held ≡ Some a → length a ≡ x.size) → ForSome x.held (λ blocks. gate_side blocks ≡ side)
      → WroteFirst side d 1088 x y old new → Changes Flips y.held z.held → Changes (OldOrNew d) x.held z.held
  stopped_at_gate records rules long gate wrote flips =
      Changes-then wrote.content flips (λ a b c was holds flip. old_or_new side d x.size a b c records rules (long a was) (gate a was) holds flip)

  pub stopped_before_gate : ForSome x.held (λ blocks. gate_side blocks ≡ side) → Changes (KeepsCurrent side) x.held y.held → Changes (OldOrNew d) x.held y.held
  stopped_before_gate gate kept = Changes-weaken kept (λ a b was keeps. old_stands side d a b (gate a was) keeps)

  pub remembers_behind : WroteFirst side d 1088 x y old new → ForSome x.held (Remembers old) → Changes Flips y.held z.held → ForSome z.held (Remembers new)
  remembers_behind wrote was flips =
      told_after flips (λ b c told flip. remembers-flipped new b c flip (remembers_now side d 1088 x y old new wrote was b told))

-- clearing marks doesn't affect what is remembered
pub remembers_unmarked : (side : Side) (old new : Remembered) (held : Option (List (List ℕ))) → LosesMarks side old new → ForSome held (Remembers old) → ForSome held (Remembers new)
remembers_unmarked side old new held loses was = λ b told. remembers_same old new b loses.pages (was b told)

-- AFTER ALL BLOCKS
pub wrote_whole : (side : Side) (d : Directory) (n : ℕ) (x y : DiscState) (old new : Remembered) → n ≤ 1088 → 1088 ≤ n → WroteFirst side d n x y old new → WroteFirst side d 1088 x y old new
wrote_whole side d n x y old new within all wrote =
    let same : n ≡ 1088 = omega arith in subst (λ (m : ℕ). WroteFirst side d m x y old new) same wrote

pub wrote_counts : (side : Side) (d : Directory) (n : ℕ) (x y : DiscState) (old new : Remembered) (u : Unit {0}) → WroteFirst side d n x y old new
    → WritesOnly {T = Unit {0}} {E = DirsFault} (unwritten d (pages_of (other side) old) n) x y (Ok u)
wrote_counts side d n x y old new u wrote = record {
  size = wrote.size;
  read_faults = wrote.read_faults;
  arms = wrote.arms;
  writes = wrote.writes;
  later = wrote.later;
  kept = wrote.write_faults;
  rose = tt;
}

-- what is remembered, and the marks, after the gate was written
module _ (side next now : Side) (d : Directory) (old mid new : Remembered) (to : next ≡ other side) (is : now ≡ other side) (loses : LosesMarks next mid new) where
  pub remembers_whole : RemembersFirst side d 1088 old mid → RemembersAll d (pages_of now new)
  remembers_whole first = record {
    block = λ k below.
        ap (λ (ps : List (Option (List ℕ))). slice_get ps k) (same_pages_of now mid new loses.pages)
        ∙ ap (λ (s : Side). slice_get (pages_of s mid) k) is
        ∙ first.here k below;
  }

  pub others_kept : RemembersFirst side d 1088 old mid → pages_of side new ≡ pages_of side old
  others_kept first = same_pages_of side mid new loses.pages ∙ first.kept

  pub marks_taken : marks_of now new ≡ replicate 1088 false
  marks_taken = ap (λ (s : Side). marks_of s new) (is ∙ sym to) ∙ loses.none

  pub marks_left : KeepsMarks old mid → marks_of side new ≡ marks_of side old
  marks_left keeps =
      subst (λ (s : Side). marks_of s new ≡ marks_of s mid) (ap other to ∙ other-other side) loses.others ∙ same_marks side old mid keeps

pub keeps_then : {old mid new : Remembered} → KeepsMarks old mid → KeepsMarks mid new → KeepsMarks old new
keeps_then first second = record { a = second.a ∙ first.a; b = second.b ∙ first.b }

-- one marked block, and on to the next one
pub wrote_next : (side : Side) (d : Directory) (k n : ℕ) (x y z : DiscState) (old mid new : Remembered) (block : List ℕ) (u : Unit {0}) → k < 1088 → 2177 < x.size
    → ((a : List (List ℕ)) → x.held ≡ Some a → length a ≡ x.size) → ForSome x.held (Remembers old) → Covers d (other side) old
    → WroteFirst side d k x y old mid → KeepsMarks old mid → block ≡ block_of Two d k
    → Changes (Prepares side k block) y.held z.held
    → WritesOnly {T = Unit {0}} {E = DirsFault} (if is_remembered (pages_of (other side) mid) k block then 0 else 1) y z (Ok u)
    → RemembersPage (other side) k block mid new → IsNext (marks_of (other side) new) (k + 1) n → WroteFirst side d n x z old new
wrote_next side d k n x y z old mid new block u below large long was covers so_far kept is step counts page next =
    wrote_past side d (k + 1) n x z old new next.reached was
    (between (other side) d (k + 1) n old new (keeps_then kept page.marks) covers next)
    (wrote_more side d k x y z old mid new u below large long so_far
    (subst (λ (v : List ℕ). Changes (Prepares side k v) y.held z.held) is step)
    (subst (λ (v : List ℕ). WritesOnly {T = Unit {0}} {E = DirsFault} (if is_remembered (pages_of (other side) mid) k v then 0 else 1) y z (Ok u)) is counts)
    (subst (λ (v : List ℕ). RemembersPage (other side) k v mid new) is page))

-- a fact that holds for any result
pub on_err : {T E P : Type 0} (r : Result T E) → P → OnErr r P
on_err (Ok x) holds = tt
on_err (Err e) holds = holds
