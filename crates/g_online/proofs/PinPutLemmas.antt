-- The versions that wait are pinned one after another, owner by owner.
-- serves: pin_owner, waiting_owners, waiting_versions
use Rattle.std.proofs.Common.{◌≡◌, ℕ, zero, suc, ◌+◌, ◌*◌, ◌<◌, ◌≤◌, ◌==◌, ◌&&◌, ◌^◌, Bool, true, false, List, [], ◌∷◌, ◌++◌, length, get_or, take, drop, Option, Some, All, refl, sym, ◌∙◌, ap, subst, arith, inl, inr, ◌⊎◌, add-one, append_assoc, length-set, slice_get, if◌then◌else◌}
use Rattle.std.proofs.Math.ListN.{set}
use Rattle.std.proofs.lemmas.Bool.{cases_Bool, cases_eq, cond-false, cond-true, ne_eqb}
use Rattle.std.proofs.lemmas.List.{append-nil, length-take-le, take_all, take_more}
use Rattle.std.proofs.lemmas.List.Elements.{All-head, All-tail, All-take, All-weaker, filter-append}
use Rattle.std.proofs.lemmas.Option.{slice_get-get_or, slice_get_within}
use Rattle.g_base.specs.Block.{blocks_for}
use Rattle.g_blocks.proofs.Marks.{slice_get-set_other, slice_get-set_same}
use Rattle.g_copy.specs.declared.copy.DiscCopy.{DiscCopy}
use Rattle.g_entry.specs.declared.file_rec.FileRec.{FileRec}
use Rattle.g_entry.specs.declared.user_rec.UserRec.{UserRec}
use Rattle.g_entry.specs.FileFields.{IsFile}
use Rattle.g_tree.specs.Records.{IsRecords}
use Rattle.g_online.proofs.WalkLemmas.{IsNext, next_of, none_behind}
use Rattle.g_online.specs.declared.pinned.Pinned.{Pinned}
use Rattle.g_online.specs.DumpedVersions.{HasPut, blocks_of, is_waiting, pinned_of, pins_from, waiting_below, waiting_of}

further : (a b c : ℕ) → (a + b) + c ≡ a + (b + c)
further a b c = omega arith

blocks_append : (xs ys : List FileRec) → blocks_of (xs ++ ys) ≡ blocks_of xs + blocks_of ys
blocks_append [] ys = omega arith
blocks_append (x ∷ xs) ys = ap (λ (k : ℕ). blocks_for x.len + k) (blocks_append xs ys) ∙ sym (further (blocks_for x.len) (blocks_of xs) (blocks_of ys))

pins_append : (serial at : ℕ) (online : List (ℕ × DiscCopy)) (xs ys : List FileRec) → pins_from serial at online (xs ++ ys) ≡ pins_from serial at online xs ++ pins_from serial (at + blocks_of xs) online ys
pins_append serial at online [] ys = ap (λ (k : ℕ). pins_from serial k online ys) (let same : at ≡ at + 0 = omega arith in same)
pins_append serial at online (x ∷ xs) ys =
    ap (λ (l : List Pinned). pinned_of serial at online x ∷ l)
    (pins_append serial (at + blocks_for x.len) online xs ys
    ∙ ap (λ (k : ℕ). pins_from serial (at + blocks_for x.len) online xs ++ pins_from serial k online ys) (further at (blocks_for x.len) (blocks_of xs)))

-- NOTHING YET, and more
put_none : (serial : ℕ) (online : List (ℕ × DiscCopy)) (pins : List Pinned) (at : ℕ) → HasPut serial online [] pins at pins at
put_none serial online pins at = record { pins = sym (append-nil pins); at = (let same : at ≡ at + 0 = omega arith in same) }

put_then : (serial : ℕ) (online : List (ℕ × DiscCopy)) (xs ys : List FileRec) (p q r : List Pinned) (a b c : ℕ) → HasPut serial online xs p a q b → HasPut serial online ys q b r c → HasPut serial online (xs ++ ys) p a r c
put_then serial online xs ys p q r a b c first second = record {
  pins = second.pins ∙ (λ i. first.pins i ++ pins_from serial (first.at i) online ys) ∙ append_assoc p (pins_from serial a online xs) (pins_from serial (a + blocks_of xs) online ys)
      ∙ ap (λ (l : List Pinned). p ++ l) (sym (pins_append serial a online xs ys));
  at = second.at ∙ ap (λ (k : ℕ). k + blocks_of ys) first.at ∙ further a (blocks_of xs) (blocks_of ys) ∙ ap (λ (k : ℕ). a + k) (sym (blocks_append xs ys));
}

-- 128 blocks a file at most
few_in : (b : Bool) (r : FileRec) (rest : List FileRec) (n : ℕ) → r.len ≤ 65536 → blocks_of rest ≤ 128 * n → blocks_of (if b then r ∷ rest else rest) ≤ 128 * (n + 1)
few_in true r rest n len few = let one : blocks_for r.len ≤ 128 = omega (arith, len) in omega (arith, one, few)
few_in false r rest n len few = omega (arith, few)

few_of : (owner : ℕ) (files : List FileRec) → All (λ r. r.len ≤ 65536) files → blocks_of (waiting_of owner files) ≤ 128 * length files
few_of owner [] all = omega arith
few_of owner (r ∷ files) all =
    let P : FileRec → Type 0 = λ s. s.len ≤ 65536 in
    let more = few_in ((r.owner == owner) && is_waiting r) r (waiting_of owner files) (length files) (All-head P r files all) (few_of owner files (All-tail P r files all)) in
    omega (arith, more)

few_below : (owner : ℕ) (files : List FileRec) → length files ≤ 1024 → All (λ r. r.len ≤ 65536) files → blocks_of (waiting_below owner files) ≤ 131072 * owner
few_below zero files few all = omega arith
few_below (suc owner) files few all =
    let rest = few_below owner files few all in
    let one = few_of owner files all in
    omega (arith, rest, one, few, blocks_append (waiting_below owner files) (waiting_of owner files))

-- ONE FILE MORE
module _ (serial owner : ℕ) (online : List (ℕ × DiscCopy)) (files : List FileRec) (k : ℕ) (r : FileRec) (within : k < length files) (is : r ≡ get_or files k r) where
  one_further : waiting_of owner (take (k + 1) files) ≡ waiting_of owner (take k files) ++ waiting_of owner (r ∷ [])
  one_further =
      ap (waiting_of owner) (take_more files k r within ∙ ap (λ (s : FileRec). take k files ++ s ∷ []) (sym is))
      ∙ filter-append (λ (s : FileRec). (s.owner == owner) && is_waiting s) (take k files) (r ∷ [])

  file_more : (p q s : List Pinned) (a b c : ℕ) → HasPut serial online (waiting_of owner (take k files)) p a q b → HasPut serial online (waiting_of owner (r ∷ [])) q b s c
      → HasPut serial online (waiting_of owner (take (k + 1) files)) p a s c
  file_more p q s a b c was more =
      subst (λ (rs : List FileRec). HasPut serial online rs p a s c) (sym one_further) (put_then serial online (waiting_of owner (take k files)) (waiting_of owner (r ∷ [])) p q s a b c was more)

  -- its places are numbers of 32 bits
  file_fits : (p q : List Pinned) (a b : ℕ) → length files ≤ 1024 → All (λ s. s.len ≤ 65536) files → a + 131072 < 2 ^ 32 → HasPut serial online (waiting_of owner (take k files)) p a q b → b + blocks_for r.len < 2 ^ 32
  file_fits p q a b few all room was =
      let P : FileRec → Type 0 = λ s. s.len ≤ 65536 in
      let front = few_of owner (take k files) (All-take P k files all) in
      let long = length-take-le k files (omega (arith, within)) in
      let len : r.len ≤ 65536 = subst P (sym is) (all k r within) in
      let one : blocks_for r.len ≤ 128 = omega (arith, len) in
      let at = was.at in
      omega (arith, front, long, one, at, room, few, within)

-- AMONG THE FILES THAT ARE LEFT
pub record IsPutting (serial owner : ℕ) (online : List (ℕ × DiscCopy)) (files left : List FileRec) (before : List Pinned) (from : ℕ) (after : List Pinned) (to : ℕ) : Type 0 where
  pub place : ℕ
  pub left_is : left ≡ drop place files
  pub put : HasPut serial online (waiting_of owner (take place files)) before from after to

pub putting_none : (serial owner : ℕ) (online : List (ℕ × DiscCopy)) (files left : List FileRec) (pins : List Pinned) (at : ℕ) → left ≡ files → IsPutting serial owner online files left pins at pins at
putting_none serial owner online files left pins at is = record { place = 0; left_is = is; put = put_none serial online pins at }

module _ (serial owner : ℕ) (online : List (ℕ × DiscCopy)) (files left rest : List FileRec) (r : FileRec) (is : left ≡ r ∷ rest) (p q : List Pinned) (a b : ℕ) (was : IsPutting serial owner online files left p a q b) where
  next_is : IsNext files was.place r rest
  next_is = next_of files was.place r rest (sym is ∙ was.left_is)

  pub putting_more : (s : List Pinned) (c : ℕ) → HasPut serial online (waiting_of owner (r ∷ [])) q b s c → IsPutting serial owner online files rest p a s c
  putting_more s c more = record {
    place = was.place + 1;
    left_is = next_is.behind;
    put = file_more serial owner online files was.place r next_is.inside next_is.at p q s a b c was.put more;
  }

  pub putting_fits : length files ≤ 1024 → All (λ s. s.len ≤ 65536) files → a + 131072 < 2 ^ 32 → b + blocks_for r.len < 2 ^ 32
  putting_fits few all room = file_fits serial owner online files was.place r next_is.inside next_is.at p q a b few all room was.put

pub putting_all : (serial owner : ℕ) (online : List (ℕ × DiscCopy)) (files left : List FileRec) (p q : List Pinned) (a b : ℕ) → left ≡ [] → IsPutting serial owner online files left p a q b → HasPut serial online (waiting_of owner files) p a q b
putting_all serial owner online files left p q a b is was =
    subst (λ (fs : List FileRec). HasPut serial online (waiting_of owner fs) p a q b) (take_all was.place files (none_behind files was.place (sym is ∙ was.left_is))) was.put

pub lengths_are : (users : List UserRec) (files : List FileRec) → IsRecords users files → All (λ r. r.len ≤ 65536) files
lengths_are users files is = All-weaker IsFile (λ (r : FileRec). r.len ≤ 65536) (λ r file. file.len) files is.each_file

-- ONE OWNER MORE
pub owner_none : (serial : ℕ) (online : List (ℕ × DiscCopy)) (files : List FileRec) (pins : List Pinned) (at : ℕ) → pins ≡ [] → HasPut serial online (waiting_below 0 files) [] at pins at
owner_none serial online files pins at none = subst (λ (ps : List Pinned). HasPut serial online [] [] at ps at) (sym none) (put_none serial online [] at)

pub owner_more : (serial owner : ℕ) (online : List (ℕ × DiscCopy)) (files : List FileRec) (q s : List Pinned) (a b c : ℕ) → HasPut serial online (waiting_below owner files) [] a q b → HasPut serial online (waiting_of owner files) q b s c
    → HasPut serial online (waiting_below (owner + 1) files) [] a s c
owner_more serial owner online files q s a b c was more =
    subst (λ (n : ℕ). HasPut serial online (waiting_below n files) [] a s c) (sym (add-one owner)) (put_then serial online (waiting_below owner files) (waiting_of owner files) [] q s a b c was more)

-- None of the owner's files waits.
pub owner_skipped : (serial owner : ℕ) (online : List (ℕ × DiscCopy)) (files : List FileRec) (q : List Pinned) (a b : ℕ) → waiting_of owner files ≡ [] → HasPut serial online (waiting_below owner files) [] a q b
    → HasPut serial online (waiting_below (owner + 1) files) [] a q b
owner_skipped serial owner online files q a b none was =
    owner_more serial owner online files q q a b b was (subst (λ (rs : List FileRec). HasPut serial online rs q b q b) (sym none) (put_none serial online q b))

-- The owners among the first files who have a waiting one are noted.
pub record AreWaitingNoted (files left : List FileRec) (flags : List Bool) : Type 0 where
  pub place : ℕ
  pub left_is : left ≡ drop place files
  pub size : length flags ≡ 256
  pub noted : (owner : ℕ) → slice_get flags owner ≡ Some false → waiting_of owner (take place files) ≡ []

pub waiting_none : (files left : List FileRec) (flags : List Bool) → left ≡ files → length flags ≡ 256 → AreWaitingNoted files left flags
waiting_none files left flags is size = record { place = 0; left_is = is; size = size; noted = λ owner flag. refl }

module _ (files left rest : List FileRec) (r : FileRec) (is : left ≡ r ∷ rest) (flags : List Bool) (was : AreWaitingNoted files left flags) where
  place_is : IsNext files was.place r rest
  place_is = next_of files was.place r rest (sym is ∙ was.left_is)

  longer : (owner : ℕ) → ((r.owner == owner) && is_waiting r) ≡ false → waiting_of owner (take was.place files) ≡ [] → waiting_of owner (take (was.place + 1) files) ≡ []
  longer owner none before =
      one_further 0 owner [] files was.place r place_is.inside place_is.at
      ∙ ap (λ (rs : List FileRec). rs ++ waiting_of owner (r ∷ [])) before
      ∙ ap (λ (b : Bool). if b then r ∷ [] else []) none

  -- The file doesn't wait.
  waiting_same : is_waiting r ≡ false → AreWaitingNoted files rest flags
  waiting_same none = record {
    place = was.place + 1;
    left_is = place_is.behind;
    size = was.size;
    noted = λ owner flag. longer owner (ap (λ (b : Bool). (r.owner == owner) && b) none ∙ and_false (r.owner == owner)) (was.noted owner flag);
  }
    where
      and_false : (b : Bool) → (b && false) ≡ false
      and_false true = refl
      and_false false = refl

  -- It waits, and the flag of its owner is set.
  waiting_more : AreWaitingNoted files rest (set flags r.owner true)
  waiting_more = record {
    place = was.place + 1;
    left_is = place_is.behind;
    size = length-set flags r.owner true ∙ was.size;
    noted = λ owner flag. by_owner owner flag (cases_eq owner r.owner);
  }
    where
      by_owner : (owner : ℕ) → slice_get (set flags r.owner true) owner ≡ Some false → (owner ≡ r.owner) ⊎ (owner ≡ r.owner → ⊥) → waiting_of owner (take (was.place + 1) files) ≡ []
      by_owner owner flag (inl same) =
          let size = was.size in
          let long = length-set flags r.owner true in
          let inside = slice_get_within (set flags r.owner true) owner false flag in
          let on : slice_get (set flags r.owner true) owner ≡ Some true =
          subst (λ (n : ℕ). slice_get (set flags r.owner true) n ≡ Some true) (sym same) (slice_get-set_same flags r.owner true (omega (arith, inside, same, long))) in
          (let no : ⊥ = cc in absurd no)
      by_owner owner flag (inr other) =
          longer owner (ap (λ (b : Bool). b && is_waiting r) (ne_eqb r.owner owner (λ same. other (sym same))))
          (was.noted owner (sym (slice_get-set_other flags r.owner owner true other) ∙ flag))

  -- Either way.
  pub waiting_next : (after : List Bool) → after ≡ (if is_waiting r then set flags r.owner true else flags) → AreWaitingNoted files rest after
  waiting_next after is = by_waiting (cases_Bool (is_waiting r))
    where
      by_waiting : (is_waiting r ≡ true) ⊎ (is_waiting r ≡ false) → AreWaitingNoted files rest after
      by_waiting (inl waits) = subst (AreWaitingNoted files rest) (sym (is ∙ cond-true (is_waiting r) (set flags r.owner true) flags waits)) waiting_more
      by_waiting (inr none) = subst (AreWaitingNoted files rest) (sym (is ∙ cond-false (is_waiting r) (set flags r.owner true) flags none)) (waiting_same none)

pub waiting_all : (files left : List FileRec) (flags : List Bool) → left ≡ [] → AreWaitingNoted files left flags
    → (owner : ℕ) → owner < 256 → get_or flags owner false ≡ false → waiting_of owner files ≡ []
waiting_all files left flags is was owner small flag =
    let size = was.size in
    ap (waiting_of owner) (sym (take_all was.place files (none_behind files was.place (sym is ∙ was.left_is))))
    ∙ was.noted owner (slice_get-get_or flags owner false (omega (arith, small, size)) ∙ ap Some flag)

pub owner_fits : (serial owner : ℕ) (online : List (ℕ × DiscCopy)) (users : List UserRec) (files : List FileRec) (q : List Pinned) (a b : ℕ) → IsRecords users files → owner < 63 → a ≤ 131072
    → HasPut serial online (waiting_below owner files) [] a q b → b + 131072 < 2 ^ 32
owner_fits serial owner online users files q a b rules below low was =
    let few = few_below owner files rules.among_files.few (lengths_are users files rules) in
    let at = was.at in
    omega (arith, few, at, low, below)

pub owners_all : (serial owner : ℕ) (online : List (ℕ × DiscCopy)) (files : List FileRec) (q : List Pinned) (a b : ℕ) → owner ≡ 63 → HasPut serial online (waiting_below owner files) [] a q b → q ≡ pins_from serial a online (waiting_below 63 files)
owners_all serial owner online files q a b all was = was.pins ∙ ap (λ (n : ℕ). pins_from serial a online (waiting_below n files)) all
