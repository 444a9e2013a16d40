-- The versions of the dump as if they had been pinned: their blocks are those of its content, and have the texts of the versions.
-- serves: BelongLemmas, crates above
use Rattle.std.proofs.Common.{◌≡◌, ℕ, zero, suc, ◌+◌, ◌<◌, ◌==◌, true, false, List, [], ◌∷◌, drop, length, map, take, Option, Some, refl, sym, ◌∙◌, ap, arith, subst, inl, inr, slice_get, get_or}
use Rattle.std.specs.Prelude.{◌⊎◌, All, Contains}
use Rattle.std.proofs.lemmas.Bool.{cases_Bool, cond-false, cond-true, eq-eqb}
use Rattle.std.proofs.lemmas.List.{length-drop, length-take, take-append-drop}
use Rattle.std.proofs.lemmas.List.Elements.{All-contains, Contains-get_or}
use Rattle.std.proofs.lemmas.List.Sums.{sum_by-cons}
use Rattle.std.proofs.lemmas.Option.{same_Some}
use Rattle.g_base.specs.Block.{IsBlock, blocks_for}
use Rattle.g_entry.specs.declared.file_rec.FileRec.{FileRec}
use Rattle.g_entry.specs.declared.file_rec.TapeCopy.{TapeCopy}
use Rattle.g_disc_contents.specs.Contents.{copy_of}
use Rattle.g_disc_contents.specs.Facts.{Pin, noted}
use Rattle.g_disc_contents.proofs.PartLemmas.{parts_join}
use Rattle.g_incr.specs.Plan.{blocks_of}
use Rattle.g_incr.proofs.ListLemmas.{get_drop}
use Rattle.g_store_meaning.specs.Meaning.{joined}
use Rattle.g_store_meaning.specs.StoreInvariant.{ArePinned, content_in}
use Rattle.g_laws_store.specs.Dumping.{PinsText}
use Rattle.g_laws_store.proofs.PinLemmas.{both_told}
use Rattle.g_laws_store.specs.ForgottenCopies.{bare_rec}
use Rattle.g_process.specs.Exits.{AreParts}
use Rattle.g_process.specs.ProcessPlan.{copies_from}
use Rattle.g_process.proofs.DumpLemmas.{from_drop, from_take, get_below}

abbrev pub pins_of : ℕ → ℕ → List FileRec → List (List ℕ) → List Pin
pins_of serial at [] content = []
pins_of serial at (r ∷ rs) content =
    record { stamp = r.stamp; len = r.len; copy = record { serial = serial; first = at }; blocks = Some (take (blocks_for r.len) content) }
    ∷ pins_of serial (at + blocks_for r.len) rs (drop (blocks_for r.len) content)

rest_long : (r : FileRec) (rs : List FileRec) (content : List (List ℕ)) → length content ≡ blocks_of (r ∷ rs) → (length (take (blocks_for r.len) content) ≡ blocks_for r.len) × (length (drop (blocks_for r.len) content) ≡ blocks_of rs)
rest_long r rs content long =
    let sum = sum_by-cons (λ (s : FileRec). blocks_for s.len) r rs in
    let a = length-take (blocks_for r.len) content in
    let b = length-drop (blocks_for r.len) content in
    (omega (arith, long, sum, a), omega (arith, long, sum, b))

pub are_pinned : (serial at : ℕ) (rs : List FileRec) (content : List (List ℕ)) → length content ≡ blocks_of rs → ArePinned serial at (map bare_rec rs) (pins_of serial at rs content)
are_pinned serial at [] content long = refl
are_pinned serial at (r ∷ rs) content long =
    let parts = rest_long r rs content long in
    let pin : Pin = record { stamp = r.stamp; len = r.len; copy = record { serial = serial; first = at }; blocks = Some (take (blocks_for r.len) content) } in (
      pin,
      pins_of serial (at + blocks_for r.len) rs (drop (blocks_for r.len) content),
      refl,
      refl,
      refl,
      refl,
      (λ blocks is. ap (λ (bs : List (List ℕ)). length bs) (sym (same_Some (take (blocks_for r.len) content) blocks is)) ∙ parts.0),
      are_pinned serial (at + blocks_for r.len) rs (drop (blocks_for r.len) content) parts.1,
    )

pub content_pins : (serial at : ℕ) (rs : List FileRec) (content : List (List ℕ)) → length content ≡ blocks_of rs → content_in (pins_of serial at rs content) ≡ Some content
content_pins serial at [] [] long = refl
content_pins serial at [] (b ∷ bs) long = absurd (let no : ⊥ = omega (arith, long) in no)
content_pins serial at (r ∷ rs) content long =
    let parts = rest_long r rs content long in
    ap (both_told (Some (take (blocks_for r.len) content))) (content_pins serial (at + blocks_for r.len) rs (drop (blocks_for r.len) content) parts.1)
    ∙ ap (λ (bs : List (List ℕ)). Some bs) (take-append-drop (blocks_for r.len) content)

pub noted_pins : (serial at : ℕ) (rs : List FileRec) (content : List (List ℕ)) → noted (Some (pins_of serial at rs content)) ≡ copies_from serial at rs
noted_pins serial at [] content = refl
noted_pins serial at (r ∷ rs) content =
    ap (λ (cs : List (ℕ × TapeCopy)). (r.stamp, record { serial = serial; first = at }) ∷ cs) (noted_pins serial (at + blocks_for r.len) rs (drop (blocks_for r.len) content))

-- THE TEXTS
pub pins_texts : (text : ℕ → List ℕ) (serial at : ℕ) (rs : List FileRec) (content : List (List ℕ)) → length content ≡ blocks_of rs → All IsBlock content
    → All (λ (r : FileRec). length (text r.stamp) ≡ r.len) rs → AreParts text rs content → All (PinsText text) (pins_of serial at rs content)
pins_texts text serial at [] content long blocks lens parts = λ k d inside. absurd (let no : ⊥ = omega (arith, inside) in no)
pins_texts text serial at (r ∷ rs) content long blocks lens parts =
    let sizes = rest_long r rs content long in
    all_cons here (pins_texts text serial (at + blocks_for r.len) rs (drop (blocks_for r.len) content) sizes.1
    (λ k d inside. All-contains IsBlock content (get_or (drop (blocks_for r.len) content) k d) blocks
    (from_drop (blocks_for r.len) content (get_or (drop (blocks_for r.len) content) k d) (Contains-get_or (drop (blocks_for r.len) content) k d inside)))
    (λ k d inside. lens (suc k) d (omega (arith, inside)))
    (λ i part q b found less there.
    let sum = sum_by-cons (λ (s : FileRec). blocks_for s.len) r (take i rs) in
    parts (suc i) part q b found less
    (ap (slice_get content) (let e : blocks_of (take (suc i) (r ∷ rs)) + part ≡ blocks_for r.len + (blocks_of (take i rs) + part) = omega (arith, sum) in e)
    ∙ sym (get_drop (blocks_for r.len) content (blocks_of (take i rs) + part)) ∙ there)))
  where
    pin : Pin
    pin = record { stamp = r.stamp; len = r.len; copy = record { serial = serial; first = at }; blocks = Some (take (blocks_for r.len) content) }

    len_is : length (text r.stamp) ≡ r.len
    len_is = lens 0 r (omega arith)

    chunk : List (List ℕ)
    chunk = take (blocks_for r.len) content

    chunk_blocks : All IsBlock (take (blocks_for r.len) content)
    chunk_blocks = λ k d inside. All-contains IsBlock content (get_or (take (blocks_for r.len) content) k d) blocks
        (from_take (blocks_for r.len) content (get_or (take (blocks_for r.len) content) k d) (Contains-get_or (take (blocks_for r.len) content) k d inside))

    chunk_text : take r.len (joined (take (blocks_for r.len) content)) ≡ text r.stamp
    chunk_text =
        let sizes = rest_long r rs content long in
        let size : length (take (blocks_for r.len) content) ≡ blocks_for (length (text r.stamp)) = sizes.0 ∙ ap blocks_for (sym len_is) in
        ap (λ (n : ℕ). take n (joined (take (blocks_for r.len) content))) (sym len_is)
        ∙ parts_join (text r.stamp) (take (blocks_for r.len) content) chunk_blocks size
        (λ part b there.
        let less : part < blocks_for r.len = below part b there in
        parts 0 part r b refl less (ap (slice_get content) (let e : blocks_of (take 0 (r ∷ rs)) + part ≡ part = omega arith in e) ∙ sym (get_below (blocks_for r.len) content part less) ∙ there))
      where
        below : (part : ℕ) (b : List ℕ) → slice_get (take (blocks_for r.len) content) part ≡ Some b → part < blocks_for r.len
        below part b there = within (blocks_for r.len) content part b there
          where
            within : (n : ℕ) (xs : List (List ℕ)) (k : ℕ) (x : List ℕ) → slice_get (take n xs) k ≡ Some x → k < n
            within zero xs k x is = absurd (let no : ⊥ = cc in no)
            within (suc n) [] k x is = absurd (let no : ⊥ = cc in no)
            within (suc n) (y ∷ ys) zero x is = omega arith
            within (suc n) (y ∷ ys) (suc k) x is = omega (arith, within n ys k x is)

    here : PinsText text (record { stamp = r.stamp; len = r.len; copy = record { serial = serial; first = at }; blocks = Some (take (blocks_for r.len) content) })
    here = λ found is.
        subst (λ (bs : List (List ℕ)). All IsBlock bs × (take r.len (joined bs) ≡ text r.stamp)) (same_Some (take (blocks_for r.len) content) found is) (chunk_blocks, chunk_text)

    all_cons : PinsText text (record { stamp = r.stamp; len = r.len; copy = record { serial = serial; first = at }; blocks = Some (take (blocks_for r.len) content) })
        → All (PinsText text) (pins_of serial (at + blocks_for r.len) rs (drop (blocks_for r.len) content)) → All (PinsText text) (pins_of serial at (r ∷ rs) content)
    all_cons one rest zero d inside = one
    all_cons one rest (suc k) d inside = rest k d (omega (arith, inside))

-- a version's copy doesn't depend on the copy that it had
pub copy_same : (serial at : ℕ) (rs : List FileRec) (r : FileRec) (a b : Option TapeCopy) → Contains rs r → copy_of (copies_from serial at rs) r.stamp a ≡ copy_of (copies_from serial at rs) r.stamp b
copy_same serial at [] r a b (i, inside, is) = absurd (let no : ⊥ = omega (arith, inside) in no)
copy_same serial at (q ∷ qs) r a b there = by_stamp (cases_Bool (q.stamp == r.stamp)) there (λ it. copy_same serial (at + blocks_for q.len) qs r a b it)
  where
    by_stamp : ((q.stamp == r.stamp) ≡ true) ⊎ ((q.stamp == r.stamp) ≡ false) → Contains (q ∷ qs) r
        → (Contains qs r → copy_of (copies_from serial (at + blocks_for q.len) qs) r.stamp a ≡ copy_of (copies_from serial (at + blocks_for q.len) qs) r.stamp b)
        → copy_of (copies_from serial at (q ∷ qs)) r.stamp a ≡ copy_of (copies_from serial at (q ∷ qs)) r.stamp b
    by_stamp (inl is) it rest =
        cond-true (q.stamp == r.stamp) (Some (record { serial = serial; first = at })) (copy_of (copies_from serial (at + blocks_for q.len) qs) r.stamp a) is
        ∙ sym (cond-true (q.stamp == r.stamp) (Some (record { serial = serial; first = at })) (copy_of (copies_from serial (at + blocks_for q.len) qs) r.stamp b) is)
    by_stamp (inr isnt) (zero, inside, same) rest = absurd (let no : ⊥ = (let one = eq-eqb q.stamp r.stamp (ap (λ (x : FileRec). x.stamp) same) in cc) in no)
    by_stamp (inr isnt) (suc i, inside, same) rest =
        cond-false (q.stamp == r.stamp) (Some (record { serial = serial; first = at })) (copy_of (copies_from serial (at + blocks_for q.len) qs) r.stamp a) isnt
        ∙ rest (i, omega (arith, inside), same)
        ∙ sym (cond-false (q.stamp == r.stamp) (Some (record { serial = serial; first = at })) (copy_of (copies_from serial (at + blocks_for q.len) qs) r.stamp b) isnt)
