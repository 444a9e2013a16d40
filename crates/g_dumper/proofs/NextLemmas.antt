-- The next block of an open dump: the pins of the versions that wait, and where their bytes lie in it.
-- serves: next_block (block), ShelfLemmas, crates above
use Rattle.std.proofs.Common.{◌≡◌, ℕ, zero, suc, ◌+◌, ◌<◌, List, [], ◌∷◌, ◌++◌, length, take, slice_get, Option, Some, refl, sym, ◌∙◌, ap, arith, subst}
use Rattle.std.specs.Prelude.{map}
use Rattle.std.specs.Option.{ForSome}
use Rattle.std.proofs.lemmas.List.{length-append, length-map}
use Rattle.std.proofs.lemmas.List.Sums.{sum_by-cons}
use Rattle.std.proofs.lemmas.Option.{same_Some}
use Rattle.g_base.specs.Block.{blocks_for}
use Rattle.g_entry.specs.declared.file_rec.FileRec.{FileRec}
use Rattle.g_disc_contents.specs.Facts.{Pin}
use Rattle.g_incr.specs.Layout.{Dump, dump_blocks, file_in, header_block, mark_block, user_in}
use Rattle.g_incr.specs.Plan.{IsContentAt, IsReadyAt, blocks_of, dump_of, first_content, waiting}
use Rattle.g_incr.proofs.ListLemmas.{get_behind, get_front}
use Rattle.g_incr.proofs.PlanLemmas.{length-made}
use Rattle.g_store_meaning.specs.StoreInvariant.{ArePinned, DumpFacts, content_in}
use Rattle.g_dumper.specs.Steps.{IsNextBlock}
use Rattle.g_laws_store.proofs.PinLemmas.{split_told}

-- THE PIN of a version that waits
pub pin_at : (serial at : ℕ) (ws : List FileRec) (pins : List Pin) (i : ℕ) (version : FileRec) → ArePinned serial at ws pins → slice_get ws i ≡ Some version
    → (pin : Pin) × (slice_get pins i ≡ Some pin) × (pin.len ≡ version.len)
pin_at serial at [] pins i version are there = absurd (let no : ⊥ = cc in no)
pin_at serial at (r ∷ rs) pins zero version (pin, rest, same, stamp, len, copy, blocks, more) there =
    (pin, ap (λ (ps : List Pin). slice_get ps 0) same, len ∙ ap (λ (s : FileRec). s.len) (same_Some r version there))
pin_at serial at (r ∷ rs) pins (suc i) version (pin, rest, same, stamp, len, copy, blocks, more) there =
    let (found, is, long) = pin_at serial (at + blocks_for r.len) rs rest i version more there in
    (found, ap (λ (ps : List Pin). slice_get ps (suc i)) same ∙ is, long)

-- it is as long as the plan says
pub content_long : (serial at : ℕ) (ws : List FileRec) (pins : List Pin) (content : List (List ℕ)) → ArePinned serial at ws pins → content_in pins ≡ Some content
    → length content ≡ blocks_of ws
content_long serial at [] pins content are told =
    let none : List (List ℕ) = [] in
    ap (λ (bs : List (List ℕ)). length bs) (sym (same_Some none content (ap content_in (sym are) ∙ told)))
content_long serial at (r ∷ rs) pins content (pin, rest, same, stamp, len, copy, blocks, more) told =
    let both = split_told pin.blocks (content_in rest) content (ap content_in (sym same) ∙ told) in
    let long = content_long serial (at + blocks_for r.len) rs rest both.rest more both.are in
    ap (λ (bs : List (List ℕ)). length bs) both.both ∙ length-append both.one both.rest ∙ ap (λ (n : ℕ). n + length both.rest) (blocks both.one both.is)
    ∙ ap (λ (n : ℕ). blocks_for r.len + n) long ∙ sym (sum_by-cons (λ (s : FileRec). blocks_for s.len) r rs)

-- a block of a version lies after the preceding versions
pub content_block : (serial at : ℕ) (ws : List FileRec) (pins : List Pin) (content : List (List ℕ)) (i part k : ℕ) (pin : Pin) (block : List ℕ) → ArePinned serial at ws pins
    → content_in pins ≡ Some content → slice_get pins i ≡ Some pin → ForSome pin.blocks (λ blocks. slice_get blocks part ≡ Some block) → k ≡ blocks_of (take i ws) + part
    → slice_get content k ≡ Some block
content_block serial at [] pins content i part k pin block are told there has sum =
    let none : List Pin = [] in
    let it : slice_get none i ≡ Some pin = ap (λ (ps : List Pin). slice_get ps i) (sym are) ∙ there in
    absurd (let no : ⊥ = cc in no)
content_block serial at (r ∷ rs) pins content zero part k pin block (p, rest, same, stamp, len, copy, blocks, more) told there has sum =
    let both = split_told p.blocks (content_in rest) content (ap content_in (sym same) ∙ told) in
    let it : p ≡ pin = same_Some p pin (ap (λ (ps : List Pin). slice_get ps 0) (sym same) ∙ there) in
    let here : slice_get both.one part ≡ Some block = has both.one (ap (λ (q : Pin). q.blocks) (sym it) ∙ both.is) in
    ap (λ (bs : List (List ℕ)). slice_get bs k) both.both ∙ ap (slice_get (both.one ++ both.rest)) (let n : k ≡ part = omega (arith, sum) in n)
    ∙ get_front both.one both.rest part block here
content_block serial at (r ∷ rs) pins content (suc i) part k pin block (p, rest, same, stamp, len, copy, blocks, more) told there has sum =
    let both = split_told p.blocks (content_in rest) content (ap content_in (sym same) ∙ told) in
    let long = blocks both.one both.is in
    let next = sum_by-cons (λ (s : FileRec). blocks_for s.len) r (take i rs) in
    let j : ℕ = blocks_of (take i rs) + part in
    let deeper = content_block serial (at + blocks_for r.len) rs rest both.rest i part j pin block more both.are (ap (λ (ps : List Pin). slice_get ps (suc i)) (sym same) ∙ there) has refl in
    ap (λ (bs : List (List ℕ)). slice_get bs k) both.both ∙ ap (slice_get (both.one ++ both.rest)) (let n : k ≡ length both.one + (blocks_of (take i rs) + part) = omega (arith, sum, long, next) in n)
    ∙ get_behind both.one both.rest j ∙ deeper

-- A BLOCK OF CONTENT in a dump
pub at_content : (d : Dump) (j k : ℕ) (block : List ℕ) → slice_get d.content j ≡ Some block → k ≡ 1 + length d.users + length d.files + j → slice_get (dump_blocks d) k ≡ Some block
unfolding dump_blocks
at_content d j k block is sum =
    let users : List (List ℕ) = map (user_in d) d.users in
    let files : List (List ℕ) = map (file_in d) d.files in
    let rest : List (List ℕ) = d.content ++ mark_block d ∷ [] in
    let long = length-map d.users (user_in d) in
    let long_files = length-map d.files (file_in d) in
    ap (slice_get (header_block d ∷ (users ++ (files ++ rest)))) (let next : k ≡ suc (length users + (length files + j)) = omega (arith, sum, long, long_files) in next)
    ∙ get_behind users (files ++ rest) (length files + j) ∙ get_behind files rest j ∙ get_front d.content (mark_block d ∷ []) j block is

-- THE NEXT BLOCK is what the writer wrote there, or a block of a version
module _ (d : DumpFacts) (pins : Option (List Pin)) (ps : List Pin) (block : List ℕ) (at : pins ≡ Some ps)
    (are : ArePinned d.plan.serial (first_content d.plan) (waiting d.plan.files) ps) where
  pub next_ready : IsReadyAt d.plan d.done block → IsNextBlock d pins block
  next_ready ready = record {
    is = λ qs is content told.
        ready.is content (content_long d.plan.serial (first_content d.plan) (waiting d.plan.files) ps content are (ap content_in (same_Some ps qs (sym at ∙ is)) ∙ told));
  }

  pub next_content : (i part : ℕ) (pin : Pin) → IsContentAt d.plan d.done i part → slice_get ps i ≡ Some pin → ForSome pin.blocks (λ blocks. slice_get blocks part ≡ Some block)
      → IsNextBlock d pins block
  next_content i part pin stands there has = record {
    is = λ qs is content told.
        let here = content_block d.plan.serial (first_content d.plan) (waiting d.plan.files) ps content i part (blocks_of (take i (waiting d.plan.files)) + part) pin block are
        (ap content_in (same_Some ps qs (sym at ∙ is)) ∙ told) there has refl in
        let made = length-made d.plan.serial 0 (first_content d.plan) d.plan.files in
        let place = stands.at in
        at_content (dump_of d.plan content) (blocks_of (take i (waiting d.plan.files)) + part) d.done block here (omega (arith, made, place));
  }

  -- the pin that has it
  pub content_there : (i part : ℕ) → IsContentAt d.plan d.done i part → (pin : Pin) × (slice_get ps i ≡ Some pin) × (part < blocks_for pin.len)
  content_there i part stands =
      let (pin, there, len) = pin_at d.plan.serial (first_content d.plan) (waiting d.plan.files) ps i stands.version are stands.there in
      (pin, there, subst (λ (n : ℕ). part < blocks_for n) (sym len) stands.within)
