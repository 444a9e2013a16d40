-- One block of a pinned version.
-- serves: pinned_block (block)
use Rattle.std.proofs.Common.{◌≡◌, ℕ, ◌<◌, true, List, [], length, get_or, map, Option, Some, None, refl, sym, ◌∙◌, ap, subst, slice_get}
use Rattle.std.specs.Prelude.{slice_index_or}
use Rattle.std.specs.Option.{ForSome, option_map}
use Rattle.std.proofs.lemmas.Option.{get_or_from_slice_get, slice_get-get_or, slice_get-map, slice_get_within}
use Rattle.g_base.specs.Block.{blocks_for}
use Rattle.g_disc.specs.Disc.{DiscState}
use Rattle.g_dirs.specs.Directory.{FileEntry}
use Rattle.g_tree.proofs.RuleLemmas.{made_of}
use Rattle.g_disc_contents.specs.Facts.{OnlineFacts, Pin}
use Rattle.g_online.specs.declared.pinned.Pinned.{Pinned}
use Rattle.g_online.specs.DumpedVersions.{pinned_in, place_in}
use Rattle.g_online.specs.Invariant.{ArePinned, IsKept, IsPinned, Memory, PinsAre, directory_in, facts_of, pin_of, pins_of}

-- the version in memory that contracts see
record IsVersionAt (held : Option (List (List ℕ))) (pins : Option (List Pinned)) (i : ℕ) (pin : Pin) : Type 0 where
  pub list : List Pinned
  pub pins_are : pins ≡ Some list
  pub version : Pinned
  pub there : slice_get list i ≡ Some version
  pub is : pin_of held version ≡ pin

same_list : (a b : List Pin) → (let one : Option (List Pin) = Some a in one ≡ Some b) → a ≡ b
same_list a b e = cc

no_list : (b : List Pin) → (let none : Option (List Pin) = None in none ≡ Some b) → ⊥
no_list b e = cc

version_at : (held : Option (List (List ℕ))) (pins : Option (List Pinned)) (i : ℕ) (ps : List Pin) (pin : Pin) → pins_of held pins ≡ Some ps → slice_get ps i ≡ Some pin → IsVersionAt held pins i pin
version_at held None i ps pin are there = absurd (no_list ps are)
version_at held (Some list) i ps pin are there =
    let made : option_map (pin_of held) (slice_get list i) ≡ Some pin =
    sym (slice_get-map (pin_of held) list i) ∙ ap (λ (qs : List Pin). slice_get qs i) (same_list (map (pin_of held) list) ps are) ∙ there in
    let it = made_of (pin_of held) (slice_get list i) pin made in
    record { list = list; pins_are = refl; version = it.0; there = it.1; is = it.2 }

pinned_here : (size next : ℕ) (files : List FileEntry) (touched : List ℕ) (pins : Option (List Pinned)) (list : List Pinned) (i : ℕ) (p : Pinned) → PinsAre pins size next files touched → pins ≡ Some list → slice_get list i ≡ Some p
    → IsPinned size next files p
pinned_here size next files touched pins list i p are is there =
    let all : ArePinned size next files touched list = subst (λ (o : Option (List Pinned)). PinsAre o size next files touched) is are in
    subst (IsPinned size next files) (get_or_from_slice_get list i p p there) (all.each i p (slice_get_within list i p there))

block_of : (held : Option (List (List ℕ))) (places : List ℕ) (part place : ℕ) (into : List ℕ) (blocks : Option (List (List ℕ))) → blocks ≡ option_map (λ b. map (λ k. slice_index_or b k []) places) held
    → slice_get places part ≡ Some place → ForSome held (λ b. slice_get b place ≡ Some into) → ForSome blocks (λ b. slice_get b part ≡ Some into)
block_of None places part place into blocks is at read = λ b told. absurd (none_told b (sym is ∙ told))
  where
    none_told : (b : List (List ℕ)) → (let none : Option (List (List ℕ)) = None in none ≡ Some b) → ⊥
    none_told b e = cc
block_of (Some held) places part place into blocks is at read = λ b told.
    ap (λ (l : List (List ℕ)). slice_get l part) (sym (same_told (map (λ k. slice_index_or held k []) places) b (sym is ∙ told)))
    ∙ slice_get-map (λ k. slice_index_or held k []) places part ∙ ap (λ (o : Option ℕ). option_map (λ k. slice_index_or held k []) o) at
    ∙ ap (λ (block : List ℕ). Some block) (get_or_from_slice_get held place into [] (read held refl))
  where
    same_told : (a b : List (List ℕ)) → (let one : Option (List (List ℕ)) = Some a in one ≡ Some b) → a ≡ b
    same_told a b e = cc

module _ (disc : DiscState) (m : Memory) (o : OnlineFacts) (is : facts_of disc m ≡ o) (i part : ℕ) (listed : List Pinned) (listed_is : listed ≡ pinned_in m.pins) where
  pins_here : (ps : List Pin) → o.pins ≡ Some ps → pins_of disc.held m.pins ≡ Some ps
  pins_here ps are = ap (λ (p : OnlineFacts). p.pins) is ∙ are

  list_here : (list : List Pinned) → m.pins ≡ Some list → listed ≡ list
  list_here list are = listed_is ∙ ap pinned_in are

  -- the block that it lies in
  place_there : IsKept disc m → m.live ≡ true → (ps : List Pin) (pin : Pin) → o.pins ≡ Some ps → slice_get ps i ≡ Some pin → part < blocks_for pin.len
      → (place : ℕ) × (place_in (slice_get listed i) part ≡ Some place) × (place < disc.size)
  place_there kept live ps pin are there within =
      let at = version_at disc.held m.pins i ps pin (pins_here ps are) there in
      let p : Pinned = at.version in
      let pinned = pinned_here disc.size m.head.next_stamp (directory_in m).files m.touched m.pins at.list i p (kept.agreed live).pins at.pins_are at.there in
      let len : p.len ≡ pin.len = ap (λ (q : Pin). q.len) at.is in
      let less : part < length p.blocks = subst (λ (n : ℕ). part < n) (sym (pinned.count ∙ ap blocks_for len)) within in (
        get_or p.blocks part 0,
        ap (λ (l : List Pinned). place_in (slice_get l i) part) (list_here at.list at.pins_are) ∙ ap (λ (q : Option Pinned). place_in q part) at.there ∙ slice_get-get_or p.blocks part 0 less,
        (pinned.area part 0 less).high,
      )

  pub place_no : IsKept disc m → m.live ≡ true → (ps : List Pin) (pin : Pin) → o.pins ≡ Some ps → slice_get ps i ≡ Some pin → part < blocks_for pin.len
      → (let none : Option ℕ = None in none ≡ place_in (slice_get listed i) part) → ⊥
  place_no kept live ps pin are there within none =
      let at = place_there kept live ps pin are there within in
      no_place at.0 (none ∙ at.1)
    where
      no_place : (k : ℕ) → (let none : Option ℕ = None in none ≡ Some k) → ⊥
      no_place k e = cc

  pub place_within : IsKept disc m → m.live ≡ true → (ps : List Pin) (pin : Pin) → o.pins ≡ Some ps → slice_get ps i ≡ Some pin → part < blocks_for pin.len
      → (place : ℕ) → (let one : Option ℕ = Some place in one ≡ place_in (slice_get listed i) part) → place < disc.size
  place_within kept live ps pin are there within place found =
      let at = place_there kept live ps pin are there within in
      subst (λ (k : ℕ). k < disc.size) (sym (same_place place at.0 (found ∙ at.1))) at.2
    where
      same_place : (j k : ℕ) → (let one : Option ℕ = Some j in one ≡ Some k) → j ≡ k
      same_place j k e = cc

  -- the content of that block
  pub block_read : IsKept disc m → (place : ℕ) (into : List ℕ) → (let one : Option ℕ = Some place in one ≡ place_in (slice_get listed i) part) → ForSome disc.held (λ blocks. slice_get blocks place ≡ Some into)
      → (ps : List Pin) (pin : Pin) → o.pins ≡ Some ps → slice_get ps i ≡ Some pin → ForSome pin.blocks (λ blocks. slice_get blocks part ≡ Some into)
  block_read kept place into found read ps pin are there =
      let at = version_at disc.held m.pins i ps pin (pins_here ps are) there in
      let p : Pinned = at.version in
      let where_is : slice_get p.blocks part ≡ Some place =
      sym (ap (λ (l : List Pinned). place_in (slice_get l i) part) (list_here at.list at.pins_are) ∙ ap (λ (q : Option Pinned). place_in q part) at.there) ∙ sym found in
      block_of disc.held p.blocks part place into pin.blocks (sym (ap (λ (q : Pin). q.blocks) at.is)) where_is read
