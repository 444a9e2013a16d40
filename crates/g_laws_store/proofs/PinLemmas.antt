-- The pins of a dump that is opened: the copies that are noted for the versions, and their bytes in the dump's content.
-- serves: CopyLemmas, NeedsLemmas, OpenedLemmas, OpeningLemmas, OwnLemmas, PlaceLemmas, StateLemmas, crates above
use Rattle.std.proofs.Common.{◌≡◌, ◌≢◌, ℕ, suc, ◌+◌, ◌-◌, min, true, false, List, [], ◌∷◌, ◌++◌, length, take, drop, Option, Some, None, refl, sym, ◌∙◌, ap, arith, subst, inl, inr}
use Rattle.std.specs.Prelude.{◌⊎◌, ◌==◌, All, AllPairs, Contains, map}
use Rattle.std.proofs.lemmas.Bool.{cases_Bool, cond-false, cond-true, eq-eqb, ne_eqb}
use Rattle.std.proofs.lemmas.List.{append_assoc, drop_at, length-append, length-take, take-append-le}
use Rattle.std.proofs.lemmas.List.Elements.{All-append, All-cons, All-head, All-nil, All-tail}
use Rattle.std.proofs.lemmas.List.Sums.{sum_by-cons}
use Rattle.std.proofs.lemmas.Grind.{flat_map-append}
use Rattle.std.proofs.lemmas.Option.{none-some, same_Some}
use Rattle.g_base.specs.Block.{IsBlock, blocks_for}
use Rattle.g_entry.specs.declared.file_rec.FileRec.{FileRec}
use Rattle.g_entry.specs.declared.file_rec.TapeCopy.{TapeCopy}
use Rattle.g_disc_contents.specs.Contents.{copied_rec, copy_of}
use Rattle.g_disc_contents.specs.Facts.{Pin}
use Rattle.g_incr.specs.Layout.{Dump, content_at}
use Rattle.g_incr.specs.Plan.{blocks_of, noted_files, noted_rec, waiting, waits}
use Rattle.g_laws_store.specs.Dumping.{PinsText}
use Rattle.g_store_meaning.specs.Laws.{HasContent}
use Rattle.g_store_meaning.specs.Meaning.{IsContent, joined}
use Rattle.g_store_meaning.specs.StoreInvariant.{ArePinned, content_in}

abbrev pub pairs : List Pin → List (ℕ × TapeCopy)
pairs pins = map (λ (p : Pin). (p.stamp, p.copy)) pins

abbrev pub OtherStamp : FileRec → FileRec → Type 0
OtherStamp r s = r.stamp ≢ s.stamp

abbrev pub IsOther : ℕ → FileRec → Type 0
IsOther stamp r = r.stamp ≡ stamp → ⊥

abbrev pub IsOtherPin : ℕ → Pin → Type 0
IsOtherPin stamp p = p.stamp ≡ stamp → ⊥

-- a stamp that no file has no pin has
pub other_pins : (serial at stamp : ℕ) (ws : List FileRec) (pins : List Pin) → ArePinned serial at ws pins → All (IsOther stamp) ws → All (IsOtherPin stamp) pins
other_pins serial at stamp [] pins are all = subst (All (IsOtherPin stamp)) (sym are) (All-nil (IsOtherPin stamp))
other_pins serial at stamp (r ∷ rs) pins (pin, rest, same, is, len, copy, blocks, more) all =
    subst (All (IsOtherPin stamp)) (sym same)
    (All-cons (IsOtherPin stamp) pin rest (λ e. All-head (IsOther stamp) r rs all (sym is ∙ e))
    (other_pins serial (at + blocks_for r.len) stamp rs rest more (All-tail (IsOther stamp) r rs all)))

-- and then no copy is noted for it
pub copy_apart : (stamp : ℕ) (pins : List Pin) (old : Option TapeCopy) → All (IsOtherPin stamp) pins → copy_of (pairs pins) stamp old ≡ old
copy_apart stamp [] old all = refl
copy_apart stamp (p ∷ ps) old all =
    cond-false (p.stamp == stamp) (Some p.copy) (copy_of (pairs ps) stamp old) (ne_eqb p.stamp stamp (All-head (IsOtherPin stamp) p ps all))
    ∙ copy_apart stamp ps old (All-tail (IsOtherPin stamp) p ps all)

with_tape : Option TapeCopy → FileRec → FileRec
with_tape o r = record r { tape = o }

pub copied_apart : (pins : List Pin) (r : FileRec) → All (IsOtherPin r.stamp) pins → copied_rec (pairs pins) r ≡ r
unfolding with_tape
copied_apart pins r all = ap (λ (o : Option TapeCopy). with_tape o r) (copy_apart r.stamp pins r.tape all)

pub waiting_all : (P : FileRec → Type 0) (rs : List FileRec) → All P rs → All P (waiting rs)
waiting_all P [] all = All-nil P
waiting_all P (r ∷ rs) all = by_copy (cases_Bool (waits r)) (waiting_all P rs (All-tail P r rs all))
  where
    by_copy : (waits r ≡ true) ⊎ (waits r ≡ false) → All P (waiting rs) → All P (waiting (r ∷ rs))
    by_copy (inl is) rest = subst (All P) (sym (cond-true (waits r) (r ∷ waiting rs) (waiting rs) is)) (All-cons P r (waiting rs) (All-head P r rs all) rest)
    by_copy (inr isnt) rest = subst (All P) (sym (cond-false (waits r) (r ∷ waiting rs) (waiting rs) isnt)) rest

tail_same : (pin : Pin) (rest : List Pin) (rs : List FileRec) → All (IsOther pin.stamp) rs → map (copied_rec (pairs (pin ∷ rest))) rs ≡ map (copied_rec (pairs rest)) rs
unfolding with_tape
tail_same pin rest [] all = refl
tail_same pin rest (r ∷ rs) all =
    ap (λ (o : Option TapeCopy). with_tape o r ∷ map (copied_rec (pairs (pin ∷ rest))) rs)
    (cond-false (pin.stamp == r.stamp) (Some pin.copy) (copy_of (pairs rest) r.stamp r.tape) (ne_eqb pin.stamp r.stamp (λ e. All-head (IsOther pin.stamp) r rs all (sym e))))
    ∙ ap (λ (qs : List FileRec). copied_rec (pairs rest) r ∷ qs) (tail_same pin rest rs (All-tail (IsOther pin.stamp) r rs all))

rest_apart : (r : FileRec) (rs : List FileRec) → AllPairs OtherStamp (r ∷ rs) → AllPairs OtherStamp rs
rest_apart r rs apart i j d less within = apart (suc i) (suc j) d (omega (arith, less)) (omega (arith, within))

first_apart : (r : FileRec) (rs : List FileRec) → AllPairs OtherStamp (r ∷ rs) → All (IsOther r.stamp) rs
first_apart r rs apart j d within same = apart 0 (suc j) d (omega arith) (omega (arith, within)) (sym same)

-- THE NOTED COPIES are those of the pins
pub noted_copied : (serial at : ℕ) (files : List FileRec) (pins : List Pin) → ArePinned serial at (waiting files) pins → AllPairs OtherStamp files
    → noted_files serial at files ≡ map (copied_rec (pairs pins)) files
unfolding with_tape
noted_copied serial at [] pins are apart = refl
noted_copied serial at (r ∷ rs) pins are apart =
    by_copy (cases_Bool (waits r)) (λ ps is. noted_copied serial (at + blocks_for r.len) rs ps is (rest_apart r rs apart)) (λ ps is. noted_copied serial at rs ps is (rest_apart r rs apart))
  where
    others : All (IsOther r.stamp) rs
    others = first_apart r rs apart

    by_copy : (waits r ≡ true) ⊎ (waits r ≡ false)
        → ((ps : List Pin) → ArePinned serial (at + blocks_for r.len) (waiting rs) ps → noted_files serial (at + blocks_for r.len) rs ≡ map (copied_rec (pairs ps)) rs)
        → ((ps : List Pin) → ArePinned serial at (waiting rs) ps → noted_files serial at rs ≡ map (copied_rec (pairs ps)) rs)
        → noted_files serial at (r ∷ rs) ≡ map (copied_rec (pairs pins)) (r ∷ rs)
    by_copy (inl is) gets keeps =
        let (pin, rest, same, stamp, len, copy, blocks, more) = subst (λ (ws : List FileRec). ArePinned serial at ws pins) (cond-true (waits r) (r ∷ waiting rs) (waiting rs) is) are in
        let apart_rest = subst (λ (n : ℕ). All (IsOther n) rs) (sym stamp) others in
        let head : Some (record { serial = serial; first = at }) ≡ copy_of (pairs (pin ∷ rest)) r.stamp r.tape =
        ap (λ (c : TapeCopy). let o : Option TapeCopy = Some c in o) (sym copy)
        ∙ sym (cond-true (pin.stamp == r.stamp) (Some pin.copy) (copy_of (pairs rest) r.stamp r.tape) (eq-eqb pin.stamp r.stamp stamp)) in
        cond-true (waits r) (noted_rec serial at r ∷ noted_files serial (at + blocks_for r.len) rs) (r ∷ noted_files serial at rs) is
        ∙ ap (λ (qs : List FileRec). noted_rec serial at r ∷ qs) (gets rest more ∙ sym (tail_same pin rest rs apart_rest))
        ∙ ap (λ (o : Option TapeCopy). with_tape o r ∷ map (copied_rec (pairs (pin ∷ rest))) rs) head
        ∙ ap (λ (ps : List Pin). map (copied_rec (pairs ps)) (r ∷ rs)) (sym same)
    by_copy (inr isnt) gets keeps =
        let were = subst (λ (ws : List FileRec). ArePinned serial at ws pins) (cond-false (waits r) (r ∷ waiting rs) (waiting rs) isnt) are in
        cond-false (waits r) (noted_rec serial at r ∷ noted_files serial (at + blocks_for r.len) rs) (r ∷ noted_files serial at rs) isnt
        ∙ ap (λ (qs : List FileRec). r ∷ qs) (keeps pins were)
        ∙ ap (λ (q : FileRec). q ∷ map (copied_rec (pairs pins)) rs) (sym (copied_apart pins r (other_pins serial at r.stamp (waiting rs) pins were (waiting_all (IsOther r.stamp) rs others))))

-- THE CONTENT that pins give
abbrev pub both_told : Option (List (List ℕ)) → Option (List (List ℕ)) → Option (List (List ℕ))
both_told (Some a) (Some b) = Some (a ++ b)
both_told a b = None

pub record IsBoth (x y : Option (List (List ℕ))) (content : List (List ℕ)) : Type 0 where
  pub one : List (List ℕ)
  pub rest : List (List ℕ)
  pub is : x ≡ Some one
  pub are : y ≡ Some rest
  pub both : content ≡ one ++ rest

pub split_told : (x y : Option (List (List ℕ))) (content : List (List ℕ)) → both_told x y ≡ Some content → IsBoth x y content
split_told (Some a) (Some b) content e = record { one = a; rest = b; is = refl; are = refl; both = sym (same_Some (a ++ b) content e) }
split_told (Some a) None content e = absurd (none-some content e)
split_told None y content e = absurd (none-some content e)

-- as many blocks as the versions take
pub pinned_blocks : (text : ℕ → List ℕ) (serial at : ℕ) (ws : List FileRec) (pins : List Pin) (content : List (List ℕ)) → ArePinned serial at ws pins → content_in pins ≡ Some content
    → All (PinsText text) pins → (length content ≡ blocks_of ws) × All IsBlock content
pinned_blocks text serial at [] pins content are told all =
    let none : List (List ℕ) = [] in
    let is : none ≡ content = same_Some none content (ap content_in (sym are) ∙ told) in
    (ap (λ (bs : List (List ℕ)). length bs) (sym is), subst (All IsBlock) is (All-nil IsBlock))
pinned_blocks text serial at (r ∷ rs) pins content (pin, rest, same, stamp, len, copy, blocks, more) told all =
    let every = subst (All (PinsText text)) same all in
    let both = split_told pin.blocks (content_in rest) content (ap content_in (sym same) ∙ told) in
    let (long, whole) = pinned_blocks text serial (at + blocks_for r.len) rs rest both.rest more both.are (All-tail (PinsText text) pin rest every) in
    let here = blocks both.one both.is in
    let text_is = All-head (PinsText text) pin rest every both.one both.is in (
      ap (λ (bs : List (List ℕ)). length bs) both.both ∙ length-append both.one both.rest ∙ ap (λ (n : ℕ). n + length both.rest) here ∙ ap (λ (n : ℕ). blocks_for r.len + n) long
          ∙ sym (sum_by-cons (λ (s : FileRec). blocks_for s.len) r rs),
      subst (All IsBlock) (sym both.both) (All-append IsBlock both.one both.rest text_is.0 whole),
    )

abbrev pub HasLen : (ℕ → List ℕ) → FileRec → Type 0
HasLen text r = length (text r.stamp) ≡ r.len

-- a prefix of the required length
front_is : (n : ℕ) (a b text : List ℕ) → take n a ≡ text → length text ≡ n → take n (a ++ b) ≡ text
front_is n a b text is long =
    let least : min n (length a) ≡ n = sym (length-take n a) ∙ ap (λ (xs : List ℕ). length xs) is ∙ long in
    take-append-le n a b (omega (arith, least)) ∙ is

-- each pin's copy is content of the dump, at this distance from its start
pub pins_content : (text : ℕ → List ℕ) (dumps : List Dump) (d : Dump) (serial at : ℕ) (ws : List FileRec) (pins : List Pin) (before content : List (List ℕ))
    → Contains dumps d → d.serial ≡ serial → at ≡ content_at d + length before → d.content ≡ before ++ content
    → ArePinned serial at ws pins → content_in pins ≡ Some content → All (PinsText text) pins → All (HasLen text) ws → All (HasContent text dumps) (pairs pins)
pins_content text dumps d serial at [] pins before content there on place parts are told all long =
    subst (λ (ps : List Pin). All (HasContent text dumps) (pairs ps)) (sym are) (All-nil (HasContent text dumps))
pins_content text dumps d serial at (r ∷ rs) pins before content there on place parts (pin, rest, same, stamp, len, copy, blocks, more) told all long =
    let every = subst (All (PinsText text)) same all in
    let both = split_told pin.blocks (content_in rest) content (ap content_in (sym same) ∙ told) in
    let a = both.one in
    let b = both.rest in
    let count : length a ≡ blocks_for r.len = blocks a both.is in
    let parts_now : d.content ≡ before ++ (a ++ b) = parts ∙ ap (λ (bs : List (List ℕ)). before ++ bs) both.both in
    let whole : length d.content ≡ length before + (length a + length b) =
    ap (λ (bs : List (List ℕ)). length bs) parts_now ∙ length-append before (a ++ b) ∙ ap (λ (n : ℕ). length before + n) (length-append a b) in
    let behind : length (before ++ a) ≡ length before + length a = length-append before a in
    let text_long : length (text pin.stamp) ≡ pin.len = ap (λ (n : ℕ). length (text n)) stamp ∙ All-head (HasLen text) r rs long ∙ sym len in
    let text_is = (All-head (PinsText text) pin rest every a both.is).1 in
    let at_is : at - content_at d ≡ length before = omega (arith, place) in
    let dropped : drop (at - content_at d) d.content ≡ a ++ b =
    ap (λ (n : ℕ). drop n d.content) at_is ∙ ap (λ (bs : List (List ℕ)). drop (length before) bs) parts_now ∙ drop_at before (a ++ b) (length before) refl in
    let read : take (length (text pin.stamp)) (joined (drop (at - content_at d) d.content)) ≡ text pin.stamp =
    ap (λ (n : ℕ). take n (joined (drop (at - content_at d) d.content))) text_long
    ∙ ap (λ (bs : List (List ℕ)). take pin.len (joined bs)) dropped
    ∙ ap (λ (ns : List ℕ). take pin.len ns) (flat_map-append (λ (bs : List ℕ). bs) a b)
    ∙ front_is pin.len (joined a) (joined b) (text pin.stamp) text_is text_long in
    let blocks_same : blocks_for (length (text pin.stamp)) ≡ blocks_for r.len = ap blocks_for (text_long ∙ len) in
    let content_is : IsContent dumps (record { serial = serial; first = at }) (text pin.stamp) = record {
      dump = d;
      there = there;
      reel = on;
      from = omega (arith, place);
      to = omega (arith, place, whole, count, blocks_same);
      text_is = read;
    } in
    subst (λ (ps : List Pin). All (HasContent text dumps) (pairs ps)) (sym same)
    (All-cons (HasContent text dumps) (pin.stamp, pin.copy) (pairs rest)
    (subst (λ (c : TapeCopy). IsContent dumps c (text pin.stamp)) (sym copy) content_is)
    (pins_content text dumps d serial (at + blocks_for r.len) rs rest (before ++ a) b there on (omega (arith, place, behind, count))
    (parts_now ∙ sym (append_assoc before a b)) more both.are (All-tail (PinsText text) pin rest every) (All-tail (HasLen text) r rs long)))
