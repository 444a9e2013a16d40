-- A place is held according to the notes if and only if it is held by the dumps.
-- serves: any_has, first_lost (some), FoldLemmas, crates above
use Rattle.std.proofs.Common.{◌≡◌, ℕ, ◌+◌, ◌-◌, ◌*◌, ◌<◌, ◌≤◌, List, [], ◌∷◌, length, get_or, take, drop, Option, Some, None, refl, sym, ◌∙◌, ap, arith, subst, All}
use Rattle.std.specs.Prelude.{IfSome}
use Rattle.std.proofs.lemmas.List.{get_or_default, length-append, length-drop, length-take-le}
use Rattle.std.proofs.lemmas.List.Elements.{All-contains, All-drop, All-head, All-more, All-tail}
use Rattle.g_base.specs.Block.{IsBlock, blocks_for}
use Rattle.g_entry.specs.declared.file_rec.FileRec.{FileRec}
use Rattle.g_entry.specs.declared.file_rec.TapeCopy.{TapeCopy}
use Rattle.g_incr.specs.Layout.{Dump, IsDump, content_at, count_of}
use Rattle.g_store_meaning.specs.Meaning.{IsContent, joined}
use Rattle.g_restore.specs.declared.dumps.Found.{Found}
use Rattle.g_restore.specs.KnownDumps.{AreKnown, Known, known, known_of}
use Rattle.g_restore.specs.Losses.{HasPlace}
use Rattle.g_restore.specs.Places.{AnyHas, HasBlocks, IsFirstNotHeld, IsHeld}
use Rattle.g_restore.proofs.KnownLemmas.{known_at, place_of}

length-joined : (bs : List (List ℕ)) → All IsBlock bs → length (joined bs) ≡ 512 * length bs
length-joined [] all = refl
length-joined (b ∷ bs) all =
    let here = (All-head IsBlock b bs all).size in
    let rest = length-joined bs (All-tail IsBlock b bs all) in
    let sum = length-append b (joined bs) in
    omega (arith, here, rest, sum)

blocks_hold : (n : ℕ) → n ≤ 512 * blocks_for n
blocks_hold n = omega arith

-- A text of this length is at the place.
abbrev HasText : List Dump → ℕ → TapeCopy → Type 0
HasText dumps len c = (text : List ℕ) × (length text ≡ len) × IsContent dumps c text

module _ (found : List Found) (dumps : List Dump) (are : AreKnown found dumps) where
  text_there : (len : ℕ) (c : TapeCopy) → AnyHas found c (blocks_for len) → HasText dumps len c
  text_there len c any =
      let (k, within, at_k) = any.there in
      let (d, in_d, at_d, known_d) = known_at found dumps are.same k within in
      let same : known any.one ≡ known_of d = ap known (sym at_k) ∙ known_d any.one in
      let on : d.serial ≡ c.serial = ap (λ (x : Known). x.serial) (sym same) ∙ any.has.on in
      let place : any.one.dir.note.place ≡ d.place = ap (λ (x : Known). x.note.place) same in
      let count : any.one.dir.note.count ≡ count_of d = ap (λ (x : Known). x.note.count) same in
      let users : any.one.dir.note.users ≡ length d.users = ap (λ (x : Known). x.note.users) same in
      let files : any.one.dir.note.files ≡ length d.files = ap (λ (x : Known). x.note.files) same in
      let least = any.has.content.from in
      let most = any.has.content.to in
      let from : content_at d ≤ c.first = omega arith in
      let to : c.first + blocks_for len ≤ content_at d + length d.content = omega arith in
      let rules = All-contains IsDump dumps d are.rules in_d in
      let blocks : List (List ℕ) = drop (c.first - content_at d) d.content in
      let whole = length-joined blocks (All-drop IsBlock (c.first - content_at d) d.content rules.content) in
      let rest = length-drop (c.first - content_at d) d.content in
      let hold = blocks_hold len in
      let enough : len ≤ length (joined blocks) = omega (arith, from, to, whole, rest, hold) in
      let long : length (take len (joined blocks)) ≡ len = length-take-le len (joined blocks) enough in (
        take len (joined blocks),
        long,
        record {
          dump = d;
          there = in_d;
          reel = on;
          from = from;
          to = subst (λ (n : ℕ). c.first + blocks_for n ≤ content_at d + length d.content) (sym long) to;
          text_is = ap (λ (n : ℕ). take n (joined blocks)) long;
        },
      )

  blocks_there : (len : ℕ) (c : TapeCopy) → HasText dumps len c → AnyHas found c (blocks_for len)
  blocks_there len c (text, long, is) =
      let (k, within, f, at_f, known_f) = place_of found dumps are.same is.dump is.there in
      let place : f.dir.note.place ≡ is.dump.place = ap (λ (x : Known). x.note.place) known_f in
      let count : f.dir.note.count ≡ count_of is.dump = ap (λ (x : Known). x.note.count) known_f in
      let users : f.dir.note.users ≡ length is.dump.users = ap (λ (x : Known). x.note.users) known_f in
      let files : f.dir.note.files ≡ length is.dump.files = ap (λ (x : Known). x.note.files) known_f in
      let least = is.from in
      let most : c.first + blocks_for len ≤ content_at is.dump + length is.dump.content =
      subst (λ (n : ℕ). c.first + blocks_for n ≤ content_at is.dump + length is.dump.content) long is.to in
      record {
        one = f;
        there = (k, within, at_f);
        has = record { on = ap (λ (x : Known). x.serial) known_f ∙ is.reel; content = record { from = omega arith; to = omega arith } };
      }

  held_so : (len : ℕ) (tape : Option TapeCopy) → IfSome tape (λ c. AnyHas found c (blocks_for len)) → IfSome tape (HasText dumps len)
  held_so len None held = tt
  held_so len (Some c) held = text_there len c held

  pub place_held : (r : FileRec) → IsHeld found r → HasPlace dumps r
  place_held r held = held_so r.len r.tape held

  not_there : (len : ℕ) (tape : Option TapeCopy) (c : TapeCopy) → tape ≡ Some c → (AnyHas found c (blocks_for len) → ⊥) → IfSome tape (HasText dumps len) → ⊥
  not_there len None c is lost has = let no : ⊥ = cc in no
  not_there len (Some e) c is lost has =
      let same : e ≡ c = cc in
      lost (subst (λ (x : TapeCopy). AnyHas found x (blocks_for len)) same (blocks_there len e has))

  pub place_lost : (r : FileRec) (c : TapeCopy) → r.tape ≡ Some c → (AnyHas found c (blocks_for r.len) → ⊥) → HasPlace dumps r → ⊥
  place_lost r c is lost has = not_there r.len r.tape c is lost has

-- The first file whose copy isn't held.
pub first_not_held : (found : List Found) (files : List FileRec) (i : ℕ) (x : FileRec) (copy : TapeCopy) → i < length files → x ≡ get_or files i x → All (IsHeld found) (take i files)
    → x.tape ≡ Some copy → (AnyHas found copy (blocks_for x.len) → ⊥) → IsFirstNotHeld found files i copy
first_not_held found files i x copy within at before is lost = record {
  within = within;
  before = before;
  copy_is = λ e. ap (λ (r : FileRec). r.tape) (here e) ∙ is;
  lost = λ e any. lost (subst (λ (r : FileRec). AnyHas found copy (blocks_for r.len)) (here e) any);
}
  where
    here : (e : FileRec) → get_or files i e ≡ x
    here e = get_or_default files i e x within ∙ sym at

pub one_held : (found : List Found) (files : List FileRec) (i : ℕ) (x : FileRec) → i < length files → x ≡ get_or files i x → All (IsHeld found) (take i files) → IsHeld found x
    → All (IsHeld found) (take (i + 1) files)
one_held found files i x within at before here = All-more (IsHeld found) files i x within before (subst (IsHeld found) at here)

-- ONE OF THE DUMPS that has the blocks
pub any_here : (found : List Found) (copy : TapeCopy) (blocks i : ℕ) (x : Found) → i < length found → x ≡ get_or found i x → HasBlocks copy blocks x → AnyHas found copy blocks
any_here found copy blocks i x within at has = record { one = x; there = (i, within, sym at); has = has }
