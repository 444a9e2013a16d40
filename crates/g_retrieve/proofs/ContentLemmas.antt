-- The bytes of held blocks are content.
-- serves: tape_bytes (none, some), crates above
use Rattle.std.proofs.Common.{◌≡◌, ℕ, zero, suc, ◌+◌, ◌-◌, ◌*◌, ◌<◌, ◌≤◌, List, [], ◌∷◌, ◌++◌, length, map, take, drop, refl, sym, ◌∙◌, ap, subst, arith, length-append}
use Rattle.std.specs.Prelude.{All, Contains}
use Rattle.std.specs.Option.{ForSome}
use Rattle.std.proofs.lemmas.Grind.{flat_map-append}
use Rattle.std.proofs.lemmas.List.{append_assoc, drop-drop, drop-take, drop_at, length-drop, length-map, length-take-le, take-append-drop, take-append-le, take-take, take_at}
use Rattle.std.proofs.lemmas.List.Elements.{All-drop, All-head, All-tail, All-take}
use Rattle.g_base.specs.Block.{IsBlock, blocks_for}
use Rattle.g_entry.specs.declared.file_rec.TapeCopy.{TapeCopy}
use Rattle.g_tape.specs.Rack.{Rack}
use Rattle.g_tape.specs.Reads.{blocks_of}
use Rattle.g_incr.specs.Layout.{Dump, StandsOn, content_at, dump_blocks, ends, file_in, header_block, mark_block, size_of, user_in}
use Rattle.g_shelf.specs.CompletedDumps.{AreCompleted, AreNext}
use Rattle.g_shelf.specs.HeldBlocks.{AreHeld}
use Rattle.g_shelf.proofs.HeldLemmas.{held_in_one}
use Rattle.g_shelf.proofs.OneLemmas.{completed_are_one}
use Rattle.g_store_meaning.specs.Meaning.{IsContent, joined}

-- A DUMP'S CONTENT on the reel
content_behind : (header mark : List ℕ) (users files content : List (List ℕ)) → drop (1 + length users + length files) (header ∷ (users ++ (files ++ (content ++ mark ∷ [])))) ≡ content ++ mark ∷ []
content_behind header mark users files content =
    let rest : List (List ℕ) = content ++ mark ∷ [] in
    let front : List (List ℕ) = header ∷ (users ++ files) in
    let long : length front ≡ 1 + length users + length files = (let both = length-append users files in omega (arith, both)) in
    ap (λ (l : List (List ℕ)). drop (1 + length users + length files) (header ∷ l)) (sym (append_assoc users files rest)) ∙ drop_at front rest (1 + length users + length files) long

pub content_stands : (reel : List (List ℕ)) (d : Dump) → StandsOn reel d → take (length d.content) (drop (content_at d) reel) ≡ d.content
unfolding dump_blocks
content_stands reel d stands =
    let users : List (List ℕ) = map (user_in d) d.users in
    let files : List (List ℕ) = map (file_in d) d.files in
    let before : ℕ = 1 + length users + length files in
    let many : length users ≡ length d.users = length-map d.users (user_in d) in
    let more : length files ≡ length d.files = length-map d.files (file_in d) in
    let n : ℕ = length d.content in
    let at : content_at d ≡ d.place + before = omega (arith, many, more) in
    let size : size_of d ≡ before + (n + 1) = omega (arith, many, more) in
    let behind : take (n + 1) (drop (content_at d) reel) ≡ d.content ++ mark_block d ∷ [] =
    ap (λ (m : ℕ). take (n + 1) (drop m reel)) at ∙ ap (take (n + 1)) (sym (drop-drop before d.place reel)) ∙ sym (drop-take before (n + 1) (drop d.place reel))
    ∙ ap (λ (m : ℕ). drop before (take m (drop d.place reel))) (sym size) ∙ ap (drop before) stands.blocks ∙ content_behind (header_block d) (mark_block d) users files d.content in
    sym (take-take n (n + 1) (drop (content_at d) reel) (omega arith)) ∙ ap (take n) behind ∙ take_at d.content (mark_block d ∷ []) n refl

-- blocks within it
pub part_stands : (reel : List (List ℕ)) (d : Dump) (first n : ℕ) → StandsOn reel d → content_at d ≤ first → first + n ≤ content_at d + length d.content
    → take n (drop first reel) ≡ take n (drop (first - content_at d) d.content)
part_stands reel d first n stands from to =
    let s : ℕ = first - content_at d in
    let whole : List (List ℕ) = drop (content_at d) reel in
    let at : first ≡ content_at d + s = omega (arith, from) in
    let left : ℕ = length d.content - s in
    let long : length d.content ≡ s + left = omega (arith, from, to) in
    let inside : drop s d.content ≡ take left (drop s whole) =
    ap (drop s) (sym (content_stands reel d stands)) ∙ ap (λ (m : ℕ). drop s (take m whole)) long ∙ drop-take s left whole in
    ap (λ (m : ℕ). take n (drop m reel)) at ∙ ap (take n) (sym (drop-drop s (content_at d) reel)) ∙ sym (take-take n left (drop s whole) (omega (arith, from, to))) ∙ ap (take n) (sym inside)

-- whole blocks, one after another
pub joined_long : (blocks : List (List ℕ)) → All IsBlock blocks → length (joined blocks) ≡ 512 * length blocks
joined_long [] all = refl
joined_long (b ∷ bs) all =
    let one = (All-head IsBlock b bs all).size in
    let rest = joined_long bs (All-tail IsBlock b bs all) in
    omega (arith, length-append b (joined bs), one, rest)

pub front_text : (len n : ℕ) (blocks : List (List ℕ)) → All IsBlock blocks → len ≤ 512 * n → n ≤ length blocks → take len (joined (take n blocks)) ≡ take len (joined blocks)
front_text len n blocks all short within =
    let cut = length-take-le n blocks within in
    let long = joined_long (take n blocks) (All-take IsBlock n blocks all) in
    sym (ap (λ (l : List (List ℕ)). take len (joined l)) (sym (take-append-drop n blocks))
    ∙ ap (take len) (flat_map-append (λ (b : List ℕ). b) (take n blocks) (drop n blocks))
    ∙ take-append-le len (joined (take n blocks)) (joined (drop n blocks)) (omega (arith, cut, long, short)))

-- THE BYTES OF HELD BLOCKS are content
stands_of : (serial : ℕ) (reel : List (List ℕ)) (at from : ℕ) (ds : List Dump) (d : Dump) → AreNext serial reel at from ds → Contains ds d → StandsOn reel d
stands_of serial reel at from [] d are (i, inside, is) = let no : ⊥ = omega (arith, inside) in absurd no
stands_of serial reel at from (e ∷ es) d are (zero, inside, is) = subst (StandsOn reel) is are.0.stands
stands_of serial reel at from (e ∷ es) d are (suc i, inside, is) = stands_of serial reel (ends e) (e.number + 1) es d are.1 (i, omega (arith, inside), is)

pub is_content : (reel : List (List ℕ)) (dumps : List Dump) (copy : TapeCopy) (len : ℕ) (text : List ℕ) → AreCompleted copy.serial reel dumps → 0 < len → AreHeld dumps copy (blocks_for len)
    → length text ≡ len → text ≡ take len (joined (take (blocks_for len) (drop copy.first reel))) → IsContent dumps copy text
is_content reel dumps copy len text are some held long text_is =
    let one = held_in_one copy.serial reel dumps copy (blocks_for len) are (omega (arith, some)) held in
    let d = one.dump in
    let stands = stands_of copy.serial reel 0 0 dumps d are.are one.there in
    let from = one.from in
    let to = one.to in
    let s : ℕ = copy.first - content_at d in
    let behind = length-drop s d.content in
    let read : text ≡ take len (joined (drop s d.content)) =
    text_is ∙ ap (λ (l : List (List ℕ)). take len (joined l)) (part_stands reel d copy.first (blocks_for len) stands from to)
    ∙ front_text len (blocks_for len) (drop s d.content) (All-drop IsBlock s d.content stands.rules.content) (omega arith) (omega (arith, behind, from, to)) in
    record {
      dump = d;
      there = one.there;
      reel = one.on;
      from = from;
      to = subst (λ (n : ℕ). copy.first + blocks_for n ≤ content_at d + length d.content) (sym long) to;
      text_is = ap (λ (n : ℕ). take n (joined (drop s d.content))) long ∙ sym read;
    }

-- and what is content is held
pub content_held : (dumps : List Dump) (copy : TapeCopy) (len : ℕ) (text : List ℕ) → length text ≡ len → IsContent dumps copy text → AreHeld dumps copy (blocks_for len)
content_held dumps copy len text long is k below =
    let from = is.from in
    let to : copy.first + blocks_for len ≤ content_at is.dump + length is.dump.content = subst (λ (n : ℕ). copy.first + blocks_for n ≤ content_at is.dump + length is.dump.content) long is.to in
    record { dump = is.dump; there = is.there; on = is.reel; from = omega (arith, from); to = omega (arith, to, below) }

-- WHAT WAS FOUND OUT of the reel's dumps
pub some_text : (copy : TapeCopy) (len : ℕ) (text : List ℕ) (ds : List Dump) (old : Rack) → ForSome (blocks_of copy.serial old) (λ bs. AreCompleted copy.serial bs ds) → AreHeld ds copy (blocks_for len) → length text ≡ len
    → ForSome (blocks_of copy.serial old) (λ bs. text ≡ take len (joined (take (blocks_for len) (drop copy.first bs))))
    → ForSome (blocks_of copy.serial old) (λ bs. (dumps : List Dump) → AreCompleted copy.serial bs dumps → 0 < len → IsContent dumps copy text)
some_text copy len text ds old completed held long text_is bs told dumps are some =
    let same = completed_are_one copy.serial bs ds dumps (completed bs told) are in
    subst (λ (es : List Dump). IsContent es copy text) same (is_content bs ds copy len text (completed bs told) some held long (text_is bs told))

pub no_text : (copy : TapeCopy) (len : ℕ) (ds : List Dump) (old : Rack) → ForSome (blocks_of copy.serial old) (λ bs. AreCompleted copy.serial bs ds) → (AreHeld ds copy (blocks_for len) → ⊥)
    → ForSome (blocks_of copy.serial old) (λ bs. (dumps : List Dump) → AreCompleted copy.serial bs dumps → (text : List ℕ) → length text ≡ len → IsContent dumps copy text → ⊥)
no_text copy len ds old completed none bs told dumps are text long is =
    let same = completed_are_one copy.serial bs dumps ds are (completed bs told) in
    none (content_held ds copy len text long (subst (λ (es : List Dump). IsContent es copy text) same is))
