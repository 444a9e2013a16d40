-- Which block of the dump is which block of which version; and that each of them was read.
-- serves: AnswerLemmas, DumpLemmas, ExitLemmas, LossLemmas, WholeLemmas
use Rattle.std.proofs.Common.{◌≡◌, ℕ, zero, suc, ◌+◌, ◌<◌, ◌≤◌, List, [], ◌∷◌, length, map, take, Some, refl, sym, ◌∙◌, ap, arith, subst, inl, inr, slice_get}
use Rattle.std.specs.Prelude.{replicate}
use Rattle.std.proofs.lemmas.List.Sums.{sum_by-cons}
use Rattle.std.proofs.lemmas.Option.{same_Some}
use Rattle.g_base.specs.Block.{blocks_for}
use Rattle.g_entry.specs.declared.file_rec.FileRec.{FileRec}
use Rattle.g_tape.specs.Rack.{Rack}
use Rattle.g_disc_contents.specs.Facts.{OnlineFacts}
use Rattle.g_incr.specs.Plan.{IsContentAt, IsReadyAt, Plan, blocks_of, content_blocks, dump_of, first_content, needs, waiting}
use Rattle.g_incr.proofs.ListLemmas.{get_some}
use Rattle.g_incr.proofs.PlanLemmas.{length-made}
use Rattle.g_laws_store.specs.ForgottenCopies.{bare_rec}
use Rattle.g_dumper.proofs.NextLemmas.{at_content}
use Rattle.g_process.specs.Progress.{HasWritten, IsBlockOf, IsSource}
use Rattle.g_process.proofs.WriteLemmas.{get_map}

-- a version's blocks lie within the content
pub within_content : (ws : List FileRec) (i part : ℕ) (v : FileRec) → slice_get ws i ≡ Some v → part < blocks_for v.len → blocks_of (take i ws) + part < blocks_of ws
within_content [] i part v at less = absurd (let no : ⊥ = cc in no)
within_content (w ∷ ws) zero part v at less =
    let same : w ≡ v = same_Some w v at in
    let len : blocks_for w.len ≡ blocks_for v.len = ap (λ (x : FileRec). blocks_for x.len) same in
    let sum = sum_by-cons (λ (x : FileRec). blocks_for x.len) w ws in
    omega (arith, less, len, sum)
within_content (w ∷ ws) (suc i) part v at less =
    let deeper = within_content ws i part v at less in
    let one = sum_by-cons (λ (x : FileRec). blocks_for x.len) w (take i ws) in
    let all = sum_by-cons (λ (x : FileRec). blocks_for x.len) w ws in
    omega (arith, deeper, one, all)

-- and none of them is another's
content_one : (ws : List FileRec) (i j part other : ℕ) (v w : FileRec) → slice_get ws i ≡ Some v → slice_get ws j ≡ Some w → part < blocks_for v.len → other < blocks_for w.len
    → blocks_of (take i ws) + part ≡ blocks_of (take j ws) + other → (i ≡ j) × (part ≡ other)
content_one [] i j part other v w at_i at_j less more same = absurd (let no : ⊥ = cc in no)
content_one (x ∷ xs) zero zero part other v w at_i at_j less more same = (refl, omega (arith, same))
content_one (x ∷ xs) zero (suc j) part other v w at_i at_j less more same =
    let len : blocks_for x.len ≡ blocks_for v.len = ap (λ (y : FileRec). blocks_for y.len) (same_Some x v at_i) in
    let sum = sum_by-cons (λ (y : FileRec). blocks_for y.len) x (take j xs) in
    absurd (let no : ⊥ = omega (arith, same, less, len, sum) in no)
content_one (x ∷ xs) (suc i) zero part other v w at_i at_j less more same =
    let len : blocks_for x.len ≡ blocks_for w.len = ap (λ (y : FileRec). blocks_for y.len) (same_Some x w at_j) in
    let sum = sum_by-cons (λ (y : FileRec). blocks_for y.len) x (take i xs) in
    absurd (let no : ⊥ = omega (arith, same, more, len, sum) in no)
content_one (x ∷ xs) (suc i) (suc j) part other v w at_i at_j less more same =
    let one = sum_by-cons (λ (y : FileRec). blocks_for y.len) x (take i xs) in
    let two = sum_by-cons (λ (y : FileRec). blocks_for y.len) x (take j xs) in
    let (is, parts) = content_one xs i j part other v w at_i at_j less more (omega (arith, same, one, two)) in
    (ap suc is, parts)

-- A BLOCK THAT THE WRITER BUILDS isn't a block of a version, which may be anything
pub long_copies : (n : ℕ) (b : List ℕ) → length (replicate n b) ≡ n
long_copies zero b = refl
long_copies (suc n) b = ap suc (long_copies n b)

pub get_copies : (n j : ℕ) (b : List ℕ) → j < n → slice_get (replicate n b) j ≡ Some b
get_copies zero j b less = absurd (let no : ⊥ = omega (arith, less) in no)
get_copies (suc n) zero b less = refl
get_copies (suc n) (suc j) b less = get_copies n j b (omega (arith, less))

pub not_ready : (p : Plan) (k i part : ℕ) (block : List ℕ) → IsReadyAt p k block → IsContentAt p k i part → ⊥
not_ready p k i part block ready stands =
    let j : ℕ = blocks_of (take i (waiting p.files)) + part in
    let below : j < content_blocks p = within_content (waiting p.files) i part stands.version stands.there stands.within in
    let made = length-made p.serial 0 (first_content p) p.files in
    let place = stands.at in
    let one : List (List ℕ) = replicate (content_blocks p) [] in
    let two : List (List ℕ) = replicate (content_blocks p) (0 ∷ []) in
    let a = at_content (dump_of p one) j k [] (get_copies (content_blocks p) j [] below) (omega (arith, made, place)) in
    let b = at_content (dump_of p two) j k (0 ∷ []) (get_copies (content_blocks p) j (0 ∷ []) below) (omega (arith, made, place)) in
    let x = ready.is one (long_copies (content_blocks p) []) in
    let y = ready.is two (long_copies (content_blocks p) (0 ∷ [])) in
    let first : [] ≡ block = same_Some [] block (sym a ∙ x) in
    let second : 0 ∷ [] ≡ block = same_Some (0 ∷ []) block (sym b ∙ y) in
    let no : ⊥ = cc in no

-- EACH BLOCK OF EACH VERSION was read, if the dump is written to its mark
pub all_read : (serial : ℕ) (p : Plan) (rs : List FileRec) (o : OnlineFacts) (old new : Rack) → waiting p.files ≡ map bare_rec rs → (n : ℕ) → needs p ≤ n + 1 → (so : HasWritten serial p rs o n old new)
    → (i : ℕ) (r : FileRec) → slice_get rs i ≡ Some r → (part : ℕ) → part < blocks_for r.len
    → (block : List ℕ) × (slice_get so.written (1 + length p.users + length p.files + (blocks_of (take i (waiting p.files)) + part)) ≡ Some block) × IsSource o old new r part block
all_read serial p rs o old new are n enough so i r at part less =
    let v : FileRec = bare_rec r in
    let there : slice_get (waiting p.files) i ≡ Some v = ap (λ (ws : List FileRec). slice_get ws i) are ∙ get_map bare_rec rs i r at in
    let j : ℕ = blocks_of (take i (waiting p.files)) + part in
    let k : ℕ = 1 + length p.users + length p.files + j in
    let below : j < content_blocks p = within_content (waiting p.files) i part v there less in
    let stands : IsContentAt p k i part = record { version = v; there = there; within = less; at = omega arith } in
    let long = so.long in
    let (block, is) = get_some so.written k (omega (arith, long, below, enough)) in
    (block, is, by_block k stands there block (so.each k block is))
  where
    by_block : (k : ℕ) → IsContentAt p k i part → slice_get (waiting p.files) i ≡ Some (bare_rec r) → (block : List ℕ) → IsBlockOf p rs o old new k block → IsSource o old new r part block
    by_block k stands there block (inl ready) = absurd (not_ready p k i part block ready stands)
    by_block k stands there block (inr (i', part', r', at', stands', source)) =
        let a = stands.at in
        let b = stands'.at in
        let (same, parts) = content_one (waiting p.files) i' i part' part stands'.version stands.version stands'.there stands.there stands'.within stands.within (omega (arith, a, b)) in
        let one : r' ≡ r = same_Some r' r (sym at' ∙ ap (slice_get rs) same ∙ at) in
        subst (λ (n : ℕ). IsSource o old new r n block) parts (subst (λ (x : FileRec). IsSource o old new x part' block) one source)

-- as many blocks in front of a version, with and without places on tape
pub front_bare : (n : ℕ) (xs : List FileRec) → blocks_of (take n (map bare_rec xs)) ≡ blocks_of (take n xs)
front_bare zero xs = refl
front_bare (suc n) [] = refl
front_bare (suc n) (x ∷ xs) =
    sum_by-cons (λ (y : FileRec). blocks_for y.len) (bare_rec x) (take n (map bare_rec xs)) ∙ ap (λ (k : ℕ). blocks_for x.len + k) (front_bare n xs)
    ∙ sym (sum_by-cons (λ (y : FileRec). blocks_for y.len) x (take n xs))
