-- The dump is complete on its reel, and is the only one there.
-- serves: AnswerLemmas, ExitLemmas, LossLemmas, PinsLemmas, SafeLemmas, TextLemmas, WholeLemmas
use Rattle.std.proofs.Common.{◌≡◌, ℕ, zero, suc, ◌+◌, ◌<◌, ◌≤◌, List, [], ◌∷◌, drop, length, take, Some, refl, sym, ◌∙◌, ap, arith, inl, inr, slice_get}
use Rattle.std.specs.Prelude.{All, Contains, get_or}
use Rattle.std.proofs.lemmas.List.{length-drop, length-take, take_all}
use Rattle.std.proofs.lemmas.List.Elements.{All-contains, Contains-get_or}
use Rattle.std.proofs.lemmas.Option.{same_Some}
use Rattle.g_base.specs.Block.{IsBlock}
use Rattle.g_entry.specs.declared.file_rec.FileRec.{FileRec}
use Rattle.g_tape.specs.Rack.{Rack}
use Rattle.g_disc_contents.specs.Facts.{OnlineFacts}
use Rattle.g_incr.specs.Layout.{Dump, IsDump, count_of, dump_blocks, size_of}
use Rattle.g_incr.specs.Plan.{IsAway, IsPlan, Plan, blocks_of, content_blocks, dump_of, first_content, needs, waiting}
use Rattle.g_incr.proofs.ListLemmas.{get_drop}
use Rattle.g_incr.proofs.PlanLemmas.{length-made, plan_gives_dump}
use Rattle.g_shelf.specs.CompletedDumps.{AreCompleted}
use Rattle.g_shelf.specs.QuietWrites.{IsBegun}
use Rattle.g_shelf.proofs.QuietLemmas.{length_dump, within}
use Rattle.g_dumper.proofs.NextLemmas.{at_content}
use Rattle.g_process.specs.Progress.{HasWritten, IsBlockOf}
use Rattle.g_process.proofs.ContentLemmas.{within_content}
use Rattle.g_process.proofs.WriteLemmas.{element_below}

-- lists of the same elements
same_lists : (xs ys : List (List ℕ)) → length xs ≡ length ys → ((i : ℕ) (x : List ℕ) → slice_get xs i ≡ Some x → slice_get ys i ≡ Some x) → xs ≡ ys
same_lists [] [] long each = refl
same_lists [] (y ∷ ys) long each = absurd (let no : ⊥ = omega (arith, long) in no)
same_lists (x ∷ xs) [] long each = absurd (let no : ⊥ = omega (arith, long) in no)
same_lists (x ∷ xs) (y ∷ ys) long each =
    ap (λ (z : List ℕ). z ∷ xs) (sym (same_Some y x (each 0 x refl)))
    ∙ ap (λ (zs : List (List ℕ)). y ∷ zs) (same_lists xs ys (omega (arith, long)) (λ i z is. each (suc i) z is))

pub get_below : (n : ℕ) (xs : List (List ℕ)) (i : ℕ) → i < n → slice_get (take n xs) i ≡ slice_get xs i
get_below zero xs i less = absurd (let no : ⊥ = omega (arith, less) in no)
get_below (suc n) [] i less = refl
get_below (suc n) (x ∷ xs) zero less = refl
get_below (suc n) (x ∷ xs) (suc i) less = get_below n xs i (omega (arith, less))

pub from_take : (n : ℕ) (xs : List (List ℕ)) (x : List ℕ) → Contains (take n xs) x → Contains xs x
from_take zero xs x (i, within, is) = absurd (let no : ⊥ = omega (arith, within) in no)
from_take (suc n) [] x (i, within, is) = absurd (let no : ⊥ = omega (arith, within) in no)
from_take (suc n) (y ∷ ys) x (zero, within, is) = (0, omega arith, is)
from_take (suc n) (y ∷ ys) x (suc i, within, is) =
    let (j, inside, at) = from_take n ys x (i, omega (arith, within), is) in
    (suc j, omega (arith, inside), at)

pub from_drop : (n : ℕ) (xs : List (List ℕ)) (x : List ℕ) → Contains (drop n xs) x → Contains xs x
from_drop zero xs x there = there
from_drop (suc n) [] x there = there
from_drop (suc n) (y ∷ ys) x there =
    let (j, inside, at) = from_drop n ys x there in
    (suc j, omega (arith, inside), at)

-- the content is read off the reel
abbrev pub content_of : Plan → List (List ℕ) → List (List ℕ)
content_of p written = take (content_blocks p) (drop (1 + length p.users + length p.files) written)

module _ (serial : ℕ) (p : Plan) (rs : List FileRec) (o : OnlineFacts) (old new : Rack) (rules : IsPlan p) (away : IsAway p) (count : ℕ) (enough : needs p ≤ count + 1)
    (so : HasWritten serial p rs o count old new) where
  abbrev w : List (List ℕ)
  w = so.written

  abbrev content : List (List ℕ)
  content = content_of p w

  abbrev made : Dump
  made = dump_of p content

  pub content_is_long : length content ≡ content_blocks p
  content_is_long =
      let a = length-take (content_blocks p) (drop (1 + length p.users + length p.files) w) in
      let b = length-drop (1 + length p.users + length p.files) w in
      let c = so.long in
      omega (arith, a, b, c, enough)

  pub content_at : (j : ℕ) → j < content_blocks p → slice_get content j ≡ slice_get w (1 + length p.users + length p.files + j)
  content_at j less =
      get_below (content_blocks p) (drop (1 + length p.users + length p.files) w) j less ∙ get_drop (1 + length p.users + length p.files) w j

  made_size : size_of made ≡ needs p
  made_size =
      let long = content_is_long in
      let files = length-made p.serial 0 (first_content p) p.files in
      omega (arith, long, files)

  pub blocks_front : count ≤ needs p → w ≡ take count (dump_blocks made)
  blocks_front most =
      let size = length_dump made in
      let whole = made_size in
      let cut = length-take count (dump_blocks made) in
      let long = so.long in
      same_lists w (take count (dump_blocks made)) (omega (arith, size, whole, cut, long, most))
      (λ j block is. get_below count (dump_blocks made) j (let inside = element_below w j block is in omega (arith, inside, long)) ∙ by_block j block is (so.each j block is))
    where
      by_block : (j : ℕ) (block : List ℕ) → slice_get w j ≡ Some block → IsBlockOf p rs o old new j block → slice_get (dump_blocks made) j ≡ Some block
      by_block j block is (inl ready) = ready.is content content_is_long
      by_block j block is (inr (i, part, r, at, stands, source)) =
          let n : ℕ = blocks_of (take i (waiting p.files)) + part in
          let less : n < content_blocks p = within_content (waiting p.files) i part stands.version stands.there stands.within in
          let place = stands.at in
          let files = length-made p.serial 0 (first_content p) p.files in
          at_content made n j block
          (content_at n less ∙ ap (slice_get w) (let e : 1 + length p.users + length p.files + n ≡ j = omega (arith, place) in e) ∙ is)
          (omega (arith, place, files))

  blocks_are : count ≡ needs p → w ≡ dump_blocks made
  blocks_are all =
      let size = length_dump made in
      let whole = made_size in
      blocks_front (omega (arith, all)) ∙ take_all count (dump_blocks made) (omega (arith, size, whole, all))

  module _ (blocks : All IsBlock w) where
    pub made_rules : IsDump made
    made_rules = plan_gives_dump p content rules away content_is_long
        (λ k d inside.
        let x = get_or content k d in
        All-contains IsBlock w x blocks
        (from_drop (1 + length p.users + length p.files) w x (from_take (content_blocks p) (drop (1 + length p.users + length p.files) w) x (Contains-get_or content k d inside))))

    pub one_dump : count ≡ needs p → p.serial ≡ serial → p.place ≡ 0 → AreCompleted serial w (made ∷ [])
    one_dump all named at = record {
      are = (
        record {
          on = named;
          place = at;
          number = omega arith;
          stands = record {
            rules = made_rules;
            blocks =
                ap (λ (n : ℕ). take (size_of made) (drop n w)) at ∙ take_all (size_of made) w (let size = made_size in let long = so.long in omega (arith, size, long, all)) ∙ blocks_are all;
          };
        },
        λ e next.
            let low = within w e next.stands in
            let behind = next.place in
            let size = made_size in
            let long = so.long in
            (let no : ⊥ = omega (arith, low, behind, size, long, at, all) in no),
      );
    }

    -- before the mark
    pub begun : count + 1 ≡ needs p → p.serial ≡ serial → p.place ≡ 0 → IsBegun serial w [] (count_of made + 1) made
    begun last named at =
        let size = made_size in
        let long = so.long in
        let j : count_of made + 1 ≡ count = omega (arith, size, last) in
        record {
          rules = made_rules;
          on = named;
          place = at;
          number = omega arith;
          length = λ some. omega (arith, long, j, at);
          blocks = λ some. ap (λ (n : ℕ). drop n w) at ∙ blocks_front (omega (arith, last)) ∙ ap (λ (n : ℕ). take n (dump_blocks made)) (sym j);
        }
