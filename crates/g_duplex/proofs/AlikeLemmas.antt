-- Racks that show the same answer the same.
-- serves: racks_answer_alike
use Rattle.std.proofs.Common.{◌≡◌, ◌≢◌, ℕ, List, true, Option, Some, None, Ok, Err, refl, sym, ap, subst, ◌∙◌, is_some}
use Rattle.std.specs.Option.{ForSome}
use Rattle.std.specs.List.{slice_get}
use Rattle.g_base.specs.Fuse.{burnt}
use Rattle.g_tape.specs.declared.fault.TapeFault.{TapeFault}
use Rattle.g_tape.specs.declared.fault.TapeFault.TheVariants.{NoTape, NotMounted, End, ReadFailed, WriteFailed}
use Rattle.g_tape.specs.Reel.{Reel, ending, read_at}
use Rattle.g_tape.specs.Rack.{Rack, Reading, Writing, changed, reel, refuses_read, refuses_write}
use Rattle.g_duplex.specs.Calls.{Answer}
use Rattle.g_duplex.specs.Laws.{Alike, AnswerAlike, uncounted}

-- the refusal that an answer is
abbrev refusal : Answer → Option TapeFault
refusal (Ok u) = None
refusal (Err fault) = Some fault

refusal-one : (r r' : Answer) → refusal r ≡ refusal r' → r ≡ r'
refusal-one (Ok u) (Ok u') same = refl
refusal-one (Ok u) (Err f) same = absurd (cc)
refusal-one (Err f) (Ok u) same = absurd (cc)
refusal-one (Err f) (Err f') same = cc

-- The rack after a read that didn't fail.
abbrev behind_read : ℕ → ℕ → Answer → Rack → Rack
behind_read s k (Ok u) p = changed s (read_at k) p
behind_read s k (Err fault) p = p

-- what a read refuses, and what it leaves
read_said : (s k : ℕ) (p p' : Rack) (r : Answer) (i : List ℕ) → Reading s k p r i p' → r ≢ Err ReadFailed → (refuses_read k (reel s p.reels) ≡ refusal r) × (p' ≡ behind_read s k r p)
read_said s k p p' (Ok u) i is not_failed = (is.0, is.2)
read_said s k p p' (Err ReadFailed) i is not_failed = absurd (not_failed refl)
read_said s k p p' (Err WriteFailed) i is not_failed = absurd is
read_said s k p p' (Err NoTape) i is not_failed = (is.0, is.1)
read_said s k p p' (Err NotMounted) i is not_failed = (is.0, is.1)
read_said s k p p' (Err End) i is not_failed = (is.0, is.1)

-- The block that was read, if it is exposed.
read_gives : (s k : ℕ) (p p' : Rack) (u : Unit {0}) (i : List ℕ) (x : Reel) (bs : List (List ℕ)) → Reading s k p (Ok u) i p' → reel s p.reels ≡ Some x → x.blocks ≡ Some bs → slice_get bs k ≡ Some i
read_gives s k p p' u i x bs is at told = is.1 x at bs told

alike_read : (s k : ℕ) (r : Answer) (p q : Rack) → Alike p q → Alike (behind_read s k r p) (behind_read s k r q)
alike_read s k (Ok u) p q same = ap (changed s (read_at k)) same
alike_read s k (Err fault) p q same = same

told_same : (s k : ℕ) (p q p' q' : Rack) (r : Answer) (i i' : List ℕ) → Alike p q → Reading s k p r i p' → Reading s k q r i' q' → r ≡ Ok tt
    → ForSome (reel s p.reels) (λ x. is_some x.blocks ≡ true → i ≡ i')
told_same s k p q p' q' (Err fault) i i' same one two ok x at told = absurd (cc)
told_same s k p q p' q' (Ok u) i i' same one two ok x at told = by x.blocks refl
  where
    there : reel s q.reels ≡ Some x
    there = sym (ap (λ (r : Rack). reel s r.reels) same) ∙ at

    by : (o : Option (List (List ℕ))) → x.blocks ≡ o → i ≡ i'
    by None is = let never : is_some x.blocks ≡ true = told in absurd (cc)
    by (Some bs) is =
        let first : slice_get bs k ≡ Some i = read_gives s k p p' u i x bs one at is in
        let second : slice_get bs k ≡ Some i' = read_gives s k q q' u i' x bs two there is in
        cc

reads_alike : (s k : ℕ) (p q p' q' : Rack) (r r' : Answer) (i i' : List ℕ) → Alike p q → Reading s k p r i p' → Reading s k q r' i' q'
    → r ≢ Err ReadFailed → r' ≢ Err ReadFailed → (r ≡ r') × Alike p' q' × (r ≡ Ok tt → ForSome (reel s p.reels) (λ x. is_some x.blocks ≡ true → i ≡ i'))
reads_alike s k p q p' q' r r' i i' same one two well well' =
    let reels : reel s p.reels ≡ reel s q.reels = ap (λ (x : Rack). reel s x.reels) same in
    let here = read_said s k p p' r i one well in
    let there = read_said s k q q' r' i' two well' in
    let answers : r ≡ r' = refusal-one r r' (sym here.0 ∙ ap (refuses_read k) reels ∙ there.0) in
    let right : q' ≡ behind_read s k r q = there.1 ∙ ap (λ (x : Answer). behind_read s k x q) (sym answers) in (
      answers,
      ap uncounted here.1 ∙ alike_read s k r p q same ∙ sym (ap uncounted right),
      told_same s k p q p' q' r i i' same one (subst (λ (x : Answer). Reading s k q x i' q') (sym answers) two),
    )

abbrev behind_write : ℕ → ℕ → List ℕ → Answer → Rack → Rack
behind_write s k block (Ok u) p = record (changed s (ending k block) p) { fuse = burnt p.fuse }
behind_write s k block (Err fault) p = p

-- what a write refuses, and what it leaves
write_said : (s k : ℕ) (block : List ℕ) (p p' : Rack) (r : Answer) → Writing s k block p r p' → r ≢ Err WriteFailed
    → (refuses_write k (reel s p.reels) ≡ refusal r) × Alike p' (behind_write s k block r p)
write_said s k block p p' (Ok u) is not_failed = (is.0, ap uncounted is.2)
write_said s k block p p' (Err WriteFailed) is not_failed = absurd (not_failed refl)
write_said s k block p p' (Err ReadFailed) is not_failed = absurd is
write_said s k block p p' (Err NoTape) is not_failed = (is.0, ap uncounted is.1)
write_said s k block p p' (Err NotMounted) is not_failed = (is.0, ap uncounted is.1)
write_said s k block p p' (Err End) is not_failed = (is.0, ap uncounted is.1)

alike_write : (s k : ℕ) (block : List ℕ) (r : Answer) (p q : Rack) → Alike p q → Alike (behind_write s k block r p) (behind_write s k block r q)
alike_write s k block (Ok u) p q same = ap (λ (x : Rack). record (changed s (ending k block) x) { fuse = burnt x.fuse }) same
alike_write s k block (Err fault) p q same = same

writes_alike : (s k : ℕ) (block : List ℕ) (p q p' q' : Rack) (r r' : Answer) → Alike p q → Writing s k block p r p' → Writing s k block q r' q'
    → r ≢ Err WriteFailed → r' ≢ Err WriteFailed → (r ≡ r') × Alike p' q'
writes_alike s k block p q p' q' r r' same one two well well' =
    let reels : reel s p.reels ≡ reel s q.reels = ap (λ (x : Rack). reel s x.reels) same in
    let here = write_said s k block p p' r one well in
    let there = write_said s k block q q' r' two well' in
    let answers : r ≡ r' = refusal-one r r' (sym here.0 ∙ ap (refuses_write k) reels ∙ there.0) in
    let right : Alike q' (behind_write s k block r q) = there.1 ∙ ap (λ (x : Answer). uncounted (behind_write s k block x q)) (sym answers) in
    (answers, here.1 ∙ alike_write s k block r p q same ∙ sym right)

pub racks_answer_alike : AnswerAlike
racks_answer_alike = record { reads = reads_alike; writes = writes_alike }
