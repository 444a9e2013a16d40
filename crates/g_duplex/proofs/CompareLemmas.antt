-- Reels of two racks that are compared block by block.
-- serves: first_difference (answer), same_reel (answer), CopyLemmas
use Rattle.std.proofs.Common.{◌≡◌, ◌≢◌, ◌⊎◌, ℕ, zero, suc, ◌<◌, ◌≤◌, List, [], ◌∷◌, Bool, true, false, ◌&&◌, Option, Some, None, option_map, Ok, Err, if◌then◌else◌, length, take, inl, inr, refl, sym, subst, ap, ◌∙◌, arith}
use Rattle.std.specs.Option.{ForSome}
use Rattle.std.specs.Prelude.{slice_get}
use Rattle.std.proofs.lemmas.Bool.{lt-ltb}
use Rattle.std.proofs.lemmas.List.{take_all}
use Rattle.g_base.specs.Counts.{Rose}
use Rattle.g_tape.specs.declared.fault.TapeFault.{TapeFault}
use Rattle.g_tape.specs.declared.fault.TapeFault.TheVariants as tape
use Rattle.g_tape.specs.Reel.{Reel}
use Rattle.g_tape.specs.Rack.{AreReels, Rack, Reading, reel, refuses_read}
use Rattle.g_tape.specs.Reads.{OnlyReads, blocks_in, blocks_of, unread}
use Rattle.g_tape.proofs.ReadLemmas.{blocks_after_reads, is_reel, more_reads, nothing_read, reel_after_reads}
use Rattle.g_duplex.specs.Copying.{BothTold, DiffersAt, FirstDifference, SameBlock, SameReel}
use Rattle.g_duplex.specs.Rebuild.{refuses_both}
use Rattle.g_duplex.specs.declared.fault.DuplexFault.TheVariants.{NotMounted}
use Rattle.g_duplex.proofs.ReadLemmas.{first_of, reads_free, second_of}

abbrev Blocks : Type 0
Blocks = List (List ℕ)

-- A read that isn't refused fails only if the count rose.
pub rose_reading : (s k : ℕ) (p p' : Rack) (fault : TapeFault) (into : List ℕ) → refuses_read k (reel s p.reels) ≡ None → Reading s k p (Err fault) into p' → Rose p.read_faults p'.read_faults
rose_reading s k p p' tape.ReadFailed into free is = is.1
rose_reading s k p p' tape.WriteFailed into free is = absurd is
rose_reading s k p p' tape.NoTape into free is = absurd (let never : None ≡ Some tape.NoTape = sym free ∙ is.0 in cc)
rose_reading s k p p' tape.NotMounted into free is = absurd (let never : None ≡ Some tape.NotMounted = sym free ∙ is.0 in cc)
rose_reading s k p p' tape.End into free is = absurd (let never : None ≡ Some tape.End = sym free ∙ is.0 in cc)

-- A count that rose after other reads rose.
pub rose_then : (x y z : ℕ) → x ≤ y → Rose y z → Rose x z
rose_then x y z less rose = record { more = omega (arith, less, rose.more) }

-- The exposed blocks of an existing reel.
pub told_of_reel : (o : Option Reel) (bs : Blocks) → blocks_in o ≡ Some bs → (r : Reel) × (o ≡ Some r) × (r.blocks ≡ Some bs)
told_of_reel None bs is = absurd (cc)
told_of_reel (Some r) bs is = (r, refl, is)

-- A successful read returns the exposed block.
pub read_block : (s k : ℕ) (p p' : Rack) (u : Unit {0}) (into : List ℕ) → Reading s k p (Ok u) into p' → ForSome (blocks_of s p) (λ bs. slice_get bs k ≡ Some into)
read_block s k p p' u into is bs told =
    let (r, there, blocks) = told_of_reel (reel s p.reels) bs told in
    is.1 r there bs blocks

-- Reads have no other refusals.
refuses_bare : (k : ℕ) (o : Option Reel) → refuses_read k (option_map unread o) ≡ refuses_read k o
refuses_bare k None = refl
refuses_bare k (Some r) = refl

pub refuses_after : (s k : ℕ) (old new : Rack) → OnlyReads old new → refuses_read k (reel s new.reels) ≡ refuses_read k (reel s old.reels)
refuses_after s k old new only =
    sym (refuses_bare k (reel s new.reels)) ∙ ap (refuses_read k) (reel_after_reads s old new only) ∙ refuses_bare k (reel s old.reels)

-- Two existing and mounted reels.
pub both_there : (x y : Option Reel) → refuses_both x y ≡ None → (a : Reel) × (b : Reel) × (x ≡ Some a) × (y ≡ Some b) × (a.mounted ≡ true) × (b.mounted ≡ true)
both_there None y is = absurd (cc)
both_there (Some a) None is = absurd (cc)
both_there (Some a) (Some b) is = let up = by (a.mounted && b.mounted) is in (a, b, refl, refl, first_of a.mounted b.mounted up, second_of a.mounted b.mounted up)
  where
    by : (m : Bool) → (if m then None else Some NotMounted) ≡ None → m ≡ true
    by true e = refl
    by false e = absurd (cc)

-- A block below the length may be read, also after reads.
pub may_read : (s k n : ℕ) (old new : Rack) (a : Reel) → OnlyReads old new → reel s old.reels ≡ Some a → a.mounted ≡ true → ForSome (reel s old.reels) (λ r. n ≡ r.len) → k < n
    → refuses_read k (reel s new.reels) ≡ None
may_read s k n old new a only there up long less =
    refuses_after s k old new only ∙ ap (refuses_read k) there ∙ reads_free k a up (lt-ltb k a.len (omega (arith, less, long a there)))

-- THE COMPARING so far: only reads, and the same blocks below i
pub record SameSoFar (s i : ℕ) (p q p' q' : Rack) : Type 0 where
  pub one : OnlyReads p p'
  pub two : OnlyReads q q'
  pub told : BothTold s p q (λ xs ys. take i xs ≡ take i ys)

pub same_none : (s : ℕ) (p q : Rack) → SameSoFar s 0 p q p q
same_none s p q = record { one = nothing_read p; two = nothing_read q; told = λ xs at ys at'. refl }

-- one more block
pub take_more : (i : ℕ) (xs ys : Blocks) → take i xs ≡ take i ys → slice_get xs i ≡ slice_get ys i → take (suc i) xs ≡ take (suc i) ys
take_more i [] [] same here = refl
take_more zero [] (y ∷ ys) same here = let wrong : None ≡ Some y = here in absurd (cc)
take_more (suc i) [] (y ∷ ys) same here = let wrong : [] ≡ (y ∷ take i ys) = same in absurd (cc)
take_more zero (x ∷ xs) [] same here = let wrong : Some x ≡ None = here in absurd (cc)
take_more (suc i) (x ∷ xs) [] same here = let wrong : (x ∷ take i xs) ≡ [] = same in absurd (cc)
take_more zero (x ∷ xs) (y ∷ ys) same here = let e : Some x ≡ Some y = here in let e' : x ≡ y = cc in ap (λ (b : List ℕ). b ∷ []) e'
take_more (suc i) (x ∷ xs) (y ∷ ys) same here =
    let e : (x ∷ take i xs) ≡ (y ∷ take i ys) = same in
    let head : x ≡ y = cc in
    let tail : take i xs ≡ take i ys = cc in
    ap (λ (b : List ℕ). b ∷ take (suc i) xs) head ∙ ap (λ (bs : Blocks). y ∷ bs) (take_more i xs ys tail here)

pub same_more : (s i : ℕ) (p q p' q' p'' q'' : Rack) → SameSoFar s i p q p' q' → OnlyReads p' p'' → OnlyReads q' q'' → SameBlock s i p' q' (Ok true) p'' q'' → SameSoFar s (suc i) p q p'' q''
same_more s i p q p' q' p'' q'' so_far one two same = record {
  one = more_reads p p' p'' so_far.one one;
  two = more_reads q q' q'' so_far.two two;
  told = λ xs at ys at'. take_more i xs ys (so_far.told xs at ys at')
      ((same xs (blocks_after_reads s p p' so_far.one ∙ at) ys (blocks_after_reads s q q' so_far.two ∙ at')).0 refl);
}

-- one block differs
pub one_differs : (s i : ℕ) (p q p' q' p'' q'' : Rack) → SameSoFar s i p q p' q' → SameBlock s i p' q' (Ok false) p'' q'' → BothTold s p q (DiffersAt i)
one_differs s i p q p' q' p'' q'' so_far same = λ xs at ys at'. (
  so_far.told xs at ys at',
  λ e. let wrong : false ≡ true = (same xs (blocks_after_reads s p p' so_far.one ∙ at) ys (blocks_after_reads s q q' so_far.two ∙ at')).1 e in cc,
)

-- There are as many exposed blocks as the length says.
pub told_long : (s : ℕ) (p : Rack) (xs : Blocks) (r : Reel) → AreReels p.reels → reel s p.reels ≡ Some r → blocks_of s p ≡ Some xs → length xs ≡ r.len
told_long s p xs r are there told =
    let told' : r.blocks ≡ Some xs = sym (ap blocks_in there) ∙ told in
    (is_reel s p.reels r are.each there).told xs told'

-- a list has nothing past its end, and something before it
past_end : (xs : Blocks) → slice_get xs (length xs) ≡ None
past_end [] = refl
past_end (x ∷ xs) = past_end xs

before_end : (xs : Blocks) (i : ℕ) → i < length xs → (x : List ℕ) × (slice_get xs i ≡ Some x)
before_end [] i below = let no : ⊥ = omega (arith, below) in absurd no
before_end (x ∷ xs) zero below = (x, refl)
before_end (x ∷ xs) (suc i) below = before_end xs i (omega (arith, below))

one_ends : (xs ys : Blocks) (i : ℕ) → length xs ≡ i → i < length ys → slice_get xs i ≢ slice_get ys i
one_ends xs ys i long below e =
    let (y, there) = before_end ys i below in
    let no : None ≡ Some y = sym (subst (λ (n : ℕ). slice_get xs n ≡ None) long (past_end xs)) ∙ e ∙ there in cc

-- lengths that differ
pub long_differ : (s m n i : ℕ) (p q p' q' : Rack) → AreReels p.reels → AreReels q.reels → refuses_both (reel s p.reels) (reel s q.reels) ≡ None → ForSome (reel s p.reels) (λ r. m ≡ r.len)
    → ForSome (reel s q.reels) (λ r. n ≡ r.len) → ((i ≡ m) × (m < n)) ⊎ ((i ≡ n) × (n < m)) → SameSoFar s i p q p' q' → BothTold s p q (DiffersAt i)
long_differ s m n i p q p' q' are are' free long long' which so_far = λ xs at ys at'.
    let (a, b, there, there', up, up') = both_there (reel s p.reels) (reel s q.reels) free in
    let xs_long : length xs ≡ m = told_long s p xs a are there at ∙ sym (long a there) in
    let ys_long : length ys ≡ n = told_long s q ys b are' there' at' ∙ sym (long' b there') in (
      so_far.told xs at ys at',
      elim which [
        | inl (is, less) ↦ one_ends xs ys i (xs_long ∙ sym is) (omega (arith, is, less, ys_long))
        | inr (is, less) ↦ λ e. one_ends ys xs i (ys_long ∙ sym is) (omega (arith, is, less, xs_long)) (sym e)
      ],
    )

-- all blocks are the same
pub all_same : (s m : ℕ) (p q p' q' : Rack) → AreReels p.reels → AreReels q.reels → refuses_both (reel s p.reels) (reel s q.reels) ≡ None → ForSome (reel s p.reels) (λ r. m ≡ r.len)
    → ForSome (reel s q.reels) (λ r. m ≡ r.len) → SameSoFar s m p q p' q' → FirstDifference s p q (Ok None) p' q'
all_same s m p q p' q' are are' free long long' so_far =
    let (a, b, there, there', up, up') = both_there (reel s p.reels) (reel s q.reels) free in (
      λ x at y at'. sym (long x at) ∙ long' y at',
      λ xs at ys at'.
          sym (take_all m xs (omega (arith, long a there, told_long s p xs a are there at))) ∙ so_far.told xs at ys at' ∙ take_all m ys (omega (arith, long' b there', told_long s q ys b are' there' at')),
    )

-- reels are the same if no block differs
pub same_if_none : (s : ℕ) (p q p' q' : Rack) → FirstDifference s p q (Ok None) p' q' → SameReel s p q (Ok true) p' q'
same_if_none s p q p' q' (long, told) = (λ e. long, λ xs at ys at'. (λ e. told xs at ys at', λ e. refl))

pub other_if_some : (s k : ℕ) (p q p' q' : Rack) → FirstDifference s p q (Ok (Some k)) p' q' → SameReel s p q (Ok false) p' q'
other_if_some s k p q p' q' differs = (
  λ e. absurd (let wrong : false ≡ true = e in cc),
  λ xs at ys at'. (
    λ e. absurd (let wrong : false ≡ true = e in cc),
    λ e. absurd ((differs xs at ys at').1 (ap (λ (bs : Blocks). slice_get bs k) e)),
  ),
)
