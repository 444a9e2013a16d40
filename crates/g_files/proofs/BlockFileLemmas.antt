-- What calls on a file do to the blocks of it that count.
-- serves: append (done, front, left), cut (front), cut_tail (same), drop_from (done, left, written), drop_last (bytes, front), and 7 more
use Rattle.std.proofs.Common.{◌≡◌, ◌⊎◌, ℕ, zero, suc, ◌+◌, ◌*◌, ◌<◌, ◌≤◌, List, [], ◌∷◌, ◌++◌, length, take, drop, Result, Ok, Err, is_ok, true, OnOk, OnErr, Some, None, refl, sym, ap, subst, ◌∙◌, inl, inr, arith, add-one, length-drop}
use Rattle.std.specs.Prelude.{Option, option_map}
use Rattle.std.specs.Option.{ForSome}
use Rattle.std.proofs.lemmas.List.{drop-take, drop-drop, length-take-le, take-append-drop, take-take, take_all}
use Rattle.g_base.specs.ToldContent.{Changes}
use Rattle.g_base.proofs.ToldLemmas.{Changes-back}
use Rattle.g_tape.specs.Reel.{Remains, Shortened, Torn, Unchanged}
use Rattle.g_files.specs.BlockFile.{Blocks, cut_blocks, ended, left_of}
use Rattle.g_files.specs.Bytes.{AreBytes, blocks_of, part}
use Rattle.g_files.specs.Front.{IsCut, KeepsFront}
use Rattle.g_files.proofs.BytesLemmas.{AreBytes-append, AreBytes-take}
use Rattle.g_files.proofs.FrontLemmas.{changes_none, changes_then, cut_keeps, keeps_less, keeps_refl, keeps_then}

-- BLOCKS OF TWO FILES WITH A COMMON FRONT

pub blocks_front : (n k : ℕ) (x y : List ℕ) → k ≤ n → take (512 * k) x ≡ take (512 * k) y → blocks_of k x ≡ take k (blocks_of n y)
blocks_front n zero x y few same = refl
blocks_front zero (suc k) x y few same = absurd (omega (arith, few))
blocks_front (suc n) (suc k) x y few same =
    let sum : 512 * suc k ≡ 512 + 512 * k = omega arith in
    let less : 512 ≤ 512 * suc k = omega arith in
    let first : take 512 x ≡ take 512 y = sym (take-take 512 (512 * suc k) x less) ∙ ap (take 512) same ∙ take-take 512 (512 * suc k) y less in
    let same' : take (512 + 512 * k) x ≡ take (512 + 512 * k) y = subst (λ m. take m x ≡ take m y) sum same in
    let rest : take (512 * k) (drop 512 x) ≡ take (512 * k) (drop 512 y) =
    sym (drop-take 512 (512 * k) x) ∙ ap (drop 512) same' ∙ drop-take 512 (512 * k) y in
    ap (λ bs. take 512 x ∷ bs) (blocks_front n k (drop 512 x) (drop 512 y) (omega (arith, few)) rest)
    ∙ ap (λ b. b ∷ take k (blocks_of n (drop 512 y))) first

blocks_end : (n k : ℕ) (x y : List ℕ) → k ≤ n → take (512 * k) x ≡ take (512 * k) y
    → blocks_of (suc k) x ≡ take k (blocks_of n y) ++ part (512 * k) 512 x ∷ []
blocks_end n zero x y few same = refl
blocks_end zero (suc k) x y few same = absurd (omega (arith, few))
blocks_end (suc n) (suc k) x y few same =
    let sum : 512 * suc k ≡ 512 + 512 * k = omega arith in
    let less : 512 ≤ 512 * suc k = omega arith in
    let first : take 512 x ≡ take 512 y = sym (take-take 512 (512 * suc k) x less) ∙ ap (take 512) same ∙ take-take 512 (512 * suc k) y less in
    let same' : take (512 + 512 * k) x ≡ take (512 + 512 * k) y = subst (λ m. take m x ≡ take m y) sum same in
    let rest : take (512 * k) (drop 512 x) ≡ take (512 * k) (drop 512 y) =
    sym (drop-take 512 (512 * k) x) ∙ ap (drop 512) same' ∙ drop-take 512 (512 * k) y in
    let last : part (512 * k) 512 (drop 512 x) ≡ part (512 * suc k) 512 x = ap (take 512) (drop-drop (512 * k) 512 x ∙ ap (λ m. drop m x) (sym sum)) in
    ap (λ bs. take 512 x ∷ bs) (blocks_end n k (drop 512 x) (drop 512 y) (omega (arith, few)) rest)
    ∙ ap (λ b. take 512 x ∷ (take k (blocks_of n (drop 512 y)) ++ b ∷ [])) last
    ∙ ap (λ b. b ∷ (take k (blocks_of n (drop 512 y)) ++ part (512 * suc k) 512 x ∷ [])) first

-- THE BLOCKS THAT COUNT

-- the first n blocks of a file
abbrev pub made : ℕ → Option (List ℕ) → Blocks
made n x = record { len = n; held = option_map (blocks_of n) x }

pub made_cut : (n k : ℕ) (x y : Option (List ℕ)) → k ≤ n → Changes (KeepsFront (512 * k)) x y → made k y ≡ cut_blocks k (made n x)
made_cut n k None y few c = ap (λ (z : Option (List ℕ)). made k z) (c.untold refl)
made_cut n k (Some b) y few c =
    let t = c.told b refl in
    ap (λ (z : Option (List ℕ)). made k z) t.1
    ∙ ap (λ (bs : List (List ℕ)). let new : Blocks = record { len = k; held = Some bs } in new) (blocks_front n k t.0 b few t.2.same)

pub made_ended : (n k : ℕ) (p : List ℕ) (x y : Option (List ℕ)) → k ≤ n → Changes (KeepsFront (512 * k)) x y → ForSome y (λ b. part (512 * k) 512 b ≡ p)
    → made (k + 1) y ≡ ended k p (made n x)
made_ended n k p None y few c last = ap (λ (z : Option (List ℕ)). made (k + 1) z) (c.untold refl)
made_ended n k p (Some b) y few c last =
    let t = c.told b refl in
    ap (λ (z : Option (List ℕ)). made (k + 1) z) t.1
    ∙ ap (λ (bs : List (List ℕ)). let new : Blocks = record { len = k + 1; held = Some bs } in new)
    (ap (λ (m : ℕ). blocks_of m t.0) (add-one k) ∙ blocks_end n k t.0 b few t.2.same ∙ ap (λ (q : List ℕ). take k (blocks_of n b) ++ q ∷ []) (last t.0 t.1))

-- whatever the block after the first k is
pub made_torn : (n k : ℕ) (x y : Option (List ℕ)) → k ≤ n → Changes (KeepsFront (512 * k)) x y
    → (how : Remains) × (made (k + 1) y ≡ left_of how k (made n x))
made_torn n k x None few c = (Torn [], made_ended n k [] x None few c (λ b is. absurd (cc)))
made_torn n k x (Some a) few c =
    let last = part (512 * k) 512 a in
    (Torn last, made_ended n k last x (Some a) few c (λ b is. let same : a ≡ b = cc in ap (part (512 * k) 512) (sym same)))

pub made_same : (n : ℕ) (x y : Option (List ℕ)) → Changes (KeepsFront (512 * n)) x y → made n y ≡ made n x
made_same n None y c = ap (λ (z : Option (List ℕ)). made n z) (c.untold refl)
made_same n (Some b) y c =
    let t = c.told b refl in
    let few : n ≤ n = omega arith in
    ap (λ (z : Option (List ℕ)). made n z) t.1
    ∙ ap (λ (bs : List (List ℕ)). let new : Blocks = record { len = n; held = Some bs } in new)
    (blocks_front n n t.0 b few t.2.same ∙ sym (blocks_front n n b b few refl))

-- all blocks are those below the end
pub made_all : (n : ℕ) (x : Option (List ℕ)) → ForSome x (λ b. 512 * n ≤ length b) → made n x ≡ cut_blocks n (made n x)
made_all n x long = made_cut n n x x (omega arith) (changes_none (λ (b : List ℕ). 512 * n ≤ length b) x x long refl (λ b within. keeps_refl (512 * n) b within))

cut_cut : (k : ℕ) (h : Option (List (List ℕ))) → option_map (take k) (option_map (take k) h) ≡ option_map (take k) h
cut_cut k None = refl
cut_cut k (Some bs) = ap (λ (xs : List (List ℕ)). Some xs) (take-take k k bs (omega arith))

pub ended_cut : (k : ℕ) (p : List ℕ) (b : Blocks) → ended k p (cut_blocks k b) ≡ ended k p b
ended_cut k p b = ap (λ (h : Option (List (List ℕ))). let new : Blocks = record { len = k + 1; held = h } in new) (inner b.held)
  where
    inner : (h : Option (List (List ℕ))) → option_map (λ bs. take k bs ++ p ∷ []) (option_map (take k) h) ≡ option_map (λ bs. take k bs ++ p ∷ []) h
    inner None = refl
    inner (Some bs) = ap (λ (xs : List (List ℕ)). Some (xs ++ p ∷ [])) (take-take k k bs (omega arith))

-- what is left of the blocks below block k is also left of all blocks
pub left_after : (k : ℕ) (mid old new : Blocks) → mid ≡ cut_blocks k old → ((how : Remains) × (new ≡ left_of how k mid)) → (how : Remains) × (new ≡ left_of how k old)
left_after k mid old new cut (Unchanged, is) = (Shortened, is ∙ cut)
left_after k mid old new cut (Shortened, is) = (
  Shortened,
  is ∙ ap (cut_blocks k) cut
      ∙ ap (λ (h : Option (List (List ℕ))). let b : Blocks = record { len = k; held = h } in b) (cut_cut k old.held),
)
left_after k mid old new cut (Torn block, is) = (Torn block, is ∙ ap (ended k block) cut ∙ ended_cut k block old)

-- BYTES

-- a file that was cut
pub bytes_cut : (n : ℕ) (x y : Option (List ℕ)) → ForSome x AreBytes → Changes (IsCut n) x y → ForSome y AreBytes
bytes_cut n x y bytes c a is =
    let f = Changes-back (IsCut n) x y c a is in subst AreBytes (sym f.2.3) (AreBytes-take f.2.0 f.0 (bytes f.0 f.1))

-- a file of whole blocks, of which the last one is this one
pub bytes_ended : (n : ℕ) (p : List ℕ) (x y : Option (List ℕ)) → ForSome x AreBytes → AreBytes p → Changes (KeepsFront n) x y
    → ForSome y (λ b. length b ≡ n + 512) → ForSome y (λ b. part n 512 b ≡ p) → ForSome y AreBytes
bytes_ended n p x y bytes given c long last a is =
    let f = Changes-back (KeepsFront n) x y c a is in
    let size = long a is in
    let front : take n a ++ drop n a ≡ a = take-append-drop n a in
    let rest : drop n a ≡ p = sym (take_all 512 (drop n a) (omega (arith, length-drop n a, size))) ∙ last a is in
    let whole : take n f.0 ++ p ≡ a = ap (λ (q : List ℕ). q ++ p) (sym f.2.same) ∙ ap (λ (q : List ℕ). take n a ++ q) (sym rest) ∙ front in
    subst AreBytes whole (AreBytes-append (take n f.0) p (AreBytes-take n f.0 (bytes f.0 f.1)) given)

-- FRONTS

pub cut_front : (n : ℕ) (x y : Option (List ℕ)) → Changes (IsCut n) x y → Changes (KeepsFront n) x y
cut_front n x y c = record { told = λ b is. let t = c.told b is in (t.0, t.1, cut_keeps n b t.0 t.2); untold = c.untold }

-- what a cut left, if it left more than it had to
pub cut_more : (n m : ℕ) (x y : Option (List ℕ)) → Changes (IsCut n) x y → ForSome y (λ b. m ≤ length b) → Changes (KeepsFront m) x y
cut_more n m x y c long = record {
  told = λ b is.
      let t = c.told b is in
      let size : length t.0 ≡ t.2.0 = ap length t.2.3 ∙ length-take-le t.2.0 b t.2.2 in
      let room = long t.0 t.1 in
      let less : m ≤ t.2.0 = omega (arith, room, size) in
      (t.0, t.1, record { long = room; same = ap (take m) t.2.3 ∙ take-take m t.2.0 b less });
  untold = c.untold;
}

pub cut_shorter : (n m : ℕ) (x y : Option (List ℕ)) → Changes (IsCut n) x y → ForSome x (λ b. length b < m) → ForSome y (λ b. length b < m)
cut_shorter n m x y c short a is =
    let f = Changes-back (IsCut n) x y c a is in
    let size : length a ≡ f.2.0 = ap length f.2.3 ∙ length-take-le f.2.0 f.0 f.2.2 in
    let less = short f.0 f.1 in
    let most = f.2.2 in omega (arith, size, less, most)

pub front_long : (n : ℕ) (x y : Option (List ℕ)) → Changes (KeepsFront n) x y → ForSome y (λ b. n ≤ length b)
front_long n x y c a is = let f = Changes-back (KeepsFront n) x y c a is in f.2.long

pub front_then : (n : ℕ) (x y z : Option (List ℕ)) → Changes (KeepsFront n) x y → Changes (KeepsFront n) y z → Changes (KeepsFront n) x z
front_then n x y z first second = changes_then x y z (keeps_then n) first second

pub front_less : (n m : ℕ) (x y : Option (List ℕ)) → n ≤ m → Changes (KeepsFront m) x y → Changes (KeepsFront n) x y
front_less n m x y less c = record { told = λ b is. let t = c.told b is in (t.0, t.1, keeps_less n m b t.0 less t.2); untold = c.untold }

pub front_none : (n : ℕ) (x y : Option (List ℕ)) → ForSome x (λ b. n ≤ length b) → y ≡ x → Changes (KeepsFront n) x y
front_none n x y long same = changes_none (λ (b : List ℕ). n ≤ length b) x y long same (λ b within. keeps_refl n b within)

pub on_is_ok : {T E P : Type 0} (r : Result T E) → is_ok r ≡ true → OnOk r P → P
on_is_ok (Ok x) ok p = p
on_is_ok (Err e) ok p = absurd (cc)

-- a file that was cut to exactly n bytes
pub bytes_front : (n : ℕ) (x y : Option (List ℕ)) → ForSome x (λ b. AreBytes (take n b)) → Changes (IsCut n) x y → ForSome y (λ b. length b ≡ n) → ForSome y AreBytes
bytes_front n x y bytes c long a is =
    let f = Changes-back (IsCut n) x y c a is in
    let size : length a ≡ f.2.0 = ap length f.2.3 ∙ length-take-le f.2.0 f.0 f.2.2 in
    let all : f.2.0 ≡ n = sym size ∙ long a is in
    subst AreBytes (sym (f.2.3 ∙ ap (λ (m : ℕ). take m f.0) all)) (bytes f.0 f.1)

-- a front of a file of bytes
pub front_bytes : (n : ℕ) (x y : Option (List ℕ)) → ForSome x AreBytes → Changes (KeepsFront n) x y → ForSome y (λ b. AreBytes (take n b))
front_bytes n x y bytes c a is =
    let f = Changes-back (KeepsFront n) x y c a is in subst AreBytes (sym f.2.same) (AreBytes-take n f.0 (bytes f.0 f.1))

-- one block more or not
pub made_count : (n k m : ℕ) (x y : Option (List ℕ)) → k ≤ n → (m ≡ k) ⊎ (m ≡ k + 1) → Changes (KeepsFront (512 * k)) x y
    → (how : Remains) × (made m y ≡ left_of how k (made n x))
made_count n k m x y few (inl same) c = (Shortened, ap (λ (j : ℕ). made j y) same ∙ made_cut n k x y few c)
made_count n k m x y few (inr more) c = let t = made_torn n k x y few c in (t.0, ap (λ (j : ℕ). made j y) more ∙ t.1)

-- THE END OF A WRITE

pub on_ok_any : {T E P : Type 0} (r : Result T E) → P → OnOk r P
on_ok_any (Ok x) p = p
on_ok_any (Err e) p = tt

-- a block that was written after a cut
pub on_ok_ended : {T E : Type 0} (k len : ℕ) (p : List ℕ) (old mid new : Blocks) (r : Result T E) → len ≡ k → mid ≡ cut_blocks k old
    → OnOk r (new ≡ ended len p mid) → OnOk r (new ≡ ended k p old)
on_ok_ended k len p old mid new (Ok x) same cut done =
    done ∙ ap (λ (m : ℕ). ended m p mid) same ∙ ap (ended k p) cut ∙ ended_cut k p old
on_ok_ended k len p old mid new (Err e) same cut done = tt

-- what a failed write left after a cut
pub on_err_left : {T E : Type 0} (k len : ℕ) (old mid new : Blocks) (r : Result T E) → len ≡ k → mid ≡ cut_blocks k old
    → OnErr r ((how : Remains) × (new ≡ left_of how len mid)) → OnErr r ((how : Remains) × (new ≡ left_of how k old))
on_err_left k len old mid new (Ok x) same cut left = tt
on_err_left k len old mid new (Err e) same cut (how, is) =
    left_after k mid old new cut (how, is ∙ ap (λ (m : ℕ). left_of how m mid) same)
