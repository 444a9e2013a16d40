-- How armings follow each other, and how a fuse burns.
-- serves: crates above
use Rattle.std.proofs.Common.{◌≡◌, ◌⊎◌, ℕ, ◌+◌, ◌-◌, ◌<◌, ◌≤◌, Bool, List, [], ◌∷◌, ◌++◌, Option, Some, None, append_assoc, append-nil, subst, refl, sym, ap, ◌∙◌, inl, inr, arith, if◌then◌else◌}
use Rattle.std.proofs.lemmas.Bool.{cases_lt, le-leb, le-ltb, lt-leb, lt-ltb}
use Rattle.g_base.specs.Counts.{Rose, one_more}
use Rattle.g_base.specs.Fuse.{Arms, BurnsByFailures, BurnsByWrites, IsArmedBy, IsArmedWithin, armed_with, burnt, burnt_by, most, never}
use Rattle.g_base.proofs.CountLemmas.{Rose-behind, Rose-later}

-- Never armed; armed once; armings concatenated.
pub armed_then : (first later : List ℕ) (old mid new : Arms) → IsArmedBy first old mid → IsArmedBy later mid new → IsArmedBy (first ++ later) old new
armed_then [] later old mid new is more = subst (λ (x : Arms). IsArmedBy later x new) is more
armed_then (k ∷ first) later old mid new (since, is) more = (since, armed_then first later (armed_with k since old) mid new is more)

-- a device that no number armed is armed with what it was
pub armed_none : (numbers : List ℕ) (old new : Arms) → numbers ≡ [] → new ≡ old → IsArmedBy numbers old new
armed_none numbers old new none same = subst (λ (ks : List ℕ). IsArmedBy ks old new) (sym none) same

-- Armed with a prefix of a list: of the empty list; with all of it; and concatenations, where the second part was not reached or the first was
-- completed.
pub within_none : (numbers : List ℕ) (old new : Arms) → new ≡ old → IsArmedWithin numbers old new
within_none numbers old new same = ([], numbers, refl, same)

pub within_all : (numbers : List ℕ) (old new : Arms) → IsArmedBy numbers old new → IsArmedWithin numbers old new
within_all numbers old new is = (numbers, [], sym (append-nil numbers), is)

pub within_more : (first later : List ℕ) (old new : Arms) → IsArmedWithin first old new → IsArmedWithin (first ++ later) old new
within_more first later old new (done, more, are, is) = (done, more ++ later, ap (λ (ks : List ℕ). ks ++ later) are ∙ append_assoc done more later, is)

pub within_then : (first later : List ℕ) (old mid new : Arms) → IsArmedBy first old mid → IsArmedWithin later mid new → IsArmedWithin (first ++ later) old new
within_then first later old mid new was (done, more, are, is) =
    (first ++ done, more, ap (λ (ks : List ℕ). first ++ ks) are ∙ sym (append_assoc first done more), armed_then first done old mid new was is)

-- HOW A FUSE BURNS: by some writes, and by one more
burnt_left : (n k : ℕ) → n < k → burnt_by n (Some k) ≡ Some (k - n)
burnt_left n k less = ap (λ (b : Bool). let left : Option ℕ = if b then Some (k - n) else None in left) (lt-ltb n k less)

burnt_out : (n k : ℕ) → k ≤ n → burnt_by n (Some k) ≡ None
burnt_out n k most = ap (λ (b : Bool). let left : Option ℕ = if b then Some (k - n) else None in left) (le-ltb n k most)

burnt_some : (k : ℕ) → 1 < k → burnt (Some k) ≡ Some (k - 1)
burnt_some k more = ap (λ (b : Bool). let left : Option ℕ = if b then None else Some (k - 1) in left) (lt-leb k 1 more)

burnt_last : (k : ℕ) → k ≤ 1 → burnt (Some k) ≡ None
burnt_last k last = ap (λ (b : Bool). let left : Option ℕ = if b then None else Some (k - 1) in left) (le-leb k 1 last)

-- by some writes, and by some more
pub burnt_both : (m n : ℕ) (fuse : Option ℕ) → burnt_by n (burnt_by m fuse) ≡ burnt_by (m + n) fuse
burnt_both m n None = refl
burnt_both m n (Some k) = by (cases_lt m k) (cases_lt (m + n) k)
  where
    by : (m < k) ⊎ (k ≤ m) → (m + n < k) ⊎ (k ≤ m + n) → burnt_by n (burnt_by m (Some k)) ≡ burnt_by (m + n) (Some k)
    by (inl less) (inl more) =
        let one : k - m - n ≡ k - (m + n) = omega arith in
        ap (burnt_by n) (burnt_left m k less) ∙ burnt_left n (k - m) (omega (arith, more)) ∙ ap (λ (j : ℕ). Some j) one ∙ sym (burnt_left (m + n) k more)
    by (inl less) (inr end) = ap (burnt_by n) (burnt_left m k less) ∙ burnt_out n (k - m) (omega (arith, less, end)) ∙ sym (burnt_out (m + n) k end)
    by (inr spent) later = ap (burnt_by n) (burnt_out m k spent) ∙ sym (burnt_out (m + n) k (omega (arith, spent)))

-- THE FUSE OF A DISC: never armed, armed, and after a write
burns_never : (writes : ℕ) → BurnsByWrites writes never None
burns_never writes = record { later = omega arith; left = λ room. refl }

pub fused_never : (writes : ℕ) (arms : Arms) (fuse : Option ℕ) → arms ≡ never → fuse ≡ None → BurnsByWrites writes arms fuse
fused_never writes arms fuse is none =
    subst (λ (a : Arms). BurnsByWrites writes a fuse) (sym is) (subst (BurnsByWrites writes never) (sym none) (burns_never writes))

-- The fuse of a rack: never armed, armed, after a successful write, and after a failed one.
fails_never : (failed : ℕ) → BurnsByFailures failed never None
fails_never failed = record { later = omega arith; left = λ j e. absurd (let no : ⊥ = cc in no); spent = λ e k is. absurd (let no : ⊥ = cc in no) }

pub unfailed_never : (failed : ℕ) (arms : Arms) (fuse : Option ℕ) → arms ≡ never → fuse ≡ None → BurnsByFailures failed arms fuse
unfailed_never failed arms fuse is none =
    subst (λ (a : Arms). BurnsByFailures failed a fuse) (sym is) (subst (BurnsByFailures failed never) (sym none) (fails_never failed))

pub fails_good : (failed : ℕ) (arms : Arms) (fuse : Option ℕ) → (fuse ≡ Some 1 → ⊥) → BurnsByFailures failed arms fuse → BurnsByFailures failed arms (burnt fuse)
fails_good failed arms None apart is = is
fails_good failed arms (Some k) apart is =
    let (one, least) = is.left k refl in
    let more : 1 < k = by (cases_lt 1 k) in record {
      later = is.later;
      left = λ j e.
          let some : ◌≡◌ {A = Option ℕ} (Some (k - 1)) (Some j) = sym (burnt_some k more) ∙ e in
          let same : k - 1 ≡ j = cc in
          (omega (arith, more, same), omega (arith, least, same));
      spent = λ e. absurd (let some : ◌≡◌ {A = Option ℕ} (Some (k - 1)) None = sym (burnt_some k more) ∙ e in let no : ⊥ = cc in no);
    }
  where
    by : (1 < k) ⊎ (k ≤ 1) → 1 < k
    by (inl more) = more
    by (inr last) = absurd (apart (let one : 1 ≤ k = (is.left k refl).0 in let same : k ≡ 1 = omega (arith, one, last) in ap (λ (j : ℕ). Some j) same))

pub fails_failed : (failed now : ℕ) (arms : Arms) (fuse : Option ℕ) → Rose failed now → BurnsByFailures failed arms fuse → BurnsByFailures now arms (burnt fuse)
fails_failed failed now arms fuse rose is = record {
  later = let was : arms.since ≤ failed = is.later in let more : failed ≤ now = Rose-later rose in omega (arith, was, more);
  left = λ j e. by fuse is j e;
  spent = λ e k armed. Rose-behind is.later rose;
}
  where
    by : (fuse : Option ℕ) → BurnsByFailures failed arms fuse → (j : ℕ) → burnt fuse ≡ Some j → (1 ≤ j) × (j ≤ most arms.number)
    by None is j e = absurd (let no : ⊥ = cc in no)
    by (Some k) is j e = at (cases_lt 1 k)
      where
        at : (1 < k) ⊎ (k ≤ 1) → (1 ≤ j) × (j ≤ most arms.number)
        at (inl more) =
            let some : ◌≡◌ {A = Option ℕ} (Some (k - 1)) (Some j) = sym (burnt_some k more) ∙ e in
            let same : k - 1 ≡ j = cc in
            let least : k ≤ most arms.number = (is.left k refl).1 in
            (omega (arith, more, same), omega (arith, least, same))
        at (inr last) = absurd (let none : ◌≡◌ {A = Option ℕ} None (Some j) = sym (burnt_last k last) ∙ e in let no : ⊥ = cc in no)

pub fused_well : (failed : ℕ) (arms : Arms) (fuse left : Option ℕ) → left ≡ burnt fuse → (fuse ≡ Some 1 → ⊥) → BurnsByFailures failed arms fuse → BurnsByFailures failed arms left
fused_well failed arms fuse left burns apart is = subst (BurnsByFailures failed arms) (sym burns) (fails_good failed arms fuse apart is)

pub fused_failed : (failed now : ℕ) (arms : Arms) (fuse left : Option ℕ) → left ≡ burnt fuse → now ≡ one_more failed → BurnsByFailures failed arms fuse → BurnsByFailures now arms left
fused_failed failed now arms fuse left burns more is =
    subst (BurnsByFailures now arms) (sym burns) (fails_failed failed now arms fuse (record { more = omega (arith, more) }) is)
