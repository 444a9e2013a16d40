-- The greatest number that no dump has, above a number and below that of a dump; and the newest dump that holds all directories.
-- serves: holds_all, newest_gap, newest_whole
use Rattle.std.proofs.Common.{◌≡◌, ◌≢◌, Bool, true, false, ◌⊎◌, inl, inr, ℕ, ◌+◌, ◌-◌, ◌<◌, ◌≤◌, List, length, get_or, Option, Some, None, refl, sym, ◌∙◌, ap, arith, subst}
use Rattle.std.specs.Prelude.{◌↔◌, Contains, IsTrue, max}
use Rattle.std.specs.List.Sorted.{IsNonDecreasingBy}
use Rattle.std.proofs.lemmas.List.{get_or_default}
use Rattle.g_restore.specs.declared.dumps.Found.{Found}
use Rattle.g_restore.proofs.KnownLemmas.{at_place}
use Rattle.g_entry.specs.declared.user_rec.UserRec.{UserRec}
use Rattle.g_incr.specs.Layout.{holds}
use Rattle.g_look.specs.declared.broken.DumpAt.{DumpAt}
use Rattle.g_look.specs.Gaps.{HoldsAll, IsGap, IsNewestGap, IsNewestWhole}
use Rattle.g_look.proofs.PairLemmas.{either_way, le_cases}

-- one directory isn't held
pub not_all : (users slice : List UserRec) (held : List ℕ) (i : ℕ) (u : UserRec) (here : Bool) → slice ≡ users → i < length slice → u ≡ get_or slice i u → here ≡ holds held u.number
    → here ≡ false → IsTrue false ↔ HoldsAll users held
not_all users slice held i u here is_slice inside at is isnt = (
  λ wrong. absurd (let no : ⊥ = cc in no),
  λ all.
      let yes_it : holds held u.number ≡ true = all u (subst (λ (us : List UserRec). Contains us u) is_slice (i, inside, sym at)) in
      absurd (let no : ⊥ = cc in no),
)

-- OF THE FIRST i DUMPS in memory, the greatest number of one that holds the directories of all its users, or 0
pub record WholeSoFar (found : List Found) (i n : ℕ) : Type 0 where
  pub most : (k : ℕ) (d : Found) → k < i → HoldsAll (get_or found k d).dir.users.items (get_or found k d).dir.held.items → (get_or found k d).dir.note.number ≤ n
  pub there : 0 < n → (f : Found) × Contains found f × HoldsAll f.dir.users.items f.dir.held.items × (f.dir.note.number ≡ n)

module _ (found : List Found) where
  pub whole_more : (i n m : ℕ) (x : Found) → i < length found → x ≡ get_or found i x → WholeSoFar found i n → n ≤ m → (HoldsAll x.dir.users.items x.dir.held.items → x.dir.note.number ≤ m)
      → (m ≡ n) ⊎ (HoldsAll x.dir.users.items x.dir.held.items × (x.dir.note.number ≡ m)) → WholeSoFar found (i + 1) m
  whole_more i n m x inside at so_far le most there = record { most = most_more; there = there_more }
    where
      most_more : (k : ℕ) (d : Found) → k < i + 1 → HoldsAll (get_or found k d).dir.users.items (get_or found k d).dir.held.items → (get_or found k d).dir.note.number ≤ m
      most_more k d below all = by_place (le_cases k i (omega (arith, below)))
        where
          by_place : (k < i) ⊎ (k ≡ i) → (get_or found k d).dir.note.number ≤ m
          by_place (inl less) = let old = so_far.most k d less all in omega (arith, old, le)
          by_place (inr is) =
              let here : get_or found k d ≡ x = ap (λ (n : ℕ). get_or found n d) is ∙ get_or_default found i d x inside ∙ sym at in
              subst (λ (y : Found). y.dir.note.number ≤ m) (sym here) (most (subst (λ (y : Found). HoldsAll y.dir.users.items y.dir.held.items) here all))

      there_more : 0 < m → (f : Found) × Contains found f × HoldsAll f.dir.users.items f.dir.held.items × (f.dir.note.number ≡ m)
      there_more positive = by_source there
        where
          by_source : (m ≡ n) ⊎ (HoldsAll x.dir.users.items x.dir.held.items × (x.dir.note.number ≡ m))
              → (f : Found) × Contains found f × HoldsAll f.dir.users.items f.dir.held.items × (f.dir.note.number ≡ m)
          by_source (inl same) = let (f, in_f, all, is) = so_far.there (omega (arith, positive, same)) in (f, in_f, all, is ∙ sym same)
          by_source (inr (all, is)) = (x, (i, inside, sym at), all, is)

  pub whole_all : (n : ℕ) → WholeSoFar found (length found) n → IsNewestWhole found n
  whole_all n so_far = record {
    most = λ f (k, in_k, at_k) all.
        subst (λ (y : Found). y.dir.note.number ≤ n) at_k (so_far.most k f in_k (subst (λ (y : Found). HoldsAll y.dir.users.items y.dir.held.items) (sym at_k) all));
    there = so_far.there;
  }

module _ (dumps : List DumpAt) (from : ℕ) where
  -- one of the first i dumps has the number
  pub record IsAmong (i n : ℕ) : Type 0 where
    pub at : ℕ
    pub below : at < i
    pub is : (d : DumpAt) → (get_or dumps at d).number ≡ n

  -- the gap after the first i dumps, whose greatest number is this, or the number above which gaps are searched
  abbrev pub GapSoFar : ℕ → ℕ → Option ℕ → Type 0
  GapSoFar i reached None = (n : ℕ) → from < n → n ≤ reached → IsAmong i n
  GapSoFar i reached (Some g) =
      (from < g) × (g < reached) × IsAmong i reached × ((k : ℕ) (d : DumpAt) → k < i → (get_or dumps k d).number ≢ g)
      × ((n : ℕ) → g < n → n ≤ reached → IsAmong i n)

  pub record HasWalked (i reached : ℕ) (gap : Option ℕ) : Type 0 where
    pub least : from ≤ reached
    pub most : (k : ℕ) (d : DumpAt) → k < i → (get_or dumps k d).number ≤ reached
    pub so_far : GapSoFar i reached gap

  module _ (order : IsNonDecreasingBy (λ (d : DumpAt). d.number) dumps) where
    pub walked_first : HasWalked 0 from None
    walked_first = record {
      least = omega arith;
      most = λ k d below. absurd (let no : ⊥ = omega (arith, below) in no);
      so_far = λ n above to. absurd (let no : ⊥ = omega (arith, above, to) in no);
    }

    among_more : (i n : ℕ) → IsAmong i n → IsAmong (i + 1) n
    among_more i n is = let below = is.below in record { at = is.at; below = omega (arith, below); is = is.is }

    module _ (i : ℕ) (z : DumpAt) (inside : i < length dumps) where
      abbrev x : DumpAt
      x = get_or dumps i z

      here : (d : DumpAt) → (get_or dumps i d).number ≡ x.number
      here d = ap (λ (y : DumpAt). y.number) (get_or_default dumps i d z inside)

      among_last : (n : ℕ) → n ≡ x.number → IsAmong (i + 1) n
      among_last n is = record { at = i; below = omega arith; is = λ d. here d ∙ sym is }

      -- the number is at least that of each dump before
      above_all : (n : ℕ) → IsAmong i n → n ≤ x.number
      above_all n is =
          let below = is.below in
          let up = order is.at i x (omega (arith, below)) inside in
          let low = is.is x in
          let high = here x in
          omega (arith, up, low, high)

      most_more : (reached : ℕ) → ((k : ℕ) (d : DumpAt) → k < i → (get_or dumps k d).number ≤ reached)
          → (top : ℕ) → reached ≤ top → x.number ≤ top → (k : ℕ) (d : DumpAt) → k < i + 1 → (get_or dumps k d).number ≤ top
      most_more reached most top le to k d below = by_place (le_cases k i (omega (arith, below)))
        where
          by_place : (k < i) ⊎ (k ≡ i) → (get_or dumps k d).number ≤ top
          by_place (inl less) = let old = most k d less in omega (arith, old, le)
          by_place (inr is) = let it = here d in subst (λ (n : ℕ). (get_or dumps n d).number ≤ top) (sym is) (omega (arith, it, to))

      gone_more : (g : ℕ) → g < x.number → ((k : ℕ) (d : DumpAt) → k < i → (get_or dumps k d).number ≢ g) → (k : ℕ) (d : DumpAt) → k < i + 1 → (get_or dumps k d).number ≢ g
      gone_more g less gone k d below = by_place (le_cases k i (omega (arith, below)))
        where
          by_place : (k < i) ⊎ (k ≡ i) → (get_or dumps k d).number ≢ g
          by_place (inl before) = gone k d before
          by_place (inr is) = subst (λ (n : ℕ). (get_or dumps n d).number ≢ g) (sym is) (λ same. let it = here d in let no : ⊥ = omega (arith, it, same, less) in no)

      -- the number was reached, or is the next one
      pub walked_on : (reached : ℕ) (gap : Option ℕ) → HasWalked i reached gap → (top : ℕ) → reached ≤ top → x.number ≤ top → top ≤ reached + 1 → (top ≡ reached) ⊎ (top ≡ x.number)
          → HasWalked (i + 1) top gap
      walked_on reached gap walked top le to near is = record {
        least = let old = walked.least in omega (arith, old, le);
        most = most_more reached walked.most top le to;
        so_far = so_far gap walked.so_far;
      }
        where
          among : (from_here : ℕ) → ((n : ℕ) → from_here < n → n ≤ reached → IsAmong i n) → (n : ℕ) → from_here < n → n ≤ top → IsAmong (i + 1) n
          among from_here all n above under = by_place (either_way n reached)
            where
              new : reached < n → (top ≡ reached) ⊎ (top ≡ x.number) → IsAmong (i + 1) n
              new less (inl same) = absurd (let no : ⊥ = omega (arith, less, under, same) in no)
              new less (inr same) = among_last n (omega (arith, less, under, near, same))

              by_place : (n ≤ reached) ⊎ (reached < n) → IsAmong (i + 1) n
              by_place (inl old) = among_more i n (all n above old)
              by_place (inr less) = new less is

          top_among : IsAmong i reached → (top ≡ reached) ⊎ (top ≡ x.number) → IsAmong (i + 1) top
          top_among old (inl same) = subst (IsAmong (i + 1)) (sym same) (among_more i reached old)
          top_among old (inr same) = among_last top same

          so_far : (gap : Option ℕ) → GapSoFar i reached gap → GapSoFar (i + 1) top gap
          so_far None all = among from all
          so_far (Some g) (above, under, there, gone, all) =
              let up = above_all reached there in (
                above,
                omega (arith, under, le),
                top_among there is,
                gone_more g (omega (arith, under, up)) gone,
                among g all,
              )

      -- a number was skipped
      pub walked_over : (reached : ℕ) (gap : Option ℕ) → HasWalked i reached gap → reached + 1 < x.number → HasWalked (i + 1) x.number (Some (x.number - 1))
      walked_over reached gap walked over = record {
        least = let old = walked.least in omega (arith, old, over);
        most = most_more reached walked.most x.number (omega (arith, over)) (omega arith);
        so_far = (
          let old = walked.least in omega (arith, old, over),
          omega (arith, over),
          among_last x.number refl,
          gone_more (x.number - 1) (omega (arith, over)) (λ k d below same. let low = walked.most k d below in let no : ⊥ = omega (arith, low, same, over) in no),
          λ n above under. among_last n (omega (arith, above, under)),
        );
      }

      -- one more dump
      pub walked_more : (reached top : ℕ) (gap new : Option ℕ) → top ≡ max reached x.number → (reached + 1 < x.number → new ≡ Some (x.number - 1)) → (x.number ≤ reached + 1 → new ≡ gap)
          → HasWalked i reached gap → HasWalked (i + 1) top new
      walked_more reached top gap new is over near walked = by_number (either_way x.number (reached + 1))
        where
          which : (top ≡ reached) ⊎ (top ≡ x.number)
          which = by_order (either_way x.number reached)
            where
              by_order : (x.number ≤ reached) ⊎ (reached < x.number) → (top ≡ reached) ⊎ (top ≡ x.number)
              by_order (inl le) = inl (omega (arith, is, le))
              by_order (inr less) = inr (omega (arith, is, less))

          by_number : (x.number ≤ reached + 1) ⊎ (reached + 1 < x.number) → HasWalked (i + 1) top new
          by_number (inl le) =
              subst (HasWalked (i + 1) top) (sym (near le)) (walked_on reached gap walked top (omega (arith, is)) (omega (arith, is)) (omega (arith, is, le)) which)
          by_number (inr less) =
              let same : top ≡ x.number = omega (arith, is, less) in
              subst (HasWalked (i + 1) top) (sym (over less)) (subst (λ (n : ℕ). HasWalked (i + 1) n (Some (x.number - 1))) (sym same) (walked_over reached gap walked less))

    contained : (i n : ℕ) → i ≤ length dumps → IsAmong i n → (x : DumpAt) × Contains dumps x × (x.number ≡ n)
    contained i n to is =
        let below = is.below in
        let (x, at) = at_place dumps is.at (omega (arith, below, to)) in
        (x, (is.at, omega (arith, below, to), at), ap (λ (y : DumpAt). y.number) (sym at) ∙ is.is x)

    module _ (i reached : ℕ) (long : i ≡ length dumps) where
      below_all : ((k : ℕ) (d : DumpAt) → k < i → (get_or dumps k d).number ≤ reached) → (n : ℕ) (a : DumpAt) → Contains dumps a → n < a.number → n ≤ reached
      below_all most n a (k, in_k, at_k) less =
          let top = most k a (omega (arith, in_k, long)) in
          let it : (get_or dumps k a).number ≡ a.number = ap (λ (y : DumpAt). y.number) at_k in
          omega (arith, top, it, less)

      -- what was reached isn't a gap
      no_gap : (n : ℕ) → IsAmong i n → IsGap dumps from n → ⊥
      no_gap n among gap = let (x, in_x, is) = contained i n (omega (arith, long)) among in gap.gone x in_x is

      gone_all : (g : ℕ) → ((k : ℕ) (d : DumpAt) → k < i → (get_or dumps k d).number ≢ g) → (a : DumpAt) → Contains dumps a → a.number ≢ g
      gone_all g gone a (k, in_k, at_k) same = gone k a (omega (arith, in_k, long)) (ap (λ (y : DumpAt). y.number) at_k ∙ same)

      pub walked_all : (gap : Option ℕ) → HasWalked i reached gap → IsNewestGap dumps from gap
      walked_all None walked = λ n gap. let (a, in_a, less) = gap.later in no_gap n (walked.so_far n gap.above (below_all walked.most n a in_a less)) gap
      walked_all (Some g) walked = (here, newest)
        where
          here : IsGap dumps from g
          here =
              let (x, in_x, is) = contained i reached (omega (arith, long)) walked.so_far.2 in
              let under = walked.so_far.1 in
              record { above = walked.so_far.0; later = (x, in_x, omega (arith, under, is)); gone = gone_all g walked.so_far.3 }

          newest : (m : ℕ) → IsGap dumps from m → m ≤ g
          newest m gap = by_order (either_way m g)
            where
              by_order : (m ≤ g) ⊎ (g < m) → m ≤ g
              by_order (inl le) = le
              by_order (inr over) = let (a, in_a, less) = gap.later in absurd (no_gap m (walked.so_far.4 m over (below_all walked.most m a in_a less)) gap)
