-- A read of paired reels.
-- serves: read, write_twins (durable, written), CompareLemmas, CopyLemmas, DurableLemmas, LoseLemmas, RebuildLemmas, SecureLemmas, WriteLemmas
use Rattle.std.proofs.Common.{◌≡◌, ℕ, zero, suc, ◌<◌, List, [], ◌∷◌, Bool, true, false, ◌&&◌, nat_lt, Option, Some, None, Ok, Err, if◌then◌else◌, take, refl, sym, subst, ap, ◌∙◌, arith, inl, inr, ◌⊎◌}
use Rattle.std.proofs.lemmas.Bool.{ltb-true, lt-ltb}
use Rattle.std.specs.Option.{ForSome}
use Rattle.std.specs.Prelude.{slice_get}
use Rattle.g_base.specs.Counts.{one_more}
use Rattle.g_tape.specs.declared.fault.TapeFault.{TapeFault}
use Rattle.g_tape.specs.declared.fault.TapeFault.TheVariants.{NoTape, NotMounted, End, ReadFailed, WriteFailed}
use Rattle.g_tape.specs.Reel.{Reel}
use Rattle.g_tape.specs.Rack.{Rack, Reading, reel, refuses_read}
use Rattle.g_tape.specs.Reads.{OnlyReads}
use Rattle.g_tape.specs.Risk.{Risk}
use Rattle.g_tape.proofs.ReadLemmas.{nothing_read, reading_only}
use Rattle.g_duplex.specs.Twins.{AreTwins, DoAgree, are_up, leader, may_help, of_leader, of_other, pair_reel, told_with}
use Rattle.g_duplex.specs.Pair.{ArePaired, Pair, pair_reels, pair_risks, shown, standing_in}
use Rattle.g_duplex.specs.Calls.{Answer, HasAsked, Helps, PairReads, ReadsOn, behind, counted, leading}
use Rattle.g_duplex.specs.declared.twin.Twin.TheVariants.{First, Second}
use Rattle.g_duplex.specs.declared.twin.Standing.{Standing}
use Rattle.g_duplex.specs.declared.twin.Standing.TheVariants.{Level, Apart, Lost}
use Rattle.g_duplex.proofs.PairLemmas.{AreAt, at_standing, seen_at}
use Rattle.g_duplex.proofs.UnreadLemmas.{seen_counts_none, seen_unread}

-- a read isn't refused by a failure
pub refused_read : (k : ℕ) (o : Option Reel) (fault : TapeFault) → refuses_read k o ≡ Some fault → (fault ≡ NoTape) ⊎ (fault ≡ NotMounted) ⊎ (fault ≡ End)
refused_read k None fault is = let one : Some NoTape ≡ Some fault = is in inl cc
refused_read k (Some r) fault is = by r.mounted (nat_lt k r.len) is
  where
    by : (m l : Bool) → (if m then (if l then None else Some End) else Some NotMounted) ≡ Some fault → (fault ≡ NoTape) ⊎ (fault ≡ NotMounted) ⊎ (fault ≡ End)
    by false l e = inr (inl cc)
    by true true e = absurd (cc)
    by true false e = inr (inr cc)

-- a read that isn't refused is of a mounted reel with that block
pub free_read : (k : ℕ) (r : Reel) → refuses_read k (Some r) ≡ None → (r.mounted ≡ true) × (nat_lt k r.len ≡ true)
free_read k r is = by r.mounted (nat_lt k r.len) is
  where
    by : (m l : Bool) → (if m then (if l then None else Some End) else Some NotMounted) ≡ None → (m ≡ true) × (l ≡ true)
    by false l e = absurd (cc)
    by true true e = (refl, refl)
    by true false e = absurd (cc)

pub reads_free : (k : ℕ) (r : Reel) → r.mounted ≡ true → nat_lt k r.len ≡ true → refuses_read k (Some r) ≡ None
reads_free k r up below = rw (up, below) refl

pub first_of : (m n : Bool) → (m && n) ≡ true → m ≡ true
first_of true n is = refl
first_of false n is = absurd (cc)

pub second_of : (m n : Bool) → (m && n) ≡ true → n ≡ true
second_of true n is = is
second_of false n is = absurd (cc)

-- The leading twin of a mounted pair is mounted, and so is the other one unless it is lost.
pub leader_up : (t : Standing) (a b : Reel) → are_up t a.mounted b.mounted ≡ true → (of_leader t a b).mounted ≡ true
leader_up Level a b is = first_of a.mounted b.mounted is
leader_up (Apart k) a b is = first_of a.mounted b.mounted is
leader_up (Lost First) a b is = is
leader_up (Lost Second) a b is = is

helper_up : (k : ℕ) (t : Standing) (a b : Reel) → may_help k t ≡ true → are_up t a.mounted b.mounted ≡ true → (of_other t a b).mounted ≡ true
helper_up k Level a b may is = second_of a.mounted b.mounted is
helper_up k (Apart j) a b may is = second_of a.mounted b.mounted is
helper_up k (Lost twin) a b may is = let never : false ≡ true = may in absurd (cc)

-- The other twin has the block too, if it may be read.
helper_long : (k : ℕ) (t : Standing) (a b : Reel) → may_help k t ≡ true → DoAgree t a b → nat_lt k (of_leader t a b).len ≡ true → nat_lt k (of_other t a b).len ≡ true
helper_long k Level a b may agree below = ap (nat_lt k) (sym agree.0) ∙ below
helper_long k (Apart j) a b may agree below = let less : k < j = ltb-true k j may in lt-ltb k b.len (omega (arith, less, agree.1))
helper_long k (Lost twin) a b may agree below = let never : false ≡ true = may in absurd (cc)

-- a block below j is that of the first j blocks
slice_get-take : (p : List (List ℕ)) (j k : ℕ) → k < j → slice_get (take j p) k ≡ slice_get p k
slice_get-take [] zero k less = elim less [ ]
slice_get-take [] (suc j) k less = refl
slice_get-take (b ∷ bs) zero k less = elim less [ ]
slice_get-take (b ∷ bs) (suc j) zero less = refl
slice_get-take (b ∷ bs) (suc j) (suc k) less = slice_get-take bs j k (omega (arith, less))

-- and the same block
get_same : (k j : ℕ) (p q : List (List ℕ)) → k < j → take j p ≡ take j q → slice_get p k ≡ slice_get q k
get_same k j p q less same = sym (slice_get-take p j k less) ∙ ap (λ (bs : List (List ℕ)). slice_get bs k) same ∙ slice_get-take q j k less

helper_same : (k : ℕ) (t : Standing) (a b : Reel) (p q : List (List ℕ)) → may_help k t ≡ true → DoAgree t a b → (of_leader t a b).blocks ≡ Some p → (of_other t a b).blocks ≡ Some q
    → slice_get p k ≡ slice_get q k
helper_same k Level a b p q may agree at at' = ap (λ (bs : List (List ℕ)). slice_get bs k) (agree.1 p at q at')
helper_same k (Apart j) a b p q may agree at at' = get_same k j p q (ltb-true k j may) (agree.2 p at q at')
helper_same k (Lost twin) a b p q may agree at at' = let never : false ≡ true = may in absurd (cc)

pub told_both : (x y : Option (List (List ℕ))) (bs : List (List ℕ)) → told_with x y ≡ Some bs → (x ≡ Some bs) × (q : List (List ℕ)) × (y ≡ Some q)
told_both None y bs is = absurd (cc)
told_both (Some x) None bs is = absurd (cc)
told_both (Some x) (Some y) bs is = (is, y, refl)

-- the reels of the racks by who leads
pub leader_at : (s : ℕ) (t : Standing) (p : Pair) (a b : Reel) → reel s p.first.reels ≡ Some a → reel s p.second.reels ≡ Some b → reel s (leading t p).reels ≡ Some (of_leader t a b)
leader_at s Level p a b one two = one
leader_at s (Apart k) p a b one two = one
leader_at s (Lost First) p a b one two = two
leader_at s (Lost Second) p a b one two = one

pub other_at : (s : ℕ) (t : Standing) (p : Pair) (a b : Reel) → reel s p.first.reels ≡ Some a → reel s p.second.reels ≡ Some b → reel s (behind t p).reels ≡ Some (of_other t a b)
other_at s Level p a b one two = two
other_at s (Apart k) p a b one two = two
other_at s (Lost First) p a b one two = one
other_at s (Lost Second) p a b one two = two

-- a relation of the leading racks and of the other ones is one of the first and of the second
pub to_first : (P : Rack → Rack → Type 0) (t : Standing) (f g f' g' : Rack) → P (of_leader t f g) (of_leader t f' g') → P (of_other t f g) (of_other t f' g') → P f f'
to_first P Level f g f' g' one two = one
to_first P (Apart k) f g f' g' one two = one
to_first P (Lost First) f g f' g' one two = two
to_first P (Lost Second) f g f' g' one two = one

pub to_second : (P : Rack → Rack → Type 0) (t : Standing) (f g f' g' : Rack) → P (of_leader t f g) (of_leader t f' g') → P (of_other t f g) (of_other t f' g') → P g g'
to_second P Level f g f' g' one two = two
to_second P (Apart k) f g f' g' one two = two
to_second P (Lost First) f g f' g' one two = one
to_second P (Lost Second) f g f' g' one two = two

-- and a relation of all four racks is one by who leads
pub from_first : (P : Rack → Rack → Rack → Rack → Type 0) (t : Standing) (f g f' g' : Rack) → leader t ≡ First → P f g f' g'
    → P (of_leader t f g) (of_other t f g) (of_leader t f' g') (of_other t f' g')
from_first P Level f g f' g' leads is = is
from_first P (Apart k) f g f' g' leads is = is
from_first P (Lost First) f g f' g' leads is = let never : Second ≡ First = leads in absurd (cc)
from_first P (Lost Second) f g f' g' leads is = is

pub from_second : (P : Rack → Rack → Rack → Rack → Type 0) (t : Standing) (f g f' g' : Rack) → leader t ≡ Second → P g f g' f'
    → P (of_leader t f g) (of_other t f g) (of_leader t f' g') (of_other t f' g')
from_second P Level f g f' g' leads is = let never : First ≡ Second = leads in absurd (cc)
from_second P (Apart k) f g f' g' leads is = let never : First ≡ Second = leads in absurd (cc)
from_second P (Lost First) f g f' g' leads is = is
from_second P (Lost Second) f g f' g' leads is = let never : First ≡ Second = leads in absurd (cc)

-- nothing was read
nothing_else : (old new : Rack) → new ≡ old → OnlyReads old new
nothing_else old new same = subst (OnlyReads old) (sym same) (nothing_read old)

-- The rack that is used is only read.
helps_only : (may : Bool) (s k : ℕ) (old new : Rack) (result : Answer) (into : List ℕ) → Helps may s k old result into new → OnlyReads old new
helps_only true s k old new result into is = reading_only s k old new result into is
helps_only false s k old new result into is = nothing_else old new is.1

on_only : (may : Bool) (s k : ℕ) (old new : Rack) (answer result : Answer) (block into : List ℕ) → ReadsOn may s k answer block old result into new → OnlyReads old new
on_only may s k old new (Ok u) result block into is = nothing_else old new is.2
on_only may s k old new (Err ReadFailed) result block into is = helps_only may s k old new result into is
on_only may s k old new (Err WriteFailed) result block into is = nothing_else old new is.2
on_only may s k old new (Err NoTape) result block into is = nothing_else old new is.2
on_only may s k old new (Err NotMounted) result block into is = nothing_else old new is.2
on_only may s k old new (Err End) result block into is = nothing_else old new is.2

pub both_only : (may : Bool) (s k : ℕ) (lead other lead' other' : Rack) (result : Answer) (into : List ℕ) → HasAsked may s k lead other result into lead' other'
    → OnlyReads lead lead' × OnlyReads other other'
both_only may s k lead other lead' other' result into (answer, block, reading, on) =
    (reading_only s k lead lead' answer block reading, on_only may s k other other' answer result block into on)

-- nor does what a power loss may leave of either rack change
abbrev SameRisks : Rack → Rack → Type 0
SameRisks old new = new.risks ≡ old.risks

reading_risks : (s k : ℕ) (old new : Rack) (result : Answer) (into : List ℕ) → Reading s k old result into new → SameRisks old new
reading_risks s k old new (Ok u) into (free, block, is) = ap (λ (r : Rack). r.risks) is
reading_risks s k old new (Err ReadFailed) into (free, rose, is) = ap (λ (r : Rack). r.risks) is
reading_risks s k old new (Err WriteFailed) into never = absurd never
reading_risks s k old new (Err NoTape) into (refused, is) = ap (λ (r : Rack). r.risks) is
reading_risks s k old new (Err NotMounted) into (refused, is) = ap (λ (r : Rack). r.risks) is
reading_risks s k old new (Err End) into (refused, is) = ap (λ (r : Rack). r.risks) is

helps_same_risks : (may : Bool) (s k : ℕ) (old new : Rack) (result : Answer) (into : List ℕ) → Helps may s k old result into new → SameRisks old new
helps_same_risks true s k old new result into is = reading_risks s k old new result into is
helps_same_risks false s k old new result into is = ap (λ (r : Rack). r.risks) is.1

on_same_risks : (may : Bool) (s k : ℕ) (old new : Rack) (answer result : Answer) (block into : List ℕ) → ReadsOn may s k answer block old result into new → SameRisks old new
on_same_risks may s k old new (Ok u) result block into is = ap (λ (r : Rack). r.risks) is.2
on_same_risks may s k old new (Err ReadFailed) result block into is = helps_same_risks may s k old new result into is
on_same_risks may s k old new (Err WriteFailed) result block into is = ap (λ (r : Rack). r.risks) is.2
on_same_risks may s k old new (Err NoTape) result block into is = ap (λ (r : Rack). r.risks) is.2
on_same_risks may s k old new (Err NotMounted) result block into is = ap (λ (r : Rack). r.risks) is.2
on_same_risks may s k old new (Err End) result block into is = ap (λ (r : Rack). r.risks) is.2

both_same_risks : (may : Bool) (s k : ℕ) (lead other lead' other' : Rack) (result : Answer) (into : List ℕ) → HasAsked may s k lead other result into lead' other'
    → SameRisks lead lead' × SameRisks other other'
both_same_risks may s k lead other lead' other' result into (answer, block, reading, on) =
    (reading_risks s k lead lead' answer block reading, on_same_risks may s k other other' answer result block into on)

-- THE READ of a pair that isn't refused
module _ (s k : ℕ) (p : Pair) (t : Standing) (a b : Reel) (first' second' : Rack) (into : List ℕ)
    (twins : AreTwins t a b) (at : AreAt s t a b p.standings p.first.reels p.second.reels)
    (seen : reel s (shown p).reels ≡ Some (pair_reel t a b)) (free : refuses_read k (reel s (shown p).reels) ≡ None)
    (same : pair_reels p.standings first'.reels second'.reels ≡ pair_reels p.standings p.first.reels p.second.reels)
    (first_risks : first'.risks ≡ p.first.risks) (second_risks : second'.risks ≡ p.second.risks) where
  abbrev after : Answer → Pair
  after result = record p { first = first'; second = second'; read_faults = counted result p.read_faults }

  -- what is seen then, with this number of failed reads
  seen_then : (n : ℕ) → shown (record p { first = first'; second = second'; read_faults = n }) ≡ record (shown p) { read_faults = n }
  seen_then n =
      ap (λ (rs : List Reel). let r : Rack = record (shown p) { reels = rs; read_faults = n; risks = pair_risks p.standings rs first'.risks second'.risks } in r) same
      ∙ ap (λ (ks : List Risk). let r : Rack = record (shown p) { read_faults = n; risks = pair_risks p.standings (shown p).reels ks second'.risks } in r) first_risks
      ∙ ap (λ (ks : List Risk). let r : Rack = record (shown p) { read_faults = n; risks = pair_risks p.standings (shown p).reels p.first.risks ks } in r) second_risks

  is_free : (are_up t a.mounted b.mounted ≡ true) × (nat_lt k (of_leader t a b).len ≡ true)
  is_free = free_read k (pair_reel t a b) (sym (ap (refuses_read k) seen) ∙ free)

  lead_free : refuses_read k (reel s (leading t p).reels) ≡ None
  lead_free = ap (refuses_read k) (leader_at s t p a b at.first at.second) ∙ reads_free k (of_leader t a b) (leader_up t a b is_free.0) is_free.1

  other_free : may_help k t ≡ true → refuses_read k (reel s (behind t p).reels) ≡ None
  other_free may =
      ap (refuses_read k) (other_at s t p a b at.first at.second)
      ∙ reads_free k (of_other t a b) (helper_up k t a b may is_free.0) (helper_long k t a b may twins.agree is_free.1)

  -- the block that was read is the one that is seen
  block_seen : (block : List ℕ) → ForSome (of_leader t a b).blocks (λ bs. slice_get bs k ≡ Some block)
      → ForSome (reel s (shown p).reels) (λ r. ForSome r.blocks (λ bs. slice_get bs k ≡ Some block))
  block_seen block is r here bs told =
      let one : Some (pair_reel t a b) ≡ Some r = sym seen ∙ here in
      let are : pair_reel t a b ≡ r = cc in
      let both = told_both (of_leader t a b).blocks (of_other t a b).blocks bs (ap (λ (x : Reel). x.blocks) are ∙ told) in
      is bs both.0

  block_helped : (block : List ℕ) → may_help k t ≡ true → ForSome (of_other t a b).blocks (λ bs. slice_get bs k ≡ Some block)
      → ForSome (reel s (shown p).reels) (λ r. ForSome r.blocks (λ bs. slice_get bs k ≡ Some block))
  block_helped block may is r here bs told =
      let one : Some (pair_reel t a b) ≡ Some r = sym seen ∙ here in
      let are : pair_reel t a b ≡ r = cc in
      let (lead, q, other) = told_both (of_leader t a b).blocks (of_other t a b).blocks bs (ap (λ (x : Reel). x.blocks) are ∙ told) in
      helper_same k t a b bs q may twins.agree lead other ∙ is q other

  reads_well : (u : Unit {0}) → ForSome (reel s (shown p).reels) (λ r. ForSome r.blocks (λ bs. slice_get bs k ≡ Some into))
      → Reading s k (shown p) (Ok u) into (shown (after (Ok u)))
  reads_well u block = (
    free,
    block,
    seen_then p.read_faults
        ∙ ap (λ (rs : List Reel). let r : Rack = record (shown p) { reels = rs } in r) (sym (seen_counts_none s k p.standings p.first.reels p.second.reels)),
  )

  reads_badly : Reading s k (shown p) (Err ReadFailed) into (shown (after (Err ReadFailed)))
  reads_badly = (
    free,
    record { more = omega arith },
    seen_then (one_more p.read_faults),
  )

  told_there : (r : Rack) (x : Reel) (block : List ℕ) → reel s r.reels ≡ Some x → ForSome (reel s r.reels) (λ y. ForSome y.blocks (λ bs. slice_get bs k ≡ Some block))
      → ForSome x.blocks (λ bs. slice_get bs k ≡ Some block)
  told_there r x block here all bs told = all x here bs told

  refused_never : (o : Option Reel) (fault : TapeFault) → refuses_read k o ≡ None → refuses_read k o ≡ Some fault → ⊥
  refused_never o fault one two = cc

  helps_reading : (may : Bool) → may_help k t ≡ may → (result : Answer) (other' : Rack) → Helps may s k (behind t p) result into other' → Reading s k (shown p) result into (shown (after result))
  helps_reading false may result other' (is, left) = rw is reads_badly
  helps_reading true may (Ok u) other' (is, block, left) =
      reads_well u (block_helped into may (told_there (behind t p) (of_other t a b) into (other_at s t p a b at.first at.second) block))
  helps_reading true may (Err ReadFailed) other' is = reads_badly
  helps_reading true may (Err WriteFailed) other' is = absurd is
  helps_reading true may (Err NoTape) other' is = absurd (refused_never (reel s (behind t p).reels) NoTape (other_free may) is.0)
  helps_reading true may (Err NotMounted) other' is = absurd (refused_never (reel s (behind t p).reels) NotMounted (other_free may) is.0)
  helps_reading true may (Err End) other' is = absurd (refused_never (reel s (behind t p).reels) End (other_free may) is.0)

  asked_reading : (answer result : Answer) (block : List ℕ) (lead' other' : Rack) → Reading s k (leading t p) answer block lead' → ReadsOn (may_help k t) s k answer block (behind t p) result into other'
      → Reading s k (shown p) result into (shown (after result))
  asked_reading (Ok u) result block lead' other' (is, told, left) (answered, into_is, still) =
      rw answered (reads_well u (block_seen into (told_there (leading t p) (of_leader t a b) into (leader_at s t p a b at.first at.second) (rw into_is told))))
  asked_reading (Err ReadFailed) result block lead' other' is on = helps_reading (may_help k t) refl result other' on
  asked_reading (Err WriteFailed) result block lead' other' is on = absurd is
  asked_reading (Err NoTape) result block lead' other' is on = absurd (refused_never (reel s (leading t p).reels) NoTape lead_free is.0)
  asked_reading (Err NotMounted) result block lead' other' is on = absurd (refused_never (reel s (leading t p).reels) NotMounted lead_free is.0)
  asked_reading (Err End) result block lead' other' is on = absurd (refused_never (reel s (leading t p).reels) End lead_free is.0)

-- a standing is one
pub one_standing : (t u : Standing) (o : Option Standing) → o ≡ Some t → o ≡ Some u → t ≡ u
one_standing t u o one two = cc

-- A READ, whole
pub pair_reads : (s k : ℕ) (p : Pair) (t : Standing) (first' second' : Rack) (result : Answer) (into : List ℕ)
    → ArePaired p.standings p.first.reels p.second.reels → standing_in s p ≡ Some t → refuses_read k (reel s (shown p).reels) ≡ None
    → HasAsked (may_help k t) s k (leading t p) (behind t p) result into (of_leader t first' second') (of_other t first' second')
    → PairReads s k p result into (record p { first = first'; second = second'; read_faults = counted result p.read_faults })
pair_reads s k p t first' second' result into paired stands free asked =
    let (a, b, twins, at) = at_standing s t p.standings p.first.reels p.second.reels paired stands in
    let (answer, block, reading, on) = asked in
    let (lead_only, other_only) = both_only (may_help k t) s k (leading t p) (behind t p) (of_leader t first' second') (of_other t first' second') result into asked in
    let (lead_risks, other_risks) = both_same_risks (may_help k t) s k (leading t p) (behind t p) (of_leader t first' second') (of_other t first' second') result into asked in
    let one : OnlyReads p.first first' = to_first OnlyReads t p.first p.second first' second' lead_only other_only in
    let two : OnlyReads p.second second' = to_second OnlyReads t p.first p.second first' second' lead_only other_only in
    let same = seen_unread p.standings p.first.reels p.second.reels first'.reels second'.reels one.reels two.reels in
    record {
      reading = asked_reading s k p t a b first' second' into twins at (seen_at s t a b p.standings p.first.reels p.second.reels paired at) free same
          (to_first SameRisks t p.first p.second first' second' lead_risks other_risks) (to_second SameRisks t p.first p.second first' second' lead_risks other_risks)
          answer result block (of_leader t first' second') (of_other t first' second') reading on;
      asked = λ free' u stands'.
          subst (λ (v : Standing). HasAsked (may_help k v) s k (leading v p) (behind v p) result into (of_leader v first' second') (of_other v first' second'))
          (one_standing t u (standing_in s p) stands stands') asked;
      kept = refl;
      refused = λ fault is. absurd (let never : None ≡ Some fault = sym free ∙ is in cc);
    }

-- what holds of each refusal holds of one
pub by_refusal : (P : TapeFault → Type 0) (fault : TapeFault) → (fault ≡ NoTape) ⊎ (fault ≡ NotMounted) ⊎ (fault ≡ End) → P NoTape → P NotMounted → P End → P fault
by_refusal P fault (inl is) no_tape not_mounted end = subst P (sym is) no_tape
by_refusal P fault (inr (inl is)) no_tape not_mounted end = subst P (sym is) not_mounted
by_refusal P fault (inr (inr is)) no_tape not_mounted end = subst P (sym is) end

-- a read that is refused
refused_reading : (s k : ℕ) (p : Rack) (fault : TapeFault) (into : List ℕ) → (fault ≡ NoTape) ⊎ (fault ≡ NotMounted) ⊎ (fault ≡ End) → refuses_read k (reel s p.reels) ≡ Some fault
    → Reading s k p (Err fault) into p
refused_reading s k p fault into of =
    by_refusal (λ (f : TapeFault). refuses_read k (reel s p.reels) ≡ Some f → Reading s k p (Err f) into p) fault of (λ is. (is, refl)) (λ is. (is, refl)) (λ is. (is, refl))

pub pair_refuses_read : (s k : ℕ) (p : Pair) (fault : TapeFault) (into : List ℕ) → refuses_read k (reel s (shown p).reels) ≡ Some fault → PairReads s k p (Err fault) into p
pair_refuses_read s k p fault into is = record {
  reading = refused_reading s k (shown p) fault into (refused_read k (reel s (shown p).reels) fault is) is;
  asked = λ free. absurd (let never : None ≡ Some fault = sym free ∙ is in cc);
  kept = refl;
  refused = λ other is'. refl;
}

-- A read of a serial that the rack doesn't have.
pub pair_reads_none : (s k : ℕ) (p : Pair) (into : List ℕ) → reel s (shown p).reels ≡ None → PairReads s k p (Err NoTape) into p
pair_reads_none s k p into none = pair_refuses_read s k p NoTape into (ap (refuses_read k) none)

-- a read only reads both racks
pub read_keeps : (s k : ℕ) (p : Pair) (t : Standing) (first' second' : Rack) (result : Answer) (into : List ℕ)
    → HasAsked (may_help k t) s k (leading t p) (behind t p) result into (of_leader t first' second') (of_other t first' second') → OnlyReads p.first first' × OnlyReads p.second second'
read_keeps s k p t first' second' result into asked =
    let (lead_only, other_only) = both_only (may_help k t) s k (leading t p) (behind t p) (of_leader t first' second') (of_other t first' second') result into asked in
    (to_first OnlyReads t p.first p.second first' second' lead_only other_only, to_second OnlyReads t p.first p.second first' second' lead_only other_only)
