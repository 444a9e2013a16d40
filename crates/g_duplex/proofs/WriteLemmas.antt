-- A write of paired reels.
-- serves: write, CopyLemmas, LoseLemmas, SecureLemmas
use Rattle.std.proofs.Common.{◌≡◌, ◌≢◌, ◌⊎◌, ◌↔◌, ℕ, ◌+◌, List, [], ◌∷◌, ◌++◌, Bool, true, false, not, ◌&&◌, ◌||◌, ◌==◌, nat_le, nat_lt, Option, Some, None, is_some, option_map, Ok, Err, if◌then◌else◌, IsTrue, take, refl, sym, subst, ap, ◌∙◌, inl, inr, arith}
use Rattle.std.proofs.lemmas.Bool.{ltb-false}
use Rattle.g_base.specs.Counts.{one_more}
use Rattle.g_base.specs.Fuse.{burnt}
use Rattle.g_tape.specs.declared.fault.TapeFault.{TapeFault}
use Rattle.g_tape.specs.declared.fault.TapeFault.TheVariants.{NoTape, NotMounted, End, ReadFailed, WriteFailed}
use Rattle.g_tape.specs.Reel.{IsReel, Reel, Remains, Shortened, Torn, Unchanged, ending, left_by}
use Rattle.g_tape.specs.Rack.{AreReels, Rack, Writing, changed, reel, refuses_write, with_reel}
use Rattle.g_tape.specs.Durable.{OthersAsDurable, WritesDurably}
use Rattle.g_tape.specs.Risk.{Risk}
use Rattle.g_tape.proofs.ReadLemmas.{is_reel}
use Rattle.g_duplex.specs.Twins.{AreTwins, after_both, after_failure, are_up, is_lost, leader, of_leader, of_other, pair_reel, told_with}
use Rattle.g_duplex.specs.Pair.{ArePaired, Pair, pair_reels, pair_risks, shown, standing, standing_in, with_standing}
use Rattle.g_duplex.specs.Calls.{Answer, Follows, HasWritten, PairWrites, WritesOn, armed_when, behind, counted, is_one, leading, stands_after}
use Rattle.g_duplex.specs.declared.twin.Twin.TheVariants.{First, Second}
use Rattle.g_duplex.specs.declared.twin.Standing.{Standing}
use Rattle.g_duplex.specs.declared.twin.Standing.TheVariants.{Level, Apart, Lost}
use Rattle.g_duplex.proofs.DurableLemmas.{others_shown, refused_durably, write_armed, writes_shown, writing_changes}
use Rattle.g_duplex.proofs.KeepLemmas.{agree_both, agree_failed}
use Rattle.g_duplex.proofs.LossLemmas.{told-first}
use Rattle.g_duplex.proofs.PlaceLemmas.{eq_from}
use Rattle.g_duplex.proofs.PairLemmas.{AreAt, at_standing, pair_changed, paired_changed, same_reels, seen_at}
use Rattle.g_duplex.proofs.ReadLemmas.{first_of, leader_at, leader_up, one_standing, by_refusal, to_first, to_second}

abbrev Blocks : Type 0
Blocks = List (List ℕ)

-- A reel from its parts, whose reads aren't counted.
abbrev shape : ℕ → ℕ → ℕ → Bool → Option Blocks → Reel
shape s c l m bs = record { serial = s; capacity = c; len = l; mounted = m; blocks = bs; times_read = None }

told_map : (f : Blocks → Blocks) (x y : Option Blocks) → told_with (option_map f x) y ≡ option_map f (told_with x y)
told_map f None y = refl
told_map f (Some x) None = refl
told_map f (Some x) (Some y) = refl

told_maps : (f : Blocks → Blocks) (x y : Option Blocks) → told_with (option_map f x) (option_map f y) ≡ option_map f (told_with x y)
told_maps f None y = refl
told_maps f (Some x) None = refl
told_maps f (Some x) (Some y) = refl

some_map : (f : Blocks → Blocks) (x : Option Blocks) → is_some (option_map f x) ≡ is_some x
some_map f None = refl
some_map f (Some x) = refl

-- a write isn't refused by a failure
pub refused_write : (k : ℕ) (o : Option Reel) (fault : TapeFault) → refuses_write k o ≡ Some fault → (fault ≡ NoTape) ⊎ (fault ≡ NotMounted) ⊎ (fault ≡ End)
refused_write k None fault is = let one : Some NoTape ≡ Some fault = is in inl cc
refused_write k (Some r) fault is = by r.mounted (nat_lt r.len k || not (nat_lt k r.capacity)) is
  where
    by : (m x : Bool) → (if m then (if x then Some End else None) else Some NotMounted) ≡ Some fault → (fault ≡ NoTape) ⊎ (fault ≡ NotMounted) ⊎ (fault ≡ End)
    by false x e = inr (inl cc)
    by true true e = inr (inr cc)
    by true false e = absurd (cc)

-- a write that isn't refused is of a mounted reel with the blocks below and room for that one
pub free_write : (k : ℕ) (r : Reel) → refuses_write k (Some r) ≡ None → (r.mounted ≡ true) × (nat_lt r.len k ≡ false) × (nat_lt k r.capacity ≡ true)
free_write k r is = by r.mounted (nat_lt r.len k) (nat_lt k r.capacity) is
  where
    by : (m x y : Bool) → (if m then (if x || not y then Some End else None) else Some NotMounted) ≡ None → (m ≡ true) × (x ≡ false) × (y ≡ true)
    by false x y e = absurd (cc)
    by true true y e = absurd (cc)
    by true false false e = absurd (cc)
    by true false true e = (refl, refl, refl)

pub writes_free : (k : ℕ) (r : Reel) → r.mounted ≡ true → nat_lt r.len k ≡ false → nat_lt k r.capacity ≡ true → refuses_write k (Some r) ≡ None
writes_free k r up long room = rw (up, long, room) refl

-- the twin that leads has the pair's capacity
leader_room : (t : Standing) (a b : Reel) → a.capacity ≡ b.capacity → (of_leader t a b).capacity ≡ a.capacity
leader_room Level a b same = refl
leader_room (Apart k) a b same = refl
leader_room (Lost First) a b same = sym same
leader_room (Lost Second) a b same = refl

armed_reels : (fires : Bool) (r : Rack) → (armed_when fires r).reels ≡ r.reels
armed_reels true r = refl
armed_reels false r = refl

-- If the pair's fuse is 1, the leading rack is armed to fail.
fires_there : (fuse : Option ℕ) (r : Rack) → fuse ≡ Some 1 → (armed_when (is_one fuse) r).fuse ≡ Some 1
fires_there fuse r is = rw is refl

pub fires_one : (fires : Bool) (fuse : Option ℕ) → (IsTrue fires ↔ (fuse ≡ Some 1)) → fires ≡ is_one fuse
fires_one true fuse same = let one : fuse ≡ Some 1 = same.0 refl in rw one refl
fires_one false None same = refl
fires_one false (Some n) same = by (n == 1) refl
  where
    by : (b : Bool) → (n == 1) ≡ b → false ≡ b
    by false is = refl
    by true is = let one : n ≡ 1 = eq_from n 1 is in let never : false ≡ true = same.1 (ap (λ (x : ℕ). Some x) one) in absurd (cc)

-- What a failed write leaves has the same label, and exposes its blocks if they were exposed.
left_label : (how : Remains) (k : ℕ) (a : Reel) → ((left_by how k a).serial ≡ a.serial) × ((left_by how k a).capacity ≡ a.capacity) × (is_some (left_by how k a).blocks ≡ is_some a.blocks)
left_label Unchanged k a = (refl, refl, refl)
left_label Shortened k a = (refl, refl, some_map (take k) a.blocks)
left_label (Torn block) k a = (refl, refl, some_map (λ bs. take k bs ++ block ∷ []) a.blocks)

-- WHAT IS SEEN: a leading twin that is left torn
seen_left : (how : Remains) (k : ℕ) (t : Standing) (a b : Reel)
    → pair_reel (after_failure k t) (of_leader t (left_by how k) (λ (r : Reel). r) a) (of_other t (left_by how k) (λ (r : Reel). r) b) ≡ left_by how k (pair_reel t a b)
seen_left Unchanged k Level a b = refl
seen_left Unchanged k (Apart j) a b = refl
seen_left Unchanged k (Lost First) a b = refl
seen_left Unchanged k (Lost Second) a b = refl
seen_left Shortened k Level a b = ap (shape a.serial a.capacity k (a.mounted && b.mounted)) (told_map (take k) a.blocks b.blocks)
seen_left Shortened k (Apart j) a b = ap (shape a.serial a.capacity k (a.mounted && b.mounted)) (told_map (take k) a.blocks b.blocks)
seen_left Shortened k (Lost First) a b = ap (shape a.serial a.capacity k b.mounted) (told_map (take k) b.blocks a.blocks)
seen_left Shortened k (Lost Second) a b = ap (shape a.serial a.capacity k a.mounted) (told_map (take k) a.blocks b.blocks)
seen_left (Torn c) k Level a b = ap (shape a.serial a.capacity (k + 1) (a.mounted && b.mounted)) (told_map (λ bs. take k bs ++ c ∷ []) a.blocks b.blocks)
seen_left (Torn c) k (Apart j) a b = ap (shape a.serial a.capacity (k + 1) (a.mounted && b.mounted)) (told_map (λ bs. take k bs ++ c ∷ []) a.blocks b.blocks)
seen_left (Torn c) k (Lost First) a b = ap (shape a.serial a.capacity (k + 1) b.mounted) (told_map (λ bs. take k bs ++ c ∷ []) b.blocks a.blocks)
seen_left (Torn c) k (Lost Second) a b = ap (shape a.serial a.capacity (k + 1) a.mounted) (told_map (λ bs. take k bs ++ c ∷ []) a.blocks b.blocks)

-- The leading twin completed the write, and the other one is lost.
seen_alone : (k : ℕ) (block : List ℕ) (t : Standing) (a b : Reel) → is_lost t ≡ true
    → pair_reel t (of_leader t (ending k block) (λ (r : Reel). r) a) (of_other t (ending k block) (λ (r : Reel). r) b) ≡ ending k block (pair_reel t a b)
seen_alone k block Level a b lost = let never : false ≡ true = lost in absurd (cc)
seen_alone k block (Apart j) a b lost = let never : false ≡ true = lost in absurd (cc)
seen_alone k block (Lost First) a b lost = ap (shape a.serial a.capacity (k + 1) b.mounted) (told_map (λ bs. take k bs ++ block ∷ []) b.blocks a.blocks)
seen_alone k block (Lost Second) a b lost = ap (shape a.serial a.capacity (k + 1) a.mounted) (told_map (λ bs. take k bs ++ block ∷ []) a.blocks b.blocks)

-- both that took it
seen_both : (k : ℕ) (block : List ℕ) (t : Standing) (a b : Reel) → is_lost t ≡ false → pair_reel (after_both k t) (ending k block a) (ending k block b) ≡ ending k block (pair_reel t a b)
seen_both k block Level a b well = ap (shape a.serial a.capacity (k + 1) (a.mounted && b.mounted)) (told_maps (λ bs. take k bs ++ block ∷ []) a.blocks b.blocks)
seen_both k block (Apart j) a b well = by (nat_le k j)
  where
    by : (c : Bool) → pair_reel (if c then Level else Apart j) (ending k block a) (ending k block b) ≡ ending k block (pair_reel (Apart j) a b)
    by true = ap (shape a.serial a.capacity (k + 1) (a.mounted && b.mounted)) (told_maps (λ bs. take k bs ++ block ∷ []) a.blocks b.blocks)
    by false = ap (shape a.serial a.capacity (k + 1) (a.mounted && b.mounted)) (told_maps (λ bs. take k bs ++ block ∷ []) a.blocks b.blocks)
seen_both k block (Lost twin) a b well = let never : true ≡ false = well in absurd (cc)

-- The first twin completed the write, and the second is lost by it.
seen_losing : (k : ℕ) (block : List ℕ) (t : Standing) (a b b' : Reel) → is_lost t ≡ false → are_up t a.mounted b.mounted ≡ true → is_some b'.blocks ≡ is_some b.blocks
    → pair_reel (Lost Second) (ending k block a) b' ≡ ending k block (pair_reel t a b)
seen_losing k block t a b b' well up told =
    ap (shape a.serial a.capacity (k + 1) a.mounted)
    (told_map (λ bs. take k bs ++ block ∷ []) a.blocks b'.blocks ∙ ap (option_map (λ bs. take k bs ++ block ∷ [])) (told-first a.blocks b.blocks b'.blocks told))
    ∙ by t well up
  where
    by : (u : Standing) → is_lost u ≡ false → are_up u a.mounted b.mounted ≡ true
        → shape a.serial a.capacity (k + 1) a.mounted (option_map (λ bs. take k bs ++ block ∷ []) (told_with a.blocks b.blocks)) ≡ ending k block (pair_reel u a b)
    by Level w is = ap (λ (m : Bool). shape a.serial a.capacity (k + 1) m (option_map (λ bs. take k bs ++ block ∷ []) (told_with a.blocks b.blocks))) (first_of a.mounted b.mounted is ∙ sym is)
    by (Apart j) w is = ap (λ (m : Bool). shape a.serial a.capacity (k + 1) m (option_map (λ bs. take k bs ++ block ∷ []) (told_with a.blocks b.blocks))) (first_of a.mounted b.mounted is ∙ sym is)
    by (Lost twin) w is = let never : true ≡ false = w in absurd (cc)

-- WHAT IS DONE at one serial is done to the racks
module _ (s : ℕ) (t u : Standing) (a b : Reel) (g h f : Reel → Reel) (ts : List Standing) (xs ys : List Reel) (at : AreAt s t a b ts xs ys) (paired : ArePaired ts xs ys) where
  one_reel : (o : Option Reel) (x y : Reel) → o ≡ Some x → o ≡ Some y → x ≡ y
  one_reel o x y one two = cc

  done_seen : (xs' ys' : List Reel) → xs' ≡ with_reel s g xs → ys' ≡ with_reel s h ys → pair_reel u (g a) (h b) ≡ f (pair_reel t a b)
      → pair_reels (with_standing s (λ (v : Standing). u) xs ts) xs' ys' ≡ with_reel s f (pair_reels ts xs ys)
  done_seen xs' ys' one two seen = rw (one, two) (pair_changed s g h f (λ (v : Standing). u) ts xs ys paired (λ t' a' b' twins at'.
      let same : t ≡ t' = one_standing t t' (standing s xs ts) at.standing at'.standing in
      let first : a ≡ a' = one_reel (reel s xs) a a' at.first at'.first in
      let second : b ≡ b' = one_reel (reel s ys) b b' at.second at'.second in
      rw (← same, ← first, ← second) seen))

  done_paired : (xs' ys' : List Reel) → xs' ≡ with_reel s g xs → ys' ≡ with_reel s h ys → AreTwins u (g a) (h b) → ArePaired (with_standing s (λ (v : Standing). u) xs ts) xs' ys'
  done_paired xs' ys' one two is = rw (one, two) (paired_changed s g h (λ (v : Standing). u) ts xs ys paired (λ t' a' b' twins at'.
      let first : a ≡ a' = one_reel (reel s xs) a a' at.first at'.first in
      let second : b ≡ b' = one_reel (reel s ys) b b' at.second at'.second in
      rw (← first, ← second) is))

-- the changes of the racks by who leads
both_changed : (s : ℕ) (t : Standing) (p : Pair) (f' g' : Rack) (g h : Reel → Reel) → (of_leader t f' g').reels ≡ with_reel s g (leading t p).reels
    → (of_other t f' g').reels ≡ with_reel s h (behind t p).reels → (f'.reels ≡ with_reel s (of_leader t g h) p.first.reels) × (g'.reels ≡ with_reel s (of_other t g h) p.second.reels)
both_changed s Level p f' g' g h one two = (one, two)
both_changed s (Apart k) p f' g' g h one two = (one, two)
both_changed s (Lost First) p f' g' g h one two = (two, one)
both_changed s (Lost Second) p f' g' g h one two = (one, two)

-- TWINS after a write
twins_left : (how : Remains) (k : ℕ) (t : Standing) (a b : Reel) → AreTwins t a b → IsReel a → nat_lt (of_leader t a b).len k ≡ false
    → AreTwins (after_failure k t) (of_leader t (left_by how k) (λ (r : Reel). r) a) (of_other t (left_by how k) (λ (r : Reel). r) b)
twins_left how k Level a b twins is far =
    let label = left_label how k a in
    record { serial = label.0 ∙ twins.serial; capacity = label.1 ∙ twins.capacity; agree = agree_failed k how Level a b is (omega (arith, ltb-false a.len k far)) twins.agree }
twins_left how k (Apart j) a b twins is far =
    let label = left_label how k a in
    record { serial = label.0 ∙ twins.serial; capacity = label.1 ∙ twins.capacity; agree = agree_failed k how (Apart j) a b is (omega (arith, ltb-false a.len k far)) twins.agree }
twins_left how k (Lost First) a b twins is far =
    let label = left_label how k b in
    record { serial = twins.serial ∙ sym label.0; capacity = twins.capacity ∙ sym label.1; agree = tt }
twins_left how k (Lost Second) a b twins is far =
    let label = left_label how k a in
    record { serial = label.0 ∙ twins.serial; capacity = label.1 ∙ twins.capacity; agree = tt }

twins_alone : (k : ℕ) (block : List ℕ) (t : Standing) (a b : Reel) → is_lost t ≡ true → AreTwins t a b
    → AreTwins t (of_leader t (ending k block) (λ (r : Reel). r) a) (of_other t (ending k block) (λ (r : Reel). r) b)
twins_alone k block Level a b lost twins = let never : false ≡ true = lost in absurd (cc)
twins_alone k block (Apart j) a b lost twins = let never : false ≡ true = lost in absurd (cc)
twins_alone k block (Lost First) a b lost twins = record { serial = twins.serial; capacity = twins.capacity; agree = tt }
twins_alone k block (Lost Second) a b lost twins = record { serial = twins.serial; capacity = twins.capacity; agree = tt }

-- If neither twin is lost, the first one leads.
led_first : (t : Standing) {X : Type 0} (x y : X) → is_lost t ≡ false → (of_leader t x y ≡ x) × (of_other t x y ≡ y)
led_first Level x y well = (refl, refl)
led_first (Apart k) x y well = (refl, refl)
led_first (Lost twin) x y well = let never : true ≡ false = well in absurd (cc)

-- THE WRITE of a pair that isn't refused
pub record WriteDone (s k : ℕ) (block : List ℕ) (p : Pair) (result : Answer) (after : Standing) (first' second' : Rack) : Type 0 where
  pub writing : Writing s k block (shown p) result (shown (record p {
    first = first';
    second = second';
    standings = with_standing s (λ (v : Standing). after) p.first.reels p.standings;
    write_faults = counted result p.write_faults;
    fuse = burnt p.fuse;
  }))
  pub paired : ArePaired (with_standing s (λ (v : Standing). after) p.first.reels p.standings) first'.reels second'.reels

module _ (s k : ℕ) (block : List ℕ) (p : Pair) (t : Standing) (a b : Reel) (first' second' : Rack)
    (twins : AreTwins t a b) (at : AreAt s t a b p.standings p.first.reels p.second.reels) (paired : ArePaired p.standings p.first.reels p.second.reels)
    (is : IsReel a) (is' : IsReel b) (free : refuses_write k (reel s (shown p).reels) ≡ None) where
  abbrev stands_then : Standing → List Standing
  stands_then u = with_standing s (λ (v : Standing). u) p.first.reels p.standings

  abbrev risks_then : Standing → List Risk
  risks_then u = pair_risks (stands_then u) (pair_reels (stands_then u) first'.reels second'.reels) first'.risks second'.risks

  seen : reel s (shown p).reels ≡ Some (pair_reel t a b)
  seen = seen_at s t a b p.standings p.first.reels p.second.reels paired at

  is_free : (are_up t a.mounted b.mounted ≡ true) × (nat_lt (of_leader t a b).len k ≡ false) × (nat_lt k a.capacity ≡ true)
  is_free = free_write k (pair_reel t a b) (sym (ap (refuses_write k) seen) ∙ free)

  lead_free : refuses_write k (reel s (armed_when (is_one p.fuse) (leading t p)).reels) ≡ None
  lead_free =
      ap (λ (rs : List Reel). refuses_write k (reel s rs)) (armed_reels (is_one p.fuse) (leading t p))
      ∙ ap (refuses_write k) (leader_at s t p a b at.first at.second)
      ∙ writes_free k (of_leader t a b) (leader_up t a b is_free.0) is_free.1 (ap (nat_lt k) (leader_room t a b twins.capacity) ∙ is_free.2)

  refused_never : (o : Option Reel) (fault : TapeFault) → refuses_write k o ≡ None → refuses_write k o ≡ Some fault → ⊥
  refused_never o fault one two = cc

  -- The leading rack's reels after a successful write, and after a failed one.
  lead_ends : (lead' : Rack) (n : ℕ) (fuse : Option ℕ) → lead' ≡ record (changed s (ending k block) (armed_when (is_one p.fuse) (leading t p))) { fuse = fuse; risks = lead'.risks } → lead'.reels ≡ with_reel s (ending k block) (leading t p).reels
  lead_ends lead' n fuse e = ap (λ (r : Rack). r.reels) e ∙ ap (with_reel s (ending k block)) (armed_reels (is_one p.fuse) (leading t p))

  lead_left : (lead' : Rack) (how : Remains) (n : ℕ) (fuse : Option ℕ) → lead' ≡ record (changed s (left_by how k) (armed_when (is_one p.fuse) (leading t p))) { write_faults = n; fuse = fuse; risks = lead'.risks }
      → lead'.reels ≡ with_reel s (left_by how k) (leading t p).reels
  lead_left lead' how n fuse e = ap (λ (r : Rack). r.reels) e ∙ ap (with_reel s (left_by how k)) (armed_reels (is_one p.fuse) (leading t p))

  -- the other rack stays
  stays : (other' : Rack) → other' ≡ behind t p → other'.reels ≡ with_reel s (λ (r : Reel). r) (behind t p).reels
  stays other' e = ap (λ (r : Rack). r.reels) e ∙ sym (same_reels s (behind t p).reels)

  not_one : (armed_when (is_one p.fuse) (leading t p)).fuse ≢ Some 1 → p.fuse ≢ Some 1
  not_one apart one = apart (fires_there p.fuse (leading t p) one)

  -- A successful write, in terms of what the two reels show.
  well : (u : Standing) (g h : Reel → Reel) → (armed_when (is_one p.fuse) (leading t p)).fuse ≢ Some 1 → first'.reels ≡ with_reel s g p.first.reels → second'.reels ≡ with_reel s h p.second.reels
      → pair_reel u (g a) (h b) ≡ ending k block (pair_reel t a b) → AreTwins u (g a) (h b) → WriteDone s k block p (Ok tt) u first' second'
  well u g h apart one two same now = record {
    writing = (
      free,
      not_one apart,
      ap (λ (rs : List Reel). let r : Rack = record (shown p) { reels = rs; fuse = burnt p.fuse; risks = risks_then u } in r)
          (done_seen s t u a b g h (ending k block) p.standings p.first.reels p.second.reels at paired first'.reels second'.reels one two same),
    );
    paired = done_paired s t u a b g h (ending k block) p.standings p.first.reels p.second.reels at paired first'.reels second'.reels one two now;
  }

  badly : (how : Remains) → first'.reels ≡ with_reel s (of_leader t (left_by how k) (λ (r : Reel). r)) p.first.reels → second'.reels ≡ with_reel s (of_other t (left_by how k) (λ (r : Reel). r)) p.second.reels
      → WriteDone s k block p (Err WriteFailed) (after_failure k t) first' second'
  badly how one two = record {
    writing = (
      free,
      record { more = omega arith },
      (
        how,
        ap (λ (rs : List Reel). let r : Rack = record (shown p) { reels = rs; write_faults = one_more p.write_faults; fuse = burnt p.fuse; risks = risks_then (after_failure k t) } in r)
            (done_seen s t (after_failure k t) a b (of_leader t (left_by how k) (λ (r : Reel). r)) (of_other t (left_by how k) (λ (r : Reel). r)) (left_by how k)
            p.standings p.first.reels p.second.reels at paired first'.reels second'.reels one two (seen_left how k t a b)),
      ),
    );
    paired = done_paired s t (after_failure k t) a b (of_leader t (left_by how k) (λ (r : Reel). r)) (of_other t (left_by how k) (λ (r : Reel). r)) (left_by how k)
        p.standings p.first.reels p.second.reels at paired first'.reels second'.reels one two (twins_left how k t a b twins is is_free.1);
  }

  -- the first took it, and the second is lost
  losing : (h : Reel → Reel) → is_lost t ≡ false → (armed_when (is_one p.fuse) (leading t p)).fuse ≢ Some 1 → first'.reels ≡ with_reel s (ending k block) p.first.reels
      → second'.reels ≡ with_reel s h p.second.reels → ((h b).serial ≡ b.serial) × ((h b).capacity ≡ b.capacity) × (is_some (h b).blocks ≡ is_some b.blocks)
      → WriteDone s k block p (Ok tt) (Lost Second) first' second'
  losing h fine apart one two label =
      well (Lost Second) (ending k block) h apart one two (seen_losing k block t a b (h b) fine is_free.0 label.2)
      (record { serial = twins.serial ∙ sym label.0; capacity = twins.capacity ∙ sym label.1; agree = tt })

  -- The second twin's answer, after the first completed the write.
  both_write : is_lost t ≡ false → (armed_when (is_one p.fuse) (leading t p)).fuse ≢ Some 1 → first'.reels ≡ with_reel s (ending k block) p.first.reels → (answer : Answer) → Writing s k block p.second answer second'
      → WriteDone s k block p (Ok tt) (stands_after k answer t) first' second'
  both_write fine apart one (Ok u) (free', apart', left) =
      let far = free_write k b (sym (ap (refuses_write k) at.second) ∙ free') in
      let lead : (of_leader t a b).len ≡ a.len = ap (λ (r : Reel). r.len) (led_first t a b fine).0 in
      let long : nat_lt a.len k ≡ false = ap (λ (n : ℕ). nat_lt n k) (sym lead) ∙ is_free.1 in
      well (after_both k t) (ending k block) (ending k block) apart one (ap (λ (r : Rack). r.reels) left) (seen_both k block t a b fine)
      (record {
        serial = twins.serial;
        capacity = twins.capacity;
        agree = agree_both k block t a b is is' (omega (arith, ltb-false a.len k long)) (omega (arith, ltb-false b.len k far.1)) twins.agree;
      })
  both_write fine apart one (Err WriteFailed) (free', rose, (how, left)) = losing (left_by how k) fine apart one (ap (λ (r : Rack). r.reels) left) (left_label how k b)
  both_write fine apart one (Err ReadFailed) wrong = absurd wrong
  both_write fine apart one (Err NoTape) (refused, left) =
      losing (λ (r : Reel). r) fine apart one (ap (λ (r : Rack). r.reels) left ∙ sym (same_reels s p.second.reels)) (refl, refl, refl)
  both_write fine apart one (Err NotMounted) (refused, left) =
      losing (λ (r : Reel). r) fine apart one (ap (λ (r : Rack). r.reels) left ∙ sym (same_reels s p.second.reels)) (refl, refl, refl)
  both_write fine apart one (Err End) (refused, left) =
      losing (λ (r : Reel). r) fine apart one (ap (λ (r : Rack). r.reels) left ∙ sym (same_reels s p.second.reels)) (refl, refl, refl)

  -- After the leading twin completed the write.
  follow : (lost : Bool) → is_lost t ≡ lost → (after : Standing) → (armed_when (is_one p.fuse) (leading t p)).fuse ≢ Some 1
      → (of_leader t first' second').reels ≡ with_reel s (ending k block) (leading t p).reels → Follows lost s k block t (behind t p) (of_other t first' second') after
      → WriteDone s k block p (Ok tt) after first' second'
  follow true lost after apart lead (left, stands) =
      let other = stays (of_other t first' second') left in
      let racks = both_changed s t p first' second' (ending k block) (λ (r : Reel). r) lead other in
      rw stands (well t (of_leader t (ending k block) (λ (r : Reel). r)) (of_other t (ending k block) (λ (r : Reel). r)) apart
      racks.0 racks.1 (seen_alone k block t a b lost) (twins_alone k block t a b lost twins))
  follow false fine after apart lead (answer, writing, stands) =
      let first_is : of_leader t first' second' ≡ first' = (led_first t first' second' fine).0 in
      let second_is : of_other t first' second' ≡ second' = (led_first t first' second' fine).1 in
      let old_first : leading t p ≡ p.first = (led_first t p.first p.second fine).0 in
      let old_second : behind t p ≡ p.second = (led_first t p.first p.second fine).1 in
      let one : first'.reels ≡ with_reel s (ending k block) p.first.reels =
      ap (λ (r : Rack). r.reels) (sym first_is) ∙ lead ∙ ap (λ (r : Rack). with_reel s (ending k block) r.reels) old_first in
      let two : Writing s k block p.second answer second' =
      subst (λ (r : Rack). Writing s k block p.second answer r) second_is (subst (λ (r : Rack). Writing s k block r answer (of_other t first' second')) old_second writing) in
      rw stands (both_write fine apart one answer two)

  written : (answer result : Answer) (after : Standing) → Writing s k block (armed_when (is_one p.fuse) (leading t p)) answer (of_leader t first' second')
      → WritesOn s k block t answer (behind t p) result (of_other t first' second') after → WriteDone s k block p result after first' second'
  written (Ok u) result after (free', apart, left) (answered, on) =
      rw answered (follow (is_lost t) refl after apart (lead_ends (of_leader t first' second') 0 (burnt (armed_when (is_one p.fuse) (leading t p)).fuse) left) on)
  written (Err WriteFailed) result after (free', rose, (how, left)) (answered, other, stands) =
      let lead = lead_left (of_leader t first' second') how (of_leader t first' second').write_faults (burnt (armed_when (is_one p.fuse) (leading t p)).fuse) left in
      let still = stays (of_other t first' second') other in
      let racks = both_changed s t p first' second' (left_by how k) (λ (r : Reel). r) lead still in
      rw (answered, stands) (badly how racks.0 racks.1)
  written (Err ReadFailed) result after wrong on = absurd wrong
  written (Err NoTape) result after (refused, left) on = absurd (refused_never (reel s (armed_when (is_one p.fuse) (leading t p)).reels) NoTape lead_free refused)
  written (Err NotMounted) result after (refused, left) on = absurd (refused_never (reel s (armed_when (is_one p.fuse) (leading t p)).reels) NotMounted lead_free refused)
  written (Err End) result after (refused, left) on = absurd (refused_never (reel s (armed_when (is_one p.fuse) (leading t p)).reels) End lead_free refused)

-- WHO LEADS doesn't change.
led_after_failure : (k : ℕ) (t : Standing) → leader (after_failure k t) ≡ leader t
led_after_failure k Level = refl
led_after_failure k (Apart j) = refl
led_after_failure k (Lost twin) = refl

led_after_both : (k : ℕ) (t : Standing) → leader (after_both k t) ≡ leader t
led_after_both k Level = refl
led_after_both k (Apart j) = by (nat_le k j)
  where
    by : (c : Bool) → leader (if c then Level else Apart j) ≡ First
    by true = refl
    by false = refl
led_after_both k (Lost twin) = refl

pub leads_well : (t : Standing) → is_lost t ≡ false → First ≡ leader t
leads_well Level well = refl
leads_well (Apart k) well = refl
leads_well (Lost twin) well = let never : true ≡ false = well in absurd (cc)

led_after : (k : ℕ) (answer : Answer) (t : Standing) → is_lost t ≡ false → leader (stands_after k answer t) ≡ leader t
led_after k (Ok u) t well = led_after_both k t
led_after k (Err fault) t well = leads_well t well

led_follows : (lost : Bool) (s k : ℕ) (block : List ℕ) (t after : Standing) (old new : Rack) → is_lost t ≡ lost → Follows lost s k block t old new after → leader after ≡ leader t
led_follows true s k block t after old new lost (left, stands) = ap leader stands
led_follows false s k block t after old new well (answer, writing, stands) = ap leader stands ∙ led_after k answer t well

led_on : (s k : ℕ) (block : List ℕ) (t after : Standing) (answer result : Answer) (old new : Rack) → WritesOn s k block t answer old result new after → leader after ≡ leader t
led_on s k block t after (Ok u) result old new (answered, on) = led_follows (is_lost t) s k block t after old new refl on
led_on s k block t after (Err fault) result old new (answered, left, stands) = ap leader stands ∙ led_after_failure k t

-- arming changes no risk
others_armed : (fires : Bool) (s : ℕ) (old new : Rack) → OthersAsDurable s (armed_when fires old) new → OthersAsDurable s old new
others_armed true s old new others = others
others_armed false s old new others = others

-- A WRITE, whole
pub write_done : (s k : ℕ) (block : List ℕ) (p : Pair) (t : Standing) (first' second' : Rack) (result : Answer) (after : Standing) → AreReels p.first.reels → AreReels p.second.reels
    → ArePaired p.standings p.first.reels p.second.reels → standing_in s p ≡ Some t → refuses_write k (reel s (shown p).reels) ≡ None
    → HasWritten (is_one p.fuse) t s k block (leading t p) (behind t p) result after (of_leader t first' second') (of_other t first' second') → WriteDone s k block p result after first' second'
write_done s k block p t first' second' result after are are' paired stands free (answer, lead, on) =
    let (a, b, twins, at) = at_standing s t p.standings p.first.reels p.second.reels paired stands in
    written s k block p t a b first' second' twins at paired (is_reel s p.first.reels a are.each at.first) (is_reel s p.second.reels b are'.each at.second) free answer result after lead on

-- What survives of it: the leading twin wrote durably, and the other rack's other reels are as durable as before.
pub record TwinsSurvive (s k : ℕ) (block : List ℕ) (fires : Bool) (t : Standing) (p : Pair) (result : Answer) (first' second' : Rack) : Type 0 where
  pub durable : WritesDurably s k block (armed_when fires (leading t p)) result (of_leader t first' second')
  pub others : OthersAsDurable s (behind t p) (of_other t first' second')

write_survives : (s k : ℕ) (block : List ℕ) (p : Pair) (t : Standing) (first' second' : Rack) (result : Answer) (after : Standing) → AreReels p.first.reels → AreReels p.second.reels
    → ArePaired p.standings p.first.reels p.second.reels → standing_in s p ≡ Some t → refuses_write k (reel s (shown p).reels) ≡ None
    → HasWritten (is_one p.fuse) t s k block (leading t p) (behind t p) result after (of_leader t first' second') (of_other t first' second')
    → TwinsSurvive s k block (is_one p.fuse) t p result first' second'
    → WritesDurably s k block (shown p) result (shown (record p {
      first = first';
      second = second';
      standings = with_standing s (λ (v : Standing). after) p.first.reels p.standings;
      write_faults = counted result p.write_faults;
      fuse = burnt p.fuse;
    }))
write_survives s k block p t first' second' result after are are' paired stands free written survive =
    let q : Pair = record p {
      first = first';
      second = second';
      standings = with_standing s (λ (v : Standing). after) p.first.reels p.standings;
      write_faults = counted result p.write_faults;
      fuse = burnt p.fuse;
    } in
    let done = write_done s k block p t first' second' result after are are' paired stands free written in
    let (a, b, twins, at) = at_standing s t p.standings p.first.reels p.second.reels paired stands in
    let (answer, lead, on) = written in
    let led = led_on s k block t after answer result (behind t p) (of_other t first' second') on in
    let changes = writing_changes s k block (shown p) (shown q) result done.writing in
    let lead_others = others_armed (is_one p.fuse) s (leading t p) (of_leader t first' second') survive.durable.others in
    let others = others_shown s p q t after paired done.paired stands refl led changes
    (to_first (OthersAsDurable s) t p.first p.second first' second' lead_others survive.others) (to_second (OthersAsDurable s) t p.first p.second first' second' lead_others survive.others) in
    let free' = lead_free s k block p t a b first' second' twins at paired (is_reel s p.first.reels a are.each at.first) (is_reel s p.second.reels b are'.each at.second) free in
    writes_shown s p q t after paired done.paired stands refl led changes k block result others (write_armed (is_one p.fuse) s k block (leading t p) (of_leader t first' second') result free' survive.durable)

pub pair_writes : (s k : ℕ) (block : List ℕ) (p : Pair) (t : Standing) (first' second' : Rack) (result : Answer) (after : Standing) → AreReels p.first.reels → AreReels p.second.reels
    → ArePaired p.standings p.first.reels p.second.reels → standing_in s p ≡ Some t → refuses_write k (reel s (shown p).reels) ≡ None
    → HasWritten (is_one p.fuse) t s k block (leading t p) (behind t p) result after (of_leader t first' second') (of_other t first' second')
    → TwinsSurvive s k block (is_one p.fuse) t p result first' second'
    → PairWrites s k block p result (record p {
      first = first';
      second = second';
      standings = with_standing s (λ (v : Standing). after) p.first.reels p.standings;
      write_faults = counted result p.write_faults;
      fuse = burnt p.fuse;
    })
pair_writes s k block p t first' second' result after are are' paired stands free written survive = record {
  writing = (write_done s k block p t first' second' result after are are' paired stands free written).writing;
  durable = write_survives s k block p t first' second' result after are are' paired stands free written survive;
  asked = λ free' u stands'. (
    after,
    subst (λ (v : Standing). HasWritten (is_one p.fuse) v s k block (leading v p) (behind v p) result after (of_leader v first' second') (of_other v first' second'))
        (one_standing t u (standing_in s p) stands stands') written,
    refl,
  );
  kept = refl;
  refused = λ fault is. absurd (let never : None ≡ Some fault = sym free ∙ is in cc);
}

-- a write that is refused
refused_writing : (s k : ℕ) (block : List ℕ) (p : Rack) (fault : TapeFault) → (fault ≡ NoTape) ⊎ (fault ≡ NotMounted) ⊎ (fault ≡ End) → refuses_write k (reel s p.reels) ≡ Some fault
    → Writing s k block p (Err fault) p
refused_writing s k block p fault of =
    by_refusal (λ (f : TapeFault). refuses_write k (reel s p.reels) ≡ Some f → Writing s k block p (Err f) p) fault of (λ is. (is, refl)) (λ is. (is, refl)) (λ is. (is, refl))

pub pair_refuses_write : (s k : ℕ) (block : List ℕ) (p : Pair) (fault : TapeFault) → refuses_write k (reel s (shown p).reels) ≡ Some fault → PairWrites s k block p (Err fault) p
pair_refuses_write s k block p fault is = record {
  writing = refused_writing s k block (shown p) fault (refused_write k (reel s (shown p).reels) fault is) is;
  durable = refused_durably s k block (shown p) fault is;
  asked = λ free. absurd (let never : None ≡ Some fault = sym free ∙ is in cc);
  kept = refl;
  refused = λ other is'. refl;
}

-- A write of a serial that the rack doesn't have.
pub pair_writes_none : (s k : ℕ) (block : List ℕ) (p : Pair) → reel s (shown p).reels ≡ None → PairWrites s k block p (Err NoTape) p
pair_writes_none s k block p none = pair_refuses_write s k block p NoTape (ap (refuses_write k) none)

-- the same, as the code has its parts
pub pair_writes_as : (s k : ℕ) (block : List ℕ) (p : Pair) (t : Standing) (first' second' : Rack) (result : Answer) (after : Standing) (fires : Bool) (us : List Standing) (n : ℕ) (fuse : Option ℕ)
    → AreReels p.first.reels → AreReels p.second.reels → ArePaired p.standings p.first.reels p.second.reels → standing_in s p ≡ Some t → refuses_write k (reel s (shown p).reels) ≡ None → (IsTrue fires ↔ (p.fuse ≡ Some 1))
    → HasWritten fires t s k block (leading t p) (behind t p) result after (of_leader t first' second') (of_other t first' second')
    → WritesDurably s k block (armed_when fires (leading t p)) result (of_leader t first' second') → OthersAsDurable s (behind t p) (of_other t first' second')
    → us ≡ with_standing s (λ (v : Standing). after) p.first.reels p.standings → n ≡ counted result p.write_faults → fuse ≡ burnt p.fuse
    → PairWrites s k block p result (record p { first = first'; second = second'; standings = us; write_faults = n; fuse = fuse }) × ArePaired us first'.reels second'.reels
pair_writes_as s k block p t first' second' result after fires us n fuse are are' paired stands free same written durable others one two three =
    let asked : HasWritten (is_one p.fuse) t s k block (leading t p) (behind t p) result after (of_leader t first' second') (of_other t first' second') =
    subst (λ (b : Bool). HasWritten b t s k block (leading t p) (behind t p) result after (of_leader t first' second') (of_other t first' second')) (fires_one fires p.fuse same) written in
    let survive = subst (λ (b : Bool). TwinsSurvive s k block b t p result first' second') (fires_one fires p.fuse same) (record { durable = durable; others = others }) in (
      subst (λ (vs : List Standing). PairWrites s k block p result (record p { first = first'; second = second'; standings = vs; write_faults = n; fuse = fuse })) (sym one)
          (subst (λ (m : ℕ). PairWrites s k block p result (record p {
            first = first';
            second = second';
            standings = with_standing s (λ (v : Standing). after) p.first.reels p.standings;
            write_faults = m;
            fuse = fuse;
          })) (sym two)
          (subst (λ (f : Option ℕ). PairWrites s k block p result (record p {
            first = first';
            second = second';
            standings = with_standing s (λ (v : Standing). after) p.first.reels p.standings;
            write_faults = counted result p.write_faults;
            fuse = f;
          })) (sym three) (pair_writes s k block p t first' second' result after are are' paired stands free asked survive))),
      subst (λ (vs : List Standing). ArePaired vs first'.reels second'.reels) (sym one) (write_done s k block p t first' second' result after are are' paired stands free asked).paired,
    )
