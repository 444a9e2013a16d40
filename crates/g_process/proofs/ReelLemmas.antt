-- A reel that is filled block by block from its first one on, while the others are only read.
-- serves: AnswerLemmas, BecomeLemmas, DoneLemmas, EndLemmas, ExitLemmas, SafeLemmas, WriteLemmas
use Rattle.std.proofs.Common.{◌≡◌, ℕ, ◌==◌, ◌+◌, ◌<◌, ◌≤◌, List, [], ◌∷◌, ◌++◌, length, map, take, Option, Some, None, refl, sym, ◌∙◌, ap, arith, subst, inl, inr, option_map}
use Rattle.std.proofs.lemmas.Bool.Decides.{eqb_tells}
use Rattle.std.proofs.lemmas.List.{length-append, take_all}
use Rattle.g_base.proofs.KeyLemmas.{change-twice, map-change}
use Rattle.g_tape.proofs.DurableLemmas.{with_reel-same}
use Rattle.g_tape.specs.Rack.{Rack, changed, reel, with_reel}
use Rattle.g_tape.specs.Reads.{HasRead, OnlyReads, blocks_in, blocks_of, count_at, time_of, times_in, unread}
use Rattle.g_tape.specs.Reel.{Reel, ending}
use Rattle.g_tape.proofs.ReadLemmas.{blocks_after_reads, reel-with_reel, reel-with_reel_other, reel_after_reads, same_risks, then_read}
use Rattle.g_process.specs.Progress.{IsBeside, filled}

-- one more block after the present ones
abbrev holding : ℕ → Option (List (List ℕ)) → Reel → Reel
holding n blocks r = record r { len = n; blocks = blocks }

mapped_const : (w : List (List ℕ)) (k : ℕ) (b : List ℕ) (o : Option (List (List ℕ)))
    → option_map (λ (bs : List (List ℕ)). take k bs ++ b ∷ []) (option_map (λ (bs : List (List ℕ)). w) o) ≡ option_map (λ (bs : List (List ℕ)). take k w ++ b ∷ []) o
mapped_const w k b None = refl
mapped_const w k b (Some bs) = refl

mapped_first : (b : List ℕ) (o : Option (List (List ℕ))) → option_map (λ (bs : List (List ℕ)). take 0 bs ++ b ∷ []) o ≡ option_map (λ (bs : List (List ℕ)). b ∷ []) o
mapped_first b None = refl
mapped_first b (Some bs) = refl

pub ending_filled : (w : List (List ℕ)) (k : ℕ) (b : List ℕ) (r : Reel) → k ≡ length w → ending k b (filled w r) ≡ filled (w ++ b ∷ []) r
ending_filled [] k b r is =
    ap (λ (n : ℕ). ending n b r) is ∙ ap (λ (bs : Option (List (List ℕ))). holding 1 bs r) (mapped_first b r.blocks)
ending_filled (x ∷ xs) k b r is =
    let w : List (List ℕ) = x ∷ xs in
    let all : take k w ≡ w = take_all k w (omega (arith, is)) in
    let long : k + 1 ≡ length (w ++ b ∷ []) = omega (arith, is, length-append w (b ∷ [])) in
    ap (λ (bs : Option (List (List ℕ))). holding (k + 1) bs r) (mapped_const w k b r.blocks ∙ ap (λ (v : List (List ℕ)). option_map (λ (bs : List (List ℕ)). v ++ b ∷ []) r.blocks) all)
    ∙ ap (λ (n : ℕ). holding n (option_map (λ (bs : List (List ℕ)). w ++ b ∷ []) r.blocks) r) long

-- what doesn't hang on the blocks stays
filled_keeps : {X : Type 0} (of : Reel → X) (w : List (List ℕ)) (r : Reel) → ((n : ℕ) (o : Option (List (List ℕ))) → of (holding n o r) ≡ of r) → of (filled w r) ≡ of r
filled_keeps of [] r same = refl
filled_keeps of (b ∷ bs) r same = same (length (b ∷ bs)) (option_map (λ (old : List (List ℕ)). b ∷ bs) r.blocks)

pub filled_serial : (w : List (List ℕ)) (r : Reel) → (filled w r).serial ≡ r.serial
filled_serial w r = filled_keeps (λ (x : Reel). x.serial) w r (λ n o. refl)

pub filled_times : (w : List (List ℕ)) (r : Reel) → (filled w r).times_read ≡ r.times_read
filled_times w r = filled_keeps (λ (x : Reel). x.times_read) w r (λ n o. refl)

pub filled_mounted : (w : List (List ℕ)) (r : Reel) → (filled w r).mounted ≡ r.mounted
filled_mounted w r = filled_keeps (λ (x : Reel). x.mounted) w r (λ n o. refl)

pub filled_capacity : (w : List (List ℕ)) (r : Reel) → (filled w r).capacity ≡ r.capacity
filled_capacity w r = filled_keeps (λ (x : Reel). x.capacity) w r (λ n o. refl)

pub filled_long : (w : List (List ℕ)) (r : Reel) → 0 < length w → (filled w r).len ≡ length w
filled_long [] r some = absurd (let no : ⊥ = omega (arith, some) in no)
filled_long (b ∷ bs) r some = refl

pub unread_filled : (w : List (List ℕ)) (r : Reel) → unread (filled w r) ≡ filled w (unread r)
unread_filled [] r = refl
unread_filled (b ∷ bs) r = refl

-- CHANGES OF ONE REEL
pub unread_with : (s : ℕ) (f : Reel → Reel) → ((r : Reel) → unread (f r) ≡ f (unread r)) → (rs : List Reel) → map unread (with_reel s f rs) ≡ with_reel s f (map unread rs)
unread_with s f same rs = map-change (λ (r : Reel). s == r.serial) f (λ (r : Reel). s == r.serial) f unread (λ r. refl) same rs

pub with_twice : (s : ℕ) (f g h : Reel → Reel) → ((r : Reel) → (g r).serial ≡ r.serial) → ((r : Reel) → f (g r) ≡ h r) → (rs : List Reel) → with_reel s f (with_reel s g rs) ≡ with_reel s h rs
with_twice s f g h keeps same rs = change-twice (λ (r : Reel). s == r.serial) g f h (λ r. ap (λ (n : ℕ). s == n) (keeps r)) same rs

-- COUNTS OF READS stay, if the change keeps them
mapped_times : (f : Reel → Reel) → ((r : Reel) → (f r).times_read ≡ r.times_read) → (o : Option Reel) → times_in (option_map f o) ≡ times_in o
mapped_times f keeps None = refl
mapped_times f keeps (Some r) = keeps r

pub times_changed : (s t : ℕ) (f : Reel → Reel) → ((r : Reel) → (f r).serial ≡ r.serial) → ((r : Reel) → (f r).times_read ≡ r.times_read) → (rs : List Reel)
    → times_in (reel t (with_reel s f rs)) ≡ times_in (reel t rs)
times_changed s t f serial times rs =
    elim (eqb_tells s t) [
      | inl h ↦
          subst (λ (u : ℕ). times_in (reel u (with_reel s f rs)) ≡ times_in (reel u rs)) h.1
          (ap times_in (reel-with_reel s f serial rs) ∙ mapped_times f times (reel s rs))
      | inr h ↦ ap times_in (reel-with_reel_other s t f serial h.1 rs)
    ]

pub beside_none : (s : ℕ) (rack : Rack) → IsBeside (changed s (filled []) rack) rack
beside_none s rack = record {
  reels = ap (map unread) (sym (with_reel-same s rack.reels));
  write_faults = refl;
  fuse = refl;
  arms = refl;
  read_faults = omega arith;
  times = λ t k. subst (λ (o : Option (List ℕ)). count_at k o ≤ time_of t k rack) (sym (times_changed s t (filled []) (λ r. refl) (λ r. refl) rack.reels)) (omega arith);
  durable = same_risks _ rack (ap (map unread) (sym (with_reel-same s rack.reels))) refl;
}

pub beside_more : (old mid new : Rack) → IsBeside old mid → OnlyReads mid new → IsBeside old new
beside_more old mid new one two = record {
  reels = two.reels ∙ one.reels;
  write_faults = two.write_faults ∙ one.write_faults;
  fuse = refl;
  arms = two.arms ∙ one.arms;
  read_faults = omega (arith, one.read_faults, two.read_faults);
  times = λ s k. omega (arith, one.times s k, two.times s k);
  durable = same_risks (record old { fuse = new.fuse; risks = new.risks }) new (two.reels ∙ one.reels) refl;
}

-- a write after them
pub beside_changed : (s : ℕ) (f g h : Reel → Reel) (old mid new : Rack) → ((r : Reel) → (f r).serial ≡ r.serial) → ((r : Reel) → (f r).times_read ≡ r.times_read)
    → ((r : Reel) → unread (f r) ≡ f (unread r)) → ((r : Reel) → (g r).serial ≡ r.serial) → ((r : Reel) → (g r).times_read ≡ r.times_read)
    → ((r : Reel) → (h r).serial ≡ r.serial) → ((r : Reel) → (h r).times_read ≡ r.times_read) → ((r : Reel) → f (g r) ≡ h r)
    → IsBeside (changed s g old) mid → new.reels ≡ with_reel s f mid.reels → new.write_faults ≡ mid.write_faults → new.arms ≡ mid.arms → new.read_faults ≡ mid.read_faults
    → IsBeside (changed s h old) new
beside_changed s f g h old mid new f_serial f_times f_unread g_serial g_times h_serial h_times same so reels write_faults arms read_faults =
    let still : map unread new.reels ≡ map unread (with_reel s h old.reels) =
    ap (map unread) reels ∙ unread_with s f f_unread mid.reels ∙ ap (with_reel s f) so.reels ∙ sym (unread_with s f f_unread (with_reel s g old.reels))
    ∙ ap (map unread) (with_twice s f g h g_serial same old.reels) in record {
      reels = still;
      write_faults = write_faults ∙ so.write_faults;
      fuse = refl;
      arms = arms ∙ so.arms;
      read_faults = omega (arith, so.read_faults, read_faults);
      times = λ t k.
          let was = so.times t k in
          let here : time_of t k new ≡ time_of t k mid = ap (λ (rs : List Reel). count_at k (times_in (reel t rs))) reels ∙ ap (count_at k) (times_changed s t f f_serial f_times mid.reels) in
          let now : count_at k (times_in (reel t (with_reel s h old.reels))) ≡ count_at k (times_in (reel t (with_reel s g old.reels))) =
          ap (count_at k) (times_changed s t h h_serial h_times old.reels ∙ sym (times_changed s t g g_serial g_times old.reels)) in
          omega (arith, was, here, now);
      durable = same_risks (record (changed s h old) { fuse = new.fuse; risks = new.risks }) new still refl;
    }

pub beside_ending : (s k : ℕ) (w : List (List ℕ)) (b : List ℕ) (old mid new : Rack) → k ≡ length w → IsBeside (changed s (filled w) old) mid → new ≡ record (changed s (ending k b) mid) { fuse = new.fuse; risks = new.risks }
    → IsBeside (changed s (filled (w ++ b ∷ [])) old) new
beside_ending s k w b old mid new long so is =
    beside_changed s (ending k b) (filled w) (filled (w ++ b ∷ [])) old mid new (λ r. refl) (λ r. refl) (λ r. refl) (filled_serial w) (filled_times w)
    (filled_serial (w ++ b ∷ [])) (filled_times (w ++ b ∷ [])) (λ r. ending_filled w k b r long) so
    (ap (λ (x : Rack). x.reels) is) (ap (λ (x : Rack). x.write_faults) is) (ap (λ (x : Rack). x.arms) is) (ap (λ (x : Rack). x.read_faults) is)

pub times_ending : (s k : ℕ) (b : List ℕ) (mid new : Rack) → new ≡ record (changed s (ending k b) mid) { fuse = new.fuse; risks = new.risks } → (t n : ℕ) → time_of t n mid ≤ time_of t n new
times_ending s k b mid new is t n =
    let same : time_of t n new ≡ time_of t n mid =
    ap (λ (x : Rack). count_at n (times_in (reel t x.reels))) is ∙ ap (count_at n) (times_changed s t (ending k b) (λ r. refl) (λ r. refl) mid.reels) in
    omega (arith, same)

pub read_later : (s k : ℕ) (old mid new : Rack) → HasRead s k old mid → time_of s k mid ≤ time_of s k new → HasRead s k old new
read_later s k old mid new has more = record { more = λ times is. let was = has.more times is in omega (arith, was, more) }

pub read_beside : (s t k : ℕ) (w : List (List ℕ)) (old mid new : Rack) → IsBeside (changed s (filled w) old) mid → HasRead t k mid new → HasRead t k old new
read_beside s t k w old mid new so has =
    let other : HasRead t k (record (changed s (filled w) old) { fuse = mid.fuse; risks = mid.risks }) new = then_read t k (record (changed s (filled w) old) { fuse = mid.fuse; risks = mid.risks }) mid new so has in
    let same : times_in (reel t (with_reel s (filled w) old.reels)) ≡ times_in (reel t old.reels) = times_changed s t (filled w) (filled_serial w) (filled_times w) old.reels in
    record {
      more = λ times is.
          let was = other.more times (same ∙ is) in
          let count : count_at k (times_in (reel t (with_reel s (filled w) old.reels))) ≡ time_of t k old = ap (count_at k) same in
          omega (arith, was, count);
    }

-- another reel is unchanged except for its record of reads
pub other_beside : (s t : ℕ) (w : List (List ℕ)) (old mid : Rack) → (s ≡ t → ⊥) → IsBeside (changed s (filled w) old) mid → option_map unread (reel t mid.reels) ≡ option_map unread (reel t old.reels)
other_beside s t w old mid apart so =
    reel_after_reads t (record (changed s (filled w) old) { fuse = mid.fuse; risks = mid.risks }) mid so ∙ ap (option_map unread) (reel-with_reel_other s t (filled w) (filled_serial w) apart old.reels)

pub blocks_beside : (s t : ℕ) (w : List (List ℕ)) (old mid : Rack) → (s ≡ t → ⊥) → IsBeside (changed s (filled w) old) mid → blocks_of t mid ≡ blocks_of t old
blocks_beside s t w old mid apart so =
    blocks_after_reads t (record (changed s (filled w) old) { fuse = mid.fuse; risks = mid.risks }) mid so ∙ ap blocks_in (reel-with_reel_other s t (filled w) (filled_serial w) apart old.reels)

-- and this one is filled
pub this_beside : (s : ℕ) (w : List (List ℕ)) (old mid : Rack) → IsBeside (changed s (filled w) old) mid → option_map unread (reel s mid.reels) ≡ option_map unread (option_map (filled w) (reel s old.reels))
this_beside s w old mid so =
    reel_after_reads s (record (changed s (filled w) old) { fuse = mid.fuse; risks = mid.risks }) mid so ∙ ap (option_map unread) (reel-with_reel s (filled w) (filled_serial w) old.reels)
