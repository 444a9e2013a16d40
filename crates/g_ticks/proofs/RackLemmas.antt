-- A write to a reel mounts and unmounts none, so what jobs have left to do is unchanged.
-- serves: DumpLemmas
use Rattle.std.proofs.Common.{◌≡◌, ◌+◌, ◌-◌, ◌==◌, ◌&&◌, ℕ, Bool, List, [], ◌∷◌, Option, Some, None, sum_by, refl, ◌∙◌, ap, if◌then◌else◌, arith}
use Rattle.std.proofs.lemmas.List.Sums.{sum_by-cons}
use Rattle.g_base.proofs.KeyLemmas.{find-change_seen}
use Rattle.g_job.specs.State.{JobState}
use Rattle.g_job.specs.Terminal.{is_ready}
use Rattle.g_tape.specs.Reel.{Reel, Remains, Shortened, Torn, Unchanged, ending, left_by}
use Rattle.g_tape.specs.Rack.{Rack, is_mounted, reel, with_reel}
use Rattle.g_ticks.specs.Tick.{may_step, reel_there, share_in}

module _ (f : Reel → Reel) (mounts : (r : Reel) → (f r).mounted ≡ r.mounted) (named : (r : Reel) → (f r).serial ≡ r.serial) where
  mounted_still : (t s : ℕ) (rs : List Reel) → is_mounted (reel s (with_reel t f rs)) ≡ is_mounted (reel s rs)
  mounted_still t s rs = find-change_seen (λ (r : Reel). t == r.serial) f (λ (r : Reel). s == r.serial) is_mounted (λ r. ap (λ (n : ℕ). s == n) (named r)) mounts rs

left_mounts : (how : Remains) (k : ℕ) (r : Reel) → (left_by how k r).mounted ≡ r.mounted
left_mounts Unchanged k r = refl
left_mounts Shortened k r = refl
left_mounts (Torn block) k r = refl

pub left_named : (how : Remains) (k : ℕ) (r : Reel) → (left_by how k r).serial ≡ r.serial
left_named Unchanged k r = refl
left_named Shortened k r = refl
left_named (Torn block) k r = refl

-- the same reels are mounted
abbrev pub SameMounted : Rack → Rack → Type 0
SameMounted old new = (s : ℕ) → is_mounted (reel s new.reels) ≡ is_mounted (reel s old.reels)

pub ending_mounts : (t k : ℕ) (block : List ℕ) (old new : Rack) → new.reels ≡ with_reel t (ending k block) old.reels → SameMounted old new
ending_mounts t k block old new is s = ap (λ (rs : List Reel). is_mounted (reel s rs)) is ∙ mounted_still (ending k block) (λ r. refl) (λ r. refl) t s old.reels

pub failing_mounts : (t k : ℕ) (how : Remains) (old new : Rack) → new.reels ≡ with_reel t (left_by how k) old.reels → SameMounted old new
failing_mounts t k how old new is s = ap (λ (rs : List Reel). is_mounted (reel s rs)) is ∙ mounted_still (left_by how k) (left_mounts how k) (left_named how k) t s old.reels

module _ (old new : Rack) (same : SameMounted old new) where
  there_still : (wants : Option ℕ) → reel_there new wants ≡ reel_there old wants
  there_still None = refl
  there_still (Some s) = same s

  pub steps_still : (j : JobState) → may_step new j ≡ may_step old j
  steps_still j = ap (λ (b : Bool). b && is_ready j) (there_still j.wants)

  share_still : (j : JobState) → share_in new j ≡ share_in old j
  share_still j = ap (λ (b : Bool). (j.allowance - j.used) + (if b then 1 else 0)) (steps_still j)

  -- what jobs have left to do is unchanged
  pub shares_still : (jobs : List JobState) → sum_by (share_in new) jobs ≡ sum_by (share_in old) jobs
  shares_still [] = refl
  shares_still (j ∷ jobs) =
      let left : sum_by (share_in new) (j ∷ jobs) ≡ share_in new j + sum_by (share_in new) jobs = sum_by-cons (share_in new) j jobs in
      let right : sum_by (share_in old) (j ∷ jobs) ≡ share_in old j + sum_by (share_in old) jobs = sum_by-cons (share_in old) j jobs in
      let one : share_in new j ≡ share_in old j = share_still j in
      let rest : sum_by (share_in new) jobs ≡ sum_by (share_in old) jobs = shares_still jobs in
      omega (arith, left, right, one, rest)
