-- A disc whose gate was made durable, and what was then loaded from it or created on it.
-- serves: fresh (causes, durable, ok, safe, same, stopped, survives), load (ok, refused)
use Rattle.std.proofs.Common.{◌≡◌, ◌≢◌, ℕ, Bool, true, List, Option, Result, Ok, Err, ap, inl, inr, is_some, refl, subst, sym, ◌∙◌}
use Rattle.std.specs.Prelude.{◌⊎◌, IfErr, nat_eq, not}
use Rattle.std.specs.List.{list_any}
use Rattle.std.specs.Option.{ForSome}
use Rattle.g_base.specs.Counts.{Rose, RoseBy}
use Rattle.g_base.specs.ToldContent.{Changes}
use Rattle.g_disc.specs.Disc.{Causes, DiscState, ReadsByCause, Secures, StayDurable, is_durable}
use Rattle.g_disc.specs.Durable.{MayLeave, PowerLossLeaves}
use Rattle.g_disc.proofs.CallLemmas.{Causes-then, stands_later}
use Rattle.g_entry.specs.declared.file_rec.FileRec.{FileRec}
use Rattle.g_entry.specs.declared.head.Head.{Head}
use Rattle.g_entry.specs.declared.user_rec.UserRec.{UserRec}
use Rattle.g_dirs.specs.Durable.{IsDiscSafe}
use Rattle.g_dirs.proofs.Surviving.{safe_stays}
use Rattle.g_disc_contents.specs.Facts.{OnlineFacts}
use Rattle.g_online.specs.declared.fault.OnlineFault.{OnlineFault}
use Rattle.g_online.specs.declared.fault.OnlineFault.TheVariants.{NoMemory, ReadFault, Stopped}
use Rattle.g_online.specs.AllowedChanges.{KeepsRules}
use Rattle.g_online.specs.Beginning.{AsBeforeOr, HasLoaded, HasMade, HasRead, SecuresAndReads, first_contents}

-- the gate couldn't be made durable
pub secured_failed : {T E P : Type 0} {x y : DiscState} {e : E} → P → Secures {T = T} x y (Err e) → SecuresAndReads P x y
secured_failed is failed = record {
  held = failed.held;
  size = failed.size;
  write_faults = failed.write_faults;
  writes = failed.writes;
  fuse = failed.fuse;
  arms = failed.arms;
  durable = failed.durable;
  kept = λ no. absurd (no is);
  rose = λ p. failed.rose;
}

-- such a call changes the counts as its cause says
pub Causes-SecuresAndReads : {P Q : Type 0} {x y : DiscState} → (Q → ⊥) → SecuresAndReads P x y → Causes P Q x y
Causes-SecuresAndReads never reads = record {
  size = reads.size;
  arms = reads.arms;
  later = stands_later reads.writes;
  reads_kept = reads.kept;
  reads_rose = reads.rose;
  writes_kept = λ no. reads.write_faults;
  writes_rose = λ is. absurd (never is);
}

-- the call of `secure` was Ok
module _ {T E : Type 0} {t : T} (x y : DiscState) (secured : Secures {T = T} {E = E} x y (Ok t)) where
  stays_safe : IsDiscSafe x → IsDiscSafe y
  stays_safe is_safe = safe_stays x y secured.held secured.durable is_safe

  pub secured_reads : {P : Type 0} {z : DiscState} → ReadsByCause P y z → SecuresAndReads P x z
  secured_reads {z = z} reads = record {
    held = reads.held ∙ secured.held;
    size = reads.size ∙ secured.size;
    write_faults = reads.write_faults ∙ secured.write_faults;
    writes = reads.writes ∙ secured.writes;
    fuse = reads.fuse ∙ secured.fuse;
    arms = reads.arms ∙ secured.arms;
    durable = λ k is. ap (λ (ks : List ℕ). not (list_any (nat_eq k) ks)) reads.volatile ∙ secured.durable k is;
    kept = λ no. reads.kept no ∙ secured.kept;
    rose = λ is. subst (λ (n : ℕ). Rose n z.read_faults) secured.kept (reads.rose is);
  }

  pub secured_causes : {P Q : Type 0} {z : DiscState} → Causes P Q y z → Causes P Q x z
  secured_causes causes =
      Causes-then {P = ⊥} {Q = ⊥} (λ never. never) (λ never. never)
      (record {
        size = secured.size;
        arms = secured.arms;
        later = stands_later secured.writes;
        reads_kept = λ no. secured.kept;
        reads_rose = λ never. absurd never;
        writes_kept = λ no. secured.write_faults;
        writes_rose = λ never. absurd never;
      })
      causes

  -- what was then loaded
  pub secured_loaded : (o : OnlineFacts) → HasRead y o → HasLoaded x o
  secured_loaded o read = record {
    begun = read.begun;
    reads = secured_reads read.reads;
    holds = λ blocks told. read.holds blocks (secured.held ∙ told);
    unknown = read.unknown;
    gate = λ blocks told. read.gate blocks (secured.held ∙ told);
    durable = λ blocks told is_safe. read.durable blocks (secured.held ∙ told) (stays_safe is_safe) secured.gate;
  }

  -- what was then created
  module _ (head : Head) (users : List UserRec) (files : List FileRec) where
    pub secured_rules : KeepsRules (first_contents (is_some x.held) head users files) → KeepsRules (first_contents (is_some y.held) head users files)
    secured_rules kept = subst (λ (h : Option (List (List ℕ))). KeepsRules (first_contents (is_some h) head users files)) (sym secured.held) kept

    pub secured_made : (o : OnlineFacts) → HasMade (first_contents (is_some y.held) head users files) y o → HasMade (first_contents (is_some x.held) head users files) x o
    secured_made o made = record {
      begun = made.begun;
      contents = made.contents ∙ ap (λ (h : Option (List (List ℕ))). first_contents (is_some h) head users files) secured.held;
      causes = secured_causes made.causes;
      wrote = record {
        found = made.wrote.found;
        unknown = made.wrote.unknown;
        gate = λ blocks told. made.wrote.gate blocks (secured.held ∙ told);
        blocks = made.wrote.blocks;
        commits = made.wrote.commits;
        writes = subst (λ (n : ℕ). RoseBy made.wrote.blocks n o.disc.writes) secured.writes made.wrote.writes;
      };
      durable = made.durable;
      told = made.told ∙ ap is_some secured.held;
    }

    pub secured_stopped : (z : DiscState) → Changes (AsBeforeOr (first_contents (is_some y.held) head users files)) y.held z.held
        → Changes (AsBeforeOr (first_contents (is_some x.held) head users files)) x.held z.held
    secured_stopped z changes = subst (λ (h : Option (List (List ℕ))). Changes (AsBeforeOr (first_contents (is_some h) head users files)) h z.held) secured.held changes

    pub secured_survives : (z : DiscState) → PowerLossLeaves (AsBeforeOr (first_contents (is_some y.held) head users files)) y z
        → PowerLossLeaves (AsBeforeOr (first_contents (is_some x.held) head users files)) x z
    secured_survives z leaves =
        subst (λ (h : Option (List (List ℕ))). ForSome h (λ blocks. (left : List (List ℕ)) → MayLeave z left → AsBeforeOr (first_contents (is_some h) head users files) blocks left)) secured.held leaves

  pub secured_same : {P : Type 0} (z : DiscState) → (P → (z.held ≡ y.held) × (z.writes ≡ y.writes)) → P → (z.held ≡ x.held) × (z.writes ≡ x.writes)
  secured_same z same is = let (held, writes) = same is in (held ∙ secured.held, writes ∙ secured.writes)

  pub secured_durable : {P : Type 0} (z : DiscState) → (P → (z.volatile ≡ y.volatile) × (z.dropped ≡ y.dropped)) → P → StayDurable x z
  secured_durable z still is = λ k was. let volatile = (still is).0 in ap (λ (ks : List ℕ). not (list_any (nat_eq k) ks)) volatile ∙ secured.durable k was

  -- whatever the fault was, the disc stays safe
  pub secured_safe : (z : DiscState) (fault : OnlineFault) → (fault ≡ ReadFault) ⊎ ((fault ≡ Stopped) ⊎ (fault ≡ NoMemory)) → (fault ≡ Stopped → IsDiscSafe y → IsDiscSafe z)
      → (fault ≢ Stopped → (z.held ≡ y.held) × (z.writes ≡ y.writes)) → (fault ≢ Stopped → (z.volatile ≡ y.volatile) × (z.dropped ≡ y.dropped)) → IsDiscSafe x → IsDiscSafe z
  secured_safe z fault only stopped same still is_safe = by_case only
    where
      unchanged : fault ≢ Stopped → IsDiscSafe z
      unchanged isnt =
          let held = (same isnt).0 in
          let volatile = (still isnt).0 in
          safe_stays y z held (λ k is. ap (λ (ks : List ℕ). not (list_any (nat_eq k) ks)) volatile ∙ is) (stays_safe is_safe)

      by_case : (fault ≡ ReadFault) ⊎ ((fault ≡ Stopped) ⊎ (fault ≡ NoMemory)) → IsDiscSafe z
      by_case (inl is) = unchanged (λ other. let no : ReadFault ≡ Stopped = sym is ∙ other in cc)
      by_case (inr (inl is)) = stopped is (stays_safe is_safe)
      by_case (inr (inr is)) = unchanged (λ other. let no : NoMemory ≡ Stopped = sym is ∙ other in cc)

  -- the same for an answer
  pub answer_safe : {B : Type 0} (state : B → DiscState) (left : DiscState → Type 0) (result : Result OnlineFacts (OnlineFault × B)) → IfErr result (λ e. (e.0 ≡ ReadFault) ⊎ ((e.0 ≡ Stopped) ⊎ (e.0 ≡ NoMemory)))
      → IfErr result (λ e. e.0 ≡ Stopped → is_durable y 0 ≡ true → IsDiscSafe y → IsDiscSafe (state e.1) × left (state e.1))
      → IfErr result (λ e. e.0 ≢ Stopped → ((state e.1).held ≡ y.held) × ((state e.1).writes ≡ y.writes))
      → IfErr result (λ e. e.0 ≢ Stopped → ((state e.1).volatile ≡ y.volatile) × ((state e.1).dropped ≡ y.dropped)) → IfErr result (λ e. IsDiscSafe x → IsDiscSafe (state e.1))
  answer_safe state left (Ok o) only survives same still = tt
  answer_safe state left (Err (fault, d)) only survives same still =
      secured_safe (state d) fault only (λ is is_safe. (survives is secured.gate is_safe).0) same still
