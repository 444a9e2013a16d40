-- What survives on the disc when a call is answered: a store that stays up keeps its live blocks durable. After a failed write, any
-- content that a power loss may leave on the disc is one that the failed write itself may have left.
-- serves: AppendedLemmas, BroughtLemmas, CalmLemmas, HereLemmas, PutLemmas, QuietLemmas, RecordLemmas, TapeLemmas
use Rattle.std.proofs.Common.{◌≡◌, ℕ, All, List, length, Some, true, false, refl, sym, ◌∙◌, ap, subst, true≢false}
use Rattle.std.specs.Prelude.{is_some}
use Rattle.g_base.specs.Block.{IsBlock}
use Rattle.g_disc.specs.Disc.{Causes}
use Rattle.g_disc.specs.Durable.{MayLeave}
use Rattle.g_disc.proofs.DurableLemmas.{all_durable_is_unchanged}
use Rattle.g_dirs.specs.Durable.{IsDiscSafe}
use Rattle.g_disc_contents.specs.Durable.{IsDurable}
use Rattle.g_disc_contents.specs.Facts.{IsTied, OnlineFacts}
use Rattle.g_online.specs.declared.change.Change.{Change}
use Rattle.g_online.specs.Outcomes.{AfterStop, HasStopped}
use Rattle.g_store_meaning.specs.StoreInvariant.{StoreFacts}
use Rattle.g_store_meaning.specs.Surviving.{SurvivesOnDisc, disc_left}

-- A STORE THAT STAYS UP keeps its live blocks durable
pub stays_durable : (P : StoreFacts → Type 0) (old new : StoreFacts) → new.spent ≡ false → (IsDurable old.online → IsDurable new.online) → SurvivesOnDisc P old new
stays_durable P old new up durable = record {
  up = λ is. durable;
  safe = λ spent. absurd (true≢false (sym spent ∙ up));
  left = λ spent. absurd (true≢false (sym spent ∙ up));
}

-- A CHANGE STOPPED at a write: what is known of the filestore then
pub record IsStoppedAt (change : Change) (old new : OnlineFacts) : Type 0 where
  pub tied : IsTied new
  pub size : new.disc.size ≡ old.disc.size
  pub tells : is_some new.disc.held ≡ is_some old.disc.held
  pub stopped : HasStopped change old new
  pub causes : Causes ⊥ (Unit {0}) old.disc new.disc

-- the filestore with what a power loss left on its disc
abbrev with_left : List (List ℕ) → OnlineFacts → OnlineFacts
with_left left o = record o { disc = disc_left left o.disc }

-- a filestore that is no longer live is tied to any blocks that a power loss leaves
left_tied : (left : List (List ℕ)) (o : OnlineFacts) → o.live ≡ false → MayLeave o.disc left → IsTied o → IsTied (with_left left o)
left_tied left o dead may tied = record {
  size = tied.size;
  most = tied.most;
  contents = λ live. absurd (true≢false (sym live ∙ dead));
  rules = λ live. absurd (true≢false (sym live ∙ dead));
  records = λ live. absurd (true≢false (sym live ∙ dead));
  stands = λ live. absurd (true≢false (sym live ∙ dead));
  pages = λ live. absurd (true≢false (sym live ∙ dead));
  changed_are = λ live. absurd (true≢false (sym live ∙ dead));
  touched_are = λ live. absurd (true≢false (sym live ∙ dead));
  touched_changed = λ live. absurd (true≢false (sym live ∙ dead));
  waits = λ live. absurd (true≢false (sym live ∙ dead));
  pinned = λ live. absurd (true≢false (sym live ∙ dead));
  gate = λ live. absurd (true≢false (sym live ∙ dead));
  whole = λ blocks held. subst (λ (b : List (List ℕ)). (length b ≡ o.disc.size) × All IsBlock b) (let same : left ≡ blocks = cc in same) (may.size, may.whole);
}

-- all blocks of a disc after a power loss are durable
left_safe : (left : List (List ℕ)) (o : OnlineFacts) → IsDiscSafe (with_left left o).disc
left_safe left o blocks held side names = record { slot = λ k within. refl; files = λ e stands k within. refl }

module _ (change : Change) (old new : OnlineFacts) (at : IsStoppedAt change old new) (durable : IsDurable old) (before left : List (List ℕ)) (told : old.disc.held ≡ Some before) (may : MayLeave new.disc left) where
  after_stop : AfterStop change old left
  after_stop = (at.stopped.survives durable).1 before told left may

  left_one : (other : List (List ℕ)) → left ≡ other → AfterStop change old other
  left_one other same = subst (AfterStop change old) same after_stop

  left_stopped : HasStopped change old (with_left left new)
  left_stopped = record {
    live = at.stopped.live;
    holds = λ blocks held. left_one blocks (let same : left ≡ blocks = cc in same);
    survives = λ again. (
      left_safe left new,
      λ blocks held other remains. left_one other (sym (all_durable_is_unchanged (disc_left left new.disc) left other may.size refl refl remains)),
    );
  }

  -- with what a power loss left, the filestore is one that the same change may have stopped at
  left_at : IsStoppedAt change old (with_left left new)
  left_at = record {
    tied = left_tied left new at.stopped.live may at.tied;
    size = at.size;
    tells = sym (ap is_some told);
    stopped = left_stopped;
    causes = record {
      size = at.causes.size;
      arms = at.causes.arms;
      later = at.causes.later;
      reads_kept = at.causes.reads_kept;
      reads_rose = at.causes.reads_rose;
      writes_kept = at.causes.writes_kept;
      writes_rose = at.causes.writes_rose;
    };
  }

-- AFTER A FAILED WRITE: what holds for any disc that the write may have left holds for any disc that a power loss leaves
pub stop_survives : (P : StoreFacts → Type 0) (change : Change) (old new : StoreFacts) → new.spent ≡ true → IsStoppedAt change old.online new.online
    → ((x : OnlineFacts) → IsStoppedAt change old.online x → P (record new { online = x })) → SurvivesOnDisc P old new
stop_survives P change old new spent at any = record {
  up = λ up. absurd (true≢false (sym spent ∙ up));
  safe = λ is durable. (at.stopped.survives durable).0;
  left = λ is durable before told left may. any (with_left left new.online) (left_at change old.online new.online at durable before left told may);
}
