-- What survives on the disc when an event is answered: any content that a power loss may leave after a failed write is one that the failed
-- write itself may have left.
-- serves: OpenedLemmas, StepLemmas
use Rattle.std.proofs.Common.{◌≡◌, ℕ, ◌≤◌, All, List, length, Option, Some, None, true, false, refl, sym, ◌∙◌, ap, subst, true≢false}
use Rattle.std.specs.Prelude.{IfSome, Result, is_some}
use Rattle.std.specs.Option.{ForSome}
use Rattle.std.proofs.lemmas.Option.{same_Some}
use Rattle.g_base.specs.Block.{IsBlock}
use Rattle.g_base.specs.Counts.{Rose}
use Rattle.g_disc.specs.Durable.{MayLeave}
use Rattle.g_disc.proofs.DurableLemmas.{all_durable_is_unchanged}
use Rattle.g_tape.specs.Rack.{Rack}
use Rattle.g_plain.specs.declared.faults.StoreFault.{StoreFault}
use Rattle.g_dirs.specs.Durable.{IsDiscSafe}
use Rattle.g_disc_contents.specs.Contents.{Contents, Holds}
use Rattle.g_disc_contents.specs.Durable.{IsDurable, StopsSafely}
use Rattle.g_disc_contents.specs.Facts.{IsTied, OnlineFacts}
use Rattle.g_disc_contents.proofs.HoldLemmas.{holds_one}
use Rattle.g_store_model.specs.State.{Holding, State}
use Rattle.g_store_model.specs.CallStep.{Cut, DiscRead, Outcome, Plain, TapeRead}
use Rattle.g_store_meaning.specs.Answers.{Belongs, Raised}
use Rattle.g_store_meaning.specs.Belonging.{DiscBelongs}
use Rattle.g_store_meaning.specs.Meaning.{told_reels}
use Rattle.g_store_meaning.specs.Reading.{DevicesStandFor, IsView, StandsForState, View, state_down}
use Rattle.g_store_meaning.specs.StoreInvariant.{StoreFacts}
use Rattle.g_store_meaning.specs.Surviving.{SurvivesOnDisc, disc_left}
use Rattle.g_store_meaning.proofs.ViewLemmas.{Stands, back}
use Rattle.g_laws_store.proofs.TiedLemmas.{durable_is_safe, holds_after_loss, holds_now}
use Rattle.g_dumper.specs.Invariant.{spent_with}
use Rattle.g_store_calls.proofs.BehindLemmas.{files_seen}
use Rattle.g_store.specs.Events.{LeadsBy}
use Rattle.g_store.proofs.ArmLemmas.{spent_stands}

-- the filestore with what a power loss left on its disc
abbrev pub with_left : List (List ℕ) → OnlineFacts → OnlineFacts
with_left left o = record o { disc = disc_left left o.disc }

-- A COMMIT STOPPED at a write, which left the disc with one of these contents: what is known of the filestore then
pub record IsStoppedWith (Q : List (List ℕ) → Type 0) (old new : OnlineFacts) : Type 0 where
  pub tied : IsTied new
  pub live : new.live ≡ false
  pub size : new.disc.size ≡ old.disc.size
  pub tells : is_some new.disc.held ≡ is_some old.disc.held
  pub arms : new.disc.arms ≡ old.disc.arms
  pub later : old.disc.writes ≤ new.disc.writes
  pub reads_kept : new.disc.read_faults ≡ old.disc.read_faults
  pub rose : Rose old.disc.write_faults new.disc.write_faults
  pub holds : ForSome new.disc.held Q
  pub survives : StopsSafely Q old new

-- a filestore that is no longer live is tied to any blocks that a power loss leaves
left_tied : (left : List (List ℕ)) (o : OnlineFacts) → o.live ≡ false → MayLeave o.disc left → IsTied o → IsTied (with_left left o)
left_tied left o dead may tied = record {
  size = tied.size;
  most = tied.most;
  contents = λ live. absurd (true≢false (sym live ∙ dead));
  rules = λ live. absurd (true≢false (sym live ∙ dead));
  records = λ live. absurd (true≢false (sym live ∙ dead));
  stands = λ live. absurd (true≢false (sym live ∙ dead));
  pages = λ live. absurd (true≢false (sym live ∙ dead));
  changed_are = λ live. absurd (true≢false (sym live ∙ dead));
  touched_are = λ live. absurd (true≢false (sym live ∙ dead));
  touched_changed = λ live. absurd (true≢false (sym live ∙ dead));
  waits = λ live. absurd (true≢false (sym live ∙ dead));
  pinned = λ live. absurd (true≢false (sym live ∙ dead));
  gate = λ live. absurd (true≢false (sym live ∙ dead));
  whole = λ blocks held. subst (λ (b : List (List ℕ)). (length b ≡ o.disc.size) × All IsBlock b) (let same : left ≡ blocks = cc in same) (may.size, may.whole);
}

-- all blocks of a disc after a power loss are durable
left_safe : (left : List (List ℕ)) (o : OnlineFacts) → IsDiscSafe (with_left left o).disc
left_safe left o blocks held side names = record { slot = λ k within. refl; files = λ e stands k within. refl }

-- with what a power loss left, the filestore is one that the same commit may have stopped at
left_at : (Q : List (List ℕ) → Type 0) (old new : OnlineFacts) → IsStoppedWith Q old new → IsDurable old → (before left : List (List ℕ)) → old.disc.held ≡ Some before → MayLeave new.disc left
    → IsStoppedWith Q old (with_left left new)
left_at Q old new at durable before left told may =
    let one : Q left = (at.survives durable).1 before told left may in record {
      tied = left_tied left new at.live may at.tied;
      live = at.live;
      size = at.size;
      tells = sym (ap is_some told);
      arms = at.arms;
      later = at.later;
      reads_kept = at.reads_kept;
      rose = at.rose;
      holds = λ blocks held. subst Q (let same : left ≡ blocks = cc in same) one;
      survives = λ again. (
        left_safe left new,
        λ blocks held other remains. subst Q (sym (all_durable_is_unchanged (disc_left left new.disc) left other may.size refl refl remains)) one,
      );
    }

-- what holds for any disc that the write may have left holds for any disc that a power loss leaves
pub commit_survives : (P : StoreFacts → Type 0) (Q : List (List ℕ) → Type 0) (old new : StoreFacts) → new.spent ≡ true → IsStoppedWith Q old.online new.online
    → ((x : OnlineFacts) → IsStoppedWith Q old.online x → P (record new { online = x })) → SurvivesOnDisc P old new
commit_survives P Q old new spent at any = record {
  up = λ up. absurd (true≢false (sym spent ∙ up));
  safe = λ is durable. (at.survives durable).0;
  left = λ is durable before told left may. any (with_left left new.online) (left_at Q old.online new.online at durable before left told may);
}

-- A STORE SPENT BY ITS RACK, whose disc is as it was: what a power loss leaves on the disc has the same contents
module _ (o : OnlineFacts) (tied : IsTied o) (live : o.live ≡ true) (durable : IsDurable o) (had left : List (List ℕ)) (told : o.disc.held ≡ Some had) (may : MayLeave o.disc left) (rack : Rack) where
  holds_left : Holds left o.contents
  holds_left = holds_after_loss o tied live durable had told left may

  left_devices : (u : State) (v : View) (contents : Option Contents)
      → IfSome contents (λ c. (blocks : List (List ℕ)) × (o.disc.held ≡ Some blocks) × Holds blocks c × IsView o.disc.held (told_reels rack) c v)
      → (is_some contents ≡ false → (blocks : List (List ℕ)) (c : Contents) → o.disc.held ≡ Some blocks → Holds blocks c → ⊥)
      → u ≡ state_down v (told_reels rack) o.disc.size contents → DevicesStandFor o.disc.size (Some left) (told_reels rack) u
  left_devices u v None is none same = absurd (none refl had o.contents told (holds_now o tied live had told))
  left_devices u v (Some c) (blocks, has, holds, right) none same =
      let one : o.contents ≡ c = holds_one blocks o.contents c (holds_now o tied live blocks has) holds in
      let right_left : IsView (Some left) (told_reels rack) c v = files_seen o.disc.held (Some left) (told_reels rack) v c (sym (ap is_some told)) right in
      record {
        view = v;
        contents = Some c;
        is = (left, refl, subst (Holds left) one holds_left, right_left);
        none = λ no. absurd (true≢false no);
        rack = right_left.rack;
        state_is = same;
      }

  stands_left : (u : State) → StandsForState (spent_with o rack) u → StandsForState (spent_with (with_left left o) rack) u
  unfolding Stands
  stands_left u here =
      let was = spent_stands (spent_with o rack) refl u here in
      let now : Stands true (with_left left o) None u (told_reels rack) = left_devices u was.view was.contents was.is was.none was.state_is in
      back true (with_left left o) None u rack now

  pub belongs_left : Belongs (spent_with o rack) → Belongs (spent_with (with_left left o) rack)
  belongs_left was =
      let b = was.devices in record {
        devices = record {
          text = b.text;
          shelf = b.shelf;
          shelved = b.shelved;
          rack = b.rack;
          disc = λ blocks c held holds.
              subst (DiscBelongs b.text b.shelf (told_reels rack)) (holds_one left o.contents c holds_left (subst (λ (x : List (List ℕ)). Holds x c) (let same : blocks ≡ left = cc in same) holds))
              (b.disc had o.contents told (holds_now o tied live had told));
        };
        up = λ no. absurd (true≢false no);
      }

  raised_left : (old : StoreFacts) (out : Outcome) → Raised out old (spent_with o rack) → Raised out old (spent_with (with_left left o) rack)
  raised_left old Plain is = is
  raised_left old DiscRead is = is
  raised_left old TapeRead is = is
  raised_left old Cut is = is

  pub leads_left : {A : Type 0} (by : State → Holding → Outcome → Result A StoreFault → State → Type 0) (u : State) (old : StoreFacts) (answer : Result A StoreFault)
      → LeadsBy by u old (spent_with o rack) answer → LeadsBy by u old (spent_with (with_left left o) rack) answer
  leads_left by u old answer l = record {
    after = l.after;
    left = stands_left l.after l.left;
    held = l.held;
    holds = l.holds;
    outcome = l.outcome;
    raised = raised_left old l.outcome l.raised;
    step = l.step;
  }

-- what holds for the disc as it was holds for any disc that a power loss leaves
pub rack_survives : (P : StoreFacts → Type 0) (old : StoreFacts) (o : OnlineFacts) (rack : Rack) → old.online ≡ o → IsTied o → o.live ≡ true
    → ((had left : List (List ℕ)) → IsDurable o → o.disc.held ≡ Some had → MayLeave o.disc left → P (spent_with (with_left left o) rack)) → SurvivesOnDisc P old (spent_with o rack)
rack_survives P old o rack at tied live any = record {
  up = λ up. absurd (true≢false up);
  safe = λ is durable. durable_is_safe o tied live (subst IsDurable at durable);
  left = λ is durable had told left may. any had left (subst IsDurable at durable) (sym (ap (λ (x : OnlineFacts). x.disc.held) at) ∙ told) may;
}
