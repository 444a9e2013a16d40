-- New bytes are written to blocks that nothing else uses.
-- serves: BringStepLemmas, NeedLemmas, NewBytesLemmas, PutStepLemmas
use Rattle.std.proofs.Common.{◌≡◌, ◌≢◌, ℕ, ◌<◌, ◌≤◌, Bool, false, List, [], length, Result, Ok, Err, All, AllPairs, refl, sym, ◌∙◌, ap, subst, arith, inl}
use Rattle.std.specs.Prelude.{Contains, Option, Some, true}
use Rattle.std.specs.Option.{ForSome}
use Rattle.g_base.specs.Block.{blocks_for}
use Rattle.g_base.specs.Counts.{RoseBy}
use Rattle.g_base.specs.ToldContent.{Changes}
use Rattle.g_blocks.specs.Pool.{IsFree, free_count}
use Rattle.g_copy.specs.declared.copy.DiscCopy.{DiscCopy}
use Rattle.g_copy.specs.Copy.{OnlyAt}
use Rattle.g_base.proofs.ToldLemmas.{told_after}
use Rattle.g_disc.specs.Disc.{DiscState, StaySyncable, WritesOnly, is_durable}
use Rattle.g_disc.specs.Durable.{DirtiesOnly}
use Rattle.g_disc.proofs.CallLemmas.{Causes-WritesOnly_err, Causes-WritesOnly_ok}
use Rattle.g_slots.specs.Layout.{gate_side}
use Rattle.g_dirs.specs.Image.{StandsFor}
use Rattle.g_dirs.proofs.QuietLemmas.{gate_kept, stands_beside}
use Rattle.g_dirs.proofs.Surviving.{live_is_safe}
use Rattle.g_disc_contents.specs.Contents.{File, Holds, contents_of, taken_off}
use Rattle.g_disc_contents.specs.Durable.{StopsSafely}
use Rattle.g_disc_contents.proofs.SurvivalLemmas.{contents_survive}
use Rattle.g_disc_contents.specs.Facts.{OnlineFacts, room_with}
use Rattle.g_online.specs.declared.change.Change.{Change}
use Rattle.g_online.specs.declared.fault.OnlineFault.{OnlineFault}
use Rattle.g_online.specs.declared.fault.OnlineFault.TheVariants.{Stopped}
use Rattle.g_online.specs.Change.{need_of, unjammed_by}
use Rattle.g_online.specs.Outcomes.{AfterStop, IsApplied, room_for}
use Rattle.g_online.specs.Invariant.{AreWhole, IsKept, Memory, directory_in, facts_of}
use Rattle.g_online.proofs.BesideLemmas.{beside_contents, beside_durable, beside_holds, beside_kept, beside_pins, places_area}
use Rattle.g_online.proofs.RoomLemmas.{room_is}
use Rattle.g_online.proofs.StepLemmas.{IsBeside, both_told}
use Rattle.g_online.proofs.TieLemmas.{tied}
use Rattle.g_online.proofs.TwoLemmas.{not_full, not_memory, taken_none}
use Rattle.g_online.proofs.UnjamLemmas.{IsUnjammed}

-- THE NEW COPY: its blocks are free ones, each once, as many as its bytes need
pub record IsNewCopy (bytes : ℕ) (pool : List Bool) (copy : DiscCopy) : Type 0 where
  pub len : copy.len ≡ bytes
  pub count : length copy.blocks ≡ blocks_for bytes
  pub free : All (IsFree pool) copy.blocks
  pub apart : AllPairs (λ j k. j ≢ k) copy.blocks
  pub room : blocks_for bytes ≤ free_count pool

abbrev refusal : OnlineFault → Result (Unit {0}) OnlineFault
refusal e = Err e

-- a change that takes no files off, and needs the blocks for this many bytes
pub record NeedsFor (bytes : ℕ) (change : Change) : Type 0 where
  pub need : need_of change ≡ blocks_for bytes
  pub none : unjammed_by change ≡ []

-- THE BYTES ARE WRITTEN, in free blocks
module _ (inner : Change) (unjam : List ℕ) (bytes : ℕ) (copy : DiscCopy) (o : OnlineFacts) (origin before : DiscState) (m : Memory) (needs : NeedsFor bytes inner) (un : IsUnjammed inner unjam o origin m) (new : IsNewCopy bytes m.pool copy)
    (size : before.size ≡ origin.size) (whole : ForSome before.held (AreWhole before.size)) (only : Changes (OnlyAt copy.blocks) origin.held before.held) where
  there_is_room : room_for inner (facts_of origin m) < need_of inner → ⊥
  there_is_room less =
      let room : free_count m.pool ≡ room_for inner (facts_of origin m) =
      room_is origin m un.kept un.live
      ∙ ap (λ (fs : List File). room_with fs (facts_of origin m)) (sym (taken_none (facts_of origin m).contents.files))
      ∙ ap (λ (ns : List ℕ). room_with (taken_off ns (facts_of origin m).contents.files) (facts_of origin m)) (sym needs.none) in
      let few : free_count m.pool < blocks_for bytes = subst (λ (k : ℕ). free_count m.pool < k) needs.need (subst (λ (k : ℕ). k < need_of inner) (sym room) less) in
      let enough = new.room in
      (let no : ⊥ = omega (arith, few, enough) in no)

  -- memory and disc agree as before
  pub written_kept : StaySyncable origin before → IsKept before m
  written_kept syncable = beside_kept origin before m copy.blocks un.kept un.live new.free only size whole syncable

  stop_kept : IsKept before (record m { live = false })
  stop_kept =
      let low = un.kept.size in
      let high = un.kept.most in
      record { size = omega (arith, low, size); most = omega (arith, high, size); whole = whole; agreed = λ live. (let no : ⊥ = cc in absurd no) }

  -- STOPPED in one of these writes
  -- whatever a power loss leaves of them holds what the disc held
  write_survives : ((k : ℕ) → (Contains copy.blocks k → ⊥) → is_durable origin k ≡ true → is_durable before k ≡ true)
      → StopsSafely (AfterStop inner (facts_of origin m)) (facts_of origin m) (facts_of before (record m { live = false }))
  write_survives keeps durable =
      let stored = (un.kept.agreed un.live).stored in
      let now = beside_durable origin before m copy.blocks un.kept un.live new.free only size keeps durable in
      let area = places_area origin before m copy.blocks un.kept un.live new.free only size in (
        λ b told.
            let stands : StandsFor b (directory_in m) =
            told_after {P = λ e. StandsFor e (directory_in m)} only (λ a e told_a changed. stands_beside copy.blocks a e changed origin.size area (directory_in m) (stored.stands a told_a)) b told in
            let gate : gate_side b ≡ m.side =
            told_after {P = λ e. gate_side e ≡ m.side} only (λ a e told_a changed. gate_kept copy.blocks a e changed origin.size area ∙ stored.gate a told_a) b told in
            let low = un.kept.size in
            (live_is_safe m.side (directory_in m) before b told (whole b told).0 (omega (arith, low, size)) gate stands).0 now b told,
        λ a told_a left may.
            let end = only.told a told_a in
            let stands = stands_beside copy.blocks a end.0 end.2 origin.size area (directory_in m) (stored.stands a told_a) in
            let gate = gate_kept copy.blocks a end.0 end.2 origin.size area ∙ stored.gate a told_a in
            let holds : Holds left (contents_of (Some end.0) (directory_in m)) =
            contents_survive m.side (directory_in m) before end.0 left (whole end.0 end.1).0 end.1 gate now stands may in
            record {
              one = inl (subst (Holds left) (ap (λ (h : Option (List (List ℕ))). contents_of h (directory_in m)) (sym end.1)
                  ∙ beside_contents origin before m copy.blocks un.kept un.live new.free only size) holds);
            },
      )

  pub write_stopped : (e : OnlineFault) → e ≡ Stopped → ((k : ℕ) → (Contains copy.blocks k → ⊥) → is_durable origin k ≡ true → is_durable before k ≡ true)
      → {k : ℕ} → WritesOnly {T = Unit {0}} k origin before (Err e)
      → IsKept before (record m { live = false }) × IsApplied inner (facts_of origin m) (facts_of before (record m { live = false })) (Err e)
  write_stopped e is keeps counts = (
    stop_kept,
    record {
      ok = tt;
      stopped = λ at. record { live = refl; holds = λ blocks told. record { one = inl (beside_holds origin before m copy.blocks un.kept un.live new.free only size blocks told) }; survives = write_survives keeps };
      same = λ other. absurd (other is);
      full = (λ no. absurd (not_full e (need_of inner) (room_for inner (facts_of origin m)) is no), λ less. absurd (there_is_room less));
      memory = λ none no. not_memory e is no;
      causes = Causes-WritesOnly_err (λ no. no) (ap refusal is) counts;
      tied = tied before (record m { live = false }) stop_kept;
      told = both_told origin.held before.held only;
      only = inl is;
    },
  )

  -- and if all of them were made
  pub written_beside : WritesOnly {T = Unit {0}} {E = OnlineFault} (length copy.blocks) origin before (Ok tt) → DirtiesOnly {T = Unit {0}} {E = OnlineFault} (Contains copy.blocks) origin before (Ok tt)
      → IsBeside inner origin before m
  written_beside counts dirties = record {
    contents = beside_contents origin before m copy.blocks un.kept un.live new.free only size;
    pins = beside_pins origin before m copy.blocks un.kept un.live new.free only size;
    told = both_told origin.held before.held only;
    causes = Causes-WritesOnly_ok (λ no. no) (λ no. no) counts;
    writes = subst (λ (k : ℕ). RoseBy k origin.writes before.writes) (new.count ∙ sym needs.need) counts.writes;
    room = there_is_room;
    durable = beside_durable origin before m copy.blocks un.kept un.live new.free only size dirties.durable;
  }
