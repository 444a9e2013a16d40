-- The blocks of pinned versions that no file has any more are free again when the pins are removed.
-- serves: unpin (free, tied), AdoptedLemmas, CloseLemmas
use Rattle.std.proofs.Common.{◌≡◌, ◌≢◌, ℕ, ◌==◌, ◌||◌, Bool, true, false, not, List, [], ◌∷◌, ◌++◌, length, filter, Option, Some, None, All, AllPairs, refl, sym, ◌∙◌, ap, subst, arith, cond, if◌then◌else◌}
use Rattle.std.specs.List.{flat_map}
use Rattle.std.proofs.lemmas.List.{append-nil}
use Rattle.g_blocks.specs.Pool.{HasGiven, IsFresh, IsInArea, IsTaken}
use Rattle.g_copy.specs.declared.copy.DiscCopy.{DiscCopy}
use Rattle.g_disc.specs.Disc.{DiscState}
use Rattle.g_entry.specs.declared.file_rec.FileRec.{FileRec}
use Rattle.g_dirs.specs.Directory.{FileEntry, all_places, entries_of}
use Rattle.g_disc_contents.specs.Contents.{has}
use Rattle.g_disc_contents.specs.Facts.{AreNumbers, OnlineFacts}
use Rattle.g_online.specs.declared.pinned.Pinned.{Pinned}
use Rattle.g_online.specs.DumpedVersions.{is_stamp_current, lost_places, pinned_in}
use Rattle.g_online.specs.Invariant.{IsKept, IsPooled, Memory, directory_in, facts_of, is_current, orphans, used_places}
use Rattle.g_online.proofs.UseLemmas.{IsUsed, may_give, same_swap, used_given, used_same}
use Rattle.g_online.proofs.MemoryLemmas.{kept_anew}

-- these are the blocks that no file has
filed_is : (files : List FileRec) (online : List (ℕ × DiscCopy)) (s : ℕ) → is_current (entries_of files online) s ≡ is_stamp_current files s
filed_is [] online s = refl
filed_is (r ∷ files) online s = ap (λ (b : Bool). (r.stamp == s) || b) (filed_is files online s)

by_filed : (b : Bool) (p : Pinned) (rest : List Pinned) (lost : List ℕ) → flat_map (λ (q : Pinned). q.blocks) rest ≡ lost
    → flat_map (λ (q : Pinned). q.blocks) (cond (not b) (p ∷ rest) rest) ≡ (if b then [] else p.blocks) ++ lost
by_filed true p rest lost same = same
by_filed false p rest lost same = ap (λ (l : List ℕ). p.blocks ++ l) same

lost_list : (files : List FileRec) (online : List (ℕ × DiscCopy)) (pins : List Pinned) → orphans (Some pins) (entries_of files online) ≡ lost_places files pins
lost_list files online [] = refl
lost_list files online (p ∷ pins) =
    let rest : List Pinned = filter (λ (q : Pinned). not (is_current (entries_of files online) q.stamp)) pins in
    ap (λ (b : Bool). flat_map (λ (q : Pinned). q.blocks) (cond (not b) (p ∷ rest) rest)) (filed_is files online p.stamp)
    ∙ by_filed (is_stamp_current files p.stamp) p rest (lost_places files pins) (lost_list files online pins)

pub lost_is : (files : List FileRec) (online : List (ℕ × DiscCopy)) (pins : Option (List Pinned)) → orphans pins (entries_of files online) ≡ lost_places files (pinned_in pins)
lost_is files online None = refl
lost_is files online (Some pins) = lost_list files online pins

-- THE POOL without pinned versions
used_first : (size : ℕ) (pins : Option (List Pinned)) (files : List FileEntry) (pool : List Bool) → IsPooled size pins files pool → IsUsed size (orphans pins files ++ all_places files) pool
used_first size pins files pool was =
    used_same size (used_places pins files) (orphans pins files ++ all_places files) pool (same_swap (all_places files) (orphans pins files))
    (record { fresh = was.fresh; area = was.area; apart = was.apart })

pool_free : (size : ℕ) (pins : Option (List Pinned)) (files : List FileEntry) (old new : List Bool) → IsPooled size pins files old → HasGiven (orphans pins files) old new → IsPooled size None files new
pool_free size pins files old new was gives =
    let left : IsUsed size (all_places files) new = used_given size (orphans pins files) (all_places files) old new (used_first size pins files old was) gives in
    let all : all_places files ≡ all_places files ++ [] = sym (append-nil (all_places files)) in
    record {
      fresh = subst (λ (u : List ℕ). IsFresh size u new) all left.fresh;
      area = subst (λ (u : List ℕ). All (IsInArea size) u) all left.area;
      apart = subst (λ (u : List ℕ). AllPairs (λ j k. j ≢ k) u) all left.apart;
    }

pub no_numbers : (users : ℕ) → AreNumbers users []
no_numbers users = record { rising = λ k next. (let no : ⊥ = omega (arith, next) in absurd no); there = λ k d inside. (let no : ⊥ = omega (arith, inside) in absurd no) }

-- the memory afterwards
abbrev pub let_go : List Bool → List ℕ → Memory → Memory
let_go pool touched m = record m { pool = pool; pins = None; touched = touched }

module _ (disc : DiscState) (m : Memory) (kept : IsKept disc m) (live : m.live ≡ true) (files : List FileRec) (pins : List Pinned) (files_are : files ≡ m.files) (pins_are : pins ≡ pinned_in m.pins) where
  lost_here : lost_places files pins ≡ orphans m.pins (directory_in m).files
  lost_here = (λ i. lost_places (files_are i) (pins_are i)) ∙ sym (lost_is m.files m.online m.pins)

  -- what giving them back requires
  pub lost_blocks : AllPairs (λ j k. j ≢ k) (lost_places files pins) × All (IsTaken m.pool) (lost_places files pins)
  lost_blocks =
      subst (λ (l : List ℕ). AllPairs (λ j k. j ≢ k) l × All (IsTaken m.pool) l) (sym lost_here)
      (may_give disc.size (orphans m.pins (directory_in m).files) (all_places (directory_in m).files) m.pool
      (used_first disc.size m.pins (directory_in m).files m.pool (kept.agreed live).pool))

  -- UNPINNED
  pub gone_kept : (pool : List Bool) (touched : List ℕ) → HasGiven (lost_places files pins) m.pool pool → touched ≡ [] → IsKept disc (let_go pool touched m)
  gone_kept pool touched gives none =
      let was = kept.agreed live in
      kept_anew disc m pool None m.changed touched kept
      (λ still. pool_free disc.size m.pins (directory_in m).files m.pool pool was.pool (subst (λ (l : List ℕ). HasGiven l m.pool pool) lost_here gives))
      (λ still. record {
        changed_are = was.noted.changed_are;
        touched_are = subst (AreNumbers (length m.users)) (sym none) (no_numbers (length m.users));
        touched_changed = subst (All (λ n. has m.changed n ≡ true)) (sym none) (λ k d inside. (let no : ⊥ = omega (arith, inside) in absurd no));
        waits = was.noted.waits;
      })
      (λ still. none)

  pub gone_facts : (o : OnlineFacts) → facts_of disc m ≡ o → (pool : List Bool) (touched : List ℕ) → touched ≡ [] → facts_of disc (let_go pool touched m) ≡ record o { pins = None; touched = [] }
  gone_facts o is pool touched none =
      (λ i. let was : OnlineFacts = facts_of disc m in let now : OnlineFacts = record was { pins = None; touched = none i } in now)
      ∙ ap (λ (p : OnlineFacts). let q : OnlineFacts = record p { pins = None; touched = [] } in q) is
