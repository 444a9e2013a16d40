-- The laws of PROCESS: it changes no tree, and no reel is released before the new dump is complete.
use Rattle.std.specs.Prelude.{◌≡◌, ◌≢◌, ◌⊎◌, ℕ, ◌+◌, ◌<◌, Bool, true, false, List, [], ◌∷◌, ◌++◌, length, Option, Some, None, option_map, Result, Ok, Err}
use Rattle.std.specs.FinMap.{get}
use Rattle.std.specs.List.{AllZip}
use Rattle.g_name.specs.declared.full.Full.{Full}
use Rattle.g_entry.specs.declared.file_rec.TapeCopy.{TapeCopy}
use Rattle.g_plain.specs.declared.faults.StoreFault.{StoreFault}
use Rattle.g_plain.specs.declared.faults.StoreFault.TheVariants.{DiscReadFault, TapeReadFault, Stopped}
use Rattle.g_plain.specs.PlainTree.{FileRow}
use Rattle.g_store_model.specs.State.{State, Holding, Shelved, ReelRow, place_at, reel_at}
use Rattle.g_store_model.specs.CallStep.{Outcome, Plain}
use Rattle.g_store_model.specs.Laws.{dumped_tree, tree_in}
use Rattle.g_store_model.specs.Process.{ProcessStep, process_dump, process_refuses, process_refuses_late}

-- The reel is the same one: its serial, its capacity, and whether it is mounted are unchanged.
pub record IsThatReel (r q : ReelRow) : Type 0 where
  pub serial : q.serial ≡ r.serial
  pub capacity : q.capacity ≡ r.capacity
  pub mounted : q.mounted ≡ r.mounted

-- The reel is the same one, and has the same dumps.
pub record KeepsDumps (r q : ReelRow) : Type 0 where
  pub reel : IsThatReel r q
  pub dumps : q.dumps ≡ r.dumps

-- The reel that is written keeps its dumps, and may have one more after them. Any other reel keeps its dumps or has none any
-- more.
pub record IsWrittenOrReleased (on : ℕ) (d : Shelved) (r q : ReelRow) : Type 0 where
  pub reel : IsThatReel r q
  pub dumps : (q.dumps ≡ r.dumps) ⊎ (((r.serial ≡ on) × (q.dumps ≡ r.dumps ++ d ∷ [])) ⊎ ((r.serial ≢ on) × (q.dumps ≡ [])))

-- The dumps of a reel, if there is one.
abbrev pub dumps_of : Option ReelRow → Option (List Shelved)
dumps_of row = option_map (λ r. r.dumps) row

-- The reel has one more dump.
pub record HasOneMore (on : ℕ) (d : Shelved) (s new : State) : Type 0 where
  pub dumps : dumps_of (reel_at on new.reels) ≡ option_map (λ r. r.dumps ++ d ∷ []) (reel_at on s.reels)

-- The state after the new dump was completed: the last dump has the tree, the named reel has one more dump, and every
-- other reel keeps its dumps or was released.
pub record IsBehind (s : State) (k : Holding) (serial : ℕ) (new : State) : Type 0 where
  pub tree : dumped_tree new ≡ Some k.tree
  pub more : HasOneMore serial (process_dump k) s new
  pub reels : AllZip (IsWrittenOrReleased serial (process_dump k)) s.reels new.reels

-- The state before the new dump is completed: no dump changed.
pub record IsBefore (s new : State) : Type 0 where
  pub dumped : new.dumped ≡ s.dumped
  pub reels : AllZip KeepsDumps s.reels new.reels

-- With this fault something may have been written.
abbrev pub is_half_done : StoreFault → Bool
is_half_done DiscReadFault = true
is_half_done TapeReadFault = true
is_half_done Stopped = true
is_half_done fault = false

-- Every version that isn't empty has a copy on the reel.
abbrev pub AllOnReel : ℕ → Holding → Option Holding → Type 0
AllOnReel serial k None = ⊥
AllOnReel serial k (Some new) = (full : Full) (row : FileRow) → get k.tree.files full ≡ Some row → 0 < length row.bytes
    → (copy : TapeCopy) × ((place_at new.places row.stamp).copy ≡ Some copy) × (copy.serial ≡ serial)

-- The laws of PROCESS.
pub record ProcessKeeps : Type 0 where
  -- the tree is unchanged, for any outcome of the devices
  pub tree : (s : State) (k : Holding) (serial : ℕ) (o : Outcome) (answer : Result ℕ StoreFault) (new : State)
      → s.holding ≡ Some k → ProcessStep s k serial o answer new → tree_in new ≡ Some k.tree
  -- no dump is lost before the tree is dumped again, on the reel that was named
  pub reels : (s : State) (k : Holding) (serial : ℕ) (o : Outcome) (answer : Result ℕ StoreFault) (new : State)
      → ProcessStep s k serial o answer new → IsBefore s new ⊎ IsBehind s k serial new
  -- a refusal that is neither a failed read nor a failed write changes nothing
  pub refusals : (s : State) (k : Holding) (serial : ℕ) (o : Outcome) (fault : StoreFault) (new : State)
      → is_half_done fault ≡ false → ProcessStep s k serial o (Err fault) new → new ≡ s
  -- an answer that is Ok has the dump's number; the tree is dumped, and the disc names the copies
  pub done : (s : State) (k : Holding) (serial : ℕ) (o : Outcome) (number : ℕ) (new : State)
      → ProcessStep s k serial o (Ok number) new → (number ≡ k.last + 1) × IsBehind s k serial new × AllOnReel serial k new.holding
  -- if nothing refuses and no device fails, the answer is Ok
  pub complete : (s : State) (k : Holding) (serial : ℕ) (answer : Result ℕ StoreFault) (new : State)
      → process_refuses s k serial ≡ None → process_refuses_late s k serial ≡ None → ProcessStep s k serial Plain answer new → answer ≡ Ok (k.last + 1)
  -- the store remains up, unless a write failed
  pub up : (s : State) (k : Holding) (serial : ℕ) (o : Outcome) (answer : Result ℕ StoreFault) (new : State)
      → answer ≢ Err Stopped → ProcessStep s k serial o answer new → (new.up ≡ s.up) × (new.open_dump ≡ s.open_dump)
