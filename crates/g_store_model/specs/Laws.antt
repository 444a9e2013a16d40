-- The laws of the step: unless a device intervenes, the reply and the tree are those of the plain step, and events other
-- than jobs' calls change no tree.
use Rattle.std.specs.Prelude.{◌≡◌, ◌≢◌, ◌⊎◌, ℕ, ◌≤◌, Bool, true, false, List, Option, Some, None, option_map, Result, Ok, Err}
use Rattle.g_name.specs.declared.full.Full.{Full}
use Rattle.g_plain.specs.declared.calls.StoreCall.{StoreCall}
use Rattle.g_plain.specs.declared.calls.StoreReply.{StoreReply}
use Rattle.g_plain.specs.declared.faults.StoreFault.{StoreFault}
use Rattle.g_plain.specs.declared.faults.StoreFault.TheVariants.{WaitTape, DiscFull, DiscReadFault, TapeReadFault, Stopped}
use Rattle.g_plain.specs.PlainTree.{Tree}
use Rattle.g_plain.specs.PlainStep.{fault_of, plain_answer, plain_tree}
use Rattle.g_store_model.specs.State.{State, Holding, OpenDump, is_mounted}
use Rattle.g_store_model.specs.CallStep.{Outcome, Plain, CallStep, is_offline, reel_of, need, room_until}
use Rattle.g_store_model.specs.DumpSteps.{DumpStep, MigrateStep, MountStep, OpenStep, Stepped, Going, Completed, UnmountStep}
use Rattle.g_store_model.specs.Rising.{StartStep}

-- The tree of the state, if the disc represents something.
abbrev pub tree_in : State → Option Tree
tree_in s = option_map (λ k. k.tree) s.holding

-- If the answer is Ok, it is that of the plain step, and so is the tree after it.
abbrev pub AnswersPlainly : Type 0
AnswersPlainly = (s : State) (k : Holding) (who : List ℕ) (call : StoreCall) (o : Outcome) (reply : StoreReply) (new : State)
    → s.holding ≡ Some k → CallStep s k who call o (Ok reply) new → (plain_answer k.tree who call ≡ Ok reply) × (tree_in new ≡ Some (plain_tree k.tree who call))

-- The refusal concerns room or devices. All others of a call are those of the plain step.
abbrev pub is_of_devices : StoreFault → Bool
is_of_devices (WaitTape serial) = true
is_of_devices (DiscFull blocks left) = true
is_of_devices DiscReadFault = true
is_of_devices TapeReadFault = true
is_of_devices Stopped = true
is_of_devices fault = false

-- A refusal of the plain step is the answer, for any outcome of the devices.
abbrev pub PlainRefusals : Type 0
PlainRefusals = (s : State) (k : Holding) (who : List ℕ) (call : StoreCall) (o : Outcome) (fault : StoreFault) (answer : Result StoreReply StoreFault) (new : State)
    → fault_of k.tree who call ≡ Some fault → CallStep s k who call o answer new → answer ≡ Err fault

-- Apart from refusals that concern room or devices, the step has no refusals but those of the plain step.
abbrev pub RefusesPlainly : Type 0
RefusesPlainly = (s : State) (k : Holding) (who : List ℕ) (call : StoreCall) (o : Outcome) (fault : StoreFault) (new : State)
    → is_of_devices fault ≡ false → CallStep s k who call o (Err fault) new → plain_answer k.tree who call ≡ Err fault

-- Completeness: a call that the plain step grants has the plain answer if no device fails, its file is on the disc or its reel is
-- mounted, and there is enough room when files up to some stamp are taken offline.
abbrev pub GrantedIsDone : Type 0
GrantedIsDone = (s : State) (k : Holding) (who : List ℕ) (call : StoreCall) (until : ℕ) (answer : Result StoreReply StoreFault) (new : State)
    → fault_of k.tree who call ≡ None → (is_offline s k who call ≡ true → is_mounted s (reel_of s k who call) ≡ true)
    → need s k who call ≤ room_until s k who call until → CallStep s k who call Plain answer new → answer ≡ plain_answer k.tree who call

-- A refusal other than a failed write changes nothing.
abbrev pub RefusalsKeep : Type 0
RefusalsKeep = (s : State) (k : Holding) (who : List ℕ) (call : StoreCall) (o : Outcome) (fault : StoreFault) (new : State)
    → fault ≢ Stopped → CallStep s k who call o (Err fault) new → new ≡ s

-- A failed write leaves the tree before the call, or that of the plain step.
abbrev pub StopsLeave : Type 0
StopsLeave = (s : State) (k : Holding) (who : List ℕ) (call : StoreCall) (o : Outcome) (new : State)
    → s.holding ≡ Some k → CallStep s k who call o (Err Stopped) new → (tree_in new ≡ Some k.tree) ⊎ (tree_in new ≡ Some (plain_tree k.tree who call))

-- No step of a dump changes the tree.
abbrev pub DumpsKeepTree : Type 0
DumpsKeepTree = (s : State) (k : Holding) (d : OpenDump) (o : Outcome) (answer : Result Stepped StoreFault) (new : State)
    → s.holding ≡ Some k → DumpStep s k d o answer new → tree_in new ≡ Some k.tree

-- Nor does an opening, a migration, a mount, an unmount or a START, whether or not a write fails.
pub record EventsKeepTree : Type 0 where
  pub opening : (s : State) (k : Holding) (serial : ℕ) (o : Outcome) (answer : Result ℕ StoreFault) (new : State)
      → s.holding ≡ Some k → OpenStep s k serial o answer new → tree_in new ≡ Some k.tree
  pub migrating : (s : State) (k : Holding) (user : Option (List ℕ)) (full : Full) (o : Outcome) (answer : Result Full StoreFault) (new : State)
      → s.holding ≡ Some k → MigrateStep s k user full o answer new → tree_in new ≡ Some k.tree
  pub mounting : (s : State) (k : Holding) (serial : ℕ) (answer : Result (Unit {0}) StoreFault) (new : State)
      → s.holding ≡ Some k → MountStep s serial answer new → tree_in new ≡ Some k.tree
  pub unmounting : (s : State) (k : Holding) (serial : ℕ) (answer : Result (Unit {0}) StoreFault) (new : State)
      → s.holding ≡ Some k → UnmountStep s serial answer new → tree_in new ≡ Some k.tree
  pub starting : (s : State) (k : Holding) (o : Outcome) (answer : Result (Option ℕ) StoreFault) (new : State)
      → s.holding ≡ Some k → StartStep s o answer new → tree_in new ≡ Some k.tree

-- The tree of the open dump.
abbrev pub opened_tree : State → Option Tree
opened_tree s = option_map (λ d. d.tree) s.open_dump

-- The tree of the last completed dump.
abbrev pub dumped_tree : State → Option Tree
dumped_tree s = option_map (λ d. d.tree) s.dumped

-- A dump has the tree of its opening: the opening records the tree, no other event changes the recorded one while the dump is
-- open, and a dump that completes has it.
pub record OpeningsTree : Type 0 where
  pub opens : (s : State) (k : Holding) (serial : ℕ) (o : Outcome) (number : ℕ) (new : State)
      → OpenStep s k serial o (Ok number) new → opened_tree new ≡ Some k.tree
  pub calls : (s : State) (k : Holding) (who : List ℕ) (call : StoreCall) (o : Outcome) (answer : Result StoreReply StoreFault) (new : State)
      → answer ≢ Err Stopped → CallStep s k who call o answer new → opened_tree new ≡ opened_tree s
  pub migrating : (s : State) (k : Holding) (user : Option (List ℕ)) (full : Full) (o : Outcome) (answer : Result Full StoreFault) (new : State)
      → answer ≢ Err Stopped → MigrateStep s k user full o answer new → opened_tree new ≡ opened_tree s
  pub mounting : (s : State) (serial : ℕ) (answer : Result (Unit {0}) StoreFault) (new : State)
      → answer ≢ Err Stopped → MountStep s serial answer new → opened_tree new ≡ opened_tree s
  pub unmounting : (s : State) (serial : ℕ) (answer : Result (Unit {0}) StoreFault) (new : State)
      → answer ≢ Err Stopped → UnmountStep s serial answer new → opened_tree new ≡ opened_tree s
  pub going : (s : State) (k : Holding) (d : OpenDump) (o : Outcome) (new : State)
      → DumpStep s k d o (Ok Going) new → opened_tree new ≡ Some d.tree
  pub completes : (s : State) (k : Holding) (d : OpenDump) (o : Outcome) (number : ℕ) (new : State)
      → DumpStep s k d o (Ok (Completed number)) new → dumped_tree new ≡ Some d.tree

-- If no device fails, the answer of a call and the state after it are determined.
abbrev pub StepIsOne : Type 0
StepIsOne = (s : State) (k : Holding) (who : List ℕ) (call : StoreCall) (one other : Result StoreReply StoreFault) (new_one new_other : State)
    → CallStep s k who call Plain one new_one → CallStep s k who call Plain other new_other → (one ≡ other) × (new_one ≡ new_other)
