-- The first part of the main claim: jobs get the answers of a plain directory tree.
use Rattle.std.specs.Prelude.{◌≡◌, ◌⊎◌, ℕ, Bool, true, false, List, Err}
use Rattle.g_plain.specs.PlainTree.{Tree}
use Rattle.g_plain.specs.declared.calls.StoreCall.{StoreCall}
use Rattle.g_plain.specs.declared.calls.StoreCall.TheVariants as call
use Rattle.g_plain.specs.declared.faults.StoreFault.TheVariants as fault
use Rattle.g_plain.specs.Programs.{Answer, Asks, Gives, Call, IsAnswer}
use Rattle.g_plain.specs.PlainStep.{plain_answer, plain_tree}

-- The answer is a wait for a tape, a full disc, or a failed read of disc or tape.
abbrev pub IsDeviceRefusal : Answer → Type 0
IsDeviceRefusal (Err (fault.WaitTape serial)) = Unit {0}
IsDeviceRefusal (Err (fault.DiscFull need room)) = Unit {0}
IsDeviceRefusal (Err fault.DiscReadFault) = Unit {0}
IsDeviceRefusal (Err fault.TapeReadFault) = Unit {0}
IsDeviceRefusal answer = ⊥

-- The answer says that a write failed during the call.
abbrev pub IsStop : Answer → Type 0
IsStop (Err fault.Stopped) = Unit {0}
IsStop answer = ⊥

-- A call that met `tree` and left `after` was answered by the plain step; or by a refusal of a device, and the tree is
-- unchanged; or it was stopped, and the tree is the one before the call or the one after it.
abbrev pub PlainOrDevice : Tree → List ℕ → StoreCall → Answer → Tree → Type 0
PlainOrDevice tree who call answer after =
    ((answer ≡ plain_answer tree who call) × (after ≡ plain_tree tree who call))
    ⊎ (IsDeviceRefusal answer × (after ≡ tree))
    ⊎ (IsStop answer × ((after ≡ tree) ⊎ (after ≡ plain_tree tree who call)))

-- A program of a job was run on a plain tree: its calls were made in order, each answered in this way.
abbrev pub RanPlainly : {A : Type 0} → List ℕ → Tree → Asks A → A → Tree → Type 0
RanPlainly who tree (Gives x) given after = (given ≡ x) × (after ≡ tree)
RanPlainly who tree (Call call more) given after =
    (answer : Answer) × (mid : Tree) × PlainOrDevice tree who call answer mid × IsAnswer answer × RanPlainly who mid (more answer) given after

-- The call may have to wait for a reel.
abbrev pub may_wait : StoreCall → Bool
may_wait (call.Fetch path mode) = true
may_wait (call.Append path bytes) = true
may_wait (call.Retrieve path) = true
may_wait asked = false
