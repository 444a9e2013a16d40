-- Works within limits, and programs that keep to them: closure under the ways to build them.
-- serves: CommandBounds, DocumentLemmas, KeptLemmas, RunBounds, UnitsLemmas, VerbBounds, crates above
use Rattle.std.proofs.Common.{◌≡◌, ℕ, ◌+◌, ◌≤◌, Bool, true, false, List, [], ◌∷◌, ◌++◌, length, length-append, nat_lt, Option, Some, None, Err, IfSome, is_some, if◌then◌else◌, refl, sym, subst, le_trans, arith}
use Rattle.std.proofs.lemmas.Bool.{ltb-false}
use Rattle.g_base.specs.Block.{blocks_for}
use Rattle.g_turn.specs.Bounds.{AlwaysGives, HasMore, IsKeptWithin, IsWithin, MayAnswer}
use Rattle.g_turn.specs.Outcomes.{set_outcome, in_error, is_over, refused, say, say_all, stopped, with_bytes}
use Rattle.g_turn.specs.State.{Broken, Done, Full, Pending, Stop, Waits, Work}
use Rattle.g_lines.specs.Lines.{ended}
use Rattle.g_macro.specs.declared.outcome.EventNote.TheVariants as note
use Rattle.g_monitor.specs.JobLines.{marked}
use Rattle.g_monitor.specs.Refusals.{error_line, fault_line}
use Rattle.g_monitor.specs.declared.errors.CommandError.{CommandError}
use Rattle.g_monitor.specs.declared.job_lines.Mark.TheVariants as mark
use Rattle.g_plain.specs.Programs.{Asks, Call, Gives, and_then}
use Rattle.g_plain.specs.PlainAnswers.{may_wait}
use Rattle.g_plain.specs.declared.calls.StoreCall.{StoreCall}
use Rattle.g_plain.specs.declared.faults.StoreFault.{StoreFault}
use Rattle.g_plain.specs.declared.faults.StoreFault.TheVariants as fault

-- at most this much text, this many orders and blocks, 16 outputs; and what was stored and what the turn resumes with are well-formed
abbrev pub Good : ℕ → ℕ → ℕ → Work → Type 0
Good room runs most w =
    (length w.text ≤ room) × (w.orders ≤ runs) × (w.blocks ≤ most) × (length w.desk.units.writers ≤ 16) × IfSome w.again (IsKeptWithin room) × HasMore w.stop w.again

-- there is something to resume with
abbrev pub There : Work → Type 0
There w = is_some w.again ≡ true

pub within_of : (room : ℕ) (w : Work) → Good room 64 4096 w → IsWithin room w
within_of room w g = record { text = g.0; orders = g.1; blocks = g.2; kept = g.4; waits = g.5 }

pub good_more : (room runs runs' most most' : ℕ) (w : Work) → runs ≤ runs' → most ≤ most' → Good room runs most w → Good room runs' most' w
good_more room runs runs' most most' w lr lm g = (g.0, le_trans g.1 lr, le_trans g.2 lm, g.3, g.4, g.5)

pub if_good : (room runs most : ℕ) (b : Bool) (x y : Work) → Good room runs most x → Good room runs most y → Good room runs most (if b then x else y)
if_good room runs most true x y gx gy = gx
if_good room runs most false x y gx gy = gy

pub if_there : (b : Bool) (x y : Work) → There x → There y → There (if b then x else y)
if_there true x y tx ty = tx
if_there false x y tx ty = ty

-- a line is printed
said_by : (room runs most : ℕ) (line : List ℕ) (w : Work) (b : Bool) → nat_lt room (length w.text + length (ended line)) ≡ b → Good room runs most w
    → Good room runs most (if b then stopped Full w else record w { text = w.text ++ ended line })
said_by room runs most line w true is g = (g.0, g.1, g.2, g.3, g.4, tt)
said_by room runs most line w false is g =
    let fits : length w.text + length (ended line) ≤ room = ltb-false room (length w.text + length (ended line)) is in
    let long : length (w.text ++ ended line) ≡ length w.text + length (ended line) = length-append w.text (ended line) in
    (subst (λ (n : ℕ). n ≤ room) (sym long) fits, g.1, g.2, g.3, g.4, g.5)

pub say_good : (room runs most : ℕ) (line : List ℕ) (w : Work) → Good room runs most w → Good room runs most (say room line w)
say_good room runs most line w g = said_by room runs most line w (nat_lt room (length w.text + length (ended line))) refl g

pub say_there : (room : ℕ) (line : List ℕ) (w : Work) → There w → There (say room line w)
say_there room line w there = if_there (nat_lt room (length w.text + length (ended line))) (stopped Full w) (record w { text = w.text ++ ended line }) there there

pub say_all_good : (room runs most : ℕ) (lines : List (List ℕ)) (w : Work) → Good room runs most w → Good room runs most (say_all room lines w)
say_all_good room runs most [] w g = g
say_all_good room runs most (line ∷ lines) w g =
    if_good room runs most (is_over (say room line w)) (say room line w) (say_all room lines (say room line w)) (say_good room runs most line w g)
    (say_all_good room runs most lines (say room line w) (say_good room runs most line w g))

pub error_good : (room runs most : ℕ) (error : CommandError) (w : Work) → Good room runs most w → Good room runs most (in_error room error w)
error_good room runs most error w g = say_good room runs most (marked mark.Error (error_line error)) (set_outcome true note.None w) g

-- a refused call waits only if it may, and only if there is something to resume with
pub refused_good : (room runs most : ℕ) (asked : StoreCall) (refusal : StoreFault) (w : Work) → MayAnswer asked (Err refusal) → (may_wait asked ≡ true → There w)
    → Good room runs most w → Good room runs most (refused room refusal w)
refused_good room runs most asked (fault.WaitTape serial) w may there g = (g.0, g.1, g.2, g.3, g.4, there may)
refused_good room runs most asked fault.Stopped w may there g = (g.0, g.1, g.2, g.3, g.4, tt)
refused_good room runs most asked refusal w may there g = say_good room runs most (marked mark.Error (fault_line refusal)) (set_outcome true note.None w) g

-- the bytes of a file take at most 128 blocks
pub few_blocks : (n : ℕ) → n ≤ 65536 → blocks_for n ≤ 128
few_blocks n most = omega (arith, most)

pub bytes_good : (room runs most : ℕ) (bytes : List ℕ) (w : Work) → length bytes ≤ 65536 → Good room runs most w → Good room runs (most + 128) (with_bytes (length bytes) w)
bytes_good room runs most bytes w short g =
    let few : blocks_for (length bytes) ≤ 128 = few_blocks (length bytes) short in
    let before : w.blocks ≤ most = g.2 in
    (g.0, g.1, omega (arith, few, before), g.3, g.4, g.5)

-- something to resume with satisfies every way to stop
pub more_some : (stop : Option Stop) (pending : Pending) → HasMore stop (Some pending)
more_some None pending = tt
more_some (Some Full) pending = tt
more_some (Some (Waits serial)) pending = refl
more_some (Some Broken) pending = tt
more_some (Some Done) pending = tt

-- what programs return
module _ (P Q : Work → Type 0) where
  pub gives_more : ((w : Work) → P w → Q w) → (p : Asks Work) → AlwaysGives P p → AlwaysGives Q p
  gives_more weaker (Gives w) g = weaker w g
  gives_more weaker (Call asked more) g = λ answer may. gives_more weaker (more answer) (g answer may)

  pub then_gives : (p : Asks Work) (next : Work → Asks Work) → AlwaysGives P p → ((w : Work) → P w → is_over w ≡ true → Q w)
      → ((w : Work) → P w → is_over w ≡ false → AlwaysGives Q (next w)) → AlwaysGives Q (and_then is_over p next)
  then_gives (Gives w) next g over on = at_end (is_over w) refl
    where
      at_end : (b : Bool) → is_over w ≡ b → AlwaysGives Q (if b then Gives w else next w)
      at_end true is = over w g is
      at_end false is = on w g is
  then_gives (Call asked more) next g over on = λ answer may. then_gives (more answer) next (g answer may) over on

-- either of two programs
module _ (P : Work → Type 0) where
  pub if_gives : (b : Bool) (p q : Asks Work) → AlwaysGives P p → AlwaysGives P q → AlwaysGives P (if b then p else q)
  if_gives true p q gp gq = gp
  if_gives false p q gp gq = gq
