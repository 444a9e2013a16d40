-- The use of a file's bytes, by what they were fetched for.
-- serves: append (err), assign (err), one_call (err), put (err), use_fetched (err, ok)
use Rattle.std.proofs.Common.{◌≡◌, ℕ, Bool, true, false, true≢false, if◌then◌else◌, List, OnErr, Result, Ok, Err, inr, length, refl, sym, subst}
use Rattle.g_turn.specs.Asking.{append, one_call, put}
use Rattle.g_turn.specs.Outcomes.{in_error, is_over, refused, with_bytes}
use Rattle.g_turn.specs.State.{Work}
use Rattle.g_turn.specs.Steps.{IsStep, RanWell}
use Rattle.g_turn.specs.Uses.{ToAssign, assign, fetch, listed, output_kept, put_or_bad, use_bytes}
use Rattle.g_turn.specs.Values.{use_of}
use Rattle.g_turn.specs.declared.uses.Use as uses
use Rattle.g_turn.specs.declared.uses.Use.TheVariants as uses_for
use Rattle.g_monitor.specs.declared.errors.CommandError.TheVariants as errors
use Rattle.g_name.specs.declared.full.Full.{Full}
use Rattle.g_name.specs.declared.path.Path.{Path}
use Rattle.g_peri.specs.JobUnits.{is_assigned, is_reader}
use Rattle.g_peri.specs.declared.unit.Unit as unit
use Rattle.g_plain.specs.Programs.{Answer, Asks, Gives, RanInPart}
use Rattle.g_plain.specs.declared.calls.StoreCall.{StoreCall}
use Rattle.g_plain.specs.declared.calls.StoreCall.TheVariants as call
use Rattle.g_plain.specs.declared.calls.StoreReply.{StoreReply}
use Rattle.g_plain.specs.declared.calls.StoreReply.TheVariants.{Appended, Made}
use Rattle.g_plain.specs.declared.faults.StoreFault.{StoreFault}
use Rattle.g_plain.specs.declared.faults.StoreFault.TheVariants as fault
use Rattle.g_plan.specs.Assembly.{assembled}
use Rattle.g_trap.specs.declared.mode_set.Mode.{Mode}
use Rattle.g_trap.specs.declared.mode_set.Mode.TheVariants as mode

module _ {S : Type 0} (answers : S → List ℕ → StoreCall → Answer → S → Type 0) (who : List ℕ) (old new : S) (room : ℕ) where
  abbrev Part : Asks Work → Type 0
  Part p = RanInPart answers who old p new

  pub put_part : (path : Path) (m : Mode) (use_for : uses.Use) (to : Path) (full : Full) (bytes : List ℕ) (w v : Work) → use_for ≡ uses_for.Put to → v ≡ with_bytes (length bytes) w
      → Part (put room true to bytes v) → Part (use_bytes room path m (use_of use_for) full bytes (with_bytes (length bytes) w))
  put_part path m use_for to full bytes w v is counted r =
      subst (λ (u : uses.Use). Part (use_bytes room path m (use_of u) full bytes (with_bytes (length bytes) w))) (sym is)
      (subst (λ (y : Work). Part (put room true to bytes y)) counted r)

  pub assemble_part : (path : Path) (m : Mode) (use_for : uses.Use) (to : Path) (full : Full) (bytes given : List ℕ) (w v : Work) → use_for ≡ uses_for.Assemble to
      → v ≡ with_bytes (length bytes) w → given ≡ bytes → Part (put_or_bad room to (assembled given) v)
      → Part (use_bytes room path m (use_of use_for) full bytes (with_bytes (length bytes) w))
  assemble_part path m use_for to full bytes given w v is counted same r =
      subst (λ (u : uses.Use). Part (use_bytes room path m (use_of u) full bytes (with_bytes (length bytes) w))) (sym is)
      (subst (λ (y : Work). Part (put_or_bad room to (assembled bytes) y)) counted
      (subst (λ (text : List ℕ). Part (put_or_bad room to (assembled text) v)) same r))

  pub append_part : (path : Path) (m : Mode) (use_for : uses.Use) (to : Path) (full : Full) (bytes : List ℕ) (w v : Work) → use_for ≡ uses_for.Append to
      → v ≡ with_bytes (length bytes) w → Part (append room to bytes v) → Part (use_bytes room path m (use_of use_for) full bytes (with_bytes (length bytes) w))
  append_part path m use_for to full bytes w v is counted r =
      subst (λ (u : uses.Use). Part (use_bytes room path m (use_of u) full bytes (with_bytes (length bytes) w))) (sym is)
      (subst (λ (y : Work). Part (append room to bytes y)) counted r)

  pub assign_part : (u : unit.Unit) (file path : Path) (w : Work) → is_assigned w.desk.units u ≡ false → is_reader u.kind ≡ true → path ≡ file
      → Part (fetch room path mode.Read (ToAssign u) w) → Part (assign room u file w)
  assign_part u file path w free reader same r =
      subst (λ (b : Bool). Part (if b then Gives (in_error room errors.InUse w) else if is_reader u.kind then fetch room file mode.Read (ToAssign u) w else Gives (output_kept room u file w))) (sym free)
      (subst (λ (b : Bool). Part (if b then fetch room file mode.Read (ToAssign u) w else Gives (output_kept room u file w))) (sym reader)
      (subst (λ (p : Path). Part (fetch room p mode.Read (ToAssign u) w)) same r))

-- a listing makes no call
pub list_well : {S : Type 0} (answers : S → List ℕ → StoreCall → Answer → S → Type 0) (is_spent : S → Bool) (can_wait : S → ℕ → Bool) (who : List ℕ) (s : S) (room : ℕ)
    → (path : Path) (m : Mode) (use_for : uses.Use) (full : Full) (bytes : List ℕ) (w v given : Work) → use_for ≡ uses_for.List → v ≡ with_bytes (length bytes) w
    → given ≡ listed room path m full bytes v → RanWell answers is_spent can_wait who s (use_bytes room path m (use_of use_for) full bytes (with_bytes (length bytes) w)) given s
list_well answers is_spent can_wait who s room path m use_for full bytes w v given is counted listing =
    subst (λ (u : uses.Use). RanWell answers is_spent can_wait who s (use_bytes room path m (use_of u) full bytes (with_bytes (length bytes) w)) given s) (sym is)
    (subst (λ (y : Work). given ≡ listed room path m full bytes y) counted listing, refl)

-- PLAN makes the call that the assembly of its source determines
pub assemble_well : {S : Type 0} (answers : S → List ℕ → StoreCall → Answer → S → Type 0) (is_spent : S → Bool) (can_wait : S → ℕ → Bool) (who : List ℕ) (s t : S) (room : ℕ)
    → (path : Path) (m : Mode) (use_for : uses.Use) (to : Path) (full : Full) (bytes given : List ℕ) (w v made : Work) → use_for ≡ uses_for.Assemble to
    → v ≡ with_bytes (length bytes) w → given ≡ bytes → RanWell answers is_spent can_wait who s (put_or_bad room to (assembled given) v) made t
    → RanWell answers is_spent can_wait who s (use_bytes room path m (use_of use_for) full bytes (with_bytes (length bytes) w)) made t
assemble_well answers is_spent can_wait who s t room path m use_for to full bytes given w v made is counted same r =
    subst (λ (u : uses.Use). RanWell answers is_spent can_wait who s (use_bytes room path m (use_of u) full bytes (with_bytes (length bytes) w)) made t) (sym is)
    (subst (λ (y : Work). RanWell answers is_spent can_wait who s (put_or_bad room to (assembled bytes) y) made t) counted
    (subst (λ (text : List ℕ). RanWell answers is_spent can_wait who s (put_or_bad room to (assembled text) v) made t) same r))

not_spent : (b : Bool) → (b ≡ true → ⊥) → b ≡ false
not_spent true never = absurd (never refl)
not_spent false never = refl

-- after a refusal a store is spent only if the work is over
pub refused_live : {S : Type 0} (answers : S → List ℕ → StoreCall → Answer → S → Type 0) (is_spent : S → Bool) (can_wait : S → ℕ → Bool) (who : List ℕ) (old new : S) (room : ℕ) (asked : StoreCall)
    (refusal : StoreFault) (w v : Work) → IsStep answers is_spent can_wait who old asked (Err refusal) new → v ≡ refused room refusal w → is_over v ≡ false → is_spent new ≡ false
refused_live answers is_spent can_wait who old new room asked fault.Stopped w v step is on = absurd (true≢false (subst (λ (u : Work). is_over u ≡ false) is on))
refused_live answers is_spent can_wait who old new room asked refusal w v step is on =
    not_spent (is_spent new) (λ spent. let same = step.spent.0 spent in (let never : ⊥ = cc in never))

-- a call was granted, and then memory ran out
pub granted_asked : {T E S : Type 0} (answers : S → List ℕ → StoreCall → Answer → S → Type 0) (who : List ℕ) (old new : S) (room : ℕ) (asked : StoreCall) (w : Work) (reply : StoreReply) (r : Result T E)
    → answers old who asked (Ok reply) new → OnErr r (RanInPart answers who old (one_call room asked w) new)
granted_asked answers who old new room asked w reply (Ok x) a = tt
granted_asked answers who old new room asked w reply (Err e) a = inr (inr (Ok reply, new, a, tt, refl))

-- bytes were appended to a file, and then memory ran out
pub append_asked : {T E S : Type 0} (answers : S → List ℕ → StoreCall → Answer → S → Type 0) (who : List ℕ) (old new : S) (room : ℕ) (path : Path) (bytes : List ℕ) (w : Work)
    (reply : StoreReply) (full : Full) (r : Result T E) → reply ≡ Appended full → answers old who (call.Append path bytes) (Ok reply) new → OnErr r (RanInPart answers who old (append room path bytes w) new)
append_asked answers who old new room path bytes w reply full (Ok x) is a = tt
append_asked answers who old new room path bytes w reply full (Err e) is a =
    inr (inr (Ok (Appended full), new, subst (λ (made : StoreReply). answers old who (call.Append path bytes) (Ok made) new) is a, tt, refl))

-- bytes were written, and then memory ran out
pub put_asked : {T E S : Type 0} (answers : S → List ℕ → StoreCall → Answer → S → Type 0) (who : List ℕ) (old new : S) (room : ℕ) (well : Bool) (path : Path) (bytes : List ℕ) (w : Work)
    (reply : StoreReply) (full : Full) (r : Result T E) → reply ≡ Made full → answers old who (call.Put path bytes) (Ok reply) new → OnErr r (RanInPart answers who old (put room well path bytes w) new)
put_asked answers who old new room well path bytes w reply full (Ok x) is a = tt
put_asked answers who old new room well path bytes w reply full (Err e) is a =
    inr (inr (Ok (Made full), new, subst (λ (made : StoreReply). answers old who (call.Put path bytes) (Ok made) new) is a, tt, refl))
