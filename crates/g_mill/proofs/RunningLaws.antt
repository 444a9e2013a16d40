-- Sequences of orders: one more order at the end, and what an order with another event than Ran can't be.
-- serves: run, run_one, step (event, machine)
use Rattle.std.proofs.Common.{◌≡◌, ℕ, zero, suc, ◌+◌, ◌/◌, ◌%◌, ◌^◌, ◌<◌, ◌≤◌, Bool, true, false, Option, Some, None, refl, sym, ap, subst, ◌∙◌, arith}
use Rattle.std.specs.Prelude.{◌≢◌, List, nat_lt, option_and_then, unwrap_or, slice_get, ◌==◌, if◌then◌else◌, ⊤}
use Rattle.std.specs.Option.{option_map}
use Rattle.std.proofs.lemmas.Bool.{ltb-true, lt-ltb, true≢false, false_from_ne_true}
use Rattle.std.proofs.lemmas.Option.{slice_get_within, slice_get-get_or, get_or_from_slice_get, none-some}
use Rattle.g_order.proofs.CodingLaws.{operands_of_word}
use Rattle.g_order.specs.Order.{Fields, decoded, fields_of, is_order}
use Rattle.g_order.specs.Table.{function_of}
use Rattle.g_order.specs.declared.functions.Function.{Function}
use Rattle.g_order.specs.declared.functions.Function.TheVariants.{Load, Store, LoadNumber, LoadCharacter, StoreZero, DepositCharacter, Multiply, Branch, Call, Exit, ShiftLeft, ShiftRight, Null, Move, Transfer, Halt, Display, Delete}
use Rattle.g_mill.specs.declared.event.Event.{Event}
use Rattle.g_mill.specs.declared.event.Event.TheVariants.{Ran, Peri, Halted, Displayed, Deleted, Illegal}
use Rattle.g_mill.specs.declared.step.PlainOutcome.{PlainOutcome}
use Rattle.g_mill.specs.declared.step.PlainOutcome.TheVariants as quick
use Rattle.g_mill.specs.Machine.{Machine, size, address, operand, text_at, following, going_to, operands}
use Rattle.g_mill.specs.Effect.{Outcome, effect, shifted, performed, obeyed, order}
use Rattle.g_mill.specs.OrderReplies.{DoesQuick, TellsMore}
use Rattle.g_mill.specs.Running.{RunsOne, RunsTo}

-- a run with one more order at the end
pub runs_more : (count : ℕ) (old mid new : Machine) → RunsTo count old mid → order mid ≡ (new, Ran) → RunsTo (suc count) old new
runs_more zero old mid new is one =
    let there : order old ≡ (new, Ran) = subst (λ (m : Machine). order m ≡ (new, Ran)) is one in
    (ap (λ (both : Machine × Event). both.1) there, sym (ap (λ (both : Machine × Event). both.0) there))
runs_more (suc count) old mid new runs one = (runs.0, runs_more count (order old).0 mid new runs.1 one)

abbrev is_ran : Event → Bool
is_ran Ran = true
is_ran (Peri area) = false
is_ran (Halted text) = false
is_ran (Displayed text) = false
is_ran (Deleted text) = false
is_ran (Illegal word at) = false

other : (event : Event) → is_ran event ≡ false → event ≢ Ran
other event isnt is = true≢false (sym (ap is_ran is) ∙ isnt)

text_more : (tell : List ℕ → Machine × Event) (text : Option (List ℕ)) → ((t : List ℕ) → is_ran (tell t).1 ≡ false) → TellsMore (option_map tell text)
text_more tell None isnt = tt
text_more tell (Some text) isnt = other (tell text).1 (isnt text)

-- whether orders of this function have no event but Ran
abbrev pub is_plain : Function → Bool
is_plain Transfer = false
is_plain Halt = false
is_plain Display = false
is_plain Delete = false
is_plain function = true

-- an order whose function isn't plain has another event than Ran
pub not_plain : (function : Function) (s : Machine) (o : Fields) → is_plain function ≡ false → TellsMore (effect function s o)
not_plain (Load operation) s o isnt = absurd (true≢false isnt)
not_plain (Store operation) s o isnt = absurd (true≢false isnt)
not_plain (LoadNumber operation) s o isnt = absurd (true≢false isnt)
not_plain LoadCharacter s o isnt = absurd (true≢false isnt)
not_plain StoreZero s o isnt = absurd (true≢false isnt)
not_plain DepositCharacter s o isnt = absurd (true≢false isnt)
not_plain Multiply s o isnt = absurd (true≢false isnt)
not_plain (Branch condition) s o isnt = absurd (true≢false isnt)
not_plain Call s o isnt = absurd (true≢false isnt)
not_plain Exit s o isnt = absurd (true≢false isnt)
not_plain ShiftLeft s o isnt = absurd (true≢false isnt)
not_plain ShiftRight s o isnt = absurd (true≢false isnt)
not_plain Null s o isnt = absurd (true≢false isnt)
not_plain Move s o isnt = absurd (true≢false isnt)
not_plain Transfer s o isnt = other (Peri (address s o)) refl
not_plain Halt s o isnt = text_more _ (text_at s (address s o)) (λ t. refl)
not_plain Display s o isnt = text_more _ (text_at s (address s o)) (λ t. refl)
not_plain Delete s o isnt = text_more _ (text_at s (address s o)) (λ t. refl)

-- the outcome of an order that isn't illegal and whose event is Ran
abbrev JustRan : Outcome → Type 0
JustRan None = ⊤
JustRan (Some both) = both.1 ≡ Ran

record Runs (outcome : Outcome) : Type 0 where
  just : JustRan outcome

through : {X : Type 0} (g : X → Outcome) (v : Option X) → ((x : X) → Runs (g x)) → Runs (option_and_then g v)
through g None h = record { just = tt }
through g (Some x) h = h x

either : (b : Bool) (x y : Outcome) → Runs x → Runs y → Runs (if b then x else y)
either true x y hx hy = hx
either false x y hx hy = hy

ran : (p : Machine) → Runs (Some (p, Ran))
ran p = record { just = refl }

nothing : Runs None
nothing = record { just = tt }

runs_shifted : (left : Bool) (s : Machine) (o : Fields) → Runs (shifted left s o)
runs_shifted left s o = (let kind = address s o % 2 ^ 12 / 2 ^ 10 in
    either (kind == 0) _ _ (ran _) (either (kind == 1) _ _ (ran _) nothing))

plain_runs : (function : Function) (s : Machine) (o : Fields) → is_plain function ≡ true → Runs (effect function s o)
plain_runs (Load operation) s o is = through _ (operand s o) (λ n. ran _)
plain_runs (Store operation) s o is = through _ (operand s o) (λ n. ran _)
plain_runs (LoadNumber operation) s o is = ran _
plain_runs LoadCharacter s o is = through _ (operand s o) (λ n. ran _)
plain_runs StoreZero s o is = through _ (operand s o) (λ n. ran _)
plain_runs DepositCharacter s o is = through _ (operand s o) (λ n. ran _)
plain_runs Multiply s o is = through _ (operand s o) (λ n. ran _)
plain_runs (Branch condition) s o is = ran _
plain_runs Call s o is = ran _
plain_runs Exit s o is = ran _
plain_runs ShiftLeft s o is = runs_shifted true s o
plain_runs ShiftRight s o is = runs_shifted false s o
plain_runs Null s o is = ran _
plain_runs Move s o is = either _ _ _ (ran _) nothing
plain_runs Transfer s o is = absurd (true≢false (sym is))
plain_runs Halt s o is = absurd (true≢false (sym is))
plain_runs Display s o is = absurd (true≢false (sym is))
plain_runs Delete s o is = absurd (true≢false (sym is))

neither : (outcome : Outcome) → Runs outcome → TellsMore outcome → outcome ≡ None
neither None runs tells = refl
neither (Some both) runs tells = absurd (tells runs.just)

-- an order of a plain function whose event isn't Ran is illegal
pub illegal_else : (function : Function) (s : Machine) (o : Fields) → is_plain function ≡ true → TellsMore (effect function s o) → effect function s o ≡ None
illegal_else function s o is tells = neither (effect function s o) (plain_runs function s o is) tells

if_true : (b : Bool) (x y : Machine × Event) → b ≡ true → (if b then x else y) ≡ x
if_true true x y is = refl
if_true false x y is = absurd (true≢false (sym is))

if_false : (b : Bool) (x y : Machine × Event) → b ≡ false → (if b then x else y) ≡ y
if_false true x y is = absurd (true≢false is)
if_false false x y is = refl

pub past_order : (s : Machine) → slice_get s.words s.next ≡ None → order s ≡ (s, Illegal 0 s.next)
past_order s none =
    if_false (nat_lt s.next (size s)) _ _ (false_from_ne_true _ (λ below. none-some _ (sym none ∙ slice_get-get_or s.words s.next 0 (ltb-true _ _ below))))

pub none_ran : (count : ℕ) (old new : Machine) → RunsTo count old new → count ≤ 1 → count ≢ 1 → new ≡ old
none_ran zero old new runs most isnt = runs
none_ran (suc zero) old new runs most isnt = absurd (isnt refl)
none_ran (suc (suc count)) old new runs most isnt = let never : ⊥ = omega (arith, most) in absurd never

pub no_more : (count : ℕ) → count ≤ 1 → count ≢ 1 → count < 1
no_more zero most isnt = omega arith
no_more (suc zero) most isnt = absurd (isnt refl)
no_more (suc (suc count)) most isnt = let never : ⊥ = omega (arith, most) in absurd never

-- the order of the word at the program's next address
there : (s : Machine) (word : ℕ) → slice_get s.words s.next ≡ Some word → order s ≡ obeyed s word
there s word is =
    if_true (nat_lt s.next (size s)) _ _ (lt-ltb _ _ (slice_get_within s.words s.next word is)) ∙ ap (obeyed s) (get_or_from_slice_get s.words s.next word 0 is)

more : (s : Machine) (word : ℕ) (outcome : Outcome) → TellsMore outcome → (unwrap_or outcome (s, Illegal word s.next)).1 ≢ Ran
more s word None tells = other (Illegal word s.next) refl
more s word (Some both) tells = tells

pub more_there : (s : Machine) (word : ℕ) → slice_get s.words s.next ≡ Some word → TellsMore (option_and_then (performed s) (decoded word)) → (order s).1 ≢ Ran
more_there s word is tells =
    subst (λ (both : Machine × Event). both.1 ≢ Ran) (sym (there s word is)) (more s word (option_and_then (performed s) (decoded word)) tells)

-- the outcome of the order of that word, and the outcome if it is illegal
pub told_there : (s same new : Machine) (word : ℕ) (event : Event) → slice_get s.words s.next ≡ Some word → same ≡ s → option_and_then (performed same) (decoded word) ≡ Some (new, event) → order s ≡ (new, event)
told_there s same new word event is unchanged told =
    let outcome : option_and_then (performed s) (decoded word) ≡ Some (new, event) = subst (λ (m : Machine). option_and_then (performed m) (decoded word) ≡ Some (new, event)) unchanged told in
    there s word is ∙ ap (λ (o : Outcome). unwrap_or o (s, Illegal word s.next)) outcome

pub illegal_there : (s same : Machine) (word : ℕ) → slice_get s.words s.next ≡ Some word → same ≡ s → option_and_then (performed same) (decoded word) ≡ None → order s ≡ (s, Illegal word s.next)
illegal_there s same word is unchanged none =
    let outcome : option_and_then (performed s) (decoded word) ≡ None = subst (λ (m : Machine). option_and_then (performed m) (decoded word) ≡ None) unchanged none in
    there s word is ∙ ap (λ (o : Outcome). unwrap_or o (s, Illegal word s.next)) outcome

-- an effect depends only on X, M and N
effect_by : (function : Function) (s : Machine) (o : Fields) → effect function s o ≡ effect function s (operands o.x o.m o.n)
effect_by (Load operation) s o = refl
effect_by (Store operation) s o = refl
effect_by (LoadNumber operation) s o = refl
effect_by LoadCharacter s o = refl
effect_by StoreZero s o = refl
effect_by DepositCharacter s o = refl
effect_by Multiply s o = refl
effect_by (Branch condition) s o = refl
effect_by Call s o = refl
effect_by Exit s o = refl
effect_by ShiftLeft s o = refl
effect_by ShiftRight s o = refl
effect_by Null s o = refl
effect_by Move s o = refl
effect_by Transfer s o = refl
effect_by Halt s o = refl
effect_by Display s o = refl
effect_by Delete s o = refl

-- the outcome of a word whose function the table has, by the fields that its effect uses
pub done_by : (s : Machine) (word x m n : ℕ) (function : Function) → x ≡ (fields_of word).x → x < 8 → function_of (fields_of word).f (fields_of word).x ≡ Some function → m ≡ (fields_of word).m → n ≡ (fields_of word).n
    → option_and_then (performed s) (decoded word) ≡ effect function s (operands x m n)
done_by s word x m n function x_is small row m_is n_is =
    let o = fields_of word in
    let valid : is_order o.x o.f o.m o.n ≡ true = rw (lt-ltb o.x 8 (subst (λ (k : ℕ). k < 8) x_is small), row, operands_of_word word) refl in
    let is : decoded word ≡ Some o = ap (λ (b : Bool). if b then Some o else None) valid in
    ap (option_and_then (performed s)) is ∙ ap (option_and_then (λ (found : Function). effect found s o)) row ∙ effect_by function s o ∙ (rw (x_is, m_is, n_is) refl)

-- an order of a function that isn't plain has another event than Ran, unless it is illegal
pub left_by : (s : Machine) (word x : ℕ) (function : Function) → x ≡ (fields_of word).x → x < 8 → function_of (fields_of word).f (fields_of word).x ≡ Some function → is_plain function ≡ false
    → TellsMore (option_and_then (performed s) (decoded word))
left_by s word x function x_is small row isnt =
    subst TellsMore (sym (done_by s word x (fields_of word).m (fields_of word).n function x_is small row refl refl)) (not_plain function s (operands x (fields_of word).m (fields_of word).n) isnt)

-- the outcome of a word, by its function
pub performed_by : (s : Machine) (word : ℕ) (o : Fields) (function : Function) → decoded word ≡ Some o → function_of o.f o.x ≡ Some function → option_and_then (performed s) (decoded word) ≡ effect function s o
performed_by s word o function is row = ap (option_and_then (performed s)) is ∙ ap (option_and_then (λ (found : Function). effect found s o)) row

more_by : (s : Machine) (word : ℕ) (outcome : Outcome) → (unwrap_or outcome (s, Illegal word s.next)).1 ≢ Ran → TellsMore outcome
more_by s word None isnt = tt
more_by s word (Some both) isnt = isnt

-- the order of the word at the next address, if its event isn't Ran
pub tells_there : (s : Machine) (word : ℕ) → slice_get s.words s.next ≡ Some word → (order s).1 ≢ Ran → TellsMore (option_and_then (performed s) (decoded word))
tells_there s word is isnt =
    more_by s word (option_and_then (performed s) (decoded word)) (subst (λ (both : Machine × Event). both.1 ≢ Ran) (there s word is) isnt)

-- a run with one more order, which was at a given address and whose next address is set afterwards
pub runs_more_at : (count at : ℕ) (old mid new : Machine) (next : ℕ) → RunsTo count old (going_to mid at) → order (going_to mid at) ≡ (going_to new next, Ran) → RunsTo (count + 1) old (going_to new next)
runs_more_at count at old mid new next runs one =
    let more : suc count ≡ count + 1 = omega arith in
    subst (λ (n : ℕ). RunsTo n old (going_to new next)) more (runs_more count old (going_to mid at) (going_to new next) runs one)

-- the result of a call that executes the order at a given address of the program
pub runs_one : (result : PlainOutcome) (at : ℕ) (old new : Machine) (word : ℕ) → slice_get old.words at ≡ Some word → DoesQuick result at old new (option_and_then (performed (going_to old at)) (decoded word)) → RunsOne result at old new
runs_one quick.Ran at old new word is does = told_there (going_to old at) (going_to old at) (going_to new (following at)) word Ran is refl does
runs_one (quick.Jumped next) at old new word is does = (told_there (going_to old at) (going_to old at) (going_to new next) word Ran is refl does.0, does.1)
runs_one (quick.Passed to) at old new word is does = told_there (going_to old at) (going_to old at) (going_to new (following at)) word Ran is refl does
runs_one quick.Illegal at old new word is does = (does.1, more_there (going_to old at) word is (subst TellsMore (sym does.0) tt))
runs_one quick.NeedsStep at old new word is does = (does.0, more_there (going_to old at) word is does.1)
