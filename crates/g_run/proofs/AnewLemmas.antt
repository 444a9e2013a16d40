-- STARTING OVER: lines in sequence on blank devices. Apart from MOUNT, UNMOUNT and STOP, the first of them is a FORMAT.
-- serves: LineLemmas, NextLemmas, OverLemmas, crates above
use Rattle.std.proofs.Common.{◌≡◌, ◌⊎◌, ◌≤◌, ◌++◌, ℕ, true, List, [], ◌∷◌, Some, None, All, refl, sym, ◌∙◌, ap, subst, inl, inr}
use Rattle.std.proofs.lemmas.List.Elements.{All-cons, All-head, All-nil, All-pop, All-tail, All-weaker}
use Rattle.g_base.proofs.CountLemmas.{Rose-before, Rose-behind}
use Rattle.g_script.specs.declared.operator.Operator.{Operator}
use Rattle.g_script.specs.declared.operator.Operator.TheVariants as line
use Rattle.g_script.specs.declared.operator.Timed.{Timed}
use Rattle.g_run_model.specs.Devices.{Devices}
use Rattle.g_laws_runs.specs.BeginningAnew.{AreBlank, BeginAnew, NoDiscFault, is_aside, is_first, with_new_disc}
use Rattle.g_day.specs.BeginningAnew.{IsBlank, beside_new}
use Rattle.g_day.specs.System.{Down, SameDevices, SystemFacts, Up, devices_in}
use Rattle.g_ticks.specs.Parts.{AreAside, AreFirst}

-- WHERE THE DISC COUNTED NO FAILURE in two parts, it counted none in either
pub first_well : (a b c : Devices) → SameDevices b c → NoDiscFault a c → NoDiscFault a b
first_well a b c later well = record {
  no_read = λ rose. well.no_read (Rose-before {a = a.disc.read_faults} {b = b.disc.read_faults} {c = c.disc.read_faults} rose later.read_faults);
  no_write = λ rose. well.no_write (Rose-before {a = a.disc.write_faults} {b = b.disc.write_faults} {c = c.disc.write_faults} rose later.write_faults);
}

pub later_well : (a b c : Devices) → SameDevices a b → NoDiscFault a c → NoDiscFault b c
later_well a b c first well = record {
  no_read = λ rose. well.no_read (Rose-behind {a = a.disc.read_faults} {b = b.disc.read_faults} {c = c.disc.read_faults} first.read_faults rose);
  no_write = λ rose. well.no_write (Rose-behind {a = a.disc.write_faults} {b = b.disc.write_faults} {c = c.disc.write_faults} first.write_faults rose);
}

-- THE FORMAT OF SOME LINES and one more: it is the one, with nothing but such lines before it, or it is among the others
split : (done front rest : List Timed) (next format : Timed) → done ++ next ∷ [] ≡ front ++ format ∷ rest → ((done ≡ front) × (next ≡ format)) ⊎ ((more : List Timed) × (done ≡ front ++ format ∷ more))
split [] [] rest next format is = inl (refl, let same : next ≡ format = cc in same)
split [] (f ∷ front) rest next format is = absurd (by front (let same : [] ≡ front ++ format ∷ rest = cc in same))
  where
    by : (ls : List Timed) → [] ≡ ls ++ format ∷ rest → ⊥
    by [] e = let no : ⊥ = cc in no
    by (l ∷ ls) e = let no : ⊥ = cc in no
split (d ∷ done) [] rest next format is = inr (done, ap (λ (t : Timed). t ∷ done) (let same : d ≡ format = cc in same))
split (d ∷ done) (f ∷ front) rest next format is = by (split done front rest next format (let same : done ++ next ∷ [] ≡ front ++ format ∷ rest = cc in same))
  where
    head : d ≡ f
    head = cc

    by : ((done ≡ front) × (next ≡ format)) ⊎ ((more : List Timed) × (done ≡ front ++ format ∷ more)) → ((d ∷ done ≡ f ∷ front) × (next ≡ format)) ⊎ ((more : List Timed) × (d ∷ done ≡ f ∷ (front ++ format ∷ more)))
    by (inl (same, it)) = inl (ap (λ (t : Timed). t ∷ done) head ∙ ap (λ (ts : List Timed). f ∷ ts) same, it)
    by (inr (more, same)) = inr (more, ap (λ (t : Timed). t ∷ done) head ∙ ap (λ (ts : List Timed). f ∷ ts) same)

-- some of the lines: they are such lines, or they have the FORMAT
cut : (a b front rest : List Timed) (format : Timed) → a ++ b ≡ front ++ format ∷ rest → ((more : List Timed) × (front ≡ a ++ more)) ⊎ ((more : List Timed) × (a ≡ front ++ format ∷ more))
cut [] b front rest format is = inl (front, refl)
cut (x ∷ a) b [] rest format is = inr (a, ap (λ (t : Timed). t ∷ a) (let same : x ≡ format = cc in same))
cut (x ∷ a) b (f ∷ front) rest format is = by (cut a b front rest format (let same : a ++ b ≡ front ++ format ∷ rest = cc in same))
  where
    head : x ≡ f
    head = cc

    by : ((more : List Timed) × (front ≡ a ++ more)) ⊎ ((more : List Timed) × (a ≡ front ++ format ∷ more))
        → ((more : List Timed) × (f ∷ front ≡ x ∷ (a ++ more))) ⊎ ((more : List Timed) × (x ∷ a ≡ f ∷ (front ++ format ∷ more)))
    by (inl (more, same)) = inl (more, ap (λ (t : Timed). t ∷ front) (sym head) ∙ ap (λ (ts : List Timed). x ∷ ts) same)
    by (inr (more, same)) = inr (more, ap (λ (t : Timed). t ∷ a) head ∙ ap (λ (ts : List Timed). f ∷ ts) same)

-- what is so of all lines is so of some of them
first_some : (P : Timed → Type 0) (a b : List Timed) → All P (a ++ b) → All P a
first_some P [] b all = All-nil P
first_some P (x ∷ a) b all = All-cons P x a (All-head P x (a ++ b) all) (first_some P a b (All-tail P x (a ++ b) all))

pub begin_parts : (a b : List Timed) → BeginAnew (a ++ b) → AreAside a ⊎ BeginAnew a
begin_parts a b begin = by (cut a b begin.front begin.rest begin.format begin.are)
  where
    by : ((more : List Timed) × (begin.front ≡ a ++ more)) ⊎ ((more : List Timed) × (a ≡ begin.front ++ begin.format ∷ more)) → AreAside a ⊎ BeginAnew a
    by (inl (more, same)) = inl (first_some (λ (t : Timed). is_aside t.what ≡ true) a more (subst AreAside same begin.aside))
    by (inr (more, same)) = inr (record { front = begin.front; format = begin.format; rest = more; are = same; aside = begin.aside; formats = begin.formats })

pub one_more_line : (done : List Timed) (next : Timed) → BeginAnew (done ++ next ∷ []) → (AreAside done × BeginAnew (next ∷ [])) ⊎ BeginAnew done
one_more_line done next begin = by (split done begin.front begin.rest next begin.format begin.are)
  where
    by : ((done ≡ begin.front) × (next ≡ begin.format)) ⊎ ((more : List Timed) × (done ≡ begin.front ++ begin.format ∷ more)) → (AreAside done × BeginAnew (next ∷ [])) ⊎ BeginAnew done
    by (inl (same, it)) = inl (
      subst AreAside (sym same) begin.aside,
      record { front = []; format = next; rest = []; are = refl; aside = All-nil (λ (t : Timed). is_aside t.what ≡ true); formats = ap (λ (t : Timed). t.what) it ∙ begin.formats },
    )
    by (inr (more, same)) = inr (record { front = begin.front; format = begin.format; rest = more; are = same; aside = begin.aside; formats = begin.formats })

-- if a list of one line starts over, that line is a FORMAT
pub is_format : (next : Timed) → BeginAnew (next ∷ []) → next.what ≡ line.Format
is_format next begin = by (split [] begin.front begin.rest next begin.format begin.are)
  where
    by : ((let none : List Timed = [] in none ≡ begin.front) × (next ≡ begin.format)) ⊎ ((more : List Timed) × (let none : List Timed = [] in none ≡ begin.front ++ begin.format ∷ more)) → next.what ≡ line.Format
    by (inl (same, it)) = ap (λ (t : Timed). t.what) it ∙ begin.formats
    by (inr (more, same)) = absurd (none_of begin.front same)
      where
        none_of : (ls : List Timed) → (let none : List Timed = [] in none ≡ ls ++ begin.format ∷ more) → ⊥
        none_of [] e = let no : ⊥ = cc in no
        none_of (l ∷ ls) e = let no : ⊥ = cc in no

pub none_begin : (let none : List Timed = [] in BeginAnew none) → ⊥
none_begin begin = by begin.front begin.are
  where
    by : (ls : List Timed) → (let none : List Timed = [] in none ≡ ls ++ begin.format ∷ begin.rest) → ⊥
    by [] e = let no : ⊥ = cc in no
    by (l ∷ ls) e = let no : ⊥ = cc in no

-- LINES THAT MAY STAND FIRST
first_is : (what : Operator) → is_aside what ≡ true → is_first what ≡ true
first_is line.Format is = refl
first_is what is = is

pub asides_first : (lines : List Timed) → AreAside lines → AreFirst lines
asides_first lines all = All-weaker (λ (t : Timed). is_aside t.what ≡ true) (λ (t : Timed). is_first t.what ≡ true) (λ t is. first_is t.what is) lines all

pub format_first : (next : Timed) → next.what ≡ line.Format → is_first next.what ≡ true
format_first next is = ap is_first is

pub firsts_parts : (done more : List Timed) → AreFirst (done ++ more) → AreFirst done
firsts_parts done more all = first_some (λ (t : Timed). is_first t.what ≡ true) done more all

pub first_last : (done : List Timed) (next : Timed) → AreFirst (done ++ next ∷ []) → is_first next.what ≡ true
first_last done next all = (All-pop (λ (t : Timed). is_first t.what ≡ true) (done ++ next ∷ []) done (Some next) refl all).1

pub first_one : (next : Timed) → is_first next.what ≡ true → AreFirst (next ∷ [])
first_one next is = All-cons (λ (t : Timed). is_first t.what ≡ true) next [] is (All-nil (λ (t : Timed). is_first t.what ≡ true))

pub first_head : (next : Timed) → AreFirst (next ∷ []) → is_first next.what ≡ true
first_head next all = All-head (λ (t : Timed). is_first t.what ≡ true) next [] all

-- THE STATE OF A RUN on blank devices
pub blank_devices : (f : SystemFacts) → IsBlank f → AreBlank (devices_in f)
blank_devices (Up s) blank = absurd blank
blank_devices (Down d) blank = blank

pub blank_beside : (f : SystemFacts) → IsBlank f → beside_new f ≡ Down (with_new_disc (devices_in f))
blank_beside (Up s) blank = absurd blank
blank_beside (Down d) blank = refl
