-- What follows of the step of PROCESS.
-- serves: lib, StartLemmas
use Rattle.std.proofs.Common.{◌≡◌, ◌≢◌, ℕ, ◌+◌, List, [], ◌∷◌, ◌++◌, Option, Some, None, refl, sym, ◌∙◌, ap, subst, inl, inr}
use Rattle.std.specs.Prelude.{◌⊎◌, ◌==◌, Bool, true, false, not, ◌&&◌, map, nat_lt, Result, Ok, Err, MatchOption, option_map, if◌then◌else◌}
use Rattle.std.specs.FinMap.{FinMap}
use Rattle.std.specs.List.{AllZip}
use Rattle.std.specs.Ordering.{nat_cmp}
use Rattle.std.proofs.lemmas.Bool.{both_ways, cases_Bool, cond-false, cond-true, eq-eqb, eqb-true}
use Rattle.g_base.proofs.KeyLemmas.{at_key-other, find-change}
use Rattle.g_plain.specs.declared.faults.StoreFault.{StoreFault}
use Rattle.g_plain.specs.declared.faults.StoreFault.TheVariants.{DiscReadFault, TapeReadFault, Stopped}
use Rattle.g_store_model.specs.State.{State, Holding, Dumped, Place, Shelved, ReelRow, reel_at, with_reel}
use Rattle.g_store_model.specs.CallStep.{Outcome, Plain, DiscRead, TapeRead, Cut, down}
use Rattle.g_store_model.specs.DumpSteps.{with_shelved, with_used}
use Rattle.g_store_model.specs.Laws.{dumped_tree, tree_in}
use Rattle.g_store_model.specs.Process.{AreMoved, IsProcessed, LeftByRead, ProcessDone, ProcessLeft, NotYet, Marked, Moved, ProcessStep, Processes, is_released, moved, process_dump, process_refuses, process_refuses_late, released_before, with_cut}
use Rattle.g_store_model.specs.ProcessLaws.{AllOnReel, HasOneMore, IsBefore, IsBehind, IsThatReel, IsWrittenOrReleased, KeepsDumps, ProcessKeeps, dumps_of, is_half_done}
use Rattle.g_store_model.proofs.StepLemmas.{tree_down, tree_held}

-- THE STEP is refused and nothing changed, or goes by the outcome
abbrev IsRefused : State → Result ℕ StoreFault → State → Type 0
IsRefused s answer new = (fault : StoreFault) × (answer ≡ Err fault) × (new ≡ s)

refused_late : (f : Option StoreFault) (P T : Type 0) (s : State) (answer : Result ℕ StoreFault) (new : State)
    → MatchOption f P (λ fault. ((answer ≡ Err fault) ⊎ (T × (answer ≡ Err TapeReadFault))) × (new ≡ s)) → IsRefused s answer new ⊎ P
refused_late None P T s answer new step = inr step
refused_late (Some fault) P T s answer new (inl e, same) = inl (fault, e, same)
refused_late (Some fault) P T s answer new (inr (t, e), same) = inl (TapeReadFault, e, same)

refused_first : (f : Option StoreFault) (P : Type 0) (s : State) (answer : Result ℕ StoreFault) (new : State)
    → MatchOption f P (λ fault. (answer ≡ Err fault) × (new ≡ s)) → IsRefused s answer new ⊎ P
refused_first None P s answer new step = inr step
refused_first (Some fault) P s answer new (e, same) = inl (fault, e, same)

goes : (s : State) (k : Holding) (serial : ℕ) (o : Outcome) (answer : Result ℕ StoreFault) (new : State) → ProcessStep s k serial o answer new
    → IsRefused s answer new ⊎ Processes s k serial o answer new
goes s k serial o answer new step = behind (refused_first (process_refuses s k serial) _ s answer new step)
  where
    behind : IsRefused s answer new ⊎ MatchOption (process_refuses_late s k serial) (Processes s k serial o answer new)
        (λ fault. ((answer ≡ Err fault) ⊎ ((o ≡ TapeRead) × (answer ≡ Err TapeReadFault))) × (new ≡ s)) → IsRefused s answer new ⊎ Processes s k serial o answer new
    behind (inl is) = inl is
    behind (inr late) = refused_late (process_refuses_late s k serial) _ _ s answer new late

-- THE TREE
cut_tree : (cut : Option (ℕ × Bool)) (s : State) → tree_in (down (with_cut cut s)) ≡ tree_in (down s)
cut_tree None s = refl
cut_tree (Some cut) s = refl

left_tree : (s : State) (k : Holding) (serial : ℕ) (new : State) → s.holding ≡ Some k → ProcessLeft s k serial new → tree_in new ≡ Some k.tree
left_tree s k serial new held (NotYet used (inl e)) = ap tree_in e ∙ tree_down s k held
left_tree s k serial new held (NotYet used (inr e)) = ap tree_in e
left_tree s k serial new held (Marked d is e) = ap tree_in e
left_tree s k serial new held (Moved places d is are same until cut released e) = ap tree_in e ∙ cut_tree cut (moved s k serial places d until)

read_tree : (s : State) (k : Holding) (serial : ℕ) (new : State) → s.holding ≡ Some k → LeftByRead s k serial new → tree_in new ≡ Some k.tree
read_tree s k serial new held (inl e) = ap tree_in e ∙ tree_held s k held
read_tree s k serial new held (inr (used, e)) = ap tree_in e

outcome_tree : (s : State) (k : Holding) (serial : ℕ) (o : Outcome) (answer : Result ℕ StoreFault) (new : State) → s.holding ≡ Some k → Processes s k serial o answer new → tree_in new ≡ Some k.tree
outcome_tree s k serial Plain answer new held (e, done) = ap tree_in done.is
outcome_tree s k serial DiscRead answer new held (e, left) = read_tree s k serial new held left
outcome_tree s k serial TapeRead answer new held (e, left) = read_tree s k serial new held left
outcome_tree s k serial Cut answer new held (e, left) = left_tree s k serial new held left

step_tree : (s : State) (k : Holding) (serial : ℕ) (o : Outcome) (answer : Result ℕ StoreFault) (new : State) → s.holding ≡ Some k
    → IsRefused s answer new ⊎ Processes s k serial o answer new → tree_in new ≡ Some k.tree
step_tree s k serial o answer new held (inl (fault, e, same)) = ap tree_in same ∙ tree_held s k held
step_tree s k serial o answer new held (inr is) = outcome_tree s k serial o answer new held is

-- Single reels.
same_reel : (r : ReelRow) → IsThatReel r r
same_reel r = record { serial = refl; capacity = refl; mounted = refl }

kept_reel : (r : ReelRow) → KeepsDumps r r
kept_reel r = record { reel = same_reel r; dumps = refl }

-- A property of a conditional, from its two branches.
by_choice : {A : Type 0} (P : A → Type 0) (b : Bool) (x y : A) → (b ≡ true → P x) → P y → P (if b then x else y)
by_choice P true x y on off = on refl
by_choice P false x y on off = off

zip_same : (R : ReelRow → ReelRow → Type 0) → ((r : ReelRow) → R r r) → (rs : List ReelRow) → AllZip R rs rs
zip_same R same [] = tt
zip_same R same (r ∷ rs) = (same r, zip_same R same rs)

zip_with : (R : ReelRow → ReelRow → Type 0) (serial : ℕ) (f : ReelRow → ReelRow) → ((r q : ReelRow) → serial ≡ q.serial → R r q → R r (f q)) → (rs qs : List ReelRow)
    → AllZip R rs qs → AllZip R rs (with_reel serial f qs)
zip_with R serial f keeps [] [] all = tt
zip_with R serial f keeps [] (q ∷ qs) all = absurd all
zip_with R serial f keeps (r ∷ rs) [] all = absurd all
zip_with R serial f keeps (r ∷ rs) (q ∷ qs) all =
    by_choice (λ (ps : List ReelRow). AllZip R (r ∷ rs) ps) (serial == q.serial) (f q ∷ qs) (q ∷ with_reel serial f qs)
    (λ is. (keeps r q (eqb-true serial q.serial is) all.0, all.1)) (all.0, zip_with R serial f keeps rs qs all.1)

zip_map : (R : ReelRow → ReelRow → Type 0) (f : ReelRow → ReelRow) → ((r q : ReelRow) → R r q → R r (f q)) → (rs qs : List ReelRow) → AllZip R rs qs → AllZip R rs (map f qs)
zip_map R f keeps [] [] all = tt
zip_map R f keeps [] (q ∷ qs) all = absurd all
zip_map R f keeps (r ∷ rs) [] all = absurd all
zip_map R f keeps (r ∷ rs) (q ∷ qs) all = (keeps r q all.0, zip_map R f keeps rs qs all.1)

used_reels : (serial : ℕ) (used : Bool) (rs : List ReelRow) → AllZip KeepsDumps rs (with_reel serial (with_used used) rs)
used_reels serial used rs =
    zip_with KeepsDumps serial (with_used used)
    (λ r q is keeps. record { reel = record { serial = keeps.reel.serial; capacity = keeps.reel.capacity; mounted = keeps.reel.mounted }; dumps = keeps.dumps }) rs rs (zip_same KeepsDumps kept_reel rs)

abbrev put_on : Shelved → ReelRow → ReelRow
put_on d r = with_used true (with_shelved d r)

-- The dump is added to its reel once.
one_more : (on : ℕ) (d : Shelved) (rs : List ReelRow) → AllZip (IsWrittenOrReleased on d) rs (with_reel on (put_on d) rs)
one_more on d [] = tt
one_more on d (r ∷ rs) =
    by_choice (λ (ps : List ReelRow). AllZip (IsWrittenOrReleased on d) (r ∷ rs) ps) (on == r.serial) (put_on d r ∷ rs) (r ∷ with_reel on (put_on d) rs)
    (λ is. (record { reel = record { serial = refl; capacity = refl; mounted = refl }; dumps = inr (inl (sym (eqb-true on r.serial is), refl)) }, zip_same (IsWrittenOrReleased on d) (still on d) rs))
    (still on d r, one_more on d rs)
  where
    still : (on : ℕ) (d : Shelved) (q : ReelRow) → IsWrittenOrReleased on d q q
    still on d q = record { reel = same_reel q; dumps = inl refl }

middle : (a b c : Bool) → (a && b && c) ≡ true → b ≡ true
middle true true c e = refl
middle true false c e = e
middle false true c e = refl
middle false false c e = e

not_true : (b : Bool) → not b ≡ true → b ≡ false
not_true false e = refl
not_true true e = sym e

released_reel : (on : ℕ) (d : Shelved) (until : ℕ) (r q : ReelRow) → IsWrittenOrReleased on d r q → IsWrittenOrReleased on d r (released_before on until q)
released_reel on d until r q is =
    by_choice (IsWrittenOrReleased on d r) _ (record q { dumps = [] }) q
    (λ e. record {
      reel = record { serial = is.reel.serial; capacity = is.reel.capacity; mounted = is.reel.mounted };
      dumps = inr (inr (λ same. both_ways (q.serial == on) (not_true (q.serial == on) (middle (nat_lt q.serial until) (not (q.serial == on)) _ e)) (eq-eqb q.serial on (is.reel.serial ∙ same)), refl));
    }) is

cut_reels : (on : ℕ) (d : Shelved) (cut : Option (ℕ × Bool)) (s new : State) → AllZip (IsWrittenOrReleased on d) s.reels new.reels → AllZip (IsWrittenOrReleased on d) s.reels (with_cut cut new).reels
cut_reels on d None s new all = all
cut_reels on d (Some cut) s new all =
    zip_with (IsWrittenOrReleased on d) cut.0 (with_used cut.1)
    (λ r q same is. record { reel = record { serial = is.reel.serial; capacity = is.reel.capacity; mounted = is.reel.mounted }; dumps = is.dumps }) s.reels new.reels all

-- THE REEL that is written
found_here : (on : ℕ) (r : ReelRow) (rs : List ReelRow) → on ≡ r.serial → reel_at on (r ∷ rs) ≡ Some r
found_here on r rs is = cond-true (on == r.serial) (Some r) (reel_at on rs) (eq-eqb on r.serial is)

found_behind : (on : ℕ) (r : ReelRow) (rs : List ReelRow) → (on == r.serial) ≡ false → reel_at on (r ∷ rs) ≡ reel_at on rs
found_behind on r rs isnt = cond-false (on == r.serial) (Some r) (reel_at on rs) isnt

-- What is found after one reel was changed.
pub found_with : (on : ℕ) (f : ReelRow → ReelRow) → ((r : ReelRow) → (f r).serial ≡ r.serial) → (rs : List ReelRow) → reel_at on (with_reel on f rs) ≡ option_map f (reel_at on rs)
found_with on f same rs = find-change (λ (r : ReelRow). on == r.serial) f (λ r. ap (λ (n : ℕ). on == n) (same r)) rs

-- another reel's change leaves it
found_apart : (on n : ℕ) (f : ReelRow → ReelRow) → ((r : ReelRow) → (f r).serial ≡ r.serial) → on ≢ n → (rs : List ReelRow) → reel_at on (with_reel n f rs) ≡ reel_at on rs
found_apart on n f same apart rs = at_key-other (λ (r : ReelRow). r.serial) n on f same (λ e. apart (sym e)) rs

-- The same for the release of other reels.
released_serial : (on until : ℕ) (r : ReelRow) → (released_before on until r).serial ≡ r.serial
released_serial on until r = by_choice (λ (q : ReelRow). q.serial ≡ r.serial) _ (record r { dumps = [] }) r (λ e. refl) refl

released_kept : (on until : ℕ) (r : ReelRow) → on ≡ r.serial → (released_before on until r).dumps ≡ r.dumps
released_kept on until r is =
    by_choice (λ (q : ReelRow). q.dumps ≡ r.dumps) _ (record r { dumps = [] }) r
    (λ e. absurd (both_ways (r.serial == on) (not_true (r.serial == on) (middle (nat_lt r.serial until) (not (r.serial == on)) _ e)) (eq-eqb r.serial on (sym is)))) refl

found_released : (on until : ℕ) (rs : List ReelRow) → dumps_of (reel_at on (map (released_before on until) rs)) ≡ dumps_of (reel_at on rs)
found_released on until [] = refl
found_released on until (r ∷ rs) = by_serial (cases_Bool (on == r.serial)) (found_released on until rs)
  where
    by_serial : ((on == r.serial) ≡ true) ⊎ ((on == r.serial) ≡ false) → dumps_of (reel_at on (map (released_before on until) rs)) ≡ dumps_of (reel_at on rs)
        → dumps_of (reel_at on (map (released_before on until) (r ∷ rs))) ≡ dumps_of (reel_at on (r ∷ rs))
    by_serial (inl is) rest =
        let here = eqb-true on r.serial is in
        ap dumps_of (found_here on (released_before on until r) (map (released_before on until) rs) (here ∙ sym (released_serial on until r)))
        ∙ ap (λ (ds : List Shelved). let o : Option (List Shelved) = Some ds in o) (released_kept on until r here) ∙ ap dumps_of (sym (found_here on r rs here))
    by_serial (inr isnt) rest =
        ap dumps_of (found_behind on (released_before on until r) (map (released_before on until) rs) (ap (λ (n : ℕ). on == n) (released_serial on until r) ∙ isnt))
        ∙ rest ∙ ap dumps_of (sym (found_behind on r rs isnt))

mapped_dumps : (d : Shelved) (o : Option ReelRow) → dumps_of (option_map (put_on d) o) ≡ option_map (λ r. r.dumps ++ d ∷ []) o
mapped_dumps d None = refl
mapped_dumps d (Some r) = refl

cut_found : (was : State) (on until : ℕ) (cut : Option (ℕ × Bool)) (s : State) → is_released was on until cut → reel_at on (with_cut cut s).reels ≡ reel_at on s.reels
cut_found was on until None s apart = refl
cut_found was on until (Some cut) s apart = found_apart on cut.0 (with_used cut.1) (λ r. refl) (λ e. apart.1 (sym e)) s.reels

module _ (s : State) (k : Holding) (serial : ℕ) where
  marked_more : HasOneMore serial (process_dump k) s (record s { reels = with_reel serial (put_on (process_dump k)) s.reels })
  marked_more = record { dumps = ap dumps_of (found_with serial (put_on (process_dump k)) (λ r. refl) s.reels) ∙ mapped_dumps (process_dump k) (reel_at serial s.reels) }

  moved_more : (until : ℕ) → dumps_of (reel_at serial (map (released_before serial until) (with_reel serial (put_on (process_dump k)) s.reels)))
      ≡ option_map (λ r. r.dumps ++ process_dump k ∷ []) (reel_at serial s.reels)
  moved_more until = found_released serial until (with_reel serial (put_on (process_dump k)) s.reels) ∙ marked_more.dumps

  moved_reels : (until : ℕ) → AllZip (IsWrittenOrReleased serial (process_dump k)) s.reels (map (released_before serial until) (with_reel serial (put_on (process_dump k)) s.reels))
  moved_reels until =
      zip_map (IsWrittenOrReleased serial (process_dump k)) (released_before serial until) (released_reel serial (process_dump k) until) s.reels
      (with_reel serial (put_on (process_dump k)) s.reels) (one_more serial (process_dump k) s.reels)

  is_behind : (new then_ : State) → new ≡ then_ → IsBehind s k serial then_ → IsBehind s k serial new
  is_behind new then_ e is = subst (IsBehind s k serial) (sym e) is

  is_before : (new then_ : State) → new ≡ then_ → IsBefore s then_ → IsBefore s new
  is_before new then_ e is = subst (IsBefore s) (sym e) is

  some_tree : (d : Dumped) → d.tree ≡ k.tree → option_map (λ (x : Dumped). x.tree) (Some d) ≡ Some k.tree
  some_tree d is = ap Some is

  done_behind : (new : State) (places : FinMap nat_cmp Place) (d : Dumped) (until : ℕ) → IsProcessed serial k d → new ≡ moved s k serial places d until → IsBehind s k serial new
  done_behind new places d until is e =
      is_behind new (moved s k serial places d until) e
      (record { tree = some_tree d is.tree; more = record { dumps = moved_more until }; reels = moved_reels until })

  left_reels : (new : State) → ProcessLeft s k serial new → IsBefore s new ⊎ IsBehind s k serial new
  left_reels new (NotYet used (inl e)) = inl (is_before new (down s) e (record { dumped = refl; reels = zip_same KeepsDumps kept_reel s.reels }))
  left_reels new (NotYet used (inr e)) = inl (is_before new _ e (record { dumped = refl; reels = used_reels serial used s.reels }))
  left_reels new (Marked d is e) = inr (is_behind new _ e (record { tree = some_tree d is.tree; more = record { dumps = marked_more.dumps }; reels = one_more serial (process_dump k) s.reels }))
  left_reels new (Moved places d is are same until cut released e) =
      inr (is_behind new (down (with_cut cut (moved s k serial places d until))) e (record {
        tree = cut_dumped cut (moved s k serial places d until) ∙ some_tree d is.tree;
        more = record { dumps = ap dumps_of (cut_found s serial until cut (moved s k serial places d until) released) ∙ moved_more until };
        reels = cut_reels serial (process_dump k) cut s (moved s k serial places d until) (moved_reels until);
      }))
    where
      cut_dumped : (cut : Option (ℕ × Bool)) (t : State) → dumped_tree (down (with_cut cut t)) ≡ dumped_tree t
      cut_dumped None t = refl
      cut_dumped (Some c) t = refl

  read_reels : (new : State) → LeftByRead s k serial new → IsBefore s new ⊎ IsBehind s k serial new
  read_reels new (inl e) = inl (is_before new s e (record { dumped = refl; reels = zip_same KeepsDumps kept_reel s.reels }))
  read_reels new (inr (used, e)) = inl (is_before new _ e (record { dumped = refl; reels = used_reels serial used s.reels }))

  outcome_reels : (o : Outcome) (answer : Result ℕ StoreFault) (new : State) → Processes s k serial o answer new → IsBefore s new ⊎ IsBehind s k serial new
  outcome_reels Plain answer new (e, done) = inr (done_behind new done.places done.dumped done.until done.processed done.is)
  outcome_reels DiscRead answer new (e, left) = read_reels new left
  outcome_reels TapeRead answer new (e, left) = read_reels new left
  outcome_reels Cut answer new (e, left) = left_reels new left

  step_reels : (o : Outcome) (answer : Result ℕ StoreFault) (new : State) → IsRefused s answer new ⊎ Processes s k serial o answer new → IsBefore s new ⊎ IsBehind s k serial new
  step_reels o answer new (inl (fault, e, same)) = inl (is_before new s same (record { dumped = refl; reels = zip_same KeepsDumps kept_reel s.reels }))
  step_reels o answer new (inr is) = outcome_reels o answer new is

  -- REFUSALS and answers
  one_fault : (f g : StoreFault) → (let one : Result ℕ StoreFault = Err f in one ≡ Err g) → f ≡ g
  one_fault f g e = cc

  not_half : {A : Type 0} (f fault : StoreFault) → is_half_done f ≡ true → is_half_done fault ≡ false → (let one : Result ℕ StoreFault = Err fault in one ≡ Err f) → A
  not_half f fault is isnt e = absurd (both_ways (is_half_done fault) isnt (ap is_half_done (one_fault fault f e) ∙ is))

  not_ok : {A : Type 0} (n : ℕ) (fault : StoreFault) → (let one : Result ℕ StoreFault = Ok n in one ≡ Err fault) → A
  not_ok n fault e = absurd (let no : ⊥ = cc in no)

  not_err : {A : Type 0} (n : ℕ) (fault : StoreFault) → (let one : Result ℕ StoreFault = Err fault in one ≡ Ok n) → A
  not_err n fault e = absurd (let no : ⊥ = cc in no)

  one_number : (m n : ℕ) → (let one : Result ℕ StoreFault = Ok m in one ≡ Ok n) → m ≡ n
  one_number m n e = cc

  step_refusal : (o : Outcome) (fault : StoreFault) (new : State) → is_half_done fault ≡ false → IsRefused s (Err fault) new ⊎ Processes s k serial o (Err fault) new → new ≡ s
  step_refusal o fault new isnt (inl (f, e, same)) = same
  step_refusal Plain fault new isnt (inr (e, done)) = not_err (k.last + 1) fault e
  step_refusal DiscRead fault new isnt (inr (e, left)) = not_half DiscReadFault fault refl isnt e
  step_refusal TapeRead fault new isnt (inr (e, left)) = not_half TapeReadFault fault refl isnt e
  step_refusal Cut fault new isnt (inr (e, left)) = not_half Stopped fault refl isnt e

  on_reel : (new : State) (places : FinMap nat_cmp Place) (d : Dumped) (until : ℕ) → AreMoved serial k places → new ≡ moved s k serial places d until → AllOnReel serial k new.holding
  on_reel new places d until are e =
      subst (λ (t : State). AllOnReel serial k t.holding) (sym e)
      (λ full row there filled. let (copy, is, on, from, to) = are.copied.copied full row there filled in (copy, is, on))

  step_done : (o : Outcome) (number : ℕ) (new : State) → IsRefused s (Ok number) new ⊎ Processes s k serial o (Ok number) new
      → (number ≡ k.last + 1) × IsBehind s k serial new × AllOnReel serial k new.holding
  step_done o number new (inl (f, e, same)) = not_ok number f e
  step_done Plain number new (inr (e, done)) = (
    one_number number (k.last + 1) e,
    done_behind new done.places done.dumped done.until done.processed done.is,
    on_reel new done.places done.dumped done.until done.are done.is,
  )
  step_done DiscRead number new (inr (e, left)) = not_ok number DiscReadFault e
  step_done TapeRead number new (inr (e, left)) = not_ok number TapeReadFault e
  step_done Cut number new (inr (e, left)) = not_ok number Stopped e

  is_complete : (f g : Option StoreFault) (A B : StoreFault → Type 0) (answer : Result ℕ StoreFault) (P : Type 0) → f ≡ None → g ≡ None
      → MatchOption f (MatchOption g ((answer ≡ Ok (k.last + 1)) × P) B) A → answer ≡ Ok (k.last + 1)
  is_complete None None A B answer P none_f none_g step = step.0
  is_complete None (Some g) A B answer P none_f none_g step = absurd (let no : ⊥ = cc in no)
  is_complete (Some f) g A B answer P none_f none_g step = absurd (let no : ⊥ = cc in no)

  StaysUp : State → Type 0
  StaysUp new = (new.up ≡ s.up) × (new.open_dump ≡ s.open_dump)

  read_up : (new : State) → LeftByRead s k serial new → StaysUp new
  unfolding StaysUp
  read_up new (inl e) = (ap (λ (t : State). t.up) e, ap (λ (t : State). t.open_dump) e)
  read_up new (inr (used, e)) = (ap (λ (t : State). t.up) e, ap (λ (t : State). t.open_dump) e)

  step_up : (o : Outcome) (answer : Result ℕ StoreFault) (new : State) → ((let one : Result ℕ StoreFault = Err Stopped in answer ≡ one) → ⊥)
      → IsRefused s answer new ⊎ Processes s k serial o answer new → StaysUp new
  unfolding StaysUp
  step_up o answer new going (inl (fault, e, same)) = (ap (λ (t : State). t.up) same, ap (λ (t : State). t.open_dump) same)
  step_up Plain answer new going (inr (e, done)) = (ap (λ (t : State). t.up) done.is, ap (λ (t : State). t.open_dump) done.is)
  step_up DiscRead answer new going (inr (e, left)) = read_up new left
  step_up TapeRead answer new going (inr (e, left)) = read_up new left
  step_up Cut answer new going (inr (e, left)) = absurd (going e)

pub process_keeps : ProcessKeeps
unfolding StaysUp
process_keeps = record {
  tree = λ s k serial o answer new held step. step_tree s k serial o answer new held (goes s k serial o answer new step);
  reels = λ s k serial o answer new step. step_reels s k serial o answer new (goes s k serial o answer new step);
  refusals = λ s k serial o fault new isnt step. step_refusal s k serial o fault new isnt (goes s k serial o (Err fault) new step);
  done = λ s k serial o number new step. step_done s k serial o number new (goes s k serial o (Ok number) new step);
  complete = λ s k serial answer new none none_late step.
      is_complete s k serial (process_refuses s k serial) (process_refuses_late s k serial) _ _ answer (ProcessDone s k serial new) none none_late step;
  up = λ s k serial o answer new going step. step_up s k serial o answer new going (goes s k serial o answer new step);
}
