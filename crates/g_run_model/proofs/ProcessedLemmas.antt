-- What a PROCESS leaves, case by case: what is so of each of the states that it may leave is so of the one that it left.
-- serves: DumpedLemmas, EndsLemmas, OneTextLemmas, PricedLemmas, TreeLemmas, crates above
use Rattle.std.proofs.Common.{◌≡◌, ◌==◌, ◌⊎◌, ℕ, Bool, true, false, List, [], ◌∷◌, map, Option, Some, None, Result, Err, MatchOption, option_map, refl, sym, ◌∙◌, ap, subst, inl, inr, if◌then◌else◌}
use Rattle.std.specs.List.{list_all}
use Rattle.std.specs.Ordering.{nat_cmp}
use Rattle.std.specs.FinMap.{FinMap}
use Rattle.g_plain.specs.declared.faults.StoreFault.{StoreFault}
use Rattle.g_plain.specs.declared.faults.StoreFault.TheVariants.{TapeReadFault}
use Rattle.g_store_model.specs.CallStep.{Cut, DiscRead, Outcome, Plain, TapeRead, down, no_longer_kept}
use Rattle.g_store_model.specs.DumpSteps.{with_shelved, with_used}
use Rattle.g_store_model.specs.Laws.{tree_in}
use Rattle.g_store_model.specs.Process.{LeftByRead, ProcessLeft, ProcessStep, Processes, NotYet, Marked, Moved, marked_by, moved, process_dump, process_refuses, process_refuses_late, released_before, with_cut, with_intent}
use Rattle.g_store_model.specs.Rising.{has_none}
use Rattle.g_store_model.specs.State.{Dumped as DumpedTree, Holding, Place, ReelRow, State, mounted_in, reel_at, with_reel}
use Rattle.g_run_model.specs.Laws.{AreShort, IsShort}
use Rattle.g_run_model.proofs.KeptDumpLemmas.{KeepsDumps, changed_none}
use Rattle.g_run_model.proofs.MountLemmas.{NoMount, changed_mounts}
use Rattle.g_run_model.proofs.ShortLemmas.{KeepsShort, held_short, short_down}
use Rattle.g_run_model.proofs.StepLemmas.{tree_held}

-- the intent is on the disc, and the reel has a block or not
abbrev pub noted : State → Holding → ℕ → Bool → State
noted s k serial used = record s { reels = with_reel serial (with_used used) s.reels; holding = Some (with_intent s serial k) }

-- and the dump is complete on it
abbrev pub marked_only : State → Holding → ℕ → DumpedTree → State
marked_only s k serial d = record (marked_by s k serial d) { holding = Some (with_intent s serial k) }

pub record OfEach (P : State → Type 0) (s : State) (k : Holding) (serial : ℕ) : Type 0 where
  pub same : P s
  pub gone : P (down s)
  pub noted_up : (used : Bool) → P (noted s k serial used)
  pub noted_down : (used : Bool) → P (down (noted s k serial used))
  pub marked_down : (d : DumpedTree) → d.tree ≡ k.tree → P (down (marked_only s k serial d))
  pub moved_up : (places : FinMap nat_cmp Place) (d : DumpedTree) (until : ℕ) → d.tree ≡ k.tree → P (moved s k serial places d until)
  pub moved_down : (places : FinMap nat_cmp Place) (d : DumpedTree) (until : ℕ) (cut : Option (ℕ × Bool)) → d.tree ≡ k.tree → P (down (with_cut cut (moved s k serial places d until)))

module _ (P : State → Type 0) (s : State) (k : Holding) (serial : ℕ) (each : OfEach P s k serial) where
  at : (mid new : State) → new ≡ mid → P mid → P new
  at mid new is h = subst P (sym is) h

  read : (new : State) → LeftByRead s k serial new → P new
  read new (inl is) = at s new is each.same
  read new (inr (used, is)) = at (noted s k serial used) new is (each.noted_up used)

  stopped : (new : State) → ProcessLeft s k serial new → P new
  stopped new (NotYet used (inl is)) = at (down s) new is each.gone
  stopped new (NotYet used (inr is)) = at (down (noted s k serial used)) new is (each.noted_down used)
  stopped new (Marked d is e) = at (down (marked_only s k serial d)) new e (each.marked_down d is.tree)
  stopped new (Moved places d is are same until cut released e) = at (down (with_cut cut (moved s k serial places d until))) new e (each.moved_down places d until cut is.tree)

  by_outcome : (o : Outcome) (r : Result ℕ StoreFault) (new : State) → Processes s k serial o r new → P new
  by_outcome Plain r new (e, done) = at (moved s k serial done.places done.dumped done.until) new done.is (each.moved_up done.places done.dumped done.until done.processed.tree)
  by_outcome DiscRead r new (e, left) = read new left
  by_outcome TapeRead r new (e, left) = read new left
  by_outcome Cut r new (e, left) = stopped new left

  late : (f : Option StoreFault) (o : Outcome) (r : Result ℕ StoreFault) (new : State)
      → MatchOption f (Processes s k serial o r new) (λ fault. ((r ≡ Err fault) ⊎ ((o ≡ TapeRead) × (r ≡ Err TapeReadFault))) × (new ≡ s)) → P new
  late None o r new step = by_outcome o r new step
  late (Some fault) o r new (e, is) = at s new is each.same

  early : (f : Option StoreFault) (o : Outcome) (r : Result ℕ StoreFault) (new : State)
      → MatchOption f (MatchOption (process_refuses_late s k serial) (Processes s k serial o r new) (λ fault. ((r ≡ Err fault) ⊎ ((o ≡ TapeRead) × (r ≡ Err TapeReadFault))) × (new ≡ s)))
      (λ fault. (r ≡ Err fault) × (new ≡ s)) → P new
  early None o r new step = late (process_refuses_late s k serial) o r new step
  early (Some fault) o r new (e, is) = at s new is each.same

  pub of_each : (o : Outcome) (r : Result ℕ StoreFault) (new : State) → ProcessStep s k serial o r new → P new
  of_each o r new step = early (process_refuses s k serial) o r new step

-- THE TREE stays
HasTree : Holding → State → Type 0
HasTree k x = tree_in x ≡ Some k.tree

pub process_tree : (s : State) (k : Holding) (serial : ℕ) (o : Outcome) (r : Result ℕ StoreFault) (new : State) → s.holding ≡ Some k → ProcessStep s k serial o r new → tree_in new ≡ tree_in s
unfolding HasTree
process_tree s k serial o r new holds step =
    of_each (HasTree k) s k serial
    (record {
      same = tree_held s k holds;
      gone = ap (λ (h : Option Holding). option_map (λ (x : Holding). x.tree) (option_map no_longer_kept h)) holds;
      noted_up = λ used. refl;
      noted_down = λ used. refl;
      marked_down = λ d is. refl;
      moved_up = λ places d until is. refl;
      moved_down = λ places d until cut is. by_cut places d until cut;
    }) o r new step ∙ sym (tree_held s k holds)
  where
    by_cut : (places : FinMap nat_cmp Place) (d : DumpedTree) (until : ℕ) (cut : Option (ℕ × Bool)) → HasTree k (down (with_cut cut (moved s k serial places d until)))
    by_cut places d until None = refl
    by_cut places d until (Some c) = refl

-- AND IS SHORT
tree_short : (k : Holding) (d : DumpedTree) → d.tree ≡ k.tree → IsShort k.tree → IsShort d.tree
tree_short k d is h = subst IsShort (sym is) h

pub process_short : (s : State) (k : Holding) (serial : ℕ) (o : Outcome) (r : Result ℕ StoreFault) (new : State) → s.holding ≡ Some k → ProcessStep s k serial o r new → KeepsShort s new
process_short s k serial o r new holds step =
    of_each (λ x. KeepsShort s x) s k serial
    (record {
      same = λ h. h;
      gone = λ h. short_down s h;
      noted_up = λ used h. record { held = held_short s k holds h; dumped = h.dumped; opened = h.opened };
      noted_down = λ used h. record { held = held_short s k holds h; dumped = h.dumped; opened = tt };
      marked_down = λ d is h. record { held = held_short s k holds h; dumped = tree_short k d is (held_short s k holds h); opened = tt };
      moved_up = λ places d until is h. record { held = held_short s k holds h; dumped = tree_short k d is (held_short s k holds h); opened = h.opened };
      moved_down = λ places d until cut is h. by_cut places d until cut is (held_short s k holds h);
    }) o r new step
  where
    by_cut : (places : FinMap nat_cmp Place) (d : DumpedTree) (until : ℕ) (cut : Option (ℕ × Bool)) → d.tree ≡ k.tree → IsShort k.tree → AreShort (down (with_cut cut (moved s k serial places d until)))
    by_cut places d until None is h = record { held = h; dumped = tree_short k d is h; opened = tt }
    by_cut places d until (Some c) is h = record { held = h; dumped = tree_short k d is h; opened = tt }

-- A TREE IS DUMPED wherever there is a dump
some_dumped : (d : DumpedTree) (x : Option DumpedTree) (A : Type 0) → x ≡ Some d → x ≡ None → A
some_dumped d x A some none = let e : (let one : Option DumpedTree = Some d in one ≡ None) = sym some ∙ none in absurd (let no : ⊥ = cc in no)

used_dumps : (serial : ℕ) (used : Bool) (rs : List ReelRow) → list_all has_none (with_reel serial (with_used used) rs) ≡ list_all has_none rs
used_dumps serial used rs = changed_none (with_used used) (λ r. refl) serial rs

pub process_keeps : (s : State) (k : Holding) (serial : ℕ) (o : Outcome) (r : Result ℕ StoreFault) (new : State) → ProcessStep s k serial o r new → KeepsDumps s new
process_keeps s k serial o r new step =
    of_each (λ x. KeepsDumps s x) s k serial
    (record {
      same = λ has. has;
      gone = λ has. has;
      noted_up = λ used has none. used_dumps serial used s.reels ∙ has none;
      noted_down = λ used has none. used_dumps serial used s.reels ∙ has none;
      marked_down = λ d is has none. some_dumped d _ _ refl none;
      moved_up = λ places d until is has none. some_dumped d _ _ refl none;
      moved_down = λ places d until cut is. by_cut places d until cut;
    }) o r new step
  where
    by_cut : (places : FinMap nat_cmp Place) (d : DumpedTree) (until : ℕ) (cut : Option (ℕ × Bool)) → KeepsDumps s (down (with_cut cut (moved s k serial places d until)))
    by_cut places d until None has none = some_dumped d _ _ refl none
    by_cut places d until (Some c) has none = some_dumped d _ _ refl none

-- NO REEL IS MOUNTED by it
on_used : (used : Bool) (at x : ℕ) (rs : List ReelRow) → mounted_in (reel_at x (with_reel at (with_used used) rs)) ≡ true → mounted_in (reel_at x rs) ≡ true
on_used used at x rs mounted = changed_mounts (with_used used) (λ row. refl) (λ row is. is) at x rs mounted

on_marked : (s : State) (k : Holding) (serial x : ℕ) (d : DumpedTree) → mounted_in (reel_at x (marked_by s k serial d).reels) ≡ true → mounted_in (reel_at x s.reels) ≡ true
on_marked s k serial x d mounted = changed_mounts (λ row. with_used true (with_shelved (process_dump k) row)) (λ row. refl) (λ row is. is) serial x s.reels mounted

by_choice : {A : Type 0} (P : A → Type 0) (b : Bool) (x y : A) → P x → P y → P (if b then x else y)
by_choice P true x y on off = on
by_choice P false x y on off = off

released_serial : (serial until : ℕ) (row : ReelRow) → (released_before serial until row).serial ≡ row.serial
released_serial serial until row = by_choice (λ (q : ReelRow). q.serial ≡ row.serial) _ (record row { dumps = [] }) row refl refl

released_mounted : (serial until : ℕ) (row : ReelRow) → (released_before serial until row).mounted ≡ row.mounted
released_mounted serial until row = by_choice (λ (q : ReelRow). q.mounted ≡ row.mounted) _ (record row { dumps = [] }) row refl refl

on_released : (serial until x : ℕ) (rs : List ReelRow) → mounted_in (reel_at x (map (released_before serial until) rs)) ≡ mounted_in (reel_at x rs)
on_released serial until x [] = refl
on_released serial until x (r ∷ rs) =
    ap (λ (n : ℕ). mounted_in (if x == n then Some (released_before serial until r) else reel_at x (map (released_before serial until) rs))) (released_serial serial until r)
    ∙ by (x == r.serial) (on_released serial until x rs)
  where
    by : (b : Bool) → mounted_in (reel_at x (map (released_before serial until) rs)) ≡ mounted_in (reel_at x rs)
        → mounted_in (if b then Some (released_before serial until r) else reel_at x (map (released_before serial until) rs)) ≡ mounted_in (if b then Some r else reel_at x rs)
    by true rest = released_mounted serial until r
    by false rest = rest

on_moved : (s : State) (k : Holding) (serial : ℕ) (places : FinMap nat_cmp Place) (d : DumpedTree) (until x : ℕ) → mounted_in (reel_at x (moved s k serial places d until).reels) ≡ true
    → mounted_in (reel_at x s.reels) ≡ true
on_moved s k serial places d until x mounted = on_marked s k serial x d (sym (on_released serial until x (marked_by s k serial d).reels) ∙ mounted)

pub process_mounts : (s : State) (k : Holding) (serial : ℕ) (o : Outcome) (r : Result ℕ StoreFault) (new : State) → ProcessStep s k serial o r new → NoMount s new
process_mounts s k serial o r new step =
    of_each (λ x. NoMount s x) s k serial
    (record {
      same = λ x mounted. mounted;
      gone = λ x mounted. mounted;
      noted_up = λ used x mounted. on_used used serial x s.reels mounted;
      noted_down = λ used x mounted. on_used used serial x s.reels mounted;
      marked_down = λ d is x mounted. on_marked s k serial x d mounted;
      moved_up = λ places d until is x mounted. on_moved s k serial places d until x mounted;
      moved_down = λ places d until cut is. by_cut places d until cut;
    }) o r new step
  where
    by_cut : (places : FinMap nat_cmp Place) (d : DumpedTree) (until : ℕ) (cut : Option (ℕ × Bool)) → NoMount s (down (with_cut cut (moved s k serial places d until)))
    by_cut places d until None x mounted = on_moved s k serial places d until x mounted
    by_cut places d until (Some c) x mounted = on_moved s k serial places d until x (on_used c.1 c.0 x (moved s k serial places d until).reels mounted)
