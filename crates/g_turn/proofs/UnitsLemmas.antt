-- Units that are released one after another.
-- serves: release_all (err, ok), release_readers (ok)
use Rattle.std.proofs.Common.{◌≡◌, ℕ, suc, zero, ◌+◌, ◌<◌, ◌≤◌, Bool, true, false, List, [], ◌∷◌, ◌++◌, length, nat_lt, drop, replicate, append_assoc, add-one, Option, Some, None, Ok, Err, if◌then◌else◌, refl, sym, ap, subst, ◌∙◌, arith}
use Rattle.std.proofs.Math.Seq.{drop-cons, set-append_seam}
use Rattle.std.proofs.Math.ListN.{drop_of_length-le}
use Rattle.std.proofs.lemmas.List.{append-nil, drop-set-lt, length-append, length-drop, length-replicate, length-set, replicate-append-replicate}
use Rattle.std.specs.Prelude.{slice_index_or, slice_set}
use Rattle.g_turn.specs.Asking.{put, put_told}
use Rattle.g_turn.specs.Bounds.{AlwaysGives, MayAnswer}
use Rattle.g_turn.specs.Releases.{release_all, release_each, release_one, without_readers}
use Rattle.g_turn.specs.Outcomes.{set_outcome, done, is_over, refused, say, stopped, with_bytes, with_units}
use Rattle.g_turn.specs.State.{Full, Work}
use Rattle.g_turn.specs.Steps.{RanWell}
use Rattle.g_turn.proofs.BoundLemmas.{gives_more}
use Rattle.g_turn.proofs.WellThen.{part_first, part_then, well_gives, well_over, well_then}
use Rattle.g_lines.specs.Lines.{ended}
use Rattle.g_macro.specs.declared.outcome.EventNote.TheVariants as note
use Rattle.g_monitor.specs.JobLines.{marked}
use Rattle.g_monitor.specs.Refusals.{fault_line}
use Rattle.g_monitor.specs.Replies.{last_line}
use Rattle.g_monitor.specs.declared.job_lines.Mark.TheVariants as mark
use Rattle.g_name.specs.declared.path.Path.{Path}
use Rattle.g_peri.specs.JobUnits.{Held, at_place, vacant, with_reader, with_writer}
use Rattle.g_plain.specs.Programs.{Answer, Asks, Gives, RanInPart}
use Rattle.g_plain.specs.declared.calls.StoreCall.{StoreCall}
use Rattle.g_plain.specs.declared.calls.StoreCall.TheVariants as call
use Rattle.g_plain.specs.declared.calls.StoreReply.TheVariants.{Made}
use Rattle.g_plain.specs.declared.faults.StoreFault.{StoreFault}
use Rattle.g_plain.specs.declared.faults.StoreFault.TheVariants as fault

-- this many of them are empty, and one more becomes so
pub one_emptied : {X : Type 0} (xs : List (Option X)) (n : ℕ) → n < length xs → slice_set (replicate n None ++ drop n xs) n None ≡ replicate (n + 1) None ++ drop (n + 1) xs
one_emptied {X} xs n within =
    let none : Option X = None in
    let front : List (Option X) = replicate n none in
    let long : length front ≡ n = length-replicate n none in
    let more : replicate n none ++ replicate 1 none ≡ replicate (n + 1) none = replicate-append-replicate n 1 none in
    let split : drop n xs ≡ slice_index_or xs n none ∷ drop (suc n) xs = drop-cons xs n none within in
    ap (λ (ys : List (Option X)). slice_set (front ++ ys) n none) split
    ∙ ap (λ (i : ℕ). slice_set (front ++ slice_index_or xs n none ∷ drop (suc n) xs) i none) (sym long)
    ∙ set-append_seam front (slice_index_or xs n none) (drop (suc n) xs) none
    ∙ sym (append_assoc front (none ∷ []) (drop (suc n) xs))
    ∙ ap (λ (ys : List (Option X)). ys ++ drop (suc n) xs) more
    ∙ ap (λ (i : ℕ). replicate (n + 1) none ++ drop i xs) (sym (add-one n))

none_long : (n : ℕ) → length (let none : Option (List (List ℕ)) = None in replicate n none) ≡ n
none_long n = length-replicate n None

-- the first readers emptied
abbrev pub emptied : ℕ → Work → Work
emptied n w = with_units (record w.desk.units { readers = replicate n None ++ drop n w.desk.units.readers }) w

pub emptied_more : (n : ℕ) (w v u : Work) → n < 8 → v ≡ emptied n w → u ≡ with_units (with_reader v.desk.units n None) v
    → length v.desk.units.readers ≡ 8 → length v.desk.units.writers ≡ 16
    → (u ≡ emptied (n + 1) w) × (length w.desk.units.readers ≡ 8) × (length w.desk.units.writers ≡ 16)
emptied_more n w v u within is more readers writers =
    let xs : List (Option (List (List ℕ))) = w.desk.units.readers in
    let front : List (Option (List (List ℕ))) = replicate n None in
    let long : length (front ++ drop n xs) ≡ 8 = subst (λ (y : Work). length y.desk.units.readers ≡ 8) is readers in
    let eight : length xs ≡ 8 = omega (arith, within, long, length-append front (drop n xs), none_long n, length-drop n xs) in (
      more
          ∙ ap (λ (y : Work). with_units (with_reader y.desk.units n None) y) is
          ∙ ap (λ (rs : List (Option (List (List ℕ)))). with_units (record w.desk.units { readers = rs }) w) (one_emptied xs n (omega (arith, within, eight))),
      eight,
      subst (λ (y : Work). length y.desk.units.writers ≡ 16) is writers,
    )

pub all_emptied : (n : ℕ) (w v : Work) → n ≡ 8 → v ≡ emptied n w → length w.desk.units.readers ≡ 8 → v ≡ without_readers w
all_emptied n w v last is eight =
    let xs : List (Option (List (List ℕ))) = w.desk.units.readers in
    is
    ∙ ap (λ (k : ℕ). emptied k w) last
    ∙ ap (λ (rs : List (Option (List (List ℕ)))). with_units (record w.desk.units { readers = replicate 8 None ++ rs }) w) (drop_of_length-le xs {i = 8} (omega (arith, eight)))
    ∙ ap (λ (rs : List (Option (List (List ℕ)))). with_units (record w.desk.units { readers = rs }) w) (append-nil (replicate 8 None))

-- a line and a refusal leave the units unchanged
module _ (u : Held) where
  if_has : (b : Bool) (x y : Work) → x.desk.units ≡ u → y.desk.units ≡ u → (if b then x else y).desk.units ≡ u
  if_has true x y hx hy = hx
  if_has false x y hx hy = hy

  say_has : (room : ℕ) (line : List ℕ) (w : Work) → w.desk.units ≡ u → (say room line w).desk.units ≡ u
  say_has room line w has = if_has (nat_lt room (length w.text + length (ended line))) (stopped Full w) (record w { text = w.text ++ ended line }) has has

  refused_has : (room : ℕ) (refusal : StoreFault) (w : Work) → w.desk.units ≡ u → (refused room refusal w).desk.units ≡ u
  refused_has room (fault.WaitTape serial) w has = has
  refused_has room fault.Stopped w has = has
  refused_has room refusal w has = say_has room (marked mark.Error (fault_line refusal)) (set_outcome true note.None w) has

  put_has : (room : ℕ) (well : Bool) (path : Path) (bytes : List ℕ) (w : Work) → w.desk.units ≡ u → AlwaysGives (λ (v : Work). v.desk.units ≡ u) (put room well path bytes w)
  put_has room well path bytes w has = answered
    where
      answered : (answer : Answer) → MayAnswer (call.Put path bytes) answer → AlwaysGives (λ (v : Work). v.desk.units ≡ u) (put_told room well path bytes w answer)
      answered (Ok (Made full)) may =
          say_has room (last_line (call.Put path bytes) (Made full)) (with_bytes (length bytes) (if well then done w else w)) (if_has well (done w) w has has)
      answered (Ok reply) may = has
      answered (Err refusal) may = refused_has room refusal w has

-- after a place is released the others are unchanged
abbrev pub Others : ℕ → Work → Work → Type 0
Others place w v =
    (drop (place + 1) v.desk.units.writers ≡ drop (place + 1) w.desk.units.writers) × (length v.desk.units.writers ≡ length w.desk.units.writers)

without_place : (place : ℕ) (w v : Work) → v.desk.units ≡ with_writer w.desk.units place None → Others place w v
without_place place w v is = (
  ap (λ (u : Held). drop (place + 1) u.writers) is ∙ drop-set-lt (place + 1) w.desk.units.writers place None (omega arith),
  ap (λ (u : Held). length u.writers) is ∙ length-set w.desk.units.writers place None,
)

one_leaves : (room place : ℕ) (output : Option (Path × List ℕ)) (w : Work) → AlwaysGives (Others place w) (release_one room place output w)
one_leaves room place None w = (refl, refl)
one_leaves room place (Some output) w =
    gives_more (λ (v : Work). v.desk.units ≡ with_writer w.desk.units place None) (Others place w) (λ v is. without_place place w v is)
    (put room false output.0 output.1 (with_units (with_writer w.desk.units place None) w))
    (put_has (with_writer w.desk.units place None) room false output.0 output.1 (with_units (with_writer w.desk.units place None) w) refl)

module _ {S : Type 0} (answers : S → List ℕ → StoreCall → Answer → S → Type 0) (is_spent : S → Bool) (can_wait : S → ℕ → Bool) (who : List ℕ) (room place : ℕ) where
  abbrev One : Work → Asks Work
  One w = release_one room place (at_place w.desk.units.writers place) w

  abbrev From : ℕ → Work → Work → Asks Work
  From from w v = release_each room from (drop from w.desk.units.writers) v

  split_at : (w : Work) → place < length w.desk.units.writers → drop place w.desk.units.writers ≡ at_place w.desk.units.writers place ∷ drop (place + 1) w.desk.units.writers
  split_at w within =
      drop-cons w.desk.units.writers place None within
      ∙ ap (λ (n : ℕ). at_place w.desk.units.writers place ∷ drop n w.desk.units.writers) (sym (add-one place))

  others_of : (w v : Work) (old mid : S) → RanWell answers is_spent can_wait who old (One w) v mid → Others place w v
  others_of w v old mid r =
      well_gives answers is_spent can_wait who (Others place w) (One w) old v mid (one_leaves room place (at_place w.desk.units.writers place) w) r

  -- the number of places is preserved
  pub each_long : (w v : Work) (old mid : S) → RanWell answers is_spent can_wait who old (One w) v mid → length v.desk.units.writers ≡ length w.desk.units.writers
  each_long w v old mid r = (others_of w v old mid r).1

  -- the place is released, and then the following ones
  pub each_on : (w v : Work) (old mid : S) → place < length w.desk.units.writers → RanWell answers is_spent can_wait who old (One w) v mid → is_over v ≡ false
      → (given : Work) (new : S) → RanWell answers is_spent can_wait who mid (From (place + 1) v v) given new → RanWell answers is_spent can_wait who old (From place w w) given new
  each_on w v old mid within r goes given new later =
      subst (λ (outputs : List (Option (Path × List ℕ))). RanWell answers is_spent can_wait who old (release_each room place outputs w) given new) (sym (split_at w within))
      (well_then answers is_spent can_wait who (One w) (release_each room (place + 1) (drop (place + 1) w.desk.units.writers)) old mid new v given r goes
      (subst (λ (outputs : List (Option (Path × List ℕ))). RanWell answers is_spent can_wait who mid (release_each room (place + 1) outputs v) given new) (others_of w v old mid r).0 later))

  pub each_over : (w v : Work) (old mid : S) → place < length w.desk.units.writers → RanWell answers is_spent can_wait who old (One w) v mid → is_over v ≡ true
      → RanWell answers is_spent can_wait who old (From place w w) v mid
  each_over w v old mid within r over =
      subst (λ (outputs : List (Option (Path × List ℕ))). RanWell answers is_spent can_wait who old (release_each room place outputs w) v mid) (sym (split_at w within))
      (well_over answers is_spent can_wait who (One w) (release_each room (place + 1) (drop (place + 1) w.desk.units.writers)) old mid v r over)

  pub each_first : (w : Work) (old new : S) → place < length w.desk.units.writers → RanInPart answers who old (One w) new → RanInPart answers who old (From place w w) new
  each_first w old new within r =
      subst (λ (outputs : List (Option (Path × List ℕ))). RanInPart answers who old (release_each room place outputs w) new) (sym (split_at w within))
      (part_first answers is_spent can_wait who (One w) (release_each room (place + 1) (drop (place + 1) w.desk.units.writers)) old new r)

  pub each_part : (w v : Work) (old mid : S) → place < length w.desk.units.writers → RanWell answers is_spent can_wait who old (One w) v mid → is_over v ≡ false
      → (new : S) → RanInPart answers who mid (From (place + 1) v v) new → RanInPart answers who old (From place w w) new
  each_part w v old mid within r goes new later =
      subst (λ (outputs : List (Option (Path × List ℕ))). RanInPart answers who old (release_each room place outputs w) new) (sym (split_at w within))
      (part_then answers is_spent can_wait who (One w) (release_each room (place + 1) (drop (place + 1) w.desk.units.writers)) old mid new v r goes
      (subst (λ (outputs : List (Option (Path × List ℕ))). RanInPart answers who mid (release_each room (place + 1) outputs v) new) (others_of w v old mid r).0 later))

  -- no place is left
  pub none_left : (w : Work) (s : S) → length w.desk.units.writers ≤ place → RanWell answers is_spent can_wait who s (From place w w) w s
  none_left w s last =
      subst (λ (outputs : List (Option (Path × List ℕ))). RanWell answers is_spent can_wait who s (release_each room place outputs w) w s) (sym (drop_of_length-le w.desk.units.writers last))
      (refl, refl)

-- if no unit was assigned, none is released
module _ {S : Type 0} (answers : S → List ℕ → StoreCall → Answer → S → Type 0) (is_spent : S → Bool) (can_wait : S → ℕ → Bool) (who : List ℕ) (room : ℕ) where
  each_unused : (n place : ℕ) (w : Work) (s : S) → is_over w ≡ false
      → RanWell answers is_spent can_wait who s (release_each room place (let none : Option (Path × List ℕ) = None in replicate n none) w) w s
  each_unused zero place w s goes = (refl, refl)
  each_unused (suc n) place w s goes =
      let none : Option (Path × List ℕ) = None in
      subst (λ (b : Bool). RanWell answers is_spent can_wait who s (if b then Gives w else release_each room (place + 1) (replicate n none) w) w s) (sym goes) (each_unused n (place + 1) w s goes)

  pub all_unused : (w : Work) (s : S) → w.desk.units ≡ vacant → is_over w ≡ false → RanWell answers is_spent can_wait who s (release_all room w) w s
  all_unused w s unused goes =
      let none : Option (Path × List ℕ) = None in
      let same : with_units vacant w ≡ w = ap (λ (u : Held). with_units u w) (sym unused) in
      subst (λ (u : Held). RanWell answers is_spent can_wait who s (release_each room 0 u.writers (with_units (record u { readers = replicate 8 None }) w)) w s) (sym unused)
      (subst (λ (v : Work). RanWell answers is_spent can_wait who s (release_each room 0 (replicate 16 none) v) w s) (sym same) (each_unused 16 0 w s goes))
