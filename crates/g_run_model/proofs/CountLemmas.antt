-- What the devices count, event by event.
-- serves: crates above
use Rattle.std.proofs.Common.{◌≡◌, ℕ, ◌+◌, ◌++◌, Bool, true, false, cond, filter, List, [], ◌∷◌, refl, sym, ◌∙◌, subst, arith}
use Rattle.g_base.specs.Counts.{Rose}
use Rattle.g_base.proofs.CountLemmas.{HasRisenBy-Rose, HasRisenBy-none, HasRisenBy-then}
use Rattle.g_base.proofs.FuseLemmas.{armed_then}
use Rattle.g_store_model.specs.CallStep.{Outcome, Plain}
use Rattle.g_run_model.specs.Devices.{Devices}
use Rattle.g_run_model.specs.Moves.{Answered, Begin, Counted, Dumped, EventCounted, Failures, Happened, LineCounted, Move, MovesCounted, Over, TakeLine, Ticked, TurnOver, WritesFailed, counted, cuts_in, cuts_of_calls, cuts_of_dumps, disc_reads_in, is_dump, not_dump, tape_reads_in}
use Rattle.g_run_model.specs.World.{World}

first_zero : (a b : ℕ) → a + b ≡ 0 → a ≡ 0
first_zero a b e = omega (arith, e)

second_zero : (a b : ℕ) → a + b ≡ 0 → b ≡ 0
second_zero a b e = omega (arith, e)

-- a count of failures: there was none; there was one; and some after others
pub no_failure : (a b : ℕ) → b ≡ a → Failures 0 a b
no_failure a b e = record { rose = HasRisenBy-none (omega (arith, e)); none = λ none. e }

pub a_failure : (a b : ℕ) → Rose a b → Failures 1 a b
a_failure a b rose = record { rose = HasRisenBy-Rose rose; none = λ e. absurd (let no : ⊥ = omega (arith, e) in no) }

failures_then : (m n a b c : ℕ) → Failures m a b → Failures n b c → Failures (m + n) a c
failures_then m n a b c was is = record {
  rose = HasRisenBy-then was.rose is.rose;
  none = λ e. is.none (second_zero m n e) ∙ was.none (first_zero m n e);
}

-- the writes that failed, of calls and of dumps
writes_failed : (calls of_disc of_rack : ℕ) (old new : Devices) → Failures (calls + of_disc) old.disc.write_faults new.disc.write_faults → Failures of_rack old.rack.write_faults new.rack.write_faults
    → WritesFailed calls (of_disc + of_rack) old new
writes_failed calls of_disc of_rack old new disc rack = record { of_disc = of_disc; of_rack = of_rack; together = refl; disc = disc; rack = rack }

-- no write failed; one of the disc did; one of the rack did
pub none_failed : (old new : Devices) → new.disc.write_faults ≡ old.disc.write_faults → new.rack.write_faults ≡ old.rack.write_faults → WritesFailed 0 0 old new
none_failed old new disc rack = writes_failed 0 0 0 old new (no_failure old.disc.write_faults new.disc.write_faults disc) (no_failure old.rack.write_faults new.rack.write_faults rack)

pub disc_failed : (old new : Devices) → Rose old.disc.write_faults new.disc.write_faults → new.rack.write_faults ≡ old.rack.write_faults → WritesFailed 1 0 old new
disc_failed old new rose rack = writes_failed 1 0 0 old new (a_failure old.disc.write_faults new.disc.write_faults rose) (no_failure old.rack.write_faults new.rack.write_faults rack)

-- the same of a step of a dump
pub dump_failed : (old new : Devices) → Rose old.disc.write_faults new.disc.write_faults → new.rack.write_faults ≡ old.rack.write_faults → WritesFailed 0 1 old new
dump_failed old new rose rack = writes_failed 0 1 0 old new (a_failure old.disc.write_faults new.disc.write_faults rose) (no_failure old.rack.write_faults new.rack.write_faults rack)

pub rack_failed : (old new : Devices) → new.disc.write_faults ≡ old.disc.write_faults → Rose old.rack.write_faults new.rack.write_faults → WritesFailed 0 1 old new
rack_failed old new disc rose = writes_failed 0 0 1 old new (no_failure old.disc.write_faults new.disc.write_faults disc) (a_failure old.rack.write_faults new.rack.write_faults rose)

-- devices that no event took part in, and devices that are alike but for what they hold
pub happened_same : (old new : Devices) → new.disc.read_faults ≡ old.disc.read_faults → new.disc.write_faults ≡ old.disc.write_faults → new.disc.arms ≡ old.disc.arms
    → new.rack.read_faults ≡ old.rack.read_faults → new.rack.write_faults ≡ old.rack.write_faults → new.rack.arms ≡ old.rack.arms → Happened 0 0 0 0 [] [] old new
happened_same old new disc_reads disc_writes disc_arms tape_reads tape_writes tape_arms = record {
  disc_read = no_failure old.disc.read_faults new.disc.read_faults disc_reads;
  tape_read = no_failure old.rack.read_faults new.rack.read_faults tape_reads;
  cuts = none_failed old new disc_writes tape_writes;
  disc_armed = disc_arms;
  tape_armed = tape_arms;
}

pub event_none : (d : Devices) → Happened 0 0 0 0 [] [] d d
event_none d = happened_same d d refl refl refl refl refl refl

four : (a b c d : ℕ) → (a + b) + (c + d) ≡ (a + c) + (b + d)
four a b c d = omega arith

-- one part after the other
failed_then : (k l m n : ℕ) (old now new : Devices) → WritesFailed k m old now → WritesFailed l n now new → WritesFailed (k + l) (m + n) old new
failed_then k l m n old now new was is = record {
  of_disc = was.of_disc + is.of_disc;
  of_rack = was.of_rack + is.of_rack;
  together = let first = was.together in let second = is.together in omega (arith, first, second);
  disc = subst (λ (x : ℕ). Failures x old.disc.write_faults new.disc.write_faults) (four k was.of_disc l is.of_disc)
      (failures_then (k + was.of_disc) (l + is.of_disc) old.disc.write_faults now.disc.write_faults new.disc.write_faults was.disc is.disc);
  rack = failures_then was.of_rack is.of_rack old.rack.write_faults now.rack.write_faults new.rack.write_faults was.rack is.rack;
}

pub happened_then : (a b c e : ℕ) (d t : List ℕ) (a' b' c' e' : ℕ) (d' t' : List ℕ) (old now new : Devices) → Happened a b c e d t old now → Happened a' b' c' e' d' t' now new
    → Happened (a + a') (b + b') (c + c') (e + e') (d ++ d') (t ++ t') old new
happened_then a b c e d t a' b' c' e' d' t' old now new was is = record {
  disc_read = failures_then a a' old.disc.read_faults now.disc.read_faults new.disc.read_faults was.disc_read is.disc_read;
  tape_read = failures_then b b' old.rack.read_faults now.rack.read_faults new.rack.read_faults was.tape_read is.tape_read;
  cuts = failed_then c c' e e' old now new was.cuts is.cuts;
  disc_armed = armed_then d d' old.disc.arms now.disc.arms new.disc.arms was.disc_armed is.disc_armed;
  tape_armed = armed_then t t' old.rack.arms now.rack.arms new.rack.arms was.tape_armed is.tape_armed;
}

pub counted_append : (f : Outcome → ℕ) (moves more : List Move) → counted f (moves ++ more) ≡ counted f moves + counted f more
counted_append f [] more = omega arith
counted_append f (m ∷ moves) more = let rest = counted_append f moves more in omega (arith, rest)

filtered_append : (p : Move → Bool) (f : Outcome → ℕ) (moves more : List Move) → counted f (filter p (moves ++ more)) ≡ counted f (filter p moves) + counted f (filter p more)
filtered_append p f [] more = omega arith
filtered_append p f (m ∷ moves) more = by (p m) (filtered_append p f moves more)
  where
    by : (b : Bool) → counted f (filter p (moves ++ more)) ≡ counted f (filter p moves) + counted f (filter p more)
        → counted f (cond b (m ∷ filter p (moves ++ more)) (filter p (moves ++ more))) ≡ counted f (cond b (m ∷ filter p moves) (filter p moves)) + counted f (filter p more)
    by true rest = omega (arith, rest)
    by false rest = rest

-- all cuts are of calls and lines, or of dumps
pub counted_parts : (f : Outcome → ℕ) (moves : List Move) → counted f moves ≡ counted f (filter not_dump moves) + counted f (filter is_dump moves)
counted_parts f [] = refl
counted_parts f (m ∷ moves) = by m (counted_parts f moves)
  where
    by : (m : Move) → counted f moves ≡ counted f (filter not_dump moves) + counted f (filter is_dump moves) → counted f (m ∷ moves) ≡ counted f (filter not_dump (m ∷ moves)) + counted f (filter is_dump (m ∷ moves))
    by (TakeLine true o) rest = omega (arith, rest)
    by (TakeLine false o) rest = omega (arith, rest)
    by (Dumped o) rest = omega (arith, rest)
    by (Begin number) rest = omega (arith, rest)
    by (Answered o) rest = omega (arith, rest)
    by (TurnOver number charge) rest = omega (arith, rest)
    by Ticked rest = omega (arith, rest)
    by Over rest = omega (arith, rest)

one_more_zero : (n : ℕ) → n + 0 ≡ n
one_more_zero n = omega arith

-- at other numbers, which are equal
at_counts : (a b c e a' b' c' e' : ℕ) (d t : List ℕ) (old new : Devices) → a' ≡ a → b' ≡ b → c' ≡ c → e' ≡ e → Happened a b c e d t old new → Happened a' b' c' e' d t old new
at_counts a b c e a' b' c' e' d t old new sa sb sc se is =
    subst (λ (n : ℕ). Happened n b' c' e' d t old new) (sym sa)
    (subst (λ (n : ℕ). Happened a n c' e' d t old new) (sym sb)
    (subst (λ (n : ℕ). Happened a b n e' d t old new) (sym sc)
    (subst (λ (n : ℕ). Happened a b c n d t old new) (sym se) is)))

-- the moves of two parts
pub moves_then : (moves more : List Move) (d t d' t' : List ℕ) (old now new : Devices) → MovesCounted moves d t old now → MovesCounted more d' t' now new → MovesCounted (moves ++ more) (d ++ d') (t ++ t') old new
moves_then moves more d t d' t' old now new was is =
    at_counts (counted disc_reads_in moves + counted disc_reads_in more) (counted tape_reads_in moves + counted tape_reads_in more) (cuts_of_calls moves + cuts_of_calls more) (cuts_of_dumps moves + cuts_of_dumps more)
    (counted disc_reads_in (moves ++ more)) (counted tape_reads_in (moves ++ more)) (cuts_of_calls (moves ++ more)) (cuts_of_dumps (moves ++ more)) (d ++ d') (t ++ t') old new
    (counted_append disc_reads_in moves more) (counted_append tape_reads_in moves more) (filtered_append not_dump cuts_in moves more) (filtered_append is_dump cuts_in moves more)
    (happened_then (counted disc_reads_in moves) (counted tape_reads_in moves) (cuts_of_calls moves) (cuts_of_dumps moves) d t
    (counted disc_reads_in more) (counted tape_reads_in more) (cuts_of_calls more) (cuts_of_dumps more) d' t' old now new was is)

-- one move: a line, a step of the dump, or any other
abbrev pub MoveCounted : Move → List ℕ → List ℕ → Devices → Devices → Type 0
MoveCounted (TakeLine tape o) d t old new = LineCounted tape o d t old new
MoveCounted (Dumped o) d t old new = Happened (disc_reads_in o) (tape_reads_in o) 0 (cuts_in o) d t old new
MoveCounted (Begin number) d t old new = EventCounted Plain d t old new
MoveCounted (Answered o) d t old new = EventCounted o d t old new
MoveCounted (TurnOver number charge) d t old new = EventCounted Plain d t old new
MoveCounted Ticked d t old new = EventCounted Plain d t old new
MoveCounted Over d t old new = EventCounted Plain d t old new

at_one : (o : Outcome) (c e : ℕ) (d t : List ℕ) (old new : Devices) (c' e' : ℕ) → c' ≡ c → e' ≡ e → Happened (disc_reads_in o) (tape_reads_in o) c e d t old new → Happened (disc_reads_in o + 0) (tape_reads_in o + 0) c' e' d t old new
at_one o c e d t old new c' e' sc se is =
    at_counts (disc_reads_in o) (tape_reads_in o) c e (disc_reads_in o + 0) (tape_reads_in o + 0) c' e' d t old new (one_more_zero (disc_reads_in o)) (one_more_zero (tape_reads_in o)) sc se is

pub move_counted : (m : Move) (d t : List ℕ) (old new : Devices) → MoveCounted m d t old new → MovesCounted (m ∷ []) d t old new
move_counted (TakeLine true o) d t old new is = at_one o 0 (cuts_in o) d t old new 0 (cuts_in o + 0) refl (one_more_zero (cuts_in o)) is
move_counted (TakeLine false o) d t old new is = at_one o (cuts_in o) 0 d t old new (cuts_in o + 0) 0 (one_more_zero (cuts_in o)) refl is
move_counted (Dumped o) d t old new is = at_one o 0 (cuts_in o) d t old new 0 (cuts_in o + 0) refl (one_more_zero (cuts_in o)) is
move_counted (Begin number) d t old new is = is
move_counted (Answered o) d t old new is = at_one o (cuts_in o) 0 d t old new (cuts_in o + 0) 0 (one_more_zero (cuts_in o)) refl is
move_counted (TurnOver number charge) d t old new is = is
move_counted Ticked d t old new is = is
move_counted Over d t old new is = is

-- ALL THE MOVES of a run
pub counted_of : (moves : List Move) (last : World) (old new : Devices) → MovesCounted moves last.disc_stops last.tape_stops old new → Counted moves last old new
counted_of moves last old new is = is
