-- IF no count rose.
-- serves: unrisen_runs_are_plain, unrisen_text_is_one, ClauseLemmas
use Rattle.std.proofs.Common.{◌≡◌, ℕ, zero, suc, ◌+◌, ◌≤◌, List, [], ◌∷◌, refl, arith, sym}
use Rattle.std.specs.Prelude.{◌-◌, ◌^◌, min}
use Rattle.std.specs.List.{AllByRecursion}
use Rattle.std.proofs.lemmas.List.Elements.{All-from_recursion}
use Rattle.std.specs.Fn.{Shared}
use denote.Ref.{Bor}
use Rattle.g_base.specs.Counts.{HasRisenBy, Rose, one_more}
use Rattle.g_rules.specs.declared.tariff.Charge.{Charge}
use Rattle.g_rules.specs.declared.tariff.Usage.{Usage}
use Rattle.g_rules.specs.declared.rule.Standing.{Standing}
use Rattle.g_store_model.specs.CallStep.{Cut, DiscRead, Outcome, Plain, TapeRead}
use Rattle.g_run_model.specs.Laws.{IsPlain, OneText}
use Rattle.g_run_model.specs.Moves.{Move, WritesFailed, counted, cuts_in, cuts_of_calls, cuts_of_dumps, disc_reads_in, outcome_of, tape_reads_in}
use Rattle.g_run_model.specs.Devices.{Devices}
use Rattle.g_run_model.proofs.CountLemmas.{counted_parts}
use Rattle.g_run_model.proofs.DeviceDumpLemmas.{devices_dumped}
use Rattle.g_laws_runs.specs.FaultlessRuns.{NothingRose, UnrisenIsPlain, UnrisenTextIsOne}

one_at_least : (n before now : ℕ) → before ≤ now → min (before + suc n) (2 ^ 64 - 1) ≤ now → one_more before ≤ now
one_at_least n before now later by = omega (arith, later, by)

pub unrisen : (n before now : ℕ) → HasRisenBy n before now → (Rose before now → ⊥) → n ≡ 0
unrisen zero before now rises none = refl
unrisen (suc n) before now rises none = absurd (none (record { more = one_at_least n before now rises.later rises.by }))

none_of : (a b n : ℕ) → a + b ≡ n → a ≡ 0 → b ≡ 0 → n ≡ 0
none_of a b n sum first second = omega (arith, sum, first, second)

plain_by : (o : Outcome) → disc_reads_in o ≡ 0 → tape_reads_in o ≡ 0 → cuts_in o ≡ 0 → o ≡ Plain
plain_by Plain d t c = refl
plain_by DiscRead d t c = absurd (let no : ⊥ = omega (arith, d) in no)
plain_by TapeRead d t c = absurd (let no : ⊥ = omega (arith, t) in no)
plain_by Cut d t c = absurd (let no : ⊥ = omega (arith, c) in no)

pub first_none : (a b : ℕ) → a + b ≡ 0 → a ≡ 0
first_none a b sum = omega (arith, sum)

pub rest_none : (a b : ℕ) → a + b ≡ 0 → b ≡ 0
rest_none a b sum = omega (arith, sum)

all_plain : (moves : List Move) → counted disc_reads_in moves ≡ 0 → counted tape_reads_in moves ≡ 0 → counted cuts_in moves ≡ 0 → AllByRecursion IsPlain moves
all_plain [] d t c = tt
all_plain (move ∷ moves) d t c = (
  plain_by (outcome_of move) (first_none (disc_reads_in (outcome_of move)) (counted disc_reads_in moves) d) (first_none (tape_reads_in (outcome_of move)) (counted tape_reads_in moves) t) (first_none (cuts_in (outcome_of move)) (counted cuts_in moves) c),
  all_plain moves (rest_none (disc_reads_in (outcome_of move)) (counted disc_reads_in moves) d) (rest_none (tape_reads_in (outcome_of move)) (counted tape_reads_in moves) t) (rest_none (cuts_in (outcome_of move)) (counted cuts_in moves) c),
)

no_cuts : (calls dumps : ℕ) (old new : Devices) → WritesFailed calls dumps old new → NothingRose old new → (calls ≡ 0) × (dumps ≡ 0)
no_cuts calls dumps old new failed none =
    let disc = unrisen (calls + failed.of_disc) old.disc.write_faults new.disc.write_faults failed.disc.rose none.disc_writes in
    let rack = unrisen failed.of_rack old.rack.write_faults new.rack.write_faults failed.rack.rose none.tape_writes in
    (first_none calls failed.of_disc disc, none_of failed.of_disc failed.of_rack dumps failed.together (rest_none calls failed.of_disc disc) rack)

pub unrisen_is_plain : UnrisenIsPlain
unrisen_is_plain moves last old new counts none =
    let cuts = no_cuts (cuts_of_calls moves) (cuts_of_dumps moves) old new counts.cuts none in
    All-from_recursion IsPlain moves (all_plain moves
    (unrisen (counted disc_reads_in moves) old.disc.read_faults new.disc.read_faults counts.disc_read.rose none.disc_reads)
    (unrisen (counted tape_reads_in moves) old.rack.read_faults new.rack.read_faults counts.tape_read.rose none.tape_reads)
    (none_of (cuts_of_calls moves) (cuts_of_dumps moves) (counted cuts_in moves) (sym (counted_parts cuts_in moves)) cuts.0 cuts.1))

module _ {F U : Type 0} (tariffs : Shared F (Bor Usage × Unit {0}) Charge) (tariff : F) (rules : Shared U (Bor Standing × Unit {0}) ℕ) (rule : U) (one : OneText tariffs tariff rules rule) where
  pub unrisen_text : UnrisenTextIsOne tariffs tariff rules rule
  unrisen_text lines bad s old new new' moves others last other weighs timed stand first second none none' over over' charges =
      one lines bad s moves others last other weighs timed (devices_dumped old s stand) first.run second.run over over'
      (unrisen_is_plain moves last old new first.counted none) (unrisen_is_plain others other old new' second.counted none') charges
