-- The words of a demonstration, and the statuses with which it ends.
-- serves: answer (demo), check_or_run (demo), run (demo), run_or_demo
use Rattle.std.proofs.Common.{List, [], ap, arith, codes, sym, ℕ, Option, ◌∙◌, ◌∷◌, ◌≡◌, inl, inr}
use Rattle.std.specs.Borrow.{Bor}
use Rattle.std.specs.Fn.{Shared}
use Rattle.g_demo.specs.Words.{demo_words, texts_of}
use Rattle.g_demo.specs.declared.demonstration.Demonstration.{Demonstration}
use Rattle.g_rules.specs.declared.tariff.Charge.{Charge}
use Rattle.g_rules.specs.declared.tariff.Usage.{Usage}
use Rattle.g_rules.specs.declared.rule.Standing.{Standing}
use Rattle.g_run.specs.Input.{IsRun}
use Rattle.g_run.specs.Top.{EndsDemo}
use Rattle.g_run.specs.declared.status.Status.{Status}
use Rattle.g_run.specs.declared.status.Status.TheVariants.{Done, Words, BadScript, ScriptFault, OutputFault, NoMemory, TooLong}
use Rattle.g_program.specs.Exit.{IsCheck, IsConsole, IsOfDemo}

-- a demonstration ends with one of three statuses
pub of_demo : {F U : Type 0} (tariffs : Shared F (Bor Usage × Unit {0}) Charge) (tariff : F) (rules : Shared U (Bor Standing × Unit {0}) ℕ) (rule : U) (status : Status) (demo : Demonstration)
    (before after : Option (List ℕ)) → EndsDemo tariffs tariff rules rule status demo before after → IsOfDemo status
of_demo tariffs tariff rules rule Done demo before after ends = tt
of_demo tariffs tariff rules rule OutputFault demo before after ends = tt
of_demo tariffs tariff rules rule NoMemory demo before after ends = tt
of_demo tariffs tariff rules rule Words demo before after ends = ends
of_demo tariffs tariff rules rule (BadScript line) demo before after ends = ends
of_demo tariffs tariff rules rule ScriptFault demo before after ends = ends
of_demo tariffs tariff rules rule TooLong demo before after ends = ends

-- the words of a demonstration aren't a session's, a check's or a run's: the second bytes of the first words differ
abbrev second_byte : List (List ℕ) → ℕ
second_byte ((first ∷ second ∷ bytes) ∷ words) = second
second_byte words = 0

console_isnt : (words others : List (List ℕ)) (demo : Demonstration) → words ≡ codes "console" ∷ others → words ≡ demo_words demo → ⊥
console_isnt words others demo is asks = let same : (let n : ℕ = 111 in n ≡ 101) = ap second_byte (sym is ∙ asks) in omega (arith, same)

pub session_isnt_demo : (words : List (Bor (List ℕ))) (demo : Demonstration) → IsConsole words → texts_of words ≡ demo_words demo → ⊥
session_isnt_demo words demo (inl is) asks = console_isnt (texts_of words) [] demo is asks
session_isnt_demo words demo (inr (log, is)) asks = console_isnt (texts_of words) (log ∷ []) demo is asks

pub check_isnt_demo : (words : List (Bor (List ℕ))) (demo : Demonstration) → IsCheck words → texts_of words ≡ demo_words demo → ⊥
check_isnt_demo words demo is asks = let same : (let n : ℕ = 104 in n ≡ 101) = ap second_byte (sym is ∙ asks) in omega (arith, same)

pub run_isnt_demo : (words : List (List ℕ)) (demo : Demonstration) → words ≡ codes "run" ∷ [] → words ≡ demo_words demo → ⊥
run_isnt_demo words demo is asks = let same : (let n : ℕ = 117 in n ≡ 101) = ap second_byte (sym is ∙ asks) in omega (arith, same)
