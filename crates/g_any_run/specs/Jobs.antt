-- What a run asks of its jobs, whatever they do.
use Rattle.std.specs.Prelude.{ℕ, Bool, List, Option}
use Rattle.g_plain.specs.Programs.{Asks}
use Rattle.g_rules.specs.declared.rule.Standing.{Standing}
use Rattle.g_rules.specs.declared.tariff.Charge.{Charge}
use Rattle.g_rules.specs.declared.tariff.Usage.{Usage}
use Rattle.g_rules.specs.declared.turn.Turn.{Turn}

-- A JOB PROGRAM. J is a job between two turns, W the work of a turn.
pub record Jobs (J W : Type 0) : Type 0 where
  -- What a run reads of a job: its number and its user; its allowances of TIME and of MONEY, and what it has used of each; its standing, by
  -- which the next job is chosen; its monitoring file; the reel that it waits for; its terminal, and whether that wasn't logged out; and whether
  -- it can continue without another line.
  pub number : J → ℕ
  pub user : J → List ℕ
  pub time : J → ℕ
  pub money : J → ℕ
  pub used : J → ℕ
  pub used_money : J → ℕ
  pub standing : J → Standing
  pub monitor : J → List ℕ
  pub wants : J → Option ℕ
  pub terminal : J → Option ℕ
  pub is_open : J → Bool
  pub is_ready : J → Bool
  -- A new job, from its number, name, user, TIME, MONEY and document; and one at a terminal, from its number, terminal, user and TIME.
  pub begun : ℕ → List ℕ → List ℕ → ℕ → ℕ → List (List ℕ) → J
  pub begun_at : ℕ → ℕ → List ℕ → ℕ → J
  -- The job after a line was typed at its terminal, and after the terminal was logged out.
  pub typed : List ℕ → J → J
  pub logged_out : J → J
  -- A turn: which calls it makes to the store, depending on the answers; what it is charged for; and how it ends with a charge.
  pub work : J → Asks W
  pub usage : W → Usage
  pub ends : J → W → Option Charge → Option (Turn × J)
