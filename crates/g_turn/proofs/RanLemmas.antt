-- The outcome of a part of a turn.
-- serves: any_verb, command, display_line, erase_line, input_line, list_line
use Rattle.std.proofs.Common.{◌≡◌, ℕ, ◌+◌, ◌≤◌, Bool, false, List, Ok, Result, OnOk, arith, refl, subst, sym}
use Rattle.std.proofs.lemmas.Result.{on_ok_weaker}
use Rattle.g_base.specs.declared.memory.NoMemory.{NoMemory}
use Rattle.g_lang.specs.LineReader.{params_read}
use Rattle.g_plain.specs.Programs.{Answer, Asks, Gives}
use Rattle.g_plain.specs.declared.calls.StoreCall.{StoreCall}
use Rattle.g_turn.specs.Commands.{acted, verb_line}
use Rattle.g_turn.specs.State.{Work}
use Rattle.g_turn.specs.Steps.{HasRun}
use Rattle.g_turn.proofs.ReadyLemmas.{err_none}
use Rattle.g_verbs.specs.VerbReader.{action_read}
use Rattle.g_verbs.specs.declared.action.Action.{Action}

module _ {S : Type 0} (answers : S → List ℕ → StoreCall → Answer → S → Type 0) (is_spent : S → Bool) (can_wait : S → ℕ → Bool) (who : List ℕ) where
  -- a part that makes no call
  pub gives_alone : (given : Work) (most : ℕ) (s : S) (w : Work) (r : Result (Unit {0}) NoMemory) (v : Work) → is_spent s ≡ false → OnOk r (v ≡ given) → OnOk r (v.blocks ≡ w.blocks)
      → HasRun answers is_spent can_wait who (Gives given) most s w r v s
  gives_alone given most s w r v running did same = record {
    ok = on_ok_weaker r (λ is. (is, refl)) did;
    err = err_none answers who (Gives given) s r;
    live = on_ok_weaker r (λ is going. running) did;
    same_waits = λ serial. refl;
    blocks = on_ok_weaker r (λ blocks. omega (arith, blocks)) same;
  }

  -- a verb's line is executed as the action that it is read as
  pub line_ran : (room : ℕ) (by : Bool) (name rest : List ℕ) (read : Result Action ℕ) (most : ℕ) (old : S) (w : Work) (r : Result (Unit {0}) NoMemory) (v : Work) (new : S)
      → action_read name (params_read rest) rest ≡ read → HasRun answers is_spent can_wait who (acted room who by name read w) most old w r v new
      → HasRun answers is_spent can_wait who (verb_line room who by name rest w) most old w r v new
  line_ran room by name rest read most old w r v new is did =
      subst (λ asked. HasRun answers is_spent can_wait who (acted room who by name asked w) most old w r v new) (sym is) did
