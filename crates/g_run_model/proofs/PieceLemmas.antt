-- The text that a move prints, in pieces, and how they relate to the files of jobs at terminals.
-- serves: PutLemmas
use Rattle.std.proofs.Common.{◌≡◌, ◌+◌, ◌==◌, ◌&&◌, ℕ, Bool, true, false, cond, List, [], ◌∷◌, ◌++◌, drop, length, Option, Some, None, IfSome, append_assoc, append-nil, refl, sym, ◌∙◌, ap, subst, inl, inr, if◌then◌else◌, eq-eqb, eqb-true, arith}
use Rattle.std.specs.List.{AllByRecursion}
use Rattle.g_turn.specs.State.{Broken, Done, Full, Stop, Waits, Work}
use Rattle.g_rules.specs.declared.tariff.Charge.{Charge}
use Rattle.g_job.specs.TurnEnd.{behind_turn, charged, end_by, is_money_up, is_time_up, turn_end, turn_of, units_of, money_of, up_line}
use Rattle.g_job.specs.State.{JobState}
use Rattle.g_rules.specs.declared.turn.Turn.{Turn}
use Rattle.g_rules.specs.declared.turn.Turn.TheVariants as turns
use Rattle.g_lines.specs.Lines.{ended}
use Rattle.g_monitor.specs.JobLines.{job_line}
use Rattle.g_monitor.specs.declared.job_lines.JobLine.TheVariants as ending
use Rattle.g_run_model.specs.Terminals.{At, IsLastLine, IsOther, Other, Piece, output_at, piece_text, text_of_pieces}
use Rattle.g_run_model.specs.Texts.{file_with, files_with, put_as}
use Rattle.g_run_model.proofs.CrewLemmas.{AreRising, no_job, numbered, one_job}
use Rattle.g_run_model.proofs.ShareLemmas.{below_none}

-- pieces one after another
pub text_append : (xs ys : List Piece) → text_of_pieces (xs ++ ys) ≡ text_of_pieces xs ++ text_of_pieces ys
text_append [] ys = refl
text_append (x ∷ xs) ys = ap (λ (r : List ℕ). piece_text x ++ r) (text_append xs ys) ∙ sym (append_assoc (piece_text x) (text_of_pieces xs) (text_of_pieces ys))

output_then : (b : Bool) (added xs ys zs : List ℕ) → zs ≡ xs ++ ys → (if b then added ++ zs else zs) ≡ (if b then added ++ xs else xs) ++ ys
output_then true added xs ys zs is = ap (λ (r : List ℕ). added ++ r) is ∙ sym (append_assoc added xs ys)
output_then false added xs ys zs is = is

pub output_append : (number t : ℕ) (xs ys : List Piece) → output_at number t (xs ++ ys) ≡ output_at number t xs ++ output_at number t ys
output_append number t [] ys = refl
output_append number t (At n x added ∷ xs) ys = output_then ((n == number) && (x == t)) added (output_at number t xs) (output_at number t ys) (output_at number t (xs ++ ys)) (output_append number t xs ys)
output_append number t (Other text ∷ xs) ys = output_append number t xs ys

-- the piece of a job's file
abbrev pub piece_by : Option ℕ → ℕ → List ℕ → List ℕ → Piece
piece_by None number whole added = Other whole
piece_by (Some t) number whole added = At number t added

piece_is : (o : Option ℕ) (number : ℕ) (whole added : List ℕ) → piece_text (piece_by o number whole added) ≡ put_as o whole added
piece_is None number whole added = refl
piece_is (Some t) number whole added = refl

-- of another number
pub other_number : (o : Option ℕ) (n number t : ℕ) (whole added : List ℕ) (ps : List Piece) → (n == number) ≡ false → output_at number t (piece_by o n whole added ∷ ps) ≡ output_at number t ps
other_number None n number t whole added ps e = refl
other_number (Some x) n number t whole added ps e = ap (λ (b : Bool). if b && (x == t) then added ++ output_at number t ps else output_at number t ps) e

-- of this number, at its terminal
pub eqb_same : (n : ℕ) → (n == n) ≡ true
eqb_same n = eq-eqb n n refl

pub its_number : (number t : ℕ) (whole added : List ℕ) (ps : List Piece) → output_at number t (piece_by (Some t) number whole added ∷ ps) ≡ added ++ output_at number t ps
its_number number t whole added ps =
    ap (λ (b : Bool). if b && (t == t) then added ++ output_at number t ps else output_at number t ps) (eqb_same number)
    ∙ ap (λ (b : Bool). if b then added ++ output_at number t ps else output_at number t ps) (eqb_same t)

-- THE FILES of jobs, each with a last line
module _ (last : JobState → List ℕ) where
  abbrev pub pieces_of : List JobState → List Piece
  pieces_of [] = []
  pieces_of (j ∷ jobs) = piece_by j.terminal j.number (j.monitor ++ ended (last j)) (ended (last j)) ∷ pieces_of jobs

  pub files_text : (jobs : List JobState) → text_of_pieces (pieces_of jobs) ≡ files_with last jobs
  files_text [] = refl
  files_text (j ∷ jobs) =
      ap (λ (x : List ℕ). x ++ text_of_pieces (pieces_of jobs)) (piece_is j.terminal j.number (j.monitor ++ ended (last j)) (ended (last j)))
      ∙ ap (λ (x : List ℕ). file_with last j ++ x) (files_text jobs)

  other_by : (j : JobState) (o : Option ℕ) → j.terminal ≡ o → IsOther (piece_by o j.number (j.monitor ++ ended (last j)) (ended (last j)))
  other_by j None is = inr (inl (j, ended (last j), is, refl))
  other_by j (Some t) is = tt

  pub files_others : (jobs : List JobState) → AllByRecursion IsOther (pieces_of jobs)
  files_others [] = tt
  files_others (j ∷ jobs) = (other_by j j.terminal refl, files_others jobs)

  -- nothing is printed for a number that no job has
  pub files_none : (number t : ℕ) (jobs : List JobState) → numbered number jobs ≡ None → output_at number t (pieces_of jobs) ≡ []
  files_none number t [] none = refl
  files_none number t (k ∷ jobs) none = by (k.number == number) refl none (λ e. files_none number t jobs e)
    where
      by : (b : Bool) → (k.number == number) ≡ b → cond b (Some k) (numbered number jobs) ≡ None → (numbered number jobs ≡ None → output_at number t (pieces_of jobs) ≡ [])
          → output_at number t (pieces_of (k ∷ jobs)) ≡ []
      by true e none again = absurd (let no : ⊥ = cc in no)
      by false e none again = other_number k.terminal k.number number t (k.monitor ++ ended (last k)) (ended (last k)) (pieces_of jobs) e ∙ again none

  -- and its last line for the job of a number, at its terminal
  pub files_one : (number t low : ℕ) (jobs : List JobState) (top : ℕ) (job : JobState) → AreRising low jobs top → numbered number jobs ≡ Some job → job.terminal ≡ Some t
      → output_at number t (pieces_of jobs) ≡ ended (last job)
  files_one number t low [] top job r found at_t = no_job job found
  files_one number t low (k ∷ jobs) top job r found at_t = by (k.number == number) refl found (λ e. files_one number t (k.number + 1) jobs top job r.1 e at_t)
    where
      by : (b : Bool) → (k.number == number) ≡ b → cond b (Some k) (numbered number jobs) ≡ Some job → (numbered number jobs ≡ Some job → output_at number t (pieces_of jobs) ≡ ended (last job))
          → output_at number t (pieces_of (k ∷ jobs)) ≡ ended (last job)
      by true e found again =
          let number_is : k.number ≡ number = eqb-true k.number number e in
          let it : k ≡ job = one_job k job found in
          let here : k.terminal ≡ Some t = ap (λ (j : JobState). j.terminal) it ∙ at_t in
          let rest : output_at number t (pieces_of jobs) ≡ [] = files_none number t jobs (below_none number (k.number + 1) jobs top (omega (arith, number_is)) r.1) in
          ap (λ (o : Option ℕ). output_at number t (piece_by o k.number (k.monitor ++ ended (last k)) (ended (last k)) ∷ pieces_of jobs)) here
          ∙ ap (λ (n : ℕ). output_at number t (piece_by (Some t) n (k.monitor ++ ended (last k)) (ended (last k)) ∷ pieces_of jobs)) number_is
          ∙ its_number number t (k.monitor ++ ended (last k)) (ended (last k)) (pieces_of jobs)
          ∙ ap (λ (x : List ℕ). ended (last k) ++ x) rest ∙ append-nil (ended (last k)) ∙ ap (λ (j : JobState). ended (last j)) it
      by false e found again = other_number k.terminal k.number number t (k.monitor ++ ended (last k)) (ended (last k)) (pieces_of jobs) e ∙ again found

-- THE END OF A TURN adds to the file, and where the job ends a last line
abbrev pub Last : List ℕ → Type 0
Last added = (front : List ℕ) × (last : List ℕ) × IsLastLine last × (added ≡ front ++ ended last)

abbrev pub EndsWith : Turn → List ℕ → Type 0
EndsWith (turns.Ended units money) added = Last added
EndsWith turn added = Unit {0}

pub record Grown (job : JobState) (turn : Turn) (after : JobState) : Type 0 where
  pub terminal : after.terminal ≡ job.terminal
  pub number : after.number ≡ job.number
  pub added : List ℕ
  pub monitor : after.monitor ≡ job.monitor ++ added
  pub ends : EndsWith turn added

ended_grown : (j : JobState) (w : Work) (charge : Charge) (last : List ℕ) → IsLastLine last
    → Grown j (turn_of (units_of j charge) (money_of j charge) (Some last)) (behind_turn (charged j w charge) (Some last))
ended_grown j w charge last is = record {
  terminal = refl;
  number = refl;
  added = w.text ++ ended last;
  monitor = append_assoc j.monitor w.text (ended last);
  ends = (w.text, last, is, refl);
}

end_grown : (j : JobState) (w : Work) (stop : Option Stop) (charge : Option Charge) → IfSome (end_by stop j w charge) (λ e. Grown j e.0 e.1)
end_grown j w (Some (Waits serial)) None = record { terminal = refl; number = refl; added = []; monitor = sym (append-nil j.monitor); ends = tt }
end_grown j w (Some (Waits serial)) (Some charge) = tt
end_grown j w (Some Broken) None = record { terminal = refl; number = refl; added = w.text; monitor = refl; ends = tt }
end_grown j w (Some Broken) (Some charge) = tt
end_grown j w (Some Full) None = tt
end_grown j w (Some Full) (Some charge) = ended_grown j w charge (job_line ending.Full) (inl (ending.Full, tt, refl))
end_grown j w (Some Done) None = tt
end_grown j w (Some Done) (Some charge) = ended_grown j w charge (job_line (ending.End (charged j w charge).used)) (inl (ending.End (charged j w charge).used, tt, refl))
end_grown j w None None = tt
end_grown j w None (Some charge) = by (is_time_up j charge) (is_money_up j charge)
  where
    by : (time money : Bool) → Grown j (turn_of (units_of j charge) (money_of j charge) (up_line time money (charged j w charge))) (behind_turn (charged j w charge) (up_line time money (charged j w charge)))
    by true money = ended_grown j w charge (job_line (ending.TimeUp (charged j w charge).used)) (inl (ending.TimeUp (charged j w charge).used, tt, refl))
    by false true = ended_grown j w charge (job_line (ending.MoneyUp (charged j w charge).used_money)) (inl (ending.MoneyUp (charged j w charge).used_money, tt, refl))
    by false false = record { terminal = refl; number = refl; added = w.text; monitor = refl; ends = tt }

pub turn_grown : (j : JobState) (w : Work) (charge : Option Charge) (turn : Turn) (after : JobState) → turn_end j w charge ≡ Some (turn, after) → Grown j turn after
turn_grown j w charge turn after ends = subst (λ (e : Option (Turn × JobState)). IfSome e (λ x. Grown j x.0 x.1)) ends (end_grown j w w.stop charge)

-- what is printed at once is what was added
drop_front : (xs ys : List ℕ) → drop (length xs) (xs ++ ys) ≡ ys
drop_front [] ys = refl
drop_front (x ∷ xs) ys = drop_front xs ys

pub added_is : (j : JobState) (turn : Turn) (after : JobState) (g : Grown j turn after) → drop (length j.monitor) after.monitor ≡ g.added
added_is j turn after g = ap (drop (length j.monitor)) g.monitor ∙ drop_front j.monitor g.added
