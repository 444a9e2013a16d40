-- The end of a turn in the code: it preserves the job's rules, and is the end that is defined.
-- serves: charge (ok), end_by (ok), settle (ok), TurnLemmas
use Rattle.std.proofs.Common.{◌≡◌, ℕ, ◌+◌, ◌<◌, Bool, true, false, List, ◌++◌, length, Option, Some, None, is_some, option_map, refl, sym, ap, ◌∙◌, subst}
use Rattle.std.proofs.lemmas.Bool.{true≢false}
use Rattle.std.specs.Fn.{FnReturnsAt, Shared}
use denote.Ref.{Bor}
use Rattle.g_rules.specs.declared.tariff.Charge.{Charge}
use Rattle.g_rules.specs.declared.tariff.Usage.{Usage}
use Rattle.g_job.specs.Beginning.{room_of}
use Rattle.g_job.specs.Ending.{IsClear, IsWaiting, turn_by, with_last}
use Rattle.g_job.specs.TurnEnd.{IsTurn, behind_turn, charged, charged_end, end_by, is_free, last_line, money_of, turn_of, units_of, waited}
use Rattle.g_turn.specs.Bounds.{HasMore, IsWithin}
use Rattle.g_job.specs.Rules.{IsGoneOnWith, IsJob}
use Rattle.g_turn.specs.State.{Broken, Desk, Done, Full, Pending, Stop, Waits, Work}
use Rattle.g_job.specs.State.{JobState}
use Rattle.g_rules.specs.declared.turn.Turn.{Turn}
use Rattle.g_rules.specs.declared.turn.Turn.TheVariants as turn
use Rattle.g_lines.specs.Lines.{ended}
use Rattle.g_job.proofs.RulesLemmas.{rules_of_clear}

-- a job with nothing pending
cleared : (j : JobState) → IsClear j → record j { pending = None; wants = None } ≡ j
cleared j clear =
    ap (λ (p : Option Pending). record j { pending = p; wants = None }) (sym clear.0) ∙ ap (λ (s : Option ℕ). record j { wants = s }) (sym clear.1)

-- the job may wait, with what a turn that waits resumes with
pub waiting_of : (j : JobState) (w : Work) (stop : Option Stop) (serial : ℕ) → IsWithin (room_of j) w → IsGoneOnWith j.monitor w → w.desk ≡ j.desk → stop ≡ w.stop → stop ≡ Some (Waits serial)
    → IsWaiting j w.again
waiting_of j w stop serial within gone desk es is =
    let more : is_some w.again ≡ true = subst (λ (s : Option Stop). HasMore s w.again) (sym es ∙ is) within.waits in
    (more, gone.pending, subst (λ (d : Desk). 0 < length d.levels.levels) desk (gone.level more))

-- nothing is pending any more
pub clear_rules : (j : JobState) (desk : Desk) → IsJob j → IsJob (record j { desk = desk; pending = None; wants = None })
clear_rules j desk rules =
    rules_of_clear j rules j.used j.used_money j.turns desk j.monitor j.over rules.covered rules.paid rules.turned rules.has_time rules.file

-- the job after a turn that is charged, as the code computes it
abbrev pub settled : JobState → List ℕ → Charge → Option (List ℕ) → JobState
settled j text charge last = record j {
  used = j.used + units_of j charge;
  used_money = j.used_money + money_of j charge;
  turns = j.turns + 1;
  monitor = with_last (j.monitor ++ text) last;
  over = is_some last;
}

-- is the one that is defined
settled_is : (j : JobState) (w : Work) (charge : Charge) (last : Option (List ℕ)) → IsClear j → j.over ≡ false → w.desk ≡ j.desk
    → settled j w.text charge (option_map ended last) ≡ behind_turn (charged j w charge) last
settled_is j w charge None clear going desk =
    ap (λ (over : Bool). record j { used = j.used + units_of j charge; used_money = j.used_money + money_of j charge; turns = j.turns + 1; monitor = j.monitor ++ w.text; over = over }) (sym going)
    ∙ ap (λ (k : JobState). record j { used = j.used + units_of j charge; used_money = j.used_money + money_of j charge; turns = j.turns + 1; monitor = j.monitor ++ w.text; pending = k.pending; wants = k.wants }) (sym (cleared j clear))
    ∙ ap (λ (d : Desk). record j { used = j.used + units_of j charge; used_money = j.used_money + money_of j charge; turns = j.turns + 1; desk = d; pending = None; wants = None; monitor = j.monitor ++ w.text }) (sym desk)
settled_is j w charge (Some last) clear going desk =
    ap (λ (k : JobState). record j { used = j.used + units_of j charge; used_money = j.used_money + money_of j charge; turns = j.turns + 1; monitor = (j.monitor ++ w.text) ++ ended last; pending = k.pending; wants = k.wants; over = true }) (sym (cleared j clear))
    ∙ ap (λ (d : Desk). record j { used = j.used + units_of j charge; used_money = j.used_money + money_of j charge; turns = j.turns + 1; desk = d; pending = None; wants = None; monitor = (j.monitor ++ w.text) ++ ended last; over = true }) (sym desk)

module _ (j : JobState) (text : List ℕ) (charge : Charge) (stop : Option Stop) (last : Option (List ℕ)) (clear : IsClear j) (going : j.over ≡ false) where
  turn_is : (units money : ℕ) (line : Option (List ℕ)) → turn_by units money (is_some (option_map ended line)) ≡ turn_of units money line
  turn_is units money None = refl
  turn_is units money (Some line) = refl

  pub settled_end : ((w : Work) → last ≡ option_map ended (last_line stop j charge (charged j w charge))) → (w : Work) → w.desk ≡ j.desk → w.text ≡ text
      → (let both : Turn × JobState = (turn_by (units_of j charge) (money_of j charge) (is_some last), settled j text charge last) in both ≡ charged_end stop j w charge)
  settled_end is w desk same =
      ap (λ (l : Option (List ℕ)). let both : Turn × JobState = (turn_by (units_of j charge) (money_of j charge) (is_some l), settled j text charge l) in both) (is w)
      ∙ ap (λ (t : Turn). let both : Turn × JobState = (t, settled j text charge (option_map ended (last_line stop j charge (charged j w charge)))) in both)
      (turn_is (units_of j charge) (money_of j charge) (last_line stop j charge (charged j w charge)))
      ∙ ap (λ (x : List ℕ). let both : Turn × JobState = (turn_of (units_of j charge) (money_of j charge) (last_line stop j charge (charged j w charge)), settled j x charge (option_map ended (last_line stop j charge (charged j w charge)))) in both)
      (sym same)
      ∙ ap (λ (k : JobState). let both : Turn × JobState = (turn_of (units_of j charge) (money_of j charge) (last_line stop j charge (charged j w charge)), k) in both)
      (settled_is j w charge (last_line stop j charge (charged j w charge)) clear going desk)

-- a turn that is charged ends as defined
by_free : (stop : Option Stop) → is_free stop ≡ false → (j : JobState) (w : Work) (charge : Charge) → end_by stop j w (Some charge) ≡ Some (charged_end stop j w charge)
by_free None free j w charge = refl
by_free (Some Full) free j w charge = refl
by_free (Some Done) free j w charge = refl
by_free (Some (Waits serial)) free j w charge = absurd (true≢false free)
by_free (Some Broken) free j w charge = absurd (true≢false free)

-- a turn and a job have such an end
abbrev Comes : JobState → Charge → Option Stop → Work → ℕ → ℕ → Desk → List ℕ → Bool → Turn → Type 0
Comes j charge stop w units money desk monitor over t =
    let both : Turn × JobState = (t, record j { used = j.used + units; used_money = j.used_money + money; turns = j.turns + 1; desk = desk; monitor = monitor; over = over }) in
    both ≡ charged_end stop j w charge

module _ (j : JobState) (text : List ℕ) (charge : Charge) (stop : Option Stop) (last : Option (List ℕ)) (clear : IsClear j) (going : j.over ≡ false) where
  -- as the code computes it
  pub settle_end : (units money : ℕ) (desk : Desk) (monitor : List ℕ) (over : Bool) (t : Turn)
      → ((w : Work) → last ≡ option_map ended (last_line stop j charge (charged j w charge)))
      → units ≡ units_of j charge → money ≡ money_of j charge → desk ≡ j.desk → monitor ≡ with_last (j.monitor ++ text) last → over ≡ is_some last → t ≡ turn_by units money over
      → (w : Work) → w.desk ≡ j.desk → w.text ≡ text
      → Comes j charge stop w units money desk monitor over t
  settle_end units money desk monitor over t is eu ep ed em eo et w there same =
      subst (λ (x : Turn). Comes j charge stop w units money desk monitor over x) (sym et)
      (subst (λ (b : Bool). Comes j charge stop w units money desk monitor b (turn_by units money b)) (sym eo)
      (subst (λ (m : List ℕ). Comes j charge stop w units money desk m (is_some last) (turn_by units money (is_some last))) (sym em)
      (subst (λ (d : Desk). Comes j charge stop w units money d (with_last (j.monitor ++ text) last) (is_some last) (turn_by units money (is_some last))) (sym ed)
      (subst (λ (n : ℕ). Comes j charge stop w units n j.desk (with_last (j.monitor ++ text) last) (is_some last) (turn_by units n (is_some last))) (sym ep)
      (subst (λ (n : ℕ). Comes j charge stop w n (money_of j charge) j.desk (with_last (j.monitor ++ text) last) (is_some last) (turn_by n (money_of j charge) (is_some last))) (sym eu)
      (settled_end j text charge stop last clear going is w there same))))))

module _ {F : Type 0} (calls : Shared F (Bor Usage × Unit {0}) Charge) (rule : F) where
  pub charged_turn : (j : JobState) (w : Work) (orders blocks : ℕ) (stop : Option Stop) (charge : Charge) (t : Turn) (new : JobState)
      → orders ≡ w.orders → blocks ≡ w.blocks → stop ≡ w.stop → w.desk ≡ j.desk → is_free stop ≡ false
      → FnReturnsAt calls rule (record { orders = orders; blocks = blocks }) charge
      → ((v : Work) → v.desk ≡ j.desk → v.text ≡ w.text → (let both : Turn × JobState = (t, new) in both ≡ charged_end stop j v charge))
      → IsTurn calls rule j w t new
  charged_turn j w orders blocks stop charge t new eo eb es desk free kept settle = (
    Some charge,
    subst (λ (n : ℕ). FnReturnsAt calls rule (record { orders = n; blocks = w.blocks }) charge) eo
        (subst (λ (n : ℕ). FnReturnsAt calls rule (record { orders = orders; blocks = n }) charge) eb kept),
    ap (λ (s : Option Stop). end_by s j w (Some charge)) (sym es) ∙ by_free stop free j w charge
        ∙ ap (λ (both : Turn × JobState). let end : Option (Turn × JobState) = Some both in end) (sym (settle w desk refl)),
  )

  -- a turn that waits, and one that was stopped
  pub waits_turn : (j : JobState) (w : Work) (stop : Option Stop) (serial : ℕ) (new : JobState) → stop ≡ w.stop → stop ≡ Some (Waits serial) → new ≡ waited j w serial
      → IsTurn calls rule j w (turn.Wants serial) new
  waits_turn j w stop serial new es is behind = (
    None,
    tt,
    ap (λ (s : Option Stop). end_by s j w None) (sym es ∙ is)
        ∙ ap (λ (k : JobState). let end : Option (Turn × JobState) = Some (turn.Wants serial, k) in end) (sym behind),
  )

  pub broken_turn : (j : JobState) (w : Work) (stop : Option Stop) (new : JobState) → stop ≡ w.stop → stop ≡ Some Broken → IsClear j → w.desk ≡ j.desk
      → new ≡ record j { monitor = j.monitor ++ w.text; over = true } → IsTurn calls rule j w turn.Broken new
  broken_turn j w stop new es is clear desk behind = (
    None,
    tt,
    ap (λ (s : Option Stop). end_by s j w None) (sym es ∙ is)
        ∙ ap (λ (d : Desk). let end : Option (Turn × JobState) = Some (turn.Broken, record j { desk = d; pending = None; wants = None; monitor = j.monitor ++ w.text; over = true }) in end) desk
        ∙ ap (λ (k : JobState). let end : Option (Turn × JobState) = Some (turn.Broken, record k { monitor = j.monitor ++ w.text; over = true }) in end) (cleared j clear)
        ∙ ap (λ (k : JobState). let end : Option (Turn × JobState) = Some (turn.Broken, k) in end) (sym behind),
  )

pub is_last : {X : Type 0} (f : X → List ℕ) (line : Option X) → is_some line ≡ is_some (option_map ended (option_map f line))
is_last f None = refl
is_last f (Some line) = refl
