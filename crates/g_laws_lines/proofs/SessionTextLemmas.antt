-- A SESSION'S TEXT without the lines that begin with `?` is the text of its run.
-- serves: ended_sessions_are_filtered, sessions_are_filtered
use Rattle.std.proofs.Common.{◌≡◌, ◌≢◌, ◌++◌, ℕ, Bool, true, false, cond, not, List, [], ◌∷◌, All, map, filter, codes, None, append_assoc, append-nil, inl, inr, refl, sym, ◌∙◌, ap, subst}
use Rattle.std.specs.Fn.{Shared}
use Rattle.std.specs.List.{flat_map, list_all}
use Rattle.std.proofs.lemmas.Bool.{and_from, and_parts}
use Rattle.std.proofs.lemmas.List.{append_cancel_left}
use Rattle.std.proofs.lemmas.List.Concat.{flat_map-append}
use Rattle.std.proofs.lemmas.List.Elements.{All-cons, All-head, All-nil, All-tail, filter-append}
use Rattle.std.proofs.lemmas.List.Folds.{list_all-append}
use denote.Ref.{Bor}
use Rattle.g_lines.proofs.LineLemmas.{lines_of-split, text-lines}
use Rattle.g_lines.specs.Documents.{IsOneLine}
use Rattle.g_lines.specs.Lines.{ended, lines_of, text_of}
use Rattle.g_laws_sessions.specs.Asked.{AreOwnLines, own_line, refusal_line, tick_line}
use Rattle.g_laws_sessions.specs.Laws.{OwnLinesAreMarked}
use Rattle.g_laws_sessions.specs.Session.{Asked, Comes, Exchange, Exchanged, Exchanges, Moment, Nothing, Own, Refused, Rested, Skipped, Then, Took, Unclosed, script_of, taken}
use Rattle.g_rules.specs.declared.tariff.Charge.{Charge}
use Rattle.g_rules.specs.declared.tariff.Usage.{Usage}
use Rattle.g_rules.specs.declared.rule.Standing.{Standing}
use Rattle.g_run_model.proofs.DeviceDumpLemmas.{devices_dumped}
use Rattle.g_run_model.specs.Laws.{HasDumped}
use Rattle.g_run_model.specs.World.{World}
use Rattle.g_script.specs.Script.{timed_said}
use Rattle.g_script.specs.declared.operator.Timed.{Timed}
use Rattle.g_store_model.specs.State.{State}
use Rattle.g_laws_lines.proofs.DeviceLemmas.{devices_named}
use Rattle.g_laws_lines.proofs.LawLemmas.{made}
use Rattle.g_laws_lines.proofs.ScriptLemmas.{item_fine}
use Rattle.g_laws_lines.proofs.StateLemmas.{AreNamed, one_line}
use Rattle.g_laws_lines.proofs.TextLemmas.{IsMade, are_lines, each_byte, is_line, is_marked, made_lines, made_none, may_print}
use Rattle.g_laws_lines.proofs.WorldLemmas.{IsFineWorld, run_fine}
use Rattle.g_laws_lines.specs.Lines.{begins_with}
use Rattle.g_laws_lines.specs.SessionLaws.{EndedSessionsAreFiltered, SessionsAreFiltered}

-- the lines that aren't the console's own
abbrev unmarked : List (List ℕ) → List (List ℕ)
unmarked lines = filter (λ (line : List ℕ). not (begins_with 63 line)) lines

-- THE TEXT OF A SESSION, with that of its run
pub record Mixed (text told : List ℕ) : Type 0 where
  pub lines : List (List ℕ)
  pub is : text ≡ text_of lines
  pub one : are_lines lines ≡ true
  pub rest : told ≡ text_of (unmarked lines)

mixed_both : (text told : List ℕ) → Mixed text told → (more : List ℕ) (added : List ℕ) → Mixed more added → Mixed (text ++ more) (told ++ added)
mixed_both text told m more added n = record {
  lines = m.lines ++ n.lines;
  is = ap (λ (x : List ℕ). x ++ more) m.is ∙ ap (λ (x : List ℕ). text_of m.lines ++ x) n.is ∙ sym (flat_map-append ended m.lines n.lines);
  one = list_all-append is_line m.lines n.lines ∙ and_from _ _ m.one n.one;
  rest = ap (λ (x : List ℕ). x ++ added) m.rest ∙ ap (λ (x : List ℕ). text_of (unmarked m.lines) ++ x) n.rest ∙ sym (flat_map-append ended (unmarked m.lines) (unmarked n.lines))
      ∙ ap text_of (sym (filter-append (λ (line : List ℕ). not (begins_with 63 line)) m.lines n.lines));
}

-- what a run printed
mark_is : (line : List ℕ) → begins_with 63 line ≡ is_marked line
mark_is [] = refl
mark_is (byte ∷ bytes) = refl

told_lines : (lines : List (List ℕ)) → list_all may_print lines ≡ true → (are_lines lines ≡ true) × (unmarked lines ≡ lines)
told_lines [] may = (refl, refl)
told_lines (line ∷ lines) may =
    let parts = and_parts _ _ may in
    let here = and_parts _ _ parts.0 in
    let rest = told_lines lines parts.1 in (
      and_from _ _ here.1 rest.0,
      ap (λ (b : Bool). cond b (line ∷ unmarked lines) (unmarked lines)) (ap not (mark_is line) ∙ here.0) ∙ ap (λ (ls : List (List ℕ)). line ∷ ls) rest.1,
    )

mixed_told : (told : List ℕ) → IsMade told → Mixed told told
mixed_told told made =
    let all = told_lines made.lines made.all in record { lines = made.lines; is = made.is; one = all.0; rest = made.is ∙ ap text_of (sym all.1) }

-- lines of the console's own
own_lines : (lines : List (List ℕ)) → All IsOneLine lines → Mixed (flat_map own_line lines) []
own_lines lines one = record { lines = map (λ (l : List ℕ). codes "? " ++ l) lines; is = same lines; one = whole lines one; rest = ap text_of (sym (none lines)) }
  where
    same : (ls : List (List ℕ)) → flat_map own_line ls ≡ text_of (map (λ (l : List ℕ). codes "? " ++ l) ls)
    same [] = refl
    same (l ∷ ls) = ap (λ (x : List ℕ). own_line l ++ x) (same ls)

    whole : (ls : List (List ℕ)) → All IsOneLine ls → are_lines (map (λ (l : List ℕ). codes "? " ++ l) ls) ≡ true
    whole [] all = refl
    whole (l ∷ ls) all = and_from _ _ (one_line l (All-head IsOneLine l ls all)) (whole ls (All-tail IsOneLine l ls all))

    none : (ls : List (List ℕ)) → unmarked (map (λ (l : List ℕ). codes "? " ++ l) ls) ≡ []
    none [] = refl
    none (l ∷ ls) = none ls

mixed_own : (text told own : List ℕ) → Mixed text told → AreOwnLines own → Mixed (text ++ own) told
mixed_own text told own m are =
    subst (λ (x : List ℕ). Mixed (text ++ own) x) (append-nil told) (mixed_both text told m own [] (subst (λ (x : List ℕ). Mixed x []) (sym are.all) (own_lines are.lines are.one)))

-- WHAT IS ADDED to a text of whole lines
behind_lines : (lines : List (List ℕ)) (more : List ℕ) → list_all may_print lines ≡ true → lines_of (text_of lines ++ more) ≡ lines ++ lines_of more
behind_lines [] more may = refl
behind_lines (line ∷ lines) more may =
    let parts = and_parts _ _ may in
    ap lines_of (append_assoc (ended line) (text_of lines) more ∙ append_assoc line (10 ∷ []) (text_of lines ++ more))
    ∙ lines_of-split (line ++ 10 ∷ (text_of lines ++ more)) line (text_of lines ++ more) refl (each_byte line (and_parts _ _ parts.0).1) ∙ ap (λ (ls : List (List ℕ)). line ∷ ls) (behind_lines lines more parts.1)

made_rest : (text more : List ℕ) → IsMade text → IsMade (text ++ more) → IsMade more
made_rest text more one two =
    let both : two.lines ≡ one.lines ++ lines_of more = sym (made_lines (text ++ more) two) ∙ ap (λ (x : List ℕ). lines_of (x ++ more)) one.is ∙ behind_lines one.lines more one.all in
    let may = and_parts _ _ (sym (list_all-append may_print one.lines (lines_of more)) ∙ ap (list_all may_print) (sym both) ∙ two.all) in
    let texts : text ++ more ≡ text ++ text_of (lines_of more) =
    two.is ∙ ap text_of both ∙ flat_map-append ended one.lines (lines_of more) ∙ ap (λ (x : List ℕ). x ++ text_of (lines_of more)) (sym one.is) in
    record { lines = lines_of more; is = append_cancel_left text more (text_of (lines_of more)) texts; all = may.1 }

module _ {F U : Type 0} (tariffs : Shared F (Bor Usage × Unit {0}) Charge) (tariff : F) (rules : Shared U (Bor Standing × Unit {0}) ℕ) (rule : U) (marked : OwnLinesAreMarked) where
  abbrev IsWell : Moment → Type 0
  IsWell now = IsFineWorld now.world × Mixed now.text now.world.text

  -- a part of the run, and then lines of the console's own
  part_well : (before after : Moment) (lines : List Timed) (told : List ℕ) → IsWell before → IsFineWorld after.world → after.world.text ≡ before.world.text ++ told → after.text ≡ before.text ++ told → IsWell after
  part_well before after lines told h fine world text =
      let made = made_rest before.world.text told h.0.5 (subst IsMade world fine.5) in
      let both = mixed_both before.text before.world.text h.1 told told (mixed_told told made) in
      (fine, subst (λ (x : List ℕ). Mixed after.text x) (sym world) (subst (λ (x : List ℕ). Mixed x (before.world.text ++ told)) (sym text) both))

  aside_well : (before after : Moment) (own : List ℕ) → IsWell before → after.world ≡ before.world → after.text ≡ before.text ++ own → AreOwnLines own → IsWell after
  aside_well before after own h world text are =
      subst (λ (w : World). IsFineWorld w × Mixed after.text w.text) (sym world)
      (h.0, subst (λ (x : List ℕ). Mixed x before.world.text) (sym text) (mixed_own before.text before.world.text own h.1 are))

  one_well : (exchange : Exchange) (before after : Moment) → IsWell before → Exchanged tariffs tariff rules rule exchange before after → IsWell after
  one_well (Took item when) before after h t =
      let w = before.world in
      let now : IsFineWorld (record w { lines = timed_said item ∷ [] }) = ((item_fine item t.is_typed.is_item, tt), h.0.1, h.0.2, h.0.3, h.0.4, h.0.5) in
      part_well before after [] t.told h (run_fine tariffs tariff rules rule t.moves (record w { lines = timed_said item ∷ [] }) after.world now t.goes.run) t.goes.text t.text
  one_well Rested before after h t =
      let w = before.world in
      let now : IsFineWorld (record w { lines = [] }) = (tt, h.0.1, h.0.2, h.0.3, h.0.4, h.0.5) in
      let fine = run_fine tariffs tariff rules rule t.moves (record w { lines = [] }) after.world now t.goes.run in
      let middle : Moment = record after { text = before.text ++ t.told } in
      aside_well middle after (tick_line after.world.count) (part_well before middle [] t.told h fine t.goes.text refl) refl t.text (marked (Own (tick_line after.world.count)) (inl (after.world.count, inl refl)))
  one_well (Asked q) before after h t =
      aside_well before after t.answer h (ap (λ (m : Moment). m.world) t.after_is) (ap (λ (m : Moment). m.text) t.after_is) (marked (Own t.answer) (inr (q, (before.world, t.answers))))
  one_well (Refused k skips) before after h t =
      aside_well before after (refusal_line k) h (ap (λ (m : Moment). m.world) t.after_is) (ap (λ (m : Moment). m.text) t.after_is) (marked (Own (refusal_line k)) (inl (k, inr refl)))
  one_well Skipped before after h t = subst IsWell (sym t.after_is) h
  one_well (Unclosed k) before after h t =
      aside_well before after (refusal_line k) h (ap (λ (m : Moment). m.world) t.after_is) (ap (λ (m : Moment). m.text) t.after_is) (marked (Own (refusal_line k)) (inl (k, inr refl)))

  comes_well : (s : State) (said : Exchanges) (now : Moment) → AreNamed s → HasDumped s → Comes tariffs tariff rules rule s said now → IsWell now
  comes_well s Nothing now named dumps is =
      subst IsWell (sym is) ((tt, named, dumps, tt, tt, made_none), mixed_told [] made_none)
  comes_well s (Then said exchange) now named dumps (before, comes, follows, exchanged) = one_well exchange before now (comes_well s said before named dumps comes) exchanged

  all_lines : (lines : List (List ℕ)) → are_lines lines ≡ true → lines_of (text_of lines) ≡ lines
  all_lines lines one = text-lines lines (each lines one)
    where
      each : (ls : List (List ℕ)) → are_lines ls ≡ true → All (λ (line : List ℕ). All (λ (b : ℕ). b ≢ 10) line) ls
      each [] is = All-nil (λ (line : List ℕ). All (λ (b : ℕ). b ≢ 10) line)
      each (l ∷ ls) is = let parts = and_parts _ _ is in All-cons (λ (line : List ℕ). All (λ (b : ℕ). b ≢ 10) line) l ls (each_byte l parts.0) (each ls parts.1)

  kept_lines : (lines : List (List ℕ)) → are_lines lines ≡ true → are_lines (unmarked lines) ≡ true
  kept_lines [] one = refl
  kept_lines (l ∷ lines) one = by (not (begins_with 63 l)) (kept_lines lines (and_parts _ _ one).1)
    where
      by : (b : Bool) → are_lines (unmarked lines) ≡ true → are_lines (cond b (l ∷ unmarked lines) (unmarked lines)) ≡ true
      by true rest = and_from _ _ (and_parts _ _ one).0 rest
      by false rest = rest

  mixed_filtered : (text told : List ℕ) → Mixed text told → unmarked (lines_of text) ≡ lines_of told
  mixed_filtered text told m =
      ap (λ (x : List ℕ). unmarked (lines_of x)) m.is ∙ ap unmarked (all_lines m.lines m.one) ∙ sym (all_lines (unmarked m.lines) (kept_lines m.lines m.one)) ∙ ap lines_of (sym m.rest)

  pub sessions_are_filtered : SessionsAreFiltered tariffs tariff rules rule
  sessions_are_filtered d s said now stand comes = mixed_filtered now.text now.world.text (comes_well s said now (devices_named d s stand) (devices_dumped d s stand) comes).1

  -- what is printed at the end of a session belongs to its run
  pub ended_sessions_are_filtered : EndedSessionsAreFiltered tariffs tariff rules rule
  ended_sessions_are_filtered s old new t before after bad stand over =
      let now = over.now in
      let well = comes_well s over.said now (devices_named old s stand) (devices_dumped old s stand) over.comes in
      let whole = made tariffs tariff rules rule (script_of over.said) (taken over.said) None old s over.moves over.last over.parsed stand over.run_of.run in
      let rest = made_rest now.world.text over.rest well.0.5 (subst IsMade over.told whole) in
      let both = mixed_both now.text now.world.text well.1 over.rest over.rest (mixed_told over.rest rest) in
      ap (λ (x : List ℕ). unmarked (lines_of x)) over.put ∙ mixed_filtered (now.text ++ over.rest) (now.world.text ++ over.rest) both ∙ ap lines_of (sym over.told)
