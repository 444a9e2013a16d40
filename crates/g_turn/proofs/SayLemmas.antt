-- Appending a line to the text and then ending it is printing the line.
-- serves: end_line (ok), list_bytes (ok), refuse, say_reply (ok)
use Rattle.std.proofs.Common.{◌≡◌, ℕ, ◌+◌, ◌≤◌, Bool, true, false, true≢false, List, [], ◌∷◌, ◌++◌, length, length-append, take, drop, append_assoc, nat_lt, if◌then◌else◌, refl, sym, ap, subst, ◌∙◌}
use Rattle.std.proofs.lemmas.List.{take-append-drop, take-append-le}
use Rattle.g_turn.specs.Outcomes.{error_said, is_over, refused, say, say_all, stopped}
use Rattle.g_turn.specs.State.{Full, Work}
use Rattle.g_monitor.specs.Refusals.{IsPrinted, fault_line}
use Rattle.g_plain.specs.declared.faults.StoreFault.{StoreFault}
use Rattle.g_plain.specs.declared.faults.StoreFault.TheVariants as fault

-- the work after a line was ended, by the whole text
abbrev pub settled : ℕ → List ℕ → List ℕ → Work → Work
settled room whole kept w = if nat_lt room (length whole) then stopped Full (record w { text = kept }) else record w { text = whole }

-- a text of two parts, followed by a byte 10
by_parts : (room : ℕ) (before line : List ℕ) (w : Work) → settled room ((before ++ line) ++ 10 ∷ []) before w ≡ say room line (record w { text = before })
by_parts room before line w =
    let joined : (before ++ line) ++ 10 ∷ [] ≡ before ++ (line ++ 10 ∷ []) = append_assoc before line (10 ∷ []) in
    let long : length (before ++ (line ++ 10 ∷ [])) ≡ length before + length (line ++ 10 ∷ []) = length-append before (line ++ 10 ∷ []) in
    ap (λ (whole : List ℕ). settled room whole before w) joined
    ∙ ap (λ (n : ℕ). if nat_lt room n then stopped Full (record w { text = before }) else record w { text = before ++ (line ++ 10 ∷ []) }) long

pub line_ended : (room start : ℕ) (w : Work) → start ≤ length w.text
    → settled room (w.text ++ 10 ∷ []) (take start (w.text ++ 10 ∷ [])) w ≡ say room (drop start w.text) (record w { text = take start w.text })
line_ended room start w within =
    let parts : take start w.text ++ drop start w.text ≡ w.text = take-append-drop start w.text in
    let front : take start (w.text ++ 10 ∷ []) ≡ take start w.text = take-append-le start w.text (10 ∷ []) within in
    ap (λ (kept : List ℕ). settled room (w.text ++ 10 ∷ []) kept w) front
    ∙ ap (λ (text : List ℕ). settled room (text ++ 10 ∷ []) (take start w.text) w) (sym parts)
    ∙ by_parts room (take start w.text) (drop start w.text) w

-- a refusal that is printed
pub refused_said : (room : ℕ) (w : Work) (refusal : StoreFault) → IsPrinted refusal → error_said room (fault_line refusal) w ≡ refused room refusal w
refused_said room w (fault.WaitTape serial) printed = absurd printed
refused_said room w fault.Stopped printed = absurd printed
refused_said room w fault.NoMemory printed = absurd printed
refused_said room w refusal printed = refl

-- several lines, followed by a last one
module _ (room : ℕ) (last : List ℕ) where
  over_by : (above : List (List ℕ)) (s : Work) (b : Bool) → is_over s ≡ b
      → (is_over s ≡ false → is_over (say_all room above s) ≡ true → say_all room (above ++ last ∷ []) s ≡ say_all room above s)
      → is_over (if b then s else say_all room above s) ≡ true → (if b then s else say_all room (above ++ last ∷ []) s) ≡ (if b then s else say_all room above s)
  over_by above s true is again over = refl
  over_by above s false is again over = again is over

  pub over_said : (above : List (List ℕ)) (w : Work) → is_over w ≡ false → is_over (say_all room above w) ≡ true
      → say_all room (above ++ last ∷ []) w ≡ say_all room above w
  over_said [] w goes over = absurd (true≢false (sym over ∙ goes))
  over_said (line ∷ above) w goes over =
      over_by above (say room line w) (is_over (say room line w)) refl (λ is on. over_said above (say room line w) is on) over

  on_by : (above : List (List ℕ)) (s : Work) (b : Bool) → is_over s ≡ b
      → (is_over s ≡ false → is_over (say_all room above s) ≡ false → say_all room (above ++ last ∷ []) s ≡ say room last (say_all room above s))
      → is_over (if b then s else say_all room above s) ≡ false
      → (if b then s else say_all room (above ++ last ∷ []) s) ≡ say room last (if b then s else say_all room above s)
  on_by above s true is again on = absurd (true≢false (sym is ∙ on))
  on_by above s false is again on = again is on

  alone : (s : Work) (b : Bool) → (if b then s else s) ≡ s
  alone s true = refl
  alone s false = refl

  pub on_said : (above : List (List ℕ)) (w : Work) → is_over w ≡ false → is_over (say_all room above w) ≡ false
      → say_all room (above ++ last ∷ []) w ≡ say room last (say_all room above w)
  on_said [] w goes on = alone (say room last w) (is_over (say room last w))
  on_said (line ∷ above) w goes on =
      on_by above (say room line w) (is_over (say room line w)) refl (λ is on. on_said above (say room line w) is on) on

  pub all_over : (above : List (List ℕ)) (w v : Work) → is_over w ≡ false → v ≡ say_all room above w → is_over v ≡ true → v ≡ say_all room (above ++ last ∷ []) w
  all_over above w v goes is over = is ∙ sym (over_said above w goes (subst (λ (y : Work). is_over y ≡ true) is over))

  pub all_on : (above : List (List ℕ)) (w v u : Work) → is_over w ≡ false → v ≡ say_all room above w → is_over v ≡ false → u ≡ say room last v
      → u ≡ say_all room (above ++ last ∷ []) w
  all_on above w v u goes is on said =
      said ∙ ap (λ (y : Work). say room last y) is ∙ sym (on_said above w goes (subst (λ (y : Work). is_over y ≡ false) is on))
