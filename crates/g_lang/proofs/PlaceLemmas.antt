-- The place where a line goes wrong, from what the reader accepts and what completes it.
-- serves: PartLemmas, ReadingLemmas, RestLemmas, TakeLemmas, VerbLemmas
use Rattle.std.proofs.Common.{Bool, List, None, Option, Some, [], ap, arith, eq-eqb, false, get_or, inl, inr, is_some, length, ne_eqb, refl, subst, suc, sym, take, true, zero, ℕ, ◌++◌, ◌+◌, ◌==◌, ◌∙◌, ◌∷◌, ◌≡◌, ◌≤◌, ◌⊎◌}
use Rattle.std.proofs.lemmas.Bool.{false≢true}
use Rattle.std.specs.Prelude.{if◌then◌else◌, codes}
use Rattle.g_lang.specs.LineReader.{AComma, ALetter, ATest, AText, Front, Next, Params, State, fixed, may_end, step, wrong_from, ALabel, ATestFrom, Back, BeforeComma, Fixed, Gap, InGoto, InLabel, InText, Letter, VerbGap, Word}
use Rattle.g_name.proofs.BadPlaceLemmas.{wrong_at}
use Rattle.g_name.specs.BadPlace.{Begins, IsBadPlace}
use Rattle.g_name.specs.Machine.{run}

-- a text that completes the line from here
abbrev pub completing_next : Next → List ℕ
completing_next ATest = codes "FAILED,X"
completing_next AComma = codes ",X"
completing_next AText = codes "),X"
completing_next (ALetter equals) = if equals then codes "A)=(),X" else codes "A),X"

abbrev pub closing : ℕ → List ℕ
closing zero = []
closing (suc depth) = 41 ∷ closing depth

abbrev pub completing : State → List ℕ
completing Front = []
completing (InLabel n) = []
completing Gap = []
completing (Word word inner) = if may_end (Word word inner) then [] else codes "X"
completing (ATestFrom negated) = codes "FAILED,X"
completing (Fixed f rest next) = (f ∷ rest) ++ completing_next next
completing (Letter equals) = completing_next (ALetter equals)
completing InText = codes "),X"
completing BeforeComma = codes ",X"
completing ALabel = codes "1"
completing (InGoto n) = []
completing Back = []
completing VerbGap = []
completing (Params depth) = closing depth

-- the reader accepts the whole text from this state, and a line may end after it
abbrev pub takes : State → List ℕ → Bool
takes s [] = may_end s
takes s (c ∷ cs) = elim (step c s) [ None ↦ false | Some t ↦ takes t cs ]

-- where the reader stops: the bytes before the place lead to a state, and either the text ends there, or its byte leads nowhere
pub record StopsAt (s : State) (text : List ℕ) (n : ℕ) : Type 0 where
  pub within : n ≤ length text
  pub here : State
  pub led : run step (Some s) (take n text) ≡ Some here
  pub end : (n ≡ length text) ⊎ (step (get_or text n 0) here ≡ None)

-- one byte further on
later : (s t : State) (c : ℕ) (cs : List ℕ) (n : ℕ) → step c s ≡ Some t → StopsAt t cs n → StopsAt s (c ∷ cs) (suc n)
later s t c cs n goes stops = record {
  within = omega (arith, stops.within);
  here = stops.here;
  led = ap (λ (o : Option State). run step o (take n cs)) goes ∙ stops.led;
  end = elim stops.end [ inl e ↦ inl (ap suc e) | inr e ↦ inr e ];
}

-- a choice that returned a place
end_some : (b : Bool) (at place : ℕ) → (if b then None else Some at) ≡ Some place → at ≡ place
end_some true at place w = absurd cc
end_some false at place w = cc

by_step : (s : State) (at : ℕ) (c : ℕ) (cs : List ℕ) (place : ℕ)
    → ((t : State) → wrong_from t (at + 1) cs ≡ Some place → (n : ℕ) × (place ≡ at + 1 + n) × StopsAt t cs n)
    → (o : Option State) → step c s ≡ o → (elim o [ None ↦ Some at | Some t ↦ wrong_from t (at + 1) cs ]) ≡ Some place
    → (n : ℕ) × (place ≡ at + n) × StopsAt s (c ∷ cs) n
by_step s at c cs place again None e w =
    let here : at ≡ place = cc in
    let same : place ≡ at + 0 = omega (arith, here) in
    (0, same, record { within = omega arith; here = s; led = refl; end = inr e })
by_step s at c cs place again (Some t) e w =
    let more = again t w in
    let same : place ≡ at + suc more.0 = omega (arith, more.1) in
    (suc more.0, same, later s t c cs more.0 e more.2)

-- what `wrong_from` returns
pub stops_at : (s : State) (at : ℕ) (text : List ℕ) (place : ℕ) → wrong_from s at text ≡ Some place → (n : ℕ) × (place ≡ at + n) × StopsAt s text n
stops_at s at [] place w =
    let here : at ≡ place = end_some (may_end s) at place w in
    let same : place ≡ at + 0 = omega (arith, here) in
    (0, same, record { within = omega arith; here = s; led = refl; end = inl refl })
stops_at s at (c ∷ cs) place w = by_step s at c cs place (λ t more. stops_at t (at + 1) cs place more) (step c s) refl w

none_runs : (zs : List ℕ) → run step None zs ≡ None
none_runs [] = refl
none_runs (z ∷ zs) = none_runs zs

by_first : (here : State) (xs ys : List ℕ) → ((t : State) → run step (Some t) xs ≡ Some here → takes t (xs ++ ys) ≡ takes here ys)
    → (o : Option State) → run step o xs ≡ Some here → (elim o [ None ↦ false | Some t ↦ takes t (xs ++ ys) ]) ≡ takes here ys
by_first here xs ys again None led = let gone = none_runs xs in absurd cc
by_first here xs ys again (Some t) led = again t led

-- what the reader accepts after bytes that led to a state
pub takes-append : (s here : State) (xs ys : List ℕ) → run step (Some s) xs ≡ Some here → takes s (xs ++ ys) ≡ takes here ys
takes-append s here [] ys led = ap (λ (o : Option State). elim o [ None ↦ false | Some t ↦ takes t ys ]) led
takes-append s here (x ∷ xs) ys led = by_first here xs ys (λ t more. takes-append t here xs ys more) (step x s) led

-- each state's completing text
pub closes : (depth : ℕ) → takes (Params depth) (closing depth) ≡ true
closes zero = refl
closes (suc depth) =
    let not_zero : (suc depth == 0) ≡ false = ne_eqb (suc depth) 0 (λ none. absurd (omega (arith, none))) in
    subst (λ (b : Bool). let none : Option State = None in (elim (if b then none else Some (Params depth)) [ None ↦ false | Some t ↦ takes t (closing depth) ]) ≡ true)
    (sym not_zero) (closes depth)

pub fixed_completes : (rest : List ℕ) (next : Next) → takes (fixed rest next) (rest ++ completing_next next) ≡ true
fixed_completes [] ATest = refl
fixed_completes [] AComma = refl
fixed_completes [] AText = refl
fixed_completes [] (ALetter true) = refl
fixed_completes [] (ALetter false) = refl
fixed_completes (c ∷ rest) next =
    let same : (c == c) ≡ true = eq-eqb c c refl in
    subst (λ (b : Bool). let none : Option State = None in (elim (if b then Some (fixed rest next) else none) [ None ↦ false | Some t ↦ takes t (rest ++ completing_next next) ]) ≡ true)
    (sym same) (fixed_completes rest next)

-- a run over a text that the reader accepts
takes_on : (text : List ℕ) → ((t : State) → takes t text ≡ true → is_some (run step (Some t) text) ≡ true)
    → (o : Option State) → (elim o [ None ↦ false | Some t ↦ takes t text ]) ≡ true → is_some (run step o text) ≡ true
takes_on text again None taken = absurd (false≢true taken)
takes_on text again (Some t) taken = again t taken

takes_runs : (s : State) (text : List ℕ) → takes s text ≡ true → is_some (run step (Some s) text) ≡ true
takes_runs s [] taken = refl
takes_runs s (c ∷ cs) taken = takes_on cs (λ t more. takes_runs t cs more) (step c s) taken

-- THE PLACE: for a grammar whose texts are those that the reader accepts, and whose states can all be completed
module _ (IsIn : List ℕ → Type 0) (reads : (text : List ℕ) → IsIn text → takes Front text ≡ true)
    (only : (text : List ℕ) → takes Front text ≡ true → IsIn text) (completes : (s : State) → takes s (completing s) ≡ true) where
  begins_by : (text : List ℕ) (n : ℕ) (stops : StopsAt Front text n) → Begins IsIn (take n text)
  begins_by text n stops = (
    completing stops.here,
    only (take n text ++ completing stops.here) (takes-append Front stops.here (take n text) (completing stops.here) stops.led ∙ completes stops.here),
  )

  pub wrong_place : (text : List ℕ) (place : ℕ) → wrong_from Front 0 text ≡ Some place → IsBadPlace IsIn text place
  wrong_place text place w =
      let found = stops_at Front 0 text place w in
      let stops = found.2 in
      let at_n : IsBadPlace IsIn text found.0 =
      wrong_at step Front IsIn (λ t is_in. takes_runs Front t (reads t is_in)) text found.0 stops.here stops.within stops.led (begins_by text found.0 stops) stops.end in
      let same : found.0 ≡ place = omega (arith, found.1) in
      subst (λ (m : ℕ). IsBadPlace IsIn text m) same at_n
