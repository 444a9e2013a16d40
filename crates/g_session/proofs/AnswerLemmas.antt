-- Each time a line is requested, all lines before it are answered: one request more, and some text more.
-- serves: exchange (anew, said), AnewLemmas, BrokenLemmas, EndingLemmas, GrowLemmas, ReplyLemmas, StandsLemmas
use Rattle.std.proofs.Common.{◌≡◌, ◌≢◌, ◌⊎◌, ◌+◌, ◌≤◌, ◌++◌, ℕ, Bool, true, false, List, [], ◌∷◌, All, Option, Some, None, length, take, append_assoc, append-nil, codes, refl, sym, ◌∙◌, ap, subst, inl, inr, arith}
use Rattle.std.specs.Fn.{Shared}
use Rattle.std.specs.List.{flat_map}
use Rattle.std.proofs.lemmas.List.{length-append, take-append-le, take_all}
use Rattle.std.proofs.lemmas.List.Concat.{flat_map-append}
use Rattle.std.proofs.lemmas.List.Elements.{All-append, All-cons, All-head, All-nil, All-tail, All-weaker}
use denote.Ref.{Bor}
use Rattle.g_rules.specs.declared.tariff.Charge.{Charge}
use Rattle.g_rules.specs.declared.tariff.Usage.{Usage}
use Rattle.g_rules.specs.declared.rule.Standing.{Standing}
use Rattle.g_console.specs.Transcript.{Continues, Line, Request, Requested, Transcript, Typed, blank, line_in, lines_typed, printing, requesting}
use Rattle.g_script.specs.declared.operator.Timed.{Timed}
use Rattle.g_store_model.specs.State.{State}
use Rattle.g_run_model.specs.Devices.{Devices}
use Rattle.g_day.specs.Parts.{Seen}
use Rattle.g_typing.specs.Reader.{HoldsAt, IsInDocument, is_skipped}
use Rattle.g_typing.specs.Typed.{CanFollow}
use Rattle.g_typing.specs.declared.item.ItemReader.{ItemReader}
use Rattle.g_typing.specs.declared.item.Place.{Place}
use Rattle.g_typing.specs.declared.item.Place.TheVariants as place
use Rattle.g_laws_sessions.specs.Session.{AlwaysAnswers, ArePending, IsAnswered, is_skipping}
use Rattle.g_session.specs.Parts.{Stands}
use Rattle.g_session.specs.Session.{LastWas}

-- a list with one more at its end, split at an element
record IsLast (xs : List Request) (x : Request) (ys : List Request) (y : Request) : Type 0 where
  all : xs ≡ ys
  last : x ≡ y

record IsEarlier (xs ys : List Request) (y : Request) : Type 0 where
  later : List Request
  all : xs ≡ ys ++ y ∷ later

split_last : (xs : List Request) (x : Request) (ys : List Request) (y : Request) (zs : List Request) → xs ++ x ∷ [] ≡ ys ++ y ∷ zs → IsLast xs x ys y ⊎ IsEarlier xs ys y
split_last [] x [] y zs e = inl (record { all = refl; last = cc })
split_last [] x (other ∷ ys) y zs e =
    let one : (let none : List Request = [] in length (none ++ x ∷ []) ≡ length (other ∷ (ys ++ y ∷ zs))) = ap length e in
    let sum : length (ys ++ y ∷ zs) ≡ length ys + length (y ∷ zs) = length-append ys (y ∷ zs) in absurd (let no : ⊥ = omega (arith, one, sum) in no)
split_last (other ∷ xs) x [] y zs e = let same : other ≡ y = cc in inr (record { later = xs; all = ap (λ (r : Request). r ∷ xs) same })
split_last (other ∷ xs) x (first ∷ ys) y zs e =
    let same : other ≡ first = cc in
    let rest : xs ++ x ∷ [] ≡ ys ++ y ∷ zs = cc in by same (split_last xs x ys y zs rest)
  where
    by : other ≡ first → IsLast xs x ys y ⊎ IsEarlier xs ys y → IsLast (other ∷ xs) x (first ∷ ys) y ⊎ IsEarlier (other ∷ xs) (first ∷ ys) y
    by same (inl is) = inl (record { all = ap (λ (r : Request). r ∷ xs) same ∙ ap (λ (rs : List Request). first ∷ rs) is.all; last = is.last })
    by same (inr is) = inr (record { later = is.later; all = ap (λ (r : Request). r ∷ xs) same ∙ ap (λ (rs : List Request). first ∷ rs) is.all })

-- all text that a request names was printed
abbrev pub ArePrinted : Transcript → Type 0
ArePrinted t = All (λ (r : Request). r.printed ≤ length t.text) t.requests

one_of : (P : Request → Type 0) (before : List Request) (r : Request) (later : List Request) → All P (before ++ r ∷ later) → P r
one_of P [] r later all = All-head P r later all
one_of P (first ∷ before) r later all = one_of P before r later (All-tail P first (before ++ r ∷ later) all)

pub printed_print : (t : Transcript) (more : List ℕ) → ArePrinted t → ArePrinted (printing more t)
printed_print t more are =
    let long : length (t.text ++ more) ≡ length t.text + length more = length-append t.text more in
    All-weaker (λ (r : Request). r.printed ≤ length t.text) (λ (r : Request). r.printed ≤ length (t.text ++ more)) (λ r is. omega (arith, is, long)) t.requests are

pub printed_ask : (t : Transcript) (typed : Typed) → ArePrinted t → ArePrinted (requesting typed t)
printed_ask t typed are =
    let request : Request = record { printed = length t.text; typed = typed } in
    All-append (λ (r : Request). r.printed ≤ length t.text) t.requests (request ∷ []) are
    (All-cons (λ (r : Request). r.printed ≤ length t.text) request [] (let own : length t.text ≤ length t.text = omega arith in own) (All-nil (λ (r : Request). r.printed ≤ length t.text)))

module _ {F U : Type 0} (tariffs : Shared F (Bor Usage × Unit {0}) Charge) (tariff : F) (rules : Shared U (Bor Standing × Unit {0}) ℕ) (rule : U) (s : State) where
  -- SOME TEXT MORE
  pub answers_print : (t : Transcript) (more : List ℕ) → ArePrinted t → AlwaysAnswers tariffs tariff rules rule s t → AlwaysAnswers tariffs tariff rules rule s (printing more t)
  answers_print t more printed answers lines text r =
      let here : r.request.printed ≤ length t.text =
      one_of (λ (q : Request). q.printed ≤ length t.text) r.before r.request r.later (subst (λ (rs : List Request). All (λ (q : Request). q.printed ≤ length t.text) rs) r.requests printed) in
      answers lines text (record {
        before = r.before;
        request = r.request;
        later = r.later;
        requests = r.requests;
        lines_are = r.lines_are;
        text_is = r.text_is ∙ take-append-le r.request.printed t.text more here;
      })

  -- ONE REQUEST MORE
  pub answers_ask : (t : Transcript) (typed : Typed) → AlwaysAnswers tariffs tariff rules rule s t → IsAnswered tariffs tariff rules rule s (lines_typed t.requests) t.text
      → AlwaysAnswers tariffs tariff rules rule s (requesting typed t)
  answers_ask t typed answers here lines text r =
      by (split_last t.requests (record { printed = length t.text; typed = typed }) r.before r.request r.later r.requests)
    where
      by : IsLast t.requests (record { printed = length t.text; typed = typed }) r.before r.request ⊎ IsEarlier t.requests r.before r.request → IsAnswered tariffs tariff rules rule s lines text
      by (inr is) = answers lines text (record {
        before = r.before;
        request = r.request;
        later = is.later;
        requests = is.all;
        lines_are = r.lines_are;
        text_is = r.text_is;
      })
      by (inl is) =
          let all : text ≡ t.text = r.text_is ∙ ap (λ (q : Request). take q.printed t.text) (sym is.last) ∙ take_all (length t.text) t.text (omega arith) in
          let lines_are : lines ≡ lines_typed t.requests = r.lines_are ∙ ap (λ (rs : List Request). lines_typed rs) (sym is.all) in
          subst (λ (ls : List (List ℕ)). IsAnswered tariffs tariff rules rule s ls text) (sym lines_are)
          (subst (λ (x : List ℕ). IsAnswered tariffs tariff rules rule s (lines_typed t.requests) x) (sym all) here)

  -- what the reader holds is pending
  pending_by : ((count : ℕ) (lines : List (List ℕ)) (timed : Bool) (text : List ℕ) → IsInDocument count lines timed text → CanFollow count lines (codes "****"))
      → (p : Place) (count : ℕ) (pending : List (List ℕ)) (r : ItemReader) → HoldsAt p count pending r → ArePending (is_skipped p) count pending
  pending_by follows place.Start count pending r holds = inl holds
  pending_by follows (place.Document k) count pending r holds = inr (codes "****", follows count pending r.timed r.text holds)
  pending_by follows place.Skipped count pending r holds = holds

  -- BETWEEN TWO LINES all lines that were replied to are answered
  pub stands_answered : ((count : ℕ) (lines : List (List ℕ)) (timed : Bool) (text : List ℕ) → IsInDocument count lines timed text → CanFollow count lines (codes "****"))
      → (real : Bool) (old : Devices) (done : List Timed) (bad : Option ℕ) (seen : Seen) (r : ItemReader) (number : ℕ) (from : Option Transcript) (t : Transcript) (log0 log : Option (List ℕ)) → from ≡ Some blank
      → Stands tariffs tariff rules rule s real old done bad seen r number [] from (Some t) log0 log → IsAnswered tariffs tariff rules rule s (lines_typed t.requests) t.text
  stands_answered follows real old done bad seen r number from t log0 log new st = record {
    said = st.so_far.said;
    now = st.so_far.now;
    comes = st.so_far.comes;
    going = st.going;
    pending = st.pending;
    lines_are = st.lines new t refl ∙ ap (λ (ls : List (List ℕ)). st.so_far.now.lines ++ ls) (append-nil st.pending);
    unfinished =
        subst (λ (b : Bool). ArePending b st.so_far.now.world.count st.pending) (sym st.skipping)
        (subst (λ (n : ℕ). ArePending (is_skipped r.place) n st.pending) (sym st.so_far.matches.count) (pending_by follows r.place seen.count st.pending r st.holds));
    text_is = st.text new t refl;
  }

  -- A REQUEST MORE: what a console exposes after it was asked
  pub record Asked (before : Option Transcript) (typed : Typed) (now : Transcript) : Type 0 where
    pub was : Transcript
    pub is : before ≡ Some was
    pub only : now ≡ requesting typed was

  pub asked_by : (before : Option Transcript) (typed : Typed) (after : Option Transcript) (t : Transcript) → Continues before typed after → after ≡ Some t → Asked before typed t
  asked_by None typed after t none is = absurd (let no : ⊥ = none_some t (sym none ∙ is) in no)
    where
      none_some : (u : Transcript) → (let none : Option Transcript = None in none ≡ Some u) → ⊥
      none_some u e = cc
  asked_by (Some was) typed after t (inl none) is = absurd (let no : ⊥ = none_some t (sym none ∙ is) in no)
    where
      none_some : (u : Transcript) → (let none : Option Transcript = None in none ≡ Some u) → ⊥
      none_some u e = cc
  asked_by (Some was) typed after t (inr some) is = record { was = was; is = refl; only = same t (sym is ∙ some) }
    where
      same : (u : Transcript) → (let asked : Option Transcript = Some (requesting typed was) in Some u ≡ asked) → u ≡ requesting typed was
      same u e = cc

  -- it was the last one
  pub last_asked : (before : Option Transcript) (typed : Typed) (after : Option Transcript) → Continues before typed after → (t : Transcript) → after ≡ Some t → LastWas typed t
  last_asked before typed after continues t is =
      let a = asked_by before typed after t continues is in (a.was.requests, length a.was.text, ap (λ (x : Transcript). x.requests) a.only)

  -- a request was made, and its outcome came
  pub stands_ask : ((count : ℕ) (lines : List (List ℕ)) (timed : Bool) (text : List ℕ) → IsInDocument count lines timed text → CanFollow count lines (codes "****"))
      → (real : Bool) (old : Devices) (done : List Timed) (bad : Option ℕ) (seen : Seen) (r : ItemReader) (number : ℕ) (typed : Typed) (from before after : Option Transcript) (log0 log : Option (List ℕ))
      → Stands tariffs tariff rules rule s real old done bad seen r number [] from before log0 log → Continues before typed after
      → Stands tariffs tariff rules rule s real old done bad seen r number (line_in typed) from after log0 log
  stands_ask follows real old done bad seen r number typed from before after log0 log st continues = record {
    so_far = st.so_far;
    going = st.going;
    pending = st.pending;
    holds = st.holds;
    skipping = st.skipping;
    job = st.job;
    number_is = st.number_is;
    lines = λ new t is.
        let a = asked_by before typed after t continues is in
        ap (λ (x : Transcript). lines_typed x.requests) a.only
        ∙ flat_map-append (λ (q : Request). line_in q.typed) a.was.requests (record { printed = length a.was.text; typed = typed } ∷ [])
        ∙ ap (λ (ls : List (List ℕ)). ls ++ (line_in typed ++ [])) (st.lines new a.was a.is) ∙ append_assoc st.so_far.now.lines (st.pending ++ []) (line_in typed ++ [])
        ∙ ap (λ (ls : List (List ℕ)). st.so_far.now.lines ++ (ls ++ (line_in typed ++ []))) (append-nil st.pending)
        ∙ ap (λ (ls : List (List ℕ)). st.so_far.now.lines ++ (st.pending ++ ls)) (append-nil (line_in typed));
    text = λ new t is.
        let a = asked_by before typed after t continues is in ap (λ (x : Transcript). x.text) a.only ∙ st.text new a.was a.is;
    answers = λ new t is.
        let a = asked_by before typed after t continues is in
        subst (λ (x : Transcript). AlwaysAnswers tariffs tariff rules rule s x) (sym a.only)
        (answers_ask a.was typed (st.answers new a.was a.is) (stands_answered follows real old done bad seen r number from a.was log0 log new (standing a.was a.is)));
    printed = λ new t is.
        let a = asked_by before typed after t continues is in subst (λ (x : Transcript). ArePrinted x) (sym a.only) (printed_ask a.was typed (st.printed new a.was a.is));
  }
    where
      standing : (was : Transcript) → before ≡ Some was → Stands tariffs tariff rules rule s real old done bad seen r number [] from (Some was) log0 log
      standing was is = subst (λ (x : Option Transcript). Stands tariffs tariff rules rule s real old done bad seen r number [] from x log0 log) is st
