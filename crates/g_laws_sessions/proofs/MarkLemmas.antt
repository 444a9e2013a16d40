-- The console's own lines: each begins with `?` and a space, and has one byte 10, at its end.
-- serves: lib
use Rattle.std.proofs.Common.{◌≡◌, ◌≢◌, ◌<◌, ◌≤◌, ◌==◌, ◌/◌, ◌%◌, ◌+◌, ◌++◌, ℕ, zero, suc, Bool, true, false, if◌then◌else◌, nat_lt, List, [], ◌∷◌, All, Option, Some, None, codes, append_assoc, append-nil, eq-eqb, refl, sym, ◌∙◌, ap, subst, inl, inr, arith}
use Rattle.std.specs.Fmt.{decimal, digit_glyph, digits, digits_onto}
use Rattle.std.specs.List.{flat_map}
use Rattle.std.proofs.lemmas.Bool.{false≢true}
use Rattle.std.proofs.lemmas.List.Concat.{flat_map-append}
use Rattle.std.proofs.lemmas.List.Elements.{All-append, All-cons, All-from_recursion, All-head, All-nil}
use Rattle.g_job.specs.State.{JobState}
use Rattle.g_lines.specs.Documents.{IsOneLine}
use Rattle.g_lines.specs.Lines.{lines_of}
use Rattle.g_lines.proofs.DocumentLemmas.{lines_one}
use Rattle.g_store_model.specs.State.{OpenDump, ReelRow, is_mounted}
use Rattle.g_run_model.specs.Texts.{waiting_line}
use Rattle.g_run_model.specs.World.{World, can_step}
use Rattle.g_laws_sessions.specs.Asked.{AreOwnLines, IsAnswer, dump_line, first_in, first_line, job_line, own_line, reel_line, refusal_line, seat_text, state_text, system_line, tick_line, used_text, wait_text}
use Rattle.g_laws_sessions.specs.Laws.{IsMarked, OwnLinesAreMarked}
use Rattle.g_laws_sessions.specs.Session.{IsOwn, Own, Piece, Told}
use Rattle.g_typing.specs.declared.query.Query.{Query}
use Rattle.g_typing.specs.declared.query.Query.TheVariants as query

abbrev Plain : ℕ → Type 0
Plain byte = byte ≢ 10

-- NUMBERS AND WORDS have no byte 10
glyph_plain : (d : ℕ) → Plain (digit_glyph false d)
glyph_plain d = by (nat_lt d 10)
  where
    by : (b : Bool) → Plain (if b then 48 + d else 87 + d)
    by true e = let no : ⊥ = omega (arith, e) in no
    by false e = let no : ⊥ = omega (arith, e) in no

digits_plain : (k base n : ℕ) (acc : List ℕ) → All Plain acc → All Plain (digits_onto k base false n acc)
digits_plain zero base n acc all = all
digits_plain (suc k) base n acc all = by (n / base == 0) (digits_plain k base (n / base) (digit_glyph false (n % base) ∷ acc) more)
  where
    more : All Plain (digit_glyph false (n % base) ∷ acc)
    more = All-cons Plain (digit_glyph false (n % base)) acc (glyph_plain (n % base)) all

    by : (b : Bool) → All Plain (digits_onto k base false (n / base) (digit_glyph false (n % base) ∷ acc))
        → All Plain (if b then digit_glyph false (n % base) ∷ acc else digits_onto k base false (n / base) (digit_glyph false (n % base) ∷ acc))
    by true rest = more
    by false rest = rest

decimal_plain : (n : ℕ) → All Plain (decimal n)
unfolding digits
decimal_plain n = digits_plain 64 10 n [] (All-nil Plain)

-- a word followed by other bytes
abbrev is_plain : List ℕ → Bool
is_plain [] = true
is_plain (b ∷ bs) = if b == 10 then false else is_plain bs

word_plain : (word : List ℕ) → is_plain word ≡ true → All Plain word
word_plain [] is = All-nil Plain
word_plain (b ∷ bs) is = by (b == 10) refl is (λ rest. word_plain bs rest)
  where
    by : (r : Bool) → (b == 10) ≡ r → (if r then false else is_plain bs) ≡ true → (is_plain bs ≡ true → All Plain bs) → All Plain (b ∷ bs)
    by true e isnt others = absurd (false≢true isnt)
    by false e is others = All-cons Plain b bs (λ same. false≢true (sym e ∙ eq-eqb b 10 same)) (others is)

both_plain : (a b : List ℕ) → All Plain a → All Plain b → All Plain (a ++ b)
both_plain a b one two = All-append Plain a b one two

-- LINES of the console's own
one_own : (what : List ℕ) → All Plain what → AreOwnLines (own_line what)
one_own what plain = record { lines = what ∷ []; one = All-cons IsOneLine what [] plain (All-nil IsOneLine); all = sym (append-nil (own_line what)) }

none_own : AreOwnLines []
none_own = record { lines = []; one = All-nil IsOneLine; all = refl }

both_own : (a b : List ℕ) → AreOwnLines a → AreOwnLines b → AreOwnLines (a ++ b)
both_own a b one two = record {
  lines = one.lines ++ two.lines;
  one = All-append IsOneLine one.lines two.lines one.one two.one;
  all = ap (λ (x : List ℕ). x ++ b) one.all ∙ ap (λ (x : List ℕ). flat_map own_line one.lines ++ x) two.all ∙ sym (flat_map-append own_line one.lines two.lines);
}

reels_own : (f : ReelRow → List ℕ) → ((r : ReelRow) → AreOwnLines (f r)) → (rs : List ReelRow) → AreOwnLines (flat_map f rs)
reels_own f each [] = none_own
reels_own f each (r ∷ rs) = both_own (f r) (flat_map f rs) (each r) (reels_own f each rs)

jobs_own : (f : JobState → List ℕ) → ((j : JobState) → AreOwnLines (f j)) → (js : List JobState) → AreOwnLines (flat_map f js)
jobs_own f each [] = none_own
jobs_own f each (j ∷ js) = both_own (f j) (flat_map f js) (each j) (jobs_own f each js)

tick_own : (n : ℕ) → AreOwnLines (tick_line n)
tick_own n = one_own (codes "TICK " ++ decimal n) (both_plain (codes "TICK ") (decimal n) (word_plain (codes "TICK ") refl) (decimal_plain n))

refusal_own : (n : ℕ) → AreOwnLines (refusal_line n)
refusal_own n = one_own (codes "LINE " ++ decimal n) (both_plain (codes "LINE ") (decimal n) (word_plain (codes "LINE ") refl) (decimal_plain n))

system_own : (up : Bool) → AreOwnLines (system_line up)
system_own true = one_own (codes "UP") (word_plain (codes "UP") refl)
system_own false = one_own (codes "DOWN") (word_plain (codes "DOWN") refl)

reel_own : (serial : ℕ) (mounted : Bool) → AreOwnLines (reel_line serial mounted)
reel_own serial true =
    one_own ((codes "TAPE " ++ decimal serial) ++ codes " MOUNTED")
    (both_plain (codes "TAPE " ++ decimal serial) (codes " MOUNTED") (both_plain (codes "TAPE ") (decimal serial) (word_plain (codes "TAPE ") refl) (decimal_plain serial)) (word_plain (codes " MOUNTED") refl))
reel_own serial false = one_own (codes "TAPE " ++ decimal serial) (both_plain (codes "TAPE ") (decimal serial) (word_plain (codes "TAPE ") refl) (decimal_plain serial))

dump_own : (dump : Option ℕ) → AreOwnLines (dump_line dump)
dump_own None = none_own
dump_own (Some number) =
    one_own ((codes "DUMP " ++ decimal number) ++ codes " OPEN")
    (both_plain (codes "DUMP " ++ decimal number) (codes " OPEN") (both_plain (codes "DUMP ") (decimal number) (word_plain (codes "DUMP ") refl) (decimal_plain number)) (word_plain (codes " OPEN") refl))

-- a job
seat_plain : (terminal : Option ℕ) → All Plain (seat_text terminal)
seat_plain None = All-nil Plain
seat_plain (Some t) = both_plain (codes "T" ++ decimal t) (codes " ") (both_plain (codes "T") (decimal t) (word_plain (codes "T") refl) (decimal_plain t)) (word_plain (codes " ") refl)

used_plain : (used allowance : ℕ) → All Plain (used_text used allowance)
used_plain used allowance =
    both_plain ((codes " " ++ decimal used) ++ codes " OF ") (decimal allowance)
    (both_plain (codes " " ++ decimal used) (codes " OF ") (both_plain (codes " ") (decimal used) (word_plain (codes " ") refl) (decimal_plain used)) (word_plain (codes " OF ") refl)) (decimal_plain allowance)

waiting_plain : (wants : Option ℕ) → All Plain (waiting_line wants)
waiting_plain None = word_plain (codes "WAITING LINE") refl
waiting_plain (Some serial) = both_plain (codes "WAITING TAPE ") (decimal serial) (word_plain (codes "WAITING TAPE ") refl) (decimal_plain serial)

wait_plain : (steps : Bool) (wants : Option ℕ) → All Plain (wait_text steps wants)
wait_plain true wants = All-nil Plain
wait_plain false wants = both_plain (codes " ") (waiting_line wants) (word_plain (codes " ") refl) (waiting_plain wants)

first_plain : (text : List ℕ) → All Plain (first_line text)
first_plain text = by (lines_of text) (All-from_recursion IsOneLine (lines_of text) (lines_one text))
  where
    by : (lines : List (List ℕ)) → All IsOneLine lines → All Plain (first_in lines)
    by [] all = All-nil Plain
    by (line ∷ lines) all = All-head IsOneLine line lines all

job_own : (steps : Bool) (j : JobState) → AreOwnLines (job_line steps j)
job_own steps j =
    one_own (((seat_text j.terminal ++ first_line j.monitor) ++ used_text j.used j.allowance) ++ wait_text steps j.wants)
    (both_plain ((seat_text j.terminal ++ first_line j.monitor) ++ used_text j.used j.allowance) (wait_text steps j.wants)
    (both_plain (seat_text j.terminal ++ first_line j.monitor) (used_text j.used j.allowance) (both_plain (seat_text j.terminal) (first_line j.monitor) (seat_plain j.terminal) (first_plain j.monitor)) (used_plain j.used j.allowance))
    (wait_plain steps j.wants))

-- WHERE THINGS STAND
state_own : (w : World) → AreOwnLines (state_text w)
state_own w =
    both_own _ (tick_line w.count) (both_own _ (flat_map (λ (j : JobState). job_line (can_step w.store j) j) w.jobs)
    (both_own _ (dump_line (Rattle.std.specs.Prelude.option_map (λ (d : OpenDump). d.number) w.store.open_dump))
    (both_own (system_line w.store.up) (flat_map (λ (r : ReelRow). reel_line r.serial (is_mounted w.store r.serial)) w.store.reels) (system_own w.store.up)
    (reels_own (λ (r : ReelRow). reel_line r.serial (is_mounted w.store r.serial)) (λ r. reel_own r.serial (is_mounted w.store r.serial)) w.store.reels)) (dump_own _))
    (jobs_own (λ (j : JobState). job_line (can_step w.store j) j) (λ j. job_own (can_step w.store j) j) w.jobs)) (tick_own w.count)

answer_own : (q : Query) (w : World) (text : List ℕ) → IsAnswer q w text → AreOwnLines text
answer_own query.State w text is = subst AreOwnLines (sym is) (state_own w)
answer_own query.Help w text own = own
answer_own (query.Refusal n) w text own = own

pub own_lines_are_marked : OwnLinesAreMarked
own_lines_are_marked (Told text) own = tt
own_lines_are_marked (Own text) (inl (n, inl is)) = subst AreOwnLines (sym is) (tick_own n)
own_lines_are_marked (Own text) (inl (n, inr is)) = subst AreOwnLines (sym is) (refusal_own n)
own_lines_are_marked (Own text) (inr (q, (w, answers))) = answer_own q w text answers
