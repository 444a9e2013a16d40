-- A first line is read as the item whose first line it is, and no other line is read.
-- serves: ItemLemmas, ReadLemmas
use Rattle.std.proofs.Common.{All, List, None, Option, Some, ap, arith, codes, eq-eqb, ne_eqb, refl, subst, sym, ℕ, ◌++◌, ◌<◌, ◌^◌, ◌∙◌, ◌∷◌, ◌≡◌, ◌≢◌, ◌≤◌}
use Rattle.std.specs.Fmt.{decimal}
use Rattle.std.specs.Option.{option_and_then, option_map}
use Rattle.std.specs.Prelude.{Bool, false, true, unwrap_or, ◌==◌}
use Rattle.std.proofs.lemmas.Bool.{cond_both, false≢true}
use Rattle.std.proofs.lemmas.List.{append-nil, append_assoc}
use Rattle.std.proofs.lemmas.Option.{option_and_then_some, same_Some, some_pair_parts}
use Rattle.g_lang.proofs.ValueLemmas.{behind-is, same_text-eq}
use Rattle.g_lang.specs.LineReader.{behind}
use Rattle.g_lines.proofs.NumberLemmas.{number-complete, number-sound}
use Rattle.g_lines.specs.Numbers.{number_read}
use Rattle.g_name.specs.Grammar.{is_word}
use Rattle.g_name.specs.Names.{name_text, path_name}
use Rattle.g_name.specs.Order.{same_text}
use Rattle.g_name.specs.declared.path.Path.{Path}
use Rattle.g_script.proofs.PieceLemmas.{Without, number-without, split-is, split-none, split-some, without-append, word-without}
use Rattle.g_script.specs.HeadReader.{allowances_in, allowances_read, argument_read, at_terminal, bare_or, dump_read, from_one_read, head_read, job_behind, job_named, job_of, job_read, job_user_read, job_with, login_at, login_behind, login_of, login_read, login_with, logout_read, migration_read, money_read, name_read, named, number_behind, number_or, numbered_read, process_read, of_user, positive, split_at, stop_read, terminal_read, time_read, timed, timed_in, typed_as, typed_read, unmount_read, what_read, with_money, without_money, word_or, word_read}
use Rattle.g_script.specs.Script.{Bare, IsBare, IsDocumentLine, IsItem, IsJob, IsTerminal, IsWrittenOperator, Job, WrittenItem, WrittenOperator, head_line, money_text, operator_text, written_text}
use Rattle.g_script.specs.declared.head.Head.{Head}
use Rattle.g_script.specs.declared.head.What.{What}
use Rattle.g_script.specs.declared.head.What.TheVariants as what
use Rattle.g_script.specs.declared.operator.Operator.{Operator}
use Rattle.g_script.specs.declared.operator.Operator.TheVariants as line
use Rattle.g_verbs.proofs.ParamLemmas.{file-complete, file-sound, local-complete, local-sound, user-complete, user-sound}
use Rattle.g_verbs.specs.VerbReader.{file_read, local_read, user_read}

-- numbers from 1
positive-is : (n : ℕ) → 1 ≤ n → positive n ≡ Some n
positive-is n least = rw (ne_eqb n 0 (λ e. omega (arith, e, least))) refl

positive-from : (m n : ℕ) → positive m ≡ Some n → (1 ≤ n) × (m ≡ n)
positive-from m n e =
    cond_both (m == 0) None (Some m) (λ (o : Option ℕ). o ≡ Some n → (1 ≤ n) × (m ≡ n)) (λ is found. absurd cc)
    (λ other found.
    let same : m ≡ n = same_Some m n found in
    let some : m ≢ 0 = λ z. false≢true (sym other ∙ eq-eqb m 0 z) in
    (omega (arith, same, some), same)) e

from_one-complete : (most n : ℕ) → most < 2 ^ 64 → 1 ≤ n → n ≤ most → from_one_read most (decimal n) ≡ Some n
from_one-complete most n fits least few = ap (option_and_then positive) (number-complete most n (decimal n) fits (few, refl)) ∙ positive-is n least

from_one-sound : (most n : ℕ) (digits : List ℕ) → from_one_read most digits ≡ Some n → (1 ≤ n) × (n ≤ most) × (digits ≡ decimal n)
from_one-sound most n digits e =
    option_and_then_some positive (number_read most digits) n e
    (λ m read is.
    let number = number-sound most m digits read in
    let parts = positive-from m n is in
    (parts.0, subst (λ (k : ℕ). k ≤ most) parts.1 number.0, number.1 ∙ ap decimal parts.1))

number_behind-sound : (most : ℕ) (word text : List ℕ) (n : ℕ) → number_behind most word text ≡ Some n → (1 ≤ n) × (n ≤ most) × (text ≡ word ++ decimal n)
number_behind-sound most word text n e =
    option_and_then_some (from_one_read most) (behind word text) n e
    (λ digits there read.
    let parts = from_one-sound most n digits read in
    (parts.0, parts.1, behind-is word text digits there ∙ ap (λ (d : List ℕ). word ++ d) parts.2))

-- COMPLETE: a written item is read
number_found : (operator : ℕ → Operator) (o : Option ℕ) (n : ℕ) (others : Option Operator) (rest : Option What) → o ≡ Some n → bare_or (number_or operator o others) rest ≡ Some (what.Bare (operator n))
number_found operator o n others rest e = ap (λ (x : Option ℕ). bare_or (number_or operator x others) rest) e

-- a job after its word, split at its commas
abbrev job_tail : ℕ → Option ℕ → List ℕ
job_tail time money = codes "TIME " ++ (decimal time ++ money_text money)

abbrev job_parts : List ℕ → List ℕ → List ℕ → List ℕ
job_parts name user tail = name ++ 44 ∷ ((58 ∷ user) ++ 44 ∷ tail)

regrouped : (name user : List ℕ) (time : ℕ) (money : Option ℕ) (lines : List (List ℕ)) → written_text (Job name user time money lines) ≡ codes "JOB " ++ job_parts name user (job_tail time money)
regrouped name user time money lines =
    append_assoc (((codes "JOB " ++ name) ++ codes ",:") ++ user) (codes ",TIME ") (decimal time ++ money_text money)
    ∙ append_assoc ((codes "JOB " ++ name) ++ codes ",:") user (codes ",TIME " ++ (decimal time ++ money_text money))
    ∙ append_assoc (codes "JOB " ++ name) (codes ",:") (user ++ (codes ",TIME " ++ (decimal time ++ money_text money)))
    ∙ append_assoc (codes "JOB ") name (codes ",:" ++ (user ++ (codes ",TIME " ++ (decimal time ++ money_text money))))

small : (n : ℕ) → n ≤ 1000000 → n < 2 ^ 64
small n few = omega (arith, few)

word_without_comma : (word : List ℕ) → is_word word ≡ true → Without 44 word
word_without_comma word is = word-without 44 word refl refl is

time_without_comma : (time : ℕ) → time ≤ 1000000 → Without 44 (codes "TIME " ++ decimal time)
time_without_comma time few =
    without-append 44 (codes "TIME ") (decimal time) ((λ e. omega (arith, e)), ((λ e. omega (arith, e)), ((λ e. omega (arith, e)), ((λ e. omega (arith, e)), ((λ e. omega (arith, e)), tt)))))
    (number-without 44 time (omega arith) (small time few))

time-complete : (time : ℕ) → 1 ≤ time → time ≤ 1000000 → time_read (codes "TIME " ++ decimal time) ≡ Some time
time-complete time least few = from_one-complete 1000000 time (omega arith) least few

money-complete : (money : ℕ) → money ≤ 1000000 → money_read (codes "MONEY " ++ decimal money) ≡ Some money
money-complete money few = number-complete 1000000 money (decimal money) (omega arith) (few, refl)

allowances-complete : (time : ℕ) (money : Option ℕ) → 1 ≤ time → time ≤ 1000000 → unwrap_or money 1000 ≤ 1000000 → allowances_read (job_tail time money) ≡ Some (time, money)
allowances-complete time None least few rich =
    let text : List ℕ = codes "TIME " ++ decimal time in
    ap allowances_read (ap (λ (d : List ℕ). codes "TIME " ++ d) (append-nil (decimal time)))
    ∙ ap (allowances_in text) (split-none 44 text (time_without_comma time few)) ∙ ap without_money (time-complete time least few)
allowances-complete time (Some money) least few rich =
    let text : List ℕ = codes "TIME " ++ decimal time in let paid : List ℕ = codes "MONEY " ++ decimal money in
    ap (allowances_in (text ++ 44 ∷ paid)) (split-some 44 text paid (time_without_comma time few))
    ∙ ap (λ (o : Option ℕ). with_money o (money_read paid)) (time-complete time least few) ∙ ap (with_money (Some time)) (money-complete money rich)

name-complete : (name rest : List ℕ) → is_word name ≡ true → name_read (name ++ 44 ∷ rest) ≡ Some (name, rest)
name-complete name rest is =
    ap (option_and_then named) (split-some 44 name rest (word_without_comma name is))
    ∙ ap (option_map (λ (l : List ℕ). let p : List ℕ × List ℕ = (l, rest) in p)) (local-complete name name (is, refl))

user-read : (user rest : List ℕ) → is_word user ≡ true → job_user_read ((58 ∷ user) ++ 44 ∷ rest) ≡ Some (user, rest)
user-read user rest is =
    ap (option_and_then of_user) (split-some 44 (58 ∷ user) rest ((λ e. omega (arith, e)), word_without_comma user is))
    ∙ ap (option_map (λ (l : List ℕ). let p : List ℕ × List ℕ = (l, rest) in p)) (user-complete user (58 ∷ user) (is, refl))

job-complete : (name user : List ℕ) (time : ℕ) (money : Option ℕ) (lines : List (List ℕ)) → IsJob name user time money lines
    → job_behind (job_parts name user (job_tail time money)) ≡ Some (what.Job name user time money)
job-complete name user time money lines is =
    let tail = job_tail time money in
    ap job_named (name-complete name ((58 ∷ user) ++ 44 ∷ tail) is.is_name) ∙ ap (job_of name) (user-read user tail is.is_user)
    ∙ ap (job_with name user) (allowances-complete time money is.time_within.0 is.time_within.1 is.money_within)

-- a terminal, and the text after its comma
terminal-complete : (t : ℕ) (rest : List ℕ) → 1 ≤ t → t ≤ 8 → terminal_read (decimal t ++ 44 ∷ rest) ≡ Some (t, rest)
terminal-complete t rest least few =
    ap (option_and_then at_terminal) (split-some 44 (decimal t) rest (number-without 44 t (omega arith) (omega (arith, few))))
    ∙ ap (option_map (λ (n : ℕ). let p : ℕ × List ℕ = (n, rest) in p)) (from_one-complete 8 t (omega arith) least few)

abbrev login_tail : List ℕ → ℕ → List ℕ
login_tail user time = (58 ∷ user) ++ 44 ∷ (codes "TIME " ++ decimal time)

login_regrouped : (t : ℕ) (user : List ℕ) (time : ℕ) → operator_text (line.Login t user time) ≡ codes "LOGIN " ++ (decimal t ++ 44 ∷ login_tail user time)
login_regrouped t user time =
    append_assoc ((codes "LOGIN " ++ decimal t) ++ codes ",:") user (codes ",TIME " ++ decimal time)
    ∙ append_assoc (codes "LOGIN " ++ decimal t) (codes ",:") (user ++ (codes ",TIME " ++ decimal time))
    ∙ append_assoc (codes "LOGIN ") (decimal t) (codes ",:" ++ (user ++ (codes ",TIME " ++ decimal time)))

login-complete : (t : ℕ) (user : List ℕ) (time : ℕ) → IsBare (line.Login t user time) → login_behind (decimal t ++ 44 ∷ login_tail user time) ≡ Some (line.Login t user time)
login-complete t user time is =
    ap login_at (terminal-complete t (login_tail user time) is.0.0 is.0.1) ∙ ap (login_of t) (user-read user (codes "TIME " ++ decimal time) is.1)
    ∙ ap (login_with t user) (time-complete time is.2.0 is.2.1)

typed_regrouped : (t : ℕ) (text : List ℕ) → operator_text (line.Typed t text) ≡ codes "TYPE " ++ (decimal t ++ 44 ∷ text)
typed_regrouped t text = append_assoc (codes "TYPE " ++ decimal t) (codes ",") text ∙ append_assoc (codes "TYPE ") (decimal t) (44 ∷ text)

-- the reading of a written operator
abbrev pub what_for : WrittenOperator → What
what_for (Bare o) = what.Bare o
what_for (Job name user time money lines) = what.Job name user time money

-- a number after its word, for any other reading of the text
number_behind_word : (operator : ℕ → Operator) (word : List ℕ) (most n : ℕ) (others : List ℕ → Option Operator) → most < 2 ^ 64 → 1 ≤ n → n ≤ most
    → bare_or (number_or operator (from_one_read most (decimal n)) (others (word ++ decimal n))) (argument_read (word ++ decimal n)) ≡ Some (what.Bare (operator n))
number_behind_word operator word most n others fits least few =
    number_found operator (from_one_read most (decimal n)) n (others (word ++ decimal n)) (argument_read (word ++ decimal n)) (from_one-complete most n fits least few)

pub what-complete : (w : WrittenOperator) → IsWrittenOperator w → what_read (written_text w) ≡ Some (what_for w)
what-complete (Bare line.Format) is = refl
what-complete (Bare line.Start) is = refl
what-complete (Bare line.Restore) is = refl
what-complete (Bare line.Shut) is = refl
what-complete (Bare (line.Job name user time money lines)) is = absurd is
what-complete (Bare (line.Mount s)) is = number_behind_word line.Mount (codes "MOUNT ") 999999 s unmount_read (omega arith) is.0 is.1
what-complete (Bare (line.Unmount s)) is = number_behind_word line.Unmount (codes "UNMOUNT ") 999999 s dump_read (omega arith) is.0 is.1
what-complete (Bare (line.Dump s)) is = number_behind_word line.Dump (codes "DUMP ") 999999 s process_read (omega arith) is.0 is.1
what-complete (Bare (line.Process s)) is = number_behind_word line.Process (codes "PROCESS ") 999999 s stop_read (omega arith) is.0 is.1
what-complete (Bare (line.Migrate path)) is =
    let name : List ℕ = name_text (path_name path) in let text : List ℕ = codes "MIGRATE " ++ name in
    ap (λ (o : Option Path). bare_or (option_map line.Migrate o) (bare_or (login_read text) (bare_or (typed_read text) (job_read text)))) (file-complete path name (is, refl))
what-complete (Bare (line.StopDisc k)) is =
    let text : List ℕ = codes "STOP DISC " ++ decimal k in
    number_found line.StopDisc (from_one_read 1000000000 (decimal k)) k (number_or line.StopTape (number_behind 1000000000 (codes "STOP TAPE ") text) (logout_read text)) (argument_read text)
    (from_one-complete 1000000000 k (omega arith) is.0 is.1)
what-complete (Bare (line.StopTape k)) is = number_behind_word line.StopTape (codes "STOP TAPE ") 1000000000 k logout_read (omega arith) is.0 is.1
what-complete (Bare (line.Login t user time)) is =
    let text : List ℕ = codes "LOGIN " ++ (decimal t ++ 44 ∷ login_tail user time) in
    ap what_read (login_regrouped t user time) ∙ ap (λ (o : Option Operator). bare_or o (bare_or (typed_read text) (job_read text))) (login-complete t user time is)
what-complete (Bare (line.Typed t typed)) is =
    let text : List ℕ = codes "TYPE " ++ (decimal t ++ 44 ∷ typed) in
    ap what_read (typed_regrouped t typed) ∙ ap (λ (o : Option (ℕ × List ℕ)). bare_or (option_map typed_as o) (job_read text)) (terminal-complete t typed is.0 is.1)
what-complete (Bare (line.Logout t)) is =
    let text : List ℕ = codes "LOGOUT " ++ decimal t in
    number_found line.Logout (from_one_read 8 (decimal t)) t None (argument_read text) (from_one-complete 8 t (omega arith) is.0 is.1)
what-complete (Job name user time money lines) is =
    ap what_read (regrouped name user time money lines) ∙ job-complete name user time money lines is

-- the reading of an item's first line
abbrev pub head_for : WrittenItem → Head
head_for item = record { turn = item.turn; what = what_for item.what }

pub head-complete : (item : WrittenItem) → IsItem item → head_read (head_line item) ≡ Some (head_for item)
head-complete item is =
    let few : item.turn < 2 ^ 64 = omega (arith, is.0) in
    ap timed_in (split-some 32 (decimal item.turn) (written_text item.what) (number-without 32 item.turn (omega arith) few))
    ∙ ap (λ (o : Option ℕ). timed o (what_read (written_text item.what))) (number-complete 1000000000 item.turn (decimal item.turn) (omega arith) (is.0, refl))
    ∙ ap (timed (Some item.turn)) (what-complete item.what is.1)

-- SOUND: what is read was written
abbrev pub with_lines : What → List (List ℕ) → WrittenOperator
with_lines (what.Bare o) lines = Bare o
with_lines (what.Job name user time money) lines = Job name user time money lines

abbrev IsSaid : What → List ℕ → Type 0
IsSaid asked text = (lines : List (List ℕ)) → All IsDocumentLine lines → IsWrittenOperator (with_lines asked lines) × (text ≡ written_text (with_lines asked lines))

abbrev Whats : Option What → List ℕ → Type 0
Whats found text = (asked : What) → found ≡ Some asked → IsSaid asked text

abbrev IsBareText : Operator → List ℕ → Type 0
IsBareText o text = IsBare o × (text ≡ operator_text o)

abbrev Bares : Option Operator → List ℕ → Type 0
Bares found text = (o : Operator) → found ≡ Some o → IsBareText o text

none_bare : (text : List ℕ) → Bares None text
none_bare text o e = absurd cc

some_bare : (text : List ℕ) (o : Operator) → IsBareText o text → Bares (Some o) text
some_bare text o is x e = subst (λ (y : Operator). IsBareText y text) (same_Some o x e) is

word_or-sound : (text : List ℕ) (o : Operator) (b : Bool) (others : Option Operator) → (b ≡ true → IsBareText o text) → Bares others text → Bares (word_or o b others) text
word_or-sound text o true others good rest = some_bare text o (good refl)
word_or-sound text o false others good rest = rest

word-sound : (text : List ℕ) → Bares (word_read text) text
word-sound text =
    word_or-sound text line.Format (same_text text (codes "FORMAT")) _ (λ is. (tt, same_text-eq text (codes "FORMAT") is))
    (word_or-sound text line.Start (same_text text (codes "START")) _ (λ is. (tt, same_text-eq text (codes "START") is))
    (word_or-sound text line.Restore (same_text text (codes "RESTORE")) _ (λ is. (tt, same_text-eq text (codes "RESTORE") is))
    (word_or-sound text line.Shut (same_text text (codes "SHUT")) None (λ is. (tt, same_text-eq text (codes "SHUT") is)) (none_bare text))))

number_or-sound : (text : List ℕ) (operator : ℕ → Operator) (most : ℕ) (word : List ℕ) (others : Option Operator)
    → ((n : ℕ) → 1 ≤ n → n ≤ most → text ≡ word ++ decimal n → IsBareText (operator n) text) → Bares others text → Bares (number_or operator (number_behind most word text) others) text
number_or-sound text operator most word others good rest = by (number_behind most word text) refl
  where
    by : (o : Option ℕ) → number_behind most word text ≡ o → Bares (number_or operator o others) text
    by None is = rest
    by (Some n) is = let parts = number_behind-sound most word text n is in some_bare text (operator n) (good n parts.0 parts.1 parts.2)

stop-sound : (text : List ℕ) → Bares (stop_read text) text
stop-sound text =
    number_or-sound text line.StopDisc 1000000000 (codes "STOP DISC ") _ (λ n least few is. ((least, few), is))
    (number_or-sound text line.StopTape 1000000000 (codes "STOP TAPE ") (logout_read text) (λ n least few is. ((least, few), is))
    (number_or-sound text line.Logout 8 (codes "LOGOUT ") None (λ n least few is. ((least, few), is)) (none_bare text)))

numbered-sound : (text : List ℕ) → Bares (numbered_read text) text
numbered-sound text =
    number_or-sound text line.Mount 999999 (codes "MOUNT ") (unmount_read text) (λ n least few is. ((least, few), is))
    (number_or-sound text line.Unmount 999999 (codes "UNMOUNT ") (dump_read text) (λ n least few is. ((least, few), is))
    (number_or-sound text line.Dump 999999 (codes "DUMP ") (process_read text) (λ n least few is. ((least, few), is))
    (number_or-sound text line.Process 999999 (codes "PROCESS ") (stop_read text) (λ n least few is. ((least, few), is)) (stop-sound text))))

migration-sound : (text : List ℕ) → Bares (migration_read text) text
migration-sound text = by (option_and_then file_read (behind (codes "MIGRATE ") text)) refl
  where
    by : (o : Option Path) → option_and_then file_read (behind (codes "MIGRATE ") text) ≡ o → Bares (option_map line.Migrate o) text
    by None is = none_bare text
    by (Some path) is =
        some_bare text (line.Migrate path)
        (option_and_then_some file_read (behind (codes "MIGRATE ") text) path is
        (λ name there read.
        let file = file-sound name path read in
        (file.0, behind-is (codes "MIGRATE ") text name there ∙ ap (λ (n : List ℕ). codes "MIGRATE " ++ n) file.1)))

some_pair : (a b c d : List ℕ) → (let one : Option (List ℕ × List ℕ) = Some (a, b) in one ≡ Some (c, d)) → (a ≡ c) × (b ≡ d)
some_pair a b c d e = some_pair_parts a c b d e

name-sound : (text name rest : List ℕ) → name_read text ≡ Some (name, rest) → (is_word name ≡ true) × (text ≡ name ++ 44 ∷ rest)
name-sound text name rest e = option_and_then_some named (split_at 44 text) (name, rest) e (λ parts there is. by parts there (local_read parts.0) refl is)
  where
    by : (parts : List ℕ × List ℕ) → split_at 44 text ≡ Some parts → (o : Option (List ℕ)) → local_read parts.0 ≡ o
        → option_map (λ (l : List ℕ). let p : List ℕ × List ℕ = (l, parts.1) in p) o ≡ Some (name, rest) → (is_word name ≡ true) × (text ≡ name ++ 44 ∷ rest)
    by parts there None read is = absurd cc
    by parts there (Some l) read is =
        let same = some_pair l parts.1 name rest is in
        let local = local-sound parts.0 name (read ∙ ap (λ (x : List ℕ). let o : Option (List ℕ) = Some x in o) same.0) in
        (local.0, split-is 44 text parts there ∙ ap (λ (x : List ℕ). x ++ 44 ∷ parts.1) local.1 ∙ ap (λ (x : List ℕ). name ++ 44 ∷ x) same.1)

user-part : (text user rest : List ℕ) → job_user_read text ≡ Some (user, rest) → (is_word user ≡ true) × (text ≡ (58 ∷ user) ++ 44 ∷ rest)
user-part text user rest e = option_and_then_some of_user (split_at 44 text) (user, rest) e (λ parts there is. by parts there (user_read parts.0) refl is)
  where
    by : (parts : List ℕ × List ℕ) → split_at 44 text ≡ Some parts → (o : Option (List ℕ)) → user_read parts.0 ≡ o
        → option_map (λ (l : List ℕ). let p : List ℕ × List ℕ = (l, parts.1) in p) o ≡ Some (user, rest) → (is_word user ≡ true) × (text ≡ (58 ∷ user) ++ 44 ∷ rest)
    by parts there None read is = absurd cc
    by parts there (Some l) read is =
        let same = some_pair l parts.1 user rest is in
        let named_so = user-sound parts.0 user (read ∙ ap (λ (x : List ℕ). let o : Option (List ℕ) = Some x in o) same.0) in
        (named_so.0, split-is 44 text parts there ∙ ap (λ (x : List ℕ). x ++ 44 ∷ parts.1) named_so.1 ∙ ap (λ (x : List ℕ). (58 ∷ user) ++ 44 ∷ x) same.1)

money-sound : (text : List ℕ) (money : ℕ) → money_read text ≡ Some money → (money ≤ 1000000) × (text ≡ codes "MONEY " ++ decimal money)
money-sound text money e =
    option_and_then_some (number_read 1000000) (behind (codes "MONEY ") text) money e
    (λ digits there read.
    let number = number-sound 1000000 money digits read in
    (number.0, behind-is (codes "MONEY ") text digits there ∙ ap (λ (d : List ℕ). codes "MONEY " ++ d) number.1))

-- the allowances of a job, and their text
abbrev AreAllowances : ℕ × Option ℕ → List ℕ → Type 0
AreAllowances a text = (1 ≤ a.0) × (a.0 ≤ 1000000) × (unwrap_or a.1 1000 ≤ 1000000) × (text ≡ job_tail a.0 a.1)

abbrev AllowancesIn : Option (ℕ × Option ℕ) → List ℕ → Type 0
AllowancesIn found text = (a : ℕ × Option ℕ) → found ≡ Some a → AreAllowances a text

some_allowances : (text : List ℕ) (a b : ℕ × Option ℕ) → AreAllowances a text → (let one : Option (ℕ × Option ℕ) = Some a in one ≡ Some b) → AreAllowances b text
some_allowances text a b are e = subst (λ (x : ℕ × Option ℕ). AreAllowances x text) (same_Some a b e) are

without_money-sound : (text : List ℕ) → AllowancesIn (without_money (time_read text)) text
without_money-sound text = by (time_read text) refl
  where
    by : (o : Option ℕ) → time_read text ≡ o → AllowancesIn (without_money o) text
    by None is a e = absurd cc
    by (Some time) is a e =
        let parts = number_behind-sound 1000000 (codes "TIME ") text time is in
        some_allowances text (time, None) a (parts.0, parts.1, omega arith, parts.2 ∙ sym (ap (λ (d : List ℕ). codes "TIME " ++ d) (append-nil (decimal time)))) e

with_money-sound : (text before paid : List ℕ) → text ≡ before ++ 44 ∷ paid → AllowancesIn (with_money (time_read before) (money_read paid)) text
with_money-sound text before paid split = by (time_read before) (money_read paid) refl refl
  where
    by : (o p : Option ℕ) → time_read before ≡ o → money_read paid ≡ p → AllowancesIn (with_money o p) text
    by None p is also a e = absurd cc
    by (Some time) None is also a e = absurd cc
    by (Some time) (Some money) is also a e =
        let parts = number_behind-sound 1000000 (codes "TIME ") before time is in
        let cost = money-sound paid money also in
        let whole : text ≡ job_tail time (Some money) = split ∙ ap (λ (x : List ℕ). x ++ 44 ∷ paid) parts.2 ∙ ap (λ (x : List ℕ). (codes "TIME " ++ decimal time) ++ 44 ∷ x) cost.1 in
        some_allowances text (time, Some money) a (parts.0, parts.1, cost.0, whole) e

allowances-sound : (text : List ℕ) → AllowancesIn (allowances_read text) text
allowances-sound text = by (split_at 44 text) refl
  where
    by : (o : Option (List ℕ × List ℕ)) → split_at 44 text ≡ o → AllowancesIn (allowances_in text o) text
    by None is = without_money-sound text
    by (Some parts) is = with_money-sound text parts.0 parts.1 (split-is 44 text parts is)

some_job : (text name user rest : List ℕ) (a : ℕ × Option ℕ) → is_word name ≡ true → is_word user ≡ true → AreAllowances a rest → text ≡ codes "JOB " ++ job_parts name user rest
    → IsSaid (what.Job name user a.0 a.1) text
some_job text name user rest a is_name is_user are is lines good = (
  record { is_name = is_name; is_user = is_user; time_within = (are.0, are.1); money_within = are.2; document = good },
  is ∙ ap (λ (x : List ℕ). codes "JOB " ++ job_parts name user x) are.3 ∙ sym (regrouped name user a.0 a.1 lines),
)

job_with-sound : (text name user rest : List ℕ) → is_word name ≡ true → is_word user ≡ true → text ≡ codes "JOB " ++ job_parts name user rest → Whats (job_with name user (allowances_read rest)) text
job_with-sound text name user rest is_name is_user is = by (allowances_read rest) refl
  where
    by : (o : Option (ℕ × Option ℕ)) → allowances_read rest ≡ o → Whats (job_with name user o) text
    by None read asked e = absurd cc
    by (Some a) read asked e =
        subst (λ (x : What). IsSaid x text) (same_Some (what.Job name user a.0 a.1) asked e) (some_job text name user rest a is_name is_user (allowances-sound rest a read) is)

-- a fact about a user and the text after it, by whether they can be read
by_user : (P : Option (List ℕ × List ℕ) → Type 0) (rest : List ℕ) → P None → ((user tail : List ℕ) → is_word user ≡ true → rest ≡ (58 ∷ user) ++ 44 ∷ tail → P (Some (user, tail))) → P (job_user_read rest)
by_user P rest none some = by (job_user_read rest) refl
  where
    by : (o : Option (List ℕ × List ℕ)) → job_user_read rest ≡ o → P o
    by None read = none
    by (Some p) read = let user = user-part rest p.0 p.1 read in some p.0 p.1 user.0 user.1

job_of-sound : (text name rest : List ℕ) → is_word name ≡ true → text ≡ codes "JOB " ++ (name ++ 44 ∷ rest) → Whats (job_of name (job_user_read rest)) text
job_of-sound text name rest is_name is =
    by_user (λ o. Whats (job_of name o) text) rest (λ asked e. absurd cc)
    (λ user tail is_user same. job_with-sound text name user tail is_name is_user (is ∙ ap (λ (x : List ℕ). codes "JOB " ++ (name ++ 44 ∷ x)) same))

job-sound : (text : List ℕ) → Whats (job_read text) text
job-sound text asked e = option_and_then_some job_behind (behind (codes "JOB ") text) asked e (λ rest there read. by rest (behind-is (codes "JOB ") text rest there) (name_read rest) refl asked read)
  where
    by : (rest : List ℕ) → text ≡ codes "JOB " ++ rest → (o : Option (List ℕ × List ℕ)) → name_read rest ≡ o → Whats (job_named o) text
    by rest is None read found none = absurd cc
    by rest is (Some p) read found said =
        let name = name-sound rest p.0 p.1 read in
        job_of-sound text p.0 p.1 name.0 (is ∙ ap (λ (x : List ℕ). codes "JOB " ++ x) name.1) found said

-- a terminal
terminal-sound : (text : List ℕ) (t : ℕ) (rest : List ℕ) → terminal_read text ≡ Some (t, rest) → IsTerminal t × (text ≡ decimal t ++ 44 ∷ rest)
terminal-sound text t rest e = option_and_then_some at_terminal (split_at 44 text) (t, rest) e (λ parts there is. by parts there (from_one_read 8 parts.0) refl is)
  where
    by : (parts : List ℕ × List ℕ) → split_at 44 text ≡ Some parts → (o : Option ℕ) → from_one_read 8 parts.0 ≡ o
        → option_map (λ (n : ℕ). let p : ℕ × List ℕ = (n, parts.1) in p) o ≡ Some (t, rest) → IsTerminal t × (text ≡ decimal t ++ 44 ∷ rest)
    by parts there None read is = absurd cc
    by parts there (Some n) read is =
        let same = some_pair_parts n t parts.1 rest is in
        let number = from_one-sound 8 t parts.0 (read ∙ ap (λ (x : ℕ). let o : Option ℕ = Some x in o) same.0) in
        ((number.0, number.1), split-is 44 text parts there ∙ ap (λ (x : List ℕ). x ++ 44 ∷ parts.1) number.2 ∙ ap (λ (x : List ℕ). decimal t ++ 44 ∷ x) same.1)

typed-sound : (text : List ℕ) → Bares (typed_read text) text
typed-sound text o e = by (option_and_then terminal_read (behind (codes "TYPE ") text)) refl e
  where
    by : (p : Option (ℕ × List ℕ)) → option_and_then terminal_read (behind (codes "TYPE ") text) ≡ p → option_map typed_as p ≡ Some o → IsBareText o text
    by None read is = absurd cc
    by (Some p) read is =
        some_bare text (typed_as p)
        (option_and_then_some terminal_read (behind (codes "TYPE ") text) p read
        (λ rest there found.
        let part = terminal-sound rest p.0 p.1 found in
        (part.0, behind-is (codes "TYPE ") text rest there ∙ ap (λ (x : List ℕ). codes "TYPE " ++ x) part.1 ∙ sym (typed_regrouped p.0 p.1)))) o is

login_with-sound : (text : List ℕ) (t : ℕ) (user rest : List ℕ) → IsTerminal t → is_word user ≡ true → text ≡ codes "LOGIN " ++ (decimal t ++ 44 ∷ ((58 ∷ user) ++ 44 ∷ rest))
    → Bares (login_with t user (time_read rest)) text
login_with-sound text t user rest is_t is_user is = by (time_read rest) refl
  where
    by : (o : Option ℕ) → time_read rest ≡ o → Bares (login_with t user o) text
    by None read asked e = absurd cc
    by (Some time) read asked e =
        let parts = number_behind-sound 1000000 (codes "TIME ") rest time read in
        some_bare text (line.Login t user time) (
          (is_t, is_user, (parts.0, parts.1)),
          is ∙ ap (λ (x : List ℕ). codes "LOGIN " ++ (decimal t ++ 44 ∷ ((58 ∷ user) ++ 44 ∷ x))) parts.2 ∙ sym (login_regrouped t user time),
        ) asked e

login_of-sound : (text : List ℕ) (t : ℕ) (rest : List ℕ) → IsTerminal t → text ≡ codes "LOGIN " ++ (decimal t ++ 44 ∷ rest) → Bares (login_of t (job_user_read rest)) text
login_of-sound text t rest is_t is =
    by_user (λ o. Bares (login_of t o) text) rest (λ asked e. absurd cc)
    (λ user tail is_user same. login_with-sound text t user tail is_t is_user (is ∙ ap (λ (x : List ℕ). codes "LOGIN " ++ (decimal t ++ 44 ∷ x)) same))

login-sound : (text : List ℕ) → Bares (login_read text) text
login-sound text asked e = option_and_then_some login_behind (behind (codes "LOGIN ") text) asked e (λ rest there read. by rest (behind-is (codes "LOGIN ") text rest there) (terminal_read rest) refl asked read)
  where
    by : (rest : List ℕ) → text ≡ codes "LOGIN " ++ rest → (o : Option (ℕ × List ℕ)) → terminal_read rest ≡ o → Bares (login_at o) text
    by rest is None read found none = absurd cc
    by rest is (Some p) read found said =
        let part = terminal-sound rest p.0 p.1 read in
        login_of-sound text p.0 p.1 part.0 (is ∙ ap (λ (x : List ℕ). codes "LOGIN " ++ x) part.1) found said

bare_or-sound : (text : List ℕ) (found : Option Operator) (others : Option What) → Bares found text → Whats others text → Whats (bare_or found others) text
bare_or-sound text None others bares rest asked e = rest asked e
bare_or-sound text (Some o) others bares rest asked e =
    subst (λ (x : What). IsSaid x text) (same_Some (what.Bare o) asked e) (λ lines good. bares o refl)

what-sound : (text : List ℕ) → Whats (what_read text) text
what-sound text =
    bare_or-sound text (word_read text) _ (word-sound text)
    (bare_or-sound text (numbered_read text) _ (numbered-sound text) (bare_or-sound text (migration_read text) _ (migration-sound text)
    (bare_or-sound text (login_read text) _ (login-sound text) (bare_or-sound text (typed_read text) (job_read text) (typed-sound text) (job-sound text)))))

-- the item with this first line and these lines of a document
abbrev pub item_with : Head → List (List ℕ) → WrittenItem
item_with head lines = record { turn = head.turn; what = with_lines head.what lines }

-- except for the bytes and the length of a TYPE line
abbrev IsSaidAt : ℕ → WrittenOperator → Type 0
IsSaidAt turn w = (turn ≤ 1000000000) × IsWrittenOperator w

abbrev Heads : Option Head → List ℕ → Type 0
Heads found text = (head : Head) → found ≡ Some head → (lines : List (List ℕ)) → All IsDocumentLine lines
    → IsSaidAt head.turn (with_lines head.what lines) × (text ≡ head_line (item_with head lines))

pub head-sound : (text : List ℕ) → Heads (head_read text) text
head-sound text = by (split_at 32 text) refl
  where
    timed_by : (before asked : List ℕ) → text ≡ before ++ 32 ∷ asked → (o : Option ℕ) (w : Option What) → number_read 1000000000 before ≡ o → what_read asked ≡ w → Heads (timed o w) text
    timed_by before asked split None w read said head e lines good = absurd cc
    timed_by before asked split (Some turn) None read said head e lines good = absurd cc
    timed_by before asked split (Some turn) (Some what) read said head e lines good =
        let number = number-sound 1000000000 turn before read in
        let parts = what-sound asked what said lines good in
        let own : Head = record { turn = turn; what = what } in
        let whole : text ≡ head_line (item_with own lines) = split ∙ ap (λ (x : List ℕ). x ++ 32 ∷ asked) number.1 ∙ ap (λ (x : List ℕ). decimal turn ++ 32 ∷ x) parts.1 in
        subst (λ (h : Head). IsSaidAt h.turn (with_lines h.what lines) × (text ≡ head_line (item_with h lines))) (same_Some own head e) ((number.0, parts.0), whole)

    by : (o : Option (List ℕ × List ℕ)) → split_at 32 text ≡ o → Heads (timed_in o) text
    by None is head e = absurd cc
    by (Some parts) is head e = timed_by parts.0 parts.1 (split-is 32 text parts is) (number_read 1000000000 parts.0) (what_read parts.1) refl refl head e
