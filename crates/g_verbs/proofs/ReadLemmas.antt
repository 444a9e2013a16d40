-- A verb is read as the action it says, and as no other.
-- serves: read_from, verbs_are_read_by_their_forms (one, reads), AloneLemmas
use Rattle.std.proofs.Common.{Err, List, None, Ok, Option, Result, Some, [], ap, arith, codes, false, length, map, refl, subst, suc, sym, true, zero, ℕ, ◌<◌, ◌≤◌, ◌∙◌, ◌∷◌, ◌≡◌}
use Rattle.std.specs.Fmt.{decimal}
use Rattle.std.specs.Prelude.{replicate}
use Rattle.std.specs.List.{slice_get}
use Rattle.std.proofs.lemmas.List.{get_or-replicate, length-map, length-replicate}
use Rattle.std.proofs.lemmas.Option.{slice_get-get_or, slice_get_within}
use Rattle.g_lang.proofs.ValueLemmas.{same_text-eq}
use Rattle.g_lang.specs.Conditions.{IsLetter}
use Rattle.g_name.specs.Grammar.{is_word}
use Rattle.g_name.specs.Order.{same_text}
use Rattle.g_name.specs.declared.path.Path.{Path}
use Rattle.g_peri.specs.declared.unit.Unit as unit
use Rattle.g_plain.specs.declared.calls.BudgetKind.{BudgetKind}
use Rattle.g_plain.specs.declared.calls.BudgetKind.TheVariants as kind
use Rattle.g_trap.specs.declared.mode_set.Mode.{Mode}
use Rattle.g_verbs.proofs.ParamLemmas.{found, is_of-complete}
use Rattle.g_verbs.proofs.SaidLemmas.{amount_of-is, budget_of-is, digit_of-is, file_of-is, good-says, letter_of-is, local_of-is, macro-few, modes_read-words, unit_of-is, user_of-is}
use Rattle.g_verbs.proofs.WalkLemmas.{Walked, walked, wrong-none, wrong-some}
use Rattle.g_verbs.specs.Forms.{AreGood, Fits, Forms, IsFirstWrong, IsGoodPlace, IsOf, at_least, just, or_any}
use Rattle.g_verbs.specs.VerbReader.{action_of, action_read, amount_of, asked, asked_or_wrong, budget_of, file_of, first_wrong, is_of, local_of, modes_read, read_as, unit_of, user_of}
use Rattle.g_monitor.specs.Parts.{mode_word}
use Rattle.g_verbs.specs.Parameters.{IsAmount, IsFile, IsUser}
use Rattle.g_verbs.specs.Verbs.{FileVerb, IsRead, IsSound, MayBeMoney, MayBeText, MayBeUser, Says, TrapVerb, TwoFiles, forms_with, macro_forms, verb_forms, verb_of, verb_word, verbs}
use Rattle.g_verbs.specs.declared.action.Action.{Action}
use Rattle.g_verbs.specs.declared.action.Action.TheVariants as action
use Rattle.g_verbs.specs.declared.form.Form.{Form}
use Rattle.g_verbs.specs.declared.form.Form.TheVariants as form
use Rattle.g_verbs.specs.declared.verb.Verb.{Verb}
use Rattle.g_verbs.specs.declared.verb.Verb.TheVariants as verb

-- the verb of each word, and the word of each verb
verb_of-word : (v : Verb) → verb_of (verb_word v) ≡ Some v
verb_of-word verb.Input = refl
verb_of-word verb.Copy = refl
verb_of-word verb.Append = refl
verb_of-word verb.Erase = refl
verb_of-word verb.Rename = refl
verb_of-word verb.ListFile = refl
verb_of-word verb.ListDir = refl
verb_of-word verb.TrapGo = refl
verb_of-word verb.TrapStop = refl
verb_of-word verb.TrapCheck = refl
verb_of-word verb.NewUser = refl
verb_of-word verb.Budget = refl
verb_of-word verb.Retrieve = refl
verb_of-word verb.Load = refl
verb_of-word verb.Plan = refl
verb_of-word verb.Enter = refl
verb_of-word verb.Resume = refl
verb_of-word verb.Assign = refl
verb_of-word verb.Release = refl
verb_of-word verb.Delete = refl
verb_of-word verb.SetParam = refl
verb_of-word verb.Display = refl
verb_of-word verb.EndJob = refl

word-verb_of : (name : List ℕ) (v : Verb) → verb_of name ≡ Some v → name ≡ verb_word v
word-verb_of name v is = sym (same_text-eq (verb_word v) name (found (λ verb. same_text (verb_word verb) name) verbs v is))

-- a verb whose parameters are good
by_word : (v : Verb) (name : List ℕ) (params good : List (List ℕ)) (rest : List ℕ) (asked_for : Action) → name ≡ verb_word v → params ≡ good
    → first_wrong (verb_forms v) good ≡ None → action_of v good rest ≡ asked_for → action_read name params rest ≡ Ok asked_for
unfolding action_read
by_word v name params good rest asked_for named same none is =
    let there : verb_of name ≡ Some v = ap verb_of named ∙ verb_of-word v in
    ap (λ (o : Option Verb). read_as o name params rest) there
    ∙ ap (λ (ps : List (List ℕ)). asked_or_wrong (Some v) name ps rest (first_wrong (verb_forms v) ps)) same
    ∙ ap (asked_or_wrong (Some v) name good rest) none ∙ ap (λ (a : Action). let r : Result Action ℕ = Ok a in r) is

-- forms with parameters that fit them
one_good : (f : Form) (a : List ℕ) → is_of f a ≡ true → first_wrong (just (f ∷ [])) (a ∷ []) ≡ None
one_good f a first = rw first refl

two_good : (f g : Form) (a b : List ℕ) → is_of f a ≡ true → is_of g b ≡ true → first_wrong (just (f ∷ g ∷ [])) (a ∷ b ∷ []) ≡ None
two_good f g a b first second = rw (first, second) refl

may_good : (f : Form) (a : List ℕ) → is_of f a ≡ true → first_wrong (at_least 0 (f ∷ [])) (a ∷ []) ≡ None
may_good f a first = rw first refl

one_may_lack : (f g : Form) (a : List ℕ) → is_of f a ≡ true → first_wrong (at_least 1 (f ∷ g ∷ [])) (a ∷ []) ≡ None
one_may_lack f g a first = rw first refl

one_may_good : (f g : Form) (a b : List ℕ) → is_of f a ≡ true → is_of g b ≡ true → first_wrong (at_least 1 (f ∷ g ∷ [])) (a ∷ b ∷ []) ≡ None
one_may_good f g a b first second = rw (first, second) refl

three_may_lack : (f g h i : Form) (a b c : List ℕ) → is_of f a ≡ true → is_of g b ≡ true → is_of h c ≡ true
    → first_wrong (at_least 3 (f ∷ g ∷ h ∷ i ∷ [])) (a ∷ b ∷ c ∷ []) ≡ None
three_may_lack f g h i a b c first second third = rw (first, second, third) refl

three_may_good : (f g h i : Form) (a b c d : List ℕ) → is_of f a ≡ true → is_of g b ≡ true → is_of h c ≡ true → is_of i d ≡ true
    → first_wrong (at_least 3 (f ∷ g ∷ h ∷ i ∷ [])) (a ∷ b ∷ c ∷ d ∷ []) ≡ None
three_may_good f g h i a b c d first second third fourth = rw (first, second, third, fourth) refl

-- words of modes for a form of modes
five_modes : List Form
five_modes = form.Mode ∷ form.Mode ∷ form.Mode ∷ form.Mode ∷ form.Mode ∷ []

mode_fits : (i : ℕ) (text : List ℕ) → i < 5 → IsOf form.Mode text → Fits (or_any false (slice_get five_modes i)) text
unfolding five_modes
mode_fits zero text few is = is
mode_fits (suc zero) text few is = is
mode_fits (suc (suc zero)) text few is = is
mode_fits (suc (suc (suc zero))) text few is = is
mode_fits (suc (suc (suc (suc zero)))) text few is = is
mode_fits (suc (suc (suc (suc (suc i))))) text few is = absurd (omega (arith, few))

word_at : (list : List Mode) (i : ℕ) (text : List ℕ) → slice_get (map mode_word list) i ≡ Some text → IsOf form.Mode text
word_at [] i text at = absurd cc
word_at (m ∷ list) zero text at = let same : text ≡ mode_word m = cc in (m, same)
word_at (m ∷ list) (suc i) text at = word_at list i text at

nothing_at : (list : List Mode) (i : ℕ) → 1 ≤ length list → slice_get (map mode_word list) i ≡ None → 3 ≤ suc (suc i)
nothing_at [] i some at = absurd (omega (arith, some))
nothing_at (m ∷ list) zero some at = absurd cc
nothing_at (m ∷ list) (suc i) some at = omega arith

abbrev TrapForms : Forms
TrapForms = verb_forms verb.TrapGo

mode_good : (list : List Mode) (i : ℕ) (o : Option (List ℕ)) → 1 ≤ length list → length list ≤ 5 → slice_get (map mode_word list) i ≡ o → IsGoodPlace TrapForms (suc (suc i)) o
unfolding five_modes
mode_good list i None some few at = nothing_at list i some at
mode_good list i (Some text) some few at =
    let inside = slice_get_within (map mode_word list) i text at in
    let below : i < 5 = omega (arith, inside, length-map list mode_word, few) in
    mode_fits i text below (word_at list i text at)

trap_good : (a b : List ℕ) (list : List Mode) → IsOf form.File a → IsOf form.User b → 1 ≤ length list → length list ≤ 5
    → (place : ℕ) → IsGoodPlace TrapForms place (slice_get (a ∷ b ∷ map mode_word list) place)
trap_good a b list file user some few zero = file
trap_good a b list file user some few (suc zero) = user
trap_good a b list file user some few (suc (suc i)) = mode_good list i (slice_get (map mode_word list) i) some few refl

-- the parameters of a macro
text_fits : (n i : ℕ) (text : List ℕ) → i < n → Fits (or_any false (slice_get (replicate n form.Text) i)) text
text_fits n i text inside =
    let long : i < length (replicate n form.Text) = omega (arith, inside, length-replicate n form.Text) in
    let at : slice_get (replicate n form.Text) i ≡ Some form.Text =
    slice_get-get_or (replicate n form.Text) i form.Text long ∙ ap (λ (f : Form). let o : Option Form = Some f in o) (get_or-replicate n i form.Text form.Text inside) in
    subst (λ (o : Option Form). Fits (or_any false o) text) (sym at) tt

macro_good : (params : List (List ℕ)) → length params ≤ 24 → (place : ℕ) (o : Option (List ℕ)) → slice_get params place ≡ o → IsGoodPlace macro_forms place o
macro_good params few place None at = omega arith
macro_good params few place (Some text) at =
    let inside = slice_get_within params place text at in
    let below : place < 24 = omega (arith, inside, few) in
    text_fits 24 place text below

-- functions of several arguments
two_same : {A B C : Type 0} (f : A → B → C) (a a' : A) (b b' : B) → a ≡ a' → b ≡ b' → f a b ≡ f a' b'
two_same f a a' b b' first second = ap (λ x. f x b) first ∙ ap (f a') second

-- A VERB IS READ AS THE ACTION IT SAYS
module _ (name : List ℕ) (params : List (List ℕ)) (rest : List ℕ) where
  file_reads : (v : Verb) (to : Path → Action) (file : Path) → verb_forms v ≡ just (form.File ∷ []) → ((a : List ℕ) → action_of v (a ∷ []) rest ≡ to (file_of a))
      → FileVerb (verb_word v) file name params → action_read name params rest ≡ Ok (to file)
  file_reads v to file forms asks said =
      let is = said.1 in
      by_word v name params (is.0 ∷ []) rest (to file) said.0 is.2
      (ap (λ (f : Forms). first_wrong f (is.0 ∷ [])) forms ∙ one_good form.File is.0 (is_of-complete form.File is.0 (file, is.1)))
      (asks is.0 ∙ ap to (file_of-is file is.0 is.1))

  files_read : (v : Verb) (to : Path → Path → Action) (from onto : Path) → verb_forms v ≡ just (form.File ∷ form.File ∷ [])
      → ((a b : List ℕ) → action_of v (a ∷ b ∷ []) rest ≡ to (file_of a) (file_of b)) → TwoFiles (verb_word v) from onto name params → action_read name params rest ≡ Ok (to from onto)
  files_read v to from onto forms asks said =
      let is = said.1 in
      by_word v name params (is.0 ∷ is.1 ∷ []) rest (to from onto) said.0 is.4
      (ap (λ (f : Forms). first_wrong f (is.0 ∷ is.1 ∷ [])) forms
      ∙ two_good form.File form.File is.0 is.1 (is_of-complete form.File is.0 (from, is.2)) (is_of-complete form.File is.1 (onto, is.3)))
      (asks is.0 is.1 ∙ two_same to (file_of is.0) from (file_of is.1) onto (file_of-is from is.0 is.2) (file_of-is onto is.1 is.3))

  trap_reads : (v : Verb) (to : Path → List ℕ → ℕ → Action) (file : Path) (user : List ℕ) (modes : ℕ) → verb_forms v ≡ TrapForms
      → ((a b : List ℕ) (ms : List (List ℕ)) → action_of v (a ∷ b ∷ ms) rest ≡ to (file_of a) (user_of b) (modes_read ms))
      → TrapVerb (verb_word v) file user modes name params → action_read name params rest ≡ Ok (to file user modes)
  trap_reads v to file user modes forms asks said =
      let is = said.1 in
      let a = is.0 in
      let b = is.1 in
      let modes_are = is.5 in
      let list = modes_are.list in
      let texts : params ≡ a ∷ b ∷ map mode_word list = is.6 ∙ ap (λ (ts : List (List ℕ)). a ∷ b ∷ ts) modes_are.words in
      let all : modes_read (map mode_word list) ≡ modes = modes_read-words list ∙ sym modes_are.all in
      by_word v name params (a ∷ b ∷ map mode_word list) rest (to file user modes) said.0 texts
      (ap (λ (f : Forms). first_wrong f (a ∷ b ∷ map mode_word list)) forms
      ∙ wrong-none TrapForms (a ∷ b ∷ map mode_word list) (trap_good a b list (file, is.3) (user, is.4) modes_are.least modes_are.most))
      (asks a b (map mode_word list)
      ∙ two_same (λ p u. to p u (modes_read (map mode_word list))) (file_of a) file (user_of b) user (file_of-is file a is.3) (user_of-is user b is.4) ∙ ap (to file user) all)

  nothing_reads : (v : Verb) (asked_for : Action) → verb_forms v ≡ just [] → action_of v [] rest ≡ asked_for → (name ≡ verb_word v) × (params ≡ []) → action_read name params rest ≡ Ok asked_for
  nothing_reads v asked_for forms asks said = by_word v name params [] rest asked_for said.0 said.1 (ap (λ (f : Forms). first_wrong f []) forms) asks

  rename_reads : (file : Path) (to : List ℕ) → Says (action.Rename file to) name params rest → action_read name params rest ≡ Ok (action.Rename file to)
  rename_reads file to said =
      let is = said.1 in
      by_word verb.Rename name params (is.0 ∷ is.1 ∷ []) rest (action.Rename file to) said.0 is.4
      (two_good form.File form.Local is.0 is.1 (is_of-complete form.File is.0 (file, is.2)) (is_of-complete form.Local is.1 (to, is.3)))
      (two_same action.Rename (file_of is.0) file (local_of is.1) to (file_of-is file is.0 is.2) (local_of-is to is.1 is.3))

  list_reads : (user : Option (List ℕ)) → Says (action.ListDir user) name params rest → action_read name params rest ≡ Ok (action.ListDir user)
  list_reads None said = by_word verb.ListDir name params [] rest (action.ListDir None) said.0 said.1 refl refl
  list_reads (Some user) said =
      let is = said.1 in
      by_word verb.ListDir name params (is.0 ∷ []) rest (action.ListDir (Some user)) said.0 is.2 (may_good form.User is.0 (is_of-complete form.User is.0 (user, is.1)))
      (ap (λ (u : List ℕ). action.ListDir (Some u)) (user_of-is user is.0 is.1))

  check_by : (file : Path) (a : List ℕ) (texts : List (List ℕ)) (user : Option (List ℕ)) → name ≡ codes "TRAPCHECK" → IsFile file a → MayBeUser user texts → params ≡ a ∷ texts
      → action_read name params rest ≡ Ok (action.TrapCheck file user)
  check_by file a texts None named at none same =
      by_word verb.TrapCheck name params (a ∷ []) rest (action.TrapCheck file None) named (same ∙ ap (λ (ts : List (List ℕ)). a ∷ ts) none)
      (one_may_lack form.File form.User a (is_of-complete form.File a (file, at))) (ap (λ (p : Path). action.TrapCheck p None) (file_of-is file a at))
  check_by file a texts (Some user) named at is same =
      by_word verb.TrapCheck name params (a ∷ is.0 ∷ []) rest (action.TrapCheck file (Some user)) named (same ∙ ap (λ (ts : List (List ℕ)). a ∷ ts) is.2)
      (one_may_good form.File form.User a is.0 (is_of-complete form.File a (file, at)) (is_of-complete form.User is.0 (user, is.1)))
      (two_same (λ p u. action.TrapCheck p (Some u)) (file_of a) file (user_of is.0) user (file_of-is file a at) (user_of-is user is.0 is.1))

  new_user_by : (user : List ℕ) (space time : ℕ) (money : Option ℕ) (a b c : List ℕ) (texts : List (List ℕ)) → name ≡ codes "NEWUSER" → IsUser user a → IsAmount kind.Space space b
      → IsAmount kind.Time time c → MayBeMoney money texts → params ≡ a ∷ b ∷ c ∷ texts → action_read name params rest ≡ Ok (action.NewUser user space time money)
  new_user_by user space time None a b c texts named at_a at_b at_c none same =
      by_word verb.NewUser name params (a ∷ b ∷ c ∷ []) rest (action.NewUser user space time None) named (same ∙ ap (λ (ts : List (List ℕ)). a ∷ b ∷ c ∷ ts) none)
      (three_may_lack form.User (form.Amount kind.Space) (form.Amount kind.Time) (form.Amount kind.Money) a b c (is_of-complete form.User a (user, at_a))
      (is_of-complete (form.Amount kind.Space) b (space, at_b)) (is_of-complete (form.Amount kind.Time) c (time, at_c)))
      (two_same (λ u s. action.NewUser u s (amount_of kind.Time c) None) (user_of a) user (amount_of kind.Space b) space (user_of-is user a at_a) (amount_of-is kind.Space space b at_b)
      ∙ ap (λ (t : ℕ). action.NewUser user space t None) (amount_of-is kind.Time time c at_c))
  new_user_by user space time (Some money) a b c texts named at_a at_b at_c is same =
      by_word verb.NewUser name params (a ∷ b ∷ c ∷ is.0 ∷ []) rest (action.NewUser user space time (Some money)) named (same ∙ ap (λ (ts : List (List ℕ)). a ∷ b ∷ c ∷ ts) is.2)
      (three_may_good form.User (form.Amount kind.Space) (form.Amount kind.Time) (form.Amount kind.Money) a b c is.0 (is_of-complete form.User a (user, at_a))
      (is_of-complete (form.Amount kind.Space) b (space, at_b)) (is_of-complete (form.Amount kind.Time) c (time, at_c)) (is_of-complete (form.Amount kind.Money) is.0 (money, is.1)))
      (two_same (λ u s. action.NewUser u s (amount_of kind.Time c) (Some (amount_of kind.Money is.0))) (user_of a) user (amount_of kind.Space b) space (user_of-is user a at_a)
      (amount_of-is kind.Space space b at_b)
      ∙ two_same (λ t m. action.NewUser user space t (Some m)) (amount_of kind.Time c) time (amount_of kind.Money is.0) money (amount_of-is kind.Time time c at_c) (amount_of-is kind.Money money is.0 is.1))

  budget_reads : (user : List ℕ) (which : BudgetKind) (amount : ℕ) → Says (action.Budget user which amount) name params rest → action_read name params rest ≡ Ok (action.Budget user which amount)
  budget_reads user which amount said =
      let is = said.1 in
      by_word verb.Budget name params (is.0 ∷ is.1 ∷ []) rest (action.Budget user which amount) said.0 is.4
      (two_good form.User form.AnyAmount is.0 is.1 (is_of-complete form.User is.0 (user, is.2)) (is_of-complete form.AnyAmount is.1 (which, (amount, is.3))))
      (two_same (λ u (b : BudgetKind × ℕ). action.Budget u b.0 b.1) (user_of is.0) user (budget_of is.1) (which, amount) (user_of-is user is.0 is.2) (budget_of-is which amount is.1 is.3))

  enter_reads : (n : ℕ) → Says (action.Enter n) name params rest → action_read name params rest ≡ Ok (action.Enter n)
  enter_reads n said =
      by_word verb.Enter name params (decimal n ∷ []) rest (action.Enter n) said.0 said.2 (one_good form.Digit (decimal n) (is_of-complete form.Digit (decimal n) (n, said.1, refl)))
      (ap action.Enter (digit_of-is n said.1))

  assign_reads : (u : unit.Unit) (file : Path) → Says (action.Assign u file) name params rest → action_read name params rest ≡ Ok (action.Assign u file)
  assign_reads u file said =
      let is = said.1 in
      by_word verb.Assign name params (is.0 ∷ is.1 ∷ []) rest (action.Assign u file) said.0 is.4
      (two_good form.Unit form.File is.0 is.1 (is_of-complete form.Unit is.0 (u, is.2)) (is_of-complete form.File is.1 (file, is.3)))
      (two_same action.Assign (unit_of is.0) u (file_of is.1) file (unit_of-is u is.0 is.2) (file_of-is file is.1 is.3))

  release_reads : (u : unit.Unit) → Says (action.Release u) name params rest → action_read name params rest ≡ Ok (action.Release u)
  release_reads u said =
      let is = said.1 in
      by_word verb.Release name params (is.0 ∷ []) rest (action.Release u) said.0 is.2 (one_good form.Unit is.0 (is_of-complete form.Unit is.0 (u, is.1)))
      (ap action.Release (unit_of-is u is.0 is.1))

  set_param_by : (letter : ℕ) (text : Option (List ℕ)) (texts : List (List ℕ)) → name ≡ codes "SETPARAM" → IsLetter letter → MayBeText text texts → params ≡ (letter ∷ []) ∷ texts
      → action_read name params rest ≡ Ok (action.SetParam letter text)
  set_param_by letter None texts named is none same =
      by_word verb.SetParam name params ((letter ∷ []) ∷ []) rest (action.SetParam letter None) named (same ∙ ap (λ (ts : List (List ℕ)). (letter ∷ []) ∷ ts) none)
      (one_may_lack form.Letter form.Text (letter ∷ []) (is_of-complete form.Letter (letter ∷ []) (letter, is, refl)))
      (ap (λ (l : ℕ). action.SetParam l None) (letter_of-is letter is))
  set_param_by letter (Some text) texts named is one same =
      by_word verb.SetParam name params ((letter ∷ []) ∷ text ∷ []) rest (action.SetParam letter (Some text)) named (same ∙ ap (λ (ts : List (List ℕ)). (letter ∷ []) ∷ ts) one)
      (one_may_good form.Letter form.Text (letter ∷ []) text (is_of-complete form.Letter (letter ∷ []) (letter, is, refl)) refl)
      (ap (λ (l : ℕ). action.SetParam l (Some text)) (letter_of-is letter is))

  display_good : (ps : List (List ℕ)) → 1 ≤ length ps → (place : ℕ) (o : Option (List ℕ)) → slice_get ps place ≡ o → IsGoodPlace (verb_forms verb.Display) place o
  display_good [] some place o at = absurd (omega (arith, some))
  display_good (p ∷ ps) some zero None at = absurd cc
  display_good (p ∷ ps) some (suc place) None at = omega arith
  display_good (p ∷ ps) some zero (Some text) at = tt
  display_good (p ∷ ps) some (suc place) (Some text) at = tt

  display_reads : (text : List ℕ) → Says (action.Display text) name params rest → action_read name params rest ≡ Ok (action.Display text)
  display_reads text said =
      by_word verb.Display name params params rest (action.Display text) said.0 refl
      (wrong-none (verb_forms verb.Display) params (λ place. display_good params said.1 place (slice_get params place) refl)) (ap action.Display (sym said.2))

  macro_reads : (called : List ℕ) (given : List (List ℕ)) → Says (action.Macro called given) name params rest → action_read name params rest ≡ Ok (action.Macro called given)
  unfolding action_read
  macro_reads called given said =
      ap (λ (o : Option Verb). read_as o name params rest) said.0
      ∙ ap (asked_or_wrong None name params rest) (wrong-none macro_forms params (λ place. macro_good params said.4 place (slice_get params place) refl))
      ∙ ap (λ (a : Action). let r : Result Action ℕ = Ok a in r) (two_same action.Macro name called params given (sym said.2) (sym said.3))

  pub said-reads : (asked_for : Action) → Says asked_for name params rest → action_read name params rest ≡ Ok asked_for
  said-reads (action.Input file) said = file_reads verb.Input action.Input file refl (λ a. refl) said
  said-reads (action.Copy from to) said = files_read verb.Copy action.Copy from to refl (λ a b. refl) said
  said-reads (action.Append from to) said = files_read verb.Append action.Append from to refl (λ a b. refl) said
  said-reads (action.Erase file) said = file_reads verb.Erase action.Erase file refl (λ a. refl) said
  said-reads (action.Rename file to) said = rename_reads file to said
  said-reads (action.ListFile file) said = file_reads verb.ListFile action.ListFile file refl (λ a. refl) said
  said-reads (action.ListDir user) said = list_reads user said
  said-reads (action.TrapGo file user modes) said = trap_reads verb.TrapGo action.TrapGo file user modes refl (λ a b ms. refl) said
  said-reads (action.TrapStop file user modes) said = trap_reads verb.TrapStop action.TrapStop file user modes refl (λ a b ms. refl) said
  said-reads (action.TrapCheck file user) said = let is = said.1 in check_by file is.0 is.1 user said.0 is.2 is.3 is.4
  said-reads (action.NewUser user space time money) said = let is = said.1 in new_user_by user space time money is.0 is.1 is.2 is.3 said.0 is.4 is.5 is.6 is.7 is.8
  said-reads (action.Budget user which amount) said = budget_reads user which amount said
  said-reads (action.Retrieve file) said = file_reads verb.Retrieve action.Retrieve file refl (λ a. refl) said
  said-reads (action.Load file) said = file_reads verb.Load action.Load file refl (λ a. refl) said
  said-reads (action.Plan from to) said = files_read verb.Plan action.Plan from to refl (λ a b. refl) said
  said-reads (action.Enter n) said = enter_reads n said
  said-reads action.Resume said = nothing_reads verb.Resume action.Resume refl refl said
  said-reads (action.Assign u file) said = assign_reads u file said
  said-reads (action.Release u) said = release_reads u said
  said-reads action.Delete said = nothing_reads verb.Delete action.Delete refl refl said
  said-reads (action.SetParam letter text) said = let is = said.1 in set_param_by letter text is.0 said.0 is.1 is.2 is.3
  said-reads (action.Display text) said = display_reads text said
  said-reads action.EndJob said = nothing_reads verb.EndJob action.EndJob refl refl said
  said-reads (action.Macro called given) said = macro_reads called given said

-- the right result is returned
pub read-is : (name : List ℕ) (params : List (List ℕ)) (rest : List ℕ) (r : Result Action ℕ) → IsRead name params rest r → action_read name params rest ≡ r
unfolding action_read
read-is name params rest (Ok asked_for) is = said-reads name params rest asked_for is
read-is name params rest (Err index) is = ap (asked_or_wrong (verb_of name) name params rest) (wrong-some (forms_with (verb_of name)) params index is)

pub one-reading : (name : List ℕ) (params : List (List ℕ)) (rest : List ℕ) (r s : Result Action ℕ) → IsRead name params rest r → IsRead name params rest s → r ≡ s
one-reading name params rest r s first second = sym (read-is name params rest r first) ∙ read-is name params rest s second

-- the result that is returned is right
reads_by : (name : List ℕ) (params : List (List ℕ)) (rest : List ℕ) (o : Option Verb) (w : Option ℕ) → verb_of name ≡ o → is_word name ≡ true → Walked (forms_with o) params w
    → IsRead name params rest (asked_or_wrong o name params rest w)
reads_by name params rest o (Some index) at word walk = subst (λ (v : Option Verb). IsFirstWrong (forms_with v) params index) (sym at) walk
reads_by name params rest (Some v) None at word walk =
    subst (λ (n : List ℕ). Says (action_of v params rest) n params rest) (sym (word-verb_of name v at)) (good-says v params rest walk)
reads_by name params rest None None at word walk = (at, word, refl, refl, macro-few params walk)

pub reading-right : (name : List ℕ) (params : List (List ℕ)) (rest : List ℕ) → is_word name ≡ true → IsRead name params rest (action_read name params rest)
unfolding action_read
reading-right name params rest word =
    reads_by name params rest (verb_of name) (first_wrong (forms_with (verb_of name)) params) refl word (walked (forms_with (verb_of name)) params)

pub good-read : (name : List ℕ) (params : List (List ℕ)) (rest : List ℕ) → is_word name ≡ true → AreGood (forms_with (verb_of name)) params
    → Says (asked (verb_of name) name params rest) name params rest
good-read name params rest word good = reads_by name params rest (verb_of name) None refl word good

pub said-sound : (asked_for : Action) (name : List ℕ) (params : List (List ℕ)) (rest : List ℕ) → Says asked_for name params rest → IsSound asked_for
said-sound (action.NewUser user space time None) name params rest said = let is = said.1 in (is.5.0, is.6.0, tt)
said-sound (action.NewUser user space time (Some money)) name params rest said = let is = said.1 in (is.5.0, is.6.0, is.7.1.0)
said-sound (action.Budget user which amount) name params rest said = said.1.3.0
said-sound (action.Enter n) name params rest said = said.1
said-sound (action.SetParam letter text) name params rest said = said.1.1
said-sound (action.Macro called given) name params rest said = subst (λ (ps : List (List ℕ)). length ps ≤ 24) (sym said.3) said.4
said-sound asked_for name params rest said = tt

-- what the code returns
pub read-wrong : (name : List ℕ) (params : List (List ℕ)) (rest : List ℕ) (f : Forms) (ps : List (List ℕ)) (index : ℕ) → f ≡ forms_with (verb_of name) → ps ≡ params
    → IsFirstWrong f ps index → action_read name params rest ≡ Err index
read-wrong name params rest f ps index forms same wrong =
    read-is name params rest (Err index) (subst (λ (g : Forms). IsFirstWrong g params index) forms (subst (λ (qs : List (List ℕ)). IsFirstWrong f qs index) same wrong))

pub record IsAsked (name : List ℕ) (params : List (List ℕ)) (rest : List ℕ) (asked_for : Action) : Type 0 where
  pub says : Says asked_for name params rest
  pub reads : action_read name params rest ≡ Ok asked_for
  pub sound : IsSound asked_for

pub read-asked : (name : List ℕ) (params : List (List ℕ)) (rest : List ℕ) (f : Forms) (ps : List (List ℕ)) (v : Option Verb) (asked_for : Action) → f ≡ forms_with (verb_of name) → ps ≡ params
    → v ≡ verb_of name → is_word name ≡ true → AreGood f ps → asked_for ≡ asked v name params rest → IsAsked name params rest asked_for
read-asked name params rest f ps v asked_for forms same verb word good is =
    let good_there : AreGood (forms_with (verb_of name)) params =
    subst (λ (g : Forms). AreGood g params) forms (subst (λ (qs : List (List ℕ)). AreGood f qs) same good) in
    let asks : asked (verb_of name) name params rest ≡ asked_for = ap (λ (o : Option Verb). asked o name params rest) (sym verb) ∙ sym is in
    let said : Says asked_for name params rest = subst (λ (a : Action). Says a name params rest) asks (good-read name params rest word good_there) in
    record { says = said; reads = said-reads name params rest asked_for said; sound = said-sound asked_for name params rest said }
