-- One file that is taken off the disc: that this is permitted, and how it is answered.
-- serves: has_copy, migrate (keeps, migrated, not_dumped, offline, only), plan_by_age (order, plan, room), refusal, crates above
use Rattle.std.proofs.Common.{◌≡◌, ◌≢◌, ℕ, zero, suc, ◌==◌, Bool, true, false, List, [], ◌∷◌, get_or, map, Option, Some, None, Ok, Err, refl, sym, ◌∙◌, ap, subst, arith, inl, inr, if◌then◌else◌, true≢false}
use Rattle.std.specs.Prelude.{◌⊎◌, ◌↔◌, ◌||◌, All, Contains, OnErr, Result, is_some}
use Rattle.std.specs.FinMap.{get}
use Rattle.std.proofs.lemmas.Bool.{eqb-true, or_cases}
use Rattle.std.proofs.lemmas.List.{get_or-map, length-map}
use Rattle.std.proofs.lemmas.Option.{same_Some}
use Rattle.std.proofs.lemmas.List.Elements.{All-cons, All-contains, All-nil, Contains-get_or}
use Rattle.g_disc.proofs.CallLemmas.{Causes-none}
use Rattle.g_entry.specs.declared.file_rec.FileRec.{FileRec}
use Rattle.g_entry.specs.declared.file_rec.TapeCopy.{TapeCopy}
use Rattle.g_entry.specs.declared.user_rec.UserRec.{UserRec}
use Rattle.g_plain.specs.declared.faults.StoreFault.{StoreFault}
use Rattle.g_plain.specs.declared.faults.StoreFault.TheVariants.{NoMemory, NotDumped, Offline, Stopped}
use Rattle.g_tree.specs.Records.{IsRecords, by_number}
use Rattle.g_tree.proofs.PutLemmas.{number_found}
use Rattle.g_disc_contents.specs.Contents.{Contents, File, has, taken_off}
use Rattle.g_disc_contents.specs.Facts.{IsTied, OnlineFacts}
use Rattle.g_online.specs.declared.change.Change.TheVariants.{Unload}
use Rattle.g_online.specs.AllowedChanges.{HasNumber, IsAllowed, IsUnjammable, KeepsRules}
use Rattle.g_online.specs.Change.{changed, with_files}
use Rattle.g_online.proofs.KeepLemmas.{rules_of}
use Rattle.g_online.proofs.OffRuleLemmas.{MayGo, committed_rules, off_rules}
use Rattle.g_migrate.specs.Invariant.{KeepsStore}
use Rattle.g_migrate.specs.Migration.{HasMigrated, refusal_by, refusal_of}
use Rattle.g_migrate.proofs.KeepsLemmas.{keeps_done, keeps_same, keeps_stopped}

-- THE RULES of the contents, from what ties them to the disc
pub rules_here : (o : OnlineFacts) → o.live ≡ true → IsTied o → KeepsRules o.contents
rules_here o live tied = subst KeepsRules (sym (tied.contents live)) (rules_of o.disc.size o.disc.held o.layout.directory (tied.records live) (tied.rules live))

rules_off : (told pinned : Bool) (numbers : List ℕ) (c : Contents) → All (MayGo numbers) c.files → KeepsRules c → KeepsRules (changed told pinned (Unload numbers) c)
unfolding changed
rules_off told pinned numbers c may rules = committed_rules (pinned || false) (with_files (taken_off numbers c.files) c) (off_rules numbers c may rules)

-- A FILE THAT ISN'T REFUSED is on the disc and on tape
granted : (is : Bool) (copy : Option TapeCopy) → None ≡ refusal_by is copy → (is ≡ true) × (is_some copy ≡ true)
granted false copy none = let no : ⊥ = cc in absurd no
granted true None none = let no : ⊥ = cc in absurd no
granted true (Some c) none = (refl, refl)

filled : (o : OnlineFacts) (f : File) → KeepsRules o.contents → Contains o.contents.files f → is_some f.rec.tape ≡ true → f.rec.len ≢ 0
filled o f rules there copied none =
    let all : All (λ (g : File). g.rec.len ≡ 0 → g.rec.tape ≡ None) o.contents.files = of_recs o.contents.files rules.records.among_files.empty in
    let gone : f.rec.tape ≡ None = All-contains (λ (g : File). g.rec.len ≡ 0 → g.rec.tape ≡ None) o.contents.files f all there none in
    true≢false (sym copied ∙ ap is_some gone)
  where
    of_recs : (files : List File) → All (λ (r : FileRec). r.len ≡ 0 → r.tape ≡ None) (map (λ (f : File). f.rec) files) → All (λ (g : File). g.rec.len ≡ 0 → g.rec.tape ≡ None) files
    of_recs [] all k d inside = let no : ⊥ = omega (arith, inside) in absurd no
    of_recs (f ∷ fs) all zero d inside = all 0 f.rec (omega arith)
    of_recs (f ∷ fs) all (suc k) d inside = of_recs fs (λ i r within. all (suc i) r (omega (arith, within))) k d (omega (arith, inside))

abbrev pub IsGranted : OnlineFacts → ℕ → Type 0
IsGranted o number = (f : File) → Contains o.contents.files f → f.rec.number ≡ number → None ≡ refusal_of f

pub may_unload : (o : OnlineFacts) (number : ℕ) → o.live ≡ true → IsTied o → HasNumber o.contents.files number → IsGranted o number → IsAllowed (Unload (number ∷ [])) o
may_unload o number live tied used free =
    let rules = rules_here o live tied in
    let files = o.contents.files in
    let (f, there, at) = used in
    let fine = granted f.online f.rec.tape (free f there at) in
    let full = filled o f rules there fine.1 in
    record {
      live = live;
      fits = record {
        each = All-cons (IsUnjammable files) number [] (record { file = f; there = there; number_is = at; online = fine.0; filled = omega (arith, full); copied = fine.1 }) (All-nil (IsUnjammable files));
        once = λ i j d before inside. let no : ⊥ = omega (arith, before, inside) in absurd no;
      };
      rules = rules_off (is_some o.disc.held) (is_some o.pins) (number ∷ []) o.contents (λ k d inside. goes (get_or files k d) rules (Contains-get_or files k d inside)) rules;
    }
  where
    goes : (g : File) → KeepsRules o.contents → Contains o.contents.files g → MayGo (number ∷ []) g
    goes g rules there is = by_case (or_cases (number == g.rec.number) false is)
      where
        by_case : ((number == g.rec.number) ≡ true) ⊎ (false ≡ true) → (is_some g.rec.tape ≡ true) × (g.rec.len ≢ 0)
        by_case (inl same) =
            let fine = granted g.online g.rec.tape (free g there (sym (eqb-true number g.rec.number same))) in
            (fine.1, filled o g rules there fine.1)
        by_case (inr wrong) = absurd (true≢false (sym wrong))

-- THE ANSWERS
no_stop : (fault : StoreFault) → fault ≢ Stopped → (let r : Result (Unit {0}) StoreFault = Err fault in r ≡ Err Stopped) → ⊥
no_stop fault other is = other (let e : fault ≡ Stopped = cc in e)

pub refused : (o : OnlineFacts) (number : ℕ) (fault : StoreFault) → fault ≢ Stopped → IsTied o → HasMigrated number o o (Err fault)
refused o number fault other tied = record {
  ok = tt;
  stopped = λ is. absurd (no_stop fault other is);
  same = λ _. refl;
  causes = Causes-none o.disc (λ none. none) (no_stop fault other);
  tied = tied;
  told = refl;
}

-- THE INVARIANT OF A STORE
keeps_by : (o new : OnlineFacts) (number : ℕ) (fault : StoreFault) → o.live ≡ true
    → (let r : Result (Unit {0}) StoreFault = Err fault in HasMigrated number o new r × ((r ≡ Err Stopped) ⊎ (r ≡ Err NoMemory))) → KeepsStore o new
keeps_by o new number fault live (is, inl stopped) = keeps_stopped (number ∷ []) o new (is.stopped stopped) is.tied
keeps_by o new number fault live (is, inr none) =
    let other : fault ≢ Stopped = λ same. (let no : ⊥ = cc in no) in
    subst (KeepsStore o) (sym (is.same other)) (keeps_same o live)

pub keeps_all : (o new : OnlineFacts) (number : ℕ) (result : Result (Unit {0}) StoreFault) → o.live ≡ true → HasMigrated number o new result
    → OnErr result ((result ≡ Err Stopped) ⊎ (result ≡ Err NoMemory)) → KeepsStore o new
keeps_all o new number (Ok u) live is only = keeps_done (number ∷ []) o new is.ok is.tied
keeps_all o new number (Err fault) live is only = keeps_by o new number fault live (is, only)

-- THE REFUSALS, by the file
pub record AreRefused (f : File) (result : Result (Unit {0}) StoreFault) : Type 0 where
  pub offline : (result ≡ Err Offline) ↔ (f.online ≡ false)
  pub not_dumped : (result ≡ Err NotDumped) ↔ ((f.online ≡ true) × (f.rec.tape ≡ None))

-- the refusal of a file that has one
refused_by : (is : Bool) (copy : Option TapeCopy) (fault : StoreFault) → Some fault ≡ refusal_by is copy
    → (let r : Result (Unit {0}) StoreFault = Err fault in ((r ≡ Err Offline) ↔ (is ≡ false)) × ((r ≡ Err NotDumped) ↔ ((is ≡ true) × (copy ≡ None))))
refused_by false copy fault e =
    let same : fault ≡ Offline = cc in (
      (λ _. refl, λ _. ap Err same),
      (λ is. absurd (let no : ⊥ = cc in no), λ both. absurd (true≢false (sym both.0))),
    )
refused_by true None fault e =
    let same : fault ≡ NotDumped = cc in (
      (λ is. absurd (let no : ⊥ = cc in no), λ wrong. absurd (true≢false wrong)),
      (λ _. (refl, refl), λ _. ap Err same),
    )
refused_by true (Some c) fault e = let no : ⊥ = cc in absurd no

pub refused_file : (f : File) (fault : StoreFault) → Some fault ≡ refusal_of f → AreRefused f (Err fault)
refused_file f fault e = let both = refused_by f.online f.rec.tape fault e in record { offline = both.0; not_dumped = both.1 }

-- and of one that has none
no_other : (result : Result (Unit {0}) StoreFault) (fault : StoreFault) → OnErr result ((result ≡ Err Stopped) ⊎ (result ≡ Err NoMemory)) → fault ≢ Stopped → fault ≢ NoMemory → result ≡ Err fault → ⊥
no_other (Ok u) fault only stop memory is = cc
no_other (Err e) fault (inl stopped) stop memory is = stop (let same : fault ≡ Stopped = cc in same)
no_other (Err e) fault (inr none) stop memory is = memory (let same : fault ≡ NoMemory = cc in same)

granted_by : (is : Bool) (copy : Option TapeCopy) (result : Result (Unit {0}) StoreFault) → None ≡ refusal_by is copy → OnErr result ((result ≡ Err Stopped) ⊎ (result ≡ Err NoMemory))
    → ((result ≡ Err Offline) ↔ (is ≡ false)) × ((result ≡ Err NotDumped) ↔ ((is ≡ true) × (copy ≡ None)))
granted_by false copy result none only = let no : ⊥ = cc in absurd no
granted_by true None result none only = let no : ⊥ = cc in absurd no
granted_by true (Some c) result none only = (
  (λ is. absurd (no_other result Offline only (λ e. let no : ⊥ = cc in no) (λ e. let no : ⊥ = cc in no) is), λ wrong. absurd (true≢false wrong)),
  (λ is. absurd (no_other result NotDumped only (λ e. let no : ⊥ = cc in no) (λ e. let no : ⊥ = cc in no) is), λ both. absurd (true≢false (ap is_some both.1))),
)

pub granted_file : (f : File) (result : Result (Unit {0}) StoreFault) → None ≡ refusal_of f → OnErr result ((result ≡ Err Stopped) ⊎ (result ≡ Err NoMemory)) → AreRefused f result
granted_file f result none only = let both = granted_by f.online f.rec.tape result none only in record { offline = both.0; not_dumped = both.1 }

-- the refusal that was searched for
pub off_refusal : (f : File) (is : Bool) → is ≡ f.online → is ≡ false → Some Offline ≡ refusal_of f
off_refusal f is same off = ap (λ (b : Bool). refusal_by b f.rec.tape) (sym off ∙ same)

on_refusal : (copy : Option TapeCopy) (b : Bool) → b ≡ is_some copy → (if b then None else Some NotDumped) ≡ refusal_by true copy
on_refusal None b same = ap (λ (x : Bool). if x then None else Some NotDumped) same
on_refusal (Some c) b same = ap (λ (x : Bool). if x then None else Some NotDumped) same

pub copy_refusal : (f : File) (is has : Bool) → is ≡ f.online → is ≡ true → has ≡ is_some f.rec.tape → (if has then None else Some NotDumped) ≡ refusal_of f
copy_refusal f is has same on copied = on_refusal f.rec.tape has copied ∙ ap (λ (b : Bool). refusal_by b f.rec.tape) (sym on ∙ same)

pub yes_refusal : (f : File) (is has : Bool) → is ≡ f.online → is ≡ true → has ≡ is_some f.rec.tape → has ≡ true → None ≡ refusal_of f
yes_refusal f is has same on copied there = sym (ap (λ (b : Bool). if b then None else Some NotDumped) there) ∙ copy_refusal f is has same on copied

pub no_refusal : (f : File) (is has : Bool) → is ≡ f.online → is ≡ true → has ≡ is_some f.rec.tape → has ≡ false → Some NotDumped ≡ refusal_of f
no_refusal f is has same on copied none = sym (ap (λ (b : Bool). if b then None else Some NotDumped) none) ∙ copy_refusal f is has same on copied

-- which refusals there are
two_by : (is : Bool) (copy : Option TapeCopy) (fault : StoreFault) → Some fault ≡ refusal_by is copy → (fault ≡ Offline) ⊎ (fault ≡ NotDumped)
two_by false copy fault e = inl (let same : fault ≡ Offline = cc in same)
two_by true None fault e = inr (let same : fault ≡ NotDumped = cc in same)
two_by true (Some c) fault e = let no : ⊥ = cc in absurd no

abbrev pub IsRefused : OnlineFacts → ℕ → StoreFault → Type 0
IsRefused o number fault = (f : File) → Contains o.contents.files f → f.rec.number ≡ number → Some fault ≡ refusal_of f

pub one_refusal : (o : OnlineFacts) (number : ℕ) (fault : StoreFault) → HasNumber o.contents.files number → IsRefused o number fault → (fault ≡ Offline) ⊎ (fault ≡ NotDumped)
one_refusal o number fault (f, there, at) is = two_by f.online f.rec.tape fault (is f there at)

pub refused_whole : (o : OnlineFacts) (number : ℕ) (fault : StoreFault) → HasNumber o.contents.files number → IsRefused o number fault → IsTied o → HasMigrated number o o (Err fault)
refused_whole o number fault used is tied = refused o number fault (λ stop. by_case (one_refusal o number fault used is) stop) tied
  where
    by_case : (fault ≡ Offline) ⊎ (fault ≡ NotDumped) → fault ≡ Stopped → ⊥
    by_case (inl same) stop = cc
    by_case (inr same) stop = cc

pub refused_only : (o : OnlineFacts) (number : ℕ) (fault : StoreFault) → HasNumber o.contents.files number → IsRefused o number fault
    → (let r : Result (Unit {0}) StoreFault = Err fault in (r ≡ Err Offline) ⊎ ((r ≡ Err NotDumped) ⊎ ((r ≡ Err Stopped) ⊎ (r ≡ Err NoMemory))))
refused_only o number fault used is = by_case (one_refusal o number fault used is)
  where
    by_case : (fault ≡ Offline) ⊎ (fault ≡ NotDumped)
        → (let r : Result (Unit {0}) StoreFault = Err fault in (r ≡ Err Offline) ⊎ ((r ≡ Err NotDumped) ⊎ ((r ≡ Err Stopped) ⊎ (r ≡ Err NoMemory))))
    by_case (inl same) = inl (ap Err same)
    by_case (inr same) = inr (inl (ap Err same))

-- THE RECORD of a number
pub rec_there : (files : List File) (f : File) → Contains files f → Contains (map (λ (g : File). g.rec) files) f.rec
rec_there files f (i, inside, at) =
    let long = length-map files (λ (g : File). g.rec) in
    (i, omega (arith, inside, long), get_or-map (λ (g : File). g.rec) files i f f.rec inside ∙ ap (λ (g : File). g.rec) at)

pub copy_there : (users : List UserRec) (files : List FileRec) (number : ℕ) (file : FileRec) → IsRecords users files → Some file ≡ get (by_number files) number → (r : FileRec) → Contains files r → r.number ≡ number
    → is_some file.tape ≡ is_some r.tape
copy_there users files number file is found r there at = ap (λ (s : FileRec). is_some s.tape) (same_Some file r (found ∙ number_found users files is number r there at))

pub copy_absent : (users : List UserRec) (files : List FileRec) (number : ℕ) → IsRecords users files → None ≡ get (by_number files) number → (r : FileRec) → Contains files r → r.number ≡ number → ⊥
copy_absent users files number is none r there at = let e = none ∙ number_found users files is number r there at in (let no : ⊥ = cc in no)
