-- The plan of a process satisfies the rules of a plan, its versions are those that aren't empty, and their copies satisfy
-- the rules of a directory.
-- serves: copies_from, made_ready, writer_of, AnswerLemmas, BelongLemmas, ExitLemmas, JobLemmas, PrepareLemmas, crates above
use Rattle.std.proofs.Common.{◌≡◌, ◌≢◌, ℕ, zero, suc, ◌+◌, ◌-◌, ◌^◌, ◌<◌, ◌≤◌, ◌==◌, Bool, true, false, List, [], ◌∷◌, ◌++◌, get_or, length, map, take, Option, Some, None, refl, sym, ◌∙◌, ap, arith, subst, inl, inr, slice_get}
use Rattle.std.specs.Prelude.{◌⊎◌, ◌&&◌, All, AllPairs, Contains, IfOk, Result, Ok, Err, filter, is_some, nat_lt, slice_index}
use Rattle.std.specs.List.Sorted.{IsStrictlyIncreasing}
use Rattle.std.proofs.lemmas.Bool.{cases_Bool, cond-false, cond-true, eq-eqb, lt-ltb, ltb-true, ne_eqb}
use Rattle.std.proofs.lemmas.List.{length-map}
use Rattle.std.proofs.lemmas.List.Elements.{All-contains, All-map, Contains-get_or}
use Rattle.std.proofs.lemmas.List.Sums.{sum_by-cons}
use Rattle.std.proofs.lemmas.Option.{slice_get_within}
use Rattle.g_base.specs.Block.{blocks_for}
use Rattle.g_entry.specs.declared.file_rec.FileRec.{FileRec}
use Rattle.g_entry.specs.declared.file_rec.TapeCopy.{TapeCopy}
use Rattle.g_entry.specs.declared.user_rec.UserRec.{UserRec}
use Rattle.g_entry.specs.FileFields.{IsCopy, IsFile}
use Rattle.g_entry.specs.HeadFields.{IsSerial}
use Rattle.g_entry.specs.Rules.{AreUsers, SameName}
use Rattle.g_tree.specs.Records.{IsRecords}
use Rattle.g_tree.proofs.RuleLemmas.{one_of_key}
use Rattle.g_disc_contents.specs.Contents.{Contents, File, copied_rec, copy_of, recs_in}
use Rattle.g_disc_contents.specs.Facts.{IsTied, OnlineFacts}
use Rattle.g_incr.proofs.PlanLemmas.{blocks_most}
use Rattle.g_incr.specs.Plan.{IsPlan, Plan, blocks_of, content_blocks, first_content, waiting, waits}
use Rattle.g_online.specs.ReadyCopies.{IsReadyFor, ready_with, Readied}
use Rattle.g_online.proofs.CopiedLemmas.{KeepsEmpty, records_copied, rules_copied}
use Rattle.g_store_meaning.specs.Meaning.{files_of}
use Rattle.g_laws_store.specs.Dumping.{AreDumpable}
use Rattle.g_laws_store.specs.ForgottenCopies.{bare, bare_file, bare_rec, every_user}
use Rattle.g_laws_store.proofs.ForgetLemmas.{forgetting_stays}
use Rattle.g_dumper.specs.Beginning.{held_of}
use Rattle.g_dumper.proofs.HeldLemmas.{held_all, held_few, held_ordered, held_pairs, holds_there, in_held, is_held}
use Rattle.g_dumper.proofs.IntentLemmas.{rules_here}
use Rattle.g_laws_store.proofs.WaitingLemmas.{mapped_there}
use Rattle.g_process.specs.ProcessPlan.{copies_from, is_filled, living, process_plan, versions}
use Rattle.g_process.proofs.ReleaseLemmas.{take_next}
use Rattle.g_process.proofs.WriteLemmas.{contained}

-- WITHOUT COPIES each list of records is the same list without them
bare_recs : (files : List File) → map (λ (f : File). f.rec) (map bare_file files) ≡ map bare_rec (map (λ (f : File). f.rec) files)
bare_recs [] = refl
bare_recs (f ∷ fs) = ap (λ (rs : List FileRec). bare_rec f.rec ∷ rs) (bare_recs fs)

bare_of : (n : ℕ) (rs : List FileRec) → files_of n (map bare_rec rs) ≡ map bare_rec (files_of n rs)
bare_of n [] = refl
bare_of n (r ∷ rs) = by_owner (cases_Bool (r.owner == n)) (bare_of n rs)
  where
    by_owner : ((r.owner == n) ≡ true) ⊎ ((r.owner == n) ≡ false) → files_of n (map bare_rec rs) ≡ map bare_rec (files_of n rs) → files_of n (map bare_rec (r ∷ rs)) ≡ map bare_rec (files_of n (r ∷ rs))
    by_owner (inl is) rest =
        cond-true (r.owner == n) (bare_rec r ∷ files_of n (map bare_rec rs)) (files_of n (map bare_rec rs)) is ∙ ap (λ (ss : List FileRec). bare_rec r ∷ ss) rest
        ∙ sym (ap (map bare_rec) (cond-true (r.owner == n) (r ∷ files_of n rs) (files_of n rs) is))
    by_owner (inr isnt) rest =
        cond-false (r.owner == n) (bare_rec r ∷ files_of n (map bare_rec rs)) (files_of n (map bare_rec rs)) isnt ∙ rest
        ∙ sym (ap (map bare_rec) (cond-false (r.owner == n) (r ∷ files_of n rs) (files_of n rs) isnt))

map_both : (xs ys : List FileRec) → map bare_rec (xs ++ ys) ≡ map bare_rec xs ++ map bare_rec ys
map_both [] ys = refl
map_both (x ∷ xs) ys = ap (λ (zs : List FileRec). bare_rec x ∷ zs) (map_both xs ys)

bare_held : (ns : List ℕ) (rs : List FileRec) → held_of ns (map bare_rec rs) ≡ map bare_rec (held_of ns rs)
bare_held [] rs = refl
bare_held (n ∷ ns) rs =
    ap (λ (xs : List FileRec). xs ++ held_of ns (map bare_rec rs)) (bare_of n rs) ∙ ap (λ (ys : List FileRec). map bare_rec (files_of n rs) ++ ys) (bare_held ns rs)
    ∙ sym (map_both (files_of n rs) (held_of ns rs))

pub plan_files : (serial : ℕ) (o : OnlineFacts) → (process_plan serial o).files ≡ map bare_rec (living o.contents)
plan_files serial o = ap (held_of (every_user o.contents)) (bare_recs o.contents.files) ∙ bare_held (every_user o.contents) (recs_in o.contents)

-- and those that wait are those that aren't empty
bare_waits : (r : FileRec) → waits (bare_rec r) ≡ is_filled r
bare_waits r = by_case (nat_lt 0 r.len)
  where
    by_case : (b : Bool) → (b && true) ≡ b
    by_case true = refl
    by_case false = refl

waiting_bare : (rs : List FileRec) → waiting (map bare_rec rs) ≡ map bare_rec (filter is_filled rs)
waiting_bare [] = refl
waiting_bare (r ∷ rs) = by_len (cases_Bool (is_filled r)) (waiting_bare rs)
  where
    by_len : (is_filled r ≡ true) ⊎ (is_filled r ≡ false) → waiting (map bare_rec rs) ≡ map bare_rec (filter is_filled rs) → waiting (map bare_rec (r ∷ rs)) ≡ map bare_rec (filter is_filled (r ∷ rs))
    by_len (inl is) rest =
        cond-true (waits (bare_rec r)) (bare_rec r ∷ waiting (map bare_rec rs)) (waiting (map bare_rec rs)) (bare_waits r ∙ is) ∙ ap (λ (ss : List FileRec). bare_rec r ∷ ss) rest
        ∙ sym (ap (map bare_rec) (cond-true (is_filled r) (r ∷ filter is_filled rs) (filter is_filled rs) is))
    by_len (inr isnt) rest =
        cond-false (waits (bare_rec r)) (bare_rec r ∷ waiting (map bare_rec rs)) (waiting (map bare_rec rs)) (bare_waits r ∙ isnt) ∙ rest
        ∙ sym (ap (map bare_rec) (cond-false (is_filled r) (r ∷ filter is_filled rs) (filter is_filled rs) isnt))

pub plan_waiting : (serial : ℕ) (o : OnlineFacts) → waiting (process_plan serial o).files ≡ map bare_rec (versions o.contents)
plan_waiting serial o = ap waiting (plan_files serial o) ∙ waiting_bare (living o.contents)

blocks_bare : (rs : List FileRec) → blocks_of (map bare_rec rs) ≡ blocks_of rs
blocks_bare [] = refl
blocks_bare (r ∷ rs) =
    sum_by-cons (λ (s : FileRec). blocks_for s.len) (bare_rec r) (map bare_rec rs) ∙ ap (λ (n : ℕ). blocks_for r.len + n) (blocks_bare rs)
    ∙ sym (sum_by-cons (λ (s : FileRec). blocks_for s.len) r rs)

pub plan_content : (serial : ℕ) (o : OnlineFacts) → content_blocks (process_plan serial o) ≡ blocks_of (versions o.contents)
plan_content serial o = ap blocks_of (plan_waiting serial o) ∙ blocks_bare (versions o.contents)

pub plan_long : (serial : ℕ) (o : OnlineFacts) → length (process_plan serial o).files ≡ length (living o.contents)
plan_long serial o = ap (λ (rs : List FileRec). length rs) (plan_files serial o) ∙ length-map (living o.contents) bare_rec

-- THE NUMBERS OF ALL USERS rise, and each is that of a user
number_at : (us : List UserRec) (k : ℕ) (n : ℕ) → ((i : ℕ) (u : UserRec) → slice_get us i ≡ Some u → u.number ≡ n + i) → k < length us → slice_index (map (λ (u : UserRec). u.number) us) k ≡ n + k
number_at [] k n is less = absurd (let no : ⊥ = omega (arith, less) in no)
number_at (u ∷ us) zero n is less = is 0 u refl
number_at (u ∷ us) (suc k) n is less =
    number_at us k (n + 1) (λ i v at. is (suc i) v at ∙ (let e : n + suc i ≡ (n + 1) + i = omega arith in e)) (omega (arith, less)) ∙ (let e : (n + 1) + k ≡ n + suc k = omega arith in e)

pub users_rise : (us : List UserRec) → AreUsers us → IsStrictlyIncreasing (map (λ (u : UserRec). u.number) us)
users_rise us are k less =
    let long = length-map us (λ (u : UserRec). u.number) in
    let numbered : (i : ℕ) (u : UserRec) → slice_get us i ≡ Some u → u.number ≡ 0 + i = λ i u at. are.numbered i u at ∙ (let e : i ≡ 0 + i = omega arith in e) in
    let one = number_at us k 0 numbered (omega (arith, less, long)) in
    let two = number_at us (k + 1) 0 numbered (omega (arith, less, long)) in
    omega (arith, one, two)

pub users_there : (us : List UserRec) → AreUsers us → All (λ n. n < length us) (map (λ (u : UserRec). u.number) us)
users_there us are = All-map (λ n. n < length us) (λ (u : UserRec). u.number) us (λ k d within.
    let (i, at) = contained us (get_or us k d) (Contains-get_or us k d within) in
    let is = are.numbered i (get_or us k d) at in
    let below = slice_get_within us i (get_or us k d) at in
    omega (arith, is, below))

-- THE RULES OF THE PLAN
other_stamp : (r s : FileRec) → r.stamp ≢ s.stamp → s.stamp ≢ r.stamp
other_stamp r s other same = other (sym same)

other_name : (r s : FileRec) → (SameName r s → ⊥) → SameName s r → ⊥
other_name r s other same = other (record { owner = sym same.owner; local = sym same.local; generation = sym same.generation; lang = sym same.lang })

pub process_rules : (serial : ℕ) (o : OnlineFacts) → o.live ≡ true → IsTied o → IsSerial serial → o.contents.head.last_dump ≢ 2 ^ 62 - 1 → IsPlan (process_plan serial o)
process_rules serial o live tied named unspent =
    let kept = rules_here o live tied in
    let was : AreDumpable o.changed o.contents = record { records = kept.records; dated = kept.dated; waits = tied.waits live } in
    let rules = forgetting_stays.dumpable o.changed o.contents was in
    let rs = recs_in (bare o.contents) in
    let ns = every_user o.contents in
    let rising = users_rise o.contents.users kept.records.among_users in
    let last = kept.head.last_dump in
    let files = rules.records.among_files in
    record {
      serial = named;
      place = omega arith;
      number = omega (arith, last, unspent);
      first = kept.head.least_stamp;
      last = kept.head.most_stamp;
      users = kept.records.among_users;
      each_user = kept.records.each_user;
      held = rising;
      held_users = users_there o.contents.users kept.records.among_users;
      owners = λ k d within. holds_there ns (get_or (held_of ns rs) k d).owner
          (in_held ns rs (get_or (held_of ns rs) k d) (Contains-get_or (held_of ns rs) k d within)).1;
      in_order = held_ordered ns rs rising rules.records.numbers.rising;
      each_file = held_all IsFile ns rs rules.records.each_file;
      files = record {
        few = let few = held_few ns rs rising in let most = files.few in omega (arith, few, most);
        owners = held_all (λ r. r.owner < length o.contents.users) ns rs files.owners;
        trapped = held_all (λ r. All (λ pair. pair.0 < length o.contents.users) r.traps.others) ns rs files.trapped;
        names = held_pairs (λ r s. SameName r s → ⊥) other_name ns rs rising files.names;
        stamps = held_pairs (λ r s. r.stamp ≢ s.stamp) other_stamp ns rs rising files.stamps;
        dated = held_all (λ r. 1 ≤ r.stamp) ns rs files.dated;
        empty = held_all (λ r. r.len ≡ 0 → r.tape ≡ None) ns rs files.empty;
      };
      dated = held_all (λ r. r.stamp < o.contents.head.next_stamp) ns rs rules.dated;
    }

-- WHICH RECORDS ARE LIVING: all of them
pub living_there : (c : Contents) (r : FileRec) → Contains (living c) r → Contains (recs_in c) r
living_there c r there = (in_held (every_user c) (recs_in c) r there).0

number_held : (us : List UserRec) (n : ℕ) → AreUsers us → n < length us → Contains (map (λ (u : UserRec). u.number) us) n
number_held us n are below =
    let long = length-map us (λ (u : UserRec). u.number) in
    let numbered : (i : ℕ) (u : UserRec) → slice_get us i ≡ Some u → u.number ≡ 0 + i = λ i u at. are.numbered i u at ∙ (let e : i ≡ 0 + i = omega arith in e) in
    let at : slice_index (map (λ (u : UserRec). u.number) us) n ≡ n = number_at us n 0 numbered below ∙ (let e : 0 + n ≡ n = omega arith in e) in
    subst (Contains (map (λ (u : UserRec). u.number) us)) at (Contains-get_or (map (λ (u : UserRec). u.number) us) n 0 (omega (arith, below, long)))

pub all_living : (c : Contents) (r : FileRec) → IsRecords c.users (recs_in c) → Contains (recs_in c) r → Contains (living c) r
all_living c r rules there =
    let owner : r.owner < length c.users = All-contains (λ (s : FileRec). s.owner < length c.users) (recs_in c) r rules.among_files.owners there in
    is_held (every_user c) (recs_in c) r there (holds_there (every_user c) r.owner (number_held c.users r.owner rules.among_users owner))

filter_there : (rs : List FileRec) (r : FileRec) → is_filled r ≡ true → Contains rs r → Contains (filter is_filled rs) r
filter_there [] r is (i, within, at) = absurd (let no : ⊥ = omega (arith, within) in no)
filter_there (q ∷ qs) r is (zero, within, at) =
    subst (λ (xs : List FileRec). Contains xs r) (sym (cond-true (is_filled q) (q ∷ filter is_filled qs) (filter is_filled qs) (ap is_filled at ∙ is))) (0, omega arith, at)
filter_there (q ∷ qs) r is (suc i, within, at) = by_len (cases_Bool (is_filled q)) (filter_there qs r is (i, omega (arith, within), at))
  where
    by_len : (is_filled q ≡ true) ⊎ (is_filled q ≡ false) → Contains (filter is_filled qs) r → Contains (filter is_filled (q ∷ qs)) r
    by_len (inl some) (j, inside, same) =
        subst (λ (xs : List FileRec). Contains xs r) (sym (cond-true (is_filled q) (q ∷ filter is_filled qs) (filter is_filled qs) some)) (suc j, omega (arith, inside), same)
    by_len (inr none) rest = subst (λ (xs : List FileRec). Contains xs r) (sym (cond-false (is_filled q) (q ∷ filter is_filled qs) (filter is_filled qs) none)) rest

pub filtered : (rs : List FileRec) (r : FileRec) → Contains (filter is_filled rs) r → Contains rs r × (is_filled r ≡ true)
filtered [] r (i, within, at) = absurd (let no : ⊥ = omega (arith, within) in no)
filtered (q ∷ qs) r there = by_len (cases_Bool (is_filled q)) there (λ rest. filtered qs r rest)
  where
    later : Contains qs r × (is_filled r ≡ true) → Contains (q ∷ qs) r × (is_filled r ≡ true)
    later ((i, within, at), is) = ((suc i, omega (arith, within), at), is)

    by_len : (is_filled q ≡ true) ⊎ (is_filled q ≡ false) → Contains (filter is_filled (q ∷ qs)) r → (Contains (filter is_filled qs) r → Contains qs r × (is_filled r ≡ true)) → Contains (q ∷ qs) r × (is_filled r ≡ true)
    by_len (inr none) it rest =
        later (rest (subst (λ (xs : List FileRec). Contains xs r) (cond-false (is_filled q) (q ∷ filter is_filled qs) (filter is_filled qs) none) it))
    by_len (inl some) it rest = here some rest (subst (λ (xs : List FileRec). Contains xs r) (cond-true (is_filled q) (q ∷ filter is_filled qs) (filter is_filled qs) some) it)
      where
        here : is_filled q ≡ true → (Contains (filter is_filled qs) r → Contains qs r × (is_filled r ≡ true)) → Contains (q ∷ filter is_filled qs) r → Contains (q ∷ qs) r × (is_filled r ≡ true)
        here is more (zero, within, at) = ((0, omega arith, at), ap is_filled (sym at) ∙ is)
        here is more (suc i, within, at) = later (more (i, omega (arith, within), at))

pub version_there : (c : Contents) (r : FileRec) → Contains (versions c) r → Contains (recs_in c) r × (0 < r.len)
version_there c r there =
    let (alive, is) = filtered (living c) r there in
    (living_there c r alive, ltb-true 0 r.len is)

pub all_versions : (c : Contents) (r : FileRec) → IsRecords c.users (recs_in c) → Contains (recs_in c) r → 0 < r.len → Contains (versions c) r
all_versions c r rules there some = filter_there (living c) r (lt-ltb 0 r.len some) (all_living c r rules there)

-- THEIR COPIES satisfy the rules
abbrev MayStand : ℕ × TapeCopy → Type 0
MayStand c = IsCopy c.1

places_fit : (serial at : ℕ) (rs : List FileRec) → IsSerial serial → at + blocks_of rs < 2 ^ 32 → All MayStand (copies_from serial at rs)
places_fit serial at [] named low = λ k d within. absurd (let no : ⊥ = omega (arith, within) in no)
places_fit serial at (r ∷ rs) named low =
    let sum = sum_by-cons (λ (s : FileRec). blocks_for s.len) r rs in
    let rest = places_fit serial (at + blocks_for r.len) rs named (omega (arith, low, sum)) in
    let here : IsCopy (let c : TapeCopy = record { serial = serial; first = at } in c) = record { serial = named; first = omega (arith, low, sum) } in
    all_cons MayStand (r.stamp, record { serial = serial; first = at }) (copies_from serial (at + blocks_for r.len) rs) here rest
  where
    all_cons : {X : Type 0} (P : X → Type 0) (x : X) (xs : List X) → P x → All P xs → All P (x ∷ xs)
    all_cons P x xs one all zero d within = one
    all_cons P x xs one all (suc k) d within = all k d (omega (arith, within))

-- a version gets one
pub copied_some : (serial at : ℕ) (rs : List FileRec) (r : FileRec) (old : Option TapeCopy) → Contains rs r → is_some (copy_of (copies_from serial at rs) r.stamp old) ≡ true
copied_some serial at [] r old (i, within, is) = absurd (let no : ⊥ = omega (arith, within) in no)
copied_some serial at (q ∷ qs) r old there = by_stamp (cases_Bool (q.stamp == r.stamp)) there (λ rest. copied_some serial (at + blocks_for q.len) qs r old rest)
  where
    by_stamp : ((q.stamp == r.stamp) ≡ true) ⊎ ((q.stamp == r.stamp) ≡ false) → Contains (q ∷ qs) r → (Contains qs r → is_some (copy_of (copies_from serial (at + blocks_for q.len) qs) r.stamp old) ≡ true)
        → is_some (copy_of (copies_from serial at (q ∷ qs)) r.stamp old) ≡ true
    by_stamp (inl is) it rest =
        ap is_some (cond-true (q.stamp == r.stamp) (Some (record { serial = serial; first = at })) (copy_of (copies_from serial (at + blocks_for q.len) qs) r.stamp old) is)
    by_stamp (inr isnt) (zero, within, same) rest = absurd (let no : ⊥ = (let one = eq-eqb q.stamp r.stamp (ap (λ (x : FileRec). x.stamp) same) in cc) in no)
    by_stamp (inr isnt) (suc i, within, same) rest =
        ap is_some (cond-false (q.stamp == r.stamp) (Some (record { serial = serial; first = at })) (copy_of (copies_from serial (at + blocks_for q.len) qs) r.stamp old) isnt)
        ∙ rest (i, omega (arith, within), same)

-- and a stamp of none doesn't
pub copied_apart : (serial at : ℕ) (rs : List FileRec) (stamp : ℕ) (old : Option TapeCopy) → ((q : FileRec) → Contains rs q → q.stamp ≡ stamp → ⊥) → copy_of (copies_from serial at rs) stamp old ≡ old
copied_apart serial at [] stamp old apart = refl
copied_apart serial at (q ∷ qs) stamp old apart =
    cond-false (q.stamp == stamp) (Some (record { serial = serial; first = at })) (copy_of (copies_from serial (at + blocks_for q.len) qs) stamp old)
    (ne_eqb q.stamp stamp (apart q (0, omega arith, refl)))
    ∙ copied_apart serial (at + blocks_for q.len) qs stamp old (λ p there. apart p (later p there))
  where
    later : (p : FileRec) → Contains qs p → Contains (q ∷ qs) p
    later p (i, within, is) = (suc i, omega (arith, within), is)

-- two records with the same key are equal
pub key_one : (key : FileRec → ℕ) (rs : List FileRec) → AllPairs (λ (r s : FileRec). key r ≢ key s) rs → (r q : FileRec) → Contains rs r → Contains rs q → key q ≡ key r → q ≡ r
key_one key rs apart r q in_r in_q same = one_of_key key rs q r apart in_q in_r same

pub stamp_one : (rs : List FileRec) → AllPairs (λ (r s : FileRec). r.stamp ≢ s.stamp) rs → (r q : FileRec) → Contains rs r → Contains rs q → q.stamp ≡ r.stamp → q ≡ r
stamp_one rs apart r q in_r in_q same = key_one (λ (x : FileRec). x.stamp) rs apart r q in_r in_q same

pub number_one : (rs : List FileRec) → AllPairs (λ (r s : FileRec). r.number < s.number) rs → (r q : FileRec) → Contains rs r → Contains rs q → q.number ≡ r.number → q ≡ r
number_one rs rising r q in_r in_q same =
    key_one (λ (x : FileRec). x.number) rs (λ i j d less inside e. let below = rising i j d less inside in let no : ⊥ = omega (arith, below, e) in no) r q in_r in_q same

-- WHAT IS MADE READY
empty_kept : (serial at : ℕ) (c : Contents) → IsRecords c.users (recs_in c) → All (KeepsEmpty (copies_from serial at (versions c))) (recs_in c)
empty_kept serial at c rules k d within none =
    let r = get_or (recs_in c) k d in
    copied_apart serial at (versions c) r.stamp r.tape (λ q there same.
    let (in_recs, some) = version_there c q there in
    let is : q ≡ r = stamp_one (recs_in c) rules.among_files.stamps r q (Contains-get_or (recs_in c) k d within) in_recs same in
    let long : q.len ≡ r.len = ap (λ (x : FileRec). x.len) is in
    (let no : ⊥ = omega (arith, some, none, long) in no))

pub ready_rules : (serial at : ℕ) (o : OnlineFacts) → o.live ≡ true → IsTied o → IsSerial serial → at + blocks_of (versions o.contents) < 2 ^ 32
    → IsRecords o.contents.users (map (copied_rec (copies_from serial at (versions o.contents))) (recs_in o.contents))
ready_rules serial at o live tied named low =
    let rules = rules_here o live tied in
    records_copied (copies_from serial at (versions o.contents)) (places_fit serial at (versions o.contents) named low) o.contents.users (recs_in o.contents)
    (empty_kept serial at o.contents rules.records) rules.records

pub made_ready : (serial at last : ℕ) (o : OnlineFacts) (ready : Readied) → o.live ≡ true → IsTied o → IsSerial serial → last < 2 ^ 62 → at + blocks_of (versions o.contents) < 2 ^ 32
    → ready ≡ ready_with (copies_from serial at (versions o.contents)) o.contents → IsReadyFor last (copies_from serial at (versions o.contents)) ready o
made_ready serial at last o ready live tied named number low is =
    let rules = rules_here o live tied in
    record {
      ready_is = is;
      covers = record {
        each = λ k d within some.
            let f = get_or o.contents.files k d in
            copied_some serial at (versions o.contents) f.rec f.rec.tape
            (all_versions o.contents f.rec rules.records (mapped_there (λ (x : File). x.rec) o.contents.files f (Contains-get_or o.contents.files k d within)) some);
      };
      rules = rules_copied (copies_from serial at (versions o.contents)) (places_fit serial at (versions o.contents) named low) o.contents last number
          (empty_kept serial at o.contents rules.records) rules;
    }

-- one more copy after the others
pub copies_push : (serial at : ℕ) (rs : List FileRec) (r : FileRec) → copies_from serial at (rs ++ r ∷ []) ≡ copies_from serial at rs ++ (r.stamp, record { serial = serial; first = at + blocks_of rs }) ∷ []
copies_push serial at [] r = ap (λ (n : ℕ). let c : TapeCopy = record { serial = serial; first = n } in (r.stamp, c) ∷ []) (let e : at ≡ at + 0 = omega arith in e)
copies_push serial at (q ∷ qs) r =
    let sum = sum_by-cons (λ (s : FileRec). blocks_for s.len) q qs in
    ap (λ (cs : List (ℕ × TapeCopy)). (q.stamp, record { serial = serial; first = at }) ∷ cs) (copies_push serial (at + blocks_for q.len) qs r
    ∙ ap (λ (n : ℕ). let c : TapeCopy = record { serial = serial; first = n } in copies_from serial (at + blocks_for q.len) qs ++ (r.stamp, c) ∷ [])
    (let e : (at + blocks_for q.len) + blocks_of qs ≡ at + blocks_of (q ∷ qs) = omega (arith, sum) in e))

pub blocks_push : (rs : List FileRec) (r : FileRec) → blocks_of (rs ++ r ∷ []) ≡ blocks_of rs + blocks_for r.len
blocks_push [] r = let sum = sum_by-cons (λ (s : FileRec). blocks_for s.len) r [] in omega (arith, sum)
blocks_push (q ∷ qs) r =
    let rest = blocks_push qs r in
    let one = sum_by-cons (λ (s : FileRec). blocks_for s.len) q (qs ++ r ∷ []) in
    let two = sum_by-cons (λ (s : FileRec). blocks_for s.len) q qs in
    omega (arith, rest, one, two)

-- THE WRITER'S PLAN, from its parts
pub plan_made : (serial number next : ℕ) (o : OnlineFacts) (users : List UserRec) (held : List ℕ) (files given : List FileRec) → number ≡ o.contents.head.last_dump + 1 → next ≡ o.contents.head.next_stamp
    → users ≡ o.contents.users → held ≡ every_user o.contents → files ≡ map bare_rec given → given ≡ living o.contents
    → (let p : Plan = record { serial = serial; place = 0; number = number; next = next; users = users; held = held; files = files } in p ≡ process_plan serial o)
plan_made serial number next o users held files given number_is next_is users_are held_is files_are given_are =
    let all : files ≡ (process_plan serial o).files = files_are ∙ ap (map bare_rec) given_are ∙ sym (plan_files serial o) in
    ap (λ (n : ℕ). let p : Plan = record { serial = serial; place = 0; number = n; next = next; users = users; held = held; files = files } in p) number_is
    ∙ ap (λ (n : ℕ). let p : Plan = record { serial = serial; place = 0; number = o.contents.head.last_dump + 1; next = n; users = users; held = held; files = files } in p) next_is
    ∙ ap (λ (us : List UserRec). let p : Plan = record { serial = serial; place = 0; number = o.contents.head.last_dump + 1; next = o.contents.head.next_stamp; users = us; held = held; files = files } in p) users_are
    ∙ ap (λ (ns : List ℕ). let p : Plan = record { serial = serial; place = 0; number = o.contents.head.last_dump + 1; next = o.contents.head.next_stamp; users = o.contents.users; held = ns; files = files } in p) held_is
    ∙ ap (λ (fs : List FileRec). let p : Plan = record { serial = serial; place = 0; number = o.contents.head.last_dump + 1; next = o.contents.head.next_stamp; users = o.contents.users; held = every_user o.contents; files = fs } in p) all

-- few blocks in all
pub few_blocks : (serial : ℕ) (o : OnlineFacts) → IsPlan (process_plan serial o) → (length o.contents.users ≤ 63) × (length (living o.contents) ≤ 1024) × (blocks_of (versions o.contents) ≤ 131072)
few_blocks serial o rules =
    let few = rules.files.few in
    let long = plan_long serial o in
    let most = blocks_most (process_plan serial o).files rules.each_file in
    let content = plan_content serial o in
    (rules.users.few, omega (arith, few, long), omega (arith, most, content, few))

pub first_is : (serial : ℕ) (o : OnlineFacts) (users files : ℕ) → users ≡ length o.contents.users → files ≡ length (living o.contents) → 1 + users + files ≡ first_content (process_plan serial o)
first_is serial o users files a b = let long = plan_long serial o in omega (arith, a, b, long)

-- a step of the loop over the versions
pub copies_next : (serial first : ℕ) (rs : List FileRec) (i : ℕ) (r : FileRec) (was now : List (ℕ × TapeCopy)) (at blocks : ℕ) → slice_get rs i ≡ Some r → was ≡ copies_from serial first (take i rs)
    → at ≡ first + blocks_of (take i rs) → now ≡ was ++ (r.stamp, record { serial = serial; first = at }) ∷ [] → blocks ≡ blocks_for r.len
    → (now ≡ copies_from serial first (take (i + 1) rs)) × (at + blocks ≡ first + blocks_of (take (i + 1) rs))
copies_next serial first rs i r was now at blocks here was_is at_is now_is blocks_are =
    let more : take (i + 1) rs ≡ take i rs ++ r ∷ [] = take_next i rs r here in
    let sum = blocks_push (take i rs) r in
    let long : blocks_of (take (i + 1) rs) ≡ blocks_of (take i rs ++ r ∷ []) = ap blocks_of more in (
      now_is ∙ ap (λ (cs : List (ℕ × TapeCopy)). cs ++ (r.stamp, record { serial = serial; first = at }) ∷ []) was_is
          ∙ ap (λ (n : ℕ). let c : TapeCopy = record { serial = serial; first = n } in copies_from serial first (take i rs) ++ (r.stamp, c) ∷ []) at_is
          ∙ sym (copies_push serial first (take i rs) r) ∙ sym (ap (copies_from serial first) more),
      omega (arith, at_is, blocks_are, sum, long),
    )

-- an answer that is Ok is that
pub if_ok_is : {T E : Type 0} (a b : T) (r : Result T E) → a ≡ b → IfOk r (λ x. x ≡ a) → IfOk r (λ x. x ≡ b)
if_ok_is a b (Ok x) same is = is ∙ same
if_ok_is a b (Err e) same is = tt
