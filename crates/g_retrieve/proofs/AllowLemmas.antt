-- A file that isn't on the disc may be brought back, with others taken off by a plan; and the room that there is then is the plan's.
-- serves: bring_back, put_back, BackLemmas, KeepsLemmas, crates above
use Rattle.std.proofs.Common.{◌≡◌, ◌≢◌, ℕ, ◌+◌, ◌<◌, ◌==◌, Bool, true, false, ◌&&◌, ◌||◌, List, [], ◌∷◌, get_or, length, map, sum_by, Option, Some, None, is_some, refl, sym, ◌∙◌, ap, arith, subst, inl, inr, if◌then◌else◌, true≢false}
use Rattle.std.specs.Prelude.{◌⊎◌, All, Contains, nat_lt}
use Rattle.std.proofs.lemmas.Bool.{and_parts, both_ways, cases_Bool, cond-false, cond-true, eq-eqb, eqb-true, false_from_ne_true, ltb-true}
use Rattle.std.proofs.lemmas.List.Elements.{All-contains, All-head, All-map, All-tail, All-weaker, Contains-get_or}
use Rattle.std.proofs.lemmas.List.Sums.{sum_by-cons}
use Rattle.g_base.specs.Block.{blocks_for}
use Rattle.g_entry.specs.declared.file_rec.FileRec.{FileRec}
use Rattle.g_entry.specs.declared.file_rec.TapeCopy.{TapeCopy}
use Rattle.g_tree.specs.Records.{IsRecords}
use Rattle.g_tree.proofs.RuleLemmas.{one_of_key}
use Rattle.g_disc_contents.specs.Contents.{Contents, File, brought, has, offline_in, online_with, recs_in, taken_off}
use Rattle.g_disc_contents.specs.Facts.{IsTied, OnlineFacts, Pin, is_current, online_blocks, pinned_blocks, room_with}
use Rattle.g_online.specs.declared.change.Change.TheVariants.{Bring}
use Rattle.g_online.specs.AllowedChanges.{IsAllowed, IsUnjammable, KeepsRules, Lies}
use Rattle.g_online.specs.Change.{changed, told_bytes, with_files}
use Rattle.g_online.specs.Room.{FitsDisc}
use Rattle.g_online.proofs.KeepLemmas.{rules_of}
use Rattle.g_online.proofs.OffRuleLemmas.{MayGo, committed_rules, off_rules, same_recs, rec_off}
use Rattle.g_laws_store.specs.UnjamPlan.{IsUnjamPlan, is_candidate, is_taken}
use Rattle.g_laws_store.proofs.UnjamLemmas.{any_found, numbers_apart}
use Rattle.g_laws_store.proofs.UserLemmas.{any_there}
use Rattle.g_retrieve.specs.Retrieval.{IsOnTape}

-- THE RULES of the contents, from what ties them to the disc
pub rules_here : (o : OnlineFacts) → o.live ≡ true → IsTied o → KeepsRules o.contents
rules_here o live tied = subst KeepsRules (sym (tied.contents live)) (rules_of o.disc.size o.disc.held o.layout.directory (tied.records live) (tied.rules live))

-- a file that isn't on the disc has a copy on tape, and isn't empty
pub away_is : (o : OnlineFacts) (number : ℕ) → o.live ≡ true → IsTied o → (f : File) × Contains o.contents.files f × (f.rec.number ≡ number) × (f.online ≡ false)
    → (f : File) × (c : TapeCopy) × IsOnTape number o f c
away_is o number live tied (f, there, at, offline) = by_copy f.rec.tape refl (copied (lies.somewhere))
  where
    lies : Lies f
    lies = All-contains Lies o.contents.files f (rules_here o live tied).lie there

    copied : (f.online ≡ true) ⊎ (is_some f.rec.tape ≡ true) → is_some f.rec.tape ≡ true
    copied (inl on) = absurd (true≢false (sym on ∙ offline))
    copied (inr is) = is

    by_copy : (tape : Option TapeCopy) → f.rec.tape ≡ tape → is_some tape ≡ true → (g : File) × (c : TapeCopy) × IsOnTape number o g c
    by_copy None none is = let no : ⊥ = cc in absurd no
    by_copy (Some c) some is = (f, c, record { there = there; number_is = at; offline = offline; copy = some })

pub away_filled : (o : OnlineFacts) (number : ℕ) (f : File) (c : TapeCopy) → o.live ≡ true → IsTied o → IsOnTape number o f c → 0 < f.rec.len
away_filled o number f c live tied away =
    let lies = All-contains Lies o.contents.files f (rules_here o live tied).lie away.there in
    let some : f.rec.len ≢ 0 = λ none. true≢false (sym (lies.empty none) ∙ away.offline) in
    omega (arith, some)

rec_back : (number : ℕ) (bytes : Option (List ℕ)) (f : File) → (online_with number bytes f).rec ≡ f.rec
rec_back number bytes f = by_case (f.rec.number == number)
  where
    by_case : (b : Bool) → (let on : File = record f { online = true; bytes = bytes } in (if b then on else f).rec) ≡ f.rec
    by_case true = refl
    by_case false = refl

recs_back : (number : ℕ) (bytes : Option (List ℕ)) (files : List File) → map (λ (f : File). f.rec) (brought number bytes files) ≡ map (λ (f : File). f.rec) files
recs_back number bytes [] = refl
recs_back number bytes (f ∷ fs) = λ i. rec_back number bytes f i ∷ recs_back number bytes fs i

lies_back : (number : ℕ) (bytes : Option (List ℕ)) (f : File) → Lies f → Lies (online_with number bytes f)
lies_back number bytes f lies = by_case (f.rec.number == number)
  where
    by_case : (b : Bool) → (let on : File = record f { online = true; bytes = bytes } in Lies (if b then on else f))
    by_case true = record { somewhere = inl refl; empty = λ none. refl }
    by_case false = lies

back_rules : (number : ℕ) (bytes : Option (List ℕ)) (c : Contents) → KeepsRules c → KeepsRules (with_files (brought number bytes c.files) c)
back_rules number bytes c rules =
    same_recs c (brought number bytes c.files) (recs_back number bytes c.files)
    (All-map Lies (online_with number bytes) c.files (λ k d inside. lies_back number bytes (get_or c.files k d) (rules.lie k d inside))) rules

rules_then : (told pinned : Bool) (number : ℕ) (text numbers : List ℕ) (c : Contents) → All (MayGo numbers) c.files → KeepsRules c → KeepsRules (changed told pinned (Bring number text numbers) c)
unfolding changed
rules_then told pinned number text numbers c may rules =
    let off : Contents = with_files (taken_off numbers c.files) c in
    committed_rules (pinned || false) (with_files (brought number (told_bytes told text) off.files) off) (back_rules number (told_bytes told text) off (off_rules numbers c may rules))

-- A PLAN takes candidates
abbrev Comes : ℕ → List File → ℕ → Type 0
Comes until files n = (f : File) × Contains files f × (f.rec.number ≡ n) × (is_taken until f ≡ true)

record IsCandidate (f : File) : Type 0 where
  online : f.online ≡ true
  filled : 0 < f.rec.len
  copied : is_some f.rec.tape ≡ true

taken_is : (until : ℕ) (f : File) → is_taken until f ≡ true → IsCandidate f
taken_is until f is =
    let candidate = (and_parts (nat_lt f.rec.stamp until) (is_candidate f) is).1 in
    let both = and_parts (f.online && nat_lt 0 f.rec.len) (is_some f.rec.tape) candidate in
    let one = and_parts f.online (nat_lt 0 f.rec.len) both.0 in
    record { online = one.0; filled = ltb-true 0 f.rec.len one.1; copied = both.1 }

module _ (o : OnlineFacts) (need room : ℕ) (take : List ℕ) (records : IsRecords o.contents.users (recs_in o.contents)) (is : IsUnjamPlan need o take room) where
  abbrev files : List File
  files = o.contents.files

  -- the numbers are those of the files that are taken
  has_taken : (f : File) → Contains files f → has take f.rec.number ≡ is_taken is.until f
  has_taken f there = by_test (cases_Bool (is_taken is.until f))
    where
      by_test : (is_taken is.until f ≡ true) ⊎ (is_taken is.until f ≡ false) → has take f.rec.number ≡ is_taken is.until f
      by_test (inl taken) = any_there (λ (m : ℕ). m == f.rec.number) take f.rec.number (is.all f there taken) (eq-eqb f.rec.number f.rec.number refl) ∙ sym taken
      by_test (inr isnt) =
          false_from_ne_true (has take f.rec.number)
          (λ there_too.
          let (n, in_take, same) = any_found (λ (m : ℕ). m == f.rec.number) take there_too in
          let (g, in_files, number, taken) = All-contains (Comes is.until files) take n is.from in_take in
          let one = one_of_key (λ (h : File). h.rec.number) files g f (numbers_apart files records.numbers.rising) in_files there (number ∙ eqb-true n f.rec.number same) in
          both_ways (is_taken is.until f) isnt (ap (is_taken is.until) (sym one) ∙ taken))
          ∙ sym isnt

  all_may_go : All (MayGo take) files
  all_may_go k d inside in_take =
      let f = get_or files k d in
      let candidate = taken_is is.until f (sym (has_taken f (Contains-get_or files k d inside)) ∙ in_take) in
      let some = candidate.filled in
      (candidate.copied, λ none. (let no : ⊥ = omega (arith, some, none) in no))

  all_unjammable : All (IsUnjammable files) take
  all_unjammable =
      All-weaker (Comes is.until files) (IsUnjammable files)
      (λ n came.
      let candidate = taken_is is.until came.0 came.3 in
      record { file = came.0; there = came.1; number_is = came.2; online = candidate.online; filled = candidate.filled; copied = candidate.copied })
      take is.from

  -- THE ROOM without them
  abbrev kept : File → ℕ
  kept f = if f.online then blocks_for f.rec.len else 0

  abbrev counted : File → ℕ
  counted f = if is_taken is.until f then blocks_for f.rec.len else 0

  off_one : (f : File) → has take f.rec.number ≡ is_taken is.until f → kept (offline_in take f) + counted f ≡ kept f
  off_one f same = by_case (cases_Bool (is_taken is.until f))
    where
      off : File
      off = record f { online = false; bytes = None }

      by_case : (is_taken is.until f ≡ true) ⊎ (is_taken is.until f ≡ false) → kept (offline_in take f) + counted f ≡ kept f
      by_case (inl taken) =
          let gone : kept (offline_in take f) ≡ 0 = ap kept (cond-true (has take f.rec.number) off f (same ∙ taken)) in
          let all : counted f ≡ blocks_for f.rec.len = cond-true (is_taken is.until f) (blocks_for f.rec.len) 0 taken in
          let there : kept f ≡ blocks_for f.rec.len = cond-true f.online (blocks_for f.rec.len) 0 (taken_is is.until f taken).online in
          omega (arith, gone, all, there)
      by_case (inr isnt) =
          let stays : kept (offline_in take f) ≡ kept f = ap kept (cond-false (has take f.rec.number) off f (same ∙ isnt)) in
          let none : counted f ≡ 0 = cond-false (is_taken is.until f) (blocks_for f.rec.len) 0 isnt in
          omega (arith, stays, none)

  off_all : (fs : List File) → All (λ (f : File). has take f.rec.number ≡ is_taken is.until f) fs → online_blocks (taken_off take fs) + sum_by counted fs ≡ online_blocks fs
  off_all [] all = refl
  off_all (f ∷ fs) all =
      let one = off_one f (All-head (λ (g : File). has take g.rec.number ≡ is_taken is.until g) f fs all) in
      let rest = off_all fs (All-tail (λ (g : File). has take g.rec.number ≡ is_taken is.until g) f fs all) in
      omega (arith, sum_by-cons kept (offline_in take f) (taken_off take fs), sum_by-cons counted f fs, sum_by-cons kept f fs, one, rest)

  current_off : (fs : List File) (s : ℕ) → is_current (taken_off take fs) s ≡ is_current fs s
  current_off [] s = refl
  current_off (f ∷ fs) s =
      ap (λ (r : FileRec). (r.stamp == s) || is_current (taken_off take fs) s) (rec_off take f) ∙ ap (λ (b : Bool). (f.rec.stamp == s) || b) (current_off fs s)

  pinned_off : (pins : Option (List Pin)) → pinned_blocks pins (taken_off take files) ≡ pinned_blocks pins files
  pinned_off None = refl
  pinned_off (Some pins) = λ i. sum_by (λ (p : Pin). if current_off files p.stamp i then 0 else blocks_for p.len) pins

  pub plan_room : FitsDisc o → room ≡ room_with (taken_off take files) o
  plan_room fits =
      let sum = off_all files (λ k d inside. has_taken (get_or files k d) (Contains-get_or files k d inside)) in
      let pinned = pinned_off o.pins in
      let reached = is.room_is in
      omega (arith, sum, pinned, reached, fits)

pub may_bring : (o : OnlineFacts) (number need room : ℕ) (f : File) (c : TapeCopy) (text take : List ℕ) → o.live ≡ true → IsTied o → IsOnTape number o f c → length text ≡ f.rec.len
    → IsUnjamPlan need o take room → IsAllowed (Bring number text take) o
may_bring o number need room f c text take live tied away long is =
    let rules = rules_here o live tied in
    record {
      live = live;
      fits = (
        (f, away.there, away.number_is, away.offline, sym long),
        record { each = all_unjammable o need room take rules.records is; once = is.once },
      );
      rules = rules_then (is_some o.disc.held) (is_some o.pins) number text take o.contents (all_may_go o need room take rules.records is) rules;
    }
