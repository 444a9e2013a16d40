-- The making of a new version: that the filestore allows it, and how it is answered.
-- serves: make_version, AppendPartLemmas, RoomyLemmas
use Rattle.std.proofs.Common.{◌≡◌, ℕ, ◌<◌, ◌≤◌, ◌+◌, Bool, true, false, List, ◌∷◌, get_or, length, None, Err, is_some, refl, sym, ◌∙◌, ap, arith, inl, inr, subst, All}
use Rattle.std.specs.Prelude.{◌⊎◌, ◌==◌, ◌&&◌, Contains, filter, nat_lt}
use Rattle.std.proofs.lemmas.Bool.{cases_Bool, cond-false, cond-true, eqb-true, false≢true, ltb-true}
use Rattle.std.proofs.lemmas.List.Elements.{All-append, All-cons, All-contains, All-filter, All-map, Contains-get_or}
use Rattle.g_base.specs.Block.{blocks_for}
use Rattle.g_disc.proofs.CallLemmas.{Causes-for}
use Rattle.g_entry.specs.declared.file_rec.FileRec.{FileRec}
use Rattle.g_entry.specs.Rules.{StampsBelow}
use Rattle.g_plain.specs.declared.faults.StoreFault.TheVariants.{NoMemory, Stopped}
use Rattle.g_tree.specs.Records.{IsRecords}
use Rattle.g_tree.specs.State as records
use Rattle.g_tree.proofs.PlaceLemmas.{numbered_apart}
use Rattle.g_tree.proofs.RuleLemmas.{one_of_key}
use Rattle.g_disc_contents.specs.Contents.{Contents, File, committed, has, offline_in, recs_in, taken_off}
use Rattle.g_disc_contents.specs.Facts.{IsTied, OnlineFacts}
use Rattle.g_online.specs.declared.change.Change.TheVariants.{PutFile}
use Rattle.g_online.specs.declared.fault.OnlineFault.TheVariants as online
use Rattle.g_online.specs.AllowedChanges.{AreUnjammable, IsAllowed, IsUnjammable, KeepsRules, Lies}
use Rattle.g_online.specs.Change.{changed, told_bytes}
use Rattle.g_online.specs.Outcomes.{IsApplied}
use Rattle.g_store_meaning.specs.Laws.{with_version}
use Rattle.g_laws_store.proofs.FileLemmas.{offline_recs, recs_with}
use Rattle.g_laws_store.specs.UnjamPlan.{IsUnjamPlan, is_taken}
use Rattle.g_laws_store.proofs.UnjamLemmas.{any_found}
use Rattle.g_laws_store.proofs.WaitingLemmas.{mapped_there}
use Rattle.g_migrate.proofs.MigrationLemmas.{rules_here}
use Rattle.g_store_calls.specs.Versions.{HasMade, HasRoom, IsNext}
use Rattle.g_store_calls.proofs.AddLemmas.{or_false}
use Rattle.g_online.proofs.OffRuleLemmas.{committed_rules}

-- WHAT MAY BE TAKEN OFF the disc
four : (a b c d : Bool) → (a && (b && c && d)) ≡ true → (b ≡ true) × (c ≡ true) × (d ≡ true)
four true true true true is = (refl, refl, refl)
four true true true false is = absurd (false≢true is)
four true true false d is = absurd (false≢true is)
four true false c d is = absurd (false≢true is)
four false b c d is = absurd (false≢true is)

abbrev Goes : OnlineFacts → ℕ → ℕ → Type 0
Goes o until n = (f : File) × Contains o.contents.files f × (f.rec.number ≡ n) × (is_taken until f ≡ true)

goes_is : (o : OnlineFacts) (until n : ℕ) → Goes o until n → IsUnjammable o.contents.files n
goes_is o until n (f, there, number, taken) =
    let (online, filled, copied) = four (nat_lt f.rec.stamp until) f.online (nat_lt 0 f.rec.len) (is_some f.rec.tape) taken in
    record { file = f; there = there; number_is = number; online = online; filled = ltb-true 0 f.rec.len filled; copied = copied }

may_go : (o : OnlineFacts) (need : ℕ) (take : List ℕ) (room : ℕ) → IsUnjamPlan need o take room → AreUnjammable o.contents.files take
may_go o need take room plan = record { each = λ i d within. goes_is o plan.until (get_or take i d) (plan.from i d within); once = plan.once }

module _ (o : OnlineFacts) (take : List ℕ) (rules : KeepsRules o.contents) (are : AreUnjammable o.contents.files take) where
  abbrev files : List File
  files = o.contents.files

  lies_off : (f : File) → Contains files f → Lies f → Lies (offline_in take f)
  lies_off f there lies = by_case (cases_Bool (has take f.rec.number))
    where
      by_case : (has take f.rec.number ≡ true) ⊎ (has take f.rec.number ≡ false) → Lies (offline_in take f)
      by_case (inl goes) =
          let (m, in_take, same) = any_found (λ (n : ℕ). n == f.rec.number) take goes in
          let is : IsUnjammable files m = All-contains (IsUnjammable files) take m are.each in_take in
          let it : f.rec ≡ is.file.rec =
          one_of_key (λ (s : FileRec). s.number) (recs_in o.contents) f.rec is.file.rec (numbered_apart (recs_in o.contents) rules.records.numbers 0) (mapped_there (λ (g : File). g.rec) files f there)
          (mapped_there (λ (g : File). g.rec) files is.file is.there) (sym (is.number_is ∙ eqb-true m f.rec.number same)) in
          let len = ap (λ (s : FileRec). s.len) it in
          let filled = is.filled in
          subst Lies (sym (cond-true (has take f.rec.number) (let g : File = record f { online = false; bytes = None } in g) f goes))
          (record { somewhere = inr (ap (λ (s : FileRec). is_some s.tape) it ∙ is.copied); empty = λ none. (let no : ⊥ = omega (arith, none, len, filled) in absurd no) })
      by_case (inr stays) = subst Lies (sym (cond-false (has take f.rec.number) (let g : File = record f { online = false; bytes = None } in g) f stays)) lies

  all_lie : All Lies (taken_off take files)
  all_lie = All-map Lies (offline_in take) files (λ k d within. lies_off (get_or files k d) (Contains-get_or files k d within) (rules.lie k d within))

-- THE NEW VERSION may be inserted
module _ (o : OnlineFacts) (bytes : List ℕ) (r : FileRec) (take : List ℕ) (live : o.live ≡ true) (tied : IsTied o) (next : IsNext o bytes r) (are : AreUnjammable o.contents.files take) where
  abbrev file_by : Bool → File
  file_by told = record { rec = r; online = true; bytes = told_bytes told bytes }

  abbrev made : Bool → Contents
  made told = with_version (record { rec = r; online = true; bytes = told_bytes told bytes }) take o.contents

  rules : KeepsRules o.contents
  rules = rules_here o live tied

  recs_are : (told : Bool) → recs_in (made told) ≡ records.with_file r (recs_in o.contents)
  recs_are told = recs_with (file_by told) (taken_off take o.contents.files) ∙ ap (records.with_file r) (offline_recs take o.contents.files)

  dated : StampsBelow (o.contents.head.next_stamp + 1) (records.with_file r (recs_in o.contents))
  dated =
      let stamp = next.stamp in
      let older : All (λ (q : FileRec). q.stamp < o.contents.head.next_stamp + 1) (recs_in o.contents) = λ k d within. let less = rules.dated k d within in omega (arith, less) in
      let lower = filter (λ (q : FileRec). nat_lt q.number r.number) (recs_in o.contents) in
      let greater = filter (λ (q : FileRec). nat_lt r.number q.number) (recs_in o.contents) in
      All-append (λ (q : FileRec). q.stamp < o.contents.head.next_stamp + 1) lower (r ∷ greater)
      (All-filter (λ (q : FileRec). nat_lt q.number r.number) (λ (q : FileRec). q.stamp < o.contents.head.next_stamp + 1) (recs_in o.contents) older)
      (All-cons (λ (q : FileRec). q.stamp < o.contents.head.next_stamp + 1) r greater (omega (arith, stamp))
      (All-filter (λ (q : FileRec). nat_lt r.number q.number) (λ (q : FileRec). q.stamp < o.contents.head.next_stamp + 1) (recs_in o.contents) older))

  lie : (told : Bool) → All Lies (made told).files
  lie told =
      let f = file_by told in
      let taken = taken_off take o.contents.files in
      All-append Lies (filter (λ (g : File). nat_lt g.rec.number f.rec.number) taken) (f ∷ filter (λ (g : File). nat_lt f.rec.number g.rec.number) taken)
      (All-filter (λ (g : File). nat_lt g.rec.number f.rec.number) Lies taken (all_lie o take rules are))
      (All-cons Lies f (filter (λ (g : File). nat_lt f.rec.number g.rec.number) taken) (record { somewhere = inl refl; empty = λ none. refl })
      (All-filter (λ (g : File). nat_lt f.rec.number g.rec.number) Lies taken (all_lie o take rules are)))

  made_rules : (told : Bool) → KeepsRules (made told)
  made_rules told =
      let early = next.early in
      record {
        head = record { least_stamp = omega arith; most_stamp = omega (arith, early); last_dump = rules.head.last_dump; intent = rules.head.intent };
        records = subst (IsRecords o.contents.users) (sym (recs_are told)) next.rules;
        dated = subst (StampsBelow (o.contents.head.next_stamp + 1)) (sym (recs_are told)) dated;
        lie = lie told;
      }

  put_rules : (told pinned : Bool) → KeepsRules (changed told pinned (PutFile r bytes take) o.contents)
  unfolding changed
  put_rules told pinned = subst (λ (b : Bool). KeepsRules (committed b (made told))) (sym (or_false pinned)) (committed_rules pinned (made told) (made_rules told))

  pub may_put : IsAllowed (PutFile r bytes take) o
  may_put = record { live = live; fits = (next.stamp, next.tape, next.len, are); rules = put_rules (is_some o.disc.held) (is_some o.pins) }

pub put_allowed : (o : OnlineFacts) (bytes : List ℕ) (r : FileRec) (need : ℕ) (take : List ℕ) (room : ℕ) → o.live ≡ true → IsTied o → IsNext o bytes r → IsUnjamPlan need o take room
    → IsAllowed (PutFile r bytes take) o
put_allowed o bytes r need take room live tied next plan = may_put o bytes r take live tied next (may_go o need take room plan)

-- THE ANSWERS
module _ (o new : OnlineFacts) (bytes : List ℕ) (r : FileRec) (need : ℕ) (take : List ℕ) (room : ℕ) (need_is : need ≡ blocks_for r.len) (next : IsNext o bytes r) (plan : IsUnjamPlan need o take room) where
  blocks_are : need ≡ blocks_for (length bytes)
  blocks_are = need_is ∙ ap blocks_for next.len

  plan_is : IsUnjamPlan (blocks_for (length bytes)) o take room
  plan_is = subst (λ (n : ℕ). IsUnjamPlan n o take room) blocks_are plan

  roomy_is : need ≤ room → HasRoom (blocks_for (length bytes)) o take room
  roomy_is enough = record { plan = plan_is; enough = subst (λ (n : ℕ). n ≤ room) blocks_are enough }

  pub made_stopped : need ≤ room → IsApplied (PutFile r bytes take) o new (Err online.Stopped) → HasMade r bytes o new (Err Stopped)
  made_stopped enough applied = record {
    makes = record {
      take = take;
      room = room;
      roomy = roomy_is enough;
      stopped = applied.stopped refl;
      causes = Causes-for (λ no. no) (λ no. no) (λ one. tt) (λ one. refl) applied.causes;
    };
    tied = applied.tied;
    told = applied.told;
  }

pub made_starved : (o new : OnlineFacts) (bytes : List ℕ) (r : FileRec) → new ≡ o → IsTied new → HasMade r bytes o new (Err NoMemory)
made_starved o new bytes r same tied = record { makes = same; tied = tied; told = ap (λ (x : OnlineFacts). is_some x.disc.held) same }
