-- Put: what the path names for output, that the record is one of a new version, and that the call is answered as the whole store answers it.
-- serves: first_of, put (answers, kind), version_of (next, version)
use Rattle.std.proofs.Common.{◌≡◌, ℕ, ◌<◌, ◌≤◌, ◌+◌, ◌^◌, Bool, true, false, List, ◌∷◌, length, Option, Some, None, Result, Ok, Err, is_some, unwrap_or, refl, sym, ◌∙◌, ap, arith, subst}
use Rattle.std.specs.Prelude.{◌==◌, ◌&&◌, IfSome, is_none, nat_le, not}
use Rattle.std.specs.FinMap.{len}
use Rattle.std.proofs.lemmas.Bool.{eq-eqb, false≢true}
use Rattle.g_base.specs.Block.{blocks_for}
use Rattle.g_disc.proofs.CallLemmas.{Causes-for}
use Rattle.g_entry.specs.declared.file_rec.FileRec.{FileRec}
use Rattle.g_entry.specs.declared.user_rec.UserRec.{UserRec}
use Rattle.g_name.specs.declared.full.Full.{Full}
use Rattle.g_name.specs.declared.path.Path.{Path}
use Rattle.g_tape.specs.Rack.{Rack}
use Rattle.g_tape.proofs.ReadLemmas.{nothing_read}
use Rattle.g_plain.specs.declared.calls.StoreCall.TheVariants.{Put}
use Rattle.g_plain.specs.declared.calls.StoreReply.{StoreReply}
use Rattle.g_plain.specs.declared.calls.StoreReply.TheVariants.{Made}
use Rattle.g_plain.specs.declared.faults.StoreFault.{StoreFault}
use Rattle.g_plain.specs.declared.faults.StoreFault.TheVariants.{DiscFull, NoMemory, NoUser, Stopped}
use Rattle.g_plain.specs.PlainStep.{checks}
use Rattle.g_plain.specs.PlainTree.{Tree, has_file, has_user, named, newest, output_name}
use Rattle.g_tree.specs.AskedRecords.{zeros}
use Rattle.g_tree.specs.declared.asked.Granted.TheVariants.{Output}
use Rattle.g_tree.specs.Records.{ForTree, IsRecords, name_of_file, number_of, tree_of}
use Rattle.g_tree.proofs.NamedLemmas.{zeros_fit}
use Rattle.g_tree.proofs.RecordLemmas.{file_there, newest_few, newest_is}
use Rattle.g_tree.proofs.RuleLemmas.{count_files}
use Rattle.g_disc_contents.specs.Contents.{recs_in}
use Rattle.g_disc_contents.specs.Facts.{IsTied, OnlineFacts}
use Rattle.g_online.specs.declared.change.Change.TheVariants.{PutFile}
use Rattle.g_store_meaning.specs.Answers.{Answers, Belongs, From, IsAnswered, IsStore, Steps, Told}
use Rattle.g_store_meaning.specs.Meaning.{told_reels}
use Rattle.g_store_meaning.specs.Reading.{AllTold, IsView, View, StandsForState}
use Rattle.g_store_meaning.specs.StoreInvariant.{StoreFacts}
use Rattle.g_laws_store.specs.Calls.{IsVersionOf, version_made}
use Rattle.g_laws_store.specs.Rooms.{held_in}
use Rattle.g_migrate.specs.Invariant.{with_online}
use Rattle.g_migrate.proofs.MigrationLemmas.{rules_here}
use Rattle.g_store_calls.specs.Answering.{AnswersOver, KeepsPlan, with_devices}
use Rattle.g_store_calls.specs.AppliedChange.{answer_with}
use Rattle.g_store_calls.specs.GrantedCalls.{GrantsOne}
use Rattle.g_store_calls.specs.Kinds.{IsSettled}
use Rattle.g_store_calls.specs.Replies.{RefusesAs}
use Rattle.g_store_calls.specs.Versions.{HasMade, HasPut, HasRoom, HasStoppedPut, IsFull, IsNext}
use Rattle.g_store_calls.proofs.AheadLemmas.{Before, ahead_stands, before_of}
use Rattle.g_store_calls.proofs.CalmLemmas.{calmly, same_store, texts_fit}
use Rattle.g_store_calls.proofs.GrantedLemmas.{output_called, output_none, output_there}
use Rattle.g_store_calls.proofs.SurvivalLemmas.{IsStoppedAt, stays_durable, stop_survives}
use Rattle.g_store_calls.proofs.TellLemmas.{AreOff, granted_off, not_not, user_any, user_missing, below_of, most_of}
use Rattle.g_store_calls.proofs.VersionLemmas.{IsMet, belongs_done, belongs_stopped, leads_done, leads_full, leads_stopped, store_done}
use Rattle.g_store_model.specs.State.{State}

-- WHAT THE PLAIN STEP GRANTS
both_on : (a b : Bool) → not (a && b) ≡ true → a ≡ true → not b ≡ true
both_on true b off is = off
both_on false b off is = absurd (false≢true is)

next_one : (n : ℕ) → n ≤ 4095 → not (n == 4095) ≡ true → (1 ≤ n + 1) × (n + 1 ≤ 4095)
next_one n most not_last =
    let other : n ≡ 4095 → ⊥ = λ e. false≢true (sym (ap not (eq-eqb n 4095 e)) ∙ not_last) in
    (omega arith, omega (arith, most, other))

module _ (users : List UserRec) (files : List FileRec) (next : ℕ) (who : List ℕ) (path : Path) (bytes : List ℕ) (is : IsRecords users files)
    (granted : RefusesAs users files next who (Put path bytes) None) where
  abbrev t : Tree
  t = tree_of users files zeros next

  off : AreOff ((not (has_user t who), NoUser) ∷ checks t who (Put path bytes))
  off = granted_off t who (Put path bytes) (granted zeros (zeros_fit files))

  module _ (full : Full) (called : ForTree users files (λ t. full ≡ output_name t who path)) where
    abbrev out : Full
    out = output_name t who path

    pub put_owner : ForTree users files (λ t. has_user t full.user ≡ true)
    put_owner any then_ =
        user_any users files full.user any zeros then_ next ∙ ap (λ (f : Full). has_user t f.user) (called zeros next) ∙ not_not (has_user t out.user) off.1.0

    pub put_short : length bytes ≤ 65536
    put_short = most_of 65536 (length bytes) off.1.1.1.1.1.0

    pub put_early : next < 2 ^ 62
    put_early = below_of (2 ^ 62) next off.1.1.1.1.1.1.1.1.0

    no_file : number_of users files full ≡ None → not (has_file t out) ≡ true
    no_file none = ap not (ap (has_file t) (sym (called zeros next)) ∙ sym (file_there users files zeros next full) ∙ ap is_some none)

    pub put_few : number_of users files full ≡ None → length files < 1024
    put_few none =
        let few = below_of 1024 (len t.files) (both_on (not (has_file t out)) (nat_le 1024 (len t.files)) off.1.1.1.1.1.1.1.0 (no_file none)) in
        let count = count_files users files zeros next is in
        omega (arith, few, count)

    pub put_generation : (1 ≤ full.generation) × (full.generation ≤ 4095)
    put_generation = by_given path.generation refl path.in_range
      where
        most : newest t who path ≤ 4095
        most = subst (λ (n : ℕ). n ≤ 4095) (sym (newest_is users files zeros next who path is)) (newest_few users files (named who path 0) is)

        by_given : (g : Option ℕ) → path.generation ≡ g → IfSome g (λ n. (1 ≤ n) × (n ≤ 4095)) → (1 ≤ full.generation) × (full.generation ≤ 4095)
        by_given (Some n) given range =
            let it : full.generation ≡ n = ap (λ (f : Full). f.generation) (called zeros next) ∙ ap (λ (g : Option ℕ). unwrap_or g (newest t who path + 1)) given in
            subst (λ (m : ℕ). (1 ≤ m) × (m ≤ 4095)) (sym it) range
        by_given None given range =
            let it : full.generation ≡ newest t who path + 1 = ap (λ (f : Full). f.generation) (called zeros next) ∙ ap (λ (g : Option ℕ). unwrap_or g (newest t who path + 1)) given in
            let not_last : not (newest t who path == 4095) ≡ true = both_on (is_none path.generation) (newest t who path == 4095) off.1.1.0 (ap is_none given) in
            subst (λ (m : ℕ). (1 ≤ m) × (m ≤ 4095)) (sym it) (next_one (newest t who path) most not_last)

-- what is known of a call that is granted, for any caller and any path
pub record IsGrantedPut (o : OnlineFacts) (number : Option ℕ) (full : Full) (bytes : List ℕ) : Type 0 where
  pub there : (n : ℕ) → number ≡ Some n → name_of_file o.contents.users (recs_in o.contents) n ≡ Some full
  pub free : number ≡ None → number_of o.contents.users (recs_in o.contents) full ≡ None
  pub few : number ≡ None → length (recs_in o.contents) < 1024
  pub owner : ForTree o.contents.users (recs_in o.contents) (λ t. has_user t full.user ≡ true)
  pub generation : (1 ≤ full.generation) × (full.generation ≤ 4095)
  pub early : o.contents.head.next_stamp < 2 ^ 62
  pub short : length bytes ≤ 65536

pub put_granted : (o : OnlineFacts) → o.live ≡ true → IsTied o → (number : Option ℕ) (full : Full) (bytes : List ℕ) → (path : Path) × GrantsOne o (Output number full) (Put path bytes)
    → IsGrantedPut o number full bytes
put_granted o live tied number full bytes some =
    let (path, one) = some in
    let (who, granted) = one in
    let us = o.contents.users in
    let rs = recs_in o.contents in
    let next = o.contents.head.next_stamp in
    let is = (rules_here o live tied).records in
    let called = output_called o live tied who path bytes number full granted in
    let free = output_none o live tied who path bytes number full granted in record {
      there = output_there o live tied who path bytes number full granted;
      free = free;
      few = λ none. put_few us rs next who path bytes is granted.allowed full called (free none);
      owner = put_owner us rs next who path bytes is granted.allowed full called;
      generation = put_generation us rs next who path bytes is granted.allowed full called;
      early = put_early us rs next who path bytes is granted.allowed full called;
      short = put_short us rs next who path bytes is granted.allowed full called;
    }

-- WHAT IS KNOWN of the call and of the record of its version
pub record IsPut (o : OnlineFacts) (who : List ℕ) (path : Path) (bytes : List ℕ) (full : Full) (r : FileRec) : Type 0 where
  pub live : o.live ≡ true
  pub granted : RefusesAs o.contents.users (recs_in o.contents) o.contents.head.next_stamp who (Put path bytes) None
  pub called : ForTree o.contents.users (recs_in o.contents) (λ t. full ≡ output_name t who path)
  pub version : IsVersionOf o full r
  pub len : r.len ≡ length bytes

module _ (s : StoreFacts) (new : OnlineFacts) (who : List ℕ) (path : Path) (bytes : List ℕ) (full : Full) (r : FileRec) (is : IsPut s.online who path bytes full r)
    (unspent : s.spent ≡ false) (store : IsStore s) (keeps : KeepsPlan s.dump) where
  met : (v : View) → IsView s.online.disc.held (told_reels s.rack) s.online.contents v → IsMet v (told_reels s.rack) s.online s.dump who (Put path bytes) (blocks_for (length bytes))
  met v view = record {
    granted = sym (is.granted (λ q. v.text q.stamp) (texts_fit (AllTold s.online.disc.held (told_reels s.rack)) v s.online.contents view.files));
    needs = refl;
    waits = refl;
  }

  makes : (v : View) → version_made (held_in v s.online).tree who (Put path bytes) ≡ Some (full, bytes)
  makes v = ap (λ (f : Full). let x : Option (Full × List ℕ) = Some (f, bytes) in x) (sym (is.called (λ q. v.text q.stamp) s.online.contents.head.next_stamp))

  -- from the state that it meets
  from_before : (answer : Result StoreReply StoreFault) (t : StoreFacts) → (Told s → Belongs s) → (u : State) → StandsForState s u → ((b : Before s u) → Steps b.before s who (Put path bytes) answer t)
      → From u s who (Put path bytes) answer t
  from_before answer t belong u here steps =
      let b = before_of s u unspent store belong here in
      record { before = b.before; stands = ahead_stands s b.before unspent b.ahead; told = b.told; steps = steps b }

  -- stopped, with any disc that the failed write may have left
  stopped_is : (take : List ℕ) (room : ℕ) → HasRoom (blocks_for (length bytes)) s.online take room → (x : OnlineFacts) → IsStoppedAt (PutFile r bytes take) s.online x
      → IsAnswered s who (Put path bytes) (Err Stopped) (record s { online = x; spent = true })
  stopped_is take room roomy x at = record {
    step = λ belong u here.
        from_before (Err Stopped) (record s { online = x; spent = true }) belong u here (λ (b : Before s u).
        leads_stopped s x full bytes r take room unspent store keeps at.tied at.size at.tells is.version is.len roomy belong b.before b.ahead who (Put path bytes)
        (met b.ahead.view b.ahead.is) (makes b.ahead.view) refl at.stopped at.causes s.rack (nothing_read s.rack));
    belongs = λ all was. belongs_stopped s x full bytes r take room unspent store keeps at.tied at.size at.tells is.version is.len roomy at.stopped was;
  }

  module _ (tied : IsTied new) (tells : is_some new.disc.held ≡ is_some s.online.disc.held) where
    told_on : Told s → AllTold new.disc.held (told_reels s.rack)
    told_on all = record { disc = tells ∙ all.disc; each = all.each }

    done_answers : HasPut r bytes s.online new → Answers s who (Put path bytes) (Ok (Made full)) (record s { online = new; spent = false })
    done_answers p = record {
      step = λ belong u here.
          from_before (Ok (Made full)) (record s { online = new; spent = false }) belong u here (λ (b : Before s u).
          leads_done s new full bytes r p.take p.room unspent store keeps tied p.causes.size tells is.version is.len p.roomy belong b.before b.ahead who (Put path bytes)
          (met b.ahead.view b.ahead.is) (makes b.ahead.view) refl p.done s.rack (nothing_read s.rack) (Made full) (ap Made (is.called (λ q. b.ahead.view.text q.stamp) s.online.contents.head.next_stamp)) (λ off. absurd (false≢true off)));
      cause = record {
        disc = Causes-for (λ no. absurd no) (λ is_err. let no : ⊥ = cc in no) (λ no. absurd no) (λ is_err. let no : ⊥ = cc in no) p.causes;
        tapes = nothing_read s.rack;
        tape_read = λ is_err. absurd (let no : ⊥ = cc in no);
        tape_read_only = λ isnt. refl;
        writes = λ fault is_err other. absurd (let no : ⊥ = cc in no);
      };
      keeps = store_done s new full bytes r p.take p.room unspent store keeps tied p.causes.size tells is.version is.len p.roomy p.done;
      told = told_on;
      belongs = λ all was. belongs_done s new full bytes r p.take p.room unspent store keeps tied p.causes.size tells is.version is.len p.roomy p.done was;
      lost = λ name serial is_err. absurd (let no : ⊥ = cc in no);
      no_copy = λ all was name serial is_err. let no : ⊥ = cc in no;
      dump = λ isnt. refl;
      spent = (λ then_. absurd (false≢true then_), λ is_err. absurd (let no : ⊥ = cc in no));
      survives = stays_durable (IsAnswered s who (Put path bytes) (Ok (Made full))) s (record s { online = new; spent = false }) refl p.done.durable;
    }

    stopped_answers : HasStoppedPut r bytes s.online new → Answers s who (Put path bytes) (Err Stopped) (record s { online = new; spent = true })
    stopped_answers p =
        let at : IsStoppedAt (PutFile r bytes p.take) s.online new = record { tied = tied; size = p.causes.size; tells = tells; stopped = p.stopped; causes = p.causes } in
        let is_now = stopped_is p.take p.room p.roomy new at in record {
          step = is_now.step;
          cause = record {
            disc = Causes-for (λ no. absurd no) (λ is_err. let no : ⊥ = cc in no) (λ one. refl) (λ is_err. tt) p.causes;
            tapes = nothing_read s.rack;
            tape_read = λ is_err. absurd (let no : ⊥ = cc in no);
            tape_read_only = λ isnt. refl;
            writes = λ fault is_err other. absurd (other (let same : fault ≡ Stopped = cc in same));
          };
          keeps = record { tied = tied; live = λ no. absurd (false≢true (sym no)); open_dump = λ no. absurd (false≢true (sym no)); pins = λ no none. absurd (false≢true (sym no)) };
          told = told_on;
          belongs = is_now.belongs;
          lost = λ name serial is_err. absurd (let no : ⊥ = cc in no);
          no_copy = λ all was name serial is_err. let no : ⊥ = cc in no;
          dump = λ isnt. absurd (isnt refl);
          spent = (λ then_. refl, λ is_err. refl);
          survives = stop_survives (IsAnswered s who (Put path bytes) (Err Stopped)) (PutFile r bytes p.take) s (record s { online = new; spent = true }) refl at
              (stopped_is p.take p.room p.roomy);
        }

    -- nothing has changed
    same_answers : (fault : StoreFault) → new ≡ s.online → Answers s who (Put path bytes) (Err fault) s → Answers s who (Put path bytes) (Err fault) (with_online new s)
    same_answers fault same was =
        subst (λ (x : OnlineFacts). Answers s who (Put path bytes) (Err fault) (with_online x s)) (sym same)
        (subst (λ (t : StoreFacts). Answers s who (Put path bytes) (Err fault) t) (same_store s s.online refl unspent is.live) was)

    full_answers : (need room : ℕ) → IsFull bytes s.online new need room → Answers s who (Put path bytes) (Err (DiscFull need room)) (with_online new s)
    full_answers need room p =
        subst (λ (n : ℕ). Answers s who (Put path bytes) (Err (DiscFull n room)) (with_online new s)) (sym p.need_is)
        (same_answers (DiscFull (blocks_for (length bytes)) room) p.same
        (calmly s who (Put path bytes) (Err (DiscFull (blocks_for (length bytes)) room)) unspent store tt
        (λ u here. leads_full s unspent store keeps who (Put path bytes) (blocks_for (length bytes)) p.take room p.plan p.short met u here)))

  made_answers : (result : Result (Unit {0}) StoreFault) → HasMade r bytes s.online new result → Answers s who (Put path bytes) (answer_with (Made full) result) (with_online new s)
  made_answers (Ok u) m =
      subst (λ (b : Bool). Answers s who (Put path bytes) (Ok (Made full)) (record s { online = new; spent = not b })) (sym m.makes.done.live) (done_answers m.tied m.told m.makes)
  made_answers (Err Stopped) m =
      subst (λ (b : Bool). Answers s who (Put path bytes) (Err Stopped) (record s { online = new; spent = not b })) (sym m.makes.stopped.live) (stopped_answers m.tied m.told m.makes)
  made_answers (Err (DiscFull need room)) m = full_answers m.tied m.told need room m.makes
  made_answers (Err NoMemory) m = same_answers m.tied m.told NoMemory m.makes (calmly s who (Put path bytes) (Err NoMemory) unspent store tt (λ u here. here))
  made_answers (Err fault) m = absurd m.makes

-- for any answer of the filestore
pub put_answers : (o new : OnlineFacts) (who : List ℕ) (path : Path) (bytes : List ℕ) (full : Full) (r : FileRec) → IsPut o who path bytes full r
    → (result : Result (Unit {0}) StoreFault) → HasMade r bytes o new result → (rack : Rack) → AnswersOver who (Put path bytes) o rack (answer_with (Made full) result) new rack
put_answers o new who path bytes full r is result made rack s at on unspent store keeps =
    subst (λ (k : Rack). Answers s who (Put path bytes) (answer_with (Made full) result) (with_devices new k s)) on
    (made_answers s new who path bytes full r (subst (λ (x : OnlineFacts). IsPut x who path bytes full r) (sym at) is) unspent store keeps result
    (subst (λ (x : OnlineFacts). HasMade r bytes x new result) (sym at) made))

-- OF ITS KIND: a full name, and no wait
pub settled_made : (path : Path) (bytes : List ℕ) (full : Full) (r : FileRec) (old new : OnlineFacts) → length bytes ≤ 65536 → (result : Result (Unit {0}) StoreFault) → HasMade r bytes old new result
    → IsSettled (Put path bytes) (answer_with (Made full) result)
settled_made path bytes full r old new short (Ok u) made = record { reply = short; no_wait = λ serial same. let no : ⊥ = cc in no }
settled_made path bytes full r old new short (Err Stopped) made = record { reply = tt; no_wait = λ serial same. let no : ⊥ = cc in no }
settled_made path bytes full r old new short (Err (DiscFull need room)) made = record { reply = tt; no_wait = λ serial same. let no : ⊥ = cc in no }
settled_made path bytes full r old new short (Err NoMemory) made = record { reply = tt; no_wait = λ serial same. let no : ⊥ = cc in no }
settled_made path bytes full r old new short (Err fault) made = absurd made.makes

-- the owner of a new file is there
pub owner_missing : (o : OnlineFacts) (us : List UserRec) (fs : List FileRec) (found : Option ℕ) (user : List ℕ) → us ≡ o.contents.users → fs ≡ recs_in o.contents
    → ForTree us fs (λ t. is_some found ≡ has_user t user) → ForTree o.contents.users (recs_in o.contents) (λ t. has_user t user ≡ true) → found ≡ None → ⊥
owner_missing o us fs found user users files there owner none =
    user_missing us fs found user there
    (subst (λ (x : List UserRec). ForTree x fs (λ t. has_user t user ≡ true)) (sym users) (subst (λ (rs : List FileRec). ForTree o.contents.users rs (λ t. has_user t user ≡ true)) (sym files) owner)) none

pub put_known : (o : OnlineFacts) (who : List ℕ) (path : Path) (bytes : List ℕ) (full : Full) (r : FileRec) → o.live ≡ true
    → RefusesAs o.contents.users (recs_in o.contents) o.contents.head.next_stamp who (Put path bytes) None → ForTree o.contents.users (recs_in o.contents) (λ t. full ≡ output_name t who path)
    → IsVersionOf o full r → IsNext o bytes r → IsPut o who path bytes full r
put_known o who path bytes full r live granted called version next = record { live = live; granted = granted; called = called; version = version; len = next.len }
