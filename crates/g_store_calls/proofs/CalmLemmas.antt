-- An answer that changes nothing, for any store that the filestore belongs to.
-- serves: answer (answers, kind), list (answers), BackLemmas, FetchLemmas, HereLemmas, PutLemmas, RecordLemmas, TellLemmas, VersionLemmas, WantLemmas
use Rattle.std.proofs.Common.{◌≡◌, ℕ, Bool, true, false, List, [], ◌∷◌, length, Option, Some, None, Result, Ok, Err, refl, sym, ◌∙◌, ap, arith, inl, subst, All}
use Rattle.std.specs.Prelude.{◌&&◌, not, if◌then◌else◌, OnOk, is_some, unwrap_or}
use Rattle.std.proofs.lemmas.Bool.{false≢true}
use Rattle.std.proofs.lemmas.List.Elements.{All-contains, All-map, All-weaker}
use Rattle.g_disc.proofs.CallLemmas.{Causes-none}
use Rattle.g_entry.specs.declared.file_rec.FileRec.{FileRec}
use Rattle.g_tape.proofs.ReadLemmas.{nothing_read}
use Rattle.g_plain.specs.declared.calls.StoreCall.{StoreCall}
use Rattle.g_plain.specs.declared.calls.StoreCall.TheVariants.{NewUser, Budget, Put, Append, Fetch, Erase, Rename, List as ListFiles, TrapGo, TrapStop, TrapCheck, Retrieve}
use Rattle.g_plain.specs.declared.calls.StoreReply.{StoreReply}
use Rattle.g_plain.specs.declared.faults.StoreFault.{StoreFault}
use Rattle.g_plain.specs.declared.faults.StoreFault.TheVariants.{DiscReadFault, NoCopy, NoMemory, NoUser, Stopped, TapeReadFault, WaitTape}
use Rattle.g_plain.specs.PlainStep.{Checks, checks, fault_of, first_fault, reply_to}
use Rattle.g_plain.specs.PlainTree.{Tree, has_user}
use Rattle.g_tree.specs.AskedRecords.{zeros}
use Rattle.g_tree.specs.Records.{HasLengths, tree_of}
use Rattle.g_tree.proofs.NamedLemmas.{zeros_fit}
use Rattle.g_disc_contents.specs.Contents.{Contents, File, recs_in}
use Rattle.g_disc_contents.specs.Facts.{OnlineFacts}
use Rattle.g_store_model.specs.State.{Holding, State, is_mounted}
use Rattle.g_store_model.specs.CallStep.{CallStep, Plain, IsUnjam, after_call, is_offline, need, reel_of, writes}
use Rattle.g_store_meaning.specs.Answers.{Answers, Did, IsAnswered, IsStore, Leads, Steps}
use Rattle.g_store_meaning.specs.Meaning.{told_reels}
use Rattle.g_store_meaning.specs.Reading.{AllTold, HasText, IsView, StandsForState, View, state_up}
use Rattle.g_store_meaning.specs.StoreInvariant.{StoreFacts}
use Rattle.g_laws_store.specs.Rooms.{held_in}
use Rattle.g_migrate.specs.Invariant.{with_online}
use Rattle.g_store_calls.specs.Answering.{AnswersIn}
use Rattle.g_store_calls.specs.Replies.{RefusesAs}
use Rattle.g_store_calls.proofs.SeenLemmas.{seen}
use Rattle.g_store_calls.proofs.StepLemmas.{here_early, no_late, none_lacks, step_early, step_made}
use Rattle.g_store_calls.proofs.SurvivalLemmas.{stays_durable}

-- THE FAULTS OF THE PLAIN STEP concern neither devices nor memory
abbrev pub IsPlain : StoreFault → Type 0
IsPlain NoMemory = ⊥
IsPlain Stopped = ⊥
IsPlain DiscReadFault = ⊥
IsPlain TapeReadFault = ⊥
IsPlain (NoCopy full serial) = ⊥
IsPlain fault = Unit {0}

abbrev AreFaults : Checks → Type 0
AreFaults [] = Unit {0}
AreFaults (c ∷ cs) = IsPlain c.1 × AreFaults cs

same_Some : (x y : StoreFault) → Some x ≡ Some y → x ≡ y
same_Some x y is = cc

no_Some : (x : StoreFault) → ◌≡◌ {A = Option StoreFault} None (Some x) → ⊥
no_Some x is = cc

by_first : (b : Bool) (x fault : StoreFault) (rest : Option StoreFault) → IsPlain x → (rest ≡ Some fault → IsPlain fault) → (if b then Some x else rest) ≡ Some fault → IsPlain fault
by_first true x fault rest is others e = subst IsPlain (same_Some x fault e) is
by_first false x fault rest is others e = others e

first_is : (cs : Checks) (fault : StoreFault) → AreFaults cs → first_fault cs ≡ Some fault → IsPlain fault
first_is [] fault are is = absurd (no_Some fault is)
first_is (c ∷ cs) fault are is = by_first c.0 c.1 fault (first_fault cs) are.0 (first_is cs fault are.1) is

checks_are : (t : Tree) (who : List ℕ) (call : StoreCall) → AreFaults (checks t who call)
checks_are t who (NewUser user space time money) = (tt, (tt, tt))
checks_are t who (Budget user kind amount) = (tt, (tt, tt))
checks_are t who (ListFiles user) = (tt, (tt, tt))
checks_are t who (Put path bytes) = (tt, (tt, (tt, (tt, (tt, (tt, (tt, (tt, tt))))))))
checks_are t who (Append path bytes) = (tt, (tt, (tt, (tt, (tt, (tt, tt))))))
checks_are t who (Fetch path m) = (tt, (tt, (tt, tt)))
checks_are t who (Retrieve path) = (tt, (tt, (tt, tt)))
checks_are t who (Erase path) = (tt, (tt, (tt, tt)))
checks_are t who (Rename path to) = (tt, (tt, (tt, (tt, tt))))
checks_are t who (TrapGo path user modes) = (tt, (tt, (tt, (tt, (tt, tt)))))
checks_are t who (TrapStop path user modes) = (tt, (tt, (tt, (tt, tt))))
checks_are t who (TrapCheck path user) = (tt, (tt, (tt, (tt, tt))))

pub plain_fault : (t : Tree) (who : List ℕ) (call : StoreCall) (fault : StoreFault) → fault_of t who call ≡ Some fault → IsPlain fault
plain_fault t who call fault is = first_is ((not (has_user t who), NoUser) ∷ checks t who call) fault (tt, checks_are t who call) is

-- A STORE THAT DOESN'T MOVE
abbrev pub IsCalm : Result StoreReply StoreFault → Type 0
IsCalm (Err DiscReadFault) = ⊥
IsCalm (Err Stopped) = ⊥
IsCalm (Err TapeReadFault) = ⊥
IsCalm (Err (NoCopy full serial)) = ⊥
IsCalm answer = Unit {0}

plain_calm : (fault : StoreFault) → IsPlain fault → IsCalm (Err fault)
plain_calm NoMemory is = tt
plain_calm Stopped is = absurd is
plain_calm DiscReadFault is = absurd is
plain_calm TapeReadFault is = absurd is
plain_calm (NoCopy full serial) is = absurd is
plain_calm fault is = tt

module _ (s : StoreFacts) (who : List ℕ) (call : StoreCall) (answer : Result StoreReply StoreFault) (unspent : s.spent ≡ false) (store : IsStore s) (calm : IsCalm answer) where
  other : (fault : StoreFault) → (IsCalm (Err fault) → ⊥) → answer ≡ Err fault → ⊥
  other fault never is = never (subst IsCalm is calm)

  pub calmly : ((u : State) → StandsForState s u → Steps u s who call answer s) → Answers s who call answer s
  calmly steps = record {
    step = λ belong u here. record { before = u; stands = here; told = λ t. refl; steps = steps u here };
    cause = record {
      disc = Causes-none s.online.disc (other DiscReadFault (λ n. n)) (other Stopped (λ n. n));
      tapes = nothing_read s.rack;
      tape_read = λ is. absurd (other TapeReadFault (λ n. n) is);
      tape_read_only = λ isnt. refl;
      writes = λ fault is isnt. refl;
    };
    keeps = store;
    told = λ t. t;
    belongs = λ t b. b;
    lost = λ full serial is. absurd (other (NoCopy full serial) (λ n. n) is);
    no_copy = λ t b full serial is. other (NoCopy full serial) (λ n. n) is;
    dump = λ isnt. refl;
    spent = (λ is. absurd (false≢true (sym unspent ∙ is)), λ is. absurd (other Stopped (λ n. n) is));
    survives = stays_durable (IsAnswered s who call answer) s s unspent (λ durable. durable);
  }

-- the same store, with its own filestore
pub same_store : (s : StoreFacts) (o : OnlineFacts) → s.online ≡ o → s.spent ≡ false → o.live ≡ true → s ≡ with_online o s
same_store s o at unspent live = λ i. let t : StoreFacts = record s { online = at i; spent = (unspent ∙ sym (ap not live)) i } in t

-- THE TEXTS OF A VIEW have the lengths of the records
abbrev IsLong : View → FileRec → Type 0
IsLong v q = length (v.text q.stamp) ≡ q.len

pub texts_fit : (told : Type 0) (v : View) (c : Contents) → All (λ f. HasText told (v.text f.rec.stamp) v.dumps f) c.files → HasLengths (recs_in c) (λ r. v.text r.stamp)
texts_fit told v c are r there =
    All-contains (IsLong v) (recs_in c) r
    (All-map (IsLong v) (λ (f : File). f.rec) c.files
    (All-weaker (λ (f : File). HasText told (v.text f.rec.stamp) v.dumps f) (λ f. IsLong v f.rec) (λ f has. has.len) c.files are)) there

-- THE STEP at a view of the store
module _ (s : StoreFacts) (who : List ℕ) (call : StoreCall) (unspent : s.spent ≡ false) where
  abbrev here_by : View → State
  here_by v = state_up v (told_reels s.rack) s.online s.dump

  abbrev held_by : View → Holding
  held_by v = held_in v s.online

  pub leads_same : (answer : Result StoreReply StoreFault) (u : State) → StandsForState s u
      → ((v : View) → IsView s.online.disc.held (told_reels s.rack) s.online.contents v → CallStep (here_by v) (held_by v) who call Plain answer (here_by v))
      → ((v : View) → OnOk answer (Did (here_by v) (held_by v) who call s s)) → Leads u s s who call answer
  leads_same answer u here step did =
      let is = seen s u unspent here in record {
        after = u;
        left = here;
        held = held_by is.view;
        holds = ap (λ (t : State). t.holding) is.state_is;
        outcome = Plain;
        raised = tt;
        step = subst (λ (t : State). CallStep t (held_by is.view) who call Plain answer t) (sym is.state_is) (step is.view is.is);
        did = subst (λ (t : State). OnOk answer (Did t (held_by is.view) who call s s)) (sym is.state_is) (did is.view);
      }

-- a refusal of the plain step
first_some : (f : Option StoreFault) (fault : StoreFault) (rest : Checks) → f ≡ Some fault → first_fault ((is_some f, unwrap_or f Stopped) ∷ rest) ≡ Some fault
first_some f fault rest is = ap (λ (g : Option StoreFault). first_fault ((is_some g, unwrap_or g Stopped) ∷ rest)) is

step_refused : (u : State) (k : Holding) (who : List ℕ) (call : StoreCall) (fault : StoreFault) → fault_of k.tree who call ≡ Some fault → CallStep u k who call Plain (Err fault) u
step_refused u k who call fault is =
    step_early u k who call Plain fault
    (first_some (fault_of k.tree who call) fault
    ((is_offline u k who call && not (is_mounted u (reel_of u k who call)), WaitTape (reel_of u k who call)) ∷ (false, TapeReadFault) ∷ []) is)

steps_by : (u : State) (s t : StoreFacts) (who : List ℕ) (call : StoreCall) (fault : StoreFault) → IsPlain fault → Leads u s t who call (Err fault) → Steps u s who call (Err fault) t
steps_by u s t who call NoMemory is leads = absurd is
steps_by u s t who call Stopped is leads = absurd is
steps_by u s t who call (NoCopy full serial) is leads = absurd is
steps_by u s t who call fault is leads = leads

-- a reply of a call that doesn't write
module _ (u : State) (k : Holding) (who : List ℕ) (call : StoreCall) (off : is_offline u k who call ≡ false) (none : need u k who call ≡ 0) where
  pub nothing_unjammed : IsUnjam u k who call 0
  nothing_unjammed = record { enough = inl (omega (arith, none)); least = λ lower less. let no : ⊥ = omega (arith, less) in absurd no }

  pub step_done : (reply : StoreReply) (new : State) → fault_of k.tree who call ≡ None → reply ≡ reply_to k.tree who call → new ≡ after_call u k who call 0 → CallStep u k who call Plain (Ok reply) new
  step_done reply new granted replied after =
      step_made u k who call Plain reply 0 new (here_early u k who call Plain granted off refl) nothing_unjammed (no_late u k who call Plain 0 (none_lacks u k who call Plain none) refl refl) replied after

-- THE ANSWERS that change nothing
module _ (o : OnlineFacts) (who : List ℕ) (call : StoreCall) (live : o.live ≡ true) where
  pub still : (answer : Result StoreReply StoreFault) → IsCalm answer
      → ((s : StoreFacts) → s.online ≡ o → s.spent ≡ false → IsStore s → (u : State) → StandsForState s u → Steps u s who call answer s) → AnswersIn who call o answer o
  still answer calm steps s at unspent store =
      subst (λ (t : StoreFacts). Answers s who call answer t) (same_store s o at unspent live) (calmly s who call answer unspent store calm (steps s at unspent store))

  pub starved : AnswersIn who call o (Err NoMemory) o
  starved = still (Err NoMemory) tt (λ s at unspent store u here. here)

  pub refused : (fault : StoreFault) → RefusesAs o.contents.users (recs_in o.contents) o.contents.head.next_stamp who call (Some fault) → AnswersIn who call o (Err fault) o
  refused fault refuses = still (Err fault) (plain_calm fault plain) steps
    where
      plain : IsPlain fault
      plain = plain_fault (tree_of o.contents.users (recs_in o.contents) zeros o.contents.head.next_stamp) who call fault
          (sym (refuses zeros (zeros_fit (recs_in o.contents))))

      steps : (s : StoreFacts) → s.online ≡ o → s.spent ≡ false → IsStore s → (u : State) → StandsForState s u → Steps u s who call (Err fault) s
      steps s at unspent store u here =
          steps_by u s s who call fault plain
          (leads_same s who call unspent (Err fault) u here
          (λ v view. step_refused (state_up v (told_reels s.rack) s.online s.dump) (held_in v s.online) who call fault
          (sym (subst (λ (x : OnlineFacts). RefusesAs x.contents.users (recs_in x.contents) x.contents.head.next_stamp who call (Some fault)) (sym at) refuses
          (λ r. v.text r.stamp) (texts_fit (AllTold s.online.disc.held (told_reels s.rack)) v s.online.contents view.files))))
          (λ v. tt))
