-- Append, for any answer: what the plain step grants, and that the call is answered as the whole store answers it.
-- serves: append (answers, kind)
use Rattle.std.proofs.Common.{◌≡◌, ◌≢◌, ℕ, ◌+◌, ◌<◌, ◌≤◌, ◌^◌, Bool, true, false, List, ◌∷◌, ◌++◌, length, Option, Some, None, Result, Ok, Err, is_some, refl, sym, ◌∙◌, ap, arith, inl, inr, subst}
use Rattle.std.specs.Prelude.{◌⊎◌, Contains, not}
use Rattle.std.specs.Option.{ForSome}
use Rattle.std.proofs.lemmas.List.{length-replicate}
use Rattle.g_name.specs.declared.full.Full.{Full}
use Rattle.g_name.specs.declared.path.Path.{Path}
use Rattle.g_entry.specs.declared.file_rec.FileRec.{FileRec}
use Rattle.g_entry.specs.declared.file_rec.TapeCopy.{TapeCopy}
use Rattle.g_entry.specs.declared.user_rec.UserRec.{UserRec}
use Rattle.g_tape.specs.Rack.{Rack, is_mounted, reel}
use Rattle.g_plain.specs.declared.calls.StoreCall.TheVariants.{Append}
use Rattle.g_plain.specs.declared.calls.StoreReply.TheVariants.{Appended}
use Rattle.g_plain.specs.declared.faults.StoreFault.{StoreFault}
use Rattle.g_plain.specs.declared.faults.StoreFault.TheVariants.{DiscFull, DiscReadFault, NoCopy, NoMemory, NoUser, Stopped, TapeReadFault, WaitTape}
use Rattle.g_plain.specs.PlainStep.{checks}
use Rattle.g_plain.specs.PlainTree.{FileRow, Tree, file_row, has_user, input_name}
use Rattle.g_tree.specs.AskedRecords.{zeros}
use Rattle.g_tree.specs.Records.{IsRecords, file_row_of, full_of, tree_of}
use Rattle.g_tree.proofs.NamedLemmas.{zeros_fit}
use Rattle.g_tree.proofs.RecordLemmas.{numbers_apart}
use Rattle.g_tree.proofs.RightLemmas.{row_is}
use Rattle.g_tree.proofs.RuleLemmas.{one_of_key}
use Rattle.g_disc_contents.specs.Contents.{File, recs_in}
use Rattle.g_disc_contents.specs.Facts.{IsTied, OnlineFacts}
use Rattle.g_store_meaning.specs.Answers.{Answers, IsStore}
use Rattle.g_store_meaning.specs.StoreInvariant.{StoreFacts}
use Rattle.g_laws_store.specs.Calls.{IsVersionOf}
use Rattle.g_laws_store.proofs.WaitingLemmas.{from_mapped, mapped_there}
use Rattle.g_online.specs.declared.change.Change.TheVariants.{PutFile}
use Rattle.g_migrate.proofs.MigrationLemmas.{rules_here}
use Rattle.g_retrieve.specs.Retrieval.{HasCopied}
use Rattle.g_store_calls.specs.Answering.{AnswersOver, KeepsPlan, with_devices}
use Rattle.g_store_calls.specs.Appending.{HasAppended, HasPutBehind, IsAtHand, IsOldText, version_of}
use Rattle.g_store_calls.specs.AppliedChange.{answer_with}
use Rattle.g_store_calls.specs.Kinds.{IsKind}
use Rattle.g_store_calls.specs.NewRecords.{IsFileAt}
use Rattle.g_store_calls.specs.Replies.{RefusesAs}
use Rattle.g_store_calls.proofs.AppendLemmas.{failed_answer, full_answer, lost_answer, starved, unread_answer, waits_answer}
use Rattle.g_store_calls.proofs.AppendedLemmas.{causes_over, changed_over, done_answers, stopped_answers, stopped_over}
use Rattle.g_store_calls.proofs.NextLemmas.{next_version}
use Rattle.g_store_calls.proofs.TellLemmas.{AreOff, granted_off, below_of, most_of}
use Rattle.g_store_calls.proofs.WantLemmas.{Wants}
use Rattle.g_disc.proofs.CallLemmas.{Causes-for}

-- WHAT THE PLAIN STEP GRANTS
module _ (users : List UserRec) (files : List FileRec) (next : ℕ) (who : List ℕ) (path : Path) (bytes : List ℕ) (is : IsRecords users files)
    (granted : RefusesAs users files next who (Append path bytes) None) where
  abbrev t : Tree
  t = tree_of users files zeros next

  off : AreOff ((not (has_user t who), NoUser) ∷ checks t who (Append path bytes))
  off = granted_off t who (Append path bytes) (granted zeros (zeros_fit files))

  pub append_early : next < 2 ^ 62
  append_early = below_of (2 ^ 62) next off.1.1.1.1.1.1.0

  pub append_short : (number : ℕ) (full : Full) → (at : IsFileAt users files who path number full) → at.rec.len + length bytes ≤ 65536
  append_short number full at =
      let row : file_row t (input_name t who path) ≡ file_row_of users zeros at.rec =
      ap (file_row t) (sym (at.name_is ∙ at.named zeros next)) ∙ row_is users files is zeros next at.rec at.there in
      let long : length (file_row t (input_name t who path)).bytes ≡ at.rec.len = ap (λ (w : FileRow). length w.bytes) row ∙ length-replicate at.rec.len 0 in
      let most = most_of 65536 (length (file_row t (input_name t who path)).bytes + length bytes) off.1.1.1.1.0 in
      omega (arith, long, most)

-- the file of the path, as the call needs it
pub append_wants : (o : OnlineFacts) (who : List ℕ) (path : Path) (bytes : List ℕ) (number : ℕ) (full : Full)
    → RefusesAs o.contents.users (recs_in o.contents) o.contents.head.next_stamp who (Append path bytes) None → (at : IsFileAt o.contents.users (recs_in o.contents) who path number full)
    → (f : File) → Contains o.contents.files f → f.rec ≡ at.rec → Wants o who (Append path bytes) f
append_wants o who path bytes number full granted at f there rec = record {
  there = there;
  granted = granted;
  reads = λ texts next. ap (λ (n : Full). let x : Option Full = Some n in x) (sym (ap (full_of o.contents.users) rec ∙ at.name_is ∙ at.named texts next));
}

-- for any answer
at_hand : (f : File) (text : List ℕ) (before after : Rack) → IsOldText f text before after → IsAtHand f before
at_hand f text before after read = by_place read.1
  where
    by_place : ((f.online ≡ true) × ForSome f.bytes (λ b. b ≡ text)) ⊎ ((f.online ≡ false) × (c : TapeCopy) × (f.rec.tape ≡ Some c) × HasCopied c f.rec.len text before after) → IsAtHand f before
    by_place (inl (online, same)) = inl online
    by_place (inr (offline, c, copy, copied)) = inr (c, record { offline = offline; copy = copy }, copied.mounted)

module _ (s : StoreFacts) (new : OnlineFacts) (after : Rack) (unspent : s.spent ≡ false) (store : IsStore s) (keeps : KeepsPlan s.dump) (who : List ℕ) (path : Path) (bytes : List ℕ) (f : File)
    (wants : Wants s.online who (Append path bytes) f) (early : s.online.contents.head.next_stamp < 2 ^ 62) (short : f.rec.len + length bytes ≤ 65536) where
  abbrev called : Full
  called = full_of s.online.contents.users f.rec

  version : IsVersionOf s.online called (version_of f.rec s.online.contents.head.next_stamp (f.rec.len + length bytes))
  version =
      next_version s.online (rules_here s.online (store.live unspent) store.tied) early (f.rec.len + length bytes) short f.rec
      (mapped_there (λ (g : File). g.rec) s.online.contents.files f wants.there) called refl

  pub by_answer : (result : Result (Unit {0}) StoreFault) → HasAppended called f bytes s.online new s.rack after result
      → Answers s who (Append path bytes) (answer_with (Appended called) result) (with_devices new after s)
  by_answer (Ok u) p =
      let put : HasPutBehind f bytes s.online new s.rack after (Ok u) = p in
      let done = changed_over (PutFile (version_of f.rec s.online.contents.head.next_stamp (f.rec.len + length bytes)) (put.text ++ bytes) put.take) s put.mid new after unspent store put.asked put.applied.ok in
      let causes = causes_over (PutFile (version_of f.rec s.online.contents.head.next_stamp (f.rec.len + length bytes)) (put.text ++ bytes) put.take) s put.mid new after unspent store put.asked (Causes-for (λ no. no) (λ no. no) (λ one. let no : ⊥ = cc in no) (λ no. absurd no) put.applied.causes) in
      subst (λ (b : Bool). Answers s who (Append path bytes) (Ok (Appended called)) (record s { online = new; rack = after; spent = b })) (sym (ap not done.live))
      (done_answers s new after unspent store keeps who path bytes f wants put.text put.read put.asked.only (put.asked.kept (λ no. no)) (at_hand f put.text s.rack after put.read) put.take put.room put.plan put.fits
      version put.applied.tied causes.size (put.applied.told ∙ ap is_some put.asked.disc.held) done causes)
  by_answer (Err Stopped) p =
      let put : HasPutBehind f bytes s.online new s.rack after (Err Stopped) = p in
      let stopped = stopped_over (PutFile (version_of f.rec s.online.contents.head.next_stamp (f.rec.len + length bytes)) (put.text ++ bytes) put.take) s put.mid new after unspent store put.asked (put.applied.stopped refl) in
      let causes = causes_over (PutFile (version_of f.rec s.online.contents.head.next_stamp (f.rec.len + length bytes)) (put.text ++ bytes) put.take) s put.mid new after unspent store put.asked (Causes-for (λ no. no) (λ no. no) (λ one. tt) (λ one. refl) put.applied.causes) in
      subst (λ (b : Bool). Answers s who (Append path bytes) (Err Stopped) (record s { online = new; rack = after; spent = b })) (sym (ap not stopped.live))
      (stopped_answers s new after unspent store keeps who path bytes f wants put.text put.read put.asked.only (put.asked.kept (λ no. no)) (at_hand f put.text s.rack after put.read) put.take put.room put.plan put.fits
      version (record { tied = put.applied.tied; size = causes.size; tells = put.applied.told ∙ ap is_some put.asked.disc.held; stopped = stopped; causes = causes }))
  by_answer (Err NoMemory) p = starved s unspent store keeps who path bytes f wants new after p
  by_answer (Err (WaitTape serial)) (asked, (c, away, same, isnt)) = waits_answer s unspent store keeps who path bytes f wants new after serial asked c away same isnt
  by_answer (Err TapeReadFault) (asked, (c, away, on)) = unread_answer s unspent store keeps who path bytes f wants new after asked c away on
  by_answer (Err (NoCopy name serial)) (asked, named, (c, away, same, nowhere)) = lost_answer s unspent store keeps who path bytes f wants new after name serial asked named c away same nowhere
  by_answer (Err (DiscFull wanted room)) (asked, hand, same, less, plan) = full_answer s unspent store keeps who path bytes f wants new after wanted room asked hand same less plan
  by_answer (Err DiscReadFault) (asked, online, filled, (room, fits, plan)) = failed_answer s unspent store keeps who path bytes f wants new after asked online filled room fits plan
  by_answer (Err fault) p = absurd p

abbrev HasEach : OnlineFacts → OnlineFacts → ℕ → List ℕ → Rack → Rack → Result (Unit {0}) StoreFault → Type 0
HasEach o new number bytes before after result =
    (f : File) → Contains o.contents.files f → f.rec.number ≡ number → HasAppended (full_of o.contents.users f.rec) f bytes o new before after result

pub append_answers : (o new : OnlineFacts) (before after : Rack) (who : List ℕ) (path : Path) (bytes : List ℕ) (number : ℕ) (full : Full) → o.live ≡ true → IsTied o
    → RefusesAs o.contents.users (recs_in o.contents) o.contents.head.next_stamp who (Append path bytes) None → IsFileAt o.contents.users (recs_in o.contents) who path number full
    → (result : Result (Unit {0}) StoreFault) → HasEach o new number bytes before after result → AnswersOver who (Append path bytes) o before (answer_with (Appended full) result) new after
append_answers o new before after who path bytes number full live tied granted at result has s at_o at_rack unspent store keeps =
    by_store (subst (λ (x : OnlineFacts). RefusesAs x.contents.users (recs_in x.contents) x.contents.head.next_stamp who (Append path bytes) None) (sym at_o) granted)
    (subst (λ (x : OnlineFacts). IsFileAt x.contents.users (recs_in x.contents) who path number full) (sym at_o) at)
    (subst (λ (r : Rack). HasEach s.online new number bytes r after result) (sym at_rack) (subst (λ (x : OnlineFacts). HasEach x new number bytes before after result) (sym at_o) has))
  where
    by_store : RefusesAs s.online.contents.users (recs_in s.online.contents) s.online.contents.head.next_stamp who (Append path bytes) None
        → IsFileAt s.online.contents.users (recs_in s.online.contents) who path number full → HasEach s.online new number bytes s.rack after result
        → Answers s who (Append path bytes) (answer_with (Appended full) result) (with_devices new after s)
    by_store free place each =
        let rules = (rules_here s.online (store.live unspent) store.tied).records in
        let (f, there, rec) = from_mapped (λ (g : File). g.rec) s.online.contents.files place.rec place.there in
        let numbered : f.rec.number ≡ number = ap (λ (r : FileRec). r.number) rec ∙ place.number_is in
        let named : full_of s.online.contents.users f.rec ≡ full = ap (full_of s.online.contents.users) rec ∙ place.name_is in
        let short = append_short s.online.contents.users (recs_in s.online.contents) s.online.contents.head.next_stamp who path bytes rules free number full place in
        subst (λ (n : Full). Answers s who (Append path bytes) (answer_with (Appended n) result) (with_devices new after s)) named
        (by_answer s new after unspent store keeps who path bytes f (append_wants s.online who path bytes number full free place f there rec)
        (append_early s.online.contents.users (recs_in s.online.contents) s.online.contents.head.next_stamp who path bytes rules free)
        (subst (λ (r : FileRec). r.len + length bytes ≤ 65536) (sym rec) short) result (each f there numbered))

-- ITS KIND: the bytes are few enough, and a call that waits, waits for a reel that isn't mounted
module _ (path : Path) (bytes : List ℕ) (full : Full) (before : Rack) (few : length bytes ≤ 65536) where
  settled : (fault : StoreFault) → ((serial : ℕ) → fault ≢ WaitTape serial) → IsKind (Append path bytes) before (Err fault)
  settled fault other = record {
    reply = tt;
    waits = λ serial is. absurd (other serial (let same : fault ≡ WaitTape serial = cc in same));
    may = λ serial is. refl;
  }

  kind_by : (name : Full) (f : File) (o new : OnlineFacts) (after : Rack) (result : Result (Unit {0}) StoreFault) → HasAppended name f bytes o new before after result
      → IsKind (Append path bytes) before (answer_with (Appended full) result)
  kind_by name f o new after (Ok u) p = record { reply = few; waits = λ serial is. absurd (let no : ⊥ = cc in no); may = λ serial is. refl }
  kind_by name f o new after (Err (WaitTape n)) (asked, (c, away, same, isnt)) = record {
    reply = tt;
    waits = λ serial is.
        let one : n ≡ serial = cc in
        subst (λ (m : ℕ). is_mounted (reel m before.reels) ≡ false) (sym same ∙ one) isnt;
    may = λ serial is. refl;
  }
  kind_by name f o new after (Err Stopped) p = settled Stopped (λ serial is. let no : ⊥ = cc in no)
  kind_by name f o new after (Err NoMemory) p = settled NoMemory (λ serial is. let no : ⊥ = cc in no)
  kind_by name f o new after (Err TapeReadFault) p = settled TapeReadFault (λ serial is. let no : ⊥ = cc in no)
  kind_by name f o new after (Err (NoCopy n serial)) p = settled (NoCopy n serial) (λ m is. let no : ⊥ = cc in no)
  kind_by name f o new after (Err (DiscFull wanted room)) p = settled (DiscFull wanted room) (λ serial is. let no : ⊥ = cc in no)
  kind_by name f o new after (Err DiscReadFault) p = settled DiscReadFault (λ serial is. let no : ⊥ = cc in no)
  kind_by name f o new after (Err fault) p = absurd p

pub append_kind : (o new : OnlineFacts) (before after : Rack) (who : List ℕ) (path : Path) (bytes : List ℕ) (number : ℕ) (full : Full) → o.live ≡ true → IsTied o
    → RefusesAs o.contents.users (recs_in o.contents) o.contents.head.next_stamp who (Append path bytes) None → IsFileAt o.contents.users (recs_in o.contents) who path number full
    → (result : Result (Unit {0}) StoreFault) → HasEach o new number bytes before after result → IsKind (Append path bytes) before (answer_with (Appended full) result)
append_kind o new before after who path bytes number full live tied granted at result each =
    let rules = (rules_here o live tied).records in
    let (f, there, rec) = from_mapped (λ (g : File). g.rec) o.contents.files at.rec at.there in
    let short = append_short o.contents.users (recs_in o.contents) o.contents.head.next_stamp who path bytes rules granted number full at in
    kind_by path bytes full before (omega (arith, short)) (full_of o.contents.users f.rec) f o new after result (each f there (ap (λ (r : FileRec). r.number) rec ∙ at.number_is))

-- what is required of the file, by its number
pub append_used : (o : OnlineFacts) (who : List ℕ) (path : Path) (number : ℕ) (full : Full) → IsFileAt o.contents.users (recs_in o.contents) who path number full
    → (f : File) × Contains o.contents.files f × (f.rec.number ≡ number)
append_used o who path number full at =
    let (f, there, rec) = from_mapped (λ (g : File). g.rec) o.contents.files at.rec at.there in
    (f, there, ap (λ (r : FileRec). r.number) rec ∙ at.number_is)

pub append_fits : (o : OnlineFacts) (who : List ℕ) (path : Path) (bytes : List ℕ) (number : ℕ) (full : Full) → o.live ≡ true → IsTied o
    → RefusesAs o.contents.users (recs_in o.contents) o.contents.head.next_stamp who (Append path bytes) None → IsFileAt o.contents.users (recs_in o.contents) who path number full
    → (f : File) → Contains o.contents.files f → f.rec.number ≡ number → f.rec.len + length bytes ≤ 65536
append_fits o who path bytes number full live tied granted at f there numbered =
    let rules = (rules_here o live tied).records in
    let same : f.rec ≡ at.rec =
    one_of_key (λ (r : FileRec). r.number) (recs_in o.contents) f.rec at.rec (numbers_apart o.contents.users (recs_in o.contents) rules) (mapped_there (λ (g : File). g.rec) o.contents.files f there) at.there
    (numbered ∙ sym at.number_is) in
    subst (λ (r : FileRec). r.len + length bytes ≤ 65536) (sym same)
    (append_short o.contents.users (recs_in o.contents) o.contents.head.next_stamp who path bytes rules granted number full at)

pub append_stamps : (o : OnlineFacts) (who : List ℕ) (path : Path) (bytes : List ℕ) → o.live ≡ true → IsTied o
    → RefusesAs o.contents.users (recs_in o.contents) o.contents.head.next_stamp who (Append path bytes) None → o.contents.head.next_stamp < 2 ^ 62
append_stamps o who path bytes live tied granted =
    append_early o.contents.users (recs_in o.contents) o.contents.head.next_stamp who path bytes (rules_here o live tied).records granted
