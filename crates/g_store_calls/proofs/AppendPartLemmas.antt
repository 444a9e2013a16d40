-- How an append is answered, from the answers of the tape, the plan, the disc and the change, in this order.
-- serves: append_to, put_behind, AppendCodeLemmas
use Rattle.std.proofs.Common.{◌≡◌, ◌≢◌, ℕ, ◌+◌, ◌<◌, ◌≤◌, ◌^◌, Bool, true, false, List, ◌++◌, length, length-append, Result, Ok, Err, refl, sym, ◌∙◌, ap, inl, inr, subst}
use Rattle.std.specs.Prelude.{◌⊎◌, Contains}
use Rattle.std.proofs.lemmas.Bool.{cases_Bool}
use Rattle.g_base.specs.Block.{blocks_for}
use Rattle.g_disc.specs.Disc.{ReadsByCause}
use Rattle.g_disc.proofs.CallLemmas.{ReadsByCause-none}
use Rattle.g_name.specs.declared.full.Full.{Full}
use Rattle.g_entry.specs.declared.file_rec.FileRec.{FileRec}
use Rattle.g_entry.specs.declared.file_rec.TapeCopy.{TapeCopy}
use Rattle.g_tape.specs.Rack.{Rack, is_mounted, reel}
use Rattle.g_tape.proofs.ReadLemmas.{nothing_read}
use Rattle.g_plain.specs.declared.faults.StoreFault.{StoreFault}
use Rattle.g_plain.specs.declared.faults.StoreFault.TheVariants.{DiscFull, DiscReadFault, NoCopy, NoMemory, Stopped, TapeReadFault, WaitTape}
use Rattle.g_tree.specs.Records.{full_of, name_of_file}
use Rattle.g_disc_contents.specs.Contents.{File, recs_in}
use Rattle.g_disc_contents.specs.Facts.{IsTied, OnlineFacts}
use Rattle.g_online.specs.declared.change.Change.TheVariants.{PutFile}
use Rattle.g_online.specs.declared.unjam.Unjam.{Unjam}
use Rattle.g_online.specs.AllowedChanges.{IsAllowed}
use Rattle.g_migrate.proofs.MigrationLemmas.{rules_here}
use Rattle.g_laws_store.specs.UnjamPlan.{IsUnjamPlan}
use Rattle.g_laws_store.proofs.WaitingLemmas.{mapped_there}
use Rattle.g_retrieve.specs.Retrieval.{HasCopied, HasReadCopy, IsOnTape, IsTapeRefusal, ReadsTapes}
use Rattle.g_retrieve.proofs.BackLemmas.{named}
use Rattle.g_store_calls.specs.Appending.{HasAppended, HasPutBehind, IsAtHand, IsAway, IsOldText, version_of}
use Rattle.g_store_calls.specs.AppliedChange.{HasApplied}
use Rattle.g_store_calls.specs.Asking.{HasAsked, HasPlanned}
use Rattle.g_store_calls.specs.Versions.{IsNext}
use Rattle.g_store_calls.proofs.MakeLemmas.{put_allowed}
use Rattle.g_store_calls.proofs.NextLemmas.{next_version}
use Rattle.g_store_calls.proofs.QuietLemmas.{asked_for}

-- no device was used, or only the tapes were read
pub tapes_asked : {A : Type 0} (o : OnlineFacts) (before after : Rack) (result : Result A StoreFault) → IsTied o → ReadsTapes before after result → HasAsked ⊥ (result ≡ Err TapeReadFault) o o before after
tapes_asked o before after result tied reads = record {
  disc = ReadsByCause-none o.disc (λ no. no);
  same = refl;
  tied = tied;
  only = reads.only;
  kept = reads.kept;
  rose = reads.rose;
}

pub nothing_asked : (o : OnlineFacts) (rack : Rack) → IsTied o → HasAsked ⊥ ⊥ o o rack rack
nothing_asked o rack tied = record {
  disc = ReadsByCause-none o.disc (λ no. no);
  same = refl;
  tied = tied;
  only = nothing_read rack;
  kept = λ no. refl;
  rose = λ no. absurd no;
}

-- only the disc was read
pub disc_asked : (cause : Type 0) (o new : OnlineFacts) (rack : Rack) → ReadsByCause cause o.disc new.disc → new ≡ record o { disc = new.disc } → IsTied new → HasAsked cause ⊥ o new rack rack
disc_asked cause o new rack reads same tied = record { disc = reads; same = same; tied = tied; only = nothing_read rack; kept = λ no. refl; rose = λ no. absurd no }

-- no read has failed if the answer isn't a read fault
pub asked_none : {P Q : Type 0} (old new : OnlineFacts) (before after : Rack) → (P → ⊥) → (Q → ⊥) → HasAsked P Q old new before after → HasAsked ⊥ ⊥ old new before after
asked_none old new before after no_disc no_tape asked = asked_for no_disc (λ no. absurd no) no_tape (λ no. absurd no) asked

module _ (f : File) (bytes : List ℕ) (o : OnlineFacts) where
  -- A PLAN THAT ISN'T THERE
  pub unplanned : (before after : Rack) (fault : StoreFault) → HasAsked ⊥ ⊥ o o before after → IsAtHand f before → (let r : Result Unjam StoreFault = Err fault in HasPlanned (blocks_for (f.rec.len + length bytes)) o r)
      → HasAppended (full_of o.contents.users f.rec) f bytes o o before after (Err fault)
  unplanned before after (DiscFull wants room) asked hand (same, less, reached) = (asked, hand, same, subst (λ (n : ℕ). room < n) (sym same) less, reached)
  unplanned before after NoMemory asked hand p = asked
  unplanned before after fault asked hand p = absurd p

  -- A READ OF THE DISC that failed
  pub undisclosed : (new : OnlineFacts) (rack : Rack) (plan : Unjam) → HasAsked (Unit {0}) ⊥ o new rack rack → f.online ≡ true → 0 < f.rec.len
      → IsUnjamPlan (blocks_for (f.rec.len + length bytes)) o plan.take plan.room × (blocks_for (f.rec.len + length bytes) ≤ plan.room)
      → HasAppended (full_of o.contents.users f.rec) f bytes o new rack rack (Err DiscReadFault)
  undisclosed new rack plan asked online filled (is, fits) = (asked, online, filled, (plan.room, fits, (plan.take, is)))

  -- the change, for any answer
  module _ (mid new : OnlineFacts) (before after : Rack) (asked : HasAsked ⊥ ⊥ o mid before after) (text : List ℕ) (read : IsOldText f text before after) (plan : Unjam)
      (planned : IsUnjamPlan (blocks_for (f.rec.len + length bytes)) o plan.take plan.room) (fits : blocks_for (f.rec.len + length bytes) ≤ plan.room) where
    pub then_put : (result : Result (Unit {0}) StoreFault)
        → HasApplied (PutFile (version_of f.rec mid.contents.head.next_stamp (f.rec.len + length bytes)) (text ++ bytes) plan.take) mid new result
        → HasAppended (full_of o.contents.users f.rec) f bytes o new before after result
    then_put result applied =
        by_answer result
        (subst (λ (n : ℕ). HasApplied (PutFile (version_of f.rec n (f.rec.len + length bytes)) (text ++ bytes) plan.take) mid new result)
        (ap (λ (x : OnlineFacts). x.contents.head.next_stamp) asked.same) applied)
      where
        put_by : (r : Result (Unit {0}) StoreFault)
            → HasApplied (PutFile (version_of f.rec o.contents.head.next_stamp (f.rec.len + length bytes)) (text ++ bytes) plan.take) mid new r → HasPutBehind f bytes o new before after r
        put_by r is = record { mid = mid; asked = asked; text = text; read = read; take = plan.take; room = plan.room; plan = planned; fits = fits; applied = is }

        by_fault : (fault : StoreFault) → (fault ≡ Stopped) ⊎ (fault ≡ NoMemory)
            → (let r : Result (Unit {0}) StoreFault = Err fault in HasApplied (PutFile (version_of f.rec o.contents.head.next_stamp (f.rec.len + length bytes)) (text ++ bytes) plan.take) mid new r)
            → HasAppended (full_of o.contents.users f.rec) f bytes o new before after (Err fault)
        by_fault fault (inl same) =
            subst (λ (e : StoreFault). (let r : Result (Unit {0}) StoreFault = Err e in HasApplied (PutFile (version_of f.rec o.contents.head.next_stamp (f.rec.len + length bytes)) (text ++ bytes) plan.take) mid new r)
            → HasAppended (full_of o.contents.users f.rec) f bytes o new before after (Err e)) (sym same) (λ is. put_by (Err Stopped) is)
        by_fault fault (inr same) =
            subst (λ (e : StoreFault). (let r : Result (Unit {0}) StoreFault = Err e in HasApplied (PutFile (version_of f.rec o.contents.head.next_stamp (f.rec.len + length bytes)) (text ++ bytes) plan.take) mid new r)
            → HasAppended (full_of o.contents.users f.rec) f bytes o new before after (Err e)) (sym same)
            (λ is. subst (λ (x : OnlineFacts). HasAsked ⊥ ⊥ o x before after) (sym (is.same (λ stop. let no : ⊥ = cc in no))) asked)

        by_answer : (r : Result (Unit {0}) StoreFault)
            → HasApplied (PutFile (version_of f.rec o.contents.head.next_stamp (f.rec.len + length bytes)) (text ++ bytes) plan.take) mid new r
            → HasAppended (full_of o.contents.users f.rec) f bytes o new before after r
        by_answer (Ok u) is = put_by (Ok u) is
        by_answer (Err fault) is = by_fault fault is.only is

  -- A COPY THAT ISN'T TO BE HAD
  module _ (c : TapeCopy) (before after : Rack) (live : o.live ≡ true) (tied : IsTied o) (away : IsOnTape f.rec.number o f c) where
    abbrev Refused : StoreFault → Type 0
    Refused fault = (let r : Result (List ℕ) StoreFault = Err fault in HasReadCopy (name_of_file o.contents.users (recs_in o.contents) f.rec.number) c f.rec.len before after r)

    is_away : IsAway f c
    is_away = record { offline = away.offline; copy = away.copy }

    mounted_unless : (fault : StoreFault) → fault ≢ WaitTape c.serial → Refused fault → is_mounted (reel c.serial before.reels) ≡ true
    mounted_unless fault other read = by_test (cases_Bool (is_mounted (reel c.serial before.reels)))
      where
        by_test : (is_mounted (reel c.serial before.reels) ≡ true) ⊎ (is_mounted (reel c.serial before.reels) ≡ false) → is_mounted (reel c.serial before.reels) ≡ true
        by_test (inl is) = is
        by_test (inr isnt) = let it = read.waits.1 isnt in absurd (other (let same : fault ≡ WaitTape c.serial = cc in same))

    abbrev Answered : StoreFault → Type 0
    Answered fault = HasAppended (full_of o.contents.users f.rec) f bytes o o before after (Err fault)

    pub unread : (fault : StoreFault) → (let r : Result (List ℕ) StoreFault = Err fault in HasReadCopy (name_of_file o.contents.users (recs_in o.contents) f.rec.number) c f.rec.len before after r)
        → HasAppended (full_of o.contents.users f.rec) f bytes o o before after (Err fault)
    unread fault read = by_refusal read.refusals read
      where
        reads_of : (fault : StoreFault) → Refused fault → HasAsked ⊥ (◌≡◌ {A = Result (List ℕ) StoreFault} (Err fault) (Err TapeReadFault)) o o before after
        reads_of fault read = tapes_asked o before after (Err fault) tied read.tapes

        waits_so : Refused (WaitTape c.serial) → Answered (WaitTape c.serial)
        waits_so read = (asked_none o o before after (λ no. no) (λ is. let no : ⊥ = cc in no) (reads_of (WaitTape c.serial) read), (c, is_away, refl, read.waits.0 refl))

        fails_so : Refused TapeReadFault → Answered TapeReadFault
        fails_so read =
            let asked = reads_of TapeReadFault read in (
              record { disc = asked.disc; same = asked.same; tied = asked.tied; only = asked.only; kept = λ no. absurd (no tt); rose = λ is. asked.rose refl },
              (c, is_away, mounted_unless TapeReadFault (λ is. let no : ⊥ = cc in no) read),
            )

        lost_so : (name : Full) → Refused (NoCopy name c.serial) → Answered (NoCopy name c.serial)
        lost_so name read =
            let (is_name, serial, nowhere) = read.lost name c.serial refl in (
              asked_none o o before after (λ no. no) (λ is. let no : ⊥ = cc in no) (reads_of (NoCopy name c.serial) read),
              named o f.rec.number f c name live tied away is_name,
              (c, is_away, refl, nowhere),
            )

        starved_so : Refused NoMemory → Answered NoMemory
        starved_so read = asked_none o o before after (λ no. no) (λ is. let no : ⊥ = cc in no) (reads_of NoMemory read)

        by_refusal : IsTapeRefusal c fault → Refused fault → Answered fault
        by_refusal (inl same) = subst (λ (e : StoreFault). Refused e → Answered e) (sym same) waits_so
        by_refusal (inr (inl same)) = subst (λ (e : StoreFault). Refused e → Answered e) (sym same) fails_so
        by_refusal (inr (inr (inl (name, same)))) = subst (λ (e : StoreFault). Refused e → Answered e) (sym same) (lost_so name)
        by_refusal (inr (inr (inr same))) = subst (λ (e : StoreFault). Refused e → Answered e) (sym same) starved_so

    -- and one that was read
    pub tapes_read : (text : List ℕ) → (let r : Result (List ℕ) StoreFault = Ok text in HasReadCopy (name_of_file o.contents.users (recs_in o.contents) f.rec.number) c f.rec.len before after r)
        → HasAsked ⊥ ⊥ o o before after
    tapes_read text read = asked_none o o before after (λ no. no) (λ is. let no : ⊥ = cc in no) (tapes_asked o before after (Ok text) tied read.tapes)

    pub copy_text : (text : List ℕ) → HasCopied c f.rec.len text before after → IsOldText f text before after
    copy_text text copied = (copied.long, inr (away.offline, c, away.copy, copied))

-- THE CHANGE may be made
module _ (o : OnlineFacts) (rec : FileRec) (old bytes : List ℕ) (live : o.live ≡ true) (tied : IsTied o) (there : (f : File) × Contains o.contents.files f × (f.rec ≡ rec)) (long : length old ≡ rec.len)
    (short : rec.len + length bytes ≤ 65536) (early : o.contents.head.next_stamp < 2 ^ 62) where
  pub whole_long : length (old ++ bytes) ≡ rec.len + length bytes
  whole_long = length-append old bytes ∙ ap (λ (n : ℕ). n + length bytes) long

  is_next : IsNext o (old ++ bytes) (version_of rec o.contents.head.next_stamp (rec.len + length bytes))
  is_next = record {
    stamp = refl;
    early = early;
    tape = refl;
    len = sym whole_long;
    rules = (next_version o (rules_here o live tied) early (rec.len + length bytes) short rec in_recs (full_of o.contents.users rec) refl).rules;
  }
    where
      in_recs : Contains (recs_in o.contents) rec
      in_recs = let (f, inside, same) = there in subst (λ (r : FileRec). Contains (recs_in o.contents) r) same (mapped_there (λ (g : File). g.rec) o.contents.files f inside)

  module _ (text : List ℕ) (made : FileRec) (take : List ℕ) (room len stamp : ℕ) (plan : IsUnjamPlan (blocks_for (rec.len + length bytes)) o take room)
      (text_is : text ≡ old ++ bytes) (len_is : len ≡ length text) (stamp_is : stamp ≡ o.contents.head.next_stamp) (made_is : made ≡ version_of rec stamp len) where
    pub record_is : made ≡ version_of rec o.contents.head.next_stamp (rec.len + length bytes)
    record_is = made_is ∙ (λ i. version_of rec (stamp_is i) ((len_is ∙ ap length text_is ∙ whole_long) i))

    pub may_append : IsAllowed (PutFile made text take) o
    may_append =
        subst (λ (t : List ℕ). IsAllowed (PutFile made t take) o) (sym text_is)
        (subst (λ (r : FileRec). IsAllowed (PutFile r (old ++ bytes) take) o) (sym record_is)
        (put_allowed o (old ++ bytes) (version_of rec o.contents.head.next_stamp (rec.len + length bytes)) (blocks_for (rec.len + length bytes)) take room live tied is_next plan))

pub rec_is : (o : OnlineFacts) (number : ℕ) (recs : List FileRec) (file : FileRec) → recs ≡ recs_in o.contents → ((r : FileRec) → Contains recs r → r.number ≡ number → file ≡ r)
    → (f : File) → Contains o.contents.files f → f.rec.number ≡ number → f.rec ≡ file
rec_is o number recs file are one f there numbered =
    sym (one f.rec (subst (λ (l : List FileRec). Contains l f.rec) (sym are) (mapped_there (λ (g : File). g.rec) o.contents.files f there)) numbered)

pub file_on : (o : OnlineFacts) (number : ℕ) (recs : List FileRec) (file : FileRec) → recs ≡ recs_in o.contents → ((r : FileRec) → Contains recs r → r.number ≡ number → file ≡ r) → (is b : Bool)
    → ((f : File) → Contains o.contents.files f → f.rec.number ≡ number → is ≡ f.online) → is ≡ b → (f : File) × Contains o.contents.files f × (f.rec.number ≡ number)
    → (f : File) × Contains o.contents.files f × (f.rec ≡ file) × (f.online ≡ b)
file_on o number recs file are one is b online same (f, there, numbered) = (f, there, rec_is o number recs file are one f there numbered, sym (online f there numbered) ∙ same)

pub file_fits : (o : OnlineFacts) (number : ℕ) (recs : List FileRec) (file : FileRec) (bytes : List ℕ) → recs ≡ recs_in o.contents → ((r : FileRec) → Contains recs r → r.number ≡ number → file ≡ r)
    → ((f : File) → Contains o.contents.files f → f.rec.number ≡ number → f.rec.len + length bytes ≤ 65536) → (f : File) × Contains o.contents.files f × (f.rec.number ≡ number)
    → file.len + length bytes ≤ 65536
file_fits o number recs file bytes are one fits (f, there, numbered) =
    subst (λ (r : FileRec). r.len + length bytes ≤ 65536) (rec_is o number recs file are one f there numbered) (fits f there numbered)
