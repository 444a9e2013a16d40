-- What the functions of Append show in turn, by the record of the file that they have.
-- serves: append_from_tape, append_here
use Rattle.std.proofs.Common.{◌≡◌, ℕ, ◌+◌, ◌<◌, Bool, true, false, List, ◌++◌, length, Some, None, Result, Ok, Err, is_some, refl, sym, ◌∙◌, ap, inl, inr, subst, true≢false}
use Rattle.std.specs.Prelude.{◌⊎◌, Contains}
use Rattle.std.specs.Option.{ForSome}
use Rattle.std.proofs.lemmas.Bool.{false≢true}
use Rattle.std.proofs.lemmas.List.Elements.{All-contains}
use Rattle.g_base.specs.Block.{blocks_for}
use Rattle.g_disc.specs.Disc.{ReadsByCause}
use Rattle.g_disc.proofs.CallLemmas.{ReadsByCause-for}
use Rattle.g_entry.specs.declared.file_rec.FileRec.{FileRec}
use Rattle.g_entry.specs.declared.file_rec.TapeCopy.{TapeCopy}
use Rattle.g_entry.specs.declared.user_rec.UserRec.{UserRec}
use Rattle.g_tape.specs.Rack.{Rack}
use Rattle.g_plain.specs.declared.faults.StoreFault.{StoreFault}
use Rattle.g_plain.specs.declared.faults.StoreFault.TheVariants.{DiscReadFault}
use Rattle.g_tree.specs.Records.{IsRecords, full_of, name_of_file}
use Rattle.g_tree.proofs.RuleLemmas.{one_of_key}
use Rattle.g_disc_contents.specs.Contents.{File, recs_in}
use Rattle.g_disc_contents.specs.Facts.{IsTied, OnlineFacts}
use Rattle.g_online.specs.declared.change.Change.TheVariants.{PutFile}
use Rattle.g_online.specs.declared.fault.OnlineFault.{OnlineFault}
use Rattle.g_online.specs.declared.fault.OnlineFault.TheVariants as online
use Rattle.g_online.specs.declared.unjam.Unjam.{Unjam}
use Rattle.g_online.specs.AllowedChanges.{Lies}
use Rattle.g_online.specs.Faults.{store_fault_of}
use Rattle.g_laws_store.proofs.UnjamLemmas.{numbers_apart}
use Rattle.g_migrate.proofs.MigrationLemmas.{rules_here}
use Rattle.g_retrieve.specs.Retrieval.{HasReadCopy, IsOnTape}
use Rattle.g_retrieve.proofs.AllowLemmas.{away_filled}
use Rattle.g_store_calls.specs.Appending.{HasAppended, version_of}
use Rattle.g_store_calls.specs.AppliedChange.{HasApplied}
use Rattle.g_store_calls.specs.Asking.{HasAsked, HasPlanned}
use Rattle.g_store_calls.proofs.FaultLemmas.{IsReadFault, Unread, full_no_read, none_no_read, stop_no_read}
use Rattle.g_store_calls.proofs.AppendPartLemmas.{asked_none, copy_text, disc_asked, nothing_asked, tapes_read, then_put, undisclosed, unplanned, unread}

-- this many blocks, as they were computed
pub need_is : (need : ℕ) (file rec : FileRec) (slice bytes : List ℕ) → need ≡ blocks_for (file.len + length slice) → slice ≡ bytes → rec ≡ file → need ≡ blocks_for (rec.len + length bytes)
need_is need file rec slice bytes is same recs = is ∙ (λ i. blocks_for ((sym recs i).len + length (same i)))

module _ (o : OnlineFacts) (live : o.live ≡ true) (tied : IsTied o) (file : FileRec) (b : Bool) (known : (f : File) × Contains o.contents.files f × (f.rec ≡ file) × (f.online ≡ b)) where
  -- the file of the record
  same_online : (f : File) → Contains o.contents.files f → f.rec ≡ file → f.online ≡ b
  same_online f there same =
      let (g, there_g, same_g, online) = known in
      let apart = numbers_apart o.contents.files (rules_here o live tied).records.numbers.rising in
      ap (λ (h : File). h.online) (one_of_key (λ (h : File). h.rec.number) o.contents.files f g apart there there_g (ap (λ (r : FileRec). r.number) (same ∙ sym same_g))) ∙ online

  module _ (bytes slice : List ℕ) (need : ℕ) (need_by : need ≡ blocks_for (file.len + length slice)) (slice_is : slice ≡ bytes) where
    needed : (f : File) → f.rec ≡ file → need ≡ blocks_for (f.rec.len + length bytes)
    needed f same = need_is need file f.rec slice bytes need_by slice_is same

    plan_of : (plan : Unjam) → (let r : Result Unjam StoreFault = Ok plan in HasPlanned need o r) → (f : File) → f.rec ≡ file → (let r : Result Unjam StoreFault = Ok plan in HasPlanned (blocks_for (f.rec.len + length bytes)) o r)
    plan_of plan planned f same = subst (λ (n : ℕ). (let r : Result Unjam StoreFault = Ok plan in HasPlanned n o r)) (needed f same) planned

    -- ON THE DISC
    module _ (here : b ≡ true) where
      pub here_unplanned : (fault : StoreFault) → (let r : Result Unjam StoreFault = Err fault in HasPlanned need o r) → (f : File) → Contains o.contents.files f → f.rec ≡ file → (rack : Rack)
          → HasAppended (full_of o.contents.users f.rec) f bytes o o rack rack (Err fault)
      here_unplanned fault planned f there same rack =
          unplanned f bytes o rack rack fault (nothing_asked o rack tied) (inl (same_online f there same ∙ here))
          (subst (λ (n : ℕ). (let r : Result Unjam StoreFault = Err fault in HasPlanned n o r)) (needed f same) planned)

      pub here_failed : (new : OnlineFacts) (plan : Unjam) (result : Result (List ℕ) OnlineFault) → (let r : Result Unjam StoreFault = Ok plan in HasPlanned need o r) → result ≡ Err online.ReadFault
          → ReadsByCause (result ≡ Err online.ReadFault) o.disc new.disc → new ≡ record o { disc = new.disc } → IsTied new
          → (result ≡ Err online.ReadFault → (f : File) → Contains o.contents.files f → f.rec.number ≡ file.number → 0 < f.rec.len)
          → (f : File) → Contains o.contents.files f → f.rec ≡ file → (rack : Rack) → HasAppended (full_of o.contents.users f.rec) f bytes o new rack rack (Err DiscReadFault)
      here_failed new plan result planned is reads same_else tied_then filled f there same rack =
          let asked : HasAsked (result ≡ Err online.ReadFault) ⊥ o new rack rack = disc_asked (result ≡ Err online.ReadFault) o new rack reads same_else tied_then in
          undisclosed f bytes o new rack plan
          (record {
            disc = ReadsByCause-for (λ e. tt) (λ one. is) reads;
            same = same_else;
            tied = tied_then;
            only = asked.only;
            kept = asked.kept;
            rose = asked.rose;
          })
          (same_online f there same ∙ here) (filled is f there (ap (λ (r : FileRec). r.number) same)) (plan_of plan planned f same)

      -- any fault of the read, as a store reports it
      pub here_unread : (new : OnlineFacts) (plan : Unjam) (e : OnlineFault) → (let r : Result Unjam StoreFault = Ok plan in HasPlanned need o r) → IsReadFault e → ReadsByCause (Unread e) o.disc new.disc
          → new ≡ record o { disc = new.disc } → IsTied new → (Unread e → (f : File) → Contains o.contents.files f → f.rec.number ≡ file.number → 0 < f.rec.len)
          → (f : File) → Contains o.contents.files f → f.rec ≡ file → (rack : Rack) → HasAppended (full_of o.contents.users f.rec) f bytes o new rack rack (Err (store_fault_of e))
      here_unread new plan online.ReadFault planned only reads same_else tied_then filled f there same rack =
          here_failed new plan (Err online.ReadFault) planned refl reads same_else tied_then filled f there same rack
      here_unread new plan online.NoMemory planned only reads same_else tied_then filled f there same rack =
          asked_none o new rack rack (λ is. let no : ⊥ = cc in no) (λ no. no) (disc_asked (Unread online.NoMemory) o new rack reads same_else tied_then)
      here_unread new plan (online.DiscFull wants room) planned only reads same_else tied_then filled f there same rack = absurd (full_no_read wants room only)
      here_unread new plan online.Stopped planned only reads same_else tied_then filled f there same rack = absurd (stop_no_read only)
      here_unread new plan online.NoFilestore planned only reads same_else tied_then filled f there same rack = absurd (none_no_read only)

      pub here_put : (mid new : OnlineFacts) (plan : Unjam) (old : List ℕ) → (let r : Result Unjam StoreFault = Ok plan in HasPlanned need o r)
          → ReadsByCause (◌≡◌ {A = Result (List ℕ) OnlineFault} (Ok old) (Err online.ReadFault)) o.disc mid.disc → mid ≡ record o { disc = mid.disc } → IsTied mid
          → ((f : File) → Contains o.contents.files f → f.rec.number ≡ file.number → ForSome f.bytes (λ x. old ≡ x) × (length old ≡ f.rec.len))
          → (result : Result (Unit {0}) StoreFault) → HasApplied (PutFile (version_of file mid.contents.head.next_stamp (file.len + length bytes)) (old ++ bytes) plan.take) mid new result
          → (f : File) → Contains o.contents.files f → f.rec ≡ file → (rack : Rack) → HasAppended (full_of o.contents.users f.rec) f bytes o new rack rack result
      here_put mid new plan old planned reads same_else tied_then text result applied f there same rack =
          let (told, long) = text f there (ap (λ (r : FileRec). r.number) same) in
          let (is, fits) = plan_of plan planned f same in
          let asked = asked_none o mid rack rack (λ is. let no : ⊥ = cc in no) (λ no. no) (disc_asked (◌≡◌ {A = Result (List ℕ) OnlineFault} (Ok old) (Err online.ReadFault)) o mid rack reads same_else tied_then) in
          then_put f bytes o mid new rack rack asked old (long, inl (same_online f there same ∙ here, λ x it. sym (told x it))) plan is fits result
          (subst (λ (r : FileRec). HasApplied (PutFile (version_of r mid.contents.head.next_stamp (r.len + length bytes)) (old ++ bytes) plan.take) mid new result) (sym same) applied)

    -- a file that is only on tape
    module _ (away : b ≡ false) (users : List UserRec) (recs : List FileRec) (users_are : users ≡ o.contents.users) (recs_are : recs ≡ recs_in o.contents) (copy : TapeCopy)
        (copy_is : file.tape ≡ Some copy) (before after : Rack) where
      on_tape : (f : File) → Contains o.contents.files f → f.rec ≡ file → IsOnTape f.rec.number o f copy
      on_tape f there same = record { there = there; number_is = refl; offline = same_online f there same ∙ away; copy = ap (λ (r : FileRec). r.tape) same ∙ copy_is }

      copy_on : (result : Result (List ℕ) StoreFault) → HasReadCopy (name_of_file users recs file.number) copy file.len before after result → (f : File) → f.rec ≡ file
          → HasReadCopy (name_of_file o.contents.users (recs_in o.contents) f.rec.number) copy f.rec.len before after result
      copy_on result read f same =
          subst (λ (r : FileRec). HasReadCopy (name_of_file o.contents.users (recs_in o.contents) r.number) copy r.len before after result) (sym same)
          (subst (λ (l : List FileRec). HasReadCopy (name_of_file o.contents.users l file.number) copy file.len before after result) recs_are
          (subst (λ (us : List UserRec). HasReadCopy (name_of_file us recs file.number) copy file.len before after result) users_are read))

      pub away_unread : (fault : StoreFault) → (let r : Result (List ℕ) StoreFault = Err fault in HasReadCopy (name_of_file users recs file.number) copy file.len before after r)
          → (f : File) → Contains o.contents.files f → f.rec ≡ file → HasAppended (full_of o.contents.users f.rec) f bytes o o before after (Err fault)
      away_unread fault read f there same = unread f bytes o copy before after live tied (on_tape f there same) fault (copy_on (Err fault) read f same)

      module _ (old : List ℕ) (read : (let r : Result (List ℕ) StoreFault = Ok old in HasReadCopy (name_of_file users recs file.number) copy file.len before after r)) where
        asked_here : (f : File) → Contains o.contents.files f → f.rec ≡ file → HasAsked ⊥ ⊥ o o before after
        asked_here f there same = tapes_read f bytes o copy before after live tied (on_tape f there same) old (copy_on (Ok old) read f same)

        pub away_unplanned : (fault : StoreFault) → (let r : Result Unjam StoreFault = Err fault in HasPlanned need o r) → (f : File) → Contains o.contents.files f → f.rec ≡ file
            → HasAppended (full_of o.contents.users f.rec) f bytes o o before after (Err fault)
        away_unplanned fault planned f there same =
            let on = on_tape f there same in
            unplanned f bytes o before after fault (asked_here f there same) (inr (copy, record { offline = on.offline; copy = on.copy }, (copy_on (Ok old) read f same).ok.mounted))
            (subst (λ (n : ℕ). (let r : Result Unjam StoreFault = Err fault in HasPlanned n o r)) (needed f same) planned)

        pub away_put : (new : OnlineFacts) (plan : Unjam) → (let r : Result Unjam StoreFault = Ok plan in HasPlanned need o r) → (result : Result (Unit {0}) StoreFault)
            → HasApplied (PutFile (version_of file o.contents.head.next_stamp (file.len + length bytes)) (old ++ bytes) plan.take) o new result
            → (f : File) → Contains o.contents.files f → f.rec ≡ file → HasAppended (full_of o.contents.users f.rec) f bytes o new before after result
        away_put new plan planned result applied f there same =
            let (is, fits) = plan_of plan planned f same in
            then_put f bytes o o new before after (asked_here f there same) old
            (copy_text f bytes o copy before after live tied (on_tape f there same) old (copy_on (Ok old) read f same).ok) plan is fits result
            (subst (λ (r : FileRec). HasApplied (PutFile (version_of r o.contents.head.next_stamp (r.len + length bytes)) (old ++ bytes) plan.take) o new result) (sym same) applied)

-- a file that is only on tape has a copy, and isn't empty
module _ (o : OnlineFacts) (live : o.live ≡ true) (tied : IsTied o) (file : FileRec) (known : (f : File) × Contains o.contents.files f × (f.rec ≡ file) × (f.online ≡ false)) where
  pub not_bare : file.tape ≡ None → ⊥
  not_bare none =
      let (f, there, same, offline) = known in
      by_place f offline (ap (λ (r : FileRec). r.tape) same ∙ none) (All-contains Lies o.contents.files f (rules_here o live tied).lie there).somewhere
    where
      by_place : (f : File) → f.online ≡ false → f.rec.tape ≡ None → (f.online ≡ true) ⊎ (is_some f.rec.tape ≡ true) → ⊥
      by_place f offline none (inl on) = true≢false (sym on ∙ offline)
      by_place f offline none (inr some) = false≢true (sym (ap is_some none) ∙ some)

  pub is_filled : (copy : TapeCopy) → file.tape ≡ Some copy → 0 < file.len
  is_filled copy is =
      let (f, there, same, offline) = known in
      subst (λ (r : FileRec). 0 < r.len) same
      (away_filled o f.rec.number f copy live tied (record { there = there; number_is = refl; offline = offline; copy = ap (λ (r : FileRec). r.tape) same ∙ is }))

pub records_on : (o : OnlineFacts) → o.live ≡ true → IsTied o → (users : List UserRec) (recs : List FileRec) → users ≡ o.contents.users → recs ≡ recs_in o.contents → IsRecords users recs
records_on o live tied users recs users_are recs_are =
    subst (λ (us : List UserRec). IsRecords us recs) (sym users_are) (subst (λ (l : List FileRec). IsRecords o.contents.users l) (sym recs_are) (rules_here o live tied).records)

-- the bytes that were read are as many
pub read_long : (o : OnlineFacts) (file : FileRec) (old : List ℕ) → ((f : File) × Contains o.contents.files f × (f.rec ≡ file) × (f.online ≡ true))
    → ((f : File) → Contains o.contents.files f → f.rec.number ≡ file.number → ForSome f.bytes (λ x. old ≡ x) × (length old ≡ f.rec.len)) → length old ≡ file.len
read_long o file old (f, there, same, online) text = (text f there (ap (λ (r : FileRec). r.number) same)).1 ∙ ap (λ (r : FileRec). r.len) same
