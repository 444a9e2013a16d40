-- How bringing a file back is answered: by what was read, and by what was written.
-- serves: bring_back, file_of (value), lost, put_back, crates above
use Rattle.std.proofs.Common.{◌≡◌, ◌≢◌, ℕ, ◌<◌, ◌≤◌, true, false, List, length, Option, Some, None, Result, Ok, Err, refl, sym, ◌∙◌, ap, arith, subst, inl, inr, true≢false}
use Rattle.std.specs.Prelude.{◌⊎◌, ◌↔◌, Contains, IfErr, IfOk}
use Rattle.std.specs.Option.{option_map}
use Rattle.std.specs.FinMap.{get}
use Rattle.std.proofs.lemmas.Bool.{cases_lt}
use Rattle.std.proofs.lemmas.Option.{same_Some}
use Rattle.g_base.specs.Block.{blocks_for}
use Rattle.g_name.specs.declared.full.Full.{Full}
use Rattle.g_disc.specs.Disc.{Causes, DiscState}
use Rattle.g_disc.proofs.CallLemmas.{Causes-for, Causes-none}
use Rattle.g_entry.specs.declared.file_rec.FileRec.{FileRec}
use Rattle.g_entry.specs.declared.file_rec.TapeCopy.{TapeCopy}
use Rattle.g_entry.specs.declared.user_rec.UserRec.{UserRec}
use Rattle.g_tape.specs.Rack.{Rack, is_mounted, reel}
use Rattle.g_plain.specs.declared.faults.StoreFault.{StoreFault}
use Rattle.g_plain.specs.declared.faults.StoreFault.TheVariants.{DiscFull, NoCopy, NoMemory, Stopped, TapeReadFault, WaitTape}
use Rattle.g_tree.specs.Records.{IsRecords, by_number, full_of, name_of_file}
use Rattle.g_tree.proofs.PutLemmas.{number_found}
use Rattle.g_disc_contents.specs.Contents.{File, recs_in}
use Rattle.g_disc_contents.specs.Facts.{IsTied, OnlineFacts}
use Rattle.g_online.specs.declared.change.Change.TheVariants.{Bring}
use Rattle.g_online.specs.Faults.{store_fault_of}
use Rattle.g_online.specs.declared.fault.OnlineFault.{OnlineFault}
use Rattle.g_online.specs.declared.fault.OnlineFault.TheVariants as online
use Rattle.g_online.specs.declared.unjam.Unjam.{Unjam}
use Rattle.g_online.specs.AllowedChanges.{IsAllowed}
use Rattle.g_online.specs.Outcomes.{HasChanged, IsApplied, room_for}
use Rattle.g_laws_store.proofs.WaitingLemmas.{mapped_there}
use Rattle.g_retrieve.specs.Retrieval.{HasBroughtBack, HasCopied, HasReadCopy, IsOnTape, IsBrought, IsPutBack, IsTapeRefusal, ReadsTapes}
use Rattle.g_retrieve.specs.Invariant.{HasLostCopy, KeepsDevices}
use Rattle.g_retrieve.proofs.AllowLemmas.{away_filled, may_bring, rules_here}
use Rattle.g_laws_store.specs.UnjamPlan.{IsUnjamPlan}
use Rattle.g_retrieve.proofs.HeldLemmas.{is_lost}
use Rattle.g_retrieve.proofs.KeepsLemmas.{keeps_done, keeps_same, keeps_stopped}

-- a disc on which no write failed
unstopped : (before after : DiscState) (was is : Type 0) → (was → ⊥) → (is → ⊥) → Causes ⊥ was before after → Causes ⊥ is before after
unstopped before after was is none never causes = Causes-for (λ p. p) (λ p. p) (λ q. absurd (none q)) (λ s. absurd (never s)) causes

module _ (number : ℕ) (text : List ℕ) (plan : Unjam) (o new : OnlineFacts) (same_room : plan.room ≡ room_for (Bring number text plan.take) o) where
  abbrev need : ℕ
  need = blocks_for (length text)

  -- there was room if it isn't refused for lack of room
  has_room : (answer : Result (Unit {0}) OnlineFault) → IsApplied (Bring number text plan.take) o new answer
      → (answer ≡ Err (online.DiscFull need (room_for (Bring number text plan.take) o)) → ⊥) → plan.room < need → ⊥
  has_room answer applied other less = other (applied.full.1 (omega (arith, less, same_room)))

  -- a fault that isn't a stop leaves everything unchanged, and means that memory ran out
  put_other : (fault : OnlineFault) → fault ≢ online.Stopped → (fault ≡ online.DiscFull need (room_for (Bring number text plan.take) o) → ⊥)
      → (let r : Result (Unit {0}) OnlineFault = Err fault in IsApplied (Bring number text plan.take) o new r) → IsPutBack number text plan o new (Err NoMemory)
  put_other fault other fits applied = record {
    full = (λ is. absurd (let no : ⊥ = cc in no), λ less. absurd (has_room (Err fault) applied (λ is. fits (let same : fault ≡ online.DiscFull need (room_for (Bring number text plan.take) o) = cc in same)) less));
    ok = tt;
    stopped = λ is. absurd (let no : ⊥ = cc in no);
    same = λ _. applied.same other;
    causes = unstopped o.disc new.disc _ _ (λ is. other (let e : fault ≡ online.Stopped = cc in e)) (λ is. let no : ⊥ = cc in no) applied.causes;
    tied = applied.tied;
    told = applied.told;
    refusals = inr (inl refl);
  }

  put_full : (wants room : ℕ) → (let r : Result (Unit {0}) OnlineFault = Err (online.DiscFull wants room) in IsApplied (Bring number text plan.take) o new r)
      → IsPutBack number text plan o new (Err (DiscFull wants room))
  put_full wants room applied = by_only applied.only
    where
      by_only : (let e : OnlineFault = online.DiscFull wants room in (e ≡ online.Stopped) ⊎ ((e ≡ online.NoMemory) ⊎ (e ≡ online.DiscFull need (room_for (Bring number text plan.take) o))))
          → IsPutBack number text plan o new (Err (DiscFull wants room))
      by_only (inl is) = let no : ⊥ = cc in absurd no
      by_only (inr (inl is)) = let no : ⊥ = cc in absurd no
      by_only (inr (inr is)) =
          let blocks : wants ≡ need = cc in
          let free : room ≡ room_for (Bring number text plan.take) o = cc in
          let same : DiscFull wants room ≡ DiscFull need plan.room = (λ i. DiscFull (blocks i) ((free ∙ sym same_room) i)) in
          let less = applied.full.0 (ap Err is) in
          record {
            full = (λ _. omega (arith, less, same_room), λ _. ap Err same);
            ok = tt;
            stopped = λ stop. absurd (let no : ⊥ = cc in no);
            same = λ _. applied.same (λ stop. let no : ⊥ = cc in no);
            causes = unstopped o.disc new.disc _ _ (λ stop. let no : ⊥ = cc in no) (λ stop. let no : ⊥ = cc in no) applied.causes;
            tied = applied.tied;
            told = applied.told;
            refusals = inr (inr same);
          }

  pub was_put : (u : Unit {0}) → IsApplied (Bring number text plan.take) o new (Ok u) → IsPutBack number text plan o new (Ok text)
  was_put u applied = record {
    full = (λ is. absurd (let no : ⊥ = cc in no), λ less. absurd (has_room (Ok u) applied (λ is. let no : ⊥ = cc in no) less));
    ok = (refl, applied.ok);
    stopped = λ is. absurd (let no : ⊥ = cc in no);
    same = tt;
    causes = unstopped o.disc new.disc _ _ (λ is. let no : ⊥ = cc in no) (λ is. let no : ⊥ = cc in no) applied.causes;
    tied = applied.tied;
    told = applied.told;
    refusals = tt;
  }

  abbrev NotPut : OnlineFault → Type 0
  NotPut fault = (let r : Result (Unit {0}) OnlineFault = Err fault in IsApplied (Bring number text plan.take) o new r) → IsPutBack number text plan o new (Err (store_fault_of fault))

  cut_off : NotPut online.Stopped
  cut_off applied = record {
    full = (λ is. absurd (let no : ⊥ = cc in no), λ less. absurd (has_room (Err online.Stopped) applied (λ is. let no : ⊥ = cc in no) less));
    ok = tt;
    stopped = λ is. applied.stopped refl;
    same = λ other. absurd (other refl);
    causes = Causes-for (λ p. p) (λ p. p) (λ _. refl) (λ _. refl) applied.causes;
    tied = applied.tied;
    told = applied.told;
    refusals = inl refl;
  }

  pub not_put : (fault : OnlineFault) → NotPut fault
  not_put fault applied = by_only applied.only
    where
      by_only : (fault ≡ online.Stopped) ⊎ ((fault ≡ online.NoMemory) ⊎ (fault ≡ online.DiscFull need (room_for (Bring number text plan.take) o)))
          → IsPutBack number text plan o new (Err (store_fault_of fault))
      by_only (inl is) = subst NotPut (sym is) cut_off applied
      by_only (inr (inl is)) = subst NotPut (sym is) (put_other online.NoMemory (λ e. let no : ⊥ = cc in no) (λ e. let no : ⊥ = cc in no)) applied
      by_only (inr (inr is)) = subst NotPut (sym is) (put_full need (room_for (Bring number text plan.take) o)) applied

-- THE FILE that was looked up
abbrev IsUsed : List FileRec → ℕ → Type 0
IsUsed files number = (r : FileRec) × Contains files r × (r.number ≡ number)

pub one_record : (users : List UserRec) (files : List FileRec) (number : ℕ) (file r : FileRec) → IsRecords users files → Some file ≡ get (by_number files) number → Contains files r → r.number ≡ number → file ≡ r
one_record users files number file r is found there at = same_Some file r (found ∙ number_found users files is number r there at)

pub not_absent : (users : List UserRec) (files : List FileRec) (number : ℕ) → IsRecords users files → IsUsed files number → None ≡ get (by_number files) number → ⊥
not_absent users files number is (r, there, at) none = let e = none ∙ number_found users files is number r there at in (let no : ⊥ = cc in no)

pub not_unnamed : (users : List UserRec) (files : List FileRec) (number : ℕ) → IsRecords users files → IsUsed files number → None ≡ name_of_file users files number → ⊥
not_unnamed users files number is (r, there, at) none =
    let e : None ≡ Some (full_of users r) = none ∙ ap (option_map (full_of users)) (number_found users files is number r there at) in
    (let no : ⊥ = cc in no)

pub not_here : (o : OnlineFacts) (number : ℕ) (files : List FileRec) (file : FileRec) → files ≡ recs_in o.contents → ((r : FileRec) → Contains files r → r.number ≡ number → file ≡ r)
    → (f : File) × (c : TapeCopy) × IsOnTape number o f c → file.tape ≡ None → ⊥
not_here o number files file are one (f, c, away) none =
    let same = one f.rec (subst (λ (l : List FileRec). Contains l f.rec) (sym are) (mapped_there (λ (g : File). g.rec) o.contents.files f away.there)) away.number_is in
    let wrong : None ≡ Some c = sym none ∙ ap (λ (r : FileRec). r.tape) same ∙ away.copy in
    (let no : ⊥ = cc in no)

-- its record is there
pub used_here : (o : OnlineFacts) (number : ℕ) (files : List FileRec) → files ≡ recs_in o.contents → (f : File) × (c : TapeCopy) × IsOnTape number o f c
    → (r : FileRec) × Contains files r × (r.number ≡ number)
used_here o number files are (f, c, away) =
    (f.rec, subst (λ (l : List FileRec). Contains l f.rec) (sym are) (mapped_there (λ (g : File). g.rec) o.contents.files f away.there), away.number_is)

-- the copy that was read is the file's
pub read_here : (o : OnlineFacts) (number : ℕ) (users : List UserRec) (files : List FileRec) (file : FileRec) (copy : TapeCopy) (before after : Rack) (result : Result (List ℕ) StoreFault) (f : File) (c : TapeCopy)
    → users ≡ o.contents.users → files ≡ recs_in o.contents → ((r : FileRec) → Contains files r → r.number ≡ number → file ≡ r) → file.tape ≡ Some copy → IsOnTape number o f c
    → HasReadCopy (name_of_file users files number) copy file.len before after result → HasReadCopy (name_of_file o.contents.users (recs_in o.contents) number) c f.rec.len before after result
read_here o number users files file copy before after result f c users_are files_are one tape away read =
    let same : file ≡ f.rec = one f.rec (subst (λ (l : List FileRec). Contains l f.rec) (sym files_are) (mapped_there (λ (g : File). g.rec) o.contents.files f away.there)) away.number_is in
    let copy_is : copy ≡ c = same_Some copy c (sym tape ∙ ap (λ (r : FileRec). r.tape) same ∙ away.copy) in
    subst (λ (l : List FileRec). HasReadCopy (name_of_file o.contents.users l number) c f.rec.len before after result) files_are
    (subst (λ (us : List UserRec). HasReadCopy (name_of_file us files number) c f.rec.len before after result) users_are
    (subst (λ (k : TapeCopy). HasReadCopy (name_of_file users files number) k f.rec.len before after result) copy_is
    (subst (λ (r : FileRec). HasReadCopy (name_of_file users files number) copy r.len before after result) same read)))

pub filled_here : (o : OnlineFacts) (number : ℕ) (files : List FileRec) (file : FileRec) → o.live ≡ true → IsTied o → files ≡ recs_in o.contents → ((r : FileRec) → Contains files r → r.number ≡ number → file ≡ r)
    → (f : File) × (c : TapeCopy) × IsOnTape number o f c → 0 < file.len
filled_here o number files file live tied are one (f, c, away) =
    let same : file ≡ f.rec = one f.rec (subst (λ (l : List FileRec). Contains l f.rec) (sym are) (mapped_there (λ (g : File). g.rec) o.contents.files f away.there)) away.number_is in
    subst (λ (r : FileRec). 0 < r.len) (sym same) (away_filled o number f c live tied away)

-- its name
pub named : (o : OnlineFacts) (number : ℕ) (f : File) (c : TapeCopy) (name : Full) → o.live ≡ true → IsTied o → IsOnTape number o f c → name_of_file o.contents.users (recs_in o.contents) number ≡ Some name
    → name ≡ full_of o.contents.users f.rec
named o number f c name live tied away is =
    let records = (rules_here o live tied).records in
    let there = number_found o.contents.users (recs_in o.contents) records number f.rec (mapped_there (λ (g : File). g.rec) o.contents.files f away.there) away.number_is in
    same_Some name (full_of o.contents.users f.rec) (sym is ∙ ap (option_map (full_of o.contents.users)) there)

-- HOW IT IS ANSWERED
module _ (number : ℕ) (plan : Unjam) (o : OnlineFacts) (before after : Rack) (f : File) (c : TapeCopy) where
  no_stop : (fault : StoreFault) → IsTapeRefusal c fault → (let r : Result (List ℕ) StoreFault = Err fault in r ≡ Err Stopped) → ⊥
  no_stop fault (inl is) stop = cc
  no_stop fault (inr (inl is)) stop = cc
  no_stop fault (inr (inr (inl (name, is)))) stop = cc
  no_stop fault (inr (inr (inr is))) stop = cc

  no_full : (fault : StoreFault) (need room : ℕ) → IsTapeRefusal c fault → (let r : Result (List ℕ) StoreFault = Err fault in r ≡ Err (DiscFull need room)) → ⊥
  no_full fault need room (inl is) full = cc
  no_full fault need room (inr (inl is)) full = cc
  no_full fault need room (inr (inr (inl (name, is)))) full = cc
  no_full fault need room (inr (inr (inr is))) full = cc

  -- refused by the tape, and everything is unchanged
  pub back_refused : (full : Option Full) (fault : StoreFault) → IsTied o → HasReadCopy full c f.rec.len before after (Err fault) → HasBroughtBack number plan f c o o before after (Err fault)
  back_refused full fault tied read = record {
    ok = tt;
    stopped = λ is. absurd (no_stop fault read.refusals is);
    same = λ _. refl;
    causes = Causes-none o.disc (λ none. none) (no_stop fault read.refusals);
    tapes = read.tapes;
    tied = tied;
    told = refl;
  }

  abbrev pub IsOneOf : StoreFault → Type 0
  IsOneOf e = (e ≡ WaitTape c.serial) ⊎ ((e ≡ TapeReadFault) ⊎ (((name : Full) × (e ≡ NoCopy name c.serial)) ⊎ ((e ≡ DiscFull (blocks_for f.rec.len) plan.room) ⊎ ((e ≡ Stopped) ⊎ (e ≡ NoMemory)))))

  pub refused_only : (fault : StoreFault) → IsTapeRefusal c fault → IsOneOf fault
  refused_only fault (inl is) = inl is
  refused_only fault (inr (inl is)) = inr (inl is)
  refused_only fault (inr (inr (inl (name, is)))) = inr (inr (inl (name, is)))
  refused_only fault (inr (inr (inr is))) = inr (inr (inr (inr (inr is))))

  -- the bytes were there: written back, or refused by the disc
  module _ (new : OnlineFacts) (text : List ℕ) (result : Result (List ℕ) StoreFault) (copied : HasCopied c f.rec.len text before after) (tapes : (let r : Result (List ℕ) StoreFault = Ok text in ReadsTapes before after r))
      (put : IsPutBack number text plan o new result) where
    abbrev wanted : ℕ
    wanted = blocks_for (length text)

    wanted_is : wanted ≡ blocks_for f.rec.len
    wanted_is = ap blocks_for copied.long

    abbrev IsOther : StoreFault → Type 0
    IsOther e = (e ≡ Stopped) ⊎ ((e ≡ NoMemory) ⊎ (e ≡ DiscFull wanted plan.room))

    not_tape : (e : StoreFault) → IsOther e → (e ≡ TapeReadFault → ⊥) × ((serial : ℕ) → e ≡ WaitTape serial → ⊥) × ((name : Full) (serial : ℕ) → e ≡ NoCopy name serial → ⊥)
    not_tape e (inl is) = (λ it. cc, λ serial it. cc, λ name serial it. cc)
    not_tape e (inr (inl is)) = (λ it. cc, λ serial it. cc, λ name serial it. cc)
    not_tape e (inr (inr is)) = (λ it. cc, λ serial it. cc, λ name serial it. cc)

    never : (fault : StoreFault) → ((e : StoreFault) → IsOther e → e ≡ fault → ⊥) → result ≡ Err fault → ⊥
    never fault other is = other fault (subst (λ (r : Result (List ℕ) StoreFault). IfErr r IsOther) is put.refusals) refl

    fits_by : (r : Result (List ℕ) StoreFault) → result ≡ r → ((r ≡ Err (DiscFull wanted plan.room)) → ⊥) → blocks_for f.rec.len ≤ plan.room
    fits_by r is other = by_order (cases_lt plan.room wanted)
      where
        by_order : (plan.room < wanted) ⊎ (wanted ≤ plan.room) → blocks_for f.rec.len ≤ plan.room
        by_order (inl less) = absurd (other (sym is ∙ put.full.1 less))
        by_order (inr enough) = omega (arith, enough, wanted_is)

    brought_by : (r : Result (List ℕ) StoreFault) → result ≡ r → IfOk r (λ t. IsBrought number plan f c t o new before after)
    brought_by (Ok t) is =
        let here : (t ≡ text) × HasChanged (Bring number text plan.take) o new = subst (λ (r : Result (List ℕ) StoreFault). IfOk r (λ t. (t ≡ text) × HasChanged (Bring number text plan.take) o new)) is put.ok in
        subst (λ (x : List ℕ). IsBrought number plan f c x o new before after) (sym here.0)
        (record { fits = fits_by (Ok t) is (λ full. let no : ⊥ = cc in no); bytes = copied; changed = here.1 })
    brought_by (Err e) is = tt

    pub back_put : HasBroughtBack number plan f c o new before after result
    back_put = record {
      ok = brought_by result refl;
      stopped = λ is. record { fits = fits_by (Err Stopped) is (λ full. let no : ⊥ = cc in no); text = text; bytes = copied; stopped = put.stopped is };
      same = put.same;
      causes = put.causes;
      tapes = record {
        only = tapes.only;
        kept = λ _. tapes.kept (λ is. let no : ⊥ = cc in no);
        rose = λ is. absurd (never TapeReadFault (λ e other. (not_tape e other).0) is);
      };
      tied = put.tied;
      told = put.told;
    }

    pub put_waits : (result ≡ Err (WaitTape c.serial)) ↔ (is_mounted (reel c.serial before.reels) ≡ false)
    put_waits = (
      λ is. absurd (never (WaitTape c.serial) (λ e other. (not_tape e other).1 c.serial) is),
      λ off. absurd (true≢false (sym copied.mounted ∙ off)),
    )

    pub put_lost : (name : Full) (serial : ℕ) → result ≡ Err (NoCopy name serial) → HasLostCopy f c name serial o before
    put_lost name serial is = absurd (never (NoCopy name serial) (λ e other. (not_tape e other).2 name serial) is)

    full_is : (wants room : ℕ) (e : StoreFault) → IsOther e → e ≡ DiscFull wants room → (wants ≡ wanted) × (room ≡ plan.room)
    full_is wants room e (inl is) it = let no : ⊥ = cc in absurd no
    full_is wants room e (inr (inl is)) it = let no : ⊥ = cc in absurd no
    full_is wants room e (inr (inr is)) it = ((let one : wants ≡ wanted = cc in one), (let two : room ≡ plan.room = cc in two))

    pub full_back : (wants room : ℕ) → result ≡ Err (DiscFull wants room) → (wants ≡ blocks_for f.rec.len) × (room ≡ plan.room) × (room < wants)
    full_back wants room is =
        let (blocks, free) = full_is wants room (DiscFull wants room) (subst (λ (r : Result (List ℕ) StoreFault). IfErr r IsOther) is put.refusals) refl in
        let same : DiscFull wants room ≡ DiscFull wanted plan.room = (λ i. DiscFull (blocks i) (free i)) in
        let less = put.full.0 (is ∙ ap Err same) in
        (blocks ∙ wanted_is, free, omega (arith, less, blocks, free))

    all_of : (e : StoreFault) → IsOther e → IsOneOf e
    all_of e (inl is) = inr (inr (inr (inr (inl is))))
    all_of e (inr (inl is)) = inr (inr (inr (inr (inr is))))
    all_of e (inr (inr is)) = inr (inr (inr (inl (is ∙ ap (λ (n : ℕ). DiscFull n plan.room) wanted_is))))

    only_by : (r : Result (List ℕ) StoreFault) → IfErr r IsOther → IfErr r IsOneOf
    only_by (Ok t) is = tt
    only_by (Err e) is = all_of e is

    pub put_only : IfErr result IsOneOf
    put_only = only_by result put.refusals

    -- and the store preserves its invariant
    keeps_by : (r : Result (List ℕ) StoreFault) → result ≡ r → o.live ≡ true → IsTied o → IsOnTape number o f c → KeepsDevices o new before after
    keeps_by (Ok t) is live tied away =
        keeps_done o new before after number f c text plan.take live tied away copied tapes.only put.tied put.told
        (subst (λ (r : Result (List ℕ) StoreFault). IfOk r (λ t. (t ≡ text) × HasChanged (Bring number text plan.take) o new)) is put.ok).1
    keeps_by (Err e) is live tied away = by_fault (subst (λ (r : Result (List ℕ) StoreFault). IfErr r IsOther) is put.refusals)
      where
        unchanged : e ≢ Stopped → KeepsDevices o new before after
        unchanged other =
            let same : new ≡ o = subst (λ (r : Result (List ℕ) StoreFault). IfErr r (λ x. x ≢ Stopped → new ≡ o)) is put.same other in
            subst (λ (p : OnlineFacts). KeepsDevices o p before after) (sym same) (keeps_same o before after live tapes.only)

        by_fault : IsOther e → KeepsDevices o new before after
        by_fault (inl stop) = keeps_stopped o new before after number f c text plan.take live tied away copied tapes.only put.tied put.told (put.stopped (is ∙ ap Err stop))
        by_fault (inr (inl memory)) = unchanged (λ stop. let no : ⊥ = cc in no)
        by_fault (inr (inr full)) = unchanged (λ stop. let no : ⊥ = cc in no)

    pub put_keeps : o.live ≡ true → IsTied o → IsOnTape number o f c → KeepsDevices o new before after
    put_keeps live tied away = keeps_by result refl live tied away

  -- a copy that was searched for and is lost
  pub refused_lost : (fault : StoreFault) → o.live ≡ true → IsTied o → IsOnTape number o f c → HasReadCopy (name_of_file o.contents.users (recs_in o.contents) number) c f.rec.len before after (Err fault)
      → (name : Full) (serial : ℕ) → (let r : Result (List ℕ) StoreFault = Err fault in r ≡ Err (NoCopy name serial)) → HasLostCopy f c name serial o before
  refused_lost fault live tied away read name serial is =
      let (full, on, nowhere) = read.lost name serial is in
      is_lost number o before f c name serial away (named o number f c name live tied away full) on nowhere

  pub refused_full : (fault : StoreFault) → IsTapeRefusal c fault → (need room : ℕ) → (let r : Result (List ℕ) StoreFault = Err fault in r ≡ Err (DiscFull need room))
      → (need ≡ blocks_for f.rec.len) × (room ≡ plan.room) × (room < need)
  refused_full fault refusal need room is = absurd (no_full fault need room refusal is)

-- ALL of it, for the file and its copy
pub record IsAnswered (number : ℕ) (plan : Unjam) (o new : OnlineFacts) (before after : Rack) (f : File) (c : TapeCopy) (result : Result (List ℕ) StoreFault) : Type 0 where
  pub waits : (result ≡ Err (WaitTape c.serial)) ↔ (is_mounted (reel c.serial before.reels) ≡ false)
  pub lost : (name : Full) (serial : ℕ) → result ≡ Err (NoCopy name serial) → HasLostCopy f c name serial o before
  pub full : (need room : ℕ) → result ≡ Err (DiscFull need room) → (need ≡ blocks_for f.rec.len) × (room ≡ plan.room) × (room < need)
  pub brought : HasBroughtBack number plan f c o new before after result
  pub keeps : KeepsDevices o new before after
  pub only : IfErr result (IsOneOf number plan o before after f c)

module _ (number : ℕ) (plan : Unjam) (o : OnlineFacts) (before after : Rack) (f : File) (c : TapeCopy) (live : o.live ≡ true) (tied : IsTied o) (away : IsOnTape number o f c) where
  pub by_tape : (fault : StoreFault) → HasReadCopy (name_of_file o.contents.users (recs_in o.contents) number) c f.rec.len before after (Err fault) → IsAnswered number plan o o before after f c (Err fault)
  by_tape fault read = record {
    waits = read.waits;
    lost = refused_lost number plan o before after f c fault live tied away read;
    full = refused_full number plan o before after f c fault read.refusals;
    brought = back_refused number plan o before after f c (name_of_file o.contents.users (recs_in o.contents) number) fault tied read;
    keeps = keeps_same o before after live read.tapes.only;
    only = refused_only number plan o before after f c fault read.refusals;
  }

  pub by_disc : (new : OnlineFacts) (text : List ℕ) (result : Result (List ℕ) StoreFault)
      → (let r : Result (List ℕ) StoreFault = Ok text in HasReadCopy (name_of_file o.contents.users (recs_in o.contents) number) c f.rec.len before after r) → IsPutBack number text plan o new result
      → IsAnswered number plan o new before after f c result
  by_disc new text result read put = record {
    waits = put_waits number plan o before after f c new text result read.ok read.tapes put;
    lost = put_lost number plan o before after f c new text result read.ok read.tapes put;
    full = full_back number plan o before after f c new text result read.ok read.tapes put;
    brought = back_put number plan o before after f c new text result read.ok read.tapes put;
    keeps = put_keeps number plan o before after f c new text result read.ok read.tapes put live tied away;
    only = put_only number plan o before after f c new text result read.ok read.tapes put;
  }

  -- and it may be brought back
  pub may_here : (text : List ℕ) → (let r : Result (List ℕ) StoreFault = Ok text in HasReadCopy (name_of_file o.contents.users (recs_in o.contents) number) c f.rec.len before after r)
      → ((g : File) → Contains o.contents.files g → g.rec.number ≡ number → IsUnjamPlan (blocks_for g.rec.len) o plan.take plan.room)
      → IsAllowed (Bring number text plan.take) o × IsUnjamPlan (blocks_for (length text)) o plan.take plan.room
  may_here text read planned =
      let is = planned f away.there away.number_is in
      (may_bring o number (blocks_for f.rec.len) plan.room f c text plan.take live tied away read.ok.long is, subst (λ (n : ℕ). IsUnjamPlan (blocks_for n) o plan.take plan.room) (sym read.ok.long) is)
