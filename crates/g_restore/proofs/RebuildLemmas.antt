-- Writing the directory to a disc, and the answers.
-- serves: make (survives), rebuild (causes, lost, none, rose), AnswerLemmas
use Rattle.std.proofs.Common.{◌≡◌, ◌≢◌, ◌⊎◌, ℕ, Bool, true, false, List, [], ◌∷◌, Option, Some, None, Result, Ok, Err, refl, sym, ◌∙◌, ap, subst, inl, inr, map}
use Rattle.std.specs.Prelude.{◌==◌, IfErr, is_some, if◌then◌else◌}
use Rattle.std.specs.Option.{option_map}
use Rattle.std.proofs.lemmas.Bool.{cases_eq, cond-false, cond-true, eq-eqb, ne_eqb}
use Rattle.std.proofs.lemmas.List.Elements.{All-map, All-weaker}
use Rattle.g_disc.specs.Disc.{Causes, DiscState}
use Rattle.g_disc.proofs.CallLemmas.{Causes-none}
use Rattle.g_entry.specs.declared.file_rec.FileRec.{FileRec}
use Rattle.g_entry.specs.declared.head.Head.{Head}
use Rattle.g_entry.specs.declared.user_rec.UserRec.{UserRec}
use Rattle.g_entry.specs.Rules.{StampsBelow}
use Rattle.g_tape.specs.Reel.{Reel}
use Rattle.g_tree.specs.Records.{IsRecords}
use Rattle.g_plain.specs.declared.faults.StoreFault.{StoreFault}
use Rattle.g_plain.specs.declared.faults.StoreFault.TheVariants.{DiscReadFault, NoMemory, Stopped}
use Rattle.g_disc_contents.specs.Contents.{Contents, File}
use Rattle.g_incr.specs.Layout.{Dump}
use Rattle.g_shelf.specs.CompletedDumps.{all_dumps}
use Rattle.g_store_meaning.specs.Laws.{restored, restored_file}
use Rattle.g_store_meaning.specs.Meaning.{files_in}
use Rattle.g_online.specs.AllowedChanges.{KeepsRules, Lies}
use Rattle.g_online.specs.declared.fault.OnlineFault.{OnlineFault}
use Rattle.g_online.specs.declared.fault.OnlineFault.TheVariants as online
use Rattle.g_online.specs.Beginning.{first_contents, first_file}
use Rattle.g_online.specs.Change.{told_bytes}
use Rattle.g_online.specs.Faults.{store_fault_of}
use Rattle.g_restore.specs.declared.directory.Dumped.{Dumped}
use Rattle.g_restore.specs.Losses.{LostIsNamed, NamesLost}
use Rattle.g_restore.specs.Reels.{AreOnReels}
use Rattle.g_restore.specs.Restoration.{IsOfDisc, IsOfReels, IsRestored, answer_of}
use Rattle.g_restore.specs.Steps.{CanBeMade, IsFolded, head_of}
use Rattle.g_restore.proofs.DirectoryLemmas.{not_err, same_err}

-- A FILE that is made offline is the one that is restored
abbrev by_first : Option (List (List ℕ)) → FileRec → Bool → File
by_first held r b = if b then record { rec = r; online = true; bytes = told_bytes (is_some held) [] } else record { rec = r; online = false; bytes = None }

abbrev by_restore : Option (List (List ℕ)) → FileRec → Bool → File
by_restore held r b = record { rec = r; online = b; bytes = if b then option_map (λ blocks. []) held else None }

same_file : (held : Option (List (List ℕ))) (r : FileRec) (b : Bool) → by_first held r b ≡ by_restore held r b
same_file None r true = refl
same_file None r false = refl
same_file (Some blocks) r true = refl
same_file (Some blocks) r false = refl

same_files : (held : Option (List (List ℕ))) (rs : List FileRec) → map (first_file (is_some held)) rs ≡ map (restored_file held) rs
same_files held [] = refl
same_files held (r ∷ rs) =
    ap (λ (f : File). f ∷ map (first_file (is_some held)) rs) (same_file held r (r.len == 0)) ∙ ap (λ (fs : List File). restored_file held r ∷ fs) (same_files held rs)

abbrev heading : ℕ → ℕ → Head
heading next last = record { next_stamp = next; last_dump = last; intent = None }

abbrev holding : Head → List UserRec → List File → Contents
holding h us fs = record { head = h; users = us; files = fs }

made_is : (held : Option (List (List ℕ))) (dumps : List Dump) (d : Dumped) (is : IsFolded dumps d)
    → first_contents (is_some held) (head_of d) d.users.items d.files.items ≡ restored held is.directory
made_is held dumps d is =
    let t = is.directory in
    ap (λ (n : ℕ). holding (heading n d.number) d.users.items (map (first_file (is_some held)) d.files.items)) is.next_is
    ∙ ap (λ (n : ℕ). holding (heading t.last.next n) d.users.items (map (first_file (is_some held)) d.files.items)) is.number_is
    ∙ ap (λ (us : List UserRec). holding (heading t.last.next t.last.number) us (map (first_file (is_some held)) d.files.items)) is.users_are
    ∙ ap (λ (rs : List FileRec). holding (heading t.last.next t.last.number) t.last.users (map (first_file (is_some held)) rs)) is.files_are
    ∙ ap (λ (fs : List File). holding (heading t.last.next t.last.number) t.last.users fs) (same_files held (files_in t))

pub is_restored : (reels : List Reel) (held : Option (List (List ℕ))) (dumps : List Dump) (d : Dumped) → AreOnReels reels dumps → IsFolded dumps d
    → IsRestored reels held d.number (first_contents (is_some held) (head_of d) d.users.items d.files.items)
is_restored reels held dumps d on is = record {
  dumps = dumps;
  are = on;
  directory = is.directory;
  places = is.places;
  number_is = is.number_is;
  made_is = made_is held dumps d is;
}

-- The rules of the new directory.
rec_first : (told : Bool) (r : FileRec) (b : Bool) → (let f : File = if b then record { rec = r; online = true; bytes = told_bytes told [] } else record { rec = r; online = false; bytes = None } in f.rec ≡ r)
rec_first told r true = refl
rec_first told r false = refl

recs_first : (told : Bool) (rs : List FileRec) → map (λ f. f.rec) (map (first_file told) rs) ≡ rs
recs_first told [] = refl
recs_first told (r ∷ rs) = ap (λ (q : FileRec). q ∷ map (λ f. f.rec) (map (first_file told) rs)) (rec_first told r (r.len == 0)) ∙ ap (λ (qs : List FileRec). r ∷ qs) (recs_first told rs)

abbrev IsCopied : FileRec → Type 0
IsCopied r = r.len ≢ 0 → is_some r.tape ≡ true

lies_first : (told : Bool) (r : FileRec) → IsCopied r → Lies (first_file told r)
lies_first told r copied = by_length (cases_eq r.len 0)
  where
    by_length : (r.len ≡ 0) ⊎ (r.len ≡ 0 → ⊥) → Lies (first_file told r)
    by_length (inl none) =
        subst Lies (sym (cond-true (r.len == 0) (let f : File = record { rec = r; online = true; bytes = told_bytes told [] } in f) (record { rec = r; online = false; bytes = None }) (eq-eqb r.len 0 none)))
        (record { somewhere = inl refl; empty = λ e. refl })
    by_length (inr some) =
        subst Lies (sym (cond-false (r.len == 0) (let f : File = record { rec = r; online = true; bytes = told_bytes told [] } in f) (record { rec = r; online = false; bytes = None }) (ne_eqb r.len 0 some)))
        (record { somewhere = inr (copied some); empty = λ e. absurd (some e) })

pub keeps_rules : (told : Bool) (d : Dumped) → CanBeMade d → KeepsRules (first_contents told (head_of d) d.users.items d.files.items)
keeps_rules told d can = record {
  head = record { least_stamp = can.first; most_stamp = can.last; last_dump = can.number; intent = tt };
  records = subst (IsRecords d.users.items) (sym (recs_first told d.files.items)) can.records;
  dated = subst (StampsBelow d.next_stamp) (sym (recs_first told d.files.items)) can.dated;
  lie = All-map Lies (first_file told) d.files.items (All-weaker IsCopied (λ r. Lies (first_file told r)) (λ r copied. lies_first told r copied) d.files.items can.copied);
}

-- A REFUSAL OF THE DISC names nothing
disc_names : (A : Type 0) (dumps : List Dump) (fault : StoreFault) → IsOfDisc fault → NamesLost {A = A} dumps (Err fault)
disc_names A dumps DiscReadFault is = tt
disc_names A dumps Stopped is = tt
disc_names A dumps NoMemory is = tt
disc_names A dumps fault is = absurd is

pub made_named : (A B C : Type 0) (reels : List Reel) (dumped : C) (result : Result A (StoreFault × B)) → IfErr result (λ e. IsOfDisc e.0) → LostIsNamed reels (Ok dumped)
    → LostIsNamed reels (answer_of result)
made_named A B C reels dumped (Ok made) only names = names
made_named A B C reels dumped (Err e) only names = λ told shelf shelved apart. disc_names A (all_dumps shelf reels) e.0 only

-- THE ANSWERS of the disc are no others
pub of_disc : {A B : Type 0} (result : Result A (StoreFault × B)) (fault : StoreFault) → IfErr result (λ e. IsOfDisc e.0) → answer_of result ≡ Err fault → IsOfDisc fault
of_disc (Ok made) fault only is = absurd (not_err made fault is)
of_disc (Err e) fault only is = subst IsOfDisc (same_err e.0 fault is) only

-- A disc that wasn't written.
pub idle : (fault : StoreFault) (s : DiscState) → IsOfReels fault → Causes (fault ≡ DiscReadFault) (fault ≡ Stopped) s s
idle fault s is = Causes-none s (λ wrong. subst IsOfReels wrong is) (λ wrong. subst IsOfReels wrong is)

-- The tree that is written to the disc has the gathered records.
same_first : (told : Bool) (d : Dumped) (us : List UserRec) (fs : List FileRec) → us ≡ d.users.items → fs ≡ d.files.items
    → first_contents told (head_of d) us fs ≡ first_contents told (head_of d) d.users.items d.files.items
same_first told d us fs users files =
    ap (λ (x : List UserRec). first_contents told (head_of d) x fs) users ∙ ap (λ (x : List FileRec). first_contents told (head_of d) d.users.items x) files

pub can_begin : (told : Bool) (d : Dumped) (us : List UserRec) (fs : List FileRec) → us ≡ d.users.items → fs ≡ d.files.items → CanBeMade d → KeepsRules (first_contents told (head_of d) us fs)
can_begin told d us fs users files can = subst KeepsRules (sym (same_first told d us fs users files)) (keeps_rules told d can)

-- the filestore's fault is that of a stopped write
pub was_stopped : (fault : OnlineFault) → store_fault_of fault ≡ Stopped → fault ≡ online.Stopped
was_stopped (online.DiscFull need room) is = let no : ⊥ = cc in absurd no
was_stopped online.ReadFault is = let no : ⊥ = cc in absurd no
was_stopped online.Stopped is = refl
was_stopped online.NoFilestore is = let no : ⊥ = cc in absurd no
was_stopped online.NoMemory is = let no : ⊥ = cc in absurd no
