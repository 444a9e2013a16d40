-- The lines of rotten files, one after another, while the devices are only read.
-- serves: push_rotten_files, push_rotten_held (text)
use Rattle.std.proofs.Common.{◌≡◌, ℕ, ◌+◌, ◌<◌, ◌≤◌, Bool, true, false, ◌||◌, List, [], ◌∷◌, ◌++◌, length, take, get_or, Option, Some, None, Result, Ok, Err, refl, sym, ◌∙◌, ap, subst}
use Rattle.std.specs.Prelude.{◌==◌, OnOk, cond, option_map}
use Rattle.std.specs.List.{flat_map}
use Rattle.std.specs.Option.{ForSome}
use Rattle.std.proofs.lemmas.Grind.{flat_map-append}
use Rattle.std.proofs.lemmas.Bool.{cond-false, cond-true}
use Rattle.std.proofs.lemmas.List.{append-nil, append_assoc, take_all, take_more}
use Rattle.g_copy.specs.declared.copy.DiscCopy.{DiscCopy}
use Rattle.g_dirs.specs.declared.dirs.Dirs.{Dirs}
use Rattle.g_dirs.specs.Directory.{FileEntry, copy_at, entries_of}
use Rattle.g_disc.specs.Disc.{DiscState, ReadsByCause}
use Rattle.g_disc.proofs.CallLemmas.{ReadsByCause-for, ReadsByCause-none, ReadsByCause-then}
use Rattle.g_base.specs.declared.memory.NoMemory.{NoMemory}
use Rattle.g_entry.specs.declared.file_rec.FileRec.{FileRec}
use Rattle.g_entry.specs.declared.file_rec.TapeCopy.{TapeCopy}
use Rattle.g_entry.specs.declared.format.Format.{Format}
use Rattle.g_entry.specs.declared.user_rec.UserRec.{UserRec}
use Rattle.g_name.specs.declared.full.Full.{Full}
use Rattle.g_tape.specs.Rack.{Rack}
use Rattle.g_tape.specs.Reel.{Reel}
use Rattle.g_tree.specs.Records.{full_of}
use Rattle.g_lines.specs.Lines.{ended, text_of}
use Rattle.g_store_meaning.specs.Meaning.{told_reels}
use Rattle.g_store_meaning.specs.Reading.{ReelsTold}
use Rattle.g_look.specs.declared.fault.LookFault.{LookFault}
use Rattle.g_look.specs.Looks.{ReadsRackByCause}
use Rattle.g_look.specs.Standing.{found_in}
use Rattle.g_seal.specs.declared.entries.SealedFile.{SealedFile}
use Rattle.g_seal.specs.declared.rotten_dumps.RottenDump.{RottenDump}
use Rattle.g_seal.specs.declared.versions.CopyState.{CopyState}
use Rattle.g_seal.specs.declared.versions.CopyState.TheVariants as state
use Rattle.g_seal.specs.declared.versions.FoundVersion.{FoundVersion}
use Rattle.g_seal.specs.InMemory.{rec_lines, rec_of, rec_version}
use Rattle.g_seal.specs.Rotten.{Marks, disc_state, found_version, is_left_out, is_other, reel_state, rotten_file_line, rotten_files, tape_state, twin_state, version_lines, version_of}
use Rattle.g_seal.proofs.LineLemmas.{rack_never, rack_none, rack_then}

-- the lines of the first i sealed files, while both devices were read
pub record VersionLines (marks : Marks) (dirs : Dirs) (files : List SealedFile) (i : ℕ) (begun text : List ℕ) (disc dnow : DiscState) (old now : Rack) : Type 0 where
  pub disc_reads : ReadsByCause ⊥ disc dnow
  pub tape_reads : ReadsRackByCause ⊥ old now
  pub text_is : ReelsTold (told_reels old) → ForSome disc.held (λ blocks. text ≡ begun
      ++ text_of (flat_map (rec_lines blocks (told_reels old) marks dirs.users.items dirs.online.items dirs.files.items) (take i files)))

pub no_versions : (marks : Marks) (dirs : Dirs) (files : List SealedFile) (begun : List ℕ) (disc : DiscState) (rack : Rack) → VersionLines marks dirs files 0 begun begun disc disc rack rack
no_versions marks dirs files begun disc rack =
    record { disc_reads = ReadsByCause-none disc (λ never. never); tape_reads = rack_none rack; text_is = λ told blocks is. sym (append-nil begun) }

lines_more : {X : Type 0} (f : X → List (List ℕ)) (xs : List X) (i : ℕ) (x : X) → i < length xs → x ≡ get_or xs i x
    → text_of (flat_map f (take (i + 1) xs)) ≡ text_of (flat_map f (take i xs)) ++ text_of (f x)
lines_more f xs i x within at =
    ap (λ ys. text_of (flat_map f ys)) (take_more xs i x within ∙ ap (λ y. take i xs ++ y ∷ []) (sym at))
    ∙ ap text_of (flat_map-append f (take i xs) (x ∷ []))
    ∙ flat_map-append ended (flat_map f (take i xs)) (f x ++ [])
    ∙ ap (λ ys. text_of (flat_map f (take i xs)) ++ text_of ys) (append-nil (f x))

pub version_more : {P Q : Type 0} (marks : Marks) (dirs : Dirs) (files : List SealedFile) (i : ℕ) (s : SealedFile) (v : Option FoundVersion) (begun text next : List ℕ) (disc dmid dnew : DiscState) (old mid new : Rack)
    → i < length files → s ≡ get_or files i s → VersionLines marks dirs files i begun text disc dmid old mid → (P → ⊥) → (Q → ⊥) → ReadsByCause P dmid dnew → ReadsRackByCause Q mid new
    → (ReelsTold (told_reels mid) → ForSome dmid.held (λ blocks. v
    ≡ option_map (rec_version blocks (told_reels mid) marks dirs.users.items dirs.online.items s) (rec_of dirs.files.items s.stamp)))
    → next ≡ text ++ text_of (version_lines v) → VersionLines marks dirs files (i + 1) begun next disc dnew old new
version_more marks dirs files i s v begun text next disc dmid dnew old mid new within at so no_p no_q disc_reads reads found adds =
    let still : told_reels mid ≡ told_reels old = so.tape_reads.only.reels in
    record {
      disc_reads = ReadsByCause-then (λ never. never) so.disc_reads (ReadsByCause-for no_p (λ never. absurd never) disc_reads);
      tape_reads = rack_then (λ wrong. wrong) so.tape_reads (rack_never no_q reads);
      text_is = λ told blocks is.
          let line : SealedFile → List (List ℕ) = rec_lines blocks (told_reels old) marks dirs.users.items dirs.online.items dirs.files.items in
          adds
          ∙ ap (λ (o : Option FoundVersion). text ++ text_of (version_lines o)) (found (subst ReelsTold (sym still) told) blocks (so.disc_reads.held ∙ is))
          ∙ ap (λ (rs : List Reel). text ++ text_of (rec_lines blocks rs marks dirs.users.items dirs.online.items dirs.files.items s)) still
          ∙ ap (λ (xs : List ℕ). xs ++ text_of (line s)) (so.text_is told blocks is)
          ∙ append_assoc begun (text_of (flat_map line (take i files))) (text_of (line s))
          ∙ ap (λ (xs : List ℕ). begun ++ xs) (sym (lines_more line files i s within at));
    }

pub all_versions : (marks : Marks) (dirs : Dirs) (files : List SealedFile) (i : ℕ) (begun text : List ℕ) (disc dnow : DiscState) (old now : Rack) → length files ≤ i
    → VersionLines marks dirs files i begun text disc dnow old now → ReelsTold (told_reels old) → ForSome disc.held (λ blocks. text
    ≡ begun ++ text_of (flat_map (rec_lines blocks (told_reels old) marks dirs.users.items dirs.online.items dirs.files.items) files))
all_versions marks dirs files i begun text disc dnow old now all so told blocks is =
    so.text_is told blocks is ∙ ap (λ (fs : List SealedFile). begun ++ text_of (flat_map (rec_lines blocks (told_reels old) marks dirs.users.items dirs.online.items dirs.files.items) fs)) (take_all i files all)

-- THE STATE of a copy on tape
pub tape_left : (reels : List Reel) (rotten : List RottenDump) (s : SealedFile) (disc : CopyState) (len : ℕ) (copy : TapeCopy) (tape : Option TapeCopy) → tape ≡ Some copy → is_left_out rotten s disc copy ≡ true
    → state.Absent ≡ tape_state reels rotten s disc len tape
tape_left reels rotten s disc len copy tape is left =
    sym (ap (tape_state reels rotten s disc len) is ∙ cond-true (is_left_out rotten s disc copy) state.Absent (reel_state reels copy len s.sum) left)

pub tape_there : (reels : List Reel) (rotten : List RottenDump) (s : SealedFile) (disc : CopyState) (len : ℕ) (copy : TapeCopy) (tape : Option TapeCopy) (x : CopyState) → tape ≡ Some copy → is_left_out rotten s disc copy ≡ false
    → x ≡ reel_state reels copy len s.sum → x ≡ tape_state reels rotten s disc len tape
tape_there reels rotten s disc len copy tape x is left state_is =
    state_is ∙ sym (ap (tape_state reels rotten s disc len) is ∙ cond-false (is_left_out rotten s disc copy) state.Absent (reel_state reels copy len s.sum) left)

pub tape_none : (reels : List Reel) (rotten : List RottenDump) (s : SealedFile) (disc : CopyState) (len : ℕ) (tape : Option TapeCopy) → tape ≡ None → state.Absent ≡ tape_state reels rotten s disc len tape
tape_none reels rotten s disc len tape is = sym (ap (tape_state reels rotten s disc len) is)

-- A VERSION by its parts
pub version_is : (blocks : List (List ℕ)) (reels : List Reel) (marks : Marks) (users : List UserRec) (online : List (ℕ × DiscCopy)) (files : List FileRec) (s : SealedFile) (r : FileRec) (full : Full) (disc tape twin : CopyState)
    (copy : Option DiscCopy) → rec_of files s.stamp ≡ Some r → copy ≡ copy_at online r.number → full ≡ full_of users r → disc ≡ disc_state blocks s.sum copy → tape ≡ tape_state reels marks.rotten s disc r.len r.tape → twin ≡ twin_state marks.twins s disc r.tape
    → (let v : FoundVersion = record { full = full; stamp = r.stamp; place = r.tape; disc = disc; tape = tape; twin = twin } in Some v ≡ option_map (rec_version blocks reels marks users online s) (rec_of files s.stamp))
version_is blocks reels marks users online files s r full disc tape twin copy is copy_is full_is disc_is tape_is twin_is =
    let d : disc ≡ disc_state blocks s.sum (copy_at online r.number) = disc_is ∙ ap (disc_state blocks s.sum) copy_is in
    let t : tape ≡ tape_state reels marks.rotten s (disc_state blocks s.sum (copy_at online r.number)) r.len r.tape = tape_is ∙ ap (λ (x : CopyState). tape_state reels marks.rotten s x r.len r.tape) d in
    let w : twin ≡ twin_state marks.twins s (disc_state blocks s.sum (copy_at online r.number)) r.tape = twin_is ∙ ap (λ (x : CopyState). twin_state marks.twins s x r.tape) d in
    (λ i. Some (record { full = full_is i; stamp = r.stamp; place = r.tape; disc = d i; tape = t i; twin = w i }))
    ∙ sym (ap (option_map (rec_version blocks reels marks users online s)) is)

pub version_gone : (blocks : List (List ℕ)) (reels : List Reel) (marks : Marks) (users : List UserRec) (online : List (ℕ × DiscCopy)) (files : List FileRec) (s : SealedFile) → rec_of files s.stamp ≡ None
    → None ≡ option_map (rec_version blocks reels marks users online s) (rec_of files s.stamp)
version_gone blocks reels marks users online files s is = sym (ap (option_map (rec_version blocks reels marks users online s)) is)

-- THE LINE of a version
pub pushed_rotten : (result : Result (Unit {0}) NoMemory) (found : Option FoundVersion) (v : FoundVersion) (old new : List ℕ) → found ≡ Some v → (is_other v.disc || is_other v.tape) ≡ true
    → OnOk result (new ≡ old ++ ended (rotten_file_line v)) → OnOk result (new ≡ old ++ text_of (version_lines found))
pushed_rotten (Err e) found v old new is rotten pushed = tt
pushed_rotten (Ok u) found v old new is rotten pushed =
    pushed ∙ ap (λ (xs : List ℕ). old ++ xs) (sym (append-nil (ended (rotten_file_line v))))
    ∙ ap (λ (ls : List (List ℕ)). old ++ text_of ls) (sym (ap version_lines is ∙ cond-true (is_other v.disc || is_other v.tape) (rotten_file_line v ∷ []) [] rotten))

pub pushed_none : (found : Option FoundVersion) (v : FoundVersion) (old : List ℕ) → found ≡ Some v → (is_other v.disc || is_other v.tape) ≡ false → old ≡ old ++ text_of (version_lines found)
pushed_none found v old is whole =
    sym (append-nil old) ∙ ap (λ (ls : List (List ℕ)). old ++ text_of ls) (sym (ap version_lines is ∙ cond-false (is_other v.disc || is_other v.tape) (rotten_file_line v ∷ []) [] whole))

-- THE FILES of what the disc holds
same_version : (files : List FileRec) (online : List (ℕ × DiscCopy)) (stamp : ℕ) → version_of (entries_of files online) stamp ≡ option_map (λ (r : FileRec). (r, copy_at online r.number)) (rec_of files stamp)
same_version [] online stamp = refl
same_version (r ∷ files) online stamp = by_stamp (r.stamp == stamp) (version_of (entries_of files online) stamp) (rec_of files stamp) (same_version files online stamp)
  where
    by_stamp : (b : Bool) (x : Option FileEntry) (y : Option FileRec) → x ≡ option_map (λ (q : FileRec). (q, copy_at online q.number)) y
        → cond b (Some (r, copy_at online r.number)) x ≡ option_map (λ (q : FileRec). (q, copy_at online q.number)) (cond b (Some r) y)
    by_stamp true x y same = refl
    by_stamp false x y same = same

same_map : {X Y Z : Type 0} (g : Y → Z) (f : X → Y) (o : Option X) → option_map g (option_map f o) ≡ option_map (λ x. g (f x)) o
same_map g f None = refl
same_map g f (Some x) = refl

same_lines : (blocks : List (List ℕ)) (reels : List Reel) (marks : Marks) (dirs : Dirs) (format : Format) (files : List SealedFile)
    → flat_map (rec_lines blocks reels marks dirs.users.items dirs.online.items dirs.files.items) files ≡ rotten_files blocks reels marks (found_in (Some (format, dirs))) files
same_lines blocks reels marks dirs format [] = refl
same_lines blocks reels marks dirs format (s ∷ files) =
    let one : rec_lines blocks reels marks dirs.users.items dirs.online.items dirs.files.items s ≡ version_lines (option_map (found_version blocks reels marks dirs.users.items s) (version_of (entries_of dirs.files.items dirs.online.items) s.stamp)) =
    ap version_lines (sym (ap (option_map (found_version blocks reels marks dirs.users.items s)) (same_version dirs.files.items dirs.online.items s.stamp)
    ∙ same_map (found_version blocks reels marks dirs.users.items s) (λ (r : FileRec). (r, copy_at dirs.online.items r.number)) (rec_of dirs.files.items s.stamp))) in
    ap (λ (ls : List (List ℕ)). ls ++ flat_map (rec_lines blocks reels marks dirs.users.items dirs.online.items dirs.files.items) files) one
    ∙ ap (λ (ls : List (List ℕ)). version_lines (option_map (found_version blocks reels marks dirs.users.items s) (version_of (entries_of dirs.files.items dirs.online.items) s.stamp)) ++ ls)
    (same_lines blocks reels marks dirs format files)

pub held_report : (blocks : List (List ℕ)) (reels : List Reel) (marks : Marks) (files : List SealedFile) (format : Format) (dirs : Dirs) (here : Option (Format × Dirs)) (result : Result (Unit {0}) LookFault) (old new : List ℕ)
    → here ≡ Some (format, dirs) → OnOk result (new ≡ old ++ text_of (flat_map (rec_lines blocks reels marks dirs.users.items dirs.online.items dirs.files.items) files))
    → OnOk result (new ≡ old ++ text_of (rotten_files blocks reels marks (found_in here) files))
held_report blocks reels marks files format dirs here (Err e) old new some is = tt
held_report blocks reels marks files format dirs here (Ok u) old new some is =
    is ∙ ap (λ (xs : List (List ℕ)). old ++ text_of xs)
    (same_lines blocks reels marks dirs format files ∙ ap (λ (h : Option (Format × Dirs)). rotten_files blocks reels marks (found_in h) files) (sym some))
