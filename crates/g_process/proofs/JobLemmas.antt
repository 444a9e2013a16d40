-- How the planning is answered, from the catalogue and from what is in memory.
-- serves: first_lost (some), is_there (no, yes), lost, planned, BelongLemmas, PrepareLemmas
use Rattle.std.proofs.Common.{◌≡◌, ◌≢◌, ℕ, zero, suc, ◌+◌, ◌<◌, ◌≤◌, Bool, true, false, List, [], ◌∷◌, get_or, length, map, take, Option, Some, None, refl, sym, ◌∙◌, ap, arith, subst, inl, inr, slice_get, option_map}
use Rattle.std.specs.Prelude.{◌⊎◌, ◌↔◌, All, AllPairs, Contains, IsTrue, IsFalse, is_some}
use Rattle.std.specs.Option.{ForSome}
use Rattle.std.proofs.lemmas.List.Elements.{All-contains, All-push, Contains-get_or}
use Rattle.std.proofs.lemmas.Option.{none-some, same_Some}
use Rattle.std.proofs.lemmas.Bool.{cases_order}
use Rattle.g_base.specs.Block.{blocks_for}
use Rattle.g_entry.specs.declared.file_rec.FileRec.{FileRec}
use Rattle.g_entry.specs.declared.file_rec.TapeCopy.{TapeCopy}
use Rattle.g_entry.specs.declared.user_rec.UserRec.{UserRec}
use Rattle.g_tape.specs.Rack.{AreReels, Rack, reel}
use Rattle.g_tape.specs.Reads.{OnlyReads, blocks_in, blocks_of}
use Rattle.g_tape.specs.Reel.{Reel}
use Rattle.g_tape.proofs.ReadLemmas.{reel_after_reads}
use Rattle.g_plain.specs.declared.faults.StoreFault.{StoreFault}
use Rattle.g_plain.specs.declared.faults.StoreFault.TheVariants.{NoCopy}
use Rattle.g_plain.proofs.Found.{some_of}
use Rattle.g_tree.specs.Records.{full_of, name_of_file}
use Rattle.g_tree.proofs.PutLemmas.{number_found}
use Rattle.g_online.specs.AllowedChanges.{Lies}
use Rattle.g_disc_contents.specs.Contents.{File, recs_in}
use Rattle.g_disc_contents.specs.Facts.{IsTied, OnlineFacts}
use Rattle.g_incr.specs.declared.note.DumpNote.{DumpNote}
use Rattle.g_incr.specs.Layout.{Dump}
use Rattle.g_incr.specs.Plan.{ComesBefore as RecBefore, needs}
use Rattle.g_shelf.specs.declared.rack.Listed.{Listed}
use Rattle.g_shelf.specs.FoundDumps.{AreInRow, note_of}
use Rattle.g_shelf.specs.HeldBlocks.{AreHeld}
use Rattle.g_known.specs.ReelNotes.{AreListed}
use Rattle.g_known.proofs.KnownLemmas.{held_fits}
use Rattle.g_shelf.proofs.OneLemmas.{completed_are_one}
use Rattle.g_laws_store.specs.ForgottenCopies.{every_user}
use Rattle.g_dumper.proofs.BeginLemmas.{after_reads}
use Rattle.g_dumper.proofs.HeldLemmas.{held_ordered}
use Rattle.g_dumper.proofs.IntentLemmas.{rules_here}
use Rattle.g_dumper.proofs.PlanLemmas.{turns}
use Rattle.g_laws_store.proofs.WaitingLemmas.{from_mapped, mapped_there}
use Rattle.g_process.specs.Lists.{IsLost, IsLostIn, IsOfFile, IsThere, notes_at}
use Rattle.g_process.specs.ProcessPlan.{IsFirstLost, IsHeld, living, process_plan, versions}
use Rattle.g_process.specs.Preparation.{IsGranted}
use Rattle.g_process.specs.Progress.{IsReadable, MayWrite}
use Rattle.g_process.proofs.ListLemmas.{noted_at, unlisted}
use Rattle.g_process.proofs.PlanLemmas.{all_living, living_there, number_one, plan_waiting, users_rise, version_there}
use Rattle.g_process.proofs.ReleaseLemmas.{mounted_at, reel_among, take_next}
use Rattle.g_process.proofs.WriteLemmas.{contained, element, element_below}

-- A RECORD that is there is that of a file
pub of_file : (o : OnlineFacts) (r : FileRec) → Contains (recs_in o.contents) r → IsOfFile o r
of_file o r there = from_mapped (λ (f : File). f.rec) o.contents.files r there

pub living_are_files : (o : OnlineFacts) → All (IsOfFile o) (living o.contents)
living_are_files o k d within =
    of_file o (get_or (living o.contents) k d) (living_there o.contents (get_or (living o.contents) k d) (Contains-get_or (living o.contents) k d within))

-- a reel that exposes its contents exists
told_there : (serial : ℕ) (rack : Rack) (blocks : List (List ℕ)) → blocks_of serial rack ≡ Some blocks → (r : Reel) × (reel serial rack.reels ≡ Some r)
told_there serial rack blocks is = by_reel (reel serial rack.reels) is
  where
    by_reel : (x : Option Reel) → blocks_in x ≡ Some blocks → (r : Reel) × (x ≡ Some r)
    by_reel None none = absurd (none-some blocks none)
    by_reel (Some r) some = (r, refl)

-- the catalogue of the rack before
module _ (serial : ℕ) (o : OnlineFacts) (old now : Rack) (lists : List Listed) (are : AreListed old lists) where
  -- what is noted there is held there
  pub held_by_list : (f : File) → Contains o.contents.files f → f.online ≡ false → IsThere o lists f.rec → IsHeld old f
  held_by_list f there off is = record {
    held = λ copy tape blocks told dumps completed.
        let (other, at, noted) = is.there f there refl off in
        let same : other ≡ copy = same_Some other copy (sym at ∙ tape) in
        let (r, found) = told_there copy.serial old blocks told in
        let dumped = noted_at copy.serial old now lists r are found in
        let held = subst (λ (c : TapeCopy). (ds : List Dump) → notes_at c.serial lists ≡ map note_of ds → AreInRow c.serial 0 0 ds → AreHeld ds c (blocks_for f.rec.len)) same noted in
        subst (λ (ds : List Dump). AreHeld ds copy (blocks_for f.rec.len)) (completed_are_one copy.serial blocks dumped.dumps dumps (dumped.found.completed blocks told) completed)
        (held dumped.dumps dumped.notes_are dumped.found.row);
  }

  -- THE FIRST LOST FILE
  module _ (live : o.live ≡ true) (tied : IsTied o) where
    ordered : AllPairs RecBefore (living o.contents)
    ordered =
        let rules = rules_here o live tied in
        held_ordered (every_user o.contents) (recs_in o.contents) (users_rise o.contents.users rules.records.among_users) rules.records.numbers.rising

    below_place : (rs : List FileRec) → AllPairs RecBefore rs → (place j : ℕ) (file q : FileRec) → slice_get rs place ≡ Some file → slice_get rs j ≡ Some q → RecBefore q file → j < place
    below_place rs all place j file q at at_j before = by_order (cases_order j place)
      where
        got : (xs : List FileRec) (k : ℕ) (x d : FileRec) → slice_get xs k ≡ Some x → get_or xs k d ≡ x
        got [] k x d is = absurd (let no : ⊥ = cc in no)
        got (y ∷ ys) zero x d is = same_Some y x is
        got (y ∷ ys) (suc k) x d is = got ys k x d is

        by_order : (j ≡ place) ⊎ ((j < place) ⊎ (place < j)) → j < place
        by_order (inr (inl less)) = less
        by_order (inl e) =
            let same : q ≡ file = same_Some q file (sym at_j ∙ ap (slice_get rs) e ∙ at) in
            let twice : RecBefore file file = subst (λ (x : FileRec). RecBefore x file) same before in
            absurd (turns file file twice twice)
        by_order (inr (inr more)) =
            let here = all place j file more (element_below rs j q at_j) in
            let there : RecBefore file q = subst (λ (x : FileRec). RecBefore file x) (got rs j q file at_j) (subst (λ (x : FileRec). RecBefore x (get_or rs j file)) (got rs place file file at) here) in
            absurd (turns file q there before)

    pub first_lost_is : (fault : StoreFault) → (lost : IsLostIn o lists (living o.contents) fault) → (f : File) × IsFirstLost o old f lost.copy × (f.rec ≡ lost.file)
    first_lost_is fault lost =
        let rules = rules_here o live tied in
        let (f, there, is) = of_file o lost.file (living_there o.contents lost.file (element (living o.contents) lost.place lost.file lost.at)) in
        let off = lost.lost.offline f there is in (
          f,
          record {
            there = there;
            offline = off;
            tape = ap (λ (r : FileRec). r.tape) is ∙ lost.tape;
            lost = λ blocks told dumps completed held.
                let (r, found) = told_there lost.copy.serial old blocks told in
                let dumped = noted_at lost.copy.serial old now lists r are found in
                let same = completed_are_one lost.copy.serial blocks dumps dumped.dumps completed (dumped.found.completed blocks told) in
                lost.lost.missing lost.copy lost.tape dumped.dumps dumped.notes_are dumped.found.row
                (subst (λ (n : ℕ). AreHeld dumped.dumps lost.copy (blocks_for n)) (ap (λ (x : FileRec). x.len) is) (subst (λ (ds : List Dump). AreHeld ds lost.copy (blocks_for f.rec.len)) same held));
            before = λ g in_g off_g comes.
                let (j, at_j) = contained (living o.contents) g.rec (all_living o.contents g.rec rules.records (mapped_there (λ (x : File). x.rec) o.contents.files g in_g)) in
                let comes_rec : RecBefore g.rec lost.file = subst (λ (x : FileRec). RecBefore g.rec x) is comes in
                let less = below_place (living o.contents) ordered lost.place j lost.file g.rec lost.at at_j comes_rec in
                held_by_list g in_g off_g (All-contains (IsThere o lists) (take lost.place (living o.contents)) g.rec lost.before (in_front (living o.contents) lost.place j g.rec less at_j));
          },
          is,
        )
      where
        in_front : (xs : List FileRec) (n k : ℕ) (x : FileRec) → k < n → slice_get xs k ≡ Some x → Contains (take n xs) x
        in_front [] n k x less is = absurd (let no : ⊥ = cc in no)
        in_front (y ∷ ys) zero k x less is = absurd (let no : ⊥ = omega (arith, less) in no)
        in_front (y ∷ ys) (suc n) zero x less is = (0, omega arith, same_Some y x is)
        in_front (y ∷ ys) (suc n) (suc k) x less is =
            let (i, within, same) = in_front ys n k x (omega (arith, less)) is in
            (suc i, omega (arith, within), same)

    -- OR EACH CAN BE READ
    module _ (after : AreReels old.reels) (only : OnlyReads old now) (granted : IsGranted serial o old) (free : notes_at serial lists ≡ []) (all : All (IsThere o lists) (living o.contents)) where
      no_dump : (dumps : List Dump) (copy : TapeCopy) (blocks : ℕ) → 0 < blocks → AreHeld dumps copy blocks → dumps ≡ [] → ⊥
      no_dump dumps copy blocks some held none =
          let one = held 0 some in
          let (i, within, at) = one.there in
          let long : length dumps ≡ 0 = ap (λ (ds : List Dump). length ds) none in
          (let no : ⊥ = omega (arith, within, long) in no)

      none_noted : (dumps : List Dump) → notes_at serial lists ≡ map note_of dumps → dumps ≡ []
      none_noted [] is = refl
      none_noted (d ∷ ds) is = absurd (let none = free in (let no : ⊥ = cc in no))

      filled_blocks : (n : ℕ) → 0 < n → 0 < blocks_for n
      filled_blocks n some = omega (arith, some)

      readable : (r : FileRec) → Contains (versions o.contents) r → IsReadable serial o now r
      readable r there =
          let rules = rules_here o live tied in
          let (in_recs, some) = version_there o.contents r there in
          let (file, in_files, is) = of_file o r in_recs in
          record {
            file = (file, in_files, is);
            offline = λ f in_f named off.
                let one : f.rec ≡ r = number_one (recs_in o.contents) rules.records.numbers.rising r f.rec in_recs (mapped_there (λ (x : File). x.rec) o.contents.files f in_f) named in
                let alive = all_living o.contents r rules.records in_recs in
                let (copy, tape, noted) = (All-contains (IsThere o lists) (living o.contents) r all alive).there f in_f one off in
                by_reel copy tape noted some (reel copy.serial old.reels) refl;
          }
        where
          by_reel : (copy : TapeCopy) → r.tape ≡ Some copy → ((ds : List Dump) → notes_at copy.serial lists ≡ map note_of ds → AreInRow copy.serial 0 0 ds → AreHeld ds copy (blocks_for r.len)) → 0 < r.len
              → (x : Option Reel) → reel copy.serial old.reels ≡ x
              → (c : TapeCopy) × (r.tape ≡ Some c) × (c.serial ≢ serial) × (q : Reel) × (reel c.serial now.reels ≡ Some q) × (q.mounted ≡ true) × (c.first + blocks_for r.len ≤ q.len)
          by_reel copy tape noted some None missing = absurd (no_dump [] copy (blocks_for r.len) (filled_blocks r.len some) (noted [] (unlisted_none copy.serial missing) tt) refl)
            where
              unlisted_none : (s : ℕ) → reel s old.reels ≡ None → notes_at s lists ≡ map note_of []
              unlisted_none s none = unlisted s lists (λ it. let (q, at) = reel_among s old.reels (subst (λ (ns : List ℕ). Contains ns s) are.serials it) in none-some q (sym none ∙ at))
          by_reel copy tape noted some (Some q) found =
              let dumped = noted_at copy.serial old now lists q are found in
              let held = noted dumped.dumps dumped.notes_are dumped.found.row in
              let fits = held_fits copy (blocks_for r.len) dumped.dumps old dumped.found (filled_blocks r.len some) held q found in
              let (p, at, same) = after_reads (reel copy.serial now.reels) (reel copy.serial old.reels) q found (reel_after_reads copy.serial old now only) in (
                copy,
                tape,
                (λ e. no_dump dumped.dumps copy (blocks_for r.len) (filled_blocks r.len some) held
                    (none_noted dumped.dumps (ap (λ (s : ℕ). notes_at s lists) (sym e) ∙ dumped.notes_are))),
                p,
                at,
                ap (λ (x : Reel). x.mounted) same ∙ mounted_at copy.serial old.reels granted.mounted q found,
                subst (λ (n : ℕ). copy.first + blocks_for r.len ≤ n) (sym (ap (λ (x : Reel). x.len) same)) fits,
              )

      pub may_write : (room : ℕ) → ForSome (reel serial now.reels) (λ r. room ≡ r.capacity) → needs (process_plan serial o) ≤ room → MayWrite serial (process_plan serial o) (versions o.contents) o now
      may_write room capacity enough =
          let (r, at) = some_of (reel serial old.reels) granted.there in
          let (q, found, same) = after_reads (reel serial now.reels) (reel serial old.reels) r at (reel_after_reads serial old now only) in
          let is = capacity q found in
          record {
            readable = record {
              waiting_are = plan_waiting serial o;
              each = λ k d within. readable (get_or (versions o.contents) k d) (Contains-get_or (versions o.contents) k d within);
            };
            on = q;
            reel_is = found;
            mounted = ap (λ (x : Reel). x.mounted) same ∙ mounted_at serial old.reels granted.mounted r at;
            room = omega (arith, enough, is);
          }

-- A FILE THAT ISN'T ON THE DISC has a name and a copy
pub named_as : (o : OnlineFacts) (r : FileRec) → o.live ≡ true → IsTied o → IsOfFile o r → name_of_file o.contents.users (recs_in o.contents) r.number ≡ Some (full_of o.contents.users r)
named_as o r live tied (f, there, is) =
    let rules = rules_here o live tied in
    ap (option_map (full_of o.contents.users))
    (number_found o.contents.users (recs_in o.contents) rules.records r.number r (subst (λ (x : FileRec). Contains (recs_in o.contents) x) is (mapped_there (λ (x : File). x.rec) o.contents.files f there)) refl)

pub copied_off : (o : OnlineFacts) (r : FileRec) → o.live ≡ true → IsTied o → IsOfFile o r → ((f : File) → Contains o.contents.files f → f.rec ≡ r → f.online ≡ false) → r.tape ≡ None → ⊥
copied_off o r live tied (f, there, is) off none =
    let rules = rules_here o live tied in
    by_case (All-contains Lies o.contents.files f rules.lie there).somewhere
  where
    by_case : (f.online ≡ true) ⊎ (is_some f.rec.tape ≡ true) → ⊥
    by_case (inl on) = let here = off f there is in (let no : ⊥ = cc in no)
    by_case (inr some) =
        let here : f.rec.tape ≡ None = ap (λ (x : FileRec). x.tape) is ∙ none in
        let no_copy : is_some f.rec.tape ≡ false = ap is_some here in
        (let no : ⊥ = cc in no)

pub named_in : (o : OnlineFacts) (r : FileRec) (users : List UserRec) (files : List FileRec) → o.live ≡ true → IsTied o → IsOfFile o r → users ≡ o.contents.users → files ≡ recs_in o.contents
    → name_of_file users files r.number ≡ Some (full_of o.contents.users r)
named_in o r users files live tied there are_users are_files =
    ap (λ (us : List UserRec). name_of_file us files r.number) are_users ∙ ap (λ (fs : List FileRec). name_of_file o.contents.users fs r.number) are_files ∙ named_as o r live tied there

-- what the test of a file shows
module _ (o : OnlineFacts) (lists : List Listed) (r : FileRec) (is : Bool) (tells : (f : File) → Contains o.contents.files f → f.rec.number ≡ r.number → is ≡ f.online) where
  pub there_online : is ≡ true → IsThere o lists r
  there_online on = record {
    there = λ f in_files same off. absurd (let here = tells f in_files (ap (λ (x : FileRec). x.number) same) in (let no : ⊥ = cc in no));
  }

  module _ (off : is ≡ false) where
    pub lost_none : r.tape ≡ None → IsLost o lists r
    lost_none none = record {
      offline = λ f in_files same. sym (tells f in_files (ap (λ (x : FileRec). x.number) same)) ∙ off;
      missing = λ copy tape. absurd (none-some copy (sym none ∙ tape));
    }

    pub lost_held : (copy : TapeCopy) (held : Bool) (notes : List DumpNote) (blocks : ℕ) → r.tape ≡ Some copy → notes ≡ notes_at copy.serial lists → blocks ≡ blocks_for r.len
        → ((dumps : List Dump) → notes ≡ map note_of dumps → AreInRow copy.serial 0 0 dumps → IsTrue held ↔ AreHeld dumps copy blocks) → IsFalse held → IsLost o lists r
    lost_held copy held notes blocks tape notes_are blocks_are tests no_is = record {
      offline = λ f in_files same. sym (tells f in_files (ap (λ (x : FileRec). x.number) same)) ∙ off;
      missing = λ other other_tape.
          let same : copy ≡ other = same_Some copy other (sym tape ∙ other_tape) in
          subst (λ (c : TapeCopy). (dumps : List Dump) → notes_at c.serial lists ≡ map note_of dumps → AreInRow c.serial 0 0 dumps → AreHeld dumps c (blocks_for r.len) → ⊥) same
          (λ dumps are row all.
          let yes_is : held ≡ true = (tests dumps (notes_are ∙ are) row).1 (subst (AreHeld dumps copy) (sym blocks_are) all) in
          (let no : ⊥ = cc in no));
    }

-- the first that isn't there
pub lost_here : (o : OnlineFacts) (lists : List Listed) (files : List FileRec) (i : ℕ) (r : FileRec) (fault : StoreFault) → slice_get files i ≡ Some r → IsLost o lists r
    → All (IsThere o lists) (take i files) → (copy : TapeCopy) × (r.tape ≡ Some copy) × (fault ≡ NoCopy (full_of o.contents.users r) copy.serial) → IsLostIn o lists files fault
lost_here o lists files i r fault at lost before (copy, tape, is) =
    record { place = i; file = r; at = at; lost = lost; before = before; copy = copy; tape = tape; fault_is = is }

pub one_there : (o : OnlineFacts) (lists : List Listed) (files : List FileRec) (i : ℕ) (r : FileRec) → slice_get files i ≡ Some r → IsThere o lists r → All (IsThere o lists) (take i files)
    → All (IsThere o lists) (take (i + 1) files)
one_there o lists files i r at there before = subst (All (IsThere o lists)) (sym (take_next i files r at)) (All-push (IsThere o lists) (take i files) r before there)
