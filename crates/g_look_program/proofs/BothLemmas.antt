-- The end of a check against a seal with a second rack, from the ends of its three parts.
-- serves: look_against_both (report), tell_rotten_twins (rotten)
use Rattle.std.proofs.Common.{◌≡◌, ◌≢◌, ◌⊎◌, ◌↔◌, inl, inr, ℕ, ◌+◌, ◌<◌, ◌≤◌, Bool, true, false, List, [], ◌∷◌, ◌++◌, length, take, Option, Some, None, IsTrue, is_some, All, refl, sym, ◌∙◌, ap, subst, arith}
use Rattle.std.specs.Prelude.{codes, get_or, map}
use Rattle.std.specs.List.{flat_map}
use Rattle.std.proofs.lemmas.List.{append_assoc, append-nil, get_or-map, length-append, length-map, take-append-le}
use Rattle.std.proofs.Math.Seq.{take-append-add}
use Rattle.g_base.specs.Counts.{Rose}
use Rattle.g_dirs.specs.Directory.{Directory}
use Rattle.g_dirs.specs.Image.{StandsFor}
use Rattle.g_entry.specs.declared.format.Format.{Format}
use Rattle.g_io.specs.Streams.{with_more}
use Rattle.g_lines.specs.Lines.{text_of}
use Rattle.g_store_meaning.specs.Meaning.{told_reels}
use Rattle.g_store_meaning.specs.Reading.{ReelsTold}
use Rattle.g_tape.specs.Rack.{Rack}
use Rattle.g_tape.specs.Reads.{OnlyReads, unread}
use Rattle.g_tape.specs.Reel.{Reel}
use Rattle.g_tape.proofs.ReadLemmas.{blocks_after_reads}
use Rattle.g_look.specs.declared.broken.Broken.{Broken}
use Rattle.g_look.specs.Text.{IsChecked, IsFoundOn}
use Rattle.g_seal.specs.declared.entries.SealedDump.{SealedDump}
use Rattle.g_seal.specs.declared.entries.SealedFile.{SealedFile}
use Rattle.g_seal.specs.declared.rotten_dumps.RottenDump.{RottenDump}
use Rattle.g_seal.specs.declared.twins.Twins.{Twins}
use Rattle.g_seal.specs.Rotten.{AreTwins, IsReport, rotten_dump_line, rotten_lines, twin_lines}
use Rattle.g_twins.specs.Twins as pairs
use Rattle.g_twins.proofs.TwinLemmas.{serials_after}
use Rattle.g_look_program.specs.declared.status.Status.{Status}
use Rattle.g_look_program.specs.declared.status.Status.TheVariants as status
use Rattle.g_look_program.specs.BothRacks.{AreParts, EndsInBoth, IsBegun, IsBrokenOff, IsPrinted, Parts, added, status_with}
use Rattle.g_look_program.specs.Telling.{EndsCheck, EndsLines, EndsQuietly, EndsReport, EndsRottenTwins, EndsTwins, HoldsOne, IsCompared, IsFailed, IsCut, IsQuiet, IsReadLine, IsToldOf, IsWhole, Puts, Written, verdict}

-- WRITES, one after another
abbrev pub written_both : Written → Written → Written
written_both w v = record { before = w.before; after = v.after; faults_before = w.faults_before; faults_after = v.faults_after }

more_twice : (o : Option (List ℕ)) (x y : List ℕ) → with_more (with_more o x) y ≡ with_more o (x ++ y)
more_twice None x y = refl
more_twice (Some bytes) x y = ap (λ (b : List ℕ). Some b) (append_assoc bytes x y)

no_more_written : (o : Option (List ℕ)) → with_more o [] ≡ o
no_more_written None = refl
no_more_written (Some bytes) = ap (λ (b : List ℕ). Some b) (append-nil bytes)

nothing_whole : (w : Written) → IsQuiet w → IsWhole [] w
nothing_whole w quiet = record { all = quiet.same ∙ sym (no_more_written w.before); kept = quiet.kept }

as_text : (t u : List ℕ) (w : Written) → t ≡ u → IsWhole t w → IsWhole u w
as_text t u w is whole = subst (λ (x : List ℕ). IsWhole x w) is whole

cut_longer : (t u : List ℕ) (w : Written) → IsCut t w → IsCut (t ++ u) w
cut_longer t u w cut =
    let (n, within, part) = cut.part in
    record {
      part = (n, omega (arith, within, length-append t u), part ∙ ap (with_more w.before) (sym (take-append-le n t u within)));
      rose = cut.rose;
    }

module _ (w v : Written) (at : v.before ≡ w.after) (count : v.faults_before ≡ w.faults_after) where
  whole_then : (t u : List ℕ) → IsWhole t w → IsWhole u v → IsWhole (t ++ u) (written_both w v)
  whole_then t u one two = record {
    all = two.all ∙ ap (λ (o : Option (List ℕ)). with_more o u) (at ∙ one.all) ∙ more_twice w.before t u;
    kept = two.kept ∙ count ∙ one.kept;
  }

  quiet_then : (t : List ℕ) → IsWhole t w → IsQuiet v → IsWhole t (written_both w v)
  quiet_then t one two = record { all = two.same ∙ at ∙ one.all; kept = two.kept ∙ count ∙ one.kept }

  cut_then : (t u : List ℕ) → IsWhole t w → IsCut u v → IsCut (t ++ u) (written_both w v)
  cut_then t u one cut =
      let (n, within, part) = cut.part in
      record {
        part = (
          length t + n,
          omega (arith, within, length-append t u),
          part ∙ ap (λ (o : Option (List ℕ)). with_more o (take n u)) (at ∙ one.all) ∙ more_twice w.before t (take n u) ∙ ap (with_more w.before) (sym (take-append-add t u n)),
        );
        rose = subst (λ (k : ℕ). Rose k v.faults_after) (count ∙ one.kept) cut.rose;
      }

  puts_then : (due ended : Status) (t u : List ℕ) → IsWhole t w → Puts due u ended v → Puts due (t ++ u) ended (written_both w v)
  puts_then due ended t u one (inl (is, whole)) = inl (is, whole_then t u one whole)
  puts_then due ended t u one (inr (is, cut)) = inr (is, cut_then t u one cut)

  same_then : (P : Written → Type 0) → P w → IsQuiet v → P (written_both w v)
  same_then P is quiet =
      subst (λ (n : ℕ). P (record { before = w.before; after = v.after; faults_before = w.faults_before; faults_after = n })) (sym (quiet.kept ∙ count))
      (subst (λ (o : Option (List ℕ)). P (record { before = w.before; after = o; faults_before = w.faults_before; faults_after = w.faults_after })) (sym (quiet.same ∙ at)) is)

-- the parts that are left
whole_text : (p : Parts) → (p.check ++ p.report ++ p.twins) ++ p.rotten ≡ p.check ++ added p
whole_text p = ap (λ (t : List ℕ). t ++ p.rotten) (append_assoc p.check p.report p.twins) ∙ append_assoc p.check (p.report ++ p.twins) p.rotten

cut_text : (p : Parts) (w : Written) → IsCut (p.check ++ p.report ++ p.twins) w → IsCut (p.check ++ added p) w
cut_text p w cut = subst (λ (t : List ℕ). IsCut t w) (whole_text p) (cut_longer (p.check ++ p.report ++ p.twins) p.rotten w cut)

-- STATUSES
with_some : (text : List ℕ) (so_far : Status) → text ≢ [] → status_with text so_far ≡ status.No
with_some [] so_far some = absurd (some refl)
with_some (byte ∷ more) so_far some = refl

with_both : (a b : List ℕ) (so_far : Status) → status_with (a ++ b) so_far ≡ status_with b (status_with a so_far)
with_both [] b so_far = refl
with_both (byte ∷ a) [] so_far = refl
with_both (byte ∷ a) (one ∷ b) so_far = refl

told_no : (ended : Status) → ended ≡ status.No → IsToldOf ended
told_no ended is = subst IsToldOf (sym is) tt

pub told_of : (ended : Status) → (ended ≡ status.Done) ⊎ ((ended ≡ status.No) ⊎ (ended ≡ status.Nothing)) → IsToldOf ended
told_of ended (inl is) = subst IsToldOf (sym is) tt
told_of ended (inr (inl is)) = subst IsToldOf (sym is) tt
told_of ended (inr (inr is)) = subst IsToldOf (sym is) tt

pub untold_of : (ended : Status) → (ended ≡ status.Done → ⊥) → (ended ≡ status.No → ⊥) → (ended ≡ status.Nothing → ⊥) → IsToldOf ended → ⊥
untold_of status.Done a b c told = a refl
untold_of status.No a b c told = b refl
untold_of status.Nothing a b c told = c refl
untold_of status.Words a b c told = told
untold_of status.Unread a b c told = told
untold_of status.OutputFault a b c told = told
untold_of status.NoMemory a b c told = told
untold_of status.NoSeal a b c told = told

not_failed : (ended : Status) (R : Type 0) → IsFailed ended ⊎ R → IsToldOf ended → R
not_failed ended R (inr is) told = is
not_failed status.Done R (inl is) told = absurd is
not_failed status.No R (inl is) told = absurd is
not_failed status.Nothing R (inl is) told = absurd is
not_failed status.Unread R (inl is) told = absurd told
not_failed status.OutputFault R (inl is) told = absurd told
not_failed status.NoMemory R (inl is) told = absurd told
not_failed status.Words R (inl is) told = absurd told
not_failed status.NoSeal R (inl is) told = absurd told

untold : (due ended : Status) → ended ≡ due → (IsToldOf due → ⊥) → IsToldOf ended → ⊥
untold due ended is not told = not (subst IsToldOf is told)

-- LINES of dumps that are rotten in the second rack
not_empty : (line more : List ℕ) → (line ++ 10 ∷ []) ++ more ≢ []
not_empty [] more is = let no : ⊥ = cc in no
not_empty (byte ∷ line) more is = let no : ⊥ = cc in no

some_lines : (rack : List ℕ) (dumps : List RottenDump) → dumps ≢ [] → text_of (map (rotten_dump_line rack) dumps) ≢ []
some_lines rack [] some = absurd (some refl)
some_lines rack (d ∷ dumps) some = not_empty (rotten_dump_line rack d) (text_of (map (rotten_dump_line rack) dumps))

pub some_twins : (twins : Twins) → twins.rotten.items ≢ [] → text_of (twin_lines twins) ≢ []
some_twins twins = some_lines (codes " IN THE SECOND RACK") twins.rotten.items

-- RACKS that were read between the parts
pub exposed_told : (rack : Rack) → ReelsTold (told_reels rack) → pairs.AreExposed rack
exposed_told rack told k d inside =
    sym (ap (λ (r : Reel). is_some r.blocks) (get_or-map unread rack.reels k d (unread d) inside)) ∙ told.each k (unread d) (omega (arith, inside, length-map rack.reels unread))

pub twins_after : (p p' q q' : Rack) → OnlyReads p p' → OnlyReads q q' → pairs.twin_text p' q' ≡ pairs.twin_text p q
twins_after p p' q q' a b = λ i.
    text_of (flat_map (λ s. pairs.twin_lines s (blocks_after_reads s p p' a i) (blocks_after_reads s q q' b i)) (serials_after p p' a i))
    ++ text_of (flat_map (λ s. pairs.alone_lines s (blocks_after_reads s p p' a i)) (serials_after q q' b i))

-- what the disc holds, by what was found
holds_found : (held : Option (List (List ℕ))) (blocks : List (List ℕ)) → held ≡ Some blocks → (found : Option (Format × Directory)) → IsFoundOn blocks found → IsTrue (is_some found) ↔ HoldsOne held
holds_found held blocks told None none =
    ((λ is. absurd (let no : false ≡ true = is in cc)), λ one. let (others, other_is, d, stands) = one in absurd (none d (subst (λ (b : List (List ℕ)). StandsFor b d) (same_held others other_is) stands)))
  where
    same_held : (others : List (List ℕ)) → held ≡ Some others → others ≡ blocks
    same_held others is = let same : Some others ≡ Some blocks = sym is ∙ told in cc
holds_found held blocks told (Some f) there = ((λ is. (blocks, told, f.1, there.0)), λ one. refl)

module _ (size : ℕ) (held : Option (List (List ℕ))) (first second : Rack) (dumps : List SealedDump) (files : List SealedFile) (found : Twins) (found_is : AreTwins (told_reels second) dumps files found) where
  abbrev Are : Parts → Type 0
  Are p = AreParts size held first second dumps files p

  abbrev Ends : Status → Written → Type 0
  Ends ended w = EndsInBoth ended size held first second dumps files w

  -- THE PARTS
  module _ (broken : Option Broken) (missing : Option ℕ) (text : List ℕ) (checked : IsChecked size held (told_reels first) broken missing text) where
    abbrev parts : List ℕ → Parts
    parts report = record {
      broken = broken;
      missing = missing;
      filestore = is_some checked.found;
      check = text;
      report = report;
      twins = pairs.twin_text first second;
      rotten = text_of (twin_lines found);
    }

    parts_holds : IsTrue (is_some checked.found) ↔ HoldsOne held
    parts_holds = holds_found held checked.blocks checked.is_told checked.found checked.found_is

    are_parts : (report : List ℕ) → IsReport held (told_reels first) found dumps files report → Are (parts report)
    are_parts report reported = record {
      checked = checked;
      holds = parts_holds;
      found = found;
      found_is = found_is;
      reported = reported;
      twins_are = refl;
      rotten_is = refl;
    }

    -- devices that expose their blocks have a report
    abbrev due_report : List ℕ
    due_report = text_of (rotten_lines checked.blocks (told_reels first) found checked.found dumps files)

    is_due : IsReport held (told_reels first) found dumps files due_report
    is_due = record { blocks = checked.blocks; is_told = checked.is_told; found = checked.found; found_is = checked.found_is; text_is = refl }

  -- THE CHECK OF THE FIRST RACK was printed, and its report
  pub record IsTold (ended : Status) (w : Written) : Type 0 where
    pub p : Parts
    pub are : Are p
    pub twins_is : p.twins ≡ pairs.twin_text first second
    pub rotten_is : p.rotten ≡ text_of (twin_lines found)
    pub status_is : ended ≡ status_with p.report (verdict p.broken p.missing p.filestore)
    pub whole : IsWhole (p.check ++ p.report) w

  abbrev pub AfterFirst : Status → Written → Type 0
  AfterFirst ended w = (IsToldOf ended × IsTold ended w) ⊎ ((IsToldOf ended → ⊥) × Ends ended w)

  told_first : (ended : Status) (w : Written) (broken : Option Broken) (missing : Option ℕ) (text report : List ℕ) (checked : IsChecked size held (told_reels first) broken missing text)
      → IsReport held (told_reels first) found dumps files report → ended ≡ status_with report (verdict broken missing (is_some checked.found)) → IsWhole (text ++ report) w → IsTold ended w
  told_first ended w broken missing text report checked reported is whole = record {
    p = parts broken missing text checked report;
    are = are_parts broken missing text checked report reported;
    twins_is = refl;
    rotten_is = refl;
    status_is = is;
    whole = whole;
  }

  cut_first : (w : Written) (broken : Option Broken) (missing : Option ℕ) (text report : List ℕ) (checked : IsChecked size held (told_reels first) broken missing text)
      → IsReport held (told_reels first) found dumps files report → IsCut (text ++ added (parts broken missing text checked report)) w → Ends status.OutputFault w
  cut_first w broken missing text report checked reported cut = inl (parts broken missing text checked report, are_parts broken missing text checked report reported, inr (refl, cut))

  with_nothing : (text : List ℕ) (w : Written) → IsWhole text w → IsWhole (text ++ []) w
  with_nothing text w = as_text text (text ++ []) w (sym (append-nil text))

  by_check : (ended : Status) (w : Written) → EndsCheck ended size held (told_reels first) w → (IsToldOf ended → IsReport held (told_reels first) found dumps files []) → AfterFirst ended w
  by_check status.Done w ((text, checked, whole), holds) reported =
      inl (tt, told_first status.Done w None None text [] checked (reported tt) (ap (verdict None None) (sym ((parts_holds None None text checked).1 holds))) (with_nothing text w whole))
  by_check status.Nothing w ((text, checked, whole), none) reported = inl (tt, told_first status.Nothing w None None text [] checked (reported tt) (by checked.found (λ is. none ((parts_holds None None text checked).0 is))) (with_nothing text w whole))
    where
      by : (found_there : Option (Format × Directory)) → (IsTrue (is_some found_there) → ⊥) → status.Nothing ≡ verdict None None (is_some found_there)
      by None not = refl
      by (Some f) not = absurd (not refl)
  by_check status.No w (inl (b, missing, (text, checked, whole))) reported = inl (tt, told_first status.No w (Some b) missing text [] checked (reported tt) refl (with_nothing text w whole))
  by_check status.No w (inr (n, (text, checked, whole))) reported = inl (tt, told_first status.No w None (Some n) text [] checked (reported tt) refl (with_nothing text w whole))
  by_check status.Unread w (inl whole) reported = inr ((λ is. is), inr ([], inl refl, inl (codes "DISC READ\n", inl refl, inl (refl, whole))))
  by_check status.Unread w (inr whole) reported = inr ((λ is. is), inr ([], inl refl, inl (codes "TAPE READ\n", inr refl, inl (refl, whole))))
  by_check status.OutputFault w (text, inl (broken, missing, checked), cut) reported =
      let report = due_report broken missing text checked in
      inr ((λ is. is), cut_first w broken missing text report checked (is_due broken missing text checked) (cut_longer text (added (parts broken missing text checked report)) w cut))
  by_check status.OutputFault w (text, inr line, cut) reported = inr ((λ is. is), inr ([], inl refl, inl (text, line, inr (refl, cut))))
  by_check status.NoMemory w quiet reported = inr ((λ is. is), inr ([], inl refl, inr (refl, nothing_whole w quiet)))
  by_check status.Words w wrong reported = absurd wrong
  by_check status.NoSeal w wrong reported = absurd wrong

  pub after_first : (ended : Status) (w : Written) → EndsReport ended size held (told_reels first) found dumps files w → AfterFirst ended w
  after_first ended w (inl (check, rest)) = by_check ended w check (not_failed ended (IsReport held (told_reels first) found dumps files []) rest)
  after_first ended w (inr (text, compared, inl (is, whole))) =
      inl (
        told_no ended is,
        told_first ended w compared.broken compared.missing compared.front compared.report compared.checked compared.reported (is ∙ sym (with_some compared.report (verdict compared.broken compared.missing (is_some compared.checked.found)) compared.some))
            (as_text text (compared.front ++ compared.report) w compared.text_is whole),
      )
  after_first ended w (inr (text, compared, inr (is, cut))) =
      let p : Parts = parts compared.broken compared.missing compared.front compared.checked compared.report in
      inr (
        untold status.OutputFault ended is (λ told. told),
        subst (λ (s : Status). Ends s w) (sym is) (cut_first w compared.broken compared.missing compared.front compared.report compared.checked compared.reported
            (cut_text p w (cut_longer (compared.front ++ compared.report) p.twins w (subst (λ (t : List ℕ). IsCut t w) compared.text_is cut)))),
      )

  -- THE LINES OF REELS THAT DIFFER
  pub record IsToldToo (ended : Status) (w : Written) : Type 0 where
    pub p : Parts
    pub are : Are p
    pub rotten_is : p.rotten ≡ text_of (twin_lines found)
    pub status_is : ended ≡ status_with (p.report ++ p.twins) (verdict p.broken p.missing p.filestore)
    pub whole : IsWhole (p.check ++ p.report ++ p.twins) w

  abbrev pub AfterTwins : Status → Written → Type 0
  AfterTwins ended w = (IsToldOf ended × IsToldToo ended w) ⊎ ((IsToldOf ended → ⊥) × Ends ended w)

  module _ (w v : Written) (at : v.before ≡ w.after) (count : v.faults_before ≡ w.faults_after) where
    told_too : (so_far ended : Status) (so : IsTold so_far w) → ended ≡ status_with (pairs.twin_text first second) so_far → IsWhole (pairs.twin_text first second) v → IsToldToo ended (written_both w v)
    told_too so_far ended so is whole =
        let p : Parts = so.p in
        record {
          p = p;
          are = so.are;
          rotten_is = so.rotten_is;
          status_is = is ∙ ap (λ (t : List ℕ). status_with t so_far) (sym so.twins_is) ∙ ap (status_with p.twins) so.status_is ∙ sym (with_both p.report p.twins (verdict p.broken p.missing p.filestore));
          whole = as_text ((p.check ++ p.report) ++ pairs.twin_text first second) (p.check ++ p.report ++ p.twins) (written_both w v)
              (ap (λ (t : List ℕ). (p.check ++ p.report) ++ t) (sym so.twins_is)) (whole_then w v at count (p.check ++ p.report) (pairs.twin_text first second) so.whole whole);
        }

    pub after_twins : (so_far ended : Status) → IsToldOf so_far → IsTold so_far w → EndsTwins so_far (pairs.twin_text first second) ended v → AfterTwins ended (written_both w v)
    after_twins so_far ended told so (inl (none, (is, quiet))) =
        inl (
          subst IsToldOf (sym is) told,
          told_too so_far ended so (is ∙ ap (λ (t : List ℕ). status_with t so_far) (sym none)) (as_text [] (pairs.twin_text first second) v (sym none) (nothing_whole v quiet)),
        )
    after_twins so_far ended told so (inr (inl (some, inl (is, whole)))) = inl (told_no ended is, told_too so_far ended so (is ∙ sym (with_some (pairs.twin_text first second) so_far some)) whole)
    after_twins so_far ended told so (inr (inl (some, inr (is, cut)))) =
        let p : Parts = so.p in
        let twins : List ℕ = pairs.twin_text first second in
        inr (
          untold status.OutputFault ended is (λ it. it),
          subst (λ (s : Status). Ends s (written_both w v)) (sym is) (inl (
            p,
            so.are,
            inr (
              refl,
              cut_text p (written_both w v) (subst (λ (t : List ℕ). IsCut ((p.check ++ p.report) ++ t) (written_both w v)) (sym so.twins_is) (cut_then w v at count (p.check ++ p.report) twins so.whole cut)),
            ),
          )),
        )
    after_twins so_far ended told so (inr (inr (inl puts))) =
        let p : Parts = so.p in
        inr (
          not_told puts,
          inr (p.check ++ p.report, inr (p, so.are, inl refl), inl (codes "TAPE READ\n", inr refl, puts_then w v at count status.Unread ended (p.check ++ p.report) (codes "TAPE READ\n") so.whole puts)),
        )
      where
        not_told : Puts status.Unread (codes "TAPE READ\n") ended v → IsToldOf ended → ⊥
        not_told (inl (is, whole)) = untold status.Unread ended is (λ it. it)
        not_told (inr (is, cut)) = untold status.OutputFault ended is (λ it. it)
    after_twins so_far ended told so (inr (inr (inr (is, quiet)))) =
        let p : Parts = so.p in
        inr (untold status.NoMemory ended is (λ it. it), inr (p.check ++ p.report, inr (p, so.are, inl refl), inr (is, quiet_then w v at count (p.check ++ p.report) so.whole quiet)))

    -- THE LINES OF DUMPS THAT ARE ROTTEN THERE
    whole_status : (so_far ended : Status) (so : IsToldToo so_far w) → ended ≡ status_with so.p.rotten so_far → ended ≡ status_with (added so.p) (verdict so.p.broken so.p.missing so.p.filestore)
    whole_status so_far ended so is =
        let p : Parts = so.p in
        let due : Status = verdict p.broken p.missing p.filestore in
        is ∙ ap (status_with p.rotten) so.status_is ∙ sym (with_both (p.report ++ p.twins) p.rotten due)

    ended_too : (so_far ended : Status) (so : IsToldToo so_far w) → ended ≡ status_with so.p.rotten so_far → IsWhole so.p.rotten v → Ends ended (written_both w v)
    ended_too so_far ended so is whole =
        let p : Parts = so.p in
        inl (
          p,
          so.are,
          inl (
            whole_status so_far ended so is,
            as_text ((p.check ++ p.report ++ p.twins) ++ p.rotten) (p.check ++ added p) (written_both w v) (whole_text p)
                (whole_then w v at count (p.check ++ p.report ++ p.twins) p.rotten so.whole whole),
          ),
        )

    by_lines : (so_far ended : Status) (so : IsToldToo so_far w) → EndsLines so_far so.p.rotten ended v → Ends ended (written_both w v)
    by_lines so_far ended so (inl (none, (is, quiet))) = ended_too so_far ended so (is ∙ ap (λ (t : List ℕ). status_with t so_far) (sym none)) (as_text [] so.p.rotten v (sym none) (nothing_whole v quiet))
    by_lines so_far ended so (inr (some, inl (inl (is, whole)))) = ended_too so_far ended so (is ∙ sym (with_some so.p.rotten so_far some)) whole
    by_lines so_far ended so (inr (some, inl (inr (is, cut)))) =
        let p : Parts = so.p in
        inl (p, so.are, inr (is, subst (λ (t : List ℕ). IsCut t (written_both w v)) (whole_text p) (cut_then w v at count (p.check ++ p.report ++ p.twins) p.rotten so.whole cut)))
    by_lines so_far ended so (inr (some, inr (is, quiet))) =
        let p : Parts = so.p in
        inr (p.check ++ p.report ++ p.twins, inr (p, so.are, inr refl), inr (is, quiet_then w v at count (p.check ++ p.report ++ p.twins) so.whole quiet))

    pub after_lines : (so_far ended : Status) → AfterTwins so_far w → EndsRottenTwins so_far (text_of (twin_lines found)) ended v → Ends ended (written_both w v)
    after_lines so_far ended (inl (told, so)) (inl (same, lines)) = by_lines so_far ended so (subst (λ (t : List ℕ). EndsLines so_far t ended v) (sym so.rotten_is) lines)
    after_lines so_far ended (inl (told, so)) (inr (not, quiet)) = absurd (not told)
    after_lines so_far ended (inr (not, ends)) (inl (same, lines)) = absurd (not same)
    after_lines so_far ended (inr (not, ends)) (inr (same, (is, quiet))) = subst (λ (s : Status). Ends s (written_both w v)) (sym is) (same_then w v at count (Ends so_far) ends quiet)

  -- a check of the first rack that failed
  pub failed_first : (ended : Status) (w : Written) → EndsReport ended size held (told_reels first) found dumps files w → (IsToldOf ended → ⊥) → Ends ended w
  failed_first ended w report not = by (after_first ended w report)
    where
      by : AfterFirst ended w → Ends ended w
      by (inl (told, is)) = absurd (not told)
      by (inr (other, ends)) = ends

  -- THE WHOLE: the three parts one after another, while both racks were only read
  pub all_ends : (one two three : Written) → two.before ≡ one.after → two.faults_before ≡ one.faults_after → three.before ≡ two.after → three.faults_before ≡ two.faults_after
      → (first_after second_after : Rack) (so_far next ended : Status) → ReelsTold (told_reels first) → ReelsTold (told_reels second) → OnlyReads first first_after → OnlyReads second second_after → IsToldOf so_far
      → EndsReport so_far size held (told_reels first) found dumps files one
      → (pairs.AreExposed first_after → pairs.AreExposed second_after → EndsTwins so_far (pairs.twin_text first_after second_after) next two)
      → EndsRottenTwins next (text_of (twin_lines found)) ended three → Ends ended (written_both (written_both one two) three)
  all_ends one two three at count at_last count_last first_after second_after so_far next ended told told_too a b is report twins lines =
      let differ : EndsTwins so_far (pairs.twin_text first second) next two =
      subst (λ (t : List ℕ). EndsTwins so_far t next two) (twins_after first first_after second second_after a b)
      (twins (exposed_told first_after (subst ReelsTold (sym a.reels) told)) (exposed_told second_after (subst ReelsTold (sym b.reels) told_too))) in
      after_lines (written_both one two) three at_last count_last next ended (after_twins one two at count so_far next is (by (after_first so_far one report)) differ) lines
    where
      by : AfterFirst so_far one → IsTold so_far one
      by (inl (told_so, so)) = so
      by (inr (not, ends)) = absurd (not is)

-- A SECOND RACK that couldn't be read, or for which memory ran out
module _ (size : ℕ) (held : Option (List (List ℕ))) (first second : Rack) (dumps : List SealedDump) (files : List SealedFile) (w : Written) where
  pub second_unread : (ended : Status) → Puts status.Unread (codes "TAPE READ\n") ended w → EndsInBoth ended size held first second dumps files w
  second_unread ended puts = inr ([], inl refl, inl (codes "TAPE READ\n", inr refl, puts))

  pub second_starved : IsQuiet w → EndsInBoth status.NoMemory size held first second dumps files w
  second_starved quiet = inr ([], inl refl, inr (refl, nothing_whole w quiet))
