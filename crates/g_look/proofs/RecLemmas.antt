-- The rules 10 to 12, for the records and texts that were read, and for the files of the disc.
-- serves: judge_disc (judged), JudgeLemmas, ReadLemmas
use Rattle.std.proofs.Common.{◌≡◌, ◌≢◌, ◌⊎◌, inl, inr, ℕ, ◌≤◌, List, length, Option, Some, None, refl, sym, ◌∙◌, ap, arith, subst}
use Rattle.std.specs.Prelude.{AllPairs, Contains, IfSome, get_or}
use Rattle.std.specs.Option.{option_map}
use Rattle.std.proofs.lemmas.List.{get_or_default}
use Rattle.std.proofs.lemmas.List.Elements.{All-contains}
use Rattle.g_copy.specs.Copy.{bytes_at}
use Rattle.g_copy.specs.declared.copy.DiscCopy.{DiscCopy}
use Rattle.g_entry.specs.declared.file_rec.FileRec.{FileRec}
use Rattle.g_entry.specs.declared.file_rec.TapeCopy.{TapeCopy}
use Rattle.g_entry.specs.declared.user_rec.UserRec.{UserRec}
use Rattle.g_name.specs.declared.full.Full.{Full}
use Rattle.g_tape.specs.Reel.{Reel}
use Rattle.g_dirs.specs.declared.dirs.Dirs.{Dirs}
use Rattle.g_dirs.specs.Directory.{copy_at}
use Rattle.g_tree.specs.Records.{full_of}
use Rattle.g_tree.proofs.RuleLemmas.{one_of_key}
use Rattle.g_disc_contents.specs.Contents.{Contents, File, contents_of, file_of}
use Rattle.g_incr.specs.Layout.{Dump}
use Rattle.g_shelf.specs.CompletedDumps.{all_dumps}
use Rattle.g_store_meaning.specs.Meaning.{IsContent, files_in}
use Rattle.g_restore.specs.declared.dumps.Found.{Found}
use Rattle.g_restore.specs.Losses.{HasPlace}
use Rattle.g_restore.specs.Places.{IsHeld}
use Rattle.g_restore.proofs.PlaceLemmas.{place_held, place_lost}
use Rattle.g_look.specs.declared.broken.Broken.{Broken}
use Rattle.g_look.specs.declared.broken.Broken.TheVariants.{TooNew, LastMissing, TooFar, NoReel, Misplaced, NoCopy, Lengths, Bytes}
use Rattle.g_look.specs.declared.broken.Lie.{Lie}
use Rattle.g_look.specs.declared.broken.Lie.TheVariants.{Disc, Tape}
use Rattle.g_look.specs.Heads.{HeadFits}
use Rattle.g_look.specs.Judging.{IsFirstOfDisc}
use Rattle.g_look.specs.Recs.{HasSameLengths, IsCopyGone, IsLengthOther}
use Rattle.g_look.specs.Rules.{BreaksDisc, DiscFits, FileFits, IsDumpedOf, IsFileOf, IsNamedFor, LiesAt, rule_of}
use Rattle.g_look.specs.SeenDumps.{IsRackPassed, IsSeen}
use Rattle.g_look.specs.Standing.{directory_in}
use Rattle.g_look.specs.Texts.{AgreeAt, AreBytesOther, AreCompared, FileAgrees, IsDumpedPlace, IsSecond, IsTapeText, WasReadAt}
use Rattle.g_look.proofs.DiscLemmas.{file_by, file_there, rec_of_file, rec_there}
use Rattle.g_look.proofs.HeadLemmas.{none_of_head}
use Rattle.g_look.proofs.TextLemmas.{text_at}

-- the bytes of a file on a disc that exposes its blocks
bytes_there : (blocks : List (List ℕ)) (r : FileRec) (o : Option DiscCopy) → (file_of (Some blocks) (r, o)).bytes ≡ option_map (λ c. bytes_at c.blocks c.len blocks) o
bytes_there blocks r None = refl
bytes_there blocks r (Some copy) = refl

tape_some : (P : TapeCopy → Type 0) (o : Option TapeCopy) (x : TapeCopy) → o ≡ Some x → IfSome o P → P x
tape_some P o x at is = subst (λ (q : Option TapeCopy). IfSome q P) at is

text_some : (P : List ℕ → Type 0) (o : Option (List ℕ)) (x : List ℕ) → o ≡ Some x → IfSome o P → P x
text_some P o x at is = subst (λ (q : Option (List ℕ)). IfSome q P) at is

not_some : (copy : TapeCopy) → (let none : Option TapeCopy = None in none ≡ Some copy) → ⊥
not_some copy is = cc

same_text : (x y : List ℕ) → Some x ≡ Some y → x ≡ y
same_text x y is = cc

-- among files with distinct stamps only one has a stamp
pub one_of_stamp : (files : List FileRec) → AllPairs (λ r s. r.stamp ≢ s.stamp) files → (a b : FileRec) → Contains files a → Contains files b → a.stamp ≡ b.stamp → a ≡ b
one_of_stamp files apart a b in_a in_b same = one_of_key (λ r. r.stamp) files a b apart in_a in_b same

module _ (reels : List Reel) (shelf : ℕ → List Dump) (found : List Found) (seen : IsSeen reels shelf found) (dumped : List FileRec) (passed : IsRackPassed (all_dumps shelf reels) dumped)
    (blocks : List (List ℕ)) (dirs : Dirs) where
  abbrev dumps : List Dump
  dumps = all_dumps shelf reels

  abbrev c : Contents
  c = contents_of (Some blocks) (directory_in dirs)

  abbrev f_of : FileRec → File
  f_of r = file_by (Some blocks) dirs.online.items r

  rec_is : (r : FileRec) → (f_of r).rec ≡ r
  rec_is r = rec_of_file (Some blocks) r (copy_at dirs.online.items r.number)

  over_rec : (P : FileRec → Type 0) (r : FileRec) → P r → P (f_of r).rec
  over_rec P r = subst P (sym (rec_is r))

  is_file : (r : FileRec) (full : Full) → Contains dirs.files.items r → full_of dirs.users.items r ≡ full → IsFileOf c full (f_of r)
  is_file r full there named = record { there = file_there (Some blocks) dirs r there; named = ap (full_of dirs.users.items) (rec_is r) ∙ named }

  -- the dumped records are those that were gathered
  dumped_there : (stamp : ℕ) (s : FileRec) → IsDumpedOf dumps stamp s → Contains dumped s
  dumped_there stamp s is = subst (λ (fs : List FileRec). Contains fs s) (passed.files_are is.directory) is.there

  dumped_is : (s : FileRec) (stamp : ℕ) → Contains dumped s → s.stamp ≡ stamp → IsDumpedOf dumps stamp s
  dumped_is s stamp there is =
      let t = passed.given s there in
      record { directory = t; there = subst (λ (fs : List FileRec). Contains fs s) (sym (passed.files_are t)) there; stamp_is = is }

  dumped_apart : (s : FileRec) → Contains dumped s → AllPairs (λ (x y : FileRec). x.stamp ≢ y.stamp) dumped
  dumped_apart s there =
      let t = passed.given s there in
      subst (AllPairs (λ (x y : FileRec). x.stamp ≢ y.stamp)) (passed.files_are t) t.rules.among_files.stamps

  -- RULE 10
  pub first10 : HeadFits shelf reels c.head → (b : Broken) → IsCopyGone found dirs.users.items dirs.files.items b → IsFirstOfDisc shelf reels c b
  first10 fits (NoCopy full copy) (r, there, named, tape, gone) = record {
    breaks = (f_of r, is_file r full there named, ap (λ (s : FileRec). s.tape) (rec_is r) ∙ tape, λ has. place_lost found dumps seen.known r copy tape gone (subst (HasPlace dumps) (rec_is r) has));
    first = none_of_head reels shelf c fits;
  }
  first10 fits other is = absurd is

  abbrev AreHeldAll : Type 0
  AreHeldAll = (r : FileRec) → Contains dirs.files.items r → IsHeld found r

  has_place : AreHeldAll → (f : File) → Contains c.files f → HasPlace dumps f.rec
  has_place held f there =
      let of = rec_there (Some blocks) dirs f there in
      subst (λ (g : File). HasPlace dumps g.rec) of.is (over_rec (HasPlace dumps) of.rec (place_held found dumps seen.known of.rec (held of.rec of.there)))

  least11 : HeadFits shelf reels c.head → AreHeldAll → (e : Broken) → BreaksDisc shelf reels c e → 11 ≤ rule_of e
  least11 fits held (NoCopy full copy) (f, is, at, none) = absurd (none (has_place held f is.there))
  least11 fits held (Lengths full stamp len dumped) is = omega arith
  least11 fits held (Bytes full stamp one other) is = omega arith
  least11 fits held (TooNew a last) is = absurd (let le = none_of_head reels shelf c fits (TooNew a last) is in let no : ⊥ = omega (arith, le) in no)
  least11 fits held (LastMissing last) is = absurd (let le = none_of_head reels shelf c fits (LastMissing last) is in let no : ⊥ = omega (arith, le) in no)
  least11 fits held (TooFar a next) is = absurd (let le = none_of_head reels shelf c fits (TooFar a next) is in let no : ⊥ = omega (arith, le) in no)
  least11 fits held (NoReel serial) is = absurd (let le = none_of_head reels shelf c fits (NoReel serial) is in let no : ⊥ = omega (arith, le) in no)
  least11 fits held (Misplaced serial place end) is = absurd (let le = none_of_head reels shelf c fits (Misplaced serial place end) is in let no : ⊥ = omega (arith, le) in no)
  least11 fits held other is = absurd is

  -- RULE 11
  pub first11 : HeadFits shelf reels c.head → AreHeldAll → (b : Broken) → IsLengthOther dirs.users.items dirs.files.items dumped b → IsFirstOfDisc shelf reels c b
  first11 fits held (Lengths full stamp len other) (r, there, named, stamp_is, len_is, of) = record {
    breaks = (
      f_of r,
      is_file r full there named,
      ap (λ (s : FileRec). s.stamp) (rec_is r) ∙ stamp_is,
      ap (λ (s : FileRec). s.len) (rec_is r) ∙ len_is,
      (of.of, dumped_is of.of stamp of.there (of.stamp ∙ stamp_is), of.len_is),
      λ same. of.other (len_is ∙ same),
    );
    first = least11 fits held;
  }
  first11 fits held other is = absurd is

  abbrev AreLong : Type 0
  AreLong = (r : FileRec) → Contains dirs.files.items r → HasSameLengths dumped r

  same_lengths : AreLong → (f : File) → Contains c.files f → (s : FileRec) → IsDumpedOf dumps f.rec.stamp s → s.len ≡ f.rec.len
  same_lengths long f there s is =
      let of = rec_there (Some blocks) dirs f there in
      let same : of.rec ≡ f.rec = sym (rec_is of.rec) ∙ ap (λ (g : File). g.rec) of.is in
      long of.rec of.there s (dumped_there f.rec.stamp s is) (is.stamp_is ∙ ap (λ (r : FileRec). r.stamp) (sym same)) ∙ ap (λ (r : FileRec). r.len) same

  least12 : HeadFits shelf reels c.head → AreHeldAll → AreLong → (e : Broken) → BreaksDisc shelf reels c e → 12 ≤ rule_of e
  least12 fits held long (Bytes full stamp one other) is = omega arith
  least12 fits held long (Lengths full stamp len dumped_len) (f, is, at, len_is, (s, it, other_is), other) =
      absurd (other (sym len_is ∙ sym (same_lengths long f is.there s (subst (λ (n : ℕ). IsDumpedOf dumps n s) (sym at) it)) ∙ other_is))
  least12 fits held long (NoCopy full copy) is = absurd (let le = least11 fits held (NoCopy full copy) is in let no : ⊥ = omega (arith, le) in no)
  least12 fits held long (TooNew a last) is = absurd (let le = least11 fits held (TooNew a last) is in let no : ⊥ = omega (arith, le) in no)
  least12 fits held long (LastMissing last) is = absurd (let le = least11 fits held (LastMissing last) is in let no : ⊥ = omega (arith, le) in no)
  least12 fits held long (TooFar a next) is = absurd (let le = least11 fits held (TooFar a next) is in let no : ⊥ = omega (arith, le) in no)
  least12 fits held long (NoReel serial) is = absurd (let le = least11 fits held (NoReel serial) is in let no : ⊥ = omega (arith, le) in no)
  least12 fits held long (Misplaced serial place end) is = absurd (let le = least11 fits held (Misplaced serial place end) is in let no : ⊥ = omega (arith, le) in no)
  least12 fits held long other is = absurd is

  -- RULE 12: a place that is named, and what was read there
  module _ (held : Option (List (List ℕ))) (told : held ≡ Some blocks) (r : FileRec) (there : Option (List ℕ)) (second : Option TapeCopy) (is : AreCompared held dirs.online.items dumped r there second) where
    disc_is : (f_of r).bytes ≡ there
    disc_is = bytes_there blocks r (copy_at dirs.online.items r.number) ∙ sym (is.there_is blocks told)

    in_place : (place : Option TapeCopy) → IsDumpedPlace dumped r.stamp place → (s : FileRec) → Contains dumped s → s.stamp ≡ r.stamp → (copy : TapeCopy) → s.tape ≡ Some copy → place ≡ Some copy
    in_place None none s in_s stamp copy tape = sym (none s in_s stamp) ∙ tape
    in_place (Some other) (of, in_of, of_stamp, of_tape) s in_s stamp copy tape =
        sym of_tape ∙ ap (λ (x : FileRec). x.tape) (one_of_stamp dumped (dumped_apart s in_s) of s in_of in_s (of_stamp ∙ sym stamp)) ∙ tape

    -- each place that is named is one of the two
    place_named : (copy : TapeCopy) → IsNamedFor dumps (f_of r) copy → (r.tape ≡ Some copy) ⊎ (second ≡ Some copy)
    place_named copy (inl named) = inl (ap (λ (s : FileRec). s.tape) (sym (rec_is r)) ∙ named)
    place_named copy (inr (s, it, named)) =
        by_second (in_place is.place is.place_is s (dumped_there (f_of r).rec.stamp s it) (it.stamp_is ∙ ap (λ (x : FileRec). x.stamp) (rec_is r)) copy named) is.second_is
      where
        by_second : is.place ≡ Some copy → IsSecond r.tape is.place second → (r.tape ≡ Some copy) ⊎ (second ≡ Some copy)
        by_second at (inl same) = inr (same ∙ at)
        by_second at (inr none) = inl (sym none.1 ∙ at)

    -- and each of the two is named
    second_named : (copy : TapeCopy) → second ≡ Some copy → (s : FileRec) × Contains dumped s × (s.stamp ≡ r.stamp) × (s.tape ≡ Some copy)
    second_named copy at = by_second is.second_is is.place is.place_is refl
      where
        by_second : IsSecond r.tape is.place second → (place : Option TapeCopy) → IsDumpedPlace dumped r.stamp place → is.place ≡ place
            → (s : FileRec) × Contains dumped s × (s.stamp ≡ r.stamp) × (s.tape ≡ Some copy)
        by_second (inl same) None none eq = absurd (not_some copy (sym eq ∙ sym same ∙ at))
        by_second (inl same) (Some e) (s, in_s, stamp, tape) eq = (s, in_s, stamp, tape ∙ sym eq ∙ sym same ∙ at)
        by_second (inr none) place named eq = absurd (not_some copy (sym none.0 ∙ at))

    -- THE TEXT OF EACH PLACE
    module _ (agree : AgreeAt reels r.len there r.tape second) where
      abbrev Which : List ℕ → Type 0
      Which x = (there ≡ Some x) ⊎ (((k : TapeCopy) × (r.tape ≡ Some k) × (x ≡ agree.x)) ⊎ ((k : TapeCopy) × (second ≡ Some k) × (x ≡ agree.y)))

      which : (lie : Lie) (x : List ℕ) → LiesAt dumps (f_of r) lie x → Which x
      which Disc x lies = inl (sym disc_is ∙ lies)
      which (Tape copy) x lies = by_place (place_named copy lies.named)
        where
          long : length x ≡ r.len
          long = lies.long ∙ ap (λ (s : FileRec). s.len) (rec_is r)

          by_place : (r.tape ≡ Some copy) ⊎ (second ≡ Some copy) → Which x
          by_place (inl at) =
              inr (inl (copy, at, text_at reels shelf found seen copy r.len agree.x x (tape_some (λ k. IsTapeText reels k r.len agree.x) r.tape copy at agree.first_is) lies.content long))
          by_place (inr at) =
              inr (inr (copy, at, text_at reels shelf found seen copy r.len agree.y x (tape_some (λ k. IsTapeText reels k r.len agree.y) second copy at agree.second_is) lies.content long))

      disc_x : (x : List ℕ) (k : TapeCopy) → there ≡ Some x → r.tape ≡ Some k → x ≡ agree.x
      disc_x x k at tape = tape_some (λ e. x ≡ agree.x) r.tape k tape (text_some (λ b. IfSome r.tape (λ e. b ≡ agree.x)) there x at agree.disc_first)

      disc_y : (x : List ℕ) (k : TapeCopy) → there ≡ Some x → second ≡ Some k → x ≡ agree.y
      disc_y x k at tape = tape_some (λ e. x ≡ agree.y) second k tape (text_some (λ b. IfSome second (λ e. b ≡ agree.y)) there x at agree.disc_second)

      x_y : (k e : TapeCopy) → r.tape ≡ Some k → second ≡ Some e → agree.x ≡ agree.y
      x_y k e tape at = tape_some (λ q. agree.x ≡ agree.y) second e at (tape_some (λ q. IfSome second (λ w. agree.x ≡ agree.y)) r.tape k tape agree.both)

      two_are_one : (x y : List ℕ) → Which x → Which y → x ≡ y
      two_are_one x y (inl a) (inl b) = same_text x y (sym a ∙ b)
      two_are_one x y (inl a) (inr (inl (k, tape, y_is))) = disc_x x k a tape ∙ sym y_is
      two_are_one x y (inl a) (inr (inr (k, at, y_is))) = disc_y x k a at ∙ sym y_is
      two_are_one x y (inr (inl (k, tape, x_is))) (inl b) = x_is ∙ sym (disc_x y k b tape)
      two_are_one x y (inr (inl (k, tape, x_is))) (inr (inl (e, tape_e, y_is))) = x_is ∙ sym y_is
      two_are_one x y (inr (inl (k, tape, x_is))) (inr (inr (e, at, y_is))) = x_is ∙ x_y k e tape at ∙ sym y_is
      two_are_one x y (inr (inr (k, at, x_is))) (inl b) = x_is ∙ sym (disc_y y k b at)
      two_are_one x y (inr (inr (k, at, x_is))) (inr (inl (e, tape, y_is))) = x_is ∙ sym (x_y e k tape at) ∙ sym y_is
      two_are_one x y (inr (inr (k, at, x_is))) (inr (inr (e, at_e, y_is))) = x_is ∙ sym y_is

      one_text : (one other : Lie) (x y : List ℕ) → LiesAt dumps (f_of r) one x → LiesAt dumps (f_of r) other y → x ≡ y
      one_text one other x y lies_x lies_y = two_are_one x y (which one x lies_x) (which other y lies_y)

    -- WHAT WAS READ lies there
    module _ (place : HasPlace dumps r) (long : HasSameLengths dumped r) where
      content_of : (s : FileRec) (copy : TapeCopy) (len : ℕ) (x : List ℕ) → HasPlace dumps s → s.tape ≡ Some copy → s.len ≡ len → IsTapeText reels copy len x → (length x ≡ len) × IsContent dumps copy x
      content_of s copy len x has tape len_is read =
          let (t, t_long, content) = subst (λ (o : Option TapeCopy). IfSome o (λ k. (t : List ℕ) × (length t ≡ s.len) × IsContent dumps k t)) tape has in
          let same : t ≡ x = text_at reels shelf found seen copy len x t read content (t_long ∙ len_is) in
          (ap length (sym same) ∙ t_long ∙ len_is, subst (IsContent dumps copy) same content)

      dumped_place : (s : FileRec) → Contains dumped s → HasPlace dumps s
      dumped_place s in_s =
          let it = dumped_is s s.stamp in_s refl in
          All-contains (HasPlace dumps) (files_in it.directory) s (passed.fits.places it.directory) it.there

      lies_there : (lie : Lie) (x : List ℕ) → WasReadAt reels r.len there r.tape second lie x → LiesAt dumps (f_of r) lie x
      lies_there Disc x at = disc_is ∙ at
      lies_there (Tape copy) x (inl tape, read) =
          let (x_long, content) = content_of r copy r.len x place tape refl read in
          record {
            named = inl (ap (λ (s : FileRec). s.tape) (rec_is r) ∙ tape);
            long = x_long ∙ ap (λ (s : FileRec). s.len) (sym (rec_is r));
            content = content;
          }
      lies_there (Tape copy) x (inr at, read) =
          let (s, in_s, stamp, tape) = second_named copy at in
          let (x_long, content) = content_of s copy r.len x (dumped_place s in_s) tape (long s in_s stamp) read in
          record {
            named = inr (s, dumped_is s (f_of r).rec.stamp in_s (stamp ∙ ap (λ (q : FileRec). q.stamp) (sym (rec_is r))), tape);
            long = x_long ∙ ap (λ (q : FileRec). q.len) (sym (rec_is r));
            content = content;
          }

  module _ (held : Option (List (List ℕ))) (told : held ≡ Some blocks) (fits : HeadFits shelf reels c.head) (are_held : AreHeldAll) (are_long : AreLong) where
    pub first12 : (b : Broken) → AreBytesOther held reels dirs.online.items dumped dirs.users.items dirs.files.items b → IsFirstOfDisc shelf reels c b
    first12 (Bytes full stamp one other) (r, there, named, stamp_is, differ) =
        let place = place_held found dumps seen.known r (are_held r there) in
        let long = are_long r there in
        record {
          breaks = (
            f_of r,
            is_file r full there named,
            ap (λ (s : FileRec). s.stamp) (rec_is r) ∙ stamp_is,
            differ.differ.x,
            differ.differ.y,
            lies_there held told r differ.there differ.second differ.compared place long one differ.differ.x differ.differ.one_is,
            lies_there held told r differ.there differ.second differ.compared place long other differ.differ.y differ.differ.other_is,
            differ.differ.differ,
          );
          first = least12 fits are_held are_long;
        }
    first12 other is = absurd is

    file_fits : (r : FileRec) → Contains dirs.files.items r → FileAgrees held reels dirs.online.items dumped r → FileFits dumps (f_of r)
    file_fits r there agrees = record {
      long = λ bytes at. subst (λ (o : Option (List ℕ)). IfSome o (λ b. length b ≡ r.len)) (sym (disc_is held told r agrees.there agrees.second agrees.compared) ∙ at) agrees.compared.long
          ∙ ap (λ (s : FileRec). s.len) (sym (rec_is r));
      copy = over_rec (HasPlace dumps) r (place_held found dumps seen.known r (are_held r there));
      lengths = same_lengths are_long (f_of r) (file_there (Some blocks) dirs r there);
      bytes = one_text held told r agrees.there agrees.second agrees.compared agrees.agree;
    }

    pub fits_all : ((r : FileRec) → Contains dirs.files.items r → FileAgrees held reels dirs.online.items dumped r) → DiscFits shelf reels c
    fits_all agree = record {
      numbers = fits.numbers;
      has_last = fits.has_last;
      stamps = fits.stamps;
      intent = fits.intent;
      files = λ k d inside.
          let f = get_or c.files k d in
          let of = rec_there (Some blocks) dirs f (k, inside, get_or_default c.files k f d inside) in
          subst (FileFits dumps) of.is (file_fits of.rec of.there (agree of.rec of.there));
    }

-- for the same lists under another name
pub gone_as : (found : List Found) (users us : List UserRec) (files fs : List FileRec) (b : Broken) → users ≡ us → files ≡ fs → IsCopyGone found users files b → IsCopyGone found us fs b
gone_as found users us files fs b same_users same_files is =
    subst (λ (x : List UserRec). IsCopyGone found x fs b) same_users (subst (λ (x : List FileRec). IsCopyGone found users x b) same_files is)

pub length_as : (users us : List UserRec) (files fs dumped : List FileRec) (b : Broken) → users ≡ us → files ≡ fs → IsLengthOther users files dumped b → IsLengthOther us fs dumped b
length_as users us files fs dumped b same_users same_files is =
    subst (λ (x : List UserRec). IsLengthOther x fs dumped b) same_users (subst (λ (x : List FileRec). IsLengthOther users x dumped b) same_files is)

pub each_as : (P : FileRec → Type 0) (files fs : List FileRec) → files ≡ fs → ((r : FileRec) → Contains files r → P r) → (r : FileRec) → Contains fs r → P r
each_as P files fs same each = subst (λ (x : List FileRec). (r : FileRec) → Contains x r → P r) same each
