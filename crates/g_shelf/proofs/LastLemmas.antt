-- The last dump of the reels seen so far.
-- serves: first_unmounted (all, first), last_dump (faults, none, some), crates above
use Rattle.std.proofs.Common.{◌≡◌, ◌⊎◌, ℕ, zero, suc, ◌+◌, ◌-◌, ◌<◌, ◌≤◌, Bool, true, false, List, [], ◌∷◌, ◌++◌, length, get_or, take, Option, Some, None, Err, refl, sym, ◌∙◌, ap, arith, slice_get, subst, inl, inr, map, All}
use Rattle.std.specs.Prelude.{Contains, IfNone, IfSome, MatchOption, find, nat_lt, not, option_map, if◌then◌else◌}
use Rattle.std.specs.Option.{ForSome}
use Rattle.std.proofs.lemmas.Bool.{cases_Bool, ltb-true, ltb-false, cond-true, cond-false}
use Rattle.std.proofs.lemmas.List.{take_all}
use Rattle.std.proofs.lemmas.List.Elements.{All-contains, All-nil, All-push, All-weaker, Contains-append_left, Contains-push}
use Rattle.std.proofs.lemmas.Option.{same_Some}
use Rattle.g_tape.specs.Rack.{AreReels, Rack, is_mounted, reel, refuses_unmount}
use Rattle.g_tape.specs.Reads.{OnlyReads, blocks_in, blocks_of}
use Rattle.g_tape.specs.Reel.{Reel}
use Rattle.g_tape.proofs.ReadLemmas.{blocks_after_reads, more_reads, nothing_read, reel_after_reads}
use Rattle.g_incr.specs.declared.fault.ShelfFault.{ShelfFault}
use Rattle.g_incr.specs.declared.fault.ShelfFault.TheVariants.{NoTape, NotMounted, ReadFault, NoMemory}
use Rattle.g_incr.specs.declared.note.DumpNote.{DumpNote}
use Rattle.g_incr.specs.Layout.{Dump}
use Rattle.g_incr.specs.Reading.{HasReadDump, ReadsReel}
use Rattle.g_shelf.specs.CompletedDumps.{AreCompleted, end_of}
use Rattle.g_shelf.specs.FoundDumps.{AreInRow, AreRead, note_of}
use Rattle.g_shelf.specs.LastDump.{HasBelow, HasDumps, HasUpTo, HaveNone, IsLast, first_unmounted}
use Rattle.g_shelf.specs.ReaderSteps.{later}
use Rattle.g_shelf.proofs.RackLemmas.{IsAt, reel_at}
use Rattle.g_shelf.proofs.ReadLemmas.{last-map, len-unread, read_dump_then, then_read_dump}
use Rattle.g_shelf.proofs.RowLemmas.{IsTop, in_row, none_last, top}

-- the last dump of these reels, or none
abbrev pub LastOf : List Reel → Option (ℕ × DumpNote) → Type 0
LastOf rs last = MatchOption last (HaveNone rs) (λ l. IsLast rs l.0 l.1)

-- The numbers of all dumps in the list are less than n.
weaker_upto : (m n : ℕ) → m ≤ n → (r : Reel) → HasUpTo m r → HasUpTo n r
weaker_upto m n le r has blocks told =
    let (dumps, are, each) = has blocks told in
    (dumps, are, All-weaker (λ (d : Dump). d.number ≤ m) (λ (d : Dump). d.number ≤ n) (λ d most. omega arith) dumps each)

weaker_below : (m n : ℕ) → m < n → (r : Reel) → HasUpTo m r → HasBelow n r
weaker_below m n below r has blocks told =
    let (dumps, are, each) = has blocks told in
    (dumps, are, All-weaker (λ (d : Dump). d.number ≤ m) (λ (d : Dump). d.number < n) (λ d most. omega arith) dumps each)

none_upto : (n : ℕ) (r : Reel) → HasDumps (λ dumps. dumps ≡ []) r → HasUpTo n r
none_upto n r has blocks told =
    let (dumps, are, none) = has blocks told in
    (dumps, are, subst (All (λ (d : Dump). d.number ≤ n)) (sym none) (All-nil (λ (d : Dump). d.number ≤ n)))

none_below : (n : ℕ) (r : Reel) → HasDumps (λ dumps. dumps ≡ []) r → HasBelow n r
none_below n r has blocks told =
    let (dumps, are, none) = has blocks told in
    (dumps, are, subst (All (λ (d : Dump). d.number < n)) (sym none) (All-nil (λ (d : Dump). d.number < n)))

-- One more reel, whose serial is greater than those of the reels before it.
module _ (rs : List Reel) (r : Reel) (dumps : List Dump) (before : All (λ q. q.serial < r.serial) rs) (are : ForSome r.blocks (λ blocks. AreCompleted r.serial blocks dumps)) where
  has_none : dumps ≡ [] → HasDumps (λ ds. ds ≡ []) r
  has_none none blocks told = (dumps, are blocks told, none)

  has_upto : (n : ℕ) → All (λ d. d.number ≤ n) dumps → HasUpTo n r
  has_upto n each blocks told = (dumps, are blocks told, each)

  -- the last dump stays, since no dump of the new reel has a greater number
  stays : (serial : ℕ) (note : DumpNote) (last : IsLast rs serial note) → HasUpTo last.dump.number r → IsLast (rs ++ r ∷ []) serial note
  stays serial note last upto =
      let below : last.at.serial < r.serial = All-contains (λ (q : Reel). q.serial < r.serial) rs last.at before last.there in
      let serial_is = last.serial_is in
      record {
        dump = last.dump;
        rules = last.rules;
        on = last.on;
        note_is = last.note_is;
        at = last.at;
        there = Contains-append_left rs (r ∷ []) last.at last.there;
        serial_is = serial_is;
        completed = last.completed;
        fits = last.fits;
        greatest = All-push (HasUpTo last.dump.number) rs r last.greatest upto;
        first = All-push (λ (q : Reel). q.serial < serial → HasBelow last.dump.number q) rs r last.first (λ lower. let no : ⊥ = omega arith in absurd no);
      }

  -- If all earlier dumps have lower numbers, the last dump of the new reel is the last of all.
  comes : (d : Dump) → AreInRow r.serial 0 0 dumps → end_of dumps ≤ r.len → IsTop 0 0 dumps d → All (HasUpTo d.number) rs → All (HasBelow d.number) rs → IsLast (rs ++ r ∷ []) r.serial (note_of d)
  comes d row fits is_top upto below =
      let is = in_row r.serial 0 0 dumps row d is_top.there in
      let end = is_top.end in
      record {
        dump = d;
        rules = is.rules;
        on = is.on;
        note_is = refl;
        at = r;
        there = Contains-push rs r;
        serial_is = refl;
        completed = λ blocks told. (dumps, are blocks told, is_top.there);
        fits = omega arith;
        greatest = All-push (HasUpTo d.number) rs r upto (has_upto d.number is_top.most);
        first = All-push (λ (q : Reel). q.serial < r.serial → HasBelow d.number q) rs r (λ k e within lower. below k e within) (λ lower. let no : ⊥ = omega arith in absurd no);
      }

  no_dumps : (last : Option (ℕ × DumpNote)) → dumps ≡ [] → LastOf rs last → LastOf (rs ++ r ∷ []) last
  no_dumps None none is = All-push (HasDumps (λ ds. ds ≡ [])) rs r is (has_none none)
  no_dumps (Some l) none is = stays l.0 l.1 is (none_upto is.dump.number r (has_none none))

  one_last : (last : Option (ℕ × DumpNote)) (d : Dump) → AreInRow r.serial 0 0 dumps → end_of dumps ≤ r.len → IsTop 0 0 dumps d → LastOf rs last → LastOf (rs ++ r ∷ []) (later last r.serial (Some (note_of d)))
  one_last None d row fits is_top is =
      comes d row fits is_top
      (All-weaker (HasDumps (λ ds. ds ≡ [])) (HasUpTo d.number) (λ q has. none_upto d.number q has) rs is)
      (All-weaker (HasDumps (λ ds. ds ≡ [])) (HasBelow d.number) (λ q has. none_below d.number q has) rs is)
  one_last (Some l) d row fits is_top is = by_number (cases_Bool (nat_lt l.1.number d.number))
    where
      noted : l.1.number ≡ is.dump.number
      noted = ap (λ (n : DumpNote). n.number) is.note_is

      by_number : (nat_lt l.1.number d.number ≡ true) ⊎ (nat_lt l.1.number d.number ≡ false) → LastOf (rs ++ r ∷ []) (later (Some l) r.serial (Some (note_of d)))
      by_number (inl lower) =
          let below : l.1.number < d.number = ltb-true l.1.number d.number lower in
          let number = noted in
          subst (LastOf (rs ++ r ∷ [])) (sym (cond-true (nat_lt l.1.number d.number) (Some (r.serial, note_of d)) (Some l) lower))
          (comes d row fits is_top
          (All-weaker (HasUpTo is.dump.number) (HasUpTo d.number) (λ q has. weaker_upto is.dump.number d.number (omega arith) q has) rs is.greatest)
          (All-weaker (HasUpTo is.dump.number) (HasBelow d.number) (λ q has. weaker_below is.dump.number d.number (omega arith) q has) rs is.greatest))
      by_number (inr not_lower) =
          let most : d.number ≤ l.1.number = ltb-false l.1.number d.number not_lower in
          let number = noted in
          subst (LastOf (rs ++ r ∷ [])) (sym (cond-false (nat_lt l.1.number d.number) (Some (r.serial, note_of d)) (Some l) not_lower))
          (stays l.0 l.1 is (has_upto is.dump.number (All-weaker (λ (e : Dump). e.number ≤ d.number) (λ (e : Dump). e.number ≤ is.dump.number) (λ e low. omega arith) dumps is_top.most)))

  -- The same for either of the two.
  one_more : (last : Option (ℕ × DumpNote)) (o : Option Dump) → AreInRow r.serial 0 0 dumps → (end_of dumps ≤ r.len) → slice_get dumps (length dumps - 1) ≡ o → LastOf rs last
      → LastOf (rs ++ r ∷ []) (later last r.serial (option_map note_of o))
  one_more None None row fits is last = no_dumps None (none_last dumps is) last
  one_more (Some l) None row fits is last = no_dumps (Some l) (none_last dumps is) last
  one_more last (Some d) row fits is l = one_last last d row fits (top r.serial 0 0 dumps row d is) l

-- THE REELS SEEN SO FAR
pub record SeenSoFar (i : ℕ) (last : Option (ℕ × DumpNote)) (old new : Rack) : Type 0 where
  pub last_is : LastOf (take i old.reels) last
  pub read : IfSome last (λ l. HasReadDump l.0 l.1 old new)
  pub only : OnlyReads old new
  pub kept : new.read_faults ≡ old.read_faults

-- The note that is kept or found was read.
still_read : (last : Option (ℕ × DumpNote)) (old mid new : Rack) → OnlyReads mid new → IfSome last (λ l. HasReadDump l.0 l.1 old mid) → IfSome last (λ l. HasReadDump l.0 l.1 old new)
still_read None old mid new only has = tt
still_read (Some l) old mid new only has = read_dump_then l.0 l.1 old mid new has only

one_read : (last : Option (ℕ × DumpNote)) (serial : ℕ) (o : Option DumpNote) (old new : Rack) → IfSome last (λ l. HasReadDump l.0 l.1 old new) → IfSome o (λ n. HasReadDump serial n old new)
    → IfSome (later last serial o) (λ l. HasReadDump l.0 l.1 old new)
one_read None serial None old new has one = tt
one_read (Some l) serial None old new has one = has
one_read None serial (Some n) old new has one = one
one_read (Some l) serial (Some n) old new has one = by_number (nat_lt l.1.number n.number)
  where
    by_number : (b : Bool) → IfSome (if b then Some (serial, n) else Some l) (λ k. HasReadDump k.0 k.1 old new)
    by_number true = one
    by_number false = has

last_read : (ds : List Dump) (o : Option Dump) (serial : ℕ) (old new : Rack) → slice_get ds (length ds - 1) ≡ o → All (λ d. HasReadDump serial (note_of d) old new) ds
    → IfSome (option_map note_of o) (λ n. HasReadDump serial n old new)
last_read ds None serial old new is each = tt
last_read ds (Some d) serial old new is each = All-contains (λ (e : Dump). HasReadDump serial (note_of e) old new) ds d each (within_list ds (length ds - 1) d is)
  where
    within_list : (es : List Dump) (i : ℕ) (e : Dump) → slice_get es i ≡ Some e → Contains es e
    within_list [] i e at_i = let no : ⊥ = cc in absurd no
    within_list (c ∷ cs) zero e at_i = (0, omega arith, same_Some c e at_i)
    within_list (c ∷ cs) (suc i) e at_i = let (j, inside, at_j) = within_list cs i e at_i in (suc j, omega (arith, inside), at_j)

pub one_more_reel : (i serial : ℕ) (last : Option (ℕ × DumpNote)) (notes items : List DumpNote) (o : Option DumpNote) (dumps : List Dump) (old mid new : Rack) → AreReels old.reels → SeenSoFar i last old mid
    → i < length old.reels → slice_get (map (λ (r : Reel). r.serial) mid.reels) i ≡ Some serial → AreRead serial dumps mid new → OnlyReads mid new → new.read_faults ≡ mid.read_faults
    → notes ≡ map note_of dumps → items ≡ notes → o ≡ slice_get items (length items - 1) → SeenSoFar (i + 1) (later last serial o) old new
one_more_reel i serial last notes items o dumps old mid new are so within named read only kept notes_are items_are is =
    let (r, at_i) = reel_at old mid i serial are so.only within named in
    let o_is : o ≡ option_map note_of (slice_get dumps (length dumps - 1)) =
    is ∙ ap (λ (ns : List DumpNote). slice_get ns (length ns - 1)) (items_are ∙ notes_are) ∙ last-map dumps in
    let named_r : serial ≡ r.serial = sym at_i.named in
    let blocks_are : blocks_of serial mid ≡ r.blocks = blocks_after_reads serial old mid so.only ∙ ap blocks_in at_i.found in
    let completed : ForSome r.blocks (λ blocks. AreCompleted r.serial blocks dumps) =
    λ blocks told. subst (λ (s : ℕ). AreCompleted s blocks dumps) named_r (read.completed blocks (blocks_are ∙ told)) in
    let row : AreInRow r.serial 0 0 dumps = subst (λ (s : ℕ). AreInRow s 0 0 dumps) named_r read.row in
    let fits : end_of dumps ≤ r.len = len-unread (reel serial mid.reels) (reel serial old.reels) (end_of dumps) (reel_after_reads serial old mid so.only) read.fits r at_i.found in
    let seen : LastOf (take i old.reels ++ r ∷ []) (later last r.serial (option_map note_of (slice_get dumps (length dumps - 1)))) =
    one_more (take i old.reels) r dumps at_i.before completed last (slice_get dumps (length dumps - 1)) row fits refl so.last_is in
    let each : All (λ d. HasReadDump serial (note_of d) old new) dumps =
    All-weaker (λ (d : Dump). HasReadDump serial (note_of d) mid new) (λ (d : Dump). HasReadDump serial (note_of d) old new)
    (λ d has. then_read_dump serial (note_of d) old mid new so.only has) dumps read.read in
    let one : IfSome (option_map note_of (slice_get dumps (length dumps - 1))) (λ n. HasReadDump serial n old new) =
    last_read dumps (slice_get dumps (length dumps - 1)) serial old new refl each in
    record {
      last_is = subst (λ (rs : List Reel). LastOf rs (later last serial o)) (sym at_i.next)
          (subst (λ (p : Option DumpNote). LastOf (take i old.reels ++ r ∷ []) (later last serial p)) (sym o_is)
          (subst (λ (s : ℕ). LastOf (take i old.reels ++ r ∷ []) (later last s (option_map note_of (slice_get dumps (length dumps - 1))))) (sym named_r) seen));
      read = one_read last serial o old new (still_read last old mid new only so.read) (subst (λ (p : Option DumpNote). IfSome p (λ n. HasReadDump serial n old new)) (sym o_is) one);
      only = more_reads old mid new so.only only;
      kept = kept ∙ so.kept;
    }

-- all of them
pub last_of_all : (i : ℕ) (last : Option (ℕ × DumpNote)) (old new : Rack) → length old.reels ≤ i → SeenSoFar i last old new → LastOf old.reels last
last_of_all i last old new le so = subst (λ (rs : List Reel). LastOf rs last) (take_all i old.reels le) so.last_is

-- Faults: if all reels are mounted, no others are possible.
pub only_these : {A : Type 0} (serial : ℕ) (fault : ShelfFault) (mid new : Rack) → refuses_unmount (reel serial mid.reels) ≡ None → ReadsReel {A = A} serial (Err fault) mid new
    → (fault ≡ ReadFault) ⊎ (fault ≡ NoMemory)
only_these serial NoTape mid new free reads = let wrong = reads.no_tape.0 refl in let no : ⊥ = cc in absurd no
only_these serial NotMounted mid new free reads = let wrong = reads.not_mounted.0 refl in let no : ⊥ = cc in absurd no
only_these serial ReadFault mid new free reads = inl refl
only_these serial NoMemory mid new free reads = inr refl

pub some_of : (rs : List Reel) (last : Option (ℕ × DumpNote)) → LastOf rs last → IfSome last (λ l. IsLast rs l.0 l.1)
some_of rs None is = tt
some_of rs (Some l) is = is

pub none_of : (rs : List Reel) (last : Option (ℕ × DumpNote)) → LastOf rs last → IfNone last (HaveNone rs)
none_of rs None is = is
none_of rs (Some l) is = tt

-- THE FIRST REEL that isn't mounted
none_down : (rs : List Reel) → All (λ r. r.mounted ≡ true) rs → find (λ (r : Reel). not r.mounted) rs ≡ None
none_down [] up = refl
none_down (r ∷ rs) up =
    ap (λ (b : Bool). if not b then Some r else find (λ (q : Reel). not q.mounted) rs) (up 0 r (omega arith)) ∙ none_down rs (λ k d within. up (suc k) d (omega (arith, within)))

first_down : (rs : List Reel) (i : ℕ) (r : Reel) → All (λ q. q.mounted ≡ true) (take i rs) → i < length rs → get_or rs i r ≡ r → r.mounted ≡ false → find (λ (q : Reel). not q.mounted) rs ≡ Some r
first_down [] i r up within here down = let no : ⊥ = omega (arith, within) in absurd no
first_down (q ∷ qs) zero r up within here down =
    ap (λ (b : Bool). if not b then Some q else find (λ (p : Reel). not p.mounted) qs) (ap (λ (p : Reel). p.mounted) here ∙ down) ∙ ap Some here
first_down (q ∷ qs) (suc i) r up within here down =
    ap (λ (b : Bool). if not b then Some q else find (λ (p : Reel). not p.mounted) qs) (up 0 q (omega arith))
    ∙ first_down qs i r (λ k d inside. up (suc k) d (omega (arith, inside))) (omega (arith, within)) here down

-- the reels below i are mounted
pub AreUp : ℕ → Rack → Type 0
AreUp i rack = All (λ r. r.mounted ≡ true) (take i rack.reels)

pub none_up : (rack : Rack) → AreUp 0 rack
unfolding AreUp
none_up rack = All-nil (λ (r : Reel). r.mounted ≡ true)

mounted_at : (rack : Rack) (i serial : ℕ) (b : Bool) (r : Reel) → IsAt rack.reels i serial r → is_mounted (reel serial rack.reels) ≡ b → r.mounted ≡ b
mounted_at rack i serial b r at_i is = ap is_mounted (sym at_i.found) ∙ is

pub one_up : (rack : Rack) (i serial : ℕ) → AreReels rack.reels → AreUp i rack → i < length rack.reels → slice_get (map (λ (r : Reel). r.serial) rack.reels) i ≡ Some serial
    → is_mounted (reel serial rack.reels) ≡ true → AreUp (i + 1) rack
unfolding AreUp
one_up rack i serial are up within named is =
    let (r, at_i) = reel_at rack rack i serial are (nothing_read rack) within named in
    subst (All (λ (q : Reel). q.mounted ≡ true)) (sym at_i.next) (All-push (λ (q : Reel). q.mounted ≡ true) (take i rack.reels) r up (mounted_at rack i serial true r at_i is))

pub one_down : (rack : Rack) (i serial : ℕ) → AreReels rack.reels → AreUp i rack → i < length rack.reels → slice_get (map (λ (r : Reel). r.serial) rack.reels) i ≡ Some serial
    → is_mounted (reel serial rack.reels) ≡ false → Some serial ≡ first_unmounted rack.reels
unfolding AreUp
one_down rack i serial are up within named is =
    let (r, at_i) = reel_at rack rack i serial are (nothing_read rack) within named in
    ap Some (sym at_i.named) ∙ sym (ap (option_map (λ (q : Reel). q.serial)) (first_down rack.reels i r up within at_i.here (mounted_at rack i serial false r at_i is)))

pub all_up : (rack : Rack) (i : ℕ) → length rack.reels ≤ i → AreUp i rack → All (λ r. r.mounted ≡ true) rack.reels
unfolding AreUp
all_up rack i le up = subst (All (λ (r : Reel). r.mounted ≡ true)) (take_all i rack.reels le) up

pub none_is_down : (rack : Rack) (i : ℕ) → length rack.reels ≤ i → AreUp i rack → None ≡ first_unmounted rack.reels
none_is_down rack i le up = sym (ap (option_map (λ (q : Reel). q.serial)) (none_down rack.reels (all_up rack i le up)))
