-- The calls on both twins of a reel.
-- serves: agree, rebuild_twin
use Rattle.std.proofs.Common.{◌≡◌, ◌⊎◌, ℕ, List, Bool, true, false, ◌&&◌, Option, Some, None, option_map, Result, Ok, Err, if◌then◌else◌, map, refl, sym, subst, ap, ◌∙◌, inl, inr}
use Rattle.std.specs.Option.{ForSome}
use Rattle.g_tape.specs.Reel.{Reel}
use Rattle.g_tape.specs.Rack.{Rack, reel, with_reel}
use Rattle.g_tape.specs.Reads.{OnlyReads, blocks_in, blocks_of, unread}
use Rattle.g_tape.proofs.ReadLemmas.{nothing_read, reel-with_reel, reel-with_reel_other, reel_after_reads}
use Rattle.g_duplex.specs.Copying.{BothReels, HoldSame, IsWrittenAt, KeepsLabel, ReelAnswer, ReelCopied, SameReel}
use Rattle.g_duplex.specs.Rebuild.{Agrees, Comparing, IsRewritten, PairCompares, PairRebuilds, Rebuilding, rack_at, rack_beside, refuses_both, refuses_rebuild, stands_rebuilt}
use Rattle.g_duplex.specs.Twins.{DoAgree, beside_twin, is_lost, of_twin}
use Rattle.g_duplex.specs.Pair.{ArePaired, Pair, standing_in, with_standing}
use Rattle.g_duplex.specs.declared.fault.DuplexFault.{DuplexFault}
use Rattle.g_duplex.specs.declared.fault.DuplexFault.TheVariants.{NoTape, NotMounted, NotEmptied, ReadFailed, WriteFailed}
use Rattle.g_duplex.specs.declared.twin.Twin.{Twin}
use Rattle.g_duplex.specs.declared.twin.Twin.TheVariants.{First, Second}
use Rattle.g_duplex.specs.declared.twin.Standing.{Standing}
use Rattle.g_duplex.proofs.CopyLemmas.{mapped_some}
use Rattle.g_duplex.proofs.PairLemmas.{at_of, paired_changed, same_reels}
use Rattle.g_duplex.proofs.PlaceLemmas.{long_standings, none_standing}
use Rattle.g_duplex.proofs.ReadLemmas.{one_standing}
use Rattle.g_duplex.proofs.UnreadLemmas.{paired_unread}

abbrev Blocks : Type 0
Blocks = List (List ℕ)

-- WHETHER TWINS AGREE
told_here : (s : ℕ) (p : Rack) (a : Reel) (bs : Blocks) → reel s p.reels ≡ Some a → a.blocks ≡ Some bs → blocks_of s p ≡ Some bs
told_here s p a bs there told = ap blocks_in there ∙ told

does_agree : (s : ℕ) (p : Pair) (t : Standing) (f' g' : Rack) (same : Bool) → standing_in s p ≡ Some t → is_lost t ≡ false → SameReel s p.first p.second (Ok same) f' g' → Agrees s p same
does_agree s p t f' g' same stands fine is = record {
  long = is.0;
  well = λ e u at. subst (λ (v : Standing). is_lost v ≡ false) (one_standing t u (standing_in s p) stands at) fine;
  told = λ u at a here b there xs told ys told'.
      let both = is.1 xs (told_here s p.first a xs here told) ys (told_here s p.second b ys there told') in (
        λ e. (subst (λ (v : Standing). is_lost v ≡ false) (one_standing t u (standing_in s p) stands at) fine, both.0 e),
        λ pair. both.1 pair.1,
      );
}

comparing : (s : ℕ) (p : Pair) (t : Standing) (f' g' : Rack) (result : Result Bool DuplexFault) → standing_in s p ≡ Some t → is_lost t ≡ false
    → refuses_both (reel s p.first.reels) (reel s p.second.reels) ≡ None → SameReel s p.first p.second result f' g' → Comparing s p result (record p { first = f'; second = g' })
comparing s p t f' g' (Ok same) stands fine free is = (free, does_agree s p t f' g' same stands fine is)
comparing s p t f' g' (Err ReadFailed) stands fine free is = (free, is)
comparing s p t f' g' (Err WriteFailed) stands fine free is = absurd is
comparing s p t f' g' (Err NoTape) stands fine free is = absurd is
comparing s p t f' g' (Err NotMounted) stands fine free is = absurd is
comparing s p t f' g' (Err NotEmptied) stands fine free is = absurd is

pub pair_compares : (s : ℕ) (p : Pair) (t : Standing) (f' g' : Rack) (result : Result Bool DuplexFault) → standing_in s p ≡ Some t → is_lost t ≡ false
    → refuses_both (reel s p.first.reels) (reel s p.second.reels) ≡ None → OnlyReads p.first f' → OnlyReads p.second g' → SameReel s p.first p.second result f' g'
    → PairCompares s p result (record p { first = f'; second = g' })
pair_compares s p t f' g' result stands fine free one two is = record {
  answer = comparing s p t f' g' result stands fine free is;
  first = one;
  second = two;
  kept = refl;
  standings = refl;
}

refused_both : (x y : Option Reel) (why : DuplexFault) → refuses_both x y ≡ Some why → (why ≡ NoTape) ⊎ (why ≡ NotMounted)
refused_both None y why is = let e : Some NoTape ≡ Some why = is in inl cc
refused_both (Some a) None why is = let e : Some NoTape ≡ Some why = is in inl cc
refused_both (Some a) (Some b) why is = by (a.mounted && b.mounted) is
  where
    by : (m : Bool) → (if m then None else Some NotMounted) ≡ Some why → (why ≡ NoTape) ⊎ (why ≡ NotMounted)
    by true e = absurd (cc)
    by false e = inr (let e' : Some NotMounted ≡ Some why = e in cc)

refused_comparing : (s : ℕ) (p : Pair) (why : DuplexFault) → (why ≡ NoTape) ⊎ (why ≡ NotMounted) → refuses_both (reel s p.first.reels) (reel s p.second.reels) ≡ Some why → Comparing s p (Err why) p
refused_comparing s p NoTape of is = (is, refl)
refused_comparing s p NotMounted of is = (is, refl)
refused_comparing s p NotEmptied of is = (is, refl)
refused_comparing s p ReadFailed (inl e) is = absurd (cc)
refused_comparing s p ReadFailed (inr e) is = absurd (cc)
refused_comparing s p WriteFailed (inl e) is = absurd (cc)
refused_comparing s p WriteFailed (inr e) is = absurd (cc)

pub pair_refuses_compare : (s : ℕ) (p : Pair) (why : DuplexFault) → refuses_both (reel s p.first.reels) (reel s p.second.reels) ≡ Some why → PairCompares s p (Err why) p
pair_refuses_compare s p why is = record {
  answer = refused_comparing s p why (refused_both (reel s p.first.reels) (reel s p.second.reels) why is) is;
  first = nothing_read p.first;
  second = nothing_read p.second;
  kept = refl;
  standings = refl;
}

nothing_both : (x y : Option Reel) → x ≡ None → refuses_both x y ≡ Some NoTape
nothing_both x y is = rw is refl

pub pair_compares_none : (s : ℕ) (p : Pair) → ArePaired p.standings p.first.reels p.second.reels → standing_in s p ≡ None → PairCompares s p (Err NoTape) p
pair_compares_none s p paired stands =
    let none = none_standing s p.first.reels p.standings (long_standings p.standings p.first.reels p.second.reels paired) stands in
    pair_refuses_compare s p NoTape (nothing_both (reel s p.first.reels) (reel s p.second.reels) none)

-- THE REBUILDING
rewritten : (s : ℕ) (old new : Rack) → IsWrittenAt s old new → IsRewritten s old new
rewritten s old new written =
    let (g, keeps, is) = written.change in
    record {
      others = λ u apart. ap (reel u) is ∙ reel-with_reel_other s u g keeps.serial (λ e. apart (sym e)) old.reels;
      mounted = ap (λ (rs : List Reel). option_map (λ (r : Reel). r.mounted) (reel s rs)) is
          ∙ ap (option_map (λ (r : Reel). r.mounted)) (reel-with_reel s g keeps.serial old.reels) ∙ same_up g keeps (reel s old.reels);
      read_faults = written.read_faults;
      arms = written.arms;
    }
  where
    same_up : (g : Reel → Reel) → KeepsLabel g → (o : Option Reel) → option_map (λ (r : Reel). r.mounted) (option_map g o) ≡ option_map (λ (r : Reel). r.mounted) o
    same_up g keeps None = refl
    same_up g keeps (Some r) = ap (λ (m : Bool). Some m) (keeps.mounted r)

turned : (a b : Reel) → HoldSame b a → HoldSame a b
turned a b same = record { long = sym same.long; blocks = λ p at q at'. sym (same.blocks q at' p at) }

both_by_twin : (s : ℕ) (twin : Twin) (f' g' : Rack) → BothReels s (of_twin twin f' g') (beside_twin twin f' g') HoldSame → BothReels s f' g' HoldSame
both_by_twin s First f' g' same a here b there = same a here b there
both_by_twin s Second f' g' same a here b there = turned a b (same b there a here)

rebuilding : (s : ℕ) (twin : Twin) (p : Pair) (f' g' : Rack) (answer : Result (Unit {0}) DuplexFault)
    → refuses_rebuild (reel s (rack_at twin p).reels) (reel s (rack_beside twin p).reels) ≡ None
    → ReelAnswer s (rack_beside twin p) (rack_at twin p) answer (beside_twin twin f' g') (of_twin twin f' g')
    → Rebuilding s twin p answer (record p { first = f'; second = g'; standings = with_standing s (λ (t : Standing). stands_rebuilt twin answer) p.first.reels p.standings })
rebuilding s twin p f' g' (Ok u) free same = (free, refl, both_by_twin s twin f' g' same)
rebuilding s twin p f' g' (Err ReadFailed) free rose = (free, refl, rose)
rebuilding s twin p f' g' (Err WriteFailed) free rose = (free, refl, rose)
rebuilding s twin p f' g' (Err NoTape) free is = absurd is
rebuilding s twin p f' g' (Err NotMounted) free is = absurd is
rebuilding s twin p f' g' (Err NotEmptied) free is = absurd is

pub pair_rebuilds : (s : ℕ) (twin : Twin) (p : Pair) (f' g' : Rack) (answer : Result (Unit {0}) DuplexFault)
    → refuses_rebuild (reel s (rack_at twin p).reels) (reel s (rack_beside twin p).reels) ≡ None
    → ReelCopied s (rack_beside twin p) (rack_at twin p) answer (beside_twin twin f' g') (of_twin twin f' g')
    → PairRebuilds s twin p answer (record p { first = f'; second = g'; standings = with_standing s (λ (t : Standing). stands_rebuilt twin answer) p.first.reels p.standings })
pair_rebuilds s twin p f' g' answer free copied = record {
  answer = rebuilding s twin p f' g' answer free copied.answer;
  source = copied.source;
  written = rewritten s (rack_at twin p) (of_twin twin f' g') copied.written;
  kept = refl;
}

-- twins after a rebuilding
after_level : (s : ℕ) (g : Reel → Reel) (xs' ys' : List Reel) (a b : Reel) → reel s xs' ≡ Some (g a) → option_map unread (reel s ys') ≡ Some (unread b)
    → ForSome (reel s xs') (λ x. ForSome (reel s ys') (λ y. HoldSame x y)) → HoldSame (g a) b
after_level s g xs' ys' a b here there same =
    let (b', there', is) = mapped_some unread (reel s ys') (unread b) there in
    let holds = same (g a) here b' there' in
    record {
      long = holds.long ∙ ap (λ (r : Reel). r.len) is;
      blocks = λ p at q at'. holds.blocks p at q (ap (λ (r : Reel). r.blocks) is ∙ at');
    }

module _ (s : ℕ) (ts : List Standing) (xs ys xs' ys' : List Reel) (paired : ArePaired ts xs ys) where
  -- the first is rebuilt
  first_rebuilt : (u : Standing) (g : Reel → Reel) → KeepsLabel g → xs' ≡ with_reel s g xs → map unread ys' ≡ map unread ys → ((a b : Reel) → reel s xs ≡ Some a → reel s ys ≡ Some b → DoAgree u (g a) b) → ArePaired (with_standing s (λ (t : Standing). u) xs ts) xs' ys'
  first_rebuilt u g keeps is only agree =
      let changed = paired_changed s g (λ (r : Reel). r) (λ (t : Standing). u) ts xs ys paired (λ t a b twins at. record {
        serial = keeps.serial a ∙ twins.serial;
        capacity = keeps.capacity a ∙ twins.capacity;
        agree = agree a b at.first at.second;
      }) in
      let still = subst (λ (rs : List Reel). ArePaired (with_standing s (λ (t : Standing). u) xs ts) (with_reel s g xs) rs) (same_reels s ys) changed in
      paired_unread (with_standing s (λ (t : Standing). u) xs ts) (with_reel s g xs) ys xs' ys' (ap (map unread) is) only still

  second_rebuilt : (u : Standing) (g : Reel → Reel) → KeepsLabel g → ys' ≡ with_reel s g ys → map unread xs' ≡ map unread xs
      → ((a b : Reel) → reel s xs ≡ Some a → reel s ys ≡ Some b → DoAgree u a (g b)) → ArePaired (with_standing s (λ (t : Standing). u) xs ts) xs' ys'
  second_rebuilt u g keeps is only agree =
      let changed = paired_changed s (λ (r : Reel). r) g (λ (t : Standing). u) ts xs ys paired (λ t a b twins at. record {
        serial = twins.serial ∙ sym (keeps.serial b);
        capacity = twins.capacity ∙ sym (keeps.capacity b);
        agree = agree a b at.first at.second;
      }) in
      let still = subst (λ (rs : List Reel). ArePaired (with_standing s (λ (t : Standing). u) xs ts) rs (with_reel s g ys)) (same_reels s xs) changed in
      paired_unread (with_standing s (λ (t : Standing). u) xs ts) xs (with_reel s g ys) xs' ys' only (ap (map unread) is) still

agree_first : (s : ℕ) (from to from' to' : Rack) (answer : Result (Unit {0}) DuplexFault) (g : Reel → Reel) (twin : Twin) → KeepsLabel g → to'.reels ≡ with_reel s g to.reels → OnlyReads from from'
    → ReelAnswer s from to answer from' to' → (a b : Reel) → reel s to.reels ≡ Some a → reel s from.reels ≡ Some b → DoAgree (stands_rebuilt twin answer) (g a) b
agree_first s from to from' to' (Ok u) g twin keeps is only same a b here there =
    let holds = after_level s g to'.reels from'.reels a b
    (ap (reel s) is ∙ reel-with_reel s g keeps.serial to.reels ∙ ap (option_map g) here)
    (reel_after_reads s from from' only ∙ ap (option_map unread) there) same in
    (holds.long, holds.blocks)
agree_first s from to from' to' (Err why) g twin keeps is only same a b here there = tt

agree_second : (s : ℕ) (from to from' to' : Rack) (answer : Result (Unit {0}) DuplexFault) (g : Reel → Reel) (twin : Twin) → KeepsLabel g → to'.reels ≡ with_reel s g to.reels → OnlyReads from from'
    → ReelAnswer s from to answer from' to' → (a b : Reel) → reel s from.reels ≡ Some a → reel s to.reels ≡ Some b → DoAgree (stands_rebuilt twin answer) a (g b)
agree_second s from to from' to' (Ok u) g twin keeps is only same a b here there =
    let holds = turned a (g b) (after_level s g to'.reels from'.reels b a
    (ap (reel s) is ∙ reel-with_reel s g keeps.serial to.reels ∙ ap (option_map g) there)
    (reel_after_reads s from from' only ∙ ap (option_map unread) here) same) in
    (holds.long, holds.blocks)
agree_second s from to from' to' (Err why) g twin keeps is only same a b here there = tt

pub paired_rebuilt : (s : ℕ) (twin : Twin) (ts : List Standing) (first second f' g' : Rack) (answer : Result (Unit {0}) DuplexFault) → ArePaired ts first.reels second.reels
    → ReelCopied s (beside_twin twin first second) (of_twin twin first second) answer (beside_twin twin f' g') (of_twin twin f' g')
    → ArePaired (with_standing s (λ (t : Standing). stands_rebuilt twin answer) first.reels ts) f'.reels g'.reels
paired_rebuilt s First ts first second f' g' answer paired copied =
    let (g, keeps, is) = copied.written.change in
    first_rebuilt s ts first.reels second.reels f'.reels g'.reels paired (stands_rebuilt First answer) g keeps is copied.source.reels
    (agree_first s second first g' f' answer g First keeps is copied.source copied.answer)
paired_rebuilt s Second ts first second f' g' answer paired copied =
    let (g, keeps, is) = copied.written.change in
    second_rebuilt s ts first.reels second.reels f'.reels g'.reels paired (stands_rebuilt Second answer) g keeps is copied.source.reels
    (agree_second s first second f' g' answer g Second keeps is copied.source copied.answer)

-- there is room for the copy
pub same_room : (s : ℕ) (ts : List Standing) (xs ys : List Reel) → ArePaired ts xs ys → ForSome (reel s xs) (λ a. ForSome (reel s ys) (λ b. a.capacity ≡ b.capacity))
same_room s ts xs ys paired a here b there =
    let (t, b', twins, at) = at_of s a ts xs ys paired here in
    let e : Some b' ≡ Some b = sym at.second ∙ there in
    let one : b' ≡ b = cc in
    twins.capacity ∙ ap (λ (r : Reel). r.capacity) one

-- the same, as the code has its parts
pub pair_rebuilds_as : (s : ℕ) (twin : Twin) (p : Pair) (f' g' : Rack) (answer : Result (Unit {0}) DuplexFault) (us : List Standing) → ArePaired p.standings p.first.reels p.second.reels
    → refuses_rebuild (reel s (rack_at twin p).reels) (reel s (rack_beside twin p).reels) ≡ None
    → ReelCopied s (rack_beside twin p) (rack_at twin p) answer (beside_twin twin f' g') (of_twin twin f' g')
    → us ≡ with_standing s (λ (t : Standing). stands_rebuilt twin answer) p.first.reels p.standings
    → PairRebuilds s twin p answer (record p { first = f'; second = g'; standings = us }) × ArePaired us f'.reels g'.reels
pair_rebuilds_as s twin p f' g' answer us paired free copied is = (
  subst (λ (vs : List Standing). PairRebuilds s twin p answer (record p { first = f'; second = g'; standings = vs })) (sym is) (pair_rebuilds s twin p f' g' answer free copied),
  subst (λ (vs : List Standing). ArePaired vs f'.reels g'.reels) (sym is) (paired_rebuilt s twin p.standings p.first p.second f' g' answer paired copied),
)
