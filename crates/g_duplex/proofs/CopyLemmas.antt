-- Copying a reel from its twin, block by block.
-- serves: copy_block, copy_reel, RebuildLemmas
use Rattle.std.proofs.Common.{◌≡◌, ℕ, zero, suc, ◌+◌, ◌<◌, ◌≤◌, List, [], ◌∷◌, ◌++◌, Bool, true, false, not, ◌&&◌, ◌==◌, Option, Some, None, option_map, Ok, Err, if◌then◌else◌, length, take, refl, sym, subst, ap, ◌∙◌, arith}
use Rattle.std.specs.Option.{ForSome}
use Rattle.std.specs.Prelude.{slice_get}
use Rattle.std.proofs.lemmas.Bool.{lt-ltb, le-ltb}
use Rattle.std.proofs.lemmas.List.{take_all}
use Rattle.g_base.specs.Counts.{Rose}
use Rattle.g_base.proofs.KeyLemmas.{change-twice}
use Rattle.g_tape.specs.declared.fault.TapeFault.{TapeFault}
use Rattle.g_tape.specs.declared.fault.TapeFault.TheVariants as tape
use Rattle.g_tape.specs.Reel.{Reel, Remains, Shortened, Torn, Unchanged, ending, left_by}
use Rattle.g_tape.specs.Rack.{AreReels, Rack, Reading, Writing, reel, refuses_read, refuses_write, with_reel}
use Rattle.g_tape.specs.Reads.{OnlyReads, blocks_in, blocks_of, unread}
use Rattle.g_tape.proofs.ReadLemmas.{blocks_after_reads, is_reel, more_reads, nothing_read, reading_only, reel-with_reel, reel_after_reads}
use Rattle.g_duplex.specs.Copying.{BlockAnswer, BlockCopied, BothReels, IsWrittenAt, KeepsLabel, ReelAnswer, ReelCopied}
use Rattle.g_duplex.specs.Rebuild.{refuses_rebuild}
use Rattle.g_duplex.specs.declared.fault.DuplexFault.{DuplexFault}
use Rattle.g_duplex.specs.declared.fault.DuplexFault.TheVariants.{NoTape, NotMounted, NotEmptied, ReadFailed, WriteFailed}
use Rattle.g_duplex.proofs.CompareLemmas.{may_read, read_block, rose_reading, rose_then, told_long}
use Rattle.g_duplex.proofs.PairLemmas.{same_reels}
use Rattle.g_duplex.proofs.PlaceLemmas.{eq_from}
use Rattle.g_duplex.proofs.ReadLemmas.{first_of, second_of}
use Rattle.g_duplex.proofs.WriteLemmas.{writes_free}

abbrev Blocks : Type 0
Blocks = List (List ℕ)

-- One change after another.
with_reel_twice : (s : ℕ) (g f : Reel → Reel) → ((r : Reel) → (f r).serial ≡ r.serial) → (rs : List Reel) → with_reel s g (with_reel s f rs) ≡ with_reel s (λ (r : Reel). g (f r)) rs
with_reel_twice s g f keeps rs = change-twice (λ (r : Reel). s == r.serial) f g (λ (r : Reel). g (f r)) (λ r. ap (λ (n : ℕ). s == n) (keeps r)) (λ r. refl) rs

keeps_nothing : KeepsLabel (λ (r : Reel). r)
keeps_nothing = record { serial = λ r. refl; capacity = λ r. refl; mounted = λ r. refl }

keeps_left : (how : Remains) (k : ℕ) → KeepsLabel (left_by how k)
keeps_left Unchanged k = record { serial = λ r. refl; capacity = λ r. refl; mounted = λ r. refl }
keeps_left Shortened k = record { serial = λ r. refl; capacity = λ r. refl; mounted = λ r. refl }
keeps_left (Torn block) k = record { serial = λ r. refl; capacity = λ r. refl; mounted = λ r. refl }

keeps_ending : (k : ℕ) (block : List ℕ) → KeepsLabel (ending k block)
keeps_ending k block = record { serial = λ r. refl; capacity = λ r. refl; mounted = λ r. refl }

keeps_both : (g f : Reel → Reel) → KeepsLabel g → KeepsLabel f → KeepsLabel (λ (r : Reel). g (f r))
keeps_both g f one two = record {
  serial = λ r. one.serial (f r) ∙ two.serial r;
  capacity = λ r. one.capacity (f r) ∙ two.capacity r;
  mounted = λ r. one.mounted (f r) ∙ two.mounted r;
}

pub not_written : (s : ℕ) (p : Rack) → IsWrittenAt s p p
not_written s p = record { change = ((λ (r : Reel). r), keeps_nothing, sym (same_reels s p.reels)); read_faults = refl; arms = refl }

written_then : (s : ℕ) (p q r : Rack) → IsWrittenAt s p q → IsWrittenAt s q r → IsWrittenAt s p r
written_then s p q r one two =
    let (f, keeps, is) = one.change in
    let (g, keeps', is') = two.change in
    record {
      change = (
        (λ (x : Reel). g (f x)),
        keeps_both g f keeps' keeps,
        is' ∙ ap (with_reel s g) is ∙ with_reel_twice s g f keeps.serial p.reels,
      );
      read_faults = two.read_faults ∙ one.read_faults;
      arms = two.arms ∙ one.arms;
    }

-- A BLOCK
-- the read failed
pub copy_unread : (s k : ℕ) (from to from' : Rack) (fault : TapeFault) (into : List ℕ) → refuses_read k (reel s from.reels) ≡ None → Reading s k from (Err fault) into from'
    → BlockCopied s k from to (Err ReadFailed) from' to
copy_unread s k from to from' fault into free is = record {
  source = reading_only s k from from' (Err fault) into is;
  written = not_written s to;
  answer = rose_reading s k from from' fault into free is;
}

-- the write failed
left_written : (s k : ℕ) (block : List ℕ) (to to' : Rack) (fault : TapeFault) → refuses_write k (reel s to.reels) ≡ None → Writing s k block to (Err fault) to'
    → IsWrittenAt s to to' × Rose to.write_faults to'.write_faults
left_written s k block to to' tape.WriteFailed free (is, rose, (how, left)) = (
  record {
    change = (left_by how k, keeps_left how k, ap (λ (r : Rack). r.reels) left);
    read_faults = ap (λ (r : Rack). r.read_faults) left;
    arms = ap (λ (r : Rack). r.arms) left;
  },
  rose,
)
left_written s k block to to' tape.ReadFailed free is = absurd is
left_written s k block to to' tape.NoTape free is = absurd (let never : None ≡ Some tape.NoTape = sym free ∙ is.0 in cc)
left_written s k block to to' tape.NotMounted free is = absurd (let never : None ≡ Some tape.NotMounted = sym free ∙ is.0 in cc)
left_written s k block to to' tape.End free is = absurd (let never : None ≡ Some tape.End = sym free ∙ is.0 in cc)

pub copy_unwritten : (s k : ℕ) (from to from' to' : Rack) (u : Unit {0}) (fault : TapeFault) (block : List ℕ) → refuses_write k (reel s to.reels) ≡ None
    → Reading s k from (Ok u) block from' → Writing s k block to (Err fault) to' → BlockCopied s k from to (Err WriteFailed) from' to'
copy_unwritten s k from to from' to' u fault block free reading writing =
    let left = left_written s k block to to' fault free writing in
    record { source = reading_only s k from from' (Ok u) block reading; written = left.0; answer = left.1 }

pub copy_done : (s k : ℕ) (from to from' to' : Rack) (u v : Unit {0}) (block : List ℕ) → Reading s k from (Ok u) block from' → Writing s k block to (Ok v) to' → BlockCopied s k from to (Ok tt) from' to'
copy_done s k from to from' to' u v block reading (free, apart, left) = record {
  source = reading_only s k from from' (Ok u) block reading;
  written = record {
    change = (ending k block, keeps_ending k block, ap (λ (r : Rack). r.reels) left);
    read_faults = ap (λ (r : Rack). r.read_faults) left;
    arms = ap (λ (r : Rack). r.arms) left;
  };
  answer = (block, read_block s k from from' u block reading, ap (λ (r : Rack). r.reels) left, ap (λ (r : Rack). r.write_faults) left);
}

-- THE REEL so far: as many blocks, and the same ones
pub record CopiedTo (i : ℕ) (bs : Option Blocks) (a : Reel) : Type 0 where
  pub far : i ≤ a.len
  pub long : 1 ≤ i → a.len ≡ i
  pub told : ForSome a.blocks (λ p. ForSome bs (λ q. take i p ≡ take i q))

pub record CopiedSoFar (s i : ℕ) (from0 to0 from to : Rack) : Type 0 where
  pub source : OnlyReads from0 from
  pub written : IsWrittenAt s to0 to
  pub faults : to.write_faults ≡ to0.write_faults
  pub begun : i ≡ 0 → to.reels ≡ to0.reels
  pub reel_is : ForSome (reel s to.reels) (CopiedTo i (blocks_of s from0))

pub copied_none : (s : ℕ) (from to : Rack) → CopiedSoFar s 0 from to from to
copied_none s from to = record {
  source = nothing_read from;
  written = not_written s to;
  faults = refl;
  begun = λ e. refl;
  reel_is = λ a there. record { far = omega arith; long = λ e. absurd (let never : ⊥ = omega (arith, e) in never); told = λ p at q at'. refl };
}

-- the first blocks of a list that ends with the block after them
take_ended : (i : ℕ) (bs : Blocks) (b : List ℕ) → i ≤ length bs → take (suc i) (take i bs ++ b ∷ []) ≡ take i bs ++ b ∷ []
take_ended zero bs b far = refl
take_ended (suc i) [] b far = let never : ⊥ = omega (arith, far) in absurd never
take_ended (suc i) (x ∷ xs) b far = ap (λ (ys : Blocks). x ∷ ys) (take_ended i xs b (omega (arith, far)))

take_then : (i : ℕ) (q : Blocks) (b : List ℕ) → slice_get q i ≡ Some b → take (suc i) q ≡ take i q ++ b ∷ []
take_then i [] b is = let wrong : None ≡ Some b = is in absurd (cc)
take_then zero (x ∷ xs) b is = let e : Some x ≡ Some b = is in let one : x ≡ b = cc in ap (λ (c : List ℕ). c ∷ []) one
take_then (suc i) (x ∷ xs) b is = ap (λ (ys : Blocks). x ∷ ys) (take_then i xs b is)

pub mapped_some : {X Y : Type 0} (f : X → Y) (o : Option X) (y : Y) → option_map f o ≡ Some y → (x : X) × (o ≡ Some x) × (f x ≡ y)
mapped_some f None y is = absurd (cc)
mapped_some f (Some x) y is = (x, refl, cc)

-- one more block
pub copied_more : (s i : ℕ) (from0 to0 from to from' to' : Rack) (u : Unit {0}) → AreReels to.reels → CopiedSoFar s i from0 to0 from to → BlockCopied s i from to (Ok u) from' to' → CopiedSoFar s (suc i) from0 to0 from' to'
copied_more s i from0 to0 from to from' to' u are so_far copied =
    let (block, got, reels_are, faults_are) = copied.answer in
    record {
      source = more_reads from0 from from' so_far.source copied.source;
      written = written_then s to0 to to' so_far.written copied.written;
      faults = faults_are ∙ so_far.faults;
      begun = λ e. absurd (let never : ⊥ = omega (arith, e) in never);
      reel_is = λ a there.
          let found : option_map (ending i block) (reel s to.reels) ≡ Some a =
          sym (reel-with_reel s (ending i block) (λ r. refl) to.reels) ∙ ap (reel s) (sym reels_are) ∙ there in
          let (b, here, is) = mapped_some (ending i block) (reel s to.reels) a found in
          let before = so_far.reel_is b here in
          let long : a.len ≡ i + 1 = ap (λ (r : Reel). r.len) (sym is) in
          record {
            far = omega (arith, long);
            long = λ e. omega (arith, long);
            told = λ p at q at'.
                let blocks : option_map (λ bs. take i bs ++ block ∷ []) b.blocks ≡ Some p = ap (λ (r : Reel). r.blocks) is ∙ at in
                let (bs, told, made) = mapped_some (λ (bs : Blocks). take i bs ++ block ∷ []) b.blocks p blocks in
                let many : length bs ≡ b.len = (is_reel s to.reels b are.each here).told bs told in
                let got' : slice_get q i ≡ Some block = got q (blocks_after_reads s from0 from so_far.source ∙ at') in
                ap (take (suc i)) (sym made) ∙ take_ended i bs block (omega (arith, many, before.far))
                ∙ ap (λ (xs : Blocks). xs ++ block ∷ []) (before.told bs told q at') ∙ sym (take_then i q block got');
          };
    }

-- a block failed
pub copied_badly : (s i : ℕ) (from0 to0 from to from' to' : Rack) (fault : DuplexFault) → CopiedSoFar s i from0 to0 from to → BlockCopied s i from to (Err fault) from' to' → ReelCopied s from0 to0 (Err fault) from' to'
copied_badly s i from0 to0 from to from' to' fault so_far copied = record {
  source = more_reads from0 from from' so_far.source copied.source;
  written = written_then s to0 to to' so_far.written copied.written;
  answer = by fault copied.answer;
}
  where
    by : (why : DuplexFault) → BlockAnswer s i from to (Err why) from' to' → ReelAnswer s from0 to0 (Err why) from' to'
    by ReadFailed rose = rose_then from0.read_faults from.read_faults from'.read_faults so_far.source.read_faults rose
    by WriteFailed rose = subst (λ (n : ℕ). Rose n to'.write_faults) so_far.faults rose
    by NoTape is = absurd is
    by NotMounted is = absurd is
    by NotEmptied is = absurd is

-- If the copy isn't refused, both reels exist and are mounted, and if the source is empty, so is the target.
pub record MayCopy (x y : Option Reel) : Type 0 where
  pub a : Reel
  pub b : Reel
  pub there : x ≡ Some a
  pub beside : y ≡ Some b
  pub up : a.mounted ≡ true
  pub up_beside : b.mounted ≡ true
  pub emptied : b.len ≡ 0 → a.len ≡ 0

pub may_copy : (x y : Option Reel) → refuses_rebuild x y ≡ None → MayCopy x y
may_copy None y is = absurd (cc)
may_copy (Some a) None is = absurd (cc)
may_copy (Some a) (Some b) is =
    let parts = by (a.mounted && b.mounted) ((b.len == 0) && not (a.len == 0)) is in
    record {
      a = a;
      b = b;
      there = refl;
      beside = refl;
      up = first_of a.mounted b.mounted parts.0;
      up_beside = second_of a.mounted b.mounted parts.0;
      emptied = λ e. eq_from a.len 0 (empty (b.len == 0) (a.len == 0) parts.1 (ap (λ (n : ℕ). n == 0) e));
    }
  where
    by : (m e : Bool) → (if m then (if e then Some NotEmptied else None) else Some NotMounted) ≡ None → (m ≡ true) × (e ≡ false)
    by false e is' = absurd (cc)
    by true true is' = absurd (cc)
    by true false is' = (refl, refl)

    empty : (x y : Bool) → (x && not y) ≡ false → x ≡ true → y ≡ true
    empty false y is' e = absurd (cc)
    empty true true is' e = refl
    empty true false is' e = absurd (cc)

-- the reel that is written, at any time
written_reel : (s : ℕ) (old new : Rack) (a : Reel) → IsWrittenAt s old new → reel s old.reels ≡ Some a → (x : Reel) × (reel s new.reels ≡ Some x) × (x.capacity ≡ a.capacity) × (x.mounted ≡ a.mounted)
written_reel s old new a written there =
    let (g, keeps, is) = written.change in
    (g a, ap (reel s) is ∙ reel-with_reel s g keeps.serial old.reels ∙ ap (option_map g) there, keeps.capacity a, keeps.mounted a)

pub may_write : (s i n : ℕ) (from0 to0 from to : Rack) → AreReels from0.reels → MayCopy (reel s to0.reels) (reel s from0.reels) → BothReels s to0 from0 (λ a b. a.capacity ≡ b.capacity)
    → ForSome (reel s from0.reels) (λ r. n ≡ r.len) → CopiedSoFar s i from0 to0 from to → i < n → refuses_write i (reel s to.reels) ≡ None
may_write s i n from0 to0 from to are may room long so_far less =
    let (x, there, size, up) = written_reel s to0 to may.a so_far.written may.there in
    let far = so_far.reel_is x there in
    let within = (is_reel s from0.reels may.b are.each may.beside).within in
    let as_large = room may.a may.there may.b may.beside in
    ap (refuses_write i) there
    ∙ writes_free i x (up ∙ may.up) (le-ltb x.len i far.far)
    (lt-ltb i x.capacity (omega (arith, less, long may.b may.beside, within, as_large, size)))

pub may_copy_read : (s i n : ℕ) (from0 to0 from to : Rack) → MayCopy (reel s to0.reels) (reel s from0.reels) → ForSome (reel s from0.reels) (λ r. n ≡ r.len) → CopiedSoFar s i from0 to0 from to → i < n
    → refuses_read i (reel s from.reels) ≡ None
may_copy_read s i n from0 to0 from to may long so_far less = may_read s i n from0 from may.b so_far.source may.beside may.up_beside long less

-- After reads the reels are equally long and hold the same.
read_on : (s : ℕ) (old new : Rack) (b b' : Reel) → OnlyReads old new → reel s old.reels ≡ Some b → reel s new.reels ≡ Some b' → unread b' ≡ unread b
read_on s old new b b' only there there' =
    let e : Some (unread b') ≡ Some (unread b) = sym (ap (option_map unread) there') ∙ reel_after_reads s old new only ∙ ap (option_map unread) there in
    cc

-- the whole reel
pub copied_all : (s n : ℕ) (from0 to0 from to : Rack) → AreReels from0.reels → AreReels to.reels → MayCopy (reel s to0.reels) (reel s from0.reels) → ForSome (reel s from0.reels) (λ r. n ≡ r.len)
    → CopiedSoFar s n from0 to0 from to → ReelCopied s from0 to0 (Ok tt) from to
copied_all s n from0 to0 from to are are' may long so_far = record {
  source = so_far.source;
  written = so_far.written;
  answer = λ x there y there'.
      let same = read_on s from0 from may.b y so_far.source may.beside there' in
      let far = so_far.reel_is x there in
      let as_long : y.len ≡ n = ap (λ (r : Reel). r.len) same ∙ sym (long may.b may.beside) in
      let here : x.len ≡ n = whole x there far n refl in
      record {
        long = here ∙ sym as_long;
        blocks = λ p at q at'.
            let told : blocks_of s from0 ≡ Some q = ap blocks_in may.beside ∙ sym (ap (λ (r : Reel). r.blocks) same) ∙ at' in
            let many : length p ≡ x.len = (is_reel s to.reels x are'.each there).told p at in
            let many' : length q ≡ may.b.len = told_long s from0 q may.b are may.beside told in
            sym (take_all n p (omega (arith, many, here))) ∙ far.told p at q told ∙ take_all n q (omega (arith, many', long may.b may.beside));
      };
}
  where
    whole : (x : Reel) → reel s to.reels ≡ Some x → CopiedTo n (blocks_of s from0) x → (m : ℕ) → n ≡ m → x.len ≡ n
    whole x there far zero e =
        let old : reel s to0.reels ≡ Some x = ap (reel s) (sym (so_far.begun e)) ∙ there in
        let both : Some may.a ≡ Some x = sym may.there ∙ old in
        let one : may.a ≡ x = cc in
        let none : may.b.len ≡ 0 = sym (long may.b may.beside) ∙ e in
        ap (λ (r : Reel). r.len) (sym one) ∙ may.emptied none ∙ sym e
    whole x there far (suc m) e = far.long (omega (arith, e))
