-- Reads of a reel, and what follows from them.
-- serves: read_block (found, reads), read_blocks (fewer, found, reads), read_dump (reads), read_mark (again, found), DumpLemmas, crates above
use Rattle.std.proofs.Common.{◌≡◌, ℕ, ◌+◌, ◌<◌, ◌≤◌, Bool, true, false, List, [], ◌∷◌, ◌++◌, length, take, drop, Option, Some, None, Result, Ok, Err, refl, sym, ◌∙◌, ap, arith, subst, slice_get, inl, inr}
use Rattle.std.specs.Prelude.{◌↔◌, ◌⊎◌, nat_lt, option_map, if◌then◌else◌}
use Rattle.std.specs.Option.{ForSome}
use Rattle.std.proofs.lemmas.Bool.{cases_lt, ltb-false}
use Rattle.std.proofs.lemmas.List.{length-append, take_more, take_all}
use Rattle.std.proofs.lemmas.Option.{get_or_from_slice_get, slice_get_past, slice_get_within}
use Rattle.g_base.specs.Counts.{Rose}
use Rattle.g_tape.specs.declared.fault.TapeFault.{TapeFault}
use Rattle.g_tape.specs.declared.fault.TapeFault.TheVariants as tape
use Rattle.g_tape.specs.Reel.{Reel}
use Rattle.g_tape.specs.Rack.{AreReels, Rack, Reading, reel, refuses_read, refuses_unmount}
use Rattle.g_tape.specs.Reads.{HasRead, OnlyReads, blocks_in, blocks_of, unread}
use Rattle.g_tape.proofs.ReadLemmas.{blocks_after_reads, is_reel, more_reads, read_then, reading_only, reel_after_reads, then_read}
use Rattle.g_incr.specs.declared.fault.ShelfFault.{ShelfFault}
use Rattle.g_incr.specs.declared.fault.ShelfFault.TheVariants.{NoMemory, NoTape, NotMounted, ReadFault}
use Rattle.g_incr.specs.Reading.{ReadsReel}
use Rattle.g_incr.proofs.ListLemmas.{get_drop, none_within}

-- REFUSALS
abbrev refusal_of : Option TapeFault → Option TapeFault
refusal_of None = None
refusal_of (Some tape.NoTape) = Some tape.NoTape
refusal_of (Some tape.NotMounted) = Some tape.NotMounted
refusal_of (Some tape.End) = None
refusal_of (Some tape.ReadFailed) = None
refusal_of (Some tape.WriteFailed) = None

by_tests : (mounted under : Bool) → refusal_of (if mounted then (if under then None else Some tape.End) else Some tape.NotMounted) ≡ (if mounted then None else Some tape.NotMounted)
by_tests true true = refl
by_tests true false = refl
by_tests false under = refl

same_refusal : (k : ℕ) (o : Option Reel) → refusal_of (refuses_read k o) ≡ refuses_unmount o
same_refusal k None = refl
same_refusal k (Some r) = by_tests r.mounted (nat_lt k r.len)

refusal_is : (k : ℕ) (o : Option Reel) (e : Option TapeFault) → refuses_read k o ≡ e → refuses_unmount o ≡ refusal_of e
refusal_is k o e is = sym (same_refusal k o) ∙ ap refusal_of is

-- what reads leave of a refusal
unread_refusal : (o : Option Reel) → refuses_unmount (option_map unread o) ≡ refuses_unmount o
unread_refusal None = refl
unread_refusal (Some r) = refl

pub refusal_after : (s : ℕ) (old new : Rack) → OnlyReads old new → refuses_unmount (reel s new.reels) ≡ refuses_unmount (reel s old.reels)
refusal_after s old new only = sym (unread_refusal (reel s new.reels)) ∙ ap refuses_unmount (reel_after_reads s old new only) ∙ unread_refusal (reel s old.reels)

-- A READER by the fault that it answers, if it answers one
pub record ReadsTape (s : ℕ) (old : Rack) (fault : Option ShelfFault) (new : Rack) : Type 0 where
  pub only : OnlyReads old new
  pub no_tape : (fault ≡ Some NoTape) ↔ (refuses_unmount (reel s old.reels) ≡ Some tape.NoTape)
  pub not_mounted : (fault ≡ Some NotMounted) ↔ (refuses_unmount (reel s old.reels) ≡ Some tape.NotMounted)
  pub kept : (fault ≡ Some ReadFault → ⊥) → new.read_faults ≡ old.read_faults
  pub rose : fault ≡ Some ReadFault → Rose old.read_faults new.read_faults

module _ {A : Type 0} (s : ℕ) (old new : Rack) where
  pub from_ok : (x : A) → ReadsReel s (Ok x) old new → ReadsTape s old None new
  from_ok x so = record {
    only = so.only;
    no_tape = (λ is. absurd (let no : ⊥ = cc in no), λ is. absurd (let gave = so.no_tape.1 is in let no : ⊥ = cc in no));
    not_mounted = (λ is. absurd (let no : ⊥ = cc in no), λ is. absurd (let gave = so.not_mounted.1 is in let no : ⊥ = cc in no));
    kept = λ other. so.kept (λ is. let no : ⊥ = cc in no);
    rose = λ is. absurd (let no : ⊥ = cc in no);
  }

  pub to_ok : (x : A) → ReadsTape s old None new → ReadsReel s (Ok x) old new
  to_ok x so = record {
    only = so.only;
    no_tape = (λ is. absurd (let no : ⊥ = cc in no), λ is. absurd (let gave = so.no_tape.1 is in let no : ⊥ = cc in no));
    not_mounted = (λ is. absurd (let no : ⊥ = cc in no), λ is. absurd (let gave = so.not_mounted.1 is in let no : ⊥ = cc in no));
    kept = λ other. so.kept (λ is. let no : ⊥ = cc in no);
    rose = λ is. absurd (let no : ⊥ = cc in no);
  }

  some_from_err : (f g : ShelfFault) → (let x : Result A ShelfFault = Err f in x ≡ Err g) → Some f ≡ Some g
  some_from_err f g is = let same : f ≡ g = cc in ap (λ (e : ShelfFault). Some e) same

  err_from_some : (f g : ShelfFault) → Some f ≡ Some g → (let x : Result A ShelfFault = Err f in x ≡ Err g)
  err_from_some f g is = let same : f ≡ g = cc in ap (λ (e : ShelfFault). let x : Result A ShelfFault = Err e in x) same

  pub from_err : (f : ShelfFault) → (let x : Result A ShelfFault = Err f in ReadsReel s x old new) → ReadsTape s old (Some f) new
  from_err f so = record {
    only = so.only;
    no_tape = (λ is. so.no_tape.0 (err_from_some f NoTape is), λ is. some_from_err f NoTape (so.no_tape.1 is));
    not_mounted = (λ is. so.not_mounted.0 (err_from_some f NotMounted is), λ is. some_from_err f NotMounted (so.not_mounted.1 is));
    kept = λ other. so.kept (λ is. other (some_from_err f ReadFault is));
    rose = λ is. so.rose (err_from_some f ReadFault is);
  }

  pub to_err : (f : ShelfFault) → ReadsTape s old (Some f) new → (let x : Result A ShelfFault = Err f in ReadsReel s x old new)
  to_err f so = record {
    only = so.only;
    no_tape = (λ is. so.no_tape.0 (some_from_err f NoTape is), λ is. err_from_some f NoTape (so.no_tape.1 is));
    not_mounted = (λ is. so.not_mounted.0 (some_from_err f NotMounted is), λ is. err_from_some f NotMounted (so.not_mounted.1 is));
    kept = λ other. so.kept (λ is. other (err_from_some f ReadFault is));
    rose = λ is. so.rose (some_from_err f ReadFault is);
  }

-- READS OF A REEL, from what happened
module _ (s : ℕ) (old new : Rack) where
  pub reads_ok : OnlyReads old new → refuses_unmount (reel s old.reels) ≡ None → new.read_faults ≡ old.read_faults → ReadsTape s old None new
  reads_ok only free kept = record {
    only = only;
    no_tape = (λ is. absurd (let no : ⊥ = cc in no), λ is. absurd (let no : ⊥ = cc in no));
    not_mounted = (λ is. absurd (let no : ⊥ = cc in no), λ is. absurd (let no : ⊥ = cc in no));
    rose = λ is. absurd (let no : ⊥ = cc in no);
    kept = λ other. kept;
  }

-- One reader after another.
pub reads_then : (s : ℕ) (first middle last : Rack) (fault : Option ShelfFault) → ReadsTape s first None middle → ReadsTape s middle fault last → ReadsTape s first fault last
reads_then s first middle last fault one two =
    let same = refusal_after s first middle one.only in
    let still : middle.read_faults ≡ first.read_faults = one.kept (λ is. absurd (let no : ⊥ = cc in no)) in
    record {
      only = more_reads first middle last one.only two.only;
      no_tape = (λ is. sym same ∙ two.no_tape.0 is, λ refused. two.no_tape.1 (same ∙ refused));
      not_mounted = (λ is. sym same ∙ two.not_mounted.0 is, λ refused. two.not_mounted.1 (same ∙ refused));
      rose = λ is. subst (λ (n : ℕ). Rose n last.read_faults) still (two.rose is);
      kept = λ other. two.kept other ∙ still;
    }

-- Memory ran out after reads that succeeded.
pub starved : {A : Type 0} (s : ℕ) (first middle last : Rack) → ReadsTape s first None middle → ReadsTape s middle None last
    → (let x : Result A ShelfFault = Err NoMemory in ReadsReel s x first last)
starved s first middle last one two =
    let so = reads_then s first middle last None one two in
    to_err s first last NoMemory (record {
      only = so.only;
      no_tape = (λ is. absurd (let no : ⊥ = cc in no), λ is. absurd (let gave = so.no_tape.1 is in let no : ⊥ = cc in no));
      not_mounted = (λ is. absurd (let no : ⊥ = cc in no), λ is. absurd (let gave = so.not_mounted.1 is in let no : ⊥ = cc in no));
      kept = λ other. so.kept (λ is. let no : ⊥ = cc in no);
      rose = λ is. absurd (let no : ⊥ = cc in no);
    })

-- ONE READ
told_in : (o : Option Reel) (P : List (List ℕ) → Type 0) → ForSome o (λ r. ForSome r.blocks P) → ForSome (blocks_in o) P
told_in None P is = λ bs told. absurd (let no : ⊥ = cc in no)
told_in (Some r) P is = is r refl

-- the reel ends before the block
ended : (k : ℕ) (r : Reel) → refuses_read k (Some r) ≡ Some tape.End → r.len ≤ k
ended k r is = ltb-false k r.len (by_test r.mounted (nat_lt k r.len) is)
  where
    by_test : (mounted under : Bool) → (if mounted then (if under then None else Some tape.End) else Some tape.NotMounted) ≡ Some tape.End → under ≡ false
    by_test true true is = absurd (let no : ⊥ = cc in no)
    by_test true false is = refl
    by_test false under is = absurd (let no : ⊥ = cc in no)

module _ (s k : ℕ) (old new : Rack) (into : List ℕ) where
  pub good_reads : Reading s k old (Ok tt) into new → ReadsTape s old None new
  good_reads is = reads_ok s old new (reading_only s k old new (Ok tt) into is) (refusal_is k (reel s old.reels) None is.0) (ap (λ (r : Rack). r.read_faults) is.2)

  pub end_past : Reading s k old (Err tape.End) into new → ForSome (reel s old.reels) (λ r. r.len ≤ k)
  end_past is = λ r at. ended k r (ap (refuses_read k) (sym at) ∙ is.0)

  pub end_found : AreReels old.reels → Reading s k old (Err tape.End) into new → ForSome (blocks_of s old) (λ bs. slice_get bs k ≡ None)
  end_found are is = told_in (reel s old.reels) (λ bs. slice_get bs k ≡ None) (λ r at bs told.
      let past = end_past is r at in
      let long = (is_reel s old.reels r are.each at).told bs told in
      slice_get_past bs k (omega arith))

-- the length of a reel stays through reads
pub same_len : (s : ℕ) (old mid : Rack) → OnlyReads old mid → (r : Reel) → reel s old.reels ≡ Some r → (q : Reel) × (reel s mid.reels ≡ Some q) × (q.len ≡ r.len)
same_len s old mid only r there = by_reel (reel s mid.reels) refl (reel_after_reads s old mid only ∙ ap (option_map unread) there)
  where
    by_reel : (o : Option Reel) → reel s mid.reels ≡ o → option_map unread (reel s mid.reels) ≡ Some (unread r) → (q : Reel) × (reel s mid.reels ≡ Some q) × (q.len ≡ r.len)
    by_reel None none is = let same : (let o : Option Reel = None in o ≡ Some (unread r)) = sym (ap (option_map unread) none) ∙ is in absurd (let no : ⊥ = cc in no)
    by_reel (Some q) some is =
        let same : Some (unread q) ≡ Some (unread r) = sym (ap (option_map unread) some) ∙ is in
        let one : unread q ≡ unread r = cc in
        (q, some, ap (λ (x : Reel). x.len) one)

-- SEVERAL READS: the blocks from one up to block k were read
pub record HaveRead (s from k : ℕ) (blocks : List (List ℕ)) (old new : Rack) : Type 0 where
  pub reads : ReadsTape s old None new
  pub at : k ≡ from + length blocks
  pub found : ForSome (blocks_of s old) (λ bs. blocks ≡ take (length blocks) (drop from bs))
  pub read : (j : ℕ) → from ≤ j → j < k → HasRead s j old new

module _ (s from k : ℕ) (blocks : List (List ℕ)) (old mid : Rack) (so : HaveRead s from k blocks old mid) where
  same_blocks : blocks_of s mid ≡ blocks_of s old
  same_blocks = blocks_after_reads s old mid so.reads.only

  pub one_more_read : (new : Rack) (block : List ℕ) → ReadsTape s mid None new → ForSome (blocks_of s mid) (λ bs. slice_get bs k ≡ Some block) → HasRead s k mid new
      → HaveRead s from (k + 1) (blocks ++ block ∷ []) old new
  one_more_read new block reads found has =
      let many = length-append blocks (block ∷ []) in
      let at = so.at in
      let n = length blocks in
      record {
        reads = reads_then s old mid new None so.reads reads;
        at = omega arith;
        found = λ bs told.
            let here : slice_get (drop from bs) n ≡ Some block = get_drop from bs n ∙ ap (slice_get bs) (sym at) ∙ found bs (same_blocks ∙ told) in
            let below = slice_get_within (drop from bs) n block here in
            ap (λ (l : List (List ℕ)). l ++ block ∷ []) (so.found bs told)
            ∙ ap (λ (b : List ℕ). take n (drop from bs) ++ b ∷ []) (sym (get_or_from_slice_get (drop from bs) n block block here)) ∙ sym (take_more (drop from bs) n block below)
            ∙ ap (λ (m : ℕ). take m (drop from bs)) (sym many);
        read = λ j least below. by_place j least below (cases_lt j k);
      }
    where
      by_place : (j : ℕ) → from ≤ j → j < k + 1 → (j < k) ⊎ (k ≤ j) → HasRead s j old new
      by_place j least below (inl before) = read_then s j old mid new (so.read j least before) reads.only
      by_place j least below (inr behind) = subst (λ (n : ℕ). HasRead s n old new) (let same : k ≡ j = omega arith in same) (then_read s k old mid new so.reads.only has)

  -- the reel ends here
  pub read_up_to : (count : ℕ) → k < from + count → ForSome (blocks_of s mid) (λ bs. slice_get bs k ≡ None) → ForSome (blocks_of s old) (λ bs. blocks ≡ take count (drop from bs))
  read_up_to count less none = λ bs told.
      let at = so.at in
      let short : length (drop from bs) ≤ length blocks = none_within (drop from bs) (length blocks) (get_drop from bs (length blocks) ∙ ap (slice_get bs) (sym at) ∙ none bs (same_blocks ∙ told)) in
      so.found bs told ∙ take_all (length blocks) (drop from bs) short ∙ sym (take_all count (drop from bs) (omega arith))

  pub ends_at : ForSome (reel s mid.reels) (λ r. r.len ≤ k) → ForSome (reel s old.reels) (λ r. r.len ≤ from + length blocks)
  ends_at past = λ r there.
      let (q, is, len) = same_len s old mid so.reads.only r there in
      let over = past q is in
      let at = so.at in omega arith

-- A reader whose result is returned, after reads that succeeded.
pub then_reel : {A : Type 0} (s : ℕ) (first middle last : Rack) (result : Result A ShelfFault) → ReadsTape s first None middle → ReadsReel s result middle last → ReadsReel s result first last
then_reel s first middle last (Ok x) one two = to_ok s first last x (reads_then s first middle last None one (from_ok s middle last x two))
then_reel s first middle last (Err f) one two = to_err s first last f (reads_then s first middle last (Some f) one (from_err s middle last f two))
