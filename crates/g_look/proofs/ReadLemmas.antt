-- Each block that disc and dumps name is read by a check that finds no rule broken.
-- serves: check (tapes), compare_file (read), compare_files, compare_texts (first, second), judge (read), judge_bytes (read), read_others, and 3 more
use Rattle.std.proofs.Common.{◌≡◌, ◌≢◌, ◌⊎◌, inl, inr, ℕ, zero, suc, ◌+◌, ◌<◌, ◌≤◌, Bool, true, false, List, [], length, Option, Some, None, Result, Ok, Err, IfOk, refl, sym, ◌∙◌, ap, arith, subst, All}
use Rattle.std.specs.Prelude.{◌==◌, AllPairs, Contains, IfSome, get_or, is_some}
use Rattle.std.specs.Option.{ForSome}
use Rattle.std.specs.List.{list_any}
use Rattle.std.proofs.lemmas.Bool.{eqb-true}
use Rattle.std.proofs.lemmas.List.Elements.{All-contains, Contains-get_or}
use Rattle.g_base.specs.Block.{blocks_for}
use Rattle.g_base.specs.Counts.{Rose}
use Rattle.g_copy.specs.declared.copy.DiscCopy.{DiscCopy}
use Rattle.g_disc.specs.Disc.{DiscState, ReadsByCause}
use Rattle.g_entry.specs.declared.file_rec.FileRec.{FileRec}
use Rattle.g_entry.specs.declared.file_rec.TapeCopy.{TapeCopy}
use Rattle.g_tape.specs.declared.fault.TapeFault.TheVariants as tape
use Rattle.g_tape.specs.Rack.{AreReels, Rack, reel, told_of}
use Rattle.g_tape.specs.Reads.{HasRead, OnlyReads, unread}
use Rattle.g_tape.specs.Reel.{IsReel, Reel}
use Rattle.g_tape.proofs.ReadLemmas.{read_then, still_no_more, then_read}
use Rattle.g_incr.specs.Layout.{Dump, content_at, ends}
use Rattle.g_shelf.specs.CompletedDumps.{AreShelved, all_dumps}
use Rattle.g_shelf.proofs.QuietLemmas.{within}
use Rattle.g_store_meaning.specs.Meaning.{IsContent, told_reels}
use Rattle.g_store_meaning.specs.Reading.{ReelsTold}
use Rattle.g_store_meaning.proofs.OneLemmas.{is_shelved, on_reel}
use Rattle.g_laws_store.proofs.UnjamLemmas.{any_found}
use Rattle.g_restore.specs.Losses.{HasPlace}
use Rattle.g_look.specs.declared.fault.LookFault.{LookFault}
use Rattle.g_look.specs.Looks.{ReadsRackByCause}
use Rattle.g_look.specs.Reads.{AreRead, HasBlock, IsFileRead, IsOtherRead, IsReadAt, IsReadFrom, WasRead}
use Rattle.g_look.specs.Texts.{FileAgrees, IsDumpedPlace, IsSecond}
use Rattle.g_look.proofs.DiscLemmas.{contained_map}
use Rattle.g_look.proofs.HeadLemmas.{no_reel, number_there, stands_in, told_blocks}
use Rattle.g_look.proofs.LoopLemmas.{one_further}
use Rattle.g_look.proofs.RecLemmas.{one_of_stamp}
use Rattle.g_look.proofs.SeenLemmas.{told_apart}

abbrev pub AreReadUpto : Rack → Rack → List FileRec → List FileRec → ℕ → Type 0
AreReadUpto old new dumped files i = (k : ℕ) (d : FileRec) → k < i → IsFileRead old new dumped (get_or files k d)

abbrev pub OthersUpto : Rack → Rack → List FileRec → List FileRec → ℕ → Type 0
OthersUpto old new files dumped i = (k : ℕ) (d : FileRec) → k < i → IsOtherRead old new files (get_or dumped k d)

pub record ComparedSoFar (disc now : DiscState) (old new : Rack) (online : List (ℕ × DiscCopy)) (dumped files : List FileRec) (i : ℕ) : Type 0 where
  pub disc_reads : ReadsByCause ⊥ disc now
  pub tape_reads : ReadsRackByCause ⊥ old new
  pub agree : (k : ℕ) (d : FileRec) → k < i → FileAgrees disc.held (told_reels old) online dumped (get_or files k d)

-- MORE READS, before and after
pub read_at_then : (old mid new : Rack) (place : Option TapeCopy) (len : ℕ) → IsReadAt old mid place len → OnlyReads mid new → IsReadAt old new place len
read_at_then old mid new None len is only = tt
read_at_then old mid new (Some c) len is only = λ k from to there. read_then c.serial k old mid new (is k from to there) only

pub then_read_at : (old mid new : Rack) (place : Option TapeCopy) (len : ℕ) → OnlyReads old mid → IsReadAt mid new place len → IsReadAt old new place len
then_read_at old mid new None len only is = tt
then_read_at old mid new (Some c) len only is = λ k from to there. then_read c.serial k old mid new only (is k from to (subst (λ (rs : List Reel). HasBlock rs c.serial k) (sym only.reels) there))

file_then : (old mid new : Rack) (dumped : List FileRec) (r : FileRec) → IsFileRead old mid dumped r → OnlyReads mid new → IsFileRead old new dumped r
file_then old mid new dumped r is only =
    record { own = read_at_then old mid new r.tape r.len is.own only; place = is.place; place_is = is.place_is; second = read_at_then old mid new is.place r.len is.second only }

then_file : (old mid new : Rack) (dumped : List FileRec) (r : FileRec) → OnlyReads old mid → IsFileRead mid new dumped r → IsFileRead old new dumped r
then_file old mid new dumped r only is =
    record { own = then_read_at old mid new r.tape r.len only is.own; place = is.place; place_is = is.place_is; second = then_read_at old mid new is.place r.len only is.second }

-- A PLACE OF TAPE
order : (a b : ℕ) → (a < b) ⊎ (b ≤ a)
order a zero = inr (omega arith)
order zero (suc b) = inl (omega arith)
order (suc a) (suc b) = later (order a b)
  where
    later : (a < b) ⊎ (b ≤ a) → (suc a < suc b) ⊎ (suc b ≤ suc a)
    later (inl less) = inl (omega (arith, less))
    later (inr more) = inr (omega (arith, more))

pub blocks_read : (old new : Rack) (copy : TapeCopy) (len : ℕ) (items : List (List ℕ)) → AreReels old.reels
    → ((k : ℕ) → copy.first ≤ k → k < copy.first + length items → HasRead copy.serial k old new)
    → (length items < blocks_for len → ForSome (reel copy.serial old.reels) (λ r. r.len ≤ copy.first + length items)) → IsReadFrom old new copy len
blocks_read old new copy len items are read fewer k from to (r, there, on, inside) = by_order (order k (copy.first + length items))
  where
    by_reel : (o : Option Reel) → reel copy.serial old.reels ≡ o → length items < blocks_for len → k < copy.first + length items
    by_reel None none less = absurd (no_reel old copy.serial tape.NoTape (sym (ap (told_of (λ q. q.len)) none)) r there on)
    by_reel (Some q) is less =
        let long : q.len ≡ r.len = number_there (λ p. p.len) (λ p. refl) old copy.serial q.len (told_apart old are) (sym (ap (told_of (λ p. p.len)) is)) r there on in
        let short = fewer less q is in
        omega (arith, long, short, inside)

    by_order : (k < copy.first + length items) ⊎ (copy.first + length items ≤ k) → HasRead copy.serial k old new
    by_order (inl less) = read k from less
    by_order (inr more) = read k from (by_reel (reel copy.serial old.reels) refl (omega (arith, more, to)))

-- past the last block that a reel may have
pub far_read : (old new : Rack) (copy : TapeCopy) (len : ℕ) → AreReels old.reels → 65536 < copy.first → IsReadFrom old new copy len
far_read old new copy len are far k from to (r, there, on, inside) =
    let (q, in_reels, same) = contained_map unread old.reels r there in
    let is = All-contains IsReel old.reels q are.each in_reels in
    let within_it = is.within in
    let most = is.sized_most in
    let long : q.len ≡ r.len = ap (λ (p : Reel). p.len) same in
    absurd (let no : ⊥ = omega (arith, far, from, inside, long, within_it, most) in no)

-- A FILE, by its two places
second_read : (old new : Rack) (tape place second : Option TapeCopy) (len : ℕ) → IsSecond tape place second → IsReadAt old new tape len → IsReadAt old new second len → IsReadAt old new place len
second_read old new tape place second len (inl same) own is = subst (λ (o : Option TapeCopy). IsReadAt old new o len) same is
second_read old new tape place second len (inr (none, same)) own is = subst (λ (o : Option TapeCopy). IsReadAt old new o len) (sym same) own

pub file_read : {X : Type 0} (old new : Rack) (dumped : List FileRec) (r : FileRec) (place second : Option TapeCopy) → IsDumpedPlace dumped r.stamp place → IsSecond r.tape place second → (result : Result X LookFault)
    → IfOk result (λ x. IsReadAt old new r.tape r.len) → IfOk result (λ x. IsReadAt old new second r.len) → IfOk result (λ x. IsFileRead old new dumped r)
file_read old new dumped r place second named is (Err e) own other = tt
file_read old new dumped r place second named is (Ok x) own other =
    record { own = own; place = place; place_is = named; second = second_read old new r.tape place second r.len is own other }

-- THE LOOPS: one file, and one dumped record more
pub files_step : (old mid new : Rack) (dumped files slice : List FileRec) (i : ℕ) (r : FileRec) → slice ≡ files → i < length slice → r ≡ get_or slice i r → OnlyReads old mid → OnlyReads mid new → AreReadUpto old mid dumped files i
    → IsFileRead mid new dumped r → AreReadUpto old new dumped files (i + 1)
files_step old mid new dumped files slice i r is_slice within_it at before only so_far is =
    one_further (IsFileRead old new dumped) files i r (subst (λ (fs : List FileRec). i < length fs) is_slice within_it) (at ∙ ap (λ (fs : List FileRec). get_or fs i r) is_slice)
    (then_file old mid new dumped r before is) (λ k d below. file_then old mid new dumped (get_or files k d) (so_far k d below) only)

pub others_step : (old mid new : Rack) (files dumped : List FileRec) (i : ℕ) (of : FileRec) → i < length dumped → of ≡ get_or dumped i of → OnlyReads old mid → OnlyReads mid new → OthersUpto old mid files dumped i
    → IsOtherRead mid new files of → OthersUpto old new files dumped (i + 1)
others_step old mid new files dumped i of within_it at before only so_far is =
    one_further (IsOtherRead old new files) dumped i of within_it at (λ none. then_read_at old mid new of.tape of.len before (is none))
    (λ k d below none. read_at_then old mid new (get_or dumped k d).tape (get_or dumped k d).len (so_far k d below none) only)

-- both loops
pub all_read : (old mid new : Rack) (files dumped : List FileRec) → OnlyReads old mid → OnlyReads mid new → ((r : FileRec) → Contains files r → IsFileRead old mid dumped r)
    → ((of : FileRec) → Contains dumped of → IsOtherRead mid new files of) → AreRead old new files dumped
all_read old mid new files dumped before only own others = record {
  own = λ r there. file_then old mid new dumped r (own r there) only;
  others = λ of there none. then_read_at old mid new of.tape of.len before (others of there none);
}

-- EVERYTHING HELD HAS BLOCKS
module _ (old new : Rack) (are : AreReels old.reels) (told : ReelsTold (told_reels old)) (shelf : ℕ → List Dump) (shelved : AreShelved shelf (told_reels old)) where
  abbrev dumps : List Dump
  dumps = all_dumps shelf (told_reels old)

  content_blocks : (c : TapeCopy) (text : List ℕ) (k : ℕ) → IsContent dumps c text → k < c.first + blocks_for (length text) → HasBlock (told_reels old) c.serial k
  content_blocks c text k is to =
      let reels : List Reel = told_reels old in
      let on = on_reel shelf reels is.dump is.there in
      let (serial, rules) = is_shelved shelf reels told shelved is.dump on.reel on.there on.on in
      let (bs, tells) = told_blocks on.reel.blocks (All-contains (λ (q : Reel). is_some q.blocks ≡ true) reels on.reel told.each on.there) in
      let stands = stands_in on.reel.serial bs 0 0 (shelf on.reel.serial) is.dump (shelved.each on.reel on.there bs tells).are on.on in
      let inside = within bs is.dump stands in
      let (q, in_reels, same) = contained_map unread old.reels on.reel on.there in
      let long : length bs ≡ q.len = (All-contains IsReel old.reels q are.each in_reels).told bs (ap (λ (p : Reel). p.blocks) same ∙ tells) in
      let len : q.len ≡ on.reel.len = ap (λ (p : Reel). p.len) same in
      let end = is.to in
      let ends_at : content_at is.dump + length is.dump.content ≤ ends is.dump = omega arith in
      (on.reel, on.there, sym serial ∙ is.reel, omega (arith, to, end, ends_at, inside, long, len))

  place_blocks : (r : FileRec) (c : TapeCopy) (k : ℕ) → HasPlace dumps r → r.tape ≡ Some c → k < c.first + blocks_for r.len → HasBlock (told_reels old) c.serial k
  place_blocks r c k place is to =
      let (text, long, content) = subst (λ (o : Option TapeCopy). IfSome o (λ e. (text : List ℕ) × (length text ≡ r.len) × IsContent dumps e text)) is place in
      content_blocks c text k content (subst (λ (n : ℕ). k < c.first + blocks_for n) (sym long) to)

  -- and therefore they were read
  pub own_read : (r : FileRec) → HasPlace dumps r → IsReadAt old new r.tape r.len → WasRead old new r
  own_read r place is = by_tape r.tape refl
    where
      by_tape : (o : Option TapeCopy) → r.tape ≡ o → IfSome o (λ c. (k : ℕ) → c.first ≤ k → k < c.first + blocks_for r.len → HasRead c.serial k old new)
      by_tape None none = tt
      by_tape (Some c) some = λ k from to.
          let here : IsReadAt old new (Some c) r.len = subst (λ (o : Option TapeCopy). IsReadAt old new o r.len) some is in
          here k from to (place_blocks r c k place some to)

  module _ (files dumped : List FileRec) (read : AreRead old new files dumped) (apart : AllPairs (λ (x y : FileRec). x.stamp ≢ y.stamp) dumped)
      (lengths : (r of : FileRec) → Contains files r → Contains dumped of → of.stamp ≡ r.stamp → of.len ≡ r.len) where
    -- a dumped record of a file's stamp
    by_file : (of r : FileRec) → Contains dumped of → Contains files r → r.stamp ≡ of.stamp → IsReadAt old new of.tape of.len
    by_file of r in_dumped in_files stamp = let is = read.own r in_files in by_place is.place is.place_is is.second
      where
        by_place : (place : Option TapeCopy) → IsDumpedPlace dumped r.stamp place → IsReadAt old new place r.len → IsReadAt old new of.tape of.len
        by_place None none second = subst (λ (o : Option TapeCopy). IsReadAt old new o of.len) (sym (none of in_dumped (sym stamp))) tt
        by_place (Some copy) (other, in_other, other_stamp, other_tape) second =
            let same : other ≡ of = one_of_stamp dumped apart other of in_other in_dumped (other_stamp ∙ stamp) in
            let tape_is : Some copy ≡ of.tape = sym other_tape ∙ ap (λ (s : FileRec). s.tape) same in
            subst (λ (n : ℕ). IsReadAt old new of.tape n) (sym (lengths r of in_files in_dumped (sym stamp)))
            (subst (λ (o : Option TapeCopy). IsReadAt old new o r.len) tape_is second)

    dumped_at : (of : FileRec) → Contains dumped of → IsReadAt old new of.tape of.len
    dumped_at of there = by_any (list_any (λ r. r.stamp == of.stamp) files) refl
      where
        by_any : (b : Bool) → list_any (λ r. r.stamp == of.stamp) files ≡ b → IsReadAt old new of.tape of.len
        by_any false none = read.others of there none
        by_any true some =
            let (r, in_files, test) = any_found (λ (r : FileRec). r.stamp == of.stamp) files some in
            by_file of r there in_files (eqb-true r.stamp of.stamp test)

    pub dumped_read : All (HasPlace dumps) dumped → All (WasRead old new) dumped
    dumped_read places = λ k d within_it.
        let of : FileRec = get_or dumped k d in
        let there : Contains dumped of = Contains-get_or dumped k d within_it in
        own_read of (places k d within_it) (dumped_at of there)

-- if no file has a stamp
none_in : (r : FileRec) → (let none : List FileRec = [] in Contains none r) → ⊥
none_in r (k, inside, at) = let no : ⊥ = omega (arith, inside) in no

pub others_read : (old new : Rack) (dumped : List FileRec) → ((of : FileRec) → Contains dumped of → IsOtherRead old new [] of) → AreRead old new [] dumped
others_read old new dumped others = record { own = λ r there. absurd (none_in r there); others = others }

-- ONE MORE FILE that was compared
pub ok_not_err : {A : Type 0} (x : A) (e : LookFault) → Ok x ≡ Err e → ⊥
ok_not_err x e is = cc

only_then : (old mid new : Rack) → OnlyReads old mid → OnlyReads mid new → OnlyReads old new
only_then old mid new a b =
    let faults_a = a.read_faults in
    let faults_b = b.read_faults in
    record {
      reels = b.reels ∙ a.reels;
      write_faults = b.write_faults ∙ a.write_faults;
      fuse = b.fuse ∙ a.fuse;
      arms = b.arms ∙ a.arms;
      read_faults = omega (arith, faults_a, faults_b);
      times = λ s k. omega (arith, a.times s k, b.times s k);
      durable = still_no_more old mid new a.durable b.durable;
    }

-- reads of a rack that didn't fail, and then others, for the cause that these have
pub rack_reads_then : (P Q R : Type 0) (old mid new : Rack) → (P → ⊥) → (R → Q) → (Q → R) → ReadsRackByCause P old mid → ReadsRackByCause Q mid new → ReadsRackByCause R old new
rack_reads_then P Q R old mid new not_p from to one two = record {
  only = only_then old mid new one.only two.only;
  kept = λ not_r. two.kept (λ q. not_r (to q)) ∙ one.kept not_p;
  rose = λ r. subst (λ (n : ℕ). Rose n new.read_faults) (one.kept not_p) (two.rose (from r));
}

-- the same fault in the answer of another call
pub same_fault : {A B : Type 0} (e f : LookFault) → (let r : Result A LookFault = Err e in r ≡ Err f) → (let r : Result B LookFault = Err e in r ≡ Err f)
same_fault {A} {B} e f is = let same : e ≡ f = cc in ap (λ (x : LookFault). let r : Result B LookFault = Err x in r) same

pub compared_step : (P Q : Type 0) (disc mid now : DiscState) (old rmid rnew : Rack) (online : List (ℕ × DiscCopy)) (dumped files slice : List FileRec) (i : ℕ) (r : FileRec) → slice ≡ files → i < length slice → r ≡ get_or slice i r
    → ComparedSoFar disc mid old rmid online dumped files i → ReadsByCause P mid now → (P → ⊥) → ReadsRackByCause Q rmid rnew → (Q → ⊥) → FileAgrees mid.held (told_reels rmid) online dumped r
    → ComparedSoFar disc now old rnew online dumped files (i + 1)
compared_step P Q disc mid now old rmid rnew online dumped files slice i r is_slice within_it at so_far reads not_p rack_reads not_q agrees =
    let before = so_far.disc_reads in
    record {
      disc_reads = record {
        held = reads.held ∙ before.held;
        size = reads.size ∙ before.size;
        write_faults = reads.write_faults ∙ before.write_faults;
        writes = reads.writes ∙ before.writes;
        fuse = reads.fuse ∙ before.fuse;
        arms = reads.arms ∙ before.arms;
        volatile = reads.volatile ∙ before.volatile;
        dropped = reads.dropped ∙ before.dropped;
        kept = λ never. reads.kept not_p ∙ before.kept never;
        rose = λ wrong. absurd wrong;
      };
      tape_reads = record {
        only = only_then old rmid rnew so_far.tape_reads.only rack_reads.only;
        kept = λ never. rack_reads.kept not_q ∙ so_far.tape_reads.kept never;
        rose = λ wrong. absurd wrong;
      };
      agree =
          one_further (FileAgrees disc.held (told_reels old) online dumped) files i r (subst (λ (fs : List FileRec). i < length fs) is_slice within_it) (at ∙ ap (λ (fs : List FileRec). get_or fs i r) is_slice)
          (subst (λ (h : Option (List (List ℕ))). FileAgrees h (told_reels old) online dumped r) before.held (subst (λ (rs : List Reel). FileAgrees mid.held rs online dumped r) so_far.tape_reads.only.reels agrees))
          so_far.agree;
    }
