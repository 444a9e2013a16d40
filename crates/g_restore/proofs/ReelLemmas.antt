-- What was read of one reel, and of the reels so far.
-- serves: dumps_of_reels, read_rack (found), BelongLemmas, DirectoryLemmas, crates above
use Rattle.std.proofs.Common.{◌≡◌, ℕ, ◌+◌, ◌<◌, ◌≤◌, true, List, [], ◌∷◌, ◌++◌, length, take, Some, refl, sym, ◌∙◌, ap, arith, slice_get, subst, map, All}
use Rattle.std.specs.Prelude.{is_some}
use Rattle.std.proofs.lemmas.List.{append-nil, append_assoc, map-append, take_all}
use Rattle.std.proofs.lemmas.List.Elements.{All-append, All-cons, All-head, All-nil, All-tail, Contains-append_right}
use Rattle.g_tape.specs.Rack.{AreReels, Rack}
use Rattle.g_tape.specs.Reads.{OnlyReads, blocks_in, blocks_of, unread}
use Rattle.g_tape.specs.Reel.{Reel}
use Rattle.g_tape.proofs.ReadLemmas.{blocks_after_reads, more_reads, nothing_read}
use Rattle.g_incr.specs.Layout.{Dump, IsDump, ends}
use Rattle.g_shelf.specs.CompletedDumps.{AreCompleted, AreShelved}
use Rattle.g_shelf.specs.FoundDumps.{AreInRow}
use Rattle.g_shelf.specs.Walk.{AreOf, HasMore}
use Rattle.g_shelf.proofs.RackLemmas.{reel_at}
use Rattle.g_store_meaning.specs.Reading.{ReelsTold}
use Rattle.g_store_meaning.proofs.OneLemmas.{one_shelf}
use Rattle.g_restore.specs.declared.dumps.Found.{Found}
use Rattle.g_restore.specs.KnownDumps.{Known, known, known_of}
use Rattle.g_restore.specs.Reels.{AreAllDumps, AreOn, AreOnReels}

-- what is known of each of them is what is known of all
knowns_of : (found : List Found) (ds : List Dump) → AreOf (λ f d. known f ≡ known_of d) found ds → map known found ≡ map known_of ds
knowns_of [] [] are = refl
knowns_of [] (d ∷ ds) are = absurd are
knowns_of (f ∷ fs) [] are = absurd are
knowns_of (f ∷ fs) (d ∷ ds) are = ap (λ (k : Known). k ∷ map known fs) are.0 ∙ ap (λ (ks : List Known). known_of d ∷ ks) (knowns_of fs ds are.1)

-- THE REELS READ SO FAR
pub record ReadSoFar (i : ℕ) (found : List Found) (old new : Rack) : Type 0 where
  pub dumps : List Dump
  pub on : AreOnReels (take i old.reels) dumps
  pub known_are : map known found ≡ map known_of dumps
  pub only : OnlyReads old new
  pub kept : new.read_faults ≡ old.read_faults

pub none_read : (rack : Rack) → ReadSoFar 0 [] rack rack
none_read rack = record { dumps = []; on = refl; known_are = refl; only = nothing_read rack; kept = refl }

behind_reels : (rs : List Reel) (ds : List Dump) (r : Reel) (here : List Dump) → AreOnReels rs ds → AreOn r here → AreOnReels (rs ++ r ∷ []) (ds ++ here)
behind_reels [] ds r here on is = (here, [], ap (λ (xs : List Dump). xs ++ here) on ∙ sym (append-nil here), is, refl)
behind_reels (q ∷ qs) ds r here (first, rest, are, on_q, more) is =
    (first, rest ++ here, ap (λ (xs : List Dump). xs ++ here) are ∙ append_assoc first rest here, on_q, behind_reels qs rest r here more is)

pub one_reel : (i serial : ℕ) (found now : List Found) (old mid new : Rack) → AreReels old.reels → ReadSoFar i found old mid → i < length old.reels
    → slice_get (map (λ (r : Reel). r.serial) mid.reels) i ≡ Some serial → HasMore (λ f d. known f ≡ known_of d) serial found now mid new → OnlyReads mid new → new.read_faults ≡ mid.read_faults
    → ReadSoFar (i + 1) now old new
one_reel i serial found now old mid new are so within named more only kept =
    let (r, at_i) = reel_at old mid i serial are so.only within named in
    let named_r : serial ≡ r.serial = sym at_i.named in
    let blocks_are : blocks_of serial mid ≡ r.blocks = blocks_after_reads serial old mid so.only ∙ ap blocks_in at_i.found in
    let here : AreOn r more.dumps = record {
      row = subst (λ (s : ℕ). AreInRow s 0 0 more.dumps) named_r more.read.row;
      completed = λ blocks told. subst (λ (s : ℕ). AreCompleted s blocks more.dumps) named_r (more.read.completed blocks (blocks_are ∙ told));
    } in
    record {
      dumps = so.dumps ++ more.dumps;
      on = subst (λ (rs : List Reel). AreOnReels rs (so.dumps ++ more.dumps)) (sym at_i.next) (behind_reels (take i old.reels) so.dumps r more.dumps so.on here);
      known_are =
          ap (map known) more.after_is ∙ map-append known found more.more
          ∙ ap (λ (ks : List Known). ks ++ map known more.more) so.known_are
          ∙ ap (λ (ks : List Known). map known_of so.dumps ++ ks) (knowns_of more.more more.dumps more.are_of)
          ∙ sym (map-append known_of so.dumps more.dumps);
      only = more_reads old mid new so.only only;
      kept = kept ∙ so.kept;
    }

pub all_reels : (i : ℕ) (found : List Found) (old new : Rack) → length old.reels ≤ i → ReadSoFar i found old new
    → (dumps : List Dump) × AreOnReels old.reels dumps × (map known found ≡ map known_of dumps)
all_reels i found old new le so = (so.dumps, subst (λ (rs : List Reel). AreOnReels rs so.dumps) (take_all i old.reels le) so.on, so.known_are)

-- The dumps of reels that expose their blocks are all completed dumps.
pub all_of_reels : AreAllDumps
all_of_reels [] dumps shelf told shelved on = on
all_of_reels (r ∷ rs) dumps shelf told shelved (here, rest, are, on_r, more) =
    let here_told : is_some r.blocks ≡ true = All-head (λ (q : Reel). is_some q.blocks ≡ true) r rs told.each in
    let one : here ≡ shelf r.serial = one_shelf r.serial r.blocks here (shelf r.serial) here_told on_r.completed (shelved.each r (0, omega arith, refl)) in
    let told_rest : ReelsTold rs = record { each = All-tail (λ (q : Reel). is_some q.blocks ≡ true) r rs told.each } in
    let shelved_rest : AreShelved shelf rs = record { each = λ q there. shelved.each q (Contains-append_right (r ∷ []) rs q there) } in
    are ∙ ap (λ (ds : List Dump). ds ++ rest) one ∙ ap (λ (ds : List Dump). shelf r.serial ++ ds) (all_of_reels rs rest shelf told_rest shelved_rest more)

pub on_unread : (rs : List Reel) (ds : List Dump) → AreOnReels rs ds → AreOnReels (map unread rs) ds
on_unread [] ds on = on
on_unread (r ∷ rs) ds (here, rest, are, on_r, more) = (here, rest, are, record { row = on_r.row; completed = on_r.completed }, on_unread rs rest more)

-- they keep the rules of dumps
row_rules : (serial at from : ℕ) (ds : List Dump) → AreInRow serial at from ds → All IsDump ds
row_rules serial at from [] row = All-nil IsDump
row_rules serial at from (d ∷ ds) row = All-cons IsDump d ds row.0.rules (row_rules serial (ends d) (d.number + 1) ds row.1)

pub all_rules : (rs : List Reel) (ds : List Dump) → AreOnReels rs ds → All IsDump ds
all_rules [] ds on = subst (All IsDump) (sym on) (All-nil IsDump)
all_rules (r ∷ rs) ds (here, rest, are, on_r, more) =
    subst (All IsDump) (sym are) (All-append IsDump here rest (row_rules r.serial 0 0 here on_r.row) (all_rules rs rest more))
