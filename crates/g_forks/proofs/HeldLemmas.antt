-- The dumps of the reels read so far.
-- serves: dumps_in (all)
use Rattle.std.proofs.Common.{◌≡◌, ◌⊎◌, ℕ, ◌+◌, ◌<◌, ◌≤◌, List, [], ◌∷◌, ◌++◌, length, take, map, All, Some, refl, sym, ◌∙◌, ap, arith, slice_get, subst, inl, inr}
use Rattle.std.specs.Prelude.{Contains}
use Rattle.std.specs.Option.{ForSome}
use Rattle.std.proofs.lemmas.List.{take_all}
use Rattle.std.proofs.lemmas.List.Elements.{All-append, All-cons, All-contains_itself, All-map, All-nil, All-push, All-weaker, Contains-append_left, Contains-append_right}
use Rattle.g_base.specs.Counts.{Rose}
use Rattle.g_base.proofs.CountLemmas.{Rose-before, Rose-behind}
use Rattle.g_tape.specs.Rack.{AreReels, Rack}
use Rattle.g_tape.specs.Reads.{OnlyReads, blocks_in, blocks_of}
use Rattle.g_tape.specs.Reel.{Reel}
use Rattle.g_tape.proofs.ReadLemmas.{blocks_after_reads, more_reads, nothing_read}
use Rattle.g_incr.specs.Layout.{Dump}
use Rattle.g_shelf.specs.CompletedDumps.{AreCompleted}
use Rattle.g_shelf.specs.Walk.{AreOf, HasMore}
use Rattle.g_shelf.proofs.RackLemmas.{reel_at}
use Rattle.g_shelf.proofs.RowLemmas.{in_row}
use Rattle.g_forks.specs.Forks.{Adds, AreWithin, HasAll, IsRead, IsWithin, held_of}
use Rattle.g_forks.specs.declared.held.Held.{Held}

-- the list holds these dumps
abbrev pub AreIn : List Held → Reel → Type 0
AreIn held r = ForSome r.blocks (λ blocks. (dumps : List Dump) × AreCompleted r.serial blocks dumps × All (λ d. Contains held (held_of d)) dumps)

pub record SoFar (i : ℕ) (held : List Held) (old new : Rack) : Type 0 where
  pub within : AreWithin old held
  pub all : IsRead old new → All (AreIn held) (take i old.reels)
  pub only : OnlyReads old new

pub none_yet : (rack : Rack) → SoFar 0 [] rack rack
none_yet rack = record { within = All-nil (IsWithin rack); all = λ read. All-nil (AreIn []); only = nothing_read rack }

-- what is kept of the dumps of a reel
items_are : (items : List Held) (dumps : List Dump) → AreOf (λ h d. h ≡ held_of d) items dumps → items ≡ map held_of dumps
items_are [] [] of = refl
items_are [] (d ∷ ds) of = absurd of
items_are (h ∷ hs) [] of = absurd of
items_are (h ∷ hs) (d ∷ ds) of = ap (λ (x : Held). x ∷ hs) of.0 ∙ ap (λ (xs : List Held). held_of d ∷ xs) (items_are hs ds of.1)

in_map : (dumps : List Dump) → All (λ d. Contains (map held_of dumps) (held_of d)) dumps
in_map [] = All-nil (λ d. Contains [] (held_of d))
in_map (d ∷ ds) =
    All-cons (λ (e : Dump). Contains (held_of d ∷ map held_of ds) (held_of e)) d ds (0, omega arith, refl)
    (All-weaker (λ (e : Dump). Contains (map held_of ds) (held_of e)) (λ (e : Dump). Contains (held_of d ∷ map held_of ds) (held_of e))
    (λ e here. Contains-append_right (held_of d ∷ []) (map held_of ds) (held_of e) here) ds (in_map ds))

-- ONE MORE REEL that was read
module _ (i serial : ℕ) (held now : List Held) (old mid new : Rack) (are : AreReels old.reels) (so : SoFar i held old mid) (within : i < length old.reels)
    (named : slice_get (map (λ (r : Reel). r.serial) mid.reels) i ≡ Some serial) (only : OnlyReads mid new) where
  from_before : (r : Reel) → ((h : Held) → Contains held h → Contains now h) → AreIn held r → AreIn now r
  from_before r more has blocks told =
      let (dumps, completed, each) = has blocks told in
      (dumps, completed, All-weaker (λ (d : Dump). Contains held (held_of d)) (λ (d : Dump). Contains now (held_of d)) (λ d here. more (held_of d) here) dumps each)

  read_too : IsRead old new → IsRead old mid
  read_too read rose = read (Rose-before rose only.read_faults)

  module _ (more : HasMore (λ h d. h ≡ held_of d) serial held now mid new) where
    abbrev items : List Held
    items = map held_of more.dumps

    now_is : now ≡ held ++ items
    now_is = more.after_is ∙ ap (λ (hs : List Held). held ++ hs) (items_are more.more more.dumps more.are_of)

    each_within : AreWithin old items
    each_within =
        All-map (IsWithin old) held_of more.dumps
        (All-weaker (Contains more.dumps) (λ (d : Dump). IsWithin old (held_of d))
        (λ d there. record {
          dump = d;
          is = refl;
          completed =
              let on : serial ≡ d.serial = sym (in_row serial 0 0 more.dumps more.read.row d there).on in
              subst (λ (s : ℕ). ForSome (blocks_of s old) (λ blocks. (dumps : List Dump) × AreCompleted s blocks dumps × Contains dumps d)) on
              (λ blocks told. (more.dumps, more.read.completed blocks (blocks_after_reads serial old mid so.only ∙ told), there));
        })
        more.dumps (All-contains_itself more.dumps))

    here_in : (r : Reel) → r.serial ≡ serial → blocks_of serial old ≡ r.blocks → AreIn now r
    here_in r is blocks_are blocks told = (
      more.dumps,
      subst (λ (s : ℕ). AreCompleted s blocks more.dumps) (sym is) (more.read.completed blocks (blocks_after_reads serial old mid so.only ∙ blocks_are ∙ told)),
      All-weaker (λ (d : Dump). Contains items (held_of d)) (λ (d : Dump). Contains now (held_of d))
          (λ d here. subst (λ (hs : List Held). Contains hs (held_of d)) (sym now_is) (Contains-append_right held items (held_of d) here)) more.dumps (in_map more.dumps),
    )

    pub reel_more : SoFar (i + 1) now old new
    reel_more =
        let (r, at_i) = reel_at old mid i serial are so.only within named in
        let kept : (h : Held) → Contains held h → Contains now h = λ h here. subst (λ (hs : List Held). Contains hs h) (sym now_is) (Contains-append_left held items h here) in
        record {
          within = subst (AreWithin old) (sym now_is) (All-append (IsWithin old) held items so.within each_within);
          all = λ read. subst (All (AreIn now)) (sym at_i.next)
              (All-push (AreIn now) (take i old.reels) r
              (All-weaker (AreIn held) (AreIn now) (λ q has. from_before q kept has) (take i old.reels) (so.all (read_too read)))
              (here_in r at_i.named (ap blocks_in at_i.found)));
          only = more_reads old mid new so.only only;
        }

  pub reel_unread : (now ≡ held) × Rose mid.read_faults new.read_faults → SoFar (i + 1) now old new
  reel_unread (same, rose) = record {
    within = subst (AreWithin old) (sym same) so.within;
    all = λ read. absurd (read (Rose-behind so.only.read_faults rose));
    only = more_reads old mid new so.only only;
  }

  pub one_reel : Adds serial held now mid new → SoFar (i + 1) now old new
  one_reel (inl more) = reel_more more
  one_reel (inr unread) = reel_unread unread

pub all_reels : (i : ℕ) (held : List Held) (old new : Rack) → length old.reels ≤ i → SoFar i held old new → IsRead old new → HasAll old.reels held
all_reels i held old new over so read = subst (All (AreIn held)) (take_all i old.reels over) (so.all read)
