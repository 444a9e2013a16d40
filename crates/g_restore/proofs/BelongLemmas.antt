-- A restore preserves the belonging of disc and rack.
-- serves: rebuild (belongs_refused), AnswerLemmas
use Rattle.std.proofs.Common.{◌≡◌, ◌⊎◌, ℕ, true, List, Option, Some, None, refl, sym, ◌∙◌, ap, subst, inl, inr}
use Rattle.std.proofs.lemmas.Option.{same_Some}
use Rattle.g_base.specs.ToldContent.{Changes}
use Rattle.g_disc.specs.Disc.{DiscState}
use Rattle.g_tape.specs.Rack.{Rack}
use Rattle.g_tape.specs.Reads.{OnlyReads}
use Rattle.g_tape.specs.Reel.{Reel}
use Rattle.g_disc_contents.specs.Contents.{Contents, Holds, contents_of}
use Rattle.g_disc_contents.specs.Facts.{IsTied, OnlineFacts}
use Rattle.g_disc_contents.proofs.HoldLemmas.{holds_one}
use Rattle.g_incr.specs.Layout.{Dump}
use Rattle.g_shelf.specs.CompletedDumps.{all_dumps}
use Rattle.g_store_meaning.specs.Belonging.{Belong, BelongWith, DiscBelongs, RackBelongs}
use Rattle.g_store_meaning.specs.Laws.{restored}
use Rattle.g_store_meaning.specs.Meaning.{DumpedDirectory, told_reels}
use Rattle.g_store_meaning.specs.Reading.{ReelsTold}
use Rattle.g_store_meaning.proofs.ChangeLemmas.{restore_belongs}
use Rattle.g_store_meaning.proofs.ViewLemmas.{reads_belong}
use Rattle.g_online.specs.Beginning.{AsBeforeOr, HasMade, HoldsAsBefore}
use Rattle.g_restore.specs.Restoration.{IsRestored, KeepsBelonging}
use Rattle.g_restore.proofs.ReelLemmas.{all_of_reels}

restored_belongs : (text : ℕ → List ℕ) (shelf : ℕ → List Dump) (reels : List Reel) (held : Option (List (List ℕ))) (dumps : List Dump) → all_dumps shelf reels ≡ dumps
    → RackBelongs text (all_dumps shelf reels) → (t : DumpedDirectory dumps) → DiscBelongs text shelf reels (restored held t)
restored_belongs text shelf reels held dumps same rack =
    subst (λ (ds : List Dump). (u : DumpedDirectory ds) → DiscBelongs text shelf reels (restored held u)) same (λ u. restore_belongs text shelf reels held u rack)

module _ (held : Option (List (List ℕ))) (reels : List Reel) (number : ℕ) (made : Contents) (told : ReelsTold reels) (is : IsRestored reels held number made) (old : BelongWith held reels) where
  disc_belongs : DiscBelongs old.text old.shelf reels made
  disc_belongs =
      let same : is.dumps ≡ all_dumps old.shelf reels = all_of_reels reels is.dumps old.shelf told old.shelved is.are in
      subst (DiscBelongs old.text old.shelf reels) (sym is.made_is) (restored_belongs old.text old.shelf reels held is.dumps (sym same) old.rack is.directory)

  -- A disc that holds exactly what was built.
  made_belongs : (after : Option (List (List ℕ))) → ((blocks : List (List ℕ)) (c : Contents) → after ≡ Some blocks → Holds blocks c → c ≡ made) → BelongWith after reels
  made_belongs after only = record {
    text = old.text;
    shelf = old.shelf;
    shelved = old.shelved;
    rack = old.rack;
    disc = λ blocks c at holds. subst (DiscBelongs old.text old.shelf reels) (sym (only blocks c at holds)) disc_belongs;
  }

  -- one that holds what it held, or that
  stopped_belongs : (after : Option (List (List ℕ))) → Changes (AsBeforeOr made) held after → BelongWith after reels
  stopped_belongs after changes = record {
    text = old.text;
    shelf = old.shelf;
    shelved = old.shelved;
    rack = old.rack;
    disc = λ blocks c at holds. by_held held refl blocks c at holds;
  }
    where
      by_held : (h : Option (List (List ℕ))) → held ≡ h → (blocks : List (List ℕ)) (c : Contents) → after ≡ Some blocks → Holds blocks c → DiscBelongs old.text old.shelf reels c
      by_held None is_held blocks c at holds = let none = changes.untold is_held in let no : ⊥ = cc in absurd no
      by_held (Some before) is_held blocks c at holds =
          let (a, now, one) = changes.told before is_held in
          let same : blocks ≡ a = same_Some blocks a (sym at ∙ now) in
          by_one a (subst (λ (bs : List (List ℕ)). Holds bs c) same holds) one.one
        where
          by_one : (a : List (List ℕ)) → Holds a c → HoldsAsBefore before a ⊎ Holds a made → DiscBelongs old.text old.shelf reels c
          by_one a here (inl kept) = old.disc before c is_held (kept.only c here)
          by_one a here (inr new) = subst (DiscBelongs old.text old.shelf reels) (sym (holds_one a c made here new)) disc_belongs

-- what a filestore that is live has in memory is what its disc holds
online_holds : (o : OnlineFacts) → IsTied o → o.live ≡ true → (blocks : List (List ℕ)) (c : Contents) → o.disc.held ≡ Some blocks → Holds blocks c → c ≡ o.contents
online_holds o tied live blocks c at holds =
    let here : Holds blocks o.contents = record {
      directory = o.layout.directory;
      stands = tied.stands live blocks at;
      are = tied.contents live ∙ ap (λ (h : Option (List (List ℕ))). contents_of h o.layout.directory) at;
    } in
    holds_one blocks c o.contents holds here

pub belongs_made : (disc : DiscState) (old new : Rack) (o : OnlineFacts) (number : ℕ) (made : Contents) → OnlyReads old new → IsTied o → HasMade made disc o
    → IsRestored (told_reels old) disc.held number made → KeepsBelonging disc.held old o.disc.held new
belongs_made disc old new o number made only tied has is told belong =
    reads_belong o.disc.held old new only
    (made_belongs disc.held (told_reels old) number made told is belong o.disc.held (λ blocks c at holds. online_holds o tied has.begun.live blocks c at holds ∙ has.contents))

pub belongs_stopped : (held after : Option (List (List ℕ))) (old new : Rack) (number : ℕ) (made : Contents) → OnlyReads old new → IsRestored (told_reels old) held number made
    → Changes (AsBeforeOr made) held after → KeepsBelonging held old after new
belongs_stopped held after old new number made only is changes told belong =
    reads_belong after old new only (stopped_belongs held (told_reels old) number made told is belong after changes)

pub belongs_same : (held after : Option (List (List ℕ))) (old new : Rack) → OnlyReads old new → after ≡ held → KeepsBelonging held old after new
belongs_same held after old new only same told belong =
    reads_belong after old new only (subst (λ (h : Option (List (List ℕ))). Belong h old) (sym same) belong)
