-- The adoption of a dump is permitted, and what it leaves.
-- serves: adopt, StartedLemmas
use Rattle.std.proofs.Common.{◌≡◌, ◌≢◌, ℕ, ◌^◌, ◌<◌, Bool, true, false, List, get_or, Option, None, refl, sym, ap, subst}
use Rattle.std.specs.Prelude.{All, Contains, IfSome, is_some}
use Rattle.std.proofs.lemmas.Bool.{both_ways}
use Rattle.std.proofs.lemmas.List.Elements.{All-contains, Contains-get_or}
use Rattle.g_entry.specs.declared.file_rec.FileRec.{FileRec}
use Rattle.g_entry.specs.declared.file_rec.TapeCopy.{TapeCopy}
use Rattle.g_entry.specs.FileFields.{IsCopy, IsFile}
use Rattle.g_disc_contents.specs.Contents.{Contents, File, recs_in}
use Rattle.g_disc_contents.specs.Facts.{IsTied, OnlineFacts}
use Rattle.g_online.specs.declared.change.Change.TheVariants.{Adopt}
use Rattle.g_online.specs.AllowedChanges.{IsAllowed, KeepsRules}
use Rattle.g_online.specs.Change.{changed}
use Rattle.g_online.proofs.CopiedLemmas.{none_copied, rules_copied}
use Rattle.g_online.proofs.KeepLemmas.{rules_of}
use Rattle.g_store_meaning.specs.Laws.{closed}
use Rattle.g_laws_store.proofs.WaitingLemmas.{mapped_there}
use Rattle.g_store.specs.Starting.{adoption, copies_named, has_empty}
use Rattle.g_store.proofs.OwnPlaceLemmas.{empty_there, named_all}

-- WHAT THE COMMIT CHANGES in the contents
pub adopt_then : (told pinned : Bool) (last : ℕ) (copies : List (ℕ × TapeCopy)) (c : Contents) → pinned ≡ false → changed told pinned (Adopt last copies) c ≡ closed last copies c
unfolding changed
adopt_then told true last copies c is = let no : ⊥ = both_ways true is refl in absurd no
adopt_then told false last copies c is = refl

-- THE RULES of the contents, from what ties them to the disc
pub rules_here : (o : OnlineFacts) → o.live ≡ true → IsTied o → KeepsRules o.contents
rules_here o live tied = subst KeepsRules (sym (tied.contents live)) (rules_of o.disc.size o.disc.held o.layout.directory (tied.records live) (tied.rules live))

-- THE COPIES that records of a dump name
copies_stand : (files dumped : List FileRec) → All IsFile dumped → All (λ (c : ℕ × TapeCopy). IsCopy c.1) (copies_named files dumped)
copies_stand files dumped each =
    named_all (λ (c : ℕ × TapeCopy). IsCopy c.1) files dumped
    (λ r c there spared tape. subst (λ (o : Option TapeCopy). IfSome o IsCopy) tape (All-contains IsFile dumped r each there).tape)

spares_empty : (files dumped : List FileRec) (r : FileRec) → Contains files r → r.len ≡ 0 → All (λ (c : ℕ × TapeCopy). c.0 ≢ r.stamp) (copies_named files dumped)
spares_empty files dumped r there none =
    named_all (λ (c : ℕ × TapeCopy). c.0 ≢ r.stamp) files dumped
    (λ s c in_s spared tape same. both_ways (has_empty files s.stamp) spared (empty_there files r s.stamp there (sym same) none))

pub may_adopt : (o : OnlineFacts) (number : ℕ) (dumped : List FileRec) → o.live ≡ true → o.pins ≡ None → IsTied o → number < 2 ^ 62 → All IsFile dumped → IsAllowed (adoption number dumped o) o
may_adopt o number dumped live pins tied low each =
    let recs = recs_in o.contents in
    let copies = copies_named recs dumped in
    let rules = rules_copied copies (copies_stand recs dumped each) o.contents number low
    (λ k d inside none. let r = get_or recs k d in none_copied copies r.stamp r.tape (spares_empty recs dumped r (Contains-get_or recs k d inside) none)) (rules_here o live tied) in
    record {
      live = live;
      fits = (
        pins,
        λ k d inside none. let f = get_or o.contents.files k d in
            spares_empty recs dumped f.rec (mapped_there (λ (g : File). g.rec) o.contents.files f (Contains-get_or o.contents.files k d inside)) none,
      );
      rules = subst KeepsRules (sym (adopt_then (is_some o.disc.held) (is_some o.pins) number copies o.contents (ap is_some pins))) rules;
    }
