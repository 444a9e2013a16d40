-- Of the two refusals that name what is lost, only one can occur: if a copy is lost, all directories go together.
-- serves: RackLemmas
use Rattle.std.proofs.Common.{◌≡◌, ℕ, ◌+◌, ◌<◌, List, ◌++◌, length, take, drop, sym, ◌∙◌, ap, arith, subst}
use Rattle.std.proofs.lemmas.List.{take-append-drop}
use Rattle.g_entry.specs.declared.user_rec.UserRec.{UserRec}
use Rattle.g_entry.specs.Rules.{AreFiles, StampsBelow}
use Rattle.g_name.specs.declared.full.Full.{Full}
use Rattle.g_incr.specs.Layout.{Dump}
use Rattle.g_incr.specs.Plan.{numbered_from}
use Rattle.g_incr.proofs.NumberLemmas.{numbered-append}
use Rattle.g_store_meaning.specs.Meaning.{Gathers}
use Rattle.g_store_meaning.proofs.GatheredLemmas.{all_front, files_front, gathers_front}
use Rattle.g_restore.specs.Losses.{AreApart, GoTogether, IsFirstLost, IsLostDirectory}

-- if all directories go together, so do those of the first users
go_front : (dumps : List Dump) (last : Dump) (users : List UserRec) → GoTogether dumps last users → (k : ℕ) → GoTogether dumps last (take k users)
go_front dumps last users all k =
    let part = gathers_front dumps (take k users) (drop k users) all.files
    (subst (λ (us : List UserRec). Gathers dumps us all.files) (sym (take-append-drop k users)) all.gathers) in
    let numbered : numbered_from 0 all.files ≡ numbered_from 0 part.front ++ numbered_from (0 + length part.front) part.back =
    ap (numbered_from 0) part.are ∙ numbered-append 0 part.front part.back in
    record {
      files = part.front;
      gathers = part.gathers;
      rules = files_front (length last.users) (numbered_from 0 part.front) (numbered_from (0 + length part.front) part.back)
          (subst (AreFiles (length last.users)) numbered all.rules);
      dated = all_front (λ r. r.stamp < last.next) (numbered_from 0 part.front) (numbered_from (0 + length part.front) part.back)
          (subst (StampsBelow last.next) numbered all.dated);
    }

pub not_both : (dumps : List Dump) → AreApart dumps → (full : Full) (serial : ℕ) (name : List ℕ) → IsFirstLost dumps full serial → IsLostDirectory dumps name → ⊥
not_both dumps apart full serial name copy is =
    let one = copy.greatest.greatest is.last is.greatest.there in
    let two = is.greatest.greatest copy.last copy.greatest.there in
    let last : copy.last ≡ is.last = apart copy.last is.last copy.greatest.there is.greatest.there (omega (arith, one, two)) in
    is.bad (subst (λ (d : Dump). GoTogether dumps d (take (is.number + 1) d.users)) last (go_front dumps copy.last copy.last.users copy.all (is.number + 1)))
