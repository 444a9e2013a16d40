-- What the catalogue shows of a reel and of the files.
-- serves: AnswerLemmas, JobLemmas, PrepareLemmas
use Rattle.std.proofs.Common.{◌≡◌, ℕ, zero, suc, ◌==◌, true, false, List, [], ◌∷◌, map, Some, refl, sym, ◌∙◌, arith, subst, inl, inr}
use Rattle.std.specs.Prelude.{◌⊎◌, All, Contains}
use Rattle.std.proofs.lemmas.Bool.{cond-false, cond-true}
use Rattle.std.proofs.lemmas.Bool.Decides.{eqb_tells}
use Rattle.std.proofs.lemmas.List.Elements.{All-head, All-tail}
use Rattle.g_tape.specs.Rack.{Rack, reel}
use Rattle.g_tape.specs.Reel.{Reel}
use Rattle.g_tape.proofs.PlaceLemmas.{reel-found}
use Rattle.g_incr.specs.declared.note.DumpNote.{DumpNote}
use Rattle.g_incr.specs.Layout.{Dump}
use Rattle.g_shelf.specs.declared.rack.Listed.{Listed}
use Rattle.g_shelf.specs.FoundDumps.{note_of}
use Rattle.g_known.specs.ReelNotes.{AreFound, AreListed, IsListed}
use Rattle.g_shelf.proofs.OneLemmas.{completed_are_one}
use Rattle.g_laws_store.proofs.WaitingLemmas.{mapped_there}
use Rattle.g_process.specs.Lists.{notes_at}
use Rattle.g_process.specs.ProcessPlan.{IsFree, IsTaken}

abbrev serials : List Listed → List ℕ
serials ls = map (λ (l : Listed). l.serial) ls

-- THE NOTES OF A REEL that is listed are those of the dumps that were read on it
pub record IsNotedAt (serial : ℕ) (old new : Rack) (lists : List Listed) : Type 0 where
  pub dumps : List Dump
  pub found : AreFound serial dumps old
  pub notes_are : notes_at serial lists ≡ map note_of dumps

noted_in : (serial : ℕ) (old new : Rack) (lists : List Listed) → All (IsListed old) lists → Contains (serials lists) serial → IsNotedAt serial old new lists
noted_in serial old new [] all (i, within, is) = absurd (let no : ⊥ = omega (arith, within) in no)
noted_in serial old new (l ∷ ls) all there = by_serial (eqb_tells l.serial serial) there (λ it. noted_in serial old new ls (All-tail (IsListed old) l ls all) it)
  where
    by_serial : (((l.serial == serial) ≡ true) × (l.serial ≡ serial)) ⊎ (((l.serial == serial) ≡ false) × (l.serial ≡ serial → ⊥)) → Contains (serials (l ∷ ls)) serial
        → (Contains (serials ls) serial → IsNotedAt serial old new ls) → IsNotedAt serial old new (l ∷ ls)
    by_serial (inl h) it rest =
        let here = All-head (IsListed old) l ls all in
        record {
          dumps = here.dumps;
          found = subst (λ (n : ℕ). AreFound n here.dumps old) h.1 here.found;
          notes_are = cond-true (l.serial == serial) l.notes (notes_at serial ls) h.0 ∙ here.notes_are;
        }
    by_serial (inr h) (zero, within, is) rest = absurd (h.1 is)
    by_serial (inr h) (suc i, within, is) rest =
        let more = rest (i, omega (arith, within), is) in
        record { dumps = more.dumps; found = more.found; notes_are = cond-false (l.serial == serial) l.notes (notes_at serial ls) h.0 ∙ more.notes_are }

pub noted_at : (serial : ℕ) (old new : Rack) (lists : List Listed) (r : Reel) → AreListed old lists → reel serial old.reels ≡ Some r → IsNotedAt serial old new lists
noted_at serial old new lists r are at =
    let (there, named) = reel-found serial old.reels r at in
    noted_in serial old new lists are.each (subst (λ (ns : List ℕ). Contains ns serial) (sym are.serials)
    (subst (λ (n : ℕ). Contains (map (λ (x : Reel). x.serial) old.reels) n) named (mapped_there (λ (x : Reel). x.serial) old.reels r there)))

pub unlisted : (serial : ℕ) (lists : List Listed) → (Contains (serials lists) serial → ⊥) → notes_at serial lists ≡ []
unlisted serial [] apart = refl
unlisted serial (l ∷ ls) apart =
    elim (eqb_tells l.serial serial) [
      | inl h ↦ absurd (apart (0, omega arith, h.1))
      | inr h ↦ cond-false (l.serial == serial) l.notes (notes_at serial ls) h.0 ∙ unlisted serial ls (λ it. apart (later it))
    ]
  where
    later : Contains (serials ls) serial → Contains (serials (l ∷ ls)) serial
    later (i, within, is) = (suc i, omega (arith, within), is)

-- no notes, no dumps
none_noted : (dumps : List Dump) (notes : List DumpNote) → notes ≡ map note_of dumps → notes ≡ [] → dumps ≡ []
none_noted [] notes is none = refl
none_noted (d ∷ ds) notes is none = absurd (let no : ⊥ = cc in no)

some_noted : (dumps : List Dump) (notes : List DumpNote) → notes ≡ map note_of dumps → (notes ≡ [] → ⊥) → dumps ≡ [] → ⊥
some_noted [] notes is some none = some is
some_noted (d ∷ ds) notes is some none = let no : ⊥ = cc in no

-- A REEL IS FREE if its list is empty, otherwise it is taken
pub free_by_list : (serial : ℕ) (old new : Rack) (lists : List Listed) (r : Reel) → AreListed old lists → reel serial old.reels ≡ Some r → notes_at serial lists ≡ [] → IsFree serial old
free_by_list serial old new lists r are at none =
    let noted = noted_at serial old new lists r are at in
    record {
      none = λ blocks told dumps completed.
          completed_are_one serial blocks dumps noted.dumps completed (noted.found.completed blocks told) ∙ none_noted noted.dumps (notes_at serial lists) noted.notes_are none;
    }

pub taken_by_list : (serial : ℕ) (old new : Rack) (lists : List Listed) (r : Reel) → AreListed old lists → reel serial old.reels ≡ Some r → (notes_at serial lists ≡ [] → ⊥) → IsTaken serial old
taken_by_list serial old new lists r are at some =
    let noted = noted_at serial old new lists r are at in
    record {
      some = λ blocks told dumps completed none.
          some_noted noted.dumps (notes_at serial lists) noted.notes_are some (completed_are_one serial blocks noted.dumps dumps (noted.found.completed blocks told) completed ∙ none);
    }
