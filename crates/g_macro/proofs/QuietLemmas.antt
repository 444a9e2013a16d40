-- Levels without a waiting command.
-- serves: have_entries
use Rattle.std.proofs.Common.{Bool, List, None, Option, Some, [], ap, arith, false, find, length, ne_eqb, not, refl, reverse, sym, true, ℕ, ◌++◌, ◌==◌, ◌||◌, ◌∙◌, ◌∷◌, ◌≡◌}
use Rattle.std.proofs.lemmas.Bool.{false≢true}
use Rattle.std.proofs.lemmas.List.{reverse-append}
use Rattle.std.specs.List.{list_any}
use Rattle.g_macro.specs.Levels.{Level, entry_that_holds, fired, has_entry}
use Rattle.g_macro.specs.Questions.{cond_holds}
use Rattle.g_macro.specs.declared.entry.Entry.{Entry}
use Rattle.g_macro.specs.declared.outcome.Outcome.{Outcome}

neither : (a b : Bool) → (a || b) ≡ false → (a ≡ false) × (b ≡ false)
neither true b is = absurd (false≢true (sym is))
neither false b is = (refl, is)

found_none : (p : Entry → Bool) (entries : List Entry) → not (length entries == 0) ≡ false → find p entries ≡ None
found_none p [] none = refl
found_none p (entry ∷ entries) none =
    let some : (length (entry ∷ entries) == 0) ≡ false = ne_eqb (length (entry ∷ entries)) 0 (λ e. absurd (omega (arith, e))) in
    absurd (false≢true (sym none ∙ ap not some))

module _ (outcome : Outcome) where
  by_none : (level : Level) (below more : List Level) (o : Option Entry) → (fired outcome below ≡ None → fired outcome (below ++ more) ≡ fired outcome more)
      → ◌≡◌ {A = Option (List ℕ × List Level)} (elim o [ Some entry ↦ Some (entry.command, level ∷ below) | None ↦ fired outcome below ]) None
      → ◌≡◌ {A = Option (List ℕ × List Level)} (elim o [ Some entry ↦ Some (entry.command, level ∷ (below ++ more)) | None ↦ fired outcome (below ++ more) ]) (fired outcome more)
  by_none level below more None rest none = rest none
  by_none level below more (Some entry) rest none = absurd cc

  -- if no entry of these levels fires, the levels below decide
  fired_behind : (above more : List Level) → fired outcome above ≡ None → fired outcome (above ++ more) ≡ fired outcome more
  fired_behind [] more none = refl
  fired_behind (level ∷ above) more none = by_none level above more (entry_that_holds level outcome) (fired_behind above more) none

  fired_alone : (level : Level) → has_entry level ≡ false → fired outcome (level ∷ []) ≡ None
  fired_alone level none = by (entry_that_holds level outcome) (found_none (λ (entry : Entry). cond_holds level.params outcome entry.cond) level.entries none)
    where
      by : (o : Option Entry) → o ≡ None → ◌≡◌ {A = Option (List ℕ × List Level)} (elim o [ Some entry ↦ Some (entry.command, level ∷ []) | None ↦ None ]) None
      by None is = refl
      by (Some entry) is = absurd cc

  -- none fires
  pub none_fired : (all : List Level) → list_any has_entry all ≡ false → fired outcome (reverse all) ≡ None
  none_fired [] none = refl
  none_fired (document ∷ above) none =
      let both = neither (has_entry document) (list_any has_entry above) none in
      ap (fired outcome) (reverse-append (document ∷ []) above)
      ∙ fired_behind (reverse above) (document ∷ []) (none_fired above both.1)
      ∙ fired_alone document both.0
