-- The gap in the numbers of the dumps in memory is the missing dump.
-- serves: missing
use Rattle.std.proofs.Common.{◌≡◌, ◌≢◌, ◌⊎◌, inl, inr, ℕ, ◌<◌, ◌≤◌, List, map, Option, Some, None, sym, ◌∙◌, ap, arith, subst}
use Rattle.std.specs.Prelude.{Contains, IsPermutation}
use Rattle.g_incr.specs.Layout.{Dump}
use Rattle.g_restore.specs.declared.dumps.Found.{Found}
use Rattle.g_restore.specs.KnownDumps.{AreKnown, Known, known, known_of}
use Rattle.g_look.specs.declared.broken.DumpAt.{DumpAt}
use Rattle.g_look.specs.SeenDumps.{at_found}
use Rattle.g_look.specs.Gaps.{HoldsAll, IsGap, IsMissing, IsNewestGap, IsNewestWhole, NamesMissing}
use Rattle.g_look.proofs.PairLemmas.{either_way, le_cases}
use Rattle.g_look.proofs.RackLemmas.{dump_at, dump_of, found_of, printed}

module _ (found : List Found) (ats : List DumpAt) (moved : IsPermutation (map at_found found) ats) (from : ℕ) (newest : IsNewestWhole found from)
    (dumps : List Dump) (are : AreKnown found dumps) where
  number_of : (f : Found) (d : Dump) → known f ≡ known_of d → f.dir.note.number ≡ d.number
  number_of f d same = ap (λ (k : Known). k.note.number) same

  -- a dump is printed with its number
  at_dump : (d : Dump) → Contains dumps d → (a : DumpAt) × Contains ats a × (a.number ≡ d.number)
  at_dump d in_d =
      let f = found_of found dumps are d in_d in
      (at_found f.one, printed found dumps are ats moved f.one f.there, number_of f.one d f.same)

  -- no dump newer than the newest whole one is whole
  not_whole : (d : Dump) → Contains dumps d → from < d.number → HoldsAll d.users d.held → ⊥
  not_whole d in_d above all =
      let f = found_of found dumps are d in_d in
      let most = newest.most f.one f.there (subst (λ (k : Known). HoldsAll k.users k.held) (sym f.same) all) in
      let number = number_of f.one d f.same in
      let no : ⊥ = omega (arith, most, number, above) in no

  is_missing : (n : ℕ) → IsGap ats from n → IsMissing dumps n
  is_missing n gap = record {
    number = let above = gap.above in omega (arith, above);
    gone = λ d in_d same. let (a, in_a, number) = at_dump d in_d in gap.gone a in_a (number ∙ same);
    later = later gap.later;
    needed = λ d in_d less. not_whole d in_d (let above = gap.above in omega (arith, above, less));
  }
    where
      later : (a : DumpAt) × Contains ats a × (n < a.number) → (d : Dump) × Contains dumps d × (n < d.number)
      later (a, in_a, less) =
          let (d, is) = dump_at found dumps are ats moved a in_a in
          let number : d.number ≡ a.number = ap (λ (x : DumpAt). x.number) is.told in
          (d, is.there, omega (arith, number, less))

  is_gap : (n : ℕ) → IsMissing dumps n → IsGap ats from n
  is_gap n missing = record { above = by_order (either_way n from); later = later missing.later; gone = gone }
    where
      later : (d : Dump) × Contains dumps d × (n < d.number) → (a : DumpAt) × Contains ats a × (n < a.number)
      later (d, in_d, less) = let (a, in_a, number) = at_dump d in_d in (a, in_a, omega (arith, number, less))

      gone : (a : DumpAt) → Contains ats a → a.number ≢ n
      gone a in_a same =
          let (d, is) = dump_at found dumps are ats moved a in_a in
          let number : d.number ≡ a.number = ap (λ (x : DumpAt). x.number) is.told in
          missing.gone d is.there (number ∙ same)

      -- the newest whole dump isn't at or after it
      whole : n ≤ from → (f : Found) × Contains found f × HoldsAll f.dir.users.items f.dir.held.items × (f.dir.note.number ≡ from) → ⊥
      whole to (f, in_f, all, number) = by_end (le_cases n from to)
        where
          by_end : (n < from) ⊎ (n ≡ from) → ⊥
          by_end (inr same) =
              let d = dump_of found dumps are f in_f in
              missing.gone d.dump d.there (sym (number_of f d.dump d.same) ∙ number ∙ sym same)
          by_end (inl less) =
              let d = dump_of found dumps are f in_f in
              let is = number_of f d.dump d.same in
              missing.needed d.dump d.there (omega (arith, is, number, less)) (subst (λ (k : Known). HoldsAll k.users k.held) d.same all)

      by_order : (n ≤ from) ⊎ (from < n) → from < n
      by_order (inr above) = above
      by_order (inl to) = absurd (whole to (newest.there (let positive = missing.number in omega (arith, positive, to))))

  pub names_missing : (result : Option ℕ) → IsNewestGap ats from result → NamesMissing dumps result
  names_missing None none = λ n missing. none n (is_gap n missing)
  names_missing (Some n) (gap, greatest) = (is_missing n gap, λ m missing. greatest m (is_gap m missing))
