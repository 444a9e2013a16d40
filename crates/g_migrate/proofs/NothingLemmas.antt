-- IF the room suffices, a plan that takes nothing.
-- serves: plan_unjam (plan, room)
use Rattle.std.proofs.Common.{◌≡◌, ◌≢◌, ℕ, zero, suc, ◌+◌, ◌<◌, ◌≤◌, Bool, true, false, ◌&&◌, List, [], ◌∷◌, ◌∙◌, inl, inr, arith, sym, ap, subst, refl}
use Rattle.std.specs.Prelude.{◌⊎◌, All, AllPairs, Contains, sum_by, nat_lt, if◌then◌else◌}
use Rattle.std.proofs.lemmas.Bool.{and_parts, cases_Bool, cond-false, ltb-true}
use Rattle.std.proofs.lemmas.List.Sums.{sum_by-cons}
use Rattle.g_base.specs.Block.{blocks_for}
use Rattle.g_disc_contents.specs.Contents.{File}
use Rattle.g_disc_contents.specs.Facts.{OnlineFacts, room_of, room_with}
use Rattle.g_online.proofs.TwoLemmas.{taken_none}
use Rattle.g_laws_store.specs.UnjamPlan.{IsUnjamPlan, is_candidate, is_taken}
use Rattle.g_migrate.specs.UnjamPlan.{IsRoomWithout}

abbrev counted : File → ℕ
counted f = if is_taken 0 f then blocks_for f.rec.len else 0

none_below : (f : File) → is_taken 0 f ≡ true → ⊥
none_below f is =
    let low = ltb-true f.rec.stamp 0 (and_parts (nat_lt f.rec.stamp 0) (is_candidate f) is).0 in
    omega (arith, low)

counts_nothing : (f : File) → counted f ≡ 0
counts_nothing f = by_case (cases_Bool (is_taken 0 f))
  where
    by_case : (is_taken 0 f ≡ true) ⊎ (is_taken 0 f ≡ false) → counted f ≡ 0
    by_case (inl is) = absurd (none_below f is)
    by_case (inr isnt) = cond-false (is_taken 0 f) (blocks_for f.rec.len) 0 isnt

no_blocks : (files : List File) → sum_by counted files ≡ 0
no_blocks [] = refl
no_blocks (f ∷ fs) =
    let more = sum_by-cons counted f fs in
    let one = counts_nothing f in
    let rest = no_blocks fs in
    omega (arith, more, one, rest)

pub nothing_is_a_plan : (o : OnlineFacts) (need room : ℕ) → room ≡ room_of o → need ≤ room → IsUnjamPlan need o [] room
nothing_is_a_plan o need room is enough = record {
  until = 0;
  from = λ i d inside. let no : ⊥ = omega (arith, inside) in absurd no;
  all = λ f there taken. absurd (none_below f taken);
  once = λ i j d before inside. let no : ⊥ = omega (arith, inside) in absurd no;
  room_is = let none = no_blocks o.contents.files in omega (arith, is, none);
  enough = inl enough;
  least = λ lower less. let no : ⊥ = omega (arith, less) in absurd no;
}

pub room_of_nothing : (o : OnlineFacts) (room : ℕ) → room ≡ room_of o → IsRoomWithout o [] room
room_of_nothing o room is = is ∙ ap (λ (files : List File). room_with files o) (sym (taken_none o.contents.files))
