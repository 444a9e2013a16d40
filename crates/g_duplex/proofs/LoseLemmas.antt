-- When a second twin is lost by a write.
-- serves: who_fails_was_asked (loses)
use Rattle.std.proofs.Common.{◌≡◌, ◌⊎◌, ℕ, ◌<◌, List, Bool, true, false, not, ◌||◌, nat_le, nat_lt, Option, Some, None, Ok, Err, if◌then◌else◌, refl, sym, subst, ap, ◌∙◌, inl, inr}
use Rattle.std.specs.Option.{ForSome}
use Rattle.std.proofs.lemmas.Bool.{ltb-true}
use Rattle.g_base.specs.Counts.{Rose}
use Rattle.g_tape.specs.declared.fault.TapeFault.{TapeFault}
use Rattle.g_tape.specs.declared.fault.TapeFault.TheVariants.{NoTape, NotMounted, End, ReadFailed, WriteFailed}
use Rattle.g_tape.specs.Reel.{Reel}
use Rattle.g_tape.specs.Rack.{Rack, Writing, reel, refuses_write}
use Rattle.g_duplex.specs.Twins.{AreTwins, after_both, after_failure, are_up, is_lost, of_other, pair_reel}
use Rattle.g_duplex.specs.Pair.{Pair, shown, standing, stands, with_standing}
use Rattle.g_duplex.specs.Calls.{Answer, Follows, WritesOn, behind, stands_after}
use Rattle.g_duplex.specs.Laws.{LosesWithCause}
use Rattle.g_duplex.specs.declared.twin.Twin.TheVariants.{Second}
use Rattle.g_duplex.specs.declared.twin.Standing.{Standing}
use Rattle.g_duplex.specs.declared.twin.Standing.TheVariants.{Level, Apart, Lost}
use Rattle.g_duplex.proofs.PairLemmas.{AreAt, at_standing, seen_at}
use Rattle.g_duplex.proofs.ReadLemmas.{second_of}
use Rattle.g_duplex.proofs.RiskLemmas.{standing_set}
use Rattle.g_duplex.proofs.WriteLemmas.{free_write}

set_once : (s : ℕ) (xs : List Reel) (ts : List Standing) (t u v : Standing) → standing s xs ts ≡ Some t
    → with_standing s (λ (w : Standing). u) xs ts ≡ with_standing s (λ (w : Standing). v) xs ts → u ≡ v
set_once s xs ts t u v is same =
    let one : Some u ≡ Some v = sym (standing_set s xs ts t u is) ∙ ap (standing s xs) same ∙ standing_set s xs ts t v is in
    cc

failure_keeps : (k : ℕ) (t : Standing) → is_lost t ≡ false → is_lost (after_failure k t) ≡ false
failure_keeps k Level is = refl
failure_keeps k (Apart j) is = refl
failure_keeps k (Lost twin) is = is

both_keep : (k : ℕ) (t : Standing) → is_lost t ≡ false → is_lost (after_both k t) ≡ false
both_keep k Level is = refl
both_keep k (Apart j) is = by (nat_le k j)
  where
    by : (b : Bool) → is_lost (if b then Level else Apart j) ≡ false
    by true = refl
    by false = refl
both_keep k (Lost twin) is = is

lost_never : (t : Standing) → t ≡ Lost Second → is_lost t ≡ false → ⊥
lost_never t is fine = let never : true ≡ false = sym (ap is_lost is) ∙ fine in cc

led : (t : Standing) (f g : Rack) → is_lost t ≡ false → of_other t f g ≡ g
led Level f g is = refl
led (Apart k) f g is = refl
led (Lost twin) f g is = let never : true ≡ false = is in absurd (cc)

second_up : (t : Standing) (m n : Bool) → is_lost t ≡ false → are_up t m n ≡ true → n ≡ true
second_up Level m n fine is = second_of m n is
second_up (Apart k) m n fine is = second_of m n is
second_up (Lost twin) m n fine is = let never : true ≡ false = fine in absurd (cc)

-- the end of a reel that is mounted and large enough is its length
end_short : (k : ℕ) (b : Reel) → b.mounted ≡ true → nat_lt k b.capacity ≡ true → refuses_write k (Some b) ≡ Some End → b.len < k
end_short k b up room is = by (nat_lt b.len k) refl (rw (up, room) at is)
  where
    by : (x : Bool) → nat_lt b.len k ≡ x → (if x || false then Some End else None) ≡ Some End → b.len < k
    by true short e = ltb-true b.len k short
    by false short e = let wrong : None ≡ Some End = e in absurd (cc)

module _ (s k : ℕ) (block : List ℕ) (old new : Pair) (t : Standing) (a b : Reel) (twins : AreTwins t a b) (at : AreAt s t a b old.standings old.first.reels old.second.reels)
    (fine : is_lost t ≡ false) (up : b.mounted ≡ true) (room : nat_lt k b.capacity ≡ true) where
  abbrev Cause : Type 0
  Cause = Rose old.second.write_faults new.second.write_faults ⊎ ForSome (reel s old.second.reels) (λ r. r.len < k)

  short : b.len < k → Cause
  short less = inr (λ r there. let e : Some b ≡ Some r = sym at.second ∙ there in let one : b ≡ r = cc in subst (λ (x : Reel). x.len < k) one less)

  second_answer : (answer : Answer) → Writing s k block old.second answer new.second → stands_after k answer t ≡ Lost Second → Cause
  second_answer (Ok u) is lost = absurd (lost_never (after_both k t) lost (both_keep k t fine))
  second_answer (Err WriteFailed) is lost = inl is.1
  second_answer (Err ReadFailed) is lost = absurd is
  second_answer (Err NoTape) is lost =
      absurd (let e : refuses_write k (Some b) ≡ Some NoTape = sym (ap (refuses_write k) at.second) ∙ is.0 in no_such e)
    where
      by : (x y : Bool) → (if x then (if y then Some End else None) else Some NotMounted) ≡ Some NoTape → ⊥
      by true true e = cc
      by true false e = cc
      by false y e = cc

      no_such : refuses_write k (Some b) ≡ Some NoTape → ⊥
      no_such e = by b.mounted (nat_lt b.len k || not (nat_lt k b.capacity)) e
  second_answer (Err NotMounted) is lost =
      absurd (let e : refuses_write k (Some b) ≡ Some NotMounted = sym (ap (refuses_write k) at.second) ∙ is.0 in by (nat_lt b.len k || not (nat_lt k b.capacity)) (rw up at e))
    where
      by : (y : Bool) → (if y then Some End else None) ≡ Some NotMounted → ⊥
      by true e = cc
      by false e = cc
  second_answer (Err End) is lost = short (end_short k b up room (sym (ap (refuses_write k) at.second) ∙ is.0))

  followed : (flag : Bool) → is_lost t ≡ flag → (after : Standing) → after ≡ Lost Second → Follows flag s k block t (behind t old) (behind t new) after → Cause
  followed true is after lost on = absurd (let never : true ≡ false = sym is ∙ fine in cc)
  followed false is after lost (answer, writing, stands) =
      let one : Writing s k block old.second answer (behind t new) = subst (λ (r : Rack). Writing s k block r answer (behind t new)) (led t old.first old.second fine) writing in
      let two : Writing s k block old.second answer new.second = subst (λ (r : Rack). Writing s k block old.second answer r) (led t new.first new.second fine) one in
      second_answer answer two (sym stands ∙ lost)

  wrote_on : (answer result : Answer) (after : Standing) → after ≡ Lost Second → WritesOn s k block t answer (behind t old) result (behind t new) after → Cause
  wrote_on (Err fault) result after lost on = absurd (lost_never (after_failure k t) (sym on.2 ∙ lost) (failure_keeps k t fine))
  wrote_on (Ok u) result after lost on = followed (is_lost t) refl after lost on.1

-- whether it is refused
some_fault : (o : Option TapeFault) → (o ≡ None) ⊎ ((f : TapeFault) × (o ≡ Some f))
some_fault None = inl refl
some_fault (Some f) = inr (f, refl)

pub loses_with_cause : LosesWithCause
loses_with_cause s k block old result new t paired writes stand fine lost =
    let (a, b, twins, at) = at_standing s t old.standings old.first.reels old.second.reels paired stand in
    let seen = seen_at s t a b old.standings old.first.reels old.second.reels paired at in
    elim (some_fault (refuses_write k (reel s (shown old).reels))) [
      | inr (f, refused) ↦
          let still : old.standings ≡ with_standing s (λ (v : Standing). Lost Second) old.first.reels old.standings = sym (ap (λ (p : Pair). p.standings) (writes.refused f refused)) ∙ lost in
          let now : Some t ≡ Some (Lost Second) = sym stand ∙ ap (standing s old.first.reels) still ∙ standing_set s old.first.reels old.standings t (Lost Second) stand in
          let is : t ≡ Lost Second = cc in
          absurd (lost_never t is fine)
      | inl free ↦
          let (after, written, stands_are) = writes.asked free t stand in
          let (answer, lead, on) = written in
          let is : after ≡ Lost Second = set_once s old.first.reels old.standings t after (Lost Second) stand (sym stands_are ∙ lost) in
          let (up, long, room) = free_write k (pair_reel t a b) (sym (ap (refuses_write k) seen) ∙ free) in
          wrote_on s k block old new t a b twins at fine (second_up t a.mounted b.mounted fine up) (ap (nat_lt k) (sym twins.capacity) ∙ room) answer result after is on
    ]
