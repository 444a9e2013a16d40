-- A pair that is made durable appears unchanged, and its reels remain twins.
-- serves: secure
use Rattle.std.proofs.Common.{◌≡◌, ◌⊎◌, ℕ, List, Bool, true, false, not, ◌&&◌, ◌||◌, Some, None, is_some, Ok, Err, inl, inr, if◌then◌else◌, refl, sym, ap, subst, arith, ◌∙◌}
use Rattle.g_base.specs.Counts.{one_more}
use Rattle.g_tape.specs.declared.fault.TapeFault.{TapeFault}
use Rattle.g_tape.specs.declared.fault.TapeFault.TheVariants.{NoTape, NotMounted, End, ReadFailed, WriteFailed}
use Rattle.g_tape.specs.Reel.{Reel}
use Rattle.g_tape.specs.Rack.{Rack, Securing, is_mounted, reel, with_reel}
use Rattle.g_tape.specs.Durable.{OthersAsDurable, SecuresDurably}
use Rattle.g_tape.specs.Risk.{Risk}
use Rattle.g_duplex.specs.Twins.{AreTwins, is_lost, leader, of_leader, of_other, pair_reel}
use Rattle.g_duplex.specs.Pair.{ArePaired, Pair, pair_reels, pair_risks, shown, standing_in, stands}
use Rattle.g_duplex.specs.Calls.{Answer, HasSecured, PairSecures, OtherTwin, SecuresOn, SecuresOther, behind, counted, is_shorter, leading, may_give_up, other_is, settles}
use Rattle.g_duplex.specs.Calls.OtherTwin.{Gone, Lacking, Needed, Spare}
use Rattle.g_duplex.specs.declared.twin.Twin.TheVariants.{Second}
use Rattle.g_duplex.specs.declared.twin.Standing.{Standing}
use Rattle.g_duplex.specs.declared.twin.Standing.TheVariants.{Apart, Level, Lost}
use Rattle.g_duplex.proofs.DurableLemmas.{changes_nothing, others_shown, secures_nothing, secures_shown}
use Rattle.g_duplex.proofs.PairLemmas.{AreAt, at_standing, pair_changed, paired_changed, same_reels, seen_at}
use Rattle.g_duplex.proofs.ReadLemmas.{leader_at, one_standing, to_first, to_second}
use Rattle.g_duplex.proofs.WriteLemmas.{leads_well}

-- BOTH RACKS hold the same reels
abbrev SameReels : Rack → Rack → Type 0
SameReels old new = new.reels ≡ old.reels

securing_reels : (s : ℕ) (old new : Rack) (answer : Answer) → Securing s old answer new → SameReels old new
securing_reels s old new (Ok u) (there, is) = ap (λ (r : Rack). r.reels) is
securing_reels s old new (Err ReadFailed) (there, rose, is) = ap (λ (r : Rack). r.reels) is
securing_reels s old new (Err NoTape) (missing, is) = ap (λ (r : Rack). r.reels) is
securing_reels s old new (Err WriteFailed) never = absurd never
securing_reels s old new (Err NotMounted) never = absurd never
securing_reels s old new (Err End) never = absurd never

other_reels : (other : OtherTwin) (s : ℕ) (t after : Standing) (old new : Rack) (result : Answer) → SecuresOther other s t old result after new → SameReels old new
other_reels Gone s t after old new result (is, stays, same) = ap (λ (r : Rack). r.reels) same
other_reels Lacking s t after old new result (is, stays, same) = ap (λ (r : Rack). r.reels) same
other_reels Spare s t after old new result (answer, securing, settled) = securing_reels s old new answer securing
other_reels Needed s t after old new result (answer, securing, settled) = securing_reels s old new answer securing

on_reels : (s : ℕ) (t after : Standing) (lead other other' : Rack) (answer result : Answer) → SecuresOn s t lead other answer result after other' → SameReels other other'
on_reels s t after lead other other' (Err fault) result (is, stays, same) = ap (λ (r : Rack). r.reels) same
on_reels s t after lead other other' (Ok u) result on = other_reels (other_is t (may_give_up s lead other) (is_shorter s lead other)) s t after other other' result on

secured_reels : (s : ℕ) (t after : Standing) (lead other lead' other' : Rack) (result : Answer) → HasSecured t s lead other result after lead' other'
    → SameReels lead lead' × SameReels other other'
secured_reels s t after lead other lead' other' result (answer, securing, on) = (securing_reels s lead lead' answer securing, on_reels s t after lead' other other' answer result on)

-- The outcomes: success, or a failed read; the standing is unchanged, or the second twin is given up.
record Settled (t : Standing) (spare : Bool) (result : Answer) (after : Standing) : Type 0 where
  answer : (result ≡ Ok tt) ⊎ (result ≡ Err ReadFailed)
  stands : (after ≡ t) ⊎ ((after ≡ Lost Second) × (is_lost t ≡ false) × (spare ≡ true))

either_settled : (spare : Bool) (s : ℕ) (t after : Standing) (answer result : Answer) → is_lost t ≡ false → (result, after) ≡ settles spare answer t → Settled t spare result after
either_settled spare s t after (Ok u) result fine settled =
    record { answer = inl (ap (λ (p : Answer × Standing). p.0) settled); stands = inl (ap (λ (p : Answer × Standing). p.1) settled) }
either_settled true s t after (Err fault) result fine settled =
    record { answer = inl (ap (λ (p : Answer × Standing). p.0) settled); stands = inr (ap (λ (p : Answer × Standing). p.1) settled, fine, refl) }
either_settled false s t after (Err fault) result fine settled =
    record { answer = inr (ap (λ (p : Answer × Standing). p.0) settled); stands = inl (ap (λ (p : Answer × Standing). p.1) settled) }

other_settled : (lost spare shorter : Bool) (s : ℕ) (t after : Standing) (old new : Rack) (result : Answer) → is_lost t ≡ lost
    → SecuresOther (if lost then Gone else (if spare then (if shorter then Lacking else Spare) else Needed)) s t old result after new → Settled t spare result after
other_settled true spare shorter s t after old new result lost (is, stays, same) = record { answer = inl is; stands = inl stays }
other_settled false true true s t after old new result lost (is, given_up, same) = record { answer = inl is; stands = inr (given_up, lost, refl) }
other_settled false true false s t after old new result lost (answer, securing, settled) = either_settled true s t after answer result lost settled
other_settled false false shorter s t after old new result lost (answer, securing, settled) = either_settled false s t after answer result lost settled

-- An existing reel isn't missing.
only_failed : (s : ℕ) (old new : Rack) (fault : TapeFault) (r : Reel) → reel s old.reels ≡ Some r → Securing s old (Err fault) new → fault ≡ ReadFailed
only_failed s old new ReadFailed r there securing = refl
only_failed s old new NoTape r there (missing, same) = absurd (let never : true ≡ false = sym (ap is_some there) ∙ missing in cc)
only_failed s old new WriteFailed r there securing = absurd securing
only_failed s old new NotMounted r there securing = absurd securing
only_failed s old new End r there securing = absurd securing

on_settled : (s : ℕ) (t after : Standing) (lead lead' other other' : Rack) (answer result : Answer) (r : Reel) → reel s lead.reels ≡ Some r → Securing s lead answer lead'
    → SecuresOn s t lead' other answer result after other' → Settled t (may_give_up s lead' other) result after
on_settled s t after lead lead' other other' (Ok u) result r there securing on =
    other_settled (is_lost t) (may_give_up s lead' other) (is_shorter s lead' other) s t after other other' result refl on
on_settled s t after lead lead' other other' (Err fault) result r there securing (is, stays, same) =
    record { answer = inr (is ∙ ap (λ (f : TapeFault). let e : Answer = Err f in e) (only_failed s lead lead' fault r there securing)); stands = inl stays }

-- What a pair shows if its second twin is given up.
up_alike : (m n : Bool) → (not m || n) ≡ true → m ≡ (m && n)
up_alike true true is = refl
up_alike true false is = absurd (cc)
up_alike false n is = refl

lost_seen : (t : Standing) (a b : Reel) → is_lost t ≡ false → (not a.mounted || b.mounted) ≡ true → pair_reel (Lost Second) a b ≡ pair_reel t a b
lost_seen Level a b fine alike = ap (λ (m : Bool). let r : Reel = record (pair_reel Level a b) { mounted = m } in r) (up_alike a.mounted b.mounted alike)
lost_seen (Apart k) a b fine alike = ap (λ (m : Bool). let r : Reel = record (pair_reel (Apart k) a b) { mounted = m } in r) (up_alike a.mounted b.mounted alike)
lost_seen (Lost twin) a b fine alike = absurd (let never : true ≡ false = fine in cc)

led_first : (t : Standing) (f g : Rack) → is_lost t ≡ false → (of_leader t f g ≡ f) × (of_other t f g ≡ g)
led_first Level f g fine = (refl, refl)
led_first (Apart k) f g fine = (refl, refl)
led_first (Lost twin) f g fine = absurd (let never : true ≡ false = fine in cc)

give_up_at : (s : ℕ) (one two : Rack) (a b : Reel) → reel s one.reels ≡ Some a → reel s two.reels ≡ Some b → may_give_up s one two ≡ true → (not a.mounted || b.mounted) ≡ true
give_up_at s one two a b first second is =
    sym (ap (λ (m : Bool). not m || b.mounted) (ap is_mounted first))
    ∙ sym (ap (λ (n : Bool). not (is_mounted (reel s one.reels)) || n) (ap is_mounted second)) ∙ is

-- The pair after the call.
module _ (s : ℕ) (p : Pair) (t after : Standing) (first' second' : Rack) (result : Answer)
    (paired : ArePaired p.standings p.first.reels p.second.reels) (stand : standing_in s p ≡ Some t)
    (secured : HasSecured t s (leading t p) (behind t p) result after (of_leader t first' second') (of_other t first' second')) where
  settled : Settled t (may_give_up s (of_leader t first' second') (behind t p)) result after
  settled =
      let (a, b, twins, at) = at_standing s t p.standings p.first.reels p.second.reels paired stand in
      let (answer, securing, on) = secured in
      on_settled s t after (leading t p) (of_leader t first' second') (behind t p) (of_other t first' second') answer result (of_leader t a b)
      (leader_at s t p a b at.first at.second) securing on

  both_reels : SameReels (leading t p) (of_leader t first' second') × SameReels (behind t p) (of_other t first' second')
  both_reels = secured_reels s t after (leading t p) (behind t p) (of_leader t first' second') (of_other t first' second') result secured

  first_reels : SameReels p.first first'
  first_reels = to_first SameReels t p.first p.second first' second' both_reels.0 both_reels.1

  second_reels : SameReels p.second second'
  second_reels = to_second SameReels t p.first p.second first' second' both_reels.0 both_reels.1

  -- The reels of this serial appear unchanged.
  alike : is_lost t ≡ false → may_give_up s (of_leader t first' second') (behind t p) ≡ true → may_give_up s p.first p.second ≡ true
  alike fine spare =
      let (lead, other) = led_first t p.first p.second fine in
      subst (λ (r : Rack). may_give_up s p.first r ≡ true) other
      (subst (λ (r : Rack). may_give_up s r (behind t p) ≡ true) lead
      (subst (λ (rs : List Reel). (not (is_mounted (reel s rs)) || is_mounted (reel s (behind t p).reels)) ≡ true) both_reels.0 spare))

  here_seen : (u : Standing) (a b : Reel) → AreTwins u a b → AreAt s u a b p.standings p.first.reels p.second.reels → pair_reel after a b ≡ pair_reel u a b
  here_seen u a b twins at =
      let same = one_standing t u (standing_in s p) stand at.standing in
      elim settled.stands [
        | inl stays ↦ ap (λ (v : Standing). pair_reel v a b) (stays ∙ same)
        | inr (lost, fine, spare) ↦
            ap (λ (v : Standing). pair_reel v a b) lost
            ∙ lost_seen t a b fine (give_up_at s p.first p.second a b at.first at.second (alike fine spare)) ∙ ap (λ (v : Standing). pair_reel v a b) same
      ]

  here_twins : (u : Standing) (a b : Reel) → AreTwins u a b → AreAt s u a b p.standings p.first.reels p.second.reels → AreTwins after a b
  here_twins u a b twins at =
      let same = one_standing t u (standing_in s p) stand at.standing in
      elim settled.stands [
        | inl stays ↦ subst (λ (v : Standing). AreTwins v a b) (sym (stays ∙ same)) twins
        | inr (lost, fine, spare) ↦ subst (λ (v : Standing). AreTwins v a b) (sym lost) (record { serial = twins.serial; capacity = twins.capacity; agree = tt })
      ]

  seen_same : pair_reels (stands s (λ _. after) p) first'.reels second'.reels ≡ pair_reels p.standings p.first.reels p.second.reels
  seen_same =
      let here = pair_changed s (λ r. r) (λ r. r) (λ r. r) (λ _. after) p.standings p.first.reels p.second.reels paired here_seen in
      ap (λ (rs : List Reel). pair_reels (stands s (λ _. after) p) rs second'.reels) (first_reels ∙ sym (same_reels s p.first.reels))
      ∙ ap (pair_reels (stands s (λ _. after) p) (with_reel s (λ r. r) p.first.reels)) (second_reels ∙ sym (same_reels s p.second.reels))
      ∙ here ∙ same_reels s (pair_reels p.standings p.first.reels p.second.reels)

  pub paired_still : ArePaired (stands s (λ _. after) p) first'.reels second'.reels
  paired_still =
      let here = paired_changed s (λ r. r) (λ r. r) (λ _. after) p.standings p.first.reels p.second.reels paired here_twins in
      subst (λ (rs : List Reel). ArePaired (stands s (λ _. after) p) rs second'.reels) (same_reels s p.first.reels ∙ sym first_reels)
      (subst (λ (rs : List Reel). ArePaired (stands s (λ _. after) p) (with_reel s (λ r. r) p.first.reels) rs) (same_reels s p.second.reels ∙ sym second_reels) here)

  seen_there : is_some (reel s (shown p).reels) ≡ true
  seen_there =
      let (a, b, twins, at) = at_standing s t p.standings p.first.reels p.second.reels paired stand in
      ap is_some (seen_at s t a b p.standings p.first.reels p.second.reels paired at)

  abbrev then_pair : Answer → Pair
  then_pair answer = record p { first = first'; second = second'; standings = stands s (λ _. after) p; read_faults = counted answer p.read_faults }

  abbrev risks_then : List Risk
  risks_then = pair_risks (stands s (λ _. after) p) (pair_reels (stands s (λ _. after) p) first'.reels second'.reels) first'.risks second'.risks

  securing_seen : (answer : Answer) → (answer ≡ Ok tt) ⊎ (answer ≡ Err ReadFailed) → Securing s (shown p) answer (shown (then_pair answer))
  securing_seen answer (inl is) = rw is (seen_there, ap (λ (rs : List Reel). let r : Rack = record (shown p) { reels = rs; risks = risks_then } in r) seen_same)
  securing_seen answer (inr is) =
      rw is (seen_there, record { more = omega arith }, ap (λ (rs : List Reel). let r : Rack = record (shown p) { reels = rs; read_faults = one_more p.read_faults; risks = risks_then } in r) seen_same)

  -- The same twin leads.
  led : leader after ≡ leader t
  led =
      elim settled.stands [
        | inl stays ↦ ap leader stays
        | inr (lost, fine, spare) ↦ ap leader lost ∙ leads_well t fine
      ]

  secures : SecuresDurably s (leading t p) result (of_leader t first' second') → OthersAsDurable s (behind t p) (of_other t first' second')
      → SecuresDurably s (shown p) result (shown (then_pair result))
  secures durable other =
      let changes = changes_nothing s (shown p) (shown (then_pair result)) seen_same in
      let others = others_shown s p (then_pair result) t after paired paired_still stand refl led changes
      (to_first (OthersAsDurable s) t p.first p.second first' second' durable.others other) (to_second (OthersAsDurable s) t p.first p.second first' second' durable.others other) in
      secures_shown s p (then_pair result) t after paired paired_still stand refl led changes result others durable

  pub pair_secures : SecuresDurably s (leading t p) result (of_leader t first' second') → OthersAsDurable s (behind t p) (of_other t first' second')
      → PairSecures s p result (then_pair result)
  pair_secures durable other = record {
    securing = securing_seen result settled.answer;
    durable = secures durable other;
    secured = λ u stand'.
        let same = one_standing t u (standing_in s p) stand stand' in
        (after, subst (λ (v : Standing). HasSecured v s (leading v p) (behind v p) result after (of_leader v first' second') (of_other v first' second')) same secured, refl);
    kept = refl;
    missing = λ none. absurd (let never : Some t ≡ None = sym stand ∙ none in cc);
  }

-- With the hypotheses of the call.
pub pair_secures_as : (s : ℕ) (p : Pair) (t after : Standing) (first' second' : Rack) (result : Answer) (us : List Standing) (n : ℕ)
    → ArePaired p.standings p.first.reels p.second.reels → standing_in s p ≡ Some t
    → HasSecured t s (leading t p) (behind t p) result after (of_leader t first' second') (of_other t first' second')
    → SecuresDurably s (leading t p) result (of_leader t first' second') → OthersAsDurable s (behind t p) (of_other t first' second')
    → us ≡ stands s (λ _. after) p → n ≡ counted result p.read_faults
    → PairSecures s p result (record p { first = first'; second = second'; standings = us; read_faults = n }) × ArePaired us first'.reels second'.reels
pair_secures_as s p t after first' second' result us n paired stand secured durable other stands_are counts = (
  subst (λ (ts : List Standing). PairSecures s p result (record p { first = first'; second = second'; standings = ts; read_faults = n })) (sym stands_are)
      (subst (λ (m : ℕ). PairSecures s p result (record p { first = first'; second = second'; standings = stands s (λ _. after) p; read_faults = m })) (sym counts)
      (pair_secures s p t after first' second' result paired stand secured durable other)),
  subst (λ (ts : List Standing). ArePaired ts first'.reels second'.reels) (sym stands_are) (paired_still s p t after first' second' result paired stand secured),
)

-- A serial that the rack doesn't have.
pub pair_secures_none : (s : ℕ) (p : Pair) → reel s (shown p).reels ≡ None → standing_in s p ≡ None → PairSecures s p (Err NoTape) p
pair_secures_none s p none nowhere = record {
  securing = (ap is_some none, refl);
  durable = secures_nothing s (shown p) NoTape;
  secured = λ t stand. absurd (let never : Some t ≡ None = sym stand ∙ nowhere in cc);
  kept = refl;
  missing = λ is. refl;
}
