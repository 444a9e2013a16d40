-- What survives of a reel that a pair shows is what survives of its leading twin.
-- serves: RackRiskLemmas, SecureLemmas, WriteLemmas
use Rattle.std.proofs.Common.{◌≡◌, ◌⊎◌, ℕ, ◌+◌, ◌≤◌, List, [], ◌∷◌, ◌++◌, Bool, true, false, Option, Some, None, is_some, option_map, Ok, Err, length, map, take, refl, sym, subst, ap, ◌∙◌, inl, inr}
use Rattle.std.specs.Prelude.{OnErr, OnOk}
use Rattle.std.specs.Option.{ForSome}
use Rattle.std.proofs.lemmas.Bool.{cases_eq}
use Rattle.g_tape.specs.declared.fault.TapeFault.{TapeFault}
use Rattle.g_tape.specs.declared.fault.TapeFault.TheVariants.{NoTape, NotMounted, End, ReadFailed, WriteFailed}
use Rattle.g_tape.specs.Reel.{Reel, Remains, Shortened, Torn, Unchanged, ending, left_by}
use Rattle.g_tape.specs.Rack.{Rack, Writing, reel, refuses_write, with_reel}
use Rattle.g_tape.specs.Reads.{LeavesNoMore, MayLeave, blocks_in, blocks_of, is_syncable}
use Rattle.g_tape.specs.Risk.{IsSynced, Leaves, Risk, risk, syncs}
use Rattle.g_tape.specs.Durable.{IsDurable, MayBeBegun, OthersAsDurable, SecuresDurably, WritesDurably}
use Rattle.g_tape.proofs.ReadLemmas.{no_more, reel-with_reel, reel-with_reel_other}
use Rattle.g_duplex.specs.Twins.{leader, of_leader, of_other, of_twin}
use Rattle.g_duplex.specs.Pair.{ArePaired, Pair, shown, standing, standing_in, stands}
use Rattle.g_duplex.specs.Calls.{Answer, armed_when, leading}
use Rattle.g_duplex.specs.SeenReels.{labels_seen}
use Rattle.g_duplex.specs.declared.twin.Twin.{Twin}
use Rattle.g_duplex.specs.declared.twin.Twin.TheVariants.{First, Second}
use Rattle.g_duplex.specs.declared.twin.Standing.{Standing}
use Rattle.g_duplex.specs.declared.twin.Standing.TheVariants.{Apart, Level, Lost}
use Rattle.g_duplex.proofs.PairLemmas.{at_standing, labels_kept, seen_at}
use Rattle.g_duplex.proofs.ReadLemmas.{leader_at, told_both}
use Rattle.g_duplex.proofs.RiskLemmas.{of_shown, shown_risk, standing_labels, standing_other, standing_set}

abbrev pub Blocks : Type 0
Blocks = List (List ℕ)

-- ONE REEL, by the blocks that it shows and by its risk
abbrev Left : Option Blocks → Option Risk → (Blocks → Type 0) → Type 0
Left o r P = ForSome o (λ blocks. (left : Blocks) → Leaves r blocks left → P left)

abbrev pub May : Option Blocks → Option Risk → Blocks → Type 0
May o r left = ForSome o (λ blocks. Leaves r blocks left)

abbrev Front : ℕ → Option Blocks → Blocks → Type 0
Front n o left = ForSome o (λ blocks. take n left ≡ take n blocks)

abbrev DurableTo : ℕ → Option Blocks → Option Risk → Type 0
DurableTo n o r = Left o r (Front n o)

abbrev Durable : Option Blocks → Option Risk → Type 0
Durable o r = ForSome o (λ blocks. (left : Blocks) → Leaves r blocks left → left ≡ blocks)

abbrev SyncableTo : ℕ → Option Blocks → Option Risk → Type 0
SyncableTo n o r = (syncs r ≡ true) ⊎ DurableTo n o r

abbrev Begun : ℕ → List ℕ → Option Blocks → Option Risk → Blocks → Type 0
Begun k block o r left = (length left ≤ k + 1) × (IsSynced k block → SyncableTo k o r → Front k o left)

-- a write that isn't refused, as far as it concerns this reel
pub record WritesAt (k : ℕ) (block : List ℕ) (result : Answer) (o : Option Blocks) (r : Option Risk) (o' : Option Blocks) (r' : Option Risk) : Type 0 where
  pub front : (n : ℕ) → n ≤ k → DurableTo n o r → DurableTo n o' r'
  pub syncable : syncs r ≡ true → syncs r' ≡ true
  pub fresh : DurableTo k o r → syncs r' ≡ true
  pub short : OnOk result (Left o' r' (λ left. length left ≤ k + 1))
  pub synced : IsSynced k block → SyncableTo k o r → OnOk result (Durable o' r')
  pub failed : OnErr result (Left o' r' (λ left. May o r left ⊎ Begun k block o r left))

begun_at : (s k : ℕ) (block : List ℕ) (old : Rack) (left : Blocks) → MayLeave s old left ⊎ MayBeBegun s k block old left
    → May (blocks_of s old) (risk s old.risks) left ⊎ Begun k block (blocks_of s old) (risk s old.risks) left
begun_at s k block old left (inl may) = inl may
begun_at s k block old left (inr begun) = inr (begun.short, begun.synced)

begun_of : (s k : ℕ) (block : List ℕ) (old : Rack) (left : Blocks) → May (blocks_of s old) (risk s old.risks) left ⊎ Begun k block (blocks_of s old) (risk s old.risks) left
    → MayLeave s old left ⊎ MayBeBegun s k block old left
begun_of s k block old left (inl may) = inl may
begun_of s k block old left (inr (short, synced)) = inr (record { short = short; synced = synced })

write_at : (s k : ℕ) (block : List ℕ) (old new : Rack) (result : Answer) → refuses_write k (reel s old.reels) ≡ None → WritesDurably s k block old result new
    → WritesAt k block result (blocks_of s old) (risk s old.risks) (blocks_of s new) (risk s new.risks)
write_at s k block old new (Ok u) free w = record { front = w.front; syncable = w.syncable; fresh = w.fresh free; short = w.short; synced = w.synced; failed = tt }
write_at s k block old new (Err fault) free w = record {
  front = w.front;
  syncable = w.syncable;
  fresh = w.fresh free;
  short = tt;
  synced = λ synced able. tt;
  failed = λ blocks at left leaves. begun_at s k block old left (w.failed blocks at left leaves);
}

write_of : (s k : ℕ) (block : List ℕ) (old new : Rack) (result : Answer) → OthersAsDurable s old new
    → WritesAt k block result (blocks_of s old) (risk s old.risks) (blocks_of s new) (risk s new.risks) → WritesDurably s k block old result new
write_of s k block old new (Ok u) others w = record {
  others = others;
  front = w.front;
  syncable = w.syncable;
  fresh = λ free. w.fresh;
  short = w.short;
  synced = w.synced;
  failed = tt;
}
write_of s k block old new (Err fault) others w = record {
  others = others;
  front = w.front;
  syncable = w.syncable;
  fresh = λ free. w.fresh;
  short = tt;
  synced = λ synced able. tt;
  failed = λ blocks at left leaves. begun_of s k block old left (w.failed blocks at left leaves);
}

pub not_shown : (P : Blocks → Type 0) → ForSome None P
not_shown P blocks at = absurd (cc)

-- of a reel whose blocks aren't shown nothing is known
write_hidden : (k : ℕ) (block : List ℕ) (result : Answer) → WritesAt k block result None None None None
write_hidden k block (Ok u) = record {
  front = λ n within durable. not_shown (λ blocks. (left : Blocks) → Leaves None blocks left → Front n None left);
  syncable = λ is. refl;
  fresh = λ durable. refl;
  short = not_shown (λ blocks. (left : Blocks) → Leaves None blocks left → length left ≤ k + 1);
  synced = λ synced able. not_shown (λ blocks. (left : Blocks) → Leaves None blocks left → left ≡ blocks);
  failed = tt;
}
write_hidden k block (Err fault) = record {
  front = λ n within durable. not_shown (λ blocks. (left : Blocks) → Leaves None blocks left → Front n None left);
  syncable = λ is. refl;
  fresh = λ durable. refl;
  short = tt;
  synced = λ synced able. tt;
  failed = not_shown (λ blocks. (left : Blocks) → Leaves None blocks left → May None None left ⊎ Begun k block None None left);
}

write_like : (k : ℕ) (block : List ℕ) (result : Answer) (o p : Option Blocks) (r q : Option Risk) (o' p' : Option Blocks) (r' q' : Option Risk)
    → o ≡ p → r ≡ q → o' ≡ p' → r' ≡ q' → WritesAt k block result p q p' q' → WritesAt k block result o r o' r'
write_like k block result o p r q o' p' r' q' one two three four w =
    subst (λ (x : Option Blocks). WritesAt k block result x r o' r') (sym one)
    (subst (λ (x : Option Risk). WritesAt k block result p x o' r') (sym two)
    (subst (λ (x : Option Blocks). WritesAt k block result p q x r') (sym three)
    (subst (λ (x : Option Risk). WritesAt k block result p q p' x) (sym four) w)))

-- arming changes no risk
pub write_armed : (fires : Bool) (s k : ℕ) (block : List ℕ) (old new : Rack) (result : Answer) → refuses_write k (reel s (armed_when fires old).reels) ≡ None
    → WritesDurably s k block (armed_when fires old) result new → WritesAt k block result (blocks_of s old) (risk s old.risks) (blocks_of s new) (risk s new.risks)
write_armed true s k block old new result free w = write_at s k block (armed_when true old) new result free w
write_armed false s k block old new result free w = write_at s k block old new result free w

-- A write that is refused
pub refused_durably : (s k : ℕ) (block : List ℕ) (rack : Rack) (fault : TapeFault) → refuses_write k (reel s rack.reels) ≡ Some fault → WritesDurably s k block rack (Err fault) rack
refused_durably s k block rack fault refused = record {
  others = λ u apart. refl;
  front = λ n within durable. durable;
  syncable = λ is. is;
  fresh = λ free. absurd (let never : None ≡ Some fault = sym free ∙ refused in cc);
  short = tt;
  synced = λ synced able. tt;
  failed = λ blocks at left leaves.
      inl (λ bs there. let one : Some blocks ≡ Some bs = sym at ∙ there in let same : blocks ≡ bs = cc in subst (λ (x : Blocks). Leaves (risk s rack.risks) x left) same leaves);
}

pub secures_nothing : (s : ℕ) (rack : Rack) (fault : TapeFault) → SecuresDurably s rack (Err fault) rack
secures_nothing s rack fault = record { others = λ u apart. refl; no_more = no_more rack; durable = tt }

-- A failure of the other twin is one of the pair.
pub secures_on : (s : ℕ) (old new : Rack) (answer result : Answer) → answer ≡ Ok tt → SecuresDurably s old answer new → SecuresDurably s old result new
secures_on s old new answer (Ok u) is secured = subst (λ (a : Answer). SecuresDurably s old a new) is secured
secures_on s old new answer (Err fault) is secured = record { others = secured.others; no_more = secured.no_more; durable = tt }

-- ONE REEL IS CHANGED: labels stay, and so do the other reels and whether its blocks are shown.
pub record Changes (s : ℕ) (old new : Rack) : Type 0 where
  pub labels : map (λ (r : Reel). r.serial) new.reels ≡ map (λ (r : Reel). r.serial) old.reels
  pub others : (u : ℕ) → (u ≡ s → ⊥) → blocks_of u new ≡ blocks_of u old
  pub told : is_some (blocks_of s new) ≡ is_some (blocks_of s old)

told_still : (f : Reel → Reel) → ((r : Reel) → is_some (f r).blocks ≡ is_some r.blocks) → (o : Option Reel) → is_some (blocks_in (option_map f o)) ≡ is_some (blocks_in o)
told_still f tells None = refl
told_still f tells (Some r) = tells r

changes_by : (s : ℕ) (f : Reel → Reel) → ((r : Reel) → (f r).serial ≡ r.serial) → ((r : Reel) → is_some (f r).blocks ≡ is_some r.blocks) → (old new : Rack) → new.reels ≡ with_reel s f old.reels → Changes s old new
changes_by s f serial tells old new is = record {
  labels = ap (λ (rs : List Reel). map (λ (r : Reel). r.serial) rs) is ∙ labels_kept s f serial old.reels;
  others = λ u apart. ap (λ (rs : List Reel). blocks_in (reel u rs)) is ∙ ap blocks_in (reel-with_reel_other s u f serial (λ e. apart (sym e)) old.reels);
  told = ap (λ (rs : List Reel). is_some (blocks_in (reel s rs))) is ∙ ap (λ (o : Option Reel). is_some (blocks_in o)) (reel-with_reel s f serial old.reels)
      ∙ told_still f tells (reel s old.reels);
}

pub changes_nothing : (s : ℕ) (old new : Rack) → new.reels ≡ old.reels → Changes s old new
changes_nothing s old new is = record {
  labels = ap (λ (rs : List Reel). map (λ (r : Reel). r.serial) rs) is;
  others = λ u apart. ap (λ (rs : List Reel). blocks_in (reel u rs)) is;
  told = ap (λ (rs : List Reel). is_some (blocks_in (reel s rs))) is;
}

some_map : (f : Blocks → Blocks) (x : Option Blocks) → is_some (option_map f x) ≡ is_some x
some_map f None = refl
some_map f (Some x) = refl

changes_left : (how : Remains) (s k : ℕ) (old new : Rack) → new.reels ≡ with_reel s (left_by how k) old.reels → Changes s old new
changes_left Unchanged s k old new is = changes_by s (left_by Unchanged k) (λ r. refl) (λ r. refl) old new is
changes_left Shortened s k old new is = changes_by s (left_by Shortened k) (λ r. refl) (λ r. some_map (take k) r.blocks) old new is
changes_left (Torn block) s k old new is = changes_by s (left_by (Torn block) k) (λ r. refl) (λ r. some_map (λ bs. take k bs ++ block ∷ []) r.blocks) old new is

pub writing_changes : (s k : ℕ) (block : List ℕ) (old new : Rack) (result : Answer) → Writing s k block old result new → Changes s old new
writing_changes s k block old new (Ok u) (free, unspent, is) =
    changes_by s (ending k block) (λ r. refl) (λ r. some_map (λ bs. take k bs ++ block ∷ []) r.blocks) old new (ap (λ (r : Rack). r.reels) is)
writing_changes s k block old new (Err WriteFailed) (free, rose, (how, is)) = changes_left how s k old new (ap (λ (r : Rack). r.reels) is)
writing_changes s k block old new (Err ReadFailed) never = absurd never
writing_changes s k block old new (Err NoTape) (refused, is) = changes_nothing s old new (ap (λ (r : Rack). r.reels) is)
writing_changes s k block old new (Err NotMounted) (refused, is) = changes_nothing s old new (ap (λ (r : Rack). r.reels) is)
writing_changes s k block old new (Err End) (refused, is) = changes_nothing s old new (ap (λ (r : Rack). r.reels) is)

-- WHAT A PAIR SHOWS of one reel
lead_as : {X : Type 0} (t : Standing) (x y : X) → of_leader t x y ≡ of_twin (leader t) x y
lead_as Level x y = refl
lead_as (Apart k) x y = refl
lead_as (Lost First) x y = refl
lead_as (Lost Second) x y = refl

pub lead_still : {X : Type 0} (t u : Standing) (x y : X) → leader u ≡ leader t → of_leader u x y ≡ of_leader t x y
lead_still {X} t u x y same = lead_as u x y ∙ ap (λ (twin : Twin). of_twin twin x y) same ∙ sym (lead_as t x y)

lead_risk : (s : ℕ) (t : Standing) (f g : Rack) → of_leader t (risk s f.risks) (risk s g.risks) ≡ risk s (of_leader t f g).risks
lead_risk s Level f g = refl
lead_risk s (Apart k) f g = refl
lead_risk s (Lost First) f g = refl
lead_risk s (Lost Second) f g = refl

lead_blocks : (s : ℕ) (p : Pair) (t : Standing) (blocks : Blocks) → ArePaired p.standings p.first.reels p.second.reels → standing_in s p ≡ Some t
    → blocks_of s (shown p) ≡ Some blocks → blocks_of s (leading t p) ≡ Some blocks
lead_blocks s p t blocks paired stand at =
    let (a, b, twins, there) = at_standing s t p.standings p.first.reels p.second.reels paired stand in
    let seen = seen_at s t a b p.standings p.first.reels p.second.reels paired there in
    let both = told_both (of_leader t a b).blocks (of_other t a b).blocks blocks (sym (ap blocks_in seen) ∙ at) in
    ap blocks_in (leader_at s t p a b there.first there.second) ∙ both.0

-- The pair shows no blocks of the reel; or those of the leading rack, with its risk.
abbrev pub Hidden : ℕ → Pair → Type 0
Hidden s p = (blocks_of s (shown p) ≡ None) × (risk s (shown p).risks ≡ None)

abbrev pub ShowsLeader : ℕ → Pair → Rack → Type 0
ShowsLeader s p lead = (is_some (blocks_of s (shown p)) ≡ true) × (blocks_of s (shown p) ≡ blocks_of s lead) × (risk s (shown p).risks ≡ risk s lead.risks)

hidden_risk : (o : Option Standing) (x y : Option Risk) → of_shown o None x y ≡ None
hidden_risk None x y = refl
hidden_risk (Some t) x y = refl

module _ (s : ℕ) (p : Pair) (t : Standing) (paired : ArePaired p.standings p.first.reels p.second.reels) (stand : standing_in s p ≡ Some t) where
  abbrev first_risk : Option Risk
  first_risk = risk s p.first.risks

  abbrev second_risk : Option Risk
  second_risk = risk s p.second.risks

  seen_by : (o : Option Blocks) → blocks_of s (shown p) ≡ o → Hidden s p ⊎ ShowsLeader s p (leading t p)
  seen_by None at =
      inl (at, shown_risk s p paired ∙ ap (λ (o : Option Blocks). of_shown (standing_in s p) o first_risk second_risk) at ∙ hidden_risk (standing_in s p) first_risk second_risk)
  seen_by (Some blocks) at =
      inr (
        ap is_some at,
        at ∙ sym (lead_blocks s p t blocks paired stand at),
        shown_risk s p paired ∙ ap (λ (o : Option Blocks). of_shown (standing_in s p) o first_risk second_risk) at
            ∙ ap (λ (o : Option Standing). of_shown o (Some blocks) first_risk second_risk) stand ∙ lead_risk s t p.first p.second,
      )

  pub seen : Hidden s p ⊎ ShowsLeader s p (leading t p)
  seen = seen_by (blocks_of s (shown p)) refl

-- A CALL ON ONE REEL of a pair, after which the same twin leads
module _ (s : ℕ) (p q : Pair) (t after : Standing)
    (paired : ArePaired p.standings p.first.reels p.second.reels) (paired' : ArePaired q.standings q.first.reels q.second.reels)
    (stand : standing_in s p ≡ Some t) (stands_are : q.standings ≡ stands s (λ _. after) p) (led : leader after ≡ leader t)
    (changes : Changes s (shown p) (shown q)) where
  same_labels : map (λ (r : Reel). r.serial) q.first.reels ≡ map (λ (r : Reel). r.serial) p.first.reels
  same_labels =
      sym (labels_seen q.standings q.first.reels q.second.reels paired') ∙ changes.labels ∙ labels_seen p.standings p.first.reels p.second.reels paired

  stands_by : (u : ℕ) → standing_in u q ≡ standing u p.first.reels (stands s (λ _. after) p)
  stands_by u = standing_labels u p.first.reels q.first.reels q.standings same_labels ∙ ap (standing u p.first.reels) stands_are

  stand' : standing_in s q ≡ Some after
  stand' = stands_by s ∙ standing_set s p.first.reels p.standings t after stand

  -- what a power loss may leave of the other reels
  pub others_shown : OthersAsDurable s p.first q.first → OthersAsDurable s p.second q.second → OthersAsDurable s (shown p) (shown q)
  others_shown one two u apart =
      shown_risk u q paired'
      ∙ ap (λ (o : Option Standing). of_shown o (blocks_of u (shown q)) (risk u q.first.risks) (risk u q.second.risks))
      (stands_by u ∙ standing_other s u (λ _. after) apart p.first.reels p.standings)
      ∙ ap (λ (o : Option Blocks). of_shown (standing_in u p) o (risk u q.first.risks) (risk u q.second.risks)) (changes.others u apart)
      ∙ ap (λ (o : Option Risk). of_shown (standing_in u p) (blocks_of u (shown p)) o (risk u q.second.risks)) (one u apart)
      ∙ ap (λ (o : Option Risk). of_shown (standing_in u p) (blocks_of u (shown p)) (risk u p.first.risks) o) (two u apart)
      ∙ sym (shown_risk u p paired)

  seen' : Hidden s q ⊎ ShowsLeader s q (leading t q)
  seen' = subst (λ (r : Rack). Hidden s q ⊎ ShowsLeader s q r) (lead_still t after q.first q.second led) (seen s q after paired' stand')

  both_or_none : {A : Type 0} → Hidden s p → ShowsLeader s q (leading t q) → A
  both_or_none (none, risk_none) (told, blocks, risks) =
      absurd (let never : true ≡ false = sym told ∙ changes.told ∙ ap is_some none in cc)

  none_or_both : {A : Type 0} → ShowsLeader s p (leading t p) → Hidden s q → A
  none_or_both (told, blocks, risks) (none, risk_none) =
      absurd (let never : false ≡ true = sym (ap is_some none) ∙ changes.told ∙ told in cc)

  module _ (k : ℕ) (block : List ℕ) (result : Answer) where
    write_shown : WritesAt k block result (blocks_of s (leading t p)) (risk s (leading t p).risks) (blocks_of s (leading t q)) (risk s (leading t q).risks)
        → Hidden s p ⊎ ShowsLeader s p (leading t p) → Hidden s q ⊎ ShowsLeader s q (leading t q)
        → WritesAt k block result (blocks_of s (shown p)) (risk s (shown p).risks) (blocks_of s (shown q)) (risk s (shown q).risks)
    write_shown w (inl (none, risk_none)) (inl (none', risk_none')) =
        write_like k block result (blocks_of s (shown p)) None (risk s (shown p).risks) None (blocks_of s (shown q)) None (risk s (shown q).risks) None
        none risk_none none' risk_none' (write_hidden k block result)
    write_shown w (inl hidden) (inr shows) = both_or_none hidden shows
    write_shown w (inr shows) (inl hidden) = none_or_both shows hidden
    write_shown w (inr (told, blocks, risks)) (inr (told', blocks', risks')) =
        write_like k block result (blocks_of s (shown p)) (blocks_of s (leading t p)) (risk s (shown p).risks) (risk s (leading t p).risks)
        (blocks_of s (shown q)) (blocks_of s (leading t q)) (risk s (shown q).risks) (risk s (leading t q).risks) blocks risks blocks' risks' w

    pub writes_shown : OthersAsDurable s (shown p) (shown q)
        → WritesAt k block result (blocks_of s (leading t p)) (risk s (leading t p).risks) (blocks_of s (leading t q)) (risk s (leading t q).risks)
        → WritesDurably s k block (shown p) result (shown q)
    writes_shown others w = write_of s k block (shown p) (shown q) result others (write_shown w (seen s p t paired stand) seen')

  -- SECURING
  leaves_shown : LeavesNoMore (leading t p) (leading t q) → Hidden s p ⊎ ShowsLeader s p (leading t p) → Hidden s q ⊎ ShowsLeader s q (leading t q)
      → (left : Blocks) → MayLeave s (shown q) left → MayLeave s (shown p) left
  leaves_shown more (inl (none, risk_none)) seen_q left may = subst (λ (o : Option Blocks). May o (risk s (shown p).risks) left) (sym none) (not_shown (λ blocks. Leaves (risk s (shown p).risks) blocks left))
  leaves_shown more (inr shows) (inl hidden) left may = none_or_both shows hidden
  leaves_shown more (inr (told, blocks, risks)) (inr (told', blocks', risks')) left may =
      let there : MayLeave s (leading t q) left = subst (λ (o : Option Blocks). May o (risk s (leading t q).risks) left) blocks' (subst (λ (r : Option Risk). May (blocks_of s (shown q)) r left) risks' may) in
      subst (λ (o : Option Blocks). May o (risk s (shown p).risks) left) (sym blocks) (subst (λ (r : Option Risk). May (blocks_of s (leading t p)) r left) (sym risks) (more.leaves s left there))

  syncs_shown : LeavesNoMore (leading t p) (leading t q) → Hidden s q ⊎ ShowsLeader s q (leading t q) → Hidden s p ⊎ ShowsLeader s p (leading t p)
      → is_syncable s (shown p) ≡ true → is_syncable s (shown q) ≡ true
  syncs_shown more (inl (none, risk_none)) seen_p is = ap syncs risk_none
  syncs_shown more (inr shows) (inl hidden) is = both_or_none hidden shows
  syncs_shown more (inr (told', blocks', risks')) (inr (told, blocks, risks)) is = ap syncs risks' ∙ more.syncable s (sym (ap syncs risks) ∙ is)

  no_more_shown : OthersAsDurable s (shown p) (shown q) → LeavesNoMore (leading t p) (leading t q) → LeavesNoMore (shown p) (shown q)
  no_more_shown others more = record {
    leaves = λ u left may.
        elim (cases_eq u s) [
          | inl same ↦
              subst (λ (n : ℕ). MayLeave n (shown p) left) (sym same)
              (leaves_shown more (seen s p t paired stand) seen' left (subst (λ (n : ℕ). MayLeave n (shown q) left) same may))
          | inr apart ↦
              subst (λ (o : Option Blocks). May o (risk u (shown p).risks) left) (changes.others u apart)
              (subst (λ (r : Option Risk). May (blocks_of u (shown q)) r left) (others u apart) may)
        ];
    syncable = λ u is.
        elim (cases_eq u s) [
          | inl same ↦
              subst (λ (n : ℕ). is_syncable n (shown q) ≡ true) (sym same)
              (syncs_shown more seen' (seen s p t paired stand) (subst (λ (n : ℕ). is_syncable n (shown p) ≡ true) same is))
          | inr apart ↦ ap syncs (others u apart) ∙ is
        ];
  }

  durable_shown : (is_syncable s (leading t p) ≡ true → IsDurable s (leading t q)) → Hidden s p ⊎ ShowsLeader s p (leading t p) → Hidden s q ⊎ ShowsLeader s q (leading t q)
      → is_syncable s (shown p) ≡ true → IsDurable s (shown q)
  durable_shown lead seen_p (inl (none, risk_none)) able =
      subst (λ (o : Option Blocks). Durable o (risk s (shown q).risks)) (sym none) (not_shown (λ blocks. (left : Blocks) → Leaves (risk s (shown q).risks) blocks left → left ≡ blocks))
  durable_shown lead (inl hidden) (inr shows) able = both_or_none hidden shows
  durable_shown lead (inr (told, blocks, risks)) (inr (told', blocks', risks')) able =
      subst (λ (o : Option Blocks). Durable o (risk s (shown q).risks)) (sym blocks')
      (subst (λ (r : Option Risk). Durable (blocks_of s (leading t q)) r) (sym risks') (lead (sym (ap syncs risks) ∙ able)))

  pub secures_shown : (result : Answer) → OthersAsDurable s (shown p) (shown q) → SecuresDurably s (leading t p) result (leading t q) → SecuresDurably s (shown p) result (shown q)
  secures_shown (Ok u) others lead = record {
    others = others;
    no_more = no_more_shown others lead.no_more;
    durable = durable_shown lead.durable (seen s p t paired stand) seen';
  }
  secures_shown (Err fault) others lead = record { others = others; no_more = no_more_shown others lead.no_more; durable = tt }
