-- A REEL AFTER THE OTHER is made durable.
-- serves: secure_all (durable, secured)
use Rattle.std.proofs.Common.{◌≡◌, ℕ, suc, ◌+◌, List, [], ◌∷◌, Bool, true, false, ◌<◌, ◌≤◌, length, subst, Option, Some, Ok, Err, map, slice_get, is_some, if◌then◌else◌, inl, inr, arith, refl, sym, ap, ◌∙◌}
use Rattle.std.proofs.lemmas.Bool.{cases_eq}
use Rattle.std.proofs.lemmas.Bool.Decides.{eqb_tells}
use Rattle.std.proofs.lemmas.Option.{get_or_from_slice_get, slice_get_within}
use Rattle.g_tape.specs.declared.fault.TapeFault.{TapeFault}
use Rattle.g_tape.specs.declared.fault.TapeFault.TheVariants.{NoTape, NotMounted, End, ReadFailed, WriteFailed}
use Rattle.g_tape.specs.Reel.{Reel}
use Rattle.g_base.specs.Counts.{Rose}
use Rattle.g_base.proofs.KeyLemmas.{at_key-among}
use Rattle.g_tape.specs.Durable.{AllSecureDurably, IsDurable, SecuresDurably}
use Rattle.g_tape.specs.Rack.{Rack, Securing, SecuringAll, reel}
use Rattle.g_tape.specs.Reads.{LeavesNoMore, MayLeave, blocks_in, blocks_of, is_syncable}
use Rattle.g_tape.specs.Risk.{Leaves, risk}
use Rattle.g_tape.proofs.ReadLemmas.{no_more, still_no_more}

-- a serial of the rack is that of a reel
pub has_serial : (rs : List Reel) (i s : ℕ) → slice_get (map (λ r. r.serial) rs) i ≡ Some s → is_some (reel s rs) ≡ true
has_serial rs i s at =
    let serials : List ℕ = map (λ (r : Reel). r.serial) rs in
    let (r, there) = at_key-among (λ (r : Reel). r.serial) s rs (i, slice_get_within serials i s at, get_or_from_slice_get serials i s s at) in
    ap (λ (o : Option Reel). is_some o) there

-- and the serial of a reel is one of the rack
serial_at : (s : ℕ) (rs : List Reel) (blocks : List (List ℕ)) → blocks_in (reel s rs) ≡ Some blocks → (j : ℕ) × (j < length rs) × (slice_get (map (λ r. r.serial) rs) j ≡ Some s)
serial_at s [] blocks at = absurd (cc)
serial_at s (r ∷ rs) blocks at =
    elim (eqb_tells s r.serial) [
      | inl h ↦ (0, omega arith, ap Some (sym h.1))
      | inr h ↦
          let (j, within, there) = serial_at s rs blocks (sym (ap (λ (b : Bool). blocks_in (if b then Some r else reel s rs)) h.0) ∙ at) in
          (suc j, omega (arith, within), there)
    ]

-- WHAT STAYS, if a power loss may leave no more
stays_durable : (s : ℕ) (old new : Rack) → blocks_of s new ≡ blocks_of s old → LeavesNoMore old new → IsDurable s old → IsDurable s new
stays_durable s old new same more durable blocks at left leaves =
    let here : MayLeave s new left = λ bs there. subst (λ (x : List (List ℕ)). Leaves (risk s new.risks) x left) (let one : Some blocks ≡ Some bs = sym at ∙ there in cc) leaves in
    durable blocks (sym same ∙ at) left (more.leaves s left here blocks (sym same ∙ at))

-- THE FIRST i REELS of a rack are durable
pub record SoFar (i : ℕ) (first now : Rack) : Type 0 where
  pub same : now ≡ record first { risks = now.risks }
  pub no_more : LeavesNoMore first now
  pub durable : (j s : ℕ) → j < i → slice_get (map (λ r. r.serial) first.reels) j ≡ Some s → is_syncable s first ≡ true → IsDurable s now

pub none_yet : (rack : Rack) → SoFar 0 rack rack
none_yet rack = record { same = refl; no_more = no_more rack; durable = λ j s below at able. absurd (let no : ⊥ = omega (arith, below) in no) }

same_reels : (first now : Rack) → now ≡ record first { risks = now.risks } → now.reels ≡ first.reels
same_reels first now same = ap (λ (r : Rack). r.reels) same

is_secured : (s : ℕ) (now new : Rack) → Securing s now (Ok tt) new → new ≡ record now { risks = new.risks }
is_secured s now new (there, is) = is

pub one_more_durable : (i s : ℕ) (first now new : Rack) → SoFar i first now → slice_get (map (λ r. r.serial) now.reels) i ≡ Some s → Securing s now (Ok tt) new → SecuresDurably s now (Ok tt) new → SoFar (i + 1) first new
one_more_durable i s first now new so_far at securing durably = record {
  same = is_secured s now new securing ∙ ap (λ (r : Rack). let x : Rack = record r { risks = new.risks } in x) so_far.same;
  no_more = still_no_more first now new so_far.no_more durably.no_more;
  durable = λ j t below there able.
      elim (cases_eq j i) [
        | inl same ↦
            let one : t ≡ s = (let both : Some t ≡ Some s = sym there ∙ ap (slice_get (map (λ r. r.serial) first.reels)) same ∙ ap (λ (rs : List Reel). slice_get (map (λ r. r.serial) rs) i) (sym (same_reels first now so_far.same)) ∙ at in cc) in
            subst (λ (u : ℕ). IsDurable u new) (sym one)
            (durably.durable (so_far.no_more.syncable s (subst (λ (u : ℕ). is_syncable u first ≡ true) one able)))
        | inr apart ↦
            stays_durable t now new (ap (λ (r : Rack). blocks_of t r) (is_secured s now new securing)) durably.no_more (so_far.durable j t (omega (arith, below, apart)) there able)
      ];
}

pub all_durable : (i : ℕ) (first now : Rack) → length first.reels ≤ i → SoFar i first now → AllSecureDurably first (Ok tt) now
all_durable i first now all so_far = record {
  no_more = so_far.no_more;
  durable = λ s able blocks at.
      let (j, within, there) = serial_at s now.reels blocks at in
      let long : length now.reels ≡ length first.reels = ap (λ (rs : List Reel). length rs) (same_reels first now so_far.same) in
      so_far.durable j s (omega (arith, within, all, long)) (ap (λ (rs : List Reel). slice_get (map (λ r. r.serial) rs) j) (sym (same_reels first now so_far.same)) ∙ there) able blocks at;
}

-- one that can't be is why the rack can't be
pub one_insecure : (i s : ℕ) (old new : Rack) (fault : TapeFault) → slice_get (map (λ r. r.serial) old.reels) i ≡ Some s → Securing s old (Err fault) new → SecuringAll old (Err fault) new
one_insecure i s old new ReadFailed at (there, rose, is) = (rose, is)
one_insecure i s old new NoTape at (missing, is) = absurd (let never : true ≡ false = sym (has_serial old.reels i s at) ∙ missing in cc)
one_insecure i s old new WriteFailed at never = absurd never
one_insecure i s old new NotMounted at never = absurd never
one_insecure i s old new End at never = absurd never

failed_after : (first now new : Rack) → now ≡ record first { risks = now.risks } → new ≡ record now { read_faults = new.read_faults; risks = new.risks } → new ≡ record first { read_faults = new.read_faults; risks = new.risks }
failed_after first now new same is = is ∙ ap (λ (r : Rack). let x : Rack = record r { read_faults = new.read_faults; risks = new.risks } in x) same

still_insecure : (first now new : Rack) (fault : TapeFault) → now ≡ record first { risks = now.risks } → SecuringAll now (Err fault) new → SecuringAll first (Err fault) new
still_insecure first now new ReadFailed same (rose, is) = (subst (λ (n : ℕ). Rose n new.read_faults) (ap (λ (r : Rack). r.read_faults) same) rose, failed_after first now new same is)
still_insecure first now new NoTape same never = absurd never
still_insecure first now new WriteFailed same never = absurd never
still_insecure first now new NotMounted same never = absurd never
still_insecure first now new End same never = absurd never

pub insecure_so_far : (i s : ℕ) (first now new : Rack) (fault was : TapeFault) → SoFar i first now → fault ≡ was → slice_get (map (λ r. r.serial) now.reels) i ≡ Some s
    → Securing s now (Err was) new → SecuringAll first (Err fault) new
insecure_so_far i s first now new fault was so_far is at failed =
    still_insecure first now new fault so_far.same (subst (λ (f : TapeFault). SecuringAll now (Err f) new) (sym is) (one_insecure i s now new was at failed))

pub no_more_so_far : (i s : ℕ) (first now new : Rack) (fault was : TapeFault) → SoFar i first now → SecuresDurably s now (Err was) new → AllSecureDurably first (Err fault) new
no_more_so_far i s first now new fault was so_far durably = record { no_more = still_no_more first now new so_far.no_more durably.no_more; durable = λ t. tt }

-- the places of a rack that has only been made durable so far
pub serial_within : (i : ℕ) (first now : Rack) → SoFar i first now → i < length first.reels → i < length now.reels
serial_within i first now so_far within = subst (λ (rs : List Reel). i < length rs) (sym (same_reels first now so_far.same)) within
