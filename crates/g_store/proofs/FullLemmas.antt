-- Why a dump isn't opened, of every disc and rack.
-- serves: open_dump (refuses)
use Rattle.std.proofs.Common.{◌≡◌, ℕ, Some, Result, Ok, Err, ap, subst, sym, inl, inr}
use Rattle.std.specs.Prelude.{◌⊎◌, ◌==◌, ◌^◌, ◌-◌, is_none, is_some, not}
use Rattle.g_tape.specs.Rack.{Rack, is_mounted, reel}
use Rattle.g_plain.specs.declared.faults.StoreFault.{StoreFault}
use Rattle.g_plain.specs.declared.faults.StoreFault.TheVariants.{CountersSpent, DumpOpen, NoTape, NotMounted, Stopped, TapeFull}
use Rattle.g_store_meaning.specs.StoreInvariant.{StoreFacts}
use Rattle.g_dumper.specs.Beginning.{RefusesOpening, StoppedOpening}
use Rattle.g_store.specs.Dumping.{RefusesDump}
use Rattle.g_store.specs.Refusing.{number_in, open_refuses}
use Rattle.g_store.proofs.OpenedLemmas.{which_fault}

pub opened_so : (serial : ℕ) (old : StoreFacts) (number : ℕ) (new : StoreFacts) → RefusesDump serial old (Ok number) new
opened_so serial old number new = record { full = λ need room is. absurd (let no : ⊥ = cc in no); stopped = λ is. absurd (let no : ⊥ = cc in no) }

-- before the reel is read
pub refused_early : (serial : ℕ) (old : StoreFacts) (fault : StoreFault) (new : StoreFacts) → Some fault ≡ open_refuses serial old → RefusesDump serial old (Err fault) new
refused_early serial old fault new is =
    by_fault (which_fault (is_none (reel serial old.rack.reels)) (not (is_mounted (reel serial old.rack.reels))) (is_some old.dump) (old.online.contents.head.last_dump == 2 ^ 62 - 1) (number_in old.dump) fault (sym is))
  where
    by_fault : (NoTape ≡ fault) ⊎ ((NotMounted ≡ fault) ⊎ ((DumpOpen (number_in old.dump) ≡ fault) ⊎ (CountersSpent ≡ fault))) → RefusesDump serial old (Err fault) new
    by_fault (inl same) = record { full = λ need room is. absurd (let no : ⊥ = cc in no); stopped = λ is. absurd (let no : ⊥ = cc in no) }
    by_fault (inr (inl same)) = record { full = λ need room is. absurd (let no : ⊥ = cc in no); stopped = λ is. absurd (let no : ⊥ = cc in no) }
    by_fault (inr (inr (inl same))) = record { full = λ need room is. absurd (let no : ⊥ = cc in no); stopped = λ is. absurd (let no : ⊥ = cc in no) }
    by_fault (inr (inr (inr same))) = record { full = λ need room is. absurd (let no : ⊥ = cc in no); stopped = λ is. absurd (let no : ⊥ = cc in no) }

-- and afterwards
module _ {A : Type 0} (serial : ℕ) (old t : StoreFacts) (same : t ≡ old) (fault : StoreFault) (after : Rack) (new : StoreFacts)
    (refused : (let r : Result A StoreFault = Err fault in RefusesOpening serial t.online t.rack after r))
    (stopped : (let r : Result A StoreFault = Err fault in r ≡ Err Stopped → StoppedOpening serial t.online new.online t.rack)) where
  one : (other : StoreFault) → (let r : Result ℕ StoreFault = Err fault in r ≡ Err other) → (let r : Result A StoreFault = Err fault in r ≡ Err other)
  one other is = let at : fault ≡ other = cc in ap Err at

  pub refused_by : RefusesDump serial old (Err fault) new
  refused_by =
      subst (λ (s : StoreFacts). RefusesDump serial s (Err fault) new) same
      (record { full = λ need room is. refused.full need room (one (TapeFull need room) is); stopped = λ is. stopped (one Stopped is) })
