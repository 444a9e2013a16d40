-- The fuse of a rack after a write.
-- serves: crates above
use Rattle.std.proofs.Common.{ℕ, List, Ok, Err, sym, subst}
use Rattle.std.specs.Prelude.{Result}
use Rattle.g_base.proofs.FuseLemmas.{fails_failed, fails_good}
use Rattle.g_tape.specs.declared.fault.TapeFault.{TapeFault}
use Rattle.g_tape.specs.declared.fault.TapeFault.TheVariants.{NoTape, NotMounted, End, ReadFailed, WriteFailed}
use Rattle.g_tape.specs.Rack.{IsFused, Rack, Writing}

pub fused_then : (s k : ℕ) (block : List ℕ) (old : Rack) (result : Result (Unit {0}) TapeFault) (new : Rack) → Writing s k block old result new → IsFused old → IsFused new
fused_then s k block old (Ok u) new (free, apart, is) was = subst IsFused (sym is) (fails_good old.write_faults old.arms old.fuse apart was)
fused_then s k block old (Err WriteFailed) new (free, rose, (how, is)) was = subst IsFused (sym is) (fails_failed old.write_faults new.write_faults old.arms old.fuse rose was)
fused_then s k block old (Err ReadFailed) new never was = absurd never
fused_then s k block old (Err NoTape) new (refused, is) was = subst IsFused (sym is) was
fused_then s k block old (Err NotMounted) new (refused, is) was = subst IsFused (sym is) was
fused_then s k block old (Err End) new (refused, is) was = subst IsFused (sym is) was
