-- The completed dumps of a rack that was made durable survive a power loss.
-- serves: crates above
use Rattle.std.proofs.Common.{◌≡◌, ℕ, Ok, ap, inl, inr}
use Rattle.g_tape.specs.Durable.{AllSecureDurably}
use Rattle.g_tape.specs.Rack.{Rack, SecuringAll}
use Rattle.g_tape.specs.Reads.{OnlyReads, blocks_of}
use Rattle.g_tape.proofs.ReadLemmas.{blocks_after_reads}
use Rattle.g_shelf.proofs.SurvivingLemmas.{durable_dumps, survive_reads}
use Rattle.g_store_meaning.specs.Surviving.{DumpsMadeSafe}

pub made_safe : (old new : Rack) → SecuringAll old (Ok tt) new → AllSecureDurably old (Ok tt) new → DumpsMadeSafe old new
made_safe old new secured durably serial (inl survive) = survive_reads serial old new durably.no_more (ap (blocks_of serial) secured) survive
made_safe old new secured durably serial (inr able) = durable_dumps serial new (durably.durable serial able)

-- they still do after reads
pub safe_then_read : (old mid new : Rack) → DumpsMadeSafe old mid → OnlyReads mid new → DumpsMadeSafe old new
safe_then_read old mid new made only serial can = survive_reads serial mid new only.durable (blocks_after_reads serial mid new only) (made serial can)
