use Rattle.std.proofs.Common.{◌∙◌, ℕ, subst, sym}
use Rattle.g_duplex.specs.Calls.{PairReads}
use Rattle.g_duplex.specs.Meaning.{pair_of}
use Rattle.g_duplex.specs.Pair.{Pair}
use Rattle.g_duplex.proofs.MountLemmas.{none_standing_seen}
use Rattle.g_duplex.proofs.PlaceLemmas.{lost_same}
use Rattle.g_duplex.proofs.ReadLemmas.{pair_reads, pair_reads_none, read_keeps}
use Rattle.g_duplex.proofs.UnreadLemmas.{labels_unread, paired_unread}
use Rattle.g_duplex.proofs.calls.DuplexTapes.read.Goals as goal

pub returns-in_default : goal.returns-in_default
returns-in_default g c =
    pair_reads_none c.args.serial c.args.k (pair_of c.args.self.now) c.args.into.now
    (none_standing_seen c.args.serial c.args.self.now.standings (g.T.Tapes.rack c.args.self.now.first).reels (g.T.Tapes.rack c.args.self.now.second).reels c.args.self.now.paired
    (sym c.standing.ensures ∙ c.in_default.is))

pub invariant_of-self : goal.invariant_of-self
invariant_of-self g c =
    let (one, two) = read_keeps c.args.serial c.args.k (pair_of c.args.self.now) c.in-Some.standing (g.T.Tapes.rack c.read_twins-answer.new.first) (g.T.Tapes.rack c.read_twins-answer.new.second)
    c.read_twins-answer.result c.read_twins-answer.new.into c.read_twins-answer.ensures in
    record {
      paired = paired_unread c.args.self.now.standings (g.T.Tapes.rack c.args.self.now.first).reels (g.T.Tapes.rack c.args.self.now.second).reels (g.T.Tapes.rack c.read_twins-answer.new.first).reels
          (g.T.Tapes.rack c.read_twins-answer.new.second).reels one.reels two.reels c.args.self.now.paired;
      told = c.args.self.now.told
          ∙ sym (lost_same (g.T.Tapes.rack c.args.self.now.first).reels (g.T.Tapes.rack c.read_twins-answer.new.first).reels c.args.self.now.standings
          (labels_unread (g.T.Tapes.rack c.args.self.now.first).reels (g.T.Tapes.rack c.read_twins-answer.new.first).reels one.reels));
      fused = c.args.self.now.fused;
    }

pub returns : goal.returns
returns g c =
    let p : Pair = pair_of c.args.self.now in
    subst (λ (n : ℕ). PairReads c.args.serial c.args.k p c.read_twins-answer.result c.read_twins-answer.new.into (record p {
      first = g.T.Tapes.rack c.read_twins-answer.new.first;
      second = g.T.Tapes.rack c.read_twins-answer.new.second;
      read_faults = n;
    })) (sym c.counted-self.ensures)
    (pair_reads c.args.serial c.args.k p c.in-Some.standing (g.T.Tapes.rack c.read_twins-answer.new.first) (g.T.Tapes.rack c.read_twins-answer.new.second) c.read_twins-answer.result
    c.read_twins-answer.new.into c.args.self.now.paired (sym c.standing.ensures ∙ c.in-Some.is) (sym c.refuses_read.ensures ∙ c.in_default-refuses_read.is) c.read_twins-answer.ensures)
