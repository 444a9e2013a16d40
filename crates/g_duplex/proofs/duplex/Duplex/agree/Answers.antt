use Rattle.std.proofs.Common.{◌∙◌, sym}
use Rattle.g_duplex.specs.Meaning.{pair_of}
use Rattle.g_duplex.proofs.PlaceLemmas.{lost_same}
use Rattle.g_duplex.proofs.RebuildLemmas.{pair_compares, pair_compares_none}
use Rattle.g_duplex.proofs.UnreadLemmas.{labels_unread, paired_unread}
use Rattle.g_duplex.proofs.duplex.Duplex.agree.Goals as goal

pub returns-in_default : goal.returns-in_default
returns-in_default g c = pair_compares_none c.args.serial (pair_of c.args.self.now) c.args.self.now.paired (sym c.standing.ensures ∙ c.in_default.is)

pub invariant_of-self-2 : goal.invariant_of-self-2
invariant_of-self-2 g c = record {
  paired = paired_unread c.args.self.now.standings (g.T.Tapes.rack c.args.self.now.first).reels (g.T.Tapes.rack c.args.self.now.second).reels (g.T.Tapes.rack c.same_reel.new.one).reels
      (g.T.Tapes.rack c.same_reel.new.other).reels c.same_reel.ensures.one.reels c.same_reel.ensures.other.reels c.args.self.now.paired;
  told = c.args.self.now.told
      ∙ sym (lost_same (g.T.Tapes.rack c.args.self.now.first).reels (g.T.Tapes.rack c.same_reel.new.one).reels c.args.self.now.standings
      (labels_unread (g.T.Tapes.rack c.args.self.now.first).reels (g.T.Tapes.rack c.same_reel.new.one).reels c.same_reel.ensures.one.reels));
  fused = c.args.self.now.fused;
}

pub returns : goal.returns
returns g c =
    pair_compares c.args.serial (pair_of c.args.self.now) c.in-Some.standing (g.T.Tapes.rack c.same_reel.new.one) (g.T.Tapes.rack c.same_reel.new.other) c.same_reel.result (sym c.standing.ensures ∙ c.in-Some.is)
    (sym c.is_lost.ensures ∙ c.if-is_lost.false) (sym c.refuses_both.ensures ∙ c.in_default-refuses_both.is) c.same_reel.ensures.one c.same_reel.ensures.other c.same_reel.ensures.answer
