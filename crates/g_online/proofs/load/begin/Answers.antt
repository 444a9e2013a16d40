use Rattle.std.proofs.Common.{◌∙◌, ap, subst, ℕ}
use Rattle.g_online.specs.Beginning.{memory_of}
use Rattle.g_online.specs.Invariant.{AreWhole}
use Rattle.g_online.proofs.BegunLemmas.{all_numbers, begun_tied}
use Rattle.g_online.proofs.load.begin.Goals as goal

pub returns-clause-tied : goal.returns-clause-tied
returns-clause-tied g c =
    begun_tied (g.D.Disc.state c.args.disc) (memory_of c.args.slots c.args.pages c.args.pool c.args.tree.users c.args.tree.files c.args.head c.args.online) c.numbers_of-changed.result c.new.result
    c.requires.low c.requires.high (λ blocks told. subst (λ (n : ℕ). AreWhole n blocks) c.size-size.ensures.size (c.size-size.ensures.blocks blocks told)) c.requires.agreed
    (c.numbers_of-changed.ensures ∙ ap all_numbers c.users.ensures.value) c.new.ensures
