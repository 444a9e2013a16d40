use Rattle.std.proofs.Common.{Ok, Some, ap, arith, refl, sym}
use Rattle.std.proofs.lemmas.Result.{on_ok_weaker}
use Rattle.g_turn.proofs.RanLemmas.{line_ran}
use Rattle.g_verbs.proofs.AloneLemmas.{file-read}
use Rattle.g_verbs.specs.declared.action.Action.TheVariants as action
use Rattle.g_verbs.specs.declared.verb.Verb.TheVariants as verb
use Rattle.g_turn.proofs.work.Work.erase_line.Goals as goal

pub returns-in-Some : goal.returns-in-Some
returns-in-Some g c =
    line_ran g.S.Filestore.answers g.S.Filestore.is_spent g.S.Filestore.can_wait c.args.asker.now.who.now c.args.asker.now.room c.args.by c.args.line.name c.args.line.rest (Ok (action.Erase c.in-Some.path)) 2048
    c.args.store.now c.args.self.now c.one_call.result c.one_call.new.self c.one_call.new.store
    (file-read c.args.line.name c.args.line.rest c.as_slice.result.now (Some verb.Erase) c.in-Some.path (action.Erase c.in-Some.path) (sym c.requires.verb)
    c.as_slice-word.ensures.word refl c.as_slice.ensures c.in-Some.ensures (λ params is. ap action.Erase is))
    (record {
      ok = c.one_call.ensures.ok;
      err = c.one_call.ensures.err;
      live = c.one_call.ensures.live;
      same_waits = c.one_call.ensures.same_waits;
      blocks = on_ok_weaker c.one_call.result (λ blocks. omega (arith, blocks)) c.one_call.ensures.blocks;
    })
