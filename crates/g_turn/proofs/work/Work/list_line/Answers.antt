use Rattle.std.proofs.Common.{Ok, Some, ap, arith, refl, sym}
use Rattle.std.proofs.lemmas.Result.{on_ok_weaker}
use Rattle.g_turn.proofs.RanLemmas.{line_ran}
use Rattle.g_verbs.proofs.AloneLemmas.{file-read}
use Rattle.g_verbs.specs.declared.action.Action.TheVariants as action
use Rattle.g_verbs.specs.declared.verb.Verb.TheVariants as verb
use Rattle.g_turn.proofs.work.Work.list_line.Goals as goal

pub returns-in-Some : goal.returns-in-Some
returns-in-Some g c =
    line_ran g.S.Filestore.answers g.S.Filestore.is_spent g.S.Filestore.can_wait c.args.asker.now.who.now c.args.asker.now.room c.args.by c.args.line.name c.args.line.rest (Ok (action.ListFile c.in-Some.file)) 2048
    c.args.store.now c.args.self.now c.fetch.result c.fetch.new.self c.fetch.new.store
    (file-read c.args.line.name c.args.line.rest c.as_slice.result.now (Some verb.ListFile) c.in-Some.file (action.ListFile c.in-Some.file) (sym c.requires.verb)
    c.as_slice-word.ensures.word refl c.as_slice.ensures c.in-Some.ensures (λ params is. ap action.ListFile is))
    (record {
      ok = c.fetch.ensures.ok;
      err = c.fetch.ensures.err;
      live = c.fetch.ensures.live;
      same_waits = c.fetch.ensures.same_waits;
      blocks = on_ok_weaker c.fetch.result (λ blocks. omega (arith, blocks)) c.fetch.ensures.blocks;
    })
