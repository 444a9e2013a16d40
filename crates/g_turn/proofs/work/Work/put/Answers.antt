use Rattle.std.proofs.Common.{◌≡◌, false, Err, arith, inr, refl, rules}
use Rattle.std.proofs.lemmas.Result.{on_ok_weaker}
use Rattle.g_plain.specs.Programs.{is_memory}
use Rattle.g_plain.specs.declared.calls.StoreCall.TheVariants as call
use Rattle.g_turn.proofs.ReadyLemmas.{on_err}
use Rattle.g_turn.proofs.UseLemmas.{put_asked, refused_live}
use Rattle.g_turn.proofs.work.Work.put.Given as given
use Rattle.g_turn.proofs.work.Work.put.Goals as goal
use Rattle.g_turn.proofs.work.Work.put.Goals.{In-Err}

pub returns-in-Made-clause-err : goal.returns-in-Made-clause-err
returns-in-Made-clause-err g c =
    put_asked g.S.Filestore.answers c.args.asker.now.who.now c.args.store.now c.ask_any.new.store c.args.asker.now.room c.args.comes_well c.args.file.0 c.args.file.1 c.args.self.now c.in-Ok.reply c.in-Made.full
    c.say_handed.result c.in-Made.is c.in-Ok.ensures.answers

-- the fault isn't out of memory
memory : (g : given.Over) (c : In-Err g) → is_memory c.in-Err.fault ≡ false
memory g c = search rules

pub returns : goal.returns
returns g c =
    let real = memory g (goal.at.returns g c).In-Err in
    let step = c.in-Err.ensures.refused real in
    record {
      ok = on_ok_weaker c.refuse.result (λ did. (Err c.in-Err.fault, c.ask_any.new.store, step, (did, refl))) c.refuse.ensures.ok;
      err = on_err c.refuse.result (inr (inr (Err c.in-Err.fault, c.ask_any.new.store, c.in-Err.ensures.answers, real, refl)));
      live = on_ok_weaker c.refuse.result (λ did.
          refused_live g.S.Filestore.answers g.S.Filestore.is_spent g.S.Filestore.can_wait c.args.asker.now.who.now c.args.store.now c.ask_any.new.store c.args.asker.now.room (call.Put c.args.file.0 c.args.file.1)
          c.in-Err.fault c.args.self.now c.refuse.new.self step did) c.refuse.ensures.ok;
      same_waits = c.in-Err.ensures.same_waits;
      blocks = on_ok_weaker c.refuse.result (λ kept. omega (arith, kept)) c.refuse.ensures.blocks;
    }
