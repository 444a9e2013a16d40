use Rattle.std.proofs.Common.{◌∙◌, ap, arith, sym}
use Rattle.g_turn.proofs.UnitsLemmas.{all_unused, each_first, each_long, each_on, each_over, each_part, none_left}
use Rattle.g_turn.proofs.work.Work.release_all.Goals as goal

pub returns-then-are_unused-clause-ok : goal.returns-then-are_unused-clause-ok
returns-then-are_unused-clause-ok g c =
    all_unused g.S.Filestore.answers g.S.Filestore.is_spent g.S.Filestore.can_wait c.args.asker.now.who.now c.args.asker.now.room c.args.self.now c.args.store.now
    (ap (λ w. w.desk.units) (sym c.self.view_is) ∙ c.are_unused.ensures c.if-are_unused.true) c.requires.open

pub returns-in-Err-clause-err : goal.returns-in-Err-clause-err
returns-in-Err-clause-err g c =
    c.loop-place.invariant.part c.release_place.new.store
    (each_first g.S.Filestore.answers g.S.Filestore.is_spent g.S.Filestore.can_wait c.args.asker.now.who.now c.args.asker.now.room c.loop-place.place c.loop-place.self c.loop-place.store c.release_place.new.store
    (omega (arith, c.loop-place.invariant.places, c.loop-place-test.true)) c.in-Err.ensures.err)

pub returns-then-is_over-clause-ok : goal.returns-then-is_over-clause-ok
returns-then-is_over-clause-ok g c =
    c.loop-place.invariant.rest c.release_place.new.self c.release_place.new.store
    (each_over g.S.Filestore.answers g.S.Filestore.is_spent g.S.Filestore.can_wait c.args.asker.now.who.now c.args.asker.now.room c.loop-place.place c.loop-place.self c.release_place.new.self c.loop-place.store
    c.release_place.new.store (omega (arith, c.loop-place.invariant.places, c.loop-place-test.true)) c.in-Ok.ensures.ok (sym c.is_over.ensures ∙ c.if-is_over.true))

pub loop-place-preserved : goal.loop-place-preserved
loop-place-preserved g c =
    let goes = sym c.is_over.ensures ∙ c.if-is_over.false in
    record {
      goes = goes;
      running = c.in-Ok.ensures.live goes;
      places = each_long g.S.Filestore.answers g.S.Filestore.is_spent g.S.Filestore.can_wait c.args.asker.now.who.now c.args.asker.now.room c.loop-place.place c.loop-place.self c.release_place.new.self
          c.loop-place.store c.release_place.new.store c.in-Ok.ensures.ok ∙ c.loop-place.invariant.places;
      blocks = omega (arith, c.in-Ok.ensures.blocks, c.loop-place.invariant.blocks);
      waits = λ s. c.in-Ok.ensures.same_waits s ∙ c.loop-place.invariant.waits s;
      rest = λ given new r. c.loop-place.invariant.rest given new
          (each_on g.S.Filestore.answers g.S.Filestore.is_spent g.S.Filestore.can_wait c.args.asker.now.who.now c.args.asker.now.room c.loop-place.place c.loop-place.self c.release_place.new.self c.loop-place.store
          c.release_place.new.store (omega (arith, c.loop-place.invariant.places, c.loop-place-test.true)) c.in-Ok.ensures.ok goes given new r);
      part = λ new r. c.loop-place.invariant.part new
          (each_part g.S.Filestore.answers g.S.Filestore.is_spent g.S.Filestore.can_wait c.args.asker.now.who.now c.args.asker.now.room c.loop-place.place c.loop-place.self c.release_place.new.self c.loop-place.store
          c.release_place.new.store (omega (arith, c.loop-place.invariant.places, c.loop-place-test.true)) c.in-Ok.ensures.ok goes new r);
    }

pub returns-clause-ok : goal.returns-clause-ok
returns-clause-ok g c =
    c.loop-place.invariant.rest c.loop-place.self c.loop-place.store
    (none_left g.S.Filestore.answers g.S.Filestore.is_spent g.S.Filestore.can_wait c.args.asker.now.who.now c.args.asker.now.room c.loop-place.place c.loop-place.self c.loop-place.store
    (omega (arith, c.loop-place.invariant.places, c.loop-place-test.false)))
