use Rattle.std.proofs.Common.{◌∙◌, arith, subst, sym}
use Rattle.std.proofs.lemmas.List.{length-take}
use Rattle.g_run.specs.Input.{HasRead}
use Rattle.g_run.proofs.InputLemmas.{read_all, read_more}
use Rattle.g_program.proofs.checking.read_all.Goals as goal

pub returns-then-count-eq0-clause-all : goal.returns-then-count-eq0-clause-all
returns-then-count-eq0-clause-all g c = λ left told.
    (read_all left c.pieces.text.items _ c.take.new.into c.in-Ok.count _ _ (c.pieces.invariant.told left told) c.in-Ok.ensures.taken c.if-count-eq0.true).0

pub pieces-preserved : goal.pieces-preserved
pieces-preserved g c =
    let items = c.in-Ok-extend_from_slice.ensures.items in
    let len = c.in-Ok-extend_from_slice.ensures.len in
    record {
      within = omega (arith, len, c.in-Ok.ensures.within, length-take c.in-Ok.count c.take.new.into, c.take.auto.into, c.len.ensures, c.pieces-test.true);
      faults = c.in-Ok.ensures.cause ∙ c.pieces.invariant.faults;
      told = λ left told. subst (λ t. HasRead left t (g.S.Source.left c.take.new.self)) (sym items)
          (read_more left c.pieces.text.items _ c.take.new.into c.in-Ok.count _ _ (c.pieces.invariant.told left told) c.in-Ok.ensures.taken);
    }
