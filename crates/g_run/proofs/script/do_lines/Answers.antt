use Rattle.std.proofs.Common.{rules, ◌≡◌, ◌+◌, ◌<◌, ◌++◌, All, List, [], ◌∷◌, true, false, is_some, append_assoc, length, refl, arith, sym, ◌∙◌, ap, subst}
use Rattle.std.proofs.lemmas.List.Elements.{All-tail}
use Rattle.g_script.specs.declared.operator.Timed.{Timed}
use Rattle.g_ticks.specs.Parts.{IsTimedWithin}
use Rattle.g_run.proofs.LineLemmas.{lines_cut, lines_more, lines_start, none_of, some_of}
use Rattle.g_run.proofs.script.do_lines.Goals as goal

pub lines-init : goal.lines-init
lines-init g c =
    let items : c.from-lines.result.items ≡ c.args.lines = c.from-lines.ensures.0 ∙ c.from.ensures in record {
      none = refl;
      within = subst (λ (ls : List Timed). All IsTimedWithin ls) (sym items) c.requires.within;
      numbers = subst (λ (ls : List Timed). c.args.day.crew.next_job + length ls < 18446744073709551616) (sym items) c.requires.numbers;
      did = ([], sym items, lines_start g.F.Fn c.args.rules.now.tariff.now g.U.Fn c.args.rules.now.weigh.now _ _ _ c.requires.ready c.requires.open);
    }

pub lines-preserved : goal.lines-preserved
lines-preserved g c =
    let isnt : is_some c.next_line-ended.result.failure ≡ false = search rules in
    let none = none_of c.next_line-ended.result.failure isnt in
    let one = rw none at c.next_line-ended.ensures.did in
    let next = c.in-Some.next in
    let rest : List Timed = c.pop_front.new.self.items in
    let items : c.lines.lines.items ≡ next ∷ rest = c.in-Some.ensures.items in
    let (done, all, did) = c.lines.invariant.did in record {
      none = none;
      within = All-tail IsTimedWithin next rest (subst (λ (ls : List Timed). All IsTimedWithin ls) items c.lines.invariant.within);
      numbers =
          let most = one.keeps.numbers refl in
          let room : c.lines.ended.day.crew.next_job + length (next ∷ rest) < 18446744073709551616 = subst (λ (ls : List Timed). c.lines.ended.day.crew.next_job + length ls < 18446744073709551616) items c.lines.invariant.numbers in
          omega (arith, most, room);
      did = (
        done ++ next ∷ [],
        all ∙ ap (λ (ls : List Timed). done ++ ls) items ∙ sym (append_assoc done (next ∷ []) rest),
        lines_more g.F.Fn c.args.rules.now.tariff.now g.U.Fn c.args.rules.now.weigh.now done next _ _ _ _ _ _ _ _ _ _ did one,
      );
    }

pub returns-then-is_some : goal.returns-then-is_some
returns-then-is_some g c =
    let is : is_some c.next_line-ended.result.failure ≡ true = search rules in
    let (f, failed) = some_of c.next_line-ended.result.failure is in
    let next = c.in-Some.next in
    let rest : List Timed = c.pop_front.new.self.items in
    let items : c.lines.lines.items ≡ next ∷ rest = c.in-Some.ensures.items in
    let (done, all, did) = c.lines.invariant.did in
    lines_cut g.F.Fn c.args.rules.now.tariff.now g.U.Fn c.args.rules.now.weigh.now c.args.lines done rest next _ _ c.next_line-ended.result.failure _ _ _ _ _ _ _
    (all ∙ ap (λ (ls : List Timed). done ++ ls) items) did c.next_line-ended.ensures.did f failed
