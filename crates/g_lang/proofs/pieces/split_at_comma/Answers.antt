use Rattle.std.proofs.Common.{ap, sym, ◌∙◌, ◌∷◌, ◌+◌, ◌-◌, ◌<◌, List, ℕ, arith, drop, length, take, get_or, length-drop}
use Rattle.g_lang.specs.LineReader.{parts_of}
use Rattle.g_lang.proofs.PieceLemmas.{up_to-more, up_to-all, a_comma, before-stop, past-stop, parts-stop, tail-all}
use Rattle.g_lang.proofs.pieces.split_at_comma.Goals as goal
use Rattle.g_lang.proofs.pieces.split_at_comma.Goals.{else-byte-eq44-via-then-byte-eq44+else-depth-eq0, else-byte-eq44-via-else-byte-eq44}

pub returns-then-depth-eq0-clause-before : goal.returns-then-depth-eq0-clause-before
returns-then-depth-eq0-clause-before c =
    let comma = a_comma (get_or c.args.text.now c.loop-i.i 0) c.loop-i.depth c.if-byte-eq44.true c.if-depth-eq0.true in
    sym (c.loop-i.invariant.before ∙ before-stop c.args.text.now c.loop-i.i c.loop-i.depth c.loop-i-test.true comma)

pub returns-then-depth-eq0-clause-behind : goal.returns-then-depth-eq0-clause-behind
returns-then-depth-eq0-clause-behind c =
    let comma = a_comma (get_or c.args.text.now c.loop-i.i 0) c.loop-i.depth c.if-byte-eq44.true c.if-depth-eq0.true in
    let inside : c.loop-i.i < length c.args.text.now = c.loop-i-test.true in
    let all = tail-all c.args.text.now (c.loop-i.i + 1) in
    let shorter : length (take (length c.args.text.now - (c.loop-i.i + 1)) (drop (c.loop-i.i + 1) c.args.text.now)) < length c.args.text.now =
    omega (arith, inside, ap length all, length-drop (c.loop-i.i + 1) c.args.text.now) in
    (all ∙ sym (c.loop-i.invariant.past ∙ past-stop c.args.text.now c.loop-i.i c.loop-i.depth c.loop-i-test.true comma), shorter)

pub returns-then-depth-eq0-clause-parts : goal.returns-then-depth-eq0-clause-parts
returns-then-depth-eq0-clause-parts c =
    let comma = a_comma (get_or c.args.text.now c.loop-i.i 0) c.loop-i.depth c.if-byte-eq44.true c.if-depth-eq0.true in
    c.loop-i.invariant.parts ∙ parts-stop c.args.text.now c.loop-i.i c.loop-i.depth c.loop-i-test.true comma
    ∙ ap (λ (ts : List ℕ). take c.loop-i.i c.args.text.now ∷ parts_of 0 ts) (sym (tail-all c.args.text.now (c.loop-i.i + 1)))

pub loop-i-preserved : goal.loop-i-preserved
loop-i-preserved c =
    up_to-more c.args.text.now c.loop-i.i c.loop-i.depth c.depth_behind-depth.result c.loop-i.invariant c.loop-i-test.true
    (elim c.else-byte-eq44.branch [
      | else-byte-eq44-via-then-byte-eq44+else-depth-eq0 w ↦ λ is flat. w.if-depth-eq0.false flat
      | else-byte-eq44-via-else-byte-eq44 w ↦ λ is flat. w.if-byte-eq44.false is
    ])
    c.depth_behind-depth.ensures

pub returns-clause-before : goal.returns-clause-before
returns-clause-before c = sym (up_to-all c.args.text.now c.loop-i.i c.loop-i.depth c.loop-i.invariant c.loop-i.auto.i-end c.loop-i-test.false).before

pub returns-clause-behind : goal.returns-clause-behind
returns-clause-behind c = (up_to-all c.args.text.now c.loop-i.i c.loop-i.depth c.loop-i.invariant c.loop-i.auto.i-end c.loop-i-test.false).past

pub returns-clause-parts : goal.returns-clause-parts
returns-clause-parts c = (up_to-all c.args.text.now c.loop-i.i c.loop-i.depth c.loop-i.invariant c.loop-i.auto.i-end c.loop-i-test.false).parts
