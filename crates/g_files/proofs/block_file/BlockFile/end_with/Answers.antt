use Rattle.std.proofs.Common.{◌≡◌, ℕ, ◌+◌, sym, ap, ◌∙◌, arith}
use Rattle.g_files.specs.BlockFile.{content_of}
use Rattle.g_files.proofs.CallLemmas.{changes_before, on_ok_at}
use Rattle.g_files.proofs.BlockFileLemmas.{made}
use Rattle.g_tape.specs.Reel.{Torn}
use Rattle.g_files.specs.BlockFile.{Blocks, len_of}
use Rattle.g_files.proofs.BlockRiskLemmas.{begun_secured, front_same, kept_more}
use Rattle.g_files.proofs.block_file.BlockFile.end_with.Goals as goal

pub returns-then-is_err-2-clause-left : goal.returns-then-is_err-2-clause-left
returns-then-is_err-2-clause-left g c =
    let mid = c.write_last.new.self in
    let done = on_ok_at c.write_last.result (sym c.is_err.ensures.value ∙ c.if-is_err.false) c.write_last.ensures.done in
    (Torn c.args.block.now, ap (λ (m : ℕ). made m (content_of c.bring_if.new.self)) c.bring_if.ensures.len ∙ ap (made mid.len) c.bring_if.ensures.content ∙ done)

pub returns-then-is_err-2-clause-front : goal.returns-then-is_err-2-clause-front
returns-then-is_err-2-clause-front g c = changes_before c.bring_if.ensures.content c.write_last.ensures.front

pub returns-clause-done : goal.returns-clause-done
returns-clause-done g c =
    let mid = c.write_last.new.self in
    let done = on_ok_at c.write_last.result (sym c.is_err.ensures.value ∙ c.if-is_err.false) c.write_last.ensures.done in
    ap (λ (m : ℕ). made m (content_of c.bring_if.new.self)) c.bring_if.ensures.len ∙ ap (made mid.len) c.bring_if.ensures.content ∙ done

pub returns-clause-front : goal.returns-clause-front
returns-clause-front g c = changes_before c.bring_if.ensures.content c.write_last.ensures.front

pub returns-then-is_err-clause-begun : goal.returns-then-is_err-clause-begun
returns-then-is_err-clause-begun g c =
    let f = c.args.self.now in
    let m = c.write_last.new.self in
    begun_secured f m m c.args.k _ _ (λ able. (c.is_synced-syncs.ensures able.0, able.1)) (λ left there. there)
    c.write_last.ensures.begun

pub returns-then-is_err-2-clause-begun : goal.returns-then-is_err-2-clause-begun
returns-then-is_err-2-clause-begun g c =
    let f = c.args.self.now in
    let m = c.write_last.new.self in
    begun_secured f m c.bring_if.new.self c.args.k _ _ (λ able. (c.is_synced-syncs.ensures able.0, able.1))
    c.bring_if.ensures.no_more c.write_last.ensures.begun

pub returns-then-is_err-2-clause-kept : goal.returns-then-is_err-2-clause-kept
returns-then-is_err-2-clause-kept g c = λ n few is.
    let m = c.write_last.new.self in
    let done = on_ok_at c.write_last.result (sym c.is_err.ensures.value ∙ c.if-is_err.false) c.write_last.ensures.done in
    let len : m.len ≡ c.args.k + 1 = ap (λ (b : Blocks). b.len) done in
    kept_more m c.bring_if.new.self n (len_of m) (omega (arith, few, len)) (omega (arith, few, len)) c.bring_if.ensures.len
    (front_same m c.bring_if.new.self c.bring_if.ensures.content) c.bring_if.ensures.no_more (c.write_last.ensures.kept n few is)

pub returns-then-is_err-2-clause-secured : goal.returns-then-is_err-2-clause-secured
returns-then-is_err-2-clause-secured g c = λ is. c.bring_if.ensures.secured (c.write_last.ensures.secured is)

pub returns-clause-begun : goal.returns-clause-begun
returns-clause-begun g c =
    let f = c.args.self.now in
    let m = c.write_last.new.self in
    begun_secured f m c.bring_if.new.self c.args.k _ _ (λ able. (c.is_synced-syncs.ensures able.0, able.1))
    c.bring_if.ensures.no_more c.write_last.ensures.begun

pub returns-clause-kept : goal.returns-clause-kept
returns-clause-kept g c = λ n few is.
    let m = c.write_last.new.self in
    let done = on_ok_at c.write_last.result (sym c.is_err.ensures.value ∙ c.if-is_err.false) c.write_last.ensures.done in
    let len : m.len ≡ c.args.k + 1 = ap (λ (b : Blocks). b.len) done in
    kept_more m c.bring_if.new.self n (len_of m) (omega (arith, few, len)) (omega (arith, few, len)) c.bring_if.ensures.len
    (front_same m c.bring_if.new.self c.bring_if.ensures.content) c.bring_if.ensures.no_more (c.write_last.ensures.kept n few is)

pub returns-clause-secured : goal.returns-clause-secured
returns-clause-secured g c = λ is. c.bring_if.ensures.secured (c.write_last.ensures.secured is)

pub returns-clause-orderly : goal.returns-clause-orderly
returns-clause-orderly g c =
    on_ok_at c.bring_if.result (sym c.is_err-2.ensures.value ∙ c.if-is_err-2.false)
    (c.bring_if.ensures.orderly (on_ok_at c.write_last.result (sym c.is_err.ensures.value ∙ c.if-is_err.false) c.write_last.ensures.orderly))

pub returns-clause-stored : goal.returns-clause-stored
returns-clause-stored g c = λ needed is.
    on_ok_at c.bring_if.result (sym c.is_err-2.ensures.value ∙ c.if-is_err-2.false)
    (c.bring_if.ensures.stored (c.is_synced-syncs.ensures needed) (c.write_last.ensures.secured is))
