use Rattle.std.proofs.Common.{◌≡◌, ℕ, ◌*◌, sym, ap, subst, ◌∙◌, inl, arith}
use Rattle.g_files.specs.BlockFile.{blocks_seen, content_of, cut_blocks}
use Rattle.g_files.proofs.BlockFileLemmas.{made, made_all, on_ok_any}
use Rattle.g_files.specs.BlockFile.{Blocks}
use Rattle.g_files.specs.Risks.{Keeps}
use Rattle.g_files.proofs.BlockFileLemmas.{front_less}
use Rattle.g_files.proofs.GrowthLemmas.{false_true}
use Rattle.g_files.proofs.BlockRiskLemmas.{front_same, more_begun, secured_to, stay_kept}
use Rattle.g_files.proofs.RiskLemmas.{is_orderly, not_orderly}
use Rattle.g_files.proofs.block_file.BlockFile.make_room.Goals as goal

pub returns-then-is_unknown-clause-done : goal.returns-then-is_unknown-clause-done
returns-then-is_unknown-clause-done g c =
    let f = c.args.self.now in
    let k = c.args.k in
    let all : k ≡ f.len = let few = c.requires.place in let past = c.if-k-self.false in omega (arith, few, past) in
    on_ok_any c.secure.result (c.secure.ensures.same ∙ made_all f.len (content_of f) f.long ∙ ap (λ (m : ℕ). cut_blocks m (blocks_seen f)) (sym all))

pub returns-then-syncs-clause-done : goal.returns-then-syncs-clause-done
returns-then-syncs-clause-done g c =
    let f = c.args.self.now in
    let k = c.args.k in
    let all : k ≡ f.len = let few = c.requires.place in let past = c.if-k-self.false in omega (arith, few, past) in
    on_ok_any c.bring.result (ap (λ (m : ℕ). made m (content_of c.bring.new.self)) c.bring.ensures.len ∙ ap (made f.len) c.bring.ensures.content
    ∙ made_all f.len (content_of f) f.long ∙ ap (λ (m : ℕ). cut_blocks m (blocks_seen f)) (sym all))

pub returns-clause-done : goal.returns-clause-done
returns-clause-done g c =
    let f = c.args.self.now in
    let k = c.args.k in
    let all : k ≡ f.len = let few = c.requires.place in let past = c.if-k-self.false in omega (arith, few, past) in
    made_all f.len (content_of f) f.long ∙ ap (λ (m : ℕ). cut_blocks m (blocks_seen f)) (sym all)

pub returns-then-is_failed-clause-begun : goal.returns-then-is_failed-clause-begun
returns-then-is_failed-clause-begun g c = more_begun c.args.self.now c.args.self.now c.args.k _ (λ left there. there)

pub returns-then-is_failed-clause-disorderly : goal.returns-then-is_failed-clause-disorderly
returns-then-is_failed-clause-disorderly g c = not_orderly c.args.self.now.reach (inl (c.is_failed.ensures.0 c.if-is_failed.true))

pub returns-then-k-self-clause-stored : goal.returns-then-k-self-clause-stored
returns-then-k-self-clause-stored g c = λ yes is. c.cut.ensures.stored is

pub returns-then-is_unknown-clause-begun : goal.returns-then-is_unknown-clause-begun
returns-then-is_unknown-clause-begun g c = more_begun c.args.self.now c.secure.new.self c.args.k _ c.secure.ensures.durable.no_more

pub returns-then-is_unknown-clause-kept : goal.returns-then-is_unknown-clause-kept
returns-then-is_unknown-clause-kept g c =
    let f = c.args.self.now in
    let place = c.requires.place in
    stay_kept f c.secure.new.self c.args.k place (ap (λ (b : Blocks). b.len) c.secure.ensures.same)
    (front_less (512 * c.args.k) (512 * f.len) (content_of f) (content_of c.secure.new.self) (omega (arith, place)) c.secure.ensures.front)
    c.secure.ensures.durable.no_more

pub returns-then-is_unknown-clause-secured : goal.returns-then-is_unknown-clause-secured
returns-then-is_unknown-clause-secured g c =
    let f = c.args.self.now in
    let counted = f.counted in
    let past = c.if-k-self.false in
    secured_to f c.secure.new.self c.args.k c.secure.result c.requires.place (ap (λ (b : Blocks). b.len) c.secure.ensures.same) c.secure.ensures.front
    c.secure.ensures.durable (omega (arith, counted, past))

pub returns-then-is_unknown-clause-stored : goal.returns-then-is_unknown-clause-stored
returns-then-is_unknown-clause-stored g c = λ yes is.
    let f = c.args.self.now in
    let counted = f.counted in
    let past = c.if-k-self.false in
    c.secure.ensures.durable.stored (subst (λ (n : ℕ). Keeps n f) (omega (arith, counted, past)) is)

pub returns-then-syncs-clause-begun : goal.returns-then-syncs-clause-begun
returns-then-syncs-clause-begun g c = more_begun c.args.self.now c.bring.new.self c.args.k _ c.bring.ensures.durable.no_more

pub returns-then-syncs-clause-kept : goal.returns-then-syncs-clause-kept
returns-then-syncs-clause-kept g c =
    let f = c.args.self.now in
    let place = c.requires.place in
    stay_kept f c.bring.new.self c.args.k place c.bring.ensures.len
    (front_less (512 * c.args.k) (512 * f.len) (content_of f) (content_of c.bring.new.self) (omega (arith, place)) (front_same f c.bring.new.self c.bring.ensures.content))
    c.bring.ensures.durable.no_more

pub returns-then-syncs-clause-secured : goal.returns-then-syncs-clause-secured
returns-then-syncs-clause-secured g c =
    let f = c.args.self.now in
    let counted = f.counted in
    let past = c.if-k-self.false in
    secured_to f c.bring.new.self c.args.k c.bring.result c.requires.place c.bring.ensures.len (front_same f c.bring.new.self c.bring.ensures.content)
    c.bring.ensures.durable (omega (arith, counted, past))

pub returns-then-syncs-clause-stored : goal.returns-then-syncs-clause-stored
returns-then-syncs-clause-stored g c = λ yes is.
    let f = c.args.self.now in
    let counted = f.counted in
    let past = c.if-k-self.false in
    c.bring.ensures.durable.stored (subst (λ (n : ℕ). Keeps n f) (omega (arith, counted, past)) is)

pub returns-clause-begun : goal.returns-clause-begun
returns-clause-begun g c = more_begun c.args.self.now c.args.self.now c.args.k _ (λ left there. there)

pub returns-clause-orderly : goal.returns-clause-orderly
returns-clause-orderly g c = is_orderly c.args.self.now.reach (λ is. false_true (sym c.if-is_failed.false ∙ c.is_failed.ensures.1 is))
    (λ is. false_true (sym c.if-is_unknown.false ∙ c.is_unknown.ensures.1 is))

pub returns-clause-stored : goal.returns-clause-stored
returns-clause-stored g c = λ yes is. absurd (let no = c.if-syncs.false in cc)
