use Rattle.std.proofs.Common.{ℕ, ◌*◌, ap, subst, arith}
use Rattle.g_files.specs.BlockFile.{Blocks, content_of}
use Rattle.g_files.specs.Risks.{Keeps}
use Rattle.g_files.proofs.BlockFileLemmas.{front_less}
use Rattle.g_files.proofs.BlockRiskLemmas.{secured_kept, secured_ready}
use Rattle.g_files.proofs.block_file.BlockFile.secure_before.Goals as goal

pub returns-then-is_secured_to-clause-ready : goal.returns-then-is_secured_to-clause-ready
returns-then-is_secured_to-clause-ready g c = λ j least most.
    let known = c.is_secured_to.ensures c.if-is_secured_to.true in absurd (omega (arith, least, most, known))

pub returns-then-is_secured_to-clause-kept : goal.returns-then-is_secured_to-clause-kept
returns-then-is_secured_to-clause-kept g c = λ kept.
    let known = c.is_secured_to.ensures c.if-is_secured_to.true in
    subst (λ (n : ℕ). Keeps n c.args.self.now) (omega (arith, known)) kept

pub returns-clause-front : goal.returns-clause-front
returns-clause-front g c =
    let f = c.args.self.now in
    front_less (512 * c.args.k) (512 * f.len) (content_of f) (content_of c.secure.new.self) (let few = c.requires.place in omega (arith, few)) c.secure.ensures.front

pub returns-clause-no_more : goal.returns-clause-no_more
returns-clause-no_more g c = c.secure.ensures.durable.no_more

pub returns-clause-ready : goal.returns-clause-ready
returns-clause-ready g c =
    let f = c.args.self.now in
    secured_ready f c.secure.new.self c.args.k c.secure.result c.requires.place (ap (λ (b : Blocks). b.len) c.secure.ensures.same) c.secure.ensures.durable

pub returns-clause-kept : goal.returns-clause-kept
returns-clause-kept g c =
    let f = c.args.self.now in
    secured_kept f c.secure.new.self c.args.k c.secure.result c.requires.place (ap (λ (b : Blocks). b.len) c.secure.ensures.same) c.secure.ensures.front c.secure.ensures.durable

pub returns-clause-durable : goal.returns-clause-durable
returns-clause-durable g c = c.secure.ensures.durable.same

pub returns-clause-disorderly : goal.returns-clause-disorderly
returns-clause-disorderly g c = c.secure.ensures.durable.disorderly
