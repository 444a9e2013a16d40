use Rattle.std.proofs.Common.{◌∙◌, ap, sym}
use Rattle.g_plain.specs.declared.faults.StoreFault.TheVariants.{NoCopy}
use Rattle.std.proofs.lemmas.Option.{none-some, same_Some}
use Rattle.g_process.proofs.JobLemmas.{copied_off, named_in}
use Rattle.g_process.proofs.shelves.lost.Goals as goal

pub unreachable-requires : goal.unreachable-requires
unreachable-requires g c =
    none-some _ (sym c.in_default.is ∙ c.full_name.ensures.name
    ∙ named_in c.args.online.now c.args.file.now c.tree.result.now.users c.tree.result.now.files c.requires.live c.requires.tied c.requires.there c.tree.ensures.users c.tree.ensures.files)

pub unreachable-requires-in_default-tape : goal.unreachable-requires-in_default-tape
unreachable-requires-in_default-tape g c = copied_off c.args.online.now c.args.file.now c.requires.live c.requires.tied c.requires.there c.requires.offline c.in_default-tape.is

pub returns : goal.returns
returns g c =
    let named = named_in c.args.online.now c.args.file.now c.tree.result.now.users c.tree.result.now.files c.requires.live c.requires.tied c.requires.there c.tree.ensures.users c.tree.ensures.files in
    let same = same_Some c.in-Some.full _ (sym c.in-Some.is ∙ c.full_name.ensures.name ∙ named) in
    (c.in-Some-tape.copy, c.in-Some-tape.is, ap (λ n. NoCopy n c.in-Some-tape.copy.serial) same)
