use Rattle.std.proofs.Common.{◌∙◌, Option, ap, subst, sym}
use Rattle.std.specs.Prelude.{IfSome}
use Rattle.g_entry.specs.declared.head.Head.{Head}
use Rattle.g_incr.specs.declared.note.DumpDir.{DumpDir}
use Rattle.g_store.specs.Starting.{HasNamed}
use Rattle.g_store.proofs.TakeLemmas.{taken}
use Rattle.g_store.proofs.starting.take_named.Goals as goal

pub returns-in-Ok : goal.returns-in-Ok
returns-in-Ok g c =
    let found : HasNamed c.args.intent.now (g.T.Tapes.rack c.args.tapes.now) c.in-Ok-Some.dir.files.items =
    subst (λ (o : Option DumpDir). IfSome o (λ dir. HasNamed c.args.intent.now (g.T.Tapes.rack c.args.tapes.now) dir.files.items)) c.in-Ok-Some.field-0-is c.in-Ok-Some.ensures.some in
    taken c.args.online.now (g.T.Tapes.rack c.args.tapes.now) c.requires.tied c.args.intent.now c.requires.named.is
    c.requires.named.mounted_is (g.T.Tapes.rack c.find_named.new.tapes) c.in-Ok-Some.ensures.reads (c.in-Ok-Some.ensures.kept (λ e. let no : ⊥ = cc in no))
    c.as_slice.result.now (subst (HasNamed c.args.intent.now (g.T.Tapes.rack c.args.tapes.now)) (sym c.as_slice.ensures.value) found) c.adopt.new.online c.in-Ok.ensures
