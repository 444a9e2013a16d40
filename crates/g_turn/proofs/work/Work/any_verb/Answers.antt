use borrow.Enum.Total.{values_d}
use Rattle.std.proofs.Common.{Err, Ok, refl}
use Rattle.g_lang.specs.LineReader.{params_read}
use Rattle.g_monitor.specs.declared.errors.CommandError.TheVariants as errors
use Rattle.g_turn.specs.Commands.{passes_document}
use Rattle.g_turn.specs.Outcomes.{in_error}
use Rattle.g_turn.proofs.RanLemmas.{gives_alone, line_ran}
use Rattle.g_turn.proofs.SpokenLemmas.{index_read}
use Rattle.g_verbs.specs.VerbReader.{action_read}
use Rattle.g_verbs.specs.contracts.fault.VerbFault.{enum}
use Rattle.g_turn.proofs.work.Work.any_verb.Goals as goal

pub returns-in-Ok : goal.returns-in-Ok
returns-in-Ok g c =
    line_ran g.S.Filestore.answers g.S.Filestore.is_spent g.S.Filestore.can_wait c.args.asker.now.who.now c.args.asker.now.room c.args.by c.args.line.name c.args.line.rest (Ok c.in-Ok.action) 2048
    c.args.store.now c.args.self.now c.act.result c.act.new.self c.act.new.store c.in-Ok.ensures.one (record {
      ok = c.act.ensures.ok;
      err = c.act.ensures.err;
      live = c.act.ensures.live;
      same_waits = c.act.ensures.same_waits;
      blocks = c.act.ensures.blocks;
    })

pub returns-in-Err-BadParameter : goal.returns-in-Err-BadParameter
returns-in-Err-BadParameter g c =
    let index = (values_d enum 0 (0, tt {0}) c.in-Err-BadParameter.field-0).0 in
    line_ran g.S.Filestore.answers g.S.Filestore.is_spent g.S.Filestore.can_wait c.args.asker.now.who.now c.args.asker.now.room c.args.by c.args.line.name c.args.line.rest (Err index) 2048
    c.args.store.now c.args.self.now c.bad_parameter.result c.bad_parameter.new.self c.args.store.now
    (index_read (λ fault. (values_d enum 0 (0, tt {0}) fault).0) (λ n. refl) (action_read c.args.line.name (params_read c.args.line.rest) c.args.line.rest)
    c.in-Err-BadParameter.field-0 c.in-Err-BadParameter.ensures.one)
    (gives_alone g.S.Filestore.answers g.S.Filestore.is_spent g.S.Filestore.can_wait c.args.asker.now.who.now (in_error c.args.asker.now.room (errors.BadParameter index) (passes_document c.args.line.name c.args.self.now)) 2048
    c.args.store.now c.args.self.now c.bad_parameter.result c.bad_parameter.new.self c.requires.open.running c.bad_parameter.ensures.ok c.bad_parameter.ensures.blocks)
