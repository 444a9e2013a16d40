use Rattle.std.proofs.Common.{◌≡◌, List, ℕ, Some, None, sym, ap, ◌∙◌, subst}
use Rattle.g_entry.specs.declared.format.Format.TheVariants.{Two}
use Rattle.g_entry.specs.FileFields.{file_block}
use Rattle.g_incr.specs.Plan.{IsPlan}
use Rattle.g_incr.proofs.PieceLemmas.{dumped_file, file_piece, numbers_empty, numbers_none}
use Rattle.g_incr.proofs.writer.Writer.file.Goals as goal

pub encode_file_in-requires-clause-file : goal.encode_file_in-requires-clause-file
encode_file_in-requires-clause-file c = dumped_file c.args.self.now (subst IsPlan c.self.view_is c.self.invariant.0) c.args.i c.dumped-file.result c.requires c.dumped-file.ensures

pub encode_file_in-requires-else-file-eq0-clause-file : goal.encode_file_in-requires-else-file-eq0-clause-file
encode_file_in-requires-else-file-eq0-clause-file c = dumped_file c.args.self.now (subst IsPlan c.self.view_is c.self.invariant.0) c.args.i c.dumped-file.result c.requires c.dumped-file.ensures

pub returns-then-file-eq0 : goal.returns-then-file-eq0
returns-then-file-eq0 c =
    let s = c.dumped-file.result in
    let shown : c.encode_file_in.result ≡ file_block Two s (Some c.new.result) = c.encode_file_in.ensures in
    file_piece c.args.self.now c.args.i s c.encode_file_in.result c.requires c.dumped-file.ensures
    (shown ∙ ap (file_block Two s) (ap (λ (l : List ℕ). Some l) c.new.ensures ∙ sym (numbers_empty s c.if-file-eq0.true)))

pub returns-else-file-eq0 : goal.returns-else-file-eq0
returns-else-file-eq0 c =
    let s = c.dumped-file.result in
    let shown : c.encode_file_in-else-file-eq0.result ≡ file_block Two s None = c.encode_file_in-else-file-eq0.ensures in
    file_piece c.args.self.now c.args.i s c.encode_file_in-else-file-eq0.result c.requires c.dumped-file.ensures (shown ∙ ap (file_block Two s) (sym (numbers_none s c.if-file-eq0.false)))
