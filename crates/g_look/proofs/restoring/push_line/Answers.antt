use Rattle.std.proofs.Common.{[], ◌++◌, ◌∷◌}
use Rattle.g_look.specs.FileLines.{dumped_file_line, empty_text, file_front, taped_text}
use Rattle.g_look.proofs.PushLemmas.{last_more, then_more}
use Rattle.g_look.proofs.restoring.push_line.Goals as goal

pub returns : goal.returns
returns c =
    last_more _ c.args.text.now (dumped_file_line c.args.full.now c.args.users.now c.args.file.now) (10 ∷ []) _ _
    (then_more c.args.text.now (file_front c.args.full.now c.args.users.now c.args.file.now ++ empty_text c.args.file.now.len) (taped_text c.args.file.now.tape) _ _
    (then_more c.args.text.now (file_front c.args.full.now c.args.users.now c.args.file.now) (empty_text c.args.file.now.len) _ _ c.in_ok-push_file.ensures c.in_ok-push_empty.ensures)
    c.in_ok-push_taped.ensures) c.push.ensures.ok
