use Rattle.std.proofs.Common.{[], ◌++◌, ◌∷◌}
use Rattle.g_look.specs.FileLines.{blocks_text, disc_file_line, file_front, taped_text}
use Rattle.g_look.proofs.PushLemmas.{last_more, then_more}
use Rattle.g_look.proofs.listing.push_line.Goals as goal

pub returns : goal.returns
returns c =
    last_more _ c.args.text.now (disc_file_line c.args.full.now c.args.users.now c.args.copy.now c.args.file.now) (10 ∷ []) _ _
    (then_more c.args.text.now (file_front c.args.full.now c.args.users.now c.args.file.now ++ blocks_text c.args.copy.now) (taped_text c.args.file.now.tape) _ _
    (then_more c.args.text.now (file_front c.args.full.now c.args.users.now c.args.file.now) (blocks_text c.args.copy.now) _ _ c.in_ok-push_file.ensures c.in_ok-push_blocks.ensures)
    c.in_ok-push_taped.ensures) c.push.ensures.ok
