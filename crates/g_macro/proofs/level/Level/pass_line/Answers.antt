use Rattle.std.proofs.Common.{◌≡◌, ◌<◌, ◌+◌, ◌∙◌, ap, get_or, length, ltb-true, sym, []}
use Rattle.g_macro.specs.Levels.{Level, has_line, line_at}
use Rattle.g_macro.proofs.PlaceLemmas.{one-left}
use Rattle.g_macro.proofs.level.Level.pass_line.Goals as goal

pub pass-requires-clause-within : goal.pass-requires-clause-within
pass-requires-clause-within c =
    let inside : c.self.inside.cursor.taken < length c.self.inside.cursor.lines = ltb-true _ _ (ap has_line c.self.view_is ∙ c.requires.line) in
    (one-left c.self.inside.cursor.lines c.self.inside.cursor.taken inside).0

pub pass-requires-clause-bytes : goal.pass-requires-clause-bytes
pass-requires-clause-bytes c =
    let inside : c.self.inside.cursor.taken < length c.self.inside.cursor.lines = ltb-true _ _ (ap has_line c.self.view_is ∙ c.requires.line) in
    let long : length (get_or c.self.inside.cursor.lines c.self.inside.cursor.taken []) + 1 ≡ c.args.bytes = ap (λ (l : Level). length (line_at l) + 1) c.self.view_is ∙ sym c.requires.bytes in
    sym long ∙ (one-left c.self.inside.cursor.lines c.self.inside.cursor.taken inside).1
