use Rattle.std.proofs.Common.{ℕ, ◌+◌, [], ◌∷◌, ap, arith, inr, subst, sym, ◌∙◌}
use Rattle.g_dirs.specs.Pages.{marked}
use Rattle.g_tree.specs.Records.{IsRecords}
use Rattle.g_online.specs.DumpedVersions.{noted_at, noted_in}
use Rattle.g_online.proofs.CloseMarkLemmas.{none_made, one_made}
use Rattle.g_online.proofs.CloseNoteLemmas.{found_below, kept_here, name_there, none_at, put_here}
use Rattle.g_online.proofs.closing.note_copy.Goals as goal

pub returns-in_default-clause-files : goal.returns-in_default-clause-files
returns-in_default-clause-files c =
    none_at (noted_in (c.args.pin.now ∷ [])) c.args.tree.now.users c.args.tree.now.files c.file_at.ensures.records c.args.pin.now.number c.in_default.ensures.value

pub returns-in_default-clause-marks : goal.returns-in_default-clause-marks
returns-in_default-clause-marks c =
    none_made (noted_at (noted_in (c.args.pin.now ∷ [])) c.args.pin.now.number) c.args.tree.now.files c.args.pages.now
    (none_at (noted_in (c.args.pin.now ∷ [])) c.args.tree.now.users c.args.tree.now.files c.file_at.ensures.records c.args.pin.now.number c.in_default.ensures.value)

pub returns-in_default-with_copy-clause-files : goal.returns-in_default-with_copy-clause-files
returns-in_default-with_copy-clause-files c =
    kept_here (noted_in (c.args.pin.now ∷ [])) c.args.tree.now.users c.args.tree.now.files c.file_at.ensures.records c.args.pin.now.number c.in-Some.file.now c.in-Some.ensures.value c.in_default-with_copy.ensures.none

pub returns-in_default-with_copy-clause-marks : goal.returns-in_default-with_copy-clause-marks
returns-in_default-with_copy-clause-marks c =
    none_made (noted_at (noted_in (c.args.pin.now ∷ [])) c.args.pin.now.number) c.args.tree.now.files c.args.pages.now
    (kept_here (noted_in (c.args.pin.now ∷ [])) c.args.tree.now.users c.args.tree.now.files c.file_at.ensures.records c.args.pin.now.number c.in-Some.file.now c.in-Some.ensures.value c.in_default-with_copy.ensures.none)

pub put-requires-clause-room : goal.put-requires-clause-room
put-requires-clause-room c =
    inr (name_there (noted_in (c.args.pin.now ∷ [])) c.args.tree.now.users c.args.tree.now.files c.file_at.ensures.records c.args.pin.now.number c.in-Some.file.now c.in-Some-with_copy.noted c.in-Some.ensures.value
    c.in-Some-with_copy.ensures.some)

pub put-requires-clause-rules : goal.put-requires-clause-rules
put-requires-clause-rules c =
    subst (IsRecords c.args.tree.now.users)
    (sym (put_here (noted_in (c.args.pin.now ∷ [])) c.args.tree.now.users c.args.tree.now.files c.file_at.ensures.records c.args.pin.now.number c.in-Some.file.now c.in-Some-with_copy.noted c.in-Some.ensures.value c.in-Some-with_copy.ensures.some))
    c.requires.rules

pub returns-clause-files : goal.returns-clause-files
returns-clause-files c =
    c.put.ensures.files
    ∙ put_here (noted_in (c.args.pin.now ∷ [])) c.args.tree.now.users c.args.tree.now.files c.file_at.ensures.records c.args.pin.now.number c.in-Some.file.now c.in-Some-with_copy.noted c.in-Some.ensures.value c.in-Some-with_copy.ensures.some

pub returns-clause-marks : goal.returns-clause-marks
returns-clause-marks c =
    one_made (noted_in (c.args.pin.now ∷ [])) c.args.pin.now.number c.args.tree.now.files c.args.pages.now c.changed.new.self
    (c.changed.ensures.marks ∙ ap (λ (n : ℕ). marked (64 + n) c.args.pages.now) c.from.ensures)

pub changed-requires : goal.changed-requires
changed-requires c =
    let below = found_below (noted_in (c.args.pin.now ∷ [])) c.args.tree.now.users c.args.tree.now.files c.file_at.ensures.records c.args.pin.now.number c.in-Some.file.now c.in-Some.ensures.value in
    let same = c.from.ensures in omega (arith, below, same)
