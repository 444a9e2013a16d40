use Rattle.std.proofs.Common.{◌++◌, ◌∷◌, []}
use Rattle.std.specs.Prelude.{codes}
use Rattle.g_monitor.specs.Parts.{full_text}
use Rattle.g_look.specs.Text.{told}
use Rattle.g_look.proofs.PushLemmas.{last_more, then_more}
use Rattle.g_seal.specs.Rotten.{is_other, is_sealed, nowhere_text, rotten_file_line, tape_if, twin_if}
use Rattle.g_seal.specs.SealText.{online_text}
use Rattle.g_seal.proofs.rotten_line.push_rotten_file.Goals as goal

pub returns : goal.returns
returns c =
    let v = c.args.version.now in
    let old = c.args.text.now in
    let named = codes "ROTTEN FILE " ++ full_text v.full in
    let stamped = named ++ told (codes " STAMP ") v.stamp in
    let other_disc = stamped ++ online_text (is_other v.disc) in
    let other_tape = other_disc ++ tape_if (is_other v.tape) v.place in
    let other_twin = other_tape ++ twin_if (is_other v.twin) v.place in
    let good = other_twin ++ codes " GOOD" in
    let good_disc = good ++ online_text (is_sealed v.disc) in
    let good_tape = good_disc ++ tape_if (is_sealed v.tape) v.place in
    let good_twin = good_tape ++ twin_if (is_sealed v.twin) v.place in
    last_more _ old (rotten_file_line v) (10 ∷ []) _ _
    (then_more old good_twin (nowhere_text v) _ _
    (then_more old good_tape (twin_if (is_sealed v.twin) v.place) _ _
    (then_more old good_disc (tape_if (is_sealed v.tape) v.place) _ _
    (then_more old good (online_text (is_sealed v.disc)) _ _
    (then_more old other_twin (codes " GOOD") _ _
    (then_more old other_tape (twin_if (is_other v.twin) v.place) _ _
    (then_more old other_disc (tape_if (is_other v.tape) v.place) _ _
    (then_more old stamped (online_text (is_other v.disc)) _ _
    (then_more old named (told (codes " STAMP ") v.stamp) _ _
    (then_more old (codes "ROTTEN FILE ") (full_text v.full) _ _ c.in_ok-extend.ensures.ok c.in_ok-push_full.ensures)
    c.in_ok-push_told.ensures)
    (rw c.is_other.ensures at c.in_ok-push_online.ensures))
    (rw c.is_other-2.ensures at c.in_ok-push_tape_if.ensures))
    (rw c.is_other-3.ensures at c.in_ok-push_twin_if.ensures))
    c.in_ok-extend-2.ensures.ok)
    (rw c.is_sealed.ensures at c.in_ok-push_online-2.ensures))
    (rw c.is_sealed-2.ensures at c.in_ok-push_tape_if-2.ensures))
    (rw c.is_sealed-3.ensures at c.in_ok-push_twin_if-2.ensures))
    c.in_ok-push_nowhere.ensures)
    c.push.ensures.ok
