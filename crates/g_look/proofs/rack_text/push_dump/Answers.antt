use Rattle.std.proofs.Common.{◌++◌, ◌+◌, ◌-◌, ◌∷◌, []}
use Rattle.std.specs.Prelude.{codes}
use Rattle.std.specs.List.{flat_map}
use Rattle.g_look.specs.Text.{holder_text, told}
use Rattle.g_look.proofs.PushLemmas.{last_more, then_more}
use Rattle.g_look.proofs.rack_text.push_dump.Goals as goal

pub returns : goal.returns
returns c =
    last_more _ c.args.text.now (told (codes "DUMP ") c.args.one.now.dir.note.number ++ told (codes " TAPE ") c.args.one.now.serial ++ told (codes " AT ") c.args.one.now.dir.note.place ++ told (codes " BLOCKS ") (c.args.one.now.dir.note.count + 2) ++ told (codes " USERS ") c.args.one.now.dir.note.users ++ told (codes " FILES ") c.args.one.now.dir.note.files ++ told (codes " CONTENT ") (c.args.one.now.dir.note.count - (c.args.one.now.dir.note.users + c.args.one.now.dir.note.files)) ++ told (codes " NEXT ") c.args.one.now.dir.note.next_stamp ++ codes " HOLDS" ++ flat_map (holder_text c.args.one.now.dir.users.items) c.args.one.now.dir.held.items) (10 ∷ []) _ _
    (then_more c.args.text.now (told (codes "DUMP ") c.args.one.now.dir.note.number ++ told (codes " TAPE ") c.args.one.now.serial ++ told (codes " AT ") c.args.one.now.dir.note.place ++ told (codes " BLOCKS ") (c.args.one.now.dir.note.count + 2) ++ told (codes " USERS ") c.args.one.now.dir.note.users ++ told (codes " FILES ") c.args.one.now.dir.note.files ++ told (codes " CONTENT ") (c.args.one.now.dir.note.count - (c.args.one.now.dir.note.users + c.args.one.now.dir.note.files)) ++ told (codes " NEXT ") c.args.one.now.dir.note.next_stamp ++ codes " HOLDS") (flat_map (holder_text c.args.one.now.dir.users.items) c.args.one.now.dir.held.items) _ _ (then_more c.args.text.now (told (codes "DUMP ") c.args.one.now.dir.note.number ++ told (codes " TAPE ") c.args.one.now.serial ++ told (codes " AT ") c.args.one.now.dir.note.place ++ told (codes " BLOCKS ") (c.args.one.now.dir.note.count + 2) ++ told (codes " USERS ") c.args.one.now.dir.note.users ++ told (codes " FILES ") c.args.one.now.dir.note.files ++ told (codes " CONTENT ") (c.args.one.now.dir.note.count - (c.args.one.now.dir.note.users + c.args.one.now.dir.note.files)) ++ told (codes " NEXT ") c.args.one.now.dir.note.next_stamp) (codes " HOLDS") _ _ (then_more c.args.text.now (told (codes "DUMP ") c.args.one.now.dir.note.number ++ told (codes " TAPE ") c.args.one.now.serial ++ told (codes " AT ") c.args.one.now.dir.note.place ++ told (codes " BLOCKS ") (c.args.one.now.dir.note.count + 2) ++ told (codes " USERS ") c.args.one.now.dir.note.users ++ told (codes " FILES ") c.args.one.now.dir.note.files ++ told (codes " CONTENT ") (c.args.one.now.dir.note.count - (c.args.one.now.dir.note.users + c.args.one.now.dir.note.files))) (told (codes " NEXT ") c.args.one.now.dir.note.next_stamp) _ _ (then_more c.args.text.now (told (codes "DUMP ") c.args.one.now.dir.note.number ++ told (codes " TAPE ") c.args.one.now.serial ++ told (codes " AT ") c.args.one.now.dir.note.place ++ told (codes " BLOCKS ") (c.args.one.now.dir.note.count + 2) ++ told (codes " USERS ") c.args.one.now.dir.note.users ++ told (codes " FILES ") c.args.one.now.dir.note.files) (told (codes " CONTENT ") (c.args.one.now.dir.note.count - (c.args.one.now.dir.note.users + c.args.one.now.dir.note.files))) _ _ (then_more c.args.text.now (told (codes "DUMP ") c.args.one.now.dir.note.number ++ told (codes " TAPE ") c.args.one.now.serial ++ told (codes " AT ") c.args.one.now.dir.note.place ++ told (codes " BLOCKS ") (c.args.one.now.dir.note.count + 2) ++ told (codes " USERS ") c.args.one.now.dir.note.users) (told (codes " FILES ") c.args.one.now.dir.note.files) _ _ (then_more c.args.text.now (told (codes "DUMP ") c.args.one.now.dir.note.number ++ told (codes " TAPE ") c.args.one.now.serial ++ told (codes " AT ") c.args.one.now.dir.note.place ++ told (codes " BLOCKS ") (c.args.one.now.dir.note.count + 2)) (told (codes " USERS ") c.args.one.now.dir.note.users) _ _ (then_more c.args.text.now (told (codes "DUMP ") c.args.one.now.dir.note.number ++ told (codes " TAPE ") c.args.one.now.serial ++ told (codes " AT ") c.args.one.now.dir.note.place) (told (codes " BLOCKS ") (c.args.one.now.dir.note.count + 2)) _ _ (then_more c.args.text.now (told (codes "DUMP ") c.args.one.now.dir.note.number ++ told (codes " TAPE ") c.args.one.now.serial) (told (codes " AT ") c.args.one.now.dir.note.place) _ _ (then_more c.args.text.now (told (codes "DUMP ") c.args.one.now.dir.note.number) (told (codes " TAPE ") c.args.one.now.serial) _ _ c.in_ok-push_told.ensures (rw c.from.ensures at c.in_ok-push_told-2.ensures)) (rw c.from-2.ensures at c.in_ok-push_told-3.ensures)) (rw c.from-3.ensures at c.in_ok-push_told-4.ensures)) (rw c.from-4.ensures at c.in_ok-push_told-5.ensures)) (rw c.from-5.ensures at c.in_ok-push_told-6.ensures)) (rw c.from-7.ensures at (rw c.from-6.ensures at (rw c.saturating_sub.ensures at (rw c.from-8.ensures at c.in_ok-push_told-7.ensures))))) c.in_ok-push_told-8.ensures) c.in_ok-extend.ensures.ok) (rw c.as_slice-2.ensures.value at (rw c.as_slice.ensures.value at c.in_ok-push_holders.ensures)))
    c.push.ensures.ok
