-- A placeholder reserves memory for the new name and is then replaced.
use Rattle.std.proofs.Common.{◌≡◌, ◌∙◌, ap, is_some, Some}
use Rattle.std.specs.FinMap as map
use Rattle.g_plain_store.proofs.Rows.{moved, there_still, new_there, row_is, absent_is}
use Rattle.g_plain_store.proofs.file_map.FileMap.rename.Goals as goal

pub take-entry-requires : goal.take-entry-requires
take-entry-requires c =
    let placed : c.insert.new.self ≡ map.insert c.args.self.now c.args.to c.new-place.result = c.in_ok-insert.ensures.ok ∙ ap (λ q. map.insert c.args.self.now q c.new-place.result) c.copy.ensures in
    ap (λ m. is_some (map.get m c.args.full.now)) placed ∙ ap is_some (there_still c.args.self.now c.args.full.now c.args.to c.new-place.result c.requires.there (absent_is _ c.requires.free)) ∙ c.requires.there

pub replace-requires : goal.replace-requires
replace-requires c =
    let placed : c.insert.new.self ≡ map.insert c.args.self.now c.args.to c.new-place.result = c.in_ok-insert.ensures.ok ∙ ap (λ q. map.insert c.args.self.now q c.new-place.result) c.copy.ensures in
    ap (λ m. is_some (map.get m c.args.to)) (c.take-entry.ensures.taken ∙ ap (λ m. map.remove m c.args.full.now) placed)
    ∙ new_there c.args.self.now c.args.full.now c.args.to c.new-place.result c.requires.there (absent_is _ c.requires.free)

pub returns-clause-ok : goal.returns-clause-ok
returns-clause-ok c =
    let placed : c.insert.new.self ≡ map.insert c.args.self.now c.args.to c.new-place.result = c.in_ok-insert.ensures.ok ∙ ap (λ q. map.insert c.args.self.now q c.new-place.result) c.copy.ensures in
    let same : Some c.take-entry.result ≡ map.get c.args.self.now c.args.full.now =
    c.take-entry.ensures.row ∙ ap (λ m. map.get m c.args.full.now) placed
    ∙ there_still c.args.self.now c.args.full.now c.args.to c.new-place.result c.requires.there (absent_is _ c.requires.free) in
    c.replace.ensures ∙ ap (λ m. map.insert m c.args.to c.take-entry.result) (c.take-entry.ensures.taken ∙ ap (λ m. map.remove m c.args.full.now) placed)
    ∙ moved c.args.self.now c.args.full.now c.args.to c.new-place.result c.take-entry.result
    ∙ ap (map.insert (map.remove c.args.self.now c.args.full.now) c.args.to) (row_is _ _ same)
