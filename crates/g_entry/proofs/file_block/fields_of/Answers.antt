use Rattle.std.proofs.Common.{◌∙◌}
use Rattle.g_entry.proofs.RecordLemmas.{file_whole, not_there}
use Rattle.g_entry.proofs.file_block.fields_of.Goals as goal

pub returns-in_err-r-clause-again : goal.returns-in_err-r-clause-again
returns-in_err-r-clause-again c = λ r online numbered is are here.
    let (zeros, there, behind) = c.take_rec.ensures.again c.args.format r online numbered is (c.new-reader.ensures ∙ here) in
    absurd (not_there c.take_rec.result r c.in_err-r.was there)

pub returns-clause-again : goal.returns-clause-again
returns-clause-again c = λ r online numbered is are here.
    let (zeros, there, behind) = c.take_rec.ensures.again c.args.format r online numbered is (c.new-reader.ensures ∙ here) in
    file_whole c.args.format r c.in_ok-r.r c.take_places-online.result online c.take_rec.result c.take_rec.new.reader zeros c.in_ok-r.was there is are behind c.take_places-online.ensures
