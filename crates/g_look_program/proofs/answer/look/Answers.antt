use Rattle.g_look.specs.Looks.{OfDumps}
use Rattle.g_look.specs.ShownBytes.{IsShown}
use Rattle.g_look_program.proofs.LookLemmas.{ends_check, ends_dumps, ends_given, ends_seal, list_ends, of_blocks, of_dumps, show_ends}
use Rattle.g_look_program.proofs.answer.look.Goals as goal

pub returns-in-Check-clause-check : goal.returns-in-Check-clause-check
returns-in-Check-clause-check g c = λ is tells.
    ends_check _ _ _ c.check.result c.tell_check.result _ (c.check.ensures.right tells) c.check.ensures.filestore c.check.ensures.faults c.tell_check.ensures

pub returns-in-Dumps-clause-dumps : goal.returns-in-Dumps-clause-dumps
returns-in-Dumps-clause-dumps g c = λ is tells shelf shelved. ends_dumps shelf _ c.dumps.result c.tell.result _ (c.dumps.ensures.text tells shelf shelved) c.dumps.ensures.faults c.tell.ensures

pub returns-in-List-clause-list : goal.returns-in-List-clause-list
returns-in-List-clause-list g c = λ user is blocks told.
    list_ends c.args.asked.now user _ _ c.in-List.is is c.as_ref.ensures.value blocks _ _ c.list.result (c.list.ensures.text blocks told) (λ none. c.list.ensures.no_filestore none blocks told) (λ none. c.list.ensures.no_user none blocks told)
    c.list.ensures.faults c.tell-in-List.ensures

pub returns-in-Show-clause-show : goal.returns-in-Show-clause-show
returns-in-Show-clause-show g c = λ path is blocks told reels shelf shelved.
    show_ends c.args.asked.now path c.in-Show.path c.in-Show.is is blocks _ _ _ c.show.result
    (of_dumps (g.T.Tapes.rack c.args.tapes.now) (λ dumps text. IsShown blocks dumps c.in-Show.path text) c.show.result
    (of_blocks (g.D.Disc.state c.args.disc.now).held (λ bs text. OfDumps (g.T.Tapes.rack c.args.tapes.now) (λ dumps. IsShown bs dumps c.in-Show.path text)) c.show.result blocks told c.show.ensures.bytes) reels shelf shelved)
    (λ none. c.show.ensures.no_filestore none blocks told) (λ none. c.show.ensures.no_file none blocks told)
    (λ none. c.show.ensures.no_copy none c.requires.mounted blocks told reels shelf shelved) c.show.ensures.only c.tell_bytes.ensures

pub returns-in-Restorable-clause-restorable : goal.returns-in-Restorable-clause-restorable
returns-in-Restorable-clause-restorable g c = λ is reels shelf shelved. ends_given _ _ _ c.restorable.result (c.restorable.ensures.text reels shelf shelved) c.restorable.ensures.faults c.tell_restorable.ensures

pub returns-in-Seal-clause-seal : goal.returns-in-Seal-clause-seal
returns-in-Seal-clause-seal g c = λ is tells. ends_seal _ _ _ _ c.seal.result (c.seal.ensures.text tells) c.seal.ensures.filestore c.seal.ensures.no_copy c.seal.ensures.faults c.tell_seal.ensures
