use Rattle.std.proofs.Common.{◌≡◌, ℕ, List, [], Option, Some, None, refl, sym, ◌∙◌, ap, subst}
use Rattle.g_laws_store.specs.Moving.{DumpsMove}
use Rattle.g_run_model.specs.Devices.{Devices, StandFor}
use Rattle.g_store_meaning.specs.Safety.{AreSafe}
use Rattle.g_console.specs.Transcript.{blank}
use Rattle.g_laws_runs.specs.BeginningAnew.{AreBlank, with_new_disc}
use Rattle.g_run.proofs.OverLemmas.{both_is}
use Rattle.g_run.specs.ScriptEnd.{both}
use Rattle.g_run.specs.declared.status.Status.{Status}
use Rattle.g_tape.specs.Rack.{Rack}
use Rattle.g_ticks.proofs.KeepLemmas.{moves_itself}
use Rattle.g_session.specs.Session.{EndsAnew, EndsSession}
use Rattle.g_session.proofs.LinesLemmas.{anew_same, blank_answers, nothing_anew, nothing_ends, nothing_survives, same_transcript, survives_carried}
use Rattle.g_session.proofs.top.session.Goals as goal

pub returns-in-Ok-clause-answers : goal.returns-in-Ok-clause-answers
returns-in-Ok-clause-answers g c = λ fresh t is s stand.
    c.session_on-status.ensures.answers fresh t is s (subst (λ (d : Devices). StandFor d s) (sym (both_is _ _ _ _ c.in-Ok.ensures.ok.0 c.in-Ok.ensures.ok.1)) stand)

-- nothing was done
pub returns-in-Err-clause-answers : goal.returns-in-Err-clause-answers
returns-in-Err-clause-answers g c = λ fresh t is s stand. blank_answers g.F.Fn c.args.tariff.now g.U.Fn c.args.weigh.now s t (same_transcript t blank (sym is ∙ fresh))

pub returns-in-Err-clause-ends : goal.returns-in-Err-clause-ends
returns-in-Err-clause-ends g c = λ fresh t is s stand.
    subst (λ (k : Status). EndsSession g.F.Fn c.args.tariff.now g.U.Fn c.args.weigh.now k s (both (g.D.Disc.state c.args.disc) (g.T.Tapes.rack c.args.tapes)) (both (g.D.Disc.state c.not_begun.result.disc) (g.T.Tapes.rack c.not_begun.result.tapes)) t
    (g.L.Sink.written c.args.log.now) (g.L.Sink.written c.args.log.now)) (sym (ap (λ f. f.status) c.not_begun.ensures.made))
    (nothing_ends g.F.Fn c.args.tariff.now g.U.Fn c.args.weigh.now s _ _ t (g.L.Sink.written c.args.log.now)
    (both_is _ _ _ _ (ap (λ f. g.D.Disc.state f.disc) c.not_begun.ensures.made ∙ c.in-Err.ensures.err.0) (ap (λ f. g.T.Tapes.rack f.tapes) c.not_begun.ensures.made ∙ c.in-Err.ensures.err.1)) stand
    (same_transcript t blank (sym is ∙ fresh)))

pub returns-in-Err-clause-dumps : goal.returns-in-Err-clause-dumps
returns-in-Err-clause-dumps g c = λ belong.
    subst (λ (r : Rack). DumpsMove (g.T.Tapes.rack c.args.tapes) r) (sym (ap (λ f. g.T.Tapes.rack f.tapes) c.not_begun.ensures.made ∙ c.in-Err.ensures.err.1)) (moves_itself (g.T.Tapes.rack c.args.tapes))

pub returns-in-Err-clause-survives : goal.returns-in-Err-clause-survives
returns-in-Err-clause-survives g c = λ safe fresh t is s stand.
    nothing_survives g.F.Fn c.args.tariff.now g.U.Fn c.args.weigh.now s _ _ t (g.L.Sink.written c.args.log.now)
    (both_is _ _ _ _ (ap (λ f. g.D.Disc.state f.disc) c.not_begun.ensures.made ∙ c.in-Err.ensures.err.0) (ap (λ f. g.T.Tapes.rack f.tapes) c.not_begun.ensures.made ∙ c.in-Err.ensures.err.1)) safe stand
    (same_transcript t blank (sym is ∙ fresh))

pub returns-in-Err-clause-anew : goal.returns-in-Err-clause-anew
returns-in-Err-clause-anew g c = λ fresh t is empty s stand.
    subst (λ (k : Status). EndsAnew g.F.Fn c.args.tariff.now g.U.Fn c.args.weigh.now k s (both (g.D.Disc.state c.args.disc) (g.T.Tapes.rack c.args.tapes)) (both (g.D.Disc.state c.not_begun.result.disc) (g.T.Tapes.rack c.not_begun.result.tapes)) t
    (g.L.Sink.written c.args.log.now) (g.L.Sink.written c.args.log.now)) (sym (ap (λ f. f.status) c.not_begun.ensures.made))
    (nothing_anew g.F.Fn c.args.tariff.now g.U.Fn c.args.weigh.now s _ _ t (g.L.Sink.written c.args.log.now)
    (both_is _ _ _ _ (ap (λ f. g.D.Disc.state f.disc) c.not_begun.ensures.made ∙ c.in-Err.ensures.err.0) (ap (λ f. g.T.Tapes.rack f.tapes) c.not_begun.ensures.made ∙ c.in-Err.ensures.err.1)) empty stand
    (same_transcript t blank (sym is ∙ fresh)))

pub returns-in-Ok-clause-anew : goal.returns-in-Ok-clause-anew
returns-in-Ok-clause-anew g c = λ fresh t is empty s stand.
    let was = both_is _ _ _ _ c.in-Ok.ensures.ok.0 c.in-Ok.ensures.ok.1 in
    anew_same g.F.Fn c.args.tariff.now g.U.Fn c.args.weigh.now _ s _ _ _ _ t _ _ was (both_is _ _ _ _ c.unboxed-disc.ensures.disc c.unboxed-disc.ensures.tapes)
    (c.session_on-status.ensures.anew fresh t is (subst (λ (d : Devices). AreBlank d) (sym was) empty) s (subst (λ (d : Devices). StandFor (with_new_disc d) s) (sym was) stand))

pub returns-in-Ok-clause-survives : goal.returns-in-Ok-clause-survives
returns-in-Ok-clause-survives g c = λ safe fresh t is s stand.
    let was = both_is _ _ _ _ c.in-Ok.ensures.ok.0 c.in-Ok.ensures.ok.1 in
    survives_carried g.F.Fn c.args.tariff.now g.U.Fn c.args.weigh.now s _ _ _ _ t _ _ was (both_is _ _ _ _ c.unboxed-disc.ensures.disc c.unboxed-disc.ensures.tapes)
    (c.session_on-status.ensures.survives (subst (λ (d : Devices). AreSafe d.disc d.rack) (sym was) safe) fresh t is s (subst (λ (d : Devices). StandFor d s) (sym was) stand))
