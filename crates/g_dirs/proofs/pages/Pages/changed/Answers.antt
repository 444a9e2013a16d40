use Rattle.std.proofs.Common.{◌∙◌, ap, refl, sym, subst}
use Rattle.g_dirs.specs.Pages.{Covers, Remembered, Remembers, marked}
use Rattle.g_dirs.proofs.PageLemmas.{covers_marked, remembers_same, same_pages}
use Rattle.g_dirs.proofs.pages.Pages.changed.Goals as goal

pub returns-clause-marks : goal.returns-clause-marks
returns-clause-marks c = same_pages _ _ _ _ _ _ _ _ refl refl c.set.ensures c.set-2.ensures ∙ ap (marked c.args.k) c.self.view_is

pub returns-clause-covers : goal.returns-clause-covers
returns-clause-covers c side d e covers same =
    subst (λ (p : Remembered). Covers e side p) (sym (same_pages _ _ _ _ _ _ _ _ refl refl c.set.ensures c.set-2.ensures ∙ ap (marked c.args.k) c.self.view_is))
    (covers_marked side c.args.k d e c.args.self.now covers same)

pub returns-clause-remembers : goal.returns-clause-remembers
returns-clause-remembers c blocks was =
    subst (λ (p : Remembered). Remembers p blocks) (sym (same_pages _ _ _ _ _ _ _ _ refl refl c.set.ensures c.set-2.ensures ∙ ap (marked c.args.k) c.self.view_is))
    (remembers_same c.args.self.now (marked c.args.k c.args.self.now) blocks (record { a = refl; b = refl }) was)
