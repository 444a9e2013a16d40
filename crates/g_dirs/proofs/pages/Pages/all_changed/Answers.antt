use Rattle.std.proofs.Common.{◌∙◌, ap, refl, sym, subst}
use Rattle.g_dirs.specs.Pages.{Covers, Remembered, Remembers, all_marked}
use Rattle.g_dirs.proofs.PageLemmas.{covers_all, remembers_same, same_pages}
use Rattle.g_dirs.proofs.pages.Pages.all_changed.Goals as goal

pub returns-clause-marks : goal.returns-clause-marks
returns-clause-marks c = same_pages _ _ _ _ _ _ _ _ refl refl c.set_all.ensures c.set_all-2.ensures ∙ ap all_marked c.self.view_is

pub returns-clause-covers : goal.returns-clause-covers
returns-clause-covers c side d =
    subst (λ (p : Remembered). Covers d side p) (sym (same_pages _ _ _ _ _ _ _ _ refl refl c.set_all.ensures c.set_all-2.ensures ∙ ap all_marked c.self.view_is))
    (covers_all side d c.args.self.now)

pub returns-clause-remembers : goal.returns-clause-remembers
returns-clause-remembers c blocks was =
    subst (λ (p : Remembered). Remembers p blocks) (sym (same_pages _ _ _ _ _ _ _ _ refl refl c.set_all.ensures c.set_all-2.ensures ∙ ap all_marked c.self.view_is))
    (remembers_same c.args.self.now (all_marked c.args.self.now) blocks (record { a = refl; b = refl }) was)
