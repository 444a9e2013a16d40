use Rattle.std.proofs.Common.{Bool, ap, sym, ◌∙◌}
use Rattle.std.specs.Prelude.{◌&&◌, nat_eq}
use Rattle.g_name.proofs.ShortLemmas.{same_texts}
use Rattle.g_name.proofs.short.ShortPartialEq.eq.Goals as goal

pub returns-then-eq : goal.returns-then-eq
returns-then-eq g c =
    ap (λ (same : Bool). same && nat_eq c.self.inside.len c.other.inside.len) (sym c.if-eq.true)
    ∙ same_texts g.row.N _ _ _ _ _ _ c.eq.result c.self.invariant c.other.invariant c.self.view_is c.other.view_is c.eq.ensures

pub returns-else-eq : goal.returns-else-eq
returns-else-eq g c =
    c.if-eq.false ∙ ap (λ (same : Bool). same && nat_eq c.self.inside.len c.other.inside.len) (sym c.if-eq.false)
    ∙ same_texts g.row.N _ _ _ _ _ _ c.eq.result c.self.invariant c.other.invariant c.self.view_is c.other.view_is c.eq.ensures
