use Rattle.std.proofs.Common.{Some, sym, ◌∙◌, ap}
use Rattle.std.proofs.lemmas.Option.{same_Some}
use Rattle.g_name.specs.Names.{Name, full_name}
use Rattle.g_seal.proofs.FieldLemmas.{not_none}
use Rattle.g_seal.proofs.line_reader.full_in.Goals as goal

pub returns-in_default-clause-read : goal.returns-in_default-clause-read
returns-in_default-clause-read c = λ full valid is. absurd (c.in_default.ensures.read (full_name full) valid is)

pub returns-in_err-path-2-clause-read : goal.returns-in_err-path-2-clause-read
returns-in_err-path-2-clause-read c = λ full valid is.
    absurd (not_none _ full.generation c.in_err-path-2.was (ap (λ (n : Name). n.generation) (c.in-Ok.ensures.read (full_name full) valid is)))

pub returns-in_err-path-3-clause-read : goal.returns-in_err-path-3-clause-read
returns-in_err-path-3-clause-read c = λ full valid is.
    absurd (not_none _ full.lang c.in_err-path-3.was (ap (λ (n : Name). n.lang) (c.in-Ok.ensures.read (full_name full) valid is)))

pub returns-clause-read : goal.returns-clause-read
returns-clause-read c = λ full valid is.
    let same = c.in-Ok.ensures.read (full_name full) valid is in
    let user = same_Some c.in_ok-path.field-0 full.user (sym c.in_ok-path.was ∙ ap (λ (n : Name). n.user) same) in
    let generation = same_Some c.in_ok-path-2.field-0 full.generation (sym c.in_ok-path-2.was ∙ ap (λ (n : Name). n.generation) same) in
    let lang = same_Some c.in_ok-path-3.field-0 full.lang (sym c.in_ok-path-3.was ∙ ap (λ (n : Name). n.lang) same) in
    λ i. Some (record { user = user i; local = (same i).local; generation = generation i; lang = lang i })
