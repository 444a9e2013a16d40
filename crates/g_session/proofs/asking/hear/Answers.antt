use Rattle.std.proofs.Common.{◌≡◌, ◌≢◌, ℕ, List, Ok, All, take, sym, ◌∙◌, ap, subst}
use Rattle.std.proofs.lemmas.List.Elements.{All-take}
use Rattle.g_typing.specs.Reader.{Replies}
use Rattle.g_session.proofs.AsTypedLemmas.{as_typed}
use Rattle.g_session.proofs.asking.hear.Goals as goal

-- as much of the line as fits the buffer was read
pub returns-in-Ok-clause-heard : goal.returns-in-Ok-clause-heard
returns-in-Ok-clause-heard g c =
    let l = c.in-Line.ensures.line.1 in
    let short : take c.in-Line.length c.request.new.into ≡ take 161 l.line = l.bytes ∙ ap (λ (n : ℕ). take n l.line) c.request.auto.into in
    let one : All (λ byte. byte ≢ 10) (take c.in-Line.length c.request.new.into) = subst (λ (b : List ℕ). All (λ byte. byte ≢ 10) b) (sym short) (All-take (λ byte. byte ≢ 10) 161 l.line l.one_line) in (
      l.line,
      l.continues,
      λ lines holds.
          as_typed c.args.reader.now.place c.args.number c.args.count lines l.line (Ok c.in-Ok.reply) c.reply.new.self
          (subst (λ (b : List ℕ). Replies c.args.reader.now.place c.args.number c.args.count lines b (Ok c.in-Ok.reply) c.reply.new.self) short (c.in-Ok.ensures lines one holds)),
    )
