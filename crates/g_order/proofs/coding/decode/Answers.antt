use Rattle.std.proofs.Common.{◌≡◌, sym, ap, ◌∙◌}
use Rattle.std.specs.Prelude.{Option, Some, None, MatchOption, IsOkAnd, ok_or}
use Rattle.g_order.specs.Order.{Fields, decoded}
use Rattle.g_order.specs.Coding.{fields}
use Rattle.g_order.specs.declared.orders.Order.{Order}
use Rattle.g_order.specs.declared.coding.Illegal.{Illegal}
use Rattle.g_order.proofs.CodingLaws.{decoded-word_of}
use Rattle.g_order.proofs.coding.decode.Goals as goal

-- what was read is the one order that the word decodes to
found : (got : Option Order) (d : Option Fields) (o : Fields) (i : Illegal) → MatchOption got (d ≡ None) (λ r. d ≡ Some (fields r)) → d ≡ Some o → IsOkAnd (ok_or got i) (λ r. fields r ≡ o)
found None d o i h e = absurd cc
found (Some r) d o i h e = cc

pub returns-clause-found : goal.returns-clause-found
returns-clause-found c = λ o h e.
    let is : decoded c.args.word ≡ Some o = ap decoded (sym e) ∙ decoded-word_of o h in
    rw c.ok_or.ensures.value (found c.read.result (decoded c.args.word) o _ c.read.ensures is)
