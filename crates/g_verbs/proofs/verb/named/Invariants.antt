use Rattle.std.proofs.Common.{◌≡◌, drop, find}
use Rattle.g_name.specs.Order.{same_text}
use Rattle.g_verbs.specs.Verbs.{verb_word}
use Rattle.g_verbs.proofs.verb.named.Given as goal

abbrev pub invariant-loop-verb : goal.invariant-loop-verb
invariant-loop-verb l =
    find (λ verb. same_text (verb_word verb) l.name) l.verbs ≡ find (λ verb. same_text (verb_word verb) l.name) (drop l.verb-index l.verbs)
