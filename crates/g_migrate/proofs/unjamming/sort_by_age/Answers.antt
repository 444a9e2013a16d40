use Rattle.std.proofs.Common.{rules}
use Rattle.std.proofs.lemmas.List.Sorted.{IsNonDecreasingBy-from_sort_by_key}
use Rattle.g_migrate.specs.declared.candidates.Candidate.{Candidate}
use Rattle.g_migrate.proofs.unjamming.sort_by_age.Goals as goal

pub returns-clause-order : goal.returns-clause-order
returns-clause-order c = IsNonDecreasingBy-from_sort_by_key (λ (p : Candidate). p.stamp) _ c.sort_unstable_by_key.ensures.sorted (λ a r q k. search rules)
