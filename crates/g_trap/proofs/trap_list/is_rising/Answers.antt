-- The closure compares the user numbers of two pairs.
use Rattle.std.proofs.Common.{rules, nat_lt}
use Rattle.std.proofs.lemmas.List.Sorted.{answers_always}
use Rattle.g_trap.proofs.Places.{rising_answer}
use Rattle.g_trap.proofs.trap_list.is_rising.Goals as goal

pub returns : goal.returns
returns c =
    let by_number = c.is_sorted_by.ensures.cases (λ p q. nat_lt p.0 q.0) (answers_always _ _ _ (λ f a r g called. search rules)) in
    rising_answer _ _ by_number
