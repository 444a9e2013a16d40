mod DemoLemmas
mod RuleLemmas
mod SafeLemmas
mod SessionRuleLemmas
mod WordLemmas
