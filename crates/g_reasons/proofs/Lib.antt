mod ReasonLemmas
