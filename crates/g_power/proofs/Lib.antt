mod RackLemmas
mod ReelLemmas
