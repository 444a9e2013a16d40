mod ForkLemmas
mod HeldLemmas
mod MountLemmas
