pub mod InvocationLemmas
