mod AnsweredLemmas
mod DownLemmas
mod NextLemmas
