mod AlikeReels
mod ConsoleLemmas
