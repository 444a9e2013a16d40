pub mod PlainHolding
