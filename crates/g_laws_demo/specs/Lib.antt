pub mod GoodScript
