pub mod Forks
