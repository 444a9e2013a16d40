pub mod Exit
pub mod Rules
pub mod RunsOn
pub mod SessionOn
