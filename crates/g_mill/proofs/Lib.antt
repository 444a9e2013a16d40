pub mod LineLaws
pub mod LoadingLaws
pub mod MachineLaws
pub mod RunningLaws
pub mod StepLaws
