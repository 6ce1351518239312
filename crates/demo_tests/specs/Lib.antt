pub mod Draws
pub mod FilledLinks
pub mod TestCounting
pub mod Tallies
pub mod DemoText
pub mod CycleTexts
pub mod Filled
