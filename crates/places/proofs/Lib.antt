pub mod OneComparison
