pub mod ForestLaws
pub mod RootFlagLaws
pub mod GatherLaws
pub mod NeedsJoinLaws
pub mod RegionLaws
pub mod ChainLaws
pub mod CompleteLaws
