pub mod Pair
pub mod PairShows
pub mod Command
pub mod CommandShows
pub mod LinkShows
pub mod TestShows
