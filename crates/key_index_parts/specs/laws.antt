pub mod GatheredLaws
pub mod PairLaws
pub mod PrefixLaws
pub mod RangeLaws
pub mod StandingLaws
