pub mod OneCancelled
pub mod KeptFacts
pub mod FaultFacts
pub mod RestFacts
pub mod Steps
pub mod OneLine
pub mod OneScript
pub mod ReadFacts
