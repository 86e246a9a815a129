pub mod Growth
pub mod Lists
pub mod PassSteps
pub mod QueueSteps
pub mod SplitViews
