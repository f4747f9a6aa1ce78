pub mod Splits
pub mod Numbers
pub mod FormatsAgain
pub mod DumpsAgain
pub mod DumpLoop
pub mod IdsAgain
