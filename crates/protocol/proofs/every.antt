pub mod Whole
pub mod Logs
pub mod Records
pub mod Told
pub mod Sendings
pub mod Strikes
