-- The bench as a run that takes its input byte by byte, and which run a state and its buffers stand for.
pub mod Session
pub mod Runs
