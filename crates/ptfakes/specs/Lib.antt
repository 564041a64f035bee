-- The definitions of this crate: the counter of calls, and the models of the sources and of the sinks of the tests.
pub mod Calls
pub mod FakeSource
pub mod FakeSink
