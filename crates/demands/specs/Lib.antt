-- The customer's three conditions: the page, and what a call is; what the requests claim of calls.
pub mod Calls
pub mod Demands
pub mod Requests
