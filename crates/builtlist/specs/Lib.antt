pub mod BuiltList
