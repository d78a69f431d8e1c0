pub mod Quorums
