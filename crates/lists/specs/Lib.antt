-- The definitions, in the order to read: a choice by a test, tests of numbers, lists with a fixed number of places, i32 values, and refusals in their order.
pub mod Choice
pub mod Below
pub mod Places
pub mod I32
pub mod Refusals
