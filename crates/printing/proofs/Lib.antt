pub mod Digits
pub mod Laying
