pub mod Laying
pub mod Parts
