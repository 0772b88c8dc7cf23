mod Written
mod Refused
