-- What a program is given as arguments.
pub mod Numbers
