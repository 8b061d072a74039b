mod Answering
mod Characters
mod Loading
mod Passing
