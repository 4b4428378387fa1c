mod Steps
mod Run
