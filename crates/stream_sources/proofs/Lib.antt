pub mod OneStream
