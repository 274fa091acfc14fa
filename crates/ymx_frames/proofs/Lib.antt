pub mod Previews
pub mod Joined
pub mod Printed
pub mod Ends
pub mod OneEnd
pub mod Rounds
