pub mod Left
pub mod Printed
pub mod Streams
pub mod Serves
pub mod Inside
