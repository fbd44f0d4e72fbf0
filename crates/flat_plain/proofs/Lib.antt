mod Filling
mod Cutting
mod Heading
mod Placing
mod Weighing
