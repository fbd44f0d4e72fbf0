pub mod Asked
pub mod Answers
pub mod Marks
pub mod Grades
pub mod Lacks
pub mod Blanks
pub mod Verdicts
pub mod Inside
