mod Boxes
mod Answered
mod LinkBoxes
mod EtherAnswered
mod Marks
