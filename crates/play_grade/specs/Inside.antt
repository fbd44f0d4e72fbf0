-- Definitions that only this crate uses.
use Rattle.play_grade.specs.Asked.{lines_left}
use Rattle.play_grade.specs.Grades as grades
use Rattle.play_grade.specs.declared.asked.Asked.{Asked}
use Rattle.play_grade.specs.declared.marker.Standing.{Standing}
use Rattle.play_script.specs.Lines.{Reading, Nothing, TooLong, Faulty, Asks}
use Rattle.play_script.specs.Views.{expected_on}
use Rattle.play_script.specs.declared.line.Kind.{Kind}
use Rattle.play_script.specs.declared.line.Kind.TheVariants as kind

abbrev pub standing_of : Standing → grades.Standing
standing_of s = record { number = s.number; marks = s.marks; left = lines_left s.left }

-- a line of this kind
abbrev pub is_asked : Kind → Asked → Reading
is_asked kind.Nothing a = Nothing
is_asked kind.TooLong a = TooLong
is_asked (kind.Faulty error) a = Faulty error
is_asked kind.Asks a = Asks a.line.shown a.plain (expected_on a.line)
