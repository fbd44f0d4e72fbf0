-- The messages for errors in a line (this project's own).
use Rattle.std.specs.Prelude.{ℕ, List, codes}
use Rattle.play_line.specs.declared.fault.Fault.{Fault}
use Rattle.play_line.specs.declared.fault.Fault.TheVariants.{NotHex, OddDigits, NoBytes, NotJoined, EmptyText, UnendedText, UnknownEscape, NoCount, ZeroCount, TooManyBytes, TooLong, NoEnd, NoAddress, NoPort, NoArrow, NoId, NoTtl, NoOffset, NoMore, NoSize, NotUpTo15, NotUpTo255, NotUpTo65535, UnknownWord, GivenTwice, PastEnd, TooLarge, NoTime}

abbrev pub misread_words : Fault → List ℕ
misread_words NotHex = codes "expected a hex digit (put text in quotes: \"hi\")"
misread_words OddDigits = codes "odd number of hex digits"
misread_words NoBytes = codes "missing bytes"
misread_words NotJoined = codes "expected `+` or a blank"
misread_words EmptyText = codes "empty text (for no bytes, write `-`)"
misread_words UnendedText = codes "missing closing quote"
misread_words UnknownEscape = codes "unknown escape"
misread_words NoCount = codes "missing number"
misread_words ZeroCount = codes "the number must be at least 1"
misread_words TooManyBytes = codes "more than 65535 bytes"
misread_words TooLong = codes "the line is too long"
misread_words NoEnd = codes "expected an address and port, such as 10.0.0.2:7"
misread_words NoAddress = codes "expected an address, such as 10.0.0.2"
misread_words NoPort = codes "expected a port, 0 to 65535"
misread_words NoArrow = codes "expected `>`"
misread_words NoId = codes "expected an identification, 0 to 65535"
misread_words NoTtl = codes "expected a time to live, 0 to 255"
misread_words NoOffset = codes "expected a multiple of 8, 0 to 65528"
misread_words NoMore = codes "expected `more` or `last`"
misread_words NoSize = codes "expected a size, 0 to 65515"
misread_words NotUpTo15 = codes "expected a number, 0 to 15"
misread_words NotUpTo255 = codes "expected a number, 0 to 255"
misread_words NotUpTo65535 = codes "expected a number, 0 to 65535"
misread_words UnknownWord = codes "unknown word"
misread_words GivenTwice = codes "given twice"
misread_words PastEnd = codes "past the end of the datagram"
misread_words TooLarge = codes "too many bytes for a packet"
misread_words NoTime = codes "expected a time (+0.5s, +2s), then a line"
