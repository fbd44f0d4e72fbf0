-- The output for a capture that was played (this project's own).
use Rattle.std.specs.Prelude.{ℕ, List, [], ◌++◌, codes, decimal, Result, Ok, Err}
use Rattle.capture.specs.declared.pcap.fault.Why.{Why}
use Rattle.capture.specs.declared.pcap.fault.Why.TheVariants.{HeaderCut, BadMagic, BadVersion, BadLinkType, RecordCut, BytesCut}
use Rattle.play_pcap.specs.declared.fault.CaptureFault.{CaptureFault}
use Rattle.play_pcap.specs.declared.fault.CaptureFault.TheVariants.{NotOpened, NotRead, TooLong, Memory, TooFew, Bad}
use Rattle.play_pcap.specs.declared.moves.Tally.{Tally}

abbrev pub why_words : Why → List ℕ
why_words HeaderCut = codes "file header cut short"
why_words BadMagic = codes "bad magic number"
why_words BadVersion = codes "unknown version"
why_words (BadLinkType number) = codes "unknown link type"
why_words RecordCut = codes "record header cut short"
why_words BytesCut = codes "record cut short"

abbrev pub capture_fault_words : CaptureFault → List ℕ
capture_fault_words NotOpened = codes "can't be opened"
capture_fault_words NotRead = codes "reading failed"
capture_fault_words TooLong = codes "longer than 16777216 bytes"
capture_fault_words Memory = codes "no memory"
capture_fault_words TooFew = codes "too few records"
capture_fault_words (Bad fault) = why_words fault.why

-- the offset of the fault in a bad file
abbrev pub fault_place : CaptureFault → List ℕ
fault_place (Bad fault) = codes " at byte " ++ decimal fault.offset
fault_place _ = []

-- the output for a capture that was played, or that couldn't be
abbrev pub capture_text : Result Tally CaptureFault → List ℕ
capture_text (Ok t) =
    codes "ok " ++ decimal t.packets ++ codes " packets, " ++ decimal t.others ++ codes " others, "
    ++ decimal t.ticks ++ codes " ticks"
capture_text (Err fault) = codes "error " ++ capture_fault_words fault ++ fault_place fault
