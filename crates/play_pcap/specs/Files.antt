-- Captures by the names of their files (this project's own).
use Rattle.std.specs.Prelude.{◌≡◌, ◌⊎◌, ℕ, List, Result, Err}
use Rattle.flat_model.specs.Scripts.Grammar.{IsHex}
use Rattle.play_pcap.specs.Acts.{Act}
use Rattle.play_pcap.specs.Events.{PlaysFile}
use Rattle.play_pcap.specs.declared.ask.Details.{Details}
use Rattle.play_pcap.specs.declared.fault.CaptureFault.{CaptureFault}
use Rattle.play_pcap.specs.declared.fault.CaptureFault.TheVariants.{TooFew, Bad}
use Rattle.play_pcap.specs.declared.moves.Tally.{Tally}

-- The name for a word of a plain line: the bytes that its digits encode, as those of a text, or otherwise the word
-- itself.
abbrev pub IsName : List ℕ → List ℕ → Type 0
IsName word name = IsHex word name ⊎ (((bytes : List ℕ) → IsHex word bytes → ⊥) × (name ≡ word))

-- there are no files
abbrev pub no_folder : List ℕ → List ℕ → Type 0
no_folder name file = ⊥

-- the file that a word names may have these bytes, if `has` says which bytes the file of a name may have
abbrev pub IsAvailable : (List ℕ → List ℕ → Type 0) → List ℕ → List ℕ → Type 0
IsAvailable has word file = (name : List ℕ) × IsName word name × has name file

-- the file can't be read into memory
abbrev pub IsUnread : CaptureFault → Type 0
IsUnread TooFew = ⊥
IsUnread (Bad fault) = ⊥
IsUnread _ = Unit {0}

-- The effect of a line that plays the capture in the file that a word names: that of playing the file, or none if the
-- file can't be read.
abbrev pub PlaysNamed : {S : Type 0} → (List ℕ → List ℕ → Type 0) → (S → Act → S → Type 0) → Details → List ℕ
    → Result Tally CaptureFault → S → S → Type 0
PlaysNamed has go d word outcome old new =
    ((file : List ℕ) × IsAvailable has word file × PlaysFile go d file outcome old new)
    ⊎ ((fault : CaptureFault) × IsUnread fault × (outcome ≡ Err fault) × (new ≡ old))
