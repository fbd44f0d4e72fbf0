-- The law of a whole script (this project's own).
use Rattle.std.specs.Prelude.{◌≡◌, ℕ, List, [], ◌∷◌, ◌++◌}
use Rattle.flat_model.specs.Machine.Event.{Receive, Received}
use Rattle.flat_model.specs.Machine.Ledger.{exact_ledger}
use Rattle.flat_model.specs.Runs.Run.{Turn}
use Rattle.flat_model.specs.declared.address.Addr.{Addr}
use Rattle.flat_model.specs.declared.config.Config.{Config}
use Rattle.flat_wire.specs.Wire.{WasSent}
use Rattle.net_stack.specs.Stack.{StackView, state_of}
use Rattle.segment.specs.Law.{Act, Seeds, AreActs, AreOnSegment, turns_of}
use Rattle.segment.specs.Segment.{SegmentView, no_hosts}
use Rattle.play_text.specs.declared.form.Form.{Form}
use Rattle.play_wire.specs.Reports.{WirePlay, ReportsBy, wire_started}
use Rattle.play_wire.specs.declared.hosts.TheConstants.{PACKETS}

-- the output for these lines is this text, by these acts, one line after another
abbrev pub AreReportedBy : WirePlay → List (List ℕ) → List Act → List ℕ → WirePlay → Type 0
AreReportedBy old [] acts printed new = (acts ≡ []) × (printed ≡ []) × (new ≡ old)
AreReportedBy old (line ∷ lines) acts printed new =
    (mid : WirePlay) × (first rest : List Act) × (text more : List ℕ)
    × ReportsBy old line first text mid × AreReportedBy mid lines rest more new
    × (acts ≡ first ++ rest) × (printed ≡ text ++ more)

-- The law of these acts: for each two hosts, if the first has sent fewer than 65,536 times, and no line `rx` gave the
-- second a packet with the first's address as its source, then each datagram that `recvfrom` of the second returns with
-- that address as the sender's was sent in this form by the first.
abbrev pub IsLawful : List Act → SegmentView → Type 0
IsLawful acts last =
    (i j : ℕ) (first second : Config) (s t : StackView) (before after : List Turn) (fd most : ℕ) (sender : Addr)
    (bytes : List ℕ)
    → AreOnSegment PACKETS i j first second s t acts last
    → turns_of j acts ≡ before ++ record { event = Receive fd most; reply = Received sender bytes } ∷ after
    → sender.ip ≡ first.addr
    → WasSent exact_ledger exact_ledger first second (turns_of i acts) before (state_of s) fd most sender bytes

-- The output for the lines of a script that begins with this seed is caused by acts, line by line. After the
-- start of the generator, they lead from a segment without hosts to this one, and the law holds for them.
pub record IsPlayed (seed : ℕ) (form : Form) (name : List ℕ) (lines : List (List ℕ)) (printed : List ℕ)
    (new : WirePlay) : Type 0 where
  pub acts : List Act
  pub reported : AreReportedBy (wire_started seed form name) lines acts printed new
  pub done : AreActs (no_hosts PACKETS) (Seeds seed ∷ acts) new.segment
  pub lawful : IsLawful (Seeds seed ∷ acts) new.segment
