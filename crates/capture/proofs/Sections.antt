-- How blocks are read.
use Rattle.std.proofs.Common.{◌≡◌, ◌⊎◌, ℕ, ◌+◌, ◌<◌, ◌≤◌, ◌^◌, min, List, [], ◌∷◌, ◌++◌, length, Option, Some, None, Ok, Err, refl, sym, ap, subst, ◌∙◌, append_assoc, append-nil, ◌-◌, arith, inl, inr}
use Rattle.std.proofs.lemmas.Bool.{cases_lt}
use Rattle.std.proofs.lemmas.List.{length-append}
use Rattle.std.specs.Io.KnownBytes.{IsAtEnd}
use Rattle.capture.specs.declared.pcap.header.Order.{Order}
use Rattle.capture.proofs.Heads.{head_stays}
use Rattle.capture.specs.Blocks.{Part, block_bytes, head_of, next_of}
use Rattle.capture.proofs.Filling.{fills_after, fills_none, fills_then}
use Rattle.capture.specs.Feeds.{Fills}
use Rattle.capture.proofs.Placed.{all_of_it}
use Rattle.capture.specs.Packets.{IsFirst, Known, Takes, packet_found, taken}
use Rattle.capture.specs.declared.blocks.Found.{Found}
use Rattle.capture.specs.Steps.{BlockLoads, BlockReads, BlocksRead, IsBlockRead, IsLong, IsTaken, Passed, Passes, blocks_bytes, further}
use Rattle.capture.specs.declared.fault.FaultAt.{FaultAt}
use Rattle.capture.specs.declared.section.Step.TheVariants as steps

-- a head was read, and then the number of bytes that it gives, or all that are left
pub block_loaded : (o : Option Order) (old mid new : Option (List ℕ)) (held first buffer : List ℕ) (p : Order) (n : ℕ)
    → Fills old held mid first → Fills mid first new buffer → 12 ≤ length first → head_of o first ≡ Ok (p, n)
    → length buffer ≤ n → (length buffer < n → IsAtEnd new) → BlockLoads o old held new buffer (Ok tt)
block_loaded o old mid new held first buffer p n f g le head most ended =
    let long = ap length g.after ∙ length-append first g.more in
    let stays : head_of o buffer ≡ Ok (p, n) = ap (head_of o) g.after ∙ head_stays o first g.more le ∙ head in
    (fills_then old mid new held first buffer f g, inr (p, n, stays, omega (arith, le, long), most, ended))

pub block_ended : (o : Option Order) (buffer : List ℕ) (ended : Type 0) → IsBlockRead o buffer ended → buffer ≡ [] →
    ended
block_ended o buffer ended read none =
    elim read [
      | inl h ↦ h.1
      | inr h ↦ absurd (let len = ap length none in let le = h.3 in omega (arith, le, len))
    ]

-- one more block
passes_more : (k : Known) (bs : List Part) (mid : Known) (b : Part) (new : Known) → Passes k bs mid
    → IsTaken mid b new None → Passes k (bs ++ b ∷ []) new
passes_more k [] mid b new e t =
    (new, subst (λ (m : Known). IsTaken m b new None) e t, refl)
passes_more k (c ∷ bs) mid b new p t = (p.0, p.1, passes_more p.0 bs mid b new p.2 t)

bytes_more : (bs : List Part) (b : Part) → blocks_bytes (bs ++ b ∷ []) ≡ blocks_bytes bs ++ block_bytes b
bytes_more [] b = append-nil (block_bytes b)
bytes_more (c ∷ bs) b =
    ap (λ (xs : List ℕ). block_bytes c ++ xs) (bytes_more bs b)
    ∙ sym (append_assoc (block_bytes c) (blocks_bytes bs) (block_bytes b))

pub passed_none : (k : Known) (offset : ℕ) (old : Option (List ℕ)) (held : List ℕ) → offset < 2 ^ 64
    → Passed k offset old held k offset old held
passed_none k offset old held lt = record {
  blocks = [];
  pass = refl;
  read = fills_none old held;
  offset_is = omega (arith, lt);
}

-- what follows the blocks that were skipped
passed_then : (k : Known) (offset : ℕ) (old : Option (List ℕ)) (held : List ℕ) (mid : Known) (at : ℕ)
    (now new : Option (List ℕ)) (buffer filled : List ℕ) → Passed k offset old held mid at now buffer
    → Fills now buffer new filled → Passed k offset old held mid at new filled
passed_then k offset old held mid at now new buffer filled p f = record {
  blocks = p.blocks;
  pass = p.pass;
  read = fills_after old now new held (blocks_bytes p.blocks) buffer filled p.read f;
  offset_is = p.offset_is;
}

-- one more block was skipped
passed_more : (k : Known) (offset : ℕ) (old : Option (List ℕ)) (held : List ℕ) (mid new : Known) (at : ℕ)
    (now : Option (List ℕ)) (buffer : List ℕ) (b : Part) → Passed k offset old held mid at now buffer
    → buffer ≡ block_bytes b → IsTaken mid b new None
    → Passed k offset old held new (min (at + length buffer) (2 ^ 64 - 1)) now []
passed_more k offset old held mid new at now buffer b p is t =
    let more : blocks_bytes (p.blocks ++ b ∷ []) ≡ blocks_bytes p.blocks ++ buffer =
    bytes_more p.blocks b ∙ ap (λ (xs : List ℕ). blocks_bytes p.blocks ++ xs) (sym is) in
    let long = ap length more ∙ length-append (blocks_bytes p.blocks) buffer in
    let at_is = p.offset_is in
    record {
      blocks = p.blocks ++ b ∷ [];
      pass = passes_more k p.blocks mid b new p.pass t;
      read = subst (λ (xs : List ℕ). Fills old held now xs) (sym (append-nil _ ∙ more)) p.read;
      offset_is = omega (arith, at_is, long);
    }

-- a block was read, with this result
pub block_read : (k new : Known) (old now : Option (List ℕ)) (held buffer bytes : List ℕ) (found : Option Found)
    → bytes ≡ buffer → Fills old held now buffer → IsBlockRead k.order buffer (IsAtEnd now) → Takes k bytes (Ok found)
    new
    → (b : Part) × Fills old held now buffer × (buffer ≡ block_bytes b) × IsTaken k b new (packet_found buffer found)
block_read k new old now held buffer bytes found e f read t =
    let first = subst (λ (xs : List ℕ). IsFirst k.order xs t.0) e t.1 in
    let all = all_of_it k.order buffer (IsAtEnd now) t.0 first read in (
      t.0,
      f,
      all,
      (
        subst (λ (xs : List ℕ). next_of k.order xs ≡ Ok t.0) all first.next,
        subst (λ (xs : List ℕ). taken k t.0 ≡ Ok (new, packet_found xs found)) e t.2,
      ),
    )

-- what was read isn't a block, or its body has a fault
pub block_refused : (k new : Known) (old now : Option (List ℕ)) (held buffer bytes : List ℕ) (s : FaultAt)
    → bytes ≡ buffer
    → Fills old held now buffer → IsBlockRead k.order buffer (IsAtEnd now) → Takes k bytes (Err s) new
    → BlockReads k old held new now buffer (Err s)
block_refused k new old now held buffer bytes s e f read t =
    let long : IsAtEnd now ⊎ IsLong k.order buffer =
    elim read [
      | inl h ↦ inl h.1
      | inr h ↦
          elim (cases_lt (length buffer) h.1) [
            | inl lt ↦ inl (h.5 lt)
            | inr le ↦ inr (h.0, h.1, h.2, le)
          ]
    ] in
    elim (subst (λ (xs : List ℕ). Takes k xs (Err s) new) e t) [
      | inl h ↦ (f, inl (inr (inr (inr (h.0, h.1, long, h.2)))))
      | inr h ↦
          let all = all_of_it k.order buffer (IsAtEnd now) h.0 h.1 read in
          (f, inr (h.0, all, h.1.next, h.2, h.3))
    ]

-- ---- the next packet

pub none_is_left : (k : Known) (offset : ℕ) (old : Option (List ℕ)) (held : List ℕ) (mid new : Known) (at : ℕ)
    (now then : Option (List ℕ)) (buffer filled : List ℕ) → Passed k offset old held mid at now buffer
    → BlockReads mid now buffer new then filled (Ok steps.Ended)
    → BlocksRead k offset old held new at then filled (Ok None)
none_is_left k offset old held mid new at now then buffer filled p b = (
  subst (λ (m : Known). Passed k offset old held m at then filled) (sym b.3)
      (passed_then k offset old held mid at now then buffer filled p b.0),
  b.1,
  b.2,
)

pub packet_read : (k : Known) (offset : ℕ) (old : Option (List ℕ)) (held : List ℕ) (mid new : Known) (at : ℕ)
    (now then : Option (List ℕ)) (buffer filled : List ℕ) (f : Found) → Passed k offset old held mid at now buffer
    → BlockReads mid now buffer new then filled (Ok (steps.Packet f))
    → BlocksRead k offset old held new at then filled (Ok (Some f))
packet_read k offset old held mid new at now then buffer filled f p b =
    (mid, b.0, passed_then k offset old held mid at now then buffer filled p b.1, b.2, b.3)

pub refused_then : (k : Known) (offset : ℕ) (old : Option (List ℕ)) (held : List ℕ) (mid new : Known) (at : ℕ)
    (now then : Option (List ℕ)) (buffer filled : List ℕ) (s : FaultAt) → Passed k offset old held mid at now buffer
    → BlockReads mid now buffer new then filled (Err s) → BlocksRead k offset old held new at then filled (Err s)
refused_then k offset old held mid new at now then buffer filled s p b = (
  mid,
  passed_then k offset old held mid at now then buffer filled p b.0,
  elim b.1 [ inl h ↦ inl h | inr h ↦ inr (inl h) ],
)

passed_one : (k : Known) (offset : ℕ) (old : Option (List ℕ)) (held : List ℕ) (mid new : Known) (at : ℕ)
    (now then : Option (List ℕ)) (buffer filled : List ℕ) → Passed k offset old held mid at now buffer
    → BlockReads mid now buffer new then filled (Ok steps.Passed)
    → Passed k offset old held new (further at filled) then []
passed_one k offset old held mid new at now then buffer filled p b =
    passed_more k offset old held mid new at then filled b.0
    (passed_then k offset old held mid at now then buffer filled p b.1) b.2 b.3

pub passed_next : (k : Known) (offset : ℕ) (old : Option (List ℕ)) (held : List ℕ) (mid new : Known) (at next : ℕ)
    (now then : Option (List ℕ)) (buffer filled cleared : List ℕ) → Passed k offset old held mid at now buffer
    → BlockReads mid now buffer new then filled (Ok steps.Passed) → next ≡ further at filled → cleared ≡ []
    → Passed k offset old held new next then cleared
passed_next k offset old held mid new at next now then buffer filled cleared p b is none =
    subst (λ (xs : List ℕ). Passed k offset old held new next then xs) (sym none)
    (subst (λ (n : ℕ). Passed k offset old held new n then []) (sym is)
    (passed_one k offset old held mid new at now then buffer filled p b))
