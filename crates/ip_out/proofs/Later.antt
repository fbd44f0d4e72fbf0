-- A later fragment: an mbuf with a header, and a copy after it.
use Rattle.std.proofs.Common.{◌≡◌, ℕ, ◌+◌, ◌<◌, ◌≤◌, Bool, true, false, List, ◌∷◌, length, take, drop, refl, sym, ap, ◌∙◌, subst, arith, None}
use Rattle.std.proofs.lemmas.List.{length-take, length-drop}
use Rattle.std.proofs.lemmas.Bool.{ne_eqb}
use Rattle.mbuf_chain.specs.Chain.{Entry, PoolView, Adds, alone, chain_of, flat_bytes, string, without}
use Rattle.mbuf_chain.specs.Steps.{joined, one_mbuf}
use Rattle.mbuf_chain.proofs.Laws.Steps.{adds_undone}
use Rattle.chain_ops.specs.Makes.{Makes}
use Rattle.chain_ops.specs.Copies.{copied, copy_header}
use Rattle.chain_ops.proofs.Laws.Makes.{makes_as, makes_new}
use Rattle.chain_ops.proofs.Laws.Strings.{copied_bytes}
use Rattle.ip_out.specs.declared.head.IpHead.{IpHead}
use Rattle.ip_out.specs.Headings.{head_bytes}
use Rattle.ip_out.specs.Inside.{head_entry}

pub length_head : (h : IpHead) → length (head_bytes h) ≡ 20
unfolding head_bytes
length_head h = refl

pub no_header : (header : Bool) (off : ℕ) → 0 < off → copy_header header off ≡ false
no_header true off some = ne_eqb off 0 (λ z. absurd (omega arith))
no_header false off some = refl

-- a range after the first byte is copied without the packet header
pub copy_is : (p s : PoolView) (c b off len : ℕ) → 0 < off
    → Makes p s b (alone (copy_header (chain_of p c).front.header off))
    (copied (copy_header (chain_of p c).front.header off) (chain_of p c).entries off len)
    → Makes p s b (alone false) (copied false (chain_of p c).entries off len)
copy_is p s c b off len some m =
    let none = no_header (chain_of p c).front.header off some in
    makes_as p (alone false) (copied false (chain_of p c).entries off len) m refl (ap alone none)
    (ap (λ (t : Bool). copied t (chain_of p c).entries off len) none)

length_range : (off len : ℕ) (xs : List ℕ) → off + len ≤ length xs → length (take len (drop off xs)) ≡ len
length_range off len xs h = omega (arith, length-take len (drop off xs), length-drop off xs)

pub copy_long : (p s : PoolView) (c b off len : ℕ) → off + len ≤ length (string (chain_of p c))
    → Makes p s b (alone false) (copied false (chain_of p c).entries off len) → len ≡ length (string (chain_of s b))
copy_long p s c b off len within m =
    sym (ap (λ (es : List Entry). length (flat_bytes es)) m.entries
    ∙ ap (λ (xs : List ℕ). length xs) (copied_bytes false (chain_of p c).entries off len)
    ∙ length_range off len (string (chain_of p c)) within)

-- the copy after the mbuf of its header
pub linked : (p s t : PoolView) (c d b off len : ℕ) (h : IpHead) (xs : List ℕ) → xs ≡ head_bytes h
    → Makes p s b (alone false) (copied false (chain_of p c).entries off len)
    → Adds (without s b) t d
    (joined (one_mbuf true (record { bytes = xs; start = 28; cluster = None }) d) (chain_of s b))
    → Makes p t d (alone true) (head_entry h ∷ copied false (chain_of p c).entries off len)
linked p s t c d b off len h xs is m adds =
    let e : Entry = record { bytes = xs; start = 28; cluster = None } in
    makes_as p (alone true) (head_entry h ∷ copied false (chain_of p c).entries off len)
    (makes_new (subst (λ (q : PoolView). Adds q t d (joined (one_mbuf true e d) (chain_of s b)))
    (adds_undone (without s b) m.adds refl) adds)) refl refl
    (λ i. record { bytes = is i; start = 28; cluster = None } ∷ m.entries i)
