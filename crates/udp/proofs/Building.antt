-- The 8 bytes that are written.
use Rattle.std.proofs.Common.{◌≡◌, ℕ, ◌+◌, ◌≤◌, List, [], ◌∷◌, ◌++◌, length, take, drop, refl, sym, ap, ◌∙◌, arith}
use Rattle.std.proofs.lemmas.List.{append_assoc, length-append, take-append-le, drop-append-le}
use Rattle.flat_model.specs.Packets.Checksum.{checksum}
use Rattle.flat_model.specs.Packets.Header.{not_zero, pseudo_header, udp}
use Rattle.mbuf_chain.specs.Chain.{ChainView, Entry, entry_of, flat_bytes, no_entry, string}
use Rattle.mbuf_chain.specs.Steps.{overwritten}
use Rattle.std.specs.Prelude.{slice_index_or, slice_set}
use Rattle.udp.specs.Datagrams.{with_udp_header}
use Rattle.udp.specs.Inside.{header_bytes}

-- the first mbuf's bytes are some of all
pub long_string : (v : ChainView) (n : ℕ) → n ≤ length (entry_of v 0).bytes → n ≤ length (string v)
long_string v n long = go v.entries long
  where
    go : (es : List Entry) → n ≤ length (slice_index_or es 0 no_entry).bytes → n ≤ length (flat_bytes es)
    go [] long = omega arith
    go (e ∷ es) long = omega (arith, length-append e.bytes (flat_bytes es))

module _ (src dst sport dport : ℕ) where
  pub written : (s : List ℕ) (len sum computed : ℕ) → len ≡ 8 + length s → sum ≡ not_zero computed
      → computed ≡ checksum (pseudo_header src dst len
      ++ header_bytes (record { source = sport; destination = dport; len = len; sum = 0 }) ++ s)
      → header_bytes (record { source = sport; destination = dport; len = len; sum = sum })
      ≡ take 8 (udp src dst sport dport s)
  unfolding udp
  written s len sum computed len_is sum_is is =
      let whole : sum ≡ not_zero (checksum
      (pseudo_header src dst (8 + length s)
      ++ header_bytes (record { source = sport; destination = dport; len = 8 + length s; sum = 0 }) ++ s)) =
      sum_is ∙ ap not_zero is ∙ ap (λ n. not_zero
      (checksum (pseudo_header src dst n
      ++ header_bytes (record { source = sport; destination = dport; len = n; sum = 0 }) ++ s))) len_is in
      λ j. header_bytes (record { source = sport; destination = dport; len = len_is j; sum = whole j })

  pub udp_parts : (s : List ℕ) → udp src dst sport dport s ≡ take 8 (udp src dst sport dport s) ++ s
  unfolding udp
  udp_parts s = refl

  pub header_length : (s : List ℕ) → length (take 8 (udp src dst sport dport s)) ≡ 8
  unfolding udp
  header_length s = refl

  over : (b rest h : List ℕ) → 28 ≤ length b → length h ≡ 8
      → (take 20 b ++ (h ++ drop (20 + length h) b)) ++ rest ≡ take 20 (b ++ rest) ++ (h ++ drop 28 (b ++ rest))
  over b rest h long eight =
      ap (λ n. (take 20 b ++ (h ++ drop (20 + n) b)) ++ rest) eight
      ∙ append_assoc (take 20 b) (h ++ drop 28 b) rest
      ∙ ap (λ (xs : List ℕ). take 20 b ++ xs) (append_assoc h (drop 28 b) rest)
      ∙ (λ j. sym (take-append-le 20 b rest (omega arith)) j ++ (h ++ sym (drop-append-le 28 b rest long) j))

  pub built_string : (v : ChainView) → 28 ≤ length (entry_of v 0).bytes
      → string (with_udp_header src dst sport dport v)
      ≡ take 20 (string v) ++ udp src dst sport dport (drop 28 (string v))
  built_string v long =
      go v.entries long (header_length (drop 28 (string v)))
      ∙ ap (λ (xs : List ℕ). take 20 (string v) ++ xs) (sym (udp_parts (drop 28 (string v))))
    where
      head : List ℕ
      head = take 8 (udp src dst sport dport (drop 28 (string v)))

      go : (es : List Entry) → 28 ≤ length (slice_index_or es 0 no_entry).bytes → length head ≡ 8
          → flat_bytes (slice_set es 0 (overwritten (slice_index_or es 0 no_entry) 20 head))
          ≡ take 20 (flat_bytes es) ++ (head ++ drop 28 (flat_bytes es))
      go [] long eight = absurd (omega arith)
      go (e ∷ es) long eight = over e.bytes (flat_bytes es) head long eight
