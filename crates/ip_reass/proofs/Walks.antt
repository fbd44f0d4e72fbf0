-- Walks over the fragments of a train.
use Rattle.std.proofs.Common.{◌≡◌, ℕ, zero, suc, ◌+◌, ◌/◌, ◌%◌, ◌<◌, ◌≤◌, eqb, List, [], ◌∷◌, length, take, drop, remove, refl, sym, ap, ◌∙◌, subst, arith}
use Rattle.std.proofs.lemmas.List.{get_or-map, length-map}
use Rattle.flat_model.specs.Fragments.Overlay.{Fragment}
use Rattle.mbuf_chain.specs.Chain.{PoolView, flat_bytes}
use Rattle.mbuf_chain.specs.Train.{TrainView, no_queued_packet, queued_packet_at, queued_packets, IsHeld}
use Rattle.mbuf_chain.proofs.Laws.Trains.{length-queued_packets}
use Rattle.ip_reass.specs.Fragments.{fragment_in, fragments, end_of_fragment, Apart, AllEnd}
use Rattle.ip_reass.specs.Inside.Walks.{fragment_at, no_fragment, reach, AllUpto, AllAbove}
use Rattle.ip_reass.specs.Inside.Known.{reach_grows}

-- ---- fragments by place
pub length-fragments : (p : PoolView) (t : TrainView) → IsHeld p t → length (fragments p t) ≡ t.len
length-fragments p t h = length-map (queued_packets p t) fragment_in ∙ length-queued_packets p t h

pub fragment_is : (p : PoolView) (t : TrainView) (i : ℕ) → IsHeld p t → i < t.len
    → fragment_at (fragments p t) i ≡ fragment_in (queued_packet_at p t i)
fragment_is p t i h l =
    get_or-map fragment_in (queued_packets p t) i no_queued_packet no_fragment
    (omega (arith, length-queued_packets p t h))

pub end_at : (n : ℕ) (ps : List Fragment) (i : ℕ) → AllEnd n ps → i < length ps → end_of_fragment (fragment_at ps i) ≤ n
end_at n [] i a l = absurd (omega arith)
end_at n (p ∷ ps) zero a l = a.0
end_at n (p ∷ ps) (suc i) a l = end_at n ps i a.1 (omega arith)

pub rest_at : (ps : List Fragment) (i : ℕ) → i < length ps → drop i ps ≡ fragment_at ps i ∷ drop (suc i) ps
rest_at [] i l = absurd (omega arith)
rest_at (p ∷ ps) zero l = refl
rest_at (p ∷ ps) (suc i) l = rest_at ps i (omega arith)

pub AllEnd-remove : (n : ℕ) (ps : List Fragment) (i : ℕ) → AllEnd n ps → AllEnd n (remove ps i)
AllEnd-remove n [] zero a = tt
AllEnd-remove n [] (suc i) a = tt
AllEnd-remove n (p ∷ ps) zero a = a.1
AllEnd-remove n (p ∷ ps) (suc i) a = (a.0, AllEnd-remove n ps i a.1)

-- ---- the place of a new fragment
pub upto_more : (a i : ℕ) (ps : List Fragment) → AllUpto a (take i ps) → i < length ps → (fragment_at ps i).offset ≤ a
    → AllUpto a (take (suc i) ps)
upto_more a i [] u l h = tt
upto_more a zero (p ∷ ps) u l h = (h, tt)
upto_more a (suc i) (p ∷ ps) u l h = (u.0, upto_more a i ps u.1 (omega arith) h)

pub above_all : (a low : ℕ) (ps : List Fragment) → a < low → Apart low ps → AllAbove a ps
above_all a low [] l h = tt
above_all a low (p ∷ ps) l h = (omega arith, above_all a (end_of_fragment p) ps (omega arith) h.2)

pub above_from : (a low i : ℕ) (ps : List Fragment) → Apart low ps → i < length ps → a < (fragment_at ps i).offset
    → AllAbove a (drop i ps)
above_from a low i [] h l m = absurd (omega arith)
above_from a low zero (p ∷ ps) h l m = (m, above_all a (end_of_fragment p) ps (omega arith) h.2)
above_from a low (suc i) (p ∷ ps) h l m = above_from a (end_of_fragment p) i ps h.2 (omega arith) m

pub reach_take : (low i : ℕ) (ps : List Fragment) → i < length ps
    → reach low (take (suc i) ps) ≡ end_of_fragment (fragment_at ps i)
reach_take low i [] l = absurd (omega arith)
reach_take low zero (p ∷ ps) l = refl
reach_take low (suc i) (p ∷ ps) l = reach_take (end_of_fragment p) i ps (omega arith)

-- the end of the last fragment
pub reach_last : (low i : ℕ) (ps : List Fragment) → i + 1 ≡ length ps
    → reach low ps ≡ end_of_fragment (fragment_at ps i)
reach_last low i [] e = absurd (omega arith)
reach_last low zero (p ∷ []) e = refl
reach_last low (suc i) (p ∷ []) e = absurd (omega arith)
reach_last low zero (p ∷ q ∷ ps) e = absurd (omega arith)
reach_last low (suc i) (p ∷ q ∷ ps) e = reach_last (end_of_fragment p) i (q ∷ ps) (omega arith)

-- all fragments begin at most at the end of the last one
pub upto_reach : (a low : ℕ) (ps : List Fragment) → Apart low ps → reach low ps ≤ a → AllUpto a ps
upto_reach a low [] h l = tt
upto_reach a low (p ∷ ps) h l =
    (omega (arith, reach_grows (end_of_fragment p) ps h.2), upto_reach a (end_of_fragment p) ps h.2 l)

-- ---- the walk to the place
pub record Found (a i e : ℕ) (ps : List Fragment) : Type 0 where
  pub upto : AllUpto a (take i ps)
  pub end : e ≡ reach 0 (take i ps)

pub found_none : (a i : ℕ) (ps : List Fragment) → i ≡ 0 → Found a i 0 ps
found_none a i ps z = subst (λ (n : ℕ). Found a n 0 ps) (sym z) (record { upto = tt; end = refl })

pub found_more : (a i n b e f : ℕ) (ps : List Fragment) → Found a i e ps → i < length ps → b ≡ (fragment_at ps i).offset
    → b ≤ a → f ≡ end_of_fragment (fragment_at ps i) → n ≡ i + 1 → Found a n f ps
found_more a i n b e f ps h l is_b m is is_n =
    let s : suc i ≡ n = omega arith in
    subst (λ (k : ℕ). Found a k f ps) s (record {
      upto = upto_more a i ps h.upto l (omega arith);
      end = is ∙ sym (reach_take 0 i ps l);
    })

-- ---- what a walk reads
pub starts_at : (p : PoolView) (t : TrainView) (i tag : ℕ) → IsHeld p t → i < t.len → tag ≡ (queued_packet_at p t i).tag
    → tag / 2 ≡ (fragment_at (fragments p t) i).offset
starts_at p t i tag h l e = ap (λ (n : ℕ). n / 2) e ∙ ap (λ (q : Fragment). q.offset) (sym (fragment_is p t i h l))

pub ends_at : (p : PoolView) (t : TrainView) (i tag n : ℕ) → IsHeld p t → i < t.len → tag ≡ (queued_packet_at p t i).tag
    → n ≡ length (flat_bytes (queued_packet_at p t i).entries)
    → tag / 2 + n ≡ end_of_fragment (fragment_at (fragments p t) i)
ends_at p t i tag n h l e f =
    omega (arith, starts_at p t i tag h l e, f, ap (λ (q : Fragment). length q.bytes) (fragment_is p t i h l))

pub more_at : (p : PoolView) (t : TrainView) (i tag : ℕ) → IsHeld p t → i < t.len → tag ≡ (queued_packet_at p t i).tag
    → eqb (tag % 2) 1 ≡ (fragment_at (fragments p t) i).more
more_at p t i tag h l e = ap (λ (n : ℕ). eqb (n % 2) 1) e ∙ ap (λ (q : Fragment). q.more) (sym (fragment_is p t i h l))
