-- The effect of an ARP packet.
use Rattle.std.proofs.Common.{◌≡◌, Bool, true, false, cond, List, ℕ, Some, None, refl, sym, ap, ◌∙◌}
use Rattle.std.proofs.lemmas.Option.{none-some, same_Some}
use Rattle.flat_ether.specs.Frames.{arp_of}
use Rattle.flat_ether.specs.Links.{LinkState, counts_bad_arp, counts_conflict, receives_arp, is_conflict, is_sound_arp, learns, queues_reply}
use Rattle.flat_ether.specs.declared.arp.Arp.{Arp}

module _ (s t : LinkState) (b : List ℕ) (a : Arp) (read : cond (is_sound_arp s.link b) (Some (arp_of b)) None ≡ Some a)
  where
    both : (is_sound_arp s.link b ≡ true) × (arp_of b ≡ a)
    both = go (is_sound_arp s.link b) refl read
      where
        go : (x : Bool) → is_sound_arp s.link b ≡ x → cond x (Some (arp_of b)) None ≡ Some a
            → (is_sound_arp s.link b ≡ true) × (arp_of b ≡ a)
        go true e f = (e, same_Some (arp_of b) a f)
        go false e f = absurd (none-some a f)

    sound : (x : Bool) → is_conflict s (arp_of b) ≡ x
        → receives_arp b s ≡ cond x (queues_reply (arp_of b) (counts_conflict s))
        (queues_reply (arp_of b) (learns (arp_of b) s))
    sound x e =
        ap (λ y. cond y (cond (is_conflict s (arp_of b)) (queues_reply (arp_of b) (counts_conflict s))
        (queues_reply (arp_of b) (learns (arp_of b) s))) (counts_bad_arp s)) both.0
        ∙ ap (λ y. cond y (queues_reply (arp_of b) (counts_conflict s)) (queues_reply (arp_of b) (learns (arp_of b) s)))
        e

    pub receives_conflict : is_conflict s a ≡ true → t ≡ counts_conflict s → queues_reply a t ≡ receives_arp b s
    receives_conflict ours is =
        ap (queues_reply a) is ∙ ap (λ (x : Arp). queues_reply x (counts_conflict s)) (sym both.1)
        ∙ sym (sound true (ap (is_conflict s) both.1 ∙ ours))

    pub receives_other : is_conflict s a ≡ false → t ≡ learns a s → queues_reply a t ≡ receives_arp b s
    receives_other other is =
        ap (queues_reply a) is ∙ ap (λ (x : Arp). queues_reply x (learns x s)) (sym both.1)
        ∙ sym (sound false (ap (is_conflict s) both.1 ∙ other))
