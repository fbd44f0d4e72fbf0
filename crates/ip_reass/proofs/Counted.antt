-- The number of bytes of a train's fragments after each step.
use Rattle.std.proofs.Common.{◌≡◌, ℕ, zero, suc, ◌+◌, ◌-◌, ◌<◌, ◌≤◌, List, [], ◌∷◌, ◌++◌, length, map, set, take, drop, remove, ap, ◌∙◌, sym, arith, length-drop}
use Rattle.std.proofs.lemmas.List.{drop_all, take-append-drop}
use Rattle.mbuf_chain.specs.Chain.{PoolView, flat_bytes}
use Rattle.mbuf_chain.specs.Train.{TrainView, IsHeld}
use Rattle.chain_ops.proofs.Laws.Strings.{without_first_bytes}
use Rattle.ip_reass.specs.Fragments.{QueuedFragment, queued, queued_end, cut, cut_to, fragment_of, fragments, bytes_held}
use Rattle.ip_reass.specs.Inside.Walks.{queued_at}
use Rattle.ip_reass.proofs.Steps.{IsNext, fragments_are, length-queued}

abbrev pub queue_held : List QueuedFragment → ℕ
queue_held qs = bytes_held (map fragment_of qs)

pub held_is : (p : PoolView) (t : TrainView) → bytes_held (fragments p t) ≡ queue_held (queued p t)
held_is p t = ap bytes_held (fragments_are p t)

-- the same queue has the same fragments and the same number of bytes
pub fragments_as : (p q : PoolView) (t u : TrainView) → queued q u ≡ queued p t → fragments q u ≡ fragments p t
fragments_as p q t u e = fragments_are q u ∙ (ap (map fragment_of) e ∙ sym (fragments_are p t))

pub held_as : (p q : PoolView) (t u : TrainView) → queued q u ≡ queued p t
    → bytes_held (fragments q u) ≡ bytes_held (fragments p t)
held_as p q t u e = held_is q u ∙ (ap queue_held e ∙ sym (held_is p t))

-- one fragment is removed
queue_removed : (qs : List QueuedFragment) (i : ℕ) → i < length qs
    → queue_held (remove qs i) + length (flat_bytes (queued_at qs i).entries) ≡ queue_held qs
queue_removed [] i l = absurd (omega arith)
queue_removed (q ∷ qs) zero l = omega arith
queue_removed (q ∷ qs) (suc i) l = omega (arith, queue_removed qs i (omega arith))

pub held_removed : {p : PoolView} {t : TrainView} {i b e : ℕ} (q : PoolView) (u : TrainView) → IsNext p t i b
    → queued_end (queued_at (queued p t) i) ≡ e → queued q u ≡ remove (queued p t) i
    → bytes_held (fragments q u) + (e - b) ≡ bytes_held (fragments p t)
held_removed {p} {t} {i} q u next end is =
    omega (
      arith,
      next.begin,
      end,
      held_is p t,
      held_is q u,
      ap queue_held is,
      queue_removed (queued p t) i next.within,
    )

-- one fragment loses its first n bytes
queue_cut : (n : ℕ) (qs : List QueuedFragment) (i : ℕ) → i < length qs
    → n ≤ length (flat_bytes (queued_at qs i).entries)
    → queue_held (set qs i (cut n (queued_at qs i))) + n ≡ queue_held qs
queue_cut n [] i l m = absurd (omega arith)
queue_cut n (q ∷ qs) zero l m =
    omega (
      arith,
      ap (λ (xs : List ℕ). length xs) (without_first_bytes n q.entries),
      length-drop n (flat_bytes q.entries),
    )
queue_cut n (q ∷ qs) (suc i) l m = omega (arith, queue_cut n qs i (omega arith) m)

pub held_cut : {p : PoolView} {t : TrainView} {i b : ℕ} (q : PoolView) (u : TrainView) (e : ℕ) → IsNext p t i b
    → e < queued_end (queued_at (queued p t) i) → queued q u ≡ set (queued p t) i (cut (e - b) (queued_at (queued p t) i))
    → bytes_held (fragments q u) + (e - b) ≡ bytes_held (fragments p t)
held_cut {p} {t} {i} {b} q u e next end is =
    omega (
      arith,
      next.begin,
      held_is p t,
      held_is q u,
      ap queue_held is,
      queue_cut (e - b) (queued p t) i next.within (omega (arith, next.begin, end)),
    )

-- one fragment is inserted
queue_between : (xs ys : List QueuedFragment) (q : QueuedFragment)
    → queue_held (xs ++ q ∷ ys) ≡ queue_held (xs ++ ys) + length (flat_bytes q.entries)
queue_between [] ys q = omega arith
queue_between (x ∷ xs) ys q = omega (arith, queue_between xs ys q)

pub held_between : (p q : PoolView) (t u : TrainView) (n : ℕ) (xs ys : List QueuedFragment) (f : QueuedFragment)
    → queued p t ≡ xs ++ ys → queued q u ≡ xs ++ cut n f ∷ ys
    → bytes_held (fragments q u) ≡ bytes_held (fragments p t) + (length (flat_bytes f.entries) - n)
held_between p q t u n xs ys f e g =
    omega (
      arith,
      held_is p t,
      held_is q u,
      ap queue_held e,
      ap queue_held g,
      queue_between xs ys (cut n f),
      ap (λ (zs : List ℕ). length zs) (without_first_bytes n f.entries),
      length-drop n (flat_bytes f.entries),
    )

-- one fragment is inserted after the others
pub held_after : (p q : PoolView) (t u : TrainView) (i : ℕ) (f : QueuedFragment) → IsHeld p t
    → queued q u ≡ take i (queued p t) ++ cut 0 f ∷ cut_to (queued_end f) (drop i (queued p t)) → i ≡ t.len
    → bytes_held (fragments q u) ≡ bytes_held (fragments p t) + length (flat_bytes f.entries)
held_after p q t u i f held e is =
    let none : drop i (queued p t) ≡ [] = drop_all i (queued p t) (omega (arith, length-queued p t held)) in
    let all : queued p t ≡ take i (queued p t) ++ [] =
    sym (take-append-drop i (queued p t)) ∙ ap (λ (ys : List QueuedFragment). take i (queued p t) ++ ys) none in
    omega (
      arith,
      held_between p q t u 0 (take i (queued p t)) [] f all
          (e ∙ ap (λ (ys : List QueuedFragment). take i (queued p t) ++ cut 0 f ∷ cut_to (queued_end f) ys) none),
    )
