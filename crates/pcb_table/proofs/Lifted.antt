-- A property of the blocks holds of the sockets of each machine that has these blocks.
use Rattle.std.proofs.Common.{◌≡◌, ℕ, Bool, true, false, ◌&&◌, ◌==◌, not, cond, List, [], ◌∷◌, map, filter, find, Option, Some, None, option_map, refl, ap, ◌∙◌}
use Rattle.std.specs.Option.{option_or}
use Rattle.flat_model.specs.declared.lookup_key.LookupKey.{LookupKey}
use Rattle.flat_model.specs.Machine.State.{Socket}
use Rattle.flat_model.specs.Sockets.Lookup.{matches, wildcards, youngest, best, receivers, up_to_first}
use Rattle.pcb_table.specs.declared.block.Block.{Block}
use Rattle.pcb_table.specs.Table.{Queues, socket_with}
use Rattle.pcb_table.specs.Inside.Search.{youngest_block, best_block, receiving_blocks}
use Rattle.pcb_table.specs.Apart.{does_match}

-- ---- lists

pub find-map : {X Y : Type 0} (f : X → Y) (p : Y → Bool) (xs : List X)
    → find p (map f xs) ≡ option_map f (find (λ x. p (f x)) xs)
find-map f p [] = refl
find-map f p (x ∷ xs) = go (p (f x)) (find-map f p xs)
  where
    go : (b : Bool) → find p (map f xs) ≡ option_map f (find (λ y. p (f y)) xs)
        → cond b (Some (f x)) (find p (map f xs)) ≡ option_map f (cond b (Some x) (find (λ y. p (f y)) xs))
    go true e = refl
    go false e = e

pub filter-map : {X Y : Type 0} (f : X → Y) (p : Y → Bool) (xs : List X)
    → filter p (map f xs) ≡ map f (filter (λ x. p (f x)) xs)
filter-map f p [] = refl
filter-map f p (x ∷ xs) = go (p (f x)) (filter-map f p xs)
  where
    go : (b : Bool) → filter p (map f xs) ≡ map f (filter (λ y. p (f y)) xs)
        → cond b (f x ∷ filter p (map f xs)) (filter p (map f xs))
        ≡ map f (cond b (x ∷ filter (λ y. p (f y)) xs) (filter (λ y. p (f y)) xs))
    go true e = ap (λ ys. f x ∷ ys) e
    go false e = e

pub up_to_first-map : {X Y : Type 0} (f : X → Y) (p : Y → Bool) (xs : List X)
    → up_to_first p (map f xs) ≡ map f (up_to_first (λ x. p (f x)) xs)
up_to_first-map f p [] = refl
up_to_first-map f p (x ∷ xs) = go (p (f x)) (up_to_first-map f p xs)
  where
    go : (b : Bool) → up_to_first p (map f xs) ≡ map f (up_to_first (λ y. p (f y)) xs)
        → cond b (f x ∷ []) (f x ∷ up_to_first p (map f xs))
        ≡ map f (cond b (x ∷ []) (x ∷ up_to_first (λ y. p (f y)) xs))
    go true e = refl
    go false e = ap (λ ys. f x ∷ ys) e

option_map-or : {X Y : Type 0} (f : X → Y) (a b : Option X)
    → option_or (option_map f a) (option_map f b) ≡ option_map f (option_or a b)
option_map-or f None b = refl
option_map-or f (Some x) b = refl

-- ---- look-ups

module _ (queues : Queues) where
  pub youngest-sockets : (k : ℕ) (q : LookupKey) (bs : List Block)
      → youngest k q (map (socket_with queues) bs) ≡ option_map (socket_with queues) (youngest_block k q bs)
  youngest-sockets k q bs = find-map (socket_with queues) (λ socket. matches q socket && (wildcards q socket == k)) bs

  pub best-sockets : (q : LookupKey) (bs : List Block)
      → best q (map (socket_with queues) bs) ≡ option_map (socket_with queues) (best_block q bs)
  best-sockets q bs =
      (λ i. option_or (youngest-sockets 0 q bs i) (option_or (youngest-sockets 1 q bs i) (youngest-sockets 2 q bs i)))
      ∙ ap (λ o. option_or (option_map (socket_with queues) (youngest_block 0 q bs)) o)
      (option_map-or (socket_with queues) (youngest_block 1 q bs) (youngest_block 2 q bs))
      ∙ option_map-or (socket_with queues) (youngest_block 0 q bs)
      (option_or (youngest_block 1 q bs) (youngest_block 2 q bs))

  pub receivers-sockets : (q : LookupKey) (bs : List Block)
      → receivers q (map (socket_with queues) bs) ≡ map (socket_with queues) (receiving_blocks q bs)
  receivers-sockets q bs =
      ap (up_to_first (λ socket. not socket.reuse_port)) (filter-map (socket_with queues) (matches q) bs)
      ∙ up_to_first-map (socket_with queues) (λ socket. not socket.reuse_port) (filter (does_match q) bs)

  pub sockets-find : (fd : ℕ) (bs : List Block)
      → find (λ socket. socket.fd == fd) (map (socket_with queues) bs)
      ≡ option_map (socket_with queues) (find (λ b. b.fd == fd) bs)
  sockets-find fd bs = find-map (socket_with queues) (λ socket. socket.fd == fd) bs

  -- a change of one block is the change of its socket
  pub sockets_changed : (fd : ℕ) (f : Block → Block) (g : Socket → Socket)
      → ((b : Block) → socket_with queues (f b) ≡ g (socket_with queues b)) → (bs : List Block)
      → map (socket_with queues) (map (λ b. cond (b.fd == fd) (f b) b) bs)
      ≡ map (λ socket. cond (socket.fd == fd) (g socket) socket) (map (socket_with queues) bs)
  sockets_changed fd f g same [] = refl
  sockets_changed fd f g same (b ∷ bs) = λ i. go (b.fd == fd) i ∷ sockets_changed fd f g same bs i
    where
      go : (t : Bool) → socket_with queues (cond t (f b) b) ≡ cond t (g (socket_with queues b)) (socket_with queues b)
      go true = same b
      go false = refl
