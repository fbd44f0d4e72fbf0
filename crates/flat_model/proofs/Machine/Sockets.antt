-- One socket changed among others.
use Rattle.std.proofs.Common.{◌≡◌, ℕ, Bool, true, false, List, [], ◌∷◌, map, Some, cond, refl, ap}
use Rattle.std.specs.Prelude.{◌==◌, find}
use Rattle.std.proofs.lemmas.Option.{none-some, same_Some}
use Rattle.flat_model.specs.Machine.State.{Socket}

pub find-changed : (fd k : ℕ) (change : Socket → Socket) (sockets : List Socket) (me : Socket)
    → ((socket : Socket) → (change socket).fd ≡ socket.fd)
    → find (λ socket. socket.fd == fd) sockets ≡ Some me
    → find (λ socket. socket.fd == fd) (map (λ socket. cond (socket.fd == k) (change socket) socket) sockets)
    ≡ Some (cond (me.fd == k) (change me) me)
find-changed fd k change [] me same e = absurd (none-some me e)
find-changed fd k change (x ∷ xs) me same e = go (find-changed fd k change xs me same) (x.fd == fd) refl e
  where
    changed : Socket
    changed = cond (x.fd == k) (change x) x

    fd_same : (b : Bool) → (cond b (change x) x).fd ≡ x.fd
    fd_same true = same x
    fd_same false = refl

    go : (find (λ socket. socket.fd == fd) xs ≡ Some me
        → find (λ socket. socket.fd == fd) (map (λ socket. cond (socket.fd == k) (change socket) socket) xs)
        ≡ Some (cond (me.fd == k) (change me) me))
        → (b : Bool) → (x.fd == fd) ≡ b → cond b (Some x) (find (λ socket. socket.fd == fd) xs) ≡ Some me
        → cond ((cond (x.fd == k) (change x) x).fd == fd) (Some (cond (x.fd == k) (change x) x))
        (find (λ socket. socket.fd == fd) (map (λ socket. cond (socket.fd == k) (change socket) socket) xs))
        ≡ Some (cond (me.fd == k) (change me) me)
    go rest true t e =
        rw (fd_same (x.fd == k)) (rw t (ap (λ (s : Socket). Some (cond (s.fd == k) (change s) s)) (same_Some x me e)))
    go rest false t e = rw (fd_same (x.fd == k)) (rw t (rest e))
