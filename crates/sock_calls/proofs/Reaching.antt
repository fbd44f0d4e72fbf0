-- The sets of the sockets that got a datagram and of those that lost it.
use Rattle.std.proofs.Common.{◌≡◌, ℕ, suc, ◌+◌, ◌<◌, List, [], ◌∷◌, ◌++◌, length, take, map, get_or, Option, Ok, refl, sym, ap, ◌∙◌, arith}
use Rattle.std.specs.Prelude.{fold}
use Rattle.std.proofs.lemmas.List.Sums.{fold-append}
use Rattle.flat_model.specs.Amounts.Weight.{Weight, Item}
use Rattle.flat_model.specs.Machine.Arrival.{DeliversAs, Offered}
use Rattle.flat_model.specs.Machine.Fate.{mark, nobody, reached_by, told_one, told_whole}
use Rattle.flat_model.specs.Machine.Ledger.{exact_ledger}
use Rattle.flat_model.specs.Machine.State.{State, Socket}
use Rattle.flat_model.specs.declared.address.Addr.{Addr}
use Rattle.flat_model.specs.declared.counters.Why.{Why}
use Rattle.flat_model.specs.declared.fate.Reached.{Reached}
use Rattle.flat_model.proofs.Laws.{delivers_too, itself}
use Rattle.mbuf_chain.specs.Owners.{times_among}
use Rattle.mbuf_chain.proofs.Laws.Owners.{times_same}
use Rattle.pcb_table.specs.declared.block.Block.{Block}
use Rattle.pcb_table.specs.Table.{Queues, socket_with}
use Rattle.udp.proofs.Laws.{fds_of}

-- the sets depend only on what is said of these sockets
same_from : (lacks all : ℕ → Option Why) (fds : List ℕ) (from : Reached)
    → ((k : ℕ) → 0 < times_among k fds → all k ≡ lacks k)
    → fold (λ r fd. mark (all fd) fd r) from fds ≡ fold (λ r fd. mark (lacks fd) fd r) from fds
same_from lacks all [] from h = refl
same_from lacks all (fd ∷ fds) from h =
    ap (λ (lack : Option Why). fold (λ r k. mark (all k) k r) (mark lack fd from) fds)
    (h fd (omega (arith, times_same fd fds)))
    ∙ same_from lacks all fds (mark (lacks fd) fd from) (λ k some. h k (omega (arith, some)))

pub reached_same : (lacks all : ℕ → Option Why) (fds : List ℕ)
    → ((k : ℕ) → 0 < times_among k fds → all k ≡ lacks k) → reached_by all fds ≡ reached_by lacks fds
reached_same lacks all fds h = same_from lacks all fds nobody h

-- one more socket after these
pub reached_more : (lacks : ℕ → Option Why) (fds more : List ℕ) (fd : ℕ) → more ≡ fds ++ fd ∷ []
    → reached_by lacks more ≡ mark (lacks fd) fd (reached_by lacks fds)
reached_more lacks fds more fd is =
    ap (reached_by lacks) is ∙ fold-append (λ r k. mark (lacks k) k r) nobody fds (fd ∷ [])

-- the descriptors of the sockets of blocks
pub named_fds : (f : Queues) (found : List Block) → fds_of (map (socket_with f) found) ≡ map (λ (b : Block). b.fd) found
named_fds f [] = refl
named_fds f (b ∷ found) = ap (λ (ks : List ℕ). b.fd ∷ ks) (named_fds f found)

-- what is said of each socket, as it's said of the whole datagram
pub as_whole : (held : Weight) (sender : Addr) (item : Item) (sockets : List Socket) (fds : List ℕ)
    (lacks : ℕ → Option Why) (reached : Reached) (old new : State) → reached ≡ reached_by lacks fds
    → fds ≡ fds_of sockets → DeliversAs exact_ledger (λ fd. told_one (lacks fd)) held sender item sockets old new
    → DeliversAs exact_ledger (λ fd lack. told_whole (Ok reached) (Offered (fds_of sockets) fd lack)) held sender item
    sockets old new
as_whole held sender item sockets fds lacks reached old new is same =
    delivers_too exact_ledger exact_ledger (itself exact_ledger) (λ fd. told_one (lacks fd))
    (λ fd lack. told_whole (Ok reached) (Offered (fds_of sockets) fd lack))
    (λ fd lack now there told. ((lacks, is ∙ ap (reached_by lacks) same, told.0), told.1)) held sender item sockets old
    new
