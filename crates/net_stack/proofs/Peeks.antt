-- The oldest datagram of a socket, in the mbufs of its first chain.
use Rattle.std.proofs.Common.{◌≡◌, ℕ, ◌==◌, Bool, true, false, cond, List, [], ◌∷◌, ◌++◌, length, take, find, Option, None, Some, option_map, min, refl, sym, ap, ◌∙◌, subst, arith}
use Rattle.std.specs.Prelude.{MatchOption, Result, Ok, Err, map, slice_get}
use Rattle.std.specs.List.{AllByRecursion as Each}
use Rattle.std.proofs.lemmas.List.{take_min}
use Rattle.std.proofs.lemmas.Bool.{eqb-true, false≢true, true≢false}
use Rattle.std.proofs.lemmas.Option.{none-some, same_Some}
use Rattle.flat_model.specs.declared.errno.Errno.{Errno}
use Rattle.flat_model.specs.declared.errno.Errno.TheVariants.{BadDescriptor, WouldBlock}
use Rattle.flat_model.specs.Machine.Calls.{Receives}
use Rattle.flat_model.specs.Machine.Event.{Reply, Receive, Received, Refused}
use Rattle.flat_model.specs.Machine.State.{State, Socket, Datagram, change_socket, socket_at}
use Rattle.mbuf_chain.specs.Chain.{ChainView, Entry, PoolView, chain_of, flat_bytes}
use Rattle.mbuf_chain.specs.Frames.{IsBounded}
use Rattle.mbuf_chain.specs.Heads.{heads_from, nth_heads, packet_header}
use Rattle.mbuf_chain.specs.Owners.{IsOwned}
use Rattle.mbuf_chain.specs.Train.{QueuedPacket, queued_packet_of}
use Rattle.mbuf_chain.specs.declared.mbuf_head.MbufHead.{MbufHead}
use Rattle.mbuf_chain.proofs.Laws.Owners.{live_first}
use Rattle.pcb_table.specs.declared.block.Block.{Block}
use Rattle.pcb_table.specs.Table.{Queues, block_at, socket_with}
use Rattle.pcb_table.proofs.Laws.{socket_found}
use Rattle.sockbuf.specs.SockBuf.{SockBufView, IsDatagram, IsSockBuf, chains_of, datagrams, datagrams_of, queued_datagram, sockaddr_in}
use Rattle.sock_calls.specs.declared.questions.NextDatagram.{NextDatagram}
use Rattle.sock_calls.specs.Questions.{next_datagram, next_in, oldest_datagram}
use Rattle.sock_calls.specs.Sockets.{SocksView, IsSocks, queue_at, queues_of, with_sockets}
use Rattle.net_stack.specs.Questions.{WouldReply, bytes_in_mbufs}

-- ---- the reply to `recvfrom`

abbrev queue_reply : ℕ → List Datagram → Reply
queue_reply most [] = Refused WouldBlock
queue_reply most (d ∷ later) = Received d.sender (take most d.item.bytes)

abbrev pub socket_reply : ℕ → Option Socket → Reply
socket_reply most None = Refused BadDescriptor
socket_reply most (Some me) = queue_reply most me.queue

-- the machine can take that step
pub replies : (fd most : ℕ) (s : State) (reply : Reply) → reply ≡ socket_reply most (socket_at fd s)
    → WouldReply s (Receive fd most) reply
replies fd most s reply is = on (socket_at fd s) refl
  where
    step : (me : Socket) (n : State) → socket_at fd s ≡ Some me → Receives fd most me.queue s reply n
        → WouldReply s (Receive fd most) reply
    step me n e does = (
      n,
      record {
        none = λ f. absurd (none-some me (sym f ∙ e));
        some = λ x f. subst (λ (y : Socket). Receives fd most y.queue s reply n) (same_Some me x (sym e ∙ f)) does;
      },
    )

    queue : (me : Socket) → socket_at fd s ≡ Some me → (q : List Datagram) → me.queue ≡ q
        → WouldReply s (Receive fd most) reply
    queue me e [] at = step me s e (subst (λ (ds : List Datagram). Receives fd most ds s reply s) (sym at)
        (is ∙ ap (socket_reply most) e ∙ ap (queue_reply most) at, refl))
    queue me e (d ∷ later) at =
        let n : State = change_socket fd (λ socket. record socket { queue = later }) s in
        step me n e (subst (λ (ds : List Datagram). Receives fd most ds s reply n) (sym at)
        (is ∙ ap (socket_reply most) e ∙ ap (queue_reply most) at, refl))

    on : (o : Option Socket) → socket_at fd s ≡ o → WouldReply s (Receive fd most) reply
    on None e = (
      s,
      record {
        none = λ _. (is ∙ ap (socket_reply most) e, refl);
        some = λ x f. absurd (none-some x (sym e ∙ f));
      },
    )
    on (Some me) e = queue me e me.queue refl

-- ---- what the query for the oldest datagram says

abbrev errno_in : Result NextDatagram Errno → Errno
errno_in (Ok next) = BadDescriptor
errno_in (Err errno) = errno

abbrev next_of : NextDatagram → Result NextDatagram Errno → NextDatagram
next_of other (Ok next) = next
next_of other (Err errno) = other

abbrev is_refused : Result NextDatagram Errno → Bool
is_refused (Ok next) = false
is_refused (Err errno) = true

-- its refusal is that of `recvfrom`
pub refused : (most : ℕ) (o : Option Socket) (errno : Errno) → next_in o ≡ Err errno
    → Refused errno ≡ socket_reply most o
refused most None errno e = ap (λ r. Refused (errno_in r)) (sym e)
refused most (Some me) errno e = go me.queue e
  where
    go : (q : List Datagram) → oldest_datagram q ≡ Err errno → Refused errno ≡ queue_reply most q
    go [] f = ap (λ r. Refused (errno_in r)) (sym f)
    go (d ∷ later) f = absurd (false≢true (ap is_refused f))

-- ---- the mbufs of the oldest datagram

-- the bytes of mbufs that have these entries
bytes_of_heads : (ks : List ℕ) (es : List Entry) → length ks ≡ length es
    → bytes_in_mbufs (heads_from None None ks es) ≡ flat_bytes es
bytes_of_heads [] [] len = refl
bytes_of_heads [] (e ∷ es) len = absurd (omega (arith, len))
bytes_of_heads (k ∷ ks) [] len = absurd (omega (arith, len))
bytes_of_heads (k ∷ ks) (e ∷ es) len =
    ap (λ (xs : List ℕ). e.bytes ++ xs) (bytes_of_heads ks es (omega (arith, len)))

-- the mbufs of a socket's first chain are one with the sender's address, and these with the oldest datagram's bytes
pub record Oldest (p : PoolView) (v : SocksView) (fd : ℕ) (next : NextDatagram) : Type 0 where
  pub front : MbufHead × List ℕ
  pub mbufs : List (MbufHead × List ℕ)
  pub heads : nth_heads p (chains_of p (queue_at v.queues fd)) 0 ≡ Some (front ∷ mbufs)
  pub len : next.len ≡ length (bytes_in_mbufs mbufs)
  pub reply : (most : ℕ) (rest : State) → Received next.sender (take most (bytes_in_mbufs mbufs))
      ≡ socket_reply most (socket_at fd (with_sockets p v rest))

-- the same of a queue
record OldestOf (p : PoolView) (b : SockBufView) (next : NextDatagram) : Type 0 where
  front : MbufHead × List ℕ
  mbufs : List (MbufHead × List ℕ)
  heads : nth_heads p (chains_of p b) 0 ≡ Some (front ∷ mbufs)
  len : next.len ≡ length (bytes_in_mbufs mbufs)
  reply : (most : ℕ) → Received next.sender (take most (bytes_in_mbufs mbufs)) ≡ queue_reply most (datagrams p b)

oldest_of : (p : PoolView) (b : SockBufView) (next : NextDatagram) → IsSockBuf p b → IsBounded p
    → oldest_datagram (datagrams p b) ≡ Ok next → OldestOf p b next
oldest_of p b next is bounded e = chains (chains_of p b) refl
  where
    mbufs_of : (c : ℕ) (cs : List ℕ) → chains_of p b ≡ c ∷ cs → (ks : List ℕ) (es : List Entry)
        → (chain_of p c).cells ≡ ks → (chain_of p c).entries ≡ es → IsDatagram es → length ks ≡ length es
        → OldestOf p b next
    mbufs_of c cs at ks [] cells entries has len = absurd has
    mbufs_of c cs at [] (f ∷ es) cells entries has len = absurd (omega (arith, len))
    mbufs_of c cs at (k ∷ ks) (f ∷ es) cells entries has len =
        let v : ChainView = chain_of p c in
        let later : List Datagram = datagrams_of (map (queued_packet_of p) cs) in
        let bytes : bytes_in_mbufs (heads_from None None ks es) ≡ flat_bytes es =
        bytes_of_heads ks es (omega (arith, len)) in
        let queue : datagrams p b ≡ queued_datagram (f ∷ es) ∷ later =
        ap (λ (xs : List ℕ). datagrams_of (map (queued_packet_of p) xs)) at
        ∙ ap (λ (ys : List Entry). queued_datagram ys ∷ later) entries in
        let is_next = ap (next_of next) (sym e ∙ ap oldest_datagram queue) in
        record {
          front = (
            record {
              number = k;
              next = slice_get ks 0;
              next_packet = v.front.after;
              start = f.start;
              len = length f.bytes;
              packet = packet_header v;
              cluster = f.cluster;
            },
            f.bytes,
          );
          mbufs = heads_from None None ks es;
          heads = ap (λ (xs : List ℕ). nth_heads p xs 0) at
              ∙ (λ i. Some (heads_from (packet_header v) v.front.after (cells i) (entries i)));
          len = ap (λ (n : NextDatagram). n.len) is_next ∙ ap length (sym bytes);
          reply = λ most. ap (λ (n : NextDatagram). Received n.sender (take most (bytes_in_mbufs (heads_from None None ks es))))
              is_next
              ∙ ap (λ (xs : List ℕ). Received (sockaddr_in f.bytes) (take most xs)) bytes
              ∙ ap (queue_reply most) (sym queue);
        }

    chains : (cs : List ℕ) → chains_of p b ≡ cs → OldestOf p b next
    chains [] at = absurd (true≢false (ap is_refused
        (sym (ap (λ (xs : List ℕ). oldest_datagram (datagrams_of (map (queued_packet_of p) xs))) at) ∙ e)))
    chains (c ∷ cs) at =
        let live = live_first p c cs (subst (IsOwned p) at is.held.owned) in
        let each = subst (λ (xs : List ℕ). Each (λ (queued_packet : QueuedPacket). IsDatagram queued_packet.entries)
        (map (queued_packet_of p) xs)) at is.each in
        mbufs_of c cs at (chain_of p c).cells (chain_of p c).entries refl refl each.0 (bounded.cells c live)

-- the block of a descriptor has this descriptor
named : (fd : ℕ) (bs : List Block) (b : Block) → find (λ (x : Block). x.fd == fd) bs ≡ Some b → b.fd ≡ fd
named fd [] b e = absurd (none-some b e)
named fd (x ∷ xs) b e = go (named fd xs b) (x.fd == fd) refl e
  where
    go : (find (λ (y : Block). y.fd == fd) xs ≡ Some b → b.fd ≡ fd) → (t : Bool) → (x.fd == fd) ≡ t
        → cond t (Some x) (find (λ (y : Block). y.fd == fd) xs) ≡ Some b → b.fd ≡ fd
    go later true same f = ap (λ (y : Block). y.fd) (sym (same_Some x b f)) ∙ eqb-true x.fd fd same
    go later false same f = later f

pub oldest : (p : PoolView) (v : SocksView) (fd : ℕ) (next : NextDatagram) (rest : State) → IsSocks p v → IsBounded p
    → Ok next ≡ next_datagram fd (with_sockets p v rest) → Oldest p v fd next
oldest p v fd next rest is bounded e = go (block_at fd v.pcbs) refl
  where
    f : Queues
    f = queues_of p v.queues

    go : (o : Option Block) → block_at fd v.pcbs ≡ o → Oldest p v fd next
    go None at = absurd (true≢false (ap is_refused (sym (e ∙ ap next_in (socket_found rest f v.pcbs fd)
        ∙ ap (λ (x : Option Block). next_in (option_map (socket_with f) x)) at))))
    go (Some b) at =
        let same : b.fd ≡ fd = named fd v.pcbs.blocks b at in
        let found = oldest_of p (queue_at v.queues fd) next (is.each fd) bounded
        (sym (e ∙ ap next_in (socket_found rest f v.pcbs fd)
        ∙ ap (λ (x : Option Block). next_in (option_map (socket_with f) x)) at
        ∙ ap (λ (k : ℕ). oldest_datagram (f k)) same)) in
        record {
          front = found.front;
          mbufs = found.mbufs;
          heads = found.heads;
          len = found.len;
          reply = λ most others. found.reply most
              ∙ ap (λ (k : ℕ). queue_reply most (f k)) (sym same)
              ∙ ap (λ (x : Option Block). socket_reply most (option_map (socket_with f) x)) (sym at)
              ∙ ap (socket_reply most) (sym (socket_found others f v.pcbs fd));
        }

-- what an iterator still has after its first item
pub rest_after : {A : Type 0} (view : A → MbufHead × List ℕ) (o : Option A) (s t ms : List (MbufHead × List ℕ))
    (front : MbufHead × List ℕ) → MatchOption o ((s ≡ []) × (t ≡ [])) (λ x. s ≡ view x ∷ t) → s ≡ front ∷ ms → t ≡ ms
rest_after view None s t ms front steps is = absurd (omega (arith, ap length (sym steps.0 ∙ is)))
rest_after view (Some x) s t ms front steps is = ap tail (sym steps ∙ is)
  where
    tail : List (MbufHead × List ℕ) → List (MbufHead × List ℕ)
    tail [] = []
    tail (m ∷ later) = later

-- the reply, once the bytes of these mbufs are at the front of the buffer
pub copied : (p : PoolView) (v : SocksView) (fd most len : ℕ) (next : NextDatagram) (buffer : List ℕ) (rest : State)
    → (found : Oldest p v fd next) → len ≡ min next.len most → take len buffer ≡ take len (bytes_in_mbufs found.mbufs)
    → WouldReply (with_sockets p v rest) (Receive fd most) (Received next.sender (take len buffer))
copied p v fd most len next buffer rest found is front =
    let bytes : List ℕ = bytes_in_mbufs found.mbufs in
    let least : len ≡ min most (length bytes) = omega (arith, is, found.len) in
    replies fd most (with_sockets p v rest) (Received next.sender (take len buffer))
    (ap (λ (xs : List ℕ). Received next.sender xs)
    (front ∙ ap (λ (k : ℕ). take k bytes) least ∙ take_min most bytes)
    ∙ found.reply most rest)
