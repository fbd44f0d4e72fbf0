-- A write, a removal and a new block keep the invariant of a table's fields.
use Rattle.std.proofs.Common.{◌≡◌, ◌≢◌, ℕ, zero, suc, ◌+◌, ◌<◌, ◌≤◌, Bool, true, false, ◌&&◌, ◌||◌, ◌==◌, not, cond, List, [], ◌∷◌, find, length, get_or, set, count_by, Option, Some, None, is_some, is_none, unwrap_or, length-set, get_or-set_same, refl, sym, ap, ◌∙◌, subst, arith, ◌⊎◌, inl, inr}
use Rattle.std.specs.Prelude.{remove}
use Rattle.std.proofs.lemmas.Bool.{false≢true, true≢false, eq-eqb, eqb-true, eqb-false, and_parts, and_from, and_left, and_right, ne_eqb, false_from_ne_true, cases_eq}
use Rattle.std.specs.Option.{option_or}
use Rattle.std.proofs.lemmas.Option.{none-some, same_Some}
use Rattle.flat_model.specs.declared.lookup_key.LookupKey.{LookupKey}
use Rattle.flat_model.specs.Packets.Header.{first_fault}
use Rattle.flat_model.specs.declared.config.Config.{Config}
use Rattle.flat_model.specs.declared.option.Opt.{Opt}
use Rattle.flat_model.specs.declared.option.Opt.TheVariants.{Broadcast, ReusePort}
use Rattle.flat_model.specs.Machine.Calls.{is_reached, source_for}
use Rattle.flat_model.specs.Sockets.Lookup.{are_same, agree, is_addr, one_sided, wildcards}
use Rattle.flat_model.specs.declared.address.Addr.{Addr}
use Rattle.pcb_table.specs.declared.block.Block.{Block}
use Rattle.pcb_table.specs.declared.block.Connection.{Connection}
use Rattle.pcb_table.specs.Inside.Search.{youngest_block, best_block, key_port, GivesPort, block_bind_faults, block_connect_faults}
use Rattle.pcb_table.specs.Apart.{does_match, has_score, plain, has_fd, four, has_four, lacks_port, AreApart}
use Rattle.pcb_table.specs.Inside.Fields.{is_connected_as, IsLocated, IsCached, IsLowestUnused}
use Rattle.pcb_table.specs.Inside.Changed.{unbound_block, block_with_option, limited_block, bound_block, connected_block, disconnected_block, forgotten, connection_by, connection_of}
use Rattle.flat_model.proofs.Laws.{count_cons}
use Rattle.pcb_table.proofs.Searching.{one_sided-most}
use Rattle.pcb_table.proofs.Places.{one_if, one_if-most, counted-set, counted-remove, counts_at, none_counted, find_gives, find_only, best_found_as}

-- the four values of the new block are those of the old one, or no other block has them
abbrev pub IsFresh : List Block → Block → Block → Type 0
IsFresh bs old new = (local port : ℕ) (peer : Addr) → has_four local port peer new ≡ true →
    (has_four local port peer old ≡ true) ⊎ (count_by (has_four local port peer) bs ≡ 0)

pub apart_set : (bs : List Block) (i : ℕ) (y d : Block) → AreApart bs → i < length bs → y.fd ≡ (get_or bs i d).fd
    → lacks_port y ≡ false → IsFresh bs (get_or bs i d) y → AreApart (set bs i y)
apart_set bs i y d apart lt same ported fresh = record {
  fds = λ fd. omega (arith, counts fd, apart.fds fd);
  least = λ fd some. apart.least fd (omega (arith, counts fd));
  most = λ fd some. apart.most fd (omega (arith, counts fd));
  ports = omega (arith, counted-set lacks_port bs i y d lt, ap one_if ported, apart.ports);
  fours =
      λ local port peer. go local port peer (has_four local port peer y) refl (has_four local port peer (get_or bs i d))
      refl;
}
  where
    counts : (fd : ℕ) → count_by (has_fd fd) (set bs i y) ≡ count_by (has_fd fd) bs
    counts fd = omega (arith, counted-set (has_fd fd) bs i y d lt, ap (λ k. one_if (k == fd)) same)

    go : (local port : ℕ) (peer : Addr) (t : Bool) → has_four local port peer y ≡ t → (u : Bool)
        → has_four local port peer (get_or bs i d) ≡ u → count_by (has_four local port peer) (set bs i y) ≤ 1
    go local port peer false new u old =
        omega (arith, counted-set (has_four local port peer) bs i y d lt, ap one_if new, apart.fours local port peer)
    go local port peer true new true old =
        omega (
          arith,
          counted-set (has_four local port peer) bs i y d lt,
          ap one_if new,
          ap one_if old,
          apart.fours local port peer,
        )
    go local port peer true new false old = elim (fresh local port peer new) [
      | inl e ↦ absurd (false≢true (sym old ∙ e))
      | inr none ↦ omega (arith, counted-set (has_four local port peer) bs i y d lt, ap one_if new, ap one_if old, none)
    ]

-- a connection that the old block has is one of the new block
pub cached_set : (bs : List Block) (i : ℕ) (y d : Block) (cache : Option Connection) → i < length bs
    → ((k : Connection) → cache ≡ Some k → is_connected_as k (get_or bs i d) ≡ true → is_connected_as k y ≡ true)
    → IsCached bs cache → IsCached (set bs i y) cache
cached_set bs i y d None lt keeps h = tt
cached_set bs i y d (Some k) lt keeps h = go (is_connected_as k (get_or bs i d)) refl
  where
    go : (t : Bool) → is_connected_as k (get_or bs i d) ≡ t → 0 < count_by (is_connected_as k) (set bs i y)
    go true old =
        omega (arith, counted-set (is_connected_as k) bs i y d lt, ap one_if old, ap one_if (keeps k refl old), h)
    go false old = omega (arith, counted-set (is_connected_as k) bs i y d lt, ap one_if old, h)

-- ---- a block with all four values

pub addr_same : (a b : Addr) → is_addr a b ≡ true → a ≡ b
addr_same a b e =
    let parts = and_parts (a.ip == b.ip) (a.port == b.port) e in
    λ i. record { ip = eqb-true a.ip b.ip parts.0 i; port = eqb-true a.port b.port parts.1 i }

pub is_addr-refl : (a : Addr) → is_addr a a ≡ true
is_addr-refl a = and_from (a.ip == a.ip) (a.port == a.port) (eq-eqb a.ip a.ip refl) (eq-eqb a.port a.port refl)

same_set : (o : Option ℕ) (x : ℕ) → are_same o (Some x) ≡ true → o ≡ Some x
same_set None x e = absurd (false≢true e)
same_set (Some y) x e = ap Some (eqb-true y x e)

both_set : (o : Option ℕ) (x : ℕ) → agree ◌==◌ o (Some x) ≡ true → one_sided o (Some x) ≡ 0 → o ≡ Some x
both_set None x e none = absurd (omega arith)
both_set (Some y) x e none = ap Some (eqb-true y x e)

both_peers : (o : Option Addr) (a : Addr) → agree is_addr o (Some a) ≡ true → one_sided o (Some a) ≡ 0 → o ≡ Some a
both_peers None a e none = absurd (omega arith)
both_peers (Some b) a e none = ap Some (addr_same b a e)

pub record HasFour (local port : ℕ) (peer : Addr) (b : Block) : Type 0 where
  pub local_is : b.local ≡ Some local
  pub port_is : b.port ≡ Some port
  pub peer_is : b.peer ≡ Some peer

pub four_parts : (local port : ℕ) (peer : Addr) (b : Block) → has_four local port peer b ≡ true
    → HasFour local port peer b
four_parts local port peer b e =
    let score =
    and_parts (does_match (four local port peer) b)
    ((one_sided b.local (Some local) + one_sided b.peer (Some peer)) == 0) e in
    let sides : one_sided b.local (Some local) + one_sided b.peer (Some peer) ≡ 0 =
    eqb-true (one_sided b.local (Some local) + one_sided b.peer (Some peer)) 0 score.1 in
    let ends =
    and_parts (are_same b.port (Some port) && agree ◌==◌ b.local (Some local)) (agree is_addr b.peer (Some peer))
    score.0 in
    let near = and_parts (are_same b.port (Some port)) (agree ◌==◌ b.local (Some local)) ends.0 in
    record {
      local_is = both_set b.local local near.1 (omega (arith, sides));
      port_is = same_set b.port port near.0;
      peer_is = both_peers b.peer peer ends.1 (omega (arith, sides));
    }

pub four_from : (local port : ℕ) (peer : Addr) (b : Block) → HasFour local port peer b
    → has_four local port peer b ≡ true
four_from local port peer b h =
    (λ i. ((are_same (h.port_is i) (Some port) && agree ◌==◌ (h.local_is i) (Some local))
    && agree is_addr (h.peer_is i) (Some peer))
    && ((one_sided (h.local_is i) (Some local) + one_sided (h.peer_is i) (Some peer)) == 0))
    ∙ and_from (((port == port) && (local == local)) && is_addr peer peer) (0 == 0)
    (and_from ((port == port) && (local == local)) (is_addr peer peer)
    (and_from (port == port) (local == local) (eq-eqb port port refl) (eq-eqb local local refl))
    (is_addr-refl peer)) refl

-- a block that lacks its port or its peer has not all four
pub four_without_port : (local port : ℕ) (peer : Addr) (b : Block) → b.port ≡ None → has_four local port peer b ≡ false
four_without_port local port peer b none =
    false_from_ne_true (has_four local port peer b)
    (λ e. absurd (none-some port (sym none ∙ (four_parts local port peer b e).port_is)))

pub four_without_peer : (local port : ℕ) (peer : Addr) (b : Block) → b.peer ≡ None → has_four local port peer b ≡ false
four_without_peer local port peer b none =
    false_from_ne_true (has_four local port peer b)
    (λ e. absurd (none-some peer (sym none ∙ (four_parts local port peer b e).peer_is)))

-- ---- the cached connection

connected_by : (b : Block) (local port : Option ℕ) (peer : Option Addr) (k : Connection) → b.local ≡ local
    → b.port ≡ port → b.peer ≡ peer → connection_by b.fd local port peer ≡ Some k → is_connected_as k b ≡ true
connected_by b (Some l) (Some p) (Some a) k le pe ae e =
    let made : Connection = record { fd = b.fd; local = record { ip = l; port = p }; peer = a } in
    let same : made ≡ k = same_Some made k e in
    subst (λ (c : Connection). is_connected_as c b ≡ true) same
    (and_from (b.fd == b.fd) (has_four l p a b) (eq-eqb b.fd b.fd refl)
    (four_from l p a b (record { local_is = le; port_is = pe; peer_is = ae })))
connected_by b None port peer k le pe ae e = absurd (none-some k e)
connected_by b (Some l) None peer k le pe ae e = absurd (none-some k e)
connected_by b (Some l) (Some p) None k le pe ae e = absurd (none-some k e)

-- the connection of a block that was found may be cached
pub cached_found : (p : Block → Bool) (bs : List Block) (b : Block) → find p bs ≡ Some b → IsCached bs (connection_of b)
cached_found p bs b e = go (connection_of b) refl
  where
    go : (o : Option Connection) → connection_of b ≡ o → IsCached bs o
    go None f = tt
    go (Some k) f =
        let at = find_gives p bs b e in
        let is = connected_by b b.local b.port b.peer k refl refl refl f in
        let counts : 1 ≤ count_by (is_connected_as k) bs =
        counts_at (is_connected_as k) bs at.0 b at.1 (ap (is_connected_as k) at.2 ∙ is) in
        omega (arith, counts)

pub cached_by_best : (q : LookupKey) (bs : List Block) (b : Block) → best_block q bs ≡ Some b
    → IsCached bs (connection_of b)
cached_by_best q bs b e = let k = best_found_as q bs b e in cached_found (has_score k.0 q) bs b k.1

counted_found : (p : Block → Bool) (bs : List Block) → 0 < count_by p bs → (b : Block) × (find p bs ≡ Some b)
counted_found p bs some = go (find p bs) refl
  where
    go : (o : Option Block) → find p bs ≡ o → (b : Block) × (find p bs ≡ Some b)
    go None e = absurd (omega (arith, none_counted p bs e))
    go (Some b) e = (b, e)

-- a cached connection is the one of the best block
pub cached_is_best : (bs : List Block) (k : Connection) → AreApart bs → IsCached bs (Some k)
    → (b : Block) × (b.fd ≡ k.fd) × (best_block (four k.local.ip k.local.port k.peer) bs ≡ Some b)
cached_is_best bs k apart cached =
    let found = counted_found (is_connected_as k) bs cached in
    let b : Block = found.0 in
    let at = find_gives (is_connected_as k) bs b found.1 in
    let parts = and_parts (has_fd k.fd b) (has_four k.local.ip k.local.port k.peer b) at.3 in
    let here : has_four k.local.ip k.local.port k.peer (get_or bs at.0 b) ≡ true =
    ap (has_four k.local.ip k.local.port k.peer) at.2 ∙ parts.1 in
    let only : youngest_block 0 (four k.local.ip k.local.port k.peer) bs ≡ Some b =
    find_only (has_four k.local.ip k.local.port k.peer) bs at.0 b at.1 here (apart.fours k.local.ip k.local.port k.peer)
    ∙ ap Some at.2 in (
      b,
      eqb-true b.fd k.fd parts.0,
      ap (λ o. option_or o (option_or (youngest_block 1 (four k.local.ip k.local.port k.peer) bs)
          (youngest_block 2 (four k.local.ip k.local.port k.peer) bs))) only,
    )

-- ---- a removal

pub apart_remove : (bs : List Block) (i : ℕ) (d : Block) → AreApart bs → i < length bs → AreApart (remove bs i)
apart_remove bs i d apart lt = record {
  fds = λ fd. omega (arith, counted-remove (has_fd fd) bs i d lt, apart.fds fd);
  least = λ fd some. apart.least fd (omega (arith, counted-remove (has_fd fd) bs i d lt));
  most = λ fd some. apart.most fd (omega (arith, counted-remove (has_fd fd) bs i d lt));
  ports = omega (arith, counted-remove lacks_port bs i d lt, apart.ports);
  fours =
      λ local port peer. omega (
        arith,
        counted-remove (has_four local port peer) bs i d lt,
        apart.fours local port peer,
      );
}

-- a connection of another descriptor isn't the block's
pub other_fd : (k : Connection) (b : Block) → k.fd ≢ b.fd → is_connected_as k b ≡ false
other_fd k b ne =
    and_left (has_fd k.fd b) (has_four k.local.ip k.local.port k.peer b) (ne_eqb b.fd k.fd (λ e. ne (sym e)))

forgotten_other : (fd : ℕ) (cache : Option Connection) (k : Connection) → forgotten fd cache ≡ Some k
    → (cache ≡ Some k) × (k.fd ≢ fd)
forgotten_other fd None k e = absurd (none-some k e)
forgotten_other fd (Some c) k e = go (c.fd == fd) refl e
  where
    go : (t : Bool) → (c.fd == fd) ≡ t → cond t None (Some c) ≡ Some k → (Some c ≡ Some k) × (k.fd ≢ fd)
    go true same e = absurd (none-some k e)
    go false other e = (e, subst (λ (j : Connection). j.fd ≢ fd) (same_Some c k e) (eqb-false c.fd fd other))

pub cached_remove : (bs : List Block) (i : ℕ) (d : Block) (cache : Option Connection) (fd : ℕ) → i < length bs
    → (get_or bs i d).fd ≡ fd → IsCached bs cache → IsCached (remove bs i) (forgotten fd cache)
cached_remove bs i d cache fd lt same h = go (forgotten fd cache) refl
  where
    go : (o : Option Connection) → forgotten fd cache ≡ o → IsCached (remove bs i) o
    go None e = tt
    go (Some k) e =
        let other = forgotten_other fd cache k e in
        let cached : 0 < count_by (is_connected_as k) bs = subst (IsCached bs) other.0 h in
        omega (
          arith,
          counted-remove (is_connected_as k) bs i d lt,
          ap one_if (other_fd k (get_or bs i d) (λ f. other.1 (f ∙ same))),
          cached,
        )

-- ---- a new block

pub apart_open : (bs : List Block) (fd : ℕ) → AreApart bs → IsLowestUnused bs fd → fd < 67
    → AreApart (unbound_block fd ∷ bs)
apart_open bs fd apart lowest most = record {
  fds = λ k. elim (cases_eq fd k) [
    | inl e ↦ omega (
      arith,
      count_cons (has_fd k) (unbound_block fd) bs,
      one_if-most (fd == k),
      none_counted (has_fd fd) bs lowest.free,
      ap (λ n. count_by (has_fd n) bs) e,
    )
    | inr ne ↦ omega (arith, count_cons (has_fd k) (unbound_block fd) bs, ap one_if (ne_eqb fd k ne), apart.fds k)
  ];
  least = λ k some. elim (cases_eq fd k) [
    | inl e ↦ omega (arith, lowest.least, e)
    | inr ne ↦ apart.least k (omega
        (arith, count_cons (has_fd k) (unbound_block fd) bs, ap one_if (ne_eqb fd k ne), some))
  ];
  most = λ k some. elim (cases_eq fd k) [
    | inl e ↦ omega arith
    | inr ne ↦ apart.most k (omega
        (arith, count_cons (has_fd k) (unbound_block fd) bs, ap one_if (ne_eqb fd k ne), some))
  ];
  ports = omega (arith, count_cons lacks_port (unbound_block fd) bs, apart.ports);
  fours =
      λ local port peer. omega (
        arith,
        count_cons (has_four local port peer) (unbound_block fd) bs,
        apart.fours local port peer,
      );
}

pub cached_open : (bs : List Block) (b : Block) (cache : Option Connection) → IsCached bs cache
    → IsCached (b ∷ bs) cache
cached_open bs b None h = tt
cached_open bs b (Some k) h = omega (arith, count_cons (is_connected_as k) b bs, h)

-- ---- how each call changes the block of its descriptor

-- if no test of a list passes, the first one doesn't
first_test : {E : Type 0} (t : Bool) (x : E) (rest : Option E) → cond t (Some x) rest ≡ None → t ≡ false
first_test true x rest e = absurd (none-some x (sym e))
first_test false x rest e = refl

third_test : {E : Type 0} (t u v : Bool) (x y z : E) → cond t (Some x) (cond u (Some y) (cond v (Some z) None)) ≡ None
    → v ≡ false
third_test true u v x y z e = absurd (none-some x (sym e))
third_test false true v x y z e = absurd (none-some y (sym e))
third_test false false v x y z e = first_test v z None e

-- a block that may be bound has no port
pub unbound_port : (c : Config) (bs : List Block) (b : Block) (a : Addr)
    → first_fault (block_bind_faults c bs b a) ≡ None → b.port ≡ None
unbound_port c bs b a e = go b.port b.local refl (first_test (is_some b.port || is_some b.local) _ _ e)
  where
    go : (o l : Option ℕ) → b.port ≡ o → is_some o || is_some l ≡ false → b.port ≡ None
    go None l f g = f
    go (Some p) l f g = absurd (true≢false g)

-- if a connect has no fault, no other block has the four values that it sets
pub unmet_four : (c : Config) (bs : List Block) (b : Block) (a : Addr)
    → first_fault (block_connect_faults c bs b a) ≡ None
    → is_some (youngest_block 0 (record { local = Some (source_for c (plain b) a.ip); port = b.port; peer = Some a })
    bs) ≡ false
unmet_four c bs b a e =
    third_test (a.port == 0) (not (is_reached a.ip))
    (is_some (youngest_block 0 (record { local = Some (source_for c (plain b) a.ip); port = b.port; peer = Some a })
    bs)) _ _ _ e

counted_le : (p r : Block → Bool) → ((b : Block) → p b ≡ true → r b ≡ true) → (bs : List Block)
    → count_by p bs ≤ count_by r bs
counted_le p r follows [] = omega arith
counted_le p r follows (b ∷ bs) = go (counted_le p r follows bs) (p b) refl
  where
    go : count_by p bs ≤ count_by r bs → (t : Bool) → p b ≡ t → count_by p (b ∷ bs) ≤ count_by r (b ∷ bs)
    go rest true met =
        omega (arith, count_cons p b bs, count_cons r b bs, ap one_if met, ap one_if (follows b met), rest)
    go rest false missed = omega (arith, count_cons p b bs, count_cons r b bs, ap one_if missed, rest)

-- if no block is the best match, none matches
no_best_counts : (q : LookupKey) (bs : List Block) → is_some (best_block q bs) ≡ false → count_by (does_match q) bs ≡ 0
no_best_counts q bs e = go (count_by (does_match q) bs) refl
  where
    three : (a b c : Option Block) → is_some (option_or a (option_or b c)) ≡ false
        → (a ≡ None) × (b ≡ None) × (c ≡ None)
    three (Some x) b c e = absurd (true≢false e)
    three None (Some x) c e = absurd (true≢false e)
    three None None (Some x) e = absurd (true≢false e)
    three None None None e = (refl, refl, refl)

    none : (k : ℕ) → k ≤ 2 → youngest_block k q bs ≡ None
    none zero le = (three (youngest_block 0 q bs) (youngest_block 1 q bs) (youngest_block 2 q bs) e).0
    none (suc zero) le = (three (youngest_block 0 q bs) (youngest_block 1 q bs) (youngest_block 2 q bs) e).1
    none (suc (suc zero)) le = (three (youngest_block 0 q bs) (youngest_block 1 q bs) (youngest_block 2 q bs) e).2
    none (suc (suc (suc k))) le = absurd (omega arith)

    go : (n : ℕ) → count_by (does_match q) bs ≡ n → count_by (does_match q) bs ≡ 0
    go zero f = f
    go (suc n) f =
        let found = counted_found (does_match q) bs (omega (arith, f)) in
        let b : Block = found.0 in
        let at = find_gives (does_match q) bs b found.1 in
        let w : ℕ = wildcards q (plain b) in
        let scored : has_score w q b ≡ true = and_from (does_match q b) (w == w) at.3 (eq-eqb w w refl) in
        let counts : 1 ≤ count_by (has_score w q) bs =
        counts_at (has_score w q) bs at.0 b at.1 (ap (has_score w q) at.2 ∙ scored) in
        absurd (omega (
          arith,
          counts,
          none_counted (has_score w q) bs
              (none w (omega (arith, one_sided-most b.local q.local, one_sided-most b.peer q.peer))),
        ))

pub is_None : {X : Type 0} (o : Option X) → is_some o ≡ false → o ≡ None
is_None None e = refl
is_None (Some x) e = absurd (true≢false e)

agrees_with : (local : Option ℕ) (ip source : ℕ) → source ≡ unwrap_or local ip → (o : Option ℕ) → o ≡ Some source
    → agree ◌==◌ o local ≡ true
agrees_with None ip source from None e = refl
agrees_with None ip source from (Some x) e = refl
agrees_with (Some l) ip source from None e = refl
agrees_with (Some l) ip source from (Some x) e = eq-eqb x l (same_Some x source e ∙ from)

-- no block has the four values that a connect sets
pub no_four : (bs : List Block) (last local asked later : Option ℕ) (ip source port : ℕ) (to : Addr)
    → source ≡ unwrap_or local ip
    → is_some (youngest_block 0 (record { local = Some source; port = asked; peer = Some to }) bs) ≡ false
    → GivesPort bs last local asked port later → count_by (has_four source port to) bs ≡ 0
no_four bs last local (Some p) later ip source port to from none given =
    subst (λ (k : ℕ). count_by (has_four source k to) bs ≡ 0) (sym given.0)
    (none_counted (has_four source p to) bs (is_None (youngest_block 0 (four source p to) bs) none))
no_four bs last local None later ip source port to from none given =
    omega (
      arith,
      counted_le (has_four source port to) (does_match (key_port local port)) follows bs,
      no_best_counts (key_port local port) bs given.0.free,
    )
  where
    follows : (b : Block) → has_four source port to b ≡ true → does_match (key_port local port) b ≡ true
    follows b e =
        let h = four_parts source port to b e in
        and_from (are_same b.port (Some port) && agree ◌==◌ b.local local) (agree is_addr b.peer None)
        (and_from (are_same b.port (Some port)) (agree ◌==◌ b.local local)
        (ap (λ o. are_same o (Some port)) h.port_is ∙ eq-eqb port port refl)
        (agrees_with local ip source from b.local h.local_is))
        (agrees_none b.peer)
      where
        agrees_none : (o : Option Addr) → agree is_addr o None ≡ true
        agrees_none None = refl
        agrees_none (Some a) = refl

cached_forgotten : (bs : List Block) (fd : ℕ) (cache : Option Connection) → IsCached bs cache
    → IsCached bs (forgotten fd cache)
cached_forgotten bs fd None h = tt
cached_forgotten bs fd (Some k) h = go (k.fd == fd)
  where
    go : (t : Bool) → IsCached bs (cond t None (Some k))
    go true = tt
    go false = h

module _ (bs : List Block) (fd index : ℕ) (b : Block) (apart : AreApart bs) (at : IsLocated fd bs index b) where
  ported : lacks_port b ≡ false
  ported = go (lacks_port b) refl
    where
      go : (t : Bool) → lacks_port b ≡ t → lacks_port b ≡ false
      go true e =
          absurd (omega (arith, counts_at lacks_port bs index b at.within (ap lacks_port (at.is b) ∙ e), apart.ports))
      go false e = e

  portless_peer : b.port ≡ None → b.peer ≡ None
  portless_peer none = go b.peer refl (sym (ap (λ o. is_some b.peer && is_none o) none) ∙ ported)
    where
      go : (o : Option Addr) → b.peer ≡ o → is_some b.peer && is_none {T = ℕ} None ≡ false → b.peer ≡ None
      go None e f = e
      go (Some a) e f = absurd (true≢false (sym (ap (λ p. is_some p && is_none {T = ℕ} None) e) ∙ f))

  -- a new block at this index
  apart_at : (y : Block) → y.fd ≡ b.fd → lacks_port y ≡ false → IsFresh bs b y → AreApart (set bs index y)
  apart_at y same has fresh =
      apart_set bs index y b apart at.within (same ∙ sym (ap (λ c. c.fd) (at.is b))) has
      (subst (λ (c : Block). IsFresh bs c y) (sym (at.is b)) fresh)

  cached_at : (y : Block) (cache : Option Connection)
      → ((k : Connection) → cache ≡ Some k → is_connected_as k b ≡ true → is_connected_as k y ≡ true)
      → IsCached bs cache → IsCached (set bs index y) cache
  cached_at y cache keeps h =
      cached_set bs index y b cache at.within (λ k e old. keeps k e (sym (ap (is_connected_as k) (at.is b)) ∙ old)) h

  pub option_keeps : (option : Opt) (on : Bool) (cache : Option Connection) → IsCached bs cache
      → AreApart (set bs index (block_with_option option on b))
      × IsCached (set bs index (block_with_option option on b)) cache
  option_keeps Broadcast on cache h = (
    apart_at (block_with_option Broadcast on b) refl ported (λ local port peer e. inl e),
    cached_at (block_with_option Broadcast on b) cache (λ k e old. old) h,
  )
  option_keeps ReusePort on cache h = (
    apart_at (block_with_option ReusePort on b) refl ported (λ local port peer e. inl e),
    cached_at (block_with_option ReusePort on b) cache (λ k e old. old) h,
  )

  pub limit_keeps : (limit : ℕ) (cache : Option Connection) → IsCached bs cache
      → AreApart (set bs index (limited_block limit b)) × IsCached (set bs index (limited_block limit b)) cache
  limit_keeps limit cache h = (
    apart_at (limited_block limit b) refl ported (λ local port peer e. inl e),
    cached_at (limited_block limit b) cache (λ k e old. old) h,
  )

  -- an unconnected block without a port gets one
  pub bound_keeps : (local : Option ℕ) (port : ℕ) (cache : Option Connection) → b.port ≡ None → IsCached bs cache
      → AreApart (set bs index (bound_block local port b)) × IsCached (set bs index (bound_block local port b)) cache
  bound_keeps local port cache none h = (
    apart_at (bound_block local port b) refl (and_right (is_some b.peer) false refl)
        (λ l p peer e. absurd (false≢true
        (sym (four_without_peer l p peer (bound_block local port b) (portless_peer none)) ∙ e))),
    cached_at (bound_block local port b) cache
        (λ k e old. absurd (false≢true
        (sym (and_right (has_fd k.fd b) (has_four k.local.ip k.local.port k.peer b)
        (four_without_port k.local.ip k.local.port k.peer b none)) ∙ old))) h,
  )

  pub ensured_keeps : (last later : Option ℕ) (port : ℕ) (cache : Option Connection)
      → GivesPort bs last b.local b.port port later → IsCached bs cache
      → AreApart (set bs index (bound_block b.local port b))
      × IsCached (set bs index (bound_block b.local port b)) cache
  ensured_keeps last later port cache given h = go b.port refl given
    where
      go : (o : Option ℕ) → b.port ≡ o → GivesPort bs last b.local o port later
          → AreApart (set bs index (bound_block b.local port b))
          × IsCached (set bs index (bound_block b.local port b)) cache
      go None e given = bound_keeps b.local port cache e h
      go (Some p) e given =
          let same : b ≡ bound_block b.local port b = λ i. record b { port = (e ∙ ap Some (sym given.0)) i } in
          subst (λ (y : Block). AreApart (set bs index y) × IsCached (set bs index y) cache) same
          (apart_at b refl ported (λ l p peer e. inl e), cached_at b cache (λ k e old. old) h)

  pub disconnected_keeps : (cache : Option Connection) → IsCached bs cache
      → AreApart (set bs index (disconnected_block b))
      × IsCached (set bs index (disconnected_block b)) (forgotten fd cache)
  disconnected_keeps cache h = go (is_some b.peer) refl
    where
      gone : Block
      gone = record b { local = None; peer = None }

      keeps : (y : Block) (k : Connection) → forgotten fd cache ≡ Some k → is_connected_as k b ≡ true
          → is_connected_as k y ≡ true
      keeps y k e old =
          absurd (false≢true (sym (other_fd k b (λ f. (forgotten_other fd cache k e).1 (f ∙ at.named))) ∙ old))

      go : (t : Bool) → is_some b.peer ≡ t
          → AreApart (set bs index (cond t gone b)) × IsCached (set bs index (cond t gone b)) (forgotten fd cache)
      go true e = (
        apart_at gone refl refl (λ l p peer f. absurd (false≢true (sym (four_without_peer l p peer gone refl) ∙ f))),
        cached_at gone (forgotten fd cache) (keeps gone) (cached_forgotten bs fd cache h),
      )
      go false e = (
        apart_at b refl ported (λ l p peer f. inl f),
        cached_at b (forgotten fd cache) (keeps b) (cached_forgotten bs fd cache h),
      )

  pub connected_keeps : (source port : ℕ) (to : Addr) (cache : Option Connection) → b.peer ≡ None
      → count_by (has_four source port to) bs ≡ 0 → IsCached bs cache
      → AreApart (set bs index (connected_block source port to b))
      × IsCached (set bs index (connected_block source port to b)) cache
  connected_keeps source port to cache none free h = (
    apart_at (connected_block source port to b) refl refl fresh,
    cached_at (connected_block source port to b) cache
        (λ k e old. absurd (false≢true
        (sym (and_right (has_fd k.fd b) (has_four k.local.ip k.local.port k.peer b)
        (four_without_peer k.local.ip k.local.port k.peer b none)) ∙ old))) h,
  )
    where
      fresh : IsFresh bs b (connected_block source port to b)
      fresh l p peer e =
          let f = four_parts l p peer (connected_block source port to b) e in
          inr ((λ i. count_by (has_four (same_Some l source (sym f.local_is) i) (same_Some p port (sym f.port_is) i)
          (same_Some peer to (sym f.peer_is) i)) bs) ∙ free)

  -- the new block has the same index
  pub located_after : (y : Block) → y.fd ≡ b.fd → IsLocated fd (set bs index y) index y
  located_after y same = record {
    within = rw length-set at.within;
    is = λ d. get_or-set_same bs index y d at.within;
    named = same ∙ at.named;
  }

pub disconnected_peer : (b : Block) → (disconnected_block b).peer ≡ None
disconnected_peer b = go b.peer refl
  where
    go : (o : Option Addr) → b.peer ≡ o → (cond (is_some b.peer) (record b { local = None; peer = None }) b).peer ≡ None
    go None e = ap (λ t. (cond t (record b { local = None; peer = None }) b).peer) (ap is_some e) ∙ e
    go (Some a) e = ap (λ t. (cond t (record b { local = None; peer = None }) b).peer) (ap is_some e)

pub disconnected_fd : (b : Block) → (disconnected_block b).fd ≡ b.fd
disconnected_fd b = go (is_some b.peer)
  where
    go : (t : Bool) → (cond t (record b { local = None; peer = None }) b).fd ≡ b.fd
    go true = refl
    go false = refl

pub option_fd : (option : Opt) (on : Bool) (b : Block) → (block_with_option option on b).fd ≡ b.fd
option_fd Broadcast on b = refl
option_fd ReusePort on b = refl
