use Rattle.std.proofs.Common.{List, ℕ, length, None, Some, sym, ap, ◌∙◌, arith}
use Rattle.std.proofs.lemmas.List.{append-nil}
use Rattle.mbuf_chain.specs.Chain.{ChainView, Entry, PoolView, string}
use Rattle.mbuf_chain.proofs.Laws.Accounts.{held-adds}
use Rattle.mbuf_chain.proofs.Laws.Owners.{live_adds, shown_adds}
use Rattle.sock_calls.proofs.OnePacket.{cluster_string, entry, linked, stored_cluster}
use Rattle.sock_calls.proofs.one_packet.in_cluster.Goals as goal

pub new_plain_before-requires-clause-free : goal.new_plain_before-requires-clause-free
new_plain_before-requires-clause-free c =
    omega (
      arith,
      c.requires.free,
      held-adds c.in-Ok.ensures.ok.3,
      ap (λ (p : PoolView). p.mbufs) c.in-Ok.ensures.ok.3.pool,
    )

pub new_plain_before-requires-clause-back : goal.new_plain_before-requires-clause-back
new_plain_before-requires-clause-back c = live_adds c.in-Ok.ensures.ok.3

pub new_plain_before-requires-clause-bare : goal.new_plain_before-requires-clause-bare
new_plain_before-requires-clause-bare c = ap (λ (v : ChainView). v.front) (shown_adds c.in-Ok.ensures.ok.3)

pub new_plain_before-requires-clause-len : goal.new_plain_before-requires-clause-len
new_plain_before-requires-clause-len c =
    sym (ap (λ (v : ChainView). length (string v)) (shown_adds c.in-Ok.ensures.ok.3)
    ∙ ap (λ (xs : List ℕ). length xs) (append-nil c.args.bytes.now))

-- the mbuf of the headers
abbrev front : List ℕ → Entry
front headers = entry headers 100 None

pub returns-clause-stored : goal.returns-clause-stored
returns-clause-stored c =
    stored_cluster c.args.headers.now c.args.bytes.now _ (omega arith) c.requires.many c.requires.most
    c.in-Ok.ensures.ok.1 c.in-Ok.ensures.ok.2
    (linked (front c.args.headers.now) (entry c.args.bytes.now 56 (Some c.in-Ok.ensures.ok.0))
    c.in-Ok.ensures.ok.3 c.new_plain_before.ensures)

pub returns-clause-string : goal.returns-clause-string
returns-clause-string c =
    cluster_string c.args.headers.now c.args.bytes.now 100 _
    (linked (front c.args.headers.now) (entry c.args.bytes.now 56 (Some c.in-Ok.ensures.ok.0))
    c.in-Ok.ensures.ok.3 c.new_plain_before.ensures)
