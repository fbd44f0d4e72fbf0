-- What a send puts where.
use Rattle.std.proofs.Common.{◌≡◌, ℕ, ◌+◌, ◌%◌, Bool, List, ◌++◌, length, take, refl, sym, ap, ◌∙◌, subst}
use Rattle.std.specs.Prelude.{nat_lt}
use Rattle.params.specs.declared.TheConstants.{OUTPUT_QUEUE_PACKETS}
use Rattle.flat_model.specs.Amounts.Weight.{Item}
use Rattle.flat_model.specs.Machine.Send.{need_to, to_link, to_self}
use Rattle.flat_model.specs.Machine.Sending as flat
use Rattle.flat_model.specs.declared.address.Addr.{Addr}
use Rattle.flat_model.specs.declared.counters.Counters.{Counters}
use Rattle.mbuf_chain.specs.Chain.{PoolView}
use Rattle.mbuf_chain.specs.Train.{TrainView}
use Rattle.pcb_table.specs.Table.{Table, KeepsOpen}
use Rattle.pcb_table.specs.Found.{EnsuresPort, SendsFrom}
use Rattle.ip_out.specs.Packets.{train_packets}
use Rattle.ip_out.specs.declared.sending.Sent.{Sent}
use Rattle.sock_calls.specs.declared.net.Net.{Net}
use Rattle.sock_calls.specs.declared.packets.Heading.{Heading}
use Rattle.sock_calls.specs.Inside.Putting.{send_config, sent_as, counts_sent, AreMade, IsPut}

pub put_is : {p q : PoolView} {t u : Table} {n : Net} {made : Sent} {o back : TrainView} {d : Counters} {fd : ℕ}
    {to : Addr} {bytes : List ℕ} (h : Heading)
    → h.id ≡ n.next_id → h.to ≡ to → SendsFrom t fd to.ip h.source → EnsuresPort t fd h.port u → KeepsOpen t u
    → AreMade p (send_config t n.mtu) (sent_as h bytes) n.out q made o
    → d ≡ counts_sent made.is_cut made.is_lost n.counters → back ≡ made.looped
    → IsPut fd to bytes p t n made.is_lost q u (record {
      mtu = n.mtu;
      next_id = (n.next_id + 1) % 65536;
      counters = d;
      out = o;
      looped = back;
    })
put_is {p} {q} {t} {u} {n} {made} {o} {back} {d} {fd} {to} {bytes} h id_is to_is source port keeps a d_is back_is =
    let x : flat.Sending = sent_as h bytes in
    let ps : List Item = flat.packets (send_config t n.mtu) a.clusters x in
    subst (λ (b : TrainView). IsPut fd to bytes p t n made.is_lost q u
    (record { mtu = n.mtu; next_id = (n.next_id + 1) % 65536; counters = d; out = o; looped = b })) (sym back_is)
    record {
      heading = h;
      id = id_is;
      to_is = to_is;
      source = source;
      port = port;
      descriptors = keeps;
      clusters = a.clusters;
      number = subst (λ (k : Addr). length a.clusters ≡ (need_to (send_config t n.mtu) k.ip (length bytes)).clusters)
          to_is a.number;
      free = a.free;
      back = a.back ∙ ap (λ (k : Addr). to_self (send_config t n.mtu) k.ip ps) to_is;
      out = a.out ∙ ap (λ (k : Addr). take OUTPUT_QUEUE_PACKETS
          (train_packets p n.out ++ to_link (send_config t n.mtu) k.ip ps)) to_is;
      is_lost = a.is_lost
          ∙ ap (λ (k : Addr). nat_lt OUTPUT_QUEUE_PACKETS
          (length (train_packets p n.out ++ to_link (send_config t n.mtu) k.ip ps))) to_is;
      next_id = refl;
      counters = d_is ∙ ap (λ (b : Bool). counts_sent b made.is_lost n.counters) a.is_cut;
      mtu = refl;
      queue = a.queue;
      held = a.held;
      plain = a.plain;
      moves = a.moves;
    }
