-- The ways of a datagram's packets (`ip_output`, `looutput` and `ether_output` of volume 2, chapters 8, 5 and 4).
use Rattle.std.specs.Prelude.{ℕ, ◌+◌, List, [], length}
use Rattle.flat_model.specs.Amounts.Weight.{Item}
use Rattle.mbuf_chain.specs.Chain.{ChainView}
use Rattle.ip_out.specs.declared.ways.Way.{Way}
use Rattle.ip_out.specs.declared.ways.Way.TheVariants.{Link, Loopback, Both}
use Rattle.ip_out.specs.Packets.{later_need}

-- the packets that go to the link, and those that come back
abbrev pub to_link_by : Way → List Item → List Item
to_link_by Link items = items
to_link_by Loopback items = []
to_link_by Both items = items

abbrev pub to_self_by : Way → List Item → List Item
to_self_by Link items = []
to_self_by Loopback items = items
to_self_by Both items = items

-- how many mbufs they take besides those of the chain; a copy of a chain takes the number of the chain's mbufs
abbrev pub way_need : Way → ChainView → ℕ → ℕ
way_need Link v mtu = later_need v mtu
way_need Loopback v mtu = later_need v mtu
way_need Both v mtu = length v.entries + (later_need v mtu + later_need v mtu)
