-- The link's state that the fields mean (this project's own).
use Rattle.std.specs.Prelude.{map}
use Rattle.flat_ether.specs.Icmp.{quote_of}
use Rattle.flat_ether.specs.Links.{LinkState}
use Rattle.ether_host.specs.Buffers.{held_in}
use Rattle.ether_host.specs.Replies.{packets_left}
use Rattle.ether_host.specs.declared.layer.LinkLayer.{LinkLayer}

-- the state that a link shows
abbrev pub link_seen : LinkLayer → LinkState
link_seen l = record {
  config = l.config;
  link = l.link;
  neighbours = l.neighbours.items;
  replies = l.replies.items;
  held = map held_in l.held.items;
  answer = packets_left l.answer;
  answer_hop = l.answer_hop;
  answer_id = l.answer_id;
  firsts = map quote_of l.firsts.items;
  errors = l.errors.items;
  claim = l.claim;
  errors_left = l.errors_left;
  tallies = l.tallies;
}
