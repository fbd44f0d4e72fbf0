-- The view of the fields of a stack, and when they have one (this project's own).
use Rattle.std.specs.Prelude.{◌≡◌, None}
use Rattle.net_stack.specs.Stack.{StackView, IsStack}
use Rattle.flat_model.specs.declared.config.Config.{Config}
use Rattle.net_stack.specs.declared.host.Host.{Host}
use Rattle.net_stack.specs.declared.stack.Stack.TheInside.{Inside}

-- the fields, with what is in the box
pub record Fields : Type 0 where
  pub config : Config
  pub host : Host

abbrev pub fields : Inside → Fields
fields s = record { config = s.config; host = s.host.value }

abbrev pub stack_of : Fields → StackView
stack_of s = record {
  config = s.config;
  pool = s.host.pool;
  socks = s.host.socks;
  reass = s.host.reass;
  output = s.host.net.out;
  next_id = s.host.net.next_id;
  counters = s.host.net.counters;
}

-- the view is consistent, the link is the configuration's, and no packet is left that was to come back
pub record IsStackInside (s : Fields) : Type 0 where
  pub stack : IsStack (stack_of s)
  pub mtu : s.host.net.mtu ≡ s.config.mtu
  pub looped : s.host.net.looped ≡ record { first = None; last = None; len = 0 }
