-- An address that an interface leads to and that isn't the machine's own: it's used as given.
use Rattle.std.proofs.Common.{◌≡◌, ◌≢◌, ℕ, Bool, true, false, ◌==◌, not, cond, List, Option, Some, None, refl, sym, ap, ◌∙◌, ◌⊎◌, inl, inr}
use Rattle.std.specs.Prelude.{is_some}
use Rattle.std.proofs.lemmas.Bool.{false≢true, true≢false}
use Rattle.std.proofs.lemmas.Bool.Decides.{eqb_tells}
use Rattle.flat_model.specs.Machine.Calls.{is_reached, read_address, read_addr}
use Rattle.flat_model.specs.Machine.State.{limited_broadcast}
use Rattle.flat_model.specs.Packets.Header.{first_fault}
use Rattle.flat_model.specs.declared.address.Addr.{Addr}
use Rattle.flat_model.specs.declared.config.Config.{Config}
use Rattle.flat_model.specs.declared.errno.Errno.{Errno}
use Rattle.flat_model.specs.declared.errno.Errno.TheVariants.{AddressNotAvailable, HostUnreachable}
use Rattle.pcb_table.specs.declared.block.Block.{Block}
use Rattle.pcb_table.specs.Inside.Search.{block_connect_faults}

pub nothing : (x : Option Errno) (b : Bool) → is_some x ≡ not b → b ≡ true → x ≡ None
nothing None b e t = refl
nothing (Some errno) b e t = absurd (true≢false (e ∙ ap not t))

-- what isn't refused is reached
pub reached : (c : Config) (bs : List Block) (b : Block) (a : Addr) → first_fault (block_connect_faults c bs b a) ≡ None
    → is_reached a.ip ≡ true
reached c bs b a none = go (a.port == 0) (is_reached a.ip) _ none
  where
    go : (p r : Bool) (rest : Option Errno)
        → cond p (Some AddressNotAvailable) (cond (not r) (Some HostUnreachable) rest) ≡ None → r ≡ true
    go true r rest e = cc
    go false true rest e = refl
    go false false rest e = cc

other : (ip k : ℕ) → is_reached k ≡ false → is_reached ip ≡ true → (ip == k) ≡ false
other ip k unreached is = go (eqb_tells ip k)
  where
    go : ((ip == k) ≡ true) × (ip ≡ k) ⊎ ((ip == k) ≡ false) × (ip ≢ k) → (ip == k) ≡ false
    go (inl same) = absurd (false≢true (sym unreached ∙ ap is_reached (sym same.1) ∙ is))
    go (inr apart) = apart.0

pub read_is : (c : Config) (a : Addr) → is_reached a.ip ≡ true → a ≡ read_addr c a
read_is c a is = λ j. record { ip = sym same j; port = a.port }
  where
    same : read_address c a.ip ≡ a.ip
    same = (λ j. cond (other a.ip 0 refl is j) c.addr (cond (a.ip == limited_broadcast) c.bcast a.ip))
        ∙ (λ j. cond (other a.ip limited_broadcast refl is j) c.bcast a.ip)
