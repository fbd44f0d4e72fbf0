-- A query for an error of a socket, by the socket's name.
use Rattle.std.proofs.Common.{◌≡◌, ℕ, Option, Some, None, sym, ap}
use Rattle.std.specs.Prelude.{Result, Ok, Err}
use Rattle.std.specs.Result.{is_ok}
use Rattle.std.proofs.lemmas.Bool.{false≢true}
use Rattle.flat_model.specs.Machine.State.{Socket, socket_at}
use Rattle.flat_model.specs.declared.errno.Errno.{Errno}
use Rattle.flat_model.specs.declared.errno.Errno.TheVariants.{BadDescriptor}
use Rattle.flat_ether.specs.Hosts.{Host, error_of_socket, last_error}
use Rattle.flat_ether.specs.Links.{takes_error}
use Rattle.flat_ether.specs.declared.error.NetFault.{NetFault}
use Rattle.sock_calls.specs.Questions.{name_or_fault, socket_name}
use Rattle.sock_calls.specs.declared.questions.SocketName.{SocketName}

-- the result of a query for an error of the socket with this name, and the host after it
abbrev pub reported : Host → SocketName → Result (Option NetFault) Errno × Host
reported h n = (Ok (takes_error n.port n.peer h.link).0, record h { link = (takes_error n.port n.peer h.link).1 })

name_in : Result SocketName Errno → SocketName → SocketName
name_in (Ok n) other = n
name_in (Err e) other = other

errno_in : Result SocketName Errno → Errno
errno_in (Ok n) = BadDescriptor
errno_in (Err e) = e

pub asked_ok : (h : Host) (fd : ℕ) (name : SocketName) → socket_name fd h.machine ≡ Ok name
    → last_error fd h ≡ reported h name
unfolding name_in
asked_ok h fd name = go (socket_at fd h.machine)
  where
    go : (me : Option Socket) → name_or_fault me ≡ Ok name → error_of_socket me h ≡ reported h name
    go None e = absurd (false≢true (ap is_ok e))
    go (Some me) e = ap (reported h) (ap (λ (r : Result SocketName Errno). name_in r name) e)

pub asked_err : (h : Host) (fd : ℕ) (errno : Errno) → socket_name fd h.machine ≡ Err errno
    → last_error fd h ≡ (Err errno, h)
unfolding errno_in
asked_err h fd errno = go (socket_at fd h.machine)
  where
    go : (me : Option Socket) → name_or_fault me ≡ Err errno → error_of_socket me h ≡ (Err errno, h)
    go None e = ap (λ (x : Errno). (Err x, h)) (ap errno_in e)
    go (Some me) e = absurd (false≢true (sym (ap is_ok e)))
