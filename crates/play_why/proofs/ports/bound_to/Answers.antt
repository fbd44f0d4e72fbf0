use Rattle.play_why.specs.Sockets.{No_socket, Not_bound}
use Rattle.play_why.proofs.ports.bound_to.Goals as goal

pub returns-in_default : goal.returns-in_default
returns-in_default c = No_socket c.in_default.field-0 c.in_default.ensures

pub returns-in-Err : goal.returns-in-Err
returns-in-Err c = Not_bound c.in-Ok.fd c.in-Err.field-0 _ _ c.in-Ok.ensures c.in-Err.ensures c.close.ensures
