-- The numbers and names of errors (4.4BSD's sys/errno.h).
use Rattle.std.specs.Prelude.{ℕ, List, codes}
use Rattle.flat_model.specs.declared.errno.Errno.{Errno}
use Rattle.flat_model.specs.declared.errno.Errno.TheVariants.{BadDescriptor, Access, Invalid, TooManyFiles, WouldBlock, DestinationRequired, MessageSize, AddressInUse, AddressNotAvailable, NoBufs, IsConnected, HostUnreachable}
use Rattle.flat_model.specs.declared.errno.Lack.{Lack}
use Rattle.flat_model.specs.declared.errno.Lack.TheVariants.{Pool, Queue}

abbrev pub errno_number : Errno → ℕ
errno_number BadDescriptor = 9
errno_number Access = 13
errno_number Invalid = 22
errno_number TooManyFiles = 24
errno_number WouldBlock = 35
errno_number DestinationRequired = 39
errno_number MessageSize = 40
errno_number AddressInUse = 48
errno_number AddressNotAvailable = 49
errno_number (NoBufs lack) = 55
errno_number IsConnected = 56
errno_number HostUnreachable = 65

abbrev pub name_of : Errno → List ℕ
name_of BadDescriptor = codes "EBADF"
name_of Access = codes "EACCES"
name_of Invalid = codes "EINVAL"
name_of TooManyFiles = codes "EMFILE"
name_of WouldBlock = codes "EWOULDBLOCK"
name_of DestinationRequired = codes "EDESTADDRREQ"
name_of MessageSize = codes "EMSGSIZE"
name_of AddressInUse = codes "EADDRINUSE"
name_of AddressNotAvailable = codes "EADDRNOTAVAIL"
name_of (NoBufs lack) = codes "ENOBUFS"
name_of IsConnected = codes "EISCONN"
name_of HostUnreachable = codes "EHOSTUNREACH"

-- what was lacking
abbrev pub lack_name : Lack → List ℕ
lack_name Pool = codes "pool"
lack_name Queue = codes "queue"
