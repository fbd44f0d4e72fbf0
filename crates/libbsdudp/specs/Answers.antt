-- The result codes for C (4.4BSD's `errno.h`; that an error is the negative of its number, and that a full output queue
-- has a number of its own, is this project's own).
use Rattle.std.specs.Prelude.{ℕ, ℤ, pos, negsuc, neg_ℤ, Bool, true, false, if◌then◌else◌, min, Option, Some, None, Result, Ok, Err}
use Rattle.flat_model.specs.Scripts.Errnos.{errno_number}
use Rattle.flat_model.specs.declared.address.Addr.{Addr}
use Rattle.flat_model.specs.declared.errno.Errno.{Errno}
use Rattle.flat_model.specs.declared.errno.Errno.TheVariants.{NoBufs}
use Rattle.flat_model.specs.declared.errno.Lack.TheVariants.{Queue}

-- ENXIO, 6
abbrev pub no_stack : ℤ
no_stack = negsuc 5

-- EMSGSIZE, 40
abbrev pub bad_length : ℤ
bad_length = negsuc 39

-- EINVAL, 22
abbrev pub invalid : ℤ
invalid = negsuc 21

-- a count, which stops at 2 ^ 31 - 1
abbrev pub count_code : ℕ → ℤ
count_code n = pos (min n 2147483647)

-- whether an error has a number of its own: the output queue is full
abbrev pub is_queue_full : Errno → Bool
is_queue_full (NoBufs Queue) = true
is_queue_full _ = false

abbrev pub refusal_code : Errno → ℤ
refusal_code errno = if is_queue_full errno then negsuc 154 else neg_ℤ (pos (errno_number errno))

-- for a call that only succeeds or fails
abbrev pub done_code : Result (Unit {0}) Errno → ℤ
done_code (Ok done) = pos 0
done_code (Err errno) = refusal_code errno

-- for `socket`, with a descriptor, and for a send, with the number of its bytes
abbrev pub counted_code : Result ℕ Errno → ℤ
counted_code (Ok n) = count_code n
counted_code (Err errno) = refusal_code errno

-- for `recvfrom`, with the number of bytes copied
abbrev pub received_code : Result (Addr × ℕ) Errno → ℤ
received_code (Ok got) = count_code got.1
received_code (Err errno) = refusal_code errno

-- for `tx` and the query for the next packet: 0 if the output queue is empty
abbrev pub given_code : Option ℕ → ℤ
given_code None = pos 0
given_code (Some n) = count_code n
