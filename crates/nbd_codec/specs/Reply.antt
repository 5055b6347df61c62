-- The encoding of simple replies.
use Rattle.std.specs.Prelude.{ℕ, List, [], ◌++◌, Result, Ok, Err}
use Rattle.std.specs.Borrow.{Bor}
use Rattle.byteorder.specs.Endian.{big_bytes}
use Rattle.nbd_codec.specs.declared.constants.TheConstants.{NO_ERROR, SIMPLE_REPLY_MAGIC, ERROR_IO, ERROR_NO_MEMORY, ERROR_INVALID, ERROR_NO_SPACE}
use Rattle.nbd_codec.specs.declared.replies.NbdError.{NbdError}
use Rattle.nbd_codec.specs.declared.replies.NbdError.TheVariants.{Io, NoMemory, Invalid, NoSpace}
use Rattle.nbd_codec.specs.declared.replies.SimpleReply.{SimpleReply}

-- an error's number on the wire
abbrev pub error_number : NbdError → ℕ
error_number Io = ERROR_IO
error_number NoMemory = ERROR_NO_MEMORY
error_number Invalid = ERROR_INVALID
error_number NoSpace = ERROR_NO_SPACE

-- a reply without where it lies in memory
pub data PlainReply : Type 0 where
  Done : (cookie : ℕ) → (payload : List ℕ) → PlainReply
  Refused : (cookie : ℕ) → (error : NbdError) → PlainReply

-- the reply with this cookie and this outcome
abbrev pub outcome_view : ℕ → Result (Bor (List ℕ)) NbdError → PlainReply
outcome_view cookie (Ok payload) = Done cookie payload.now
outcome_view cookie (Err error) = Refused cookie error

-- a reply as contracts see it
abbrev pub reply_view : SimpleReply → PlainReply
reply_view reply = outcome_view reply.cookie reply.outcome

-- sixteen bytes, and what stands behind them
abbrev pub reply_encoding : (number cookie : ℕ) → List ℕ → List ℕ
reply_encoding number cookie payload = big_bytes 4 SIMPLE_REPLY_MAGIC ++ (big_bytes 4 number ++ (big_bytes 8 cookie ++ payload))

-- a payload goes out behind error 0 alone
abbrev pub encoding : PlainReply → List ℕ
encoding (Done cookie payload) = reply_encoding NO_ERROR cookie payload
encoding (Refused cookie error) = reply_encoding (error_number error) cookie []
