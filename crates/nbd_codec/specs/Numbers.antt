-- The numbers on the wire, as doc/proto.md of the NBD project has them.
use Rattle.std.specs.Prelude.{◌≡◌, ◌+◌, ◌^◌, [], ◌∷◌}
use Rattle.byteorder.specs.Endian.{big_bytes}
use Rattle.nbd_codec.specs.declared.constants.TheConstants.{INIT_MAGIC, OPTION_MAGIC, OPTION_REPLY_MAGIC, REQUEST_MAGIC, SIMPLE_REPLY_MAGIC, HANDSHAKE_FLAGS, FIXED_NEWSTYLE, FIXED_NEWSTYLE_NO_ZEROES, GREETING_LEN, CLIENT_FLAGS_LEN, OPTION_EXPORT_NAME, OPTION_ABORT, OPTION_LIST, OPTION_INFO, OPTION_GO, OPTION_HEADER, MAX_OPTION_DATA, REPLY_ACK, REPLY_SERVER, REPLY_INFO, REPLY_ERR_UNSUP, REPLY_ERR_INVALID, REPLY_ERR_UNKNOWN, REPLY_ERR_TOO_BIG, INFO_EXPORT, INFO_BLOCK_SIZE, SERVER_LEN, SERVER_NAME_LEN, INFO_EXPORT_LEN, INFO_BLOCK_SIZE_LEN, NO_DATA_LEN, MINIMUM_BLOCK, PREFERRED_BLOCK, TRANSMISSION_FLAGS, EXPORT_ZEROS, REQUEST_READ, REQUEST_WRITE, REQUEST_DISC, REQUEST_FLUSH, REQUEST_WRITE_ZEROES, FLAG_FUA, FLAG_NO_HOLE, REQUEST_HEADER, REPLY_HEADER, MAX_IN_FLIGHT, NO_ERROR, ERROR_IO, ERROR_NO_MEMORY, ERROR_INVALID, ERROR_NO_SPACE}

-- "NBDMAGIC" and "IHAVEOPT"; and in hexadecimal 3e889045565a9, 25609513 and 67446698
pub record AreMagics : Type 0 where
  pub init : big_bytes 8 INIT_MAGIC ≡ 78 ∷ 66 ∷ 68 ∷ 77 ∷ 65 ∷ 71 ∷ 73 ∷ 67 ∷ []
  pub option : big_bytes 8 OPTION_MAGIC ≡ 73 ∷ 72 ∷ 65 ∷ 86 ∷ 69 ∷ 79 ∷ 80 ∷ 84 ∷ []
  pub option_reply : OPTION_REPLY_MAGIC ≡ 1100100111001001
  pub request : REQUEST_MAGIC ≡ 627086611
  pub simple_reply : SIMPLE_REPLY_MAGIC ≡ 1732535960

-- flags by their bits
pub record AreFlagBits : Type 0 where
  pub handshake : HANDSHAKE_FLAGS ≡ 2 ^ 0 + 2 ^ 1
  pub newstyle : FIXED_NEWSTYLE ≡ 2 ^ 0
  pub no_zeroes : FIXED_NEWSTYLE_NO_ZEROES ≡ 2 ^ 0 + 2 ^ 1
  -- HAS_FLAGS, SEND_FLUSH, SEND_FUA, SEND_WRITE_ZEROES, CAN_MULTI_CONN
  pub transmission : TRANSMISSION_FLAGS ≡ 2 ^ 0 + 2 ^ 2 + 2 ^ 3 + 2 ^ 6 + 2 ^ 8
  pub fua : FLAG_FUA ≡ 2 ^ 0
  pub no_hole : FLAG_NO_HOLE ≡ 2 ^ 1

pub record AreOptions : Type 0 where
  pub export_name : OPTION_EXPORT_NAME ≡ 1
  pub abort : OPTION_ABORT ≡ 2
  pub list : OPTION_LIST ≡ 3
  pub info : OPTION_INFO ≡ 6
  pub go : OPTION_GO ≡ 7
  -- the project's own limit
  pub most_data : MAX_OPTION_DATA ≡ 4096

-- errors have the highest bit
pub record AreOptionReplies : Type 0 where
  pub ack : REPLY_ACK ≡ 1
  pub server : REPLY_SERVER ≡ 2
  pub info : REPLY_INFO ≡ 3
  pub unsup : REPLY_ERR_UNSUP ≡ 2 ^ 31 + 1
  pub invalid : REPLY_ERR_INVALID ≡ 2 ^ 31 + 3
  pub unknown : REPLY_ERR_UNKNOWN ≡ 2 ^ 31 + 6
  pub too_big : REPLY_ERR_TOO_BIG ≡ 2 ^ 31 + 9

-- what the replies to options hold
pub record AreOptionData : Type 0 where
  pub info_export : INFO_EXPORT ≡ 0
  pub info_block_size : INFO_BLOCK_SIZE ≡ 3
  pub server_name : SERVER_NAME_LEN ≡ 0
  -- the project's own sizes, in bytes
  pub minimum : MINIMUM_BLOCK ≡ 1
  pub preferred : PREFERRED_BLOCK ≡ 4096

-- how many bytes each part has
pub record AreLengths : Type 0 where
  pub greeting : GREETING_LEN ≡ 18
  pub client_flags : CLIENT_FLAGS_LEN ≡ 4
  pub option : OPTION_HEADER ≡ 16
  pub no_data : NO_DATA_LEN ≡ 0
  pub server : SERVER_LEN ≡ 4
  pub info_export : INFO_EXPORT_LEN ≡ 12
  pub info_block_size : INFO_BLOCK_SIZE_LEN ≡ 14
  pub zeros : EXPORT_ZEROS ≡ 124
  pub request : REQUEST_HEADER ≡ 28
  pub reply : REPLY_HEADER ≡ 16

pub record AreRequests : Type 0 where
  pub read : REQUEST_READ ≡ 0
  pub write : REQUEST_WRITE ≡ 1
  pub disc : REQUEST_DISC ≡ 2
  pub flush : REQUEST_FLUSH ≡ 3
  pub write_zeroes : REQUEST_WRITE_ZEROES ≡ 6
  -- the project's own limit
  pub in_flight : MAX_IN_FLIGHT ≡ 64

-- none, EIO, ENOMEM, EINVAL, ENOSPC
pub record AreErrors : Type 0 where
  pub none : NO_ERROR ≡ 0
  pub io : ERROR_IO ≡ 5
  pub no_memory : ERROR_NO_MEMORY ≡ 12
  pub invalid : ERROR_INVALID ≡ 22
  pub no_space : ERROR_NO_SPACE ≡ 28
