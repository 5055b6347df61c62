-- The encoding of replies to options.
use Rattle.std.specs.Prelude.{ℕ, Bool, List, [], ◌++◌, replicate, if◌then◌else◌}
use Rattle.byteorder.specs.Endian.{big_bytes}
use Rattle.nbd_codec.specs.declared.constants.TheConstants.{OPTION_REPLY_MAGIC, REPLY_ACK, REPLY_SERVER, REPLY_INFO, REPLY_ERR_UNSUP, REPLY_ERR_INVALID, REPLY_ERR_UNKNOWN, REPLY_ERR_TOO_BIG, INFO_EXPORT, INFO_BLOCK_SIZE, MINIMUM_BLOCK, PREFERRED_BLOCK, TRANSMISSION_FLAGS, EXPORT_ZEROS, NO_DATA_LEN, SERVER_LEN, SERVER_NAME_LEN, INFO_EXPORT_LEN, INFO_BLOCK_SIZE_LEN}
use Rattle.nbd_codec.specs.declared.option_replies.OptionReply.{OptionReply}
use Rattle.nbd_codec.specs.declared.option_replies.OptionReply.TheVariants.{Ack, Server, Export, BlockSize, ErrUnsup, ErrInvalid, ErrUnknown, ErrTooBig}

-- the reply type
abbrev pub type_of : OptionReply → ℕ
type_of Ack = REPLY_ACK
type_of Server = REPLY_SERVER
type_of (Export size) = REPLY_INFO
type_of (BlockSize max_payload) = REPLY_INFO
type_of ErrUnsup = REPLY_ERR_UNSUP
type_of ErrInvalid = REPLY_ERR_INVALID
type_of ErrUnknown = REPLY_ERR_UNKNOWN
type_of ErrTooBig = REPLY_ERR_TOO_BIG

-- the length of the data, and the data: an error carries none
unfoldable pub reply_data : OptionReply → List ℕ
reply_data Ack = big_bytes 4 NO_DATA_LEN
reply_data Server = big_bytes 4 SERVER_LEN ++ big_bytes 4 SERVER_NAME_LEN
reply_data (Export size) = big_bytes 4 INFO_EXPORT_LEN ++ (big_bytes 2 INFO_EXPORT ++ (big_bytes 8 size ++ big_bytes 2 TRANSMISSION_FLAGS))
reply_data (BlockSize max_payload) = big_bytes 4 INFO_BLOCK_SIZE_LEN ++ (big_bytes 2 INFO_BLOCK_SIZE ++ (big_bytes 4 MINIMUM_BLOCK ++ (big_bytes 4 PREFERRED_BLOCK ++ big_bytes 4 max_payload)))
reply_data ErrUnsup = big_bytes 4 NO_DATA_LEN
reply_data ErrInvalid = big_bytes 4 NO_DATA_LEN
reply_data ErrUnknown = big_bytes 4 NO_DATA_LEN
reply_data ErrTooBig = big_bytes 4 NO_DATA_LEN

-- the magic, the option's number, the reply type, and the data behind its length
unfoldable pub option_reply_encoding : ℕ → OptionReply → List ℕ
option_reply_encoding option reply = big_bytes 8 OPTION_REPLY_MAGIC ++ (big_bytes 4 option ++ (big_bytes 4 (type_of reply) ++ reply_data reply))

-- the answer to EXPORT_NAME
unfoldable pub export_encoding : ℕ → Bool → List ℕ
export_encoding size no_zeroes = big_bytes 8 size ++ (big_bytes 2 TRANSMISSION_FLAGS ++ (if no_zeroes then [] else replicate EXPORT_ZEROS 0))
