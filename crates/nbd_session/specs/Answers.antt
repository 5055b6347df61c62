-- What the server answers to options.
use Rattle.std.specs.Prelude.{ℕ, Bool, List, [], ◌++◌, if◌then◌else◌}
use Rattle.nbd_codec.specs.declared.constants.TheConstants.{OPTION_ABORT, OPTION_GO, OPTION_INFO, OPTION_LIST}
use Rattle.nbd_codec.specs.declared.option_replies.OptionReply.TheVariants.{Ack, Server, Export as ExportInfo, BlockSize, ErrUnsup, ErrInvalid, ErrUnknown, ErrTooBig}
use Rattle.nbd_codec.specs.declared.options.Information.{Information}
use Rattle.nbd_codec.specs.declared.options.Information.TheVariants.{Asked, Malformed}
use Rattle.nbd_codec.specs.declared.options.ClientOption.{ClientOption}
use Rattle.nbd_codec.specs.declared.options.ClientOption.TheVariants as options
use Rattle.nbd_codec.specs.ClientOption.{PlainOption, told_of}
use Rattle.nbd_codec.specs.OptionReply.{option_reply_encoding, export_encoding}
use Rattle.nbd_codec.specs.Reply.{Done, Refused, encoding}
use Rattle.nbd_session.specs.declared.answer.Answer.{Answer}
use Rattle.nbd_session.specs.declared.answer.Answer.TheVariants as answers
use Rattle.nbd_session.specs.declared.answer.Export.{Export}

-- the size and flags of the export, the sizes of requests if they are asked for, and ACK
abbrev pub information : Export → (option : ℕ) → (block_size : Bool) → List ℕ
information export option block_size =
    option_reply_encoding option (ExportInfo export.size)
    ++ (if block_size then option_reply_encoding option (BlockSize export.max_payload) else [])
    ++ option_reply_encoding option Ack

-- the answer to INFO or GO: there is one export, with the empty name
abbrev pub info_answer : Export → ℕ → Information → List ℕ
info_answer export option (Asked has_name block_size) = if has_name then option_reply_encoding option ErrUnknown else information export option block_size
info_answer export option Malformed = option_reply_encoding option ErrInvalid

-- the answer to LIST: the one export, if no data came with it
abbrev pub list_answer : (has_data : Bool) → List ℕ
list_answer has_data =
    if has_data then option_reply_encoding OPTION_LIST ErrInvalid
    else option_reply_encoding OPTION_LIST Server ++ option_reply_encoding OPTION_LIST Ack

-- the answer to an option, as far as it depends on it
abbrev pub option_answer : Export → Bool → ClientOption → List ℕ
option_answer export no_zeroes options.ExportName = export_encoding export.size no_zeroes
option_answer export no_zeroes options.Abort = option_reply_encoding OPTION_ABORT Ack
option_answer export no_zeroes (options.List has_data) = list_answer has_data
option_answer export no_zeroes (options.Info info) = info_answer export OPTION_INFO info
option_answer export no_zeroes (options.Go info) = info_answer export OPTION_GO info
option_answer export no_zeroes (options.Other number) = option_reply_encoding number ErrUnsup
option_answer export no_zeroes (options.Oversized number len) = option_reply_encoding number ErrTooBig

-- the answer to an option, which for one that is too long comes behind its data
abbrev pub answer_to : Export → Bool → PlainOption → List ℕ
answer_to export no_zeroes option = option_answer export no_zeroes (told_of option)

-- the bytes of what goes out at once
abbrev pub answer_encoding : Export → Answer → List ℕ
answer_encoding export answers.Nothing = []
answer_encoding export (answers.Exported no_zeroes) = export_encoding export.size no_zeroes
answer_encoding export (answers.Replied option reply) = option_reply_encoding option reply
answer_encoding export answers.Listed = option_reply_encoding OPTION_LIST Server ++ option_reply_encoding OPTION_LIST Ack
answer_encoding export (answers.Information option block_size) = information export option block_size
answer_encoding export (answers.Done cookie) = encoding (Done cookie [])
answer_encoding export (answers.Refused cookie error) = encoding (Refused cookie error)
