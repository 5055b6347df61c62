use Rattle.std.proofs.Common.{arith}
use Rattle.nbd_codec.specs.ClientOption.{IsOption, option_at, encoding, told_of}
use Rattle.nbd_codec.proofs.OptionLaws.{IsField-option}
use Rattle.nbd_codec.proofs.TellingLaws.{left_fits}
use Rattle.nbd_codec.proofs.options.find_option.Goals as goal

pub overflow_sub-result : goal.overflow_sub-result
overflow_sub-result c =
    left_fits told_of option_at encoding IsOption IsField-option c.args.input.now c.in-Ok.option c.in-Ok.left (λ i. omega (arith, c.type_inv.input i)) c.in-Ok.ensures
