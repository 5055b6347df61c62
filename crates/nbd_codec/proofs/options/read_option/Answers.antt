use Rattle.std.proofs.Common.{◌≡◌, ◌≤◌, false, length, sym, ap, ◌∙◌, arith}
use Rattle.nbd_codec.specs.declared.constants.TheConstants.{OPTION_HEADER, OPTION_MAGIC}
use Rattle.nbd_codec.specs.declared.findings.Fault.TheVariants.{OptionMagic, ExportName}
use Rattle.byteorder.specs.Endian.{big_bytes}
use Rattle.nbd_codec.specs.Fields.{agrees}
use Rattle.nbd_codec.specs.Findings.{IsImpossible, IsProperPrefix, Takes, seen_by}
use Rattle.nbd_codec.specs.ClientOption.{HasName, IsOption, PlainOption, option_at, option_in, encoding, told_of}
use Rattle.nbd_codec.proofs.FindingLaws.{is_fault, is_found, is_impossible, is_within, is_only, is_more}
use Rattle.nbd_codec.proofs.TellingLaws.{seen_same, told_fault, told_impossible, told_len, told_more, told_value}
use Rattle.nbd_codec.proofs.OptionFaults.{foreign_option, named_option, option_foreign, option_named}
use Rattle.nbd_codec.proofs.OptionLaws.{IsField-option, encoding_len}
use Rattle.nbd_codec.proofs.options.read_option.Goals as goal

-- an option is seen as it is
abbrev own : PlainOption → PlainOption
own x = x

pub returns-clause-found : goal.returns-clause-found
returns-clause-found c =
    let bytes = c.args.input.now in
    let r = option_in bytes in
    rw c.find_option.ensures (told_value told_of r (λ x n. Takes encoding IsOption bytes x n) (is_found option_at encoding IsOption own IsField-option bytes r (λ i. omega (arith, c.type_inv.input i)) (seen_same r)))

pub returns-clause-within : goal.returns-clause-within
returns-clause-within c =
    let bytes = c.args.input.now in
    let r = option_in bytes in
    rw c.find_option.ensures (told_len told_of r (λ n. (OPTION_HEADER ≤ n) × (n ≤ length bytes)) (is_within option_at encoding IsOption own IsField-option OPTION_HEADER (λ option fits. encoding_len option) bytes r (λ i. omega (arith, c.type_inv.input i)) (seen_same r)))

pub returns-clause-only : goal.returns-clause-only
returns-clause-only c = λ option rest fits whole.
    let bytes = c.args.input.now in
    let r = option_in bytes in
    c.find_option.ensures ∙ ap (seen_by told_of) (sym (seen_same r) ∙ is_only option_at encoding IsOption own IsField-option bytes r option rest (seen_same r) fits whole)

pub returns-clause-more : goal.returns-clause-more
returns-clause-more c =
    let bytes = c.args.input.now in
    let r = option_in bytes in
    rw c.find_option.ensures (told_more told_of r (IsProperPrefix encoding IsOption bytes) (is_more option_at encoding IsOption own IsField-option bytes r (λ i. omega (arith, c.type_inv.input i)) (seen_same r)))

pub returns-clause-fault : goal.returns-clause-fault
returns-clause-fault c =
    let bytes = c.args.input.now in
    let r = option_in bytes in
    rw c.find_option.ensures (told_impossible told_of r (IsImpossible encoding IsOption bytes) (is_impossible option_at encoding IsOption own IsField-option bytes r (λ i. omega (arith, c.type_inv.input i)) (seen_same r)))

pub returns-clause-magic : goal.returns-clause-magic
returns-clause-magic c =
    let bytes = c.args.input.now in
    let r = option_in bytes in
    let P : Type 0 = agrees (big_bytes 8 OPTION_MAGIC) bytes ≡ false in
    rw c.find_option.ensures (told_fault told_of r OptionMagic P (is_fault option_at encoding IsOption own IsField-option bytes r OptionMagic P (seen_same r) (foreign_option bytes (λ i. omega (arith, c.type_inv.input i))) (option_foreign bytes)))

pub returns-clause-other_export : goal.returns-clause-other_export
returns-clause-other_export c =
    let bytes = c.args.input.now in
    let r = option_in bytes in
    rw c.find_option.ensures (told_fault told_of r ExportName (HasName bytes) (is_fault option_at encoding IsOption own IsField-option bytes r ExportName (HasName bytes) (seen_same r) (named_option bytes (λ i. omega (arith, c.type_inv.input i))) (option_named bytes)))
