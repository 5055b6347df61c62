use Rattle.std.proofs.Common.{ap, subst, sym, ◌∙◌, arith}
use Rattle.nbd_codec.specs.declared.findings.Reading.TheVariants.{Value}
use Rattle.nbd_codec.specs.declared.constants.TheConstants.{CLIENT_FLAGS_LEN}
use Rattle.nbd_codec.specs.declared.findings.Reading.{Reading}
use Rattle.nbd_codec.specs.declared.handshake.ClientFlags.{ClientFlags as Flags}
use Rattle.nbd_codec.specs.Findings.{IsFault}
use Rattle.nbd_codec.specs.Handshake.{AreFlags, flags_encoding, flags_at}
use Rattle.nbd_codec.proofs.FindingLaws.{is_found, is_exactly, is_impossible, is_only, is_more}
use Rattle.nbd_codec.proofs.FlagLaws.{IsField-flags, one_fault, own, seen_own, encoding_len}
use Rattle.nbd_codec.proofs.handshake.read_client_flags.Goals as goal

pub returns-clause-found : goal.returns-clause-found
returns-clause-found c =
    is_found flags_at flags_encoding AreFlags own IsField-flags c.args.input.now c.find_flags.result (λ i. omega (arith, c.type_inv.input i)) (seen_own c.find_flags.result ∙ c.find_flags.ensures)

pub returns-clause-within : goal.returns-clause-within
returns-clause-within c =
    is_exactly flags_at flags_encoding AreFlags own IsField-flags CLIENT_FLAGS_LEN (λ flags fits. encoding_len flags) c.args.input.now c.find_flags.result (λ i. omega (arith, c.type_inv.input i)) (seen_own c.find_flags.result ∙ c.find_flags.ensures)

pub returns-clause-only : goal.returns-clause-only
returns-clause-only c = λ flags rest whole.
    sym (seen_own c.find_flags.result) ∙ is_only flags_at flags_encoding AreFlags own IsField-flags c.args.input.now c.find_flags.result flags rest (seen_own c.find_flags.result ∙ c.find_flags.ensures) tt whole ∙ ap (Value flags) (encoding_len flags)

pub returns-clause-more : goal.returns-clause-more
returns-clause-more c =
    is_more flags_at flags_encoding AreFlags own IsField-flags c.args.input.now c.find_flags.result (λ i. omega (arith, c.type_inv.input i)) (seen_own c.find_flags.result ∙ c.find_flags.ensures)

pub returns-clause-fault : goal.returns-clause-fault
returns-clause-fault c =
    let bytes = c.args.input.now in
    let r = c.find_flags.result in
    let w = is_impossible flags_at flags_encoding AreFlags own IsField-flags bytes r (λ i. omega (arith, c.type_inv.input i)) (seen_own r ∙ c.find_flags.ensures) in
    (λ e. w.0 (subst (λ (x : Reading Flags). IsFault x) (sym e) tt), λ h. one_fault bytes r (λ i. omega (arith, c.type_inv.input i)) c.find_flags.ensures (w.1 h))
