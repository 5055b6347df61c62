use Rattle.std.proofs.Common.{◌≡◌, false, arith}
use Rattle.nbd_codec.specs.declared.constants.TheConstants.{REQUEST_HEADER, REQUEST_MAGIC}
use Rattle.nbd_codec.specs.declared.findings.Fault.TheVariants.{RequestMagic, PayloadTooLong}
use Rattle.byteorder.specs.Endian.{big_bytes}
use Rattle.nbd_codec.specs.Fields.{agrees}
use Rattle.nbd_codec.specs.Request.{HasLongPayload, IsRequest, request_at, request_view, encoding}
use Rattle.nbd_codec.proofs.FaultLaws.{foreign_request, long_request, request_foreign, request_long}
use Rattle.nbd_codec.proofs.FindingLaws.{is_fault, is_found, is_impossible, is_within, is_only, is_more}
use Rattle.nbd_codec.proofs.PayloadLaws.{payload_range}
use Rattle.nbd_codec.proofs.RequestLaws.{IsField-request, encoding_len}
use Rattle.nbd_codec.proofs.requests.read_request.Goals as goal

pub returns-clause-found : goal.returns-clause-found
returns-clause-found c =
    let max = c.args.max_payload in
    is_found (request_at max) encoding (IsRequest max) request_view (IsField-request max (omega arith)) c.args.input.now c.find_request.result (λ i. omega (arith, c.type_inv.input i)) c.find_request.ensures

pub returns-clause-within : goal.returns-clause-within
returns-clause-within c =
    let max = c.args.max_payload in
    is_within (request_at max) encoding (IsRequest max) request_view (IsField-request max (omega arith)) REQUEST_HEADER (λ request fits. encoding_len request) c.args.input.now c.find_request.result (λ i. omega (arith, c.type_inv.input i)) c.find_request.ensures

pub returns-clause-payload : goal.returns-clause-payload
returns-clause-payload c =
    let max = c.args.max_payload in
    payload_range max c.args.input.now c.find_request.result (is_found (request_at max) encoding (IsRequest max) request_view (IsField-request max (omega arith)) c.args.input.now c.find_request.result (λ i. omega (arith, c.type_inv.input i)) c.find_request.ensures)

pub returns-clause-only : goal.returns-clause-only
returns-clause-only c =
    let max = c.args.max_payload in
    λ request rest fits whole. is_only (request_at max) encoding (IsRequest max) request_view (IsField-request max (omega arith)) c.args.input.now c.find_request.result request rest c.find_request.ensures fits whole

pub returns-clause-more : goal.returns-clause-more
returns-clause-more c =
    let max = c.args.max_payload in
    is_more (request_at max) encoding (IsRequest max) request_view (IsField-request max (omega arith)) c.args.input.now c.find_request.result (λ i. omega (arith, c.type_inv.input i)) c.find_request.ensures

pub returns-clause-fault : goal.returns-clause-fault
returns-clause-fault c =
    let max = c.args.max_payload in
    is_impossible (request_at max) encoding (IsRequest max) request_view (IsField-request max (omega arith)) c.args.input.now c.find_request.result (λ i. omega (arith, c.type_inv.input i)) c.find_request.ensures

pub returns-clause-magic : goal.returns-clause-magic
returns-clause-magic c =
    let max = c.args.max_payload in
    let bytes = c.args.input.now in
    let P : Type 0 = agrees (big_bytes 4 REQUEST_MAGIC) bytes ≡ false in
    is_fault (request_at max) encoding (IsRequest max) request_view (IsField-request max (omega arith)) bytes c.find_request.result RequestMagic P c.find_request.ensures (foreign_request max bytes (λ i. omega (arith, c.type_inv.input i))) (request_foreign max bytes)

pub returns-clause-too_long : goal.returns-clause-too_long
returns-clause-too_long c =
    let max = c.args.max_payload in
    let bytes = c.args.input.now in
    is_fault (request_at max) encoding (IsRequest max) request_view (IsField-request max (omega arith)) bytes c.find_request.result PayloadTooLong (HasLongPayload max bytes) c.find_request.ensures (long_request max bytes (λ i. omega (arith, c.type_inv.input i))) (request_long max bytes)
