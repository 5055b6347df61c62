use Rattle.std.proofs.Common.{arith}
use Rattle.nbd_codec.specs.Request.{IsRequest, request_at, request_view, encoding}
use Rattle.nbd_codec.proofs.FindingLaws.{rest_fits}
use Rattle.nbd_codec.proofs.RequestLaws.{IsField-request}
use Rattle.nbd_codec.proofs.requests.find_request.Goals as goal

pub overflow_sub-result : goal.overflow_sub-result
overflow_sub-result c =
    rest_fits (request_at c.args.max_payload) encoding (IsRequest c.args.max_payload) request_view (IsField-request c.args.max_payload (omega arith))
    c.args.input.now (request_view c.in-Ok.request) c.in-Ok.rest.now (λ i. omega (arith, c.type_inv.input i)) c.in-Ok.ensures
