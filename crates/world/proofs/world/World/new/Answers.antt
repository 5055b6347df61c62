use Rattle.std.proofs.Common.{◌≡◌, ◌*◌, [], length, replicate, ap, ◌∙◌}
use Rattle.world.proofs.BeginningSteps.{begun_joined, begun_shows}
use Rattle.world.proofs.world.World.new.Goals as goal

pub invariant_of-result : goal.invariant_of-result
invariant_of-result g c =
    let none : c.in-Ok.queues.items ≡ replicate (length c.args.chain.members) [] = c.in-Ok.ensures ∙ ap (λ n. replicate n []) c.len.ensures in
    let size : c.size.result ≡ 4096 * c.args.chain.geometry.blocks = c.size.ensures.size ∙ ap (λ geometry. 4096 * geometry.blocks) c.geometry-geometry.ensures in
    rw (c.new-clients.ensures, c.board.ensures) (begun_joined c.args.chain _ c.in-Ok.queues.items none size (ap (λ geometry. geometry.max_payload) c.geometry-geometry.ensures) (ap (λ geometry. geometry.area) c.geometry-geometry.ensures))

pub returns-clause-shows : goal.returns-clause-shows
returns-clause-shows g c = λ v shows has.
    let none : c.in-Ok.queues.items ≡ replicate (length c.args.chain.members) [] = c.in-Ok.ensures ∙ ap (λ n. replicate n []) c.len.ensures in
    rw (c.new-clients.ensures, c.board.ensures) (begun_shows c.args.chain _ c.in-Ok.queues.items none g.S.StoreLike.about g.S.StoreLike.keeps g.S.StoreLike.may_leave_now v shows has)
