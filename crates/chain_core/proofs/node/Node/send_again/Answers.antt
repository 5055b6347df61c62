use Rattle.std.proofs.Common.{◌≡◌, ◌∙◌, [], ◌∷◌, ◌++◌, map, ap, sym}
use Rattle.std.specs.Prelude.{Some}
use Rattle.std.specs.VecDeque.Iter.{deque_iter_rest}
use Rattle.std.proofs.lemmas.List.{append-nil, nil_from_length}
use Rattle.version_table.specs.Held.{applied_of, kept_after}
use Rattle.chain_steps.specs.Node.{last_of}
use Rattle.chain_steps.specs.Place.{successor_of}
use Rattle.chain_steps.specs.Steps.{again, send_all}
use Rattle.chain_steps.specs.declared.message.Message.TheVariants.{Turn}
use Rattle.chain_core.proofs.Again.{again_is, put_as, sent_as}
use Rattle.chain_core.proofs.node.Node.send_again.Goals as goal

pub returns : goal.returns
returns g c =
    let node = c.args.self.now.state in
    let to = c.in-Some.to in
    let epoch = c.epoch-epoch.result in
    let puts = map (put_as to epoch) (kept_after node.table node.known) in
    let none : deque_iter_rest c.loop-kept.kept-iterator ≡ [] = nil_from_length _ c.in-None.ensures.steps.0 in
    let all : c.loop-kept.sent.items ≡ puts =
    sym (append-nil c.loop-kept.sent.items) ∙ ap (λ rest. c.loop-kept.sent.items ++ map (put_as to epoch) rest) (sym none) ∙ c.loop-kept.invariant in
    let last : c.applied-applied.result ≡ last_of node = c.applied-applied.ensures ∙ ap (λ s. applied_of s.state.table) c.self.view_is in
    let there : Some to ≡ successor_of c.args.place.now = sym c.in-Some.is ∙ c.successor.ensures in
    c.in_ok-push-2.ensures.items ∙ ap (λ sent. sent ++ sent_as to epoch (Turn c.applied-applied.result) ∷ []) all ∙ ap (λ n. puts ++ sent_as to epoch (Turn n) ∷ []) last
    ∙ sym (again_is to epoch node) ∙ ap (λ e. send_all (Some to) e (again node)) c.epoch-epoch.ensures ∙ ap (λ o. send_all o c.args.place.now.chain.epoch (again node)) there
