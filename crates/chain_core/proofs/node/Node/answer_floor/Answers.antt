use Rattle.std.proofs.Common.{None, arith, ap, inl, length, subst, sym, ◌≡◌, ◌∙◌, ◌++◌}
use Rattle.std.specs.Prelude.{All, filter, map, not}
use Rattle.std.proofs.lemmas.List.{length-map}
use Rattle.std.proofs.lemmas.List.Elements.{All-filter}
use Rattle.chain_steps.specs.Waiting.{IsOf, is_paid_flush, is_paid_write, reply_to}
use Rattle.chain_core.specs.Node.{IsAskedInside, size_of}
use Rattle.chain_core.proofs.Sound.{both_gone, flushes_stay, sound_idle, sound_waiting}
use Rattle.chain_core.proofs.node.Node.answer_floor.Goals as goal

pub settle-requires-2-clause-of_board : goal.settle-requires-2-clause-of_board
settle-requires-2-clause-of_board g c =
    let board = c.args.floor.now.board in
    let owed : All (IsOf board) c.self.inside.desk = subst (λ b. All (IsOf b) c.self.inside.desk) (sym (c.requires ∙ ap (λ s. s.state.board) (sym c.self.view_is))) c.self.invariant.owed in
    subst (All (IsOf board)) (sym c.settle.ensures.left) (All-filter (λ w. not (is_paid_write c.args.floor.now.front w)) (IsOf board) c.self.inside.desk owed)

pub settle-requires-2-clause-room : goal.settle-requires-2-clause-room
settle-requires-2-clause-room g c =
    let f = c.args.floor.now.front in
    let put : length c.settle.new.served.items ≡ length (filter (is_paid_write f) c.self.inside.desk) =
    ap length c.settle.ensures.answered ∙ ap (λ xs. length (xs ++ map (reply_to None) (filter (is_paid_write f) c.self.inside.desk))) c.in-Ok.ensures.items ∙ length-map (filter (is_paid_write f) c.self.inside.desk) (reply_to None) in
    let left : length (filter (is_paid_flush f) c.settle.new.self) ≡ length (filter (is_paid_flush f) c.self.inside.desk) =
    ap (λ ws. length (filter (is_paid_flush f) ws)) c.settle.ensures.left ∙ ap length (flushes_stay f c.self.inside.desk) in
    omega (arith, put, left, c.settle.ensures.capacity, c.in-Ok.ensures.capacity, c.count_due.ensures.count, c.count_due-2.ensures.count, c.settle.new.served.ok)

pub invariant_of-self : goal.invariant_of-self
invariant_of-self g c =
    let f = c.args.floor.now.front in
    let gone = c.settle-2.ensures.left ∙ ap (filter (λ w. not (is_paid_flush f w))) c.settle.ensures.left in
    rw gone (sound_idle _ _ _ (sound_waiting _ _ _ c.self.invariant (filter (λ w. not (is_paid_flush f w)) (filter (λ w. not (is_paid_write f w)) c.self.inside.desk))
    (All-filter _ (IsOf c.self.inside.board) _ (All-filter _ (IsOf c.self.inside.board) c.self.inside.desk c.self.invariant.owed))
    (All-filter _ (IsAskedInside (size_of (g.S.StoreLike.about c.self.inside.store))) _ (All-filter _ (IsAskedInside (size_of (g.S.StoreLike.about c.self.inside.store))) c.self.inside.desk c.self.invariant.asked))))

pub returns : goal.returns
returns g c =
    let f = c.args.floor.now.front in
    let left = c.settle-2.ensures.left ∙ ap (filter (λ w. not (is_paid_flush f w))) c.settle.ensures.left ∙ both_gone f c.self.inside.desk in
    let told : c.settle-2.new.served.items ≡ map (reply_to None) (filter (is_paid_write f) c.self.inside.desk) ++ map (reply_to None) (filter (is_paid_flush f) c.self.inside.desk) =
    c.settle-2.ensures.answered
    ∙ ap (λ xs. xs ++ map (reply_to None) (filter (is_paid_flush f) c.settle.new.self)) (c.settle.ensures.answered ∙ ap (λ xs. xs ++ map (reply_to None) (filter (is_paid_write f) c.self.inside.desk)) c.in-Ok.ensures.items)
    ∙ ap (λ ws. map (reply_to None) (filter (is_paid_write f) c.self.inside.desk) ++ map (reply_to None) ws) (ap (filter (is_paid_flush f)) c.settle.ensures.left ∙ flushes_stay f c.self.inside.desk) in
    inl (record { node = grind (arith, c.self.view_is, left); sent = grind (arith, c.self.view_is, told, c.new.ensures) })
