-- Which step of the order it is when a member takes a message, and what is known of that message: lemmas.
use Rattle.std.proofs.Common.{if◌then◌else◌, ◌≡◌, ◌≢◌, inl, inr, ℕ, zero, suc, ◌+◌, ◌-◌, ◌==◌, ◌<◌, ◌≤◌, Bool, true, false, None, Some, List, [], ◌∷◌, ◌++◌, length, refl, sym, ◌∙◌, ap, subst, arith}
use Rattle.std.specs.Prelude.{AllPairs, is_some, slice_get}
use Rattle.std.proofs.lemmas.Bool.{cases_eq, cond-false, cond-true, eq-eqb, ne_eqb}
use Rattle.std.proofs.lemmas.List.{append_assoc}
use Rattle.std.proofs.lemmas.Option.{same_Some}
use Rattle.configurations.specs.Record.{Record}
use Rattle.version_table.specs.declared.kept.Kept.{Kept}
use Rattle.chain_steps.specs.Node.{last_of}
use Rattle.chain_steps.specs.declared.message.Envelope.{Envelope}
use Rattle.world_model.proofs.Counting.{all_at, get_there}
use Rattle.chain_model.proofs.InOrder.{InOrder, number_in_order, quiet_in_order}
use Rattle.chain_model.proofs.Lanes.{numbered_at}
use Rattle.chain_model.specs.Links.{Became, Delivers, Net, Node, Takes, Worked, Works, feed, first_of, hop_at, hops_from, hops_of, is_slot, member_of, stage_of}
use Rattle.chain_model.proofs.LinkSteps.{deliver_shows, down_weaker, feed_nothing, feed_put, stage_turned, takes_shows}
use Rattle.world_model.specs.Order.{AreNumberedFrom}
use Rattle.chain_model.specs.Replicas.{Hop, Message, Now, Old, Past, Put, Replica, Turn, pass_on, puts_of, reach}
use Rattle.chain_model.specs.Placed.{Apart}
use Rattle.chain_model.specs.Turning.{leads, turned_of}
use Rattle.chain_model.proofs.TurningFollow.{puts_are_of_line}
use Rattle.chain_model.specs.TurningLaws.{Quietly}
use Rattle.chain_model.specs.TurningSteps.{Down, IsRunning, applied}
use Rattle.chain_model.proofs.TurningTops.{members_agree}
use Rattle.chain_model.specs.Chain.{ArePlaced}
use Rattle.chain_model.proofs.NetSteps.{Among}
use Rattle.chain_model.proofs.Ordering.{is_node, its_place, near, was_node, within, worked}
use Rattle.chain_model.specs.View.{Member, chain_of, net_of, node_of, slot_of, slots_of}

-- where it was taken
down_gets : (i : ℕ) (taken : Message) (sends : List Message) (was m : Replica) (old new : List Hop) → Down i (Became taken sends was m) old new
    → (h : Hop) × (rest : List Message) × (slice_get old i ≡ Some h) × (h.member ≡ was) × (h.lane ≡ taken ∷ rest)
down_gets zero taken sends was m [] new step = absurd step
down_gets zero taken sends was m (h ∷ hs) new (rest, is, lane, new_is) = (h, rest, refl, is, lane)
down_gets (suc i) taken sends was m [] new step = absurd step
down_gets (suc i) taken sends was m (h ∷ hs) new (more, new_is, step) = down_gets i taken sends was m hs more step

-- a head that was told one of the two records leads
leads_it : (r e : ℕ) (t : Bool) → e ≤ r → r ≤ suc e → leads true (stage_of r e t) ≡ true
leads_it r e t within near = elim (cases_eq e r) [
  | inl now ↦ ap (leads true) (cond-true (e == r) (Now t) (if suc e == r then Old t else Past) (eq-eqb e r now))
  | inr not_now ↦
      let old : suc e ≡ r = omega arith in
      ap (leads true) (cond-false (e == r) (Now t) (if suc e == r then Old t else Past) (ne_eqb e r not_now) ∙ cond-true (suc e == r) (Old t) Past (eq-eqb (suc e) r old))
]

module _ (recorded before : Record) (above : List Member) (m g : Member) (below : List Member) (slots : AllPairs (λ slot other. slot ≢ other) (slots_of (above ++ m ∷ below))) (place : g.node.place ≡ m.node.place)
    (links new_links : ℕ → ℕ → List Envelope) (places : ArePlaced recorded before (above ++ m ∷ below)) (runs : m.node.stopped ≡ None) (front : ℕ) (line : List Kept) where
  abbrev was_net : Net
  was_net = net_of recorded links (above ++ m ∷ below)

  abbrev is_net : Net
  is_net = net_of recorded new_links (above ++ g ∷ below)

  abbrev at : Among recorded links (above ++ m ∷ below) m
  at = its_place recorded before above m g below slots place links new_links places runs

  was_there : was_net.nodes (slot_of m) ≡ node_of m.node
  was_there = was_node recorded before above m g below slots place links new_links places runs

  its_within : (was_net.nodes (slot_of m)).epoch ≤ was_net.epoch
  its_within = within recorded before above m g below slots place links new_links places runs

  its_near : was_net.epoch ≤ suc (was_net.nodes (slot_of m)).epoch
  its_near = near recorded before above m g below slots place links new_links places runs

  its_running : (was_net.nodes (slot_of m)).stopped ≡ false
  its_running = ap (λ (n : Node). n.stopped) was_there ∙ ap is_some runs

  module _ (stands : InOrder front line (hops_of was_net)) where
    pub order_delivers : Delivers was_net is_net (slot_of m) → InOrder front line (hops_of is_net)
    order_delivers step =
        let (i, down) = deliver_shows was_net is_net (slot_of m) at.us at.vs step at.chain at.above_suit at.below_suit its_within its_near its_running in
        quiet_in_order front i line (hops_of was_net) (hops_of is_net) stands down

    -- a second Turn is passed over
    pub order_passes_turn : Takes was_net is_net (slot_of m) Turn [] → node_of g.node ≡ node_of m.node → m.node.turned ≡ true → InOrder front line (hops_of is_net)
    order_passes_turn step same turned =
        let (i, down) = takes_shows was_net is_net (slot_of m) Turn [] at.us at.vs step at.chain at.above_suit at.below_suit its_within its_near in
        quiet_in_order front i line (hops_of was_net) (hops_of is_net) stands (down_weaker _ Quietly over i (hops_of was_net) (hops_of is_net) down)
      where
        member_same : member_of is_net.epoch (is_net.nodes (slot_of m)) ≡ member_of was_net.epoch (was_net.nodes (slot_of m))
        member_same = ap (member_of recorded.epoch) (is_node recorded before above m g below slots place links new_links places runs ∙ same ∙ sym was_there)

        over : (old new : List Hop) → Became Turn [] (member_of was_net.epoch (was_net.nodes (slot_of m))) (member_of is_net.epoch (is_net.nodes (slot_of m))) old new → Quietly old new
        over [] new step = absurd step
        over (h ∷ hs) new (rest, is, lane, new_is) =
            let l : Hop = record h { lane = rest } in
            inl (
              Turn,
              rest,
              ap (λ (r : Replica). r.stopped) is ∙ its_running,
              lane,
              ap (λ (r : Replica). turned_of r.stage) is ∙ stage_turned recorded.epoch (was_net.nodes (slot_of m)).epoch (was_net.nodes (slot_of m)).turned its_within its_near ∙ ap (λ (n : Node). n.turned) was_there ∙ turned,
              new_is ∙ ap (λ (r : Replica). record l { member = r } ∷ feed h.member.stage [] hs) (member_same ∙ sym is) ∙ ap (λ (hs2 : List Hop). l ∷ hs2) (feed_nothing h.member.stage hs),
            )

    -- A Put that it takes is of the line, and at most the next one.
    pub record IsOfPut (p : Kept) : Type 0 where
      pub some : 0 < p.number
      pub there : slice_get line (p.number - 1) ≡ Some p
      pub near_it : p.number ≤ suc (last_of m.node)

    pub put_is : (p : Kept) (sends : List Message) → Takes was_net is_net (slot_of m) (Put p) sends → IsOfPut p
    put_is p sends step =
        let (i, down) = takes_shows was_net is_net (slot_of m) (Put p) sends at.us at.vs step at.chain at.above_suit at.below_suit its_within its_near in
        let (h, rest, found, is, lane) = down_gets i (Put p) sends (member_of was_net.epoch (was_net.nodes (slot_of m))) (member_of is_net.epoch (is_net.nodes (slot_of m))) (hops_of was_net) (hops_of is_net) down in
        let running : IsRunning h = ap (λ (r : Replica). r.stopped) is ∙ its_running in
        let (own, begins, long, has, close) = members_agree front i line (hops_of was_net) h stands.0 found in
        let ((start, more, whole), next) = puts_are_of_line front i line (hops_of was_net) h stands.0 found running in
        let split : start ++ p ∷ (puts_of rest ++ more) ≡ line = sym (append_assoc start (p ∷ puts_of rest) more) ∙ ap (λ ms. (start ++ puts_of ms) ++ more) (sym lane) ∙ whole in
        let number : p.number ≡ 1 + length start = numbered_at 1 start (puts_of rest ++ more) p (subst (AreNumberedFrom 1) (sym split) stands.0.numbered) in
        let same : h.member.table.forgotten + length h.member.table.kept ≡ last_of m.node = ap (λ (r : Replica). r.table.forgotten + length r.table.kept) (is ∙ ap (member_of recorded.epoch) was_there) in
        record {
          some = omega (arith, number);
          there = ap (λ l. slice_get l (p.number - 1)) (sym split) ∙ get_there start p (puts_of rest ++ more) (p.number - 1) (omega (arith, number));
          near_it = omega (arith, same, close p rest running lane);
        }

  -- The head numbers a write.
  module _ (vs : List ℕ) (chain : chain_of recorded ≡ slot_of m ∷ vs) (none : (was_net.nodes (slot_of m)).above ≡ None) where
    -- it stands at the first place
    first_place : (us ys ws : List ℕ) → Apart (us ++ slot_of m ∷ ys) → us ++ slot_of m ∷ ys ≡ slot_of m ∷ ws → us ≡ []
    first_place [] ys ws apart same = refl
    first_place (x ∷ us) ys ws (others, apart) same =
        let here : Some x ≡ Some (slot_of m) = ap first_of same in
        absurd (all_at (λ k. k ≢ x) us (slot_of m) ys others (sym (same_Some x (slot_of m) here)))

    abbrev head_hop : Hop
    head_hop = hop_at was_net None (slot_of m)

    pub order_numbers : (p : Kept) → p.number ≡ suc (last_of m.node) → node_of g.node ≡ record (node_of m.node) { table = record m.node.table { kept = m.node.table.kept ++ p ∷ [] } }
        → Works was_net is_net (slot_of m) (if m.node.turned then Put p ∷ [] else []) → InOrder front line (hops_of was_net) → InOrder front (line ++ p ∷ []) (hops_of is_net)
    order_numbers p next same works stands =
        let sends : List Message = if m.node.turned then Put p ∷ [] else [] in
        let down = worked recorded before above m g below slots place links new_links places runs sends works in
        let here : at.us ≡ [] = first_place at.us at.vs vs (subst Apart at.chain places.apart) (sym at.chain ∙ chain) in
        let first = subst (λ us. Down (length us) (Worked sends (member_of was_net.epoch (was_net.nodes (slot_of m))) (member_of is_net.epoch (is_net.nodes (slot_of m)))) (hops_of was_net) (hops_of is_net)) here down in
        let seen : hops_of was_net ≡ head_hop ∷ hops_from was_net (Some (slot_of m)) vs = ap (hops_from was_net None) chain in
        let (it, new_is) = subst (λ hs. Worked sends (member_of was_net.epoch (was_net.nodes (slot_of m))) (member_of is_net.epoch (is_net.nodes (slot_of m))) hs (hops_of is_net)) seen first in
        let linked : is_slot (was_net.nodes (slot_of m)).above None ≡ true = ap (λ o. is_slot o None) none in
        let turned : turned_of head_hop.member.stage ≡ m.node.turned = stage_turned recorded.epoch (was_net.nodes (slot_of m)).epoch (was_net.nodes (slot_of m)).turned its_within its_near ∙ ap (λ (n : Node). n.turned) was_there in
        let member : member_of is_net.epoch (is_net.nodes (slot_of m)) ≡ applied p head_hop.member =
        ap (member_of recorded.epoch) (is_node recorded before above m g below slots place links new_links places runs ∙ same) ∙ ap (λ (n : Node). applied p (member_of recorded.epoch n)) (sym was_there) in
        let new_hops : hops_of is_net ≡ record head_hop { member = applied p head_hop.member } ∷ pass_on head_hop.member.stage p (hops_from was_net (Some (slot_of m)) vs) =
        new_is ∙ ap (λ (r : Replica). record head_hop { member = r } ∷ feed head_hop.member.stage sends (hops_from was_net (Some (slot_of m)) vs)) member
        ∙ ap (λ t. record head_hop { member = applied p head_hop.member } ∷ feed head_hop.member.stage (if t then Put p ∷ [] else []) (hops_from was_net (Some (slot_of m)) vs)) (sym turned)
        ∙ ap (λ (hs : List Hop). record head_hop { member = applied p head_hop.member } ∷ hs) (feed_put head_hop.member.stage p (hops_from was_net (Some (slot_of m)) vs)) in
        let reach_is : last_of m.node ≡ reach head_hop.member = ap (λ (n : Node). n.table.forgotten + length n.table.kept) (sym was_there) in
        number_in_order front p line (head_hop ∷ hops_from was_net (Some (slot_of m)) vs) (hops_of is_net) (subst (InOrder front line) seen stands) (
          its_running,
          ap (λ b. leads b head_hop.member.stage) linked ∙ leads_it recorded.epoch (was_net.nodes (slot_of m)).epoch (was_net.nodes (slot_of m)).turned its_within its_near,
          next ∙ ap suc reach_is,
          new_hops,
        )
