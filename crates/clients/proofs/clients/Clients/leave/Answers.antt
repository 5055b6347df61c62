use Rattle.std.proofs.Common.{◌≡◌, ◌≤◌, ℕ, List, ◌++◌, arith, drop, length, map, take}
use Rattle.std.proofs.lemmas.Grind.{common_steps}
use Rattle.std.proofs.lemmas.List.Edits.{map_over_more}
use Rattle.clients.specs.Calls.{without}
use Rattle.clients.specs.Clients.{Client}
use Rattle.clients.proofs.LeavingSteps.{go_on_without, sessions_without, stay_over_without}
use Rattle.clients.proofs.clients.Clients.leave.Goals as goal

-- what the list has once the loop went through it
gone_through : (f : Client → Client) (cs seen now : List Client) (index len : ℕ) → seen ≡ cs → length seen ≡ len → length now ≡ length seen
    → now ≡ map f (take index seen) ++ drop index seen → length seen ≤ index → take len (now ++ drop (length now) cs) ≡ map f cs
gone_through f cs seen now index len same long kept are past = grind (arith, common_steps)

pub loop-client-preserved : goal.loop-client-preserved
loop-client-preserved c =
    let step = map_over_more (without c.args.place) _ _ _ _ c.loop-client-test.true c.loop-client.invariant c.client-item.is in cc

pub invariant_of-self : goal.invariant_of-self
invariant_of-self c =
    let seen = c.deref_mut-client-items.ensures in
    let gone = gone_through (without c.args.place) _ _ _ _ _ seen.value seen.len c.loop-client.auto.client-items
    c.loop-client.invariant c.loop-client-test.false in
    rw gone (sessions_without c.args.place _ c.self.invariant)

pub returns-clause-stay_over : goal.returns-clause-stay_over
returns-clause-stay_over c =
    let seen = c.deref_mut-client-items.ensures in
    let gone = gone_through (without c.args.place) _ _ _ _ _ seen.value seen.len c.loop-client.auto.client-items
    c.loop-client.invariant c.loop-client-test.false in
    rw (← c.self.view_is, gone) (stay_over_without c.args.place _)

pub returns-clause-lawful : goal.returns-clause-lawful
returns-clause-lawful c =
    let seen = c.deref_mut-client-items.ensures in
    let gone = gone_through (without c.args.place) _ _ _ _ _ seen.value seen.len c.loop-client.auto.client-items
    c.loop-client.invariant c.loop-client-test.false in
    rw (← c.self.view_is, gone) (go_on_without c.feeds_are_lawful.ensures.lawful c.args.place _)
