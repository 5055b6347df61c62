-- What is to be done for a member.
use Rattle.std.specs.Prelude.{◌≡◌, ◌↔◌, IsTrue, None, []}
use Rattle.std.specs.List.{list_any}
use Rattle.chain_steps.specs.Steps.{CanBegin}
use Rattle.chain_steps.specs.Waiting.{asks_floor, asks_front}
use Rattle.member.specs.Posted.{Posted}
use Rattle.member.specs.declared.due.Due.{Due}

-- a box waits where it isn't empty; the rest is only for a member that runs
pub record IsDue {S : Type 0} (member : Posted S) (due : Due) : Type 0 where
  pub on : IsTrue due.on ↔ ¬ (member.outbox.on ≡ [])
  pub back : IsTrue due.back ↔ ¬ (member.outbox.back ≡ [])
  pub to_head : IsTrue due.to_head ↔ ¬ (member.outbox.to_head ≡ [])
  pub commit : IsTrue due.commit ↔ ((member.node.state.stopped ≡ None) × CanBegin member.node.state)
  pub front : IsTrue due.front ↔ ((member.node.state.stopped ≡ None) × IsTrue (list_any asks_front member.node.state.waiting))
  pub floor : IsTrue due.floor ↔ ((member.node.state.stopped ≡ None) × IsTrue (list_any asks_floor member.node.state.waiting))
