use Rattle.chain_model.proofs.BoardSteps.{raises_front}
use Rattle.chain_model.proofs.HeldSteps.{held_stays, holds_front}
use Rattle.chain_model.proofs.MemberSteps.{answers, keeps_raised, looks_up, pays}
use Rattle.chain_model.proofs.LifeSteps.{knows_raised}
use Rattle.chain_model.proofs.laws.fronts_are_of_one_volume.Goals as goal

pub returns-clause-raises : goal.returns-clause-raises
returns-clause-raises c = raises_front

pub returns-clause-keeps : goal.returns-clause-keeps
returns-clause-keeps c = λ size v above m below front le. keeps_raised size v above m below front le

pub returns-clause-knows : goal.returns-clause-knows
returns-clause-knows c = knows_raised

pub returns-clause-looks : goal.returns-clause-looks
returns-clause-looks c = λ size v above m below front is. looks_up size v above m below front is

pub returns-clause-answers : goal.returns-clause-answers
returns-clause-answers c = λ size v above m below front events runs found applied out. answers size v above m below front found events runs applied out

pub returns-clause-holds : goal.returns-clause-holds
returns-clause-holds c = holds_front

pub returns-clause-held : goal.returns-clause-held
returns-clause-held c = held_stays

pub returns-clause-floors : goal.returns-clause-floors
returns-clause-floors c = λ size v above m below floor events committed reached out. pays size v above m below floor events committed reached out
