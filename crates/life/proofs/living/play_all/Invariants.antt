use Rattle.std.proofs.Common.{◌≡◌, ◌≤◌, length, take, vec_len, vec_capacity}
use Rattle.std.specs.Prelude.{zip}
use Rattle.life.specs.Aside.{GrowsOutside}
use Rattle.life.specs.Plays.{HasMetStop}
use Rattle.life.proofs.Lives.{GoOnCopied}
use Rattle.life.proofs.Starting.{LeadOnDisks, about_of_store, disk_in, keeps_volume, leaves_now}
use Rattle.life.proofs.living.play_all.Given as goal

abbrev pub invariant-loop-deed : goal.invariant-loop-deed
invariant-loop-deed l = record {
  plays : LeadOnDisks (take l.deed-index l.fn.deeds) l.answers.items l.fn.managed l.managed;
  pass : GoOnCopied about_of_store keeps_volume leaves_now (zip (take l.deed-index l.fn.deeds) l.answers.items) l.fn.managed l.managed;
  runs : HasMetStop disk_in l.managed → ⊥;
  outside : GrowsOutside l.fn.managed l.managed;
  many : length l.answers.items ≡ l.deed-index;
  count : vec_len l.answers ≡ l.deed-index;
  room : length l.fn.deeds ≤ vec_capacity l.answers;
}
