use Rattle.life.proofs.Copied.{anyhow, same_copy}
use Rattle.life.proofs.Outside.{outside_stays}
use Rattle.life.proofs.Starting.{about_of_store, keeps_volume, leaves_now}
use Rattle.life.proofs.living.do_deed.Goals as goal

pub returns-in-Step : goal.returns-in-Step
returns-in-Step c = record {
  does = rw c.in-Step.is (c.take_step.ensures.does, c.take_step.ensures.management, c.take_step.ensures.candidate);
  outside = outside_stays c.args.managed.now c.take_step.new.managed c.take_step.ensures.outside;
  outside_stay = λ other. c.take_step.ensures.outside;
  one_volume = rw c.in-Step.is (anyhow about_of_store keeps_volume leaves_now _ _ c.args.managed.now c.take_step.new.managed c.take_step.ensures.one_volume);
  copy = same_copy about_of_store keeps_volume leaves_now c.args.managed.now c.take_step.new.managed c.take_step.ensures.candidate;
}

pub returns-in-Manage : goal.returns-in-Manage
returns-in-Manage c = record { does = rw c.in-Manage.is c.manage.ensures.does; outside = c.manage.ensures.outside; outside_stay = rw c.in-Manage.is c.manage.ensures.outside_stay; one_volume = rw c.in-Manage.is c.manage.ensures.one_volume; copy = c.manage.ensures.copy }

pub returns-in-Arm : goal.returns-in-Arm
returns-in-Arm c = record {
  does = rw c.in-Arm.is (c.arm_member.ensures.does, c.arm_member.ensures.management, c.arm_member.ensures.candidate);
  outside = outside_stays c.args.managed.now c.arm_member.new.managed c.arm_member.ensures.outside;
  outside_stay = λ other. c.arm_member.ensures.outside;
  one_volume = rw c.in-Arm.is (anyhow about_of_store keeps_volume leaves_now _ _ c.args.managed.now c.arm_member.new.managed c.arm_member.ensures.one_volume);
  copy = same_copy about_of_store keeps_volume leaves_now c.args.managed.now c.arm_member.new.managed c.arm_member.ensures.candidate;
}

pub returns-in-ArmConfig : goal.returns-in-ArmConfig
returns-in-ArmConfig c = record {
  does = rw c.in-ArmConfig.is c.arm_config.ensures.does;
  outside = outside_stays c.args.managed.now c.arm_config.new.managed c.arm_config.ensures.outside;
  outside_stay = λ other. c.arm_config.ensures.outside;
  one_volume = rw c.in-ArmConfig.is (anyhow about_of_store keeps_volume leaves_now _ _ c.args.managed.now c.arm_config.new.managed c.arm_config.ensures.one_volume);
  copy = same_copy about_of_store keeps_volume leaves_now c.args.managed.now c.arm_config.new.managed c.arm_config.ensures.does.2.candidate;
}
