-- Causes for which a member stops that a chain has.
use Rattle.std.proofs.Common.{◌≢◌}
use Rattle.disk_model.specs.declared.error.DiskError.{DiskError}
use Rattle.chain_steps.specs.declared.cause.Cause.TheVariants as causes

pub told_is_one : causes.Told ≢ causes.Disorder
told_is_one same = absurd (cc)

pub memory_is_one : causes.Memory ≢ causes.Disorder
memory_is_one same = absurd (cc)

pub device_is_one : (error : DiskError) → causes.Device error ≢ causes.Disorder
device_is_one error same = absurd (cc)

pub last_ticket_is_one : causes.LastTicket ≢ causes.Disorder
last_ticket_is_one same = absurd (cc)
