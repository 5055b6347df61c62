use Rattle.std.proofs.Common.{◌<◌, vec_len}
use Rattle.mail.proofs.mail_room.MailRoom.new.Given as goal

abbrev pub invariant-loop : goal.invariant-loop
invariant-loop l = 0 < vec_len l.all
