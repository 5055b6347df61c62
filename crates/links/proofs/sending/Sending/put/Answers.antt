use Rattle.links.proofs.Moves.{sends}
use Rattle.links.proofs.sending.Sending.put.Goals as goal

pub send_as-requires-clause-rule : goal.send_as-requires-clause-rule
send_as-requires-clause-rule g c = (sends _ _ _ _ c.args.self.now.puts, λ items views h at. tt)
