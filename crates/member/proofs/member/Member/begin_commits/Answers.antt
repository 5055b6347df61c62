use Rattle.std.proofs.Common.{◌≡◌, Err, List, ℕ, ap, subst}
use Rattle.gate_journal.specs.Image.{Image}
use Rattle.local_store.specs.About.{HasRoom}
use Rattle.chain_steps.specs.Steps.{CanBegin, IsGroup}
use Rattle.chain_core.specs.declared.refusal.Refusal.{Refusal}
use Rattle.chain_core.specs.declared.refusal.Refusal.TheVariants.{Full}
use Rattle.member.specs.Posted.{Posted}
use Rattle.member.proofs.member.Member.begin_commits.Goals as goal

pub returns-in-Err-clause-full : goal.returns-in-Err-clause-full
returns-in-Err-clause-full g c = λ is.
    subst (λ (p : Posted g.row.S.Denot). CanBegin p.node.state × ((volume : List ℕ) (q : ℕ) (images : List Image) → IsGroup (HasRoom (g.S.StoreLike.about p.node.store)) volume c.args.most p.node.state q images → ⊥)) c.self.view_is
    (let full : c.in-Err.refusal ≡ Full = cc in c.in-Err.ensures.full (ap (λ (r : Refusal). Err r) full))
